-- Carries: the laws of pieces. On: what the grammar gives to tokens can be written, outside of f-strings.
use Rattle.std.proofs.Common.{◌≡◌, Bool, true, List, [], Some}
use Rattle.pytree_node.specs.declared.profiles.Extent.{Extent}
use Rattle.pytree_node.specs.Trees.{Expr, Arguments}
use Rattle.pytoken.specs.Terminals.{Terminal}
use Rattle.pygrammar.specs.declared.levels.Level.{Level}
use Rattle.pygrammar.specs.Entries.{Item, Entry}
use Rattle.pygrammar.specs.Arguments.{positional, keywords}
use Rattle.pygrammar.specs.Parameters.{arranged}
use Rattle.pygrammar.specs.Targets.{stored}
use Rattle.pygrammar.specs.Grammar as G
use Rattle.pyunparse_text.proofs.Fewest.Less.{star_place}
use Rattle.pyunparse_text.proofs.PieceLaws.Places.{open_place}
use Rattle.pyunparse_text.proofs.PieceLaws.Sound.{Writable, AreWritable, WritableKeywords, WritableArguments}
use Rattle.pyunparse_text.proofs.PieceLaws.DerivedAt as At
pub use Rattle.pyunparse_text.proofs.PieceLaws.SaidLists.{Said, none, also, front, back, rest, first, following}

module _ (extent : Extent) where
  pub starred : (b : Bool) (e : Expr) → Writable (open_place extent) b e → Writable (open_place extent) true e
  starred = At.starred extent [] (At.within_one extent)

  pub stored_sound : (b : Bool) (t s : Expr) → stored t ≡ Some s → Writable (open_place extent) b t → Writable (open_place extent) b s
  stored_sound = At.stored_sound extent [] (At.within_one extent)

  abbrev pub AllFine : List Entry → Type 0
  AllFine es = At.AllFine extent [] (At.within_one extent) es

  pub positional_sound : (es : List Entry) → AllFine es → AreWritable (open_place extent) true (positional es)
  positional_sound = At.positional_sound extent [] (At.within_one extent)

  pub keywords_sound : (es : List Entry) → AllFine es → WritableKeywords (open_place extent) (keywords es)
  keywords_sound = At.keywords_sound extent [] (At.within_one extent)

  pub arranged_sound : (es : List Entry) (x : Arguments) → arranged es ≡ Some x → AllFine es → WritableArguments (open_place extent) x
  arranged_sound = At.arranged_sound extent [] (At.within_one extent)

  pub sound : {l : Level} {ts : List Terminal} {e : Expr} → G.Derives l ts e → Said extent [] ts
      → Writable (open_place extent) (star_place l) e
  sound p h = At.sound extent [] (At.within_one extent) p h

  pub listing_fine : {i : Item} {ts : List Terminal} {es : List Entry} → G.Listing i ts es → Said extent [] ts → AllFine es
  listing_fine p h = At.listing_fine extent [] (At.within_one extent) p h
