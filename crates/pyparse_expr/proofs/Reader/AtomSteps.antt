-- Atoms, by the terminal that they begin with.
--
-- Carries: read_atom. On: Reading, Places.
use Rattle.std.proofs.Common.{◌≡◌, refl, ap, ◌∙◌, ℕ, ◌+◌, List, [], ◌∷◌, Some, None, Result, Err}
use Rattle.pylex_lexeme.specs.declared.kinds.Exact.{Exact}
use Rattle.pylex_lexeme.specs.declared.kinds.Exact.TheVariants.{LPar, LSqb, LBrace, Ellipsis}
use Rattle.pytoken.specs.declared.keywords.Keyword.{Keyword}
use Rattle.pytoken.specs.declared.keywords.Keyword.TheVariants as Key
use Rattle.pytoken.specs.Terminals.{Terminal, Op, Word}
use Rattle.pytoken.specs.declared.values.terminals.Terminal as given
use Rattle.pygrammar.specs.declared.levels.Level.TheVariants as level
use Rattle.pygrammar.specs.Reader.{NoForm, Reads}
use Rattle.pygrammar.specs.Capped.{cap, capped_atom}
use Rattle.pyparse_reads.specs.declared.depth.Depth.{Depth}
use Rattle.pyparse_nodes.specs.declared.found.Read.{Read}
use Rattle.pyparse_nodes.specs.declared.stop.Stop.{Stop}
use Rattle.pyparse_nodes.specs.declared.stop.Stop.TheVariants as stop
use Rattle.pyparse_nodes.specs.Answers.{Answered}
use Rattle.pyparse_reads.specs.Readings.{IsOpen, reads}
use Rattle.pyparse_expr.specs.Inner.Readings.{inner_reads, same_reads}
use Rattle.pyparse_nodes.specs.Views.{seen, first_of}
use Rattle.pyparse_expr.proofs.Reader.Reading.{by_level}
use Rattle.pyparse_nodes.proofs.Callers.Places.{front}

pub atom_here : (ts : List given.Terminal) (d : Depth) (at : ℕ) (t : Terminal) (z : Result Read Stop) → IsOpen d
    → first_of (seen ts at) ≡ Some t
    → Answered ts d.room (at + 1) (cap d.room (capped_atom (same_reads d) (inner_reads d) (t ∷ seen ts (at + 1)))) z
    → Answered ts d.room (at + 1) (reads d level.Atom (seen ts at)) z
atom_here ts d at t z o h a = by_level ts (at + 1) d level.Atom (seen ts at) z o (rw (front ts at t h) a)

nothing : (r : List Terminal) → first_of r ≡ None → r ≡ []
nothing [] h = refl
nothing (t ∷ r) h = absurd (cc)

pub atom_past : (ts : List given.Terminal) (d : Depth) (at : ℕ) → IsOpen d → first_of (seen ts at) ≡ None
    → reads d level.Atom (seen ts at) ≡ NoForm
atom_past ts d at o h = by_level ts 0 d level.Atom (seen ts at) (Err stop.NoForm) o (rw (nothing (seen ts at) h) refl)

other_op_form : (sign : Exact) (room : ℕ) (same inner : Reads) (r : List Terminal) → (sign ≡ LPar → ⊥) → (sign ≡ LSqb → ⊥)
    → (sign ≡ LBrace → ⊥) → (sign ≡ Ellipsis → ⊥) → cap room (capped_atom same inner (Op sign ∷ r)) ≡ NoForm
other_op_form LPar room same inner r a b c e = absurd (a refl)
other_op_form LSqb room same inner r a b c e = absurd (b refl)
other_op_form LBrace room same inner r a b c e = absurd (c refl)
other_op_form Ellipsis room same inner r a b c e = absurd (e refl)
other_op_form _ room same inner r a b c e = refl

other_word_form : (word : Keyword) (room : ℕ) (same inner : Reads) (r : List Terminal) → (word ≡ Key.None → ⊥) → (word ≡ Key.True → ⊥)
    → (word ≡ Key.False → ⊥) → cap room (capped_atom same inner (Word word ∷ r)) ≡ NoForm
other_word_form Key.None room same inner r a b c = absurd (a refl)
other_word_form Key.True room same inner r a b c = absurd (b refl)
other_word_form Key.False room same inner r a b c = absurd (c refl)
other_word_form _ room same inner r a b c = refl

pub other_op : (t : Terminal) (sign : Exact) (room : ℕ) (same inner : Reads) (r : List Terminal) → t ≡ Op sign → (sign ≡ LPar → ⊥)
    → (sign ≡ LSqb → ⊥) → (sign ≡ LBrace → ⊥) → (sign ≡ Ellipsis → ⊥) → cap room (capped_atom same inner (t ∷ r)) ≡ NoForm
other_op t sign room same inner r q a b c e = ap (λ z. cap room (capped_atom same inner (z ∷ r))) q
    ∙ other_op_form sign room same inner r a b c e

pub other_word : (t : Terminal) (word : Keyword) (room : ℕ) (same inner : Reads) (r : List Terminal) → t ≡ Word word → (word ≡ Key.None → ⊥)
    → (word ≡ Key.True → ⊥) → (word ≡ Key.False → ⊥) → cap room (capped_atom same inner (t ∷ r)) ≡ NoForm
other_word t word room same inner r q a b c = ap (λ z. cap room (capped_atom same inner (z ∷ r))) q
    ∙ other_word_form word room same inner r a b c
