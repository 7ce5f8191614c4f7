-- What is known of a source after some of its lines.
use Rattle.std.specs.Prelude.{◌≡◌, ℕ, ◌+◌, Bool, true, false, List, [], ◌∷◌, ◌++◌, length, take, slice_get, Some, None}
use Rattle.pysource.specs.declared.places.Place.{Place}
use Rattle.pylex_listing.specs.Listing.{Source}
use Rattle.pytree_node.specs.declared.profiles.Profile.{Profile}
use Rattle.pytoken.specs.Inner.Following.{following}
use Rattle.pytoken.specs.Tokens.{lines}
use Rattle.pytoken.specs.Tokens as Tokens
use Rattle.pytoken.specs.Refusals.{refusal}
use Rattle.pygrammar.specs.Lines.{Line}
use Rattle.pygrammar.specs.Blocks.{Fault, FirstFault, stands_in_match}
use Rattle.pygrammar.specs.Depths.{count, innermost, is_deep}
use Rattle.pygrammar.specs.Reading.{Fine, run, start}
use Rattle.pygrammar.specs.Refusals.{Indentation, StartsAt, HasForm, Formed, FirstUnread, FirstDeep}
use Rattle.pyparse_block.specs.declared.blocks.Blocks.{Blocks}
use Rattle.pyparse_block.specs.StateOf.{state_of}
use Rattle.pyparse_block.specs.declared.outline.outlines.Outline.{Outline}
use Rattle.pyparse_block.specs.Outlines.{Follows}
use Rattle.pyparse_block.specs.declared.outline.faults.BlockStop.{BlockStop}
use Rattle.pyparse_block.specs.declared.outline.faults.BlockStop.TheVariants as variant
use Rattle.pyparse_block.specs.Faults.{fault_of}
use Rattle.pyparse_tokens.specs.declared.faults.GrammarError.{GrammarError}
use Rattle.pyparse_block.specs.declared.known.Known.{Known}
use Rattle.pyparse_block.specs.declared.known.Known.TheVariants.{Sound, Deep, Faulty, Unread}
use Rattle.pyparse_tokens.specs.LineReadings.{EndsAt}
use Rattle.pyparse_block.specs.Modules.{code_of}

-- ---- The lines so far.

-- the first lines of a source, so many
abbrev pub first_lines : Source → ℕ → List Tokens.Line
first_lines s k = take k (lines s)

-- these are the forms of so many lines; what is kept without their trees, and with them; and no statement stands too deep
pub record IsSound (profile : Profile) (s : Source) (k : ℕ) (forms : List Line) (o : Outline) (b : Blocks) : Type 0 where
  pub formed : Formed profile [] (first_lines s k) forms
  pub follows : Follows forms o
  pub read : run forms start ≡ Fine (state_of b)
  pub low : (n : ℕ) → FirstDeep [] forms n → ⊥

-- these are their forms; what is kept without their trees; and the first that begins a statement too deep starts here
pub record IsDeepAt (profile : Profile) (s : Source) (k : ℕ) (forms : List Line) (o : Outline) (p : Place) : Type 0 where
  pub formed : Formed profile [] (first_lines s k) forms
  pub follows : Follows forms o
  pub n : ℕ
  pub deep : FirstDeep [] forms n
  pub starts : StartsAt s n p

-- these are their forms; and the first that is faulty among the others, whatever follows, starts here
pub record IsFaultyAt (profile : Profile) (s : Source) (k : ℕ) (forms : List Line) (e : GrammarError) (p : Place) : Type 0 where
  pub formed : Formed profile [] (first_lines s k) forms
  pub fault : Fault
  pub code : code_of e ≡ Indentation fault
  pub rest : List Line
  pub first : (more : List Line) → FirstFault [] (forms ++ more) (rest ++ more) fault
  pub n : ℕ
  pub number : n + length rest ≡ length forms
  pub starts : StartsAt s n p

-- the first without a form starts here
pub record IsUnreadAt (profile : Profile) (s : Source) (k : ℕ) (e : GrammarError) (p : Place) : Type 0 where
  pub n : ℕ
  pub first : FirstUnread profile [] (first_lines s k) n (code_of e)
  pub starts : StartsAt s n p

-- what is known of so many lines, and their forms up to the first that has none
abbrev pub IsKnown : Profile → Source → ℕ → List Line → Known → Type 0
IsKnown profile s k forms (Sound o b) = IsSound profile s k forms o b
IsKnown profile s k forms (Deep o p) = IsDeepAt profile s k forms o p
IsKnown profile s k forms (Faulty e p) = IsFaultyAt profile s k forms e p
IsKnown profile s k forms (Unread e p) = IsUnreadAt profile s k e p

-- whether all is sound so far
abbrev pub is_sound : Known → Bool
is_sound (Sound o b) = true
is_sound _ = false

-- whether a line without a form is
abbrev pub is_unread : Known → Bool
is_unread (Unread e p) = true
is_unread _ = false

-- ---- The next line, and the end.

-- after these lines, the nearest first, the line of this number is this one, by its form, and starts here
pub record Comes (profile : Profile) (s : Source) (k : ℕ) (earlier : List Line) (l : Line) (p : Place) : Type 0 where
  pub line : Tokens.Line
  pub stands : slice_get (lines s) k ≡ Some line
  pub level : l.level ≡ line.level
  pub form : HasForm profile (stands_in_match line.level earlier) line l.form
  pub starts : StartsAt s k p

-- the lines are sound; the next one is in what is kept without trees, and not yet in what is kept with them
pub record IsHalfSound (profile : Profile) (s : Source) (k : ℕ) (forms : List Line) (l : Line) (o : Outline) (b : Blocks) : Type 0 where
  pub was : Outline
  pub sound : IsSound profile s k forms was b
  pub follows : (xs : List Line) → Follows xs was → Follows (xs ++ l ∷ []) o × (false ≡ is_deep (innermost l (count [] xs)))

abbrev pub AwaitsBlocks : Profile → Source → ℕ → List Line → Line → Known → Type 0
AwaitsBlocks profile s k forms l (Sound o b) = IsHalfSound profile s k forms l o b
AwaitsBlocks profile s k forms l _ = ⊥

-- once the next line was met, statements are to grow by it, or what is known has it
abbrev pub Meets : Profile → Source → ℕ → List Line → Line → Known → Bool → Type 0
Meets profile s k forms l known true = AwaitsBlocks profile s k forms l known
Meets profile s k forms l known false = IsKnown profile s (k + 1) (forms ++ l ∷ []) known

-- after so many lines a source ends, with ENDMARKER here, and its tokens are not refused
pub record Closes (profile : Profile) (s : Source) (k : ℕ) (p : Place) : Type 0 where
  pub all : k ≡ length (lines s)
  pub clear : refusal profile.extent s ≡ None
  pub ends : EndsAt s p

-- ---- Faults.

-- the error is that of a faulty line
abbrev pub TellsFault : BlockStop → GrammarError → Type 0
TellsFault (variant.Faulty f) e = code_of e ≡ Indentation (fault_of f)
TellsFault variant.Memory e = ⊥

-- what is known becomes that the line which starts here is faulty
abbrev pub Fails : BlockStop → Place → Known → Type 0
Fails stop p known = (e : GrammarError) × TellsFault stop e × (known ≡ Faulty e p)
