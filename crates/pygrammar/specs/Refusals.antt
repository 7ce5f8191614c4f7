-- What is accepted in a version and an extent of Python, and what is refused where. A refusal of the tokens comes first, in the order that
-- `refusal` gives; then the first line
-- without a form, the first faulty line of the blocks, and the first statement that stands too deep.
use Rattle.std.specs.Prelude.{◌≡◌, ℕ, suc, ◌+◌, ◌<◌, ◌≤◌, Bool, true, false, not, ◌&&◌, nat_lt, ◌==◌, cond, List, [], ◌∷◌, ◌++◌, length}
use Rattle.std.specs.Prelude.{Option, Some, None}
use Rattle.std.specs.List.{flat_map}
use Rattle.pysource.specs.declared.places.Place.{Place}
use Rattle.pylex_listing.specs.Listing.{Source}
use Rattle.pytree_node.specs.declared.profiles.Profile.{Profile}
use Rattle.pytree_node.specs.Trees.{Module}
use Rattle.pytree_height.specs.Heights.{statement_height}
use Rattle.pytoken.specs.declared.refusals.Refusal.{Refusal}
use Rattle.pytoken.specs.Tokens.{Token, tokens, lines}
use Rattle.pytoken.specs.Tokens as Tokens
use Rattle.pytoken.specs.Terminals.{Terminal, terminals_of}
use Rattle.pytoken.specs.Refusals.{refusal}
use Rattle.pytoken.specs.MatchHeaders.{is_match}
use Rattle.pygrammar.specs.Lengths.{weight}
use Rattle.pygrammar.specs.Lines.{Line, line, Form, header_form}
use Rattle.pygrammar.specs.Forms.{FormAt, is_whole}
use Rattle.pygrammar.specs.FormHeights.{form_height}
use Rattle.pygrammar.specs.Blocks.{Block, Fault, FirstFault, Kind, ElifLine, ElseLine, ExceptLine, FinallyLine, CaseLine, kind_of}
use Rattle.pygrammar.specs.Blocks.{header_kind, stands_in_match}

-- why a line or ENDMARKER is refused
pub data Code : Type 0 where
  Syntax : Code
  MatchStatement : Code
  Indentation : Fault → Code
  TooDeep : Code

-- why a source is refused: by its tokens, or by the grammar at a place
pub data Reason : Type 0 where
  in_tokens : Refusal → Reason
  at : Place → Code → Reason

-- where the line of this number starts, the first being 0; where there is none, ENDMARKER, the last token
pub data StartsAt (s : Source) (n : ℕ) : Place → Type 0 where
  at_line : (before following : List Tokens.Line) (x : Tokens.Line) (t : Token) (ts : List Token) →
      lines s ≡ before ++ (x ∷ following) → length before ≡ n → x.tokens ≡ t ∷ ts → StartsAt s n t.start
  at_end : (before : List Token) (t : Token) → length (lines s) ≡ n → tokens s ≡ before ++ (t ∷ []) → StartsAt s n t.start

-- ---- Lines and forms.

-- what the grammar reads of a line
abbrev pub terminals : Tokens.Line → List Terminal
terminals x = flat_map (λ t. terminals_of t.kind t.text) x.tokens

-- Each line is asked for its form at its place: whether it stands in a `match`, by the forms of the lines before it. Those are given
-- nearest
-- first.

-- a form whose expressions and patterns are no higher than 500
pub record HasForm (profile : Profile) (inside : Bool) (x : Tokens.Line) (f : Form) : Type 0 where
  pub is : FormAt profile inside (terminals x) f
  pub low : form_height f ≤ 500

-- lines and their forms, after earlier ones
pub data Formed (profile : Profile) : List Line → List Tokens.Line → List Line → Type 0 where
  formed_end : {earlier : List Line} → Formed profile earlier [] []
  formed_line : {earlier : List Line} {x : Tokens.Line} {xs : List Tokens.Line} {f : Form} {ys : List Line} →
      HasForm profile (stands_in_match x.level earlier) x f → Formed profile (line x.level f ∷ earlier) xs ys →
      Formed profile earlier (x ∷ xs) (line x.level f ∷ ys)

abbrev pub HasNone : Profile → Bool → Tokens.Line → Type 0
HasNone profile inside x = (f : Form) → FormAt profile inside (terminals x) f → ⊥

-- a line that looks like the header of a `match`, in the extent that has none
abbrev pub is_left_out : Profile → Tokens.Line → Bool
is_left_out profile x = not (is_whole profile.extent) && is_match x.tokens

-- why a line has no such form; the last is the one free choice: a long line without any form may be too deep
pub data Unread (profile : Profile) (inside : Bool) (x : Tokens.Line) : Code → Type 0 where
  too_high : {f : Form} → FormAt profile inside (terminals x) f → 500 < form_height f → Unread profile inside x TooDeep
  no_match : HasNone profile inside x → is_left_out profile x ≡ true → Unread profile inside x MatchStatement
  no_form : HasNone profile inside x → is_left_out profile x ≡ false → Unread profile inside x Syntax
  too_long : HasNone profile inside x → 500 < weight (terminals x) → Unread profile inside x TooDeep

-- the first such line
pub data FirstUnread (profile : Profile) : List Line → List Tokens.Line → ℕ → Code → Type 0 where
  unread : {earlier : List Line} {x : Tokens.Line} {xs : List Tokens.Line} {c : Code} →
      Unread profile (stands_in_match x.level earlier) x c → FirstUnread profile earlier (x ∷ xs) 0 c
  unread_after : {earlier : List Line} {x : Tokens.Line} {xs : List Tokens.Line} {f : Form} {n : ℕ} {c : Code} →
      HasForm profile (stands_in_match x.level earlier) x f → FirstUnread profile (line x.level f ∷ earlier) xs n c →
      FirstUnread profile earlier (x ∷ xs) (suc n) c

-- ---- Statement heights.

-- how many `elif`s the `if` of a line of this kind has up to the line; the lines before it come nearest first
abbrev pub elifs : Kind → ℕ → List Line → ℕ
elifs k l [] = 0
elifs ElifLine l (x ∷ earlier) = cond (nat_lt l x.level) (elifs ElifLine l earlier)
    (cond (x.level == l) (1 + elifs (kind_of x.form) l earlier) 0)
elifs ElseLine l (x ∷ earlier) = cond (nat_lt l x.level) (elifs ElseLine l earlier)
    (cond (x.level == l) (elifs (kind_of x.form) l earlier) 0)
elifs _ l (x ∷ earlier) = 0

-- how many statements a line's own header is: the header of a case is none
abbrev pub own : Kind → ℕ
own CaseLine = 0
own _ = 1

-- how many statements are around a line of this level: those around its header, the header's own, and its `elif`s
abbrev pub around : ℕ → List Line → ℕ
around l [] = 0
around l (x ∷ earlier) =
    cond (nat_lt x.level l) (around x.level earlier + (elifs (kind_of x.form) x.level earlier + own (kind_of x.form))) (around l earlier)

-- no statement begins in the header of a clause
abbrev pub is_clause : Kind → Bool
is_clause ElseLine = true
is_clause (ExceptLine _) = true
is_clause FinallyLine = true
is_clause CaseLine = true
is_clause _ = false

-- how many statements are around the innermost one that begins in this line, if one does
abbrev pub beginning : Line → List Line → Option ℕ
beginning x earlier = elim x.form [
  | header_form h (Some suite) ↦ Some (around x.level earlier + (elifs (header_kind h) x.level earlier + own (header_kind h)))
  | header_form h None ↦ cond (is_clause (header_kind h)) None (Some (around x.level earlier + elifs (header_kind h) x.level earlier))
  | _ ↦ Some (around x.level earlier)
]

abbrev pub IsDeep : Option ℕ → Type 0
IsDeep None = ⊥
IsDeep (Some n) = 500 ≤ n

-- the first line in which a statement begins that has 500 around it
pub data FirstDeep : List Line → List Line → ℕ → Type 0 where
  deep : {earlier : List Line} {x : Line} {xs : List Line} → IsDeep (beginning x earlier) → FirstDeep earlier (x ∷ xs) 0
  deep_after : {earlier : List Line} {x : Line} {xs : List Line} {n : ℕ} → (IsDeep (beginning x earlier) → ⊥)
      → FirstDeep (x ∷ earlier) xs n → FirstDeep earlier (x ∷ xs) (suc n)

-- ---- The answer.

-- no refusal of the tokens, a form for each line, this module as the forms' tree, and no height above 500
pub record Accepted (profile : Profile) (s : Source) (m : Module) : Type 0 where
  pub clear : refusal profile.extent s ≡ None
  pub forms : List Line
  pub formed : Formed profile [] (lines s) forms
  pub block : Block 0 forms m.body
  pub low : statement_height m ≤ 500

-- the first of the reasons, in their order
pub data Refused (profile : Profile) (s : Source) : Reason → Type 0 where
  by_tokens : {r : Refusal} → refusal profile.extent s ≡ Some r → Refused profile s (in_tokens r)
  by_line : {n : ℕ} {p : Place} {c : Code} → refusal profile.extent s ≡ None → FirstUnread profile [] (lines s) n c → StartsAt s n p
      → Refused profile s (at p c)
  by_block : {forms rest : List Line} {f : Fault} {n : ℕ} {p : Place} →
      refusal profile.extent s ≡ None → Formed profile [] (lines s) forms → FirstFault [] forms rest f
      → n + length rest ≡ length forms → StartsAt s n p →
      Refused profile s (at p (Indentation f))
  by_height : {forms : List Line} {m : Module} {n : ℕ} {p : Place} →
      refusal profile.extent s ≡ None → Formed profile [] (lines s) forms → Block 0 forms m.body → 500 < statement_height m
      → FirstDeep [] forms n → StartsAt s n p →
      Refused profile s (at p TooDeep)
