-- Where what is written stands: in an extent of the language, and in no field of an f-string, in one, or in a field of an f-string in a
-- field;
-- and which terminals a piece gives there.
--
-- Carries: the laws of pieces. On: nothing here.
use Rattle.std.proofs.Common.{◌≡◌, ℕ, suc, ◌-◌, Bool, true, false, List, [], ◌∷◌, ◌++◌, map, refl, ap, ◌∙◌, Option, Some, None, arith}
use Rattle.std.proofs.Common.{if◌then◌else◌}
use Rattle.pylex_lexeme.specs.declared.kinds.Exact.{Exact}
use Rattle.pylex_lexeme.specs.Operators.{exact_text, is_opener, is_closer}
use Rattle.pylex_lexeme.proofs.Callers.Lexemes.{exact_of_text}
use Rattle.pytree_node.specs.declared.profiles.Extent.{Extent}
use Rattle.pytree_node.specs.declared.profiles.Extent.TheVariants.{Whole}
use Rattle.pylex_listing.specs.declared.kind.Kind.{Kind}
use Rattle.pylex_listing.specs.declared.kind.Kind.TheVariants as kinds
use Rattle.pytoken.specs.FormattedStrings.{is_fstring, is_bulky}
use Rattle.pytoken.specs.Terminals.{Terminal, Op, Gives, terminal_of, terminals_by, nested_expression, single_fault, fault_of, fault_by}
use Rattle.pytoken.specs.Terminals.{field_fault}
use Rattle.pyunparse_text.specs.Spacing.{Piece}
use Rattle.pyunparse_text.specs.Brackets.{open_after}
use Rattle.pyunparse_text.specs.Tokens.{is_opening, is_closing, opens, closes}
use Rattle.pyunparse_text.specs.Pieces.{Sited, sited}
use Rattle.pyunparse_text.proofs.FieldTexts.Conditions.{is_plain_literal}
use Rattle.pyunparse_text.specs.Laws.{GivesAll, Give, give_none, give}

pub data Depth : Type 0 where
  outside : Depth
  in_field : Depth
  in_two : Depth

pub record Place : Type 0 where
  pub extent : Extent
  pub depth : Depth

-- in a field of an f-string there
abbrev pub deeper : Depth → Depth
deeper outside = in_field
deeper _ = in_two

abbrev pub inside : Place → Place
inside place = record { extent = place.extent; depth = deeper place.depth }

abbrev pub is_inside : Depth → Bool
is_inside outside = false
is_inside _ = true

-- pieces as they stand there
abbrev pub at : Depth → List Sited → List Piece
at d ps = map (λ p. p (is_inside d)) ps

-- what may stand there: in a field no literal but one whose characters stand for themselves, in two none
abbrev pub may_stand : Depth → Kind → List ℕ → Bool
may_stand outside k t = true
may_stand in_field k t = elim k [ kinds.String ↦ is_plain_literal t | _ ↦ true ]
may_stand in_two k t = elim k [ kinds.String ↦ false | _ ↦ true ]

abbrev pub stands : Depth → Piece → Bool
stands d p = may_stand d p.kind p.text

pub at_both : (d : Depth) (xs ys : List Sited) → at d (xs ++ ys) ≡ at d xs ++ at d ys
at_both d [] ys = refl
at_both d (x ∷ xs) ys = ap (λ qs. x (is_inside d) ∷ qs) (at_both d xs ys)

-- ---- What a piece gives.

-- in a field
pub record GivesInField (k : Kind) (text : List ℕ) (ts : List Terminal) : Type 0 where
  pub terminals : terminals_by true nested_expression k text ≡ ts
  pub faultless : field_fault k text ≡ None

-- in a field of an f-string in a field
pub record GivesInTwo (k : Kind) (text : List ℕ) (ts : List Terminal) : Type 0 where
  pub terminals : terminal_of k text ∷ [] ≡ ts
  pub faultless : single_fault Whole k text ≡ None

abbrev pub GivesIn : Extent → Depth → Kind → List ℕ → List Terminal → Type 0
GivesIn extent outside k text ts = GivesAll extent k text ts
GivesIn extent in_field k text ts = GivesInField k text ts
GivesIn extent in_two k text ts = GivesInTwo k text ts

abbrev pub GivesAt : Place → Kind → List ℕ → List Terminal → Type 0
GivesAt place k text ts = GivesIn place.extent place.depth k text ts

-- how many brackets are open after terminals
abbrev pub depth_after : ℕ → List Terminal → ℕ
depth_after d [] = d
depth_after d (t ∷ ts) = depth_after (open_after d t) ts

abbrev pub by_text : ℕ → Bool → Bool → ℕ
by_text d true s = suc d
by_text d false true = d - 1
by_text d false false = d

-- terminals open and close as many brackets as a piece
pub record Stands (p : Piece) (ts : List Terminal) : Type 0 where
  pub is : (d : ℕ) → depth_after d ts ≡ by_text d (opens p) (closes p)

-- pieces give terminals one after another
pub data GiveAt (place : Place) : List Piece → List Terminal → Type 0 where
  none_given : GiveAt place [] []
  given : {p : Piece} {ps : List Piece} {ts us : List Terminal} → GivesAt place p.kind p.text ts → Stands p ts → GiveAt place ps us
      → GiveAt place (p ∷ ps) (ts ++ us)

-- outside of fields
abbrev pub open_place : Extent → Place
open_place extent = record { extent = extent; depth = outside }

pub give_outside : {extent : Extent} {ps : List Piece} {ts : List Terminal} → GiveAt (open_place extent) ps ts → Give extent ps ts
give_outside none_given = give_none
give_outside (given g s c) = give g (give_outside c)

-- ---- A token that is one terminal.

pub single_fault_of : (k : Kind) (t : List ℕ) → is_fstring k t ≡ false → fault_of Whole k t ≡ None → single_fault Whole k t ≡ None
unfolding fault_of fault_by
single_fault_of k t s f = rw s at f

pub one_terminal : (place : Place) (k : Kind) (text : List ℕ) (t : Terminal) → Gives k text t
    → (is_inside place.depth ≡ true → is_bulky k text ≡ false)
    → fault_of place.extent k text ≡ None → GivesAt place k text (t ∷ [])
unfolding terminals_by fault_by
one_terminal place k text t g b f = by place.depth b
  where
    by : (d : Depth) → (is_inside d ≡ true → is_bulky k text ≡ false) → GivesIn place.extent d k text (t ∷ [])
    by outside b = let s = g.single in record { terminals = rw s (ap (λ x. x ∷ []) g.terminal); sound = g.sound; faultless = f }
    by in_field b =
        let s = g.single in
        let small = b refl in
        let e = single_fault_of k text s g.sound.faultless in
        record { terminals = rw s (ap (λ x. x ∷ []) g.terminal); faultless = rw (small, s) e }
    by in_two b = record { terminals = ap (λ x. x ∷ []) g.terminal; faultless = single_fault_of k text g.single g.sound.faultless }

-- ---- Brackets.

depth_both : (d : ℕ) (ts us : List Terminal) → depth_after d (ts ++ us) ≡ depth_after (depth_after d ts) us
depth_both d [] us = refl
depth_both d (t ∷ ts) us = depth_both (open_after d t) ts us

-- terminals that close the brackets that they open
pub record Flat (ts : List Terminal) : Type 0 where
  pub is : (d : ℕ) → depth_after d ts ≡ d

pub flat_none : Flat []
flat_none = record { is = λ d. refl }

pub flat_both : {ts us : List Terminal} → Flat ts → Flat us → Flat (ts ++ us)
flat_both {ts} {us} f g = record { is = λ d. depth_both d ts us ∙ (ap (λ n. depth_after n us) (f.is d) ∙ g.is d) }

pub flat_within : {ts : List Terminal} (o s : Exact) → is_opener o ≡ true → is_opener s ≡ false → is_closer s ≡ true → Flat ts
    → Flat (Op o ∷ (ts ++ (Op s ∷ [])))
flat_within {ts} o s i j k f = record {
  is = λ d.
      depth_both (open_after d (Op o)) ts (Op s ∷ []) ∙ (ap (λ n. open_after n (Op s)) (f.is (open_after d (Op o)))
      ∙ rw (i, j, k) (one_less d));
}
  where
    one_less : (d : ℕ) → suc d - 1 ≡ d
    one_less d = omega arith

-- a token stands for its terminal
after_one : (t : Terminal) (b h is_in_field : Bool) (d : ℕ)
    → open_after d t ≡ by_text d (opens (sited t b h is_in_field)) (closes (sited t b h is_in_field))
after_one (Op x) b h i d = rw (opening x, closing x) (both (is_opener x) (is_closer x))
  where
    opening : (x : Exact) → is_opening (exact_text x) ≡ is_opener x
    opening x = ap (λ (o : Option Exact). elim o [ Some e ↦ is_opener e | None ↦ false ]) (exact_of_text x)

    closing : (x : Exact) → is_closing (exact_text x) ≡ is_closer x
    closing x = ap (λ (o : Option Exact). elim o [ Some e ↦ is_closer e | None ↦ false ]) (exact_of_text x)

    both : (o s : Bool) → (if o then suc d else (if s then d - 1 else d)) ≡ by_text d o s
    both true s = refl
    both false true = refl
    both false false = refl
after_one t b h i d = refl

pub stands_one : (t : Terminal) (b h is_in_field : Bool) → Stands (sited t b h is_in_field) (t ∷ [])
stands_one t b h i = record { is = after_one t b h i }

-- one that is no bracket closes what it opens
pub flat_one : (t : Terminal) (b h is_in_field : Bool) → opens (sited t b h is_in_field) ≡ false → closes (sited t b h is_in_field) ≡ false
    → Flat (t ∷ [])
flat_one t b h i o c = record { is = λ d. after_one t b h i d ∙ rw (o, c) refl }

-- a piece that is no bracket stands for terminals that close their brackets
pub stands_flat : {ts : List Terminal} (p : Piece) → opens p ≡ false → closes p ≡ false → Flat ts → Stands p ts
stands_flat p o s f = record { is = λ d. f.is d ∙ rw (o, s) refl }
