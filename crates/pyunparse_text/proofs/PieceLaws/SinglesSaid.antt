-- Tokens that are names, numbers and operators can be said wherever they stand.
--
-- Carries: IsShallow, name_sayable, number_sayable, sign_sayable, scalars_points, for StringsSaid, OfTokens. On: Sayings.
use Rattle.std.proofs.Common.{◌≡◌, ℕ, ◌^◌, ◌<◌, ◌≤◌, Bool, true, false, ◌||◌, List, [], ◌∷◌, Option, Some, None, refl, arith, ⊎_elim}
use Rattle.std.proofs.Common.{if◌then◌else◌}
use Rattle.std.specs.Prelude.{nat_le}
use Rattle.std.specs.List.{list_all}
use Rattle.std.specs.Str.{all_scalars}
use Rattle.std.proofs.Math.Utf8.{scalar, scalar_cases}
use Rattle.std.proofs.lemmas.Bool.{and_parts, leb-false, le-leb}
use Rattle.unicode_normalization.specs.Forms.{nfkc}
use Rattle.pynumber.specs.Readings.{most_digits}
use Rattle.pynumber.specs.FloatValues.{float_value}
use Rattle.pynumber.proofs.Callers.Law.{floats_are_lawful}
use Rattle.pylex_lexeme.specs.declared.kinds.Exact.{Exact}
use Rattle.pylex_lexeme.specs.Operators.{exact_of}
use Rattle.pylex_lexeme.specs.Lexemes.{is_name}
use Rattle.pylex_listing.specs.declared.kind.Kind.TheVariants as kinds
use Rattle.pytree_node.specs.Values
use Rattle.pytree_node.specs.declared.profiles.Extent.{Extent}
use Rattle.pytree_node.specs.declared.profiles.Extent.TheVariants.{Plain, Whole}
use Rattle.pytoken.specs.declared.keywords.Keyword.{Keyword}
use Rattle.pytoken.specs.declared.faults.TokenError.TheVariants.{Float, Complex, IntegerTooLarge}
use Rattle.pytoken.specs.Keywords.{keyword_of}
use Rattle.pytoken.specs.NumberValues.{whole_value, is_complex, is_real, number_value, number_fault, too_large}
use Rattle.pytoken.specs.NameValues.{name_fault}
use Rattle.pytoken.specs.Terminals.{Op, Word, Ident, Layout, terminal_of}
use Rattle.pytoken.specs.Laws.{is_point}
use Rattle.pytoken.proofs.Callers.Said.{names_are_proper}
use Rattle.pygrammar.specs.OpenStrings.{Open}
use Rattle.pyunparse_text.proofs.PieceLaws.Places.{Depth}
use Rattle.pyunparse_text.proofs.PieceLaws.Fair.{IsConstant}
use Rattle.pyunparse_text.proofs.PieceLaws.Sayings.{Sayable}

-- two f-strings are open at most
pub data IsShallow : Open → Type 0 where
  none_open : IsShallow []
  one_open : {k : ℕ} → IsShallow (k ∷ [])
  two_open : {k m : ℕ} → IsShallow (k ∷ (m ∷ []))

-- ---- Numbers.

below : (limit : ℕ) (t : List ℕ) → too_large limit t ≡ None → whole_value t < limit
below limit t h = leb-false limit (whole_value t) (by (nat_le limit (whole_value t)) h)
  where
    by : (b : Bool) → (if b then Some IntegerTooLarge else None) ≡ None → b ≡ false
    by true h = absurd (cc)
    by false h = refl

abbrev value_by : Bool → Bool → List ℕ → Values.Value
value_by a b t = if a then Values.Imaginary (float_value t) else (if b then Values.Float (float_value t) else Values.Int (whole_value t))

pub number_sayable : (extent : Extent) (d : Depth) (t : List ℕ) → number_fault extent t ≡ None
    → IsConstant (record { extent = extent; depth = d }) (number_value t)
unfolding number_fault number_value
number_sayable Plain d t h = in_plain (is_complex t) (is_real t) h
  where
    in_plain : (a b : Bool) → (if a then Some Complex else (if b then Some Float else too_large (2 ^ 128) t)) ≡ None
        → IsConstant (record { extent = Plain; depth = d }) (value_by a b t)
    in_plain true b h = absurd (cc)
    in_plain false true h = absurd (cc)
    in_plain false false h = below (2 ^ 128) t h
number_sayable Whole d t h = in_whole (is_complex t) (is_real t) h
  where
    in_whole : (a b : Bool) → (if a || b then None else too_large (10 ^ most_digits) t) ≡ None
        → IsConstant (record { extent = Whole; depth = d }) (value_by a b t)
    in_whole true b h = floats_are_lawful.values t
    in_whole false true h = floats_are_lawful.values t
    in_whole false false h = below (10 ^ most_digits) t h

-- ---- Names and operators.

word_sayable : (extent : Extent) (o : Open) (w : Keyword) → Sayable extent o (Word w)
word_sayable extent [] w = tt
word_sayable extent (k ∷ []) w = tt
word_sayable extent (k ∷ (m ∷ [])) w = tt
word_sayable extent (k ∷ (m ∷ (n ∷ o))) w = tt

pub name_sayable : (extent : Extent) (o : Open) (t : List ℕ) → is_name t ≡ true → name_fault t ≡ None
    → Sayable extent o (terminal_of kinds.Name t)
unfolding terminal_of
name_sayable extent o t i f = by (keyword_of t) refl
  where
    by : (k : Option Keyword) → keyword_of t ≡ k
        → Sayable extent o (elim k [ Some w ↦ Word w | None ↦ Ident (record { spelling = t; form = nfkc t }) ])
    by (Some w) q = word_sayable extent o w
    by None q = names_are_proper t i q f

pub operator_sayable : (extent : Extent) {o : Open} → IsShallow o → (e : Exact) → Sayable extent o (Op e)
operator_sayable extent none_open e = tt
operator_sayable extent one_open e = tt
operator_sayable extent two_open e = tt

pub layout_sayable : (extent : Extent) {o : Open} → IsShallow o → Sayable extent o Layout
layout_sayable extent none_open = tt
layout_sayable extent one_open = tt
layout_sayable extent two_open = tt

pub sign_sayable : (extent : Extent) {o : Open} → IsShallow o → (t : List ℕ) → Sayable extent o (terminal_of kinds.Op t)
unfolding terminal_of
sign_sayable extent {o} s t = by (exact_of t)
  where
    by : (e : Option Exact) → Sayable extent o (elim e [ Some x ↦ Op x | None ↦ Layout ])
    by (Some x) = operator_sayable extent s x
    by None = layout_sayable extent s

-- ---- Characters.

pub scalar_point : (c : ℕ) → scalar c ≡ true → is_point c ≡ true
scalar_point c h =
    ⊎_elim (λ (low : c < 55296). le-leb c 1114111 (omega arith)) (λ (high : (57344 ≤ c) × (c < 1114112)). le-leb c 1114111
    (omega (arith, high.1)))
    (scalar_cases c h)

pub scalars_points : (t : List ℕ) → all_scalars t ≡ true → list_all is_point t ≡ true
scalars_points [] h = refl
scalars_points (c ∷ t) h =
    let w = and_parts (scalar c) (all_scalars t) h in
    let p = scalar_point c w.0 in
    rw p (scalars_points t w.1)
