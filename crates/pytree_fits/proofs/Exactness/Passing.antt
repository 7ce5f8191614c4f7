-- Carries: the laws by tokens. On: terminals that pass can be said, and tokens may be they: two ways of telling where names and constants
-- may stand.
use Rattle.std.proofs.Common.{◌≡◌, ℕ, zero, suc, ◌^◌, ◌<◌, true, false, not, List, [], ◌∷◌, refl, arith, leb}
use Rattle.std.specs.Prelude.{nat_lt}
use Rattle.std.specs.List.{list_all}
use Rattle.std.specs.Str.{all_scalars}
use Rattle.std.specs.Float.Ieee.{Float, binary64, fits}
use Rattle.std.proofs.lemmas.Bool.{and_parts, and_from, leb-true, ltb-true}
use Rattle.std.proofs.lemmas.Bool.Decides.{nat_tests}
use Rattle.pynumber.specs.Laws.{is_unsigned}
use Rattle.pytree_node.specs.Points.{IsPoint}
use Rattle.pytree_node.specs.Values
use Rattle.pytree_node.specs.declared.profiles.Extent.{Extent}
use Rattle.pytree_node.specs.declared.profiles.Extent.TheVariants.{Plain, Whole}
use Rattle.pytoken.specs.Laws.{is_point, is_byte}
use Rattle.pytoken.specs.Terminals.{Terminal, Ident, Number, Literal, FormattedBegin, FormattedText, FieldBegin}
use Rattle.pygrammar.specs.OpenStrings.{Open, open_following}
use Rattle.pyunparse_text.specs.Pieces.{is_brace}
use Rattle.pyunparse_text.specs.Laws as Written
use Rattle.pyunparse_text.specs.Laws.{may_be_token}
use Rattle.pyunparse_text.proofs.Callers.Said.{is_own, is_field_character, is_field_byte, can_stand, HasWhole, HasDouble, Sayable, Said}
use Rattle.pyunparse_text.proofs.Callers.Said.{none, also, passing}
use Rattle.pyunparse_text.proofs.Callers.Strings.{weaker}
use Rattle.pytree_fits.specs.Tests.{Tests, tests_in, within}
use Rattle.pytree_fits.specs.Literals.{has_integer, has_float, is_bare, is_bare_byte, is_no_brace, is_value}
use Rattle.pytree_fits.specs.Given.{is_number, is_literal, passes, all_pass}
use Rattle.pytree_fits.proofs.Exactness.ProperNames.{proper}

-- ---- Numbers.

whole_has : (extent : Extent) (n : ℕ) → has_integer extent n ≡ true → HasWhole extent n
whole_has Plain n h = ltb-true n (2 ^ 128) h
whole_has Whole n h = ltb-true n _ h

double_has : (extent : Extent) (x : Float) → has_float extent x ≡ true → HasDouble extent x
double_has Plain x h = absurd (cc)
double_has Whole x h = let w = and_parts (fits binary64 x) (is_unsigned x) h in record { held = w.0; unsigned = w.1 }

-- ---- Characters.

bare_own : (c : ℕ) → is_bare c ≡ true → is_own c ≡ true
bare_own c h = grind (arith, nat_tests)

bare_scalar : (c : ℕ) → is_bare c ≡ true → all_scalars (c ∷ []) ≡ true
bare_scalar c h = grind (arith, nat_tests)

bare_character : (c : ℕ) → is_bare c ≡ true → is_field_character c ≡ true
bare_character c h = and_from (is_own c) (all_scalars (c ∷ [])) (bare_own c h) (bare_scalar c h)

bare_byte : (c : ℕ) → is_bare_byte c ≡ true → is_field_byte c ≡ true
bare_byte c h = let w = and_parts (nat_lt c 0x80) (is_bare c) h in and_from (is_own c) (nat_lt c 0x80) (bare_own c w.1) w.0

bare_stands : (c : ℕ) → is_bare c ≡ true → can_stand true false c ≡ true
bare_stands c h = let a = bare_own c h in let b = bare_scalar c h in rw (a, b) refl

-- in a format spec there, no brace
spec_stands : (cs : List ℕ) → list_all is_bare cs ≡ true → list_all is_no_brace cs ≡ true → list_all (can_stand true true) cs ≡ true
spec_stands [] h n = refl
spec_stands (c ∷ cs) h n =
    let w = and_parts (is_bare c) (list_all is_bare cs) h in
    let a = bare_own c w.0 in
    let b = bare_scalar c w.0 in
    let v = and_parts (is_no_brace c) (list_all is_no_brace cs) n in
    let e : not (is_brace c) ≡ true = v.0 in
    let r = spec_stands cs w.1 v.1 in
    rw (a, b, e, r) refl

-- ---- Terminals.

-- at most two f-strings are open
abbrev Shallow : Open → Type 0
Shallow [] = Unit {0}
Shallow (k ∷ []) = Unit {0}
Shallow (k ∷ (m ∷ [])) = Unit {0}
Shallow _ = ⊥

value_said : (extent : Extent) (o : Open) (v : Values.Value) → passes (tests_in extent) o (Literal v) ≡ true → Sayable extent o (Literal v)
value_said extent [] (Values.Str t u) h = passing is_point IsPoint (λ c k. leb-true c 1114111 k) t h
value_said extent (k ∷ []) (Values.Str t u) h = weaker is_bare is_field_character bare_character t h
value_said extent (k ∷ (m ∷ o)) (Values.Str t u) h = absurd (cc)
value_said extent [] (Values.Bytes t) h = passing is_byte (λ b. b < 0x100) (λ b k. ltb-true b 0x100 k) t h
value_said extent (k ∷ []) (Values.Bytes t) h = weaker is_bare_byte is_field_byte bare_byte t h
value_said extent (k ∷ (m ∷ o)) (Values.Bytes t) h = absurd (cc)
value_said extent o _ h = absurd (cc)

number_said : (extent : Extent) (o : Open) (v : Values.Value) → passes (tests_in extent) o (Number v) ≡ true → Sayable extent o (Number v)
number_said extent o (Values.Int n) h = whole_has extent n h
number_said extent o (Values.Float x) h = double_has extent x h
number_said extent o (Values.Imaginary x) h = double_has extent x h
number_said extent o _ h = absurd (cc)

too_many : (n : ℕ) → leb (suc (suc n)) 1 ≡ true → ⊥
too_many n h = let z = leb-true (suc (suc n)) 1 h in omega (arith, z)

begin_said : (extent : Extent) (o : Open) → passes (tests_in extent) o FormattedBegin ≡ true → Sayable extent o FormattedBegin
begin_said Plain o h = absurd (cc)
begin_said Whole [] h = tt
begin_said Whole (k ∷ []) h = tt
begin_said Whole (k ∷ (m ∷ o)) h = absurd (let z = leb-true _ 1 (and_parts true _ h).1 in omega (arith, z))

text_said : (extent : Extent) (k : ℕ) (o : Open) (t : List ℕ) → passes (tests_in extent) (k ∷ o) (FormattedText t) ≡ true
    → Sayable extent (k ∷ o) (FormattedText t)
text_said extent k [] t h = h
text_said extent zero (m ∷ []) t h = weaker is_bare (can_stand true false) bare_stands t h
text_said extent (suc k) (m ∷ []) t h = let w = and_parts (list_all is_bare t) _ h in spec_stands t w.0 w.1
text_said extent zero (m ∷ (n ∷ o)) t h = absurd (cc)
text_said extent (suc k) (m ∷ (n ∷ o)) t h = absurd (cc)

field_said : (extent : Extent) (k : ℕ) (o : Open) (c : _) → passes (tests_in extent) (k ∷ o) (FieldBegin c) ≡ true
    → Sayable extent (k ∷ o) (FieldBegin c)
field_said extent zero o c h = tt
field_said extent (suc zero) o c h = tt
field_said extent (suc (suc k)) o c h = absurd (too_many k h)

terminal_said : (extent : Extent) (o : Open) (t : Terminal) → Shallow o → passes (tests_in extent) o t ≡ true → Sayable extent o t
terminal_said extent o (Ident x) s h = proper x.form h
terminal_said extent o (Number v) s h = number_said extent o v h
terminal_said extent o (Literal v) s h = value_said extent o v h
terminal_said extent o FormattedBegin s h = begin_said extent o h
terminal_said extent [] (FormattedText t) s h = tt
terminal_said extent (k ∷ o) (FormattedText t) s h = text_said extent k o t h
terminal_said extent [] (FieldBegin c) s h = tt
terminal_said extent (k ∷ o) (FieldBegin c) s h = field_said extent k o c h
terminal_said extent [] _ s h = tt
terminal_said extent (k ∷ []) _ s h = tt
terminal_said extent (k ∷ (m ∷ [])) _ s h = tt
terminal_said extent (k ∷ (m ∷ (n ∷ o))) t s h = absurd s

no_third : (extent : Extent) (k m : ℕ) → passes (tests_in extent) (k ∷ (m ∷ [])) FormattedBegin ≡ true → ⊥
no_third Plain k m h = absurd (cc)
no_third Whole k m h = too_many 0 h

shallow_after : (extent : Extent) (o : Open) (t : Terminal) → Shallow o → passes (tests_in extent) o t ≡ true → Shallow (open_following o t)
shallow_after extent [] FormattedBegin s h = tt
shallow_after extent (k ∷ []) FormattedBegin s h = tt
shallow_after extent (k ∷ (m ∷ [])) FormattedBegin s h = absurd (no_third extent k m h)
shallow_after extent [] _ s h = tt
shallow_after extent (k ∷ []) _ s h = tt
shallow_after extent (k ∷ (m ∷ [])) _ s h = tt
shallow_after extent (k ∷ (m ∷ (n ∷ o))) t s h = absurd s

pub passing_said : (extent : Extent) (o : Open) (ts : List Terminal) → Shallow o → all_pass (tests_in extent) o ts ≡ true → Said extent o ts
passing_said extent o [] s h = none
passing_said extent o (t ∷ ts) s h =
    let w = and_parts (passes (tests_in extent) o t) (all_pass (tests_in extent) (open_following o t) ts) h in
    also (terminal_said extent o t s w.0) (passing_said extent (open_following o t) ts (shallow_after extent o t s w.0) w.1)

-- ---- Tokens.

number_may_be : (v : Values.Value) → is_number v ≡ true → Written.is_number v ≡ true
number_may_be (Values.Int n) h = refl
number_may_be (Values.Float x) h = refl
number_may_be (Values.Imaginary x) h = refl
number_may_be _ h = absurd (cc)

literal_may_be : (v : Values.Value) → is_literal v ≡ true → Written.is_string v ≡ true
literal_may_be (Values.Str t u) h = refl
literal_may_be (Values.Bytes t) h = refl
literal_may_be _ h = absurd (cc)

terminal_may_be : (n : Tests) (o : Open) (t : Terminal) → passes n o t ≡ true → may_be_token t ≡ true
terminal_may_be n o (Number v) h = number_may_be v (and_parts (is_number v) (is_value (within o n) v) h).0
terminal_may_be n o (Literal v) h = literal_may_be v (and_parts (is_literal v) (is_value (within o n) v) h).0
terminal_may_be n o _ h = refl

pub passing_may_be : (n : Tests) (o : Open) (ts : List Terminal) → all_pass n o ts ≡ true → list_all may_be_token ts ≡ true
passing_may_be n o [] h = refl
passing_may_be n o (t ∷ ts) h =
    let w = and_parts (passes n o t) (all_pass n (open_following o t) ts) h in
    and_from (may_be_token t) (list_all may_be_token ts) (terminal_may_be n o t w.0) (passing_may_be n (open_following o t) ts w.1)
