-- Carries: the laws of pieces. On: the characters of names are Unicode characters.
use Rattle.std.proofs.Common.{◌≡◌, ℕ, Bool, true, ◌&&◌, ◌||◌, List, [], ◌∷◌, refl, arith, ⊎_elim}
use Rattle.std.specs.Prelude.{nat_lt, nat_le, eqb}
use Rattle.std.specs.List.{list_all}
use Rattle.std.specs.Str.{all_scalars}
use Rattle.std.proofs.Math.Utf8.{scalar, low_scalar}
use Rattle.std.proofs.lemmas.Bool.{and_parts, or_cases, eqb-true}
use Rattle.std.proofs.lemmas.Bool.Decides.{nat_tests}
use Rattle.ucd_table.specs.Rows.{Range, in_ranges}
use Rattle.ucd_derived.specs.XidStartRanges.{xid_start_ranges}
use Rattle.ucd_derived.specs.XidContinueRanges.{xid_continue_ranges}
use Rattle.unicode_ident.specs.Ident.{is_xid_start, is_xid_continue}
use Rattle.pylex_lexeme.specs.Chars.{starts_name}
use Rattle.pylex_lexeme.specs.Lexemes.{is_name}
use Rattle.pyunparse_text.proofs.SingleTokens.Scalars.{high_scalar}

-- a range without surrogates
abbrev is_plain : Range → Bool
is_plain r = nat_lt r.1 0xD800 || (nat_lt 0xDFFF r.0 && nat_le r.1 0x10_FFFF)

one_scalar : (r : Range) (c : ℕ) → is_plain r ≡ true → (nat_le r.0 c && nat_le c r.1) ≡ true → scalar c ≡ true
one_scalar r c p h =
    let w = and_parts (nat_le r.0 c) (nat_le c r.1) h in
    ⊎_elim
    (λ (low : nat_lt r.1 0xD800 ≡ true). low_scalar c (grind (arith, nat_tests)))
    (λ (high : (nat_lt 0xDFFF r.0 && nat_le r.1 0x10_FFFF) ≡ true).
    let v = and_parts (nat_lt 0xDFFF r.0) (nat_le r.1 0x10_FFFF) high in
    high_scalar c (grind (arith, nat_tests)) (grind (arith, nat_tests)))
    (or_cases (nat_lt r.1 0xD800) (nat_lt 0xDFFF r.0 && nat_le r.1 0x10_FFFF) p)

ranges_scalar : (rs : List Range) (c : ℕ) → list_all is_plain rs ≡ true → in_ranges rs c ≡ true → scalar c ≡ true
unfolding in_ranges
ranges_scalar [] c p h = absurd (cc)
ranges_scalar (r ∷ rs) c p h =
    let v = and_parts (is_plain r) (list_all is_plain rs) p in
    ⊎_elim (one_scalar r c v.0) (ranges_scalar rs c v.1) (or_cases (nat_le r.0 c && nat_le c r.1) (in_ranges rs c) h)

continue_scalar : (c : ℕ) → is_xid_continue c ≡ true → scalar c ≡ true
unfolding is_xid_continue xid_continue_ranges
continue_scalar c h = ranges_scalar xid_continue_ranges c refl h

start_scalar : (c : ℕ) → is_xid_start c ≡ true → scalar c ≡ true
unfolding is_xid_start xid_start_ranges
start_scalar c h = ranges_scalar xid_start_ranges c refl h

all_continue : (cs : List ℕ) → list_all is_xid_continue cs ≡ true → all_scalars cs ≡ true
all_continue [] h = refl
all_continue (c ∷ cs) h =
    let v = and_parts (is_xid_continue c) (list_all is_xid_continue cs) h in
    let s = continue_scalar c v.0 in
    rw s (all_continue cs v.1)

pub name_scalars : (t : List ℕ) → is_name t ≡ true → all_scalars t ≡ true
unfolding is_name
name_scalars [] h = absurd (cc)
name_scalars (c ∷ cs) h =
    let v = and_parts (starts_name c) (list_all is_xid_continue cs) h in
    let s : scalar c ≡ true =
    ⊎_elim (start_scalar c) (λ (e : eqb c 95 ≡ true). let f : c ≡ 95 = eqb-true c 95 e in low_scalar c (omega arith))
    (or_cases (is_xid_start c) (eqb c 95) v.0) in
    rw s (all_continue cs v.1)
