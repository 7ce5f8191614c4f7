-- Bytes that are characters of ASCII of a name.
--
-- Carries: has_byte.
use Rattle.std.proofs.Common.{◌≡◌, ℕ, ◌<◌, true, false, ◌&&◌, ◌||◌, ◌==◌, refl, arith, ⊎_elim, nat_lt}
use Rattle.std.specs.Char.{is_ascii_alphanumeric}
use Rattle.std.proofs.lemmas.Bool.Decides.{nat_tests}
use Rattle.unicode_ident.specs.Ident.{is_xid_continue}
use Rattle.unicode_ident.proofs.IdentLemmas.{is_xid_continue-ascii}
use Rattle.std.proofs.lemmas.Bool.{cases_Bool}

pub name_byte : (b : ℕ) → (is_ascii_alphanumeric b || (b == 95)) ≡ (nat_lt b 128 && is_xid_continue b)
name_byte b =
    ⊎_elim
    (λ (k : nat_lt b 128 ≡ true). let small : b < 128 = grind (arith, nat_tests) in let is =
    is_xid_continue-ascii b small in rw (k, is) refl)
    (λ (k : nat_lt b 128 ≡ false). let none : is_ascii_alphanumeric b ≡ false = grind (arith, nat_tests) in let no : (b == 95) ≡ false =
    grind (arith, nat_tests) in rw (k, none, no) refl)
    (cases_Bool (nat_lt b 128))
