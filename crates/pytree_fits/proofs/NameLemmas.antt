-- Carries: is_name. On: the three tests of a name.
use Rattle.std.proofs.Common.{◌≡◌, ℕ, Bool, true, false, List, refl, ◌∙◌}
use Rattle.std.specs.Prelude.{◌↔◌, Result, Ok, Err, IfOk, IsTrue}
use Rattle.std.proofs.lemmas.Slice.Eq.{bytes_eq-Decides}
use Rattle.std.specs.Cmp.{both_ways}
use Rattle.unicode_normalization.specs.Forms.{Nfkc, nfkc, is_in_form, IsInForm}
use Rattle.pytree_fits.specs.Names.{is_keyword, is_identifier, is_name}

pub no_identifier : (cs : List ℕ) → is_identifier cs ≡ false → is_name cs ≡ false
unfolding is_name
no_identifier cs none = rw none refl

pub a_keyword : (cs : List ℕ) → is_identifier cs ≡ true → is_keyword cs ≡ true → is_name cs ≡ false
unfolding is_name
a_keyword cs identifier keyword = rw (identifier, keyword) refl

by_form : (cs : List ℕ) → is_identifier cs ≡ true → is_keyword cs ≡ false → is_in_form Nfkc cs ≡ is_name cs
unfolding is_name
by_form cs identifier other = rw (identifier, other) refl

-- an identifier that is no keyword is a name where its form passes the test
pub told : {E : Type 0} (r : Result Bool E) (cs : List ℕ) → is_identifier cs ≡ true → is_keyword cs ≡ false
    → IfOk r (λ b. IsTrue b ↔ IsInForm Nfkc cs) → IfOk r (λ b. b ≡ is_name cs)
told (Ok b) cs identifier other by =
    let decides = bytes_eq-Decides (nfkc cs) cs in
    both_ways b (is_in_form Nfkc cs) (λ t. decides.1 (by.0 t)) (λ t. by.1 (decides.0 t)) ∙ by_form cs identifier other
told (Err e) cs identifier other by = by
