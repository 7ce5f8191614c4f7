-- Carries: is_wildcard. On: the characters of the wildcard's name.
use Rattle.std.proofs.Common.{◌≡◌, refl, sym, ap, ◌∙◌, ℕ, List, Bool}
use Rattle.std.specs.Bool.{Decides}
use Rattle.std.specs.Str.{chars, encode_utf8_all}
use Rattle.std.specs.Cmp.{both_ways}
use Rattle.pygrammar.specs.PatternOperators.{is_wildcard}
use Rattle.pytree_fits.specs.PatternSlots.{wildcard}
use Rattle.pytree_fits.proofs.Fields.PatternFields.{wildcard_is}

wildcard_chars : chars wildcard ≡ wildcard
unfolding chars
wildcard_chars = refl

wildcard_bytes : encode_utf8_all wildcard ≡ wildcard
unfolding lib.Utf8.encode
wildcard_bytes = refl

pub wildcard_told : (text x : List ℕ) (told : Bool) → chars text ≡ x → text ≡ encode_utf8_all x
    → Decides told (text ≡ wildcard) → told ≡ is_wildcard x
wildcard_told text x told characters bytes decides =
    both_ways told (is_wildcard x) (λ t. ap is_wildcard (sym characters ∙ ap chars (decides.0 t) ∙ wildcard_chars))
    (λ s. decides.1 (bytes ∙ ap encode_utf8_all (wildcard_is x s) ∙ wildcard_bytes))
