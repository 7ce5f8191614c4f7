-- Carries: single_fault, own_fault. On: the fault of a token that is no f-string, by its type, and U+0000 in an f-string.
use Rattle.std.proofs.Common.{◌≡◌, ℕ, true, false, List, refl, sym, ap, ◌∙◌, Option, Some, None}
use Rattle.std.specs.Prelude.{◌==◌}
use Rattle.std.specs.List.{list_any}
use Rattle.std.specs.Option.{option_or}
use Rattle.std.specs.Str.{encode_utf8_all}
use Rattle.pylex_listing.specs.declared.kind.Kind.{Kind}
use Rattle.pylex_listing.specs.declared.kind.Kind.TheVariants as kinds
use Rattle.pytree_node.specs.declared.profiles.Extent.{Extent}
use Rattle.pytoken.specs.declared.faults.TokenError.{TokenError}
use Rattle.pytoken.specs.declared.faults.TokenError.TheVariants.{Nul}
use Rattle.pytoken.specs.NumberValues.{number_fault}
use Rattle.pytoken.specs.StringValues.{string_fault, nul_fault}
use Rattle.pytoken.specs.NameValues.{name_fault}
use Rattle.pytoken.specs.Terminals.{single_fault}

-- the fault of a comment

pub with_nul : (t : List ℕ) → list_any (λ c. c == 0) t ≡ true → nul_fault t ≡ Some Nul
unfolding nul_fault
with_nul t nul = rw nul refl

pub without_nul : (t : List ℕ) → list_any (λ c. c == 0) t ≡ false → nul_fault t ≡ None
unfolding nul_fault
without_nul t none = rw none refl

-- the fault of an f-string whose escapes have none

pub only_nul : (escapes : Option TokenError) (t : List ℕ) → escapes ≡ None → list_any (λ c. c == 0) t ≡ true →
    Some Nul ≡ option_or escapes (nul_fault t)
only_nul escapes t none nul = sym (ap (λ (o : Option TokenError). option_or o (nul_fault t)) none ∙ with_nul t nul)

pub no_own : (escapes : Option TokenError) (t : List ℕ) → escapes ≡ None → list_any (λ c. c == 0) t ≡ false
    → None ≡ option_or escapes (nul_fault t)
no_own escapes t none plain = sym (ap (λ (o : Option TokenError). option_or o (nul_fault t)) none ∙ without_nul t plain)

-- the fault of a token by its type

pub of_name : (extent : Extent) (k : Kind) (t : List ℕ) → k ≡ kinds.Name → name_fault t ≡ single_fault extent k t
unfolding single_fault
of_name extent k t is = rw is refl

pub of_number : (extent : Extent) (k : Kind) (t : List ℕ) → k ≡ kinds.Number
    → number_fault extent (encode_utf8_all t) ≡ single_fault extent k t
unfolding single_fault
of_number extent k t is = rw is refl

pub of_string : (extent : Extent) (k : Kind) (t : List ℕ) → k ≡ kinds.String → string_fault t ≡ single_fault extent k t
unfolding single_fault
of_string extent k t is = rw is refl

pub of_comment : (extent : Extent) (k : Kind) (t : List ℕ) → k ≡ kinds.Comment → nul_fault t ≡ single_fault extent k t
unfolding single_fault
of_comment extent k t is = rw is refl

pub of_other : (extent : Extent) (k : Kind) (t : List ℕ) → (k ≡ kinds.Name → ⊥) → (k ≡ kinds.Number → ⊥) → (k ≡ kinds.String → ⊥)
    → (k ≡ kinds.Comment → ⊥) →
    None ≡ single_fault extent k t
unfolding single_fault
of_other extent kinds.Name t name number string comment = absurd (name refl)
of_other extent kinds.Number t name number string comment = absurd (number refl)
of_other extent kinds.String t name number string comment = absurd (string refl)
of_other extent kinds.Comment t name number string comment = absurd (comment refl)
of_other extent kinds.Encoding t name number string comment = refl
of_other extent kinds.Op t name number string comment = refl
of_other extent kinds.Nl t name number string comment = refl
of_other extent kinds.Newline t name number string comment = refl
of_other extent kinds.Indent t name number string comment = refl
of_other extent kinds.Dedent t name number string comment = refl
of_other extent kinds.EndMarker t name number string comment = refl
