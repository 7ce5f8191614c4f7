-- Carries: following_prefix, has_three, after_opening, body. On: the parts of a literal that is lent from its source.
use Rattle.std.proofs.Common.{◌≡◌, ℕ, true, false, List, [], ◌∷◌, drop, slice_get, refl, sym, ap, ◌∙◌}
use Rattle.std.specs.Prelude.{◌==◌, ◌&&◌}
use Rattle.pylex_lexeme.specs.Strings.{begins_three}
use Rattle.pytoken.specs.StringValues.{is_quote, without_last, after_opening, body_of}
use Rattle.pytoken.proofs.values.LiteralLemmas.{after_prefix, prefix_more, prefix_stops, prefix_ends}

-- the front of a text is passed, or its prefix ends there

pub goes_on : (t u : List ℕ) (c : ℕ) → t ≡ c ∷ u → is_quote c ≡ false → after_prefix u ≡ after_prefix t
goes_on t u c is other = prefix_more t u c (ap (λ (x : List ℕ). slice_get x 0) is) other (sym (ap (drop 1) is))

pub stops_here : (t u : List ℕ) (c : ℕ) → t ≡ c ∷ u → is_quote c ≡ true → t ≡ after_prefix t
stops_here t u c is quote = sym (prefix_stops t c (ap (λ (x : List ℕ). slice_get x 0) is) quote)

pub stops_at_end : (t : List ℕ) → t ≡ [] → t ≡ after_prefix t
stops_at_end t none = sym (prefix_ends t (ap (λ (x : List ℕ). slice_get x 0) none))

-- whether three equal quotes stand in front, where one or two characters stand there, and where three do

pub one_of_three : (t u : List ℕ) (a : ℕ) → t ≡ a ∷ u → u ≡ [] → begins_three t ≡ false
one_of_three t u a first none = ap begins_three (first ∙ ap (λ (x : List ℕ). a ∷ x) none)

pub two_of_three : (t u v : List ℕ) (a b : ℕ) → t ≡ a ∷ u → u ≡ b ∷ v → v ≡ [] → begins_three t ≡ false
two_of_three t u v a b first second none = ap begins_three (first ∙ ap (λ (x : List ℕ). a ∷ x) (second ∙ ap (λ (x : List ℕ). b ∷ x) none))

pub all_three : (t u v w : List ℕ) (a b c : ℕ) → t ≡ a ∷ u → u ≡ b ∷ v → v ≡ c ∷ w → begins_three t ≡ (is_quote a && (b == a) && (c == a))
all_three t u v w a b c first second third =
    ap begins_three (first ∙ ap (λ (x : List ℕ). a ∷ x) (second ∙ ap (λ (x : List ℕ). b ∷ x) third))

-- what stands after the first quotes, and the body, by how many these are

pub opening_three : (t : List ℕ) → begins_three (after_prefix t) ≡ true → drop 3 (after_prefix t) ≡ after_opening t
opening_three t three = rw three refl

pub opening_one : (t : List ℕ) → begins_three (after_prefix t) ≡ false → drop 1 (after_prefix t) ≡ after_opening t
opening_one t one = rw one refl

pub body_three : (t : List ℕ) → begins_three (after_prefix t) ≡ true → without_last 3 (after_opening t) ≡ body_of t
body_three t three = rw three refl

pub body_one : (t : List ℕ) → begins_three (after_prefix t) ≡ false → without_last 1 (after_opening t) ≡ body_of t
body_one t one = rw one refl
