-- The characters of a text without its carriage returns, one after another.
--
-- Carries: is_done, first_of_any, front_of_any.
use Rattle.std.proofs.Common.{◌≡◌, ℕ, ◌-◌, ◌≤◌, List, [], ◌∷◌, ◌++◌, length, take, drop, refl, sym, ap, subst, ◌∙◌, arith, append-nil}
use Rattle.std.proofs.Common.{length-append}
use Rattle.std.specs.Prelude.{◌==◌, not}
use Rattle.std.specs.Str.{chars, IsUtf8}
use Rattle.std.specs.Char.{encode_utf8}
use Rattle.std.proofs.lemmas.Bool.{eq-eqb, ne_eqb}
use Rattle.std.proofs.lemmas.List.{take_at, drop_at}
use Rattle.std.proofs.lemmas.List.Elements.{filter-append}
use Rattle.std.proofs.lemmas.Str.{chars-nil, chars-append, chars_past_char, IsUtf8-drop, IsCharBoundary-from_take}
use Rattle.pytoken.proofs.Callers.TextLemmas.{past, no_chars}
use Rattle.pytoken.specs.StringValues.{with_line_feeds, without_last}

pub skipped : (bs rest : List ℕ) (c : ℕ) → IsUtf8 bs → bs ≡ encode_utf8 c ++ rest → c ≡ 13
    → with_line_feeds (chars bs) ≡ with_line_feeds (chars rest)
skipped bs rest c utf8 e is = let step = past bs rest c utf8 e in let test = eq-eqb c 13 is in ap with_line_feeds step.same ∙ (rw test refl)

pub kept : (bs rest : List ℕ) (c : ℕ) → IsUtf8 bs → bs ≡ encode_utf8 c ++ rest → (c ≡ 13 → ⊥) →
    with_line_feeds (chars bs) ≡ c ∷ with_line_feeds (chars rest)
kept bs rest c utf8 e other = let step = past bs rest c utf8 e in let test = ne_eqb c 13 other in
    ap with_line_feeds step.same ∙ (rw test refl)

pub nothing_left : (bs : List ℕ) → length bs ≡ 0 → with_line_feeds (chars bs) ≡ []
nothing_left bs e = ap with_line_feeds (no_chars bs e)

pub nothing : with_line_feeds (chars []) ≡ []
nothing = ap with_line_feeds chars-nil

-- from the end

last_is_text : (bs front : List ℕ) (c : ℕ) → IsUtf8 bs → IsUtf8 front → bs ≡ front ++ encode_utf8 c → IsUtf8 (encode_utf8 c)
last_is_text bs front c utf8 before e =
    let short : length front ≤ length bs = omega (arith, ap length e, length-append front (encode_utf8 c)) in
    let cut : take (length front) bs ≡ front = ap (take (length front)) e ∙ take_at front (encode_utf8 c) (length front) refl in
    let rest : drop (length front) bs ≡ encode_utf8 c = ap (drop (length front)) e ∙ drop_at front (encode_utf8 c) (length front) refl in
    let place = IsCharBoundary-from_take bs (length front) utf8 short (subst IsUtf8 (sym cut) before) in
    subst IsUtf8 rest (IsUtf8-drop bs (length front) utf8 place)

at_end : (bs front : List ℕ) (c : ℕ) → IsUtf8 bs → IsUtf8 front → bs ≡ front ++ encode_utf8 c → chars bs ≡ chars front ++ c ∷ []
at_end bs front c utf8 before e =
    ap chars e ∙ chars-append front (encode_utf8 c) before
    ∙ ap (λ (t : List ℕ). chars front ++ t) (chars_past_char (encode_utf8 c) [] c (last_is_text bs front c utf8 before e)
    (sym (append-nil (encode_utf8 c))) ∙ ap (λ (t : List ℕ). c ∷ t) chars-nil)

pub last_skipped : (bs front : List ℕ) (c : ℕ) → IsUtf8 bs → IsUtf8 front → bs ≡ front ++ encode_utf8 c → c ≡ 13 →
    with_line_feeds (chars bs) ≡ with_line_feeds (chars front)
last_skipped bs front c utf8 before e is =
    let test = eq-eqb c 13 is in
    ap with_line_feeds (at_end bs front c utf8 before e) ∙ filter-append (λ x. not (x == 13)) (chars front) (c ∷ [])
    ∙ (rw test (append-nil (with_line_feeds (chars front))))

pub last_taken : (bs front : List ℕ) (c : ℕ) → IsUtf8 bs → IsUtf8 front → bs ≡ front ++ encode_utf8 c → (c ≡ 13 → ⊥) →
    with_line_feeds (chars front) ≡ without_last 1 (with_line_feeds (chars bs))
last_taken bs front c utf8 before e other =
    let test = ne_eqb c 13 other in
    let f = with_line_feeds (chars front) in
    let whole : with_line_feeds (chars bs) ≡ f ++ c ∷ [] = ap with_line_feeds (at_end bs front c utf8 before e)
    ∙ filter-append (λ x. not (x == 13)) (chars front) (c ∷ []) ∙ (rw test refl) in
    let size : length f ≡ length (f ++ c ∷ []) - 1 = omega (arith, length-append f (c ∷ [])) in
    sym (ap (without_last 1) whole ∙ take_at f (c ∷ []) (length (f ++ c ∷ []) - 1) size)

-- nothing stands before the end of nothing
pub nothing_before : (bs : List ℕ) → length bs ≡ 0 → with_line_feeds (chars bs) ≡ without_last 1 (with_line_feeds (chars bs))
nothing_before bs e = let none = nothing_left bs e in rw none refl

-- a text without its last character
pub text_before_last : (bs front : List ℕ) (c : ℕ) → IsUtf8 bs → IsUtf8 front → bs ≡ front ++ encode_utf8 c
    → chars front ≡ without_last 1 (chars bs)
text_before_last bs front c utf8 before e =
    let f = chars front in
    let whole : chars bs ≡ f ++ c ∷ [] = at_end bs front c utf8 before e in
    let size : length f ≡ length (f ++ c ∷ []) - 1 = omega (arith, length-append f (c ∷ [])) in
    sym (ap (without_last 1) whole ∙ take_at f (c ∷ []) (length (f ++ c ∷ []) - 1) size)
