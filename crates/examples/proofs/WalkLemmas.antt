-- Appending what a walk finds, part after part.
--
-- Carries: functions. On: nothing.
use Rattle.std.proofs.Common.{◌≡◌, ◌<◌, ◌+◌, ℕ, List, ◌∷◌, ◌++◌, length, get_or, drop, append_assoc, sym, ap, ◌∙◌}
use Rattle.std.proofs.lemmas.List.{append-nil, drop_more, map-append}

pub ruleset appending = (append-nil, append_assoc, map-append)

-- what a loop found, with what is found in the rest of a list, is what it found before one item more
pub one_on : {A R : Type 0} (all : List A → List R) (one : A → List R) → ((x : A) (xs : List A) → all (x ∷ xs) ≡ one x ++ all xs)
    → (xs : List A) {i : ℕ} {x : A} (old : List R) {new whole : List R} → i < length xs → x ≡ get_or xs i x
    → old ++ all (drop i xs) ≡ whole → new ≡ old ++ one x → new ++ all (drop (i + 1) xs) ≡ whole
one_on all one first xs {i} {x} old {new} {whole} lt read before here =
    let rest : all (drop i xs) ≡ one x ++ all (drop (i + 1) xs) =
    ap all (drop_more xs i x lt) ∙ ap (λ y. all (y ∷ drop (i + 1) xs)) (sym read) ∙ first x (drop (i + 1) xs) in
    ap (λ l. l ++ all (drop (i + 1) xs)) here ∙ append_assoc old (one x) (all (drop (i + 1) xs)) ∙ ap (λ l. old ++ l) (sym rest) ∙ before
