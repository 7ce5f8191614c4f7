-- The places of a row, part by part, are those of the whole row.
--
-- Carries: read_parts, with_part, more_literals, make_joined. On: Rows.
use Rattle.std.proofs.Common.{◌≡◌, refl, sym, ap, ◌∙◌, ℕ, List, [], ◌∷◌, ◌++◌, append_assoc}
use Rattle.std.proofs.lemmas.List.{append-nil}
use Rattle.pygrammar.specs.FormattedStrings.{StringPart, Text, Field, with_text, merged}
use Rattle.pytree_node.specs.Trees.{Expr}
use Rattle.pyplaces.specs.Stretches.{Stretch}
use Rattle.pyplaces.specs.ExpressionPlaces.{string_places}
use Rattle.pyplaces.specs.Rows.{text_places, RowSoFar, row_start, row_text, row_field}

-- a text in front of a text
two_texts : (t s : List ℕ) (ps : List StringPart) → with_text t (with_text s ps) ≡ with_text (t ++ s) ps
two_texts [] s ps = refl
two_texts (c ∷ t) [] [] = ap (λ z. Text (c ∷ z) ∷ []) (sym (append-nil t))
two_texts (c ∷ t) [] (Text u ∷ ps) = ap (λ z. Text (c ∷ (z ++ u)) ∷ ps) (sym (append-nil t))
two_texts (c ∷ t) [] (Field e ∷ ps) = ap (λ z. Text (c ∷ z) ∷ (Field e ∷ ps)) (sym (append-nil t))
two_texts (c ∷ t) (d ∷ s) [] = refl
two_texts (c ∷ t) (d ∷ s) (Text u ∷ ps) = ap (λ z. Text (c ∷ z) ∷ ps) (sym (append_assoc t (d ∷ s) u))
two_texts (c ∷ t) (d ∷ s) (Field e ∷ ps) = refl

-- a text in front of a field, and at the row's end
before_field : (row : Stretch) (t : List ℕ) (e : Expr) (ps : List StringPart) (f : List Stretch) (fs : List (List Stretch))
    → string_places row (with_text t (Field e ∷ ps)) (f ∷ fs) ≡ text_places row t ++ (f ++ (row ∷ string_places row ps fs))
before_field row [] e ps f fs = refl
before_field row (c ∷ t) e ps f fs = refl

at_end : (row : Stretch) (t : List ℕ) → string_places row (with_text t []) [] ≡ text_places row t
at_end row [] = refl
at_end row (c ∷ t) = refl

following : (ds xs f zs : List Stretch) (row : Stretch) → ds ++ (xs ++ (f ++ (row ∷ zs))) ≡ ((ds ++ xs) ++ (f ++ (row ∷ []))) ++ zs
following ds xs f zs row = simp append_assoc refl

-- with what follows
row_with : {row : Stretch} {ss : List StringPart} {fs : List (List Stretch)} {t : List ℕ} {ds : List Stretch} → RowSoFar row ss fs t ds
    → (ts : List StringPart) (gs : List (List Stretch))
    → string_places row (merged (ss ++ ts)) (fs ++ gs) ≡ ds ++ string_places row (with_text t (merged ts)) gs
row_with row_start ts gs = refl
row_with {row} {fs = fs} (row_text {ss = ss} {t = t} {ds = ds} s r) ts gs =
    ap (λ z. string_places row (merged z) (fs ++ gs)) (append_assoc ss (Text s ∷ []) ts)
    ∙ (row_with r (Text s ∷ ts) gs ∙ ap (λ z. ds ++ string_places row z gs) (two_texts t s (merged ts)))
row_with {row} (row_field {ss = ss} {fs = fs} {t = t} {ds = ds} e f r) ts gs =
    ap (λ z. string_places row (merged z) ((fs ++ (f ∷ [])) ++ gs)) (append_assoc ss (Field e ∷ []) ts)
    ∙ (ap (λ z. string_places row (merged (ss ++ (Field e ∷ ts))) z) (append_assoc fs (f ∷ []) gs)
    ∙ (row_with r (Field e ∷ ts) (f ∷ gs) ∙ (ap (λ z. ds ++ z) (before_field row t e (merged ts) f gs)
    ∙ following ds (text_places row t) f (string_places row (merged ts) gs) row)))

pub row_end : {row : Stretch} {ss : List StringPart} {fs : List (List Stretch)} {t : List ℕ} {ds : List Stretch} → RowSoFar row ss fs t ds
    → string_places row (merged ss) fs ≡ ds ++ text_places row t
row_end {row} {ss} {fs} {t} {ds} r =
    ap (λ z. string_places row (merged z) fs) (sym (append-nil ss))
    ∙ (ap (λ z. string_places row (merged (ss ++ [])) z) (sym (append-nil fs))
    ∙ (row_with r [] [] ∙ ap (λ z. ds ++ z) (at_end row t)))
