-- The values of parts one after the other are those of the parts merged.
--
-- Carries: read_joined, read_spec. On: FormattedStrings, JoinedStates.
use Rattle.std.proofs.Common.{◌≡◌, refl, sym, ap, ◌∙◌, ℕ, List, [], ◌∷◌, ◌++◌, append_assoc, Bool, false}
use Rattle.std.proofs.lemmas.List.{append-nil}
use Rattle.pytree_node.specs.Trees
use Rattle.pytree_node.specs.Trees.{Expr, exprs}
use Rattle.pytree_node.specs.Values
use Rattle.pygrammar.specs.FormattedStrings.{StringPart, Text, Field, with_text, merged, values_of, spec_values_of}
use Rattle.pyparse_nodes.specs.JoinedStates.{State, state, constants, ended, step, steps, gathered}

pub steps_append : (u : Bool) (s : State) (ps qs : List StringPart) → steps u s (ps ++ qs) ≡ steps u (steps u s ps) qs
steps_append u s [] qs = refl
steps_append u s (p ∷ ps) qs = steps_append u (step u s p) ps qs

-- the values as a list, the last text with a kind of its own
abbrev list_by : Bool → Bool → List StringPart → List Expr
list_by u w [] = []
list_by u w (Text t ∷ []) = Trees.Constant (Values.Str t w) ∷ []
list_by u w (Text t ∷ (p ∷ ps)) = Trees.Constant (Values.Str t u) ∷ list_by u w (p ∷ ps)
list_by u w (Field e ∷ ps) = e ∷ list_by u w ps

values_listed : (u : Bool) (ps : List StringPart) → values_of u ps ≡ exprs (list_by u u ps)
values_listed u [] = refl
values_listed u (Text t ∷ []) = refl
values_listed u (Text t ∷ (p ∷ ps)) = ap (λ z. Trees.an_expr (Trees.Constant (Values.Str t u)) z) (values_listed u (p ∷ ps))
values_listed u (Field e ∷ ps) = ap (λ z. Trees.an_expr e z) (values_listed u ps)

spec_listed : (u : Bool) (ps : List StringPart) → spec_values_of u ps ≡ exprs (list_by u false ps)
spec_listed u [] = refl
spec_listed u (Text t ∷ []) = refl
spec_listed u (Text t ∷ (p ∷ ps)) = ap (λ z. Trees.an_expr (Trees.Constant (Values.Str t u)) z) (spec_listed u (p ∷ ps))
spec_listed u (Field e ∷ ps) = ap (λ z. Trees.an_expr e z) (spec_listed u ps)

-- a text in front of others
two_texts : (t s : List ℕ) (ps : List StringPart) → with_text (t ++ s) ps ≡ with_text t (with_text s ps)
two_texts [] s ps = refl
two_texts (c ∷ t) [] ps = ap (λ z. with_text (c ∷ z) ps) (append-nil t)
two_texts (c ∷ t) (d ∷ s) [] = refl
two_texts (c ∷ t) (d ∷ s) (Text x ∷ ps) = ap (λ z. Text (c ∷ z) ∷ ps) (append_assoc t (d ∷ s) x)
two_texts (c ∷ t) (d ∷ s) (Field e ∷ ps) = refl

text_alone : (u w : Bool) (t : List ℕ) → list_by u w (with_text t []) ≡ constants w t
text_alone u w [] = refl
text_alone u w (c ∷ t) = refl

text_in_front : (u w : Bool) (t : List ℕ) (e : Expr) (ps : List StringPart) → list_by u w (with_text t (Field e ∷ ps)) ≡ constants u
    t ++ (e ∷ list_by u w ps)
text_in_front u w [] e ps = refl
text_in_front u w (c ∷ t) e ps = refl

ended_steps : (u w : Bool) (vs : List Expr) (t : List ℕ) (ps : List StringPart) → ended w (steps u (state vs t) ps) ≡ vs ++ list_by u w
    (with_text t (merged ps))
ended_steps u w vs t [] = ap (λ z. vs ++ z) (sym (text_alone u w t))
ended_steps u w vs t (Text s ∷ ps) = ended_steps u w vs (t ++ s) ps ∙ ap (λ z. vs ++ list_by u w z) (two_texts t s (merged ps))
ended_steps u w vs t (Field e ∷ ps) =
    ended_steps u w ((vs ++ constants u t) ++ (e ∷ [])) [] ps
    ∙ append_assoc (vs ++ constants u t) (e ∷ []) (list_by u w (merged ps))
    ∙ append_assoc vs (constants u t) (e ∷ list_by u w (merged ps))
    ∙ ap (λ z. vs ++ z) (sym (text_in_front u w t e (merged ps)))

pub joined_values : (u : Bool) (ps : List StringPart) → exprs (ended u (gathered u ps)) ≡ values_of u (merged ps)
joined_values u ps = ap exprs (ended_steps u u [] [] ps) ∙ sym (values_listed u (merged ps))

pub spec_values : (u : Bool) (ps : List StringPart) → exprs (ended false (gathered u ps)) ≡ spec_values_of u (merged ps)
spec_values u ps = ap exprs (ended_steps u false [] [] ps) ∙ sym (spec_listed u (merged ps))
