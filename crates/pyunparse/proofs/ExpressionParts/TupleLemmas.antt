-- Carries: write_tuple. A tuple is its elements, with the comma after one that stands alone, in
-- brackets where these are needed.
use Rattle.std.proofs.Common.{◌≡◌, ◌∙◌, Bool, true, false, not, ◌&&◌, List, [], ◌∷◌, ◌++◌, refl, ap, sym, append-nil, append_assoc}
use Rattle.pylex_lexeme.specs.declared.kinds.Exact.TheVariants.{Comma}
use Rattle.pytree_node.specs.declared.operators.Context.{Context}
use Rattle.pytree_node.specs.Trees
use Rattle.pytree_node.specs.Trees.{Exprs, no_exprs, an_expr}
use Rattle.pygrammar.specs.declared.levels.Level.{Level}
use Rattle.pygrammar.specs.declared.levels.Level.TheVariants.{Elem, Part}
use Rattle.pyunparse_text.specs.Pieces.{Sited, piece, pieces}
use Rattle.pyunparse_text.specs.Written.{each, element_level, lone_star, separated, some_named, trailing, tuple_level, tuple_of, written}
use Rattle.pyunparse.specs.Inner.Elements.{are_bare, is_alone, is_elem, is_part, last}
use Rattle.pyunparse_text.specs.Folds.{closed, opened, puts}
use Rattle.pyunparse.proofs.Sequences.FoldLemmas.{four}

abbrev comma : Sited
comma = trailing piece Comma

-- one element
single : (k : Level) (b : Bool) (ts : List Sited)
    → opened (not (is_elem k)) ++ (ts ++ (last (not (is_part k && b)) ++ closed (not (is_elem k)))) ≡ tuple_of piece k b (ts ∷ [])
single Elem b ts = ap (λ z. opened false ++ z) (sym (append_assoc ts (comma ∷ []) (closed false)))
single Part true ts = append-nil ts
single Part false ts = refl
single _ b ts = refl

-- more of them
more : (k : Level) (b : Bool) (ts us : List Sited) (tss : List (List Sited)) →
    opened (not (is_elem k)) ++ (separated comma (ts ∷ (us ∷ tss)) ++ ([] ++ closed (not (is_elem k)))) ≡ tuple_of
    piece k b (ts ∷ (us ∷ tss))
more Elem b ts us tss = refl
more Part true ts us tss = append-nil (separated comma (ts ∷ (us ∷ tss)))
more Part false ts us tss = append-nil (separated comma (ts ∷ (us ∷ tss)))
more _ b ts us tss = append-nil (separated comma (ts ∷ (us ∷ tss)))

-- any number of them, written at one level and joined by another
whole : (j k : Level) (es : Exprs) →
    opened (are_bare es j) ++ (separated comma (each piece k es) ++ (last (is_alone es j) ++ closed (are_bare es j))) ≡ tuple_of piece j
    (lone_star es) (each piece k es)
unfolding written
whole j k no_exprs = refl
whole j k (an_expr e no_exprs) = single j (lone_star (an_expr e no_exprs)) (pieces k e)
whole j k (an_expr e (an_expr f es)) = more j (lone_star (an_expr e (an_expr f es))) (pieces k e) (pieces k f) (each piece k es)

pub tuple : {S : Type 0} (after : S → Sited → S) (s : S) (l : Level) (es : Exprs) (c : Context) (j k : Level)
    (bare alone : Bool) (s1 s2 s3 : S) →
    j ≡ tuple_level l (some_named es) → k ≡ element_level l (some_named es) → bare ≡ are_bare es j → alone ≡ is_alone es j →
    s1 ≡ puts after s (opened bare) → s2 ≡ puts after s1 (separated comma (each piece k es)) → s3 ≡ puts after s2 (last alone) →
    puts after s3 (closed bare) ≡ puts after s (pieces l (Trees.Tuple es c))
unfolding written
tuple after s l es c j k bare alone s1 s2 s3 hj hk hb ha e1 e2 e3 =
    four after s (opened bare) (separated comma (each piece k es)) (last alone) (closed bare) s1 s2 s3 e1 e2 e3
    ∙ (λ i. puts after s (opened (hb i) ++ (separated comma (each piece k es) ++ (last (ha i) ++ closed (hb i)))))
    ∙ ap (puts after s) (whole j k es)
    ∙ (λ i. puts after s (tuple_of piece (hj i) (lone_star es) (each piece (hk i) es)))
