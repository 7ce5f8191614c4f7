-- Arguments that are read one after the other are those of the whole list,
-- and in order where that is.
--
-- Carries: call_step, and what is read by arguments_at. On: Arguments.
use Rattle.std.proofs.Common.{◌≡◌, refl, sym, ap, ◌∙◌, List, [], ◌∷◌, ◌++◌, Some, None, Bool, true, false, not, cond}
use Rattle.pytree_node.specs.declared.operators.Context.TheVariants.{Load}
use Rattle.pytree_node.specs.Trees
use Rattle.pytree_node.specs.Trees.{Expr, Exprs, no_exprs, an_expr, exprs, Keyword, Keywords, no_keyword, a_keyword}
use Rattle.pygrammar.specs.Arguments.{in_order, positional, called}
use Rattle.pygrammar.specs.Arguments as rule
use Rattle.pygrammar.specs.Entries.{Entry, Single, Spread, Doubled, Keyed}
use Rattle.pyparse_expr.specs.Inner.Arguments.{State, state, start, steps, outcome, wrong_in, args_in, keywords_in}

-- lists in front of those of a node
exprs_before : List Expr → Exprs → Exprs
exprs_before [] r = r
exprs_before (e ∷ es) r = an_expr e (exprs_before es r)

keywords_before : List Keyword → Keywords → Keywords
keywords_before [] r = r
keywords_before (k ∷ ks) r = a_keyword k.arg k.value (keywords_before ks r)

exprs_all : (es : List Expr) → exprs_before es no_exprs ≡ exprs es
unfolding exprs_before
exprs_all [] = refl
exprs_all (e ∷ es) = ap (λ r. an_expr e r) (exprs_all es)

keywords_all : (ks : List Keyword) → keywords_before ks no_keyword ≡ Trees.keywords ks
unfolding keywords_before
keywords_all [] = refl
keywords_all (k ∷ ks) = ap (λ r. a_keyword k.arg k.value r) (keywords_all ks)

exprs_snoc : (xs : List Expr) (e : Expr) (r : Exprs) → exprs_before xs (an_expr e r) ≡ exprs_before (xs ++ (e ∷ [])) r
unfolding exprs_before
exprs_snoc [] e r = refl
exprs_snoc (x ∷ xs) e r = ap (λ z. an_expr x z) (exprs_snoc xs e r)

keywords_snoc : (ks : List Keyword) (k : Keyword) (r : Keywords) → keywords_before ks (a_keyword k.arg k.value r) ≡
    keywords_before (ks ++ (k ∷ [])) r
unfolding keywords_before
keywords_snoc [] k r = refl
keywords_snoc (x ∷ ks) k r = ap (λ z. a_keyword x.arg x.value z) (keywords_snoc ks k r)

-- after some that were read
args_after : (k d w : Bool) (xs : List Expr) (ks : List Keyword) (es : List Entry)
    → exprs_before xs (positional es) ≡ exprs (args_in (steps (state k d w xs ks) es))
args_after k d w xs ks [] = exprs_all xs
args_after k d w xs ks (Single e ∷ es) = exprs_snoc xs e (positional es) ∙ args_after _ _ _ (xs ++ (e ∷ [])) ks es
args_after k d w xs ks (Spread e ∷ es) = exprs_snoc xs (Trees.Starred e Load) (positional es)
    ∙ args_after _ _ _ (xs ++ (Trees.Starred e Load ∷ [])) ks es
args_after k d w xs ks (Keyed x e ∷ es) = args_after true d w xs (ks ++ (record { arg = Some x; value = e } ∷ [])) es
args_after k d w xs ks (Doubled e ∷ es) = args_after true true w xs (ks ++ (record { arg = None; value = e } ∷ [])) es
args_after k d w xs ks (_ ∷ es) = args_after k d true xs ks es

keywords_after : (k d w : Bool) (xs : List Expr) (ks : List Keyword) (es : List Entry)
    → keywords_before ks (rule.keywords es) ≡ Trees.keywords (keywords_in (steps (state k d w xs ks) es))
keywords_after k d w xs ks [] = keywords_all ks
keywords_after k d w xs ks (Single e ∷ es) = keywords_after _ _ _ (xs ++ (e ∷ [])) ks es
keywords_after k d w xs ks (Spread e ∷ es) = keywords_after _ _ _ (xs ++ (Trees.Starred e Load ∷ [])) ks es
keywords_after k d w xs ks (Keyed x e ∷ es) = keywords_snoc ks (record { arg = Some x; value = e }) (rule.keywords es)
    ∙ keywords_after true d w xs (ks ++ (record { arg = Some x; value = e } ∷ [])) es
keywords_after k d w xs ks (Doubled e ∷ es) = keywords_snoc ks (record { arg = None; value = e }) (rule.keywords es)
    ∙ keywords_after true true w xs (ks ++ (record { arg = None; value = e } ∷ [])) es
keywords_after k d w xs ks (_ ∷ es) = keywords_after k d true xs ks es

wrong_after : (k d : Bool) (xs : List Expr) (ks : List Keyword) (es : List Entry) → wrong_in (steps (state k d true xs ks) es) ≡ true
wrong_after k d xs ks [] = refl
wrong_after k d xs ks (Single e ∷ es) = wrong_after k d (xs ++ (e ∷ [])) ks es
wrong_after k d xs ks (Spread e ∷ es) = wrong_after k d (xs ++ (Trees.Starred e Load ∷ [])) ks es
wrong_after k d xs ks (Keyed x e ∷ es) = wrong_after true d xs (ks ++ (record { arg = Some x; value = e } ∷ [])) es
wrong_after k d xs ks (Doubled e ∷ es) = wrong_after true true xs (ks ++ (record { arg = None; value = e } ∷ [])) es
wrong_after k d xs ks (_ ∷ es) = wrong_after k d xs ks es

spoilt : (k d : Bool) (xs : List Expr) (ks : List Keyword) (es : List Entry) → false ≡ not (wrong_in (steps (state k d true xs ks) es))
spoilt k d xs ks es = sym (ap (λ w. not w) (wrong_after k d xs ks es))

order_after : (k d : Bool) (xs : List Expr) (ks : List Keyword) (es : List Entry)
    → in_order k d es ≡ not (wrong_in (steps (state k d false xs ks) es))
order_after k d xs ks [] = refl
order_after false d xs ks (Single e ∷ es) = order_after false d (xs ++ (e ∷ [])) ks es
order_after true true xs ks (Single e ∷ es) = spoilt true true (xs ++ (e ∷ [])) ks es
order_after true false xs ks (Single e ∷ es) = spoilt true false (xs ++ (e ∷ [])) ks es
order_after k false xs ks (Spread e ∷ es) = order_after k false (xs ++ (Trees.Starred e Load ∷ [])) ks es
order_after true true xs ks (Spread e ∷ es) = spoilt true true (xs ++ (Trees.Starred e Load ∷ [])) ks es
order_after false true xs ks (Spread e ∷ es) = spoilt false true (xs ++ (Trees.Starred e Load ∷ [])) ks es
order_after k d xs ks (Keyed x e ∷ es) = order_after true d xs (ks ++ (record { arg = Some x; value = e } ∷ [])) es
order_after k d xs ks (Doubled e ∷ es) = order_after true true xs (ks ++ (record { arg = None; value = e } ∷ [])) es
order_after true true xs ks (_ ∷ es) = spoilt true true xs ks es
order_after true false xs ks (_ ∷ es) = spoilt true false xs ks es
order_after false true xs ks (_ ∷ es) = spoilt false true xs ks es
order_after false false xs ks (_ ∷ es) = spoilt false false xs ks es

-- from the first one on
pub order_steps : (es : List Entry) → in_order false false es ≡ not (wrong_in (steps start es))
order_steps es = order_after false false [] [] es

pub args_steps : (es : List Entry) → positional es ≡ exprs (args_in (steps start es))
unfolding exprs_before
args_steps es = args_after false false false [] [] es

pub keywords_steps : (es : List Entry) → rule.keywords es ≡ Trees.keywords (keywords_in (steps start es))
unfolding keywords_before
keywords_steps es = keywords_after false false false [] [] es

outcome_is : (f : Expr) (s : State)
    → cond (not (wrong_in s)) (Some (Trees.Call f (exprs (args_in s)) (Trees.keywords (keywords_in s)))) None ≡ outcome f s
outcome_is f (state k d true xs ks) = refl
outcome_is f (state k d false xs ks) = refl

pub called_steps : (f : Expr) (es : List Entry) → called f es ≡ outcome f (steps start es)
called_steps f es = (λ i. cond (order_steps es i) (Some (Trees.Call f (args_steps es i) (keywords_steps es i))) None)
    ∙ outcome_is f (steps start es)
