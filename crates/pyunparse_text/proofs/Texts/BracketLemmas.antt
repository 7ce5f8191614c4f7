-- Carries: need_brackets, is_bare_tuple. Which parts of a line have brackets.
use Rattle.std.proofs.Common.{◌≡◌, ◌∙◌, ℕ, suc, ◌==◌, Bool, true, false, not, ◌&&◌, List, [], ◌∷◌, Option, None, Some, length, get_or, map}
use Rattle.std.proofs.Common.{refl, ap}
use Rattle.std.proofs.Common.{sym, arith}
use Rattle.std.specs.Prelude.{is_some}
use Rattle.std.proofs.lemmas.Bool.{eqb-true, false≢true}
use Rattle.pytree_node.specs.declared.operators.Context.{Context}
use Rattle.pytree_node.specs.declared.expressions.Expr as given
use Rattle.pytree_node.specs.declared.statements.Item as given_item
use Rattle.pytree_node.specs.Trees as plain
use Rattle.pytree_node.specs.Trees.{exprs}
use Rattle.pytree_node.specs.TreeOf.{item_of, option_of, tree_of}
use Rattle.pyunparse_text.specs.Statements.{are_plain, need_brackets, reads_as_items}

-- a number above 0 is none
pub not_zero : (n : ℕ) → (suc n == 0) ≡ false
not_zero n = by (suc n == 0) refl
  where
    by : (b : Bool) → (suc n == 0) ≡ b → b ≡ false
    by true e = absurd (omega (arith, eqb-true (suc n) 0 e))
    by false e = refl

pub one_item : {A : Type 0} (xs : List A) (x : A) → length xs ≡ 1 → x ≡ get_or xs 0 x → xs ≡ x ∷ []
one_item [] x e read = absurd (omega (arith, e))
one_item (y ∷ []) x e read = ap (λ z. z ∷ []) (sym read)
one_item (y ∷ (z ∷ zs)) x e read = absurd (omega (arith, e))

-- the items of a `with`
pub not_brackets : (is : List given_item.Item) → (length is ≡ 1 → ⊥) → false ≡ need_brackets (map item_of is)
not_brackets [] n = refl
not_brackets (i ∷ []) n = absurd (n refl)
not_brackets (i ∷ (j ∷ is)) n = refl

targeted : (t v : plain.Expr) → false ≡ reads_as_items t (Some v)
targeted (plain.Tuple plain.no_exprs c) v = refl
targeted (plain.Tuple (plain.an_expr e es) c) v = refl
targeted _ v = refl

reads : (t : plain.Expr) (o : Option plain.Expr) (b : Bool) → is_some o ≡ not b → (b && reads_as_items t None) ≡ reads_as_items t o
reads t None true h = refl
reads t None false h = absurd (false≢true h)
reads t (Some v) true h = absurd (false≢true (sym h))
reads t (Some v) false h = targeted t v

same_some : (o : Option given.Expr) → is_some (option_of o) ≡ is_some o
same_some None = refl
same_some (Some e) = refl

pub one_brackets : (is : List given_item.Item) (i : given_item.Item) (b r : Bool) → length is ≡ 1 → i ≡ get_or is 0 i
    → is_some i.optional_vars ≡ not b → r ≡ reads_as_items (tree_of i.context_expr) None →
    (b && r) ≡ need_brackets (map item_of is)
one_brackets is i b r e read h k =
    ap (λ z. b && z) k ∙ reads (tree_of i.context_expr) (option_of i.optional_vars) b (same_some i.optional_vars ∙ h)
    ∙ ap (λ z. need_brackets (map item_of z)) (sym (one_item is i e read))

pub tuple_reads : (es : List given.Expr) (c : Context) (b p : Bool) → b ≡ (length es == 0) → p ≡ are_plain (exprs (map tree_of es))
    → (not b && p) ≡ reads_as_items (plain.Tuple (exprs (map tree_of es)) c) None
tuple_reads [] c b p h k = ap (λ z. not z && p) h
tuple_reads (e ∷ es) c b p h k = (λ i. not ((h ∙ not_zero (length es)) i) && k i)
