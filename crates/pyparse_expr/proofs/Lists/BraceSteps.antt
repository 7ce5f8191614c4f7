-- What stands in braces, after the first element or pair.
--
-- Carries: set_from, dict_from. On: ListSteps, PairSteps.
use Rattle.std.proofs.Common.{◌≡◌, refl, sym, ap, ◌∙◌, arith, ◌+◌, List, [], ◌∷◌, map, None, Result}
use Rattle.pylex_lexeme.specs.declared.kinds.Exact.TheVariants.{RBrace}
use Rattle.pytree_node.specs.Trees
use Rattle.pytree_node.specs.Trees.{Expr, exprs, optionals}
use Rattle.pytree_node.specs.TreeOf.{tree_of, option_of}
use Rattle.pytoken.specs.Terminals.{Terminal, Op}
use Rattle.pytoken.specs.declared.values.terminals.Terminal as given
use Rattle.pygrammar.specs.declared.levels.Level.TheVariants as level
use Rattle.pygrammar.specs.Entries as entries
use Rattle.pygrammar.specs.Entries.{Of, Single, singles, keys, values}
use Rattle.pygrammar.specs.Looks.{is_op}
use Rattle.pygrammar.specs.Reader.{Answer, Found, NoForm, and_then, closed, dict_from, others_of}
use Rattle.pygrammar.specs.Capped.{cap}
use Rattle.pyparse_reads.specs.declared.depth.Depth.{Depth}
use Rattle.pyparse_nodes.specs.declared.found.Read.{Read}
use Rattle.pyparse_nodes.specs.declared.found.Items.{Items}
use Rattle.pyparse_nodes.specs.declared.found.Pair.{Pair}
use Rattle.pyparse_nodes.specs.declared.found.Pairs.{Pairs}
use Rattle.pyparse_expr.specs.declared.listings.Item.TheVariants as item
use Rattle.pyparse_nodes.specs.declared.stop.Stop.{Stop}
use Rattle.pyparse_nodes.specs.Answers.{Failed, Answered, Makes}
use Rattle.pyparse_expr.specs.Inner.Found.{ListedAt}
use Rattle.pyparse_expr.specs.Inner.Lists.{more_at}
use Rattle.pyparse_expr.specs.Inner.Pairs.{PairsAt, more_pairs_at, pair_of, pairs_of}
use Rattle.pyparse_expr.specs.Inner.Readings.{inner_reads}
use Rattle.pyparse_nodes.specs.Views.{Stands, seen, first_is}
use Rattle.pyparse_expr.proofs.Reader.Reading.{first_miss, failed_then, failed_cap, node}
use Rattle.pyparse_expr.proofs.Lists.ListSteps.{singles_all}
use Rattle.pyparse_expr.proofs.Lists.PairSteps.{pairs_keys, pairs_values}

-- a set after its first element
abbrev pub set_after : Depth → Expr → List Terminal → Answer Expr
set_after d e r = and_then (others_of (inner_reads d) (Of level.Elem) (Single e) r) (λ es s. closed RBrace s (Trees.Set (singles es)))

module _ (ts : List given.Terminal) (d : Depth) (b : Read) where
  set_is : (r : Items) → ListedAt ts d.room b.next (more_at d item.Elem (Single (tree_of b.expr.value) ∷ []) (seen ts b.next)) r
      → set_after d (tree_of b.expr.value) (seen ts b.next) ≡ closed RBrace (seen ts r.next)
      (Trees.Set (exprs (map tree_of r.exprs.items)))
  set_is r l = ap (λ z. and_then z (λ es s. closed RBrace s (Trees.Set (singles es)))) l.is
      ∙ ap (λ es. closed RBrace (seen ts r.next) (Trees.Set es)) (singles_all (map tree_of r.exprs.items))

  pub set_made : (r : Items) (z : Result Read Stop)
      → ListedAt ts d.room b.next (more_at d item.Elem (Single (tree_of b.expr.value) ∷ []) (seen ts b.next)) r
      → Stands (Op RBrace) ts r.next → Makes d.room (Trees.Set (exprs (map tree_of r.exprs.items))) (r.next + 1) z
      → Answered ts d.room b.next (cap d.room (set_after d (tree_of b.expr.value) (seen ts b.next))) z
  set_made r z l s m =
      let k : closed RBrace (seen ts r.next) (Trees.Set (exprs (map tree_of r.exprs.items))) ≡ Found
      (Trees.Set (exprs (map tree_of r.exprs.items))) (seen ts (r.next + 1)) = rw s.is refl in
      rw (set_is r l ∙ k) (node ts d.room b.next (Trees.Set (exprs (map tree_of r.exprs.items))) (r.next + 1) z (omega (arith, l.ahead))
      (omega (arith, s.within)) m)

-- a dictionary after its first pair
module _ (ts : List given.Terminal) (d : Depth) (p : Pair) (q : Pairs) (one : pairs_of q ≡ pair_of p ∷ []) (place : q.next ≡ p.next) where
  others_is : others_of (inner_reads d) entries.Pair (pair_of p) (seen ts p.next) ≡ more_pairs_at d (pairs_of q) (seen ts q.next)
  others_is = ap (λ n. more_pairs_at d (pair_of p ∷ []) (seen ts n)) (sym place) ∙ ap (λ es. more_pairs_at d es (seen ts q.next)) (sym one)

  pub dict_failed : (s : Stop) → Failed s (more_pairs_at d (pairs_of q) (seen ts q.next))
      → Failed s (cap d.room (dict_from (inner_reads d) (pair_of p) (seen ts p.next)))
  dict_failed s f =
      let g : Failed s (others_of (inner_reads d) entries.Pair (pair_of p) (seen ts p.next)) = rw others_is f in
      failed_cap s d.room _ (failed_then s _ (λ fs r. closed RBrace r (Trees.Dict (keys fs) (values fs))) g)

  dict_is : (r : Pairs) → PairsAt ts d.room q.next (more_pairs_at d (pairs_of q) (seen ts q.next)) r
      → dict_from (inner_reads d) (pair_of p) (seen ts p.next) ≡ closed RBrace (seen ts r.next)
      (Trees.Dict (optionals (map option_of r.keys.items)) (exprs (map tree_of r.values.items)))
  dict_is r f = ap (λ z. and_then z (λ fs s. closed RBrace s (Trees.Dict (keys fs) (values fs)))) (others_is ∙ f.is)
      ∙ ap (λ ks. closed RBrace (seen ts r.next) (Trees.Dict ks (values (pairs_of r)))) (pairs_keys r)
      ∙ ap (λ vs. closed RBrace (seen ts r.next) (Trees.Dict (optionals (map option_of r.keys.items)) vs)) (pairs_values r)

  pub dict_open : (r : Pairs) → PairsAt ts d.room q.next (more_pairs_at d (pairs_of q) (seen ts q.next)) r
      → None ≡ first_is (is_op RBrace) (seen ts r.next) → cap d.room (dict_from (inner_reads d) (pair_of p) (seen ts p.next)) ≡ NoForm
  dict_open r f m = ap (λ y. cap d.room y) (dict_is r f ∙ first_miss (is_op RBrace) (seen ts r.next) _ NoForm m)

  pub dict_made : (r : Pairs) (z : Result Read Stop) → PairsAt ts d.room q.next (more_pairs_at d (pairs_of q) (seen ts q.next)) r
      → Stands (Op RBrace) ts r.next
      → Makes d.room (Trees.Dict (optionals (map option_of r.keys.items)) (exprs (map tree_of r.values.items))) (r.next + 1) z
      → Answered ts d.room p.next (cap d.room (dict_from (inner_reads d) (pair_of p) (seen ts p.next))) z
  dict_made r z f s m =
      let k : closed RBrace (seen ts r.next) (Trees.Dict (optionals (map option_of r.keys.items)) (exprs (map tree_of r.values.items))) ≡
      Found (Trees.Dict (optionals (map option_of r.keys.items)) (exprs (map tree_of r.values.items))) (seen ts (r.next + 1)) =
      rw s.is refl in
      rw (dict_is r f ∙ k) (node ts d.room p.next (Trees.Dict (optionals (map option_of r.keys.items)) (exprs (map tree_of r.values.items)))
      (r.next + 1) z (omega (arith, place, f.ahead)) (omega (arith, s.within)) m)
