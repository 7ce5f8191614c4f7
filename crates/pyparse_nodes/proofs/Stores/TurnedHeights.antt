-- An expression with other contexts is as high as before.
--
-- Carries: stored, single_stored, deleted. On: the heights of targets.
use Rattle.std.proofs.Common.{◌≡◌, ◌∙◌, sym, ℕ, Some}
use Rattle.pytree_node.specs.declared.expressions.Expr as given
use Rattle.pytree_node.specs.TreeOf.{tree_of}
use Rattle.pytree_height.specs.Heights.{height}
use Rattle.pygrammar.specs.Targets.{deleted, single_stored, stored}
use Rattle.pygrammar.proofs.Callers.Entries.{deleted_height, single_height, stored_height}

module _ (old new : given.Expr) (h : ℕ) (q : h ≡ height (tree_of old)) where
  pub stored_high : stored (tree_of old) ≡ Some (tree_of new) → h ≡ height (tree_of new)
  stored_high s = q ∙ sym (stored_height (tree_of old) (tree_of new) s)

  pub single_high : single_stored (tree_of old) ≡ Some (tree_of new) → h ≡ height (tree_of new)
  single_high s = q ∙ sym (single_height (tree_of old) (tree_of new) s)

  pub deleted_high : deleted (tree_of old) ≡ Some (tree_of new) → h ≡ height (tree_of new)
  deleted_high s = q ∙ sym (deleted_height (tree_of old) (tree_of new) s)
