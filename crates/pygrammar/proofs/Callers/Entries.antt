-- On: targets are as high as what they are made of.
--
-- Carries: what pyparse_nodes, pyparse_expr cite.
use Rattle.std.proofs.Common.{◌≡◌, Some}
use Rattle.pytree_node.specs.Trees.{Expr}
use Rattle.pytree_height.specs.Heights.{height}
use Rattle.pygrammar.specs.Targets.{stored, deleted}
use Rattle.pygrammar.proofs.Heights.HeightLemmas
pub use Rattle.pygrammar.proofs.Completeness.Lists.{piece_starts}
pub use Rattle.pygrammar.proofs.Heights.HeightLemmas.{swap, keyword_only_height, plain_height, slash_height, kwarg_height, single_height}

pub stored_height : (e s : Expr) → stored e ≡ Some s → height s ≡ height e
stored_height = HeightLemmas.stored_height

pub deleted_height : (e s : Expr) → deleted e ≡ Some s → height s ≡ height e
deleted_height = HeightLemmas.deleted_height
