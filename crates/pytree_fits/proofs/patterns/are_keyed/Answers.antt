use Rattle.std.proofs.Common.{sym}
use Rattle.std.specs.Prelude.{eqb}
use Rattle.std.proofs.lemmas.List.{length-map}
use Rattle.pytree_node.specs.TreeOf.{pattern_of, tree_of}
use Rattle.pytree_fits.proofs.Counts.{count_of_patterns}
use Rattle.pytree_fits.proofs.patterns.are_keyed.Goals as goal

pub returns : goal.returns
returns c = (λ i. eqb (sym (length-map c.args.keys.now tree_of) i) (sym (count_of_patterns pattern_of c.args.ps.now) i))
