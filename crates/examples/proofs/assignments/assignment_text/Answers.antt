use Rattle.std.proofs.Common.{◌≡◌, arith, rules, true}
use Rattle.std.specs.Str.{chars}
use Rattle.std.specs.Prelude.{string_bytes}
use Rattle.pytree_node.specs.TreeOf.{module_of}
use Rattle.examples.specs.Trees.{assignment}
use Rattle.examples.proofs.TreeLemmas.{some_text}
use Rattle.examples.proofs.assignments.assignment_text.Goals as goal

pub returns : goal.returns
returns c =
    let asked : c.in_ok-well_formed.field-0 ≡ true = search rules in
    some_text (module_of c.in_ok-tree.tree) (assignment (chars c.args.name.now) c.args.value) c.in_ok-well_formed.field-0
    (string_bytes c.in_ok-unparse.field-0) c.in_ok-tree.ensures c.in_ok-well_formed.ensures.tokens asked
    c.in_ok-unparse.ensures.round_trip (omega arith) (omega arith)
