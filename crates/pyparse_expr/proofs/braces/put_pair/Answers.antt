use Rattle.std.proofs.Common.{arith}
use Rattle.pytree_node.specs.TreeOf.{boxed_of}
use Rattle.pyparse_expr.proofs.Lists.PairSteps.{put_entries, put_height, put_same}
use Rattle.pyparse_expr.proofs.braces.put_pair.Goals as goal

pub invariant_of-result : goal.invariant_of-result
invariant_of-result c =
    let p = c.args.pairs in
    let e = c.args.pair in
    record {
      is_height = put_height p.keys.items c.put_option.new.items.items p.values.items c.put.new.items.items (boxed_of e.key) e.value.value
          c.in_ok-put_option.ensures c.in_ok-put.ensures p.same p.height e.height c.max.result (omega arith) p.is_height e.is_height;
      same = put_same p.keys.items c.put_option.new.items.items p.values.items c.put.new.items.items (boxed_of e.key) e.value.value
          c.in_ok-put_option.ensures c.in_ok-put.ensures p.same;
    }

pub returns-clause-entries : goal.returns-clause-entries
returns-clause-entries c =
    let p = c.args.pairs in
    let e = c.args.pair in
    put_entries p.keys.items c.put_option.new.items.items p.values.items c.put.new.items.items (boxed_of e.key) e.value.value
    c.in_ok-put_option.ensures c.in_ok-put.ensures p.same
