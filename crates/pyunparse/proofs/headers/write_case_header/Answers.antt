use Rattle.std.proofs.lemmas.Result.{IfOk-equal}
use Rattle.pytree_node.specs.TreeOf.{option_of, pattern_of}
use Rattle.pyunparse.proofs.StatementParts.HeaderLemmas.{case_on}
use Rattle.pyunparse.proofs.headers.write_case_header.Goals as goal

pub returns : goal.returns
returns g c = IfOk-equal _ _ _ _ c.put_colon.ensures
    (case_on g.W.Writer.after c.args.out.now (pattern_of c.args.pattern.now) (option_of c.args.guard.now) _ _ _ c.in_ok-put_text.ensures
    c.in_ok-write_pattern.ensures c.in_ok-write_guard.ensures)
