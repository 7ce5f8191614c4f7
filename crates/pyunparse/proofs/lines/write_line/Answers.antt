use Rattle.std.proofs.lemmas.Result.{IfOk-weaker}
use Rattle.pytree_node.specs.TreeOf.{stmt_of}
use Rattle.pyunparse_text.specs.Pieces.{piece}
use Rattle.pyunparse_text.specs.Statements.{simple_tokens}
use Rattle.pyunparse.proofs.Texts.LineLemmas.{whole_line}
use Rattle.pyunparse.proofs.lines.write_line.Goals as goal

pub returns : goal.returns
returns c = IfOk-weaker _ _ _ (λ _ e. whole_line c.args.out.now _ _ _ (simple_tokens piece (stmt_of c.args.s.now))
    c.in_ok-begin_line.ensures c.in_ok-write_simple.ensures e) c.end_line.ensures
