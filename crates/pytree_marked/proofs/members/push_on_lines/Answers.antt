use Rattle.std.proofs.Common.{codes, decimal, false}
use Rattle.std.proofs.lemmas.Result.{on_ok_weaker}
use Rattle.pytree_dump_text.specs.Layout.{before}
use Rattle.pytree_marked.proofs.MemberLemmas.{members_text}
use Rattle.pytree_marked.proofs.members.push_on_lines.Goals as goal

pub returns : goal.returns
returns c = on_ok_weaker c.push_line-4.result
    (λ last s. rw c.requires (members_text _ _ _ _ _ (before false c.args.indentation.now c.args.told.first) (codes "lineno=")
    (decimal c.args.place.line)
    (before false c.args.indentation.now false) (codes "col_offset=") (decimal c.args.place.byte)
    (before false c.args.indentation.now false) (codes "end_lineno=") (decimal c.args.place.end_line)
    (before false c.args.indentation.now false) (codes "end_col_offset=") (decimal c.args.place.end_byte)
    c.in_ok-push_line.ensures c.in_ok-push_line-2.ensures c.in_ok-push_line-3.ensures last))
    c.push_line-4.ensures
