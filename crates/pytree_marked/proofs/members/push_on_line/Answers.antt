use Rattle.std.proofs.Common.{ℕ, List, codes, decimal, true, ◌++◌, ◌∙◌, ap}
use Rattle.std.specs.String.{string_bytes}
use Rattle.std.proofs.lemmas.List.{append_assoc}
use Rattle.std.proofs.lemmas.Result.{on_ok_weaker}
use Rattle.pytree_dump_text.specs.Layout.{before}
use Rattle.pytree_marked.proofs.MemberLemmas.{members_text}
use Rattle.pytree_marked.proofs.members.push_on_line.Goals as goal

pub returns : goal.returns
returns c = on_ok_weaker c.push_named-4.result
    (λ last s indentation.
    let lead = before true indentation c.args.told.first in
    let line = decimal c.args.place.line in
    let first = c.in_ok-push_named.ensures
    ∙ ap (λ (name : List ℕ). string_bytes c.args.out.now ++ (name ++ line)) (c.first_name.ensures indentation)
    ∙ ap (λ (text : List ℕ). string_bytes c.args.out.now ++ text) (append_assoc lead (codes "lineno=") line) in
    rw c.requires (members_text _ _ _ _ _ lead (codes "lineno=") line
    (codes ", ") (codes "col_offset=") (decimal c.args.place.byte)
    (codes ", ") (codes "end_lineno=") (decimal c.args.place.end_line)
    (codes ", ") (codes "end_col_offset=") (decimal c.args.place.end_byte)
    first c.in_ok-push_named-2.ensures c.in_ok-push_named-3.ensures last))
    c.push_named-4.ensures
