use Rattle.std.proofs.Common.{rules, ◌≡◌, length, sym, subst}
use Rattle.std.specs.Prelude.{IsUtf8}
use Rattle.std.specs.String.{string_bytes}
use Rattle.std.proofs.Transfers.{starts_with_length}
use Rattle.std.proofs.lemmas.Str.{IsCharBoundary-from_take}
use Rattle.std.proofs.str.Laws.{IsUtf8-had}
use Rattle.pylex.proofs.lines.push_line.Goals as goal

pub truncate-requires : goal.truncate-requires
truncate-requires c =
    let old = c.args.out.now in
    let new = c.push_fields-pushed.new.out in
    let kept = c.push_fields-pushed.ensures.kept in
    let start : c.len-start.result ≡ length (string_bytes old) = search rules in
    let boundary = IsCharBoundary-from_take (string_bytes new) (length (string_bytes old)) (IsUtf8-had _ new.ok)
    (starts_with_length _ _ kept)
    (subst IsUtf8 (sym kept) (IsUtf8-had _ old.ok)) in
    λ _. rw start (boundary.0, λ _. boundary.1)
