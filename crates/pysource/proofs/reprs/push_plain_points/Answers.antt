use Rattle.std.proofs.Common.{rules, ◌≡◌, ◌++◌, take, sym, subst}
use Rattle.std.specs.Prelude.{IsUtf8}
use Rattle.std.specs.String.{string_bytes}
use Rattle.std.proofs.lemmas.Str.{IsUtf8-append, IsUtf8-from_ascii, IsUtf8-string_bytes}
use Rattle.pysource.proofs.Printing.PushReprLemmas.{plain_ascii}
use Rattle.pysource.proofs.reprs.push_plain_points.Goals as goal

pub from_utf8_unchecked-requires : goal.from_utf8_unchecked-requires
from_utf8_unchecked-requires c =
    let plain = take c.fill_plain-n.result c.args.points.now in
    let grown : c.fill_plain-n.new.bytes.items ≡ string_bytes c.args.out.now ++ plain = search rules in
    subst IsUtf8 (sym grown) (IsUtf8-append (string_bytes c.args.out.now) plain (IsUtf8-string_bytes c.args.out.now)
    (IsUtf8-from_ascii plain (plain_ascii plain c.fill_plain-n.ensures.plain)))
