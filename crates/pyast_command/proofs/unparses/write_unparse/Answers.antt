use Rattle.std.proofs.Common.{ℕ, List, string_bytes}
use Rattle.std.proofs.lemmas.Result.{err_from_is_err_and}
use Rattle.pyast_command.specs.Runs.{whole}
use Rattle.pyast_command.specs.Unparses.{IsTextOf}
use Rattle.pyast_command.proofs.ModuleLemmas.{all_written, front_written, is_text, none_written}
use Rattle.pyast_command.proofs.unparses.write_unparse.Goals as goal

pub returns-in_err-module-clause-performs :
    goal.returns-in_err-module-clause-performs
returns-in_err-module-clause-performs g c =
    let e = err_from_is_err_and c.from_residual.result c.from_residual.ensures.1 in
    rw (e.1, e.2) (none_written whole c.args.asked.now.profile (λ (bytes : List ℕ). IsTextOf c.args.asked.now.profile)
    (g.R.ByteIn.seen c.args.reader.now)
    (g.R.ByteIn.seen c.read_module.new.reader) (g.W.ByteOut.sent c.args.writer.now).taken c.in_err-module.field-0.0
    c.in_err-module.ensures.none)

pub returns-in_err-write_all-clause-performs :
    goal.returns-in_err-write_all-clause-performs
returns-in_err-write_all-clause-performs g c =
    let e = err_from_is_err_and c.from_residual-in_err-write_all.result c.from_residual-in_err-write_all.ensures.1 in
    rw (e.1, e.2) (front_written whole (g.W.ByteOut.sent c.args.writer.now).taken (g.W.ByteOut.sent c.write_all.new.writer).taken
    (string_bytes c.in_ok-text.text) c.in_ok-module.ensures.reads (is_text c.in_ok-text.ensures.text c.in_ok-module.ensures.back)
    (rw c.as_bytes.ensures.value at c.in_err-write_all.ensures.front))

pub returns-clause-performs : goal.returns-clause-performs
returns-clause-performs g c =
    all_written whole (g.W.ByteOut.sent c.args.writer.now).taken (g.W.ByteOut.sent c.write_all.new.writer).taken
    (string_bytes c.in_ok-text.text) c.in_ok-module.ensures.reads (is_text c.in_ok-text.ensures.text c.in_ok-module.ensures.back)
    (rw c.as_bytes.ensures.value at c.in_ok-write_all.ensures.ok)
