use Rattle.std.proofs.Common.{arith, string_bytes}
use Rattle.std.proofs.lemmas.Result.{err_from_is_err_and}
use Rattle.std.specs.Io.KnownBytes.{Appends}
use Rattle.pysource.specs.Bytes.{TakesFront}
use Rattle.pyast_command.proofs.RunLemmas.{HoldsFor-cut, HoldsFor-failed, HoldsFor-written}
use Rattle.pyast_command.proofs.StartLemmas.{begun, listed}
use Rattle.pyast_command.proofs.listings.write_listing.Goals as goal

pub returns-in_err-lister-clause-performs : goal.returns-in_err-lister-clause-performs
returns-in_err-lister-clause-performs g c =
    let p = err_from_is_err_and c.from_residual.result c.from_residual.ensures.1 in
    rw (p.1, p.2) (rw c.as_ref.ensures.value at c.in_err-lister.ensures.refused c.args.asked.now.exact c.args.asked.now.count
    (g.W.ByteOut.sent c.args.writer.now).taken)

pub returns-in_err-output-clause-performs : goal.returns-in_err-output-clause-performs
returns-in_err-output-clause-performs g c =
    let p = err_from_is_err_and c.from_residual-in_err-output.result c.from_residual-in_err-output.ensures.1 in
    rw (p.1, p.2) (begun _ _ _ _ _ _ _ (rw c.as_ref.ensures.value at c.in_ok-lister.ensures.starts))

pub list-listed-requires-clause-stands : goal.list-listed-requires-clause-stands
list-listed-requires-clause-stands g c = λ more broken f. let s = c.in_ok-lister.ensures.starts.stands more broken f in (s.0, s.3)

pub list-listed-requires-clause-within : goal.list-listed-requires-clause-within
list-listed-requires-clause-within g c = c.in_ok-lister.ensures.starts.took.within (omega arith)

pub returns-then-is_write_failed-clause-performs :
    goal.returns-then-is_write_failed-clause-performs
returns-then-is_write_failed-clause-performs g c =
    let failed = c.is_write_failed.ensures.failed c.if-is_write_failed.true in
    listed (rw c.as_ref.ensures.value at c.in_ok-lister.ensures.starts) c.list-listed.ensures.holds
    (λ output told h. HoldsFor-failed output told _ _ _ _ failed h)

pub returns-in_err-write_all-clause-performs : goal.returns-in_err-write_all-clause-performs
returns-in_err-write_all-clause-performs g c =
    let p = err_from_is_err_and c.from_residual-in_err-write_all.result c.from_residual-in_err-write_all.ensures.1 in
    let unfailed = c.is_write_failed.ensures.unfailed c.if-is_write_failed.false in
    let cut : TakesFront (g.W.ByteOut.sent c.list-listed.new.writer).taken (g.W.ByteOut.sent c.write_all.new.writer).taken
    (string_bytes c.list-listed.new.output) =
    rw (← c.as_bytes.ensures.value) c.in_err-write_all.ensures.front in
    rw (p.1, p.2) (listed (rw c.as_ref.ensures.value at c.in_ok-lister.ensures.starts) c.list-listed.ensures.holds
    (λ output told h. HoldsFor-cut output told _ _ _ _ _ unfailed h cut))

pub returns-clause-performs : goal.returns-clause-performs
returns-clause-performs g c =
    let unfailed = c.is_write_failed.ensures.unfailed c.if-is_write_failed.false in
    let wrote : Appends (g.W.ByteOut.sent c.list-listed.new.writer).taken (g.W.ByteOut.sent c.write_all.new.writer).taken
    (string_bytes c.list-listed.new.output) =
    rw (← c.as_bytes.ensures.value) c.in_ok-write_all.ensures.ok in
    listed (rw c.as_ref.ensures.value at c.in_ok-lister.ensures.starts) c.list-listed.ensures.holds
    (λ output told h. HoldsFor-written output told _ _ _ _ _ unfailed h wrote)
