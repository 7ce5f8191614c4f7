use Rattle.std.proofs.Common.{◌≡◌, ◌++◌, ◌+◌, [], ◌∙◌, codes, refl, arith}
use Rattle.std.specs.Io.KnownBytes.{Appends}
use Rattle.pysource.specs.Bytes.{TakesFront}
use Rattle.pysource.proofs.Callers.Taken.{Appends-append, Appends-refl}
use Rattle.pyast_fault.specs.Faults.{text_of}
use Rattle.pyast_fault.specs.declared.fault.FaultCode.TheVariants.{Run}
use Rattle.pyast_fault.proofs.TellLemmas.{tells_cut, tells_last}
use Rattle.pyast_fault.proofs.telling.tell_plain.Goals as goal

pub returns-in_err-write_all-clause-told : goal.returns-in_err-write_all-clause-told
returns-in_err-write_all-clause-told g c =
    tells_cut _ (g.F.ByteOut.sent c.args.faults.now) _ [] (codes "pyast: ") (text_of (Run c.args.code) ++ codes "\n") _ refl
    (Appends-refl (g.F.ByteOut.sent c.args.faults.now).taken) c.in_err-write_all.ensures.front c.in_err-write_all.ensures.failed

pub returns-in_err-write_all-2-clause-told : goal.returns-in_err-write_all-2-clause-told
returns-in_err-write_all-2-clause-told g c =
    let first : Appends (g.F.ByteOut.sent c.args.faults.now).taken (g.F.ByteOut.sent c.write_all.new.writer).taken (codes "pyast: ") =
    c.in_ok-write_all.ensures.ok in
    let cut : TakesFront (g.F.ByteOut.sent c.write_all.new.writer).taken (g.F.ByteOut.sent c.write_all-2.new.writer).taken
    (text_of (Run c.args.code)) =
    rw (← c.fault_text.ensures, ← c.as_bytes.ensures.value) c.in_err-write_all-2.ensures.front in
    let failed : (g.F.ByteOut.sent c.write_all-2.new.writer).failures ≡ (g.F.ByteOut.sent c.args.faults.now).failures + 1 =
    omega (arith, c.in_ok-write_all.ensures.unfailed, c.in_err-write_all-2.ensures.failed) in
    tells_cut _ (g.F.ByteOut.sent c.write_all.new.writer) _ (codes "pyast: ") (text_of (Run c.args.code))
    (codes "\n") _ refl first cut failed

pub returns-clause-told : goal.returns-clause-told
returns-clause-told g c =
    let first : Appends (g.F.ByteOut.sent c.args.faults.now).taken (g.F.ByteOut.sent c.write_all.new.writer).taken (codes "pyast: ") =
    c.in_ok-write_all.ensures.ok in
    let second : Appends (g.F.ByteOut.sent c.write_all.new.writer).taken (g.F.ByteOut.sent c.write_all-2.new.writer).taken
    (text_of (Run c.args.code)) =
    rw (← c.fault_text.ensures, ← c.as_bytes.ensures.value) c.in_ok-write_all-2.ensures.ok in
    let same : (g.F.ByteOut.sent c.write_all-2.new.writer).failures ≡ (g.F.ByteOut.sent c.args.faults.now).failures =
    c.in_ok-write_all-2.ensures.unfailed ∙ c.in_ok-write_all.ensures.unfailed in
    tells_last c.write_all-3.result _ (g.F.ByteOut.sent c.write_all-2.new.writer) _ (codes "pyast: " ++ text_of (Run c.args.code))
    (codes "\n") _ refl same (Appends-append _ _ _ _ _ first second)
    c.write_all-3.ensures.ok c.write_all-3.ensures.front c.write_all-3.ensures.failed
