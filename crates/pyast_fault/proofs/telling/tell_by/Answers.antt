use Rattle.std.proofs.Common.{◌≡◌, ◌∙◌, List, ℕ, [], refl, subst}
use Rattle.std.specs.Option.{option_map}
use Rattle.pysource.proofs.Callers.Taken.{Appends-refl}
use Rattle.pyast_fault.specs.Faults.{Tells}
use Rattle.pyast_fault.specs.declared.fault.RunFaultCode.TheVariants.{Memory}
use Rattle.pyast_fault.proofs.TellLemmas.{plain_told, source_told, tells_last}
use Rattle.pyast_fault.proofs.telling.tell_by.Goals as goal

pub returns-in-Ok-clause-told : goal.returns-in-Ok-clause-told
returns-in-Ok-clause-told g c =
    let old = g.F.ByteOut.sent c.args.faults.now in
    let new = g.F.ByteOut.sent c.write_all.new.writer in
    let whole : Tells old new c.as_bytes.result.now =
    tells_last c.write_all.result old old new [] c.as_bytes.result.now c.as_bytes.result.now refl refl (Appends-refl old.taken)
    c.write_all.ensures.ok c.write_all.ensures.front c.write_all.ensures.failed in
    subst (λ (lines : List ℕ). Tells old new lines) (c.as_bytes.ensures.value ∙ (c.in-Ok.ensures ∙ source_told c.args.of_file c.args.name.now
    (option_map (λ bytes. bytes.now) c.args.shown) c.in-InSource.code c.in-InSource.place)) whole

pub returns-in-Err-clause-told : goal.returns-in-Err-clause-told
returns-in-Err-clause-told g c =
    subst (λ (lines : List ℕ). Tells (g.F.ByteOut.sent c.args.faults.now) (g.F.ByteOut.sent c.tell_plain.new.faults) lines)
    (plain_told c.args.of_file c.args.name.now (option_map (λ bytes. bytes.now) c.args.shown) Memory _ (λ e. refl) (λ e. refl))
    c.tell_plain.ensures.told
