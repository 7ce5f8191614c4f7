use Rattle.std.proofs.Common.{◌≡◌, ◌∙◌, Some, ap}
use Rattle.pysource.specs.Limits.{source_limit}
use Rattle.pyast_fault.specs.declared.fault.Fault.TheVariants.{Plain}
use Rattle.pyast_fault.specs.declared.fault.RunFaultCode.TheVariants.{Write}
use Rattle.pyast_words.specs.Words.{name_of}
use Rattle.pyast_command.specs.Runs.{line_in, shown_in}
use Rattle.pyast_command.proofs.RunLemmas.{Does-told, rows_in, told-plain, told_rows}
use Rattle.pyast_command.proofs.runs.run.Goals as goal

pub returns : goal.returns
returns g c =
    let p = rw c.in-Err.is at c.perform.ensures in
    let told = c.tell_end.result in
    let same = c.tell_end.ensures.same in
    let write = told-plain c.in-Err.fault told Write (λ e. cc) same in
    let output = Does-told c.args.command.now _ _ _ _ source_limit c.in-Err.fault told same p.does in (
      Some told,
      record {
        status = c.status.ensures;
        output = output;
        told = (
          _,
          told_rows (shown_in c.args.command.now) (line_in c.args.command.now (name_of c.args.command.now)) _ _
              c.perform.new.kept.bytes.items _ c.in-Err.fault told (rows_in c.args.command.now c.perform.new.kept.show
              c.perform.new.kept.bytes.items (p.same ∙ (c.new-kept.ensures ∙ c.shows.ensures))) p.keeps same,
          c.tell_end.ensures.told,
        );
        write_failed = λ e. let e' : told ≡ Plain Write = cc in p.write_failed (ap Some (write.0 e'));
        write_told = λ ne. p.write_told (λ e. let e' : c.in-Err.fault ≡ Plain Write = cc in ne (ap Some (write.1 e')));
      },
    )
