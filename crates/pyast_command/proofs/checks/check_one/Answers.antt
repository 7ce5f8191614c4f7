use Rattle.std.proofs.Common.{◌≡◌, ◌++◌, ◌∙◌, Bool, [], Option, Some, None, ap, refl, subst, sym}
use Rattle.std.specs.Option.{option_map}
use Rattle.std.specs.Prelude.{if◌then◌else◌}
use Rattle.pysource.specs.Limits.{source_limit}
use Rattle.pyast_fault.specs.Faults.{file_line, rows_of}
use Rattle.pyast_command.proofs.RunLemmas.{AreRows, Judges-told, keeps_by, nothing_told, rows_by, told_rows}
use Rattle.pyast_command.proofs.checks.check_one.Goals as goal

pub returns-in-Ok : goal.returns-in-Ok
returns-in-Ok g c = (
  None,
  record { status = refl; judged = c.in-Ok.ensures.judges; told = ([], refl, nothing_told (g.F.ByteOut.sent c.args.faults.now)) },
)

pub returns : goal.returns
returns g c =
    let asked = c.args.asked.now in
    let kept = c.judge.new.kept.bytes.items in
    let fault = c.in-Err.fault in
    let told = c.tell_file.result in
    let rows = option_map (λ bytes. bytes.now) c.shown.result in
    let shows : c.judge.new.kept.show ≡ asked.show = c.in-Err.ensures.same ∙ c.new-kept.ensures in
    let are : AreRows (if asked.show then Some asked.profile else None) kept rows =
    subst (λ r. AreRows (if asked.show then Some asked.profile else None) kept r)
    (sym (c.shown.ensures ∙ ap (λ (b : Bool). if b then Some kept else None) shows)) (rows_by asked.show asked.profile kept) in
    let keeps = keeps_by asked.show asked.profile (g.R.ByteIn.seen c.args.reader.now) (g.R.ByteIn.seen c.judge.new.reader) kept fault
    (λ e. c.in-Err.ensures.keeps (c.new-kept.ensures ∙ e)) in (
      Some told,
      record {
        status = c.status.ensures;
        judged = Judges-told asked.profile _ _ source_limit fault told c.tell_file.ensures.same c.in-Err.ensures.judges;
        told = (
          file_line c.args.name.now told ++ rows_of rows told,
          told_rows _ (file_line c.args.name.now) _ _ kept rows fault told are keeps c.tell_file.ensures.same,
          c.tell_file.ensures.told,
        );
      },
    )
