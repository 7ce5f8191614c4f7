use Rattle.std.proofs.lemmas.Result.{err_from_is_err_and}
use Rattle.pyast_command.proofs.ModuleLemmas.{no_source_by, refused_by}
use Rattle.pyast_command.proofs.modules.accept_placed.Goals as goal

pub returns-in_err-source-clause-refused : goal.returns-in_err-source-clause-refused
returns-in_err-source-clause-refused c =
    let e = err_from_is_err_and c.from_residual.result c.from_residual.ensures.1 in
    rw (e.1, e.2) (no_source_by c.args.profile c.args.bytes.items c.in_err-source.field-0.0 c.in_err-source.ensures.value)

pub returns-in_err-parse_placed-clause-refused : goal.returns-in_err-parse_placed-clause-refused
returns-in_err-parse_placed-clause-refused c =
    let e = err_from_is_err_and c.from_residual-in_err-parse_placed.result c.from_residual-in_err-parse_placed.ensures.1 in
    rw (e.1, e.2) (refused_by c.args.profile c.args.bytes.items c.in_ok-source.source c.in_err-parse_placed.field-0.0
    c.in_ok-source.ensures.value
    c.in_err-parse_placed.ensures.refused)

pub returns-clause-is : goal.returns-clause-is
returns-clause-is c = record {
  parts = c.in_ok-source.source;
  source = c.in_ok-source.ensures.value;
  accepted = c.in_ok-parse_placed.ensures.placed.accepted;
}
