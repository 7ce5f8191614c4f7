use Rattle.std.proofs.lemmas.Result.{err_from_is_err_and}
use Rattle.pytree_node.specs.TreeOf.{module_of}
use Rattle.pyast_command.proofs.ModuleLemmas.{gives_back, no_source_by, refused_by}
use Rattle.pyast_command.proofs.modules.accept.Goals as goal

pub returns-in_err-source-clause-refused : goal.returns-in_err-source-clause-refused
returns-in_err-source-clause-refused c =
    let e = err_from_is_err_and c.from_residual.result c.from_residual.ensures.1 in
    rw (e.1, e.2) (no_source_by c.args.profile c.args.bytes.items c.in_err-source.field-0.0 c.in_err-source.ensures.value)

pub returns-in_err-parse-clause-refused : goal.returns-in_err-parse-clause-refused
returns-in_err-parse-clause-refused c =
    let e = err_from_is_err_and c.from_residual-in_err-parse.result c.from_residual-in_err-parse.ensures.1 in
    rw (e.1, e.2) (refused_by c.args.profile c.args.bytes.items c.in_ok-source.source c.in_err-parse.field-0.0 c.in_ok-source.ensures.value
    c.in_err-parse.ensures.refused)

pub returns-clause-back : goal.returns-clause-back
returns-clause-back c =
    gives_back c.args.profile c.args.bytes.items c.in_ok-source.source (module_of c.in_ok-parse.field-0) c.in_ok-source.ensures.value
    c.know_listing.ensures c.in_ok-parse.ensures.accepted
