use Rattle.std.proofs.Common.{◌++◌, ap, codes, inl, false, ◌∙◌}
use Rattle.std.specs.List.{concat}
use Rattle.std.proofs.lemmas.Result.{err_from_is_err_and}
use Rattle.pysource.proofs.Callers.Taken.{Appends-refl}
use Rattle.pytree_node.specs.TreeOf.{module_of}
use Rattle.pytree_dump_text.specs.Layout.{dump_text}
use Rattle.pytree_dump_text.specs.Shows.{shown_module}
use Rattle.pytree_marked.proofs.Callers.Unplaced.{unplaced}
use Rattle.pyast_command.specs.Dumps.{IsDumpText}
use Rattle.pyast_command.specs.Runs.{in_pieces}
use Rattle.pyast_command.proofs.ModuleLemmas.{all_written, none_written, pieces_cut}
use Rattle.pyast_command.proofs.dumps.write_bare.Goals as goal

pub returns-in_err-module-clause-performs :
    goal.returns-in_err-module-clause-performs
returns-in_err-module-clause-performs g c =
    let e = err_from_is_err_and c.from_residual.result c.from_residual.ensures.1 in
    rw (e.1, e.2) (none_written in_pieces c.args.style.profile (IsDumpText c.args.style false)
    (g.R.ByteIn.seen c.args.reader.now) (g.R.ByteIn.seen c.read_module.new.reader) (g.W.ByteOut.sent c.args.writer.now).taken
    c.in_err-module.field-0.0 c.in_err-module.ensures.none)

pub returns-in_err-pieces-clause-performs :
    goal.returns-in_err-pieces-clause-performs
returns-in_err-pieces-clause-performs g c =
    let e = err_from_is_err_and c.from_residual-in_err-pieces.result c.from_residual-in_err-pieces.ensures.1 in
    rw (e.1, e.2) (c.in_ok-module.ensures.reads.all.unfailed, inl (Appends-refl (g.W.ByteOut.sent c.args.writer.now).taken))

pub returns-in_err-write_pieces-clause-performs :
    goal.returns-in_err-write_pieces-clause-performs
returns-in_err-write_pieces-clause-performs g c =
    let e = err_from_is_err_and c.from_residual-in_err-write_pieces.result c.from_residual-in_err-write_pieces.ensures.1 in
    let bare = unplaced (shown_module c.args.style.profile (module_of c.in_ok-module.module)) in
    rw (e.1, e.2) (pieces_cut c.args.style.profile (IsDumpText c.args.style false) _ _
    (module_of c.in_ok-module.module)
    (g.W.ByteOut.sent c.args.writer.now).taken (g.W.ByteOut.sent c.write_pieces.new.writer).taken
    (concat c.in_ok-pieces.pieces ++ codes "\n") c.in_err-write_pieces.field-0.0 c.in_ok-module.ensures.reads
    (ap (λ text. text ++ codes "\n") (c.in_ok-pieces.ensures.text ∙ ap (λ x. dump_text c.args.style x.shown) bare))
    c.in_err-write_pieces.ensures.writes)

pub returns-clause-performs : goal.returns-clause-performs
returns-clause-performs g c =
    let bare = unplaced (shown_module c.args.style.profile (module_of c.in_ok-module.module)) in
    all_written in_pieces {output = IsDumpText c.args.style false} (g.W.ByteOut.sent c.args.writer.now).taken
    (g.W.ByteOut.sent c.write_pieces.new.writer).taken
    (concat c.in_ok-pieces.pieces ++ codes "\n") c.in_ok-module.ensures.reads
    (ap (λ text. text ++ codes "\n") (c.in_ok-pieces.ensures.text ∙ ap (λ x. dump_text c.args.style x.shown) bare))
    c.in_ok-write_pieces.ensures.writes.1
