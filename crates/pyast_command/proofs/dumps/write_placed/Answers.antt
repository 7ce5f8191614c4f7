use Rattle.std.proofs.Common.{◌∙◌, ◌++◌, ap, codes, inl, true}
use Rattle.std.specs.List.{concat}
use Rattle.std.proofs.lemmas.Result.{err_from_is_err_and}
use Rattle.pysource.proofs.Callers.Taken.{Appends-refl}
use Rattle.pytree_node.specs.TreeOf.{module_of}
use Rattle.pyast_command.specs.Dumps.{IsDumpText}
use Rattle.pyast_command.specs.Inner.Reading.{module_read}
use Rattle.pyast_command.specs.Runs.{in_pieces}
use Rattle.pyast_command.proofs.ModuleLemmas.{all_written, first_is, none_written, pieces_cut, placed_text, second_is}
use Rattle.pyast_command.proofs.dumps.write_placed.Goals as goal

pub returns-in_err-read_placed-clause-performs :
    goal.returns-in_err-read_placed-clause-performs
returns-in_err-read_placed-clause-performs g c =
    let e = err_from_is_err_and c.from_residual.result c.from_residual.ensures.1 in
    rw (e.1, e.2) (none_written in_pieces c.args.style.profile (IsDumpText c.args.style true)
    (g.R.ByteIn.seen c.args.reader.now) (g.R.ByteIn.seen c.read_placed.new.reader) (g.W.ByteOut.sent c.args.writer.now).taken
    c.in_err-read_placed.field-0.0 c.in_err-read_placed.ensures.none)

pub returns-in_err-pieces-clause-performs :
    goal.returns-in_err-pieces-clause-performs
returns-in_err-pieces-clause-performs g c =
    let e = err_from_is_err_and c.from_residual-in_err-pieces.result c.from_residual-in_err-pieces.ensures.1 in
    rw (e.1, e.2) (c.in_ok-read_placed.ensures.reads.all.unfailed, inl (Appends-refl (g.W.ByteOut.sent c.args.writer.now).taken))

pub returns-in_err-write_pieces-clause-performs :
    goal.returns-in_err-write_pieces-clause-performs
returns-in_err-write_pieces-clause-performs g c =
    let e = err_from_is_err_and c.from_residual-in_err-write_pieces.result c.from_residual-in_err-write_pieces.ensures.1 in
    let reads = c.in_ok-read_placed.ensures.reads in
    rw (e.1, e.2) (pieces_cut c.args.style.profile (IsDumpText c.args.style true) _ _ (module_of c.in_ok-read_placed.field-0.module)
    (g.W.ByteOut.sent c.args.writer.now).taken (g.W.ByteOut.sent c.write_pieces.new.writer).taken
    (concat c.in_ok-pieces.pieces ++ codes "\n") c.in_err-write_pieces.field-0.0 (module_read reads) (
      c.in_ok-read_placed.field-0.places,
      reads.places,
      placed_text c.args.style (module_of c.in_ok-read_placed.field-0.module) _
          c.in_ok-read_placed.field-0.places _ _ (ap module_of (first_is c.into_parts-module.ensures))
          (c.new.ensures.places ∙ second_is c.into_parts-module.ensures) c.new.ensures.next (concat c.in_ok-pieces.pieces)
          c.in_ok-pieces.ensures.text,
    )
    c.in_err-write_pieces.ensures.writes)

pub returns-clause-performs : goal.returns-clause-performs
returns-clause-performs g c =
    let reads = c.in_ok-read_placed.ensures.reads in
    all_written in_pieces {output = IsDumpText c.args.style true} (g.W.ByteOut.sent c.args.writer.now).taken
    (g.W.ByteOut.sent c.write_pieces.new.writer).taken (concat c.in_ok-pieces.pieces ++ codes "\n") (module_read reads) (
      c.in_ok-read_placed.field-0.places,
      reads.places,
      placed_text c.args.style (module_of c.in_ok-read_placed.field-0.module) _
          c.in_ok-read_placed.field-0.places _ _ (ap module_of (first_is c.into_parts-module.ensures))
          (c.new.ensures.places ∙ second_is c.into_parts-module.ensures) c.new.ensures.next (concat c.in_ok-pieces.pieces)
          c.in_ok-pieces.ensures.text,
    )
    c.in_ok-write_pieces.ensures.writes.1
