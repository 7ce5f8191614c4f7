use Rattle.std.proofs.lemmas.Bool.Decides.{Decides-eqb}
use Rattle.std.proofs.lemmas.Slice.Eq.{slice_eq-Decides}
use Rattle.pytree_fits.proofs.DottedLemmas.{star_told}
use Rattle.pytree_fits.proofs.imports.is_star.Goals as goal

pub returns : goal.returns
returns c = star_told c.as_str.result.now c.args.name.now c.eq.result c.as_str.ensures.characters c.as_str.ensures.bytes
    (slice_eq-Decides Decides-eqb _ _ _ c.eq.ensures)
