use Rattle.std.proofs.lemmas.Bool.Decides.{Decides-eqb}
use Rattle.std.proofs.lemmas.Slice.Eq.{slice_eq-Decides}
use Rattle.pytree_fits.proofs.WildcardLemmas.{wildcard_told}
use Rattle.pytree_fits.proofs.pattern_values.is_wildcard.Goals as goal

pub returns : goal.returns
returns c = wildcard_told c.as_str.result.now c.args.name.now c.eq.result c.as_str.ensures.characters c.as_str.ensures.bytes
    (slice_eq-Decides Decides-eqb _ _ _ c.eq.ensures)
