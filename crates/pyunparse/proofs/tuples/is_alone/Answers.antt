use Rattle.std.proofs.Common.{◌∙◌, ◌&&◌, not}
use Rattle.pyunparse.proofs.Sequences.AloneLemmas.{many_elements, one_element}
use Rattle.pyunparse.proofs.tuples.is_alone.Goals as goal

pub returns-then-count-ne1 : goal.returns-then-count-ne1
returns-then-count-ne1 c = many_elements c.args.elts.now c.args.place c.if-count-ne1.true

pub returns : goal.returns
returns c = (λ i. not (c.is_part.ensures i && c.lone_star.ensures i)) ∙ one_element c.args.elts.now c.args.place c.if-count-ne1.false
