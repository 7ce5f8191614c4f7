use Rattle.pygrammar.specs.FormOf.{form_of}
use Rattle.pyparse_block.specs.Outlines.{lasts_of}
use Rattle.pyparse_block.proofs.outline.OutlineLemmas.{follows_on, deep_told}
use Rattle.pyparse_block.proofs.outline.outlines.Outline.step.Goals as goal

pub returns-in-Ok-clause-ok : goal.returns-in-Ok-clause-ok
returns-in-Ok-clause-ok c xs k =
    follows_on xs c.args.self.now c.take.new.self c.args.level (form_of c.args.form.now) c.shape_of.result c.in-Ok.deep c.shape_of.ensures k
    c.in-Ok.ensures.ok c.in-Ok.ensures.counts

pub returns-in-Ok-clause-deep : goal.returns-in-Ok-clause-deep
returns-in-Ok-clause-deep c xs k =
    deep_told xs c.args.self.now (lasts_of c.take.new.self.depths.lasts.items) c.args.level (form_of c.args.form.now) c.shape_of.result
    c.in-Ok.deep c.shape_of.ensures k c.in-Ok.ensures.counts
