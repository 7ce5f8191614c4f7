use Rattle.std.proofs.Common.{◌∙◌, ◌&&◌, ap}
use Rattle.pyunparse.proofs.Sequences.AloneLemmas.{not_all, one_all, star_parts}
use Rattle.pyunparse.proofs.imports.are_all.Goals as goal

pub returns-then-names-ne1 : goal.returns-then-names-ne1
returns-then-names-ne1 c = not_all c.args.names.now c.if-names-ne1.true

pub returns : goal.returns
returns c = ap (λ z. c.is_none.result && z) c.is_asterisk.ensures ∙ star_parts _ _ _ c.is_none.ensures
    ∙ one_all c.args.names.now _ c.if-names-ne1.false c.index-names-0.is
