use Rattle.std.proofs.Common.{◌∙◌, ap}
use Rattle.pylex.specs.Streamed.{Streamed}
use Rattle.pylex.proofs.LineByLine.Beginning.{held_here, text_here}
use Rattle.pylex.proofs.line_lister.LineLister.text.Goals as goal

pub between-requires : goal.between-requires
between-requires c =
    let l = c.self.inside in
    let h = held_here l.machine l.chunk l.last c.args.entry.now (ap (λ (v : Streamed). v.last) c.self.view_is ∙ c.requires)
    c.in_default.not-Encoding c.self.invariant in
    record { low = h.low; order = h.order; high = h.high; first = h.first; last = h.last }

pub returns-in_default : goal.returns-in_default
returns-in_default c = λ p k more broken x.
    let l = c.self.inside in
    c.between.ensures ∙ text_here l.machine l.chunk l.last c.args.entry.now (ap (λ (v : Streamed). v.last) c.self.view_is ∙ c.requires)
    c.in_default.not-Encoding p k more broken (rw c.self.view_is x)
