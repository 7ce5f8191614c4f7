use Rattle.std.proofs.Common.{rules, ◌≡◌, None, sym, ap, subst, ◌∙◌}
use Rattle.pysource.specs.Parts.{Parts}
use Rattle.pylex.specs.Listers.{Listed}
use Rattle.pylex.specs.Spots.{at_spot}
use Rattle.pyparse_tokens.specs.Inner.LineGathering.{ReadsLine}
use Rattle.pyparse_tokens.specs.Inner.Passing.{kept_refusal}
use Rattle.pyparse_tokens.specs.Inner.Walking.{Reads}
use Rattle.pyparse_tokens.proofs.walks.walk_line.Goals as goal

pub returns-then-is_none-clause-ended : goal.returns-then-is_none-clause-ended
returns-then-is_none-clause-ended c =
    let p = c.args.source.now in
    let here = c.spot_of.new.lister in
    let same : here ≡ c.args.lister.now = c.in_ok-from.ensures.lister in
    let begins = rw c.in-Some.is at c.in_ok-from.ensures.begun in
    let source = ap (λ (l : Listed). l.source) same ∙ c.requires.source in
    let there = c.go_to.ensures ∙ ap (λ (q : Parts). at_spot q c.in_ok-to.to here.shown.levels) source in
    let none : kept_refusal c.walk.new.gather.pass ≡ None = search rules in
    λ _ first reads.
    subst (λ (l : Listed). ReadsLine p first l c.walk.new.gather) (sym there)
    ((c.in_ok-to.ensures.went.ended c.if-to.false first
    (subst (λ (l : Listed). Reads p first (at_spot p c.in-Some.from l.shown.levels) c.spot_of.new.gather) (sym same)
    (begins.reads first reads))).line none)
