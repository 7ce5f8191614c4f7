use denote.Enum.Bare.{same_true, same_false}
use Rattle.std.proofs.Common.{◌≡◌, sym, ◌∙◌, rules, arith}
use Rattle.pylex_listing.specs.contracts.kind.Kind.{the_type}
use Rattle.pylex_listing.specs.declared.kind.Kind.TheVariants as kinds
use Rattle.examples.proofs.StreamLemmas.{begun, comment_is, other_is, one_more, goes_on, finds, finds_none}
use Rattle.examples.proofs.streams.first_comment.Goals as goal

pub loop-lister-init : goal.loop-lister-init
loop-lister-init g c = begun c.in_ok-lister.ensures.begins

pub loop-lister-smaller : goal.loop-lister-smaller
loop-lister-smaller g c =
    let more = one_more c.in_ok-step.ensures.steps c.loop-lister.invariant c.in-Entry.entry c.in-Entry.is in
    omega (arith, more, c.next.ensures.given)

pub loop-lister-preserved : goal.loop-lister-preserved
loop-lister-preserved g c =
    let other : c.in-Entry.entry.kind ≡ kinds.Comment → ⊥ = same_false the_type _ _ (sym c.eq.ensures ∙ c.if-eq.false) in
    goes_on c.in_ok-step.ensures.steps c.loop-lister.invariant c.in-Entry.entry c.in-Entry.is (other_is c.in-Entry.entry other)

pub returns-in_default : goal.returns-in_default
returns-in_default g c =
    record { found = finds_none c.in_ok-step.ensures.steps c.loop-lister.invariant c.in_default.not-Entry; refused = tt }

pub returns-then-eq-clause-found : goal.returns-then-eq-clause-found
returns-then-eq-clause-found g c =
    let same : c.in-Entry.entry.kind ≡ kinds.Comment = same_true the_type (search rules) _ _ (sym c.eq.ensures ∙ c.if-eq.true) in
    finds c.in_ok-step.ensures.steps c.loop-lister.invariant c.in-Entry.entry c.in_ok-comment.comment c.in-Entry.is
    (comment_is c.in-Entry.entry same)
    (λ p k more broken s. c.in_ok-comment.ensures.ok ∙ c.text.ensures p k more broken s)
