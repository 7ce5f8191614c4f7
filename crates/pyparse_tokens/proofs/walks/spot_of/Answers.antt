use Rattle.std.proofs.Common.{refl, Option, Some, None}
use Rattle.std.specs.Prelude.{IfSome}
use Rattle.pylex.specs.declared.spots.Spot.{Spot}
use Rattle.pyparse_tokens.proofs.LineStartLemmas.{begins_here, begins_by}
use Rattle.pyparse_tokens.proofs.walks.spot_of.Goals as goal

-- what is known of a spot, if there is one
of_all : (r : Option Spot) {P Q R S : Spot → Type 0} → IfSome r P → IfSome r Q → IfSome r R → ((s : Spot) → P s → Q s → R s → S s)
    → IfSome r S
of_all None p q r f = tt
of_all (Some s) p q r f = f s p q r

pub returns-then-has_tokens-clause-begun : goal.returns-then-has_tokens-clause-begun
returns-then-has_tokens-clause-begun c =
    of_all c.spot.result c.spot.ensures.shown c.spot.ensures.begun c.spot.ensures.some
    (λ s shown begun some. begins_here c.args.source.now c.args.lister.now s c.args.gather.now c.args.marks.now c.requires shown begun some
    (c.if-has_tokens.ensures.begun refl) (c.if-has_tokens.ensures.some refl))

pub returns-clause-begun : goal.returns-clause-begun
returns-clause-begun c =
    begins_by c.args.source.now c.args.lister.now c.args.gather.now c.begin.new.self c.args.marks.now c.mark_lexeme.new.marks
    c.in-Some.class c.in-Some.text.now c.in-Some.start c.in-Some.spot c.requires c.in-Some.ensures.begins
    (c.in_ok-begin.ensures.taken c.if-not-branch.false) (c.in_ok-begin.ensures.some c.if-not-branch.false) c.in_ok-mark_lexeme.ensures
