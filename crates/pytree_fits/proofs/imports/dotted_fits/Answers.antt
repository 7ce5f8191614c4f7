use Rattle.std.proofs.Common.{◌≡◌, sym, ◌∙◌, Some, None, subst}
use Rattle.std.specs.Prelude.{IfOk}
use Rattle.std.specs.Str.{chars}
use Rattle.pytree_fits.specs.Names.{is_name}
use Rattle.pytree_fits.specs.Statements.{dotted}
use Rattle.pytree_fits.proofs.DottedLemmas.{at_dot, fails, passes}
use Rattle.pytree_fits.proofs.imports.dotted_fits.Goals as goal

pub split_once-requires-text-self : goal.split_once-requires-text-self
split_once-requires-text-self c κs = c.loop-part.invariant.0

pub is_name-requires-2-text-text : goal.is_name-requires-2-text-text
is_name-requires-2-text-text c κs = c.loop-part.invariant.0

pub returns-then-not-branch : goal.returns-then-not-branch
returns-then-not-branch c =
    let parts = at_dot c.loop-part.rest.now (Some (c.in-Some.part, c.in-Some.following)) c.loop-part.invariant.0 c.in-Some.ensures.cases in
    fails (is_name (chars c.in-Some.part.now)) (dotted is_name (chars c.in-Some.following.now)) c.in_ok-is_name.ensures c.if-not-branch.true
    (c.loop-part.invariant.1 ∙ parts.1)

pub loop-part-preserved : goal.loop-part-preserved
loop-part-preserved c =
    let parts = at_dot c.loop-part.rest.now (Some (c.in-Some.part, c.in-Some.following)) c.loop-part.invariant.0 c.in-Some.ensures.cases in (
      parts.0,
      passes (is_name (chars c.in-Some.part.now)) (dotted is_name (chars c.in-Some.following.now)) c.in_ok-is_name.ensures
          c.if-not-branch.false (c.loop-part.invariant.1 ∙ parts.1),
    )

pub returns : goal.returns
returns c =
    let whole = at_dot c.loop-part.rest.now None c.loop-part.invariant.0 c.in_default.ensures.cases in
    subst (λ b. IfOk c.is_name-2.result (λ told. told ≡ b)) (sym (c.loop-part.invariant.1 ∙ whole)) c.is_name-2.ensures
