use Rattle.std.proofs.Common.{Some, None, refl}
use Rattle.std.proofs.lemmas.Result.{IfOk-equal}
use Rattle.pyunparse.proofs.StatementParts.DottedLemmas.{at_point, name_ends, name_on}
use Rattle.pyunparse.proofs.imports.write_dotted.Goals as goal

pub split_once-requires-text-self : goal.split_once-requires-text-self
split_once-requires-text-self g c κs = c.loop-part.invariant.0

pub put_text-requires-text-name : goal.put_text-requires-text-name
put_text-requires-text-name g c κs _ =
    (at_point c.loop-part.before c.loop-part.rest.now (Some (c.in-Some.part, c.in-Some.tail)) c.loop-part.invariant.0
    c.in-Some.ensures.cases).0

pub put_text-requires-2-text-name : goal.put_text-requires-2-text-name
put_text-requires-2-text-name g c κs _ = c.loop-part.invariant.0

pub loop-part-init : goal.loop-part-init
loop-part-init g c = (c.utf8.name, refl)

pub loop-part-preserved : goal.loop-part-preserved
loop-part-preserved g c =
    let parts = at_point c.loop-part.before c.loop-part.rest.now (Some (c.in-Some.part, c.in-Some.tail)) c.loop-part.invariant.0
    c.in-Some.ensures.cases in (
      parts.1,
      name_on g.W.Writer.after _ c.loop-part.out c.loop-part.before c.loop-part.rest.now _ _ _ _ parts.2 c.loop-part.invariant.1
          c.in_ok-put_text.ensures c.in_ok-put_sign.ensures,
    )

pub returns : goal.returns
returns g c =
    let whole = at_point c.loop-part.before c.loop-part.rest.now None c.loop-part.invariant.0 c.in_default.ensures.cases in
    IfOk-equal _ _ _ _ c.put_text-2.ensures (name_ends g.W.Writer.after _ c.loop-part.out c.loop-part.before c.loop-part.rest.now whole
    c.loop-part.invariant.1)
