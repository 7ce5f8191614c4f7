use Rattle.std.proofs.Common.{sym, ap, ◌∙◌}
use Rattle.std.specs.List.{list_all}
use Rattle.std.specs.Str.Iter.{chars_rest}
use Rattle.unicode_ident.specs.Ident.{is_xid_continue}
use Rattle.pytoken.proofs.Callers.TextLemmas.{Past, past, no_chars, stops, goes}
use Rattle.pytoken.proofs.names.goes_on.Goals as goal

pub returns-then-not-is_xid_continue : goal.returns-then-not-is_xid_continue
returns-then-not-is_xid_continue c =
    let front : Past (chars_rest c.loop-c.c-iterator) (chars_rest c.next.new.self) c.in-Some.c = past (chars_rest c.loop-c.c-iterator)
    (chars_rest c.next.new.self) c.in-Some.c c.loop-c.invariant.utf8 c.in-Some.ensures.steps.0 in
    sym (stops is_xid_continue (chars_rest c.loop-c.c-iterator) (chars_rest c.next.new.self) c.in-Some.c front.same
    (sym c.if-not-is_xid_continue.ensures.value)) ∙ c.loop-c.invariant.same

pub loop-c-preserved : goal.loop-c-preserved
loop-c-preserved c =
    let front : Past (chars_rest c.loop-c.c-iterator) (chars_rest c.next.new.self) c.in-Some.c = past (chars_rest c.loop-c.c-iterator)
    (chars_rest c.next.new.self) c.in-Some.c c.loop-c.invariant.utf8 c.in-Some.ensures.steps.0 in
    record {
      same = goes is_xid_continue (chars_rest c.loop-c.c-iterator) (chars_rest c.next.new.self) c.in-Some.c front.same
          (sym c.if-not-is_xid_continue.ensures.value) ∙ c.loop-c.invariant.same;
      utf8 = front.utf8;
    }

pub returns : goal.returns
returns c = sym (ap (list_all is_xid_continue) (no_chars (chars_rest c.loop-c.c-iterator) c.in-None.ensures.steps.0.0))
    ∙ c.loop-c.invariant.same
