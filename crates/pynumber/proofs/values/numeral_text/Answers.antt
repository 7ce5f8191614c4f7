use Rattle.std.proofs.Common.{get_or, refl, sym, ap, ◌∙◌, arith, take_all}
use Rattle.pynumber.specs.FloatValues.{numeral_text}
use Rattle.pynumber.proofs.Numerals.{kept_one, left_one}
use Rattle.pynumber.proofs.values.numeral_text.Goals.{then-is_of_numeral+in_ok-push, else-is_of_numeral}
use Rattle.pynumber.proofs.values.numeral_text.Goals as goal

pub loop-byte-init : goal.loop-byte-init
loop-byte-init c = c.in_ok-kept.ensures.items

pub loop-byte-preserved : goal.loop-byte-preserved
loop-byte-preserved c =
    let l = c.loop-byte in
    let items = c.args.text.now in
    elim c.if-is_of_numeral.branch [
      | then-is_of_numeral+in_ok-push w ↦ rw (w.kept-is, w.in_ok-push.ensures.items)
          (kept_one items l.kept.items l.byte-index (get_or items l.byte-index 0) (omega arith) refl (sym c.is_of_numeral.ensures
          ∙ w.if-is_of_numeral.true) l.invariant)
      | else-is_of_numeral w ↦ rw w.kept-is (left_one items l.kept.items l.byte-index (get_or items l.byte-index 0) (omega arith) refl
          (sym c.is_of_numeral.ensures ∙ w.if-is_of_numeral.false) l.invariant)
    ]

pub returns : goal.returns
returns c =
    let items = c.args.text.now in
    c.loop-byte.invariant ∙ ap numeral_text (take_all c.loop-byte.byte-index items (omega arith))
