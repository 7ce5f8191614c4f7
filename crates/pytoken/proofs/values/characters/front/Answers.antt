use Rattle.std.proofs.Common.{◌≡◌, ◌-◌, List, ℕ, length, take, slice_get, sym, ap, ◌∙◌, arith}
use Rattle.pytoken.proofs.values.OwnLemmas.{own_last}
use Rattle.pytoken.proofs.values.characters.front.Goals as goal

pub returns-in-Some : goal.returns-in-Some
returns-in-Some c =
    let here = ap (λ (t : List ℕ). slice_get t (length t - 1)) (sym c.as_bytes.ensures.value) ∙ sym c.in-Some.ensures.value in
    let size : length c.args.text.now - 1 - 0 ≡ length c.args.text.now - 1 = omega arith in
    own_last c.args.text.now c.range.result.now c.in-Some.byte.now c.utf8.text here (sym c.if-is_own.ensures)
    (c.range.ensures.value ∙ ap (λ (n : ℕ). take n c.args.text.now) size)
