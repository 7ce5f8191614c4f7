use Rattle.std.proofs.Common.{ℕ, ◌∙◌, length, sym, ap, take, arith}
use Rattle.std.proofs.lemmas.List.{take_all}
use Rattle.std.proofs.lemmas.Str.{utf8_valid_len-IsUtf8}
use Rattle.pyast_fault.proofs.rows.utf8_front.Goals as goal

pub returns-in-Ok : goal.returns-in-Ok
returns-in-Ok c =
    let bytes = c.args.bytes.now in
    c.in-Ok.ensures.cases.0 ∙ sym (ap (λ (n : ℕ). take n bytes) (utf8_valid_len-IsUtf8 bytes c.in-Ok.ensures.cases.1)
    ∙ take_all (length bytes) bytes (omega arith))
