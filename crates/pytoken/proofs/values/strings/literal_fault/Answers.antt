use Rattle.std.proofs.Common.{refl, sym, ap, ◌∙◌, Bool}
use Rattle.std.specs.Prelude.{◌&&◌, nat_lt}
use Rattle.std.specs.List.{list_any}
use Rattle.pytoken.specs.Escapes.{escape_fault}
use Rattle.pytoken.proofs.values.LiteralLemmas.{same_meanings, literal_formatted, literal_escape, literal_high, literal_nul, literal_sound}
use Rattle.pytoken.proofs.values.strings.literal_fault.Goals as goal

pub returns-then-is_marked : goal.returns-then-is_marked
returns-then-is_marked c = sym (literal_formatted c.args.literal.now (sym c.if-is_marked.ensures))

pub returns-in-Some : goal.returns-in-Some
returns-in-Some c =
    let plain = sym c.if-is_marked.ensures in
    let same = ap escape_fault (same_meanings c.args.literal.now c.args.literal.now c.body.result c.is_marked-raw.result
    c.is_marked-bytes.result refl
    c.is_marked-raw.ensures c.is_marked-bytes.ensures c.body.ensures) in
    sym (literal_escape c.args.literal.now c.in-Some.error plain (sym same ∙ sym c.escape_fault.ensures ∙ c.in-Some.is))

pub returns-then-is_past_ascii : goal.returns-then-is_past_ascii
returns-then-is_past_ascii c =
    let plain = sym c.if-is_marked.ensures in
    let same = ap escape_fault (same_meanings c.args.literal.now c.args.literal.now c.body.result c.is_marked-raw.result
    c.is_marked-bytes.result refl
    c.is_marked-raw.ensures c.is_marked-bytes.ensures c.body.ensures) in
    let escape = sym same ∙ sym c.escape_fault.ensures ∙ c.in_default.is in
    let high = ap (λ (b : Bool). b && list_any (nat_lt 0x7F) c.args.literal.now) (sym c.is_marked-bytes.ensures)
    ∙ sym c.if-is_past_ascii.ensures in
    sym (literal_high c.args.literal.now plain escape high)

pub returns-then-has_nul : goal.returns-then-has_nul
returns-then-has_nul c =
    let plain = sym c.if-is_marked.ensures in
    let same = ap escape_fault (same_meanings c.args.literal.now c.args.literal.now c.body.result c.is_marked-raw.result
    c.is_marked-bytes.result refl
    c.is_marked-raw.ensures c.is_marked-bytes.ensures c.body.ensures) in
    let escape = sym same ∙ sym c.escape_fault.ensures ∙ c.in_default.is in
    let high = ap (λ (b : Bool). b && list_any (nat_lt 0x7F) c.args.literal.now) (sym c.is_marked-bytes.ensures)
    ∙ sym c.if-is_past_ascii.ensures in
    sym (literal_nul c.args.literal.now plain escape high (sym c.if-has_nul.ensures))

pub returns : goal.returns
returns c =
    let plain = sym c.if-is_marked.ensures in
    let same = ap escape_fault (same_meanings c.args.literal.now c.args.literal.now c.body.result c.is_marked-raw.result
    c.is_marked-bytes.result refl
    c.is_marked-raw.ensures c.is_marked-bytes.ensures c.body.ensures) in
    let escape = sym same ∙ sym c.escape_fault.ensures ∙ c.in_default.is in
    let high = ap (λ (b : Bool). b && list_any (nat_lt 0x7F) c.args.literal.now) (sym c.is_marked-bytes.ensures)
    ∙ sym c.if-is_past_ascii.ensures in
    sym (literal_sound c.args.literal.now plain escape high (sym c.if-has_nul.ensures))
