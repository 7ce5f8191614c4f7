use Rattle.std.proofs.Common.{rules, ◌≡◌, ◌+◌, ◌-◌, ◌++◌, length, replicate, ap, ◌∙◌, arith, length-append}
use Rattle.std.specs.String.{string_bytes}
use Rattle.pylex.proofs.Texts.LinesLemmas.{blank_at, cut_filling}
use Rattle.pylex.proofs.lines.push_filling.Goals as goal

pub truncate-requires : goal.truncate-requires
truncate-requires c =
    let old = string_bytes c.args.out.now in
    let grown : string_bytes c.push_str.new.self ≡ old ++ replicate 20 32 = search rules in
    let start : c.len.result ≡ length old = search rules in
    let size : length (string_bytes c.push_str.new.self) ≡ length old + 20 = ap length grown ∙ length-append old (replicate 20 32) in
    let at = c.len.result + (c.args.width - c.args.taken) in
    λ _. (
      omega (arith, size, start, c.requires),
      λ _ inside high. absurd (omega (arith, high, blank_at old 20 at _ grown (omega (arith, start)) inside)),
    )

pub returns-clause-ok : goal.returns-clause-ok
returns-clause-ok c =
    let old = string_bytes c.args.out.now in
    let grown : string_bytes c.push_str.new.self ≡ old ++ replicate 20 32 = search rules in
    let start : c.len.result ≡ length old = search rules in
    c.truncate.ensures.bytes ∙ cut_filling old 20 (c.args.width - c.args.taken) _ _ (omega (arith, c.requires)) start grown
