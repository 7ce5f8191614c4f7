use Rattle.std.proofs.Common.{◌≡◌, length, sym, ap, arith}
use Rattle.std.proofs.lemmas.Bool.Decides.{nat_tests}
use Rattle.pylex_listing.specs.declared.leading_char.LeadingChar.TheVariants.{Nothing}
use Rattle.pylex_listing.specs.Machine.{lead_after}
use Rattle.pylex.proofs.MachineLaws.Walking.{no_chars}
use Rattle.pylex.proofs.leading_char.lead_of.Goals as goal

pub returns-then-is_empty : goal.returns-then-is_empty
returns-then-is_empty c =
    let empty = c.if-is_empty.ensures in
    let none : length c.args.line.now ≡ 0 = grind (arith, nat_tests) in
    sym (ap (lead_after Nothing) (no_chars c.args.line.now none))
