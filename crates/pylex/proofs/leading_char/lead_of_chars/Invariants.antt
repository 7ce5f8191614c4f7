use Rattle.std.proofs.Common.{◌≡◌}
use Rattle.std.specs.Str.{chars, IsUtf8}
use Rattle.std.specs.Str.Iter.{chars_rest}
use Rattle.pylex_listing.specs.declared.leading_char.LeadingChar.TheVariants.{Nothing}
use Rattle.pylex_listing.specs.Machine.{lead_after}
use Rattle.pylex.proofs.Texts.Plain.{AllInLine}
use Rattle.pylex.proofs.leading_char.lead_of_chars.Given as goal

abbrev pub invariant-loop-c : goal.invariant-loop-c
invariant-loop-c l = record {
  begins : lead_after Nothing (chars (chars_rest l.c-iterator)) ≡ lead_after Nothing (chars l.fn.text);
  utf8 : IsUtf8 (chars_rest l.c-iterator);
  in_line : AllInLine (chars (chars_rest l.c-iterator));
}
