use Rattle.std.proofs.Common.{◌≡◌, drop}
use Rattle.std.specs.Prelude.{◌||◌}
use Rattle.std.specs.List.{list_any}
use Rattle.pylex_lexeme.specs.Numbers.{is_point, is_e}
use Rattle.pytoken.proofs.values.numbers.has_fraction.Given as goal

abbrev pub invariant-loop-byte : goal.invariant-loop-byte
invariant-loop-byte l =
    list_any (λ c. is_point c || is_e c) (drop l.byte-index l.text) ≡ list_any (λ c. is_point c || is_e c) l.text
