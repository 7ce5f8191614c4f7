use Rattle.std.proofs.Common.{ℕ, map, true}
use Rattle.std.specs.Str.{chars}
use Rattle.pyfstring_tokens.specs.Standing.{StandsIn, bytes_left}
use Rattle.pytoken.specs.Terminals.{terminals_by, nested_expression, field_fault}
use Rattle.pytoken.specs.TerminalOf.{terminal}
use Rattle.pytoken.proofs.values.FieldLemmas.{Reads}
use Rattle.pytoken.proofs.values.outer.push_expression.Given as goal

abbrev pub invariant-tokens : goal.invariant-tokens
invariant-tokens l =
    (n : ℕ) × StandsIn l.tokens (chars l.fn.text) n
    × Reads (λ x. terminals_by true nested_expression x.kind x.text) field_fault (map terminal l.fn.out.items) (map terminal l.out.items)
    (chars l.fn.text) n

abbrev pub decreases-tokens : goal.decreases-tokens
decreases-tokens l = bytes_left l.tokens
