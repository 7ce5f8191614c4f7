use Rattle.std.proofs.Common.{ℕ, map, [], ◌∷◌}
use Rattle.std.specs.Str.{chars}
use Rattle.pyfstring_tokens.specs.Standing.{StandsIn, bytes_left}
use Rattle.pytree_node.specs.declared.profiles.Extent.TheVariants.{Whole}
use Rattle.pytoken.specs.Terminals.{terminal_of, single_fault}
use Rattle.pytoken.specs.TerminalOf.{terminal}
use Rattle.pytoken.proofs.values.FieldLemmas.{Reads}
use Rattle.pytoken.proofs.values.nested.push_nested_expression.Given as goal

abbrev pub invariant-tokens : goal.invariant-tokens
invariant-tokens l =
    (n : ℕ) × StandsIn l.tokens (chars l.fn.text) n
    × Reads (λ x. terminal_of x.kind x.text ∷ []) (single_fault Whole) (map terminal l.fn.out.items)
    (map terminal l.out.items) (chars l.fn.text) n

abbrev pub decreases-tokens : goal.decreases-tokens
decreases-tokens l = bytes_left l.tokens
