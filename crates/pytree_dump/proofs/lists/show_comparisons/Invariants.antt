use Rattle.std.proofs.Common.{◌≡◌, ◌++◌, true, map, drop}
use Rattle.std.specs.String.{string_bytes}
use Rattle.pytree_dump_text.specs.Layout.{members}
use Rattle.pytree_dump_text.specs.Shows.{word, comparison_name, showns}
use Rattle.pytree_dump.proofs.lists.show_comparisons.Given as goal

abbrev pub invariant-loop-c : goal.invariant-loop-c
invariant-loop-c l = record {
  text : string_bytes l.out ++ members l.style (string_bytes l.initial.indentation) l.first
      (showns (map (λ c. word (comparison_name c)) (drop l.c-index l.cs)))
      ≡ string_bytes l.initial.out ++ members l.style (string_bytes l.initial.indentation) true
      (showns (map (λ c. word (comparison_name c)) l.cs));
  indentation : string_bytes l.indentation ≡ string_bytes l.initial.indentation;
}
