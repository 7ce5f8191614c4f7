use Rattle.std.proofs.Common.{◌≡◌, ◌++◌, true, map, drop}
use Rattle.std.specs.String.{string_bytes}
use Rattle.pytree_dump_text.specs.Layout.{members}
use Rattle.pytree_dump_text.specs.Shows.{shown_name, showns}
use Rattle.pytree_dump.proofs.lists.show_names.Given as goal

abbrev pub invariant-loop-name : goal.invariant-loop-name
invariant-loop-name l = record {
  text : string_bytes l.out ++ members l.style (string_bytes l.initial.indentation) l.first
      (showns (map (λ name. shown_name name) (drop l.name-index l.names)))
      ≡ string_bytes l.initial.out ++ members l.style (string_bytes l.initial.indentation) true
      (showns (map (λ name. shown_name name) l.names));
  indentation : string_bytes l.indentation ≡ string_bytes l.initial.indentation;
}
