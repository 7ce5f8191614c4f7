use Rattle.std.proofs.Common.{◌≡◌, map, drop}
use Rattle.std.specs.List.{list_any}
use Rattle.pytoken.specs.FormattedStrings.{is_field_of}
use Rattle.pytoken.specs.Terminals.{element_terminals, expression, is_faulty}
use Rattle.pytoken.specs.TerminalOf.{terminal}
use Rattle.pytoken.specs.Inner.Pushing.{element_of}
use Rattle.pytoken.proofs.values.PushLemmas.{Leaves}
use Rattle.pytoken.proofs.values.outer.push_elements.Given as goal

abbrev pub invariant-elements : goal.invariant-elements
invariant-elements l = record {
  terminals : Leaves terminal (element_terminals expression) l.initial.out.items l.out.items (map element_of l.elements)
      (map element_of (drop l.element-index l.elements));
  faults : list_any (is_field_of is_faulty) (map element_of (drop l.element-index l.elements))
      ≡ list_any (is_field_of is_faulty) (map element_of l.elements);
}
