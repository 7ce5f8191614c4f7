use Rattle.pytoken.specs.FormattedStrings.{is_field_of}
use Rattle.pytoken.specs.Terminals.{element_terminals, nested_expression, is_nested_faulty}
use Rattle.pytoken.specs.TerminalOf.{terminal}
use Rattle.pytoken.specs.Inner.Pushing.{element_of}
use Rattle.pytoken.proofs.values.PushLemmas.{read_again, leaves_one, leaves_none, passes_over, one_passes, none_passes}
use Rattle.pytoken.proofs.values.Faulting.{passed_on}
use Rattle.pytoken.proofs.values.nested.push_nested_elements.Goals as goal

pub elements-preserved : goal.elements-preserved
elements-preserved c =
    let xs = c.args.elements.now in
    let i = c.elements.element-index in
    let within = c.elements-test.true in
    record {
      terminals = leaves_one terminal (element_terminals nested_expression) element_of _ c.elements.out.items _ xs i _
          within (read_again xs i _ within) c.elements.invariant.terminals c.in_ok-push_nested_element.ensures.terminals;
      faults = passes_over (is_field_of is_nested_faulty) element_of xs i _ within (read_again xs i _ within)
          c.in_ok-push_nested_element.ensures.sound c.elements.invariant.faults;
    }

pub returns-clause-terminals : goal.returns-clause-terminals
returns-clause-terminals c =
    leaves_none terminal (element_terminals nested_expression) element_of _ c.elements.out.items c.args.elements.now
    c.elements.element-index
    c.elements-test.false c.elements.invariant.terminals

pub returns-clause-sound : goal.returns-clause-sound
returns-clause-sound c =
    none_passes (is_field_of is_nested_faulty) element_of c.args.elements.now c.elements.element-index c.elements-test.false
    c.elements.invariant.faults

pub returns-in_err-push_nested_element-clause-refused : goal.returns-in_err-push_nested_element-clause-refused
returns-in_err-push_nested_element-clause-refused c =
    let r = c.from_residual in
    let xs = c.args.elements.now in
    let i = c.elements.element-index in
    let within = c.elements-test.true in
    passed_on r.result _ r.ensures.1
    (λ b. one_passes (is_field_of is_nested_faulty) element_of xs i _ within (read_again xs i _ within) b c.elements.invariant.faults)
    c.in_err-push_nested_element.ensures.refused
