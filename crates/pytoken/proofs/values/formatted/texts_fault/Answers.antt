use Rattle.pytoken.specs.FormattedStrings.{element_meanings}
use Rattle.pytoken.specs.Inner.Pushing.{element_of}
use Rattle.pytoken.proofs.values.PushLemmas.{read_again}
use Rattle.pytoken.proofs.values.EscapeFaults.{faults_one, faults_end}
use Rattle.pytoken.proofs.values.formatted.texts_fault.Goals as goal

pub elements-preserved : goal.elements-preserved
elements-preserved c =
    let xs = c.args.elements.now in
    faults_one element_meanings element_of xs c.elements.element-index _ c.elements.fault _ _ _ c.elements-test.true
    (read_again xs c.elements.element-index _ c.elements-test.true) c.in_ok-element_fault.ensures
    c.first_fault-fault.ensures c.elements.invariant

pub returns : goal.returns
returns c =
    faults_end element_meanings element_of c.args.elements.now c.elements.element-index c.elements.fault _
    c.elements-test.false c.elements.invariant
