use Rattle.std.proofs.Common.{true, map, ◌∙◌}
use Rattle.std.specs.List.{list_any}
use Rattle.std.specs.Str.{chars}
use Rattle.pytoken.specs.FormattedStrings.{is_field_of, elements_of, elements_fault}
use Rattle.pytoken.specs.Terminals.{is_nested_faulty}
use Rattle.pytoken.specs.Inner.Pushing.{element_of}
use Rattle.pytoken.proofs.values.FormattedLemmas.{fault_in_field, fault_found, by_cut, cut_passed_on}
use Rattle.pytoken.proofs.values.Faulting.{told_around}
use Rattle.pytoken.proofs.values.nested.push_nested.Goals as goal

pub returns-in_err-elements-clause-refused : goal.returns-in_err-elements-clause-refused
returns-in_err-elements-clause-refused c =
    let t = chars c.args.text.now in
    cut_passed_on c.from_residual.result c.in_err-elements.field-0.0 (elements_fault is_nested_faulty t (elements_of true t))
    c.from_residual.ensures.1 (by_cut is_nested_faulty t (elements_of true t)) c.in_err-elements.ensures.malformed

pub returns-in_err-push_nested_elements-clause-refused : goal.returns-in_err-push_nested_elements-clause-refused
returns-in_err-push_nested_elements-clause-refused c =
    let t = chars c.args.text.now in
    let made = c.in_ok-elements in
    let read = c.deref in
    let r = c.from_residual-in_err-push_nested_elements in
    told_around (elements_fault is_nested_faulty t (elements_of true t))
    (list_any (is_field_of is_nested_faulty) (map element_of read.result.now))
    r.result c.in_err-push_nested_elements.field-0.0 r.ensures.1
    (fault_in_field is_nested_faulty element_of t (elements_of true t) made.elements.items read.result.now
    made.ensures.cut read.ensures.value)
    c.in_err-push_nested_elements.ensures.refused

pub returns-in-Some-clause-refused : goal.returns-in-Some-clause-refused
returns-in-Some-clause-refused c =
    let t = chars c.args.text.now in
    let made = c.in_ok-elements in
    let read = c.deref in
    let again = c.deref-2 in
    fault_found is_nested_faulty element_of t (elements_of true t) made.elements.items read.result.now
    again.result.now c.in_ok-error.field-0
    made.ensures.cut read.ensures.value again.ensures.value c.in_ok-push_nested_elements.ensures.sound c.in_ok-error.ensures ∙ c.in-Some.is

pub returns-clause-sound : goal.returns-clause-sound
returns-clause-sound c =
    let t = chars c.args.text.now in
    let made = c.in_ok-elements in
    let read = c.deref in
    let again = c.deref-2 in
    fault_found is_nested_faulty element_of t (elements_of true t) made.elements.items read.result.now
    again.result.now c.in_ok-error.field-0
    made.ensures.cut read.ensures.value again.ensures.value c.in_ok-push_nested_elements.ensures.sound c.in_ok-error.ensures ∙ c.in-None.is
