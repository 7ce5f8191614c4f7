use Rattle.std.proofs.Common.{◌≡◌, ℕ, List, sym, ap, subst, ◌∙◌, Option, None}
use Rattle.std.specs.Prelude.{IfOk, IfErr, OnOk}
use Rattle.std.specs.Str.{chars, IsUtf8}
use Rattle.std.proofs.lemmas.Str.{encodes-chars}
use Rattle.pylex_listing.specs.declared.kind.Kind.{Kind}
use Rattle.pylex_listing.specs.declared.kind.Kind.TheVariants as kinds
use Rattle.pytree_node.specs.declared.profiles.Extent.{Extent}
use Rattle.pytoken.specs.declared.faults.TokenError.{TokenError}
use Rattle.pytoken.specs.NumberValues.{number_fault}
use Rattle.pytoken.specs.Terminals.{Terminal, single_fault}
use Rattle.pytoken.specs.TerminalOf.{terminal, numbered, Tells}
use Rattle.pytoken.proofs.values.FaultLemmas
use Rattle.pytoken.proofs.values.TerminalLemmas.{of_name, of_number, of_string, of_op, of_comment, faultless, of_other}
use Rattle.pytoken.proofs.values.terminals.terminal_of.Goals as goal

pub returns-in-Name-clause-terminal : goal.returns-in-Name-clause-terminal
returns-in-Name-clause-terminal c =
    subst (λ (x : Terminal). IfOk c.name_terminal.result (λ made. terminal made ≡ x))
    (of_name c.args.kind (chars c.args.text.now) c.in-Name.is)
    c.name_terminal.ensures.terminal

pub returns-in-Name-clause-sound : goal.returns-in-Name-clause-sound
returns-in-Name-clause-sound c =
    subst (λ (f : Option TokenError). OnOk c.name_terminal.result (f ≡ None))
    (FaultLemmas.of_name c.args.extent c.args.kind (chars c.args.text.now) c.in-Name.is)
    c.name_terminal.ensures.sound

pub returns-in-Name-clause-refused : goal.returns-in-Name-clause-refused
returns-in-Name-clause-refused c =
    subst (λ (f : Option TokenError). IfErr c.name_terminal.result (Tells f))
    (FaultLemmas.of_name c.args.extent c.args.kind (chars c.args.text.now) c.in-Name.is)
    c.name_terminal.ensures.refused

pub returns-in-Number-clause-terminal : goal.returns-in-Number-clause-terminal
returns-in-Number-clause-terminal c =
    subst (λ (x : Terminal). IfOk c.number_terminal.result (λ made. terminal made ≡ x))
    (ap numbered (sym (encodes-chars c.args.text.now c.utf8.text)) ∙ of_number c.args.kind (chars c.args.text.now) c.in-Number.is)
    c.number_terminal.ensures.terminal

-- its fault by its bytes is that by its characters
number_same : (extent : Extent) (bytes : List ℕ) (k : Kind) → IsUtf8 bytes → k ≡ kinds.Number
    → number_fault extent bytes ≡ single_fault extent k (chars bytes)
number_same extent bytes k utf8 is =
    ap (λ (t : List ℕ). number_fault extent t) (sym (encodes-chars bytes utf8)) ∙ FaultLemmas.of_number extent k (chars bytes) is

pub returns-in-Number-clause-sound : goal.returns-in-Number-clause-sound
returns-in-Number-clause-sound c =
    subst (λ (f : Option TokenError). OnOk c.number_terminal.result (f ≡ None))
    (number_same c.args.extent c.args.text.now c.args.kind c.utf8.text c.in-Number.is) c.number_terminal.ensures.sound

pub returns-in-Number-clause-refused : goal.returns-in-Number-clause-refused
returns-in-Number-clause-refused c =
    subst (λ (f : Option TokenError). IfErr c.number_terminal.result (Tells f))
    (number_same c.args.extent c.args.text.now c.args.kind c.utf8.text c.in-Number.is) c.number_terminal.ensures.refused

pub returns-in-String-clause-terminal : goal.returns-in-String-clause-terminal
returns-in-String-clause-terminal c =
    subst (λ (x : Terminal). IfOk c.string_terminal.result (λ made. terminal made ≡ x))
    (of_string c.args.kind (chars c.args.text.now) c.in-String.is)
    c.string_terminal.ensures.terminal

pub returns-in-String-clause-sound : goal.returns-in-String-clause-sound
returns-in-String-clause-sound c =
    subst (λ (f : Option TokenError). OnOk c.string_terminal.result (f ≡ None))
    (FaultLemmas.of_string c.args.extent c.args.kind (chars c.args.text.now) c.in-String.is)
    c.string_terminal.ensures.sound

pub returns-in-String-clause-refused : goal.returns-in-String-clause-refused
returns-in-String-clause-refused c =
    subst (λ (f : Option TokenError). IfErr c.string_terminal.result (Tells f))
    (FaultLemmas.of_string c.args.extent c.args.kind (chars c.args.text.now) c.in-String.is)
    c.string_terminal.ensures.refused

pub returns-in-Op-clause-sound : goal.returns-in-Op-clause-sound
returns-in-Op-clause-sound c = sym (faultless c.args.extent c.args.kind (chars c.args.text.now) c.in-Op.is)

pub returns-in-Op-clause-terminal : goal.returns-in-Op-clause-terminal
returns-in-Op-clause-terminal c = c.operator_terminal.ensures ∙ of_op c.args.kind (chars c.args.text.now) c.in-Op.is

pub returns-in-Some-clause-refused : goal.returns-in-Some-clause-refused
returns-in-Some-clause-refused c =
    sym (FaultLemmas.of_comment c.args.extent c.args.kind (chars c.args.text.now) c.in-Comment.is)
    ∙ sym c.comment_fault.ensures ∙ c.in-Some.is

pub returns-in-None-clause-terminal : goal.returns-in-None-clause-terminal
returns-in-None-clause-terminal c = of_comment c.args.kind (chars c.args.text.now) c.in-Comment.is

pub returns-in-None-clause-sound : goal.returns-in-None-clause-sound
returns-in-None-clause-sound c =
    sym (FaultLemmas.of_comment c.args.extent c.args.kind (chars c.args.text.now) c.in-Comment.is)
    ∙ sym c.comment_fault.ensures ∙ c.in-None.is

pub returns-in_default : goal.returns-in_default
returns-in_default c =
    let t = chars c.args.text.now in
    let other = c.in_default in
    record {
      terminal = of_other c.args.kind t other.not-Name other.not-Number other.not-String other.not-Op;
      sound = sym (FaultLemmas.of_other c.args.extent c.args.kind t other.not-Name other.not-Number other.not-String other.not-Comment);
      refused = tt;
    }
