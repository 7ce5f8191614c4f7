use Rattle.std.proofs.Common.{◌≡◌, ◌+◌, List, [], ◌∷◌, ◌++◌, true, false, map, Option, is_some, refl, sym, ap, subst, ◌∙◌}
use Rattle.std.specs.Prelude.{OnOk}
use Rattle.std.specs.Str.{chars}
use Rattle.pylex_lexeme.specs.Characters.{left_parenthesis, right_parenthesis}
use Rattle.pylex_lexeme.specs.declared.kinds.Exact.TheVariants.{LPar, RPar}
use Rattle.pylex_listing.specs.declared.kind.Kind.{Kind}
use Rattle.pylex_listing.specs.declared.kind.Kind.TheVariants as kinds
use Rattle.pyfstring_tokens.specs.Answers.{field_token}
use Rattle.pytree_node.specs.declared.profiles.Extent.TheVariants.{Whole}
use Rattle.pyfstring_tokens.specs.FieldTokens.{FieldToken}
use Rattle.pytoken.specs.declared.faults.TokenError.{TokenError}
use Rattle.pytoken.specs.Terminals.{Terminal, Op, terminal_of, single_fault, nested_expression}
use Rattle.pytoken.specs.TerminalOf.{terminal}
use Rattle.pytoken.proofs.values.FieldLemmas.{reads_first, reads_on, reads_last, reads_sound, refused_faulty, token_faulty}
use Rattle.pytoken.proofs.values.FormattedLemmas.{opening_terminal, closing_terminal, single_operator}
use Rattle.pytoken.proofs.values.Faulting.{passed_on, on_ok}
use Rattle.pytoken.proofs.values.nested.push_nested_expression.Goals as goal

abbrev terminals_in : FieldToken → List Terminal
terminals_in = λ x. terminal_of x.kind x.text ∷ []

opening_is : terminal_of kinds.Op (left_parenthesis ∷ []) ∷ [] ≡ Op LPar ∷ []
opening_is = ap (λ (x : Terminal). x ∷ []) opening_terminal

closing_is : terminal_of kinds.Op (right_parenthesis ∷ []) ∷ [] ≡ Op RPar ∷ []
closing_is = ap (λ (x : Terminal). x ∷ []) closing_terminal

pub tokens-init : goal.tokens-init
tokens-init c =
    let text = chars c.args.text.now in
    let start = map terminal c.args.out.now.items in (
      0,
      c.new-tokens.ensures.begins.stands,
      reads_first terminals_in (single_fault Whole) start _ text c.new-tokens.ensures.begins.first (single_operator (left_parenthesis ∷ []))
          (c.in_ok-push.ensures.terminals ∙ ap (λ (ts : List Terminal). start ++ ts) (sym opening_is)),
    )

pub tokens-preserved : goal.tokens-preserved
tokens-preserved c =
    let text = chars c.args.text.now in
    let i = c.tokens.invariant in
    let t = chars c.in-Ok-Some.token.now in
    let now = map terminal c.tokens.out.items in
    let next = map terminal c.push_single.new.out.items in
    let given = rw c.in-Ok-Some.field-0-is at c.in-Ok-Some.ensures.gives in
    let step = given text i.0 i.1 in
    let pushed = c.in_ok-push_single-in-Ok-Some.ensures in (
      i.0 + 1,
      step.1,
      reads_on terminals_in (single_fault Whole) (map terminal c.args.out.now.items) now next text i.0
          (field_token c.in-Ok-Some.class t) step.0
          (subst (λ (k : Kind). is_some (single_fault Whole k t) ≡ false) c.kind_of.ensures
          (ap (λ (f : Option TokenError). is_some f) pushed.sound))
          (subst (λ (k : Kind). next ≡ now ++ (terminal_of k t ∷ [])) c.kind_of.ensures pushed.terminals) i.2,
    )

pub returns-in_err-push_single-in-Ok-Some-clause-refused : goal.returns-in_err-push_single-in-Ok-Some-clause-refused
returns-in_err-push_single-in-Ok-Some-clause-refused c =
    let text = chars c.args.text.now in
    let i = c.tokens.invariant in
    let t = chars c.in-Ok-Some.token.now in
    let r = c.from_residual-in_err-push_single-in-Ok-Some in
    let given = rw c.in-Ok-Some.field-0-is at c.in-Ok-Some.ensures.gives in
    passed_on r.result c.in_err-push_single-in-Ok-Some.field-0.0 r.ensures.1
    (λ b. token_faulty terminals_in (single_fault Whole) (map terminal c.args.out.now.items) (map terminal c.tokens.out.items) text i.0
    (field_token c.in-Ok-Some.class t) (given text i.0 i.1).0
    (subst (λ (k : Kind). is_some (single_fault Whole k t) ≡ true) c.kind_of.ensures b) i.2)
    c.in_err-push_single-in-Ok-Some.ensures.refused

pub returns-in-Ok-None-clause-terminals : goal.returns-in-Ok-None-clause-terminals
unfolding nested_expression
returns-in-Ok-None-clause-terminals c =
    let text = chars c.args.text.now in
    let i = c.tokens.invariant in
    let now = map terminal c.tokens.out.items in
    let last = map terminal c.push-in-Ok-None.new.out.items in
    let ends = rw c.in-Ok-None.field-0-is at c.in-Ok-None.ensures.ends in
    reads_last terminals_in (single_fault Whole) (map terminal c.args.out.now.items) now last text i.0
    c.push-in-Ok-None.result (ends text i.0 i.1)
    (subst (λ (ts : List Terminal). OnOk c.push-in-Ok-None.result (last ≡ now ++ ts)) (sym closing_is) c.push-in-Ok-None.ensures.terminals)
    i.2

pub returns-in-Ok-None-clause-sound : goal.returns-in-Ok-None-clause-sound
returns-in-Ok-None-clause-sound c =
    let text = chars c.args.text.now in
    let i = c.tokens.invariant in
    let ends = rw c.in-Ok-None.field-0-is at c.in-Ok-None.ensures.ends in
    on_ok c.push-in-Ok-None.result
    (reads_sound terminals_in (single_fault Whole) (map terminal c.args.out.now.items) (map terminal c.tokens.out.items)
    text i.0 (ends text i.0 i.1)
    (single_operator (right_parenthesis ∷ [])) i.2)

pub returns-in-Err-clause-refused : goal.returns-in-Err-clause-refused
returns-in-Err-clause-refused c =
    let text = chars c.args.text.now in
    let i = c.tokens.invariant in
    (refl, refused_faulty (single_fault Whole) text c.in-Err.field-0 (c.in-Err.ensures.refuses text i.0 i.1))
