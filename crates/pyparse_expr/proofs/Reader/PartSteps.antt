-- Targets, parameters and arguments of a line, by those of the parts of an expression.
--
-- Carries: target_at, parameters_at, arguments_at. On: Readings, Formals, ArgumentOrder.
use Rattle.std.proofs.Common.{◌≡◌, refl, sym, ap, ◌∙◌, arith, ℕ, ◌+◌, ◌-◌, List, [], map, Some, None, Bool, true, false, not, cond, Result}
use Rattle.pytree_node.specs.Trees
use Rattle.pytree_node.specs.Trees.{Arguments, Exprs, Keywords, exprs}
use Rattle.pytree_node.specs.TreeOf.{keyword_of, tree_of}
use Rattle.pytree_node.specs.Values.{Value}
use Rattle.pytoken.specs.Terminals.{Terminal}
use Rattle.pytoken.specs.declared.values.terminals.Terminal as given
use Rattle.pygrammar.specs.Arguments as rule
use Rattle.pygrammar.specs.Arguments.{in_order, positional}
use Rattle.pygrammar.specs.Capped.{capped}
use Rattle.pygrammar.specs.Entries.{Argument, Entry, Parameter}
use Rattle.pygrammar.specs.FormattedStrings.{StringPart}
use Rattle.pygrammar.specs.Parameters.{arranged}
use Rattle.pygrammar.specs.Reader.{Answer, Found, NoForm, Reads, and_then, listing_of, joined_step, literals, made, read_target}
use Rattle.pyparse_nodes.specs.declared.actual.Actual.{Actual}
use Rattle.pyparse_reads.specs.declared.depth.Depth.{Depth}
use Rattle.pyparse_nodes.specs.declared.found.Read.{Read}
use Rattle.pyparse_expr.specs.declared.signatures.Signature.{Signature}
use Rattle.pyparse_nodes.specs.declared.stop.Stop.{Stop}
use Rattle.pyparse_nodes.specs.Answers.{Answered, Failed, PartAnswered, PartAt}
use Rattle.pyparse_expr.specs.Inner.Arguments.{ActualAt, arguments_of, start}
use Rattle.pyparse_expr.specs.Inner.Arguments as actuals
use Rattle.pyparse_nodes.specs.Formals.{outcome}
use Rattle.pyparse_nodes.specs.FormalStates.{state_of}
use Rattle.pyparse_expr.specs.Inner.Readings.{inner_reads}
use Rattle.pyparse_reads.specs.Readings.{IsOuter}
use Rattle.pyparse_expr.specs.Inner.Signatures.{SignatureAt}
use Rattle.pyparse_reads.specs.Readings.{IsOpen, read_arguments, read_parameters, reads}
use Rattle.pyparse_nodes.specs.Views.{seen}
use Rattle.pyparse_expr.proofs.Calls.ArgumentOrder.{args_steps, keywords_steps, order_steps}
use Rattle.pyparse_expr.proofs.FormalParameters.Formals.{arranged_steps}
use Rattle.pyparse_expr.proofs.FormalParameters.ParameterSteps.{listed}
use Rattle.pyparse_expr.proofs.Reader.Reading.{failed_then}

pub outer_open : (o d : Depth) → IsOuter o d → IsOpen o
outer_open o d h = record { steps = omega (arith, h.steps); room = omega (arith, h.room) }

outer_reads : (o d : Depth) → IsOuter o d → inner_reads o ≡ reads d
outer_reads o d h = go (o.steps - 1) (o.room - 1) (omega (arith, h.steps)) (omega (arith, h.room))
  where
    go : (a b : ℕ) → a ≡ d.steps → b ≡ d.room → capped a b ≡ capped d.steps d.room
    go a b p q = rw (p, q) refl

module _ (ts : List given.Terminal) (o d : Depth) (at : ℕ) (h : IsOuter o d) where
  pub target_outer : (z : Result Read Stop) → Answered ts (o.room + 1) (at + 1) (read_target (inner_reads o) (seen ts at)) z
      → Answered ts (d.room + 2) (at + 1) (read_target (reads d) (seen ts at)) z
  target_outer z f =
      let r : o.room + 1 ≡ d.room + 2 = omega (arith, h.room) in
      rw (← r, ← outer_reads o d h) f

  pub literals_outer : (v : Value) (z : Result Read Stop) → PartAnswered ts at (literals (inner_reads o) v (seen ts at))
      (λ r. tree_of r.expr.value) (λ r. r.next) z → PartAnswered ts at (literals (reads d) v (seen ts at))
      (λ r. tree_of r.expr.value) (λ r. r.next) z
  literals_outer v z f = rw (← outer_reads o d h) f

  pub joined_outer : (u : Bool) (acc : List StringPart) (z : Result Read Stop)
      → PartAnswered ts at (joined_step (inner_reads o) u acc (seen ts at)) (λ r. tree_of r.expr.value) (λ r. r.next) z
      → PartAnswered ts at (joined_step (reads d) u acc (seen ts at)) (λ r. tree_of r.expr.value) (λ r. r.next) z
  joined_outer u acc z f = rw (← outer_reads o d h) f

  parameters_outer : listed o true (seen ts at) ≡ listing_of (reads d) (Parameter true) [] (seen ts at)
  parameters_outer = ap (λ (self : Reads). listing_of self (Parameter true) [] (seen ts at)) (outer_reads o d h)

  pub parameters_failed : (e : Stop) → Failed e (listed o true (seen ts at)) → Failed e (read_parameters d (seen ts at))
  parameters_failed e f = failed_then e (listing_of (reads d) (Parameter true) [] (seen ts at)) (λ ps r. made (arranged ps) r)
      (rw (← parameters_outer) f)

  module _ (room : ℕ) (s : Signature) (f : SignatureAt ts room at (listed o true (seen ts at)) s) where
    parameters_is : read_parameters d (seen ts at) ≡ made (outcome (state_of s.formal)) (seen ts s.next)
    parameters_is =
        ap (λ z. and_then z (λ ps r. made (arranged ps) r)) (sym parameters_outer ∙ f.is)
        ∙ ap (λ z. made z (seen ts s.next)) (arranged_steps f.entries ∙ ap outcome (sym f.state))

    pub parameters_wrong : outcome (state_of s.formal) ≡ None → read_parameters d (seen ts at) ≡ NoForm
    parameters_wrong q = parameters_is ∙ ap (λ z. made z (seen ts s.next)) q

    pub parameters_found : (a : Arguments) → outcome (state_of s.formal) ≡ Some a → PartAt ts at (read_parameters d (seen ts at)) a s.next
    parameters_found a q = record { ahead = f.ahead; within = f.within; is = parameters_is ∙ ap (λ z. made z (seen ts s.next)) q }

  arguments_outer : arguments_of o [] (seen ts at) ≡ listing_of (reads d) Argument [] (seen ts at)
  arguments_outer = ap (λ (self : Reads). listing_of self Argument [] (seen ts at)) (outer_reads o d h)

  abbrev ordered : List Entry → List Terminal → Answer (Exprs × Keywords)
  ordered es r = cond (in_order false false es) (Found (positional es, rule.keywords es) r) NoForm

  pub arguments_failed : (e : Stop) → Failed e (arguments_of o [] (seen ts at)) → Failed e (read_arguments d (seen ts at))
  arguments_failed e f = failed_then e (listing_of (reads d) Argument [] (seen ts at)) ordered (rw (← arguments_outer) f)

  module _ (room : ℕ) (a : Actual) (f : ActualAt ts room at start (arguments_of o [] (seen ts at)) a) where
    order_is : in_order false false f.entries ≡ not a.wrong
    order_is = order_steps f.entries ∙ ap (λ s. not (actuals.wrong_in s)) (sym f.gives)

    arguments_is : read_arguments d (seen ts at) ≡ cond (not a.wrong)
        (Found (exprs (map tree_of a.args.items), Trees.keywords (map keyword_of a.keywords.items)) (seen ts a.next)) NoForm
    arguments_is =
        let p : positional f.entries ≡ exprs (map tree_of a.args.items) = args_steps f.entries
        ∙ ap (λ s. exprs (actuals.args_in s)) (sym f.gives) in
        let k : rule.keywords f.entries ≡ Trees.keywords (map keyword_of a.keywords.items) = keywords_steps f.entries
        ∙ ap (λ s. Trees.keywords (actuals.keywords_in s)) (sym f.gives) in
        ap (λ z. and_then z ordered) (sym arguments_outer ∙ f.is)
        ∙ (λ i. cond (order_is i) (Found (p i, k i) (seen ts a.next)) NoForm)

    pub arguments_wrong : a.wrong ≡ true → read_arguments d (seen ts at) ≡ NoForm
    arguments_wrong q = arguments_is
        ∙ ap (λ b. cond (not b) (Found (exprs (map tree_of a.args.items), Trees.keywords (map keyword_of a.keywords.items))
        (seen ts a.next)) NoForm) q

    pub arguments_found : a.wrong ≡ false → PartAt ts at (read_arguments d (seen ts at)) (
      exprs (map tree_of a.args.items),
      Trees.keywords (map keyword_of a.keywords.items),
    ) a.next
    arguments_found q = record {
      ahead = f.ahead;
      within = f.within;
      is = arguments_is ∙ ap (λ b. cond (not b) (Found (exprs (map tree_of a.args.items), Trees.keywords (map keyword_of a.keywords.items))
          (seen ts a.next)) NoForm) q;
    }
