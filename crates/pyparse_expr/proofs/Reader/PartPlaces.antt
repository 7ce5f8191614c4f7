-- The places of the parts of headers.
--
-- Carries: parameters_at, arguments_at. On: ArgumentOrder, Formals.
use Rattle.std.proofs.Common.{◌≡◌, sym, ap, ◌∙◌, ℕ, List, map, Some, true, false, not}
use Rattle.pytree_node.specs.Trees
use Rattle.pytree_node.specs.Trees.{Arguments, exprs}
use Rattle.pytree_node.specs.TreeOf.{keyword_of, tree_of}
use Rattle.pytoken.specs.declared.values.terminals.Terminal as given
use Rattle.pyparse_nodes.specs.declared.actual.Actual.{Actual}
use Rattle.pyparse_nodes.specs.Formals.{outcome}
use Rattle.pyparse_nodes.specs.FormalStates.{state_of}
use Rattle.pyparse_nodes.specs.Views.{seen}
use Rattle.pyplaces.specs.Stretches.{Stretch}
use Rattle.pyplaces.proofs.Answers.{read_as}
use Rattle.pyparse_expr.specs.declared.signatures.Signature.{Signature}
use Rattle.pyparse_expr.specs.Inner.Arguments as actuals
use Rattle.pyparse_expr.specs.Inner.PlacedCalls.{ArgumentsPlaced}
use Rattle.pyparse_expr.specs.Inner.PlacedSignatures.{SignaturePlaced}
use Rattle.pyparse_reads.specs.PlacedParts.{BasesPlaced, ParametersPlaced}
use Rattle.pyparse_expr.proofs.Calls.ArgumentOrder.{args_steps, keywords_steps, order_steps}
use Rattle.pyparse_expr.proofs.FormalParameters.Formals.{arranged_steps}

module _ {S : Type 0} {after : S → Stretch → S} {ts : List given.Terminal} {at : ℕ} {u v : S} where
  pub parameters_placed : {s : Signature} (a : Arguments) (n : ℕ) → SignaturePlaced after ts true at s u v
      → outcome (state_of s.formal) ≡ Some a → n ≡ s.next → ParametersPlaced after ts at a n u v
  parameters_placed a n p q k = record {
    es = p.entries;
    places = p.places;
    parameters = arranged_steps p.entries ∙ (ap outcome (sym p.state) ∙ q);
    listing = read_as (seen ts) k p.listing;
    records = p.records a q;
  }

  pub bases_placed : {a : Actual} (n : ℕ) → ArgumentsPlaced after ts at a u v → a.wrong ≡ false → n ≡ a.next
      → BasesPlaced after ts at (exprs (map tree_of a.args.items)) (Trees.keywords (map keyword_of a.keywords.items)) n u v
  bases_placed n p w k = record {
    es = p.entries;
    places = p.places;
    order = order_steps p.entries ∙ (ap (λ s. not (actuals.wrong_in s)) (sym p.gives) ∙ ap not w);
    bases = args_steps p.entries ∙ ap (λ s. exprs (actuals.args_in s)) (sym p.gives);
    named = keywords_steps p.entries ∙ ap (λ s. Trees.keywords (actuals.keywords_in s)) (sym p.gives);
    listing = read_as (seen ts) k p.listing;
    records = p.records;
  }
