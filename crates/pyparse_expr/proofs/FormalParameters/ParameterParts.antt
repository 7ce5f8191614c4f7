-- What stands after a sign, and one parameter by what it begins with.
--
-- Carries: suffixed, read_parameter. On: Reading.
use Rattle.std.proofs.Common.{◌≡◌, sym, ap, ◌∙◌, arith, ℕ, ◌+◌, ◌-◌, ◌≤◌, List, Option, Some, Bool, Result, Ok, Err}
use Rattle.pylex_lexeme.specs.declared.kinds.Exact.{Exact}
use Rattle.pylex_lexeme.specs.declared.kinds.Exact.TheVariants.{Star, DoubleStar}
use Rattle.pytree_node.specs.Trees.{OptionalExpr, absent, present, optional, Identifier}
use Rattle.pytree_node.specs.TreeOf.{tree_of, boxed_of}
use Rattle.pytoken.specs.Terminals.{Terminal, Op}
use Rattle.pytoken.specs.declared.values.terminals.Terminal as given
use Rattle.pygrammar.specs.declared.levels.Level.TheVariants as level
use Rattle.pygrammar.specs.Entries.{Entry, Bare}
use Rattle.pygrammar.specs.Looks.{is_op, name_in}
use Rattle.pygrammar.specs.Reader.{Answer, Found, NoForm, and_then, on_first, on_some, suffixed, read_parameter}
use Rattle.pygrammar.proofs.Callers.Terminals.{op_is}
use Rattle.pyparse_reads.specs.declared.depth.Depth.{Depth}
use Rattle.pyparse_nodes.specs.declared.found.Optional.{Optional}
use Rattle.pyparse_nodes.specs.declared.found.Read.{Read}
use Rattle.pyparse_expr.specs.declared.signatures.ReadParameter.{ReadParameter}
use Rattle.pyparse_nodes.specs.declared.stop.Stop.{Stop}
use Rattle.pyparse_nodes.specs.Answers.{Failed, FoundAt}
use Rattle.pyparse_expr.specs.Inner.Found.{OptionalAt}
use Rattle.pyparse_expr.specs.Inner.Readings.{inner_reads}
use Rattle.pyparse_expr.specs.Inner.Signatures.{ParameterAnswered, plain_reads, gathered_reads, collected_reads}
use Rattle.pyparse_nodes.specs.Views.{Stands, seen, first_is}
use Rattle.pyparse_expr.proofs.Reader.Reading.{failed_then, first_hit, seen_next}

module _ (ts : List given.Terminal) (d : Depth) (at : ℕ) where
  abbrev expressed : List Terminal → Answer OptionalExpr
  expressed r = and_then (inner_reads d level.Expression r) (λ e r2. Found (present e) r2)

  suffix_is : (s : Exact) → Stands (Op s) ts at → suffixed (inner_reads d) (Some s) (seen ts at) ≡ expressed (seen ts (at + 1))
  suffix_is s h =
      ap (λ r. on_first (is_op s) r (λ _ r1. expressed r1) (Found absent (seen ts at))) h.is
      ∙ ap (λ o. on_some o (λ _. expressed (seen ts (at + 1))) (Found absent (seen ts at))) (op_is s)

  pub suffix_failed : (s : Exact) (e : Stop) → Stands (Op s) ts at → Failed e (inner_reads d level.Expression (seen ts (at + 1)))
      → Failed e (suffixed (inner_reads d) (Some s) (seen ts at))
  suffix_failed s e h f = rw (suffix_is s h) (failed_then e _ (λ e2 r2. Found (present e2) r2) f)

  pub suffix_found : (o : Option Exact) (s : Exact) (e : Read) (r : Optional) → o ≡ Some s → Stands (Op s) ts at
      → FoundAt ts (d.room - 1) (at + 1 + 1) (inner_reads d level.Expression (seen ts (at + 1))) e
      → boxed_of r.expr ≡ Some (tree_of e.expr.value) → r.height ≡ e.height → r.next ≡ e.next
      → OptionalAt ts d.room at (suffixed (inner_reads d) o (seen ts at)) r
  suffix_found o s e r w h f q p k = record {
    ahead = omega (arith, k, f.ahead);
    within = omega (arith, k, f.within);
    low = omega (arith, p, f.low);
    is = ap (λ z. suffixed (inner_reads d) z (seen ts at)) w
        ∙ suffix_is s h
        ∙ ap (λ z. and_then z (λ e2 r2. Found (present e2) r2)) f.is
        ∙ ap (λ z. Found (optional z) (seen ts e.next)) (sym q)
        ∙ ap (λ n. Found (optional (boxed_of r.expr)) (seen ts n)) (sym k);
  }

name_next : {B : Type 0} (ts : List given.Terminal) (at : ℕ) (x : Identifier) (hit : Identifier → List Terminal → B) (miss : B)
    → Some x ≡ first_is name_in (seen ts at) → on_first name_in (seen ts at) hit miss ≡ hit x (seen ts (at + 1))
name_next ts at x hit miss h = first_hit name_in (seen ts at) x hit miss h ∙ ap (λ r. hit x r) (seen_next ts at)

-- a parameter, by what it begins with
module _ (ts : List given.Terminal) (d : Depth) (b : Bool) (at : ℕ) where
  pub by_name : (x : Identifier) → Some x ≡ first_is name_in (seen ts at) → read_parameter (inner_reads d) b (seen ts at) ≡ plain_reads
      d b x (seen ts (at + 1))
  by_name x h = name_next ts at x _ _ h

  pub by_star : (x : Identifier) → Stands (Op Star) ts at → Some x ≡ first_is name_in (seen ts (at + 1))
      → read_parameter (inner_reads d) b (seen ts at) ≡ gathered_reads d b x (seen ts (at + 2))
  by_star x h q =
      ap (λ r. read_parameter (inner_reads d) b r) h.is
      ∙ name_next ts (at + 1) x (λ y r. gathered_reads d b y r) (Found Bare (seen ts (at + 1))) q
      ∙ ap (λ n. gathered_reads d b x (seen ts n)) (omega arith)

  pub by_stars : (x : Identifier) → Stands (Op DoubleStar) ts at → Some x ≡ first_is name_in (seen ts (at + 1))
      → read_parameter (inner_reads d) b (seen ts at) ≡ collected_reads d b x (seen ts (at + 2))
  by_stars x h q =
      ap (λ r. read_parameter (inner_reads d) b r) h.is
      ∙ name_next ts (at + 1) x (λ y r. collected_reads d b y r) NoForm q
      ∙ ap (λ n. collected_reads d b x (seen ts n)) (omega arith)

  -- what is said of the terminals after its begin
  pub parameter_earlier : (x y : Answer Entry) (least most : ℕ) (z : Result ReadParameter Stop) → x ≡ y → least ≤ most
      → ParameterAnswered ts d.room most y z → ParameterAnswered ts d.room least x z
  parameter_earlier x y least most (Ok r) q le h = record {
    ahead = omega (arith, le, h.ahead);
    within = h.within;
    low = h.low;
    is =
        q ∙ h.is;
    tall = h.tall;
  }
  parameter_earlier x y least most (Err s) q le h = rw q h
