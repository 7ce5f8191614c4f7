-- The keys of mappings.
--
-- Carries: dotted_key, any_key. On: Points, Values.
use Rattle.std.proofs.Common.{◌≡◌, refl, sym, ap, subst, ◌∙◌, arith, ℕ, ◌+◌, ◌-◌, ◌<◌, List, length, Some, Result, Ok, Err, MatchResult}
use Rattle.pylex_lexeme.specs.declared.kinds.Exact.TheVariants.{Dot}
use Rattle.pytoken.specs.declared.keywords.Keyword.{Keyword}
use Rattle.pytree_node.specs.Trees
use Rattle.pytree_node.specs.Trees.{Expr, Identifier}
use Rattle.pytree_node.specs.TreeOf.{tree_of}
use Rattle.pytree_node.specs.Values.{Value}
use Rattle.pytoken.specs.Terminals.{Spelled, Ident, Op, Word}
use Rattle.pytoken.specs.declared.values.terminals.Terminal as given
use Rattle.pygrammar.specs.PatternOperators.{singleton_word}
use Rattle.pygrammar.specs.PatternReader.{cap_value, dotted_from, named_key}
use Rattle.pygrammar.specs.Reader.{Answer, Found, NoForm, TooDeep, and_then, on_some}
use Rattle.pyparse_nodes.specs.declared.found.Read.{Read}
use Rattle.pyparse_nodes.specs.declared.stop.Stop.{Stop}
use Rattle.pyparse_nodes.specs.declared.stop.Stop.TheVariants as stop
use Rattle.pyparse_nodes.specs.Answers.{Answered, Made}
use Rattle.pyparse_nodes.specs.Views.{Stands, first_of, seen}
use Rattle.pyparse_reads.specs.Readings.{IsOpen}
use Rattle.pyparse_reads.specs.declared.depth.Depth.{Depth}
use Rattle.pyparse_reads.proofs.Callers.Looks.{front}
use Rattle.pyparse_pattern.specs.Inner.Values.{keys}
use Rattle.pyparse_pattern.proofs.Caps.{low_answered}
use Rattle.pyparse_pattern.proofs.Points.{after_point}

-- no change after an answer
unchanged : (x : Answer Expr) → and_then x (λ e r. Found e r) ≡ x
unchanged (Found e r) = refl
unchanged NoForm = refl
unchanged TooDeep = refl

pub key_dotted : (ts : List given.Terminal) (room at : ℕ) (x : Identifier) (z : Result Read Stop) → Stands (Op Dot) ts at
    → Answered ts (room + 1) at (dotted_from room x (seen ts at)) z
    → Answered ts (room + 1) at (and_then (dotted_from room x (seen ts at)) named_key) z
key_dotted ts room at x z s a =
    let e : and_then (dotted_from room x (seen ts at)) named_key ≡ dotted_from room x (seen ts at) =
    after_point room named_key (λ f r. Found f r) (λ f y r. refl) ts at x s ∙ unchanged (dotted_from room x (seen ts at)) in
    rw e a

module _ (ts : List given.Terminal) (d : Depth) (at : ℕ) (o : IsOpen d) where
  pub key_named : (room : ℕ) (x : Spelled) (z : Result Read Stop) → room ≡ d.room - 1 → first_of (seen ts at) ≡ Some (Ident x)
      → Answered ts (room + 1) (at + 1) (and_then (dotted_from room x.form (seen ts (at + 1))) named_key) z
      → Answered ts d.room (at + 1) (cap_value d.room (keys d (seen ts at))) z
  key_named room x z q h a =
      let e : keys d (seen ts at) ≡ and_then (dotted_from room x.form (seen ts (at + 1))) named_key =
      rw (front ts at (Ident x) h, q) refl in
      let n : room + 1 ≡ d.room = omega (arith, q, o.room) in
      rw e (low_answered ts d.room (at + 1) _ z
      (subst (λ m. Answered ts m (at + 1) (and_then (dotted_from room x.form (seen ts (at + 1))) named_key) z) n a))

  pub key_word : (w : Keyword) (v : Value) (z : Result Read Stop) → at < length ts → first_of (seen ts at) ≡ Some (Word w)
      → singleton_word (Word w) ≡ Some v → MatchResult z (λ r. Made 1 (Trees.Constant v) (at + 1) r) (λ s. s ≡ stop.Memory)
      → Answered ts d.room (at + 1) (cap_value d.room (keys d (seen ts at))) z
  key_word w v z l h e m =
      let f : keys d (seen ts at) ≡ Found (Trees.Constant v) (seen ts (at + 1)) =
      rw (front ts at (Word w) h) (ap (λ k. on_some k (λ u. Found (Trees.Constant u) (seen ts (at + 1))) NoForm) e) in
      rw f (low_answered ts d.room (at + 1) (Found (Trees.Constant v) (seen ts (at + 1))) z (go z m))
    where
      go : (y : Result Read Stop) → MatchResult y (λ r. Made 1 (Trees.Constant v) (at + 1) r) (λ s. s ≡ stop.Memory)
          → Answered ts d.room (at + 1) (Found (Trees.Constant v) (seen ts (at + 1))) y
      go (Ok r) k = record {
        ahead = omega (arith, k.next_is);
        within = omega (arith, k.next_is, l);
        low = omega (arith, k.low, o.room);
        is = ap (λ t. Found t (seen ts (at + 1))) (sym k.tree) ∙ ap (λ n. Found (tree_of r.expr.value) (seen ts n)) (sym k.next_is);
      }
      go (Err stop.NoForm) k = absurd (cc)
      go (Err stop.TooDeep) k = absurd (cc)
      go (Err stop.Memory) k = tt
