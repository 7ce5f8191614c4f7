-- Patterns by their first terminal, and what follows a name.
--
-- Carries: read_closed, name_pattern, and what is read further in. On: PatternReader, Points.
use Rattle.std.proofs.Common.{◌≡◌, inl, inr, refl, sym, ap, subst, ◌∙◌, arith, ℕ, ◌+◌, ◌-◌, ◌<◌, List, [], ◌∷◌, length, Option, Some, None}
use Rattle.std.proofs.Common.{Bool, true, false, cond, option_map, Result, MatchResult}
use Rattle.pylex_lexeme.specs.declared.kinds.Exact.TheVariants.{Dot, LBrace, LPar, LSqb}
use Rattle.pytoken.specs.declared.keywords.Keyword.{Keyword}
use Rattle.pytree_node.specs.Trees
use Rattle.pytree_node.specs.Trees.{Expr, Identifier, MatchSingleton, MatchValue, Pattern}
use Rattle.pytree_node.specs.TreeOf.{tree_of}
use Rattle.pytree_node.specs.Values.{Value}
use Rattle.pytree_node.specs.declared.operators.Context.TheVariants.{Load}
use Rattle.pytoken.specs.Terminals.{Terminal, Op, Word}
use Rattle.pytoken.specs.TerminalOf.{terminal}
use Rattle.pytoken.specs.declared.values.terminals.Terminal as given
use Rattle.pytoken.specs.declared.values.terminals.Terminal.TheVariants as variant
use Rattle.pygrammar.specs.declared.pattern_levels.PatternLevel.{PatternLevel}
use Rattle.pygrammar.specs.declared.pattern_levels.PatternLevel.TheVariants as level
use Rattle.pygrammar.specs.Looks.{is_op}
use Rattle.pygrammar.specs.PatternOperators.{is_wildcard, singleton_word}
use Rattle.pygrammar.specs.PatternReader as reader
use Rattle.pygrammar.specs.PatternReader.{cap_pattern, dotted_from}
use Rattle.pygrammar.specs.Reader.{Answer, Found, and_then, on_some}
use Rattle.pyparse_nodes.specs.declared.found.Read.{Read}
use Rattle.pyparse_nodes.specs.declared.stop.Stop.{Stop}
use Rattle.pyparse_nodes.specs.declared.stop.Stop.TheVariants as stop
use Rattle.pyparse_nodes.specs.Answers.{FoundAt}
use Rattle.pyparse_nodes.specs.Views.{Stands, first_is, first_of, seen}
use Rattle.pyparse_reads.specs.Readings.{IsOpen}
use Rattle.pyparse_reads.specs.declared.depth.Depth.{Depth}
use Rattle.pyparse_reads.proofs.Callers.Looks.{first_miss, front}
use Rattle.pyparse_pattern.specs.declared.found.ReadPattern.{ReadPattern}
use Rattle.pyparse_pattern.specs.Answers.{PatternAnswered, PatternAt, reads}
use Rattle.pyparse_pattern.specs.Inner.Found.{IsQualified}
use Rattle.pyparse_pattern.specs.Inner.Made.{MadePattern, MakesPattern}
use Rattle.pyparse_pattern.specs.Inner.Readings.{field_reads, inner_reads, level_reads, literal_reads, name_reads, qualified, same_reads}
use Rattle.pyparse_pattern.proofs.LevelSteps.{cap_low, leaf, node}
use Rattle.pyparse_pattern.proofs.Points.{after_point}

-- what was read with the steps and the room of the parts, and with those within brackets
pub inner_found : (ts : List given.Terminal) (least : ℕ) (d i : Depth) (l : PatternLevel) (x : List Terminal) (r : ReadPattern)
    → i.steps ≡ d.steps - 1 → i.room ≡ d.room - 1 → PatternAt ts i.room least (reads i l x) r
    → PatternAt ts (d.room - 1) least (inner_reads d l x) r
inner_found ts least d i l x r p q f = record { ahead = f.ahead; within = f.within; low = omega (arith, q, f.low); is = rw (← p, ← q) f.is }

pub same_found : (ts : List given.Terminal) (least : ℕ) (d i : Depth) (l : PatternLevel) (x : List Terminal) (r : ReadPattern)
    → i.steps ≡ d.steps - 1 → i.room ≡ d.room → PatternAt ts i.room least (reads i l x) r → PatternAt ts d.room least (same_reads d l x) r
same_found ts least d i l x r p q f = record { ahead = f.ahead; within = f.within; low = omega (arith, q, f.low); is = rw (← p, ← q) f.is }

-- ---- By the first terminal.

pub closed_here : (ts : List given.Terminal) (d : Depth) (at least : ℕ) (t : Terminal) (z : Result ReadPattern Stop)
    → first_of (seen ts at) ≡ Some t → PatternAnswered ts d.room least (level_reads d level.ClosedPattern (t ∷ seen ts (at + 1))) z
    → PatternAnswered ts d.room least (level_reads d level.ClosedPattern (seen ts at)) z
closed_here ts d at least t z h a = rw (front ts at t h) a

pub closed_word : (ts : List given.Terminal) (d : Depth) (at : ℕ) (w : Keyword) (v : Value) (z : Result ReadPattern Stop) → IsOpen d
    → at < length ts → first_of (seen ts at) ≡ Some (Word w) → singleton_word (Word w) ≡ Some v
    → MatchResult z (λ r. MadePattern 1 (MatchSingleton v) (at + 1) r) (λ s. s ≡ stop.Memory)
    → PatternAnswered ts d.room (at + 1) (level_reads d level.ClosedPattern (seen ts at)) z
closed_word ts d at w v z o l h e m =
    let g : level_reads d level.ClosedPattern (Word w ∷ seen ts (at + 1)) ≡ Found (MatchSingleton v) (seen ts (at + 1)) =
    ap (λ c. cap_pattern d.room (on_some c (λ u. Found (MatchSingleton u) (seen ts (at + 1)))
    (reader.literal_pattern (d.room - 1) (field_reads d) (inner_reads d) (Word w ∷ seen ts (at + 1))))) e
    ∙ cap_low d.room (MatchSingleton v) (seen ts (at + 1)) (omega (arith, o.room)) in
    closed_here ts d at (at + 1) (Word w) z h
    (rw g (leaf ts d.room (at + 1) (MatchSingleton v) (at + 1) (omega arith) (omega (arith, l)) z o.room m))

-- a terminal that tells that no literal stands there: a NAME, a keyword or an opening bracket
abbrev pub begins_other : Option given.Terminal → Bool
begins_other (Some (variant.Ident x)) = true
begins_other (Some (variant.Word w)) = true
begins_other (Some (variant.Op LPar)) = true
begins_other (Some (variant.Op LSqb)) = true
begins_other (Some (variant.Op LBrace)) = true
begins_other _ = false

module _ (d : Depth) where
  abbrev closed : List Terminal → Answer Pattern
  closed i = reader.closed_pattern (d.room - 1) (field_reads d) (inner_reads d) (same_reads d) i

  literal_first : (t : given.Terminal) (r : List Terminal) → begins_other (Some t) ≡ false
      → closed (terminal t ∷ r) ≡ literal_reads d (terminal t ∷ r)
  literal_first (variant.Ident x) r h = absurd (cc)
  literal_first (variant.Word w) r h = absurd (cc)
  literal_first (variant.Op LPar) r h = absurd (cc)
  literal_first (variant.Op LSqb) r h = absurd (cc)
  literal_first (variant.Op LBrace) r h = absurd (cc)
  literal_first (variant.Op _) r h = refl
  literal_first _ r h = refl

  literal_is : (i : List Terminal) (o : Option given.Terminal) → first_of i ≡ option_map terminal o → begins_other o ≡ false
      → closed i ≡ literal_reads d i
  literal_is [] o h p = refl
  literal_is (t ∷ r) None h p = absurd (cc)
  literal_is (t ∷ r) (Some x) h p = go t cc
    where
      go : (t : Terminal) → t ≡ terminal x → closed (t ∷ r) ≡ literal_reads d (t ∷ r)
      go t e = rw e (literal_first x r p)

  pub closed_literal : (ts : List given.Terminal) (at : ℕ) (o : Option given.Terminal) (z : Result ReadPattern Stop)
      → first_of (seen ts at) ≡ option_map terminal o → begins_other o ≡ false
      → PatternAnswered ts d.room (at + 1) (cap_pattern d.room (literal_reads d (seen ts at))) z
      → PatternAnswered ts d.room (at + 1) (level_reads d level.ClosedPattern (seen ts at)) z
  closed_literal ts at o z h p a = rw (literal_is (seen ts at) o h p) a

-- ---- A name that is a value.

module _ (ts : List given.Terminal) (d : Depth) (at : ℕ) (x : Identifier) where
  -- no bracket after its points
  pointed : (e : Read) → Stands (Op Dot) ts at → FoundAt ts (d.room - 1 + 1) at (dotted_from (d.room - 1) x (seen ts at)) e
      → None ≡ first_is (is_op LPar) (seen ts e.next) → and_then (dotted_from (d.room - 1) x (seen ts at))
      (reader.dotted_pattern (d.room - 1) (field_reads d) (inner_reads d)) ≡ Found (MatchValue (tree_of e.expr.value)) (seen ts e.next)
  pointed e s f n = after_point (d.room - 1) (reader.dotted_pattern (d.room - 1) (field_reads d) (inner_reads d)) (qualified d)
      (λ g y r. refl) ts at x s ∙ ap (λ y. and_then y (qualified d)) f.is
      ∙ first_miss (is_op LPar) (seen ts e.next) _ (Found (MatchValue (tree_of e.expr.value)) (seen ts e.next)) n

  -- with a bracket after the name there are none
  pub no_bracket : (e : Read) → Stands (Op LPar) ts at → FoundAt ts (d.room - 1 + 1) at (dotted_from (d.room - 1) x (seen ts at)) e
      → None ≡ first_is (is_op LPar) (seen ts e.next) → ⊥
  no_bracket e s f n =
      let g : dotted_from (d.room - 1) x (seen ts at) ≡ Found (Trees.Name x Load) (seen ts at) = rw s.is refl in
      let h : seen ts e.next ≡ seen ts at = same (tree_of e.expr.value) (Trees.Name x Load) (seen ts e.next) (seen ts at) (sym f.is ∙ g) in
      none (n ∙ ap (first_is (is_op LPar)) (h ∙ s.is))
    where
      same : (a b : Expr) (r s : List Terminal) → ◌≡◌ {A = Answer Expr} (Found a r) (Found b s) → r ≡ s
      same a b r s h = cc

      none : None ≡ first_is (is_op LPar) (Op LPar ∷ seen ts (at + 1)) → ⊥
      none h = cc

  -- with the room of the parts
  pub inner_dotted : (k : ℕ) (e : Read) → k ≡ d.room - 1 → FoundAt ts (k + 1) at (dotted_from k x (seen ts at)) e
      → FoundAt ts (d.room - 1 + 1) at (dotted_from (d.room - 1) x (seen ts at)) e
  inner_dotted k e q f = subst (λ n. FoundAt ts (n + 1) at (dotted_from n x (seen ts at)) e) q f

  pub name_value : (e : Read) (z : Result ReadPattern Stop) → is_wildcard x ≡ false → IsQualified ts at
      → FoundAt ts (d.room - 1 + 1) at (dotted_from (d.room - 1) x (seen ts at)) e → None ≡ first_is (is_op LPar) (seen ts e.next)
      → MakesPattern d.room (MatchValue (tree_of e.expr.value)) e.next z
      → PatternAnswered ts d.room at (cap_pattern d.room (name_reads d x (seen ts at))) z
  name_value e z w (inr s) f n m = absurd (no_bracket e s f n)
  name_value e z w (inl s) f n m =
      let g : name_reads d x (seen ts at) ≡ Found (MatchValue (tree_of e.expr.value)) (seen ts e.next) =
      ap (λ b. cond b (Found (Trees.MatchAs Trees.absent_pattern None) (seen ts at)) (and_then (dotted_from (d.room - 1) x (seen ts at))
      (reader.dotted_pattern (d.room - 1) (field_reads d) (inner_reads d)))) w ∙ pointed e s f n in
      rw g (node ts d.room at (MatchValue (tree_of e.expr.value)) e.next f.ahead f.within z m)
