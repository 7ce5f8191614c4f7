-- The parts of an f-string one by one: texts, and fields with their format specs.
--
-- Carries: with_part, read_field, read_spec, string_atom, formatted_atom. On: Formatted.Values, Reading.
use Rattle.std.proofs.Common.{◌≡◌, sym, ap, ◌∙◌, arith, ℕ, ◌+◌, ◌<◌, List, [], length, None, Bool, false}
use Rattle.std.proofs.Common.{Result, Ok, Err, MatchResult}
use Rattle.pylex_lexeme.specs.declared.kinds.Exact.TheVariants.{LPar}
use Rattle.pyfstring.specs.declared.parts.Conversion.{Conversion}
use Rattle.pytree_node.specs.Trees
use Rattle.pytree_node.specs.Trees.{Expr, OptionalExpr, absent, present, exprs, optional}
use Rattle.pytree_node.specs.TreeOf.{boxed_of, tree_of}
use Rattle.pytoken.specs.FormattedStrings.{text_points}
use Rattle.pytoken.specs.TerminalOf.{text_part}
use Rattle.pytoken.specs.Terminals.{Terminal, Op, SpecBegin, FieldEnd}
use Rattle.pytoken.specs.declared.values.terminals.Terminal as given
use Rattle.pytoken.specs.declared.values.text_pieces.TextPiece.{TextPiece}
use Rattle.pygrammar.specs.Capped.{cap}
use Rattle.pygrammar.specs.FormattedStrings.{StringPart, Text, Field, merged, spec_values_of}
use Rattle.pygrammar.specs.Looks.{is_op, is_spec_begin, is_field_end}
use Rattle.pygrammar.specs.declared.levels.Level.TheVariants as level
use Rattle.pygrammar.specs.Reader.{Answer, Found, NoForm, and_then, on_first, field_with, spec_with, parts_loop}
use Rattle.pyparse_nodes.specs.declared.found.Optional.{Optional}
use Rattle.pyparse_nodes.specs.declared.found.Read.{Read}
use Rattle.pyparse_nodes.specs.declared.found.JoinedValues.{JoinedValues}
use Rattle.pyparse_nodes.specs.declared.boundaries.FormattedPart.{FormattedPart}
use Rattle.pyparse_nodes.specs.declared.boundaries.FormattedPart.TheVariants as part
use Rattle.pyparse_nodes.specs.declared.stop.Stop.{Stop}
use Rattle.pyparse_nodes.specs.declared.stop.Stop.TheVariants as stop
use Rattle.pyparse_nodes.specs.Answers.{Answered, Failed, FoundAt, PartAt, PartAnswered}
use Rattle.pyparse_nodes.specs.JoinedStates.{Gathers, IsNode, ended, state_of, step}
use Rattle.pyparse_nodes.specs.Views.{Stands, seen, first_is}
use Rattle.pyparse_reads.specs.declared.depth.Depth.{Depth}
use Rattle.pyparse_expr.specs.Inner.Readings.{inner_reads}
use Rattle.pyparse_expr.specs.Inner.Strings.{Lowers, PartAdded, PartsAt, part_reads}
use Rattle.pyparse_expr.proofs.Reader.Reading.{cap_high, cap_low, failed_then, first_hit, first_miss}
use Rattle.pyparse_expr.proofs.Formatted.Values.{spec_values}

module _ (ts : List given.Terminal) (d : Depth) (u : Bool) (most : ℕ) where
  abbrev parts : List Terminal → Answer (List StringPart)
  parts i = parts_loop (inner_reads d) u most [] i

  -- one part after others
  module _ (before : JoinedValues) (w : before.next < length ts) where
    pub text_added : (p : TextPiece) (points : List ℕ) (z : Result JoinedValues Stop) → points ≡ text_points (text_part p)
        → MatchResult z (λ j. Gathers (step u (state_of before) (Text points)) (before.next + 1) j) (λ s. s ≡ stop.Memory)
        → PartAdded u ts (before.next + 1) before (part_reads (inner_reads d) u most (part.Text p) (seen ts (before.next + 1))) z
    text_added p points (Ok j) q g = record {
      ahead = omega (arith, g.next_is);
      within = omega (arith, w, g.next_is);
      one = Text (text_points (text_part p));
      is = ap (λ n. Found (Text (text_points (text_part p))) (seen ts n)) (sym g.next_is);
      gives = g.is ∙ ap (λ t. step u (state_of before) (Text t)) q;
    }
    text_added p points (Err s) q g = rw g tt

    module _ (c : Conversion) where
      abbrev field : Answer Expr
      field = field_with (inner_reads d) parts u c (seen ts (before.next + 1))

      pub field_wrong : (e : Stop) → Failed e field
          → Failed e (part_reads (inner_reads d) u most (part.Field c) (seen ts (before.next + 1)))
      field_wrong e f = failed_then e field (λ f s. Found (Field f) s) f

      field_added : (r : Read) (z : Result JoinedValues Stop) → PartAt ts (before.next + 1) field (tree_of r.expr.value) r.next
          → MatchResult z (λ j. Gathers (step u (state_of before) (Field (tree_of r.expr.value))) r.next j) (λ s. s ≡ stop.Memory)
          → PartAdded u ts (before.next + 1) before (part_reads (inner_reads d) u most (part.Field c) (seen ts (before.next + 1))) z
      field_added r (Ok j) f g = record {
        ahead = omega (arith, f.ahead, g.next_is);
        within = omega (arith, f.within, g.next_is);
        one = Field (tree_of r.expr.value);
        is = ap (λ y. and_then y (λ f s. Found (Field f) s)) f.is
            ∙ ap (λ n. Found (Field (tree_of r.expr.value)) (seen ts n)) (sym g.next_is);
        gives = g.is;
      }
      field_added r (Err s) f g = rw g tt

      pub field_put : (p : FormattedPart) (r : Read) (z : Result JoinedValues Stop) → p ≡ part.Field c
          → PartAt ts (before.next + 1) field (tree_of r.expr.value) r.next
          → MatchResult z (λ j. Gathers (step u (state_of before) (Field (tree_of r.expr.value))) r.next j) (λ s. s ≡ stop.Memory)
          → PartAdded u ts (before.next + 1) before (part_reads (inner_reads d) u most p (seen ts (before.next + 1))) z
      field_put p r z q f g = rw q (field_added r z f g)

  -- a format spec, or none
  module _ (at : ℕ) where
    pub no_spec : None ≡ first_is is_spec_begin (seen ts at) → spec_with parts u (seen ts at) ≡ Found absent (seen ts at)
    no_spec n = first_miss is_spec_begin (seen ts at) _ _ n

    module _ (s : Stands SpecBegin ts at) where
      abbrev closing : List StringPart → List Terminal → Answer OptionalExpr
      closing ps r2 = Found (present (Trees.JoinedStr (spec_values_of u (merged ps)))) r2

      spec_is : spec_with parts u (seen ts at) ≡ and_then (parts (seen ts (at + 1))) closing
      spec_is = ap (λ r. spec_with parts u r) s.is

      pub spec_failed : (e : Stop) → Failed e (parts (seen ts (at + 1))) → Failed e (spec_with parts u (seen ts at))
      spec_failed e f = rw spec_is (failed_then e _ closing f)

      pub spec_made : (j : JoinedValues) (r : Read) → PartsAt u ts (at + 1) (parts (seen ts (at + 1))) j
          → IsNode (Trees.JoinedStr (exprs (ended false (state_of j)))) j.next r
          → PartAt ts at (spec_with parts u (seen ts at)) (present (tree_of r.expr.value)) r.next
      spec_made j r f k =
          let tree : tree_of r.expr.value ≡ Trees.JoinedStr (spec_values_of u (merged f.parts)) = k.tree
          ∙ ap (λ s. Trees.JoinedStr (exprs (ended false s))) f.gives ∙ ap (λ es. Trees.JoinedStr es) (spec_values u f.parts) in
          record {
            ahead = omega (arith, f.ahead, k.next_is);
            within = omega (arith, f.within, k.next_is);
            is = spec_is ∙ ap (λ y. and_then y closing) f.is ∙ ap (λ t. Found (present t) (seen ts j.next)) (sym tree)
                ∙ ap (λ n. Found (present (tree_of r.expr.value)) (seen ts n)) (sym k.next_is);
          }

  -- a field, from after its begin
  module _ (c : Conversion) (at : ℕ) where
    abbrev whole : Answer Expr
    whole = field_with (inner_reads d) parts u c (seen ts at)

    pub field_bare : None ≡ first_is (is_op LPar) (seen ts at) → whole ≡ NoForm
    field_bare n = first_miss (is_op LPar) (seen ts at) _ _ n

    module _ (p : Stands (Op LPar) ts at) where
      abbrev ending : Expr → OptionalExpr → List Terminal → Answer Expr
      ending e s r2 = on_first is_field_end r2 (λ _ r3. Found (Trees.FormattedValue e c s) r3) NoForm

      abbrev following : Expr → List Terminal → Answer Expr
      following e r1 = and_then (spec_with parts u r1) (ending e)

      field_is : whole ≡ and_then (inner_reads d level.Atom (seen ts at)) following
      field_is = first_hit (is_op LPar) (seen ts at) 0 (λ _ _. and_then (inner_reads d level.Atom (seen ts at)) following) NoForm
          (sym (ap (λ r. first_is (is_op LPar) r) p.is))

      pub value_failed : (e : Stop) → Failed e (inner_reads d level.Atom (seen ts at)) → Failed e whole
      value_failed e f = rw field_is (failed_then e _ following f)

      module _ (room : ℕ) (v : Read) (f : FoundAt ts room (at + 1) (inner_reads d level.Atom (seen ts at)) v) where
        value_is : whole ≡ following (tree_of v.expr.value) (seen ts v.next)
        value_is = field_is ∙ ap (λ y. and_then y following) f.is

        pub field_spec_failed : (e : Stop) → Failed e (spec_with parts u (seen ts v.next)) → Failed e whole
        field_spec_failed e g = rw value_is (failed_then e _ (ending (tree_of v.expr.value)) g)

        module _ (o : Optional) (g : PartAt ts v.next (spec_with parts u (seen ts v.next)) (optional (boxed_of o.expr)) o.next) where
          ending_is : whole ≡ ending (tree_of v.expr.value) (optional (boxed_of o.expr)) (seen ts o.next)
          ending_is = value_is ∙ ap (λ y. and_then y (ending (tree_of v.expr.value))) g.is

          pub field_open : None ≡ first_is is_field_end (seen ts o.next) → whole ≡ NoForm
          field_open n = ending_is ∙ first_miss is_field_end (seen ts o.next) _ _ n

          pub field_made : (z : Result Read Stop) → Stands FieldEnd ts o.next
              → MatchResult z (λ r. IsNode (Trees.FormattedValue (tree_of v.expr.value) c (optional (boxed_of o.expr))) (o.next + 1) r)
              (λ s. s ≡ stop.Memory) → PartAnswered ts at whole (λ r. tree_of r.expr.value) (λ r. r.next) z
          field_made (Ok r) s k = record {
            ahead = omega (arith, f.ahead, g.ahead, k.next_is);
            within = omega (arith, s.within, k.next_is);
            is = ending_is ∙ ap (λ i. ending (tree_of v.expr.value) (optional (boxed_of o.expr)) i) s.is
                ∙ ap (λ t. Found t (seen ts (o.next + 1))) (sym k.tree)
                ∙ ap (λ n. Found (tree_of r.expr.value) (seen ts n)) (sym k.next_is);
          }
          field_made (Err s) m k = rw k tt

-- what is read is an answer within the room
pub lowered_answer : (ts : List given.Terminal) (room at : ℕ) (x : Answer Expr) (e : Read) (z : Result Read Stop)
    → PartAt ts at x (tree_of e.expr.value) e.next → Lowers room e z → Answered ts room at (cap room x) z
lowered_answer ts room at x e (Ok r) f l = rw l.same (record {
  ahead = f.ahead;
  within = f.within;
  low = l.low;
  is = ap (λ y. cap room y) f.is ∙ cap_low room (tree_of e.expr.value) (seen ts e.next) (omega (arith, l.low, e.is_height));
})
lowered_answer ts room at x e (Err s) f l =
    rw l.why (ap (λ y. cap room y) f.is ∙ cap_high room (tree_of e.expr.value) (seen ts e.next) (omega (arith, l.high, e.is_height)))
