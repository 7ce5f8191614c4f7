-- Count: as many places in an expression as nodes of it that have one.
--
-- On: Many, Contexts, Parameters, Entries.
use Rattle.std.proofs.Common.{◌≡◌, ℕ, ◌+◌, arith, List, [], ◌∷◌, ◌++◌, Option, Bool, length, codes}
use Rattle.pylex_lexeme.specs.declared.kinds.Exact.{Exact}
use Rattle.pyfstring.specs.declared.parts.Conversion.{Conversion}
use Rattle.pytree_node.specs.declared.operators.BoolOperator.{BoolOperator}
use Rattle.pytree_node.specs.declared.operators.Comparison.{Comparison}
use Rattle.pytree_node.specs.Trees
use Rattle.pytree_node.specs.Trees.{Expr, OptionalExpr, Identifier, exprs, Comprehension, comprehensions, arg}
use Rattle.pytree_dump_text.specs.Shows.{Fields, no_field, left_out, optional_field, shown, shown_arg, shown_exprs, shown_comprehensions}
use Rattle.pytree_marked.specs.MarkedNodes.{marked, marked_rows}
use Rattle.pytree_marked.specs.MarkedOptions.{marked_optional}
use Rattle.pytree_marked.proofs.Callers.Sums.{operator_none, unary_none, bool_none, comparisons_none, kind_none, optional_sum}
use Rattle.pytoken.specs.Terminals.{Terminal}
use Rattle.pygrammar.specs.declared.levels.Level.{Level}
use Rattle.pygrammar.specs.FormattedStrings.{StringPart}
use Rattle.pygrammar.specs.Entries.{Item, Entry}
use Rattle.pygrammar.specs.Grammar as G
use Rattle.pyplaces.specs.Stretches.{Stretch, stretch}
use Rattle.pyplaces.specs.ExpressionPlaces.{places, yield_places, perhaps_places, suffix_places, chain_places, compares_places}
use Rattle.pyplaces.specs.ExpressionPlaces.{literals_places, formatted_places, spec_places, listing_places, piece_places, comps_places}
use Rattle.pyplaces.specs.ExpressionPlaces.{comp_places, for_places, ifs_places}
use Rattle.pyplaces.proofs.Laws.Many.{Many, many, none, one, ◌⊕◌}
use Rattle.pyplaces.proofs.Laws.Contexts.{stored_count}
use Rattle.pyplaces.proofs.Laws.Entries.{Counted, single, paired, spread, doubled, keyed, plain, slashed, bare, gathered, collected}
use Rattle.pyplaces.proofs.Laws.Entries.{AllCounted, no_entry, an_entry, singles_count, keys_count, values_count, positional_count}
use Rattle.pyplaces.proofs.Laws.Entries.{keywords_count, called_count, arguments_count, PartsCounted, no_part, a_text, a_field, parts_both}
use Rattle.pyplaces.proofs.Laws.Entries.{merged_counted, values_counted, spec_values_counted}

slice_count : (a b c : OptionalExpr)
    → marked (shown (Trees.Slice a b c)) ≡ 1 + (marked_optional a + (marked_optional b + marked_optional c))
slice_count a b c =
    let last : Fields = optional_field (codes "step") c no_field in
    let following : Fields = optional_field (codes "upper") b last in
    let a1 = optional_sum (codes "lower") a following in
    let b1 = optional_sum (codes "upper") b last in
    let c1 = optional_sum (codes "step") c no_field in omega (arith, a1, b1, c1)

arg_count : (x : Identifier) (a : OptionalExpr) → marked_optional a + 1 ≡ marked (shown_arg (arg x a))
arg_count x a = omega (arith, optional_sum (codes "annotation") a (left_out no_field))

-- the places within a field, and that of its FormattedValue
field_count : {ps : List Stretch} (e : Expr) (c : Conversion) (s : OptionalExpr) → Many ps (marked (shown e) + marked_optional s)
    → 1 + length ps ≡ marked (shown (Trees.FormattedValue e c s))
field_count e c s p = omega (arith, p.is, optional_sum (codes "format_spec") s no_field)

abbrev pub clause_count : Comprehension → ℕ
clause_count g = marked (shown g.target) + (marked (shown g.iter) + marked_rows (shown_exprs (exprs g.ifs)))

clauses_first : (g : Comprehension) (gs : List Comprehension)
    → marked_rows (shown_comprehensions (comprehensions (g ∷ gs))) ≡ clause_count g + marked_rows (shown_comprehensions (comprehensions gs))
clauses_first g gs = omega arith

mutual
  pub count_expr : {l : Level} {ts : List Terminal} {e : Expr} (at : ℕ) (d : G.Derives l ts e) → Many (places at d) (marked (shown e))
  count_expr at (G.next p) = count_expr at p
  count_expr at (G.yields p) = count_yields _ (1 + at) p
  count_expr at (G.star_tuple {ts = ts} p c) =
      many (count_expr at p ⊕ (singles_count (count_listing (at + (length ts + 1)) c) ⊕ one)) (omega arith)
  count_expr at (G.star_item p) = many (count_expr (1 + at) p ⊕ one) (omega arith)
  count_expr at (G.named p) = many (one ⊕ (count_expr (2 + at) p ⊕ one)) (omega arith)
  count_expr at (G.lambda {ts = ts} c h p) =
      many (arguments_count (count_listing (1 + at) c) h ⊕ (count_expr (2 + (at + length ts)) p ⊕ one)) (omega arith)
  count_expr at (G.if_else {ts = ts} {us = us} p q r) =
      many (count_expr (1 + (at + length ts)) q ⊕ (count_expr at p ⊕ (count_expr (2 + (at + (length ts + length us))) r ⊕ one)))
      (omega arith)
  count_expr at (G.chain {o = o} {ts = ts} p c) =
      many (count_expr at p ⊕ (count_chain (1 + (at + length ts)) c ⊕ one)) (omega (arith, bool_none o))
  count_expr at (G.unary {o = o} h p) = many (count_expr (1 + at) p ⊕ one) (omega (arith, unary_none o))
  count_expr at (G.compare {ts = ts} {os = os} p c) =
      many (count_expr at p ⊕ (count_compares (at + length ts) c ⊕ one)) (omega (arith, comparisons_none os))
  count_expr at (G.binary {ts = ts} {o = o} t h p q) =
      many (count_expr at p ⊕ (count_expr (1 + (at + length ts)) q ⊕ one)) (omega (arith, operator_none o))
  count_expr at (G.power {ts = ts} p q) = many (count_expr at p ⊕ (count_expr (1 + (at + length ts)) q ⊕ one)) (omega arith)
  count_expr at (G.await p) = many (count_expr (1 + at) p ⊕ one) (omega arith)
  count_expr at (G.attribute x p) = many (count_expr at p ⊕ one) (omega arith)
  count_expr at (G.call {ts = ts} {f = f} {e = e} {es = es} p c h) =
      let c1 = count_listing (1 + (at + length ts)) c in many (count_expr at p ⊕ (positional_count c1 ⊕ (keywords_count c1 ⊕ one)))
      (omega (arith, called_count f e es h))
  count_expr at (G.call_generator {ts = ts} {us = us} p q c) =
      many (count_expr at p ⊕ (count_expr (1 + (at + length ts)) q ⊕ (count_comps (1 + (at + (length ts + length us))) c ⊕ (one ⊕ one))))
      (omega arith)
  count_expr at (G.subscript {ts = ts} p q) = many (count_expr at p ⊕ (count_expr (1 + (at + length ts)) q ⊕ one)) (omega arith)
  count_expr at G.name = many one (omega arith)
  count_expr at (G.constant {v = v} h) = many one (omega (arith, kind_none v))
  count_expr at (G.number {v = v}) = many one (omega (arith, kind_none v))
  count_expr at (G.strings {w = w} vs h) = many one (omega (arith, kind_none w))
  count_expr at (G.joined_string {u = u} {ts = ts} c b h) =
      let row : Stretch = stretch at (at + length ts) in
      many (values_counted u row (merged_counted (count_literals row at c)) ⊕ one) (omega arith)
  count_expr at (G.group p) = count_expr (1 + at) p
  count_expr at (G.yield_group p) = count_yields _ (2 + at) p
  count_expr at G.empty_tuple = many one (omega arith)
  count_expr at (G.tuple {ts = ts} p c) =
      many (count_expr (1 + at) p ⊕ (singles_count (count_listing (2 + (at + length ts)) c) ⊕ one)) (omega arith)
  count_expr at (G.generator_group {ts = ts} p c) =
      many (count_expr (1 + at) p ⊕ (count_comps (1 + (at + length ts)) c ⊕ one)) (omega arith)
  count_expr at (G.list c) = many (singles_count (count_listing (1 + at) c) ⊕ one) (omega arith)
  count_expr at (G.list_comp {ts = ts} p c) = many (count_expr (1 + at) p ⊕ (count_comps (1 + (at + length ts)) c ⊕ one)) (omega arith)
  count_expr at (G.dict c) = let c1 = count_listing (1 + at) c in many (keys_count c1 ⊕ (values_count c1 ⊕ one)) (omega arith)
  count_expr at (G.dict_comp {ts = ts} {us = us} p q c) =
      many (count_expr (1 + at) p ⊕ (count_expr (2 + (at + length ts)) q ⊕ (count_comps (2 + (at + (length ts + length us))) c ⊕ one)))
      (omega arith)
  count_expr at (G.set c) = many (singles_count (count_listing (1 + at) c) ⊕ one) (omega arith)
  count_expr at (G.set_comp {ts = ts} p c) = many (count_expr (1 + at) p ⊕ (count_comps (1 + (at + length ts)) c ⊕ one)) (omega arith)
  count_expr at (G.subject_tuple {ts = ts} p c) =
      many (count_expr at p ⊕ (singles_count (count_listing (at + (length ts + 1)) c) ⊕ one)) (omega arith)
  count_expr at (G.star_elem p) = many (count_expr (1 + at) p ⊕ one) (omega arith)
  count_expr at (G.star_slices p) = many (count_expr (1 + at) p ⊕ (one ⊕ one)) (omega arith)
  count_expr at (G.parts {ts = ts} p c) =
      many (count_expr at p ⊕ (singles_count (count_listing (at + (length ts + 1)) c) ⊕ one)) (omega arith)
  count_expr at (G.star_part p) = many (count_expr (1 + at) p ⊕ one) (omega arith)
  count_expr at (G.slice {ts = ts} {a = a} {b = b} p q) =
      many (count_perhaps at p ⊕ (count_perhaps (1 + (at + length ts)) q ⊕ one)) (omega (arith, slice_count a b Trees.absent))
  count_expr at (G.slice_step {ts = ts} {us = us} {a = a} {b = b} {c = c} p q r) =
      many (count_perhaps at p ⊕ (count_perhaps (1 + (at + length ts)) q ⊕ (count_perhaps (2 + (at + (length ts + length us))) r ⊕ one)))
      (omega (arith, slice_count a b c))

  pub count_yields : {ts : List Terminal} {e : Expr} (s : Stretch) (at : ℕ) (d : G.Yields ts e)
      → Many (yield_places at d ++ (s ∷ [])) (marked (shown e))
  count_yields s at (G.yield_from p) = many (count_expr (1 + at) p ⊕ one) (omega arith)
  count_yields s at (G.yield_some {e = e} p) = many (count_perhaps at p ⊕ one) (omega (arith, optional_sum (codes "value") e no_field))

  pub count_perhaps : {l : Level} {ts : List Terminal} {e : OptionalExpr} (at : ℕ) (d : G.Perhaps l ts e)
      → Many (perhaps_places at d) (marked_optional e)
  count_perhaps at G.nothing = none
  count_perhaps at (G.something p) = count_expr at p

  pub count_suffix : {s : Option Exact} {ts : List Terminal} {e : OptionalExpr} (at : ℕ) (d : G.Suffix s ts e)
      → Many (suffix_places at d) (marked_optional e)
  count_suffix at G.no_suffix = none
  count_suffix at (G.suffix p) = count_expr (1 + at) p

  pub count_chain : {o : BoolOperator} {ts : List Terminal} {es : List Expr} (at : ℕ) (d : G.Chain o ts es)
      → Many (chain_places at d) (marked_rows (shown_exprs (exprs es)))
  count_chain at (G.last_link p) = many (count_expr at p) (omega arith)
  count_chain at (G.link {ts = ts} p c) = count_expr at p ⊕ count_chain (1 + (at + length ts)) c

  pub count_compares : {ts : List Terminal} {os : List Comparison} {es : List Expr} (at : ℕ) (d : G.Compares ts os es)
      → Many (compares_places at d) (marked_rows (shown_exprs (exprs es)))
  count_compares at (G.last_compare {ss = ss} o p) = many (count_expr (at + length ss) p) (omega arith)
  count_compares at (G.compares {ss = ss} {ts = ts} o p c) =
      count_expr (at + length ss) p ⊕ count_compares (at + (length ss + length ts)) c

  pub count_literals : {u : Bool} {ts : List Terminal} {ps : List StringPart} (row : Stretch) (at : ℕ) (d : G.Literals u ts ps)
      → PartsCounted ps (literals_places row at d)
  count_literals row at G.no_literal = no_part
  count_literals row at (G.text_literal {t = t} c) = a_text t (count_literals row (1 + at) c)
  count_literals row at (G.formatted_literal {ts = ts} p c) =
      parts_both (count_formatted row (1 + at) p) (count_literals row (2 + (at + length ts)) c)

  pub count_formatted : {u : Bool} {ts : List Terminal} {ps : List StringPart} (row : Stretch) (at : ℕ) (d : G.Formatted u ts ps)
      → PartsCounted ps (formatted_places row at d)
  count_formatted row at G.no_part = no_part
  count_formatted row at (G.text_part {t = t} c) = a_text t (count_formatted row (1 + at) c)
  count_formatted row at (G.field_part {c = conversion} {ts = ts} {us = us} {e = e} {s = s} p q c) =
      a_field (field_count e conversion s (count_expr (1 + at) p ⊕ count_spec row (2 + (at + length ts)) q))
      (count_formatted row (3 + (at + (length ts + length us))) c)

  pub count_spec : {u : Bool} {ts : List Terminal} {e : OptionalExpr} (row : Stretch) (at : ℕ) (d : G.Spec u ts e)
      → Many (spec_places row at d) (marked_optional e)
  count_spec row at G.no_spec = none
  count_spec row at (G.spec {u = u} c) =
      many (spec_values_counted u row (merged_counted (count_formatted row (1 + at) c)) ⊕ one) (omega arith)

  pub count_listing : {i : Item} {ts : List Terminal} {es : List Entry} (at : ℕ) (d : G.Listing i ts es)
      → AllCounted es (listing_places at d)
  count_listing at G.no_item = no_entry
  count_listing at (G.last_item p) = an_entry (count_piece at p) no_entry
  count_listing at (G.item {ts = ts} p c) = an_entry (count_piece at p) (count_listing (at + (length ts + 1)) c)

  pub count_piece : {i : Item} {ts : List Terminal} {e : Entry} (at : ℕ) (d : G.Piece i ts e) → Counted e (piece_places at d)
  count_piece at (G.single p) = single (count_expr at p)
  count_piece at (G.pair {ts = ts} p q) = paired (count_expr at p) (count_expr (1 + (at + length ts)) q)
  count_piece at (G.pairs_of p) = doubled (count_expr (1 + at) p)
  count_piece at (G.argument p) = single (count_expr at p)
  count_piece at (G.star_argument p) = spread (count_expr (1 + at) p)
  count_piece at (G.keyword_argument p) = keyed (count_expr (2 + at) p)
  count_piece at (G.double_argument p) = doubled (count_expr (1 + at) p)
  count_piece at (G.parameter {x = x} {ts = ts} {a = a} p q) =
      plain (many (count_suffix (1 + at) p ⊕ one) (arg_count x.form a)) (count_suffix (1 + (at + length ts)) q)
  count_piece at G.slash = slashed
  count_piece at G.bare_star = bare
  count_piece at (G.star_parameter {x = x} {a = a} p) = gathered (many (count_suffix (2 + at) p ⊕ one) (arg_count x.form a))
  count_piece at (G.star_annotation p) = gathered (many (count_expr (4 + at) p ⊕ (one ⊕ one)) (omega arith))
  count_piece at (G.double_parameter {x = x} {a = a} p) = collected (many (count_suffix (2 + at) p ⊕ one) (arg_count x.form a))

  pub count_comps : {ts : List Terminal} {gs : List Comprehension} (at : ℕ) (d : G.Comps ts gs)
      → Many (comps_places at d) (marked_rows (shown_comprehensions (comprehensions gs)))
  count_comps at (G.one_comp {g = g} p) = many (count_comp at p) (omega (arith, clauses_first g []))
  count_comps at (G.comps {ts = ts} {g = g} {gs = gs} p c) =
      many (count_comp at p ⊕ count_comps (at + length ts) c) (omega (arith, clauses_first g gs))

  pub count_comp : {ts : List Terminal} {g : Comprehension} (at : ℕ) (d : G.Comp ts g) → Many (comp_places at d) (clause_count g)
  count_comp at (G.for_in p) = count_for (1 + at) p
  count_comp at (G.async_for_in p) = count_for (2 + at) p

  pub count_for : {b : Bool} {ts : List Terminal} {g : Comprehension} (at : ℕ) (d : G.ForIn b ts g)
      → Many (for_places at d) (clause_count g)
  count_for at (G.target_in {ts = ts} {us = us} {t = t} {s = s} p h q c) =
      many (count_expr at p ⊕ (count_expr (1 + (at + length ts)) q ⊕ count_ifs (1 + (at + (length ts + length us))) c))
      (omega (arith, stored_count t s h))

  pub count_ifs : {ts : List Terminal} {es : List Expr} (at : ℕ) (d : G.Ifs ts es)
      → Many (ifs_places at d) (marked_rows (shown_exprs (exprs es)))
  count_ifs at G.no_if = none
  count_ifs at (G.if_one {ts = ts} p c) = count_expr (1 + at) p ⊕ count_ifs (1 + (at + length ts)) c
