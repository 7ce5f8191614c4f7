-- Carries: `heights_are_bounded`. An expression is at most as high as it has terminals (and one
-- more where a star stands alone in a subscript).
use Rattle.std.proofs.Common.{◌≡◌, refl, ℕ, suc, ◌+◌, ◌≤◌, ◌<◌, arith, List, [], ◌∷◌, ◌++◌, Option, Bool, true}
use Rattle.std.specs.Prelude.{max}
use Rattle.pylex_lexeme.specs.declared.kinds.Exact.{Exact}
use Rattle.pylex_lexeme.specs.declared.kinds.Exact.TheVariants.{LPar, RPar, LSqb, RSqb, RBrace, Colon, Comma, Dot, DoubleStar}
use Rattle.pytoken.specs.declared.keywords.Keyword.TheVariants as Key
use Rattle.pytree_node.specs.declared.operators.BoolOperator.{BoolOperator}
use Rattle.pytree_node.specs.declared.operators.Comparison.{Comparison}
use Rattle.pygrammar.specs.Lengths.{counts, weight}
use Rattle.pygrammar.proofs.Depths.Weights.{weight_append, counted, heavy_unary, heavy_left, heavy_constant, heavy_comparison}
use Rattle.pygrammar.specs.declared.levels.Level.{Level}
use Rattle.pygrammar.specs.declared.levels.Level.TheVariants.{Value}
use Rattle.pytree_node.specs.Trees.{Expr, OptionalExpr, exprs, Comprehension}
use Rattle.pytoken.specs.Terminals.{Terminal, Op, Word, Ident, FormattedEnd, FieldEnd}
use Rattle.pygrammar.specs.FormattedStrings.{StringPart, has_formatted}
use Rattle.pygrammar.specs.Inner.FieldHeights.{fields_height}
use Rattle.pygrammar.specs.Operators.{below, chain_level, chain_word}
use Rattle.pygrammar.specs.Entries.{Item, Of, Entry, Single, Paired, Doubled, singles, keys, values}
use Rattle.pytree_height.specs.Heights.{height, heights, optional_height, optional_heights}
use Rattle.pygrammar.specs.Inner.EntryHeights.{entry_height, entries_height}
use Rattle.pygrammar.specs.Lengths.{slack}
use Rattle.pygrammar.specs.Grammar as G
use Rattle.pygrammar.proofs.Heights.HeightLemmas.{stored_height, called_height, arranged_height}
use Rattle.pygrammar.proofs.Related.Sizes.{height_some, gen_size, gens_size}
use Rattle.pygrammar.proofs.Heights.FieldLemmas.{fields_join, joined_most, spec_fields_most}
use Rattle.pygrammar.proofs.Heights.Brackets.{wide}

below_slack : (l : Level) → slack (below l) ≡ 0
below_slack Value = refl
below_slack _ = refl

abbrev slack_item : Item → ℕ
slack_item (Of l) = slack l
slack_item i = 0

singles_height : (es : List Entry) → heights (singles es) ≤ entries_height es
singles_height [] = omega arith
singles_height (Single e ∷ es) = omega (arith, singles_height es)
singles_height (_ ∷ es) = omega (arith, singles_height es)

pairs_height : (es : List Entry) → max (optional_heights (keys es)) (heights (values es)) ≤ entries_height es
pairs_height [] = omega arith
pairs_height (Paired k v ∷ es) = omega (arith, pairs_height es)
pairs_height (Doubled v ∷ es) = omega (arith, pairs_height es)
pairs_height (_ ∷ es) = omega (arith, pairs_height es)

gens_first : (g : Comprehension) (gs : List Comprehension) → gens_size (g ∷ gs) ≡ max (gen_size g) (gens_size gs)
gens_first g gs = refl

compared_some : {ss : List Terminal} {o : Comparison} → G.Compared ss o → 0 < weight ss
compared_some (G.one_sign {t = t} {o = o} h) = omega (arith, counted t [] (heavy_comparison t o h))
compared_some G.not_in = omega arith
compared_some G.is = omega arith
compared_some G.is_not = omega arith

pub one : (ts us : List Terminal) (t : Terminal) → counts t ≡ true → weight (ts ++ (t ∷ us)) ≡ suc (weight ts + weight us)
one ts us t h = omega (arith, weight_append ts (t ∷ us), counted t us h)

end : (ts : List Terminal) (t : Terminal) → counts t ≡ true → weight (ts ++ (t ∷ [])) ≡ suc (weight ts)
end ts t h = omega (arith, weight_append ts (t ∷ []), counted t [] h)

mutual
  pub tall : {l : Level} {ts : List Terminal} {e : Expr} → G.Derives l ts e → height e ≤ slack l + weight ts
  tall (G.next {l = l} p) = omega (arith, tall p, below_slack l)
  tall (G.yields p) = omega (arith, tall_yields p)
  tall (G.star_tuple {ts = ts} {us = us} {es = es} p c) = omega (
    arith,
    tall p,
    tall_listing c refl,
    singles_height es,
    one ts us (Op Comma) refl,
  )
  tall (G.star_item p) = omega (arith, tall p)
  tall (G.named p) = omega (arith, tall p)
  tall (G.lambda {ts = ts} {us = us} {ps = ps} {a = a} c h p) = omega (
    arith,
    tall p,
    tall_listing c refl,
    arranged_height ps a h,
    one ts us (Op Colon) refl,
  )
  tall (G.if_else {ts = ts} {us = us} {vs = vs} p q r) =
      omega (arith, tall p, tall q, tall r, one ts (us ++ (Word Key.Else ∷ vs)) (Word Key.If) refl, one us vs (Word Key.Else) refl)
  tall (G.chain {o = o} {ts = ts} {us = us} p c) = omega (
    arith,
    tall p,
    below_slack (chain_level o),
    tall_chain c,
    one ts us (Word (chain_word o)) refl,
  )
  tall (G.unary {l = l} {t = t} {o = o} {ts = ts} h p) = omega (arith, tall p, counted t ts (heavy_unary l t o h))
  tall (G.compare {ts = ts} {us = us} {e = e} p c) = omega (arith, tall p, tall_compares c, height_some e, weight_append ts us)
  tall (G.binary {l = l} {ts = ts} {us = us} {o = o} t h p q) =
      omega (arith, tall p, tall q, below_slack l, one ts us t (heavy_left l t o h))
  tall (G.power {ts = ts} {us = us} p q) = omega (arith, tall p, tall q, one ts us (Op DoubleStar) refl)
  tall (G.await p) = omega (arith, tall p)
  tall (G.attribute {ts = ts} x p) = omega (arith, tall p, one ts (Ident x ∷ []) (Op Dot) refl)
  tall (G.call {ts = ts} {us = us} {f = f} {e = e} {es = es} p c h) = omega (
    arith,
    tall p,
    tall_listing c refl,
    called_height f e es h,
    one ts (us ++ (Op RPar ∷ [])) (Op LPar) refl,
    end us (Op RPar) refl,
  )
  tall (G.call_generator {ts = ts} {us = us} {vs = vs} p q c) =
      omega (
        arith,
        tall p,
        tall q,
        tall_comps c,
        one ts (us ++ (vs ++ (Op RPar ∷ []))) (Op LPar) refl,
        weight_append us (vs ++ (Op RPar ∷ [])),
        end vs (Op RPar) refl,
      )
  tall (G.subscript {ts = ts} {us = us} p q) =
      omega (arith, tall p, tall q, one ts (us ++ (Op RSqb ∷ [])) (Op LSqb) refl, end us (Op RSqb) refl)
  tall G.name = omega arith
  tall (G.constant {t = t} {v = v} h) = omega (arith, counted t [] (heavy_constant t v h))
  tall G.number = omega arith
  tall (G.strings vs h) = omega arith
  tall (G.joined_string {u = u} {ps = ps} l b h) = omega (arith, joined_most u ps, tall_joined l h)
  tall (G.group {ts = ts} p) = omega (arith, tall p, end ts (Op RPar) refl)
  tall (G.yield_group {ts = ts} p) = omega (arith, tall_yields p, end ts (Op RPar) refl)
  tall G.empty_tuple = omega arith
  tall (G.tuple {ts = ts} {us = us} {es = es} p c) = omega (
    arith,
    tall p,
    tall_listing c refl,
    singles_height es,
    one ts (us ++ (Op RPar ∷ [])) (Op Comma) refl,
    end us (Op RPar) refl,
  )
  tall (G.generator_group {ts = ts} {us = us} p c) =
      omega (arith, tall p, tall_comps c, weight_append ts (us ++ (Op RPar ∷ [])), end us (Op RPar) refl)
  tall (G.list {ts = ts} {es = es} c) = omega (arith, tall_listing c refl, singles_height es, end ts (Op RSqb) refl)
  tall (G.list_comp {ts = ts} {us = us} p c) =
      omega (arith, tall p, tall_comps c, weight_append ts (us ++ (Op RSqb ∷ [])), end us (Op RSqb) refl)
  tall (G.dict {ts = ts} {es = es} c) = omega (arith, tall_listing c refl, pairs_height es, end ts (Op RBrace) refl)
  tall (G.dict_comp {ts = ts} {us = us} {vs = vs} p q c) =
      omega (
        arith,
        tall p,
        tall q,
        tall_comps c,
        one ts (us ++ (vs ++ (Op RBrace ∷ []))) (Op Colon) refl,
        weight_append us (vs ++ (Op RBrace ∷ [])),
        end vs (Op RBrace) refl,
      )
  tall (G.set {ts = ts} {e = e} {es = es} c) = omega (arith, tall_listing c refl, singles_height (e ∷ es), end ts (Op RBrace) refl)
  tall (G.set_comp {ts = ts} {us = us} p c) = omega (
    arith,
    tall p,
    tall_comps c,
    weight_append ts (us ++ (Op RBrace ∷ [])),
    end us (Op RBrace) refl,
  )
  tall (G.star_elem p) = omega (arith, tall p)
  tall (G.star_slices p) = omega (arith, tall p)
  tall (G.subject_tuple {ts = ts} {us = us} {es = es} p c) = omega (
    arith,
    tall p,
    tall_listing c refl,
    singles_height es,
    one ts us (Op Comma) refl,
  )
  tall (G.parts {ts = ts} {us = us} {es = es} p c) = omega (
    arith,
    tall p,
    tall_listing c refl,
    singles_height es,
    one ts us (Op Comma) refl,
  )
  tall (G.star_part p) = omega (arith, tall p)
  tall (G.slice {ts = ts} {us = us} p q) = omega (arith, tall_perhaps p, tall_perhaps q, one ts us (Op Colon) refl)
  tall (G.slice_step {ts = ts} {us = us} {vs = vs} p q r) = omega (
    arith,
    tall_perhaps p,
    tall_perhaps q,
    tall_perhaps r,
    one ts (us ++ (Op Colon ∷ vs)) (Op Colon) refl,
    one us vs (Op Colon) refl,
  )

  tall_joined : {u : Bool} {ts : List Terminal} {ps : List StringPart} → G.Literals u ts ps → has_formatted ts ≡ true
      → suc (max 1 (fields_height ps)) ≤ weight ts
  tall_joined G.no_literal h = absurd (cc)
  tall_joined (G.text_literal l) h = omega (arith, tall_joined l h)
  tall_joined (G.formatted_literal {ts = ts} {us = us} {ps = ps} {qs = qs} p l) h =
      omega (arith, tall_formatted p, tall_literals l, fields_join ps qs, one ts us FormattedEnd refl)

  tall_literals : {u : Bool} {ts : List Terminal} {ps : List StringPart} → G.Literals u ts ps → fields_height ps ≤ weight ts
  tall_literals G.no_literal = omega arith
  tall_literals (G.text_literal l) = omega (arith, tall_literals l)
  tall_literals (G.formatted_literal {ts = ts} {us = us} {ps = ps} {qs = qs} p l) =
      omega (arith, tall_formatted p, tall_literals l, fields_join ps qs, one ts us FormattedEnd refl)

  tall_formatted : {u : Bool} {ts : List Terminal} {ps : List StringPart} → G.Formatted u ts ps → fields_height ps ≤ suc (weight ts)
  tall_formatted G.no_part = omega arith
  tall_formatted (G.text_part p) = omega (arith, tall_formatted p)
  tall_formatted (G.field_part {ts = ts} {us = us} {vs = vs} p q r) = omega (
    arith,
    tall p,
    wide p refl,
    tall_spec q,
    tall_formatted r,
    weight_append ts (us ++ (FieldEnd ∷ vs)),
    weight_append us (FieldEnd ∷ vs),
  )

  tall_spec : {u : Bool} {us : List Terminal} {a : OptionalExpr} → G.Spec u us a → optional_height a ≤ suc (suc (weight us))
  tall_spec G.no_spec = omega arith
  tall_spec (G.spec {u = u} {ps = ps} p) = omega (arith, tall_formatted p, spec_fields_most u ps)

  tall_yields : {ts : List Terminal} {e : Expr} → G.Yields ts e → height e ≤ suc (weight ts)
  tall_yields (G.yield_from p) = omega (arith, tall p)
  tall_yields (G.yield_some p) = omega (arith, tall_perhaps p)

  tall_perhaps : {l : Level} {ts : List Terminal} {a : OptionalExpr} → G.Perhaps l ts a → optional_height a ≤ slack l + weight ts
  tall_perhaps G.nothing = omega arith
  tall_perhaps (G.something p) = tall p

  tall_suffix : {s : Option Exact} {ts : List Terminal} {a : OptionalExpr} → G.Suffix s ts a → optional_height a ≤ weight ts
  tall_suffix G.no_suffix = omega arith
  tall_suffix (G.suffix p) = omega (arith, tall p)

  tall_chain : {o : BoolOperator} {us : List Terminal} {es : List Expr} → G.Chain o us es → heights (exprs es) ≤ weight us
  tall_chain (G.last_link {o = o} p) = omega (arith, tall p, below_slack (chain_level o))
  tall_chain (G.link {o = o} {ts = ts} {us = us} p c) = omega (
    arith,
    tall p,
    below_slack (chain_level o),
    tall_chain c,
    one ts us (Word (chain_word o)) refl,
  )

  tall_compares : {us : List Terminal} {os : List Comparison} {es : List Expr} → G.Compares us os es → suc (heights (exprs es)) ≤ weight us
  tall_compares (G.last_compare {ss = ss} {ts = ts} c p) = omega (arith, tall p, compared_some c, weight_append ss ts)
  tall_compares (G.compares {ss = ss} {ts = ts} {us = us} c p w) = omega (
    arith,
    tall p,
    tall_compares w,
    compared_some c,
    weight_append ss (ts ++ us),
    weight_append ts us,
  )

  tall_listing : {i : Item} {us : List Terminal} {es : List Entry} → G.Listing i us es → slack_item i ≡ 0 → entries_height es ≤ weight us
  tall_listing G.no_item z = omega arith
  tall_listing (G.last_item p) z = omega (arith, tall_piece p z)
  tall_listing (G.item {ts = ts} {us = us} p c) z = omega (arith, tall_piece p z, tall_listing c z, one ts us (Op Comma) refl)

  tall_piece : {i : Item} {ts : List Terminal} {a : Entry} → G.Piece i ts a → slack_item i ≡ 0 → entry_height a ≤ weight ts
  tall_piece (G.single p) z = omega (arith, tall p, z)
  tall_piece (G.pair {ts = ts} {us = us} p q) z = omega (arith, tall p, tall q, one ts us (Op Colon) refl)
  tall_piece (G.pairs_of p) z = omega (arith, tall p)
  tall_piece (G.argument p) z = omega (arith, tall p)
  tall_piece (G.star_argument p) z = omega (arith, tall p)
  tall_piece (G.keyword_argument p) z = omega (arith, tall p)
  tall_piece (G.double_argument p) z = omega (arith, tall p)
  tall_piece (G.parameter {ts = ts} {us = us} p q) z = omega (arith, tall_suffix p, tall_suffix q, weight_append ts us)
  tall_piece G.slash z = omega arith
  tall_piece G.bare_star z = omega arith
  tall_piece (G.star_parameter p) z = omega (arith, tall_suffix p)
  tall_piece (G.star_annotation p) z = omega (arith, tall p)
  tall_piece (G.double_parameter p) z = omega (arith, tall_suffix p)

  tall_comps : {us : List Terminal} {gs : List Comprehension} → G.Comps us gs → gens_size gs ≤ weight us
  tall_comps (G.one_comp {g = g} p) = omega (arith, tall_comp p, gens_first g [])
  tall_comps (G.comps {ts = ts} {us = us} {g = g} {gs = gs} p c) =
      omega (arith, tall_comp p, tall_comps c, gens_first g gs, weight_append ts us)

  tall_comp : {us : List Terminal} {g : Comprehension} → G.Comp us g → gen_size g ≤ weight us
  tall_comp (G.for_in p) = omega (arith, tall_for_in p)
  tall_comp (G.async_for_in p) = omega (arith, tall_for_in p)

  tall_for_in : {b : Bool} {us : List Terminal} {g : Comprehension} → G.ForIn b us g → gen_size g ≤ weight us
  tall_for_in (G.target_in {ts = ts} {us = us} {vs = vs} {t = t} {s = s} p h q c) = omega (
    arith,
    tall p,
    stored_height t s h,
    tall q,
    tall_ifs c,
    one ts (us ++ vs) (Word Key.In) refl,
    weight_append us vs,
  )

  tall_ifs : {us : List Terminal} {es : List Expr} → G.Ifs us es → heights (exprs es) ≤ weight us
  tall_ifs G.no_if = omega arith
  tall_ifs (G.if_one {ts = ts} {us = us} p c) = omega (arith, tall p, tall_ifs c, weight_append ts us)
