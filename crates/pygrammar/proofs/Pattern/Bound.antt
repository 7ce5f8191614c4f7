-- A pattern is at most one higher than it has terminals.
--
-- Carries: bounded, literal_height, dotted_height, key_height, class_of_height. On: Sizes, Bound
-- of expressions.
use Rattle.std.proofs.Common.{refl, suc, ◌≤◌, arith, List, [], ◌∷◌, ◌++◌}
use Rattle.pylex_lexeme.specs.declared.kinds.Exact.TheVariants.{RPar, RSqb, RBrace, LPar, Colon, Comma, Dot, VBar}
use Rattle.pytoken.specs.declared.keywords.Keyword.TheVariants as Key
use Rattle.pygrammar.specs.Lengths.{weight}
use Rattle.pygrammar.proofs.Depths.Weights.{heavy_sum, heavy_singleton, counted}
use Rattle.pygrammar.specs.declared.levels.Level.TheVariants.{Atom}
use Rattle.pygrammar.specs.declared.pattern_levels.PatternLevel.{PatternLevel}
use Rattle.pytree_node.specs.Trees.{Expr, Identifier, Pattern, patterns}
use Rattle.pytree_node.specs.Values
use Rattle.pytoken.specs.Terminals.{Terminal, Op, Word, Ident, Number}
use Rattle.pytree_height.specs.Heights.{height, pattern_height, pattern_heights}
use Rattle.pygrammar.specs.PatternEntries.{PatternItem, PatternEntry}
use Rattle.pygrammar.specs.Grammar as G
use Rattle.pygrammar.specs.PatternGrammar as P
use Rattle.pygrammar.specs.PatternLaws.{PatternHeightsAreBounded}
use Rattle.pygrammar.proofs.Heights.Bound.{one}
use Rattle.pygrammar.proofs.Heights.Bound.{tall as expression}
use Rattle.pygrammar.proofs.Pattern.Sizes.{entry_size, entries_size, elements_low, mapped_low, class_low, as_low}

signed_height : {v : Values.Value} {ts : List Terminal} {e : Expr} → P.SignedNumber v ts e → height e ≤ weight ts
signed_height P.unsigned = omega arith
signed_height P.negative = omega arith

pub literal_height : {ts : List Terminal} {e : Expr} → P.LiteralOf ts e → height e ≤ weight ts
literal_height (P.number p) = signed_height p
literal_height (P.complex {w = w} {ts = ts} {o = o} t p h q k) = omega (arith, signed_height p, one ts (Number w ∷ []) t (heavy_sum t o q))
literal_height (P.strings vs h) = omega arith
literal_height (P.joined_string p b q) = height_of (G.joined_string p b q)
  where
    height_of : {ts : List Terminal} {e : Expr} → G.Derives Atom ts e → height e ≤ weight ts
    height_of d = omega (arith, expression d)

pub dotted_height : {f : Identifier} {ts : List Terminal} {e : Expr} → P.Dotted f ts e → height e ≤ weight ts
dotted_height P.first_name = omega arith
dotted_height (P.dot_name {ts = ts} x p) = omega (arith, dotted_height p, one ts (Ident x ∷ []) (Op Dot) refl)

pub key_height : {ts : List Terminal} {e : Expr} → P.KeyOf ts e → height e ≤ weight ts
key_height (P.literal_key p) = literal_height p
key_height (P.singleton_key {t = t} {v = v} h) = omega (arith, counted t [] (heavy_singleton t v h))
key_height (P.name_key {ts = ts} x p) = omega (arith, dotted_height p, one ts (Ident x ∷ []) (Op Dot) refl)

pub class_of_height : {ts : List Terminal} {e : Expr} → P.ClassOf ts e → height e ≤ weight ts
class_of_height (P.class_name p h) = dotted_height p

mutual
  tall : {l : PatternLevel} {ts : List Terminal} {p : Pattern} → P.DerivesPattern l ts p → pattern_height p ≤ suc (weight ts)
  tall (P.next p) = tall p
  tall (P.open_sequence {ts = ts} {us = us} {es = es} p c) = omega (
    arith,
    tall p,
    tall_listing c,
    elements_low es,
    one ts us (Op Comma) refl,
  )
  tall P.star = omega arith
  tall (P.as_name {ts = ts} {p = p} {q = q} x d h) = omega (arith, tall d, as_low p q x.form h, one ts (Ident x ∷ []) (Word Key.As) refl)
  tall (P.alternatives {ts = ts} {us = us} p c) = omega (arith, tall p, tall_alternatives c, one ts us (Op VBar) refl)
  tall (P.literal p) = omega (arith, literal_height p)
  tall (P.singleton h) = omega arith
  tall P.capture = omega arith
  tall (P.value {ts = ts} x p) = omega (arith, class_of_height p, one ts (Ident x ∷ []) (Op Dot) refl)
  tall (P.group {ts = ts} p) = omega (arith, tall p, one ts [] (Op RPar) refl)
  tall P.empty_sequence = omega arith
  tall (P.round_sequence {ts = ts} {us = us} {es = es} p c) = omega (
    arith,
    tall p,
    tall_listing c,
    elements_low es,
    one ts (us ++ (Op RPar ∷ [])) (Op Comma) refl,
    one us [] (Op RPar) refl,
  )
  tall (P.square_sequence {ts = ts} {es = es} c) = omega (arith, tall_listing c, elements_low es, one ts [] (Op RSqb) refl)
  tall (P.mapping {ts = ts} {es = es} {p = p} c h) = omega (arith, tall_listing c, mapped_low es p h, one ts [] (Op RBrace) refl)
  tall (P.class_pattern {ts = ts} {us = us} {e = e} {es = es} {p = p} d c h) =
      omega (
        arith,
        class_of_height d,
        tall_listing c,
        class_low e es p h,
        one ts (us ++ (Op RPar ∷ [])) (Op LPar) refl,
        one us [] (Op RPar) refl,
      )

  tall_alternatives : {us : List Terminal} {ps : List Pattern} → P.Alternatives us ps → pattern_heights (patterns ps) ≤ suc (weight us)
  tall_alternatives (P.last_alternative p) = omega (arith, tall p)
  tall_alternatives (P.alternative {ts = ts} {us = us} p c) = omega (arith, tall p, tall_alternatives c, one ts us (Op VBar) refl)

  tall_listing : {i : PatternItem} {us : List Terminal} {es : List PatternEntry} → P.PatternListing i us es
      → entries_size es ≤ suc (weight us)
  tall_listing P.no_entry = omega arith
  tall_listing (P.last_entry p) = omega (arith, tall_piece p)
  tall_listing (P.entry {ts = ts} {us = us} p c) = omega (arith, tall_piece p, tall_listing c, one ts us (Op Comma) refl)

  tall_piece : {i : PatternItem} {ts : List Terminal} {e : PatternEntry} → P.PatternPiece i ts e → entry_size e ≤ suc (weight ts)
  tall_piece (P.element p) = tall p
  tall_piece (P.key_pattern {ts = ts} {us = us} k p) = omega (arith, key_height k, tall p, one ts us (Op Colon) refl)
  tall_piece (P.rest h) = omega arith
  tall_piece (P.argument p) = tall p
  tall_piece (P.named_argument p) = omega (arith, tall p)

-- the law
pub bounded : PatternHeightsAreBounded
bounded l ts p d = omega (arith, tall d)
