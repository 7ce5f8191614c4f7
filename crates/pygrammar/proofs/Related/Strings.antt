-- Two readings of literals and f-strings: what each combinator keeps, their reader keeps.
--
-- Carries: r_joined, r_literals, for Related/Levels, the Keeps of patterns, Long. On: Rules, Related/Expressions.
use Rattle.std.proofs.Common.{ℕ, zero, suc, ◌≤◌, ◌<◌, arith, List, [], ◌∷◌, ◌++◌, length}
use Rattle.std.proofs.Common.{Bool}
use Rattle.pylex_lexeme.specs.declared.kinds.Exact.TheVariants.{LPar}
use Rattle.pygrammar.specs.declared.levels.Level.TheVariants.{Value, Atom}
use Rattle.pytree_node.specs.Trees.{Expr, OptionalExpr}
use Rattle.pytree_node.specs.Values
use Rattle.pyfstring.specs.declared.parts.Conversion.{Conversion}
use Rattle.pytoken.specs.Terminals.{Terminal, Literal}
use Rattle.pytree_height.specs.Heights.{height, optional_height}
use Rattle.pygrammar.specs.Lengths.{weight}
use Rattle.pygrammar.specs.FormattedStrings.{StringPart, Text, Field, kind_of, text_of, texts_of}
use Rattle.pygrammar.specs.Looks.{is_op, literal_in, text_in, conversion_in, is_formatted_begin, is_formatted_end}
use Rattle.pygrammar.specs.Looks.{is_spec_begin, is_field_end}
use Rattle.pygrammar.specs.Constants.{joined}
use Rattle.pygrammar.specs.Inner.FieldHeights.{fields_height}
use Rattle.pygrammar.specs.Reader.{Answer, constant_of, Reads}
use Rattle.pygrammar.specs.Reader.{string_run, spec_with, field_with, parts_loop, formatted_step, literals_loop, joined_step, literals}
use Rattle.pygrammar.proofs.Depths.Weights.{heavy_op, heavy_literal, heavy_begin, heavy_end}
use Rattle.pygrammar.proofs.Heights.FieldLemmas.{fields_join, joined_fields, spec_fields}
use Rattle.pygrammar.proofs.Related.Rules.{Relation, Kept, To, found, none, held, beside, option, first, light}
use Rattle.pygrammar.proofs.Related.Rules.{making}
use Rattle.pygrammar.proofs.Related.Expressions.{r_one}

r_strings : {R : Relation} (K : Kept R) (n : ℕ) (acc : List Values.Value) (r : List Terminal) → weight r < n
    → R (List Values.Value) (λ _. 0) 0 n (string_run acc r) (string_run acc r)
r_strings K n acc [] h = found K (omega arith) h
r_strings K n acc (Literal v ∷ r) h = r_strings K n (acc ++ (v ∷ [])) r (omega (arith, h))
r_strings K n acc (_ ∷ r) h = found K (omega arith) h

r_spec : {R : Relation} (K : Kept R) (n : ℕ) (one two : List Terminal → Answer (List StringPart)) (u : Bool) (r : List Terminal)
    → weight r < n
    → ((s : List Terminal) → weight s ≤ weight r → R (List StringPart) fields_height 0 n (one s) (two s))
    → R OptionalExpr optional_height 0 n (spec_with one u r) (spec_with two u r)
r_spec K n one two u r h f = light K is_spec_begin r
    (λ _ r1 q. beside K (f r1 q) (λ v ps r2 g p. found K (omega (arith, g, spec_fields u ps)) p)) (found K (omega arith) h)

module _ {R : Relation} (K : Kept R) (self other : Reads) (b : ℕ) (all : To R b self other) where
  r_field : (n : ℕ) (one two : List Terminal → Answer (List StringPart)) (u : Bool) (c : Conversion) (r : List Terminal) → weight r ≤ n
      → weight r < b → ((s : List Terminal) → weight s < weight r → R (List StringPart) fields_height 0 n (one s) (two s))
      → R Expr height 0 n (field_with self one u c r) (field_with other two u c r)
  r_field n one two u c r h w f =
      first K (is_op LPar) (heavy_op LPar) r
      (λ _ _ _. r_one K self other b all Atom r w
      (λ v e r1 g p. beside K (r_spec K n one two u r1 (omega (arith, h, p)) (λ s q. f s (omega (arith, p, q))))
      (λ z o r2 k y. light K is_field_end r2 (λ _ r3 q. found K (omega (arith, g, k)) (omega (arith, y, q))) (none K)))) (none K)

  r_parts : (t n : ℕ) (u : Bool) (m : ℕ) (acc : List StringPart) (r : List Terminal) → t ≤ fields_height acc → weight r < n → weight r < b
      → R (List StringPart) fields_height t n (parts_loop self u m acc r) (parts_loop other u m acc r)
  r_parts t n u zero acc r g h w = found K g h
  r_parts t n u (suc m) acc r g h w =
      light K text_in r
      (λ x r1 q. r_parts t n u m (acc ++ (Text x ∷ [])) r1 (omega (arith, g, fields_join acc (Text x ∷ []))) (omega (arith, h, q))
      (omega (arith, w, q)))
      (light K conversion_in r
      (λ c r1 q. beside K (r_field (suc (weight r1)) (λ z. parts_loop self u m [] z) (λ z. parts_loop other u m [] z) u c r1 (omega arith)
      (omega (arith, w, q)) (λ s y. r_parts 0 (suc (weight r1)) u m [] s (omega arith) (omega (arith, y)) (omega (arith, w, q, y))))
      (λ v e r2 f p. r_parts v n u m (acc ++ (Field e ∷ [])) r2 (omega (arith, g, f, fields_join acc (Field e ∷ [])))
      (omega (arith, h, q, p))
      (omega (arith, w, q, p)))) (found K g h))

  r_formatted : (t n : ℕ) (u : Bool) (acc : List StringPart) (r : List Terminal) → t ≤ fields_height acc → weight r < n → weight r < b
      → R (List StringPart) fields_height t n (formatted_step self u acc r) (formatted_step other u acc r)
  r_formatted t n u acc r g h w = held K (r_parts t n u (length r) acc r g h w)
      (λ v ps r1 f p. first K is_formatted_end heavy_end r1 (λ _ r2 q. found K f (omega (arith, p, q))) (none K))

  r_literals_loop : (t n : ℕ) (u : Bool) (m : ℕ) (acc : List StringPart) (r : List Terminal) → t ≤ fields_height acc → weight r < n
      → weight r ≤ b → R (List StringPart) fields_height t n (literals_loop self u m acc r) (literals_loop other u m acc r)
  r_literals_loop t n u zero acc r g h w = found K g h
  r_literals_loop t n u (suc m) acc r g h w =
      first K literal_in heavy_literal r
      (λ v r1 q. option K (text_of v)
      (λ x _. r_literals_loop t n u m (acc ++ (Text x ∷ [])) r1 (omega (arith, g, fields_join acc (Text x ∷ []))) (omega (arith, h, q))
      (omega (arith, w, q))) (none K))
      (first K is_formatted_begin heavy_begin r
      (λ _ r1 q. held K (r_formatted t (suc (weight r1)) u acc r1 g (omega arith) (omega (arith, w, q)))
      (λ v ps r2 f p. r_literals_loop v n u m ps r2 f (omega (arith, h, q, p)) (omega (arith, w, q, p)))) (found K g h))

  pub r_joined : (n : ℕ) (u : Bool) (acc : List StringPart) (r : List Terminal) → weight r < n → weight r < b
      → R Expr height 0 n (joined_step self u acc r) (joined_step other u acc r)
  r_joined n u acc r h w =
      held K (r_formatted 0 (suc (weight r)) u acc r (omega arith) (omega arith) w)
      (λ v ps r1 f p. held K (r_literals_loop v n u (length r1) ps r1 f (omega (arith, h, p)) (omega (arith, w, p)))
      (λ x qs r2 g q. found K (omega (arith, g, joined_fields u qs)) q))

  pub r_literals : (n : ℕ) (v : Values.Value) (r : List Terminal) → weight r < n → weight r ≤ b
      → R Expr height 0 n (literals self v r) (literals other v r)
  r_literals n v r h w =
      held K (r_strings K (suc (weight r)) [] r (omega arith))
      (λ t vs r1 f p. first K is_formatted_begin heavy_begin r1
      (λ _ r2 q. option K (texts_of (v ∷ vs))
      (λ ps _. r_late t (omega (arith, f)) (r_joined n (kind_of v) ps r2 (omega (arith, h, p, q)) (omega (arith, w, p, q)))) (none K))
      (making K (constant_of (joined v vs)) r1 (λ e q. omega (arith, f)) (omega (arith, h, p))))
    where
      r_late : (t : ℕ) → t ≤ 0 → {x y : Answer Expr} → R Expr height 0 n x y → R Expr height t n x y
      r_late zero h g = g
      r_late (suc t) h g = absurd (omega (arith, h))
