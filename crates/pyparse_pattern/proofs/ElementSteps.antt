-- The entries of a sequence are patterns alone.
--
-- Carries: elements. On: PatternReader.
use Rattle.std.proofs.Common.{◌≡◌, refl, ℕ, zero, suc, ◌-◌, List, [], ◌∷◌, ◌++◌, length, Option, Some, None, Bool, true, false, cond, sym}
use Rattle.std.proofs.Common.{ap, ◌∙◌}
use Rattle.pylex_lexeme.specs.declared.kinds.Exact.TheVariants.{Comma}
use Rattle.pytree_node.specs.Trees.{Pattern}
use Rattle.pytoken.specs.Terminals.{Terminal}
use Rattle.pygrammar.specs.declared.pattern_levels.PatternLevel.TheVariants.{StarPattern}
use Rattle.pygrammar.specs.Looks.{is_op}
use Rattle.pygrammar.specs.PatternEntries.{PatternEntry, Element, Alone, Keyed, Rest, Named}
use Rattle.pygrammar.specs.PatternReader as reader
use Rattle.pygrammar.specs.PatternReader.{PatternReads, starts_entry}
use Rattle.pygrammar.specs.Reader.{Answer, Found, NoForm, TooDeep, Reads, and_then, on_first, on_some}
use Rattle.pyparse_reads.specs.declared.depth.Depth.{Depth}
use Rattle.pyparse_pattern.specs.Inner.Entries.{are_alone}
use Rattle.pyparse_pattern.specs.Inner.Readings.{entries_of, field_reads, inner_reads}

one_more : (es : List PatternEntry) (p : Pattern) → are_alone es ≡ true → are_alone (es ++ (Alone p ∷ [])) ≡ true
one_more [] p h = refl
one_more (Alone q ∷ es) p h = one_more es p h
one_more (Keyed k q ∷ es) p h = absurd (cc)
one_more (Rest x ∷ es) p h = absurd (cc)
one_more (Named x q ∷ es) p h = absurd (cc)

module _ (n : ℕ) (self : Reads) (inner : PatternReads) (es : List PatternEntry) (r : List Terminal) where
  abbrev loop : ℕ → List PatternEntry → List Terminal → Answer (List PatternEntry)
  loop m acc i = reader.entries_loop n self inner Element m acc i

  -- the list that is found has patterns alone
  abbrev Good : Answer (List PatternEntry) → Type 0
  Good x = x ≡ Found es r → are_alone es ≡ true

  ends : (acc : List PatternEntry) (i : List Terminal) → are_alone acc ≡ true → Good (Found acc i)
  ends acc i h q =
      let e : acc ≡ es = cc in
      ap are_alone (sym e) ∙ h

  turn : (m : ℕ) (acc : List PatternEntry) (i : List Terminal) → are_alone acc ≡ true → ((j : List Terminal) → Good (loop m acc j))
      → Good (on_first (is_op Comma) i (λ _ j. loop m acc j) (Found acc i))
  turn m acc [] h more = ends acc [] h
  turn m acc (t ∷ i) h more = go (is_op Comma t)
    where
      go : (o : Option ℕ) → Good (on_some o (λ _. loop m acc i) (Found acc (t ∷ i)))
      go None = ends acc (t ∷ i) h
      go (Some k) = more i

  loop_alone : (m : ℕ) (acc : List PatternEntry) (i : List Terminal) → are_alone acc ≡ true → Good (loop m acc i)
  loop_alone zero acc i h = ends acc i h
  loop_alone (suc m) acc i h = by_start (λ b j w. loop_alone m b j w) (starts_entry Element i)
    where
      by_answer : ((b : List PatternEntry) (j : List Terminal) → are_alone b ≡ true → Good (loop m b j)) → (x : Answer Pattern)
          → Good (and_then (and_then x (λ p s. Found (Alone p) s)) (λ e s. on_first (is_op Comma) s (λ _ j. loop m (acc ++ (e ∷ [])) j)
          (Found (acc ++ (e ∷ [])) s)))
      by_answer more (Found p s) = turn m (acc ++ (Alone p ∷ [])) s (one_more acc p h)
          (λ j. more (acc ++ (Alone p ∷ [])) j (one_more acc p h))
      by_answer more NoForm = λ q. absurd (cc)
      by_answer more TooDeep = λ q. absurd (cc)

      by_start : ((b : List PatternEntry) (j : List Terminal) → are_alone b ≡ true → Good (loop m b j)) → (c : Bool)
          → Good (cond c (and_then (and_then (inner StarPattern i) (λ p s. Found (Alone p) s))
          (λ e s. on_first (is_op Comma) s (λ _ j. loop m (acc ++ (e ∷ [])) j) (Found (acc ++ (e ∷ [])) s))) (Found acc i))
      by_start more true = by_answer more (inner StarPattern i)
      by_start more false = ends acc i h

pub elements_alone : (d : Depth) (i : List Terminal) (es : List PatternEntry) (r : List Terminal)
    → entries_of d Element i ≡ Found es r → are_alone es ≡ true
elements_alone d i es r q = loop_alone (d.room - 1) (field_reads d) (inner_reads d) es r (length i) [] i refl q
