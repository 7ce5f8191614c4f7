-- How far is read ahead over several reads.
--
-- Carries: LineLister::next.
use Rattle.std.proofs.Common.{◌≡◌, inl, inr, ⊎_elim, ℕ, ◌≤◌, List, [], ◌∷◌, length, refl, ap, sym, subst, arith}
use Rattle.std.specs.Prelude.{Result, Ok}
use Rattle.std.specs.declared.alloc.AllocError.{AllocError}
use Rattle.pysource.specs.Bytes.{Seen}
use Rattle.pysource.specs.Streams.{Buffered, NextLine, IsText, past_first}
use Rattle.pysource.specs.declared.line_reader.LineRead.{LineRead}
use Rattle.pysource.specs.declared.line_reader.LineRead.TheVariants as met
use Rattle.pylex.specs.Held.{Ahead, AheadBut}

pub ahead_none : (b : Buffered) → Ahead b b
ahead_none b = inl (refl, omega arith)

pub ahead_but : (a b : Buffered) → Ahead a b → AheadBut a b
ahead_but a b (inl s) = inl s
ahead_but a b (inr few) = inr (omega (arith, few))

module _ (x y : Seen) (a b c : Buffered) (text_b text_c : List ℕ) where
  -- A line was given.
  pub ahead_line : AheadBut a b → NextLine x y b c text_b text_c (Ok met.Text) → Ahead a c
  ahead_line (inl s) r = by (r.taken) refl
    where
      by : (t : List ℕ) → r.taken ≡ t → Ahead a c
      by [] e = inl (
        let n = r.reads.count in let z : length r.taken ≡ 0 = ap length e in omega (arith, n, z, s.0),
        omega (arith, r.sizes, ap length e, s.1),
      )
      by (u ∷ t) e = inr (omega (arith, r.ahead refl, r.sizes, ap length e))
  ahead_line (inr few) r = inr (omega (arith, few, r.ahead refl, r.first refl))

  -- or none
  pub ahead_kept : (q : Result LineRead AllocError) → (r : NextLine x y b c text_b text_c q) → r.line ≡ [] → (IsText q → ⊥)
      → AheadBut a b → AheadBut a c
  ahead_kept q r none not p = ⊎_elim (λ same. stays same p) (λ few. inr few) (r.kept not)
    where
      stays : c.pending ≡ b.pending → AheadBut a b → AheadBut a c
      stays same (inl s) =
          let n = r.reads.count in
          let z : length r.line ≡ 0 = ap length none in
          let l = ap length same in
          inl (omega (arith, n, z, l, r.sizes, s.0), omega (arith, l, s.1))
      stays same (inr few) = inr (subst (λ t. past_first t ≤ 8_192) (sym same) few)
