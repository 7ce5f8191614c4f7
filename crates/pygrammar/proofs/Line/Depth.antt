-- The reader at a depth: it goes too deep or answers as the plain one does, and never goes too deep
-- above the number of terminals.
--
-- Carries: k_place, at_depth, for Limit, SourceLaw. On: Keeps, Whole, Patterns, Related/Lines.
use Rattle.std.proofs.Common.{◌≡◌, ◌⊎◌, inl, inr, refl, ap, ◌∙◌, ℕ, suc, ◌≤◌, ◌<◌, arith, List, length, Bool}
use Rattle.pytree_node.specs.declared.profiles.Profile.{Profile}
use Rattle.pygrammar.specs.declared.pattern_levels.PatternLevel.{PatternLevel}
use Rattle.pygrammar.specs.declared.pattern_levels.PatternLevel.TheVariants.{Patterns}
use Rattle.pytree_node.specs.Trees.{Item, Pattern}
use Rattle.pytoken.specs.Terminals.{Terminal}
use Rattle.pytree_height.specs.Heights.{item_heights, pattern_height}
use Rattle.pygrammar.specs.Lengths.{weight}
use Rattle.pygrammar.specs.Reader.{Answer, Found, NoForm, TooDeep, Reads, read}
use Rattle.pygrammar.specs.Lines.{Form}
use Rattle.pygrammar.specs.FormHeights.{form_height}
use Rattle.pygrammar.specs.PatternReader.{PatternReads, capped_pattern}
use Rattle.pygrammar.specs.LineReader.{or_else, always, commas_of, read_item, bracketed, read_items, line_at, plain, plain_pattern}
use Rattle.pygrammar.specs.LineReader.{read_line}
use Rattle.pygrammar.specs.LineReader.{read_line_to}
use Rattle.pygrammar.proofs.Related.Sizes.{under}
use Rattle.pygrammar.proofs.Related.Lines.{r_bracketed, r_bare_items, r_case, r_place}
use Rattle.pygrammar.proofs.Depths.Keeps.{Keeps, KeepsOf, Light, Lighter, AllKeep, keeps_kept, all_kept, only_keeps, light_read}
use Rattle.pygrammar.proofs.Depths.Whole.{final}
use Rattle.pygrammar.proofs.Line.Patterns.{final_pattern, pattern_light}

-- ---- More depth changes no answer.
else_kept : {A : Type 0} (s : A → ℕ) (t n : ℕ) (x y z w : Answer A) → KeepsOf A s t n x y → KeepsOf A s t n z w
    → KeepsOf A s t n (or_else x z) (or_else y w)
else_kept s t n x y z w (inl e) g = inl (ap (λ v. or_else v z) e)
else_kept s t n (Found a r) y z w (inr (e, v)) g = inr (ap (λ v. or_else v w) e, v)
else_kept s t n NoForm y z w (inr (e, v)) g = elim g [ inl p ↦ inl p | inr p ↦ inr (p.0 ∙ ap (λ v. or_else v w) e, p.1) ]
else_kept s t n TooDeep y z w (inr (e, v)) g = inl refl

lighter : {A : Type 0} (m n : ℕ) (x : Answer A) → m ≤ n → Light m x → Light n x
lighter m n (Found a r) h w = omega (arith, h, w)
lighter m n NoForm h w = tt
lighter m n TooDeep h w = tt

module _ (self other : Reads) (all : AllKeep self other) (calm : Lighter self) (patterns others : PatternReads)
    (every : (l : PatternLevel) (i : List Terminal) → Keeps (patterns l i) (others l i))
    (gentle : (l : PatternLevel) (i : List Terminal) → Light (suc (weight i)) (patterns l i)) where
  k_items : (b : ℕ) (i : List Terminal) → weight i < b
      → KeepsOf (List Item) (under item_heights) 0 b (read_items self i) (read_items other i)
  k_items b i w =
      else_kept (under item_heights) 0 b (bracketed self i) (bracketed other i) (commas_of (read_item self) always i)
      (commas_of (read_item other) always i) (r_bracketed keeps_kept self other b (all_kept self other all calm b) i w)
      (r_bare_items keeps_kept self other b (all_kept self other all calm b) i w)

  k_patterns : (b : ℕ) (i : List Terminal) → weight i < b
      → KeepsOf Pattern (under pattern_height) 0 b (patterns Patterns i) (others Patterns i)
  k_patterns b i w = elim (every Patterns i) [
    | inl p ↦ inl p
    | inr p ↦ inr (p, lighter (suc (weight i)) b (patterns Patterns i) w (gentle Patterns i))
  ]

  k_below : (b : ℕ) (profile : Profile) (inside : Bool) (i : List Terminal) → weight i < b
      → KeepsOf Form (under form_height) 0 b (line_at profile self patterns inside i) (line_at profile other others inside i)
  k_below b profile inside i w =
      r_place keeps_kept self other b (all_kept self other all calm b) (k_items b) patterns others profile inside i w
      (r_case keeps_kept self other b (all_kept self other all calm b) profile patterns others i
      (λ r v. k_patterns b r (omega (arith, w, v))))

  pub k_place : (profile : Profile) (inside : Bool) (i : List Terminal)
      → Keeps (line_at profile self patterns inside i) (line_at profile other others inside i)
  k_place profile inside i = only_keeps (suc (weight i)) (line_at profile self patterns inside i) (line_at profile other others inside i)
      (k_below (suc (weight i)) profile inside i (omega arith))

pub at_depth : (profile : Profile) (inside : Bool) (d : ℕ) (ts : List Terminal)
    → (read_line_to profile inside d ts ≡ TooDeep) ⊎ (read_line_to profile inside d ts ≡ read_line profile inside ts)
at_depth profile inside d ts = k_place (read d) plain (λ l i. final d l i) (light_read d) (capped_pattern (suc (length ts)) d) plain_pattern
    (λ l i. final_pattern (suc (length ts)) d l i) (λ l i. pattern_light (suc (length ts)) d l i) profile inside ts
