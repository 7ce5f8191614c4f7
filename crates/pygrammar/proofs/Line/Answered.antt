-- The reader never goes too deep where as many expressions may stand inside one
-- another as there are terminals.
--
-- Carries: read_or_not, enough, g_place, for Limit, SourceLaw, Total. On: Enough, Law, SoundLines,
-- Patterns, Related/Lines.
use Rattle.std.proofs.Common.{◌≡◌, ◌⊎◌, inl, inr, refl, sym, subst, ◌∙◌, ℕ, suc, ◌≤◌, ◌<◌, arith, List, [], ◌∷◌, length, Bool, true, false}
use Rattle.std.proofs.Common.{cond}
use Rattle.pytree_node.specs.declared.profiles.Profile.{Profile}
use Rattle.pygrammar.specs.Lengths.{weight}
use Rattle.pygrammar.proofs.Answers.{none_found}
use Rattle.pygrammar.proofs.Depths.Weights.{weight_most}
use Rattle.pygrammar.specs.declared.pattern_levels.PatternLevel.{PatternLevel}
use Rattle.pygrammar.specs.declared.pattern_levels.PatternLevel.TheVariants.{Patterns}
use Rattle.pytoken.specs.Terminals.{Terminal}
use Rattle.pygrammar.specs.Reader.{Answer, Found, NoForm, TooDeep, and_then, Reads, read}
use Rattle.pygrammar.specs.Lines.{Form}
use Rattle.pygrammar.specs.Forms.{FormAt, is_case_line}
use Rattle.pygrammar.specs.PatternReader.{PatternReads, capped_pattern}
use Rattle.pygrammar.specs.LineReader.{or_else, on_none, always, commas_of, read_item, bracketed, read_items, case_front, line_front}
use Rattle.pygrammar.specs.LineReader.{line_at}
use Rattle.pygrammar.specs.LineReader.{plain, plain_pattern}
use Rattle.pygrammar.specs.LineReader.{read_line, read_line_to}
use Rattle.pygrammar.proofs.Depths.Enough.{Good, GoodTo, good_kept, good_read, good_reads}
use Rattle.pygrammar.proofs.Related.Lines.{r_bracketed, r_bare_items, r_case, r_front, r_place}
use Rattle.pygrammar.proofs.Line.Patterns.{pattern_good}
use Rattle.pygrammar.proofs.Line.Law.{read_goes}
use Rattle.pygrammar.proofs.Line.SoundLines.{read_gives}

g_else : {A : Type 0} (n : ℕ) (x y : Answer A) → Good n x → Good n y → Good n (or_else x y)
g_else n (Found a r) y h g = h
g_else n NoForm y h g = g
g_else n TooDeep y h g = h

module _ (self : Reads) (b : ℕ) (all : GoodTo b self) where
  g_items : (i : List Terminal) → weight i < b → Good b (read_items self i)
  g_items i w = g_else b (bracketed self i) (commas_of (read_item self) always i) (r_bracketed good_kept self self b all i w)
      (r_bare_items good_kept self self b all i w)

  pub g_place : (patterns : PatternReads) (profile : Profile) (inside : Bool) (i : List Terminal) → weight i < b
      → ((l : PatternLevel) (j : List Terminal) → weight j ≤ weight i → Good b (patterns l j))
      → Good b (line_at profile self patterns inside i)
  g_place patterns profile inside i w h = r_place good_kept self self b all g_items patterns patterns profile inside i w
      (r_case good_kept self self b all profile patterns patterns i (λ r v. h Patterns r v))

-- above what the terminals count no depth is too deep
pub enough : (profile : Profile) (inside : Bool) (d : ℕ) (ts : List Terminal) → weight ts < d
    → read_line_to profile inside d ts ≡ TooDeep → ⊥
enough profile inside d ts w h =
    let n : ℕ = length ts in
    subst (Good d) h (g_place (read d) d (good_read d) (capped_pattern (suc n) d) profile inside ts (omega (arith, w, weight_most ts))
    (λ l j v. pattern_good (suc n) d d l j (omega (arith, v, weight_most ts)) (omega (arith, w, v, weight_most ts))
    (omega (arith, w, v, weight_most ts))))

-- the plain reader finds a form, with no terminal after it, or says that there is none
abbrev Whole : Answer Form → Type 0
Whole (Found f []) = Unit {0}
Whole (Found f (t ∷ r)) = ⊥
Whole NoForm = Unit {0}
Whole TooDeep = ⊥

whole : (n : ℕ) (x : Answer Form) → Good n x → Whole (and_then x (λ f r. on_none r (Found f []) NoForm))
whole n (Found f []) g = tt
whole n (Found f (t ∷ r)) g = tt
whole n NoForm g = tt
whole n TooDeep g = g

whole_cond : (b : Bool) (x y : Answer Form) → Whole x → Whole y → Whole (cond b x y)
whole_cond true x y h k = h
whole_cond false x y h k = k

line_whole : (profile : Profile) (inside : Bool) (ts : List Terminal) → Whole (read_line profile inside ts)
line_whole profile inside ts =
    let n : ℕ = suc (length ts) in
    whole_cond (is_case_line profile inside ts) _ _
    (whole n (case_front profile plain plain_pattern ts) (r_case good_kept plain plain n (good_reads n) profile
    plain_pattern plain_pattern ts
    (λ j v. pattern_good (suc (length j)) (suc (suc (length j))) n Patterns j (omega (arith, weight_most j)) (omega (arith, weight_most j))
    (omega (arith, v, weight_most ts)))))
    (whole n (line_front profile plain ts) (r_front good_kept plain plain n (good_reads n) (g_items plain n (good_reads n)) profile ts
    (omega (arith, weight_most ts))))

-- so it gives the one form of a line, or there is none
abbrev pub Answers : Profile → Bool → List Terminal → Type 0
Answers profile inside ts = ((f : Form) × (read_line profile inside ts ≡ Found f []) × FormAt profile inside ts f) ⊎
    ((read_line profile inside ts ≡ NoForm) × ((f : Form) → FormAt profile inside ts f → ⊥))

pub read_or_not : (profile : Profile) (inside : Bool) (ts : List Terminal) → Answers profile inside ts
read_or_not profile inside ts = go (read_line profile inside ts) refl (line_whole profile inside ts)
  where
    go : (a : Answer Form) → read_line profile inside ts ≡ a → Whole a → Answers profile inside ts
    go (Found f []) q w = inl (f, q, read_gives profile inside ts f q)
    go (Found f (t ∷ r)) q w = absurd w
    go NoForm q w = inr (q, λ f p. none_found f [] (sym q ∙ read_goes profile p))
    go TooDeep q w = absurd w
