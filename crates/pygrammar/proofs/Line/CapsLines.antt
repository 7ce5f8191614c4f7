-- On: `limit_line`. Lines: what is refused is higher than the room.
--
-- Carries: c_place, for Limit. On: Caps, CapsTools, Related/Lines.
use Rattle.std.proofs.Common.{◌≡◌, inl, inr, refl, sym, ap, subst, ◌∙◌, ℕ, suc, ◌≤◌, ◌<◌, arith, List, [], ◌∷◌, length, Some, None, Bool}
use Rattle.pylex_lexeme.specs.declared.kinds.Exact.TheVariants as Sign
use Rattle.pytoken.specs.declared.keywords.Keyword.TheVariants as Key
use Rattle.pytree_node.specs.declared.profiles.Profile.{Profile}
use Rattle.pygrammar.specs.declared.levels.Level.TheVariants.{Named}
use Rattle.pygrammar.specs.declared.pattern_levels.PatternLevel.{PatternLevel}
use Rattle.pygrammar.specs.declared.pattern_levels.PatternLevel.TheVariants.{Patterns}
use Rattle.pytree_node.specs.Trees.{Item, Pattern}
use Rattle.pytoken.specs.Terminals.{Terminal, Op, Word}
use Rattle.pytree_height.specs.Heights.{item_heights, pattern_height}
use Rattle.pygrammar.specs.Lengths.{weight}
use Rattle.pygrammar.specs.Looks.{is_op, is_word}
use Rattle.pygrammar.specs.Reader.{Answer, Found, NoForm, TooDeep, and_then, on_some, on_first, Reads}
use Rattle.pygrammar.specs.Lines.{Form, case_header}
use Rattle.pygrammar.specs.FormHeights.{form_height}
use Rattle.pygrammar.specs.PatternReader.{PatternReads}
use Rattle.pygrammar.specs.LineReader.{or_else, always, commas_of, after, suite, read_item, bracketed, read_items, case_front, line_at}
use Rattle.pygrammar.proofs.Completeness.LookLemmas.{op_or_not, word_or_not}
use Rattle.pygrammar.proofs.Depths.Keeps.{Keeps, Light, Lighter}
use Rattle.pygrammar.proofs.Depths.Weights.{weight_next}
use Rattle.pygrammar.proofs.Related.Sizes.{under}
use Rattle.pygrammar.proofs.Related.Rules.{To}
use Rattle.pygrammar.proofs.Related.Lines.{r_bracketed, r_bare_items, r_after_pattern, r_case_rest, r_place}
use Rattle.pygrammar.proofs.Heights.Over.{Over, none, sunk, Caps, CapsAt}
use Rattle.pygrammar.proofs.Heights.Caps.{CapsOf, caps_kept, caps_in, over_kept, over_all, over_least, over_up, over_down, lowered}
use Rattle.pygrammar.proofs.Pattern.Ends.{EndsPattern, pattern_grip}
use Rattle.pygrammar.proofs.Line.CapsTools.{Brackets, caps_else}

light_else : {A : Type 0} (n : ℕ) (x y : Answer A) → Light n x → Light n y → Light n (or_else x y)
light_else n (Found a r) y h g = h
light_else n NoForm y h g = g
light_else n TooDeep y h g = h

module _ (n : ℕ) (self other : Reads) (all : CapsAt n self other) (calm : Lighter other) (brackets : Brackets n self other) (b : ℕ) where
  within : To (CapsOf (suc n)) b self other
  within = caps_in n self other all calm b

  c_items : (i : List Terminal) → weight i < b → CapsOf (suc n) (List Item) (under item_heights) 0 b
      (read_items self i) (read_items other i)
  c_items i w =
      let g = r_bracketed (caps_kept (suc n)) self other b within i w in
      let h = r_bare_items (caps_kept (suc n)) self other b within i w in (
        light_else b (bracketed other i) (commas_of (read_item other) always i) g.0 h.0,
        over_least (under item_heights) (read_items other i),
        λ _. caps_else (under item_heights) (suc n) (bracketed self i) (bracketed other i) (commas_of (read_item self) always i)
            (commas_of (read_item other) always i) (g.2 refl) (h.2 refl)
            (λ q. over_up item_heights (suc n) (commas_of (read_item other) always i) (brackets i q)),
      )

  -- after the pattern of a case
  abbrev after_pattern : Profile → Reads → Pattern → List Terminal → Answer Form
  after_pattern profile reads p r =
      and_then (after reads (Word Key.If) Named r)
      (λ g r1. on_first (is_op Sign.Colon) r1 (λ _ u. suite profile reads (case_header p g) u) NoForm)

  over_high : (profile : Profile) (p : Pattern) (r : List Terminal) → suc n ≤ pattern_height p
      → Over form_height (suc n) (after_pattern profile other p r)
  over_high profile p r w = over_down form_height (suc n) (after_pattern profile other p r)
      ((r_after_pattern over_kept other other (suc (weight r)) (over_all other calm (suc (weight r))) profile (suc (suc n)) p r
      (omega (arith, w)) (omega arith)).1)

  -- a pattern is ended by `if` or a colon, or else there is no form
  over_after : (profile : Profile) (p : Pattern) (r : List Terminal) → (EndsPattern Patterns r → suc n ≤ pattern_height p)
      → Over form_height (suc n) (after_pattern profile other p r)
  over_after profile p [] h = none
  over_after profile p (t ∷ s) h = elim (word_or_not Key.If t) [
    | inl e ↦ over_high profile p (t ∷ s) (h (ended t (Word Key.If) e (omega arith)))
    | inr a ↦ elim (op_or_not Sign.Colon t) [
      | inl e ↦ over_high profile p (t ∷ s) (h (ended t (Op Sign.Colon) e (omega arith)))
      | inr b ↦ subst (Over form_height (suc n)) (sym (neither a b)) none
    ]
  ]
    where
      ended : (t u : Terminal) → t ≡ u → pattern_grip u < 1 → pattern_grip t < 1
      ended t u e w = omega (arith, w, ap pattern_grip e)

      neither : is_word Key.If t ≡ None → is_op Sign.Colon t ≡ None → after_pattern profile other p (t ∷ s) ≡ NoForm
      neither a b = ap (λ o. and_then (on_some o (λ _. and_then (other Named s) (λ e r1. Found (Some e) r1)) (Found None (t ∷ s)))
          (λ g r1. on_first (is_op Sign.Colon) r1 (λ _ u. suite profile other (case_header p g) u) NoForm)) a
          ∙ ap (λ o. on_some o (λ _. suite profile other (case_header p None) s) NoForm) b

  -- patterns after the first terminal of a line: where the one reader goes too deep, what the other finds is too high
  module _ (patterns others : PatternReads) (every : (l : PatternLevel) (i : List Terminal) → Keeps (patterns l i) (others l i))
      (gentle : (l : PatternLevel) (i : List Terminal) → Light (suc (weight i)) (others l i)) where
    abbrev Higher : List Terminal → Type 0
    Higher i = (l : PatternLevel) (j r : List Terminal) (p : Pattern) → length j < length i → patterns l j ≡ TooDeep
        → others l j ≡ Found p r → EndsPattern l r → suc n ≤ pattern_height p

    calm_pattern : (i : List Terminal) → weight i < b → Light b (others Patterns i)
    calm_pattern i w = go (others Patterns i) (gentle Patterns i)
      where
        go : (x : Answer Pattern) → Light (suc (weight i)) x → Light b x
        go (Found p r) h = omega (arith, h, w)
        go NoForm h = tt
        go TooDeep h = tt

    c_case : (profile : Profile) (t : Terminal) (i : List Terminal) → weight (t ∷ i) < b → Higher (t ∷ i)
        → CapsOf (suc n) Form (under form_height) 0 b (case_front profile self patterns (t ∷ i)) (case_front profile other others (t ∷ i))
    c_case profile t i w h = elim (every Patterns i) [
      | inl q ↦ (
        (r_case_rest over_kept other other b (over_all other calm b) profile others others i
            (calm_pattern i (omega (arith, w, weight_next t i)), over_least (under pattern_height) (others Patterns i))).0,
        over_least (under form_height) (case_front profile other others (t ∷ i)),
        λ _. inr (
          ap (λ z. and_then z (after_pattern profile self)) q,
          over_up form_height (suc n) (and_then (others Patterns i) (after_pattern profile other)) (high q (others Patterns i) refl),
        ),
      )
      | inr q ↦ r_case_rest (caps_kept (suc n)) self other b within profile patterns others i
          (calm_pattern i (omega (arith, w, weight_next t i)), over_least (under pattern_height) (others Patterns i), λ _. inl q)
    ]
      where
        high : patterns Patterns i ≡ TooDeep → (x : Answer Pattern) → others Patterns i ≡ x
            → Over form_height (suc n) (and_then x (after_pattern profile other))
        high q (Found p r) k = over_after profile p r (λ e. h Patterns i r p (omega arith) q k e)
        high q NoForm k = none
        high q TooDeep k = sunk

    c_case_front : (profile : Profile) (i : List Terminal) → weight i < b → Higher i
        → CapsOf (suc n) Form (under form_height) 0 b (case_front profile self patterns i) (case_front profile other others i)
    c_case_front profile [] w h = (tt, none, λ _. inl refl)
    c_case_front profile (t ∷ r) w h = c_case profile t r w h

    c_below : (profile : Profile) (inside : Bool) (i : List Terminal) → weight i < b → Higher i
        → Caps form_height n (line_at profile self patterns inside i) (line_at profile other others inside i)
    c_below profile inside i w h = lowered form_height n (line_at profile self patterns inside i) (line_at profile other others inside i)
        ((r_place (caps_kept (suc n)) self other b within c_items patterns others profile inside i w (c_case_front profile i w h)).2 refl)

pub c_place : (n : ℕ) (self other : Reads) → CapsAt n self other → Lighter other → Brackets n self other → (patterns others : PatternReads)
    → ((l : PatternLevel) (i : List Terminal) → Keeps (patterns l i) (others l i))
    → ((l : PatternLevel) (i : List Terminal) → Light (suc (weight i)) (others l i)) → (profile : Profile) (inside : Bool)
    (i : List Terminal) → ((l : PatternLevel) (j r : List Terminal) (p : Pattern) → length j < length i → patterns l j ≡ TooDeep
    → others l j ≡ Found p r → EndsPattern l r → suc n ≤ pattern_height p)
    → Caps form_height n (line_at profile self patterns inside i) (line_at profile other others inside i)
c_place n self other all calm brackets patterns others every gentle profile inside i h =
    c_below n self other all calm brackets (suc (weight i)) patterns others every gentle profile inside i (omega arith) h
