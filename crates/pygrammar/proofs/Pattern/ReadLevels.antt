-- What it means that the reader finds a pattern, the levels, and the patterns with none inside.
--
-- Carries: FindsPattern, by_step, by_closed, next_finds and 7 more, for ReadEntries, ReadBrackets,
-- Complete. On: Ends, ReadValues.
use Rattle.std.proofs.Common.{◌≡◌, refl, ap, ◌∙◌, ℕ, suc, zero, ◌+◌, ◌≤◌, ◌<◌, arith, List, [], ◌∷◌, ◌++◌, length, Option, Some, None, Bool}
use Rattle.std.proofs.Common.{true, false, cond, if◌then◌else◌, option_map, append_assoc, length-append}
use Rattle.pylex_lexeme.specs.declared.kinds.Exact.TheVariants.{LPar, Comma, Star, Dot, VBar}
use Rattle.pytoken.specs.declared.keywords.Keyword.TheVariants as Key
use Rattle.pytree_node.specs.declared.operators.Context.TheVariants.{Load}
use Rattle.pygrammar.specs.declared.pattern_levels.PatternLevel.{PatternLevel}
use Rattle.pygrammar.specs.declared.pattern_levels.PatternLevel.TheVariants.{Patterns, StarPattern, AsPattern, OrPattern, ClosedPattern}
use Rattle.pytree_node.specs.Trees
use Rattle.pytree_node.specs.Trees.{Expr, Identifier, Pattern, MatchValue, MatchSingleton, MatchStar, MatchAs, absent_pattern}
use Rattle.pytree_node.specs.Trees.{present_pattern}
use Rattle.pytree_node.specs.Values
use Rattle.pytoken.specs.Terminals.{Spelled, Terminal, Op, Word, Ident}
use Rattle.pytree_height.specs.Heights.{pattern_height}
use Rattle.pygrammar.specs.Reader.{Answer, Found, NoForm, made, Reads}
use Rattle.pygrammar.specs.Capped.{capped}
use Rattle.pygrammar.specs.FormattedStrings.{StringPart, has_formatted}
use Rattle.pygrammar.specs.Grammar as G
use Rattle.pygrammar.specs.PatternOperators.{below_pattern, captured, is_wildcard, singleton_word}
use Rattle.pygrammar.specs.PatternEntries.{ClassArgument, as_named}
use Rattle.pygrammar.specs.PatternGrammar as P
use Rattle.pygrammar.specs.PatternReader.{PatternReads, cap_pattern, starts_entry, literal_or, dotted_from, literal_pattern, closed_pattern}
use Rattle.pygrammar.specs.PatternReader.{read_closed, read_or, read_as_pattern, read_star, read_patterns, pattern_step, capped_pattern}
use Rattle.pygrammar.proofs.Pattern.Ends.{pattern_grip_of, EndsPattern, miss_sign, miss_keyword, pass_start, item_at}
use Rattle.pygrammar.proofs.Pattern.ReadValues.{fits, dotted_end, literal_reads, class_reads}

-- with fuel for its terminals and room for its height the reader finds a pattern in front of what ends it
abbrev pub FindsPattern : PatternLevel → List Terminal → Pattern → Type 0
FindsPattern l ts p = (g d : ℕ) (r : List Terminal) → length ts + length r < g → pattern_height p ≤ d → EndsPattern l r
    → capped_pattern g d l (ts ++ r) ≡ Found p r

pub pattern_some : (p : Pattern) → 0 < pattern_height p
pattern_some (MatchValue e) = omega arith
pattern_some _ = omega arith

-- one level: what stands inside is read with less fuel and room
pub by_step : (l : PatternLevel) (ts : List Terminal) (p : Pattern) → ((g d : ℕ) (r : List Terminal) → length ts + length r ≤ g
    → pattern_height p ≤ suc d → EndsPattern l r → pattern_step d (capped g d) (capped_pattern g d) (capped_pattern g (suc d)) l (ts ++ r) ≡
    Found p r) → FindsPattern l ts p
by_step l ts p f zero d r w h e = absurd (omega (arith, w))
by_step l ts p f (suc g) zero r w h e = absurd (omega (arith, h, pattern_some p))
by_step l ts p f (suc g) (suc d) r w h e = f g d r (omega (arith, w)) h e

pub by_closed : (ts : List Terminal) (p : Pattern) → ((g d : ℕ) (r : List Terminal) → length ts + length r ≤ g → pattern_height p ≤ suc d
    → pattern_grip_of r < 5 → closed_pattern d (capped g d) (capped_pattern g d) (capped_pattern g (suc d)) (ts ++ r) ≡ Found p r)
    → FindsPattern ClosedPattern ts p
by_closed ts p f = by_step ClosedPattern ts p (λ g d r w h e. ap (cap_pattern (suc d)) (f g d r w h e) ∙ fits pattern_height (suc d) p r h)

-- ---- The next level.

module _ (d : ℕ) (self : Reads) (inner same : PatternReads) where
  next_star_step : (ts r : List Terminal) (p : Pattern) → starts_entry ClassArgument ts ≡ true
      → read_as_pattern d self inner same (ts ++ r) ≡ Found p r → read_star d self inner same (ts ++ r) ≡ Found p r
  next_star_step ts r p s h = pass_start ClassArgument Star ts r _ _ refl s ∙ h

  next_patterns_step : (ts r : List Terminal) (p : Pattern) → starts_entry ClassArgument ts ≡ true → pattern_grip_of r < 1
      → read_as_pattern d self inner same (ts ++ r) ≡ Found p r → read_patterns d self inner same (ts ++ r) ≡ Found p r
  next_patterns_step ts r p s e h = rw (next_star_step ts r p s h) (miss_sign Comma r _ _ (λ q. omega (arith, e, q))
      ∙ pass_start ClassArgument Star ts r _ _ refl s)

  next_as_step : (i r : List Terminal) (p : Pattern) → pattern_grip_of r < 3 → read_or d self inner same i ≡ Found p r
      → read_as_pattern d self inner same i ≡ Found p r
  next_as_step i r p e h = rw h (miss_keyword Key.As r _ _ (λ q. omega (arith, e, q)))

  next_or_step : (i r : List Terminal) (p : Pattern) → pattern_grip_of r < 4 → read_closed d self inner same i ≡ Found p r
      → read_or d self inner same i ≡ Found p r
  next_or_step i r p e h = rw h (miss_sign VBar r _ _ (λ q. omega (arith, e, q)))

pub next_finds : (l : PatternLevel) (ts : List Terminal) (p : Pattern) → starts_entry (item_at (below_pattern l)) ts ≡ true
    → FindsPattern (below_pattern l) ts p → FindsPattern l ts p
next_finds Patterns ts p s f =
    by_step Patterns ts p (λ g d r w h e. next_patterns_step d (capped g d) (capped_pattern g d) (capped_pattern g (suc d)) ts r p s
    (omega (arith, e)) (f (suc g) (suc d) r (omega (arith, w)) h (omega (arith, e))))
next_finds StarPattern ts p s f =
    by_step StarPattern ts p (λ g d r w h e. next_star_step d (capped g d) (capped_pattern g d) (capped_pattern g (suc d)) ts r p s
    (f (suc g) (suc d) r (omega (arith, w)) h (omega (arith, e))))
next_finds AsPattern ts p s f =
    by_step AsPattern ts p (λ g d r w h e. next_as_step d (capped g d) (capped_pattern g d) (capped_pattern g (suc d)) (ts ++ r) r p
    (omega (arith, e)) (f (suc g) (suc d) r (omega (arith, w)) h (omega (arith, e))))
next_finds OrPattern ts p s f =
    by_step OrPattern ts p (λ g d r w h e. next_or_step d (capped g d) (capped_pattern g d) (capped_pattern g (suc d)) (ts ++ r) r p
    (omega (arith, e)) (f (suc g) (suc d) r (omega (arith, w)) h (omega (arith, e))))
next_finds ClosedPattern ts p s f = f

-- ---- Patterns with none inside.

module _ (d : ℕ) (self : Reads) (inner same : PatternReads) where
  joined_closed : {u : Bool} {ts : List Terminal} {ps : List StringPart} → G.Literals u ts ps → has_formatted ts ≡ true
      → (r : List Terminal) → closed_pattern d self inner same (ts ++ r) ≡ literal_pattern d self inner (ts ++ r)
  joined_closed G.no_literal h r = absurd (cc)
  joined_closed (G.text_literal l) h r = refl
  joined_closed (G.formatted_literal p l) h r = refl

  literal_closed : {ts : List Terminal} {e : Expr} → P.LiteralOf ts e → (r : List Terminal)
      → closed_pattern d self inner same (ts ++ r) ≡ literal_pattern d self inner (ts ++ r)
  literal_closed (P.number P.unsigned) r = refl
  literal_closed (P.number P.negative) r = refl
  literal_closed (P.complex t P.unsigned h q k) r = refl
  literal_closed (P.complex t P.negative h q k) r = refl
  literal_closed (P.strings vs h) r = refl
  literal_closed (P.joined_string p b q) r = joined_closed p q r

  literal_step : (i r : List Terminal) (e : Expr) → literal_or self i NoForm ≡ Found e r
      → literal_pattern d self inner i ≡ Found (MatchValue e) r
  literal_step i r e h = rw h refl

  singleton_step : (t : Terminal) (v : Values.Value) (r : List Terminal) → singleton_word t ≡ Some v
      → closed_pattern d self inner same (t ∷ r) ≡ Found (MatchSingleton v) r
  singleton_step (Word x) v r h = rw h refl
  singleton_step _ v r h = absurd (cc)

  capture_step : (x : Spelled) (r : List Terminal) → pattern_grip_of r < 5 → closed_pattern d self inner same (Ident x ∷ r) ≡ Found
      (MatchAs absent_pattern (captured x.form)) r
  capture_step x r g = go (is_wildcard x.form) _ (rw (name_end x r (omega (arith, g))) (miss_sign LPar r _ _ (λ q. omega (arith, g, q))))
    where
      name_end : (x : Spelled) (r : List Terminal) → pattern_grip_of r < 6 → dotted_from d x.form r ≡ Found (Trees.Name x.form Load) r
      name_end x r g = dotted_end d (length r) (Trees.Name x.form Load) r g

      go : (b : Bool) (y : Answer Pattern) → y ≡ Found (MatchAs absent_pattern (Some x.form)) r
          → cond b (Found (MatchAs absent_pattern None) r) y ≡ Found (MatchAs absent_pattern (if b then None else Some x.form)) r
      go true y h = refl
      go false y h = h

  value_step : (x y : Spelled) (us r : List Terminal) (e : Expr) → is_wildcard x.form ≡ false
      → dotted_from d x.form us ≡ Found (Trees.Attribute e y.form Load) r → pattern_grip_of r < 5
      → closed_pattern d self inner same (Ident x ∷ us) ≡ Found (MatchValue (Trees.Attribute e y.form Load)) r
  value_step x y us r e w h g = rw (w, h) (miss_sign LPar r _ _ (λ q. omega (arith, g, q)))

pub literal_finds : {ts : List Terminal} {e : Expr} → P.LiteralOf ts e → FindsPattern ClosedPattern ts (MatchValue e)
literal_finds {ts} {e} p =
    by_closed ts (MatchValue e) (λ g d r w h k. literal_closed d (capped g d) (capped_pattern g d) (capped_pattern g (suc d)) p r
    ∙ literal_step d (capped g d) (capped_pattern g d) (capped_pattern g (suc d)) (ts ++ r) r e
    (literal_reads p g d NoForm r w (omega (arith, h)) k))

pub singleton_finds : (t : Terminal) (v : Values.Value) → singleton_word t ≡ Some v → FindsPattern ClosedPattern (t ∷ []) (MatchSingleton v)
singleton_finds t v q = by_closed (t ∷ []) (MatchSingleton v) (λ g d r w h k. singleton_step d (capped g d) (capped_pattern g d)
    (capped_pattern g (suc d)) t v r q)

pub capture_finds : (x : Spelled) → FindsPattern ClosedPattern (Ident x ∷ []) (MatchAs absent_pattern (captured x.form))
capture_finds x = by_closed (Ident x ∷ []) (MatchAs absent_pattern (captured x.form))
    (λ g d r w h k. capture_step d (capped g d) (capped_pattern g d) (capped_pattern g (suc d)) x r k)

pub value_finds : (ts : List Terminal) (e : Expr) (x : Spelled)
    → P.ClassOf (ts ++ (Op Dot ∷ (Ident x ∷ []))) (Trees.Attribute e x.form Load)
    → FindsPattern ClosedPattern (ts ++ (Op Dot ∷ (Ident x ∷ []))) (MatchValue (Trees.Attribute e x.form Load))
value_finds ts e x p = by_closed (ts ++ (Op Dot ∷ (Ident x ∷ []))) (MatchValue (Trees.Attribute e x.form Load)) (λ g d r w h k.
    let c = class_reads p d r (omega (arith, h)) (omega (arith, k)) in
    ap (closed_pattern d (capped g d) (capped_pattern g d) (capped_pattern g (suc d))) c.2.0
    ∙ value_step d (capped g d) (capped_pattern g d) (capped_pattern g (suc d)) c.0 x c.1 r e c.3 c.2.1 k)

-- ---- A star, and `as`.

pub star_finds : (x : Spelled) → FindsPattern StarPattern (Op Star ∷ (Ident x ∷ [])) (MatchStar (captured x.form))
star_finds x = by_step StarPattern (Op Star ∷ (Ident x ∷ [])) (MatchStar (captured x.form)) (λ g d r w h e. refl)

as_height : (p : Pattern) (x : Identifier) (q : Pattern) → as_named p x ≡ Some q → pattern_height p ≤ pattern_height q
as_height p x q h = go (captured x) h
  where
    same : (p q : Pattern) → Some p ≡ Some q → p ≡ q
    same p q h = cc

    go : (o : Option Identifier) → option_map (λ y. MatchAs (present_pattern p) (Some y)) o ≡ Some q → pattern_height p ≤ pattern_height q
    go None k = absurd (cc)
    go (Some y) k = let w = ap pattern_height (same (MatchAs (present_pattern p) (Some y)) q k) in omega (arith, w)

as_name_step : (d : ℕ) (self : Reads) (inner same : PatternReads) (i r : List Terminal) (p q : Pattern) (x : Spelled)
    → read_or d self inner same i ≡ Found p (Word Key.As ∷ (Ident x ∷ r)) → as_named p x.form ≡ Some q → pattern_height q ≤ suc d
    → read_as_pattern d self inner same i ≡ Found q r
as_name_step d self inner same i r p q x h k w = rw h (ap (λ o. cap_pattern (suc d) (made o r)) k ∙ fits pattern_height (suc d) q r w)

pub as_name_finds : (ts : List Terminal) (p q : Pattern) (x : Spelled) → FindsPattern OrPattern ts p → as_named p x.form ≡ Some q
    → FindsPattern AsPattern (ts ++ (Word Key.As ∷ (Ident x ∷ []))) q
as_name_finds ts p q x f k = by_step AsPattern (ts ++ (Word Key.As ∷ (Ident x ∷ []))) q (λ g d r w h e.
    ap (read_as_pattern d (capped g d) (capped_pattern g d) (capped_pattern g (suc d))) (append_assoc ts (Word Key.As ∷ (Ident x ∷ [])) r) ∙
    as_name_step d (capped g d) (capped_pattern g d) (capped_pattern g (suc d)) (ts ++ (Word Key.As ∷ (Ident x ∷ r))) r p q x
    (f (suc g) (suc d) (Word Key.As ∷ (Ident x ∷ r)) (omega (arith, w, length-append ts (Word Key.As ∷ (Ident x ∷ []))))
    (omega (arith, h, as_height p x.form q k)) (omega arith)) k h)
