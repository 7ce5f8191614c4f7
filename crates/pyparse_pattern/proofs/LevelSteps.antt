-- The levels of patterns, by what stands at a place.
--
-- Carries: the levels. On: Answers, Readings.
use Rattle.std.proofs.Common.{◌≡◌, refl, sym, ap, ◌∙◌, arith, ℕ, zero, suc, ◌+◌, ◌-◌, ◌≤◌, ◌<◌, List, length, Option, Some, None, false}
use Rattle.std.proofs.Common.{cond, if◌then◌else◌, Result, Ok, Err, MatchResult}
use Rattle.std.specs.Prelude.{option_map}
use Rattle.std.proofs.lemmas.Bool.{le-leb, lt-leb}
use Rattle.pytoken.specs.declared.keywords.Keyword.TheVariants as Key
use Rattle.pytree_node.specs.Trees.{Identifier, Pattern, MatchAs, MatchStar, present_pattern}
use Rattle.pytree_node.specs.TreeOf.{pattern_of}
use Rattle.pytree_height.specs.Heights.{pattern_height}
use Rattle.pytoken.specs.Terminals.{Terminal, Word}
use Rattle.pytoken.specs.declared.values.terminals.Terminal as given
use Rattle.pygrammar.specs.declared.pattern_levels.PatternLevel.{PatternLevel}
use Rattle.pygrammar.specs.declared.pattern_levels.PatternLevel.TheVariants as level
use Rattle.pygrammar.specs.Capped.{capped}
use Rattle.pygrammar.specs.Looks.{name_in}
use Rattle.pygrammar.specs.PatternEntries.{Rest, as_named}
use Rattle.pygrammar.specs.PatternOperators.{captured, is_wildcard}
use Rattle.pygrammar.specs.PatternReader.{cap_pattern, capped_pattern}
use Rattle.pygrammar.specs.Reader.{Answer, Found, NoForm, TooDeep, made, on_first}
use Rattle.pyparse_nodes.specs.declared.stop.Stop.{Stop}
use Rattle.pyparse_nodes.specs.declared.stop.Stop.TheVariants as stop
use Rattle.pyparse_nodes.specs.Views.{Stands, first_is, seen}
use Rattle.pyparse_reads.specs.Readings.{IsOpen}
use Rattle.pyparse_reads.specs.declared.depth.Depth.{Depth}
use Rattle.pyparse_reads.proofs.Callers.Looks.{first_hit, seen_next}
use Rattle.pyparse_pattern.specs.declared.found.ReadPattern.{ReadPattern}
use Rattle.pyparse_pattern.specs.Answers.{PatternAnswered, PatternAt, reads}
use Rattle.pyparse_pattern.specs.Inner.Made.{MadePattern, MakesPattern}
use Rattle.pyparse_pattern.specs.Inner.Readings.{as_from, level_at, level_reads, rest_reads, star_name}

-- where there are steps and room
opened : (g n : ℕ) (l : PatternLevel) (i : List Terminal) → capped_pattern (suc g) (suc n) l i ≡ level_at (suc n) n (capped g n)
    (capped_pattern g n) (capped_pattern g (suc n)) l i
opened g n level.Patterns i = refl
opened g n level.StarPattern i = refl
opened g n level.AsPattern i = refl
opened g n level.OrPattern i = refl
opened g n level.ClosedPattern i = refl

level_is : (s r : ℕ) (l : PatternLevel) (i : List Terminal) → 0 < s → 0 < r
    → capped_pattern s r l i ≡ level_at r (r - 1) (capped (s - 1) (r - 1)) (capped_pattern (s - 1) (r - 1)) (capped_pattern (s - 1) r) l i
level_is zero r l i h w = absurd (omega arith)
level_is (suc g) zero l i h w = absurd (omega arith)
level_is (suc g) (suc n) l i h w = go (suc g - 1) (suc n - 1) (omega arith) (omega arith)
  where
    go : (a b : ℕ) → a ≡ g → b ≡ n → capped_pattern (suc g) (suc n) l i ≡ level_at (suc n) b (capped a b) (capped_pattern a b)
        (capped_pattern a (suc n)) l i
    go a b p q = rw (p, q) (opened g n l i)

-- one level
pub by_level : (ts : List given.Terminal) (least : ℕ) (d : Depth) (l : PatternLevel) (i : List Terminal) (z : Result ReadPattern Stop)
    → IsOpen d → PatternAnswered ts d.room least (level_reads d l i) z → PatternAnswered ts d.room least (reads d l i) z
by_level ts least d l i z o h = rw (level_is d.steps d.room l i o.steps o.room) h

-- what is no higher than the room, and what is
pub cap_low : (room : ℕ) (p : Pattern) (r : List Terminal) → pattern_height p ≤ room → cap_pattern room (Found p r) ≡ Found p r
cap_low room p r h = ap (λ b. cond b (Found p r) TooDeep) (le-leb (pattern_height p) room h)

pub cap_high : (room : ℕ) (p : Pattern) (r : List Terminal) → room < pattern_height p → cap_pattern room (Found p r) ≡ TooDeep
cap_high room p r h = ap (λ b. cond b (Found p r) TooDeep) (lt-leb (pattern_height p) room h)

module _ (ts : List given.Terminal) (room least : ℕ) (p : Pattern) (n : ℕ) (le : least ≤ n) (w : n ≤ length ts) where
  here : (h : ℕ) (r : ReadPattern) → h ≤ room → MadePattern h p n r → PatternAt ts room least (Found p (seen ts n)) r
  here h r l m = record {
    ahead = omega (arith, le, m.next_is);
    within = omega (arith, w, m.next_is);
    low = omega (arith, l, m.low);
    is = ap (λ q. Found q (seen ts n)) (sym m.pattern) ∙ ap (λ k. Found (pattern_of r.pattern.value) (seen ts k)) (sym m.next_is);
  }

  -- a pattern, where it was made
  pub node : (z : Result ReadPattern Stop) → MakesPattern room p n z
      → PatternAnswered ts room least (cap_pattern room (Found p (seen ts n))) z
  node (Ok r) m = rw (cap_low room p (seen ts n) (omega (arith, m.low, r.is_height, ap pattern_height m.pattern)))
      (here room r (omega arith) m)
  node (Err stop.NoForm) m = absurd m
  node (Err stop.TooDeep) m = cap_high room p (seen ts n) m
  node (Err stop.Memory) m = tt

  -- one of height 1
  pub leaf : (z : Result ReadPattern Stop) → 0 < room → MatchResult z (λ r. MadePattern 1 p n r) (λ s. s ≡ stop.Memory)
      → PatternAnswered ts room least (Found p (seen ts n)) z
  leaf (Ok r) o m = here 1 r (omega (arith, o)) m
  leaf (Err stop.NoForm) o m = absurd (cc)
  leaf (Err stop.TooDeep) o m = absurd (cc)
  leaf (Err stop.Memory) o m = tt

-- ---- Names: after a `*`, an `as` and a `**`.

module _ (ts : List given.Terminal) (at : ℕ) (x : Identifier) (stands : Some x ≡ first_is name_in (seen ts at)) (w : at < length ts) where
  named_is : {A : Type 0} (k : Identifier → List Terminal → Answer A) → on_first name_in (seen ts at) k NoForm ≡ k x (seen ts (at + 1))
  named_is k = first_hit name_in (seen ts at) x k NoForm stands ∙ ap (λ r. k x r) (seen_next ts at)

  pub star_named : (d : Depth) (y : Option Identifier) (z : Result ReadPattern Stop) → IsOpen d → y ≡ captured x
      → MatchResult z (λ r. MadePattern 1 (MatchStar y) (at + 1) r) (λ s. s ≡ stop.Memory)
      → PatternAnswered ts d.room at (star_name d (seen ts at)) z
  star_named d y z o e m = rw (named_is (λ v r. Found (MatchStar (captured v)) r), ← e)
      (leaf ts d.room at (MatchStar y) (at + 1) (omega arith) (omega (arith, w)) z o.room m)

  -- one that is no wildcard
  module _ (y : Identifier) (same : y ≡ x) (n : is_wildcard y ≡ false) where
    as_name : (p : Pattern) → as_named p x ≡ Some (MatchAs (present_pattern p) (Some y))
    as_name p = ap (as_named p) (sym same) ∙ ap (λ b. option_map (λ v. MatchAs (present_pattern p) (Some v)) (if b then None else Some y)) n

    pub as_made : (d : Depth) (p : Pattern) (at0 : ℕ) (z : Result ReadPattern Stop) → Stands (Word Key.As) ts at0 → at ≡ at0 + 1
        → MakesPattern d.room (MatchAs (present_pattern p) (Some y)) (at + 1) z
        → PatternAnswered ts d.room at0 (as_from d.room p (seen ts at0)) z
    as_made d p at0 z s q m =
        let e : as_from d.room p (seen ts at0) ≡ on_first name_in (seen ts (at0 + 1)) (λ v r. cap_pattern d.room (made (as_named p v) r))
        NoForm = rw s.is refl in
        let f = ap (λ k. on_first name_in (seen ts k) (λ v r. cap_pattern d.room (made (as_named p v) r)) NoForm) (sym q)
        ∙ named_is (λ v r. cap_pattern d.room (made (as_named p v) r))
        ∙ ap (λ o. cap_pattern d.room (made o (seen ts (at + 1)))) (as_name p) in
        rw (e ∙ f) (node ts d.room at0 (MatchAs (present_pattern p) (Some y)) (at + 1) (omega (arith, q)) (omega (arith, w)) z m)

    pub rest_found : rest_reads (seen ts at) ≡ Found (Rest y) (seen ts (at + 1))
    rest_found = named_is (λ v r. cond (is_wildcard v) NoForm (Found (Rest v) r))
        ∙ ap (λ v. cond (is_wildcard v) NoForm (Found (Rest v) (seen ts (at + 1)))) (sym same)
        ∙ ap (λ b. cond b NoForm (Found (Rest y) (seen ts (at + 1)))) n
