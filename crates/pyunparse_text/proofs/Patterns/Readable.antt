-- Carries: the laws of written patterns. On: the pieces of a pattern are told apart, close their brackets, and are read as its terminals.
use Rattle.std.proofs.Common.{◌≡◌, ◌≤◌, Bool, true, false, List, [], ◌∷◌, ◌++◌, Option, Some, None, refl, arith}
use Rattle.std.specs.Prelude.{if◌then◌else◌}
use Rattle.pylex_lexeme.specs.declared.kinds.Exact.TheVariants.{VBar}
use Rattle.pylex_lexeme.specs.Operators.{operators}
use Rattle.pytree_node.specs.declared.profiles.Extent.{Extent}
use Rattle.pytoken.specs.declared.keywords.Keyword.TheVariants as Key
use Rattle.pygrammar.specs.declared.levels.Level.TheVariants.{Sum, Primary}
use Rattle.pygrammar.specs.declared.pattern_levels.PatternLevel.{PatternLevel}
use Rattle.pygrammar.specs.declared.pattern_levels.PatternLevel.TheVariants as Level
use Rattle.pytree_node.specs.Trees
use Rattle.pytree_node.specs.Trees.{Expr, Identifier, Pattern, Patterns, no_pattern, a_pattern, absent_pattern, present_pattern}
use Rattle.pytoken.specs.Terminals.{Terminal, Op, Word}
use Rattle.pytoken.specs.Laws.{IsProper}
use Rattle.pytree_height.specs.Heights.{pattern_height}
use Rattle.pygrammar.specs.FormattedStrings.{has_formatted}
use Rattle.pygrammar.specs.PatternGrammar.{DerivesPattern}
use Rattle.pyunparse_text.specs.Written.{free, bracketed, separated}
use Rattle.pyunparse_text.specs.WrittenPatterns.{pattern_reaches, target_name, target, fit_pattern, sequence_of, rest_name, written_pattern}
use Rattle.pyunparse_text.specs.WrittenPatterns.{each_pattern, key_patterns, named_patterns}
use Rattle.pyunparse_text.specs.Terminals.{terminal}
use Rattle.pyunparse_text.specs.Pieces.{Sited, outside, piece}
use Rattle.pyunparse_text.specs.Laws.{AreRead, PatternsAreRead}
use Rattle.pyunparse_text.proofs.PieceLaws.Places.{open_place}
use Rattle.pyunparse_text.proofs.PieceLaws.Sorts.{starts_plain, starts_item, ends_plain, ends_comma, more_item, more_comma}
use Rattle.pyunparse_text.proofs.PieceLaws.Segments.{Closed, Each, none, more, widen, sign, group, square, braces, called, loosely}
use Rattle.pyunparse_text.proofs.PieceLaws.Segments.{separated_some}
use Rattle.pyunparse_text.proofs.PieceLaws.Segments as Segments
use Rattle.pyunparse_text.proofs.PieceLaws.Shapes.{Plain, keyword, plain_name, constant, plain_both, double_star, paired_form}
use Rattle.pyunparse_text.proofs.PieceLaws.Listings.{each_widen, each_both, items_listed, with_comma_items, named_argument, call_after}
use Rattle.pyunparse_text.proofs.PieceLaws.Readable.{readable}
use Rattle.pyunparse_text.proofs.PieceLaws.LineForms.{MaybeProper, AreProper, star_name}
use Rattle.pyunparse_text.proofs.PieceLaws.SoftWords.{wildcard_is_proper}
use Rattle.pyunparse_text.proofs.PieceLaws.Law.{closed_read}
use Rattle.pyunparse_text.proofs.PieceLaws.Derived.{Said}
use Rattle.pyunparse_text.proofs.PieceLaws.OfTokens.{of_tokens}
use Rattle.pyunparse_text.proofs.Patterns.Flat.{pattern_brackets}
use Rattle.pyunparse_text.proofs.Patterns.Claims.{takes_star}
use Rattle.pyunparse_text.proofs.Patterns.Sound.{SoundKeys, SoundPattern, SoundPatterns, pattern_sound}

-- what a pattern begins and ends with, by level, and by whether a star may stand there: a sequence without brackets ends in a comma if it
-- is of one
abbrev pub starts_pattern : Bool → PatternLevel → List Sited
starts_pattern s Level.Patterns = starts_item
starts_pattern true l = starts_item
starts_pattern false l = starts_plain

abbrev pub ends_pattern : PatternLevel → List Sited
ends_pattern Level.Patterns = ends_comma
ends_pattern l = ends_plain

abbrev pub Written : Extent → Bool → PatternLevel → List Sited → List Terminal → Type 0
Written extent s l ps ts = Closed (open_place extent) (starts_pattern s l) (ends_pattern l) ps ts

target_proper : (x : Option Identifier) → MaybeProper x → IsProper (target_name x)
target_proper None h = wildcard_is_proper
target_proper (Some x) h = h

module _ {extent : Extent} where
  -- ---- Levels.

  itemly : (l : PatternLevel) {ps : List Sited} {ts : List Terminal} → Closed (open_place extent) starts_item ends_plain ps ts
      → Written extent true l ps ts
  itemly Level.Patterns x = widen (λ p e. e) more_comma x
  itemly Level.StarPattern x = x
  itemly Level.AsPattern x = x
  itemly Level.OrPattern x = x
  itemly Level.ClosedPattern x = x

  plainly : (s : Bool) (l : PatternLevel) {ps : List Sited} {ts : List Terminal} → Plain (open_place extent) ps ts
      → Written extent s l ps ts
  plainly s Level.Patterns x = widen more_item more_comma x
  plainly true l x = itemly l (widen {d = ends_plain} more_item (λ p e. e) x)
  plainly false Level.StarPattern x = x
  plainly false Level.AsPattern x = x
  plainly false Level.OrPattern x = x
  plainly false Level.ClosedPattern x = x

  fitted : (s : Bool) (l k : PatternLevel) {ps : List Sited} {ts : List Terminal} → Plain (open_place extent) ps ts
      → Written extent s l (fit_pattern piece l k ps) (fit_pattern terminal l k ts)
  unfolding fit_pattern
  fitted s l k {ps} {ts} x = by (pattern_reaches l k)
    where
      by : (b : Bool) → Written extent s l (if b then ps else bracketed piece ps) (if b then ts else bracketed terminal ts)
      by true = plainly s l x
      by false = plainly s l (group (Segments.some (loosely x)))

  -- ---- Forms.

  target_form : (x : Option Identifier) → MaybeProper x → Plain (open_place extent) (target piece x ∷ []) (target terminal x ∷ [])
  target_form x h = plain_name (target_name x) (target_proper x h)

  as_form : {ps : List Sited} {ts : List Terminal} (x : Option Identifier) → MaybeProper x → Plain (open_place extent) ps ts
      → Plain (open_place extent) (ps ++ (free piece (Word Key.As) ∷ (target piece x ∷ [])))
      (ts ++ (free terminal (Word Key.As) ∷ (target terminal x ∷ [])))
  as_form x h y = plain_both y (plain_both (keyword Key.As) (target_form x h))

  or_form : {ps : List Sited} {ts : List Terminal} {pss : List (List Sited)} {tss : List (List Terminal)} → Plain (open_place extent) ps ts
      → Each (open_place extent) starts_plain ends_plain pss tss
      → Plain (open_place extent) (separated (free piece (Op VBar)) (ps ∷ pss)) (separated (free terminal (Op VBar)) (ts ∷ tss))
  unfolding operators
  or_form x xs =
      separated_some (free piece (Op VBar)) (free terminal (Op VBar))
      (sign (free piece (Op VBar) ∷ []) (free piece (Op VBar) ∷ []) VBar false false refl refl refl) refl refl x xs

  sequence_form : (s : Bool) (l : PatternLevel) {pss : List (List Sited)} {tss : List (List Terminal)}
      → Each (open_place extent) starts_item ends_plain pss tss → Written extent s l (sequence_of piece l pss) (sequence_of terminal l tss)
  sequence_form s Level.Patterns none = plainly s Level.Patterns (square Segments.nothing)
  sequence_form s Level.Patterns (more x xs) = with_comma_items x xs
  sequence_form s Level.StarPattern xs = plainly s Level.StarPattern (square (items_listed xs))
  sequence_form s Level.AsPattern xs = plainly s Level.AsPattern (square (items_listed xs))
  sequence_form s Level.OrPattern xs = plainly s Level.OrPattern (square (items_listed xs))
  sequence_form s Level.ClosedPattern xs = plainly s Level.ClosedPattern (square (items_listed xs))

  rest_form : (x : Option Identifier) → MaybeProper x → Each (open_place extent) starts_item ends_plain
      (rest_name piece x) (rest_name terminal x)
  rest_form None h = none
  rest_form (Some x) h = more (double_star (plain_name x h)) none

  items : {pss : List (List Sited)} {tss : List (List Terminal)} → Each (open_place extent) starts_plain ends_plain pss tss
      → Each (open_place extent) starts_item ends_plain pss tss
  items xs = each_widen {c = starts_item} {d = ends_plain} more_item (λ p e. e) xs

  -- ---- Patterns.

  mutual
    unfolding written_pattern each_pattern key_patterns named_patterns

    pub pattern_readable : (s : Bool) (l : PatternLevel) (p : Pattern) → SoundPattern extent s p
        → Written extent s l (written_pattern piece l p) (written_pattern terminal l p)
    pattern_readable s l (Trees.MatchValue value) h = plainly s l (readable false Sum value h)
    pattern_readable s l (Trees.MatchSingleton value) h = plainly s l (constant value h)
    pattern_readable s l (Trees.MatchSequence inner) h = sequence_form s l (elements_are inner h)
    pattern_readable s l (Trees.MatchMapping keys inner rest) h =
        plainly s l (braces (items_listed (each_both (items (keys_are keys inner h.0 h.1)) (rest_form rest h.2))))
    pattern_readable s l (Trees.MatchClass cls inner names named) h =
        plainly s l
        (call_after (readable false Primary cls h.0)
        (called (items_listed (each_both (items (arguments_are inner h.1)) (named_are names named h.2 h.3)))))
    pattern_readable true l (Trees.MatchStar None) h = itemly l (star_name (target_name None) wildcard_is_proper)
    pattern_readable true l (Trees.MatchStar (Some x)) h = itemly l (star_name x h.1)
    pattern_readable false l (Trees.MatchStar name) h = absurd (let z = h.0 in cc)
    pattern_readable s l (Trees.MatchAs absent_pattern name) h = plainly s l (target_form name h)
    pattern_readable s l (Trees.MatchAs (present_pattern p) name) h =
        fitted s l Level.AsPattern (as_form name h.1 (pattern_readable false Level.OrPattern p h.0))
    pattern_readable s l (Trees.MatchOr (a_pattern p ps)) h =
        fitted s l Level.OrPattern (or_form (pattern_readable false Level.ClosedPattern p h.1.0) (closed_are ps h.1.1))
    pattern_readable s l (Trees.MatchOr no_pattern) h = absurd h.0

    elements_are : (ps : Patterns) → SoundPatterns extent true ps
        → Each (open_place extent) starts_item ends_plain (each_pattern piece Level.StarPattern ps)
        (each_pattern terminal Level.StarPattern ps)
    elements_are no_pattern h = none
    elements_are (a_pattern p ps) h = more (pattern_readable true Level.StarPattern p h.0) (elements_are ps h.1)

    arguments_are : (ps : Patterns) → SoundPatterns extent false ps
        → Each (open_place extent) starts_plain ends_plain (each_pattern piece Level.AsPattern ps)
        (each_pattern terminal Level.AsPattern ps)
    arguments_are no_pattern h = none
    arguments_are (a_pattern p ps) h = more (pattern_readable false Level.AsPattern p h.0) (arguments_are ps h.1)

    closed_are : (ps : Patterns) → SoundPatterns extent false ps
        → Each (open_place extent) starts_plain ends_plain (each_pattern piece Level.ClosedPattern ps)
        (each_pattern terminal Level.ClosedPattern ps)
    closed_are no_pattern h = none
    closed_are (a_pattern p ps) h = more (pattern_readable false Level.ClosedPattern p h.0) (closed_are ps h.1)

    keys_are : (ks : List Expr) (ps : Patterns) → SoundKeys extent ks → SoundPatterns extent false ps
        → Each (open_place extent) starts_plain ends_plain (key_patterns piece ks ps) (key_patterns terminal ks ps)
    keys_are [] ps h i = none
    keys_are (k ∷ ks) no_pattern h i = none
    keys_are (k ∷ ks) (a_pattern p ps) h i =
        more (paired_form (readable false Sum k h.0) (pattern_readable false Level.AsPattern p i.0)) (keys_are ks ps h.1 i.1)

    named_are : (xs : List Identifier) (ps : Patterns) → AreProper xs → SoundPatterns extent false ps
        → Each (open_place extent) starts_item ends_plain (named_patterns piece xs ps) (named_patterns terminal xs ps)
    named_are [] ps h i = none
    named_are (x ∷ xs) no_pattern h i = none
    named_are (x ∷ xs) (a_pattern p ps) h i = more (named_argument x h.0 (pattern_readable false Level.AsPattern p i.0))
        (named_are xs ps h.1 i.1)

-- what is written for a pattern that the grammar gives to terminals that can be said
pub patterns_said : (extent : Extent) (l : PatternLevel) (ts : List Terminal) (p : Pattern) → Said extent [] ts → DerivesPattern l ts p
    → (has_formatted (written_pattern terminal l p) ≡ true → pattern_height p ≤ 500)
    → AreRead extent (outside (written_pattern piece l p)) (written_pattern terminal l p)
patterns_said extent l ts p h d low =
    let b = pattern_brackets l p in
    closed_read (pattern_readable (takes_star l) l p (pattern_sound extent d h)) (λ q. let h = low q in omega (arith, b, h))

pub patterns_read : PatternsAreRead
patterns_read extent l ts p h d low = patterns_said extent l ts p (of_tokens h) d low
