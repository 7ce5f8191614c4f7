-- What may follow a pattern, and what begins one.
--
-- Carries: EndsPattern, pattern_grip_of, pass_start, begun and 10 more, for ReadValues, ReadLevels,
-- ReadEntries and 2 more. On: LookLemmas.
use Rattle.std.proofs.Common.{◌≡◌, inl, inr, refl, ap, ◌∙◌, ℕ, ◌<◌, arith, List, [], ◌∷◌, ◌++◌, Some, None, Bool, true, false}
use Rattle.pylex_lexeme.specs.declared.kinds.Exact.{Exact}
use Rattle.pylex_lexeme.specs.declared.kinds.Exact.TheVariants.{LPar, LSqb, LBrace, Comma, Plus, Minus, Star, Equal, Dot, DoubleStar, VBar}
use Rattle.pytoken.specs.declared.keywords.Keyword.{Keyword}
use Rattle.pytoken.specs.declared.keywords.Keyword.TheVariants as Key
use Rattle.pytree_node.specs.declared.operators.Operator.{Operator}
use Rattle.pygrammar.specs.declared.levels.Level.TheVariants.{Sum}
use Rattle.pygrammar.specs.declared.pattern_levels.PatternLevel.{PatternLevel}
use Rattle.pygrammar.specs.declared.pattern_levels.PatternLevel.TheVariants.{Patterns, StarPattern}
use Rattle.pytree_node.specs.Trees.{Expr, Identifier, Pattern}
use Rattle.pytree_node.specs.Values
use Rattle.pytoken.specs.Terminals.{Terminal, Op, Word, Ident, Number, Literal, FormattedBegin}
use Rattle.pygrammar.specs.Looks.{is_op, is_word}
use Rattle.pygrammar.specs.Operators.{left_operator}
use Rattle.pygrammar.specs.Reader.{on_some, on_first}
use Rattle.pygrammar.specs.PatternOperators.{below_pattern, pattern_rank, singleton_word}
use Rattle.pygrammar.specs.PatternEntries.{PatternItem, Element, KeyPattern, ClassArgument, PatternEntry}
use Rattle.pygrammar.specs.FormattedStrings.{StringPart, has_formatted}
use Rattle.pygrammar.specs.Grammar as G
use Rattle.pygrammar.specs.PatternGrammar as P
use Rattle.pygrammar.specs.PatternReader.{begins_pattern, begins_entry, starts_entry}
use Rattle.pygrammar.proofs.Completeness.LookLemmas.{op_or_not, no_op, no_word}

-- ---- What follows.

-- The rank of the level at which a terminal carries on a pattern before it. A `=` makes a NAME that of an argument; what begins an entry
-- carries on a list, after its comma.
abbrev pub pattern_grip : Terminal → ℕ
pattern_grip (Op Dot) = 6
pattern_grip (Op LPar) = 5
pattern_grip (Op Plus) = 5
pattern_grip (Op Minus) = 5
pattern_grip (Literal v) = 5
pattern_grip FormattedBegin = 5
pattern_grip (Op VBar) = 4
pattern_grip (Word Key.As) = 3
pattern_grip (Op Equal) = 2
pattern_grip (Op Comma) = 1
pattern_grip (Op Star) = 1
pattern_grip (Op DoubleStar) = 1
pattern_grip (Op LSqb) = 1
pattern_grip (Op LBrace) = 1
pattern_grip (Word Key.None) = 1
pattern_grip (Word Key.True) = 1
pattern_grip (Word Key.False) = 1
pattern_grip (Ident x) = 1
pattern_grip (Number v) = 1
pattern_grip _ = 0

abbrev pub pattern_grip_of : List Terminal → ℕ
pattern_grip_of [] = 0
pattern_grip_of (t ∷ r) = pattern_grip t

-- what may follow a pattern of a level, so that the reader ends there
abbrev pub EndsPattern : PatternLevel → List Terminal → Type 0
EndsPattern l r = pattern_grip_of r < pattern_rank l

pub end_of_pattern : (l : PatternLevel) → EndsPattern l []
end_of_pattern Patterns = omega arith
end_of_pattern _ = omega arith

-- a first terminal that a test refuses
pub miss_sign : {A : Type 0} (x : Exact) (r : List Terminal) (hit : ℕ → List Terminal → A) (other : A)
    → (pattern_grip_of r ≡ pattern_grip (Op x) → ⊥) → on_first (is_op x) r hit other ≡ other
miss_sign x [] hit other h = refl
miss_sign x (t ∷ r) hit other h = ap (λ o. on_some o (λ a. hit a r) other) (no_op pattern_grip x t h)

pub miss_keyword : {A : Type 0} (x : Keyword) (r : List Terminal) (hit : ℕ → List Terminal → A) (other : A)
    → (pattern_grip_of r ≡ pattern_grip (Word x) → ⊥) → on_first (is_word x) r hit other ≡ other
miss_keyword x [] hit other h = refl
miss_keyword x (t ∷ r) hit other h = ap (λ o. on_some o (λ a. hit a r) other) (no_word pattern_grip x t h)

no_sum : (t : Terminal) → pattern_grip t < 5 → left_operator Sum t ≡ None
no_sum (Op Plus) h = absurd (omega (arith, h))
no_sum (Op Minus) h = absurd (omega (arith, h))
no_sum (Op _) h = refl
no_sum _ h = refl

pub miss_sum : {A : Type 0} (r : List Terminal) (hit : Operator → List Terminal → A) (other : A) → pattern_grip_of r < 5
    → on_first (left_operator Sum) r hit other ≡ other
miss_sum [] hit other h = refl
miss_sum (t ∷ r) hit other h = ap (λ o. on_some o (λ a. hit a r) other) (no_sum t h)

-- what carries nothing on begins nothing
no_pattern_begins : (t : Terminal) → pattern_grip t < 1 → begins_pattern t ≡ false
no_pattern_begins (Ident x) h = absurd (omega (arith, h))
no_pattern_begins (Number v) h = absurd (omega (arith, h))
no_pattern_begins (Literal v) h = absurd (omega (arith, h))
no_pattern_begins FormattedBegin h = absurd (omega (arith, h))
no_pattern_begins (Word Key.None) h = absurd (omega (arith, h))
no_pattern_begins (Word Key.True) h = absurd (omega (arith, h))
no_pattern_begins (Word Key.False) h = absurd (omega (arith, h))
no_pattern_begins (Op LPar) h = absurd (omega (arith, h))
no_pattern_begins (Op LSqb) h = absurd (omega (arith, h))
no_pattern_begins (Op LBrace) h = absurd (omega (arith, h))
no_pattern_begins (Op Minus) h = absurd (omega (arith, h))
no_pattern_begins _ h = refl

no_entry_begins : (i : PatternItem) (t : Terminal) → pattern_grip t < 1 → begins_entry i t ≡ false
no_entry_begins Element (Op Star) h = absurd (omega (arith, h))
no_entry_begins KeyPattern (Op DoubleStar) h = absurd (omega (arith, h))
no_entry_begins i t h = no_pattern_begins t h

pub no_entry_starts : (i : PatternItem) (r : List Terminal) → pattern_grip_of r < 1 → starts_entry i r ≡ false
no_entry_starts i [] h = refl
no_entry_starts i (t ∷ r) h = no_entry_begins i t h

-- ---- What begins.

pub starts_front : (i : PatternItem) (ts us : List Terminal) → starts_entry i ts ≡ true → starts_entry i (ts ++ us) ≡ true
starts_front i [] us h = absurd (cc)
starts_front i (t ∷ ts) us h = h

begins_wide : (i : PatternItem) (t : Terminal) → begins_pattern t ≡ true → begins_entry i t ≡ true
begins_wide Element (Op Star) h = refl
begins_wide KeyPattern (Op DoubleStar) h = refl
begins_wide i t h = h

starts_wide : (i : PatternItem) (ts : List Terminal) → starts_entry ClassArgument ts ≡ true → starts_entry i ts ≡ true
starts_wide i [] h = absurd (cc)
starts_wide i (t ∷ ts) h = begins_wide i t h

-- a sign that doesn't begin what stands here
pub pass_start : {A : Type 0} (i : PatternItem) (x : Exact) (ts us : List Terminal) (hit : ℕ → List Terminal → A) (other : A)
    → begins_entry i (Op x) ≡ false → starts_entry i ts ≡ true → on_first (is_op x) (ts ++ us) hit other ≡ other
pass_start i x [] us hit other h k = absurd (cc)
pass_start i x (t ∷ ts) us hit other h k = elim (op_or_not x t) [
  | inl e ↦ absurd (differ (begins_entry i t) k (ap (begins_entry i) e ∙ h))
  | inr q ↦ ap (λ o. on_some o (λ a. hit a (ts ++ us)) other) q
]
  where
    differ : (b : Bool) → b ≡ true → b ≡ false → ⊥
    differ b p q = absurd (cc)

singleton_begins : (t : Terminal) (v : Values.Value) → singleton_word t ≡ Some v → begins_pattern t ≡ true
singleton_begins (Word Key.None) v h = refl
singleton_begins (Word Key.True) v h = refl
singleton_begins (Word Key.False) v h = refl
singleton_begins (Word _) v h = absurd (cc)
singleton_begins _ v h = absurd (cc)

joined_starts : {u : Bool} {ts : List Terminal} {ps : List StringPart} → G.Literals u ts ps → has_formatted ts ≡ true
    → starts_entry ClassArgument ts ≡ true
joined_starts G.no_literal h = absurd (cc)
joined_starts (G.text_literal l) h = refl
joined_starts (G.formatted_literal p l) h = refl

literal_starts : {ts : List Terminal} {e : Expr} → P.LiteralOf ts e → starts_entry ClassArgument ts ≡ true
literal_starts (P.number P.unsigned) = refl
literal_starts (P.number P.negative) = refl
literal_starts (P.complex t P.unsigned h q k) = refl
literal_starts (P.complex t P.negative h q k) = refl
literal_starts (P.strings vs h) = refl
literal_starts (P.joined_string p b q) = joined_starts p q

dotted_starts : {f : Identifier} {ts : List Terminal} {e : Expr} → P.Dotted f ts e → starts_entry ClassArgument ts ≡ true
dotted_starts P.first_name = refl
dotted_starts (P.dot_name {ts = ts} x p) = starts_front ClassArgument ts _ (dotted_starts p)

class_starts : {ts : List Terminal} {e : Expr} → P.ClassOf ts e → starts_entry ClassArgument ts ≡ true
class_starts (P.class_name p h) = dotted_starts p

pub key_starts : {ts : List Terminal} {e : Expr} → P.KeyOf ts e → starts_entry ClassArgument ts ≡ true
key_starts (P.literal_key p) = literal_starts p
key_starts (P.singleton_key {t = t} {v = v} h) = singleton_begins t v h
key_starts (P.name_key {ts = ts} x p) = starts_front ClassArgument ts _ (dotted_starts p)

-- the item that begins as a pattern of a level
abbrev pub item_at : PatternLevel → PatternItem
item_at Patterns = Element
item_at StarPattern = Element
item_at _ = ClassArgument

next_starts : (l : PatternLevel) (ts : List Terminal) → starts_entry (item_at (below_pattern l)) ts ≡ true
    → starts_entry (item_at l) ts ≡ true
next_starts Patterns ts h = starts_wide Element ts h
next_starts StarPattern ts h = starts_wide Element ts h
next_starts _ ts h = h

pub begun : {l : PatternLevel} {ts : List Terminal} {p : Pattern} → P.DerivesPattern l ts p → starts_entry (item_at l) ts ≡ true
begun (P.next {l = l} {ts = ts} p) = next_starts l ts (begun p)
begun (P.open_sequence {ts = ts} p c) = starts_front Element ts _ (begun p)
begun P.star = refl
begun (P.as_name {ts = ts} x p h) = starts_front ClassArgument ts _ (begun p)
begun (P.alternatives {ts = ts} p c) = starts_front ClassArgument ts _ (begun p)
begun (P.literal p) = literal_starts p
begun (P.singleton {t = t} {v = v} h) = singleton_begins t v h
begun P.capture = refl
begun (P.value {ts = ts} x p) = starts_front ClassArgument ts _ (class_starts p)
begun (P.group p) = refl
begun P.empty_sequence = refl
begun (P.round_sequence p c) = refl
begun (P.square_sequence c) = refl
begun (P.mapping c h) = refl
begun (P.class_pattern {ts = ts} p c h) = starts_front ClassArgument ts _ (class_starts p)

-- the items of a list
pub entry_begun : {i : PatternItem} {ts : List Terminal} {e : PatternEntry} → P.PatternPiece i ts e → starts_entry i ts ≡ true
entry_begun (P.element p) = begun p
entry_begun (P.key_pattern {ts = ts} k p) = starts_front KeyPattern ts _ (starts_wide KeyPattern ts (key_starts k))
entry_begun (P.rest h) = refl
entry_begun (P.argument p) = begun p
entry_begun (P.named_argument p) = refl
