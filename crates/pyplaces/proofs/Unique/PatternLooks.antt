-- What may follow a pattern, and what begins one.
--
-- Carries: PatternStops, miss_mark, mark_grip, pattern_led, entry_led, for PatternValues, PatternForms, Patterns. On: LookLemmas.
use Rattle.std.proofs.Common.{◌≡◌, refl, ℕ, ◌≤◌, arith, List, [], ◌∷◌, ◌++◌, Some, Bool, true}
use Rattle.std.proofs.lemmas.Bool.{le-leb}
use Rattle.pylex_lexeme.specs.declared.kinds.Exact.{Exact}
use Rattle.pylex_lexeme.specs.declared.kinds.Exact.TheVariants.{LPar, Plus, Minus, DoubleStar}
use Rattle.pytoken.specs.declared.keywords.Keyword.{Keyword}
use Rattle.pytoken.specs.declared.keywords.Keyword.TheVariants as Key
use Rattle.pytree_node.specs.declared.operators.Operator.{Operator}
use Rattle.pytree_node.specs.Trees.{Expr, Identifier, Pattern}
use Rattle.pytree_node.specs.Values
use Rattle.pytoken.specs.Terminals.{Terminal, Op, Word, Literal, FormattedBegin}
use Rattle.pygrammar.specs.declared.levels.Level.TheVariants.{Sum}
use Rattle.pygrammar.specs.declared.pattern_levels.PatternLevel.{PatternLevel}
use Rattle.pygrammar.specs.declared.pattern_levels.PatternLevel.TheVariants.{Patterns, StarPattern, AsPattern, OrPattern, ClosedPattern}
use Rattle.pygrammar.specs.FormattedStrings.{StringPart, has_formatted}
use Rattle.pygrammar.specs.Operators.{left_operator}
use Rattle.pygrammar.specs.PatternOperators.{below_pattern, singleton_word}
use Rattle.pygrammar.specs.PatternEntries.{PatternItem, Element, KeyPattern, ClassArgument, PatternEntry}
use Rattle.pygrammar.specs.Grammar as G
use Rattle.pygrammar.specs.PatternGrammar as P
use Rattle.pygrammar.specs.Precedence.{lead}
use Rattle.pyplaces.specs.Inner.Looks.{grip, grip_of, lead_of, mark, mark_of, on_mark}
use Rattle.pyplaces.specs.Inner.PatternSteps.{entry_starts}
use Rattle.pyplaces.specs.Inner.Questions.{Reading}
use Rattle.pyplaces.proofs.Unique.Leading.{Comes, past}
use Rattle.pyplaces.proofs.Unique.LookLemmas.{lead_front}

pub miss_mark : (r : List Terminal) (n : ℕ) (a : Reading) {b c : Reading} → (mark_of r ≡ n → ⊥) → Comes b c → Comes (on_mark n r a b) c
miss_mark r n a h p = past a h p

-- what may follow a pattern of a level, so that its reading ends there
abbrev pub PatternStops : PatternLevel → List Terminal → Type 0
PatternStops Patterns r = (mark_of r ≤ 5) × (lead_of r ≤ 6)
PatternStops StarPattern r = mark_of r ≤ 6
PatternStops AsPattern r = mark_of r ≤ 6
PatternStops OrPattern r = mark_of r ≤ 7
PatternStops ClosedPattern r = mark_of r ≤ 8

op_grip : (x : Exact) → grip (Op x) ≤ 24
op_grip LPar = omega arith
op_grip _ = omega arith

word_grip : (x : Keyword) → grip (Word x) ≤ 24
word_grip Key.If = omega arith
word_grip _ = omega arith

-- then no literal follows
pub mark_grip : (r : List Terminal) → mark_of r ≤ 8 → grip_of r ≤ 24
mark_grip [] h = omega arith
mark_grip (Literal v ∷ r) h = absurd (omega (arith, h))
mark_grip (FormattedBegin ∷ r) h = absurd (omega (arith, h))
mark_grip (Op x ∷ r) h = op_grip x
mark_grip (Word x ∷ r) h = word_grip x
mark_grip (_ ∷ r) h = omega arith

-- ---- What begins.

singleton_led : (t : Terminal) (v : Values.Value) → singleton_word t ≡ Some v → 20 ≤ lead t
singleton_led (Word Key.None) v h = omega arith
singleton_led (Word Key.True) v h = omega arith
singleton_led (Word Key.False) v h = omega arith
singleton_led (Word _) v h = absurd (cc)
singleton_led _ v h = absurd (cc)

joined_led : {u : Bool} {ts : List Terminal} {ps : List StringPart} → G.Literals u ts ps → has_formatted ts ≡ true → 20 ≤ lead_of ts
joined_led G.no_literal h = absurd (cc)
joined_led (G.text_literal l) h = omega arith
joined_led (G.formatted_literal p l) h = omega arith

literal_led : {ts : List Terminal} {e : Expr} → P.LiteralOf ts e → 20 ≤ lead_of ts
literal_led (P.number P.unsigned) = omega arith
literal_led (P.number P.negative) = omega arith
literal_led (P.complex t P.unsigned h q k) = omega arith
literal_led (P.complex t P.negative h q k) = omega arith
literal_led (P.strings vs h) = omega arith
literal_led (P.joined_string p b q) = joined_led p q

dotted_led : {f : Identifier} {ts : List Terminal} {e : Expr} → P.Dotted f ts e → 20 ≤ lead_of ts
dotted_led P.first_name = omega arith
dotted_led (P.dot_name {ts = ts} x p) = lead_front ts _ 20 (omega arith) (dotted_led p)

class_led : {ts : List Terminal} {e : Expr} → P.ClassOf ts e → 20 ≤ lead_of ts
class_led (P.class_name p h) = dotted_led p

pub key_led : {ts : List Terminal} {e : Expr} → P.KeyOf ts e → 20 ≤ lead_of ts
key_led (P.literal_key p) = literal_led p
key_led (P.singleton_key {t = t} {v = v} h) = singleton_led t v h
key_led (P.name_key {ts = ts} x p) = lead_front ts _ 20 (omega arith) (dotted_led p)

abbrev pub least : PatternLevel → ℕ
least Patterns = 7
least StarPattern = 7
least _ = 20

least_below : (l : PatternLevel) → least l ≤ least (below_pattern l)
least_below Patterns = omega arith
least_below _ = omega arith

pub pattern_led : {l : PatternLevel} {ts : List Terminal} {p : Pattern} → P.DerivesPattern l ts p → least l ≤ lead_of ts
pattern_led (P.next {l = l} p) = omega (arith, least_below l, pattern_led p)
pattern_led (P.open_sequence {ts = ts} p c) = lead_front ts _ 7 (omega arith) (pattern_led p)
pattern_led P.star = omega arith
pattern_led (P.as_name {ts = ts} x p h) = lead_front ts _ 20 (omega arith) (pattern_led p)
pattern_led (P.alternatives {ts = ts} p c) = lead_front ts _ 20 (omega arith) (pattern_led p)
pattern_led (P.literal p) = literal_led p
pattern_led (P.singleton {t = t} {v = v} h) = singleton_led t v h
pattern_led P.capture = omega arith
pattern_led (P.value {ts = ts} x p) = lead_front ts _ 20 (omega arith) (class_led p)
pattern_led (P.group p) = omega arith
pattern_led P.empty_sequence = omega arith
pattern_led (P.round_sequence p c) = omega arith
pattern_led (P.square_sequence c) = omega arith
pattern_led (P.mapping c h) = omega arith
pattern_led (P.class_pattern {ts = ts} p c h) = lead_front ts _ 20 (omega arith) (class_led p)

-- ---- The items of a list.

high_starts : (i : PatternItem) (r : List Terminal) → 20 ≤ lead_of r → entry_starts i r ≡ true
high_starts Element r h = le-leb 7 (lead_of r) (omega (arith, h))
high_starts KeyPattern [] h = absurd (omega (arith, h))
high_starts KeyPattern (Op DoubleStar ∷ r) h = refl
high_starts KeyPattern (Op _ ∷ r) h = le-leb 20 _ h
high_starts KeyPattern (_ ∷ r) h = le-leb 20 _ h
high_starts ClassArgument r h = le-leb 20 (lead_of r) h

pub entry_begun : {i : PatternItem} {ts : List Terminal} {e : PatternEntry} → P.PatternPiece i ts e → (us : List Terminal)
    → entry_starts i (ts ++ us) ≡ true
entry_begun (P.element {ts = ts} p) us = le-leb 7 (lead_of (ts ++ us)) (lead_front ts us 7 (omega arith) (pattern_led p))
entry_begun (P.key_pattern {ts = ts} {us = vs} k p) us =
    high_starts KeyPattern ((ts ++ _) ++ us) (lead_front (ts ++ _) us 20 (omega arith) (lead_front ts _ 20 (omega arith) (key_led k)))
entry_begun (P.rest h) us = refl
entry_begun (P.argument {ts = ts} p) us = high_starts ClassArgument (ts ++ us) (lead_front ts us 20 (omega arith) (pattern_led p))
entry_begun (P.named_argument p) us = le-leb 20 24 (omega arith)

pub sum_mark : (t : Terminal) (o : Operator) → left_operator Sum t ≡ Some o → mark t ≡ 10
sum_mark (Op Plus) o h = refl
sum_mark (Op Minus) o h = refl
sum_mark (Op _) o h = absurd (cc)
sum_mark _ o h = absurd (cc)
