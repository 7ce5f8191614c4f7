-- In a pattern each colon and bracket has its place.
--
-- Carries: one_pattern, entries, for Trailers, Law. On: Machine, Signs, Expressions.
use Rattle.std.proofs.Common.{◌≡◌, refl, List, ◌∷◌, Some}
use Rattle.pylex_lexeme.specs.declared.kinds.Exact.TheVariants.{LPar, LSqb, LBrace, Comma, Star, Equal, Dot, DoubleStar, Minus, VBar}
use Rattle.pytoken.specs.declared.keywords.Keyword.TheVariants as Key
use Rattle.pygrammar.specs.declared.levels.Level.TheVariants.{Sum}
use Rattle.pygrammar.specs.declared.pattern_levels.PatternLevel.{PatternLevel}
use Rattle.pytree_node.specs.Trees.{Expr, Identifier, Pattern}
use Rattle.pytree_node.specs.Values
use Rattle.pytoken.specs.Terminals.{Terminal, Op, Word, Ident, Number, Literal}
use Rattle.pygrammar.specs.PatternOperators.{singleton_word}
use Rattle.pygrammar.specs.PatternEntries.{PatternItem, KeyPattern, PatternEntry}
use Rattle.pygrammar.specs.PatternGrammar as P
use Rattle.pyparse_block.proofs.CaseLines.Machine.{Open, bracket, plain, act, Takes, none, one, join, neutral, between, colon_inside, round_end}
use Rattle.pyparse_block.proofs.CaseLines.Machine.{square_end, curly_end}
use Rattle.pyparse_block.proofs.CaseLines.Signs.{no_some, left_plain, literals}
use Rattle.pyparse_block.proofs.CaseLines.Expressions.{strings}

singleton_plain : (t : Terminal) {v : Values.Value} → singleton_word t ≡ Some v → act t ≡ plain
singleton_plain (Word Key.None) h = refl
singleton_plain (Word Key.True) h = refl
singleton_plain (Word Key.False) h = refl
singleton_plain _ h = no_some h

signed : {s : List Open} {v : Values.Value} {ts : List Terminal} {e : Expr} → P.SignedNumber v ts e → Takes s s ts
signed (P.unsigned {v = v}) = neutral (Number v) refl none
signed (P.negative {v = v}) = neutral (Op Minus) refl (neutral (Number v) refl none)

literal : {s : List Open} {ts : List Terminal} {e : Expr} → P.LiteralOf ts e → Takes s s ts
literal (P.number p) = signed p
literal (P.complex {w = w} t p r h i) = between t (left_plain Sum t h) (signed p) (neutral (Number w) refl none)
literal (P.strings {v = v} vs h) = neutral (Literal v) refl (literals vs)
literal {s = s} (P.joined_string p h k) = strings s p

dotted : {s : List Open} {f : Identifier} {ts : List Terminal} {e : Expr} → P.Dotted f ts e → Takes s s ts
dotted (P.first_name {x = x}) = neutral (Ident x) refl none
dotted (P.dot_name x p) = between (Op Dot) refl (dotted p) (neutral (Ident x) refl none)

class_name : {s : List Open} {ts : List Terminal} {e : Expr} → P.ClassOf ts e → Takes s s ts
class_name (P.class_name p h) = dotted p

key : {s : List Open} {ts : List Terminal} {e : Expr} → P.KeyOf ts e → Takes s s ts
key (P.literal_key p) = literal p
key (P.singleton_key {t = t} h) = neutral t (singleton_plain t h) none
key (P.name_key x p) = between (Op Dot) refl (dotted p) (neutral (Ident x) refl none)

-- what stands open at an item: round a key a bracket
abbrev pub within : PatternItem → List Open → List Open
within KeyPattern s = bracket ∷ s
within _ s = s

mutual
  pub one_pattern : {l : PatternLevel} {ts : List Terminal} {p : Pattern} (s : List Open) → P.DerivesPattern l ts p → Takes s s ts
  one_pattern s (P.next p) = one_pattern s p
  one_pattern s (P.open_sequence p c) = between (Op Comma) refl (one_pattern s p) (entries s c)
  one_pattern s (P.star {x = x}) = neutral (Op Star) refl (neutral (Ident x) refl none)
  one_pattern s (P.as_name x p h) = between (Word Key.As) refl (one_pattern s p) (neutral (Ident x) refl none)
  one_pattern s (P.alternatives p c) = between (Op VBar) refl (one_pattern s p) (alternatives s c)
  one_pattern s (P.literal p) = literal p
  one_pattern s (P.singleton {t = t} h) = neutral t (singleton_plain t h) none
  one_pattern s (P.capture {x = x}) = neutral (Ident x) refl none
  one_pattern s (P.value x c) = between (Op Dot) refl (class_name c) (neutral (Ident x) refl none)
  one_pattern s (P.group p) = one (Op LPar) refl (join (one_pattern (bracket ∷ s) p) round_end)
  one_pattern s P.empty_sequence = one (Op LPar) refl round_end
  one_pattern s (P.round_sequence p c) =
      one (Op LPar) refl (between (Op Comma) refl (one_pattern (bracket ∷ s) p) (join (entries (bracket ∷ s) c) round_end))
  one_pattern s (P.square_sequence c) = one (Op LSqb) refl (join (entries (bracket ∷ s) c) square_end)
  one_pattern s (P.mapping c h) = one (Op LBrace) refl (join (entries s c) curly_end)
  one_pattern s (P.class_pattern c d h) = join (class_name c) (one (Op LPar) refl (join (entries (bracket ∷ s) d) round_end))

  alternatives : {us : List Terminal} {ps : List Pattern} (s : List Open) → P.Alternatives us ps → Takes s s us
  alternatives s (P.last_alternative p) = one_pattern s p
  alternatives s (P.alternative p c) = between (Op VBar) refl (one_pattern s p) (alternatives s c)

  pub entries : {i : PatternItem} {us : List Terminal} {es : List PatternEntry} (s : List Open) → P.PatternListing i us es →
      Takes (within i s) (within i s) us
  entries s P.no_entry = none
  entries s (P.last_entry p) = entry s p
  entries s (P.entry p c) = between (Op Comma) refl (entry s p) (entries s c)

  entry : {i : PatternItem} {us : List Terminal} {e : PatternEntry} (s : List Open) → P.PatternPiece i us e →
      Takes (within i s) (within i s) us
  entry s (P.element p) = one_pattern s p
  entry s (P.key_pattern p q) = join (key p) (colon_inside (one_pattern (bracket ∷ s) q))
  entry s (P.rest {x = x} h) = neutral (Op DoubleStar) refl (neutral (Ident x) refl none)
  entry s (P.argument p) = one_pattern s p
  entry s (P.named_argument {x = x} p) = neutral (Ident x) refl (neutral (Op Equal) refl (one_pattern s p))
