-- The terminals of a pattern close the f-strings that they open.
--
-- Carries: closes_pattern and its like, for Forms and callers. On: Closing, Expressions.
use Rattle.std.proofs.Common.{List}
use Rattle.pylex_lexeme.specs.declared.kinds.Exact.TheVariants as Sign
use Rattle.pytree_node.specs.Trees.{Expr, Identifier, Pattern}
use Rattle.pytree_node.specs.Values.{Value}
use Rattle.pytoken.specs.Terminals.{Terminal}
use Rattle.pygrammar.specs.declared.levels.Level.TheVariants.{Sum}
use Rattle.pygrammar.specs.declared.pattern_levels.PatternLevel.{PatternLevel}
use Rattle.pygrammar.specs.PatternEntries.{PatternItem, PatternEntry}
use Rattle.pygrammar.specs.PatternGrammar as P
use Rattle.pygrammar.proofs.Opened.Closing.{Closes, none, front, sign, word, ident, number, literal, literals, both, ended, quiet_left}
use Rattle.pygrammar.proofs.Opened.Closing.{quiet_singleton}
use Rattle.pygrammar.proofs.Opened.Expressions.{closes_literals}

-- ---- Values.

pub closes_signed : {v : Value} {ts : List Terminal} {e : Expr} → P.SignedNumber v ts e → Closes ts
closes_signed P.unsigned = number none
closes_signed P.negative = sign (number none)

pub closes_literal : {ts : List Terminal} {e : Expr} → P.LiteralOf ts e → Closes ts
closes_literal (P.number p) = closes_signed p
closes_literal (P.complex {o = o} t p h k i) = both (closes_signed p) (front (quiet_left Sum t o k) (number none))
closes_literal (P.strings vs h) = literal (literals vs)
closes_literal (P.joined_string l b h) = closes_literals l

pub closes_dotted : {f : Identifier} {ts : List Terminal} {e : Expr} → P.Dotted f ts e → Closes ts
closes_dotted P.first_name = ident none
closes_dotted (P.dot_name x p) = both (closes_dotted p) (sign (ident none))

pub closes_class : {ts : List Terminal} {e : Expr} → P.ClassOf ts e → Closes ts
closes_class (P.class_name p h) = closes_dotted p

pub closes_key : {ts : List Terminal} {e : Expr} → P.KeyOf ts e → Closes ts
closes_key (P.literal_key p) = closes_literal p
closes_key (P.singleton_key {t = t} {v = v} h) = front (quiet_singleton t v h) none
closes_key (P.name_key x p) = both (closes_dotted p) (sign (ident none))

-- ---- Patterns.

mutual
  pub closes_pattern : {l : PatternLevel} {ts : List Terminal} {p : Pattern} → P.DerivesPattern l ts p → Closes ts
  closes_pattern (P.next p) = closes_pattern p
  closes_pattern (P.open_sequence p c) = both (closes_pattern p) (sign (closes_entries c))
  closes_pattern P.star = sign (ident none)
  closes_pattern (P.as_name x p h) = both (closes_pattern p) (word (ident none))
  closes_pattern (P.alternatives p c) = both (closes_pattern p) (sign (closes_alternatives c))
  closes_pattern (P.literal p) = closes_literal p
  closes_pattern (P.singleton {t = t} {v = v} h) = front (quiet_singleton t v h) none
  closes_pattern P.capture = ident none
  closes_pattern (P.value x p) = both (closes_class p) (sign (ident none))
  closes_pattern (P.group p) = sign (ended Sign.RPar (closes_pattern p))
  closes_pattern P.empty_sequence = sign (sign none)
  closes_pattern (P.round_sequence p c) = sign (both (closes_pattern p) (sign (ended Sign.RPar (closes_entries c))))
  closes_pattern (P.square_sequence c) = sign (ended Sign.RSqb (closes_entries c))
  closes_pattern (P.mapping c h) = sign (ended Sign.RBrace (closes_entries c))
  closes_pattern (P.class_pattern p c h) = both (closes_class p) (sign (ended Sign.RPar (closes_entries c)))

  pub closes_alternatives : {ts : List Terminal} {ps : List Pattern} → P.Alternatives ts ps → Closes ts
  closes_alternatives (P.last_alternative p) = closes_pattern p
  closes_alternatives (P.alternative p c) = both (closes_pattern p) (sign (closes_alternatives c))

  pub closes_entries : {i : PatternItem} {ts : List Terminal} {es : List PatternEntry} → P.PatternListing i ts es → Closes ts
  closes_entries P.no_entry = none
  closes_entries (P.last_entry p) = closes_entry p
  closes_entries (P.entry p c) = both (closes_entry p) (sign (closes_entries c))

  pub closes_entry : {i : PatternItem} {ts : List Terminal} {e : PatternEntry} → P.PatternPiece i ts e → Closes ts
  closes_entry (P.element p) = closes_pattern p
  closes_entry (P.key_pattern p q) = both (closes_key p) (sign (closes_pattern q))
  closes_entry (P.rest h) = sign (ident none)
  closes_entry (P.argument p) = closes_pattern p
  closes_entry (P.named_argument p) = ident (sign (closes_pattern p))
