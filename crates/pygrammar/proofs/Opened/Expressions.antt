-- The terminals of an expression close the f-strings that they open.
--
-- Carries: closes and its like, for Patterns, Parts, Forms and callers. On: Closing.
use Rattle.std.proofs.Common.{Bool, List, ◌∷◌, Option}
use Rattle.pylex_lexeme.specs.declared.kinds.Exact.{Exact}
use Rattle.pylex_lexeme.specs.declared.kinds.Exact.TheVariants as Sign
use Rattle.pytree_node.specs.declared.operators.BoolOperator.{BoolOperator}
use Rattle.pytree_node.specs.declared.operators.Comparison.{Comparison}
use Rattle.pytree_node.specs.Trees.{Expr, OptionalExpr, Comprehension}
use Rattle.pytoken.specs.Terminals.{Terminal, Op}
use Rattle.pygrammar.specs.declared.levels.Level.{Level}
use Rattle.pygrammar.specs.FormattedStrings.{StringPart}
use Rattle.pygrammar.specs.Entries.{Item, Entry}
use Rattle.pygrammar.specs.Grammar as G
use Rattle.pygrammar.proofs.Opened.Closing.{Closes, none, front, sign, word, ident, number, literal, literals, text, spec, both, ended}
use Rattle.pygrammar.proofs.Opened.Closing.{formatted, field, quiet_comparison, quiet_constant, quiet_left, quiet_unary}

pub closes_comparison : {ts : List Terminal} {o : Comparison} → G.Compared ts o → Closes ts
closes_comparison (G.one_sign {t = t} {o = o} h) = front (quiet_comparison t o h) none
closes_comparison G.not_in = word (word none)
closes_comparison G.is = word none
closes_comparison G.is_not = word (word none)

mutual
  pub closes : {l : Level} {ts : List Terminal} {e : Expr} → G.Derives l ts e → Closes ts
  closes (G.next p) = closes p
  closes (G.yields p) = word (closes_yields p)
  closes (G.star_tuple p c) = both (closes p) (sign (closes_listing c))
  closes (G.subject_tuple p c) = both (closes p) (sign (closes_listing c))
  closes (G.star_item p) = sign (closes p)
  closes (G.named p) = ident (sign (closes p))
  closes (G.lambda c h p) = word (both (closes_listing c) (sign (closes p)))
  closes (G.if_else p q r) = both (closes p) (word (both (closes q) (word (closes r))))
  closes (G.chain p c) = both (closes p) (word (closes_chain c))
  closes (G.unary {l = l} {t = t} {o = o} h p) = front (quiet_unary l t o h) (closes p)
  closes (G.compare p c) = both (closes p) (closes_compares c)
  closes (G.binary {l = l} {o = o} t h p q) = both (closes p) (front (quiet_left l t o h) (closes q))
  closes (G.power p q) = both (closes p) (sign (closes q))
  closes (G.await p) = word (closes p)
  closes (G.attribute x p) = both (closes p) (sign (ident none))
  closes (G.call p c h) = both (closes p) (sign (ended Sign.RPar (closes_listing c)))
  closes (G.call_generator p q c) = both (closes p) (sign (both (closes q) (ended Sign.RPar (closes_comps c))))
  closes (G.subscript p q) = both (closes p) (sign (ended Sign.RSqb (closes q)))
  closes G.name = ident none
  closes (G.constant {t = t} {v = v} h) = front (quiet_constant t v h) none
  closes G.number = number none
  closes (G.strings vs h) = literal (literals vs)
  closes (G.joined_string l b h) = closes_literals l
  closes (G.group p) = sign (ended Sign.RPar (closes p))
  closes (G.yield_group p) = sign (word (ended Sign.RPar (closes_yields p)))
  closes G.empty_tuple = sign (sign none)
  closes (G.tuple p c) = sign (both (closes p) (sign (ended Sign.RPar (closes_listing c))))
  closes (G.generator_group p c) = sign (both (closes p) (ended Sign.RPar (closes_comps c)))
  closes (G.list c) = sign (ended Sign.RSqb (closes_listing c))
  closes (G.list_comp p c) = sign (both (closes p) (ended Sign.RSqb (closes_comps c)))
  closes (G.dict c) = sign (ended Sign.RBrace (closes_listing c))
  closes (G.dict_comp p q c) = sign (both (closes p) (sign (both (closes q) (ended Sign.RBrace (closes_comps c)))))
  closes (G.set c) = sign (ended Sign.RBrace (closes_listing c))
  closes (G.set_comp p c) = sign (both (closes p) (ended Sign.RBrace (closes_comps c)))
  closes (G.star_elem p) = sign (closes p)
  closes (G.star_slices p) = sign (closes p)
  closes (G.parts p c) = both (closes p) (sign (closes_listing c))
  closes (G.star_part p) = sign (closes p)
  closes (G.slice p q) = both (closes_perhaps p) (sign (closes_perhaps q))
  closes (G.slice_step p q r) = both (closes_perhaps p) (sign (both (closes_perhaps q) (sign (closes_perhaps r))))

  pub closes_yields : {ts : List Terminal} {e : Expr} → G.Yields ts e → Closes ts
  closes_yields (G.yield_from p) = word (closes p)
  closes_yields (G.yield_some p) = closes_perhaps p

  pub closes_perhaps : {l : Level} {ts : List Terminal} {a : OptionalExpr} → G.Perhaps l ts a → Closes ts
  closes_perhaps G.nothing = none
  closes_perhaps (G.something p) = closes p

  pub closes_suffix : {s : Option Exact} {ts : List Terminal} {a : OptionalExpr} → G.Suffix s ts a → Closes ts
  closes_suffix G.no_suffix = none
  closes_suffix (G.suffix p) = sign (closes p)

  pub closes_chain : {o : BoolOperator} {ts : List Terminal} {es : List Expr} → G.Chain o ts es → Closes ts
  closes_chain (G.last_link p) = closes p
  closes_chain (G.link p c) = both (closes p) (word (closes_chain c))

  pub closes_compares : {ts : List Terminal} {os : List Comparison} {es : List Expr} → G.Compares ts os es → Closes ts
  closes_compares (G.last_compare c p) = both (closes_comparison c) (closes p)
  closes_compares (G.compares c p w) = both (closes_comparison c) (both (closes p) (closes_compares w))

  pub closes_literals : {u : Bool} {ts : List Terminal} {ps : List StringPart} → G.Literals u ts ps → Closes ts
  closes_literals G.no_literal = none
  closes_literals (G.text_literal l) = literal (closes_literals l)
  closes_literals (G.formatted_literal f l) = formatted (closes_formatted f) (closes_literals l)

  pub closes_formatted : {u : Bool} {ts : List Terminal} {ps : List StringPart} → G.Formatted u ts ps → Closes ts
  closes_formatted G.no_part = none
  closes_formatted (G.text_part f) = text (closes_formatted f)
  closes_formatted (G.field_part {ts = ts} p s f) = field {ts = Op Sign.LPar ∷ ts} (closes p) (closes_spec s) (closes_formatted f)

  pub closes_spec : {u : Bool} {ts : List Terminal} {a : OptionalExpr} → G.Spec u ts a → Closes ts
  closes_spec G.no_spec = none
  closes_spec (G.spec f) = spec (closes_formatted f)

  pub closes_listing : {i : Item} {ts : List Terminal} {es : List Entry} → G.Listing i ts es → Closes ts
  closes_listing G.no_item = none
  closes_listing (G.last_item p) = closes_piece p
  closes_listing (G.item p c) = both (closes_piece p) (sign (closes_listing c))

  pub closes_piece : {i : Item} {ts : List Terminal} {e : Entry} → G.Piece i ts e → Closes ts
  closes_piece (G.single p) = closes p
  closes_piece (G.pair p q) = both (closes p) (sign (closes q))
  closes_piece (G.pairs_of p) = sign (closes p)
  closes_piece (G.argument p) = closes p
  closes_piece (G.star_argument p) = sign (closes p)
  closes_piece (G.keyword_argument p) = ident (sign (closes p))
  closes_piece (G.double_argument p) = sign (closes p)
  closes_piece (G.parameter p q) = ident (both (closes_suffix p) (closes_suffix q))
  closes_piece G.slash = sign none
  closes_piece G.bare_star = sign none
  closes_piece (G.star_parameter p) = sign (ident (closes_suffix p))
  closes_piece (G.star_annotation p) = sign (ident (sign (sign (closes p))))
  closes_piece (G.double_parameter p) = sign (ident (closes_suffix p))

  pub closes_comps : {ts : List Terminal} {gs : List Comprehension} → G.Comps ts gs → Closes ts
  closes_comps (G.one_comp p) = closes_comp p
  closes_comps (G.comps p c) = both (closes_comp p) (closes_comps c)

  pub closes_comp : {ts : List Terminal} {g : Comprehension} → G.Comp ts g → Closes ts
  closes_comp (G.for_in p) = word (closes_for_in p)
  closes_comp (G.async_for_in p) = word (word (closes_for_in p))

  pub closes_for_in : {b : Bool} {ts : List Terminal} {g : Comprehension} → G.ForIn b ts g → Closes ts
  closes_for_in (G.target_in p h q c) = both (closes p) (word (both (closes q) (closes_ifs c)))

  pub closes_ifs : {ts : List Terminal} {es : List Expr} → G.Ifs ts es → Closes ts
  closes_ifs G.no_if = none
  closes_ifs (G.if_one p c) = word (both (closes p) (closes_ifs c))

-- ---- Targets.

pub closes_target : {ts : List Terminal} {s : Expr} → G.Target ts s → Closes ts
closes_target (G.target p h) = closes p

pub closes_single_target : {ts : List Terminal} {s : Expr} → G.SingleTarget ts s → Closes ts
closes_single_target (G.single_target p h) = closes p

pub closes_del_target : {ts : List Terminal} {s : Expr} → G.DelTarget ts s → Closes ts
closes_del_target (G.del_target p h) = closes p

pub closes_item_target : {ts : List Terminal} {s : Expr} → G.ItemTarget ts s → Closes ts
closes_item_target (G.item_target p h) = closes p
closes_item_target (G.star_target p h) = sign (closes p)
