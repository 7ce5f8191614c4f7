-- An expression is plain where the constants among its terminals are.
--
-- Carries: plain, plain_listing, and targets, for Forms. On: Terminals, Targets, Entries,
-- Parameters.
use Rattle.std.proofs.Common.{◌≡◌, refl, sym, ap, ◌∙◌, Bool, true, false, ◌&&◌, List, [], ◌∷◌, ◌++◌, map, Option, Some, None}
use Rattle.std.specs.List.{list_all}
use Rattle.std.proofs.Math.Bool.{and_assoc, and-true}
use Rattle.std.proofs.lemmas.Option.{same_Some}
use Rattle.pylex_lexeme.specs.declared.kinds.Exact.{Exact}
use Rattle.pylex_lexeme.specs.declared.kinds.Exact.TheVariants as Sign
use Rattle.pytoken.specs.declared.keywords.Keyword.TheVariants as Key
use Rattle.pytree_node.specs.declared.operators.Operator.{Operator}
use Rattle.pytree_node.specs.declared.operators.UnaryOperator.{UnaryOperator}
use Rattle.pytree_node.specs.declared.operators.BoolOperator.{BoolOperator}
use Rattle.pytree_node.specs.declared.operators.Comparison.{Comparison}
use Rattle.pytree_node.specs.declared.operators.Context.TheVariants.{Load}
use Rattle.pygrammar.specs.declared.levels.Level.{Level}
use Rattle.pygrammar.specs.declared.levels.Level.TheVariants.{Not, BitOr}
use Rattle.pytree_node.specs.Trees
use Rattle.pytree_node.specs.Trees.{Expr, OptionalExpr, Comprehension, comprehensions, exprs}
use Rattle.pytree_node.specs.Values as Values
use Rattle.pytree_node.specs.Values.{Value}
use Rattle.pytoken.specs.Terminals.{Terminal, Op, Word, Number, Literal, FormattedBegin}
use Rattle.pygrammar.specs.FormattedStrings.{has_formatted}
use Rattle.pygrammar.specs.Operators.{left_operator, prefix_operator, comparison}
use Rattle.pygrammar.specs.Constants.{constant_word, joined}
use Rattle.pygrammar.specs.Entries.{Item, Entry}
use Rattle.pygrammar.specs.Extents.{is_plain_value, is_plain, are_plain, is_optional_plain, are_comprehensions_plain}
use Rattle.pygrammar.specs.Grammar as G
use Rattle.pygrammar.proofs.Plain.Terminals.{and_swap, is_terminal_plain, Plainness, none, same, alone, front, sign, word, ident, both}
use Rattle.pygrammar.proofs.Plain.Terminals.{ended}
use Rattle.pygrammar.proofs.Plain.Targets.{stored_plain, deleted_plain, single_plain}
use Rattle.pygrammar.proofs.Plain.Entries.{is_entry_plain, are_entries_plain, singles_plain, pairs_plain, called_plain}
use Rattle.pygrammar.proofs.Plain.Parameters.{arranged_plain}

-- ---- Operators and constants.

-- a constant is no operator
prefix_none : (l : Level) (v : Value) → (prefix_operator l (Number v) ≡ None) × (prefix_operator l (Literal v) ≡ None) ×
    (prefix_operator l FormattedBegin ≡ None)
prefix_none Not v = (refl, refl, refl)
prefix_none _ v = (refl, refl, refl)

operator_none : (l : Level) (v : Value) → (left_operator l (Number v) ≡ None) × (left_operator l (Literal v) ≡ None) ×
    (left_operator l FormattedBegin ≡ None)
operator_none BitOr v = (refl, refl, refl)
operator_none _ v = (refl, refl, refl)

prefix_plain : (l : Level) (t : Terminal) (o : UnaryOperator) → prefix_operator l t ≡ Some o → is_terminal_plain t ≡ true
prefix_plain l (Number v) o h = absurd (let n = (prefix_none l v).0 in cc)
prefix_plain l (Literal v) o h = absurd (let n = (prefix_none l v).1 in cc)
prefix_plain l FormattedBegin o h = absurd (let n = (prefix_none l Values.None).2 in cc)
prefix_plain l _ o h = refl

operator_plain : (l : Level) (t : Terminal) (o : Operator) → left_operator l t ≡ Some o → is_terminal_plain t ≡ true
operator_plain l (Number v) o h = absurd (let n = (operator_none l v).0 in cc)
operator_plain l (Literal v) o h = absurd (let n = (operator_none l v).1 in cc)
operator_plain l FormattedBegin o h = absurd (let n = (operator_none l Values.None).2 in cc)
operator_plain l _ o h = refl

comparison_plain : (t : Terminal) (o : Comparison) → comparison t ≡ Some o → is_terminal_plain t ≡ true
comparison_plain (Number v) o h = absurd cc
comparison_plain (Literal v) o h = absurd cc
comparison_plain FormattedBegin o h = absurd cc
comparison_plain _ o h = refl

compared_plain : {ss ts : List Terminal} {o : Comparison} {a : Bool} → G.Compared ss o → Plainness ts a → Plainness (ss ++ ts) a
compared_plain (G.one_sign {t = t} {o = o} h) p = front (comparison_plain t o h) p
compared_plain G.not_in p = word (word p)
compared_plain G.is p = word p
compared_plain G.is_not p = word (word p)

-- what a word or a sign stands for is plain
word_plain : (t : Terminal) (v : Value) → constant_word t ≡ Some v → (is_terminal_plain t ≡ true) × (is_plain_value v ≡ true)
word_plain (Word Key.None) v h = (refl, ap is_plain_value (sym (same_Some Values.None v h)))
word_plain (Word Key.True) v h = (refl, ap is_plain_value (sym (same_Some (Values.Bool true) v h)))
word_plain (Word Key.False) v h = (refl, ap is_plain_value (sym (same_Some _ v h)))
word_plain (Op Sign.Ellipsis) v h = (refl, ap is_plain_value (sym (same_Some Values.Ellipsis v h)))
word_plain _ v h = absurd cc

joined_plain : (v : Value) (vs : List Value) (w : Value) → joined v vs ≡ Some w
    → list_all is_terminal_plain (Literal v ∷ map Literal vs) ≡ is_plain_value w
joined_plain v [] w h = and-true (is_plain_value v) ∙ ap is_plain_value (same_Some v w h)
joined_plain (Values.Str t u) (Values.Str s v ∷ vs) w h = joined_plain (Values.Str (t ++ s) u) vs w h
joined_plain (Values.Bytes t) (Values.Bytes s ∷ vs) w h = joined_plain (Values.Bytes (t ++ s)) vs w h
joined_plain _ (_ ∷ vs) w h = absurd cc

and_none : (b : Bool) → b && false ≡ false
and_none true = refl
and_none false = refl

formatted_plain : (ts : List Terminal) → has_formatted ts ≡ true → list_all is_terminal_plain ts ≡ false
formatted_plain [] h = absurd cc
formatted_plain (FormattedBegin ∷ ts) h = refl
formatted_plain (t ∷ ts) h = ap (λ z. is_terminal_plain t && z) (formatted_plain ts h) ∙ and_none (is_terminal_plain t)

-- ---- Comprehensions.

abbrev is_comprehension_plain : Comprehension → Bool
is_comprehension_plain g = is_plain g.target && (is_plain g.iter && are_plain (exprs g.ifs))

first_plain : (g : Comprehension) (gs : List Comprehension) → is_comprehension_plain g && are_comprehensions_plain (comprehensions gs) ≡
    are_comprehensions_plain (comprehensions (g ∷ gs))
first_plain g gs =
    and_assoc (is_plain g.target) (is_plain g.iter && are_plain (exprs g.ifs)) (are_comprehensions_plain (comprehensions gs))
    ∙ ap (λ z. is_plain g.target && z) (and_assoc (is_plain g.iter) (are_plain (exprs g.ifs))
    (are_comprehensions_plain (comprehensions gs)))

-- ---- Expressions.

mutual
  pub plain : {l : Level} {ts : List Terminal} {e : Expr} → G.Derives l ts e → Plainness ts (is_plain e)
  plain (G.next p) = plain p
  plain (G.yields p) = word (plain_yields p)
  plain (G.star_tuple p c) = both (plain p) (sign (same (plain_listing c) (singles_plain c)))
  plain (G.subject_tuple p c) = both (plain p) (sign (same (plain_listing c) (singles_plain c)))
  plain (G.star_item p) = sign (plain p)
  plain (G.named p) = ident (sign (plain p))
  plain (G.lambda {ps = ps} {a = a} c h p) = word (both (same (plain_listing c) (arranged_plain ps a h)) (sign (plain p)))
  plain (G.if_else {a = a} {b = b} {c = c} p q r) = same (both (plain p) (word (both (plain q) (word (plain r)))))
      (and_swap (is_plain b) (is_plain a) (is_plain c))
  plain (G.chain p c) = both (plain p) (word (plain_chain c))
  plain (G.unary {l = l} {t = t} {o = o} h p) = front (prefix_plain l t o h) (plain p)
  plain (G.compare p c) = both (plain p) (plain_compares c)
  plain (G.binary {l = l} {o = o} t h p q) = both (plain p) (front (operator_plain l t o h) (plain q))
  plain (G.power p q) = both (plain p) (sign (plain q))
  plain (G.await p) = word (plain p)
  plain (G.attribute {e = e} x p) = same (both (plain p) (sign (ident none))) (and-true (is_plain e))
  plain (G.call {f = f} {e = e} p c h) = same (both (plain p) (sign (ended Sign.RPar (plain_listing c)))) (called_plain f e c h)
  plain (G.call_generator {f = f} {e = e} {gs = gs} p q c) =
      let inner : Bool = is_plain e && are_comprehensions_plain (comprehensions gs) in
      same (both (plain p) (sign (both (plain q) (ended Sign.RPar (plain_comps c)))))
      (ap (λ z. is_plain f && z) (alone inner ∙ alone (inner && true)))
  plain (G.subscript p q) = both (plain p) (sign (ended Sign.RSqb (plain q)))
  plain G.name = ident none
  plain (G.constant {t = t} {v = v} h) = let w = word_plain t v h in same (front w.0 none) (sym w.1)
  plain (G.number {v = v}) = record { is = and-true (is_plain_value v) }
  plain (G.strings {v = v} {w = w} vs h) = record { is = joined_plain v vs w h }
  plain (G.joined_string {ts = ts} l b h) = record { is = formatted_plain ts h }
  plain (G.group p) = sign (ended Sign.RPar (plain p))
  plain (G.yield_group p) = sign (word (ended Sign.RPar (plain_yields p)))
  plain G.empty_tuple = sign (sign none)
  plain (G.tuple p c) = sign (both (plain p) (sign (ended Sign.RPar (same (plain_listing c) (singles_plain c)))))
  plain (G.generator_group p c) = sign (both (plain p) (ended Sign.RPar (plain_comps c)))
  plain (G.list c) = sign (ended Sign.RSqb (same (plain_listing c) (singles_plain c)))
  plain (G.list_comp p c) = sign (both (plain p) (ended Sign.RSqb (plain_comps c)))
  plain (G.dict c) = sign (ended Sign.RBrace (same (plain_listing c) (pairs_plain c)))
  plain (G.dict_comp p q c) = sign (both (plain p) (sign (both (plain q) (ended Sign.RBrace (plain_comps c)))))
  plain (G.set c) = sign (ended Sign.RBrace (same (plain_listing c) (singles_plain c)))
  plain (G.set_comp p c) = sign (both (plain p) (ended Sign.RBrace (plain_comps c)))
  plain (G.star_elem p) = sign (plain p)
  plain (G.star_slices {e = e} p) = same (sign (plain p)) (alone (is_plain e))
  plain (G.parts p c) = both (plain p) (sign (same (plain_listing c) (singles_plain c)))
  plain (G.star_part p) = sign (plain p)
  plain (G.slice {b = b} p q) = both (plain_perhaps p) (sign (same (plain_perhaps q) (alone (is_optional_plain b))))
  plain (G.slice_step p q r) = both (plain_perhaps p) (sign (both (plain_perhaps q) (sign (plain_perhaps r))))

  plain_yields : {ts : List Terminal} {e : Expr} → G.Yields ts e → Plainness ts (is_plain e)
  plain_yields (G.yield_from p) = word (plain p)
  plain_yields (G.yield_some p) = plain_perhaps p

  plain_perhaps : {l : Level} {ts : List Terminal} {a : OptionalExpr} → G.Perhaps l ts a → Plainness ts (is_optional_plain a)
  plain_perhaps G.nothing = none
  plain_perhaps (G.something p) = plain p

  plain_suffix : {s : Option Exact} {ts : List Terminal} {a : OptionalExpr} → G.Suffix s ts a → Plainness ts (is_optional_plain a)
  plain_suffix G.no_suffix = none
  plain_suffix (G.suffix p) = sign (plain p)

  plain_chain : {o : BoolOperator} {ts : List Terminal} {es : List Expr} → G.Chain o ts es → Plainness ts (are_plain (exprs es))
  plain_chain (G.last_link {e = e} p) = same (plain p) (alone (is_plain e))
  plain_chain (G.link p c) = both (plain p) (word (plain_chain c))

  plain_compares : {ts : List Terminal} {os : List Comparison} {es : List Expr} → G.Compares ts os es → Plainness ts (are_plain (exprs es))
  plain_compares (G.last_compare {e = e} c p) = same (compared_plain c (plain p)) (alone (is_plain e))
  plain_compares (G.compares c p w) = compared_plain c (both (plain p) (plain_compares w))

  pub plain_listing : {i : Item} {ts : List Terminal} {es : List Entry} → G.Listing i ts es → Plainness ts (are_entries_plain es)
  plain_listing G.no_item = none
  plain_listing (G.last_item {e = e} p) = same (plain_piece p) (alone (is_entry_plain e))
  plain_listing (G.item p c) = both (plain_piece p) (sign (plain_listing c))

  plain_piece : {i : Item} {ts : List Terminal} {e : Entry} → G.Piece i ts e → Plainness ts (is_entry_plain e)
  plain_piece (G.single p) = plain p
  plain_piece (G.pair p q) = both (plain p) (sign (plain q))
  plain_piece (G.pairs_of p) = sign (plain p)
  plain_piece (G.argument p) = plain p
  plain_piece (G.star_argument p) = sign (plain p)
  plain_piece (G.keyword_argument p) = ident (sign (plain p))
  plain_piece (G.double_argument p) = sign (plain p)
  plain_piece (G.parameter p q) = ident (both (plain_suffix p) (plain_suffix q))
  plain_piece G.slash = sign none
  plain_piece G.bare_star = sign none
  plain_piece (G.star_parameter p) = sign (ident (plain_suffix p))
  plain_piece (G.star_annotation p) = sign (ident (sign (sign (plain p))))
  plain_piece (G.double_parameter p) = sign (ident (plain_suffix p))

  plain_comps : {ts : List Terminal} {gs : List Comprehension} → G.Comps ts gs → Plainness ts (are_comprehensions_plain (comprehensions gs))
  plain_comps (G.one_comp {g = g} p) = same (plain_comp p) (alone (is_comprehension_plain g) ∙ first_plain g [])
  plain_comps (G.comps {g = g} {gs = gs} p c) = same (both (plain_comp p) (plain_comps c)) (first_plain g gs)

  plain_comp : {ts : List Terminal} {g : Comprehension} → G.Comp ts g → Plainness ts (is_comprehension_plain g)
  plain_comp (G.for_in p) = word (plain_for_in p)
  plain_comp (G.async_for_in p) = word (word (plain_for_in p))

  plain_for_in : {b : Bool} {ts : List Terminal} {g : Comprehension} → G.ForIn b ts g → Plainness ts (is_comprehension_plain g)
  plain_for_in (G.target_in {t = t} {s = s} p h q c) =
      both (same (plain p) (sym (stored_plain t s h))) (word (both (plain q) (plain_ifs c)))

  plain_ifs : {ts : List Terminal} {es : List Expr} → G.Ifs ts es → Plainness ts (are_plain (exprs es))
  plain_ifs G.no_if = none
  plain_ifs (G.if_one p c) = word (both (plain p) (plain_ifs c))

-- ---- Targets.

pub plain_target : {ts : List Terminal} {s : Expr} → G.Target ts s → Plainness ts (is_plain s)
plain_target (G.target {e = e} {s = s} p h) = same (plain p) (sym (stored_plain e s h))

pub plain_single_target : {ts : List Terminal} {s : Expr} → G.SingleTarget ts s → Plainness ts (is_plain s)
plain_single_target (G.single_target {e = e} {s = s} p h) = same (plain p) (sym (single_plain e s h))

pub plain_del_target : {ts : List Terminal} {s : Expr} → G.DelTarget ts s → Plainness ts (is_plain s)
plain_del_target (G.del_target {e = e} {s = s} p h) = same (plain p) (sym (deleted_plain e s h))

pub plain_item_target : {ts : List Terminal} {s : Expr} → G.ItemTarget ts s → Plainness ts (is_plain s)
plain_item_target (G.item_target {e = e} {s = s} p h) = same (plain p) (sym (stored_plain e s h))
plain_item_target (G.star_target {e = e} {s = s} p h) = sign (same (plain p) (sym (stored_plain (Trees.Starred e Load) s h)))
