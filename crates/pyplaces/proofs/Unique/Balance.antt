-- Brackets that close: after an expression as many are open as before it.
--
-- Carries: walk, Balanced, balanced and the parts' lemmas, for FirstBracket, WithForms.
use Rattle.std.proofs.Common.{◌≡◌, refl, ap, ◌∙◌, ℕ, zero, suc, List, [], ◌∷◌, ◌++◌, append_assoc, map, Option, Some, None, Bool}
use Rattle.std.proofs.Common.{true, false, cond, subst}
use Rattle.pylex_lexeme.specs.declared.kinds.Exact.{Exact}
use Rattle.pylex_lexeme.specs.declared.kinds.Exact.TheVariants.{LPar, RPar, LSqb, RSqb, LBrace, RBrace, Plus, Minus, Star, Slash, VBar}
use Rattle.pylex_lexeme.specs.declared.kinds.Exact.TheVariants.{Amper}
use Rattle.pylex_lexeme.specs.declared.kinds.Exact.TheVariants.{Less, Greater, Percent, EqEqual, NotEqual, LessEqual, GreaterEqual, Tilde}
use Rattle.pylex_lexeme.specs.declared.kinds.Exact.TheVariants.{Circumflex, LeftShift, RightShift, DoubleSlash, At, Colon, Comma, Dot}
use Rattle.pylex_lexeme.specs.declared.kinds.Exact.TheVariants.{DoubleStar, Ellipsis}
use Rattle.pytoken.specs.declared.keywords.Keyword.TheVariants as Key
use Rattle.pytree_node.specs.declared.operators.Operator.{Operator}
use Rattle.pytree_node.specs.declared.operators.UnaryOperator.{UnaryOperator}
use Rattle.pytree_node.specs.declared.operators.BoolOperator.{BoolOperator}
use Rattle.pytree_node.specs.declared.operators.Comparison.{Comparison}
use Rattle.pytree_node.specs.Trees.{Expr, OptionalExpr, Comprehension}
use Rattle.pytree_node.specs.Values
use Rattle.pytoken.specs.Terminals.{Terminal, Op, Word, Ident, Literal, FormattedEnd, FieldEnd}
use Rattle.pygrammar.specs.declared.levels.Level.{Level}
use Rattle.pygrammar.specs.declared.levels.Level.TheVariants.{Not, Factor, BitOr, BitXor, BitAnd, Shift, Sum, Term}
use Rattle.pygrammar.specs.FormattedStrings.{StringPart}
use Rattle.pygrammar.specs.Constants.{constant_word}
use Rattle.pygrammar.specs.Operators.{left_operator, prefix_operator, comparison, chain_word}
use Rattle.pygrammar.specs.Entries.{Item, Entry}
use Rattle.pygrammar.specs.Grammar as G

abbrev closing : ℕ → List Terminal → (ℕ → List Terminal) → List Terminal
closing zero r f = r
closing (suc n) r f = f n

-- what stands after the bracket that closes, where so many others are open in front of it
abbrev pub walk : List Terminal → ℕ → List Terminal
walk [] n = []
walk (Op LPar ∷ r) n = walk r (suc n)
walk (Op LSqb ∷ r) n = walk r (suc n)
walk (Op LBrace ∷ r) n = walk r (suc n)
walk (Op RPar ∷ r) n = closing n r (λ m. walk r m)
walk (Op RSqb ∷ r) n = closing n r (λ m. walk r m)
walk (Op RBrace ∷ r) n = closing n r (λ m. walk r m)
walk (_ ∷ r) n = walk r n

abbrev pub Balanced : List Terminal → Type 0
Balanced ts = (r : List Terminal) (n : ℕ) → walk (ts ++ r) n ≡ walk r n

-- neither opens nor closes
abbrev pub Plain : Terminal → Type 0
Plain t = (r : List Terminal) (n : ℕ) → walk (t ∷ r) n ≡ walk r n

-- ---- Put together.

pub nil : Balanced []
nil r n = refl

pub both : (ts us : List Terminal) → Balanced ts → Balanced us → Balanced (ts ++ us)
both ts us p q r n = ap (λ z. walk z n) (append_assoc ts us r) ∙ (p (us ++ r) n ∙ q r n)

pub one : (t : Terminal) (us : List Terminal) → Plain t → Balanced us → Balanced (t ∷ us)
one t us p q r n = p (us ++ r) n ∙ q r n

pub between : (ts us : List Terminal) (t : Terminal) → Plain t → Balanced ts → Balanced us → Balanced (ts ++ (t ∷ us))
between ts us t h p q = both ts (t ∷ us) p (one t us h q)

pub round : (ts : List Terminal) → Balanced ts → Balanced (Op LPar ∷ (ts ++ (Op RPar ∷ [])))
round ts p r n = ap (λ z. walk z (suc n)) (append_assoc ts (Op RPar ∷ []) r) ∙ p (Op RPar ∷ r) (suc n)

square : (ts : List Terminal) → Balanced ts → Balanced (Op LSqb ∷ (ts ++ (Op RSqb ∷ [])))
square ts p r n = ap (λ z. walk z (suc n)) (append_assoc ts (Op RSqb ∷ []) r) ∙ p (Op RSqb ∷ r) (suc n)

curly : (ts : List Terminal) → Balanced ts → Balanced (Op LBrace ∷ (ts ++ (Op RBrace ∷ [])))
curly ts p r n = ap (λ z. walk z (suc n)) (append_assoc ts (Op RBrace ∷ []) r) ∙ p (Op RBrace ∷ r) (suc n)

-- with the brackets after the second or third part
pub shut : (ts us : List Terminal) (s : Terminal) → ((ts ++ us) ++ (s ∷ [])) ≡ (ts ++ (us ++ (s ∷ [])))
shut ts us s = append_assoc ts us (s ∷ [])

pub shut_after : (ts us : List Terminal) (c s : Terminal) → ((ts ++ (c ∷ us)) ++ (s ∷ [])) ≡ (ts ++ (c ∷ (us ++ (s ∷ []))))
shut_after ts us c s = append_assoc ts (c ∷ us) (s ∷ [])

shut_three : (ts us vs : List Terminal) (c s : Terminal)
    → ((ts ++ (c ∷ (us ++ vs))) ++ (s ∷ [])) ≡ (ts ++ (c ∷ (us ++ (vs ++ (s ∷ [])))))
shut_three ts us vs c s = simp append_assoc refl

as_shape : {ts us : List Terminal} → ts ≡ us → Balanced ts → Balanced us
as_shape e p = subst Balanced e p

-- ---- Single terminals.

pub op_plain : (l : Level) (t : Terminal) (o : Operator) → left_operator l t ≡ Some o → Plain t
op_plain BitOr (Op VBar) o h r n = refl
op_plain BitOr (Op _) o h r n = absurd (cc)
op_plain BitXor (Op Circumflex) o h r n = refl
op_plain BitXor (Op _) o h r n = absurd (cc)
op_plain BitAnd (Op Amper) o h r n = refl
op_plain BitAnd (Op _) o h r n = absurd (cc)
op_plain Shift (Op LeftShift) o h r n = refl
op_plain Shift (Op RightShift) o h r n = refl
op_plain Shift (Op _) o h r n = absurd (cc)
op_plain Sum (Op Plus) o h r n = refl
op_plain Sum (Op Minus) o h r n = refl
op_plain Sum (Op _) o h r n = absurd (cc)
op_plain Term (Op Star) o h r n = refl
op_plain Term (Op Slash) o h r n = refl
op_plain Term (Op DoubleSlash) o h r n = refl
op_plain Term (Op Percent) o h r n = refl
op_plain Term (Op At) o h r n = refl
op_plain Term (Op _) o h r n = absurd (cc)
op_plain _ t o h r n = absurd (cc)

prefix_plain : (l : Level) (t : Terminal) (o : UnaryOperator) → prefix_operator l t ≡ Some o → Plain t
prefix_plain Not (Word Key.Not) o h r n = refl
prefix_plain Not (Word _) o h r n = absurd (cc)
prefix_plain Factor (Op Plus) o h r n = refl
prefix_plain Factor (Op Minus) o h r n = refl
prefix_plain Factor (Op Tilde) o h r n = refl
prefix_plain Factor (Op _) o h r n = absurd (cc)
prefix_plain _ t o h r n = absurd (cc)

sign_plain : (t : Terminal) (o : Comparison) → comparison t ≡ Some o → Plain t
sign_plain (Op EqEqual) o h r n = refl
sign_plain (Op NotEqual) o h r n = refl
sign_plain (Op Less) o h r n = refl
sign_plain (Op LessEqual) o h r n = refl
sign_plain (Op Greater) o h r n = refl
sign_plain (Op GreaterEqual) o h r n = refl
sign_plain (Op _) o h r n = absurd (cc)
sign_plain (Word _) o h r n = refl
sign_plain _ o h r n = absurd (cc)

constant_plain : (t : Terminal) (v : Values.Value) → constant_word t ≡ Some v → Plain t
constant_plain (Op Ellipsis) v h r n = refl
constant_plain (Op _) v h r n = absurd (cc)
constant_plain (Word _) v h r n = refl
constant_plain _ v h r n = absurd (cc)

compared_plain : {ss : List Terminal} {o : Comparison} → G.Compared ss o → Balanced ss
compared_plain (G.one_sign {t = t} {o = o} h) r n = sign_plain t o h r n
compared_plain G.not_in r n = refl
compared_plain G.is r n = refl
compared_plain G.is_not r n = refl

literals_plain : (vs : List Values.Value) → Balanced (map Literal vs)
literals_plain [] r n = refl
literals_plain (v ∷ vs) r n = literals_plain vs r n

-- the sign of a suffix
abbrev PlainSign : Option Exact → Type 0
PlainSign None = Unit {0}
PlainSign (Some x) = Plain (Op x)

annotation_plain : (b : Bool) → PlainSign (cond b (Some Colon) None)
annotation_plain true = λ r n. refl
annotation_plain false = tt

-- ---- Expressions.

mutual
  pub balanced : {l : Level} {ts : List Terminal} {e : Expr} → G.Derives l ts e → Balanced ts
  balanced (G.next p) = balanced p
  balanced (G.yields p) = balanced_yields p
  balanced (G.star_tuple {ts = ts} {us = us} p c) = both ts (Op Comma ∷ us) (balanced p) (balanced_listing c)
  balanced (G.star_item p) = balanced p
  balanced (G.named p) = balanced p
  balanced (G.lambda {ts = ts} {us = us} c h p) = both ts (Op Colon ∷ us) (balanced_listing c) (balanced p)
  balanced (G.if_else {ts = ts} {us = us} {vs = vs} p q r) = both ts (Word Key.If ∷ (us ++ (Word Key.Else ∷ vs))) (balanced p)
      (both us (Word Key.Else ∷ vs) (balanced q) (balanced r))
  balanced (G.chain {o = o} {ts = ts} {us = us} p c) = both ts (Word (chain_word o) ∷ us) (balanced p) (balanced_chain c)
  balanced (G.unary {l = l} {t = t} {o = o} {ts = ts} h p) = one t ts (prefix_plain l t o h) (balanced p)
  balanced (G.compare {ts = ts} {us = us} p c) = both ts us (balanced p) (balanced_compares c)
  balanced (G.binary {l = l} {ts = ts} {us = us} {o = o} t h p q) = between ts us t (op_plain l t o h) (balanced p) (balanced q)
  balanced (G.power {ts = ts} {us = us} p q) = both ts (Op DoubleStar ∷ us) (balanced p) (balanced q)
  balanced (G.await p) = balanced p
  balanced (G.attribute {ts = ts} x p) = both ts (Op Dot ∷ (Ident x ∷ [])) (balanced p) (λ r n. refl)
  balanced (G.call {ts = ts} {us = us} p c h) = both ts (Op LPar ∷ (us ++ (Op RPar ∷ []))) (balanced p) (round us (balanced_listing c))
  balanced (G.call_generator {ts = ts} {us = us} {vs = vs} p q c) = both ts (Op LPar ∷ (us ++ (vs ++ (Op RPar ∷ [])))) (balanced p)
      (as_shape (ap (λ z. Op LPar ∷ z) (shut us vs (Op RPar))) (round (us ++ vs) (both us vs (balanced q) (balanced_comps c))))
  balanced (G.subscript {ts = ts} {us = us} p q) = both ts (Op LSqb ∷ (us ++ (Op RSqb ∷ []))) (balanced p) (square us (balanced q))
  balanced G.name = λ r n. refl
  balanced (G.constant {t = t} {v = v} h) = one t [] (constant_plain t v h) nil
  balanced G.number = λ r n. refl
  balanced (G.strings vs h) = literals_plain vs
  balanced (G.joined_string c b h) = balanced_literals c
  balanced (G.group {ts = ts} p) = round ts (balanced p)
  balanced (G.yield_group {ts = ts} p) = round (Word Key.Yield ∷ ts) (balanced_yields p)
  balanced G.empty_tuple = λ r n. refl
  balanced (G.tuple {ts = ts} {us = us} p c) = as_shape (ap (λ z. Op LPar ∷ z) (shut_after ts us (Op Comma) (Op RPar)))
      (round (ts ++ (Op Comma ∷ us)) (both ts (Op Comma ∷ us) (balanced p) (balanced_listing c)))
  balanced (G.generator_group {ts = ts} {us = us} p c) = as_shape (ap (λ z. Op LPar ∷ z) (shut ts us (Op RPar)))
      (round (ts ++ us) (both ts us (balanced p) (balanced_comps c)))
  balanced (G.list {ts = ts} c) = square ts (balanced_listing c)
  balanced (G.list_comp {ts = ts} {us = us} p c) = as_shape (ap (λ z. Op LSqb ∷ z) (shut ts us (Op RSqb)))
      (square (ts ++ us) (both ts us (balanced p) (balanced_comps c)))
  balanced (G.dict {ts = ts} c) = curly ts (balanced_listing c)
  balanced (G.dict_comp {ts = ts} {us = us} {vs = vs} p q c) =
      as_shape (ap (λ z. Op LBrace ∷ z) (shut_three ts us vs (Op Colon) (Op RBrace)))
      (curly (ts ++ (Op Colon ∷ (us ++ vs))) (both ts (Op Colon ∷ (us ++ vs)) (balanced p) (both us vs (balanced q) (balanced_comps c))))
  balanced (G.set {ts = ts} c) = curly ts (balanced_listing c)
  balanced (G.set_comp {ts = ts} {us = us} p c) = as_shape (ap (λ z. Op LBrace ∷ z) (shut ts us (Op RBrace)))
      (curly (ts ++ us) (both ts us (balanced p) (balanced_comps c)))
  balanced (G.subject_tuple {ts = ts} {us = us} p c) = both ts (Op Comma ∷ us) (balanced p) (balanced_listing c)
  balanced (G.star_elem p) = balanced p
  balanced (G.star_slices p) = balanced p
  balanced (G.parts {ts = ts} {us = us} p c) = both ts (Op Comma ∷ us) (balanced p) (balanced_listing c)
  balanced (G.star_part p) = balanced p
  balanced (G.slice {ts = ts} {us = us} p q) = both ts (Op Colon ∷ us) (balanced_perhaps p) (balanced_perhaps q)
  balanced (G.slice_step {ts = ts} {us = us} {vs = vs} p q r) = both ts (Op Colon ∷ (us ++ (Op Colon ∷ vs))) (balanced_perhaps p)
      (both us (Op Colon ∷ vs) (balanced_perhaps q) (balanced_perhaps r))

  pub balanced_yields : {ts : List Terminal} {e : Expr} → G.Yields ts e → Balanced ts
  balanced_yields (G.yield_from p) = balanced p
  balanced_yields (G.yield_some p) = balanced_perhaps p

  balanced_perhaps : {l : Level} {ts : List Terminal} {a : OptionalExpr} → G.Perhaps l ts a → Balanced ts
  balanced_perhaps G.nothing = nil
  balanced_perhaps (G.something p) = balanced p

  balanced_suffix : {s : Option Exact} {ts : List Terminal} {a : OptionalExpr} → G.Suffix s ts a → PlainSign s → Balanced ts
  balanced_suffix G.no_suffix h = nil
  balanced_suffix (G.suffix {x = x} {ts = ts} p) h = one (Op x) ts h (balanced p)

  balanced_chain : {o : BoolOperator} {ts : List Terminal} {es : List Expr} → G.Chain o ts es → Balanced ts
  balanced_chain (G.last_link p) = balanced p
  balanced_chain (G.link {o = o} {ts = ts} {us = us} p c) = both ts (Word (chain_word o) ∷ us) (balanced p) (balanced_chain c)

  balanced_compares : {ts : List Terminal} {os : List Comparison} {es : List Expr} → G.Compares ts os es → Balanced ts
  balanced_compares (G.last_compare {ss = ss} {ts = ts} c p) = both ss ts (compared_plain c) (balanced p)
  balanced_compares (G.compares {ss = ss} {ts = ts} {us = us} c p q) =
      both ss (ts ++ us) (compared_plain c) (both ts us (balanced p) (balanced_compares q))

  balanced_literals : {u : Bool} {ts : List Terminal} {ps : List StringPart} → G.Literals u ts ps → Balanced ts
  balanced_literals G.no_literal = nil
  balanced_literals (G.text_literal l) = balanced_literals l
  balanced_literals (G.formatted_literal {ts = ts} {us = us} p l) = both ts (FormattedEnd ∷ us) (balanced_parts p) (balanced_literals l)

  balanced_parts : {u : Bool} {ts : List Terminal} {ps : List StringPart} → G.Formatted u ts ps → Balanced ts
  balanced_parts G.no_part = nil
  balanced_parts (G.text_part p) = balanced_parts p
  balanced_parts (G.field_part {ts = ts} {us = us} {vs = vs} p q r) = both (Op LPar ∷ ts) (us ++ (FieldEnd ∷ vs)) (balanced p)
      (both us (FieldEnd ∷ vs) (balanced_spec q) (balanced_parts r))

  balanced_spec : {u : Bool} {ts : List Terminal} {a : OptionalExpr} → G.Spec u ts a → Balanced ts
  balanced_spec G.no_spec = nil
  balanced_spec (G.spec p) = balanced_parts p

  pub balanced_listing : {i : Item} {ts : List Terminal} {es : List Entry} → G.Listing i ts es → Balanced ts
  balanced_listing G.no_item = nil
  balanced_listing (G.last_item p) = balanced_piece p
  balanced_listing (G.item {ts = ts} {us = us} p c) = both ts (Op Comma ∷ us) (balanced_piece p) (balanced_listing c)

  balanced_piece : {i : Item} {ts : List Terminal} {e : Entry} → G.Piece i ts e → Balanced ts
  balanced_piece (G.single p) = balanced p
  balanced_piece (G.pair {ts = ts} {us = us} p q) = both ts (Op Colon ∷ us) (balanced p) (balanced q)
  balanced_piece (G.pairs_of p) = balanced p
  balanced_piece (G.argument p) = balanced p
  balanced_piece (G.star_argument p) = balanced p
  balanced_piece (G.keyword_argument p) = balanced p
  balanced_piece (G.double_argument p) = balanced p
  balanced_piece (G.parameter {b = b} {ts = ts} {us = us} a d) =
      both ts us (balanced_suffix a (annotation_plain b)) (balanced_suffix d (λ r n. refl))
  balanced_piece G.slash = λ r n. refl
  balanced_piece G.bare_star = λ r n. refl
  balanced_piece (G.star_parameter {b = b} a) = balanced_suffix a (annotation_plain b)
  balanced_piece (G.star_annotation p) = balanced p
  balanced_piece (G.double_parameter {b = b} a) = balanced_suffix a (annotation_plain b)

  pub balanced_comps : {ts : List Terminal} {gs : List Comprehension} → G.Comps ts gs → Balanced ts
  balanced_comps (G.one_comp p) = balanced_comp p
  balanced_comps (G.comps {ts = ts} {us = us} p c) = both ts us (balanced_comp p) (balanced_comps c)

  balanced_comp : {ts : List Terminal} {g : Comprehension} → G.Comp ts g → Balanced ts
  balanced_comp (G.for_in p) = balanced_for p
  balanced_comp (G.async_for_in p) = balanced_for p

  balanced_for : {b : Bool} {ts : List Terminal} {g : Comprehension} → G.ForIn b ts g → Balanced ts
  balanced_for (G.target_in {ts = ts} {us = us} {vs = vs} p h q c) =
      both ts (Word Key.In ∷ (us ++ vs)) (balanced p) (both us vs (balanced q) (balanced_ifs c))

  balanced_ifs : {ts : List Terminal} {es : List Expr} → G.Ifs ts es → Balanced ts
  balanced_ifs G.no_if = nil
  balanced_ifs (G.if_one {ts = ts} {us = us} p c) = both ts us (balanced p) (balanced_ifs c)
