-- Carries: the law of modules. On: brackets are balanced in every derived list, and no `as`
-- stands in an expression.
use Rattle.std.proofs.Common.{◌≡◌, refl, ℕ, suc, List, [], ◌∷◌, ◌++◌, Option, Some, None, Bool, true, false, cond}
use Rattle.std.specs.Prelude.{map}
use Rattle.pylex_lexeme.specs.declared.kinds.Exact.{Exact}
use Rattle.pylex_lexeme.specs.declared.kinds.Exact.TheVariants.{LPar, RPar, LSqb, RSqb, LBrace, RBrace, Colon, Plus, Minus, Star, Slash}
use Rattle.pylex_lexeme.specs.declared.kinds.Exact.TheVariants.{VBar, Amper}
use Rattle.pylex_lexeme.specs.declared.kinds.Exact.TheVariants.{Less, Greater, Percent, EqEqual, NotEqual, LessEqual, GreaterEqual, Tilde}
use Rattle.pylex_lexeme.specs.declared.kinds.Exact.TheVariants.{Circumflex}
use Rattle.pylex_lexeme.specs.declared.kinds.Exact.TheVariants.{LeftShift, RightShift, DoubleSlash, At, Ellipsis}
use Rattle.pytoken.specs.declared.keywords.Keyword.TheVariants as Key
use Rattle.pytree_node.specs.declared.operators.Operator.{Operator}
use Rattle.pytree_node.specs.declared.operators.UnaryOperator.{UnaryOperator}
use Rattle.pytree_node.specs.declared.operators.BoolOperator.{BoolOperator}
use Rattle.pytree_node.specs.declared.operators.BoolOperator.TheVariants as Join
use Rattle.pytree_node.specs.declared.operators.Comparison.{Comparison}
use Rattle.pygrammar.specs.declared.levels.Level.{Level}
use Rattle.pygrammar.specs.declared.levels.Level.TheVariants.{Not, BitOr, BitXor, BitAnd, Shift, Sum, Term, Factor}
use Rattle.pytree_node.specs.Values
use Rattle.pytree_node.specs.Trees.{Expr, OptionalExpr, Comprehension}
use Rattle.pytoken.specs.Terminals.{Terminal, Op, Word, Literal}
use Rattle.pygrammar.specs.Operators.{left_operator, prefix_operator, chain_word, comparison}
use Rattle.pygrammar.specs.Constants.{constant_word}
use Rattle.pygrammar.specs.Entries.{Item, Entry}
use Rattle.pygrammar.specs.FormattedStrings.{StringPart}
use Rattle.pygrammar.specs.Grammar as G

pub data Kind : Type 0 where
  Plain : Kind
  Open : Kind
  Close : Kind
  Refused : Kind

abbrev as_kind : Bool → Kind
as_kind true = Refused
as_kind false = Plain

-- whether `as` is refused
abbrev pub kind : Bool → Terminal → Kind
kind a (Op LPar) = Open
kind a (Op LSqb) = Open
kind a (Op LBrace) = Open
kind a (Op RPar) = Close
kind a (Op RSqb) = Close
kind a (Op RBrace) = Close
kind a (Word Key.As) = as_kind a
kind a _ = Plain

-- how many brackets are open before and after
pub data Runs (a : Bool) : ℕ → List Terminal → ℕ → Type 0 where
  ends : {n : ℕ} → Runs a n [] n
  on : {n m : ℕ} {t : Terminal} {ts : List Terminal} → kind a t ≡ Plain → Runs a n ts m → Runs a n (t ∷ ts) m
  up : {n m : ℕ} {t : Terminal} {ts : List Terminal} → kind a t ≡ Open → Runs a (suc n) ts m → Runs a n (t ∷ ts) m
  down : {n m : ℕ} {t : Terminal} {ts : List Terminal} → kind a t ≡ Close → Runs a n ts m → Runs a (suc n) (t ∷ ts) m

pub record Good (a : Bool) (ts : List Terminal) : Type 0 where
  pub at : (n : ℕ) → Runs a n ts n

pub both : {a : Bool} {n k m : ℕ} {ts us : List Terminal} → Runs a n ts k → Runs a k us m → Runs a n (ts ++ us) m
both ends q = q
both (on h p) q = on h (both p q)
both (up h p) q = up h (both p q)
both (down h p) q = down h (both p q)

none : {a : Bool} → Good a []
none = record { at = λ n. ends }

pub good_on : {a : Bool} {t : Terminal} {ts : List Terminal} → kind a t ≡ Plain → Good a ts → Good a (t ∷ ts)
good_on h p = record { at = λ n. on h (p.at n) }

pub good_both : {a : Bool} {ts us : List Terminal} → Good a ts → Good a us → Good a (ts ++ us)
good_both p q = record { at = λ n. both (p.at n) (q.at n) }

module _ (a : Bool) where
  left_plain : (l : Level) (t : Terminal) (o : Operator) → left_operator l t ≡ Some o → kind a t ≡ Plain
  left_plain BitOr (Op VBar) o h = refl
  left_plain BitXor (Op Circumflex) o h = refl
  left_plain BitAnd (Op Amper) o h = refl
  left_plain Shift (Op LeftShift) o h = refl
  left_plain Shift (Op RightShift) o h = refl
  left_plain Sum (Op Plus) o h = refl
  left_plain Sum (Op Minus) o h = refl
  left_plain Term (Op Star) o h = refl
  left_plain Term (Op Slash) o h = refl
  left_plain Term (Op DoubleSlash) o h = refl
  left_plain Term (Op Percent) o h = refl
  left_plain Term (Op At) o h = refl
  left_plain _ _ o h = absurd (cc)

  prefix_plain : (l : Level) (t : Terminal) (o : UnaryOperator) → prefix_operator l t ≡ Some o → kind a t ≡ Plain
  prefix_plain Not (Word Key.Not) o h = refl
  prefix_plain Factor (Op Plus) o h = refl
  prefix_plain Factor (Op Minus) o h = refl
  prefix_plain Factor (Op Tilde) o h = refl
  prefix_plain _ _ o h = absurd (cc)

  comparison_plain : (t : Terminal) (o : Comparison) → comparison t ≡ Some o → kind a t ≡ Plain
  comparison_plain (Op EqEqual) o h = refl
  comparison_plain (Op NotEqual) o h = refl
  comparison_plain (Op Less) o h = refl
  comparison_plain (Op LessEqual) o h = refl
  comparison_plain (Op Greater) o h = refl
  comparison_plain (Op GreaterEqual) o h = refl
  comparison_plain (Word Key.In) o h = refl
  comparison_plain _ o h = absurd (cc)

  constant_plain : (t : Terminal) (v : Values.Value) → constant_word t ≡ Some v → kind a t ≡ Plain
  constant_plain (Word Key.None) v h = refl
  constant_plain (Word Key.True) v h = refl
  constant_plain (Word Key.False) v h = refl
  constant_plain (Op Ellipsis) v h = refl
  constant_plain _ v h = absurd (cc)

  chain_plain : (o : BoolOperator) → kind a (Word (chain_word o)) ≡ Plain
  chain_plain Join.Or = refl
  chain_plain Join.And = refl

  literals : (vs : List Values.Value) → Good a (map Literal vs)
  literals [] = none
  literals (v ∷ vs) = good_on refl (literals vs)

  compared : {ts : List Terminal} {o : Comparison} → G.Compared ts o → Good a ts
  compared (G.one_sign {t = t} {o = o} h) = good_on (comparison_plain t o h) none
  compared G.not_in = good_on refl (good_on refl none)
  compared G.is = good_on refl none
  compared G.is_not = good_on refl (good_on refl none)

  -- the sign of a suffix
  abbrev PlainSign : Option Exact → Type 0
  PlainSign None = Unit {0}
  PlainSign (Some x) = kind a (Op x) ≡ Plain

  colon_plain : (b : Bool) → PlainSign (cond b (Some Colon) None)
  colon_plain true = refl
  colon_plain false = tt

  mutual
    pub good : {l : Level} {ts : List Terminal} {e : Expr} → G.Derives l ts e → Good a ts
    good (G.next p) = good p
    good (G.yields p) = good_on refl (yields p)
    good (G.star_tuple p c) = good_both (good p) (good_on refl (listing c))
    good (G.star_item p) = good_on refl (good p)
    good (G.named p) = good_on refl (good_on refl (good p))
    good (G.lambda c h p) = good_on refl (good_both (listing c) (good_on refl (good p)))
    good (G.if_else p q r) = good_both (good p) (good_on refl (good_both (good q) (good_on refl (good r))))
    good (G.chain {o = o} p c) = good_both (good p) (good_on (chain_plain o) (chain c))
    good (G.unary {l = l} {t = t} {o = o} h p) = good_on (prefix_plain l t o h) (good p)
    good (G.compare p c) = good_both (good p) (compares c)
    good (G.binary {l = l} {o = o} t h p q) = good_both (good p) (good_on (left_plain l t o h) (good q))
    good (G.power p q) = good_both (good p) (good_on refl (good q))
    good (G.await p) = good_on refl (good p)
    good (G.attribute x p) = good_both (good p) (good_on refl (good_on refl none))
    good (G.call p c h) = let u = good p in let v = listing c in
        record { at = λ n. both (u.at n) (up refl (both (v.at (suc n)) (down refl ends))) }
    good (G.call_generator p q c) = let u = good p in let v = good q in let w = comps c in
        record { at = λ n. both (u.at n) (up refl (both (v.at (suc n)) (both (w.at (suc n)) (down refl ends)))) }
    good (G.subscript p q) = let u = good p in let v = good q in
        record { at = λ n. both (u.at n) (up refl (both (v.at (suc n)) (down refl ends))) }
    good G.name = good_on refl none
    good (G.constant {t = t} {v = v} h) = good_on (constant_plain t v h) none
    good G.number = good_on refl none
    good (G.strings vs h) = good_on refl (literals vs)
    good (G.joined_string p b h) = strings p
    good (G.group p) = let u = good p in record { at = λ n. up refl (both (u.at (suc n)) (down refl ends)) }
    good (G.yield_group p) = let u = yields p in record { at = λ n. up refl (on refl (both (u.at (suc n)) (down refl ends))) }
    good G.empty_tuple = record { at = λ n. up refl (down refl ends) }
    good (G.tuple p c) = let u = good p in let v = listing c in
        record { at = λ n. up refl (both (u.at (suc n)) (on refl (both (v.at (suc n)) (down refl ends)))) }
    good (G.generator_group p c) = let u = good p in let v = comps c in
        record { at = λ n. up refl (both (u.at (suc n)) (both (v.at (suc n)) (down refl ends))) }
    good (G.list c) = let u = listing c in record { at = λ n. up refl (both (u.at (suc n)) (down refl ends)) }
    good (G.list_comp p c) = let u = good p in let v = comps c in
        record { at = λ n. up refl (both (u.at (suc n)) (both (v.at (suc n)) (down refl ends))) }
    good (G.dict c) = let u = listing c in record { at = λ n. up refl (both (u.at (suc n)) (down refl ends)) }
    good (G.dict_comp p q c) = let u = good p in let v = good q in let w = comps c in
        record { at = λ n. up refl (both (u.at (suc n)) (on refl (both (v.at (suc n)) (both (w.at (suc n)) (down refl ends))))) }
    good (G.set c) = let u = listing c in record { at = λ n. up refl (both (u.at (suc n)) (down refl ends)) }
    good (G.set_comp p c) = let u = good p in let v = comps c in
        record { at = λ n. up refl (both (u.at (suc n)) (both (v.at (suc n)) (down refl ends))) }
    good (G.subject_tuple p c) = good_both (good p) (good_on refl (listing c))
    good (G.star_elem p) = good_on refl (good p)
    good (G.star_slices p) = good_on refl (good p)
    good (G.parts p c) = good_both (good p) (good_on refl (listing c))
    good (G.star_part p) = good_on refl (good p)
    good (G.slice b c) = good_both (perhaps b) (good_on refl (perhaps c))
    good (G.slice_step b c d) = good_both (perhaps b) (good_on refl (good_both (perhaps c) (good_on refl (perhaps d))))

    strings : {u : Bool} {ts : List Terminal} {ps : List StringPart} → G.Literals u ts ps → Good a ts
    strings G.no_literal = none
    strings (G.text_literal p) = good_on refl (strings p)
    strings (G.formatted_literal p q) = good_on refl (good_both (formatted p) (good_on refl (strings q)))

    formatted : {u : Bool} {ts : List Terminal} {ps : List StringPart} → G.Formatted u ts ps → Good a ts
    formatted G.no_part = none
    formatted (G.text_part p) = good_on refl (formatted p)
    formatted (G.field_part p q r) = good_on refl (good_both (good p) (good_both (spec q) (good_on refl (formatted r))))

    spec : {u : Bool} {ts : List Terminal} {e : OptionalExpr} → G.Spec u ts e → Good a ts
    spec G.no_spec = none
    spec (G.spec p) = good_on refl (formatted p)

    yields : {ts : List Terminal} {e : Expr} → G.Yields ts e → Good a ts
    yields (G.yield_from p) = good_on refl (good p)
    yields (G.yield_some p) = perhaps p

    perhaps : {l : Level} {ts : List Terminal} {e : OptionalExpr} → G.Perhaps l ts e → Good a ts
    perhaps G.nothing = none
    perhaps (G.something p) = good p

    suffix : {s : Option Exact} {ts : List Terminal} {e : OptionalExpr} → G.Suffix s ts e → PlainSign s → Good a ts
    suffix G.no_suffix h = none
    suffix (G.suffix p) h = good_on h (good p)

    chain : {o : BoolOperator} {ts : List Terminal} {es : List Expr} → G.Chain o ts es → Good a ts
    chain (G.last_link p) = good p
    chain (G.link {o = o} p c) = good_both (good p) (good_on (chain_plain o) (chain c))

    compares : {ts : List Terminal} {os : List Comparison} {es : List Expr} → G.Compares ts os es → Good a ts
    compares (G.last_compare k p) = good_both (compared k) (good p)
    compares (G.compares k p c) = good_both (compared k) (good_both (good p) (compares c))

    listing : {i : Item} {ts : List Terminal} {es : List Entry} → G.Listing i ts es → Good a ts
    listing G.no_item = none
    listing (G.last_item p) = piece p
    listing (G.item p c) = good_both (piece p) (good_on refl (listing c))

    piece : {i : Item} {ts : List Terminal} {e : Entry} → G.Piece i ts e → Good a ts
    piece (G.single p) = good p
    piece (G.pair p q) = good_both (good p) (good_on refl (good q))
    piece (G.pairs_of p) = good_on refl (good p)
    piece (G.argument p) = good p
    piece (G.star_argument p) = good_on refl (good p)
    piece (G.keyword_argument p) = good_on refl (good_on refl (good p))
    piece (G.double_argument p) = good_on refl (good p)
    piece (G.parameter {b = b} p q) = good_on refl (good_both (suffix p (colon_plain b)) (suffix q refl))
    piece G.slash = good_on refl none
    piece G.bare_star = good_on refl none
    piece (G.star_parameter {b = b} p) = good_on refl (good_on refl (suffix p (colon_plain b)))
    piece (G.star_annotation p) = good_on refl (good_on refl (good_on refl (good_on refl (good p))))
    piece (G.double_parameter {b = b} p) = good_on refl (good_on refl (suffix p (colon_plain b)))

    comps : {ts : List Terminal} {gs : List Comprehension} → G.Comps ts gs → Good a ts
    comps (G.one_comp c) = comp c
    comps (G.comps c d) = good_both (comp c) (comps d)

    comp : {ts : List Terminal} {g : Comprehension} → G.Comp ts g → Good a ts
    comp (G.for_in c) = good_on refl (for_in c)
    comp (G.async_for_in c) = good_on refl (good_on refl (for_in c))

    for_in : {b : Bool} {ts : List Terminal} {g : Comprehension} → G.ForIn b ts g → Good a ts
    for_in (G.target_in p h q c) = good_both (good p) (good_on refl (good_both (good q) (ifs c)))

    ifs : {ts : List Terminal} {es : List Expr} → G.Ifs ts es → Good a ts
    ifs G.no_if = none
    ifs (G.if_one p c) = good_on refl (good_both (good p) (ifs c))
