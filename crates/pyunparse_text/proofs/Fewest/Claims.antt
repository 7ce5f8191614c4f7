-- What the induction says of an expression, and its step for each form.
--
-- Carries: here, given, Claim, node and 39 more, for Induction, Clauses, Calls, Entries and
-- 6 more. On: Reach, Less.
use Rattle.std.proofs.Common.{◌≡◌, refl, sym, ap, subst, ◌∙◌, ◌≤◌, arith, List, [], ◌∷◌, ◌++◌, length, Option, Some, true, false}
use Rattle.std.proofs.Common.{length-append}
use Rattle.std.proofs.Common.{append-nil, map}
use Rattle.pylex_lexeme.specs.declared.kinds.Exact.TheVariants.{LPar, RPar, LSqb, RSqb, Colon, Plus, Minus, Star, Slash, VBar, Amper, Less}
use Rattle.pylex_lexeme.specs.declared.kinds.Exact.TheVariants.{Greater}
use Rattle.pylex_lexeme.specs.declared.kinds.Exact.TheVariants.{Dot, Percent, EqEqual, NotEqual, LessEqual, GreaterEqual, Tilde, Circumflex}
use Rattle.pylex_lexeme.specs.declared.kinds.Exact.TheVariants.{LeftShift, RightShift, DoubleStar, DoubleSlash, At, ColonEqual}
use Rattle.pytoken.specs.declared.keywords.Keyword.TheVariants as Key
use Rattle.pytree_node.specs.declared.operators.Operator.{Operator}
use Rattle.pytree_node.specs.declared.operators.Operator.TheVariants as Bin
use Rattle.pytree_node.specs.declared.operators.UnaryOperator.{UnaryOperator}
use Rattle.pytree_node.specs.declared.operators.BoolOperator.{BoolOperator}
use Rattle.pytree_node.specs.declared.operators.Comparison.{Comparison}
use Rattle.pytree_node.specs.declared.operators.Comparison.TheVariants as Is
use Rattle.pytree_node.specs.declared.operators.Context.TheVariants.{Load, Store}
use Rattle.pygrammar.specs.declared.levels.Level.{Level}
use Rattle.pygrammar.specs.declared.levels.Level.TheVariants.{Value, Stars, StarItem, Named, Expression, Or, Not, Compare, BitOr, BitXor}
use Rattle.pygrammar.specs.declared.levels.Level.TheVariants.{BitAnd}
use Rattle.pygrammar.specs.declared.levels.Level.TheVariants.{Shift, Sum, Term, Factor, Power, Await, Primary, Atom, Elem, Slices, Part}
use Rattle.pygrammar.specs.declared.levels.Level.TheVariants.{Slice}
use Rattle.pytree_node.specs.Values
use Rattle.pytree_node.specs.Trees
use Rattle.pytree_node.specs.Trees.{Expr, OptionalExpr, absent, present, exprs, Comprehension, comprehensions}
use Rattle.pytoken.specs.Terminals.{Terminal, Op, Word, Ident, Literal, Spelled}
use Rattle.pygrammar.specs.Operators.{below, left_operator, prefix_operator, chain_level, chain_word, comparison}
use Rattle.pygrammar.specs.Constants.{constant_word}
use Rattle.pygrammar.specs.Grammar as G
use Rattle.pyunparse_text.specs.Levels.{leads, reaches, operator_level, left_level, right_level, operator_sign, unary_level, unary_sign}
use Rattle.pyunparse_text.specs.Levels.{comparison_signs}
use Rattle.pyunparse_text.specs.Written.{separated, star_level, constant_terminal, free, fit, compared, written, each, perhaps, suffixed}
use Rattle.pyunparse_text.specs.Written.{clauses}
use Rattle.pyunparse_text.specs.Terminals.{terminal}
use Rattle.pyunparse_text.proofs.Fewest.Counted.{one, AtLeast, none, token, both, fewer, in_brackets, is_plain}
use Rattle.pyunparse_text.proofs.Fewest.Sizes.{operator_plain, unary_plain}
use Rattle.pyunparse_text.proofs.Fewest.Reach.{climb, reaches_self, to_atom, fits, fits_within, fit_marks, length_bracketed, fit_more}
use Rattle.pyunparse_text.proofs.Fewest.Reach.{operator_deep}
use Rattle.pyunparse_text.proofs.Fewest.Reach.{chain_deep, unary_deep, deep_expression, deep_compare, deep_await, deep_primary}
use Rattle.pyunparse_text.proofs.Fewest.Less.{star_place, slice_place, allowed, inner, allowed_below, allowed_all, step_less, group_more}

-- what a star's value and a lone generator's parts have to be
abbrev pub Inside : Expr → Type 0
Inside (Trees.Starred e c) = (c ≡ Load) × G.Derives Expression (written terminal Expression e) e
Inside (Trees.GeneratorExp e cs) = (gs : List Comprehension) × (cs ≡ comprehensions gs) × G.Derives Named (written terminal Named e) e ×
    G.Comps (clauses terminal cs) gs
Inside _ = Unit {0}

pub record Ready (e : Expr) : Type 0 where
  pub all : (m : Level) → allowed m e ≡ true → G.Derives m (written terminal m e) e
  pub inside : Inside e

pub record Claim (l : Level) (ts : List Terminal) (e : Expr) : Type 0 where
  pub ready : Ready e
  pub place : allowed l e ≡ true
  pub short : AtLeast (written one l e) ts

pub here : {l : Level} {ts : List Terminal} {e : Expr} → Claim l ts e → G.Derives l (written terminal l e) e
here {l} c = c.ready.all l c.place

pub there : {l : Level} {ts : List Terminal} {e : Expr} (m : Level) → inner l ≡ true → Claim l ts e → G.Derives m (written terminal m e) e
there {l} {ts} {e} m i c = c.ready.all m (allowed_all l m e i c.place)

pub next_claim : {l : Level} {ts : List Terminal} {e : Expr} → Claim (below l) ts e → Claim l ts e
next_claim {l} {ts} {e} c = record { ready = c.ready; place = allowed_below l e c.place; short = fewer (step_less l e c.place) c.short }

pub group_claim : {ts : List Terminal} {e : Expr} → Claim Named ts e → Claim Atom (Op LPar ∷ (ts ++ (Op RPar ∷ []))) e
group_claim {ts} {e} c =
    record {
      ready = c.ready;
      place = allowed_all Named Atom e refl c.place;
      short =
          fewer (omega (arith, group_more e c.place, length_bracketed (written one Named e))) (in_brackets LPar RPar c.short);
    }

-- a form of the level k, and one of Atom
pub node : (k : Level) (e : Expr) (us ts : List Terminal) (ms : List (Unit {0}))
    → ((m : Level) → written terminal m e ≡ fit terminal m k us)
    → written one k e ≡ fit one k k ms
    → allowed k e ≡ true → Inside e → G.Derives k us e → reaches Named k ≡ true → AtLeast ms ts → Claim k ts e
node k e us ts ms w v a i p r s = record {
  ready = record { all = λ m h. subst (λ x. G.Derives m x e) (sym (w m)) (fits m k us e p (G.group (climb Named k r p))); inside = i };
  place = a;
  short = subst (λ x. AtLeast x ts) (sym (v ∙ fit_marks k k ms (reaches_self k))) s;
}

pub atom : (e : Expr) (us ts : List Terminal) → ((m : Level) → written terminal m e ≡ us) → allowed Atom e ≡ true
    → Inside e → G.Derives Atom us e
    → AtLeast (written one Atom e) ts → Claim Atom ts e
atom e us ts w a i p s = record {
  ready = record { all = λ m h. subst (λ x. G.Derives m x e) (sym (w m)) (climb m Atom (to_atom m) p); inside = i };
  place = a;
  short = s;
}

-- the operators
pub if_else_claim : {ts us vs : List Terminal} {a b c : Expr} → Claim Or ts b → Claim Or us a → Claim Expression vs c
    → Claim Expression (ts ++ (Word Key.If ∷ (us ++ (Word Key.Else ∷ vs)))) (Trees.IfExp a b c)
unfolding written
if_else_claim {ts} {us} {vs} p q r =
    node Expression _ _ _ _ (λ m. refl) refl refl tt (G.if_else (here p) (here q) (here r)) deep_expression.named
    (both p.short (token refl (both q.short (token refl r.short))))

pub named_claim : {x : Spelled} {ts : List Terminal} {e : Expr} → Claim Expression ts e
    → Claim Named (Ident x ∷ (Op ColonEqual ∷ ts)) (Trees.NamedExpr (Trees.Name x.form Store) e)
unfolding written
named_claim p = node Named _ _ _ _ (λ m. refl) refl refl tt (G.named (here p)) (reaches_self Named) (token refl (token refl p.short))

pub await_claim : {ts : List Terminal} {e : Expr} → Claim Primary ts e → Claim Await (Word Key.Await ∷ ts) (Trees.Await e)
unfolding written
await_claim p = node Await _ _ _ _ (λ m. refl) refl refl tt (G.await (here p)) deep_await.named (token refl p.short)

pub attribute_claim : {ts : List Terminal} {e : Expr} (x : Spelled) → Claim Primary ts e
    → Claim Primary (ts ++ (Op Dot ∷ (Ident x ∷ []))) (Trees.Attribute e x.form Load)
unfolding written
attribute_claim x p =
    node Primary _ _ _ _ (λ m. refl) refl refl tt (G.attribute _ (here p)) deep_primary.named (both p.short (token refl (token refl none)))

pub subscript_claim : {ts us : List Terminal} {e s : Expr} → Claim Primary ts e → Claim Slices us s
    → Claim Primary (ts ++ (Op LSqb ∷ (us ++ (Op RSqb ∷ [])))) (Trees.Subscript e s Load)
unfolding written
subscript_claim p q =
    node Primary _ _ _ _ (λ m. refl) refl refl tt (G.subscript (here p) (here q)) deep_primary.named
    (both p.short (in_brackets LSqb RSqb q.short))

pub power_claim : {ts us : List Terminal} {a b : Expr} → Claim Await ts a → Claim Factor us b
    → Claim Power (ts ++ (Op DoubleStar ∷ us)) (Trees.BinOp a Bin.Pow b)
unfolding written
power_claim p q =
    node Power _ _ _ _ (λ m. refl) refl refl tt (G.power (here p) (here q)) (operator_deep Bin.Pow).named
    (both p.short (token refl q.short))

-- an operator's row in the table
pub record Row (l : Level) (t : Terminal) (o : Operator) : Type 0 where
  pub level : operator_level o ≡ l
  pub sign : operator_sign o ≡ t
  pub left : left_level o ≡ l
  pub right : right_level o ≡ below l

pub given : {A : Type 0} (P : A → Type 0) {a b : A} → ◌≡◌ {A = Option A} (Some a) (Some b) → P a → P b
given {A} P {a} {b} h p = subst P (same a b h) p
  where
    same : (a b : A) → ◌≡◌ {A = Option A} (Some a) (Some b) → a ≡ b
    same a b h = cc

pub row : (l : Level) (t : Terminal) (o : Operator) → left_operator l t ≡ Some o → Row l t o
row BitOr (Op VBar) o h = given (Row BitOr (Op VBar)) h (record { level = refl; sign = refl; left = refl; right = refl })
row BitXor (Op Circumflex) o h = given (Row BitXor (Op Circumflex)) h (record { level = refl; sign = refl; left = refl; right = refl })
row BitAnd (Op Amper) o h = given (Row BitAnd (Op Amper)) h (record { level = refl; sign = refl; left = refl; right = refl })
row Shift (Op LeftShift) o h = given (Row Shift (Op LeftShift)) h (record { level = refl; sign = refl; left = refl; right = refl })
row Shift (Op RightShift) o h = given (Row Shift (Op RightShift)) h (record { level = refl; sign = refl; left = refl; right = refl })
row Sum (Op Plus) o h = given (Row Sum (Op Plus)) h (record { level = refl; sign = refl; left = refl; right = refl })
row Sum (Op Minus) o h = given (Row Sum (Op Minus)) h (record { level = refl; sign = refl; left = refl; right = refl })
row Term (Op Star) o h = given (Row Term (Op Star)) h (record { level = refl; sign = refl; left = refl; right = refl })
row Term (Op Slash) o h = given (Row Term (Op Slash)) h (record { level = refl; sign = refl; left = refl; right = refl })
row Term (Op DoubleSlash) o h = given (Row Term (Op DoubleSlash)) h (record { level = refl; sign = refl; left = refl; right = refl })
row Term (Op Percent) o h = given (Row Term (Op Percent)) h (record { level = refl; sign = refl; left = refl; right = refl })
row Term (Op At) o h = given (Row Term (Op At)) h (record { level = refl; sign = refl; left = refl; right = refl })
row _ _ o h = absurd (cc)

pub binary_claim : {l : Level} {ts us : List Terminal} {a b : Expr} {o : Operator} (t : Terminal)
    → left_operator l t ≡ Some o → Claim l ts a
    → Claim (below l) us b → Claim l (ts ++ (t ∷ us)) (Trees.BinOp a o b)
unfolding written
binary_claim {l} {ts} {us} {a} {b} {o} t h p q =
    let r : Row l t o = row l t o h in
    node l (Trees.BinOp a o b) (written terminal l a ++ (t ∷ written terminal (below l) b)) (ts ++ (t ∷ us))
    (written one l a ++ (tt ∷ written one (below l) b)) (λ m. cc (r.level, r.sign, r.left, r.right)) (cc (r.level, r.left, r.right)) refl tt
    (G.binary t h (here p) (here q)) (subst (λ k. reaches Named k ≡ true) r.level (operator_deep o).named)
    (both p.short (token (subst (λ x. is_plain x ≡ true) r.sign (operator_plain o)) q.short))

pub record Prefix (l : Level) (t : Terminal) (o : UnaryOperator) : Type 0 where
  pub level : unary_level o ≡ l
  pub sign : unary_sign o ≡ t

pub prefixed : (l : Level) (t : Terminal) (o : UnaryOperator) → prefix_operator l t ≡ Some o → Prefix l t o
prefixed Not (Word Key.Not) o h = given (Prefix Not (Word Key.Not)) h (record { level = refl; sign = refl })
prefixed Factor (Op Plus) o h = given (Prefix Factor (Op Plus)) h (record { level = refl; sign = refl })
prefixed Factor (Op Minus) o h = given (Prefix Factor (Op Minus)) h (record { level = refl; sign = refl })
prefixed Factor (Op Tilde) o h = given (Prefix Factor (Op Tilde)) h (record { level = refl; sign = refl })
prefixed _ _ o h = absurd (cc)

pub unary_claim : {l : Level} {t : Terminal} {o : UnaryOperator} {ts : List Terminal} {e : Expr}
    → prefix_operator l t ≡ Some o → Claim l ts e
    → Claim l (t ∷ ts) (Trees.UnaryOp o e)
unfolding written
unary_claim {l} {t} {o} {ts} {e} h p =
    let r : Prefix l t o = prefixed l t o h in
    node l (Trees.UnaryOp o e) (t ∷ written terminal l e) (t ∷ ts) (tt ∷ written one l e) (λ m. cc (r.level, r.sign)) (cc r.level) refl tt
    (G.unary h (here p)) (subst (λ k. reaches Named k ≡ true) r.level (unary_deep o).named)
    (token (subst (λ x. is_plain x ≡ true) r.sign (unary_plain o)) p.short)

-- chains
pub record ChainClaim (o : BoolOperator) (us : List Terminal) (es : List Expr) : Type 0 where
  pub list : G.Chain o (separated (Word (chain_word o)) (each terminal (below (chain_level o)) (exprs es))) es
  pub short : AtLeast (separated tt (each one (below (chain_level o)) (exprs es))) us

no_chain : {o : BoolOperator} {ts : List Terminal} {es : List Expr} → G.Chain o ts es → es ≡ [] → ⊥
no_chain (G.last_link p) h = absurd (cc)
no_chain (G.link p c) h = absurd (cc)

pub last_link_claim : {o : BoolOperator} {ts : List Terminal} {e : Expr} → Claim (below (chain_level o)) ts e → ChainClaim o ts (e ∷ [])
unfolding each
last_link_claim p = record { list = G.last_link (here p); short = p.short }

pub link_claim : {o : BoolOperator} {ts us : List Terminal} {e : Expr} {es : List Expr}
    → Claim (below (chain_level o)) ts e → ChainClaim o us es
    → ChainClaim o (ts ++ (Word (chain_word o) ∷ us)) (e ∷ es)
unfolding each
link_claim {o} {ts} {us} {e} {es} p c = more es c
  where
    more : (es : List Expr) → ChainClaim o us es → ChainClaim o (ts ++ (Word (chain_word o) ∷ us)) (e ∷ es)
    more [] c = absurd (no_chain c.list refl)
    more (f ∷ fs) c = record { list = G.link (here p) c.list; short = both p.short (token refl c.short) }

pub chain_claim : {o : BoolOperator} {ts us : List Terminal} {e : Expr} {es : List Expr}
    → Claim (below (chain_level o)) ts e → ChainClaim o us es
    → Claim (chain_level o) (ts ++ (Word (chain_word o) ∷ us)) (Trees.BoolOp o (exprs (e ∷ es)))
unfolding written each
chain_claim {o} {ts} {us} {e} {es} p c = more es c
  where
    more : (es : List Expr) → ChainClaim o us es → Claim (chain_level o) (ts ++ (Word (chain_word o) ∷ us))
        (Trees.BoolOp o (exprs (e ∷ es)))
    more [] c = absurd (no_chain c.list refl)
    more (f ∷ fs) c =
        node (chain_level o) _ _ _ _ (λ m. refl) refl refl tt (G.chain (here p) c.list) (chain_deep o).named
        (both p.short (token refl c.short))

-- comparisons
abbrev pub signs : Comparison → List Terminal
signs o = map (free terminal) (comparison_signs o)

abbrev pub sign_marks : Comparison → List (Unit {0})
sign_marks o = map (free one) (comparison_signs o)

pub record ComparedClaim (ss : List Terminal) (o : Comparison) : Type 0 where
  pub is : G.Compared (signs o) o
  pub short : AtLeast (sign_marks o) ss

signs_derived : (o : Comparison) → G.Compared (signs o) o
signs_derived Is.Eq = G.one_sign refl
signs_derived Is.NotEq = G.one_sign refl
signs_derived Is.Lt = G.one_sign refl
signs_derived Is.LtE = G.one_sign refl
signs_derived Is.Gt = G.one_sign refl
signs_derived Is.GtE = G.one_sign refl
signs_derived Is.Is = G.is
signs_derived Is.IsNot = G.is_not
signs_derived Is.Within = G.one_sign refl
signs_derived Is.NotIn = G.not_in

one_short : (t : Terminal) (o : Comparison) → comparison t ≡ Some o → AtLeast (sign_marks o) (t ∷ [])
one_short (Op EqEqual) o h = given (λ o. AtLeast (sign_marks o) (Op EqEqual ∷ [])) h (token refl none)
one_short (Op NotEqual) o h = given (λ o. AtLeast (sign_marks o) (Op NotEqual ∷ [])) h (token refl none)
one_short (Op Less) o h = given (λ o. AtLeast (sign_marks o) (Op Less ∷ [])) h (token refl none)
one_short (Op LessEqual) o h = given (λ o. AtLeast (sign_marks o) (Op LessEqual ∷ [])) h (token refl none)
one_short (Op Greater) o h = given (λ o. AtLeast (sign_marks o) (Op Greater ∷ [])) h (token refl none)
one_short (Op GreaterEqual) o h = given (λ o. AtLeast (sign_marks o) (Op GreaterEqual ∷ [])) h (token refl none)
one_short (Word Key.In) o h = given (λ o. AtLeast (sign_marks o) (Word Key.In ∷ [])) h (token refl none)
one_short _ o h = absurd (cc)

pub compared_claim : {ss : List Terminal} {o : Comparison} → G.Compared ss o → ComparedClaim ss o
compared_claim (G.one_sign {t = t} {o = o} h) = record { is = signs_derived o; short = one_short t o h }
compared_claim G.not_in = record { is = G.not_in; short = token refl (token refl none) }
compared_claim G.is = record { is = G.is; short = token refl none }
compared_claim G.is_not = record { is = G.is_not; short = token refl (token refl none) }

pub record ComparesClaim (us : List Terminal) (os : List Comparison) (es : List Expr) : Type 0 where
  pub list : G.Compares (compared terminal os (each terminal BitOr (exprs es))) os es
  pub short : AtLeast (compared one os (each one BitOr (exprs es))) us

pub last_compare_claim : {ss ts : List Terminal} {o : Comparison} {e : Expr} → ComparedClaim ss o → Claim BitOr ts e
    → ComparesClaim (ss ++ ts) (o ∷ []) (e ∷ [])
unfolding each
last_compare_claim {ss} {ts} {o} {e} k p = record {
  list = subst (λ x. G.Compares (signs o ++ x) (o ∷ []) (e ∷ [])) (sym (append-nil (written terminal BitOr e)))
      (G.last_compare k.is (here p));
  short = both k.short (subst (λ x. AtLeast x ts) (sym (append-nil (written one BitOr e))) p.short);
}

pub compares_claim : {ss ts us : List Terminal} {o : Comparison} {e : Expr} {os : List Comparison} {es : List Expr} → ComparedClaim ss o
    → Claim BitOr ts e → ComparesClaim us os es → ComparesClaim (ss ++ (ts ++ us)) (o ∷ os) (e ∷ es)
unfolding each
compares_claim k p c = record { list = G.compares k.is (here p) c.list; short = both k.short (both p.short c.short) }

pub compare_claim : {ts us : List Terminal} {e : Expr} {os : List Comparison} {es : List Expr} → Claim BitOr ts e → ComparesClaim us os es
    → Claim Compare (ts ++ us) (Trees.Compare e os (exprs es))
unfolding written
compare_claim p c = node Compare _ _ _ _ (λ m. refl) refl refl tt (G.compare (here p) c.list) deep_compare.named (both p.short c.short)

-- atoms of one token
pub name_claim : {x : Spelled} → Claim Atom (Ident x ∷ []) (Trees.Name x.form Load)
unfolding written
name_claim = atom _ _ _ (λ m. refl) refl tt G.name (token refl none)

constant_derived : (v : Values.Value) → G.Derives Atom (constant_terminal v ∷ []) (Trees.Constant v)
constant_derived (Values.Int n) = G.number
constant_derived (Values.Float x) = G.number
constant_derived (Values.Imaginary x) = G.number
constant_derived (Values.Bool true) = G.constant refl
constant_derived (Values.Bool false) = G.constant refl
constant_derived Values.None = G.constant refl
constant_derived Values.Ellipsis = G.constant refl
constant_derived (Values.Str u t) = G.strings [] refl
constant_derived (Values.Bytes t) = G.strings [] refl

pub constant_claim : {ts : List Terminal} (v : Values.Value) → AtLeast (tt ∷ []) ts → Claim Atom ts (Trees.Constant v)
unfolding written
constant_claim v s = atom _ _ _ (λ m. refl) refl tt (constant_derived v) s

-- a word of a constant, and literals side by side
pub word_plain : (t : Terminal) (v : Values.Value) → constant_word t ≡ Some v → is_plain t ≡ true
word_plain (Op x) v h = refl
word_plain (Word k) v h = refl
word_plain _ v h = absurd (cc)

pub strings_short : (v : Values.Value) (vs : List Values.Value) → AtLeast (tt ∷ []) (Literal v ∷ map Literal vs)
strings_short v vs = token refl (some vs)
  where
    some : (vs : List Values.Value) → AtLeast [] (map Literal vs)
    some [] = none
    some (v ∷ vs) = fewer (omega arith) (token refl (some vs))

-- stars
star_all : (e : Expr) → G.Derives BitOr (written terminal BitOr e) e → G.Derives Expression (written terminal Expression e) e → (m : Level)
    → star_place m ≡ true → G.Derives m (Op Star ∷ written terminal (star_level m) e) (Trees.Starred e Load)
star_all e p q Value h = G.next (G.next (G.star_item p))
star_all e p q Stars h = G.next (G.star_item p)
star_all e p q StarItem h = G.star_item p
star_all e p q Elem h = G.star_elem p
star_all e p q Part h = G.star_part q
star_all e p q _ h = absurd (cc)

star_claim : {l : Level} {ts : List Terminal} {e : Expr} (m : Level) → inner l ≡ true → Claim l ts e
    → star_place m ≡ true → star_level m ≡ l
    → Claim m (Op Star ∷ ts) (Trees.Starred e Load)
unfolding written
star_claim {l} {ts} {e} m i c h q = record {
  ready = record { all = star_all e (there BitOr i c) (there Expression i c); inside = (refl, there Expression i c) };
  place = h;
  short = subst (λ k. AtLeast (tt ∷ written one k e) (Op Star ∷ ts)) (sym q) (token refl c.short);
}

pub star_item_claim : {ts : List Terminal} {e : Expr} → Claim BitOr ts e → Claim StarItem (Op Star ∷ ts) (Trees.Starred e Load)
star_item_claim c = star_claim StarItem refl c refl refl

pub star_elem_claim : {ts : List Terminal} {e : Expr} → Claim BitOr ts e → Claim Elem (Op Star ∷ ts) (Trees.Starred e Load)
star_elem_claim c = star_claim Elem refl c refl refl

pub star_part_claim : {ts : List Terminal} {e : Expr} → Claim Expression ts e → Claim Part (Op Star ∷ ts) (Trees.Starred e Load)
star_part_claim c = star_claim Part refl c refl refl

-- what may be left out
pub record PerhapsClaim (l : Level) (ts : List Terminal) (e : OptionalExpr) : Type 0 where
  pub is : G.Perhaps l (perhaps terminal l e) e
  pub short : AtLeast (perhaps one l e) ts

pub nothing_claim : (l : Level) → PerhapsClaim l [] absent
unfolding perhaps
nothing_claim l = record { is = G.nothing; short = none }

pub something_claim : {l : Level} {ts : List Terminal} {e : Expr} → Claim l ts e → PerhapsClaim l ts (present e)
unfolding perhaps
something_claim c = record { is = G.something (here c); short = c.short }

-- slices
slice_reach : (m : Level) → slice_place m ≡ true → reaches m Slice ≡ true
unfolding reaches leads
slice_reach Slices h = refl
slice_reach Part h = refl
slice_reach Slice h = refl
slice_reach _ h = absurd (cc)

slice_node : (a b c : OptionalExpr) (us ts : List Terminal)
    → us ≡ perhaps terminal Expression a ++ (Op Colon ∷ (perhaps terminal Expression b ++ suffixed terminal (Op Colon) c))
    → G.Derives Slice us (Trees.Slice a b c)
    → AtLeast (perhaps one Expression a ++ (tt ∷ (perhaps one Expression b ++ suffixed one tt c))) ts → Claim Slice ts (Trees.Slice a b c)
unfolding written
slice_node a b c us ts e p s =
    let p2 : G.Derives Slice
    (perhaps terminal Expression a ++ (Op Colon ∷ (perhaps terminal Expression b ++ suffixed terminal (Op Colon) c)))
    (Trees.Slice a b c) = subst (λ x. G.Derives Slice x (Trees.Slice a b c)) e p in
    record {
      ready = record { all = λ m h. fits_within m Slice _ _ (slice_reach m h) p2; inside = tt };
      place = refl;
      short = subst (λ x. AtLeast x ts)
          (sym (fit_marks Slice Slice (perhaps one Expression a ++ (tt ∷ (perhaps one Expression b ++ suffixed one tt c)))
          (reaches_self Slice))) s;
    }

-- without a second colon
no_step : {ms ns : List (Unit {0})} {ts us : List Terminal} → AtLeast ms ts → AtLeast ns us
    → AtLeast (ms ++ (tt ∷ (ns ++ []))) (ts ++ (Op Colon ∷ us))
no_step {ms} {ns} {ts} {us} p q = both p (token refl (subst (λ x. AtLeast x us) (sym (append-nil ns)) q))

pub slice_claim : {ts us : List Terminal} {a b : OptionalExpr} → PerhapsClaim Expression ts a → PerhapsClaim Expression us b
    → Claim Slice (ts ++ (Op Colon ∷ us)) (Trees.Slice a b absent)
unfolding suffixed
slice_claim {ts} {us} {a} {b} p q =
    slice_node a b absent (perhaps terminal Expression a ++ (Op Colon ∷ perhaps terminal Expression b)) _
    (ap (λ x. perhaps terminal Expression a ++ (Op Colon ∷ x)) (sym (append-nil (perhaps terminal Expression b)))) (G.slice p.is q.is)
    (no_step p.short q.short)

pub slice_step_claim : {ts us vs : List Terminal} {a b c : OptionalExpr} → PerhapsClaim Expression ts a → PerhapsClaim Expression us b
    → PerhapsClaim Expression vs c → Claim Slice (ts ++ (Op Colon ∷ (us ++ (Op Colon ∷ vs)))) (Trees.Slice a b c)
unfolding suffixed perhaps
slice_step_claim {ts} {us} {vs} {a} {b} {c} p q r = by c r
  where
    by : (c : OptionalExpr) → PerhapsClaim Expression vs c → Claim Slice (ts ++ (Op Colon ∷ (us ++ (Op Colon ∷ vs)))) (Trees.Slice a b c)
    by absent r =
        slice_node a b absent (perhaps terminal Expression a ++ (Op Colon ∷ perhaps terminal Expression b)) _
        (ap (λ x. perhaps terminal Expression a ++ (Op Colon ∷ x)) (sym (append-nil (perhaps terminal Expression b)))) (G.slice p.is q.is)
        (both p.short (token refl (both q.short (fewer (omega arith) (token refl r.short)))))
    by (present e) r =
        slice_node a b (present e) _ _ refl (G.slice_step p.is q.is r.is) (both p.short (token refl (both q.short (token refl r.short))))

-- yield
pub record YieldsClaim (ts : List Terminal) (e : Expr) : Type 0 where
  pub text : List Terminal
  pub marks : List (Unit {0})
  pub is : G.Yields text e
  pub writes : (m : Level) → written terminal m e ≡ fit terminal m Value (Word Key.Yield ∷ text)
  pub counts : (m : Level) → written one m e ≡ fit one m Value (tt ∷ marks)
  pub free : (m : Level) → allowed m e ≡ true
  pub inside : Inside e
  pub short : AtLeast marks ts

yields_ready : {ts : List Terminal} {e : Expr} → YieldsClaim ts e → Ready e
yields_ready {ts} {e} c =
    record {
      all = λ m h. subst (λ x. G.Derives m x e) (sym (c.writes m)) (fits m Value _ e (G.yields c.is) (G.yield_group c.is));
      inside =
          c.inside;
    }

pub yields_claim : {ts : List Terminal} {e : Expr} → YieldsClaim ts e → Claim Value (Word Key.Yield ∷ ts) e
yields_claim {ts} {e} c = record {
  ready = yields_ready c;
  place = c.free Value;
  short = subst (λ x. AtLeast x (Word Key.Yield ∷ ts)) (sym (c.counts Value ∙ fit_marks Value Value (tt ∷ c.marks) (reaches_self Value)))
      (token refl c.short);
}

pub yield_group_claim : {ts : List Terminal} {e : Expr} → YieldsClaim ts e
    → Claim Atom (Op LPar ∷ (Word Key.Yield ∷ (ts ++ (Op RPar ∷ [])))) e
yield_group_claim {ts} {e} c =
    record {
      ready = yields_ready c;
      place = c.free Atom;
      short =
          fewer bracketed_most (token refl (token refl (both c.short (token refl none))));
    }
  where
    bracketed_most : length (written one Atom e) ≤ length (tt ∷ (tt ∷ (c.marks ++ (tt ∷ []))))
    bracketed_most =
        rw (c.counts Atom)
        (omega (
          arith,
          fit_more Atom Value Value (tt ∷ c.marks),
          ap length (fit_marks Value Value (tt ∷ c.marks)
              (reaches_self Value)),
          length-append c.marks (tt ∷ []),
        ))

pub yield_from_claim : {ts : List Terminal} {e : Expr} → Claim Expression ts e → YieldsClaim (Word Key.From ∷ ts) (Trees.YieldFrom e)
unfolding written
yield_from_claim {ts} {e} c =
    record {
      text = Word Key.From ∷ written terminal Expression e;
      marks = tt ∷ written one Expression e;
      is = G.yield_from (here c);
      writes = λ m. refl;
      counts = λ m. refl;
      free = λ m. refl;
      inside = tt;
      short = token refl c.short;
    }

pub yield_some_claim : {ts : List Terminal} {e : OptionalExpr} → PerhapsClaim Stars ts e → YieldsClaim ts (Trees.Yield e)
unfolding written
yield_some_claim {ts} {e} c =
    record {
      text = perhaps terminal Stars e;
      marks = perhaps one Stars e;
      is = G.yield_some c.is;
      writes = λ m. refl;
      counts = λ m. refl;
      free = λ m. refl;
      inside = tt;
      short = c.short;
    }
