-- Comprehensions: targets are written as their expressions.
--
-- Carries: mapped_is, both_is, star_stored, lone_text and 22 more, for Induction, Places, Derived,
-- Calls and 2 more. On: Claims, Reach, Less.
use Rattle.std.proofs.Common.{◌≡◌, refl, sym, ap, subst, ◌∙◌, List, [], ◌∷◌, ◌++◌, length, Option, Some, None, Bool, true, false, cond}
use Rattle.std.proofs.Common.{append_assoc}
use Rattle.std.proofs.Common.{append-nil, option_map}
use Rattle.pylex_lexeme.specs.declared.kinds.Exact.{Exact}
use Rattle.pylex_lexeme.specs.declared.kinds.Exact.TheVariants.{LPar, RPar, LSqb, RSqb, LBrace, RBrace, Colon, Star}
use Rattle.pytoken.specs.declared.keywords.Keyword.TheVariants as Key
use Rattle.pytree_node.specs.declared.operators.Context.{Context}
use Rattle.pytree_node.specs.declared.operators.Context.TheVariants.{Store}
use Rattle.pygrammar.specs.declared.levels.Level.{Level}
use Rattle.pygrammar.specs.declared.levels.Level.TheVariants.{Stars, Named, Expression, Or, Primary, Atom, Elem}
use Rattle.pytree_node.specs.Trees
use Rattle.pytree_node.specs.Trees.{Expr, Exprs, no_exprs, an_expr, Comprehensions, no_keyword, exprs, Comprehension, comprehensions}
use Rattle.pytoken.specs.Terminals.{Terminal, Op, Word}
use Rattle.pygrammar.specs.Targets.{both, stored, all_stored}
use Rattle.pygrammar.specs.Grammar as G
use Rattle.pyunparse_text.specs.Written.{Maker, separated, star_level, some_named, lone_star, element_level, leading, trailing, tight, word}
use Rattle.pyunparse_text.specs.Written.{enclosed}
use Rattle.pyunparse_text.specs.Written.{listed, fit, for_in, written, each, alone, by_name, clauses, conditions}
use Rattle.pyunparse_text.specs.Terminals.{terminal}
use Rattle.pyunparse_text.proofs.Fewest.Counted.{one, AtLeast, none, token, both as joint, in_brackets}
use Rattle.pyunparse_text.proofs.Fewest.Reach.{deep_primary}
use Rattle.pyunparse_text.proofs.Fewest.Less.{is_named, tuple_text}
use Rattle.pyunparse_text.proofs.Fewest.Claims.{given, Claim, here, node, atom}

-- contexts are not written terminal
pub mapped_is : {A B : Type 0} (f : A → B) (o : Option A) (b : B) → option_map f o ≡ Some b → (a : A) × (o ≡ Some a) × (f a ≡ b)
mapped_is {A} {B} f None b h = absurd (cc)
mapped_is {A} {B} f (Some a) b h = (a, refl, given (λ x. f a ≡ x) h refl)

pub both_is : (o : Option Expr) (p : Option Exprs) (z : Exprs) → both o p ≡ Some z
    → (e : Expr) × (es : Exprs) × (o ≡ Some e) × (p ≡ Some es) × (an_expr e es ≡ z)
both_is None p z h = absurd (cc)
both_is (Some e) None z h = absurd (cc)
both_is (Some e) (Some es) z h = (e, es, refl, refl, given (λ x. an_expr e es ≡ x) h refl)

pub star_stored : (e : Expr) (c : Context) (s : Expr) → stored (Trees.Starred e c) ≡ Some s
    → (f : Expr) × (stored e ≡ Some f) × (Trees.Starred f Store ≡ s)
star_stored (Trees.Starred e d) c s h = absurd (cc)
star_stored e c s h = mapped_is (λ f. Trees.Starred f Store) (stored e) s h

abbrev pub is_starred : Expr → Bool
is_starred (Trees.Starred e c) = true
is_starred _ = false

abbrev pub is_none : Exprs → Bool
is_none no_exprs = true
is_none _ = false

some_named_is : (e : Expr) (es : Exprs) → some_named (an_expr e es) ≡ cond (is_named e) true (some_named es)
some_named_is (Trees.NamedExpr t e) es = refl
some_named_is _ es = refl

lone_star_is : (e : Expr) (es : Exprs) → lone_star (an_expr e es) ≡ cond (is_starred e) (is_none es) false
lone_star_is (Trees.Starred e c) no_exprs = refl
lone_star_is (Trees.Starred e c) (an_expr f es) = refl
lone_star_is _ es = refl

-- the classes stay
pub record SameClass (e f : Expr) : Type 0 where
  pub named : is_named e ≡ is_named f
  pub starred : is_starred e ≡ is_starred f

stored_class : (e f : Expr) → stored e ≡ Some f → SameClass e f
stored_class (Trees.Name x c) f h = given (SameClass (Trees.Name x c)) h (record { named = refl; starred = refl })
stored_class (Trees.Attribute e x c) f h = given (SameClass (Trees.Attribute e x c)) h (record { named = refl; starred = refl })
stored_class (Trees.Subscript e s c) f h = given (SameClass (Trees.Subscript e s c)) h (record { named = refl; starred = refl })
stored_class (Trees.Tuple es c) f h = let w = mapped_is (λ fs. Trees.Tuple fs Store) (all_stored es) f h in
    subst (SameClass (Trees.Tuple es c)) w.2 (record { named = refl; starred = refl })
stored_class (Trees.ListOf es c) f h = let w = mapped_is (λ fs. Trees.ListOf fs Store) (all_stored es) f h in
    subst (SameClass (Trees.ListOf es c)) w.2 (record { named = refl; starred = refl })
stored_class (Trees.Starred e c) f h = let w = star_stored e c f h in
    subst (SameClass (Trees.Starred e c)) w.2 (record { named = refl; starred = refl })
stored_class _ f h = absurd (cc)

module _ {A : Type 0} (make : Maker A) where
  pub record SameList (es fs : Exprs) : Type 0 where
    pub pieces_same : (l : Level) → each make l es ≡ each make l fs
    pub named : some_named es ≡ some_named fs
    pub lone : lone_star es ≡ lone_star fs
    pub empty : is_none es ≡ is_none fs

  pub same_grown : (e f : Expr) (es fs : Exprs) → ((l : Level) → written make l e ≡ written make l f) → SameClass e f → SameList es fs
      → SameList (an_expr e es) (an_expr f fs)
  unfolding each
  same_grown e f es fs w k s = record {
    pieces_same = λ l. cc (w l, s.pieces_same l);
    named = rw (some_named_is e es, some_named_is f fs, k.named, s.named) refl;
    lone = rw (lone_star_is e es, lone_star_is f fs, k.starred, s.empty) refl;
    empty = refl;
  }

  pub tuple_same : (l : Level) (es fs : Exprs) → SameList es fs → tuple_text make l (some_named es) es ≡ tuple_text
      make l (some_named fs) fs
  tuple_same l es fs s = rw (s.named, s.lone, s.pieces_same (element_level l (some_named fs))) refl

  mutual
    unfolding written each

    pub stored_same : (t s : Expr) → stored t ≡ Some s → (l : Level) → written make l t ≡ written make l s
    stored_same (Trees.Name x c) s h l = given (λ z. written make l (Trees.Name x c) ≡ written make l z) h refl
    stored_same (Trees.Attribute e x c) s h l = given (λ z. written make l (Trees.Attribute e x c) ≡ written make l z) h refl
    stored_same (Trees.Subscript e i c) s h l = given (λ z. written make l (Trees.Subscript e i c) ≡ written make l z) h refl
    stored_same (Trees.Tuple es c) s h l = let w = mapped_is (λ fs. Trees.Tuple fs Store) (all_stored es) s h in
        tuple_same l es w.0 (all_same es w.0 w.1) ∙ ap (written make l) w.2
    stored_same (Trees.ListOf es c) s h l = let w = mapped_is (λ fs. Trees.ListOf fs Store) (all_stored es) s h in
        ap (λ z. enclosed make (leading make LSqb) RSqb (listed make z)) ((all_same es w.0 w.1).pieces_same Elem) ∙ ap (written make l) w.2
    stored_same (Trees.Starred e c) s h l = let w = star_stored e c s h in
        ap (λ z. leading make Star ∷ z) (stored_same e w.0 w.1 (star_level l)) ∙ ap (written make l) w.2
    stored_same _ s h l = absurd (cc)

    all_same : (es fs : Exprs) → all_stored es ≡ Some fs → SameList es fs
    all_same no_exprs fs h = given (SameList no_exprs) h (record { pieces_same = λ l. refl; named = refl; lone = refl; empty = refl })
    all_same (an_expr e es) fs h = let w = both_is (stored e) (all_stored es) fs h in
        subst (SameList (an_expr e es)) w.4 (same_grown e w.0 es w.1 (λ l. stored_same e w.0 w.2 l)
        (stored_class e w.0 w.2) (all_same es w.1 w.3))

-- one `for`
pub record IfsClaim (us : List Terminal) (es : List Expr) : Type 0 where
  pub is : G.Ifs (conditions terminal (exprs es)) es
  pub short : AtLeast (conditions one (exprs es)) us

pub no_if_claim : IfsClaim [] []
unfolding conditions
no_if_claim = record { is = G.no_if; short = none }

pub if_one_claim : {ts us : List Terminal} {e : Expr} {es : List Expr} → Claim Or ts e → IfsClaim us es
    → IfsClaim (Word Key.If ∷ (ts ++ us)) (e ∷ es)
unfolding conditions
if_one_claim p c = record { is = G.if_one (here p) c.is; short = token refl (joint p.short c.short) }

abbrev for_in_text : {A : Type 0} → Maker A → Comprehension → List A
for_in_text make g = written make Stars g.target ++ (word make Key.In ∷ (written make Or g.iter ++ conditions make (exprs g.ifs)))

abbrev pub for_text : Comprehension → List Terminal
for_text g = for_in_text terminal g

abbrev pub for_marks : Comprehension → List (Unit {0})
for_marks g = for_in_text one g

pub record ForInClaim (b : Bool) (us : List Terminal) (g : Comprehension) : Type 0 where
  pub is : G.ForIn b (for_text g) g
  pub short : AtLeast (for_marks g) us
  pub async : g.is_async ≡ b

abbrev a_for : Expr → Expr → List Expr → Bool → Comprehension
a_for t e cs b = record { target = t; iter = e; ifs = cs; is_async = b }

pub target_in_claim : {b : Bool} {ts us vs : List Terminal} {t s e : Expr} {cs : List Expr} → Claim Stars ts t
    → stored t ≡ Some s → Claim Or us e
    → IfsClaim vs cs → ForInClaim b (ts ++ (Word Key.In ∷ (us ++ vs))) (record { target = s; iter = e; ifs = cs; is_async = b })
target_in_claim {b} {ts} {us} {vs} {t} {s} {e} {cs} p h q c = let w = stored_same terminal t s h Stars in record {
  is = subst (λ z. G.ForIn b (z ++ (Word Key.In ∷ (written terminal Or e ++ conditions terminal (exprs cs)))) (a_for s e cs b)) w
      (G.target_in (here p) h (here q) c.is);
  short = subst (λ z. AtLeast (z ++ (tt ∷ (written one Or e ++ conditions one (exprs cs)))) (ts ++ (Word Key.In ∷ (us ++ vs))))
      (stored_same one t s h Stars) (joint p.short (token refl (joint q.short c.short)));
  async = refl;
}

pub record CompClaim (us : List Terminal) (g : Comprehension) : Type 0 where
  pub is : G.Comp (for_in terminal g.is_async (for_text g)) g
  pub short : AtLeast (for_in one g.is_async (for_marks g)) us

pub for_claim : {ts : List Terminal} {g : Comprehension} → ForInClaim false ts g → CompClaim (Word Key.For ∷ ts) g
for_claim {ts} {g} c = record {
  is = subst (λ b. G.Comp (for_in terminal b (for_text g)) g) (sym c.async) (G.for_in c.is);
  short = subst (λ b. AtLeast (for_in one b (for_marks g)) (Word Key.For ∷ ts)) (sym c.async) (token refl c.short);
}

pub async_for_claim : {ts : List Terminal} {g : Comprehension} → ForInClaim true ts g → CompClaim (Word Key.Async ∷ (Word Key.For ∷ ts)) g
async_for_claim {ts} {g} c = record {
  is = subst (λ b. G.Comp (for_in terminal b (for_text g)) g) (sym c.async) (G.async_for_in c.is);
  short = subst (λ b. AtLeast (for_in one b (for_marks g)) (Word Key.Async ∷ (Word Key.For ∷ ts))) (sym c.async)
      (token refl (token refl c.short));
}

pub record CompsClaim (us : List Terminal) (gs : List Comprehension) : Type 0 where
  pub is : G.Comps (clauses terminal (comprehensions gs)) gs
  pub short : AtLeast (clauses one (comprehensions gs)) us

pub one_comp_claim : {ts : List Terminal} {g : Comprehension} → CompClaim ts g → CompsClaim ts (g ∷ [])
unfolding clauses
one_comp_claim {ts} {g} c =
    let last = append-nil (for_in terminal g.is_async (for_text g)) in
    record {
      is = subst (λ z. G.Comps z (g ∷ [])) (sym last) (G.one_comp c.is);
      short = subst (λ z. AtLeast z ts) (sym (append-nil (for_in one g.is_async (for_marks g)))) c.short;
    }

pub comps_claim : {ts us : List Terminal} {g : Comprehension} {gs : List Comprehension} → CompClaim ts g → CompsClaim us gs
    → CompsClaim (ts ++ us) (g ∷ gs)
unfolding clauses
comps_claim c d = record { is = G.comps c.is d.is; short = joint c.short d.short }

-- the forms with comprehensions
two_inside : {A : Type 0} (o c : A) (ts us : List A) → o ∷ ((ts ++ us) ++ (c ∷ [])) ≡ o ∷ (ts ++ (us ++ (c ∷ [])))
two_inside o c ts us = ap (λ z. o ∷ z) (append_assoc ts us (c ∷ []))

in_two : {ms ns : List (Unit {0})} {ts us : List Terminal} (x y : Exact) → AtLeast ms ts → AtLeast ns us
    → AtLeast (tt ∷ ((ms ++ ns) ++ (tt ∷ []))) (Op x ∷ (ts ++ (us ++ (Op y ∷ []))))
in_two {ms} {ns} {ts} {us} x y p q = subst (AtLeast (tt ∷ ((ms ++ ns) ++ (tt ∷ [])))) (two_inside (Op x) (Op y) ts us)
    (in_brackets x y (joint p q))

pub generator_group_claim : {ts us : List Terminal} {e : Expr} {gs : List Comprehension} → Claim Named ts e → CompsClaim us gs
    → Claim Atom (Op LPar ∷ (ts ++ (us ++ (Op RPar ∷ [])))) (Trees.GeneratorExp e (comprehensions gs))
unfolding written
generator_group_claim {ts} {us} {e} {gs} p c =
    atom _ _ _ (λ m. two_inside (Op LPar) (Op RPar) (written terminal Named e) (clauses terminal (comprehensions gs))) refl
    (gs, refl, here p, c.is)
    (G.generator_group (here p) c.is) (in_two LPar RPar p.short c.short)

pub list_comp_claim : {ts us : List Terminal} {e : Expr} {gs : List Comprehension} → Claim Named ts e → CompsClaim us gs
    → Claim Atom (Op LSqb ∷ (ts ++ (us ++ (Op RSqb ∷ [])))) (Trees.ListComp e (comprehensions gs))
unfolding written
list_comp_claim {ts} {us} {e} {gs} p c =
    atom _ _ _ (λ m. two_inside (Op LSqb) (Op RSqb) (written terminal Named e) (clauses terminal (comprehensions gs))) refl tt
    (G.list_comp (here p) c.is) (in_two LSqb RSqb p.short c.short)

pub set_comp_claim : {ts us : List Terminal} {e : Expr} {gs : List Comprehension} → Claim Named ts e → CompsClaim us gs
    → Claim Atom (Op LBrace ∷ (ts ++ (us ++ (Op RBrace ∷ [])))) (Trees.SetComp e (comprehensions gs))
unfolding written
set_comp_claim {ts} {us} {e} {gs} p c =
    atom _ _ _ (λ m. two_inside (Op LBrace) (Op RBrace) (written terminal Named e) (clauses terminal (comprehensions gs))) refl tt
    (G.set_comp (here p) c.is) (in_two LBrace RBrace p.short c.short)

three_inside : {A : Type 0} (o m c : A) (ts us vs : List A) → o ∷ ((ts ++ (m ∷ (us ++ vs))) ++ (c ∷ [])) ≡ o ∷
    (ts ++ (m ∷ (us ++ (vs ++ (c ∷ [])))))
three_inside o m c ts us vs =
    ap (λ z. o ∷ z) (append_assoc ts (m ∷ (us ++ vs)) (c ∷ [])) ∙ ap (λ z. o ∷ (ts ++ (m ∷ z))) (append_assoc us vs (c ∷ []))

in_three : {ms ns ks : List (Unit {0})} {ts us vs : List Terminal} (x y z : Exact) → AtLeast ms ts → AtLeast ns us → AtLeast ks vs
    → AtLeast (tt ∷ ((ms ++ (tt ∷ (ns ++ ks))) ++ (tt ∷ []))) (Op x ∷ (ts ++ (Op y ∷ (us ++ (vs ++ (Op z ∷ []))))))
in_three {ms} {ns} {ks} {ts} {us} {vs} x y z p q r =
    subst (AtLeast (tt ∷ ((ms ++ (tt ∷ (ns ++ ks))) ++ (tt ∷ [])))) (three_inside (Op x) (Op y) (Op z) ts us vs)
    (in_brackets x z (joint p (token refl (joint q r))))

pub dict_comp_claim : {ts us vs : List Terminal} {k e : Expr} {gs : List Comprehension} → Claim Expression ts k → Claim Expression us e
    → CompsClaim vs gs → Claim Atom (Op LBrace ∷ (ts ++ (Op Colon ∷ (us ++ (vs ++ (Op RBrace ∷ []))))))
    (Trees.DictComp k e (comprehensions gs))
unfolding written
dict_comp_claim {ts} {us} {vs} {k} {e} {gs} p q c =
    atom _ _ _
    (λ m. three_inside (Op LBrace) (Op Colon) (Op RBrace) (written terminal Expression k) (written terminal Expression e)
    (clauses terminal (comprehensions gs))) refl tt
    (G.dict_comp (here p) (here q) c.is) (in_three LBrace Colon RBrace p.short q.short c.short)

-- a generator in the brackets of its call
pub lone_text : {A : Type 0} (make : Maker A) (f e : Expr) (cs : Comprehensions) (m : Level)
    → written make m (Trees.Call f (an_expr (Trees.GeneratorExp e cs) no_exprs) no_keyword) ≡ fit make m Primary
    (written make Primary f ++ (tight make LPar ∷ (written make Named e ++ (clauses make cs ++ (trailing make RPar ∷ [])))))
unfolding written alone
lone_text make f e cs m =
    ap (λ z. fit make m Primary (written make Primary f ++ z))
    (two_inside (tight make LPar) (trailing make RPar) (written make Named e) (clauses make cs))

-- which is one argument
pub lone_length : (e : Expr) (cs : Comprehensions)
    → length (separated tt (each one Named (an_expr (Trees.GeneratorExp e cs) no_exprs) ++ by_name one no_keyword)) ≡ length
    (tt ∷ (written one Named e ++ (clauses one cs ++ (tt ∷ []))))
unfolding written each by_name
lone_length e cs = ap length (two_inside tt tt (written one Named e) (clauses one cs))

pub call_generator_claim : {ts us vs : List Terminal} {f e : Expr} {gs : List Comprehension} → Claim Primary ts f → Claim Named us e
    → CompsClaim vs gs
    → Claim Primary (ts ++ (Op LPar ∷ (us ++ (vs ++ (Op RPar ∷ [])))))
    (Trees.Call f (an_expr (Trees.GeneratorExp e (comprehensions gs)) no_exprs) no_keyword)
call_generator_claim {ts} {us} {vs} {f} {e} {gs} p q c =
    node Primary _
    (written terminal Primary f ++ (Op LPar ∷ (written terminal Named e ++ (clauses terminal (comprehensions gs) ++ (Op RPar ∷ []))))) _
    (written one Primary f ++ (tt ∷ (written one Named e ++ (clauses one (comprehensions gs) ++ (tt ∷ [])))))
    (lone_text terminal f e (comprehensions gs)) (lone_text one f e (comprehensions gs) Primary) refl tt
    (G.call_generator (here p) (here q) c.is) deep_primary.named
    (joint p.short (token refl (joint q.short (joint c.short (token refl none)))))
