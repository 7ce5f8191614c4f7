-- Carries: the laws of the slots. On: arguments, pairs of a Dict, targets and comprehensions of
-- what is given are given.
use Rattle.std.proofs.Common.{◌≡◌, refl, ap, subst, arith, List, [], ◌∷◌, ◌++◌, Option, Some, None, Bool, true, false, option_map}
use Rattle.std.specs.Prelude.{not}
use Rattle.std.proofs.lemmas.Bool.{not-true}
use Rattle.pylex_lexeme.specs.declared.kinds.Exact.TheVariants.{LPar, RPar, LSqb, RSqb, LBrace, RBrace, Colon, Star, Equal, DoubleStar}
use Rattle.pytoken.specs.declared.keywords.Keyword.TheVariants as Key
use Rattle.pytree_node.specs.declared.operators.Context.TheVariants.{Load, Store}
use Rattle.pytree_node.specs.Trees
use Rattle.pytree_node.specs.Trees.{Identifier, Expr, Exprs, no_exprs, an_expr, OptionalExprs, no_optional, an_optional, absent, present}
use Rattle.pytree_node.specs.Trees.{Keywords, no_keyword, a_keyword, Comprehensions, no_comprehension, a_comprehension, exprs}
use Rattle.pytree_node.specs.Trees.{Comprehension, comprehensions}
use Rattle.pytoken.specs.Terminals.{Terminal, Op, Word, in_form}
use Rattle.pygrammar.specs.declared.levels.Level.{Level}
use Rattle.pygrammar.specs.declared.levels.Level.TheVariants.{Stars, Named, Expression, Or, BitOr, Primary, Atom, Elem, Slices}
use Rattle.pygrammar.specs.Entries.{Pair, Argument, Entry, Single, Paired, Spread, Doubled, Keyed, keys, values}
use Rattle.pygrammar.specs.Arguments.{called, in_order, positional, keywords}
use Rattle.pygrammar.specs.Targets.{stored, all_stored}
use Rattle.pygrammar.specs.Grammar as G
use Rattle.pytree_fits.specs.Slots.{takes_star, is_starred, count, count_optional, has_some, perhaps_name}
use Rattle.pytree_fits.proofs.Fields.Standing.{Standing}
use Rattle.pytree_fits.proofs.Fields.AsSpelled.{Passed, GivenAsSpelled, pass_on}
use Rattle.pytree_fits.proofs.Fields.Tests.{never}
use Rattle.pytree_fits.proofs.Giving.Places as P
use Rattle.pytree_fits.proofs.Giving.Places.{Each, no_more, one_more, lifted, anywhere_at, at, starred_at, named_pass}
use Rattle.pytree_fits.proofs.Giving.Making.{Pieces, no_piece, a_piece, listing, name_given, attribute_given, subscript_given, tuple_given}
use Rattle.pytree_fits.proofs.Giving.Making.{list_given}

-- ---- Arguments. Where a positional one is a Starred, its value is given at Expression.

pub data Positional (n : Standing) : Exprs → Type 0 where
  no_positional : Positional n no_exprs
  a_plain : {e : Expr} {es : Exprs} → P.At n Named e → Positional n es → Positional n (an_expr e es)
  a_star : {e : Expr} {es : Exprs} → P.At n Expression e → Positional n es → Positional n (an_expr (Trees.Starred e Load) es)

pub data Labelled (n : Standing) : Keywords → Type 0 where
  no_label : Labelled n no_keyword
  a_label : (x : Option Identifier) {e : Expr} {ks : Keywords} → perhaps_name n.tests.name x ≡ true → P.At n Expression e → Labelled n ks
      → Labelled n (a_keyword x e ks)

-- some entries are these arguments, in the order of the tree
pub record Listed (n : Standing) (es : Exprs) (ks : Keywords) : Type 0 where
  pub list : List Entry
  pub pieces : Pieces n Argument list
  pub order : in_order false false list ≡ true
  pub positional_are : positional list ≡ es
  pub keywords_are : keywords list ≡ ks

record Words (n : Standing) (ks : Keywords) : Type 0 where
  list : List Entry
  pieces : Pieces n Argument list
  order : (k d : Bool) → in_order k d list ≡ true
  positional_are : positional list ≡ no_exprs
  keywords_are : keywords list ≡ ks

module _ (n : Standing) where
  words : {ks : Keywords} → Labelled n ks → Words n ks
  words no_label = record { list = []; pieces = no_piece; order = by; positional_are = refl; keywords_are = refl }
    where
      by : (k d : Bool) → in_order k d [] ≡ true
      by true true = refl
      by true false = refl
      by false true = refl
      by false false = refl
  words (a_label (Some x) {e = e} h f r) =
      let w = words r in
      record {
        list = Keyed x e ∷ w.list;
        pieces = a_piece (in_form x ∷ (Op Equal ∷ f.0), named_pass n x (Op Equal ∷ f.0) h f.1, G.keyword_argument f.2) w.pieces;
        order = by w.list w.order;
        positional_are = w.positional_are;
        keywords_are = ap (a_keyword (Some x) e) w.keywords_are;
      }
    where
      by : (list : List Entry) → ((k d : Bool) → in_order k d list ≡ true) → (k d : Bool) → in_order k d (Keyed x e ∷ list) ≡ true
      by list o true true = o true true
      by list o true false = o true false
      by list o false true = o true true
      by list o false false = o true false
  words (a_label None {e = e} h f r) =
      let w = words r in
      record {
        list = Doubled e ∷ w.list;
        pieces = a_piece (Op DoubleStar ∷ f.0, f.1, G.double_argument f.2) w.pieces;
        order = by w.list w.order;
        positional_are = w.positional_are;
        keywords_are = ap (a_keyword None e) w.keywords_are;
      }
    where
      by : (list : List Entry) → ((k d : Bool) → in_order k d list ≡ true) → (k d : Bool) → in_order k d (Doubled e ∷ list) ≡ true
      by list o true true = o true true
      by list o true false = o true true
      by list o false true = o true true
      by list o false false = o true true

  pub listed : {es : Exprs} {ks : Keywords} → Positional n es → Labelled n ks → Listed n es ks
  listed no_positional s = let w = words s in record {
    list = w.list;
    pieces = w.pieces;
    order = w.order false false;
    positional_are =
        w.positional_are;
    keywords_are = w.keywords_are;
  }
  listed (a_plain {e = e} f r) s =
      let w = listed r s in
      record {
        list = Single e ∷ w.list;
        pieces = a_piece (f.0, f.1, G.argument f.2) w.pieces;
        order = w.order;
        positional_are =
            ap (an_expr e) w.positional_are;
        keywords_are = w.keywords_are;
      }
  listed (a_star {e = e} f r) s =
      let w = listed r s in
      record {
        list = Spread e ∷ w.list;
        pieces = a_piece (Op Star ∷ f.0, f.1, G.star_argument f.2) w.pieces;
        order = w.order;
        positional_are = ap (an_expr (Trees.Starred e Load)) w.positional_are;
        keywords_are = w.keywords_are;
      }

  pub call_given : (l : Level) (f : Expr) (es : Exprs) (ks : Keywords) → P.At n Expression f → Positional n es → Labelled n ks
      → P.At n l (Trees.Call f es ks)
  call_given l f es ks p r s =
      let w = listed r s in
      let u = at n Primary p in
      let v = listing n w.pieces in
      let q : called f w.list ≡ Some (Trees.Call f es ks) = rw (w.order, w.positional_are, w.keywords_are) refl in
      anywhere_at n Primary refl (
        u.0 ++ (Op LPar ∷ (v.0 ++ (Op RPar ∷ []))),
        pass_on n u.0 (Op LPar ∷ (v.0 ++ (Op RPar ∷ []))) u.1
            (pass_on n v.0 (Op RPar ∷ []) v.1 refl),
        G.call u.2 v.2 q,
      ) l

-- ---- Pairs.

pub data Keys (n : Standing) : OptionalExprs → Type 0 where
  no_keys : Keys n no_optional
  no_key : {ks : OptionalExprs} → Keys n ks → Keys n (an_optional absent ks)
  a_key : {k : Expr} {ks : OptionalExprs} → P.At n Expression k → Keys n ks → Keys n (an_optional (present k) ks)

record Pairs (n : Standing) (ks : OptionalExprs) (es : Exprs) : Type 0 where
  list : List Entry
  keys_are : keys list ≡ ks
  values_are : values list ≡ es
  pieces : Pieces n Pair list

module _ (n : Standing) where
  paired : {ks : OptionalExprs} {es : Exprs} → count_optional ks ≡ count es → Keys n ks → Each n Expression es → Pairs n ks es
  paired q no_keys no_more = record { list = []; keys_are = refl; values_are = refl; pieces = no_piece }
  paired q no_keys (one_more f r) = absurd (omega (arith, q))
  paired q (no_key s) no_more = absurd (omega (arith, q))
  paired q (a_key g s) no_more = absurd (omega (arith, q))
  paired q (no_key s) (one_more {e = e} f r) =
      let w = paired (omega (arith, q)) s r in
      let u = at n BitOr f in
      record {
        list = Doubled e ∷ w.list;
        keys_are = ap (an_optional absent) w.keys_are;
        values_are = ap (an_expr e) w.values_are;
        pieces =
            a_piece (Op DoubleStar ∷ u.0, u.1, G.pairs_of u.2) w.pieces;
      }
  paired q (a_key {k = k} g s) (one_more {e = e} f r) =
      let w = paired (omega (arith, q)) s r in
      record {
        list = Paired k e ∷ w.list;
        keys_are = ap (an_optional (present k)) w.keys_are;
        values_are = ap (an_expr e) w.values_are;
        pieces = a_piece (g.0 ++ (Op Colon ∷ f.0), pass_on n g.0 (Op Colon ∷ f.0) g.1 f.1, G.pair g.2 f.2) w.pieces;
      }

  pub dict_given : (l : Level) (ks : OptionalExprs) (es : Exprs) → count_optional ks ≡ count es → Keys n ks → Each n Expression es
      → P.At n l (Trees.Dict ks es)
  dict_given l ks es q s r =
      let w = paired q s r in
      let v = listing n w.pieces in
      lifted n l (subst (λ z. P.At n Atom (Trees.Dict ks z)) w.values_are
      (subst (λ z. P.At n Atom (Trees.Dict z (values w.list))) w.keys_are
      (Op LBrace ∷ (v.0 ++ (Op RBrace ∷ [])), pass_on n v.0 (Op RBrace ∷ []) v.1 refl, G.dict v.2)))

-- ---- Targets.

-- the expression that is stored as a target
pub record ATarget (n : Standing) (s : Expr) : Type 0 where
  pub tree : Expr
  pub is : stored tree ≡ Some s
  pub given : (l : Level) → takes_star l ≡ true → P.At n l tree
  pub bare : is_starred s ≡ false → ((l : Level) → P.At n l tree) × (is_starred tree ≡ false)

pub data TargetList (n : Standing) : Exprs → Type 0 where
  no_lone_target : TargetList n no_exprs
  one_more_target : {e : Expr} {es : Exprs} → ATarget n e → TargetList n es → TargetList n (an_expr e es)

record Targeted (n : Standing) (es : Exprs) : Type 0 where
  list : Exprs
  is : all_stored list ≡ Some es
  each : Each n Elem list

pub star_up : (e f : Expr) → is_starred e ≡ false → stored e ≡ Some f → stored (Trees.Starred e Load) ≡ Some (Trees.Starred f Store)
star_up (Trees.Starred e c) f h q = absurd (cc)
star_up e f h q = ap (option_map (λ f. Trees.Starred f Store)) q

module _ (n : Standing) where
  targeted : {es : Exprs} → TargetList n es → Targeted n es
  targeted no_lone_target = record { list = no_exprs; is = refl; each = no_more }
  targeted (one_more_target {e = e} {es = es} a r) = let w = targeted r in record {
    list = an_expr a.tree w.list;
    is = rw (a.is, w.is) refl;
    each =
        one_more (a.given Elem refl) w.each;
  }

  pub name_target : (x : Identifier) → n.tests.name x ≡ true → ATarget n (Trees.Name x Store)
  name_target x h = record {
    tree = Trees.Name x Load;
    is = refl;
    given = λ l q. name_given n l x h;
    bare =
        λ q. (λ l. name_given n l x h, refl);
  }

  pub attribute_target : (e : Expr) (x : Identifier) → n.tests.name x ≡ true → P.At n Expression e → ATarget n (Trees.Attribute e x Store)
  attribute_target e x h f = record {
    tree = Trees.Attribute e x Load;
    is = refl;
    given = λ l q. attribute_given n l e x h f;
    bare =
        λ q. (λ l. attribute_given n l e x h f, refl);
  }

  pub subscript_target : (e s : Expr) → P.At n Expression e → P.At n Slices s → ATarget n (Trees.Subscript e s Store)
  subscript_target e s f g = record {
    tree = Trees.Subscript e s Load;
    is = refl;
    given = λ l q. subscript_given n l e s f g;
    bare =
        λ q. (λ l. subscript_given n l e s f g, refl);
  }

  pub tuple_target : (es : Exprs) → TargetList n es → ATarget n (Trees.Tuple es Store)
  tuple_target es a =
      let w = targeted a in
      let p = tuple_given n Atom w.list w.each in
      record { tree = Trees.Tuple w.list Load; is = rw w.is refl; given = λ l q. lifted n l p; bare = λ q. (λ l. lifted n l p, refl) }

  pub list_target : (es : Exprs) → TargetList n es → ATarget n (Trees.ListOf es Store)
  list_target es a =
      let w = targeted a in
      record {
        tree = Trees.ListOf w.list Load;
        is = rw w.is refl;
        given = λ l q. list_given n l w.list w.each;
        bare =
            λ q. (λ l. list_given n l w.list w.each, refl);
      }

  pub starred_target : (e : Expr) → not (is_starred e) ≡ true → ATarget n e → ATarget n (Trees.Starred e Store)
  starred_target e h a =
      let w = a.bare (not-true (is_starred e) h) in
      record {
        tree = Trees.Starred a.tree Load;
        is = star_up a.tree e w.1 a.is;
        given = λ l q. starred_at n l q (w.0 Expression);
        bare =
            λ q. absurd (always q);
      }
    where
      always : ◌≡◌ {A = Bool} true false → ⊥
      always h = absurd (cc)

-- ---- Comprehensions.

pub data Clauses (n : Standing) : Comprehensions → Type 0 where
  no_clause : Clauses n no_comprehension
  a_clause : {t e : Expr} {cs : Exprs} {b : Bool} {gs : Comprehensions} → ATarget n t → P.At n Expression e → Each n Expression cs
      → Clauses n gs → Clauses n (a_comprehension t e cs b gs)

record Conditions (n : Standing) (es : Exprs) : Type 0 where
  list : List Expr
  is : exprs list ≡ es
  ifs : GivenAsSpelled n G.Ifs list

abbrev clause : Expr → Expr → List Expr → Bool → Comprehension
clause t e cs b = record { target = t; iter = e; ifs = cs; is_async = b }

record Claused (n : Standing) (gs : Comprehensions) : Type 0 where
  list : List Comprehension
  is : comprehensions list ≡ gs
  comps : GivenAsSpelled n G.Comps list

module _ (n : Standing) where
  conditions : {es : Exprs} → Each n Expression es → Conditions n es
  conditions no_more = record { list = []; is = refl; ifs = ([], refl, G.no_if) }
  conditions (one_more {e = e} f r) =
      let u = at n Or f in
      let w = conditions r in
      record {
        list = e ∷ w.list;
        is = ap (an_expr e) w.is;
        ifs =
            (Word Key.If ∷ (u.0 ++ w.ifs.0), pass_on n u.0 w.ifs.0 u.1 w.ifs.1, G.if_one u.2 w.ifs.2);
      }

  for_clause : (t e : Expr) {cs : List Expr} (b : Bool) → ATarget n t → P.At n Expression e → GivenAsSpelled n G.Ifs cs
      → GivenAsSpelled n G.Comp (clause t e cs b)
  for_clause t e b a f c =
      let u = a.given Stars refl in
      let v = at n Or f in
      let ts = u.0 ++ (Word Key.In ∷ (v.0 ++ c.0)) in
      by b ts (pass_on n u.0 (Word Key.In ∷ (v.0 ++ c.0)) u.1 (pass_on n v.0 c.0 v.1 c.1)) (G.target_in {b = b} u.2 a.is v.2 c.2)
    where
      by : {cs : List Expr} (b : Bool) (ts : List Terminal) → Passed n ts → G.ForIn b ts (clause t e cs b)
          → GivenAsSpelled n G.Comp (clause t e cs b)
      by true ts h p = (Word Key.Async ∷ (Word Key.For ∷ ts), h, G.async_for_in p)
      by false ts h p = (Word Key.For ∷ ts, h, G.for_in p)

  claused_more : (t e : Expr) (cs : Exprs) (b : Bool) (gs : Comprehensions) → ATarget n t → P.At n Expression e → Each n Expression cs
      → Clauses n gs → Claused n (a_comprehension t e cs b gs)
  claused_more t e cs b no_comprehension a f r s =
      let c = conditions r in
      let u = for_clause t e b a f c.ifs in
      record {
        list = clause t e c.list b ∷ [];
        is = ap (λ z. a_comprehension t e z b no_comprehension) c.is;
        comps =
            (u.0, u.1, G.one_comp u.2);
      }
  claused_more t e cs b (a_comprehension t' e' cs' b' gs) a f r (a_clause a' f' r' s) =
      let c = conditions r in
      let u = for_clause t e b a f c.ifs in
      let w = claused_more t' e' cs' b' gs a' f' r' s in
      record {
        list = clause t e c.list b ∷ w.list;
        is = (λ i. a_comprehension t e (c.is i) b (w.is i));
        comps = (u.0 ++ w.comps.0, pass_on n u.0 w.comps.0 u.1 w.comps.1, G.comps u.2 w.comps.2);
      }

  claused : (gs : Comprehensions) → has_some gs ≡ true → Clauses n gs → Claused n gs
  claused no_comprehension h s = absurd (never h)
  claused (a_comprehension t e cs b gs) h (a_clause a f r s) = claused_more t e cs b gs a f r s

  pub generator_given : (l : Level) (e : Expr) (gs : Comprehensions) → has_some gs ≡ true → P.At n Expression e → Clauses n gs
      → P.At n l (Trees.GeneratorExp e gs)
  generator_given l e gs h f s =
      let u = at n Named f in
      let w = claused gs h s in
      lifted n l (subst (λ z. P.At n Atom (Trees.GeneratorExp e z)) w.is (
        Op LPar ∷ (u.0 ++ (w.comps.0 ++ (Op RPar ∷ []))),
        pass_on n u.0 (w.comps.0 ++ (Op RPar ∷ [])) u.1 (pass_on n w.comps.0 (Op RPar ∷ []) w.comps.1 refl),
        G.generator_group u.2 w.comps.2,
      ))

  pub list_comp_given : (l : Level) (e : Expr) (gs : Comprehensions) → has_some gs ≡ true → P.At n Expression e → Clauses n gs
      → P.At n l (Trees.ListComp e gs)
  list_comp_given l e gs h f s =
      let u = at n Named f in
      let w = claused gs h s in
      lifted n l (subst (λ z. P.At n Atom (Trees.ListComp e z)) w.is (
        Op LSqb ∷ (u.0 ++ (w.comps.0 ++ (Op RSqb ∷ []))),
        pass_on n u.0 (w.comps.0 ++ (Op RSqb ∷ [])) u.1 (pass_on n w.comps.0 (Op RSqb ∷ []) w.comps.1 refl),
        G.list_comp u.2 w.comps.2,
      ))

  pub set_comp_given : (l : Level) (e : Expr) (gs : Comprehensions) → has_some gs ≡ true → P.At n Expression e → Clauses n gs
      → P.At n l (Trees.SetComp e gs)
  set_comp_given l e gs h f s =
      let u = at n Named f in
      let w = claused gs h s in
      lifted n l (subst (λ z. P.At n Atom (Trees.SetComp e z)) w.is (
        Op LBrace ∷ (u.0 ++ (w.comps.0 ++ (Op RBrace ∷ []))),
        pass_on n u.0 (w.comps.0 ++ (Op RBrace ∷ [])) u.1
            (pass_on n w.comps.0 (Op RBrace ∷ []) w.comps.1 refl),
        G.set_comp u.2 w.comps.2,
      ))

  pub dict_comp_given : (l : Level) (k e : Expr) (gs : Comprehensions) → has_some gs ≡ true → P.At n Expression k → P.At n Expression e
      → Clauses n gs → P.At n l (Trees.DictComp k e gs)
  dict_comp_given l k e gs h g f s =
      let w = claused gs h s in
      lifted n l (subst (λ z. P.At n Atom (Trees.DictComp k e z)) w.is (
        Op LBrace ∷ (g.0 ++ (Op Colon ∷ (f.0 ++ (w.comps.0 ++ (Op RBrace ∷ []))))),
        pass_on n g.0 (Op Colon ∷ (f.0 ++ (w.comps.0 ++ (Op RBrace ∷ [])))) g.1 (pass_on n f.0 (w.comps.0 ++ (Op RBrace ∷ [])) f.1
            (pass_on n w.comps.0 (Op RBrace ∷ []) w.comps.1 refl)),
        G.dict_comp g.2 f.2 w.comps.2,
      ))
