-- Calls: the order of arguments, and a generator alone.
--
-- Carries: call_claim, sorted, sorted_in_order, sorted_positional and 7 more, for Places,
-- Induction, Derived. On: Entries, Claims, Reach, Less and 1 more.
use Rattle.std.proofs.Common.{◌≡◌, refl, sym, ap, subst, ◌∙◌, ◌+◌, ◌≤◌, arith, List, [], ◌∷◌, ◌++◌, length, Some, None, Bool, true, false}
use Rattle.std.proofs.Common.{cond}
use Rattle.std.proofs.Common.{length-append}
use Rattle.std.specs.Prelude.{map}
use Rattle.std.proofs.lemmas.List.{map-append}
use Rattle.pylex_lexeme.specs.declared.kinds.Exact.TheVariants.{LPar, RPar, Comma, Star, Equal, DoubleStar}
use Rattle.pytree_node.specs.declared.operators.Context.TheVariants.{Load}
use Rattle.pygrammar.specs.declared.levels.Level.TheVariants.{Named, Expression, Primary}
use Rattle.pytree_node.specs.Trees
use Rattle.pytree_node.specs.Trees.{Expr, Exprs, no_exprs, an_expr, Comprehensions, Keywords, no_keyword, a_keyword, Identifier}
use Rattle.pytoken.specs.Terminals.{Terminal, Op, in_form}
use Rattle.pygrammar.specs.Entries.{Item, Argument, Entry, Single, Paired, Spread, Doubled, Keyed, Plain, Slashed, Bare, Gathered}
use Rattle.pygrammar.specs.Entries.{Collected}
use Rattle.pygrammar.specs.Arguments.{in_order, positional, keywords, called}
use Rattle.pygrammar.specs.Grammar as G
use Rattle.pyunparse_text.specs.Written.{Maker, separated, free, leading, tight, bracketed, written, each, by_name, clauses}
use Rattle.pyunparse_text.specs.Terminals.{terminal}
use Rattle.pyunparse_text.proofs.Fewest.Counted.{one as marks, AtLeast, both, fewer, in_brackets}
use Rattle.pyunparse_text.proofs.Fewest.Reach.{deep_primary}
use Rattle.pyunparse_text.proofs.Fewest.Less.{total, length_separated}
use Rattle.pyunparse_text.proofs.Fewest.Claims.{Inside, Claim, here, node}
use Rattle.pyunparse_text.proofs.Fewest.Clauses.{lone_text, lone_length}
use Rattle.pyunparse_text.proofs.Fewest.Entries.{entry, entry_in, entry_marks, Standing, Standings, none, one, ListingClaim, listing_of}

-- plain and starred ones, then the others
abbrev pub firsts : List Entry → List Entry
firsts [] = []
firsts (Single e ∷ es) = Single e ∷ firsts es
firsts (Spread e ∷ es) = Spread e ∷ firsts es
firsts (_ ∷ es) = firsts es

abbrev pub lasts : List Entry → List Entry
lasts [] = []
lasts (Keyed x e ∷ es) = Keyed x e ∷ lasts es
lasts (Doubled e ∷ es) = Doubled e ∷ lasts es
lasts (_ ∷ es) = lasts es

abbrev pub sorted : List Entry → List Entry
sorted es = firsts es ++ lasts es

keyed_next : (k d : Bool) (x : Identifier) (e : Expr) (es : List Entry) → in_order k d (Keyed x e ∷ es) ≡ in_order true d es
keyed_next false false x e es = refl
keyed_next false true x e es = refl
keyed_next true false x e es = refl
keyed_next true true x e es = refl

doubled_next : (k d : Bool) (e : Expr) (es : List Entry) → in_order k d (Doubled e ∷ es) ≡ in_order true true es
doubled_next false false e es = refl
doubled_next false true e es = refl
doubled_next true false e es = refl
doubled_next true true e es = refl

none_next : (k d : Bool) → in_order k d [] ≡ true
none_next false false = refl
none_next false true = refl
none_next true false = refl
none_next true true = refl

lasts_in_order : (k d : Bool) (es : List Entry) → in_order k d (lasts es) ≡ true
lasts_in_order k d [] = none_next k d
lasts_in_order k d (Keyed x e ∷ es) = keyed_next k d x e (lasts es) ∙ lasts_in_order true d es
lasts_in_order k d (Doubled e ∷ es) = doubled_next k d e (lasts es) ∙ lasts_in_order true true es
lasts_in_order k d (Single e ∷ es) = lasts_in_order k d es
lasts_in_order k d (Paired a b ∷ es) = lasts_in_order k d es
lasts_in_order k d (Spread e ∷ es) = lasts_in_order k d es
lasts_in_order k d (Plain a b ∷ es) = lasts_in_order k d es
lasts_in_order k d (Slashed ∷ es) = lasts_in_order k d es
lasts_in_order k d (Bare ∷ es) = lasts_in_order k d es
lasts_in_order k d (Gathered a ∷ es) = lasts_in_order k d es
lasts_in_order k d (Collected a ∷ es) = lasts_in_order k d es

pub sorted_in_order : (es fs : List Entry) → in_order false false (firsts es ++ lasts fs) ≡ true
sorted_in_order [] fs = lasts_in_order false false fs
sorted_in_order (Single e ∷ es) fs = sorted_in_order es fs
sorted_in_order (Spread e ∷ es) fs = sorted_in_order es fs
sorted_in_order (_ ∷ es) fs = sorted_in_order es fs

lasts_positional : (es : List Entry) → positional (lasts es) ≡ no_exprs
lasts_positional [] = refl
lasts_positional (Keyed x e ∷ es) = lasts_positional es
lasts_positional (Doubled e ∷ es) = lasts_positional es
lasts_positional (_ ∷ es) = lasts_positional es

pub sorted_positional : (es fs : List Entry) → positional (firsts es ++ lasts fs) ≡ positional es
sorted_positional [] fs = lasts_positional fs
sorted_positional (Single e ∷ es) fs = ap (an_expr e) (sorted_positional es fs)
sorted_positional (Spread e ∷ es) fs = ap (an_expr (Trees.Starred e Load)) (sorted_positional es fs)
sorted_positional (_ ∷ es) fs = sorted_positional es fs

lasts_keywords : (es : List Entry) → keywords (lasts es) ≡ keywords es
lasts_keywords [] = refl
lasts_keywords (Keyed x e ∷ es) = ap (a_keyword (Some x) e) (lasts_keywords es)
lasts_keywords (Doubled e ∷ es) = ap (a_keyword None e) (lasts_keywords es)
lasts_keywords (_ ∷ es) = lasts_keywords es

pub sorted_keywords : (es fs : List Entry) → keywords (firsts es ++ lasts fs) ≡ keywords fs
sorted_keywords [] fs = lasts_keywords fs
sorted_keywords (Single e ∷ es) fs = sorted_keywords es fs
sorted_keywords (Spread e ∷ es) fs = sorted_keywords es fs
sorted_keywords (_ ∷ es) fs = sorted_keywords es fs

firsts_written : {A : Type 0} (make : Maker A) (es : List Entry)
    → each make Named (positional es) ≡ map (entry_in make Argument) (firsts es)
unfolding each written
firsts_written make [] = refl
firsts_written make (Single e ∷ es) = ap (λ z. written make Named e ∷ z) (firsts_written make es)
firsts_written make (Spread e ∷ es) = ap (λ z. (leading make Star ∷ written make Expression e) ∷ z) (firsts_written make es)
firsts_written make (_ ∷ es) = firsts_written make es

lasts_written : {A : Type 0} (make : Maker A) (es : List Entry) → by_name make (keywords es) ≡ map (entry_in make Argument) (lasts es)
unfolding by_name
lasts_written make [] = refl
lasts_written make (Keyed x e ∷ es) =
    ap (λ z. (free make (in_form x) ∷ (tight make Equal ∷ written make Expression e)) ∷ z) (lasts_written make es)
lasts_written make (Doubled e ∷ es) = ap (λ z. (leading make DoubleStar ∷ written make Expression e) ∷ z) (lasts_written make es)
lasts_written make (_ ∷ es) = lasts_written make es

pub sorted_written : {A : Type 0} (make : Maker A) (es : List Entry)
    → each make Named (positional es) ++ by_name make (keywords es) ≡ map (entry_in make Argument) (sorted es)
sorted_written make es =
    ap (λ z. z ++ by_name make (keywords es)) (firsts_written make es)
    ∙ ap (λ z. map (entry_in make Argument) (firsts es) ++ z) (lasts_written make es)
    ∙ sym (map-append (entry_in make Argument) (firsts es) (lasts es))

total_append : (xs ys : List (List (Unit {0}))) → total (xs ++ ys) ≡ total xs + total ys
total_append [] ys = omega arith
total_append (x ∷ xs) ys = omega (arith, total_append xs ys)

sorted_total : (es : List Entry)
    → total (map (entry_marks Argument) (firsts es)) + total (map (entry_marks Argument) (lasts es)) ≤ total (map (entry_marks Argument) es)
sorted_total [] = omega arith
sorted_total (Single e ∷ es) = omega (arith, sorted_total es)
sorted_total (Spread e ∷ es) = omega (arith, sorted_total es)
sorted_total (Keyed x e ∷ es) = omega (arith, sorted_total es)
sorted_total (Doubled e ∷ es) = omega (arith, sorted_total es)
sorted_total (_ ∷ es) = omega (arith, sorted_total es)

pub sorted_short : (es : List Entry)
    → length (separated tt (map (entry_marks Argument) (sorted es))) ≤ length (separated tt (map (entry_marks Argument) es))
sorted_short es =
    rw (map-append (entry_marks Argument) (firsts es) (lasts es))
    (omega (
      arith,
      length_separated tt (map (entry_marks Argument) (firsts es) ++ map (entry_marks Argument)
          (lasts es)),
      length_separated tt (map (entry_marks Argument) es),
      total_append (map (entry_marks Argument) (firsts es))
          (map (entry_marks Argument) (lasts es)),
      sorted_total es,
    ))

pub appended : {i : Item} {es fs : List Entry} → Standings i es → Standings i fs → Standings i (es ++ fs)
appended none r = r
appended (one s q) r = one s (appended q r)

first_standing : (e : Entry) (es : List Entry) → Standing Argument e → Standings Argument (firsts es) → Standings Argument (firsts (e ∷ es))
first_standing (Single e) es s r = one s r
first_standing (Spread e) es s r = one s r
first_standing _ es s r = r

last_standing : (e : Entry) (es : List Entry) → Standing Argument e → Standings Argument (lasts es) → Standings Argument (lasts (e ∷ es))
last_standing (Keyed x e) es s r = one s r
last_standing (Doubled e) es s r = one s r
last_standing _ es s r = r

pub firsts_standing : {es : List Entry} → Standings Argument es → Standings Argument (firsts es)
firsts_standing none = none
firsts_standing (one {e = e} {es = es} s r) = first_standing e es s (firsts_standing r)

pub lasts_standing : {es : List Entry} → Standings Argument es → Standings Argument (lasts es)
lasts_standing none = none
lasts_standing (one {e = e} {es = es} s r) = last_standing e es s (lasts_standing r)

-- a generator alone
abbrev LoneInside : Exprs → Type 0
LoneInside (an_expr (Trees.GeneratorExp e cs) no_exprs) = Inside (Trees.GeneratorExp e cs)
LoneInside _ = Unit {0}

lone_first : (e : Expr) (z : Exprs) → Inside e → LoneInside (an_expr e z)
lone_first (Trees.GeneratorExp e cs) no_exprs i = i
lone_first _ _ i = tt

lone_grown : (e : Entry) (es : List Entry) → Standing Argument e → LoneInside (positional es) → LoneInside (positional (e ∷ es))
lone_grown (Single e) es s r = lone_first e (positional es) s.0.inside
lone_grown (Spread e) es s r = tt
lone_grown _ es s r = r

lone_inside : {es : List Entry} → Standings Argument es → LoneInside (positional es)
lone_inside none = tt
lone_inside (one {e = e} {es = es} s r) = lone_grown e es s (lone_inside r)

-- a call by its parts
abbrev argument_marks : Exprs → Keywords → List (Unit {0})
argument_marks zs ks = separated tt (each marks Named zs ++ by_name marks ks)

lone_node : (f e : Expr) (cs : Comprehensions) (ts : List Terminal) → G.Derives Primary (written terminal Primary f) f
    → Inside (Trees.GeneratorExp e cs)
    → AtLeast (written marks Primary f ++ (tt ∷ (argument_marks (an_expr (Trees.GeneratorExp e cs) no_exprs) no_keyword ++ (tt ∷ [])))) ts
    → Claim Primary ts (Trees.Call f (an_expr (Trees.GeneratorExp e cs) no_exprs) no_keyword)
lone_node f e cs ts p (gs, q, d, c) s =
    let ms : List (Unit {0}) = written marks Named e ++ (clauses marks cs ++ (tt ∷ [])) in
    let xs : List (Unit {0}) = argument_marks (an_expr (Trees.GeneratorExp e cs) no_exprs) no_keyword in
    node Primary _ (written terminal Primary f ++ (Op LPar ∷ (written terminal Named e ++ (clauses terminal cs ++ (Op RPar ∷ []))))) ts
    (written marks Primary f ++ (tt ∷ ms))
    (lone_text terminal f e cs) (lone_text marks f e cs Primary) refl tt
    (subst (λ z. G.Derives Primary
    (written terminal Primary f ++ (Op LPar ∷ (written terminal Named e ++ (clauses terminal cs ++ (Op RPar ∷ [])))))
    (Trees.Call f (an_expr (Trees.GeneratorExp e z) no_exprs) no_keyword)) (sym q) (G.call_generator p d c)) deep_primary.named
    (fewer (omega (
      arith,
      lone_length e cs,
      length-append (written marks Primary f) (tt ∷ ms),
      length-append (written marks Primary f)
          (tt ∷ (xs ++ (tt ∷ []))),
      length-append xs (tt ∷ []),
    )) s)

call_node : (f : Expr) (zs : Exprs) (ks : Keywords) (ts : List Terminal) → G.Derives Primary (written terminal Primary f) f → LoneInside zs
    → G.Derives Primary (written terminal Primary f ++ bracketed terminal
    (separated (Op Comma) (each terminal Named zs ++ by_name terminal ks))) (Trees.Call f zs ks)
    → AtLeast (written marks Primary f ++ (tt ∷ (argument_marks zs ks ++ (tt ∷ [])))) ts → Claim Primary ts (Trees.Call f zs ks)
unfolding written
call_node f (an_expr (Trees.GeneratorExp e cs) no_exprs) no_keyword ts p i r s = lone_node f e cs ts p i s
call_node f zs ks ts p i r s = node Primary _ _ ts _ (λ m. refl) refl refl tt r deep_primary.named s

pub called_is : (f e : Expr) (es : List Entry) → called f es ≡ Some e → Trees.Call f (positional es) (keywords es) ≡ e
called_is f e es h = by (in_order false false es) h
  where
    by : (b : Bool) → cond b (Some (Trees.Call f (positional es) (keywords es))) None ≡ Some e
        → Trees.Call f (positional es) (keywords es) ≡ e
    by true h = cc
    by false h = absurd (cc)

called_sorted : (f : Expr) (es : List Entry) → called f (sorted es) ≡ Some (Trees.Call f (positional es) (keywords es))
called_sorted f es = rw (sorted_in_order es es, sorted_positional es es, sorted_keywords es es) refl

pub call_claim : {ts us : List Terminal} {f e : Expr} {es : List Entry} → Claim Primary ts f
    → ListingClaim Argument us es → called f es ≡ Some e
    → Claim Primary (ts ++ (Op LPar ∷ (us ++ (Op RPar ∷ [])))) e
call_claim {ts} {us} {f} {e} {es} p c h =
    let d : G.Derives Primary (written terminal Primary f ++ bracketed terminal (separated (Op Comma) (map (entry Argument) (sorted es))))
    (Trees.Call f (positional es) (keywords es)) =
    G.call (here p) (listing_of (appended (firsts_standing c.standing) (lasts_standing c.standing))) (called_sorted f es) in
    let d2 : G.Derives Primary (written terminal Primary f ++ bracketed terminal
    (separated (Op Comma) (each terminal Named (positional es) ++ by_name terminal (keywords es))))
    (Trees.Call f (positional es) (keywords es)) =
    subst (λ z. G.Derives Primary (written terminal Primary f ++ bracketed terminal (separated (Op Comma) z))
    (Trees.Call f (positional es) (keywords es))) (sym (sorted_written terminal es)) d in
    let s : AtLeast (argument_marks (positional es) (keywords es)) us =
    subst (λ z. AtLeast (separated tt z) us) (sym (sorted_written marks es)) (fewer (sorted_short es) c.short) in
    subst (λ x. Claim Primary (ts ++ (Op LPar ∷ (us ++ (Op RPar ∷ [])))) x) (called_is f e es h)
    (call_node f (positional es) (keywords es) _ (here p) (lone_inside c.standing) d2 (both p.short (in_brackets LPar RPar s)))
