-- Carries: the law of modules. On: the items of a `with`: where they are written without brackets
-- nothing else reads them.
use Rattle.std.proofs.Common.{◌≡◌, refl, sym, ap, subst, ◌∙◌, ℕ, suc, ◌≤◌, arith, List, [], ◌∷◌, ◌++◌, length, Option, Some, None, Bool}
use Rattle.std.proofs.Common.{true, false}
use Rattle.std.proofs.Common.{cond, append_assoc, append-nil, length-append}
use Rattle.std.specs.Prelude.{map}
use Rattle.pylex_lexeme.specs.declared.kinds.Exact.TheVariants.{LPar, RPar, Comma}
use Rattle.pytoken.specs.declared.keywords.Keyword.TheVariants as Key
use Rattle.pytree_node.specs.declared.operators.Context.TheVariants.{Load}
use Rattle.pygrammar.specs.declared.levels.Level.TheVariants.{StarItem, Expression, Atom, Elem}
use Rattle.pytree_node.specs.Trees
use Rattle.pytree_node.specs.Trees.{Expr, Exprs, no_exprs, an_expr, exprs, Item}
use Rattle.pytoken.specs.Terminals.{Terminal, Op, Word}
use Rattle.pygrammar.specs.Entries.{Of, Single, singles}
use Rattle.pygrammar.specs.Grammar as G
use Rattle.pyunparse_text.specs.Written.{separated, some_named, bracketed, listed, with_comma, written, each}
use Rattle.pyunparse_text.specs.Terminals.{terminal}
use Rattle.pyunparse_text.specs.Statements.{are_plain, reads_as_items, need_brackets, as_target, item_target, item}
use Rattle.pygrammar.specs.Forms as F
use Rattle.pygrammar.proofs.Callers.Law.{expressions_are_unique}
use Rattle.pyunparse_text.proofs.Fewest.Reach.{climb, to_atom, length_bracketed}
use Rattle.pyunparse_text.proofs.Fewest.Counted.{one, AtLeast, none, token, both as joint, fewer, in_brackets}
use Rattle.pyunparse_text.proofs.Fewest.Sizes.{Same, same, at_most}
use Rattle.pyunparse_text.proofs.Fewest.Less.{allowed, total, length_separated, length_with_comma, total_named, step_less}
use Rattle.pyunparse_text.proofs.Fewest.Places.{item_target_law}
use Rattle.pyunparse_text.proofs.Fewest.Induction.{claim}
use Rattle.pyunparse_text.proofs.Modules.Parts.{commas_again, last_comma, none_listed}
use Rattle.pyunparse_text.proofs.Modules.Parts.{again}
use Rattle.pyunparse_text.proofs.Modules.Headers.{ItemsAgain}
use Rattle.pyunparse_text.proofs.Modules.Balanced.{Plain, kind, Runs, ends, on, up, down, Good, good, good_on, good_both}

-- an item from its own terminals
item_again : (ts : List Terminal) (i : Item) → F.ItemOf ts i → F.ItemOf (item terminal i) i
item_again _ _ (F.bare_item {e = e} p) =
    subst (λ z. F.ItemOf z (F.item e None)) (sym (append-nil (written terminal Expression e))) (F.bare_item (again p))
item_again _ _ (F.item_as p q) = F.item_as (again p) (item_target_law q).0

items_of : {ts : List Terminal} {is : List Item} → F.Items ts is → F.Commas Item F.ItemOf (listed terminal (map (item terminal) is)) is
items_of (F.in_brackets (F.bracketed c)) = last_comma Item F.ItemOf (item terminal) item_again c
items_of (F.without c h) = commas_again Item F.ItemOf (item terminal) item_again c

-- brackets and `as`
split : {a : Bool} {n m : ℕ} (xs : List Terminal) {ys : List Terminal} → Runs a n (xs ++ ys) m → (k : ℕ) × Runs a n xs k × Runs a k ys m
split {n = n} [] p = (n, ends, p)
split (x ∷ xs) (on h p) = let w = split xs p in (w.0, on h w.1, w.2)
split (x ∷ xs) (up h p) = let w = split xs p in (w.0, up h w.1, w.2)
split (x ∷ xs) (down h p) = let w = split xs p in (w.0, down h w.1, w.2)

deeper : {a : Bool} {n k : ℕ} {xs : List Terminal} → Runs a n xs k → Runs a (suc n) xs (suc k)
deeper ends = ends
deeper (on h p) = on h (deeper p)
deeper (up h p) = up h (deeper p)
deeper (down h p) = down h (deeper p)

same_end : {a : Bool} {n k m : ℕ} {xs : List Terminal} → Runs a n xs k → Runs a n xs m → k ≡ m
same_end ends ends = refl
same_end (on h p) (on g q) = same_end p q
same_end (on h p) (up g q) = absurd (cc)
same_end (on h p) (down g q) = absurd (cc)
same_end (up h p) (on g q) = absurd (cc)
same_end (up h p) (up g q) = same_end p q
same_end (up h p) (down g q) = absurd (cc)
same_end (down h p) (on g q) = absurd (cc)
same_end (down h p) (up g q) = absurd (cc)
same_end (down h p) (down g q) = same_end p q

opened : {a : Bool} {n m : ℕ} {xs : List Terminal} → Runs a n (Op LPar ∷ xs) m → Runs a (suc n) xs m
opened (on h p) = absurd (cc)
opened (up h p) = p
opened (down h p) = absurd (cc)

passed : {a : Bool} {n m : ℕ} {xs : List Terminal} → Runs a n (Op Comma ∷ xs) m → Runs a n xs m
passed (on h p) = p
passed (up h p) = absurd (cc)
passed (down h p) = absurd (cc)

no_as : {n m : ℕ} {xs : List Terminal} → Runs true n (Word Key.As ∷ xs) m → ⊥
no_as (on h p) = absurd (cc)
no_as (up h p) = absurd (cc)
no_as (down h p) = absurd (cc)

-- all but the last one
front : (us xs : List Terminal) (z t : Terminal) (ws : List Terminal) → us ++ (z ∷ []) ≡ xs ++ (t ∷ ws)
    → (vs : List Terminal) × (us ≡ xs ++ vs)
front us [] z t ws h = (us, refl)
front [] (x ∷ []) z t ws h = absurd (cc)
front [] (x ∷ (y ∷ xs)) z t ws h = absurd (cc)
front (u ∷ us) (x ∷ xs) z t ws h = let w = front us xs z t ws (cc) in (w.0, cc (w.1))

target_good : {ts : List Terminal} {s : Expr} → G.ItemTarget ts s → Good false ts
target_good (G.item_target p h) = good false p
target_good (G.star_target p h) = good_on refl (good false p)

item_good : {ts : List Terminal} {i : Item} → F.ItemOf ts i → Good false ts
item_good (F.bare_item p) = good false p
item_good (F.item_as p q) = good_both (good false p) (good_on refl (target_good q))

items_good : {ts : List Terminal} {is : List Item} → F.Commas Item F.ItemOf ts is → Good false ts
items_good (F.alone p) = item_good p
items_good (F.comma p c) = good_both (item_good p) (good_on refl (items_good c))

all_good : {ts : List Terminal} {is : List Item} → F.Commas? Item F.ItemOf ts is → Good false ts
all_good (F.ends_bare c) = items_good c
all_good (F.ends_comma c) = good_both (items_good c) (good_on refl (record { at = λ n. ends }))

-- brackets that end after an expression don't end after all
early : (xs : List Terminal) {e : Expr} (t : Terminal) (ws us : List Terminal) → G.Derives Expression xs e → kind false t ≡ Plain
    → xs ++ (t ∷ ws) ≡ Op LPar ∷ (us ++ (Op RPar ∷ [])) → Good false us → ⊥
early [] t ws us p k h g = absurd (cc)
early (x ∷ xs) t ws us p k h g =
    let w = front us xs (Op RPar) t ws (cc) in
    let r = split xs (subst (λ z. Runs false 0 z 0) w.1 (g.at 0)) in
    let a : Runs false 0 (Op LPar ∷ xs) 0 = subst (λ z. Runs false 0 (z ∷ xs) 0) (cc) ((good false p).at 0) in
    absurd (cc (same_end (opened a) (deeper r.1)))

-- items without targets are expressions, and in brackets a group or a Tuple
record Bare (us : List Terminal) : Type 0 where
  es : List Expr
  is : F.Commas Expr (G.Derives Expression) us es

bare : {us : List Terminal} {is : List Item} → F.Commas Item F.ItemOf us is → (n m : ℕ) → Runs true n us m → Bare us
bare (F.alone (F.bare_item {e = e} p)) n m r = record { es = e ∷ []; is = F.alone p }
bare (F.alone (F.item_as {ts = ts} p q)) n m r = absurd (no_as (split ts r).2)
bare (F.comma {ts = ts} (F.bare_item {e = e} p) c) n m r = let v = split ts r in let w = bare c v.0 m (passed v.2) in
    record { es = e ∷ w.es; is = F.comma p w.is }
bare (F.comma {us = us} (F.item_as {ts = ts} {us = vs} p q) c) n m r =
    absurd (no_as (split ts (subst (λ z. Runs true n z m) (append_assoc ts (Word Key.As ∷ vs) (Op Comma ∷ us)) r)).2)

listing : {us : List Terminal} {es : List Expr} → F.Commas Expr (G.Derives Expression) us es → G.Listing (Of Elem) us (map Single es)
listing (F.alone p) = G.last_item (G.single (G.next (G.next p)))
listing (F.comma p c) = G.item (G.single (G.next (G.next p))) (listing c)

listing_comma : {us : List Terminal} {es : List Expr} → F.Commas Expr (G.Derives Expression) us es
    → G.Listing (Of Elem) (us ++ (Op Comma ∷ [])) (map Single es)
listing_comma (F.alone p) = G.item (G.single (G.next (G.next p))) G.no_item
listing_comma (F.comma {ts = ts} {us = us} {a = a} {as_ = as_} p c) =
    subst (λ z. G.Listing (Of Elem) z (Single a ∷ map Single as_)) (sym (append_assoc ts (Op Comma ∷ us) (Op Comma ∷ [])))
    (G.item (G.single (G.next (G.next p))) (listing_comma c))

singles_are : (es : List Expr) → singles (map Single es) ≡ exprs es
singles_are [] = refl
singles_are (e ∷ es) = ap (an_expr e) (singles_are es)

-- sizes
shortest : {ts : List Terminal} {e : Expr} → G.Derives Expression ts e → AtLeast (written one Expression e) ts
shortest p = (claim p).short

-- what a list with one expression more has
cons_most : (ms : List (Unit {0})) (mss : List (List (Unit {0})))
    → length (separated tt (ms ∷ mss)) ≤ length (ms ++ (tt ∷ separated tt mss))
cons_most ms mss = omega (arith, length_separated tt (ms ∷ mss), length_separated tt mss, length-append ms (tt ∷ separated tt mss))

commas_short : {us : List Terminal} {es : List Expr} → F.Commas Expr (G.Derives Expression) us es
    → AtLeast (separated tt (each one Expression (exprs es))) us
unfolding each
commas_short (F.alone p) = shortest p
commas_short (F.comma {a = a} {as_ = as_} p c) =
    fewer (cons_most (written one Expression a) (each one Expression (exprs as_))) (joint (shortest p) (token refl (commas_short c)))

star_short : {us : List Terminal} {es : List Expr} → F.Commas Expr (G.Derives Expression) us es
    → total (each one StarItem (exprs es)) ≤ total (each one Expression (exprs es))
unfolding each
star_short (F.alone {a = a} p) = omega (arith, step_less StarItem a (claim p).place)
star_short (F.comma {a = a} p c) = omega (arith, step_less StarItem a (claim p).place, star_short c)

first_named : (e : Expr) (z : Exprs) → allowed Expression e ≡ true → are_plain (an_expr e z) ≡ false
    → (are_plain z ≡ false → some_named z ≡ true)
    → some_named (an_expr e z) ≡ true
first_named (Trees.Starred e c) z p h f = absurd (cc)
first_named (Trees.NamedExpr t e) z p h f = refl
first_named _ z p h f = f h

some_are_named : {us : List Terminal} {es : List Expr} → F.Commas Expr (G.Derives Expression) us es → are_plain (exprs es) ≡ false
    → some_named (exprs es) ≡ true
some_are_named (F.alone {a = a} p) h = first_named a no_exprs (claim p).place h (λ g. absurd (cc))
some_are_named (F.comma {a = a} {as_ = as_} p c) h = first_named a (exprs as_) (claim p).place h (λ g. some_are_named c g)

-- a Tuple in such brackets, and its size
record Inside (us : List Terminal) : Type 0 where
  e : Expr
  es : List Expr
  is : G.Derives Atom (Op LPar ∷ (us ++ (Op RPar ∷ []))) (Trees.Tuple (an_expr e (exprs es)) Load)
  size : AtLeast (with_comma one (each one Expression (an_expr e (exprs es)))) us
  stars : total (each one StarItem (an_expr e (exprs es))) ≤ total (each one Expression (an_expr e (exprs es)))
  named : are_plain (an_expr e (exprs es)) ≡ false → some_named (an_expr e (exprs es)) ≡ true

in_tuple : {ts us : List Terminal} {e : Expr} (es : List Expr) → G.Derives Expression ts e → G.Listing (Of Elem) us (map Single es)
    → G.Derives Atom (Op LPar ∷ ((ts ++ (Op Comma ∷ us)) ++ (Op RPar ∷ []))) (Trees.Tuple (an_expr e (exprs es)) Load)
in_tuple {ts} {us} {e} es p c =
    subst (λ z. G.Derives Atom (Op LPar ∷ z) (Trees.Tuple (an_expr e (exprs es)) Load))
    (sym (append_assoc ts (Op Comma ∷ us) (Op RPar ∷ [])))
    (subst (λ z. G.Derives Atom (Op LPar ∷ (ts ++ (Op Comma ∷ (us ++ (Op RPar ∷ []))))) (Trees.Tuple (an_expr e z) Load)) (singles_are es)
    (G.tuple (G.next (G.next p)) c))

pair_inside : {ts us : List Terminal} {e : Expr} {es : List Expr} → G.Derives Expression ts e → F.Commas Expr (G.Derives Expression) us es
    → Inside (ts ++ (Op Comma ∷ us))
unfolding each
pair_inside {ts} {us} {e} {es} p c = record {
  e = e;
  es = es;
  is = in_tuple es p (listing c);
  size = joint (shortest p) (token refl (commas_short c));
  stars = star_short (F.comma p c);
  named = λ h. some_are_named (F.comma p c) h;
}

comma_inside : {us : List Terminal} {es : List Expr} → F.Commas Expr (G.Derives Expression) us es → Inside (us ++ (Op Comma ∷ []))
unfolding each
comma_inside (F.alone {ts = ts} {a = a} p) = record {
  e = a;
  es = [];
  is = in_tuple [] p G.no_item;
  size = joint (shortest p) (token refl none);
  stars = star_short (F.alone p);
  named = λ h. some_are_named (F.alone p) h;
}
comma_inside (F.comma {ts = ts} {us = us} {a = a} {as_ = as_} p c) = record {
  e = a;
  es = as_;
  is = subst (λ z. G.Derives Atom (Op LPar ∷ (z ++ (Op RPar ∷ []))) (Trees.Tuple (an_expr a (exprs as_)) Load))
      (sym (append_assoc ts (Op Comma ∷ us) (Op Comma ∷ []))) (in_tuple as_ p (listing_comma c));
  size = fewer (omega (arith, length-append (written one Expression a ++ (tt ∷ separated tt (each one Expression (exprs as_)))) (tt ∷ [])))
      (joint (joint (shortest p) (token refl (commas_short c))) (token refl none));
  stars = star_short (F.comma p c);
  named = λ h. some_are_named (F.comma p c) h;
}

-- a Tuple
not_tuple : {us : List Terminal} {e : Expr} → Inside us → G.Derives Expression (written terminal Expression e) e
    → written terminal Expression e ≡ Op LPar ∷ (us ++ (Op RPar ∷ [])) → reads_as_items e None ≡ false → ⊥
unfolding written each
not_tuple {us} {e} w p q h =
    let f : e ≡ Trees.Tuple (an_expr w.e (exprs w.es)) Load =
    expressions_are_unique Expression _ _ _ p
    (climb Expression Atom (to_atom Expression)
    (subst (λ z. G.Derives Atom z (Trees.Tuple (an_expr w.e (exprs w.es)) Load)) (sym q) w.is)) in
    let g : some_named (an_expr w.e (exprs w.es)) ≡ true = w.named (subst (λ z. reads_as_items z None ≡ false) f h) in
    let t : Expr = Trees.Tuple (an_expr w.e (exprs w.es)) Load in
    let s : Same (written one Expression t) (Op LPar ∷ (us ++ (Op RPar ∷ []))) =
    subst (Same (written one Expression t)) (sym (ap (written terminal Expression) f) ∙ q) (same Expression t) in
    let ms : List (Unit {0}) = with_comma one (each one Expression (an_expr w.e (exprs w.es))) in
    let k : length (tt ∷ (ms ++ (tt ∷ []))) ≤ length (written one Expression t) = at_most s (in_brackets LPar RPar w.size) in
    omega (
      arith,
      k,
      length-append ms (tt ∷ []),
      length_bracketed (with_comma one (each one Elem (an_expr w.e (exprs w.es)))),
      length_with_comma (written one Elem w.e) (each one Elem (exprs w.es)),
      length_with_comma (written one Expression w.e) (each one Expression (exprs w.es)),
      w.stars,
      total_named (an_expr w.e (exprs w.es)) g,
    )

-- a group
not_group : {us : List Terminal} {e f : Expr} → G.Derives Expression us f → G.Derives Expression (written terminal Expression e) e
    → written terminal Expression e ≡ Op LPar ∷ (us ++ (Op RPar ∷ [])) → ⊥
not_group {us} {e} {f} d p q =
    let g : e ≡ f =
    expressions_are_unique Expression _ _ _ p
    (climb Expression Atom (to_atom Expression) (subst (λ z. G.Derives Atom z f) (sym q) (G.group (G.next d)))) in
    let s : Same (written one Expression e) (Op LPar ∷ (us ++ (Op RPar ∷ []))) =
    subst (Same (written one Expression e)) q (same Expression e) in
    omega (
      arith,
      at_most s (in_brackets LPar RPar (shortest (subst (G.Derives Expression us) (sym g) d))),
      length-append (written one Expression e)
          (tt ∷ []),
    )

not_alone : {us : List Terminal} {es : List Expr} {e : Expr} → F.Commas Expr (G.Derives Expression) us es
    → G.Derives Expression (written terminal Expression e) e → written terminal Expression e ≡ Op LPar ∷ (us ++ (Op RPar ∷ []))
    → reads_as_items e None ≡ false → ⊥
not_alone (F.alone d) p q h = not_group d p q
not_alone (F.comma d c) p q h = not_tuple (pair_inside d c) p q h

-- from the brackets of other items
inner : {us : List Terminal} {xs : List Terminal} {e : Expr} → G.Derives Expression xs e → xs ≡ Op LPar ∷ (us ++ (Op RPar ∷ []))
    → (k : ℕ) × Runs true 1 us k
inner {us} {xs} p q = let w = split us (opened (subst (λ z. Runs true 0 z 0) q ((good true p).at 0))) in (w.0, w.1)

not_items : {us : List Terminal} {others : List Item} {e : Expr} → F.Commas? Item F.ItemOf us others
    → G.Derives Expression (written terminal Expression e) e → written terminal Expression e ≡ Op LPar ∷ (us ++ (Op RPar ∷ []))
    → reads_as_items e None ≡ false → ⊥
not_items (F.ends_bare c) p q h = not_alone (bare c 1 (inner p q).0 (inner p q).1).is p q h
not_items (F.ends_comma {ts = ts} c) p q h =
    not_tuple (comma_inside (bare c 1 (split ts (inner p q).1).0 (split ts (inner p q).1).1).is) p q h

not_bracketed : {ts : List Terminal} {others : List Item} {e : Expr} → F.Bracketed ts others
    → G.Derives Expression (written terminal Expression e) e
    → written terminal Expression e ≡ ts → reads_as_items e None ≡ false → ⊥
not_bracketed (F.bracketed c) p q h = not_items c p q h

not_early : {ts : List Terminal} {others : List Item} {xs : List Terminal} {e : Expr} (t : Terminal) (ws : List Terminal)
    → F.Bracketed ts others
    → G.Derives Expression xs e → kind false t ≡ Plain → xs ++ (t ∷ ws) ≡ ts → ⊥
not_early {xs = xs} t ws (F.bracketed {ts = us} c) p k q = early xs t ws us p k q (all_good c)

front_of : {ts : List Terminal} {i : Item} → F.ItemOf ts i
    → G.Derives Expression (written terminal Expression i.context_expr) i.context_expr
front_of (F.bare_item p) = again p
front_of (F.item_as p q) = again p

not_with_target : {others : List Item} (e : Expr) (o : Option Expr) → G.Derives Expression (written terminal Expression e) e
    → reads_as_items e o ≡ false → F.Bracketed (written terminal Expression e ++ as_target terminal o) others → ⊥
not_with_target e None p h b = not_bracketed b p (sym (append-nil (written terminal Expression e))) h
not_with_target e (Some t) p h b = not_early _ _ b p refl refl

not_two : {others : List Item} (e : Expr) (o : Option Expr) (ws : List Terminal) → G.Derives Expression (written terminal Expression e) e
    → F.Bracketed ((written terminal Expression e ++ as_target terminal o) ++ (Op Comma ∷ ws)) others → ⊥
not_two e None ws p b = not_early _ _ b p refl (ap (λ z. z ++ (Op Comma ∷ ws)) (sym (append-nil (written terminal Expression e))))
not_two e (Some t) ws p b =
    not_early _ _ b p refl (sym (append_assoc (written terminal Expression e) (Word Key.As ∷ item_target terminal t) (Op Comma ∷ ws)))

no_other : (is : List Item) → F.Commas Item F.ItemOf (listed terminal (map (item terminal) is)) is
    → need_brackets is ≡ false → (others : List Item)
    → F.Bracketed (listed terminal (map (item terminal) is)) others → ⊥
no_other [] c h others b = absurd (none_listed Item F.ItemOf (item terminal) item_again c refl)
no_other (i ∷ []) c h others b = not_with_target i.context_expr i.optional_vars (front_of (only c)) h b
  where
    only : {ts : List Terminal} {i : Item} → F.Commas Item F.ItemOf ts (i ∷ []) → F.ItemOf ts i
    only (F.alone p) = p
    only (F.comma p c) = absurd (none_listed Item F.ItemOf (item terminal) item_again c refl)
no_other (i ∷ (j ∷ is)) c h others b = not_two i.context_expr i.optional_vars (listed terminal (map (item terminal) (j ∷ is))) (first c) b
  where
    first : {ts : List Terminal} {i : Item} {is : List Item} → F.Commas Item F.ItemOf ts (i ∷ is)
        → G.Derives Expression (written terminal Expression i.context_expr) i.context_expr
    first (F.alone p) = front_of p
    first (F.comma p c) = front_of p

pub items_again : ItemsAgain
items_again ts is p = by (need_brackets is) refl
  where
    by : (b : Bool) → need_brackets is ≡ b
        → F.Items (cond b (bracketed terminal (listed terminal (map (item terminal) is))) (listed terminal (map (item terminal) is))) is
    by true h = F.in_brackets (F.bracketed (F.ends_bare (items_of p)))
    by false h = F.without (items_of p) (no_other is (items_of p) h)
