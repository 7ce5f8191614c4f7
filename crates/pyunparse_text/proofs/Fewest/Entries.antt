-- Lists: their entries, tuples, displays, calls, comprehensions.
--
-- Carries: entry, ListingClaim, listing_of, PieceClaim and 22 more, for Induction, Calls, Params,
-- Places and 1 more. On: Less, Claims, Reach.
use Rattle.std.proofs.Common.{◌≡◌, refl, sym, ap, subst, ◌≤◌, arith, List, [], ◌∷◌, ◌++◌, length, Bool, true, false, append_assoc}
use Rattle.std.proofs.Common.{length-append}
use Rattle.std.specs.Prelude.{not, map}
use Rattle.std.proofs.lemmas.Bool.{not-true}
use Rattle.pylex_lexeme.specs.declared.kinds.Exact.TheVariants.{LPar, RPar, LSqb, RSqb, LBrace, RBrace, Colon, Comma, Star, Slash, Equal}
use Rattle.pylex_lexeme.specs.declared.kinds.Exact.TheVariants.{DoubleStar}
use Rattle.pytree_node.specs.declared.operators.Context.TheVariants.{Load}
use Rattle.pygrammar.specs.declared.levels.Level.{Level}
use Rattle.pygrammar.specs.declared.levels.Level.TheVariants.{Value, Stars, StarItem, Named, Expression, BitOr, Atom, Elem, Slices, Part}
use Rattle.pygrammar.specs.declared.levels.Level.TheVariants.{Subject}
use Rattle.pytree_node.specs.Trees
use Rattle.pytree_node.specs.Trees.{Expr, Exprs, no_exprs, an_expr, arg}
use Rattle.pytoken.specs.Terminals.{Terminal, Op, Ident, in_form, Spelled}
use Rattle.pygrammar.specs.Entries.{Item, Of, Pair, Argument, Parameter, Entry, Single, Paired, Spread, Doubled, Keyed, Plain, Slashed}
use Rattle.pygrammar.specs.Entries.{Bare}
use Rattle.pygrammar.specs.Entries.{Gathered, Collected, singles, keys, values}
use Rattle.pygrammar.specs.Grammar as G
use Rattle.pyunparse_text.specs.Written.{Maker, separated, some_named, lone_star, free, leading, trailing, tight, bracketed, with_comma}
use Rattle.pyunparse_text.specs.Written.{tuple_of}
use Rattle.pyunparse_text.specs.Written.{written, each, suffixed, written_keys, pairs}
use Rattle.pyunparse_text.specs.Terminals.{terminal}
use Rattle.pyunparse_text.proofs.Fewest.Counted as counted
use Rattle.pyunparse_text.proofs.Fewest.Counted.{one as marks, AtLeast, token, both, fewer, in_brackets}
use Rattle.pyunparse_text.proofs.Fewest.Reach.{climb, to_atom, length_bracketed}
use Rattle.pyunparse_text.proofs.Fewest.Less.{some_slice, tuple_place, allowed, length_separated, length_with_comma, total_named}
use Rattle.pyunparse_text.proofs.Fewest.Less.{length_part}
use Rattle.pyunparse_text.proofs.Fewest.Less.{tuple_text}
use Rattle.pyunparse_text.proofs.Fewest.Claims.{Ready, Claim, here, atom}

-- an entry in its list
abbrev pub entry_in : {A : Type 0} → Maker A → Item → Entry → List A
entry_in make (Of l) (Single e) = written make l e
entry_in make Pair (Paired k e) = written make Expression k ++ (trailing make Colon ∷ written make Expression e)
entry_in make Pair (Doubled e) = leading make DoubleStar ∷ written make BitOr e
entry_in make Argument (Single e) = written make Named e
entry_in make Argument (Spread e) = leading make Star ∷ written make Expression e
entry_in make Argument (Keyed x e) = free make (in_form x) ∷ (tight make Equal ∷ written make Expression e)
entry_in make Argument (Doubled e) = leading make DoubleStar ∷ written make Expression e
entry_in make (Parameter b) (Plain (arg x a) d) =
    free make (in_form x) ∷ (suffixed make (trailing make Colon) a ++ suffixed make (tight make Equal) d)
entry_in make (Parameter b) Slashed = free make (Op Slash) ∷ []
entry_in make (Parameter b) Bare = leading make Star ∷ []
entry_in make (Parameter b) (Gathered (arg x a)) = leading make Star ∷ (free make (in_form x) ∷ suffixed make (trailing make Colon) a)
entry_in make (Parameter b) (Collected (arg x a)) =
    leading make DoubleStar ∷ (free make (in_form x) ∷ suffixed make (trailing make Colon) a)
entry_in make _ _ = []

-- as it is read, and its marks
abbrev pub entry : Item → Entry → List Terminal
entry i e = entry_in terminal i e

abbrev pub entry_marks : Item → Entry → List (Unit {0})
entry_marks i e = entry_in marks i e

abbrev pub Standing : Item → Entry → Type 0
Standing (Of l) (Single e) = Ready e × (allowed l e ≡ true)
Standing (Of l) _ = ⊥
Standing Pair (Paired k e) = G.Piece Pair (entry Pair (Paired k e)) (Paired k e)
Standing Pair (Doubled e) = G.Piece Pair (entry Pair (Doubled e)) (Doubled e)
Standing Pair _ = ⊥
Standing Argument (Single e) = Ready e × (allowed Named e ≡ true)
Standing i e = G.Piece i (entry i e) e

pub data Standings (i : Item) : List Entry → Type 0 where
  none : Standings i []
  one : {e : Entry} {es : List Entry} → Standing i e → Standings i es → Standings i (e ∷ es)

pub record PieceClaim (i : Item) (ts : List Terminal) (e : Entry) : Type 0 where
  pub standing : Standing i e
  pub short : AtLeast (entry_marks i e) ts

pub record ListingClaim (i : Item) (us : List Terminal) (es : List Entry) : Type 0 where
  pub standing : Standings i es
  pub short : AtLeast (separated tt (map (entry_marks i) es)) us

pub no_item_claim : (i : Item) → ListingClaim i [] []
no_item_claim i = record { standing = none; short = counted.none }

pub last_item_claim : {i : Item} {ts : List Terminal} {e : Entry} → PieceClaim i ts e → ListingClaim i ts (e ∷ [])
last_item_claim p = record { standing = one p.standing none; short = p.short }

pub item_claim : {i : Item} {ts us : List Terminal} {e : Entry} {es : List Entry} → PieceClaim i ts e → ListingClaim i us es
    → ListingClaim i (ts ++ (Op Comma ∷ us)) (e ∷ es)
item_claim {i} {ts} {us} {e} {es} p c = record {
  standing = one p.standing c.standing;
  short = fewer (omega (
    arith,
    length_separated tt (entry_marks i e ∷ map (entry_marks i) es),
    length_separated tt (map (entry_marks i) es),
    length-append (entry_marks i e) (tt ∷ separated tt (map (entry_marks i) es)),
  )) (both p.short (token refl c.short));
}

piece_of : (i : Item) (e : Entry) → Standing i e → G.Piece i (entry i e) e
piece_of (Of l) (Single e) s = G.single (s.0.all l s.1)
piece_of (Of l) _ s = absurd s
piece_of Pair (Paired k e) s = s
piece_of Pair (Doubled e) s = s
piece_of Pair _ s = absurd s
piece_of Argument (Single e) s = G.argument (s.0.all Named s.1)
piece_of _ _ s = s

grown : (i : Item) (e : Entry) (es : List Entry) → G.Piece i (entry i e) e → G.Listing i (separated (Op Comma) (map (entry i) es)) es
    → G.Listing i (separated (Op Comma) (entry i e ∷ map (entry i) es)) (e ∷ es)
grown i e [] p q = G.last_item p
grown i e (f ∷ fs) p q = G.item p q

pub listing_of : {i : Item} {es : List Entry} → Standings i es → G.Listing i (separated (Op Comma) (map (entry i) es)) es
listing_of none = G.no_item
listing_of {i} (one {e = e} {es = es} s r) = grown i e es (piece_of i e s) (listing_of r)

pieces_grown : (l : Level) (e : Entry) (es : List Entry) → Standing (Of l) e → each terminal l (singles es) ≡ map (entry (Of l)) es
    → each terminal l (singles (e ∷ es)) ≡ map (entry (Of l)) (e ∷ es)
unfolding each
pieces_grown l (Single e) es s q = ap (λ z. written terminal l e ∷ z) q
pieces_grown l _ es s q = absurd s

pub pieces_are : {l : Level} {es : List Entry} → Standings (Of l) es → each terminal l (singles es) ≡ map (entry (Of l)) es
unfolding each
pieces_are none = refl
pieces_are {l} (one {e = e} {es = es} s r) = pieces_grown l e es s (pieces_are r)

pub list_of : {l : Level} {es : List Entry} → Standings (Of l) es
    → G.Listing (Of l) (separated (Op Comma) (each terminal l (singles es))) es
list_of {l} {es} s = subst (λ z. G.Listing (Of l) (separated (Op Comma) z) es) (sym (pieces_are s)) (listing_of s)

marks_grown : (l : Level) (e : Entry) (es : List Entry) → Standing (Of l) e → each marks l (singles es) ≡ map (entry_marks (Of l)) es
    → each marks l (singles (e ∷ es)) ≡ map (entry_marks (Of l)) (e ∷ es)
unfolding each
marks_grown l (Single e) es s q = ap (λ z. written marks l e ∷ z) q
marks_grown l _ es s q = absurd s

pub marks_are : {l : Level} {es : List Entry} → Standings (Of l) es → each marks l (singles es) ≡ map (entry_marks (Of l)) es
unfolding each
marks_are none = refl
marks_are {l} (one {e = e} {es = es} s r) = marks_grown l e es s (marks_are r)

pub list_short : {l : Level} {us : List Terminal} {es : List Entry} → ListingClaim (Of l) us es
    → AtLeast (separated tt (each marks l (singles es))) us
list_short {l} {us} {es} c = subst (λ z. AtLeast (separated tt z) us) (sym (marks_are c.standing)) c.short

-- entries
pub single_claim : {l : Level} {ts : List Terminal} {e : Expr} → Claim l ts e → PieceClaim (Of l) ts (Single e)
single_claim c = record { standing = (c.ready, c.place); short = c.short }

pub pair_claim : {ts us : List Terminal} {k e : Expr} → Claim Expression ts k → Claim Expression us e
    → PieceClaim Pair (ts ++ (Op Colon ∷ us)) (Paired k e)
pair_claim p q = record { standing = G.pair (here p) (here q); short = both p.short (token refl q.short) }

pub pairs_of_claim : {ts : List Terminal} {e : Expr} → Claim BitOr ts e → PieceClaim Pair (Op DoubleStar ∷ ts) (Doubled e)
pairs_of_claim p = record { standing = G.pairs_of (here p); short = token refl p.short }

pub argument_claim : {ts : List Terminal} {e : Expr} → Claim Named ts e → PieceClaim Argument ts (Single e)
argument_claim c = record { standing = (c.ready, c.place); short = c.short }

pub star_argument_claim : {ts : List Terminal} {e : Expr} → Claim Expression ts e → PieceClaim Argument (Op Star ∷ ts) (Spread e)
star_argument_claim p = record { standing = G.star_argument (here p); short = token refl p.short }

pub keyword_argument_claim : {x : Spelled} {ts : List Terminal} {e : Expr} → Claim Expression ts e
    → PieceClaim Argument (Ident x ∷ (Op Equal ∷ ts)) (Keyed x.form e)
keyword_argument_claim p = record { standing = G.keyword_argument (here p); short = token refl (token refl p.short) }

pub double_argument_claim : {ts : List Terminal} {e : Expr} → Claim Expression ts e → PieceClaim Argument (Op DoubleStar ∷ ts) (Doubled e)
double_argument_claim p = record { standing = G.double_argument (here p); short = token refl p.short }

-- displays
pub list_claim : {ts : List Terminal} {es : List Entry} → ListingClaim (Of Elem) ts es
    → Claim Atom (Op LSqb ∷ (ts ++ (Op RSqb ∷ []))) (Trees.ListOf (singles es) Load)
unfolding written
list_claim c = atom _ _ _ (λ m. refl) refl tt (G.list (list_of c.standing)) (in_brackets LSqb RSqb (list_short c))

pub set_claim : {ts : List Terminal} {e : Entry} {es : List Entry} → ListingClaim (Of Elem) ts (e ∷ es)
    → Claim Atom (Op LBrace ∷ (ts ++ (Op RBrace ∷ []))) (Trees.Set (singles (e ∷ es)))
unfolding written
set_claim c = atom _ _ _ (λ m. refl) refl tt (G.set (list_of c.standing)) (in_brackets LBrace RBrace (list_short c))

pair_grown : (e : Entry) (es : List Entry) → Standing Pair e → pairs terminal (written_keys terminal (keys es))
    (values es) ≡ map (entry Pair) es
    → pairs terminal (written_keys terminal (keys (e ∷ es))) (values (e ∷ es)) ≡ map (entry Pair) (e ∷ es)
unfolding pairs written_keys
pair_grown (Paired k e) es s q = ap (λ z. (written terminal Expression k ++ (Op Colon ∷ written terminal Expression e)) ∷ z) q
pair_grown (Doubled e) es s q = ap (λ z. (Op DoubleStar ∷ written terminal BitOr e) ∷ z) q
pair_grown _ es s q = absurd s

pairs_are : {es : List Entry} → Standings Pair es → pairs terminal (written_keys terminal (keys es)) (values es) ≡ map (entry Pair) es
unfolding pairs written_keys
pairs_are none = refl
pairs_are (one {e = e} {es = es} s r) = pair_grown e es s (pairs_are r)

pair_marks_grown : (e : Entry) (es : List Entry) → Standing Pair e
    → pairs marks (written_keys marks (keys es)) (values es) ≡ map (entry_marks Pair) es
    → pairs marks (written_keys marks (keys (e ∷ es))) (values (e ∷ es)) ≡ map (entry_marks Pair) (e ∷ es)
unfolding pairs written_keys
pair_marks_grown (Paired k e) es s q = ap (λ z. (written marks Expression k ++ (tt ∷ written marks Expression e)) ∷ z) q
pair_marks_grown (Doubled e) es s q = ap (λ z. (tt ∷ written marks BitOr e) ∷ z) q
pair_marks_grown _ es s q = absurd s

pair_marks_are : {es : List Entry} → Standings Pair es → pairs marks (written_keys marks (keys es)) (values es) ≡ map (entry_marks Pair) es
unfolding pairs written_keys
pair_marks_are none = refl
pair_marks_are (one {e = e} {es = es} s r) = pair_marks_grown e es s (pair_marks_are r)

pub dict_claim : {ts : List Terminal} {es : List Entry} → ListingClaim Pair ts es
    → Claim Atom (Op LBrace ∷ (ts ++ (Op RBrace ∷ []))) (Trees.Dict (keys es) (values es))
unfolding written
dict_claim {ts} {es} c =
    atom _ (Op LBrace ∷ (separated (Op Comma) (map (entry Pair) es) ++ (Op RBrace ∷ []))) _
    (λ m. ap (λ z. Op LBrace ∷ (separated (Op Comma) z ++ (Op RBrace ∷ []))) (pairs_are c.standing)) refl tt
    (G.dict (listing_of c.standing))
    (in_brackets LBrace RBrace (subst (λ z. AtLeast (separated tt z) ts) (sym (pair_marks_are c.standing)) c.short))

pub empty_tuple_claim : Claim Atom (Op LPar ∷ (Op RPar ∷ [])) (Trees.Tuple no_exprs Load)
unfolding written each
empty_tuple_claim = atom _ (Op LPar ∷ (Op RPar ∷ [])) _ (λ m. refl) refl tt G.empty_tuple (token refl (token refl counted.none))

-- tuples
part_from_star : (e : Expr) → allowed StarItem e ≡ true → allowed Part e ≡ true
part_from_star (Trees.Starred e c) h = refl
part_from_star (Trees.Slice a b c) h = refl
part_from_star (Trees.Tuple es c) h = h
part_from_star _ h = refl

part_from_elem : (e : Expr) → allowed Elem e ≡ true → allowed Part e ≡ true
part_from_elem (Trees.Starred e c) h = refl
part_from_elem (Trees.Slice a b c) h = refl
part_from_elem (Trees.Tuple es c) h = h
part_from_elem _ h = refl

-- the same entries at another level
moved : (l m : Level) → ((e : Expr) → allowed l e ≡ true → allowed m e ≡ true) → {es : List Entry}
    → Standings (Of l) es → Standings (Of m) es
moved l m f none = none
moved l m f (one {e = e} s r) = one (move e s) (moved l m f r)
  where
    move : (e : Entry) → Standing (Of l) e → Standing (Of m) e
    move (Single e) s = (s.0, f e s.1)
    move _ s = absurd s

module _ (l : Level) (free : (e : Expr) (z : Exprs) → allowed l e ≡ true → some_slice z ≡ false → some_slice (an_expr e z) ≡ false) where
  free_grown : (e : Entry) (es : List Entry) → Standing (Of l) e → some_slice (singles es) ≡ false → some_slice (singles (e ∷ es)) ≡ false
  free_grown (Single e) es s q = free e (singles es) s.1 q
  free_grown _ es s q = absurd s

  slice_free : {es : List Entry} → Standings (Of l) es → some_slice (singles es) ≡ false
  slice_free none = refl
  slice_free (one {e = e} {es = es} s r) = free_grown e es s (slice_free r)

star_free : (e : Expr) (z : Exprs) → allowed StarItem e ≡ true → some_slice z ≡ false → some_slice (an_expr e z) ≡ false
star_free (Trees.Slice a b c) z h q = absurd (cc)
star_free _ z h q = q

elem_free : (e : Expr) (z : Exprs) → allowed Elem e ≡ true → some_slice z ≡ false → some_slice (an_expr e z) ≡ false
elem_free (Trees.Slice a b c) z h q = absurd (cc)
elem_free _ z h q = q

-- parts that are no Slices are elements too
first_free : (e : Expr) (z : Exprs) → some_slice (an_expr e z) ≡ false → some_slice z ≡ false
first_free (Trees.Slice a b c) z h = absurd (cc)
first_free _ z h = h

star_from_part : (e : Expr) (z : Exprs) → some_slice (an_expr e z) ≡ false → allowed Part e ≡ true → allowed StarItem e ≡ true
star_from_part (Trees.Slice a b c) z h q = absurd (cc)
star_from_part (Trees.Starred e c) z h q = refl
star_from_part (Trees.Tuple es c) z h q = q
star_from_part _ z h q = refl

elem_from_part : (e : Expr) (z : Exprs) → some_slice (an_expr e z) ≡ false → allowed Part e ≡ true → allowed Elem e ≡ true
elem_from_part (Trees.Slice a b c) z h q = absurd (cc)
elem_from_part (Trees.Starred e c) z h q = refl
elem_from_part (Trees.Tuple es c) z h q = q
elem_from_part _ z h q = refl

module _ (m : Level) (from : (e : Expr) (z : Exprs) → some_slice (an_expr e z) ≡ false → allowed Part e ≡ true → allowed m e ≡ true) where
  placed_one : (e : Entry) (es : List Entry) → Standing (Of Part) e → some_slice (singles (e ∷ es)) ≡ false
      → Standing (Of m) e × (some_slice (singles es) ≡ false)
  placed_one (Single e) es s q = ((s.0, from e (singles es) q s.1), first_free e (singles es) q)
  placed_one _ es s q = absurd s

  placed : {es : List Entry} → Standings (Of Part) es → some_slice (singles es) ≡ false → Standings (Of m) es
  placed none q = none
  placed (one {e = e} {es = es} s r) q = let w = placed_one e es s q in one w.0 (placed r w.1)

-- a Tuple at each terminal level, whether its elements have their own brackets or not
with_comma_brackets : (ts us : List Terminal) → bracketed terminal (ts ++ (Op Comma ∷ us)) ≡ Op LPar ∷
    (ts ++ (Op Comma ∷ (us ++ (Op RPar ∷ []))))
with_comma_brackets ts us = ap (λ z. Op LPar ∷ z) (append_assoc ts (Op Comma ∷ us) (Op RPar ∷ []))

head_of : {i : Item} {e : Entry} {es : List Entry} → Standings i (e ∷ es) → Standing i e
head_of (one s r) = s

tail_of : {i : Item} {e : Entry} {es : List Entry} → Standings i (e ∷ es) → Standings i es
tail_of (one s r) = r

at_slices : (e : Expr) (es : List Entry) → Ready e → G.Derives Part (written terminal Part e) e → Standings (Of Part) es
    → G.Derives Slices (tuple_of terminal Part (lone_star (an_expr e (singles es)))
    (written terminal Part e ∷ each terminal Part (singles es))) (Trees.Tuple (an_expr e (singles es)) Load)
unfolding written each
at_slices (Trees.Starred v c) [] r p s =
    subst (λ d. G.Derives Slices (Op Star ∷ written terminal Expression v) (Trees.Tuple (an_expr (Trees.Starred v d) no_exprs) Load))
    (sym r.inside.0)
    (G.star_slices r.inside.1)
at_slices (Trees.Starred v c) (Single f ∷ es) r p s = G.parts p (list_of s)
at_slices (Trees.Starred v c) (_ ∷ es) r p s = absurd (head_of s)
at_slices _ es r p s = G.parts p (list_of s)

at_stars : (e : Expr) (es : List Entry) → Standings (Of StarItem) (Single e ∷ es)
    → G.Derives Stars (written terminal StarItem e ++ (Op Comma ∷ separated (Op Comma) (each terminal StarItem (singles es))))
    (Trees.Tuple (an_expr e (singles es)) Load)
at_stars e es s = let h = head_of s in G.star_tuple (h.0.all StarItem h.1) (list_of (tail_of s))

at_subject : (e : Expr) (es : List Entry) → Standings (Of Elem) (Single e ∷ es)
    → G.Derives Subject (written terminal Elem e ++ (Op Comma ∷ separated (Op Comma) (each terminal Elem (singles es))))
    (Trees.Tuple (an_expr e (singles es)) Load)
at_subject e es s = let h = head_of s in G.subject_tuple (h.0.all Elem h.1) (list_of (tail_of s))

at_atom : (e : Expr) (es : List Entry) → Standings (Of Elem) (Single e ∷ es)
    → G.Derives Atom (bracketed terminal (written terminal Elem e ++ (Op Comma ∷ separated (Op Comma) (each terminal Elem (singles es)))))
    (Trees.Tuple (an_expr e (singles es)) Load)
at_atom e es s = let h = head_of s in subst (λ z. G.Derives Atom z (Trees.Tuple (an_expr e (singles es)) Load))
    (sym (with_comma_brackets (written terminal Elem e) (separated (Op Comma) (each terminal Elem (singles es)))))
    (G.tuple (h.0.all Elem h.1) (list_of (tail_of s)))

star_standings : {e : Expr} {es : List Entry} → Standings (Of Part) (Single e ∷ es) → not (some_slice (an_expr e (singles es))) ≡ true
    → Standings (Of StarItem) (Single e ∷ es)
star_standings {e} {es} s h = placed StarItem star_from_part s (not-true (some_slice (an_expr e (singles es))) h)

elem_standings : {e : Expr} {es : List Entry} → Standings (Of Part) (Single e ∷ es) → not (some_slice (an_expr e (singles es))) ≡ true
    → Standings (Of Elem) (Single e ∷ es)
elem_standings {e} {es} s h = placed Elem elem_from_part s (not-true (some_slice (an_expr e (singles es))) h)

tuple_at : (m : Level) (b : Bool) (e : Expr) (es : List Entry) → Standings (Of Part) (Single e ∷ es)
    → tuple_place m (some_slice (an_expr e (singles es))) ≡ true
    → G.Derives m (tuple_text terminal m b (an_expr e (singles es))) (Trees.Tuple (an_expr e (singles es)) Load)
unfolding each
tuple_at Slices b e es s h = at_slices e es (head_of s).0 ((head_of s).0.all Part (head_of s).1) (tail_of s)
tuple_at Stars false e es s h = at_stars e es (star_standings s h)
tuple_at Value false e es s h = G.next (at_stars e es (star_standings s h))
tuple_at Subject b e es s h = at_subject e es (elem_standings s h)
tuple_at m b e es s h = climb m Atom (to_atom m) (at_atom e es (elem_standings s h))

tuple_ready : (e : Expr) (es : List Entry) → Standings (Of Part) (Single e ∷ es) → Ready (Trees.Tuple (an_expr e (singles es)) Load)
unfolding written
tuple_ready e es s = record { all = λ m h. tuple_at m (some_named (an_expr e (singles es))) e es s h; inside = tt }

-- in Stars: with brackets only where a NamedExpr would have its own
star_size : (e : Expr) (z : Exprs) (b : Bool) → some_named (an_expr e z) ≡ b
    → length (tuple_text marks Stars b (an_expr e z)) ≤ length (with_comma marks (each marks StarItem (an_expr e z)))
unfolding each
star_size e z false q = omega arith
star_size e no_exprs true q =
    omega (
      arith,
      total_named (an_expr e no_exprs) q,
      length_bracketed (with_comma marks (written marks Elem e ∷ [])),
      length_with_comma (written marks Elem e) [],
      length_with_comma (written marks StarItem e) [],
    )
star_size e (an_expr f z) true q =
    omega (
      arith,
      total_named (an_expr e (an_expr f z)) q,
      length_bracketed (with_comma marks (written marks Elem e ∷ (written marks Elem f ∷ each marks Elem z))),
      length_with_comma (written marks Elem e) (written marks Elem f ∷ each marks Elem z),
      length_with_comma (written marks StarItem e) (written marks StarItem f ∷ each marks StarItem z),
    )

pub star_tuple_claim : {ts us : List Terminal} {e : Expr} {es : List Entry} → Claim StarItem ts e → ListingClaim (Of StarItem) us es
    → Claim Stars (ts ++ (Op Comma ∷ us)) (Trees.Tuple (an_expr e (singles es)) Load)
unfolding written each
star_tuple_claim {ts} {us} {e} {es} p c =
    let s : Standings (Of StarItem) (Single e ∷ es) = one (p.ready, p.place) c.standing in
    record {
      ready = tuple_ready e es (moved StarItem Part part_from_star s);
      place = ap not (slice_free StarItem star_free s);
      short = fewer (star_size e (singles es) (some_named (an_expr e (singles es))) refl) (both p.short (token refl (list_short c)));
    }

pub subject_tuple_claim : {ts us : List Terminal} {e : Expr} {es : List Entry} → Claim Elem ts e → ListingClaim (Of Elem) us es
    → Claim Subject (ts ++ (Op Comma ∷ us)) (Trees.Tuple (an_expr e (singles es)) Load)
unfolding written each
subject_tuple_claim {ts} {us} {e} {es} p c =
    let s : Standings (Of Elem) (Single e ∷ es) = one (p.ready, p.place) c.standing in
    record {
      ready = tuple_ready e es (moved Elem Part part_from_elem s);
      place = ap not (slice_free Elem elem_free s);
      short = both p.short (token refl (list_short c));
    }

pub tuple_claim : {ts us : List Terminal} {e : Expr} {es : List Entry} → Claim Elem ts e → ListingClaim (Of Elem) us es
    → Claim Atom (Op LPar ∷ (ts ++ (Op Comma ∷ (us ++ (Op RPar ∷ []))))) (Trees.Tuple (an_expr e (singles es)) Load)
unfolding written each
tuple_claim {ts} {us} {e} {es} p c =
    let s : Standings (Of Elem) (Single e ∷ es) = one (p.ready, p.place) c.standing in
    record {
      ready = tuple_ready e es (moved Elem Part part_from_elem s);
      place = ap not (slice_free Elem elem_free s);
      short =
          subst (λ z. AtLeast (tt ∷ z) (Op LPar ∷ (ts ++ (Op Comma ∷ (us ++ (Op RPar ∷ []))))))
          (sym (append_assoc (written marks Elem e) (tt ∷ separated tt (each marks Elem (singles es))) (tt ∷ [])))
          (token refl (both p.short (token refl (both (list_short c) (token refl counted.none)))));
    }

pub parts_claim : {ts us : List Terminal} {e : Expr} {es : List Entry} → Claim Part ts e → ListingClaim (Of Part) us es
    → Claim Slices (ts ++ (Op Comma ∷ us)) (Trees.Tuple (an_expr e (singles es)) Load)
unfolding written each
parts_claim {ts} {us} {e} {es} p c = record {
  ready = tuple_ready e es (one (p.ready, p.place) c.standing);
  place = refl;
  short = fewer (length_part (lone_star (an_expr e (singles es))) (written marks Part e) (each marks Part (singles es)))
      (both p.short (token refl (list_short c)));
}

pub star_slices_claim : {ts : List Terminal} {e : Expr} → Claim Part (Op Star ∷ ts) (Trees.Starred e Load)
    → Claim Slices (Op Star ∷ ts) (Trees.Tuple (an_expr (Trees.Starred e Load) no_exprs) Load)
unfolding written each
star_slices_claim {ts} {e} p = record {
  ready = tuple_ready (Trees.Starred e Load) [] (one (p.ready, p.place) none);
  place = refl;
  short = p.short;
}
