-- Lists of items, and comprehensions.
--
-- Carries: starts_low, ListingReads, ListEnds, Separable and 19 more, for Complete, Atoms, Forms,
-- Headers and 2 more. On: LookLemmas, Lists, Climb.
use Rattle.std.proofs.Common.{◌≡◌, refl, sym, ap, ◌∙◌, ℕ, zero, suc, ◌≤◌, ◌<◌, arith, List, [], ◌∷◌, ◌++◌, length, Option, Some, None, Bool}
use Rattle.std.proofs.Common.{true, false, append_assoc, length-append, option_map}
use Rattle.std.proofs.lemmas.Bool.{leb-true}
use Rattle.std.specs.Prelude.{leb, max}
use Rattle.pylex_lexeme.specs.declared.kinds.Exact.{Exact}
use Rattle.pylex_lexeme.specs.declared.kinds.Exact.TheVariants.{Comma}
use Rattle.pytoken.specs.declared.keywords.Keyword.TheVariants as Key
use Rattle.pygrammar.specs.declared.levels.Level.{Level}
use Rattle.pygrammar.specs.declared.levels.Level.TheVariants.{Stars, StarItem, Or}
use Rattle.pytree_node.specs.Trees.{Expr, Exprs, no_exprs, Comprehension}
use Rattle.pytoken.specs.Terminals.{Terminal, Op, Word}
use Rattle.pygrammar.specs.Targets.{all_stored, both, stored}
use Rattle.pygrammar.specs.Entries.{Item, Of, Entry, singles}
use Rattle.pygrammar.specs.Grammar as G
use Rattle.pygrammar.specs.Reader.{Answer, Found, NoForm, Reads, read, read_target, piece, listing_loop, target_piece, ifs_loop}
use Rattle.pygrammar.specs.Reader.{for_in_step, comps_loop, comps_closed}
use Rattle.pygrammar.specs.Precedence.{lead, first, starts, starts_comp}
use Rattle.pygrammar.proofs.Completeness.LookLemmas.{grip, grip_of, lead_of, miss_op, miss_word, hit_op}
use Rattle.pygrammar.proofs.Completeness.Climb.{ReadsAs, answers}
use Rattle.pygrammar.proofs.Completeness.Lists.{PieceStops, PieceTarget, PieceReads}

pub append_no : {A : Type 0} (es : List A) → es ++ [] ≡ es
append_no [] = refl
append_no (e ∷ es) = ap (λ z. e ∷ z) (append_no es)

-- what may follow a list, and that a comma may follow its items
abbrev pub ListEnds : Item → List Terminal → Type 0
ListEnds i r = (starts i r ≡ false) × (grip_of r ≡ 3 → ⊥) × PieceStops i r

abbrev pub Separable : Item → Type 0
Separable i = (r : List Terminal) → PieceStops i (Op Comma ∷ r)

abbrev pub ListingTarget : Item → List Terminal → List Entry → ℕ → Type 0
ListingTarget (Of StarItem) us es d = (z : Exprs) → all_stored (singles es) ≡ Some z → (rest : List Terminal) → grip_of rest ≤ 22
    → (grip_of rest ≡ 3 → ⊥) → lead_of rest ≤ 6 → (m : ℕ) → length (us ++ rest) ≤ m → (acc : List Entry)
    → listing_loop (target_piece (read (suc d))) (Of StarItem) m acc (us ++ rest) ≡ Found (acc ++ es) rest
ListingTarget i us es d = Unit {0}

abbrev pub ListingReads : Item → List Terminal → List Entry → Type 0
ListingReads i us es = (n : ℕ) × ((d : ℕ) → n ≤ d → Separable i → (rest : List Terminal) → ListEnds i rest → (m : ℕ)
    → length (us ++ rest) ≤ m → (acc : List Entry) → listing_loop (piece (read (suc d)) i) i m acc (us ++ rest) ≡ Found (acc ++ es) rest) ×
    ((d : ℕ) → n ≤ d → ListingTarget i us es d)

-- the loop over any reader of an item
module _ (one : List Terminal → Answer Entry) (i : Item) where
  listing_end : (m : ℕ) (acc : List Entry) (r : List Terminal) → starts i r ≡ false → listing_loop one i m acc r ≡ Found acc r
  listing_end zero acc r h = refl
  listing_end (suc m) acc r h = rw h refl

  listing_last : (m : ℕ) (acc : List Entry) (r rest : List Terminal) (a : Entry) → starts i r ≡ true → one r ≡ Found a rest
      → (grip_of rest ≡ 3 → ⊥) → listing_loop one i (suc m) acc r ≡ Found (acc ++ (a ∷ [])) rest
  listing_last m acc r rest a h k g = rw h (rw k (miss_op Comma rest _ _ g))

  listing_more : (m : ℕ) (acc : List Entry) (r rest : List Terminal) (a : Entry) → starts i r ≡ true → one r ≡ Found a (Op Comma ∷ rest)
      → listing_loop one i (suc m) acc r ≡ listing_loop one i m (acc ++ (a ∷ [])) rest
  listing_more m acc r rest a h k = rw h (rw k refl)

no_start : (i : Item) (r : List Terminal) → length r ≤ 0 → starts i r ≡ true → ⊥
no_start i [] h q = absurd (cc)
no_start i (t ∷ r) h q = omega (arith, h)

pub starts_low : (l : Level) (r : List Terminal) → lead_of r < first l → starts (Of l) r ≡ false
starts_low l [] h = refl
starts_low l (t ∷ r) h = low (leb (first l) (lead t)) refl
  where
    low : (b : Bool) → leb (first l) (lead t) ≡ b → leb (first l) (lead t) ≡ false
    low false q = q
    low true q = absurd (omega (arith, h, leb-true (first l) (lead t) q))

pub no_item_goes : (i : Item) → ListingReads i [] []
no_item_goes i = (
  0,
  (λ d h w rest s m le acc. listing_end (piece (read (suc d)) i) i m acc rest s.0
      ∙ ap (λ z. Found z rest) (sym (append_no acc))),
  λ d h. target i d,
)
  where
    target : (i : Item) (d : ℕ) → ListingTarget i [] [] d
    target (Of StarItem) d = λ z q rest g c l m le acc. listing_end (target_piece (read (suc d))) (Of StarItem) m acc rest
        (starts_low StarItem rest (omega (arith, l))) ∙ ap (λ z. Found z rest) (sym (append_no acc))
    target _ d = tt

-- targets of a list
pub mapped_some : {A B : Type 0} (f : A → B) (o : Option A) (b : B) → option_map f o ≡ Some b → (a : A) × (o ≡ Some a)
mapped_some f None b h = absurd (cc)
mapped_some f (Some a) b h = (a, refl)

pub both_some : (o : Option Expr) (p : Option Exprs) (z : Exprs) → both o p ≡ Some z
    → ((e : Expr) × (o ≡ Some e)) × ((es : Exprs) × (p ≡ Some es))
both_some None p z h = absurd (cc)
both_some (Some e) None z h = absurd (cc)
both_some (Some e) (Some es) z h = ((e, refl), (es, refl))

last_target : (i : Item) (ts : List Terminal) (a : Entry) (d : ℕ) → ((us : List Terminal) → starts i (ts ++ us) ≡ true)
    → PieceTarget i ts a d → ListingTarget i ts (a ∷ []) d
last_target (Of StarItem) ts a d st (e, eq, p) = λ z q rest g c l m le acc. go z q rest g c m le acc
  where
    go : (z : Exprs) → all_stored (singles (a ∷ [])) ≡ Some z → (rest : List Terminal) → grip_of rest ≤ 22 → (grip_of rest ≡ 3 → ⊥)
        → (m : ℕ) → length (ts ++ rest) ≤ m → (acc : List Entry) → listing_loop (target_piece (read (suc d))) (Of StarItem) m acc
        (ts ++ rest) ≡ Found (acc ++ (a ∷ [])) rest
    go z q rest g c zero le acc = absurd (no_start (Of StarItem) (ts ++ rest) le (st rest))
    go z q rest g c (suc m) le acc =
        let w = both_some (stored e) (Some no_exprs) z (sym (ap (λ x. all_stored (singles (x ∷ []))) eq) ∙ q) in
        listing_last (target_piece (read (suc d))) (Of StarItem) m acc (ts ++ rest) rest a (st rest) (p w.0.0 w.0.1 rest g
        ∙ ap (λ x. Found x rest) (sym eq)) c
last_target _ ts a d st p = tt

item_target : (i : Item) (ts us : List Terminal) (a : Entry) (es : List Entry) (d : ℕ) → ((us : List Terminal) → starts i (ts ++ us) ≡ true)
    → PieceTarget i ts a d → ListingTarget i us es d → ListingTarget i (ts ++ (Op Comma ∷ us)) (a ∷ es) d
item_target (Of StarItem) ts us a es d st (e, eq, p) k = λ z q rest g c l m le acc. go z q rest g c l m le acc
  where
    go : (z : Exprs) → all_stored (singles (a ∷ es)) ≡ Some z → (rest : List Terminal) → grip_of rest ≤ 22 → (grip_of rest ≡ 3 → ⊥)
        → lead_of rest ≤ 6 → (m : ℕ) → length ((ts ++ (Op Comma ∷ us)) ++ rest) ≤ m → (acc : List Entry)
        → listing_loop (target_piece (read (suc d))) (Of StarItem) m acc ((ts ++ (Op Comma ∷ us)) ++ rest) ≡ Found (acc ++ (a ∷ es)) rest
    go z q rest g c l zero le acc = absurd (omega (arith, le, length-append (ts ++ (Op Comma ∷ us)) rest, length-append ts (Op Comma ∷ us)))
    go z q rest g c l (suc m) le acc =
        let w = both_some (stored e) (all_stored (singles es)) z (sym (ap (λ x. all_stored (singles (x ∷ es))) eq) ∙ q) in
        let l1 : length (us ++ rest) ≤ m = omega (
          arith,
          le,
          length-append (ts ++ (Op Comma ∷ us)) rest,
          length-append ts (Op Comma ∷ us),
          length-append us rest,
        ) in
        let h1 = p w.0.0 w.0.1 (Op Comma ∷ (us ++ rest)) (omega arith) ∙ ap (λ x. Found x (Op Comma ∷ (us ++ rest))) (sym eq) in
        ap (listing_loop (target_piece (read (suc d))) (Of StarItem) (suc m) acc) (append_assoc ts (Op Comma ∷ us) rest)
        ∙ (listing_more (target_piece (read (suc d))) (Of StarItem) m acc (ts ++ (Op Comma ∷ (us ++ rest))) (us ++ rest) a
        (st (Op Comma ∷ (us ++ rest))) h1 ∙ (k w.1.0 w.1.1 rest g c l m l1 (acc ++ (a ∷ []))
        ∙ ap (λ z. Found z rest) (append_assoc acc (a ∷ []) es)))
item_target _ ts us a es d st p k = tt

pub last_item_goes : (i : Item) (ts : List Terminal) (a : Entry) → ((us : List Terminal) → starts i (ts ++ us) ≡ true) → PieceReads i ts a
    → ListingReads i ts (a ∷ [])
last_item_goes i ts a st p = (p.0, go, λ d h. last_target i ts a d st (p.2 d h))
  where
    go : (d : ℕ) → p.0 ≤ d → Separable i → (rest : List Terminal) → ListEnds i rest → (m : ℕ) → length (ts ++ rest) ≤ m → (acc : List Entry)
        → listing_loop (piece (read (suc d)) i) i m acc (ts ++ rest) ≡ Found (acc ++ (a ∷ [])) rest
    go d h w rest s zero le acc = absurd (no_start i (ts ++ rest) le (st rest))
    go d h w rest s (suc m) le acc = listing_last (piece (read (suc d)) i) i m acc (ts ++ rest) rest a (st rest) (p.1 d h rest s.2) s.1

pub item_goes : (i : Item) (ts us : List Terminal) (a : Entry) (es : List Entry) → ((us : List Terminal) → starts i (ts ++ us) ≡ true)
    → PieceReads i ts a → ListingReads i us es → ListingReads i (ts ++ (Op Comma ∷ us)) (a ∷ es)
item_goes i ts us a es st p k =
    (max p.0 k.0, go, λ d h. item_target i ts us a es d st (p.2 d (omega (arith, h))) (k.2 d (omega (arith, h))))
  where
    go : (d : ℕ) → max p.0 k.0 ≤ d → Separable i → (rest : List Terminal) → ListEnds i rest → (m : ℕ)
        → length ((ts ++ (Op Comma ∷ us)) ++ rest) ≤ m → (acc : List Entry)
        → listing_loop (piece (read (suc d)) i) i m acc ((ts ++ (Op Comma ∷ us)) ++ rest) ≡ Found (acc ++ (a ∷ es)) rest
    go d h w rest s zero le acc = absurd (omega (arith, le, length-append (ts ++ (Op Comma ∷ us)) rest, length-append ts (Op Comma ∷ us)))
    go d h w rest s (suc m) le acc =
        let l1 : length (us ++ rest) ≤ m = omega (
          arith,
          le,
          length-append (ts ++ (Op Comma ∷ us)) rest,
          length-append ts (Op Comma ∷ us),
          length-append us rest,
        ) in
        ap (listing_loop (piece (read (suc d)) i) i (suc m) acc) (append_assoc ts (Op Comma ∷ us) rest)
        ∙ (listing_more (piece (read (suc d)) i) i m acc (ts ++ (Op Comma ∷ (us ++ rest))) (us ++ rest) a (st (Op Comma ∷ (us ++ rest)))
        (p.1 d (omega (arith, h)) (Op Comma ∷ (us ++ rest)) (w (us ++ rest)))
        ∙ (k.1 d (omega (arith, h)) w rest s m l1 (acc ++ (a ∷ [])) ∙ ap (λ z. Found z rest) (append_assoc acc (a ∷ []) es)))

-- conditions of a comprehension
abbrev pub IfsReads : List Terminal → List Expr → Type 0
IfsReads us es = (n : ℕ) × ((d : ℕ) → n ≤ d → (rest : List Terminal) → grip_of rest ≤ 8 → (m : ℕ) → length (us ++ rest) ≤ m
    → (acc : List Expr) → ifs_loop (read (suc d)) m acc (us ++ rest) ≡ Found (acc ++ es) rest)

ifs_end : (self : Reads) (m : ℕ) (acc : List Expr) (r : List Terminal) → grip_of r ≤ 8 → ifs_loop self m acc r ≡ Found acc r
ifs_end self zero acc r h = refl
ifs_end self (suc m) acc r h = miss_word Key.If r _ _ (λ q. omega (arith, h, q))

ifs_more : (self : Reads) (m : ℕ) (acc : List Expr) (i r : List Terminal) (e : Expr) → self Or i ≡ Found e r
    → ifs_loop self (suc m) acc (Word Key.If ∷ i) ≡ ifs_loop self m (acc ++ (e ∷ [])) r
ifs_more self m acc i r e h = rw h refl

pub no_if_goes : IfsReads [] []
no_if_goes = (0, λ d h rest g m le acc. ifs_end (read (suc d)) m acc rest g ∙ ap (λ z. Found z rest) (sym (append_no acc)))

pub ifs_grip : {us : List Terminal} {es : List Expr} → G.Ifs us es → (rest : List Terminal) → grip_of rest ≤ 8 → grip_of (us ++ rest) ≤ 9
ifs_grip G.no_if rest g = omega (arith, g)
ifs_grip (G.if_one p q) rest g = omega arith

pub if_one_goes : (ts us : List Terminal) (e : Expr) (es : List Expr) → ReadsAs Or ts e → G.Ifs us es → IfsReads us es
    → IfsReads (Word Key.If ∷ (ts ++ us)) (e ∷ es)
if_one_goes ts us e es p w q = (max p.0 q.0, go)
  where
    go : (d : ℕ) → max p.0 q.0 ≤ d → (rest : List Terminal) → grip_of rest ≤ 8 → (m : ℕ) → length ((Word Key.If ∷ (ts ++ us)) ++ rest) ≤ m
        → (acc : List Expr) → ifs_loop (read (suc d)) m acc ((Word Key.If ∷ (ts ++ us)) ++ rest) ≡ Found (acc ++ (e ∷ es)) rest
    go d h rest g zero le acc = absurd (omega (arith, le))
    go d h rest g (suc m) le acc =
        let l1 : length (us ++ rest) ≤ m = omega (arith, le, length-append (ts ++ us) rest, length-append ts us, length-append us rest) in
        let h1 = answers Or ts e d (us ++ rest) (p.1 d (omega (arith, h))) (omega (arith, ifs_grip w rest g)) in
        ap (λ z. ifs_loop (read (suc d)) (suc m) acc (Word Key.If ∷ z)) (append_assoc ts us rest)
        ∙ (ifs_more (read (suc d)) m acc (ts ++ (us ++ rest)) (us ++ rest) e h1
        ∙ (q.1 d (omega (arith, h)) rest g m l1 (acc ++ (e ∷ [])) ∙ ap (λ z. Found z rest) (append_assoc acc (e ∷ []) es)))

-- one `for` of a comprehension
abbrev pub ForInReads : Bool → List Terminal → Comprehension → Type 0
ForInReads b us g = (n : ℕ) × ((d : ℕ) → n ≤ d → (rest : List Terminal) → grip_of rest ≤ 8
    → for_in_step (read (suc d)) b (us ++ rest) ≡ Found g rest)

for_in_one : (self : Reads) (b : Bool) (i r1 r2 rest : List Terminal) (t s e : Expr) (cs : List Expr)
    → read_target self i ≡ Found t (Word Key.In ∷ r1) → self Or r1 ≡ Found e r2 → ifs_loop self (length r2) [] r2 ≡ Found cs rest
    → stored t ≡ Some s → for_in_step self b i ≡ Found (record { target = s; iter = e; ifs = cs; is_async = b }) rest
for_in_one self b i r1 r2 rest t s e cs h1 h2 h3 h4 = rw h1 (rw h2 (rw h3 (rw h4 refl)))

in_shape : (ts us vs rest : List Terminal) (t : Terminal) → (ts ++ (t ∷ (us ++ vs))) ++ rest ≡ ts ++ (t ∷ (us ++ (vs ++ rest)))
in_shape ts us vs rest t = simp append_assoc refl

pub target_in_goes : (b : Bool) (ts us vs : List Terminal) (t s e : Expr) (cs : List Expr) → ReadsAs Stars ts t → stored t ≡ Some s
    → ReadsAs Or us e → G.Ifs vs cs → IfsReads vs cs
    → ForInReads b (ts ++ (Word Key.In ∷ (us ++ vs))) (record { target = s; iter = e; ifs = cs; is_async = b })
target_in_goes b ts us vs t s e cs p st q w k = (
  max p.0 (max q.0 k.0),
  λ d h rest g.
      let h1 = p.2 d (omega (arith, h)) s st (Word Key.In ∷ (us ++ (vs ++ rest))) (omega arith)
      (λ q. absurd (omega (arith, q))) (omega arith) in
      let h2 = answers Or us e d (vs ++ rest) (q.1 d (omega (arith, h))) (omega (arith, ifs_grip w rest g)) in
      let h3 = k.1 d (omega (arith, h)) rest g (length (vs ++ rest)) (omega arith) [] in
      ap (for_in_step (read (suc d)) b) (in_shape ts us vs rest (Word Key.In))
      ∙ for_in_one (read (suc d)) b (ts ++ (Word Key.In ∷ (us ++ (vs ++ rest)))) (us ++ (vs ++ rest)) (vs ++ rest)
      rest t s e cs h1 h2 h3 st,
)

abbrev pub CompReads : List Terminal → Comprehension → Type 0
CompReads us g = (n : ℕ) × ((d : ℕ) → n ≤ d → (rest : List Terminal) → grip_of rest ≤ 8 → (m : ℕ) (acc : List Comprehension)
    → comps_loop (read (suc d)) (suc m) acc (us ++ rest) ≡ comps_loop (read (suc d)) m (acc ++ (g ∷ [])) rest)

for_step : (self : Reads) (m : ℕ) (acc : List Comprehension) (i rest : List Terminal) (g : Comprehension)
    → for_in_step self false i ≡ Found g rest → comps_loop self (suc m) acc (Word Key.For ∷ i) ≡ comps_loop self m (acc ++ (g ∷ [])) rest
for_step self m acc i rest g h = rw h refl

async_step : (self : Reads) (m : ℕ) (acc : List Comprehension) (i rest : List Terminal) (g : Comprehension)
    → for_in_step self true i ≡ Found g rest → comps_loop self (suc m) acc (Word Key.Async ∷ (Word Key.For ∷ i)) ≡ comps_loop self
    m (acc ++ (g ∷ [])) rest
async_step self m acc i rest g h = rw h refl

pub for_in_goes : (ts : List Terminal) (g : Comprehension) → ForInReads false ts g → CompReads (Word Key.For ∷ ts) g
for_in_goes ts g p = (p.0, λ d h rest s m acc. for_step (read (suc d)) m acc (ts ++ rest) rest g (p.1 d h rest s))

pub async_goes : (ts : List Terminal) (g : Comprehension) → ForInReads true ts g → CompReads (Word Key.Async ∷ (Word Key.For ∷ ts)) g
async_goes ts g p = (p.0, λ d h rest s m acc. async_step (read (suc d)) m acc (ts ++ rest) rest g (p.1 d h rest s))

-- all of them, up to a bracket
abbrev pub CompsReads : List Terminal → List Comprehension → Type 0
CompsReads us gs = (n : ℕ) × ((d : ℕ) → n ≤ d → (s : Exact) (rest : List Terminal) → grip (Op s) ≡ 0 → (m : ℕ)
    → length (us ++ (Op s ∷ rest)) ≤ m → (acc : List Comprehension) → comps_loop (read (suc d)) m acc (us ++ (Op s ∷ rest)) ≡ Found
    (acc ++ gs) (Op s ∷ rest))

comp_first : {us : List Terminal} {g : Comprehension} → G.Comp us g → (r : List Terminal)
    → (grip_of (us ++ r) ≡ 0) × (starts_comp (us ++ r) ≡ true) × (0 < length us)
comp_first (G.for_in p) r = (refl, refl, omega arith)
comp_first (G.async_for_in p) r = (refl, refl, omega arith)

pub comps_first : {us : List Terminal} {gs : List Comprehension} → G.Comps us gs → (r : List Terminal)
    → (grip_of (us ++ r) ≡ 0) × (starts_comp (us ++ r) ≡ true)
comps_first (G.one_comp p) r = let c = comp_first p r in (c.0, c.1)
comps_first (G.comps {ts = ts} {us = us} p q) r = let c = comp_first p (us ++ r) in
    (ap grip_of (append_assoc ts us r) ∙ c.0, ap starts_comp (append_assoc ts us r) ∙ c.1)

comps_end : (self : Reads) (m : ℕ) (acc : List Comprehension) (s : Exact) (r : List Terminal)
    → comps_loop self m acc (Op s ∷ r) ≡ Found acc (Op s ∷ r)
comps_end self zero acc s r = refl
comps_end self (suc m) acc s r = refl

pub one_comp_goes : (us : List Terminal) (g : Comprehension) → G.Comp us g → CompReads us g → CompsReads us (g ∷ [])
one_comp_goes us g w p = (p.0, go)
  where
    go : (d : ℕ) → p.0 ≤ d → (s : Exact) (rest : List Terminal) → grip (Op s) ≡ 0 → (m : ℕ) → length (us ++ (Op s ∷ rest)) ≤ m
        → (acc : List Comprehension) → comps_loop (read (suc d)) m acc (us ++ (Op s ∷ rest)) ≡ Found (acc ++ (g ∷ [])) (Op s ∷ rest)
    go d h s rest z zero le acc = absurd (omega (arith, le, length-append us (Op s ∷ rest)))
    go d h s rest z (suc m) le acc = p.1 d h (Op s ∷ rest) (omega (arith, z)) m acc ∙ comps_end (read (suc d)) m (acc ++ (g ∷ [])) s rest

pub comps_goes : (ts us : List Terminal) (g : Comprehension) (gs : List Comprehension) → G.Comp ts g → G.Comps us gs → CompReads ts g
    → CompsReads us gs → CompsReads (ts ++ us) (g ∷ gs)
comps_goes ts us g gs v w p q = (max p.0 q.0, go)
  where
    go : (d : ℕ) → max p.0 q.0 ≤ d → (s : Exact) (rest : List Terminal) → grip (Op s) ≡ 0 → (m : ℕ)
        → length ((ts ++ us) ++ (Op s ∷ rest)) ≤ m → (acc : List Comprehension)
        → comps_loop (read (suc d)) m acc ((ts ++ us) ++ (Op s ∷ rest)) ≡ Found (acc ++ (g ∷ gs)) (Op s ∷ rest)
    go d h s rest z zero le acc = absurd (omega (arith, le, length-append (ts ++ us) (Op s ∷ rest)))
    go d h s rest z (suc m) le acc =
        let c = comps_first w (Op s ∷ rest) in
        let b = comp_first v [] in
        let l1 : length (us ++ (Op s ∷ rest)) ≤ m = omega (
          arith,
          le,
          b.2,
          length-append (ts ++ us) (Op s ∷ rest),
          length-append ts us,
          length-append us (Op s ∷ rest),
        ) in
        ap (comps_loop (read (suc d)) (suc m) acc) (append_assoc ts us (Op s ∷ rest))
        ∙ (p.1 d (omega (arith, h)) (us ++ (Op s ∷ rest)) (omega (arith, c.0)) m acc
        ∙ (q.1 d (omega (arith, h)) s rest z m l1 (acc ++ (g ∷ [])) ∙ ap (λ z. Found z (Op s ∷ rest)) (append_assoc acc (g ∷ []) gs)))

comps_closed_step : (self : Reads) (s : Exact) (i rest : List Terminal) (gs : List Comprehension) (make : List Comprehension → Expr)
    → comps_loop self (length i) [] i ≡ Found gs (Op s ∷ rest) → comps_closed self s i make ≡ Found (make gs) rest
comps_closed_step self s i rest gs make h = rw h (hit_op s rest (λ _ r1. Found (make gs) r1) NoForm)

pub comps_close : (us : List Terminal) (gs : List Comprehension) (k : CompsReads us gs) (d : ℕ) → k.0 ≤ d
    → (s : Exact) (rest : List Terminal) → grip (Op s) ≡ 0 → (make : List Comprehension → Expr)
    → comps_closed (read (suc d)) s (us ++ (Op s ∷ rest)) make ≡ Found (make gs) rest
comps_close us gs k d h s rest z make = comps_closed_step (read (suc d)) s (us ++ (Op s ∷ rest)) rest gs make
    (k.1 d h s rest z (length (us ++ (Op s ∷ rest))) (omega arith) [])
