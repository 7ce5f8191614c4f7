-- Forms of the levels without operators.
--
-- Carries: YieldsReads, starts_of, PerhapsReads, nothing_goes and 17 more, for Complete, Atoms. On:
-- LookLemmas, Climb, LevelLemmas, Comps.
use Rattle.std.proofs.Common.{◌≡◌, refl, ap, ◌∙◌, ℕ, suc, ◌≤◌, ◌<◌, arith, List, [], ◌∷◌, ◌++◌, length, Some, true, false, append_assoc}
use Rattle.std.proofs.lemmas.Bool.{le-leb}
use Rattle.std.specs.Prelude.{max}
use Rattle.pylex_lexeme.specs.declared.kinds.Exact.TheVariants.{Colon, Comma, Star, ColonEqual}
use Rattle.pytoken.specs.declared.keywords.Keyword.TheVariants as Key
use Rattle.pytree_node.specs.declared.operators.Context.TheVariants.{Load, Store}
use Rattle.pygrammar.specs.declared.levels.Level.{Level}
use Rattle.pygrammar.specs.declared.levels.Level.TheVariants.{Value, Stars, StarItem, Named, Expression, Or, BitOr, Primary, Elem, Slices}
use Rattle.pygrammar.specs.declared.levels.Level.TheVariants.{Part, Slice, Subject}
use Rattle.pytree_node.specs.Trees
use Rattle.pytree_node.specs.Trees.{Expr, no_exprs, an_expr, OptionalExpr, absent, present, Arguments}
use Rattle.pytoken.specs.Terminals.{Spelled, Terminal, Op, Word, Ident}
use Rattle.pygrammar.specs.Looks.{is_word}
use Rattle.pygrammar.specs.Targets.{all_stored, both, stored}
use Rattle.pygrammar.specs.Entries.{Of, Parameter, Entry, singles}
use Rattle.pygrammar.specs.Parameters.{arranged}
use Rattle.pygrammar.specs.Grammar as G
use Rattle.pygrammar.specs.Reader.{Answer, Found, and_then, on_first, level_step, read, target_item, read_target, perhaps, yield_step}
use Rattle.pygrammar.specs.Reader.{starred, slice_rest, listing_loop, target_piece, listing_of, Reads}
use Rattle.pygrammar.specs.Precedence.{lead, first, starts}
use Rattle.pygrammar.proofs.Completeness.LookLemmas.{grip_of, lead_of, miss_op, miss_word, pass_op, pass_word, miss_name_with}
use Rattle.pygrammar.proofs.Completeness.Climb.{Stops, ReadsAt, no_target, ReadsAs, deeper, unroll, answers}
use Rattle.pygrammar.proofs.Completeness.LevelLemmas.{led, free, first_pos, next_goes}
use Rattle.pygrammar.proofs.Completeness.Comps.{ListingReads, mapped_some, both_some, starts_low}

-- [X]
abbrev pub PerhapsReads : Level → List Terminal → OptionalExpr → Type 0
PerhapsReads l ts a = (n : ℕ) × ((d : ℕ) → n ≤ d → (rest : List Terminal) → Stops l rest → starts (Of l) rest ≡ false
    → perhaps (read (suc d)) l (ts ++ rest) ≡ Found a rest)

pub nothing_goes : (l : Level) → PerhapsReads l [] absent
nothing_goes l = (0, λ d h rest s w. rw w refl)

something_step : (self : Reads) (l : Level) (i rest : List Terminal) (e : Expr) → starts (Of l) i ≡ true → self l i ≡ Found e rest
    → perhaps self l i ≡ Found (present e) rest
something_step self l i rest e h k = rw h (rw k refl)

pub starts_of : (l : Level) (ts us : List Terminal) → first l ≤ lead_of ts → starts (Of l) (ts ++ us) ≡ true
starts_of l [] us h = absurd (omega (arith, h, first_pos l))
starts_of l (t ∷ ts) us h = le-leb (first l) (lead t) h

pub something_goes : (l : Level) (ts : List Terminal) (e : Expr) → first l ≤ lead_of ts → ReadsAs l ts e → PerhapsReads l ts (present e)
something_goes l ts e f p =
    (p.0, λ d h rest s w. something_step (read (suc d)) l (ts ++ rest) rest e (starts_of l ts rest f) (answers l ts e d rest (p.1 d h) s))

-- yield
abbrev pub YieldsReads : List Terminal → Expr → Type 0
YieldsReads ts e = (n : ℕ) × ((d : ℕ) → n ≤ d → (rest : List Terminal) → Stops Value rest
    → yield_step (read (suc d)) (ts ++ rest) ≡ Found e rest)

yield_from_step : (self : Reads) (i rest : List Terminal) (e : Expr) → self Expression i ≡ Found e rest
    → yield_step self (Word Key.From ∷ i) ≡ Found (Trees.YieldFrom e) rest
yield_from_step self i rest e h = rw h refl

pub yield_from_goes : (ts : List Terminal) (e : Expr) → ReadsAs Expression ts e → YieldsReads (Word Key.From ∷ ts) (Trees.YieldFrom e)
yield_from_goes ts e p = (p.0, λ d h rest s. yield_from_step (read (suc d)) (ts ++ rest) rest e (p.1 d h rest (omega (arith, s.0))))

not_from : {ts : List Terminal} {a : OptionalExpr} → G.Perhaps Stars ts a → (us : List Terminal) → grip_of us ≤ 2
    → (A : Type 0) (hit : ℕ → List Terminal → A) (other : A) → on_first (is_word Key.From) (ts ++ us) hit other ≡ other
not_from G.nothing us w A hit other = miss_word Key.From us hit other (λ q. omega (arith, w, q))
not_from (G.something {ts = ts} p) us w A hit other = pass_word Key.From ts us hit other (omega (arith, led p))

yield_some_step : (self : Reads) (i rest : List Terminal) (a : OptionalExpr) → perhaps self Stars i ≡ Found a rest
    → and_then (perhaps self Stars i) (λ e r1. Found (Trees.Yield e) r1) ≡ Found (Trees.Yield a) rest
yield_some_step self i rest a h = rw h refl

pub yield_some_goes : (ts : List Terminal) (a : OptionalExpr) → G.Perhaps Stars ts a → PerhapsReads Stars ts a
    → YieldsReads ts (Trees.Yield a)
yield_some_goes ts a w p = (
  p.0,
  λ d h rest s. not_from w rest s.0 (Answer Expr) _ _ ∙ yield_some_step (read (suc d)) (ts ++ rest) rest a
      (p.1 d h rest s (starts_low Stars rest (omega (arith, s.1)))),
)

pub yields_goes : (ts : List Terminal) (e : Expr) → YieldsReads ts e → ReadsAs Value (Word Key.Yield ∷ ts) e
yields_goes ts e p = (
  suc p.0,
  deeper (ReadsAt Value (Word Key.Yield ∷ ts) e) p.0 (λ d h rest s. unroll (suc d) Value (Word Key.Yield ∷ (ts ++ rest))
      ∙ p.1 d h rest s),
  λ d h. tt,
)

-- stars
starred_step : (self : Reads) (l : Level) (i rest : List Terminal) (e : Expr) (other : Answer Expr) → self l i ≡ Found e rest
    → starred self l (Op Star ∷ i) other ≡ Found (Trees.Starred e Load) rest
starred_step self l i rest e other h = rw h refl

starred_stored : (e s : Expr) → stored (Trees.Starred e Load) ≡ Some s → (a : Expr) × (stored e ≡ Some a)
starred_stored (Trees.Starred e c) s h = absurd (cc)
starred_stored e s h = mapped_some (λ f. Trees.Starred f Store) (stored e) s h

pub star_item_goes : (ts : List Terminal) (e : Expr) → ReadsAs BitOr ts e → ReadsAs StarItem (Op Star ∷ ts) (Trees.Starred e Load)
star_item_goes ts e p = (
  suc p.0,
  deeper (ReadsAt StarItem (Op Star ∷ ts) (Trees.Starred e Load)) p.0
      (λ d h rest s. unroll (suc d) StarItem (Op Star ∷ (ts ++ rest)) ∙ starred_step (read (suc d)) BitOr (ts ++ rest) rest e
      (read (suc (suc d)) Expression (Op Star ∷ (ts ++ rest))) (answers BitOr ts e d rest (p.1 d h) (omega (arith, s)))),
  λ d h s q rest g. let w = starred_stored e s q in starred_step (read (suc d)) Primary (ts ++ rest) rest e
      (read (suc d) Primary (Op Star ∷ (ts ++ rest))) (p.2 d (omega (arith, h)) w.0 w.1 rest g),
)

pub star_elem_goes : (ts : List Terminal) (e : Expr) → ReadsAs BitOr ts e → ReadsAs Elem (Op Star ∷ ts) (Trees.Starred e Load)
star_elem_goes ts e p = (
  suc p.0,
  deeper (ReadsAt Elem (Op Star ∷ ts) (Trees.Starred e Load)) p.0 (λ d h rest s. unroll (suc d) Elem (Op Star ∷ (ts ++ rest))
      ∙ starred_step (read (suc d)) BitOr (ts ++ rest) rest e (read (suc (suc d)) Named (Op Star ∷ (ts ++ rest)))
      (answers BitOr ts e d rest (p.1 d h) (omega (arith, s)))),
  λ d h. tt,
)

pub star_part_goes : (ts : List Terminal) (e : Expr) → ReadsAs Expression ts e → ReadsAs Part (Op Star ∷ ts) (Trees.Starred e Load)
star_part_goes ts e p = (
  suc p.0,
  deeper (ReadsAt Part (Op Star ∷ ts) (Trees.Starred e Load)) p.0 (λ d h rest s. unroll (suc d) Part (Op Star ∷ (ts ++ rest))
      ∙ starred_step (read (suc d)) Expression (ts ++ rest) rest e (read (suc (suc d)) Slice (Op Star ∷ (ts ++ rest)))
      (p.1 d h rest (omega (arith, s.0)))),
  λ d h. tt,
)

star_slices_step : (next inner : Reads) (i rest : List Terminal) (e : Expr) → next Part (Op Star ∷ i) ≡ Found e rest
    → (grip_of rest ≡ 3 → ⊥) → level_step next inner Slices (Op Star ∷ i) ≡ Found (Trees.Tuple (an_expr e no_exprs) Load) rest
star_slices_step next inner i rest e h g = rw h (miss_op Comma rest _ _ g)

pub star_slices_goes : (ts : List Terminal) (e : Expr) → ReadsAs Expression ts e
    → ReadsAs Slices (Op Star ∷ ts) (Trees.Tuple (an_expr (Trees.Starred e Load) no_exprs) Load)
star_slices_goes ts e p = let k = star_part_goes ts e p in (
  k.0,
  λ d h rest s. unroll d Slices (Op Star ∷ (ts ++ rest))
      ∙ star_slices_step (read (suc d)) (read d) (ts ++ rest) rest (Trees.Starred e Load)
      (k.1 d h rest (omega (arith, s.0), omega (arith, s.1))) (λ q. omega (arith, s.0, q)),
  λ d h. tt,
)

-- tuples without brackets
tuple_step : (next inner : Reads) (i r rest : List Terminal) (e : Expr) (es : List Entry) → next StarItem i ≡ Found e (Op Comma ∷ r)
    → listing_of inner (Of StarItem) [] r ≡ Found es rest
    → level_step next inner Stars i ≡ Found (Trees.Tuple (an_expr e (singles es)) Load) rest
tuple_step next inner i r rest e es h k = rw (h, k) refl

target_tuple_step : (self : Reads) (i r rest : List Terminal) (e : Expr) (es : List Entry) → target_item self i ≡ Found e (Op Comma ∷ r)
    → listing_loop (target_piece self) (Of StarItem) (length r) [] r ≡ Found es rest
    → read_target self i ≡ Found (Trees.Tuple (an_expr e (singles es)) Load) rest
target_tuple_step self i r rest e es h k = rw h (rw k refl)

pub star_tuple_goes : (ts us : List Terminal) (e : Expr) (es : List Entry) → ReadsAs StarItem ts e → ListingReads (Of StarItem) us es
    → ReadsAs Stars (ts ++ (Op Comma ∷ us)) (Trees.Tuple (an_expr e (singles es)) Load)
star_tuple_goes ts us e es p k = (
  suc (max p.0 k.0),
  deeper (ReadsAt Stars (ts ++ (Op Comma ∷ us)) (Trees.Tuple (an_expr e (singles es)) Load)) (max p.0 k.0) (λ d h rest s.
      let h1 = p.1 (suc d) (omega (arith, h)) (Op Comma ∷ (us ++ rest)) (omega arith) in
      let h2 = k.1 d (omega (arith, h)) (λ r. omega arith) rest (
        starts_low StarItem rest (omega (arith, s.1)),
        λ q. omega (arith, s.0, q),
        omega (arith, s.0),
      ) (length (us ++ rest)) (omega arith) [] in
      ap (read (suc (suc d)) Stars) (append_assoc ts (Op Comma ∷ us) rest) ∙ (unroll (suc d) Stars (ts ++ (Op Comma ∷ (us ++ rest)))
      ∙ tuple_step (read (suc (suc d))) (read (suc d)) (ts ++ (Op Comma ∷ (us ++ rest))) (us ++ rest) rest e es h1 h2)),
  λ d h s q rest g c l.
      let v = mapped_some _ (both (stored e) (all_stored (singles es))) s q in
      let w = both_some (stored e) (all_stored (singles es)) v.0 v.1 in
      let h1 = p.2 d (omega (arith, h)) w.0.0 w.0.1 (Op Comma ∷ (us ++ rest)) (omega arith) in
      let h2 = k.2 d (omega (arith, h)) w.1.0 w.1.1 rest g c l (length (us ++ rest)) (omega arith) [] in
      ap (read_target (read (suc d))) (append_assoc ts (Op Comma ∷ us) rest)
      ∙ target_tuple_step (read (suc d)) (ts ++ (Op Comma ∷ (us ++ rest))) (us ++ rest) rest e es h1 h2,
)

parts_step : (next inner : Reads) (i r rest : List Terminal) (e : Expr) (es : List Entry) → next Part i ≡ Found e (Op Comma ∷ r)
    → listing_of inner (Of Part) [] r ≡ Found es rest
    → level_step next inner Slices i ≡ Found (Trees.Tuple (an_expr e (singles es)) Load) rest
parts_step next inner i r rest e es h k = rw (h, k) refl

pub parts_goes : (ts us : List Terminal) (e : Expr) (es : List Entry) → ReadsAs Part ts e → ListingReads (Of Part) us es
    → ReadsAs Slices (ts ++ (Op Comma ∷ us)) (Trees.Tuple (an_expr e (singles es)) Load)
parts_goes ts us e es p k = (
  suc (max p.0 k.0),
  deeper (ReadsAt Slices (ts ++ (Op Comma ∷ us)) (Trees.Tuple (an_expr e (singles es)) Load)) (max p.0 k.0) (λ d h rest s.
      let h1 = p.1 (suc d) (omega (arith, h)) (Op Comma ∷ (us ++ rest)) (omega arith, omega arith) in
      let h2 = k.1 d (omega (arith, h)) (λ r. (omega arith, omega arith)) rest (
        starts_low Part rest (omega (arith, s.1)),
        λ q. omega (arith, s.0, q),
        (omega (arith, s.0), omega (arith, s.1)),
      ) (length (us ++ rest)) (omega arith) [] in
      ap (read (suc (suc d)) Slices) (append_assoc ts (Op Comma ∷ us) rest) ∙ (unroll (suc d) Slices (ts ++ (Op Comma ∷ (us ++ rest)))
      ∙ parts_step (read (suc (suc d))) (read (suc d)) (ts ++ (Op Comma ∷ (us ++ rest))) (us ++ rest) rest e es h1 h2)),
  λ d h. tt,
)

subject_tuple_step : (next inner : Reads) (i r rest : List Terminal) (e : Expr) (es : List Entry) → next Elem i ≡ Found e (Op Comma ∷ r)
    → listing_of inner (Of Elem) [] r ≡ Found es rest
    → level_step next inner Subject i ≡ Found (Trees.Tuple (an_expr e (singles es)) Load) rest
subject_tuple_step next inner i r rest e es h k = rw (h, k) refl

pub subject_tuple_goes : (ts us : List Terminal) (e : Expr) (es : List Entry) → ReadsAs Elem ts e → ListingReads (Of Elem) us es
    → ReadsAs Subject (ts ++ (Op Comma ∷ us)) (Trees.Tuple (an_expr e (singles es)) Load)
subject_tuple_goes ts us e es p k = (
  suc (max p.0 k.0),
  deeper (ReadsAt Subject (ts ++ (Op Comma ∷ us)) (Trees.Tuple (an_expr e (singles es)) Load)) (max p.0 k.0) (λ d h rest s.
      let h1 = p.1 (suc d) (omega (arith, h)) (Op Comma ∷ (us ++ rest)) (omega arith) in
      let h2 = k.1 d (omega (arith, h)) (λ r. omega arith) rest (starts_low Elem rest (omega (arith, s.2)), s.1, s.0)
      (length (us ++ rest)) (omega arith) [] in
      ap (read (suc (suc d)) Subject) (append_assoc ts (Op Comma ∷ us) rest) ∙ (unroll (suc d) Subject (ts ++ (Op Comma ∷ (us ++ rest)))
      ∙ subject_tuple_step (read (suc (suc d))) (read (suc d)) (ts ++ (Op Comma ∷ (us ++ rest))) (us ++ rest) rest e es h1 h2)),
  λ d h. tt,
)

-- names, lambda, conditions
named_form_step : (next inner : Reads) (x : Spelled) (i rest : List Terminal) (e : Expr) → inner Expression i ≡ Found e rest
    → level_step next inner Named (Ident x ∷ (Op ColonEqual ∷ i)) ≡ Found (Trees.NamedExpr (Trees.Name x.form Store) e) rest
named_form_step next inner x i rest e h = rw h refl

pub named_goes : (x : Spelled) (ts : List Terminal) (e : Expr) → ReadsAs Expression ts e
    → ReadsAs Named (Ident x ∷ (Op ColonEqual ∷ ts)) (Trees.NamedExpr (Trees.Name x.form Store) e)
named_goes x ts e p = (
  suc p.0,
  deeper (ReadsAt Named (Ident x ∷ (Op ColonEqual ∷ ts)) (Trees.NamedExpr (Trees.Name x.form Store) e)) p.0
      (λ d h rest s. unroll (suc d) Named (Ident x ∷ (Op ColonEqual ∷ (ts ++ rest))) ∙ named_form_step (read (suc (suc d))) (read (suc d)) x
      (ts ++ rest) rest e (p.1 d h rest (omega (arith, s)))),
  λ d h. tt,
)

lambda_form_step : (next inner : Reads) (i r rest : List Terminal) (ps : List Entry) (a : Arguments) (e : Expr)
    → listing_of inner (Parameter false) [] i ≡ Found ps (Op Colon ∷ r) → inner Expression r ≡ Found e rest → arranged ps ≡ Some a
    → level_step next inner Expression (Word Key.Lambda ∷ i) ≡ Found (Trees.Lambda a e) rest
lambda_form_step next inner i r rest ps a e h1 h2 h3 = rw h1 (rw h2 (rw h3 refl))

pub lambda_goes : (ts us : List Terminal) (ps : List Entry) (a : Arguments) (e : Expr) → arranged ps ≡ Some a
    → ListingReads (Parameter false) ts ps → ReadsAs Expression us e
    → ReadsAs Expression (Word Key.Lambda ∷ (ts ++ (Op Colon ∷ us))) (Trees.Lambda a e)
lambda_goes ts us ps a e w k p = (
  suc (max p.0 k.0),
  deeper (ReadsAt Expression (Word Key.Lambda ∷ (ts ++ (Op Colon ∷ us))) (Trees.Lambda a e)) (max p.0 k.0) (λ d h rest s.
      let i = Op Colon ∷ (us ++ rest) in
      let h1 = k.1 d (omega (arith, h)) (λ r. (λ q. absurd (omega (arith, q)), omega arith, omega arith)) i (
        refl,
        λ q. absurd (omega (arith, q)),
        (λ q. absurd (omega (arith, q)), omega arith, omega arith),
      ) (length (ts ++ i)) (omega arith) [] in
      let h2 = p.1 d (omega (arith, h)) rest s in
      ap (λ z. read (suc (suc d)) Expression (Word Key.Lambda ∷ z)) (append_assoc ts (Op Colon ∷ us) rest)
      ∙ (unroll (suc d) Expression (Word Key.Lambda ∷ (ts ++ i)) ∙ lambda_form_step (read (suc (suc d))) (read (suc d)) (ts ++ i)
      (us ++ rest) rest ps a e h1 h2 w)),
  λ d h. no_target Expression (Word Key.Lambda ∷ (ts ++ (Op Colon ∷ us))) (Trees.Lambda a e) d refl,
)

if_else_form_step : (next inner : Reads) (ts us r1 r2 rest : List Terminal) (a b c : Expr) → 9 < lead_of ts
    → next Or (ts ++ us) ≡ Found b (Word Key.If ∷ r1) → inner Or r1 ≡ Found a (Word Key.Else ∷ r2) → inner Expression r2 ≡ Found c rest
    → level_step next inner Expression (ts ++ us) ≡ Found (Trees.IfExp a b c) rest
if_else_form_step next inner ts us r1 r2 rest a b c l h1 h2 h3 = pass_word Key.Lambda ts us _ _ l ∙ rw h1 (rw h2 (rw h3 refl))

pub if_shape : (ts us vs rest : List Terminal) (s t : Terminal)
    → (ts ++ (s ∷ (us ++ (t ∷ vs)))) ++ rest ≡ ts ++ (s ∷ (us ++ (t ∷ (vs ++ rest))))
if_shape ts us vs rest s t = simp append_assoc refl

pub if_else_goes : (ts us vs : List Terminal) (a b c : Expr) → 9 < lead_of ts → ReadsAs Or ts b → ReadsAs Or us a → ReadsAs Expression vs c
    → ReadsAs Expression (ts ++ (Word Key.If ∷ (us ++ (Word Key.Else ∷ vs)))) (Trees.IfExp a b c)
if_else_goes ts us vs a b c l p q r = (
  suc (max p.0 (max q.0 r.0)),
  deeper (ReadsAt Expression (ts ++ (Word Key.If ∷ (us ++ (Word Key.Else ∷ vs)))) (Trees.IfExp a b c))
      (max p.0 (max q.0 r.0)) (λ d h rest s.
      let r2 = vs ++ rest in
      let r1 = us ++ (Word Key.Else ∷ (vs ++ rest)) in
      let h1 = answers Or ts b (suc d) (Word Key.If ∷ (us ++ (Word Key.Else ∷ (vs ++ rest))))
      (p.1 (suc d) (omega (arith, h))) (omega arith) in
      let h2 = answers Or us a d (Word Key.Else ∷ (vs ++ rest)) (q.1 d (omega (arith, h))) (omega arith) in
      let h3 = r.1 d (omega (arith, h)) rest s in
      ap (read (suc (suc d)) Expression) (if_shape ts us vs rest (Word Key.If) (Word Key.Else))
      ∙ (unroll (suc d) Expression (ts ++ (Word Key.If ∷ r1)) ∙ if_else_form_step (read (suc (suc d))) (read (suc d)) ts
      (Word Key.If ∷ r1) r1 r2 rest a b c l h1 h2 h3)),
  λ d h. no_target Expression (ts ++ (Word Key.If ∷ (us ++ (Word Key.Else ∷ vs)))) (Trees.IfExp a b c) d refl,
)

-- slices
slice_end : (self : Reads) (a b : OptionalExpr) (i rest : List Terminal) → perhaps self Expression i ≡ Found b rest → (grip_of rest ≡ 5 → ⊥)
    → slice_rest self a i ≡ Found (Trees.Slice a b absent) rest
slice_end self a b i rest h g = rw h (miss_op Colon rest _ _ g)

slice_more : (self : Reads) (a b c : OptionalExpr) (i r rest : List Terminal) → perhaps self Expression i ≡ Found b (Op Colon ∷ r)
    → perhaps self Expression r ≡ Found c rest → slice_rest self a i ≡ Found (Trees.Slice a b c) rest
slice_more self a b c i r rest h k = rw h (rw k refl)

abbrev pub FrontReads : List Terminal → OptionalExpr → Type 0
FrontReads ts a = (n : ℕ) × ((d : ℕ) → n ≤ d → (i rest : List Terminal) (e : Expr) → slice_rest (read (suc d)) a i ≡ Found e rest
    → read (suc (suc d)) Slice (ts ++ (Op Colon ∷ i)) ≡ Found e rest)

front_step : (next inner : Reads) (ts i rest : List Terminal) (a e : Expr) → 9 ≤ lead_of ts
    → next Named (ts ++ (Op Colon ∷ i)) ≡ Found a (Op Colon ∷ i)
    → ((x : Spelled) (us : List Terminal) → ts ++ (Op Colon ∷ i) ≡ Ident x ∷ (Op ColonEqual ∷ us) → ⊥)
    → slice_rest inner (present a) i ≡ Found e rest → level_step next inner Slice (ts ++ (Op Colon ∷ i)) ≡ Found e rest
front_step next inner ts i rest a e l h f k = pass_op Colon ts (Op Colon ∷ i) _ _ (omega (arith, l))
    ∙ rw h (miss_name_with ColonEqual (ts ++ (Op Colon ∷ i)) _ _ f ∙ k)

pub front_nothing : FrontReads [] absent
front_nothing = (0, λ d h i rest e k. unroll (suc d) Slice (Op Colon ∷ i) ∙ k)

pub front_something : (ts : List Terminal) (a : Expr) → 9 ≤ lead_of ts → ReadsAs Expression ts a → FrontReads ts (present a)
front_something ts a w q =
    let k = next_goes Named ts a w tt q in (
      max q.0 k.0,
      λ d h i rest e v. unroll (suc d) Slice (ts ++ (Op Colon ∷ i)) ∙ front_step (read (suc (suc d))) (read (suc d)) ts i rest a
          e w (k.1 (suc d) (omega (arith, h)) (Op Colon ∷ i) (omega arith)) (free (suc d) Expression ColonEqual (ts ++ (Op Colon ∷ i))
          (Op Colon ∷ i) a (λ x us. refl) (q.1 (suc d) (omega (arith, h)) (Op Colon ∷ i) (omega arith)) (λ q. absurd (omega (arith, q)))) v,
    )

pub slice_goes : (ts us : List Terminal) (a b : OptionalExpr) → FrontReads ts a → PerhapsReads Expression us b
    → ReadsAs Slice (ts ++ (Op Colon ∷ us)) (Trees.Slice a b absent)
slice_goes ts us a b f p = (
  suc (max f.0 p.0),
  deeper (ReadsAt Slice (ts ++ (Op Colon ∷ us)) (Trees.Slice a b absent)) (max f.0 p.0) (λ d h rest s.
      ap (read (suc (suc d)) Slice) (append_assoc ts (Op Colon ∷ us) rest)
      ∙ f.1 d (omega (arith, h)) (us ++ rest) rest (Trees.Slice a b absent)
      (slice_end (read (suc d)) a b (us ++ rest) rest (p.1 d (omega (arith, h)) rest (omega (arith, s.0))
      (starts_low Expression rest (omega (arith, s.1)))) (λ q. omega (arith, s.0, q)))),
  λ d h. tt,
)

pub slice_step_goes : (ts us vs : List Terminal) (a b c : OptionalExpr) → FrontReads ts a → PerhapsReads Expression us b
    → PerhapsReads Expression vs c → ReadsAs Slice (ts ++ (Op Colon ∷ (us ++ (Op Colon ∷ vs)))) (Trees.Slice a b c)
slice_step_goes ts us vs a b c f p q = (
  suc (max f.0 (max p.0 q.0)),
  deeper (ReadsAt Slice (ts ++ (Op Colon ∷ (us ++ (Op Colon ∷ vs)))) (Trees.Slice a b c)) (max f.0 (max p.0 q.0)) (λ d h rest s.
      ap (read (suc (suc d)) Slice) (if_shape ts us vs rest (Op Colon) (Op Colon))
      ∙ f.1 d (omega (arith, h)) (us ++ (Op Colon ∷ (vs ++ rest))) rest (Trees.Slice a b c)
      (slice_more (read (suc d)) a b c (us ++ (Op Colon ∷ (vs ++ rest))) (vs ++ rest) rest
      (p.1 d (omega (arith, h)) (Op Colon ∷ (vs ++ rest)) (omega arith) refl) (q.1 d (omega (arith, h)) rest (omega (arith, s.0))
      (starts_low Expression rest (omega (arith, s.1)))))),
  λ d h. tt,
)
