-- Lists with commas and what stands in them; comprehensions.
--
-- Carries: PieceReads, piece_starts, SuffixReads, no_suffix_goes and 16 more, for Complete, Comps,
-- Tools. On: LookLemmas, Climb, LevelLemmas.
use Rattle.std.proofs.Common.{◌≡◌, ◌⊎◌, inl, inr, refl, sym, ap, ◌∙◌, ℕ, suc, ◌≤◌, ◌<◌, arith, List, [], ◌∷◌, ◌++◌, Option, Some, None}
use Rattle.std.proofs.Common.{Bool, true, false, cond, append_assoc}
use Rattle.std.proofs.lemmas.Bool.{le-leb}
use Rattle.std.specs.Prelude.{max}
use Rattle.pylex_lexeme.specs.declared.kinds.Exact.{Exact}
use Rattle.pylex_lexeme.specs.declared.kinds.Exact.TheVariants.{Colon, Star, Slash, Equal, DoubleStar}
use Rattle.pytree_node.specs.declared.operators.Context.TheVariants.{Load}
use Rattle.pygrammar.specs.declared.levels.Level.{Level}
use Rattle.pygrammar.specs.declared.levels.Level.TheVariants.{StarItem, Named, Expression, BitOr}
use Rattle.pytree_node.specs.Trees
use Rattle.pytree_node.specs.Trees.{Expr, OptionalExpr, absent, present, arg}
use Rattle.pytoken.specs.Terminals.{Spelled, Terminal, Op, Ident}
use Rattle.pygrammar.specs.Entries.{Item, Of, Pair, Argument, Parameter, Entry, Single, Paired, Spread, Doubled, Keyed, Plain, Slashed}
use Rattle.pygrammar.specs.Entries.{Bare, Gathered, Collected}
use Rattle.pygrammar.specs.Targets.{stored}
use Rattle.pygrammar.specs.Grammar as G
use Rattle.pygrammar.specs.Reader.{Answer, Found, NoForm, TooDeep, and_then, Reads, read, target_item, suffixed, annotated, star_annotated}
use Rattle.pygrammar.specs.Reader.{read_pair, read_argument, read_parameter, piece, target_piece}
use Rattle.pygrammar.specs.Precedence.{lead, first, begins, starts}
use Rattle.pygrammar.proofs.Completeness.LookLemmas.{grip, grip_of, lead_of, miss_op, pass_op, hit_op, op_or_not, miss_name, miss_name_with}
use Rattle.pygrammar.proofs.Completeness.Climb.{Stops, TargetAt, ReadsAs, answers}
use Rattle.pygrammar.proofs.Completeness.LevelLemmas.{led, free, first_pos}

-- a sign and an Expression, or nothing
abbrev pub SuffixStops : Option Exact → List Terminal → Type 0
SuffixStops None r = Unit {0}
SuffixStops (Some x) r = (grip_of r ≡ grip (Op x) → ⊥) × (grip_of r ≤ 8)

abbrev pub SuffixReads : Option Exact → List Terminal → OptionalExpr → Type 0
SuffixReads s ts a = (n : ℕ) × ((d : ℕ) → n ≤ d → (rest : List Terminal) → SuffixStops s rest
    → suffixed (read (suc d)) s (ts ++ rest) ≡ Found a rest)

pub no_suffix_goes : (s : Option Exact) → SuffixReads s [] absent
no_suffix_goes None = (0, λ d h rest g. refl)
no_suffix_goes (Some x) = (0, λ d h rest g. miss_op x rest _ _ g.0)

suffix_step : (self : Reads) (x : Exact) (i rest : List Terminal) (e : Expr) → self Expression i ≡ Found e rest
    → suffixed self (Some x) (Op x ∷ i) ≡ Found (present e) rest
suffix_step self x i rest e h = hit_op x i (λ _ r1. and_then (self Expression r1) (λ e r2. Found (present e) r2)) (Found absent (Op x ∷ i))
    ∙ rw h refl

pub suffix_goes : (x : Exact) (ts : List Terminal) (e : Expr) → ReadsAs Expression ts e → SuffixReads (Some x) (Op x ∷ ts) (present e)
suffix_goes x ts e p = (p.0, λ d h rest g. suffix_step (read (suc d)) x (ts ++ rest) rest e (p.1 d h rest g.1))

-- what may follow an item
abbrev pub PieceStops : Item → List Terminal → Type 0
PieceStops (Of l) r = Stops l r
PieceStops Pair r = grip_of r ≤ 7
PieceStops Argument r = (grip_of r ≤ 7) × (grip_of r ≡ 1 → ⊥)
PieceStops (Parameter false) r = (grip_of r ≡ 1 → ⊥) × (grip_of r ≤ 8) × (lead_of r ≤ 5)
PieceStops (Parameter true) r = (grip_of r ≡ 1 → ⊥) × (grip_of r ≤ 8) × (lead_of r ≤ 5) × (grip_of r ≡ 5 → ⊥)

abbrev pub PieceTarget : Item → List Terminal → Entry → ℕ → Type 0
PieceTarget (Of StarItem) ts a d = (e : Expr) × (a ≡ Single e) × ((s : Expr) → stored e ≡ Some s → (rest : List Terminal)
    → grip_of rest ≤ 22 → target_piece (read (suc d)) (ts ++ rest) ≡ Found (Single e) rest)
PieceTarget i ts a d = Unit {0}

abbrev pub PieceReads : Item → List Terminal → Entry → Type 0
PieceReads i ts a = (n : ℕ) × ((d : ℕ) → n ≤ d → (rest : List Terminal) → PieceStops i rest
    → piece (read (suc d)) i (ts ++ rest) ≡ Found a rest) × ((d : ℕ) → n ≤ d → PieceTarget i ts a d)

of_step : (self : Reads) (l : Level) (i rest : List Terminal) (e : Expr) → self l i ≡ Found e rest
    → piece self (Of l) i ≡ Found (Single e) rest
of_step self l i rest e h = rw h refl

target_of_step : (self : Reads) (i rest : List Terminal) (e : Expr) → target_item self i ≡ Found e rest
    → target_piece self i ≡ Found (Single e) rest
target_of_step self i rest e h = rw h refl

pub single_target : (l : Level) (ts : List Terminal) (e : Expr) (d : ℕ) → TargetAt l ts e d → PieceTarget (Of l) ts (Single e) d
single_target StarItem ts e d p = (e, refl, λ s q rest g. target_of_step (read (suc d)) (ts ++ rest) rest e (p s q rest g))
single_target _ ts e d p = tt

pub single_goes : (l : Level) (ts : List Terminal) (e : Expr) → ReadsAs l ts e → PieceReads (Of l) ts (Single e)
single_goes l ts e p = (
  p.0,
  λ d h rest s. of_step (read (suc d)) l (ts ++ rest) rest e (answers l ts e d rest (p.1 d h) s),
  λ d h. single_target l ts e d (p.2 d h),
)

-- pairs
pair_step : (self : Reads) (ts r rest : List Terminal) (k e : Expr) → 2 < lead_of ts → self Expression (ts ++ (Op Colon ∷ r)) ≡ Found k
    (Op Colon ∷ r) → self Expression r ≡ Found e rest → read_pair self (ts ++ (Op Colon ∷ r)) ≡ Found (Paired k e) rest
pair_step self ts r rest k e l h1 h2 = pass_op DoubleStar ts (Op Colon ∷ r) _ _ (omega (arith, l)) ∙ rw (h1, h2) refl

pub pair_goes : (ts us : List Terminal) (k e : Expr) → 9 ≤ lead_of ts → ReadsAs Expression ts k → ReadsAs Expression us e
    → PieceReads Pair (ts ++ (Op Colon ∷ us)) (Paired k e)
pair_goes ts us k e l p q = (
  max p.0 q.0,
  λ d h rest s. ap (read_pair (read (suc d))) (append_assoc ts (Op Colon ∷ us) rest)
      ∙ pair_step (read (suc d)) ts (us ++ rest) rest k e (omega (arith, l)) (p.1 d (omega (arith, h)) (Op Colon ∷ (us ++ rest))
      (omega arith)) (q.1 d (omega (arith, h)) rest (omega (arith, s))),
  λ d h. tt,
)

doubled_step : (self : Reads) (i rest : List Terminal) (e : Expr) → self BitOr i ≡ Found e rest
    → read_pair self (Op DoubleStar ∷ i) ≡ Found (Doubled e) rest
doubled_step self i rest e h = rw h refl

pub pairs_of_goes : (ts : List Terminal) (e : Expr) → ReadsAs BitOr ts e → PieceReads Pair (Op DoubleStar ∷ ts) (Doubled e)
pairs_of_goes ts e p =
    (p.0, λ d h rest s. doubled_step (read (suc d)) (ts ++ rest) rest e (answers BitOr ts e d rest (p.1 d h) (omega (arith, s))), λ d h. tt)

-- arguments
argument_step : (self : Reads) (ts us rest : List Terminal) (e : Expr) → 9 ≤ lead_of ts
    → ((x : Spelled) (vs : List Terminal) → ts ++ us ≡ Ident x ∷ (Op Equal ∷ vs) → ⊥) → self Named (ts ++ us) ≡ Found e rest
    → read_argument self (ts ++ us) ≡ Found (Single e) rest
argument_step self ts us rest e l f h = pass_op Star ts us _ _ (omega (arith, l)) ∙ (pass_op DoubleStar ts us _ _ (omega (arith, l))
    ∙ (miss_name_with Equal (ts ++ us) _ _ f ∙ rw h refl))

pub argument_goes : (ts : List Terminal) (e : Expr) → 9 ≤ lead_of ts → ReadsAs Named ts e → PieceReads Argument ts (Single e)
argument_goes ts e l p = (
  p.0,
  λ d h rest s. let a = p.1 d h rest s.0 in
      argument_step (read (suc d)) ts rest rest e l (free d Named Equal (ts ++ rest) rest e (λ x us. refl) a s.1) a,
  λ d h. tt,
)

star_argument_step : (self : Reads) (i rest : List Terminal) (e : Expr) → self Expression i ≡ Found e rest
    → read_argument self (Op Star ∷ i) ≡ Found (Spread e) rest
star_argument_step self i rest e h = rw h refl

pub star_argument_goes : (ts : List Terminal) (e : Expr) → ReadsAs Expression ts e → PieceReads Argument (Op Star ∷ ts) (Spread e)
star_argument_goes ts e p =
    (p.0, λ d h rest s. star_argument_step (read (suc d)) (ts ++ rest) rest e (p.1 d h rest (omega (arith, s.0))), λ d h. tt)

keyword_argument_step : (self : Reads) (x : Spelled) (i rest : List Terminal) (e : Expr) → self Expression i ≡ Found e rest
    → read_argument self (Ident x ∷ (Op Equal ∷ i)) ≡ Found (Keyed x.form e) rest
keyword_argument_step self x i rest e h = rw h refl

pub keyword_argument_goes : (x : Spelled) (ts : List Terminal) (e : Expr) → ReadsAs Expression ts e
    → PieceReads Argument (Ident x ∷ (Op Equal ∷ ts)) (Keyed x.form e)
keyword_argument_goes x ts e p =
    (p.0, λ d h rest s. keyword_argument_step (read (suc d)) x (ts ++ rest) rest e (p.1 d h rest (omega (arith, s.0))), λ d h. tt)

double_argument_step : (self : Reads) (i rest : List Terminal) (e : Expr) → self Expression i ≡ Found e rest
    → read_argument self (Op DoubleStar ∷ i) ≡ Found (Doubled e) rest
double_argument_step self i rest e h = rw h refl

pub double_argument_goes : (ts : List Terminal) (e : Expr) → ReadsAs Expression ts e → PieceReads Argument (Op DoubleStar ∷ ts) (Doubled e)
double_argument_goes ts e p =
    (p.0, λ d h rest s. double_argument_step (read (suc d)) (ts ++ rest) rest e (p.1 d h rest (omega (arith, s.0))), λ d h. tt)

-- parameters
parameter_step : (self : Reads) (b : Bool) (x : Spelled) (i r rest : List Terminal) (a d : OptionalExpr) → annotated self b i ≡ Found a r
    → suffixed self (Some Equal) r ≡ Found d rest → read_parameter self b (Ident x ∷ i) ≡ Found (Plain (arg x.form a) d) rest
parameter_step self b x i r rest a d h1 h2 = rw h1 (rw h2 refl)

-- a default begins with its sign
default_grip : {us : List Terminal} {a : OptionalExpr} → G.Suffix (Some Equal) us a → (r : List Terminal)
    → (grip_of (us ++ r) ≡ 1) ⊎ (grip_of (us ++ r) ≡ grip_of r)
default_grip G.no_suffix r = inr refl
default_grip (G.suffix p) r = inl refl

pub parameter_goes : (b : Bool) (x : Spelled) (ts us : List Terminal) (a c : OptionalExpr) → SuffixReads (cond b (Some Colon) None) ts a
    → G.Suffix (Some Equal) us c → SuffixReads (Some Equal) us c → PieceReads (Parameter b) (Ident x ∷ (ts ++ us)) (Plain (arg x.form a) c)
parameter_goes false x ts us a c p w q = (
  max p.0 q.0,
  λ d h rest s. ap (λ z. read_parameter (read (suc d)) false (Ident x ∷ z)) (append_assoc ts us rest)
      ∙ parameter_step (read (suc d)) false x (ts ++ (us ++ rest)) (us ++ rest) rest a c (p.1 d (omega (arith, h)) (us ++ rest) tt)
      (q.1 d (omega (arith, h)) rest (s.0, s.1)),
  λ d h. tt,
)
parameter_goes true x ts us a c p w q = (
  max p.0 q.0,
  λ d h rest s. ap (λ z. read_parameter (read (suc d)) true (Ident x ∷ z)) (append_assoc ts us rest)
      ∙ parameter_step (read (suc d)) true x (ts ++ (us ++ rest)) (us ++ rest) rest a c
      (p.1 d (omega (arith, h)) (us ++ rest) (elim (default_grip w rest) [
        | inl e ↦ (λ q. absurd (omega (arith, e, q)), omega (arith, e))
        | inr e ↦ (λ q. s.3 (sym e ∙ q), omega (arith, e, s.1))
      ])) (q.1 d (omega (arith, h)) rest (s.0, s.1)),
  λ d h. tt,
)

pub slash_goes : (b : Bool) → PieceReads (Parameter b) (Op Slash ∷ []) Slashed
slash_goes b = (0, λ d h rest s. refl, λ d h. tt)

bare_step : (self : Reads) (b : Bool) (r : List Terminal) → lead_of r < 24 → read_parameter self b (Op Star ∷ r) ≡ Found Bare r
bare_step self b r h = miss_name r _ _ h

pub bare_goes : (b : Bool) → PieceReads (Parameter b) (Op Star ∷ []) Bare
bare_goes false = (0, λ d h rest s. bare_step (read (suc d)) false rest (omega (arith, s.2)), λ d h. tt)
bare_goes true = (0, λ d h rest s. bare_step (read (suc d)) true rest (omega (arith, s.2)), λ d h. tt)

star_parameter_step : (self : Reads) (b : Bool) (x : Spelled) (i rest : List Terminal) (a : OptionalExpr)
    → star_annotated self b i ≡ Found a rest → read_parameter self b (Op Star ∷ (Ident x ∷ i)) ≡ Found (Gathered (arg x.form a)) rest
star_parameter_step self b x i rest a h = rw h refl

-- an annotation of a star parameter that has no star
star_suffix : {ts : List Terminal} {a : OptionalExpr} → G.Suffix (Some Colon) ts a → (self : Reads) (us rest : List Terminal)
    → suffixed self (Some Colon) (ts ++ us) ≡ Found a rest → star_annotated self true (ts ++ us) ≡ Found a rest
star_suffix G.no_suffix self us rest h = go us h
  where
    go : (us : List Terminal) → suffixed self (Some Colon) us ≡ Found absent rest → star_annotated self true us ≡ Found absent rest
    go [] h = h
    go (t ∷ r) h = elim (op_or_not Colon t) [
      | inl e ↦ absurd (colon (self Expression r) (sym (ap (λ z. suffixed self (Some Colon) (z ∷ r)) e) ∙ h))
      | inr q ↦ rw q (sym (rw q refl) ∙ h)
    ]
      where
        colon : (x : Answer Expr) → and_then x (λ e r1. Found (present e) r1) ≡ Found absent rest → ⊥
        colon (Found e r) h = absurd (cc)
        colon NoForm h = absurd (cc)
        colon TooDeep h = absurd (cc)
star_suffix (G.suffix {ts = ts} p) self us rest h = pass_op Star ts us _ _ (omega (arith, led p)) ∙ h

pub star_parameter_goes : (b : Bool) (x : Spelled) (ts : List Terminal) (a : OptionalExpr) → G.Suffix (cond b (Some Colon) None) ts a
    → SuffixReads (cond b (Some Colon) None) ts a → PieceReads (Parameter b) (Op Star ∷ (Ident x ∷ ts)) (Gathered (arg x.form a))
star_parameter_goes false x ts a w p =
    (p.0, λ d h rest s. star_parameter_step (read (suc d)) false x (ts ++ rest) rest a (p.1 d h rest tt), λ d h. tt)
star_parameter_goes true x ts a w p = (
  p.0,
  λ d h rest s. star_parameter_step (read (suc d)) true x (ts ++ rest) rest a
      (star_suffix w (read (suc d)) rest rest (p.1 d h rest (s.3, s.1))),
  λ d h. tt,
)

star_annotation_step : (self : Reads) (x : Spelled) (i rest : List Terminal) (e : Expr) → self BitOr i ≡ Found e rest
    → read_parameter self true (Op Star ∷ (Ident x ∷ (Op Colon ∷ (Op Star ∷ i)))) ≡ Found
    (Gathered (arg x.form (present (Trees.Starred e Load)))) rest
star_annotation_step self x i rest e h = rw h refl

pub star_annotation_goes : (x : Spelled) (ts : List Terminal) (e : Expr) → ReadsAs BitOr ts e
    → PieceReads (Parameter true) (Op Star ∷ (Ident x ∷ (Op Colon ∷ (Op Star ∷ ts))))
    (Gathered (arg x.form (present (Trees.Starred e Load))))
star_annotation_goes x ts e p = (
  p.0,
  λ d h rest s. star_annotation_step (read (suc d)) x (ts ++ rest) rest e
      (answers BitOr ts e d rest (p.1 d h) (omega (arith, s.1))),
  λ d h. tt,
)

double_parameter_step : (self : Reads) (b : Bool) (x : Spelled) (i rest : List Terminal) (a : OptionalExpr)
    → annotated self b i ≡ Found a rest → read_parameter self b (Op DoubleStar ∷ (Ident x ∷ i)) ≡ Found (Collected (arg x.form a)) rest
double_parameter_step self b x i rest a h = rw h refl

pub double_parameter_goes : (b : Bool) (x : Spelled) (ts : List Terminal) (a : OptionalExpr) → SuffixReads (cond b (Some Colon) None) ts a
    → PieceReads (Parameter b) (Op DoubleStar ∷ (Ident x ∷ ts)) (Collected (arg x.form a))
double_parameter_goes false x ts a p =
    (p.0, λ d h rest s. double_parameter_step (read (suc d)) false x (ts ++ rest) rest a (p.1 d h rest tt), λ d h. tt)
double_parameter_goes true x ts a p =
    (p.0, λ d h rest s. double_parameter_step (read (suc d)) true x (ts ++ rest) rest a (p.1 d h rest (s.3, s.1)), λ d h. tt)

-- an item begins
begins_pair : (t : Terminal) → 9 ≤ lead t → begins Pair t ≡ true
begins_pair (Op DoubleStar) h = refl
begins_pair (Op _) h = le-leb 9 _ h
begins_pair _ h = le-leb 9 _ h

begins_argument : (t : Terminal) → 9 ≤ lead t → begins Argument t ≡ true
begins_argument (Op DoubleStar) h = refl
begins_argument (Op y) h = le-leb 7 (lead (Op y)) (omega (arith, h))
begins_argument t h = le-leb 7 (lead t) (omega (arith, h))

starts_front : (i : Item) (n : ℕ) → ((t : Terminal) → n ≤ lead t → begins i t ≡ true) → (ts us : List Terminal) → 0 < n → n ≤ lead_of ts
    → starts i (ts ++ us) ≡ true
starts_front i n f [] us p h = absurd (omega (arith, p, h))
starts_front i n f (t ∷ ts) us p h = f t h

pub piece_starts : {i : Item} {ts : List Terminal} {a : Entry} → G.Piece i ts a → (us : List Terminal) → starts i (ts ++ us) ≡ true
piece_starts (G.single {l = l} {ts = ts} p) us = starts_front (Of l) (first l) (λ t h. le-leb (first l) (lead t) h) ts
    us (first_pos l) (led p)
piece_starts (G.pair {ts = ts} {us = vs} p q) us = ap (starts Pair) (append_assoc ts (Op Colon ∷ vs) us)
    ∙ starts_front Pair 9 begins_pair ts _ (omega arith) (led p)
piece_starts (G.pairs_of p) us = refl
piece_starts (G.argument {ts = ts} p) us = starts_front Argument 9 begins_argument ts us (omega arith) (led p)
piece_starts (G.star_argument p) us = refl
piece_starts (G.keyword_argument p) us = refl
piece_starts (G.double_argument p) us = refl
piece_starts (G.parameter a d) us = refl
piece_starts G.slash us = refl
piece_starts G.bare_star us = refl
piece_starts (G.star_parameter a) us = refl
piece_starts (G.star_annotation p) us = refl
piece_starts (G.double_parameter a) us = refl
