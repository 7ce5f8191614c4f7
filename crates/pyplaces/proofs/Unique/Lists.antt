-- Lists of items.
--
-- Carries: ListReads, no_item_goes .. double_parameter_goes, for Expressions. On: Levels, Answered, Led.
use Rattle.std.proofs.Common.{◌≡◌, ◌⊎◌, inl, inr, refl, sym, ap, ◌∙◌, ℕ, ◌+◌, ◌≤◌, arith, List, [], ◌∷◌, ◌++◌, length, append_assoc}
use Rattle.std.proofs.Common.{length-append}
use Rattle.std.proofs.Common.{Option, Some, None, Bool, true, false, cond}
use Rattle.std.proofs.lemmas.Bool.{ne_eqb}
use Rattle.pylex_lexeme.specs.declared.kinds.Exact.{Exact}
use Rattle.pylex_lexeme.specs.declared.kinds.Exact.TheVariants.{Colon, Comma, Star, Slash, Equal, DoubleStar}
use Rattle.pytree_node.specs.Trees.{OptionalExpr}
use Rattle.pytoken.specs.Terminals.{Spelled, Terminal, Op, Ident}
use Rattle.pygrammar.specs.declared.levels.Level.{Level}
use Rattle.pygrammar.specs.declared.levels.Level.TheVariants.{Named, Expression, BitOr}
use Rattle.pygrammar.specs.Entries.{Item, Of, Pair, Argument, Parameter}
use Rattle.pygrammar.specs.Precedence.{starts}
use Rattle.pygrammar.specs.Grammar as G
use Rattle.pyplaces.specs.Stretches.{Stretch, stretch, over}
use Rattle.pyplaces.specs.EntryPlaces as E
use Rattle.pyplaces.specs.EntryPlaces.{EntryPlaces}
use Rattle.pyplaces.specs.Inner.Looks.{grip, grip_of, lead_of, has_starred}
use Rattle.pyplaces.specs.Inner.Questions.{Suffixed, Items, Piece}
use Rattle.pyplaces.specs.Inner.Steps.{here, on}
use Rattle.pyplaces.proofs.Unique.Leading.{via, past, untrue, is_true}
use Rattle.pyplaces.proofs.Unique.LookLemmas.{fronted, front_grip, not_named}
use Rattle.pyplaces.proofs.Unique.Led.{led}
use Rattle.pyplaces.proofs.Unique.Levels.{Reads, answers, free_named}
use Rattle.pyplaces.proofs.Unique.Answered.{Answers, counted, shaped, SuffixStops, PieceStops, ListEnds, Separable}
use Rattle.pyplaces.proofs.Unique.Operators.{same_true}

-- ---- Lists.

abbrev pub ListReads : Item → List Terminal → (ℕ → List EntryPlaces) → Type 0
ListReads i ts f = Separable i → Answers (Items i) ts f (ListEnds i)

pub no_item_goes : (i : Item) → ListReads i [] (λ at. [])
no_item_goes i w at rest k s = on (untrue _ s.0 here)

pub last_item_goes : (i : Item) (ts : List Terminal) {f : ℕ → EntryPlaces} → ((us : List Terminal) → starts i (ts ++ us) ≡ true)
    → Answers (Piece i) ts f (PieceStops i) → ListReads i ts (λ at. f at ∷ [])
last_item_goes i ts st p w at rest k s = on (is_true _ (st rest) (via (p at rest _ s.2) (past _ s.1 here)))

pub item_goes : (i : Item) (ts us : List Terminal) {f : ℕ → EntryPlaces} {g : ℕ → List EntryPlaces}
    → ((us : List Terminal) → starts i (ts ++ us) ≡ true) → Answers (Piece i) ts f (PieceStops i) → ListReads i us g
    → ListReads i (ts ++ (Op Comma ∷ us)) (λ at. f at ∷ g (at + (length ts + 1)))
item_goes i ts us st p q w at rest k s = shaped (Items i) at k (append_assoc ts (Op Comma ∷ us) rest)
    (on (is_true _ (st (Op Comma ∷ (us ++ rest))) (via (p at (Op Comma ∷ (us ++ rest)) _ (w (us ++ rest)))
    (via (q w (at + (length ts + 1)) rest _ s) (counted k rest (omega (arith, length-append ts (Op Comma ∷ us))))))))

-- ---- Suffixes.

pub no_suffix_goes : (s : Option Exact) → Answers (Suffixed s) [] (λ at. []) (SuffixStops s)
no_suffix_goes None at rest k s = on here
no_suffix_goes (Some x) at rest k s = on (past _ s.0 here)

pub suffix_goes : (x : Exact) (ts : List Terminal) {f : ℕ → List Stretch} → Reads Expression ts f
    → Answers (Suffixed (Some x)) (Op x ∷ ts) (λ at. f (1 + at)) (SuffixStops (Some x))
suffix_goes x ts p at rest k s = on (is_true _ (same_true (grip (Op x)) (grip (Op x)) refl)
    (via (p (1 + at) rest _ s.1) (counted k rest (omega arith))))

-- ---- Items.

pub single_goes : (l : Level) (ts : List Terminal) (f : ℕ → List Stretch) → Reads l ts f
    → Answers (Piece (Of l)) ts (λ at. E.Single (f at)) (PieceStops (Of l))
single_goes l ts f p at rest k s = on (answers l ts f p at rest _ s)

pub pair_goes : (ts us : List Terminal) {f g : ℕ → List Stretch} → 9 ≤ lead_of ts → Reads Expression ts f → Reads Expression us g
    → Answers (Piece Pair) (ts ++ (Op Colon ∷ us)) (λ at. E.Paired (f at) (g (1 + (at + length ts)))) (PieceStops Pair)
pair_goes ts us l p q at rest k s = shaped (Piece Pair) at k (append_assoc ts (Op Colon ∷ us) rest)
    (on (past _ ((front_grip ts (Op Colon ∷ (us ++ rest)) (omega (arith, l))).1)
    (via (p at (Op Colon ∷ (us ++ rest)) _ (omega arith)) (via (q (1 + (at + length ts)) rest _ (omega (arith, s)))
    (counted k rest (omega (arith, length-append ts (Op Colon ∷ us))))))))

pub pairs_of_goes : (ts : List Terminal) (f : ℕ → List Stretch) → Reads BitOr ts f
    → Answers (Piece Pair) (Op DoubleStar ∷ ts) (λ at. E.Doubled (f (1 + at)) (stretch at (1 + (at + length ts)))) (PieceStops Pair)
pairs_of_goes ts f p at rest k s =
    on (via (answers BitOr ts f p (1 + at) rest _ (omega (arith, s))) (counted k rest (omega arith)))

pub argument_goes : (ts : List Terminal) (f : ℕ → List Stretch) → 9 ≤ lead_of ts → Reads Named ts f
    → Answers (Piece Argument) ts (λ at. E.Single (f at)) (PieceStops Argument)
argument_goes ts f l p at rest k s = on (past _ (fronted ts rest 7 (omega (arith, l)))
    (past _ ((front_grip ts rest (omega (arith, l))).1) (past _ (free_named ts rest f p s.0 s.1) (p at rest _ s.0))))

pub star_argument_goes : (ts : List Terminal) {f : ℕ → List Stretch} → Reads Expression ts f
    → Answers (Piece Argument) (Op Star ∷ ts) (λ at. E.Spread (f (1 + at)) (stretch at (1 + (at + length ts)))) (PieceStops Argument)
star_argument_goes ts p at rest k s = on (via (p (1 + at) rest _ (omega (arith, s.0))) (counted k rest (omega arith)))

pub double_argument_goes : (ts : List Terminal) {f : ℕ → List Stretch} → Reads Expression ts f
    → Answers (Piece Argument) (Op DoubleStar ∷ ts) (λ at. E.Doubled (f (1 + at)) (stretch at (1 + (at + length ts)))) (PieceStops Argument)
double_argument_goes ts p at rest k s = on (via (p (1 + at) rest _ (omega (arith, s.0))) (counted k rest (omega arith)))

pub keyword_argument_goes : (x : Spelled) (ts : List Terminal) {f : ℕ → List Stretch} → Reads Expression ts f
    → Answers (Piece Argument) (Ident x ∷ (Op Equal ∷ ts)) (λ at. E.Keyed (f (2 + at)) (stretch at (2 + (at + length ts))))
    (PieceStops Argument)
keyword_argument_goes x ts p at rest k s = on (via (p (2 + at) rest _ (omega (arith, s.0))) (counted k rest (omega arith)))

-- ---- Parameters.

-- a default begins with its sign
default_grip : {us : List Terminal} {a : OptionalExpr} → G.Suffix (Some Equal) us a → (r : List Terminal)
    → (grip_of (us ++ r) ≡ 1) ⊎ (grip_of (us ++ r) ≡ grip_of r)
default_grip G.no_suffix r = inr refl
default_grip (G.suffix p) r = inl refl

pub parameter_goes : (b : Bool) (x : Spelled) (ts us : List Terminal) {c : OptionalExpr} (f g : ℕ → List Stretch)
    → Answers (Suffixed (cond b (Some Colon) None)) ts f (SuffixStops (cond b (Some Colon) None))
    → G.Suffix (Some Equal) us c → Answers (Suffixed (Some Equal)) us g (SuffixStops (Some Equal))
    → Answers (Piece (Parameter b)) (Ident x ∷ (ts ++ us)) (λ at. E.Plain (f (1 + at) ++ over at (1 + length ts))
    (g (1 + (at + length ts)))) (PieceStops (Parameter b))
parameter_goes false x ts us f g p w q at rest k s =
    shaped (Piece (Parameter false)) at k (ap (λ z. Ident x ∷ z) (append_assoc ts us rest))
    (on (via (p (1 + at) (us ++ rest) _ tt) (via (q (1 + (at + length ts)) rest _ (s.0, s.1))
    (counted k rest (omega (arith, length-append ts us))))))
parameter_goes true x ts us f g p w q at rest k s =
    shaped (Piece (Parameter true)) at k (ap (λ z. Ident x ∷ z) (append_assoc ts us rest))
    (on (via (p (1 + at) (us ++ rest) _ (elim (default_grip w rest) [
      | inl e ↦ (λ q. absurd (omega (arith, e, q)), omega (arith, e))
      | inr e ↦ (λ q. s.3 (sym e ∙ q), omega (arith, e, s.1))
    ])) (via (q (1 + (at + length ts)) rest _ (s.0, s.1)) (counted k rest (omega (arith, length-append ts us))))))

pub slash_goes : (b : Bool) → Answers (Piece (Parameter b)) (Op Slash ∷ []) (λ at. E.Slashed) (PieceStops (Parameter b))
slash_goes b at rest k s = on here

pub bare_goes : (b : Bool) → Answers (Piece (Parameter b)) (Op Star ∷ []) (λ at. E.Bare) (PieceStops (Parameter b))
bare_goes false at rest k s = on (untrue _ (not_named rest (omega (arith, s.2))) here)
bare_goes true at rest k s = on (untrue _ (not_named rest (omega (arith, s.2))) here)

-- an annotation that has no star
not_starred : {ts : List Terminal} {a : OptionalExpr} → G.Suffix (Some Colon) ts a → (r : List Terminal) → (grip_of r ≡ 5 → ⊥)
    → has_starred (ts ++ r) ≡ false
not_starred G.no_suffix r n = plain r n
  where
    plain : (r : List Terminal) → (grip_of r ≡ 5 → ⊥) → has_starred r ≡ false
    plain [] n = refl
    plain (Op Colon ∷ r) n = absurd (n refl)
    plain (Op _ ∷ r) n = refl
    plain (_ ∷ r) n = refl
not_starred (G.suffix {ts = ts} p) r n = ne_eqb (lead_of (ts ++ r)) 7 (fronted ts r 7 (omega (arith, led p)))

pub star_parameter_goes : (b : Bool) (x : Spelled) (ts : List Terminal) {a : OptionalExpr} (f : ℕ → List Stretch)
    → G.Suffix (cond b (Some Colon) None) ts a → Answers (Suffixed (cond b (Some Colon) None)) ts f (SuffixStops (cond b (Some Colon) None))
    → Answers (Piece (Parameter b)) (Op Star ∷ (Ident x ∷ ts)) (λ at. E.Gathered (f (2 + at) ++ over (1 + at) (1 + length ts)))
    (PieceStops (Parameter b))
star_parameter_goes false x ts f w p at rest k s = on (via (p (2 + at) rest _ tt) (counted k rest (omega arith)))
star_parameter_goes true x ts f w p at rest k s = on (untrue _ (not_starred w rest s.3)
    (via (p (2 + at) rest _ (s.3, s.1)) (counted k rest (omega arith))))

pub star_annotation_goes : (x : Spelled) (ts : List Terminal) (f : ℕ → List Stretch) → Reads BitOr ts f
    → Answers (Piece (Parameter true)) (Op Star ∷ (Ident x ∷ (Op Colon ∷ (Op Star ∷ ts))))
    (λ at. E.Gathered (f (4 + at) ++ (over (3 + at) (1 + length ts) ++ over (1 + at) (3 + length ts)))) (PieceStops (Parameter true))
star_annotation_goes x ts f p at rest k s =
    on (via (answers BitOr ts f p (4 + at) rest _ (omega (arith, s.1))) (counted k rest (omega arith)))

pub double_parameter_goes : (b : Bool) (x : Spelled) (ts : List Terminal) (f : ℕ → List Stretch)
    → Answers (Suffixed (cond b (Some Colon) None)) ts f (SuffixStops (cond b (Some Colon) None))
    → Answers (Piece (Parameter b)) (Op DoubleStar ∷ (Ident x ∷ ts)) (λ at. E.Collected (f (2 + at) ++ over (1 + at) (1 + length ts)))
    (PieceStops (Parameter b))
double_parameter_goes false x ts f p at rest k s = on (via (p (2 + at) rest _ tt) (counted k rest (omega arith)))
double_parameter_goes true x ts f p at rest k s = on (via (p (2 + at) rest _ (s.3, s.1)) (counted k rest (omega arith)))

-- ---- The first terminal of an item.
