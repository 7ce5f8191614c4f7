-- Two readings of the levels of expressions: what each combinator keeps, the plain reader keeps, and the capped one as far as it is the
-- same.
--
-- Carries: r_descend, r_room_step, r_atom, for Keeps, Enough, Room, Related/Capped. On: Related/Expressions, Strings.
use Rattle.std.proofs.Common.{◌≡◌, refl, ℕ, zero, suc, ◌≤◌, ◌<◌, arith, List, [], ◌∷◌, length}
use Rattle.std.proofs.Common.{false, subst}
use Rattle.pylex_lexeme.specs.declared.kinds.Exact.TheVariants.{LPar, RPar, LSqb, LBrace, Colon, Comma, Star}
use Rattle.pylex_lexeme.specs.declared.kinds.Exact.TheVariants.{ColonEqual}
use Rattle.pytoken.specs.declared.keywords.Keyword.TheVariants as Key
use Rattle.pytree_node.specs.declared.operators.Context.TheVariants.{Load, Store}
use Rattle.pygrammar.specs.declared.levels.Level.{Level}
use Rattle.pygrammar.specs.declared.levels.Level.TheVariants.{Value, Stars, StarItem, Named, Expression, Or, BitOr, Primary, Atom}
use Rattle.pygrammar.specs.declared.levels.Level.TheVariants.{Elem, Slices, Part, Slice, Subject}
use Rattle.pytree_node.specs.Trees
use Rattle.pytree_node.specs.Trees.{Expr, no_exprs, an_expr, absent, present}
use Rattle.pytoken.specs.Terminals.{Terminal, Op, Ident, Number, Literal, FormattedBegin, FormattedText, FieldBegin, SpecBegin, FieldEnd}
use Rattle.pytree_height.specs.Heights.{height}
use Rattle.pygrammar.specs.Lengths.{weight}
use Rattle.pygrammar.specs.Looks.{is_op, is_word}
use Rattle.pygrammar.specs.Operators.{rank}
use Rattle.pygrammar.specs.Constants.{constant_word}
use Rattle.pygrammar.specs.Entries.{Of}
use Rattle.pygrammar.specs.Reader.{Answer, Found, constant_of, Reads, starred}
use Rattle.pygrammar.specs.Reader.{tupled}
use Rattle.pygrammar.specs.Reader.{yield_step, atom, primary_loop}
use Rattle.pygrammar.specs.Reader.{slice_rest, lambda_step}
use Rattle.pygrammar.specs.Reader.{if_else_step, climb, level_step, descend, and_then, on_first, on_name_with, unstarred, unnamed}
use Rattle.pygrammar.specs.Capped.{capped_round, capped_atom, capped_primary, capped_climb, capped_step}
use Rattle.pygrammar.specs.Precedence.{starts_comp}
use Rattle.pygrammar.specs.Precedence.{prefix_from}
use Rattle.pygrammar.proofs.Depths.Weights.{heavy_op, heavy_word}
use Rattle.pygrammar.proofs.Depths.Weights.{heavy_prefix}
use Rattle.pygrammar.proofs.Related.Sizes.{singles_size}
use Rattle.pygrammar.proofs.Related.Rules.{Relation, Kept, To, Own, found, none, held, beside, choose, first, named_with}
use Rattle.pygrammar.proofs.Related.Rules.{not_starred, not_named, closing, making}
use Rattle.pygrammar.proofs.Related.Expressions.{r_one, r_starred, r_listing_of, r_tupled, r_comps_closed, r_yield, r_square, r_curly}
use Rattle.pygrammar.proofs.Related.Expressions.{r_primary, r_climb_loop, r_prefixed, r_slice_rest, r_lambda, r_if_else}
use Rattle.pygrammar.proofs.Related.Strings.{r_joined, r_literals}

-- at the front: what stands alone in round brackets is read by same
module _ {R : Relation} (K : Kept R) (same alike inner other : Reads) (b : ℕ) (equal : Own R b same alike) (all : To R b inner other) where
  pub r_round : (n : ℕ) (r : List Terminal) → weight r < n → weight r < b
      → R Expr height 0 n (capped_round same inner r) (capped_round alike other r)
  r_round n r h w =
      first K (is_op RPar) (heavy_op RPar) r (λ _ r1 q. found K (omega arith) (omega (arith, h, q)))
      (first K (is_word Key.Yield) (heavy_word Key.Yield) r
      (λ _ r1 q. held K (r_yield K inner other b all n r1 (omega (arith, h, q)) (omega (arith, w, q)))
      (λ v e r2 f p. closing K RPar r2 e f p))
      (held K (equal Elem r w)
      (λ v e r1 f p. first K (is_op Comma) (heavy_op Comma) r1
      (λ _ r2 q. beside K (r_listing_of K inner other b all 0 n (Of Elem) [] r2 (omega arith) (omega (arith, h, p, q))
      (omega (arith, w, p, q)))
      (λ u es r3 g z. closing K RPar r3 _ (omega (arith, f, g, singles_size Elem es)) z))
      (not_starred K r (choose K (starts_comp r1)
      (r_comps_closed K inner other b all v n RPar r1 _ (λ gs. omega (arith, f)) (omega (arith, h, p)) (omega (arith, w, p)))
      (closing K RPar r1 e f (omega (arith, h, p))))))))

  pub r_atom : (r : List Terminal) → weight r ≤ b → R Expr height 0 (weight r) (capped_atom same inner r) (capped_atom alike other r)
  r_atom [] w = none K
  r_atom (Ident x ∷ r) w = found K (omega arith) (omega arith)
  r_atom (Number x ∷ r) w = found K (omega arith) (omega arith)
  r_atom (Literal v ∷ r) w = r_literals K inner other b all (suc (weight r)) v r (omega arith) (omega (arith, w))
  r_atom (FormattedBegin ∷ r) w = r_joined K inner other b all (suc (weight r)) false [] r (omega arith) (omega (arith, w))
  r_atom (Op LPar ∷ r) w = r_round (suc (weight r)) r (omega arith) (omega (arith, w))
  r_atom (Op LSqb ∷ r) w = r_square K inner other b all (suc (weight r)) r (omega arith) (omega (arith, w))
  r_atom (Op LBrace ∷ r) w = r_curly K inner other b all (suc (weight r)) r (omega arith) (omega (arith, w))
  r_atom (Op x ∷ r) w = making K (constant_of (constant_word (Op x))) r (λ e q. omega arith) (omega arith)
  r_atom (FormattedText x ∷ r) w = none K
  r_atom (FieldBegin x ∷ r) w = none K
  r_atom (SpecBegin ∷ r) w = none K
  r_atom (FieldEnd ∷ r) w = none K
  r_atom (t ∷ r) w = making K (constant_of (constant_word t)) r (λ e q. omega arith) (omega arith)

-- the plain reader has one for both
plain_atom : (self : Reads) (r : List Terminal) → capped_atom self self r ≡ atom self r
plain_atom self [] = refl
plain_atom self (Op LPar ∷ r) = refl
plain_atom self (Op _ ∷ r) = refl
plain_atom self (_ ∷ r) = refl

pub beside_atom : {R : Relation} (K : Kept R) (same inner other : Reads) (b : ℕ) → Own R b same other → To R b inner other
    → (i : List Terminal) → weight i ≤ b → R Expr height 0 (weight i) (capped_atom same inner i) (atom other i)
beside_atom {R} K same inner other b equal all i w =
    subst (λ z. R Expr height 0 (weight i) (capped_atom same inner i) z) (plain_atom other i)
    (r_atom K same other inner other b equal all i w)

-- ---- The levels, for the plain and the capped reader: how each climbs, what it reads after an Atom, and an Atom.
abbrev Climbs : Type 0
Climbs = ℕ → List Terminal → Answer Expr

abbrev Fronts : Type 0
Fronts = List Terminal → Answer Expr

abbrev step_of : Climbs → Fronts → Fronts → Reads → Reads → Reads
step_of climbs calls atoms next inner Value i = on_first (is_word Key.Yield) i (λ _ r. yield_step inner r) (next Stars i)
step_of climbs calls atoms next inner Stars i = and_then (next StarItem i) (λ e r. tupled inner (Of StarItem) e r (Found e r))
step_of climbs calls atoms next inner StarItem i = starred inner BitOr i (next Expression i)
step_of climbs calls atoms next inner Elem i = starred inner BitOr i (next Named i)
step_of climbs calls atoms next inner Named i = on_name_with ColonEqual i
    (λ x r. and_then (inner Expression r) (λ e r1. Found (Trees.NamedExpr (Trees.Name x Store) e) r1)) (next Expression i)
step_of climbs calls atoms next inner Expression i = on_first (is_word Key.Lambda) i (λ _ r. lambda_step inner r)
    (and_then (next Or i) (λ e r. if_else_step inner e r))
step_of climbs calls atoms next inner Primary i = calls i
step_of climbs calls atoms next inner Atom i = atoms i
step_of climbs calls atoms next inner Slices i = and_then (next Part i)
    (λ e r. tupled inner (Of Part) e r (on_first (is_op Star) i (λ _ _. Found (Trees.Tuple (an_expr e no_exprs) Load) r) (Found e r)))
step_of climbs calls atoms next inner Part i = starred inner Expression i (next Slice i)
step_of climbs calls atoms next inner Slice i = on_first (is_op Colon) i (λ _ r. slice_rest inner absent r)
    (and_then (next Named i) (λ e r. on_first (is_op Colon) r (λ _ r1. unnamed i (slice_rest inner (present e) r1)) (Found e r)))
step_of climbs calls atoms next inner Subject i =
    and_then (next Elem i) (λ e r. tupled inner (Of Elem) e r (unstarred i (Found e r)))
step_of climbs calls atoms next inner l i = climbs (rank l) i

pub plain_step : (next inner : Reads) (l : Level) (i : List Terminal)
    → step_of (climb next inner) (λ i. and_then (next Atom i) (λ e r. primary_loop inner (length r) e r)) (atom inner) next inner l i
    ≡ level_step next inner l i
plain_step next inner Value i = refl
plain_step next inner _ i = refl

pub room_step : (d : ℕ) (next same inner : Reads) (l : Level) (i : List Terminal)
    → step_of (capped_climb d next same inner) (λ i. and_then (next Atom i) (λ e r. capped_primary d inner (length r) e r))
    (capped_atom same inner) next inner l i ≡ capped_step d next same inner l i
room_step d next same inner Value i = refl
room_step d next same inner _ i = refl

module _ {R : Relation} (K : Kept R) (next after inner other : Reads) (b : ℕ) (low : Own R (suc b) next after) (deep : To R b inner other)
    (climbs climbs' : Climbs) (calls calls' atoms atoms' : Fronts)
    (c : (k : ℕ) → 10 ≤ k → k ≤ 22 → (i : List Terminal) → weight i ≤ b → R Expr height 0 (weight i) (climbs k i) (climbs' k i))
    (f : (i : List Terminal) → weight i ≤ b → R Expr height 0 (weight i) (calls i) (calls' i))
    (a : (i : List Terminal) → weight i ≤ b → R Expr height 0 (weight i) (atoms i) (atoms' i)) where
  r_step_of : (l : Level) (i : List Terminal) → weight i ≤ b
      → R Expr height 0 (weight i) (step_of climbs calls atoms next inner l i) (step_of climbs' calls' atoms' after other l i)
  r_step_of Value i w = first K (is_word Key.Yield) (heavy_word Key.Yield) i
      (λ _ r q. r_yield K inner other b deep (weight i) r (omega (arith, q)) (omega (arith, w, q))) (low Stars i (omega (arith, w)))
  r_step_of Stars i w = held K (low StarItem i (omega (arith, w)))
      (λ v e r g p. r_tupled K inner other b deep v (weight i) StarItem e r g p (omega (arith, w, p)) (found K g p))
  r_step_of StarItem i w = r_starred K inner other b deep (weight i) BitOr i (λ e. omega arith) (omega arith) w
      (low Expression i (omega (arith, w)))
  r_step_of Elem i w = r_starred K inner other b deep (weight i) BitOr i (λ e. omega arith) (omega arith) w (low Named i (omega (arith, w)))
  r_step_of Named i w = named_with K ColonEqual i
      (λ x r q. r_one K inner other b deep Expression r (omega (arith, w, q))
      (λ v e r1 g p. found K (omega (arith, g)) (omega (arith, q, p)))) (low Expression i (omega (arith, w)))
  r_step_of Expression i w = first K (is_word Key.Lambda) (heavy_word Key.Lambda) i
      (λ _ r q. r_lambda K inner other b deep (weight i) r (omega (arith, q)) (omega (arith, w, q)))
      (held K (low Or i (omega (arith, w))) (λ v e r g p. r_if_else K inner other b deep v (weight i) e r g p (omega (arith, w, p))))
  r_step_of Primary i w = f i w
  r_step_of Atom i w = a i w
  r_step_of Slices i w = held K (low Part i (omega (arith, w)))
      (λ v e r g p. r_tupled K inner other b deep v (weight i) Part e r g p (omega (arith, w, p))
      (first K (is_op Star) (heavy_op Star) i (λ _ _ _. found K (omega (arith, g)) p) (found K g p)))
  r_step_of Part i w = r_starred K inner other b deep (weight i) Expression i (λ e. omega arith) (omega arith) w
      (low Slice i (omega (arith, w)))
  r_step_of Slice i w = first K (is_op Colon) (heavy_op Colon) i
      (λ _ r q. r_slice_rest K inner other b deep 0 (weight i) absent r (omega arith) (omega (arith, q)) (omega (arith, w, q)))
      (held K (low Named i (omega (arith, w)))
      (λ v e r g p. first K (is_op Colon) (heavy_op Colon) r
      (λ _ r1 q. not_named K i (r_slice_rest K inner other b deep v (weight i) (present e) r1 (omega (arith, g)) (omega (arith, p, q))
      (omega (arith, w, p, q)))) (found K g p)))
  r_step_of Subject i w = held K (low Elem i (omega (arith, w)))
      (λ v e r g p. r_tupled K inner other b deep v (weight i) Elem e r g p (omega (arith, w, p)) (not_starred K i (found K g p)))
  r_step_of l i w = c (rank l) (omega arith) (omega arith) i w

-- the capped reader beside another, whose steps are of the same kind
module _ {R : Relation} (K : Kept R) (d : ℕ) (next after same inner other : Reads) (b : ℕ) (low : Own R (suc b) next after)
    (deep : To R b inner other) (climbs : Climbs) (calls atoms : Fronts)
    (c : (k : ℕ) → 10 ≤ k → k ≤ 22 → (i : List Terminal) → weight i ≤ b
    → R Expr height 0 (weight i) (capped_climb d next same inner k i) (climbs k i))
    (f : (i : List Terminal) → weight i ≤ b
    → R Expr height 0 (weight i) (and_then (next Atom i) (λ e r. capped_primary d inner (length r) e r)) (calls i))
    (a : (i : List Terminal) → weight i ≤ b → R Expr height 0 (weight i) (capped_atom same inner i) (atoms i)) where
  pub r_room_step : (other_step : Reads)
      → ((l : Level) (i : List Terminal) → step_of climbs calls atoms after other l i ≡ other_step l i)
      → (l : Level) (i : List Terminal) → weight i ≤ b → R Expr height 0 (weight i) (capped_step d next same inner l i) (other_step l i)
  r_room_step other_step e l i w =
      subst (λ z. R Expr height 0 (weight i) z (other_step l i)) (room_step d next same inner l i)
      (subst (λ z. R Expr height 0 (weight i)
      (step_of (capped_climb d next same inner) (λ i. and_then (next Atom i) (λ e r. capped_primary d inner (length r) e r))
      (capped_atom same inner) next inner l i) z) (e l i)
      (r_step_of K next after inner other b low deep (capped_climb d next same inner) climbs
      (λ i. and_then (next Atom i) (λ e r. capped_primary d inner (length r) e r)) calls (capped_atom same inner) atoms c f a l i w))

-- the plain reader
module _ {R : Relation} (K : Kept R) (inner other : Reads) (b : ℕ) (group : Own R b inner other) (deep : To R b inner other) where
  plain_atoms : (i : List Terminal) → weight i ≤ b → R Expr height 0 (weight i) (atom inner i) (atom other i)
  plain_atoms i w = subst (λ z. R Expr height 0 (weight i) z (atom other i)) (plain_atom inner i)
      (beside_atom K inner inner other b group deep i w)

  r_step : (next after : Reads) → Own R (suc b) next after → (l : Level) (i : List Terminal) → weight i ≤ b
      → R Expr height 0 (weight i) (level_step next inner l i) (level_step after other l i)
  r_step next after low l i w =
      let calls : Fronts = λ i. and_then (next Atom i) (λ e r. primary_loop inner (length r) e r) in
      let calls' : Fronts = λ i. and_then (after Atom i) (λ e r. primary_loop other (length r) e r) in
      subst (λ z. R Expr height 0 (weight i) z (level_step after other l i)) (plain_step next inner l i)
      (subst (λ z. R Expr height 0 (weight i) (step_of (climb next inner) calls (atom inner) next inner l i) z) (plain_step after other l i)
      (r_step_of K next after inner other b low deep (climb next inner) (climb after other) calls calls' (atom inner) (atom other)
      (λ k x y i w. held K (first K (prefix_from k) (heavy_prefix k) i
      (λ p r q. r_prefixed K inner other b deep (weight i) p r (omega (arith, q)) (omega (arith, w, q))) (low Primary i (omega (arith, w))))
      (λ v e r g p. r_climb_loop K inner other b deep v (weight i) k (length r) e r g p (omega (arith, w, p))))
      (λ i w. held K (low Atom i (omega (arith, w)))
      (λ v e r g p. r_primary K inner other b deep v (weight i) (length r) e r g p (omega (arith, w, p)))) plain_atoms l i w))

  pub r_descend : (k : ℕ) → Own R (suc b) (descend inner k) (descend other k)
  r_descend zero l i w = none K
  r_descend (suc k) l i w = r_step (descend inner k) (descend other k) (r_descend k) l i (omega (arith, w))
