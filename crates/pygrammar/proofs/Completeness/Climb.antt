-- What it means that the reader finds an expression, and the levels Or .. Await.
--
-- Carries: Stops, answers, ReadsAs, unroll and 19 more, for Complete, LevelLemmas, Forms, Atoms and
-- 11 more. On: LookLemmas.
use Rattle.std.proofs.Common.{◌≡◌, refl, sym, ap, subst, ◌∙◌, ℕ, zero, suc, ◌≤◌, ◌<◌, arith, List, [], ◌∷◌, ◌++◌, length, Option, Some}
use Rattle.std.proofs.Common.{None, Bool, true, false, cond, append_assoc, length-append}
use Rattle.std.proofs.lemmas.Bool.{leb-true, le-leb}
use Rattle.std.specs.Prelude.{leb, max}
use Rattle.pylex_lexeme.specs.declared.kinds.Exact.TheVariants.{LPar, LSqb, Plus, Minus, Star, Slash, VBar, Amper, Less, Greater, Dot}
use Rattle.pylex_lexeme.specs.declared.kinds.Exact.TheVariants.{Percent, EqEqual, NotEqual, LessEqual, GreaterEqual, Tilde, Circumflex}
use Rattle.pylex_lexeme.specs.declared.kinds.Exact.TheVariants.{LeftShift, RightShift, DoubleStar, DoubleSlash, At}
use Rattle.pytoken.specs.declared.keywords.Keyword.TheVariants as Key
use Rattle.pytree_node.specs.declared.operators.Operator.{Operator}
use Rattle.pytree_node.specs.declared.operators.Operator.TheVariants as Bin
use Rattle.pytree_node.specs.declared.operators.UnaryOperator.{UnaryOperator}
use Rattle.pytree_node.specs.declared.operators.BoolOperator.{BoolOperator}
use Rattle.pytree_node.specs.declared.operators.BoolOperator.TheVariants as Join
use Rattle.pytree_node.specs.declared.operators.Comparison.{Comparison}
use Rattle.pygrammar.specs.declared.levels.Level.{Level}
use Rattle.pygrammar.specs.declared.levels.Level.TheVariants.{Value, Stars, StarItem, Named, Expression, Or, And, Not, Compare, BitOr}
use Rattle.pygrammar.specs.declared.levels.Level.TheVariants.{BitXor, BitAnd, Shift, Sum, Term, Factor, Power, Await, Primary, Atom, Elem}
use Rattle.pygrammar.specs.declared.levels.Level.TheVariants.{Slices, Part, Slice, Subject}
use Rattle.pytree_node.specs.Trees
use Rattle.pytree_node.specs.Trees.{Expr, exprs}
use Rattle.pytoken.specs.Terminals.{Terminal, Op, Word}
use Rattle.pygrammar.specs.Operators.{below, left_operator, prefix_operator, chain_level, chain_word, comparison, rank}
use Rattle.pygrammar.specs.Targets.{stored}
use Rattle.pygrammar.specs.Grammar as G
use Rattle.pygrammar.specs.Reader.{Answer, Found, and_then, on_some, on_first, Reads, chain_loop, on_comparison, compare_loop, operation}
use Rattle.pygrammar.specs.Reader.{climb_loop, primary_loop, climb, level_step, read, target_item, read_target}
use Rattle.pygrammar.specs.Precedence.{lead, Infix, Left, Raise, Joins, Compares, infix_rank, following, Signed, before, at_least, infix_from}
use Rattle.pygrammar.proofs.Completeness.LookLemmas.{grip, grip_of, lead_of, miss_op, miss_word, pass_word}

-- the largest grip that may follow, at the levels with operators
abbrev pub lim : Level → ℕ
lim Or = 9
lim And = 10
lim Not = 11
lim Compare = 12
lim Factor = 19
lim Power = 19
lim Await = 21
lim l = rank l

abbrev pub Climbs : Level → List Terminal → Expr → ℕ → Type 0
Climbs l ts e d = (k : ℕ) → k ≤ rank l → (rest : List Terminal) → grip_of rest ≤ lim l
    → (m : ℕ) × (length rest ≤ m) × (climb (read (suc d)) (read d) k (ts ++ rest) ≡ climb_loop (read d) k m e rest)

-- what may follow an expression of a level, so that the reader ends there
abbrev pub Stops : Level → List Terminal → Type 0
Stops Value r = (grip_of r ≤ 2) × (lead_of r ≤ 6)
Stops Stars r = (grip_of r ≤ 2) × (lead_of r ≤ 6)
Stops Slices r = (grip_of r ≤ 2) × (lead_of r ≤ 4)
Stops Part r = (grip_of r ≤ 4) × (lead_of r ≤ 8)
Stops Slice r = (grip_of r ≤ 4) × (lead_of r ≤ 8)
Stops Subject r = (grip_of r ≤ 7) × (grip_of r ≡ 3 → ⊥) × (lead_of r ≤ 6)
Stops StarItem r = grip_of r ≤ 8
Stops Elem r = grip_of r ≤ 7
Stops Named r = grip_of r ≤ 7
Stops Expression r = grip_of r ≤ 8
Stops Primary r = grip_of r ≤ 22
Stops Atom r = grip_of r ≤ 24
Stops Power r = grip_of r ≤ 19
Stops l r = grip_of r < rank l

abbrev pub ReadsAt : Level → List Terminal → Expr → ℕ → Type 0
ReadsAt Or ts e d = Climbs Or ts e d
ReadsAt And ts e d = Climbs And ts e d
ReadsAt Not ts e d = Climbs Not ts e d
ReadsAt Compare ts e d = Climbs Compare ts e d
ReadsAt BitOr ts e d = Climbs BitOr ts e d
ReadsAt BitXor ts e d = Climbs BitXor ts e d
ReadsAt BitAnd ts e d = Climbs BitAnd ts e d
ReadsAt Shift ts e d = Climbs Shift ts e d
ReadsAt Sum ts e d = Climbs Sum ts e d
ReadsAt Term ts e d = Climbs Term ts e d
ReadsAt Factor ts e d = Climbs Factor ts e d
ReadsAt Power ts e d = Climbs Power ts e d
ReadsAt Await ts e d = Climbs Await ts e d
ReadsAt Primary ts e d = (rest : List Terminal) → grip_of rest ≤ 23
    → (m : ℕ) × (length rest ≤ m) × (read (suc d) Primary (ts ++ rest) ≡ primary_loop (read d) m e rest)
ReadsAt l ts e d = (rest : List Terminal) → Stops l rest → read (suc d) l (ts ++ rest) ≡ Found e rest

-- in front of `in` an expression of target shape is read as a Primary
abbrev pub TargetAt : Level → List Terminal → Expr → ℕ → Type 0
TargetAt Stars ts e d = (s : Expr) → stored e ≡ Some s → (rest : List Terminal) → grip_of rest ≤ 22 → (grip_of rest ≡ 3 → ⊥)
    → lead_of rest ≤ 6 → read_target (read (suc d)) (ts ++ rest) ≡ Found e rest
TargetAt StarItem ts e d = (s : Expr) → stored e ≡ Some s → (rest : List Terminal) → grip_of rest ≤ 22
    → target_item (read (suc d)) (ts ++ rest) ≡ Found e rest
TargetAt Value ts e d = Unit {0}
TargetAt Slices ts e d = Unit {0}
TargetAt Part ts e d = Unit {0}
TargetAt Slice ts e d = Unit {0}
TargetAt Subject ts e d = Unit {0}
TargetAt Elem ts e d = Unit {0}
TargetAt Named ts e d = Unit {0}
TargetAt Atom ts e d = Unit {0}
TargetAt l ts e d = (s : Expr) → stored e ≡ Some s → (rest : List Terminal) → grip_of rest ≤ 22
    → read (suc d) Primary (ts ++ rest) ≡ Found e rest

-- a forms that is no target has nothing to show there
pub no_target : (l : Level) (ts : List Terminal) (e : Expr) (d : ℕ) → stored e ≡ None → TargetAt l ts e d
no_target Value ts e d h = tt
no_target Slices ts e d h = tt
no_target Part ts e d h = tt
no_target Slice ts e d h = tt
no_target Subject ts e d h = tt
no_target Elem ts e d h = tt
no_target Named ts e d h = tt
no_target Atom ts e d h = tt
no_target Stars ts e d h = λ s q. absurd (cc (h, q))
no_target StarItem ts e d h = λ s q. absurd (cc (h, q))
no_target _ ts e d h = λ s q. absurd (cc (h, q))

abbrev pub ReadsAs : Level → List Terminal → Expr → Type 0
ReadsAs l ts e = (n : ℕ) × ((d : ℕ) → n ≤ d → ReadsAt l ts e d) × ((d : ℕ) → n ≤ d → TargetAt l ts e d)

-- from one expression further out
pub deeper : (P : ℕ → Type 0) (n : ℕ) → ((d : ℕ) → n ≤ d → P (suc d)) → (d : ℕ) → suc n ≤ d → P d
deeper P n f zero h = absurd (omega (arith, h))
deeper P n f (suc d) h = f d (omega (arith, h))

-- where nothing carries on, the loops are done
no_after : (k : ℕ) (t : Terminal) → grip t < k → infix_from k t ≡ None
no_after k t h = go (following t) _ h
  where
    go : (o : Option Infix) (x : ℕ) → on_some o infix_rank x < k → at_least infix_rank k o ≡ None
    go None x h = refl
    go (Some a) x h = low (leb k (infix_rank a)) refl
      where
        low : (b : Bool) → leb k (infix_rank a) ≡ b → cond b (Some a) None ≡ None
        low true q = absurd (omega (arith, h, leb-true k (infix_rank a) q))
        low false q = refl

pub loop_end : (self : Reads) (k m : ℕ) (e : Expr) (r : List Terminal) → grip_of r < k → climb_loop self k m e r ≡ Found e r
loop_end self k zero e r h = refl
loop_end self k (suc m) e [] h = refl
loop_end self k (suc m) e (t ∷ r) h = ap (λ o. on_some o (λ o. and_then (operation self e o (t ∷ r) r) (λ f r2. climb_loop self k m f r2))
    (Found e (t ∷ r))) (no_after k t h)

pub primary_end : (self : Reads) (m : ℕ) (e : Expr) (r : List Terminal) → grip_of r ≤ 22 → primary_loop self m e r ≡ Found e r
primary_end self zero e r h = refl
primary_end self (suc m) e r h = miss_op Dot r _ _ (λ q. omega (arith, h, q))
    ∙ (miss_op LPar r _ _ (λ q. omega (arith, h, q)) ∙ miss_op LSqb r _ _ (λ q. omega (arith, h, q)))

-- the equation of the reader: one level
pub unroll : (d : ℕ) (l : Level) (i : List Terminal) → read (suc d) l i ≡ level_step (read (suc d)) (read d) l i
unroll d Value i = refl
unroll d _ i = refl

-- an answer in full
climbs_answer : (l : Level) (ts : List Terminal) (e : Expr) (d : ℕ) (rest : List Terminal) → Climbs l ts e d → grip_of rest < rank l
    → grip_of rest ≤ lim l → climb (read (suc d)) (read d) (rank l) (ts ++ rest) ≡ Found e rest
climbs_answer l ts e d rest g s w = let c = g (rank l) (omega arith) rest w in c.2 ∙ loop_end (read d) (rank l) c.0 e rest s

pub answers : (l : Level) (ts : List Terminal) (e : Expr) (d : ℕ) (rest : List Terminal) → ReadsAt l ts e d → Stops l rest
    → read (suc d) l (ts ++ rest) ≡ Found e rest
answers Or ts e d rest g s = climbs_answer Or ts e d rest g s (omega (arith, s))
answers And ts e d rest g s = climbs_answer And ts e d rest g s (omega (arith, s))
answers Not ts e d rest g s = climbs_answer Not ts e d rest g s (omega (arith, s))
answers Compare ts e d rest g s = climbs_answer Compare ts e d rest g s (omega (arith, s))
answers BitOr ts e d rest g s = climbs_answer BitOr ts e d rest g s (omega (arith, s))
answers BitXor ts e d rest g s = climbs_answer BitXor ts e d rest g s (omega (arith, s))
answers BitAnd ts e d rest g s = climbs_answer BitAnd ts e d rest g s (omega (arith, s))
answers Shift ts e d rest g s = climbs_answer Shift ts e d rest g s (omega (arith, s))
answers Sum ts e d rest g s = climbs_answer Sum ts e d rest g s (omega (arith, s))
answers Term ts e d rest g s = climbs_answer Term ts e d rest g s (omega (arith, s))
answers Factor ts e d rest g s = climbs_answer Factor ts e d rest g s (omega (arith, s))
answers Power ts e d rest g s = climbs_answer Power ts e d rest g (omega (arith, s)) (omega (arith, s))
answers Await ts e d rest g s = climbs_answer Await ts e d rest g s (omega (arith, s))
answers Primary ts e d rest g s = let c = g rest (omega (arith, s)) in c.2 ∙ primary_end (read d) c.0 e rest s
answers _ ts e d rest g s = g rest s

-- an operator after an expression
pub loop_step : (self : Reads) (k m : ℕ) (e f : Expr) (t : Terminal) (o : Infix) (r rest : List Terminal) → following t ≡ Some o
    → k ≤ infix_rank o → operation self e o (t ∷ r) r ≡ Found f rest → length rest ≤ length r → suc (length r) ≤ m
    → (m' : ℕ) × (length rest ≤ m') × (climb_loop self k m e (t ∷ r) ≡ climb_loop self k m' f rest)
loop_step self k zero e f t o r rest b h op le lm = absurd (omega (arith, lm))
loop_step self k (suc m) e f t o r rest b h op le lm = (m, omega (arith, le, lm), rw b (rw (le-leb k (infix_rank o) h) (rw op refl)))

-- levels with operators: the next one
pub weaken : (l n : Level) (ts : List Terminal) (e : Expr) (d : ℕ) → rank l ≤ rank n → lim l ≤ lim n → Climbs n ts e d → Climbs l ts e d
weaken l n ts e d h w g k le rest s = g k (omega (arith, h, le)) rest (omega (arith, w, s))

left_after : (l : Level) (t : Terminal) (o : Operator) → left_operator l t ≡ Some o → following t ≡ Some (Left l o)
left_after BitOr (Op VBar) o h = cc
left_after BitOr (Op _) o h = absurd (cc)
left_after BitXor (Op Circumflex) o h = cc
left_after BitXor (Op _) o h = absurd (cc)
left_after BitAnd (Op Amper) o h = cc
left_after BitAnd (Op _) o h = absurd (cc)
left_after Shift (Op LeftShift) o h = cc
left_after Shift (Op RightShift) o h = cc
left_after Shift (Op _) o h = absurd (cc)
left_after Sum (Op Plus) o h = cc
left_after Sum (Op Minus) o h = cc
left_after Sum (Op _) o h = absurd (cc)
left_after Term (Op Star) o h = cc
left_after Term (Op Slash) o h = cc
left_after Term (Op DoubleSlash) o h = cc
left_after Term (Op Percent) o h = cc
left_after Term (Op At) o h = cc
left_after Term (Op _) o h = absurd (cc)
left_after _ t o h = absurd (cc)

-- a binary operator
pub binary_climbs : (l n : Level) (ts us : List Terminal) (a b : Expr) (t : Terminal) (o : Operator) (d : ℕ) → below l ≡ n → lim l ≡ rank l
    → left_operator l t ≡ Some o → Climbs l ts a (suc d)
    → ((rest : List Terminal) → grip_of rest ≤ rank l → read (suc d) n (us ++ rest) ≡ Found b rest)
    → Climbs l (ts ++ (t ∷ us)) (Trees.BinOp a o b) (suc d)
binary_climbs l n ts us a b t o d e w h p q k le rest s =
    let i = left_after l t o h in
    let c = p k le (t ∷ (us ++ rest)) (rw i (omega (arith, w))) in
    let op : operation (read (suc d)) a (Left l o) (t ∷ (us ++ rest)) (us ++ rest) ≡ Found (Trees.BinOp a o b) rest =
    rw e (rw (q rest (omega (arith, s, w))) refl) in
    let v = loop_step (read (suc d)) k c.0 a (Trees.BinOp a o b) t (Left l o) (us ++ rest) rest i le op
    (omega (arith, length-append us rest)) c.1 in
    (v.0, v.1, ap (climb (read (suc (suc d))) (read (suc d)) k) (append_assoc ts (t ∷ us) rest) ∙ c.2 ∙ v.2)

-- an operator in front of an expression
prefix_before : (l : Level) (t : Terminal) (o : UnaryOperator) → prefix_operator l t ≡ Some o → before t ≡ Some (Signed l o)
prefix_before Not (Word Key.Not) o h = cc
prefix_before Not (Word _) o h = absurd (cc)
prefix_before Factor (Op Plus) o h = cc
prefix_before Factor (Op Minus) o h = cc
prefix_before Factor (Op Tilde) o h = cc
prefix_before Factor (Op _) o h = absurd (cc)
prefix_before _ t o h = absurd (cc)

unary_step : (next inner : Reads) (k : ℕ) (l : Level) (t : Terminal) (o : UnaryOperator) (i rest : List Terminal) (e : Expr)
    → before t ≡ Some (Signed l o) → k ≤ rank l → inner l i ≡ Found e rest → climb next inner k (t ∷ i) ≡ climb_loop inner k (length rest)
    (Trees.UnaryOp o e) rest
unary_step next inner k l t o i rest e b h q = rw b (rw (le-leb k (rank l) h) (rw q refl))

pub unary_climbs : (l : Level) (ts : List Terminal) (t : Terminal) (o : UnaryOperator) (e : Expr) (d : ℕ) → prefix_operator l t ≡ Some o
    → ((rest : List Terminal) → grip_of rest ≤ lim l → read (suc d) l (ts ++ rest) ≡ Found e rest)
    → Climbs l (t ∷ ts) (Trees.UnaryOp o e) (suc d)
unary_climbs l ts t o e d h p k le rest s = (
  length rest,
  omega arith,
  unary_step (read (suc (suc d))) (read (suc d)) k l t o (ts ++ rest) rest e
      (prefix_before l t o h) le (p rest s),
)

await_step : (next inner : Reads) (k : ℕ) (i rest : List Terminal) (e : Expr) → k ≤ 22 → inner Primary i ≡ Found e rest
    → climb next inner k (Word Key.Await ∷ i) ≡ climb_loop inner k (length rest) (Trees.Await e) rest
await_step next inner k i rest e h q = rw (le-leb k 22 h) (rw q refl)

pub await_climbs : (ts : List Terminal) (e : Expr) (d : ℕ) → ReadsAt Primary ts e d
    → Climbs Await (Word Key.Await ∷ ts) (Trees.Await e) (suc d)
await_climbs ts e d p k le rest s = (
  length rest,
  omega arith,
  await_step (read (suc (suc d))) (read (suc d)) k (ts ++ rest) rest e le
      (answers Primary ts e d rest p (omega (arith, s))),
)

-- a Primary with no operator in front
no_before : (t : Terminal) → 23 ≤ lead t → before t ≡ None
no_before (Op Plus) h = absurd (omega (arith, h))
no_before (Op Minus) h = absurd (omega (arith, h))
no_before (Op Tilde) h = absurd (omega (arith, h))
no_before (Op _) h = refl
no_before (Word Key.Not) h = absurd (omega (arith, h))
no_before (Word Key.Await) h = absurd (omega (arith, h))
no_before (Word _) h = refl
no_before _ h = refl

primary_step : (next inner : Reads) (k : ℕ) (ts us rest : List Terminal) (e : Expr) → 23 ≤ lead_of ts
    → next Primary (ts ++ us) ≡ Found e rest → climb next inner k (ts ++ us) ≡ climb_loop inner k (length rest) e rest
primary_step next inner k [] us rest e h q = absurd (omega (arith, h))
primary_step next inner k (t ∷ ts) us rest e h q = rw (no_before t h) (rw q refl)

pub primary_climbs : (ts : List Terminal) (e : Expr) (d : ℕ) → 23 ≤ lead_of ts → ReadsAt Primary ts e d → Climbs Await ts e d
primary_climbs ts e d h p k le rest s =
    (length rest, omega arith, primary_step (read (suc d)) (read d) k ts rest rest e h (answers Primary ts e d rest p (omega (arith, s))))

-- `**`
pub power_climbs : (ts us : List Terminal) (a b : Expr) (d : ℕ) → Climbs Await ts a (suc d) → ReadsAt Factor us b d
    → Climbs Power (ts ++ (Op DoubleStar ∷ us)) (Trees.BinOp a Bin.Pow b) (suc d)
power_climbs ts us a b d p q k le rest s =
    let c = p k (omega (arith, le)) (Op DoubleStar ∷ (us ++ rest)) (omega arith) in
    let h2 = answers Factor us b d rest q (omega (arith, s)) in
    let v = loop_step (read (suc d)) k c.0 a (Trees.BinOp a Bin.Pow b) (Op DoubleStar) Raise (us ++ rest) rest refl le (rw h2 refl)
    (omega (arith, length-append us rest)) c.1 in
    (v.0, v.1, ap (climb (read (suc (suc d))) (read (suc d)) k) (append_assoc ts (Op DoubleStar ∷ us) rest) ∙ c.2 ∙ v.2)

-- chains of a word
abbrev pub ChainReads : BoolOperator → List Terminal → List Expr → Type 0
ChainReads o us es = (n : ℕ) × ((d : ℕ) → n ≤ d → (rest : List Terminal) → grip_of rest < rank (chain_level o) → (m : ℕ)
    → suc (length (us ++ rest)) ≤ m → (acc : List Expr)
    → chain_loop (read (suc d)) o m acc (Word (chain_word o) ∷ (us ++ rest)) ≡ Found (acc ++ es) rest)

chain_loop_end : (self : Reads) (o : BoolOperator) (m : ℕ) (acc : List Expr) (r : List Terminal) → grip_of r < rank (chain_level o)
    → chain_loop self o m acc r ≡ Found acc r
chain_loop_end self o zero acc r h = refl
chain_loop_end self Join.And (suc m) acc r h = miss_word Key.And r _ _ (λ q. omega (arith, h, q))
chain_loop_end self Join.Or (suc m) acc r h = miss_word Key.Or r _ _ (λ q. omega (arith, h, q))

chain_loop_more : (self : Reads) (o : BoolOperator) (m : ℕ) (acc : List Expr) (i r : List Terminal) (e : Expr)
    → self (below (chain_level o)) i ≡ Found e r → chain_loop self o (suc m) acc (Word (chain_word o) ∷ i) ≡ chain_loop
    self o m (acc ++ (e ∷ [])) r
chain_loop_more self Join.And m acc i r e h = rw h refl
chain_loop_more self Join.Or m acc i r e h = rw h refl

chain_stops : (o : BoolOperator) (r : List Terminal) → grip_of r ≤ rank (chain_level o) → Stops (below (chain_level o)) r
chain_stops Join.And r h = omega (arith, h)
chain_stops Join.Or r h = omega (arith, h)

chain_word_grip : (o : BoolOperator) → grip (Word (chain_word o)) ≡ rank (chain_level o)
chain_word_grip Join.And = refl
chain_word_grip Join.Or = refl

pub last_link_goes : (o : BoolOperator) (ts : List Terminal) (e : Expr) → ReadsAs (below (chain_level o)) ts e → ChainReads o ts (e ∷ [])
last_link_goes o ts e p = (p.0, go)
  where
    go : (d : ℕ) → p.0 ≤ d → (rest : List Terminal) → grip_of rest < rank (chain_level o) → (m : ℕ) → suc (length (ts ++ rest)) ≤ m
        → (acc : List Expr) → chain_loop (read (suc d)) o m acc (Word (chain_word o) ∷ (ts ++ rest)) ≡ Found (acc ++ (e ∷ [])) rest
    go d h rest g zero le acc = absurd (omega (arith, le))
    go d h rest g (suc m) le acc = chain_loop_more (read (suc d)) o m acc (ts ++ rest) rest e
        (answers (below (chain_level o)) ts e d rest (p.1 d h) (chain_stops o rest (omega (arith, g))))
        ∙ chain_loop_end (read (suc d)) o m (acc ++ (e ∷ [])) rest g

pub link_goes : (o : BoolOperator) (ts us : List Terminal) (e : Expr) (es : List Expr) → ReadsAs (below (chain_level o)) ts e
    → ChainReads o us es → ChainReads o (ts ++ (Word (chain_word o) ∷ us)) (e ∷ es)
link_goes o ts us e es p q = (max p.0 q.0, go)
  where
    w : Terminal
    w = Word (chain_word o)

    go : (d : ℕ) → max p.0 q.0 ≤ d → (rest : List Terminal) → grip_of rest < rank (chain_level o) → (m : ℕ)
        → suc (length ((ts ++ (Word (chain_word o) ∷ us)) ++ rest)) ≤ m → (acc : List Expr)
        → chain_loop (read (suc d)) o m acc (Word (chain_word o) ∷ ((ts ++ (Word (chain_word o) ∷ us)) ++ rest)) ≡
        Found (acc ++ (e ∷ es)) rest
    go d h rest g zero le acc = absurd (omega (arith, le))
    go d h rest g (suc m) le acc =
        let h1 = answers (below (chain_level o)) ts e d (Word (chain_word o) ∷ (us ++ rest)) (p.1 d (omega (arith, h)))
        (chain_stops o (Word (chain_word o) ∷ (us ++ rest)) (omega (arith, chain_word_grip o))) in
        let l1 : suc (length (us ++ rest)) ≤ m = omega (
          arith,
          le,
          length-append (ts ++ (Word (chain_word o) ∷ us)) rest,
          length-append ts (Word (chain_word o) ∷ us),
          length-append us rest,
        ) in
        ap (λ z. chain_loop (read (suc d)) o (suc m) acc (Word (chain_word o) ∷ z)) (append_assoc ts (Word (chain_word o) ∷ us) rest)
        ∙ chain_loop_more (read (suc d)) o m acc _ _ e h1 ∙ q.1 d (omega (arith, h)) rest g m l1 (acc ++ (e ∷ []))
        ∙ ap (λ z. Found z rest) (append_assoc acc (e ∷ []) es)

chain_operation : (self : Reads) (o : BoolOperator) (e : Expr) (es : List Expr) (i rest : List Terminal)
    → chain_loop self o (suc (length i)) [] (Word (chain_word o) ∷ i) ≡ Found es rest → operation self e (Joins o) (Word (chain_word o) ∷ i)
    i ≡ Found (Trees.BoolOp o (exprs (e ∷ es))) rest
chain_operation self o e es i rest h = rw h refl

chain_after : (o : BoolOperator) → following (Word (chain_word o)) ≡ Some (Joins o)
chain_after Join.And = refl
chain_after Join.Or = refl

-- the level of a chain, with the next one
pub chain_climbs : (o : BoolOperator) (l n : Level) (ts us : List Terminal) (e : Expr) (es : List Expr) (d : ℕ) → chain_level o ≡ l
    → suc (lim l) ≡ rank l → rank l ≤ rank n → rank l ≤ lim n → Climbs n ts e (suc d)
    → ((rest : List Terminal) → grip_of rest < rank (chain_level o) → chain_loop (read (suc d)) o (suc (length (us ++ rest))) []
    (Word (chain_word o) ∷ (us ++ rest)) ≡ Found es rest)
    → Climbs l (ts ++ (Word (chain_word o) ∷ us)) (Trees.BoolOp o (exprs (e ∷ es))) (suc d)
chain_climbs o l n ts us e es d b0 b1 b2 b3 p q k le rest s =
    let w : rank (chain_level o) ≡ rank l = ap rank b0 in
    let c = p k (omega (arith, le, b2)) (Word (chain_word o) ∷ (us ++ rest)) (omega (arith, b3, w, chain_word_grip o)) in
    let op = chain_operation (read (suc d)) o e es (us ++ rest) rest (q rest (omega (arith, s, b1, w))) in
    let v = loop_step (read (suc d)) k c.0 e (Trees.BoolOp o (exprs (e ∷ es))) (Word (chain_word o)) (Joins o) (us ++ rest) rest
    (chain_after o) (omega (arith, le, w)) op (omega (arith, length-append us rest)) c.1 in
    (v.0, v.1, ap (climb (read (suc (suc d))) (read (suc d)) k) (append_assoc ts (Word (chain_word o) ∷ us) rest) ∙ c.2 ∙ v.2)

-- comparisons
abbrev pub ComparesReads : List Terminal → List Comparison → List Expr → Type 0
ComparesReads us os es = (n : ℕ) × ((d : ℕ) → n ≤ d → (rest : List Terminal) → grip_of rest < 13 → (m : ℕ) → length (us ++ rest) ≤ m
    → (xs : List Comparison) (acc : List Expr) (k : List Comparison → List Expr → List Terminal → Answer Expr)
    → compare_loop (read (suc d)) m xs acc (us ++ rest) k ≡ k (xs ++ os) (acc ++ es) rest)

comparison_after : (t : Terminal) (o : Comparison) → comparison t ≡ Some o → following t ≡ Some Compares
comparison_after (Op EqEqual) o h = refl
comparison_after (Op NotEqual) o h = refl
comparison_after (Op Less) o h = refl
comparison_after (Op LessEqual) o h = refl
comparison_after (Op Greater) o h = refl
comparison_after (Op GreaterEqual) o h = refl
comparison_after (Op _) o h = absurd (cc)
comparison_after (Word Key.In) o h = refl
comparison_after (Word _) o h = absurd (cc)
comparison_after _ o h = absurd (cc)

abbrev Shape : List Terminal → Type 0
Shape us = (t : Terminal) × (vs : List Terminal) × (us ≡ t ∷ vs) × (following t ≡ Some Compares)

compared_shape : {ss : List Terminal} {o : Comparison} → G.Compared ss o → (us : List Terminal) → Shape (ss ++ us)
compared_shape (G.one_sign {t = t} {o = o} h) us = (t, us, refl, comparison_after t o h)
compared_shape G.not_in us = (Word Key.Not, Word Key.In ∷ us, refl, refl)
compared_shape G.is us = (Word Key.Is, us, refl, refl)
compared_shape G.is_not us = (Word Key.Is, Word Key.Not ∷ us, refl, refl)

pub compares_shape : {us : List Terminal} {os : List Comparison} {es : List Expr} → G.Compares us os es → Shape us
compares_shape (G.last_compare {ts = ts} c p) = compared_shape c ts
compares_shape (G.compares {ts = ts} {us = us} c p q) = compared_shape c (ts ++ us)

compares_grip : (t : Terminal) → following t ≡ Some Compares → grip t ≡ 13
compares_grip t b = rw b refl

shape_grip : (us rest : List Terminal) → Shape us → grip_of (us ++ rest) ≡ 13
shape_grip us rest (t, vs, e, b) = ap (λ z. grip_of (z ++ rest)) e ∙ compares_grip t b

on_compared : {B : Type 0} (self : Reads) {ss : List Terminal} {o : Comparison} → G.Compared ss o → (ts us : List Terminal)
    → 12 < lead_of ts → (hit : Comparison → List Terminal → Answer B) (other : Answer B)
    → on_comparison self (ss ++ (ts ++ us)) hit other ≡ hit o (ts ++ us)
on_compared self (G.one_sign {t = t} {o = o} h) ts us l hit other = rw h refl
on_compared self G.not_in ts us l hit other = refl
on_compared self G.is ts us l hit other = pass_word Key.Not ts us _ _ l
on_compared self G.is_not ts us l hit other = refl

miss_comparison : (r : List Terminal) (hit : Comparison → List Terminal → Answer Expr) (other : Answer Expr) → grip_of r < 13
    → on_first comparison r hit other ≡ other
miss_comparison [] hit other h = refl
miss_comparison (t ∷ r) hit other h = go (comparison t) refl
  where
    go : (o : Option Comparison) → comparison t ≡ o → on_some o (λ a. hit a r) other ≡ other
    go None q = refl
    go (Some c) q = absurd (omega (arith, h, shape_grip (t ∷ []) r (t, [], refl, comparison_after t c q)))

compare_loop_end : (self : Reads) (m : ℕ) (xs : List Comparison) (acc : List Expr) (r : List Terminal) (k : List Comparison → List Expr
    → List Terminal → Answer Expr) → grip_of r < 13 → compare_loop self m xs acc r k ≡ k xs acc r
compare_loop_end self zero xs acc r k h = refl
compare_loop_end self (suc m) xs acc r k h = miss_comparison r _ _ h ∙ (miss_word Key.Not r _ _ (λ q. omega (arith, h, q))
    ∙ miss_word Key.Is r _ _ (λ q. omega (arith, h, q)))

-- one comparison
compare_one : (self : Reads) {ss : List Terminal} {o : Comparison} → G.Compared ss o → (m : ℕ) (xs : List Comparison) (acc : List Expr)
    (ts us r : List Terminal) (e : Expr) (k : List Comparison → List Expr → List Terminal → Answer Expr) → 12 < lead_of ts
    → self BitOr (ts ++ us) ≡ Found e r → compare_loop self (suc m) xs acc (ss ++ (ts ++ us)) k ≡ compare_loop self m
    (xs ++ (o ∷ [])) (acc ++ (e ∷ [])) r k
compare_one self c m xs acc ts us r e k l h = on_compared self c ts us l _ _ ∙ rw h refl

compared_some : {ss : List Terminal} {o : Comparison} → G.Compared ss o → 0 < length ss
compared_some (G.one_sign h) = omega arith
compared_some G.not_in = omega arith
compared_some G.is = omega arith
compared_some G.is_not = omega arith

pub last_compare_goes : (ss ts : List Terminal) (o : Comparison) (e : Expr) → G.Compared ss o → 12 < lead_of ts → ReadsAs BitOr ts e
    → ComparesReads (ss ++ ts) (o ∷ []) (e ∷ [])
last_compare_goes ss ts o e c l p = (p.0, go)
  where
    go : (d : ℕ) → p.0 ≤ d → (rest : List Terminal) → grip_of rest < 13 → (m : ℕ) → length ((ss ++ ts) ++ rest) ≤ m
        → (xs : List Comparison) (acc : List Expr) (k : List Comparison → List Expr → List Terminal → Answer Expr)
        → compare_loop (read (suc d)) m xs acc ((ss ++ ts) ++ rest) k ≡ k (xs ++ (o ∷ [])) (acc ++ (e ∷ [])) rest
    go d h rest g zero le xs acc k = absurd (omega (arith, le, compared_some c, length-append (ss ++ ts) rest, length-append ss ts))
    go d h rest g (suc m) le xs acc k = ap (λ z. compare_loop (read (suc d)) (suc m) xs acc z k) (append_assoc ss ts rest)
        ∙ compare_one (read (suc d)) c m xs acc ts rest rest e k l (answers BitOr ts e d rest (p.1 d h) (omega (arith, g)))
        ∙ compare_loop_end (read (suc d)) m (xs ++ (o ∷ [])) (acc ++ (e ∷ [])) rest k g

pub compares_goes : (ss ts us : List Terminal) (o : Comparison) (e : Expr) (os : List Comparison) (es : List Expr) → G.Compared ss o
    → 12 < lead_of ts → ReadsAs BitOr ts e → G.Compares us os es → ComparesReads us os es
    → ComparesReads (ss ++ (ts ++ us)) (o ∷ os) (e ∷ es)
compares_goes ss ts us o e os es c l p w q = (max p.0 q.0, go)
  where
    go : (d : ℕ) → max p.0 q.0 ≤ d → (rest : List Terminal) → grip_of rest < 13 → (m : ℕ) → length ((ss ++ (ts ++ us)) ++ rest) ≤ m
        → (xs : List Comparison) (acc : List Expr) (k : List Comparison → List Expr → List Terminal → Answer Expr)
        → compare_loop (read (suc d)) m xs acc ((ss ++ (ts ++ us)) ++ rest) k ≡ k (xs ++ (o ∷ os)) (acc ++ (e ∷ es)) rest
    go d h rest g zero le xs acc k =
        absurd (omega (arith, le, compared_some c, length-append (ss ++ (ts ++ us)) rest, length-append ss (ts ++ us)))
    go d h rest g (suc m) le xs acc k =
        let h1 = answers BitOr ts e d (us ++ rest) (p.1 d (omega (arith, h))) (omega (arith, shape_grip us rest (compares_shape w))) in
        let l1 : length (us ++ rest) ≤ m = omega (
          arith,
          le,
          compared_some c,
          length-append (ss ++ (ts ++ us)) rest,
          length-append ss (ts ++ us),
          length-append ts us,
          length-append us rest,
        ) in
        ap (λ z. compare_loop (read (suc d)) (suc m) xs acc z k) (append_assoc ss (ts ++ us) rest
        ∙ ap (λ z. ss ++ z) (append_assoc ts us rest)) ∙ compare_one (read (suc d)) c m xs acc ts (us ++ rest) (us ++ rest) e k l h1
        ∙ q.1 d (omega (arith, h)) rest g m l1 (xs ++ (o ∷ [])) (acc ++ (e ∷ [])) k
        ∙ (ap (λ z. k z ((acc ++ (e ∷ [])) ++ es) rest) (append_assoc xs (o ∷ []) os)
        ∙ ap (λ z. k (xs ++ (o ∷ os)) z rest) (append_assoc acc (e ∷ []) es))

compare_climbs : (ts : List Terminal) (t : Terminal) (vs : List Terminal) (e : Expr) (os : List Comparison) (es : List Expr) (d : ℕ)
    → following t ≡ Some Compares → Climbs BitOr ts e (suc d)
    → ((rest : List Terminal) → grip_of rest < 13 → (k : List Comparison → List Expr → List Terminal → Answer Expr)
    → compare_loop (read (suc d)) (suc (length (vs ++ rest))) [] [] (t ∷ (vs ++ rest)) k ≡ k os es rest)
    → Climbs Compare (ts ++ (t ∷ vs)) (Trees.Compare e os (exprs es)) (suc d)
compare_climbs ts t vs e os es d b p q k le rest s =
    let c = p k (omega (arith, le)) (t ∷ (vs ++ rest)) (omega (arith, shape_grip (t ∷ []) (vs ++ rest) (t, [], refl, b))) in
    let v = loop_step (read (suc d)) k c.0 e (Trees.Compare e os (exprs es)) t Compares (vs ++ rest) rest b le
    (q rest (omega (arith, s)) (λ os es r2. Found (Trees.Compare e os (exprs es)) r2)) (omega (arith, length-append vs rest)) c.1 in
    (v.0, v.1, ap (climb (read (suc (suc d))) (read (suc d)) k) (append_assoc ts (t ∷ vs) rest) ∙ c.2 ∙ v.2)

pub compare_goes : (ts us : List Terminal) (e : Expr) (os : List Comparison) (es : List Expr) → ReadsAs BitOr ts e → G.Compares us os es
    → ComparesReads us os es → ReadsAs Compare (ts ++ us) (Trees.Compare e os (exprs es))
compare_goes ts us e os es p w q = go us (compares_shape w) q
  where
    go : (us : List Terminal) → Shape us → ComparesReads us os es → ReadsAs Compare (ts ++ us) (Trees.Compare e os (exprs es))
    go us (t, vs, eq, b) q = subst (λ z. ComparesReads z os es → ReadsAs Compare (ts ++ z) (Trees.Compare e os (exprs es))) (sym eq) (λ r. (
      suc (max p.0 r.0),
      deeper (ReadsAt Compare (ts ++ (t ∷ vs)) (Trees.Compare e os (exprs es))) (max p.0 r.0)
          (λ d h. compare_climbs ts t vs e os es d b (p.1 (suc d) (omega (arith, h)))
          (λ rest g k. r.1 d (omega (arith, h)) rest g (suc (length (vs ++ rest))) (omega arith) [] [] k)),
      λ d h. no_target Compare (ts ++ (t ∷ vs)) (Trees.Compare e os (exprs es)) d refl,
    )) q

-- the constructors of these levels
pub binary_goes : (l : Level) (ts us : List Terminal) (a b : Expr) (t : Terminal) (o : Operator) → left_operator l t ≡ Some o
    → ReadsAs l ts a → ReadsAs (below l) us b → ReadsAs l (ts ++ (t ∷ us)) (Trees.BinOp a o b)
binary_goes BitOr ts us a b t o e p q = (
  suc (max p.0 q.0),
  deeper (ReadsAt BitOr (ts ++ (t ∷ us)) (Trees.BinOp a o b)) (max p.0 q.0)
      (λ d h. binary_climbs BitOr BitXor ts us a b t o d refl refl e (p.1 (suc d) (omega (arith, h)))
      (λ rest s. answers BitXor us b d rest (q.1 d (omega (arith, h))) (omega (arith, s)))),
  λ d h. no_target BitOr (ts ++ (t ∷ us)) (Trees.BinOp a o b) d refl,
)
binary_goes BitXor ts us a b t o e p q = (
  suc (max p.0 q.0),
  deeper (ReadsAt BitXor (ts ++ (t ∷ us)) (Trees.BinOp a o b)) (max p.0 q.0)
      (λ d h. binary_climbs BitXor BitAnd ts us a b t o d refl refl e (p.1 (suc d) (omega (arith, h)))
      (λ rest s. answers BitAnd us b d rest (q.1 d (omega (arith, h))) (omega (arith, s)))),
  λ d h. no_target BitXor (ts ++ (t ∷ us)) (Trees.BinOp a o b) d refl,
)
binary_goes BitAnd ts us a b t o e p q = (
  suc (max p.0 q.0),
  deeper (ReadsAt BitAnd (ts ++ (t ∷ us)) (Trees.BinOp a o b)) (max p.0 q.0)
      (λ d h. binary_climbs BitAnd Shift ts us a b t o d refl refl e (p.1 (suc d) (omega (arith, h)))
      (λ rest s. answers Shift us b d rest (q.1 d (omega (arith, h))) (omega (arith, s)))),
  λ d h. no_target BitAnd (ts ++ (t ∷ us)) (Trees.BinOp a o b) d refl,
)
binary_goes Shift ts us a b t o e p q = (
  suc (max p.0 q.0),
  deeper (ReadsAt Shift (ts ++ (t ∷ us)) (Trees.BinOp a o b)) (max p.0 q.0)
      (λ d h. binary_climbs Shift Sum ts us a b t o d refl refl e (p.1 (suc d) (omega (arith, h)))
      (λ rest s. answers Sum us b d rest (q.1 d (omega (arith, h))) (omega (arith, s)))),
  λ d h. no_target Shift (ts ++ (t ∷ us)) (Trees.BinOp a o b) d refl,
)
binary_goes Sum ts us a b t o e p q = (
  suc (max p.0 q.0),
  deeper (ReadsAt Sum (ts ++ (t ∷ us)) (Trees.BinOp a o b)) (max p.0 q.0)
      (λ d h. binary_climbs Sum Term ts us a b t o d refl refl e (p.1 (suc d) (omega (arith, h)))
      (λ rest s. answers Term us b d rest (q.1 d (omega (arith, h))) (omega (arith, s)))),
  λ d h. no_target Sum (ts ++ (t ∷ us)) (Trees.BinOp a o b) d refl,
)
binary_goes Term ts us a b t o e p q = (
  suc (max p.0 q.0),
  deeper (ReadsAt Term (ts ++ (t ∷ us)) (Trees.BinOp a o b)) (max p.0 q.0)
      (λ d h. binary_climbs Term Factor ts us a b t o d refl refl e (p.1 (suc d) (omega (arith, h)))
      (λ rest s. answers Factor us b d rest (q.1 d (omega (arith, h))) (omega (arith, s)))),
  λ d h. no_target Term (ts ++ (t ∷ us)) (Trees.BinOp a o b) d refl,
)
binary_goes _ ts us a b t o e p q = absurd (cc)

pub unary_goes : (l : Level) (ts : List Terminal) (t : Terminal) (o : UnaryOperator) (e : Expr) → prefix_operator l t ≡ Some o
    → ReadsAs l ts e → ReadsAs l (t ∷ ts) (Trees.UnaryOp o e)
unary_goes Not ts t o e h p = (
  suc p.0,
  deeper (ReadsAt Not (t ∷ ts) (Trees.UnaryOp o e)) p.0
      (λ d w. unary_climbs Not ts t o e d h (λ rest s. answers Not ts e d rest (p.1 d w) (omega (arith, s)))),
  λ d w. no_target Not (t ∷ ts) (Trees.UnaryOp o e) d refl,
)
unary_goes Factor ts t o e h p = (
  suc p.0,
  deeper (ReadsAt Factor (t ∷ ts) (Trees.UnaryOp o e)) p.0
      (λ d w. unary_climbs Factor ts t o e d h (λ rest s. answers Factor ts e d rest (p.1 d w) (omega (arith, s)))),
  λ d w. no_target Factor (t ∷ ts) (Trees.UnaryOp o e) d refl,
)
unary_goes _ ts t o e h p = absurd (cc)

pub chain_goes : (o : BoolOperator) (ts us : List Terminal) (e : Expr) (es : List Expr) → ReadsAs (below (chain_level o)) ts e
    → ChainReads o us es → ReadsAs (chain_level o) (ts ++ (Word (chain_word o) ∷ us)) (Trees.BoolOp o (exprs (e ∷ es)))
chain_goes Join.And ts us e es p q = (
  suc (max p.0 q.0),
  deeper (ReadsAt And (ts ++ (Word Key.And ∷ us)) (Trees.BoolOp Join.And (exprs (e ∷ es)))) (max p.0 q.0)
      (λ d h. chain_climbs Join.And And Not ts us e es d refl refl (omega arith) (omega arith) (p.1 (suc d) (omega (arith, h)))
      (λ rest s. q.1 d (omega (arith, h)) rest s (suc (length (us ++ rest))) (omega arith) [])),
  λ d h. no_target And (ts ++ (Word Key.And ∷ us)) (Trees.BoolOp Join.And (exprs (e ∷ es))) d refl,
)
chain_goes Join.Or ts us e es p q = (
  suc (max p.0 q.0),
  deeper (ReadsAt Or (ts ++ (Word Key.Or ∷ us)) (Trees.BoolOp Join.Or (exprs (e ∷ es)))) (max p.0 q.0)
      (λ d h. chain_climbs Join.Or Or And ts us e es d refl refl (omega arith) (omega arith) (p.1 (suc d) (omega (arith, h)))
      (λ rest s. q.1 d (omega (arith, h)) rest s (suc (length (us ++ rest))) (omega arith) [])),
  λ d h. no_target Or (ts ++ (Word Key.Or ∷ us)) (Trees.BoolOp Join.Or (exprs (e ∷ es))) d refl,
)

pub power_goes : (ts us : List Terminal) (a b : Expr) → ReadsAs Await ts a → ReadsAs Factor us b
    → ReadsAs Power (ts ++ (Op DoubleStar ∷ us)) (Trees.BinOp a Bin.Pow b)
power_goes ts us a b p q = (
  suc (max p.0 q.0),
  deeper (ReadsAt Power (ts ++ (Op DoubleStar ∷ us)) (Trees.BinOp a Bin.Pow b)) (max p.0 q.0)
      (λ d h. power_climbs ts us a b d (p.1 (suc d) (omega (arith, h))) (q.1 d (omega (arith, h)))),
  λ d h. no_target Power (ts ++ (Op DoubleStar ∷ us)) (Trees.BinOp a Bin.Pow b) d refl,
)

pub await_goes : (ts : List Terminal) (e : Expr) → ReadsAs Primary ts e → ReadsAs Await (Word Key.Await ∷ ts) (Trees.Await e)
await_goes ts e p = (
  suc p.0,
  deeper (ReadsAt Await (Word Key.Await ∷ ts) (Trees.Await e)) p.0 (λ d h. await_climbs ts e d (p.1 d h)),
  λ d h. no_target Await (Word Key.Await ∷ ts) (Trees.Await e) d refl,
)
