-- What the reading of blocks gives is a tree of the relation.
--
-- Carries: read_gives, for Law, LineMore, Worked. On: Nested, Growing, Steps.
use Rattle.std.proofs.Common.{◌≡◌, ℕ, suc, ◌≤◌, List, [], ◌∷◌, ◌++◌, length, Option, Some, None, Bool, true, false, cond, refl, sym}
use Rattle.std.proofs.Common.{ap, ◌∙◌, subst, arith, append_assoc, append-nil}
use Rattle.std.specs.Prelude.{nat_lt}
use Rattle.std.proofs.lemmas.Bool.{and_parts}
use borrow.Author.Tests.{ltb-false}
use Rattle.pytree_node.specs.Trees.{Expr, Stmt, Case}
use Rattle.pygrammar.specs.Lines.{Line, line, Form, simple_form, decorator_form, header_form, Header, match_header, is_proper, are_proper}
use Rattle.pygrammar.specs.Blocks.{ExpectedIndent, UnexpectedIndent, MisplacedClause, Block, Body, Cases, Decorators, nothing, simple_line}
use Rattle.pygrammar.specs.Blocks.{inline, indented, no_case, no_decorator, decorator, header_kind, is_match}
use Rattle.pygrammar.specs.Reading.{Answer, Fine, Faulty, then, Group, Idle, Marked, closes, PartialBlock, part, meets, decorated}
use Rattle.pygrammar.specs.Reading.{or_misplaced}
use Rattle.pygrammar.specs.Reading.{place_header, Waiting, State, state, start, joined, first_group, matched, above, settle_in, settle}
use Rattle.pygrammar.specs.Reading.{place, placed, step, run, finish, read}
use Rattle.pygrammar.proofs.Block.Steps.{popped}
use Rattle.pygrammar.proofs.Block.Growing.{Prefix, block_to, closed_prefix, prefix_to, begins, whole, extends, grows_by, gathers}
use Rattle.pygrammar.proofs.Block.Nested.{Ends, ends_cases, ends_block, ends_of, is_matching, closed_unmatched, grows_same, AreNested}
use Rattle.pygrammar.proofs.Block.Nested.{nested_on, nested_deeper, nested_pop, proper_no_match}

-- ---- The lines after a state.

-- a level that waits for a block: whatever the block is, or the cases of a `match`, the level goes on with it
pub record Awaits (l : ℕ) (xs : List Line) (w : Waiting) : Type 0 where
  pub grow : is_match (header_kind w.header) ≡ false → (ys : List Line) (body : List Stmt) → Body l None ys body →
      Prefix l (xs ++ (line l (header_form w.header None) ∷ ys)) (joined w.done w.group w.header body).done
      (joined w.done w.group w.header body).group
  pub gather : is_match (header_kind w.header) ≡ true → (y : Line) (ys : List Line) (cs : List Case) → Cases (suc l) (y ∷ ys) cs →
      Prefix l (xs ++ (line l (header_form w.header None) ∷ (y ∷ ys))) (w.done ++ matched w.header cs) Idle

abbrev pub Stack : List Line → List Waiting → Type 0
Stack seen [] = seen ≡ []
Stack seen (w ∷ below) =
    (earlier : List Line) × (xs : List Line) × (seen ≡ earlier ++ (xs ++ (line (length below) (header_form w.header None) ∷ []))) × Stack
    earlier below × Awaits (length below) xs w

-- a level that is not fresh has had a line, but perhaps the lowest
abbrev pub IsFilled : Bool → List Waiting → List Line → Type 0
IsFilled false (w ∷ below) [] = ⊥
IsFilled _ _ _ = Unit {0}

pub record Holds (seen : List Line) (d : List Stmt) (g : Group) (f : Bool) (below : List Waiting) : Type 0 where
  pub earlier : List Line
  pub here : List Line
  pub is : seen ≡ earlier ++ here
  pub stack : Stack earlier below
  pub prefix : Prefix (length below) here d g
  pub filled : IsFilled f below here
  pub nested : AreNested g below

body_of : (l : ℕ) (w : Waiting) (below : List Waiting) (xs : List Line) (ss : List Stmt) → IsFilled false (w ∷ below) xs
    → Block (suc l) xs ss → Body l None xs ss
body_of l w below [] ss h b = absurd h
body_of l w below (x ∷ xs) ss h b = indented b

filled_after : (xs : List Line) (x : Line) (ys : List Line) (f : Bool) (below : List Waiting) → IsFilled f below (xs ++ (x ∷ ys))
filled_after [] x ys true below = tt
filled_after [] x ys false [] = tt
filled_after [] x ys false (w ∷ below) = tt
filled_after (y ∷ xs) x ys true below = tt
filled_after (y ∷ xs) x ys false [] = tt
filled_after (y ∷ xs) x ys false (w ∷ below) = tt

-- the cases of a level
cases_of : (l : ℕ) (front back here : List Line) (cs : List Case) → here ≡ front ++ back → (front ≡ []) × Cases l back cs → Cases l here cs
cases_of l front back here cs e k = let P : List Line → Type 0 = λ z. Cases l z cs in subst P (sym (e ∙ ap (λ z. z ++ back) k.0)) k.1

gathered : (l : ℕ) (w : Waiting) (below : List Waiting) (xs ys : List Line) (cs : List Case) → Awaits l xs w
    → is_match (header_kind w.header) ≡ true →
    IsFilled false (w ∷ below) ys → Cases (suc l) ys cs → Prefix l (xs ++ (line l (header_form w.header None) ∷ ys))
    (w.done ++ matched w.header cs) Idle
gathered l w below xs [] cs a i h c = absurd h
gathered l w below xs (y ∷ ys) cs a i h c = a.gather i y ys cs c

ends_prefix : (seen : List Line) (d : List Stmt) (g : Group) (w : Waiting) (below : List Waiting) (p : PartialBlock)
    (h : Holds seen d g false (w ∷ below)) → Ends w d g p →
    Prefix (length below) (h.stack.1 ++ (line (length below) (header_form w.header None) ∷ h.here)) p.done p.group
ends_prefix seen d g w below p h (ends_cases cs) =
    gathered (length below) w below h.stack.1 h.here cs h.stack.4 (sym h.nested.0) h.filled
    (cases_of (suc (length below)) h.prefix.front h.prefix.back h.here cs h.prefix.is h.prefix.grown)
ends_prefix seen d g w below p h (ends_block ss c) =
    h.stack.4.grow (sym h.nested.0 ∙ closed_unmatched g ss c) h.here (d ++ ss) (body_of (length below) w below h.here (d ++ ss) h.filled
    (closed_prefix ss c h.prefix))

-- a level comes to its end
joins : (seen : List Line) (d : List Stmt) (g : Group) (w : Waiting) (below : List Waiting) (p : PartialBlock)
    → Holds seen d g false (w ∷ below)
    → above w d g ≡ Some p →
    Holds seen p.done p.group false below
joins seen d g w below p h c =
    let head : Line = line (length below) (header_form w.header None) in
    let earlier : List Line = h.stack.0 in
    let xs : List Line = h.stack.1 in
    let e : h.earlier ≡ earlier ++ (xs ++ (head ∷ [])) = h.stack.2 in
    let k = ends_of w d g p c in
    record {
      earlier = earlier;
      here = xs ++ (head ∷ h.here);
      is = h.is ∙ ap (λ z. z ++ h.here) e ∙ append_assoc earlier (xs ++ (head ∷ [])) h.here
          ∙ ap (λ z. earlier ++ z) (append_assoc xs (head ∷ []) h.here);
      stack = h.stack.3;
      prefix = ends_prefix seen d g w below p h k;
      filled = filled_after xs head h.here false below;
      nested = nested_pop w d g p below k h.nested;
    }

abbrev pub HoldsState : List Line → State → Type 0
HoldsState seen s = Holds seen s.done s.group s.fresh s.below

settle_pops : (l : ℕ) (seen : List Line) (d : List Stmt) (g : Group) (f : Bool) (w : Waiting) (below : List Waiting) (t : State)
    → Holds seen d g f (w ∷ below) →
    cond f (Faulty ExpectedIndent) (popped l d g w below) ≡ Fine t →
    ((p : PartialBlock) → Holds seen p.done p.group false below → settle_in l p.done p.group false below ≡ Fine t
    → HoldsState seen t × (length t.below ≤ l)) →
    HoldsState seen t × (length t.below ≤ l)
settle_pops l seen d g true w below t h e k = cc
settle_pops l seen d g false w below t h e k =
    elim (above w d g) as (λ o. above w d g ≡ o
    → elim o [ None ↦ Faulty MisplacedClause | Some p ↦ settle_in l p.done p.group false below ] ≡ Fine t
    → HoldsState seen t × (length t.below ≤ l)) [
      | None ↦ λ c i. cc
      | Some p ↦ λ c i. k p (joins seen d g w below p h c) i
    ] refl e

pub settle_holds : (l : ℕ) (seen : List Line) (d : List Stmt) (g : Group) (f : Bool) (below : List Waiting) (t : State)
    → Holds seen d g f below →
    settle_in l d g f below ≡ Fine t → HoldsState seen t × (length t.below ≤ l)
settle_holds l seen d g f [] t h e =
    let i : state d g f [] ≡ t = cc in
    let P : State → Type 0 = λ z. HoldsState seen z × (length z.below ≤ l) in subst P i (h, omega arith)
settle_holds l seen d g f (w ∷ below) t h e =
    elim (nat_lt l (length (w ∷ below))) as (λ b. nat_lt l (length (w ∷ below)) ≡ b
    → cond b (cond f (Faulty ExpectedIndent) (popped l d g w below)) (Fine (state d g f (w ∷ below))) ≡ Fine t
    → HoldsState seen t × (length t.below ≤ l)) [
      | true ↦ λ n k. settle_pops l seen d g f w below t h k (λ p hh kk. settle_holds l seen p.done p.group false below t hh kk)
      | false ↦ λ n k.
          let i : state d g f (w ∷ below) ≡ t = cc in
          let m : length (w ∷ below) ≤ l = ltb-false l (length (w ∷ below)) n in
          let P : State → Type 0 = λ z. HoldsState seen z × (length z.below ≤ l) in subst P i (h, m)
    ] refl e

-- a line of the deepest level
abbrev pub Then : List Line → Line → State → Type 0
Then seen x t = HoldsState (seen ++ (x ∷ [])) t

stays : {seen : List Line} {d : List Stmt} {g : Group} {f : Bool} {below : List Waiting} (x : Line) (d' : List Stmt) (g' : Group)
    → is_matching g' ≡ is_matching g → (h : Holds seen d g f below) →
    Prefix (length below) (h.here ++ (x ∷ [])) d' g' → Holds (seen ++ (x ∷ [])) d' g' false below
stays {g = g} {below = below} x d' g' e h p = record {
  earlier = h.earlier;
  here = h.here ++ (x ∷ []);
  is = ap (λ z. z ++ (x ∷ [])) h.is ∙ append_assoc h.earlier h.here (x ∷ []);
  stack = h.stack;
  prefix = p;
  filled = filled_after h.here x [] false below;
  nested = nested_on g g' below e h.nested;
}

state_is : (seen : List Line) (s t : State) → Fine s ≡ Fine t → HoldsState seen s → HoldsState seen t
state_is seen s t e h = let i : s ≡ t = cc in let P : State → Type 0 = λ z. HoldsState seen z in subst P i h

-- the block of a `match` is its cases
first_prefix : (l : ℕ) (h : Header) → Prefix l [] [] (first_group h)
first_prefix l (match_header t) = record { front = []; back = []; is = refl; block = nothing; grown = (refl, no_case) }
first_prefix l _ = record { front = []; back = []; is = refl; block = nothing; grown = refl }

place_header_holds : (seen : List Line) (d : List Stmt) (g : Group) (f : Bool) (below : List Waiting) (h : Header)
    (suite : Option (List Stmt)) (p : PartialBlock) → is_proper (header_form h suite) ≡ true →
    Holds seen d g f below → meets g h ≡ Some p → Then seen (line (length below) (header_form h suite))
    (place_header (state d g f below) h suite p)
place_header_holds seen d g f below h None p i k m = record {
  earlier = seen ++ (line (length below) (header_form h None) ∷ []);
  here = [];
  is = sym (append-nil (seen ++ (line (length below) (header_form h None) ∷ [])));
  stack = (
    k.earlier,
    k.here,
    ap (λ z. z ++ (line (length below) (header_form h None) ∷ [])) k.is
        ∙ append_assoc k.earlier k.here (line (length below) (header_form h None) ∷ []),
    k.stack,
    record { grow = λ n ys body b. (grows_by g h p n m k.prefix b).prefix; gather = λ n y ys cs c. gathers g h p n m k.prefix y ys cs c },
  );
  prefix = first_prefix (suc (length below)) h;
  filled = tt;
  nested = nested_deeper g below (d ++ p.done) h p m k.nested;
}
place_header_holds seen d g f below h (Some ss) p i k m =
    stays (line (length below) (header_form h (Some ss))) (joined (d ++ p.done) p.group h ss).done (joined (d ++ p.done) p.group h ss).group
    (grows_same g h p ss m) k
    (grows_by g h p (proper_no_match h ss i) m k.prefix inline).prefix

decorators-append : {l : ℕ} {xs ys : List Line} {es fs : List Expr} → Decorators l xs es → Decorators l ys fs
    → Decorators l (xs ++ ys) (es ++ fs)
decorators-append no_decorator q = q
decorators-append (decorator p) q = decorator (decorators-append p q)

marks : (seen : List Line) (d : List Stmt) (g : Group) (f : Bool) (below : List Waiting) (x : Expr) (p : PartialBlock)
    → Holds seen d g f below
    → (o : Option (List Stmt)) → closes g ≡ o →
    elim o [ None ↦ None | Some ss ↦ Some (part ss (Marked (x ∷ []))) ] ≡ Some p
    → Holds (seen ++ (line (length below) (decorator_form x) ∷ [])) (d ++ p.done) p.group false below
marks seen d g f below x p k None c e = cc
marks seen d g f below x p k (Some more) c e =
    let i : part more (Marked (x ∷ [])) ≡ p = cc in
    let P : PartialBlock → Type 0 = λ z. Holds (seen ++ (line (length below) (decorator_form x) ∷ [])) (d ++ z.done) z.group false below in
    subst P i (stays (line (length below) (decorator_form x)) (d ++ more) (Marked (x ∷ [])) (sym (closed_unmatched g more c)) k
    (begins (line (length below) (decorator_form x) ∷ []) more (Marked (x ∷ [])) c k.prefix (decorator no_decorator)))

decorated_holds : (seen : List Line) (d : List Stmt) (g : Group) (f : Bool) (below : List Waiting) (x : Expr) (p : PartialBlock)
    → Holds seen d g f below →
    decorated g x ≡ Some p → Holds (seen ++ (line (length below) (decorator_form x) ∷ [])) (d ++ p.done) p.group false below
decorated_holds seen d (Marked es) f below x p k e =
    let i : part [] (Marked (es ++ x ∷ [])) ≡ p = cc in
    let P : PartialBlock → Type 0 = λ z. Holds (seen ++ (line (length below) (decorator_form x) ∷ [])) (d ++ z.done) z.group false below in
    subst P i (stays (line (length below) (decorator_form x)) (d ++ []) (Marked (es ++ x ∷ [])) refl k
    (prefix_to (sym (append-nil d)) (extends (line (length below) (decorator_form x) ∷ []) (Marked (es ++ x ∷ [])) k.prefix
    (λ front ys n. decorators-append n (decorator no_decorator)))))
decorated_holds seen d g f below x p k e = marks seen d g f below x p k (closes g) refl e

simple_holds : (seen : List Line) (s : State) (ss : List Stmt) (t : State) → HoldsState seen s
    → (o : Option (List Stmt)) → closes s.group ≡ o →
    or_misplaced o (λ more. state ((s.done ++ more) ++ ss) Idle false s.below) ≡ Fine t
    → Then seen (line (length s.below) (simple_form ss)) t
simple_holds seen s ss t h None c e = cc
simple_holds seen s ss t h (Some more) c e =
    state_is (seen ++ (line (length s.below) (simple_form ss) ∷ [])) (state ((s.done ++ more) ++ ss) Idle false s.below) t e
    (stays (line (length s.below) (simple_form ss)) ((s.done ++ more) ++ ss) Idle (sym (closed_unmatched s.group more c)) h
    (whole (line (length s.below) (simple_form ss) ∷ []) more ss c h.prefix simple_line))

decorator_holds : (seen : List Line) (s : State) (x : Expr) (t : State) → HoldsState seen s → (o : Option PartialBlock)
    → decorated s.group x ≡ o →
    or_misplaced o (λ p. state (s.done ++ p.done) p.group false s.below) ≡ Fine t → Then seen (line (length s.below) (decorator_form x)) t
decorator_holds seen s x t h None c e = cc
decorator_holds seen s x t h (Some p) c e =
    state_is (seen ++ (line (length s.below) (decorator_form x) ∷ [])) (state (s.done ++ p.done) p.group false s.below) t e
    (decorated_holds seen s.done s.group s.fresh s.below x p h c)

header_holds : (seen : List Line) (s : State) (k : Header) (suite : Option (List Stmt)) (t : State) → is_proper (header_form k suite) ≡ true
    → HoldsState seen s → (o : Option PartialBlock) → meets s.group k ≡ o →
    or_misplaced o (place_header s k suite) ≡ Fine t → Then seen (line (length s.below) (header_form k suite)) t
header_holds seen s k suite t i h None c e = cc
header_holds seen s k suite t i h (Some p) c e =
    state_is (seen ++ (line (length s.below) (header_form k suite) ∷ [])) (place_header s k suite p) t e
    (place_header_holds seen s.done s.group s.fresh s.below k suite p i h c)

place_holds : (seen : List Line) (s : State) (f : Form) (t : State) → is_proper f ≡ true → HoldsState seen s → place s f ≡ Fine t
    → Then seen (line (length s.below) f) t
place_holds seen s (simple_form ss) t i h e = simple_holds seen s ss t h (closes s.group) refl e
place_holds seen s (decorator_form x) t i h e = decorator_holds seen s x t h (decorated s.group x) refl e
place_holds seen s (header_form k suite) t i h e = header_holds seen s k suite t i h (meets s.group k) refl e

placed_holds : (seen : List Line) (x : Line) (t u : State) → is_proper x.form ≡ true → HoldsState seen u → length u.below ≤ x.level
    → placed x.level x.form u ≡ Fine t → Then seen x t
placed_holds seen x t u o h n e =
    elim (nat_lt (length u.below) x.level) as (λ b. nat_lt (length u.below) x.level ≡ b
    → cond b (Faulty UnexpectedIndent) (place u x.form) ≡ Fine t → Then seen x t) [
      | true ↦ λ k i. cc
      | false ↦ λ k i.
          let m : x.level ≤ length u.below = ltb-false (length u.below) x.level k in
          let j : length u.below ≡ x.level = omega arith in
          let P : ℕ → Type 0 = λ z. Then seen (line z x.form) t in
          subst P j (place_holds seen u x.form t o h i)
    ] refl e

step_from : (seen : List Line) (s : State) (x : Line) (t : State) → is_proper x.form ≡ true → HoldsState seen s → (a : Answer State)
    → settle x.level s ≡ a → then a (placed x.level x.form) ≡ Fine t → Then seen x t
step_from seen s x t o h (Faulty f) c e = cc
step_from seen s x t o h (Fine u) c e =
    let k = settle_holds x.level seen s.done s.group s.fresh s.below u h c in
    placed_holds seen x t u o k.0 k.1 e

step_holds : (seen : List Line) (s : State) (x : Line) (t : State) → is_proper x.form ≡ true → HoldsState seen s
    → step s x ≡ Fine t → Then seen x t
step_holds seen s x t o h e = step_from seen s x t o h (settle x.level s) refl e

-- the first line, and those after it
proper_parts : (x : Line) (xs : List Line) → are_proper (x ∷ xs) ≡ true → (is_proper x.form ≡ true) × (are_proper xs ≡ true)
proper_parts x xs o = and_parts (is_proper x.form) (are_proper xs) o

run_holds : (seen xs : List Line) (s t : State) → are_proper xs ≡ true → HoldsState seen s → run xs s ≡ Fine t → HoldsState (seen ++ xs) t
run_holds seen [] s t o h e =
    let i : s ≡ t = cc in let P : State → Type 0 = λ z. HoldsState (seen ++ []) z in let Q : List Line → Type 0 = λ z. HoldsState z s in
    subst P i (subst Q (sym (append-nil seen)) h)
run_holds seen (x ∷ xs) s t o h e =
    let n = proper_parts x xs o in
    elim (step s x) as (λ a. step s x ≡ a → then a (run xs) ≡ Fine t → HoldsState (seen ++ (x ∷ xs)) t) [
      | Fine u ↦ λ k i. let Q : List Line → Type 0 = λ z. HoldsState z t in
          subst Q (append_assoc seen (x ∷ []) xs) (run_holds (seen ++ (x ∷ [])) xs u t n.1 (step_holds seen s x u n.0 h k) i)
      | Faulty f ↦ λ k i. cc
    ] refl e

start_holds : HoldsState [] start
start_holds = record {
  earlier = [];
  here = [];
  is = refl;
  stack = refl;
  prefix = record {
    front = [];
    back = [];
    is = refl;
    block =
        nothing;
    grown = refl;
  };
  filled = tt;
  nested = refl;
}

closed_gives : (seen : List Line) (d : List Stmt) (g : Group) (f : Bool) (below : List Waiting) (ss : List Stmt) → Holds seen d g f below
    → length below ≤ 0 → (o : Option (List Stmt)) → closes g ≡ o →
    elim o [ None ↦ Faulty MisplacedClause | Some last ↦ Fine (d ++ last) ] ≡ Fine ss → Block 0 seen ss
closed_gives seen d g f below ss h n None c e = cc
closed_gives seen d g f (w ∷ below) ss h n (Some last) c e = absurd (omega arith)
closed_gives seen d g f [] ss h n (Some last) c e =
    let i : d ++ last ≡ ss = cc in
    block_to (sym (h.is ∙ ap (λ z. z ++ h.here) h.stack)) i (closed_prefix last c h.prefix)

finish_from : (seen : List Line) (s : State) (ss : List Stmt) → HoldsState seen s → (a : Answer State) → settle 0 s ≡ a →
    then a (λ t. elim (closes t.group) [ None ↦ Faulty MisplacedClause | Some ss ↦ Fine (t.done ++ ss) ]) ≡ Fine ss → Block 0 seen ss
finish_from seen s ss h (Faulty f) c e = cc
finish_from seen s ss h (Fine t) c e =
    let k = settle_holds 0 seen s.done s.group s.fresh s.below t h c in
    closed_gives seen t.done t.group t.fresh t.below ss k.0 k.1 (closes t.group) refl e

finish_gives : (seen : List Line) (s : State) (ss : List Stmt) → HoldsState seen s → finish s ≡ Fine ss → Block 0 seen ss
finish_gives seen s ss h e = finish_from seen s ss h (settle 0 s) refl e

-- every answer of the reading is a tree
pub read_gives : (xs : List Line) (ss : List Stmt) → are_proper xs ≡ true → read xs ≡ Fine ss → Block 0 xs ss
read_gives xs ss o e =
    elim (run xs start) as (λ a. run xs start ≡ a → then a finish ≡ Fine ss → Block 0 xs ss) [
      | Fine t ↦ λ k i. finish_gives xs t ss (run_holds [] xs start t o start_holds k) i
      | Faulty f ↦ λ k i. cc
    ] refl e
