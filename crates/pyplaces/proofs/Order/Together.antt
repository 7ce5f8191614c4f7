-- Lines that lie one after the other, with their counts; what a compound statement is over them, and statements one after the other.
--
-- Carries: Given, split, head, compound, defined, both_in and their like, for Blocks. On: Lines, Counted.
use Rattle.std.proofs.Common.{◌≡◌, refl, sym, ap, ◌∙◌, subst, ℕ, ◌+◌, ◌≤◌, arith, Bool, true, false, List, [], ◌∷◌, ◌++◌, append-nil}
use Rattle.std.proofs.Common.{append_assoc, length, length-append, take, drop, Option}
use Rattle.std.proofs.lemmas.List.{take-append-drop, length-take-le}
use Rattle.pytree_node.specs.declared.profiles.Profile.{Profile}
use Rattle.pytree_node.specs.Trees.{Stmt, Expr, exprs, Item, Handler}
use Rattle.pytree_dump_text.specs.Shows.{shown_stmt, shown_exprs}
use Rattle.pytree_marked.specs.MarkedNodes.{marked, marked_rows}
use Rattle.pygrammar.specs.Lines.{Line, Form, header_form, def_header, DefHead, function_head, class_head, definition, LoopHead}
use Rattle.pygrammar.specs.Lines.{while_head, for_head, loop, with_of, try_of}
use Rattle.pygrammar.specs.Blocks as B
use Rattle.pyplaces.specs.Stretches.{Span}
use Rattle.pyplaces.specs.BlockPlaces.{LinePlaces, ending, own, decorator_places, definition_places, body_places}
use Rattle.pyplaces.specs.Laws.{last_of, statement_spans, AreInOrder}
use Rattle.pyplaces.specs.Spans.{AllLieBetween}
use Rattle.pyplaces.specs.Nesting.{in_decorators, HoldsItsParts}
use Rattle.pyplaces.proofs.Laws.Blocks.{LinesCounted, a_line, front, back, rows, decorators_count, definition_is}
use Rattle.pyplaces.proofs.Order.Filling.{all_wide, all_both}
use Rattle.pyplaces.proofs.Order.Simples.{SimplesIn, StatementIn, three, last_is, more_in, one_in, order_lower}
use Rattle.pyplaces.proofs.Order.Lines.{LineLies, LinesLie, no_more, one_more}

-- ---- Spans in some bytes.

infixr 50 ◌⊕◌
pub record In (lo hi : ℕ) (ps : List Span) : Type 0 where
  pub are : AllLieBetween lo hi ps

pub nothing : {lo hi : ℕ} → In lo hi []
nothing = record { are = tt }

pub ◌⊕◌ : {lo hi : ℕ} {ps qs : List Span} → In lo hi ps → In lo hi qs → In lo hi (ps ++ qs)
◌⊕◌ {lo} {hi} {ps} {qs} p q = record { are = all_both lo hi ps qs p.are q.are }

pub wide : {lo hi low high : ℕ} {ps : List Span} → In lo hi ps → low ≤ lo → hi ≤ high → In low high ps
wide {lo} {hi} {low} {high} {ps} p a b = record { are = all_wide lo hi low high ps a b p.are }

pub as_list : {lo hi : ℕ} {ps qs : List Span} → ps ≡ qs → In lo hi qs → In lo hi ps
as_list {lo} {hi} e p = record { are = subst (AllLieBetween lo hi) (sym e) p.are }

-- ---- Lines.

pub record Given (profile : Profile) (lo : ℕ) (xs : List Line) (zs : List LinePlaces) (hi : ℕ) : Type 0 where
  pub lie : LinesLie profile lo xs zs hi
  pub counted : LinesCounted profile xs zs

record LieSplit (profile : Profile) (lo : ℕ) (xs ys : List Line) (zs : List LinePlaces) (hi : ℕ) : Type 0 where
  middle : ℕ
  first : LinesLie profile lo xs (take (length xs) zs) middle
  others : LinesLie profile middle ys (drop (length xs) zs) hi

split_lie : {profile : Profile} {lo hi : ℕ} (xs ys : List Line) {zs : List LinePlaces} → LinesLie profile lo (xs ++ ys) zs hi
    → LieSplit profile lo xs ys zs hi
split_lie {lo = lo} [] ys o = record { middle = lo; first = no_more (omega arith); others = o }
split_lie (x ∷ xs) ys (one_more a l o) =
    let r = split_lie xs ys o in record { middle = r.middle; first = one_more a l r.first; others = r.others }

pub record Split (profile : Profile) (lo : ℕ) (xs ys : List Line) (zs : List LinePlaces) (hi : ℕ) : Type 0 where
  pub middle : ℕ
  pub first : Given profile lo xs (take (length xs) zs) middle
  pub others : Given profile middle ys (drop (length xs) zs) hi

pub split : {profile : Profile} {lo hi : ℕ} (xs ys : List Line) {zs : List LinePlaces} → Given profile lo (xs ++ ys) zs hi
    → Split profile lo xs ys zs hi
split xs ys g =
    let r = split_lie xs ys g.lie in record {
      middle = r.middle;
      first = record { lie = r.first; counted = front xs ys g.counted };
      others = record { lie = r.others; counted = back xs ys g.counted };
    }

pub reaches : {profile : Profile} {lo hi : ℕ} {xs : List Line} {zs : List LinePlaces} → LinesLie profile lo xs zs hi → lo ≤ hi
reaches (no_more h) = h
reaches (one_more a l o) = let k = reaches o in omega (arith, a, l.forward, k)

-- up to where the last of them ends
up_to_last : {profile : Profile} {hi : ℕ} (n : ℕ) (z : LinePlaces) {xs : List Line} {zs : List LinePlaces}
    → LinesLie profile z.whole.stop xs zs hi
    → LinesLie profile z.whole.stop xs zs (ending n (z ∷ zs)).stop × ((ending n (z ∷ zs)).stop ≤ hi)
up_to_last n z (no_more h) = (no_more (omega arith), h)
up_to_last n z (one_more {z = w} a l o) = let r = up_to_last n w o in (one_more a l r.0, r.1)

ending_starts : (n : ℕ) (z : LinePlaces) (zs : List LinePlaces) → (ending n (z ∷ zs)).start ≡ n
ending_starts n z [] = refl
ending_starts n z (w ∷ zs) = ending_starts n w zs

-- the first line, and those after it, up to where the last of them ends
pub record Head (profile : Profile) (lo : ℕ) (f : Form) (xs : List Line) (z : LinePlaces) (zs : List LinePlaces) (hi : ℕ) : Type 0 where
  pub line_lies : LineLies profile f z
  pub begins : lo ≤ z.whole.start
  pub others : Given profile z.whole.stop xs zs (ending z.whole.start (z ∷ zs)).stop
  pub all : Given profile z.whole.stop xs zs hi
  pub start : (ending z.whole.start (z ∷ zs)).start ≡ z.whole.start
  pub last : z.whole.stop ≤ (ending z.whole.start (z ∷ zs)).stop
  pub ends : (ending z.whole.start (z ∷ zs)).stop ≤ hi

pub one_head : {profile : Profile} {lo hi : ℕ} {f : Form} {xs : List Line} {z : LinePlaces} {zs : List LinePlaces} → LineLies profile f z
    → lo ≤ z.whole.start → Given profile z.whole.stop xs zs hi → Head profile lo f xs z zs hi
one_head {z = z} {zs = zs} l a g =
    let t = up_to_last z.whole.start z g.lie in
    record {
      line_lies = l;
      begins = a;
      others = record { lie = t.0; counted = g.counted };
      all = g;
      start = ending_starts z.whole.start z zs;
      last = reaches t.0;
      ends = t.1;
    }

pub head : {profile : Profile} {lo hi : ℕ} {x : Line} {xs : List Line} {z : LinePlaces} {zs : List LinePlaces}
    → Given profile lo (x ∷ xs) (z ∷ zs) hi → Head profile lo x.form xs z zs hi
head {profile} {lo} {hi} {x} {xs} {z} {zs} g = by g.lie g.counted
  where
    by : LinesLie profile lo (x ∷ xs) (z ∷ zs) hi → LinesCounted profile (x ∷ xs) (z ∷ zs) → Head profile lo x.form xs z zs hi
    by (one_more a l o) (a_line c k) = one_head l a (record { lie = o; counted = k })

-- the spans in the first line
pub before_in : {profile : Profile} {f : Form} {z : LinePlaces} → LineLies profile f z → In z.whole.start z.whole.stop z.before
before_in l = record { are = l.before }

pub suite_lies : {profile : Profile} {f : Form} {z : LinePlaces} → LineLies profile f z → In z.whole.start z.whole.stop z.suite
suite_lies l = record { are = l.suite }

-- the own span of a compound statement
pub own_in : {profile : Profile} {lo hi : ℕ} {f : Form} {xs : List Line} {z : LinePlaces} {zs : List LinePlaces}
    → Head profile lo f xs z zs hi → In z.whole.start (ending z.whole.start (z ∷ zs)).stop (own z zs)
own_in h = let l = h.line_lies in record {
  are = (record { begins = omega (arith, h.start); forward = omega (arith, h.start, h.last, l.forward); ends = omega arith }, tt);
}

-- ---- What is known of some statements.

pub record BlockIn (profile : Profile) (lo hi : ℕ) (ss : List Stmt) (ps : List Span) (I : Type 0) : Type 0 where
  pub laid : SimplesIn profile lo ss ps hi
  pub lies : In lo hi ps
  pub inside : I

pub record BodyIn (lo hi : ℕ) (ps : List Span) (I : Type 0) : Type 0 where
  pub lies : In lo hi ps
  pub inside : I

-- a compound statement of some parts, without decorators
pub compound : {profile : Profile} {lo hi : ℕ} {f : Form} {xs : List Line} {z : LinePlaces} {zs : List LinePlaces} {ps parts : List Span}
    {I : Type 0} (s : Stmt) → Head profile lo f xs z zs hi → ps ≡ parts ++ own z zs
    → In z.whole.start (ending z.whole.start (z ∷ zs)).stop parts → length ps ≡ marked (shown_stmt profile s) + 0 → 0 ≡ in_decorators s
    → I → BlockIn profile lo hi (s ∷ []) ps I
compound {profile} {lo} {hi} {z = z} {zs = zs} {ps = ps} {parts = parts} s h e p count none inside =
    let o = ending z.whole.start (z ∷ zs) in
    let l = h.line_lies in
    let holds : AllLieBetween o.start o.stop (parts ++ []) =
    subst (λ n. AllLieBetween n o.stop (parts ++ [])) (sym h.start)
    (subst (AllLieBetween z.whole.start o.stop) (sym (append-nil parts)) p.are) in
    let root : HoldsItsParts s ps = record {
      inside = parts;
      beside = [];
      further = [];
      own = o;
      are = e;
      decorators = none;
      forward = omega (arith, h.start, h.last, l.forward);
      holds = holds;
      apart = tt;
    } in
    let a : StatementIn profile lo s ps hi =
    record { root = root; begins = omega (arith, h.start, h.begins); ends = h.ends; count = omega (arith, count) } in
    record { laid = one_in a (omega arith); lies = as_list e (wide (p ⊕ own_in h) h.begins h.ends); inside = inside }

pub loop_plain : (head : LoopHead) (body orelse : List Stmt) → 0 ≡ in_decorators (loop head body orelse)
loop_plain (while_head e) body orelse = refl
loop_plain (for_head false t e) body orelse = refl
loop_plain (for_head true t e) body orelse = refl

pub with_plain : (b : Bool) (items : List Item) (body : List Stmt) → 0 ≡ in_decorators (with_of b items body)
with_plain false items body = refl
with_plain true items body = refl

pub try_plain : (b : Bool) (body : List Stmt) (hs : List Handler) (orelse final : List Stmt)
    → 0 ≡ in_decorators (try_of b body hs orelse final)
try_plain false body hs orelse final = refl
try_plain true body hs orelse final = refl

-- ---- Definitions.

decorators_lie : {profile : Profile} {lo hi : ℕ} {xs : List Line} {zs : List LinePlaces} → LinesLie profile lo xs zs hi
    → In lo hi (decorator_places zs)
decorators_lie (no_more h) = nothing
decorators_lie (one_more a l o) =
    let k = reaches o in
    wide (before_in l) a k ⊕ wide (decorators_lie o) (omega (arith, a, l.forward)) (omega arith)

in_definition : (es : List Expr) (head : DefHead) (body : List Stmt)
    → marked_rows (shown_exprs (exprs es)) ≡ in_decorators (definition es head body)
in_definition es (function_head false x ps a r) body = refl
in_definition es (function_head true x ps a r) body = refl
in_definition es (class_head x ps bases ks) body = refl

pub defined : {profile : Profile} {lo mid hi l : ℕ} {suite : Option (List Stmt)} {ds xs : List Line} {es : List Expr} {body : List Stmt}
    {dz : List LinePlaces} {z : LinePlaces} {zs : List LinePlaces} {I : Type 0} (head : DefHead) (d : B.Decorators l ds es)
    (b : B.Body l suite xs body) → Given profile lo ds dz mid
    → Head profile mid (header_form (def_header head) suite) xs z zs hi
    → BodyIn z.whole.start (ending z.whole.start (z ∷ zs)).stop (body_places z zs b) I
    → length (definition_places dz (z ∷ zs) b) ≡ marked (shown_stmt profile (definition es head body)) + 0
    → BlockIn profile lo hi (definition es head body ∷ []) (definition_places dz (z ∷ zs) b) I
defined {profile} {lo} {mid} {hi} {es = es} {body = body} {dz = dz} {z = z} {zs = zs} head d b g h p count =
    let o = ending z.whole.start (z ∷ zs) in
    let l = h.line_lies in
    let s = definition es head body in
    let low = reaches g.lie in
    let inner = body_places z zs b in
    let inside = z.before ++ inner in
    let decorators = decorator_places dz in
    let first : In z.whole.start o.stop inside = wide (before_in l) (omega arith) h.last ⊕ p.lies in
    let following : In z.whole.start z.whole.stop z.following = record { are = l.following } in
    let further : In z.whole.start o.stop z.following = wide following (omega arith) h.last in
    let beside : In lo mid decorators = decorators_lie g.lie in
    let apart : In 0 z.whole.start decorators = wide beside (omega arith) h.begins in
    let parts = first ⊕ further in
    let c = decorators_count d g.counted in
    let are : definition_places dz (z ∷ zs) b ≡ inside ++ (decorators ++ (z.following ++ own z zs)) =
    definition_is dz z zs b ∙ sym (append_assoc z.before inner (decorators ++ (z.following ++ own z zs))) in
    let root : HoldsItsParts s (definition_places dz (z ∷ zs) b) = record {
      inside = inside;
      beside = decorators;
      further = z.following;
      own = o;
      are = are;
      decorators = c.is ∙ in_definition es head body;
      forward = omega (arith, h.start, h.last, l.forward);
      holds = subst (λ n. AllLieBetween n o.stop (inside ++ z.following)) (sym h.start) parts.are;
      apart = subst (λ n. AllLieBetween 0 n decorators) (sym h.start) apart.are;
    } in
    let a : StatementIn profile lo s (definition_places dz (z ∷ zs) b) hi =
    record { root = root; begins = omega (arith, h.start, h.begins, low); ends = h.ends; count = omega (arith, count) } in
    record {
      laid = one_in a (omega arith);
      lies = as_list are (wide first (omega (arith, h.begins, low)) h.ends ⊕ (wide beside (omega arith) (omega (
        arith,
        h.begins,
        h.last,
        h.ends,
        l.forward,
      )) ⊕ (wide further (omega (arith, h.begins, low)) h.ends ⊕ wide (own_in h) (omega (arith, h.begins, low)) h.ends)));
      inside = p.inside;
    }

-- ---- Statements one after the other.

pub order_higher : (lo : ℕ) (ps : List Span) (hi high : ℕ) → hi ≤ high → AreInOrder lo ps hi → AreInOrder lo ps high
order_higher lo [] hi high a h = omega (arith, a, h)
order_higher lo (p ∷ ps) hi high a h = (h.0, h.1, order_higher p.stop ps hi high a h.2)

length_drop : (n k : ℕ) (ps : List Span) → length ps ≡ n + k → length (drop n ps) ≡ k
length_drop n k ps h =
    let e : length (take n ps ++ drop n ps) ≡ length ps = ap length (take-append-drop n ps) in
    let f = length-take-le n ps (omega (arith, h)) in
    omega (arith, h, e, f, length-append (take n ps) (drop n ps))

pub both_in : {profile : Profile} {lo mid hi : ℕ} (ss : List Stmt) {more : List Stmt} (ps : List Span) {qs : List Span}
    → SimplesIn profile lo ss ps mid → length ps ≡ rows profile ss → SimplesIn profile mid more qs hi
    → SimplesIn profile lo (ss ++ more) (ps ++ qs) hi
both_in {profile} {lo} {mid} {hi} [] {more} ps {qs} a c b =
    let r : SimplesIn profile lo more qs hi =
    record { order = order_lower lo mid (statement_spans profile more qs) hi a.order b.order; rooted = b.rooted } in
    subst (λ z. SimplesIn profile lo more (z ++ qs) hi) (sym a.rooted) r
both_in {profile} {lo} {mid} {hi} (s ∷ ss) {more} ps {qs} a c b =
    let n = marked (shown_stmt profile s) in
    let root = (let r = a.rooted in r.0) in
    let own = root.own in
    let fields = root.inside ++ (root.beside ++ root.further) in
    let are : take n ps ≡ fields ++ (own ∷ []) = root.are ∙ three root.inside root.beside root.further (own ∷ []) in
    let spans : statement_spans profile (s ∷ ss) ps ≡ own ∷ statement_spans profile ss (drop n ps) =
    ap (λ z. last_of z ++ statement_spans profile ss (drop n ps)) are
    ∙ ap (λ z. z ++ statement_spans profile ss (drop n ps)) (last_is fields own) in
    let order : AreInOrder lo (own ∷ statement_spans profile ss (drop n ps)) mid = subst (λ z. AreInOrder lo z mid) spans a.order in
    let size = length-take-le n ps (omega (arith, c)) in
    let first : StatementIn profile lo s (take n ps) own.stop =
    record { root = root; begins = order.0; ends = omega arith; count = omega (arith, size) } in
    let rest : SimplesIn profile own.stop ss (drop n ps) mid = record { order = order.2; rooted = (let r = a.rooted in r.1) } in
    let others = both_in ss (drop n ps) rest (length_drop n (rows profile ss) ps c) b in
    let lists : take n ps ++ (drop n ps ++ qs) ≡ ps ++ qs =
    sym (append_assoc (take n ps) (drop n ps) qs) ∙ ap (λ z. z ++ qs) (take-append-drop n ps) in
    subst (λ z. SimplesIn profile lo (s ∷ (ss ++ more)) z hi) lists (more_in first others)
