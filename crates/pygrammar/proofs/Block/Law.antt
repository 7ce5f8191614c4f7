-- Lines have a tree, which is one alone, or a first faulty line, which is
-- one alone, and never both.
--
-- Carries: tree_faultless, no_first, Finds, read_finds and 2 more, for SourceLaw, Reasons, Answer,
-- LineMore and 2 more. On: Fitting, Settling, Standing, Nested and 2 more.
use Rattle.std.proofs.Common.{◌≡◌, ℕ, suc, ◌≤◌, List, [], ◌∷◌, ◌++◌, length, Option, Some, None, true, false, cond, refl, sym, ap, ◌∙◌}
use Rattle.std.proofs.Common.{subst, arith, ◌⊎◌, inl, inr}
use Rattle.std.specs.Prelude.{nat_lt}
use borrow.Author.Tests.{ltb-true, ltb-false}
use Rattle.pytree_node.specs.Trees.{Expr, Stmt}
use Rattle.pygrammar.specs.Lines.{Line, line, Form, simple_form, decorator_form, header_form, Header, are_proper, opens}
use Rattle.pygrammar.specs.Blocks.{Block, Fault, ExpectedIndent, UnexpectedIndent, MisplacedClause, Kind, SimpleLine, DecoratorLine}
use Rattle.pygrammar.specs.Blocks.{EndLine, header_kind, kind_of, IsClear, IsFault, IsFaultless, clear_end, clear_line, FirstFault}
use Rattle.pygrammar.specs.Blocks.{fault_at_end, fault_at, fault_after}
use Rattle.pygrammar.specs.Reading.{Answer, Fine, Faulty, then, Group, Idle, Marked, closes, PartialBlock, part, meets, decorated}
use Rattle.pygrammar.specs.Reading.{or_misplaced}
use Rattle.pygrammar.specs.Reading.{place_header, Waiting, waiting, State, state, start, joined, first_group, settle, place, placed, step}
use Rattle.pygrammar.specs.Reading.{run, stops, finish, read}
use Rattle.pygrammar.proofs.Block.Leads.{read_block}
use Rattle.pygrammar.proofs.Block.Sound.{read_gives}
use Rattle.pygrammar.proofs.Block.Standing.{after, standing, stand, standing_above, standing_below, standing_here, place_following}
use Rattle.pygrammar.proofs.Block.Standing.{place_deeper}
use Rattle.pygrammar.proofs.Block.Nested.{is_matching, closed_unmatched, decorated_same, grows_same, nested_on, nested_deeper}
use Rattle.pygrammar.proofs.Block.Fitting.{is_marked, is_decorator, not_marked, no_decorator_header, first_unmarked, first_stands}
use Rattle.pygrammar.proofs.Block.Fitting.{grows_stands, fits_closed, wrong_closed, fits_header, wrong_header, fits_decorator}
use Rattle.pygrammar.proofs.Block.Fitting.{wrong_decorator_line}
use Rattle.pygrammar.proofs.Block.Settling.{Levels, Marks, Settled, marked_stands, Settles, settles, Reached, clear_here, wrong_here}
use Rattle.pygrammar.proofs.Block.Settling.{unsettled_fault, deep_fault}

-- ---- What is known after a line.

levels_after : (x : Line) (earlier : List Line) (below : List Waiting) → length below ≤ x.level → Levels earlier below
    → Levels (x ∷ earlier) below
levels_after x earlier [] n k = tt
levels_after x earlier (w ∷ below) n k = (
  λ body. standing_below (length below) x earlier (omega arith) ∙ k.0 body,
  place_following (length below) x earlier (omega arith) ∙ k.1,
  levels_after x earlier below (omega arith) k.2,
)

stands_following : (earlier : List Line) (s t : State) (f : Form) → Reached earlier (length t.below) s t →
    standing (length t.below) (line (length t.below) f ∷ earlier) ≡ after (kind_of f) (stand t.group)
stands_following earlier s t f r = standing_here (line (length t.below) f) earlier ∙ ap (after (kind_of f)) r.settled.stands

marks_after : (earlier : List Line) (s t : State) (f : Form) (d : List Stmt) (g : Group)
    → Reached earlier (length t.below) s t → opens f ≡ false →
    after (kind_of f) (stand t.group) ≡ stand g → is_decorator (kind_of f) ≡ is_marked g → is_matching g ≡ is_matching t.group →
    Marks (line (length t.below) f ∷ earlier) (state d g false t.below)
marks_after earlier s t f d g r o e m i = record {
  stands = stands_following earlier s t f r ∙ e;
  levels = levels_after (line (length t.below) f) earlier t.below (omega arith) r.settled.levels;
  opened = o;
  fresh_level = λ i. cc;
  level = λ i. refl;
  marked = m;
  place = place_following (length t.below) (line (length t.below) f) earlier (omega arith) ∙ r.settled.place;
  nested = nested_on t.group g t.below i r.settled.nested;
}

marks_deeper : (earlier : List Line) (s t : State) (h : Header) (d : List Stmt) (p : PartialBlock) → Reached earlier (length t.below) s t
    → meets t.group h ≡ Some p →
    Marks (line (length t.below) (header_form h None) ∷ earlier) (state [] (first_group h) true (waiting d p.group h ∷ t.below))
marks_deeper earlier s t h d p r e = record {
  stands = standing_above (suc (length t.below)) (line (length t.below) (header_form h None) ∷ earlier)
      (omega arith) ∙ sym (first_stands h);
  levels = (
    λ body. stands_following earlier s t (header_form h None) r ∙ sym (grows_stands t.group h p body e),
    place_following (length t.below) (line (length t.below) (header_form h None)) earlier (omega arith) ∙ r.settled.place,
    levels_after (line (length t.below) (header_form h None)) earlier t.below (omega arith) r.settled.levels,
  );
  opened = refl;
  fresh_level = λ i. refl;
  level = λ i. cc;
  marked = no_decorator_header h ∙ sym (first_unmarked h);
  place = place_deeper (suc (length t.below)) (line (length t.below) (header_form h None)) earlier (omega arith);
  nested = nested_deeper t.group t.below d h p e r.settled.nested;
}

abbrev pub Steps : List Line → Line → Answer State → Type 0
Steps earlier x (Fine t) = IsClear earlier x.level (kind_of x.form) × Marks (x ∷ earlier) t
Steps earlier x (Faulty e) = IsFault earlier x.level (kind_of x.form) e

steps_simple : (earlier : List Line) (s t : State) (ss : List Stmt) → Reached earlier (length t.below) s t
    → (o : Option (List Stmt)) → closes t.group ≡ o →
    Steps earlier (line (length t.below) (simple_form ss)) (or_misplaced o (λ more. state ((t.done ++ more) ++ ss) Idle false t.below))
steps_simple earlier s t ss r None c = wrong_here earlier (length t.below) s t SimpleLine r
    (wrong_closed t.group SimpleLine c refl refl refl)
steps_simple earlier s t ss r (Some more) c = (
  clear_here earlier (length t.below) s t SimpleLine r (fits_closed t.group more SimpleLine c refl refl),
  marks_after earlier s t (simple_form ss) ((t.done ++ more) ++ ss) Idle r refl refl refl (sym (closed_unmatched t.group more c)),
)

marks_decorated : (g : Group) (x : Expr) (p : PartialBlock) → decorated g x ≡ Some p → is_marked p.group ≡ true
marks_decorated (Marked es) x p e = let i : part [] (Marked (es ++ x ∷ [])) ≡ p = cc in ap (λ z. is_marked z.group) (sym i)
marks_decorated g x p e = marks_from g x p (closes g) refl e
  where
    marks_from : (g : Group) (x : Expr) (p : PartialBlock) (o : Option (List Stmt)) → closes g ≡ o
        → elim o [ None ↦ None | Some ss ↦ Some (part ss (Marked (x ∷ []))) ] ≡ Some p → is_marked p.group ≡ true
    marks_from g x p None c e = cc
    marks_from g x p (Some ss) c e = let i : part ss (Marked (x ∷ [])) ≡ p = cc in ap (λ z. is_marked z.group) (sym i)

steps_decorator : (earlier : List Line) (s t : State) (x : Expr) → Reached earlier (length t.below) s t → (o : Option PartialBlock)
    → decorated t.group x ≡ o →
    Steps earlier (line (length t.below) (decorator_form x)) (or_misplaced o (λ p. state (t.done ++ p.done) p.group false t.below))
steps_decorator earlier s t x r None c = wrong_here earlier (length t.below) s t DecoratorLine r (wrong_decorator_line t.group x c)
steps_decorator earlier s t x r (Some p) c =
    let m = marks_decorated t.group x p c in (
      clear_here earlier (length t.below) s t DecoratorLine r (fits_decorator t.group x p c),
      marks_after earlier s t (decorator_form x) (t.done ++ p.done) p.group r refl (sym (marked_stands p.group m)) (sym m)
          (decorated_same t.group x p c),
    )

steps_header : (earlier : List Line) (s t : State) (h : Header) (suite : Option (List Stmt)) → Reached earlier (length t.below) s t
    → (o : Option PartialBlock) → meets t.group h ≡ o →
    Steps earlier (line (length t.below) (header_form h suite)) (or_misplaced o (place_header t h suite))
steps_header earlier s t h suite r None c = wrong_here earlier (length t.below) s t (header_kind h) r (wrong_header t.group h c)
steps_header earlier s t h None r (Some p) c = (
  clear_here earlier (length t.below) s t (header_kind h) r (fits_header t.group h p c),
  marks_deeper earlier s t h (t.done ++ p.done) p r c,
)
steps_header earlier s t h (Some ss) r (Some p) c = (
  clear_here earlier (length t.below) s t (header_kind h) r (fits_header t.group h p c),
  marks_after earlier s t (header_form h (Some ss)) (joined (t.done ++ p.done) p.group h ss).done
      (joined (t.done ++ p.done) p.group h ss).group r refl
      (sym (grows_stands t.group h p ss c)) (no_decorator_header h ∙ sym (not_marked p.group h ss)) (grows_same t.group h p ss c),
)

steps_place : (earlier : List Line) (s t : State) (f : Form) → Reached earlier (length t.below) s t
    → Steps earlier (line (length t.below) f) (place t f)
steps_place earlier s t (simple_form ss) r = steps_simple earlier s t ss r (closes t.group) refl
steps_place earlier s t (decorator_form x) r = steps_decorator earlier s t x r (decorated t.group x) refl
steps_place earlier s t (header_form h suite) r = steps_header earlier s t h suite r (meets t.group h) refl

settled_level : (l : ℕ) (earlier : List Line) (s t : State) → Settled l earlier s.group s.fresh s.below t → length t.below ≤ l
settled_level l earlier s t h = elim h.by [
  | inl x ↦ let y : length t.below ≡ length s.below = ap length x.1 in omega (arith, y, x.0)
  | inr x ↦ let y = x.4 in omega arith
]

steps_placed : (earlier : List Line) (s t : State) (x : Line) → Marks earlier s → Settled x.level earlier s.group s.fresh s.below t
    → Steps earlier x (placed x.level x.form t)
steps_placed earlier s t x m h =
    elim (nat_lt (length t.below) x.level) as (λ b. nat_lt (length t.below) x.level ≡ b
    → Steps earlier x (cond b (Faulty UnexpectedIndent) (place t x.form))) [
      | true ↦ λ q. deep_fault earlier x.level s t (kind_of x.form) m h (ltb-true (length t.below) x.level q)
      | false ↦ λ q.
          let a : x.level ≤ length t.below = ltb-false (length t.below) x.level q in
          let b = settled_level x.level earlier s t h in
          let i : length t.below ≡ x.level = omega arith in
          let P : ℕ → Type 0 = λ z. Settled z earlier s.group s.fresh s.below t in
          let Q : ℕ → Type 0 = λ z. Steps earlier (line z x.form) (place t x.form) in
          subst Q i (steps_place earlier s t x.form (record { marks = m; settled = subst P (sym i) h; level = refl }))
    ] refl

steps_settled : (earlier : List Line) (s : State) (x : Line) → Marks earlier s → (a : Answer State)
    → Settles x.level earlier s.group s.fresh s.below a → Steps earlier x (then a (placed x.level x.form))
steps_settled earlier s x m (Fine t) h = steps_placed earlier s t x m h
steps_settled earlier s x m (Faulty e) h = unsettled_fault earlier x.level s (kind_of x.form) e m h

steps : (earlier : List Line) (s : State) (x : Line) → Marks earlier s → Steps earlier x (step s x)
steps earlier s x m = steps_settled earlier s x m (settle x.level s) (settles x.level earlier s.done s.group s.fresh s.below m.stands
    m.place m.nested m.levels)

-- ---- All lines.

abbrev pub Finds : List Line → List Line → List Line → Answer (List Stmt) → Type 0
Finds earlier xs rest (Fine ss) = IsFaultless earlier xs
Finds earlier xs rest (Faulty e) = FirstFault earlier xs rest e

finds_end : (earlier : List Line) (s : State) → Marks earlier s → (a : Answer State) → Settles 0 earlier s.group s.fresh s.below a →
    Finds earlier [] [] (then a (λ t. elim (closes t.group) [ None ↦ Faulty MisplacedClause | Some ss ↦ Fine (t.done ++ ss) ]))
finds_end earlier s m (Faulty e) h = fault_at_end (unsettled_fault earlier 0 s EndLine e m h)
finds_end earlier s m (Fine t) h =
    let n = settled_level 0 earlier s t h in
    let r : Reached earlier 0 s t = record { marks = m; settled = h; level = omega arith } in
    elim (closes t.group) as (λ o. closes t.group ≡ o
    → Finds earlier [] [] (elim o [ None ↦ Faulty MisplacedClause | Some ss ↦ Fine (t.done ++ ss) ])) [
      | None ↦ λ c. fault_at_end (wrong_here earlier 0 s t EndLine r (wrong_closed t.group EndLine c refl refl refl))
      | Some ss ↦ λ c. clear_end (clear_here earlier 0 s t EndLine r (fits_closed t.group ss EndLine c refl refl))
    ] refl

finds_after : (earlier : List Line) (x : Line) (xs rest : List Line) (a : Answer (List Stmt)) → IsClear earlier x.level (kind_of x.form)
    → Finds (x ∷ earlier) xs rest a → Finds earlier (x ∷ xs) rest a
finds_after earlier x xs rest (Fine ss) c h = clear_line c h
finds_after earlier x xs rest (Faulty e) c h = fault_after c h

finds : (earlier xs : List Line) (s : State) → Marks earlier s → Finds earlier xs (stops xs s) (then (run xs s) finish)
finds earlier [] s m =
    finds_end earlier s m (settle 0 s) (settles 0 earlier s.done s.group s.fresh s.below m.stands m.place m.nested m.levels)
finds earlier (x ∷ xs) s m =
    elim (step s x) as (λ a. Steps earlier x a → Finds earlier (x ∷ xs) (elim a [ Fine t ↦ stops xs t | Faulty e ↦ x ∷ xs ])
    (then (then a (run xs)) finish)) [
      | Fine t ↦ λ h. finds_after earlier x xs (stops xs t) (then (run xs t) finish) h.0 (finds (x ∷ earlier) xs t h.1)
      | Faulty e ↦ λ h. fault_at h
    ] (steps earlier s x m)

start_marks : Marks [] start
start_marks = record {
  stands = refl;
  levels = tt;
  opened = refl;
  fresh_level = λ i. cc;
  level = λ i. refl;
  marked = refl;
  place = refl;
  nested = refl;
}

-- the reading finds the tree, or the first fault
pub read_finds : (xs : List Line) → Finds [] xs (stops xs start) (read xs)
read_finds xs = finds [] xs start start_marks

-- one fault alone is the first
one_fault : (earlier : List Line) (l : ℕ) (k : Kind) (e f : Fault) → IsFault earlier l k e → IsFault earlier l k f → e ≡ f
one_fault earlier l k ExpectedIndent ExpectedIndent p q = refl
one_fault earlier l k ExpectedIndent UnexpectedIndent p q = absurd (q.first ExpectedIndent refl p.has)
one_fault earlier l k ExpectedIndent MisplacedClause p q = absurd (q.first ExpectedIndent refl p.has)
one_fault earlier l k UnexpectedIndent ExpectedIndent p q = absurd (p.first ExpectedIndent refl q.has)
one_fault earlier l k UnexpectedIndent UnexpectedIndent p q = refl
one_fault earlier l k UnexpectedIndent MisplacedClause p q = absurd (q.first UnexpectedIndent refl p.has)
one_fault earlier l k MisplacedClause ExpectedIndent p q = absurd (p.first ExpectedIndent refl q.has)
one_fault earlier l k MisplacedClause UnexpectedIndent p q = absurd (p.first UnexpectedIndent refl q.has)
one_fault earlier l k MisplacedClause MisplacedClause p q = refl

pub one_first : {earlier xs a b : List Line} {e f : Fault} → FirstFault earlier xs a e → FirstFault earlier xs b f → (a ≡ b) × (e ≡ f)
one_first {earlier} {e = e} {f = f} (fault_at_end p) (fault_at_end q) = (refl, one_fault earlier 0 EndLine e f p q)
one_first {earlier} {e = e} {f = f} (fault_at {x = x} p) (fault_at q) = (refl, one_fault earlier x.level (kind_of x.form) e f p q)
one_first (fault_at {f = e} p) (fault_after c q) = absurd (c.none e p.has)
one_first (fault_after c p) (fault_at {f = f} q) = absurd (c.none f q.has)
one_first (fault_after c p) (fault_after d q) = one_first p q

pub no_first : {earlier xs a : List Line} {e : Fault} → IsFaultless earlier xs → FirstFault earlier xs a e → ⊥
no_first {e = e} (clear_end c) (fault_at_end p) = c.none e p.has
no_first {e = e} (clear_line c k) (fault_at p) = c.none e p.has
no_first (clear_line c k) (fault_after d p) = no_first k p

-- ---- The law.

-- where the lines have a tree, no line is faulty
pub tree_faultless : (xs : List Line) (ss : List Stmt) → Block 0 xs ss → IsFaultless [] xs
tree_faultless xs ss p = let h = read_finds xs in let P : Answer (List Stmt) → Type 0 = λ z. Finds [] xs (stops xs start) z in
    subst P (read_block p) h

-- where no line is faulty, they have one
pub faultless_tree : (xs : List Line) → are_proper xs ≡ true → IsFaultless [] xs → (ss : List Stmt) × Block 0 xs ss
faultless_tree xs o p =
    elim (read xs) as (λ a. read xs ≡ a → Finds [] xs (stops xs start) a → (ss : List Stmt) × Block 0 xs ss) [
      | Fine ss ↦ λ e h. (ss, read_gives xs ss o e)
      | Faulty f ↦ λ e h. absurd (no_first p h)
    ] refl (read_finds xs)

-- and where it has none, there is a first faulty line
pub fault_or_tree : (xs : List Line) → are_proper xs ≡ true
    → ((ss : List Stmt) × Block 0 xs ss) ⊎ ((rest : List Line) × (f : Fault) × FirstFault [] xs rest f)
fault_or_tree xs o =
    elim (read xs) as (λ a. read xs ≡ a → Finds [] xs (stops xs start) a
    → ((ss : List Stmt) × Block 0 xs ss) ⊎ ((rest : List Line) × (f : Fault) × FirstFault [] xs rest f)) [
      | Fine ss ↦ λ e h. inl (ss, read_gives xs ss o e)
      | Faulty f ↦ λ e h. inr (stops xs start, f, h)
    ] refl (read_finds xs)
