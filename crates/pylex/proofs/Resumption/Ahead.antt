-- What a lister gives that begins at a place, told by a cursor there.
--
-- Carries: Placed, front_is, history_is, placed_first and 16 more, for Points, Resuming, Cursoring,
-- Looking and 4 more. On: Resume, Law, Steps, Resumed and 4 more.
use Rattle.std.proofs.Common.{◌≡◌, ℕ, ◌-◌, Bool, true, false, not, ◌&&◌, ◌||◌, ◌==◌, cond, List, [], ◌∷◌, ◌++◌, length, drop, refl, ap, ◌∙◌}
use Rattle.std.proofs.Common.{sym, subst, arith, Option, Some, append_assoc, ⊎_elim}
use Rattle.std.proofs.lemmas.List.{append-nil}
use Rattle.std.proofs.lemmas.Bool.Decides.{nat_tests}
use Rattle.std.proofs.lemmas.Bool.{and_parts, or_parts, cases_Bool}
use Rattle.pylex_lexeme.specs.declared.lexeme.Class.{Class}
use Rattle.pylex_lexeme.specs.declared.lexeme.Class.TheVariants.{Name, Number, String, Operator, Comment, Blanks, LineEnd, Join}
use Rattle.pylex_listing.specs.declared.entries.ListingFault.{ListingFault}
use Rattle.pylex_listing.specs.declared.entries.Step.{Step}
use Rattle.pylex_lexeme.specs.Lexemes.{Lexeme, lexeme_at, cut, left_by_cut}
use Rattle.pylex_listing.specs.Lines.{text_before, depth, opens, closes, is_of_blanks, is_of_line_end, is_significant, line_so_far}
use Rattle.pylex_listing.specs.Lines.{is_at_margin, is_logical}
use Rattle.pylex_lexeme.specs.Chars.{bytes_in}
use Rattle.pylex_listing.specs.Indentation.{width_at, widths, open_levels}
use Rattle.pylex_listing.specs.Listing.{Source, last_line, ends_in_join, up_to_end, stop_fault}
use Rattle.pylex.specs.Cursors.{cursor_at, lexemes_to}
use Rattle.pylex_listing.specs.Machine.{State, pushed, after, is_of_join, layout_of, entry_by, gives, stop_of, run, remaining}
use Rattle.pylex.specs.Standing.{front_to, back_from, resumed}
use Rattle.pylex_listing.specs.Laws.{AreLexemes}
use Rattle.pylex_listing.proofs.Callers.{push, state_of, point_after, margin_push, logical_push, count_cons, Full, drop_of, cut_full}
use Rattle.pylex_listing.proofs.Callers.{lexeme_some, cut_lexed}
use Rattle.pylex.proofs.MachineLaws.Steps.{cut_step, cut_stop, left_step, left_stop}
use Rattle.pylex.proofs.Resumption.Resume.{begun_at, run_same, front_in, front_zero, onto, lexemes_at}
use Rattle.pylex.proofs.Resumption.Resumed.{column_is, front_line, resumed_start}
use Rattle.pylex.proofs.MachineLaws.LexemeClasses.{Says, line_end_begins, comment_in_line}

-- what is given from after these lexemes on, by a cursor there alone
unfoldable pub ahead : Source → Bool → List Lexeme → List Step
ahead s indented h = remaining s.fault (resumed (cursor_at 0 0 indented h) (last_line (front_to (bytes_in (text_before h)) s.text)))
    (back_from (bytes_in (text_before h)) s.text)

-- a source is cut into lexemes before a place, those after it, and what is left
pub record Placed (s : Source) (h xs : List Lexeme) (text left : List ℕ) : Type 0 where
  pub fronts : List Lexeme
  pub history : h ≡ onto fronts []
  pub whole : cut s.text ≡ fronts ++ xs
  pub parts : s.text ≡ text_before h ++ text
  pub lexemes : AreLexemes text xs left

onto_push : (fs : List Lexeme) (h : List Lexeme) (x : Lexeme) → onto (fs ++ x ∷ []) h ≡ x ∷ onto fs h
onto_push [] h x = refl
onto_push (f ∷ fs) h x = onto_push fs (f ∷ h) x

pub placed_next : (s : Source) (h xs : List Lexeme) (x : Lexeme) (text left : List ℕ) → (p : Placed s h (x ∷ xs) text left)
    → Placed s (x ∷ h) xs p.lexemes.0 left
placed_next s h xs x text left p = record {
  fronts = p.fronts ++ x ∷ [];
  history = ap (λ g. x ∷ g) p.history ∙ sym (onto_push p.fronts [] x);
  whole = p.whole ∙ sym (append_assoc p.fronts (x ∷ []) xs);
  parts = p.parts ∙ ap (λ t. text_before h ++ t) p.lexemes.2 ∙ sym (append_assoc (text_before h) x.text p.lexemes.0);
  lexemes = p.lexemes.3;
}

pub placed_first : (s : Source) → Placed s [] (cut s.text) s.text (left_by_cut s.text)
placed_first s = record { fronts = []; history = refl; whole = refl; parts = refl; lexemes = cut_lexed s.text }

full_after : (fs xs : List Lexeme) → Full (fs ++ xs) → Full xs
full_after [] xs f = f
full_after (x ∷ fs) xs f = full_after fs xs f.1

-- the lexemes up to a place are those before it
pub history_is : (s : Source) (h xs : List Lexeme) (text left : List ℕ) → Placed s h xs text left
    → lexemes_to (bytes_in (text_before h)) [] (cut s.text) ≡ h
history_is s h xs text left p =
    let f = full_after p.fronts xs (subst Full p.whole (cut_full s.text)) in
    ap (λ g. lexemes_to (bytes_in (text_before g)) [] (cut s.text)) p.history
    ∙ ap (lexemes_to (bytes_in (text_before (onto p.fronts []))) []) p.whole ∙ lexemes_at p.fronts [] xs f ∙ sym p.history

pub front_is : (a b : List ℕ) → front_to (bytes_in a) (a ++ b) ≡ a
front_is a b = front_in a b (bytes_in a) (omega arith) ∙ ap (λ n. a ++ front_to n b) (none (bytes_in a))
    ∙ ap (λ t. a ++ t) (front_zero b) ∙ append-nil a
  where
    none : (n : ℕ) → n - n ≡ 0
    none n = omega arith

record IsCutAs (text : List ℕ) (xs : List Lexeme) (left : List ℕ) : Type 0 where
  cut_is : cut text ≡ xs
  left_is : left_by_cut text ≡ left

cut_as : (xs : List Lexeme) (text left : List ℕ) → AreLexemes text xs left → IsCutAs text xs left
cut_as [] text left l = record { cut_is = cut_stop text l.1; left_is = left_stop text l.1 ∙ sym l.0 }
cut_as (x ∷ xs) text left l =
    let n = lexeme_some text x l.1 in
    let a : lexeme_at (x.text ++ l.0) ≡ Some x = sym (ap lexeme_at l.2) ∙ l.1 in
    let c = cut_as xs l.0 left l.3 in
    record {
      cut_is = ap cut l.2 ∙ cut_step x.text l.0 x a refl n ∙ ap (λ ys. x ∷ ys) c.cut_is;
      left_is = ap left_by_cut l.2 ∙ left_step x.text l.0 x a refl n ∙ c.left_is;
    }

-- what is ahead of a place is the run from the state that a cursor tells
pub ahead_runs : (s : Source) (indented : Bool) (h xs : List Lexeme) (text left : List ℕ) → Placed s h xs text left
    → ahead s indented h ≡ up_to_end (run s.fault left (resumed (cursor_at 0 0 indented h) (last_line (text_before h))) xs)
unfolding ahead remaining
ahead_runs s indented h xs text left p =
    let f : front_to (bytes_in (text_before h)) s.text ≡ text_before h = ap (front_to (bytes_in (text_before h))) p.parts
    ∙ front_is (text_before h) text in
    let b : drop (length (text_before h)) s.text ≡ text = ap (drop (length (text_before h))) p.parts ∙ drop_of (text_before h) text in
    let c = cut_as xs text left p.lexemes in
    let d = c.cut_is in
    let e = c.left_is in
    rw (f, b, d, e) refl

neutral : (x : Lexeme) → is_significant x ≡ false → (opens x ≡ false) × (closes x ≡ false)
neutral x e = by_class x.«class» x.text e
  where
    by_class : (k : Class) (t : List ℕ) → is_significant (record { «class» = k; text = t }) ≡ false
        → (opens (record { «class» = k; text = t }) ≡ false) × (closes (record { «class» = k; text = t }) ≡ false)
    by_class Name t e = (refl, refl)
    by_class Number t e = (refl, refl)
    by_class String t e = (refl, refl)
    by_class (Operator o) t e = cc
    by_class Comment t e = (refl, refl)
    by_class Blanks t e = (refl, refl)
    by_class LineEnd t e = (refl, refl)
    by_class Join t e = (refl, refl)

no_significant_in : (x : Lexeme) → is_of_line_end x ≡ true → is_significant x ≡ false
no_significant_in x e = by_class x.«class» x.text e
  where
    by_class : (k : Class) (t : List ℕ) → is_of_line_end (record { «class» = k; text = t }) ≡ true
        → is_significant (record { «class» = k; text = t }) ≡ false
    by_class Name t e = cc
    by_class Number t e = cc
    by_class String t e = cc
    by_class (Operator o) t e = cc
    by_class Comment t e = cc
    by_class Blanks t e = cc
    by_class LineEnd t e = refl
    by_class Join t e = cc

same_depth : (x : Lexeme) (before : List Lexeme) → is_significant x ≡ false → depth (x ∷ before) ≡ depth before
unfolding depth
same_depth x before e =
    let n = neutral x e in
    let o = count_cons opens x before in
    let c = count_cons closes x before in
    rw (o, c, n.0, n.1) (omega arith)

is_zero : (n : ℕ) → (n == 0) ≡ true → n ≡ 0
is_zero n e = grind (arith, nat_tests)

closed_without : (before : List Lexeme) → is_logical before ≡ false → depth before ≡ 0
unfolding is_logical line_so_far depth
closed_without [] e = omega arith
closed_without (x ∷ before) e = ⊎_elim
    (λ (l : (is_of_line_end x && (depth before == 0)) ≡ true).
    let p = and_parts (is_of_line_end x) (depth before == 0) l in
    same_depth x before (no_significant_in x p.0) ∙ is_zero (depth before) p.1)
    (λ (l : (is_of_line_end x && (depth before == 0)) ≡ false).
    let m : is_logical (x ∷ before) ≡ (is_significant x || is_logical before) = rw l refl in
    let p = or_parts (is_significant x) (is_logical before) (sym m ∙ e) in
    same_depth x before p.0 ∙ closed_without before p.1)
    (cases_Bool (is_of_line_end x && (depth before == 0)))

-- The state that a cursor tells after a lexeme with an entry.
pub resumed_in : (h : List Lexeme) → is_at_margin h ≡ false → ends_in_join h ≡ false
    → (not (is_logical h) && (length (last_line (text_before h)) == 0)) ≡ false
    → resumed (cursor_at 0 0 false h) (last_line (text_before h)) ≡ begun_at (state_of h) (point_after (text_before h))
unfolding resumed cursor_at state_of
resumed_in h m j b =
    let c = sym (column_is (text_before h)) in
    let f = front_line (text_before h) in
    rw (b, c, f, m, j) refl

-- after a line end at depth 0 a line begins
pub starts_line : (h : List Lexeme) (x : Lexeme) → (is_of_line_end x && (depth h == 0)) ≡ true → line_so_far (x ∷ h) ≡ []
unfolding line_so_far
starts_line h x e = rw e refl

-- elsewhere a line goes on
pub line_is_on : (h : List Lexeme) (x : Lexeme) → is_of_blanks x ≡ false → (is_of_line_end x && (depth h == 0)) ≡ false
    → is_at_margin (x ∷ h) ≡ false
line_is_on h x b e = margin_push h x ∙ ap (λ t. t || (is_of_blanks x && is_at_margin h)) e ∙ ap (λ t. t && is_at_margin h) b

pub logical_on : (h : List Lexeme) (x : Lexeme) → (is_of_line_end x && (depth h == 0)) ≡ false
    → is_logical (x ∷ h) ≡ (is_significant x || is_logical h)
logical_on h x e = logical_push h x ∙ ap (λ t. not t && (is_significant x || is_logical h)) e

pub begun_or_filled : (h : List Lexeme) (x : Lexeme) → Says x.«class» x.text → is_of_blanks x ≡ false
    → (is_of_line_end x && (depth h == 0)) ≡ false
    → (not (is_significant x || is_logical h) && (length (last_line (text_before h ++ x.text)) == 0)) ≡ false
begun_or_filled h x y b e = by_class x.«class» x.text y b e
  where
    in_brackets : (l : Bool) → is_logical h ≡ l → (depth h == 0) ≡ false → l ≡ true
    in_brackets true i d = refl
    in_brackets false i d = let z = closed_without h i in zero_open (depth h) z d
      where
        zero_open : (n : ℕ) → n ≡ 0 → (n == 0) ≡ false → false ≡ true
        zero_open n a b = grind (arith, nat_tests)

    filled : (l z : Bool) → z ≡ false → (not l && z) ≡ false
    filled true z e = refl
    filled false z e = e

    logical : (l z : Bool) → l ≡ true → (not l && z) ≡ false
    logical l z e = rw e refl

    by_class : (k : Class) (t : List ℕ) → Says k t → is_of_blanks (record { «class» = k; text = t }) ≡ false
        → (is_of_line_end (record { «class» = k; text = t }) && (depth h == 0)) ≡ false
        → (not (is_significant (record { «class» = k; text = t }) || is_logical h) && (length (last_line (text_before h ++ t)) == 0)) ≡
        false
    by_class Name t y b e = refl
    by_class Number t y b e = refl
    by_class String t y b e = refl
    by_class (Operator o) t y b e = refl
    by_class Comment t y b e = filled (is_logical h) (length (last_line (text_before h ++ t)) == 0) (comment_in_line t (text_before h) y)
    by_class Blanks t y b e = cc
    by_class LineEnd t y b e = logical (is_logical h) (length (last_line (text_before h ++ t)) == 0) (in_brackets (is_logical h) refl e)
    by_class Join t y b e = refl

pub line_end_text : (h : List Lexeme) (x : Lexeme) → Says x.«class» x.text → is_of_line_end x ≡ true
    → last_line (text_before h ++ x.text) ≡ []
line_end_text h x y e = by_class x.«class» x.text y e
  where
    by_class : (k : Class) (t : List ℕ) → Says k t → is_of_line_end (record { «class» = k; text = t }) ≡ true
        → last_line (text_before h ++ t) ≡ []
    by_class Name t y e = cc
    by_class Number t y e = cc
    by_class String t y e = cc
    by_class (Operator o) t y e = cc
    by_class Comment t y e = cc
    by_class Blanks t y e = cc
    by_class LineEnd t y e = line_end_begins (text_before h) t y
    by_class Join t y e = cc

state_margin : (h : List Lexeme) → is_at_margin h ≡ false → (state_of h).margin ≡ false
unfolding state_of
state_margin h m = m

own_run : (fault : Option ListingFault) (left : List ℕ) (h xs : List Lexeme) (x : Lexeme) → Says x.«class» x.text → is_of_blanks x ≡ false
    → is_of_join x ≡ false → run fault left (resumed (cursor_at 0 0 false (x ∷ h)) (last_line (text_before (x ∷ h)))) xs ≡ run fault
    left (state_of (x ∷ h)) xs
own_run fault left h xs x y b j = ⊎_elim
    (λ (e : (is_of_line_end x && (depth h == 0)) ≡ true).
    let p = and_parts (is_of_line_end x) (depth h == 0) e in
    ap (λ s. run fault left s xs) (resumed_start (x ∷ h) 0 0 (starts_line h x e) j (line_end_text h x y p.0)))
    (λ (e : (is_of_line_end x && (depth h == 0)) ≡ false).
    let m = line_is_on h x b e in
    let l : (not (is_logical (x ∷ h)) && (length (last_line (text_before (x ∷ h))) == 0)) ≡ false =
    ap (λ t. not t && (length (last_line (text_before (x ∷ h))) == 0)) (logical_on h x e) ∙ begun_or_filled h x y b e in
    ap (λ s. run fault left s xs) (resumed_in (x ∷ h) m j l)
    ∙ sym (run_same fault left xs (state_of (x ∷ h)) (point_after (text_before (x ∷ h))) (state_margin (x ∷ h) m)))
    (cases_Bool (is_of_line_end x && (depth h == 0)))

pub ahead_own : (s : Source) (h xs : List Lexeme) (x : Lexeme) (text left : List ℕ) → Placed s (x ∷ h) xs text left → Says x.«class» x.text
    → is_of_blanks x ≡ false → is_of_join x ≡ false → ahead s false (x ∷ h) ≡ up_to_end (run s.fault left (state_of (x ∷ h)) xs)
ahead_own s h xs x text left p y b j = ahead_runs s false (x ∷ h) xs text left p ∙ ap up_to_end (own_run s.fault left h xs x y b j)

-- The state that a cursor tells after an INDENT: the line has begun, and its level is open.
abbrev pub measured : List Lexeme → State
measured h = record (state_of h) {
  line = point_after (text_before h);
  levels = pushed (width_at h) (open_levels (widths h));
  margin =
      false;
  width = 0;
  logical = true;
  joined = false;
}

pub resumed_indented : (h : List Lexeme) → resumed (cursor_at 0 0 true h) (last_line (text_before h)) ≡ measured h
unfolding resumed cursor_at state_of
resumed_indented h =
    let c = sym (column_is (text_before h)) in
    let f = front_line (text_before h) in
    let l = push (width_at h) (widths h) in
    rw (c, f, l) refl

measured_gives : (h : List Lexeme) (x : Lexeme) → gives (measured h) x ≡ entry_by (measured h) x
unfolding gives layout_of
measured_gives h x = none (is_significant x)
  where
    none : (b : Bool) → cond b [] [] ++ entry_by (measured h) x ≡ entry_by (measured h) x
    none true = refl
    none false = refl

measured_entry : (h : List Lexeme) (x : Lexeme) → is_significant x ≡ true → entry_by (measured h) x ≡ entry_by (state_of h) x
unfolding entry_by
measured_entry h x e = by_class x.«class» x.text e
  where
    by_class : (k : Class) (t : List ℕ) → is_significant (record { «class» = k; text = t }) ≡ true
        → entry_by (measured h) (record { «class» = k; text = t }) ≡ entry_by (state_of h) (record { «class» = k; text = t })
    by_class Name t e = refl
    by_class Number t e = refl
    by_class String t e = refl
    by_class (Operator o) t e = refl
    by_class Comment t e = refl
    by_class Blanks t e = refl
    by_class LineEnd t e = cc
    by_class Join t e = refl

-- after its first significant token a line is the same, but for its begin
measured_after : (h : List Lexeme) (x : Lexeme) → is_at_margin h ≡ true → is_significant x ≡ true
    → after (measured h) x ≡ begun_at (after (state_of h) x) (point_after (text_before h))
unfolding after state_of
measured_after h x m e = by_class x.«class» x.text e
  where
    by_class : (k : Class) (t : List ℕ) → is_significant (record { «class» = k; text = t }) ≡ true
        → after (measured h) (record { «class» = k; text = t }) ≡ begun_at (after (state_of h) (record { «class» = k; text = t }))
        (point_after (text_before h))
    by_class Name t e = rw m refl
    by_class Number t e = rw m refl
    by_class String t e = rw m refl
    by_class (Operator o) t e = rw m refl
    by_class Comment t e = cc
    by_class Blanks t e = cc
    by_class LineEnd t e = cc
    by_class Join t e = rw m refl

pub significant_margin : (s : State) (x : Lexeme) → is_significant x ≡ true → (after s x).margin ≡ false
unfolding after
significant_margin s x e = by_class x.«class» x.text e
  where
    by_class : (k : Class) (t : List ℕ) → is_significant (record { «class» = k; text = t }) ≡ true
        → (after s (record { «class» = k; text = t })).margin ≡ false
    by_class Name t e = refl
    by_class Number t e = refl
    by_class String t e = refl
    by_class (Operator o) t e = refl
    by_class Comment t e = cc
    by_class Blanks t e = cc
    by_class LineEnd t e = cc
    by_class Join t e = refl

-- what is ahead of a place after an INDENT
pub ahead_indented : (s : Source) (h xs : List Lexeme) (x : Lexeme) (text left : List ℕ) → Placed s h (x ∷ xs) text left
    → is_at_margin h ≡ true → is_significant x ≡ true
    → ahead s true h ≡ up_to_end (entry_by (state_of h) x ++ run s.fault left (after (state_of h) x) xs)
ahead_indented s h xs x text left p m e =
    ahead_runs s true h (x ∷ xs) text left p
    ∙ ap (λ t. up_to_end (run s.fault left t (x ∷ xs))) (resumed_indented h)
    ∙ ap (λ g. up_to_end (g ++ run s.fault left (after (measured h) x) xs)) (measured_gives h x ∙ measured_entry h x e)
    ∙ ap (λ t. up_to_end (entry_by (state_of h) x ++ run s.fault left t xs)) (measured_after h x m e)
    ∙ ap (λ r. up_to_end (entry_by (state_of h) x ++ r))
    (sym (run_same s.fault left xs (after (state_of h) x) (point_after (text_before h)) (significant_margin (state_of h) x e)))

measured_stop : (fault : Option ListingFault) (left : List ℕ) (h : List Lexeme) → not (length left == 0) ≡ true
    → stop_of fault (measured h) left ≡ stop_fault fault (state_of h).now.place left ∷ []
unfolding stop_of layout_of
measured_stop fault left h e = rw e refl

pub ahead_indented_stop : (s : Source) (h : List Lexeme) (text left : List ℕ) → Placed s h [] text left → not (length left == 0) ≡ true
    → ahead s true h ≡ up_to_end (stop_fault s.fault (state_of h).now.place left ∷ [])
ahead_indented_stop s h text left p e =
    ahead_runs s true h [] text left p
    ∙ ap (λ t. up_to_end (run s.fault left t [])) (resumed_indented h)
    ∙ ap up_to_end (measured_stop s.fault left h e)
