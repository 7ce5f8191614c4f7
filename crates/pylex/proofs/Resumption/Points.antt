-- Where the point of a cursor stands: the lexemes before it, those after it, and the state there.
--
-- Carries: GoesAs, StoodAt, PointOf, point_after_given and 5 more, for Passing, Cursoring. On:
-- Ahead, Law, Resuming, LexemeClasses and 6 more.
use Rattle.std.proofs.Common.{◌≡◌, ℕ, ◌+◌, ◌<◌, zero, suc, Bool, true, false, not, ◌&&◌, ◌||◌, ◌==◌, cond, List, [], ◌∷◌, ◌++◌, length}
use Rattle.std.proofs.Common.{take, reverse, replicate, refl, ap, ◌∙◌, sym, subst, arith, Option, Some, None, append_assoc, ⊎_elim}
use Rattle.std.specs.List.{list_all, list_any, count_by, prefix_len}
use Rattle.std.specs.Prelude.{nat_lt}
use Rattle.std.proofs.lemmas.List.{reverse-append, length-reverse, length-take-le}
use Rattle.std.proofs.lemmas.Bool.Decides.{nat_tests}
use Rattle.std.proofs.lemmas.Bool.{cases_Bool, and_parts}
use Rattle.pysource.specs.declared.places.Place.{Place}
use Rattle.pylex_lexeme.specs.declared.lexeme.Class.{Class}
use Rattle.pylex_lexeme.specs.declared.lexeme.Class.TheVariants.{Name, Number, String, Operator, Comment, Blanks, LineEnd, Join}
use Rattle.pylex_listing.specs.declared.kind.Kind.TheVariants as kinds
use Rattle.pylex_listing.specs.declared.entries.Entry.{Entry}
use Rattle.pylex_listing.specs.declared.entries.ListingFault.{ListingFault}
use Rattle.pylex_listing.specs.declared.entries.Step.{Step}
use Rattle.pylex_listing.specs.declared.entries.Step.TheVariants as steps
use Rattle.pylex_listing.specs.declared.point.Point.{Point}
use Rattle.pylex_lexeme.specs.Operators.{is_closer}
use Rattle.pylex_lexeme.specs.Cuts.{begins_significant}
use Rattle.pylex_lexeme.specs.Lexemes.{Lexeme, lexeme_at, cut, left_by_cut}
use Rattle.pylex_listing.specs.Lines.{text_before, depth, closes, is_of_blanks, is_of_line_end, is_significant, line_so_far, is_at_margin}
use Rattle.pylex_listing.specs.Lines.{is_logical}
use Rattle.pylex_lexeme.specs.Chars.{bytes_in}
use Rattle.pylex_listing.specs.Listing.{Source, listing, last_line, up_to_end}
use Rattle.pylex_listing.specs.Steps.{entries_of}
use Rattle.pylex.specs.Cursors.{given_last_first, has_no_text, is_encoding, with_text, point, ends_in_indent, cursor_at}
use Rattle.pylex_listing.specs.Laws.{is_indent}
use Rattle.pylex_listing.specs.Machine.{State, past, following, after, ends_line, is_of_join, dedents_at, mark_at, line_end_kind_of, layout_of}
use Rattle.pylex_listing.specs.Machine.{entry_by, gives, is_hash, last_line_end, last_place, tail_of, stop_of, run, remaining, first_state}
use Rattle.pylex.specs.LineState.{measured}
use Rattle.pylex.specs.Standing.{resumed}
use Rattle.pylex_listing.proofs.Callers.{state_of, state_push, point_after, IsBalanced, balanced_push, bytes_in-append, listing_is}
use Rattle.pylex_listing.proofs.Callers.{significant_is, all_cut}
use Rattle.pylex.proofs.Listing.Ends.{stop_is_fault}
use Rattle.pylex.proofs.Resumption.Resume.{begun_at}
use Rattle.pylex.proofs.Resumption.Resumed.{resumed_start}
use Rattle.pylex.proofs.MachineLaws.LexemeClasses.{Says, lexeme_says}
use Rattle.pylex.proofs.Resumption.Ahead.{Placed, placed_next, placed_first, resumed_in, resumed_indented, starts_line, line_is_on}
use Rattle.pylex.proofs.Resumption.Ahead.{logical_on, begun_or_filled, line_end_text, measured as indented_at}
use Rattle.pylex.proofs.Resumption.Resuming.{state_offset, state_at_margin, state_depth, begun_state, encoding_entry, given_first}

-- Two states go on alike; where a line has begun, its start counts no more.
pub record GoesAs (s t : State) : Type 0 where
  pub now : s.now ≡ t.now
  pub depth : s.depth ≡ t.depth
  pub levels : s.levels ≡ t.levels
  pub margin : s.margin ≡ t.margin
  pub width : s.width ≡ t.width
  pub logical : s.logical ≡ t.logical
  pub line : s.margin ≡ true → s.line ≡ t.line

pub goes_itself : (s : State) → GoesAs s s
goes_itself s = record { now = refl; depth = refl; levels = refl; margin = refl; width = refl; logical = refl; line = λ _. refl }

line_alike : (e b m : Bool) (p q u v : Point) → p ≡ q → (m ≡ true → u ≡ v) → (e || (b && m)) ≡ true → cond e p u ≡ cond e q v
line_alike true b m p q u v n l h = n
line_alike false true m p q u v n l h = l h
line_alike false false m p q u v n l h = cc

-- a lexeme changes them alike
pub after_alike : (s t : State) (x : Lexeme) → GoesAs s t → GoesAs (after s x) (after t x)
unfolding after
after_alike s t x g =
    let n = g.now in
    let d = g.depth in
    let l = g.levels in
    let m = g.margin in
    let w = g.width in
    let o = g.logical in
    record {
      now = ap (λ p. past p x.text) n;
      depth = rw d refl;
      levels = rw (m, w, l) refl;
      margin = rw (d, m) refl;
      width = rw (d, m, w) refl;
      logical = rw (d, o) refl;
      line = rw (← d) (line_alike (ends_line s x) (is_of_blanks x) s.margin (past s.now x.text) (past t.now x.text) s.line t.line
          (ap (λ p. past p x.text) n) g.line);
    }

-- and so does the layout of a line
pub measured_alike : (s t : State) → GoesAs s t → GoesAs (measured s) (measured t)
measured_alike s t g = let w = g.width in let l = g.levels in record {
  now = g.now;
  depth = g.depth;
  levels = rw (w, l) refl;
  margin = refl;
  width = refl;
  logical = refl;
  line = λ h. absurd (never h);
}
  where
    never : false ≡ true → ⊥
    never h = cc

-- The state after some lexemes; the layout of the line may be given there, and then its first
-- significant token comes next.
pub data StoodAt (s : State) (h : List Lexeme) (cs : List ℕ) : Type 0 where
  plain : GoesAs s (state_of h) → StoodAt s h cs
  laid : is_at_margin h ≡ true → begins_significant cs ≡ true → GoesAs s (measured (state_of h)) → StoodAt s h cs

-- The point of a cursor: an offset of a source, directly after an INDENT or not.
pub record PointOf (s : Source) (indented : Bool) (offset : ℕ) : Type 0 where
  pub before : List Lexeme
  pub later : List Lexeme
  pub text : List ℕ
  pub left : List ℕ
  pub placed : Placed s before later text left
  pub balanced : IsBalanced before
  pub at : offset ≡ bytes_in (text_before before)
  pub stood : StoodAt (resumed (cursor_at 0 0 indented before) (last_line (text_before before))) before text

-- After a lexeme with an entry.
begun_alike : (s t : State) (p : Point) → t.margin ≡ false → s ≡ begun_at t p → GoesAs s t
begun_alike s t p m e = rw e (record {
  now = refl;
  depth = refl;
  levels = refl;
  margin = sym m;
  width = refl;
  logical = refl;
  line =
      λ h. absurd (never h);
})
  where
    never : false ≡ true → ⊥
    never h = cc

same_alike : (s t : State) → s ≡ t → GoesAs s t
same_alike s t e = subst (GoesAs s) e (goes_itself s)

own_alike : (h : List Lexeme) (x : Lexeme) → Says x.«class» x.text → is_of_blanks x ≡ false → is_of_join x ≡ false
    → GoesAs (resumed (cursor_at 0 0 false (x ∷ h)) (last_line (text_before (x ∷ h)))) (state_of (x ∷ h))
own_alike h x y b j = ⊎_elim
    (λ (e : (is_of_line_end x && (depth h == 0)) ≡ true).
    let p = and_parts (is_of_line_end x) (depth h == 0) e in
    same_alike _ (state_of (x ∷ h)) (resumed_start (x ∷ h) 0 0 (starts_line h x e) j (line_end_text h x y p.0)))
    (λ (e : (is_of_line_end x && (depth h == 0)) ≡ false).
    let m = line_is_on h x b e in
    let l : (not (is_logical (x ∷ h)) && (length (last_line (text_before (x ∷ h))) == 0)) ≡ false =
    ap (λ t. not t && (length (last_line (text_before (x ∷ h))) == 0)) (logical_on h x e) ∙ begun_or_filled h x y b e in
    begun_alike _ (state_of (x ∷ h)) (point_after (text_before (x ∷ h))) (state_at_margin (x ∷ h) ∙ m) (resumed_in (x ∷ h) m j l))
    (cases_Bool (is_of_line_end x && (depth h == 0)))

-- After an INDENT.
indented_alike : (h : List Lexeme) → is_at_margin h ≡ true → GoesAs (indented_at h) (measured (state_of h))
unfolding state_of
indented_alike h m = rw m (record {
  now = refl;
  depth = refl;
  levels = refl;
  margin = refl;
  width = refl;
  logical = refl;
  line =
      λ e. absurd (never e);
})
  where
    never : false ≡ true → ⊥
    never h = cc

-- Each entry with text ends at a point.
abbrev pub Pointed : Source → Entry → Type 0
Pointed s e = (is_encoding e ≡ false) × (has_no_text e ≡ false → PointOf s (is_indent e) e.to)

-- so do those among some steps, up to the first that is no entry
abbrev AllPointed : Source → List Step → Type 0
AllPointed s [] = Unit {0}
AllPointed s (steps.Entry e ∷ ss) = Pointed s e × AllPointed s ss
AllPointed s (steps.End ∷ ss) = Unit {0}
AllPointed s (steps.Fault f ∷ ss) = Unit {0}

pointed_append : (s : Source) (a b : List Step) → AllPointed s a → AllPointed s b → AllPointed s (a ++ b)
pointed_append s [] b h k = k
pointed_append s (steps.Entry e ∷ a) b h k = (h.0, pointed_append s a b h.1 k)
pointed_append s (steps.End ∷ a) b h k = tt
pointed_append s (steps.Fault f ∷ a) b h k = tt

cond_pointed : (s : Source) (b : Bool) (a c : List Step) → (b ≡ true → AllPointed s a) → (b ≡ false → AllPointed s c)
    → AllPointed s (cond b a c)
cond_pointed s true a c h k = h refl
cond_pointed s false a c h k = k refl

full_entry : (a b : ℕ) → a ≡ b → (a == b) ≡ false → ⊥
full_entry a b e h = grind (arith, nat_tests)

marks_pointed : (s : Source) (n o : ℕ) (p : Place) → AllPointed s (replicate n (mark_at kinds.Dedent o p p))
marks_pointed s zero o p = tt
marks_pointed s (suc n) o p = ((refl, λ h. absurd (full_entry o o refl h)), marks_pointed s n o p)

dedents_pointed : (s : Source) (w : ℕ) (levels : List ℕ) (o : ℕ) (p : Place) → AllPointed s (dedents_at w levels o p)
dedents_pointed s w levels o p = marks_pointed s (count_by (nat_lt w) levels) o p

layout_pointed : (s : Source) (t : State) → (t.margin ≡ true → PointOf s true t.now.offset) → AllPointed s (layout_of t)
unfolding layout_of
layout_pointed s t h =
    cond_pointed s t.margin _ []
    (λ m. cond_pointed s (list_all (λ v. nat_lt v t.width) t.levels) _ _
    (λ _. ((refl, λ _. h m), tt))
    (λ _. cond_pointed s (list_any (λ v. v == t.width) t.levels) (dedents_at t.width t.levels t.now.offset t.now.place) _
    (λ _. dedents_pointed s t.width t.levels t.now.offset t.now.place)
    (λ _. tt)))
    (λ _. tt)

entry_pointed : (s : Source) (t : State) (x : Lexeme)
    → (is_of_blanks x ≡ false → is_of_join x ≡ false → PointOf s false (past t.now x.text).offset) → AllPointed s (entry_by t x)
unfolding entry_by
entry_pointed s t x h = by_class x.«class» x.text h
  where
    by_end : (b : Bool) (e : Entry) → e.kind ≡ cond b kinds.Newline kinds.Nl → PointOf s false e.to → AllPointed s (steps.Entry e ∷ [])
    by_end true e k a = ((rw k refl, λ _. rw k a), tt)
    by_end false e k a = ((rw k refl, λ _. rw k a), tt)

    by_class : (k : Class) (u : List ℕ) → (is_of_blanks (record { «class» = k; text = u }) ≡ false
        → is_of_join (record { «class» = k; text = u }) ≡ false → PointOf s false (past t.now u).offset)
        → AllPointed s (entry_by t (record { «class» = k; text = u }))
    by_class Name u h = ((refl, λ _. h refl refl), tt)
    by_class Number u h = ((refl, λ _. h refl refl), tt)
    by_class String u h = ((refl, λ _. h refl refl), tt)
    by_class (Operator o) u h = cond_pointed s (is_closer o && (t.depth == 0)) _ _ (λ _. tt) (λ _. ((refl, λ _. h refl refl), tt))
    by_class Comment u h = ((refl, λ _. h refl refl), tt)
    by_class Blanks u h = tt
    by_class LineEnd u h = by_end (t.logical && (t.depth == 0)) (record {
      kind = line_end_kind_of t;
      exact = None;
      start = t.now.place;
      «end» = (following t.now u).place;
      «from» = t.now.offset;
      to = (following t.now u).offset;
    }) refl (h refl refl)
    by_class Join u h = tt

-- after an unmatched closing bracket nothing counts
unmatched_pointed : (s : Source) (t : State) (x : Lexeme) (ss : List Step) → (closes x && (t.depth == 0)) ≡ true
    → AllPointed s (entry_by t x ++ ss)
unfolding entry_by
unmatched_pointed s t x ss e = by_class x.«class» x.text e
  where
    by_class : (k : Class) (u : List ℕ) → (closes (record { «class» = k; text = u }) && (t.depth == 0)) ≡ true
        → AllPointed s (entry_by t (record { «class» = k; text = u }) ++ ss)
    by_class (Operator o) u e = rw e tt
    by_class Name u e = cc
    by_class Number u e = cc
    by_class String u e = cc
    by_class Comment u e = cc
    by_class Blanks u e = cc
    by_class LineEnd u e = cc
    by_class Join u e = cc

tail_pointed : (s : Source) (t : State) → AllPointed s (tail_of t)
unfolding tail_of last_line_end
tail_pointed s t =
    cond_pointed s (not (t.depth == 0) || t.joined) _ _ (λ _. tt)
    (λ _. pointed_append s (last_line_end t ++ dedents_at 0 t.levels t.now.offset (last_place t)) _
    (pointed_append s (last_line_end t) _
    (cond_pointed s t.logical _ _
    (λ _. cond_pointed s (is_hash t.lead) [] _ (λ _. tt) (λ _. ((refl, λ h. absurd (full_entry t.now.offset t.now.offset refl h)), tt)))
    (λ _. cond_pointed s t.margin [] _ (λ _. tt) (λ _. ((refl, λ h. absurd (full_entry t.now.offset t.now.offset refl h)), tt))))
    (dedents_pointed s 0 t.levels t.now.offset (last_place t)))
    ((refl, λ h. absurd (full_entry t.now.offset t.now.offset refl h)), tt))

-- The point after an INDENT, and after a lexeme.
indent_point : (s : Source) (h xs : List Lexeme) (text left : List ℕ) → Placed s h xs text left → IsBalanced h → is_at_margin h ≡ true
    → begins_significant text ≡ true → PointOf s true (state_of h).now.offset
indent_point s h xs text left p b m t = record {
  before = h;
  later = xs;
  text = text;
  left = left;
  placed = p;
  balanced = b;
  at = state_offset h;
  stood = laid m t (subst (λ (r : State). GoesAs r (measured (state_of h))) (sym (resumed_indented h)) (indented_alike h m));
}

own_point : (s : Source) (h xs : List Lexeme) (x : Lexeme) (text left : List ℕ) → Placed s (x ∷ h) xs text left → IsBalanced (x ∷ h)
    → Says x.«class» x.text → is_of_blanks x ≡ false → is_of_join x ≡ false → PointOf s false (past (state_of h).now x.text).offset
own_point s h xs x text left p c y b j = record {
  before = x ∷ h;
  later = xs;
  text = text;
  left = left;
  placed = p;
  balanced = c;
  at = ap (λ n. n + bytes_in x.text) (state_offset h) ∙ sym (bytes_in-append (text_before h) x.text);
  stood = plain (own_alike h x y b j);
}

stop_begins : (left : List ℕ) → lexeme_at left ≡ None → not (length left == 0) ≡ true → begins_significant left ≡ true
stop_begins left e n = ⊎_elim
    (λ (t : begins_significant left ≡ true). t)
    (λ (t : begins_significant left ≡ false). absurd (empty left (all_cut left t e) n))
    (cases_Bool (begins_significant left))
  where
    empty : (left : List ℕ) → left ≡ [] → not (length left == 0) ≡ true → ⊥
    empty [] e n = cc
    empty (c ∷ left) e n = cc

stop_pointed : (s : Source) (h : List Lexeme) (text left : List ℕ) → Placed s h [] text left → IsBalanced h
    → AllPointed s (stop_of s.fault (state_of h) left)
unfolding stop_of
stop_pointed s h text left p b =
    cond_pointed s (not (length left == 0)) _ _
    (λ e. pointed_append s (layout_of (state_of h)) _
    (layout_pointed s (state_of h) (λ m. indent_point s h [] text left p b (sym (state_at_margin h) ∙ m)
    (ap begins_significant (sym p.lexemes.0) ∙ stop_begins left (ap lexeme_at p.lexemes.0 ∙ p.lexemes.1) e)))
    (let f = stop_is_fault s.fault (state_of h).now.place left in subst (λ (t : Step). AllPointed s (t ∷ [])) (sym f.1) tt))
    (λ _. by_fault s.fault)
  where
    by_fault : (f : Option ListingFault) → AllPointed s (elim f [ Some g ↦ steps.Fault g ∷ [] | None ↦ tail_of (state_of h) ])
    by_fault (Some f) = tt
    by_fault None = tail_pointed s (state_of h)

own_pointed : (s : Source) (h xs : List Lexeme) (x : Lexeme) (text left : List ℕ) → (p : Placed s h (x ∷ xs) text left) → IsBalanced h
    → (IsBalanced (x ∷ h) → AllPointed s (run s.fault left (state_of (x ∷ h)) xs))
    → AllPointed s (entry_by (state_of h) x ++ run s.fault left (after (state_of h) x) xs)
own_pointed s h xs x text left p b k = ⊎_elim
    (λ (e : (closes x && (depth h == 0)) ≡ true). unmatched_pointed s (state_of h) x (run s.fault left (after (state_of h) x) xs)
    (ap (λ n. closes x && (n == 0)) (state_depth h) ∙ e))
    (λ (e : (closes x && (depth h == 0)) ≡ false).
    let c = balanced_push h x b e in
    pointed_append s (entry_by (state_of h) x) _
    (entry_pointed s (state_of h) x (own_point s h xs x p.lexemes.0 left (placed_next s h xs x text left p) c
    (lexeme_says text x p.lexemes.1)))
    (subst (λ (t : State). AllPointed s (run s.fault left t xs)) (state_push h x b e) (k c)))
    (cases_Bool (closes x && (depth h == 0)))

lexeme_pointed : (s : Source) (h xs : List Lexeme) (x : Lexeme) (text left : List ℕ) → (p : Placed s h (x ∷ xs) text left) → IsBalanced h
    → (IsBalanced (x ∷ h) → AllPointed s (run s.fault left (state_of (x ∷ h)) xs))
    → AllPointed s (gives (state_of h) x ++ run s.fault left (after (state_of h) x) xs)
unfolding gives
lexeme_pointed s h xs x text left p b k =
    let r = run s.fault left (after (state_of h) x) xs in
    subst (AllPointed s) (sym (append_assoc (cond (is_significant x) (layout_of (state_of h)) []) (entry_by (state_of h) x) r))
    (pointed_append s (cond (is_significant x) (layout_of (state_of h)) []) (entry_by (state_of h) x ++ r)
    (cond_pointed s (is_significant x) _ []
    (λ e. layout_pointed s (state_of h) (λ m. indent_point s h (x ∷ xs) text left p b (sym (state_at_margin h) ∙ m)
    (sym (significant_is text x p.lexemes.1) ∙ e)))
    (λ _. tt))
    (own_pointed s h xs x text left p b k))

run_pointed : (s : Source) (xs h : List Lexeme) (text left : List ℕ) → Placed s h xs text left → IsBalanced h
    → AllPointed s (run s.fault left (state_of h) xs)
run_pointed s [] h text left p b = stop_pointed s h text left p b
run_pointed s (x ∷ xs) h text left p b =
    lexeme_pointed s h xs x text left p b (λ c. run_pointed s xs (x ∷ h) p.lexemes.0 left (placed_next s h xs x text left p) c)

-- Entries, each at a point if it has text.
abbrev Each : Source → List Entry → Type 0
Each s [] = Unit {0}
Each s (e ∷ es) = Pointed s e × Each s es

up_to_end_pointed : (s : Source) (ss : List Step) → AllPointed s ss → Each s (entries_of (up_to_end ss))
up_to_end_pointed s [] h = tt
up_to_end_pointed s (steps.Entry e ∷ ss) h = (h.0, up_to_end_pointed s ss h.1)
up_to_end_pointed s (steps.End ∷ ss) h = tt
up_to_end_pointed s (steps.Fault f ∷ ss) h = tt

nothing_open : IsBalanced []
nothing_open = record { closed = omega arith }

each_pointed : (s : Source) → Each s (entries_of (remaining s.fault first_state s.text))
unfolding remaining
each_pointed s = subst (λ (t : State). Each s (entries_of (up_to_end (run s.fault (left_by_cut s.text) t (cut s.text))))) begun_state
    (up_to_end_pointed s (run s.fault (left_by_cut s.text) (state_of []) (cut s.text))
    (run_pointed s (cut s.text) [] s.text (left_by_cut s.text) (placed_first s) nothing_open))

each_take : (s : Source) (n : ℕ) (es : List Entry) → Each s es → Each s (take n es)
each_take s zero es h = tt
each_take s (suc n) [] h = tt
each_take s (suc n) (e ∷ es) h = (h.0, each_take s n es h.1)

each_append : (s : Source) (es fs : List Entry) → Each s es → Each s fs → Each s (es ++ fs)
each_append s [] fs h k = k
each_append s (e ∷ es) fs h k = (h.0, each_append s es fs h.1 k)

each_reverse : (s : Source) (es : List Entry) → Each s es → Each s (reverse es)
each_reverse s [] h = tt
each_reverse s (e ∷ es) h =
    subst (Each s) (sym (reverse-append (e ∷ []) es)) (each_append s (reverse es) (e ∷ []) (each_reverse s es h.1) (h.0, tt))

-- The point of a cursor after some entries, which stand last first, the encoding's at the end.
no_line : line_so_far [] ≡ []
unfolding line_so_far
no_line = refl

no_text : last_line (text_before []) ≡ []
unfolding last_line
no_text = refl

first_point : (s : Source) → PointOf s false 0
first_point s = record {
  before = [];
  later = cut s.text;
  text = s.text;
  left = left_by_cut s.text;
  placed = placed_first s;
  balanced = nothing_open;
  at = refl;
  stood = plain (same_alike _ (state_of []) (resumed_start [] 0 0 no_line refl no_text));
}

abbrev pub PointAfter : Source → List Entry → Type 0
PointAfter s es = PointOf s (ends_in_indent (with_text es)) (point (with_text es))

one_skipped : (s : Source) (e : Entry) (es : List Entry) → has_no_text e ≡ true → PointAfter s es → PointAfter s (e ∷ es)
unfolding with_text
one_skipped s e es t h = let o : 1 + prefix_len has_no_text es ≡ suc (prefix_len has_no_text es) = omega arith in rw (t, o) h

one_reached : (s : Source) (e : Entry) (es : List Entry) → has_no_text e ≡ false → PointOf s (is_indent e) e.to → PointAfter s (e ∷ es)
unfolding with_text
one_reached s e es t h = rw t h

none_given : (s : Source) → PointAfter s []
unfolding with_text
none_given s = first_point s

points : (s : Source) (es : List Entry) → Each s es → PointAfter s (es ++ encoding_entry ∷ [])
points s [] h = one_skipped s encoding_entry [] refl (none_given s)
points s (e ∷ es) h = ⊎_elim
    (λ (t : has_no_text e ≡ true). one_skipped s e (es ++ encoding_entry ∷ []) t (points s es h.1))
    (λ (t : has_no_text e ≡ false). one_reached s e (es ++ encoding_entry ∷ []) t (h.0.1 t))
    (cases_Bool (has_no_text e))

none_so_far : (s : Source) → PointAfter s (given_last_first s 0)
unfolding given_last_first
none_so_far s = none_given s

-- each cursor of a source has a point
pub point_after_given : (s : Source) (k : ℕ) → PointAfter s (given_last_first s k)
point_after_given s zero = none_so_far s
point_after_given s (suc j) =
    let es = entries_of (remaining s.fault first_state s.text) in
    subst (PointAfter s) (sym (given_first s j))
    (points s (reverse (take j es)) (each_reverse s (take j es) (each_take s j es (each_pointed s))))

-- no entry after the first is the encoding's
first_of : (s : Source) (e : Entry) (es fs : List Entry) → Each s es → e ∷ fs ≡ es ++ encoding_entry ∷ []
    → 0 < length es → is_encoding e ≡ false
first_of s e [] fs h q n = absurd (omega arith)
first_of s e (d ∷ es) fs h q n = let x : d ≡ e = cc in subst (λ (y : Entry). is_encoding y ≡ false) x h.0.0

length_reverse : (es : List Entry) → length (reverse es) ≡ length es
length_reverse es = length-reverse es

pub given_pointed : (s : Source) (k : ℕ) (e : Entry) → 0 < k → k < length (entries_of (listing s))
    → given_last_first s (k + 1) ≡ e ∷ given_last_first s k → is_encoding e ≡ false
given_pointed s k e n w g =
    let es = entries_of (remaining s.fault first_state s.text) in
    let l : length (entries_of (listing s)) ≡ suc (length es) = ap (λ ss. length (entries_of ss)) (listing_is s) in
    let o : k + 1 ≡ suc k = omega arith in
    let q : e ∷ given_last_first s k ≡ reverse (take k es) ++ encoding_entry ∷ [] = sym g ∙ ap (given_last_first s) o ∙ given_first s k in
    let r : length (reverse (take k es)) ≡ length (take k es) = length_reverse (take k es) in
    let t : length (take k es) ≡ k = length-take-le k es (omega arith) in
    first_of s e (reverse (take k es)) (given_last_first s k) (each_reverse s (take k es) (each_take s k es (each_pointed s))) q
    (omega arith)
