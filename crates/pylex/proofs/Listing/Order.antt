-- The entries of a listing stand in the order of the text.
--
-- Carries: Lister::new. On: Run, Ends.
use Rattle.std.proofs.Common.{◌≡◌, ℕ, ◌+◌, ◌≤◌, ◌<◌, zero, suc, Bool, true, false, not, ◌&&◌, ◌||◌, ◌==◌, cond, List, [], ◌∷◌, ◌++◌, length}
use Rattle.std.proofs.Common.{get_or, replicate, refl, sym, subst, arith, Option, Some, None, ⊎_elim}
use Rattle.std.specs.List.{list_all, list_any}
use Rattle.std.specs.Prelude.{nat_lt}
use Rattle.std.proofs.lemmas.Bool.{cases_Bool}
use Rattle.pysource.specs.declared.places.Place.{Place}
use Rattle.pylex_lexeme.specs.declared.lexeme.Class.{Class}
use Rattle.pylex_lexeme.specs.declared.lexeme.Class.TheVariants.{Name, Number, String, Operator, Comment, Blanks, LineEnd, Join}
use Rattle.pylex_lexeme.specs.declared.kinds.Exact.{Exact}
use Rattle.pylex_listing.specs.declared.kind.Kind.{Kind}
use Rattle.pylex_listing.specs.declared.kind.Kind.TheVariants as kinds
use Rattle.pylex_listing.specs.declared.entries.Entry.{Entry}
use Rattle.pylex_listing.specs.declared.entries.ListingFault.{ListingFault}
use Rattle.pylex_listing.specs.declared.entries.Step.{Step}
use Rattle.pylex_listing.specs.declared.entries.Step.TheVariants as steps
use Rattle.pylex_listing.specs.declared.point.Point.{Point}
use Rattle.pylex_lexeme.specs.Operators.{is_closer}
use Rattle.pylex_lexeme.specs.Lexemes.{Lexeme, cut, left_by_cut}
use Rattle.pylex_listing.specs.Lines.{is_of_blanks, is_significant}
use Rattle.pylex_listing.specs.Listing.{Source, origin, up_to_end}
use Rattle.pylex_listing.specs.Steps.{entries_of}
use Rattle.pylex_listing.specs.Machine.{State, place_past, past, after, ends_line, dedents_at, mark_at, step_of, layout_of, entry_by, gives}
use Rattle.pylex_listing.specs.Machine.{is_hash, last_line_end, last_place, tail_of, stop_of, run, remaining, first_state, first_point}
use Rattle.pylex_listing.specs.Laws.{RunsForward, EndsBefore, AreOrdered, IsOrdered}
use Rattle.pylex_listing.proofs.Callers.{listing_is}
use Rattle.pylex.proofs.Listing.Ends.{stop_is_fault}

-- one point isn't after another
record NotAfter (p q : Point) : Type 0 where
  offset : p.offset ≤ q.offset
  row : p.place.row ≤ q.place.row

abbrev begin_of : Entry → Point
begin_of e = record { place = e.start; offset = e.«from» }

abbrev end_of : Entry → Point
end_of e = record { place = e.«end»; offset = e.to }

-- the entries among steps stand in order between two points
abbrev Reaches : Point → List Step → Point → Type 0
Reaches p [] q = NotAfter p q
Reaches p (steps.Entry e ∷ ss) q = NotAfter p (begin_of e) × NotAfter (begin_of e) (end_of e) × Reaches (end_of e) ss q
Reaches p (steps.End ∷ ss) q = Unit {0}
Reaches p (steps.Fault f ∷ ss) q = Unit {0}

same_point : (p : Point) → NotAfter p p
same_point p = record { offset = omega arith; row = omega arith }

through : (p q r : Point) → NotAfter p q → NotAfter q r → NotAfter p r
through p q r a b = record { offset = omega arith; row = omega arith }

earlier : (ss : List Step) (p q r : Point) → NotAfter p q → Reaches q ss r → Reaches p ss r
earlier [] p q r n h = through p q r n h
earlier (steps.Entry e ∷ ss) p q r n h = (through p q (begin_of e) n h.0, h.1, h.2)
earlier (steps.End ∷ ss) p q r n h = tt
earlier (steps.Fault f ∷ ss) p q r n h = tt

joined : (ss ts : List Step) (p q r : Point) → Reaches p ss q → Reaches q ts r → Reaches p (ss ++ ts) r
joined [] ts p q r h k = earlier ts p q r h k
joined (steps.Entry e ∷ ss) ts p q r h k = (h.0, h.1, joined ss ts (end_of e) q r h.2 k)
joined (steps.End ∷ ss) ts p q r h k = tt
joined (steps.Fault f ∷ ss) ts p q r h k = tt

later : (ss : List Step) (p q r : Point) → Reaches p ss q → NotAfter q r → Reaches p ss r
later [] p q r h n = through p q r h n
later (steps.Entry e ∷ ss) p q r h n = (h.0, h.1, later ss (end_of e) q r h.2 n)
later (steps.End ∷ ss) p q r h n = tt
later (steps.Fault f ∷ ss) p q r h n = tt

advance_row : (p : Place) (t : List ℕ) → p.row ≤ (place_past p t).row
advance_row p [] = omega arith
advance_row p (c ∷ t) =
    let q : Place = cond (c == 10) (record { row = p.row + 1; column = 0 }) (record { row = p.row; column = p.column + 1 }) in
    let h = advance_row q t in
    let n = by_char (c == 10) in
    omega arith
  where
    by_char : (b : Bool)
        → p.row ≤ (cond {A = Place} b (record { row = p.row + 1; column = 0 }) (record { row = p.row; column = p.column + 1 })).row
    by_char true = omega arith
    by_char false = omega arith

past_not_after : (p : Point) (t : List ℕ) → NotAfter p (past p t)
past_not_after p t = record { offset = omega arith; row = advance_row p.place t }

-- the last point up to which entries can reach: at a line's margin its begin
abbrev floor : State → Point
floor s = cond s.margin s.line s.now

floor_now : (m : Bool) (p q : Point) → NotAfter p q → NotAfter (cond m p q) q
floor_now true p q h = h
floor_now false p q h = same_point q

cond_reaches : (b : Bool) (ss ts : List Step) (p q : Point) → Reaches p ss q → Reaches p ts q → Reaches p (cond b ss ts) q
cond_reaches true ss ts p q h k = h
cond_reaches false ss ts p q h k = k

marks_reach : (n o : ℕ) (p : Place) → Reaches (record { place = p; offset = o }) (replicate n (mark_at kinds.Dedent o p p))
    (record { place = p; offset = o })
marks_reach zero o p = same_point (record { place = p; offset = o })
marks_reach (suc n) o p = (same_point (record { place = p; offset = o }), same_point (record { place = p; offset = o }), marks_reach n o p)

layout_reaches : (s : State) → NotAfter s.line s.now → Reaches (floor s) (layout_of s) s.now
unfolding layout_of
layout_reaches s h = by_margin s.margin
  where
    by_margin : (m : Bool) → Reaches (cond m s.line s.now) (layout_of (record s { margin = m })) s.now
    by_margin true = cond_reaches (list_all (λ v. nat_lt v s.width) s.levels) _ _ s.line s.now (same_point s.line, h, same_point s.now)
        (cond_reaches (list_any (λ v. v == s.width) s.levels) _ _ s.line s.now
        (earlier (dedents_at s.width s.levels s.now.offset s.now.place) s.line s.now s.now h (marks_reach _ s.now.offset s.now.place)) tt)
    by_margin false = same_point s.now

step_reaches : (k : Kind) (e : Option Exact) (p q : Point) → NotAfter p q → Reaches p (step_of k e p q ∷ []) q
step_reaches k e p q h = (same_point p, h, same_point q)

-- a lexeme's entry, in a line that has begun or as a line's end
entry_reaches : (s : State) (x : Lexeme) → is_of_blanks x ≡ false → Reaches s.now (entry_by s x) (past s.now x.text)
unfolding entry_by
entry_reaches s x n = by_class x.«class» x.text n
  where
    one : (k : Kind) (e : Option Exact) (t : List ℕ) → Reaches s.now (step_of k e s.now (past s.now t) ∷ []) (past s.now t)
    one k e t = step_reaches k e s.now (past s.now t) (past_not_after s.now t)

    by_class : (k : Class) (t : List ℕ) → is_of_blanks (record { «class» = k; text = t }) ≡ false
        → Reaches s.now (entry_by s (record { «class» = k; text = t })) (past s.now t)
    by_class Name t n = one kinds.Name None t
    by_class Number t n = one kinds.Number None t
    by_class String t n = one kinds.String None t
    by_class (Operator o) t n = cond_reaches (is_closer o && (s.depth == 0)) _ _ s.now (past s.now t) tt (one kinds.Op (Some o) t)
    by_class Comment t n = one kinds.Comment None t
    by_class Blanks t n = cc
    by_class LineEnd t n = let h = past_not_after s.now t in (
      same_point s.now,
      record { offset = omega arith; row = omega arith },
      record { offset = omega arith; row = omega arith },
    )
    by_class Join t n = past_not_after s.now t

-- where a lexeme leads to, its line's begin isn't after the place
line_stays : (s : State) (x : Lexeme) → NotAfter s.line s.now → NotAfter (after s x).line (after s x).now
unfolding after
line_stays s x h = by_end (ends_line s x)
  where
    by_end : (b : Bool) → NotAfter (cond b (past s.now x.text) s.line) (past s.now x.text)
    by_end true = same_point (past s.now x.text)
    by_end false = through s.line s.now (past s.now x.text) h (past_not_after s.now x.text)

blanks_reach : (s : State) (x : Lexeme) → is_of_blanks x ≡ true → NotAfter s.line s.now → Reaches (floor s) (gives s x) (floor (after s x))
unfolding gives entry_by after
blanks_reach s x b h = by_class x.«class» x.text b
  where
    by_class : (k : Class) (t : List ℕ) → is_of_blanks (record { «class» = k; text = t }) ≡ true
        → Reaches (floor s) (gives s (record { «class» = k; text = t })) (floor (after s (record { «class» = k; text = t })))
    by_class Blanks t e = by_margin s.margin
      where
        by_margin : (m : Bool) → NotAfter (cond m s.line s.now) (cond m s.line (past s.now t))
        by_margin true = same_point s.line
        by_margin false = past_not_after s.now t
    by_class Name t e = cc
    by_class Number t e = cc
    by_class String t e = cc
    by_class (Operator o) t e = cc
    by_class Comment t e = cc
    by_class LineEnd t e = cc
    by_class Join t e = cc

-- a lexeme but blanks ends the line or stands past its margin
floor_after : (s : State) (x : Lexeme) → is_of_blanks x ≡ false → floor (after s x) ≡ past s.now x.text
unfolding after
floor_after s x n = rw n (by_end (ends_line s x))
  where
    by_end : (b : Bool) → cond (b || false) (cond b (past s.now x.text) s.line) (past s.now x.text) ≡ past s.now x.text
    by_end true = refl
    by_end false = refl

others_reach : (s : State) (x : Lexeme) → is_of_blanks x ≡ false → NotAfter s.line s.now
    → Reaches (floor s) (gives s x) (floor (after s x))
unfolding gives
others_reach s x n h = subst (λ (q : Point). Reaches (floor s) (gives s x) q) (sym (floor_after s x n))
    (joined (cond (is_significant x) (layout_of s) []) (entry_by s x) (floor s) s.now (past s.now x.text)
    (cond_reaches (is_significant x) (layout_of s) [] (floor s) s.now (layout_reaches s h) (floor_now s.margin s.line s.now h))
    (entry_reaches s x n))

lexeme_reaches : (s : State) (x : Lexeme) → NotAfter s.line s.now → Reaches (floor s) (gives s x) (floor (after s x))
lexeme_reaches s x h = ⊎_elim (λ (e : is_of_blanks x ≡ true). blanks_reach s x e h) (λ (e : is_of_blanks x ≡ false). others_reach s x e h)
    (cases_Bool (is_of_blanks x))

abbrev last_point : State → Point
last_point s = record { place = last_place s; offset = s.now.offset }

last_not_before : (s : State) → s.now.place.row ≤ (last_place s).row
last_not_before s = by_margin s.margin (s.now.place.column == 0)
  where
    by_margin : (m b : Bool) → s.now.place.row ≤ cond m s.now.place.row (cond b s.now.place.row (s.now.place.row + 1))
    by_margin true b = omega arith
    by_margin false true = omega arith
    by_margin false false = omega arith

tail_reaches : (s : State) → Reaches s.now (tail_of s) (last_point s)
unfolding tail_of last_line_end
tail_reaches s =
    let l = last_not_before s in
    let n : NotAfter s.now (last_point s) = record { offset = omega arith; row = omega arith } in
    cond_reaches (not (s.depth == 0) || s.joined) _ _ s.now (last_point s) tt
    (joined (last_line_end s ++ dedents_at 0 s.levels s.now.offset (last_place s)) _ s.now (last_point s) (last_point s)
    (joined (last_line_end s) (dedents_at 0 s.levels s.now.offset (last_place s)) s.now (last_point s) (last_point s)
    (cond_reaches s.logical _ _ s.now (last_point s)
    (cond_reaches (is_hash s.lead) [] _ s.now (last_point s) n (
      same_point s.now,
      record { offset = omega arith; row = omega arith },
      record { offset = omega arith; row = omega arith },
    ))
    (cond_reaches s.margin [] _ s.now (last_point s) n (same_point s.now, same_point s.now, n)))
    (marks_reach _ s.now.offset (last_place s)))
    (same_point (last_point s), same_point (last_point s), tt))

stop_reaches : (fault : Option ListingFault) (left : List ℕ) (s : State) → NotAfter s.line s.now
    → Reaches (floor s) (stop_of fault s left) (last_point s)
unfolding stop_of
stop_reaches fault left s h =
    cond_reaches (not (length left == 0)) _ _ (floor s) (last_point s)
    (joined (layout_of s) _ (floor s) s.now (last_point s) (layout_reaches s h) (let f = stop_is_fault fault s.now.place left in
    subst (λ (g : Step). Reaches s.now (g ∷ []) (last_point s)) (sym f.1) tt))
    (by_fault fault)
  where
    by_fault : (fault : Option ListingFault)
        → Reaches (floor s) (elim fault [ Some f ↦ steps.Fault f ∷ [] | None ↦ tail_of s ]) (last_point s)
    by_fault (Some f) = tt
    by_fault None = earlier (tail_of s) (floor s) s.now (last_point s) (floor_now s.margin s.line s.now h) (tail_reaches s)

run_reaches : (fault : Option ListingFault) (left : List ℕ) (xs : List Lexeme) (s : State) → NotAfter s.line s.now
    → (q : Point) × Reaches (floor s) (run fault left s xs) q
run_reaches fault left [] s h = (last_point s, stop_reaches fault left s h)
run_reaches fault left (x ∷ xs) s h = let r = run_reaches fault left xs (after s x) (line_stays s x h) in
    (r.0, joined (gives s x) _ (floor s) (floor (after s x)) r.0 (lexeme_reaches s x h) r.1)

-- entries in order from a point on
abbrev Chained : Point → List Entry → Type 0
Chained p [] = Unit {0}
Chained p (e ∷ es) = NotAfter p (begin_of e) × NotAfter (begin_of e) (end_of e) × Chained (end_of e) es

chained : (ss : List Step) (p q : Point) → Reaches p ss q → Chained p (entries_of (up_to_end ss))
chained [] p q h = tt
chained (steps.Entry e ∷ ss) p q h = (h.0, h.1, chained ss (end_of e) q h.2)
chained (steps.End ∷ ss) p q h = tt
chained (steps.Fault f ∷ ss) p q h = tt

begins_later : (es : List Entry) (p : Point) → Chained p es → (k : ℕ) (d : Entry) → k < length es → NotAfter p (begin_of (get_or es k d))
begins_later [] p h k d l = absurd (omega arith)
begins_later (e ∷ es) p h zero d l = h.0
begins_later (e ∷ es) p h (suc k) d l = through p (end_of e) _ (through p (begin_of e) (end_of e) h.0 h.1)
    (begins_later es (end_of e) h.2 k d (omega arith))

run_forward : (es : List Entry) (p : Point) → Chained p es → (k : ℕ) (d : Entry) → k < length es → RunsForward (get_or es k d)
run_forward [] p h k d l = absurd (omega arith)
run_forward (e ∷ es) p h zero d l = record { offsets = h.1.offset; rows = h.1.row }
run_forward (e ∷ es) p h (suc k) d l = run_forward es (end_of e) h.2 k d (omega arith)

end_before : (es : List Entry) (p : Point) → Chained p es → (i j : ℕ) (d : Entry) → i < j → j < length es
    → EndsBefore (get_or es i d) (get_or es j d)
end_before [] p h i j d lt l = absurd (omega arith)
end_before (e ∷ es) p h i zero d lt l = absurd (omega arith)
end_before (e ∷ es) p h zero (suc j) d lt l = let n = begins_later es (end_of e) h.2 j d (omega arith) in
    record { offsets = n.offset; rows = n.row }
end_before (e ∷ es) p h (suc i) (suc j) d lt l = end_before es (end_of e) h.2 i j d (omega arith) (omega arith)

ordered : (es : List Entry) (p : Point) → Chained p es → AreOrdered es
ordered es p h = record { forward = run_forward es p h; apart = end_before es p h }

pub is_ordered : (s : Source) → IsOrdered s
unfolding remaining
is_ordered s =
    let r = run_reaches s.fault (left_by_cut s.text) (cut s.text) first_state (same_point first_point) in
    let c = chained _ first_point r.0 r.1 in
    let z : Point = record { place = origin; offset = 0 } in
    let f : NotAfter z first_point = record { offset = omega arith; row = omega arith } in
    subst (λ (ss : List Step). AreOrdered (entries_of ss)) (sym (listing_is s))
    (ordered _ z (same_point z, same_point z, weaken z first_point f _ c))
  where
    weaken : (p q : Point) → NotAfter p q → (es : List Entry) → Chained q es → Chained p es
    weaken p q n [] h = tt
    weaken p q n (e ∷ es) h = (through p q (begin_of e) n h.0, h.1, h.2)
