-- Back to the point of a cursor: the entries without text after it were given last.
--
-- Carries: at_point, resume. On: Cursoring, Resume, Moving, Looking and 2 more.
use Rattle.std.proofs.Common.{◌≡◌, ℕ, zero, suc, ◌+◌, ◌-◌, ◌<◌, ◌≤◌, true, false, List, ◌∷◌, ◌++◌, length, take, drop, refl, ap}
use Rattle.std.proofs.Common.{◌∙◌, sym, subst, arith, ⊎_elim, Some, length-append}
use Rattle.std.specs.Str.{chars, IsUtf8, IsCharBoundary}
use Rattle.std.proofs.Math.Seq.{take-length}
use Rattle.std.proofs.lemmas.List.{length-take-le, take-append-drop, length-drop}
use Rattle.std.proofs.lemmas.Str.{chars-append, length-le-encodes, IsUtf8-take, IsUtf8-drop}
use Rattle.pysource.specs.Limits.{source_limit}
use Rattle.pysource.specs.Parts.{Parts}
use Rattle.pylex.specs.declared.cursor.CursorPoint.{CursorPoint}
use Rattle.pylex_listing.specs.declared.entries.Entry.{Entry}
use Rattle.pylex_listing.specs.declared.leading_char.LeadingChar.TheVariants.{Nothing}
use Rattle.pylex.specs.declared.line_state.LineState.{LineState}
use Rattle.std.specs.Prelude.{slice_get}
use Rattle.std.proofs.lemmas.Bool.{cases_Bool}
use Rattle.pylex_listing.specs.declared.entries.Step.{Step}
use Rattle.pylex_listing.specs.declared.entries.Step.TheVariants as steps
use Rattle.pylex_lexeme.specs.Chars.{bytes_in}
use Rattle.pylex_listing.specs.Listing.{Source, in_characters, last_line, listing, rest}
use Rattle.pylex_listing.specs.Steps.{entries_of, first_step, entries_in}
use Rattle.pylex.specs.Cursors.{CursorParts, has_no_text, cursor_at, cursor}
use Rattle.pylex_listing.specs.Machine.{State, lead_after}
use Rattle.pylex.specs.LineState.{with_levels, IsAscending, Walks, stays}
use Rattle.pylex.specs.Standing.{resumed, standing_by, Agrees, IsCursorOf}
use Rattle.pylex.specs.Listers.{Listed, StandsIn, LeadsInto, Keeps, IsIn, shown_by}
use Rattle.pylex.proofs.Resumption.Resume.{cursor_skips, cursor_moves, last_split, lines_before}
use Rattle.pylex.proofs.Listers.Looking.{line_in, left_in}
use Rattle.pylex.proofs.Resumption.Cursoring.{GivenNext, given_next, not_encoding, given_of, none_given, first_given, cursor_by, cursor_is}
use Rattle.pylex.proofs.Resumption.Cursoring.{cursor_first, no_skip, offset_of_resumed}
use Rattle.pylex.proofs.Resumption.CursorBounds.{shown_fits}
use Rattle.pylex_lexeme.proofs.Callers.Fronts.{length-text}
use Rattle.pylex.proofs.Listers.Moving.{first_at, listing_length, entry_due}
use Rattle.pylex.proofs.Callers.{is_following, is_own}
use Rattle.pylex.proofs.Resumption.Skips.{skip_at}

one_given : (a : Source) → cursor a 1 ≡ record (cursor a 0) { given = 1 }
one_given a =
    cursor_is a 1
    ∙ ap (cursor_by a 1) (first_given a)
    ∙ cursor_first a
    ∙ sym (ap (λ (c : CursorParts). record c { given = 1 }) (cursor_is a 0 ∙ ap (cursor_by a 0) (none_given a)))

-- the cursor before the entries without text after its point
record Back (a : Source) (m k : ℕ) : Type 0 where
  within : m ≤ k
  is : cursor a (k - m) ≡ record (cursor a k) { given = k - m; skip = 0 }

no_more : (a : Source) (m k : ℕ) → (cursor a k).skip ≡ 0 → (cursor a k).skip ≡ suc m → ⊥
no_more a m k z e = absurd (omega arith)

at_same : (a : Source) (k : ℕ) → (cursor a k).skip ≡ 0 → cursor a k ≡ record (cursor a k) { given = k; skip = 0 }
at_same a k e = ap (λ n. record (cursor a k) { given = n }) (given_of a k) ∙ ap (λ n. record (cursor a k) { given = k; skip = n }) e

one_back : (a : Source) (m j : ℕ) → cursor a (j + 1) ≡ record (cursor a j) { given = j + 1; skip = (cursor a j).skip + 1 } → Back a m j
    → Back a (suc m) (suc j)
one_back a m j e b =
    let w = b.within in
    let next : j + 1 ≡ suc j = omega arith in
    let less : suc j - suc m ≡ j - m = omega arith in
    let shown : cursor a (suc j) ≡ record (cursor a j) { given = j + 1; skip = (cursor a j).skip + 1 } = sym (ap (cursor a) next) ∙ e in
    record {
      within = omega arith;
      is = ap (cursor a) less ∙ b.is ∙ ap (λ (c : CursorParts). record c { given = j - m; skip = 0 }) (sym shown)
          ∙ ap (λ n. record (cursor a (suc j)) { given = n; skip = 0 }) (sym less);
    }

-- one entry without text back
by_empty : (a : Source) (m j : ℕ) (d : Entry) → first_step (rest a j) ≡ steps.Entry d → GivenNext a j d → has_no_text d ≡ true
    → ((cursor a j).skip ≡ m → Back a m j) → (cursor a (suc j)).skip ≡ suc m → Back a (suc m) (suc j)
by_empty a m zero d f g t b e = absurd (no_more a m 1 (ap (λ (c : CursorParts). c.skip) (one_given a) ∙ no_skip a) e)
by_empty a m (suc i) d f g t b e =
    let next : suc i + 1 ≡ suc (suc i) = omega arith in
    let skips = cursor_skips a (suc i) d g.given t (not_encoding a (suc i) d (omega arith) f) in
    let less : (cursor a (suc (suc i))).skip ≡ (cursor a (suc i)).skip + 1 =
    ap (λ (c : CursorParts). c.skip) (sym (ap (cursor a) next) ∙ skips) in
    one_back a m (suc i) skips (b (omega arith))

cursor_back : (a : Source) (m k : ℕ) → k ≤ length (entries_of (listing a)) → (cursor a k).skip ≡ m → Back a m k
cursor_back a zero k w e = let z : k - 0 ≡ k = omega arith in record { within = omega arith; is = rw z (at_same a k e) }
cursor_back a (suc m) zero w e = absurd (no_more a m 0 (no_skip a) e)
cursor_back a (suc m) (suc j) w e =
    let l = listing_length a in
    let due = entry_due a j (first_step (rest a j)) (omega arith) (first_at (listing a) j (omega arith)) in
    let g = given_next a j due.0 due.1 in
    let next : j + 1 ≡ suc j = omega arith in ⊎_elim
    (λ (t : has_no_text due.0 ≡ true). by_empty a m j due.0 due.1 g t (λ f. cursor_back a m j (omega arith) f) e)
    (λ (t : has_no_text due.0 ≡ false).
    let moved : cursor a (suc j) ≡ cursor_at (j + 1) 0 _ _ = sym (ap (cursor a) next) ∙ cursor_moves a j due.0 g.given t in
    absurd (no_more a m (suc j) (ap (λ (c : CursorParts). c.skip) moved ∙ skip_at (j + 1) 0 _ _) e))
    (cases_Bool (has_no_text due.0))

-- A lister at the point of a cursor stands in the sources that the cursor leads into.
pub stands_back : (l : Listed) (a : Source) → StandsIn l a l.shown.given
    → StandsIn (record l { shown = record l.shown { given = l.shown.given - l.shown.skip; skip = 0 } }) a (l.shown.given - l.shown.skip)
stands_back l a h =
    let c : l.shown ≡ cursor a l.shown.given = (is_following h.cursor).is in
    let w = (is_following h.cursor).within in
    let b = cursor_back a l.shown.skip l.shown.given w (ap (λ (p : CursorParts). p.skip) (sym c)) in
    record {
      cursor = is_own (record {
        within = omega arith;
        is = ap (λ (p : CursorParts). record p { given = l.shown.given - l.shown.skip; skip = 0 }) c ∙ sym b.is;
      });
      count = refl;
      agrees = h.agrees;
    }

pub skip_in_given : (l : Listed) (a : Source) → StandsIn l a l.shown.given → l.shown.skip ≤ l.shown.given
skip_in_given l a h = let own = is_following h.cursor in
    (cursor_back a l.shown.skip l.shown.given own.within (ap (λ (p : CursorParts). p.skip) (sym own.is))).within

pub led_stands : (c : CursorParts) (p : Parts) → (h : LeadsInto c p) → StandsIn (record { source = p; shown = c }) h.0 c.given
led_stands c p h = record { cursor = h.1.0; count = refl; agrees = h.1.1 }

point_row : (c : CursorParts) (line : List ℕ) → (resumed c line).now.place.row ≡ c.row
unfolding resumed
point_row c line = refl

point_column : (c : CursorParts) (line : List ℕ) → (resumed c line).now.place.column ≡ length line
unfolding resumed
point_column c line = refl

point_depth : (c : CursorParts) (line : List ℕ) → (resumed c line).depth ≡ c.depth
unfolding resumed
point_depth c line = refl

point_width : (c : CursorParts) (line : List ℕ) → (resumed c line).width ≡ 0
unfolding resumed
point_width c line = refl

point_lead : (c : CursorParts) (line : List ℕ) → (resumed c line).lead ≡ lead_after Nothing line
unfolding resumed
point_lead c line = refl

same_above : (levels ls ms : List ℕ) → levels ≡ 0 ∷ ls → levels ≡ 0 ∷ ms → ms ≡ ls
same_above levels ls ms e f = cc

line_within : (t : List ℕ) → length (last_line t) ≤ length t
line_within t = let e = ap length (last_split t) in let s = length-append (lines_before t) (last_line t) in omega arith

-- A lister at the point of a cursor keeps what it has to.
pub keeps_point : (l : Listed) (p : LineState) (front left ls line : List ℕ) (nested : ℕ) → IsUtf8 l.source.text
    → length l.source.text ≤ source_limit → (a : Source) × StandsIn l a l.shown.given → l.shown.levels ≡ 0 ∷ ls → nested ≡ length ls
    → front ≡ take l.shown.offset l.source.text → left ≡ drop l.shown.offset l.source.text → line ≡ last_line (chars front)
    → with_levels p (0 ∷ ls) ≡ resumed l.shown line → Keeps l p left ls nested 0
keeps_point l p front left ls line nested utf8 small stood levels counted front_is left_is line_is state =
    let a : Source = in_characters l.source in
    let c = l.shown in
    let fits = shown_fits l stood.0 c.given utf8 stood.1 in
    let within = fits.within in
    let front_utf8 : IsUtf8 front = subst IsUtf8 (sym front_is) (IsUtf8-take l.source.text c.offset utf8 fits.boundary) in
    let left_utf8 : IsUtf8 left = subst IsUtf8 (sym left_is) (IsUtf8-drop l.source.text c.offset utf8 fits.boundary) in
    let rows = fits.rows in
    let depths = fits.depth in
    let text : chars l.source.text ≡ chars front ++ chars left = ap chars (sym (take-append-drop c.offset l.source.text)
    ∙ ap (λ t. t ++ drop c.offset l.source.text) (sym front_is) ∙ ap (λ t. front ++ t) (sym left_is))
    ∙ chars-append front left front_utf8 in
    let size : length front ≡ c.offset = ap length front_is ∙ length-take-le c.offset l.source.text within in
    let bytes : bytes_in (chars front) ≡ c.offset = sym (length-text front front_utf8) ∙ size in
    let rest : length left ≡ length l.source.text - c.offset = ap length left_is ∙ length-drop c.offset l.source.text in
    let all : take nested ls ≡ ls = ap (λ j. take j ls) counted ∙ take-length ls in
    let none : length ls - nested ≡ 0 = omega arith in
    let offset : p.now.offset ≡ c.offset = ap (λ (s : State). s.now.offset) state ∙ offset_of_resumed c line in
    let row : p.now.place.row ≡ c.row = ap (λ (s : State). s.now.place.row) state ∙ point_row c line in
    let column : p.now.place.column ≡ length line = ap (λ (s : State). s.now.place.column) state ∙ point_column c line in
    let depth : p.depth ≡ c.depth = ap (λ (s : State). s.depth) state ∙ point_depth c line in
    let width : p.width ≡ 0 = ap (λ (s : State). s.width) state ∙ point_width c line in
    let lead_state : p.lead ≡ lead_after Nothing line = ap (λ (s : State). s.lead) state ∙ point_lead c line in
    let short : length line ≤ c.offset = let x = ap length line_is in let y = line_within (chars front) in let z =
    length-le-encodes (chars front) in omega arith in
    let now : State = with_levels p (0 ∷ take nested ls) in
    let i : IsIn a.text (with_levels p (0 ∷ ls)) (chars left) = record {
      before = chars front;
      whole = text;
      offset = offset ∙ sym bytes;
      column = column ∙ ap length line_is;
      lead = lead_state ∙ ap (lead_after Nothing) line_is;
    } in
    let here : with_levels p (0 ∷ ls) ≡ now = ap (λ ns. with_levels p (0 ∷ ns)) (sym all) in
    let begun : resumed c (standing_by a c).line ≡ now = ap (resumed c) (line_in a c (with_levels p (0 ∷ ls)) (chars left) (sym offset) i
    ∙ sym line_is) ∙ sym state ∙ here in
    let g = fits.grounded in
    record {
      utf8 = utf8;
      small = small;
      stood = stood;
      stands = record {
        utf8 = left_utf8;
        room = record {
          row = omega arith;
          column = omega arith;
          offset = omega arith;
          depth =
              omega arith;
          width = omega arith;
        };
      };
      ascending = subst (IsAscending 0) (same_above c.levels ls g.above levels g.is) g.ascending;
      within = omega arith;
      placed = subst (λ (s : State). IsIn a.text s (chars left)) here i;
      came = subst (λ (s : State). Walks now (chars left) (length ls - nested) s (standing_by a c).left) (sym begun)
          (subst (λ (es : List ℕ). Walks now (chars left) (length ls - nested) now es)
          (sym (left_in a c (with_levels p (0 ∷ ls)) (chars left) (sym offset) i))
          (subst (λ (k : ℕ). Walks now (chars left) k now (chars left)) (sym none) stays));
      stop = λ h. absurd (omega arith);
    }

-- The offset of a cursor's point is one where a character begins, or the text ends.
pub point_boundary : (c : CursorParts) (p : Parts) (text : List ℕ) (offset : ℕ) → LeadsInto c p → text ≡ p.text → IsUtf8 text
    → offset ≡ c.offset → IsCharBoundary text offset
point_boundary c p text offset h t u o =
    rw (t, o) (shown_fits (record { source = p; shown = c }) h.0 c.given (subst IsUtf8 t u) (led_stands c p h)).boundary

abbrev pub Tells : CursorPoint → CursorParts → Type 0
Tells point c = (k n : ℕ) (ms : List ℕ) → shown_by k point ms n ≡ record c { given = k; levels = 0 ∷ ms; skip = n }

-- The parts of a cursor at its point.
pub point_parts : (c : CursorParts) (point : CursorPoint) (given skip nested : ℕ) (ls : List ℕ) → Tells point c → c.levels ≡ 0 ∷ ls
    → given ≡ c.given → skip ≡ c.skip → nested ≡ length ls → shown_by (given - skip) point ls ((length ls - nested) + 0) ≡ record c
    { given = c.given - c.skip; skip = 0 }
point_parts c point given skip nested ls tells levels g s n =
    let none : (length ls - nested) + 0 ≡ 0 = omega arith in
    tells (given - skip) ((length ls - nested) + 0) ls
    ∙ ap (λ ms. record c { given = given - skip; levels = ms; skip = (length ls - nested) + 0 }) (sym levels)
    ∙ ap (λ k. record c { given = given - skip; skip = k }) none
    ∙ ap (λ k. record c { given = k - skip; skip = 0 }) g
    ∙ ap (λ k. record c { given = c.given - k; skip = 0 }) s

pub skip_led : (c : CursorParts) (p : Parts) → LeadsInto c p → c.skip ≤ c.given
skip_led c p h = skip_in_given (record { source = p; shown = c }) h.0 (led_stands c p h)

pub point_led : (c : CursorParts) (p : Parts) (a : Source) → StandsIn (record { source = p; shown = c }) a c.given
    → StandsIn (record { source = p; shown = record c { given = c.given - c.skip; skip = 0 } }) a (c.given - c.skip)
point_led c p a h = stands_back (record { source = p; shown = c }) a h

pub keeps_led : (c : CursorParts) (p : Parts) (point : CursorPoint) (given skip nested : ℕ) (ls : List ℕ) (now : LineState)
    (text front left line : List ℕ) → (h : LeadsInto c p) → Tells point c → c.levels ≡ 0 ∷ ls → given ≡ c.given → skip ≡ c.skip
    → nested ≡ length ls → text ≡ p.text → IsUtf8 text → length text ≤ source_limit → front ≡ take point.offset text
    → left ≡ drop point.offset text → line ≡ last_line (chars front)
    → ((k n : ℕ) (ms : List ℕ) → with_levels now (0 ∷ ms) ≡ resumed (shown_by k point ms n) line)
    → Keeps (record { source = p; shown = shown_by (given - skip) point ls ((length ls - nested) + 0) }) now left ls nested 0
keeps_led c p point given skip nested ls now text front left line h tells levels g s n t utf8 small front_is left_is line_is state =
    let shown : CursorParts = shown_by (given - skip) point ls ((length ls - nested) + 0) in
    let parts : shown ≡ record c { given = c.given - c.skip; skip = 0 } = point_parts c point given skip nested ls tells levels g s n in
    let count : c.given - c.skip ≡ given - skip = omega arith in
    let stands : StandsIn (record { source = p; shown = shown }) h.0 (given - skip) =
    subst (λ (k : ℕ). StandsIn (record { source = p; shown = shown }) h.0 k) count
    (subst (λ (d : CursorParts). StandsIn (record { source = p; shown = d }) h.0 (c.given - c.skip)) (sym parts)
    (point_led c p h.0 (led_stands c p h))) in
    keeps_point (record { source = p; shown = shown }) now front left ls line nested (subst IsUtf8 t utf8)
    (subst (λ (xs : List ℕ). length xs ≤ source_limit) t small) (h.0, stands) refl n (front_is ∙ ap (take point.offset) t) (left_is
    ∙ ap (drop point.offset) t) line_is (state (given - skip) ((length ls - nested) + 0) ls)

-- Past the entries without text, a lister stands where the cursor does.
pub begins_back : (c : CursorParts) (p : Parts) (l : Listed) (a : Source)
    → l ≡ record { source = p; shown = record c { given = c.given - c.skip; skip = 0 } } → IsCursorOf c a
    → Agrees a (in_characters p) c.offset → StandsIn l a ((c.given - c.skip) + 0)
begins_back c p l a e is agrees =
    let z : c.given - c.skip ≡ (c.given - c.skip) + 0 = omega arith in
    subst (λ (n : ℕ). StandsIn l a n) z (subst (λ (m : Listed). StandsIn m a (c.given - c.skip)) (sym e)
    (point_led c p a (record { cursor = is; count = refl; agrees = agrees })))

pub goes_back_on : (c : CursorParts) (p : Parts) (new : Listed) (a : Source) (step : Step) (i : ℕ) → i < c.skip → IsCursorOf c a
    → Agrees a (in_characters p) c.offset → (slice_get (listing a) ((c.given - c.skip) + i) ≡ Some step) × StandsIn new a
    (((c.given - c.skip) + i) + entries_in step) → StandsIn new a ((c.given - c.skip) + (i + 1))
goes_back_on c p new a step i less is agrees moved =
    let w = (is_following is).within in
    let s = skip_in_given (record { source = p; shown = c }) a (record { cursor = is; count = refl; agrees = agrees }) in
    let due = entry_due a ((c.given - c.skip) + i) step (omega arith) moved.0 in
    let one : entries_in step ≡ 1 = ap entries_in due.1 in
    let n : ((c.given - c.skip) + i) + entries_in step ≡ (c.given - c.skip) + (i + 1) = omega arith in
    subst (λ (k : ℕ). StandsIn new a k) n moved.1

pub arrives : (c : CursorParts) (p : Parts) (l : Listed) (i : ℕ) → (h : LeadsInto c p) → StandsIn l h.0 ((c.given - c.skip) + i)
    → i ≡ c.skip → l.source ≡ p → l ≡ record { source = p; shown = c }
arrives c p l i h stands all source =
    let s = skip_led c p h in
    let n : (c.given - c.skip) + i ≡ c.given = omega arith in
    let shown : l.shown ≡ c = (is_following stands.cursor).is ∙ ap (cursor h.0) (stands.count ∙ n) ∙ sym (is_following h.1.0).is in
    ap (λ q. record l { source = q }) source ∙ ap (λ d. record { source = p; shown = d }) shown
