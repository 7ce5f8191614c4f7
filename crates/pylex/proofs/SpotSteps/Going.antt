-- From a spot to the next an entry comes.
--
-- Carries: walk, walk_line of pyparse_tokens. On: Passing, Moving, Returning, CursorBounds.
use Rattle.std.proofs.Common.{◌≡◌, ℕ, ◌+◌, ◌-◌, ◌*◌, ◌<◌, ◌≤◌, Bool, true, false, not, ◌&&◌, ◌||◌, ◌==◌, List, [], ◌∷◌, ◌++◌, length, take}
use Rattle.std.proofs.Common.{drop, refl, sym, ap, ◌∙◌, subst, arith, length-drop, length-append, drop-drop}
use Rattle.std.proofs.Common.{slice_range}
use Rattle.std.specs.Prelude.{if◌then◌else◌}
use Rattle.std.specs.Str.{chars, IsUtf8, IsCharBoundary, encode_utf8_all, all_scalars}
use Rattle.std.proofs.Math.Seq.{take-length, drop-append_seam}
use Rattle.std.proofs.lemmas.Str.{scalars-chars}
use Rattle.pysource.specs.Limits.{source_limit}
use Rattle.pysource.specs.Parts.{Parts}
use Rattle.pysource.specs.declared.places.Place.{Place}
use Rattle.pylex_lexeme.specs.declared.lexeme.Class.{Class}
use Rattle.pylex_lexeme.specs.declared.lexeme.Class.TheVariants.{Name, Number, String, Operator, Comment, Blanks, LineEnd, Join}
use Rattle.pylex_lexeme.specs.Chars.{bytes_in}
use Rattle.pylex_lexeme.specs.Cuts.{begins_significant}
use Rattle.pylex_lexeme.specs.Lexemes.{is_significant_class, is_line_end_class, is_opener_class, is_closer_class}
use Rattle.pylex_lexeme.proofs.Callers.Fronts.{length-text}
use Rattle.pylex_listing.specs.declared.kind.Kind.{Kind}
use Rattle.pylex_listing.specs.declared.kind.Kind.TheVariants as kinds
use Rattle.pylex_listing.specs.declared.entries.Entry.{Entry}
use Rattle.pylex_listing.specs.declared.entries.Step.TheVariants as steps
use Rattle.pylex_listing.specs.declared.point.Point.{Point}
use Rattle.pylex.specs.declared.cursor.CursorPoint.{CursorPoint}
use Rattle.pylex.specs.declared.line_state.LineState.{LineState}
use Rattle.pylex.specs.declared.spots.Spot.{Spot}
use Rattle.pylex.specs.Cursors.{CursorParts}
use Rattle.pylex_listing.specs.Lines.{count_if}
use Rattle.pylex_listing.specs.Listing.{in_characters, last_line, further}
use Rattle.pylex_listing.specs.Steps.{most_entries}
use Rattle.pylex_listing.specs.Machine.{place_past, entry_by, line_end_kind_of}
use Rattle.pylex.specs.LineState.{with_levels, HasRoom, EntryAhead}
use Rattle.pylex.specs.Standing.{resumed}
use Rattle.pylex.specs.Listers.{Listed, StandsIn, LeadsInto, NextStep, Keeps, shown_by}
use Rattle.pylex.specs.Inner.Told.{Passed}
use Rattle.pylex.specs.Spots.{spot_cursor, at_spot, is_silent, Steps, SpotHasRoom}
use Rattle.pylex_listing.specs.EntryKinds.{kind_of, operator_of}
use Rattle.pylex.proofs.Callers.{same_cursor}
use Rattle.pylex_listing.proofs.Callers.{bytes_in-append}
use Rattle.pylex.proofs.MachineLaws.Told.{passed_room}
use Rattle.pylex.proofs.Listing.Exactness.{own_text}
use Rattle.pylex.proofs.Listers.Finding.{settles_same, entry_found, some_bytes, stands_after, after_cut}
use Rattle.pylex.proofs.Listers.Moving.{leads_moves, goes_entry, given_fits, stop_in, Advances}
use Rattle.pylex.proofs.Resumption.CursorBounds.{shown_fits}
use Rattle.pylex.proofs.Resumption.Returning.{keeps_point}
use Rattle.pylex.proofs.SpotSteps.Passing.{line_after, line_passed, after_now, after_depth, after_logical, after_row, Looks, looks_on}

-- The state at a cursor's point, its levels aside.
abbrev line_at : CursorParts → List ℕ → LineState
line_at c line =
    let s = resumed c line in
    record {
      now = s.now;
      line = s.line;
      depth = s.depth;
      width = s.width;
      margin = s.margin;
      logical = s.logical;
      joined =
          s.joined;
      lead = s.lead;
    }

line_at_is : (c : CursorParts) (line levels : List ℕ) → c.levels ≡ levels → with_levels (line_at c line) levels ≡ resumed c line
unfolding resumed
line_at_is c line levels e = ap (with_levels (line_at c line)) (sym e)

at_margin : (c : CursorParts) (line : List ℕ) → c.begun ≡ true → (line_at c line).margin ≡ false
unfolding resumed
at_margin c line b = rw b refl

at_logical : (c : CursorParts) (line : List ℕ) → (line_at c line).logical ≡ c.begun
unfolding resumed
at_logical c line = refl

at_depth : (c : CursorParts) (line : List ℕ) → (line_at c line).depth ≡ c.depth
unfolding resumed
at_depth c line = refl

at_row : (c : CursorParts) (line : List ℕ) → (line_at c line).now.place.row ≡ c.row
unfolding resumed
at_row c line = refl

-- What a lister at a spot within a logical line has to keep.
pub record Stood (p : Parts) (s : Spot) (levels left : List ℕ) : Type 0 where
  pub above : List ℕ
  pub is : levels ≡ 0 ∷ above
  pub now : LineState
  pub keeps : Keeps (at_spot p s levels) now left above (length above) 0
  pub margin : now.margin ≡ false
  pub logical : now.logical ≡ true
  pub depth : now.depth ≡ s.depth
  pub row : now.now.place.row ≡ s.row
  pub left_is : left ≡ drop s.offset p.text
  pub size : s.offset + length left ≡ length p.text

stood : (p : Parts) (s : Spot) (levels left : List ℕ) → IsUtf8 p.text → length p.text ≤ source_limit
    → StandsIn (at_spot p s levels) (in_characters p) s.given → s.begun ≡ true → left ≡ drop s.offset p.text → Stood p s levels left
stood p s levels left utf8 small stands begun is_left =
    let c : CursorParts = spot_cursor s levels in
    let l : Listed = at_spot p s levels in
    let fits = shown_fits l (in_characters p) s.given utf8 stands in
    let ls = fits.grounded.above in
    let line = last_line (chars (take s.offset p.text)) in
    let within : s.offset ≤ length p.text = fits.within in
    let rest : length left ≡ length p.text - s.offset = ap length is_left ∙ length-drop s.offset p.text in
    record {
      above = ls;
      is = fits.grounded.is;
      now = line_at c line;
      keeps = keeps_point l (line_at c line) (take s.offset p.text) left ls line (length ls) utf8 small (in_characters p, stands)
          fits.grounded.is refl refl is_left refl (line_at_is c line (0 ∷ ls) fits.grounded.is);
      margin = at_margin c line begun;
      logical = at_logical c line ∙ begun;
      depth = at_depth c line;
      row = at_row c line;
      left_is = is_left;
      size = omega arith;
    }

-- The state directly after an entry, and what its cursor says.
abbrev pub anew_line : LineState → LineState
anew_line q = record {
  now = q.now;
  line = q.now;
  depth = q.depth;
  width = 0;
  margin = not q.logical && (q.now.place.column == 0);
  logical =
      q.logical;
  joined = false;
  lead = q.lead;
}

abbrev pub point_of : LineState → CursorPoint
point_of q = record { offset = q.now.offset; row = q.now.place.row; depth = q.depth; begun = q.logical }

pub room_anew : (q : LineState) (n : ℕ) → HasRoom q n → HasRoom (anew_line q) n
room_anew q n h = record { row = h.row; column = h.column; offset = h.offset; depth = h.depth; width = omega (arith, h.width) }

-- The entry of a lexeme.
abbrev pub kind_at : LineState → Class → Kind
kind_at p k = elim k [
  | Name ↦ kinds.Name
  | Number ↦ kinds.Number
  | String ↦ kinds.String
  | Operator o ↦ kinds.Op
  | Comment ↦ kinds.Comment
  | _ ↦ line_end_kind_of (with_levels p [])
]

abbrev pub end_at : LineState → Class → List ℕ → Place
end_at p k t = elim k [ LineEnd ↦ further p.now.place (length t) | _ ↦ place_past p.now.place t ]

abbrev pub entry_at : LineState → Class → List ℕ → Entry
entry_at p k t = record {
  kind = kind_at p k;
  exact = operator_of k;
  start = p.now.place;
  «end» = end_at p k t;
  «from» = p.now.offset;
  to =
      p.now.offset + bytes_in t;
}

pub entry_is : (p : LineState) (k : Class) (t : List ℕ) → is_silent k ≡ false
    → (is_closer_class k && (p.depth == 0)) ≡ false → (levels : List ℕ)
    → entry_by (with_levels p levels) (record { «class» = k; text = t }) ≡ steps.Entry (entry_at p k t) ∷ []
unfolding entry_by
entry_is p Name t g m levels = refl
entry_is p Number t g m levels = refl
entry_is p String t g m levels = refl
entry_is p (Operator o) t g m levels = rw m refl
entry_is p Comment t g m levels = refl
entry_is p Blanks t g m levels = cc
entry_is p LineEnd t g m levels = refl
entry_is p Join t g m levels = cc

-- its type, by whether the logical line goes on after it
kind_is : (k : Class) (l d : Bool) → l ≡ true → is_silent k ≡ false → (p : LineState) → p.logical ≡ l → (p.depth == 0) ≡ d
    → kind_at p k ≡ kind_of k (not (is_line_end_class k && d))
kind_is Name l d e g p a b = refl
kind_is Number l d e g p a b = refl
kind_is String l d e g p a b = refl
kind_is (Operator o) l d e g p a b = refl
kind_is Comment l d e g p a b = refl
kind_is Blanks l d e g p a b = cc
kind_is Join l d e g p a b = cc
kind_is LineEnd l d e g p a b = ap (λ (x : Bool). if x && (p.depth == 0) then kinds.Newline else kinds.Nl) (a ∙ e)
    ∙ ap (λ (x : Bool). if x then kinds.Newline else kinds.Nl) b ∙ by d
  where
    by : (d : Bool) → (if d then kinds.Newline else kinds.Nl) ≡ (if not d then kinds.Nl else kinds.Newline)
    by true = refl
    by false = refl

-- whether the logical line goes on
open_is : (k : Class) (d l : Bool) → l ≡ true → (not (is_line_end_class k && d) && (is_significant_class k || l)) ≡ not
    (is_line_end_class k && d)
open_is k d l e = ap (λ (x : Bool). not (is_line_end_class k && d) && (is_significant_class k || x)) e
    ∙ by (not (is_line_end_class k && d)) (is_significant_class k)
  where
    by : (a b : Bool) → (a && (b || true)) ≡ a
    by true true = refl
    by true false = refl
    by false b = refl

-- An entry comes next, and the lister stands at another spot after it.
pub record Goes (p : Parts) (s : Spot) (levels : List ℕ) (k : Class) (front back : List ℕ) (t : Spot) : Type 0 where
  pub entry : Entry
  pub step : NextStep (at_spot p s levels) (steps.Entry entry) (at_spot p t levels)
  pub few : t.given ≤ most_entries
  pub kind : entry.kind ≡ kind_of k t.begun
  pub exact : entry.exact ≡ operator_of k
  pub text : chars (slice_range (encode_utf8_all (chars p.text)) entry.«from» entry.to) ≡ chars front
  pub to : entry.to ≡ t.offset
  pub left : back ≡ drop t.offset p.text

-- what is left after it stands at the end of what was left
back_is : (text left back : List ℕ) (o n : ℕ) → left ≡ drop o text → (f : List ℕ) → left ≡ f ++ back
    → n + length back ≡ o + length left → back ≡ drop n text
back_is text left back o n is_left f parts sizes =
    let size : length left ≡ length f + length back = ap length parts ∙ length-append f back in
    let there : n ≡ o + length f = omega arith in
    sym (ap (λ m. drop m text) there ∙ sym (drop-drop (length f) o text) ∙ ap (drop (length f)) (sym is_left ∙ parts)
    ∙ drop-append_seam f back)

module _ (p : Parts) (s t : Spot) (levels left : List ℕ) (k : Class) (front back : List ℕ) (utf8 : IsUtf8 p.text) (some : 0 < s.given)
    (h : Stood p s levels left) (x : Steps s left k front back t) where
  abbrev looks : Looks h.now left x.ahead.rest x.ahead.joins
  looks = looks_on h.now left h.keeps.stands h.margin h.logical x.ahead.rest x.ahead.joins x.ahead.silent

  abbrev now : LineState
  now = looks.now

  abbrev next : LineState
  next = line_after now k (chars front)

  abbrev own : Entry
  own = entry_at now k (chars front)

  abbrev ls : List ℕ
  ls = h.above

  abbrev new : Listed
  new = record { source = p; shown = shown_by (s.given + 1) (point_of next) ls ((length ls - length ls) + 0) }

  passed : Passed now k (chars front) next
  passed = line_passed now k (chars front) looks.margin

  room : (n : ℕ) → HasRoom now (length front + n) → HasRoom next n
  room = passed_room now k front next looks.margin passed x.ahead.cuts.counted (some_bytes x.ahead.rest front back k x.ahead.cuts)

  skips : (at_spot p s levels).shown.skip ≡ (length ls - length ls) + 0
  skips = omega arith

  ahead : EntryAhead (take (length ls) ls) h.now (chars left) own next (chars back)
  ahead =
      let matched : (is_closer_class k && (now.depth == 0)) ≡ false = ap (λ d. is_closer_class k && (d == 0)) (looks.depth
      ∙ h.depth) ∙ x.matched in
      entry_found (take (length ls) ls) h.now (chars left) now now next x.ahead.rest front back k own (looks.comes (take (length ls) ls))
      (settles_same (take (length ls) ls) now (chars x.ahead.rest) (ap (λ b. b && begins_significant (chars x.ahead.rest)) looks.margin))
      x.ahead.cuts (entry_is now k (chars front) x.ahead.gives matched) passed

  advances : Advances (at_spot p s levels) (steps.Entry own) new (anew_line next) back ls (length ls) 0
  advances =
      goes_entry (at_spot p s levels) h.now left ls (length ls) 0 h.keeps skips some refl own next (anew_line next) back
      ls (point_of next) ahead
      (stands_after now next x.ahead.rest front back k x.ahead.cuts looks.stands room)
      (λ ns. refl) (room_anew next) (λ j ms. refl) (sym (take-length ls))

  offset : next.now.offset ≡ t.offset
  offset =
      let i = advances.keeps.placed in
      let whole : length p.text ≡ bytes_in i.before + bytes_in (chars back) = length-text p.text utf8 ∙ ap bytes_in i.whole
      ∙ bytes_in-append i.before (chars back) in
      let rest : length back ≡ bytes_in (chars back) = length-text back x.ahead.cuts.back_utf8 in
      let at : next.now.offset ≡ bytes_in i.before = i.offset in
      let sizes = x.offset in
      let all = h.size in
      omega arith

  shown : new.shown ≡ spot_cursor t levels
  shown =
      let row = after_row now x.ahead.rest front back k x.ahead.cuts in
      let depth = after_depth now k (chars front) in
      same_cursor new.shown (spot_cursor t levels)
      (sym x.given) offset
      (omega (arith, row, looks.row, h.row, x.ahead.row))
      (depth ∙ ap (λ d. d + count_if (is_opener_class k) - count_if (is_closer_class k)) (looks.depth ∙ h.depth) ∙ sym x.depth)
      (after_logical now k (chars front) ∙ open_is k (now.depth == 0) now.logical looks.logical
      ∙ ap (λ d. not (is_line_end_class k && (d == 0))) (looks.depth ∙ h.depth) ∙ sym x.begun)
      (sym skips) (sym h.is)

  text : chars (slice_range (encode_utf8_all (chars p.text)) own.«from» own.to) ≡ chars front
  text =
      let i = stop_in (at_spot p s levels) h.now left ls (length ls) 0 h.keeps skips some now (chars x.ahead.rest)
      (looks.comes (take (length ls) ls)) in
      let whole : chars p.text ≡ i.before ++ (chars front ++ chars back) = i.whole ∙ ap (λ u. i.before ++ u) x.ahead.cuts.whole in
      let good : all_scalars (i.before ++ (chars front ++ chars back)) ≡ true = sym (ap all_scalars whole) ∙ scalars-chars p.text utf8 in
      ap (λ u. chars (slice_range (encode_utf8_all u) own.«from» own.to)) whole
      ∙ own_text i.before (chars front) (chars back) own.«from» own.to good i.offset (ap (λ n. n + bytes_in (chars front)) i.offset)

  goes_by : Goes p s levels k front back t
  goes_by = record {
    entry = own;
    step = subst (λ (c : CursorParts). NextStep (at_spot p s levels) (steps.Entry own) (record { source = p; shown = c })) shown
        (leads_moves (at_spot p s levels) (steps.Entry own) new advances.leads);
    few =
        let fits = given_fits new (anew_line next) back ls (length ls) 0 advances.keeps in
        let count = x.given in
        omega arith;
    kind = kind_is k now.logical (s.depth == 0) looks.logical x.ahead.gives now refl (ap (λ d. d == 0) (looks.depth ∙ h.depth))
        ∙ ap (kind_of k) (sym x.begun);
    exact = refl;
    text = text;
    to = sym (ap (λ (q : Point). q.offset) (after_now now k (chars front))) ∙ offset;
    left =
        let b = after_cut left x.ahead.rest front back k looks.stands.utf8 x.ahead.cuts looks.following in
        back_is p.text left back s.offset t.offset h.left_is b.0 b.1 x.offset;
  }

-- From a spot within a logical line to the next.
pub step_goes : (p : Parts) (s t : Spot) (levels left : List ℕ) (k : Class) (front back : List ℕ) → IsUtf8 p.text
    → length p.text ≤ source_limit → StandsIn (at_spot p s levels) (in_characters p) s.given → 0 < s.given → s.begun ≡ true
    → left ≡ drop s.offset p.text → Steps s left k front back t → Goes p s levels k front back t
step_goes p s t levels left k front back utf8 small stands some begun is_left x =
    goes_by p s t levels left k front back utf8 some (stood p s levels left utf8 small stands begun is_left) x

-- Its counts are small.
pub spot_room : (p : Parts) (s : Spot) (levels left : List ℕ) → IsUtf8 p.text → length p.text ≤ source_limit
    → StandsIn (at_spot p s levels) (in_characters p) s.given → s.begun ≡ true → left ≡ drop s.offset p.text → SpotHasRoom s (length left)
spot_room p s levels left utf8 small stands begun is_left =
    let h = stood p s levels left utf8 small stands begun is_left in
    let given : s.given ≤ 3 * source_limit + 4 = given_fits (at_spot p s levels) h.now left h.above (length h.above) 0 h.keeps in
    let fits = shown_fits (at_spot p s levels) (in_characters p) s.given utf8 stands in
    let rows : s.row ≤ 1 + s.offset = fits.rows in
    let depth : s.depth ≤ s.offset = fits.depth in
    let size = h.size in
    record { given = omega arith; offset = omega arith; row = omega arith; depth = omega arith }

pub spot_boundary : (p : Parts) (s : Spot) (levels : List ℕ) → IsUtf8 p.text → StandsIn (at_spot p s levels) (in_characters p) s.given
    → IsCharBoundary p.text s.offset
spot_boundary p s levels utf8 stands = (shown_fits (at_spot p s levels) (in_characters p) s.given utf8 stands).boundary

-- It leads into the source.
pub spot_leads : (p : Parts) (s : Spot) (levels : List ℕ) → StandsIn (at_spot p s levels) (in_characters p) s.given
    → LeadsInto (spot_cursor s levels) p
spot_leads p s levels stands = (in_characters p, (stands.cursor, stands.agrees))
