-- The token that begins a line, from where a lister has looked to.
--
-- Carries: Lister::begin_line. On: Going, Passing, Moving.
use Rattle.std.proofs.Common.{◌≡◌, ℕ, ◌+◌, ◌-◌, ◌<◌, Bool, true, false, not, ◌&&◌, ◌||◌, ◌==◌, List, ◌++◌, length, take, refl, sym, ap}
use Rattle.std.proofs.Common.{◌∙◌, subst, arith}
use Rattle.std.specs.Prelude.{slice_range}
use Rattle.std.specs.Str.{chars, encode_utf8_all, all_scalars}
use Rattle.std.proofs.Math.Seq.{take-length}
use Rattle.std.proofs.lemmas.Str.{scalars-chars}
use Rattle.pysource.specs.Parts.{Parts}
use Rattle.pysource.specs.declared.places.Place.{Place}
use Rattle.pylex_lexeme.specs.declared.lexeme.Class.{Class}
use Rattle.pylex_lexeme.specs.declared.lexeme.Class.TheVariants.{Name, Number, String, Operator, Comment, Blanks, LineEnd, Join}
use Rattle.pylex_lexeme.specs.Chars.{bytes_in}
use Rattle.pylex_lexeme.specs.Cuts.{begins_significant}
use Rattle.pylex_lexeme.specs.Lexemes.{is_significant_class, is_line_end_class, is_closer_class}
use Rattle.pylex_listing.specs.declared.entries.Entry.{Entry}
use Rattle.pylex_listing.specs.declared.entries.Step.TheVariants as steps
use Rattle.pylex.specs.declared.line_state.LineState.{LineState}
use Rattle.pylex.specs.declared.machine.Machine.{Machine}
use Rattle.pylex_listing.specs.declared.point.Point.{Point}
use Rattle.pylex.specs.declared.spots.Spot.{Spot}
use Rattle.pylex.specs.Cursors.{CursorParts}
use Rattle.pylex_listing.specs.Lines.{count_if}
use Rattle.pylex.specs.LineState.{HasRoom, EntryAhead}
use Rattle.pylex.specs.Listers.{Listed, NextStep, shown_by}
use Rattle.pylex.specs.LineStarts.{begins_line, BeginsLine}
use Rattle.pylex.specs.Spots.{spot_cursor, is_silent}
use Rattle.pylex_listing.specs.EntryKinds.{kind_of}
use Rattle.pylex.specs.Inner.MachineSteps.{shown_from, Holds}
use Rattle.pylex.specs.Inner.LineStarting.{LineStart}
use Rattle.pylex.specs.Inner.Told.{Passed}
use Rattle.pylex.proofs.Callers.{same_cursor}
use Rattle.pylex.proofs.MachineLaws.Told.{passed_room}
use Rattle.pylex.proofs.Listing.Exactness.{own_text}
use Rattle.pylex.proofs.Listers.Finding.{stays_there, settles_same, entry_found, some_bytes, stands_after}
use Rattle.pylex.proofs.Listers.Moving.{leads_moves, goes_entry, given_fits, Advances}
use Rattle.pylex.proofs.SpotSteps.Passing.{line_after, line_passed, after_now, after_depth, after_logical, after_row}
use Rattle.pylex.proofs.SpotSteps.Going.{anew_line, point_of, kind_at, entry_at, room_anew, entry_is}

-- what is known of such a token
record Token (k : Class) : Type 0 where
  gives : is_silent k ≡ false
  opens : is_closer_class k ≡ false
  ends : (d b : Bool) → (not (is_line_end_class k && d) && (is_significant_class k || b)) ≡ true
  kind : (p : LineState) → kind_at p k ≡ kind_of k true

token_is : (k : Class) → begins_line k ≡ true → Token k
token_is Name h = record { gives = refl; opens = refl; ends = λ d b. refl; kind = λ p. refl }
token_is Number h = record { gives = refl; opens = refl; ends = λ d b. refl; kind = λ p. refl }
token_is String h = record { gives = refl; opens = refl; ends = λ d b. refl; kind = λ p. refl }
token_is (Operator o) h = record { gives = refl; opens = not_is _ h; ends = λ d b. refl; kind = λ p. refl }
  where
    not_is : (b : Bool) → not b ≡ true → b ≡ false
    not_is true e = cc
    not_is false e = refl
token_is Comment h = cc
token_is Blanks h = cc
token_is LineEnd h = cc
token_is Join h = cc

module _ (source : Parts) (m : Machine) (left : List ℕ) (keeps : Holds source m left) (some : 0 < m.given) (k : Class) (front : List ℕ)
    (at : Place) (s : Spot) (x : LineStart m left k front at s) where
  abbrev l : Listed
  l = record { source = source; shown = shown_from m }

  abbrev ls : List ℕ
  ls = m.levels.items

  abbrev next : LineState
  next = line_after m.now k (chars front)

  abbrev own : Entry
  own = entry_at m.now k (chars front)

  abbrev new : Listed
  new = record { source = source; shown = shown_by (m.given + 1) (point_of next) ls ((length ls - m.nested) + m.tail) }

  token : Token k
  token = token_is k x.lexeme.token

  passed : Passed m.now k (chars front) next
  passed = line_passed m.now k (chars front) x.margin

  room : (n : ℕ) → HasRoom m.now (length front + n) → HasRoom next n
  room = passed_room m.now k front next x.margin passed x.lexeme.cuts.counted (some_bytes left front x.lexeme.back k x.lexeme.cuts)

  ahead : EntryAhead (take m.nested ls) m.now (chars left) own next (chars x.lexeme.back)
  ahead =
      let matched : (is_closer_class k && (m.now.depth == 0)) ≡ false = ap (λ b. b && (m.now.depth == 0)) token.opens in
      entry_found (take m.nested ls) m.now (chars left) m.now m.now next left front x.lexeme.back k own
      (stays_there (take m.nested ls) m.now (chars left))
      (settles_same (take m.nested ls) m.now (chars left) (ap (λ b. b && begins_significant (chars left)) x.margin))
      x.lexeme.cuts (entry_is m.now k (chars front) token.gives matched) passed

  advances : Advances l (steps.Entry own) new (anew_line next) x.lexeme.back ls m.nested m.tail
  advances =
      let all : ls ≡ take m.nested ls = sym (ap (λ n. take n ls) x.nested ∙ take-length ls) in
      goes_entry l m.now left ls m.nested m.tail keeps refl some x.tail own next (anew_line next) x.lexeme.back ls (point_of next) ahead
      (stands_after m.now next left front x.lexeme.back k x.lexeme.cuts keeps.stands room) (λ ns. refl) (room_anew next) (λ j ms. refl) all

  offset : next.now.offset ≡ s.offset
  offset =
      let there = ap (λ (q : Point). q.offset) (after_now m.now k (chars front)) in
      omega (arith, there, x.lexeme.offset, x.lexeme.cuts.counted)

  shown : new.shown ≡ spot_cursor s l.shown.levels
  shown =
      let row = after_row m.now left front x.lexeme.back k x.lexeme.cuts in
      let depth = after_depth m.now k (chars front) in
      let none : count_if (is_closer_class k) ≡ 0 = ap count_if token.opens in
      let no_skip : (length ls - m.nested) + m.tail ≡ 0 = omega (arith, x.nested, x.tail) in
      same_cursor new.shown (spot_cursor s l.shown.levels) (sym x.lexeme.given) offset (omega (arith, row, x.lexeme.row))
      (omega (arith, depth, none, x.lexeme.depth))
      (after_logical m.now k (chars front) ∙ token.ends (m.now.depth == 0) m.now.logical ∙ sym x.lexeme.begun) no_skip refl

  text : chars (slice_range (encode_utf8_all (chars source.text)) own.«from» own.to) ≡ chars front
  text =
      let i = keeps.placed in
      let whole : chars source.text ≡ i.before ++ (chars front ++ chars x.lexeme.back) = i.whole
      ∙ ap (λ u. i.before ++ u) x.lexeme.cuts.whole in
      let good : all_scalars (i.before ++ (chars front ++ chars x.lexeme.back)) ≡ true = sym (ap all_scalars whole)
      ∙ scalars-chars source.text keeps.utf8 in
      ap (λ u. chars (slice_range (encode_utf8_all u) own.«from» own.to)) whole
      ∙ own_text i.before (chars front) (chars x.lexeme.back) own.«from» own.to good i.offset
      (ap (λ n. n + bytes_in (chars front)) i.offset)

  pub line_begins : BeginsLine l k front at s
  line_begins = record {
    token = x.lexeme.token;
    entry = own;
    step = subst (λ (c : CursorParts). NextStep l (steps.Entry own) (record { source = source; shown = c })) shown
        (leads_moves l (steps.Entry own) new advances.leads);
    kind = token.kind m.now;
    exact = refl;
    start = sym x.lexeme.place;
    text = text;
    size = sym x.lexeme.offset;
    to = sym (ap (λ (q : Point). q.offset) (after_now m.now k (chars front))) ∙ offset;
    given = x.lexeme.given;
    few =
        let fits = given_fits new (anew_line next) x.lexeme.back ls m.nested m.tail advances.keeps in
        let count = x.lexeme.given in
        omega arith;
    begun = x.lexeme.begun;
  }
