-- The state after a lexeme, part by part.
--
-- Carries: LineState::after, pass_blanks, pass_join, pass_line_end, pass_operator, pass_text.
use Rattle.std.proofs.Common.{◌≡◌, ℕ, ◌+◌, ◌-◌, ◌*◌, ◌<◌, ◌≤◌, Bool, true, false, not, ◌&&◌, ◌||◌, ◌==◌, List, [], ◌∷◌, length, refl, ap}
use Rattle.std.proofs.Common.{◌∙◌, arith, cond, ⊎_elim}
use Rattle.std.proofs.lemmas.Bool.{cases_Bool}
use Rattle.pylex_lexeme.specs.declared.lexeme.Class.{Class}
use Rattle.pylex_lexeme.specs.declared.lexeme.Class.TheVariants.{Name, Number, String, Operator, Comment, Blanks, LineEnd, Join}
use Rattle.pysource.specs.declared.places.Place.{Place}
use Rattle.pylex_listing.specs.declared.point.Point.{Point}
use Rattle.pylex.specs.declared.line_state.LineState.{LineState}
use Rattle.pylex_lexeme.specs.Lexemes.{Lexeme}
use Rattle.pylex_listing.specs.Lines.{opens, closes, is_significant, is_of_blanks, is_of_line_end, count_if}
use Rattle.pylex_listing.specs.Indentation.{width_from}
use Rattle.pylex_lexeme.specs.Chars.{bytes_in}
use Rattle.pylex_listing.specs.Machine.{place_past, lead_after, after, past, still, is_of_join}
use Rattle.pylex.specs.LineState.{with_levels, HasRoom}
use Rattle.pylex.proofs.Listers.Ranges.{advance_column}

abbrev pub ends : LineState → Lexeme → Bool
ends p x = is_of_line_end x && (p.depth == 0)

-- the parts of q are those of p after a lexeme
pub record IsAfter (p : LineState) (x : Lexeme) (q : LineState) : Type 0 where
  pub now : q.now ≡ past p.now x.text
  pub line : q.line ≡ cond (ends p x) q.now p.line
  pub depth : q.depth ≡ p.depth + count_if (opens x) - count_if (closes x)
  pub margin : q.margin ≡ (ends p x || (is_of_blanks x && p.margin))
  pub width : q.width ≡ still (is_of_blanks x && p.margin) (width_from p.width x.text)
  pub logical : q.logical ≡ (not (ends p x) && (is_significant x || p.logical))
  pub joined : q.joined ≡ is_of_join x
  pub lead : q.lead ≡ lead_after p.lead x.text

-- a line end is no blanks
no_width : (k : Class) (t : List ℕ) (d m : Bool) (n : ℕ) → still (is_of_blanks (record { «class» = k; text = t }) && m) n ≡ cond
    (is_of_line_end (record { «class» = k; text = t }) && d) 0 (still (is_of_blanks (record { «class» = k; text = t }) && m) n)
no_width LineEnd t true m n = refl
no_width LineEnd t false m n = refl
no_width Name t d m n = refl
no_width Number t d m n = refl
no_width String t d m n = refl
no_width (Operator o) t d m n = refl
no_width Comment t d m n = refl
no_width Blanks t d m n = refl
no_width Join t d m n = refl

pub is_after : (p : LineState) (x : Lexeme) (q : LineState) → (p.margin && is_significant x) ≡ false → IsAfter p x q → (levels : List ℕ)
    → with_levels q levels ≡ after (with_levels p levels) x
unfolding after
is_after p x q s h levels =
    let now = h.now in
    let line = h.line in
    let depths = h.depth in
    let margin = h.margin in
    let width = h.width ∙ no_width x.«class» x.text (p.depth == 0) p.margin (width_from p.width x.text) in
    let logical = h.logical in
    let joined = h.joined in
    let lead = h.lead in
    rw (line, now, depths, margin, width, logical, joined, lead, s) refl

advance_row : (r : Place) (cs : List ℕ) → (place_past r cs).row ≤ r.row + length cs
advance_row r [] = omega arith
advance_row r (c ∷ cs) =
    ⊎_elim
    (λ (e : (c == 10) ≡ true). let h = advance_row (record { row = r.row + 1; column = 0 }) cs in rw (e, place_past) (omega arith))
    (λ (e : (c == 10) ≡ false). let h = advance_row (record { row = r.row; column = r.column + 1 }) cs in rw (e, place_past) (omega arith))
    (cases_Bool (c == 10))

-- a point by its place and its offset
pub place_offset : (p : Point) (t : List ℕ) (q : Place) (m : ℕ) → q ≡ place_past p.place t → bytes_in t ≡ m
    → (let r : Point = record { place = q; offset = p.offset + m } in r) ≡ past p t
place_offset p t q m e f = rw (e, ← f) refl

-- one character at most for each byte
pub room_on : (p : LineState) (x : Lexeme) (q : LineState) (m n : ℕ) → q.now ≡ past p.now x.text
    → q.depth ≡ p.depth + count_if (opens x) - count_if (closes x) → q.now.offset ≡ p.now.offset + m → length x.text ≤ m
    → q.width ≤ p.width + 8 * m → 0 < m → HasRoom p (m + n) → HasRoom q n
room_on p x q m n now depth offset chars width some room =
    let row = advance_row p.now.place x.text in
    let column = advance_column p.now.place x.text in
    let at : q.now.place ≡ place_past p.now.place x.text = ap (λ (r : Point). r.place) now in
    let row_is : q.now.place.row ≡ (place_past p.now.place x.text).row = ap (λ (r : Place). r.row) at in
    let column_is : q.now.place.column ≡ (place_past p.now.place x.text).column = ap (λ (r : Place). r.column) at in
    let one = count_one (opens x) in
    record {
      row = omega (arith, row, row_is, chars, room.row);
      column = omega (arith, column, column_is, chars, room.column);
      offset = omega (arith, offset, room.offset);
      depth = omega (arith, depth, one, some, room.depth);
      width = omega (arith, width, room.width);
    }
  where
    count_one : (b : Bool) → count_if b ≤ 1
    count_one true = omega arith
    count_one false = omega arith

pub more_room : (p : LineState) (x : Lexeme) (q : LineState) (m n : ℕ) → IsAfter p x q → q.now.offset ≡ p.now.offset + m → length x.text ≤ m
    → q.width ≤ p.width + 8 * m → 0 < m → HasRoom p (m + n) → HasRoom q n
more_room p x q m n h = room_on p x q m n h.now h.depth
