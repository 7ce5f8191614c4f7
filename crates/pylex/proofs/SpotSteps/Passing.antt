-- Past lexemes that give no entry: the state there.
--
-- Carries: step_goes. On: Rows, Finding, Told.
use Rattle.std.proofs.Common.{◌≡◌, ℕ, ◌+◌, ◌-◌, true, false, not, ◌&&◌, ◌||◌, ◌==◌, List, [], refl, ap, ◌∙◌}
use Rattle.std.proofs.Common.{arith}
use Rattle.std.specs.Str.{chars}
use Rattle.pylex_lexeme.specs.declared.lexeme.Class.{Class}
use Rattle.pylex_lexeme.specs.declared.lexeme.Class.TheVariants.{Blanks, Join}
use Rattle.pylex_lexeme.specs.Cuts.{Cuts}
use Rattle.pylex_lexeme.specs.Lexemes.{is_significant_class, is_line_end_class, is_opener_class, is_closer_class}
use Rattle.pylex_listing.specs.declared.point.Point.{Point}
use Rattle.pylex.specs.declared.line_state.LineState.{LineState}
use Rattle.pylex_listing.specs.Lines.{count_if}
use Rattle.pylex_listing.specs.Machine.{State, past, after, entry_by}
use Rattle.pylex.specs.LineState.{with_levels, Stands, Comes, Following}
use Rattle.pylex.specs.Inner.Told.{Passed}
use Rattle.pylex.specs.Spots.{Silent, here, blanks, join, rows_in}
use Rattle.pylex.proofs.Listers.Finding.{stays_there, settles_same, nothing_found, some_bytes, stands_after, after_cut, margin_past}
use Rattle.pylex.proofs.MachineLaws.Told.{passed_room, blanks_give, join_gives}
use Rattle.pylex.proofs.SpotSteps.Rows.{rows_told}

-- the state after a lexeme that stands after a line's margin, its levels aside
abbrev pub line_after : LineState → Class → List ℕ → LineState
line_after p k t =
    let s = after (with_levels p []) (record { «class» = k; text = t }) in
    record {
      now = s.now;
      line = s.line;
      depth = s.depth;
      width = s.width;
      margin = s.margin;
      logical = s.logical;
      joined =
          s.joined;
      lead = s.lead;
    }

pub line_passed : (p : LineState) (k : Class) (t : List ℕ) → p.margin ≡ false → Passed p k t (line_after p k t)
unfolding after
line_passed p k t m levels = rw m refl

pub after_now : (p : LineState) (k : Class) (t : List ℕ) → (line_after p k t).now ≡ past p.now t
unfolding after
after_now p k t = refl

pub after_depth : (p : LineState) (k : Class) (t : List ℕ) → (line_after p k t).depth ≡ p.depth + count_if (is_opener_class k) -
    count_if (is_closer_class k)
unfolding after
after_depth p k t = refl

pub after_logical : (p : LineState) (k : Class) (t : List ℕ)
    → (line_after p k t).logical ≡ (not (is_line_end_class k && (p.depth == 0)) && (is_significant_class k || p.logical))
unfolding after
after_logical p k t = refl

pub after_row : (p : LineState) (rest front back : List ℕ) (k : Class) → Cuts rest k front back
    → (line_after p k (chars front)).now.place.row ≡ p.now.place.row + rows_in k front
after_row p rest front back k c = ap (λ (q : Point). q.place.row) (after_now p k (chars front)) ∙ rows_told rest front back k c p.now.place

-- From a state before some bytes, past lexemes that give no entry, to a state before others: within the logical line, at the same depth, so
-- many rows on.
pub record Looks (p : LineState) (left rest : List ℕ) (rows : ℕ) : Type 0 where
  pub now : LineState
  pub stands : Stands now rest
  pub margin : now.margin ≡ false
  pub logical : now.logical ≡ true
  pub depth : now.depth ≡ p.depth
  pub row : now.now.place.row ≡ p.now.place.row + rows
  pub comes : (levels : List ℕ) → Comes levels p (chars left) now (chars rest)
  pub following : Following left rest

-- past one lexeme more
past_on : (p : LineState) (left rest front back : List ℕ) (k : Class) (m n : ℕ) → (i : Looks p left rest m) → Cuts rest k front back
    → ((s : State) (t : List ℕ) → entry_by s (record { «class» = k; text = t }) ≡ []) → (line_after i.now k (chars front)).logical ≡ true
    → (line_after i.now k (chars front)).depth ≡ i.now.depth → n ≡ m + rows_in k front → Looks p left back n
past_on p left rest front back k m n i c gives logical depth rows =
    let now : LineState = i.now in
    let next : LineState = line_after now k (chars front) in
    let passed : Passed now k (chars front) next = line_passed now k (chars front) i.margin in
    let gave : (ls : List ℕ) → entry_by (with_levels now ls) (record { «class» = k; text = chars front }) ≡ [] =
    λ ls. gives (with_levels now ls) (chars front) in
    let room = passed_room now k front next i.margin passed c.counted (some_bytes rest front back k c) in
    let row = after_row now rest front back k c in
    record {
      now = next;
      stands = stands_after now next rest front back k c i.stands room;
      margin = margin_past now next k (chars front) i.margin gave passed;
      logical = logical;
      depth = depth ∙ i.depth;
      row = omega (arith, row, i.row, rows);
      comes = λ levels. nothing_found levels p (chars left) now now next rest front back k (i.comes levels)
          (settles_same levels now (chars rest) (rw i.margin refl)) c gave passed;
      following = after_cut left rest front back k i.stands.utf8 c i.following;
    }

blanks_logical : (p : LineState) (t : List ℕ) → p.logical ≡ true → (line_after p Blanks t).logical ≡ true
blanks_logical p t l = after_logical p Blanks t ∙ l

join_logical : (p : LineState) (t : List ℕ) → (line_after p Join t).logical ≡ true
join_logical p t = after_logical p Join t

same_depth : (d : ℕ) → d + 0 - 0 ≡ d
same_depth d = omega arith

pub looks_on : (p : LineState) (left : List ℕ) → Stands p left → p.margin ≡ false → p.logical ≡ true → (rest : List ℕ) (n : ℕ)
    → Silent left rest n → Looks p left rest n
looks_on p left stands margin logical rest n here = record {
  now = p;
  stands = stands;
  margin = margin;
  logical = logical;
  depth = refl;
  row = omega arith;
  comes = λ levels. stays_there levels p (chars left);
  following = ([], refl);
}
looks_on p left stands margin logical rest n (blanks bs front back m s c) =
    let i = looks_on p left stands margin logical bs m s in
    past_on p left bs front back Blanks m m i c blanks_give (blanks_logical i.now (chars front) i.logical)
    (after_depth i.now Blanks (chars front) ∙ same_depth i.now.depth) (omega arith)
looks_on p left stands margin logical rest n (join bs front back m s c) =
    let i = looks_on p left stands margin logical bs m s in
    past_on p left bs front back Join m (m + 1) i c join_gives (join_logical i.now (chars front)) (after_depth i.now Join (chars front)
    ∙ same_depth i.now.depth) refl
