-- The parts of a cursor stay small, and its offset is a place where a text may be cut.
--
-- Carries: shown_fits, text_length, small_parts, for Moving, Counts, Returning, Skips. On: Resume,
-- Cursoring, Law, Ahead and 5 more.
use Rattle.std.proofs.Common.{◌≡◌, ℕ, ◌+◌, ◌*◌, ◌/◌, ◌≤◌, ◌<◌, Bool, true, false, ◌&&◌, ◌||◌, ◌==◌, cond, List, [], ◌∷◌, ◌++◌, length, refl}
use Rattle.std.proofs.Common.{ap, ◌∙◌, sym, subst, arith, filter, sum, IsUtf8, ⊎_elim}
use Rattle.std.specs.Prelude.{nat_le}
use Rattle.std.specs.List.{All, list_any, count_by, take_while}
use Rattle.std.specs.Str.{chars, encode_utf8_all, all_scalars, IsCharBoundary}
use Rattle.std.proofs.lemmas.Str.{encodes-append, encodes-chars, scalars-chars, length-le-encodes, IsCharBoundary-at_seam}
use Rattle.std.proofs.lemmas.Bool.Decides.{nat_tests}
use Rattle.std.proofs.lemmas.List.Sums.{count_by-le-length, take_while-cons}
use Rattle.std.proofs.lemmas.List.Elements.{All-cons, All-nil, All-from_recursion, recursion_from_All}
use Rattle.std.proofs.Math.Nat.{div-mul-le_self}
use Rattle.std.proofs.lemmas.Bool.{cases_Bool}
use Rattle.pysource.specs.Places.{place_after}
use Rattle.pylex_lexeme.specs.Lexemes.{Lexeme}
use Rattle.pylex_listing.specs.Lines.{text_before, depth, opens, is_significant, line_so_far, is_at_margin}
use Rattle.pylex_lexeme.specs.Chars.{bytes_in}
use Rattle.pylex_listing.specs.Indentation.{column_after, width_from, width_at, widths, below, is_open, open_levels}
use Rattle.pylex_listing.specs.Listing.{Source, in_characters}
use Rattle.pylex.specs.Cursors.{CursorParts, cursor_at, cursor}
use Rattle.pylex.specs.Standing.{front_to, back_from}
use Rattle.pylex.specs.Listers.{Listed, StandsIn}
use Rattle.pylex_listing.proofs.Callers.{bytes_in-append, count_cons, Full, cut_full}
use Rattle.pylex_lexeme.proofs.Callers.Fronts.{length-text}
use Rattle.pylex.proofs.Listing.Lying.{scalars_after}
use Rattle.pylex.proofs.Resumption.Resume.{front_and_back, onto}
use Rattle.pylex.proofs.Resumption.Ahead.{front_is, Placed}
use Rattle.pylex.proofs.Resumption.Agreement.{same_front_bytes}
use Rattle.pylex.proofs.Levels.OpenLevels.{Grounded, grounded}
use Rattle.pylex.proofs.Resumption.Cursoring.{cursor_point, offset_at, line_bytes}
use Rattle.pylex.proofs.Callers.{is_following}

-- The row.
rows_within : (t : List ℕ) → (place_after t).row ≤ 1 + bytes_in t
unfolding place_after
rows_within t =
    let c = count_by-le-length (λ c. c == 10) t in
    let b = length-le-encodes t in
    omega arith

rows_from : (t : List ℕ) → 1 ≤ (place_after t).row
unfolding place_after
rows_from t = omega arith

-- The depth.
opens_bytes : (x : Lexeme) → 0 < bytes_in x.text → cond (opens x) 1 0 ≤ bytes_in x.text
opens_bytes x f = either (opens x)
  where
    either : (b : Bool) → cond b 1 0 ≤ bytes_in x.text
    either true = f
    either false = omega arith

openers_within : (h : List Lexeme) → Full h → count_by opens h ≤ bytes_in (text_before h)
openers_within [] f = omega arith
openers_within (x ∷ h) f =
    let c = count_cons opens x h in
    let i = openers_within h f.1 in
    let o = opens_bytes x f.0 in
    let b = bytes_in-append (text_before h) x.text in
    omega arith

depth_within : (h : List Lexeme) → Full h → depth h ≤ bytes_in (text_before h)
unfolding depth
depth_within h f = let o = openers_within h f in omega arith

-- the lexemes before a place of a source have text
full_front : (fs xs : List Lexeme) → Full (fs ++ xs) → Full fs
full_front [] xs f = tt
full_front (x ∷ fs) xs f = (f.0, full_front fs xs f.1)

full_onto : (fs h : List Lexeme) → Full fs → Full h → Full (onto fs h)
full_onto [] h f g = g
full_onto (x ∷ fs) h f g = full_onto fs (x ∷ h) f.1 (f.0, g)

full_before : (s : Source) (h xs : List Lexeme) (text left : List ℕ) → Placed s h xs text left → Full h
full_before s h xs text left p =
    subst Full (sym p.history) (full_onto p.fronts [] (full_front p.fronts xs (subst Full p.whole (cut_full s.text))) tt)

-- The levels.
eight_more : (n : ℕ) → (n / 8 + 1) * 8 ≤ n + 8
eight_more n = let d = div-mul-le_self n 8 in omega arith

column_within : (n c : ℕ) → column_after n c ≤ n + 8
column_within n c = either (c == 9) (c == 12)
  where
    either : (a b : Bool) → cond a ((n / 8 + 1) * 8) (cond b 0 (n + 1)) ≤ n + 8
    either true b = eight_more n
    either false true = omega arith
    either false false = omega arith

width_within : (cs : List ℕ) (n : ℕ) → width_from n cs ≤ n + 8 * length cs
unfolding width_from
width_within [] n = omega arith
width_within (c ∷ cs) n = let h = width_within cs (column_after n c) in let o = column_within n c in omega arith

-- no member is larger than m
abbrev pub AtMost : ℕ → List ℕ → Type 0
AtMost m vs = All (λ v. v ≤ m) vs

none_at_most : (m : ℕ) → AtMost m []
none_at_most m = All-nil (λ v. v ≤ m)

one_at_most : (m v : ℕ) (vs : List ℕ) → v ≤ m → AtMost m vs → AtMost m (v ∷ vs)
one_at_most m v vs h a = All-cons (λ u. u ≤ m) v vs h a

parts_at_most : (m v : ℕ) (vs : List ℕ) → AtMost m (v ∷ vs) → (v ≤ m) × AtMost m vs
parts_at_most m v vs a = let r = recursion_from_All (λ u. u ≤ m) (v ∷ vs) a in (r.0, All-from_recursion (λ u. u ≤ m) vs r.1)

more_at_most : (m n : ℕ) (vs : List ℕ) → m ≤ n → AtMost m vs → AtMost n vs
more_at_most m n vs h a = λ i d lt. let b = a i d lt in omega arith

line_within : (h : List Lexeme) → width_at h ≤ 8 * bytes_in (text_before h)
unfolding width_at
line_within h =
    let w = width_within (text_before (line_so_far h)) 0 in
    let b = length-le-encodes (text_before (line_so_far h)) in
    let l = line_bytes h in
    omega arith

widths_within : (h : List Lexeme) → AtMost (8 * bytes_in (text_before h)) (widths h)
unfolding widths
widths_within [] = none_at_most (8 * bytes_in (text_before []))
widths_within (x ∷ h) =
    let b = bytes_in-append (text_before h) x.text in
    let w = line_within h in
    let rest = more_at_most (8 * bytes_in (text_before h)) (8 * bytes_in (text_before h ++ x.text)) (widths h)
    (omega arith) (widths_within h) in
    either (is_at_margin h && is_significant x) (width_at h) (omega arith) rest
  where
    either : (c : Bool) (w : ℕ) → w ≤ 8 * bytes_in (text_before h ++ x.text) → AtMost (8 * bytes_in (text_before h ++ x.text)) (widths h)
        → AtMost (8 * bytes_in (text_before h ++ x.text)) (cond c (w ∷ widths h) (widths h))
    either true w l r = one_at_most (8 * bytes_in (text_before h ++ x.text)) w (widths h) l r
    either false w l r = r

among_within : (m v : ℕ) (ws : List ℕ) → AtMost m ws → list_any (λ w. v == w) (take_while (nat_le v) ws) ≡ true → v ≤ m
among_within m v [] a e = absurd cc
among_within m v (w ∷ ws) a e =
    let first : w ≤ m = (parts_at_most m w ws a).0 in
    let t = take_while-cons (nat_le v) w ws in
    ⊎_elim
    (λ (h : nat_le v w ≡ true). let l : v ≤ w = grind (arith, nat_tests) in omega arith)
    (λ (h : nat_le v w ≡ false).
    let none : take_while (nat_le v) (w ∷ ws) ≡ [] = t ∙ rw h refl in
    let f : false ≡ true = sym (ap (list_any (λ u. v == u)) none) ∙ e in
    absurd (never f))
    (cases_Bool (nat_le v w))
  where
    never : false ≡ true → ⊥
    never e = cc

open_within : (m v : ℕ) (ws : List ℕ) → AtMost m ws → is_open ws v ≡ true → v ≤ m
open_within m v ws a e = ⊎_elim
    (λ (z : (v == 0) ≡ true). let n : v ≡ 0 = grind (arith, nat_tests) in omega arith)
    (λ (z : (v == 0) ≡ false). among_within m v ws a (other (v == 0) (list_any (λ w. v == w) (take_while (nat_le v) ws)) z e))
    (cases_Bool (v == 0))
  where
    other : (x y : Bool) → x ≡ false → (x || y) ≡ true → y ≡ true
    other true y z e = cc
    other false y z e = e

one_kept : (m : ℕ) (p : ℕ → Bool) (v : ℕ) (vs : List ℕ) (b : Bool) → p v ≡ b → ((u : ℕ) → p u ≡ true → u ≤ m) → AtMost m (filter p vs)
    → AtMost m (cond b (v ∷ filter p vs) (filter p vs))
one_kept m p v vs true e h a = one_at_most m v (filter p vs) (h v e) a
one_kept m p v vs false e h a = a

kept_within : (m : ℕ) (p : ℕ → Bool) (vs : List ℕ) → ((v : ℕ) → p v ≡ true → v ≤ m) → AtMost m (filter p vs)
kept_within m p [] h = none_at_most m
kept_within m p (v ∷ vs) h = one_kept m p v vs (p v) refl h (kept_within m p vs h)

levels_within : (m : ℕ) (ws : List ℕ) → AtMost m ws → AtMost m (open_levels ws)
unfolding open_levels
levels_within m ws a = kept_within m (is_open ws) (below (1 + sum ws)) (λ v e. open_within m v ws a e)

-- The parts of a cursor at some lexemes.
row_at : (k n : ℕ) (indented : Bool) (h : List Lexeme) → (cursor_at k n indented h).row ≡ (place_after (text_before h)).row
unfolding cursor_at
row_at k n indented h = refl

depth_at : (k n : ℕ) (indented : Bool) (h : List Lexeme) → (cursor_at k n indented h).depth ≡ depth h
unfolding cursor_at
depth_at k n indented h = refl

levels_at : (k n : ℕ) (indented : Bool) (h : List Lexeme) → (cursor_at k n indented h).levels ≡ open_levels
    (cond indented (width_at h ∷ widths h) (widths h))
unfolding cursor_at
levels_at k n indented h = refl

opened_within : (indented : Bool) (h : List Lexeme)
    → AtMost (8 * bytes_in (text_before h)) (cond indented (width_at h ∷ widths h) (widths h))
opened_within true h = one_at_most (8 * bytes_in (text_before h)) (width_at h) (widths h) (line_within h) (widths_within h)
opened_within false h = widths_within h

-- What holds of the parts of each cursor of a source.
pub record SmallParts (c : CursorParts) (a : Source) : Type 0 where
  pub within : c.offset ≤ bytes_in a.text
  pub whole : bytes_in (front_to c.offset a.text) ≡ c.offset
  pub row : 1 ≤ c.row
  pub rows : c.row ≤ 1 + c.offset
  pub depth : c.depth ≤ c.offset
  pub grounded : Grounded c.levels
  pub levels : AtMost (8 * c.offset) c.levels

pub small_parts : (a : Source) (k : ℕ) → SmallParts (cursor a k) a
small_parts a k =
    let q = cursor_point a k in
    let p = q.point in
    let h = p.before in
    let o : (cursor a k).offset ≡ bytes_in (text_before h) = ap (λ (c : CursorParts). c.offset) q.is ∙ offset_at k q.skip q.indented h in
    let r : (cursor a k).row ≡ (place_after (text_before h)).row = ap (λ (c : CursorParts). c.row) q.is ∙ row_at k q.skip q.indented h in
    let d : (cursor a k).depth ≡ depth h = ap (λ (c : CursorParts). c.depth) q.is ∙ depth_at k q.skip q.indented h in
    let l : (cursor a k).levels ≡ open_levels (cond q.indented (width_at h ∷ widths h) (widths h)) = ap (λ (c : CursorParts). c.levels) q.is
    ∙ levels_at k q.skip q.indented h in
    let text : bytes_in a.text ≡ bytes_in (text_before h) + bytes_in p.text = ap bytes_in p.placed.parts
    ∙ bytes_in-append (text_before h) p.text in
    let front : front_to (cursor a k).offset a.text ≡ text_before h = ap (λ n. front_to n a.text) o
    ∙ ap (front_to (bytes_in (text_before h))) p.placed.parts ∙ front_is (text_before h) p.text in
    let rw1 = rows_within (text_before h) in
    let rw2 = rows_from (text_before h) in
    let dw = depth_within h (full_before a h p.later p.text p.left p.placed) in
    let ls : AtMost (8 * bytes_in (text_before h)) (cursor a k).levels = subst (AtMost (8 * bytes_in (text_before h))) (sym l)
    (levels_within (8 * bytes_in (text_before h)) (cond q.indented (width_at h ∷ widths h) (widths h)) (opened_within q.indented h)) in
    record {
      within = omega arith;
      whole = ap bytes_in front ∙ sym o;
      row = omega arith;
      rows = omega arith;
      depth = omega arith;
      grounded = subst Grounded (sym l) (grounded (cond q.indented (width_at h ∷ widths h) (widths h)));
      levels = subst (λ (n : ℕ). AtMost (8 * n) (cursor a k).levels) (sym o) ls;
    }

-- A lister's cursor in the text in hand.
boundary_at : (text : List ℕ) (n : ℕ) → IsUtf8 text → bytes_in (front_to n (chars text)) ≡ n → IsCharBoundary text n
boundary_at text n u e =
    let cs = chars text in
    let f = front_to n cs in
    let b = back_from n cs in
    let w : f ++ b ≡ cs = front_and_back cs n in
    let parts : text ≡ encode_utf8_all f ++ encode_utf8_all b = sym (encodes-chars text u)
    ∙ ap encode_utf8_all (sym w) ∙ encodes-append f b in
    let good : all_scalars b ≡ true = scalars_after f b (ap all_scalars w ∙ scalars-chars text u) in
    subst (IsCharBoundary text) e (IsCharBoundary-at_seam text (encode_utf8_all f) (encode_utf8_all b) parts (b, (good, refl)))

shown_small : (l : Listed) (a : Source) (k : ℕ) → StandsIn l a k → SmallParts l.shown a
shown_small l a k h = subst (λ (c : CursorParts). SmallParts c a) (sym (is_following h.cursor).is) (small_parts a l.shown.given)

-- the length of the text in hand is that of the source that the lister stands in
pub text_length : (l : Listed) (a : Source) (k : ℕ) → IsUtf8 l.source.text → StandsIn l a k → bytes_in a.text ≡ length l.source.text
text_length l a k u h = h.agrees.same_length ∙ sym (length-text l.source.text u)

pub record ShownFits (l : Listed) : Type 0 where
  pub boundary : IsCharBoundary l.source.text l.shown.offset
  pub within : l.shown.offset ≤ length l.source.text
  pub row : 1 ≤ l.shown.row
  pub rows : l.shown.row ≤ 1 + l.shown.offset
  pub depth : l.shown.depth ≤ l.shown.offset
  pub grounded : Grounded l.shown.levels
  pub levels : AtMost (8 * l.shown.offset) l.shown.levels

pub shown_fits : (l : Listed) (a : Source) (k : ℕ) → IsUtf8 l.source.text → StandsIn l a k → ShownFits l
shown_fits l a k u h =
    let s = shown_small l a k h in
    let t = text_length l a k u h in
    let w = s.within in
    record {
      boundary = boundary_at l.source.text l.shown.offset u (sym (same_front_bytes a (in_characters l.source) l.shown.offset h.agrees)
          ∙ s.whole);
      within = omega arith;
      row = s.row;
      rows = s.rows;
      depth = s.depth;
      grounded = s.grounded;
      levels = s.levels;
    }
