-- Carries: Callers/Places. On: the place after some characters, and the bytes before a place.
use Rattle.std.proofs.Common.{◌≡◌, ℕ, suc, ◌+◌, Bool, true, false, cond, List, [], ◌∷◌, ◌++◌, length, take, refl, sym, ap, subst, ◌∙◌}
use Rattle.std.proofs.Common.{arith}
use Rattle.std.proofs.Common.{length-append}
use Rattle.std.specs.Prelude.{◌==◌, if◌then◌else◌}
use Rattle.std.specs.Str.{encode_utf8_all}
use Rattle.std.proofs.Math.Seq.{take-append_seam}
use Rattle.std.proofs.lemmas.Str.{encodes-append}
use Rattle.pysource.specs.declared.places.Place.{Place}
use Rattle.pylex_lexeme.specs.Chars.{bytes_in}
use Rattle.pylex_lexeme.specs.Characters.{line_feed}
use Rattle.pylex_listing.specs.Machine.{place_past}
use Rattle.pyparse_marks.specs.LineSpans.{offset}

pub bytes_both : (a b : List ℕ) → bytes_in (a ++ b) ≡ bytes_in a + bytes_in b
bytes_both a b = ap length (encodes-append a b) ∙ length-append (encode_utf8_all a) (encode_utf8_all b)

abbrev pub spot_at : ℕ → ℕ → Place
spot_at row column = record { row = row; column = column }

-- past some characters and then others
pub place_on : (p : Place) (a b : List ℕ) → place_past p (a ++ b) ≡ place_past (place_past p a) b
place_on p [] b = refl
place_on p (c ∷ a) b = place_on (if c == line_feed then spot_at (p.row + 1) 0 else spot_at p.row (p.column + 1)) a b

-- a row further down
abbrev below : Place → Place
below p = spot_at (suc p.row) p.column

lower : (row column : ℕ) (cs : List ℕ) → place_past (spot_at (suc row) column) cs ≡ below (place_past (spot_at row column) cs)
lower row column [] = refl
lower row column (c ∷ cs) = by (c == line_feed) (lower (row + 1) 0 cs) (lower row (column + 1) cs)
  where
    by : (b : Bool) → place_past (spot_at (suc (row + 1)) 0) cs ≡ below (place_past (spot_at (row + 1) 0) cs)
        → place_past (spot_at (suc row) (column + 1)) cs ≡ below (place_past (spot_at row (column + 1)) cs)
        → place_past (if b then spot_at (suc row + 1) 0 else spot_at (suc row) (column + 1)) cs ≡
        below (place_past (if b then spot_at (row + 1) 0 else spot_at row (column + 1)) cs)
    by true down along =
        let next : suc row + 1 ≡ suc (row + 1) = omega arith in
        ap (λ (n : ℕ). place_past (spot_at n 0) cs) next ∙ down
    by false down along = along

-- Where one stands after some characters, who was in the first row: there still, or so many bytes after its begin.
data Following (before : List ℕ) (column : ℕ) (p : Place) : Type 0 where
  same_row : p.row ≡ 1 → p.column ≡ column + length before → Following before column p
  further_down : (r : ℕ) → p.row ≡ suc (suc r) → ((following : List ℕ) → offset (suc (suc r)) p.column (before ++ following) ≡ bytes_in before)
      → Following before column p

-- a text up to a seam
up_to : (n : ℕ) (cs following : List ℕ) → n ≡ 0 + length cs → offset 1 n (cs ++ following) ≡ bytes_in cs
up_to n cs following is =
    let size : n ≡ length cs = omega (arith, is) in
    ap (λ (m : ℕ). bytes_in (take m (cs ++ following))) size ∙ ap (λ t. bytes_in t) (take-append_seam cs following)

past_feed : (c : ℕ) (cs : List ℕ) (column : ℕ) (p : Place) → (c == line_feed) ≡ true → Following cs 0 p → Following (c ∷ cs) column (below p)
past_feed c cs column p feed (same_row row here) =
    let next : suc p.row ≡ suc (suc 0) = ap suc row in
    further_down 0 next (λ following.
    ap (λ (b : Bool). bytes_in (c ∷ []) + cond b (offset 1 p.column (cs ++ following)) (offset 2 p.column (cs ++ following))) feed
    ∙ ap (λ (n : ℕ). bytes_in (c ∷ []) + n) (up_to p.column cs following here)
    ∙ sym (bytes_both (c ∷ []) cs))
past_feed c cs column p feed (further_down r row goes) =
    let next : suc p.row ≡ suc (suc (suc r)) = ap suc row in
    further_down (suc r) next (λ following.
    ap (λ (b : Bool). bytes_in (c ∷ []) + cond b (offset (suc (suc r)) p.column (cs ++ following))
    (offset (suc (suc (suc r))) p.column (cs ++ following))) feed
    ∙ ap (λ (n : ℕ). bytes_in (c ∷ []) + n) (goes following)
    ∙ sym (bytes_both (c ∷ []) cs))

past_other : (c : ℕ) (cs : List ℕ) (column : ℕ) (p : Place) → (c == line_feed) ≡ false → Following cs (column + 1) p → Following (c ∷ cs) column p
past_other c cs column p other (same_row row here) = same_row row (omega (arith, here))
past_other c cs column p other (further_down r row goes) =
    further_down r row (λ following.
    ap (λ (b : Bool). bytes_in (c ∷ []) + cond b (offset (suc r) p.column (cs ++ following)) (offset (suc (suc r)) p.column (cs ++ following)))
    other
    ∙ ap (λ (n : ℕ). bytes_in (c ∷ []) + n) (goes following)
    ∙ sym (bytes_both (c ∷ []) cs))

after_is : (before : List ℕ) (column : ℕ) → Following before column (place_past (spot_at 1 column) before)
after_is [] column = same_row refl (omega arith)
after_is (c ∷ cs) column = by (c == line_feed) refl (after_is cs 0) (after_is cs (column + 1))
  where
    by : (b : Bool) → (c == line_feed) ≡ b → Following cs 0 (place_past (spot_at 1 0) cs)
        → Following cs (column + 1) (place_past (spot_at 1 (column + 1)) cs)
        → Following (c ∷ cs) column (place_past (if b then spot_at (1 + 1) 0 else spot_at 1 (column + 1)) cs)
    by true feed down along =
        subst (Following (c ∷ cs) column) (sym (lower 1 0 cs)) (past_feed c cs column (place_past (spot_at 1 0) cs) feed down)
    by false other down along = past_other c cs column (place_past (spot_at 1 (column + 1)) cs) other along

by_after : (before following : List ℕ) (p : Place) → Following before 0 p → offset p.row p.column (before ++ following) ≡ bytes_in before
by_after before following p (same_row row here) =
    ap (λ (n : ℕ). offset n p.column (before ++ following)) row ∙ up_to p.column before following here
by_after before following p (further_down r row goes) = ap (λ (n : ℕ). offset n p.column (before ++ following)) row ∙ goes following

-- the bytes before the place after some characters are theirs
pub offset_is : (before following : List ℕ)
    → offset (place_past (spot_at 1 0) before).row (place_past (spot_at 1 0) before).column (before ++ following)
    ≡ bytes_in before
offset_is before following = by_after before following (place_past (spot_at 1 0) before) (after_is before 0)
