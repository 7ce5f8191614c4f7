-- The rows that a lexeme ends: only line ends, joins and strings have line feeds.
--
-- Carries: looks_on, step_goes. On: Told, Walking, Lexed.
use Rattle.std.proofs.Common.{◌≡◌, ℕ, ◌+◌, Bool, true, false, ◌==◌, List, [], ◌∷◌, refl, ap, ◌∙◌, arith, ⊎_elim}
use Rattle.std.specs.Prelude.{count_by, if◌then◌else◌}
use Rattle.std.specs.List.{list_all}
use Rattle.std.specs.Str.{chars, IsUtf8}
use Rattle.std.proofs.lemmas.Bool.Decides.{nat_tests}
use Rattle.std.proofs.lemmas.List.Sums.{sum_by-cons}
use Rattle.std.proofs.lemmas.Bool.{and_parts, cases_Bool}
use Rattle.pysource.specs.Places.{is_lf, place_after}
use Rattle.pysource.specs.declared.places.Place.{Place}
use Rattle.pysource.proofs.Callers.Places.{place_by_bytes}
use Rattle.pylex_lexeme.specs.declared.lexeme.Class.{Class}
use Rattle.pylex_lexeme.specs.declared.lexeme.Class.TheVariants.{Name, Number, String, Operator, Comment, Blanks, LineEnd, Join}
use Rattle.pylex_lexeme.specs.Cuts.{Cuts}
use Rattle.pylex_lexeme.proofs.Callers.WholeLines.{not_feed, is_flat, flat_in}
use Rattle.pylex_listing.specs.Machine.{place_past}
use Rattle.pylex.specs.Spots.{rows_in}
use Rattle.pylex_listing.proofs.Callers.{lexeme_class}
use Rattle.pylex.proofs.MachineLaws.Told.{tells}
use Rattle.pylex.proofs.MachineLaws.Walking.{advance_feed, advance_other}

no_feed : (c : ℕ) → not_feed c ≡ true → (c == 10) ≡ false
no_feed c e = grind (arith, nat_tests)

is_feed : (c : ℕ) → (c == 10) ≡ true → c ≡ 10
is_feed c e = grind (arith, nat_tests)

other : (c : ℕ) → (c == 10) ≡ false → c ≡ 10 → ⊥
other c e h = grind (arith, nat_tests)

row_flat : (p : Place) (t : List ℕ) → list_all not_feed t ≡ true → (place_past p t).row ≡ p.row
row_flat p [] h = refl
row_flat p (c ∷ t) h =
    let q = and_parts (not_feed c) (list_all not_feed t) h in
    let n = no_feed c q.0 in
    ap (λ (r : Place). r.row) (advance_other p c t (other c n)) ∙ row_flat (record { row = p.row; column = p.column + 1 }) t q.1

feeds_more : (c : ℕ) (t : List ℕ) (b : Bool) → (c == 10) ≡ b → count_by is_lf (c ∷ t) ≡ (if b then 1 else 0) + count_by is_lf t
feeds_more c t b e = sum_by-cons (λ x. if is_lf x then 1 else 0) c t ∙ ap (λ d. (if d then 1 else 0) + count_by is_lf t) e

-- a text ends as many rows as it has line feeds
row_feeds : (p : Place) (t : List ℕ) → (place_past p t).row ≡ p.row + count_by is_lf t
row_feeds p [] = omega arith
row_feeds p (c ∷ t) = ⊎_elim
    (λ (e : (c == 10) ≡ true).
    let q : Place = record { row = p.row + 1; column = 0 } in
    let rest = row_feeds q t in
    let more = feeds_more c t true e in
    ap (λ (r : Place). r.row) (advance_feed p c t (is_feed c e)) ∙ rest ∙ omega (arith, more))
    (λ (e : (c == 10) ≡ false).
    let q : Place = record { row = p.row; column = p.column + 1 } in
    let rest = row_feeds q t in
    let more = feeds_more c t false e in
    ap (λ (r : Place). r.row) (advance_other p c t (other c e)) ∙ rest ∙ omega (arith, more))
    (cases_Bool (c == 10))

-- and its bytes have as many
feeds_bytes : (bs : List ℕ) → IsUtf8 bs → count_by is_lf (chars bs) ≡ count_by is_lf bs
unfolding place_after
feeds_bytes bs u = let e : 1 + count_by is_lf (chars bs) ≡ 1 + count_by is_lf bs =
    ap (λ (q : Place). q.row) (place_by_bytes bs u) in omega (arith, e)

-- the row after a lexeme
pub rows_told : (bytes front back : List ℕ) (k : Class) → Cuts bytes k front back → (p : Place)
    → (place_past p (chars front)).row ≡ p.row + rows_in k front
rows_told bytes front back k c p = by k c
  where
    flat : (k : Class) → is_flat k ≡ true → Cuts bytes k front back → (place_past p (chars front)).row ≡ p.row + 0
    flat k f c = row_flat p (chars front)
        (flat_in (chars bytes) (chars front) k f (lexeme_class (chars bytes) (record { «class» = k; text = chars front }) c.lexeme))
        ∙ omega arith

    by : (k : Class) → Cuts bytes k front back → (place_past p (chars front)).row ≡ p.row + rows_in k front
    by Name c = flat Name refl c
    by Number c = flat Number refl c
    by String c = row_feeds p (chars front) ∙ ap (λ n. p.row + n) (feeds_bytes front c.front_utf8)
    by (Operator o) c = flat (Operator o) refl c
    by Comment c = flat Comment refl c
    by Blanks c = flat Blanks refl c
    by LineEnd c = ap (λ (q : Place). q.row) ((tells bytes front back LineEnd c).0 p)
    by Join c = ap (λ (q : Place). q.row) ((tells bytes front back Join c).0 p)
