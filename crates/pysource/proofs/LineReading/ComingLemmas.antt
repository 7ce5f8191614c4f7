-- What is still to come of a source, line by line.
--
-- Carries: no_lf_all, line_front, line_clean, ends_at_lf and 8 more, for StreamLemmas, HeadLemmas,
-- NextLineLemmas. On: CutLemmas.
use Rattle.std.proofs.Common.{◌≡◌, ℕ, suc, ◌+◌, ◌-◌, ◌<◌, ◌≤◌, Bool, true, false, List, [], ◌∷◌, ◌++◌, length, take, get_or, None, Some}
use Rattle.std.proofs.Common.{sym, ap, refl, ◌∙◌, arith, zero-le, append-nil, length-append}
use Rattle.std.specs.Prelude.{if◌then◌else◌}
use Rattle.std.specs.List.{filter}
use Rattle.std.specs.Option.{option_or}
use Rattle.std.proofs.lemmas.Bool.{ne_eqb}
use Rattle.std.proofs.lemmas.List.{get_or_at, get_or-take, length-take-le, take_more}
use Rattle.pysource.specs.Places.{is_lf}
use Rattle.pysource.specs.Lines.{lines_of, first_bad, good_text, line_fault}
use Rattle.pysource.specs.Taking.{NoLfFrom, LineAt}
use Rattle.pysource.specs.Streams.{Coming, coming, lines_read, ends_line, unread, onto, fault_at}
use Rattle.pysource.specs.declared.encodings.Charset.{Charset}
use Rattle.pysource.specs.declared.faults.LineError.{LineError}
use Rattle.pysource.proofs.FaultyLines.CutLemmas.{NoLf, lines_at, lines_alone}

-- no line feed, as lemmas on lines have it
pub no_lf : (bytes : List ℕ) (end : ℕ) → end ≤ length bytes → NoLfFrom 0 end bytes → NoLf (take end bytes)
no_lf bytes end within clean k low =
    let size = length-take-le end bytes within in
    let inside : k < end = omega (arith, size) in
    ap is_lf (get_or-take end bytes k 0 inside) ∙ ne_eqb (get_or bytes k 0) 10 (clean k zero-le inside)

pub no_lf_all : (bytes : List ℕ) → NoLfFrom 0 (length bytes) bytes → NoLf bytes
no_lf_all bytes clean k low = ne_eqb (get_or bytes k 0) 10 (clean k zero-le low)

-- a line is its front and its line feed
pub line_front : (end : ℕ) (bytes : List ℕ) → LineAt 0 end bytes → take end bytes ≡ take (end - 1) bytes ++ 10 ∷ []
line_front end bytes at =
    let last : end ≡ end - 1 + 1 = omega (arith, at.some) in
    ap (λ (n : ℕ). take n bytes) last ∙ take_more bytes (end - 1) 0 (omega (arith, at.some, at.within))
    ∙ ap (λ (b : ℕ). take (end - 1) bytes ++ b ∷ []) at.at

pub line_clean : (end : ℕ) (bytes : List ℕ) → LineAt 0 end bytes → NoLf (take (end - 1) bytes)
line_clean end bytes at = no_lf bytes (end - 1) (omega (arith, at.within)) at.before

-- whether bytes end with a line feed
pub ends_at_lf : (front : List ℕ) → ends_line (front ++ 10 ∷ []) ≡ true
ends_at_lf front =
    let size = length-append front (10 ∷ []) in
    let last : length (front ++ 10 ∷ []) - 1 ≡ length front = omega (arith, size) in
    ap (λ (n : ℕ). is_lf (get_or (front ++ 10 ∷ []) n 0)) last ∙ ap is_lf (get_or_at front 10 [] 0 (length front) refl)

pub ends_nowhere : (t : List ℕ) → NoLf t → ends_line t ≡ false
ends_nowhere [] h = refl
ends_nowhere (b ∷ bs) h = h (length (b ∷ bs) - 1) (omega arith)

-- exactly one line
pub one_line : (front : List ℕ) → NoLf front → lines_of (front ++ 10 ∷ []) ≡ (front ++ 10 ∷ []) ∷ []
unfolding lines_of
one_line front clean = ap lines_of (sym (append-nil (front ++ 10 ∷ []))) ∙ lines_at front [] clean

-- the first of the lines that were read
pub lines_read_line : (broken : Bool) (front rest : List ℕ) → NoLf front → lines_read broken ((front ++ 10 ∷ []) ++ rest) ≡
    (front ++ 10 ∷ []) ∷ lines_read broken rest
lines_read_line false front rest clean = lines_at front rest clean
lines_read_line true front rest clean =
    let l = front ++ 10 ∷ [] in
    let ends : ends_line l ≡ true = ends_at_lf front in
    let cut : filter ends_line (l ∷ lines_of rest) ≡ l ∷ filter ends_line (lines_of rest) = rw ends refl in
    ap (filter ends_line) (lines_at front rest clean) ∙ cut

-- no line was read whole
lines_read_none : (t : List ℕ) → NoLf t → lines_read true t ≡ []
unfolding lines_of
lines_read_none [] clean = refl
lines_read_none (b ∷ bs) clean =
    let ends : ends_line (b ∷ bs) ≡ false = ends_nowhere (b ∷ bs) clean in
    let cut : filter ends_line ((b ∷ bs) ∷ []) ≡ [] = rw ends refl in
    ap (filter ends_line) (lines_alone (b ∷ bs) clean (omega arith)) ∙ cut

-- what is to come, by its lines
abbrev made : Charset → ℕ → Bool → List (List ℕ) → Coming
made c row broken lines =
    record {
      text = good_text c lines;
      fault =
          option_or (line_fault c row lines) (if broken then Some (unread (row + length lines)) else None);
    }

made_is : (c : Charset) (row : ℕ) (broken : Bool) (bytes : List ℕ) → coming c row broken bytes ≡ made c row broken (lines_read broken bytes)
unfolding coming
made_is c row broken bytes = refl

made_good : (c : Charset) (row : ℕ) (broken : Bool) (l : List ℕ) (ls : List (List ℕ)) → first_bad c l ≡ None
    → made c row broken (l ∷ ls) ≡ onto l (made c (row + 1) broken ls)
unfolding good_text line_fault
made_good c row broken l ls good =
    let count : row + suc (length ls) ≡ row + 1 + length ls = omega arith in
    rw (good, count) refl

made_bad : (c : Charset) (row : ℕ) (broken : Bool) (l : List ℕ) (ls : List (List ℕ)) (bad : ℕ × LineError) → first_bad c l ≡ Some bad
    → made c row broken (l ∷ ls) ≡ record { text = []; fault = Some (fault_at row l bad) }
unfolding good_text line_fault
made_bad c row broken l ls bad is = rw is refl

-- a good line comes first
pub coming_line : (c : Charset) (row : ℕ) (broken : Bool) (front rest : List ℕ) → NoLf front → first_bad c (front ++ 10 ∷ []) ≡ None
    → coming c row broken ((front ++ 10 ∷ []) ++ rest) ≡ onto (front ++ 10 ∷ []) (coming c (row + 1) broken rest)
coming_line c row broken front rest clean good =
    let l = front ++ 10 ∷ [] in
    made_is c row broken (l ++ rest) ∙ ap (made c row broken) (lines_read_line broken front rest clean)
    ∙ made_good c row broken l (lines_read broken rest) good ∙ ap (onto l) (sym (made_is c (row + 1) broken rest))

-- a faulty line is all that comes
pub coming_bad : (c : Charset) (row : ℕ) (broken : Bool) (front rest : List ℕ) (bad : ℕ × LineError) → NoLf front
    → first_bad c (front ++ 10 ∷ []) ≡ Some bad → coming c row broken ((front ++ 10 ∷ []) ++ rest) ≡ record {
      text = [];
      fault =
          Some (fault_at row (front ++ 10 ∷ []) bad);
    }
coming_bad c row broken front rest bad clean is =
    made_is c row broken ((front ++ 10 ∷ []) ++ rest) ∙ ap (made c row broken) (lines_read_line broken front rest clean)
    ∙ made_bad c row broken (front ++ 10 ∷ []) (lines_read broken rest) bad is

-- the same of a last line without line feed
pub coming_last : (c : Charset) (row : ℕ) (t : List ℕ) → NoLf t → 0 < length t → first_bad c t ≡ None
    → coming c row false t ≡ onto t (coming c (row + 1) false [])
unfolding lines_of
coming_last c row t clean some good =
    made_is c row false t ∙ ap (made c row false) (lines_alone t clean some) ∙ made_good c row false t [] good
    ∙ ap (onto t) (sym (made_is c (row + 1) false []))

pub coming_last_bad : (c : Charset) (row : ℕ) (t : List ℕ) (bad : ℕ × LineError) → NoLf t → 0 < length t → first_bad c t ≡ Some bad
    → coming c row false t ≡ record { text = []; fault = Some (fault_at row t bad) }
coming_last_bad c row t bad clean some is =
    made_is c row false t ∙ ap (made c row false) (lines_alone t clean some) ∙ made_bad c row false t [] bad is

-- nothing is left
pub coming_none : (c : Charset) (row : ℕ) → coming c row false [] ≡ record { text = []; fault = None }
unfolding lines_of coming good_text line_fault
coming_none c row = refl

-- a failed read cut the line off
pub coming_cut : (c : Charset) (row : ℕ) (t : List ℕ) → NoLf t → coming c row true t ≡ record { text = []; fault = Some (unread row) }
unfolding good_text line_fault
coming_cut c row t clean =
    let count : row + 0 ≡ row = omega arith in
    made_is c row true t ∙ ap (made c row true) (lines_read_none t clean)
    ∙ ap (λ (n : ℕ). let x : Coming = record { text = []; fault = Some (unread n) } in x) count
