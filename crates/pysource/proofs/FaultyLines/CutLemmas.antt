-- The text before the first faulty line, and that line's fault, by the first bad byte of all.
--
-- Carries: cut_line, good_part, decode_vec. On: LinesLemmas, PlacesLemmas.
use Rattle.std.proofs.Common.{◌≡◌, ℕ, zero, suc, ◌+◌, ◌-◌, ◌<◌, ◌≤◌, true, false, cond, List, [], ◌∷◌, ◌++◌, length, take, drop, get_or}
use Rattle.std.proofs.Common.{None, Some, Option, sym, ap, subst, refl, inl, inr, ◌∙◌, arith, zero-le}
use Rattle.std.specs.Prelude.{◌⊎◌, not, IsUtf8, count_by, reverse}
use Rattle.std.specs.List.{after_last, onto_first, suffix_len, prefix_len}
use Rattle.std.specs.Str.{chars, IsCharBoundary}
use Rattle.std.proofs.lemmas.Bool.{cases_Bool, cases_eq, eqb-true, eq-eqb, ne_eqb}
use Rattle.std.proofs.Common.{eqb}
use Rattle.std.proofs.lemmas.List.{take-append-le, length-append, length-take, length-drop, length-take-le, append-nil, drop_at, drop-drop}
use Rattle.std.proofs.lemmas.List.{get_or-take, take-append-drop, reverse-append}
use Rattle.std.proofs.lemmas.List.Folds.{prefix_len-append}
use Rattle.std.proofs.lemmas.List.Sums.{suffix_len-le-length, sum_by-append}
use Rattle.std.proofs.lemmas.Str.{IsCharBoundary-at_seam}
use Rattle.std.proofs.lemmas.Bool.{false_from_ne_true}
use Rattle.std.proofs.lemmas.List.{take_more}
use Rattle.memchr.specs.Find.{IsFirstByte, is_byte}
use Rattle.pysource.specs.Sources.{nth_line, parts_under}
use Rattle.pysource.specs.Cookies.{has_mark}
use Rattle.pysource.specs.Names.{Named}
use Rattle.pysource.specs.Places.{is_lf}
use Rattle.pysource.specs.declared.encodings.Charset.{Charset}
use Rattle.pysource.specs.declared.faults.LineError.{LineError}
use Rattle.pysource.specs.declared.faults.LineFault.{LineFault}
use Rattle.pysource.specs.Lines.{lines_of, first_bad, good_text, line_fault}
use Rattle.pysource.proofs.Offsets.PlacesLemmas.{after_last_none}
use Rattle.pysource.proofs.FaultyLines.LinesLemmas.{take_over, bad_found, first_bad_line, first_bad_next, first_bad_neither}

-- no byte is a line feed
abbrev pub NoLf : List ℕ → Type 0
NoLf xs = (k : ℕ) → k < length xs → is_lf (get_or xs k 0) ≡ false

-- a text begins with a line that ends with LF, or is one line without
pub record Cut (t : List ℕ) : Type 0 where
  pub front : List ℕ
  pub rest : List ℕ
  pub clean : NoLf front
  pub is : t ≡ (front ++ 10 ∷ []) ++ rest
  pub lines : lines_of t ≡ (front ++ 10 ∷ []) ∷ lines_of rest

pub record Last (t : List ℕ) : Type 0 where
  pub clean : NoLf t
  pub lines : lines_of t ≡ t ∷ []

pub NoLf-cons : (b : ℕ) (xs : List ℕ) → is_lf b ≡ false → NoLf xs → NoLf (b ∷ xs)
NoLf-cons b xs e h zero l = e
NoLf-cons b xs e h (suc k) l = h k (omega arith)

-- a text that begins with a line feed
cut_at_lf : (b : ℕ) (bs : List ℕ) → is_lf b ≡ true → Cut (b ∷ bs)
unfolding lines_of
cut_at_lf b bs e = let same = eqb-true b 10 e in record {
  front = [];
  rest = bs;
  clean = λ k l. absurd (omega arith);
  is = ap (λ (x : ℕ). x ∷ bs) same;
  lines = rw e (ap (λ (x : ℕ). (x ∷ []) ∷ lines_of bs) same);
}

-- each text is one or the other
pub cut : (t : List ℕ) → 0 < length t → Cut t ⊎ Last t
unfolding lines_of
cut [] h = absurd (omega arith)
cut (b ∷ []) h = elim (cases_Bool (is_lf b)) [
  | inl e ↦ inl (cut_at_lf b [] e)
  | inr e ↦ inr (record { clean = NoLf-cons b [] e (λ k l. absurd (omega arith)); lines = rw e refl })
]
cut (b ∷ d ∷ bs) h = elim (cases_Bool (is_lf b)) [
  | inl e ↦ inl (cut_at_lf b (d ∷ bs) e)
  | inr e ↦ elim (cut (d ∷ bs) (omega arith)) [
    | inl c ↦ inl (record {
      front = b ∷ c.front;
      rest = c.rest;
      clean = NoLf-cons b c.front e c.clean;
      is = ap (λ (x : List ℕ). b ∷ x) c.is;
      lines = rw e (ap (onto_first b) c.lines);
    })
    | inr c ↦ inr (record { clean = NoLf-cons b (d ∷ bs) e c.clean; lines = rw e (ap (onto_first b) c.lines) })
  ]
]

-- no line feed is counted there
pub count_none : (xs : List ℕ) → NoLf xs → count_by is_lf xs ≡ 0
count_none [] h = refl
count_none (x ∷ xs) h =
    let here = h 0 (omega arith) in
    let more = count_none xs (λ k l. h (suc k) (omega arith)) in
    rw (here, more)

NoLf-take : (n : ℕ) (xs : List ℕ) → NoLf xs → NoLf (take n xs)
NoLf-take n xs h k l =
    let short = length-take n xs in
    ap is_lf (get_or-take n xs k 0 (omega (arith, short))) ∙ h k (omega (arith, short))

-- where the last line begins
last_from : (xs : List ℕ) → length xs - length (after_last is_lf xs) ≡ length xs - suffix_len (λ x. not (is_lf x)) xs
last_from xs =
    let s = suffix_len-le-length (λ x. not (is_lf x)) xs in
    let whole = length-drop (length xs - suffix_len (λ x. not (is_lf x)) xs) xs in
    omega (arith, s, whole)

-- a text is what stands before its last line, and that line
pub last_seam : (xs : List ℕ) → xs ≡ take (length xs - length (after_last is_lf xs)) xs ++ after_last is_lf xs
last_seam xs = sym (ap (λ (n : ℕ). take n xs ++ after_last is_lf xs) (last_from xs)
    ∙ take-append-drop (length xs - suffix_len (λ x. not (is_lf x)) xs) xs)

-- the last line is no longer than the text
pub last_short : (xs : List ℕ) → length (after_last is_lf xs) ≤ length xs
last_short xs = let whole = length-drop (length xs - suffix_len (λ x. not (is_lf x)) xs) xs in omega (arith, whole)

-- a text may be cut before its last line
pub last_boundary : (bs last : List ℕ) (at : ℕ) → length bs ≡ at → last ≡ after_last is_lf bs → IsUtf8 last
    → IsCharBoundary bs (at - length last)
last_boundary bs last at long e u =
    let front = take (length bs - length (after_last is_lf bs)) bs in
    let seam : bs ≡ front ++ last = last_seam bs ∙ ap (λ (x : List ℕ). front ++ x) (sym e) in
    let size : length front ≡ at - length last = length-take-le (length bs - length (after_last is_lf bs)) bs (omega arith)
    ∙ (let k : length bs - length (after_last is_lf bs) ≡ at - length last = omega (arith, ap length e) in k) in
    subst (IsCharBoundary bs) size (IsCharBoundary-at_seam bs front last seam u)

-- a choice by a number that is equal either way
pick : (a n z : ℕ) → z ≡ 0 → cond (eqb a n) (n + z) a ≡ a
pick a n z none = elim (cases_eq a n) [
  | inl e ↦ rw (eq-eqb a n e) (omega arith)
  | inr d ↦ rw (ne_eqb a n d) refl
]

-- a line in front leaves what stands after the last line feed
pub suffix_after : (front x : List ℕ) → suffix_len (λ b. not (is_lf b)) ((front ++ 10 ∷ []) ++ x) ≡ suffix_len (λ b. not (is_lf b)) x
suffix_after front x =
    let p = λ (b : ℕ). not (is_lf b) in
    let l = front ++ 10 ∷ [] in
    let stops : prefix_len p (reverse l) ≡ 0 = ap (prefix_len p) (reverse-append front (10 ∷ [])) in
    ap (prefix_len p) (reverse-append l x) ∙ prefix_len-append p (reverse x) (reverse l)
    ∙ pick (prefix_len p (reverse x)) (length (reverse x)) (prefix_len p (reverse l)) stops

-- the same of the last line
pub after_last_after : (front x : List ℕ) → after_last is_lf ((front ++ 10 ∷ []) ++ x) ≡ after_last is_lf x
after_last_after front x =
    let l = front ++ 10 ∷ [] in
    let s = suffix_len-le-length (λ b. not (is_lf b)) x in
    let whole = length-append l x in
    let following = suffix_after front x in
    let place : length (l ++ x) - suffix_len (λ b. not (is_lf b)) (l ++ x) ≡ length l + (length x - suffix_len (λ b. not (is_lf b)) x) =
    omega (arith, s, whole, following) in
    ap (λ (n : ℕ). drop n (l ++ x)) place ∙ sym (drop-drop (length x - suffix_len (λ b. not (is_lf b)) x) (length l) (l ++ x))
    ∙ ap (drop (length x - suffix_len (λ b. not (is_lf b)) x)) (drop_at l x (length l) refl)

-- a line in front counts one
pub count_after : (front x : List ℕ) → NoLf front → count_by is_lf ((front ++ 10 ∷ []) ++ x) ≡ 1 + count_by is_lf x
count_after front x clean =
    let f = λ (b : ℕ). cond (is_lf b) 1 0 in
    let none = count_none front clean in
    let parts = sum_by-append f front (10 ∷ []) in
    let whole = sum_by-append f (front ++ 10 ∷ []) x in
    let one : count_by is_lf (10 ∷ []) ≡ 1 = refl in
    omega (arith, none, parts, whole, one)

-- What the first bad byte tells of text and fault.
-- the fault of a bad byte at an offset
abbrev pub told_fault : ℕ → List ℕ → ℕ × LineError → LineFault
told_fault row t q =
    record {
      code = q.1;
      place = record {
        row = row + count_by is_lf (take q.0 t);
        column =
            length (chars (after_last is_lf (take q.0 t)));
      };
    }

abbrev pub Told : Charset → ℕ → List ℕ → Option (ℕ × LineError) → Type 0
Told c row t None = (good_text c (lines_of t) ≡ t) × (line_fault c row (lines_of t) ≡ None)
Told c row t (Some q) =
    (good_text c (lines_of t) ≡ take (q.0 - length (after_last is_lf (take q.0 t))) t) ×
    (line_fault c row (lines_of t) ≡ Some (told_fault row t q))

-- the first line is bad
told_here : (c : Charset) (row : ℕ) (t l : List ℕ) (ls : List (List ℕ)) (q : ℕ × LineError) → lines_of t ≡ l ∷ ls → first_bad c l ≡ Some q
    → q.0 < length l → take q.0 t ≡ take q.0 l → NoLf (take q.0 l) → Told c row t (Some q)
unfolding good_text line_fault
told_here c row t l ls q lines bad inside same clean =
    let last : after_last is_lf (take q.0 t) ≡ take q.0 l = ap (after_last is_lf) same ∙ after_last_none is_lf (take q.0 l) clean in
    let size : length (after_last is_lf (take q.0 t)) ≡ q.0 = ap length last ∙ length-take-le q.0 l (omega arith) in
    let from : q.0 - length (after_last is_lf (take q.0 t)) ≡ 0 = omega (arith, size) in
    let none : count_by is_lf (take q.0 t) ≡ 0 = ap (count_by is_lf) same ∙ count_none (take q.0 l) clean in
    let row_is : row + count_by is_lf (take q.0 t) ≡ row = omega (arith, none) in
    (rw (lines, bad, from) refl, rw (lines, bad, row_is, last) refl)

-- a text that is one line
told_last : (c : Charset) (row : ℕ) (t : List ℕ) (r : Option (ℕ × LineError)) → Last t → first_bad c t ≡ r → Told c row t r
unfolding good_text line_fault
told_last c row t None last bad = let lines = last.lines in (rw (lines, bad) (append-nil t), rw (lines, bad) refl)
told_last c row t (Some q) last bad =
    let found = bad_found c t (Some q) bad in
    told_here c row t t [] q last.lines bad (omega (arith, found.1)) refl (NoLf-take q.0 t last.clean)

-- after a good first line
told_next : (c : Charset) (row : ℕ) (front rest : List ℕ) (s : Option (ℕ × LineError)) → NoLf front
    → lines_of ((front ++ 10 ∷ []) ++ rest) ≡ (front ++ 10 ∷ []) ∷ lines_of rest → first_bad c (front ++ 10 ∷ []) ≡ None
    → first_bad c rest ≡ s → Told c (row + 1) rest s → Told c row ((front ++ 10 ∷ []) ++ rest) (first_bad c ((front ++ 10 ∷ []) ++ rest))
unfolding good_text line_fault
told_next c row front rest None clean lines good bad told =
    let l = front ++ 10 ∷ [] in
    subst (Told c row (l ++ rest)) (sym (first_bad_neither c front rest good bad))
    (rw (lines, good) (ap (λ (x : List ℕ). l ++ x) told.0), rw (lines, good) told.1)
told_next c row front rest (Some q) clean lines good bad told =
    let l = front ++ 10 ∷ [] in
    let t = l ++ rest in
    let p = length l + q.0 in
    let part = take q.0 rest in
    let less : p - length l ≡ q.0 = omega arith in
    let before : take p t ≡ l ++ part = take_over l rest p (omega arith) ∙ ap (λ (n : ℕ). l ++ take n rest) less in
    let last : after_last is_lf (take p t) ≡ after_last is_lf part = ap (after_last is_lf) before ∙ after_last_after front part in
    let small = last_short part in
    let short = length-take q.0 rest in
    let n = p - length (after_last is_lf (take p t)) in
    let size : length (after_last is_lf (take p t)) ≡ length (after_last is_lf part) = ap length last in
    let from : n - length l ≡ q.0 - length (after_last is_lf part) = omega (arith, size, small, short) in
    let text : l ++ take (q.0 - length (after_last is_lf part)) rest ≡ take n t =
    sym (take_over l rest n (omega (arith, size, small, short)) ∙ ap (λ (k : ℕ). l ++ take k rest) from) in
    let count : count_by is_lf (take p t) ≡ 1 + count_by is_lf part = ap (count_by is_lf) before ∙ count_after front part clean in
    let row_is : row + 1 + count_by is_lf part ≡ row + count_by is_lf (take p t) = omega (arith, count) in
    let fault : told_fault (row + 1) rest q ≡ told_fault row t (p, q.1) =
    ap (λ (r : ℕ). let f : LineFault = record { code = q.1; place = record { row = r; column = length (chars (after_last is_lf part)) } } in
    f) row_is
    ∙ ap (λ (x : List ℕ). let f : LineFault =
    record { code = q.1; place = record { row = row + count_by is_lf (take p t); column = length (chars x) } } in f) (sym last) in
    subst (Told c row t) (sym (first_bad_next c front rest q good bad))
    (rw (lines, good) (ap (λ (x : List ℕ). l ++ x) told.0 ∙ text), rw (lines, good) (told.1 ∙ ap (λ (f : LineFault). Some f) fault))

-- a text that begins with a line, good or bad
told_line : (c : Charset) (row : ℕ) (front rest : List ℕ) (r : Option (ℕ × LineError)) → NoLf front
    → lines_of ((front ++ 10 ∷ []) ++ rest) ≡ (front ++ 10 ∷ []) ∷ lines_of rest → first_bad c (front ++ 10 ∷ []) ≡ r
    → Told c (row + 1) rest (first_bad c rest) → Told c row ((front ++ 10 ∷ []) ++ rest) (first_bad c ((front ++ 10 ∷ []) ++ rest))
told_line c row front rest None clean lines is told = told_next c row front rest (first_bad c rest) clean lines is refl told
told_line c row front rest (Some q) clean lines is told =
    let l = front ++ 10 ∷ [] in
    let found = bad_found c l (Some q) is in
    let long : length l ≡ length front + 1 = length-append front (10 ∷ []) in
    let inside : q.0 < length l = omega (arith, found.1) in
    let in_front : take q.0 l ≡ take q.0 front = take-append-le q.0 front (10 ∷ []) (omega arith) in
    subst (Told c row (l ++ rest)) (sym (first_bad_line c front rest q is))
    (told_here c row (l ++ rest) l (lines_of rest) q lines is inside (take-append-le q.0 l rest (omega arith))
    (subst NoLf (sym in_front) (NoLf-take q.0 front clean)))

-- any text up to a length
told_within : (n : ℕ) (c : Charset) (row : ℕ) (t : List ℕ) → length t ≤ n → Told c row t (first_bad c t)
unfolding good_text line_fault lines_of
told_within n c row [] h = (refl, refl)
told_within zero c row (b ∷ bs) h = absurd (omega arith)
told_within (suc n) c row (b ∷ bs) h = elim (cut (b ∷ bs) (omega arith)) [
  | inl k ↦
      let size = ap length k.is in
      let more = length-append (k.front ++ 10 ∷ []) k.rest in
      let long = length-append k.front (10 ∷ []) in
      let lines : lines_of ((k.front ++ 10 ∷ []) ++ k.rest) ≡ (k.front ++ 10 ∷ []) ∷ lines_of k.rest = ap lines_of (sym k.is) ∙ k.lines in
      let told = told_line c row k.front k.rest (first_bad c (k.front ++ 10 ∷ [])) k.clean lines refl
      (told_within n c (row + 1) k.rest (omega (arith, size, more, long))) in
      subst (λ (t : List ℕ). Told c row t (first_bad c t)) (sym k.is) told
  | inr last ↦ told_last c row (b ∷ bs) (first_bad c (b ∷ bs)) last refl
]

-- text and fault of any text
pub told_all : (c : Charset) (row : ℕ) (t : List ℕ) (r : Option (ℕ × LineError)) → r ≡ first_bad c t → Told c row t r
told_all c row t r e = subst (Told c row t) (sym e) (told_within (length t) c row t (omega arith))

-- a text without a mark in front and without a bad byte is the source's own
pub all_good : (named : Named) (t : List ℕ) → has_mark t ≡ false → None ≡ first_bad named.charset t
    → parts_under named t ≡ record { encoding = named; text = t; fault = None }
all_good named t mark none = let told = told_all named.charset 1 t None none in rw (mark, told.0, told.1) refl

-- the first two lines
pub lines_at : (front rest : List ℕ) → NoLf front → lines_of ((front ++ 10 ∷ []) ++ rest) ≡ (front ++ 10 ∷ []) ∷ lines_of rest
unfolding lines_of
lines_at [] rest h = refl
lines_at (b ∷ front) rest h =
    let here = h 0 (omega arith) in
    rw here (ap (onto_first b) (lines_at front rest (λ k l. h (suc k) (omega arith))))

-- a text without line feeds is one line
pub lines_alone : (t : List ℕ) → NoLf t → 0 < length t → lines_of t ≡ t ∷ []
unfolding lines_of
lines_alone [] h some = absurd (omega arith)
lines_alone (b ∷ []) h some = let here = h 0 (omega arith) in rw here refl
lines_alone (b ∷ d ∷ bs) h some =
    let here = h 0 (omega arith) in
    rw here (ap (onto_first b) (lines_alone (d ∷ bs) (λ k l. h (suc k) (omega arith)) (omega arith)))

-- it is the first line, and there is no second
pub first_of_alone : (t : List ℕ) → NoLf t → (nth_line t 0 ≡ t) × (nth_line t 1 ≡ [])
unfolding lines_of
first_of_alone [] h = (refl, refl)
first_of_alone (b ∷ bs) h = let lines = lines_alone (b ∷ bs) h (omega arith) in (rw lines refl, rw lines refl)

-- after a line in front stands the second
pub first_of_more : (front rest : List ℕ) → NoLf front → (nth_line ((front ++ 10 ∷ []) ++ rest) 0 ≡ front ++ 10 ∷ []) ×
    (nth_line ((front ++ 10 ∷ []) ++ rest) 1 ≡ nth_line rest 0)
first_of_more front rest h = let lines = lines_at front rest h in (rw lines refl, rw lines refl)

-- the same from what `memchr` answers
pub first_unless_found : (t : List ℕ) (r : Option ℕ) → IsFirstByte (is_byte 10) t r → r ≡ None → (nth_line t 0 ≡ t) × (nth_line t 1 ≡ [])
first_unless_found t r answer is =
    let none = rw is at answer in
    first_of_alone t (λ k h. false_from_ne_true (is_lf (get_or t k 0)) (none k zero-le h))

pub first_if_found : (t : List ℕ) (r : Option ℕ) (i : ℕ) → IsFirstByte (is_byte 10) t r → r ≡ Some i
    → (nth_line t 0 ≡ take (i + 1) t) × (nth_line t 1 ≡ nth_line (drop (i + 1) t) 0)
first_if_found t r i answer is =
    let parts = rw is at answer in
    let inside : i < length t = parts.0.high in
    let lf : get_or t i 0 ≡ 10 = eqb-true (get_or t i 0) 10 parts.1 in
    let front : take (i + 1) t ≡ take i t ++ 10 ∷ [] = take_more t i 0 inside ∙ ap (λ (b : ℕ). take i t ++ b ∷ []) lf in
    let whole : (take i t ++ 10 ∷ []) ++ drop (i + 1) t ≡ t = ap (λ (x : List ℕ). x ++ drop (i + 1) t) (sym front)
    ∙ take-append-drop (i + 1) t in
    let size = length-take-le i t (omega arith) in
    let clean : NoLf (take i t) = λ k h. ap is_lf (get_or-take i t k 0 (omega (arith, size)))
    ∙ false_from_ne_true (is_lf (get_or t k 0)) (parts.0.before k zero-le (omega (arith, size))) in
    let lines = first_of_more (take i t) (drop (i + 1) t) clean in
    (ap (λ (x : List ℕ). nth_line x 0) (sym whole) ∙ lines.0 ∙ sym front, ap (λ (x : List ℕ). nth_line x 1) (sym whole) ∙ lines.1)

-- no line stands past the end
pub nothing_left : (t : List ℕ) → nth_line (take (length t - length t) (drop (length t) t)) 0 ≡ []
unfolding lines_of
nothing_left t = let none : length t - length t ≡ 0 = omega arith in rw none refl
