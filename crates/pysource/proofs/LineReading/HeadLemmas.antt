-- The lines that decide the encoding.
--
-- Carries: read_head. On: ComingLemmas, CutLemmas.
use Rattle.std.proofs.Common.{◌≡◌, ℕ, ◌+◌, ◌-◌, ◌≤◌, Bool, true, false, List, [], ◌∷◌, ◌++◌, length, take, drop, get_or, sym, ap, subst}
use Rattle.std.proofs.Common.{refl, inl, inr, ◌∙◌, arith, append-nil, append_assoc, length-append}
use Rattle.std.specs.Prelude.{◌⊎◌, ◌==◌, ◌&&◌, ◌||◌, not, nat_lt, if◌then◌else◌}
use Rattle.std.proofs.lemmas.Bool.{cases_Bool, cases_lt, eq-eqb, lt-ltb}
use Rattle.std.proofs.lemmas.List.{take-append-drop, take_all, take-append-le, drop-append-le, length-take-le, length-drop}
use Rattle.std.proofs.lemmas.List.{get_or_append_left, get_or-drop}
use Rattle.std.proofs.Math.Bool.{and-false}
use Rattle.pysource.specs.Cookies.{encoding_of, without_mark, has_mark, cookie_of, leads_on}
use Rattle.pysource.specs.Sources.{nth_line}
use Rattle.pysource.specs.Taking.{NoLfFrom, LineAt, LineThere, LineLeft, LineUnread}
use Rattle.pysource.specs.Streams.{FollowsAt, searches_second, decides, head_len, ends_line}
use Rattle.pysource.specs.Inner.Heads.{Head, Headless}
use Rattle.pysource.specs.declared.buffers.Intake.{Intake}
use Rattle.pysource.specs.declared.line_reader.Reach.{Reach}
use Rattle.pysource.specs.declared.line_reader.Reach.TheVariants.{Reading, End}
use Rattle.pysource.proofs.FaultyLines.CutLemmas.{NoLf, first_of_alone, first_of_more}
use Rattle.pysource.proofs.LineReading.ComingLemmas.{no_lf_all, line_front, line_clean, ends_at_lf, ends_nowhere}

-- a second cookie is of no account where the second line isn't searched
unsearched : {X : Type 0} (n : ℕ) (b u v : Bool) (x y y' z : X) → ((n == 0) && b) ≡ false
    → (if nat_lt 0 n then x else (if b && u then y else z)) ≡ (if nat_lt 0 n then x else (if b && v then y' else z))
unsearched n false u v x y y' z e = refl
unsearched n true u v x y y' z e = elim (cases_lt 0 n) [
  | inl some ↦ let is : nat_lt 0 n ≡ true = lt-ltb 0 n some in rw is refl
  | inr none ↦ let is : (n == 0) ≡ true = eq-eqb n 0 (omega (arith, none)) in absurd (let f = rw is at e in cc)
]

pub encoding_unsearched : (f s t : List ℕ) → searches_second f ≡ false → encoding_of f s ≡ encoding_of f t
encoding_unsearched f s t e =
    unsearched (length (cookie_of (without_mark f))) (leads_on (without_mark f)) (nat_lt 0 (length (cookie_of s)))
    (nat_lt 0 (length (cookie_of t))) _ _ _ _ e

-- bytes after a line feed make no byte order mark
mark_front : (front rest : List ℕ) → has_mark ((front ++ 10 ∷ []) ++ rest) ≡ has_mark (front ++ 10 ∷ [])
mark_front [] rest = refl
mark_front (a ∷ []) rest = refl
mark_front (a ∷ b ∷ []) rest = refl
mark_front (a ∷ b ∷ c ∷ front) rest = refl

mark_long : (bytes : List ℕ) → has_mark bytes ≡ true → 3 ≤ length bytes
mark_long [] e = absurd (cc)
mark_long (a ∷ []) e = absurd (let f = simp and-false at e in cc)
mark_long (a ∷ b ∷ []) e = absurd (let f = simp and-false at e in cc)
mark_long (a ∷ b ∷ c ∷ bytes) e = omega arith

-- the first line of more bytes
at_front : (end : ℕ) (bytes more : List ℕ) → LineAt 0 end bytes → bytes ++ more ≡ (take (end - 1) bytes ++ 10 ∷ []) ++
    (drop end bytes ++ more)
at_front end bytes more at =
    ap (λ (w : List ℕ). w ++ more) (sym (take-append-drop end bytes)) ∙ append_assoc (take end bytes) (drop end bytes) more
    ∙ ap (λ (w : List ℕ). w ++ (drop end bytes ++ more)) (line_front end bytes at)

pub nth_first : (end : ℕ) (bytes more : List ℕ) → LineAt 0 end bytes → nth_line (bytes ++ more) 0 ≡ take end bytes
nth_first end bytes more at =
    ap (λ (w : List ℕ). nth_line w 0) (at_front end bytes more at)
    ∙ (first_of_more (take (end - 1) bytes) (drop end bytes ++ more) (line_clean end bytes at)).0
    ∙ sym (line_front end bytes at)

nth_second : (end : ℕ) (bytes more : List ℕ) → LineAt 0 end bytes → nth_line (bytes ++ more) 1 ≡ nth_line (drop end bytes ++ more) 0
nth_second end bytes more at =
    ap (λ (w : List ℕ). nth_line w 1) (at_front end bytes more at)
    ∙ (first_of_more (take (end - 1) bytes) (drop end bytes ++ more) (line_clean end bytes at)).1

line_ends : (end : ℕ) (bytes : List ℕ) → LineAt 0 end bytes → ends_line (take end bytes) ≡ true
line_ends end bytes at = ap ends_line (line_front end bytes at) ∙ ends_at_lf (take (end - 1) bytes)

-- the mark of more bytes
mark_at : (end : ℕ) (bytes more : List ℕ) → LineAt 0 end bytes → has_mark (bytes ++ more) ≡ has_mark bytes
mark_at end bytes more at =
    let here : has_mark (bytes ++ []) ≡ has_mark bytes = ap has_mark (append-nil bytes) in
    ap has_mark (at_front end bytes more at) ∙ mark_front (take (end - 1) bytes) (drop end bytes ++ more)
    ∙ sym (ap has_mark (at_front end bytes [] at) ∙ mark_front (take (end - 1) bytes) (drop end bytes ++ [])) ∙ here

without_mark_at : (end : ℕ) (bytes more : List ℕ) → LineAt 0 end bytes → without_mark (bytes ++ more) ≡ without_mark bytes ++ more
without_mark_at end bytes more at =
    let same = mark_at end bytes more at in
    elim (cases_Bool (has_mark bytes)) [
      | inl marked ↦ rw (same, marked) (drop-append-le 3 bytes more (mark_long bytes marked))
      | inr plain ↦ rw (same, plain) refl
    ]

-- nothing follows at the end
pub at_end : (r : Reach) (more : List ℕ) (broken : Bool) → r ≡ End → FollowsAt r more broken → (more ≡ []) × (broken ≡ false)
at_end r more broken e f = subst (λ (q : Reach). FollowsAt q more broken) e f

not_or_true : (b : Bool) → (not b || true) ≡ true
not_or_true true = refl
not_or_true false = refl

-- when the lines are decided
decided_one : (broken : Bool) (bytes line : List ℕ) → nth_line bytes 0 ≡ line → ends_line line ≡ true → searches_second line ≡ false
    → decides broken bytes ≡ true
decided_one broken bytes line first ends none =
    let p : (ends_line (nth_line bytes 0) && (not (searches_second (nth_line bytes 0)) || ends_line (nth_line bytes 1))) ≡ true =
    rw (first, ends, none) refl in
    ap (λ (b : Bool). not broken || b) p ∙ not_or_true broken

decided_two : (broken : Bool) (bytes line : List ℕ) → nth_line bytes 0 ≡ line → ends_line line ≡ true → ends_line (nth_line bytes 1) ≡ true
    → decides broken bytes ≡ true
decided_two broken bytes line first ends second =
    let p : (ends_line (nth_line bytes 0) && (not (searches_second (nth_line bytes 0)) || ends_line (nth_line bytes 1))) ≡ true =
    ap (λ (b : Bool). ends_line (nth_line bytes 0) && (not (searches_second (nth_line bytes 0)) || b)) second
    ∙ ap (λ (b : Bool). ends_line (nth_line bytes 0) && b) (not_or_true (searches_second (nth_line bytes 0)))
    ∙ ap (λ (w : List ℕ). ends_line w && true) first ∙ ap (λ (b : Bool). b && true) ends in
    ap (λ (b : Bool). not broken || b) p ∙ not_or_true broken

decided_end : (broken : Bool) (bytes : List ℕ) → broken ≡ false → decides broken bytes ≡ true
decided_end broken bytes e = ap (λ (b : Bool). decides b bytes) e

-- how long the lines are that decide
head_len_one : (bytes line : List ℕ) → nth_line bytes 0 ≡ line → length line ≤ head_len bytes
head_len_one bytes line first = let e = ap length first in omega (arith, e)

head_len_two : (bytes line : List ℕ) → nth_line bytes 0 ≡ line → searches_second line ≡ true
    → head_len bytes ≡ length line + length (nth_line bytes 1)
head_len_two bytes line first searched =
    ap (λ (w : List ℕ). length w + (if searches_second w then length (nth_line bytes 1) else 0)) first
    ∙ ap (λ (b : Bool). length line + (if b then length (nth_line bytes 1) else 0)) searched

-- the first line is the last
pub head_left : (first : ℕ) (i : Intake) → LineLeft 0 first i → Head i first first
head_left first i left =
    let alone = first_of_alone i.buffer (no_lf_all i.buffer left.none) in
    let whole : i.buffer ≡ take first i.buffer = sym (take_all first i.buffer (omega (arith, left.all))) in
    record {
      low = omega arith;
      high = omega (arith, left.all);
      reach = inr left.reach;
      first_is = λ more broken f.
          let none = at_end i.reach more broken left.reach f in
          ap (λ (w : List ℕ). nth_line (i.buffer ++ w) 0) none.0 ∙ ap (λ (w : List ℕ). nth_line w 0) (append-nil i.buffer) ∙ alone.0
          ∙ whole;
      second_is = λ more broken f.
          let none = at_end i.reach more broken left.reach f in
          let zero : 0 ≡ first - first = omega arith in
          inl (ap (λ (w : List ℕ). nth_line (i.buffer ++ w) 1) none.0 ∙ ap (λ (w : List ℕ). nth_line w 1) (append-nil i.buffer) ∙ alone.1
          ∙ ap (λ (n : ℕ). take n (drop first i.buffer)) zero);
      decided = λ more broken f. decided_end broken (i.buffer ++ more) (at_end i.reach more broken left.reach f).1;
      mark = λ more broken f.
          let none = at_end i.reach more broken left.reach f in
          ap (λ (w : List ℕ). without_mark (i.buffer ++ w)) none.0 ∙ ap without_mark (append-nil i.buffer)
          ∙ sym (append-nil (without_mark i.buffer))
          ∙ ap (λ (w : List ℕ). without_mark i.buffer ++ w) (sym none.0);
      ahead = let n = head_len_one i.buffer i.buffer alone.0 in omega (arith, n);
    }

-- lines that stand at the front of some bytes stand at the front of those alone
pub nth_here : (n : ℕ) (bytes line : List ℕ) → nth_line (bytes ++ []) n ≡ line → nth_line bytes n ≡ line
nth_here n bytes line e = ap (λ (w : List ℕ). nth_line w n) (sym (append-nil bytes)) ∙ e

-- only the first line decides
pub head_one : (first : ℕ) (old i : Intake) → LineThere 0 first old i → length old.buffer ≡ 0 → i.reach ≡ Reading
    → searches_second (take first i.buffer) ≡ false → Head i first first
head_one first old i there empty reading none =
    let at = there.line in
    let size = length-take-le first i.buffer at.within in
    let long = head_len_one i.buffer (take first i.buffer) (nth_here 0 i.buffer _ (nth_first first i.buffer [] at)) in
    record {
      low = omega arith;
      high = at.within;
      reach = inl reading;
      first_is = λ more broken f. nth_first first i.buffer more at;
      second_is = λ more broken f. inr none;
      decided = λ more broken f. decided_one broken (i.buffer ++ more) (take first i.buffer) (nth_first first i.buffer more at)
          (line_ends first i.buffer at) none;
      mark = λ more broken f. without_mark_at first i.buffer more at;
      ahead = omega (arith, there.ahead, empty, size, long);
    }

-- a line stays where more bytes come
line_on : (end : ℕ) (bytes more : List ℕ) → LineAt 0 end bytes → LineAt 0 end (bytes ++ more)
line_on end bytes more at = let whole = length-append bytes more in record {
  some = at.some;
  within = omega (arith, at.within, whole);
  before = λ k low high e. at.before k low high (sym (get_or_append_left bytes more 0 k (omega (arith, at.within))) ∙ e);
  at = get_or_append_left bytes more 0 (end - 1) (omega (arith, at.within, at.some)) ∙ at.at;
}

-- a second line, from its own start
line_from : (start end : ℕ) (bytes : List ℕ) → LineAt start end bytes → LineAt 0 (end - start) (drop start bytes)
line_from start end bytes at =
    let size = length-drop start bytes in
    let last : start + (end - start - 1) ≡ end - 1 = omega (arith, at.some) in
    record {
      some = omega (arith, at.some);
      within = omega (arith, at.within, size);
      before = λ k low high e. at.before (start + k) (omega arith) (omega (arith, at.some)) (sym (get_or-drop start bytes k 0) ∙ e);
      at = get_or-drop start bytes (end - start - 1) 0 ∙ ap (λ (n : ℕ). get_or bytes n 0) last ∙ at.at;
    }

clean_from : (start : ℕ) (bytes : List ℕ) → NoLfFrom start (length bytes) bytes → NoLf (drop start bytes)
clean_from start bytes clean =
    let size = length-drop start bytes in
    no_lf_all (drop start bytes) (λ k low high e. clean (start + k) (omega arith) (omega (arith, size))
    (sym (get_or-drop start bytes k 0) ∙ e))

-- the first line where more was read after it
first_on : (first : ℕ) (mid i : Intake) (t : List ℕ) → i.buffer ≡ mid.buffer ++ t → LineAt 0 first mid.buffer
    → LineAt 0 first i.buffer × (take first i.buffer ≡ take first mid.buffer)
first_on first mid i t e at =
    (subst (LineAt 0 first) (sym e) (line_on first mid.buffer t at), ap (take first) e ∙ take-append-le first mid.buffer t at.within)

-- both lines decide
pub head_two : (first second : ℕ) (mid i : Intake) (t : List ℕ) → i.buffer ≡ mid.buffer ++ t → LineAt 0 first mid.buffer
    → length mid.buffer ≤ first + 8_192 → mid.reach ≡ Reading → searches_second (take first mid.buffer) ≡ true
    → LineThere first second mid i ⊎ LineLeft first second i → Head i first second
head_two first second mid i t e start few reading searched (inl there) =
    let on = first_on first mid i t e start in
    let at = on.0 in
    let d = drop first i.buffer in
    let next = line_from first second i.buffer there.line in
    let size = length-take-le first i.buffer at.within in
    let size2 = length-take-le (second - first) d next.within in
    let rest = length-drop first i.buffer in
    let long = head_len_two i.buffer (take first i.buffer) (nth_here 0 i.buffer _ (nth_first first i.buffer [] at))
    (ap searches_second on.1 ∙ searched) in
    let both = ap length (nth_here 1 i.buffer _ (nth_second first i.buffer [] at ∙ nth_first (second - first) d [] next)) in
    record {
      low = omega (arith, there.line.some);
      high = there.line.within;
      reach = inl (there.reach ∙ reading);
      first_is = λ more broken f. nth_first first i.buffer more at;
      second_is = λ more broken f. inl (nth_second first i.buffer more at ∙ nth_first (second - first) d more next);
      decided = λ more broken f. decided_two broken (i.buffer ++ more) (take first i.buffer) (nth_first first i.buffer more at)
          (line_ends first i.buffer at)
          (ap ends_line (nth_second first i.buffer more at ∙ nth_first (second - first) d more next) ∙ line_ends (second - first) d next);
      mark = λ more broken f. without_mark_at first i.buffer more at;
      ahead = omega (arith, there.ahead, few, size, size2, long, both, there.line.some);
    }
head_two first second mid i t e start few reading searched (inr left) =
    let on = first_on first mid i t e start in
    let at = on.0 in
    let d = drop first i.buffer in
    let rest = length-drop first i.buffer in
    let alone = first_of_alone d (clean_from first i.buffer left.none) in
    let whole : d ≡ take (second - first) d = sym (take_all (second - first) d (omega (arith, rest, left.all))) in
    let size = length-take-le first i.buffer at.within in
    let long = head_len_two i.buffer (take first i.buffer) (nth_here 0 i.buffer _ (nth_first first i.buffer [] at))
    (ap searches_second on.1 ∙ searched) in
    let both = ap length (nth_here 1 i.buffer _ (nth_second first i.buffer [] at
    ∙ ap (λ (w : List ℕ). nth_line w 0) (append-nil d) ∙ alone.0)) in
    record {
      low = omega (arith, left.all, at.within);
      high = omega (arith, left.all);
      reach = inr left.reach;
      first_is = λ more broken f. nth_first first i.buffer more at;
      second_is = λ more broken f.
          let none = at_end i.reach more broken left.reach f in
          inl (nth_second first i.buffer more at ∙ ap (λ (w : List ℕ). nth_line (d ++ w) 0) none.0
          ∙ ap (λ (w : List ℕ). nth_line w 0) (append-nil d) ∙ alone.0 ∙ whole);
      decided = λ more broken f. decided_end broken (i.buffer ++ more) (at_end i.reach more broken left.reach f).1;
      mark = λ more broken f. without_mark_at first i.buffer more at;
      ahead = omega (arith, size, long, both, rest, at.within);
    }

-- the first line could not be read whole
pub unread_one : (i : Intake) → LineUnread 0 i → Headless i
unread_one i cut =
    let clean = no_lf_all i.buffer cut.none in
    record {
      reach = cut.reach;
      undecided = ap (λ (b : Bool). b && (not (searches_second (nth_line i.buffer 0)) || ends_line (nth_line i.buffer 1)))
          (ap ends_line (first_of_alone i.buffer clean).0 ∙ ends_nowhere i.buffer clean);
    }

-- the second
pub unread_two : (first : ℕ) (mid i : Intake) (t : List ℕ) → i.buffer ≡ mid.buffer ++ t → LineAt 0 first mid.buffer
    → searches_second (take first mid.buffer) ≡ true → LineUnread first i → Headless i
unread_two first mid i t e start searched cut =
    let on = first_on first mid i t e start in
    let at = on.0 in
    let d = drop first i.buffer in
    let clean = clean_from first i.buffer cut.none in
    let here : nth_line i.buffer 0 ≡ take first i.buffer = nth_here 0 i.buffer _ (nth_first first i.buffer [] at) in
    let one : ends_line (nth_line i.buffer 0) ≡ true = ap ends_line here ∙ line_ends first i.buffer at in
    let more : searches_second (nth_line i.buffer 0) ≡ true = ap searches_second (here ∙ on.1) ∙ searched in
    let two : ends_line (nth_line i.buffer 1) ≡ false =
    ap ends_line (nth_here 1 i.buffer _ (nth_second first i.buffer [] at ∙ ap (λ (w : List ℕ). nth_line w 0) (append-nil d)
    ∙ (first_of_alone d clean).0)) ∙ ends_nowhere d clean in
    record { reach = cut.reach; undecided = rw (one, more, two) refl }
