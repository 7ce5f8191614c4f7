-- Parts of the law that a lister goes on from a cursor as if it had listed all before.
--
-- Carries: begun_at, cursor_skips, cursor_moves and 12 more, for Agreement, Ahead, Returning,
-- Skips and 7 more. On: Law.
use Rattle.std.proofs.Common.{◌≡◌, ℕ, ◌+◌, ◌-◌, ◌≤◌, ◌<◌, suc, leb, Bool, true, false, not, ◌==◌, List, [], ◌∷◌, ◌++◌, length, take}
use Rattle.std.proofs.Common.{drop, reverse, refl, ap, ◌∙◌, sym, arith, Option, Some, None, append_assoc, ⊎_elim}
use Rattle.std.specs.List.{prefix_len}
use Rattle.std.proofs.lemmas.List.{append-nil, reverse-append, reverse-reverse, take-append-drop, append_cancel_left}
use Rattle.std.proofs.lemmas.Str.{length-le-encodes}
use Rattle.std.proofs.lemmas.Bool.Decides.{nat_tests}
use Rattle.pylex_listing.specs.declared.entries.ListingFault.{ListingFault}
use Rattle.pylex_lexeme.specs.Lexemes.{Lexeme, cut}
use Rattle.pylex_listing.specs.Lines.{text_before, is_of_blanks}
use Rattle.pylex_lexeme.specs.Chars.{bytes_in}
use Rattle.pylex_listing.specs.Listing.{last_line, Source}
use Rattle.std.specs.List.{count_by}
use Rattle.std.proofs.lemmas.Grind.{common_steps}
use Rattle.std.proofs.lemmas.Bool.{cases_Bool, and_right}
use Rattle.pylex_listing.specs.declared.entries.Entry.{Entry}
use Rattle.pylex.specs.Cursors.{lexemes_to, CursorParts, given_last_first, has_no_text, is_encoding, cursor, cursor_at}
use Rattle.pylex_listing.specs.Laws.{is_indent}
use Rattle.pylex.specs.Cursors.{with_text}
use Rattle.pylex_listing.specs.Machine.{State, gives, layout_of, entry_by, after, ends_line, stop_of, tail_of, last_line_end, run}
use Rattle.pylex_listing.specs.declared.point.Point.{Point}
use Rattle.pylex.specs.Standing.{front_to, back_from, line_begin, Agrees, standing_by}
use Rattle.pylex_listing.proofs.Callers.{bytes_in-append, Full, drop_of}

-- Where a line has begun, its start counts no more.
abbrev pub begun_at : State → Point → State
begun_at s p = record s { line = p; margin = false }

gives_same : (s : State) (p : Point) (x : Lexeme) → s.margin ≡ false → gives s x ≡ gives (begun_at s p) x
unfolding gives layout_of entry_by
gives_same s p x m = rw m refl

-- lexemes, in order, after those before them, which stand last first
abbrev pub onto : List Lexeme → List Lexeme → List Lexeme
onto [] h = h
onto (x ∷ xs) h = onto xs (x ∷ h)

bytes_grow : (fs h : List Lexeme) → bytes_in (text_before h) ≤ bytes_in (text_before (onto fs h))
bytes_grow [] h = omega arith
bytes_grow (x ∷ fs) h =
    let b = bytes_in-append (text_before h) x.text in
    let g : bytes_in (text_before (x ∷ h)) ≤ bytes_in (text_before (onto fs (x ∷ h))) = bytes_grow fs (x ∷ h) in
    omega arith

lexemes_stop : (h xs : List Lexeme) → Full xs → lexemes_to (bytes_in (text_before h)) h xs ≡ h
lexemes_stop h [] n = refl
lexemes_stop h (x ∷ xs) n =
    let b = bytes_in-append (text_before h) x.text in
    let m : 0 < bytes_in x.text = n.0 in
    let e : leb (bytes_in (text_before h ++ x.text)) (bytes_in (text_before h)) ≡ false = grind (arith, nat_tests) in
    rw e refl

-- The lexemes that end at a place or before it are those before it.
pub lexemes_at : (fs h xs : List Lexeme) → Full xs → lexemes_to (bytes_in (text_before (onto fs h))) h (fs ++ xs) ≡ onto fs h
lexemes_at [] h xs n = lexemes_stop h xs n
lexemes_at (x ∷ fs) h xs n =
    let g : bytes_in (text_before (x ∷ h)) ≤ bytes_in (text_before (onto fs (x ∷ h))) = bytes_grow fs (x ∷ h) in
    let e : leb (bytes_in (text_before h ++ x.text)) (bytes_in (text_before (onto fs (x ∷ h)))) ≡ true = grind (arith, nat_tests) in
    rw e (lexemes_at fs (x ∷ h) xs n)

-- A text's front by bytes.
bytes_cons : (c : ℕ) (cs : List ℕ) → bytes_in (c ∷ cs) ≡ bytes_in (c ∷ []) + bytes_in cs
bytes_cons c cs = bytes_in-append (c ∷ []) cs

some_byte : (c : ℕ) → 1 ≤ bytes_in (c ∷ [])
some_byte c = length-le-encodes (c ∷ [])

pub front_in : (x y : List ℕ) (n : ℕ) → bytes_in x ≤ n → front_to n (x ++ y) ≡ x ++ front_to (n - bytes_in x) y
unfolding front_to
front_in [] y n h = let e : n - 0 ≡ n = omega arith in rw e refl
front_in (c ∷ x) y n h =
    let b = bytes_cons c x in
    let l : leb (bytes_in (c ∷ [])) n ≡ true = grind (arith, nat_tests) in
    let e : n - bytes_in (c ∷ x) ≡ (n - bytes_in (c ∷ [])) - bytes_in x = omega arith in
    let i : front_to (n - bytes_in (c ∷ [])) (x ++ y) ≡ x ++ front_to ((n - bytes_in (c ∷ [])) - bytes_in x) y =
    front_in x y (n - bytes_in (c ∷ [])) (omega arith) in
    rw (l, e) (ap (λ t. c ∷ t) i)

pub front_zero : (t : List ℕ) → front_to 0 t ≡ []
unfolding front_to
front_zero [] = refl
front_zero (c ∷ t) =
    let s = some_byte c in
    let l : leb (bytes_in (c ∷ [])) 0 ≡ false = grind (arith, nat_tests) in
    rw l refl

pub front_bytes : (t : List ℕ) (n : ℕ) → bytes_in (front_to n t) ≤ n
unfolding front_to
front_bytes [] n = omega arith
front_bytes (c ∷ t) n = ⊎_elim
    (λ (l : leb (bytes_in (c ∷ [])) n ≡ true).
    let h = front_bytes t (n - bytes_in (c ∷ [])) in
    let b = bytes_cons c (front_to (n - bytes_in (c ∷ [])) t) in
    let m : bytes_in (c ∷ []) ≤ n = grind (arith, nat_tests) in
    rw l (omega arith))
    (λ (l : leb (bytes_in (c ∷ [])) n ≡ false). rw l (omega arith))
    (cases_Bool (leb (bytes_in (c ∷ [])) n))

pub front_and_back : (t : List ℕ) (n : ℕ) → front_to n t ++ back_from n t ≡ t
unfolding front_to
front_and_back [] n = refl
front_and_back (c ∷ t) n = ⊎_elim
    (λ (l : leb (bytes_in (c ∷ [])) n ≡ true). let h = front_and_back t (n - bytes_in (c ∷ [])) in rw l (ap (λ s. c ∷ s) h))
    (λ (l : leb (bytes_in (c ∷ [])) n ≡ false). rw l refl)
    (cases_Bool (leb (bytes_in (c ∷ [])) n))

-- A line's begin, by bytes: its text and what is after it depend on what stands from the begin on.
abbrev pub goes_on : ℕ → Bool
goes_on c = not (c == 10)

abbrev pub lines_before : List ℕ → List ℕ
lines_before f = reverse (drop (prefix_len goes_on (reverse f)) (reverse f))

pub last_split : (f : List ℕ) → lines_before f ++ last_line f ≡ f
unfolding last_line
last_split f =
    sym (reverse-append (take (prefix_len goes_on (reverse f)) (reverse f)) (drop (prefix_len goes_on (reverse f)) (reverse f)))
    ∙ ap reverse (take-append-drop (prefix_len goes_on (reverse f)) (reverse f))
    ∙ reverse-reverse f

record Parted (n : ℕ) (text : List ℕ) : Type 0 where
  line : last_line (front_to n text) ≡ front_to (n - line_begin n text) (back_from (line_begin n text) text)
  left : back_from n text ≡ back_from (n - line_begin n text) (back_from (line_begin n text) text)

parted : (n : ℕ) (text : List ℕ) → Parted n text
parted n text =
    let f = front_to n text in
    let pre = lines_before f in
    let line = last_line f in
    let back = back_from n text in
    let fs : pre ++ line ≡ f = last_split f in
    let ts : text ≡ pre ++ (line ++ back) = sym (front_and_back text n) ∙ ap (λ t. t ++ back) (sym fs) ∙ append_assoc pre line back in
    let bs : bytes_in pre + bytes_in line ≡ bytes_in f = sym (bytes_in-append pre line) ∙ ap bytes_in fs in
    let fb = front_bytes text n in
    let lb : line_begin n text ≡ bytes_in pre = omega arith in
    let fp : front_to (bytes_in pre) text ≡ pre =
    ap (front_to (bytes_in pre)) ts ∙ front_in pre (line ++ back) (bytes_in pre) (omega arith)
    ∙ ap (λ k. pre ++ front_to k (line ++ back)) (none (bytes_in pre))
    ∙ ap (λ t. pre ++ t) (front_zero (line ++ back)) ∙ append-nil pre in
    let bf : back_from (bytes_in pre) text ≡ line ++ back = ap (λ t. drop (length t) text) fp ∙ ap (drop (length pre)) ts
    ∙ drop_of pre (line ++ back) in
    let bl : back_from (line_begin n text) text ≡ line ++ back = ap (λ k. back_from k text) lb ∙ bf in
    let fl : pre ++ line ≡ pre ++ front_to (n - bytes_in pre) (line ++ back) = fs ∙ ap (front_to n) ts
    ∙ front_in pre (line ++ back) n (omega arith) in
    let ll : line ≡ front_to (n - line_begin n text) (back_from (line_begin n text) text) =
    append_cancel_left pre line (front_to (n - bytes_in pre) (line ++ back)) fl ∙ sym (ap (λ k. front_to (n - k) (line ++ back)) lb)
    ∙ sym (ap (front_to (n - line_begin n text)) bl) in
    record {
      line = ll;
      left = sym (drop_of line back) ∙ ap (λ t. drop (length t) (line ++ back)) ll
          ∙ sym (ap (drop (length (front_to (n - line_begin n text) (back_from (line_begin n text) text)))) bl);
    }
  where
    none : (k : ℕ) → k - k ≡ 0
    none k = omega arith

-- a cursor leads to one and the same place in sources that agree
pub agreeing : (a b : Source) (c : CursorParts) → Agrees a b c.offset → standing_by b c ≡ standing_by a c
unfolding standing_by
agreeing a b c g =
    let p = parted c.offset a.text in
    let q = parted c.offset b.text in
    let e = g.begins in
    let s = g.same in
    let line : last_line (front_to c.offset b.text) ≡ last_line (front_to c.offset a.text) =
    q.line ∙ sym (ap (λ k. front_to (c.offset - k) (back_from (line_begin c.offset b.text) b.text)) e)
    ∙ sym (ap (front_to (c.offset - line_begin c.offset a.text)) s) ∙ sym p.line in
    let left : back_from c.offset b.text ≡ back_from c.offset a.text =
    q.left ∙ sym (ap (λ k. back_from (c.offset - k) (back_from (line_begin c.offset b.text) b.text)) e)
    ∙ sym (ap (back_from (c.offset - line_begin c.offset a.text)) s) ∙ sym p.left in
    let f = g.fault in
    rw (line, left, f) refl

-- A run doesn't see where a line began that has begun.
after_ends : (s : State) (p : Point) (x : Lexeme) → s.margin ≡ false → ends_line s x ≡ true → after (begun_at s p) x ≡ after s x
unfolding after
after_ends s p x m e = rw (e, m) refl

after_goes : (s : State) (p : Point) (x : Lexeme) → s.margin ≡ false → ends_line s x ≡ false
    → after (begun_at s p) x ≡ begun_at (after s x) p
unfolding after
after_goes s p x m e = let b = and_right (is_of_blanks x) false refl in rw (e, m, b) refl

pub margin_goes : (s : State) (x : Lexeme) → s.margin ≡ false → ends_line s x ≡ false → (after s x).margin ≡ false
unfolding after
margin_goes s x m e = let b = and_right (is_of_blanks x) false refl in rw (e, m) b

stop_same : (fault : Option ListingFault) (left : List ℕ) (s : State) (p : Point) → s.margin ≡ false
    → stop_of fault s left ≡ stop_of fault (begun_at s p) left
unfolding stop_of layout_of tail_of last_line_end
stop_same None left s p m = rw m refl
stop_same (Some f) left s p m = rw m refl

pub run_same : (fault : Option ListingFault) (left : List ℕ) (xs : List Lexeme) (s : State) (p : Point) → s.margin ≡ false
    → run fault left s xs ≡ run fault left (begun_at s p) xs
run_same fault left [] s p m = stop_same fault left s p m
run_same fault left (x ∷ xs) s p m =
    ap (λ g. g ++ run fault left (after s x) xs) (gives_same s p x m)
    ∙ ap (λ r. gives (begun_at s p) x ++ r)
    (⊎_elim
    (λ (e : ends_line s x ≡ true). ap (λ t. run fault left t xs) (sym (after_ends s p x m e)))
    (λ (e : ends_line s x ≡ false). run_same fault left xs (after s x) p (margin_goes s x m e)
    ∙ ap (λ t. run fault left t xs) (sym (after_goes s p x m e)))
    (cases_Bool (ends_line s x)))

-- One more entry: without text it counts as skipped, with text the point is after it.
pub cursor_skips : (s : Source) (k : ℕ) (e : Entry) → given_last_first s (k + 1) ≡ e ∷ given_last_first s k → has_no_text e ≡ true
    → is_encoding e ≡ false → cursor s (k + 1) ≡ record (cursor s k) { given = k + 1; skip = (cursor s k).skip + 1 }
unfolding cursor cursor_at with_text
cursor_skips s k e g t n =
    let o : (m : ℕ) → 1 + m ≡ suc m = λ m. omega arith in
    let c : (es : List Entry) → count_by (λ d. not (is_encoding d)) (e ∷ es) ≡ count_by (λ d. not (is_encoding d)) es +
    1 = λ es. skipped e es n in
    rw (g, t, o (prefix_len has_no_text (given_last_first s k))) (ap (λ q. record (cursor s k) { given = k + 1; skip = q })
    (c (take (prefix_len has_no_text (given_last_first s k)) (given_last_first s k))))
  where
    skipped : (e : Entry) (es : List Entry) → is_encoding e ≡ false → count_by (λ d. not (is_encoding d)) (e ∷ es) ≡ count_by
        (λ d. not (is_encoding d)) es + 1
    skipped e es n = grind (arith, common_steps)

pub cursor_moves : (s : Source) (k : ℕ) (e : Entry) → given_last_first s (k + 1) ≡ e ∷ given_last_first s k → has_no_text e ≡ false
    → cursor s (k + 1) ≡ cursor_at (k + 1) 0 (is_indent e) (lexemes_to e.to [] (cut s.text))
unfolding cursor with_text
cursor_moves s k e g t = rw (g, t) refl
