-- Sources that agree from an offset's line on agree from each later one's on.
--
-- Carries: same_front_bytes, agrees_on, for CursorBounds, Cursoring. On: Resume, Law.
use Rattle.std.proofs.Common.{◌≡◌, ℕ, suc, ◌+◌, ◌-◌, ◌≤◌, true, false, ◌==◌, List, [], ◌∷◌, ◌++◌, length, drop, reverse, refl, ap, ◌∙◌, sym}
use Rattle.std.proofs.Common.{arith, append_assoc, ⊎_elim}
use Rattle.std.specs.List.{take_while, prefix_len}
use Rattle.std.proofs.lemmas.List.{append-nil, reverse-append, reverse-reverse}
use Rattle.std.proofs.lemmas.List.Sums.{take_while-cons}
use Rattle.std.proofs.lemmas.Bool.{cases_Bool}
use Rattle.pylex_lexeme.specs.Chars.{bytes_in}
use Rattle.pylex_listing.specs.Listing.{Source, last_line}
use Rattle.pylex.specs.Standing.{front_to, back_from, line_begin, Agrees}
use Rattle.pylex_listing.proofs.Callers.{bytes_in-append, drop_of}
use Rattle.pylex.proofs.Resumption.Resume.{goes_on, lines_before, last_split, front_in, front_zero, front_bytes, front_and_back}

-- Whole lines do not count towards the last line of a text.
taken_none : (c : ℕ) (r : List ℕ) → (c == 10) ≡ true → take_while goes_on (c ∷ r) ≡ []
taken_none c r e = rw take_while-cons (rw e refl)

taken_one : (c : ℕ) (r : List ℕ) → (c == 10) ≡ false → take_while goes_on (c ∷ r) ≡ c ∷ take_while goes_on r
taken_one c r e = rw take_while-cons (rw e refl)

abbrev after_line : List ℕ → List ℕ
after_line r = drop (prefix_len goes_on r) r

left_all : (c : ℕ) (r : List ℕ) → (c == 10) ≡ true → after_line (c ∷ r) ≡ c ∷ r
left_all c r e = rw e refl

left_on : (c : ℕ) (r : List ℕ) → (c == 10) ≡ false → after_line (c ∷ r) ≡ after_line r
left_on c r e = let o : 1 + prefix_len goes_on r ≡ suc (prefix_len goes_on r) = omega arith in rw (e, o) refl

stops_there : (r : List ℕ) → take_while goes_on (after_line r) ≡ []
stops_there [] = refl
stops_there (c ∷ r) = ⊎_elim
    (λ (e : (c == 10) ≡ true). ap (take_while goes_on) (left_all c r e) ∙ taken_none c r e)
    (λ (e : (c == 10) ≡ false). ap (take_while goes_on) (left_on c r e) ∙ stops_there r)
    (cases_Bool (c == 10))

stops_following : (u r : List ℕ) → take_while goes_on (u ++ after_line r) ≡ take_while goes_on u
stops_following [] r = stops_there r
stops_following (c ∷ u) r = ⊎_elim
    (λ (e : (c == 10) ≡ true). taken_none c (u ++ after_line r) e ∙ sym (taken_none c u e))
    (λ (e : (c == 10) ≡ false). taken_one c (u ++ after_line r) e ∙ ap (λ t. c ∷ t) (stops_following u r) ∙ sym (taken_one c u e))
    (cases_Bool (c == 10))

whole_lines : (f u : List ℕ) → last_line (lines_before f ++ u) ≡ last_line u
unfolding last_line
whole_lines f u =
    let r = reverse f in
    ap (λ t. reverse (take_while goes_on t)) (reverse-append (lines_before f) u
    ∙ ap (λ t. reverse u ++ t) (reverse-reverse (drop (prefix_len goes_on r) r)))
    ∙ ap reverse (stops_following (reverse u) r)

-- A text's whole lines before an offset, and what begins with the offset's line.
record Lined (n : ℕ) (text : List ℕ) : Type 0 where
  lines : List ℕ
  whole : text ≡ lines ++ back_from (line_begin n text) text
  bytes : bytes_in lines ≡ line_begin n text
  within : line_begin n text ≤ n
  skips : (u : List ℕ) → last_line (lines ++ u) ≡ last_line u

no_less : (n : ℕ) → n - n ≡ 0
no_less n = omega arith

lined : (n : ℕ) (text : List ℕ) → Lined n text
lined n text =
    let f = front_to n text in
    let pre = lines_before f in
    let line = last_line f in
    let back = back_from n text in
    let fs : pre ++ line ≡ f = last_split f in
    let ts : text ≡ pre ++ (line ++ back) = sym (front_and_back text n) ∙ ap (λ t. t ++ back) (sym fs) ∙ append_assoc pre line back in
    let bs : bytes_in pre + bytes_in line ≡ bytes_in f = sym (bytes_in-append pre line) ∙ ap bytes_in fs in
    let fb = front_bytes text n in
    let lb : line_begin n text ≡ bytes_in pre = omega arith in
    let fp : front_to (bytes_in pre) text ≡ pre =
    ap (front_to (bytes_in pre)) ts ∙ front_in pre (line ++ back) (bytes_in pre) (omega arith)
    ∙ ap (λ k. pre ++ front_to k (line ++ back)) (no_less (bytes_in pre))
    ∙ ap (λ t. pre ++ t) (front_zero (line ++ back)) ∙ append-nil pre in
    let bf : back_from (bytes_in pre) text ≡ line ++ back = ap (λ t. drop (length t) text) fp ∙ ap (drop (length pre)) ts
    ∙ drop_of pre (line ++ back) in
    let bl : back_from (line_begin n text) text ≡ line ++ back = ap (λ k. back_from k text) lb ∙ bf in
    record {
      lines = pre;
      whole = ts ∙ ap (λ t. pre ++ t) (sym bl);
      bytes = sym lb;
      within = omega arith;
      skips = whole_lines f;
    }

drop_parts : (a x b : List ℕ) → drop (length (a ++ x)) (a ++ b) ≡ drop (length x) b
drop_parts [] x b = refl
drop_parts (c ∷ a) x b = drop_parts a x b

-- A later offset, told by what begins with the line.
record Onward (n m : ℕ) (text : List ℕ) : Type 0 where
  begins : line_begin m text ≡ line_begin n text + line_begin (m - line_begin n text) (back_from (line_begin n text) text)
  same : back_from (line_begin m text) text ≡ back_from (line_begin (m - line_begin n text) (back_from (line_begin n text) text))
      (back_from (line_begin n text) text)
  sizes : bytes_in (front_to m text) ≡ line_begin n text + bytes_in (front_to (m - line_begin n text) (back_from (line_begin n text) text))

onward : (n m : ℕ) (text : List ℕ) → n ≤ m → Onward n m text
onward n m text h =
    let d = lined n text in
    let pre = d.lines in
    let c = line_begin n text in
    let rest = back_from c text in
    let w = d.within in
    let b = d.bytes in
    let le : bytes_in pre ≤ m = omega arith in
    let at = λ (k : ℕ) (i : bytes_in pre ≤ k). ap (front_to k) d.whole ∙ front_in pre rest k i ∙ ap (λ j. pre ++ front_to (k - j) rest) b in
    let fm : front_to m text ≡ pre ++ front_to (m - c) rest = at m le in
    let sm : bytes_in (front_to m text) ≡ c + bytes_in (front_to (m - c) rest) = ap bytes_in fm
    ∙ bytes_in-append pre (front_to (m - c) rest) ∙ ap (λ j. j + bytes_in (front_to (m - c) rest)) b in
    let lm : last_line (front_to m text) ≡ last_line (front_to (m - c) rest) = ap last_line fm ∙ d.skips (front_to (m - c) rest) in
    let lb : bytes_in (last_line (front_to m text)) ≡ bytes_in (last_line (front_to (m - c) rest)) = ap bytes_in lm in
    let i = lined (m - c) rest in
    let split : bytes_in (lines_before (front_to (m - c) rest)) + bytes_in (last_line (front_to (m - c) rest)) ≡ bytes_in
    (front_to (m - c) rest) = sym (bytes_in-append (lines_before (front_to (m - c) rest)) (last_line (front_to (m - c) rest)))
    ∙ ap bytes_in (last_split (front_to (m - c) rest)) in
    let j = line_begin (m - c) rest in
    let begins : line_begin m text ≡ c + j = omega arith in
    let fj : front_to (c + j) text ≡ pre ++ front_to ((c + j) - c) rest = at (c + j) (omega arith) in
    let less : (c + j) - c ≡ j = omega arith in
    record {
      begins = begins;
      same = ap (λ k. back_from k text) begins ∙ ap (λ t. drop (length t) text) (fj ∙ ap (λ k. pre ++ front_to k rest) less)
          ∙ ap (drop (length (pre ++ front_to j rest))) d.whole ∙ drop_parts pre (front_to j rest) rest;
      sizes = sm;
    }

pub agrees_on : (a b : Source) (n m : ℕ) → n ≤ m → Agrees a b n → Agrees a b m
agrees_on a b n m h g =
    let p = onward n m a.text h in
    let q = onward n m b.text h in
    let e = g.begins in
    let s = g.same in
    record {
      encoding = g.encoding;
      fault = g.fault;
      same_length = g.same_length;
      begins = p.begins ∙ ap (λ k. k + line_begin (m - k) (back_from (line_begin n a.text) a.text)) e
          ∙ ap (λ t. line_begin n b.text + line_begin (m - line_begin n b.text) t) s ∙ sym q.begins;
      same = p.same ∙ ap (λ k. back_from (line_begin (m - k) (back_from (line_begin n a.text) a.text))
          (back_from (line_begin n a.text) a.text)) e ∙ ap (λ t. back_from (line_begin (m - line_begin n b.text) t) t) s ∙ sym q.same;
    }

-- an offset where a character of one ends is one where a character of the other ends
pub same_front_bytes : (a b : Source) (n : ℕ) → Agrees a b n → bytes_in (front_to n a.text) ≡ bytes_in (front_to n b.text)
same_front_bytes a b n g =
    let p = onward n n a.text (omega arith) in
    let q = onward n n b.text (omega arith) in
    let e = g.begins in
    let s = g.same in
    p.sizes ∙ ap (λ k. k + bytes_in (front_to (n - k) (back_from (line_begin n a.text) a.text))) e
    ∙ ap (λ t. line_begin n b.text + bytes_in (front_to (n - line_begin n b.text) t)) s ∙ sym q.sizes
