-- Carries: after_line, first_line, push_char, push_row, push_below. On: the lines of bytes, by their line feeds; what a character is shown by.
use Rattle.std.proofs.Common.{◌≡◌, ℕ, zero, suc, ◌+◌, ◌-◌, ◌<◌, List, [], ◌∷◌, ◌++◌, length, take, drop, get_or, None, Some, Option}
use Rattle.std.proofs.Common.{sym, ap, refl, ◌∙◌, arith, zero-le, Bool, true, false, replicate, append_assoc, append-nil}
use Rattle.std.specs.Prelude.{◌==◌, ◌||◌, not}
use Rattle.std.specs.List.{flat_map, onto_first}
use Rattle.std.specs.Str.{chars, encode_utf8_all}
use Rattle.std.proofs.lemmas.Bool.{eqb-true, ne_eqb, false_from_ne_true}
use Rattle.std.proofs.lemmas.List.{drop-drop, length-take-le, get_or-take, take-append-drop, take_more}
use Rattle.std.proofs.lemmas.Str.{encodes-append}
use Rattle.memchr.specs.Find.{IsFirstByte, is_byte}
use Rattle.pysource.specs.Lines.{lines_of}
use Rattle.pysource.specs.Places.{is_lf}
use Rattle.pysource.specs.Reprs.{escaped, is_unprintable}
use Rattle.pysource.specs.Sources.{nth_line}
use Rattle.pysource.proofs.Callers.Faults.{NoLf, lines_at}
use Rattle.pysource.specs.Characters.{space}
use Rattle.pytoken.proofs.Callers.TextLemmas.{no_chars}
use Rattle.pyast_fault.specs.Rows.{below, below_char, shown_char}

-- bytes without line feeds are one line
alone : (t : List ℕ) → NoLf t → 0 < length t → lines_of t ≡ t ∷ []
unfolding lines_of
alone [] h some = absurd (omega arith)
alone (b ∷ []) h some = let here = h 0 (omega arith) in rw here refl
alone (b ∷ d ∷ bs) h some =
    let here = h 0 (omega arith) in
    rw here (ap (onto_first b) (alone (d ∷ bs) (λ k l. h (suc k) (omega arith)) (omega arith)))

only_line : (t : List ℕ) → NoLf t → (nth_line t 0 ≡ t) × ((n : ℕ) → nth_line t (suc n) ≡ [])
unfolding lines_of
only_line [] h = (refl, λ n. refl)
only_line (b ∷ bs) h = let lines = alone (b ∷ bs) h (omega arith) in (rw lines refl, λ n. rw lines refl)

-- where no line feed is found
pub last_line : (t : List ℕ) (r : Option ℕ) → IsFirstByte (is_byte 10) t r → r ≡ None
    → (nth_line t 0 ≡ t) × ((n : ℕ) → nth_line t (suc n) ≡ [])
last_line t r answer is =
    let none = rw is at answer in
    only_line t (λ k h. false_from_ne_true (is_lf (get_or t k 0)) (none k zero-le h))

-- where one is
pub lines_after : (t : List ℕ) (r : Option ℕ) (i : ℕ) → IsFirstByte (is_byte 10) t r → r ≡ Some i
    → (nth_line t 0 ≡ take (i + 1) t) × ((n : ℕ) → nth_line t (suc n) ≡ nth_line (drop (i + 1) t) n)
lines_after t r i answer is =
    let parts = rw is at answer in
    let inside : i < length t = parts.0.high in
    let lf : get_or t i 0 ≡ 10 = eqb-true (get_or t i 0) 10 parts.1 in
    let front : take (i + 1) t ≡ take i t ++ 10 ∷ [] = take_more t i 0 inside ∙ ap (λ (b : ℕ). take i t ++ b ∷ []) lf in
    let whole : (take i t ++ 10 ∷ []) ++ drop (i + 1) t ≡ t = ap (λ (x : List ℕ). x ++ drop (i + 1) t) (sym front)
    ∙ take-append-drop (i + 1) t in
    let size = length-take-le i t (omega arith) in
    let clean : NoLf (take i t) = λ k h. ap is_lf (get_or-take i t k 0 (omega (arith, size)))
    ∙ false_from_ne_true (is_lf (get_or t k 0)) (parts.0.before k zero-le (omega (arith, size))) in
    let lines = lines_at (take i t) (drop (i + 1) t) clean in (
      ap (λ (x : List ℕ). nth_line x 0) (sym whole) ∙ (rw lines (sym front)),
      λ n. ap (λ (x : List ℕ). nth_line x (suc n)) (sym whole) ∙ (rw lines refl),
    )

pub no_line : (n : ℕ) → nth_line [] n ≡ []
unfolding lines_of
no_line n = refl

-- An escape is written of a character that isn't shown as it is, unless it has another one in a repr.
pub escaped_char : (c : ℕ) → false ≡ (c == 9 || not (is_unprintable c)) → (c ≡ 10 → ⊥) → (c ≡ 13 → ⊥) → (c ≡ 92 → ⊥)
    → escaped is_unprintable 10 c ≡ shown_char c
escaped_char c hidden feed return backslash = by_tab (c == 9) refl (is_unprintable c) refl
  where
    by_tab : (t : Bool) → (c == 9) ≡ t → (u : Bool) → is_unprintable c ≡ u → escaped is_unprintable 10 c ≡ shown_char c
    by_tab true e u f = let h = rw e at hidden in cc
    by_tab false e false f = let h = rw (e, f) at hidden in cc
    by_tab false e true f =
        let one = ne_eqb c 92 backslash in
        let two = ne_eqb c 10 feed in
        let three = ne_eqb c 13 return in
        rw (e, f, one, two, three) refl

-- ---- A text that is walked character by character.

drop_nil : {A : Type 0} (n : ℕ) → drop {A = A} n [] ≡ []
drop_nil zero = refl
drop_nil (suc n) = refl

take_nil : {A : Type 0} (n : ℕ) → take {A = A} n [] ≡ []
take_nil zero = refl
take_nil (suc n) = refl

-- where a text ends before so many characters
pub drop_past : (k n : ℕ) (cs : List ℕ) → k < n → drop k cs ≡ [] → [] ≡ drop n cs
drop_past k n cs h e =
    let sum : k + (n - k) ≡ n = omega (arith, h) in
    sym (drop_nil (n - k)) ∙ ap (drop (n - k)) (sym e) ∙ drop-drop (n - k) k cs ∙ ap (λ (m : ℕ). drop m cs) sum

-- what is shown of a character, and then of those that are left
pub row_goes : (k m : ℕ) (before after total bs rest : List ℕ) (c : ℕ) → k < m → chars bs ≡ c ∷ chars rest
    → after ≡ before ++ encode_utf8_all (shown_char c)
    → before ++ encode_utf8_all (flat_map shown_char (take (m - k) (chars bs))) ≡ total
    → after ++ encode_utf8_all (flat_map shown_char (take (m - (k + 1)) (chars rest))) ≡ total
row_goes k m before after total bs rest c h cut is whole =
    let j = m - (k + 1) in
    let one : m - k ≡ suc j = omega (arith, h) in
    let left : List ℕ = flat_map shown_char (take j (chars rest)) in
    let split : encode_utf8_all (flat_map shown_char (take (m - k) (chars bs))) ≡ encode_utf8_all (shown_char c) ++ encode_utf8_all left =
    ap (λ (n : ℕ). encode_utf8_all (flat_map shown_char (take n (chars bs)))) one
    ∙ ap (λ (cs : List ℕ). encode_utf8_all (flat_map shown_char (take (suc j) cs))) cut
    ∙ encodes-append (shown_char c) left in
    ap (λ (t : List ℕ). t ++ encode_utf8_all left) is
    ∙ append_assoc before (encode_utf8_all (shown_char c)) (encode_utf8_all left)
    ∙ ap (λ (t : List ℕ). before ++ t) (sym split)
    ∙ whole

-- no character is left
pub row_ends : (n : ℕ) (before total bs : List ℕ) → length bs ≡ 0
    → before ++ encode_utf8_all (flat_map shown_char (take n (chars bs))) ≡ total → before ≡ total
row_ends n before total bs e whole =
    sym (ap (λ (cs : List ℕ). before ++ encode_utf8_all (flat_map shown_char cs)) (ap (take n) (no_chars bs e) ∙ take_nil n)
    ∙ append-nil before)
    ∙ whole

-- what stands below a character, and then below those that are left
pub below_goes : (k m : ℕ) (before after total bs rest : List ℕ) (c : ℕ) → k < m → chars bs ≡ c ∷ chars rest
    → after ≡ before ++ below_char c → before ++ below (m - k) (chars bs) ≡ total
    → after ++ below (m - (k + 1)) (chars rest) ≡ total
below_goes k m before after total bs rest c h cut is whole =
    let j = m - (k + 1) in
    let one : m - k ≡ suc j = omega (arith, h) in
    let blanks : suc j - suc (length (chars rest)) ≡ j - length (chars rest) = omega arith in
    let split : below (m - k) (chars bs) ≡ below_char c ++ below j (chars rest) =
    ap (λ (n : ℕ). below n (chars bs)) one ∙ ap (below (suc j)) cut
    ∙ ap (λ (n : ℕ). (below_char c ++ flat_map below_char (take j (chars rest))) ++ replicate n space) blanks
    ∙ append_assoc (below_char c) (flat_map below_char (take j (chars rest))) (replicate (j - length (chars rest)) space) in
    ap (λ (t : List ℕ). t ++ below j (chars rest)) is
    ∙ append_assoc before (below_char c) (below j (chars rest))
    ∙ ap (λ (t : List ℕ). before ++ t) (sym split)
    ∙ whole

-- a blank below a character that there isn't
pub below_lacks : (k m : ℕ) (before after total bs rest : List ℕ) → k < m → length bs ≡ 0 → rest ≡ bs → after ≡ before ++ (space ∷ [])
    → before ++ below (m - k) (chars bs) ≡ total → after ++ below (m - (k + 1)) (chars rest) ≡ total
below_lacks k m before after total bs rest h e same is whole =
    let j = m - (k + 1) in
    let one : m - k ≡ suc j = omega (arith, h) in
    let none : chars bs ≡ [] = no_chars bs e in
    let few : (n : ℕ) → below n [] ≡ replicate n space = λ n.
    ap (λ (cs : List ℕ). flat_map below_char cs ++ replicate (n - 0) space) (take_nil n)
    ∙ ap (λ (i : ℕ). replicate i space) (let z : n - 0 ≡ n = omega arith in z) in
    let left : below j (chars rest) ≡ replicate j space = ap (λ (t : List ℕ). below j (chars t)) same ∙ ap (below j) none ∙ few j in
    let split : below (m - k) (chars bs) ≡ space ∷ replicate j space =
    ap (λ (n : ℕ). below n (chars bs)) one ∙ ap (below (suc j)) none ∙ few (suc j) in
    ap (λ (t : List ℕ). t ++ below j (chars rest)) is
    ∙ append_assoc before (space ∷ []) (below j (chars rest))
    ∙ ap (λ (t : List ℕ). before ++ space ∷ t) left
    ∙ ap (λ (t : List ℕ). before ++ t) (sym split)
    ∙ whole

pub below_other : (c : ℕ) → (c ≡ 9 → ⊥) → below_char c ≡ replicate (length (shown_char c)) space
below_other c other = let no_tab = ne_eqb c 9 other in rw no_tab refl
