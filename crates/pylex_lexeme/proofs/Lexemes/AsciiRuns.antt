-- Names and blanks by the run of their characters of ASCII.
--
-- Carries: ascii_name, blanks. On: Union, Prefixes, Runs, NameBytes, Classes.
use Rattle.std.proofs.Common.{◌≡◌, ℕ, Bool, true, false, ◌&&◌, ◌||◌, ◌==◌, List, [], ◌∷◌, drop, refl, sym, ◌∙◌, ap, subst, Some, arith}
use Rattle.std.proofs.Common.{⊎_elim, nat_lt}
use Rattle.std.proofs.lemmas.Bool.{eqb-true, cases_Bool, and_parts, or_parts, or_cases}
use Rattle.std.proofs.lemmas.Bool.Decides.{nat_tests}
use Rattle.unicode_ident.specs.Ident.{is_xid_continue}
use Rattle.pylex_lexeme.specs.declared.lexeme.Class.TheVariants.{Name, Blanks}
use Rattle.pylex_lexeme.specs.Chars.{begins, starts_name, is_blank_char, is_r, is_b_or_f}
use Rattle.pylex_lexeme.specs.Strings.{opens_string}
use Rattle.pylex_lexeme.specs.Lengths.{begins_pair}
use Rattle.pylex_lexeme.specs.Cuts.{TakesLexeme}
use Rattle.pylex_lexeme.specs.Inner.Frequent.{is_quote_or_wide}
use Rattle.pylex_lexeme.proofs.Fronts.Texts.{after_run}
use Rattle.pylex_lexeme.proofs.Fronts.Runs.{in_ascii, tells_ascii, run_on, run_off, run_stopped, right_is}
use Rattle.pylex_lexeme.proofs.Fronts.NameBytes.{name_byte}
use Rattle.pylex_lexeme.proofs.Strings.Prefixes.{none_two, none_pair}
use Rattle.pylex_lexeme.proofs.Lexemes.Classes.{start_continues}
use Rattle.pylex_lexeme.proofs.Lexemes.Union.{name_takes, blanks_take}

-- where the characters of ASCII that pass end, and the next one doesn't pass, all that pass end
whole_run : (p : ℕ → Bool) (cs : List ℕ) → begins p (after_run (in_ascii p) cs) ≡ false → after_run p cs ≡ after_run (in_ascii p) cs
whole_run p [] h = refl
whole_run p (c ∷ t) h =
    ⊎_elim
    (λ (k : in_ascii p c ≡ true).
    let on = run_on (in_ascii p) c t k in
    run_on p c t ((tells_ascii p).passes c k) ∙ whole_run p t (ap (begins p) (sym on) ∙ h) ∙ sym on)
    (λ (k : in_ascii p c ≡ false).
    let off = run_off (in_ascii p) c t k in
    let n : p c ≡ false = ap (begins p) (sym off) ∙ h in
    run_off p c t n ∙ sym off)
    (cases_Bool (in_ascii p c))

small_by : (c : ℕ) → nat_lt 127 c ≡ false → nat_lt c 128 ≡ true
small_by c w = grind (arith, nat_tests)

-- Blanks
blank_small : (c : ℕ) → is_blank_char c ≡ true → nat_lt c 128 ≡ true
blank_small c b = grind (arith, nat_tests)

blank_stops : (cs : List ℕ) → begins (in_ascii is_blank_char) cs ≡ false → begins is_blank_char cs ≡ false
blank_stops [] h = refl
blank_stops (c ∷ t) h =
    ⊎_elim
    (λ (b : is_blank_char c ≡ true). right_is (nat_lt c 128) (is_blank_char c) h (blank_small c b))
    (λ (b : is_blank_char c ≡ false). b)
    (cases_Bool (is_blank_char c))

pub ascii_blanks_take : (cs : List ℕ) → begins is_blank_char cs ≡ true
    → TakesLexeme cs (Some Blanks) (after_run (in_ascii is_blank_char) (drop 1 cs))
ascii_blanks_take [] h = cc
ascii_blanks_take (c ∷ t) h =
    let stop = blank_stops (after_run (in_ascii is_blank_char) t) (run_stopped (in_ascii is_blank_char) t) in
    let run : after_run is_blank_char (c ∷ t) ≡ after_run (in_ascii is_blank_char) t =
    run_on is_blank_char c t h ∙ whole_run is_blank_char t stop in
    subst (λ (r : List ℕ). TakesLexeme (c ∷ t) (Some Blanks) r) run (blanks_take (c ∷ t) h)

-- Names: a character of ASCII that a name may have
abbrev is_part : ℕ → Bool
is_part c = in_ascii is_xid_continue c

abbrev is_quote : ℕ → Bool
is_quote c = (c == 39) || (c == 34)

quote_small : (c : ℕ) → is_quote c ≡ true → nat_lt c 128 ≡ true
quote_small c q = grind (arith, nat_tests)

quote_off : (c : ℕ) → is_quote c ≡ true → is_part c ≡ false
quote_off c q =
    ⊎_elim
    (λ (e : (c == 39) ≡ true). let f : c ≡ 39 = eqb-true c 39 e in rw f (sym (name_byte 39)))
    (λ (e : (c == 34) ≡ true). let f : c ≡ 34 = eqb-true c 34 e in rw f (sym (name_byte 34)))
    (or_cases (c == 39) (c == 34) q)

part_at : (k : ℕ) → is_part k ≡ true → (c : ℕ) → (c == k) ≡ true → is_part c ≡ true
part_at k h c e = let f : c ≡ k = eqb-true c k e in rw f h

part_of_two : (k l : ℕ) → is_part k ≡ true → is_part l ≡ true → (c : ℕ) → ((c == k) || (c == l)) ≡ true → is_part c ≡ true
part_of_two k l h i c e = ⊎_elim (part_at k h c) (part_at l i c) (or_cases (c == k) (c == l) e)

r_part : (c : ℕ) → is_r c ≡ true → is_part c ≡ true
r_part c e = part_of_two 114 82 (sym (name_byte 114)) (sym (name_byte 82)) c e

b_or_f_part : (c : ℕ) → is_b_or_f c ≡ true → is_part c ≡ true
b_or_f_part c e =
    ⊎_elim
    (part_of_two 98 66 (sym (name_byte 98)) (sym (name_byte 66)) c)
    (part_of_two 102 70 (sym (name_byte 102)) (sym (name_byte 70)) c)
    (or_cases ((c == 98) || (c == 66)) ((c == 102) || (c == 70)) e)

-- where no quote follows a run of them, none stands before the run either
no_quote : (cs : List ℕ) → begins is_quote_or_wide (after_run is_part cs) ≡ false → begins is_quote cs ≡ false
no_quote [] h = refl
no_quote (c ∷ t) h =
    ⊎_elim
    (λ (q : is_quote c ≡ true).
    let off = run_off is_part c t (quote_off c q) in
    let b : is_quote_or_wide c ≡ false = ap (begins is_quote_or_wide) (sym off) ∙ h in
    (or_parts (nat_lt 127 c) (is_quote c) b).1)
    (λ (q : is_quote c ≡ false). q)
    (cases_Bool (is_quote c))

-- nor after its first character
no_quote_after : (a : ℕ → Bool) → ((c : ℕ) → a c ≡ true → is_part c ≡ true) → (cs : List ℕ) → begins a cs ≡ true
    → begins is_quote_or_wide (after_run is_part cs) ≡ false → begins is_quote (drop 1 cs) ≡ false
no_quote_after a on [] e h = cc
no_quote_after a on (c ∷ t) e h = no_quote t (ap (begins is_quote_or_wide) (sym (run_on is_part c t (on c e))) ∙ h)

start_no_quote : (c : ℕ) → starts_name c ≡ true → is_quote c ≡ false
start_no_quote c s =
    ⊎_elim
    (λ (q : is_quote c ≡ true).
    let n : is_xid_continue c ≡ false = right_is (nat_lt c 128) (is_xid_continue c) (quote_off c q) (quote_small c q) in
    let y : true ≡ false = sym (start_continues c s) ∙ n in
    cc)
    (λ (q : is_quote c ≡ false). q)
    (cases_Bool (is_quote c))

-- so no prefix of a string stands there
no_string : (c : ℕ) (t : List ℕ) → starts_name c ≡ true → begins is_quote_or_wide (after_run is_part t) ≡ false
    → opens_string (c ∷ t) ≡ false
no_string c t s h =
    ⊎_elim
    (λ (p : begins_pair (c ∷ t) ≡ true).
    none_two (c ∷ t) (start_no_quote c s) (no_quote t h)
    (⊎_elim
    (λ (x : (is_r c && begins is_b_or_f t) ≡ true). no_quote_after is_b_or_f b_or_f_part t (and_parts (is_r c) (begins is_b_or_f t) x).1 h)
    (λ (x : (is_b_or_f c && begins is_r t) ≡ true). no_quote_after is_r r_part t (and_parts (is_b_or_f c) (begins is_r t) x).1 h)
    (or_cases (is_r c && begins is_b_or_f t) (is_b_or_f c && begins is_r t) p)))
    (λ (p : begins_pair (c ∷ t) ≡ false). none_pair (c ∷ t) (start_no_quote c s) (no_quote t h) p)
    (cases_Bool (begins_pair (c ∷ t)))

part_stops : (cs : List ℕ) → begins is_quote_or_wide cs ≡ false → begins is_part cs ≡ false → begins is_xid_continue cs ≡ false
part_stops [] h i = refl
part_stops (c ∷ t) h i =
    right_is (nat_lt c 128) (is_xid_continue c) i (small_by c (or_parts (nat_lt 127 c) (is_quote c) h).0)

pub ascii_name_takes : (cs : List ℕ) → begins starts_name cs ≡ true
    → begins is_quote_or_wide (after_run (in_ascii is_xid_continue) (drop 1 cs)) ≡ false
    → TakesLexeme cs (Some Name) (after_run (in_ascii is_xid_continue) (drop 1 cs))
ascii_name_takes [] s h = cc
ascii_name_takes (c ∷ t) s h =
    let stop = part_stops (after_run is_part t) h (run_stopped is_part t) in
    let run : after_run is_xid_continue (c ∷ t) ≡ after_run is_part t =
    run_on is_xid_continue c t (start_continues c s) ∙ whole_run is_xid_continue t stop in
    subst (λ (r : List ℕ). TakesLexeme (c ∷ t) (Some Name) r) run (name_takes (c ∷ t) (no_string c t s h) s)
