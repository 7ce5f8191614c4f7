-- The longest lexeme of all classes, where one class alone has fronts.
--
-- Carries: lexeme, begins_significant, blanks, carriage_return, comment, join, line_feed, literal
-- and 3 more. On: Classes, Best, OperatorLengths, Longest and 5 more.
use Rattle.std.proofs.Common.{◌≡◌, ℕ, ◌≤◌, ◌<◌, Bool, true, false, ◌&&◌, ◌||◌, ◌==◌, List, [], ◌∷◌, length, drop, take, refl, sym, ◌∙◌, ap}
use Rattle.std.proofs.Common.{subst, Option, Some, None, arith, suc, zero, cond, ⊎_elim, eqb, leb, ltb, not, is_some, slice_get, add_comm}
use Rattle.std.proofs.Common.{add-one}
use Rattle.std.specs.Prelude.{option_map}
use Rattle.std.specs.List.{list_all, list_any, prefix_len}
use Rattle.std.proofs.lemmas.Bool.{eqb-true, leb-true, cases_lt, not-true, cases_Bool, and_parts, or_parts, or_cases}
use Rattle.pylex_lexeme.specs.declared.kinds.Exact.{Exact}
use Rattle.std.proofs.lemmas.Bool.Decides.{nat_tests}
use Rattle.unicode_ident.proofs.IdentLemmas.{is_xid_start-ascii}
use Rattle.std.specs.Char.{is_ascii_alphabetic}
use Rattle.unicode_ident.specs.Ident.{is_xid_continue}
use Rattle.pylex_lexeme.specs.declared.lexeme.Class.{Class}
use Rattle.pylex_lexeme.specs.declared.lexeme.Class.TheVariants.{Name, Number, Operator as OperatorClass, Comment, Blanks, LineEnd, Join}
use Rattle.pylex_lexeme.specs.declared.lexeme.Class.TheVariants.{String}
use Rattle.pylex_lexeme.specs.Chars.{begins, starts_name, is_comment_part, is_blank_char, is_prefix_letter, is_r, is_b_or_f}
use Rattle.pylex_lexeme.specs.Numbers.{headed, is_decimal_digit, is_point, is_number}
use Rattle.pylex_lexeme.specs.Strings.{opens_string, opens_triple, is_triple_string, is_single_string, counts_as_string, is_prefix}
use Rattle.pylex_lexeme.specs.Lexemes.{is_name, is_comment, are_blanks, is_join, longest_within, class_in, plain_class, lexeme_len}
use Rattle.pylex_lexeme.specs.Lexemes.{lexeme_at, Lexeme, is_line_end}
use Rattle.pylex_lexeme.specs.Lengths.{longest, begins_pair, begins_number, number_len, operator_at}
use Rattle.pylex_lexeme.specs.Operators.{is_operator, exact_of}
use Rattle.pylex_lexeme.specs.Cuts.{TakesLexeme, BeginsOther, starts_other, begins_significant}
use Rattle.pylex_lexeme.proofs.Computing.{classes}
use Rattle.pylex_lexeme.proofs.Fronts.Longest.{IsBest, longest_within_is, longest_within_none, run_best}
use Rattle.pylex_lexeme.proofs.Fronts.Best.{NoFront, headed_best, headed_rest}
use Rattle.pylex_lexeme.proofs.Strings.Prefixes.{one_prefix, two_prefix}
use Rattle.pylex_lexeme.proofs.Numbers.NumberBest.{number_best, longest_number, longest_more}
use Rattle.pylex_lexeme.proofs.Lexemes.OperatorLengths.{operator_best, operator_none_at, operator_some, exact_off, exact_none}
use Rattle.pylex_lexeme.proofs.Lexemes.Classes.{words, heads, by_words, no_operator, no_number, start_continues, name_class, comment_class}
use Rattle.pylex_lexeme.proofs.Lexemes.Classes.{blank_class, end_class, join_class}

-- no class has the empty text
no_class : (o t : Bool) → cond o (cond (cond t (is_triple_string []) (is_single_string [])) (Some String) None) (plain_class []) ≡ None
unfolding classes
no_class true true = refl
no_class true false = refl
no_class false t = refl

pub class_none : (cs : List ℕ) → class_in cs [] ≡ None
unfolding class_in counts_as_string
class_none cs = no_class (opens_string cs) (opens_triple cs)

-- the class of the lexeme at a place
pub class_at : (cs : List ℕ) → option_map (λ (x : Lexeme). x.«class») (lexeme_at cs) ≡ class_in cs (take (lexeme_len cs) cs)
unfolding lexeme_at
class_at cs = of (class_in cs (take (lexeme_len cs) cs))
  where
    of : (o : Option Class)
        → option_map (λ (x : Lexeme). x.«class») (option_map (λ (k : Class). record { «class» = k; text = take (lexeme_len cs) cs }) o) ≡ o
    of None = refl
    of (Some k) = refl

-- a lexeme of n characters that no longer one stands beside
pub takes_some : (cs : List ℕ) (n : ℕ) (k : Class) → n ≤ length cs → class_in cs (take n cs) ≡ Some k
    → ((j : ℕ) → n < j → j ≤ length cs → class_in cs (take j cs) ≡ None) → TakesLexeme cs (Some k) (drop n cs)
unfolding lexeme_len
takes_some cs n k h e f =
    let len : lexeme_len cs ≡ n = longest_within_is (λ t. is_some (class_in cs t)) cs (length cs) n h (ap is_some e)
    (λ j a b. ap is_some (f j a b)) in
    record { «class» = sym (class_at cs ∙ ap (λ i. class_in cs (take i cs)) len ∙ e); rest = ap (λ i. drop i cs) (sym len) }

-- where no front is a lexeme
pub takes_none : (cs : List ℕ) → ((j : ℕ) → 0 < j → j ≤ length cs → class_in cs (take j cs) ≡ None) → TakesLexeme cs None cs
unfolding lexeme_len
takes_none cs f =
    let len : lexeme_len cs ≡ 0 = longest_within_none (λ t. is_some (class_in cs t)) cs (length cs) (λ j a b. ap is_some (f j a b)) in
    record { «class» = sym (class_at cs ∙ ap (λ i. class_in cs (take i cs)) len ∙ class_none cs); rest = ap (λ i. drop i cs) (sym len) }

pub nothing_takes : TakesLexeme [] None []
nothing_takes = takes_none [] (λ j a b. absurd (omega arith))

-- Where no string opens
pub plainly : (cs t : List ℕ) → opens_string cs ≡ false → class_in cs t ≡ plain_class t
unfolding class_in
plainly cs t e = rw e refl

-- of the fronts of a text only those of one class are lexemes
abbrev pub Only : (List ℕ → Bool) → Class → List ℕ → Type 0
Only p k cs = (j : ℕ) → 0 < j → j ≤ length cs → plain_class (take j cs) ≡ cond (p (take j cs)) (Some k) None

pub only_by : (p : List ℕ → Bool) (k : Class) (c : ℕ) (cs : List ℕ) → ((t : List ℕ) → plain_class (c ∷ t) ≡ cond (p (c ∷ t)) (Some k) None)
    → Only p k (c ∷ cs)
only_by p k c cs f zero a b = absurd (omega arith)
only_by p k c cs f (suc j) a b = f (take j cs)

pub best_takes : (p : List ℕ → Bool) (k : Class) (cs : List ℕ) (n : ℕ) → opens_string cs ≡ false → 0 < n → IsBest p cs n → Only p k cs
    → TakesLexeme cs (Some k) (drop n cs)
best_takes p k cs n o h b f =
    takes_some cs n k b.within
    (plainly cs (take n cs) o ∙ f n h b.within ∙ ap (λ x. cond x (Some k) None) b.passes)
    (λ j i l. plainly cs (take j cs) o ∙ f j (omega arith) l ∙ ap (λ x. cond x (Some k) None) (b.longest j i l))

pub none_takes : (p : List ℕ → Bool) (k : Class) (cs : List ℕ) → opens_string cs ≡ false → NoFront p cs → Only p k cs
    → TakesLexeme cs None cs
none_takes p k cs o b f = takes_none cs (λ j i l. plainly cs (take j cs) o ∙ f j i l ∙ ap (λ x. cond x (Some k) None) (b j l))

-- a first character, and a run of others
run_takes : (starts p : ℕ → Bool) (k : Class) (cs : List ℕ) → opens_string cs ≡ false → begins starts cs ≡ true
    → ((c : ℕ) → starts c ≡ true → p c ≡ true)
    → ((c : ℕ) → starts c ≡ true → (t : List ℕ) → plain_class (c ∷ t) ≡ cond (headed starts (list_all p) (c ∷ t)) (Some k) None)
    → TakesLexeme cs (Some k) (drop (prefix_len p cs) cs)
run_takes starts p k [] o h e f = cc
run_takes starts p k (c ∷ cs) o h e f =
    let g : p c ≡ true = e c h in
    let len : prefix_len p (c ∷ cs) ≡ suc (prefix_len p cs) = rw (g, add_comm, add-one) refl in
    rw len (best_takes (headed starts (list_all p)) k (c ∷ cs) (suc (prefix_len p cs)) o (omega arith)
    (headed_best starts (list_all p) c cs (prefix_len p cs) h (run_best p cs)) (only_by (headed starts (list_all p)) k c cs (f c h)))

-- Where a string opens
pub opens_off : (c : ℕ) (cs : List ℕ) → is_prefix_letter c ≡ false → ((c == 39) || (c == 34)) ≡ false → opens_string (c ∷ cs) ≡ false
unfolding opens_string
opens_off c [] l q = let e : is_prefix (c ∷ []) ≡ false = one_prefix c ∙ l in rw (q, e) (none (is_prefix []))
  where
    none : (b : Bool) → ((b && false) || (false || (false || false))) ≡ false
    none true = refl
    none false = refl
opens_off c (d ∷ cs) l q =
    let e : is_prefix (c ∷ []) ≡ false = one_prefix c ∙ l in
    let r = or_parts (is_r c) (((c == 117) || (c == 85)) || is_b_or_f c) l in
    let b = or_parts ((c == 117) || (c == 85)) (is_b_or_f c) r.1 in
    let p : begins_pair (c ∷ d ∷ []) ≡ false = pair (is_r c) (is_b_or_f d) (is_b_or_f c) (is_r d) r.0 b.1 in
    let f : is_prefix (c ∷ d ∷ []) ≡ false = two_prefix c d ∙ p in
    rw (q, e, f) (none (is_prefix []))
  where
    pair : (x y z w : Bool) → x ≡ false → z ≡ false → ((x && y) || (z && w)) ≡ false
    pair x y z w e f = rw (e, f) refl

    none : (b : Bool) → ((b && false) || (false || (false || false))) ≡ false
    none true = refl
    none false = refl

-- Names, comments, blanks
pub name_takes : (cs : List ℕ) → opens_string cs ≡ false → begins starts_name cs ≡ true
    → TakesLexeme cs (Some Name) (drop (prefix_len is_xid_continue cs) cs)
name_takes cs o h = run_takes starts_name is_xid_continue Name cs o h start_continues name_class

hash_part : (c : ℕ) → (c == 35) ≡ true → is_comment_part c ≡ true
hash_part c e = let f : c ≡ 35 = eqb-true c 35 e in rw f refl

hash_opens : (cs : List ℕ) → begins (λ c. c == 35) cs ≡ true → opens_string cs ≡ false
hash_opens [] e = cc
hash_opens (c ∷ cs) e = let f : c ≡ 35 = eqb-true c 35 e in rw f (opens_off 35 cs refl refl)

pub comment_takes : (cs : List ℕ) → begins (λ c. c == 35) cs ≡ true
    → TakesLexeme cs (Some Comment) (drop (prefix_len is_comment_part cs) cs)
comment_takes cs h = run_takes (λ c. c == 35) is_comment_part Comment cs (hash_opens cs h) h hash_part comment_class

blank_opens : (cs : List ℕ) → begins is_blank_char cs ≡ true → opens_string cs ≡ false
blank_opens [] e = cc
blank_opens (c ∷ cs) e =
    ⊎_elim
    (λ (g : (eqb c 32 || eqb c 9) ≡ true).
    ⊎_elim
    (λ (h : eqb c 32 ≡ true). let f : c ≡ 32 = eqb-true c 32 h in rw f (opens_off 32 cs refl refl))
    (λ (h : eqb c 9 ≡ true). let f : c ≡ 9 = eqb-true c 9 h in rw f (opens_off 9 cs refl refl))
    (or_cases (eqb c 32) (eqb c 9) g))
    (λ (h : eqb c 12 ≡ true). let f : c ≡ 12 = eqb-true c 12 h in rw f (opens_off 12 cs refl refl))
    (or_cases (eqb c 32 || eqb c 9) (eqb c 12) e)

pub blanks_take : (cs : List ℕ) → begins is_blank_char cs ≡ true → TakesLexeme cs (Some Blanks) (drop (prefix_len is_blank_char cs) cs)
blanks_take cs h = run_takes is_blank_char is_blank_char Blanks cs (blank_opens cs h) h (λ c e. e) blank_class

-- Line ends
feed_best : (cs : List ℕ) → IsBest is_line_end (10 ∷ cs) 1
unfolding is_line_end
feed_best cs = record { within = omega arith; passes = refl; longest = longer cs }
  where
    longer : (cs : List ℕ) (j : ℕ) → 1 < j → j ≤ length (10 ∷ cs) → is_line_end (take j (10 ∷ cs)) ≡ false
    longer cs zero a b = absurd (omega arith)
    longer cs (suc zero) a b = absurd (omega arith)
    longer [] (suc (suc j)) a b = absurd (omega arith)
    longer (c ∷ cs) (suc (suc j)) a b = refl

both_best : (cs : List ℕ) → IsBest is_line_end (13 ∷ 10 ∷ cs) 2
unfolding is_line_end
both_best cs = record { within = omega arith; passes = refl; longest = longer cs }
  where
    longer : (cs : List ℕ) (j : ℕ) → 2 < j → j ≤ length (13 ∷ 10 ∷ cs) → is_line_end (take j (13 ∷ 10 ∷ cs)) ≡ false
    longer cs zero a b = absurd (omega arith)
    longer cs (suc zero) a b = absurd (omega arith)
    longer cs (suc (suc zero)) a b = absurd (omega arith)
    longer [] (suc (suc (suc j))) a b = absurd (omega arith)
    longer (c ∷ cs) (suc (suc (suc j))) a b = refl

-- no line end begins with any other characters
pub no_line_end : (cs : List ℕ) → begins (λ c. c == 10) cs ≡ false → (begins (λ c. c == 13) cs && begins (λ c. c == 10) (drop 1 cs)) ≡ false
    → is_line_end cs ≡ false
unfolding is_line_end
no_line_end [] e f = refl
no_line_end (c ∷ []) e f = rw e (none (c == 13))
  where
    none : (b : Bool) → (b && false) ≡ false
    none true = refl
    none false = refl
no_line_end (c ∷ d ∷ t) e f =
    ⊎_elim
    (λ (h : (c == 13) ≡ true). let g : (d == 10) ≡ false = simp h at f in rw (e, h, g) refl)
    (λ (h : (c == 13) ≡ false). rw (e, h) refl)
    (cases_Bool (c == 13))

pub no_end_front : (cs : List ℕ) → begins (λ c. c == 10) cs ≡ false → (begins (λ c. c == 13) cs && begins (λ c. c == 10) (drop 1 cs)) ≡
    false → NoFront is_line_end cs
no_end_front cs e f zero h = no_line_end [] refl refl
no_end_front [] e f (suc j) h = no_line_end [] refl refl
no_end_front (c ∷ cs) e f (suc zero) h = no_line_end (c ∷ []) e (none (c == 13))
  where
    none : (b : Bool) → (b && false) ≡ false
    none true = refl
    none false = refl
no_end_front (c ∷ []) e f (suc (suc j)) h = no_line_end (c ∷ []) e (none (c == 13))
  where
    none : (b : Bool) → (b && false) ≡ false
    none true = refl
    none false = refl
no_end_front (c ∷ d ∷ cs) e f (suc (suc j)) h = no_line_end (c ∷ d ∷ take j cs) e f

pub feed_takes : (cs : List ℕ) → begins (λ c. c == 10) cs ≡ true → TakesLexeme cs (Some LineEnd) (drop 1 cs)
feed_takes [] h = cc
feed_takes (c ∷ cs) h =
    let e : c ≡ 10 = eqb-true c 10 h in
    rw e (best_takes is_line_end LineEnd (10 ∷ cs) 1 (opens_off 10 cs refl refl) (omega arith) (feed_best cs)
    (only_by is_line_end LineEnd 10 cs (end_class 10 refl)))

pub both_take : (cs : List ℕ) → begins (λ c. c == 13) cs ≡ true → begins (λ c. c == 10) (drop 1 cs) ≡ true
    → TakesLexeme cs (Some LineEnd) (drop 2 cs)
both_take [] h i = cc
both_take (c ∷ []) h i = cc
both_take (c ∷ d ∷ cs) h i =
    let e : c ≡ 13 = eqb-true c 13 h in
    let f : d ≡ 10 = eqb-true d 10 i in
    rw (e, f) (best_takes is_line_end LineEnd (13 ∷ 10 ∷ cs) 2 (opens_off 13 (10 ∷ cs) refl refl) (omega arith) (both_best cs)
    (only_by is_line_end LineEnd 13 (10 ∷ cs) (end_class 13 refl)))

pub return_takes : (cs : List ℕ) → begins (λ c. c == 13) cs ≡ true → begins (λ c. c == 10) (drop 1 cs) ≡ false → TakesLexeme cs None cs
return_takes [] h i = cc
return_takes (c ∷ cs) h i =
    let e : c ≡ 13 = eqb-true c 13 h in
    rw e (none_takes is_line_end LineEnd (13 ∷ cs) (opens_off 13 cs refl refl) (no_end_front (13 ∷ cs) refl i)
    (only_by is_line_end LineEnd 13 cs (end_class 13 refl)))

-- Joins
join_by : (cs : List ℕ) (n : ℕ) → IsBest is_line_end cs n → TakesLexeme (92 ∷ cs) (Some Join) (drop n cs)
join_by cs n b = best_takes (headed (λ c. c == 92) is_line_end) Join (92 ∷ cs) (suc n) (opens_off 92 cs refl refl) (omega arith)
    (headed_best (λ c. c == 92) is_line_end 92 cs n refl b) (only_by (headed (λ c. c == 92) is_line_end) Join 92 cs (join_class 92 refl))

pub feed_joins : (cs : List ℕ) → begins (λ c. c == 92) cs ≡ true → begins (λ c. c == 10) (drop 1 cs) ≡ true
    → TakesLexeme cs (Some Join) (drop 2 cs)
feed_joins [] h i = cc
feed_joins (c ∷ []) h i = cc
feed_joins (c ∷ d ∷ cs) h i =
    let e : c ≡ 92 = eqb-true c 92 h in
    let f : d ≡ 10 = eqb-true d 10 i in
    rw (e, f) (join_by (10 ∷ cs) 1 (feed_best cs))

pub both_join : (cs : List ℕ) → begins (λ c. c == 92) cs ≡ true
    → (begins (λ c. c == 13) (drop 1 cs) && begins (λ c. c == 10) (drop 1 (drop 1 cs))) ≡ true → TakesLexeme cs (Some Join) (drop 3 cs)
both_join [] h i = cc
both_join (c ∷ []) h i = cc
both_join (c ∷ d ∷ []) h i = absurd (none (d == 13) i)
  where
    none : (b : Bool) → (b && false) ≡ true → ⊥
    none true e = cc
    none false e = cc
both_join (c ∷ d ∷ b ∷ cs) h i =
    let p = parts (d == 13) (b == 10) i in
    let e : c ≡ 92 = eqb-true c 92 h in
    let f : d ≡ 13 = eqb-true d 13 p.0 in
    let g : b ≡ 10 = eqb-true b 10 p.1 in
    rw (e, f, g) (join_by (13 ∷ 10 ∷ cs) 2 (both_best cs))
  where
    parts : (x y : Bool) → (x && y) ≡ true → (x ≡ true) × (y ≡ true)
    parts true y e = (refl, e)
    parts false y e = cc

pub slash_takes : (cs : List ℕ) → begins (λ c. c == 92) cs ≡ true → begins (λ c. c == 10) (drop 1 cs) ≡ false
    → (begins (λ c. c == 13) (drop 1 cs) && begins (λ c. c == 10) (drop 1 (drop 1 cs))) ≡ false → TakesLexeme cs None cs
slash_takes [] h i l = cc
slash_takes (c ∷ cs) h i l =
    let e : c ≡ 92 = eqb-true c 92 h in
    rw e (none_takes (headed (λ c. c == 92) is_line_end) Join (92 ∷ cs) (opens_off 92 cs refl refl)
    (headed_rest (λ c. c == 92) is_line_end 92 cs (no_end_front cs i l)) (only_by (headed (λ c. c == 92) is_line_end) Join 92
    cs (join_class 92 refl)))

-- Numbers
number_starts : (c : ℕ) → (is_decimal_digit c || is_point c) ≡ true → starts_name c ≡ false
number_starts c e =
    ⊎_elim
    (λ (d : is_decimal_digit c ≡ true).
    let p = and_parts (leb 48 c) (leb c 57) d in
    let l = leb-true 48 c p.0 in
    let u = leb-true c 57 p.1 in
    rw (is_xid_start-ascii c (omega arith)) (grind (arith, nat_tests)))
    (λ (d : is_point c ≡ true). let f : c ≡ 46 = eqb-true c 46 d in rw f (rw (is_xid_start-ascii 46 (omega arith)) refl))
    (or_cases (is_decimal_digit c) (is_point c) e)

digit_heads : (c : ℕ) → is_decimal_digit c ≡ true → list_any (eqb c) (heads words) ≡ false
digit_heads c d =
    let p = and_parts (leb 48 c) (leb c 57) d in
    let l = leb-true 48 c p.0 in
    let u = leb-true c 57 p.1 in
    grind (arith, nat_tests)

digit_opens : (c : ℕ) (cs : List ℕ) → is_decimal_digit c ≡ true → opens_string (c ∷ cs) ≡ false
digit_opens c cs d =
    let p = and_parts (leb 48 c) (leb c 57) d in
    let l = leb-true 48 c p.0 in
    let u = leb-true c 57 p.1 in
    opens_off c cs (grind (arith, nat_tests)) (grind (arith, nat_tests))

number_opens : (cs : List ℕ) → begins_number cs ≡ true → opens_string cs ≡ false
number_opens [] e = cc
number_opens (c ∷ cs) e =
    ⊎_elim
    (λ (d : is_decimal_digit c ≡ true). digit_opens c cs d)
    (λ (d : (is_point c && begins is_decimal_digit cs) ≡ true). let p = and_parts (is_point c) (begins is_decimal_digit cs) d in
    let f : c ≡ 46 = eqb-true c 46 p.0 in rw f (opens_off 46 cs refl refl))
    (or_cases (is_decimal_digit c) (is_point c && begins is_decimal_digit cs) e)

-- a number's longer fronts are in no other class
pub point_words : (d : ℕ) (t : List ℕ) → is_decimal_digit d ≡ true → is_operator (46 ∷ d ∷ t) ≡ false
point_words d t e =
    let p = and_parts (leb 48 d) (leb d 57) e in
    let l = leb-true 48 d p.0 in
    let u = leb-true d 57 p.1 in
    let n : eqb d 46 ≡ false = grind (arith, nat_tests) in
    by_words (46 ∷ d ∷ t) ∙ rw n refl

plain_number : (c : ℕ) (t : List ℕ) → (is_decimal_digit c || is_point c) ≡ true → is_operator (c ∷ t) ≡ false
    → plain_class (c ∷ t) ≡ cond (is_number (c ∷ t)) (Some Number) None
unfolding plain_class is_name is_comment are_blanks is_line_end is_join
plain_number c t d o =
    let s = number_starts c d in
    ⊎_elim
    (λ (e : is_decimal_digit c ≡ true).
    let p = and_parts (leb 48 c) (leb c 57) e in
    let l = leb-true 48 c p.0 in
    let u = leb-true c 57 p.1 in
    let h : (eqb c 35 ≡ false) × (is_blank_char c ≡ false) × (eqb c 10 ≡ false) × (eqb c 13 ≡ false) × (eqb c 92 ≡ false) = (
      grind (arith, nat_tests),
      grind (arith, nat_tests),
      grind (arith, nat_tests),
      grind (arith, nat_tests),
      grind (arith, nat_tests),
    ) in
    rw (s, o, h.0, h.1, h.2, h.3, h.4) refl)
    (λ (e : is_point c ≡ true).
    let f : c ≡ 46 = eqb-true c 46 e in
    let h : (eqb c 35 ≡ false) × (is_blank_char c ≡ false) × (eqb c 10 ≡ false) × (eqb c 13 ≡ false) × (eqb c 92 ≡ false) =
    rw f (refl, refl, refl, refl, refl) in
    rw (s, o, h.0, h.1, h.2, h.3, h.4) refl)
    (or_cases (is_decimal_digit c) (is_point c) d)

number_class : (c : ℕ) (t : List ℕ) → (is_decimal_digit c || is_point c) ≡ true → is_number (c ∷ t) ≡ true
    → plain_class (c ∷ t) ≡ Some Number
unfolding plain_class is_name
number_class c t d e = let s = number_starts c d in rw (s, e) refl

number_head : (c : ℕ) (cs : List ℕ) → begins_number (c ∷ cs) ≡ true → (is_decimal_digit c || is_point c) ≡ true
number_head c cs e =
    ⊎_elim
    (λ (d : is_decimal_digit c ≡ true). rw d refl)
    (λ (d : (is_point c && begins is_decimal_digit cs) ≡ true). let p = and_parts (is_point c) (begins is_decimal_digit cs) d in
    right (is_decimal_digit c) (is_point c) p.0)
    (or_cases (is_decimal_digit c) (is_point c && begins is_decimal_digit cs) e)
  where
    right : (x y : Bool) → y ≡ true → (x || y) ≡ true
    right true y e = refl
    right false y e = e

number_no_operator : (cs : List ℕ) (j : ℕ) → begins_number cs ≡ true → 1 < j → j ≤ length cs → is_operator (take j cs) ≡ false
number_no_operator [] j e a b = cc
number_no_operator (c ∷ cs) zero e a b = absurd (omega arith)
number_no_operator (c ∷ cs) (suc zero) e a b = absurd (omega arith)
number_no_operator (c ∷ []) (suc (suc j)) e a b = absurd (omega arith)
number_no_operator (c ∷ d ∷ cs) (suc (suc j)) e a b =
    ⊎_elim
    (λ (i : is_decimal_digit c ≡ true). no_operator c (d ∷ take j cs) (digit_heads c i))
    (λ (i : (is_point c && is_decimal_digit d) ≡ true). let p = and_parts (is_point c) (is_decimal_digit d) i in let f : c ≡ 46 =
    eqb-true c 46 p.0 in rw f (point_words d (take j cs) p.1))
    (or_cases (is_decimal_digit c) (is_point c && is_decimal_digit d) e)

pub number_takes : (cs : List ℕ) → begins_number cs ≡ true → TakesLexeme cs (Some Number) (drop (longest is_number cs) cs)
number_takes [] e = cc
number_takes (c ∷ cs) e =
    rw (longest_number (c ∷ cs) e) (by (number_len (c ∷ cs)) (number_best (c ∷ cs) e) (subst (λ (i : ℕ). 0 < i) (longest_number (c ∷ cs) e)
    (longest_more (c ∷ cs) e)))
  where
    none : (j : ℕ) → 1 < j → j ≤ length (c ∷ cs) → is_number (take j (c ∷ cs)) ≡ false → plain_class (take j (c ∷ cs)) ≡ None
    none zero a b f = absurd (omega arith)
    none (suc j) a b f = plain_number c (take j cs) (number_head c cs e) (number_no_operator (c ∷ cs) (suc j) e a b)
        ∙ ap (λ x. cond x (Some Number) None) f

    by : (n : ℕ) → IsBest is_number (c ∷ cs) n → 0 < n → TakesLexeme (c ∷ cs) (Some Number) (drop n (c ∷ cs))
    by zero b h = absurd (omega arith)
    by (suc n) b h =
        takes_some (c ∷ cs) (suc n) Number b.within
        (plainly (c ∷ cs) (c ∷ take n cs) (number_opens (c ∷ cs) e) ∙ number_class c (take n cs) (number_head c cs e) b.passes)
        (λ j i l. plainly (c ∷ cs) (take j (c ∷ cs)) (number_opens (c ∷ cs) e) ∙ none j (omega arith) l (b.longest j i l))

-- Operators
other_class : (c : ℕ) (t : List ℕ) → starts_other c ≡ true → is_number (c ∷ t) ≡ false
    → plain_class (c ∷ t) ≡ option_map OperatorClass (exact_of (c ∷ t))
unfolding plain_class is_operator is_name is_comment are_blanks is_line_end is_join
other_class c t h n =
    let p1 = and_parts (not (starts_name c) && not (c == 35) && not (is_blank_char c) && not (c == 10) && not (c == 13)) (not (c == 92))
    h in
    let p2 = and_parts (not (starts_name c) && not (c == 35) && not (is_blank_char c) && not (c == 10)) (not (c == 13)) p1.0 in
    let p3 = and_parts (not (starts_name c) && not (c == 35) && not (is_blank_char c)) (not (c == 10)) p2.0 in
    let p4 = and_parts (not (starts_name c) && not (c == 35)) (not (is_blank_char c)) p3.0 in
    let p5 = and_parts (not (starts_name c)) (not (c == 35)) p4.0 in
    let e1 = not-true (starts_name c) p5.0 in
    let e2 = not-true (c == 35) p5.1 in
    let e3 = not-true (is_blank_char c) p4.1 in
    let e4 = not-true (c == 10) p3.1 in
    let e5 = not-true (c == 13) p2.1 in
    let e6 = not-true (c == 92) p1.1 in
    rw (e1, n, e2, e3, e4, e5, e6) (by (exact_of (c ∷ t)))
  where
    by : (o : Option Exact) → cond (is_some o) (option_map OperatorClass o) None ≡ option_map OperatorClass o
    by None = refl
    by (Some e) = refl

point_front : (c : ℕ) (cs : List ℕ) (j : ℕ) → (is_point c && begins is_decimal_digit cs) ≡ false
    → (is_point c && begins is_decimal_digit (take j cs)) ≡ false
point_front c cs zero e = none (is_point c)
  where
    none : (b : Bool) → (b && false) ≡ false
    none true = refl
    none false = refl
point_front c [] (suc j) e = e
point_front c (d ∷ cs) (suc j) e = e

-- of the fronts of a text only operators are lexemes
abbrev OnlyOperators : List ℕ → Type 0
OnlyOperators cs = (j : ℕ) → 0 < j → j ≤ length cs → plain_class (take j cs) ≡ option_map OperatorClass (exact_of (take j cs))

other_only : (cs : List ℕ) → begins starts_other cs ≡ true → begins_number cs ≡ false → OnlyOperators cs
other_only [] f n j h i = cc
other_only (c ∷ cs) f n zero h i = absurd (omega arith)
other_only (c ∷ cs) f n (suc j) h i =
    let p = or_parts (is_decimal_digit c) (is_point c && begins is_decimal_digit cs) n in
    other_class c (take j cs) f (no_number c (take j cs) p.0 (point_front c cs j p.1))

no_class_at : (cs : List ℕ) → BeginsOther cs → (j : ℕ) → 0 < j → j ≤ length cs → is_operator (take j cs) ≡ false
    → class_in cs (take j cs) ≡ None
no_class_at cs b j h i e = plainly cs (take j cs) b.string ∙ other_only cs b.first b.number j h i
    ∙ ap (option_map OperatorClass) (exact_off (take j cs) e)

pub operator_takes : (cs : List ℕ) (o : Option (Exact × ℕ)) (e : Exact) (n : ℕ) → BeginsOther cs → o ≡ operator_at cs → o ≡ Some (e, n)
    → TakesLexeme cs (Some (OperatorClass e)) (drop n cs)
unfolding operator_at
operator_takes cs o e n b f g = by (exact_of (take (longest is_operator cs) cs)) refl (sym f ∙ g)
  where
    some : (x : Exact) → exact_of (take (longest is_operator cs) cs) ≡ Some x → 0 < longest is_operator cs
    some x h = ⊎_elim (λ (z : longest is_operator cs < 1). absurd (none_there (longest is_operator cs) (omega arith) h))
        (λ (z : 1 ≤ longest is_operator cs). z) (cases_lt (longest is_operator cs) 1)
      where
        none_there : (l : ℕ) → l ≡ 0 → exact_of (take l cs) ≡ Some x → ⊥
        none_there l z h = let i : exact_of [] ≡ Some x = ap (λ l. exact_of (take l cs)) (sym z) ∙ h in let j : None ≡ Some x =
            sym exact_none ∙ i in cc

    there : (x : Exact) → exact_of (take (longest is_operator cs) cs) ≡ Some x
        → TakesLexeme cs (Some (OperatorClass x)) (drop (longest is_operator cs) cs)
    there x h =
        let p = some x h in
        let best = operator_best cs p in
        takes_some cs (longest is_operator cs) (OperatorClass x) best.within
        (plainly cs (take (longest is_operator cs) cs) b.string ∙ other_only cs b.first b.number (longest is_operator cs) p best.within
        ∙ ap (option_map OperatorClass) h)
        (λ j i l. no_class_at cs b j (omega arith) l (best.longest j i l))

    by : (o : Option Exact) → exact_of (take (longest is_operator cs) cs) ≡ o
        → option_map {U = Exact × ℕ} (λ e. (e, longest is_operator cs)) o ≡ Some (e, n)
        → TakesLexeme cs (Some (OperatorClass e)) (drop n cs)
    by None h i = absurd cc
    by (Some x) h i = let z : (x, longest is_operator cs) ≡ (e, n) = cc in let y : x ≡ e = ap (λ (p : Exact × ℕ). p.0) z in
        let l : longest is_operator cs ≡ n = ap (λ (p : Exact × ℕ). p.1) z in
        subst (λ (k : Exact). TakesLexeme cs (Some (OperatorClass k)) (drop n cs)) y
        (subst (λ (m : ℕ). TakesLexeme cs (Some (OperatorClass x)) (drop m cs)) l (there x h))

pub operator_none : (cs : List ℕ) (o : Option (Exact × ℕ)) → BeginsOther cs → o ≡ operator_at cs → o ≡ None → TakesLexeme cs None cs
unfolding operator_at
operator_none cs o b f g = by (exact_of (take (longest is_operator cs) cs)) refl (sym f ∙ g)
  where
    none : longest is_operator cs ≡ 0 → TakesLexeme cs None cs
    none z = takes_none cs (λ j i l. no_class_at cs b j i l (operator_none_at cs z j l))

    never : true ≡ false → ⊥
    never r = cc

    by : (o : Option Exact) → exact_of (take (longest is_operator cs) cs) ≡ o
        → option_map {U = Exact × ℕ} (λ e. (e, longest is_operator cs)) o ≡ None → TakesLexeme cs None cs
    by (Some x) h i = absurd cc
    by None h i =
        ⊎_elim
        (λ (z : longest is_operator cs < 1). none (omega arith))
        (λ (z : 1 ≤ longest is_operator cs).
        let p = (operator_best cs z).passes in
        let q : is_operator (take (longest is_operator cs) cs) ≡ false =
        sym (operator_some (take (longest is_operator cs) cs)) ∙ ap is_some h in
        let r : true ≡ false = sym p ∙ q in
        absurd (never r))
        (cases_lt (longest is_operator cs) 1)

-- Strings
stringly : (cs t : List ℕ) → opens_string cs ≡ true → class_in cs t ≡ cond (counts_as_string cs t) (Some String) None
unfolding class_in
stringly cs t e = rw e refl

same_lengths : (p q : List ℕ → Bool) (cs : List ℕ) (m : ℕ) → ((t : List ℕ) → p t ≡ q t) → longest_within p cs m ≡ longest_within q cs m
same_lengths p q cs zero f = refl
same_lengths p q cs (suc m) f = let e : p (take (suc m) cs) ≡ q (take (suc m) cs) = f (take (suc m) cs) in
    rw (e, same_lengths p q cs m f) refl

string_len : (cs : List ℕ) → opens_string cs ≡ true → lexeme_len cs ≡ longest (counts_as_string cs) cs
unfolding lexeme_len longest
string_len cs o = same_lengths (λ t. is_some (class_in cs t)) (counts_as_string cs) cs (length cs) (λ t. ap is_some (stringly cs t o)
    ∙ test (counts_as_string cs t))
  where
    test : (b : Bool) → is_some (cond b (Some String) None) ≡ b
    test true = refl
    test false = refl

pub longest_passes : (p : List ℕ → Bool) (cs : List ℕ) (m : ℕ) → 0 < longest_within p cs m → p (take (longest_within p cs m) cs) ≡ true
longest_passes p cs zero h = absurd (omega arith)
longest_passes p cs (suc m) h =
    ⊎_elim
    (λ (e : p (take (suc m) cs) ≡ true). rw e e)
    (λ (e : p (take (suc m) cs) ≡ false). let i : 0 < longest_within p cs m = simp e at h in rw e (longest_passes p cs m i))
    (cases_Bool (p (take (suc m) cs)))

string_passes : (cs : List ℕ) → 0 < longest (counts_as_string cs) cs
    → counts_as_string cs (take (longest (counts_as_string cs) cs) cs) ≡ true
unfolding longest
string_passes cs h = longest_passes (counts_as_string cs) cs (length cs) h

pub string_takes : (cs new : List ℕ) → opens_string cs ≡ true → 0 < longest (counts_as_string cs) cs
    → new ≡ drop (longest (counts_as_string cs) cs) cs → TakesLexeme cs (Some String) new
string_takes cs new o h e =
    let l = string_len cs o in
    record {
      «class» = sym (class_at cs ∙ ap (λ i. class_in cs (take i cs)) l ∙ stringly cs (take (longest (counts_as_string cs) cs) cs) o
          ∙ ap (λ b. cond b (Some String) None) (string_passes cs h));
      rest = e ∙ ap (λ i. drop i cs) (sym l);
    }

pub string_none : (cs : List ℕ) → opens_string cs ≡ true → longest (counts_as_string cs) cs ≡ 0 → TakesLexeme cs None cs
string_none cs o h =
    let l = string_len cs o ∙ h in
    record { «class» = sym (class_at cs ∙ ap (λ i. class_in cs (take i cs)) l ∙ class_none cs); rest = ap (λ i. drop i cs) (sym l) }

-- The first character
pub begins_by : (p : ℕ → Bool) (cs : List ℕ) (c : ℕ) → slice_get cs 0 ≡ Some c → p c ≡ true → begins p cs ≡ true
begins_by p [] c e h = cc
begins_by p (d ∷ cs) c e h = let f : d ≡ c = cc in rw f h

pub nothing_at : (cs : List ℕ) → slice_get cs 0 ≡ None → TakesLexeme cs None cs
nothing_at [] e = nothing_takes
nothing_at (c ∷ cs) e = cc

pub opens_none : (cs : List ℕ) (c : ℕ) → slice_get cs 0 ≡ Some c → is_prefix_letter c ≡ false → ((c == 39) || (c == 34)) ≡ false
    → opens_string cs ≡ false
opens_none [] c e l q = cc
opens_none (d ∷ cs) c e l q = let f : d ≡ c = cc in rw f (opens_off c cs l q)

-- a prefix may begin a name
letter_starts : (k : ℕ) → k < 128 → is_ascii_alphabetic k ≡ true → (c : ℕ) → (c == k) ≡ true → starts_name c ≡ true
letter_starts k h a c e = let f : c ≡ k = eqb-true c k e in rw f (let g = is_xid_start-ascii k h in rw (g, a) refl)

two_start : (k l : ℕ) → k < 128 → l < 128 → is_ascii_alphabetic k ≡ true → is_ascii_alphabetic l ≡ true → (c : ℕ)
    → ((c == k) || (c == l)) ≡ true → starts_name c ≡ true
two_start k l h i a b c e = ⊎_elim (letter_starts k h a c) (letter_starts l i b c) (or_cases (c == k) (c == l) e)

pub prefix_starts : (cs : List ℕ) → begins is_prefix_letter cs ≡ true → begins starts_name cs ≡ true
prefix_starts [] e = cc
prefix_starts (c ∷ cs) e =
    ⊎_elim
    (two_start 114 82 (omega arith) (omega arith) refl refl c)
    (λ (f : (((c == 117) || (c == 85)) || is_b_or_f c) ≡ true).
    ⊎_elim
    (two_start 117 85 (omega arith) (omega arith) refl refl c)
    (λ (g : is_b_or_f c ≡ true).
    ⊎_elim
    (two_start 98 66 (omega arith) (omega arith) refl refl c)
    (two_start 102 70 (omega arith) (omega arith) refl refl c)
    (or_cases ((c == 98) || (c == 66)) ((c == 102) || (c == 70)) g))
    (or_cases ((c == 117) || (c == 85)) (is_b_or_f c) f))
    (or_cases (is_r c) (((c == 117) || (c == 85)) || is_b_or_f c) e)

-- what a reader says of a length
pub some_len : (n : ℕ) → true ≡ ltb 0 n → 0 < n
some_len zero e = cc
some_len (suc n) e = omega arith

pub no_len : (n : ℕ) → false ≡ ltb 0 n → n ≡ 0
no_len zero e = refl
no_len (suc n) e = let p : ltb 0 (suc n) ≡ true = grind (arith, nat_tests) in let q : false ≡ true = e ∙ p in cc

-- Whether a significant token begins here, by the first character
same_head : (cs l : List ℕ) (c : ℕ) → l ≡ cs → Some c ≡ slice_get l 0 → slice_get cs 0 ≡ Some c
same_head cs l c e f = ap (λ r. slice_get r 0) (sym e) ∙ sym f

pub significant_none : (cs l : List ℕ) → l ≡ cs → None ≡ slice_get l 0 → false ≡ begins_significant cs
unfolding begins_significant
significant_none [] l e f = refl
significant_none (c ∷ cs) l e f = let g : slice_get (c ∷ cs) 0 ≡ None = ap (λ r. slice_get r 0) (sym e) ∙ sym f in cc

significant_head : (cs l : List ℕ) (c : ℕ) → l ≡ cs → Some c ≡ slice_get l 0 → cs ≡ c ∷ drop 1 cs
significant_head cs l c e f = of cs (same_head cs l c e f)
  where
    of : (cs : List ℕ) → slice_get cs 0 ≡ Some c → cs ≡ c ∷ drop 1 cs
    of [] g = cc
    of (d ∷ cs) g = let h : d ≡ c = cc in ap (λ x. x ∷ cs) h

hash_of : (t : List ℕ) → begins_significant (35 ∷ t) ≡ false
unfolding begins_significant
hash_of t = refl

feed_of : (t : List ℕ) → begins_significant (10 ∷ t) ≡ false
unfolding begins_significant
feed_of [] = refl
feed_of (d ∷ t) = refl

return_of : (t : List ℕ) → begins_significant (13 ∷ t) ≡ not (begins (λ d. d == 10) t)
unfolding begins_significant
return_of [] = refl
return_of (d ∷ t) = refl

other_of : (c : ℕ) (t : List ℕ) → (c == 35) ≡ false → (c == 10) ≡ false → (c == 13) ≡ false
    → begins_significant (c ∷ t) ≡ not (is_blank_char c)
unfolding begins_significant
other_of c [] h f r = rw (h, f) (both (is_blank_char c))
  where
    both : (b : Bool) → (not b && true && true) ≡ not b
    both true = refl
    both false = refl
other_of c (d ∷ t) h f r = rw (h, f, r) (both (is_blank_char c))
  where
    both : (b : Bool) → (not b && true && true) ≡ not b
    both true = refl
    both false = refl

pub significant_hash : (cs l : List ℕ) (c : ℕ) → l ≡ cs → Some c ≡ slice_get l 0 → c ≡ 35 → false ≡ begins_significant cs
significant_hash cs l c e f h = sym (ap begins_significant (significant_head cs l c e f ∙ ap (λ x. x ∷ drop 1 cs) h) ∙ hash_of (drop 1 cs))

pub significant_feed : (cs l : List ℕ) (c : ℕ) → l ≡ cs → Some c ≡ slice_get l 0 → c ≡ 10 → false ≡ begins_significant cs
significant_feed cs l c e f h = sym (ap begins_significant (significant_head cs l c e f ∙ ap (λ x. x ∷ drop 1 cs) h) ∙ feed_of (drop 1 cs))

pub significant_other : (cs l : List ℕ) (c : ℕ) → l ≡ cs → Some c ≡ slice_get l 0 → eqb c 35 ≡ false → eqb c 10 ≡ false → eqb c 13 ≡ false
    → not (is_blank_char c) ≡ begins_significant cs
significant_other cs l c e f h i r = sym (ap begins_significant (significant_head cs l c e f) ∙ other_of c (drop 1 cs) h i r)

pub significant_return : (cs l : List ℕ) (c : ℕ) → l ≡ cs → Some c ≡ slice_get l 0 → c ≡ 13
    → not (begins (λ d. d == 10) (drop 1 l)) ≡ begins_significant cs
significant_return cs l c e f r = ap (λ t. not (begins (λ d. d == 10) (drop 1 t))) e
    ∙ sym (ap begins_significant (significant_head cs l c e f ∙ ap (λ x. x ∷ drop 1 cs) r) ∙ return_of (drop 1 cs))

pub other_by : (cs : List ℕ) (c : ℕ) → slice_get cs 0 ≡ Some c → starts_name c ≡ false → is_blank_char c ≡ false → eqb c 35 ≡ false
    → eqb c 10 ≡ false → eqb c 13 ≡ false → eqb c 92 ≡ false → begins starts_other cs ≡ true
other_by cs c e s b h f r l = begins_by starts_other cs c e (rw (s, b, h, f, r, l) refl)
