-- The longest string after a prefix.
--
-- Carries: prefix_and_quoted, quoted. On: StringBest, Best, Longest, Parts and 2 more.
use Rattle.std.proofs.Common.{◌≡◌, ℕ, ◌+◌, ◌≤◌, ◌<◌, Bool, true, false, ◌&&◌, ◌||◌, ◌==◌, List, [], ◌∷◌, length, drop, take, map, refl, sym}
use Rattle.std.proofs.Common.{◌∙◌, ap, subst, arith, zero, suc, ⊎_elim, ltb}
use Rattle.std.specs.List.{list_all, list_any}
use Rattle.std.specs.Str.{bytes_eq}
use Rattle.std.proofs.lemmas.Bool.{eqb-true, cases_Bool, and_parts, and_right}
use Rattle.std.proofs.lemmas.Bool.Decides.{nat_tests}
use Rattle.pylex_lexeme.specs.Chars.{begins}
use Rattle.pylex_lexeme.specs.Numbers.{split_any}
use Rattle.pylex_lexeme.specs.Strings.{is_prefix, is_single_string, is_triple_string, begins_quote, begins_three, opens_triple}
use Rattle.pylex_lexeme.specs.Strings.{opens_string, after_prefix, counts_as_string, lower, prefixes}
use Rattle.pylex_lexeme.specs.Lengths.{shift, single_len, triple_len, begins_quotes, quoted_len, Opens, Closed, longest}
use Rattle.pylex_lexeme.proofs.Fronts.Longest.{IsBest, longest_within_is, longest_within_none}
use Rattle.pylex_lexeme.proofs.Fronts.Best.{Reads, Starts}
use Rattle.pylex_lexeme.proofs.Numbers.Parts.{ReadsAfter, then_reads}
use Rattle.pylex_lexeme.proofs.Fronts.Taking.{drop_drop}
use Rattle.pylex_lexeme.proofs.Strings.StringBest.{not_quote, Which, one, two, which, single_either, triple_either, single_starts}
use Rattle.pylex_lexeme.proofs.Strings.StringBest.{triple_starts, quote_starts, three_starts, single_quoted, triple_quoted, no_prefix_one}

pub eq_short : (x y o : ℕ) (t : List ℕ) → bytes_eq (x ∷ y ∷ t) (o ∷ []) ≡ false
eq_short x y o t = ⊎_elim (λ (h : (x == o) ≡ true). rw h refl) (λ (h : (x == o) ≡ false). rw h refl) (cases_Bool (x == o))

eq_second : (x y o p : ℕ) (t s : List ℕ) → (y == p) ≡ false → bytes_eq (x ∷ y ∷ t) (o ∷ p ∷ s) ≡ false
eq_second x y o p t s e = ⊎_elim (λ (h : (x == o) ≡ true). rw (h, e) refl) (λ (h : (x == o) ≡ false). rw h refl) (cases_Bool (x == o))

eq_third : (x y z o p : ℕ) (t : List ℕ) → bytes_eq (x ∷ y ∷ z ∷ t) (o ∷ p ∷ []) ≡ false
eq_third x y z o p t =
    ⊎_elim (λ (h : (x == o) ≡ true). ⊎_elim (λ (g : (y == p) ≡ true). rw (h, g) refl) (λ (g : (y == p) ≡ false). rw (h, g) refl)
    (cases_Bool (y == p))) (λ (h : (x == o) ≡ false). rw h refl) (cases_Bool (x == o))

none_two : (x y : ℕ) (t : List ℕ) → (y == 114) ≡ false → (y == 98) ≡ false → (y == 102) ≡ false
    → list_any (bytes_eq (x ∷ y ∷ t)) prefixes ≡ false
none_two x y t r b f = rw (
  eq_short x y 114 t,
  eq_short x y 117 t,
  eq_short x y 98 t,
  eq_short x y 102 t,
  eq_second x y 98 114 t [] r,
  eq_second x y 114 98 t [] b,
  eq_second x y 102 114 t [] r,
  eq_second x y 114 102 t [] f,
) refl

none_three : (x y z : ℕ) (t : List ℕ) → list_any (bytes_eq (x ∷ y ∷ z ∷ t)) prefixes ≡ false
none_three x y z t = rw (
  eq_short x y 114 (z ∷ t),
  eq_short x y 117 (z ∷ t),
  eq_short x y 98 (z ∷ t),
  eq_short x y 102 (z ∷ t),
  eq_third x y z 98 114 t,
  eq_third x y z 114 98 t,
  eq_third x y z 102 114 t,
  eq_third x y z 114 102 t,
) refl

pub no_prefix_two : (a q : ℕ) (t : List ℕ) → Which q → is_prefix (a ∷ q ∷ t) ≡ false
unfolding is_prefix
no_prefix_two a q t (one e) = rw e (none_two (lower a) 39 (map lower t) refl refl refl)
no_prefix_two a q t (two e) = rw e (none_two (lower a) 34 (map lower t) refl refl refl)

no_prefix_three : (a b c : ℕ) (t : List ℕ) → is_prefix (a ∷ b ∷ c ∷ t) ≡ false
unfolding is_prefix
no_prefix_three a b c t = none_three (lower a) (lower b) (lower c) (map lower t)

nil_prefix : is_prefix [] ≡ true
unfolding is_prefix
nil_prefix = refl

-- a prefix holds no quote
letter : (a : ℕ) (t : List ℕ) → is_prefix (a ∷ t) ≡ true → not_quote a ≡ true
letter a t e =
    ⊎_elim
    (λ (h : ((a == 39) || (a == 34)) ≡ true). let n = no_prefix_one_of a t (which a h) in cc)
    (λ (h : ((a == 39) || (a == 34)) ≡ false). rw h refl)
    (cases_Bool ((a == 39) || (a == 34)))
  where
    no_prefix_one_of : (a : ℕ) (t : List ℕ) → Which a → is_prefix (a ∷ t) ≡ false
    no_prefix_one_of a t w = no_prefix_one a t w

letter_two : (a b : ℕ) (t : List ℕ) → is_prefix (a ∷ b ∷ t) ≡ true → not_quote b ≡ true
letter_two a b t e =
    ⊎_elim
    (λ (h : ((b == 39) || (b == 34)) ≡ true). let n = no_prefix_two a b t (which b h) in cc)
    (λ (h : ((b == 39) || (b == 34)) ≡ false). rw h refl)
    (cases_Bool ((b == 39) || (b == 34)))

prefix_letters : (t : List ℕ) → is_prefix t ≡ true → list_all not_quote t ≡ true
prefix_letters [] e = refl
prefix_letters (a ∷ []) e = let x = letter a [] e in rw x refl
prefix_letters (a ∷ b ∷ []) e = let x = letter a (b ∷ []) e in let y = letter_two a b [] e in rw (x, y) refl
prefix_letters (a ∷ b ∷ c ∷ t) e = let z = no_prefix_three a b c t in cc

-- what stands after the prefix
pub prefix_best : (n : ℕ) (cs : List ℕ) → Opens n cs → IsBest is_prefix cs n
prefix_best zero [] o = absurd (let h : false ≡ true = o.quote in cc)
prefix_best zero (q ∷ t) o = record { within = omega arith; passes = o.«prefix»; longest = longer }
  where
    longer : (j : ℕ) → 0 < j → j ≤ length (q ∷ t) → is_prefix (take j (q ∷ t)) ≡ false
    longer zero h i = absurd (omega arith)
    longer (suc j) h i = no_prefix_one q (take j t) (which q o.quote)
prefix_best (suc zero) [] o = absurd (let h : false ≡ true = o.quote in cc)
prefix_best (suc zero) (a ∷ []) o = absurd (let h : false ≡ true = o.quote in cc)
prefix_best (suc zero) (a ∷ q ∷ t) o = record { within = omega arith; passes = o.«prefix»; longest = longer }
  where
    longer : (j : ℕ) → 1 < j → j ≤ length (a ∷ q ∷ t) → is_prefix (take j (a ∷ q ∷ t)) ≡ false
    longer zero h i = absurd (omega arith)
    longer (suc zero) h i = absurd (omega arith)
    longer (suc (suc j)) h i = no_prefix_two a q (take j t) (which q o.quote)
prefix_best (suc (suc zero)) [] o = absurd (let h : false ≡ true = o.quote in cc)
prefix_best (suc (suc zero)) (a ∷ []) o = absurd (let h : false ≡ true = o.quote in cc)
prefix_best (suc (suc zero)) (a ∷ b ∷ []) o = absurd (let h : false ≡ true = o.quote in cc)
prefix_best (suc (suc zero)) (a ∷ b ∷ q ∷ t) o = record { within = omega arith; passes = o.«prefix»; longest = longer }
  where
    longer : (j : ℕ) → 2 < j → j ≤ length (a ∷ b ∷ q ∷ t) → is_prefix (take j (a ∷ b ∷ q ∷ t)) ≡ false
    longer zero h i = absurd (omega arith)
    longer (suc zero) h i = absurd (omega arith)
    longer (suc (suc zero)) h i = absurd (omega arith)
    longer (suc (suc (suc j))) h i = no_prefix_three a b q (take j t)
prefix_best (suc (suc (suc n))) cs o = absurd (let h = o.small in omega arith)

pick_first : (x p y q z r : Bool) → x ≡ true → y ≡ false → z ≡ false → ((x && p) || ((y && q) || ((z && r) || false))) ≡ p
pick_first x p y q z r e f g = rw (e, f, g) (keep p)
  where
    keep : (p : Bool) → (p || false) ≡ p
    keep true = refl
    keep false = refl

pick_second : (x p y q z r : Bool) → p ≡ false → y ≡ true → z ≡ false → ((x && p) || ((y && q) || ((z && r) || false))) ≡ q
pick_second x p y q z r e f g = rw (e, f, g) (rw (and_right x false refl) (keep q))
  where
    keep : (p : Bool) → (p || false) ≡ p
    keep true = refl
    keep false = refl

pick_third : (x p y q z r : Bool) → p ≡ false → q ≡ false → z ≡ true → ((x && p) || ((y && q) || ((z && r) || false))) ≡ r
pick_third x p y q z r e f g = rw (e, f, g) (rw (and_right x false refl, and_right y false refl) (keep r))
  where
    keep : (p : Bool) → (p || false) ≡ p
    keep true = refl
    keep false = refl

-- only the prefix before the quote counts
pub at_prefix : (p : List ℕ → Bool) → Starts not_quote p → (n : ℕ) (cs : List ℕ) → Opens n cs → after_prefix p cs ≡ p (drop n cs)
at_prefix p s zero [] o = absurd (let h : false ≡ true = o.quote in cc)
at_prefix p s zero (q ∷ t) o = pick_first (is_prefix []) (p (q ∷ t)) (is_prefix (take 1 (q ∷ t))) (p (drop 1 (q ∷ t)))
    (is_prefix (take 2 (q ∷ t))) (p (drop 2 (q ∷ t))) nil_prefix (no_prefix_one q [] (which q o.quote))
    (no_prefix_one q (take 1 t) (which q o.quote))
at_prefix p s (suc zero) [] o = absurd (let h : false ≡ true = o.quote in cc)
at_prefix p s (suc zero) (a ∷ []) o = absurd (let h : false ≡ true = o.quote in cc)
at_prefix p s (suc zero) (a ∷ q ∷ t) o = pick_second (is_prefix []) (p (a ∷ q ∷ t)) (is_prefix (a ∷ [])) (p (q ∷ t))
    (is_prefix (a ∷ q ∷ [])) (p t) (s a (q ∷ t) (letter a [] o.«prefix»)) o.«prefix» (no_prefix_two a q [] (which q o.quote))
at_prefix p s (suc (suc zero)) [] o = absurd (let h : false ≡ true = o.quote in cc)
at_prefix p s (suc (suc zero)) (a ∷ []) o = absurd (let h : false ≡ true = o.quote in cc)
at_prefix p s (suc (suc zero)) (a ∷ b ∷ []) o = absurd (let h : false ≡ true = o.quote in cc)
at_prefix p s (suc (suc zero)) (a ∷ b ∷ q ∷ t) o = pick_third (is_prefix []) (p (a ∷ b ∷ q ∷ t)) (is_prefix (a ∷ [])) (p (b ∷ q ∷ t))
    (is_prefix (a ∷ b ∷ [])) (p (q ∷ t)) (s a (b ∷ q ∷ t) (letter a (b ∷ []) o.«prefix»))
    (s b (q ∷ t) (letter_two a b [] o.«prefix»)) o.«prefix»
at_prefix p s (suc (suc (suc n))) cs o = absurd (let h = o.small in omega arith)

pub triple_opens : (n : ℕ) (cs : List ℕ) → Opens n cs → opens_triple cs ≡ begins_three (drop n cs)
unfolding opens_triple
triple_opens n cs o = at_prefix begins_three three_starts n cs o

-- where a reader of strings is called, a string opens
pub string_opens : (n : ℕ) (cs : List ℕ) → Opens n cs → opens_string cs ≡ true
unfolding opens_string
string_opens n cs o = at_prefix begins_quote quote_starts n cs o ∙ o.quote

after_shift : (p : List ℕ → Bool) (cs : List ℕ) (n m : ℕ) → ReadsAfter p cs n m → Reads p cs (shift n m)
after_shift p cs n zero r = r
after_shift p cs n (suc m) r = as_suc p cs (n + suc m) (n + m) (omega arith) r
  where
    as_suc : (p : List ℕ → Bool) (cs : List ℕ) (i k : ℕ) → i ≡ suc k → IsBest p cs i → Reads p cs i
    as_suc p cs zero k e b = cc
    as_suc p cs (suc i) k e b = b

pub quotes_three : (q : ℕ) (t : List ℕ) → Which q → begins_three (q ∷ t) ≡ begins_quotes q (q ∷ t)
quotes_three q [] w = sym (and_right ((q == q) && false) false refl)
quotes_three q (b ∷ []) w = sym (and_right ((q == q) && (b == q)) false refl)
quotes_three q (b ∷ c ∷ t) (one e) = rw e refl
quotes_three q (b ∷ c ∷ t) (two e) = rw e refl

-- two tests that agree
pub reads_same : (p q : List ℕ → Bool) (cs : List ℕ) (n : ℕ) → ((t : List ℕ) → p t ≡ q t) → Reads p cs n → Reads q cs n
reads_same p q cs zero f r = λ j h. sym (f (take j cs)) ∙ r j h
reads_same p q cs (suc n) f r = record {
  within = r.within;
  passes = sym (f (take (suc n) cs)) ∙ r.passes;
  longest =
      λ j h i. sym (f (take j cs)) ∙ r.longest j h i;
}

counts_three : (cs t : List ℕ) → opens_triple cs ≡ true → split_any is_prefix triple_either t ≡ counts_as_string cs t
unfolding counts_as_string is_triple_string
counts_three cs t e = rw e refl

counts_one : (cs t : List ℕ) → opens_triple cs ≡ false → split_any is_prefix single_either t ≡ counts_as_string cs t
unfolding counts_as_string is_single_string
counts_one cs t e = rw e refl

string_triple : (q n : ℕ) (cs t : List ℕ) → Which q → Opens n cs → drop n cs ≡ q ∷ t → begins_quotes q (q ∷ t) ≡ true
    → Reads (counts_as_string cs) cs (shift n (shift 3 (triple_len q (drop 3 (q ∷ t)))))
string_triple q n cs t w o e h =
    let x : opens_triple cs ≡ true = triple_opens n cs o ∙ ap begins_three e ∙ quotes_three q t w ∙ h in
    let b = prefix_best n cs o in
    reads_same (split_any is_prefix triple_either) (counts_as_string cs) cs _ (λ u. counts_three cs u x)
    (after_shift (split_any is_prefix triple_either) cs n (shift 3 (triple_len q (drop 3 (q ∷ t))))
    (then_reads is_prefix triple_either not_quote cs n (shift 3 (triple_len q (drop 3 (q ∷ t)))) b
    (prefix_letters (take n cs) b.passes) triple_starts
    (subst (λ (u : List ℕ). Reads triple_either u (shift 3 (triple_len q (drop 3 (q ∷ t))))) (sym e) (three t h))))
  where
    three : (t : List ℕ) → begins_quotes q (q ∷ t) ≡ true → Reads triple_either (q ∷ t) (shift 3 (triple_len q (drop 3 (q ∷ t))))
    three [] h = absurd (let p = and_parts ((q == q) && false) false h in let z : false ≡ true = p.1 in cc)
    three (b ∷ []) h = absurd (let p = and_parts ((q == q) && (b == q)) false h in let z : false ≡ true = p.1 in cc)
    three (b ∷ c ∷ t) h = let p = and_parts ((q == q) && (b == q)) (c == q) h in let r = and_parts (q == q) (b == q) p.0 in
        triple_quoted q b c t w r.1 p.1

string_single : (q n : ℕ) (cs t : List ℕ) → Which q → Opens n cs → drop n cs ≡ q ∷ t → begins_quotes q (q ∷ t) ≡ false
    → Reads (counts_as_string cs) cs (shift n (shift 1 (single_len q t)))
string_single q n cs t w o e h =
    let x : opens_triple cs ≡ false = triple_opens n cs o ∙ ap begins_three e ∙ quotes_three q t w ∙ h in
    let b = prefix_best n cs o in
    reads_same (split_any is_prefix single_either) (counts_as_string cs) cs _ (λ u. counts_one cs u x)
    (after_shift (split_any is_prefix single_either) cs n (shift 1 (single_len q t))
    (then_reads is_prefix single_either not_quote cs n (shift 1 (single_len q t)) b (prefix_letters (take n cs) b.passes) single_starts
    (subst (λ (u : List ℕ). Reads single_either u (shift 1 (single_len q t))) (sym e) (single_quoted q t w))))

pub string_reads : (q n : ℕ) (cs t : List ℕ) → Which q → Opens n cs → drop n cs ≡ q ∷ t
    → Reads (counts_as_string cs) cs (shift n (quoted_len q (drop n cs)))
unfolding quoted_len
string_reads q n cs t w o e =
    ⊎_elim
    (λ (h : begins_quotes q (q ∷ t) ≡ true). let k : quoted_len q (drop n cs) ≡ shift 3 (triple_len q (drop 3 (q ∷ t))) =
    ap (quoted_len q) e ∙ rw h refl in subst (λ (m : ℕ). Reads (counts_as_string cs) cs (shift n m)) (sym k)
    (string_triple q n cs t w o e h))
    (λ (h : begins_quotes q (q ∷ t) ≡ false). let k : quoted_len q (drop n cs) ≡ shift 1 (single_len q t) = ap (quoted_len q) e
    ∙ rw h refl in subst (λ (m : ℕ). Reads (counts_as_string cs) cs (shift n m)) (sym k) (string_single q n cs t w o e h))
    (cases_Bool (begins_quotes q (q ∷ t)))

pub longest_reads : (p : List ℕ → Bool) (cs : List ℕ) (n : ℕ) → Reads p cs n → longest p cs ≡ n
unfolding longest
longest_reads p cs zero r = longest_within_none p cs (length cs) (λ j a b. r j b)
longest_reads p cs (suc n) r = longest_within_is p cs (length cs) (suc n) r.within r.passes r.longest

-- closing after some characters
pub closed_shift : (n m : ℕ) (b : Bool) (cs mid new : List ℕ) → mid ≡ drop n cs → Closed m b mid new → Closed (shift n m) b cs new
closed_shift n zero b cs mid new e k =
    record { found = k.found; rest = λ h. absurd (let z : b ≡ false = k.found in let y : true ≡ false = sym h ∙ z in cc) }
closed_shift n (suc m) b cs mid new e k =
    let p : ltb 0 (suc m) ≡ true = grind (arith, nat_tests) in
    let r : ltb 0 (n + suc m) ≡ true = grind (arith, nat_tests) in
    record { found = k.found ∙ p ∙ sym r; rest = λ h. k.rest h ∙ ap (drop (suc m)) e ∙ drop_drop n (suc m) cs }

pub quoted_triple : (q : ℕ) (cs mid new : List ℕ) (b : Bool) → begins_quotes q cs ≡ true → mid ≡ drop 3 cs
    → Closed (triple_len q mid) b mid new → Closed (quoted_len q cs) b cs new
unfolding quoted_len
quoted_triple q cs mid new b h e k =
    rw h (closed_shift 3 (triple_len q (drop 3 cs)) b cs mid new e (subst (λ (u : List ℕ). Closed (triple_len q u) b mid new) e k))

pub quoted_single : (q : ℕ) (cs mid new : List ℕ) (b : Bool) → begins_quotes q cs ≡ false → mid ≡ drop 1 cs
    → Closed (single_len q mid) b mid new → Closed (quoted_len q cs) b cs new
unfolding quoted_len
quoted_single q cs mid new b h e k =
    rw h (closed_shift 1 (single_len q (drop 1 cs)) b cs mid new e (subst (λ (u : List ℕ). Closed (single_len q u) b mid new) e k))

pub head_is : (q : ℕ) (r : List ℕ) → begins (λ c. c == q) r ≡ true → r ≡ q ∷ drop 1 r
head_is q [] e = cc
head_is q (c ∷ t) e = ap (λ d. d ∷ t) (eqb-true c q e)

pub string_closed : (q n : ℕ) (cs mid new : List ℕ) (b : Bool) → Which q → Opens n cs → mid ≡ drop n cs → begins (λ c. c == q) mid ≡ true
    → Closed (quoted_len q mid) b mid new → Closed (longest (counts_as_string cs) cs) b cs new
string_closed q n cs mid new b w o e h k =
    let d : drop n cs ≡ q ∷ drop 1 (drop n cs) = head_is q (drop n cs) (ap (begins (λ c. c == q)) (sym e) ∙ h) in
    let l = longest_reads (counts_as_string cs) cs (shift n (quoted_len q (drop n cs))) (string_reads q n cs (drop 1 (drop n cs)) w o d) in
    let c : Closed (shift n (quoted_len q mid)) b cs new = closed_shift n (quoted_len q mid) b cs mid new e k in
    let s : shift n (quoted_len q mid) ≡ longest (counts_as_string cs) cs = ap (λ u. shift n (quoted_len q u)) e ∙ sym l in
    subst (λ (i : ℕ). Closed i b cs new) s c
