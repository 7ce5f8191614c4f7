-- The first lexeme of some whole lines is that of the whole text, unless a
-- literal is open at their end.
--
-- Carries: none_at, none_read, for Lengthened. On: LineFronts, LinedUnits,
-- StringLongest, Union and 7 more.
use Rattle.std.proofs.Common.{◌≡◌, ℕ, ◌+◌, ◌≤◌, ◌<◌, Bool, true, false, ◌&&◌, ◌||◌, ◌==◌, List, [], ◌∷◌, ◌++◌, length, take, drop, refl}
use Rattle.std.proofs.Common.{sym, ◌∙◌, ap, subst, arith, zero, suc, ◌⊎◌, inl, inr, ⊎_elim, Some, None, is_some, length-append}
use Rattle.std.specs.Prelude.{option_map}
use Rattle.std.proofs.lemmas.List.{take-append-le}
use Rattle.std.proofs.lemmas.Bool.{cases_Bool, and_parts, or_parts}
use Rattle.pylex_lexeme.specs.declared.lexeme.Class.TheVariants.{String}
use Rattle.pylex_lexeme.specs.Chars.{begins}
use Rattle.pylex_lexeme.specs.Numbers.{is_nil}
use Rattle.pylex_lexeme.specs.Strings.{units, opens_string, counts_as_string}
use Rattle.pylex_lexeme.specs.Lexemes.{Lexeme, class_in, plain_class, longest_within, lexeme_len, lexeme_at, ends_by_join, is_open_string}
use Rattle.pylex_lexeme.specs.Lengths.{shift, single_of, triple_of, single_len, triple_len, quoted_len, begins_quotes, longest, Opens}
use Rattle.pylex_lexeme.specs.Cuts.{TakesLexeme}
use Rattle.pylex_lexeme.specs.Chunks.{EndsLine}
use Rattle.pylex_lexeme.proofs.Fronts.Best.{Reads}
use Rattle.pylex_lexeme.proofs.Strings.Units.{IsQuote}
use Rattle.pylex_lexeme.proofs.Strings.StringLongest.{head_is, string_reads, longest_reads}
use Rattle.pylex_lexeme.proofs.Strings.OpenStrings.{open_following, open_none}
use Rattle.pylex_lexeme.proofs.Lexemes.Union.{plainly, string_takes, string_none}
use Rattle.pylex_lexeme.proofs.Lexemes.Cutting.{none_is}
use Rattle.pylex_lexeme.proofs.WholeLines.InLine.{plain_none}
use Rattle.pylex_lexeme.proofs.WholeLines.LinedUnits.{lined, lined_tail, ends_lined, units_join, units_last, shift_none, single_kept}
use Rattle.pylex_lexeme.proofs.WholeLines.LinedUnits.{triple_kept, stops_kept}
use Rattle.pylex_lexeme.proofs.WholeLines.LineFronts.{opens_kept, triples_kept, quotes_kept, after_quote, Quoted, quoted, quote_which}
use Rattle.pylex_lexeme.proofs.WholeLines.LineFronts.{which_quote, after_front, here_longer, opens_longer, drop_lined}

-- Longest fronts
pub same_within : (p q : List ℕ → Bool) (cs es : List ℕ) (m : ℕ) → m ≤ length cs → ((t : List ℕ) → p t ≡ q t)
    → longest_within p (cs ++ es) m ≡ longest_within q cs m
same_within p q cs es zero h f = refl
same_within p q cs es (suc m) h f =
    let e : p (take (suc m) (cs ++ es)) ≡ q (take (suc m) cs) = ap p (take-append-le (suc m) cs es h) ∙ f (take (suc m) cs) in
    rw (e, same_within p q cs es m (omega arith) f) refl

none_above : (p : List ℕ → Bool) (cs : List ℕ) (n k : ℕ) → ((j : ℕ) → n < j → j ≤ n + k → p (take j cs) ≡ false)
    → longest_within p cs (n + k) ≡ longest_within p cs n
none_above p cs n zero f = let e : n + zero ≡ n = omega arith in rw e refl
none_above p cs n (suc k) f =
    let e : n + suc k ≡ suc (n + k) = omega arith in
    let g : p (take (suc (n + k)) cs) ≡ false = f (suc (n + k)) (omega arith) (omega arith) in
    rw e (rw g (none_above p cs n k (λ j a b. f j a (omega arith))))

pub len_within : (cs : List ℕ) → lexeme_len cs ≤ length cs
unfolding lexeme_len
len_within cs = within (λ t. is_some (class_in cs t)) cs (length cs)
  where
    within : (p : List ℕ → Bool) (cs : List ℕ) (m : ℕ) → longest_within p cs m ≤ m
    within p cs zero = omega arith
    within p cs (suc m) =
        ⊎_elim
        (λ (e : p (take (suc m) cs) ≡ true). rw e (omega arith))
        (λ (e : p (take (suc m) cs) ≡ false). let i = within p cs m in rw e (omega arith))
        (cases_Bool (p (take (suc m) cs)))

-- Where no longer front is a lexeme
abbrev NoLonger : List ℕ → List ℕ → Type 0
NoLonger cs es = (j : ℕ) → length cs < j → j ≤ length (cs ++ es) → class_in (cs ++ es) (take j (cs ++ es)) ≡ None

class_kept : (cs es t : List ℕ) → EndsLine cs → class_in (cs ++ es) t ≡ class_in cs t
unfolding class_in counts_as_string
class_kept cs es t l = rw (opens_kept cs es l, triples_kept cs es l) refl

same_len : (cs es : List ℕ) → EndsLine cs → NoLonger cs es → lexeme_len (cs ++ es) ≡ lexeme_len cs
unfolding lexeme_len
same_len cs es l f =
    let n : length (cs ++ es) ≡ length cs + length es = length-append cs es in
    rw n (none_above (λ t. is_some (class_in (cs ++ es) t)) (cs ++ es) (length cs) (length es) (λ j a b. ap is_some (f j a (omega arith))))
    ∙ same_within (λ t. is_some (class_in (cs ++ es) t)) (λ t. is_some (class_in cs t)) cs es (length cs) (omega arith)
    (λ t. ap is_some (class_kept cs es t l))

same_lexeme : (cs es : List ℕ) → EndsLine cs → NoLonger cs es → lexeme_at (cs ++ es) ≡ lexeme_at cs
unfolding lexeme_at
same_lexeme cs es l f =
    let t : take (lexeme_len (cs ++ es)) (cs ++ es) ≡ take (lexeme_len cs) cs = ap (λ n. take n (cs ++ es)) (same_len cs es l f)
    ∙ take-append-le (lexeme_len cs) cs es (len_within cs) in
    ap (λ u. option_map {U = Lexeme} (λ k. record { «class» = k; text = u }) (class_in (cs ++ es) u)) t
    ∙ ap (option_map {U = Lexeme} (λ k. record { «class» = k; text = take (lexeme_len cs) cs }))
    (class_kept cs es (take (lexeme_len cs) cs) l)

-- Where no string opens
record Longer (cs t : List ℕ) : Type 0 where
  pub first : ℕ
  pub rest : List ℕ
  pub is : t ≡ cs ++ first ∷ rest

longer : (cs es : List ℕ) (j : ℕ) → length cs < j → j ≤ length (cs ++ es) → Longer cs (take j (cs ++ es))
longer [] [] j a b = absurd (omega arith)
longer [] (e ∷ es) zero a b = absurd (omega arith)
longer [] (e ∷ es) (suc j) a b = record { first = e; rest = take j es; is = refl }
longer (c ∷ cs) es zero a b = absurd (omega arith)
longer (c ∷ cs) es (suc j) a b = let r = longer cs es j (omega arith) (omega arith) in
    record { first = r.first; rest = r.rest; is = ap (λ t. c ∷ t) r.is }

none_plain : (cs es : List ℕ) → EndsLine cs → opens_string cs ≡ false → NoLonger cs es
none_plain cs es l o j a b =
    let r = longer cs es j a b in
    plainly (cs ++ es) (take j (cs ++ es)) (opens_kept cs es l ∙ o) ∙ ap plain_class r.is ∙ plain_none cs r.first r.rest l

-- Where a string opens: the literal is closed, or it stops at a line end
single_len_kept : (q : ℕ) (t es : List ℕ) → is_nil t ≡ false → lined t ≡ true → (0 < single_len q t) ⊎ (ends_by_join q (units t) ≡ false)
    → single_len q (t ++ es) ≡ single_len q t
unfolding single_len
single_len_kept q t es s l k = ap (single_of q) (units_join t es l) ∙ by (single_of q (units t)) refl k
  where
    by : (n : ℕ) → single_of q (units t) ≡ n → (0 < single_of q (units t)) ⊎ (ends_by_join q (units t) ≡ false)
        → single_of q (units t ++ units es) ≡ single_of q (units t)
    by zero e (inl h) = absurd (omega arith)
    by zero e (inr h) = (stops_kept q (units t) (units es) (units_last t s l) (record { unclosed = e; unjoined = h })).unclosed ∙ sym e
    by (suc n) e k = single_kept q n (units t) (units es) e ∙ sym e

triple_len_kept : (q : ℕ) (t es : List ℕ) → lined t ≡ true → 0 < triple_len q t → triple_len q (t ++ es) ≡ triple_len q t
unfolding triple_len
triple_len_kept q t es l h = ap (triple_of q) (units_join t es l) ∙ by (triple_of q (units t)) refl
  where
    by : (n : ℕ) → triple_of q (units t) ≡ n → triple_of q (units t ++ units es) ≡ triple_of q (units t)
    by zero e = absurd (omega arith)
    by (suc n) e = triple_kept q n (units t) (units es) e ∙ sym e

shift_some : (u m : ℕ) → 0 < shift u m → 0 < m
shift_some u zero h = h
shift_some u (suc m) h = omega arith

-- from its quote on, a literal is closed, or it isn't open up to the end of r
abbrev Ends : ℕ → List ℕ → Type 0
Ends q r = (0 < quoted_len q r) ⊎ ((begins_quotes q r || ends_by_join q (units (drop 1 r))) ≡ false)

quoted_kept : (q : ℕ) (r es : List ℕ) → IsQuote q → begins (λ c. c == q) r ≡ true → lined r ≡ true → Ends q r
    → quoted_len q (r ++ es) ≡ quoted_len q r
unfolding quoted_len
quoted_kept q [] es k h l e = cc
quoted_kept q (a ∷ t) es k h l e =
    let s = quotes_kept q k (a ∷ t) es refl l in
    ⊎_elim
    (λ (f : begins_quotes q (a ∷ t) ≡ true). rw (s ∙ f, f) (three t f l e))
    (λ (f : begins_quotes q (a ∷ t) ≡ false). rw (s ∙ f, f)
    (ap (shift 1) (single_len_kept q t es (after_quote q a t k h l) (lined_tail a t l) (one f e))))
    (cases_Bool (begins_quotes q (a ∷ t)))
  where
    one : begins_quotes q (a ∷ t) ≡ false → Ends q (a ∷ t) → (0 < single_len q t) ⊎ (ends_by_join q (units t) ≡ false)
    one f (inl h) = inl (shift_some 1 (single_len q t) (rw f at h))
    one f (inr h) = inr (or_parts (begins_quotes q (a ∷ t)) (ends_by_join q (units t)) h).1

    three : (t : List ℕ) → begins_quotes q (a ∷ t) ≡ true → lined (a ∷ t) ≡ true → Ends q (a ∷ t)
        → shift 3 (triple_len q (drop 3 (a ∷ t ++ es))) ≡ shift 3 (triple_len q (drop 3 (a ∷ t)))
    three t f l (inr h) = absurd (let z = (or_parts (begins_quotes q (a ∷ t)) (ends_by_join q (units t)) h).0 in cc)
    three [] f l (inl h) = absurd (let p = and_parts ((a == q) && false) false f in let z : false ≡ true = p.1 in cc)
    three (b ∷ []) f l (inl h) = absurd (let p = and_parts ((a == q) && (b == q)) false f in let z : false ≡ true = p.1 in cc)
    three (b ∷ c ∷ t) f l (inl h) = ap (shift 3) (triple_len_kept q t es (lined_tail c t l) (shift_some 3 (triple_len q t) (rw f at h)))

above : (p p' : List ℕ → Bool) (cs cs' : List ℕ) (k : ℕ) → Reads p cs k → Reads p' cs' k → (j : ℕ) → length cs < j → j ≤ length cs'
    → p' (take j cs') ≡ false
above p p' cs cs' zero r r' j a b = r' j b
above p p' cs cs' (suc k) r r' j a b = let h = r.within in r'.longest j (omega arith) b

-- what is read at the front of a text in which a string opens
pub reads_at : (q n : ℕ) (cs : List ℕ) → Opens n cs → begins (λ c. c == q) (drop n cs) ≡ true
    → Reads (counts_as_string cs) cs (shift n (quoted_len q (drop n cs)))
reads_at q n cs o h = string_reads q n cs (drop 1 (drop n cs)) (quote_which q n cs o h) o (head_is q (drop n cs) h)

len_kept_at : (q n : ℕ) (cs es : List ℕ) → EndsLine cs → Opens n cs → begins (λ c. c == q) (drop n cs) ≡ true → Ends q (drop n cs)
    → quoted_len q (drop n (cs ++ es)) ≡ quoted_len q (drop n cs)
len_kept_at q n cs es l o h e = ap (quoted_len q) (after_front n cs es o)
    ∙ quoted_kept q (drop n cs) es (which_quote q (quote_which q n cs o h)) h (drop_lined n cs (ends_lined cs l)) e

none_string : (q n : ℕ) (cs es : List ℕ) → EndsLine cs → opens_string cs ≡ true → Opens n cs → begins (λ c. c == q) (drop n cs) ≡ true
    → Ends q (drop n cs) → NoLonger cs es
unfolding class_in
none_string q n cs es l s o h e j a b =
    let r = reads_at q n cs o h in
    let m = reads_at q n (cs ++ es) (opens_longer n cs es o) (here_longer q n cs es o h) in
    let i : Reads (counts_as_string (cs ++ es)) (cs ++ es) (shift n (quoted_len q (drop n cs))) =
    subst (λ (k : ℕ). Reads (counts_as_string (cs ++ es)) (cs ++ es) (shift n k)) (len_kept_at q n cs es l o h e) m in
    let c : counts_as_string (cs ++ es) (take j (cs ++ es)) ≡ false = above (counts_as_string cs) (counts_as_string (cs ++ es)) cs
    (cs ++ es) (shift n (quoted_len q (drop n cs))) r i j a b in
    rw (opens_kept cs es l ∙ s, c) refl

-- where nothing is read up to a closing quote, no lexeme stands
pub none_at : (q n : ℕ) (cs : List ℕ) → opens_string cs ≡ true → Opens n cs → begins (λ c. c == q) (drop n cs) ≡ true
    → quoted_len q (drop n cs) ≡ 0 → lexeme_at cs ≡ None
none_at q n cs s o h e =
    none_is cs cs (string_none cs s (longest_reads (counts_as_string cs) cs (shift n (quoted_len q (drop n cs))) (reads_at q n cs o h)
    ∙ ap (shift n) e))

pub none_read : (q n : ℕ) (cs : List ℕ) → opens_string cs ≡ true → Opens n cs → begins (λ c. c == q) (drop n cs) ≡ true
    → lexeme_at cs ≡ None → quoted_len q (drop n cs) ≡ 0
none_read q n cs s o h e = by (quoted_len q (drop n cs)) refl
  where
    some : (k : ℕ) → TakesLexeme cs (Some String) (drop k cs) → ⊥
    some k t = let f : Some String ≡ None = t.«class» ∙ ap (option_map (λ (x : Lexeme). x.«class»)) e in cc

    by : (k : ℕ) → quoted_len q (drop n cs) ≡ k → quoted_len q (drop n cs) ≡ 0
    by zero d = d
    by (suc k) d =
        let m : longest (counts_as_string cs) cs ≡ n + suc k = longest_reads (counts_as_string cs) cs (shift n (quoted_len q (drop n cs)))
        (reads_at q n cs o h) ∙ ap (shift n) d in
        absurd (some (longest (counts_as_string cs) cs) (string_takes cs (drop (longest (counts_as_string cs) cs) cs) s (omega arith) refl))

-- Whole lines with a first lexeme, or with no open literal
abbrev Settled : List ℕ → Type 0
Settled cs = ((x : Lexeme) × (lexeme_at cs ≡ Some x)) ⊎ (is_open_string cs ≡ false)

none_longer : (cs es : List ℕ) → EndsLine cs → Settled cs → NoLonger cs es
none_longer cs es l k = ⊎_elim (λ (s : opens_string cs ≡ true). string s (quoted cs s)) (none_plain cs es l) (cases_Bool (opens_string cs))
  where
    ends : (v : Quoted cs) → opens_string cs ≡ true → (m : ℕ) → quoted_len v.q (drop v.n cs) ≡ m → Settled cs → Ends v.q (drop v.n cs)
    ends v s (suc m) e k = inl (omega arith)
    ends v s zero e (inl x) = absurd (let f : Some x.0 ≡ None = sym x.1 ∙ none_at v.q v.n cs s v.opens v.here e in cc)
    ends v s zero e (inr f) =
        inr (sym (open_following v.q v.n cs (drop v.n cs) (quote_which v.q v.n cs v.opens v.here) v.opens refl v.here) ∙ f)

    string : opens_string cs ≡ true → Quoted cs → NoLonger cs es
    string s v = none_string v.q v.n cs es l s v.opens v.here (ends v s (quoted_len v.q (drop v.n cs)) refl k)

pub lexeme_kept : (cs es : List ℕ) (x : Lexeme) → EndsLine cs → lexeme_at cs ≡ Some x → lexeme_at (cs ++ es) ≡ Some x
lexeme_kept cs es x l e = same_lexeme cs es l (none_longer cs es l (inl (x, e))) ∙ e

pub len_kept : (cs es : List ℕ) (x : Lexeme) → EndsLine cs → lexeme_at cs ≡ Some x → lexeme_len (cs ++ es) ≡ lexeme_len cs
len_kept cs es x l e = same_len cs es l (none_longer cs es l (inl (x, e)))

pub none_kept : (cs es : List ℕ) → EndsLine cs → lexeme_at cs ≡ None → is_open_string cs ≡ false → lexeme_at (cs ++ es) ≡ None
none_kept cs es l e f = same_lexeme cs es l (none_longer cs es l (inr f)) ∙ e

-- a literal that stops at a line end stays so
open_stops : (q : ℕ) (r es : List ℕ) → IsQuote q → begins (λ c. c == q) r ≡ true → lined r ≡ true → quoted_len q r ≡ 0
    → (begins_quotes q r || ends_by_join q (units (drop 1 r))) ≡ false
    → (begins_quotes q (r ++ es) || ends_by_join q (units (drop 1 (r ++ es)))) ≡ false
unfolding quoted_len single_len
open_stops q [] es k h l z g = cc
open_stops q (a ∷ t) es k h l z g =
    let p = or_parts (begins_quotes q (a ∷ t)) (ends_by_join q (units t)) g in
    let u : shift 1 (single_of q (units t)) ≡ 0 = rw p.0 at z in
    let w = stops_kept q (units t) (units es) (units_last t (after_quote q a t k h l) (lined_tail a t l))
    (record { unclosed = shift_none 1 (single_of q (units t)) u; unjoined = p.1 }) in
    let j : ends_by_join q (units (t ++ es)) ≡ false = ap (ends_by_join q) (units_join t es (lined_tail a t l)) ∙ w.unjoined in
    rw (quotes_kept q k (a ∷ t) es refl l ∙ p.0, j) refl

pub open_kept : (cs es : List ℕ) → EndsLine cs → lexeme_at cs ≡ None → is_open_string cs ≡ false → is_open_string (cs ++ es) ≡ false
open_kept cs es l e f = ⊎_elim (λ (s : opens_string cs ≡ true). string s (quoted cs s))
    (λ (s : opens_string cs ≡ false). open_none (cs ++ es) (opens_kept cs es l ∙ s)) (cases_Bool (opens_string cs))
  where
    string : opens_string cs ≡ true → Quoted cs → is_open_string (cs ++ es) ≡ false
    string s v =
        let w = quote_which v.q v.n cs v.opens v.here in
        let b : (begins_quotes v.q (drop v.n cs) || ends_by_join v.q (units (drop 1 (drop v.n cs)))) ≡ false =
        sym (open_following v.q v.n cs (drop v.n cs) w v.opens refl v.here) ∙ f in
        let g = open_stops v.q (drop v.n cs) es (which_quote v.q w) v.here (drop_lined v.n cs (ends_lined cs l))
        (none_read v.q v.n cs s v.opens v.here e) b in
        open_following v.q v.n (cs ++ es) (drop v.n cs ++ es) w (opens_longer v.n cs es v.opens) (sym (after_front v.n cs es v.opens))
        (ap (begins (λ c. c == v.q)) (sym (after_front v.n cs es v.opens)) ∙ here_longer v.q v.n cs es v.opens v.here) ∙ g
