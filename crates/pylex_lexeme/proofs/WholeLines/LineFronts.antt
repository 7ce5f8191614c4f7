-- What begins a text of whole lines is seen in it, whatever follows.
--
-- Carries: triples_kept, here_longer, opens_longer, after_quote and 8 more, for Kept, Lengthened,
-- OpenLiterals. On: StringBest, LinedUnits, Best, Units and 2 more.
use Rattle.std.proofs.Common.{◌≡◌, ℕ, ◌≤◌, ◌<◌, Bool, true, false, ◌&&◌, ◌||◌, ◌==◌, List, [], ◌∷◌, ◌++◌, length, take, drop, refl, ◌∙◌, ap}
use Rattle.std.proofs.Common.{arith, zero, suc, ⊎_elim, length-drop}
use Rattle.std.proofs.lemmas.Bool.{eqb-true, eq-eqb, cases_Bool, and_parts, and_right, or_cases}
use Rattle.std.proofs.lemmas.List.{take-append-le, drop-append-le}
use Rattle.pylex_lexeme.specs.Chars.{begins}
use Rattle.pylex_lexeme.specs.Numbers.{is_nil}
use Rattle.pylex_lexeme.specs.Strings.{is_prefix, begins_quote, begins_three, after_prefix, opens_string, opens_triple}
use Rattle.pylex_lexeme.specs.Lengths.{Opens, begins_quotes}
use Rattle.pylex_lexeme.specs.Cuts.{begins_significant}
use Rattle.pylex_lexeme.specs.Chunks.{EndsLine}
use Rattle.pylex_lexeme.proofs.Strings.Units.{IsQuote, quote_is}
use Rattle.pylex_lexeme.proofs.Strings.StringBest.{Which, one, two, which}
use Rattle.pylex_lexeme.proofs.Strings.Prefixes.{one_prefix, two_prefix}
use Rattle.pylex_lexeme.proofs.WholeLines.LinedUnits.{lined, lined_tail, ends_lined, ends_some}

-- what follows a text of whole lines changes nothing for the test
abbrev Settles : (List ℕ → Bool) → Type 0
Settles p = (r es : List ℕ) → is_nil r ≡ false → lined r ≡ true → p (r ++ es) ≡ p r

feed_first : (b : ℕ) → is_prefix (10 ∷ b ∷ []) ≡ false
feed_first b = two_prefix 10 b

feed_second : (a : ℕ) → is_prefix (a ∷ 10 ∷ []) ≡ false
feed_second a = two_prefix a 10 ∙ none ((a == 114) || (a == 82)) (((a == 98) || (a == 66)) || ((a == 102) || (a == 70)))
  where
    none : (x y : Bool) → ((x && false) || (y && false)) ≡ false
    none true true = refl
    none true false = refl
    none false true = refl
    none false false = refl

-- a prefix holds no LF
after_kept : (p : List ℕ → Bool) → Settles p → (cs es : List ℕ) → is_nil cs ≡ false → lined cs ≡ true
    → after_prefix p (cs ++ es) ≡ after_prefix p cs
after_kept p k [] es s l = cc
after_kept p k (a ∷ []) [] s l = refl
after_kept p k (a ∷ []) (e ∷ es) s l = let z : a ≡ 10 = eqb-true a 10 l in
    rw z (rw (k (10 ∷ []) (e ∷ es) refl refl, one_prefix 10, feed_first e) refl)
after_kept p k (a ∷ b ∷ []) es s l = let z : b ≡ 10 = eqb-true b 10 l in
    rw z (rw (k (a ∷ 10 ∷ []) es refl refl, k (10 ∷ []) es refl refl, feed_second a) refl)
after_kept p k (a ∷ b ∷ c ∷ t) es s l = rw (
  k (a ∷ b ∷ c ∷ t) es refl l,
  k (b ∷ c ∷ t) es refl l,
  k (c ∷ t) es refl (lined_tail b (c ∷ t) l),
) refl

quote_settles : Settles begins_quote
quote_settles [] es s l = cc
quote_settles (c ∷ t) es s l = refl

three_settles : Settles begins_three
three_settles [] es s l = cc
three_settles (a ∷ []) es s l = none es
  where
    none : (es : List ℕ) → begins_three (a ∷ es) ≡ false
    none [] = refl
    none (e ∷ []) = refl
    none (e ∷ f ∷ es) = let z : a ≡ 10 = eqb-true a 10 l in rw z refl
three_settles (a ∷ b ∷ []) es s l = none es
  where
    other : (e : ℕ) → Which a → (((a == 39) || (a == 34)) && (10 == a) && (e == a)) ≡ false
    other e (one h) = rw h refl
    other e (two h) = rw h refl

    none : (es : List ℕ) → begins_three (a ∷ b ∷ es) ≡ false
    none [] = refl
    none (e ∷ es) =
        let z : b ≡ 10 = eqb-true b 10 l in
        ⊎_elim
        (λ (h : ((a == 39) || (a == 34)) ≡ true). rw z (other e (which a h)))
        (λ (h : ((a == 39) || (a == 34)) ≡ false). rw h refl)
        (cases_Bool ((a == 39) || (a == 34)))
three_settles (a ∷ b ∷ c ∷ t) es s l = refl

pub opens_kept : (cs es : List ℕ) → EndsLine cs → opens_string (cs ++ es) ≡ opens_string cs
unfolding opens_string
opens_kept cs es l = after_kept begins_quote quote_settles cs es (ends_some cs l) (ends_lined cs l)

pub triples_kept : (cs es : List ℕ) → EndsLine cs → opens_triple (cs ++ es) ≡ opens_triple cs
unfolding opens_triple
triples_kept cs es l = after_kept begins_three three_settles cs es (ends_some cs l) (ends_lined cs l)

feed_no_quote : (q a : ℕ) → IsQuote q → (a == 10) ≡ true → (a == q) ≡ false
feed_no_quote q a k l =
    ⊎_elim
    (λ (h : (a == q) ≡ true). let y : a ≡ q = eqb-true a q h in let z : (q == 10) ≡ true = rw y at l in let f = k.feed in cc)
    (λ (h : (a == q) ≡ false). h)
    (cases_Bool (a == q))

pub quotes_kept : (q : ℕ) → IsQuote q → (r es : List ℕ) → is_nil r ≡ false → lined r ≡ true → begins_quotes q (r ++ es) ≡ begins_quotes q r
quotes_kept q k [] es s l = cc
quotes_kept q k (a ∷ []) es s l = let n = feed_no_quote q a k l in rw n refl
quotes_kept q k (a ∷ b ∷ []) es s l = let n = feed_no_quote q b k l in rw n (rw (and_right (a == q) false refl) refl)
quotes_kept q k (a ∷ b ∷ c ∷ t) es s l = refl

-- after a quote the line goes on
pub after_quote : (q a : ℕ) (t : List ℕ) → IsQuote q → (a == q) ≡ true → lined (a ∷ t) ≡ true → is_nil t ≡ false
after_quote q a [] k h l = let n = feed_no_quote q a k l in cc
after_quote q a (c ∷ t) k h l = refl

-- Significant tokens
pub significant_kept : (cs es : List ℕ) → EndsLine cs → begins_significant (cs ++ es) ≡ begins_significant cs
unfolding begins_significant
significant_kept cs es l = by cs es (ends_some cs l) (ends_lined cs l)
  where
    by : (cs es : List ℕ) → is_nil cs ≡ false → lined cs ≡ true → begins_significant (cs ++ es) ≡ begins_significant cs
    by [] es s l = cc
    by (a ∷ []) [] s l = refl
    by (a ∷ []) (e ∷ es) s l = rw l refl
    by (a ∷ b ∷ t) es s l = refl

-- Where a string opens, its prefix and its quote
pub record Quoted (cs : List ℕ) : Type 0 where
  pub n : ℕ
  pub q : ℕ
  pub opens : Opens n cs
  pub here : begins (λ c. c == q) (drop n cs) ≡ true

quoted_at : (n : ℕ) (cs r : List ℕ) → n ≤ 2 → drop n cs ≡ r → is_prefix (take n cs) ≡ true → begins_quote r ≡ true → Quoted cs
quoted_at n cs [] h d p e = cc
quoted_at n cs (q ∷ t) h d p e = record {
  n = n;
  q = q;
  opens = record { small = h; «prefix» = p; quote = ap begins_quote d ∙ e };
  here =
      ap (begins (λ c. c == q)) d ∙ eq-eqb q q refl;
}

pub quoted : (cs : List ℕ) → opens_string cs ≡ true → Quoted cs
unfolding opens_string
quoted cs e =
    ⊎_elim
    (at 0 (omega arith))
    (λ (f : ((is_prefix (take 1 cs) && begins_quote (drop 1 cs)) || ((is_prefix (take 2 cs) && begins_quote (drop 2 cs)) || false)) ≡ true).
    ⊎_elim
    (at 1 (omega arith))
    (λ (g : ((is_prefix (take 2 cs) && begins_quote (drop 2 cs)) || false) ≡ true).
    ⊎_elim (at 2 (omega arith)) (λ (h : false ≡ true). cc) (or_cases (is_prefix (take 2 cs) && begins_quote (drop 2 cs)) false g))
    (or_cases (is_prefix (take 1 cs) && begins_quote (drop 1 cs)) ((is_prefix (take 2 cs) && begins_quote (drop 2 cs)) || false) f))
    (or_cases (is_prefix (take 0 cs) && begins_quote (drop 0 cs)) ((is_prefix (take 1 cs) && begins_quote (drop 1 cs)) ||
    ((is_prefix (take 2 cs) && begins_quote (drop 2 cs)) || false)) e)
  where
    at : (n : ℕ) → n ≤ 2 → (is_prefix (take n cs) && begins_quote (drop n cs)) ≡ true → Quoted cs
    at n h f = let p = and_parts (is_prefix (take n cs)) (begins_quote (drop n cs)) f in quoted_at n cs (drop n cs) h refl p.0 p.1

-- which quote it is
pub quote_which : (q n : ℕ) (cs : List ℕ) → Opens n cs → begins (λ c. c == q) (drop n cs) ≡ true → Which q
quote_which q n cs o h = by (drop n cs) o.quote h
  where
    by : (r : List ℕ) → begins_quote r ≡ true → begins (λ c. c == q) r ≡ true → Which q
    by [] e h = cc
    by (c ∷ t) e h = let z : c ≡ q = eqb-true c q h in which q (rw z at e)

pub which_quote : (q : ℕ) → Which q → IsQuote q
which_quote q (one e) = quote_is q (rw e refl)
which_quote q (two e) = quote_is q (rw e refl)

-- The prefix and the quote are within the text
pub opens_within : (n : ℕ) (cs : List ℕ) → Opens n cs → n < length cs
opens_within n cs o = let d = length-drop n cs in let s : 0 < length (drop n cs) = some (drop n cs) o.quote in omega arith
  where
    some : (r : List ℕ) → begins_quote r ≡ true → 0 < length r
    some [] e = cc
    some (c ∷ t) e = omega arith

pub after_front : (n : ℕ) (cs es : List ℕ) → Opens n cs → drop n (cs ++ es) ≡ drop n cs ++ es
after_front n cs es o = let h = opens_within n cs o in drop-append-le n cs es (omega arith)

begins_more : (p : ℕ → Bool) (r es : List ℕ) → begins p r ≡ true → begins p (r ++ es) ≡ true
begins_more p [] es e = cc
begins_more p (c ∷ t) es e = e

pub here_longer : (q n : ℕ) (cs es : List ℕ) → Opens n cs → begins (λ c. c == q) (drop n cs) ≡ true
    → begins (λ c. c == q) (drop n (cs ++ es)) ≡ true
here_longer q n cs es o h = ap (begins (λ c. c == q)) (after_front n cs es o) ∙ begins_more (λ c. c == q) (drop n cs) es h

pub opens_longer : (n : ℕ) (cs es : List ℕ) → Opens n cs → Opens n (cs ++ es)
opens_longer n cs es o =
    let h = opens_within n cs o in
    record {
      small = o.small;
      «prefix» = ap is_prefix (take-append-le n cs es (omega arith)) ∙ o.«prefix»;
      quote = ap begins_quote (after_front n cs es o) ∙ quote_more (drop n cs) es o.quote;
    }
  where
    quote_more : (r es : List ℕ) → begins_quote r ≡ true → begins_quote (r ++ es) ≡ true
    quote_more [] es e = cc
    quote_more (c ∷ t) es e = e

pub drop_lined : (n : ℕ) (cs : List ℕ) → lined cs ≡ true → lined (drop n cs) ≡ true
drop_lined zero cs l = l
drop_lined (suc n) [] l = refl
drop_lined (suc n) (c ∷ cs) l = drop_lined n cs (lined_tail c cs l)
