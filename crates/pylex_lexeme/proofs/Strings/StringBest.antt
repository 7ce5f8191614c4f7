-- A string is read to the end of the longest one, which is the only one.
--
-- Carries: open_literal, prefix_and_quoted. On: Best, Units, Joined, Triples.
use Rattle.std.proofs.Common.{◌≡◌, ℕ, ◌+◌, Bool, true, false, ◌||◌, ◌==◌, not, List, [], ◌∷◌, refl, ◌∙◌, ap, subst, arith, zero, suc}
use Rattle.std.proofs.Common.{⊎_elim}
use Rattle.std.proofs.lemmas.Bool.{eqb-true, not-true, or_parts, or_cases}
use Rattle.pylex_lexeme.specs.Numbers.{headed}
use Rattle.pylex_lexeme.specs.declared.string.Quote.{Quote}
use Rattle.pylex_lexeme.specs.declared.string.Quote.TheVariants.{Single, Double}
use Rattle.pylex_lexeme.specs.Strings.{units, ends_by_one, ends_by_three, is_single, is_triple, is_prefix, begins_quote, begins_three}
use Rattle.pylex_lexeme.specs.Strings.{quote_char}
use Rattle.pylex_lexeme.specs.Lengths.{shift, single_len, triple_len, single_of, triple_of}
use Rattle.pylex_lexeme.proofs.Fronts.Best.{NoFront, Reads, Starts, headed_best, headed_none, headed_rest, or_left, or_right}
use Rattle.pylex_lexeme.proofs.Fronts.Best.{or_none, none_above}
use Rattle.pylex_lexeme.proofs.Strings.Units.{IsQuote, quote_is, closer_reads, single_closer}
use Rattle.pylex_lexeme.proofs.Strings.Triples.{triple_closer}

headed_reads : (f : ℕ → Bool) (p : List ℕ → Bool) (c : ℕ) (t : List ℕ) (n : ℕ) → f c ≡ true → Reads p t n
    → Reads (headed f p) (c ∷ t) (shift 1 n)
headed_reads f p c t zero e r = headed_rest f p c t r
headed_reads f p c t (suc n) e r = let z : 1 + suc n ≡ suc (suc n) = omega arith in rw z (headed_best f p c t (suc n) e r)

shift_shift : (a b n : ℕ) → shift a (shift b n) ≡ shift (a + b) n
shift_shift a b zero = refl
shift_shift a b (suc n) = let z : b + suc n ≡ suc (b + n) = omega arith in rw z (omega arith)

reads_left : (p q : List ℕ → Bool) (cs : List ℕ) (n : ℕ) → Reads p cs n → NoFront q cs → Reads (λ t. p t || q t) cs n
reads_left p q cs zero a b = or_none p q cs a b
reads_left p q cs (suc n) a b = or_left p q cs (suc n) a (none_above q cs _ b)

reads_right : (p q : List ℕ → Bool) (cs : List ℕ) (n : ℕ) → NoFront p cs → Reads q cs n → Reads (λ t. p t || q t) cs n
reads_right p q cs zero a b = or_none p q cs a b
reads_right p q cs (suc n) a b = or_right p q cs (suc n) (none_above p cs _ a) b

pub single_reads : (q a : ℕ) (t : List ℕ) → IsQuote q → (a == q) ≡ true → Reads (is_single q) (a ∷ t) (shift 1 (single_len q t))
unfolding is_single single_len
single_reads q a t k e = headed_reads (λ c. c == q) (λ u. ends_by_one q (units u)) a t (single_of q (units t)) e
    (closer_reads (ends_by_one q) (single_of q) (single_closer q k) t)

pub single_off : (q a : ℕ) (t : List ℕ) → (a == q) ≡ false → NoFront (is_single q) (a ∷ t)
unfolding is_single
single_off q a t e = headed_none (λ c. c == q) (λ u. ends_by_one q (units u)) a t e

pub triple_reads : (q a b c : ℕ) (t : List ℕ) → IsQuote q → (a == q) ≡ true → (b == q) ≡ true → (c == q) ≡ true
    → Reads (is_triple q) (a ∷ b ∷ c ∷ t) (shift 3 (triple_len q t))
unfolding is_triple triple_len
triple_reads q a b c t k e f g =
    let r = closer_reads (ends_by_three q) (triple_of q) (triple_closer q k) t in
    let x = headed_reads (λ d. d == q) (λ u. ends_by_three q (units u)) c t (triple_of q (units t)) g r in
    let y = headed_reads (λ d. d == q) (headed (λ d. d == q) (λ u. ends_by_three q (units u))) b (c ∷ t)
    (shift 1 (triple_of q (units t))) f x in
    let z = headed_reads (λ d. d == q) (headed (λ d. d == q) (headed (λ d. d == q) (λ u. ends_by_three q (units u)))) a (b ∷ c ∷ t)
    (shift 1 (shift 1 (triple_of q (units t)))) e y in
    let s : shift 1 (shift 1 (shift 1 (triple_of q (units t)))) ≡ shift 3 (triple_of q (units t)) =
    ap (shift 1) (shift_shift 1 1 (triple_of q (units t))) ∙ shift_shift 1 2 (triple_of q (units t)) in
    subst (Reads (λ u. headed (λ d. d == q) (headed (λ d. d == q) (headed (λ d. d == q) (λ v. ends_by_three q (units v)))) u)
    (a ∷ b ∷ c ∷ t)) s z

pub triple_off : (q a : ℕ) (t : List ℕ) → (a == q) ≡ false → NoFront (is_triple q) (a ∷ t)
unfolding is_triple
triple_off q a t e = headed_none (λ c. c == q) (headed (λ c. c == q) (headed (λ c. c == q) (λ u. ends_by_three q (units u)))) a t e

abbrev pub single_either : List ℕ → Bool
single_either u = is_single 39 u || is_single 34 u

abbrev pub triple_either : List ℕ → Bool
triple_either u = is_triple 39 u || is_triple 34 u

-- which of the two quotes
pub data Which (q : ℕ) : Type 0 where
  one : q ≡ 39 → Which q
  two : q ≡ 34 → Which q

pub which : (q : ℕ) → ((q == 39) || (q == 34)) ≡ true → Which q
which q e = ⊎_elim (λ (h : (q == 39) ≡ true). one (eqb-true q 39 h)) (λ (h : (q == 34) ≡ true). two (eqb-true q 34 h))
    (or_cases (q == 39) (q == 34) e)

pub which_mark : (q : Quote) → Which (quote_char q)
which_mark Single = one refl
which_mark Double = two refl

quote_39 : IsQuote 39
quote_39 = quote_is 39 refl

quote_34 : IsQuote 34
quote_34 = quote_is 34 refl

pub single_quoted : (q : ℕ) (t : List ℕ) → Which q → Reads single_either (q ∷ t) (shift 1 (single_len q t))
single_quoted q t (one e) =
    rw e (reads_left (is_single 39) (is_single 34) (39 ∷ t) (shift 1 (single_len 39 t)) (single_reads 39 39 t quote_39 refl)
    (single_off 34 39 t refl))
single_quoted q t (two e) = rw e (reads_right (is_single 39) (is_single 34) (34 ∷ t) (shift 1 (single_len 34 t)) (single_off 39 34 t refl)
    (single_reads 34 34 t quote_34 refl))

pub triple_quoted : (q b c : ℕ) (t : List ℕ) → Which q → (b == q) ≡ true → (c == q) ≡ true
    → Reads triple_either (q ∷ b ∷ c ∷ t) (shift 3 (triple_len q t))
triple_quoted q b c t (one e) f g =
    let f2 : (b == 39) ≡ true = rw e at f in
    let g2 : (c == 39) ≡ true = rw e at g in
    rw e (reads_left (is_triple 39) (is_triple 34) (39 ∷ b ∷ c ∷ t) (shift 3 (triple_len 39 t))
    (triple_reads 39 39 b c t quote_39 refl f2 g2) (triple_off 34 39 (b ∷ c ∷ t) refl))
triple_quoted q b c t (two e) f g =
    let f2 : (b == 34) ≡ true = rw e at f in
    let g2 : (c == 34) ≡ true = rw e at g in
    rw e (reads_right (is_triple 39) (is_triple 34) (34 ∷ b ∷ c ∷ t) (shift 3 (triple_len 34 t)) (triple_off 39 34 (b ∷ c ∷ t) refl)
    (triple_reads 34 34 b c t quote_34 refl f2 g2))

-- Prefixes
abbrev pub not_quote : ℕ → Bool
not_quote c = not ((c == 39) || (c == 34))

pub single_starts : Starts not_quote single_either
unfolding is_single
single_starts c t e = let p = or_parts (c == 39) (c == 34) (not-true ((c == 39) || (c == 34)) e) in rw (p.0, p.1) refl

pub triple_starts : Starts not_quote triple_either
unfolding is_triple
triple_starts c t e = let p = or_parts (c == 39) (c == 34) (not-true ((c == 39) || (c == 34)) e) in rw (p.0, p.1) refl

pub quote_starts : Starts not_quote begins_quote
quote_starts c t e = not-true ((c == 39) || (c == 34)) e

pub three_starts : Starts not_quote begins_three
three_starts c [] e = refl
three_starts c (b ∷ []) e = refl
three_starts c (b ∷ d ∷ t) e = let p = not-true ((c == 39) || (c == 34)) e in rw p refl

-- no text with a quote in it is a prefix
pub no_prefix_one : (q : ℕ) (t : List ℕ) → Which q → is_prefix (q ∷ t) ≡ false
unfolding is_prefix
no_prefix_one q t (one e) = rw e refl
no_prefix_one q t (two e) = rw e refl
