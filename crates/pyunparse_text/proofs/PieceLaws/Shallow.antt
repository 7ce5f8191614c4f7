-- Pieces open as many brackets at once as the terminals that they give, at most.
--
-- Carries: shallow, Few, Low, low_front, low_back and 5 more, for Segments, Fields, Formatted. On: Places.
use Rattle.std.proofs.Common.{◌≡◌, ℕ, suc, ◌+◌, ◌-◌, ◌≤◌, Bool, true, false, ◌&&◌, List, [], ◌∷◌, ◌++◌, refl, subst, arith, if◌then◌else◌}
use Rattle.std.specs.Prelude.{nat_lt}
use Rattle.std.proofs.lemmas.Bool.{lt-ltb}
use Rattle.pylex_lexeme.specs.Operators.{is_opener, is_closer}
use Rattle.pylex_lexeme.specs.declared.kinds.Exact.{Exact}
use Rattle.pytoken.specs.Terminals.{Terminal, Op, FormattedBegin}
use Rattle.pygrammar.specs.FormattedStrings.{has_formatted}
use Rattle.pyunparse_text.specs.Brackets.{open_after, most_open, brackets}
use Rattle.pyunparse_text.specs.Spacing.{Piece}
use Rattle.pyunparse_text.specs.Tokens.{opens, closes, opens_within}
use Rattle.pyunparse_text.proofs.PieceLaws.Places.{Place, GiveAt, none_given, given, depth_after, by_text, Flat}

pub first_open : (d : ℕ) (ts : List Terminal) → d ≤ most_open d ts
first_open d [] = omega arith
first_open d (t ∷ ts) = omega arith

-- what is open further on
open_following : (d : ℕ) (ts us : List Terminal) → most_open (depth_after d ts) us ≤ most_open d (ts ++ us)
open_following d [] us = omega arith
open_following d (t ∷ ts) us = let h = open_following (open_after d t) ts us in omega (arith, h)

one_more : (most d : ℕ) (ts : List Terminal) (ps : List Piece) → ((n : ℕ) → most_open n ts ≤ most → opens_within most n ps ≡ true)
    → (o s : Bool)
    → most_open (by_text d o s) ts ≤ most
    → (if o then nat_lt d most && opens_within most (d + 1) ps else (if s then opens_within most (d - 1) ps else opens_within most d ps)) ≡
    true
one_more most d ts ps more true s k =
    let f = first_open (suc d) ts in
    let e : nat_lt d most ≡ true = lt-ltb d most (omega (arith, f, k)) in
    let n : suc d ≡ d + 1 = omega arith in
    let q : opens_within most (d + 1) ps ≡ true = subst (λ n. opens_within most n ps ≡ true) n (more (suc d) k) in
    rw (e, q) refl
one_more most d ts ps more false true k = more (d - 1) k
one_more most d ts ps more false false k = more d k

pub shallow : {place : Place} (most d : ℕ) {ps : List Piece} {ts : List Terminal} → GiveAt place ps ts → most_open d ts ≤ most
    → opens_within most d ps ≡ true
shallow most d none_given h = refl
shallow most d (given {p = p} {ps = ps} {ts = ts} {us = us} g s c) h =
    let b = open_following d ts us in
    let k : most_open (depth_after d ts) us ≤ most = omega (arith, b, h) in
    one_more most d us ps (λ n q. shallow most n c q) (opens p) (closes p) (subst (λ n. most_open n us ≤ most) (s.is d) k)

-- ---- Terminals with fewer than 600 brackets open at once, as a field of an f-string may have.

abbrev pub Few : List Terminal → Type 0
Few ts = brackets ts ≤ 599

-- if there is an f-string among them
abbrev pub Low : List Terminal → Type 0
Low ts = has_formatted ts ≡ true → Few ts

formatted_front : (ts us : List Terminal) → has_formatted ts ≡ true → has_formatted (ts ++ us) ≡ true
formatted_front [] us h = absurd (cc)
formatted_front (FormattedBegin ∷ ts) us h = refl
formatted_front (t ∷ ts) us h = formatted_front ts us h

formatted_back : (ts us : List Terminal) → has_formatted us ≡ true → has_formatted (ts ++ us) ≡ true
formatted_back [] us h = h
formatted_back (FormattedBegin ∷ ts) us h = refl
formatted_back (t ∷ ts) us h = formatted_back ts us h

front_open : (d : ℕ) (ts us : List Terminal) → most_open d ts ≤ most_open d (ts ++ us)
front_open d [] us = first_open d us
front_open d (t ∷ ts) us = let h = front_open (open_after d t) ts us in omega (arith, h)

-- with more open before, no less is open
after_more : (d n : ℕ) (t : Terminal) → d ≤ n → open_after d t ≤ open_after n t
after_more d n (Op x) h = by (is_opener x) (is_closer x)
  where
    by : (o s : Bool) → (if o then suc d else (if s then d - 1 else d)) ≤ (if o then suc n else (if s then n - 1 else n))
    by true s = omega (arith, h)
    by false true = omega (arith, h)
    by false false = h
after_more d n _ h = h

pub open_more : (d n : ℕ) (ts : List Terminal) → d ≤ n → most_open d ts ≤ most_open n ts
open_more d n [] h = h
open_more d n (t ∷ ts) h = let k = open_more (open_after d t) (open_after n t) ts (after_more d n t h) in omega (arith, h, k)

pub low_front : (ts us : List Terminal) → Low (ts ++ us) → Low ts
low_front ts us h q =
    let k = h (formatted_front ts us q) in
    let f = front_open 0 ts us in
    omega (arith, f, k)

pub low_back : (ts us : List Terminal) → Flat ts → Low (ts ++ us) → Low us
low_back ts us f h q =
    let n = h (formatted_back ts us q) in
    let b = open_following 0 ts us in
    let e = f.is 0 in
    let k : most_open 0 us ≤ most_open 0 (ts ++ us) = subst (λ n. most_open n us ≤ most_open 0 (ts ++ us)) e b in
    omega (arith, k, n)

-- with some open before
pub few_at : (d : ℕ) (ts us : List Terminal) → most_open d (ts ++ us) ≤ 599 → Few ts
few_at d ts us h =
    let f = front_open d ts us in
    let m = open_more 0 d ts (omega arith) in
    omega (arith, f, m, h)

pub low_rest : (d : ℕ) (ts us : List Terminal) → Flat ts → most_open d (ts ++ us) ≤ 599 → most_open d us ≤ 599
low_rest d ts us f h =
    let b = open_following d ts us in
    let k : most_open d us ≤ most_open d (ts ++ us) = subst (λ n. most_open n us ≤ most_open d (ts ++ us)) (f.is d) b in
    omega (arith, k, h)

pub low_next : (d : ℕ) (t : Terminal) (ts : List Terminal) → most_open d (t ∷ ts) ≤ 599 → most_open (open_after d t) ts ≤ 599
low_next d t ts h = omega (arith, h)

pub front_low : (d : ℕ) (ts us : List Terminal) → most_open d (ts ++ us) ≤ 599 → most_open d ts ≤ 599
front_low d ts us h = let f = front_open d ts us in omega (arith, f, h)

-- after a sign
pub low_inside : (x : Exact) (ts us : List Terminal) → Low (Op x ∷ (ts ++ us)) → Low ts
low_inside x ts us h q = few_at (open_after 0 (Op x)) ts us (low_next 0 (Op x) (ts ++ us) (h (formatted_front ts us q)))
