-- How many tokens a list is, wherever it stands: an f-string is one, and what stands in its fields is none.
--
-- Carries: Counted, Silent, AtLeast, for Sizes, Claims and 4 more. On: nothing here.
use Rattle.std.proofs.Common.{◌≡◌, refl, ap, ◌∙◌, ℕ, suc, ◌+◌, ◌-◌, ◌≤◌, arith, List, [], ◌∷◌, ◌++◌, length, Bool, true, false}
use Rattle.std.proofs.Common.{append_assoc}
use Rattle.std.proofs.Common.{length-append}
use Rattle.pylex_lexeme.specs.declared.kinds.Exact.{Exact}
use Rattle.pyfstring.specs.declared.parts.Conversion.{Conversion}
use Rattle.pytoken.specs.Terminals.{Terminal, Op, FormattedBegin, FormattedEnd, FieldBegin, FieldEnd}
use Rattle.pyunparse_text.specs.Written.{Maker}
use Rattle.pygrammar.specs.OpenStrings.{Open, open_following, tokens_after, token_count}

-- so many tokens, outside of f-strings; none in one
pub record Counted (k : ℕ) (ts : List Terminal) : Type 0 where
  pub outside : (us : List Terminal) → tokens_after [] (ts ++ us) ≡ k + tokens_after [] us
  pub inside : (n : ℕ) (o : Open) (us : List Terminal) → tokens_after (n ∷ o) (ts ++ us) ≡ tokens_after (n ∷ o) us

-- a terminal that opens nothing and closes nothing
abbrev pub is_plain : Terminal → Bool
is_plain FormattedBegin = false
is_plain FormattedEnd = false
is_plain (FieldBegin c) = false
is_plain FieldEnd = false
is_plain _ = true

kept_open : (o : Open) (t : Terminal) → is_plain t ≡ true → open_following o t ≡ o
kept_open [] FormattedBegin h = absurd (cc)
kept_open [] _ h = refl
kept_open (n ∷ o) FormattedBegin h = absurd (cc)
kept_open (n ∷ o) FormattedEnd h = absurd (cc)
kept_open (n ∷ o) (FieldBegin c) h = absurd (cc)
kept_open (n ∷ o) FieldEnd h = absurd (cc)
kept_open (n ∷ o) _ h = refl

pub counted_none : Counted 0 []
counted_none = record { outside = λ us. omega arith; inside = λ n o us. refl }

pub counted_token : {k : ℕ} {t : Terminal} {ts : List Terminal} → is_plain t ≡ true → Counted k ts → Counted (suc k) (t ∷ ts)
counted_token {k} {t} {ts} p c = record {
  outside = λ us. ap suc (ap (λ o. tokens_after o (ts ++ us)) (kept_open [] t p) ∙ c.outside us) ∙ omega arith;
  inside = λ n o us. ap (λ x. tokens_after x (ts ++ us)) (kept_open (n ∷ o) t p) ∙ c.inside n o us;
}

pub counted_both : {m n : ℕ} {ts us : List Terminal} → Counted m ts → Counted n us → Counted (m + n) (ts ++ us)
counted_both {m} {n} {ts} {us} c d = record {
  outside = λ vs. rw (append_assoc ts us vs) (omega (arith, c.outside (us ++ vs), d.outside vs));
  inside = λ k o vs. rw (append_assoc ts us vs) (c.inside k o (us ++ vs) ∙ d.inside k o vs);
}

pub count_is : {k : ℕ} {ts : List Terminal} → Counted k ts → token_count ts ≡ k
count_is {k} {ts} c = ap (tokens_after []) (sym_nil ts) ∙ (c.outside [] ∙ omega arith)
  where
    sym_nil : (ts : List Terminal) → ts ≡ ts ++ []
    sym_nil [] = refl
    sym_nil (t ∷ ts) = ap (λ z. t ∷ z) (sym_nil ts)

-- ---- What stands in f-strings.

pub record Silent (ts : List Terminal) : Type 0 where
  pub is : (n : ℕ) (o : Open) (us : List Terminal) → tokens_after (n ∷ o) (ts ++ us) ≡ tokens_after (n ∷ o) us

pub silent : {k : ℕ} {ts : List Terminal} → Counted k ts → Silent ts
silent c = record { is = c.inside }

pub silent_none : Silent []
silent_none = record { is = λ n o us. refl }

pub silent_token : {t : Terminal} {ts : List Terminal} → is_plain t ≡ true → Silent ts → Silent (t ∷ ts)
silent_token {t} {ts} p c = record { is = λ n o us. ap (λ x. tokens_after x (ts ++ us)) (kept_open (n ∷ o) t p) ∙ c.is n o us }

pub silent_both : {ts us : List Terminal} → Silent ts → Silent us → Silent (ts ++ us)
silent_both {ts} {us} c d = record { is = λ n o vs. rw (append_assoc ts us vs) (c.is n o (us ++ vs) ∙ d.is n o vs) }

-- a field, with its expression in brackets, and its format spec
pub silent_field : {c : Conversion} {ts us vs : List Terminal} → Silent ts → Silent us → Silent vs
    → Silent (FieldBegin c ∷ (ts ++ (us ++ (FieldEnd ∷ vs))))
silent_field {c} {ts} {us} {vs} p q r = record { is = λ n o ws. at n o ws }
  where
    last : (n : ℕ) (o : Open) (ws : List Terminal) → tokens_after ((suc n - 1) ∷ o) (vs ++ ws) ≡ tokens_after (n ∷ o) ws
    last n o ws = let e : suc n - 1 ≡ n = omega arith in ap (λ k. tokens_after (k ∷ o) (vs ++ ws)) e ∙ r.is n o ws

    at : (n : ℕ) (o : Open) (ws : List Terminal) → tokens_after (suc n ∷ o) ((ts ++ (us ++ (FieldEnd ∷ vs))) ++ ws) ≡
        tokens_after (n ∷ o) ws
    at n o ws =
        rw (append_assoc ts (us ++ (FieldEnd ∷ vs)) ws, append_assoc us (FieldEnd ∷ vs) ws)
        (p.is (suc n) o (us ++ (FieldEnd ∷ (vs ++ ws))) ∙ (q.is (suc n) o (FieldEnd ∷ (vs ++ ws)) ∙ last n o ws))

-- an f-string is one token
pub counted_string : {k : ℕ} {ts us : List Terminal} → Silent ts → Counted k us
    → Counted (suc k) (FormattedBegin ∷ (ts ++ (FormattedEnd ∷ us)))
counted_string {k} {ts} {us} c d = record {
  outside = λ vs. rw (append_assoc ts (FormattedEnd ∷ us) vs) (ap suc (c.is 0 [] (FormattedEnd ∷ (us ++ vs)) ∙ d.outside vs) ∙ omega arith);
  inside = λ n o vs. rw (append_assoc ts (FormattedEnd ∷ us) vs) (c.is 0 (n ∷ o) (FormattedEnd ∷ (us ++ vs)) ∙ d.inside n o vs);
}

-- ---- Lists of at least so many tokens, as many as a list of marks has members.

-- a mark for each token
abbrev pub one : Maker (Unit {0})
one = record { token = λ t before following. tt; formatted = λ es. tt ∷ [] }

pub record AtLeast (ms : List (Unit {0})) (ts : List Terminal) : Type 0 where
  pub count : ℕ
  pub counted : Counted count ts
  pub enough : length ms ≤ count

pub none : AtLeast [] []
none = record { count = 0; counted = counted_none; enough = omega arith }

pub token : {ms : List (Unit {0})} {t : Terminal} {ts : List Terminal} → is_plain t ≡ true → AtLeast ms ts → AtLeast (tt ∷ ms) (t ∷ ts)
token p c = record { count = suc c.count; counted = counted_token p c.counted; enough = omega (arith, c.enough) }

pub both : {ms ns : List (Unit {0})} {ts us : List Terminal} → AtLeast ms ts → AtLeast ns us → AtLeast (ms ++ ns) (ts ++ us)
both {ms} {ns} c d =
    record {
      count = c.count + d.count;
      counted = counted_both c.counted d.counted;
      enough =
          omega (arith, length-append ms ns, c.enough, d.enough);
    }

pub in_brackets : {ms : List (Unit {0})} {ts : List Terminal} (x y : Exact) → AtLeast ms ts
    → AtLeast (tt ∷ (ms ++ (tt ∷ []))) (Op x ∷ (ts ++ (Op y ∷ [])))
in_brackets x y c = token refl (both c (token refl none))

-- fewer marks
pub fewer : {ms ns : List (Unit {0})} {ts : List Terminal} → length ms ≤ length ns → AtLeast ns ts → AtLeast ms ts
fewer h c = record { count = c.count; counted = c.counted; enough = omega (arith, h, c.enough) }
