-- The tokens of a text in parentheses are those of the text's own lexemes.
--
-- Carries: new. On: Places.
use Rattle.std.proofs.Common.{◌≡◌, ℕ, ◌+◌, ◌-◌, ◌<◌, zero, suc, Bool, true, false, ◌&&◌, ◌==◌, List, [], ◌∷◌, ◌++◌, length, count_by, refl}
use Rattle.std.proofs.Common.{sym, ap, ◌∙◌, subst, arith, append_assoc, Some, None}
use Rattle.std.specs.List.{list_any}
use Rattle.std.proofs.lemmas.Bool.Decides.{nat_tests}
use Rattle.std.proofs.lemmas.List.Sums.{sum_by-cons}
use Rattle.std.proofs.lemmas.Bool.{or_parts}
use Rattle.pylex_lexeme.specs.Lexemes.{Lexeme, lexeme_at, cut, left_by_cut}
use Rattle.pylex_lexeme.proofs.Callers.Lexemes.{none_is, nothing_takes}
use Rattle.pylex_listing.specs.Laws.{AreLexemes}
use Rattle.pylex_listing.specs.Lines.{opens, closes, count_if}
use Rattle.pylex_listing.proofs.Callers.{cut_lexed}
use Rattle.pyfstring_tokens.specs.FieldTokens.{is_gap, is_comment_class, is_of_comment, tokens_ahead, opening, closing, has_fault}
use Rattle.pyfstring_tokens.specs.FieldTokens.{closes_none, closes_outer, has_comment}
use Rattle.pyfstring_tokens.specs.Standing.{StandsAt}
use Rattle.pyfstring_tokens.specs.Laws.{tokens_of, IsWhole, HasOwnTokens}
use Rattle.pyfstring_tokens.proofs.Places.{past_gap, past_token, gap_size, none_refused, unclosed_refused, ends, First}

some_rest : (rest : List ℕ) (x : Lexeme) → lexeme_at rest ≡ Some x → 0 < length rest
some_rest [] x e = let n : lexeme_at [] ≡ None = none_is [] [] nothing_takes in let f : None ≡ Some x = sym n ∙ e in cc
some_rest (c ∷ rest) x e = omega arith

-- Brackets
counted : (p : Lexeme → Bool) (x : Lexeme) (xs : List Lexeme) → count_by p (x ∷ xs) ≡ count_if (p x) + count_by p xs
counted p x xs = sum_by-cons (λ y. count_if (p y)) x xs

depth_on : (d m n : ℕ) (o c : Bool) → (c && (d == 0)) ≡ false → d + (count_if o + m) ≡ count_if c + n
    → (d + count_if o - count_if c) + m ≡ n
depth_on d m n true true e h = omega arith
depth_on d m n true false e h = omega arith
depth_on d m n false false e h = omega arith
depth_on d m n false true e h = grind (arith, nat_tests)

depth_back : (d m n : ℕ) (o c : Bool) → (c && (d == 0)) ≡ false → (d + count_if o - count_if c) + m ≡ n
    → d + (count_if o + m) ≡ count_if c + n
depth_back d m n true true e h = omega arith
depth_back d m n true false e h = omega arith
depth_back d m n false false e h = omega arith
depth_back d m n false true e h = grind (arith, nat_tests)

-- what is to come is whole, where so many brackets are open
record Rest (xs : List Lexeme) (left : List ℕ) (d : ℕ) : Type 0 where
  pub end : left ≡ []
  pub closed : d + count_by opens xs ≡ count_by closes xs

-- and what is asked of all that is to come
record Clear (xs : List Lexeme) (d : ℕ) : Type 0 where
  pub balanced : closes_none d xs ≡ false
  pub uncommented : list_any is_of_comment xs ≡ false

record Allowed (x : Lexeme) (xs : List Lexeme) (d : ℕ) : Type 0 where
  pub matched : (closes x && (d == 0)) ≡ false
  pub comment : is_comment_class x.«class» ≡ false
  pub clear : Clear xs (d + count_if (opens x) - count_if (closes x))

allowed : (x : Lexeme) (xs : List Lexeme) (d : ℕ) → Clear (x ∷ xs) d → Allowed x xs d
allowed x xs d c =
    let b = or_parts (closes x && (d == 0)) (closes_none (d + count_if (opens x) - count_if (closes x)) xs) c.balanced in
    let u = or_parts (is_of_comment x) (list_any is_of_comment xs) c.uncommented in
    record { matched = b.0; comment = u.0; clear = record { balanced = b.1; uncommented = u.1 } }

-- Past one lexeme
record Along (text : List ℕ) (n : ℕ) (back : List ℕ) (x : Lexeme) (d : ℕ) : Type 0 where
  pub given : ℕ
  pub stands : StandsAt text given back (d + count_if (opens x) - count_if (closes x))
  pub tokens : tokens_ahead text n ≡ tokens_of (x ∷ []) ++ tokens_ahead text given

along : (text : List ℕ) (n d : ℕ) (rest back : List ℕ) (x : Lexeme) (xs : List Lexeme) → lexeme_at rest ≡ Some x → rest ≡ x.text ++ back
    → Allowed x xs d → StandsAt text n rest d → Along text n back x d
along text n d rest back x xs e w s i = by (is_gap x.«class») refl
  where
    by : (b : Bool) → is_gap x.«class» ≡ b → Along text n back x d
    by true g = record {
      given = n;
      stands = subst (λ (m : ℕ). StandsAt text n back m) (sym (gap_size x d g))
          (past_gap text n rest back d x (some_rest rest x e) e w g i);
      tokens = rw g refl;
    }
    by false g =
        let p = past_token text n rest back d x (some_rest rest x e) e w g s.comment s.matched i in
        record { given = n + 1; stands = p.stands; tokens = rw g p.gives }

tokens_more : (x : Lexeme) (xs : List Lexeme) → tokens_of (x ∷ xs) ≡ tokens_of (x ∷ []) ++ tokens_of xs
tokens_more x xs = by (is_gap x.«class») refl
  where
    by : (b : Bool) → is_gap x.«class» ≡ b → tokens_of (x ∷ xs) ≡ tokens_of (x ∷ []) ++ tokens_of xs
    by true g = rw g refl
    by false g = rw g refl

-- What is whole has its tokens
record Own (text : List ℕ) (n : ℕ) (xs : List Lexeme) : Type 0 where
  pub tokens : tokens_ahead text n ≡ tokens_of xs ++ closing ∷ []
  pub fault : has_fault text ≡ false

own : (text : List ℕ) (n d : ℕ) (rest : List ℕ) (xs : List Lexeme) (left : List ℕ) → AreLexemes rest xs left → StandsAt text n rest d
    → Clear xs d → Rest xs left d → Own text n xs
own text n d rest [] left h i c r =
    let z : d ≡ 0 = omega (arith, r.closed) in
    let e = ends text n d z (subst (λ (u : List ℕ). StandsAt text n u d) (sym h.0 ∙ r.end) i) in
    record { tokens = e.last; fault = e.whole }
own text n d rest (x ∷ xs) left h i c r =
    let s = allowed x xs d c in
    let a = along text n d rest h.0 x xs h.1 h.2 s i in
    let q : d + (count_if (opens x) + count_by opens xs) ≡ count_if (closes x) + count_by closes xs =
    ap (λ m. d + m) (sym (counted opens x xs)) ∙ r.closed ∙ counted closes x xs in
    let k = depth_on d (count_by opens xs) (count_by closes xs) (opens x) (closes x) s.matched q in
    let o = own text a.given (d + count_if (opens x) - count_if (closes x)) h.0 xs left h.3 a.stands s.clear
    (record { end = r.end; closed = k }) in
    record {
      tokens = a.tokens ∙ ap (λ ts. tokens_of (x ∷ []) ++ ts) o.tokens
          ∙ sym (append_assoc (tokens_of (x ∷ [])) (tokens_of xs) (closing ∷ [])) ∙ ap (λ ts. ts ++ closing ∷ []) (sym (tokens_more x xs));
      fault = o.fault;
    }

-- What has no fault is whole
ended : (text : List ℕ) (n d : ℕ) (rest : List ℕ) → lexeme_at rest ≡ None → StandsAt text n rest d → has_fault text ≡ false → rest ≡ []
ended text n d [] e i f = refl
ended text n d (c ∷ rest) e i f = absurd (let z : true ≡ false = sym (none_refused text n (c ∷ rest) d (omega arith) e i) ∙ f in cc)

all_closed : (text : List ℕ) (n d : ℕ) → StandsAt text n [] d → has_fault text ≡ false → d ≡ 0
all_closed text n zero i f = refl
all_closed text n (suc d) i f = absurd (let z : true ≡ false = sym (unclosed_refused text n (suc d) (omega arith) i) ∙ f in cc)

whole : (text : List ℕ) (n d : ℕ) (rest : List ℕ) (xs : List Lexeme) (left : List ℕ) → AreLexemes rest xs left → StandsAt text n rest d
    → Clear xs d → has_fault text ≡ false → Rest xs left d
whole text n d rest [] left h i c f =
    let e = ended text n d rest h.1 i f in
    let z = all_closed text n d (subst (λ (u : List ℕ). StandsAt text n u d) e i) f in
    record { end = h.0 ∙ e; closed = omega (arith, z) }
whole text n d rest (x ∷ xs) left h i c f =
    let s = allowed x xs d c in
    let a = along text n d rest h.0 x xs h.1 h.2 s i in
    let r = whole text a.given (d + count_if (opens x) - count_if (closes x)) h.0 xs left h.3 a.stands s.clear f in
    let q = depth_back d (count_by opens xs) (count_by closes xs) (opens x) (closes x) s.matched r.closed in
    record { end = r.end; closed = ap (λ m. d + m) (counted opens x xs) ∙ q ∙ sym (counted closes x xs) }

-- The law
clear : (text : List ℕ) → closes_outer text ≡ false → has_comment text ≡ false → Clear (cut text) 0
unfolding closes_outer has_comment
clear text b u = record { balanced = b; uncommented = u }

pub own_tokens : (text : List ℕ) → First text → HasOwnTokens text
own_tokens text f = record {
  all = λ w. f.first ∙ ap (λ ts. opening ∷ ts) (by w).tokens;
  faultless = λ w. (by w).fault;
  whole = λ z b u.
      let r = whole text 0 0 text (cut text) (left_by_cut text) (cut_lexed text) f.stands (clear text b u) z in
      record { end = r.end; closed = omega (arith, r.closed); balanced = b; uncommented = u };
}
  where
    by : IsWhole text → Own text 0 (cut text)
    by w = own text 0 0 text (cut text) (left_by_cut text) (cut_lexed text) f.stands (clear text w.balanced w.uncommented)
        (record { end = w.end; closed = omega (arith, w.closed) })
