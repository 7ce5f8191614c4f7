-- Fronts of a text in ASCII, by bytes and by characters.
--
-- Carries: bump, bump_ascii, bump_plain, bump_while, first, first_ascii, has_quote_or_wide,
-- ascii_name, blanks. On: Texts.
use Rattle.std.proofs.Common.{◌≡◌, ℕ, ◌<◌, Bool, true, false, ◌&&◌, List, [], ◌∷◌, ◌++◌, drop, refl, sym, ◌∙◌, ap, subst, Some, arith}
use Rattle.std.proofs.Common.{slice_get, add_comm, add-one, ⊎_elim, nat_lt}
use Rattle.std.specs.List.{prefix_len}
use Rattle.std.specs.Str.{chars, IsUtf8, IsCharBoundary}
use lib.Utf8.{encodes, encode}
use Rattle.std.proofs.lemmas.Str.{chars-nil, chars_past_char, encode_ascii, byte_from_char, IsUtf8-past_char, IsCharBoundary-after_ascii}
use Rattle.std.proofs.lemmas.Str.{IsCharBoundary-from_drop}
use Rattle.std.proofs.lemmas.List.Sums.{prefix_len-le-length}
use Rattle.std.proofs.lemmas.Bool.Decides.{nat_tests}
use Rattle.std.proofs.lemmas.Bool.{cases_Bool, and_parts, or_parts}
use Rattle.pylex_lexeme.specs.Chars.{begins}
use Rattle.pylex_lexeme.specs.Inner.Plain.{is_plain_char}
use Rattle.pylex_lexeme.specs.Inner.Frequent.{is_quote_or_wide}
use Rattle.pylex_lexeme.proofs.Fronts.Texts.{after_run}

-- a byte of ASCII is a character
first_is : (b : ℕ) (t : List ℕ) → b < 128 → b ∷ t ≡ encode b ++ t
first_is b t l = ap (λ e. e ++ t) (sym (encode_ascii b l))

chars_first : (b : ℕ) (t : List ℕ) → IsUtf8 (b ∷ t) → b < 128 → chars (b ∷ t) ≡ b ∷ chars t
chars_first b t u l = chars_past_char (b ∷ t) t b u (first_is b t l)

rest_utf8 : (b : ℕ) (t : List ℕ) → IsUtf8 (b ∷ t) → b < 128 → IsUtf8 t
rest_utf8 b t u l = IsUtf8-past_char (b ∷ t) t b u (first_is b t l)

pub first_ascii : (bs : List ℕ) (b : ℕ) → IsUtf8 bs → slice_get bs 0 ≡ Some b → b < 128 → slice_get (chars bs) 0 ≡ Some b
first_ascii [] b u e l = cc
first_ascii (a ∷ t) b u e l = let f : a ≡ b = cc in let k : a < 128 = rw f l in ap (λ cs. slice_get cs 0) (chars_first a t u k) ∙ e

pub rest_ascii : (bs : List ℕ) (b : ℕ) → IsUtf8 bs → slice_get bs 0 ≡ Some b → b < 128 → chars (drop 1 bs) ≡ drop 1 (chars bs)
rest_ascii [] b u e l = cc
rest_ascii (a ∷ t) b u e l = let f : a ≡ b = cc in let k : a < 128 = rw f l in sym (ap (drop 1) (chars_first a t u k))

pub cut_ascii : (bs : List ℕ) (b : ℕ) → IsUtf8 bs → slice_get bs 0 ≡ Some b → b < 128 → IsCharBoundary bs 1
cut_ascii [] b u e l = cc
cut_ascii (a ∷ t) b u e l = let f : a ≡ b = cc in let k : a < 128 = rw f l in IsCharBoundary-after_ascii (a ∷ t) 0 u (omega arith) k

-- f tells bytes that are characters of which p is true
pub record Tells (f p : ℕ → Bool) : Type 0 where
  pub ascii : (b : ℕ) → f b ≡ true → b < 128
  pub passes : (b : ℕ) → f b ≡ true → p b ≡ true

pub run_on : (f : ℕ → Bool) (b : ℕ) (t : List ℕ) → f b ≡ true → after_run f (b ∷ t) ≡ after_run f t
run_on f b t h = rw (h, add_comm, add-one) refl

pub run_off : (f : ℕ → Bool) (b : ℕ) (t : List ℕ) → f b ≡ false → after_run f (b ∷ t) ≡ b ∷ t
run_off f b t h = rw h refl

pub run_utf8 : (f p : ℕ → Bool) → Tells f p → (bs : List ℕ) → IsUtf8 bs → IsUtf8 (after_run f bs)
run_utf8 f p t [] u = u
run_utf8 f p t (b ∷ bs) u =
    ⊎_elim
    (λ (h : f b ≡ true). subst IsUtf8 (sym (run_on f b bs h)) (run_utf8 f p t bs (rest_utf8 b bs u (t.ascii b h))))
    (λ (h : f b ≡ false). subst IsUtf8 (sym (run_off f b bs h)) u)
    (cases_Bool (f b))

pub run_cut : (f p : ℕ → Bool) → Tells f p → (bs : List ℕ) → IsUtf8 bs → IsCharBoundary bs (prefix_len f bs)
run_cut f p t bs u = IsCharBoundary-from_drop bs (prefix_len f bs) (prefix_len-le-length f bs) (run_utf8 f p t bs u)

-- the bytes of a run are no more than the characters of one
pub run_same : (f p : ℕ → Bool) → Tells f p → (bs : List ℕ) → IsUtf8 bs → after_run p (chars (after_run f bs)) ≡ after_run p (chars bs)
run_same f p t [] u = refl
run_same f p t (b ∷ bs) u =
    ⊎_elim
    (λ (h : f b ≡ true).
    let l = t.ascii b h in
    ap (λ r. after_run p (chars r)) (run_on f b bs h)
    ∙ run_same f p t bs (rest_utf8 b bs u l)
    ∙ sym (ap (after_run p) (chars_first b bs u l) ∙ run_on p b (chars bs) (t.passes b h)))
    (λ (h : f b ≡ false). ap (λ r. after_run p (chars r)) (run_off f b bs h))
    (cases_Bool (f b))

pub run_stopped : (f : ℕ → Bool) (bs : List ℕ) → begins f (after_run f bs) ≡ false
run_stopped f [] = refl
run_stopped f (b ∷ t) =
    ⊎_elim
    (λ (h : f b ≡ true). ap (begins f) (run_on f b t h) ∙ run_stopped f t)
    (λ (h : f b ≡ false). ap (begins f) (run_off f b t h) ∙ h)
    (cases_Bool (f b))

-- a test of bytes of ASCII
abbrev pub in_ascii : (ℕ → Bool) → ℕ → Bool
in_ascii p b = nat_lt b 128 && p b

pub tells_ascii : (p : ℕ → Bool) → Tells (in_ascii p) p
tells_ascii p = record {
  ascii = λ b h. let k : nat_lt b 128 ≡ true = (and_parts (nat_lt b 128) (p b) h).0 in grind (arith, nat_tests);
  passes = λ b h. (and_parts (nat_lt b 128) (p b) h).1;
}

pub tells_own : (p : ℕ → Bool) → Tells (in_ascii p) (in_ascii p)
tells_own p = record { ascii = (tells_ascii p).ascii; passes = λ b h. h }

pub tells_plain : Tells is_plain_char is_plain_char
tells_plain = record {
  ascii = λ b h. let k : nat_lt b 128 ≡ true = (and_parts (nat_lt b 128) _ h).0 in grind (arith, nat_tests);
  passes = λ b h. h;
}

pub right_is : (a b : Bool) → (a && b) ≡ false → a ≡ true → b ≡ false
right_is true b h k = h
right_is false b h k = cc

-- where a run stops at the text's end or at a byte of ASCII, no character passes
pub ascii_stops : (p : ℕ → Bool) (bs : List ℕ) → IsUtf8 bs → begins (in_ascii p) bs ≡ false → begins (λ b. nat_lt 127 b) bs ≡ false
    → after_run p (chars bs) ≡ chars bs
ascii_stops p [] u e w = rw chars-nil refl
ascii_stops p (b ∷ t) u e w =
    let l : b < 128 = grind (arith, nat_tests) in
    let k : nat_lt b 128 ≡ true = grind (arith, nat_tests) in
    let n : p b ≡ false = right_is (nat_lt b 128) (p b) e k in
    let f = chars_first b t u l in
    ap (after_run p) f ∙ run_off p b (chars t) n ∙ sym f

-- where a run of bytes stops, one of characters does
pub own_stops : (f : ℕ → Bool) → Tells f f → (bs : List ℕ) → IsUtf8 bs → begins f bs ≡ false → after_run f (chars bs) ≡ chars bs
own_stops f tells [] u e = rw chars-nil refl
own_stops f tells (b ∷ t) ([], (s, h)) e = cc
own_stops f tells (b ∷ t) (c ∷ cs, (s, h)) e =
    let g : chars (b ∷ t) ≡ c ∷ chars (encodes cs) = chars_past_char (b ∷ t) (encodes cs) c (c ∷ cs, (s, h)) (sym h) in
    let n : f c ≡ false =
    ⊎_elim
    (λ (k : f c ≡ true).
    let l : c < 128 = tells.ascii c k in
    let same : b ≡ c = byte_from_char (b ∷ t) (encodes cs) c (sym h) l in
    ap f (sym same) ∙ e)
    (λ (k : f c ≡ false). k)
    (cases_Bool (f c)) in
    ap (after_run f) g ∙ run_off f c (chars (encodes cs)) n ∙ sym g

-- where bytes begin with neither a quote nor one past ASCII, nor do their characters
pub neither_first : (bs : List ℕ) → IsUtf8 bs → begins is_quote_or_wide bs ≡ false → begins is_quote_or_wide (chars bs) ≡ false
neither_first [] u e = rw chars-nil refl
neither_first (b ∷ t) u e =
    let w : nat_lt 127 b ≡ false = (or_parts (nat_lt 127 b) _ e).0 in
    let l : b < 128 = grind (arith, nat_tests) in
    ap (begins is_quote_or_wide) (chars_first b t u l) ∙ e
