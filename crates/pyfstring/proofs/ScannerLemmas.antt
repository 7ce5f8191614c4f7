-- A text by its bytes and by its characters.
-- Carries: peek, advance, advance_wide, until.
use Rattle.std.proofs.Common.{◌≡◌, ℕ, ◌+◌, ◌-◌, ◌<◌, ◌≤◌, true, List, [], ◌∷◌, ◌++◌, length, take, drop, refl, sym, ◌∙◌, ap, subst, Option}
use Rattle.std.proofs.Common.{Some, None, arith, slice_get, length-append}
use Rattle.std.specs.Str.{chars, IsUtf8, IsCharBoundary}
use Rattle.std.specs.Str.Iter.{chars_rest, chars_steps}
use Rattle.std.specs.declared.str.Chars.{Chars}
use lib.Utf8.{scalar, scalars, encodes, encode}
use Rattle.std.proofs.lemmas.Bool.{and_parts, and_from}
use Rattle.std.proofs.lemmas.List.{take_at}
use Rattle.std.proofs.lemmas.Str.{chars-nil, chars_past_char, encode_ascii, IsCharBoundary-after_ascii, IsCharBoundary-at_seam}
use Rattle.std.proofs.lemmas.Str.{encodes-append, encodes-chars, scalars-chars, chars-encodes}
use Rattle.pyfstring.specs.Cutting.{EndsWith, before}
use Rattle.pyfstring.proofs.Fronts.{before_is}

-- a byte of ASCII is a character
first_is : (b : ℕ) (t : List ℕ) → b < 128 → b ∷ t ≡ encode b ++ t
first_is b t l = ap (λ e. e ++ t) (sym (encode_ascii b l))

chars_first : (b : ℕ) (t : List ℕ) → IsUtf8 (b ∷ t) → b < 128 → chars (b ∷ t) ≡ b ∷ chars t
chars_first b t u l = chars_past_char (b ∷ t) t b u (first_is b t l)

pub first_ascii : (bs : List ℕ) (b : ℕ) → IsUtf8 bs → slice_get bs 0 ≡ Some b → b < 128 → slice_get (chars bs) 0 ≡ Some b
first_ascii [] b u e l = cc
first_ascii (a ∷ t) b u e l = let f : a ≡ b = cc in let k : a < 128 = rw f l in ap (λ cs. slice_get cs 0) (chars_first a t u k) ∙ e

pub rest_ascii : (bs : List ℕ) (b : ℕ) → IsUtf8 bs → slice_get bs 0 ≡ Some b → b < 128 → chars (drop 1 bs) ≡ drop 1 (chars bs)
rest_ascii [] b u e l = cc
rest_ascii (a ∷ t) b u e l = let f : a ≡ b = cc in let k : a < 128 = rw f l in sym (ap (drop 1) (chars_first a t u k))

pub cut_ascii : (bs : List ℕ) (b : ℕ) → IsUtf8 bs → slice_get bs 0 ≡ Some b → b < 128 → IsCharBoundary bs 1
cut_ascii [] b u e l = cc
cut_ascii (a ∷ t) b u e l = let f : a ≡ b = cc in let k : a < 128 = rw f l in IsCharBoundary-after_ascii (a ∷ t) 0 u (omega arith) k

nil_of_length : (bs : List ℕ) → length bs ≡ 0 → bs ≡ []
nil_of_length [] e = refl
nil_of_length (b ∷ bs) e = cc

-- what is left after one step
pub rest_wide : (s t : Chars) (r : Option ℕ) → IsUtf8 (chars_rest s) → chars_steps s r t
    → chars (chars_rest t) ≡ drop 1 (chars (chars_rest s))
rest_wide s t None u h = let e : chars_rest s ≡ [] = nil_of_length (chars_rest s) h.0.0 in let f : chars (chars_rest s) ≡ [] = ap chars e
    ∙ chars-nil in rw (h.0.1, f) refl
rest_wide s t (Some c) u h = rw (chars_past_char (chars_rest s) (chars_rest t) c u h.0) refl

scalars_front : (t u : List ℕ) → scalars (t ++ u) ≡ true → scalars t ≡ true
scalars_front [] u e = refl
scalars_front (c ∷ t) u e = let p = and_parts (scalar c) (scalars (t ++ u)) e in and_from (scalar c) (scalars t) p.0 (scalars_front t u p.1)

-- what stands before a rest, by bytes
pub record IsBefore (bs rs : List ℕ) : Type 0 where
  pub shorter : length rs ≤ length bs
  pub boundary : IsCharBoundary bs (length bs - length rs)
  pub front : chars (take (length bs - length rs) bs) ≡ before (chars bs) (chars rs)

pub is_before : (bs rs : List ℕ) → IsUtf8 bs → IsUtf8 rs → EndsWith (chars bs) (chars rs) → IsBefore bs rs
is_before bs rs u v (t, e) =
    let whole : bs ≡ encodes t ++ rs = sym (encodes-chars bs u) ∙ ap encodes e ∙ encodes-append t (chars rs)
    ∙ ap (λ x. encodes t ++ x) (encodes-chars rs v) in
    let long : length bs ≡ length (encodes t) + length rs = ap length whole ∙ length-append (encodes t) rs in
    let at : length bs - length rs ≡ length (encodes t) = omega arith in
    let scalar : scalars t ≡ true = scalars_front t (chars rs) (subst (λ (x : List ℕ). scalars x ≡ true) e (scalars-chars bs u)) in
    let front : take (length bs - length rs) bs ≡ encodes t = ap (λ n. take n bs) at ∙ ap (take (length (encodes t))) whole
    ∙ take_at (encodes t) rs (length (encodes t)) refl in
    record {
      shorter = omega arith;
      boundary = subst (λ (n : ℕ). IsCharBoundary bs n) (sym at) (IsCharBoundary-at_seam bs (encodes t) rs whole v);
      front = ap chars front ∙ chars-encodes t scalar ∙ sym (before_is (chars bs) t (chars rs) e);
    }
