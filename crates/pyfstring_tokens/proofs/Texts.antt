-- The bytes of a text, and what stands between two offsets.
--
-- Carries: new, next, by Places. On: no other file.
use Rattle.std.proofs.Common.{◌≡◌, ℕ, ◌+◌, ◌-◌, true, List, [], ◌∷◌, ◌++◌, length, take, drop, refl, ap, ◌∙◌, arith, length-append}
use Rattle.std.specs.Prelude.{slice_range}
use Rattle.std.specs.Str.{chars, encode_utf8_all, all_scalars}
use Rattle.std.proofs.Math.Seq.{take-append_seam, drop-append_seam}
use Rattle.std.proofs.lemmas.Str.{encodes-append, chars-encodes}
use Rattle.pylex_lexeme.specs.Chars.{bytes_in}
use Rattle.std.proofs.Math.Utf8.{scalar}
use Rattle.std.proofs.lemmas.Bool.{and_parts}

pub bytes_both : (a b : List ℕ) → bytes_in (a ++ b) ≡ bytes_in a + bytes_in b
bytes_both a b = ap length (encodes-append a b) ∙ length-append (encode_utf8_all a) (encode_utf8_all b)

pub sliced : (text a t b : List ℕ) (lo hi : ℕ) → text ≡ a ++ (t ++ b) → all_scalars t ≡ true → lo ≡ bytes_in a → hi ≡ lo + bytes_in t
    → chars (slice_range (encode_utf8_all text) lo hi) ≡ t
sliced text a t b lo hi w u e f =
    let x : encode_utf8_all text ≡ encode_utf8_all a ++ (encode_utf8_all t ++ encode_utf8_all b) = ap encode_utf8_all w
    ∙ encodes-append a (t ++ b) ∙ ap (λ y. encode_utf8_all a ++ y) (encodes-append t b) in
    let d : drop lo (encode_utf8_all text) ≡ encode_utf8_all t ++ encode_utf8_all b = ap (λ y. drop lo y) x
    ∙ ap (λ n. drop n (encode_utf8_all a ++ (encode_utf8_all t ++ encode_utf8_all b))) e
    ∙ drop-append_seam (encode_utf8_all a) (encode_utf8_all t ++ encode_utf8_all b) in
    let n : hi - lo ≡ length (encode_utf8_all t) = omega arith in
    let s : take (hi - lo) (drop lo (encode_utf8_all text)) ≡ encode_utf8_all t = ap (λ y. take (hi - lo) y) d
    ∙ ap (λ m. take m (encode_utf8_all t ++ encode_utf8_all b)) n ∙ take-append_seam (encode_utf8_all t) (encode_utf8_all b) in
    ap chars s ∙ chars-encodes t u

-- a part of a text of Unicode's scalar values is one
pub part_scalars : (a t b : List ℕ) → all_scalars (a ++ (t ++ b)) ≡ true → all_scalars t ≡ true
part_scalars [] [] b e = refl
part_scalars [] (c ∷ t) b e = let p = and_parts (scalar c) (all_scalars (t ++ b)) e in rw p.0 (part_scalars [] t b p.1)
part_scalars (c ∷ a) t b e = part_scalars a t b (and_parts (scalar c) (all_scalars (a ++ (t ++ b))) e).1
