-- The spaces at the front of a text are its first lexeme, where no other blank follows.
--
-- Carries: cut_spaces, past_spaces. On: Plain, Walking, Lexed, Finding.
use Rattle.std.proofs.Common.{◌≡◌, ℕ, zero, suc, ◌<◌, Bool, true, false, ◌&&◌, List, [], ◌∷◌, ◌++◌, length, take, drop, refl, ap}
use Rattle.std.proofs.Common.{◌∙◌, sym, subst, arith, Option, Some, None, length-drop, take-append-drop}
use Rattle.std.specs.Prelude.{replicate, option_map}
use Rattle.std.specs.List.{prefix_len}
use Rattle.std.specs.Char.{encode_utf8}
use Rattle.std.specs.Str.{chars, IsUtf8, IsCharBoundary}
use Rattle.std.proofs.lemmas.List.{length-replicate, append_cancel_right}
use Rattle.std.proofs.lemmas.Str.{encode_ascii, IsUtf8-from_ascii, IsCharBoundary-at_seam}
use Rattle.pylex_lexeme.specs.declared.lexeme.Class.{Class}
use Rattle.pylex_lexeme.specs.declared.lexeme.Class.TheVariants.{Blanks}
use Rattle.pylex_lexeme.specs.Chars.{begins, is_blank_char}
use Rattle.pylex_lexeme.specs.Cuts.{Cuts, begins_significant}
use Rattle.pylex_lexeme.specs.Lexemes.{Lexeme, lexeme_at}
use Rattle.pylex_lexeme.proofs.Callers.Fronts.{length-text}
use Rattle.pylex_lexeme.proofs.Callers.Lexemes.{blanks_take}
use Rattle.pylex.specs.Inner.Plain.{AreSpaces, SpacesAhead}
use Rattle.pylex_listing.proofs.Callers.{longest_wins, significant_is}
use Rattle.pylex.proofs.MachineLaws.Walking.{past}
use Rattle.pylex.proofs.Listers.Finding.{following_first}
use Rattle.pylex.proofs.Texts.Plain.{plain_ascii, plain_chars, spaces_plain}

pub are_spaces : (n : ℕ) → AreSpaces (replicate n 32)
are_spaces zero k h = absurd (omega (arith, h))
are_spaces (suc n) zero h = refl
are_spaces (suc n) (suc k) h = are_spaces n k (omega (arith, h))

space_front : (t : List ℕ) → 32 ∷ t ≡ encode_utf8 32 ++ t
space_front t = sym (ap (λ (front : List ℕ). front ++ t) (encode_ascii 32 (omega arith)))

pub spaces_utf8 : (n : ℕ) (rest : List ℕ) → IsUtf8 (replicate n 32 ++ rest) → IsUtf8 rest
spaces_utf8 zero rest utf8 = utf8
spaces_utf8 (suc n) rest utf8 =
    spaces_utf8 n rest (past (32 ∷ (replicate n 32 ++ rest)) (replicate n 32 ++ rest) 32 utf8 (space_front (replicate n 32 ++ rest))).utf8

pub spaces_chars : (n : ℕ) (rest : List ℕ) → IsUtf8 (replicate n 32 ++ rest) → chars (replicate n 32 ++ rest) ≡ replicate n 32 ++ chars rest
spaces_chars zero rest utf8 = refl
spaces_chars (suc n) rest utf8 =
    let s = past (32 ∷ (replicate n 32 ++ rest)) (replicate n 32 ++ rest) 32 utf8 (space_front (replicate n 32 ++ rest)) in
    s.same ∙ ap (λ (t : List ℕ). 32 ∷ t) (spaces_chars n rest s.utf8)

-- they are all the blanks there
blank_run : (n : ℕ) (cs : List ℕ) → begins is_blank_char cs ≡ false → prefix_len is_blank_char (replicate n 32 ++ cs) ≡ n
blank_run zero [] other = refl
blank_run zero (c ∷ cs) other = rw other refl
blank_run (suc n) cs other = let rest = blank_run n cs other in omega (arith, rest)

some_begins : (n : ℕ) (cs : List ℕ) → 0 < n → begins is_blank_char (replicate n 32 ++ cs) ≡ true
some_begins zero cs some = absurd (omega (arith, some))
some_begins (suc n) cs some = refl

pub after_spaces : (n : ℕ) (cs : List ℕ) → drop n (replicate n 32 ++ cs) ≡ cs
after_spaces zero cs = refl
after_spaces (suc n) cs = after_spaces n cs

-- of a class that is told the lexeme is
record Found (o : Option Lexeme) (k : Class) : Type 0 where
  pub lexeme : Lexeme
  pub is : o ≡ Some lexeme
  pub «class» : lexeme.«class» ≡ k

found : (o : Option Lexeme) (k : Class) → Some k ≡ option_map (λ (x : Lexeme). x.«class») o → Found o k
found None k e = absurd cc
found (Some x) k e = record { lexeme = x; is = refl; «class» = cc }

same_lexeme : (x : Lexeme) (k : Class) (t : List ℕ) → x.«class» ≡ k → x.text ≡ t → x ≡ record { «class» = k; text = t }
same_lexeme x k t p q = rw (← p, ← q) refl

first_blanks : (n : ℕ) (ds : List ℕ) → 0 < n → begins is_blank_char ds ≡ false
    → lexeme_at (replicate n 32 ++ ds) ≡ Some (record { «class» = Blanks; text = replicate n 32 })
first_blanks n ds some other =
    let cs = replicate n 32 ++ ds in
    let takes = blanks_take cs (some_begins n ds some) in
    let x = found (lexeme_at cs) Blanks takes.«class» in
    let front = ((longest_wins cs).longest x.lexeme x.is).is_front in
    let rest : ds ≡ front.0 =
    sym (after_spaces n ds) ∙ ap (λ (m : ℕ). drop m cs) (sym (blank_run n ds other)) ∙ takes.rest
    ∙ following_first cs front.0 x.lexeme x.is front.1 in
    let text : x.lexeme.text ≡ replicate n 32 =
    append_cancel_right x.lexeme.text (replicate n 32) ds (ap (λ (t : List ℕ). x.lexeme.text ++ t) rest ∙ sym front.1) in
    x.is ∙ ap Some (same_lexeme x.lexeme Blanks (replicate n 32) x.«class» text)

-- a text that begins with so many spaces
pub record Spaced (bs : List ℕ) (n : ℕ) : Type 0 where
  pub boundary : IsCharBoundary bs n
  pub front : AreSpaces (take n bs)
  pub cuts : 0 < n → begins is_blank_char (chars (drop n bs)) ≡ false → Cuts bs Blanks (take n bs) (drop n bs)

pub spaced : (bs : List ℕ) (n : ℕ) → IsUtf8 bs → SpacesAhead bs n → Spaced bs n
spaced bs n utf8 is =
    let following = drop n bs in
    let spaces = replicate n 32 in
    let whole : spaces ++ following ≡ bs = ap (λ (t : List ℕ). t ++ following) (sym is.spaces) ∙ take-append-drop n bs in
    let split : IsUtf8 (spaces ++ following) = subst IsUtf8 (sym whole) utf8 in
    let same : chars bs ≡ spaces ++ chars following = ap chars (sym whole) ∙ spaces_chars n following split in
    let plain = spaces_plain spaces (are_spaces n) in
    let front : chars (take n bs) ≡ spaces = ap chars is.spaces ∙ plain_chars spaces plain in
    let front_utf8 : IsUtf8 (take n bs) = subst IsUtf8 (sym is.spaces) (IsUtf8-from_ascii spaces (plain_ascii spaces plain)) in
    let size : length (take n bs) ≡ n = ap length is.spaces ∙ length-replicate n 32 in
    let length_front : length (chars (take n bs)) ≡ n = ap length front ∙ length-replicate n 32 in
    record {
      boundary =
          subst (IsCharBoundary bs) (length-replicate n 32)
          (IsCharBoundary-at_seam bs spaces following (sym whole) (spaces_utf8 n following split));
      front = subst AreSpaces (sym is.spaces) (are_spaces n);
      cuts = λ some other. record {
        lexeme =
            ap lexeme_at same ∙ first_blanks n (chars following) some other
            ∙ ap (λ (t : List ℕ). Some (record { «class» = Blanks; text = t })) (sym front);
        whole = same ∙ ap (λ (t : List ℕ). t ++ chars following) (sym front);
        counted = sym (length-text (take n bs) front_utf8);
        sizes = omega (arith, size, length-drop n bs, is.within);
        nonempty = omega (arith, length_front, some);
        front_utf8 = front_utf8;
        back_utf8 = spaces_utf8 n following split;
      };
    }

-- no significant token stands where blanks do
pub blanks_due : (bytes front back : List ℕ) (margin : Bool) → Cuts bytes Blanks front back
    → (margin && begins_significant (chars bytes)) ≡ false
blanks_due bytes front back margin c =
    ap (λ (b : Bool). margin && b) (sym (significant_is (chars bytes) (record { «class» = Blanks; text = chars front }) c.lexeme))
    ∙ by margin
  where
    by : (b : Bool) → (b && false) ≡ false
    by true = refl
    by false = refl
