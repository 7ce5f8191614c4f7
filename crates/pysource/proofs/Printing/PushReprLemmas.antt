-- The repr of a text, from its bytes and its characters.
--
-- Carries: is_plain_text, push_escaped, push_plain, push_plain_points, push_repr_points, split_plain. On: Categories, ReprsLemmas.
use Rattle.std.proofs.Common.{◌≡◌, ℕ, suc, ◌+◌, ◌-◌, ◌<◌, Bool, nat_le, leb-true, true, false, List, [], ◌∷◌, ◌++◌, get_or, length, take}
use Rattle.std.proofs.Common.{refl, sym, subst, ap, ap₂, ◌∙◌, arith, inl, inr, append-nil, length-append}
use Rattle.std.specs.Prelude.{◌==◌, ◌||◌, not, ◌&&◌, IsUtf8, All, if◌then◌else◌}
use Rattle.std.specs.List.{list_all, list_any, prefix_len, flat_map}
use Rattle.std.specs.Char.{encode_utf8}
use Rattle.std.specs.Str.{IsAscii, IsCharBoundary, chars, encode_utf8_all}
use Rattle.std.proofs.Math.Bool.{or-false}
use Rattle.std.proofs.lemmas.Bool.Decides.{nat_tests}
use Rattle.std.proofs.lemmas.Bool.{and_from, and_parts, both_ways, cases_Bool, cases_eq, cases_lt, ne_eqb}
use Rattle.std.proofs.lemmas.Str.{IsCharBoundary-start, IsCharBoundary-after_ascii, IsUtf8-from_ascii, IsAscii-append, chars-IsAscii}
use Rattle.std.proofs.lemmas.Str.{chars-append, chars-nil, chars_past_char, encode_ascii, encodes-IsAscii, encodes-append, encodes-chars}
use Rattle.std.proofs.lemmas.Str.{inside_one}
use Rattle.std.proofs.lemmas.Str.Ascii.{IsAscii-nil, IsAscii-cons}
use Rattle.std.proofs.lemmas.List.{append_assoc}
use Rattle.std.proofs.lemmas.List.Elements.{All-from_get_or}
use Rattle.std.proofs.lemmas.List.Folds.{list_any-append, list_any_none}
use Rattle.std.proofs.lemmas.List.Sums.{prefix_len-le-length, prefix_len_passes}
use Rattle.std.proofs.lemmas.Grind.{flat_map-append}
use Rattle.pysource.specs.Reprs.{escaped, is_plain, is_unprintable, quote_for, repr_text}
use Rattle.pysource.proofs.Printing.Categories.{printable_ascii}
use Rattle.pysource.proofs.Printing.ReprsLemmas.{end_encoded}

abbrev pub has : ℕ → List ℕ → Bool
has b xs = list_any (λ x. x == b) xs

-- the bytes of a character have an ASCII byte where the character is it
one_character : (b c : ℕ) → b < 128 → has b (encode_utf8 c) ≡ (c == b)
one_character b c ascii = elim (cases_lt c 128) [
  | inl short ↦ let one = encode_ascii c short in rw one (or-false (c == b))
  | inr long ↦
      let other : All (λ x. (x == b) ≡ false) (encode_utf8 c) = All-from_get_or (λ x. (x == b) ≡ false) (encode_utf8 c) 0 (λ i inside.
      ne_eqb (get_or (encode_utf8 c) i 0) b (λ same.
      let is = inside_one c [] (encode_utf8 c) i (sym (append-nil (encode_utf8 c))) inside (omega (arith, same)) in
      absurd (omega (arith, same, is)))) in
      list_any_none (λ x. x == b) (encode_utf8 c) other ∙ sym (ne_eqb c b (λ same. absurd (omega (arith, same))))
]

pub some_character : (b : ℕ) (cs : List ℕ) → b < 128 → has b (encode_utf8_all cs) ≡ has b cs
some_character b [] ascii = refl
some_character b (c ∷ cs) ascii =
    list_any-append (λ x. x == b) (encode_utf8 c) (encode_utf8_all cs)
    ∙ ap₂ (λ (x y : Bool). x || y) (one_character b c ascii) (some_character b cs ascii)

-- the quote is chosen alike by bytes and by characters
pub quote_for_chars : (bs : List ℕ) → IsUtf8 bs → quote_for bs ≡ quote_for (chars bs)
quote_for_chars bs text =
    let same = encodes-chars bs text in
    let single : has 39 bs ≡ has 39 (chars bs) = ap (has 39) (sym same) ∙ some_character 39 (chars bs) (omega arith) in
    let double : has 34 bs ≡ has 34 (chars bs) = ap (has 34) (sym same) ∙ some_character 34 (chars bs) (omega arith) in
    rw (single, double) refl

-- Below, a plain byte stands for itself.
plain_below : (b : ℕ) → is_plain b ≡ true → b < 128
plain_below b plain =
    let high = leb-true b 126 (and_parts (nat_le 32 b) (nat_le b 126) (and_parts (nat_le 32 b && nat_le b 126) _ plain).0).1 in
    omega (arith, high)

pub plain_ascii : (bs : List ℕ) → list_all is_plain bs ≡ true → IsAscii bs
plain_ascii [] plain = IsAscii-nil
plain_ascii (b ∷ bs) plain =
    let parts = and_parts (is_plain b) (list_all is_plain bs) plain in
    IsAscii-cons b bs (plain_below b parts.0) (plain_ascii bs parts.1)

differs : (b c : ℕ) → is_plain b ≡ true → is_plain c ≡ false → (b == c) ≡ false
differs b c plain other = ne_eqb b c (λ same. both_ways (is_plain b) (ap is_plain same ∙ other) plain)

plain_escaped : (q b : ℕ) → is_plain q ≡ false → is_plain b ≡ true → escaped is_unprintable q b ≡ b ∷ []
plain_escaped q b quote plain =
    let backslash = differs b 92 plain refl in
    let same = differs b q plain quote in
    let tab = differs b 9 plain refl in
    let feed = differs b 10 plain refl in
    let return = differs b 13 plain refl in
    let range = and_parts (nat_le 32 b) (nat_le b 126) (and_parts (nat_le 32 b && nat_le b 126) _ plain).0 in
    let shown = printable_ascii b (leb-true 32 b range.0) (leb-true b 126 range.1) in
    rw (backslash, same, tab, feed, return, shown) refl

plain_all : (q : ℕ) (bs : List ℕ) → is_plain q ≡ false → list_all is_plain bs ≡ true → flat_map (escaped is_unprintable q) bs ≡ bs
plain_all q [] quote plain = refl
plain_all q (b ∷ bs) quote plain =
    let parts = and_parts (is_plain b) (list_all is_plain bs) plain in
    ap₂ (λ (x y : List ℕ). x ++ y) (plain_escaped q b quote parts.0) (plain_all q bs quote parts.1)

-- what stands between the quotes q for some code points, and for a text
abbrev pub between : ℕ → List ℕ → List ℕ
between q points = encode_utf8_all (flat_map (escaped is_unprintable q) points)

abbrev pub inner : ℕ → List ℕ → List ℕ
inner q bs = between q (chars bs)

plain_between : (q : ℕ) (plain tail : List ℕ) → is_plain q ≡ false → list_all is_plain plain ≡ true
    → between q (plain ++ tail) ≡ plain ++ between q tail
plain_between q plain tail quote passes =
    let f = escaped is_unprintable q in
    ap encode_utf8_all (flat_map-append f plain tail)
    ∙ encodes-append (flat_map f plain) (flat_map f tail)
    ∙ ap (λ (bs : List ℕ). encode_utf8_all bs ++ between q tail) (plain_all q plain quote passes)
    ∙ ap (λ (bs : List ℕ). bs ++ between q tail) (encodes-IsAscii plain (plain_ascii plain passes))

plain_front : (q : ℕ) (plain tail : List ℕ) → is_plain q ≡ false → list_all is_plain plain ≡ true
    → inner q (plain ++ tail) ≡ plain ++ inner q tail
plain_front q plain tail quote passes =
    let ascii = plain_ascii plain passes in
    ap (between q) (chars-append plain tail (IsUtf8-from_ascii plain ascii)
    ∙ ap (λ (cs : List ℕ). cs ++ chars tail) (chars-IsAscii plain ascii))
    ∙ plain_between q plain (chars tail) quote passes

-- neither quote is plain
pub quote_not_plain : (cs : List ℕ) → is_plain (quote_for cs) ≡ false
quote_not_plain cs = either (has 39 cs && not (has 34 cs))
  where
    either : (b : Bool) → is_plain (if b then 34 else 39) ≡ false
    either true = refl
    either false = refl

-- Below, an output and what is still to come of a text make up a whole.

moved : (out new part to_come left whole : List ℕ) → out ++ to_come ≡ whole → to_come ≡ part ++ left
    → new ≡ out ++ part → new ++ left ≡ whole
moved out new part to_come left whole so_far cut grown =
    ap (λ (bs : List ℕ). bs ++ left) grown ∙ append_assoc out part left ∙ ap (λ (bs : List ℕ). out ++ bs) (sym cut) ∙ so_far

-- a plain front was appended
pub plain_pushed : (q : ℕ) (cs text plain tail out new whole : List ℕ) → q ≡ quote_for cs → text ≡ plain ++ tail
    → list_all is_plain plain ≡ true
    → out ++ inner q text ≡ whole → new ≡ out ++ plain → new ++ inner q tail ≡ whole
plain_pushed q cs text plain tail out new whole quote cut passes so_far grown =
    let not_plain : is_plain q ≡ false = ap is_plain quote ∙ quote_not_plain cs in
    moved out new plain (inner q text) (inner q tail) whole so_far (ap (inner q) cut ∙ plain_front q plain tail not_plain passes) grown

-- the same of code points
pub plain_points_pushed : (q : ℕ) (cs points plain tail out new whole : List ℕ) → q ≡ quote_for cs → points ≡ plain ++ tail
    → list_all is_plain plain ≡ true
    → out ++ between q points ≡ whole → new ≡ out ++ plain → new ++ between q tail ≡ whole
plain_points_pushed q cs points plain tail out new whole quote cut passes so_far grown =
    let not_plain : is_plain q ≡ false = ap is_plain quote ∙ quote_not_plain cs in
    moved out new plain (between q points) (between q tail) whole so_far (ap (between q) cut
    ∙ plain_between q plain tail not_plain passes) grown

-- what stands for one code point was appended
pub point_pushed : (q c : ℕ) (points rest out new whole : List ℕ) → points ≡ c ∷ rest
    → out ++ between q points ≡ whole → new ≡ out ++ encode_utf8_all (escaped is_unprintable q c) → new ++ between q rest ≡ whole
point_pushed q c points rest out new whole cut so_far grown =
    let f = escaped is_unprintable q in
    moved out new (encode_utf8_all (f c)) (between q points) (between q rest) whole so_far (ap (between q) cut
    ∙ encodes-append (f c) (flat_map f rest)) grown

-- what stands for one character was appended
pub character_pushed : (q c : ℕ) (text rest out new whole : List ℕ) → IsUtf8 text → text ≡ encode_utf8 c ++ rest
    → out ++ inner q text ≡ whole → new ≡ out ++ encode_utf8_all (escaped is_unprintable q c) → new ++ inner q rest ≡ whole
character_pushed q c text rest out new whole utf8 cut so_far grown =
    let f = escaped is_unprintable q in
    let parts : inner q text ≡ encode_utf8_all (f c) ++ inner q rest =
    ap (λ (cs : List ℕ). encode_utf8_all (flat_map f cs)) (chars_past_char text rest c utf8 cut)
    ∙ encodes-append (f c) (flat_map f (chars rest)) in
    moved out new (encode_utf8_all (f c)) (inner q text) (inner q rest) whole so_far parts grown

-- the output after the closing quote, where nothing is still to come
pub closed : (q : ℕ) (tail cs base old new : List ℕ) → length tail ≡ 0
    → old ++ inner q tail ≡ base ++ encode_utf8_all (q ∷ flat_map (escaped is_unprintable q) cs)
    → new ≡ old ++ encode_utf8_all (q ∷ []) → new ≡ base ++ encode_utf8_all (q ∷ flat_map (escaped is_unprintable q) cs ++ q ∷ [])
closed q [] cs base old new empty so_far grown =
    let all : old ≡ base ++ encode_utf8_all (q ∷ flat_map (escaped is_unprintable q) cs) =
    sym (append-nil old) ∙ ap (λ (ds : List ℕ). old ++ encode_utf8_all (flat_map (escaped is_unprintable q) ds)) (sym chars-nil) ∙ so_far in
    grown ∙ ap (λ (bs : List ℕ). bs ++ encode_utf8_all (q ∷ [])) all
    ∙ append_assoc base (encode_utf8_all (q ∷ flat_map (escaped is_unprintable q) cs)) (encode_utf8_all (q ∷ []))
    ∙ ap (λ (bs : List ℕ). base ++ bs) (sym (encodes-append (q ∷ flat_map (escaped is_unprintable q) cs) (q ∷ [])))
closed q (b ∷ bs) cs base old new empty so_far grown = absurd (omega (arith, empty))

-- the same of code points
pub points_closed : (q : ℕ) (tail points base old new : List ℕ) → length tail ≡ 0
    → old ++ between q tail ≡ base ++ encode_utf8_all (q ∷ flat_map (escaped is_unprintable q) points)
    → new ≡ old ++ encode_utf8_all (q ∷ []) → new ≡ base ++ encode_utf8_all (q ∷ flat_map (escaped is_unprintable q) points ++ q ∷ [])
points_closed q [] points base old new empty so_far grown =
    end_encoded (escaped is_unprintable q) q points base old new (sym (append-nil old) ∙ so_far) grown
points_closed q (c ∷ cs) points base old new empty so_far grown = absurd (omega (arith, empty))

-- the longest plain front is plain, and the text may be cut after it
pub plain_prefix : (bs : List ℕ) → list_all is_plain (take (prefix_len is_plain bs) bs) ≡ true
plain_prefix [] = refl
plain_prefix (b ∷ bs) = elim (cases_Bool (is_plain b)) [
  | inl plain ↦
      let size : 1 + prefix_len is_plain bs ≡ suc (prefix_len is_plain bs) = omega arith in
      rw (plain, size) (and_from (is_plain b) (list_all is_plain (take (prefix_len is_plain bs) bs)) plain (plain_prefix bs))
  | inr other ↦ rw other refl
]

pub plain_boundary : (bs : List ℕ) (n : ℕ) → IsUtf8 bs → n ≡ prefix_len is_plain bs → IsCharBoundary bs n
plain_boundary bs n text is = elim (cases_eq n 0) [
  | inl none ↦ subst (λ (k : ℕ). IsCharBoundary bs k) (sym none) (IsCharBoundary-start bs text)
  | inr some ↦
      let place : n - 1 + 1 ≡ n = omega arith in
      let within = prefix_len-le-length is_plain bs in
      let last : is_plain (get_or bs (n - 1) 0) ≡ true = prefix_len_passes is_plain bs (n - 1) 0 (omega (arith, is)) in
      subst (λ (k : ℕ). IsCharBoundary bs k) place (IsCharBoundary-after_ascii bs (n - 1) text (omega (arith, within, is))
      (plain_below (get_or bs (n - 1) 0) last))
]

one_more : (m n : ℕ) → (1 + m == suc n) ≡ (m == n)
one_more m n = grind (arith, nat_tests)

none : (n : ℕ) → (0 == suc n) ≡ false
none n = ne_eqb 0 (suc n) (λ same. absurd (omega (arith, same)))

-- all bytes of a text pass where its longest front that passes is the whole
pub all_by_prefix : (p : ℕ → Bool) (bs : List ℕ) → (prefix_len p bs == length bs) ≡ list_all p bs
all_by_prefix p [] = refl
all_by_prefix p (b ∷ bs) = elim (cases_Bool (p b)) [
  | inl passes ↦
      rw passes (one_more (prefix_len p bs) (length bs) ∙ all_by_prefix p bs)
  | inr other ↦ rw other (none (length bs))
]

no_quote : (bs : List ℕ) → list_all is_plain bs ≡ true → has 39 bs ≡ false
no_quote [] plain = refl
no_quote (b ∷ bs) plain =
    let parts = and_parts (is_plain b) (list_all is_plain bs) plain in
    rw (differs b 39 parts.0 refl) (no_quote bs parts.1)

quoted_ascii : (bs : List ℕ) → list_all is_plain bs ≡ true → IsAscii (39 ∷ bs ++ 39 ∷ [])
quoted_ascii bs plain =
    IsAscii-append (39 ∷ bs) (39 ∷ []) (IsAscii-cons 39 bs (omega arith) (plain_ascii bs plain))
    (IsAscii-cons 39 [] (omega arith) IsAscii-nil)

-- the repr of a plain text
pub plain_repr : (bs : List ℕ) → list_all is_plain bs ≡ true → repr_text (chars bs) ≡ 39 ∷ bs ++ 39 ∷ []
plain_repr bs plain =
    let same = chars-IsAscii bs (plain_ascii bs plain) in
    let quote : quote_for bs ≡ 39 = rw (no_quote bs plain) refl in
    ap repr_text same
    ∙ ap (λ (q : ℕ). encode_utf8_all (q ∷ flat_map (escaped is_unprintable q) bs ++ q ∷ [])) quote
    ∙ ap (λ (ds : List ℕ). encode_utf8_all (39 ∷ ds ++ 39 ∷ [])) (plain_all 39 bs refl plain)
    ∙ encodes-IsAscii (39 ∷ bs ++ 39 ∷ []) (quoted_ascii bs plain)

-- its characters
pub plain_repr_characters : (bs : List ℕ) → list_all is_plain bs ≡ true → length (chars (39 ∷ bs ++ 39 ∷ [])) ≡ length bs + 2
plain_repr_characters bs plain =
    ap length (chars-IsAscii (39 ∷ bs ++ 39 ∷ []) (quoted_ascii bs plain)) ∙ omega (arith, length-append (39 ∷ bs) (39 ∷ []))
