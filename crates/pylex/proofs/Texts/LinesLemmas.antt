-- The widths of what a line's fields hold.
--
-- Carries: kind_field, push_line_feed, push_end, push_fields, push_filling, push_operator,
-- push_plain, push_range and 5 more.
use Rattle.std.proofs.Common.{◌≡◌, ℕ, true, false, ◌<◌, ◌-◌, List, [], ◌∷◌, ◌++◌, length, drop, replicate, refl, ap, ap₂, ◌∙◌, arith, ◌≤◌}
use Rattle.std.proofs.Common.{◌+◌, get_or, length-append, sym, take, subst, append-nil, nat_le, leb-true}
use Rattle.std.specs.Prelude.{zero, suc, ◌/◌, ◌%◌, ◌==◌, ◌&&◌, if◌then◌else◌, decimal, codes, slice_set}
use Rattle.std.specs.List.{list_all}
use Rattle.std.specs.Str.{chars, IsAscii}
use Rattle.std.proofs.lemmas.Str.{chars-IsAscii, IsAscii-append}
use Rattle.std.proofs.lemmas.Str.Ascii.{IsAscii-nil, IsAscii-cons}
use Rattle.std.proofs.lemmas.List.{append_assoc, drop-append-le, drop-drop, drop_all, get_or-append_right, get_or-replicate}
use Rattle.std.proofs.lemmas.List.{length-replicate, replicate-append-replicate, take_at, drop-replicate, set-append_right}
use Rattle.std.specs.Fmt.{digits, digits_onto, digit_glyph}
use Rattle.std.proofs.lemmas.Bool.{ne_eqb, and_parts}
use Rattle.std.proofs.lemmas.Bool.Decides.{nat_tests}
use Rattle.pysource.specs.declared.places.Place.{Place}
use Rattle.pysource.specs.Reprs.{is_plain, repr_text}
use Rattle.pysource.proofs.Callers.Printing.{plain_repr, plain_repr_characters}
use Rattle.pylex_listing.specs.declared.entries.Entry.{Entry}
use Rattle.pylex_lexeme.specs.declared.kinds.Exact.{Exact}
use Rattle.pylex_lexeme.specs.declared.kinds.Exact.TheVariants.{LPar}
use Rattle.pylex_listing.specs.declared.kind.Kind.{Kind}
use Rattle.pylex_listing.specs.declared.kind.Kind.TheVariants.{Op}
use Rattle.pylex_lexeme.specs.Operators.{exact_name}
use Rattle.pylex_listing.specs.ListingLines.{filled, kind_name, shown_place, shown_range}

one_ascii : (b : ℕ) → b < 128 → IsAscii (b ∷ [])
one_ascii b h = IsAscii-cons b [] h IsAscii-nil

glyph : (d : ℕ) → d < 10 → digit_glyph false d ≡ 48 + d
glyph d h = grind (arith, nat_tests)

glyph_ascii : (d : ℕ) → d < 10 → digit_glyph false d < 128
glyph_ascii d h = grind (arith, nat_tests)

digits_ascii : (k n : ℕ) (acc : List ℕ) → IsAscii acc → IsAscii (digits_onto k 10 false n acc)
digits_ascii zero n acc h = h
digits_ascii (suc k) n acc h =
    let glyph : digit_glyph false (n % 10) < 128 = glyph_ascii (n % 10) (omega arith) in
    let more : IsAscii (digit_glyph false (n % 10) ∷ acc) = IsAscii-cons _ acc glyph h in
    elim (n / 10 == 0) as
    (λ b. IsAscii (if b then digit_glyph false (n % 10) ∷ acc else digits_onto k 10 false (n / 10) (digit_glyph false (n % 10) ∷ acc)))
    [ true ↦ more | false ↦ digits_ascii k (n / 10) (digit_glyph false (n % 10) ∷ acc) more ]

decimal_ascii : (n : ℕ) → IsAscii (decimal n)
unfolding digits
decimal_ascii n = digits_ascii 64 n [] IsAscii-nil

pub two_digits : (n : ℕ) → 10 ≤ n → n < 100 → decimal n ≡ (48 + n / 10) ∷ (48 + n % 10) ∷ []
unfolding digits
two_digits n some small =
    let more : (n / 10 == 0) ≡ false = ne_eqb (n / 10) 0 (λ same. absurd (omega (arith, same))) in
    let none : n / 10 / 10 ≡ 0 = omega arith in
    let whole : n / 10 % 10 ≡ n / 10 = omega arith in
    rw (more, none, whole) (ap₂ (λ g h. g ∷ h ∷ []) (glyph (n / 10) (omega arith)) (glyph (n % 10) (omega arith)))

-- what stands after the first of what stands from a place on
pub drop_after : (next at x : ℕ) (rest all : List ℕ) → at + 1 ≡ next → drop at all ≡ x ∷ rest → drop next all ≡ rest
drop_after next at x rest all step here =
    ap (λ n. drop n all) (sym step) ∙ sym (drop-drop 1 at all) ∙ ap (λ (t : List ℕ). drop 1 t) here

place_ascii : (p : Place) → IsAscii (shown_place p)
place_ascii p =
    IsAscii-append (decimal p.row ++ codes ",") (decimal p.column)
    (IsAscii-append (decimal p.row) (codes ",") (decimal_ascii p.row) (one_ascii 44 (omega arith)))
    (decimal_ascii p.column)

-- a range of places has a character for each byte
pub range_characters : (e : Entry) → length (chars (shown_range e)) ≡ length (shown_range e)
range_characters e =
    ap length (chars-IsAscii (shown_range e)
    (IsAscii-append (shown_place e.start ++ codes "-" ++ shown_place e.end) (codes ":")
    (IsAscii-append (shown_place e.start ++ codes "-") (shown_place e.end)
    (IsAscii-append (shown_place e.start) (codes "-") (place_ascii e.start) (one_ascii 45 (omega arith)))
    (place_ascii e.end))
    (one_ascii 58 (omega arith))))

pub exact_characters : (x : Exact) → length (chars (exact_name x)) ≡ length (exact_name x)
unfolding chars
exact_characters LPar = refl
exact_characters _ = refl

kind_characters : (k : Kind) → length (chars (kind_name k)) ≡ length (kind_name k)
unfolding chars
kind_characters Op = refl
kind_characters _ = refl

-- the field of a type's name
pub kind_filled : (k : Kind) → filled 15 (kind_name k) ≡ kind_name k ++ replicate (15 - length (kind_name k)) 32
kind_filled k = ap (λ n. kind_name k ++ replicate (15 - n) 32) (kind_characters k)

-- a field, from its text and its filling
pub field_filled : (width taken : ℕ) (text old written new : List ℕ) → written ≡ old ++ text → taken ≡ length (chars text)
    → new ≡ written ++ replicate (width - taken) 32 → new ≡ old ++ filled width text
field_filled width taken text old written new front count back =
    back ∙ ap (λ n. written ++ replicate (width - n) 32) count ∙ ap (λ bs. bs ++ replicate (width - length (chars text)) 32) front
    ∙ append_assoc old text (replicate (width - length (chars text)) 32)

-- what stands after an earlier text
pub following : (old more new : List ℕ) (n : ℕ) → new ≡ old ++ more → n ≡ length old → drop n new ≡ more
following old more new n whole size = rw (
  whole,
  size,
  drop-append-le (length old) old more (omega arith),
  drop_all (length old) old (omega arith),
) refl

-- three texts appended one by one
pub three_parts : (old a b c x y new : List ℕ) → x ≡ old ++ a → y ≡ x ++ b → new ≡ y ++ c → new ≡ old ++ (a ++ b ++ c)
three_parts old a b c x y new first second third =
    third ∙ ap (λ bs. bs ++ c) (second ∙ ap (λ bs. bs ++ b) first ∙ append_assoc old a b) ∙ append_assoc old (a ++ b) c

-- what stands after a text that blanks were appended to, and the text with fewer of them
pub blank_at : (old : List ℕ) (n i : ℕ) (new : List ℕ) → new ≡ old ++ replicate n 32 → length old ≤ i → i < length new → get_or new i 0 ≡ 32
blank_at old n i new grown following inside =
    let size : length new ≡ length old + n = ap length grown ∙ length-append old (replicate n 32)
    ∙ ap (λ m. length old + m) (length-replicate n 32) in
    ap (λ bs. get_or bs i 0) grown ∙ get_or-append_right old (replicate n 32) (length old) i 0 refl following
    ∙ get_or-replicate n (i - length old) 32 0 (omega (arith, size))

pub cut_filling : (old : List ℕ) (n k at : ℕ) (new : List ℕ) → k ≤ n → at ≡ length old → new ≡ old ++ replicate n 32
    → take (at + k) new ≡ old ++ replicate k 32
cut_filling old n k at new fewer start grown =
    let all : k + (n - k) ≡ n = omega arith in
    let parts : replicate n 32 ≡ replicate k 32 ++ replicate (n - k) 32 = ap (λ (m : ℕ). replicate {A = ℕ} m 32) (sym all)
    ∙ sym (replicate-append-replicate {A = ℕ} k (n - k) 32) in
    let cut : new ≡ (old ++ replicate k 32) ++ replicate (n - k) 32 =
    grown ∙ ap (λ bs. old ++ bs) parts ∙ sym (append_assoc old (replicate k 32) (replicate (n - k) 32)) in
    let place : length (old ++ replicate k 32) ≡ at + k = omega (
      arith,
      start,
      length-append old (replicate k 32),
      length-replicate {A = ℕ} k 32,
    ) in
    ap (take (at + k)) cut ∙ take_at (old ++ replicate k 32) (replicate (n - k) 32) (at + k) place

-- Below, fields that are written to an array.
blanks_ascii : (n : ℕ) → IsAscii (replicate n 32)
blanks_ascii zero = IsAscii-nil
blanks_ascii (suc n) = IsAscii-cons 32 (replicate n 32) (omega arith) (blanks_ascii n)

range_ascii : (e : Entry) → IsAscii (shown_range e)
range_ascii e =
    IsAscii-append (shown_place e.start ++ codes "-" ++ shown_place e.end) (codes ":")
    (IsAscii-append (shown_place e.start ++ codes "-") (shown_place e.end)
    (IsAscii-append (shown_place e.start) (codes "-") (place_ascii e.start) (one_ascii 45 (omega arith)))
    (place_ascii e.end))
    (one_ascii 58 (omega arith))

-- a place before more text, and its length
pub place_front : (p : Place) (rest : List ℕ) → decimal p.row ++ (44 ∷ (decimal p.column ++ rest)) ≡ shown_place p ++ rest
place_front p rest =
    sym (append_assoc (decimal p.row ++ codes ",") (decimal p.column) rest
    ∙ append_assoc (decimal p.row) (codes ",") (decimal p.column ++ rest))

pub place_length : (p : Place) → length (shown_place p) ≡ length (decimal p.row) + 1 + length (decimal p.column)
place_length p = length-append (decimal p.row ++ codes ",") (decimal p.column)
    ∙ ap (λ n. n + length (decimal p.column)) (length-append (decimal p.row) (codes ","))

-- a range of places before more text
pub range_front : (e : Entry) (rest : List ℕ) → shown_place e.start ++ (45 ∷ (shown_place e.end ++ (58 ∷ rest))) ≡ shown_range e ++ rest
range_front e rest =
    sym (append_assoc (shown_place e.start ++ codes "-" ++ shown_place e.end) (codes ":") rest
    ∙ append_assoc (shown_place e.start ++ codes "-") (shown_place e.end) (58 ∷ rest)
    ∙ append_assoc (shown_place e.start) (codes "-") (shown_place e.end ++ (58 ∷ rest)))

-- the field of places that are no wider than it, and of wider ones
pub short_range : (e : Entry) (rest : List ℕ) (n : ℕ) → rest ≡ shown_range e ++ replicate 20 32 → n ≡ 20 → length (shown_range e) ≤ 20
    → take n rest ≡ filled 20 (shown_range e)
short_range e rest n is width short =
    let size = length (shown_range e) in
    let all : n ≡ size + (20 - size) = omega arith in
    ap (λ k. take k rest) all ∙ cut_filling (shown_range e) 20 (20 - size) size rest (omega arith) refl is
    ∙ ap (λ k. shown_range e ++ replicate (20 - k) 32) (sym (range_characters e))

pub wide_range : (e : Entry) (rest : List ℕ) (n : ℕ) → rest ≡ shown_range e ++ replicate 20 32 → n ≡ length (shown_range e) → 20 < n
    → take n rest ≡ filled 20 (shown_range e)
wide_range e rest n is size wide =
    let none : 20 - length (chars (shown_range e)) ≡ 0 = omega (arith, range_characters e) in
    ap (take n) is ∙ take_at (shown_range e) (replicate 20 32) n (sym size)
    ∙ sym (append-nil (shown_range e)) ∙ ap (λ k. shown_range e ++ replicate k 32) (sym none)

pub filled_range_ascii : (e : Entry) → IsAscii (filled 20 (shown_range e))
filled_range_ascii e = IsAscii-append (shown_range e) (replicate (20 - length (chars (shown_range e))) 32) (range_ascii e)
    (blanks_ascii (20 - length (chars (shown_range e))))

plain_below : (b : ℕ) → is_plain b ≡ true → b < 128
plain_below b plain =
    let high = leb-true b 126 (and_parts (nat_le 32 b) (nat_le b 126) (and_parts (nat_le 32 b && nat_le b 126) _ plain).0).1 in
    omega (arith, high)

plain_ascii : (bs : List ℕ) → list_all is_plain bs ≡ true → IsAscii bs
plain_ascii [] plain = IsAscii-nil
plain_ascii (b ∷ bs) plain =
    let parts = and_parts (is_plain b) (list_all is_plain bs) plain in
    IsAscii-cons b bs (plain_below b parts.0) (plain_ascii bs parts.1)

-- the field of a short plain text
plain_field : (text : List ℕ) → list_all is_plain text ≡ true → length text ≤ 13 → 39 ∷ (text ++ 39 ∷ replicate (13 - length text) 32) ≡
    filled 15 (repr_text (chars text))
plain_field text plain short =
    let shown = plain_repr text plain in
    let count : length text + 2 ≡ length (chars (repr_text (chars text))) =
    sym (ap (λ bs. length (chars bs)) shown ∙ plain_repr_characters text plain) in
    let rest : 13 - length text ≡ 15 - (length text + 2) = omega arith in
    field_filled 15 (length text + 2) (repr_text (chars text)) [] (39 ∷ (text ++ 39 ∷ []))
    (39 ∷ (text ++ 39 ∷ replicate (13 - length text) 32)) (sym shown) count
    (ap (λ k. 39 ∷ (text ++ 39 ∷ replicate k 32)) rest
    ∙ ap (λ (bs : List ℕ). 39 ∷ bs) (sym (append_assoc text (39 ∷ []) (replicate (15 - (length text + 2)) 32))))

-- the line's end after it
ended_field : (text : List ℕ) → list_all is_plain text ≡ true → length text ≤ 13
    → 39 ∷ (text ++ 39 ∷ (replicate (13 - length text) 32 ++ 10 ∷ [])) ≡ filled 15 (repr_text (chars text)) ++ codes "\n"
ended_field text plain short =
    ap (λ (bs : List ℕ). 39 ∷ bs) (sym (append_assoc text (39 ∷ replicate (13 - length text) 32) (10 ∷ [])))
    ∙ ap (λ (bs : List ℕ). bs ++ 10 ∷ []) (plain_field text plain short)

pub short_field : (text copied : List ℕ) → list_all is_plain text ≡ true → length text ≤ 13 → copied ≡ text
    → slice_set (39 ∷ (copied ++ drop (length text + 1 - 1) (replicate {A = ℕ} 14 32 ++ 10 ∷ []))) (length text + 1) 39 ≡ filled 15
    (repr_text (chars text)) ++ codes "\n"
short_field text copied plain short same =
    let n = length text in
    let len : n + 1 - 1 ≡ n = omega arith in
    let within : n ≤ length (replicate {A = ℕ} 14 32) = omega arith in
    let back : drop n (replicate {A = ℕ} 14 32 ++ 10 ∷ []) ≡ 32 ∷ (replicate (13 - n) 32 ++ 10 ∷ []) =
    let more : 14 - n ≡ suc (13 - n) = omega arith in
    drop-append-le n (replicate {A = ℕ} 14 32) (10 ∷ []) within ∙ ap (λ bs. bs ++ 10 ∷ []) (drop-replicate n 14 32
    ∙ ap (λ k. replicate {A = ℕ} k 32) more) in
    let start : n + 1 - (n + 1) ≡ 0 = omega arith in
    let size : length (39 ∷ text) ≡ n + 1 = omega arith in
    rw (same, len, back) (set-append_right (39 ∷ text) (32 ∷ (replicate (13 - n) 32 ++ 10 ∷ [])) (n + 1) (n + 1) 39 size (omega arith)
    ∙ ap (λ k. (39 ∷ text) ++ slice_set (32 ∷ (replicate (13 - n) 32 ++ 10 ∷ [])) k 39) start ∙ ended_field text plain short)

pub filled_plain_ascii : (text : List ℕ) → list_all is_plain text ≡ true → length text ≤ 13
    → IsAscii (filled 15 (repr_text (chars text)) ++ codes "\n")
filled_plain_ascii text plain short =
    IsAscii-append (filled 15 (repr_text (chars text))) (codes "\n")
    (subst IsAscii (plain_field text plain short)
    (IsAscii-cons 39 (text ++ 39 ∷ replicate (13 - length text) 32) (omega arith)
    (IsAscii-append text (39 ∷ replicate (13 - length text) 32) (plain_ascii text plain)
    (IsAscii-cons 39 (replicate (13 - length text) 32) (omega arith) (blanks_ascii (13 - length text))))))
    (one_ascii 10 (omega arith))

-- the field of a line feed
pub line_feed_field : filled 15 (repr_text (chars (10 ∷ []))) ≡ codes "'\\n'           "
unfolding chars lib.Utf8.encode
line_feed_field = refl
