-- Carries: first_character, front, bump_plain, begins_apart. On: characters of ASCII at the ends of a text.
use Rattle.std.proofs.Common.{◌≡◌, ℕ, zero, suc, ◌+◌, ◌-◌, ◌<◌, ◌≤◌, Bool, true, false, List, [], ◌∷◌, ◌++◌, length, take, drop, refl, sym}
use Rattle.std.proofs.Common.{ap, ◌∙◌, arith}
use Rattle.std.proofs.Common.{Some, None, slice_get, get_or}
use Rattle.std.specs.Prelude.{◌==◌, ◌||◌, ◌&&◌, not, nat_le}
use Rattle.std.specs.List.{list_all, prefix_len}
use Rattle.std.specs.Str.{chars, IsUtf8, IsAscii, IsCharBoundary}
use Rattle.std.proofs.lemmas.Bool.{and_parts, and_left, and_right, eq-eqb, leb-true, not-true}
use Rattle.std.proofs.lemmas.List.{take-append-drop}
use Rattle.std.proofs.lemmas.List.Elements.{filter-append}
use Rattle.std.proofs.lemmas.List.Sums.{prefix_len-le-length}
use Rattle.std.proofs.lemmas.Option.{slice_get_within, get_or_from_slice_get}
use Rattle.std.proofs.lemmas.Str.{encode_ascii, chars-append, chars-IsAscii, IsUtf8-take, IsUtf8-drop, IsUtf8-from_ascii}
use Rattle.std.proofs.lemmas.Str.{IsCharBoundary-before_ascii, IsCharBoundary-after_ascii, IsCharBoundary-from_take}
use Rattle.std.proofs.lemmas.Str.Ascii.{IsAscii-nil, IsAscii-cons}
use Rattle.pylex_lexeme.proofs.Callers.Lexemes.{at_one}
use Rattle.pylex_lexeme.proofs.Callers.Fronts.{run_passes}
use Rattle.pylex_lexeme.specs.Characters.{single_quote, double_quote}
use Rattle.pylex_lexeme.specs.Strings.{begins_three}
use Rattle.pytoken.specs.StringValues.{with_line_feeds, without_last}
use Rattle.pytoken.specs.Inner.Readings.{is_own, stands}
use Rattle.pytoken.proofs.values.Filtered.{kept, nothing, last_taken}

record Own (c : ℕ) : Type 0 where
  low : c < 128
  other : (c == 13) ≡ false

own : (c : ℕ) → is_own c ≡ true → Own c
own c is =
    let parts = and_parts (nat_le c 0x7F) (not (c == 13)) is in
    record { low = omega (arith, leb-true c 0x7F parts.0); other = not-true (c == 13) parts.1 }

no_return : (c : ℕ) → (c == 13) ≡ false → c ≡ 13 → ⊥
no_return c other is = let same = eq-eqb c 13 is in absurd (cc)

-- at the front

pub own_first : (bs : List ℕ) (b : ℕ) → IsUtf8 bs → slice_get bs 0 ≡ Some b → is_own b ≡ true →
    with_line_feeds (chars bs) ≡ b ∷ with_line_feeds (chars (drop 1 bs))
own_first bs b utf8 e is =
    let o = own b is in
    kept bs (drop 1 bs) b utf8 (at_one bs b e ∙ ap (λ (x : List ℕ). x ++ drop 1 bs) (sym (encode_ascii b o.low))) (no_return b o.other)

pub own_boundary : (bs : List ℕ) (b : ℕ) → IsUtf8 bs → slice_get bs 0 ≡ Some b → is_own b ≡ true → IsCharBoundary bs 1
own_boundary bs b utf8 e is =
    let o = own b is in
    IsCharBoundary-after_ascii bs 0 utf8 (slice_get_within bs 0 b e) (omega (arith, o.low, get_or_from_slice_get bs 0 b 0 e))

pub own_none : (bs : List ℕ) → slice_get bs 0 ≡ None → with_line_feeds (chars bs) ≡ []
own_none [] e = nothing
own_none (b ∷ bs) e = absurd (cc)

unequal : (a b : ℕ) (t : List ℕ) → (b == a) ≡ false → begins_three (a ∷ b ∷ t) ≡ false
unequal a b [] other = refl
unequal a b (c ∷ t) other =
    and_left (((a == single_quote) || (a == double_quote)) && (b == a)) (c == a)
    (and_right ((a == single_quote) || (a == double_quote)) (b == a) other)

-- two of them that differ
pub own_apart : (bs : List ℕ) → IsUtf8 bs → 2 ≤ length bs
    → (is_own (get_or bs 0 0) && (is_own (get_or bs 1 0) && not (get_or bs 1 0 == get_or bs 0 0))) ≡ true
    → begins_three (with_line_feeds (chars bs)) ≡ false
own_apart [] utf8 long is = absurd (omega (arith, long))
own_apart (a ∷ []) utf8 long is = absurd (omega (arith, long))
own_apart (a ∷ b ∷ bs) utf8 long is =
    let parts = and_parts (is_own a) (is_own b && not (b == a)) is in
    let more = and_parts (is_own b) (not (b == a)) parts.1 in
    let tail : IsUtf8 (b ∷ bs) = IsUtf8-drop (a ∷ b ∷ bs) 1 utf8 (own_boundary (a ∷ b ∷ bs) a utf8 refl parts.0) in
    ap begins_three (own_first (a ∷ b ∷ bs) a utf8 refl parts.0 ∙ ap (λ (t : List ℕ). a ∷ t) (own_first (b ∷ bs) b tail refl more.0))
    ∙ unequal a b (with_line_feeds (chars bs)) (not-true (b == a) more.1)

-- at the end

last_cut : (n : ℕ) (bs : List ℕ) (b : ℕ) → length bs ≡ n + 1 → slice_get bs n ≡ Some b → bs ≡ take n bs ++ b ∷ []
last_cut n [] b size e = absurd (omega (arith, size))
last_cut zero (x ∷ []) b size e = let is : x ≡ b = cc in ap (λ (k : ℕ). k ∷ []) is
last_cut zero (x ∷ y ∷ bs) b size e = absurd (omega (arith, size))
last_cut (suc n) (x ∷ bs) b size e = ap (λ (t : List ℕ). x ∷ t) (last_cut n bs b (omega (arith, size)) e)

pub own_last : (bs front : List ℕ) (b : ℕ) → IsUtf8 bs → slice_get bs (length bs - 1) ≡ Some b → is_own b ≡ true
    → front ≡ take (length bs - 1) bs →
    with_line_feeds (chars front) ≡ without_last 1 (with_line_feeds (chars bs))
own_last bs front b utf8 e is cut =
    let o = own b is in
    let n = length bs - 1 in
    let within = slice_get_within bs n b e in
    let low = get_or_from_slice_get bs n b 0 e in
    let before : IsUtf8 (take n bs) = IsUtf8-take bs n utf8 (IsCharBoundary-before_ascii bs n within (omega (arith, o.low, low))) in
    let whole = last_cut n bs b (omega (arith, within)) e ∙ ap (λ (x : List ℕ). take n bs ++ x) (sym (encode_ascii b o.low)) in
    ap (λ (t : List ℕ). with_line_feeds (chars t)) cut ∙ last_taken bs (take n bs) b utf8 before whole (no_return b o.other)

-- a run of them

stands_own : (raw : Bool) (c : ℕ) → stands raw c ≡ true → Own c
stands_own raw c is = own c (and_parts (is_own c) (raw || not (c == 92)) is).0

run_ascii : (raw : Bool) (t : List ℕ) → list_all (stands raw) t ≡ true → IsAscii t
run_ascii raw [] all = IsAscii-nil
run_ascii raw (c ∷ t) all =
    let parts = and_parts (stands raw c) (list_all (stands raw) t) all in
    IsAscii-cons c t (stands_own raw c parts.0).low (run_ascii raw t parts.1)

run_kept : (raw : Bool) (t : List ℕ) → list_all (stands raw) t ≡ true → with_line_feeds t ≡ t
run_kept raw [] all = refl
run_kept raw (c ∷ t) all =
    let parts = and_parts (stands raw c) (list_all (stands raw) t) all in
    let other = (stands_own raw c parts.0).other in
    rw other (ap (λ (x : List ℕ). c ∷ x) (run_kept raw t parts.1))

pub record Run (raw : Bool) (bs : List ℕ) (n : ℕ) : Type 0 where
  pub boundary : IsCharBoundary bs n
  pub whole : with_line_feeds (chars bs) ≡ take n bs ++ with_line_feeds (chars (drop n bs))
  pub plain : list_all (stands raw) (take n bs) ≡ true

pub run_of : (raw : Bool) (bs : List ℕ) (n : ℕ) → IsUtf8 bs → n ≡ prefix_len (stands raw) bs → Run raw bs n
run_of raw bs n utf8 e =
    let all : list_all (stands raw) (take n bs) ≡ true = ap (λ (k : ℕ). list_all (stands raw) (take k bs)) e ∙ run_passes (stands raw) bs in
    let ascii = run_ascii raw (take n bs) all in
    let own_utf8 = IsUtf8-from_ascii (take n bs) ascii in
    record {
      boundary = IsCharBoundary-from_take bs n utf8 (omega (arith, e, prefix_len-le-length (stands raw) bs)) own_utf8;
      whole = ap with_line_feeds (ap chars (sym (take-append-drop n bs)) ∙ chars-append (take n bs) (drop n bs) own_utf8
          ∙ ap (λ (x : List ℕ). x ++ chars (drop n bs)) (chars-IsAscii (take n bs) ascii))
          ∙ filter-append (λ x. not (x == 13)) (take n bs) (chars (drop n bs))
          ∙ ap (λ (x : List ℕ). x ++ with_line_feeds (chars (drop n bs))) (run_kept raw (take n bs) all);
      plain = all;
    }
