-- Carries: skip_prefix, strip, is_marked, escape_fault, literal_fault, text_in, bytes_in,
-- string_value. On: what stands in a literal's body, and its parts.
use Rattle.std.proofs.Common.{◌≡◌, ℕ, zero, suc, ◌+◌, ◌-◌, ◌<◌, Bool, true, false, List, [], ◌∷◌, ◌++◌, length, take, drop, refl, sym, ap}
use Rattle.std.proofs.Common.{ap₂, subst}
use Rattle.std.proofs.Common.{◌∙◌, arith, Some, None, slice_get, append_assoc, append-nil, length-drop, length-take, take-take, take_all}
use Rattle.std.specs.Prelude.{◌==◌, ◌||◌, ◌&&◌, not, nat_lt}
use Rattle.std.specs.Str.{chars, all_scalars, IsUtf8}
use lib.Utf8.{scalar}
use Rattle.std.proofs.lemmas.Bool.{and_from, and_parts}
use Rattle.std.proofs.lemmas.Bool.Decides.{nat_tests}
use Rattle.std.proofs.lemmas.List.Folds.{list_all-append}
use Rattle.std.proofs.lemmas.Str.{scalars-chars}
use Rattle.pytree_node.specs.Values.{Str, Bytes}
use Rattle.std.specs.List.{flat_map, list_any, list_all}
use Rattle.std.proofs.Math.Bool.{or-false}
use Rattle.pylex_lexeme.proofs.Callers.Lexemes.{at_one}
use Rattle.pytoken.specs.declared.faults.TokenError.{TokenError}
use Rattle.pytoken.specs.declared.faults.TokenError.TheVariants as errors
use Rattle.pytoken.specs.declared.meanings.Meaning.{Meaning}
use Rattle.pytoken.specs.Escapes.{reading, meanings_after, meanings, points_in, is_named_escape, is_bad_escape, escape_fault}
use Rattle.pytoken.specs.Laws.{is_point, is_byte}
use Rattle.pytoken.proofs.Callers.Bodies.{body_all, filter_all}
use Rattle.pytoken.proofs.Callers.Said.{points_small}
use Rattle.pytoken.specs.StringValues.{is_unicode, with_line_feeds, points_of, value_of, string_value, string_fault, is_quote}
use Rattle.pytoken.specs.StringValues.{prefix_len_of}
use Rattle.pytoken.specs.StringValues.{is_marked, is_raw, is_bytes, is_formatted, body_of, without_last, nul_fault, literal_fault}
use Rattle.pytoken.specs.Inner.Readings.{first_meaning, after_meaning}

later : (raw bytes : Bool) (n : ℕ) (cs : List ℕ) → meanings_after raw bytes n cs ≡ meanings_after raw bytes 0 (drop n cs)
later raw bytes zero cs = refl
later raw bytes (suc n) [] = refl
later raw bytes (suc n) (c ∷ cs) = later raw bytes n cs

pub meanings_step : (raw bytes : Bool) (t : List ℕ) (m : Meaning) → first_meaning raw bytes t ≡ Some m →
    meanings raw bytes t ≡ m ∷ meanings raw bytes (after_meaning raw bytes t)
unfolding meanings
meanings_step raw bytes [] m e = absurd (cc)
meanings_step raw bytes (c ∷ cs) m e =
    let is : (reading raw bytes c cs).meaning ≡ m = cc in
    ap₂ (λ (x : Meaning) (xs : List Meaning). x ∷ xs) is (later raw bytes (reading raw bytes c cs).more cs)

pub meanings_end : (raw bytes : Bool) (t : List ℕ) → first_meaning raw bytes t ≡ None → meanings raw bytes t ≡ []
unfolding meanings
meanings_end raw bytes [] e = refl
meanings_end raw bytes (c ∷ cs) e = absurd (cc)

pub shorter : (raw bytes : Bool) (t new : List ℕ) (m : Meaning) → first_meaning raw bytes t ≡ Some m → new ≡ after_meaning raw bytes t →
    length new < length t
shorter raw bytes [] new m e cut = absurd (cc)
shorter raw bytes (c ∷ cs) new m e cut = omega (arith, ap length cut, length-drop (reading raw bytes c cs).more cs)

-- the points so far, and those to come
pub points_on : (raw bytes : Bool) (t new : List ℕ) (m : Meaning) (out more whole : List ℕ) → first_meaning raw bytes t ≡ Some m →
    new ≡ after_meaning raw bytes t → more ≡ out ++ points_in m
    → out ++ flat_map points_in (meanings raw bytes t) ≡ whole → more ++ flat_map points_in (meanings raw bytes new) ≡ whole
points_on raw bytes t new m out more whole e cut grown so_far =
    ap₂ (λ (xs ys : List ℕ). xs ++ flat_map points_in (meanings raw bytes ys)) grown cut
    ∙ append_assoc out (points_in m) (flat_map points_in (meanings raw bytes (after_meaning raw bytes t)))
    ∙ sym (ap (λ (ms : List Meaning). out ++ flat_map points_in ms) (meanings_step raw bytes t m e)) ∙ so_far

pub points_end : (raw bytes : Bool) (t out whole : List ℕ) → first_meaning raw bytes t ≡ None →
    out ++ flat_map points_in (meanings raw bytes t) ≡ whole → out ≡ whole
points_end raw bytes t out whole e so_far =
    sym (append-nil out) ∙ sym (ap (λ (ms : List Meaning). out ++ flat_map points_in ms) (meanings_end raw bytes t e)) ∙ so_far

-- whether some meaning passes a test
pub any_on : (p : Meaning → Bool) (raw bytes : Bool) (t new : List ℕ) (m : Meaning) (b whole : Bool) → first_meaning raw bytes t ≡ Some m →
    new ≡ after_meaning raw bytes t
    → (b || list_any p (meanings raw bytes t)) ≡ whole → ((b || p m) || list_any p (meanings raw bytes new)) ≡ whole
any_on p raw bytes t new m b whole e cut so_far =
    let step = ap (list_any p) (meanings_step raw bytes t m e) in
    let same = ap (λ (u : List ℕ). list_any p (meanings raw bytes u)) cut in
    or_assoc b (p m) (list_any p (meanings raw bytes new)) ∙ ap (λ (x : Bool). b || (p m || x)) same
    ∙ sym (ap (λ (x : Bool). b || x) step) ∙ so_far
  where
    or_assoc : (x y z : Bool) → ((x || y) || z) ≡ (x || (y || z))
    or_assoc true y z = refl
    or_assoc false y z = refl

-- the prefix

abbrev pub after_prefix : List ℕ → List ℕ
after_prefix t = drop (prefix_len_of t) t

pub prefix_more : (t new : List ℕ) (c : ℕ) → slice_get t 0 ≡ Some c → is_quote c ≡ false → new ≡ drop 1 t
    → after_prefix new ≡ after_prefix t
prefix_more t new c e other cut =
    let whole = at_one t c e in
    let size : 1 + prefix_len_of (drop 1 t) ≡ suc (prefix_len_of (drop 1 t)) = omega arith in
    ap after_prefix cut ∙ sym (ap after_prefix whole ∙ (rw (other, size) refl))

pub prefix_stops : (t : List ℕ) (c : ℕ) → slice_get t 0 ≡ Some c → is_quote c ≡ true → after_prefix t ≡ t
prefix_stops t c e quote = let whole = at_one t c e in ap after_prefix whole ∙ (rw quote refl) ∙ sym whole

pub prefix_ends : (t : List ℕ) → slice_get t 0 ≡ None → after_prefix t ≡ t
prefix_ends [] e = refl
prefix_ends (c ∷ t) e = absurd (cc)

pub without_one_more : (k : ℕ) (t : List ℕ) → without_last 1 (without_last k t) ≡ without_last (k + 1) t
without_one_more k t =
    let size : length (take (length t - k) t) - 1 ≡ length t - (k + 1) = omega (arith, length-take (length t - k) t) in
    ap (λ (n : ℕ). take n (take (length t - k) t)) size ∙ take-take (length t - (k + 1)) (length t - k) t (omega arith)

pub without_none : (t : List ℕ) → without_last 0 t ≡ t
without_none t = take_all (length t - 0) t (omega arith)

pub mark_on : (a b c : ℕ) (t new : List ℕ) → slice_get t 0 ≡ Some c → is_quote c ≡ false → ((c == a) || (c == b)) ≡ false → new ≡ drop 1 t →
    is_marked a b new ≡ is_marked a b t
mark_on a b c t new e other neither cut =
    let whole = at_one t c e in
    let size : 1 + prefix_len_of (drop 1 t) ≡ suc (prefix_len_of (drop 1 t)) = omega arith in
    ap (is_marked a b) cut ∙ sym (ap (is_marked a b) whole ∙ (rw (other, size, neither) refl))

-- the meanings of a literal, from what the code has found of it
pub same_meanings : (t literal body : List ℕ) (raw bytes : Bool) → literal ≡ t → raw ≡ is_raw literal → bytes ≡ is_bytes literal →
    body ≡ body_of literal → meanings raw bytes body ≡ meanings (is_raw t) (is_bytes t) (body_of t)
same_meanings t literal body raw bytes is r b inner = rw (r, b, inner, is) refl

-- the first fault of the escapes

pub fault_named : (ms : List Meaning) → list_any is_named_escape ms ≡ true → escape_fault ms ≡ Some errors.NamedEscape
unfolding escape_fault
fault_named ms named = rw named refl

pub fault_bad : (ms : List Meaning) → list_any is_named_escape ms ≡ false → list_any is_bad_escape ms ≡ true
    → escape_fault ms ≡ Some errors.BadEscape
unfolding escape_fault
fault_bad ms named bad = rw (named, bad) refl

pub fault_none : (ms : List Meaning) → list_any is_named_escape ms ≡ false → list_any is_bad_escape ms ≡ false → escape_fault ms ≡ None
unfolding escape_fault
fault_none ms named bad = rw (named, bad) refl

pub any_end : (p : Meaning → Bool) (raw bytes : Bool) (t : List ℕ) (b whole : Bool) → first_meaning raw bytes t ≡ None →
    (b || list_any p (meanings raw bytes t)) ≡ whole → b ≡ whole
any_end p raw bytes t b whole e so_far = sym (or-false b)
    ∙ sym (ap (λ (ms : List Meaning). b || list_any p ms) (meanings_end raw bytes t e)) ∙ so_far

-- the first fault of a literal

abbrev ms_of : List ℕ → List Meaning
ms_of t = meanings (is_raw t) (is_bytes t) (body_of t)

pub literal_formatted : (t : List ℕ) → is_formatted t ≡ true → literal_fault t ≡ Some errors.FString
unfolding literal_fault
literal_formatted t f = rw f refl

pub literal_escape : (t : List ℕ) (e : TokenError) → is_formatted t ≡ false → escape_fault (ms_of t) ≡ Some e → literal_fault t ≡ Some e
unfolding literal_fault
literal_escape t e f escape = rw (f, escape) refl

pub literal_high : (t : List ℕ) → is_formatted t ≡ false → escape_fault (ms_of t) ≡ None → (is_bytes t && list_any (nat_lt 0x7F) t) ≡ true →
    literal_fault t ≡ Some errors.NonAsciiBytes
unfolding literal_fault
literal_high t f escape high = rw (f, escape, high) refl

pub literal_nul : (t : List ℕ) → is_formatted t ≡ false → escape_fault (ms_of t) ≡ None → (is_bytes t && list_any (nat_lt 0x7F) t) ≡ false →
    list_any (λ c. c == 0) t ≡ true → literal_fault t ≡ Some errors.Nul
unfolding literal_fault nul_fault
literal_nul t f escape low nul = rw (f, escape, low, nul) refl

pub literal_sound : (t : List ℕ) → is_formatted t ≡ false → escape_fault (ms_of t) ≡ None
    → (is_bytes t && list_any (nat_lt 0x7F) t) ≡ false →
    list_any (λ c. c == 0) t ≡ false → literal_fault t ≡ None
unfolding literal_fault nul_fault
literal_sound t f escape low none = rw (f, escape, low, none) refl

-- what all points of a text pass, the next ones do, and those after
pub parts_on : (p : ℕ → Bool) (raw bytes : Bool) (t new : List ℕ) (m : Meaning) → first_meaning raw bytes t ≡ Some m →
    new ≡ after_meaning raw bytes t
    → list_all p (flat_map points_in (meanings raw bytes t)) ≡ true →
    (list_all p (points_in m) ≡ true) × (list_all p (flat_map points_in (meanings raw bytes new)) ≡ true)
parts_on p raw bytes t new m e cut all =
    let rest = flat_map points_in (meanings raw bytes (after_meaning raw bytes t)) in
    let step = ap (λ (ms : List Meaning). list_all p (flat_map points_in ms)) (meanings_step raw bytes t m e)
    ∙ list_all-append p (points_in m) rest in
    let parts = and_parts (list_all p (points_in m)) (list_all p rest) (sym step ∙ all) in
    (parts.0, ap (λ (u : List ℕ). list_all p (flat_map points_in (meanings raw bytes u))) cut ∙ parts.1)

-- What a literal stands for

same_points : (t literal body : List ℕ) (raw bytes : Bool) → literal ≡ t → raw ≡ is_raw literal → bytes ≡ is_bytes literal
    → body ≡ body_of literal
    → flat_map points_in (meanings raw bytes body) ≡ points_of t
unfolding points_of
same_points t literal body raw bytes is r b inner =
    ap (λ (ms : List Meaning). flat_map points_in ms) (same_meanings t literal body raw bytes is r b inner)

value_of_bytes : (t : List ℕ) → is_bytes t ≡ true → value_of t ≡ Bytes (points_of t)
unfolding value_of
value_of_bytes t bytes = rw bytes refl

value_of_text : (t : List ℕ) → is_bytes t ≡ false → value_of t ≡ Str (points_of t) (is_unicode t)
unfolding value_of
value_of_text t text = rw text refl

pub bytes_value : (t literal body bs : List ℕ) (raw : Bool) → literal ≡ with_line_feeds t → raw ≡ is_raw literal → true ≡ is_bytes literal →
    body ≡ body_of literal
    → (list_all is_byte (flat_map points_in (meanings raw true body)) ≡ true → bs ≡ flat_map points_in (meanings raw true body)) →
    string_fault t ≡ None → Bytes bs ≡ string_value t
unfolding string_value string_fault
bytes_value t literal body bs raw is r b inner made sound =
    let u = with_line_feeds t in
    let same = same_points u literal body raw true is r b inner in
    let marked : is_bytes u ≡ true = sym (b ∙ ap is_bytes is) in
    let small = subst (λ (xs : List ℕ). list_all is_byte xs ≡ true) (sym same) (points_small u marked sound) in
    ap (λ (xs : List ℕ). Bytes xs) (made small ∙ same) ∙ sym (value_of_bytes u marked)

pub text_value : (t literal body points : List ℕ) (raw unicode : Bool) → literal ≡ with_line_feeds t → raw ≡ is_raw literal →
    false ≡ is_bytes literal → body ≡ body_of literal
    → unicode ≡ is_unicode literal → points ≡ flat_map points_in (meanings raw false body) → Str points unicode ≡ string_value t
unfolding string_value
text_value t literal body points raw unicode is r b inner u made =
    let own = with_line_feeds t in
    let same = same_points own literal body raw false is r b inner in
    let plain : is_bytes own ≡ false = sym (b ∙ ap is_bytes is) in
    ap₂ (λ (xs : List ℕ) (k : Bool). Str xs k) (made ∙ same) (u ∙ ap is_unicode is) ∙ sym (value_of_text own plain)

-- the characters of a body are code points

all_points : (cs : List ℕ) → all_scalars cs ≡ true → list_all is_point cs ≡ true
all_points [] h = refl
all_points (c ∷ cs) h =
    let parts = and_parts (scalar c) (all_scalars cs) h in
    and_from (is_point c) (list_all is_point cs) (grind (arith, nat_tests, parts.0)) (all_points cs parts.1)

pub text_points : (bs cs : List ℕ) → IsUtf8 bs → cs ≡ with_line_feeds (chars bs) → list_all is_point cs ≡ true
text_points bs cs utf8 is =
    ap (list_all is_point) is ∙ filter_all is_point (λ c. not (c == 13)) (chars bs) (all_points (chars bs) (scalars-chars bs utf8))

pub body_points : (bs literal body : List ℕ) → IsUtf8 bs → literal ≡ with_line_feeds (chars bs) → body ≡ body_of literal →
    list_all is_point body ≡ true
body_points bs literal body utf8 is inner =
    let own = with_line_feeds (chars bs) in
    ap (list_all is_point) (inner ∙ ap body_of is) ∙ body_all is_point own (text_points bs own utf8 refl)
