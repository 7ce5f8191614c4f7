-- Carries: is_calm, string_fault. On: a literal in which no character may be wrong.
use Rattle.std.proofs.Common.{◌≡◌, ℕ, zero, suc, ◌-◌, Bool, true, false, List, [], ◌∷◌, length, take, drop, refl, sym, ap, subst, ◌∙◌, inl}
use Rattle.std.proofs.Common.{inr, Option, Some, None}
use Rattle.std.specs.Prelude.{◌==◌, ◌||◌, ◌&&◌, not, nat_lt, if◌then◌else◌}
use Rattle.std.specs.Char.{is_digit}
use Rattle.std.specs.List.{list_any}
use Rattle.std.proofs.lemmas.Bool.{cases_Bool, and_from, and_parts, not-true, or_parts}
use Rattle.pylex_lexeme.specs.Strings.{begins_three}
use Rattle.pytoken.specs.declared.meanings.Meaning.{Meaning}
use Rattle.pytoken.specs.declared.meanings.Meaning.TheVariants.{Point, Nothing}
use Rattle.pytoken.specs.Escapes.{Reading, reads, reading, escaped_by, escape_point, meanings, meanings_after, is_named_escape}
use Rattle.pytoken.specs.Escapes.{is_bad_escape, escape_fault}
use Rattle.pytoken.specs.StringValues.{with_line_feeds, is_raw, is_bytes, is_formatted, prefix_len_of, body_of, string_fault}
use Rattle.pytoken.specs.Inner.Readings.{asks, is_doubtful, is_calm}
use Rattle.pytoken.proofs.values.LiteralLemmas.{fault_none, literal_sound}

-- what a character is that may not be wrong
record Sure (bytes following : Bool) (c : ℕ) : Type 0 where
  asks : (following && asks c) ≡ false
  low : (bytes && nat_lt 0x7F c) ≡ false
  nul : (c == 0) ≡ false
  return : (c == 13) ≡ false

sure : (bytes following : Bool) (c : ℕ) → not (is_doubtful bytes following c) ≡ true → Sure bytes following c
sure bytes following c is =
    let one = or_parts (following && asks c) ((bytes && nat_lt 0x7F c) || ((c == 0) || (c == 13)))
    (not-true (is_doubtful bytes following c) is) in
    let two = or_parts (bytes && nat_lt 0x7F c) ((c == 0) || (c == 13)) one.1 in
    let three = or_parts (c == 0) (c == 13) two.1 in
    record { asks = one.0; low = two.0; nul = three.0; return = three.1 }

-- the first character of a calm text, and those after it
record Parts (bytes following : Bool) (c : ℕ) (cs : List ℕ) : Type 0 where
  first : Sure bytes following c
  rest : is_calm bytes (c == 92) cs ≡ true

parts : (bytes following : Bool) (c : ℕ) (cs : List ℕ) → is_calm bytes following (c ∷ cs) ≡ true → Parts bytes following c cs
parts bytes following c cs calm =
    let both = and_parts (not (is_doubtful bytes following c)) (is_calm bytes (c == 92) cs) calm in
    record { first = sure bytes following c both.0; rest = both.1 }

-- one character off the front

pub calm_stops : (bytes following : Bool) (c : ℕ) (t u : List ℕ) → t ≡ c ∷ u → is_doubtful bytes following c ≡ true
    → is_calm bytes following t ≡ false
calm_stops bytes following c t u e doubt = ap (is_calm bytes following) e ∙ (rw doubt refl)

pub calm_goes : (bytes following : Bool) (c : ℕ) (t u : List ℕ) → t ≡ c ∷ u → is_doubtful bytes following c ≡ false →
    is_calm bytes (c == 92) u ≡ is_calm bytes following t
calm_goes bytes following c t u e sure = sym (ap (is_calm bytes following) e ∙ (rw sure refl))

-- a text that is calm after a backslash is calm elsewhere
fewer : (following : Bool) (bytes : Bool) (c : ℕ) → not (is_doubtful bytes following c) ≡ true → not (is_doubtful bytes false c) ≡ true
fewer false bytes c is = is
fewer true bytes c is =
    let rest = (or_parts (asks c) ((bytes && nat_lt 0x7F c) || ((c == 0) || (c == 13))) (not-true (is_doubtful bytes true c) is)).1 in
    rw rest refl

anywhere : (bytes following : Bool) (cs : List ℕ) → is_calm bytes following cs ≡ true → is_calm bytes false cs ≡ true
anywhere bytes following [] calm = refl
anywhere bytes following (c ∷ cs) calm =
    let both = and_parts (not (is_doubtful bytes following c)) (is_calm bytes (c == 92) cs) calm in
    and_from (not (is_doubtful bytes false c)) (is_calm bytes (c == 92) cs) (fewer following bytes c both.0) both.1

calm_drop : (bytes : Bool) (n : ℕ) (cs : List ℕ) → is_calm bytes false cs ≡ true → is_calm bytes false (drop n cs) ≡ true
calm_drop bytes zero cs calm = calm
calm_drop bytes (suc n) [] calm = refl
calm_drop bytes (suc n) (c ∷ cs) calm = calm_drop bytes n cs (anywhere bytes (c == 92) cs (parts bytes false c cs calm).rest)

calm_take : (bytes following : Bool) (n : ℕ) (cs : List ℕ) → is_calm bytes following cs ≡ true → is_calm bytes following (take n cs) ≡ true
calm_take bytes following zero cs calm = refl
calm_take bytes following (suc n) [] calm = refl
calm_take bytes following (suc n) (c ∷ cs) calm =
    let both = and_parts (not (is_doubtful bytes following c)) (is_calm bytes (c == 92) cs) calm in
    and_from (not (is_doubtful bytes following c)) (is_calm bytes (c == 92) (take n cs)) both.0 (calm_take bytes (c == 92) n cs both.1)

calm_body : (bytes : Bool) (t : List ℕ) → is_calm bytes false t ≡ true → is_calm bytes false (body_of t) ≡ true
calm_body bytes t calm =
    let opened = drop (prefix_len_of t) t in
    let width = if begins_three opened then 3 else 1 in
    calm_take bytes false (length (drop width opened) - width) (drop width opened)
    (calm_drop bytes width opened (calm_drop bytes (prefix_len_of t) t calm))

-- the meanings of a test that no meaning passes but a wrong one
record Told (p : Meaning → Bool) : Type 0 where
  point : (m : ℕ) → p (Point m) ≡ false
  nothing : p Nothing ≡ false

-- what a backslash stands for by the point of the letter after it
abbrev by_point : Option ℕ → Reading
by_point o = elim o [ Some q ↦ reads (Point q) 1 | None ↦ reads (Point 92) 0 ]

-- what a backslash stands for isn't wrong where the character after it doesn't ask
calm_letter : (p : Meaning → Bool) → Told p → (bytes : Bool) (c : ℕ) (cs : List ℕ) → is_digit c 8 ≡ false → (c == 120) ≡ false →
    (c == 117) ≡ false → (c == 85) ≡ false → (c == 78) ≡ false
    → p (escaped_by bytes (c ∷ cs)).meaning ≡ false
unfolding escaped_by
calm_letter p told bytes c cs digit x u w n = by bytes
  where
    last : (o : Option ℕ) → p (by_point o).meaning ≡ false
    last None = told.point 92
    last (Some q) = told.point q

    by : (b : Bool) → p (escaped_by b (c ∷ cs)).meaning ≡ false
    by true = elim (cases_Bool (c == 10)) [
      | inl feed ↦ rw feed told.nothing
      | inr other ↦ rw (other, digit, x) (last (escape_point c))
    ]
    by false = elim (cases_Bool (c == 10)) [
      | inl feed ↦ rw feed told.nothing
      | inr other ↦ rw (other, digit, x, u, w, n) (last (escape_point c))
    ]

calm_escape : (p : Meaning → Bool) → Told p → (bytes : Bool) (cs : List ℕ) → is_calm bytes true cs ≡ true
    → p (escaped_by bytes cs).meaning ≡ false
unfolding escaped_by
calm_escape p told bytes [] calm = told.point 92
calm_escape p told bytes (c ∷ cs) calm =
    let octal = or_parts (is_digit c 8) ((c == 120) || ((c == 117) || ((c == 85) || (c == 78)))) (parts bytes true c cs calm).first.asks in
    let x = or_parts (c == 120) ((c == 117) || ((c == 85) || (c == 78))) octal.1 in
    let u = or_parts (c == 117) ((c == 85) || (c == 78)) x.1 in
    let w = or_parts (c == 85) (c == 78) u.1 in
    calm_letter p told bytes c cs octal.0 x.0 u.0 w.0 w.1

calm_reading : (p : Meaning → Bool) → Told p → (raw bytes : Bool) (c : ℕ) (cs : List ℕ) → is_calm bytes (c == 92) cs ≡ true →
    p (reading raw bytes c cs).meaning ≡ false
calm_reading p told raw bytes c cs calm = elim (cases_Bool (not raw && (c == 92))) [
  | inl escape ↦
      rw escape (calm_escape p told bytes cs
      (subst (λ (b : Bool). is_calm bytes b cs ≡ true) (and_parts (not raw) (c == 92) escape).1 calm))
  | inr other ↦ rw other (told.point c)
]

calm_meanings : (p : Meaning → Bool) → Told p → (raw bytes : Bool) (n : ℕ) (cs : List ℕ) → is_calm bytes false cs ≡ true →
    list_any p (meanings_after raw bytes n cs) ≡ false
calm_meanings p told raw bytes n [] calm = refl
calm_meanings p told raw bytes (suc n) (c ∷ cs) calm =
    calm_meanings p told raw bytes n cs (anywhere bytes (c == 92) cs (parts bytes false c cs calm).rest)
calm_meanings p told raw bytes zero (c ∷ cs) calm =
    let rest = (parts bytes false c cs calm).rest in
    let here = calm_reading p told raw bytes c cs rest in
    rw here (calm_meanings p told raw bytes (reading raw bytes c cs).more cs (anywhere bytes (c == 92) cs rest))

calm_escapes : (raw bytes : Bool) (cs : List ℕ) → is_calm bytes false cs ≡ true → escape_fault (meanings raw bytes cs) ≡ None
unfolding meanings
calm_escapes raw bytes cs calm =
    fault_none (meanings_after raw bytes 0 cs)
    (calm_meanings is_named_escape (record { point = λ m. refl; nothing = refl }) raw bytes 0 cs calm)
    (calm_meanings is_bad_escape (record { point = λ m. refl; nothing = refl }) raw bytes 0 cs calm)

calm_low : (bytes following : Bool) (t : List ℕ) → is_calm bytes following t ≡ true → (bytes && list_any (nat_lt 0x7F) t) ≡ false
calm_low false following t calm = refl
calm_low true following [] calm = refl
calm_low true following (c ∷ cs) calm =
    let p = parts true following c cs calm in
    let low = p.first.low in
    rw low (calm_low true (c == 92) cs p.rest)

calm_nul : (bytes following : Bool) (t : List ℕ) → is_calm bytes following t ≡ true → list_any (λ c. c == 0) t ≡ false
calm_nul bytes following [] calm = refl
calm_nul bytes following (c ∷ cs) calm =
    let p = parts bytes following c cs calm in
    let nul = p.first.nul in
    rw nul (calm_nul bytes (c == 92) cs p.rest)

calm_feeds : (bytes following : Bool) (t : List ℕ) → is_calm bytes following t ≡ true → with_line_feeds t ≡ t
calm_feeds bytes following [] calm = refl
calm_feeds bytes following (c ∷ cs) calm =
    let p = parts bytes following c cs calm in
    let return = p.first.return in
    rw return (ap (λ (u : List ℕ). c ∷ u) (calm_feeds bytes (c == 92) cs p.rest))

pub calm_sound : (t : List ℕ) → is_calm (is_bytes (with_line_feeds t)) false t ≡ true
    → is_formatted (with_line_feeds t) ≡ false → string_fault t ≡ None
unfolding string_fault
calm_sound t calm f =
    let l = with_line_feeds t in
    let bytes = is_bytes l in
    let kept : is_calm bytes false l ≡ true = ap (is_calm bytes false) (calm_feeds bytes false t calm) ∙ calm in
    literal_sound l f (calm_escapes (is_raw l) bytes (body_of l) (calm_body bytes l kept)) (calm_low bytes false l kept)
    (calm_nul bytes false l kept)
