-- Carries: Indents::take, tokens_of. On: the first mixed line, after more lines.
use Rattle.std.proofs.Common.{◌≡◌, ℕ, zero, suc, ◌<◌, true, false, List, [], ◌∷◌, ◌++◌, ◌+◌, ◌-◌, ◌≤◌, length, take, drop, refl, sym}
use Rattle.std.proofs.Common.{ap, ap₂, subst, ◌∙◌}
use Rattle.std.proofs.Common.{arith, length-append, length-take, take-append-drop, Option, Some, None, append_assoc, append-nil}
use Rattle.pysource.specs.declared.places.Place.{Place}
use Rattle.std.specs.Char.{encode_utf8}
use Rattle.std.specs.Str.{chars, encode_utf8_all, IsUtf8, IsCharBoundary}
use Rattle.std.proofs.lemmas.Bool.Decides.{nat_tests}
use Rattle.std.proofs.lemmas.List.{length-replicate}
use Rattle.std.proofs.lemmas.List.Sums.{take_while-cons}
use Rattle.std.proofs.lemmas.Str.{encode_ascii, encodes-chars, IsCharBoundary-at_seam}
use Rattle.pylex_lexeme.specs.Chars.{is_blank_char}
use Rattle.pylex_listing.specs.Indentation.{width_from}
use Rattle.pylex_listing.specs.Margins.{blanks_of, width_by_one, widths_of}
use Rattle.pyparse_tokens.proofs.TextLemmas.{past, no_chars}
use Rattle.std.specs.Prelude.{replicate}
use Rattle.std.specs.Option.{is_some, option_or}
use Rattle.std.specs.List.{list_any}
use Rattle.pylex_listing.specs.declared.margins.Widths.{Widths}
use Rattle.pylex.proofs.Callers.{spaces_utf8, spaces_chars, after_spaces}
use Rattle.pytoken.specs.declared.refusals.Refusal.{Refusal}
use Rattle.pytoken.specs.declared.refusals.Refusal.TheVariants.{MixedTabs}
use Rattle.pytoken.specs.Inner.Following.{following}
use Rattle.pytoken.specs.Indentation.{Margin, following_offset, margin_at, is_mixed}
use Rattle.pytoken.specs.Refusals.{margin_refusal, first_mixed}
use Rattle.pytoken.proofs.Callers.OnePass.{after_on, mixed_on}
use Rattle.pyparse_tokens.specs.declared.indents.Indents.{Indents}
use Rattle.pyparse_tokens.specs.Inner.Indenting.{is_logical_at, start_at, AreSpaces, begins_blank, are_rising, narrower, Drops}
use Rattle.pyparse_tokens.specs.Inner.Indenting.{Measures, Measured}
use Rattle.pyparse_tokens.proofs.RisingLemmas.{mixed_is, stands_on}

-- After more lines

pub measures : (ms more : List Margin) (old new : Indents) → Measured ms old → Measures more old new → Measured (ms ++ more) new
measures ms more old new had gains = gains ms had

pub none_measured : (i : Indents) → i.standing.items ≡ [] → i.mixed ≡ None → Measured [] i
none_measured i standing mixed = record {
  mixed = mixed;
  standing = λ none. record { rising = ap are_rising standing; same = λ p. ap (list_any p) standing };
}

-- no line was taken
pub takes_none : (text : List ℕ) (o : ℕ) (i : Indents) → is_logical_at text o ≡ false → Measures (margin_at text o) i i
takes_none text o i other ms had =
    let none : margin_at text o ≡ [] = rw other refl in
    subst (λ (ls : List Margin). Measured ls i) (sym (ap (λ (ls : List Margin). ms ++ ls) none ∙ append-nil ms)) had

some_of : (o : Option Refusal) → is_some o ≡ true → (r : Refusal) × (o ≡ Some r)
some_of (Some r) h = (r, refl)
some_of None h = absurd cc

none_some : (o : Option Refusal) (r : Refusal) → o ≡ Some r → o ≡ None → ⊥
none_some o r is none = absurd cc

-- after a mixed line none counts
pub takes_after : (more : List Margin) (i : Indents) → is_some i.mixed ≡ true → Measures more i i
takes_after more i is ms had =
    let told = some_of i.mixed is in
    let first : first_mixed [] ms ≡ Some told.0 = sym had.mixed ∙ told.1 in
    record {
      mixed = told.1 ∙ sym (mixed_on [] ms more ∙ ap (λ (r : Option Refusal). option_or r (first_mixed (following [] ms) more)) first);
      standing = λ none. absurd (none_some i.mixed told.0 told.1 none);
    }

abbrev margin : Widths → Place → Margin
margin w p = record { widths = w; start = p }

one_more : (text : List ℕ) (o : ℕ) → is_logical_at text o ≡ true
    → margin_at text o ≡ margin (widths_of (following_offset text o)) (start_at text o) ∷ []
one_more text o logical = rw logical refl

-- the first mixed line among some and one more
mixed_one : (ms : List Margin) (m : Margin) → first_mixed [] ms ≡ None → first_mixed [] (ms ++ m ∷ []) ≡ margin_refusal (following [] ms) m
mixed_one ms m none = mixed_on [] ms (m ∷ []) ∙ (rw none (or_none (margin_refusal (following [] ms) m)))
  where
    or_none : (r : Option Refusal) → option_or r None ≡ r
    or_none (Some x) = refl
    or_none None = refl

-- a mixed line was taken
pub takes_mixed : (text : List ℕ) (o : ℕ) (w : Widths) (old new : Indents) → is_logical_at text o ≡ true
    → w ≡ widths_of (following_offset text o)
    → old.mixed ≡ None → (are_rising old.standing.items ≡ true → Drops old.standing.items new.standing.items w true)
    → new.mixed ≡ Some (MixedTabs (start_at text o)) → Measures (margin_at text o) old new
takes_mixed text o w old new logical is none drops mixed ms had =
    let m = margin w (start_at text o) in
    let stood = had.standing none in
    let met : is_mixed (following [] ms) m ≡ true = sym (mixed_is (following [] ms) old.standing.items m stood.same)
    ∙ sym (drops stood.rising).clash in
    let whole : margin_at text o ≡ m ∷ [] = one_more text o logical ∙ ap (λ (v : Widths). margin v (start_at text o) ∷ []) (sym is) in
    subst (λ (ls : List Margin). Measured (ms ++ ls) new) (sym whole) (record {
      mixed = mixed ∙ sym (mixed_one ms m (sym had.mixed ∙ none) ∙ (rw met refl));
      standing = λ free. absurd (none_some new.mixed (MixedTabs (start_at text o)) mixed free);
    })

-- a line that isn't mixed was taken
pub takes_line : (text : List ℕ) (o : ℕ) (w : Widths) (dropped : List Widths) (old new : Indents) → is_logical_at text o ≡ true
    → w ≡ widths_of (following_offset text o) → old.mixed ≡ None
    → (are_rising old.standing.items ≡ true → Drops old.standing.items dropped w false)
    → new.standing.items ≡ dropped ++ w ∷ [] → new.mixed ≡ None → Measures (margin_at text o) old new
takes_line text o w dropped old new logical is none drops standing mixed ms had =
    let m = margin w (start_at text o) in
    let stood = had.standing none in
    let done = drops stood.rising in
    let free : is_mixed (following [] ms) m ≡ false = sym (mixed_is (following [] ms) old.standing.items m stood.same) ∙ sym done.clash in
    let whole : margin_at text o ≡ m ∷ [] = one_more text o logical ∙ ap (λ (v : Widths). margin v (start_at text o) ∷ []) (sym is) in
    let items : new.standing.items ≡ narrower old.standing.items w ++ w ∷ [] = standing
    ∙ ap (λ (vs : List Widths). vs ++ w ∷ []) (done.kept refl) in
    let order : following [] (ms ++ m ∷ []) ≡ m ∷ following [] ms = after_on [] ms m in
    subst (λ (ls : List Margin). Measured (ms ++ ls) new) (sym whole) (record {
      mixed = mixed ∙ sym (mixed_one ms m (sym had.mixed ∙ none) ∙ (rw free refl));
      standing = λ still.
          rw (order, items) (stands_on (following [] ms) old.standing.items m stood (sym done.clash));
    })

-- Blanks at the front of a text

blank_low : (c : ℕ) → is_blank_char c ≡ true → c < 128
blank_low c blank = grind (arith, nat_tests)

-- some blanks were passed at the front of a text
pub record Passed (start now : List ℕ) : Type 0 where
  pub front : List ℕ
  pub cut : start ≡ front ++ now
  pub blanks : blanks_of (chars start) ≡ front ++ blanks_of (chars now)
  pub rest : drop (length (blanks_of (chars start))) (chars start) ≡ drop (length (blanks_of (chars now))) (chars now)
  pub utf8 : IsUtf8 now

pub none_passed : (bs : List ℕ) → IsUtf8 bs → Passed bs bs
none_passed bs utf8 = record { front = []; cut = refl; blanks = refl; rest = refl; utf8 = utf8 }

pub passes_on : (start now left : List ℕ) (c : ℕ) → Passed start now → now ≡ encode_utf8 c ++ left
    → is_blank_char c ≡ true → Passed start left
passes_on start now left c had cut blank =
    let one : encode_utf8 c ≡ c ∷ [] = encode_ascii c (blank_low c blank) in
    let s = past now left c had.utf8 cut in
    let more : blanks_of (chars now) ≡ c ∷ blanks_of (chars left) = ap blanks_of s.same ∙ take_while-cons is_blank_char c (chars left)
    ∙ (rw blank refl) in
    record {
      front = had.front ++ c ∷ [];
      cut = had.cut ∙ ap (λ (t : List ℕ). had.front ++ t) (cut ∙ ap (λ (t : List ℕ). t ++ left) one)
          ∙ sym (append_assoc had.front (c ∷ []) left);
      blanks = had.blanks ∙ ap (λ (t : List ℕ). had.front ++ t) more ∙ sym (append_assoc had.front (c ∷ []) (blanks_of (chars left)));
      rest = had.rest ∙ ap₂ (λ (b t : List ℕ). drop (length b) t) more s.same;
      utf8 = s.utf8;
    }

stopped : (start now : List ℕ) → Passed start now → blanks_of (chars now) ≡ [] →
    (start ≡ blanks_of (chars start) ++ now) × (chars now ≡ drop (length (blanks_of (chars start))) (chars start))
stopped start now had none =
    let front : blanks_of (chars start) ≡ had.front = had.blanks ∙ ap (λ (t : List ℕ). had.front ++ t) none ∙ append-nil had.front in
    (had.cut ∙ ap (λ (t : List ℕ). t ++ now) (sym front), sym (had.rest ∙ ap (λ (t : List ℕ). drop (length t) (chars now)) none))

pub stops_at : (start now left : List ℕ) (c : ℕ) → Passed start now → now ≡ encode_utf8 c ++ left → is_blank_char c ≡ false
    → (start ≡ blanks_of (chars start) ++ now) × (chars now ≡ drop (length (blanks_of (chars start))) (chars start))
stops_at start now left c had cut other =
    let s = past now left c had.utf8 cut in
    stopped start now had (ap blanks_of s.same ∙ take_while-cons is_blank_char c (chars left) ∙ (rw other refl))

pub stops_at_end : (start now : List ℕ) → Passed start now → length now ≡ 0 →
    (start ≡ blanks_of (chars start) ++ now) × (chars now ≡ drop (length (blanks_of (chars start))) (chars start))
stops_at_end start now had none = stopped start now had (ap blanks_of (no_chars now none))

-- Spaces at the front of a text

spaces_blanks : (n : ℕ) (cs : List ℕ) → begins_blank cs ≡ false → blanks_of (replicate n 32 ++ cs) ≡ replicate n 32
spaces_blanks zero [] other = refl
spaces_blanks zero (c ∷ cs) other = take_while-cons is_blank_char c cs ∙ (rw other refl)
spaces_blanks (suc n) cs other =
    take_while-cons is_blank_char 32 (replicate n 32 ++ cs) ∙ ap (λ (t : List ℕ). 32 ∷ t) (spaces_blanks n cs other)

eight_spaces : (m n : ℕ) → width_from m (replicate n 32) ≡ m + n
unfolding width_from
eight_spaces m zero = omega arith
eight_spaces m (suc n) = eight_spaces (m + 1) n ∙ omega arith

one_spaces : (m n : ℕ) → width_by_one m (replicate n 32) ≡ m + n
unfolding width_by_one
one_spaces m zero = omega arith
one_spaces m (suc n) = one_spaces (m + 1) n ∙ omega arith

abbrev pub widths_by : ℕ → ℕ → Widths
widths_by eight one = record { eight = eight; one = one }

-- a text that begins with so many spaces
pub record Spaced (bs : List ℕ) (n : ℕ) : Type 0 where
  pub boundary : IsCharBoundary bs n
  pub widths : begins_blank (chars (drop n bs)) ≡ false → widths_by n n ≡ widths_of (chars bs)
  pub rest : begins_blank (chars (drop n bs)) ≡ false → drop (length (blanks_of (chars bs))) (chars bs) ≡ chars (drop n bs)

pub spaced : (bs : List ℕ) (n : ℕ) → IsUtf8 bs → AreSpaces bs n → Spaced bs n
spaced bs n utf8 is =
    let following = drop n bs in
    let whole : replicate n 32 ++ following ≡ bs = ap (λ (t : List ℕ). t ++ following) (sym is.spaces) ∙ take-append-drop n bs in
    let split : IsUtf8 (replicate n 32 ++ following) = subst IsUtf8 (sym whole) utf8 in
    let same : chars bs ≡ replicate n 32 ++ chars following = ap chars (sym whole) ∙ spaces_chars n following split in
    let blanks : begins_blank (chars following) ≡ false → blanks_of (chars bs) ≡ replicate n 32 =
    λ other. ap blanks_of same ∙ spaces_blanks n (chars following) other in
    let none : 0 + n ≡ n = omega arith in
    record {
      boundary =
          subst (IsCharBoundary bs) (length-replicate n 32)
          (IsCharBoundary-at_seam bs (replicate n 32) following (sym whole) (spaces_utf8 n following split));
      widths = λ other.
          sym (ap₂ widths_by (ap (width_from 0) (blanks other) ∙ eight_spaces 0 n ∙ none) (ap (width_by_one 0) (blanks other)
          ∙ one_spaces 0 n ∙ none));
      rest = λ other.
          ap₂ (λ (b t : List ℕ). drop (length b) t) (blanks other) same
          ∙ ap (λ (k : ℕ). drop k (replicate n 32 ++ chars following)) (length-replicate n 32) ∙ after_spaces n (chars following);
    }

-- The line that begins at an offset

-- it, by the text's bytes
pub line_of : (bs source : List ℕ) (o : ℕ) → IsUtf8 bs → bs ≡ source → chars (drop o bs) ≡ following_offset (chars source) o
line_of bs source o utf8 is = ap (λ (t : List ℕ). chars (drop o t)) (sym (encodes-chars bs utf8))
    ∙ ap (λ (t : List ℕ). following_offset (chars t) o) is

pub whole_of : (bs source : List ℕ) → IsUtf8 bs → bs ≡ source → bs ≡ encode_utf8_all (chars source)
whole_of bs source utf8 is = sym (encodes-chars bs utf8) ∙ ap (λ (t : List ℕ). encode_utf8_all (chars t)) is

-- where some bytes end that stand after an offset
pub record Seam (bs following : List ℕ) (place : ℕ) : Type 0 where
  pub boundary : IsCharBoundary bs (length bs - length following)
  pub at : length bs - length following ≡ place

pub seam : (bs line front following : List ℕ) (o : ℕ) → o ≤ length bs → line ≡ drop o bs → line ≡ front ++ following → IsUtf8 following →
    Seam bs following (o + length front)
seam bs line front following o within is cut utf8 =
    let before = take o bs ++ front in
    let whole : bs ≡ before ++ following =
    sym (take-append-drop o bs) ∙ ap (λ (t : List ℕ). take o bs ++ t) (sym is ∙ cut) ∙ sym (append_assoc (take o bs) front following) in
    let size : length before ≡ o + length front = omega (arith, length-append (take o bs) front, length-take o bs, within) in
    let place : length bs - length following ≡ length before = omega (arith, ap length whole, length-append before following) in
    record {
      boundary = subst (IsCharBoundary bs) (sym place) (IsCharBoundary-at_seam bs before following whole utf8);
      at = place ∙ size;
    }
