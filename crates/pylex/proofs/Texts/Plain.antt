-- Text in ASCII without LF: its bytes are characters of one line.
--
-- Carries: after_plain, lead_of_chars, lead_of_plain, walk, width_after.
use Rattle.std.proofs.Common.{◌≡◌, ◌≢◌, ℕ, zero, suc, ◌+◌, ◌<◌, ◌≤◌, false, ◌==◌, List, [], ◌∷◌, length, refl, ap, ◌∙◌, sym, subst, arith}
use Rattle.std.proofs.Common.{get_or, ⊎_elim}
use Rattle.std.specs.Str.{chars, IsAscii}
use Rattle.std.proofs.lemmas.Str.{chars-IsAscii}
use Rattle.std.proofs.lemmas.Bool.Decides.{nat_tests}
use Rattle.std.proofs.lemmas.Bool.{cases_lt}
use Rattle.pylex_lexeme.specs.Characters.{hash}
use Rattle.pylex_lexeme.specs.Chars.{is_blank_char}
use Rattle.pysource.specs.declared.places.Place.{Place}
use Rattle.pylex_listing.specs.declared.leading_char.LeadingChar.{LeadingChar}
use Rattle.pylex_listing.specs.declared.leading_char.LeadingChar.TheVariants.{Nothing, Hash, Other}
use Rattle.pylex_listing.specs.Machine.{place_past, lead_after}
use Rattle.std.specs.Prelude.{slice_index}
use Rattle.pylex_listing.specs.Indentation.{width_from}
use Rattle.pylex.specs.Inner.Plain.{AreSpaces, IsPlain}

-- no character is an LF
abbrev pub AllInLine : List ℕ → Type 0
AllInLine [] = Unit {0}
AllInLine (c ∷ cs) = ((c == 10) ≡ false) × AllInLine cs

pub plain_ascii : (bs : List ℕ) → IsPlain bs → IsAscii bs
plain_ascii bs p i = ⊎_elim (λ (h : i < length bs). (p i h).0) (λ (h : length bs ≤ i). past_end bs i h) (cases_lt i (length bs))
  where
    past_end : (cs : List ℕ) (k : ℕ) → length cs ≤ k → get_or cs k 0 < 128
    past_end [] k h = omega arith
    past_end (c ∷ cs) zero h = absurd (omega (arith, h))
    past_end (c ∷ cs) (suc k) h = past_end cs k (omega (arith, h))

pub plain_chars : (bs : List ℕ) → IsPlain bs → chars bs ≡ bs
plain_chars bs p = chars-IsAscii bs (plain_ascii bs p)

in_line : (bs : List ℕ) → IsPlain bs → AllInLine bs
in_line [] p = tt
in_line (b ∷ bs) p = (no_feed b (p 0 (omega arith)).1, in_line bs (λ k h. p (suc k) (omega (arith, h))))
  where
    no_feed : (c : ℕ) → c ≢ 10 → (c == 10) ≡ false
    no_feed c n = grind (arith, nat_tests)

pub plain_in_line : (bs : List ℕ) → IsPlain bs → AllInLine (chars bs)
plain_in_line bs p = subst AllInLine (sym (plain_chars bs p)) (in_line bs p)

pub advance_in_line : (p : Place) (cs : List ℕ) → AllInLine cs → place_past p cs ≡ record { row = p.row; column = p.column + length cs }
advance_in_line p [] a = let sum : p.column ≡ p.column + 0 = omega arith in ap (λ (n : ℕ). record { row = p.row; column = n }) sum
advance_in_line p (c ∷ cs) a =
    let e = a.0 in
    let sum : p.column + 1 + length cs ≡ p.column + suc (length cs) = omega arith in
    rw e (advance_in_line (record { row = p.row; column = p.column + 1 }) cs a.1 ∙ ap (λ (n : ℕ). record { row = p.row; column = n }) sum)

pub advance_plain : (p : Place) (bs : List ℕ) → IsPlain bs → place_past p (chars bs) ≡ record { row = p.row; column = p.column + length bs }
advance_plain p bs h = advance_in_line p (chars bs) (plain_in_line bs h)
    ∙ ap (λ (cs : List ℕ). record { row = p.row; column = p.column + length cs }) (plain_chars bs h)

-- what a line begins with stays so to its end
pub begun : (f : LeadingChar) (cs : List ℕ) → (f ≡ Nothing → ⊥) → AllInLine cs → lead_after f cs ≡ f
begun f [] n a = refl
begun Nothing (c ∷ cs) n a = absurd (n refl)
begun Hash (c ∷ cs) n a = let e = a.0 in rw e (begun Hash cs n a.1)
begun Other (c ∷ cs) n a = let e = a.0 in rw e (begun Other cs n a.1)

pub begun_plain : (f : LeadingChar) (bs : List ℕ) → (f ≡ Nothing → ⊥) → IsPlain bs → lead_after f (chars bs) ≡ f
begun_plain f bs n p = begun f (chars bs) n (plain_in_line bs p)

-- a character above `#` is neither that nor a blank
pub plain_above_hash : (bs : List ℕ) → IsPlain bs → 0 < length bs → hash < slice_index bs 0 → lead_after Nothing (chars bs) ≡ Other
plain_above_hash [] p some h = absurd (omega arith)
plain_above_hash (b ∷ bs) p some h =
    let in_lines = in_line (b ∷ bs) p in
    let feed = in_lines.0 in
    let blank : is_blank_char b ≡ false = grind (arith, nat_tests) in
    let number : (b == hash) ≡ false = grind (arith, nat_tests) in
    ap (lead_after Nothing) (plain_chars (b ∷ bs) p) ∙ rw (feed, blank, number) (begun Other bs (λ e. cc) in_lines.1)

-- one character off the front
pub in_line_past : (cs ds : List ℕ) (c : ℕ) → cs ≡ c ∷ ds → AllInLine cs → AllInLine ds
in_line_past cs ds c e a = (subst AllInLine e a).1

-- Spaces: a line that has begun with nothing goes on so, and each adds one to its width.
space_first : (b : ℕ) (bs : List ℕ) → AreSpaces (b ∷ bs) → b ≡ 32
space_first b bs p = p 0 (omega arith)

spaces_past : (b : ℕ) (bs : List ℕ) → AreSpaces (b ∷ bs) → AreSpaces bs
spaces_past b bs p k h = p (suc k) (omega (arith, h))

pub spaces_plain : (bs : List ℕ) → AreSpaces bs → IsPlain bs
spaces_plain bs p k h = let e = p k h in (omega (arith, e), λ (n : slice_index bs k ≡ 10). absurd (omega (arith, e, n)))

front_spaces : (bs : List ℕ) → AreSpaces bs → lead_after Nothing bs ≡ Nothing
front_spaces [] p = refl
front_spaces (b ∷ bs) p = let e = space_first b bs p in rw e (front_spaces bs (spaces_past b bs p))

width_spaces : (n : ℕ) (bs : List ℕ) → AreSpaces bs → width_from n bs ≡ n + length bs
unfolding width_from
width_spaces n [] p = omega arith
width_spaces n (b ∷ bs) p =
    let e = space_first b bs p in
    let sum : n + 1 + length bs ≡ n + suc (length bs) = omega arith in
    rw e (width_spaces (n + 1) bs (spaces_past b bs p) ∙ sum)

pub spaces_front : (bs : List ℕ) → AreSpaces bs → lead_after Nothing (chars bs) ≡ Nothing
spaces_front bs p = ap (lead_after Nothing) (plain_chars bs (spaces_plain bs p)) ∙ front_spaces bs p

pub spaces_width : (n : ℕ) (bs : List ℕ) → AreSpaces bs → width_from n (chars bs) ≡ n + length bs
spaces_width n bs p = ap (width_from n) (plain_chars bs (spaces_plain bs p)) ∙ width_spaces n bs p

-- whatever it has begun with
pub spaces_lead : (f : LeadingChar) (bs : List ℕ) → AreSpaces bs → lead_after f (chars bs) ≡ f
spaces_lead Nothing bs p = spaces_front bs p
spaces_lead Hash bs p = begun_plain Hash bs (λ e. cc) (spaces_plain bs p)
spaces_lead Other bs p = begun_plain Other bs (λ e. cc) (spaces_plain bs p)
