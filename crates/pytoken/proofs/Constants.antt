-- Carries: come_back. On: the reprs of texts and of bytes, which are read as what was written.
use Rattle.std.proofs.Common.{◌≡◌, ℕ, ◌-◌, ◌<◌, ◌≤◌, Bool, true, false, List, [], ◌∷◌, ◌++◌, length, get_or, drop, map, refl, sym, subst}
use Rattle.std.proofs.Common.{ap, ◌∙◌, inl, inr, true≢false, arith, length-append, append_assoc, None}
use Rattle.std.specs.Prelude.{◌==◌, ◌||◌, ◌&&◌, not, nat_lt, All, if◌then◌else◌}
use Rattle.std.specs.List.{flat_map, list_any, list_all}
use Rattle.std.proofs.lemmas.Bool.{and_parts, or_from, and_left, and_right, not-true, ne_eqb, le-ltb, ltb-false, both_ways, or_parts}
use Rattle.std.proofs.lemmas.List.{take_at}
use Rattle.std.proofs.lemmas.List.Folds.{list_any-append}
use Rattle.ucd_category.proofs.Computing.{ucd_category}
use Rattle.pysource.specs.Reprs.{escaped, quote_for, repr_chars, repr_bytes, is_unprintable, is_unprintable_byte}
use Rattle.pylex_lexeme.specs.Strings.{begins_three}
use Rattle.pylex_listing.specs.declared.kind.Kind.{Kind}
use Rattle.pylex_listing.specs.declared.kind.Kind.TheVariants as kinds
use Rattle.pytree_node.specs.Values.{Str, Bytes}
use Rattle.pytoken.specs.declared.meanings.Meaning.{Meaning}
use Rattle.pytoken.specs.declared.meanings.Meaning.TheVariants.{Point}
use Rattle.pytree_node.specs.declared.profiles.Extent.TheVariants.{Whole}
use Rattle.pytoken.specs.Escapes.{meanings, meanings_after, points_in, escape_fault, is_named_escape, is_bad_escape}
use Rattle.pytoken.specs.FormattedStrings.{is_fstring}
use Rattle.pytoken.specs.StringValues.{with_line_feeds, prefix_len_of, inside, body_of, points_of, value_of, string_value, literal_fault}
use Rattle.pytoken.specs.StringValues.{string_fault, nul_fault, is_bytes, is_unicode, is_raw, is_formatted}
use Rattle.pytoken.specs.Terminals.{Terminal, Literal, terminal_of, single_fault}
use Rattle.pytree_node.specs.Points.{IsPoint}
use Rattle.pytoken.proofs.ReadBack.{IsMark, Fits, Begins, begins, written, all_read_back, all_pass, written_begins}

-- Texts and bytes

-- what the front of a literal says, and what stands after its prefix
pub record Opened (bytes u : Bool) (t following : List ℕ) : Type 0 where
  pub raw : is_raw t ≡ false
  pub formatted : is_formatted t ≡ false
  pub of_bytes : is_bytes t ≡ bytes
  pub of_u : is_unicode t ≡ u
  pub literal : drop (prefix_len_of t) t ≡ following

text_opened : (q : ℕ) (rest : List ℕ) → IsMark q → Opened false false (q ∷ rest) (q ∷ rest)
text_opened q rest (inl is) = subst (λ (k : ℕ). Opened false false (k ∷ rest) (k ∷ rest)) (sym is)
    (record { raw = refl; formatted = refl; of_bytes = refl; of_u = refl; literal = refl })
text_opened q rest (inr is) = subst (λ (k : ℕ). Opened false false (k ∷ rest) (k ∷ rest)) (sym is)
    (record { raw = refl; formatted = refl; of_bytes = refl; of_u = refl; literal = refl })

u_opened : (q : ℕ) (rest : List ℕ) → IsMark q → Opened false true (117 ∷ q ∷ rest) (q ∷ rest)
u_opened q rest (inl is) = subst (λ (k : ℕ). Opened false true (117 ∷ k ∷ rest) (k ∷ rest)) (sym is)
    (record { raw = refl; formatted = refl; of_bytes = refl; of_u = refl; literal = refl })
u_opened q rest (inr is) = subst (λ (k : ℕ). Opened false true (117 ∷ k ∷ rest) (k ∷ rest)) (sym is)
    (record { raw = refl; formatted = refl; of_bytes = refl; of_u = refl; literal = refl })

bytes_opened : (q : ℕ) (rest : List ℕ) → IsMark q → Opened true false (98 ∷ q ∷ rest) (q ∷ rest)
bytes_opened q rest (inl is) = subst (λ (k : ℕ). Opened true false (98 ∷ k ∷ rest) (k ∷ rest)) (sym is)
    (record { raw = refl; formatted = refl; of_bytes = refl; of_u = refl; literal = refl })
bytes_opened q rest (inr is) = subst (λ (k : ℕ). Opened true false (98 ∷ k ∷ rest) (k ∷ rest)) (sym is)
    (record { raw = refl; formatted = refl; of_bytes = refl; of_u = refl; literal = refl })

-- what stands between quotes

not_three : (q : ℕ) (t : List ℕ) → Begins q t → begins_three (q ∷ t) ≡ false
not_three q t (begins a [] differs) = refl
not_three q t (begins a (b ∷ rest) differs) =
    and_left (((q == 39) || (q == 34)) && (a == q)) (b == q) (and_right ((q == 39) || (q == 34)) (a == q) differs)

-- the text of a literal after its prefix
abbrev between : (ℕ → Bool) → ℕ → List ℕ → List ℕ
between test q cs = q ∷ flat_map (escaped test q) cs ++ q ∷ []

single_quoted : (test : ℕ → Bool) (q : ℕ) (cs : List ℕ) → IsMark q → begins_three (between test q cs) ≡ false
single_quoted test q [] mark = refl
single_quoted test q (c ∷ cs) mark =
    let e = escaped test q c in
    let rest = flat_map (escaped test q) cs in
    ap (λ (t : List ℕ). begins_three (q ∷ t)) (append_assoc e rest (q ∷ []))
    ∙ not_three q (e ++ (rest ++ q ∷ [])) (written_begins test q c e (rest ++ q ∷ []) mark (written test q c))

inside_back : (test : ℕ → Bool) (q : ℕ) (cs : List ℕ) → IsMark q → inside (between test q cs) ≡ flat_map (escaped test q) cs
inside_back test q cs mark =
    let body = flat_map (escaped test q) cs in
    let one = single_quoted test q cs mark in
    let size : length body ≡ length (body ++ q ∷ []) - 1 = omega (arith, length-append body (q ∷ [])) in
    rw one (take_at body (q ∷ []) (length (body ++ q ∷ []) - 1) size)

body_back : (test : ℕ → Bool) (bytes u : Bool) (q : ℕ) (t cs : List ℕ) → IsMark q → Opened bytes u t (between test q cs) →
    body_of t ≡ flat_map (escaped test q) cs
body_back test bytes u q t cs mark o = ap inside o.literal ∙ inside_back test q cs mark

abbrev all_points : List ℕ → List Meaning
all_points cs = map (λ c. Point c) cs

meanings_back : (test : ℕ → Bool) (bytes u : Bool) (q : ℕ) (t cs : List ℕ) → IsMark q → All (Fits bytes) cs
    → Opened bytes u t (between test q cs) →
    meanings (is_raw t) (is_bytes t) (body_of t) ≡ all_points cs
unfolding meanings
meanings_back test bytes u q t cs mark fit o =
    rw (o.raw, o.of_bytes) (ap (meanings_after false bytes 0) (body_back test bytes u q t cs mark o)
    ∙ all_read_back test bytes q cs mark fit)

points_read : (cs : List ℕ) → flat_map points_in (all_points cs) ≡ cs
points_read [] = refl
points_read (c ∷ cs) = ap (λ (t : List ℕ). c ∷ t) (points_read cs)

no_named : (cs : List ℕ) → list_any is_named_escape (all_points cs) ≡ false
no_named [] = refl
no_named (c ∷ cs) = no_named cs

no_bad : (cs : List ℕ) → list_any is_bad_escape (all_points cs) ≡ false
no_bad [] = refl
no_bad (c ∷ cs) = no_bad cs

points_back : (test : ℕ → Bool) (bytes u : Bool) (q : ℕ) (t cs : List ℕ) → IsMark q → All (Fits bytes) cs
    → Opened bytes u t (between test q cs) →
    points_of t ≡ cs
unfolding points_of
points_back test bytes u q t cs mark fit o = ap (flat_map points_in) (meanings_back test bytes u q t cs mark fit o) ∙ points_read cs

no_escape_fault : (cs : List ℕ) → escape_fault (all_points cs) ≡ None
unfolding escape_fault
no_escape_fault cs = let named = no_named cs in let bad = no_bad cs in rw (named, bad) refl

-- the value and the faults of a repr

pub quote_mark : (cs : List ℕ) → IsMark (quote_for cs)
quote_mark cs = either (list_any (λ c. c == 39) cs && not (list_any (λ c. c == 34) cs))
  where
    either : (b : Bool) → IsMark (if b then 34 else 39)
    either true = inr refl
    either false = inl refl

-- no character of a text passes a test where its quotes and its body don't
pub none_of : (p : ℕ → Bool) (xs : List ℕ) → list_all (λ c. not (p c)) xs ≡ true → list_any p xs ≡ false
none_of p [] h = refl
none_of p (x ∷ xs) h = let parts = and_parts (not (p x)) (list_all (λ c. not (p c)) xs) h in
    or_from (p x) (list_any p xs) (not-true (p x) parts.0) (none_of p xs parts.1)

none_between : (p test : ℕ → Bool) (q : ℕ) (cs : List ℕ) → IsMark q → ((a : ℕ) → 33 ≤ a → a ≤ 126 → p a ≡ false) →
    All (λ c. (c ≡ 13 → ⊥) → test c ≡ false → p c ≡ false) cs → list_any p (between test q cs) ≡ false
none_between p test q cs mark ascii shown =
    let body = flat_map (escaped test q) cs in
    let inner = none_of p body (all_pass test (λ c. not (p c)) q cs mark (λ a low high. ap not (ascii a low high))
    (λ k d within differs seen. ap not (shown k d within differs seen))) in
    let own : p q ≡ false = elim mark [
      | inl single ↦ ascii q (omega (arith, single)) (omega (arith, single))
      | inr double ↦ ascii q (omega (arith, double)) (omega (arith, double))
    ] in
    or_from (p q) (list_any p (body ++ q ∷ [])) own (list_any-append p body (q ∷ [])
    ∙ or_from (list_any p body) (list_any p (q ∷ [])) inner (or_from (p q) false own refl))

nul_shown : is_unprintable 0 ≡ true
unfolding ucd_category
nul_shown = refl

-- where the test says that U+0000 is unprintable, none is written
no_nul : (test : ℕ → Bool) (q : ℕ) (cs : List ℕ) → IsMark q → test 0 ≡ true → list_any (λ c. c == 0) (between test q cs) ≡ false
no_nul test q cs mark nul =
    none_between (λ c. c == 0) test q cs mark (λ a low high. ne_eqb a 0 (λ e. absurd (omega (arith, e, low))))
    (λ k d within differs seen. ne_eqb (get_or cs k d) 0 (λ e. both_ways (test 0) (ap test (sym e) ∙ seen) nul))

no_high : (q : ℕ) (cs : List ℕ) → IsMark q → list_any (nat_lt 0x7F) (between is_unprintable_byte q cs) ≡ false
no_high q cs mark =
    none_between (nat_lt 0x7F) is_unprintable_byte q cs mark (λ a low high. le-ltb 0x7F a (omega (arith, high)))
    (λ k d within differs seen. let low = ltb-false 0x7E (get_or cs k d)
    (or_parts (nat_lt (get_or cs k d) 0x20) (nat_lt 0x7E (get_or cs k d)) seen).1 in le-ltb 0x7F (get_or cs k d) (omega (arith, low)))

-- a repr holds no CR
no_return : (test : ℕ → Bool) (q : ℕ) (cs : List ℕ) → IsMark q → list_any (λ c. c == 13) (between test q cs) ≡ false
no_return test q cs mark =
    none_between (λ c. c == 13) test q cs mark (λ a low high. ne_eqb a 13 (λ e. absurd (omega (arith, low, e))))
    (λ k d inside differs seen. ne_eqb (get_or cs k d) 13 differs)

kept_whole : (t : List ℕ) → list_any (λ c. c == 13) t ≡ false → with_line_feeds t ≡ t
kept_whole [] none = refl
kept_whole (c ∷ t) none =
    let parts = or_parts (c == 13) (list_any (λ c. c == 13) t) none in
    rw parts.0 (ap (λ (u : List ℕ). c ∷ u) (kept_whole t parts.1))

value_back : (test : ℕ → Bool) (bytes u : Bool) (q : ℕ) (t cs : List ℕ) → IsMark q → All (Fits bytes) cs
    → Opened bytes u t (between test q cs)
    → value_of t ≡ (if bytes then Bytes cs else Str cs u)
unfolding value_of
value_back test bytes u q t cs mark fit o =
    let points = points_back test bytes u q t cs mark fit o in
    rw (o.of_bytes, o.of_u, points) refl

string_back : (test : ℕ → Bool) (bytes u : Bool) (q : ℕ) (t cs : List ℕ) → IsMark q → All (Fits bytes) cs
    → Opened bytes u t (between test q cs)
    → list_any (λ c. c == 13) t ≡ false → terminal_of kinds.String t ≡ Literal (if bytes then Bytes cs else Str cs u)
unfolding terminal_of string_value
string_back test bytes u q t cs mark fit o whole = ap Literal (ap value_of (kept_whole t whole) ∙ value_back test bytes u q t cs mark fit o)

literal_sound : (test : ℕ → Bool) (bytes u : Bool) (q : ℕ) (t cs : List ℕ) → IsMark q → All (Fits bytes) cs
    → Opened bytes u t (between test q cs)
    → (bytes && list_any (nat_lt 0x7F) t) ≡ false → list_any (λ c. c == 0) t ≡ false → literal_fault t ≡ None
unfolding literal_fault nul_fault
literal_sound test bytes u q t cs mark fit o low none =
    let read = meanings_back test bytes u q t cs mark fit o in
    let sound = no_escape_fault cs in
    rw (o.formatted, read, sound, o.of_bytes, low, none) refl

sound_back : (test : ℕ → Bool) (bytes u : Bool) (q : ℕ) (t cs : List ℕ) → IsMark q → All (Fits bytes) cs
    → Opened bytes u t (between test q cs)
    → list_any (λ c. c == 13) t ≡ false → (bytes && list_any (nat_lt 0x7F) t) ≡ false → list_any (λ c. c == 0) t ≡ false →
    single_fault Whole kinds.String t ≡ None
unfolding single_fault string_fault
sound_back test bytes u q t cs mark fit o whole low none =
    ap literal_fault (kept_whole t whole) ∙ literal_sound test bytes u q t cs mark fit o low none

text_fits : (points : List ℕ) → All IsPoint points → All (Fits false) points
text_fits points most k d within = record { most = most k d within; byte = λ e. absurd (true≢false (sym e)) }

bytes_fit : (bs : List ℕ) → All (λ b. b < 0x100) bs → All (Fits true) bs
bytes_fit bs small k d within = let h = small k d within in record { most = omega (arith, h); byte = λ e. h }

-- What each says

-- a token of this type and text is this one terminal, and has no fault by itself in the whole language
pub record Stands (k : Kind) (t : List ℕ) (x : Terminal) : Type 0 where
  pub terminal : terminal_of k t ≡ x
  pub single : is_fstring k t ≡ false
  pub faultless : single_fault Whole k t ≡ None

unformatted : (test : ℕ → Bool) (bytes u : Bool) (q : ℕ) (t cs : List ℕ) → Opened bytes u t (between test q cs)
    → list_any (λ c. c == 13) t ≡ false →
    is_fstring kinds.String t ≡ false
unformatted test bytes u q t cs o whole = ap is_formatted (kept_whole t whole) ∙ o.formatted

pub text_stands : (points : List ℕ) → All IsPoint points → Stands kinds.String (repr_chars points) (Literal (Str points false))
text_stands points most =
    let q = quote_for points in
    let mark = quote_mark points in
    let fit = text_fits points most in
    let o = text_opened q (flat_map (escaped is_unprintable q) points ++ q ∷ []) mark in
    record {
      terminal = string_back is_unprintable false false q (repr_chars points) points mark fit o (no_return is_unprintable q points mark);
      single = unformatted is_unprintable false false q (repr_chars points) points o (no_return is_unprintable q points mark);
      faultless = sound_back is_unprintable false false q (repr_chars points) points mark fit o
          (no_return is_unprintable q points mark) refl
          (no_nul is_unprintable q points mark nul_shown);
    }

pub unicode_stands : (points : List ℕ) → All IsPoint points → Stands kinds.String (117 ∷ repr_chars points) (Literal (Str points true))
unicode_stands points most =
    let q = quote_for points in
    let mark = quote_mark points in
    let fit = text_fits points most in
    let o = u_opened q (flat_map (escaped is_unprintable q) points ++ q ∷ []) mark in
    record {
      terminal = string_back is_unprintable false true q (117 ∷ repr_chars points) points mark fit o
          (no_return is_unprintable q points mark);
      single = unformatted is_unprintable false true q (117 ∷ repr_chars points) points o (no_return is_unprintable q points mark);
      faultless = sound_back is_unprintable false true q (117 ∷ repr_chars points) points mark fit o
          (no_return is_unprintable q points mark) refl
          (no_nul is_unprintable q points mark nul_shown);
    }

pub bytes_stand : (bs : List ℕ) → All (λ b. b < 0x100) bs → Stands kinds.String (repr_bytes bs) (Literal (Bytes bs))
bytes_stand bs small =
    let q = quote_for bs in
    let mark = quote_mark bs in
    let fit = bytes_fit bs small in
    let o = bytes_opened q (flat_map (escaped is_unprintable_byte q) bs ++ q ∷ []) mark in
    record {
      terminal = string_back is_unprintable_byte true false q (repr_bytes bs) bs mark fit o (no_return is_unprintable_byte q bs mark);
      single = unformatted is_unprintable_byte true false q (repr_bytes bs) bs o (no_return is_unprintable_byte q bs mark);
      faultless = sound_back is_unprintable_byte true false q (repr_bytes bs) bs mark fit o (no_return is_unprintable_byte q bs mark)
          (no_high q bs mark) (no_nul is_unprintable_byte q bs mark refl);
    }
