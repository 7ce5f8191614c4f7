-- The repr of a text, with `u` before it or not, and the repr of bytes are tokens.
--
-- Carries: which_quote, for Scalars. On: StringFronts, Cases.
use Rattle.std.proofs.Common.{◌≡◌, ℕ, ◌/◌, ◌%◌, ◌<◌, Bool, true, false, not, ◌&&◌, ◌||◌, ◌==◌, List, [], ◌∷◌, ◌++◌, refl, ◌∙◌, ap, subst}
use Rattle.std.proofs.Common.{arith, zero}
use Rattle.std.proofs.Common.{suc, ◌⊎◌, inl, inr, ⊎_elim, append_assoc, if◌then◌else◌}
use Rattle.std.specs.Prelude.{codes, nat_lt}
use Rattle.std.specs.List.{list_all, list_any, flat_map}
use Rattle.std.specs.Char.{digit_char}
use Rattle.std.proofs.lemmas.Bool.{eqb-true, cases_Bool, or_cases, or_parts}
use Rattle.std.proofs.lemmas.Bool.Decides.{nat_tests}
use Rattle.std.proofs.lemmas.List.Folds.{list_all-append}
use Rattle.pysource.specs.Reprs.{hex, hex_escape, escaped, quote_for, quoted, is_unprintable, is_unprintable_byte, repr_chars, repr_bytes}
use Rattle.pylex_listing.specs.declared.kind.Kind.TheVariants as kinds
use Rattle.pylex_lexeme.specs.Chars.{is_comment_part}
use Rattle.pylex_lexeme.specs.Strings.{units, ends_by_one, is_single, is_single_string, is_prefix}
use Rattle.pylex_lexeme.proofs.Callers.Strings.{IsQuote, quote_is, units_plain, unit_one, unit_slash}
use Rattle.pyunparse_text.specs.Spacing.{is_token}
use Rattle.pyunparse_text.proofs.LexemeFronts.StringFronts.{units_slash}

-- Characters that neither close a literal nor may not stand in it
abbrev pub Skips : ℕ → List ℕ → Type 0
Skips q e = (list_all is_comment_part e ≡ true) × ((r : List ℕ) → ends_by_one q (units (e ++ r)) ≡ ends_by_one q (units r))

-- an own character
pub record Own (q c : ℕ) : Type 0 where
  pub slash : (c == 92) ≡ false
  pub quote : (c == q) ≡ false
  pub feed : (c == 10) ≡ false
  pub return : (c == 13) ≡ false

pub own_skips : (q c : ℕ) → Own q c → Skips q (c ∷ [])
own_skips q c o = (
  rw (o.feed, o.return) refl,
  λ r. ap (ends_by_one q) (units_plain c r o.slash) ∙ rw (unit_one q c ∙ o.quote, unit_one 13 c ∙ o.return, unit_one 10 c ∙ o.feed) refl,
)

-- a backslash and a character
pub pair_skips : (q b : ℕ) → IsQuote q → (b == 13) ≡ false → (b == 10) ≡ false → Skips q (92 ∷ b ∷ [])
pair_skips q b k n m = (
  rw (n, m) refl,
  λ r. ap (ends_by_one q) (units_slash b r n) ∙ (let u = unit_slash q 92 (b ∷ []) k.slash refl in rw u refl),
)

pub both_skip : (q : ℕ) (a b : List ℕ) → Skips q a → Skips q b → Skips q (a ++ b)
both_skip q a b x y = (
  list_all-append is_comment_part a b ∙ rw (x.0, y.0) refl,
  λ r. ap (λ u. ends_by_one q (units u)) (append_assoc a b r) ∙ x.1 (b ++ r) ∙ y.1 r,
)

pub none_skip : (q : ℕ) → Skips q []
none_skip q = (refl, λ r. refl)

-- digits of base 16
digit_own : (q d : ℕ) → (q ≡ 39) ⊎ (q ≡ 34) → d < 16 → Own q (digit_char d)
digit_own q d w h = ⊎_elim
    (λ (e : q ≡ 39). rw e (record {
      slash = grind (arith, nat_tests);
      quote = grind (arith, nat_tests);
      feed = grind (arith, nat_tests);
      return = grind (arith, nat_tests);
    }))
    (λ (e : q ≡ 34). rw e (record {
      slash = grind (arith, nat_tests);
      quote = grind (arith, nat_tests);
      feed = grind (arith, nat_tests);
      return = grind (arith, nat_tests);
    }))
    w

hex_skips : (q : ℕ) → (q ≡ 39) ⊎ (q ≡ 34) → (width n : ℕ) → Skips q (hex width n)
hex_skips q w zero n = none_skip q
hex_skips q w (suc width) n =
    both_skip q (hex width (n / 16)) (digit_char (n % 16) ∷ []) (hex_skips q w width (n / 16))
    (own_skips q (digit_char (n % 16)) (digit_own q (n % 16) w (omega arith)))

quote_of : (q : ℕ) → (q ≡ 39) ⊎ (q ≡ 34) → IsQuote q
quote_of q w = ⊎_elim (λ (e : q ≡ 39). quote_is q (rw e refl)) (λ (e : q ≡ 34). quote_is q (rw e refl)) w

pub escape_skips : (q c : ℕ) → (q ≡ 39) ⊎ (q ≡ 34) → Skips q (hex_escape c)
escape_skips q c w = by (nat_lt c 0x100) (nat_lt c 0x1_0000)
  where
    by : (a b : Bool) → Skips q (if a then codes "\\x" ++ hex 2 c else (if b then codes "\\u" ++ hex 4 c else codes "\\U" ++ hex 8 c))
    by true b = both_skip q (92 ∷ 120 ∷ []) (hex 2 c) (pair_skips q 120 (quote_of q w) refl refl) (hex_skips q w 2 c)
    by false true = both_skip q (92 ∷ 117 ∷ []) (hex 4 c) (pair_skips q 117 (quote_of q w) refl refl) (hex_skips q w 4 c)
    by false false = both_skip q (92 ∷ 85 ∷ []) (hex 8 c) (pair_skips q 85 (quote_of q w) refl refl) (hex_skips q w 8 c)

-- what stands for a character
pub escaped_skips : (test : ℕ → Bool) (q c : ℕ) → (q ≡ 39) ⊎ (q ≡ 34) → Skips q (escaped test q c)
escaped_skips test q c w =
    ⊎_elim
    (λ (h : (c == 92 || c == q) ≡ true). rw h (pair_skips q c (quote_of q w) (special c h).0 (special c h).1))
    (λ (h : (c == 92 || c == q) ≡ false).
    let s = or_parts (c == 92) (c == q) h in
    rw h (⊎_elim
    (λ (t : (c == 9) ≡ true). rw t (pair_skips q 116 (quote_of q w) refl refl))
    (λ (t : (c == 9) ≡ false). rw t (⊎_elim
    (λ (n : (c == 10) ≡ true). rw n (pair_skips q 110 (quote_of q w) refl refl))
    (λ (n : (c == 10) ≡ false). rw n (⊎_elim
    (λ (r : (c == 13) ≡ true). rw r (pair_skips q 114 (quote_of q w) refl refl))
    (λ (r : (c == 13) ≡ false). rw r (⊎_elim
    (λ (u : test c ≡ true). rw u (escape_skips q c w))
    (λ (u : test c ≡ false). rw u (own_skips q c (record { slash = s.0; quote = s.1; feed = n; return = r })))
    (cases_Bool (test c))))
    (cases_Bool (c == 13))))
    (cases_Bool (c == 10))))
    (cases_Bool (c == 9))))
    (cases_Bool (c == 92 || c == q))
  where
    special : (c : ℕ) → (c == 92 || c == q) ≡ true → ((c == 13) ≡ false) × ((c == 10) ≡ false)
    special c h = ⊎_elim
        (λ (e : (c == 92) ≡ true). let f : c ≡ 92 = eqb-true c 92 e in rw f (refl, refl))
        (λ (e : (c == q) ≡ true). let f : c ≡ q = eqb-true c q e in
        ⊎_elim (λ (g : q ≡ 39). rw (f, g) (refl, refl)) (λ (g : q ≡ 34). rw (f, g) (refl, refl)) w)
        (or_cases (c == 92) (c == q) h)

all_skip : (test : ℕ → Bool) (q : ℕ) → (q ≡ 39) ⊎ (q ≡ 34) → (cs : List ℕ) → Skips q (flat_map (escaped test q) cs)
all_skip test q w [] = none_skip q
all_skip test q w (c ∷ cs) = both_skip q (escaped test q c) (flat_map (escaped test q) cs) (escaped_skips test q c w) (all_skip test q w cs)

abbrev either_quote : Bool → ℕ
either_quote b = if b then 34 else 39

pub which_quote : (cs : List ℕ) → (quote_for cs ≡ 39) ⊎ (quote_for cs ≡ 34)
which_quote cs = by (list_any (λ c. c == 39) cs && not (list_any (λ c. c == 34) cs))
  where
    by : (b : Bool) → (either_quote b ≡ 39) ⊎ (either_quote b ≡ 34)
    by true = inr refl
    by false = inl refl

-- the literal, from its quote on
literal_in_line : (test : ℕ → Bool) (cs : List ℕ) → list_all is_comment_part (quoted test cs) ≡ true
literal_in_line test cs =
    let q : ℕ = quote_for cs in
    let k = quote_of q (which_quote cs) in
    let s = all_skip test q (which_quote cs) cs in
    let l : list_all is_comment_part (flat_map (escaped test q) cs ++ q ∷ []) ≡ true =
    list_all-append is_comment_part (flat_map (escaped test q) cs) (q ∷ []) ∙ rw (s.0, k.feed, k.ret) refl in
    rw (k.feed, k.ret) l

literal_ends : (test : ℕ → Bool) (cs : List ℕ)
    → ends_by_one (quote_for cs) (units (flat_map (escaped test (quote_for cs)) cs ++ quote_for cs ∷ [])) ≡ true
literal_ends test cs =
    let q : ℕ = quote_for cs in
    (all_skip test q (which_quote cs) cs).1 (q ∷ []) ∙ last q (which_quote cs)
  where
    last : (q : ℕ) → (q ≡ 39) ⊎ (q ≡ 34) → ends_by_one q (units (q ∷ [])) ≡ true
    last q w = ⊎_elim (λ (e : q ≡ 39). rw e refl) (λ (e : q ≡ 34). rw e refl) w

literal_single : (test : ℕ → Bool) (cs : List ℕ) → (is_single 39 (quoted test cs) || is_single 34 (quoted test cs)) ≡ true
unfolding is_single
literal_single test cs =
    let e = literal_ends test cs in
    ⊎_elim
    (λ (w : quote_for cs ≡ 39). let f : ends_by_one 39 (units (flat_map (escaped test (quote_for cs)) cs ++ quote_for cs ∷ [])) ≡ true =
    subst (λ (q : ℕ). ends_by_one q (units (flat_map (escaped test (quote_for cs)) cs ++ quote_for cs ∷ [])) ≡ true) w e in
    first (quote_for cs == 39) (ends_by_one 39 (units (flat_map (escaped test (quote_for cs)) cs ++ quote_for cs ∷ []))) _ (rw w refl) f)
    (λ (w : quote_for cs ≡ 34). let f : ends_by_one 34 (units (flat_map (escaped test (quote_for cs)) cs ++ quote_for cs ∷ [])) ≡ true =
    subst (λ (q : ℕ). ends_by_one q (units (flat_map (escaped test (quote_for cs)) cs ++ quote_for cs ∷ [])) ≡ true) w e in
    second _ (quote_for cs == 34) (ends_by_one 34 (units (flat_map (escaped test (quote_for cs)) cs ++ quote_for cs ∷ []))) (rw w refl) f)
    (which_quote cs)
  where
    first : (a b c : Bool) → a ≡ true → b ≡ true → ((a && b) || c) ≡ true
    first a b c e f = rw (e, f) refl

    second : (c a b : Bool) → a ≡ true → b ≡ true → (c || (a && b)) ≡ true
    second true a b e f = refl
    second false a b e f = rw (e, f) refl

nil_prefix : is_prefix [] ≡ true
unfolding is_prefix
nil_prefix = refl

-- a literal, and one with a prefix of one letter before it
whole_literal : (test : ℕ → Bool) (cs : List ℕ) → is_single_string (quoted test cs) ≡ true
unfolding is_single_string
whole_literal test cs = rw (nil_prefix, literal_single test cs) refl

prefixed_literal : (a : ℕ) (test : ℕ → Bool) (cs : List ℕ) → is_prefix (a ∷ []) ≡ true → is_single_string (a ∷ quoted test cs) ≡ true
unfolding is_single_string
prefixed_literal a test cs p =
    rw (p, literal_single test cs) (second (is_prefix [] && (is_single 39 (a ∷ quoted test cs) || is_single 34 (a ∷ quoted test cs))))
  where
    second : (b : Bool) → (b || true) ≡ true
    second true = refl
    second false = refl

letter_prefix : (is_prefix (98 ∷ []) ≡ true) × (is_prefix (117 ∷ []) ≡ true)
unfolding is_prefix
letter_prefix = (refl, refl)

-- The repr of a text is a token, also with `u` before it; so is the repr of bytes.
pub text_token : (cs : List ℕ) → is_token kinds.String (repr_chars cs) ≡ true
text_token cs = let s = whole_literal is_unprintable cs in let l = literal_in_line is_unprintable cs in rw (s, l) refl

pub marked_token : (cs : List ℕ) → is_token kinds.String (117 ∷ repr_chars cs) ≡ true
marked_token cs = let s = prefixed_literal 117 is_unprintable cs letter_prefix.1 in let l =
    literal_in_line is_unprintable cs in rw (s, l) refl

pub bytes_token : (bs : List ℕ) → is_token kinds.String (repr_bytes bs) ≡ true
bytes_token bs = let s = prefixed_literal 98 is_unprintable_byte bs letter_prefix.0 in let l =
    literal_in_line is_unprintable_byte bs in rw (s, l) refl
