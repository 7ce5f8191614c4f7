-- Carries: come_back. On: the repr of a text or of bytes is a string as a lexeme.
use Rattle.std.proofs.Common.{◌≡◌, ℕ, zero, suc, ◌/◌, ◌%◌, ◌<◌, ◌≤◌, Bool, true, false, List, [], ◌∷◌, ◌++◌, refl, sym, subst, ap, ◌∙◌, inl}
use Rattle.std.proofs.Common.{inr, arith, append_assoc}
use Rattle.std.specs.Prelude.{◌==◌, ◌||◌, ◌&&◌}
use Rattle.std.specs.Char.{digit_char}
use Rattle.std.specs.List.{flat_map}
use Rattle.std.proofs.lemmas.Bool.{and_from, or_left, or_right, eq-eqb, ne_eqb}
use Rattle.std.proofs.lemmas.Bool.Decides.{nat_tests}
use Rattle.pysource.specs.Reprs.{hex, escaped, quote_for, repr_chars, repr_bytes, is_unprintable, is_unprintable_byte}
use Rattle.pylex_lexeme.specs.Numbers.{split_any}
use Rattle.pylex_lexeme.specs.Strings.{units, ends_by_one, is_single, is_single_string, is_string, is_prefix, is_triple_string}
use Rattle.pytoken.proofs.ReadBack.{IsMark, Written, marked, tab, feed, return, short, middle, long, itself, written}
use Rattle.pytoken.proofs.Constants.{quote_mark}

-- a character that is no quote, no backslash and no line end
pub record IsPlain (q a : ℕ) : Type 0 where
  pub slash : (a == 92) ≡ false
  pub quote : (a == q) ≡ false
  pub return : (a == 13) ≡ false
  pub feed : (a == 10) ≡ false

plain_unit : (q a b : ℕ) (t : List ℕ) → IsPlain q a → ends_by_one q (units (a ∷ b ∷ t)) ≡ ends_by_one q (units (b ∷ t))
plain_unit q a b [] p = rw (p.slash, p.quote, p.return, p.feed) refl
plain_unit q a b (c ∷ t) p = rw (p.slash, p.quote, p.return, p.feed) refl

-- a backslash and a character that is no CR
slash_unit : (q a b : ℕ) (t : List ℕ) → IsMark q → (a == 13) ≡ false
    → ends_by_one q (units (92 ∷ a ∷ b ∷ t)) ≡ ends_by_one q (units (b ∷ t))
slash_unit q a b t (inl is) other = subst (λ (k : ℕ). ends_by_one k (units (92 ∷ a ∷ b ∷ t)) ≡ ends_by_one k (units (b ∷ t)))
    (sym is) (rw other refl)
slash_unit q a b t (inr is) other = subst (λ (k : ℕ). ends_by_one k (units (92 ∷ a ∷ b ∷ t)) ≡ ends_by_one k (units (b ∷ t)))
    (sym is) (rw other refl)

digit_plain : (q d : ℕ) → IsMark q → d < 16 → IsPlain q (digit_char d)
digit_plain q d mark small =
    let low : 48 ≤ digit_char d = grind (arith, nat_tests) in
    let high : digit_char d ≤ 102 = grind (arith, nat_tests) in
    let no_slash : digit_char d ≡ 92 → ⊥ = grind (arith, nat_tests) in
    record {
      slash = ne_eqb (digit_char d) 92 no_slash;
      quote = ne_eqb (digit_char d) q (λ e. elim mark [
        | inl is ↦ absurd (omega (arith, e, is, low))
        | inr is ↦ absurd (omega (arith, e, is, low))
      ]);
      return = ne_eqb (digit_char d) 13 (λ e. absurd (omega (arith, e, low)));
      feed = ne_eqb (digit_char d) 10 (λ e. absurd (omega (arith, e, low)));
    }

-- digits are units of their own
hex_units : (q n c b : ℕ) (t : List ℕ) → IsMark q → ends_by_one q (units (hex n c ++ (b ∷ t))) ≡ ends_by_one q (units (b ∷ t))
hex_units q zero c b t mark = refl
hex_units q (suc n) c b t mark =
    ap (λ (u : List ℕ). ends_by_one q (units u)) (append_assoc (hex n (c / 16)) (digit_char (c % 16) ∷ []) (b ∷ t))
    ∙ hex_units q n (c / 16) (digit_char (c % 16)) (b ∷ t) mark
    ∙ plain_unit q (digit_char (c % 16)) b t (digit_plain q (c % 16) mark (omega arith))

letter_units : (q l n c b : ℕ) (t : List ℕ) → IsMark q → (l == 13) ≡ false →
    ends_by_one q (units (92 ∷ l ∷ hex n c ++ (b ∷ t))) ≡ ends_by_one q (units (b ∷ t))
letter_units q l n c b t mark other = following (hex n c ++ (b ∷ t)) (hex_units q n c b t mark) (starts n c)
  where
    starts : (n c : ℕ) → (d : ℕ) × (u : List ℕ) × (hex n c ++ (b ∷ t) ≡ d ∷ u)
    starts zero c = (b, t, refl)
    starts (suc n) c = first (hex n (c / 16)) (digit_char (c % 16))
      where
        first : (xs : List ℕ) (d : ℕ) → (e : ℕ) × (u : List ℕ) × ((xs ++ d ∷ []) ++ (b ∷ t) ≡ e ∷ u)
        first [] d = (d, b ∷ t, refl)
        first (x ∷ xs) d = (x, (xs ++ d ∷ []) ++ (b ∷ t), refl)

    following : (rest : List ℕ) → ends_by_one q (units rest) ≡ ends_by_one q (units (b ∷ t)) → (d : ℕ) × (u : List ℕ) × (rest ≡ d ∷ u) →
        ends_by_one q (units (92 ∷ l ∷ rest)) ≡ ends_by_one q (units (b ∷ t))
    following rest same (d, u, e) =
        ap (λ (v : List ℕ). ends_by_one q (units (92 ∷ l ∷ v))) e ∙ slash_unit q l d u mark other
        ∙ sym (ap (λ (v : List ℕ). ends_by_one q (units v)) e) ∙ same

-- what is written for a point goes on to the same end
written_units : (test : ℕ → Bool) (q c b : ℕ) (t text : List ℕ) → IsMark q → Written test q c text →
    ends_by_one q (units (text ++ (b ∷ t))) ≡ ends_by_one q (units (b ∷ t))
written_units test q c b t text mark (marked which) = slash_unit q c b t mark (ne_eqb c 13 (λ e. elim which [
  | inl is ↦ absurd (omega (arith, e, is))
  | inr is ↦ elim mark [ inl one ↦ absurd (omega (arith, e, is, one)) | inr other ↦ absurd (omega (arith, e, is, other)) ]
]))
written_units test q c b t text mark (tab is) = slash_unit q 116 b t mark refl
written_units test q c b t text mark (feed is) = slash_unit q 110 b t mark refl
written_units test q c b t text mark (return is) = slash_unit q 114 b t mark refl
written_units test q c b t text mark (short low) = letter_units q 120 2 c b t mark refl
written_units test q c b t text mark (middle high below) = letter_units q 117 4 c b t mark refl
written_units test q c b t text mark (long above) = letter_units q 85 8 c b t mark refl
written_units test q c b t text mark (itself no_slash no_quote no_return no_feed shown) =
    plain_unit q c b t (record {
      slash = ne_eqb c 92 no_slash;
      quote = ne_eqb c q no_quote;
      return = ne_eqb c 13 no_return;
      feed = ne_eqb c 10 no_feed;
    })

all_units : (test : ℕ → Bool) (q : ℕ) (cs : List ℕ) → IsMark q → ends_by_one q (units (flat_map (escaped test q) cs ++ q ∷ [])) ≡ true
all_units test q [] (inl is) = subst (λ (k : ℕ). ends_by_one k (units (k ∷ [])) ≡ true) (sym is) refl
all_units test q [] (inr is) = subst (λ (k : ℕ). ends_by_one k (units (k ∷ [])) ≡ true) (sym is) refl
all_units test q (c ∷ cs) mark =
    let e = escaped test q c in
    let rest = flat_map (escaped test q) cs in
    ap (λ (u : List ℕ). ends_by_one q (units u)) (append_assoc e rest (q ∷ []))
    ∙ on (rest ++ q ∷ []) (starts rest) ∙ all_units test q cs mark
  where
    starts : (xs : List ℕ) → (b : ℕ) × (t : List ℕ) × (xs ++ q ∷ [] ≡ b ∷ t)
    starts [] = (q, [], refl)
    starts (x ∷ xs) = (x, xs ++ q ∷ [], refl)

    on : (rest : List ℕ) → (b : ℕ) × (t : List ℕ) × (rest ≡ b ∷ t) → ends_by_one q (units (escaped test q c ++ rest)) ≡
        ends_by_one q (units rest)
    on rest (b, t, e) =
        ap (λ (v : List ℕ). ends_by_one q (units (escaped test q c ++ v))) e
        ∙ written_units test q c b t (escaped test q c) mark (written test q c)
        ∙ sym (ap (λ (v : List ℕ). ends_by_one q (units v)) e)

-- a quote, what is written for the points, and the quote again
pub single : (test : ℕ → Bool) (q : ℕ) (cs : List ℕ) → IsMark q → is_single q (q ∷ flat_map (escaped test q) cs ++ q ∷ []) ≡ true
unfolding is_single
single test q cs mark =
    and_from (q == q) (ends_by_one q (units (flat_map (escaped test q) cs ++ q ∷ []))) (eq-eqb q q refl) (all_units test q cs mark)

-- strings

either_single : (test : ℕ → Bool) (q : ℕ) (cs : List ℕ) → IsMark q →
    (is_single 39 (q ∷ flat_map (escaped test q) cs ++ q ∷ []) || is_single 34 (q ∷ flat_map (escaped test q) cs ++ q ∷ [])) ≡ true
either_single test q cs mark = by_mark mark
  where
    by_mark : IsMark q → (is_single 39 (q ∷ flat_map (escaped test q) cs ++ q ∷ []) || is_single 34
        (q ∷ flat_map (escaped test q) cs ++ q ∷ []))
        ≡ true
    by_mark (inl is) = or_left (is_single 39 (q ∷ flat_map (escaped test q) cs ++ q ∷ []))
        (is_single 34 (q ∷ flat_map (escaped test q) cs ++ q ∷ []))
        (ap (λ (k : ℕ). is_single k (q ∷ flat_map (escaped test q) cs ++ q ∷ [])) (sym is) ∙ single test q cs mark)
    by_mark (inr is) = or_right (is_single 39 (q ∷ flat_map (escaped test q) cs ++ q ∷ []))
        (is_single 34 (q ∷ flat_map (escaped test q) cs ++ q ∷ []))
        (ap (λ (k : ℕ). is_single k (q ∷ flat_map (escaped test q) cs ++ q ∷ [])) (sym is)
        ∙ single test q cs mark)

abbrev in_quotes : List ℕ → Bool
in_quotes u = is_single 39 u || is_single 34 u

without_prefix : (q : ℕ) (t : List ℕ) → in_quotes (q ∷ t) ≡ true → is_single_string (q ∷ t) ≡ true
unfolding is_single_string is_prefix
without_prefix q t h = or_left (in_quotes (q ∷ t)) (split_any (λ u. is_prefix (q ∷ u)) in_quotes t) h

with_prefix : (p q : ℕ) (t : List ℕ) → is_prefix (p ∷ []) ≡ true → in_quotes (q ∷ t) ≡ true → is_single_string (p ∷ q ∷ t) ≡ true
unfolding is_single_string
with_prefix p q t prefix h =
    or_right (is_prefix [] && in_quotes (p ∷ q ∷ t)) (split_any (λ u. is_prefix (p ∷ u)) in_quotes (q ∷ t))
    (or_left (is_prefix (p ∷ []) && in_quotes (q ∷ t)) (split_any (λ u. is_prefix (p ∷ q ∷ u)) in_quotes t)
    (and_from (is_prefix (p ∷ [])) (in_quotes (q ∷ t)) prefix h))

u_prefix : is_prefix (117 ∷ []) ≡ true
unfolding is_prefix
u_prefix = refl

b_prefix : is_prefix (98 ∷ []) ≡ true
unfolding is_prefix
b_prefix = refl

string_by : (t : List ℕ) → is_single_string t ≡ true → is_string t ≡ true
unfolding is_string
string_by t h = or_right (is_triple_string t) (is_single_string t) h

pub text_is_string : (points : List ℕ) → is_string (repr_chars points) ≡ true
text_is_string points =
    let q = quote_for points in
    string_by (repr_chars points) (without_prefix q (flat_map (escaped is_unprintable q) points ++ q ∷ [])
    (either_single is_unprintable q points (quote_mark points)))

pub u_text_is_string : (points : List ℕ) → is_string (117 ∷ repr_chars points) ≡ true
u_text_is_string points =
    let q = quote_for points in
    string_by (117 ∷ repr_chars points) (with_prefix 117 q (flat_map (escaped is_unprintable q) points ++ q ∷ []) u_prefix
    (either_single is_unprintable q points (quote_mark points)))

pub bytes_are_string : (bs : List ℕ) → is_string (repr_bytes bs) ≡ true
bytes_are_string bs =
    let q = quote_for bs in
    string_by (repr_bytes bs) (with_prefix 98 q (flat_map (escaped is_unprintable_byte q) bs ++ q ∷ []) b_prefix
    (either_single is_unprintable_byte q bs (quote_mark bs)))
