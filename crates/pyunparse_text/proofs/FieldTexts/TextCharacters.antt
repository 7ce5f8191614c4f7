-- What stands for a character of a text in an f-string is read as that character again (reference 2.4.1 and 2.4.3).
--
-- Carries: can_stand, Comes, character_comes, brace_of, for Texts. On: TextUnits, Literals, Scalars, and what pytoken proves of reprs.
use Rattle.std.proofs.Common.{◌≡◌, ℕ, zero, suc, ◌/◌, ◌%◌, ◌<◌, ◌≤◌, Bool, true, false, not, ◌&&◌, ◌||◌, ◌==◌, List, [], ◌∷◌, ◌++◌, ◌⊎◌}
use Rattle.std.proofs.Common.{inl, inr}
use Rattle.std.proofs.Common.{refl, sym, ◌∙◌, subst, arith, if◌then◌else◌}
use Rattle.std.specs.Prelude.{nat_lt}
use Rattle.std.specs.Char.{digit_char}
use Rattle.std.specs.List.{list_all}
use Rattle.std.specs.Str.{all_scalars}
use Rattle.std.proofs.lemmas.Bool.{and_from, cases_Bool, eqb-true, ne_eqb, leb-true, false_from_ne_true, not-true, or_cases, and_parts}
use Rattle.std.proofs.lemmas.Bool.Decides.{nat_tests}
use Rattle.std.proofs.lemmas.List.Folds.{list_all-append}
use Rattle.ucd_category.proofs.Computing.{ucd_category}
use Rattle.std.proofs.lemmas.Bool.{or_parts}
use Rattle.pyfstring.specs.Texts.{is_brace}
use Rattle.pyfstring.specs.Expressions.{is_quote}
use Rattle.pysource.specs.Reprs.{hex, hex_escape, escaped, is_unprintable}
use Rattle.pylex_lexeme.specs.Chars.{is_comment_part}
use Rattle.pytoken.specs.declared.meanings.Meaning.TheVariants.{Point}
use Rattle.pytoken.specs.Escapes.{meanings_after}
use Rattle.pytoken.specs.Laws.{is_point}
use Rattle.pytoken.proofs.Callers.Reprs.{Written, marked, tab, feed, return, short, middle, long, itself, written, Fits, reads_back}
use Rattle.pyunparse_text.specs.Pieces.{plain_text, character_text, quote}
use Rattle.pyunparse_text.proofs.SingleTokens.Literals.{Skips, own_skips, both_skip, escape_skips, escaped_skips}
use Rattle.pyunparse_text.proofs.SingleTokens.Scalars.{escape_scalar, escaped_scalar, own_char}
use Rattle.pyunparse_text.proofs.FieldTexts.Conditions.{is_own}
use Rattle.pyunparse_text.proofs.FieldTexts.TextUnits.{Units, units_own, units_pair, units_escape, units_both, is_unit, units_all}

-- A character that has a writing in a text of an f-string, by whether that stands in a field, and whether the text is one of a format spec:
-- a code
-- point; in a field a scalar that stands for itself, and in a spec there no brace.
abbrev pub can_stand : Bool → Bool → ℕ → Bool
can_stand false in_spec c = is_point c
can_stand true in_spec c = is_own c && (all_scalars (c ∷ []) && not (in_spec && is_brace c))

-- it is neither a CR nor U+0000
abbrev pub is_kept : ℕ → Bool
is_kept c = not (c == 13) && not (c == 0)

-- What stands for c in a text, where pairs of braces are read as one or not, between quotes q: it is whole units, stands for v but for
-- escapes,
-- and for c with them; it doesn't end a literal, and its characters are scalars.
pub record Comes (has_pairs : Bool) (q c : ℕ) (w v : List ℕ) : Type 0 where
  pub units : Units has_pairs w v
  pub read : (r : List ℕ) → meanings_after false false 0 (v ++ r) ≡ Point c ∷ meanings_after false false 0 r
  pub kept : list_all is_kept v ≡ true
  pub skips : Skips q w
  pub scalars : all_scalars w ≡ true
  pub whole : list_all is_kept w ≡ true

-- ---- Hexadecimal digits.

hex_all : (p : ℕ → Bool) → ((d : ℕ) → d < 16 → p (digit_char d) ≡ true) → (n c : ℕ) → list_all p (hex n c) ≡ true
hex_all p f zero c = refl
hex_all p f (suc n) c =
    list_all-append p (hex n (c / 16)) (digit_char (c % 16) ∷ [])
    ∙ and_from (list_all p (hex n (c / 16))) (list_all p (digit_char (c % 16) ∷ [])) (hex_all p f n (c / 16))
    (and_from (p (digit_char (c % 16))) true (f (c % 16) (omega arith)) refl)

digit_unit : (d : ℕ) → d < 16 → is_unit (digit_char d) ≡ true
digit_unit d h = grind (arith, nat_tests)

digit_kept : (d : ℕ) → d < 16 → is_kept (digit_char d) ≡ true
digit_kept d h = grind (arith, nat_tests)

-- ---- What a repr writes.

-- its units, by its form
form_units : (has_pairs : Bool) (c : ℕ) (w : List ℕ) → is_brace c ≡ false → Written is_unprintable 39 c w → Units has_pairs w w
form_units has_pairs c w b (marked (inl is)) =
    subst (λ (x : ℕ). Units has_pairs (92 ∷ x ∷ []) (92 ∷ x ∷ [])) (sym is) (units_escape has_pairs 92 refl refl)
form_units has_pairs c w b (marked (inr is)) =
    subst (λ (x : ℕ). Units has_pairs (92 ∷ x ∷ []) (92 ∷ x ∷ [])) (sym is) (units_escape has_pairs 39 refl refl)
form_units has_pairs c w b (tab is) = units_escape has_pairs 116 refl refl
form_units has_pairs c w b (feed is) = units_escape has_pairs 110 refl refl
form_units has_pairs c w b (return is) = units_escape has_pairs 114 refl refl
form_units has_pairs c w b (short low) =
    units_both (hex 2 c) (hex 2 c) (units_escape has_pairs 120 refl refl) (units_all has_pairs (hex 2 c) (hex_all is_unit digit_unit 2 c))
form_units has_pairs c w b (middle high below) =
    units_both (hex 4 c) (hex 4 c) (units_escape has_pairs 117 refl refl) (units_all has_pairs (hex 4 c) (hex_all is_unit digit_unit 4 c))
form_units has_pairs c w b (long above) =
    units_both (hex 8 c) (hex 8 c) (units_escape has_pairs 85 refl refl) (units_all has_pairs (hex 8 c) (hex_all is_unit digit_unit 8 c))
form_units has_pairs c w b (itself no_slash no_quote no_return no_feed shown) = units_own has_pairs c (ne_eqb c 92 no_slash) b

-- its characters; U+0000 is not printable
form_kept : (c : ℕ) (w : List ℕ) → is_unprintable 0 ≡ true → Written is_unprintable 39 c w → list_all is_kept w ≡ true
form_kept c w z (marked (inl is)) = subst (λ (x : ℕ). list_all is_kept (92 ∷ x ∷ []) ≡ true) (sym is) refl
form_kept c w z (marked (inr is)) = subst (λ (x : ℕ). list_all is_kept (92 ∷ x ∷ []) ≡ true) (sym is) refl
form_kept c w z (tab is) = refl
form_kept c w z (feed is) = refl
form_kept c w z (return is) = refl
form_kept c w z (short low) = hex_all is_kept digit_kept 2 c
form_kept c w z (middle high below) = hex_all is_kept digit_kept 4 c
form_kept c w z (long above) = hex_all is_kept digit_kept 8 c
form_kept c w z (itself no_slash no_quote no_return no_feed shown) =
    one (ne_eqb c 13 no_return)
    (false_from_ne_true (c == 0)
    (λ h. let f : c ≡ 0 = eqb-true c 0 h in let n : is_unprintable 0 ≡ false = subst (λ (x : ℕ). is_unprintable x ≡ false) f shown in cc))
  where
    one : (c == 13) ≡ false → (c == 0) ≡ false → list_all is_kept (c ∷ []) ≡ true
    one r n = rw (r, n) refl

nul_unprintable : is_unprintable 0 ≡ true
unfolding ucd_category
nul_unprintable = refl

point_most : (c : ℕ) → is_point c ≡ true → c ≤ 0x10_FFFF
point_most c e = leb-true c 0x10_FFFF e

fits : (c : ℕ) → is_point c ≡ true → Fits false c
fits c e = record { most = point_most c e; byte = λ n. cc }

-- outside fields a character that is no brace is written as in a repr
escaped_comes : (has_pairs : Bool) (c : ℕ) → is_point c ≡ true → is_brace c ≡ false
    → Comes has_pairs 39 c (escaped is_unprintable 39 c) (escaped is_unprintable 39 c)
escaped_comes has_pairs c e b =
    let w = written is_unprintable 39 c in
    let k = form_kept c (escaped is_unprintable 39 c) nul_unprintable w in
    record {
      units = form_units has_pairs c (escaped is_unprintable 39 c) b w;
      read = λ r. reads_back is_unprintable false 39 c r (escaped is_unprintable 39 c) (inl refl) (fits c e) w;
      kept = k;
      skips = escaped_skips is_unprintable 39 c (inl refl);
      scalars = escaped_scalar is_unprintable 39 c (inl refl) (λ s. own_char c e s);
      whole = k;
    }

-- ---- Braces.

pub brace_of : (P : ℕ → Type 0) (c : ℕ) → P 123 → P 125 → is_brace c ≡ true → P c
brace_of P c a b e = elim (or_cases (c == 123) (c == 125) e) [
  | inl h ↦ subst P (sym (eqb-true c 123 h)) a
  | inr h ↦ subst P (sym (eqb-true c 125 h)) b
]

-- a pair of braces
pair_comes : (q c : ℕ) → (q ≡ 39) ⊎ (q ≡ 34) → is_brace c ≡ true → Comes true q c (c ∷ c ∷ []) (c ∷ [])
pair_comes q c w e =
    brace_of (λ x. Comes true q x (x ∷ x ∷ []) (x ∷ [])) c (at 123 refl refl refl (own q 123 refl refl refl refl w) refl refl)
    (at 125 refl refl refl (own q 125 refl refl refl refl w) refl refl) e
  where
    own : (q x : ℕ) → (x == 92) ≡ false → (x == 10) ≡ false → (x == 13) ≡ false → ((x == 39) || (x == 34)) ≡ false → (q ≡ 39) ⊎ (q ≡ 34)
        → Skips q (x ∷ [])
    own q x s f r n (inl h) =
        own_skips q x
        (record {
          slash = s;
          quote = subst (λ (y : ℕ). (x == y) ≡ false) (sym h) (or_parts (x == 39) (x == 34) n).0;
          feed = f;
          return = r;
        })
    own q x s f r n (inr h) =
        own_skips q x
        (record {
          slash = s;
          quote = subst (λ (y : ℕ). (x == y) ≡ false) (sym h) (or_parts (x == 39) (x == 34) n).1;
          feed = f;
          return = r;
        })

    at : (x : ℕ) → (x == 92) ≡ false → is_brace x ≡ true → (x == x) ≡ true → Skips q (x ∷ [])
        → all_scalars (x ∷ []) ≡ true → is_kept x ≡ true
        → Comes true q x (x ∷ x ∷ []) (x ∷ [])
    at x s b i k a n =
        let m = (and_parts _ true a).0 in
        record {
          units = units_pair x s b i;
          read = λ r. rw s refl;
          kept = rw n refl;
          skips = both_skip q (x ∷ []) (x ∷ []) k k;
          scalars = rw m refl;
          whole = rw n refl;
        }

-- an escape
brace_escaped : (c : ℕ) → is_brace c ≡ true → Comes false 39 c (hex_escape c) (hex_escape c)
brace_escaped c e =
    brace_of (λ x. Comes false 39 x (hex_escape x) (hex_escape x)) c (at 123 (omega arith) refl refl) (at 125 (omega arith) refl refl) e
  where
    at : (x : ℕ) → x < 0x100 → is_point x ≡ true → nat_lt x 0x100 ≡ true → Comes false 39 x (hex_escape x) (hex_escape x)
    at x l p n =
        let f : hex_escape x ≡ 92 ∷ 120 ∷ hex 2 x = rw n refl in
        let k = hex_all is_kept digit_kept 2 x in
        subst (λ (u : List ℕ). Comes false 39 x u u) (sym f) (record {
          units = units_both (hex 2 x) (hex 2 x) (units_escape false 120 refl refl)
              (units_all false (hex 2 x) (hex_all is_unit digit_unit 2 x));
          read = λ r. reads_back is_unprintable false 39 x r (92 ∷ 120 ∷ hex 2 x) (inl refl) (fits x p) (short l);
          kept = k;
          skips = subst (Skips 39) f (escape_skips 39 x (inl refl));
          scalars = subst (λ (u : List ℕ). all_scalars u ≡ true) f (escape_scalar x);
          whole = k;
        })

-- ---- Own characters.

own_comes : (has_pairs : Bool) (c : ℕ) → is_own c ≡ true → all_scalars (c ∷ []) ≡ true → is_brace c ≡ false
    → Comes has_pairs 34 c (c ∷ []) (c ∷ [])
own_comes has_pairs c o a b =
    let p1 = and_parts (not (is_quote c)) _ o in
    let p2 = and_parts (not (c == 92)) _ p1.1 in
    let p3 = and_parts (is_comment_part c) (not (c == 0)) p2.1 in
    let p4 = and_parts (not (c == 10)) (not (c == 13)) p3.0 in
    let q = (or_parts (c == 39) (c == 34) (not-true (is_quote c) p1.0)).1 in
    let s = not-true (c == 92) p2.0 in
    let r = not-true (c == 13) p4.1 in
    let z = not-true (c == 0) p3.1 in
    record {
      units = units_own has_pairs c s b;
      read = λ r. rw s refl;
      kept = rw (r, z) refl;
      skips = own_skips 34 c (record { slash = s; quote = q; feed = not-true (c == 10) p4.0; return = r });
      scalars = a;
      whole = rw (r, z) refl;
    }

-- ---- All.

-- what stands for a character but for escapes
abbrev pub single_text : Bool → Bool → ℕ → List ℕ
single_text is_in_field true c = character_text is_in_field true c
single_text is_in_field false c = if is_brace c then c ∷ [] else plain_text is_in_field c

field_comes : (in_spec : Bool) (c : ℕ) → can_stand true in_spec c ≡ true
    → Comes (not in_spec) 34 c (character_text true in_spec c) (single_text true in_spec c)
field_comes true c e =
    let p = and_parts (is_own c) _ e in
    let q = and_parts (all_scalars (c ∷ [])) (not (is_brace c)) p.1 in
    let b = not-true (is_brace c) q.1 in
    rw (b, q.0) (own_comes false c p.0 q.0 b)
field_comes false c e =
    let p = and_parts (is_own c) _ e in
    let a = (and_parts (all_scalars (c ∷ [])) true p.1).0 in
    elim (cases_Bool (is_brace c)) [
      | inl b ↦ rw b (pair_comes 34 c (inr refl) b)
      | inr b ↦ rw (b, a) (own_comes true c p.0 a b)
    ]

pub character_comes : (is_in_field in_spec : Bool) (c : ℕ) → can_stand is_in_field in_spec c ≡ true
    → Comes (not in_spec) (quote is_in_field) c (character_text is_in_field in_spec c) (single_text is_in_field in_spec c)
character_comes false false c e = elim (cases_Bool (is_brace c)) [
  | inl b ↦ rw b (pair_comes 39 c (inl refl) b)
  | inr b ↦ rw b (escaped_comes true c e b)
]
character_comes false true c e = elim (cases_Bool (is_brace c)) [
  | inl b ↦ rw b (brace_escaped c b)
  | inr b ↦ rw b (escaped_comes false c e b)
]
character_comes true in_spec c e = field_comes in_spec c e
