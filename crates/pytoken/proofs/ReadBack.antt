-- Carries: come_back. On: what a repr writes for a point is read as that point.
use Rattle.std.proofs.Common.{◌≡◌, ℕ, zero, suc, ◌+◌, ◌/◌, ◌%◌, ◌^◌, ◌<◌, ◌≤◌, Bool, true, false, ◌⊎◌, List, [], ◌∷◌, ◌++◌, length, take}
use Rattle.std.proofs.Common.{map, refl}
use Rattle.std.proofs.Common.{sym, subst, ap, ap₂, ◌∙◌, inl, inr, arith, length-append}
use Rattle.std.specs.Prelude.{◌==◌, ◌||◌, nat_lt, nat_le, All}
use Rattle.std.specs.List.{flat_map, list_all, take_while}
use Rattle.std.specs.Char.{digit_char, is_digit}
use Rattle.std.specs.Str.Parse.{digits_value}
use Rattle.std.proofs.Math.Nat.{pow-suc}
use Rattle.std.proofs.lemmas.Bool.{and_from, and_parts, or_parts, cases_Bool, eq-eqb, eqb-true, eqb-false, ne_eqb, le-leb, lt-ltb, ltb-true}
use Rattle.std.proofs.lemmas.Bool.{ltb-false}
use Rattle.std.proofs.lemmas.Bool.Decides.{nat_tests}
use Rattle.std.proofs.lemmas.Int.Digits.{digits_value_push}
use Rattle.std.proofs.lemmas.List.{take_at}
use Rattle.std.proofs.lemmas.List.Elements.{All-head, All-tail}
use Rattle.std.proofs.lemmas.List.Folds.{list_all-append}
use Rattle.std.proofs.lemmas.List.Sums.{take_while-cons}
use Rattle.std.proofs.lemmas.Str.{digit_value-digit_char}
use Rattle.pysource.specs.Reprs.{hex, hex_escape, escaped}
use Rattle.pytoken.specs.declared.meanings.Meaning.{Meaning}
use Rattle.pytoken.specs.declared.meanings.Meaning.TheVariants.{Point}
use Rattle.pytoken.specs.Escapes.{Reading, reads, hexadecimal, digits_at_front, escaped_by, meanings_after}

-- The forms of what stands between quotes

-- what a repr with the quotes q writes for a point c, where a test says
-- which points are unprintable
pub data Written (test : ℕ → Bool) (q c : ℕ) : List ℕ → Type 0 where
  marked : (c ≡ 92) ⊎ (c ≡ q) → Written test q c (92 ∷ c ∷ [])
  tab : c ≡ 9 → Written test q c (92 ∷ 116 ∷ [])
  feed : c ≡ 10 → Written test q c (92 ∷ 110 ∷ [])
  return : c ≡ 13 → Written test q c (92 ∷ 114 ∷ [])
  short : c < 0x100 → Written test q c (92 ∷ 120 ∷ hex 2 c)
  middle : 0x100 ≤ c → c < 0x1_0000 → Written test q c (92 ∷ 117 ∷ hex 4 c)
  long : 0x1_0000 ≤ c → Written test q c (92 ∷ 85 ∷ hex 8 c)
  itself : (c ≡ 92 → ⊥) → (c ≡ q → ⊥) → (c ≡ 13 → ⊥) → (c ≡ 10 → ⊥) → test c ≡ false → Written test q c (c ∷ [])

written_hex : (test : ℕ → Bool) (q c : ℕ) → Written test q c (hex_escape c)
written_hex test q c = elim (cases_Bool (nat_lt c 0x100)) [
  | inl low ↦ rw low (short (ltb-true c 0x100 low))
  | inr high ↦ elim (cases_Bool (nat_lt c 0x1_0000)) [
    | inl below ↦ rw (high, below) (middle (ltb-false c 0x100 high) (ltb-true c 0x1_0000 below))
    | inr above ↦ rw (high, above) (long (ltb-false c 0x1_0000 above))
  ]
]

pub written : (test : ℕ → Bool) (q c : ℕ) → Written test q c (escaped test q c)
written test q c = elim (cases_Bool ((c == 92) || (c == q))) [
  | inl mark ↦ rw mark (marked (which mark))
  | inr other ↦ elim (cases_Bool (c == 9)) [
    | inl is ↦ rw (other, is) (tab (eqb-true c 9 is))
    | inr no_tab ↦ elim (cases_Bool (c == 10)) [
      | inl is ↦ rw (other, no_tab, is) (feed (eqb-true c 10 is))
      | inr no_feed ↦ elim (cases_Bool (c == 13)) [
        | inl is ↦ rw (other, no_tab, no_feed, is) (return (eqb-true c 13 is))
        | inr no_return ↦ elim (cases_Bool (test c)) [
          | inl unprintable ↦ rw (other, no_tab, no_feed, no_return, unprintable) (written_hex test q c)
          | inr shown ↦
              let parts = or_parts (c == 92) (c == q) other in
              rw (other, no_tab, no_feed, no_return, shown) (itself (eqb-false c 92 parts.0) (eqb-false c q parts.1)
              (eqb-false c 13 no_return)
              (eqb-false c 10 no_feed) shown)
        ]
      ]
    ]
  ]
]
  where
    which : ((c == 92) || (c == q)) ≡ true → (c ≡ 92) ⊎ (c ≡ q)
    which h = elim (cases_Bool (c == 92)) [
      | inl is ↦ inl (eqb-true c 92 is)
      | inr differs ↦ inr (eqb-true c q (rw differs at h))
    ]

-- Digits

digit_is_hex : (d : ℕ) → d < 16 → is_digit (digit_char d) 16 ≡ true
digit_is_hex d h = rw (digit_value-digit_char d (omega arith)) (lt-ltb d 16 h)

hex_length : (n c : ℕ) → length (hex n c) ≡ n
hex_length zero c = refl
hex_length (suc n) c =
    let whole = length-append (hex n (c / 16)) (digit_char (c % 16) ∷ []) in
    let front = hex_length n (c / 16) in
    omega (arith, whole, front)

hex_digits : (n c : ℕ) → list_all (λ c. is_digit c 16) (hex n c) ≡ true
hex_digits zero c = refl
hex_digits (suc n) c =
    list_all-append (λ c. is_digit c 16) (hex n (c / 16)) (digit_char (c % 16) ∷ [])
    ∙ and_from (list_all (λ c. is_digit c 16) (hex n (c / 16)))
    (list_all (λ c. is_digit c 16) (digit_char (c % 16) ∷ [])) (hex_digits n (c / 16))
    (and_from (is_digit (digit_char (c % 16)) 16) true (digit_is_hex (c % 16) (omega arith)) refl)

hex_value : (n c : ℕ) → c < 16 ^ n → digits_value 16 (hex n c) ≡ c
hex_value zero c h = omega arith
hex_value (suc n) c h =
    let power = pow-suc 16 n in
    let front = hex_value n (c / 16) (omega (arith, power)) in
    let last = digit_value-digit_char (c % 16) (omega arith) in
    let whole = digits_value_push 16 (hex n (c / 16)) (digit_char (c % 16)) in
    omega (arith, front, last, whole)

take_while_all : (p : ℕ → Bool) (xs : List ℕ) → list_all p xs ≡ true → take_while p xs ≡ xs
take_while_all p [] h = refl
take_while_all p (x ∷ xs) h =
    let parts = and_parts (p x) (list_all p xs) h in
    take_while-cons p x xs ∙ (rw parts.0 (ap (λ (ys : List ℕ). x ∷ ys) (take_while_all p xs parts.1)))

at_front : (p : ℕ → Bool) (n : ℕ) (ds rest : List ℕ) → length ds ≡ n → list_all p ds ≡ true → take_while p (take n (ds ++ rest)) ≡ ds
at_front p n ds rest size all = ap (take_while p) (take_at ds rest n size) ∙ take_while_all p ds all

accepted : (n c : ℕ) (ds : List ℕ) → length ds ≡ n → digits_value 16 ds ≡ c → c ≤ 0x10_FFFF → hexadecimal n ds ≡ reads (Point c) (1 + n)
accepted n c ds size value most =
    let l : (length ds == n) ≡ true = eq-eqb (length ds) n size in
    let v : nat_le (digits_value 16 ds) 0x10_FFFF ≡ true = le-leb (digits_value 16 ds) 0x10_FFFF (omega (arith, value)) in
    rw (l, v) (ap₂ (λ (d k : ℕ). reads (Point d) (1 + k)) value size)

hex_read : (n c : ℕ) (rest : List ℕ) → c < 16 ^ n → c ≤ 0x10_FFFF
    → hexadecimal n (digits_at_front 16 n (hex n c ++ rest)) ≡ reads (Point c) (1 + n)
hex_read n c rest fits most =
    ap (hexadecimal n) (at_front (λ c. is_digit c 16) n (hex n c) rest (hex_length n c) (hex_digits n c))
    ∙ accepted n c (hex n c) (hex_length n c) (hex_value n c fits) most

-- Escapes by their letters

by_backslash : (b : Bool) (cs : List ℕ) → escaped_by b (92 ∷ cs) ≡ reads (Point 92) 1
unfolding escaped_by
by_backslash true cs = refl
by_backslash false cs = refl

by_single : (b : Bool) (cs : List ℕ) → escaped_by b (39 ∷ cs) ≡ reads (Point 39) 1
unfolding escaped_by
by_single true cs = refl
by_single false cs = refl

by_double : (b : Bool) (cs : List ℕ) → escaped_by b (34 ∷ cs) ≡ reads (Point 34) 1
unfolding escaped_by
by_double true cs = refl
by_double false cs = refl

by_mark : (b : Bool) (c : ℕ) (cs : List ℕ) → (c ≡ 92) ⊎ ((c ≡ 39) ⊎ (c ≡ 34)) → escaped_by b (c ∷ cs) ≡ reads (Point c) 1
by_mark b c cs (inl is) = subst (λ (k : ℕ). escaped_by b (k ∷ cs) ≡ reads (Point k) 1) (sym is) (by_backslash b cs)
by_mark b c cs (inr (inl is)) = subst (λ (k : ℕ). escaped_by b (k ∷ cs) ≡ reads (Point k) 1) (sym is) (by_single b cs)
by_mark b c cs (inr (inr is)) = subst (λ (k : ℕ). escaped_by b (k ∷ cs) ≡ reads (Point k) 1) (sym is) (by_double b cs)

by_t : (b : Bool) (cs : List ℕ) → escaped_by b (116 ∷ cs) ≡ reads (Point 9) 1
unfolding escaped_by
by_t true cs = refl
by_t false cs = refl

by_n : (b : Bool) (cs : List ℕ) → escaped_by b (110 ∷ cs) ≡ reads (Point 10) 1
unfolding escaped_by
by_n true cs = refl
by_n false cs = refl

by_r : (b : Bool) (cs : List ℕ) → escaped_by b (114 ∷ cs) ≡ reads (Point 13) 1
unfolding escaped_by
by_r true cs = refl
by_r false cs = refl

by_x : (b : Bool) (cs : List ℕ) → escaped_by b (120 ∷ cs) ≡ hexadecimal 2 (digits_at_front 16 2 cs)
unfolding escaped_by
by_x b cs = refl

by_u : (cs : List ℕ) → escaped_by false (117 ∷ cs) ≡ hexadecimal 4 (digits_at_front 16 4 cs)
unfolding escaped_by
by_u cs = refl

by_U : (cs : List ℕ) → escaped_by false (85 ∷ cs) ≡ hexadecimal 8 (digits_at_front 16 8 cs)
unfolding escaped_by
by_U cs = refl

-- Readings

step : (b : Bool) (cs : List ℕ) (r : Reading) → escaped_by b cs ≡ r →
    meanings_after false b 0 (92 ∷ cs) ≡ r.meaning ∷ meanings_after false b r.more cs
step b cs r e = ap (λ (s : Reading). s.meaning ∷ meanings_after false b s.more cs) e

plain : (b : Bool) (c : ℕ) (cs : List ℕ) → (c == 92) ≡ false → meanings_after false b 0 (c ∷ cs) ≡ Point c ∷ meanings_after false b 0 cs
plain b c cs other = rw other refl

-- a quote
abbrev pub IsMark : ℕ → Type 0
IsMark q = (q ≡ 39) ⊎ (q ≡ 34)

-- a point that a literal can hold: of a text, or of bytes
pub record Fits (bytes : Bool) (c : ℕ) : Type 0 where
  pub most : c ≤ 0x10_FFFF
  pub byte : bytes ≡ true → c < 0x100

pub reads_back : (test : ℕ → Bool) (b : Bool) (q c : ℕ) (rest text : List ℕ) → IsMark q → Fits b c → Written test q c text
    → meanings_after false b 0 (text ++ rest) ≡ Point c ∷ meanings_after false b 0 rest
reads_back test b q c rest text mark fits (marked which) = step b (c ∷ rest) (reads (Point c) 1) (by_mark b c rest (turned which))
  where
    turned : (c ≡ 92) ⊎ (c ≡ q) → (c ≡ 92) ⊎ ((c ≡ 39) ⊎ (c ≡ 34))
    turned (inl is) = inl is
    turned (inr is) = elim mark [ inl single ↦ inr (inl (is ∙ single)) | inr double ↦ inr (inr (is ∙ double)) ]
reads_back test b q c rest text mark fits (tab is) =
    step b (116 ∷ rest) (reads (Point c) 1) (by_t b rest ∙ ap (λ (k : ℕ). reads (Point k) 1) (sym is))
reads_back test b q c rest text mark fits (feed is) =
    step b (110 ∷ rest) (reads (Point c) 1) (by_n b rest ∙ ap (λ (k : ℕ). reads (Point k) 1) (sym is))
reads_back test b q c rest text mark fits (return is) =
    step b (114 ∷ rest) (reads (Point c) 1) (by_r b rest ∙ ap (λ (k : ℕ). reads (Point k) 1) (sym is))
reads_back test b q c rest text mark fits (short low) =
    step b (120 ∷ hex 2 c ++ rest) (reads (Point c) 3) (by_x b (hex 2 c ++ rest) ∙ hex_read 2 c rest low fits.most)
reads_back test true q c rest text mark fits (middle high below) = absurd (omega (arith, fits.byte refl))
reads_back test false q c rest text mark fits (middle high below) =
    step false (117 ∷ hex 4 c ++ rest) (reads (Point c) 5) (by_u (hex 4 c ++ rest) ∙ hex_read 4 c rest below fits.most)
reads_back test true q c rest text mark fits (long above) = absurd (omega (arith, fits.byte refl))
reads_back test false q c rest text mark fits (long above) =
    step false (85 ∷ hex 8 c ++ rest) (reads (Point c) 9) (by_U (hex 8 c ++ rest) ∙ hex_read 8 c rest (omega (arith, fits.most)) fits.most)
reads_back test b q c rest text mark fits (itself no_slash no_quote no_return no_feed shown) = plain b c rest (ne_eqb c 92 no_slash)

-- all points
pub all_read_back : (test : ℕ → Bool) (b : Bool) (q : ℕ) (cs : List ℕ) → IsMark q → All (Fits b) cs
    → meanings_after false b 0 (flat_map (escaped test q) cs) ≡ map (λ c. Point c) cs
all_read_back test b q [] mark fit = refl
all_read_back test b q (c ∷ cs) mark fit =
    reads_back test b q c (flat_map (escaped test q) cs) (escaped test q c) mark (All-head (Fits b) c cs fit) (written test q c)
    ∙ ap (λ (ms : List Meaning). Point c ∷ ms) (all_read_back test b q cs mark (All-tail (Fits b) c cs fit))

-- What is written is of characters that pass a test, if those of ASCII that show do, and each
-- point that is shown as it is

hex_pass : (p : ℕ → Bool) → ((a : ℕ) → 33 ≤ a → a ≤ 126 → p a ≡ true) → (n c : ℕ) → list_all p (hex n c) ≡ true
hex_pass p ascii zero c = refl
hex_pass p ascii (suc n) c =
    let d = digit_bounds (c % 16) (omega arith) in
    list_all-append p (hex n (c / 16)) (digit_char (c % 16) ∷ [])
    ∙ and_from (list_all p (hex n (c / 16))) (list_all p (digit_char (c % 16) ∷ [])) (hex_pass p ascii n (c / 16))
    (and_from (p (digit_char (c % 16))) true (ascii (digit_char (c % 16)) d.0 d.1) refl)
  where
    digit_bounds : (d : ℕ) → d < 16 → (33 ≤ digit_char d) × (digit_char d ≤ 126)
    digit_bounds d h = (grind (arith, nat_tests), grind (arith, nat_tests))

two : (p : ℕ → Bool) (a : ℕ) (t : List ℕ) → p a ≡ true → list_all p t ≡ true → list_all p (a ∷ t) ≡ true
two p a t first others = and_from (p a) (list_all p t) first others

pub written_pass : (test p : ℕ → Bool) (q c : ℕ) (text : List ℕ) → IsMark q → ((a : ℕ) → 33 ≤ a → a ≤ 126 → p a ≡ true) →
    ((c ≡ 13 → ⊥) → test c ≡ false → p c ≡ true)
    → Written test q c text → list_all p text ≡ true
written_pass test p q c text mark ascii itself_passes (marked which) =
    two p 92 (c ∷ []) (ascii 92 (omega arith) (omega arith)) (two p c [] (elim which [
      | inl is ↦ ascii c (omega (arith, is)) (omega (arith, is))
      | inr is ↦ elim mark [
        | inl single ↦ ascii c (omega (arith, is, single)) (omega (arith, is, single))
        | inr double ↦ ascii c (omega (arith, is, double)) (omega (arith, is, double))
      ]
    ]) refl)
written_pass test p q c text mark ascii itself_passes (tab is) =
    two p 92 (116 ∷ []) (ascii 92 (omega arith) (omega arith)) (two p 116 [] (ascii 116 (omega arith) (omega arith)) refl)
written_pass test p q c text mark ascii itself_passes (feed is) =
    two p 92 (110 ∷ []) (ascii 92 (omega arith) (omega arith)) (two p 110 [] (ascii 110 (omega arith) (omega arith)) refl)
written_pass test p q c text mark ascii itself_passes (return is) =
    two p 92 (114 ∷ []) (ascii 92 (omega arith) (omega arith)) (two p 114 [] (ascii 114 (omega arith) (omega arith)) refl)
written_pass test p q c text mark ascii itself_passes (short low) = two p 92 (120 ∷ hex 2 c) (ascii 92 (omega arith) (omega arith))
    (two p 120 (hex 2 c) (ascii 120 (omega arith) (omega arith)) (hex_pass p ascii 2 c))
written_pass test p q c text mark ascii itself_passes (middle high below) =
    two p 92 (117 ∷ hex 4 c) (ascii 92 (omega arith) (omega arith)) (two p 117 (hex 4 c) (ascii 117 (omega arith) (omega arith))
    (hex_pass p ascii 4 c))
written_pass test p q c text mark ascii itself_passes (long above) =
    two p 92 (85 ∷ hex 8 c) (ascii 92 (omega arith) (omega arith))
    (two p 85 (hex 8 c) (ascii 85 (omega arith) (omega arith)) (hex_pass p ascii 8 c))
written_pass test p q c text mark ascii itself_passes (itself no_slash no_quote no_return no_feed shown) =
    two p c [] (itself_passes no_return shown) refl

pub all_pass : (test p : ℕ → Bool) (q : ℕ) (cs : List ℕ) → IsMark q → ((a : ℕ) → 33 ≤ a → a ≤ 126 → p a ≡ true)
    → All (λ c. (c ≡ 13 → ⊥) → test c ≡ false → p c ≡ true) cs → list_all p (flat_map (escaped test q) cs) ≡ true
all_pass test p q [] mark ascii shown = refl
all_pass test p q (c ∷ cs) mark ascii shown =
    let P : ℕ → Type 0 = λ k. (k ≡ 13 → ⊥) → test k ≡ false → p k ≡ true in
    list_all-append p (escaped test q c) (flat_map (escaped test q) cs)
    ∙ and_from (list_all p (escaped test q c)) (list_all p (flat_map (escaped test q) cs))
    (written_pass test p q c (escaped test q c) mark ascii (All-head P c cs shown) (written test q c))
    (all_pass test p q cs mark ascii (All-tail P c cs shown))

-- it doesn't begin with the quote
pub data Begins (q : ℕ) : List ℕ → Type 0 where
  begins : (a : ℕ) (t : List ℕ) → (a == q) ≡ false → Begins q (a ∷ t)

slash_first : (q : ℕ) (t : List ℕ) → IsMark q → Begins q (92 ∷ t)
slash_first q t (inl is) = begins 92 t (ne_eqb 92 q (λ e. absurd (omega (arith, e, is))))
slash_first q t (inr is) = begins 92 t (ne_eqb 92 q (λ e. absurd (omega (arith, e, is))))

pub written_begins : (test : ℕ → Bool) (q c : ℕ) (text rest : List ℕ) → IsMark q → Written test q c text → Begins q (text ++ rest)
written_begins test q c text rest mark (marked which) = slash_first q (c ∷ rest) mark
written_begins test q c text rest mark (tab is) = slash_first q (116 ∷ rest) mark
written_begins test q c text rest mark (feed is) = slash_first q (110 ∷ rest) mark
written_begins test q c text rest mark (return is) = slash_first q (114 ∷ rest) mark
written_begins test q c text rest mark (short low) = slash_first q (120 ∷ hex 2 c ++ rest) mark
written_begins test q c text rest mark (middle high below) = slash_first q (117 ∷ hex 4 c ++ rest) mark
written_begins test q c text rest mark (long above) = slash_first q (85 ∷ hex 8 c ++ rest) mark
written_begins test q c text rest mark (itself no_slash no_quote no_return no_feed shown) = begins c rest (ne_eqb c q no_quote)
