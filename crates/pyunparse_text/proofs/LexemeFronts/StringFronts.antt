-- A literal in one quote at the front of a text.
--
-- Carries: string_front, units_slash, for PieceFronts, Literals. On: Fronts, Cases.
use Rattle.std.proofs.Common.{◌≡◌, ℕ, ◌+◌, ◌≤◌, Bool, true, false, not, ◌&&◌, ◌||◌, ◌==◌, List, [], ◌∷◌, ◌++◌, length, take, drop, map}
use Rattle.std.proofs.Common.{refl, sym}
use Rattle.std.proofs.Common.{◌∙◌, ap, subst, arith, suc, ⊎_elim, Some, leb, length-append, append_assoc}
use Rattle.std.specs.List.{list_all, list_any}
use Rattle.std.specs.Str.{bytes_eq}
use Rattle.std.proofs.Math.Seq.{take-append_seam, drop-append_seam}
use Rattle.std.proofs.lemmas.Bool.{eqb-true, leb-true, cases_Bool, not-true, or_cases, and_parts, or_parts}
use Rattle.std.proofs.lemmas.Slice.Eq.{bytes_eq-Decides}
use Rattle.pylex_lexeme.specs.declared.lexeme.Class.TheVariants.{String}
use Rattle.pylex_lexeme.specs.Chars.{begins, is_comment_part}
use Rattle.pylex_lexeme.specs.Numbers.{split_any, is_nil}
use Rattle.pylex_lexeme.specs.Strings.{units, is_unit, no_units, ends_by_one, is_single, is_single_string, is_prefix, prefixes, lower}
use Rattle.pylex_lexeme.specs.Strings.{begins_quote}
use Rattle.pylex_lexeme.specs.Strings.{counts_as_string}
use Rattle.pylex_lexeme.specs.Lengths.{Opens, shift, single_of, single_len, quoted_len, begins_quotes, longest}
use Rattle.pylex_lexeme.specs.Lexemes.{lexeme_at}
use Rattle.pylex_lexeme.proofs.Callers.Strings.{IsQuote, quote_is, units_plain, nil_units, unit_one, unit_slash, Which, one, two}
use Rattle.pylex_lexeme.proofs.Callers.Strings.{string_reads}
use Rattle.pylex_lexeme.proofs.Callers.Strings.{longest_reads, string_opens}
use Rattle.pylex_lexeme.proofs.Callers.Lexemes.{string_takes}
use Rattle.pyfstring_tokens.proofs.Callers.Lexemes.{is_lexeme}
use Rattle.pyunparse_text.proofs.LexemeFronts.Fronts.{leaves}

-- A front and a rest that pass
pub record Split (p q : List ℕ → Bool) (t : List ℕ) : Type 0 where
  pub front : List ℕ
  pub rest : List ℕ
  pub whole : t ≡ front ++ rest
  pub front_passes : p front ≡ true
  pub rest_passes : q rest ≡ true

pub split_of : (p q : List ℕ → Bool) (t : List ℕ) → split_any p q t ≡ true → Split p q t
split_of p q [] e = let h = and_parts (p []) (q []) e in record {
  front = [];
  rest = [];
  whole = refl;
  front_passes =
      h.0;
  rest_passes = h.1;
}
split_of p q (c ∷ t) e =
    ⊎_elim
    (λ (h : (p [] && q (c ∷ t)) ≡ true). let i = and_parts (p []) (q (c ∷ t)) h in
    record { front = []; rest = c ∷ t; whole = refl; front_passes = i.0; rest_passes = i.1 })
    (λ (h : split_any (λ u. p (c ∷ u)) q t ≡ true). let s = split_of (λ u. p (c ∷ u)) q t h in
    record {
      front = c ∷ s.front;
      rest = s.rest;
      whole = ap (λ u. c ∷ u) s.whole;
      front_passes = s.front_passes;
      rest_passes = s.rest_passes;
    })
    (or_cases (p [] && q (c ∷ t)) (split_any (λ u. p (c ∷ u)) q t) e)

-- A prefix has at most two letters.
among_short : (n : ℕ) (t : List ℕ) (os : List (List ℕ)) → list_all (λ o. leb (length o) n) os ≡ true
    → list_any (bytes_eq t) os ≡ true → length t ≤ n
among_short n t [] a e = cc
among_short n t (o ∷ os) a e =
    let q = and_parts (leb (length o) n) (list_all (λ o. leb (length o) n) os) a in
    ⊎_elim
    (λ (h : bytes_eq t o ≡ true). let f : length t ≡ length o = ap length ((bytes_eq-Decides t o).0 h) in let g =
    leb-true (length o) n q.0 in omega arith)
    (λ (h : list_any (bytes_eq t) os ≡ true). among_short n t os q.1 h)
    (or_cases (bytes_eq t o) (list_any (bytes_eq t) os) e)

lowered : (t : List ℕ) → length (map lower t) ≡ length t
lowered [] = refl
lowered (c ∷ t) = ap suc (lowered t)

prefix_short : (t : List ℕ) → is_prefix t ≡ true → length t ≤ 2
unfolding is_prefix
prefix_short t e = let s = among_short 2 (map lower t) prefixes refl e in let l = lowered t in omega arith

-- The units of a body, up to its quote, are the same where more follows.
pub units_slash : (b : ℕ) (t : List ℕ) → (b == 13) ≡ false → units (92 ∷ b ∷ t) ≡ (92 ∷ b ∷ []) ∷ units t
units_slash b [] e = refl
units_slash b (c ∷ t) e = rw e refl

abbrev Following : ℕ → List ℕ → List ℕ → Type 0
Following q r t = list_all is_comment_part t ≡ true → ends_by_one q (units t) ≡ true → single_of q (units (t ++ r)) ≡ length t

longer_by : (q n : ℕ) (t : List ℕ) → ends_by_one q (units t) ≡ true → shift n (length t) ≡ n + length t
longer_by q n [] e = cc
longer_by q n (b ∷ t) e = refl

following_plain : (q c : ℕ) (t r : List ℕ) → (c == 92) ≡ false → Following q r t → Following q r (c ∷ t)
following_plain q c t r h f a e =
    let p = and_parts (is_comment_part c) (list_all is_comment_part t) a in
    let g : ends_by_one q ((c ∷ []) ∷ units t) ≡ true = subst (λ (u : List (List ℕ)). ends_by_one q u ≡ true) (units_plain c t h) e in
    ap (single_of q) (units_plain c (t ++ r) h)
    ∙ ⊎_elim
    (λ (i : is_unit q (c ∷ []) ≡ true). let z : no_units (units t) ≡ true = rw i at g in rw i (nothing t (sym (nil_units t) ∙ z)))
    (λ (i : is_unit q (c ∷ []) ≡ false).
    let j : (not (is_unit 13 (c ∷ [])) && not (is_unit 10 (c ∷ [])) && ends_by_one q (units t)) ≡ true = rw i at g in
    let j1 = and_parts (not (is_unit 13 (c ∷ [])) && not (is_unit 10 (c ∷ []))) (ends_by_one q (units t)) j in
    let j2 = and_parts (not (is_unit 13 (c ∷ []))) (not (is_unit 10 (c ∷ []))) j1.0 in
    let k = not-true (is_unit 13 (c ∷ [])) j2.0 in
    let l = not-true (is_unit 10 (c ∷ [])) j2.1 in
    let m : 1 + length t ≡ suc (length t) = omega arith in
    rw (i, k, l) (ap (shift 1) (f p.1 j1.1) ∙ longer_by q 1 t j1.1 ∙ m))
    (cases_Bool (is_unit q (c ∷ [])))
  where
    nothing : (t : List ℕ) → is_nil t ≡ true → 1 ≡ suc (length t)
    nothing [] z = refl
    nothing (d ∷ t) z = cc

after_slash : (q b : ℕ) (t r : List ℕ) → IsQuote q → Following q r t → Following q r (92 ∷ b ∷ t)
after_slash q b t r k f a e =
    let p1 = and_parts (is_comment_part b) (list_all is_comment_part t) a in
    let p2 = and_parts (not (b == 10)) (not (b == 13)) p1.0 in
    let n = not-true (b == 13) p2.1 in
    let u = unit_slash q 92 (b ∷ []) k.slash refl in
    let g : ends_by_one q ((92 ∷ b ∷ []) ∷ units t) ≡ true = subst (λ (x : List (List ℕ)). ends_by_one q x ≡ true) (units_slash b t n) e in
    let h : ends_by_one q (units t) ≡ true = rw u at g in
    let m : 2 + length t ≡ suc (suc (length t)) = omega arith in
    ap (single_of q) (units_slash b (t ++ r) n) ∙ rw u (ap (shift 2) (f p1.1 h) ∙ longer_by q 2 t h ∙ m)

slash_alone : (q : ℕ) (r : List ℕ) → IsQuote q → Following q r (92 ∷ [])
slash_alone q r k a e = let n = unit_slash q 92 [] k.slash refl in let z : false ≡ true = rw n at e in cc

pub single_following : (q : ℕ) → IsQuote q → (t r : List ℕ) → Following q r t
single_following q k [] r = λ a e. cc
single_following q k (c ∷ []) r =
    ⊎_elim
    (λ (h : (c == 92) ≡ true). subst (λ (x : ℕ). Following q r (x ∷ [])) (sym (eqb-true c 92 h)) (slash_alone q r k))
    (λ (h : (c == 92) ≡ false). following_plain q c [] r h (λ a e. cc))
    (cases_Bool (c == 92))
single_following q k (c ∷ b ∷ t) r =
    ⊎_elim
    (λ (h : (c == 92) ≡ true). subst (λ (x : ℕ). Following q r (x ∷ b ∷ t)) (sym (eqb-true c 92 h))
    (after_slash q b t r k (single_following q k t r)))
    (λ (h : (c == 92) ≡ false). following_plain q c (b ∷ t) r h (single_following q k (b ∷ t) r))
    (cases_Bool (c == 92))

-- no three quotes stand at a literal in one quote, nor where a quote doesn't follow it
no_three : (q : ℕ) → IsQuote q → (t r : List ℕ) → ends_by_one q (units t) ≡ true → begins (λ c. c == q) r ≡ false
    → begins_quotes q (q ∷ t ++ r) ≡ false
no_three q k [] r e b = cc
no_three q k (c ∷ t) r e b =
    ⊎_elim
    (λ (h : (c == q) ≡ true).
    let f : c ≡ q = eqb-true c q h in
    let n : (c == 92) ≡ false = rw f k.other in
    let g : ends_by_one q ((c ∷ []) ∷ units t) ≡ true = subst (λ (u : List (List ℕ)). ends_by_one q u ≡ true) (units_plain c t n) e in
    let i : is_unit q (c ∷ []) ≡ true = unit_one q c ∙ h in
    let z : no_units (units t) ≡ true = rw i at g in
    last t (sym (nil_units t) ∙ z))
    (λ (h : (c == q) ≡ false). rw h (none (q == q)))
    (cases_Bool (c == q))
  where
    none : (x : Bool) → (x && false && begins (λ d. d == q) (t ++ r)) ≡ false
    none true = refl
    none false = refl

    right : (x y z : Bool) → z ≡ false → (x && y && z) ≡ false
    right x y z e = rw e (both (x && y))
      where
        both : (x : Bool) → (x && false) ≡ false
        both true = refl
        both false = refl

    last : (t : List ℕ) → is_nil t ≡ true → begins_quotes q (q ∷ c ∷ t ++ r) ≡ false
    last [] z = right (q == q) (c == q) (begins (λ d. d == q) r) b
    last (d ∷ t) z = cc

-- what is read from its quote on
quoted_after : (q : ℕ) → IsQuote q → (t r : List ℕ) → list_all is_comment_part t ≡ true → ends_by_one q (units t) ≡ true
    → begins (λ c. c == q) r ≡ false → quoted_len q (q ∷ t ++ r) ≡ length (q ∷ t)
unfolding quoted_len single_len
quoted_after q k t r a e b =
    let n = no_three q k t r e b in
    let s = single_following q k t r a e in
    let l = longer_by q 1 t e in
    let m : 1 + length t ≡ suc (length t) = omega arith in
    rw (n, s) (l ∙ m)

no_quote_of : (q : ℕ) (r : List ℕ) → Which q → begins_quote r ≡ false → begins (λ c. c == q) r ≡ false
no_quote_of q [] w e = refl
no_quote_of q (c ∷ r) (one f) e = let p = or_parts (c == 39) (c == 34) e in rw f p.0
no_quote_of q (c ∷ r) (two f) e = let p = or_parts (c == 39) (c == 34) e in rw f p.1

quote_of : (q : ℕ) → Which q → IsQuote q
quote_of q (one f) = quote_is q (rw f refl)
quote_of q (two f) = quote_is q (rw f refl)

begins_which : (q : ℕ) (t : List ℕ) → Which q → begins_quote (q ∷ t) ≡ true
begins_which q t (one f) = rw f refl
begins_which q t (two f) = rw f refl

-- a prefix, a quote, and a body up to that quote
literal_front : (q : ℕ) (a t r : List ℕ) → Which q → is_prefix a ≡ true → list_all is_comment_part t ≡ true → ends_by_one q (units t) ≡ true
    → begins_quote r ≡ false → lexeme_at ((a ++ q ∷ t) ++ r) ≡ Some (record { «class» = String; text = a ++ q ∷ t })
literal_front q a t r w p c e b =
    let cs : List ℕ = (a ++ q ∷ t) ++ r in
    let s : cs ≡ a ++ (q ∷ t ++ r) = append_assoc a (q ∷ t) r in
    let d : drop (length a) cs ≡ q ∷ t ++ r = ap (drop (length a)) s ∙ drop-append_seam a (q ∷ t ++ r) in
    let f : take (length a) cs ≡ a = ap (take (length a)) s ∙ take-append_seam a (q ∷ t ++ r) in
    let o : Opens (length a) cs =
    record { small = prefix_short a p; «prefix» = ap is_prefix f ∙ p; quote = ap begins_quote d ∙ begins_which q (t ++ r) w } in
    let l : quoted_len q (drop (length a) cs) ≡ suc (length t) = ap (quoted_len q) d
    ∙ quoted_after q (quote_of q w) t r c e (no_quote_of q r w b) in
    let m : longest (counts_as_string cs) cs ≡ length a + suc (length t) =
    longest_reads (counts_as_string cs) cs (shift (length a) (quoted_len q (drop (length a) cs)))
    (string_reads q (length a) cs (t ++ r) w o d)
    ∙ ap (shift (length a)) l in
    let k = string_takes cs (drop (longest (counts_as_string cs) cs) cs) (string_opens (length a) cs o) (omega arith) refl in
    let n : longest (counts_as_string cs) cs ≡ length (a ++ q ∷ t) = m ∙ sym (length-append a (q ∷ t)) in
    is_lexeme (a ++ q ∷ t) r String (leaves (a ++ q ∷ t) r String (longest (counts_as_string cs) cs) n k)

all_after : (a t : List ℕ) → list_all is_comment_part (a ++ t) ≡ true → list_all is_comment_part t ≡ true
all_after [] t e = e
all_after (c ∷ a) t e = all_after a t (and_parts (is_comment_part c) (list_all is_comment_part (a ++ t)) e).1

single_front : (q : ℕ) (a b r : List ℕ) → Which q → is_prefix a ≡ true → list_all is_comment_part (a ++ b) ≡ true → is_single q b ≡ true
    → begins_quote r ≡ false → lexeme_at ((a ++ b) ++ r) ≡ Some (record { «class» = String; text = a ++ b })
unfolding is_single
single_front q a [] r w p c e b = cc
single_front q a (x ∷ t) r w p c e b =
    let s = and_parts (x == q) (ends_by_one q (units t)) e in
    let f : x ≡ q = eqb-true x q s.0 in
    let d = and_parts (is_comment_part x) (list_all is_comment_part t) (all_after a (x ∷ t) c) in
    subst (λ (y : ℕ). lexeme_at ((a ++ y ∷ t) ++ r) ≡ Some (record { «class» = String; text = a ++ y ∷ t })) (sym f)
    (literal_front q a t r w p d.1 s.1 b)

pub string_front : (t r : List ℕ) → is_single_string t ≡ true → list_all is_comment_part t ≡ true → begins_quote r ≡ false
    → lexeme_at (t ++ r) ≡ Some (record { «class» = String; text = t })
unfolding is_single_string
string_front t r e c b =
    let s = split_of is_prefix (λ u. is_single 39 u || is_single 34 u) t e in
    let d : list_all is_comment_part (s.front ++ s.rest) ≡ true = subst (λ (u : List ℕ). list_all is_comment_part u ≡ true) s.whole c in
    subst (λ (u : List ℕ). lexeme_at (u ++ r) ≡ Some (record { «class» = String; text = u })) (sym s.whole)
    (⊎_elim
    (λ (h : is_single 39 s.rest ≡ true). single_front 39 s.front s.rest r (one refl) s.front_passes d h b)
    (λ (h : is_single 34 s.rest ≡ true). single_front 34 s.front s.rest r (two refl) s.front_passes d h b)
    (or_cases (is_single 39 s.rest) (is_single 34 s.rest) s.rest_passes))
