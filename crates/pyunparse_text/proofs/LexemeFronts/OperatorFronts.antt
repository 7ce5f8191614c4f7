-- An operator at the front of a text.
--
-- Carries: Sign, operator_head, operator_front, makes_number and 5 more, for PieceFronts,
-- Joins. On: Cases, Fronts.
use Rattle.std.proofs.Common.{◌≡◌, ℕ, ◌+◌, ◌-◌, ◌≤◌, ◌<◌, Bool, true, false, not, ◌&&◌, ◌||◌, ◌==◌, List, [], ◌∷◌, ◌++◌, length, take, refl}
use Rattle.std.proofs.Common.{sym, ◌∙◌}
use Rattle.std.proofs.Common.{ap, subst, arith, ⊎_elim, Some, eqb, ltb, length-append, append_assoc}
use Rattle.std.specs.Prelude.{nat_eq}
use Rattle.std.specs.List.{list_all, list_any, starts_with}
use Rattle.std.specs.Str.{bytes_eq}
use Rattle.std.specs.Char.{is_ascii_alphabetic, is_ascii_alphanumeric}
use Rattle.std.proofs.Math.Seq.{take-append_seam, take-append-add}
use Rattle.std.proofs.lemmas.Bool.{eqb-true, ltb-true, cases_Bool, false_from_ne_true, not-true, or_cases, and_parts}
use Rattle.std.proofs.lemmas.Bool.Decides.{nat_tests}
use Rattle.std.proofs.lemmas.Slice.Eq.{bytes_eq-Decides}
use Rattle.unicode_ident.specs.Ident.{is_xid_continue}
use Rattle.unicode_ident.proofs.IdentLemmas.{is_xid_start-ascii, is_xid_continue-ascii}
use Rattle.pylex_lexeme.specs.declared.lexeme.Class.TheVariants.{Operator as OperatorClass}
use Rattle.pylex_lexeme.specs.Chars.{begins, starts_name, is_blank_char, is_prefix_letter}
use Rattle.pylex_lexeme.specs.Numbers.{is_decimal_digit, is_point}
use Rattle.pylex_lexeme.specs.declared.kinds.Exact.{Exact}
use Rattle.pylex_lexeme.specs.Operators.{operators, exact_of, is_operator}
use Rattle.pylex_lexeme.specs.Lexemes.{lexeme_at}
use Rattle.pylex_lexeme.specs.Lengths.{longest, operator_at}
use Rattle.pylex_lexeme.specs.Cuts.{BeginsOther}
use Rattle.pylex_lexeme.proofs.Callers.Numbers.{longest_is}
use Rattle.pylex_lexeme.proofs.Callers.Fronts.{IsBest}
use Rattle.pylex_lexeme.proofs.Callers.Lexemes.{words, heads, by_words, no_operator, no_operator_none, opens_off, operator_takes}
use Rattle.pylex_lexeme.proofs.Callers.Lexemes.{point_words}
use Rattle.pyfstring_tokens.proofs.Callers.Lexemes.{is_lexeme}
use Rattle.pyunparse_text.specs.Spacing.{begins_operator}
use Rattle.pyunparse_text.proofs.LexemeFronts.Fronts.{leaves}

-- What holds of each of some characters holds of one that is among them.
pub of_any : (p : ℕ → Bool) (c : ℕ) (xs : List ℕ) → list_all p xs ≡ true → list_any (eqb c) xs ≡ true → p c ≡ true
of_any p c [] a e = cc
of_any p c (x ∷ xs) a e =
    let q = and_parts (p x) (list_all p xs) a in
    ⊎_elim
    (λ (h : eqb c x ≡ true). let f : c ≡ x = eqb-true c x h in rw f q.0)
    (λ (h : list_any (eqb c) xs ≡ true). of_any p c xs q.1 h)
    (or_cases (eqb c x) (list_any (eqb c) xs) e)

-- an ASCII character that stands in no name, begins no number and no string, and is neither a
-- blank, a line's end, a hash nor a backslash
abbrev pub is_sign_char : ℕ → Bool
is_sign_char c =
    (ltb c 128 && not (is_ascii_alphanumeric c || (c == 95))) &&
    (not (is_ascii_alphabetic c || (c == 95)) &&
    (not (is_decimal_digit c) &&
    (not (is_prefix_letter c) &&
    (not ((c == 39) || (c == 34)) &&
    (not (is_blank_char c) && (not (c == 35) && (not (c == 10) && (not (c == 13) && not (c == 92)))))))))

-- What the first character of an operator is not
pub record Sign (c : ℕ) : Type 0 where
  pub continues : is_xid_continue c ≡ false
  pub starts : starts_name c ≡ false
  pub digit : is_decimal_digit c ≡ false
  pub letter : is_prefix_letter c ≡ false
  pub quote : ((c == 39) || (c == 34)) ≡ false
  pub blank : is_blank_char c ≡ false
  pub hash : (c == 35) ≡ false
  pub feed : (c == 10) ≡ false
  pub return : (c == 13) ≡ false
  pub slash : (c == 92) ≡ false

pub sign_of : (c : ℕ) → is_sign_char c ≡ true → Sign c
sign_of c e =
    let a1 = and_parts (ltb c 128 && not (is_ascii_alphanumeric c || (c == 95))) _ e in
    let a2 = and_parts (ltb c 128) (not (is_ascii_alphanumeric c || (c == 95))) a1.0 in
    let a3 = and_parts (not (is_ascii_alphabetic c || (c == 95))) _ a1.1 in
    let a4 = and_parts (not (is_decimal_digit c)) _ a3.1 in
    let a5 = and_parts (not (is_prefix_letter c)) _ a4.1 in
    let a6 = and_parts (not ((c == 39) || (c == 34))) _ a5.1 in
    let a7 = and_parts (not (is_blank_char c)) _ a6.1 in
    let a8 = and_parts (not (c == 35)) _ a7.1 in
    let a9 = and_parts (not (c == 10)) _ a8.1 in
    let a10 = and_parts (not (c == 13)) _ a9.1 in
    let l : c < 128 = ltb-true c 128 a2.0 in
    record {
      continues = is_xid_continue-ascii c l ∙ not-true _ a2.1;
      starts = rw (is_xid_start-ascii c l) (not-true (is_ascii_alphabetic c || (c == 95)) a3.0);
      digit = not-true _ a4.0;
      letter = not-true _ a5.0;
      quote = not-true _ a6.0;
      blank = not-true _ a7.0;
      hash = not-true _ a8.0;
      feed = not-true _ a9.0;
      return = not-true _ a10.0;
      slash = not-true _ a10.1;
    }

pub operator_head : (c : ℕ) (t : List ℕ) → is_operator (c ∷ t) ≡ true → Sign c
operator_head c t e = sign_of c (of_any is_sign_char c (heads words) refl (among (list_any (eqb c) (heads words)) refl))
  where
    among : (b : Bool) → list_any (eqb c) (heads words) ≡ b → b ≡ true
    among true h = refl
    among false h = let f = no_operator c t h in cc

-- A front of an operator is a front of some operator.
begins_itself : (t u : List ℕ) → starts_with nat_eq (t ++ u) t ≡ true
begins_itself [] [] = refl
begins_itself [] (c ∷ u) = refl
begins_itself (c ∷ t) u = let e : nat_eq c c ≡ true = grind (arith, nat_tests) in rw e (begins_itself t u)

begins_of : (t u : List ℕ) (os : List (List ℕ)) → list_any (bytes_eq (t ++ u)) os ≡ true → list_any (λ o. starts_with nat_eq o t) os ≡ true
begins_of t u [] e = cc
begins_of t u (o ∷ os) e =
    ⊎_elim
    (λ (h : bytes_eq (t ++ u) o ≡ true).
    let s : starts_with nat_eq o t ≡ true =
    subst (λ (x : List ℕ). starts_with nat_eq x t ≡ true) ((bytes_eq-Decides (t ++ u) o).0 h) (begins_itself t u) in
    rw s refl)
    (λ (h : list_any (bytes_eq (t ++ u)) os ≡ true). right (starts_with nat_eq o t)
    (list_any (λ x. starts_with nat_eq x t) os) (begins_of t u os h))
    (or_cases (bytes_eq (t ++ u) o) (list_any (bytes_eq (t ++ u)) os) e)
  where
    right : (x y : Bool) → y ≡ true → (x || y) ≡ true
    right true y e = refl
    right false y e = e

pub begins_word : (t : List ℕ) → begins_operator t ≡ list_any (λ o. starts_with nat_eq o t) words
unfolding operators
begins_word t = refl

-- Where no operator begins with a text and one character more, none is that text and more.
pub none_begins : (t u : List ℕ) (c : ℕ) → begins_operator (t ++ c ∷ []) ≡ false → is_operator (t ++ c ∷ u) ≡ false
none_begins t u c e = false_from_ne_true (is_operator (t ++ c ∷ u)) (λ h.
    let w : list_any (bytes_eq ((t ++ c ∷ []) ++ u)) words ≡ true =
    ap (λ x. list_any (bytes_eq x) words) (append_assoc t (c ∷ []) u) ∙ sym (by_words (t ++ c ∷ u)) ∙ h in
    let b : begins_operator (t ++ c ∷ []) ≡ true = begins_word (t ++ c ∷ []) ∙ begins_of (t ++ c ∷ []) u words w in
    cc)

-- an operator is the longest at its place
operator_best : (t r : List ℕ) → is_operator t ≡ true → ((j : ℕ) → 0 < j → j ≤ length r → is_operator (t ++ take j r) ≡ false)
    → IsBest is_operator (t ++ r) (length t)
operator_best t r e f = let n = length-append t r in record {
  within = omega arith;
  passes = ap is_operator (take-append_seam t r) ∙ e;
  longest = λ j h i.
      let s : length t + (j - length t) ≡ j = omega arith in
      ap (λ k. is_operator (take k (t ++ r))) (sym s) ∙ ap is_operator (take-append-add t r (j - length t)) ∙ f (j - length t) (omega arith)
      (omega arith);
}

-- a point alone, and a digit after it
abbrev pub makes_number : List ℕ → List ℕ → Bool
makes_number t r = bytes_eq t (46 ∷ []) && begins is_decimal_digit r

no_number_begins : (c : ℕ) (t r : List ℕ) → is_operator (c ∷ t) ≡ true → makes_number (c ∷ t) r ≡ false
    → (is_point c && begins is_decimal_digit (t ++ r)) ≡ false
no_number_begins c [] r o e = ⊎_elim (λ (h : (c == 46) ≡ true). rw h (rw h at e))
    (λ (h : (c == 46) ≡ false). rw h refl) (cases_Bool (c == 46))
no_number_begins c (d ∷ t) r o e = false_from_ne_true (is_point c && is_decimal_digit d) (λ h.
    let p = and_parts (is_point c) (is_decimal_digit d) h in
    let f : c ≡ 46 = eqb-true c 46 p.0 in
    let n = point_words d t p.1 in
    let m : is_operator (46 ∷ d ∷ t) ≡ true = subst (λ (x : ℕ). is_operator (x ∷ d ∷ t) ≡ true) f o in
    cc)

-- An operator at the front of a text, where no longer one stands, and no number
pub operator_front : (t r : List ℕ) (x : Exact) → exact_of t ≡ Some x → is_operator t ≡ true
    → ((j : ℕ) → 0 < j → j ≤ length r → is_operator (t ++ take j r) ≡ false) → makes_number t r ≡ false
    → lexeme_at (t ++ r) ≡ Some (record { «class» = OperatorClass x; text = t })
unfolding operator_at
operator_front [] r x g e f n = let g = no_operator_none in cc
operator_front (c ∷ t) r x g e f n =
    let s = operator_head c t e in
    let l : longest is_operator (c ∷ t ++ r) ≡ length (c ∷ t) = longest_is is_operator (c ∷ t ++ r) (length (c ∷ t))
    (operator_best (c ∷ t) r e f) in
    let o : BeginsOther (c ∷ t ++ r) = record {
      string = opens_off c (t ++ r) s.letter s.quote;
      number = rw s.digit (no_number_begins c t r e n);
      first = rw (s.starts, s.hash, s.blank, s.feed, s.return, s.slash) refl;
    } in
    let at : exact_of (take (longest is_operator (c ∷ t ++ r)) (c ∷ t ++ r)) ≡ Some x =
    ap (λ k. exact_of (take k (c ∷ t ++ r))) l ∙ ap exact_of (take-append_seam (c ∷ t) r) ∙ g in
    let stands : operator_at (c ∷ t ++ r) ≡ Some (x, longest is_operator (c ∷ t ++ r)) = rw at refl in
    is_lexeme (c ∷ t) r (OperatorClass x)
    (leaves (c ∷ t) r (OperatorClass x) (longest is_operator (c ∷ t ++ r)) l (operator_takes (c ∷ t ++ r)
    (operator_at (c ∷ t ++ r)) x (longest is_operator (c ∷ t ++ r)) o refl stands))
