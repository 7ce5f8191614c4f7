-- The brackets and the comma, with which no longer operator begins.
--
-- Carries: delimiter, sign. On: Union, OperatorLengths, Classes.
use Rattle.std.proofs.Common.{◌≡◌, ℕ, ◌<◌, true, false, ◌||◌, ◌==◌, List, [], ◌∷◌, drop, refl, sym, ◌∙◌, ap, Some, is_some, arith, eqb}
use Rattle.std.specs.Prelude.{option_map}
use Rattle.std.specs.Char.{is_ascii_alphabetic}
use Rattle.std.proofs.lemmas.Bool.{eqb-true}
use Rattle.unicode_ident.proofs.IdentLemmas.{is_xid_start-ascii}
use Rattle.pylex_lexeme.specs.declared.kinds.Exact.{Exact}
use Rattle.pylex_lexeme.specs.declared.kinds.Exact.TheVariants.{LPar, RPar, LSqb, RSqb, LBrace, RBrace, Comma}
use Rattle.pylex_lexeme.specs.declared.lexeme.Class.TheVariants.{Operator as OperatorClass}
use Rattle.pylex_lexeme.specs.Chars.{begins, is_blank_char, is_prefix_letter}
use Rattle.pylex_lexeme.specs.Operators.{operators, is_operator, exact_of}
use Rattle.pylex_lexeme.specs.Lengths.{longest, operator_at, begins_number}
use Rattle.pylex_lexeme.specs.Cuts.{TakesLexeme, BeginsOther, is_delimiter}
use Rattle.pylex_lexeme.proofs.Lexemes.Classes.{by_words}
use Rattle.pylex_lexeme.proofs.Lexemes.OperatorLengths.{len_longest, operator_some}
use Rattle.pylex_lexeme.proofs.Lexemes.Union.{operator_takes, opens_none, other_by}

delimiter_len : (c : ℕ) (t : List ℕ) → is_operator (c ∷ []) ≡ true → ((b : ℕ) (u : List ℕ) → is_operator (c ∷ b ∷ u) ≡ false)
    → longest is_operator (c ∷ t) ≡ 1
delimiter_len c [] one none = len_longest (c ∷ []) ∙ rw one refl
delimiter_len c (b ∷ []) one none = let n = none b [] in len_longest (c ∷ b ∷ []) ∙ rw (n, one) refl
delimiter_len c (b ∷ d ∷ t) one none = let n = none b [] in let m = none b (d ∷ []) in len_longest (c ∷ b ∷ d ∷ t) ∙ rw (m, n, one) refl

delimiter_at : (c : ℕ) (t : List ℕ) (e : Exact) → exact_of (c ∷ []) ≡ Some e → longest is_operator (c ∷ t) ≡ 1
    → operator_at (c ∷ t) ≡ Some (e, 1)
unfolding operator_at
delimiter_at c t e exact len = rw len (ap (option_map (λ x. (x, 1))) exact)

-- a character that begins no lexeme but an operator, and is the longest one here
pub one_takes : (c : ℕ) (t : List ℕ) (e : Exact) → exact_of (c ∷ []) ≡ Some e → longest is_operator (c ∷ t) ≡ 1 → BeginsOther (c ∷ t)
    → TakesLexeme (c ∷ t) (Some (OperatorClass e)) t
one_takes c t e exact len other = operator_takes (c ∷ t) (operator_at (c ∷ t)) e 1 other refl (delimiter_at c t e exact len)

-- a character that begins no lexeme but an operator, and that no operator goes on with
alone_takes : (c : ℕ) (t : List ℕ) (e : Exact) → exact_of (c ∷ []) ≡ Some e → ((b : ℕ) (u : List ℕ) → is_operator (c ∷ b ∷ u) ≡ false)
    → BeginsOther (c ∷ t) → TakesLexeme (c ∷ t) (Some (OperatorClass e)) t
alone_takes c t e exact none other =
    let one : is_operator (c ∷ []) ≡ true = sym (operator_some (c ∷ [])) ∙ ap is_some exact in
    one_takes c t e exact (delimiter_len c t one none) other

pub other_at : (c : ℕ) (t : List ℕ) → c < 128 → (is_ascii_alphabetic c || (c == 95)) ≡ false → is_prefix_letter c ≡ false
    → ((c == 39) || (c == 34)) ≡ false → begins_number (c ∷ t) ≡ false
    → is_blank_char c ≡ false → eqb c 35 ≡ false → eqb c 10 ≡ false → eqb c 13 ≡ false → eqb c 92 ≡ false → BeginsOther (c ∷ t)
other_at c t small letter prefix quote number blank h f r l = record {
  string = opens_none (c ∷ t) c refl prefix quote;
  number = number;
  first = other_by (c ∷ t) c refl (ap (λ b. b || (c == 95)) (is_xid_start-ascii c small) ∙ letter) blank h f r l;
}

pub delimiter_takes : (cs : List ℕ) (e : Exact) → begins (is_delimiter e) cs ≡ true → TakesLexeme cs (Some (OperatorClass e)) (drop 1 cs)
unfolding exact_of operators
delimiter_takes [] e h = cc
delimiter_takes (c ∷ t) LPar h = let f : c ≡ 40 = eqb-true c 40 h in
    rw f (alone_takes 40 t LPar refl (λ b u. by_words (40 ∷ b ∷ u))
    (other_at 40 t (omega arith) refl refl refl refl refl refl refl refl refl))
delimiter_takes (c ∷ t) RPar h = let f : c ≡ 41 = eqb-true c 41 h in
    rw f (alone_takes 41 t RPar refl (λ b u. by_words (41 ∷ b ∷ u))
    (other_at 41 t (omega arith) refl refl refl refl refl refl refl refl refl))
delimiter_takes (c ∷ t) LSqb h = let f : c ≡ 91 = eqb-true c 91 h in
    rw f (alone_takes 91 t LSqb refl (λ b u. by_words (91 ∷ b ∷ u))
    (other_at 91 t (omega arith) refl refl refl refl refl refl refl refl refl))
delimiter_takes (c ∷ t) RSqb h = let f : c ≡ 93 = eqb-true c 93 h in
    rw f (alone_takes 93 t RSqb refl (λ b u. by_words (93 ∷ b ∷ u))
    (other_at 93 t (omega arith) refl refl refl refl refl refl refl refl refl))
delimiter_takes (c ∷ t) LBrace h = let f : c ≡ 123 = eqb-true c 123 h in
    rw f (alone_takes 123 t LBrace refl (λ b u. by_words (123 ∷ b ∷ u))
    (other_at 123 t (omega arith) refl refl refl refl refl refl refl refl refl))
delimiter_takes (c ∷ t) RBrace h = let f : c ≡ 125 = eqb-true c 125 h in
    rw f (alone_takes 125 t RBrace refl (λ b u. by_words (125 ∷ b ∷ u))
    (other_at 125 t (omega arith) refl refl refl refl refl refl refl refl refl))
delimiter_takes (c ∷ t) Comma h = let f : c ≡ 44 = eqb-true c 44 h in
    rw f (alone_takes 44 t Comma refl (λ b u. by_words (44 ∷ b ∷ u))
    (other_at 44 t (omega arith) refl refl refl refl refl refl refl refl refl))
delimiter_takes (c ∷ t) _ h = cc
