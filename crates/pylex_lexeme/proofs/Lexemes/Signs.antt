-- The point, the colon and the equals sign, where no operator and no number goes on after them.
--
-- Carries: sign. On: Delimiters, Seconds, OperatorLengths.
use Rattle.std.proofs.Common.{◌≡◌, ℕ, true, false, List, [], ◌∷◌, drop, refl, sym, ◌∙◌, ap, Some, is_some, slice_get, arith, Bool, ◌&&◌}
use Rattle.std.specs.Prelude.{nat_le}
use Rattle.std.proofs.lemmas.Bool.Decides.{nat_tests}
use Rattle.std.proofs.lemmas.Bool.{eqb-true}
use Rattle.pylex_lexeme.specs.declared.kinds.Exact.{Exact}
use Rattle.pylex_lexeme.specs.declared.kinds.Exact.TheVariants.{Dot, Colon, Equal}
use Rattle.pylex_lexeme.specs.declared.lexeme.Class.TheVariants.{Operator as OperatorClass}
use Rattle.pylex_lexeme.specs.Chars.{begins}
use Rattle.pylex_lexeme.specs.Numbers.{is_decimal_digit}
use Rattle.pylex_lexeme.specs.Operators.{operators, is_operator, exact_of}
use Rattle.pylex_lexeme.specs.Lengths.{longest}
use Rattle.pylex_lexeme.specs.Cuts.{TakesLexeme, BeginsOther}
use Rattle.pylex_lexeme.specs.Inner.Frequent.{is_sign}
use Rattle.pylex_lexeme.proofs.Lexemes.OperatorLengths.{len_longest, operator_some}
use Rattle.pylex_lexeme.proofs.Lexemes.Seconds.{may_be_second, second_off}
use Rattle.pylex_lexeme.proofs.Lexemes.Delimiters.{one_takes, other_at}

sign_len : (c d : ℕ) (t : List ℕ) → is_operator (c ∷ []) ≡ true → may_be_second d ≡ false → longest is_operator (c ∷ d ∷ t) ≡ 1
sign_len c d [] one h = let n = second_off c d [] h in len_longest (c ∷ d ∷ []) ∙ rw (n, one) refl
sign_len c d (b ∷ t) one h =
    let n = second_off c d [] h in
    let m = second_off c d (b ∷ []) h in
    len_longest (c ∷ d ∷ b ∷ t) ∙ rw (m, n, one) refl

sign_at : (c d : ℕ) (t : List ℕ) (e : Exact) → exact_of (c ∷ []) ≡ Some e → may_be_second d ≡ false → BeginsOther (c ∷ d ∷ t)
    → TakesLexeme (c ∷ d ∷ t) (Some (OperatorClass e)) (d ∷ t)
sign_at c d t e exact h other =
    let one : is_operator (c ∷ []) ≡ true = sym (operator_some (c ∷ [])) ∙ ap is_some exact in
    one_takes c (d ∷ t) e exact (sign_len c d t one h) other

-- the characters from `*` to `>`
abbrev pub may_go_on : ℕ → Bool
may_go_on d = nat_le 42 d && nat_le d 62

second_none : (d : ℕ) → may_go_on d ≡ false → may_be_second d ≡ false
second_none d h = grind (arith, nat_tests)

digit_none : (d : ℕ) → may_go_on d ≡ false → is_decimal_digit d ≡ false
digit_none d h = grind (arith, nat_tests)

pub sign_takes : (cs : List ℕ) (e : Exact) (d : ℕ) → begins (is_sign e) cs ≡ true → slice_get (drop 1 cs) 0 ≡ Some d
    → may_go_on d ≡ false → TakesLexeme cs (Some (OperatorClass e)) (drop 1 cs)
unfolding exact_of operators
sign_takes [] e d h g m = cc
sign_takes (c ∷ []) e d h g m = cc
sign_takes (c ∷ b ∷ t) Dot d h g m =
    let f : c ≡ 46 = eqb-true c 46 h in
    let s : b ≡ d = cc in
    rw (f, s) (sign_at 46 d t Dot refl (second_none d m) (other_at 46 (d ∷ t) (omega arith) refl refl refl (digit_none d m)
    refl refl refl refl refl))
sign_takes (c ∷ b ∷ t) Colon d h g m =
    let f : c ≡ 58 = eqb-true c 58 h in
    let s : b ≡ d = cc in
    rw (f, s) (sign_at 58 d t Colon refl (second_none d m) (other_at 58 (d ∷ t) (omega arith) refl refl refl refl refl refl refl refl refl))
sign_takes (c ∷ b ∷ t) Equal d h g m =
    let f : c ≡ 61 = eqb-true c 61 h in
    let s : b ≡ d = cc in
    rw (f, s) (sign_at 61 d t Equal refl (second_none d m) (other_at 61 (d ∷ t) (omega arith) refl refl refl refl refl refl refl refl refl))
sign_takes (c ∷ b ∷ t) _ d h g m = cc
