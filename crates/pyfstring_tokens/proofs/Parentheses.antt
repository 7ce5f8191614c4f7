-- A parenthesis at the front of a text is a lexeme.
--
-- Carries: new, next. On: no other file.
use Rattle.std.proofs.Common.{◌≡◌, ℕ, ◌≤◌, ◌<◌, true, false, List, [], ◌∷◌, ◌++◌, length, take, drop, refl, sym, ap, ◌∙◌, subst, arith}
use Rattle.std.proofs.Common.{zero, suc, Option, Some}
use Rattle.std.specs.Prelude.{option_map}
use Rattle.std.proofs.lemmas.List.{take-append-drop, append_cancel_right}
use Rattle.unicode_ident.proofs.IdentLemmas.{is_xid_start-ascii}
use Rattle.pylex_lexeme.specs.declared.kinds.Exact.{Exact}
use Rattle.pylex_lexeme.specs.declared.kinds.Exact.TheVariants.{LPar, RPar}
use Rattle.pylex_lexeme.specs.declared.lexeme.Class.{Class}
use Rattle.pylex_lexeme.specs.declared.lexeme.Class.TheVariants.{Operator as OperatorClass}
use Rattle.pylex_lexeme.specs.Operators.{operators, is_operator, exact_of}
use Rattle.pylex_lexeme.specs.Lengths.{longest, operator_at}
use Rattle.pylex_lexeme.specs.Lexemes.{Lexeme, class_in, lexeme_len, lexeme_at}
use Rattle.pylex_lexeme.specs.Cuts.{TakesLexeme, BeginsOther}
use Rattle.pylex_lexeme.proofs.Callers.Fronts.{IsBest}
use Rattle.pylex_lexeme.proofs.Callers.Lexemes.{by_words, class_at, opens_off, operator_takes}
use Rattle.pylex_lexeme.proofs.Callers.Numbers.{longest_is}

-- What is taken off the front of t and r, where r is left, is t.
of_class : (o : Option Class) (t : List ℕ) (k : Class) → o ≡ Some k → option_map {U = Lexeme} (λ c. record { «class» = c; text = t }) o ≡
    Some (record { «class» = k; text = t })
of_class o t k e = rw e refl

pub is_lexeme : (t r : List ℕ) (k : Class) → TakesLexeme (t ++ r) (Some k) r → lexeme_at (t ++ r) ≡ Some (record { «class» = k; text = t })
unfolding lexeme_at
is_lexeme t r k h =
    let c : class_in (t ++ r) (take (lexeme_len (t ++ r)) (t ++ r)) ≡ Some k = sym (class_at (t ++ r)) ∙ sym h.«class» in
    let w : take (lexeme_len (t ++ r)) (t ++ r) ++ r ≡ t ++ r = ap (λ d. take (lexeme_len (t ++ r)) (t ++ r) ++ d) h.rest
    ∙ take-append-drop (lexeme_len (t ++ r)) (t ++ r) in
    let e : take (lexeme_len (t ++ r)) (t ++ r) ≡ t = append_cancel_right (take (lexeme_len (t ++ r)) (t ++ r)) t r w in
    of_class (class_in (t ++ r) (take (lexeme_len (t ++ r)) (t ++ r))) (take (lexeme_len (t ++ r)) (t ++ r)) k c
    ∙ ap (λ u. Some (record { «class» = k; text = u })) e

-- an operator of one character with which no longer one begins
abbrev Alone : ℕ → Type 0
Alone c = (b : ℕ) (u : List ℕ) → is_operator (c ∷ b ∷ u) ≡ false

best : (c : ℕ) (r : List ℕ) → is_operator (c ∷ []) ≡ true → Alone c → IsBest is_operator (c ∷ r) 1
best c r one none = record { within = omega arith; passes = one; longest = λ j h i. longer r j h i }
  where
    longer : (r : List ℕ) (j : ℕ) → 1 < j → j ≤ length (c ∷ r) → is_operator (take j (c ∷ r)) ≡ false
    longer r zero h i = absurd (omega arith)
    longer r (suc zero) h i = absurd (omega arith)
    longer [] (suc (suc j)) h i = absurd (omega arith)
    longer (b ∷ r) (suc (suc j)) h i = none b (take j r)

alone_front : (c : ℕ) (r : List ℕ) (e : Exact) → exact_of (c ∷ []) ≡ Some e → is_operator (c ∷ []) ≡ true → Alone c → BeginsOther (c ∷ r)
    → lexeme_at (c ∷ r) ≡ Some (record { «class» = OperatorClass e; text = c ∷ [] })
unfolding operator_at
alone_front c r e exact one none other =
    let l : longest is_operator (c ∷ r) ≡ 1 = longest_is is_operator (c ∷ r) 1 (best c r one none) in
    let at : exact_of (take (longest is_operator (c ∷ r)) (c ∷ r)) ≡ Some e = ap (λ n. exact_of (take n (c ∷ r))) l ∙ exact in
    let stands : operator_at (c ∷ r) ≡ Some (e, longest is_operator (c ∷ r)) = rw at refl in
    let takes : TakesLexeme (c ∷ r) (Some (OperatorClass e)) (drop (longest is_operator (c ∷ r)) (c ∷ r)) =
    operator_takes (c ∷ r) (operator_at (c ∷ r)) e (longest is_operator (c ∷ r)) other refl stands in
    is_lexeme (c ∷ []) r (OperatorClass e) (subst (TakesLexeme (c ∷ r) (Some (OperatorClass e))) (ap (λ n. drop n (c ∷ r)) l) takes)

pub left_front : (r : List ℕ) → lexeme_at (40 ∷ r) ≡ Some (record { «class» = OperatorClass LPar; text = 40 ∷ [] })
unfolding exact_of operators
left_front r = alone_front 40 r LPar refl (by_words (40 ∷ [])) (λ b u. by_words (40 ∷ b ∷ u))
    (record { string = opens_off 40 r refl refl; number = refl; first = rw (is_xid_start-ascii 40 (omega arith)) refl })

pub right_front : (r : List ℕ) → lexeme_at (41 ∷ r) ≡ Some (record { «class» = OperatorClass RPar; text = 41 ∷ [] })
unfolding exact_of operators
right_front r = alone_front 41 r RPar refl (by_words (41 ∷ [])) (λ b u. by_words (41 ∷ b ∷ u))
    (record { string = opens_off 41 r refl refl; number = refl; first = rw (is_xid_start-ascii 41 (omega arith)) refl })
