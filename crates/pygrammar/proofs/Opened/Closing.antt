-- Lists of terminals that close the f-strings and the fields that they open, part by part.
--
-- Carries: Closes and its parts, for Expressions, Patterns, Parts, Forms. On: Counts.
use Rattle.std.proofs.Common.{◌≡◌, refl, ap, ◌∙◌, ℕ, suc, ◌-◌, arith, List, [], ◌∷◌, ◌++◌, map, Option, Some, None}
use Rattle.pylex_lexeme.specs.declared.kinds.Exact.{Exact}
use Rattle.pyfstring.specs.declared.parts.Conversion.{Conversion}
use Rattle.pytree_node.specs.Values.{Value}
use Rattle.pytoken.specs.declared.keywords.Keyword.{Keyword}
use Rattle.pytoken.specs.Terminals.{Terminal, Spelled, Op, Word, Ident, Number, Literal, FormattedBegin, FormattedEnd, FormattedText}
use Rattle.pytoken.specs.Terminals.{FieldBegin, SpecBegin, FieldEnd}
use Rattle.pygrammar.specs.declared.levels.Level.{Level}
use Rattle.pygrammar.specs.declared.levels.Level.TheVariants.{BitOr, Not}
use Rattle.pygrammar.specs.Operators.{left_operator, prefix_operator, comparison}
use Rattle.pygrammar.specs.Constants.{constant_word}
use Rattle.pygrammar.specs.PatternOperators.{singleton_word}
use Rattle.pygrammar.specs.OpenStrings.{Open, open_following, open_after_all}
use Rattle.pygrammar.proofs.Opened.Counts.{after_append}

-- ---- Parts of a list.

-- after the list is open what was open before it
pub record Closes (ts : List Terminal) : Type 0 where
  pub is : (o : Open) → open_after_all o ts ≡ o

pub none : Closes []
none = record { is = λ o. refl }

pub same : {ts us : List Terminal} → Closes ts → us ≡ ts → Closes us
same p e = record { is = λ o. ap (open_after_all o) e ∙ p.is o }

-- a list that may be passed over
past : {ts : List Terminal} → Closes ts → (o : Open) (us : List Terminal) → open_after_all o (ts ++ us) ≡ open_after_all o us
past {ts} p o us = after_append o ts us ∙ ap (λ x. open_after_all x us) (p.is o)

pub both : {ts us : List Terminal} → Closes ts → Closes us → Closes (ts ++ us)
both {ts} {us} p q = record { is = λ o. past p o us ∙ q.is o }

-- a terminal that neither opens nor closes anything
abbrev pub IsQuiet : Terminal → Type 0
IsQuiet t = (o : Open) → open_following o t ≡ o

pub front : {t : Terminal} {ts : List Terminal} → IsQuiet t → Closes ts → Closes (t ∷ ts)
front {t} {ts} h p = record { is = λ o. ap (λ x. open_after_all x ts) (h o) ∙ p.is o }

pub sign : {x : Exact} {ts : List Terminal} → Closes ts → Closes (Op x ∷ ts)
sign p = record { is = p.is }

pub word : {k : Keyword} {ts : List Terminal} → Closes ts → Closes (Word k ∷ ts)
word p = record { is = p.is }

pub ident : {x : Spelled} {ts : List Terminal} → Closes ts → Closes (Ident x ∷ ts)
ident p = record { is = p.is }

pub number : {v : Value} {ts : List Terminal} → Closes ts → Closes (Number v ∷ ts)
number p = record { is = p.is }

pub literal : {v : Value} {ts : List Terminal} → Closes ts → Closes (Literal v ∷ ts)
literal p = record { is = p.is }

pub literals : (vs : List Value) → Closes (map Literal vs)
literals [] = none
literals (v ∷ vs) = literal (literals vs)

pub text : {t : List ℕ} {ts : List Terminal} → Closes ts → Closes (FormattedText t ∷ ts)
text p = record { is = p.is }

pub spec : {ts : List Terminal} → Closes ts → Closes (SpecBegin ∷ ts)
spec p = record { is = p.is }

-- and a sign at the end
pub ended : {ts : List Terminal} (x : Exact) → Closes ts → Closes (ts ++ (Op x ∷ []))
ended x p = both p (sign none)

-- ---- F-strings and their fields.

pub formatted : {ts us : List Terminal} → Closes ts → Closes us → Closes (FormattedBegin ∷ (ts ++ (FormattedEnd ∷ us)))
formatted {ts} {us} p q = record { is = λ o. past p (0 ∷ o) (FormattedEnd ∷ us) ∙ q.is o }

pub one_less : (n : ℕ) → suc n - 1 ≡ n
one_less n = omega arith

pub field : {c : Conversion} {ts us vs : List Terminal} → Closes ts → Closes us → Closes vs
    → Closes (FieldBegin c ∷ (ts ++ (us ++ (FieldEnd ∷ vs))))
field {c} {ts} {us} {vs} p q r = record { is = by }
  where
    inside : (o : Open) → open_after_all o (ts ++ (us ++ (FieldEnd ∷ vs))) ≡ open_after_all o (FieldEnd ∷ vs)
    inside o = past p o (us ++ (FieldEnd ∷ vs)) ∙ past q o (FieldEnd ∷ vs)

    by : (o : Open) → open_after_all o (FieldBegin c ∷ (ts ++ (us ++ (FieldEnd ∷ vs)))) ≡ o
    by [] = inside [] ∙ r.is []
    by (n ∷ o) = inside (suc n ∷ o) ∙ (ap (λ m. open_after_all (m ∷ o) vs) (one_less n) ∙ r.is (n ∷ o))

-- ---- Tests that pass on quiet terminals alone.

abbrev Quiet : {A : Type 0} → (Terminal → Option A) → Type 0
Quiet {A} f = (t : Terminal) (a : A) → f t ≡ Some a → IsQuiet t

pub none_some : {A : Type 0} (o : Option A) (a : A) → o ≡ None → o ≡ Some a → ⊥
none_some None a h q = absurd cc
none_some (Some x) a h q = absurd cc

quiet_by : {A : Type 0} (f : Terminal → Option A) → f FormattedBegin ≡ None → f FormattedEnd ≡ None
    → ((c : Conversion) → f (FieldBegin c) ≡ None)
    → f FieldEnd ≡ None → Quiet f
quiet_by f h k m n FormattedBegin a q o = absurd (none_some (f FormattedBegin) a h q)
quiet_by f h k m n FormattedEnd a q o = absurd (none_some (f FormattedEnd) a k q)
quiet_by f h k m n (FieldBegin c) a q o = absurd (none_some (f (FieldBegin c)) a (m c) q)
quiet_by f h k m n FieldEnd a q o = absurd (none_some (f FieldEnd) a n q)
quiet_by f h k m n _ a q o = refl

pub quiet_comparison : Quiet comparison
quiet_comparison = quiet_by comparison refl refl (λ _. refl) refl

pub quiet_constant : Quiet constant_word
quiet_constant = quiet_by constant_word refl refl (λ _. refl) refl

pub quiet_singleton : Quiet singleton_word
quiet_singleton = quiet_by singleton_word refl refl (λ _. refl) refl

pub quiet_left : (l : Level) → Quiet (left_operator l)
quiet_left BitOr = quiet_by (left_operator BitOr) refl refl (λ _. refl) refl
quiet_left l = quiet_by (left_operator l) refl refl (λ _. refl) refl

pub quiet_unary : (l : Level) → Quiet (prefix_operator l)
quiet_unary Not = quiet_by (prefix_operator Not) refl refl (λ _. refl) refl
quiet_unary l = quiet_by (prefix_operator l) refl refl (λ _. refl) refl
