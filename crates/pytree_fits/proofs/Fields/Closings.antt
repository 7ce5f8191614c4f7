-- Carries: the laws of the slots. On: parts of what the grammar gives close the f-strings that they open.
use Rattle.std.proofs.Common.{◌≡◌, refl, ap, ◌∙◌, List, [], ◌∷◌, ◌++◌, Option, Some, None}
use Rattle.pylex_lexeme.specs.declared.kinds.Exact.{Exact}
use Rattle.pyfstring.specs.declared.parts.Conversion.{Conversion}
use Rattle.pytree_node.specs.declared.operators.Operator.{Operator}
use Rattle.pytree_node.specs.declared.operators.UnaryOperator.{UnaryOperator}
use Rattle.pytree_node.specs.Trees.{Identifier, Expr}
use Rattle.pytree_node.specs.Values.{Value}
use Rattle.pytoken.specs.declared.keywords.Keyword.{Keyword}
use Rattle.pytoken.specs.Terminals.{Terminal, Spelled, Op, Word, Ident, FormattedBegin, FormattedEnd, FieldBegin, FieldEnd}
use Rattle.pygrammar.specs.declared.levels.Level.{Level}
use Rattle.pygrammar.specs.declared.levels.Level.TheVariants.{BitOr, Not}
use Rattle.pygrammar.specs.Operators.{left_operator, prefix_operator}
use Rattle.pygrammar.specs.OpenStrings.{Open, open_following, open_after_all}
use Rattle.pygrammar.specs.PatternGrammar
use Rattle.pygrammar.proofs.Callers.OpenStrings.{after_append}

-- ---- Operators neither open nor close one.

none_some : {A : Type 0} (o : Option A) (a : A) → o ≡ None → o ≡ Some a → ⊥
none_some None a h q = absurd (cc)
none_some (Some x) a h q = absurd (cc)

quiet_by : {A : Type 0} (f : Terminal → Option A) → f FormattedBegin ≡ None → f FormattedEnd ≡ None
    → ((c : Conversion) → f (FieldBegin c) ≡ None)
    → f FieldEnd ≡ None → (t : Terminal) (a : A) → f t ≡ Some a → (o : Open) → open_following o t ≡ o
quiet_by f h k m n FormattedBegin a q o = absurd (none_some (f FormattedBegin) a h q)
quiet_by f h k m n FormattedEnd a q o = absurd (none_some (f FormattedEnd) a k q)
quiet_by f h k m n (FieldBegin c) a q o = absurd (none_some (f (FieldBegin c)) a (m c) q)
quiet_by f h k m n FieldEnd a q o = absurd (none_some (f FieldEnd) a n q)
quiet_by f h k m n _ a q o = refl

pub quiet_left : (l : Level) (t : Terminal) (a : Operator) → left_operator l t ≡ Some a → (o : Open) → open_following o t ≡ o
quiet_left BitOr = quiet_by (left_operator BitOr) refl refl (λ _. refl) refl
quiet_left l = quiet_by (left_operator l) refl refl (λ _. refl) refl

pub quiet_prefix : (l : Level) (t : Terminal) (a : UnaryOperator) → prefix_operator l t ≡ Some a → (o : Open) → open_following o t ≡ o
quiet_prefix Not = quiet_by (prefix_operator Not) refl refl (λ _. refl) refl
quiet_prefix l = quiet_by (prefix_operator l) refl refl (λ _. refl) refl

-- ---- Lists of terminals by their parts.

-- after the list is open what was open before it
pub record Closes (ts : List Terminal) : Type 0 where
  pub is : (o : Open) → open_after_all o ts ≡ o

pub none : Closes []
none = record { is = λ o. refl }

pub both : {ts us : List Terminal} → Closes ts → Closes us → Closes (ts ++ us)
both {ts} {us} p q = record { is = λ o. after_append o ts us ∙ ap (λ x. open_after_all x us) (p.is o) ∙ q.is o }

pub sign : {x : Exact} {ts : List Terminal} → Closes ts → Closes (Op x ∷ ts)
sign p = record { is = p.is }

pub word : {k : Keyword} {ts : List Terminal} → Closes ts → Closes (Word k ∷ ts)
word p = record { is = p.is }

pub ident : {x : Spelled} {ts : List Terminal} → Closes ts → Closes (Ident x ∷ ts)
ident p = record { is = p.is }

-- and a sign at the end
pub ended : {ts : List Terminal} (x : Exact) → Closes ts → Closes (ts ++ (Op x ∷ []))
ended x p = both p (sign none)

-- ---- Parts of patterns.

pub signed_closes : {v : Value} {ts : List Terminal} {e : Expr} → PatternGrammar.SignedNumber v ts e → (o : Open) → open_after_all o ts ≡ o
signed_closes PatternGrammar.unsigned o = refl
signed_closes PatternGrammar.negative o = refl

dotted : {f : Identifier} {ts : List Terminal} {e : Expr} → PatternGrammar.Dotted f ts e → Closes ts
dotted PatternGrammar.first_name = ident none
dotted (PatternGrammar.dot_name x p) = both (dotted p) (sign (ident none))

pub dotted_closes : {f : Identifier} {ts : List Terminal} {e : Expr} → PatternGrammar.Dotted f ts e → (o : Open) → open_after_all o ts ≡ o
dotted_closes p = (dotted p).is
