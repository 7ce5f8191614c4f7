-- Whether all of a list pass a test, part by part; terminals among which all constants are plain.
--
-- Carries: Passes, Plainness and their parts, for Targets, Entries, Expressions, Forms, Blocks and
-- 2 more.
use Rattle.std.proofs.Common.{◌≡◌, refl, sym, ap, ◌∙◌, Bool, true, false, ◌&&◌, List, [], ◌∷◌, ◌++◌}
use Rattle.std.specs.List.{list_all}
use Rattle.std.proofs.lemmas.List.Folds.{list_all-append}
use Rattle.std.proofs.Math.Bool.{and_assoc, and_comm, and-true}
use Rattle.pylex_lexeme.specs.declared.kinds.Exact.{Exact}
use Rattle.pytoken.specs.declared.keywords.Keyword.{Keyword}
use Rattle.pytoken.specs.Terminals.{Terminal, Spelled, Op, Word, Ident, Number, Literal, FormattedBegin}
use Rattle.pygrammar.specs.Extents.{is_plain_value}

-- ---- Tests joined.

pub and_swap : (a b c : Bool) → a && (b && c) ≡ b && (a && c)
and_swap a b c = sym (and_assoc a b c) ∙ ap (λ z. z && c) (and_comm a b) ∙ and_assoc b a c

pub and_both : {a b c d : Bool} → a ≡ b → c ≡ d → a && c ≡ b && d
and_both {b = b} {c = c} p q = ap (λ z. z && c) p ∙ ap (λ z. b && z) q

-- two pairs, and their first and their second halves
pub and_across : (a b c d : Bool) → (a && b) && (c && d) ≡ (a && c) && (b && d)
and_across a b c d = and_assoc a b (c && d) ∙ ap (λ z. a && z) (and_swap b c d) ∙ sym (and_assoc a c (b && d))

-- ---- Lists of which all pass a test, or not.

-- whether all elements pass the test
pub record Passes {A : Type 0} (test : A → Bool) (xs : List A) (answer : Bool) : Type 0 where
  pub is : list_all test xs ≡ answer

pub none : {A : Type 0} {test : A → Bool} → Passes test [] true
none = record { is = refl }

pub same : {A : Type 0} {test : A → Bool} {xs : List A} {a b : Bool} → Passes test xs a → a ≡ b → Passes test xs b
same p e = record { is = p.is ∙ e }

-- one element in front
pub before : {A : Type 0} {test : A → Bool} {xs : List A} {a : Bool} (x : A) → Passes test xs a → Passes test (x ∷ xs) (test x && a)
before {test = test} x p = record { is = ap (λ z. test x && z) p.is }

-- one part after another
pub both : {A : Type 0} {test : A → Bool} {xs ys : List A} {a b : Bool} → Passes test xs a → Passes test ys b
    → Passes test (xs ++ ys) (a && b)
both {test = test} {xs = xs} {ys = ys} p q = record { is = list_all-append test xs ys ∙ and_both p.is q.is }

pub alone : (a : Bool) → a ≡ a && true
alone a = sym (and-true a)

-- ---- Terminals.

abbrev pub is_terminal_plain : Terminal → Bool
is_terminal_plain (Number v) = is_plain_value v
is_terminal_plain (Literal v) = is_plain_value v
is_terminal_plain FormattedBegin = false
is_terminal_plain _ = true

-- whether all constants among the terminals are plain, and no f-string begins
abbrev pub Plainness : List Terminal → Bool → Type 0
Plainness ts answer = Passes is_terminal_plain ts answer

-- one plain terminal in front
pub front : {t : Terminal} {ts : List Terminal} {a : Bool} → is_terminal_plain t ≡ true → Plainness ts a → Plainness (t ∷ ts) a
front {ts = ts} h p = record { is = ap (λ z. z && list_all is_terminal_plain ts) h ∙ p.is }

pub sign : {x : Exact} {ts : List Terminal} {a : Bool} → Plainness ts a → Plainness (Op x ∷ ts) a
sign p = record { is = p.is }

pub word : {k : Keyword} {ts : List Terminal} {a : Bool} → Plainness ts a → Plainness (Word k ∷ ts) a
word p = record { is = p.is }

pub ident : {x : Spelled} {ts : List Terminal} {a : Bool} → Plainness ts a → Plainness (Ident x ∷ ts) a
ident p = record { is = p.is }

-- and a sign at the end
pub ended : {ts : List Terminal} {a : Bool} (x : Exact) → Plainness ts a → Plainness (ts ++ (Op x ∷ [])) a
ended {a = a} x p = same (both p (sign none)) (and-true a)
