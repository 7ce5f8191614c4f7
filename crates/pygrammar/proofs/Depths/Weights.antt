-- How long lists count, and which tests pass only on terminals that count.
--
-- Carries: weight_append, weight_most, counted, heavy_op and its like, for Enough, Room, Bound, Long and others.
use Rattle.std.proofs.Common.{◌≡◌, refl, sym, ap, ◌∙◌, ℕ, suc, ◌+◌, ◌≤◌, arith, List, [], ◌∷◌, ◌++◌, length, Option, Some, None, Bool, true}
use Rattle.std.proofs.Common.{false, cond}
use Rattle.pylex_lexeme.specs.declared.kinds.Exact.{Exact}
use Rattle.pyfstring.specs.declared.parts.Conversion.{Conversion}
use Rattle.pytoken.specs.declared.keywords.Keyword.{Keyword}
use Rattle.pytoken.specs.Terminals.{Terminal, FormattedText, FieldBegin, SpecBegin, FieldEnd}
use Rattle.pygrammar.specs.declared.levels.Level.{Level}
use Rattle.pygrammar.specs.declared.levels.Level.TheVariants.{BitOr, Not, Sum}
use Rattle.pygrammar.specs.Looks.{is_op, is_word, name_in, literal_in, is_formatted_begin, is_formatted_end}
use Rattle.pygrammar.specs.Operators.{left_operator, prefix_operator, comparison}
use Rattle.pygrammar.specs.Constants.{constant_word}
use Rattle.pygrammar.specs.Precedence.{infix_from, prefix_from}
use Rattle.pygrammar.specs.PatternOperators.{singleton_word}
use Rattle.pygrammar.specs.PatternReader.{number_in, imaginary_in}
use Rattle.pygrammar.specs.LineReader.{is_type, same_as, augmented_sign}
use Rattle.pygrammar.specs.Lengths.{counts, weight}

-- ---- Lists.

-- one terminal more, whether it counts or not
more : (b : Bool) (n : ℕ) → n ≤ cond b (suc n) n
more true n = omega arith
more false n = omega arith

most : (b : Bool) (n : ℕ) → cond b (suc n) n ≤ suc n
most true n = omega arith
most false n = omega arith

pub weight_next : (t : Terminal) (ts : List Terminal) → weight ts ≤ weight (t ∷ ts)
weight_next t ts = more (counts t) (weight ts)

pub counted : (t : Terminal) (ts : List Terminal) → counts t ≡ true → weight (t ∷ ts) ≡ suc (weight ts)
counted t ts h = ap (λ b. cond b (suc (weight ts)) (weight ts)) h

pub weight_append : (ts us : List Terminal) → weight (ts ++ us) ≡ weight ts + weight us
weight_append [] us = omega arith
weight_append (t ∷ ts) us = both (counts t) (weight_append ts us)
  where
    both : (b : Bool) → weight (ts ++ us) ≡ weight ts + weight us → cond b (suc (weight (ts ++ us))) (weight (ts ++ us)) ≡ cond b
        (suc (weight ts)) (weight ts) + weight us
    both true h = omega (arith, h)
    both false h = h

-- it is no more than there are terminals
pub weight_most : (ts : List Terminal) → weight ts ≤ length ts
weight_most [] = omega arith
weight_most (t ∷ ts) = omega (arith, most (counts t) (weight ts), weight_most ts)

-- ---- Tests.

abbrev pub Heavy : {A : Type 0} → (Terminal → Option A) → Type 0
Heavy {A} f = (t : Terminal) (a : A) → f t ≡ Some a → counts t ≡ true

heavy_by : {A : Type 0} (f : Terminal → Option A) → ((t : List ℕ) → f (FormattedText t) ≡ None)
    → ((c : Conversion) → f (FieldBegin c) ≡ None) → f SpecBegin ≡ None → f FieldEnd ≡ None → Heavy f
heavy_by {A = A} f h k m n (FormattedText t) a q = absurd (none_some a (sym (h t) ∙ q))
  where
    none_some : (a : A) → ◌≡◌ {A = Option A} None (Some a) → ⊥
    none_some a h = absurd (cc)
heavy_by {A = A} f h k m n (FieldBegin c) a q = absurd (none_some a (sym (k c) ∙ q))
  where
    none_some : (a : A) → ◌≡◌ {A = Option A} None (Some a) → ⊥
    none_some a h = absurd (cc)
heavy_by {A = A} f h k m n SpecBegin a q = absurd (none_some a (sym m ∙ q))
  where
    none_some : (a : A) → ◌≡◌ {A = Option A} None (Some a) → ⊥
    none_some a h = absurd (cc)
heavy_by {A = A} f h k m n FieldEnd a q = absurd (none_some a (sym n ∙ q))
  where
    none_some : (a : A) → ◌≡◌ {A = Option A} None (Some a) → ⊥
    none_some a h = absurd (cc)
heavy_by f h k m n _ a q = refl

pub heavy_op : (x : Exact) → Heavy (is_op x)
heavy_op x = heavy_by (is_op x) (λ _. refl) (λ _. refl) refl refl

pub heavy_word : (x : Keyword) → Heavy (is_word x)
heavy_word x = heavy_by (is_word x) (λ _. refl) (λ _. refl) refl refl

pub heavy_name : Heavy name_in
heavy_name = heavy_by name_in (λ _. refl) (λ _. refl) refl refl

pub heavy_literal : Heavy literal_in
heavy_literal = heavy_by literal_in (λ _. refl) (λ _. refl) refl refl

pub heavy_begin : Heavy is_formatted_begin
heavy_begin = heavy_by is_formatted_begin (λ _. refl) (λ _. refl) refl refl

pub heavy_end : Heavy is_formatted_end
heavy_end = heavy_by is_formatted_end (λ _. refl) (λ _. refl) refl refl

pub heavy_comparison : Heavy comparison
heavy_comparison = heavy_by comparison (λ _. refl) (λ _. refl) refl refl

pub heavy_constant : Heavy constant_word
heavy_constant = heavy_by constant_word (λ _. refl) (λ _. refl) refl refl

pub heavy_singleton : Heavy singleton_word
heavy_singleton = heavy_by singleton_word (λ _. refl) (λ _. refl) refl refl

pub heavy_number : Heavy number_in
heavy_number = heavy_by number_in (λ _. refl) (λ _. refl) refl refl

pub heavy_imaginary : Heavy imaginary_in
heavy_imaginary = heavy_by imaginary_in (λ _. refl) (λ _. refl) refl refl

pub heavy_type : Heavy is_type
heavy_type = heavy_by is_type (λ _. refl) (λ _. refl) refl refl

pub heavy_augmented : Heavy augmented_sign
heavy_augmented = heavy_by augmented_sign (λ _. refl) (λ _. refl) refl refl

pub heavy_infix : (k : ℕ) → Heavy (infix_from k)
heavy_infix k = heavy_by (infix_from k) (λ _. refl) (λ _. refl) refl refl

pub heavy_prefix : (k : ℕ) → Heavy (prefix_from k)
heavy_prefix k = heavy_by (prefix_from k) (λ _. refl) (λ _. refl) refl refl

pub heavy_left : (l : Level) → Heavy (left_operator l)
heavy_left BitOr = heavy_by (left_operator BitOr) (λ _. refl) (λ _. refl) refl refl
heavy_left l = heavy_by (left_operator l) (λ _. refl) (λ _. refl) refl refl

pub heavy_sum : Heavy (left_operator Sum)
heavy_sum = heavy_left Sum

pub heavy_unary : (l : Level) → Heavy (prefix_operator l)
heavy_unary Not = heavy_by (prefix_operator Not) (λ _. refl) (λ _. refl) refl refl
heavy_unary l = heavy_by (prefix_operator l) (λ _. refl) (λ _. refl) refl refl

pub heavy_same : (t : Terminal) → Heavy (same_as t)
heavy_same t = heavy_by (same_as t) (λ x. on_text t x) (λ c. on_field t c) (on_spec t) (on_end t)
  where
    on_text : (t : Terminal) (x : List ℕ) → same_as t (FormattedText x) ≡ None
    on_text SpecBegin x = refl
    on_text _ x = refl

    on_field : (t : Terminal) (c : Conversion) → same_as t (FieldBegin c) ≡ None
    on_field SpecBegin c = refl
    on_field _ c = refl

    on_spec : (t : Terminal) → same_as t SpecBegin ≡ None
    on_spec SpecBegin = refl
    on_spec _ = refl

    on_end : (t : Terminal) → same_as t FieldEnd ≡ None
    on_end SpecBegin = refl
    on_end _ = refl
