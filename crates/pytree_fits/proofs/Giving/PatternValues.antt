-- Carries: the laws of patterns. On: values, keys and classes of patterns that fit are given.
use Rattle.std.proofs.Common.{◌≡◌, refl, sym, subst, ◌∙◌, ◌⊎◌, inl, inr, [], ◌∷◌, ◌++◌, Some, true, false}
use Rattle.std.specs.Prelude.{not, ◌&&◌, ◌||◌}
use Rattle.std.proofs.lemmas.Bool.{and_parts, and_from, or_cases, not-true}
use Rattle.pylex_lexeme.specs.declared.kinds.Exact.TheVariants.{Dot, Plus, Minus}
use Rattle.pytoken.specs.declared.keywords.Keyword.TheVariants as Key
use Rattle.pytree_node.specs.declared.operators.Operator.{Operator}
use Rattle.pytree_node.specs.declared.operators.Operator.TheVariants as Bin
use Rattle.pytree_node.specs.declared.operators.UnaryOperator.{UnaryOperator}
use Rattle.pytree_node.specs.declared.operators.UnaryOperator.TheVariants as Un
use Rattle.pytree_node.specs.declared.operators.Context.TheVariants.{Load}
use Rattle.pytree_node.specs.Trees
use Rattle.pytree_node.specs.Trees.{Identifier, Expr}
use Rattle.pytree_node.specs.Values
use Rattle.pytoken.specs.Terminals.{Terminal, Op, Word, Number, Literal, in_form}
use Rattle.pygrammar.specs.declared.levels.Level.TheVariants.{Sum}
use Rattle.pygrammar.specs.declared.pattern_levels.PatternLevel.TheVariants.{ClosedPattern}
use Rattle.pygrammar.specs.Operators.{left_operator}
use Rattle.pygrammar.specs.PatternOperators.{is_imaginary, is_wildcard}
use Rattle.pygrammar.specs.PatternGrammar as G
use Rattle.pytree_fits.specs.Tests.{Tests}
use Rattle.pytree_fits.specs.Literals.{is_value}
use Rattle.pytree_fits.specs.Given.{is_number, is_literal}
use Rattle.pytree_fits.specs.Slots.{is_context}
use Rattle.pytree_fits.specs.PatternSlots.{is_sum, is_minus, number_fits, imaginary_fits, real_fits, literal_fits, dotted_fits}
use Rattle.pytree_fits.specs.PatternSlots.{is_attribute, starts_wild, class_fits, value_fits, is_singleton, singleton_fits, key_fits}
use Rattle.pytree_fits.proofs.Fields.Standing.{outside}
use Rattle.pytree_fits.proofs.Fields.AsSpelled.{Passed, GivenAsSpelled, pass_on, pass_in_front}
use Rattle.pytree_fits.proofs.Fields.Tests.{parts3, parts4, never, in_context}
use Rattle.pytree_fits.proofs.Giving.Places.{named_pass}
use Rattle.pytree_fits.proofs.Giving.Gives.{joined_given}

module _ (n : Tests) where
  -- ---- Values.

  one_number : (v : Values.Value) → is_number v ≡ true → is_value n v ≡ true → Passed (outside n) (Number v ∷ [])
  one_number v h q = pass_in_front (outside n) (Number v) [] (and_from (is_number v) (is_value n v) h q) refl refl

  -- a number that isn't imaginary, and its sign
  record Real (e : Expr) : Type 0 where
    value : Values.Value
    real : is_imaginary value ≡ false
    given : GivenAsSpelled (outside n) (G.SignedNumber value) e

  real_given : (e : Expr) → real_fits n e ≡ true → Real e
  real_given (Trees.Constant v) h =
      let w = parts3 (is_number v) (not (is_imaginary v)) (is_value n v) h in
      record { value = v; real = not-true (is_imaginary v) w.1; given = (Number v ∷ [], one_number v w.0 w.2, G.unsigned) }
  real_given (Trees.UnaryOp o (Trees.Constant v)) h =
      let w = parts4 (is_minus o) (is_number v) (not (is_imaginary v)) (is_value n v) h in
      record {
        value = v;
        real = not-true (is_imaginary v) w.2;
        given = minus o (Trees.Constant v) w.0 (
          Op Minus ∷ (Number v ∷ []),
          one_number v w.1 w.3,
          G.negative,
        );
      }
    where
      minus : (o : UnaryOperator) (e : Expr) → is_minus o ≡ true → GivenAsSpelled (outside n) (G.SignedNumber v) (Trees.UnaryOp Un.USub e)
          → GivenAsSpelled (outside n) (G.SignedNumber v) (Trees.UnaryOp o e)
      minus Un.USub e h u = u
      minus _ e h u = absurd (never h)
  real_given _ h = absurd (never h)

  constant_given : (v : Values.Value) → (is_number v || is_literal v) ≡ true → is_value n v ≡ true
      → GivenAsSpelled (outside n) G.LiteralOf (Trees.Constant v)
  constant_given (Values.Int k) h q = (Number (Values.Int k) ∷ [], one_number (Values.Int k) refl q, G.number G.unsigned)
  constant_given (Values.Float x) h q = (Number (Values.Float x) ∷ [], one_number (Values.Float x) refl q, G.number G.unsigned)
  constant_given (Values.Imaginary x) h q = (Number (Values.Imaginary x) ∷ [], one_number (Values.Imaginary x) refl q, G.number G.unsigned)
  constant_given (Values.Str t u) h q =
      (Literal (Values.Str t u) ∷ [], pass_in_front (outside n) (Literal (Values.Str t u)) [] q refl refl, G.strings [] refl)
  constant_given (Values.Bytes t) h q =
      (Literal (Values.Bytes t) ∷ [], pass_in_front (outside n) (Literal (Values.Bytes t)) [] q refl refl, G.strings [] refl)
  constant_given _ h q = absurd (never h)

  minus_given : (o : UnaryOperator) (e : Expr) → is_minus o ≡ true → number_fits n e ≡ true
      → GivenAsSpelled (outside n) G.LiteralOf (Trees.UnaryOp o e)
  minus_given Un.USub (Trees.Constant v) h q =
      let w = and_parts (is_number v) (is_value n v) q in
      (Op Minus ∷ (Number v ∷ []), one_number v w.0 w.1, G.number G.negative)
  minus_given Un.USub _ h q = absurd (never q)
  minus_given _ e h q = absurd (never h)

  -- the sign between a number and an imaginary one
  sign_of : (o : Operator) → is_sum o ≡ true → (t : Terminal) × Passed (outside n) (t ∷ []) × (left_operator Sum t ≡ Some o)
  sign_of Bin.Add h = (Op Plus, refl, refl)
  sign_of Bin.Sub h = (Op Minus, refl, refl)
  sign_of _ h = absurd (never h)

  imaginary_number : (v : Values.Value) → is_imaginary v ≡ true → is_number v ≡ true
  imaginary_number (Values.Imaginary x) h = refl
  imaginary_number _ h = absurd (never h)

  complex_given : (a : Expr) (o : Operator) (b : Expr) → is_sum o ≡ true → real_fits n a ≡ true → imaginary_fits n b ≡ true
      → GivenAsSpelled (outside n) G.LiteralOf (Trees.BinOp a o b)
  complex_given a o (Trees.Constant v) h p q =
      let s = sign_of o h in
      let r = real_given a p in
      let w = and_parts (is_imaginary v) (is_value n v) q in
      let u = r.given in (
        u.0 ++ (s.0 ∷ (Number v ∷ [])),
        pass_on (outside n) u.0 (s.0 ∷ (Number v ∷ [])) u.1
            (pass_on (outside n) (s.0 ∷ []) (Number v ∷ []) s.1 (one_number v (imaginary_number v w.0) w.1)),
        G.complex s.0 u.2 r.real s.2 w.0,
      )
  complex_given a o _ h p q = absurd (never q)

  literal_given : (e : Expr) → literal_fits n e ≡ true → GivenAsSpelled (outside n) G.LiteralOf e
  literal_given (Trees.Constant v) h = let w = and_parts (is_number v || is_literal v) (is_value n v) h in constant_given v w.0 w.1
  literal_given (Trees.UnaryOp o e) h = let w = and_parts (is_minus o) (number_fits n e) h in minus_given o e w.0 w.1
  literal_given (Trees.BinOp a o b) h = let w = parts3 (is_sum o) (real_fits n a) (imaginary_fits n b) h in complex_given a o b w.0 w.1 w.2
  literal_given (Trees.JoinedStr es) h =
      let j = joined_given (outside n) es h in
      let w = j.given in
      subst (λ z. GivenAsSpelled (outside n) G.LiteralOf (Trees.JoinedStr z)) j.values_are (
        w.0,
        w.1,
        G.joined_string w.2 j.begins j.formatted,
      )
  literal_given _ h = absurd (never h)

  -- names with points between them, and the first
  record Points (e : Expr) : Type 0 where
    first : Identifier
    starts : starts_wild e ≡ is_wildcard first
    given : GivenAsSpelled (outside n) (G.Dotted first) e

  dotted_given : (e : Expr) → dotted_fits n e ≡ true → Points e
  dotted_given (Trees.Name x c) h =
      let w = and_parts (is_context Load c) (n.name x) h in
      in_context (λ k. Points (Trees.Name x k)) Load c w.0
      (record { first = x; starts = refl; given = (in_form x ∷ [], named_pass (outside n) x [] w.1 refl, G.first_name) })
  dotted_given (Trees.Attribute e x c) h =
      let w = parts3 (is_context Load c) (n.name x) (dotted_fits n e) h in
      let r = dotted_given e w.2 in
      let u = r.given in
      in_context (λ k. Points (Trees.Attribute e x k)) Load c w.0
      (record {
        first = r.first;
        starts = r.starts;
        given = (
          u.0 ++ (Op Dot ∷ (in_form x ∷ [])),
          pass_on (outside n) u.0 (Op Dot ∷ (in_form x ∷ [])) u.1
              (named_pass (outside n) x [] w.1 refl),
          G.dot_name _ u.2,
        );
      })
  dotted_given _ h = absurd (never h)

  pub class_given : (e : Expr) → class_fits n e ≡ true → GivenAsSpelled (outside n) G.ClassOf e
  class_given e h =
      let w = and_parts (dotted_fits n e) (not (starts_wild e)) h in
      let r = dotted_given e w.0 in
      let u = r.given in
      (u.0, u.1, G.class_name u.2 (sym r.starts ∙ not-true (starts_wild e) w.1))

  attribute_given : (e : Expr) → is_attribute e ≡ true → class_fits n e ≡ true
      → GivenAsSpelled (outside n) (G.DerivesPattern ClosedPattern) (Trees.MatchValue e)
  attribute_given (Trees.Attribute e x c) h q =
      let w = and_parts (is_context Load c && n.name x && dotted_fits n e) (not (starts_wild e)) q in
      let v = parts3 (is_context Load c) (n.name x) (dotted_fits n e) w.0 in
      let u = class_given e (and_from (dotted_fits n e) (not (starts_wild e)) v.2 w.1) in
      in_context (λ k. GivenAsSpelled (outside n) (G.DerivesPattern ClosedPattern) (Trees.MatchValue (Trees.Attribute e x k))) Load c v.0 (
        u.0 ++ (Op Dot ∷ (in_form x ∷ [])),
        pass_on (outside n) u.0 (Op Dot ∷ (in_form x ∷ [])) u.1 (named_pass (outside n) x [] v.1 refl),
        G.value _ u.2,
      )
  attribute_given _ h q = absurd (never h)

  pub value_given : (e : Expr) → value_fits n e ≡ true → GivenAsSpelled (outside n) (G.DerivesPattern ClosedPattern) (Trees.MatchValue e)
  value_given e h = elim (or_cases (literal_fits n e) (is_attribute e && class_fits n e) h) [
    | inl a ↦ literally (literal_given e a)
    | inr b ↦ attributed (and_parts (is_attribute e) (class_fits n e) b)
  ]
    where
      literally : GivenAsSpelled (outside n) G.LiteralOf e
          → GivenAsSpelled (outside n) (G.DerivesPattern ClosedPattern) (Trees.MatchValue e)
      literally u = (u.0, u.1, G.literal u.2)

      attributed : (is_attribute e ≡ true) × (class_fits n e ≡ true)
          → GivenAsSpelled (outside n) (G.DerivesPattern ClosedPattern) (Trees.MatchValue e)
      attributed w = attribute_given e w.0 w.1

  pub singleton_given : (v : Values.Value) → is_singleton v ≡ true → GivenAsSpelled (outside n) (G.DerivesPattern ClosedPattern)
      (Trees.MatchSingleton v)
  singleton_given Values.None h = (Word Key.None ∷ [], refl, G.singleton refl)
  singleton_given (Values.Bool true) h = (Word Key.True ∷ [], refl, G.singleton refl)
  singleton_given (Values.Bool false) h = (Word Key.False ∷ [], refl, G.singleton refl)
  singleton_given _ h = absurd (never h)

  singleton_key : (e : Expr) → singleton_fits e ≡ true → GivenAsSpelled (outside n) G.KeyOf e
  singleton_key (Trees.Constant Values.None) h = (Word Key.None ∷ [], refl, G.singleton_key refl)
  singleton_key (Trees.Constant (Values.Bool true)) h = (Word Key.True ∷ [], refl, G.singleton_key refl)
  singleton_key (Trees.Constant (Values.Bool false)) h = (Word Key.False ∷ [], refl, G.singleton_key refl)
  singleton_key _ h = absurd (never h)

  name_key : (e : Expr) → is_attribute e ≡ true → dotted_fits n e ≡ true → GivenAsSpelled (outside n) G.KeyOf e
  name_key (Trees.Attribute e x c) h q =
      let v = parts3 (is_context Load c) (n.name x) (dotted_fits n e) q in
      let u = (dotted_given e v.2).given in
      in_context (λ k. GivenAsSpelled (outside n) G.KeyOf (Trees.Attribute e x k)) Load c v.0 (
        u.0 ++ (Op Dot ∷ (in_form x ∷ [])),
        pass_on (outside n) u.0 (Op Dot ∷ (in_form x ∷ [])) u.1 (named_pass (outside n) x [] v.1 refl),
        G.name_key _ u.2,
      )
  name_key _ h q = absurd (never h)

  pub key_given : (e : Expr) → key_fits n e ≡ true → GivenAsSpelled (outside n) G.KeyOf e
  key_given e h = elim (or_cases (literal_fits n e || singleton_fits e) (is_attribute e && dotted_fits n e) h) [
    | inl a ↦ plain (or_cases (literal_fits n e) (singleton_fits e) a)
    | inr b ↦ attributed (and_parts (is_attribute e) (dotted_fits n e) b)
  ]
    where
      plain : (literal_fits n e ≡ true) ⊎ (singleton_fits e ≡ true) → GivenAsSpelled (outside n) G.KeyOf e
      plain (inl a) = let u = literal_given e a in (u.0, u.1, G.literal_key u.2)
      plain (inr b) = singleton_key e b

      attributed : (is_attribute e ≡ true) × (dotted_fits n e ≡ true) → GivenAsSpelled (outside n) G.KeyOf e
      attributed w = name_key e w.0 w.1
