-- Carries: the readers of headers. On: what is made of parameters and
-- arguments after their bracket.
use Rattle.std.proofs.Common.{◌≡◌, refl, ℕ, List, [], ◌∷◌, Option, Some, None, Bool, true, false, cond}
use Rattle.pylex_lexeme.specs.declared.kinds.Exact.TheVariants.{RPar}
use Rattle.pytree_node.specs.Trees.{Arguments, Exprs, Keywords}
use Rattle.pytoken.specs.Terminals.{Terminal}
use Rattle.pygrammar.specs.Arguments.{in_order, keywords, positional}
use Rattle.pygrammar.specs.Entries.{Argument, Entry, Parameter}
use Rattle.pygrammar.specs.Looks.{is_op}
use Rattle.pygrammar.specs.Parameters.{arranged}
use Rattle.pygrammar.specs.Reader.{Answer, Found, NoForm, TooDeep, and_then, listing_of, made, on_first, on_some}
use Rattle.pyparse_reads.specs.declared.depth.Depth.{Depth}
use Rattle.pyparse_reads.specs.Readings.{read_arguments, read_parameters, reads}

-- no form after a sign, and none without it
never : {B : Type 0} (f : Terminal → Option ℕ) (r : List Terminal) → ◌≡◌ {A = Answer B} (on_first f r (λ _ _. NoForm) NoForm) NoForm
never f [] = refl
never {B = B} f (t ∷ r) = go (f t)
  where
    go : (o : Option ℕ) → ◌≡◌ {A = Answer B} (on_some o (λ _. NoForm) NoForm) NoForm
    go None = refl
    go (Some n) = refl

module _ {B : Type 0} (d : Depth) (i : List Terminal) where
  pub parameters_then : (k : Arguments → List Terminal → Answer B) → and_then (listing_of (reads d) (Parameter true) [] i)
      (λ ps r. on_first (is_op RPar) r (λ _ s. on_some (arranged ps) (λ a. k a s) NoForm) NoForm) ≡ and_then (read_parameters d i)
      (λ a r. on_first (is_op RPar) r (λ _ s. k a s) NoForm)
  parameters_then k = go (listing_of (reads d) (Parameter true) [] i)
    where
      one : (o : Option Arguments) (r : List Terminal) → on_first (is_op RPar) r (λ _ s. on_some o (λ a. k a s) NoForm) NoForm ≡ and_then
          (made o r) (λ a r. on_first (is_op RPar) r (λ _ s. k a s) NoForm)
      one None r = never (is_op RPar) r
      one (Some a) r = refl

      go : (x : Answer (List Entry))
          → and_then x (λ ps r. on_first (is_op RPar) r (λ _ s. on_some (arranged ps) (λ a. k a s) NoForm) NoForm) ≡ and_then
          (and_then x (λ ps r. made (arranged ps) r)) (λ a r. on_first (is_op RPar) r (λ _ s. k a s) NoForm)
      go NoForm = refl
      go TooDeep = refl
      go (Found ps r) = one (arranged ps) r

  pub arguments_then : (k : Exprs → Keywords → List Terminal → Answer B)
      → and_then (listing_of (reads d) Argument [] i)
      (λ es r. on_first (is_op RPar) r (λ _ s. cond (in_order false false es) (k (positional es) (keywords es) s) NoForm) NoForm) ≡ and_then
      {A = Exprs × Keywords} (read_arguments d i) (λ p r. on_first (is_op RPar) r (λ _ s. k p.0 p.1 s) NoForm)
  arguments_then k = go (listing_of (reads d) Argument [] i)
    where
      one : (b : Bool) (xs : Exprs) (ks : Keywords) (r : List Terminal) → on_first (is_op RPar) r (λ _ s. cond b (k xs ks s) NoForm)
          NoForm ≡ and_then {A = Exprs × Keywords} (cond b (Found (xs, ks) r) NoForm)
          (λ p r. on_first (is_op RPar) r (λ _ s. k p.0 p.1 s) NoForm)
      one false xs ks r = never (is_op RPar) r
      one true xs ks r = refl

      go : (x : Answer (List Entry))
          → and_then x (λ es r. on_first (is_op RPar) r (λ _ s. cond (in_order false false es) (k (positional es) (keywords es) s) NoForm)
          NoForm) ≡ and_then {A = Exprs × Keywords}
          (and_then x (λ es r. cond (in_order false false es) (Found (positional es, keywords es) r) NoForm))
          (λ p r. on_first (is_op RPar) r (λ _ s. k p.0 p.1 s) NoForm)
      go NoForm = refl
      go TooDeep = refl
      go (Found es r) = one (in_order false false es) (positional es) (keywords es) r
