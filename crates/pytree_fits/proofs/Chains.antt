-- Carries: expr_fits, pattern_fits, statement_fits. On: tests in a row, one of which fails or all
-- but the last of which hold, or of which the first were told together.
use Rattle.std.proofs.Common.{◌≡◌, refl, List, length, Option, Some, None, Bool, true, false}
use Rattle.std.specs.Prelude.{◌&&◌, eqb, Result, IfOk}
use Rattle.std.specs.List.{list_all}
use Rattle.pytree_node.specs.Trees.{Identifier, Expr, Patterns, MatchMapping}
use Rattle.pygrammar.specs.declared.pattern_levels.PatternLevel.{PatternLevel}
use Rattle.pygrammar.specs.declared.pattern_levels.PatternLevel.TheVariants.{AsPattern}
use Rattle.pytree_fits.specs.Tests.{Tests}
use Rattle.pytree_fits.specs.PatternSlots.{target_fits, key_fits, count_patterns, pattern_fits_at, each_pattern_fits}

pub first_of_three : (x y z : Bool) → false ≡ x → false ≡ (x && y && z)
first_of_three false y z h = refl
first_of_three true y z h = absurd (cc)

pub second_of_three : (x y z : Bool) → true ≡ x → false ≡ y → false ≡ (x && y && z)
second_of_three true false z h g = refl
second_of_three true true z h g = absurd (cc)
second_of_three false y z h g = absurd (cc)

pub last_of_three : {E : Type 0} (r : Result Bool E) (x y z : Bool) → true ≡ x → true ≡ y → IfOk r (λ told. told ≡ z)
    → IfOk r (λ told. told ≡ (x && y && z))
last_of_three r true true z h g f = f
last_of_three r true false z h g f = absurd (cc)
last_of_three r false y z h g f = absurd (cc)

pub first_of_four : (x y z w : Bool) → false ≡ x → false ≡ (x && y && z && w)
first_of_four false y z w h = refl
first_of_four true y z w h = absurd (cc)

pub third_of_four : (x y z w : Bool) → true ≡ x → true ≡ y → false ≡ z → false ≡ (x && y && z && w)
third_of_four true true z w h g f = first z w f
  where
    first : (z w : Bool) → false ≡ z → false ≡ (z && w)
    first false w f = refl
    first true w f = absurd (cc)
third_of_four true false z w h g f = absurd (cc)
third_of_four false y z w h g f = absurd (cc)

pub last_of_four : {E : Type 0} (r : Result Bool E) (x y z w : Bool) → true ≡ x → true ≡ y → true ≡ z → IfOk r (λ told. told ≡ w)
    → IfOk r (λ told. told ≡ (x && y && z && w))
last_of_four r true true true w h g f e = e
last_of_four r true true false w h g f e = absurd (cc)
last_of_four r true false z w h g f e = absurd (cc)
last_of_four r false y z w h g f e = absurd (cc)

pub second_fails : (x y : Bool) → false ≡ y → false ≡ (x && y)
second_fails true y h = h
second_fails false y h = refl

-- tests that were told together, before one more
pub two_and : (x y u : Bool) → ((x && y) && u) ≡ (x && y && u)
two_and true y u = refl
two_and false y u = refl

pub three_and : (x y z u : Bool) → ((x && y && z) && u) ≡ (x && y && z && u)
three_and true y z u = two_and y z u
three_and false y z u = refl

pub five_and : (v w x y z u : Bool) → ((v && w && x && y && z) && u) ≡ (v && w && x && y && z && u)
five_and true true x y z u = three_and x y z u
five_and true false x y z u = refl
five_and false w x y z u = refl

-- the patterns of a mapping
pub mapping_fails : (n : Tests) (l : PatternLevel) (keys : List Expr) (ps : Patterns) (o : Option Identifier)
    → false ≡ each_pattern_fits n AsPattern ps → false ≡ pattern_fits_at n l (MatchMapping keys ps o)
mapping_fails n l keys ps None h = second_fails (eqb (length keys) (count_patterns ps) && list_all (key_fits n) keys)
    (each_pattern_fits n AsPattern ps) h
mapping_fails n l keys ps (Some x) h =
    first_fails (eqb (length keys) (count_patterns ps) && list_all (key_fits n) keys && each_pattern_fits n AsPattern ps) (target_fits n x)
    (second_fails (eqb (length keys) (count_patterns ps) && list_all (key_fits n) keys) (each_pattern_fits n AsPattern ps) h)
  where
    first_fails : (x y : Bool) → false ≡ x → false ≡ (x && y)
    first_fails false y h = refl
    first_fails true y h = absurd (cc)
