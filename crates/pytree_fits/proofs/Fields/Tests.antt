-- Carries: the laws of the slots. On: tests that hold together, values that are there, constants.
use Rattle.std.proofs.Common.{◌≡◌, refl, ℕ, zero, suc, map, List, [], ◌∷◌, ◌++◌, Option, Some, Bool, true, false}
use Rattle.std.specs.Prelude.{◌&&◌}
use Rattle.std.proofs.lemmas.Bool.{and_parts, and_from}
use Rattle.pylex_lexeme.specs.declared.kinds.Exact.TheVariants.{Ellipsis}
use Rattle.pytoken.specs.declared.keywords.Keyword.TheVariants as Key
use Rattle.pytree_node.specs.declared.operators.Context.{Context}
use Rattle.pytree_node.specs.declared.operators.Context.TheVariants.{Load, Store, Del}
use Rattle.pytree_node.specs.Trees.{Expr, Exprs, an_expr}
use Rattle.pytree_node.specs.Values
use Rattle.pytoken.specs.Terminals.{Terminal, Op, Word, Literal}
use Rattle.pygrammar.specs.Constants.{constant_word, joined}
use Rattle.pygrammar.specs.Targets.{both}
use Rattle.pytoken.specs.Laws.{is_point, is_byte}
use Rattle.pytree_fits.specs.Tests.{Tests}
use Rattle.pytree_fits.specs.Literals.{is_bare, is_bare_byte, has_text, has_bytes, is_value}
use Rattle.pytree_fits.specs.Slots.{is_context}
use Rattle.pytree_fits.specs.Given.{is_literal, passes}
use Rattle.pytree_fits.proofs.Fields.Standing.{Standing, here, pass_at}
use Rattle.pyunparse_text.proofs.Callers.Trees.{given}
use Rattle.pyunparse_text.proofs.Callers.Strings.{both_in}

-- ---- Three tests and more.

pub parts3 : (x y z : Bool) → (x && y && z) ≡ true → (x ≡ true) × (y ≡ true) × (z ≡ true)
parts3 true y z h = let w = and_parts y z h in (refl, w.0, w.1)
parts3 false y z h = absurd (cc)

pub from3 : (x y z : Bool) → x ≡ true → y ≡ true → z ≡ true → (x && y && z) ≡ true
from3 true y z p q r = and_from y z q r
from3 false y z p q r = absurd (cc)

pub parts4 : (x y z u : Bool) → (x && y && z && u) ≡ true → (x ≡ true) × (y ≡ true) × (z ≡ true) × (u ≡ true)
parts4 true y z u h = let w = parts3 y z u h in (refl, w.0, w.1, w.2)
parts4 false y z u h = absurd (cc)

pub from4 : (x y z u : Bool) → x ≡ true → y ≡ true → z ≡ true → u ≡ true → (x && y && z && u) ≡ true
from4 true y z u p q r t = from3 y z u q r t
from4 false y z u p q r t = absurd (cc)

pub parts5 : (x y z u v : Bool) → (x && y && z && u && v) ≡ true → (x ≡ true) × (y ≡ true) × (z ≡ true) × (u ≡ true) × (v ≡ true)
parts5 true y z u v h = let w = parts4 y z u v h in (refl, w.0, w.1, w.2, w.3)
parts5 false y z u v h = absurd (cc)

pub parts6 : (x y z u v w : Bool) → (x && y && z && u && v && w) ≡ true → (x ≡ true) × (y ≡ true) × (z ≡ true) × (u ≡ true)
    × (v ≡ true) × (w ≡ true)
parts6 true y z u v w h = let o = parts5 y z u v w h in (refl, o.0, o.1, o.2, o.3, o.4)
parts6 false y z u v w h = absurd (cc)

pub never : ◌≡◌ {A = Bool} false true → ⊥
never h = absurd (cc)

-- ---- What is there.

pub both_some : (o : Option Expr) (p : Option Exprs) (e : Expr) (es : Exprs) → o ≡ Some e → p ≡ Some es → both o p ≡ Some (an_expr e es)
both_some o p e es h g = rw (h, g) refl

-- a node with the context of its place
pub in_context : (P : Context → Type 0) (k c : Context) → is_context k c ≡ true → P k → P c
in_context P Load Load h p = p
in_context P Load Store h p = absurd (cc)
in_context P Load Del h p = absurd (cc)
in_context P Store Load h p = absurd (cc)
in_context P Store Store h p = p
in_context P Store Del h p = absurd (cc)
in_context P Del Load h p = absurd (cc)
in_context P Del Store h p = absurd (cc)
in_context P Del Del h p = p

-- ---- Constants.

pub word_value : (n : Tests) (t : Terminal) (v : Values.Value) → constant_word t ≡ Some v → is_value n v ≡ true
word_value n (Word Key.None) v h = given (λ z. is_value n z ≡ true) h refl
word_value n (Word Key.True) v h = given (λ z. is_value n z ≡ true) h refl
word_value n (Word Key.False) v h = given (λ z. is_value n z ≡ true) h refl
word_value n (Op Ellipsis) v h = given (λ z. is_value n z ≡ true) h refl
word_value n _ v h = absurd (cc)

-- texts and bytes side by side, in so many fields
pub text_on : (f : ℕ) (t s : List ℕ) → has_text f t ≡ true → has_text f s ≡ true → has_text f (t ++ s) ≡ true
text_on zero t s h g = both_in is_point t s h g
text_on (suc zero) t s h g = both_in is_bare t s h g
text_on (suc (suc k)) t s h g = absurd (cc)

bytes_on : (f : ℕ) (t s : List ℕ) → has_bytes f t ≡ true → has_bytes f s ≡ true → has_bytes f (t ++ s) ≡ true
bytes_on zero t s h g = both_in is_byte t s h g
bytes_on (suc zero) t s h g = both_in is_bare_byte t s h g
bytes_on (suc (suc k)) t s h g = absurd (cc)

-- literals side by side
pub joined_value : (n : Standing) (v w : Values.Value) (vs : List Values.Value) → passes n.tests n.opened (Literal v) ≡ true
    → pass_at n (map Literal vs) ≡ true → joined v vs ≡ Some w → is_value (here n) w ≡ true
joined_value n v w [] p q h = given (λ z. is_value (here n) z ≡ true) h (and_parts (is_literal v) (is_value (here n) v) p).1
joined_value n (Values.Str t u) w (Values.Str s x ∷ vs) p q h =
    let r = and_parts (has_text (here n).fields s) (pass_at n (map Literal vs)) q in
    joined_value n (Values.Str (t ++ s) u) w vs (text_on (here n).fields t s p r.0) r.1 h
joined_value n (Values.Bytes t) w (Values.Bytes s ∷ vs) p q h =
    let r = and_parts (has_bytes (here n).fields s) (pass_at n (map Literal vs)) q in
    joined_value n (Values.Bytes (t ++ s)) w vs (bytes_on (here n).fields t s p r.0) r.1 h
joined_value n _ w (_ ∷ vs) p q h = absurd (cc)
