-- Parameters of types, and the statement `type`.
--
-- Carries: read_type_param, starts_type_param, with_param, bracketed_type_params, type_alias.
-- On: LineReader, Heights.
use Rattle.std.proofs.Common.{◌≡◌, refl, ap, ◌∙◌, arith, ℕ, ◌+◌, max, List, [], ◌∷◌, ◌++◌, map, Some, None, false}
use Rattle.std.proofs.lemmas.List.{map-append}
use Rattle.pylex_lexeme.specs.declared.kinds.Exact.TheVariants.{DoubleStar, LSqb, RSqb, Star}
use Rattle.pytree_node.specs.declared.statements.TypeParam as given_param
use Rattle.pytree_node.specs.Trees.{Identifier, ParamSpec, TypeParam, TypeVarTuple}
use Rattle.pytree_node.specs.TreeOf.{type_param_of}
use Rattle.pytoken.specs.Terminals.{Ident, Op, Terminal}
use Rattle.pytoken.specs.declared.values.terminals.Terminal as given
use Rattle.pytree_height.specs.Heights.{type_param_height, type_param_heights}
use Rattle.pygrammar.specs.LineReader.{bracketed_type_params, commas_of, read_type_param, starts_type_param}
use Rattle.pygrammar.specs.Looks.{is_op, name_in}
use Rattle.pygrammar.specs.Reader.{Answer, Found, NoForm, Reads, and_then, closed, on_first}
use Rattle.pyparse_nodes.specs.Views.{Stands, first_is, first_of, seen}
use Rattle.pyparse_reads.proofs.Callers.Looks.{first_miss}
use Rattle.pyparse_statement.specs.Inner.Types.{begins_type_param, type_var}
use Rattle.pyparse_statement.proofs.Callers.Parts.{name_next}

-- where one begins
pub starts_here : (r : List Terminal) (t : Terminal) → first_of r ≡ Some t → starts_type_param r ≡ begins_type_param t
starts_here [] t h = absurd (cc)
starts_here (Ident x ∷ r) t h = let e : Ident x ≡ t = cc in ap begins_type_param e
starts_here (Op Star ∷ r) t h = let e : Op Star ≡ t = cc in ap begins_type_param e
starts_here (Op DoubleStar ∷ r) t h = let e : Op DoubleStar ≡ t = cc in ap begins_type_param e
starts_here (Op x ∷ r) t h = let e : Op x ≡ t = cc in ap begins_type_param e
starts_here (u ∷ r) t h = let e : u ≡ t = cc in ap begins_type_param e

pub starts_not : (r : List Terminal) → first_of r ≡ None → starts_type_param r ≡ false
starts_not [] h = refl
starts_not (t ∷ r) h = absurd (cc)

-- one more
pub param_pushed : (xs ys : List given_param.TypeParam) (p : given_param.TypeParam) → ys ≡ xs ++ (p ∷ [])
    → map type_param_of ys ≡ map type_param_of xs ++ (type_param_of p ∷ [])
param_pushed xs ys p h = ap (λ l. map type_param_of l) h ∙ map-append type_param_of xs (p ∷ [])

higher : (ps : List TypeParam) (p : TypeParam) → type_param_heights (ps ++ (p ∷ [])) ≡ max (type_param_heights ps) (type_param_height p)
higher [] p = omega arith
higher (q ∷ ps) p = omega (arith, higher ps p)

pub param_height : (xs ys : List given_param.TypeParam) (p : given_param.TypeParam) (h k : ℕ) → ys ≡ xs ++ (p ∷ [])
    → h ≡ type_param_heights (map type_param_of xs) → k ≡ type_param_height (type_param_of p)
    → max h k ≡ type_param_heights (map type_param_of ys)
param_height xs ys p h k e a b = omega (
  arith,
  a,
  b,
  ap type_param_heights (param_pushed xs ys p e),
  higher (map type_param_of xs) (type_param_of p),
)

-- one, by what it begins with
module _ (ts : List given.Terminal) (self : Reads) (at : ℕ) where
  pub by_name : (x : Identifier) → Some x ≡ first_is name_in (seen ts at)
      → read_type_param self (seen ts at) ≡ type_var self x (seen ts (at + 1))
  by_name x h = name_next ts at x (λ y r. type_var self y r) _ h

  module _ (n : None ≡ first_is name_in (seen ts at)) where
    abbrev starred : List Terminal → Answer TypeParam
    starred r = on_first name_in r (λ x r1. Found (TypeVarTuple x) r1) NoForm

    abbrev doubled : List Terminal → Answer TypeParam
    doubled r = on_first name_in r (λ x r1. Found (ParamSpec x) r1) NoForm

    nameless : read_type_param self (seen ts at) ≡ on_first (is_op Star) (seen ts at) (λ _ r. starred r)
        (on_first (is_op DoubleStar) (seen ts at) (λ _ r. doubled r) NoForm)
    nameless = first_miss name_in (seen ts at) (λ y r. type_var self y r) _ n

    star_is : Stands (Op Star) ts at → read_type_param self (seen ts at) ≡ starred (seen ts (at + 1))
    star_is s =
        let w : on_first (is_op Star) (seen ts at) (λ _ r. starred r) (on_first (is_op DoubleStar) (seen ts at) (λ _ r. doubled r) NoForm) ≡
        starred (seen ts (at + 1)) = rw s.is refl in
        nameless ∙ w

    pub by_star : (x : Identifier) → Stands (Op Star) ts at → Some x ≡ first_is name_in (seen ts (at + 1))
        → read_type_param self (seen ts at) ≡ Found (TypeVarTuple x) (seen ts (at + 2))
    by_star x s h = star_is s ∙ name_next ts (at + 1) x (λ y r. Found (TypeVarTuple y) r) NoForm h
        ∙ ap (λ k. Found (TypeVarTuple x) (seen ts k)) two
      where
        two : at + 1 + 1 ≡ at + 2
        two = omega arith

    pub star_alone : Stands (Op Star) ts at → None ≡ first_is name_in (seen ts (at + 1)) → read_type_param self (seen ts at) ≡ NoForm
    star_alone s h = star_is s ∙ first_miss name_in (seen ts (at + 1)) (λ y r. Found (TypeVarTuple y) r) NoForm h

    module _ (no_star : None ≡ first_is (is_op Star) (seen ts at)) where
      starless : read_type_param self (seen ts at) ≡ on_first (is_op DoubleStar) (seen ts at) (λ _ r. doubled r) NoForm
      starless = nameless ∙ first_miss (is_op Star) (seen ts at) (λ _ r. starred r) _ no_star

      stars_are : Stands (Op DoubleStar) ts at → read_type_param self (seen ts at) ≡ doubled (seen ts (at + 1))
      stars_are s =
          let w : on_first (is_op DoubleStar) (seen ts at) (λ _ r. doubled r) NoForm ≡ doubled (seen ts (at + 1)) = rw s.is refl in
          starless ∙ w

      pub by_stars : (x : Identifier) → Stands (Op DoubleStar) ts at → Some x ≡ first_is name_in (seen ts (at + 1))
          → read_type_param self (seen ts at) ≡ Found (ParamSpec x) (seen ts (at + 2))
      by_stars x s h = stars_are s ∙ name_next ts (at + 1) x (λ y r. Found (ParamSpec y) r) NoForm h
          ∙ ap (λ k. Found (ParamSpec x) (seen ts k)) two
        where
          two : at + 1 + 1 ≡ at + 2
          two = omega arith

      pub stars_alone : Stands (Op DoubleStar) ts at → None ≡ first_is name_in (seen ts (at + 1))
          → read_type_param self (seen ts at) ≡ NoForm
      stars_alone s h = stars_are s ∙ first_miss name_in (seen ts (at + 1)) (λ y r. Found (ParamSpec y) r) NoForm h

      pub no_param : None ≡ first_is (is_op DoubleStar) (seen ts at) → read_type_param self (seen ts at) ≡ NoForm
      no_param h = starless ∙ first_miss (is_op DoubleStar) (seen ts at) (λ _ r. doubled r) NoForm h

  -- those in brackets
  pub no_bracket : None ≡ first_is (is_op LSqb) (seen ts at) → bracketed_type_params self (seen ts at) ≡ Found [] (seen ts at)
  no_bracket h = first_miss (is_op LSqb) (seen ts at) _ (Found [] (seen ts at)) h

  pub in_brackets : Stands (Op LSqb) ts at → bracketed_type_params self (seen ts at) ≡ and_then
      (commas_of (read_type_param self) starts_type_param (seen ts (at + 1))) (λ ps r. closed RSqb r ps)
  in_brackets s = rw s.is refl
