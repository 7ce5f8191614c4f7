-- Carries: write_type_param, write_bound, write_type_params. The parameters of types, part by part.
use Rattle.std.proofs.Common.{◌≡◌, ◌∙◌, ◌==◌, false, true, List, [], ◌∷◌, length, map, Option, refl, ap, sym}
use Rattle.std.proofs.lemmas.Bool.{false≢true}
use Rattle.pylex_lexeme.specs.declared.kinds.Exact.TheVariants.{Colon, DoubleStar, LSqb, RSqb, Star}
use Rattle.pytree_node.specs.declared.expressions.Expr.{Expr}
use Rattle.pytree_node.specs.declared.statements.TypeParam.{TypeParam}
use Rattle.pytree_node.specs.declared.statements.TypeParam.TheVariants as parameter
use Rattle.pytree_node.specs.Trees.{Identifier}
use Rattle.pytree_node.specs.TreeOf.{option_of, type_param_of}
use Rattle.pygrammar.specs.declared.levels.Level.TheVariants.{Expression}
use Rattle.pytoken.specs.Terminals.{in_form}
use Rattle.pyunparse_text.specs.Pieces.{Sited, piece}
use Rattle.pyunparse_text.specs.Statements.{following, type_param, type_params}
use Rattle.pyunparse_text.specs.Written.{free, leading, listed, tight, trailing}
use Rattle.pyunparse_text.specs.Folds.{puts}
use Rattle.pyunparse_text.proofs.Callers.Writing.{not_zero}
use Rattle.pyunparse.proofs.Sequences.FoldLemmas.{enclosed_on, two}

module _ {S : Type 0} (after : S → Sited → S) (s : S) where
  module _ (p : TypeParam) where
    pub variable_on : (x : Identifier) (bound : Option Expr) (s1 : S) → p ≡ parameter.TypeVar x bound
        → s1 ≡ puts after s (free piece (in_form x) ∷ []) →
        puts after s1 (following piece (trailing piece Colon) Expression (option_of bound)) ≡ puts after s (type_param piece (type_param_of p))
    variable_on x bound s1 is e1 =
        two after s (free piece (in_form x) ∷ []) (following piece (trailing piece Colon) Expression (option_of bound)) s1 e1
        ∙ ap (λ z. puts after s (type_param piece (type_param_of z))) (sym is)

    pub tuple_on : (x : Identifier) (s1 : S) → p ≡ parameter.TypeVarTuple x → s1 ≡ puts after s (leading piece Star ∷ []) →
        puts after s1 (free piece (in_form x) ∷ []) ≡ puts after s (type_param piece (type_param_of p))
    tuple_on x s1 is e1 = two after s (leading piece Star ∷ []) (free piece (in_form x) ∷ []) s1 e1
        ∙ ap (λ z. puts after s (type_param piece (type_param_of z))) (sym is)

    pub specification_on : (x : Identifier) (s1 : S) → p ≡ parameter.ParamSpec x → s1 ≡ puts after s (leading piece DoubleStar ∷ []) →
        puts after s1 (free piece (in_form x) ∷ []) ≡ puts after s (type_param piece (type_param_of p))
    specification_on x s1 is e1 = two after s (leading piece DoubleStar ∷ []) (free piece (in_form x) ∷ []) s1 e1
        ∙ ap (λ z. puts after s (type_param piece (type_param_of z))) (sym is)

  -- in their brackets, if there are any
  pub no_params : (ps : List TypeParam) → true ≡ (length ps == 0) → s ≡ puts after s (type_params piece (map type_param_of ps))
  no_params [] e = refl
  no_params (p ∷ ps) e = absurd (false≢true (sym (not_zero (length ps)) ∙ sym e))

  pub params_on : (ps : List TypeParam) (s1 s2 : S) → false ≡ (length ps == 0) → s1 ≡ puts after s (tight piece LSqb ∷ []) →
      s2 ≡ puts after s1 (listed piece (map (type_param piece) (map type_param_of ps))) →
      puts after s2 (trailing piece RSqb ∷ []) ≡ puts after s (type_params piece (map type_param_of ps))
  params_on [] s1 s2 e e1 e2 = absurd (false≢true e)
  params_on (p ∷ ps) s1 s2 e e1 e2 =
      enclosed_on after s (tight piece LSqb) RSqb (listed piece (map (type_param piece) (map type_param_of (p ∷ ps)))) s1 s2 e1 e2
