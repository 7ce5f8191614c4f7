-- Carries: write_pairs, write_clause, write_keyword_only. One pair of a dictionary, one clause,
-- one parameter by name more.
use Rattle.std.proofs.Common.{◌≡◌, ◌∙◌, Bool, true, false, List, [], ◌∷◌, ◌++◌, Option, None, Some, map, refl, ap}
use Rattle.pylex_lexeme.specs.declared.kinds.Exact.TheVariants.{Equal}
use Rattle.pytoken.specs.declared.keywords.Keyword.TheVariants as Key
use Rattle.pytree_node.specs.declared.expressions.Expr as given
use Rattle.pytree_node.specs.declared.expressions.Arg as given_arg
use Rattle.pytree_node.specs.Trees.{Identifier, Keyword, Keywords, a_keyword, args, Expr, Exprs, exprs, optional}
use Rattle.pytree_node.specs.Trees.{optionals}
use Rattle.pytree_node.specs.TreeOf.{arg_of, option_of, tree_of}
use Rattle.pygrammar.specs.declared.levels.Level.TheVariants.{Expression, Or, Stars}
use Rattle.pyunparse_text.specs.Pieces.{Sited, piece, pieces}
use Rattle.pyunparse_text.specs.Written.{beside, by_name, conditions, defaults, for_in, names, pairs, suffixed, tight, word, written}
use Rattle.pyunparse_text.specs.Written.{written_keys}
use Rattle.pyunparse.specs.Inner.Arguments.{argument, argument_name}
use Rattle.pyunparse_text.specs.Folds.{puts}
use Rattle.pyunparse.specs.Inner.Pairs.{pair}
use Rattle.pyunparse.specs.Inner.Parameters.{named}
use Rattle.pyunparse.proofs.Sequences.FoldLemmas.{five}
use Rattle.pyunparse.proofs.ExpressionParts.ParameterLemmas.{one_more}

abbrev pub pairs_of : List (Option given.Expr) → List given.Expr → List (List Sited)
pairs_of ks es = pairs piece (written_keys piece (optionals (map option_of ks))) (exprs (map tree_of es))

pub pair_more : (k : Option given.Expr) (e : given.Expr) (ks : List (Option given.Expr)) (es : List given.Expr)
    → pairs_of (k ∷ ks) (e ∷ es) ≡ pair (option_of k) (tree_of e) ∷ pairs_of ks es
unfolding written
pair_more None e ks es = refl
pair_more (Some k) e ks es = refl

pub no_keys : (es : List given.Expr) → pairs_of [] es ≡ []
unfolding written
no_keys [] = refl
no_keys (e ∷ es) = refl

pub no_values : (ks : List (Option given.Expr)) → pairs_of ks [] ≡ []
unfolding written
no_values [] = refl
no_values (None ∷ ks) = refl
no_values (Some k ∷ ks) = refl

-- a clause
pub clause_on : {S : Type 0} (after : S → Sited → S) (s : S) (b : Bool) (t e : Expr) (cs : Exprs) {s1 s2 s3 s4 : S} →
    s1 ≡ puts after s (for_in piece b []) → s2 ≡ puts after s1 (pieces Stars t) → s3 ≡ puts after s2 (word piece Key.In ∷ [])
    → s4 ≡ puts after s3 (pieces Or e) →
    puts after s4 (conditions piece cs) ≡ puts after s
    (for_in piece b (pieces Stars t ++ (word piece Key.In ∷ (pieces Or e ++ conditions piece cs))))
clause_on after s b t e cs {s1} {s2} {s3} {s4} e1 e2 e3 e4 =
    five after s (for_in piece b []) (pieces Stars t) (word piece Key.In ∷ []) (pieces Or e) (conditions piece cs) s1 s2 s3 s4 e1 e2 e3 e4
    ∙ ap (puts after s) (by b)
  where
    by : (b : Bool) → for_in piece b [] ++ (pieces Stars t ++ ((word piece Key.In ∷ []) ++ (pieces Or e ++ conditions piece cs))) ≡ for_in
        piece b (pieces Stars t ++ (word piece Key.In ∷ (pieces Or e ++ conditions piece cs)))
    by true = refl
    by false = refl

-- keyword-only parameters and their defaults
abbrev pub kwonly : List given_arg.Arg → List (Option given.Expr) → List (List Sited)
kwonly ps ds = beside (names piece (args (map arg_of ps))) (defaults piece (optionals (map option_of ds)))

pub kwonly_more : (p : given_arg.Arg) (d : Option given.Expr) (ps : List given_arg.Arg) (ds : List (Option given.Expr)) →
    kwonly (p ∷ ps) (d ∷ ds) ≡ (named (arg_of p) ++ suffixed piece (tight piece Equal) (optional (option_of d))) ∷ kwonly ps ds
unfolding written
kwonly_more p d ps ds = ap (λ z. beside z (defaults piece (optionals (map option_of (d ∷ ds)))))
    (one_more (arg_of p) (args (map arg_of ps)))

pub no_params : (ds : List (Option given.Expr)) → kwonly [] ds ≡ []
unfolding written
no_params ds = refl

pub no_defaults : (ps : List given_arg.Arg) → kwonly ps [] ≡ []
unfolding written
no_defaults [] = refl
no_defaults (p ∷ ps) = ap (λ z. beside z []) (one_more (arg_of p) (args (map arg_of ps)))

-- an argument by name more
pub by_name_more : (k : Keyword) (ks : Keywords) → by_name piece (a_keyword k.arg k.value ks) ≡ argument k ∷ by_name piece ks
unfolding written
by_name_more k ks = by k.arg
  where
    by : (o : Option Identifier)
        → by_name piece (a_keyword o k.value ks) ≡ (argument_name o ++ pieces Expression k.value) ∷ by_name piece ks
    by None = refl
    by (Some x) = refl
