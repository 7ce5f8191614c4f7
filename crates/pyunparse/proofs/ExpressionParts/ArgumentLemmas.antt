-- Carries: write_arguments. Arguments with commas between, or a generator that stands alone.
use Rattle.std.proofs.Common.{◌≡◌, ◌∙◌, ◌<◌, ◌==◌, Bool, true, false, if◌then◌else◌, List, [], ◌∷◌, ◌++◌, length, get_or, map, refl, ap}
use Rattle.std.proofs.Common.{sym, arith}
use Rattle.std.proofs.lemmas.Bool.{false≢true}
use Rattle.pylex_lexeme.specs.declared.kinds.Exact.TheVariants.{Comma}
use Rattle.pytree_node.specs.declared.expressions.Expr as given
use Rattle.pytree_node.specs.Trees.{Keywords, an_expr, exprs, no_exprs}
use Rattle.pytree_node.specs.TreeOf.{tree_of}
use Rattle.pygrammar.specs.declared.levels.Level.TheVariants.{Named}
use Rattle.pyunparse_text.specs.Pieces.{Sited, piece}
use Rattle.pyunparse_text.specs.Written.{alone, by_name, each, listed, lone_generator, separated, trailing, written}
use Rattle.pyunparse_text.specs.Folds.{puts}
use Rattle.pyunparse.specs.Inner.Members.{members}
use Rattle.pyunparse_text.proofs.Callers.Writing.{not_zero}
use Rattle.pyunparse.proofs.Sequences.AloneLemmas.{not_lone_generator}
use Rattle.pyunparse.proofs.Sequences.FoldLemmas.{two}
use Rattle.pyunparse.proofs.Sequences.MemberLemmas.{is_nil, members_both}

pub lone_some : (es : List given.Expr) (ks : Keywords) → lone_generator (exprs (map tree_of es)) ks ≡ true → 0 < length es
lone_some [] ks h = absurd (false≢true h)
lone_some (e ∷ es) ks h = omega arith

lone_one : (es : List given.Expr) (ks : Keywords) (e : given.Expr) → lone_generator (exprs (map tree_of es)) ks ≡ true → e ≡ get_or es 0 e
    → exprs (map tree_of es) ≡ an_expr (tree_of e) no_exprs
lone_one [] ks e h read = absurd (false≢true h)
lone_one (x ∷ []) ks e h read = ap (λ z. an_expr (tree_of z) no_exprs) (sym read)
lone_one (x ∷ (y ∷ es)) ks e h read = absurd (false≢true (sym (not_lone_generator (x ∷ (y ∷ es)) ks (λ l. omega (arith, l))) ∙ h))

pub alone_is : (es : List given.Expr) (ks : Keywords) (e : given.Expr) (ts : List Sited)
    → lone_generator (exprs (map tree_of es)) ks ≡ true → e ≡ get_or es 0 e →
    alone piece (an_expr (tree_of e) no_exprs) ≡ (if lone_generator (exprs (map tree_of es)) ks then alone piece
    (exprs (map tree_of es)) else ts)
alone_is es ks e ts h read = ap (alone piece) (sym (lone_one es ks e h read))
    ∙ (λ i. if sym h i then alone piece (exprs (map tree_of es)) else ts)

pub none_each : (es : List given.Expr) → is_nil (each piece Named (exprs (map tree_of es))) ≡ (length es == 0)
unfolding written
none_each [] = refl
none_each (e ∷ es) = sym (not_zero (length es))

pub args_listed : {S : Type 0} (after : S → Sited → S) (s s1 : S) (es : List given.Expr) (ks : Keywords) (b : Bool) →
    b ≡ (length es == 0) → lone_generator (exprs (map tree_of es)) ks ≡ false
    → s1 ≡ puts after s (separated (trailing piece Comma) (each piece Named (exprs (map tree_of es)))) →
    puts after s1 (members b (trailing piece Comma) (by_name piece ks))
    ≡ puts after s (if lone_generator (exprs (map tree_of es)) ks then alone piece (exprs (map tree_of es)) else listed piece
    (each piece Named (exprs (map tree_of es)) ++ by_name piece ks))
args_listed after s s1 es ks b hb h e1 =
    let t : Sited = trailing piece Comma in
    let X : List (List Sited) = each piece Named (exprs (map tree_of es)) in
    let Y : List (List Sited) = by_name piece ks in
    two after s (separated t X) (members b t Y) s1 e1
    ∙ ap (λ z. puts after s (separated t X ++ members z t Y)) (hb ∙ sym (none_each es))
    ∙ ap (puts after s) (sym (members_both true t X Y))
    ∙ (λ i. puts after s (if sym h i then alone piece (exprs (map tree_of es)) else separated t (X ++ Y)))
