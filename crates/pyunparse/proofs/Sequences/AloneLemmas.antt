-- Carries: lone_star, is_lone, write_arguments, write_alternative. A list of one.
use Rattle.std.proofs.Common.{◌≡◌, ◌∙◌, ◌==◌, ℕ, Bool, true, false, not, ◌&&◌, Option, None, Some, List, [], ◌∷◌, length, get_or, map, refl}
use Rattle.std.proofs.Common.{ap, sym, arith}
use Rattle.pytree_node.specs.declared.expressions.Expr as given
use Rattle.pytree_node.specs.declared.statements.Alias as given_alias
use Rattle.pytree_node.specs.declared.expressions.Keyword as given_keyword
use Rattle.pytree_node.specs.Trees as plain
use Rattle.pytree_node.specs.Trees.{exprs}
use Rattle.pytree_node.specs.TreeOf.{alias_of, keyword_of, tree_of}
use Rattle.std.specs.Prelude.{is_some}
use Rattle.std.proofs.lemmas.Bool.{false≢true}
use Rattle.pyunparse_text.specs.Statements.{are_all, is_star}
use Rattle.pyunparse_text.specs.Written.{lone_generator, lone_star}
use Rattle.pygrammar.specs.declared.levels.Level.{Level}
use Rattle.pyunparse.specs.Inner.Elements.{are_bare, is_alone, is_elem, is_part}
use Rattle.pyunparse_text.specs.Sorts.{is_generator}
use Rattle.pyunparse_text.proofs.Callers.Writing.{not_zero, one_item}

pub not_lone_star : (es : List given.Expr) → (length es ≡ 1 → ⊥) → lone_star (exprs (map tree_of es)) ≡ false
not_lone_star [] n = refl
not_lone_star (e ∷ []) n = absurd (n refl)
not_lone_star (e ∷ (f ∷ es)) n = many (tree_of e)
  where
    many : (t : plain.Expr) → lone_star (plain.an_expr t (exprs (map tree_of (f ∷ es)))) ≡ false
    many (plain.Starred _ _) = refl
    many _ = refl

pub not_lone_generator : (es : List given.Expr) (ks : plain.Keywords) → (length es ≡ 1 → ⊥)
    → lone_generator (exprs (map tree_of es)) ks ≡ false
not_lone_generator [] ks n = refl
not_lone_generator (e ∷ []) ks n = absurd (n refl)
not_lone_generator (e ∷ (f ∷ es)) ks n = many (tree_of e)
  where
    many : (t : plain.Expr) → lone_generator (plain.an_expr t (exprs (map tree_of (f ∷ es)))) ks ≡ false
    many (plain.GeneratorExp _ _) = refl
    many _ = refl

pub some_keywords : (es : plain.Exprs) (k : plain.Keyword) (ks : List plain.Keyword) → lone_generator es (plain.keywords (k ∷ ks)) ≡ false
some_keywords plain.no_exprs k ks = refl
some_keywords (plain.an_expr (plain.GeneratorExp _ _) plain.no_exprs) k ks = refl
some_keywords (plain.an_expr (plain.GeneratorExp _ _) (plain.an_expr _ _)) k ks = refl
some_keywords (plain.an_expr _ es) k ks = refl

pub lone_generator_is : (t : plain.Expr) → is_generator t ≡ lone_generator (plain.an_expr t plain.no_exprs) plain.no_keyword
lone_generator_is (plain.GeneratorExp _ _) = refl
lone_generator_is _ = refl

pub some_bare : (es : List given.Expr) (k : Level) (b : Bool) → b ≡ is_elem k → false ≡ (length es == 0)
    → not b ≡ are_bare (exprs (map tree_of es)) k
some_bare [] k b e f = absurd (false≢true f)
some_bare (x ∷ es) k b e f = ap not e

-- names of an import
pub not_all : (names : List given_alias.Alias) → (length names ≡ 1 → ⊥) → false ≡ are_all (map alias_of names)
not_all [] n = refl
not_all (a ∷ []) n = absurd (n refl)
not_all (a ∷ (b ∷ names)) n = refl

pub one_all : (names : List given_alias.Alias) (a : given_alias.Alias) → length names ≡ 1 → a ≡ get_or names 0 a
    → is_star a.name a.asname ≡ are_all (map alias_of names)
one_all names a e read = ap (λ z. are_all (map alias_of z)) (sym (one_item names a e read))

pub star_parts : (t : List ℕ) (o : Option (List ℕ)) (b : Bool) → is_some o ≡ not b → (b && is_star t None) ≡ is_star t o
star_parts t None true h = refl
star_parts t None false h = absurd (false≢true h)
star_parts t (Some x) true h = absurd (false≢true (sym h))
star_parts [] (Some x) false h = refl
star_parts (c ∷ []) (Some x) false h = refl
star_parts (c ∷ (d ∷ t)) (Some x) false h = refl

pub lone_keywords : (es : plain.Exprs) (ks : List given_keyword.Keyword) → false ≡ (length ks == 0)
    → false ≡ lone_generator es (plain.keywords (map keyword_of ks))
lone_keywords es [] f = absurd (false≢true f)
lone_keywords es (k ∷ ks) f = sym (some_keywords es (keyword_of k) (map keyword_of ks))

pub lone_no_keywords : (es : List given.Expr) (ks : List given_keyword.Keyword) (e : given.Expr) (b : Bool) → true ≡ (length ks == 0)
    → length es ≡ 1 → e ≡ get_or es 0 e → b ≡ is_generator (tree_of e) →
    b ≡ lone_generator (exprs (map tree_of es)) (plain.keywords (map keyword_of ks))
lone_no_keywords es (k ∷ ks) e b f l read h = absurd (false≢true (sym (not_zero (length ks)) ∙ sym f))
lone_no_keywords es [] e b f l read h = h ∙ lone_generator_is (tree_of e)
    ∙ ap (λ z. lone_generator (exprs (map tree_of z)) plain.no_keyword) (sym (one_item es e l read))

-- an element of a tuple
pub many_elements : (es : List given.Expr) (k : Level) → (length es ≡ 1 → ⊥) → false ≡ is_alone (exprs (map tree_of es)) k
many_elements [] k n = refl
many_elements (e ∷ []) k n = absurd (n refl)
many_elements (e ∷ (f ∷ es)) k n = refl

pub one_element : (es : List given.Expr) (k : Level) → length es ≡ 1 → not (is_part k && lone_star (exprs (map tree_of es))) ≡ is_alone
    (exprs (map tree_of es)) k
one_element [] k e = absurd (omega (arith, e))
one_element (x ∷ []) k e = refl
one_element (x ∷ (y ∷ es)) k e = absurd (omega (arith, e))
