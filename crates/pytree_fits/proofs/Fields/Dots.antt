-- Carries: the laws of the slots. On: names with dots between.
use Rattle.std.proofs.Common.{◌≡◌, refl, sym, ap, subst, ◌∙◌, ℕ, List, [], ◌∷◌, ◌++◌, Bool, true, false, cond}
use Rattle.std.specs.Prelude.{◌==◌, not}
use Rattle.std.specs.List.{list_all}
use Rattle.std.proofs.lemmas.Bool.{and_parts, and_from, eqb-true, not-true}
use Rattle.pylex_lexeme.specs.declared.kinds.Exact.TheVariants.{Dot}
use Rattle.pytree_node.specs.Trees.{Identifier}
use Rattle.pytoken.specs.Terminals.{Terminal, Op, in_form}
use Rattle.pygrammar.specs.Forms as F
use Rattle.pygrammar.specs.DottedNames.{lengthen, names_in}
use Rattle.pytree_fits.specs.Tests.{Tests}
use Rattle.pytree_fits.specs.Statements.{has_one, dotted}
use Rattle.pytree_fits.proofs.Fields.Standing.{outside, pass_at}
use Rattle.pytree_fits.proofs.Fields.AsSpelled.{GivenAsSpelled}
use Rattle.pytree_fits.proofs.Giving.Places.{named_pass}

-- a character that is no dot
abbrev pub is_other : ℕ → Bool
is_other c = not (c == 46)

-- ---- A name without dots is one part.

pub one_part : (x : Identifier) → list_all is_other x ≡ true → names_in x ≡ x ∷ []
one_part [] h = refl
one_part (c ∷ cs) h =
    let w = and_parts (is_other c) (list_all is_other cs) h in
    rw (not-true (c == 46) w.0, one_part cs w.1) refl

pub part_before_dot : (x y : Identifier) → list_all is_other x ≡ true → names_in (x ++ (46 ∷ y)) ≡ x ∷ names_in y
part_before_dot [] y h = refl
part_before_dot (c ∷ cs) y h =
    let w = and_parts (is_other c) (list_all is_other cs) h in
    rw (not-true (c == 46) w.0, part_before_dot cs y w.1) refl

-- ---- The names with dots between them are the text.

abbrev pub with_dots : List Identifier → Identifier
with_dots [] = []
with_dots (x ∷ []) = x
with_dots (x ∷ (y ∷ ys)) = x ++ (46 ∷ with_dots (y ∷ ys))

some_lengthened : (c : ℕ) (xs : List Identifier) → has_one (lengthen c xs) ≡ true
some_lengthened c [] = refl
some_lengthened c (x ∷ xs) = refl

pub some_part : (x : Identifier) → has_one (names_in x) ≡ true
some_part [] = refl
some_part (c ∷ cs) = by (c == 46)
  where
    by : (b : Bool) → has_one (cond b ([] ∷ names_in cs) (lengthen c (names_in cs))) ≡ true
    by true = refl
    by false = some_lengthened c (names_in cs)

none_before : (xs : List Identifier) → has_one xs ≡ true → with_dots ([] ∷ xs) ≡ 46 ∷ with_dots xs
none_before [] h = absurd (cc)
none_before (x ∷ xs) h = refl

lengthened : (c : ℕ) (xs : List Identifier) → has_one xs ≡ true → with_dots (lengthen c xs) ≡ c ∷ with_dots xs
lengthened c [] h = absurd (cc)
lengthened c (x ∷ []) h = refl
lengthened c (x ∷ (y ∷ ys)) h = refl

pub parts_join : (x : Identifier) → with_dots (names_in x) ≡ x
parts_join [] = refl
parts_join (c ∷ cs) = by (c == 46) (eqb-true c 46) (parts_join cs)
  where
    by : (b : Bool) → (b ≡ true → c ≡ 46) → with_dots (names_in cs) ≡ cs
        → with_dots (cond b ([] ∷ names_in cs) (lengthen c (names_in cs))) ≡ c ∷ cs
    by true h e = none_before (names_in cs) (some_part cs) ∙ ap (λ z. 46 ∷ z) e ∙ ap (λ z. z ∷ cs) (sym (h refl))
    by false h e = lengthened c (names_in cs) (some_part cs) ∙ ap (λ z. c ∷ z) e

module _ (n : Tests) where
  joined_given : (x : Identifier) (xs : List Identifier) → list_all n.name (x ∷ xs) ≡ true
      → GivenAsSpelled (outside n) F.Dotted (with_dots (x ∷ xs))
  joined_given x [] h = let w = and_parts (n.name x) true h in (in_form x ∷ [], named_pass (outside n) x [] w.0 refl, F.one_name)
  joined_given x (y ∷ ys) h =
      let w = and_parts (n.name x) (list_all n.name (y ∷ ys)) h in
      let u = joined_given y ys w.1 in
      (in_form x ∷ (Op Dot ∷ u.0), named_pass (outside n) x (Op Dot ∷ u.0) w.0 u.1, F.dot_name u.2)

  some_joined : (xs : List Identifier) → has_one xs ≡ true → list_all n.name xs ≡ true → GivenAsSpelled (outside n) F.Dotted (with_dots xs)
  some_joined [] h q = absurd (cc)
  some_joined (x ∷ xs) h q = joined_given x xs q

  pub dotted_given : (x : Identifier) → dotted n.name x ≡ true → GivenAsSpelled (outside n) F.Dotted x
  dotted_given x h = subst (GivenAsSpelled (outside n) F.Dotted) (parts_join x) (some_joined (names_in x) (some_part x) h)

  -- where no name that passes holds a dot
  pub dotted_fits : ((x : Identifier) → n.name x ≡ true → list_all is_other x ≡ true) → {ts : List Terminal} {x : Identifier}
      → F.Dotted ts x → pass_at (outside n) ts ≡ true → dotted n.name x ≡ true
  dotted_fits f (F.one_name {x = x}) s =
      let w = and_parts (n.name x.form) true s in
      subst (λ z. list_all n.name z ≡ true) (sym (one_part x.form (f x.form w.0))) (and_from (n.name x.form) true w.0 refl)
  dotted_fits f (F.dot_name {x = x} {y = y} {ts = ts} d) s =
      let w = and_parts (n.name x.form) (pass_at (outside n) ts) s in
      subst (λ z. list_all n.name z ≡ true) (sym (part_before_dot x.form y (f x.form w.0)))
      (and_from (n.name x.form) (dotted n.name y) w.0 (dotted_fits f d w.1))
