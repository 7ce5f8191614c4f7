-- A field, one part after another.
-- Carries: close, conversion, kept, expression, front.
use Rattle.std.proofs.Common.{◌≡◌, ℕ, Bool, true, false, List, [], ◌∷◌, drop, refl, sym, ◌∙◌, subst, Option, Some, None, slice_get}
use Rattle.std.specs.Prelude.{option_map}
use Rattle.std.specs.List.{list_all}
use Rattle.pyfstring.specs.declared.parts.Conversion.{Conversion}
use Rattle.pyfstring.specs.declared.parts.Conversion.TheVariants.{None as Unconverted}
use Rattle.pyfstring.specs.Characters.{exclamation_mark, equals_sign, right_curly_bracket}
use Rattle.pyfstring.specs.Texts.{begins_with}
use Rattle.pyfstring.specs.Expressions.{following_expression}
use Rattle.pyfstring.specs.Pieces.{is_blank, after_blanks}
use Rattle.pyfstring.specs.Cutting.{Read, before, expression_at, kept_at, conversion_by, conversion_at, front_at, after_closing}
use Rattle.pyfstring.specs.Inner.Passing.{eaten}

pub eaten_some : (c : ℕ) (cs : List ℕ) → begins_with c cs ≡ true → eaten c cs ≡ drop 1 cs
eaten_some c [] e = cc
eaten_some c (d ∷ cs) e = rw e refl

pub eaten_none : (c : ℕ) (cs : List ℕ) → begins_with c cs ≡ false → eaten c cs ≡ cs
eaten_none c [] e = refl
eaten_none c (d ∷ cs) e = rw e refl

-- ---- The closing brace.

pub closing_some : (cs : List ℕ) → begins_with right_curly_bracket cs ≡ true → after_closing cs ≡ Some (drop 1 cs)
unfolding after_closing
closing_some cs e = rw (e, after_closing) refl

pub closing_none : (cs : List ℕ) → begins_with right_curly_bracket cs ≡ false → after_closing cs ≡ None
unfolding after_closing
closing_none cs e = rw (e, after_closing) refl

-- ---- The conversion.

pub conversion_absent : (cs : List ℕ) → begins_with exclamation_mark cs ≡ false → conversion_at cs ≡ Some (Unconverted, cs)
unfolding conversion_at
conversion_absent cs e = rw (e, conversion_at) refl

at_one : (cs : List ℕ) → slice_get (drop 1 cs) 0 ≡ slice_get cs 1
at_one [] = refl
at_one (c ∷ cs) = refl

pub conversion_ends : (cs : List ℕ) → begins_with exclamation_mark cs ≡ true → slice_get (drop 1 cs) 0 ≡ None → conversion_at cs ≡ None
unfolding conversion_at
conversion_ends cs e n = let z : slice_get cs 1 ≡ None = sym (at_one cs) ∙ n in rw (e, z, conversion_at) refl

pub conversion_fails : (cs : List ℕ) (l : ℕ) → begins_with exclamation_mark cs ≡ true → slice_get (drop 1 cs) 0 ≡ Some l
    → conversion_by l ≡ None → conversion_at cs ≡ None
unfolding conversion_at
conversion_fails cs l e n k = let z : slice_get cs 1 ≡ Some l = sym (at_one cs) ∙ n in let P : Option Conversion → Type 0 =
    λ o. ◌≡◌ {A = Read Conversion} (option_map (λ (x : Conversion). (x, drop 2 cs)) o) None in
    rw (e, z, conversion_at) (subst P (sym k) refl)

drop_two : (cs : List ℕ) → drop 1 (drop 1 cs) ≡ drop 2 cs
drop_two [] = refl
drop_two (c ∷ cs) = refl

pub conversion_given : (cs : List ℕ) (l : ℕ) (g : Conversion) → begins_with exclamation_mark cs ≡ true → slice_get (drop 1 cs) 0 ≡ Some l
    → conversion_by l ≡ Some g → conversion_at cs ≡ Some (g, drop 1 (drop 1 cs))
unfolding conversion_at
conversion_given cs l g e n k =
    let z : slice_get cs 1 ≡ Some l = sym (at_one cs) ∙ n in
    let P : Option Conversion → Type 0 = λ o. ◌≡◌ {A = Read Conversion} (option_map (λ (x : Conversion). (x, drop 2 cs)) o)
    (Some (g, drop 2 cs)) in
    rw (drop_two cs, e, z, conversion_at) (subst P (sym k) refl)

-- ---- What `=` keeps.

pub kept_absent : (is_nested : Bool) (cs here : List ℕ) → begins_with equals_sign here ≡ false
    → kept_at is_nested cs here ≡ Some (None, here)
unfolding kept_at
kept_absent is_nested cs here e = rw (e, kept_at) refl

pub kept_fails : (is_nested : Bool) (cs here : List ℕ) → begins_with equals_sign here ≡ true → is_nested ≡ true
    → kept_at is_nested cs here ≡ None
unfolding kept_at
kept_fails is_nested cs here e n = rw (e, n, kept_at) refl

pub kept_given : (is_nested : Bool) (cs here : List ℕ) → begins_with equals_sign here ≡ true → is_nested ≡ false
    → kept_at is_nested cs here ≡ Some (Some (before cs (after_blanks (drop 1 here))), after_blanks (drop 1 here))
unfolding kept_at
kept_given is_nested cs here e n = rw (e, n, kept_at) refl

-- ---- The expression.

pub expression_fails : (cs : List ℕ) → following_expression cs ≡ None → expression_at cs ≡ None
unfolding expression_at
expression_fails cs e = rw e refl

pub expression_blank : (cs r : List ℕ) → following_expression cs ≡ Some r → list_all is_blank (before cs r) ≡ true → expression_at cs ≡ None
unfolding expression_at
expression_blank cs r e b =
    rw e (let P : Bool → Type 0 = λ t. ◌≡◌ {A = Read (List ℕ)} (elim t [ true ↦ None | false ↦ Some (before cs r, r) ])
    None in subst P (sym b) refl)

pub expression_given : (cs r : List ℕ) → following_expression cs ≡ Some r → list_all is_blank (before cs r) ≡ false
    → expression_at cs ≡ Some (before cs r, r)
unfolding expression_at
expression_given cs r e b =
    rw e (let P : Bool → Type 0 = λ t. ◌≡◌ {A = Read (List ℕ)} (elim t [ true ↦ None | false ↦ Some (before cs r, r) ])
    (Some (before cs r, r)) in subst P (sym b) refl)

-- ---- A field up to its spec.

module _ (is_nested : Bool) (cs : List ℕ) where
  pub front_no_expression : expression_at cs ≡ None → front_at is_nested cs ≡ None
  unfolding front_at
  front_no_expression e = rw e refl

  pub front_no_kept : (t r : List ℕ) → expression_at cs ≡ Some (t, r) → kept_at is_nested cs r ≡ None → front_at is_nested cs ≡ None
  unfolding front_at
  front_no_kept t r e f = rw (e, f) refl

  pub front_no_conversion : (t r : List ℕ) (k : Option (List ℕ)) (s : List ℕ) → expression_at cs ≡ Some (t, r)
      → kept_at is_nested cs r ≡ Some (k, s) → conversion_at s ≡ None → front_at is_nested cs ≡ None
  unfolding front_at
  front_no_conversion t r k s e f g = rw (e, f, g) refl

  pub front_given : (t r : List ℕ) (k : Option (List ℕ)) (s : List ℕ) (g : Conversion) (u : List ℕ) → expression_at cs ≡ Some (t, r)
      → kept_at is_nested cs r ≡ Some (k, s) → conversion_at s ≡ Some (g, u)
      → front_at is_nested cs ≡ Some (record { text = t; kept = k; given = g }, u)
  unfolding front_at
  front_given t r k s g u e f h = rw (e, f, h) refl
