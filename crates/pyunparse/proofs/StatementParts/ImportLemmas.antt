-- Carries: write_points, write_import_from. The points of a relative import.
use Rattle.std.proofs.Common.{◌≡◌, ◌∙◌, ℕ, zero, suc, ◌-◌, ◌<◌, ◌≤◌, nat_lt, Bool, true, false, Option, List, [], ◌∷◌, ◌++◌, refl, ap, sym}
use Rattle.std.proofs.Common.{arith}
use Rattle.pylex_lexeme.specs.declared.kinds.Exact.{Exact}
use Rattle.pylex_lexeme.specs.declared.kinds.Exact.TheVariants.{Dot, Ellipsis}
use Rattle.std.proofs.lemmas.Bool.Decides.{nat_tests}
use Rattle.pytoken.specs.declared.keywords.Keyword.TheVariants as Key
use Rattle.pytree_node.specs.Trees as plain
use Rattle.pytoken.specs.Terminals.{Op}
use Rattle.pyunparse_text.specs.Pieces.{Sited, piece, sited}
use Rattle.pyunparse_text.specs.Statements.{imported, module_name, point_signs, points, simple_tokens}
use Rattle.pyunparse_text.specs.Written.{word}
use Rattle.pyunparse_text.specs.Folds.{puts}
use Rattle.pyunparse.proofs.Sequences.FoldLemmas.{five}

three_points : (n : ℕ) → 3 ≤ n → points n ≡ Ellipsis ∷ points (n - 3)
three_points zero h = absurd (omega (arith, h))
three_points (suc zero) h = absurd (omega (arith, h))
three_points (suc (suc zero)) h = absurd (omega (arith, h))
three_points (suc (suc (suc n))) h = let e : n ≡ suc (suc (suc n)) - 3 = omega arith in ap (λ m. Ellipsis ∷ points m) e

one_point : (n : ℕ) → 0 < n → n < 3 → points n ≡ Dot ∷ points (n - 1)
one_point zero h k = absurd (omega (arith, h))
one_point (suc zero) h k = refl
one_point (suc (suc zero)) h k = refl
one_point (suc (suc (suc n))) h k = absurd (omega (arith, k))

module _ {S : Type 0} (after : S → Sited → S) (base o o1 : S) (close : Bool) (n : ℕ) where
  sign_on : (x : Exact) (rest : List Exact) → points n ≡ x ∷ rest → puts after o (point_signs piece close (points n)) ≡ base →
      o1 ≡ puts after o (sited (Op x) close false ∷ []) → puts after o1 (point_signs piece true rest) ≡ base
  sign_on x rest e so_far e1 = ap (λ z. puts after z (point_signs piece true rest)) e1
      ∙ ap (λ z. puts after o (point_signs piece close z)) (sym e) ∙ so_far

  pub three_on : 3 ≤ n → puts after o (point_signs piece close (points n)) ≡ base
      → o1 ≡ puts after o (sited (Op Ellipsis) close false ∷ []) →
      puts after o1 (point_signs piece true (points (n - 3))) ≡ base
  three_on h so_far e1 = sign_on Ellipsis (points (n - 3)) (three_points n h) so_far e1

  pub one_on : 0 < n → n < 3 → puts after o (point_signs piece close (points n)) ≡ base
      → o1 ≡ puts after o (sited (Op Dot) close false ∷ []) →
      puts after o1 (point_signs piece true (points (n - 1))) ≡ base
  one_on h k so_far e1 = sign_on Dot (points (n - 1)) (one_point n h k) so_far e1

pub points_done : {S : Type 0} (after : S → Sited → S) (base o : S) (close : Bool) (n : ℕ) → n ≤ 0
    → puts after o (point_signs piece close (points n)) ≡ base → o ≡ base
points_done after base o close zero h so_far = so_far
points_done after base o close (suc n) h so_far = absurd (omega (arith, h))

-- an import from a module
some_level : (n : ℕ) → nat_lt 0 (suc n) ≡ true
some_level n = by (nat_lt 0 (suc n)) refl
  where
    by : (b : Bool) → nat_lt 0 (suc n) ≡ b → b ≡ true
    by true e = refl
    by false e = let h : suc n ≤ 0 = grind (arith, nat_tests) in absurd (omega (arith, h))

import_parts : (m : Option (List ℕ)) (names : List plain.Alias) (n : ℕ) →
    word piece Key.From ∷
    (point_signs piece false (points n) ++ (module_name piece (nat_lt 0 n) m ++ (word piece Key.Import ∷ imported piece names))) ≡
    simple_tokens piece (plain.ImportFrom m names n)
import_parts m names zero = refl
import_parts m names (suc n) =
    ap (λ b. word piece Key.From ∷
    (point_signs piece false (points (suc n)) ++ (module_name piece b m ++ (word piece Key.Import ∷ imported piece names)))) (some_level n)

pub import_on : {S : Type 0} (after : S → Sited → S) (s : S) (m : Option (List ℕ)) (names : List plain.Alias) (n : ℕ) (s1 s2 s3 s4 : S) →
    s1 ≡ puts after s (word piece Key.From ∷ []) → s2 ≡ puts after s1 (point_signs piece false (points n))
    → s3 ≡ puts after s2 (module_name piece (nat_lt 0 n) m) →
    s4 ≡ puts after s3 (word piece Key.Import ∷ []) → puts after s4 (imported piece names) ≡ puts after s
    (simple_tokens piece (plain.ImportFrom m names n))
import_on after s m names n s1 s2 s3 s4 e1 e2 e3 e4 =
    five after s (word piece Key.From ∷ []) (point_signs piece false (points n)) (module_name piece (nat_lt 0 n) m)
    (word piece Key.Import ∷ []) (imported piece names) s1 s2 s3 s4 e1 e2 e3 e4
    ∙ ap (puts after s) (import_parts m names n)
