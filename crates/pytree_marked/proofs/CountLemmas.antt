-- Counting on, up to the largest number of 64 bits.
--
-- Carries: expr_marked, pattern_marked, stmt_marked, marked.
use Rattle.std.proofs.Common.{◌≡◌, ℕ, ◌+◌, ◌<◌, ◌≤◌, ◌-◌, ◌^◌, List, [], ◌∷◌, ◌++◌, length, get_or, take}
use Rattle.std.proofs.Common.{Option, Some, None, arith, ap, refl, sym, ◌∙◌}
use Rattle.pytree_node.specs.Trees.{Expr, optional}
use Rattle.pytree_marked.specs.MarkedOptions.{marked_option, marked_optional}
use Rattle.std.proofs.lemmas.List.{take_more}
use Rattle.pytree_marked.proofs.Callers.Sums.{operator_none, unary_none, bool_none, context_none, comparisons_none, names_none, kind_none}
use Rattle.pytree_marked.proofs.Callers.Sums.{name_sum, optional_sum, option_sum, arg_sum, pattern_sum}
use Rattle.pytree_marked.specs.Counts.{capped}

pub capped_in : (a b : ℕ) → capped (capped a + b) ≡ capped (a + b)
unfolding capped
capped_in a b = omega arith

pub capped_none : (a : ℕ) → a ≤ 2 ^ 64 - 1 → a ≡ capped (a + 0)
unfolding capped
capped_none a h = omega (arith, h)

-- an expression that may be absent, as either of the two types of it
pub optional_counts : (e : Option Expr) → marked_optional (optional e) ≡ marked_option e
optional_counts None = refl
optional_counts (Some e) = refl

-- one count after another
pub two_on : (here a b : ℕ) {mid next : ℕ} → mid ≡ capped (here + a) → next ≡ capped (mid + b) → next ≡ capped (here + (a + b))
two_on here a b e f =
    let k : here + a + b ≡ here + (a + b) = omega arith in
    f ∙ ap (λ n. capped (n + b)) e ∙ capped_in (here + a) b ∙ ap capped k

pub capped_on : (count n : ℕ) → count ≡ capped n → count ≡ capped (count + 0)
capped_on count n e =
    let k : n + 0 ≡ n = omega arith in
    e ∙ ap capped (sym k) ∙ sym (capped_in n 0) ∙ ap (λ m. capped (m + 0)) (sym e)

-- none are counted
pub none_counted : {A : Type 0} (total : List A → ℕ) (xs : List A) (before : ℕ) → total [] ≡ 0 → before ≤ 2 ^ 64 - 1
    → before ≡ capped (before + total (take 0 xs))
none_counted total [] before none h = capped_none before h ∙ ap (λ n. capped (before + n)) (sym none)
none_counted total (x ∷ xs) before none h = capped_none before h ∙ ap (λ n. capped (before + n)) (sym none)

pub ruleset counting = (
  capped_in,
  operator_none,
  unary_none,
  bool_none,
  context_none,
  comparisons_none,
  names_none,
  kind_none,
  name_sum,
  optional_sum,
  option_sum,
  arg_sum,
  pattern_sum,
)

-- ---- Loops.

module _ {A : Type 0} (total : List A → ℕ) (one : A → ℕ) (none : total [] ≡ 0)
    (first : (y : A) (ys : List A) → total (y ∷ ys) ≡ one y + total ys) where
  longer : (ys : List A) (y : A) → total (ys ++ y ∷ []) ≡ total ys + one y
  longer [] y = let e : total (y ∷ []) ≡ one y + total [] = first y [] in omega (arith, e, none)
  longer (z ∷ zs) y =
      let e : total (zs ++ y ∷ []) ≡ total zs + one y = longer zs y in
      let f : total (z ∷ (zs ++ y ∷ [])) ≡ one z + total (zs ++ y ∷ []) = first z (zs ++ y ∷ []) in
      let g : total (z ∷ zs) ≡ one z + total zs = first z zs in omega (arith, e, f, g)

  -- one member more is counted
  pub counted : (xs : List A) (before : ℕ) {i : ℕ} {x : A} {here next : ℕ} → i < length xs → x ≡ get_or xs i x →
      here ≡ capped (before + total (take i xs)) → next ≡ capped (here + one x) → next ≡ capped (before + total (take (i + 1) xs))
  counted xs before {i} {x} {here} {next} lt read so_far more =
      let e : total (take (i + 1) xs) ≡ total (take i xs) + one x = rw (take_more xs i x lt, sym read) (longer (take i xs) x) in
      let k : before + total (take i xs) + one x ≡ before + total (take (i + 1) xs) = omega (arith, e) in
      more ∙ ap (λ n. capped (n + one x)) so_far ∙ capped_in (before + total (take i xs)) (one x) ∙ ap capped k
