-- What the table's nodes and lists hold, index by index, and how much.
--
-- Carries: the walks over the table.
use Rattle.std.proofs.Common.{
  ◌≡◌,
  ◌+◌,
  ◌<◌,
  ◌≤◌,
  ℕ,
  zero,
  suc,
  List,
  [],
  ◌∷◌,
  take,
  length,
  get_or,
  arith,
  refl,
  ap,
  sym,
  ◌∙◌,
  Option,
  None,
}
use Rattle.std.proofs.Common.{Some}
use Rattle.pytree_node.specs.declared.profiles.Version.{Version}
use Rattle.pytree_fields.specs.declared.held.Held.{Held}
use Rattle.pytree_fields.specs.declared.rows.Row.{Row}
use Rattle.pytree_fields.specs.declared.rows.Row.TheVariants as row
use Rattle.pytree_fields.specs.LentThings.{held_thing, held_things, row_len, row_things}
use Rattle.pytree_fields.specs.Things.{Thing, Things, count, thing_at, with_option}
use Rattle.pytree_fields.proofs.RowLemmas.{listed, exprs_listed, options_listed, patterns_listed, stmts_listed, handlers_listed}
use Rattle.pytree_fields.proofs.RowLemmas.{cases_listed, comprehensions_listed, args_listed, keywords_listed, aliases_listed}
use Rattle.pytree_fields.proofs.RowLemmas.{items_listed, type_params_listed, comparisons_listed, names_listed}

first_held : (x : Option Thing) (xs : Things) → thing_at (with_option x xs) 0 ≡ x
first_held None xs = refl
first_held (Some x) xs = refl

later_held : (x : Option Thing) (xs : Things) (i : ℕ) → thing_at (with_option x xs) (suc i) ≡ thing_at xs i
later_held None xs i = refl
later_held (Some x) xs i = refl

one_more : (x : Option Thing) (xs : Things) → count (with_option x xs) ≡ count xs + 1
one_more None xs = refl
one_more (Some x) xs = refl

-- what a field of a node holds
pub thing_of_held : (v : Version) (ps : List Held) (n i : ℕ) (p : Held) → i < n → i < length ps → p ≡ get_or ps i p →
    thing_at (held_things v (take n ps)) i ≡ held_thing v p
thing_of_held v [] n i p lt here read = absurd (omega (arith, here))
thing_of_held v (q ∷ ps) zero i p lt here read = absurd (omega (arith, lt))
thing_of_held v (q ∷ ps) (suc n) zero p lt here read =
    first_held (held_thing v q) (held_things v (take n ps)) ∙ ap (held_thing v) (sym read)
thing_of_held v (q ∷ ps) (suc n) (suc i) p lt here read =
    later_held (held_thing v q) (held_things v (take n ps)) i ∙ thing_of_held v ps n i p (omega (arith, lt)) (omega (arith, here)) read

-- how many fields a node has
pub held_count : (v : Version) (ps : List Held) (n : ℕ) → n ≤ length ps → count (held_things v (take n ps)) ≡ n
held_count v ps zero le = refl
held_count v [] (suc n) le = absurd (omega (arith, le))
held_count v (q ∷ ps) (suc n) le =
    let e : count (held_things v (take n ps)) ≡ n = held_count v ps n (omega (arith, le)) in
    let f : count (with_option (held_thing v q) (held_things v (take n ps))) ≡ count (held_things v (take n ps)) + 1 = one_more _ _ in
    omega (arith, e, f)

listed_count : {A : Type 0} (f : A → Thing) (xs : List A) → count (listed f xs) ≡ length xs
listed_count f [] = refl
listed_count f (x ∷ xs) = let e : count (listed f xs) ≡ length xs = listed_count f xs in omega (arith, e)

-- how many elements a list has
pub row_count : (v : Version) (r : Row) → count (row_things v r) ≡ row_len r
row_count v (row.Exprs xs) = ap count (exprs_listed xs.now) ∙ listed_count _ xs.now
row_count v (row.Options xs) = ap count (options_listed xs.now) ∙ listed_count _ xs.now
row_count v (row.Patterns xs) = ap count (patterns_listed xs.now) ∙ listed_count _ xs.now
row_count v (row.Stmts xs) = ap count (stmts_listed v xs.now) ∙ listed_count _ xs.now
row_count v (row.Handlers xs) = ap count (handlers_listed v xs.now) ∙ listed_count _ xs.now
row_count v (row.Cases xs) = ap count (cases_listed v xs.now) ∙ listed_count _ xs.now
row_count v (row.Comprehensions xs) = ap count (comprehensions_listed xs.now) ∙ listed_count _ xs.now
row_count v (row.Args xs) = ap count (args_listed xs.now) ∙ listed_count _ xs.now
row_count v (row.Keywords xs) = ap count (keywords_listed xs.now) ∙ listed_count _ xs.now
row_count v (row.Aliases xs) = ap count (aliases_listed xs.now) ∙ listed_count _ xs.now
row_count v (row.Items xs) = ap count (items_listed xs.now) ∙ listed_count _ xs.now
row_count v (row.TypeParams xs) = ap count (type_params_listed xs.now) ∙ listed_count _ xs.now
row_count v (row.Comparisons xs) = ap count (comparisons_listed xs.now) ∙ listed_count _ xs.now
row_count v (row.Names xs) = ap count (names_listed xs.now) ∙ listed_count _ xs.now
row_count v row.TypeIgnores = refl

listed_ends : {A : Type 0} (f : A → Thing) (xs : List A) (i : ℕ) → thing_at (listed f xs) i ≡ None → length xs ≤ i
listed_ends f [] i e = omega arith
listed_ends f (x ∷ xs) zero e = absurd (cc)
listed_ends f (x ∷ xs) (suc i) e = let h : length xs ≤ i = listed_ends f xs i e in omega (arith, h)

-- an index at which a list has no element is past its end
pub row_ends : (v : Version) (r : Row) (i : ℕ) → thing_at (row_things v r) i ≡ None → row_len r ≤ i
row_ends v (row.Exprs xs) i e = listed_ends _ xs.now i (ap (λ z. thing_at z i) (sym (exprs_listed xs.now)) ∙ e)
row_ends v (row.Options xs) i e = listed_ends _ xs.now i (ap (λ z. thing_at z i) (sym (options_listed xs.now)) ∙ e)
row_ends v (row.Patterns xs) i e = listed_ends _ xs.now i (ap (λ z. thing_at z i) (sym (patterns_listed xs.now)) ∙ e)
row_ends v (row.Stmts xs) i e = listed_ends _ xs.now i (ap (λ z. thing_at z i) (sym (stmts_listed v xs.now)) ∙ e)
row_ends v (row.Handlers xs) i e = listed_ends _ xs.now i (ap (λ z. thing_at z i) (sym (handlers_listed v xs.now)) ∙ e)
row_ends v (row.Cases xs) i e = listed_ends _ xs.now i (ap (λ z. thing_at z i) (sym (cases_listed v xs.now)) ∙ e)
row_ends v (row.Comprehensions xs) i e = listed_ends _ xs.now i (ap (λ z. thing_at z i) (sym (comprehensions_listed xs.now)) ∙ e)
row_ends v (row.Args xs) i e = listed_ends _ xs.now i (ap (λ z. thing_at z i) (sym (args_listed xs.now)) ∙ e)
row_ends v (row.Keywords xs) i e = listed_ends _ xs.now i (ap (λ z. thing_at z i) (sym (keywords_listed xs.now)) ∙ e)
row_ends v (row.Aliases xs) i e = listed_ends _ xs.now i (ap (λ z. thing_at z i) (sym (aliases_listed xs.now)) ∙ e)
row_ends v (row.Items xs) i e = listed_ends _ xs.now i (ap (λ z. thing_at z i) (sym (items_listed xs.now)) ∙ e)
row_ends v (row.TypeParams xs) i e = listed_ends _ xs.now i (ap (λ z. thing_at z i) (sym (type_params_listed xs.now)) ∙ e)
row_ends v (row.Comparisons xs) i e = listed_ends _ xs.now i (ap (λ z. thing_at z i) (sym (comparisons_listed xs.now)) ∙ e)
row_ends v (row.Names xs) i e = listed_ends _ xs.now i (ap (λ z. thing_at z i) (sym (names_listed xs.now)) ∙ e)
row_ends v row.TypeIgnores i e = omega arith
