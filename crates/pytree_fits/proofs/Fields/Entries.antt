-- Carries: the laws of the slots. On: entries of lists, and the nodes that they make.
use Rattle.std.proofs.Common.{◌≡◌, refl, ap, ◌+◌, arith, List, [], ◌∷◌, Some, None, Bool, true, false, cond}
use Rattle.std.specs.Prelude.{◌&&◌, leb}
use Rattle.std.proofs.lemmas.Bool.{and_parts, and_from, le-leb}
use Rattle.pytree_node.specs.declared.operators.Context.TheVariants.{Store}
use Rattle.pytree_node.specs.Trees
use Rattle.pytree_node.specs.Trees.{Expr, exprs, Comprehension}
use Rattle.pygrammar.specs.declared.levels.Level.{Level}
use Rattle.pygrammar.specs.declared.levels.Level.TheVariants.{StarItem, Expression, Primary, Elem}
use Rattle.pygrammar.specs.Entries.{Item, Of, Pair, Argument, Parameter, Entry, Single, Paired, Spread, Doubled, Keyed, Plain, Slashed}
use Rattle.pygrammar.specs.Entries.{Bare, Gathered, Collected, singles, keys, values}
use Rattle.pygrammar.specs.Arguments.{called, in_order, positional, keywords}
use Rattle.pytree_fits.specs.Tests.{Tests}
use Rattle.pytree_fits.specs.Slots.{count, count_optional, fits_at, fits_target, each_fits, perhaps_fits, each_perhaps_fits}
use Rattle.pytree_fits.specs.Slots.{each_keyword_fits, arg_fits}
use Rattle.pytree_fits.proofs.Fields.Tests.{from3}
use Rattle.pyunparse_text.proofs.Callers.Trees.{given}

abbrev pub entry_fits : Tests → Item → Entry → Bool
entry_fits n (Of l) (Single e) = fits_at n l e
entry_fits n Pair (Paired k e) = fits_at n Expression k && fits_at n Expression e
entry_fits n Pair (Doubled e) = fits_at n Expression e
entry_fits n Argument (Single e) = fits_at n Elem e
entry_fits n Argument (Spread e) = fits_at n Expression e
entry_fits n Argument (Keyed x e) = n.name x && fits_at n Expression e
entry_fits n Argument (Doubled e) = fits_at n Expression e
entry_fits n (Parameter b) (Plain a d) = arg_fits n b Expression a && perhaps_fits n Expression d
entry_fits n (Parameter b) Slashed = true
entry_fits n (Parameter b) Bare = true
entry_fits n (Parameter b) (Gathered a) = arg_fits n b StarItem a
entry_fits n (Parameter b) (Collected a) = arg_fits n b Expression a
entry_fits n _ _ = false

abbrev pub all_fit : Tests → Item → List Entry → Bool
all_fit n i [] = true
all_fit n i (e ∷ es) = entry_fits n i e && all_fit n i es

abbrev pub clause_fits : Tests → Comprehension → Bool
clause_fits n g = fits_target n Store g.target && fits_at n Expression g.iter && each_fits n Expression (exprs g.ifs)

module _ (n : Tests) where
  -- lists
  pub singles_fit : (l m : Level) → ((e : Expr) → fits_at n l e ≡ true → fits_at n m e ≡ true) → (es : List Entry)
      → all_fit n (Of l) es ≡ true → each_fits n m (singles es) ≡ true
  singles_fit l m f [] h = refl
  singles_fit l m f (Single e ∷ es) h = let w = and_parts (fits_at n l e) (all_fit n (Of l) es) h in
      and_from (fits_at n m e) (each_fits n m (singles es)) (f e w.0) (singles_fit l m f es w.1)
  singles_fit l m f (_ ∷ es) h = absurd (cc)

  pub keys_fit : (es : List Entry) → all_fit n Pair es ≡ true → each_perhaps_fits n (keys es) ≡ true
  keys_fit [] h = refl
  keys_fit (Paired k e ∷ es) h = let w = and_parts (fits_at n Expression k && fits_at n Expression e) (all_fit n Pair es) h in
      and_from (fits_at n Expression k) (each_perhaps_fits n (keys es)) (and_parts (fits_at n Expression k) (fits_at n Expression e)
      w.0).0 (keys_fit es w.1)
  keys_fit (Doubled e ∷ es) h = keys_fit es (and_parts (fits_at n Expression e) (all_fit n Pair es) h).1
  keys_fit (_ ∷ es) h = absurd (cc)

  pub values_fit : (es : List Entry) → all_fit n Pair es ≡ true → each_fits n Expression (values es) ≡ true
  values_fit [] h = refl
  values_fit (Paired k e ∷ es) h = let w = and_parts (fits_at n Expression k && fits_at n Expression e) (all_fit n Pair es) h in
      and_from (fits_at n Expression e) (each_fits n Expression (values es)) (and_parts (fits_at n Expression k) (fits_at n Expression e)
      w.0).1 (values_fit es w.1)
  values_fit (Doubled e ∷ es) h = let w = and_parts (fits_at n Expression e) (all_fit n Pair es) h in
      and_from (fits_at n Expression e) (each_fits n Expression (values es)) w.0 (values_fit es w.1)
  values_fit (_ ∷ es) h = absurd (cc)

  pub as_many : (es : List Entry) → all_fit n Pair es ≡ true → count_optional (keys es) ≡ count (values es)
  as_many [] h = refl
  as_many (Paired k e ∷ es) h = let w = and_parts (fits_at n Expression k && fits_at n Expression e) (all_fit n Pair es) h in
      ap (λ z. z + 1) (as_many es w.1)
  as_many (Doubled e ∷ es) h = ap (λ z. z + 1) (as_many es (and_parts (fits_at n Expression e) (all_fit n Pair es) h).1)
  as_many (_ ∷ es) h = absurd (cc)

  pub positional_fit : (es : List Entry) → all_fit n Argument es ≡ true → each_fits n Elem (positional es) ≡ true
  positional_fit [] h = refl
  positional_fit (Single e ∷ es) h = let w = and_parts (fits_at n Elem e) (all_fit n Argument es) h in
      and_from (fits_at n Elem e) (each_fits n Elem (positional es)) w.0 (positional_fit es w.1)
  positional_fit (Spread e ∷ es) h = let w = and_parts (fits_at n Expression e) (all_fit n Argument es) h in
      and_from (fits_at n Expression e) (each_fits n Elem (positional es)) w.0 (positional_fit es w.1)
  positional_fit (Keyed x e ∷ es) h = positional_fit es (and_parts (n.name x && fits_at n Expression e) (all_fit n Argument es) h).1
  positional_fit (Doubled e ∷ es) h = positional_fit es (and_parts (fits_at n Expression e) (all_fit n Argument es) h).1
  positional_fit (_ ∷ es) h = absurd (cc)

  pub keywords_fit : (es : List Entry) → all_fit n Argument es ≡ true → each_keyword_fits n (keywords es) ≡ true
  keywords_fit [] h = refl
  keywords_fit (Single e ∷ es) h = keywords_fit es (and_parts (fits_at n Elem e) (all_fit n Argument es) h).1
  keywords_fit (Spread e ∷ es) h = keywords_fit es (and_parts (fits_at n Expression e) (all_fit n Argument es) h).1
  keywords_fit (Keyed x e ∷ es) h =
      let w = and_parts (n.name x && fits_at n Expression e) (all_fit n Argument es) h in
      let u = and_parts (n.name x) (fits_at n Expression e) w.0 in
      from3 (n.name x) (fits_at n Expression e) (each_keyword_fits n (keywords es)) u.0 u.1 (keywords_fit es w.1)
  keywords_fit (Doubled e ∷ es) h = let w = and_parts (fits_at n Expression e) (all_fit n Argument es) h in
      and_from (fits_at n Expression e) (each_keyword_fits n (keywords es)) w.0 (keywords_fit es w.1)
  keywords_fit (_ ∷ es) h = absurd (cc)

  pub called_fit : (f e : Expr) (es : List Entry) → fits_at n Expression f ≡ true → all_fit n Argument es ≡ true → called f es ≡ Some e
      → fits_at n Primary e ≡ true
  called_fit f e es p q h = by (in_order false false es) h
    where
      by : (b : Bool) → cond b (Some (Trees.Call f (positional es) (keywords es))) None ≡ Some e → fits_at n Primary e ≡ true
      by true h = given (λ z. fits_at n Primary z ≡ true) h (from3 (fits_at n Expression f) (each_fits n Elem (positional es))
          (each_keyword_fits n (keywords es)) p (positional_fit es q) (keywords_fit es q))
      by false h = absurd (cc)

  pub set_some : (e : Entry) (es : List Entry) → all_fit n (Of Elem) (e ∷ es) ≡ true → leb 1 (count (singles (e ∷ es))) ≡ true
  set_some (Single e) es h = le-leb 1 (count (singles es) + 1) (omega arith)
  set_some _ es h = absurd (cc)
