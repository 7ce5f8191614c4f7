-- Carries: texts_fault. On: the first fault of the escapes in several texts.
use Rattle.std.proofs.Common.{◌≡◌, ℕ, ◌+◌, ◌<◌, ◌≤◌, Bool, true, false, List, [], ◌∷◌, ◌++◌, length, drop, map, get_or, refl, sym, ap, ap₂}
use Rattle.std.proofs.Common.{◌∙◌}
use Rattle.std.proofs.Common.{Option, Some, None}
use Rattle.std.specs.Prelude.{◌||◌, if◌then◌else◌}
use Rattle.std.specs.List.{flat_map, list_any}
use Rattle.std.specs.Option.{option_or}
use Rattle.pytoken.specs.declared.faults.TokenError.{TokenError}
use Rattle.pytoken.specs.declared.faults.TokenError.TheVariants.{NamedEscape, BadEscape}
use Rattle.pytoken.specs.declared.meanings.Meaning.{Meaning}
use Rattle.pytoken.specs.Escapes.{is_named_escape, is_bad_escape, escape_fault}
use Rattle.pytoken.specs.Inner.Pushing.{is_named_fault, first_escape_fault}
use Rattle.pytoken.proofs.values.PushLemmas.{dropped, none_left}

or_assoc : (x y z : Bool) → ((x || y) || z) ≡ (x || (y || z))
or_assoc true y z = refl
or_assoc false y z = refl

any_both : {A : Type 0} (p : A → Bool) (xs ys : List A) → list_any p (xs ++ ys) ≡ (list_any p xs || list_any p ys)
any_both p [] ys = refl
any_both p (x ∷ xs) ys = ap (λ (b : Bool). p x || b) (any_both p xs ys) ∙ sym (or_assoc (p x) (list_any p xs) (list_any p ys))

abbrev fault_by : Bool → Bool → Option TokenError
fault_by named bad = if named then Some NamedEscape else (if bad then Some BadEscape else None)

by_tests : (named bad other_named other_bad : Bool) →
    fault_by (named || other_named) (bad || other_bad) ≡ first_escape_fault (fault_by named bad) (fault_by other_named other_bad)
by_tests true bad other_named other_bad = refl
by_tests false true true other_bad = refl
by_tests false false true other_bad = refl
by_tests false true false true = refl
by_tests false true false false = refl
by_tests false false false true = refl
by_tests false false false false = refl

fault_both : (xs ys : List Meaning) → escape_fault (xs ++ ys) ≡ first_escape_fault (escape_fault xs) (escape_fault ys)
unfolding escape_fault
fault_both xs ys =
    ap₂ fault_by (any_both is_named_escape xs ys) (any_both is_bad_escape xs ys)
    ∙ by_tests (list_any is_named_escape xs) (list_any is_bad_escape xs) (list_any is_named_escape ys) (list_any is_bad_escape ys)

-- the first of three, by the first of two
first_assoc : (a b c : Option TokenError) → first_escape_fault (first_escape_fault a b) c ≡ first_escape_fault a (first_escape_fault b c)
first_assoc a b c = by_named a b c (is_named_fault a) refl
  where
    some_or : (o : TokenError) (c a : Option TokenError) (named : Bool) →
        (if named then Some o else option_or c (Some o)) ≡ option_or (if named then Some o else option_or c (Some o)) a
    some_or o c a true = refl
    some_or o None a false = refl
    some_or o (Some e) a false = refl

    unnamed : (a b c : Option TokenError) → is_named_fault a ≡ false →
        first_escape_fault (option_or b a) c ≡ option_or (first_escape_fault b c) a
    unnamed a None None other = rw other refl
    unnamed a None (Some e) other = rw other refl
    unnamed a (Some o) c other = some_or o c a (is_named_fault (Some o))

    by_named : (a b c : Option TokenError) (named : Bool) → is_named_fault a ≡ named →
        first_escape_fault (first_escape_fault a b) c ≡ first_escape_fault a (first_escape_fault b c)
    by_named a b c true named_is = rw named_is (rw named_is refl)
    by_named a b c false other = rw other (unnamed a b c other)

-- no fault after one

last_none : (fault : Option TokenError) → first_escape_fault fault None ≡ fault
last_none fault = by_named fault (is_named_fault fault)
  where
    by_named : (fault : Option TokenError) (named : Bool) → (if named then fault else fault) ≡ fault
    by_named fault true = refl
    by_named fault false = refl

no_texts : escape_fault [] ≡ None
unfolding escape_fault
no_texts = refl

-- The first fault in the texts of some items, by that in those before a place, and that in the others: after one more, and at the end.

pub faults_one : {C D : Type 0} (g : C → List Meaning) (h : D → C) (xs : List D) (i : ℕ) (x : D)
    (fault more next whole : Option TokenError) →
    i < length xs → x ≡ get_or xs i x → more ≡ escape_fault (g (h x)) → next ≡ first_escape_fault fault more →
    first_escape_fault fault (escape_fault (flat_map g (map h (drop i xs)))) ≡ whole →
    first_escape_fault next (escape_fault (flat_map g (map h (drop (i + 1) xs)))) ≡ whole
faults_one g h xs i x fault more next whole lt read one made so_far =
    let rest = flat_map g (map h (drop (i + 1) xs)) in
    ap (λ (f : Option TokenError). first_escape_fault f (escape_fault rest)) (made ∙ ap (first_escape_fault fault) one)
    ∙ first_assoc fault (escape_fault (g (h x))) (escape_fault rest)
    ∙ ap (first_escape_fault fault) (sym (fault_both (g (h x)) rest))
    ∙ ap (λ t. first_escape_fault fault (escape_fault (flat_map g (map h t)))) (sym (dropped xs i x lt read)) ∙ so_far

pub faults_end : {C D : Type 0} (g : C → List Meaning) (h : D → C) (xs : List D) (i : ℕ) (fault whole : Option TokenError) → length xs ≤ i →
    first_escape_fault fault (escape_fault (flat_map g (map h (drop i xs)))) ≡ whole → fault ≡ whole
faults_end g h xs i fault whole end so_far =
    sym (last_none fault)
    ∙ ap (first_escape_fault fault) (sym (ap (λ t. escape_fault (flat_map g (map h t))) (none_left xs i end) ∙ no_texts)) ∙ so_far
