-- Which fields are simple, and which nodes stand on one line.
--
-- Carries: is_bare, is_plain, is_short_one, is_short_two, is_short_three, is_short_four.
use Rattle.std.proofs.Common.{◌≡◌, length, nat_eq, nat_le, arith, refl, ap, ◌∙◌, ◌||◌, Bool, true, false, ◌&&◌, List, [], ◌∷◌, map}
use Rattle.pyfstring.specs.declared.parts.Conversion.{Conversion}
use Rattle.pytree_node.specs.Trees
use Rattle.pytree_dump_text.specs.Shows.{Shown, Row, showns, shown, shown_arg, shown_arguments, no_field, Fields}
use Rattle.pytree_dump_text.specs.Layout.{is_simple, is_short, all_simple, shown_count}
use Rattle.pytree_dump_text.specs.Slots.{Slot, missing, field, with_slot, is_plain, is_missing}

-- an empty list is simple
pub empty_is_simple : {A : Type 0} (f : A → Shown) (xs : List A) → is_simple (Row (showns (map f xs))) ≡ nat_eq (length xs) 0
empty_is_simple f [] = refl
empty_is_simple f (x ∷ xs) = grind arith

-- a parameter and parameters show fields
pub arg_shows : (a : Trees.Arg) → is_simple (shown_arg a) ≡ false
arg_shows (Trees.arg name Trees.absent) = refl
arg_shows (Trees.arg name (Trees.present e)) = refl

pub arguments_show : (a : Trees.Arguments) → is_simple (shown_arguments a) ≡ false
arguments_show (Trees.arguments p a Trees.absent_arg k d Trees.absent_arg f) = refl
arguments_show (Trees.arguments p a Trees.absent_arg k d (Trees.present_arg w) f) = refl
arguments_show (Trees.arguments p a (Trees.present_arg v) k d Trees.absent_arg f) = refl
arguments_show (Trees.arguments p a (Trees.present_arg v) k d (Trees.present_arg w) f) = refl

-- a field of an f-string shows fields
pub formatted_shows : (e : Trees.Expr) (c : Conversion) (spec : Trees.OptionalExpr)
    → is_simple (shown (Trees.FormattedValue e c spec)) ≡ false
formatted_shows e c Trees.absent = refl
formatted_shows e c (Trees.present s) = refl

pub ruleset plain_parts = (empty_is_simple, arg_shows, arguments_show)

one_and : (x : Bool) → x && true ≡ x
one_and true = refl
one_and false = refl

two_and : (x y : Bool) → x && (y && true) ≡ x && y
two_and true y = one_and y
two_and false y = refl

three_and : (x y z : Bool) → x && (y && (z && true)) ≡ x && y && z
three_and true y z = two_and y z
three_and false y z = refl

and_ends : (x : Bool) → x && true ≡ x && true && true
and_ends true = refl
and_ends false = refl

and_gap : (x z : Bool) → x && (z && true) ≡ x && true && z
and_gap true z = one_and z
and_gap false z = refl

and_last : (x y : Bool) → x && (y && true) ≡ x && y && true
and_last true y = refl
and_last false y = refl

pub one_slot : (a : Slot) → is_short (with_slot a no_field) ≡ is_plain a
one_slot missing = refl
one_slot (field n x) = one_and (is_simple x)

pub two_slots : (a b : Slot) → is_short (with_slot a (with_slot b no_field)) ≡ is_plain a && is_plain b
two_slots missing missing = refl
two_slots missing (field m y) = one_and (is_simple y)
two_slots (field n x) missing = refl
two_slots (field n x) (field m y) = two_and (is_simple x) (is_simple y)

pub three_slots : (a b c : Slot) → is_short (with_slot a (with_slot b (with_slot c no_field))) ≡ is_plain a && is_plain b && is_plain c
three_slots missing missing missing = refl
three_slots missing missing (field k z) = one_and (is_simple z)
three_slots missing (field m y) missing = refl
three_slots missing (field m y) (field k z) = two_and (is_simple y) (is_simple z)
three_slots (field n x) missing missing = and_ends (is_simple x)
three_slots (field n x) missing (field k z) = and_gap (is_simple x) (is_simple z)
three_slots (field n x) (field m y) missing = and_last (is_simple x) (is_simple y)
three_slots (field n x) (field m y) (field k z) = three_and (is_simple x) (is_simple y) (is_simple z)

-- four fields of which one is left out
four_and : (m x y z w : Bool) → m && (x && (y && (z && (w && true)))) ≡ m && x && y && z && w
four_and true true y z w = three_and y z w
four_and true false y z w = refl
four_and false x y z w = refl

plain_slot : (a : Slot) (rest : Fields) → all_simple (with_slot a rest) ≡ is_plain a && all_simple rest
plain_slot missing rest = refl
plain_slot (field n x) rest = refl

plain_slots : (a b c d : Slot) → all_simple (with_slot a (with_slot b (with_slot c (with_slot d no_field)))) ≡ is_plain a &&
    (is_plain b && (is_plain c && (is_plain d && true)))
plain_slots a b c d = plain_slot a _
    ∙ ap (λ z. is_plain a && z) (plain_slot b _
    ∙ ap (λ z. is_plain b && z) (plain_slot c _ ∙ ap (λ z. is_plain c && z) (plain_slot d no_field)))

at_most_three : (a b c d : Slot) → nat_le (shown_count (with_slot a (with_slot b (with_slot c (with_slot d no_field))))) 3 ≡
    (is_missing a || is_missing b || is_missing c || is_missing d)
at_most_three missing missing missing missing = refl
at_most_three missing missing missing (field j w) = refl
at_most_three missing missing (field k z) missing = refl
at_most_three missing missing (field k z) (field j w) = refl
at_most_three missing (field m y) missing missing = refl
at_most_three missing (field m y) missing (field j w) = refl
at_most_three missing (field m y) (field k z) missing = refl
at_most_three missing (field m y) (field k z) (field j w) = refl
at_most_three (field n x) missing missing missing = refl
at_most_three (field n x) missing missing (field j w) = refl
at_most_three (field n x) missing (field k z) missing = refl
at_most_three (field n x) missing (field k z) (field j w) = refl
at_most_three (field n x) (field m y) missing missing = refl
at_most_three (field n x) (field m y) missing (field j w) = refl
at_most_three (field n x) (field m y) (field k z) missing = refl
at_most_three (field n x) (field m y) (field k z) (field j w) = refl

pub four_slots : (a b c d : Slot) → is_short (with_slot a (with_slot b (with_slot c (with_slot d no_field))))
    ≡ (is_missing a || is_missing b || is_missing c || is_missing d) && is_plain a && is_plain b && is_plain c && is_plain d
four_slots a b c d = (λ i. at_most_three a b c d i && plain_slots a b c d i)
    ∙ four_and (is_missing a || is_missing b || is_missing c || is_missing d) (is_plain a) (is_plain b) (is_plain c) (is_plain d)
