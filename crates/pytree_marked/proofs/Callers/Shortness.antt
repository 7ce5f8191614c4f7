-- Which nodes stand on one line under places: those of marked nodes, only where none is left.
--
-- Carries: is_told_on_line, and of `pytree_dump` all nodes.
use Rattle.std.proofs.Common.{◌≡◌, ℕ, zero, suc, ◌+◌, ◌<◌, inl, inr, List, [], ◌∷◌, Bool, true, false, ◌&&◌, ◌||◌, if◌then◌else◌, refl}
use Rattle.std.proofs.Common.{ap, sym, ◌∙◌, arith}
use Rattle.std.specs.Prelude.{nat_le}
use Rattle.std.proofs.lemmas.Bool.{both_ways, cases_Bool, and_cases, and_right}
use Rattle.pytree_node.specs.Trees
use Rattle.pytree_dump_text.specs.Shows.{Shown, Fields, Scalar, Row, Node, no_shown, a_shown, no_field, a_field, left_out, shown}
use Rattle.pytree_dump_text.specs.Shows.{shown_pattern}
use Rattle.pytree_dump_text.specs.Layout.{all_simple, is_short, is_simple, shown_count}
use Rattle.pytree_marked.specs.MarkedNodes.{Attributes, following, closed, fields_with, is_marked, own, with_members, with_places}
use Rattle.pytree_marked.specs.Taking.{is_none_left}
use Rattle.pytree_marked.proofs.Callers.Unplaced.{closed_unplaced}

or_false : (b : Bool) → b ≡ (b || false)
or_false true = refl
or_false false = refl

over : (n k : ℕ) → k < n → nat_le n k ≡ false
over n k lt = grind (arith, lt)

-- ---- How many fields are shown.

kept_count : (ps : List Attributes) (fs : Fields) → shown_count (fields_with ps fs).shown ≡ shown_count fs
kept_count ps no_field = refl
kept_count ps (a_field name x fs) = ap (λ n. n + 1) (kept_count (with_places ps x).left fs)
kept_count ps (left_out fs) = kept_count ps fs

member_count : (fs more : Fields) → shown_count (with_members fs more) ≡ shown_count fs + shown_count more
member_count no_field more = omega arith
member_count (a_field name x fs) more = let e : shown_count (with_members fs more) ≡ shown_count fs + shown_count more =
    member_count fs more in omega (arith, e)
member_count (left_out fs) more = member_count fs more

own_count : (ps : List Attributes) → is_none_left ps ≡ false → shown_count (own true ps) ≡ 4
own_count [] some = absurd (both_ways true some refl)
own_count (p ∷ ps) some = refl

-- fields of which none is shown take no place
untouched : (ps : List Attributes) (fs : Fields) → shown_count fs ≡ 0 → (fields_with ps fs).left ≡ ps
untouched ps no_field none = refl
untouched ps (a_field name x fs) none = absurd (omega (arith, none))
untouched ps (left_out fs) none = untouched ps fs none

-- a marked node has some field, and so has one that took the last place
grown : (m : Bool) (ps : List Attributes) (fs : Fields) (n : ℕ) → shown_count fs ≡ n → m ≡ true → is_none_left ps ≡ false →
    0 < shown_count (with_members (fields_with ps fs).shown (own m (fields_with ps fs).left))
grown m ps fs zero e is some =
    let c = member_count (fields_with ps fs).shown (own m (fields_with ps fs).left) in
    let o : shown_count (own m (fields_with ps fs).left) ≡ 4 = (λ i. shown_count (own (is i) (untouched ps fs e i))) ∙ own_count ps some in
    omega (arith, c, o)
grown m ps fs (suc n) e is some =
    let c = member_count (fields_with ps fs).shown (own m (fields_with ps fs).left) in
    let k = kept_count ps fs in
    omega (arith, c, k, e)

took_node : (m : Bool) (ps : List Attributes) (fs : Fields) (n : ℕ) → shown_count fs ≡ n → is_none_left ps ≡ false →
    is_none_left (following m (fields_with ps fs).left) ≡ true
    → 0 < shown_count (with_members (fields_with ps fs).shown (own m (fields_with ps fs).left))
took_node true ps fs n e some none = grown true ps fs n e refl some
took_node false ps fs zero e some none = absurd (both_ways (is_none_left ps) some (sym (ap is_none_left (untouched ps fs e)) ∙ none))
took_node false ps fs (suc n) e some none =
    let c = member_count (fields_with ps fs).shown (own false (fields_with ps fs).left) in
    let k = kept_count ps fs in
    omega (arith, c, k, e)

-- ---- What took the last place isn't simple.

took : (ps : List Attributes) (x : Shown) → is_none_left ps ≡ false → is_none_left (with_places ps x).left ≡ true
    → is_simple (with_places ps x).shown ≡ false
took ps (Scalar t) some none = absurd (both_ways (is_none_left ps) some none)
took ps (Row no_shown) some none = absurd (both_ways (is_none_left ps) some none)
took ps (Row (a_shown x xs)) some none = refl
took ps (Node name fs) some none =
    over (shown_count (with_members (fields_with ps fs).shown (own (is_marked name) (fields_with ps fs).left))) 0
    (took_node (is_marked name) ps fs (shown_count fs) refl some none)

took_fields : (ps : List Attributes) (fs : Fields) → is_none_left ps ≡ false → is_none_left (fields_with ps fs).left ≡ true
    → all_simple (fields_with ps fs).shown ≡ false
took_fields ps no_field some none = absurd (both_ways (is_none_left ps) some none)
took_fields ps (left_out fs) some none = took_fields ps fs some none
took_fields ps (a_field name x fs) some none = elim (cases_Bool (is_none_left (with_places ps x).left)) [
  | inl gone ↦ ap (λ b. b && all_simple (fields_with (with_places ps x).left fs).shown) (took ps x some gone)
  | inr more ↦ ap (λ b. is_simple (with_places ps x).shown && b) (took_fields (with_places ps x).left fs more none)
      ∙ and_right (is_simple (with_places ps x).shown) false refl
]

not_simple : (fs more : Fields) → all_simple fs ≡ false → all_simple (with_members fs more) ≡ false
not_simple no_field more h = absurd (both_ways true h refl)
not_simple (left_out fs) more h = not_simple fs more h
not_simple (a_field name x fs) more h = elim (and_cases (is_simple x) (all_simple fs) h) [
  | inl e ↦ ap (λ b. b && all_simple (with_members fs more)) e
  | inr e ↦ ap (λ b. is_simple x && b) (not_simple fs more e) ∙ and_right (is_simple x) false refl
]

-- ---- A marked node stands on one line only where no place is left.

long_placed : (ps : List Attributes) (fs : Fields) → is_none_left ps ≡ false → is_short (closed true (fields_with ps fs)).shown ≡ false
long_placed ps fs some =
    let r : Fields = (fields_with ps fs).shown in
    let o : Fields = own true (fields_with ps fs).left in
    elim (cases_Bool (is_none_left (fields_with ps fs).left)) [
      | inl none ↦ ap (λ b. nat_le (shown_count (with_members r o)) 3 && b) (not_simple r o (took_fields ps fs some none))
          ∙ and_right (nat_le (shown_count (with_members r o)) 3) false refl
      | inr more ↦
          let c = member_count r o in
          let k : shown_count o ≡ 4 = own_count (fields_with ps fs).left more in
          let h : 3 < shown_count (with_members r o) = omega (arith, c, k) in
          ap (λ b. b && all_simple (with_members r o)) (over (shown_count (with_members r o)) 3 h)
    ]

short_placed : (ps : List Attributes) (fs : Fields) → is_short (closed true (fields_with ps fs)).shown ≡ (is_none_left ps && is_short fs)
short_placed [] fs = ap (λ z. is_short z.shown) (closed_unplaced true [] fs refl)
short_placed (p ∷ ps) fs = long_placed (p ∷ ps) fs refl

pub marked_line : (flat short line : Bool) (ps : List Attributes) (fs : Fields) → line ≡ (if is_none_left ps then short else flat)
    → short ≡ (flat || is_short fs) →
    line ≡ (flat || is_short (closed true (fields_with ps fs)).shown)
marked_line flat short line [] fs e is = e ∙ is ∙ ap (λ b. flat || b) (sym (short_placed [] fs))
marked_line flat short line (p ∷ ps) fs e is = e ∙ or_false flat ∙ ap (λ b. flat || b) (sym (short_placed (p ∷ ps) fs))

-- where some place is left, only a dump of one line has a marked node on one
pub flat_line : (flat line : Bool) (ps : List Attributes) (fs : Fields) → is_none_left ps ≡ false → line ≡ flat
    → line ≡ (flat || is_short (closed true (fields_with ps fs)).shown)
flat_line flat line ps fs some e = e ∙ or_false flat ∙ ap (λ b. flat || b) (sym (long_placed ps fs some))

-- ---- A node of more than three fields, marked or not, never stands on one line by itself.

pub long_line : (m flat : Bool) (ps : List Attributes) (fs : Fields) → 3 < shown_count fs
    → flat ≡ (flat || is_short (closed m (fields_with ps fs)).shown)
long_line m flat ps fs many =
    let r : Fields = (fields_with ps fs).shown in
    let o : Fields = own m (fields_with ps fs).left in
    let c = member_count r o in
    let k = kept_count ps fs in
    let h : 3 < shown_count (with_members r o) = omega (arith, c, k, many) in
    or_false flat ∙ ap (λ b. flat || (b && all_simple (with_members r o))) (sym (over (shown_count (with_members r o)) 3 h))

pub four_or_more : (fs : Fields) (n : ℕ) → shown_count fs ≡ n + 1 + 1 + 1 + 1 → 3 < shown_count fs
four_or_more fs n e = omega (arith, e)

-- ---- A node that isn't marked, but whose first field is.

abbrev pub is_marked_node : Shown → Bool
is_marked_node (Scalar t) = false
is_marked_node (Row xs) = false
is_marked_node (Node name fs) = is_marked name

led_full : (ps : List Attributes) (x : Shown) → is_none_left ps ≡ false → is_marked_node x ≡ true
    → is_simple (with_places ps x).shown ≡ false
led_full ps (Scalar t) some is = absurd (both_ways false refl is)
led_full ps (Row xs) some is = absurd (both_ways false refl is)
led_full ps (Node name fs) some is =
    over (shown_count (with_members (fields_with ps fs).shown (own (is_marked name) (fields_with ps fs).left))) 0
    (grown (is_marked name) ps fs (shown_count fs) refl is some)

short_led : (ps : List Attributes) (name : List ℕ) (x : Shown) (rest : Fields) → is_marked_node x ≡ true →
    is_short (closed false (fields_with ps (a_field name x rest))).shown ≡ (is_none_left ps && is_short (a_field name x rest))
short_led [] name x rest is = ap (λ z. is_short z.shown) (closed_unplaced false [] (a_field name x rest) refl)
short_led (p ∷ ps) name x rest is =
    let one = with_places (p ∷ ps) x in
    let after_it : Fields = with_members (fields_with one.left rest).shown no_field in
    ap (λ b. nat_le (shown_count after_it + 1) 3 && (b && all_simple after_it)) (led_full (p ∷ ps) x refl is)
    ∙ and_right (nat_le (shown_count after_it + 1) 3) false refl

pub led_line : (flat short line : Bool) (ps : List Attributes) (name : List ℕ) (x : Shown) (rest : Fields) → is_marked_node x ≡ true →
    line ≡ (if is_none_left ps then short else flat) → short ≡ (flat || is_short (a_field name x rest)) →
    line ≡ (flat || is_short (closed false (fields_with ps (a_field name x rest))).shown)
led_line flat short line [] name x rest m e is = e ∙ is ∙ ap (λ b. flat || b) (sym (short_led [] name x rest m))
led_line flat short line (p ∷ ps) name x rest m e is = e ∙ or_false flat ∙ ap (λ b. flat || b) (sym (short_led (p ∷ ps) name x rest m))

-- expressions and patterns are marked
pub expr_marked : (e : Trees.Expr) → is_marked_node (shown e) ≡ true
expr_marked (Trees.BoolOp op values) = refl
expr_marked (Trees.NamedExpr target value) = refl
expr_marked (Trees.BinOp left op right) = refl
expr_marked (Trees.UnaryOp op operand) = refl
expr_marked (Trees.Lambda args body) = refl
expr_marked (Trees.IfExp test body orelse) = refl
expr_marked (Trees.Dict keys values) = refl
expr_marked (Trees.Set elts) = refl
expr_marked (Trees.ListComp elt generators) = refl
expr_marked (Trees.SetComp elt generators) = refl
expr_marked (Trees.DictComp key value generators) = refl
expr_marked (Trees.GeneratorExp elt generators) = refl
expr_marked (Trees.Await value) = refl
expr_marked (Trees.Yield value) = refl
expr_marked (Trees.YieldFrom value) = refl
expr_marked (Trees.Compare left ops comparators) = refl
expr_marked (Trees.Call func args keywords) = refl
expr_marked (Trees.FormattedValue value conversion spec) = refl
expr_marked (Trees.JoinedStr values) = refl
expr_marked (Trees.Constant value) = refl
expr_marked (Trees.Attribute value attr ctx) = refl
expr_marked (Trees.Subscript value slice ctx) = refl
expr_marked (Trees.Starred value ctx) = refl
expr_marked (Trees.Name id ctx) = refl
expr_marked (Trees.ListOf elts ctx) = refl
expr_marked (Trees.Tuple elts ctx) = refl
expr_marked (Trees.Slice lower upper step) = refl

pub pattern_marked : (p : Trees.Pattern) → is_marked_node (shown_pattern p) ≡ true
pattern_marked (Trees.MatchValue value) = refl
pattern_marked (Trees.MatchSingleton value) = refl
pattern_marked (Trees.MatchSequence inner) = refl
pattern_marked (Trees.MatchMapping keys inner rest) = refl
pattern_marked (Trees.MatchClass cls inner names named) = refl
pattern_marked (Trees.MatchStar name) = refl
pattern_marked (Trees.MatchAs inner name) = refl
pattern_marked (Trees.MatchOr inner) = refl
