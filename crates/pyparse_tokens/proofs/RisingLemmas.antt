-- Carries: drop_wider, Indents::take. On: lines that rise by both widths, of which
-- the last decides for all.
use Rattle.std.proofs.Common.{◌≡◌, ℕ, ◌<◌, Bool, true, false, not, ◌&&◌, ◌||◌, List, [], ◌∷◌, ◌++◌, ◌+◌, ◌-◌, length, take, drop, refl, sym}
use Rattle.std.proofs.Common.{ap, ap₂, ◌∙◌}
use Rattle.std.proofs.Common.{inl, inr, arith, take-append-drop, Some, append-nil}
use Rattle.std.specs.Prelude.{nat_lt, nat_le, filter, slice_get}
use Rattle.std.specs.List.{list_any, list_all}
use Rattle.std.proofs.Math.ListN.{drop_of_length-le}
use Rattle.std.proofs.lemmas.Bool.{cases_Bool, and_from, and_parts, or_parts, not-false}
use Rattle.std.proofs.lemmas.Bool.Decides.{nat_tests}
use Rattle.std.proofs.lemmas.List.Elements.{filter-append}
use Rattle.std.proofs.lemmas.List.Folds.{list_any-append}
use Rattle.std.proofs.Math.Bool.{or-false}
use Rattle.pylex_listing.specs.declared.margins.Widths.{Widths}
use Rattle.pylex.proofs.Callers.{drop_at}
use Rattle.pytoken.specs.Indentation.{Margin, are_alike, is_mixed_past, is_mixed}
use Rattle.pyparse_tokens.specs.Inner.Indenting.{is_less, are_rising, clashes, narrower, Drops, standing_of, HoldSame, Stands}

-- Some of those that pass a test pass another

any_same : {X : Type 0} (p q : X → Bool) → ((x : X) → p x ≡ q x) → (xs : List X) → list_any p xs ≡ list_any q xs
any_same p q same [] = refl
any_same p q same (x ∷ xs) = ap₂ (λ (a b : Bool). a || b) (same x) (any_same p q same xs)

any_filter : {X : Type 0} (p q : X → Bool) (xs : List X) → list_any p (filter q xs) ≡ list_any (λ x. q x && p x) xs
any_filter p q [] = refl
any_filter p q (x ∷ xs) = elim (cases_Bool (q x)) [
  | inl kept ↦ rw kept (ap (λ (b : Bool). p x || b) (any_filter p q xs))
  | inr left_out ↦ rw left_out (any_filter p q xs)
]

any_push : {X : Type 0} (p : X → Bool) (xs : List X) (x : X) → list_any p (xs ++ x ∷ []) ≡ (list_any p xs || p x)
any_push p xs x = list_any-append p xs (x ∷ []) ∙ ap (λ (b : Bool). list_any p xs || b) (or-false (p x))

or_comm : (a b : Bool) → (a || b) ≡ (b || a)
or_comm true true = refl
or_comm true false = refl
or_comm false true = refl
or_comm false false = refl

or_assoc : (a b c : Bool) → ((a || b) || c) ≡ (a || (b || c))
or_assoc true b c = refl
or_assoc false b c = refl

or_twice : (a b : Bool) → (b || a) ≡ ((a || b) || a)
or_twice true true = refl
or_twice true false = refl
or_twice false true = refl
or_twice false false = refl

and_assoc : (a b c : Bool) → ((a && b) && c) ≡ (a && (b && c))
and_assoc true b c = refl
and_assoc false b c = refl

-- A line is mixed where it clashes with one that still stands

-- no line between has a smaller width
abbrev is_least : List Margin → Widths → Bool
is_least between v = list_all (λ u. nat_le v.eight u.widths.eight) between

mixed_past : (between earlier : List Margin) (m : Margin) → is_mixed_past between earlier m
    ≡ list_any (λ v. is_least between v && not (are_alike v m.widths)) (standing_of earlier)
mixed_past between [] m = refl
mixed_past between (w ∷ earlier) m =
    let test : Widths → Bool = λ v. is_least between v && not (are_alike v m.widths) in
    let within : Widths → Bool = λ v. nat_le v.eight w.widths.eight in
    let rest = standing_of earlier in
    let later : is_mixed_past (w ∷ between) earlier m ≡ list_any test (filter within rest) =
    mixed_past (w ∷ between) earlier m
    ∙ any_same (λ v. is_least (w ∷ between) v && not (are_alike v m.widths)) (λ v. within v && test v)
    (λ v. and_assoc (within v) (is_least between v) (not (are_alike v m.widths))) rest
    ∙ sym (any_filter test within rest) in
    ap (λ (b : Bool). test w.widths || b) later
    ∙ or_comm (test w.widths) (list_any test (filter within rest))
    ∙ sym (any_push test (filter within rest) w.widths)

-- the lines that stand tell it, each of their widths once
pub mixed_is : (earlier : List Margin) (standing : List Widths) (m : Margin) → HoldSame standing (standing_of earlier)
    → clashes standing m.widths ≡ is_mixed earlier m
mixed_is earlier standing m same = same (λ v. not (are_alike v m.widths)) ∙ sym (mixed_past [] earlier m)

-- Two lines in the same order, whichever way tabs count

less : (v w : Widths) → v.eight < w.eight → v.one < w.one → is_less v w ≡ true
less v w eight one = grind (arith, nat_tests)

less_parts : (v w : Widths) → is_less v w ≡ true → (v.eight < w.eight) × (v.one < w.one)
less_parts v w h =
    let parts = and_parts (nat_lt v.eight w.eight) (nat_lt v.one w.one) h in
    (grind (arith, nat_tests), grind (arith, nat_tests))

less_alike : (v w : Widths) → is_less v w ≡ true → are_alike v w ≡ true
less_alike v w h = let parts = less_parts v w h in grind (arith, nat_tests)

alike_less : (v w : Widths) → are_alike v w ≡ true → nat_lt v.eight w.eight ≡ true → is_less v w ≡ true
alike_less v w alike eight = grind (arith, nat_tests)

less_less : (u v w : Widths) → is_less u v ≡ true → is_less v w ≡ true → is_less u w ≡ true
less_less u v w h k =
    let first = less_parts u v h in
    let second = less_parts v w k in
    less u w (omega (arith, first.0, second.0)) (omega (arith, first.1, second.1))

widths_by : (a b c d : ℕ) → a ≡ b → c ≡ d → (let v : Widths = record { eight = a; one = c } in v) ≡ (record { eight = b; one = d })
widths_by a b c d eight one = rw (eight, one) refl

-- of one width, they are of both
alike_same : (v w : Widths) → are_alike v w ≡ true → nat_lt v.eight w.eight ≡ false → nat_le v.eight w.eight ≡ true → v ≡ w
alike_same v w alike not_less within =
    let eight : v.eight ≡ w.eight = grind (arith, nat_tests) in
    let one : v.one ≡ w.one = grind (arith, nat_tests) in
    widths_by v.eight w.eight v.one w.one eight one

-- Lines that rise

rising_parts : (v : Widths) (ws : List Widths) → are_rising (v ∷ ws) ≡ true
    → (list_all (λ w. is_less v w) ws ≡ true) × (are_rising ws ≡ true)
rising_parts v ws h = and_parts (list_all (λ w. is_less v w) ws) (are_rising ws) h

all_filter : (p q : Widths → Bool) (ws : List Widths) → list_all p ws ≡ true → list_all p (filter q ws) ≡ true
all_filter p q [] all = refl
all_filter p q (w ∷ ws) all =
    let parts = and_parts (p w) (list_all p ws) all in
    elim (cases_Bool (q w)) [
      | inl kept ↦ rw kept (and_from (p w) (list_all p (filter q ws)) parts.0 (all_filter p q ws parts.1))
      | inr left_out ↦ rw left_out (all_filter p q ws parts.1)
    ]

rising_filter : (q : Widths → Bool) (ws : List Widths) → are_rising ws ≡ true → are_rising (filter q ws) ≡ true
rising_filter q [] h = refl
rising_filter q (v ∷ ws) h =
    let parts = rising_parts v ws h in
    elim (cases_Bool (q v)) [
      | inl kept ↦ rw kept (and_from (list_all (λ w. is_less v w) (filter q ws)) (are_rising (filter q ws))
          (all_filter (λ w. is_less v w) q ws parts.0) (rising_filter q ws parts.1))
      | inr left_out ↦ rw left_out (rising_filter q ws parts.1)
    ]

all_push : (p : Widths → Bool) (ws : List Widths) (w : Widths) → list_all p ws ≡ true → p w ≡ true → list_all p (ws ++ w ∷ []) ≡ true
all_push p [] w all own = and_from (p w) true own refl
all_push p (v ∷ ws) w all own =
    let parts = and_parts (p v) (list_all p ws) all in
    and_from (p v) (list_all p (ws ++ w ∷ [])) parts.0 (all_push p ws w parts.1 own)

all_pop : (p : Widths → Bool) (ws : List Widths) (w : Widths) → list_all p (ws ++ w ∷ []) ≡ true → (list_all p ws ≡ true) × (p w ≡ true)
all_pop p [] w all = (refl, (and_parts (p w) true all).0)
all_pop p (v ∷ ws) w all =
    let parts = and_parts (p v) (list_all p (ws ++ w ∷ [])) all in
    let more = all_pop p ws w parts.1 in
    (and_from (p v) (list_all p ws) parts.0 more.0, more.1)

rising_push : (ws : List Widths) (w : Widths) → are_rising ws ≡ true → list_all (λ v. is_less v w) ws ≡ true
    → are_rising (ws ++ w ∷ []) ≡ true
rising_push [] w h below = refl
rising_push (v ∷ ws) w h below =
    let parts = rising_parts v ws h in
    let least = and_parts (is_less v w) (list_all (λ v. is_less v w) ws) below in
    and_from (list_all (λ u. is_less v u) (ws ++ w ∷ [])) (are_rising (ws ++ w ∷ []))
    (all_push (λ u. is_less v u) ws w parts.0 least.0) (rising_push ws w parts.1 least.1)

rising_pop : (ws : List Widths) (w : Widths) → are_rising (ws ++ w ∷ []) ≡ true
    → (are_rising ws ≡ true) × (list_all (λ v. is_less v w) ws ≡ true)
rising_pop [] w h = (refl, refl)
rising_pop (v ∷ ws) w h =
    let parts = rising_parts v (ws ++ w ∷ []) h in
    let own = all_pop (λ u. is_less v u) ws w parts.0 in
    let more = rising_pop ws w parts.1 in (
      and_from (list_all (λ u. is_less v u) ws) (are_rising ws) own.0 more.0,
      and_from (is_less v w) (list_all (λ v. is_less v w) ws) own.1 more.1,
    )

-- One line more, which isn't mixed

-- those that are dropped for being as wide are the line itself
once : (p : Widths → Bool) (ws : List Widths) (w : Widths) → clashes ws w ≡ false
    → (list_any p (narrower ws w) || p w) ≡ (list_any p (filter (λ v. nat_le v.eight w.eight) ws) || p w)
once p [] w none = refl
once p (v ∷ ws) w none =
    let parts = or_parts (not (are_alike v w)) (clashes ws w) none in
    let alike = not-false (are_alike v w) parts.0 in
    let within : Widths → Bool = λ v. nat_le v.eight w.eight in
    let more = once p ws w parts.1 in
    elim (cases_Bool (nat_lt v.eight w.eight)) [
      | inl below ↦
          let le : nat_le v.eight w.eight ≡ true = grind (arith, nat_tests) in
          rw (below, le) (or_assoc (p v) (list_any p (narrower ws w)) (p w) ∙ ap (λ (b : Bool). p v || b) more
          ∙ sym (or_assoc (p v) (list_any p (filter within ws)) (p w)))
      | inr not_below ↦ elim (cases_Bool (nat_le v.eight w.eight)) [
        | inl le ↦
            let is : v ≡ w = alike_same v w alike not_below le in
            rw (not_below, le) (more ∙ or_twice (p w) (list_any p (filter within ws))
            ∙ ap (λ (u : Widths). (p u || list_any p (filter within ws)) || p w) (sym is))
        | inr above ↦ rw (not_below, above) more
      ]
    ]

narrower_less : (ws : List Widths) (w : Widths) → clashes ws w ≡ false → list_all (λ v. is_less v w) (narrower ws w) ≡ true
narrower_less [] w none = refl
narrower_less (v ∷ ws) w none =
    let parts = or_parts (not (are_alike v w)) (clashes ws w) none in
    let alike = not-false (are_alike v w) parts.0 in
    elim (cases_Bool (nat_lt v.eight w.eight)) [
      | inl below ↦ rw below (and_from (is_less v w) (list_all (λ v. is_less v w) (narrower ws w)) (alike_less v w alike below)
          (narrower_less ws w parts.1))
      | inr not_below ↦ rw not_below (narrower_less ws w parts.1)
    ]

pub stands_on : (earlier : List Margin) (ws : List Widths) (m : Margin) → Stands earlier ws → clashes ws m.widths ≡ false
    → Stands (m ∷ earlier) (narrower ws m.widths ++ m.widths ∷ [])
stands_on earlier ws m had none =
    let w = m.widths in
    let within : Widths → Bool = λ v. nat_le v.eight w.eight in
    record {
      rising = rising_push (narrower ws w) w (rising_filter (λ v. nat_lt v.eight w.eight) ws had.rising) (narrower_less ws w none);
      same = λ p.
          any_push p (narrower ws w) w
          ∙ once p ws w none
          ∙ ap (λ (b : Bool). b || p w) (any_filter p within ws ∙ had.same (λ v. within v && p v)
          ∙ sym (any_filter p within (standing_of earlier)))
          ∙ sym (any_push p (filter within (standing_of earlier)) w);
    }

-- Those that aren't narrower are dropped, one after another

-- some were dropped, none of which clashes
pub record Dropped (start now : List Widths) (w : Widths) : Type 0 where
  pub narrower : narrower now w ≡ narrower start w
  pub clash : clashes now w ≡ clashes start w
  pub rising : are_rising start ≡ true → are_rising now ≡ true

-- one more was
pub drops_on : (start ws : List Widths) (v w : Widths) → Dropped start (ws ++ v ∷ []) w → are_alike v w ≡ true
    → nat_lt v.eight w.eight ≡ false
    → Dropped start ws w
drops_on start ws v w had alike not_below = record {
  narrower = sym (filter-append (λ v. nat_lt v.eight w.eight) ws (v ∷ []) ∙ (rw not_below (append-nil (narrower ws w)))) ∙ had.narrower;
  clash =
      sym (any_push (λ v. not (are_alike v w)) ws v ∙ (rw alike (or-false (clashes ws w)))) ∙ had.clash;
  rising = λ h. (rising_pop ws v (had.rising h)).0;
}

-- the last of some lines stands after the others
pub last_of : (ws : List Widths) (v : Widths) → Some v ≡ slice_get ws (length ws - 1) → ws ≡ take (length ws - 1) ws ++ v ∷ []
last_of [] v h = absurd cc
last_of (u ∷ ws) v h =
    let k = length (u ∷ ws) - 1 in
    let none : drop (k + 1) (u ∷ ws) ≡ [] = drop_of_length-le (u ∷ ws) (omega arith) in
    sym (take-append-drop k (u ∷ ws)) ∙ ap (λ (b : List Widths). take k (u ∷ ws) ++ b) (drop_at (u ∷ ws) k v (sym h)
    ∙ ap (λ (b : List Widths). v ∷ b) none)

all_less : (ws : List Widths) (v w : Widths) → list_all (λ u. is_less u v) ws ≡ true → is_less v w ≡ true
    → (clashes ws w ≡ false) × (narrower ws w ≡ ws)
all_less [] v w below last = (refl, refl)
all_less (u ∷ ws) v w below last =
    let parts = and_parts (is_less u v) (list_all (λ u. is_less u v) ws) below in
    let own = less_less u v w parts.0 last in
    let alike = less_alike u w own in
    let eight = (and_parts (nat_lt u.eight w.eight) (nat_lt u.one w.one) own).0 in
    let more = all_less ws v w parts.1 last in
    (rw alike more.0, rw eight (ap (λ (vs : List Widths). u ∷ vs) more.1))

-- the last that stands is narrower, and so are all before it: what is alike
-- with it is alike with them
pub stops_narrower : (start ws : List Widths) (v w : Widths) → Dropped start (ws ++ v ∷ []) w → are_alike v w ≡ true
    → nat_lt v.eight w.eight ≡ true → are_rising start ≡ true → Drops start (ws ++ v ∷ []) w false
stops_narrower start ws v w had alike below rising =
    let last = alike_less v w alike below in
    let all = all_less ws v w (rising_pop ws v (had.rising rising)).1 last in
    record {
      clash = sym (any_push (λ v. not (are_alike v w)) ws v ∙ (rw (alike, all.0) refl)) ∙ had.clash;
      kept = λ h.
          sym (filter-append (λ v. nat_lt v.eight w.eight) ws (v ∷ [])
          ∙ (rw below (ap (λ (vs : List Widths). vs ++ v ∷ []) all.1))) ∙ had.narrower;
    }

all_below : (ws : List Widths) (w : Widths) → list_all (λ u. is_less u w) ws ≡ true → (clashes ws w ≡ false) × (narrower ws w ≡ ws)
all_below [] w below = (refl, refl)
all_below (u ∷ ws) w below =
    let parts = and_parts (is_less u w) (list_all (λ u. is_less u w) ws) below in
    let alike = less_alike u w parts.0 in
    let eight = (and_parts (nat_lt u.eight w.eight) (nat_lt u.one w.one) parts.0).0 in
    let more = all_below ws w parts.1 in
    (rw alike more.0, rw eight (ap (λ (vs : List Widths). u ∷ vs) more.1))

-- a line as wide as the last goes in its place
pub goes_last : (front : List Widths) (w : Widths) → are_rising (front ++ w ∷ []) ≡ true → Drops (front ++ w ∷ []) front w false
goes_last front w rising =
    let all = all_below front w (rising_pop front w rising).1 in
    let own : are_alike w w ≡ true = grind (arith, nat_tests) in
    let not_below : nat_lt w.eight w.eight ≡ false = grind (arith, nat_tests) in
    let had = drops_on (front ++ w ∷ []) front w w (record { narrower = refl; clash = refl; rising = λ h. h }) own not_below in
    record { clash = sym all.0 ∙ had.clash; kept = λ h. sym all.1 ∙ had.narrower }

-- the last of some lines, by its widths
pub last_as : (ws : List Widths) (v w : Widths) → Some v ≡ slice_get ws (length ws - 1) → v.eight ≡ w.eight → v.one ≡ w.one
    → (front : List Widths) × (ws ≡ front ++ w ∷ [])
last_as ws v w last eight one = (
  take (length ws - 1) ws,
  last_of ws v last ∙ ap (λ (u : Widths). take (length ws - 1) ws ++ u ∷ [])
      (widths_by v.eight w.eight v.one w.one eight one),
)
