-- The texts of cursors: each is of one cursor alone.
--
-- Carries: read, to_text, first_level, number, numbers, push_levels. On: LinesLemmas.
use Rattle.std.proofs.Common.{◌≡◌, ◌≢◌, append-nil, ℕ, zero, suc, ◌+◌, ◌<◌, ◌≤◌, ◌^◌, ◌/◌, ◌%◌, ◌==◌, Bool, true, false}
use Rattle.std.proofs.Common.{if◌then◌else◌, List, [], ◌∷◌, ◌++◌, length, get_or, take, drop, refl, sym, ap, ◌∙◌, arith, append_assoc, All}
use Rattle.std.proofs.Common.{decimal, codes}
use Rattle.std.specs.Fmt.{digits, digits_onto, digit_glyph}
use Rattle.std.specs.List.{flat_map}
use Rattle.std.proofs.lemmas.Bool.Decides.{nat_tests}
use denote.Ref.{Bor}
use Rattle.std.specs.Prelude.{MatchOption}
use Rattle.std.specs.Option.{IsSomeAnd}
use Rattle.std.specs.Str.Pattern.{FindsTextPrefix, StripsPrefix}
use Rattle.pylex.proofs.Texts.LinesLemmas.{following}
use Rattle.std.proofs.Common.{Option, Some, None, add-one, length-take-le}
use Rattle.std.proofs.Math.Seq.{take-suc, take-suc-set, drop-cons}
use Rattle.std.proofs.Common.{ap₂, set}
use Rattle.std.proofs.lemmas.Str.Pattern.{IsSplitOnceResult, split_after, split_parts}
use Rattle.std.proofs.lemmas.List.Elements.{All-from_recursion, All-cons, All-head, All-tail, All-nil, All-weaker}
use Rattle.pylex.specs.Cursors.{CursorParts, cursor_text, with_commas, part}
use Rattle.pylex.specs.CursorTexts.{IsWellFormed}
use Rattle.pylex_listing.specs.Lines.{count_if}

glyph_high : (d : ℕ) → d < 10 → 48 ≤ digit_glyph false d
glyph_high d h = grind (arith, nat_tests)

digits_high : (k n : ℕ) (acc : List ℕ) → All (λ b. 48 ≤ b) acc → All (λ b. 48 ≤ b) (digits_onto k 10 false n acc)
digits_high zero n acc h = h
digits_high (suc k) n acc h =
    let glyph : 48 ≤ digit_glyph false (n % 10) = glyph_high (n % 10) (omega arith) in
    let more : All (λ b. 48 ≤ b) (digit_glyph false (n % 10) ∷ acc) = All-cons (λ b. 48 ≤ b) _ acc glyph h in
    elim (n / 10 == 0) as (λ b. All (λ b. 48 ≤ b) (if b then digit_glyph false (n % 10) ∷ acc else digits_onto k 10 false (n / 10)
    (digit_glyph false (n % 10) ∷ acc)))
    [ true ↦ more | false ↦ digits_high k (n / 10) (digit_glyph false (n % 10) ∷ acc) more ]

decimal_high : (n : ℕ) → All (λ b. 48 ≤ b) (decimal n)
unfolding digits
decimal_high n = digits_high 64 n [] (All-nil (λ b. 48 ≤ b))

-- a decimal has neither blanks nor commas
pub decimal_lacks : (s n : ℕ) → s < 48 → (i : ℕ) → i < length (decimal n) → get_or (decimal n) i 0 ≢ s
decimal_lacks s n low i inside e = let high = decimal_high n i 0 inside in omega (arith, high, e, low)

abbrev Lacks : ℕ → List ℕ → Type 0
Lacks s xs = All (λ b. b ≢ s) xs

all_lacks : (s n : ℕ) → s < 48 → Lacks s (decimal n)
all_lacks s n low = All-weaker (λ b. 48 ≤ b) (λ b. b ≢ s) (λ b high e. omega (arith, high, e, low)) (decimal n) (decimal_high n)

-- what stands before the first separator, and what stands after it
separated : (s : ℕ) (us vs x y : List ℕ) → Lacks s us → Lacks s vs → us ++ s ∷ x ≡ vs ++ s ∷ y → (us ≡ vs) × (x ≡ y)
separated s [] [] x y p q e = (refl, cc)
separated s [] (v ∷ vs) x y p q e = absurd (All-head (λ b. b ≢ s) v vs q (cc))
separated s (u ∷ us) [] x y p q e = absurd (All-head (λ b. b ≢ s) u us p (cc))
separated s (u ∷ us) (v ∷ vs) x y p q e =
    let rest = separated s us vs x y (All-tail (λ b. b ≢ s) u us p) (All-tail (λ b. b ≢ s) v vs q) (cc) in
    let front = rest.0 in
    (cc front, rest.1)

-- without a separator there is nothing after one
not_separated : (s : ℕ) (us vs y : List ℕ) → Lacks s us → us ≡ vs ++ s ∷ y → ⊥
not_separated s [] [] y p e = cc
not_separated s [] (v ∷ vs) y p e = cc
not_separated s (u ∷ us) [] y p e = All-head (λ b. b ≢ s) u us p (cc)
not_separated s (u ∷ us) (v ∷ vs) y p e = not_separated s us vs y (All-tail (λ b. b ≢ s) u us p) (cc)

abbrev pub Words : List ℕ → Type 0
Words ns = All (λ n. n < 2 ^ 64) ns

-- numbers, with a blank after each
abbrev pub with_blanks : List ℕ → List ℕ
with_blanks ns = flat_map (λ n. decimal n ++ 32 ∷ []) ns

with_blanks-cons : (n : ℕ) (ns tail : List ℕ) → with_blanks (n ∷ ns) ++ tail ≡ decimal n ++ 32 ∷ (with_blanks ns ++ tail)
with_blanks-cons n ns tail = simp append_assoc

-- the numbers of a cursor before its levels
abbrev pub numbers_of : CursorParts → List ℕ
numbers_of c = c.given ∷ c.offset ∷ c.row ∷ c.depth ∷ count_if c.begun ∷ c.skip ∷ []

regrouped : (p a b c d e f w : List ℕ) → p ++ 32 ∷ a ++ 32 ∷ b ++ 32 ∷ c ++ 32 ∷ d ++ 32 ∷ e ++ 32 ∷ f ++ 32 ∷ [] ++ w
    ≡ p ++ 32 ∷ (a ++ 32 ∷ (b ++ 32 ∷ (c ++ 32 ∷ (d ++ 32 ∷ (e ++ 32 ∷ (f ++ 32 ∷ w))))))
regrouped p a b c d e f w =
    append_assoc (p ++ 32 ∷ a ++ 32 ∷ b ++ 32 ∷ c ++ 32 ∷ d ++ 32 ∷ e ++ 32 ∷ f) (32 ∷ []) w
    ∙ append_assoc (p ++ 32 ∷ a ++ 32 ∷ b ++ 32 ∷ c ++ 32 ∷ d ++ 32 ∷ e) (32 ∷ f) (32 ∷ w)
    ∙ append_assoc (p ++ 32 ∷ a ++ 32 ∷ b ++ 32 ∷ c ++ 32 ∷ d) (32 ∷ e) (32 ∷ (f ++ 32 ∷ w))
    ∙ append_assoc (p ++ 32 ∷ a ++ 32 ∷ b ++ 32 ∷ c) (32 ∷ d) (32 ∷ (e ++ 32 ∷ (f ++ 32 ∷ w)))
    ∙ append_assoc (p ++ 32 ∷ a ++ 32 ∷ b) (32 ∷ c) (32 ∷ (d ++ 32 ∷ (e ++ 32 ∷ (f ++ 32 ∷ w))))
    ∙ append_assoc (p ++ 32 ∷ a) (32 ∷ b) (32 ∷ (c ++ 32 ∷ (d ++ 32 ∷ (e ++ 32 ∷ (f ++ 32 ∷ w)))))
    ∙ append_assoc p (32 ∷ a) (32 ∷ (b ++ 32 ∷ (c ++ 32 ∷ (d ++ 32 ∷ (e ++ 32 ∷ (f ++ 32 ∷ w))))))

six_blanked : (a b c d e f : ℕ) (w : List ℕ) → with_blanks (a ∷ b ∷ c ∷ d ∷ e ∷ f ∷ []) ++ w
    ≡ decimal a ++ 32 ∷ (decimal b ++ 32 ∷ (decimal c ++ 32 ∷ (decimal d ++ 32 ∷ (decimal e ++ 32 ∷ (decimal f ++ 32 ∷ w)))))
six_blanked a b c d e f w =
    with_blanks-cons a (b ∷ c ∷ d ∷ e ∷ f ∷ []) w
    ∙ ap (λ t. decimal a ++ 32 ∷ t) (with_blanks-cons b (c ∷ d ∷ e ∷ f ∷ []) w
    ∙ ap (λ t. decimal b ++ 32 ∷ t) (with_blanks-cons c (d ∷ e ∷ f ∷ []) w
    ∙ ap (λ t. decimal c ++ 32 ∷ t) (with_blanks-cons d (e ∷ f ∷ []) w
    ∙ ap (λ t. decimal d ++ 32 ∷ t) (with_blanks-cons e (f ∷ []) w
    ∙ ap (λ t. decimal e ++ 32 ∷ t) (with_blanks-cons f [] w)))))

-- a cursor's text by its numbers and its levels
pub cursor_text_is : (c : CursorParts) → cursor_text c ≡ codes "pytok1 " ++ (with_blanks (numbers_of c) ++ with_commas c.levels)
unfolding cursor_text
cursor_text_is c =
    regrouped (codes "pytok1") (decimal c.given) (decimal c.offset) (decimal c.row) (decimal c.depth) (decimal (count_if c.begun))
    (decimal c.skip) (with_commas c.levels)
    ∙ ap (λ t. codes "pytok1" ++ 32 ∷ t) (sym (six_blanked c.given c.offset c.row c.depth (count_if c.begun) c.skip (with_commas c.levels)))

flag_fits : (b : Bool) → count_if b < 2 ^ 64
flag_fits true = omega arith
flag_fits false = omega arith

pub numbers_fit : (c : CursorParts) → IsWellFormed c → Words (numbers_of c)
numbers_fit c h = All-from_recursion (λ n. n < 2 ^ 64) (numbers_of c) (
  h.given,
  (h.offset, (h.row, (h.depth, (flag_fits c.begun, (h.skip, tt))))),
)

count_if-injective : (a b : Bool) → count_if a ≡ count_if b → a ≡ b
count_if-injective true true e = refl
count_if-injective true false e = cc
count_if-injective false true e = cc
count_if-injective false false e = refl

made : ℕ → ℕ → ℕ → ℕ → Bool → ℕ → List ℕ → CursorParts
made given offset row depth begun skip levels = record {
  given = given;
  offset = offset;
  row = row;
  depth = depth;
  begun = begun;
  skip = skip;
  levels = levels;
}

made-is : (c : CursorParts) → made c.given c.offset c.row c.depth c.begun c.skip c.levels ≡ c
unfolding made
made-is c = refl

-- a cursor is known by its numbers and its levels
pub same_parts : (c d : CursorParts) → numbers_of c ≡ numbers_of d → c.levels ≡ d.levels → c ≡ d
same_parts c d numbers levels =
    let begun : c.begun ≡ d.begun = count_if-injective c.begun d.begun (cc numbers) in
    cc (made-is c, made-is d, numbers, levels, begun)

-- what a cut at the first comma gives of joined numbers
pub first_level_split : (n : ℕ) (ns bs : List ℕ) (x : Bor (List ℕ) × Bor (List ℕ)) → n < 2 ^ 64 → bs ≡ with_commas (n ∷ ns)
    → IsSplitOnceResult 44 bs (Some x)
    → (x.0.now ≡ decimal n) × (0 < length ns) × (x.1.now ≡ with_commas ns)
first_level_split n [] bs x fits whole cut =
    let parts = split_parts 44 bs (Some x) cut (omega arith) in
    absurd (not_separated 44 (decimal n) x.0.now x.1.now (all_lacks 44 n (omega arith)) (sym whole ∙ parts.0))
first_level_split n (m ∷ ns) bs x fits whole cut =
    let parts = split_after 44 bs (decimal n) (with_commas (m ∷ ns)) (Some x) cut (omega arith) (whole
    ∙ append_assoc (decimal n) (codes ",") (with_commas (m ∷ ns))) (decimal_lacks 44 n (omega arith)) in
    (parts.0, omega arith, parts.1)

-- and without a comma one number stands there
pub first_level_whole : (n : ℕ) (ns bs : List ℕ) → n < 2 ^ 64 → bs ≡ with_commas (n ∷ ns) → IsSplitOnceResult 44 bs None
    → (ns ≡ []) × (bs ≡ decimal n)
first_level_whole n [] bs fits whole cut = (refl, whole)
first_level_whole n (m ∷ ns) bs fits whole cut =
    absurd (split_after 44 bs (decimal n) (with_commas (m ∷ ns)) None cut (omega arith) (whole
    ∙ append_assoc (decimal n) (codes ",") (with_commas (m ∷ ns))) (decimal_lacks 44 n (omega arith)))

-- one more number joined on
with_commas-push : (x : ℕ) (xs : List ℕ) (n : ℕ) → with_commas (x ∷ xs ++ n ∷ []) ≡ with_commas (x ∷ xs) ++ 44 ∷ decimal n
with_commas-push x [] n = append_assoc (decimal x) (codes ",") (decimal n)
with_commas-push x (y ∷ ys) n =
    ap (λ t. decimal x ++ codes "," ++ t) (with_commas-push y ys n)
    ∙ sym (append_assoc (decimal x ++ codes ",") (with_commas (y ∷ ys)) (44 ∷ decimal n))

push_after : (xs : List ℕ) (n : ℕ) → 0 < length xs → with_commas (xs ++ n ∷ []) ≡ with_commas xs ++ 44 ∷ decimal n
push_after [] n some = absurd (omega (arith, some))
push_after (x ∷ xs) n some = with_commas-push x xs n

-- the numbers joined so far, and one more
pub joined_more : (xs : List ℕ) (i : ℕ) → i < length xs → 0 < i → with_commas (take (i + 1) xs) ≡ with_commas (take i xs) ++ 44
    ∷ decimal (get_or xs i 0)
joined_more xs i inside some =
    ap with_commas (rw add-one (take-suc xs i 0 inside))
    ∙ push_after (take i xs) (get_or xs i 0) (let within : i ≤ length xs = omega (arith, inside) in rw length-take-le some)

pub joined_first : (xs : List ℕ) → 0 < length xs → with_commas (take 1 xs) ≡ decimal (get_or xs 0 0)
joined_first [] some = absurd (omega (arith, some))
joined_first (x ∷ xs) some = refl

-- the next of the numbers that are read
pub next_number : (i : ℕ) (ns rest text : List ℕ) → i < length ns → text ≡ with_blanks (drop i ns) ++ rest
    → text ≡ decimal (get_or ns i 0) ++ 32 ∷ (with_blanks (drop (i + 1) ns) ++ rest)
next_number i ns rest text inside whole =
    let front : drop i ns ≡ get_or ns i 0 ∷ drop (i + 1) ns = rw add-one (drop-cons ns i 0 inside) in
    whole ∙ ap (λ l. with_blanks l ++ rest) front ∙ with_blanks-cons (get_or ns i 0) (drop (i + 1) ns) rest

pub number_kept : (i v : ℕ) (items ns : List ℕ) → i < length items → i < length ns → take i items ≡ take i ns → v ≡ get_or ns i 0
    → take (i + 1) (set items i v) ≡ take (i + 1) ns
number_kept i v items ns held inside so_far same =
    rw (add-one, take-suc-set items i v held, take-suc ns i 0 inside) (ap₂ (λ (l : List ℕ) (n : ℕ). l ++ n ∷ []) so_far same)

pub get_fits : (ns : List ℕ) (i : ℕ) → Words ns → i < length ns → get_or ns i 0 < 2 ^ 64
get_fits ns i fits inside = fits i 0 inside

-- what is written with one more number
pub written_more : (base before comma new xs : List ℕ) (i : ℕ) → i < length xs → 0 < i → before ≡ base ++ with_commas (take i xs)
    → comma ≡ before ++ 44 ∷ []
    → new ≡ comma ++ decimal (get_or xs i 0) → new ≡ base ++ with_commas (take (i + 1) xs)
written_more base before comma new xs i inside some so_far following pushed =
    let n : List ℕ = decimal (get_or xs i 0) in
    let all : with_commas (take (i + 1) xs) ≡ with_commas (take i xs) ++ 44 ∷ n = joined_more xs i inside some in
    pushed ∙ ap (λ t. t ++ n) (following ∙ ap (λ t. t ++ 44 ∷ []) so_far)
    ∙ append_assoc (base ++ with_commas (take i xs)) (44 ∷ []) n ∙ append_assoc base (with_commas (take i xs)) (44 ∷ n)
    ∙ ap (λ t. base ++ t) (sym all)

pub written_first : (base before new xs : List ℕ) (i : ℕ) → i < length xs → i ≤ 0 → before ≡ base ++ with_commas (take i xs)
    → new ≡ before ++ decimal (get_or xs i 0) → new ≡ base ++ with_commas (take (i + 1) xs)
written_first base before new xs zero inside none so_far pushed =
    pushed ∙ ap (λ t. t ++ decimal (get_or xs 0 0)) (so_far ∙ append-nil base) ∙ ap (λ t. base ++ t) (sym (joined_first xs inside))
written_first base before new xs (suc i) inside none so_far pushed = absurd (omega (arith, none))

appended : (p a b c d e f g h t₀ t₁ t₂ t₃ t₄ t₅ t₆ t₇ t₈ : List ℕ) → t₀ ≡ p → t₁ ≡ t₀ ++ a → t₂ ≡ t₁ ++ b → t₃ ≡ t₂ ++ c → t₄ ≡ t₃ ++ d
    → t₅ ≡ t₄ ++ e → t₆ ≡ t₅ ++ f → t₇ ≡ t₆ ++ g → t₈ ≡ t₇ ++ h
    → t₈ ≡ p ++ a ++ b ++ c ++ d ++ e ++ f ++ g ++ h
appended p a b c d e f g h t₀ t₁ t₂ t₃ t₄ t₅ t₆ t₇ t₈ e₀ e₁ e₂ e₃ e₄ e₅ e₆ e₇ e₈ = cc

-- a cursor's text, part by part
pub cursor_written : (c : CursorParts) {t₀ t₁ t₂ t₃ t₄ t₅ t₆ t₇ t₈ : List ℕ} → t₀ ≡ codes "pytok1" → t₁ ≡ t₀ ++ part c.given
    → t₂ ≡ t₁ ++ part c.offset → t₃ ≡ t₂ ++ part c.row
    → t₄ ≡ t₃ ++ part c.depth → t₅ ≡ t₄ ++ part (count_if c.begun) → t₆ ≡ t₅ ++ part c.skip → t₇ ≡ t₆ ++ 32 ∷ []
    → t₈ ≡ t₇ ++ with_commas c.levels → t₈ ≡ cursor_text c
unfolding cursor_text
cursor_written c {t₀} {t₁} {t₂} {t₃} {t₄} {t₅} {t₆} {t₇} {t₈} e₀ e₁ e₂ e₃ e₄ e₅ e₆ e₇ e₈ =
    appended (codes "pytok1") (part c.given) (part c.offset) (part c.row) (part c.depth) (part (count_if c.begun)) (part c.skip)
    (32 ∷ []) (with_commas c.levels)
    t₀ t₁ t₂ t₃ t₄ t₅ t₆ t₇ t₈ e₀ e₁ e₂ e₃ e₄ e₅ e₆ e₇ e₈

flag_back : (b : Bool) → (count_if b == 1) ≡ b
flag_back true = refl
flag_back false = refl

-- the cursor of six numbers and of levels
abbrev pub made_of : List ℕ → List ℕ → CursorParts
made_of ns levels = record {
  given = get_or ns 0 0;
  offset = get_or ns 1 0;
  row = get_or ns 2 0;
  depth = get_or ns 3 0;
  begun =
      get_or ns 4 0 == 1;
  skip = get_or ns 5 0;
  levels = levels;
}

pub made_of_its_own : (c : CursorParts) → made_of (numbers_of c) c.levels ≡ c
made_of_its_own c = same_parts (made_of (numbers_of c) c.levels) c
    (ap (λ b. c.given ∷ c.offset ∷ c.row ∷ c.depth ∷ count_if b ∷ c.skip ∷ []) (flag_back c.begun)) refl

pub read_is : (c : CursorParts) (ns levels : List ℕ) → ns ≡ numbers_of c → levels ≡ c.levels → made_of ns levels ≡ c
read_is c ns levels numbers same = ap₂ made_of numbers same ∙ made_of_its_own c

pub row_read : (c : CursorParts) (ns : List ℕ) → ns ≡ numbers_of c → IsWellFormed c → get_or ns 2 0 ≡ 0 → ⊥
row_read c ns numbers h none =
    let row : get_or ns 2 0 ≡ c.row = ap (λ l. get_or l 2 0) numbers in
    let low = h.from_one in
    omega (arith, row, low, none)

-- what stands after the word in front
pub stripped : (r : Option (Bor (List ℕ))) (p s body : List ℕ)
    → MatchOption r (FindsTextPrefix p s None) (λ x. StripsPrefix (FindsTextPrefix p) s x.now) → s ≡ p ++ body
    → IsSomeAnd r (λ x. x.now ≡ body)
stripped None p s body cases whole = absurd (cases body whole)
stripped (Some x) p s body cases whole = cases.2 ∙ following p body s cases.0 whole cases.1.0

-- a cursor's text after the word in front
pub text_body : (c : CursorParts) (text : List ℕ) → cursor_text c ≡ text
    → text ≡ codes "pytok1 " ++ (with_blanks (numbers_of c) ++ with_commas c.levels)
text_body c text same = sym same ∙ cursor_text_is c
