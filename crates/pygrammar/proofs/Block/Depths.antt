-- What is kept line by line is what the earlier lines say.
--
-- Carries: count_on, innermost_on, depths, count_is and 6 more, for Blocks. On: Steps.
use Rattle.std.proofs.Common.{◌≡◌, ℕ, ◌+◌, ◌<◌, ◌≤◌, List, [], ◌∷◌, ◌++◌, Some, None, true, false, cond, refl, sym, ap, ◌∙◌, eqb-true}
use Rattle.std.proofs.Common.{length, Bool, suc, arith}
use Rattle.std.specs.Prelude.{nat_lt, ◌==◌}
use borrow.Author.Tests.{ltb-true, ltb-false}
use Rattle.pytoken.specs.Inner.Following.{following}
use Rattle.pygrammar.specs.Lines.{Line, line, Form, simple_form, decorator_form, header_form}
use Rattle.pygrammar.specs.Blocks.{Kind, ElifLine, ElseLine, CaseLine, kind_of}
use Rattle.pygrammar.specs.Refusals.{elifs, own, around, beginning}
use Rattle.pygrammar.specs.Depths.{Depth, round_at, arms_at, under, depth_of, counted, count, begins, innermost}
use Rattle.pygrammar.proofs.Block.Steps.{not_less, is_less}

-- what is kept after some lines, the nearest first
abbrev pub depths : List Line → List Depth
depths [] = []
depths (x ∷ earlier) = counted (depths earlier) x

pub count_is : (earlier xs : List Line) → count (depths earlier) xs ≡ depths (following earlier xs)
count_is earlier [] = refl
count_is earlier (x ∷ xs) = count_is (x ∷ earlier) xs

pub count_on : (ds : List Depth) (xs : List Line) (x : Line) → count ds (xs ++ x ∷ []) ≡ counted (count ds xs) x
count_on ds [] x = refl
count_on ds (y ∷ xs) x = count_on (counted ds y) xs x

-- ---- The levels below one answer for it and for those below.

round_under : (l m : ℕ) → l ≤ m → (ds : List Depth) → round_at l (under m ds) ≡ round_at l ds
round_under l m h [] = refl
round_under l m h (d ∷ ds) = elim (nat_lt d.level m) as (λ b. nat_lt d.level m ≡ b
    → round_at l (cond b (d ∷ ds) (under m ds)) ≡ round_at l (d ∷ ds)) [
      | true ↦ λ e. refl
      | false ↦ λ e.
          let k : m ≤ d.level = ltb-false d.level m e in
          round_under l m h ds
          ∙ sym (ap (λ b. cond b (d.round + (d.arms + d.own)) (round_at l ds)) (not_less d.level l (omega (arith, h, k))))
    ] refl

elif_under : (l m : ℕ) → l < m → (ds : List Depth) → arms_at ElifLine l (under m ds) ≡ arms_at ElifLine l ds
elif_under l m h [] = refl
elif_under l m h (d ∷ ds) = elim (nat_lt d.level m) as (λ b. nat_lt d.level m ≡ b → arms_at ElifLine l (cond b (d ∷ ds) (under m ds)) ≡
    arms_at ElifLine l (d ∷ ds)) [
      | true ↦ λ e. refl
      | false ↦ λ e.
          let k : m ≤ d.level = ltb-false d.level m e in
          elif_under l m h ds ∙ sym (ap (λ b. cond b (arms_at ElifLine l ds) (cond (d.level == l) (1 + d.arms) 0))
          (is_less l d.level (omega (arith, h, k))))
    ] refl

else_under : (l m : ℕ) → l < m → (ds : List Depth) → arms_at ElseLine l (under m ds) ≡ arms_at ElseLine l ds
else_under l m h [] = refl
else_under l m h (d ∷ ds) = elim (nat_lt d.level m) as (λ b. nat_lt d.level m ≡ b → arms_at ElseLine l (cond b (d ∷ ds) (under m ds)) ≡
    arms_at ElseLine l (d ∷ ds)) [
      | true ↦ λ e. refl
      | false ↦ λ e.
          let k : m ≤ d.level = ltb-false d.level m e in
          else_under l m h ds ∙ sym (ap (λ b. cond b (arms_at ElseLine l ds) (cond (d.level == l) d.arms 0))
          (is_less l d.level (omega (arith, h, k))))
    ] refl

-- ---- After any lines.

-- a test of levels, on both sides
same_here : (l m : ℕ) (f g : ℕ → ℕ) → (m ≡ l → f m ≡ g l) → cond (m == l) (f m) 0 ≡ cond (m == l) (g l) 0
same_here l m f g h = elim (m == l) as (λ b. m == l ≡ b → cond b (f m) 0 ≡ cond b (g l) 0) [
  | true ↦ λ e. h (eqb-true m l e)
  | false ↦ λ e. refl
] refl

same_past : (l m a b c d : ℕ) → (l < m → a ≡ b) → c ≡ d → cond (nat_lt l m) a c ≡ cond (nat_lt l m) b d
same_past l m a b c d h k = elim (nat_lt l m) as (λ t. nat_lt l m ≡ t → cond t a c ≡ cond t b d)
    [ true ↦ λ e. h (ltb-true l m e) | false ↦ λ e. k ] refl

pub arms_are : (k : Kind) (l : ℕ) (earlier : List Line) → arms_at k l (depths earlier) ≡ elifs k l earlier
arms_are k l [] = refl
arms_are ElifLine l (x ∷ earlier) =
    same_past l x.level _ _ _ _ (λ h. elif_under l x.level h (depths earlier) ∙ arms_are ElifLine l earlier)
    (same_here l x.level (λ m. 1 + arms_at (kind_of x.form) m (depths earlier)) (λ m. 1 + elifs (kind_of x.form) m earlier)
    (λ e. ap (λ z. 1 + z) (arms_are (kind_of x.form) x.level earlier ∙ ap (λ m. elifs (kind_of x.form) m earlier) e)))
arms_are ElseLine l (x ∷ earlier) =
    same_past l x.level _ _ _ _ (λ h. else_under l x.level h (depths earlier) ∙ arms_are ElseLine l earlier)
    (same_here l x.level (λ m. arms_at (kind_of x.form) m (depths earlier)) (λ m. elifs (kind_of x.form) m earlier)
    (λ e. arms_are (kind_of x.form) x.level earlier ∙ ap (λ m. elifs (kind_of x.form) m earlier) e))
arms_are _ l (x ∷ earlier) = refl

pub round_is : (l : ℕ) (earlier : List Line) → round_at l (depths earlier) ≡ around l earlier
round_is l [] = refl
round_is l (x ∷ earlier) =
    let ds = depths earlier in
    let k = kind_of x.form in
    elim (nat_lt x.level l) as (λ b. nat_lt x.level l ≡ b →
    cond b (round_at x.level ds + (arms_at k x.level ds + own k)) (round_at l (under x.level ds)) ≡ cond b
    (around x.level earlier + (elifs k x.level earlier + own k)) (around l earlier)) [
      | true ↦ λ e. ap (λ z. z + (arms_at k x.level ds + own k)) (round_is x.level earlier)
          ∙ ap (λ z. around x.level earlier + (z + own k)) (arms_are k x.level earlier)
      | false ↦ λ e. round_under l x.level (ltb-false x.level l e) ds ∙ round_is l earlier
    ] refl

begins_is : (l : ℕ) (f : Form) (earlier : List Line) → begins (around l earlier) (elifs (kind_of f) l earlier) f ≡
    beginning (line l f) earlier
begins_is l (simple_form ss) earlier = refl
begins_is l (decorator_form e) earlier = refl
begins_is l (header_form h None) earlier = refl
begins_is l (header_form h (Some suite)) earlier = refl

-- so the number asked of a line is known from what is kept and from the line
pub innermost_is : (x : Line) (earlier : List Line) → innermost x (depths earlier) ≡ beginning x earlier
innermost_is x earlier =
    ap (λ z. begins z (arms_at (kind_of x.form) x.level (depths earlier)) x.form) (round_is x.level earlier)
    ∙ ap (λ z. begins (around x.level earlier) z x.form) (arms_are (kind_of x.form) x.level earlier)
    ∙ begins_is x.level x.form earlier

pub innermost_on : (xs : List Line) (x : Line) → innermost x (count [] xs) ≡ beginning x (following [] xs)
innermost_on xs x = ap (innermost x) (count_is [] xs) ∙ innermost_is x (following [] xs)

-- ---- How large the numbers are.

beside : (l m a e s b k o n : ℕ) (p q r : Bool) → nat_lt m l ≡ p → nat_lt l m ≡ q → m == l ≡ r → s ≤ 1 → a + e ≤ n → b + k ≤ n → b + o ≤ n →
    cond p (a + (e + s)) b + cond q k (cond r (1 + o) 0) ≤ suc n
beside l m a e s b k o n true true r i j h w x y z = absurd (let c = ltb-true m l i in let d = ltb-true l m j in omega (arith, c, d))
beside l m a e s b k o n true false true i j h w x y z = absurd (let c = ltb-true m l i in let d = eqb-true m l h in omega (arith, c, d))
beside l m a e s b k o n true false false i j h w x y z = omega arith
beside l m a e s b k o n false true r i j h w x y z = omega arith
beside l m a e s b k o n false false true i j h w x y z = omega arith
beside l m a e s b k o n false false false i j h w x y z = omega arith

fewer : (l m a b c n : ℕ) (q r : Bool) → a + cond q b (cond r (1 + c) 0) ≤ n → a + cond q b (cond r c 0) ≤ n
fewer l m a b c n true r h = h
fewer l m a b c n false true h = omega (arith, h)
fewer l m a b c n false false h = h

alone : (a e s b n : ℕ) (p : Bool) → s ≤ 1 → a + e ≤ n → b + 0 ≤ n → cond p (a + (e + s)) b + 0 ≤ suc n
alone a e s b n true w h k = omega arith
alone a e s b n false w h k = omega arith

own_most : (k : Kind) → own k ≤ 1
own_most CaseLine = omega arith
own_most _ = omega arith

-- no more statements stand round a line, with the `elif`s before it, than there are lines before it
pub within_lines : (k : Kind) (l : ℕ) (earlier : List Line) → around l earlier + elifs k l earlier ≤ length earlier
within_lines k l [] = omega arith
within_lines ElifLine l (x ∷ earlier) =
    beside l x.level (around x.level earlier) (elifs (kind_of x.form) x.level earlier) (own (kind_of x.form)) (around l earlier)
    (elifs ElifLine l earlier) (elifs (kind_of x.form) l earlier) (length earlier) _ _ _ refl refl refl
    (own_most (kind_of x.form)) (within_lines (kind_of x.form) x.level earlier) (within_lines ElifLine l earlier)
    (within_lines (kind_of x.form) l earlier)
within_lines ElseLine l (x ∷ earlier) =
    fewer l x.level _ _ _ _ (nat_lt l x.level) (x.level == l)
    (beside l x.level (around x.level earlier) (elifs (kind_of x.form) x.level earlier) (own (kind_of x.form)) (around l earlier)
    (elifs ElseLine l earlier) (elifs (kind_of x.form) l earlier) (length earlier) _ _ _ refl refl refl
    (own_most (kind_of x.form)) (within_lines (kind_of x.form) x.level earlier) (within_lines ElseLine l earlier)
    (within_lines (kind_of x.form) l earlier))
within_lines k l (x ∷ earlier) =
    let h = within_lines k l earlier in
    alone (around x.level earlier) (elifs (kind_of x.form) x.level earlier) (own (kind_of x.form)) (around l earlier)
    (length earlier) (nat_lt x.level l)
    (own_most (kind_of x.form)) (within_lines (kind_of x.form) x.level earlier) (omega (arith, h))

pub depth_within : (x : Line) (earlier : List Line)
    → (depth_of x (depths earlier)).round + (depth_of x (depths earlier)).arms ≤ length earlier
depth_within x earlier =
    let a = round_is x.level earlier in
    let b = arms_are (kind_of x.form) x.level earlier in
    let c = within_lines (kind_of x.form) x.level earlier in
    omega (arith, a, b, c)
