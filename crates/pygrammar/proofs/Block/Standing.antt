-- What a line finds at its level: the rules speak of earlier lines, the reading of groups.
--
-- Carries: stand, Free, AfterTry, AfterDecorator and 16 more, for Fitting,
-- Settling, Law. On: Steps.
use Rattle.std.proofs.Common.{◌≡◌, ℕ, ◌<◌, ◌≤◌, List, [], ◌∷◌, Bool, true, false, cond, refl, sym, ap, ◌∙◌, arith}
use Rattle.std.specs.Prelude.{nat_lt, ◌==◌}
use borrow.Author.Tests.{eqb-true, eq-eqb}
use Rattle.pygrammar.specs.Lines.{Line}
use Rattle.pygrammar.specs.Blocks.{Kind, DecoratorLine, IfLine, ElifLine, ElseLine, LoopLine, TryLine, ExceptLine, FinallyLine, kind_of}
use Rattle.pygrammar.specs.Blocks.{previous, begins_with, is_if_or_elif, is_except, takes_else, same_bool, takes_except, may_follow}
use Rattle.pygrammar.specs.Blocks.{is_match, stands_in_match, level_before}
use Rattle.pygrammar.specs.Reading.{Group, Idle, Marked, Choice, Loop, Trial, Caught, Settled, Matching}
use Rattle.pygrammar.proofs.Block.Steps.{not_less, is_less}

pub data Standing : Type 0 where
  Free : Standing
  AfterIf : Standing
  AfterLoop : Standing
  AfterTry : Standing
  AfterExcept : Bool → Standing
  AfterSettled : Standing
  AfterDecorator : Standing

-- what a line makes of what it found
abbrev pub after : Kind → Standing → Standing
after IfLine _ = AfterIf
after ElifLine _ = AfterIf
after ElseLine (AfterExcept _) = AfterSettled
after LoopLine _ = AfterLoop
after TryLine _ = AfterTry
after (ExceptLine star) _ = AfterExcept star
after DecoratorLine _ = AfterDecorator
after _ _ = Free

abbrev pub standing : ℕ → List Line → Standing
standing l [] = Free
standing l (x ∷ earlier) =
    cond (nat_lt l x.level) (standing l earlier) (cond (x.level == l) (after (kind_of x.form) (standing l earlier)) Free)

abbrev pub stand_of : List Line → Standing
stand_of [] = Free
stand_of (x ∷ more) = after (kind_of x.form) (standing x.level more)

abbrev pub stand : Group → Standing
stand Idle = Free
stand (Marked _) = AfterDecorator
stand (Choice _) = AfterIf
stand (Loop _ _) = AfterLoop
stand (Trial _) = AfterTry
stand (Caught star _ _) = AfterExcept star
stand (Settled _ _ _ _) = AfterSettled
stand (Matching _) = Free

abbrev pub is_after_except : Standing → Bool
is_after_except (AfterExcept _) = true
is_after_except _ = false

abbrev pub admits : Kind → Standing → Bool
admits ElifLine AfterIf = true
admits ElifLine _ = false
admits ElseLine AfterIf = true
admits ElseLine AfterLoop = true
admits ElseLine (AfterExcept _) = true
admits ElseLine _ = false
admits (ExceptLine star) AfterTry = true
admits (ExceptLine star) (AfterExcept other) = same_bool star other
admits (ExceptLine star) _ = false
admits FinallyLine AfterTry = true
admits FinallyLine (AfterExcept _) = true
admits FinallyLine AfterSettled = true
admits FinallyLine _ = false
admits _ _ = true

pub standing_is : (l : ℕ) (earlier : List Line) → standing l earlier ≡ stand_of (previous l earlier)
standing_is l [] = refl
standing_is l (x ∷ earlier) =
    elim (nat_lt l x.level) as (λ b. cond b (standing l earlier) (cond (x.level == l) (after (kind_of x.form) (standing l earlier)) Free)
    ≡ stand_of (cond b (previous l earlier) (cond (x.level == l) (x ∷ earlier) []))) [
      | true ↦ standing_is l earlier
      | false ↦ elim (x.level == l) as (λ b. x.level == l ≡ b → cond b (after (kind_of x.form) (standing l earlier)) Free ≡ stand_of
          (cond b (x ∷ earlier) [])) [
            | true ↦ λ e. let i : x.level ≡ l = eqb-true x.level l e in ap (λ z. after (kind_of x.form) (standing z earlier)) (sym i)
            | false ↦ λ e. refl
          ] refl
    ]

elif_of : (j : Kind) (s : Standing) → is_if_or_elif j ≡ admits ElifLine (after j s)
elif_of ElseLine (AfterExcept t) = refl
elif_of ElseLine _ = refl
elif_of _ s = refl

else_of : (j : Kind) (s : Standing) → takes_else j ≡ admits ElseLine (after j s)
else_of ElseLine (AfterExcept t) = refl
else_of ElseLine _ = refl
else_of _ s = refl

except_of : (star : Bool) (j : Kind) (s : Standing) → takes_except star j ≡ admits (ExceptLine star) (after j s)
except_of star ElseLine (AfterExcept t) = refl
except_of star ElseLine _ = refl
except_of star _ s = refl

is_except_of : (j : Kind) (s : Standing) → is_except j ≡ is_after_except (after j s)
is_except_of ElseLine (AfterExcept t) = refl
is_except_of ElseLine _ = refl
is_except_of _ s = refl

begins_except : (xs : List Line) → begins_with is_except xs ≡ is_after_except (stand_of xs)
begins_except [] = refl
begins_except (x ∷ more) = is_except_of (kind_of x.form) (standing x.level more)

settled_of : (s : Standing) → is_after_except s ≡ admits FinallyLine (after ElseLine s)
settled_of (AfterExcept t) = refl
settled_of _ = refl

finally_of : (j : Kind) (b : Bool) (s : Standing) → b ≡ is_after_except s →
    elim j [ TryLine ↦ true | ExceptLine _ ↦ true | ElseLine ↦ b | _ ↦ false ] ≡ admits FinallyLine (after j s)
finally_of ElseLine b s e = e ∙ settled_of s
finally_of _ b s e = refl

-- what the rules ask of the previous line
pub may_follow_is : (k : Kind) (l : ℕ) (earlier : List Line) → may_follow k (previous l earlier) ≡ admits k (standing l earlier)
may_follow_is k l earlier = follows k (previous l earlier) ∙ ap (admits k) (sym (standing_is l earlier))
  where
    follows : (k : Kind) (xs : List Line) → may_follow k xs ≡ admits k (stand_of xs)
    follows ElifLine [] = refl
    follows ElifLine (x ∷ more) = elif_of (kind_of x.form) (standing x.level more)
    follows ElseLine [] = refl
    follows ElseLine (x ∷ more) = else_of (kind_of x.form) (standing x.level more)
    follows (ExceptLine star) [] = refl
    follows (ExceptLine star) (x ∷ more) = except_of star (kind_of x.form) (standing x.level more)
    follows FinallyLine [] = refl
    follows FinallyLine (x ∷ more) = finally_of (kind_of x.form) (begins_with is_except (previous x.level more)) (standing x.level more)
        (begins_except (previous x.level more) ∙ ap is_after_except (sym (standing_is x.level more)))
    follows _ xs = refl

-- a `try` is the previous line
pub record TryAt (l : ℕ) (earlier : List Line) : Type 0 where
  pub first : Line
  pub more : List Line
  pub is : previous l earlier ≡ first ∷ more
  pub kind : kind_of first.form ≡ TryLine

pub try_stands : (l : ℕ) (earlier : List Line) (x : Line) (more : List Line) → previous l earlier ≡ x ∷ more → kind_of x.form ≡ TryLine
    → standing l earlier ≡ AfterTry
try_stands l earlier x more e k = standing_is l earlier ∙ ap stand_of e ∙ ap (λ j. after j (standing x.level more)) k

try_kind : (j : Kind) (s : Standing) → after j s ≡ AfterTry → j ≡ TryLine
try_kind TryLine s e = refl
try_kind ElseLine (AfterExcept t) e = cc
try_kind ElseLine _ e = cc
try_kind _ s e = cc

try_in : (l : ℕ) (earlier xs : List Line) → previous l earlier ≡ xs → stand_of xs ≡ AfterTry → TryAt l earlier
try_in l earlier [] h e = cc
try_in l earlier (x ∷ more) h e = record { first = x; more = more; is = h; kind = try_kind (kind_of x.form) (standing x.level more) e }

pub try_at : (l : ℕ) (earlier : List Line) → standing l earlier ≡ AfterTry → TryAt l earlier
try_at l earlier e = try_in l earlier (previous l earlier) refl (sym (standing_is l earlier) ∙ e)

-- nothing stands above the line before
pub standing_above : (l : ℕ) (earlier : List Line) → level_before earlier < l → standing l earlier ≡ Free
standing_above l [] h = refl
standing_above l (x ∷ earlier) h =
    ap (λ b. cond b (standing l earlier) (cond (x.level == l) (after (kind_of x.form) (standing l earlier)) Free))
    (not_less l x.level (omega arith))
    ∙ ap (λ b. cond b (after (kind_of x.form) (standing l earlier)) Free) (differs x.level l h)
  where
    differs : (a b : ℕ) → a < b → a == b ≡ false
    differs a b h = elim (a == b) as (λ c. a == b ≡ c → c ≡ false) [
      | true ↦ λ e. absurd (let i : a ≡ b = eqb-true a b e in omega arith)
      | false ↦ λ e. refl
    ] refl

pub standing_below : (l : ℕ) (x : Line) (earlier : List Line) → l < x.level → standing l (x ∷ earlier) ≡ standing l earlier
standing_below l x earlier h =
    ap (λ b. cond b (standing l earlier) (cond (x.level == l) (after (kind_of x.form) (standing l earlier)) Free)) (is_less l x.level h)

pub standing_here : (x : Line) (earlier : List Line) → standing x.level (x ∷ earlier) ≡ after (kind_of x.form) (standing x.level earlier)
standing_here x earlier =
    ap (λ b. cond b (standing x.level earlier) (cond (x.level == x.level) (after (kind_of x.form) (standing x.level earlier)) Free))
    (not_less x.level x.level (omega arith))
    ∙ ap (λ b. cond b (after (kind_of x.form) (standing x.level earlier)) Free) (eq-eqb x.level x.level refl)

-- ---- In a `match`.

pub place_following : (l : ℕ) (x : Line) (earlier : List Line) → l ≤ x.level → stands_in_match l (x ∷ earlier) ≡ stands_in_match l earlier
place_following l x earlier h = ap (λ b. cond b (is_match (kind_of x.form)) (stands_in_match l earlier)) (not_less x.level l h)

pub place_deeper : (l : ℕ) (x : Line) (earlier : List Line) → x.level < l → stands_in_match l (x ∷ earlier) ≡ is_match (kind_of x.form)
place_deeper l x earlier h = ap (λ b. cond b (is_match (kind_of x.form)) (stands_in_match l earlier)) (is_less x.level l h)
