-- Carries: drop_from, LastLines. On: where a line stands, by the last lines of the levels below it.
use Rattle.std.proofs.Common.{◌≡◌, ℕ, ◌<◌, ◌≤◌, Bool, true, false, cond, List, [], ◌∷◌, ◌++◌, reverse, refl, ap, ◌∙◌}
use Rattle.std.specs.Prelude.{nat_lt}
use borrow.Author.Tests.{ltb-false}
use Rattle.std.proofs.lemmas.List.{reverse-append}
use Rattle.pygrammar.specs.Lines.{Line, line, Form}
use Rattle.pygrammar.specs.Blocks.{is_match, kind_of, stands_in_match}
use Rattle.pygrammar.proofs.Callers.Blocks.{is_less, not_less}
use Rattle.pyparse_block.specs.declared.last_lines.Last.{Last}
use Rattle.pyparse_block.specs.declared.last_lines.LastLines.{LastLines}
use Rattle.pyparse_block.specs.LastLines.{stands_following, HoldsLastLines}

-- the deepest comes first
stands_first : (l : ℕ) (xs : List Last) (x : Last) → stands_following l (reverse (xs ++ x ∷ [])) ≡ cond (nat_lt x.level l) x.is_match
    (stands_following l (reverse xs))
stands_first l xs x = ap (stands_following l) (reverse-append xs (x ∷ []))

-- a line in whose block it can't stand, and one in whose block it does
pub stands_lower : (l : ℕ) (xs : List Last) (x : Last) → l ≤ x.level
    → stands_following l (reverse (xs ++ x ∷ [])) ≡ stands_following l (reverse xs)
stands_lower l xs x h = stands_first l xs x ∙ ap (λ b. cond b x.is_match (stands_following l (reverse xs))) (not_less x.level l h)

pub stands_here : (l : ℕ) (xs : List Last) (x : Last) → x.level < l → stands_following l (reverse (xs ++ x ∷ [])) ≡ x.is_match
stands_here l xs x h = stands_first l xs x ∙ ap (λ b. cond b x.is_match (stands_following l (reverse xs))) (is_less x.level l h)

-- one line more
pub holds_next : (level : ℕ) (header : Bool) (f : Form) (earlier : List Line) (old new : LastLines) (lower : List Last)
    → header ≡ is_match (kind_of f) →
    ((l : ℕ) → l ≤ level → stands_following l (reverse lower) ≡ stands_following l (reverse old.lasts.items)) →
    new.lasts.items ≡ lower ++ record { level = level; is_match = header } ∷ [] → HoldsLastLines earlier old
    → HoldsLastLines (line level f ∷ earlier) new
holds_next level header f earlier old new lower is low more was =
    record {
      stands =
          λ l.
          ap (λ (xs : List Last). stands_following l (reverse xs)) more ∙ stands_first l lower (record { level = level; is_match = header })
          ∙ elim (nat_lt level l) as (λ b. nat_lt level l ≡ b → cond b header (stands_following l (reverse lower)) ≡ cond b
          (is_match (kind_of f)) (stands_in_match l earlier)) [
            | true ↦ λ e. is
            | false ↦ λ e. low l (ltb-false level l e) ∙ was.stands l
          ] refl;
    }

-- where a line stands
pub ruleset last_lines = (stands_lower, stands_here)
