-- How many statements are around the next line, counted line by line: what is kept is the last line of each level that later lines can be
-- in.
use Rattle.std.specs.Prelude.{ℕ, suc, ◌+◌, Bool, false, nat_lt, nat_le, ◌==◌, cond, List, [], ◌∷◌, Option, Some, None, option_map}
use Rattle.pygrammar.specs.Lines.{Line, Form, header_form}
use Rattle.pygrammar.specs.Blocks.{Kind, ElifLine, ElseLine, kind_of, header_kind}
use Rattle.pygrammar.specs.Refusals.{is_clause, own}

-- the last line of a level: how many statements are around it, how many `elif`s its `if` has up to it, and how many statements it is itself
pub record Depth : Type 0 where
  pub level : ℕ
  pub round : ℕ
  pub arms : ℕ
  pub own : ℕ

-- how many statements are around a line of this level; the deepest level comes first
abbrev pub round_at : ℕ → List Depth → ℕ
round_at l [] = 0
round_at l (d ∷ ds) = cond (nat_lt d.level l) (d.round + (d.arms + d.own)) (round_at l ds)

-- how many `elif`s the `if` of a line of this kind has up to the line
abbrev pub arms_at : Kind → ℕ → List Depth → ℕ
arms_at k l [] = 0
arms_at ElifLine l (d ∷ ds) = cond (nat_lt l d.level) (arms_at ElifLine l ds) (cond (d.level == l) (1 + d.arms) 0)
arms_at ElseLine l (d ∷ ds) = cond (nat_lt l d.level) (arms_at ElseLine l ds) (cond (d.level == l) d.arms 0)
arms_at _ l (d ∷ ds) = 0

-- the levels below this one
abbrev pub under : ℕ → List Depth → List Depth
under l [] = []
under l (d ∷ ds) = cond (nat_lt d.level l) (d ∷ ds) (under l ds)

-- a line as the last of its level
abbrev pub depth_of : Line → List Depth → Depth
depth_of x ds = record {
  level = x.level;
  round = round_at x.level ds;
  arms = arms_at (kind_of x.form) x.level ds;
  own = own (kind_of x.form);
}

-- one line more
abbrev pub counted : List Depth → Line → List Depth
counted ds x = depth_of x ds ∷ under x.level ds

abbrev pub count : List Depth → List Line → List Depth
count ds [] = ds
count ds (x ∷ xs) = count (counted ds x) xs

-- how many statements are around the innermost one that begins in a line, if one does, by how many are around the line and its `elif`s
abbrev pub begins : ℕ → ℕ → Form → Option ℕ
begins round arms (header_form h (Some suite)) = Some (round + (arms + own (header_kind h)))
begins round arms (header_form h None) = cond (is_clause (header_kind h)) None (Some (round + arms))
begins round arms _ = Some round

abbrev pub innermost : Line → List Depth → Option ℕ
innermost x ds = begins (depth_of x ds).round (depth_of x ds).arms x.form

-- the number of the first line in which a statement begins that has 500 around it
abbrev pub is_deep : Option ℕ → Bool
is_deep None = false
is_deep (Some n) = nat_le 500 n

abbrev pub first_deep : List Depth → List Line → Option ℕ
first_deep ds [] = None
first_deep ds (x ∷ xs) = cond (is_deep (innermost x ds)) (Some 0) (option_map suc (first_deep (counted ds x) xs))
