use Rattle.std.proofs.Common.{◌≡◌, ◌<◌, ◌+◌, ℕ, List, ◌++◌, length, get_or, All, ◌^◌}
use Rattle.pylex.specs.Cursors.{with_commas}
use Rattle.pylex.specs.CursorTexts.{AreLevels}
use Rattle.pylex.proofs.Levels.LevelLemmas.{left_to_read, IsJoined, IsTextLeft, HasRead}
use Rattle.pylex.proofs.cursor.read_levels.Given as goal

abbrev pub decreases-loop-rest : goal.decreases-loop-rest
decreases-loop-rest l = left_to_read l.rest

abbrev pub invariant-loop-rest : goal.invariant-loop-rest
invariant-loop-rest l = record {
  text : IsTextLeft l.rest;
  some : HasRead l.rest l.levels.items;
  first : 0 < length l.levels.items → get_or l.levels.items 0 1 ≡ 0;
  ascending : (k : ℕ) → k + 1 < length l.levels.items → get_or l.levels.items k 0 < get_or l.levels.items (k + 1) 0;
  words : All (λ n. n < 2 ^ 64) l.levels.items;
  reads : (ns : List ℕ) → AreLevels ns → with_commas ns ≡ l.fn.text
      → (more : List ℕ) × (ns ≡ l.levels.items ++ more) × IsJoined l.rest more;
}
