-- The lines that decide the encoding of a source, where the bytes read so far hold them.
use Rattle.std.specs.Prelude.{◌≡◌, ◌⊎◌, ℕ, ◌+◌, ◌-◌, ◌≤◌, Bool, true, false, List, ◌++◌, length, take, drop, Result, Ok, Err}
use Rattle.pysource.specs.Cookies.{without_mark}
use Rattle.pysource.specs.Sources.{nth_line}
use Rattle.pysource.specs.Streams.{FollowsAt, searches_second, decides, head_len}
use Rattle.pysource.specs.declared.buffers.Intake.{Intake}
use Rattle.pysource.specs.declared.line_reader.Reach.TheVariants.{Reading, End, Broken, Passed}
use Rattle.pysource.specs.declared.line_reader.StreamFault.{StreamFault}
use Rattle.pysource.specs.declared.line_reader.StreamFault.TheVariants.{UnsupportedEncoding, BomConflict, Read, Memory}

-- Where the first line ends, and the second: whatever follows. Where the second isn't searched, its end is of no account.
pub record Head (i : Intake) (first second : ℕ) : Type 0 where
  pub low : first ≤ second
  pub high : second ≤ length i.buffer
  pub reach : (i.reach ≡ Reading) ⊎ (i.reach ≡ End)
  pub first_is : (more : List ℕ) (broken : Bool) → FollowsAt i.reach more broken → nth_line (i.buffer ++ more) 0 ≡ take first i.buffer
  pub second_is : (more : List ℕ) (broken : Bool) → FollowsAt i.reach more broken →
      (nth_line (i.buffer ++ more) 1 ≡ take (second - first) (drop first i.buffer)) ⊎ (searches_second (take first i.buffer) ≡ false)
  pub decided : (more : List ℕ) (broken : Bool) → FollowsAt i.reach more broken → decides broken (i.buffer ++ more) ≡ true
  pub mark : (more : List ℕ) (broken : Bool) → FollowsAt i.reach more broken
      → without_mark (i.buffer ++ more) ≡ without_mark i.buffer ++ more
  pub ahead : length i.buffer ≤ 8_192 + head_len i.buffer

-- one of them could not be read whole
pub record Headless (i : Intake) : Type 0 where
  pub reach : (i.reach ≡ Broken) ⊎ (i.reach ≡ Passed)
  pub undecided : decides true i.buffer ≡ false

abbrev pub FoundHeads : Intake → Result (ℕ × ℕ) StreamFault → Type 0
FoundHeads i (Ok (first, second)) = Head i first second
FoundHeads i (Err Read) = Headless i
FoundHeads i (Err Memory) = i.reach ≡ Reading
FoundHeads i (Err (UnsupportedEncoding place)) = ⊥
FoundHeads i (Err (BomConflict place)) = ⊥
