use Rattle.std.proofs.Common.{◌≡◌, ℕ, List, ◌++◌, length, take, drop}
use Rattle.std.specs.Prelude.{IsUtf8}
use Rattle.pylex.proofs.Texts.CursorLemmas.{with_blanks, Words}
use Rattle.pylex.proofs.cursor.numbers.Given as goal

abbrev pub invariant-loop-read : goal.invariant-loop-read
invariant-loop-read l = record {
  text : IsUtf8 l.rest;
  sized : length l.read-items ≡ 6;
  reads : (ns rest : List ℕ) → length ns ≡ 6 → Words ns → l.fn.text ≡ with_blanks ns ++ rest
      → (take l.read-index l.read-items ≡ take l.read-index ns) × (l.rest ≡ with_blanks (drop l.read-index ns) ++ rest);
}
