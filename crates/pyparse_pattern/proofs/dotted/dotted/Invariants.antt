use Rattle.std.proofs.Common.{◌≡◌, ◌≤◌, ◌+◌, ◌-◌, ◌∷◌, length}
use Rattle.std.specs.Str.{chars}
use Rattle.unicode_normalization.specs.Forms.{nfkc}
use Rattle.pytoken.specs.Terminals.{Ident, Spelled}
use Rattle.pygrammar.specs.PatternReader.{dotted_from}
use Rattle.pyparse_nodes.specs.Views.{seen}
use Rattle.pyparse_pattern.proofs.Points.{Points}
use Rattle.pyparse_pattern.proofs.Recorders.Values.{DottedRead}
use Rattle.pyparse_pattern.proofs.dotted.dotted.Given as goal

abbrev pub invariant-points : goal.invariant-points
invariant-points g l = record {
  ahead : l.at ≤ l.e.next;
  is : Points l.tokens l.room (dotted_from l.room (nfkc (chars l.first)) (seen l.tokens l.at)) l.e;
  placed : l.at ≡ l.from + 1 → (x : Spelled) → x.form ≡ nfkc (chars l.first)
      → DottedRead g.R.Recorder.after l.tokens x (Ident x ∷ seen l.tokens l.at) l.from l.fn.recorder l.recorder l.e;
}

abbrev pub decreases-points : goal.decreases-points
decreases-points g l = length l.tokens - l.e.next
