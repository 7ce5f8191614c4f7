use Rattle.std.proofs.Common.{◌≡◌, ℕ, ◌+◌, List, length, false}
use denote.Text.{Utf8}
use denote.Shadow.{shadow}
use Rattle.std.specs.Str.{chars}
use Rattle.pylex.specs.LineState.{HasRoom, Stands, Comes, Following}
use Rattle.pylex.proofs.peeked.next_entry.Given as goal

abbrev pub invariant-loop-class : goal.invariant-loop-class
invariant-loop-class l = record {
  utf8 : shadow (Utf8 l.rest);
  stands : Stands l.now l.rest;
  following_margin : l.now.margin ≡ false;
  comes : (levels : List ℕ) → Comes levels l.fn.now (chars l.fn.text) l.now (chars l.rest);
  room : (n : ℕ) → HasRoom l.fn.now (length l.fn.text + n) → HasRoom l.now (length l.rest + n);
  following : Following l.fn.text l.rest;
}

abbrev pub decreases-loop-class : goal.decreases-loop-class
decreases-loop-class l = length l.rest
