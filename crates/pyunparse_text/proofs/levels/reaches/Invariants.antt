use Rattle.std.proofs.Common.{◌≡◌, ◌-◌}
use Rattle.pyunparse_text.specs.Levels.{leads, reaches}
use Rattle.pyunparse_text.proofs.levels.reaches.Given as goal

abbrev pub invariant-loop : goal.invariant-loop
invariant-loop l = leads (19 - l.counter) l.level l.own ≡ reaches l.fn.place l.own
