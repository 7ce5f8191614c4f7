use Rattle.std.proofs.Common.{◌-◌, ◌+◌, arith, rules}
use Rattle.pyparse_nodes.specs.Views.{seen}
use Rattle.pyparse_pattern.specs.Inner.Values.{keys}
use Rattle.pyparse_pattern.proofs.Caps.{lower_failed, lower_found, lower_high}
use Rattle.pyparse_pattern.proofs.keys.read_key.Goals as goal

pub returns-in_err-key-clause-answered : goal.returns-in_err-key-clause-answered
returns-in_err-key-clause-answered g c =
    let f = lower_failed c.args.depth.room (c.args.depth.room - 1) c.in_err-key.field-0.0
    (keys c.args.depth (seen c.args.tokens.now c.args.at)) (omega arith) c.in_err-key.ensures.answered in
    search (rules, f)

pub returns-then-key-depth-clause-answered : goal.returns-then-key-depth-clause-answered
returns-then-key-depth-clause-answered g c =
    lower_high c.args.tokens.now c.args.depth.room (c.args.depth.room - 1) (c.args.at + 1)
    (keys c.args.depth (seen c.args.tokens.now c.args.at)) c.in_ok-key.key c.in_ok-key.ensures.answered (omega (arith, c.requires.room))

pub returns-clause-answered : goal.returns-clause-answered
returns-clause-answered g c = lower_found c.args.tokens.now c.args.depth.room (c.args.depth.room - 1) (c.args.at + 1)
    (keys c.args.depth (seen c.args.tokens.now c.args.at)) c.in_ok-key.key c.in_ok-key.ensures.answered (omega (arith, c.requires.room))

pub returns-clause-placed : goal.returns-clause-placed
returns-clause-placed g c = c.in_ok-key.ensures.placed
