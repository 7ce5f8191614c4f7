use Rattle.std.proofs.Common.{refl}
use Rattle.pytoken.specs.TerminalOf.{terminal}
use Rattle.pyparse_reads.specs.Readings.{reads}
use Rattle.pyparse_pattern.specs.Answers as patterns
use Rattle.pyparse_line.specs.declared.openings.Opening.TheVariants as kind
use Rattle.pyparse_line.proofs.FrontSteps.{front_answered}
use Rattle.pyparse_line.proofs.Recorders.Fronts.{cases, decorates, inside_placed, matches, other, other_placed}
use Rattle.pyparse_line.proofs.fronts.read_front.Goals as goal

pub returns-in-Decorates-clause-answered : goal.returns-in-Decorates-clause-answered
returns-in-Decorates-clause-answered g c = front_answered c.args.profile (reads c.args.depth) (patterns.reads c.args.depth)
    c.args.inside c.args.tokens.now
    (terminal c.in-Some.first) c.in-Some.ensures.is kind.Decorates 1 c.read_decorator.result c.in-Decorates.ensures
    c.read_decorator.ensures.answered

pub returns-in-Heads-clause-answered : goal.returns-in-Heads-clause-answered
returns-in-Heads-clause-answered g c = front_answered c.args.profile (reads c.args.depth) (patterns.reads c.args.depth)
    c.args.inside c.args.tokens.now
    (terminal c.in-Some.first) c.in-Some.ensures.is kind.Heads 0 c.read_headed.result c.in-Heads.ensures c.read_headed.ensures.answered

pub returns-in-Matches-clause-answered : goal.returns-in-Matches-clause-answered
returns-in-Matches-clause-answered g c = front_answered c.args.profile (reads c.args.depth) (patterns.reads c.args.depth)
    c.args.inside c.args.tokens.now
    (terminal c.in-Some.first) c.in-Some.ensures.is kind.Matches 2 c.match_rest.result c.in-Matches.ensures c.match_rest.ensures.answered

pub returns-in-Cases-clause-answered : goal.returns-in-Cases-clause-answered
returns-in-Cases-clause-answered g c = front_answered c.args.profile (reads c.args.depth) (patterns.reads c.args.depth)
    c.args.inside c.args.tokens.now
    (terminal c.in-Some.first) c.in-Some.ensures.is kind.Cases 1 c.read_case.result c.in-Cases.ensures c.read_case.ensures.answered

pub returns-in-States-clause-answered : goal.returns-in-States-clause-answered
returns-in-States-clause-answered g c = front_answered c.args.profile (reads c.args.depth) (patterns.reads c.args.depth)
    c.args.inside c.args.tokens.now
    (terminal c.in-Some.first) c.in-Some.ensures.is kind.States 1 c.read_simple.result c.in-States.ensures c.read_simple.ensures.answered

pub returns-in-Decorates-clause-placed : goal.returns-in-Decorates-clause-placed
returns-in-Decorates-clause-placed g c =
    other_placed g.R.Recorder.after g.R.Recorder.recorded_count c.args.tokens.now c.args.profile c.args.inside _ _
    c.read_decorator.result (other c.args.profile c.args.inside c.args.tokens.now (terminal c.in-Some.first)
    c.in-Some.ensures.is kind.Decorates tt c.in-Decorates.ensures)
    (c.read_decorator.ensures.placed c.args.profile (decorates c.args.profile c.args.inside c.args.tokens.now (terminal c.in-Some.first)
    c.in-Some.ensures.is c.in-Decorates.ensures))

pub returns-in-Heads-clause-placed : goal.returns-in-Heads-clause-placed
returns-in-Heads-clause-placed g c =
    other_placed g.R.Recorder.after g.R.Recorder.recorded_count c.args.tokens.now c.args.profile c.args.inside _ _
    c.read_headed.result (other c.args.profile c.args.inside c.args.tokens.now (terminal c.in-Some.first)
    c.in-Some.ensures.is kind.Heads tt c.in-Heads.ensures)
    c.read_headed.ensures.placed

pub returns-in-Matches-clause-placed : goal.returns-in-Matches-clause-placed
returns-in-Matches-clause-placed g c = let m = matches c.args.profile c.args.inside c.args.tokens.now (terminal c.in-Some.first)
    c.in-Some.ensures.is c.in-Matches.ensures in
    other_placed g.R.Recorder.after g.R.Recorder.recorded_count c.args.tokens.now c.args.profile c.args.inside _ _ c.match_rest.result
    (other c.args.profile c.args.inside c.args.tokens.now (terminal c.in-Some.first) c.in-Some.ensures.is
    kind.Matches tt c.in-Matches.ensures)
    (c.match_rest.ensures.placed c.args.profile m.form m.whole refl m.is)

pub returns-in-Cases-clause-placed : goal.returns-in-Cases-clause-placed
returns-in-Cases-clause-placed g c = let m = cases c.args.profile c.args.inside c.args.tokens.now (terminal c.in-Some.first)
    c.in-Some.ensures.is c.in-Cases.ensures in
    inside_placed g.R.Recorder.after g.R.Recorder.recorded_count c.args.tokens.now c.args.profile c.args.inside _ _ c.read_case.result m.0
    (c.read_case.ensures.placed m.1.form m.1.whole refl m.1.is)

pub returns-in-States-clause-placed : goal.returns-in-States-clause-placed
returns-in-States-clause-placed g c =
    other_placed g.R.Recorder.after g.R.Recorder.recorded_count c.args.tokens.now c.args.profile c.args.inside _ _
    c.read_simple.result (other c.args.profile c.args.inside c.args.tokens.now (terminal c.in-Some.first)
    c.in-Some.ensures.is kind.States tt c.in-States.ensures)
    c.read_simple.ensures.placed
