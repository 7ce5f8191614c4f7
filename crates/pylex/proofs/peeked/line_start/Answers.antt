use Rattle.std.proofs.Common.{◌∙◌, refl, sym}
use Rattle.std.specs.Str.{chars}
use Rattle.std.proofs.lemmas.Bool.{and_right}
use Rattle.pylex.proofs.Listers.Finding.{settles_level, settles_same, indent_ahead, dedent_ahead, fault_mismatch}
use Rattle.pylex_lexeme.specs.Cuts.{begins_significant}
use Rattle.pylex.proofs.peeked.line_start.Goals as goal
use Rattle.pylex.proofs.peeked.line_start.Goals.{then-not-now-via-then-not-now, then-not-now-via-else-not-now+then-not-begins_significant}

pub returns-then-not-now-clause-settles : goal.returns-then-not-now-clause-settles
returns-then-not-now-clause-settles c = λ _. settles_same c.args.levels.now c.args.now.now (chars c.args.text.now)
    (elim c.then-not-now.branch [
      | then-not-now-via-then-not-now w ↦ rw w.if-not-now.true refl
      | then-not-now-via-else-not-now+then-not-begins_significant w ↦ and_right c.args.now.now.margin
          (begins_significant (chars c.args.text.now)) (sym w.begins_significant.ensures ∙ w.if-not-begins_significant.true)
    ])

pub returns-in-Level-clause-settles : goal.returns-in-Level-clause-settles
returns-in-Level-clause-settles c = λ _. settles_level c.args.levels.now c.args.now.now c.measured.result (chars c.args.text.now)
    c.if-not-now.false (sym c.if-not-begins_significant.ensures) c.in-Level.ensures c.measured.ensures.measured

pub returns-in-Indent-clause-finds : goal.returns-in-Indent-clause-finds
returns-in-Indent-clause-finds c = indent_ahead c.args.levels.now c.args.now.now (chars c.args.text.now) c.if-not-now.false
    (sym c.if-not-begins_significant.ensures) c.in-Indent.ensures

pub returns-in-Dedent-clause-finds : goal.returns-in-Dedent-clause-finds
returns-in-Dedent-clause-finds c = dedent_ahead c.args.levels.now c.args.now.now (chars c.args.text.now) c.if-not-now.false
    (sym c.if-not-begins_significant.ensures) c.in-Dedent.ensures

pub returns-in-Mismatch-clause-finds : goal.returns-in-Mismatch-clause-finds
returns-in-Mismatch-clause-finds c = fault_mismatch c.args.levels.now c.args.now.now (chars c.args.text.now) c.if-not-now.false
    (sym c.if-not-begins_significant.ensures) c.in-Mismatch.ensures
