use Rattle.pygrammar.specs.declared.levels.Level.TheVariants as level
use Rattle.pyparse_expr.proofs.Recorders.Wholes.{whole_at, whole_part}
use Rattle.pyparse_expr.proofs.expressions.read_at.Goals as goal

pub returns-in-Value-clause-placed : goal.returns-in-Value-clause-placed
returns-in-Value-clause-placed g c = whole_at g.R.Recorder.after _ _ c.args.tokens.now c.args.level level.Value c.args.at
    c.read_value.result c.in-Value.is
    c.read_value.ensures.placed

pub returns-in-Stars-clause-placed : goal.returns-in-Stars-clause-placed
returns-in-Stars-clause-placed g c = whole_at g.R.Recorder.after _ _ c.args.tokens.now c.args.level level.Stars c.args.at
    c.read_stars.result c.in-Stars.is
    c.read_stars.ensures.placed

pub returns-in-StarItem-clause-placed : goal.returns-in-StarItem-clause-placed
returns-in-StarItem-clause-placed g c = whole_at g.R.Recorder.after _ _ c.args.tokens.now c.args.level level.StarItem
    c.args.at c.read_star_item.result
    c.in-StarItem.is c.read_star_item.ensures.placed

pub returns-in-Elem-clause-placed : goal.returns-in-Elem-clause-placed
returns-in-Elem-clause-placed g c = whole_at g.R.Recorder.after _ _ c.args.tokens.now c.args.level level.Elem c.args.at
    c.read_elem.result c.in-Elem.is
    c.read_elem.ensures.placed

pub returns-in-Named-clause-placed : goal.returns-in-Named-clause-placed
returns-in-Named-clause-placed g c = whole_at g.R.Recorder.after _ _ c.args.tokens.now c.args.level level.Named c.args.at
    c.read_named.result c.in-Named.is
    c.read_named.ensures.placed

pub returns-in-Expression-clause-placed : goal.returns-in-Expression-clause-placed
returns-in-Expression-clause-placed g c = whole_at g.R.Recorder.after _ _ c.args.tokens.now c.args.level level.Expression c.args.at
    c.read_expression.result
    c.in-Expression.is c.read_expression.ensures.placed

pub returns-in-Or-clause-placed : goal.returns-in-Or-clause-placed
returns-in-Or-clause-placed g c = whole_at g.R.Recorder.after _ _ c.args.tokens.now c.args.level level.Or c.args.at c.climb.result
    c.in-Or.is c.climb.ensures.placed

pub returns-in-And-clause-placed : goal.returns-in-And-clause-placed
returns-in-And-clause-placed g c = whole_at g.R.Recorder.after _ _ c.args.tokens.now c.args.level level.And c.args.at
    c.climb-in-And.result c.in-And.is
    c.climb-in-And.ensures.placed

pub returns-in-Not-clause-placed : goal.returns-in-Not-clause-placed
returns-in-Not-clause-placed g c = whole_at g.R.Recorder.after _ _ c.args.tokens.now c.args.level level.Not c.args.at
    c.climb-in-Not.result c.in-Not.is
    c.climb-in-Not.ensures.placed

pub returns-in-Compare-clause-placed : goal.returns-in-Compare-clause-placed
returns-in-Compare-clause-placed g c = whole_at g.R.Recorder.after _ _ c.args.tokens.now c.args.level level.Compare c.args.at
    c.climb-in-Compare.result
    c.in-Compare.is c.climb-in-Compare.ensures.placed

pub returns-in-BitOr-clause-placed : goal.returns-in-BitOr-clause-placed
returns-in-BitOr-clause-placed g c = whole_at g.R.Recorder.after _ _ c.args.tokens.now c.args.level level.BitOr c.args.at
    c.climb-in-BitOr.result c.in-BitOr.is
    c.climb-in-BitOr.ensures.placed

pub returns-in-BitXor-clause-placed : goal.returns-in-BitXor-clause-placed
returns-in-BitXor-clause-placed g c = whole_at g.R.Recorder.after _ _ c.args.tokens.now c.args.level level.BitXor c.args.at
    c.climb-in-BitXor.result c.in-BitXor.is
    c.climb-in-BitXor.ensures.placed

pub returns-in-BitAnd-clause-placed : goal.returns-in-BitAnd-clause-placed
returns-in-BitAnd-clause-placed g c = whole_at g.R.Recorder.after _ _ c.args.tokens.now c.args.level level.BitAnd c.args.at
    c.climb-in-BitAnd.result c.in-BitAnd.is
    c.climb-in-BitAnd.ensures.placed

pub returns-in-Shift-clause-placed : goal.returns-in-Shift-clause-placed
returns-in-Shift-clause-placed g c = whole_at g.R.Recorder.after _ _ c.args.tokens.now c.args.level level.Shift c.args.at
    c.climb-in-Shift.result c.in-Shift.is
    c.climb-in-Shift.ensures.placed

pub returns-in-Sum-clause-placed : goal.returns-in-Sum-clause-placed
returns-in-Sum-clause-placed g c = whole_at g.R.Recorder.after _ _ c.args.tokens.now c.args.level level.Sum c.args.at
    c.climb-in-Sum.result c.in-Sum.is
    c.climb-in-Sum.ensures.placed

pub returns-in-Term-clause-placed : goal.returns-in-Term-clause-placed
returns-in-Term-clause-placed g c = whole_at g.R.Recorder.after _ _ c.args.tokens.now c.args.level level.Term c.args.at
    c.climb-in-Term.result c.in-Term.is
    c.climb-in-Term.ensures.placed

pub returns-in-Factor-clause-placed : goal.returns-in-Factor-clause-placed
returns-in-Factor-clause-placed g c = whole_at g.R.Recorder.after _ _ c.args.tokens.now c.args.level level.Factor c.args.at
    c.climb-in-Factor.result c.in-Factor.is
    c.climb-in-Factor.ensures.placed

pub returns-in-Power-clause-placed : goal.returns-in-Power-clause-placed
returns-in-Power-clause-placed g c = whole_at g.R.Recorder.after _ _ c.args.tokens.now c.args.level level.Power c.args.at
    c.climb-in-Power.result c.in-Power.is
    c.climb-in-Power.ensures.placed

pub returns-in-Await-clause-placed : goal.returns-in-Await-clause-placed
returns-in-Await-clause-placed g c = whole_at g.R.Recorder.after _ _ c.args.tokens.now c.args.level level.Await c.args.at
    c.climb-in-Await.result c.in-Await.is
    c.climb-in-Await.ensures.placed

pub returns-in-Primary-clause-placed : goal.returns-in-Primary-clause-placed
returns-in-Primary-clause-placed g c = whole_at g.R.Recorder.after _ _ c.args.tokens.now c.args.level level.Primary c.args.at
    c.read_primary.result c.in-Primary.is
    c.read_primary.ensures.placed

pub returns-in-Atom-clause-placed : goal.returns-in-Atom-clause-placed
returns-in-Atom-clause-placed g c = whole_at g.R.Recorder.after _ _ c.args.tokens.now c.args.level level.Atom c.args.at
    c.read_atom.result c.in-Atom.is
    c.read_atom.ensures.placed

pub returns-in-Slices-clause-placed : goal.returns-in-Slices-clause-placed
returns-in-Slices-clause-placed g c = whole_at g.R.Recorder.after _ _ c.args.tokens.now c.args.level level.Slices c.args.at
    c.read_slices.result c.in-Slices.is
    c.read_slices.ensures.placed

pub returns-in-Part-clause-placed : goal.returns-in-Part-clause-placed
returns-in-Part-clause-placed g c = whole_at g.R.Recorder.after _ _ c.args.tokens.now c.args.level level.Part c.args.at
    c.read_part.result c.in-Part.is
    (whole_part g.R.Recorder.after _ _ c.args.tokens.now c.args.at c.read_part.result c.read_part.ensures.placed)

pub returns-in-Slice-clause-placed : goal.returns-in-Slice-clause-placed
returns-in-Slice-clause-placed g c = whole_at g.R.Recorder.after _ _ c.args.tokens.now c.args.level level.Slice c.args.at
    c.read_slice.result c.in-Slice.is
    c.read_slice.ensures.placed

pub returns-in-Subject-clause-placed : goal.returns-in-Subject-clause-placed
returns-in-Subject-clause-placed g c = whole_at g.R.Recorder.after _ _ c.args.tokens.now c.args.level level.Subject c.args.at
    c.read_subject.result c.in-Subject.is
    c.read_subject.ensures.placed
