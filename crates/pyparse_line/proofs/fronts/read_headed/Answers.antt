use Rattle.pyparse_line.proofs.Recorders.Fronts.{headed_placed}
use Rattle.pyparse_line.proofs.fronts.read_headed.Goals as goal

pub returns-clause-placed : goal.returns-clause-placed
returns-clause-placed g c = headed_placed c.recorded-following.result c.in_ok-header.ensures.placed c.recorded-following.ensures
    c.in_ok-suite.ensures.placed
    c.headed_form.ensures.form c.headed_form.ensures.next c.headed_form.ensures.before c.headed_form.ensures.following
