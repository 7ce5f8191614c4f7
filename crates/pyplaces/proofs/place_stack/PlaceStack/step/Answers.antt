use Rattle.pygrammar.specs.FormOf.{form_of}
use Rattle.pygrammar.specs.Lines.{line}
use Rattle.pyplaces.specs.StateOf.{places_of}
use Rattle.pyplaces.proofs.StackLemmas.{follows_on}
use Rattle.pyplaces.proofs.place_stack.PlaceStack.step.Goals as goal

pub returns-in-Ok-clause-follows : goal.returns-in-Ok-clause-follows
returns-in-Ok-clause-follows c = λ xs zs k.
    follows_on xs zs c.args.self.now c.take.new.self (line c.args.level (form_of c.args.form.now))
    (places_of c.args.given.now) k c.in-Ok.ensures
