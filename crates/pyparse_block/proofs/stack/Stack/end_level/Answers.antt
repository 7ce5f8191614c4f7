use Rattle.std.specs.Prelude.{option_to_list}
use Rattle.std.proofs.Common.{Option, List, ◌≡◌, ◌∷◌, ◌++◌, [], refl, sym, ap, ◌∙◌, map}
use Rattle.pytree_node.specs.declared.statements.Stmt.{Stmt}
use Rattle.pytree_node.specs.TreeOf.{stmt_of}
use Rattle.pygrammar.specs.FormOf.{header_of}
use Rattle.pygrammar.specs.Reading.{joined}
use Rattle.pygrammar.specs.Reading as reading
use Rattle.pyparse_block.specs.declared.groups.PartialBlock.{PartialBlock}
use Rattle.pyparse_block.specs.declared.stack.Waiting.{Waiting}
use Rattle.pyparse_block.specs.Values.{group_of, state_of}
use Rattle.pyparse_block.proofs.LevelLemmas.{level_ended}
use Rattle.pyparse_block.proofs.stack.Stack.end_level.Goals as goal

pub returns-clause-ended : goal.returns-clause-ended
returns-clause-ended c =
    let w = c.unwrap-part.result in
    let popped : c.args.self.now.below.items ≡ c.pop.new.self.items ++ w ∷ [] = c.pop.ensures.items
    ∙ ap (λ (o : Option Waiting). c.pop.new.self.items ++ option_to_list o) c.unwrap-part.ensures in
    let put = λ (p q : PartialBlock). joined (map stmt_of p.done.items) (group_of p.group) (header_of w.header)
    (map stmt_of q.done.items) in
    let fit = λ (l : List Stmt). joined (map stmt_of c.replace-done.new.dest.done.items) (group_of c.replace-done.new.dest.group)
    (header_of w.header) (map stmt_of l) in
    let puts = ap fit c.shrink_to_fit.ensures.items
    ∙ ap (λ (p : PartialBlock). put p c.replace-done.result) c.replace-done.ensures.after
    ∙ ap (put w.part) c.replace-done.ensures.value in
    level_ended (state_of c.args.self.now) c.args.self.now.below.items c.pop.new.self.items w (map stmt_of c.close.new.part.done.items) _ _
    refl popped c.if-self.false (sym c.if-is_matching.ensures) c.in_ok-close.ensures.closed
    (c.in_ok-grow.ensures.done ∙ ap (λ (p : reading.PartialBlock). p.done) puts) (c.in_ok-grow.ensures.group
    ∙ ap (λ (p : reading.PartialBlock). p.group) puts)
