use Rattle.std.proofs.Common.{◌∷◌, [], append_assoc, map, refl, sym}
use Rattle.pylex_lexeme.specs.declared.kinds.Exact.TheVariants.{Equal}
use Rattle.pytree_node.specs.TreeOf.{tree_of}
use Rattle.pygrammar.specs.declared.levels.Level.TheVariants.{Stars}
use Rattle.pytoken.specs.Terminals.{Op}
use Rattle.pyunparse_text.specs.Pieces.{piece, pieces}
use Rattle.pyunparse_text.specs.Statements.{targets}
use Rattle.pyunparse_text.specs.Written.{free}
use Rattle.pyunparse.specs.Inner.Assigned.{assigned}
use Rattle.pyunparse.proofs.Sequences.MemberLemmas.{all_parts, part_on}
use Rattle.pyunparse.proofs.statements.write_targets.Goals as goal

pub loop-target-preserved : goal.loop-target-preserved
loop-target-preserved g c = part_on g.W.Writer.after _ _ (λ xs. targets piece (map tree_of xs)) (λ x. assigned (tree_of x))
    (λ x xs. sym (append_assoc (pieces Stars (tree_of x)) (free piece (Op Equal) ∷ []) (targets piece (map tree_of xs))))
    c.args.targets.now _ _ _
    c.loop-target-test.true c.target-item.is c.loop-target.invariant c.in_ok-write_assigned.ensures

pub returns : goal.returns
returns g c = all_parts g.W.Writer.after _ c.loop-target.out (λ xs. targets piece (map tree_of xs)) refl c.args.targets.now _
    c.loop-target-test.false c.loop-target.invariant
