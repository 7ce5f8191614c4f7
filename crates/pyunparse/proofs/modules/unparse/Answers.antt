use Rattle.std.proofs.Common.{◌∙◌, ◌++◌, map}
use Rattle.pytree_node.specs.Trees.{stmts}
use Rattle.pytree_node.specs.TreeOf.{module_of, stmt_of}
use Rattle.pyunparse_text.specs.Modules.{lines_of}
use Rattle.pyunparse_text.specs.Pieces.{piece}
use Rattle.pyunparse.specs.Inner.Lines.{in_utf8}
use Rattle.pyunparse.proofs.Texts.StatedLemmas.{gives_back}
use Rattle.pyunparse.proofs.modules.unparse.Goals as goal

pub returns-clause-text : goal.returns-clause-text
returns-clause-text c = c.into_text.ensures ∙ c.in_ok-write_stmts.ensures.text
    ∙ (λ i. (c.new-out.ensures i).text ++ in_utf8
    (lines_of piece (c.new-out.ensures i).level (stmts (map stmt_of (c.deref.ensures.value i)))))

pub returns-clause-round_trip : goal.returns-clause-round_trip
returns-clause-round_trip c = gives_back _ (module_of c.args.«module».now) (returns-clause-text c)
