use Rattle.std.proofs.Common.{◌∙◌, map, sym}
use Rattle.pytree_node.specs.Trees.{exprs, keywords}
use Rattle.pytree_node.specs.TreeOf.{keyword_of, tree_of}
use Rattle.pyunparse.proofs.Sequences.AloneLemmas.{lone_keywords, lone_no_keywords, not_lone_generator}
use Rattle.pyunparse.proofs.calls.is_lone.Goals as goal

pub returns-then-not-is_empty : goal.returns-then-not-is_empty
returns-then-not-is_empty c = lone_keywords (exprs (map tree_of c.args.args.now)) c.args.words.now
    (sym c.if-not-is_empty.true ∙ c.is_empty.ensures)

pub returns-then-count-ne1 : goal.returns-then-count-ne1
returns-then-count-ne1 c = sym (not_lone_generator c.args.args.now (keywords (map keyword_of c.args.words.now)) c.if-count-ne1.true)

pub returns : goal.returns
returns c = lone_no_keywords c.args.args.now c.args.words.now _ _ (sym c.if-not-is_empty.false ∙ c.is_empty.ensures) c.if-count-ne1.false
    c.index-args-0.is c.is_generator.ensures
