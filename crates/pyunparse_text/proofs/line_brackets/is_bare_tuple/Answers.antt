use Rattle.std.proofs.Common.{◌≡◌, ◌∙◌, ap, arith, length, map, None, sym, ◌==◌}
use Rattle.pytree_node.specs.Trees.{exprs}
use Rattle.pytree_node.specs.TreeOf.{tree_of}
use Rattle.pytree_node.proofs.Callers.ExprShapes.{tuple_tree}
use Rattle.pyunparse_text.specs.Statements.{are_plain}
use Rattle.pyunparse_text.proofs.Texts.ShapeLemmas.{not_tuple}
use Rattle.pyunparse_text.proofs.Texts.BracketLemmas.{tuple_reads}
use Rattle.pyunparse_text.proofs.line_brackets.is_bare_tuple.Goals as goal

pub returns-in-Tuple : goal.returns-in-Tuple
returns-in-Tuple c =
    let e : c.in-Tuple.elts.len ≡ length c.in-Tuple.elts.items = omega (arith, c.in-Tuple.elts.ok.0) in
    rw (c.in-Tuple.is, tuple_tree)
    (tuple_reads c.in-Tuple.elts.items c.in-Tuple.ctx _ _ (c.is_empty.ensures ∙ ap (λ n. n == 0) e)
    (c.are_plain.ensures ∙ ap (λ z. are_plain (exprs (map tree_of z))) c.deref.ensures.value))

pub returns-in_default : goal.returns-in_default
returns-in_default c = sym (not_tuple c.args.e.now c.in_default.not-Tuple None)
