use Rattle.std.proofs.Common.{◌||◌, arith, refl, ap, codes, ◌∙◌}
use Rattle.pytree_node.specs.TreeOf.{tree_of, option_of}
use Rattle.pytree_dump_text.specs.Layout.{is_flat, is_short}
use Rattle.pytree_dump_text.specs.Shows.{Fields, a_field, expr_field}
use Rattle.pytree_dump_text.specs.Shows.{shown}
use Rattle.pytree_dump_text.specs.Shows.{no_field}
use Rattle.pytree_marked.proofs.Callers.Shortness.{expr_marked, led_line}
use Rattle.pytree_marked.proofs.Callers.Shortness.{expr_marked, led_line}
use Rattle.pytree_dump.proofs.members.item_node.Goals as goal

pub returns : goal.returns
returns c =
    let x = shown (tree_of c.args.item.now.context_expr) in
    let rest : Fields = expr_field (codes "optional_vars") (option_of c.args.item.now.optional_vars) no_field in
    record {
      count = omega arith;
      marked = refl;
      class = refl;
      fields = ap (λ z. a_field (codes "context_expr") x z) (c.option_part-optional_vars.ensures no_field);
      line = λ ps line e. led_line _ _ line ps (codes "context_expr") x rest (expr_marked _) e
          (c.is_short_two.ensures ∙ ap (λ z. is_flat c.args.style.indent || is_short (a_field (codes "context_expr") x z))
          (c.option_part-optional_vars.ensures no_field));
    }
