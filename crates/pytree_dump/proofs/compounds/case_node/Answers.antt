use Rattle.std.proofs.Common.{◌∙◌, ◌||◌, arith, refl, ap, codes}
use Rattle.pytree_node.specs.declared.statements.Case as given_case
use Rattle.pytree_node.specs.TreeOf.{case_of, pattern_of}
use Rattle.pytree_node.specs.Trees.{stmts}
use Rattle.pytree_dump_text.specs.Blocks.{shown_block}
use Rattle.pytree_dump_text.specs.Layout.{is_flat, is_short}
use Rattle.pytree_dump_text.specs.Shows.{Fields, Row, a_field, expr_field, no_field, shown_pattern, shown_stmts}
use Rattle.pytree_marked.proofs.Callers.Shortness.{led_line, pattern_marked}
use Rattle.pytree_dump.proofs.BlockLemmas.{case_shows}
use Rattle.pytree_dump.proofs.compounds.case_node.Goals as goal

pub returns : goal.returns
returns c =
    let s = c.args.style in
    let of = case_of c.args.case.now in
    let o = given_case.out-Case c.args.case.now in
    let e = case_shows s.profile c.args.case.now c.deref-body.result.now c.deref-body.ensures.value in
    let last : Fields = a_field (codes "body") (shown_block s.profile c.deref-body.result.now) no_field in
    let rest : Fields = expr_field (codes "guard") of.guard
    (a_field (codes "body") (Row (shown_stmts s.profile (stmts of.body))) no_field) in
    record {
      count = omega arith;
      marked = refl;
      class = refl;
      fields = ap (λ z. a_field (codes "pattern") (shown_pattern (pattern_of o.pattern)) z) (c.option_part.ensures last) ∙ e;
      line = λ ps line h. led_line _ _ line ps (codes "pattern") (shown_pattern of.pattern) rest (pattern_marked of.pattern) h
          (c.is_short_case.ensures ∙ ap (λ z. is_flat s.indent || is_short z) e);
    }
