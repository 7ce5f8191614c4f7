use Rattle.std.proofs.Common.{map, refl}
use Rattle.pylex_lexeme.specs.declared.kinds.Exact.TheVariants.{Comma}
use Rattle.pytree_node.specs.TreeOf.{type_param_of}
use Rattle.pyunparse_text.specs.Statements.{type_param}
use Rattle.pyunparse_text.specs.Pieces.{piece}
use Rattle.pyunparse_text.specs.Written.{trailing}
use Rattle.pyunparse.proofs.Sequences.MemberLemmas.{all_items, item_on}
use Rattle.pyunparse.proofs.types.write_listed_params.Goals as goal

pub loop-param-preserved : goal.loop-param-preserved
loop-param-preserved g c = item_on g.W.Writer.after _ _ c.loop-param.first (trailing piece Comma)
    (λ xs. map (type_param piece) (map type_param_of xs)) (λ x. type_param piece (type_param_of x)) (λ _ _. refl) c.args.params.now _ _ _ _
    c.loop-param-test.true c.param-item.is c.loop-param.invariant c.in_ok-put_between.ensures c.in_ok-write_type_param.ensures

pub returns : goal.returns
returns g c = all_items g.W.Writer.after _ c.loop-param.out c.loop-param.first (trailing piece Comma)
    (λ xs. map (type_param piece) (map type_param_of xs)) refl c.args.params.now _ c.loop-param-test.false c.loop-param.invariant
