use Rattle.std.proofs.Common.{map, refl}
use Rattle.pylex_lexeme.specs.declared.kinds.Exact.TheVariants.{Comma}
use Rattle.pytree_node.specs.TreeOf.{item_of}
use Rattle.pyunparse_text.specs.Statements.{item}
use Rattle.pyunparse_text.specs.Pieces.{piece}
use Rattle.pyunparse_text.specs.Written.{trailing}
use Rattle.pyunparse.proofs.Sequences.MemberLemmas.{all_items, item_on}
use Rattle.pyunparse.proofs.headers.write_items.Goals as goal

pub loop-item-preserved : goal.loop-item-preserved
loop-item-preserved g c = item_on g.W.Writer.after _ _ c.loop-item.first (trailing piece Comma) (λ xs. map (item piece) (map item_of xs))
    (λ x. item piece (item_of x)) (λ _ _. refl) c.args.items.now _ _ _ _
    c.loop-item-test.true c.item-item.is c.loop-item.invariant c.in_ok-put_between.ensures c.in_ok-write_item.ensures

pub returns : goal.returns
returns g c = all_items g.W.Writer.after _ c.loop-item.out c.loop-item.first (trailing piece Comma)
    (λ xs. map (item piece) (map item_of xs)) refl c.args.items.now _ c.loop-item-test.false c.loop-item.invariant
