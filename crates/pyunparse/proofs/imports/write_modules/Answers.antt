use Rattle.std.proofs.Common.{map, refl}
use Rattle.pylex_lexeme.specs.declared.kinds.Exact.TheVariants.{Comma}
use Rattle.pytree_node.specs.TreeOf.{alias_of}
use Rattle.pyunparse_text.specs.Statements.{dotted_alias}
use Rattle.pyunparse_text.specs.Pieces.{piece}
use Rattle.pyunparse_text.specs.Written.{trailing}
use Rattle.pyunparse.proofs.Sequences.MemberLemmas.{all_items, item_on}
use Rattle.pyunparse.proofs.imports.write_modules.Goals as goal

pub loop-alias-preserved : goal.loop-alias-preserved
loop-alias-preserved g c = item_on g.W.Writer.after _ _ c.loop-alias.first (trailing piece Comma)
    (λ xs. map (dotted_alias piece) (map alias_of xs)) (λ x. dotted_alias piece (alias_of x)) (λ _ _. refl) c.args.names.now _ _ _ _
    c.loop-alias-test.true c.alias-item.is c.loop-alias.invariant c.in_ok-put_between.ensures c.in_ok-write_module_alias.ensures

pub returns : goal.returns
returns g c = all_items g.W.Writer.after _ c.loop-alias.out c.loop-alias.first (trailing piece Comma)
    (λ xs. map (dotted_alias piece) (map alias_of xs)) refl c.args.names.now _ c.loop-alias-test.false c.loop-alias.invariant
