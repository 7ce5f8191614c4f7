use Rattle.std.proofs.Common.{map, refl}
use Rattle.pylex_lexeme.specs.declared.kinds.Exact.TheVariants.{Comma}
use Rattle.pyunparse_text.specs.Statements.{one_name}
use Rattle.pyunparse_text.specs.Pieces.{piece}
use Rattle.pyunparse_text.specs.Written.{trailing}
use Rattle.pyunparse.proofs.Sequences.MemberLemmas.{all_items, item_on}
use Rattle.pyunparse.proofs.statements.write_names.Goals as goal

pub loop-name-preserved : goal.loop-name-preserved
loop-name-preserved g c = item_on g.W.Writer.after _ _ c.loop-name.first (trailing piece Comma) (λ xs. map (one_name piece) xs)
    (λ x. one_name piece x) (λ _ _. refl) c.args.names.now _ _ _ _
    c.loop-name-test.true c.name-item.is c.loop-name.invariant c.in_ok-put_between.ensures c.in_ok-put_name.ensures

pub returns : goal.returns
returns g c = all_items g.W.Writer.after _ c.loop-name.out c.loop-name.first (trailing piece Comma) (λ xs. map (one_name piece) xs) refl
    c.args.names.now _ c.loop-name-test.false c.loop-name.invariant
