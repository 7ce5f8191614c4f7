use Rattle.std.proofs.Common.{◌≡◌, ◌++◌, ◌∷◌, [], arith, refl, rules}
use Rattle.pygrammar.specs.LineReader.{always, read_name}
use Rattle.pyparse_statement.proofs.Commas.{list_failed, list_last, list_more, list_start}
use Rattle.pyparse_statement.proofs.statements.names.read_names.Goals as goal

pub more-init : goal.more-init
more-init c = record {
  ahead = omega arith;
  is = list_start c.args.tokens.now read_name always c.args.at _ c.args.at c.requires (search rules) refl;
}

pub returns-in_err-one : goal.returns-in_err-one
returns-in_err-one c =
    let f = list_failed c.args.tokens.now read_name always _ _ c.more.next c.more.invariant.is
    c.in_err-one.field-0.0 c.in_err-one.ensures in
    search (rules, f)

pub returns-then-not-is_op : goal.returns-then-not-is_op
returns-then-not-is_op c =
    let p : c.push.new.self.items ≡ c.more.names.items ++ (c.in_ok-one.one.name ∷ []) = search rules in
    list_last c.args.tokens.now read_name always _ _ c.more.next c.more.invariant.is _ _ _ c.in_ok-one.ensures _ (p) c.args.at _ refl
    (omega (arith, c.more.invariant.ahead, c.in_ok-one.ensures.ahead)) c.if-not-is_op.ensures

pub more-preserved : goal.more-preserved
more-preserved c =
    let p : c.push.new.self.items ≡ c.more.names.items ++ (c.in_ok-one.one.name ∷ []) = search rules in
    record {
      ahead = omega (arith, c.more.invariant.ahead, c.in_ok-one.ensures.ahead);
      is = list_more c.args.tokens.now read_name always _ _ c.more.next c.more.invariant.is _ _ _ c.in_ok-one.ensures _ (p)
          c.if-not-is_op.ensures _ refl (omega (arith, c.in_ok-one.ensures.ahead)) refl;
    }
