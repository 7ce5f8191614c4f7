use Rattle.std.proofs.Common.{◌≡◌, ◌++◌, ◌∷◌, [], arith, refl, rules}
use Rattle.pygrammar.specs.LineReader.{always, dotted_alias}
use Rattle.pyparse_statement.proofs.statements.ImportSteps.{alias_pushed}
use Rattle.pyparse_statement.proofs.Commas.{list_failed, list_last, list_more, list_start}
use Rattle.pyparse_statement.proofs.Recorders.Imports.{dotted_last, dotted_start, dotted_turn}
use Rattle.pyparse_statement.proofs.statements.aliases.dotted_aliases.Goals as goal

pub more-init : goal.more-init
more-init g c = record {
  ahead = omega arith;
  is = list_start c.args.tokens.now dotted_alias always c.args.at _ c.args.at c.requires (search rules) refl;
  grown = dotted_start (search rules);
}

pub returns-in_err-one-clause-answered : goal.returns-in_err-one-clause-answered
returns-in_err-one-clause-answered g c = let f = list_failed c.args.tokens.now dotted_alias always _ _ c.more.next c.more.invariant.is
    c.in_err-one.field-0.0 c.in_err-one.ensures in
    search (rules, f)

pub returns-then-not-is_op-clause-answered : goal.returns-then-not-is_op-clause-answered
returns-then-not-is_op-clause-answered g c = let p : c.push.new.self.items ≡ c.more.aliases.items ++ (c.in_ok-one.one.alias ∷ []) =
    search rules in
    list_last c.args.tokens.now dotted_alias always _ _ c.more.next c.more.invariant.is _ _ _ c.in_ok-one.ensures _
    (alias_pushed c.more.aliases.items c.push.new.self.items c.in_ok-one.one.alias p) c.args.at _ refl
    (omega (arith, c.more.invariant.ahead, c.in_ok-one.ensures.ahead)) c.if-not-is_op.ensures

pub more-preserved : goal.more-preserved
more-preserved g c = let p : c.push.new.self.items ≡ c.more.aliases.items ++ (c.in_ok-one.one.alias ∷ []) = search rules in
    record {
      ahead = omega (arith, c.more.invariant.ahead, c.in_ok-one.ensures.ahead);
      is = list_more c.args.tokens.now dotted_alias always _ _ c.more.next c.more.invariant.is _ _ _ c.in_ok-one.ensures _
          (alias_pushed c.more.aliases.items c.push.new.self.items c.in_ok-one.one.alias p) c.if-not-is_op.ensures _ refl
          (omega (arith, c.in_ok-one.ensures.ahead)) refl;
      grown = dotted_turn c.more.invariant.grown c.in_ok-one.ensures c.in_ok-node.ensures
          (alias_pushed c.more.aliases.items c.push.new.self.items c.in_ok-one.one.alias p) c.if-not-is_op.ensures;
    }

pub returns-then-not-is_op-clause-placed : goal.returns-then-not-is_op-clause-placed
returns-then-not-is_op-clause-placed g c = let p : c.push.new.self.items ≡ c.more.aliases.items ++ (c.in_ok-one.one.alias ∷ []) =
    search rules in
    dotted_last c.more.invariant.grown c.in_ok-one.ensures c.in_ok-node.ensures (alias_pushed c.more.aliases.items c.push.new.self.items
    c.in_ok-one.one.alias p) refl
