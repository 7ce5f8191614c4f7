use Rattle.std.proofs.Common.{◌+◌, ◌≡◌, ◌++◌, ◌∷◌, [], arith, refl, rules, sym}
use Rattle.pygrammar.specs.LineReader.{name_alias}
use Rattle.pyparse_statement.specs.Inner.Imports.{more_names}
use Rattle.pyparse_nodes.specs.Views.{seen}
use Rattle.pyparse_statement.proofs.statements.ImportSteps.{alias_pushed}
use Rattle.pyparse_statement.proofs.Commas.{list_end, list_failed, list_last, list_more, list_start}
use Rattle.pyparse_statement.proofs.Recorders.Imports.{aliases_last, aliases_start, aliases_turn, aliases_end}
use Rattle.pyparse_statement.proofs.statements.aliases.name_aliases.Goals as goal

pub more-init : goal.more-init
more-init g c = record {
  ahead = omega arith;
  is = list_start c.args.tokens.now name_alias (more_names c.args.bracketed) c.args.at _ c.args.at c.requires (search rules) refl;
  grown = aliases_start (search rules);
}

pub returns-in_err-one-clause-answered : goal.returns-in_err-one-clause-answered
returns-in_err-one-clause-answered g c = let f = list_failed c.args.tokens.now name_alias (more_names c.args.bracketed) _ _
    c.more.next c.more.invariant.is
    c.in_err-one.field-0.0 c.in_err-one.ensures in
    search (rules, f)

pub returns-then-not-is_op-clause-answered : goal.returns-then-not-is_op-clause-answered
returns-then-not-is_op-clause-answered g c = let p : c.push.new.self.items ≡ c.more.aliases.items ++ (c.in_ok-one.one.alias ∷ []) =
    search rules in
    list_last c.args.tokens.now name_alias (more_names c.args.bracketed) _ _ c.more.next c.more.invariant.is _ _ _ c.in_ok-one.ensures _
    (alias_pushed c.more.aliases.items c.push.new.self.items c.in_ok-one.one.alias p) c.args.at _ refl
    (omega (arith, c.more.invariant.ahead, c.in_ok-one.ensures.ahead)) c.if-not-is_op.ensures

pub more-preserved : goal.more-preserved
more-preserved g c = let p : c.push.new.self.items ≡ c.more.aliases.items ++ (c.in_ok-one.one.alias ∷ []) = search rules in
    record {
      ahead = omega (arith, c.more.invariant.ahead, c.in_ok-one.ensures.ahead);
      is = list_more c.args.tokens.now name_alias (more_names c.args.bracketed) _ _ c.more.next c.more.invariant.is _ _ _
          c.in_ok-one.ensures _ (alias_pushed c.more.aliases.items c.push.new.self.items c.in_ok-one.one.alias p) c.if-not-is_op.ensures _
          refl (omega (arith, c.in_ok-one.ensures.ahead)) (sym c.if-not-more_names.ensures);
      grown = aliases_turn c.more.invariant.grown c.in_ok-one.ensures c.in_ok-node.ensures
          (alias_pushed c.more.aliases.items c.push.new.self.items c.in_ok-one.one.alias p) c.if-not-is_op.ensures;
    }

pub returns-then-not-more_names-clause-answered : goal.returns-then-not-more_names-clause-answered
returns-then-not-more_names-clause-answered g c = let p : c.push.new.self.items ≡ c.more.aliases.items ++ (c.in_ok-one.one.alias ∷ []) =
    search rules in
    list_end c.args.tokens.now name_alias (more_names c.args.bracketed) _ _ c.more.next c.more.invariant.is _ _ _ c.in_ok-one.ensures _
    (alias_pushed c.more.aliases.items c.push.new.self.items c.in_ok-one.one.alias p) c.if-not-is_op.ensures _ refl c.args.at
    (omega (arith, c.more.invariant.ahead, c.in_ok-one.ensures.ahead)) (sym c.if-not-more_names.ensures)

pub returns-then-not-is_op-clause-placed : goal.returns-then-not-is_op-clause-placed
returns-then-not-is_op-clause-placed g c = let p : c.push.new.self.items ≡ c.more.aliases.items ++ (c.in_ok-one.one.alias ∷ []) =
    search rules in
    aliases_last c.args.bracketed c.more.invariant.grown c.in_ok-one.ensures c.in_ok-node.ensures
    (alias_pushed c.more.aliases.items c.push.new.self.items c.in_ok-one.one.alias p) refl

pub returns-then-not-more_names-clause-placed : goal.returns-then-not-more_names-clause-placed
returns-then-not-more_names-clause-placed g c = let p : c.push.new.self.items ≡ c.more.aliases.items ++ (c.in_ok-one.one.alias ∷ []) =
    search rules in
    aliases_end (seen c.args.tokens.now (c.in_ok-one.one.next + 1)) c.args.bracketed c.more.invariant.grown c.in_ok-one.ensures
    c.in_ok-node.ensures c.if-not-is_op.ensures
    c.if-not-more_names.ensures
    (alias_pushed c.more.aliases.items c.push.new.self.items c.in_ok-one.one.alias p) refl
