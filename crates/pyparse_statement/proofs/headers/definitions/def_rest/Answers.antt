use Rattle.std.proofs.Common.{map, rules, subst}
use Rattle.pytree_node.specs.Trees.{Identifier}
use Rattle.pytree_node.specs.TreeOf.{type_param_of}
use Rattle.pygrammar.specs.LineReader.{function_rest}
use Rattle.pyparse_statement.specs.Answers.{HeaderAnswered}
use Rattle.pyparse_reads.specs.Readings.{reads}
use Rattle.pyparse_nodes.specs.Views.{seen}
use Rattle.pyparse_statement.proofs.headers.DefinitionSteps.{types_failed, types_found}
use Rattle.pyparse_statement.proofs.Recorders.Definitions.{def_placed}
use Rattle.pyparse_statement.proofs.headers.definitions.def_rest.Goals as goal

pub returns-in_err-types-clause-answered : goal.returns-in_err-types-clause-answered
returns-in_err-types-clause-answered g c = let f = types_failed c.args.tokens.now c.args.profile c.args.depth
    c.args.at _ c.in-Some.ensures.is
    (λ x tps r. function_rest (reads c.args.depth) c.args.is_async x tps r) c.in_err-types.field-0.0 c.in_err-types.ensures.answered in
    search (rules, f)

pub returns-clause-answered : goal.returns-clause-answered
returns-clause-answered g c = let h = subst (λ (x : Identifier). HeaderAnswered c.args.tokens.now c.in_ok-types.types.next
    (function_rest (reads c.args.depth) c.args.is_async x (map type_param_of c.in_ok-types.types.params.items)
    (seen c.args.tokens.now c.in_ok-types.types.next)) c.function_rest.result) c.in_ok-name.ensures c.function_rest.ensures.answered in
    types_found c.args.tokens.now c.args.profile c.args.depth c.args.at _ c.in-Some.ensures.is
    (λ x tps r. function_rest (reads c.args.depth) c.args.is_async x tps r) (map type_param_of c.in_ok-types.types.params.items)
    c.in_ok-types.types.next c.function_rest.result c.in_ok-types.ensures.answered h

pub returns-clause-placed : goal.returns-clause-placed
returns-clause-placed g c = def_placed g.R.Recorder.aside_count _ _ c.in-Some.ensures.is c.in_ok-types.types c.aside-aside.result
    c.recorded-recorded.result c.args.profile
    c.in_ok-types.ensures.placed c.aside-aside.ensures c.recorded-recorded.ensures (record { is = c.in_ok-set_aside.ensures })
    c.function_rest.result c.in_ok-name.ensures c.function_rest.ensures.placed
