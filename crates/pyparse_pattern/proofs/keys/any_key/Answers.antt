use Rattle.std.proofs.Common.{◌∙◌, ap, arith, refl, Some}
use Rattle.pytoken.specs.TerminalOf.{terminal}
use Rattle.pyparse_nodes.specs.Views.{seen}
use Rattle.pyparse_reads.proofs.Callers.Looks.{front}
use Rattle.pyparse_pattern.proofs.KeySteps.{key_named, key_word}
use Rattle.pyparse_pattern.proofs.Recorders.Values.{key_literal, key_seen, key_single}
use Rattle.pyparse_pattern.proofs.keys.any_key.Goals as goal

pub returns-in-Some-Ident-clause-answered : goal.returns-in-Some-Ident-clause-answered
returns-in-Some-Ident-clause-answered g c =
    key_named c.args.tokens.now c.args.depth c.args.at c.requires _ _ c.dotted_key.result c.inner.ensures.room
    (c.in-Some-Ident.ensures.is ∙ ap (λ t. Some (terminal t)) c.in-Some-Ident.field-0-is) c.dotted_key.ensures.answered

pub returns-in-Some-Ident-clause-placed : goal.returns-in-Some-Ident-clause-placed
returns-in-Some-Ident-clause-placed g c =
    key_seen g.R.Recorder.after _ _ c.args.tokens.now (seen c.args.tokens.now c.args.at) _ c.args.at c.dotted_key.result
    (front c.args.tokens.now c.args.at _ (c.in-Some-Ident.ensures.is ∙ ap (λ t. Some (terminal t)) c.in-Some-Ident.field-0-is))
    (c.dotted_key.ensures.placed (omega arith) _ refl)

pub returns-in_ok-node-in-Some-Word-clause-answered : goal.returns-in_ok-node-in-Some-Word-clause-answered
returns-in_ok-node-in-Some-Word-clause-answered g c =
    key_word c.args.tokens.now c.args.depth c.args.at c.requires c.in-Some-Word.word _
    c.make_constant.result c.in-Some-Word.ensures.within (c.in-Some-Word.ensures.is ∙ ap (λ t. Some (terminal t)) c.in-Some-Word.field-0-is)
    c.in_ok-value-in-Some-Word.ensures c.make_constant.ensures

pub returns-in_ok-node-in-Some-Word-clause-placed : goal.returns-in_ok-node-in-Some-Word-clause-placed
returns-in_ok-node-in-Some-Word-clause-placed g c =
    key_single g.R.Recorder.after _ _ c.args.tokens.now c.args.at c.in-Some-Word.word _ c.make_constant.result
    c.in_ok-value-in-Some-Word.ensures
    (front c.args.tokens.now c.args.at _ (c.in-Some-Word.ensures.is ∙ ap (λ t. Some (terminal t)) c.in-Some-Word.field-0-is))
    c.make_constant.ensures c.in_ok-node-in-Some-Word.ensures

pub returns-in_default-clause-placed : goal.returns-in_default-clause-placed
returns-in_default-clause-placed g c =
    key_literal g.R.Recorder.after _ _ c.args.tokens.now c.args.at c.read_literal.result c.read_literal.ensures.placed
