use Rattle.std.proofs.Common.{◌∙◌, arith}
use Rattle.std.specs.Str.Parse.{ParsesUnsigned, ExplainsUnsignedError, HasUnsignedDigitsIfOk}
use Rattle.clap.specs.Matches.{found_of}
use Rattle.clap.proofs.WalkLemmas.{one_text-rows}
use Rattle.pyast_words.proofs.WordsLemmas.{number_given, number_large, number_missed}
use Rattle.pyast_words.proofs.found.number_of.Goals as goal

pub returns-clause-given : goal.returns-clause-given
returns-clause-given c =
    number_given (λ bs r. ParsesUnsigned 64 10 bs r × ExplainsUnsignedError 10 bs r × HasUnsignedDigitsIfOk bs r) (λ t r h. h.0)
    c.args.largest _ c.in-Ok.number
    (λ e. let is = c.in-Ok.ensures.none (one_text-rows (found_of c.args.matches.now) c.args.option.now ∙ e) in cc)
    (λ t e. c.in-Ok.ensures.value t (one_text-rows (found_of c.args.matches.now) c.args.option.now ∙ e))
    (omega (arith, c.if-unwrap_or-from.false, c.unwrap_or.ensures, c.from.ensures))

pub returns-then-unwrap_or-from-clause-refused : goal.returns-then-unwrap_or-from-clause-refused
returns-then-unwrap_or-from-clause-refused c =
    number_large (λ bs r. ParsesUnsigned 64 10 bs r × ExplainsUnsignedError 10 bs r × HasUnsignedDigitsIfOk bs r) (λ t r h. h.0)
    c.args.largest _ c.in-Ok.number
    (λ e. let is = c.in-Ok.ensures.none (one_text-rows (found_of c.args.matches.now) c.args.option.now ∙ e) in cc)
    (λ t e. c.in-Ok.ensures.value t (one_text-rows (found_of c.args.matches.now) c.args.option.now ∙ e))
    (omega (arith, c.if-unwrap_or-from.true, c.unwrap_or.ensures, c.from.ensures))

pub returns-in_default-clause-refused : goal.returns-in_default-clause-refused
returns-in_default-clause-refused c =
    number_missed (λ bs r. ParsesUnsigned 64 10 bs r × ExplainsUnsignedError 10 bs r × HasUnsignedDigitsIfOk bs r) (λ t r h. h.0)
    c.args.largest _ c.in_default.field-0
    (λ e. let is = c.in_default.ensures.none (one_text-rows (found_of c.args.matches.now) c.args.option.now ∙ e) in cc)
    (λ t e. c.in_default.ensures.value t (one_text-rows (found_of c.args.matches.now) c.args.option.now ∙ e))
