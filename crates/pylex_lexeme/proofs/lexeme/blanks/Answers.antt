use Rattle.std.proofs.Common.{◌≡◌, drop, ◌∙◌, ap}
use Rattle.pylex_lexeme.specs.Chars.{is_blank_char}
use Rattle.pylex_lexeme.proofs.Fronts.Texts.{after_run}
use Rattle.pylex_lexeme.proofs.Fronts.Runs.{in_ascii}
use Rattle.pylex_lexeme.proofs.Lexemes.AsciiRuns.{ascii_blanks_take}
use Rattle.pylex_lexeme.proofs.lexeme.blanks.Goals as goal

pub returns : goal.returns
returns c =
    let run : c.bump_ascii.new.self ≡ after_run (in_ascii is_blank_char) (drop 1 c.args.text.now) =
    c.bump_ascii.ensures ∙ ap (after_run (in_ascii is_blank_char)) c.bump.ensures.rest in
    rw run (ascii_blanks_take c.args.text.now c.requires)
