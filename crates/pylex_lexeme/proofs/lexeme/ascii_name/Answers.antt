use Rattle.std.proofs.Common.{◌≡◌, drop, refl, sym, ◌∙◌, ap}
use Rattle.unicode_ident.specs.Ident.{is_xid_continue}
use Rattle.pylex_lexeme.specs.Chars.{begins}
use Rattle.pylex_lexeme.specs.Inner.Frequent.{is_quote_or_wide}
use Rattle.pylex_lexeme.proofs.Fronts.Texts.{after_run}
use Rattle.pylex_lexeme.proofs.Fronts.Runs.{in_ascii}
use Rattle.pylex_lexeme.proofs.Lexemes.AsciiRuns.{ascii_name_takes}
use Rattle.pylex_lexeme.proofs.lexeme.ascii_name.Goals as goal

pub returns : goal.returns
returns c =
    let run : c.bump_ascii.new.self ≡ after_run (in_ascii is_xid_continue) (drop 1 c.args.text.now) =
    c.bump_ascii.ensures ∙ ap (after_run (in_ascii is_xid_continue)) c.bump.ensures.rest in
    rw run (ascii_name_takes c.args.text.now c.requires
    (ap (begins is_quote_or_wide) (sym run) ∙ c.if-has_quote_or_wide.ensures refl))
