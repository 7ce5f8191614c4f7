use Rattle.pylex_lexeme.proofs.Strings.StringBest.{which_mark}
use Rattle.pylex_lexeme.specs.Strings.{quote_char}
use Rattle.pylex_lexeme.proofs.Strings.StringLongest.{string_closed}
use Rattle.pylex_lexeme.proofs.string.prefix_and_quoted.Goals as goal

pub returns : goal.returns
returns c = string_closed (quote_char c.quote_here-quote.result) c.args.prefix_len c.args.text.now _ _ _
    (which_mark c.quote_here-quote.result) c.requires c.bump_count.ensures c.quote_here-quote.ensures c.quoted.ensures
