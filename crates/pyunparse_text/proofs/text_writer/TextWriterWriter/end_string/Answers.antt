use Rattle.pyunparse_text.proofs.Texts.StringLemmas.{string_ends}
use Rattle.pyunparse_text.proofs.text_writer.TextWriterWriter.end_string.Goals as goal

pub returns : goal.returns
returns c s es h e = string_ends s c.args.self.now _ c.args.in_field es h e c.in_ok-push_quote.ensures
