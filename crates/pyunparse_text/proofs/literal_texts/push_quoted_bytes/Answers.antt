use Rattle.pyunparse_text.proofs.Texts.EncodedLemmas.{literal_from}
use Rattle.pyunparse_text.proofs.literal_texts.push_quoted_bytes.Goals as goal

pub returns : goal.returns
returns c = literal_from _ c.args.bytes.now _ _ _ c.in_ok-push_str.ensures.bytes c.in_ok-push_field_bytes.ensures c.in_ok-push.ensures.bytes
