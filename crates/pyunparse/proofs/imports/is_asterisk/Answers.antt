use Rattle.std.proofs.Common.{◌∙◌, ap, codes}
use Rattle.std.specs.Str.{bytes_eq}
use Rattle.pyunparse_text.proofs.Callers.Writing.{star_bytes}
use Rattle.pyunparse.proofs.imports.is_asterisk.Goals as goal

pub returns : goal.returns
returns c = c.eq.ensures ∙ ap (λ z. bytes_eq z (codes "*")) c.as_str.ensures.bytes ∙ star_bytes c.args.name.now
