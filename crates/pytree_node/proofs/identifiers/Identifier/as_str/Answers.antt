use Rattle.std.proofs.Common.{◌≡◌, ◌∙◌, ap, sym, rules}
use Rattle.std.specs.Str.{chars, encode_utf8_all}
use Rattle.std.proofs.lemmas.Str.{encodes-chars}
use Rattle.pytree_node.proofs.identifiers.Identifier.as_str.Goals as goal

pub returns-in-Inline-clause-bytes : goal.returns-in-Inline-clause-bytes
returns-in-Inline-clause-bytes c =
    let same : chars c.from_utf8_unchecked.result.now ≡ c.args.self.now = search rules in
    sym (encodes-chars _ c.from_utf8_unchecked.utf8) ∙ ap encode_utf8_all same

pub returns-in-Allocated-clause-bytes : goal.returns-in-Allocated-clause-bytes
returns-in-Allocated-clause-bytes c =
    let same : chars c.as_str.result.now ≡ c.args.self.now = search rules in
    sym (encodes-chars _ c.as_str.utf8) ∙ ap encode_utf8_all same
