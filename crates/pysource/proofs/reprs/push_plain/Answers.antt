use Rattle.std.proofs.Common.{◌≡◌, ◌++◌, [], ◌∷◌, ap, sym, ◌∙◌, arith, ℕ, List}
use Rattle.std.specs.String.{string_bytes}
use Rattle.std.proofs.lemmas.List.{append_assoc}
use Rattle.pysource.proofs.Printing.PushReprLemmas.{plain_repr}
use Rattle.pysource.proofs.reprs.push_plain.Goals as goal

pub returns-clause-ok : goal.returns-clause-ok
returns-clause-ok c =
    let out : List ℕ = string_bytes c.args.out.now in
    let text : List ℕ = c.args.text.now in
    let quote : List ℕ = 39 ∷ [] in
    let first : string_bytes c.push.new.self ≡ out ++ quote = c.in_ok-push.ensures.bytes
    ∙ ap (λ (bs : List ℕ). out ++ bs) (c.push.ensures.ascii (omega arith)) in
    let middle : string_bytes c.push_str.new.self ≡ out ++ quote ++ text = c.in_ok-push_str.ensures.bytes
    ∙ ap (λ (bs : List ℕ). bs ++ text) first in
    let last : string_bytes c.push-2.new.self ≡ out ++ quote ++ text ++ quote =
    c.in_ok-push-2.ensures.bytes ∙ ap (λ (bs : List ℕ). string_bytes c.push_str.new.self ++ bs) (c.push-2.ensures.ascii (omega arith))
    ∙ ap (λ (bs : List ℕ). bs ++ quote) middle in
    last ∙ ap (λ (bs : List ℕ). bs ++ quote) (append_assoc out quote text) ∙ append_assoc out (39 ∷ text) quote
    ∙ ap (λ (bs : List ℕ). out ++ bs) (sym (plain_repr text c.requires))
