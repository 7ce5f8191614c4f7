use Rattle.std.proofs.Common.{◌≡◌, sym, ◌∙◌, ap, ℕ, List, drop}
use Rattle.std.specs.List.{prefix_len}
use Rattle.std.specs.Str.{chars}
use Rattle.pylex_lexeme.specs.Inner.Plain.{is_plain_char}
use Rattle.pylex_lexeme.proofs.Fronts.Texts.{after_run}
use Rattle.pylex_lexeme.proofs.Fronts.Runs.{tells_plain, run_cut, run_utf8, run_same, run_stopped, own_stops}
use Rattle.pylex_lexeme.proofs.scanner.Scanner.bump_plain.Goals as goal

pub range_from-self-inside-requires : goal.range_from-self-inside-requires
range_from-self-inside-requires c =
    let count : c.plain_run-count.result ≡ prefix_len is_plain_char c.self.inside.rest.now = c.plain_run-count.ensures
    ∙ ap (prefix_len is_plain_char) c.as_bytes.ensures.value in
    rw count (λ _. run_cut is_plain_char is_plain_char tells_plain c.self.inside.rest.now c.self.invariant)

pub returns : goal.returns
returns c =
    let bs : List ℕ = c.self.inside.rest.now in
    let count : c.plain_run-count.result ≡ prefix_len is_plain_char bs = c.plain_run-count.ensures
    ∙ ap (prefix_len is_plain_char) c.as_bytes.ensures.value in
    let rest : c.range_from-self-inside.result.now ≡ after_run is_plain_char bs = c.range_from-self-inside.ensures.value
    ∙ ap (λ n. drop n bs) count in
    ap chars rest
    ∙ sym (own_stops is_plain_char tells_plain (after_run is_plain_char bs)
    (run_utf8 is_plain_char is_plain_char tells_plain bs c.self.invariant)
    (run_stopped is_plain_char bs))
    ∙ run_same is_plain_char is_plain_char tells_plain bs c.self.invariant
    ∙ ap (after_run is_plain_char) c.self.view_is
