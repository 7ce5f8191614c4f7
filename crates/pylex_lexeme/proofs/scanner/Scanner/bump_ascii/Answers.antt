use Rattle.std.proofs.Common.{◌≡◌, sym, ◌∙◌, ap, ℕ, List, Bool, drop}
use Rattle.std.specs.List.{prefix_len}
use Rattle.std.specs.Str.{chars}
use Rattle.pylex_lexeme.specs.Chars.{has}
use Rattle.pylex_lexeme.proofs.Fronts.Texts.{after_run}
use Rattle.pylex_lexeme.proofs.Fronts.Runs.{in_ascii, tells_own, run_cut, run_utf8, run_same, run_stopped, own_stops}
use Rattle.pylex_lexeme.proofs.scanner.Scanner.bump_ascii.Goals as goal

pub range_from-self-inside-requires : goal.range_from-self-inside-requires
range_from-self-inside-requires c =
    let f : ℕ → Bool = in_ascii (has c.args.set) in
    let count : c.ascii_run-count.result ≡ prefix_len f c.self.inside.rest.now = c.ascii_run-count.ensures
    ∙ ap (prefix_len f) c.as_bytes.ensures.value in
    rw count (λ _. run_cut f f (tells_own (has c.args.set)) c.self.inside.rest.now c.self.invariant)

pub returns : goal.returns
returns c =
    let f : ℕ → Bool = in_ascii (has c.args.set) in
    let bs : List ℕ = c.self.inside.rest.now in
    let count : c.ascii_run-count.result ≡ prefix_len f bs = c.ascii_run-count.ensures ∙ ap (prefix_len f) c.as_bytes.ensures.value in
    let rest : c.range_from-self-inside.result.now ≡ after_run f bs = c.range_from-self-inside.ensures.value ∙ ap (λ n. drop n bs) count in
    ap chars rest
    ∙ sym (own_stops f (tells_own (has c.args.set)) (after_run f bs)
    (run_utf8 f f (tells_own (has c.args.set)) bs c.self.invariant) (run_stopped f bs))
    ∙ run_same f f (tells_own (has c.args.set)) bs c.self.invariant
    ∙ ap (after_run f) c.self.view_is
