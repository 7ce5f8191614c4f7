use Rattle.std.proofs.Common.{◌≡◌, sym, ◌∙◌, ap, ℕ, List, Bool, drop, false, nat_lt}
use Rattle.std.specs.List.{prefix_len}
use Rattle.std.specs.Str.{chars}
use Rattle.pylex_lexeme.specs.Chars.{has, begins}
use Rattle.pylex_lexeme.proofs.Fronts.Texts.{after_run}
use Rattle.pylex_lexeme.proofs.Fronts.Runs.{in_ascii, tells_ascii, run_cut, run_utf8, run_same, run_stopped, ascii_stops}
use Rattle.pylex_lexeme.proofs.scanner.Scanner.bump_while.Goals as goal

pub range_from-self-inside-requires : goal.range_from-self-inside-requires
range_from-self-inside-requires c =
    let p : ℕ → Bool = has c.args.set in
    let count : c.ascii_run-count.result ≡ prefix_len (in_ascii p) c.self.inside.rest.now = c.ascii_run-count.ensures
    ∙ ap (prefix_len (in_ascii p)) c.as_bytes.ensures.value in
    rw count (λ _. run_cut (in_ascii p) p (tells_ascii p) c.self.inside.rest.now c.self.invariant)

pub returns-then-begins_wide : goal.returns-then-begins_wide
returns-then-begins_wide c =
    let p : ℕ → Bool = has c.args.set in
    let bs : List ℕ = c.self.inside.rest.now in
    let count : c.ascii_run-count.result ≡ prefix_len (in_ascii p) bs = c.ascii_run-count.ensures
    ∙ ap (prefix_len (in_ascii p)) c.as_bytes.ensures.value in
    let rest : c.range_from-self-inside.result.now ≡ after_run (in_ascii p) bs = c.range_from-self-inside.ensures.value
    ∙ ap (λ n. drop n bs) count in
    c.bump_on.ensures
    ∙ ap (λ r. after_run p (chars r)) rest
    ∙ run_same (in_ascii p) p (tells_ascii p) bs c.self.invariant
    ∙ ap (after_run p) c.self.view_is

pub returns-else-begins_wide : goal.returns-else-begins_wide
returns-else-begins_wide c =
    let p : ℕ → Bool = has c.args.set in
    let bs : List ℕ = c.self.inside.rest.now in
    let count : c.ascii_run-count.result ≡ prefix_len (in_ascii p) bs = c.ascii_run-count.ensures
    ∙ ap (prefix_len (in_ascii p)) c.as_bytes.ensures.value in
    let rest : c.range_from-self-inside.result.now ≡ after_run (in_ascii p) bs = c.range_from-self-inside.ensures.value
    ∙ ap (λ n. drop n bs) count in
    let narrow : begins (λ b. nat_lt 127 b) (after_run (in_ascii p) bs) ≡ false =
    ap (begins (λ b. nat_lt 127 b)) (sym rest ∙ sym c.as_bytes-2.ensures.value) ∙ sym c.if-begins_wide.ensures in
    ap chars rest
    ∙ sym (ascii_stops p (after_run (in_ascii p) bs) (run_utf8 (in_ascii p) p (tells_ascii p) bs c.self.invariant)
    (run_stopped (in_ascii p) bs) narrow)
    ∙ run_same (in_ascii p) p (tells_ascii p) bs c.self.invariant
    ∙ ap (after_run p) c.self.view_is
