use Rattle.std.proofs.Common.{◌≡◌, ◌++◌, ◌∷◌, [], sym, ap, ◌∙◌, arith, append-nil, append_assoc}
use Rattle.std.proofs.lemmas.List.{replicate-append-replicate}
use Rattle.std.specs.String.{string_bytes}
use Rattle.pynumber.specs.Layouts.{zeros}
use Rattle.pynumber.proofs.layouts.push_zeros.Goals as goal

pub loop-init : goal.loop-init
loop-init c = sym (append-nil _)

pub loop-preserved : goal.loop-preserved
loop-preserved c =
    rw (c.in_ok-push.ensures.bytes, c.in_ok-push.ensures.ascii (omega arith), c.loop.invariant)
    (append_assoc _ (zeros c.loop.counter) (48 ∷ [])
    ∙ ap (λ y. string_bytes c.args.out.now ++ y) (replicate-append-replicate c.loop.counter 1 48))

pub returns : goal.returns
returns c = c.loop.invariant ∙ ap (λ n. string_bytes c.args.out.now ++ zeros n) (let e : c.loop.counter ≡ c.args.count = omega arith in e)
