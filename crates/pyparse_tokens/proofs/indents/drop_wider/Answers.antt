use Rattle.std.proofs.Common.{◌≡◌, ◌-◌, false, true, List, ◌++◌, [], ◌∷◌, length, take, rules, Some, sym, subst, ap, ◌∙◌, arith}
use Rattle.std.specs.Prelude.{nat_lt, slice_get}
use Rattle.std.proofs.lemmas.Bool.Decides.{nat_tests}
use Rattle.pylex_listing.specs.declared.margins.Widths.{Widths}
use Rattle.pyparse_tokens.specs.Inner.Indenting.{Drops}
use Rattle.pyparse_tokens.proofs.RisingLemmas.{Dropped, drops_on, last_of, stops_narrower}
use Rattle.pyparse_tokens.proofs.indents.drop_wider.Goals as goal

pub returns-then-last-widths : goal.returns-then-last-widths
returns-then-last-widths c rising =
    let ws = c.loop-last.standing.items in
    let v = c.in-Some.last.now in
    let start = c.args.standing.now.items in
    let w = c.args.widths in
    let below : nat_lt v.eight w.eight ≡ true = grind (arith, nat_tests) in
    let split : ws ≡ take (length ws - 1) ws ++ v ∷ [] =
    last_of ws v (c.in-Some.ensures.value ∙ ap (λ (us : List Widths). slice_get us (length us - 1)) c.deref.ensures.value) in
    subst (λ (us : List Widths). Drops start us w false) (sym split)
    (stops_narrower start (take (length ws - 1) ws) v w (subst (λ (us : List Widths). Dropped start us w) split c.loop-last.invariant)
    (sym c.if-not-are_alike.ensures) below rising)

pub loop-last-preserved : goal.loop-last-preserved
loop-last-preserved c =
    let popped : c.pop.result ≡ Some c.in-Some.last.now = search rules in
    let split : c.loop-last.standing.items ≡ c.pop.new.self.items ++ c.in-Some.last.now ∷ [] = rw popped at c.pop.ensures.items in
    let start = c.args.standing.now.items in
    let w = c.args.widths in
    let wide : nat_lt c.in-Some.last.now.eight w.eight ≡ false = grind (arith, nat_tests) in
    drops_on start c.pop.new.self.items c.in-Some.last.now w
    (subst (λ (us : List Widths). Dropped start us w) split c.loop-last.invariant) (sym c.if-not-are_alike.ensures) wide
