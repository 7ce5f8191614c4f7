use Rattle.std.proofs.Common.{refl, sym, ap, ◌∙◌, Bool}
use Rattle.std.specs.Prelude.{◌||◌}
use Rattle.std.specs.List.{list_any}
use Rattle.pytoken.specs.Escapes.{meanings, is_named_escape, is_bad_escape}
use Rattle.pytoken.proofs.values.LiteralLemmas.{any_on, any_end, fault_named, fault_bad, fault_none}
use Rattle.pytoken.proofs.values.RunLemmas.{Cut, cut_any, cut_shorter}
use Rattle.pytoken.proofs.values.strings.escape_fault.Goals as goal

pub loop-meaning-smaller : goal.loop-meaning-smaller
loop-meaning-smaller c =
    let cut : Cut c.args.raw c.next_meaning.new.text c.bump_plain.result.now c.bump_plain.new.self =
    record { whole = c.bump_plain.ensures.whole; plain = c.bump_plain.ensures.plain } in
    cut_shorter c.args.raw c.args.bytes c.loop-meaning.left c.next_meaning.new.text c.bump_plain.result.now c.bump_plain.new.self
    c.in-Some.meaning (sym c.next_meaning.ensures.meaning ∙ c.in-Some.is) c.next_meaning.ensures.following cut

pub loop-meaning-preserved : goal.loop-meaning-preserved
loop-meaning-preserved c =
    let first = sym c.next_meaning.ensures.meaning ∙ c.in-Some.is in
    let cut : Cut c.args.raw c.next_meaning.new.text c.bump_plain.result.now c.bump_plain.new.self =
    record { whole = c.bump_plain.ensures.whole; plain = c.bump_plain.ensures.plain } in
    let left = meanings c.args.raw c.args.bytes c.next_meaning.new.text in
    let named = c.either-named.ensures ∙ ap (λ (x : Bool). c.loop-meaning.named || x) c.is_named_escape.ensures in
    let bad = c.either-bad.ensures ∙ ap (λ (x : Bool). c.loop-meaning.bad || x) c.is_bad_escape.ensures in
    record {
      named = ap (λ (x : Bool). c.either-named.result || x)
          (cut_any is_named_escape (λ m. refl) c.args.raw c.args.bytes c.next_meaning.new.text c.bump_plain.result.now
          c.bump_plain.new.self cut)
          ∙ ap (λ (x : Bool). x || list_any is_named_escape left) named
          ∙ any_on is_named_escape c.args.raw c.args.bytes c.loop-meaning.left c.next_meaning.new.text c.in-Some.meaning
          c.loop-meaning.named _ first
          c.next_meaning.ensures.following c.loop-meaning.invariant.named;
      bad = ap (λ (x : Bool). c.either-bad.result || x)
          (cut_any is_bad_escape (λ m. refl) c.args.raw c.args.bytes c.next_meaning.new.text c.bump_plain.result.now
          c.bump_plain.new.self cut)
          ∙ ap (λ (x : Bool). x || list_any is_bad_escape left) bad ∙ any_on is_bad_escape c.args.raw c.args.bytes c.loop-meaning.left
          c.next_meaning.new.text c.in-Some.meaning c.loop-meaning.bad _ first c.next_meaning.ensures.following c.loop-meaning.invariant.bad;
    }

pub returns-then-named : goal.returns-then-named
returns-then-named c =
    let named = any_end is_named_escape c.args.raw c.args.bytes c.loop-meaning.left c.loop-meaning.named _
    (sym c.next_meaning.ensures.meaning ∙ c.in_default.is) c.loop-meaning.invariant.named in
    sym (fault_named (meanings c.args.raw c.args.bytes c.args.body) (sym named ∙ c.if-named.true))

pub returns-then-bad : goal.returns-then-bad
returns-then-bad c =
    let none = sym c.next_meaning.ensures.meaning ∙ c.in_default.is in
    let named = any_end is_named_escape c.args.raw c.args.bytes c.loop-meaning.left c.loop-meaning.named _ none
    c.loop-meaning.invariant.named in
    let bad = any_end is_bad_escape c.args.raw c.args.bytes c.loop-meaning.left c.loop-meaning.bad _ none c.loop-meaning.invariant.bad in
    sym (fault_bad (meanings c.args.raw c.args.bytes c.args.body) (sym named ∙ c.if-named.false) (sym bad ∙ c.if-bad.true))

pub returns : goal.returns
returns c =
    let none = sym c.next_meaning.ensures.meaning ∙ c.in_default.is in
    let named = any_end is_named_escape c.args.raw c.args.bytes c.loop-meaning.left c.loop-meaning.named _ none
    c.loop-meaning.invariant.named in
    let bad = any_end is_bad_escape c.args.raw c.args.bytes c.loop-meaning.left c.loop-meaning.bad _ none c.loop-meaning.invariant.bad in
    sym (fault_none (meanings c.args.raw c.args.bytes c.args.body) (sym named ∙ c.if-named.false) (sym bad ∙ c.if-bad.false))
