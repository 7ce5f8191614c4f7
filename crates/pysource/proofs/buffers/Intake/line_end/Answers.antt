use Rattle.std.proofs.Common.{[], refl, append-nil, ◌≡◌, ℕ, ◌+◌, ◌-◌, ◌<◌, List, length, get_or, sym, ap, subst, inl, inr, ◌∙◌, arith}
use Rattle.std.proofs.Common.{length-append}
use Rattle.std.proofs.lemmas.List.{take_rest}
use Rattle.std.proofs.lemmas.Result.{err_from_is_err_and}
use Rattle.pysource.specs.Taking.{NoLfFrom}
use Rattle.pysource.proofs.FaultyLines.ReturnsLemmas.{found_after, none_after}
use Rattle.pysource.proofs.TakenBytes.TakingLemmas.{ReadsBytes-none, Grows-append, kept_or_full, clean_on, clean_under}
use Rattle.pysource.proofs.buffers.Intake.line_end.Goals as goal

pub returns-in-Some-clause-found : goal.returns-in-Some-clause-found
returns-in-Some-clause-found g c =
    let l = c.loop-at in
    let same : c.bytes-bytes.result.now ≡ l.self.buffer = c.bytes-bytes.ensures in
    let found = found_after 10 c.bytes-bytes.result.now _ l.searched _ c.in-Some.at (take_rest c.bytes-bytes.result.now l.searched)
    c.memchr.ensures c.in-Some.is in
    let inside : l.searched + c.in-Some.at < length l.self.buffer = omega (arith, found.0, ap length same) in
    let end : l.searched + c.in-Some.at + 1 - 1 ≡ l.searched + c.in-Some.at = omega arith in
    record {
      line = record {
        some = omega (arith, l.invariant.low);
        within = omega (arith, inside);
        before = subst (λ (n : ℕ). NoLfFrom c.args.start n l.self.buffer) (sym end)
            (clean_on c.args.start l.searched (l.searched + c.in-Some.at) l.self.buffer l.invariant.clean
            (subst (NoLfFrom l.searched (l.searched + c.in-Some.at)) same found.2));
        at = ap (λ (n : ℕ). get_or l.self.buffer n 0) end ∙ ap (λ (x : List ℕ). get_or x (l.searched + c.in-Some.at) 0) (sym same)
            ∙ found.1;
      };
      reach = elim l.invariant.kept [ inl e ↦ e | inr full ↦ absurd (omega (arith, full, inside)) ];
      ahead = omega (arith, l.invariant.ahead);
    }

pub loop-at-preserved : goal.loop-at-preserved
loop-at-preserved g c =
    let l = c.loop-at in
    let f = c.in_ok-fill-in-Reading.ensures in
    let bs = c.bytes-bytes.result.now in
    let same : bs ≡ l.self.buffer = c.bytes-bytes.ensures in
    let size = ap length same in
    let grown = ap length f.grows.bytes in
    let more = length-append l.self.buffer f.grows.taken in
    let none = none_after 10 bs _ l.searched _ (take_rest bs l.searched) c.memchr.ensures c.in_default.is in
    record {
      within = f.within;
      grows = Grows-append c.in-Reading.is l.invariant.grows f.grows;
      low = omega (arith, l.invariant.low, l.invariant.high, size);
      high = omega (arith, size, grown, more);
      clean =
          let clean : NoLfFrom c.args.start (length l.self.buffer) l.self.buffer =
          clean_on c.args.start l.searched (length l.self.buffer) l.self.buffer l.invariant.clean
          (subst (λ (x : List ℕ). NoLfFrom l.searched (length x) x) same none) in
          subst (λ (n : ℕ). NoLfFrom c.args.start n c.fill.new.self.buffer) (sym size)
          (subst (NoLfFrom c.args.start (length l.self.buffer)) (sym f.grows.bytes)
          (clean_under c.args.start l.self.buffer f.grows.taken clean));
      ahead = omega (arith, f.short, size);
      kept = elim (kept_or_full c.fill.new.self c.in-Reading.is l.invariant.grows f.same) [ inl e ↦ inl e | inr e ↦ inr (size ∙ e) ];
    }

pub returns-in_err-fill-in-Reading-clause-grows : goal.returns-in_err-fill-in-Reading-clause-grows
returns-in_err-fill-in-Reading-clause-grows g c = Grows-append c.in-Reading.is c.loop-at.invariant.grows
    c.in_err-fill-in-Reading.ensures.grows

pub returns-in_default-reach-clause-found : goal.returns-in_default-reach-clause-found
returns-in_default-reach-clause-found g c =
    let l = c.loop-at in
    let bs = c.bytes-bytes.result.now in
    let same : bs ≡ l.self.buffer = c.bytes-bytes.ensures in
    let none = none_after 10 bs _ l.searched _ (take_rest bs l.searched) c.memchr.ensures c.in_default.is in
    record {
      none = clean_on c.args.start l.searched (length l.self.buffer) l.self.buffer l.invariant.clean
          (subst (λ (x : List ℕ). NoLfFrom l.searched (length x) x) same none);
      over = c.in_default-reach.not-Reading;
    }

pub loop-at-init : goal.loop-at-init
loop-at-init g c = record {
  within = c.requires.within;
  grows = record { taken = []; takes = ReadsBytes-none _ _ _; bytes = sym (append-nil _) };
  low = omega arith;
  high = c.requires.start;
  clean = λ k a b. absurd (omega arith);
  ahead = omega arith;
  kept = inl refl;
}

pub returns-in_err-fill-in-Reading-clause-found : goal.returns-in_err-fill-in-Reading-clause-found
returns-in_err-fill-in-Reading-clause-found g c =
    let l = c.loop-at in
    let e = c.in_err-fill-in-Reading.ensures.err in
    let bs = c.bytes-bytes.result.now in
    let same : bs ≡ l.self.buffer = c.bytes-bytes.ensures in
    let none = none_after 10 bs _ l.searched _ (take_rest bs l.searched) c.memchr.ensures c.in_default.is in
    let clean : NoLfFrom c.args.start (length l.self.buffer) l.self.buffer =
    clean_on c.args.start l.searched (length l.self.buffer) l.self.buffer l.invariant.clean
    (subst (λ (x : List ℕ). NoLfFrom l.searched (length x) x) same none) in
    let p = err_from_is_err_and c.from_residual.result c.from_residual.ensures.1 in
    rw p.1 (e.0, subst (λ (x : List ℕ). NoLfFrom c.args.start (length x) x) (sym e.1) clean)
