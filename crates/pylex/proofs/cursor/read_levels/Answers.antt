use Rattle.std.proofs.Common.{◌≡◌, ◌∷◌, [], ◌++◌, ◌<◌, ◌∙◌, sym, ap, subst, ℕ, List, rules, Option, Some, None}
use denote.Ref.{Bor}
use Rattle.std.proofs.Common.{◌^◌}
use Rattle.std.proofs.lemmas.List.Elements.{All-push}
use Rattle.pylex.proofs.Levels.LevelLemmas.{HasRead, cannot_follow, can_follow_is, text_left, next_level, joined_after, one_more, has_read}
use Rattle.pylex.proofs.Levels.LevelLemmas.{first_kept, ascending_kept, are_levels, at_end}
use Rattle.pylex.proofs.cursor.read_levels.Goals as goal

pub returns-in_err-level-clause-reads : goal.returns-in_err-level-clause-reads
returns-in_err-level-clause-reads c = λ ns are whole.
    let next = next_level c.loop-rest.rest c.in-Some.joined c.loop-rest.levels.items ns c.in-Some.is are
    (c.loop-rest.invariant.reads ns are whole) in
    let none : c.first_level.result ≡ None = c.in_err-level.ensures.ok_part in
    let read = c.first_level.ensures.reads next.level next.rest next.fits next.text in
    absurd (rw none at read)

pub returns-then-not-can_follow-clause-reads : goal.returns-then-not-can_follow-clause-reads
returns-then-not-can_follow-clause-reads c = λ ns are whole.
    let next = next_level c.loop-rest.rest c.in-Some.joined c.loop-rest.levels.items ns c.in-Some.is are
    (c.loop-rest.invariant.reads ns are whole) in
    let some : c.first_level.result ≡ Some (c.in_ok-level.level, c.in_ok-level.back) = c.in_ok-level.ensures.ok_part in
    let read = rw some at (c.first_level.ensures.reads next.level next.rest next.fits next.text) in
    absurd (cannot_follow c.can_follow.result c.as_slice.result.now c.loop-rest.levels.items c.in_ok-level.level next.level
    c.if-not-can_follow.true c.as_slice.ensures.value read.0 next.follows c.can_follow.ensures.first c.can_follow.ensures.above)

pub loop-rest-preserved : goal.loop-rest-preserved
loop-rest-preserved c =
    let sofar = c.loop-rest.levels.items in
    let some : c.first_level.result ≡ Some (c.in_ok-level.level, c.in_ok-level.back) = c.in_ok-level.ensures.ok_part in
    let pushed : c.push.new.self.items ≡ sofar ++ c.in_ok-level.level ∷ [] = search rules in
    let follows = can_follow_is c.can_follow.result c.as_slice.result.now sofar c.in_ok-level.level c.if-not-can_follow.false
    c.as_slice.ensures.value c.can_follow.ensures.first c.can_follow.ensures.above in
    record {
      text = text_left c.in_ok-level.back (rw some at c.first_level.ensures.text);
      some = rw pushed (has_read c.in_ok-level.back sofar c.in_ok-level.level);
      first = rw pushed (λ _. first_kept sofar c.in_ok-level.level c.loop-rest.invariant.first follows.first);
      ascending = rw pushed (ascending_kept sofar c.in_ok-level.level c.loop-rest.invariant.ascending follows.above);
      words = rw pushed (All-push (λ n. n < 2 ^ 64) sofar c.in_ok-level.level c.loop-rest.invariant.words (search rules));
      reads = λ ns are whole.
          let next = next_level c.loop-rest.rest c.in-Some.joined sofar ns c.in-Some.is are (c.loop-rest.invariant.reads ns are whole) in
          let read = rw some at (c.first_level.ensures.reads next.level next.rest next.fits next.text) in
          let level : c.in_ok-level.level ≡ next.level = read.0 in (
            next.rest,
            one_more sofar ns next.rest next.level next.whole ∙ ap (λ n. sofar ++ n ∷ [] ++ next.rest) (sym level)
                ∙ ap (λ l. l ++ next.rest) (sym pushed),
            joined_after c.in_ok-level.back next.rest read.1,
          );
    }

pub returns-clause-levels : goal.returns-clause-levels
returns-clause-levels c =
    let R : Option (Bor (List ℕ)) → Type 0 = λ o. HasRead o c.loop-rest.levels.items in
    are_levels c.loop-rest.levels.items (subst R c.in_default.is c.loop-rest.invariant.some) c.loop-rest.invariant.first
    c.loop-rest.invariant.ascending c.loop-rest.invariant.words

pub returns-clause-reads : goal.returns-clause-reads
returns-clause-reads c = λ ns are whole. at_end c.loop-rest.rest c.loop-rest.levels.items ns c.in_default.is
    (c.loop-rest.invariant.reads ns are whole)
