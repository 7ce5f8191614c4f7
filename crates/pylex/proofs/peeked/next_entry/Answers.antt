use Rattle.std.proofs.Common.{ℕ, List, [], length, subst, refl}
use Rattle.std.specs.Str.{chars}
use Rattle.pylex_lexeme.specs.declared.lexeme.Class.TheVariants.{Blanks, Join}
use Rattle.pylex.specs.LineState.{with_levels, HasRoom}
use Rattle.pylex.proofs.Listers.Finding.{stays_there, settles_same, entry_found, nothing_found, some_bytes, stands_after, shorter_after}
use Rattle.pylex.proofs.Listers.Finding.{room_after, after_cut, margin_past}
use Rattle.pylex.proofs.MachineLaws.Told.{tells, cuts_as, fewer, passed_room, blanks_give, join_gives}
use Rattle.pylex.proofs.peeked.next_entry.Goals as goal

pub loop-class-init : goal.loop-class-init
loop-class-init c = record {
  utf8 = c.utf8.text;
  stands = c.requires.stands;
  following_margin = c.requires.following;
  comes = λ levels. stays_there levels c.args.now.now (chars c.args.text.now);
  room = λ n h. h;
  following = ([], refl);
}

pub pass_blanks-requires-clause-told : goal.pass_blanks-requires-clause-told
pass_blanks-requires-clause-told c =
    let rest = c.loop-class.rest.now in
    let front = c.in_ok-class.front.now in
    let back = c.in_ok-class.back.now in
    tells rest front back Blanks (cuts_as rest front back c.in_ok-class.class Blanks c.in-Blanks.is c.in_ok-class.ensures.some)

pub loop-class-smaller-in-Blanks : goal.loop-class-smaller-in-Blanks
loop-class-smaller-in-Blanks c = shorter_after c.loop-class.rest.now c.in_ok-class.front.now c.in_ok-class.back.now c.in_ok-class.class
    c.in_ok-class.ensures.some

pub loop-class-preserved-in-Blanks : goal.loop-class-preserved-in-Blanks
loop-class-preserved-in-Blanks c =
    let now = c.loop-class.now in
    let rest = c.loop-class.rest.now in
    let front = c.in_ok-class.front.now in
    let back = c.in_ok-class.back.now in
    let ahead = c.pass_blanks.new.self in
    let i = c.loop-class.invariant in
    let cuts = cuts_as rest front back c.in_ok-class.class Blanks c.in-Blanks.is c.in_ok-class.ensures.some in
    let passed = c.pass_blanks.ensures in
    let gave = λ (ls : List ℕ). blanks_give (with_levels now ls) (chars front) in
    let room = passed_room now Blanks front ahead i.following_margin passed cuts.counted (some_bytes rest front back Blanks cuts) in
    let stands = stands_after now ahead rest front back Blanks cuts i.stands room in
    record {
      utf8 = stands.utf8;
      stands = stands;
      following_margin = margin_past now ahead Blanks (chars front) i.following_margin gave passed;
      comes = λ levels. nothing_found levels c.args.now.now (chars c.args.text.now) now now ahead rest front back Blanks (i.comes levels)
          (settles_same levels now (chars rest) (rw i.following_margin refl)) cuts gave passed;
      room = λ n h. room_after now ahead rest front back Blanks cuts room n (i.room n h);
      following = after_cut c.args.text.now rest front back Blanks i.stands.utf8 cuts i.following;
    }

pub pass_join-requires-clause-told : goal.pass_join-requires-clause-told
pass_join-requires-clause-told c =
    let rest = c.loop-class.rest.now in
    let front = c.in_ok-class.front.now in
    let back = c.in_ok-class.back.now in
    tells rest front back Join (cuts_as rest front back c.in_ok-class.class Join c.in-Join.is c.in_ok-class.ensures.some)

pub loop-class-smaller : goal.loop-class-smaller
loop-class-smaller c = shorter_after c.loop-class.rest.now c.in_ok-class.front.now c.in_ok-class.back.now c.in_ok-class.class
    c.in_ok-class.ensures.some

pub loop-class-preserved : goal.loop-class-preserved
loop-class-preserved c =
    let now = c.loop-class.now in
    let rest = c.loop-class.rest.now in
    let front = c.in_ok-class.front.now in
    let back = c.in_ok-class.back.now in
    let ahead = c.pass_join.new.self in
    let i = c.loop-class.invariant in
    let cuts = cuts_as rest front back c.in_ok-class.class Join c.in-Join.is c.in_ok-class.ensures.some in
    let passed = c.pass_join.ensures in
    let gave = λ (ls : List ℕ). join_gives (with_levels now ls) (chars front) in
    let room = passed_room now Join front ahead i.following_margin passed cuts.counted (some_bytes rest front back Join cuts) in
    let stands = stands_after now ahead rest front back Join cuts i.stands room in
    record {
      utf8 = stands.utf8;
      stands = stands;
      following_margin = margin_past now ahead Join (chars front) i.following_margin gave passed;
      comes = λ levels. nothing_found levels c.args.now.now (chars c.args.text.now) now now ahead rest front back Join (i.comes levels)
          (settles_same levels now (chars rest) (rw i.following_margin refl)) cuts gave passed;
      room = λ n h. room_after now ahead rest front back Join cuts room n (i.room n h);
      following = after_cut c.args.text.now rest front back Join i.stands.utf8 cuts i.following;
    }

pub pass-requires : goal.pass-requires
pass-requires c =
    let rest = c.loop-class.rest.now in
    let front = c.in_ok-class.front.now in
    let back = c.in_ok-class.back.now in
    let k = c.in_ok-class.class in
    let cuts = c.in_ok-class.ensures.some in
    let i = c.loop-class.invariant in
    record {
      room = fewer c.loop-class.now (length front) (length back) (subst (λ (n : ℕ). HasRoom c.loop-class.now n) cuts.sizes i.stands.room);
      counted = cuts.counted;
      following = i.following_margin;
      told = tells rest front back k cuts;
      some = some_bytes rest front back k cuts;
    }

pub returns-in_default : goal.returns-in_default
returns-in_default c =
    let now = c.loop-class.now in
    let rest = c.loop-class.rest.now in
    let front = c.in_ok-class.front.now in
    let back = c.in_ok-class.back.now in
    let k = c.in_ok-class.class in
    let ahead = c.pass.new.self in
    let cuts = c.in_ok-class.ensures.some in
    let i = c.loop-class.invariant in
    let passed = c.in_ok-entry-in_default.ensures.passed in
    let room = passed_room now k front ahead i.following_margin passed cuts.counted (some_bytes rest front back k cuts) in
    record {
      entry = λ levels. entry_found levels c.args.now.now (chars c.args.text.now) now now ahead rest front back k
          c.in_ok-entry-in_default.entry (i.comes levels) (settles_same levels now (chars rest) (rw i.following_margin refl)) cuts
          c.in_ok-entry-in_default.ensures.entry passed;
      stands = stands_after now ahead rest front back k cuts i.stands room;
      room = λ n h. room_after now ahead rest front back k cuts room n (i.room n h);
      following = after_cut c.args.text.now rest front back k i.stands.utf8 cuts i.following;
    }
