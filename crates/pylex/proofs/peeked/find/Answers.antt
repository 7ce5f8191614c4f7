use Rattle.std.proofs.Common.{◌+◌, [], length, refl}
use Rattle.std.specs.Str.{chars}
use Rattle.pylex.proofs.Listers.Finding.{stays_there, comes_on, finds_on, fault_found, entry_found, nothing_found, no_significant_due}
use Rattle.pylex.proofs.Listers.Finding.{some_bytes, stands_after, shorter_after, room_after, after_cut, after_on}
use Rattle.pylex.specs.declared.peeked.Peeked.TheVariants as peeked
use Rattle.pylex.proofs.MachineLaws.Told.{tells}
use Rattle.pylex.proofs.peeked.find.Goals as goal

pub returns-in-Fault-clause-finds : goal.returns-in-Fault-clause-finds
returns-in-Fault-clause-finds c = fault_found c.args.levels.now c.args.start (chars c.args.text.now) c.loop-peeked.now c.line_start.new.now
    c.loop-peeked.rest.now c.in-Some-cut.front.now c.in-Some-cut.back.now c.in-Some-cut.class c.in-Fault.fault c.loop-peeked.invariant.2
    (c.in_default.ensures.settles refl) c.in-Some-cut.ensures.some c.in-Fault.ensures

pub after-ahead-requires-clause-some : goal.after-ahead-requires-clause-some
after-ahead-requires-clause-some c = some_bytes c.loop-peeked.rest.now c.in-Some-cut.front.now c.in-Some-cut.back.now c.in-Some-cut.class
    c.in-Some-cut.ensures.some

pub after-ahead-requires-clause-settled : goal.after-ahead-requires-clause-settled
after-ahead-requires-clause-settled c = no_significant_due c.line_start.new.now c.loop-peeked.rest.now c.in-Some-cut.front.now
    c.in-Some-cut.back.now c.in-Some-cut.class c.in-Some-cut.ensures.some (c.in_default.ensures.settles refl).settled

pub returns-in-Entry-clause-finds : goal.returns-in-Entry-clause-finds
returns-in-Entry-clause-finds c = entry_found c.args.levels.now c.args.start (chars c.args.text.now) c.loop-peeked.now c.line_start.new.now
    c.after-ahead.result c.loop-peeked.rest.now c.in-Some-cut.front.now c.in-Some-cut.back.now c.in-Some-cut.class c.in-Entry.entry
    c.loop-peeked.invariant.2 (c.in_default.ensures.settles refl) c.in-Some-cut.ensures.some c.in-Entry.ensures c.after-ahead.ensures.after

pub returns-in-Entry-clause-stands : goal.returns-in-Entry-clause-stands
returns-in-Entry-clause-stands c = stands_after c.line_start.new.now c.after-ahead.result c.loop-peeked.rest.now c.in-Some-cut.front.now
    c.in-Some-cut.back.now c.in-Some-cut.class c.in-Some-cut.ensures.some c.in_default.ensures.stands c.after-ahead.ensures.room

pub returns-in-Entry-clause-room : goal.returns-in-Entry-clause-room
returns-in-Entry-clause-room c n h = room_after c.line_start.new.now c.after-ahead.result c.loop-peeked.rest.now c.in-Some-cut.front.now
    c.in-Some-cut.back.now c.in-Some-cut.class c.in-Some-cut.ensures.some c.after-ahead.ensures.room n
    (c.in_default.ensures.room (length c.loop-peeked.rest.now + n) (c.loop-peeked.invariant.3 n h))

pub returns-in-Fault-clause-room : goal.returns-in-Fault-clause-room
returns-in-Fault-clause-room c n h = c.in_default.ensures.room (length c.loop-peeked.rest.now + n) (c.loop-peeked.invariant.3 n h)

pub loop-peeked-smaller : goal.loop-peeked-smaller
loop-peeked-smaller c = shorter_after c.loop-peeked.rest.now c.in-Some-cut.front.now c.in-Some-cut.back.now c.in-Some-cut.class
    c.in-Some-cut.ensures.some

pub loop-peeked-preserved : goal.loop-peeked-preserved
loop-peeked-preserved c =
    let stands = stands_after c.line_start.new.now c.after-ahead.result c.loop-peeked.rest.now c.in-Some-cut.front.now
    c.in-Some-cut.back.now c.in-Some-cut.class c.in-Some-cut.ensures.some c.in_default.ensures.stands c.after-ahead.ensures.room in (
      stands.utf8,
      stands,
      nothing_found c.args.levels.now c.args.start (chars c.args.text.now) c.loop-peeked.now c.line_start.new.now c.after-ahead.result
          c.loop-peeked.rest.now c.in-Some-cut.front.now c.in-Some-cut.back.now c.in-Some-cut.class c.loop-peeked.invariant.2
          (c.in_default.ensures.settles refl) c.in-Some-cut.ensures.some c.in-Nothing.ensures c.after-ahead.ensures.after,
      λ n h. room_after c.line_start.new.now c.after-ahead.result c.loop-peeked.rest.now c.in-Some-cut.front.now c.in-Some-cut.back.now
          c.in-Some-cut.class c.in-Some-cut.ensures.some c.after-ahead.ensures.room n
          (c.in_default.ensures.room (length c.loop-peeked.rest.now + n) (c.loop-peeked.invariant.3 n h)),
      after_cut c.args.text.now c.loop-peeked.rest.now c.in-Some-cut.front.now c.in-Some-cut.back.now c.in-Some-cut.class
          c.in_default.ensures.stands.utf8 c.in-Some-cut.ensures.some c.loop-peeked.invariant.4,
    )

pub loop-peeked-init : goal.loop-peeked-init
loop-peeked-init c =
    (c.utf8.text, c.requires.stands, stays_there c.args.levels.now c.args.start (chars c.args.text.now), λ n h. h, ([], refl))

pub returns-in-Some-clause-finds : goal.returns-in-Some-clause-finds
returns-in-Some-clause-finds c = finds_on c.args.levels.now c.args.start (chars c.args.text.now) c.loop-peeked.now
    (chars c.loop-peeked.rest.now) c.in-Some.peeked c.line_start.new.now (chars c.loop-peeked.rest.now)
    c.loop-peeked.invariant.2 c.in-Some.ensures.finds

pub returns-in_default-cut-clause-finds : goal.returns-in_default-cut-clause-finds
returns-in_default-cut-clause-finds c = (
  comes_on c.args.levels.now c.args.start (chars c.args.text.now) c.loop-peeked.now (chars c.loop-peeked.rest.now) c.line_start.new.now
      (chars c.loop-peeked.rest.now) c.loop-peeked.invariant.2 (c.in_default.ensures.settles refl).comes,
  record { none = c.in_default-cut.ensures.none; settled = (c.in_default.ensures.settles refl).settled },
)

pub returns-in_default-cut-clause-room : goal.returns-in_default-cut-clause-room
returns-in_default-cut-clause-room c n h = c.in_default.ensures.room (length c.loop-peeked.rest.now + n) (c.loop-peeked.invariant.3 n h)

pub returns-in-Some-clause-following : goal.returns-in-Some-clause-following
returns-in-Some-clause-following c = c.loop-peeked.invariant.4

pub returns-in-Fault-clause-following : goal.returns-in-Fault-clause-following
returns-in-Fault-clause-following c = c.loop-peeked.invariant.4

pub returns-in_default-cut-clause-following : goal.returns-in_default-cut-clause-following
returns-in_default-cut-clause-following c = c.loop-peeked.invariant.4

pub returns-in-Entry-clause-following : goal.returns-in-Entry-clause-following
returns-in-Entry-clause-following c = after_cut c.args.text.now c.loop-peeked.rest.now c.in-Some-cut.front.now c.in-Some-cut.back.now
    c.in-Some-cut.class c.in_default.ensures.stands.utf8 c.in-Some-cut.ensures.some c.loop-peeked.invariant.4

pub returns-in-Some-clause-room : goal.returns-in-Some-clause-room
returns-in-Some-clause-room c n h = c.in-Some.ensures.room (length c.loop-peeked.rest.now + n) (c.loop-peeked.invariant.3 n h)

pub after-ahead-requires-clause-told : goal.after-ahead-requires-clause-told
after-ahead-requires-clause-told c = tells c.loop-peeked.rest.now c.in-Some-cut.front.now c.in-Some-cut.back.now c.in-Some-cut.class
    c.in-Some-cut.ensures.some

pub returns-in-Some-next_entry-clause-finds : goal.returns-in-Some-next_entry-clause-finds
returns-in-Some-next_entry-clause-finds c =
    let settled = c.in_default.ensures.settles refl in
    let came = comes_on c.args.levels.now c.args.start (chars c.args.text.now) c.loop-peeked.now (chars c.loop-peeked.rest.now)
    c.line_start.new.now (chars c.loop-peeked.rest.now) c.loop-peeked.invariant.2 settled.comes in
    finds_on c.args.levels.now c.args.start (chars c.args.text.now) c.line_start.new.now (chars c.loop-peeked.rest.now)
    (peeked.Entry c.in-Some-next_entry.entry) c.next_entry.new.now (chars c.in-Some-next_entry.left.now) came
    (c.in-Some-next_entry.ensures.entry c.args.levels.now)

pub returns-in-Some-next_entry-clause-room : goal.returns-in-Some-next_entry-clause-room
returns-in-Some-next_entry-clause-room c n h =
    c.in-Some-next_entry.ensures.room n (c.in_default.ensures.room (length c.loop-peeked.rest.now + n) (c.loop-peeked.invariant.3 n h))

pub returns-in-Some-next_entry-clause-following : goal.returns-in-Some-next_entry-clause-following
returns-in-Some-next_entry-clause-following c = after_on c.args.text.now c.loop-peeked.rest.now c.in-Some-next_entry.left.now
    c.loop-peeked.invariant.4 c.in-Some-next_entry.ensures.following
