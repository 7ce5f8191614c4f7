use Rattle.std.proofs.Common.{◌≡◌, ◌-◌, [], ◌∙◌, refl, length, drop, take, ap, sym, subst, arith, string_bytes}
use Rattle.std.specs.Str.{chars}
use Rattle.std.proofs.lemmas.List.{drop_all}
use Rattle.std.proofs.lemmas.Str.{chars-nil}
use Rattle.pylex.specs.LineState.{StopAhead}
use Rattle.pylex.proofs.Listers.Finding.{stays_there}
use Rattle.pylex.proofs.LineByLine.Lined.{stop_empty}
use Rattle.pylex.proofs.LineByLine.Searching.{boundary_held, stands_held, ascending_held, within_held, stop_held, drop_after}
use Rattle.pylex.proofs.line_lister.look.Goals as goal

pub returns-then-chunk-len-clause-looks : goal.returns-then-chunk-len-clause-looks
returns-then-chunk-len-clause-looks c =
    let p = c.args.machine.now in
    let d = c.args.chunk.now in
    let rest = drop d.at (string_bytes d.text) in
    let none : rest ≡ [] = drop_all d.at (string_bytes d.text) (omega arith) in
    record {
      at = omega arith;
      left = c.requires.left;
      finds = rw c.now.ensures (
        stays_there (take p.nested p.levels.items) p.now (chars rest),
        subst (StopAhead p.now) (sym (ap chars none ∙ chars-nil)) (stop_empty p.now),
      );
      stands = rw c.now.ensures (stands_held p d c.requires);
      room = rw c.now.ensures (λ n h. h);
      tail = rw c.now.ensures (λ _. (refl, refl, refl));
    }

pub rest-requires : goal.rest-requires
rest-requires c = boundary_held c.args.machine.now c.args.chunk.now c.requires

pub peek-peeked-requires-clause-stands : goal.peek-peeked-requires-clause-stands
peek-peeked-requires-clause-stands c = rw c.rest.ensures (stands_held c.args.machine.now c.args.chunk.now c.requires)

pub peek-peeked-requires-clause-ascending : goal.peek-peeked-requires-clause-ascending
peek-peeked-requires-clause-ascending c = ascending_held c.args.machine.now c.args.chunk.now c.requires

pub peek-peeked-requires-clause-within : goal.peek-peeked-requires-clause-within
peek-peeked-requires-clause-within c = within_held c.args.machine.now c.args.chunk.now c.requires

pub peek-peeked-requires-clause-stop : goal.peek-peeked-requires-clause-stop
peek-peeked-requires-clause-stop c = rw c.rest.ensures (stop_held c.args.machine.now c.args.chunk.now c.requires)

pub returns-clause-looks : goal.returns-clause-looks
returns-clause-looks c =
    let text = string_bytes c.args.chunk.now.text in
    let following = rw c.rest.ensures at c.peek-peeked.ensures.following in
    let left = c.peek-peeked.result.2.now in
    let is = drop_after text c.args.chunk.now.at left following in
    let size : c.len-2.result ≡ length text = omega (arith, c.len-2.ensures) in
    let at = ap (λ n. drop (n - length left) text) size ∙ is in
    record {
      at = omega (arith, size);
      left = rw at c.peek-peeked.ensures.stands.utf8;
      finds = rw (at, ← c.rest.ensures) c.peek-peeked.ensures.finds;
      stands = rw at c.peek-peeked.ensures.stands;
      room = rw (at, ← c.rest.ensures) c.peek-peeked.ensures.room;
      tail = λ h. let s = c.peek-peeked.ensures.stay h in (c.peek-peeked.ensures.stop h, s.0, at ∙ s.1 ∙ c.rest.ensures);
    }
