use Rattle.std.proofs.Common.{◌≡◌, ◌+◌, false, arith, refl}
use Rattle.pylex_lexeme.specs.declared.lexeme.Class.{Class}
use Rattle.pylex_lexeme.specs.declared.lexeme.Class.TheVariants.{Name, Number, String, Operator, Comment, Blanks, LineEnd, Join}
use Rattle.pylex.specs.Spots.{is_silent, here, blanks, join}
use Rattle.pylex.proofs.Listers.Finding.{shorter_after}
use Rattle.pylex.proofs.MachineLaws.Told.{cuts_as}
use Rattle.pylex.proofs.spots.next_lexeme.Goals as goal

gives : (k : Class) → (k ≡ Blanks → ⊥) → (k ≡ Join → ⊥) → is_silent k ≡ false
gives Name b j = refl
gives Number b j = refl
gives String b j = refl
gives (Operator o) b j = refl
gives Comment b j = refl
gives Blanks b j = absurd (b refl)
gives LineEnd b j = refl
gives Join b j = absurd (j refl)

pub loop-class-init : goal.loop-class-init
loop-class-init c = record { utf8 = c.utf8.text; joins = (0, here, omega arith); room = c.requires; shorter = omega arith }

pub loop-class-smaller-in-Blanks : goal.loop-class-smaller-in-Blanks
loop-class-smaller-in-Blanks c = shorter_after c.loop-class.rest.now c.in_ok-class.front.now c.in_ok-class.back.now c.in_ok-class.class
    c.in_ok-class.ensures.some

pub loop-class-preserved-in-Blanks : goal.loop-class-preserved-in-Blanks
loop-class-preserved-in-Blanks c =
    let rest = c.loop-class.rest.now in
    let front = c.in_ok-class.front.now in
    let back = c.in_ok-class.back.now in
    let i = c.loop-class.invariant in
    let cuts = cuts_as rest front back c.in_ok-class.class Blanks c.in-Blanks.is c.in_ok-class.ensures.some in
    let less = shorter_after rest front back Blanks cuts in
    record {
      utf8 = cuts.back_utf8;
      joins = (i.joins.0, blanks rest front back i.joins.0 i.joins.1 cuts, i.joins.2);
      room =
          omega (arith, i.room, less);
      shorter = omega (arith, i.shorter, less);
    }

pub loop-class-smaller : goal.loop-class-smaller
loop-class-smaller c = shorter_after c.loop-class.rest.now c.in_ok-class.front.now c.in_ok-class.back.now c.in_ok-class.class
    c.in_ok-class.ensures.some

pub loop-class-preserved : goal.loop-class-preserved
loop-class-preserved c =
    let rest = c.loop-class.rest.now in
    let front = c.in_ok-class.front.now in
    let back = c.in_ok-class.back.now in
    let i = c.loop-class.invariant in
    let cuts = cuts_as rest front back c.in_ok-class.class Join c.in-Join.is c.in_ok-class.ensures.some in
    let less = shorter_after rest front back Join cuts in
    record {
      utf8 = cuts.back_utf8;
      joins = (i.joins.0 + 1, join rest front back i.joins.0 i.joins.1 cuts, omega (arith, i.joins.2));
      room =
          omega (arith, i.room, less);
      shorter = omega (arith, i.shorter, less);
    }

pub returns-in_default : goal.returns-in_default
returns-in_default c =
    let rest = c.loop-class.rest.now in
    let i = c.loop-class.invariant in
    let cuts = c.in_ok-class.ensures.some in
    record {
      ahead = record {
        rest = rest;
        joins = i.joins.0;
        silent = i.joins.1;
        cuts = cuts;
        gives = gives c.in_ok-class.class c.in_default.not-Blanks c.in_default.not-Join;
        row = omega (arith, i.joins.2, c.rows_in.ensures.value);
      };
      shorter = omega (arith, i.shorter, shorter_after rest c.in_ok-class.front.now c.in_ok-class.back.now c.in_ok-class.class cuts);
    }
