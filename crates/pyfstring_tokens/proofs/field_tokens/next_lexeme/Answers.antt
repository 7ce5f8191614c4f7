use Rattle.std.proofs.Common.{◌≡◌, ℕ, ◌<◌, ◌==◌, false, length, sym, ◌∙◌, arith}
use Rattle.std.proofs.lemmas.Bool.Decides.{nat_tests}
use Rattle.pyfstring_tokens.specs.Inner.Passing.{here, past}
use Rattle.pyfstring_tokens.proofs.Passing.{shorter, some_chars}
use Rattle.pyfstring_tokens.proofs.field_tokens.next_lexeme.Goals as goal

not_empty : (n : ℕ) → (n == 0) ≡ false → 0 < n
not_empty n e = grind (arith, nat_tests)

pub lexemes-init : goal.lexemes-init
lexemes-init c = record { utf8 = c.utf8.text; passes = here; shorter = omega arith }

pub returns-in_default-clause-stops : goal.returns-in_default-clause-stops
returns-in_default-clause-stops c =
    let e : (length c.lexemes.rest.now == 0) ≡ false = sym c.is_empty.ensures ∙ c.lexemes-test.true in
    record {
      rest = c.lexemes.rest.now;
      passes = c.lexemes.invariant.passes;
      some = some_chars c.lexemes.rest.now c.lexemes.invariant.utf8 (not_empty (length c.lexemes.rest.now) e);
      none = c.in_default.ensures.none;
    }

pub returns-then-not-is_gap-clause-shorter : goal.returns-then-not-is_gap-clause-shorter
returns-then-not-is_gap-clause-shorter c =
    let l = shorter c.lexemes.rest.now c.in-Some.front.now c.in-Some.back.now c.in-Some.class c.in-Some.ensures.some in
    omega (arith, c.lexemes.invariant.shorter)

pub lexemes-smaller : goal.lexemes-smaller
lexemes-smaller c = shorter c.lexemes.rest.now c.in-Some.front.now c.in-Some.back.now c.in-Some.class c.in-Some.ensures.some

pub lexemes-preserved : goal.lexemes-preserved
lexemes-preserved c =
    let rest = c.lexemes.rest.now in
    let front = c.in-Some.front.now in
    let back = c.in-Some.back.now in
    let i = c.lexemes.invariant in
    let cuts = c.in-Some.ensures.some in
    let l = shorter rest front back c.in-Some.class cuts in
    record {
      utf8 = cuts.back_utf8;
      passes = past rest front back c.in-Some.class i.passes cuts (sym c.is_gap.ensures
          ∙ c.if-not-is_gap.false);
      shorter = omega (arith, i.shorter, l);
    }
