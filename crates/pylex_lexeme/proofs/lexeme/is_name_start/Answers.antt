use Rattle.std.proofs.Common.{◌≡◌, ◌<◌, true, false, refl, arith, sym, ◌∙◌}
use Rattle.std.specs.Char.{is_ascii_alphabetic}
use Rattle.std.proofs.lemmas.Bool.Decides.{nat_tests}
use Rattle.unicode_ident.proofs.IdentLemmas.{is_xid_start-ascii}
use Rattle.pylex_lexeme.proofs.lexeme.is_name_start.Goals as goal

pub returns-then-is_ascii_alphabetic : goal.returns-then-is_ascii_alphabetic
returns-then-is_ascii_alphabetic c =
    let small : c.args.c < 128 = grind (arith, nat_tests, c.is_ascii.ensures, c.if-is_ascii.true) in
    let is = is_xid_start-ascii c.args.c small in
    let letter : is_ascii_alphabetic c.args.c ≡ true = sym c.is_ascii_alphabetic.ensures.value ∙ c.if-is_ascii_alphabetic.true in
    rw (is, letter) c.if-is_ascii_alphabetic.true

pub returns-else-is_ascii_alphabetic : goal.returns-else-is_ascii_alphabetic
returns-else-is_ascii_alphabetic c =
    let small : c.args.c < 128 = grind (arith, nat_tests, c.is_ascii.ensures, c.if-is_ascii.true) in
    let is = is_xid_start-ascii c.args.c small in
    let other : is_ascii_alphabetic c.args.c ≡ false = sym c.is_ascii_alphabetic.ensures.value ∙ c.if-is_ascii_alphabetic.false in
    rw (is, other) refl
