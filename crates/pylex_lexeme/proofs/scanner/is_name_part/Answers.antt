use Rattle.std.proofs.Common.{◌≡◌, ◌<◌, true, false, refl, arith, sym, ◌∙◌}
use Rattle.std.specs.Char.{is_ascii_alphanumeric}
use Rattle.std.proofs.lemmas.Bool.Decides.{nat_tests}
use Rattle.unicode_ident.proofs.IdentLemmas.{is_xid_continue-ascii}
use Rattle.pylex_lexeme.proofs.scanner.is_name_part.Goals as goal

pub returns-then-is_ascii_alphanumeric : goal.returns-then-is_ascii_alphanumeric
returns-then-is_ascii_alphanumeric c =
    let small : c.args.c < 128 = grind (arith, nat_tests, c.is_ascii.ensures, c.if-is_ascii.true) in
    let is = is_xid_continue-ascii c.args.c small in
    let letter : is_ascii_alphanumeric c.args.c ≡ true = sym c.is_ascii_alphanumeric.ensures.value ∙ c.if-is_ascii_alphanumeric.true in
    rw (is, letter) c.if-is_ascii_alphanumeric.true

pub returns-else-is_ascii_alphanumeric : goal.returns-else-is_ascii_alphanumeric
returns-else-is_ascii_alphanumeric c =
    let small : c.args.c < 128 = grind (arith, nat_tests, c.is_ascii.ensures, c.if-is_ascii.true) in
    let is = is_xid_continue-ascii c.args.c small in
    let other : is_ascii_alphanumeric c.args.c ≡ false = sym c.is_ascii_alphanumeric.ensures.value ∙ c.if-is_ascii_alphanumeric.false in
    rw (is, other) refl
