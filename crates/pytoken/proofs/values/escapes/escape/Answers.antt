use Rattle.std.proofs.Common.{ℕ, refl, sym, ◌∙◌, ap, Option, is_some}
use Rattle.pytoken.proofs.values.EscapeLemmas.{takes_by, by_end, by_feed, by_octal, no_octal, by_hexadecimal, by_name, by_letter, by_other}
use Rattle.pytoken.proofs.values.escapes.escape.Goals as goal

pub returns-in_default : goal.returns-in_default
returns-in_default c =
    let none = sym c.first.ensures ∙ c.in_default.is in
    takes_by _ _ _ _ _ (by_end c.args.bytes c.args.text.now none) (record { meaning = refl; following = refl })

pub returns-then-first-eq10 : goal.returns-then-first-eq10
returns-then-first-eq10 c =
    let first = sym c.first.ensures ∙ c.in-Some.is in
    takes_by _ _ _ _ _ (by_feed c.args.bytes c.in-Some.first c.args.text.now first c.if-first-eq10.true) c.letter.ensures

pub returns-then-is_some : goal.returns-then-is_some
returns-then-is_some c =
    let first = sym c.first.ensures ∙ c.in-Some.is in
    takes_by _ _ _ _ _ (by_octal c.args.bytes c.in-Some.first c.args.text.now first c.if-first-eq10.false
    (ap (λ (o : Option ℕ). is_some o) (sym c.digit.ensures) ∙ sym c.if-is_some.ensures)) c.octal.ensures

pub returns-then-wanted-gt0 : goal.returns-then-wanted-gt0
returns-then-wanted-gt0 c =
    let first = sym c.first.ensures ∙ c.in-Some.is in
    let other = no_octal c.in-Some.first c.args.text.now first c.if-first-eq10.false
    (ap (λ (o : Option ℕ). is_some o) (sym c.digit.ensures) ∙ sym c.if-is_some.ensures) in
    takes_by _ _ _ _ _ (by_hexadecimal c.args.bytes c.in-Some.first c.hexadecimal_len-wanted.result c.args.text.now other
    c.hexadecimal_len-wanted.ensures.len c.if-wanted-gt0.true) c.hexadecimal.ensures

pub returns-then-names_character : goal.returns-then-names_character
returns-then-names_character c =
    let first = sym c.first.ensures ∙ c.in-Some.is in
    let other = no_octal c.in-Some.first c.args.text.now first c.if-first-eq10.false
    (ap (λ (o : Option ℕ). is_some o) (sym c.digit.ensures) ∙ sym c.if-is_some.ensures) in
    takes_by _ _ _ _ _ (by_name c.args.bytes c.in-Some.first c.hexadecimal_len-wanted.result c.args.text.now other
    c.hexadecimal_len-wanted.ensures.len c.if-wanted-gt0.false (sym c.if-names_character.ensures)) c.letter-then-names_character.ensures

pub returns-in-Some-point_of : goal.returns-in-Some-point_of
returns-in-Some-point_of c =
    let first = sym c.first.ensures ∙ c.in-Some.is in
    let other = no_octal c.in-Some.first c.args.text.now first c.if-first-eq10.false
    (ap (λ (o : Option ℕ). is_some o) (sym c.digit.ensures) ∙ sym c.if-is_some.ensures) in
    takes_by _ _ _ _ _ (by_letter c.args.bytes c.in-Some.first c.hexadecimal_len-wanted.result
    c.in-Some-point_of.point c.args.text.now other
    c.hexadecimal_len-wanted.ensures.len c.if-wanted-gt0.false (sym c.if-names_character.ensures)
    (sym c.point_of.ensures ∙ c.in-Some-point_of.is)) c.letter-in-Some-point_of.ensures

pub returns-in-None : goal.returns-in-None
returns-in-None c =
    let first = sym c.first.ensures ∙ c.in-Some.is in
    let other = no_octal c.in-Some.first c.args.text.now first c.if-first-eq10.false
    (ap (λ (o : Option ℕ). is_some o) (sym c.digit.ensures) ∙ sym c.if-is_some.ensures) in
    takes_by _ _ _ _ _ (by_other c.args.bytes c.in-Some.first c.hexadecimal_len-wanted.result c.args.text.now other
    c.hexadecimal_len-wanted.ensures.len c.if-wanted-gt0.false (sym c.if-names_character.ensures) (sym c.point_of.ensures ∙ c.in-None.is))
    (record { meaning = refl; following = refl })
