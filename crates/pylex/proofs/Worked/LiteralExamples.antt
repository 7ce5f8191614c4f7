-- Worked numbers and strings.
--
-- Carries: no contract; its rows are computed as it is checked.
use Rattle.std.proofs.Common.{◌≡◌, [], ◌∷◌, refl, true, false}
use Rattle.std.specs.Prelude.{codes}
use Rattle.std.specs.List.{list_all, list_any}
use Rattle.pylex_lexeme.specs.Numbers.{is_number, is_decimal, is_radix, is_float, is_imaginary, is_exponent, is_point_after}
use Rattle.pylex_lexeme.specs.Numbers.{is_point_before, is_raised}
use Rattle.pylex_lexeme.specs.Strings.{is_string, is_prefix, is_single, is_triple, is_single_string, is_triple_string, opens_string}
use Rattle.pylex_lexeme.specs.Strings.{opens_triple}
use Rattle.pylex_lexeme.specs.Lexemes.{is_line_end, is_join, is_open_string}

numbers : list_all is_number (
    codes "0" ∷ codes "00" ∷ codes "0_0" ∷ codes "7" ∷ codes "1_000" ∷
    codes "0xF_f" ∷ codes "0x_1" ∷ codes "0O17" ∷ codes "0b1_0" ∷
    codes "1." ∷ codes ".5" ∷ codes "1.5" ∷ codes "1.5e-3" ∷ codes "1e5" ∷ codes "1.e5" ∷ codes "012.5" ∷ codes "012e1" ∷
    codes "012j" ∷ codes "1_0J" ∷ codes ".5e+1_0j" ∷ []) ≡ true
unfolding is_number is_decimal is_radix is_float is_imaginary is_exponent is_point_after is_point_before is_raised
numbers = refl

no_numbers : list_any is_number (
    [] ∷ codes "012" ∷ codes "1_" ∷ codes "1__0" ∷ codes "_1" ∷ codes "-1" ∷
    codes "0x" ∷ codes "0xg" ∷ codes "0b2" ∷ codes "0_x1" ∷
    codes "." ∷ codes ".e1" ∷ codes "1e" ∷ codes "1e+" ∷ codes "1e_1" ∷ codes "1._5" ∷ codes "1..2" ∷
    codes "j" ∷ codes "0x1j" ∷ codes "1jj" ∷ []) ≡ false
unfolding is_number is_decimal is_radix is_float is_imaginary is_exponent is_point_after is_point_before is_raised
no_numbers = refl

strings : list_all is_string (
    codes "''" ∷ codes "'a'" ∷ codes "\"a'\"" ∷ codes "Rb'a\\''" ∷ codes "f'\\\\'" ∷
    codes "bR\"\"\"a\"\"b\n\"\"\"" ∷ codes "''''a'''" ∷ codes "''''''" ∷ codes "'''\\''''" ∷
    codes "u'\\\n'" ∷ (39 ∷ 92 ∷ 13 ∷ 10 ∷ 39 ∷ []) ∷ (39 ∷ 92 ∷ 13 ∷ 39 ∷ []) ∷ []) ≡ true
unfolding is_string is_prefix is_single is_triple is_single_string is_triple_string
strings = refl

no_strings : list_any is_string (
    [] ∷ codes "'" ∷ codes "'a\\'" ∷ codes "'a''" ∷ codes "'\n'" ∷ codes "'a\"" ∷
    codes "'''" ∷ codes "'''''" ∷ codes "'''a''''" ∷ codes "'''\\'''" ∷
    codes "ub''" ∷ codes "bu''" ∷ codes "rr''" ∷ (39 ∷ 92 ∷ 13 ∷ 10 ∷ 10 ∷ 39 ∷ []) ∷ []) ≡ false
unfolding is_string is_prefix is_single is_triple is_single_string is_triple_string
no_strings = refl

openers : list_all opens_string (codes "Br'" ∷ codes "'" ∷ codes "u\"a" ∷ []) ≡ true
unfolding opens_string is_prefix
openers = refl

no_openers : list_any opens_string ([] ∷ codes "x" ∷ codes "r" ∷ codes "rx'" ∷ codes "ur'" ∷ codes " '" ∷ []) ≡ false
unfolding opens_string is_prefix
no_openers = refl

triples : list_all opens_triple (codes "Br'''" ∷ codes "\"\"\"" ∷ []) ≡ true
unfolding opens_triple is_prefix
triples = refl

no_triples : list_any opens_triple (codes "''" ∷ codes "r'' '" ∷ codes "'\"'" ∷ []) ≡ false
unfolding opens_triple is_prefix
no_triples = refl

open_strings : list_all is_open_string (
    codes "'''" ∷ codes "rb\"\"\"a\n" ∷ codes "'a\\\n" ∷ codes "u'\\\na\\\n" ∷ (34 ∷ 97 ∷ 92 ∷ 13 ∷ 10 ∷ []) ∷ []) ≡ true
unfolding is_open_string opens_triple is_prefix is_join is_line_end
open_strings = refl

no_open_strings : list_any is_open_string (
    [] ∷ codes "'" ∷ codes "'a" ∷ codes "'a\n" ∷ codes "'a\\" ∷ codes "'a\\\\\n" ∷ codes "'a\\\nb" ∷ codes "'a\\\n\n" ∷ codes "a\\\n" ∷
    codes "ur'\\\n" ∷ []) ≡ false
unfolding is_open_string opens_triple is_prefix is_join is_line_end
no_open_strings = refl
