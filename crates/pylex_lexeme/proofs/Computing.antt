-- `unfolding lexemes` lets `refl` compute a cut.
--
-- Carries: classes, for Union.
use Rattle.unicode_ident.proofs.Computing.{unicode_ident}
use Rattle.pylex_lexeme.specs.Numbers.{is_number, is_decimal, is_radix, is_float, is_imaginary, is_exponent, is_point_after}
use Rattle.pylex_lexeme.specs.Numbers.{is_point_before, is_raised}
use Rattle.pylex_lexeme.specs.Strings.{is_string, is_prefix, is_single, is_triple, is_single_string, is_triple_string, opens_string}
use Rattle.pylex_lexeme.specs.Strings.{opens_triple, counts_as_string}
use Rattle.pylex_lexeme.specs.Operators.{operators, exact_of, is_operator}
use Rattle.pylex_lexeme.specs.Lexemes.{is_name, is_comment, are_blanks, is_line_end, is_join, plain_class, class_in, lexeme_len, lexeme_at}
use Rattle.pylex_lexeme.specs.Lexemes.{cut, left_by_cut, is_open_string}

unfoldable pub lexemes : Unit {0}
unfolding unicode_ident is_number is_decimal is_radix is_float is_imaginary is_exponent is_point_after is_point_before is_raised is_string
    is_prefix is_single is_triple is_single_string is_triple_string opens_string opens_triple counts_as_string operators exact_of
    is_operator is_name is_comment are_blanks is_line_end is_join plain_class class_in lexeme_len lexeme_at cut left_by_cut is_open_string
lexemes = tt

-- the classes, without the longest lexeme and the cut
unfoldable pub classes : Unit {0}
unfolding is_number is_decimal is_radix is_float is_imaginary is_exponent is_point_after is_point_before is_raised is_prefix is_single
    is_triple is_single_string is_triple_string operators exact_of is_operator is_name is_comment are_blanks is_line_end is_join plain_class
classes = tt
