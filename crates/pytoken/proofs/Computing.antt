-- `unfolding values` lets `refl` compute what the text of a token stands for, `unfolding sources`
-- the tokens and lines of a source.
--
-- Carries: sources, values, for RefusalRows, TokenRows, ValueRows.
use lib.Utf8.{encode}
use lib.Ieee.{round}
use Rattle.std.specs.Str.{chars}
use Rattle.std.specs.Float.Numeral.{scan_numeral}
use Rattle.unicode_normalization.proofs.Computing.{unicode_normalization}
use Rattle.pysource.specs.Places.{place_after}
use Rattle.pylex_lexeme.proofs.Callers.Lexemes.{lexemes}
use Rattle.pynumber.specs.Readings.{written, most_digits}
use Rattle.pynumber.specs.FloatValues.{float_value}
use Rattle.pylex_lexeme.specs.Cuts.{begins_significant}
use Rattle.pylex_listing.specs.Margins.{width_by_one}
use Rattle.pylex_listing.specs.Lines.{depth, line_so_far, is_at_margin, is_logical}
use Rattle.pylex_listing.specs.Indentation.{width_from, width_at, widths, open_levels, layout_by, layout}
use Rattle.pylex_listing.specs.Listing.{entry_of, steps_of, stop_fault, last_line, line_end_of_last, end_place, tail, stop, listing}
use Rattle.pyfstring.specs.Texts.{unit_len, after_text}
use Rattle.pyfstring.specs.Expressions.{step, following_expression}
use Rattle.pyfstring.specs.Singles.{single}
use Rattle.pyfstring.specs.Cutting.{before, text_at, expression_at, kept_at, conversion_at, front_at, spec_at, after_closing, field_at}
use Rattle.pyfstring.specs.Cutting.{cut_at, inner_field_at, spec_pieces_at, body_field_at, body_pieces_at, cut_of}
use Rattle.pyfstring_tokens.specs.FieldTokens.{field_tokens, has_fault, closes_outer, has_comment}
use Rattle.pytoken.specs.Keywords.{keywords, keyword_of}
use Rattle.pytoken.specs.FormattedStrings.{text_meanings, text_points, elements_of, elements_fault, is_faulty_by}
use Rattle.pytoken.specs.NumberValues.{whole_value, number_value, number_fault}
use Rattle.pytoken.specs.Escapes.{escaped_by, meanings, escape_fault}
use Rattle.pytoken.specs.StringValues.{points_of, value_of, string_value, nul_fault, literal_fault, string_fault}
use Rattle.pytoken.specs.NameValues.{form_fault, name_fault}
use Rattle.pytoken.specs.Terminals.{terminal_of, single_fault, terminals_by, fault_by, nested_expression, expression, fault_of}
use Rattle.pytoken.specs.Tokens.{tokens, lines}

-- the listing of a source, as pylex has it for itself
unfoldable listings : Unit {0}
unfolding lexemes encode place_after depth line_so_far is_at_margin is_logical width_from width_at widths open_levels
    layout_by layout entry_of
    steps_of stop_fault last_line line_end_of_last end_place tail stop listing
listings = tt

-- what the digits of a number write, and its double
unfoldable number_words : Unit {0}
unfolding written most_digits round scan_numeral float_value
number_words = tt

unfoldable pub values : Unit {0}
unfolding lexemes encode unicode_normalization keywords keyword_of whole_value number_value number_fault number_words escaped_by meanings
    points_of value_of string_value nul_fault
    escape_fault literal_fault string_fault form_fault name_fault terminal_of single_fault terminals_by fault_by fault_of
values = tt

-- what an f-string is cut into
unfoldable cuts : Unit {0}
unfolding unit_len after_text step following_expression before text_at expression_at kept_at conversion_at front_at spec_at
    after_closing field_at cut_at
    inner_field_at spec_pieces_at body_field_at body_pieces_at cut_of single
cuts = tt

-- and the tokens of its fields
unfoldable field_words : Unit {0}
unfolding field_tokens has_fault closes_outer has_comment
field_words = tt

unfoldable pub formatted : Unit {0}
unfolding values listings chars cuts field_words text_meanings text_points elements_of elements_fault is_faulty_by
    nested_expression expression
formatted = tt

unfoldable pub sources : Unit {0}
unfolding listings chars begins_significant width_by_one tokens lines
sources = tt
