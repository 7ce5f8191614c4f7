-- Worked tokens: where their terminals stand, by computation; the offsets of names are those of Python's `ast` (3.11).
--
-- Carries: no contract; its rows are computed as it is checked.
use lib.Utf8.{encode}
use Rattle.std.proofs.Common.{◌≡◌, [], ◌∷◌, ◌++◌, refl}
use Rattle.std.specs.Prelude.{codes}
use Rattle.pylex_lexeme.proofs.Callers.Lexemes.{lexemes}
use Rattle.pylex_listing.specs.declared.kind.Kind.TheVariants as kinds
use Rattle.pyfstring.specs.Texts.{unit_len, after_text}
use Rattle.pyfstring.specs.Expressions.{step, following_expression}
use Rattle.pyfstring.specs.Cutting.{before, text_at, expression_at, kept_at, conversion_at, front_at, spec_at, after_closing, field_at}
use Rattle.pyfstring.specs.Cutting.{cut_at, inner_field_at, spec_pieces_at, body_field_at, body_pieces_at, cut_of}
use Rattle.pyparse_marks.specs.Spans.{span}
use Rattle.pyparse_marks.specs.TokenSpans.{past_expression, past_formatted, token_spans}
use Rattle.pyparse_marks.specs.LineSpans.{offset}

unfoldable spans : Unit {0}
unfolding lexemes encode unit_len after_text step following_expression before text_at expression_at kept_at conversion_at front_at spec_at
    after_closing field_at cut_at inner_field_at spec_pieces_at body_field_at body_pieces_at cut_of past_expression past_formatted
    token_spans
spans = tt

-- a NAME of two bytes
name : token_spans 4 kinds.Name (233 ∷ []) ≡ span 4 6 ∷ []
unfolding spans
name = refl

-- a STRING that is no f-string
string : token_spans 0 kinds.String (codes "'{x}'") ≡ span 0 5 ∷ []
unfolding spans
string = refl

-- f'a{x}b'
formatted : token_spans 10 kinds.String (codes "f'a{x}b'") ≡
    span 10 18 ∷
    span 10 18 ∷
    span 10 18 ∷ span 13 14 ∷ span 14 15 ∷ span 15 16 ∷ span 10 18 ∷
    span 10 18 ∷
    span 10 18 ∷ []
unfolding spans
formatted = refl

-- f"{x!r:>{n}}"
specified : token_spans 0 kinds.String (codes "f\"{x!r:>{n}}\"") ≡
    span 0 13 ∷
    span 0 13 ∷
    span 0 13 ∷ span 2 3 ∷ span 3 4 ∷ span 4 5 ∷
    span 0 13 ∷ span 0 13 ∷
    span 0 13 ∷ span 8 9 ∷ span 9 10 ∷ span 10 11 ∷ span 0 13 ∷
    span 0 13 ∷
    span 0 13 ∷
    span 0 13 ∷
    span 0 13 ∷ []
unfolding spans
specified = refl

-- f'{x=!r}{y}': the conversion is passed, which the cut of the body doesn't tell from none
kept : token_spans 0 kinds.String (codes "f'{x=!r}{y}'") ≡
    span 0 12 ∷
    span 0 12 ∷
    span 0 12 ∷
    span 0 12 ∷ span 2 3 ∷ span 3 4 ∷ span 4 5 ∷ span 0 12 ∷
    span 0 12 ∷
    span 0 12 ∷ span 8 9 ∷ span 9 10 ∷ span 10 11 ∷ span 0 12 ∷
    span 0 12 ∷
    span 0 12 ∷ []
unfolding spans
kept = refl

-- f'{a, b}'
tuple : token_spans 0 kinds.String (codes "f'{a, b}'") ≡
    span 0 9 ∷
    span 0 9 ∷
    span 0 9 ∷ span 2 3 ∷ span 3 4 ∷ span 4 5 ∷ span 6 7 ∷ span 7 8 ∷ span 0 9 ∷
    span 0 9 ∷
    span 0 9 ∷ []
unfolding spans
tuple = refl

-- f'{f"a{x}"}'
nested : token_spans 0 kinds.String (codes "f'{f\"a{x}\"}'") ≡
    span 0 12 ∷
    span 0 12 ∷
    span 0 12 ∷ span 2 3 ∷
    span 3 10 ∷ span 3 10 ∷
    span 3 10 ∷ span 6 7 ∷ span 7 8 ∷ span 8 9 ∷ span 3 10 ∷
    span 3 10 ∷ span 3 10 ∷
    span 10 11 ∷ span 0 12 ∷
    span 0 12 ∷
    span 0 12 ∷ []
unfolding spans
nested = refl

-- rf'''\n{x}''', with an LF and a letter of two bytes before its field
long : token_spans 0 kinds.String (codes "rf'''" ++ 10 ∷ 233 ∷ codes "{x}'''") ≡
    span 0 14 ∷
    span 0 14 ∷
    span 0 14 ∷ span 8 9 ∷ span 9 10 ∷ span 10 11 ∷ span 0 14 ∷
    span 0 14 ∷
    span 0 14 ∷ []
unfolding spans
long = refl

-- places, as bytes
in_first_row : offset 1 4 (233 ∷ codes " = x") ≡ 5
unfolding spans
in_first_row = refl

in_second_row : offset 2 1 (233 ∷ 10 ∷ codes "ab") ≡ 4
unfolding spans
in_second_row = refl
