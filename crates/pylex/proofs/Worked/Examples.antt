-- Worked examples: listings, cursors and what a lister gives that goes on from one, by computation.
--
-- Carries: no contract; its rows are computed as it is checked. On: Computing.
use Rattle.std.proofs.Common.{◌≡◌, ℕ, List, [], ◌∷◌, refl, Some, None, Option, true, false}
use Rattle.std.specs.Prelude.{codes}
use Rattle.pylex_listing.specs.declared.kind.Kind.{Kind}
use Rattle.pylex_listing.specs.declared.kind.Kind.TheVariants as kinds
use Rattle.pysource.specs.declared.places.Place.{Place}
use Rattle.pylex_listing.specs.declared.entries.ListingFault.{ListingFault}
use Rattle.pylex_listing.specs.declared.entries.Step.{Step}
use Rattle.pylex_listing.specs.declared.entries.Step.TheVariants as steps
use Rattle.pylex_listing.specs.declared.entries.ListingError.TheVariants as errors
use Rattle.pysource.specs.declared.faults.LineError.TheVariants as lines
use Rattle.pylex_lexeme.specs.declared.kinds.Exact.{Exact}
use Rattle.pylex_lexeme.specs.declared.kinds.Exact.TheVariants as exacts
use Rattle.pylex_listing.specs.Listing.{Source, listing, rest}
use Rattle.pylex.specs.Cursors.{cursor, cursor_text}
use Rattle.pylex.proofs.Worked.Computing.{listings, cursors, standings}
use Rattle.pylex.specs.Standing.{to_give, standing, standing_by}

abbrev at : ℕ → ℕ → Place
at r c = record { row = r; column = c }

abbrev source : List ℕ → Option ListingFault → Source
source t f = record { encoding = codes "utf-8"; text = t; fault = f }

abbrev entry : Kind → ℕ → ℕ → ℕ → ℕ → ℕ → ℕ → Step
entry k r c s d a b = steps.Entry (record { kind = k; exact = None; start = at r c; «end» = at s d; «from» = a; to = b })

abbrev op : Exact → ℕ → ℕ → ℕ → ℕ → ℕ → ℕ → Step
op e r c s d a b = steps.Entry (record { kind = kinds.Op; exact = Some e; start = at r c; «end» = at s d; «from» = a; to = b })

--
empty_source : listing (source ([]) None) ≡
    entry kinds.Encoding 0 0 0 0 0 0 ∷
    entry kinds.EndMarker 1 0 1 0 0 0 ∷
    steps.End ∷ []
unfolding listings
empty_source = refl

-- x
name_without_line_end : listing (source (codes "x") None) ≡
    entry kinds.Encoding 0 0 0 0 0 0 ∷
    entry kinds.Name 1 0 1 1 0 1 ∷
    entry kinds.Newline 1 1 1 2 1 1 ∷
    entry kinds.EndMarker 2 0 2 0 1 1 ∷
    steps.End ∷ []
unfolding listings
name_without_line_end = refl

-- if x:\n\ty\n
one_block : listing (source ((105 ∷ 102 ∷ 32 ∷ 120 ∷ 58 ∷ 10 ∷ 9 ∷ 121 ∷ 10 ∷ [])) None) ≡
    entry kinds.Encoding 0 0 0 0 0 0 ∷
    entry kinds.Name 1 0 1 2 0 2 ∷
    entry kinds.Name 1 3 1 4 3 4 ∷
    op exacts.Colon 1 4 1 5 4 5 ∷
    entry kinds.Newline 1 5 1 6 5 6 ∷
    entry kinds.Indent 2 0 2 1 6 7 ∷
    entry kinds.Name 2 1 2 2 7 8 ∷
    entry kinds.Newline 2 2 2 3 8 9 ∷
    entry kinds.Dedent 3 0 3 0 9 9 ∷
    entry kinds.EndMarker 3 0 3 0 9 9 ∷
    steps.End ∷ []
unfolding listings
one_block = refl

-- if a:\n    b\n  c\n
unindent_mismatch : listing (source (codes "if a:\n    b\n  c\n") None) ≡
    entry kinds.Encoding 0 0 0 0 0 0 ∷
    entry kinds.Name 1 0 1 2 0 2 ∷
    entry kinds.Name 1 3 1 4 3 4 ∷
    op exacts.Colon 1 4 1 5 4 5 ∷
    entry kinds.Newline 1 5 1 6 5 6 ∷
    entry kinds.Indent 2 0 2 4 6 10 ∷
    entry kinds.Name 2 4 2 5 10 11 ∷
    entry kinds.Newline 2 5 2 6 11 12 ∷
    steps.Fault (record { code = errors.UnindentMismatch; place = at 3 2 }) ∷ []
unfolding listings
unindent_mismatch = refl

-- x = 1 \\\n\ny\n
empty_line_after_join : listing (source (codes "x = 1 \\\n\ny\n") None) ≡
    entry kinds.Encoding 0 0 0 0 0 0 ∷
    entry kinds.Name 1 0 1 1 0 1 ∷
    op exacts.Equal 1 2 1 3 2 3 ∷
    entry kinds.Number 1 4 1 5 4 5 ∷
    entry kinds.Newline 2 0 2 1 8 9 ∷
    entry kinds.Name 3 0 3 1 9 10 ∷
    entry kinds.Newline 3 1 3 2 10 11 ∷
    entry kinds.EndMarker 4 0 4 0 11 11 ∷
    steps.End ∷ []
unfolding listings
empty_line_after_join = refl

-- f(1,\n  # c\n
bracket_not_closed : listing (source (codes "f(1,\n  # c\n") None) ≡
    entry kinds.Encoding 0 0 0 0 0 0 ∷
    entry kinds.Name 1 0 1 1 0 1 ∷
    op exacts.LPar 1 1 1 2 1 2 ∷
    entry kinds.Number 1 2 1 3 2 3 ∷
    op exacts.Comma 1 3 1 4 3 4 ∷
    entry kinds.Nl 1 4 1 5 4 5 ∷
    entry kinds.Comment 2 2 2 5 7 10 ∷
    entry kinds.Nl 2 5 2 6 10 11 ∷
    steps.Fault (record { code = errors.EofInStatement; place = at 3 0 }) ∷ []
unfolding listings
bracket_not_closed = refl

-- # c
comment_without_line_end : listing (source (codes "# c") None) ≡
    entry kinds.Encoding 0 0 0 0 0 0 ∷
    entry kinds.Comment 1 0 1 3 0 3 ∷
    entry kinds.Nl 1 3 1 3 3 3 ∷
    entry kinds.EndMarker 2 0 2 0 3 3 ∷
    steps.End ∷ []
unfolding listings
comment_without_line_end = refl

-- \xef\xbb\xbf\xc3\xa9 = '\xc3\xbc'\n
names_past_ascii : listing (source ((233 ∷ 32 ∷ 61 ∷ 32 ∷ 39 ∷ 252 ∷ 39 ∷ 10 ∷ [])) None) ≡
    entry kinds.Encoding 0 0 0 0 0 0 ∷
    entry kinds.Name 1 0 1 1 0 2 ∷
    op exacts.Equal 1 2 1 3 3 4 ∷
    entry kinds.String 1 4 1 7 5 9 ∷
    entry kinds.Newline 1 7 1 8 9 10 ∷
    entry kinds.EndMarker 2 0 2 0 10 10 ∷
    steps.End ∷ []
unfolding listings
names_past_ascii = refl

-- a\nb\xff\n
next_line_faulty : listing (source (codes "a\n") (Some (record { code = errors.Line lines.NotUtf8; place = at 2 1 }))) ≡
    entry kinds.Encoding 0 0 0 0 0 0 ∷
    entry kinds.Name 1 0 1 1 0 1 ∷
    entry kinds.Newline 1 1 1 2 1 2 ∷
    steps.Fault (record { code = errors.Line lines.NotUtf8; place = at 2 1 }) ∷ []
unfolding listings
next_line_faulty = refl

-- 012\n
zero_before_digits : listing (source (codes "012\n") None) ≡
    entry kinds.Encoding 0 0 0 0 0 0 ∷
    entry kinds.Number 1 0 1 1 0 1 ∷
    entry kinds.Number 1 1 1 3 1 3 ∷
    entry kinds.Newline 1 3 1 4 3 4 ∷
    entry kinds.EndMarker 2 0 2 0 4 4 ∷
    steps.End ∷ []
unfolding listings
zero_before_digits = refl

-- x = 1.5\n
number_with_point : listing (source (codes "x = 1.5\n") None) ≡
    entry kinds.Encoding 0 0 0 0 0 0 ∷
    entry kinds.Name 1 0 1 1 0 1 ∷
    op exacts.Equal 1 2 1 3 2 3 ∷
    entry kinds.Number 1 4 1 7 4 7 ∷
    entry kinds.Newline 1 7 1 8 7 8 ∷
    entry kinds.EndMarker 2 0 2 0 8 8 ∷
    steps.End ∷ []
unfolding listings
number_with_point = refl

-- if a:\n if b:\n  c\nd\n
two_blocks : listing (source (codes "if a:\n if b:\n  c\nd\n") None) ≡
    entry kinds.Encoding 0 0 0 0 0 0 ∷
    entry kinds.Name 1 0 1 2 0 2 ∷
    entry kinds.Name 1 3 1 4 3 4 ∷
    op exacts.Colon 1 4 1 5 4 5 ∷
    entry kinds.Newline 1 5 1 6 5 6 ∷
    entry kinds.Indent 2 0 2 1 6 7 ∷
    entry kinds.Name 2 1 2 3 7 9 ∷
    entry kinds.Name 2 4 2 5 10 11 ∷
    op exacts.Colon 2 5 2 6 11 12 ∷
    entry kinds.Newline 2 6 2 7 12 13 ∷
    entry kinds.Indent 3 0 3 2 13 15 ∷
    entry kinds.Name 3 2 3 3 15 16 ∷
    entry kinds.Newline 3 3 3 4 16 17 ∷
    entry kinds.Dedent 4 0 4 0 17 17 ∷
    entry kinds.Dedent 4 0 4 0 17 17 ∷
    entry kinds.Name 4 0 4 1 17 18 ∷
    entry kinds.Newline 4 1 4 2 18 19 ∷
    entry kinds.EndMarker 5 0 5 0 19 19 ∷
    steps.End ∷ []
unfolding listings
two_blocks = refl

-- if x:\n        y\n\tz\n
tab_as_wide_as_blanks : listing
    (source ((105 ∷ 102 ∷ 32 ∷ 120 ∷ 58 ∷ 10 ∷ 32 ∷ 32 ∷ 32 ∷ 32 ∷ 32 ∷ 32 ∷ 32 ∷ 32 ∷ 121 ∷ 10 ∷ 9 ∷ 122 ∷ 10 ∷ [])) None) ≡
    entry kinds.Encoding 0 0 0 0 0 0 ∷
    entry kinds.Name 1 0 1 2 0 2 ∷
    entry kinds.Name 1 3 1 4 3 4 ∷
    op exacts.Colon 1 4 1 5 4 5 ∷
    entry kinds.Newline 1 5 1 6 5 6 ∷
    entry kinds.Indent 2 0 2 8 6 14 ∷
    entry kinds.Name 2 8 2 9 14 15 ∷
    entry kinds.Newline 2 9 2 10 15 16 ∷
    entry kinds.Name 3 1 3 2 17 18 ∷
    entry kinds.Newline 3 2 3 3 18 19 ∷
    entry kinds.Dedent 4 0 4 0 19 19 ∷
    entry kinds.EndMarker 4 0 4 0 19 19 ∷
    steps.End ∷ []
unfolding listings
tab_as_wide_as_blanks = refl

-- x\r\n
carriage_return_line_feed : listing (source ((120 ∷ 13 ∷ 10 ∷ [])) None) ≡
    entry kinds.Encoding 0 0 0 0 0 0 ∷
    entry kinds.Name 1 0 1 1 0 1 ∷
    entry kinds.Newline 1 1 1 3 1 3 ∷
    entry kinds.EndMarker 2 0 2 0 3 3 ∷
    steps.End ∷ []
unfolding listings
carriage_return_line_feed = refl

-- x\ry\n
lone_return : listing (source ([]) (Some (record { code = errors.Line lines.LoneReturn; place = at 1 1 }))) ≡
    entry kinds.Encoding 0 0 0 0 0 0 ∷
    steps.Fault (record { code = errors.Line lines.LoneReturn; place = at 1 1 }) ∷ []
unfolding listings
lone_return = refl

-- x = '''a\nb\n
triple_not_ended : listing (source (codes "x = '''a\nb\n") None) ≡
    entry kinds.Encoding 0 0 0 0 0 0 ∷
    entry kinds.Name 1 0 1 1 0 1 ∷
    op exacts.Equal 1 2 1 3 2 3 ∷
    steps.Fault (record { code = errors.EofInString; place = at 1 4 }) ∷ []
unfolding listings
triple_not_ended = refl

-- x b'a\n
prefix_before_unended : listing (source (codes "x b'a\n") None) ≡
    entry kinds.Encoding 0 0 0 0 0 0 ∷
    entry kinds.Name 1 0 1 1 0 1 ∷
    steps.Fault (record { code = errors.UnterminatedString; place = at 1 2 }) ∷ []
unfolding listings
prefix_before_unended = refl

-- )\n
unmatched_closer : listing (source (codes ")\n") None) ≡
    entry kinds.Encoding 0 0 0 0 0 0 ∷
    steps.Fault (record { code = errors.UnmatchedCloser; place = at 1 0 }) ∷ []
unfolding listings
unmatched_closer = refl

-- x $\n
unexpected_character : listing (source (codes "x $\n") None) ≡
    entry kinds.Encoding 0 0 0 0 0 0 ∷
    entry kinds.Name 1 0 1 1 0 1 ∷
    steps.Fault (record { code = errors.BadCharacter; place = at 1 2 }) ∷ []
unfolding listings
unexpected_character = refl

-- x //= 2\n
double_slash_equal : listing (source (codes "x //= 2\n") None) ≡
    entry kinds.Encoding 0 0 0 0 0 0 ∷
    entry kinds.Name 1 0 1 1 0 1 ∷
    op exacts.DoubleSlashEqual 1 2 1 5 2 5 ∷
    entry kinds.Number 1 6 1 7 6 7 ∷
    entry kinds.Newline 1 7 1 8 7 8 ∷
    entry kinds.EndMarker 2 0 2 0 8 8 ∷
    steps.End ∷ []
unfolding listings
double_slash_equal = refl

-- x\n
last_line_of_blanks : listing (source (codes "x\n  ") None) ≡
    entry kinds.Encoding 0 0 0 0 0 0 ∷
    entry kinds.Name 1 0 1 1 0 1 ∷
    entry kinds.Newline 1 1 1 2 1 2 ∷
    entry kinds.EndMarker 2 0 2 0 4 4 ∷
    steps.End ∷ []
unfolding listings
last_line_of_blanks = refl

-- if a:\n  b\n\\\n
dedent_before_open_statement : listing (source (codes "if a:\n  b\n\\\n") None) ≡
    entry kinds.Encoding 0 0 0 0 0 0 ∷
    entry kinds.Name 1 0 1 2 0 2 ∷
    entry kinds.Name 1 3 1 4 3 4 ∷
    op exacts.Colon 1 4 1 5 4 5 ∷
    entry kinds.Newline 1 5 1 6 5 6 ∷
    entry kinds.Indent 2 0 2 2 6 8 ∷
    entry kinds.Name 2 2 2 3 8 9 ∷
    entry kinds.Newline 2 3 2 4 9 10 ∷
    entry kinds.Dedent 3 0 3 0 10 10 ∷
    steps.Fault (record { code = errors.EofInStatement; place = at 4 0 }) ∷ []
unfolding listings
dedent_before_open_statement = refl

--  after 0: pytok1 0 0 1 0 0 0 0
cursor_at_start : cursor_text (cursor (source ([]) None) 0) ≡ codes "pytok1 0 0 1 0 0 0 0"
unfolding listings cursors
cursor_at_start = refl

-- if x:\n\ty\n after 7: pytok1 7 8 2 0 1 0 0,8
cursor_in_block : cursor_text (cursor (source ((105 ∷ 102 ∷ 32 ∷ 120 ∷ 58 ∷ 10 ∷ 9 ∷ 121 ∷ 10 ∷ [])) None) 7) ≡ codes
    "pytok1 7 8 2 0 1 0 0,8"
unfolding listings cursors
cursor_in_block = refl

rest_in_block : rest (source ((105 ∷ 102 ∷ 32 ∷ 120 ∷ 58 ∷ 10 ∷ 9 ∷ 121 ∷ 10 ∷ [])) None) 7 ≡
    entry kinds.Newline 2 2 2 3 8 9 ∷
    entry kinds.Dedent 3 0 3 0 9 9 ∷
    entry kinds.EndMarker 3 0 3 0 9 9 ∷
    steps.End ∷ []
unfolding listings
rest_in_block = refl

-- if a:\n if b:\n  c\nd\n after 14: pytok1 14 17 4 0 0 1 0,1,2
cursor_among_dedents : cursor_text (cursor (source (codes "if a:\n if b:\n  c\nd\n") None) 14) ≡ codes "pytok1 14 17 4 0 0 1 0,1,2"
unfolding listings cursors
cursor_among_dedents = refl

rest_among_dedents : rest (source (codes "if a:\n if b:\n  c\nd\n") None) 14 ≡
    entry kinds.Dedent 4 0 4 0 17 17 ∷
    entry kinds.Name 4 0 4 1 17 18 ∷
    entry kinds.Newline 4 1 4 2 18 19 ∷
    entry kinds.EndMarker 5 0 5 0 19 19 ∷
    steps.End ∷ []
unfolding listings
rest_among_dedents = refl

-- x after 3: pytok1 3 1 1 0 1 1 0
cursor_after_empty_line_end : cursor_text (cursor (source (codes "x") None) 3) ≡ codes "pytok1 3 1 1 0 1 1 0"
unfolding listings cursors
cursor_after_empty_line_end = refl

rest_after_empty_line_end : rest (source (codes "x") None) 3 ≡
    entry kinds.EndMarker 2 0 2 0 1 1 ∷
    steps.End ∷ []
unfolding listings
rest_after_empty_line_end = refl

-- x after 4: pytok1 4 1 1 0 1 2 0
cursor_after_marker : cursor_text (cursor (source (codes "x") None) 4) ≡ codes "pytok1 4 1 1 0 1 2 0"
unfolding listings cursors
cursor_after_marker = refl

rest_after_marker : rest (source (codes "x") None) 4 ≡
    steps.End ∷ []
unfolding listings
rest_after_marker = refl

-- if a:\n    b\n  c\n after 8: pytok1 8 12 3 0 0 0 0,4
cursor_before_mismatch : cursor_text (cursor (source (codes "if a:\n    b\n  c\n") None) 8) ≡ codes "pytok1 8 12 3 0 0 0 0,4"
unfolding listings cursors
cursor_before_mismatch = refl

rest_before_mismatch : rest (source (codes "if a:\n    b\n  c\n") None) 8 ≡
    steps.Fault (record { code = errors.UnindentMismatch; place = at 3 2 }) ∷ []
unfolding listings
rest_before_mismatch = refl

-- if x:\n\ty\n after 6: pytok1 6 7 2 0 1 0 0,8
cursor_after_indent : cursor_text (cursor (source ((105 ∷ 102 ∷ 32 ∷ 120 ∷ 58 ∷ 10 ∷ 9 ∷ 121 ∷ 10 ∷ [])) None) 6) ≡ codes
    "pytok1 6 7 2 0 1 0 0,8"
unfolding listings cursors
cursor_after_indent = refl

-- \\\n# c\n after 2: pytok1 2 5 2 0 1 0 0
cursor_after_joined_comment : cursor_text (cursor (source (codes "\\\n# c\n") None) 2) ≡ codes "pytok1 2 5 2 0 1 0 0"
unfolding listings cursors
cursor_after_joined_comment = refl

-- 012.5\n
number_whole_1 : listing (source (codes "012.5\n") None) ≡
    entry kinds.Encoding 0 0 0 0 0 0 ∷
    entry kinds.Number 1 0 1 5 0 5 ∷
    entry kinds.Newline 1 5 1 6 5 6 ∷
    entry kinds.EndMarker 2 0 2 0 6 6 ∷
    steps.End ∷ []
unfolding listings
number_whole_1 = refl

-- 012e1\n
number_whole_2 : listing (source (codes "012e1\n") None) ≡
    entry kinds.Encoding 0 0 0 0 0 0 ∷
    entry kinds.Number 1 0 1 5 0 5 ∷
    entry kinds.Newline 1 5 1 6 5 6 ∷
    entry kinds.EndMarker 2 0 2 0 6 6 ∷
    steps.End ∷ []
unfolding listings
number_whole_2 = refl

-- 012j\n
number_whole_3 : listing (source (codes "012j\n") None) ≡
    entry kinds.Encoding 0 0 0 0 0 0 ∷
    entry kinds.Number 1 0 1 4 0 4 ∷
    entry kinds.Newline 1 4 1 5 4 5 ∷
    entry kinds.EndMarker 2 0 2 0 5 5 ∷
    steps.End ∷ []
unfolding listings
number_whole_3 = refl

-- 1._5\n
number_parts_1 : listing (source (codes "1._5\n") None) ≡
    entry kinds.Encoding 0 0 0 0 0 0 ∷
    entry kinds.Number 1 0 1 2 0 2 ∷
    entry kinds.Name 1 2 1 4 2 4 ∷
    entry kinds.Newline 1 4 1 5 4 5 ∷
    entry kinds.EndMarker 2 0 2 0 5 5 ∷
    steps.End ∷ []
unfolding listings
number_parts_1 = refl

-- 0x\n
number_parts_2 : listing (source (codes "0x\n") None) ≡
    entry kinds.Encoding 0 0 0 0 0 0 ∷
    entry kinds.Number 1 0 1 1 0 1 ∷
    entry kinds.Name 1 1 1 2 1 2 ∷
    entry kinds.Newline 1 2 1 3 2 3 ∷
    entry kinds.EndMarker 2 0 2 0 3 3 ∷
    steps.End ∷ []
unfolding listings
number_parts_2 = refl

-- 'a\\
last_backslash_1 : listing (source (codes "'a\\") None) ≡
    entry kinds.Encoding 0 0 0 0 0 0 ∷
    steps.Fault (record { code = errors.UnterminatedString; place = at 1 0 }) ∷ []
unfolding listings
last_backslash_1 = refl

-- b'a\\
last_backslash_2 : listing (source (codes "b'a\\") None) ≡
    entry kinds.Encoding 0 0 0 0 0 0 ∷
    steps.Fault (record { code = errors.UnterminatedString; place = at 1 0 }) ∷ []
unfolding listings
last_backslash_2 = refl

-- '''a\\
last_backslash_3 : listing (source (codes "'''a\\") None) ≡
    entry kinds.Encoding 0 0 0 0 0 0 ∷
    steps.Fault (record { code = errors.EofInString; place = at 1 0 }) ∷ []
unfolding listings
last_backslash_3 = refl

-- \\
last_backslash_4 : listing (source (codes "\\") None) ≡
    entry kinds.Encoding 0 0 0 0 0 0 ∷
    steps.Fault (record { code = errors.BadCharacter; place = at 1 0 }) ∷ []
unfolding listings
last_backslash_4 = refl

-- if x:\n  $\n
layout_before_fault_1 : listing (source (codes "if x:\n  $\n") None) ≡
    entry kinds.Encoding 0 0 0 0 0 0 ∷
    entry kinds.Name 1 0 1 2 0 2 ∷
    entry kinds.Name 1 3 1 4 3 4 ∷
    op exacts.Colon 1 4 1 5 4 5 ∷
    entry kinds.Newline 1 5 1 6 5 6 ∷
    entry kinds.Indent 2 0 2 2 6 8 ∷
    steps.Fault (record { code = errors.BadCharacter; place = at 2 2 }) ∷ []
unfolding listings
layout_before_fault_1 = refl

-- if x:\n    y\n  '\n
layout_before_fault_2 : listing (source (codes "if x:\n    y\n  '\n") None) ≡
    entry kinds.Encoding 0 0 0 0 0 0 ∷
    entry kinds.Name 1 0 1 2 0 2 ∷
    entry kinds.Name 1 3 1 4 3 4 ∷
    op exacts.Colon 1 4 1 5 4 5 ∷
    entry kinds.Newline 1 5 1 6 5 6 ∷
    entry kinds.Indent 2 0 2 4 6 10 ∷
    entry kinds.Name 2 4 2 5 10 11 ∷
    entry kinds.Newline 2 5 2 6 11 12 ∷
    steps.Fault (record { code = errors.UnindentMismatch; place = at 3 2 }) ∷ []
unfolding listings
layout_before_fault_2 = refl

-- x \\\n# c
after_join_1 : listing (source (codes "x \\\n# c") None) ≡
    entry kinds.Encoding 0 0 0 0 0 0 ∷
    entry kinds.Name 1 0 1 1 0 1 ∷
    entry kinds.Comment 2 0 2 3 4 7 ∷
    entry kinds.EndMarker 3 0 3 0 7 7 ∷
    steps.End ∷ []
unfolding listings
after_join_1 = refl

-- x \\\n# c\n
after_join_2 : listing (source (codes "x \\\n# c\n") None) ≡
    entry kinds.Encoding 0 0 0 0 0 0 ∷
    entry kinds.Name 1 0 1 1 0 1 ∷
    entry kinds.Comment 2 0 2 3 4 7 ∷
    entry kinds.Newline 2 3 2 4 7 8 ∷
    entry kinds.EndMarker 3 0 3 0 8 8 ∷
    steps.End ∷ []
unfolding listings
after_join_2 = refl

-- \\\n# c\n
after_join_3 : listing (source (codes "\\\n# c\n") None) ≡
    entry kinds.Encoding 0 0 0 0 0 0 ∷
    entry kinds.Comment 2 0 2 3 2 5 ∷
    entry kinds.Newline 2 3 2 4 5 6 ∷
    entry kinds.EndMarker 3 0 3 0 6 6 ∷
    steps.End ∷ []
unfolding listings
after_join_3 = refl

-- x = 1 \\\n
after_join_4 : listing (source (codes "x = 1 \\\n  ") None) ≡
    entry kinds.Encoding 0 0 0 0 0 0 ∷
    entry kinds.Name 1 0 1 1 0 1 ∷
    op exacts.Equal 1 2 1 3 2 3 ∷
    entry kinds.Number 1 4 1 5 4 5 ∷
    entry kinds.Newline 2 2 2 3 10 10 ∷
    entry kinds.EndMarker 3 0 3 0 10 10 ∷
    steps.End ∷ []
unfolding listings
after_join_4 = refl

-- '''\n# '''
hash_in_literal : listing (source (codes "'''\n# '''") None) ≡
    entry kinds.Encoding 0 0 0 0 0 0 ∷
    entry kinds.String 1 0 2 5 0 9 ∷
    entry kinds.EndMarker 3 0 3 0 9 9 ∷
    steps.End ∷ []
unfolding listings
hash_in_literal = refl

-- x\n
blanks_at_end : listing (source (codes "x\n  ") None) ≡
    entry kinds.Encoding 0 0 0 0 0 0 ∷
    entry kinds.Name 1 0 1 1 0 1 ∷
    entry kinds.Newline 1 1 1 2 1 2 ∷
    entry kinds.EndMarker 2 0 2 0 4 4 ∷
    steps.End ∷ []
unfolding listings
blanks_at_end = refl

-- if x:\n y\n\\\n z\n
join_only_line : listing (source (codes "if x:\n y\n\\\n z\n") None) ≡
    entry kinds.Encoding 0 0 0 0 0 0 ∷
    entry kinds.Name 1 0 1 2 0 2 ∷
    entry kinds.Name 1 3 1 4 3 4 ∷
    op exacts.Colon 1 4 1 5 4 5 ∷
    entry kinds.Newline 1 5 1 6 5 6 ∷
    entry kinds.Indent 2 0 2 1 6 7 ∷
    entry kinds.Name 2 1 2 2 7 8 ∷
    entry kinds.Newline 2 2 2 3 8 9 ∷
    entry kinds.Dedent 3 0 3 0 9 9 ∷
    entry kinds.Name 4 1 4 2 12 13 ∷
    entry kinds.Newline 4 2 4 3 13 14 ∷
    entry kinds.EndMarker 5 0 5 0 14 14 ∷
    steps.End ∷ []
unfolding listings
join_only_line = refl

resumed_at_start_stands : standing (source ([]) None) 0 ≡ record {
  shown = record {
    given = 0;
    offset = 0;
    row = 1;
    depth = 0;
    begun =
        false;
    skip = 0;
    levels = 0 ∷ [];
  };
  line = [];
  left = [];
  fault = None;
}
unfolding standings
resumed_at_start_stands = refl

resumed_at_start : to_give (record {
  shown = record { given = 0; offset = 0; row = 1; depth = 0; begun = false; skip = 0; levels = 0 ∷ [] };
  line = [];
  left = [];
  fault = None;
}) ≡
    entry kinds.Encoding 0 0 0 0 0 0 ∷
    entry kinds.EndMarker 1 0 1 0 0 0 ∷
    steps.End ∷ []
unfolding standings
resumed_at_start = refl

resumed_in_block_stands : standing (source ((105 ∷ 102 ∷ 32 ∷ 120 ∷ 58 ∷ 10 ∷ 9 ∷ 121 ∷ 10 ∷ [])) None) 7 ≡ record {
  shown =
      record { given = 7; offset = 8; row = 2; depth = 0; begun = true; skip = 0; levels = 0 ∷ 8 ∷ [] };
  line = (9 ∷ 121 ∷ []);
  left =
      codes "\n";
  fault = None;
}
unfolding standings
resumed_in_block_stands = refl

resumed_in_block : to_give (record {
  shown = record {
    given = 7;
    offset = 8;
    row = 2;
    depth = 0;
    begun = true;
    skip = 0;
    levels =
        0 ∷ 8 ∷ [];
  };
  line = (9 ∷ 121 ∷ []);
  left = codes "\n";
  fault = None;
}) ≡
    entry kinds.Newline 2 2 2 3 8 9 ∷
    entry kinds.Dedent 3 0 3 0 9 9 ∷
    entry kinds.EndMarker 3 0 3 0 9 9 ∷
    steps.End ∷ []
unfolding standings
resumed_in_block = refl

resumed_before_block_stands : standing (source ((105 ∷ 102 ∷ 32 ∷ 120 ∷ 58 ∷ 10 ∷ 9 ∷ 121 ∷ 10 ∷ [])) None) 5 ≡ record {
  shown =
      record { given = 5; offset = 6; row = 2; depth = 0; begun = false; skip = 0; levels = 0 ∷ [] };
  line = [];
  left =
      (9 ∷ 121 ∷ 10 ∷ []);
  fault = None;
}
unfolding standings
resumed_before_block_stands = refl

resumed_before_block : to_give (record {
  shown = record {
    given = 5;
    offset = 6;
    row = 2;
    depth = 0;
    begun = false;
    skip = 0;
    levels =
        0 ∷ [];
  };
  line = [];
  left = (9 ∷ 121 ∷ 10 ∷ []);
  fault = None;
}) ≡
    entry kinds.Indent 2 0 2 1 6 7 ∷
    entry kinds.Name 2 1 2 2 7 8 ∷
    entry kinds.Newline 2 2 2 3 8 9 ∷
    entry kinds.Dedent 3 0 3 0 9 9 ∷
    entry kinds.EndMarker 3 0 3 0 9 9 ∷
    steps.End ∷ []
unfolding standings
resumed_before_block = refl

resumed_after_indent_stands : standing (source ((105 ∷ 102 ∷ 32 ∷ 120 ∷ 58 ∷ 10 ∷ 9 ∷ 121 ∷ 10 ∷ [])) None) 6 ≡ record {
  shown =
      record { given = 6; offset = 7; row = 2; depth = 0; begun = true; skip = 0; levels = 0 ∷ 8 ∷ [] };
  line = (9 ∷ []);
  left =
      codes "y\n";
  fault = None;
}
unfolding standings
resumed_after_indent_stands = refl

resumed_after_indent : to_give (record {
  shown = record {
    given = 6;
    offset = 7;
    row = 2;
    depth = 0;
    begun = true;
    skip = 0;
    levels =
        0 ∷ 8 ∷ [];
  };
  line = (9 ∷ []);
  left = codes "y\n";
  fault = None;
}) ≡
    entry kinds.Name 2 1 2 2 7 8 ∷
    entry kinds.Newline 2 2 2 3 8 9 ∷
    entry kinds.Dedent 3 0 3 0 9 9 ∷
    entry kinds.EndMarker 3 0 3 0 9 9 ∷
    steps.End ∷ []
unfolding standings
resumed_after_indent = refl

resumed_among_dedents_stands : standing (source (codes "if a:\n if b:\n  c\nd\n") None) 14 ≡ record {
  shown =
      record { given = 14; offset = 17; row = 4; depth = 0; begun = false; skip = 1; levels = 0 ∷ 1 ∷ 2 ∷ [] };
  line = [];
  left =
      codes "d\n";
  fault = None;
}
unfolding standings
resumed_among_dedents_stands = refl

resumed_among_dedents : to_give (record {
  shown = record {
    given = 14;
    offset = 17;
    row = 4;
    depth = 0;
    begun = false;
    skip = 1;
    levels =
        0 ∷ 1 ∷ 2 ∷ [];
  };
  line = [];
  left = codes "d\n";
  fault = None;
}) ≡
    entry kinds.Dedent 4 0 4 0 17 17 ∷
    entry kinds.Name 4 0 4 1 17 18 ∷
    entry kinds.Newline 4 1 4 2 18 19 ∷
    entry kinds.EndMarker 5 0 5 0 19 19 ∷
    steps.End ∷ []
unfolding standings
resumed_among_dedents = refl

resumed_after_dedents_stands : standing (source (codes "if a:\n if b:\n  c\nd\n") None) 15 ≡ record {
  shown =
      record { given = 15; offset = 17; row = 4; depth = 0; begun = false; skip = 2; levels = 0 ∷ 1 ∷ 2 ∷ [] };
  line = [];
  left =
      codes "d\n";
  fault = None;
}
unfolding standings
resumed_after_dedents_stands = refl

resumed_after_dedents : to_give (record {
  shown = record {
    given = 15;
    offset = 17;
    row = 4;
    depth = 0;
    begun = false;
    skip = 2;
    levels =
        0 ∷ 1 ∷ 2 ∷ [];
  };
  line = [];
  left = codes "d\n";
  fault = None;
}) ≡
    entry kinds.Name 4 0 4 1 17 18 ∷
    entry kinds.Newline 4 1 4 2 18 19 ∷
    entry kinds.EndMarker 5 0 5 0 19 19 ∷
    steps.End ∷ []
unfolding standings
resumed_after_dedents = refl

resumed_after_empty_line_end_stands : standing (source (codes "x") None) 3 ≡ record {
  shown =
      record { given = 3; offset = 1; row = 1; depth = 0; begun = true; skip = 1; levels = 0 ∷ [] };
  line = codes "x";
  left = [];
  fault = None;
}
unfolding standings
resumed_after_empty_line_end_stands = refl

resumed_after_empty_line_end : to_give
    (record {
      shown = record { given = 3; offset = 1; row = 1; depth = 0; begun = true; skip = 1; levels = 0 ∷ [] };
      line = codes "x";
      left = [];
      fault = None;
    }) ≡
    entry kinds.EndMarker 2 0 2 0 1 1 ∷
    steps.End ∷ []
unfolding standings
resumed_after_empty_line_end = refl

resumed_after_marker_stands : standing (source (codes "x") None) 4 ≡ record {
  shown = record {
    given = 4;
    offset = 1;
    row = 1;
    depth = 0;
    begun = true;
    skip = 2;
    levels = 0 ∷ [];
  };
  line = codes "x";
  left = [];
  fault = None;
}
unfolding standings
resumed_after_marker_stands = refl

resumed_after_marker : to_give (record {
  shown = record {
    given = 4;
    offset = 1;
    row = 1;
    depth = 0;
    begun = true;
    skip = 2;
    levels =
        0 ∷ [];
  };
  line = codes "x";
  left = [];
  fault = None;
}) ≡
    steps.End ∷ []
unfolding standings
resumed_after_marker = refl

resumed_before_mismatch_stands : standing (source (codes "if a:\n    b\n  c\n") None) 8 ≡ record {
  shown =
      record { given = 8; offset = 12; row = 3; depth = 0; begun = false; skip = 0; levels = 0 ∷ 4 ∷ [] };
  line = [];
  left =
      codes "  c\n";
  fault = None;
}
unfolding standings
resumed_before_mismatch_stands = refl

resumed_before_mismatch : to_give (record {
  shown = record {
    given = 8;
    offset = 12;
    row = 3;
    depth = 0;
    begun = false;
    skip = 0;
    levels =
        0 ∷ 4 ∷ [];
  };
  line = [];
  left = codes "  c\n";
  fault = None;
}) ≡
    steps.Fault (record { code = errors.UnindentMismatch; place = at 3 2 }) ∷ []
unfolding standings
resumed_before_mismatch = refl

resumed_after_joined_comment_stands : standing (source (codes "\\\n# c\n") None) 2 ≡ record {
  shown =
      record { given = 2; offset = 5; row = 2; depth = 0; begun = true; skip = 0; levels = 0 ∷ [] };
  line = codes "# c";
  left =
      codes "\n";
  fault = None;
}
unfolding standings
resumed_after_joined_comment_stands = refl

resumed_after_joined_comment : to_give
    (record {
      shown = record { given = 2; offset = 5; row = 2; depth = 0; begun = true; skip = 0; levels = 0 ∷ [] };
      line = codes "# c";
      left = codes "\n";
      fault = None;
    }) ≡
    entry kinds.Newline 2 3 2 4 5 6 ∷
    entry kinds.EndMarker 3 0 3 0 6 6 ∷
    steps.End ∷ []
unfolding standings
resumed_after_joined_comment = refl

resumed_after_comment_stands : standing (source (codes "  # c") None) 2 ≡ record {
  shown =
      record { given = 2; offset = 5; row = 1; depth = 0; begun = false; skip = 0; levels = 0 ∷ [] };
  line = codes "  # c";
  left = [];
  fault = None;
}
unfolding standings
resumed_after_comment_stands = refl

resumed_after_comment : to_give (record {
  shown = record {
    given = 2;
    offset = 5;
    row = 1;
    depth = 0;
    begun = false;
    skip = 0;
    levels =
        0 ∷ [];
  };
  line = codes "  # c";
  left = [];
  fault = None;
}) ≡
    entry kinds.Nl 1 5 1 5 5 5 ∷
    entry kinds.EndMarker 2 0 2 0 5 5 ∷
    steps.End ∷ []
unfolding standings
resumed_after_comment = refl

-- a source that agrees
agreeing : standing_by (source ((105 ∷ 102 ∷ 32 ∷ 40 ∷ 58 ∷ 10 ∷ 9 ∷ 121 ∷ 10 ∷ [])) None)
    (cursor (source ((105 ∷ 102 ∷ 32 ∷ 120 ∷ 58 ∷ 10 ∷ 9 ∷ 121 ∷ 10 ∷ [])) None) 7) ≡ standing
    (source ((105 ∷ 102 ∷ 32 ∷ 120 ∷ 58 ∷ 10 ∷ 9 ∷ 121 ∷ 10 ∷ [])) None) 7
unfolding standings
agreeing = refl
