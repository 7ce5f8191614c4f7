-- Sets of characters (reference 2.1.3, 2.1.8 and 2.3).
--
-- From `is_r` on the definitions are internal: they say which set a member of the scanner's own list of sets stands
-- for, and where a character of a set stands. No public contract cites them.
use Rattle.std.specs.Prelude.{ℕ, Bool, true, false, ◌&&◌, ◌||◌, ◌==◌, not, List, [], ◌∷◌, length}
use Rattle.std.specs.Str.{encode_utf8_all}
use Rattle.unicode_ident.specs.Ident.{is_xid_start, is_xid_continue}
use Rattle.pylex_lexeme.specs.declared.scanner.CharSet.{CharSet}
use Rattle.pylex_lexeme.specs.declared.scanner.CharSet.TheVariants.{NamePart, Digit, CommentPart, Blank, One, HexDigit, OctalDigit}
use Rattle.pylex_lexeme.specs.declared.scanner.CharSet.TheVariants.{BinaryDigit, LetterX, LetterO, LetterB, LetterE, LetterJ, Sign, Quote}
use Rattle.pylex_lexeme.specs.declared.scanner.CharSet.TheVariants.{Any, LetterR, LetterBorF, PrefixLetter}
use Rattle.pylex_lexeme.specs.Numbers.{is_decimal_digit, is_hex_digit, is_octal_digit, is_binary_digit, is_x, is_o, is_b, is_e, is_j}
use Rattle.pylex_lexeme.specs.Numbers.{is_sign}
use Rattle.pylex_lexeme.specs.Characters.{tab, line_feed, form_feed, carriage_return, space, double_quote, single_quote, low_line}

-- what a name may begin with: XID_Start, or the low line
-- xid_start ::= <all characters in id_start whose NFKC normalization is in
--               "id_start xid_continue*">
-- id_start  ::= <all characters in general categories Lu, Ll, Lt, Lm, Lo, Nl, the underscore, and
--               characters with the Other_ID_Start property>
abbrev pub starts_name : ℕ → Bool
starts_name c = is_xid_start c || (c == low_line)

-- any character but CR and LF
abbrev pub is_comment_part : ℕ → Bool
is_comment_part c = not (c == line_feed) && not (c == carriage_return)

-- space, tab, form feed
abbrev pub is_blank_char : ℕ → Bool
is_blank_char c = (c == space) || (c == tab) || (c == form_feed)

-- r or R
abbrev pub is_r : ℕ → Bool
is_r c = (c == 114) || (c == 82)

-- b, B, f or F
abbrev pub is_b_or_f : ℕ → Bool
is_b_or_f c = ((c == 98) || (c == 66)) || ((c == 102) || (c == 70))

-- a letter that is a string's prefix by itself, in any case: r, u, b, f
abbrev pub is_prefix_letter : ℕ → Bool
is_prefix_letter c = is_r c || (((c == 117) || (c == 85)) || is_b_or_f c)

-- a set has a character
abbrev pub has : CharSet → ℕ → Bool
has NamePart c = is_xid_continue c
has Digit c = is_decimal_digit c
has CommentPart c = is_comment_part c
has Blank c = is_blank_char c
has (One d) c = c == d
has HexDigit c = is_hex_digit c
has OctalDigit c = is_octal_digit c
has BinaryDigit c = is_binary_digit c
has LetterX c = is_x c
has LetterO c = is_o c
has LetterB c = is_b c
has LetterE c = is_e c
has LetterJ c = is_j c
has Sign c = is_sign c
has Quote c = (c == single_quote) || (c == double_quote)
has Any c = true
has LetterR c = is_r c
has LetterBorF c = is_b_or_f c
has PrefixLetter c = is_prefix_letter c

-- the first character is there, and passes
abbrev pub begins : (ℕ → Bool) → List ℕ → Bool
begins f [] = false
begins f (c ∷ cs) = f c

-- how many bytes a text takes
abbrev pub bytes_in : List ℕ → ℕ
bytes_in cs = length (encode_utf8_all cs)
