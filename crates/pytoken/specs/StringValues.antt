-- What the text of a STRING stands for, and what may be wrong with it by itself (reference 2.4.1): a prefix, one quote or three, and what
-- stands between the quotes.
use Rattle.std.specs.Prelude.{ℕ, ◌-◌, Bool, not, ◌&&◌, ◌||◌, ◌==◌, nat_lt, List, length, take, drop, filter, Option, Some, None}
use Rattle.std.specs.Prelude.{if◌then◌else◌}
use Rattle.std.specs.List.{list_any, flat_map, prefix_len}
use Rattle.pylex_lexeme.specs.Strings.{begins_three}
use Rattle.pytree_node.specs.Values.{Value, Str, Bytes}
use Rattle.pytoken.specs.declared.faults.TokenError.{TokenError}
use Rattle.pytoken.specs.declared.faults.TokenError.TheVariants.{FString, NonAsciiBytes, Nul}
use Rattle.pytoken.specs.Escapes.{meanings, points_in, escape_fault}
use Rattle.pylex_lexeme.specs.Characters.{carriage_return, double_quote, single_quote}
use Rattle.std.specs.Option.{option_or}

-- A CR LF counts as one LF. A source has a CR only in front of an LF, so a literal is read without its CRs.
abbrev pub with_line_feeds : List ℕ → List ℕ
with_line_feeds t = filter (λ c. not (c == carriage_return)) t

-- stringliteral ::= [stringprefix](shortstring | longstring)
-- bytesliteral  ::= bytesprefix(shortbytes | longbytes)
-- The prefix is what stands before the first quote, single or double.
abbrev pub is_quote : ℕ → Bool
is_quote c = (c == single_quote) || (c == double_quote)

abbrev pub prefix_len_of : List ℕ → ℕ
prefix_len_of t = prefix_len (λ c. not (is_quote c)) t

-- the prefix has one of two letters
abbrev pub is_marked : ℕ → ℕ → List ℕ → Bool
is_marked a b t = list_any (λ c. (c == a) || (c == b)) (take (prefix_len_of t) t)

-- stringprefix ::= "r" | "u" | "R" | "U" | "f" | "F"
--                  | "fr" | "Fr" | "fR" | "FR" | "rf" | "rF" | "Rf" | "RF"
-- bytesprefix  ::= "b" | "B" | "br" | "Br" | "bR" | "BR" | "rb" | "rB" | "Rb" | "RB"
-- r or R
abbrev pub is_raw : List ℕ → Bool
is_raw = is_marked 114 82

-- b or B
abbrev pub is_bytes : List ℕ → Bool
is_bytes = is_marked 98 66

-- f or F
abbrev pub is_formatted : List ℕ → Bool
is_formatted = is_marked 102 70

-- a small u, which the tree keeps as the constant's kind
abbrev pub is_unicode : List ℕ → Bool
is_unicode = is_marked 117 117

-- a text without its last n characters
abbrev pub without_last : ℕ → List ℕ → List ℕ
without_last n t = take (length t - n) t

-- shortstring ::= "'" shortstringitem* "'" | '"' shortstringitem* '"', and shortbytes likewise
-- longstring  ::= "'''" longstringitem* "'''" | '"""' longstringitem* '"""', and longbytes likewise
-- What stands between the quotes of a text that begins with them.
abbrev pub inside : List ℕ → List ℕ
inside t = let width = if begins_three t then 3 else 1 in without_last width (drop width t)

-- what stands between the quotes of a literal
abbrev pub body_of : List ℕ → List ℕ
body_of t = inside (drop (prefix_len_of t) t)

-- what stands after the prefix and the first quotes of a literal
abbrev pub after_opening : List ℕ → List ℕ
after_opening t = let opened = drop (prefix_len_of t) t in drop (if begins_three opened then 3 else 1) opened

-- the points of a literal without CRs: of a text its characters, of bytes these
unfoldable pub points_of : List ℕ → List ℕ
points_of t = flat_map points_in (meanings (is_raw t) (is_bytes t) (body_of t))

-- the value of a literal without CRs
unfoldable pub value_of : List ℕ → Value
value_of t = if is_bytes t then Bytes (points_of t) else Str (points_of t) (is_unicode t)

-- the value of a literal
unfoldable pub string_value : List ℕ → Value
string_value t = value_of (with_line_feeds t)

-- U+0000 stands in a text
unfoldable pub nul_fault : List ℕ → Option TokenError
nul_fault t = if list_any (λ c. c == 0) t then Some Nul else None

-- shortbyteschar ::= <any ASCII character except "\" or newline or the quote>
-- longbyteschar  ::= <any ASCII character except "\">
-- The fault of a literal without CRs: it is an f-string, or its escapes have one, or bytes have a character above 7F, or U+0000 stands in
-- it
unfoldable pub literal_fault : List ℕ → Option TokenError
literal_fault t =
    if is_formatted t then Some FString
    else option_or (escape_fault (meanings (is_raw t) (is_bytes t) (body_of t)))
    (if is_bytes t && list_any (nat_lt 0x7F) t then Some NonAsciiBytes else nul_fault t)

-- the fault of a literal
unfoldable pub string_fault : List ℕ → Option TokenError
string_fault t = literal_fault (with_line_feeds t)
