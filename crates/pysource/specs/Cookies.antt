-- Which encoding the first two lines of a source declare.
-- Python language reference, 2.1.4 "Encoding declarations", and `detect_encoding` of the module `tokenize` of the library reference:
-- a line declares an encoding by blanks, `#`, and somewhere after that `coding`, `:` or `=`, spaces or tabs, and the cookie. In the module:
--     cookie_re = ^[ \t\f]*#.*?coding[:=][ \t]*([-\w.]+), where \w is of ASCII; in PEP 263: ^[ \t\f]*#.*?coding[:=][ \t]*([-_.a-zA-Z0-9]+)
--     blank_re  = ^[ \t\f]*(?:[#\r\n]|$)
-- A comment alone can, and in the second line only where the first is blank or another comment.
use Rattle.std.specs.Prelude.{ℕ, Bool, ◌&&◌, ◌||◌, List, [], ◌∷◌, codes, length, take, drop, map, nat_lt, nat_eq, ◌==◌, Result, Ok, Err}
use Rattle.std.specs.Prelude.{slice_index, if◌then◌else◌}
use Rattle.std.specs.List.{starts_with, prefix_len, take_while}
use Rattle.std.specs.Str.{bytes_eq}
use Rattle.std.specs.Int.{is_in_range}
use Rattle.std.specs.Char.{to_ascii_lowercase}
use Rattle.pysource.specs.Characters.{tab, line_feed, form_feed, carriage_return, space, hash, hyphen, full_stop, colon, equals_sign}
use Rattle.pysource.specs.Characters.{low_line}
use Rattle.pysource.specs.Names.{Named}
use Rattle.pysource.specs.declared.encodings.Charset.TheVariants.{Utf8, Ascii}
use Rattle.pysource.specs.declared.places.Place.{Place}
use Rattle.pysource.specs.declared.encodings.SourceFault.{SourceFault}
use Rattle.pysource.specs.declared.encodings.SourceFault.TheVariants.{UnsupportedEncoding, BomConflict}

-- the space or the tab: [ \t]
abbrev pub is_space_or_tab : ℕ → Bool
is_space_or_tab b = b == space || b == tab

-- the space, the tab or the form feed: [ \t\f]
abbrev pub is_blank : ℕ → Bool
is_blank b = is_space_or_tab b || b == form_feed

-- a byte of a cookie, an ASCII digit or letter, `_`, `-` or `.`: [-_.a-zA-Z0-9]
abbrev pub is_cookie_byte : ℕ → Bool
is_cookie_byte b = (is_in_range 48 57 b || (is_in_range 65 90 b || is_in_range 97 122 b)) ||
    (b == low_line || (b == hyphen || b == full_stop))

-- the list after its longest front that passes
abbrev pub drop_while : (ℕ → Bool) → List ℕ → List ℕ
drop_while p bs = drop (prefix_len p bs) bs

-- the cookie of bytes that begin with `coding`, `:` or `=`, spaces or tabs and that cookie; else nothing: coding[:=][ \t]*([-_.a-zA-Z0-9]+)
abbrev pub declared_here : List ℕ → List ℕ
declared_here bs =
    let sign = slice_index bs 6 in
    if starts_with nat_eq bs (codes "coding") && (sign == colon || sign == equals_sign)
    then take_while is_cookie_byte (drop_while is_space_or_tab (drop 7 bs)) else []

-- the cookie at the first place of the bytes that has one; nothing where no place has: .*?coding[:=][ \t]*([-_.a-zA-Z0-9]+)
unfoldable pub declared_first : List ℕ → List ℕ
declared_first [] = []
declared_first (b ∷ bs) = let here = declared_here (b ∷ bs) in if length here == 0 then declared_first bs else here

-- the cookie of a line, after the `#` that its first non-blank is; nothing where it has none: cookie_re
abbrev pub cookie_of : List ℕ → List ℕ
cookie_of line = let rest = drop_while is_blank line in if slice_index rest 0 == hash then declared_first (drop 1 rest) else []

-- the line holds blanks alone, its line end aside, or blanks and a comment: blank_re, but that a lone CR is no line end
abbrev pub leads_on : List ℕ → Bool
leads_on line = let rest = drop_while is_blank line in
    (slice_index rest 0 == hash || length rest == 0) || (bytes_eq rest (line_feed ∷ []) || bytes_eq rest (carriage_return ∷ line_feed ∷ []))

-- a byte in lower case, with `-` for `_`
abbrev pub folded : ℕ → ℕ
folded b = if b == low_line then hyphen else to_ascii_lowercase b

-- the cookie is the word, but for case and `_`
abbrev pub is_spelled : List ℕ → List ℕ → Bool
is_spelled cookie word = bytes_eq (map folded cookie) word

-- a cookie's fault stands at the start of its row
abbrev pub row_start : ℕ → Place
row_start row = record { row = row; column = 0 }

-- the encoding of a source that declares none
abbrev pub plain : Named
plain = record { charset = Utf8; name = codes "utf-8" }

-- the cookie names UTF-8, by a spelling that a listing shows as `utf-8`
abbrev pub is_utf_8 : List ℕ → Bool
is_utf_8 cookie = is_spelled cookie (codes "utf-8") || is_spelled (take 6 cookie) (codes "utf-8-")

-- the cookie names ASCII
abbrev pub is_ascii_name : List ℕ → Bool
is_ascii_name cookie = is_spelled cookie (codes "ascii") || is_spelled cookie (codes "us-ascii")

-- Which encoding a cookie in this row names, where a byte order mark stands in front or not.
-- After the mark it has to be UTF-8, and its name is always `utf-8`. Elsewhere the name is the cookie as it is written, but for `utf-8`
-- itself.
abbrev pub named_by : Bool → ℕ → List ℕ → Result Named SourceFault
named_by marked row cookie =
    if is_utf_8 cookie then Ok plain
    else (if is_spelled cookie (codes "utf8") then Ok (if marked then plain else record { charset = Utf8; name = cookie })
    else (if is_ascii_name cookie then (if marked then Err (BomConflict (row_start row)) else Ok
    (record { charset = Ascii; name = cookie }))
    else Err (UnsupportedEncoding (row_start row))))

-- the byte order mark of UTF-8
abbrev pub has_mark : List ℕ → Bool
has_mark bytes = starts_with nat_eq bytes (0xEF ∷ 0xBB ∷ 0xBF ∷ [])

-- the bytes after the mark, where it stands in front
abbrev pub without_mark : List ℕ → List ℕ
without_mark bytes = if has_mark bytes then drop 3 bytes else bytes

-- which encoding the first two lines declare: that of the first cookie, and UTF-8 where there is none
abbrev pub encoding_of : List ℕ → List ℕ → Result Named SourceFault
encoding_of first second =
    let line = without_mark first in
    if nat_lt 0 (length (cookie_of line)) then named_by (has_mark first) 1 (cookie_of line)
    else (if leads_on line && nat_lt 0 (length (cookie_of second)) then named_by (has_mark first) 2 (cookie_of second)
    else Ok plain)
