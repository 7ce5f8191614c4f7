-- Characters by their names (reference 2.1, 2.4.1 and 2.6; Unicode names).
use Rattle.std.specs.Prelude.{ℕ}

abbrev pub tab : ℕ
tab = 9

abbrev pub line_feed : ℕ
line_feed = 10

abbrev pub form_feed : ℕ
form_feed = 12

abbrev pub carriage_return : ℕ
carriage_return = 13

abbrev pub space : ℕ
space = 32

abbrev pub double_quote : ℕ
double_quote = 34

abbrev pub hash : ℕ
hash = 35

abbrev pub single_quote : ℕ
single_quote = 39

abbrev pub left_parenthesis : ℕ
left_parenthesis = 40

abbrev pub right_parenthesis : ℕ
right_parenthesis = 41

abbrev pub asterisk : ℕ
asterisk = 42

abbrev pub comma : ℕ
comma = 44

abbrev pub full_stop : ℕ
full_stop = 46

abbrev pub colon : ℕ
colon = 58

abbrev pub left_square_bracket : ℕ
left_square_bracket = 91

abbrev pub backslash : ℕ
backslash = 92

abbrev pub right_square_bracket : ℕ
right_square_bracket = 93

abbrev pub low_line : ℕ
low_line = 95

abbrev pub left_curly_bracket : ℕ
left_curly_bracket = 123

abbrev pub right_curly_bracket : ℕ
right_curly_bracket = 125
