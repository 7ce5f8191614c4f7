-- Characters by their names (Unicode names).
use Rattle.std.specs.Prelude.{ℕ}

abbrev pub tab : ℕ
tab = 9

abbrev pub line_feed : ℕ
line_feed = 10

abbrev pub line_tabulation : ℕ
line_tabulation = 11

abbrev pub form_feed : ℕ
form_feed = 12

abbrev pub carriage_return : ℕ
carriage_return = 13

abbrev pub space : ℕ
space = 32

abbrev pub exclamation_mark : ℕ
exclamation_mark = 33

abbrev pub double_quote : ℕ
double_quote = 34

abbrev pub hash : ℕ
hash = 35

abbrev pub single_quote : ℕ
single_quote = 39

abbrev pub left_parenthesis : ℕ
left_parenthesis = 40

abbrev pub right_parenthesis : ℕ
right_parenthesis = 41

abbrev pub colon : ℕ
colon = 58

abbrev pub less_than_sign : ℕ
less_than_sign = 60

abbrev pub equals_sign : ℕ
equals_sign = 61

abbrev pub greater_than_sign : ℕ
greater_than_sign = 62

abbrev pub capital_n : ℕ
capital_n = 78

abbrev pub left_square_bracket : ℕ
left_square_bracket = 91

abbrev pub backslash : ℕ
backslash = 92

abbrev pub right_square_bracket : ℕ
right_square_bracket = 93

abbrev pub small_a : ℕ
small_a = 97

abbrev pub small_r : ℕ
small_r = 114

abbrev pub small_s : ℕ
small_s = 115

abbrev pub left_curly_bracket : ℕ
left_curly_bracket = 123

abbrev pub right_curly_bracket : ℕ
right_curly_bracket = 125
