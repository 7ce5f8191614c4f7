-- What a number is, as tests on whole texts (lists of code points).
use Rattle.std.specs.Prelude.{ℕ, Bool, true, false, ◌&&◌, ◌||◌, ◌==◌, nat_le, List, [], ◌∷◌, if◌then◌else◌}
use Rattle.pylex_lexeme.specs.Characters.{full_stop, low_line}

abbrev pub is_nil : List ℕ → Bool
is_nil [] = true
is_nil (c ∷ cs) = false

-- a front that passes one test, and after it a rest that passes another
abbrev pub split_any : (List ℕ → Bool) → (List ℕ → Bool) → List ℕ → Bool
split_any p q [] = p [] && q []
split_any p q (c ∷ cs) = (p [] && q (c ∷ cs)) || split_any (λ t. p (c ∷ t)) q cs

-- nothing, or what passes
abbrev pub optional : (List ℕ → Bool) → List ℕ → Bool
optional p t = is_nil t || p t

-- a first character that passes, and then a rest that passes
abbrev pub headed : (ℕ → Bool) → (List ℕ → Bool) → List ℕ → Bool
headed f p [] = false
headed f p (c ∷ t) = f c && p t

-- digit ::= "0"..."9"
abbrev pub is_decimal_digit : ℕ → Bool
is_decimal_digit c = nat_le 48 c && nat_le c 57

-- nonzerodigit ::= "1"..."9"
abbrev pub is_one_to_nine : ℕ → Bool
is_one_to_nine c = nat_le 49 c && nat_le c 57

-- "0"
abbrev pub is_zero : ℕ → Bool
is_zero c = c == 48

-- hexdigit ::= digit | "a"..."f" | "A"..."F"
abbrev pub is_hex_digit : ℕ → Bool
is_hex_digit c = is_decimal_digit c || (nat_le 97 c && nat_le c 102) || (nat_le 65 c && nat_le c 70)

-- octdigit ::= "0"..."7"
abbrev pub is_octal_digit : ℕ → Bool
is_octal_digit c = nat_le 48 c && nat_le c 55

-- bindigit ::= "0" | "1"
abbrev pub is_binary_digit : ℕ → Bool
is_binary_digit c = (c == 48) || (c == 49)

abbrev pub is_point : ℕ → Bool
is_point c = c == full_stop

-- "e" | "E"
abbrev pub is_e : ℕ → Bool
is_e c = (c == 101) || (c == 69)

-- "j" | "J"
abbrev pub is_j : ℕ → Bool
is_j c = (c == 106) || (c == 74)

-- "x" | "X"
abbrev pub is_x : ℕ → Bool
is_x c = (c == 120) || (c == 88)

-- "o" | "O"
abbrev pub is_o : ℕ → Bool
is_o c = (c == 111) || (c == 79)

-- "b" | "B"
abbrev pub is_b : ℕ → Bool
is_b c = (c == 98) || (c == 66)

-- "+" | "-"
abbrev pub is_sign : ℕ → Bool
is_sign c = (c == 43) || (c == 45)

-- (_?digit)*
abbrev pub are_joined : (ℕ → Bool) → List ℕ → Bool
are_joined d [] = true
are_joined d (a ∷ []) = d a
are_joined d (a ∷ b ∷ t) = if d a then are_joined d (b ∷ t) else (a == low_line) && d b && are_joined d t

-- (_?digit)+
abbrev pub are_some : (ℕ → Bool) → List ℕ → Bool
are_some d [] = false
are_some d (a ∷ t) = are_joined d (a ∷ t)

-- 0(_?0)* or [1-9](_?[0-9])*
-- decinteger ::= nonzerodigit (["_"] digit)* | "0"+ (["_"] "0")*
unfoldable pub is_decimal : List ℕ → Bool
is_decimal t = headed is_zero (are_joined is_zero) t || headed is_one_to_nine (are_joined is_decimal_digit) t

-- 0x, 0o or 0b, and digits
-- bininteger ::= "0" ("b" | "B") (["_"] bindigit)+
-- octinteger ::= "0" ("o" | "O") (["_"] octdigit)+
-- hexinteger ::= "0" ("x" | "X") (["_"] hexdigit)+
unfoldable pub is_radix : List ℕ → Bool
is_radix t =
    headed is_zero (headed is_x (are_some is_hex_digit)) t ||
    headed is_zero (headed is_o (are_some is_octal_digit)) t ||
    headed is_zero (headed is_b (are_some is_binary_digit)) t

-- [0-9](_?[0-9])*
-- digitpart ::= digit (["_"] digit)*
abbrev pub is_digit_part : List ℕ → Bool
is_digit_part t = headed is_decimal_digit (are_joined is_decimal_digit) t

-- [eE][+-]?digitpart
-- exponent ::= ("e" | "E") ["+" | "-"] digitpart
unfoldable pub is_exponent : List ℕ → Bool
is_exponent t = headed is_e is_digit_part t || headed is_e (headed is_sign is_digit_part) t

-- digitpart . [digitpart] [exponent]
unfoldable pub is_point_after : List ℕ → Bool
is_point_after t = split_any is_digit_part (headed is_point (split_any (optional is_digit_part) (optional is_exponent))) t

-- . digitpart [exponent]
unfoldable pub is_point_before : List ℕ → Bool
is_point_before t = headed is_point (split_any is_digit_part (optional is_exponent)) t

-- digitpart exponent
unfoldable pub is_raised : List ℕ → Bool
is_raised t = split_any is_digit_part is_exponent t

-- floatnumber   ::= pointfloat | exponentfloat
-- pointfloat    ::= [digitpart] fraction | digitpart "."
-- exponentfloat ::= (digitpart | pointfloat) exponent
-- fraction      ::= "." digitpart
unfoldable pub is_float : List ℕ → Bool
is_float t = is_point_after t || is_point_before t || is_raised t

-- a digitpart or a float, and then j
-- imagnumber ::= (floatnumber | digitpart) ("j" | "J")
unfoldable pub is_imaginary : List ℕ → Bool
is_imaginary t = split_any (λ u. is_digit_part u || is_float u) (headed is_j is_nil) t

-- integer ::= decinteger | bininteger | octinteger | hexinteger
unfoldable pub is_number : List ℕ → Bool
is_number t = is_decimal t || is_radix t || is_float t || is_imaginary t
