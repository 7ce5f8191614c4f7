-- The classes of lexemes, as sets of texts, and the cut of a text (reference 2.1 and 2.3 to 2.6).
use Rattle.std.specs.Prelude.{ℕ, ◌-◌, Bool, true, false, ◌&&◌, ◌||◌, ◌==◌, not, List, [], ◌∷◌, length, take, drop, if◌then◌else◌, Option}
use Rattle.std.specs.Prelude.{Some, None, is_some, option_map, zero, suc}
use Rattle.std.specs.List.{list_all, flat_map}
use Rattle.std.specs.Str.{bytes_eq}
use Rattle.unicode_ident.specs.Ident.{is_xid_continue}
use Rattle.pylex_lexeme.specs.Chars.{starts_name, is_comment_part, is_blank_char}
use Rattle.pylex_lexeme.specs.Numbers.{is_number}
use Rattle.pylex_lexeme.specs.Strings.{opens_string, opens_triple, counts_as_string, after_prefix, units, is_unit, no_units}
use Rattle.pylex_lexeme.specs.Operators.{is_operator, exact_of, is_opener, is_closer}
use Rattle.pylex_lexeme.specs.declared.lexeme.Class.{Class}
use Rattle.pylex_lexeme.specs.declared.lexeme.Class.TheVariants.{Name, Number, String, Operator, Comment, Blanks, LineEnd, Join}
use Rattle.pylex_lexeme.specs.Characters.{line_feed, carriage_return, double_quote, hash, single_quote, backslash}

-- XID_Start or the low line, and then XID_Continue
-- identifier   ::= xid_start xid_continue*
-- xid_continue ::= <all characters in id_continue whose NFKC normalization is in "id_continue*">
unfoldable pub is_name : List ℕ → Bool
is_name [] = false
is_name (c ∷ cs) = starts_name c && list_all is_xid_continue cs

-- `#`, and characters other than CR and LF
unfoldable pub is_comment : List ℕ → Bool
is_comment [] = false
is_comment (c ∷ cs) = (c == hash) && list_all is_comment_part cs

-- one or more blanks
unfoldable pub are_blanks : List ℕ → Bool
are_blanks [] = false
are_blanks (c ∷ cs) = is_blank_char c && list_all is_blank_char cs

-- LF or CR LF
unfoldable pub is_line_end : List ℕ → Bool
is_line_end t = bytes_eq t (line_feed ∷ []) || bytes_eq t (carriage_return ∷ line_feed ∷ [])

-- a backslash and a line end
unfoldable pub is_join : List ℕ → Bool
is_join [] = false
is_join (c ∷ cs) = (c == backslash) && is_line_end cs

-- the class that a text is in, strings aside
unfoldable pub plain_class : List ℕ → Option Class
plain_class t =
    if is_name t then Some Name
    else (if is_number t then Some Number
    else (if is_operator t then option_map Operator (exact_of t)
    else (if is_comment t then Some Comment
    else (if are_blanks t then Some Blanks
    else (if is_line_end t then Some LineEnd
    else (if is_join t then Some Join
    else None))))))

-- the class of a front t of the text cs: where a prefix and a quote stand there, only strings count
unfoldable pub class_in : List ℕ → List ℕ → Option Class
class_in cs t = if opens_string cs then (if counts_as_string cs t then Some String else None) else plain_class t

-- the length of the longest front that passes, of at most n characters
abbrev pub longest_within : (List ℕ → Bool) → List ℕ → ℕ → ℕ
longest_within p cs zero = 0
longest_within p cs (suc n) = if p (take (suc n) cs) then suc n else longest_within p cs n

-- the length of the longest front that is a lexeme; 0 where there is none
unfoldable pub lexeme_len : List ℕ → ℕ
lexeme_len cs = longest_within (λ t. is_some (class_in cs t)) cs (length cs)

pub record Lexeme : Type 0 where
  pub «class» : Class
  pub text : List ℕ

-- the longest lexeme at the front of a text
unfoldable pub lexeme_at : List ℕ → Option Lexeme
lexeme_at cs = option_map (λ k. record { «class» = k; text = take (lexeme_len cs) cs }) (class_in cs (take (lexeme_len cs) cs))

abbrev pub list_of : {X : Type 0} → Option (List X) → List X
list_of None = []
list_of (Some xs) = xs

-- the lexemes of a text of which n more characters belong to the one before
abbrev pub cut_after : ℕ → List ℕ → List Lexeme
cut_after n [] = []
cut_after (suc n) (c ∷ cs) = cut_after n cs
cut_after zero (c ∷ cs) = list_of (option_map (λ x. x ∷ cut_after (length x.text - 1) cs) (lexeme_at (c ∷ cs)))

-- a text's lexemes from its front on, as far as there is one at each place
unfoldable pub cut : List ℕ → List Lexeme
cut cs = cut_after 0 cs

-- what is left of a text where its cut stops
unfoldable pub left_by_cut : List ℕ → List ℕ
left_by_cut cs = drop (length (flat_map (λ x. x.text) (cut cs))) cs

-- no unit is the quote, a CR or an LF, and the last one is a backslash and a line end
abbrev pub ends_by_join : ℕ → List (List ℕ) → Bool
ends_by_join q [] = false
ends_by_join q (u ∷ us) = not (is_unit q u || is_unit carriage_return u || is_unit line_feed u) &&
    (if no_units us then is_join u else ends_by_join q us)

-- a quote, and units up to a join
abbrev pub is_joined : List ℕ → Bool
is_joined [] = false
is_joined (q ∷ t) = ((q == single_quote) || (q == double_quote)) && ends_by_join q (units t)

-- a literal that doesn't end here is open up to the text's end: in three quotes, or directly after a join
unfoldable pub is_open_string : List ℕ → Bool
is_open_string cs = opens_triple cs || after_prefix is_joined cs

-- what a class is to the lines
abbrev pub is_blanks_class : Class → Bool
is_blanks_class k = elim k [ Blanks ↦ true | _ ↦ false ]

abbrev pub is_line_end_class : Class → Bool
is_line_end_class k = elim k [ LineEnd ↦ true | _ ↦ false ]

-- what makes a line logical: anything but blanks, a comment and a line end (reference 2.1.7)
abbrev pub is_significant_class : Class → Bool
is_significant_class k = elim k [ Blanks ↦ false | Comment ↦ false | LineEnd ↦ false | _ ↦ true ]

abbrev pub is_join_class : Class → Bool
is_join_class k = elim k [ Join ↦ true | _ ↦ false ]

abbrev pub is_opener_class : Class → Bool
is_opener_class k = elim k [ Operator e ↦ is_opener e | _ ↦ false ]

abbrev pub is_closer_class : Class → Bool
is_closer_class k = elim k [ Operator e ↦ is_closer e | _ ↦ false ]
