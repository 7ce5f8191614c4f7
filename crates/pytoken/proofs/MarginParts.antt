-- On: the margin that a line still has to give after some of its blanks, and what a lexeme's class
-- says of its first character.
--
-- Carries: pending, eights, Fronts, text_following and 11 more, for MarginWidths.
use Rattle.std.proofs.Common.{◌≡◌, ℕ, ◌+◌, Bool, true, false, not, ◌&&◌, ◌==◌, cond, List, [], ◌∷◌, ◌++◌, length, drop, map}
use Rattle.std.proofs.Common.{refl, sym, ap, ap₂, subst, ◌∙◌, arith, length-append, Option, Some, None}
use Rattle.std.specs.Prelude.{option_map}
use Rattle.std.specs.List.{list_all}
use Rattle.std.specs.Str.{chars, encode_utf8_all, all_scalars}
use Rattle.std.proofs.Math.Utf8.{scalar}
use Rattle.std.proofs.lemmas.Bool.{and_parts}
use Rattle.std.proofs.lemmas.Bool.Decides.{nat_tests}
use Rattle.std.proofs.lemmas.List.Sums.{take_while-cons}
use Rattle.std.proofs.lemmas.Str.{encodes-append, chars_from_encodes}
use Rattle.pylex_lexeme.specs.declared.kinds.Exact.{Exact}
use Rattle.pylex_lexeme.specs.declared.lexeme.Class.{Class}
use Rattle.pylex_lexeme.specs.declared.lexeme.Class.TheVariants.{Name, Number, String, Operator, Comment, Blanks, LineEnd, Join}
use Rattle.pylex_lexeme.specs.Chars.{bytes_in, is_blank_char, is_comment_part}
use Rattle.pylex_lexeme.specs.Cuts.{begins_line_end, begins_significant}
use Rattle.pylex_lexeme.specs.Strings.{opens_string, counts_as_string}
use Rattle.pylex_lexeme.specs.Operators.{is_operator, exact_of}
use Rattle.pylex_lexeme.specs.Numbers.{is_number}
use Rattle.pylex_lexeme.specs.Lexemes.{is_name, is_comment, are_blanks, is_line_end, is_join, plain_class, class_in}
use Rattle.pylex_listing.specs.Indentation.{column_after, width_from}
use Rattle.pylex_listing.specs.Margins.{blanks_of, widths_of}
use Rattle.pytoken.specs.Indentation.{Margin, following_offset, margin_at}

-- The text after an offset

drop_whole : (a b : List ℕ) → drop (length a) (a ++ b) ≡ b
drop_whole [] b = refl
drop_whole (c ∷ a) b = drop_whole a b

scalars_after : (a b : List ℕ) → all_scalars (a ++ b) ≡ true → all_scalars b ≡ true
scalars_after [] b h = h
scalars_after (c ∷ a) b h = scalars_after a b (and_parts (scalar c) (all_scalars (a ++ b)) h).1

pub text_following : (text a b : List ℕ) (o : ℕ) → all_scalars text ≡ true → text ≡ a ++ b → o ≡ bytes_in a → following_offset text o ≡ b
text_following text a b o good whole at =
    let left : drop o (encode_utf8_all text) ≡ encode_utf8_all b =
    ap (λ (t : List ℕ). drop o (encode_utf8_all t)) whole ∙ ap (drop o) (encodes-append a b)
    ∙ ap (λ (n : ℕ). drop n (encode_utf8_all a ++ encode_utf8_all b)) at ∙ drop_whole (encode_utf8_all a) (encode_utf8_all b) in
    let scalars : all_scalars b ≡ true = scalars_after a b (sym (ap all_scalars whole) ∙ good) in
    ap chars left ∙ sym (chars_from_encodes b (encode_utf8_all b) (b, (scalars, refl)) refl)

pub bytes_on : (a b : List ℕ) → bytes_in (a ++ b) ≡ bytes_in a + bytes_in b
bytes_on a b = ap length (encodes-append a b) ∙ length-append (encode_utf8_all a) (encode_utf8_all b)

-- The margin that a line still has to give, after some of its blanks

-- by whether only blanks stand before, their width, and the text after them
abbrev pub pending : Bool → ℕ → List ℕ → List ℕ
pending m w t = cond m (cond (begins_significant (drop (length (blanks_of t)) t)) (width_from w (blanks_of t) ∷ []) []) []

abbrev pub eights : List Margin → List ℕ
eights ms = map (λ m. m.widths.eight) ms

pub margin_pends : (text : List ℕ) (o : ℕ) → eights (margin_at text o) ≡ pending true 0 (following_offset text o)
margin_pends text o = by (begins_significant (drop (length (blanks_of line)) line)) (record { widths = widths_of line; start = _ })
  where
    line : List ℕ
    line = following_offset text o

    by : (b : Bool) (m : Margin) → eights (cond b (m ∷ []) []) ≡ cond b (m.widths.eight ∷ []) []
    by true m = refl
    by false m = refl

pub nothing_pends : (m : Bool) (w : ℕ) → pending m w [] ≡ []
unfolding begins_significant
nothing_pends true w = refl
nothing_pends false w = refl

-- a text that begins with no blank
pub pending_by : (m significant : Bool) (w : ℕ) (t : List ℕ) → blanks_of t ≡ [] → begins_significant t ≡ significant
    → pending m w t ≡ cond (m && significant) (w ∷ []) []
unfolding width_from
pending_by m significant w t none is = rw (none, is) (by m significant)
  where
    by : (m b : Bool) → cond m (cond b (w ∷ []) []) [] ≡ cond (m && b) (w ∷ []) []
    by true b = refl
    by false b = refl

pub width_on : (n : ℕ) (a b : List ℕ) → width_from n (a ++ b) ≡ width_from (width_from n a) b
unfolding width_from
width_on n [] b = refl
width_on n (c ∷ a) b = width_on (column_after n c) a b

blanks_on : (a b : List ℕ) → list_all is_blank_char a ≡ true → blanks_of (a ++ b) ≡ a ++ blanks_of b
blanks_on [] b all = refl
blanks_on (c ∷ a) b all =
    let parts = and_parts (is_blank_char c) (list_all is_blank_char a) all in
    take_while-cons is_blank_char c (a ++ b) ∙ (rw (parts.0) (ap (λ (t : List ℕ). c ∷ t) (blanks_on a b parts.1)))

drop_on : (a b t : List ℕ) → drop (length (a ++ b)) (a ++ t) ≡ drop (length b) t
drop_on [] b t = refl
drop_on (c ∷ a) b t = drop_on a b t

-- blanks were passed
pub pending_on : (m : Bool) (w : ℕ) (a t : List ℕ) → list_all is_blank_char a ≡ true → pending m w (a ++ t) ≡ pending m (width_from w a) t
pending_on m w a t all =
    let front = blanks_on a t all in
    ap (λ (b : List ℕ). cond m (cond (begins_significant (drop (length b) (a ++ t))) (width_from w b ∷ []) []) []) front
    ∙ ap₂ (λ (d : List ℕ) (n : ℕ). cond m (cond (begins_significant d) (n ∷ []) []) []) (drop_on a (blanks_of t) t)
    (width_on w a (blanks_of t))

-- What a class says of the first character

abbrev pub Fronts : Class → Bool → Bool → Bool → Type 0
Fronts Comment c b l = c ≡ true
Fronts Blanks c b l = b ≡ true
Fronts LineEnd c b l = l ≡ true
Fronts _ c b l = Unit {0}

fronts : (n u o c b l j : Bool) (e : Option Exact) (k : Class)
    → cond n (Some Name) (cond u (Some Number) (cond o (option_map Operator e) (cond c (Some Comment) (cond b (Some Blanks)
    (cond l (Some LineEnd) (cond j (Some Join) None)))))) ≡ Some k
    → Fronts k c b l
fronts true u o c b l j e k h = let f : Name ≡ k = cc in subst (λ (m : Class). Fronts m c b l) f tt
fronts false true o c b l j e k h = let f : Number ≡ k = cc in subst (λ (m : Class). Fronts m c b l) f tt
fronts false false true c b l j (Some e) k h = let f : Operator e ≡ k = cc in subst (λ (m : Class). Fronts m c b l) f tt
fronts false false true c b l j None k h = absurd cc
fronts false false false true b l j e k h = let f : Comment ≡ k = cc in subst (λ (m : Class). Fronts m true b l) f refl
fronts false false false false true l j e k h = let f : Blanks ≡ k = cc in subst (λ (m : Class). Fronts m false true l) f refl
fronts false false false false false true j e k h = let f : LineEnd ≡ k = cc in subst (λ (m : Class). Fronts m false false true) f refl
fronts false false false false false false true e k h = let f : Join ≡ k = cc in subst (λ (m : Class). Fronts m false false false) f tt
fronts false false false false false false false e k h = absurd cc

plain_fronts : (t : List ℕ) (k : Class) → plain_class t ≡ Some k → Fronts k (is_comment t) (are_blanks t) (is_line_end t)
unfolding plain_class
plain_fronts t k e = fronts (is_name t) (is_number t) (is_operator t) (is_comment t) (are_blanks t) (is_line_end t)
    (is_join t) (exact_of t) k e

pub class_fronts : (cs t : List ℕ) (k : Class) → class_in cs t ≡ Some k → Fronts k (is_comment t) (are_blanks t) (is_line_end t)
unfolding class_in
class_fronts cs t k e = by (opens_string cs) (counts_as_string cs t) e
  where
    by : (o c : Bool) → cond o (cond c (Some String) None) (plain_class t) ≡ Some k → Fronts k (is_comment t) (are_blanks t) (is_line_end t)
    by true true h = let f : String ≡ k = cc in subst (λ (m : Class). Fronts m (is_comment t) (are_blanks t) (is_line_end t)) f tt
    by true false h = absurd cc
    by false c h = plain_fronts t k h

pub comment_front : (t b : List ℕ) → is_comment t ≡ true → blanks_of (t ++ b) ≡ []
unfolding is_comment
comment_front [] b h = absurd cc
comment_front (c ∷ t) b h =
    let first = (and_parts (c == 35) (list_all is_comment_part t) h).0 in
    let none : is_blank_char c ≡ false = grind (arith, nat_tests) in
    rw none refl

pub line_end_front : (t b : List ℕ) → is_line_end t ≡ true → blanks_of (t ++ b) ≡ []
unfolding is_line_end
line_end_front [] b h = absurd cc
line_end_front (c ∷ t) b h =
    let none : is_blank_char c ≡ false = grind (arith, nat_tests) in
    rw none refl

pub blanks_all : (t : List ℕ) → are_blanks t ≡ true → list_all is_blank_char t ≡ true
unfolding are_blanks
blanks_all [] h = absurd cc
blanks_all (c ∷ t) h = h

not_blank : (a b : Bool) → (not a && b) ≡ true → a ≡ false
not_blank true b h = absurd cc
not_blank false b h = refl

pub significant_front : (t : List ℕ) → begins_significant t ≡ true → blanks_of t ≡ []
unfolding begins_significant
significant_front [] h = refl
significant_front (c ∷ t) h =
    let first = (and_parts (not (is_blank_char c) && not (c == 35)) (not (begins_line_end (c ∷ t))) h).0 in
    let none : is_blank_char c ≡ false = not_blank (is_blank_char c) (not (c == 35)) first in
    take_while-cons is_blank_char c t ∙ (rw none refl)
