-- What a lexeme's class says of its text.
--
-- Carries: Says, lexeme_says, line_end_begins, comment_in_line, for Ahead, Covering, Told, Points
-- and 1 more. On: LeadingChar, Lexed.
use Rattle.std.proofs.Common.{◌≡◌, ℕ, suc, ◌+◌, Bool, true, false, not, ◌&&◌, ◌==◌, cond, List, [], ◌∷◌, ◌++◌, length, refl, ap, ◌∙◌, sym}
use Rattle.std.proofs.Common.{subst, arith, Option, Some, None, append_assoc, length-append, ⊎_elim}
use Rattle.std.specs.Prelude.{option_map}
use Rattle.std.specs.List.{list_all}
use Rattle.std.specs.Str.{bytes_eq}
use Rattle.std.proofs.lemmas.List.{append-nil}
use Rattle.std.proofs.lemmas.Slice.Eq.{bytes_eq-Decides}
use Rattle.std.proofs.lemmas.Bool.Decides.{nat_tests}
use Rattle.std.proofs.lemmas.Bool.{and_parts, cases_Bool}
use Rattle.pylex_lexeme.specs.declared.lexeme.Class.{Class}
use Rattle.pylex_lexeme.specs.declared.lexeme.Class.TheVariants.{Name, Number, String, Operator, Comment, Blanks, LineEnd, Join}
use Rattle.pylex_lexeme.specs.Chars.{is_comment_part}
use Rattle.pylex_lexeme.specs.Operators.{is_operator, exact_of}
use Rattle.pylex_lexeme.specs.declared.kinds.Exact.{Exact}
use Rattle.pylex_lexeme.specs.Numbers.{is_number}
use Rattle.pylex_lexeme.specs.Strings.{opens_string, counts_as_string}
use Rattle.pylex_lexeme.specs.Lexemes.{Lexeme, is_name, is_comment, are_blanks, is_line_end, is_join, plain_class, class_in, lexeme_at}
use Rattle.pylex_listing.specs.Listing.{last_line}
use Rattle.pylex_listing.proofs.Callers.{last_push, lexeme_class}

-- a class, by what the tests of those without a name of their own say
abbrev Said : Class → Bool → Bool → Bool → Bool → Bool → Type 0
Said Comment o c b l j = c ≡ true
Said Blanks o c b l j = b ≡ true
Said LineEnd o c b l j = l ≡ true
Said Join o c b l j = j ≡ true
Said (Operator x) o c b l j = o ≡ true
Said _ o c b l j = Unit {0}

said : (n u o c b l j : Bool) (e : Option Exact) (k : Class)
    → cond n (Some Name)
    (cond u (Some Number)
    (cond o (option_map Operator e) (cond c (Some Comment) (cond b (Some Blanks) (cond l (Some LineEnd) (cond j (Some Join) None)))))) ≡
    Some k → Said k o c b l j
said true u o c b l j e k h = let f : Name ≡ k = cc in subst (λ (m : Class). Said m o c b l j) f tt
said false true o c b l j e k h = let f : Number ≡ k = cc in subst (λ (m : Class). Said m o c b l j) f tt
said false false true c b l j (Some e) k h = let f : Operator e ≡ k = cc in subst (λ (m : Class). Said m true c b l j) f refl
said false false true c b l j None k h = absurd cc
said false false false true b l j e k h = let f : Comment ≡ k = cc in subst (λ (m : Class). Said m false true b l j) f refl
said false false false false true l j e k h = let f : Blanks ≡ k = cc in subst (λ (m : Class). Said m false false true l j) f refl
said false false false false false true j e k h = let f : LineEnd ≡ k = cc in subst (λ (m : Class). Said m false false false true j) f refl
said false false false false false false true e k h = let f : Join ≡ k = cc in
    subst (λ (m : Class). Said m false false false false true) f refl
said false false false false false false false e k h = absurd cc

-- what a class says of a text
abbrev pub Says : Class → List ℕ → Type 0
Says k t = Said k (is_operator t) (is_comment t) (are_blanks t) (is_line_end t) (is_join t)

plain_says : (t : List ℕ) (k : Class) → plain_class t ≡ Some k → Says k t
unfolding plain_class
plain_says t k e = said (is_name t) (is_number t) (is_operator t) (is_comment t) (are_blanks t) (is_line_end t) (is_join t) (exact_of t) k e

pub class_says : (cs t : List ℕ) (k : Class) → class_in cs t ≡ Some k → Says k t
unfolding class_in
class_says cs t k e = by_string (opens_string cs) (counts_as_string cs t) e
  where
    by_string : (o c : Bool) → cond o (cond c (Some String) None) (plain_class t) ≡ Some k → Says k t
    by_string true true e = let f : String ≡ k = cc in subst (λ (m : Class). Says m t) f tt
    by_string true false e = absurd cc
    by_string false c e = plain_says t k e

pub lexeme_says : (cs : List ℕ) (x : Lexeme) → lexeme_at cs ≡ Some x → Says x.«class» x.text
lexeme_says cs x e = class_says cs x.text x.«class» (lexeme_class cs x e)

-- after a line end a line begins
ends_in_newline : (t : List ℕ) → last_line (t ++ 10 ∷ []) ≡ []
ends_in_newline t = last_push t 10

pub line_end_begins : (t u : List ℕ) → is_line_end u ≡ true → last_line (t ++ u) ≡ []
unfolding is_line_end
line_end_begins t u e = ⊎_elim
    (λ (a : bytes_eq u (10 ∷ []) ≡ true). ap (λ v. last_line (t ++ v)) ((bytes_eq-Decides u (10 ∷ [])).0 a) ∙ ends_in_newline t)
    (λ (a : bytes_eq u (10 ∷ []) ≡ false).
    let b : bytes_eq u (13 ∷ 10 ∷ []) ≡ true = rw a at e in
    ap (λ v. last_line (t ++ v)) ((bytes_eq-Decides u (13 ∷ 10 ∷ [])).0 b) ∙ ap last_line (sym (append_assoc t (13 ∷ []) (10 ∷ [])))
    ∙ ends_in_newline (t ++ 13 ∷ []))
    (cases_Bool (bytes_eq u (10 ∷ [])))

in_line : (t : List ℕ) (c : ℕ) → (c == 10) ≡ false → last_line (t ++ c ∷ []) ≡ last_line t ++ c ∷ []
in_line t c e = last_push t c ∙ ap (λ b. cond b [] (last_line t ++ c ∷ [])) e

-- text without LF goes on in its line
goes_on_in_line : (u t : List ℕ) → list_all is_comment_part u ≡ true → last_line (t ++ u) ≡ last_line t ++ u
goes_on_in_line [] t e = ap last_line (append-nil t) ∙ sym (append-nil (last_line t))
goes_on_in_line (c ∷ u) t e =
    let p = and_parts (is_comment_part c) (list_all is_comment_part u) e in
    let n : (c == 10) ≡ false = not_newline (c == 10) (not (c == 13)) p.0 in
    ap last_line (sym (append_assoc t (c ∷ []) u)) ∙ goes_on_in_line u (t ++ c ∷ []) p.1 ∙ ap (λ l. l ++ u) (in_line t c n)
    ∙ append_assoc (last_line t) (c ∷ []) u
  where
    not_newline : (a b : Bool) → (not a && b) ≡ true → a ≡ false
    not_newline true b e = cc
    not_newline false b e = refl

pub comment_in_line : (u t : List ℕ) → is_comment u ≡ true → (length (last_line (t ++ u)) == 0) ≡ false
unfolding is_comment
comment_in_line [] t e = cc
comment_in_line (c ∷ u) t e =
    let p = and_parts (c == 35) (list_all is_comment_part u) e in
    let n = hash c p.0 in
    let l : last_line (t ++ c ∷ u) ≡ last_line t ++ c ∷ u = ap last_line (sym (append_assoc t (c ∷ []) u))
    ∙ goes_on_in_line u (t ++ c ∷ []) p.1 ∙ ap (λ l. l ++ u) (in_line t c n) ∙ append_assoc (last_line t) (c ∷ []) u in
    let k : length (last_line (t ++ c ∷ u)) ≡ length (last_line t) + suc (length u) = ap length l ∙ length-append (last_line t) (c ∷ u) in
    some_length (length (last_line (t ++ c ∷ u))) (length (last_line t)) (length u) k
  where
    hash : (c : ℕ) → (c == 35) ≡ true → (c == 10) ≡ false
    hash c e = grind (arith, nat_tests)

    some_length : (n a b : ℕ) → n ≡ a + suc b → (n == 0) ≡ false
    some_length n a b e = grind (arith, nat_tests)
