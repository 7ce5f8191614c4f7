-- What the class of a lexeme says of its text.
--
-- Carries: OfClass, of_class, no_string, for Brackets, StringsSaid. On: StringFronts.
use Rattle.std.proofs.Common.{◌≡◌, ℕ, Bool, true, false, ◌||◌, ◌==◌, not, List, [], ◌∷◌, Option, Some, None, refl, sym, ◌∙◌, subst, cond}
use Rattle.std.proofs.Common.{⊎_elim}
use Rattle.std.specs.Prelude.{option_map}
use Rattle.std.specs.List.{list_all}
use Rattle.std.proofs.lemmas.Bool.{eqb-true, or_cases, and_parts}
use Rattle.std.proofs.lemmas.List.Folds.{list_all-append}
use Rattle.pylex_lexeme.specs.declared.kinds.Exact.{Exact}
use Rattle.pylex_lexeme.specs.declared.lexeme.Class.{Class}
use Rattle.pylex_lexeme.specs.declared.lexeme.Class.TheVariants.{Name, Number, String, Operator, Comment, Blanks, LineEnd, Join}
use Rattle.pylex_lexeme.specs.Numbers.{is_number, headed, split_any}
use Rattle.pylex_lexeme.specs.Strings.{opens_string, opens_triple, counts_as_string, is_single, is_triple, is_single_string}
use Rattle.pylex_lexeme.specs.Strings.{is_triple_string}
use Rattle.pylex_lexeme.specs.Operators.{is_operator, exact_of}
use Rattle.pylex_lexeme.specs.Lexemes.{class_in, plain_class, is_name, is_comment, are_blanks, is_line_end, is_join}
use Rattle.pytoken.specs.StringValues.{is_quote}
use Rattle.pyunparse_text.proofs.LexemeFronts.StringFronts.{split_of}

-- a name, an operator, or a string of one kind
abbrev pub OfClass : Class → List ℕ → Type 0
OfClass Name t = is_name t ≡ true
OfClass (Operator e) t = exact_of t ≡ Some e
OfClass String t = (is_triple_string t || is_single_string t) ≡ true
OfClass _ t = Unit {0}

abbrev Says : Class → Bool → Option Exact → Type 0
Says Name n e = n ≡ true
Says (Operator o) n e = e ≡ Some o
Says String n e = ⊥
Says _ n e = Unit {0}

says : (n u o c b l j : Bool) (e : Option Exact) (k : Class)
    → cond n (Some Name) (cond u (Some Number) (cond o (option_map Operator e) (cond c (Some Comment) (cond b (Some Blanks)
    (cond l (Some LineEnd) (cond j (Some Join) None)))))) ≡ Some k
    → Says k n e
says true u o c b l j e k h = let f : Name ≡ k = cc in subst (λ (m : Class). Says m true e) f refl
says false true o c b l j e k h = let f : Number ≡ k = cc in subst (λ (m : Class). Says m false e) f tt
says false false true c b l j (Some e) k h = let f : Operator e ≡ k = cc in subst (λ (m : Class). Says m false (Some e)) f refl
says false false true c b l j None k h = absurd cc
says false false false true b l j e k h = let f : Comment ≡ k = cc in subst (λ (m : Class). Says m false e) f tt
says false false false false true l j e k h = let f : Blanks ≡ k = cc in subst (λ (m : Class). Says m false e) f tt
says false false false false false true j e k h = let f : LineEnd ≡ k = cc in subst (λ (m : Class). Says m false e) f tt
says false false false false false false true e k h = let f : Join ≡ k = cc in subst (λ (m : Class). Says m false e) f tt
says false false false false false false false e k h = absurd cc

plain_says : (t : List ℕ) (k : Class) → plain_class t ≡ Some k → Says k (is_name t) (exact_of t)
unfolding plain_class
plain_says t k e = says (is_name t) (is_number t) (is_operator t) (is_comment t) (are_blanks t) (is_line_end t) (is_join t) (exact_of t) k e

said_class : (k : Class) (t : List ℕ) → Says k (is_name t) (exact_of t) → OfClass k t
said_class Name t h = h
said_class Number t h = tt
said_class String t h = absurd h
said_class (Operator e) t h = h
said_class Comment t h = tt
said_class Blanks t h = tt
said_class LineEnd t h = tt
said_class Join t h = tt

counted : (cs t : List ℕ) → counts_as_string cs t ≡ true → (is_triple_string t || is_single_string t) ≡ true
unfolding counts_as_string
counted cs t h = by (opens_triple cs) (is_triple_string t) (is_single_string t) h
  where
    by : (o a b : Bool) → cond o a b ≡ true → (a || b) ≡ true
    by true true b h = refl
    by true false b h = absurd (cc)
    by false true b h = refl
    by false false b h = h

pub of_class : (cs t : List ℕ) (k : Class) → class_in cs t ≡ Some k → OfClass k t
unfolding class_in
of_class cs t k e = by (opens_string cs) (counts_as_string cs t) (counted cs t) e
  where
    by : (o c : Bool) → (c ≡ true → (is_triple_string t || is_single_string t) ≡ true)
        → cond o (cond c (Some String) None) (plain_class t) ≡ Some k
        → OfClass k t
    by true true counts h = let f : String ≡ k = cc in subst (λ (m : Class). OfClass m t) f (counts refl)
    by true false counts h = absurd cc
    by false c counts h = said_class k t (plain_says t k h)

-- ---- A string has a quote.

abbrev is_no_quote : ℕ → Bool
is_no_quote c = not (is_quote c)

headed_quote : (q : ℕ) → is_quote q ≡ true → (p : List ℕ → Bool) (t : List ℕ) → list_all is_no_quote t ≡ true
    → headed (λ a. a == q) p t ≡ true → ⊥
headed_quote q k p [] h e = cc
headed_quote q k p (c ∷ t) h e =
    let w = and_parts (c == q) (p t) e in
    let v = and_parts (is_no_quote c) (list_all is_no_quote t) h in
    let z : is_quote c ≡ true = subst (λ (x : ℕ). is_quote x ≡ true) (sym (eqb-true c q w.0)) k in
    let y : not (is_quote c) ≡ true = v.0 in
    let x : false ≡ true = rw z at y in
    cc

no_split : (p : List ℕ → Bool) (a b : List ℕ → Bool) (t : List ℕ) → list_all is_no_quote t ≡ true
    → split_any p (λ u. headed (λ c. c == 39) a u || headed (λ c. c == 34) b u) t ≡ true → ⊥
no_split p a b t h e =
    let s = split_of p (λ u. headed (λ c. c == 39) a u || headed (λ c. c == 34) b u) t e in
    let w =
    and_parts (list_all is_no_quote s.front) (list_all is_no_quote s.rest)
    (sym (list_all-append is_no_quote s.front s.rest) ∙ subst (λ z. list_all is_no_quote z ≡ true) s.whole h) in
    ⊎_elim (headed_quote 39 refl a s.rest w.1) (headed_quote 34 refl b s.rest w.1)
    (or_cases (headed (λ c. c == 39) a s.rest) (headed (λ c. c == 34) b s.rest) s.rest_passes)

pub no_string : (t : List ℕ) → list_all (λ c. not (is_quote c)) t ≡ true → (is_triple_string t || is_single_string t) ≡ true → ⊥
unfolding is_triple_string is_single_string is_triple is_single
no_string t h e = ⊎_elim (no_split _ _ _ t h) (no_split _ _ _ t h) (or_cases (is_triple_string t) (is_single_string t) e)
