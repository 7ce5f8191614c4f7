-- A lexeme other than a line end, a join or a string stands in one line.
--
-- Carries: what pylex cites. On: InLine.
use Rattle.std.proofs.Common.{◌≡◌, ℕ, Bool, true, false, cond, List, refl, sym, ap, ◌∙◌, Option, Some, None}
use Rattle.std.specs.Prelude.{option_map}
use Rattle.std.specs.List.{list_all}
use Rattle.pylex_lexeme.specs.declared.kinds.Exact.{Exact}
use Rattle.pylex_lexeme.specs.declared.lexeme.Class.{Class}
use Rattle.pylex_lexeme.specs.declared.lexeme.Class.TheVariants.{Name, Number, String, Operator, Comment, Blanks, LineEnd, Join}
use Rattle.pylex_lexeme.specs.Numbers.{is_number}
use Rattle.pylex_lexeme.specs.Operators.{is_operator, exact_of}
use Rattle.pylex_lexeme.specs.Strings.{opens_string, counts_as_string}
use Rattle.pylex_lexeme.specs.Lexemes.{is_name, is_comment, are_blanks, is_line_end, is_join, plain_class, class_in}
use Rattle.pylex_lexeme.proofs.WholeLines.InLine.{not_feed, name_off, number_off, operator_off, comment_off, blanks_off}

-- the lexemes of a class have no line feed
abbrev pub is_flat : Class → Bool
is_flat k = elim k [ String ↦ false | LineEnd ↦ false | Join ↦ false | _ ↦ true ]

not_flat : (k m : Class) → m ≡ k → is_flat m ≡ false → is_flat k ≡ true → ⊥
not_flat k m e f h = let g : is_flat k ≡ false = sym (ap is_flat e) ∙ f in cc

flat_by : (t : List ℕ) (n u o c b l j : Bool) (e : Option Exact) (k : Class)
    → (n ≡ true → list_all not_feed t ≡ true) → (u ≡ true → list_all not_feed t ≡ true) → (o ≡ true → list_all not_feed t ≡ true)
    → (c ≡ true → list_all not_feed t ≡ true) → (b ≡ true → list_all not_feed t ≡ true) → is_flat k ≡ true
    → cond n (Some Name)
    (cond u (Some Number)
    (cond o (option_map Operator e) (cond c (Some Comment) (cond b (Some Blanks) (cond l (Some LineEnd) (cond j (Some Join) None)))))) ≡
    Some k
    → list_all not_feed t ≡ true
flat_by t true u o c b l j e k fn fu fo fc fb f h = fn refl
flat_by t false true o c b l j e k fn fu fo fc fb f h = fu refl
flat_by t false false true c b l j e k fn fu fo fc fb f h = fo refl
flat_by t false false false true b l j e k fn fu fo fc fb f h = fc refl
flat_by t false false false false true l j e k fn fu fo fc fb f h = fb refl
flat_by t false false false false false true j e k fn fu fo fc fb f h = let g : LineEnd ≡ k = cc in absurd (not_flat k LineEnd g refl f)
flat_by t false false false false false false true e k fn fu fo fc fb f h = let g : Join ≡ k = cc in absurd (not_flat k Join g refl f)
flat_by t false false false false false false false e k fn fu fo fc fb f h = absurd cc

flat_plain : (t : List ℕ) (k : Class) → is_flat k ≡ true → plain_class t ≡ Some k → list_all not_feed t ≡ true
unfolding plain_class
flat_plain t k f e = flat_by t (is_name t) (is_number t) (is_operator t) (is_comment t) (are_blanks t) (is_line_end t) (is_join t)
    (exact_of t) k (name_off t) (number_off t) (operator_off t) (comment_off t) (blanks_off t) f e

pub flat_in : (cs t : List ℕ) (k : Class) → is_flat k ≡ true → class_in cs t ≡ Some k → list_all not_feed t ≡ true
unfolding class_in
flat_in cs t k f e = by_string (opens_string cs) (counts_as_string cs t) e
  where
    by_string : (o c : Bool) → cond o (cond c (Some String) None) (plain_class t) ≡ Some k → list_all not_feed t ≡ true
    by_string true true e = let g : String ≡ k = cc in absurd (not_flat k String g refl f)
    by_string true false e = absurd cc
    by_string false c e = flat_plain t k f e
