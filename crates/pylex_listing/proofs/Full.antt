-- Each lexeme of a cut has text.
--
-- Carries: lexeme_full, cut_full, for Measured, Counts, Lexed, Ahead and 3 more. On: Resume.
use Rattle.std.proofs.Common.{◌≡◌, ℕ, ◌-◌, ◌<◌, zero, suc, List, [], ◌∷◌, length, take, refl, ap, ◌∙◌, sym, subst, arith, Option, Some}
use Rattle.std.proofs.Common.{None}
use Rattle.std.specs.Prelude.{option_map}
use Rattle.std.proofs.lemmas.Str.{length-le-encodes}
use Rattle.pylex_lexeme.specs.declared.lexeme.Class.{Class}
use Rattle.pylex_lexeme.specs.Lexemes.{Lexeme, class_in, lexeme_len, lexeme_at, cut, cut_after, list_of}
use Rattle.pylex_lexeme.specs.Chars.{bytes_in}
use Rattle.pylex_lexeme.proofs.Callers.Lexemes.{class_none}

-- Each lexeme has text.
abbrev pub Full : List Lexeme → Type 0
Full [] = Unit {0}
Full (x ∷ xs) = (0 < bytes_in x.text) × Full xs

pub text_is : (t : List ℕ) (o : Option Class) (x : Lexeme) → option_map (λ k. record { «class» = k; text = t }) o ≡ Some x → x.text ≡ t
text_is t None x e = cc
text_is t (Some k) x e = cc

full_by : (cs t : List ℕ) (x : Lexeme) → option_map (λ k. record { «class» = k; text = t }) (class_in cs t) ≡ Some x → 0 < bytes_in x.text
full_by cs [] x e = let n : option_map (λ k. record { «class» = k; text = [] }) None ≡ Some x =
    ap (option_map (λ k. record { «class» = k; text = [] })) (sym (class_none cs)) ∙ e in cc
full_by cs (c ∷ t) x e =
    let h = text_is (c ∷ t) (class_in cs (c ∷ t)) x e in
    let b = length-le-encodes (c ∷ t) in
    let n : 0 < bytes_in (c ∷ t) = omega arith in
    subst (λ (u : List ℕ). 0 < bytes_in u) (sym h) n

pub lexeme_full : (cs : List ℕ) (x : Lexeme) → lexeme_at cs ≡ Some x → 0 < bytes_in x.text
unfolding lexeme_at
lexeme_full cs x e = full_by cs (take (lexeme_len cs) cs) x e

pub lexeme_front : (cs : List ℕ) (x : Lexeme) → lexeme_at cs ≡ Some x → x.text ≡ take (lexeme_len cs) cs
unfolding lexeme_at
lexeme_front cs x e = text_is (take (lexeme_len cs) cs) (class_in cs (take (lexeme_len cs) cs)) x e

full_step : (cs : List ℕ) (o : Option Lexeme) (f : Lexeme → List Lexeme) → ((x : Lexeme) → Full (f x))
    → ((x : Lexeme) → o ≡ Some x → 0 < bytes_in x.text) → Full (list_of (option_map (λ x. x ∷ f x) o))
full_step cs None f h g = tt
full_step cs (Some x) f h g = (g x refl, h x)

cut_after_full : (cs : List ℕ) (n : ℕ) → Full (cut_after n cs)
cut_after_full [] n = tt
cut_after_full (c ∷ cs) zero = full_step cs (lexeme_at (c ∷ cs)) (λ x. cut_after (length x.text - 1) cs)
    (λ x. cut_after_full cs (length x.text - 1)) (λ x e. lexeme_full (c ∷ cs) x e)
cut_after_full (c ∷ cs) (suc n) = cut_after_full cs n

pub cut_full : (cs : List ℕ) → Full (cut cs)
unfolding cut
cut_full cs = cut_after_full cs 0
