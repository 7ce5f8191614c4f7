-- A text has one list of lexemes, and its cut is that.
--
-- Carries: new, next. On: no other file.
use Rattle.std.proofs.Common.{◌≡◌, ℕ, List, [], ◌∷◌, ◌++◌, refl, sym, ap, ◌∙◌, subst, Some, None}
use Rattle.std.proofs.lemmas.List.{append_cancel_left}
use Rattle.pylex_lexeme.specs.Lexemes.{Lexeme, lexeme_at, cut, left_by_cut}
use Rattle.pylex_lexeme.proofs.Callers.Lexemes.{none_is, nothing_takes}
use Rattle.pylex_listing.specs.Laws.{AreLexemes}
use Rattle.pylex_listing.proofs.Callers.{cut_lexed}

pub record Same (xs ys : List Lexeme) (left right : List ℕ) : Type 0 where
  pub lexemes : xs ≡ ys
  pub stop : left ≡ right

same_lexemes : (xs ys : List Lexeme) (text left right : List ℕ) → AreLexemes text xs left → AreLexemes text ys right → Same xs ys left right
same_lexemes [] [] text left right a b = record { lexemes = refl; stop = a.0 ∙ sym b.0 }
same_lexemes [] (y ∷ ys) text left right a b = absurd (let e : None ≡ Some y = sym a.1 ∙ b.1 in cc)
same_lexemes (x ∷ xs) [] text left right a b = absurd (let e : None ≡ Some x = sym b.1 ∙ a.1 in cc)
same_lexemes (x ∷ xs) (y ∷ ys) text left right a b =
    let e : Some x ≡ Some y = sym a.1 ∙ b.1 in
    let f : x ≡ y = cc in
    let g : x.text ++ a.0 ≡ x.text ++ b.0 = sym a.2 ∙ b.2 ∙ ap (λ (z : Lexeme). z.text ++ b.0) (sym f) in
    let h : a.0 ≡ b.0 = append_cancel_left x.text a.0 b.0 g in
    let r = same_lexemes xs ys a.0 left right a.3 (subst (λ (u : List ℕ). AreLexemes u ys right) (sym h) b.3) in
    record { lexemes = cons x y xs ys f r.lexemes; stop = r.stop }
  where
    cons : (x y : Lexeme) (xs ys : List Lexeme) → x ≡ y → xs ≡ ys → x ∷ xs ≡ y ∷ ys
    cons x y xs ys e f = ap (λ z. z ∷ xs) e ∙ ap (λ zs. y ∷ zs) f

-- where a lexeme stands at the front
pub cut_some : (cs back : List ℕ) (x : Lexeme) → lexeme_at cs ≡ Some x → cs ≡ x.text ++ back
    → Same (cut cs) (x ∷ cut back) (left_by_cut cs) (left_by_cut back)
cut_some cs back x e w = same_lexemes (cut cs) (x ∷ cut back) cs (left_by_cut cs) (left_by_cut back) (cut_lexed cs)
    (back, e, w, cut_lexed back)

-- and where none does
pub cut_none : (cs : List ℕ) → lexeme_at cs ≡ None → Same (cut cs) [] (left_by_cut cs) cs
cut_none cs e = same_lexemes (cut cs) [] cs (left_by_cut cs) cs (cut_lexed cs) (refl, e)

pub cut_nil : Same (cut []) [] (left_by_cut []) []
cut_nil = cut_none [] (none_is [] [] nothing_takes)
