-- Carries: pass_expression. On: the lexemes of a text, of which the first is taken.
use Rattle.std.proofs.Common.{◌≡◌, ℕ, ◌<◌, List, [], ◌∷◌, ◌++◌, length, refl, sym, ap, ◌∙◌, subst, Some, None, arith}
use Rattle.std.specs.Str.{chars}
use Rattle.std.proofs.lemmas.List.{append_cancel_left}
use Rattle.std.proofs.lemmas.Str.{chars-nil}
use Rattle.pylex_lexeme.specs.declared.lexeme.Class.{Class}
use Rattle.pylex_lexeme.specs.Cuts.{Cuts}
use Rattle.pylex_lexeme.specs.Lexemes.{Lexeme, lexeme_at, cut, left_by_cut}
use Rattle.pylex_listing.specs.Laws.{AreLexemes}
use Rattle.pylex_listing.proofs.Callers.{cut_lexed}

same_lexemes : (xs ys : List Lexeme) (text left right : List ℕ) → AreLexemes text xs left → AreLexemes text ys right → xs ≡ ys
same_lexemes [] [] text left right a b = refl
same_lexemes [] (y ∷ ys) text left right a b = absurd (let e : None ≡ Some y = sym a.1 ∙ b.1 in cc)
same_lexemes (x ∷ xs) [] text left right a b = absurd (let e : None ≡ Some x = sym b.1 ∙ a.1 in cc)
same_lexemes (x ∷ xs) (y ∷ ys) text left right a b =
    let e : Some x ≡ Some y = sym a.1 ∙ b.1 in
    let f : x ≡ y = cc in
    let g : x.text ++ a.0 ≡ x.text ++ b.0 = sym a.2 ∙ b.2 ∙ ap (λ (z : Lexeme). z.text ++ b.0) (sym f) in
    let h : a.0 ≡ b.0 = append_cancel_left x.text a.0 b.0 g in
    let r = same_lexemes xs ys a.0 left right a.3 (subst (λ (u : List ℕ). AreLexemes u ys right) (sym h) b.3) in
    ap (λ z. z ∷ xs) f ∙ ap (λ zs. y ∷ zs) r

-- a lexeme at the front
pub cut_some : (rest front back : List ℕ) (k : Class) → Cuts rest k front back
    → cut (chars rest) ≡ record { «class» = k; text = chars front } ∷ cut (chars back)
cut_some rest front back k c =
    let x : Lexeme = record { «class» = k; text = chars front } in
    same_lexemes (cut (chars rest)) (x ∷ cut (chars back)) (chars rest) (left_by_cut (chars rest)) (left_by_cut (chars back))
    (cut_lexed (chars rest)) (chars back, c.lexeme, c.whole, cut_lexed (chars back))

-- and where none stands
pub cut_none : (cs : List ℕ) → lexeme_at cs ≡ None → cut cs ≡ []
cut_none cs e = same_lexemes (cut cs) [] cs (left_by_cut cs) cs (cut_lexed cs) (refl, e)

some_bytes : (bs : List ℕ) → 0 < length (chars bs) → 0 < length bs
some_bytes [] h = let e : length (chars []) ≡ 0 = ap length chars-nil in omega arith
some_bytes (b ∷ bs) h = omega arith

pub shorter : (rest front back : List ℕ) (k : Class) → Cuts rest k front back → length back < length rest
shorter rest front back k c = let s = some_bytes front c.nonempty in omega (arith, c.sizes)
