-- The text of a field's expression is cut into its pieces and the blanks between them.
--
-- Carries: expression_cut, expression_end, for FieldTokens. On: Conditions, LineCuts, PieceFronts.
use Rattle.std.proofs.Common.{◌≡◌, ℕ, ◌≤◌, true, not, ◌||◌, List, [], ◌∷◌, ◌++◌, length, refl, sym, ◌∙◌, ap, arith, inl}
use Rattle.std.proofs.Common.{inr}
use Rattle.std.proofs.Common.{if◌then◌else◌, length-append}
use Rattle.std.specs.List.{list_all}
use Rattle.std.specs.Str.{bytes_eq}
use Rattle.std.proofs.lemmas.List.{take-append-le}
use Rattle.std.proofs.lemmas.Bool.{cases_Bool, and_parts}
use Rattle.std.proofs.Math.Bool.{and-false}
use Rattle.pyfstring.specs.Texts.{begins_with}
use Rattle.pylex_listing.specs.declared.kind.Kind.{Kind}
use Rattle.pylex_listing.specs.declared.kind.Kind.TheVariants as kinds
use Rattle.pylex_listing.specs.Laws.{AreLexemes}
use Rattle.pylex_listing.proofs.Callers.{cut_lexed}
use Rattle.pylex_lexeme.specs.Lexemes.{Lexeme, cut, left_by_cut}
use Rattle.pylex_lexeme.specs.Operators.{is_operator}
use Rattle.pylex_lexeme.proofs.Callers.Lexemes.{none_is, nothing_takes}
use Rattle.pyunparse_text.specs.Spacing.{Piece, is_token, touches, text_following, stay_apart, are_two_points, all_apart, are_readable}
use Rattle.pyunparse_text.specs.Inner.Relexed.{lexeme_of, blanks, lexemes_after, lexemes_of}
use Rattle.pyunparse_text.proofs.LexemeFronts.Fronts.{blanks_front}
use Rattle.pyunparse_text.proofs.LexemeFronts.LineCuts.{Same}
use Rattle.pyunparse_text.proofs.LexemeFronts.PieceFronts.{IsPiece, ArePieces, Clear, clear_after, none_empty, token_front, token_no_blank}
use Rattle.pyunparse_text.proofs.FieldTexts.Conditions.{expression_text}
use Rattle.pyunparse_text.proofs.LexemeFronts.LineCuts.{same_lexemes}

-- ---- What stands after a piece doesn't join it, if no line's end stands after that either.

clear_nothing : (k : Kind) (t : List ℕ) → Clear k t []
clear_nothing kinds.Name t = (refl, refl)
clear_nothing kinds.Number t = (refl, refl)
clear_nothing kinds.String t = refl
clear_nothing kinds.Op t = (λ j h i. absurd (omega arith), and-false (bytes_eq t (46 ∷ [])))
clear_nothing kinds.Encoding t = tt
clear_nothing kinds.Comment t = tt
clear_nothing kinds.Nl t = tt
clear_nothing kinds.Newline t = tt
clear_nothing kinds.Indent t = tt
clear_nothing kinds.Dedent t = tt
clear_nothing kinds.EndMarker t = tt

clear_front : (k : Kind) (t : List ℕ) (c : ℕ) (u a : List ℕ) → Clear k t (c ∷ u ++ a) → Clear k t (c ∷ u)
clear_front kinds.Name t c u a h = h
clear_front kinds.Number t c u a h = h
clear_front kinds.String t c u a h = h
clear_front kinds.Op t c u a h = (λ j f g. ap (λ x. is_operator (t ++ x)) (sym (take-append-le j (c ∷ u) a g)) ∙ h.0 j f (longer j g), h.1)
  where
    longer : (j : ℕ) → j ≤ length (c ∷ u) → j ≤ length (c ∷ u ++ a)
    longer j g = let l = length-append u a in omega arith
clear_front kinds.Encoding t c u a h = tt
clear_front kinds.Comment t c u a h = tt
clear_front kinds.Nl t c u a h = tt
clear_front kinds.Newline t c u a h = tt
clear_front kinds.Indent t c u a h = tt
clear_front kinds.Dedent t c u a h = tt
clear_front kinds.EndMarker t c u a h = tt

clear_alone : (p : Piece) (qs : List Piece) → IsPiece p → ArePieces qs → all_apart p qs ≡ true → Clear p.kind p.text (text_following p qs)
clear_alone p [] i a h = clear_nothing p.kind p.text
clear_alone p (q ∷ qs) i a h =
    let c : Clear p.kind p.text (text_following p (q ∷ qs) ++ 10 ∷ []) = clear_after p (q ∷ qs) [] i a h in
    let b = (and_parts (is_token q.kind q.text) (list_all (λ r. is_token r.kind r.text) qs) a).0 in
    elim (cases_Bool (touches p q)) [
      | inl t ↦ rw t (head q.kind q.text b (rw t at c))
      | inr t ↦ rw t (clear_front p.kind p.text 32 (q.text ++ text_following q qs) (10 ∷ []) (rw t at c))
    ]
  where
    head : (k : Kind) (t : List ℕ) → is_token k t ≡ true → Clear p.kind p.text ((t ++ text_following q qs) ++ 10 ∷ [])
        → Clear p.kind p.text (t ++ text_following q qs)
    head k [] b c = absurd (none_empty k b)
    head k (d ∷ t) b c = clear_front p.kind p.text d (t ++ text_following q qs) (10 ∷ []) c

-- ---- Pieces to the text's end.

piece_lexed : (q : Piece) (qs : List Piece) (ys : List Lexeme) → IsPiece q → ArePieces qs → all_apart q qs ≡ true
    → AreLexemes (text_following q qs) ys [] → AreLexemes (q.text ++ text_following q qs) (lexeme_of q ∷ ys) []
piece_lexed q qs ys i a h l = (text_following q qs, token_front q.kind q.text (text_following q qs) i (clear_alone q qs i a h), refl, l)

blank_lexed : (q : Piece) (qs : List Piece) (ys : List Lexeme) → IsPiece q → AreLexemes (q.text ++ text_following q qs) ys []
    → AreLexemes (32 ∷ q.text ++ text_following q qs) (blanks (32 ∷ []) ∷ ys) []
blank_lexed q qs ys i l = (
  q.text ++ text_following q qs,
  blanks_front (32 ∷ []) (q.text ++ text_following q qs) refl refl
      (token_no_blank q.kind q.text (text_following q qs) i),
  refl,
  l,
)

after_lexed : (p : Piece) (qs : List Piece) → ArePieces qs → all_apart p qs ≡ true → AreLexemes (text_following p qs) (lexemes_after p qs) []
after_lexed p [] a h = (refl, none_is [] [] nothing_takes)
after_lexed p (q ∷ qs) a h =
    let i = and_parts (is_token q.kind q.text) (list_all (λ r. is_token r.kind r.text) qs) a in
    let j = and_parts (not (touches p q) || (stay_apart p q || are_two_points p q qs)) (all_apart q qs) h in
    let k = piece_lexed q qs (lexemes_after q qs) i.0 i.1 j.1 (after_lexed q qs i.1 j.1) in
    elim (cases_Bool (touches p q)) [
      | inl t ↦ rw t k
      | inr t ↦ rw t (blank_lexed q qs (lexeme_of q ∷ lexemes_after q qs) i.0 k)
    ]

-- ---- The text of an expression.

-- its lexemes
abbrev pub expression_lexemes : List Piece → List Lexeme
expression_lexemes [] = []
expression_lexemes (p ∷ ps) = (if begins_with 123 p.text then blanks (32 ∷ []) ∷ [] else []) ++ lexemes_of (p ∷ ps)

expression_lexed : (ps : List Piece) → are_readable ps ≡ true → AreLexemes (expression_text ps) (expression_lexemes ps) []
expression_lexed [] e = cc
expression_lexed (p ∷ ps) e =
    let r = and_parts (list_all (λ q. is_token q.kind q.text) (p ∷ ps)) (all_apart p ps) e in
    let i = and_parts (is_token p.kind p.text) (list_all (λ q. is_token q.kind q.text) ps) r.0 in
    let k = piece_lexed p ps (lexemes_after p ps) i.0 i.1 r.1 (after_lexed p ps i.1 r.1) in
    elim (cases_Bool (begins_with 123 p.text)) [
      | inl t ↦ rw t (blank_lexed p ps (lexeme_of p ∷ lexemes_after p ps) i.0 k)
      | inr t ↦ rw t k
    ]

expression_same : (ps : List Piece) → are_readable ps ≡ true
    → Same (cut (expression_text ps)) (expression_lexemes ps) (left_by_cut (expression_text ps)) []
expression_same ps e =
    same_lexemes (cut (expression_text ps)) (expression_lexemes ps) (expression_text ps) (left_by_cut (expression_text ps)) []
    (cut_lexed (expression_text ps)) (expression_lexed ps e)

pub expression_cut : (ps : List Piece) → are_readable ps ≡ true → cut (expression_text ps) ≡ expression_lexemes ps
expression_cut ps e = (expression_same ps e).lexemes

pub expression_end : (ps : List Piece) → are_readable ps ≡ true → left_by_cut (expression_text ps) ≡ []
expression_end ps e = (expression_same ps e).stop
