-- Lines of pieces are cut into these pieces, the blanks between them, and the line ends.
--
-- Carries: lines_cut, lines_end, for Relisting. On: PieceFronts, Fronts, Cases.
use Rattle.std.proofs.Common.{◌≡◌, ℕ, ◌+◌, ◌*◌, true, false, not, ◌||◌, List, [], ◌∷◌, ◌++◌, refl, sym, ◌∙◌, ap, subst, arith, zero, suc}
use Rattle.std.proofs.Common.{⊎_elim}
use Rattle.std.proofs.Common.{Some, None, append_assoc, replicate}
use Rattle.std.specs.List.{list_all}
use Rattle.std.proofs.lemmas.List.{append_cancel_left}
use Rattle.std.proofs.lemmas.Bool.{cases_Bool, and_parts}
use Rattle.pylex_lexeme.specs.Chars.{begins, is_blank_char}
use Rattle.pylex_lexeme.specs.Lexemes.{Lexeme, lexeme_at, cut, left_by_cut}
use Rattle.pylex_listing.specs.Laws.{AreLexemes}
use Rattle.pylex_lexeme.proofs.Callers.Lexemes.{none_is, nothing_takes}
use Rattle.pylex_listing.proofs.Callers.{cut_lexed}
use Rattle.pyunparse_text.specs.Spacing.{Piece, Line, is_token, touches, text_following, spaced, stay_apart, are_two_points, all_apart}
use Rattle.pyunparse_text.specs.Spacing.{are_readable}
use Rattle.pyunparse_text.specs.Spacing.{line_text, lines_text}
use Rattle.pyunparse_text.specs.Inner.Relexed.{lexeme_of, blanks, feed, lexemes_after, lexemes_of, indent_lexemes, line_lexemes}
use Rattle.pyunparse_text.specs.Inner.Relexed.{lines_lexemes}
use Rattle.pyunparse_text.proofs.LexemeFronts.Fronts.{blanks_front, feed_front}
use Rattle.pyunparse_text.proofs.LexemeFronts.PieceFronts.{IsPiece, ArePieces, token_front, token_no_blank, clear_after}

-- a lexeme before others
before : (x : Lexeme) (t r : List ℕ) (xs : List Lexeme) (left : List ℕ) → x.text ≡ t → lexeme_at (t ++ r) ≡ Some x → AreLexemes r xs left
    → AreLexemes (t ++ r) (x ∷ xs) left
before x t r xs left e h a = (r, h, ap (λ u. u ++ r) (sym e), a)

-- a piece, and what stands after it in its line
piece_before : (q : Piece) (qs : List Piece) (more : List ℕ) (ys : List Lexeme) (left : List ℕ) → IsPiece q
    → ArePieces qs → all_apart q qs ≡ true
    → AreLexemes (text_following q qs ++ 10 ∷ more) ys left → AreLexemes ((q.text ++ text_following q qs) ++ 10 ∷ more) (lexeme_of q ∷ ys) left
piece_before q qs more ys left e a h l =
    subst (λ (u : List ℕ). AreLexemes u (lexeme_of q ∷ ys) left) (sym (append_assoc q.text (text_following q qs) (10 ∷ more)))
    (before (lexeme_of q) q.text (text_following q qs ++ 10 ∷ more) ys left refl (token_front q.kind q.text (text_following q qs ++ 10 ∷ more) e
    (clear_after q qs more e a h)) l)

no_blank_first : (q : Piece) (qs : List Piece) (more : List ℕ) → IsPiece q
    → begins is_blank_char ((q.text ++ text_following q qs) ++ 10 ∷ more) ≡ false
no_blank_first q qs more e =
    subst (λ (u : List ℕ). begins is_blank_char u ≡ false) (sym (append_assoc q.text (text_following q qs) (10 ∷ more)))
    (token_no_blank q.kind q.text (text_following q qs ++ 10 ∷ more) e)

pub after_lexed : (p : Piece) (qs : List Piece) (more : List ℕ) (xs : List Lexeme) (left : List ℕ) → ArePieces qs → all_apart p qs ≡ true
    → AreLexemes more xs left → AreLexemes (text_following p qs ++ 10 ∷ more) (lexemes_after p qs ++ feed ∷ xs) left
after_lexed p [] more xs left a h l = before feed (10 ∷ []) more xs left refl (feed_front more) l
after_lexed p (q ∷ qs) more xs left a h l =
    let i = and_parts (is_token q.kind q.text) (list_all (λ r. is_token r.kind r.text) qs) a in
    let j = and_parts (not (touches p q) || (stay_apart p q || are_two_points p q qs)) (all_apart q qs) h in
    let k = piece_before q qs more (lexemes_after q qs ++ feed ∷ xs) left i.0 i.1 j.1 (after_lexed q qs more xs left i.1 j.1 l) in
    ⊎_elim
    (λ (t : touches p q ≡ true). rw t k)
    (λ (t : touches p q ≡ false). rw t (before (blanks (32 ∷ [])) (32 ∷ []) ((q.text ++ text_following q qs) ++ 10 ∷ more)
    (lexeme_of q ∷ (lexemes_after q qs ++ feed ∷ xs)) left refl (blanks_front (32 ∷ [])
    ((q.text ++ text_following q qs) ++ 10 ∷ more) refl refl (no_blank_first q qs more i.0)) k))
    (cases_Bool (touches p q))

-- The pieces of a line
pub pieces_lexed : (ps : List Piece) (more : List ℕ) (xs : List Lexeme) (left : List ℕ) → are_readable ps ≡ true → AreLexemes more xs left
    → AreLexemes (spaced ps ++ 10 ∷ more) (lexemes_of ps ++ feed ∷ xs) left
pieces_lexed [] more xs left r l = cc
pieces_lexed (p ∷ ps) more xs left r l =
    let i = and_parts (list_all (λ q. is_token q.kind q.text) (p ∷ ps)) (all_apart p ps) r in
    let j = and_parts (is_token p.kind p.text) (list_all (λ q. is_token q.kind q.text) ps) i.0 in
    piece_before p ps more (lexemes_after p ps ++ feed ∷ xs) left j.0 j.1 i.1 (after_lexed p ps more xs left j.1 i.1 l)

first_no_blank : (ps : List Piece) (more : List ℕ) → are_readable ps ≡ true → begins is_blank_char (spaced ps ++ 10 ∷ more) ≡ false
first_no_blank [] more r = cc
first_no_blank (p ∷ ps) more r =
    let i = and_parts (list_all (λ q. is_token q.kind q.text) (p ∷ ps)) (all_apart p ps) r in
    let j = and_parts (is_token p.kind p.text) (list_all (λ q. is_token q.kind q.text) ps) i.0 in
    no_blank_first p ps more j.0

all_blank : (n : ℕ) → list_all is_blank_char (replicate n 32) ≡ true
all_blank zero = refl
all_blank (suc n) = all_blank n

some_blank : (n k : ℕ) → n ≡ suc k → begins is_blank_char (replicate n 32) ≡ true
some_blank zero k e = cc
some_blank (suc n) k e = refl

indented : (n : ℕ) (r : List ℕ) (xs : List Lexeme) (left : List ℕ) → begins is_blank_char r ≡ false → AreLexemes r xs left
    → AreLexemes (replicate (4 * n) 32 ++ r) (indent_lexemes n ++ xs) left
indented zero r xs left b l = l
indented (suc n) r xs left b l =
    let m : 4 * suc n ≡ suc (3 + 4 * n) = omega arith in
    before (blanks (replicate (4 * suc n) 32)) (replicate (4 * suc n) 32) r xs left refl
    (blanks_front (replicate (4 * suc n) 32) r (all_blank (4 * suc n)) (some_blank (4 * suc n) (3 + 4 * n) m) b) l

-- Lines
abbrev pub AreWritten : List Line → Type 0
AreWritten ls = list_all (λ l. are_readable l.pieces) ls ≡ true

line_lexed : (l : Line) (more : List ℕ) (xs : List Lexeme) (left : List ℕ) → are_readable l.pieces ≡ true → AreLexemes more xs left
    → AreLexemes (line_text l ++ more) (line_lexemes l ++ xs) left
line_lexed l more xs left r h =
    let t : line_text l ++ more ≡ replicate (4 * l.level) 32 ++ (spaced l.pieces ++ 10 ∷ more) =
    append_assoc (replicate (4 * l.level) 32) (spaced l.pieces ++ 10 ∷ []) more
    ∙ ap (λ u. replicate (4 * l.level) 32 ++ u) (append_assoc (spaced l.pieces) (10 ∷ []) more) in
    let y : line_lexemes l ++ xs ≡ indent_lexemes l.level ++ (lexemes_of l.pieces ++ feed ∷ xs) =
    append_assoc (indent_lexemes l.level) (lexemes_of l.pieces ++ feed ∷ []) xs
    ∙ ap (λ u. indent_lexemes l.level ++ u) (append_assoc (lexemes_of l.pieces) (feed ∷ []) xs) in
    rw (t, y)
    (indented l.level (spaced l.pieces ++ 10 ∷ more) (lexemes_of l.pieces ++ feed ∷ xs) left (first_no_blank l.pieces more r)
    (pieces_lexed l.pieces more xs left r h))

pub lines_lexed : (ls : List Line) → AreWritten ls → AreLexemes (lines_text ls) (lines_lexemes ls) []
lines_lexed [] w = (refl, none_is [] [] nothing_takes)
lines_lexed (l ∷ ls) w =
    let i = and_parts (are_readable l.pieces) (list_all (λ l. are_readable l.pieces) ls) w in
    line_lexed l (lines_text ls) (lines_lexemes ls) [] i.0 (lines_lexed ls i.1)

-- A text has one list of lexemes.
pub record Same (xs ys : List Lexeme) (left right : List ℕ) : Type 0 where
  pub lexemes : xs ≡ ys
  pub stop : left ≡ right

pub same_lexemes : (xs ys : List Lexeme) (text left right : List ℕ) → AreLexemes text xs left
    → AreLexemes text ys right → Same xs ys left right
same_lexemes [] [] text left right a b = record { lexemes = refl; stop = a.0 ∙ sym b.0 }
same_lexemes [] (y ∷ ys) text left right a b = absurd (let e : None ≡ Some y = sym a.1 ∙ b.1 in cc)
same_lexemes (x ∷ xs) [] text left right a b = absurd (let e : None ≡ Some x = sym b.1 ∙ a.1 in cc)
same_lexemes (x ∷ xs) (y ∷ ys) text left right a b =
    let e : Some x ≡ Some y = sym a.1 ∙ b.1 in
    let f : x ≡ y = cc in
    let g : x.text ++ a.0 ≡ x.text ++ b.0 = sym a.2 ∙ b.2 ∙ ap (λ (z : Lexeme). z.text ++ b.0) (sym f) in
    let h : a.0 ≡ b.0 = append_cancel_left x.text a.0 b.0 g in
    let r = same_lexemes xs ys a.0 left right a.3 (subst (λ (u : List ℕ). AreLexemes u ys right) (sym h) b.3) in
    record { lexemes = cons x y xs ys f r.lexemes; stop = r.stop }
  where
    cons : (x y : Lexeme) (xs ys : List Lexeme) → x ≡ y → xs ≡ ys → x ∷ xs ≡ y ∷ ys
    cons x y xs ys e f = ap (λ z. z ∷ xs) e ∙ ap (λ zs. y ∷ zs) f

-- The law: the cut of the text of lines is their lexemes, to the text's end.
pub lines_cut : (ls : List Line) → AreWritten ls → cut (lines_text ls) ≡ lines_lexemes ls
lines_cut ls w =
    (same_lexemes (cut (lines_text ls)) (lines_lexemes ls) (lines_text ls) (left_by_cut (lines_text ls)) [] (cut_lexed (lines_text ls))
    (lines_lexed ls w)).lexemes

pub lines_end : (ls : List Line) → AreWritten ls → left_by_cut (lines_text ls) ≡ []
lines_end ls w =
    (same_lexemes (cut (lines_text ls)) (lines_lexemes ls) (lines_text ls) (left_by_cut (lines_text ls)) [] (cut_lexed (lines_text ls))
    (lines_lexed ls w)).stop
