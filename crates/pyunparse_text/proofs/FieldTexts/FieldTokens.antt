-- The tokens of the text of a field's expression are its pieces.
--
-- Carries: field_tokens_are, field_has_tokens, field_scalars, for what reads f-strings back. On: FieldCuts.
use Rattle.std.proofs.Common.{◌≡◌, ℕ, ◌+◌, ◌-◌, Bool, true, false, not, ◌&&◌, ◌||◌, ◌==◌, List, [], ◌∷◌, ◌++◌, map, count_by, refl, sym}
use Rattle.std.proofs.Common.{◌∙◌, ap, ap₂}
use Rattle.std.proofs.Common.{subst, arith, Option, Some, None, inl, inr, if◌then◌else◌}
use Rattle.std.specs.List.{list_all, list_any}
use Rattle.std.specs.Str.{all_scalars}
use Rattle.std.proofs.lemmas.Bool.{eqb-true, cases_Bool, not-true, and_parts}
use Rattle.std.proofs.lemmas.Bool.Decides.{nat_tests}
use Rattle.std.proofs.lemmas.List.Sums.{sum_by-cons}
use Rattle.pyfstring.specs.Texts.{begins_with}
use Rattle.pyfstring_tokens.specs.FieldTokens.{FieldToken, is_comment_class, is_of_comment, closes_none, closes_outer, has_comment}
use Rattle.pyfstring_tokens.specs.FieldTokens.{field_tokens}
use Rattle.pyfstring_tokens.specs.FieldTokens.{opening, closing}
use Rattle.pyfstring_tokens.specs.Laws.{tokens_of, IsWhole, HasOwnTokens}
use Rattle.pylex_listing.specs.declared.kind.Kind.{Kind}
use Rattle.pylex_listing.specs.declared.kind.Kind.TheVariants as kinds
use Rattle.pylex_listing.specs.Lines.{count_if}
use Rattle.pylex_listing.specs.Lines as lexemes
use Rattle.pylex_lexeme.specs.declared.kinds.Exact.{Exact}
use Rattle.pylex_lexeme.specs.declared.kinds.Exact.TheVariants.{LPar, LSqb, LBrace}
use Rattle.pylex_lexeme.specs.declared.lexeme.Class.{Class}
use Rattle.pylex_lexeme.specs.declared.lexeme.Class.TheVariants.{Operator, Join}
use Rattle.pylex_lexeme.specs.Lexemes.{Lexeme, is_opener_class, is_closer_class}
use Rattle.pylex_lexeme.specs.Operators.{exact_of, is_operator, is_opener, is_closer}
use Rattle.pytoken.specs.FormattedStrings.{has_no_tokens}
use Rattle.pyunparse_text.specs.Spacing.{Piece, is_token, touches, text_following, all_apart, are_readable}
use Rattle.pyunparse_text.specs.Tokens.{exact_in, token_of, opens, closes, closes_all}
use Rattle.pyunparse_text.specs.Inner.Relexed.{lexeme_of, blanks, lexemes_after}
use Rattle.pyunparse_text.proofs.LexemeFronts.PieceFronts.{IsPiece, ArePieces}
use Rattle.pyunparse_text.proofs.Sources.Bytes.{scalars_both}
use Rattle.pyunparse_text.proofs.FieldTexts.Conditions.{expression_text}
use Rattle.pyunparse_text.proofs.FieldTexts.FieldCuts.{expression_lexemes, expression_cut, expression_end}

-- a piece as a token of a field
abbrev pub own_token : Piece → FieldToken
own_token p = record { kind = p.kind; exact = exact_in (token_of p); text = p.text }

-- ---- One piece.

record IsOwn (p : Piece) : Type 0 where
  pub tokens : (xs : List Lexeme) → tokens_of (lexeme_of p ∷ xs) ≡ own_token p ∷ tokens_of xs
  pub opener : lexemes.opens (lexeme_of p) ≡ opens p
  pub closer : lexemes.closes (lexeme_of p) ≡ closes p
  pub apart : (opens p && closes p) ≡ false
  pub comment : is_of_comment (lexeme_of p) ≡ false

abbrev sign_class : Option Exact → Class
sign_class o = elim o [ Some e ↦ Operator e | None ↦ Join ]

abbrev is_opener_sign : Option Exact → Bool
is_opener_sign o = elim o [ Some e ↦ is_opener e | None ↦ false ]

abbrev is_closer_sign : Option Exact → Bool
is_closer_sign o = elim o [ Some e ↦ is_closer e | None ↦ false ]

record IsOwnSign (t : List ℕ) (o : Option Exact) : Type 0 where
  pub tokens : (xs : List Lexeme)
      → tokens_of (record { «class» = sign_class o; text = t } ∷ xs) ≡ record { kind = kinds.Op; exact = o; text = t } ∷ tokens_of xs
  pub opener : is_opener_class (sign_class o) ≡ is_opener_sign o
  pub closer : is_closer_class (sign_class o) ≡ is_closer_sign o
  pub apart : (is_opener_sign o && is_closer_sign o) ≡ false
  pub comment : is_comment_class (sign_class o) ≡ false

brackets_apart : (x : Exact) → (is_opener x && is_closer x) ≡ false
brackets_apart LPar = refl
brackets_apart LSqb = refl
brackets_apart LBrace = refl
brackets_apart x = refl

sign_own : (t : List ℕ) → is_operator t ≡ true → IsOwnSign t (exact_of t)
unfolding is_operator
sign_own t e = by (exact_of t) refl
  where
    by : (o : Option Exact) → exact_of t ≡ o → IsOwnSign t (exact_of t)
    by (Some x) f =
        subst (IsOwnSign t) (sym f) (record { tokens = λ xs. refl; opener = refl; closer = refl; apart = brackets_apart x; comment = refl })
    by None f = absurd (let g : false ≡ true = rw f at e in cc)

own_of : (k : Kind) (t : List ℕ) (b h : Bool) → is_token k t ≡ true → IsOwn (record { kind = k; text = t; before = b; following = h })
own_of kinds.Name t b h e = record { tokens = λ xs. refl; opener = refl; closer = refl; apart = refl; comment = refl }
own_of kinds.Number t b h e = record { tokens = λ xs. refl; opener = refl; closer = refl; apart = refl; comment = refl }
own_of kinds.String t b h e = record { tokens = λ xs. refl; opener = refl; closer = refl; apart = refl; comment = refl }
own_of kinds.Op t b h e =
    let s = sign_own t e in record { tokens = s.tokens; opener = s.opener; closer = s.closer; apart = s.apart; comment = s.comment }
own_of kinds.Encoding t b h e = cc
own_of kinds.Comment t b h e = cc
own_of kinds.Nl t b h e = cc
own_of kinds.Newline t b h e = cc
own_of kinds.Indent t b h e = cc
own_of kinds.Dedent t b h e = cc
own_of kinds.EndMarker t b h e = cc

is_own : (p : Piece) → IsPiece p → IsOwn p
is_own p i = own_of p.kind p.text p.before p.following i

-- ---- All pieces.

-- lexemes that are the tokens of pieces, none of them a comment, with brackets that are closed as those of the pieces are
record AreOwn (xs : List Lexeme) (ps : List Piece) : Type 0 where
  pub tokens : tokens_of xs ≡ map own_token ps
  pub comments : list_any is_of_comment xs ≡ false
  pub balanced : (d : ℕ) → closes_all d ps ≡ true → closes_none d xs ≡ false
  pub closed : (d : ℕ) → closes_all d ps ≡ true → d + count_by lexemes.opens xs ≡ count_by lexemes.closes xs

pub counted : (p : Lexeme → Bool) (x : Lexeme) (xs : List Lexeme) → count_by p (x ∷ xs) ≡ count_if (p x) + count_by p xs
counted p x xs = sum_by-cons (λ y. count_if (p y)) x xs

none_own : AreOwn [] []
none_own = record { tokens = refl; comments = refl; balanced = λ d e. refl; closed = λ d e. let f : d ≡ 0 = eqb-true d 0 e in omega arith }

-- what is asked of the brackets after a piece that opens or closes one
abbrev closed_after : Bool → Bool → ℕ → List Piece → Bool
closed_after o c d ps = if o then closes_all (d + 1) ps else (if c then not (d == 0) && closes_all (d - 1) ps else closes_all d ps)

balanced_by : (o c : Bool) (d : ℕ) (ps : List Piece) (xs : List Lexeme) → (o && c) ≡ false
    → ((n : ℕ) → closes_all n ps ≡ true → closes_none n xs ≡ false) → closed_after o c d ps ≡ true
    → ((c && (d == 0)) || closes_none (d + count_if o - count_if c) xs) ≡ false
balanced_by true true d ps xs a r e = cc
balanced_by true false d ps xs a r e = let n : d + 1 - 0 ≡ d + 1 = omega arith in ap (λ m. closes_none m xs) n ∙ r (d + 1) e
balanced_by false true d ps xs a r e =
    let p = and_parts (not (d == 0)) (closes_all (d - 1) ps) e in
    let z = not-true (d == 0) p.0 in
    let n : d + 0 - 1 ≡ d - 1 = omega arith in
    rw z (ap (λ m. closes_none m xs) n ∙ r (d - 1) p.1)
balanced_by false false d ps xs a r e = let n : d + 0 - 0 ≡ d = omega arith in ap (λ m. closes_none m xs) n ∙ r d e

closed_by : (o c : Bool) (d m n : ℕ) (ps : List Piece) → (o && c) ≡ false → ((k : ℕ) → closes_all k ps ≡ true → k + m ≡ n)
    → closed_after o c d ps ≡ true → d + (count_if o + m) ≡ count_if c + n
closed_by true true d m n ps a r e = cc
closed_by true false d m n ps a r e = let w = r (d + 1) e in omega arith
closed_by false true d m n ps a r e =
    let p = and_parts (not (d == 0)) (closes_all (d - 1) ps) e in
    let z = not-true (d == 0) p.0 in
    let w = r (d - 1) p.1 in
    grind (arith, nat_tests)
closed_by false false d m n ps a r e = let w = r d e in omega arith

piece_own : (p : Piece) (ps : List Piece) (xs : List Lexeme) → IsPiece p → AreOwn xs ps → AreOwn (lexeme_of p ∷ xs) (p ∷ ps)
piece_own p ps xs i a =
    let o = is_own p i in
    let c = o.comment in
    record {
      tokens = o.tokens xs ∙ ap (λ ts. own_token p ∷ ts) a.tokens;
      comments = rw c a.comments;
      balanced = λ d e.
          ap₂ (λ x y. (y && (d == 0)) || closes_none (d + count_if x - count_if y) xs) o.opener o.closer
          ∙ balanced_by (opens p) (closes p) d ps xs o.apart a.balanced e;
      closed = λ d e.
          ap (λ n. d + n) (counted lexemes.opens (lexeme_of p) xs ∙ ap (λ x. count_if x + count_by lexemes.opens xs) o.opener)
          ∙ closed_by (opens p) (closes p) d (count_by lexemes.opens xs) (count_by lexemes.closes xs) ps o.apart a.closed e
          ∙ sym (counted lexemes.closes (lexeme_of p) xs ∙ ap (λ x. count_if x + count_by lexemes.closes xs) o.closer);
    }

blank_own : (ps : List Piece) (xs : List Lexeme) → AreOwn xs ps → AreOwn (blanks (32 ∷ []) ∷ xs) ps
blank_own ps xs a = record {
  tokens = a.tokens;
  comments = a.comments;
  balanced = λ d e. ap (λ n. closes_none n xs) (same d) ∙ a.balanced d e;
  closed = λ d e.
      let o = counted lexemes.opens (blanks (32 ∷ [])) xs in
      let c = counted lexemes.closes (blanks (32 ∷ [])) xs in
      let w = a.closed d e in
      omega arith;
}
  where
    same : (d : ℕ) → d + count_if false - count_if false ≡ d
    same d = omega arith

after_own : (p : Piece) (qs : List Piece) → ArePieces qs → AreOwn (lexemes_after p qs) qs
after_own p [] a = none_own
after_own p (q ∷ qs) a =
    let i = and_parts (is_token q.kind q.text) (list_all (λ r. is_token r.kind r.text) qs) a in
    let k = piece_own q qs (lexemes_after q qs) i.0 (after_own q qs i.1) in
    elim (cases_Bool (touches p q)) [
      | inl t ↦ rw t k
      | inr t ↦ rw t (blank_own (q ∷ qs) (lexeme_of q ∷ lexemes_after q qs) k)
    ]

expression_own : (ps : List Piece) → are_readable ps ≡ true → AreOwn (expression_lexemes ps) ps
expression_own [] e = cc
expression_own (p ∷ ps) e =
    let r = and_parts (list_all (λ q. is_token q.kind q.text) (p ∷ ps)) (all_apart p ps) e in
    let i = and_parts (is_token p.kind p.text) (list_all (λ q. is_token q.kind q.text) ps) r.0 in
    let k = piece_own p ps (lexemes_after p ps) i.0 (after_own p ps i.1) in
    elim (cases_Bool (begins_with 123 p.text)) [
      | inl t ↦ rw t (blank_own (p ∷ ps) (lexeme_of p ∷ lexemes_after p ps) k)
      | inr t ↦ rw t k
    ]

-- ---- The text of an expression.

pub field_whole : (ps : List Piece) → are_readable ps ≡ true → closes_all 0 ps ≡ true → IsWhole (expression_text ps)
unfolding closes_outer has_comment
field_whole ps e c =
    let a = expression_own ps e in
    let s = expression_cut ps e in
    record {
      end = expression_end ps e;
      closed =
          ap (count_by lexemes.opens) s ∙ zero_more (count_by lexemes.opens (expression_lexemes ps)) ∙ a.closed 0 c
          ∙ ap (count_by lexemes.closes) (sym s);
      balanced = ap (closes_none 0) s ∙ a.balanced 0 c;
      uncommented = ap (list_any is_of_comment) s ∙ a.comments;
    }
  where
    zero_more : (n : ℕ) → n ≡ 0 + n
    zero_more n = omega arith

-- The law: the tokens between the parentheses around the text are its pieces.
pub field_tokens_are : (ps : List Piece) → are_readable ps ≡ true → closes_all 0 ps ≡ true → HasOwnTokens (expression_text ps)
    → field_tokens (expression_text ps) ≡ opening ∷ (map own_token ps ++ closing ∷ [])
field_tokens_are ps e c h =
    h.all (field_whole ps e c) ∙ ap (λ ts. opening ∷ (ts ++ closing ∷ [])) (ap tokens_of (expression_cut ps e)
    ∙ (expression_own ps e).tokens)

pub field_has_tokens : (ps : List Piece) → are_readable ps ≡ true → closes_all 0 ps ≡ true → HasOwnTokens (expression_text ps)
    → has_no_tokens (expression_text ps) ≡ false
field_has_tokens ps e c h =
    let w = field_whole ps e c in
    let f = h.faultless w in
    let b = w.balanced in
    let u = w.uncommented in
    rw (f, b, u) refl

-- its characters are scalars
after_scalars : (p : Piece) (qs : List Piece) → list_all (λ q. all_scalars q.text) qs ≡ true → all_scalars (text_following p qs) ≡ true
after_scalars p [] a = refl
after_scalars p (q ∷ qs) a =
    let i = and_parts (all_scalars q.text) (list_all (λ q. all_scalars q.text) qs) a in
    scalars_both (if touches p q then [] else 32 ∷ []) (q.text ++ text_following q qs) (gap (touches p q))
    (scalars_both q.text (text_following q qs) i.0 (after_scalars q qs i.1))
  where
    gap : (b : Bool) → all_scalars (if b then [] else 32 ∷ []) ≡ true
    gap true = refl
    gap false = refl

pub field_scalars : (ps : List Piece) → list_all (λ p. all_scalars p.text) ps ≡ true → all_scalars (expression_text ps) ≡ true
field_scalars [] a = refl
field_scalars (p ∷ ps) a =
    let i = and_parts (all_scalars p.text) (list_all (λ q. all_scalars q.text) ps) a in
    scalars_both (if begins_with 123 p.text then 32 ∷ [] else []) (p.text ++ text_following p ps) (blank (begins_with 123 p.text))
    (scalars_both p.text (text_following p ps) i.0 (after_scalars p ps i.1))
  where
    blank : (b : Bool) → all_scalars (if b then 32 ∷ [] else []) ≡ true
    blank true = refl
    blank false = refl
