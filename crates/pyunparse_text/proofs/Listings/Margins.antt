-- Carries: the law of written lines. On: the blanks before a written line are spaces, so that they
-- are as wide whichever way tabs count.
use Rattle.std.proofs.Common.{◌≡◌, ℕ, ◌+◌, ◌*◌, zero, suc, Bool, true, false, ◌==◌, cond, List, [], ◌∷◌, ◌++◌, length, drop, replicate}
use Rattle.std.proofs.Common.{refl, sym}
use Rattle.std.proofs.Common.{◌∙◌, ap, subst, arith, append_assoc}
use Rattle.std.specs.List.{list_all}
use Rattle.std.specs.Str.{chars, encode_utf8_all, all_scalars}
use Rattle.std.proofs.Math.Seq.{drop-append_seam}
use Rattle.std.proofs.lemmas.Bool.{and_parts}
use Rattle.std.proofs.lemmas.Bool.Decides.{nat_tests}
use Rattle.std.proofs.lemmas.List.Folds.{list_all-append}
use Rattle.std.proofs.lemmas.List.Sums.{take_while-cons}
use Rattle.std.proofs.lemmas.Str.{encodes-append, chars-encodes}
use Rattle.pysource.specs.Places.{place_at}
use Rattle.pylex_listing.specs.declared.kind.Kind.{Kind}
use Rattle.pylex_listing.specs.declared.kind.Kind.TheVariants as kinds
use Rattle.pylex_listing.specs.declared.entries.Entry.{Entry}
use Rattle.pylex_lexeme.specs.Chars.{begins, bytes_in, is_blank_char}
use Rattle.pylex_lexeme.specs.Cuts.{begins_significant}
use Rattle.pylex_listing.specs.Indentation.{width_from}
use Rattle.pylex_listing.specs.Margins.{width_by_one, blanks_of, widths_of}
use Rattle.pytoken.specs.Indentation.{Margin, following_offset, margin_at, ends_line, margins_from}
use Rattle.pyunparse_text.specs.Spacing.{Piece, Line, is_token, text_following, spaced, are_readable, lines_text}
use Rattle.pyunparse_text.specs.Tokens.{is_written, is_even}
use Rattle.pyunparse_text.specs.Inner.Even.{ends_evenly}
use Rattle.pyunparse_text.proofs.LexemeFronts.PieceFronts.{token_no_blank}

-- a text of characters whose first blanks are as wide, whichever way tabs count
pub record Even (rest : List ℕ) : Type 0 where
  pub widths : (width_from 0 (blanks_of rest) == width_by_one 0 (blanks_of rest)) ≡ true
  pub scalars : all_scalars rest ≡ true

-- ---- Spaces.

pub eights : (w k : ℕ) → width_from w (replicate k 32) ≡ w + k
unfolding width_from
eights w zero = omega arith
eights w (suc k) = eights (w + 1) k ∙ omega arith

ones : (w k : ℕ) → width_by_one w (replicate k 32) ≡ w + k
unfolding width_by_one
ones w zero = omega arith
ones w (suc k) = ones (w + 1) k ∙ omega arith

no_blanks : (r : List ℕ) → begins is_blank_char r ≡ false → blanks_of r ≡ []
no_blanks [] e = refl
no_blanks (c ∷ r) e = take_while-cons is_blank_char c r ∙ rw e refl

spaces_of : (k : ℕ) (r : List ℕ) → begins is_blank_char r ≡ false → blanks_of (replicate k 32 ++ r) ≡ replicate k 32
spaces_of zero r e = no_blanks r e
spaces_of (suc k) r e = take_while-cons is_blank_char 32 (replicate k 32 ++ r) ∙ ap (λ t. 32 ∷ t) (spaces_of k r e)

-- ---- Written lines.

pub pieces_unblank : (ps : List Piece) (r : List ℕ) → are_readable ps ≡ true → begins is_blank_char (spaced ps ++ r) ≡ false
pieces_unblank [] r e = cc
pieces_unblank (p ∷ ps) r e =
    let a = and_parts (list_all (λ q. is_token q.kind q.text) (p ∷ ps)) _ e in
    let b = and_parts (is_token p.kind p.text) (list_all (λ q. is_token q.kind q.text) ps) a.0 in
    subst (λ (t : List ℕ). begins is_blank_char t ≡ false) (sym (append_assoc p.text (text_following p ps) r))
    (token_no_blank p.kind p.text (text_following p ps ++ r) b.0)

same : (n : ℕ) → (n == n) ≡ true
same n = grind (arith, nat_tests)

pub lines_even : (ls : List Line) → list_all is_written ls ≡ true → all_scalars (lines_text ls) ≡ true → Even (lines_text ls)
unfolding width_from width_by_one
lines_even [] w s = record { widths = refl; scalars = s }
lines_even (l ∷ ls) w s =
    let a = and_parts (is_written l) (list_all is_written ls) w in
    let b = and_parts (are_readable l.pieces) _ a.0 in
    let k : ℕ = 4 * l.level in
    let rest : List ℕ = spaced l.pieces ++ (10 ∷ [] ++ lines_text ls) in
    let t : lines_text (l ∷ ls) ≡ replicate k 32 ++ rest =
    append_assoc (replicate k 32) (spaced l.pieces ++ 10 ∷ []) (lines_text ls)
    ∙ ap (λ u. replicate k 32 ++ u) (append_assoc (spaced l.pieces) (10 ∷ []) (lines_text ls)) in
    let f : blanks_of (lines_text (l ∷ ls)) ≡ replicate k 32 =
    ap blanks_of t ∙ spaces_of k rest (pieces_unblank l.pieces (10 ∷ [] ++ lines_text ls) b.0) in
    let e : (width_from 0 (replicate k 32) == width_by_one 0 (replicate k 32)) ≡ true = rw (eights 0 k, ones 0 k) (same (0 + k)) in
    record { widths = rw f e; scalars = s }

-- ---- Margins.

after_is : (text a rest : List ℕ) (o : ℕ) → text ≡ a ++ rest → o ≡ bytes_in a → all_scalars rest ≡ true → following_offset text o ≡ rest
after_is text a rest o w e s =
    let x : encode_utf8_all text ≡ encode_utf8_all a ++ encode_utf8_all rest = ap encode_utf8_all w ∙ encodes-append a rest in
    let d : drop o (encode_utf8_all text) ≡ encode_utf8_all rest =
    ap (λ y. drop o y) x ∙ ap (λ n. drop n (encode_utf8_all a ++ encode_utf8_all rest)) e
    ∙ drop-append_seam (encode_utf8_all a) (encode_utf8_all rest) in
    ap chars d ∙ chars-encodes rest s

pub margin_even : (text a rest : List ℕ) (o : ℕ) → text ≡ a ++ rest → o ≡ bytes_in a → Even rest
    → list_all is_even (margin_at text o) ≡ true
margin_even text a rest o w e v =
    let b : following_offset text o ≡ rest = after_is text a rest o w e v.scalars in
    let f : (width_from 0 (blanks_of (following_offset text o)) == width_by_one 0 (blanks_of (following_offset text o))) ≡ true = rw b v.widths in
    by (begins_significant (drop (length (blanks_of (following_offset text o))) (following_offset text o)))
    (record {
      widths = widths_of (following_offset text o);
      start =
          place_at (encode_utf8_all text) (o + length (blanks_of (following_offset text o)));
    }) f
  where
    by : (b : Bool) (m : Margin) → is_even m ≡ true → list_all is_even (cond b (m ∷ []) []) ≡ true
    by true m e = rw e refl
    by false m e = refl

both_even : (xs ys : List Margin) → list_all is_even xs ≡ true → list_all is_even ys ≡ true → list_all is_even (xs ++ ys) ≡ true
both_even xs ys a b = list_all-append is_even xs ys ∙ rw (a, b) refl

-- the margin that an entry gives
given_even : (text : List ℕ) (before : List Entry) (e : Entry) (k : Kind) → e.kind ≡ k → ends_evenly text k e.to ≡ true
    → list_all is_even (cond (ends_line before e) (margin_at text e.to) []) ≡ true
given_even text before e kinds.Newline k h = by (ends_line before e)
  where
    by : (b : Bool) → list_all is_even (cond b (margin_at text e.to) []) ≡ true
    by true = h
    by false = refl
given_even text before e kinds.Nl k h = by (ends_line before e)
  where
    by : (b : Bool) → list_all is_even (cond b (margin_at text e.to) []) ≡ true
    by true = h
    by false = refl
given_even text before e _ k h = rw k refl

pub margins_even : (text : List ℕ) (before es : List Entry) → list_all (λ e. ends_evenly text e.kind e.to) es ≡ true
    → list_all is_even (margins_from text before es) ≡ true
margins_even text before [] h = refl
margins_even text before (e ∷ es) h =
    let a = and_parts (ends_evenly text e.kind e.to) (list_all (λ e. ends_evenly text e.kind e.to) es) h in
    both_even (cond (ends_line before e) (margin_at text e.to) []) (margins_from text (e ∷ before) es)
    (given_even text before e e.kind refl a.0)
    (margins_even text (e ∷ before) es a.1)

-- no token but NEWLINE ends a line
pub token_even : (text : List ℕ) (o : ℕ) (k : Kind) (t : List ℕ) → is_token k t ≡ true → ends_evenly text k o ≡ true
token_even text o kinds.Name t e = refl
token_even text o kinds.Number t e = refl
token_even text o kinds.String t e = refl
token_even text o kinds.Op t e = refl
token_even text o kinds.Encoding t e = cc
token_even text o kinds.Comment t e = cc
token_even text o kinds.Nl t e = cc
token_even text o kinds.Newline t e = cc
token_even text o kinds.Indent t e = cc
token_even text o kinds.Dedent t e = cc
token_even text o kinds.EndMarker t e = cc
