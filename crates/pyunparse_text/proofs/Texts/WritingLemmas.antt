-- Carries: the lines of a module. What is after tokens that are written into a text.
use Rattle.std.proofs.Common.{◌≡◌, ◌∙◌, ℕ, ◌+◌, ◌/◌, ◌%◌, ◌<◌, arith, Bool, true, false, cond, ◌==◌, if◌then◌else◌, List, [], ◌∷◌}
use Rattle.std.proofs.Common.{◌++◌, map}
use Rattle.std.proofs.Common.{Some, None, refl, ap, sym, append-nil, append_assoc, codes}
use Rattle.std.specs.Prelude.{nat_lt}
use Rattle.std.specs.Str.{bytes_eq, encode_utf8_all}
use Rattle.std.specs.Char.{encode_utf8}
use Rattle.std.proofs.lemmas.Bool.Decides.{nat_tests, same_from_decides}
use Rattle.std.proofs.lemmas.Slice.Eq.{bytes_eq-Decides}
use Rattle.std.proofs.lemmas.Str.{encodes-append, encodes_same}
use Rattle.std.proofs.Math.Bool.{and-false, and-true}
use Rattle.pyfstring.specs.Texts.{begins_with}
use Rattle.pylex_lexeme.specs.Characters.{left_curly_bracket}
use Rattle.pyunparse_text.specs.Spacing.{Piece, spaced, text_following, touches}
use Rattle.pyunparse_text.specs.Statements.{is_star}
use Rattle.pyunparse_text.specs.Pieces.{Sited}
use Rattle.pyunparse_text.specs.Folds.{in_utf8, puts, sited_in_utf8}
use Rattle.pyunparse_text.specs.Writing.{Writing, following, after_sited, blank, edge_of, meets}

-- a text is a sign where its bytes are
pub same_sign : (t s : List ℕ) → encode_utf8_all s ≡ s → bytes_eq (encode_utf8_all t) s ≡ bytes_eq t s
same_sign t s ascii =
    let whole = bytes_eq-Decides (encode_utf8_all t) s in
    let part = bytes_eq-Decides t s in
    same_from_decides _ _ whole ((λ e. ap encode_utf8_all (part.0 e) ∙ ascii), (λ e. part.1 (encodes_same t s (e ∙ sym ascii))))

-- a text begins with a brace where its bytes do
pub same_brace : (t : List ℕ) → begins_with left_curly_bracket (encode_utf8_all t) ≡ begins_with left_curly_bracket t
unfolding encode_utf8
same_brace [] = refl
same_brace (c ∷ cs) = by (nat_lt c 128) (nat_lt c 2048) (nat_lt c 65536) refl
  where
    other : (n : ℕ) → 123 < n → nat_lt c 128 ≡ false → (n == 123) ≡ (c == 123)
    other n p e = grind (arith, nat_tests)

    by : (x y z : Bool) → nat_lt c 128 ≡ x →
        begins_with left_curly_bracket
        (cond x (c ∷ []) (cond y ((192 + c / 64) ∷ (128 + c % 64) ∷ [])
        (cond z ((224 + c / 4096) ∷ (128 + c / 64 % 64) ∷ (128 + c % 64) ∷ [])
        ((240 + c / 262144) ∷ (128 + c / 4096 % 64) ∷ (128 + c / 64 % 64) ∷ (128 + c % 64) ∷ []))) ++ encode_utf8_all cs) ≡
        (c == left_curly_bracket)
    by true y z e = refl
    by false true z e = other (192 + c / 64) (omega arith) e
    by false false true e = other (224 + c / 4096) (omega arith) e
    by false false false e = other (240 + c / 262144) (omega arith) e

comma : (t : List ℕ) → bytes_eq (encode_utf8_all t) (codes ",") ≡ bytes_eq t (codes ",")
unfolding encode_utf8
comma t = same_sign t (codes ",") refl

point : (t : List ℕ) → bytes_eq (encode_utf8_all t) (codes ".") ≡ bytes_eq t (codes ".")
unfolding encode_utf8
point t = same_sign t (codes ".") refl

colon : (t : List ℕ) → bytes_eq (encode_utf8_all t) (codes ":") ≡ bytes_eq t (codes ":")
unfolding encode_utf8
colon t = same_sign t (codes ":") refl

pub meets_same : (p q : Piece) → meets (edge_of (in_utf8 p)) (in_utf8 q) ≡ touches p q
meets_same p q = rw (comma p.text, point q.text, colon q.text) refl

gap : (b : Bool) → (if b then [] else 32 ∷ []) ≡ encode_utf8_all (if b then [] else 32 ∷ [])
unfolding encode_utf8
gap true = refl
gap false = refl

-- the pieces of a line, or of a field
abbrev pub at : Bool → List Sited → List Piece
at is_in_field ps = map (λ p. p is_in_field) ps

-- after a token of the line
pub after_text : (w : Writing) (p : Piece) (ps : List Sited) → w.last ≡ Some (edge_of (in_utf8 p)) →
    (puts after_sited w ps).text ≡ w.text ++ encode_utf8_all (text_following p (at w.in_field ps))
after_text w p [] e = sym (append-nil w.text)
after_text w p (q ∷ qs) e =
    let here = q w.in_field in
    let gap_is : blank w.last (in_utf8 here) ≡ encode_utf8_all (if touches p here then [] else 32 ∷ []) =
    ap (λ o. blank o (in_utf8 here)) e ∙ ap (λ b. if b then [] else 32 ∷ []) (meets_same p here) ∙ gap (touches p here) in
    let rest : List ℕ = encode_utf8_all (text_following here (at w.in_field qs)) in
    after_text (following w (in_utf8 here)) here qs refl
    ∙ ap (λ z. (w.text ++ (z ++ encode_utf8_all here.text)) ++ rest) gap_is
    ∙ append_assoc w.text (encode_utf8_all (if touches p here then [] else 32 ∷ []) ++ encode_utf8_all here.text) rest
    ∙ ap (λ z. w.text ++ z) (append_assoc (encode_utf8_all (if touches p here then [] else 32 ∷ [])) (encode_utf8_all here.text) rest
    ∙ sym (encodes-append (if touches p here then [] else 32 ∷ []) (here.text ++ text_following here (at w.in_field qs))
    ∙ ap (λ z. encode_utf8_all (if touches p here then [] else 32 ∷ []) ++ z)
    (encodes-append here.text (text_following here (at w.in_field qs)))))

-- a line's tokens
pub line_written : (w : Writing) (ps : List Sited) → w.last ≡ None
    → (puts after_sited w ps).text ≡ w.text ++ encode_utf8_all (spaced (at w.in_field ps))
line_written w [] e = sym (append-nil w.text)
line_written w (p ∷ ps) e =
    let here = p w.in_field in
    after_text (following w (in_utf8 here)) here ps refl
    ∙ ap (λ o. (w.text ++ (blank o (in_utf8 here) ++ encode_utf8_all here.text)) ++ encode_utf8_all (text_following here (at w.in_field ps))) e
    ∙ append_assoc w.text (encode_utf8_all here.text) (encode_utf8_all (text_following here (at w.in_field ps)))
    ∙ ap (λ z. w.text ++ z) (sym (encodes-append here.text (text_following here (at w.in_field ps))))

pub level_kept : (w : Writing) (ps : List Sited) → (puts after_sited w ps).level ≡ w.level
level_kept w [] = refl
level_kept w (p ∷ ps) = level_kept (after_sited w (sited_in_utf8 p)) ps

-- a name is `*` where its bytes are
pub star_bytes : (t : List ℕ) → bytes_eq (encode_utf8_all t) (codes "*") ≡ is_star t None
unfolding encode_utf8
star_bytes t = same_sign t (codes "*") refl ∙ by t
  where
    by : (t : List ℕ) → bytes_eq t (codes "*") ≡ is_star t None
    by [] = refl
    by (c ∷ []) = and-true (c == 42)
    by (c ∷ (d ∷ t)) = and-false (c == 42)
