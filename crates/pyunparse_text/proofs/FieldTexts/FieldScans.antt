-- The text of a field's expression is scanned as a whole (reference 2.4.3).
--
-- Carries: field_scanned, for what reads f-strings back. On: PieceScans.
use Rattle.std.proofs.Common.{◌≡◌, ℕ, Bool, true, false, not, ◌||◌, ◌==◌, List, [], ◌∷◌, ◌++◌, length, refl, sym, ◌∙◌, ap, subst}
use Rattle.std.proofs.Common.{arith}
use Rattle.std.proofs.Common.{eqb, Some, inl, inr, if◌then◌else◌, append_assoc}
use Rattle.std.specs.List.{list_all, list_any}
use Rattle.std.proofs.lemmas.Bool.{cases_Bool, eqb-true, false_from_ne_true, and_parts}
use Rattle.unicode_ident.proofs.IdentLemmas.{is_xid_start-ascii}
use Rattle.pyfstring.specs.Texts.{begins_with}
use Rattle.pyfstring.specs.Expressions.{step, scan, expression, following_expression}
use Rattle.pyfstring.specs.Pieces.{is_blank}
use Rattle.pylex_listing.specs.declared.kind.Kind.{Kind}
use Rattle.pylex_listing.specs.declared.kind.Kind.TheVariants as kinds
use Rattle.pylex_lexeme.specs.Chars.{begins, starts_name}
use Rattle.pylex_lexeme.specs.Numbers.{is_decimal_digit}
use Rattle.pylex_lexeme.specs.Operators.{is_operator}
use Rattle.pylex_lexeme.specs.Strings.{begins_quote, lower, prefixes}
use Rattle.pylex_lexeme.proofs.Callers.Lexemes.{words, heads}
use Rattle.pyunparse_text.specs.Spacing.{Piece, is_token, touches, text_following, stay_apart, are_two_points, all_apart, are_readable}
use Rattle.pyunparse_text.specs.Tokens.{opens_within}
use Rattle.pyunparse_text.proofs.LexemeFronts.PieceFronts.{IsPiece, ArePieces, Clear, Off, clear_after, none_empty, no_token}
use Rattle.pyunparse_text.proofs.FieldTexts.Conditions.{is_within, are_enclosed, is_plain_piece, most_open, IsFieldExpression}
use Rattle.pyunparse_text.proofs.FieldTexts.Conditions.{expression_text}
use Rattle.pyunparse_text.proofs.FieldTexts.Conditions.{EndsExpression, brace, spec, conversion}
use Rattle.pyunparse_text.proofs.FieldTexts.Characters.{Bracket, plain_passed}
use Rattle.pyunparse_text.proofs.FieldTexts.OperatorScans.{Stands, none, more, joins_equals}
use Rattle.pyunparse_text.proofs.FieldTexts.PieceScans.{Follows, Following, piece_scanned}

-- ---- What stands after a piece.

-- what the first character of a text, if there is one, fails
abbrev Fails : (ℕ → Bool) → List ℕ → Type 0
Fails f r = begins f r ≡ false

-- after a piece that another follows, the first character is the same whatever stands after these
same_first : (f : ℕ → Bool) (q s : Piece) (ss : List Piece) (a b : List ℕ) → IsPiece s → Fails f (text_following q (s ∷ ss) ++ a)
    → Fails f (text_following q (s ∷ ss) ++ b)
same_first f q s ss a b i e = elim (cases_Bool (touches q s)) [
  | inl t ↦ rw t (head s.kind s.text i (rw t at e))
  | inr t ↦ rw t (rw t at e)
]
  where
    head : (k : Kind) (t : List ℕ) → is_token k t ≡ true → Fails f ((t ++ text_following s ss) ++ a) → Fails f ((t ++ text_following s ss) ++ b)
    head k [] i e = absurd (none_empty k i)
    head k (c ∷ t) i e = e

-- what stands after an expression
ends_by : (f : ℕ → Bool) (rest : List ℕ) → f 125 ≡ false → f 58 ≡ false → f 33 ≡ false → EndsExpression rest → Fails f rest
ends_by f rest a b c brace = a
ends_by f rest a b c spec = b
ends_by f rest a b c (conversion e) = c

quote_begins : (r : List ℕ) → Fails (λ c. (c == 39) || (c == 34)) r → begins_quote r ≡ false
quote_begins [] e = refl
quote_begins (c ∷ r) e = e

equals_begins : (r : List ℕ) → Fails (λ c. c == 61) r → begins_with 61 r ≡ false
equals_begins [] e = refl
equals_begins (c ∷ r) e = e

quote_clear : (r : List ℕ) → begins_quote r ≡ false → Fails (λ c. (c == 39) || (c == 34)) r
quote_clear [] e = refl
quote_clear (c ∷ r) e = e

-- where `=` would make a longer operator, none stands after one
equals_clear : (t r : List ℕ) → Clear kinds.Op t r → joins_equals t ≡ true → Fails (λ c. c == 61) r
equals_clear t [] c e = refl
equals_clear t (d ∷ r) c e =
    false_from_ne_true (d == 61)
    (λ h. let n = c.0 1 (omega arith) (omega arith) in let f : d ≡ 61 = eqb-true d 61 h in
    let g : is_operator (t ++ 61 ∷ []) ≡ false = subst
    (λ (x : ℕ). is_operator (t ++ x ∷ []) ≡ false) f n in cc)

follows : (q : Piece) (qs : List Piece) (rest : List ℕ) → IsPiece q → ArePieces qs → all_apart q qs ≡ true → EndsExpression rest
    → Follows q.kind q.text (text_following q qs ++ rest)
follows q [] rest i a p e = record {
  quote = λ k. quote_begins rest (ends_by (λ c. (c == 39) || (c == 34)) rest refl refl refl e);
  equals = λ k j. equals_begins rest (ends_by (λ c. c == 61) rest refl refl refl e);
}
follows q (s ∷ ss) rest i a p e =
    let c : Clear q.kind q.text (text_following q (s ∷ ss) ++ 10 ∷ []) = clear_after q (s ∷ ss) [] i a p in
    let b = (and_parts (is_token s.kind s.text) (list_all (λ r. is_token r.kind r.text) ss) a).0 in
    record {
      quote = λ k.
          quote_begins (text_following q (s ∷ ss) ++ rest)
          (same_first (λ c. (c == 39) || (c == 34)) q s ss (10 ∷ []) rest b
          (quote_clear (text_following q (s ∷ ss) ++ 10 ∷ []) (subst (λ (x : Kind). Clear x q.text (text_following q (s ∷ ss) ++ 10 ∷ [])) k c)));
      equals = λ k j.
          equals_begins (text_following q (s ∷ ss) ++ rest)
          (same_first (λ c. c == 61) q s ss (10 ∷ []) rest b
          (equals_clear q.text (text_following q (s ∷ ss) ++ 10 ∷ [])
          (subst (λ (x : Kind). Clear x q.text (text_following q (s ∷ ss) ++ 10 ∷ [])) k c) j));
    }

-- ---- The scan.

blank_scanned : (bs : List Bracket) (b : Bool) (r : List ℕ)
    → scan expression bs 0 ((if b then 32 ∷ [] else []) ++ r) ≡ scan expression bs 0 r
blank_scanned bs true r = plain_passed bs (32 ∷ []) r refl
blank_scanned bs false r = refl

gap_scanned : (bs : List Bracket) (b : Bool) (r : List ℕ) → scan expression bs 0 ((if b then [] else 32 ∷ []) ++ r) ≡ scan expression bs 0 r
gap_scanned bs true r = refl
gap_scanned bs false r = plain_passed bs (32 ∷ []) r refl

ended : (rest : List ℕ) → EndsExpression rest → scan expression [] 0 rest ≡ Some rest
unfolding step
ended rest brace = refl
ended rest spec = refl
ended rest (conversion e) = rw (e, scan) refl

record Ready (os : List (List ℕ)) (bs : List Bracket) (d : ℕ) (ps : List Piece) : Type 0 where
  pub stands : Stands os bs
  pub long : d ≡ length os
  pub pieces : ArePieces ps
  pub enclosed : are_enclosed os ps ≡ true
  pub shallow : opens_within most_open d ps ≡ true
  pub plain : list_all is_plain_piece ps ≡ true

-- nothing is open after the last piece
closed : {os : List (List ℕ)} {bs : List Bracket} (rest : List ℕ) → Stands os bs → not (is_within os) ≡ true → EndsExpression rest
    → scan expression bs 0 rest ≡ Some rest
closed rest none n e = ended rest e
closed rest (more s f) n e = cc

first_of : {os : List (List ℕ)} {bs : List Bracket} {d : ℕ} (p : Piece) (ps : List Piece) (rest : List ℕ) → Ready os bs d (p ∷ ps)
    → all_apart p ps ≡ true → EndsExpression rest → Following d bs p ps (text_following p ps ++ rest)
first_of {d = d} p ps rest r a e =
    let i = and_parts (is_token p.kind p.text) (list_all (λ r. is_token r.kind r.text) ps) r.pieces in
    let k = and_parts (is_plain_piece p) (list_all is_plain_piece ps) r.plain in
    piece_scanned d p ps (text_following p ps ++ rest) r.stands r.long i.0 k.0 r.enclosed r.shallow (follows p ps rest i.0 i.1 a e)

pieces_scanned : (os : List (List ℕ)) (bs : List Bracket) (d : ℕ) (p : Piece) (ps : List Piece) (rest : List ℕ) → Ready os bs d (p ∷ ps)
    → all_apart p ps ≡ true → EndsExpression rest → scan expression bs 0 (p.text ++ (text_following p ps ++ rest)) ≡ Some rest
pieces_scanned os bs d p [] rest r a e = let b = first_of p [] rest r a e in b.passed.same ∙ closed rest b.passed.stands b.enclosed e
pieces_scanned os bs d p (q ∷ qs) rest r a e =
    let b = first_of p (q ∷ qs) rest r a e in
    let i = and_parts (is_token p.kind p.text) (list_all (λ r. is_token r.kind r.text) (q ∷ qs)) r.pieces in
    let k = and_parts (is_plain_piece p) (list_all is_plain_piece (q ∷ qs)) r.plain in
    let c = and_parts (not (touches p q) || (stay_apart p q || are_two_points p q qs)) (all_apart q qs) a in
    b.passed.same
    ∙ ap (λ x. scan expression b.passed.brackets 0 x) (append_assoc (if touches p q then [] else 32 ∷ []) (q.text ++ text_following q qs) rest)
    ∙ gap_scanned b.passed.brackets (touches p q) ((q.text ++ text_following q qs) ++ rest)
    ∙ ap (λ x. scan expression b.passed.brackets 0 x) (append_assoc q.text (text_following q qs) rest)
    ∙ pieces_scanned b.opened b.passed.brackets b.depth q qs rest
    (record { stands = b.passed.stands; long = b.long; pieces = i.1; enclosed = b.enclosed; shallow = b.shallow; plain = k.1 }) c.1 e

-- The law: a scan of the text ends where it ends.
pub field_scanned : (ps : List Piece) (rest : List ℕ) → IsFieldExpression ps → EndsExpression rest
    → following_expression (expression_text ps ++ rest) ≡ Some rest
unfolding following_expression
field_scanned [] rest f e = let n : false ≡ true = f.readable in cc
field_scanned (p ∷ ps) rest f e =
    let r = and_parts (list_all (λ q. is_token q.kind q.text) (p ∷ ps)) (all_apart p ps) f.readable in
    ap (λ x. scan expression [] 0 x) (append_assoc (if begins_with 123 p.text then 32 ∷ [] else []) (p.text ++ text_following p ps) rest)
    ∙ blank_scanned [] (begins_with 123 p.text) ((p.text ++ text_following p ps) ++ rest)
    ∙ ap (λ x. scan expression [] 0 x) (append_assoc p.text (text_following p ps) rest)
    ∙ pieces_scanned [] [] 0 p ps rest
    (record { stands = none; long = refl; pieces = r.0; enclosed = f.enclosed; shallow = f.shallow; plain = f.plain }) r.1 e

-- ---- It isn't blank.

-- no token begins with a blank or a line's end
record NoFirst (c : ℕ) : Type 0 where
  pub others : Off c
  pub digit : is_decimal_digit c ≡ false
  pub sign : list_any (eqb c) (heads words) ≡ false

no_first_at : (x : ℕ) → starts_name x ≡ false → ((x == 39) || (x == 34)) ≡ false → list_any (eqb (lower x)) (heads prefixes) ≡ false
    → is_decimal_digit x ≡ false → list_any (eqb x) (heads words) ≡ false → NoFirst x
no_first_at x n q l d s = record { others = record { name = n; quote = q; letter = l }; digit = d; sign = s }

no_first : (c : ℕ) → is_blank c ≡ true → NoFirst c
no_first c e = elim (cases_Bool (c == 32)) [
  | inl h ↦ subst NoFirst (sym (eqb-true c 32 h)) (no_first_at 32 (rw (is_xid_start-ascii 32 (omega arith)) refl) refl refl refl refl)
  | inr h ↦ elim (cases_Bool (c == 9)) [
    | inl i ↦ subst NoFirst (sym (eqb-true c 9 i)) (no_first_at 9 (rw (is_xid_start-ascii 9 (omega arith)) refl) refl refl refl refl)
    | inr i ↦ elim (cases_Bool (c == 12)) [
      | inl j ↦ subst NoFirst (sym (eqb-true c 12 j)) (no_first_at 12 (rw (is_xid_start-ascii 12 (omega arith)) refl) refl refl refl refl)
      | inr j ↦ elim (cases_Bool (c == 10)) [
        | inl k ↦ subst NoFirst (sym (eqb-true c 10 k)) (no_first_at 10 (rw (is_xid_start-ascii 10 (omega arith)) refl) refl refl refl refl)
        | inr k ↦
            (let l : (c == 13) ≡ true = rw (h, i, j, k) at e in
            subst NoFirst (sym (eqb-true c 13 l)) (no_first_at 13 (rw (is_xid_start-ascii 13 (omega arith)) refl) refl refl refl refl))
      ]
    ]
  ]
]

not_blank : (k : Kind) (t r : List ℕ) → is_token k t ≡ true → list_all is_blank (t ++ r) ≡ false
not_blank k [] r i = absurd (none_empty k i)
not_blank k (c ∷ t) r i = false_from_ne_true (list_all is_blank (c ∷ t ++ r)) (λ h.
    let f = no_first c (and_parts (is_blank c) (list_all is_blank (t ++ r)) h).0 in
    let n = no_token k c t f.others (λ z. f.digit) (λ z. f.sign) in
    cc)

pub field_not_blank : (ps : List Piece) → are_readable ps ≡ true → list_all is_blank (expression_text ps) ≡ false
field_not_blank [] e = cc
field_not_blank (p ∷ ps) e =
    let r = and_parts (list_all (λ q. is_token q.kind q.text) (p ∷ ps)) (all_apart p ps) e in
    let i = and_parts (is_token p.kind p.text) (list_all (λ q. is_token q.kind q.text) ps) r.0 in
    let n = not_blank p.kind p.text (text_following p ps) i.0 in
    elim (cases_Bool (begins_with 123 p.text)) [ inl h ↦ rw h n | inr h ↦ rw h n ]
