-- A piece that a scan of a field's expression passes, whatever stands after it that doesn't join it.
--
-- Carries: Follows, piece_scanned, for FieldScans. On: Characters, NumberCharacters, OperatorScans, LiteralScans.
use Rattle.std.proofs.Common.{◌≡◌, ℕ, ◌+◌, ◌-◌, true, false, not, ◌&&◌, ◌||◌, List, [], ◌∷◌, ◌++◌, length, refl, sym, ◌∙◌, ap, arith, inl}
use Rattle.std.proofs.Common.{inr}
use Rattle.std.specs.Prelude.{nat_lt}
use Rattle.std.specs.List.{list_all}
use Rattle.std.proofs.lemmas.Bool.{cases_Bool, and_parts}
use Rattle.unicode_ident.specs.Ident.{is_xid_continue}
use Rattle.pyfstring.specs.Texts.{begins_with}
use Rattle.pyfstring.specs.Expressions.{scan, expression}
use Rattle.pylex_listing.specs.declared.kind.Kind.{Kind}
use Rattle.pylex_listing.specs.declared.kind.Kind.TheVariants as kinds
use Rattle.pylex_lexeme.specs.Chars.{starts_name}
use Rattle.pylex_lexeme.specs.Numbers.{is_number}
use Rattle.pylex_lexeme.specs.Operators.{is_operator}
use Rattle.pylex_lexeme.specs.Strings.{begins_quote}
use Rattle.pylex_lexeme.specs.Lexemes.{is_name}
use Rattle.pylex_lexeme.proofs.Callers.Lexemes.{start_continues}
use Rattle.pyunparse_text.specs.Spacing.{Piece, is_token, is_operator_kind}
use Rattle.pyunparse_text.specs.Tokens.{opens, closes, opens_within}
use Rattle.pyunparse_text.proofs.FieldTexts.Conditions.{is_plain, is_pair, is_within, ends_field, are_enclosed, is_plain_literal}
use Rattle.pyunparse_text.proofs.FieldTexts.Conditions.{is_plain_piece}
use Rattle.pyunparse_text.proofs.FieldTexts.Conditions.{most_open}
use Rattle.pyunparse_text.proofs.FieldTexts.Characters.{Bracket, name_plain, plain_passed}
use Rattle.pyunparse_text.proofs.FieldTexts.NumberCharacters.{number_plain}
use Rattle.pyunparse_text.proofs.FieldTexts.OperatorScans.{Stands, Passed, opener_scanned, closer_scanned, joins_equals, operator_scanned}
use Rattle.pyunparse_text.proofs.FieldTexts.LiteralScans.{literal_scanned}

pub name_all : (t : List ℕ) → is_name t ≡ true → list_all is_plain t ≡ true
unfolding is_name
name_all [] e = cc
name_all (c ∷ t) e =
    let p = and_parts (starts_name c) (list_all is_xid_continue t) e in
    let i = name_plain c (start_continues c p.0) in
    rw i (rest t p.1)
  where
    rest : (t : List ℕ) → list_all is_xid_continue t ≡ true → list_all is_plain t ≡ true
    rest [] a = refl
    rest (d ∷ t) a = let q = and_parts (is_xid_continue d) (list_all is_xid_continue t) a in let i = name_plain d q.0 in rw i (rest t q.1)

-- what matters of what stands after a token
pub record Follows (k : Kind) (t r : List ℕ) : Type 0 where
  pub quote : k ≡ kinds.String → begins_quote r ≡ false
  pub equals : k ≡ kinds.Op → joins_equals t ≡ true → begins_with 61 r ≡ false

-- a token that is no operator
other_scanned : (bs : List Bracket) (k : Kind) (t r : List ℕ) → is_token k t ≡ true → is_operator_kind k ≡ false
    → (elim k [ kinds.String ↦ is_plain_literal t | _ ↦ true ]) ≡ true → Follows k t r
    → scan expression bs 0 (t ++ r) ≡ scan expression bs 0 r
other_scanned bs kinds.Name t r e n p f = plain_passed bs t r (name_all t e)
other_scanned bs kinds.Number t r e n p f = plain_passed bs t r (number_plain t (and_parts _ (is_number t) e).1)
other_scanned bs kinds.String t r e n p f = literal_scanned bs t r p (f.quote refl)
other_scanned bs kinds.Op t r e n p f = cc
other_scanned bs kinds.Encoding t r e n p f = cc
other_scanned bs kinds.Comment t r e n p f = cc
other_scanned bs kinds.Nl t r e n p f = cc
other_scanned bs kinds.Newline t r e n p f = cc
other_scanned bs kinds.Indent t r e n p f = cc
other_scanned bs kinds.Dedent t r e n p f = cc
other_scanned bs kinds.EndMarker t r e n p f = cc

operator_is : (k : Kind) (t : List ℕ) → is_operator_kind k ≡ true → is_token k t ≡ true → (k ≡ kinds.Op) × (is_operator t ≡ true)
operator_is kinds.Op t h e = (refl, e)
operator_is kinds.Name t h e = cc
operator_is kinds.Number t h e = cc
operator_is kinds.String t h e = cc
operator_is kinds.Encoding t h e = cc
operator_is kinds.Comment t h e = cc
operator_is kinds.Nl t h e = cc
operator_is kinds.Newline t h e = cc
operator_is kinds.Indent t h e = cc
operator_is kinds.Dedent t h e = cc
operator_is kinds.EndMarker t h e = cc

-- after a piece, with the others still enclosed
pub record Following (d : ℕ) (bs : List Bracket) (p : Piece) (ps : List Piece) (r : List ℕ) : Type 0 where
  pub opened : List (List ℕ)
  pub depth : ℕ
  pub passed : Passed opened bs p.text r
  pub enclosed : are_enclosed opened ps ≡ true
  pub shallow : opens_within most_open depth ps ≡ true
  pub long : depth ≡ length opened

pub piece_scanned : {os : List (List ℕ)} {bs : List Bracket} (d : ℕ) (p : Piece) (ps : List Piece) (r : List ℕ)
    → Stands os bs → d ≡ length os
    → is_token p.kind p.text ≡ true → is_plain_piece p ≡ true → are_enclosed os (p ∷ ps) ≡ true → opens_within most_open d (p ∷ ps) ≡ true
    → Follows p.kind p.text r → Following d bs p ps r
piece_scanned {os} {bs} d p ps r s l e k a w f = elim (cases_Bool (is_operator_kind p.kind)) [
  | inr n ↦ other n
  | inl n ↦ elim (cases_Bool (opens p)) [
    | inl o ↦ opener n o
    | inr o ↦ elim (cases_Bool (closes p)) [
      | inl c ↦ closer os s a l n o c
      | inr c ↦ inner n o c
    ]
  ]
]
  where
    stays : opens p ≡ false → closes p ≡ false → scan expression bs 0 (p.text ++ r) ≡ scan expression bs 0 r → Following d bs p ps r
    stays o c m = record {
      opened = os;
      depth = d;
      passed = record { brackets = bs; stands = s; same = m };
      enclosed = (and_parts (is_within os || not (ends_field p)) (are_enclosed os ps) (rw (o, c) at a)).1;
      shallow = rw (o, c) at w;
      long = l;
    }

    other : is_operator_kind p.kind ≡ false → Following d bs p ps r
    other n = stays (rw n refl) (rw n refl) (other_scanned bs p.kind p.text r e n k f)

    inner : is_operator_kind p.kind ≡ true → opens p ≡ false → closes p ≡ false → Following d bs p ps r
    inner n o c =
        let i = operator_is p.kind p.text n e in
        let x = and_parts (is_within os || not (ends_field p)) (are_enclosed os ps) (rw (o, c) at a) in
        stays o c (operator_scanned p.text r s i.1 (rw n at o) (rw n at c) (rw n at x.0) (f.equals i.0))

    opener : is_operator_kind p.kind ≡ true → opens p ≡ true → Following d bs p ps r
    opener n o =
        let i = operator_is p.kind p.text n e in
        let w2 : (nat_lt d most_open && opens_within most_open (d + 1) ps) ≡ true = rw o at w in
        let x = and_parts (nat_lt d most_open) (opens_within most_open (d + 1) ps) w2 in
        record {
          opened = p.text ∷ os;
          depth = d + 1;
          passed = opener_scanned p.text r s i.1 (rw n at o) (ap (λ m. nat_lt m most_open) (sym l) ∙ x.0);
          enclosed = rw o at a;
          shallow = x.1;
          long = omega arith;
        }

    closer : (os : List (List ℕ)) → Stands os bs → are_enclosed os (p ∷ ps) ≡ true → d ≡ length os
        → is_operator_kind p.kind ≡ true → opens p ≡ false
        → closes p ≡ true → Following d bs p ps r
    closer [] s a l n o c = absurd (let z : false ≡ true = rw (o, c) at a in cc)
    closer (t ∷ os) s a l n o c =
        let a2 : (is_pair t p.text && are_enclosed os ps) ≡ true = rw (o, c) at a in
        let x = and_parts (is_pair t p.text) (are_enclosed os ps) a2 in
        record {
          opened = os;
          depth = d - 1;
          passed = closer_scanned t p.text r s x.0;
          enclosed = x.1;
          shallow = rw (o, c) at w;
          long = omega arith;
        }
