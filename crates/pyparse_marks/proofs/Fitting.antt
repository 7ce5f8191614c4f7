-- Carries: Marks::new. On: how many spans the expression of a field has, and how many a token.
use Rattle.std.proofs.Common.{◌≡◌, ℕ, zero, suc, ◌+◌, Bool, true, false, ◌||◌, List, [], ◌∷◌, ◌++◌, length, drop, refl, sym, ap, ◌∙◌, subst}
use Rattle.std.proofs.Common.{arith, length-append, append_assoc, Option, Some, None, is_some}
use Rattle.std.specs.List.{list_any, flat_map}
use Rattle.std.specs.Str.{all_scalars}
use Rattle.std.proofs.Math.Utf8.{scalar}
use Rattle.std.proofs.lemmas.Bool.{and_parts, or_parts}
use Rattle.pylex_lexeme.specs.Characters.{left_parenthesis, right_parenthesis}
use Rattle.pylex_lexeme.specs.Chars.{bytes_in}
use Rattle.pylex_lexeme.specs.Lexemes.{Lexeme, cut, left_by_cut}
use Rattle.pylex_listing.specs.declared.kind.Kind.{Kind}
use Rattle.pylex_listing.specs.declared.kind.Kind.TheVariants as kinds
use Rattle.pylex_listing.specs.EntryKinds.{kind_of}
use Rattle.pylex_listing.proofs.Callers.{is_cut, scalars_of}
use Rattle.pyfstring_tokens.specs.FieldTokens.{FieldToken, field_tokens, opening, closing, is_gap, has_fault, closes_outer, has_comment}
use Rattle.pyfstring_tokens.specs.Answers.{field_token}
use Rattle.pyfstring_tokens.specs.Laws.{tokens_of}
use Rattle.pyfstring_tokens.proofs.Callers.Law.{tokens_are_own}
use Rattle.pytoken.specs.declared.faults.TokenError.{TokenError}
use Rattle.pytoken.specs.FormattedStrings.{is_faulty_by}
use Rattle.pytoken.specs.Terminals.{Terminal}
use Rattle.pyparse_marks.specs.Spans.{Span, span}
use Rattle.pyparse_marks.specs.TokenSpans.{Walk, put, further, over, past_each, past_lexeme, past_expression}

abbrev pub count : Walk → ℕ
count w = length w.spans

pub put_one : (s : Span) (w : Walk) → count (put s w) ≡ count w + 1
put_one s w = length-append w.spans (s ∷ [])

pub over_one : (n : ℕ) (w : Walk) → count (over n w) ≡ count w + 1
over_one n w = length-append w.spans (span w.at (w.at + n) ∷ [])

-- ---- Parts of a text of Unicode characters.

pub scalars_back : (a b : List ℕ) → all_scalars (a ++ b) ≡ true → all_scalars b ≡ true
scalars_back [] b e = e
scalars_back (c ∷ a) b e = scalars_back a b (and_parts (scalar c) (all_scalars (a ++ b)) e).1

pub scalars_drop : (n : ℕ) (cs : List ℕ) → all_scalars cs ≡ true → all_scalars (drop n cs) ≡ true
scalars_drop zero cs e = e
scalars_drop (suc n) [] e = refl
scalars_drop (suc n) (c ∷ cs) e = scalars_drop n cs (and_parts (scalar c) (all_scalars cs) e).1

-- ---- Lists of which no item passes a test.

pub none_front : {A : Type 0} (p : A → Bool) (xs ys : List A) → list_any p (xs ++ ys) ≡ false → list_any p xs ≡ false
none_front p [] ys e = refl
none_front p (x ∷ xs) ys e = let q = or_parts (p x) (list_any p (xs ++ ys)) e in rw q.0 (none_front p xs ys q.1)

pub none_back : {A : Type 0} (p : A → Bool) (xs ys : List A) → list_any p (xs ++ ys) ≡ false → list_any p ys ≡ false
none_back p [] ys e = e
none_back p (x ∷ xs) ys e = none_back p xs ys (or_parts (p x) (list_any p (xs ++ ys)) e).1

pub flat_both : {A B : Type 0} (g : A → List B) (xs ys : List A)
    → length (flat_map g (xs ++ ys)) ≡ length (flat_map g xs) + length (flat_map g ys)
flat_both g [] ys = let nothing : length (flat_map g []) ≡ 0 = refl in omega (arith, nothing)
flat_both g (x ∷ xs) ys =
    omega (arith, flat_both g xs ys, length-append (g x) (flat_map g (xs ++ ys)), length-append (g x) (flat_map g xs))

three_false : (a b c : Bool) → (a || b || c) ≡ false → (a ≡ false) × (b ≡ false) × (c ≡ false)
three_false true b c h = cc
three_false false true c h = cc
three_false false false true h = cc
three_false false false false h = (refl, refl, refl)

none_is : {A : Type 0} (o : Option A) → is_some o ≡ false → o ≡ None
none_is None h = refl
none_is (Some x) h = cc

-- ---- The expression of a field, by its tokens.

module _ (token : Kind → List ℕ → Walk → Walk) (ts : Kind → List ℕ → List Terminal) (fault : Kind → List ℕ → Option TokenError)
    (fits : (k : Kind) (t : List ℕ) → all_scalars t ≡ true → fault k t ≡ None → (w : Walk)
    → count (token k t w) ≡ count w + length (ts k t)) where
  abbrev pub faulty : FieldToken → Bool
  faulty x = is_some (fault x.kind x.text)

  abbrev pub own : FieldToken → List Terminal
  own x = ts x.kind x.text

  lexemes_fit : (xs : List Lexeme) (left : List ℕ) → all_scalars (flat_map (λ x. x.text) xs ++ left) ≡ true
      → list_any faulty (tokens_of xs) ≡ false → (w : Walk)
      → count (past_each (past_lexeme token) xs w) ≡ count w + length (flat_map own (tokens_of xs))
  lexemes_fit [] left u none w = omega arith
  lexemes_fit (x ∷ xs) left u none w = by (is_gap x.«class») refl (lexemes_fit xs left)
    where
      by : (b : Bool) → is_gap x.«class» ≡ b
          → (all_scalars (flat_map (λ (y : Lexeme). y.text) xs ++ left) ≡ true → list_any faulty (tokens_of xs) ≡ false → (v : Walk)
          → count (past_each (past_lexeme token) xs v) ≡ count v + length (flat_map own (tokens_of xs)))
          → count (past_each (past_lexeme token) (x ∷ xs) w) ≡ count w + length (flat_map own (tokens_of (x ∷ xs)))
      by true gap more =
          let following = flat_map (λ (y : Lexeme). y.text) xs ++ left in
          let text_ok : all_scalars (x.text ++ following) ≡ true =
          subst (λ (cs : List ℕ). all_scalars cs ≡ true) (append_assoc x.text (flat_map (λ (y : Lexeme). y.text) xs) left) u in
          let rest : list_any faulty (tokens_of xs) ≡ false = rw gap at none in
          let step : past_lexeme token x w ≡ further (bytes_in x.text) w = rw gap refl in
          let toks : tokens_of (x ∷ xs) ≡ tokens_of xs = rw gap refl in
          ap (λ (v : Walk). count (past_each (past_lexeme token) xs v)) step
          ∙ more (scalars_back x.text following text_ok) rest (further (bytes_in x.text) w)
          ∙ ap (λ (ys : List FieldToken). count w + length (flat_map own ys)) (sym toks)
      by false gap more =
          let following = flat_map (λ (y : Lexeme). y.text) xs ++ left in
          let text_ok : all_scalars (x.text ++ following) ≡ true =
          subst (λ (cs : List ℕ). all_scalars cs ≡ true) (append_assoc x.text (flat_map (λ (y : Lexeme). y.text) xs) left) u in
          let k = kind_of x.«class» true in
          let clean : list_any faulty (field_token x.«class» x.text ∷ tokens_of xs) ≡ false = rw gap at none in
          let parts = or_parts (is_some (fault k x.text)) (list_any faulty (tokens_of xs)) clean in
          let next = token k x.text w in
          let here : count next ≡ count w + length (ts k x.text) =
          fits k x.text (scalars_of x.text following text_ok) (none_is (fault k x.text) parts.0) w in
          let rest = more (scalars_back x.text following text_ok) parts.1 next in
          let size : length (flat_map own (field_token x.«class» x.text ∷ tokens_of xs)) ≡ length (ts k x.text)
          + length (flat_map own (tokens_of xs)) =
          length-append (ts k x.text) (flat_map own (tokens_of xs)) in
          let all : count (past_each (past_lexeme token) xs next) ≡ count w
          + length (flat_map own (field_token x.«class» x.text ∷ tokens_of xs)) =
          omega (arith, here, rest, size) in
          let step : past_lexeme token x w ≡ next = rw gap refl in
          let toks : tokens_of (x ∷ xs) ≡ field_token x.«class» x.text ∷ tokens_of xs = rw gap refl in
          ap (λ (v : Walk). count (past_each (past_lexeme token) xs v)) step ∙ all
          ∙ ap (λ (ys : List FieldToken). count w + length (flat_map own ys)) (sym toks)

  pub expression_fits : length (ts kinds.Op (left_parenthesis ∷ [])) ≡ 1 → length (ts kinds.Op (right_parenthesis ∷ [])) ≡ 1 → (t : List ℕ)
      → all_scalars t ≡ true → is_faulty_by fault t ≡ false → (w : Walk)
      → count (past_expression token t w) ≡ count w + length (flat_map own (field_tokens t))
  unfolding past_expression is_faulty_by
  expression_fits first last t u sound w =
      let parts = or_parts (has_fault t || closes_outer t || has_comment t) (list_any faulty (field_tokens t)) sound in
      let no = three_false (has_fault t) (closes_outer t) (has_comment t) parts.0 in
      let law = tokens_are_own t u in
      let all = law.all (law.whole no.0 no.1 no.2) in
      let xs = cut t in
      let inside = tokens_of xs ++ closing ∷ [] in
      let none : list_any faulty (opening ∷ inside) ≡ false = ap (list_any faulty) (sym all) ∙ parts.1 in
      let among = none_front faulty (tokens_of xs) (closing ∷ []) (or_parts (faulty opening) (list_any faulty inside) none).1 in
      let text_ok : all_scalars (flat_map (λ x. x.text) xs ++ left_by_cut t) ≡ true = ap all_scalars (sym (is_cut t).joined) ∙ u in
      let begun = over 1 w in
      let ended = past_each (past_lexeme token) xs begun in
      let lexemes : count ended ≡ count begun + length (flat_map own (tokens_of xs)) = lexemes_fit xs (left_by_cut t) text_ok among begun in
      let size : length (flat_map own (field_tokens t)) ≡ length (own opening) + length (flat_map own inside) =
      ap (λ ys. length (flat_map own ys)) all ∙ length-append (own opening) (flat_map own inside) in
      let within : length (flat_map own inside) ≡ length (flat_map own (tokens_of xs)) + length (own closing ++ []) =
      flat_both own (tokens_of xs) (closing ∷ []) in
      let close : length (own closing ++ []) ≡ length (own closing) + 0 = length-append (own closing) [] in
      let one : length (own opening) ≡ 1 = first in
      let other : length (own closing) ≡ 1 = last in
      omega (arith, over_one 1 w, over_one 1 ended, lexemes, size, within, close, one, other)
