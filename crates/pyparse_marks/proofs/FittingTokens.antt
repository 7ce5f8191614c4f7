-- Carries: Marks::new. On: each terminal of a token has a span.
use Rattle.std.proofs.Common.{◌≡◌, ℕ, suc, ◌+◌, Bool, true, false, ◌&&◌, List, [], ◌∷◌, length, refl, sym, ap, ◌∙◌, arith, length-append}
use Rattle.std.proofs.Common.{Option, Some, None}
use Rattle.std.specs.Prelude.{option_map, if◌then◌else◌}
use Rattle.std.specs.List.{list_any, list_all, flat_map}
use Rattle.std.specs.Str.{all_scalars}
use Rattle.std.proofs.Math.Utf8.{scalar}
use Rattle.pylex_lexeme.specs.Characters.{left_parenthesis, right_parenthesis}
use Rattle.pylex_lexeme.specs.Chars.{bytes_in}
use Rattle.pylex_listing.specs.declared.kind.Kind.{Kind}
use Rattle.pylex_listing.specs.declared.kind.Kind.TheVariants as kinds
use Rattle.pyfstring.specs.declared.parts.Manner.{Manner}
use Rattle.pyfstring.specs.Parts.{BodyPart}
use Rattle.pyfstring.proofs.Callers.Law.{cut_of_sound}
use Rattle.pyfstring_tokens.specs.FieldTokens.{field_tokens}
use Rattle.pytree_node.specs.declared.profiles.Extent.TheVariants.{Whole}
use Rattle.pytoken.specs.declared.faults.TokenError.{TokenError}
use Rattle.pytoken.specs.declared.faults.TokenError.TheVariants.{FString}
use Rattle.pytoken.specs.StringValues.{with_line_feeds, is_raw, body_of}
use Rattle.pytoken.specs.FormattedStrings.{is_fstring, is_bulky, is_field_of, body_part_elements, elements_of, elements_fault}
use Rattle.pytoken.specs.FormattedStrings.{is_faulty_by}
use Rattle.pytoken.specs.Terminals.{Terminal, FormattedEnd, terminal_of, single_fault, element_terminals, elements_terminals, terminals_by}
use Rattle.pytoken.specs.Terminals.{fault_by}
use Rattle.pytoken.specs.Terminals.{nested_expression, is_nested_faulty, field_fault, expression, is_faulty, terminals_of, fault_of}
use Rattle.pytoken.proofs.Callers.Bodies.{body_all}
use Rattle.pyparse_marks.specs.Laws.{EachHasSpan}
use Rattle.pyparse_marks.specs.TokenSpans.{Walk, put, further, moved, past_single, past_expression, around, opening_len, past_cut, parts_of}
use Rattle.pyparse_marks.specs.TokenSpans.{past_body_parts, past_formatted, past_nested, past_token, token_spans}
use Rattle.pyparse_marks.proofs.Fitting.{count, put_one, over_one, expression_fits}
use Rattle.pyparse_marks.proofs.FittingParts.{body_fits}

all_is : (cs : List ℕ) → all_scalars cs ≡ list_all scalar cs
all_is [] = refl
all_is (c ∷ cs) = ap (λ b. scalar c && b) (all_is cs)

body_ok : (t : List ℕ) → all_scalars t ≡ true → all_scalars (body_of t) ≡ true
body_ok t u = all_is (body_of t) ∙ body_all scalar t (sym (all_is t) ∙ u)

faultless : (b : Bool) (o : Option TokenError) → (if b then Some FString else o) ≡ None → (b ≡ false) × (o ≡ None)
faultless true o h = absurd (cc)
faultless false o h = (refl, h)

-- an f-string, where the tokens of its fields have a span for each of their terminals
module _ (token : Kind → List ℕ → Walk → Walk) (ts : Kind → List ℕ → List Terminal) (fault : Kind → List ℕ → Option TokenError)
    (fits : (k : Kind) (t : List ℕ) → all_scalars t ≡ true → fault k t ≡ None → (w : Walk)
    → count (token k t w) ≡ count w + length (ts k t))
    (first : length (ts kinds.Op (left_parenthesis ∷ [])) ≡ 1) (last : length (ts kinds.Op (right_parenthesis ∷ [])) ≡ 1) where
  abbrev terminals : List ℕ → List Terminal
  terminals t = flat_map (λ x. ts x.kind x.text) (field_tokens t)

  formatted_fits : (is_nested : Bool) (t : List ℕ) → all_scalars t ≡ true
      → elements_fault (is_faulty_by fault) t (elements_of is_nested t) ≡ None → (w : Walk)
      → count (past_formatted is_nested token t w) ≡ count w + length (elements_terminals terminals (elements_of is_nested t))
  unfolding elements_of elements_fault past_formatted
  formatted_fits is_nested t u none w = by (parts_of is_nested t) refl none
    where
      by : (o : Option (List BodyPart)) → parts_of is_nested t ≡ o
          → elements_fault (is_faulty_by fault) t (option_map (body_part_elements (is_raw (with_line_feeds t))) o) ≡ None
          → count (moved (w.at + bytes_in t) (past_cut (past_expression token) (around t w) (opening_len t) o w))
          ≡ count w + length (elements_terminals terminals (option_map (body_part_elements (is_raw (with_line_feeds t))) o))
      by None is none = let no : Some FString ≡ None = none in absurd (cc)
      by (Some ps) is none =
          let raw = is_raw (with_line_feeds t) in
          let manner : Manner = record { is_raw = raw; is_nested = is_nested } in
          let es = body_part_elements raw ps in
          let a = around t w in
          let sound = (faultless (list_any (is_field_of (is_faulty_by fault)) es) _ none).0 in
          let begun = further (opening_len t) (put a.whole w) in
          let ended = past_body_parts (past_expression token) a ps begun in
          let inside : count ended ≡ count begun + length (flat_map (element_terminals terminals) es) =
          body_fits (past_expression token) terminals (is_faulty_by fault) (expression_fits token ts fault fits first last) a
          manner raw (body_of t) ps (cut_of_sound manner (body_of t) ps is) (body_ok t u) sound begun in
          let one : count begun ≡ count w + 1 = put_one a.whole w in
          let end : count (put a.whole ended) ≡ count ended + 1 = put_one a.whole ended in
          let all : length (elements_terminals terminals (Some es)) ≡ suc (length (flat_map (element_terminals terminals) es) + 1) =
          ap suc (length-append (flat_map (element_terminals terminals) es) (FormattedEnd ∷ [])) in
          omega (arith, one, inside, end, all)

single_fits : (k : Kind) (t : List ℕ) → all_scalars t ≡ true → single_fault Whole k t ≡ None → (w : Walk)
    → count (past_single k t w) ≡ count w + length (terminal_of k t ∷ [])
single_fits k t u none w = over_one (bytes_in t) w

nested_fits : (k : Kind) (t : List ℕ) → all_scalars t ≡ true → field_fault k t ≡ None → (w : Walk)
    → count (past_nested k t w) ≡ count w + length (terminals_by true nested_expression k t)
unfolding terminals_by fault_by nested_expression
nested_fits k t u none w = by (is_fstring k t) refl
  where
    by : (b : Bool) → is_fstring k t ≡ b → count (past_nested k t w) ≡ count w + length (terminals_by true nested_expression k t)
    by true is =
        let own : fault_by true is_nested_faulty k t ≡ None =
        (faultless (is_bulky k t) (fault_by true is_nested_faulty k t) none).1 in
        let sound : elements_fault is_nested_faulty t (elements_of true t) ≡ None = rw is at own in
        rw is (formatted_fits past_single (λ k t. terminal_of k t ∷ []) (single_fault Whole) single_fits refl refl true t u sound w)
    by false is = rw is (over_one (bytes_in t) w)

token_fits : (k : Kind) (t : List ℕ) → all_scalars t ≡ true → fault_of Whole k t ≡ None → (w : Walk)
    → count (past_token k t w) ≡ count w + length (terminals_of k t)
unfolding terminals_by fault_by fault_of expression
token_fits k t u none w = by (is_fstring k t) refl
  where
    by : (b : Bool) → is_fstring k t ≡ b → count (past_token k t w) ≡ count w + length (terminals_of k t)
    by true is =
        let sound : elements_fault is_faulty t (elements_of false t) ≡ None = rw is at none in
        rw is (formatted_fits past_nested (terminals_by true nested_expression) field_fault nested_fits refl refl false t u sound w)
    by false is = rw is (over_one (bytes_in t) w)

pub each_has_span : EachHasSpan
unfolding token_spans
each_has_span at k t u none =
    let all : length (token_spans at k t) ≡ 0 + length (terminals_of k t) = token_fits k t u none (record { at = at; spans = [] }) in
    omega (arith, all)
