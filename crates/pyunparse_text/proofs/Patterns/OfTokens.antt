-- Carries: the laws of written patterns. On: what the grammar reads of a token may be one: a NUMBER gives a number, and a STRING a text or
-- bytes.
use Rattle.std.proofs.Common.{◌≡◌, ◌∙◌, refl, subst, ℕ, Bool, true, false, List, [], ◌∷◌, ◌++◌, Option, Some, None, if◌then◌else◌}
use Rattle.std.specs.List.{flat_map, list_all}
use Rattle.std.specs.Str.{encode_utf8_all}
use Rattle.std.proofs.lemmas.List.Folds.{list_all-append}
use Rattle.unicode_normalization.specs.Forms.{nfkc}
use Rattle.pynumber.specs.FloatValues.{float_value}
use Rattle.pylex_lexeme.specs.declared.kinds.Exact.{Exact}
use Rattle.pylex_lexeme.specs.Operators.{exact_of}
use Rattle.pylex_listing.specs.declared.kind.Kind.{Kind}
use Rattle.pylex_listing.specs.declared.kind.Kind.TheVariants as kinds
use Rattle.pytree_node.specs.Values
use Rattle.pytree_node.specs.declared.profiles.Extent.{Extent}
use Rattle.pyfstring_tokens.specs.FieldTokens.{FieldToken, field_tokens}
use Rattle.pytoken.specs.declared.keywords.Keyword.{Keyword}
use Rattle.pytoken.specs.Keywords.{keyword_of}
use Rattle.pytoken.specs.NumberValues.{whole_value, is_complex, is_real, number_value}
use Rattle.pytoken.specs.StringValues.{with_line_feeds, is_bytes, is_unicode, points_of, value_of, string_value}
use Rattle.pytoken.specs.Tokens.{Token}
use Rattle.pytoken.specs.FormattedStrings.{Element, Text, Field, Spec, End, is_fstring, elements_of}
use Rattle.pytoken.specs.Terminals.{Terminal, Op, Word, Ident, FormattedEnd, Layout, terminal_of, element_terminals, elements_terminals}
use Rattle.pytoken.specs.Terminals.{terminals_by}
use Rattle.pytoken.specs.Terminals.{nested_expression, expression, terminals_of}
use Rattle.pyunparse_text.specs.Laws.{is_number, is_string, may_be_token, AreOfTokens, no_token, a_token}

number_is : (t : List ℕ) → is_number (number_value t) ≡ true
unfolding number_value
number_is t = by (is_complex t) (is_real t)
  where
    by : (a b : Bool)
        → is_number (if a then Values.Imaginary (float_value t) else (if b then Values.Float (float_value t) else Values.Int
        (whole_value t))) ≡ true
    by true b = refl
    by false true = refl
    by false false = refl

value_is : (t : List ℕ) → is_string (value_of t) ≡ true
unfolding value_of
value_is t = by (is_bytes t)
  where
    by : (b : Bool) → is_string (if b then Values.Bytes (points_of t) else Values.Str (points_of t) (is_unicode t)) ≡ true
    by true = refl
    by false = refl

string_is : (t : List ℕ) → is_string (string_value t) ≡ true
unfolding string_value
string_is t = value_is (with_line_feeds t)

pub token_may_be : (k : Kind) (t : List ℕ) → may_be_token (terminal_of k t) ≡ true
unfolding terminal_of
token_may_be kinds.Name t = by (keyword_of t)
  where
    by : (o : Option Keyword) → may_be_token (elim o [ Some w ↦ Word w | None ↦ Ident (record { spelling = t; form = nfkc t }) ]) ≡ true
    by (Some w) = refl
    by None = refl
token_may_be kinds.Number t = number_is (encode_utf8_all t)
token_may_be kinds.String t = string_is t
token_may_be kinds.Op t = by (exact_of t)
  where
    by : (o : Option Exact) → may_be_token (elim o [ Some e ↦ Op e | None ↦ Layout ]) ≡ true
    by (Some e) = refl
    by None = refl
token_may_be _ t = refl

-- ---- F-strings.

single_may_be : (xs : List FieldToken) → list_all may_be_token (flat_map (λ x. terminal_of x.kind x.text ∷ []) xs) ≡ true
single_may_be [] = refl
single_may_be (x ∷ xs) = let f = token_may_be x.kind x.text in rw f (single_may_be xs)

nested_may_be : (t : List ℕ) → list_all may_be_token (nested_expression t) ≡ true
unfolding nested_expression
nested_may_be t = single_may_be (field_tokens t)

both_may_be : (ts us : List Terminal) → list_all may_be_token ts ≡ true → list_all may_be_token us ≡ true
    → list_all may_be_token (ts ++ us) ≡ true
both_may_be ts us p q = list_all-append may_be_token ts us ∙ rw p q

-- where the expressions of fields may be
module _ (expression : List ℕ → List Terminal) (may_be : (t : List ℕ) → list_all may_be_token (expression t) ≡ true) where
  element_may_be : (e : Element) → list_all may_be_token (element_terminals expression e) ≡ true
  element_may_be (Text p) = refl
  element_may_be (Field c t) = may_be t
  element_may_be Spec = refl
  element_may_be End = refl

  inner_may_be : (es : List Element) → list_all may_be_token (flat_map (element_terminals expression) es) ≡ true
  inner_may_be [] = refl
  inner_may_be (e ∷ es) =
      both_may_be (element_terminals expression e) (flat_map (element_terminals expression) es) (element_may_be e) (inner_may_be es)

  string_may_be : (o : Option (List Element)) → list_all may_be_token (elements_terminals expression o) ≡ true
  string_may_be None = refl
  string_may_be (Some es) = both_may_be (flat_map (element_terminals expression) es) (FormattedEnd ∷ []) (inner_may_be es) refl

  given_may_be : (is_nested : Bool) (k : Kind) (t : List ℕ) → list_all may_be_token (terminals_by is_nested expression k t) ≡ true
  unfolding terminals_by
  given_may_be is_nested k t = by (is_fstring k t)
    where
      by : (b : Bool) → list_all may_be_token (if b then elements_terminals expression (elements_of is_nested t) else
          terminal_of k t ∷ []) ≡ true
      by true = string_may_be (elements_of is_nested t)
      by false = rw (token_may_be k t) refl

field_may_be : (xs : List FieldToken) → list_all may_be_token (flat_map (λ x. terminals_by true nested_expression x.kind x.text) xs) ≡ true
field_may_be [] = refl
field_may_be (x ∷ xs) =
    both_may_be (terminals_by true nested_expression x.kind x.text) (flat_map (λ x. terminals_by true nested_expression x.kind x.text) xs)
    (given_may_be nested_expression nested_may_be true x.kind x.text) (field_may_be xs)

expression_may_be : (t : List ℕ) → list_all may_be_token (expression t) ≡ true
unfolding expression
expression_may_be t = field_may_be (field_tokens t)

terminals_may_be : (k : Kind) (t : List ℕ) → list_all may_be_token (terminals_of k t) ≡ true
terminals_may_be k t = given_may_be expression expression_may_be false k t

-- ---- The terminals of tokens.

pub tokens_may_be : (ts : List Token) → list_all may_be_token (flat_map (λ t. terminals_of t.kind t.text) ts) ≡ true
tokens_may_be [] = refl
tokens_may_be (t ∷ ts) =
    both_may_be (terminals_of t.kind t.text) (flat_map (λ t. terminals_of t.kind t.text) ts)
    (terminals_may_be t.kind t.text) (tokens_may_be ts)

pub of_tokens_may_be : {extent : Extent} {ts : List Terminal} → AreOfTokens extent ts → list_all may_be_token ts ≡ true
of_tokens_may_be no_token = refl
of_tokens_may_be (a_token {k = k} {text = text} {ts = ts} {us = us} c g r) =
    both_may_be ts us (subst (λ z. list_all may_be_token z ≡ true) g.terminals (terminals_may_be k text)) (of_tokens_may_be r)
