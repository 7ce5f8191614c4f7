-- The terminals of an f-string close the brackets that they open.
--
-- Carries: Closed, name_after, operator_terminal, string_closed, for Accepted, StringsSaid. On: Elements, Faultless, Classes, FieldLexemes.
use Rattle.std.proofs.Common.{◌≡◌, ℕ, suc, ◌+◌, ◌-◌, ◌≤◌, arith, Bool, true, false, ◌&&◌, ◌==◌, List, [], ◌∷◌, ◌++◌, Option, Some, None}
use Rattle.std.proofs.Common.{refl, sym}
use Rattle.std.proofs.Common.{◌∙◌, ap, subst, cond, append_assoc, count_by}
use Rattle.std.specs.Prelude.{max}
use Rattle.std.specs.List.{flat_map, list_any}
use Rattle.std.specs.Str.{all_scalars}
use Rattle.std.proofs.Math.Utf8.{scalar}
use Rattle.std.proofs.lemmas.List.Folds.{list_any-append}
use Rattle.std.proofs.lemmas.Bool.Decides.{nat_tests}
use Rattle.std.proofs.lemmas.Grind.{flat_map-append}
use Rattle.unicode_normalization.specs.Forms.{nfkc}
use Rattle.std.proofs.lemmas.Bool.{or_parts}
use Rattle.pylex_lexeme.specs.declared.kinds.Exact.{Exact}
use Rattle.pylex_lexeme.specs.declared.kinds.Exact.TheVariants.{LPar, RPar}
use Rattle.pylex_lexeme.specs.declared.lexeme.Class.{Class}
use Rattle.pylex_lexeme.specs.declared.lexeme.Class.TheVariants as classes
use Rattle.pylex_lexeme.specs.Lexemes.{Lexeme, is_opener_class, is_closer_class, cut}
use Rattle.pylex_lexeme.specs.Operators.{operators, exact_of, is_opener, is_closer}
use Rattle.pylex_listing.specs.declared.kind.Kind.{Kind}
use Rattle.pylex_listing.specs.declared.kind.Kind.TheVariants as kinds
use Rattle.pylex_listing.specs.Lines.{opens, closes, count_if}
use Rattle.pylex_listing.specs.EntryKinds.{kind_of}
use Rattle.pytree_node.specs.declared.profiles.Extent.TheVariants.{Whole}
use Rattle.pyfstring_tokens.specs.FieldTokens.{FieldToken, field_tokens, is_gap, closes_none, closes_outer, closing}
use Rattle.pyfstring_tokens.specs.Laws.{tokens_of}
use Rattle.pytoken.specs.declared.keywords.Keyword.{Keyword}
use Rattle.pytoken.specs.declared.faults.TokenError.{TokenError}
use Rattle.pytoken.specs.Keywords.{keyword_of}
use Rattle.pytoken.specs.FormattedStrings.{Element, End, is_fstring, is_field_of, elements_of, elements_fault}
use Rattle.pytoken.proofs.Callers.Bodies.{body_all}
use Rattle.pytoken.specs.Terminals.{Terminal, Op, Word, Ident, Layout, FormattedBegin, FormattedEnd, FieldBegin, FieldEnd, terminal_of}
use Rattle.pytoken.specs.Terminals.{terminals_by}
use Rattle.pytoken.specs.Terminals.{terminals_of, fault_by, fault_of, field_fault, single_fault, nested_expression, expression}
use Rattle.pytoken.specs.Terminals.{is_nested_faulty}
use Rattle.pytoken.specs.Terminals.{is_faulty, element_terminals, elements_terminals, IsSound}
use Rattle.pyunparse_text.specs.Spacing.{is_operator_kind}
use Rattle.pyunparse_text.specs.Brackets.{open_after, most_open}
use Rattle.pyunparse_text.proofs.StringTerminals.Elements.{Laid, nothing, a_text, kept_text, a_spec, a_field, LaidIf, all_laid}
use Rattle.pyunparse_text.proofs.StringTerminals.Faultless.{no_field_wrong, field_faultless}
use Rattle.pyunparse_text.proofs.StringTerminals.Classes.{OfClass, of_class}
use Rattle.pyunparse_text.proofs.StringTerminals.FieldLexemes.{AllTokens, no_lexeme, a_gap, a_token, IsWholeField, whole_field}
use Rattle.pyunparse_text.proofs.FieldTexts.FieldTokens.{counted}
use Rattle.pyunparse_text.proofs.Listings.Runs.{opens_alone}

-- as many brackets are open after them as before, and no fewer than so many between
pub record Closed (ts : List Terminal) : Type 0 where
  pub is : (d : ℕ) (us : List Terminal) → most_open d us ≤ most_open d (ts ++ us)

none : Closed []
none = record { is = λ d us. omega arith }

both : {ts us : List Terminal} → Closed ts → Closed us → Closed (ts ++ us)
both {ts} {us} c k = record { is = λ d vs. rw (append_assoc ts us vs) (omega (arith, c.is d (us ++ vs), k.is d vs)) }

one : (t : Terminal) → ((d : ℕ) → open_after d t ≡ d) → Closed (t ∷ [])
one t k = record { is = λ d us. rw (k d) (omega arith) }

-- ---- Tokens that are one terminal.

pub name_after : (text : List ℕ) (d : ℕ) → open_after d (terminal_of kinds.Name text) ≡ d
unfolding terminal_of
name_after text d = by (keyword_of text)
  where
    by : (o : Option Keyword) → open_after d (elim o [ Some w ↦ Word w | None ↦ Ident (record { spelling = text; form = nfkc text }) ]) ≡ d
    by (Some w) = refl
    by None = refl

-- no operator is a bracket's
kept_open : (k : Kind) (t : List ℕ) (d : ℕ) → is_operator_kind k ≡ false → open_after d (terminal_of k t) ≡ d
unfolding terminal_of
kept_open kinds.Op t d n = absurd (cc)
kept_open kinds.Name t d n = name_after t d
kept_open _ t d n = refl

single_closed : (k : Kind) (t : List ℕ) → is_operator_kind k ≡ false → Closed (terminal_of k t ∷ [])
single_closed k t n = one (terminal_of k t) (λ d. kept_open k t d n)

pub operator_terminal : (t : List ℕ) (e : Exact) → exact_of t ≡ Some e → terminal_of kinds.Op t ≡ Op e
unfolding terminal_of
operator_terminal t e h = ap (λ (o : Option Exact). elim o [ Some x ↦ Op x | None ↦ Layout ]) h

-- ---- Lexemes.

-- after an operator, in n brackets of a field's text and d others
operator_after : (o c : Bool) (n d : ℕ) → (o ≡ true → c ≡ false) → (c ≡ true → 1 ≤ n)
    → cond o (suc (n + d)) (cond c ((n + d) - 1) (n + d)) ≡ (n + count_if o - count_if c) + d
operator_after true true n d a low = absurd (let e = a refl in cc)
operator_after true false n d a low = omega arith
operator_after false true n d a low = omega (arith, low refl)
operator_after false false n d a low = omega arith

closer_low : (c : Bool) (n : ℕ) → (c && (n == 0)) ≡ false → c ≡ true → 1 ≤ n
closer_low true n h e = grind (arith, nat_tests)
closer_low false n h e = absurd (cc)

count_low : (c : Bool) (n : ℕ) → (c ≡ true → 1 ≤ n) → count_if c ≤ n
count_low true n low = low refl
count_low false n low = omega arith

no_brackets : (k : Class) → is_gap k ≡ true → (is_opener_class k ≡ false) × (is_closer_class k ≡ false)
no_brackets classes.Blanks g = (refl, refl)
no_brackets classes.LineEnd g = (refl, refl)
no_brackets classes.Join g = (refl, refl)
no_brackets _ g = absurd (cc)

after_opener : (n d : ℕ) (ts : List Terminal) → n ≤ most_open (suc d) ts → n ≤ most_open d (Op LPar ∷ ts)
after_opener n d ts h = let e : most_open d (Op LPar ∷ ts) ≡ max d (most_open (suc d) ts) = refl in omega (arith, e, h)

-- the terminals of tokens by a function
abbrev given : (Kind → List ℕ → List Terminal) → List FieldToken → List Terminal
given by ts = flat_map (λ (x : FieldToken). by x.kind x.text) ts

-- where tokens are terminals by a function, with operators for operators
module _ (fault : Kind → List ℕ → Option TokenError) (by : Kind → List ℕ → List Terminal)
    (operators_are : (t : List ℕ) (e : Exact) → exact_of t ≡ Some e → by kinds.Op t ≡ Op e ∷ [])
    (others_closed : (k : Kind) (t : List ℕ) → is_operator_kind k ≡ false → all_scalars t ≡ true → fault k t ≡ None → Closed (by k t)) where
  apart : {k : Kind} {text : List ℕ} (n d : ℕ) (us : List Terminal) → Closed (by k text)
      → most_open ((n + 0 - 0) + d) us ≤ most_open (n + d) (by k text ++ us)
  apart n d us c = let e : (n + 0 - 0) + d ≡ n + d = omega arith in rw e (c.is (n + d) us)

  lexeme_closed : (k : Class) (text : List ℕ) → is_gap k ≡ false → OfClass k text → all_scalars text ≡ true
      → fault (kind_of k true) text ≡ None
      → (n d : ℕ) (us : List Terminal)
      → (is_closer_class k ≡ true → 1 ≤ n)
      → most_open ((n + count_if (is_opener_class k) - count_if (is_closer_class k)) + d) us ≤ most_open (n + d)
      (by (kind_of k true) text ++ us)
  lexeme_closed (classes.Operator e) text g t s f n d us low =
      let a : open_after (n + d) (Op e) ≡ (n + count_if (is_opener e) - count_if (is_closer e)) + d =
      operator_after (is_opener e) (is_closer e) n d (opens_alone e) low in
      let m : most_open (open_after (n + d) (Op e)) us ≤ most_open (n + d) (Op e ∷ us) = omega arith in
      rw (operators_are text e t) (subst (λ k. most_open k us ≤ most_open (n + d) (Op e ∷ us)) a m)
  lexeme_closed classes.Name text g t s f n d us low = apart n d us (others_closed kinds.Name text refl s f)
  lexeme_closed classes.Number text g t s f n d us low = apart n d us (others_closed kinds.Number text refl s f)
  lexeme_closed classes.String text g t s f n d us low = apart n d us (others_closed kinds.String text refl s f)
  lexeme_closed classes.Comment text g t s f n d us low = apart n d us (others_closed kinds.Comment text refl s f)
  lexeme_closed _ text g t s f n d us low = absurd (cc)

  lexemes_closed : (n : ℕ) {xs : List Lexeme} → AllTokens scalar fault xs → closes_none n xs ≡ false
      → n + count_by opens xs ≡ count_by closes xs
      → (d : ℕ) (us : List Terminal)
      → most_open d us ≤ most_open (n + d) (given by (tokens_of xs) ++ us)
  lexemes_closed n no_lexeme c e d us = let z : n + d ≡ d = omega (arith, e) in rw z (omega arith)
  lexemes_closed n (a_gap {x = x} {xs = xs} g h) c e d us =
      let b = no_brackets x.«class» g in
      let p = or_parts (closes x && (n == 0)) (closes_none (n + count_if (opens x) - count_if (closes x)) xs) c in
      let same : n + count_if (opens x) - count_if (closes x) ≡ n = rw (b.0, b.1) (omega arith) in
      let o : count_by opens (x ∷ xs) ≡ count_by opens xs = counted opens x xs ∙ rw b.0 (omega arith) in
      let k : count_by closes (x ∷ xs) ≡ count_by closes xs = counted closes x xs ∙ rw b.1 (omega arith) in
      rw g (lexemes_closed n h (subst (λ m. closes_none m xs ≡ false) same p.1) (omega (arith, o, k, e)) d us)
  lexemes_closed n (a_token {x = x} {xs = xs} g t h) c e d us =
      let p = or_parts (closes x && (n == 0)) (closes_none (n + count_if (opens x) - count_if (closes x)) xs) c in
      let low : closes x ≡ true → 1 ≤ n = closer_low (closes x) n p.0 in
      let m : ℕ = n + count_if (opens x) - count_if (closes x) in
      let q : m + count_by opens xs ≡ count_by closes xs = omega (
        arith,
        counted opens x xs,
        counted closes x xs,
        e,
        count_low (closes x) n low,
      ) in
      let r : most_open d us ≤ most_open (m + d) (given by (tokens_of xs) ++ us) = lexemes_closed m h p.1 q d us in
      let vs : List Terminal = given by (tokens_of xs) ++ us in
      let l : most_open (m + d) vs ≤ most_open (n + d) (by (kind_of x.«class» true) x.text ++ vs) =
      lexeme_closed x.«class» x.text g (of_class t.before x.text x.«class» t.in_class) t.scalars t.faultless n d vs low in
      rw (g, append_assoc (by (kind_of x.«class» true) x.text) (given by (tokens_of xs)) us) (omega (arith, r, l))

  -- those of a field, with the parentheses around them
  field_closed : (t : List ℕ) → IsWholeField scalar fault t → Closed (given by (field_tokens t))
  unfolding closes_outer exact_of operators
  field_closed t w =
      let ts : List FieldToken = tokens_of (cut t) in
      let f : given by (field_tokens t) ≡ Op LPar ∷ (given by ts ++ (Op RPar ∷ [])) =
      ap (given by) w.tokens ∙ (ap (λ z. z ++ given by (ts ++ closing ∷ [])) (operators_are (40 ∷ []) LPar refl)
      ∙ ap (λ z. Op LPar ∷ z)
      (flat_map-append (λ (x : FieldToken). by x.kind x.text) ts (closing ∷ []) ∙ ap (λ z. given by ts ++ (z ++ []))
      (operators_are (41 ∷ []) RPar refl))) in
      subst Closed (sym f) (record {
        is = λ d us.
            let r : most_open (suc d) (Op RPar ∷ us) ≤ most_open (0 + suc d) (given by ts ++ (Op RPar ∷ us)) =
            lexemes_closed 0 w.all w.whole.balanced (omega (arith, w.whole.closed)) (suc d) (Op RPar ∷ us) in
            let s : suc d - 1 ≡ d = omega arith in
            let k : most_open (suc d - 1) us ≤ most_open (suc d) (Op RPar ∷ us) = omega arith in
            let m : most_open d us ≤ most_open (suc d) (Op RPar ∷ us) =
            subst (λ n. most_open n us ≤ most_open (suc d) (Op RPar ∷ us)) s k in
            let z : 0 + suc d ≡ suc d = omega arith in
            let q : most_open (suc d) (Op RPar ∷ us) ≤ most_open (suc d) (given by ts ++ (Op RPar ∷ us)) =
            subst (λ n. most_open (suc d) (Op RPar ∷ us) ≤ most_open n (given by ts ++ (Op RPar ∷ us))) z r in
            let o = after_opener (most_open d us) d (given by ts ++ (Op RPar ∷ us)) (omega (arith, q, m)) in
            rw (append_assoc (given by ts) (Op RPar ∷ []) us) o;
      })

-- ---- F-strings, by whether they stand in a field, where the terminals of fields without a fault are closed.

abbrev IsClosedBy : (List ℕ → Bool) → (List ℕ → List Terminal) → Type 0
IsClosedBy is_wrong terminals = (t : List ℕ) → all_scalars t ≡ true → is_wrong t ≡ false → Closed (terminals t)

module _ (is_nested : Bool) (terminals : List ℕ → List Terminal) (is_wrong : List ℕ → Bool) (closed : IsClosedBy is_wrong terminals) where
  elements_closed : {k : ℕ} {es : List Element} → Laid scalar is_nested k es → list_any (is_field_of is_wrong) es ≡ false
      → Closed (flat_map (element_terminals terminals) es)
  elements_closed nothing n = none
  elements_closed (a_text h w l) n = both (one _ (λ d. refl)) (elements_closed l n)
  elements_closed (kept_text q h l) n = both (one _ (λ d. refl)) (elements_closed l n)
  elements_closed (a_spec l) n = both (one _ (λ d. refl)) (elements_closed l n)
  elements_closed (a_field {c = c} {t = t} {ss = ss} {es = es} b h w s l) n =
      let f = or_parts (is_wrong t) (list_any (is_field_of is_wrong) (ss ++ (End ∷ es))) n in
      let g =
      or_parts (list_any (is_field_of is_wrong) ss) (list_any (is_field_of is_wrong) es)
      (sym (list_any-append (is_field_of is_wrong) ss (End ∷ es)) ∙ f.1) in
      let m : Closed (flat_map (element_terminals terminals) (ss ++ (End ∷ es))) =
      subst Closed (sym (flat_map-append (element_terminals terminals) ss (End ∷ es)))
      (both (elements_closed s g.0) (both (one FieldEnd (λ d. refl)) (elements_closed l g.1))) in
      both (both (one (FieldBegin c) (λ d. refl)) (closed t h f.0)) m

  formatted_closed : (t : List ℕ) (o : Option (List Element)) → LaidIf scalar is_nested o → elements_fault is_wrong t o ≡ None
      → Closed (elements_terminals terminals o)
  formatted_closed t None l n = none
  formatted_closed t (Some es) l n =
      both (one FormattedBegin (λ d. refl)) (both (elements_closed l (no_field_wrong is_wrong t es n)) (one FormattedEnd (λ d. refl)))

  token_closed : (k : Kind) (t : List ℕ) → is_operator_kind k ≡ false → all_scalars t ≡ true → fault_by is_nested is_wrong k t ≡ None
      → Closed (terminals_by is_nested terminals k t)
  unfolding fault_by terminals_by
  token_closed k t o s n = at (is_fstring k t) n
    where
      at : (b : Bool) → cond b (elements_fault is_wrong t (elements_of is_nested t)) (single_fault Whole k t) ≡ None
          → Closed (cond b (elements_terminals terminals (elements_of is_nested t)) (terminal_of k t ∷ []))
      at true n = formatted_closed t (elements_of is_nested t) (all_laid scalar is_nested t (body_all scalar t s)) n
      at false n = single_closed k t o

nested_closed : IsClosedBy is_nested_faulty nested_expression
unfolding nested_expression
nested_closed t s n =
    field_closed (single_fault Whole) (λ k u. terminal_of k u ∷ []) (λ u e h. ap (λ z. z ∷ []) (operator_terminal u e h))
    (λ k u o s n. single_closed k u o) t (whole_field scalar (single_fault Whole) t s s n)

expression_closed : IsClosedBy is_faulty expression
unfolding expression terminals_by
expression_closed t s n =
    field_closed field_fault (terminals_by true nested_expression) (λ u e h. ap (λ z. z ∷ []) (operator_terminal u e h)) others t
    (whole_field scalar field_fault t s s n)
  where
    others : (k : Kind) (u : List ℕ) → is_operator_kind k ≡ false → all_scalars u ≡ true → field_fault k u ≡ None
        → Closed (terminals_by true nested_expression k u)
    others k u o s n = token_closed true nested_expression is_nested_faulty nested_closed k u o s (field_faultless k u n).1

pub string_closed : (text : List ℕ) → all_scalars text ≡ true → IsSound kinds.String text → Closed (terminals_of kinds.String text)
unfolding fault_of
string_closed text s i = token_closed false expression is_faulty expression_closed kinds.String text refl s i.faultless
