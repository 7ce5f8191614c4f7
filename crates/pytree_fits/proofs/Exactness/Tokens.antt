-- Carries: the laws by tokens. On: a token of a source stands for terminals that pass.
use Rattle.std.proofs.Common.{◌≡◌, refl, sym, ap, ◌∙◌, inl, inr, ℕ, ◌<◌, List, [], ◌∷◌, Option, Some, None, Bool, true, false, ◌&&◌}
use Rattle.std.specs.Prelude.{◌==◌, not, All, nat_lt, if◌then◌else◌}
use Rattle.std.specs.List.{list_all, list_any, flat_map}
use Rattle.std.specs.Option.{option_or}
use Rattle.std.specs.Str.{all_scalars}
use Rattle.std.proofs.lemmas.Bool.{and_from, cases_Bool}
use Rattle.std.proofs.lemmas.List.Elements.{All-head, All-tail}
use Rattle.unicode_normalization.specs.Forms.{nfkc}
use Rattle.pylex_lexeme.specs.declared.kinds.Exact.{Exact}
use Rattle.pylex_lexeme.specs.Operators.{exact_of}
use Rattle.pylex_lexeme.specs.Lexemes as Lexemes
use Rattle.pylex_listing.specs.declared.kind.Kind.{Kind}
use Rattle.pylex_listing.specs.declared.kind.Kind.TheVariants as kinds
use Rattle.pytree_node.specs.Values.{Str, Bytes}
use Rattle.pytree_node.specs.declared.profiles.Extent.{Extent}
use Rattle.pytree_node.specs.declared.profiles.Extent.TheVariants.{Plain, Whole}
use Rattle.pytoken.specs.declared.faults.TokenError.{TokenError}
use Rattle.pytoken.specs.declared.faults.TokenError.TheVariants.{FString, NonAsciiBytes}
use Rattle.pytoken.specs.declared.keywords.Keyword.{Keyword}
use Rattle.pytoken.specs.Keywords.{keyword_of}
use Rattle.pytoken.specs.Escapes.{meanings, escape_fault}
use Rattle.pytoken.specs.StringValues.{with_line_feeds, is_raw, is_bytes, is_unicode, body_of, points_of, value_of, string_value}
use Rattle.pytoken.specs.StringValues.{literal_fault, string_fault, nul_fault}
use Rattle.pytoken.specs.NameValues.{name_fault}
use Rattle.pytoken.specs.FormattedStrings.{is_fstring, elements_of, elements_fault}
use Rattle.pytoken.specs.Terminals.{Op, Word, Ident, Literal, Layout, terminal_of, terminals_by, terminals_of, single_fault, fault_by}
use Rattle.pytoken.specs.Terminals.{is_faulty, fault_of, is_of}
use Rattle.pytoken.specs.Tokens.{Token}
use Rattle.pytoken.specs.SourceTokens.{IsOfSource}
use Rattle.pytoken.specs.Laws.{is_point}
use Rattle.pytoken.proofs.Callers.Bodies.{filter_all}
use Rattle.pytoken.proofs.Callers.Said.{names_are_proper, bytes_are_small}
use Rattle.pygrammar.proofs.Callers.OpenStrings.{terminals_close}
use Rattle.pytree_fits.specs.Tests.{tests_in}
use Rattle.pytree_fits.specs.Given.{passes, all_pass, AreSound}
use Rattle.pytree_fits.proofs.Fields.Standing.{outside, both_pass}
use Rattle.pytree_fits.proofs.Fields.Tests.{never}
use Rattle.pytree_fits.proofs.Exactness.ProperNames.{proper_name}
use Rattle.pytree_fits.proofs.Exactness.FormattedTokens.{formatted_passes}
use Rattle.pytree_fits.proofs.Exactness.NumberTokens.{number_passes}
use Rattle.pytree_fits.proofs.InRange.{small}
use Rattle.pyunparse_text.proofs.Callers.Said.{scalars_points, literal_points}

-- ---- What a token stands for passes.

name_passes : (extent : Extent) (t : List ℕ) → Lexemes.is_name t ≡ true → name_fault t ≡ None
    → passes (tests_in extent) [] (terminal_of kinds.Name t) ≡ true
unfolding terminal_of
name_passes extent t h s = by (keyword_of t) refl
  where
    by : (o : Option Keyword) → keyword_of t ≡ o
        → passes (tests_in extent) [] (elim o [ Some w ↦ Word w | None ↦ Ident (record { spelling = t; form = nfkc t }) ]) ≡ true
    by (Some w) e = refl
    by None e = proper_name (nfkc t) (names_are_proper t h e s)

string_is : (extent : Extent) (t : List ℕ) → all_scalars t ≡ true → string_fault t ≡ None
    → passes (tests_in extent) [] (Literal (string_value t)) ≡ true
unfolding string_value value_of
string_is extent t h s = by (is_bytes (with_line_feeds t)) (λ e. bytes_are_small t (points_of (with_line_feeds t)) e s)
  where
    points : list_all is_point (points_of (with_line_feeds t)) ≡ true
    points = literal_points (with_line_feeds t) (filter_all is_point (λ c. not (c == 13)) t (scalars_points t h))

    by : (b : Bool) → ((if b then Bytes (points_of (with_line_feeds t)) else Str (points_of (with_line_feeds t))
        (is_unicode (with_line_feeds t))) ≡ Bytes (points_of (with_line_feeds t)) → All (λ b. b < 0x100) (points_of (with_line_feeds t))) →
        passes (tests_in extent) []
        (Literal (if b then Bytes (points_of (with_line_feeds t)) else Str (points_of (with_line_feeds t))
        (is_unicode (with_line_feeds t)))) ≡ true
    by true f = small (points_of (with_line_feeds t)) (f refl)
    by false f = points

string_passes : (extent : Extent) (t : List ℕ) → all_scalars t ≡ true → string_fault t ≡ None
    → passes (tests_in extent) [] (terminal_of kinds.String t) ≡ true
unfolding terminal_of
string_passes extent t h s = string_is extent t h s

sign_passes : (extent : Extent) (t : List ℕ) → passes (tests_in extent) [] (terminal_of kinds.Op t) ≡ true
unfolding terminal_of
sign_passes extent t = by (exact_of t)
  where
    by : (o : Option Exact) → passes (tests_in extent) [] (elim o [ Some e ↦ Op e | None ↦ Layout ]) ≡ true
    by (Some e) = refl
    by None = refl

single_passes : (extent : Extent) (k : Kind) (t : List ℕ) → all_scalars t ≡ true → is_of k t ≡ true → single_fault extent k t ≡ None
    → passes (tests_in extent) [] (terminal_of k t) ≡ true
unfolding single_fault terminal_of
single_passes extent kinds.Name t a h s = name_passes extent t h s
single_passes extent kinds.Number t a h s = number_passes extent t s
single_passes extent kinds.String t a h s = string_passes extent t a s
single_passes extent kinds.Op t a h s = sign_passes extent t
single_passes extent _ t a h s = refl

-- ---- F-strings.

-- in the plain language an f-string has a fault
no_fstring : (k : Kind) (t : List ℕ) → is_fstring k t ≡ true → single_fault Plain k t ≡ None → ⊥
unfolding single_fault string_fault literal_fault
no_fstring kinds.String t h s =
    some_none (sym (ap (λ b. if b then Some FString else option_or (escape_fault (meanings (is_raw u) (is_bytes u) (body_of u)))
    (if is_bytes u && list_any (nat_lt 0x7F) u then Some NonAsciiBytes else nul_fault u)) h) ∙ s)
  where
    u : List ℕ
    u = with_line_feeds t

    some_none : ◌≡◌ {A = Option TokenError} (Some FString) None → ⊥
    some_none h = absurd (cc)
no_fstring _ t h s = absurd (never h)

-- ---- Tokens.

alone_passes : (extent : Extent) (k : Kind) (t : List ℕ) → all_scalars t ≡ true → is_of k t ≡ true → is_fstring k t ≡ false
    → single_fault extent k t ≡ None → all_pass (tests_in extent) [] (terminals_of k t) ≡ true
unfolding terminals_by
alone_passes extent k t a h q s = rw q (and_from (passes (tests_in extent) [] (terminal_of k t)) true (single_passes extent k t a h s) refl)

token_passes : (extent : Extent) (k : Kind) (t : List ℕ) → all_scalars t ≡ true → is_of k t ≡ true → fault_of extent k t ≡ None
    → all_pass (tests_in extent) [] (terminals_of k t) ≡ true
unfolding fault_of fault_by
token_passes Plain k t a h s = elim (cases_Bool (is_fstring k t)) [
  | inl q ↦ absurd (no_fstring k t q s)
  | inr q ↦ alone_passes Plain k t a h q s
]
token_passes Whole k t a h s = elim (cases_Bool (is_fstring k t)) [
  | inl q ↦ formatted_passes k t a q s
  | inr q ↦ alone_passes Whole k t a h q
      (ap (λ b. if b then elements_fault is_faulty t (elements_of false t) else single_fault Whole k t) (sym q) ∙ s)
]

abbrev IsFaultless : Extent → Token → Type 0
IsFaultless extent t = fault_of extent t.kind t.text ≡ None

all_tokens_pass : (extent : Extent) (ts : List Token) → All IsOfSource ts → All (IsFaultless extent) ts
    → all_pass (tests_in extent) [] (flat_map (λ (t : Token). terminals_of t.kind t.text) ts) ≡ true
all_tokens_pass extent [] h g = refl
all_tokens_pass extent (t ∷ ts) h g =
    let w : IsOfSource t = All-head IsOfSource t ts h in
    both_pass (outside (tests_in extent)) (terminals_of t.kind t.text) (terminals_close t.kind t.text)
    (flat_map (λ (t : Token). terminals_of t.kind t.text) ts)
    (token_passes extent t.kind t.text w.0 w.1.of_kind (All-head (IsFaultless extent) t ts g))
    (all_tokens_pass extent ts (All-tail IsOfSource t ts h) (All-tail (IsFaultless extent) t ts g))

pub tokens_pass : {extent : Extent} (ts : List Token) → AreSound extent ts
    → all_pass (tests_in extent) [] (flat_map (λ (t : Token). terminals_of t.kind t.text) ts) ≡ true
tokens_pass {extent} ts s = all_tokens_pass extent ts s.of_source s.faultless
