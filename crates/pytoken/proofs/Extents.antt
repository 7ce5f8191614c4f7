-- On: a source is refused in the plain language for its tokens where it is in the whole one, and for
-- its numbers and f-strings.
--
-- Carries: extents_differ_in_numbers, for Said.
use Rattle.std.proofs.Common.{◌≡◌, ◌⊎◌, inl, inr, ℕ, Bool, List, [], ◌∷◌, ◌++◌, refl, sym, ◌∙◌, Option, None}
use Rattle.std.proofs.lemmas.Bool.{cases_Bool}
use Rattle.std.specs.Prelude.{All}
use Rattle.std.specs.Str.{encode_utf8_all}
use Rattle.std.specs.Option.{option_or}
use Rattle.std.proofs.lemmas.List.Elements.{All-nil, All-cons, All-head, All-tail, All-append}
use Rattle.pysource.specs.declared.places.Place.{Place}
use Rattle.pylex_lexeme.specs.declared.kinds.Exact.{Exact}
use Rattle.pylex_listing.specs.declared.kind.Kind.{Kind}
use Rattle.pylex_listing.specs.declared.kind.Kind.TheVariants as kinds
use Rattle.pylex_listing.specs.declared.entries.Entry.{Entry}
use Rattle.pylex_listing.specs.Listing.{Source, listing}
use Rattle.pylex_listing.specs.Steps.{entries_of, fault_of as listing_fault}
use Rattle.pytree_node.specs.declared.profiles.Extent.TheVariants.{Plain, Whole}
use Rattle.pytoken.specs.FormattedStrings.{is_fstring}
use Rattle.pytoken.specs.Terminals.{single_fault, fault_by, fault_of}
use Rattle.pytoken.specs.Tokens.{Token, text_of, is_open, tokens_of_entry, tokens_from, tokens}
use Rattle.pytoken.specs.Indentation.{margins}
use Rattle.pytoken.specs.Refusals.{most_brackets, entry_refusal, first_entry_refusal, first_too_deep, first_mixed, refusal_of, refusal_at}
use Rattle.pytoken.specs.Laws.{ExtentsDifferInNumbers}
use Rattle.pytoken.proofs.NumberKinds.{whole_faultless}
use Rattle.pytoken.proofs.SingleLemmas.{of_single, plain_formatted}
use Rattle.pytoken.proofs.EntryTokens.{of_entry, none_parts, none_from, no_fault, not_faulty, not_refused, as_refused}

-- The fault of a token or of another entry

-- what has no fault in the plain language has none in the whole one
pub plain_is_whole : (k : Kind) (t : List ℕ) → fault_of Plain k t ≡ None → fault_of Whole k t ≡ None
unfolding single_fault fault_by fault_of
plain_is_whole kinds.Number t none = whole_faultless Plain (encode_utf8_all t) none
plain_is_whole kinds.Name t none = none
plain_is_whole kinds.String t none = elim (cases_Bool (is_fstring kinds.String t)) [
  | inl formatted ↦ absurd (let e = plain_formatted kinds.String t formatted in cc)
  | inr other ↦ of_single Whole kinds.String t other ∙ sym (of_single Plain kinds.String t other) ∙ none
]
plain_is_whole kinds.Comment t none = none
plain_is_whole kinds.Encoding t none = none
plain_is_whole kinds.Op t none = none
plain_is_whole kinds.Nl t none = none
plain_is_whole kinds.Newline t none = none
plain_is_whole kinds.Indent t none = none
plain_is_whole kinds.Dedent t none = none
plain_is_whole kinds.EndMarker t none = none

-- a type whose tokens are literals
abbrev IsLiteral : Kind → Type 0
IsLiteral k = (k ≡ kinds.Number) ⊎ (k ≡ kinds.String)

-- the fault of what is no literal is the same in both
whole_is_plain : (k : Kind) (t : List ℕ) → (IsLiteral k → fault_of Plain k t ≡ None) → fault_of Whole k t ≡ None → fault_of Plain k t ≡ None
unfolding single_fault fault_by fault_of
whole_is_plain kinds.Number t literal none = literal (inl refl)
whole_is_plain kinds.Name t literal none = none
whole_is_plain kinds.String t literal none = literal (inr refl)
whole_is_plain kinds.Comment t literal none = none
whole_is_plain kinds.Encoding t literal none = none
whole_is_plain kinds.Op t literal none = none
whole_is_plain kinds.Nl t literal none = none
whole_is_plain kinds.Newline t literal none = none
whole_is_plain kinds.Indent t literal none = none
whole_is_plain kinds.Dedent t literal none = none
whole_is_plain kinds.EndMarker t literal none = none

abbrev IsPlain : Kind → List ℕ → Type 0
IsPlain k t = fault_of Plain k t ≡ None

abbrev Faultless : Token → Type 0
Faultless t = IsPlain t.kind t.text

supplied_faultless : IsPlain kinds.Newline []
unfolding single_fault fault_of
supplied_faultless = refl

abbrev entry : Kind → Option Exact → Place → Place → ℕ → ℕ → Entry
entry k x p q f t = record { kind = k; exact = x; start = p; «end» = q; «from» = f; to = t }

-- a literal gives its token
literal_token : (text : List ℕ) (b : Bool) (e : Entry) → All Faultless (tokens_of_entry text b e) → IsLiteral e.kind
    → IsPlain e.kind (text_of text e)
literal_token text b e all is = by_kind e.kind e.exact e.start e.«end» e.«from» e.to all is
  where
    by_kind : (k : Kind) (x : Option Exact) (p q : Place) (f t : ℕ)
        → All Faultless (tokens_of_entry text b (entry k x p q f t)) → IsLiteral k
        → IsPlain k (text_of text (entry k x p q f t))
    by_kind kinds.Number x p q f t all is = All-head Faultless _ [] all
    by_kind kinds.Name x p q f t all (inl is) = absurd cc
    by_kind kinds.Name x p q f t all (inr is) = absurd cc
    by_kind kinds.String x p q f t all is = All-head Faultless _ [] all
    by_kind kinds.Comment x p q f t all (inl is) = absurd cc
    by_kind kinds.Comment x p q f t all (inr is) = absurd cc
    by_kind kinds.Encoding x p q f t all (inl is) = absurd cc
    by_kind kinds.Encoding x p q f t all (inr is) = absurd cc
    by_kind kinds.Op x p q f t all (inl is) = absurd cc
    by_kind kinds.Op x p q f t all (inr is) = absurd cc
    by_kind kinds.Nl x p q f t all (inl is) = absurd cc
    by_kind kinds.Nl x p q f t all (inr is) = absurd cc
    by_kind kinds.Newline x p q f t all (inl is) = absurd cc
    by_kind kinds.Newline x p q f t all (inr is) = absurd cc
    by_kind kinds.Indent x p q f t all (inl is) = absurd cc
    by_kind kinds.Indent x p q f t all (inr is) = absurd cc
    by_kind kinds.Dedent x p q f t all (inl is) = absurd cc
    by_kind kinds.Dedent x p q f t all (inr is) = absurd cc
    by_kind kinds.EndMarker x p q f t all (inl is) = absurd cc
    by_kind kinds.EndMarker x p q f t all (inr is) = absurd cc

-- The entries of a source

All_front : (xs ys : List Token) → All Faultless (xs ++ ys) → All Faultless xs
All_front [] ys all = All-nil Faultless
All_front (x ∷ xs) ys all =
    All-cons Faultless x xs (All-head Faultless x (xs ++ ys) all) (All_front xs ys (All-tail Faultless x (xs ++ ys) all))

All_after : (xs ys : List Token) → All Faultless (xs ++ ys) → All Faultless ys
All_after [] ys all = all
All_after (x ∷ xs) ys all = All_after xs ys (All-tail Faultless x (xs ++ ys) all)

entry_faultless : (text : List ℕ) (e : Entry) (es : List Entry) → first_entry_refusal Plain text (e ∷ es) ≡ None
    → IsPlain e.kind (text_of text e)
entry_faultless text e es none =
    no_fault (fault_of Plain e.kind (text_of text e)) e.start
    (none_parts (entry_refusal Plain text e) (first_entry_refusal Plain text es) none).0

others_faultless : (text : List ℕ) (e : Entry) (es : List Entry) → first_entry_refusal Plain text (e ∷ es) ≡ None
    → first_entry_refusal Plain text es ≡ None
others_faultless text e es none = (none_parts (entry_refusal Plain text e) (first_entry_refusal Plain text es) none).1

also_whole : (text : List ℕ) (es : List Entry) → first_entry_refusal Plain text es ≡ None → first_entry_refusal Whole text es ≡ None
also_whole text [] none = refl
also_whole text (e ∷ es) none =
    none_from (entry_refusal Whole text e) (first_entry_refusal Whole text es)
    (not_faulty (fault_of Whole e.kind (text_of text e)) e.start (plain_is_whole e.kind (text_of text e) (entry_faultless text e es none)))
    (also_whole text es (others_faultless text e es none))

tokens_faultless : (text : List ℕ) (before es : List Entry) → first_entry_refusal Plain text es ≡ None
    → All Faultless (tokens_from text before es)
tokens_faultless text before [] none = All-nil Faultless
tokens_faultless text before (e ∷ es) none =
    All-append Faultless (tokens_of_entry text (is_open before) e) (tokens_from text (e ∷ before) es)
    (of_entry IsPlain supplied_faultless text (is_open before) e (entry_faultless text e es none))
    (tokens_faultless text (e ∷ before) es (others_faultless text e es none))

also_plain : (text : List ℕ) (before es : List Entry) → first_entry_refusal Whole text es ≡ None
    → All Faultless (tokens_from text before es)
    → first_entry_refusal Plain text es ≡ None
also_plain text before [] none all = refl
also_plain text before (e ∷ es) none all =
    let own = tokens_of_entry text (is_open before) e in
    let others = tokens_from text (e ∷ before) es in
    let parts = none_parts (entry_refusal Whole text e) (first_entry_refusal Whole text es) none in
    let whole = no_fault (fault_of Whole e.kind (text_of text e)) e.start parts.0 in
    let plain = whole_is_plain e.kind (text_of text e) (literal_token text (is_open before) e (All_front own others all)) whole in
    none_from (entry_refusal Plain text e) (first_entry_refusal Plain text es)
    (not_faulty (fault_of Plain e.kind (text_of text e)) e.start plain)
    (also_plain text (e ∷ before) es parts.1 (All_after own others all))

pub extents_differ_in_numbers : (s : Source) → ExtentsDifferInNumbers s
unfolding tokens refusal_at
extents_differ_in_numbers s =
    let es = entries_of (listing s) in
    let fault = listing_fault (listing s) in
    let plain = refusal_of Plain most_brackets s.text es in
    let whole = refusal_of Whole most_brackets s.text es in
    let later = option_or (first_too_deep most_brackets [] es) (first_mixed [] (margins s.text es)) in
    let plain_entries = first_entry_refusal Plain s.text es in
    let whole_entries = first_entry_refusal Whole s.text es in (
      λ none.
          let parts = none_parts plain_entries later (not_refused fault plain none) in (
            as_refused fault plain whole none (none_from whole_entries later (also_whole s.text es parts.0) parts.1),
            tokens_faultless s.text [] es parts.0,
          ),
      λ both.
          let parts = none_parts whole_entries later (not_refused fault whole both.0) in
          as_refused fault whole plain both.0 (none_from plain_entries later (also_plain s.text [] es parts.0 both.1) parts.1),
    )
