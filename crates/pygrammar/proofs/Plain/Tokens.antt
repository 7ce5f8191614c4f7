-- All tokens of a source are plain where those of its lines are, and it has no refusal in the plain
-- language where it has none in the whole one and its tokens are plain.
--
-- Carries: lines_said, faultless_said, plain_refusal, for Law. On: Numbers, OpenLines.
use Rattle.std.proofs.Common.{◌≡◌, refl, sym, ap, ◌∙◌, ℕ, Bool, true, false, ◌&&◌, List, [], ◌∷◌, ◌++◌, Option, Some, None}
use Rattle.std.proofs.Common.{if◌then◌else◌}
use Rattle.std.specs.Prelude.{All}
use Rattle.std.specs.List.{list_all, flat_map}
use Rattle.std.specs.Option.{option_or}
use Rattle.std.proofs.lemmas.Bool.{and_parts, not-true}
use Rattle.std.proofs.lemmas.List.Elements.{All-head, All-tail}
use Rattle.std.proofs.lemmas.List.Folds.{list_all-append}
use Rattle.pysource.specs.declared.places.Place.{Place}
use Rattle.pylex_lexeme.specs.declared.kinds.Exact.{Exact}
use Rattle.pylex_listing.specs.declared.kind.Kind.{Kind}
use Rattle.pylex_listing.specs.declared.kind.Kind.TheVariants as kinds
use Rattle.pylex_listing.specs.declared.entries.Entry.{Entry}
use Rattle.pylex_listing.specs.declared.entries.ListingFault.{ListingFault}
use Rattle.pylex_listing.specs.Listing.{Source, listing}
use Rattle.pylex_listing.specs.Steps.{entries_of, fault_of as listing_fault}
use Rattle.pytree_node.specs.declared.profiles.Extent.TheVariants.{Plain, Whole}
use Rattle.pytoken.specs.declared.faults.TokenError.{TokenError}
use Rattle.pytoken.specs.declared.refusals.Refusal.{Refusal}
use Rattle.pytoken.specs.declared.refusals.Refusal.TheVariants as refusals
use Rattle.pytoken.specs.Indentation.{margins}
use Rattle.pytoken.specs.Terminals.{terminal_of, single_fault, terminals_by, terminals_of, fault_by, fault_of}
use Rattle.pytoken.specs.Tokens.{Token, token_of, text_of, supplied, is_open, tokens_of_entry, tokens_from, tokens, lines_from, lines}
use Rattle.pytoken.specs.Tokens as Tokens
use Rattle.pytoken.specs.Refusals.{most_brackets, entry_refusal, first_entry_refusal, first_too_deep, first_mixed, refusal_of, refusal_at}
use Rattle.pytoken.specs.Refusals.{refusal}
use Rattle.pygrammar.specs.Refusals.{terminals}
use Rattle.pygrammar.proofs.Plain.Terminals.{is_terminal_plain, and_both}
use Rattle.pygrammar.proofs.Plain.Numbers.{is_token_plain, faultless_plain, plain_faultless}
use Rattle.pygrammar.proofs.Plain.OpenLines.{next, may_stand, Fit, listing_fits}

-- ---- The tokens of lines.

abbrev pub are_terminals_plain : Tokens.Line → Bool
are_terminals_plain x = list_all is_terminal_plain (terminals x)

-- whether the tokens of a line so far and those after it are plain, and whether the lines that they make are
abbrev Said : List Token → List Token → List Token → Type 0
Said seen line ts = list_all are_terminals_plain (lines_from seen line ts) ≡ list_all is_token_plain line && list_all is_token_plain ts

-- a line that isn't open has no token yet
abbrev IsEmpty : Bool → List Token → Type 0
IsEmpty begun line = begun ≡ false → line ≡ []

open_line : (line : List Token) → IsEmpty true line
open_line line h = absurd cc

line_said : (line : List Token) → list_all is_terminal_plain (flat_map (λ t. terminals_of t.kind t.text) line) ≡
    list_all is_token_plain line
line_said [] = refl
line_said (t ∷ ts) =
    list_all-append is_terminal_plain (terminals_of t.kind t.text) (flat_map (λ t. terminals_of t.kind t.text) ts)
    ∙ ap (λ z. is_token_plain t && z) (line_said ts)

-- a line that comes to its end
ended_said : (line seen ts : List Token) → Said seen [] ts
    → list_all is_terminal_plain (flat_map (λ t. terminals_of t.kind t.text) line) && list_all are_terminals_plain (lines_from seen [] ts)
    ≡ list_all is_token_plain line && list_all is_token_plain ts
ended_said line seen ts h = and_both (line_said line) h

-- a token more
more_said : (line : List Token) (t : Token) (rest : Bool) → list_all is_token_plain (line ++ t ∷ []) && rest ≡ list_all is_token_plain line
    && (is_token_plain t && rest)
more_said line t rest = ap (λ z. z && rest) (list_all-append is_token_plain line (t ∷ []))
    ∙ regroup (list_all is_token_plain line) (is_token_plain t)
  where
    regroup : (a b : Bool) → (a && (b && true)) && rest ≡ a && (b && rest)
    regroup true true = refl
    regroup true false = refl
    regroup false b = refl

abbrev entry : Kind → Option Exact → Place → Place → ℕ → ℕ → Entry
entry k x p q f t = record { kind = k; exact = x; start = p; «end» = q; «from» = f; to = t }

module _ (text : List ℕ) (es before : List Entry) (seen line : List Token)
    (ih : (before : List Entry) (seen line : List Token) → Fit (is_open before) es → IsEmpty (is_open before) line
    → Said seen line (tokens_from text before es))
    (h : IsEmpty (is_open before) line) where
  one : (k : Kind) (x : Option Exact) (p q : Place) (f t : ℕ) → may_stand k (is_open before) ≡ true → Fit (next k (is_open before)) es
      → Said seen line (tokens_from text before (entry k x p q f t ∷ es))
  unfolding terminal_of terminals_by
  one kinds.Encoding x p q f t m k = ih (entry kinds.Encoding x p q f t ∷ before) seen line k (λ _. h (not-true (is_open before) m))
  one kinds.Comment x p q f t m k = ih (entry kinds.Comment x p q f t ∷ before) seen line k h
  one kinds.Nl x p q f t m k = ih (entry kinds.Nl x p q f t ∷ before) seen line k h
  one kinds.Newline x p q f t m k =
      let e = entry kinds.Newline x p q f t in
      let u = token_of text e in
      elim (is_open before) as (λ b. IsEmpty b line → Said seen line ((if b then u ∷ [] else []) ++ tokens_from text (e ∷ before) es)) [
        | true ↦ λ o. ended_said line (u ∷ seen) (tokens_from text (e ∷ before) es) (ih (e ∷ before) (u ∷ seen) [] k (λ _. refl))
        | false ↦ λ o. ih (e ∷ before) seen line k o
      ] h
  one kinds.Indent x p q f t m k =
      let e = entry kinds.Indent x p q f t in ih (e ∷ before) (token_of text e ∷ seen) line k (λ _. h (not-true (is_open before) m))
  one kinds.Dedent x p q f t m k =
      let e = entry kinds.Dedent x p q f t in
      let u = token_of text e in
      elim (is_open before) as (λ b. IsEmpty b line
      → Said seen line ((if b then supplied text ∷ u ∷ [] else u ∷ []) ++ tokens_from text (e ∷ before) es)) [
        | true ↦ λ o. ended_said line (u ∷ supplied text ∷ seen) (tokens_from text (e ∷ before) es)
            (ih (e ∷ before) (u ∷ supplied text ∷ seen) [] k (λ _. refl))
        | false ↦ λ o. ih (e ∷ before) (u ∷ seen) line k o
      ] h
  one kinds.EndMarker x p q f t m k =
      let e = entry kinds.EndMarker x p q f t in
      let u = token_of text e in
      elim (is_open before) as (λ b. IsEmpty b line
      → Said seen line ((if b then supplied text ∷ u ∷ [] else u ∷ []) ++ tokens_from text (e ∷ before) es)) [
        | true ↦ λ o. ended_said line (u ∷ supplied text ∷ seen) (tokens_from text (e ∷ before) es)
            (ih (e ∷ before) (u ∷ supplied text ∷ seen) [] k (λ _. refl))
        | false ↦ λ o. ih (e ∷ before) (u ∷ seen) line k o
      ] h
  one kinds.Name x p q f t m k =
      let e = entry kinds.Name x p q f t in
      let u = token_of text e in
      ih (e ∷ before) (u ∷ seen) (line ++ u ∷ []) k (open_line (line ++ u ∷ []))
      ∙ more_said line u (list_all is_token_plain (tokens_from text (e ∷ before) es))
  one kinds.Number x p q f t m k =
      let e = entry kinds.Number x p q f t in
      let u = token_of text e in
      ih (e ∷ before) (u ∷ seen) (line ++ u ∷ []) k (open_line (line ++ u ∷ []))
      ∙ more_said line u (list_all is_token_plain (tokens_from text (e ∷ before) es))
  one kinds.String x p q f t m k =
      let e = entry kinds.String x p q f t in
      let u = token_of text e in
      ih (e ∷ before) (u ∷ seen) (line ++ u ∷ []) k (open_line (line ++ u ∷ []))
      ∙ more_said line u (list_all is_token_plain (tokens_from text (e ∷ before) es))
  one kinds.Op x p q f t m k =
      let e = entry kinds.Op x p q f t in
      let u = token_of text e in
      ih (e ∷ before) (u ∷ seen) (line ++ u ∷ []) k (open_line (line ++ u ∷ []))
      ∙ more_said line u (list_all is_token_plain (tokens_from text (e ∷ before) es))

all_said : (text : List ℕ) (es before : List Entry) (seen line : List Token) → Fit (is_open before) es → IsEmpty (is_open before) line
    → Said seen line (tokens_from text before es)
all_said text [] before seen line k h = sym (ap (λ z. list_all is_token_plain z && true) (h k))
all_said text (e ∷ es) before seen line k h = one text es before seen line (all_said text es) h e.kind e.exact e.start
    e.«end» e.«from» e.to k.0 k.1

pub lines_said : (s : Source) → listing_fault (listing s) ≡ None → list_all are_terminals_plain (lines s) ≡ list_all
    is_token_plain (tokens s)
unfolding tokens lines
lines_said s h = all_said s.text (entries_of (listing s)) [] [] [] (listing_fits s h) (λ _. refl)

-- ---- Faults.

abbrev Faultless : Token → Type 0
Faultless t = fault_of Plain t.kind t.text ≡ None

pub faultless_said : (ts : List Token) → All Faultless ts → list_all is_token_plain ts ≡ true
faultless_said [] h = refl
faultless_said (t ∷ ts) h = and_both (faultless_plain t.kind t.text (All-head Faultless t ts h))
    (faultless_said ts (All-tail Faultless t ts h))

none_parts : (a b : Option Refusal) → option_or a b ≡ None → (a ≡ None) × (b ≡ None)
none_parts (Some r) b h = absurd cc
none_parts None b h = (refl, h)

none_from : (a b : Option Refusal) → a ≡ None → b ≡ None → option_or a b ≡ None
none_from (Some r) b h k = absurd cc
none_from None b h k = k

abbrev refusal_by : Option TokenError → Place → Option Refusal
refusal_by o p = elim o [ Some x ↦ Some (refusals.Token x p) | None ↦ None ]

no_fault : (o : Option TokenError) (p : Place) → refusal_by o p ≡ None → o ≡ None
no_fault (Some x) p h = absurd cc
no_fault None p h = refl

-- a literal that is plain has no fault in the plain language, if it has none in the whole one
literal_plain : (text : List ℕ) (e : Entry) → list_all is_token_plain (token_of text e ∷ []) ≡ true → entry_refusal Whole text e ≡ None
    → entry_refusal Plain text e ≡ None
literal_plain text e h n =
    let own = text_of text e in
    let plain = (and_parts (is_token_plain (token_of text e)) true h).0 in
    ap (λ o. refusal_by o e.start) (plain_faultless e.kind own plain (no_fault (fault_of Whole e.kind own) e.start n))

-- an entry whose tokens are plain has no fault in the plain language, if it has none in the whole one
entry_plain : (text : List ℕ) (b : Bool) (k : Kind) (x : Option Exact) (p q : Place) (f t : ℕ)
    → list_all is_token_plain (tokens_of_entry text b (entry k x p q f t)) ≡ true
    → entry_refusal Whole text (entry k x p q f t) ≡ None → entry_refusal Plain text (entry k x p q f t) ≡ None
unfolding single_fault fault_by fault_of
entry_plain text b kinds.Number x p q f t h n = literal_plain text (entry kinds.Number x p q f t) h n
entry_plain text b kinds.String x p q f t h n = literal_plain text (entry kinds.String x p q f t) h n
entry_plain text b _ x p q f t h n = n

plain_entries : (text : List ℕ) (before es : List Entry) → list_all is_token_plain (tokens_from text before es) ≡ true
    → first_entry_refusal Whole text es ≡ None → first_entry_refusal Plain text es ≡ None
plain_entries text before [] h n = refl
plain_entries text before (e ∷ es) h n =
    let own = tokens_of_entry text (is_open before) e in
    let others = tokens_from text (e ∷ before) es in
    let parts = and_parts (list_all is_token_plain own) (list_all is_token_plain others)
    (sym (list_all-append is_token_plain own others) ∙ h) in
    let none = none_parts (entry_refusal Whole text e) (first_entry_refusal Whole text es) n in
    none_from (entry_refusal Plain text e) (first_entry_refusal Plain text es)
    (entry_plain text (is_open before) e.kind e.exact e.start e.«end» e.«from» e.to parts.0 none.0)
    (plain_entries text (e ∷ before) es parts.1 none.1)

abbrev refusal_after : Option ListingFault → Option Refusal → Option Refusal
refusal_after o r = elim o [ Some f ↦ Some (refusals.Listing f) | None ↦ r ]

as_refused : (o : Option ListingFault) (r q : Option Refusal) → (r ≡ None → q ≡ None) → refusal_after o r ≡ None
    → refusal_after o q ≡ None
as_refused (Some f) r q h k = absurd cc
as_refused None r q h k = h k

pub plain_refusal : (s : Source) → list_all is_token_plain (tokens s) ≡ true → refusal Whole s ≡ None → refusal Plain s ≡ None
unfolding tokens refusal_at
plain_refusal s h n =
    let es = entries_of (listing s) in
    let later = option_or (first_too_deep most_brackets [] es) (first_mixed [] (margins s.text es)) in
    as_refused (listing_fault (listing s)) (refusal_of Whole most_brackets s.text es) (refusal_of Plain most_brackets s.text es) (λ k.
    let parts = none_parts (first_entry_refusal Whole s.text es) later k in
    none_from (first_entry_refusal Plain s.text es) later (plain_entries s.text [] es h parts.0) parts.1) n
