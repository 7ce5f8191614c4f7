-- On: what holds of an entry's type and text holds of its tokens, and what a source says that isn't
-- refused.
--
-- Carries: tokens_are_sound, extents_differ_in_numbers, for Sound, Extents.
use Rattle.std.proofs.Common.{◌≡◌, ℕ, Bool, true, false, cond, List, [], ◌∷◌, refl, Option, Some, None}
use Rattle.std.specs.Prelude.{slice_range, All}
use Rattle.std.specs.Str.{chars, encode_utf8_all}
use Rattle.std.specs.Option.{option_or}
use Rattle.std.proofs.lemmas.List.Elements.{All-nil, All-cons}
use Rattle.pysource.specs.declared.places.Place.{Place}
use Rattle.pylex_lexeme.specs.declared.kinds.Exact.{Exact}
use Rattle.pylex_listing.specs.declared.kind.Kind.{Kind}
use Rattle.pylex_listing.specs.declared.kind.Kind.TheVariants as kinds
use Rattle.pylex_listing.specs.declared.entries.Entry.{Entry}
use Rattle.pylex_listing.specs.declared.entries.ListingFault.{ListingFault}
use Rattle.pytoken.specs.declared.faults.TokenError.{TokenError}
use Rattle.pytoken.specs.declared.refusals.Refusal.{Refusal}
use Rattle.pytoken.specs.declared.refusals.Refusal.TheVariants as refusals
use Rattle.pytoken.specs.Tokens.{Token, text_of, supplied, tokens_of_entry}

-- The tokens of an entry

abbrev token : Kind → Place → List ℕ → Token
token k p t = record { kind = k; start = p; text = t }

abbrev between : List ℕ → ℕ → ℕ → List ℕ
between text f t = chars (slice_range (encode_utf8_all text) f t)

-- a fact about types and texts, which holds of a NEWLINE without text
module _ (P : Kind → List ℕ → Type 0) (of_supplied : P kinds.Newline []) where
  abbrev pub Holds : Token → Type 0
  Holds t = P t.kind t.text

  one : (k : Kind) (p : Place) (t : List ℕ) → P k t → All Holds (token k p t ∷ [])
  one k p t own = All-cons Holds (token k p t) [] own (All-nil Holds)

  one_if : (b : Bool) (k : Kind) (p : Place) (t : List ℕ) → P k t → All Holds (cond b (token k p t ∷ []) [])
  one_if true k p t own = one k p t own
  one_if false k p t own = All-nil Holds

  two_if : (b : Bool) (text : List ℕ) (k : Kind) (p : Place) (t : List ℕ) → P k t
      → All Holds (cond b (supplied text ∷ token k p t ∷ []) (token k p t ∷ []))
  two_if true text k p t own = All-cons Holds (supplied text) (token k p t ∷ []) of_supplied (one k p t own)
  two_if false text k p t own = one k p t own

  pub of_entry : (text : List ℕ) (b : Bool) (e : Entry) → P e.kind (text_of text e) → All Holds (tokens_of_entry text b e)
  of_entry text b e own = by_kind e.kind e.exact e.start e.«end» e.«from» e.to own
    where
      by_kind : (k : Kind) (x : Option Exact) (p q : Place) (f t : ℕ) → P k (between text f t)
          → All Holds (tokens_of_entry text b (record { kind = k; exact = x; start = p; «end» = q; «from» = f; to = t }))
      by_kind kinds.Encoding x p q f t own = All-nil Holds
      by_kind kinds.Comment x p q f t own = All-nil Holds
      by_kind kinds.Nl x p q f t own = All-nil Holds
      by_kind kinds.Newline x p q f t own = one_if b kinds.Newline p (between text f t) own
      by_kind kinds.Dedent x p q f t own = two_if b text kinds.Dedent p (between text f t) own
      by_kind kinds.EndMarker x p q f t own = two_if b text kinds.EndMarker p (between text f t) own
      by_kind kinds.Name x p q f t own = one kinds.Name p (between text f t) own
      by_kind kinds.Number x p q f t own = one kinds.Number p (between text f t) own
      by_kind kinds.String x p q f t own = one kinds.String p (between text f t) own
      by_kind kinds.Op x p q f t own = one kinds.Op p (between text f t) own
      by_kind kinds.Indent x p q f t own = one kinds.Indent p (between text f t) own

-- No refusal

pub none_parts : (a b : Option Refusal) → option_or a b ≡ None → (a ≡ None) × (b ≡ None)
none_parts (Some r) b h = absurd cc
none_parts None b h = (refl, h)

pub none_from : (a b : Option Refusal) → a ≡ None → b ≡ None → option_or a b ≡ None
none_from (Some r) b h k = absurd cc
none_from None b h k = k

abbrev refusal_by : Option TokenError → Place → Option Refusal
refusal_by o p = elim o [ Some x ↦ Some (refusals.Token x p) | None ↦ None ]

pub no_fault : (o : Option TokenError) (p : Place) → refusal_by o p ≡ None → o ≡ None
no_fault (Some x) p h = absurd cc
no_fault None p h = refl

pub not_faulty : (o : Option TokenError) (p : Place) → o ≡ None → refusal_by o p ≡ None
not_faulty (Some x) p h = absurd cc
not_faulty None p h = refl

abbrev refusal_after : Option ListingFault → Option Refusal → Option Refusal
refusal_after o r = elim o [ Some f ↦ Some (refusals.Listing f) | None ↦ r ]

pub not_refused : (o : Option ListingFault) (r : Option Refusal) → refusal_after o r ≡ None → r ≡ None
not_refused (Some f) r h = absurd cc
not_refused None r h = h

-- where one of two isn't refused after a listing, the other isn't where it isn't by itself
pub as_refused : (o : Option ListingFault) (r q : Option Refusal) → refusal_after o r ≡ None → q ≡ None → refusal_after o q ≡ None
as_refused (Some f) r q h k = absurd cc
as_refused None r q h k = k
