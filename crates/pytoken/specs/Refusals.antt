-- Why a source has no tokens: the first of these that stands.
use Rattle.std.specs.Prelude.{ℕ, ◌+◌, ◌-◌, Bool, nat_lt, ◌&&◌, List, [], ◌∷◌, count_by, Option, Some, None, if◌then◌else◌}
use Rattle.pylex_listing.specs.declared.entries.Entry.{Entry}
use Rattle.pylex_listing.specs.Listing.{Source, listing}
use Rattle.pylex_listing.specs.Steps.{entries_of, fault_of as listing_fault}
use Rattle.pytree_node.specs.declared.profiles.Extent.{Extent}
use Rattle.pytoken.specs.declared.refusals.Refusal.{Refusal}
use Rattle.pytoken.specs.declared.refusals.Refusal.TheVariants as refusals
use Rattle.pytoken.specs.Brackets.{opens, closes}
use Rattle.pytoken.specs.Indentation.{Margin, margins, is_mixed}
use Rattle.pytoken.specs.Tokens.{text_of}
use Rattle.pytoken.specs.Terminals.{fault_of}
use Rattle.std.specs.Option.{option_or}

-- the most brackets that may be open at once
abbrev pub most_brackets : ℕ
most_brackets = 600

-- an entry opens one bracket more than may be open, after those before it
abbrev pub opens_too_many : ℕ → List Entry → Entry → Bool
opens_too_many most before e = opens e && nat_lt most (count_by opens before + 1 - count_by closes before)

-- the fault of an entry by itself
abbrev pub entry_refusal : Extent → List ℕ → Entry → Option Refusal
entry_refusal extent text e = elim (fault_of extent e.kind (text_of text e)) [ Some x ↦ Some (refusals.Token x e.start) | None ↦ None ]

-- the first entry that has one
abbrev pub first_entry_refusal : Extent → List ℕ → List Entry → Option Refusal
first_entry_refusal extent text [] = None
first_entry_refusal extent text (e ∷ es) = option_or (entry_refusal extent text e) (first_entry_refusal extent text es)

-- an entry that opens too many brackets
abbrev pub bracket_refusal : ℕ → List Entry → Entry → Option Refusal
bracket_refusal most before e = if opens_too_many most before e then Some (refusals.TooDeep e.start) else None

-- the first such entry; the entries before stand last first
abbrev pub first_too_deep : ℕ → List Entry → List Entry → Option Refusal
first_too_deep most before [] = None
first_too_deep most before (e ∷ es) = option_or (bracket_refusal most before e) (first_too_deep most (e ∷ before) es)

-- the first logical line whose indentation depends on how wide a tab is; the lines before stand last first
abbrev pub margin_refusal : List Margin → Margin → Option Refusal
margin_refusal earlier m = if is_mixed earlier m then Some (refusals.MixedTabs m.start) else None

abbrev pub first_mixed : List Margin → List Margin → Option Refusal
first_mixed earlier [] = None
first_mixed earlier (m ∷ ms) = option_or (margin_refusal earlier m) (first_mixed (m ∷ earlier) ms)

-- The refusal of a source whose listing comes to its end: by the first entry with a fault of its own; else by the first bracket too many;
-- else by the first line of mixed tabs and spaces.
abbrev pub refusal_of : Extent → ℕ → List ℕ → List Entry → Option Refusal
refusal_of extent most text es =
    option_or (first_entry_refusal extent text es) (option_or (first_too_deep most [] es) (first_mixed [] (margins text es)))

-- the listing's fault, or else one of these
unfoldable pub refusal_at : Extent → ℕ → Source → Option Refusal
refusal_at extent most s = elim (listing_fault (listing s)) [
  | Some f ↦ Some (refusals.Listing f)
  | None ↦ refusal_of extent most s.text (entries_of (listing s))
]

abbrev pub refusal : Extent → Source → Option Refusal
refusal extent = refusal_at extent most_brackets
