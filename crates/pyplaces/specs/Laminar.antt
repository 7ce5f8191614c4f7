-- Spans of which one holds the other, or which stand one after the other.
use Rattle.std.specs.Prelude.{◌≡◌, ◌⊎◌, ℕ, zero, suc, ◌-◌, ◌≤◌, Bool, true, false, ◌&&◌, nat_le, List, [], ◌∷◌, ◌++◌, length}
use Rattle.std.specs.List.{list_any}
use Rattle.pytree_node.specs.declared.profiles.Profile.{Profile}
use Rattle.pytoken.specs.FormattedStrings.{is_fstring}
use Rattle.pytoken.specs.Terminals.{terminals_of}
use Rattle.pytoken.specs.Tokens.{Token, Line}
use Rattle.pyparse_marks.specs.Spans.{Span}
use Rattle.pygrammar.specs.Lines as Lines
use Rattle.pygrammar.specs.Refusals.{Formed, formed_end, formed_line}
use Rattle.pyplaces.specs.Stretches.{Stretch, span_of}
use Rattle.pyplaces.specs.FormPlaces.{FormPlaces, places_at}
use Rattle.pyplaces.specs.Laws.{Contains}

pub data IsAmong (s : Span) : List Span → Type 0 where
  at_front : {ss : List Span} → IsAmong s (s ∷ ss)
  further_on : {t : Span} {ss : List Span} → IsAmong s ss → IsAmong s (t ∷ ss)

-- one holds the other, or one ends no later than the other begins
pub data AreClearSpans (s t : Span) : Type 0 where
  holds_it : s.start ≤ t.start → t.stop ≤ s.stop → AreClearSpans s t
  held_by_it : t.start ≤ s.start → s.stop ≤ t.stop → AreClearSpans s t
  ends_first : s.stop ≤ t.start → AreClearSpans s t
  begins_after : t.stop ≤ s.start → AreClearSpans s t

-- ---- Places that begin or end within a token, an f-string.

-- whether so many of the terminals of some tokens are those of whole tokens
abbrev pub are_whole : List Token → ℕ → Bool
are_whole ts zero = true
are_whole [] (suc n) = false
are_whole (t ∷ ts) (suc n) =
    let k = length (terminals_of t.kind t.text) in nat_le k (suc n) && are_whole ts (suc n - k)

abbrev pub is_of_tokens : List Token → Stretch → Bool
is_of_tokens ts p = are_whole ts p.first && are_whole ts p.following

abbrev pub has_fstring : List Token → Bool
has_fstring ts = list_any (λ t. is_fstring t.kind t.text) ts

-- the span of such a place: given are the tokens of its line, the spans of their terminals, and the places
pub record StandsInAField (ts : List Token) (ss : List Span) (ps : List Stretch) (s : Span) : Type 0 where
  pub place : Stretch
  pub stands : Contains place ps
  pub is : s ≡ span_of ss place
  pub parts : is_of_tokens ts place ≡ false
  pub fstring : has_fstring ts ≡ true

abbrev pub places_in_line : FormPlaces → List Stretch
places_in_line f = (f.before ++ f.following) ++ f.suite

-- both are such, in one line
abbrev pub StandInFields : {profile : Profile} {earlier : List Lines.Line} {xs : List Line} {ys : List Lines.Line} → (Line → List Span)
    → Formed profile earlier xs ys → Span → Span → Type 0
StandInFields spans formed_end s t = ⊥
StandInFields spans (formed_line {x = x} h r) s t =
    let ps = places_in_line (places_at h.is) in
    (StandsInAField x.tokens (spans x) ps s × StandsInAField x.tokens (spans x) ps t) ⊎ StandInFields spans r s t

abbrev pub AreClearIn : {profile : Profile} {earlier : List Lines.Line} {xs : List Line} {ys : List Lines.Line} → (Line → List Span)
    → Formed profile earlier xs ys → Span → Span → Type 0
AreClearIn spans f s t = AreClearSpans s t ⊎ StandInFields spans f s t
