-- On: the offset of a token is that of its entry.
--
-- Carries: what pyparse_tokens cites.
use Rattle.std.proofs.Common.{◌≡◌, ℕ, true, List, sym, ap, ◌∙◌}
use Rattle.std.specs.Prelude.{All}
use Rattle.pysource.specs.declared.places.Place.{Place}
use Rattle.pylex_listing.specs.declared.entries.Entry.{Entry}
use Rattle.pylex_listing.specs.Listing.{Source, listing}
use Rattle.pylex_listing.specs.Machine.{place_past}
use Rattle.pylex_listing.specs.Steps.{entries_of}
use Rattle.pyfstring_tokens.specs.FieldTokens.{is_token_kind}
use Rattle.pyparse_marks.specs.LineSpans.{offset}
use Rattle.pyparse_marks.proofs.PlaceLemmas.{spot_at, offset_is}
use Rattle.pyparse_marks.proofs.Placing.{IsPlaced, entries_placed}

-- an entry of this text that is a token of a line starts where its offset says
abbrev pub StartsAt : List ℕ → Entry → Type 0
StartsAt text e = is_token_kind e.kind ≡ true → offset e.start.row e.start.column text ≡ e.«from»

starts : (text : List ℕ) (e : Entry) → IsPlaced text e → StartsAt text e
starts text e placed is =
    let p = placed is in
    let q = place_past (spot_at 1 0) p.earlier in
    ap (λ (r : Place). offset r.row r.column text) p.place ∙ ap (offset q.row q.column) p.whole
    ∙ offset_is p.earlier p.following ∙ sym p.begins

pub tokens_start : (s : Source) → All (StartsAt s.text) (entries_of (listing s))
tokens_start s k d within = starts s.text _ (entries_placed s k d within)
