-- The first comment of what a reader gives.
use Rattle.std.specs.Prelude.{◌≡◌, ◌⊎◌, ℕ, Bool, true, false, List, ◌++◌, Option, option_map, find, Ok, String, string_bytes}
use Rattle.std.specs.declared.alloc.Global.{Global}
use Rattle.pysource.specs.Bytes.{Seen}
use Rattle.pysource.specs.Parts.{Parts}
use Rattle.pysource.specs.Streams.{Buffered, stream_of, Refuses}
use Rattle.pysource.specs.Taking.{ReadsBytes}
use Rattle.pysource.specs.declared.line_reader.Reach.TheVariants.{Reading}
use Rattle.pysource.specs.declared.line_reader.StreamFault.{StreamFault}
use Rattle.pysource.specs.declared.line_reader.StreamFault.TheVariants.{Memory}
use Rattle.pylex_listing.specs.declared.entries.Entry.{Entry}
use Rattle.pylex_listing.specs.declared.kind.Kind.TheVariants as kinds
use Rattle.pylex_listing.specs.Listing.{in_characters, listing}
use Rattle.pylex_listing.specs.ListingLines.{text_of}
use Rattle.pylex_listing.specs.Steps.{entries_of}
use Rattle.pylex.specs.Streamed.{Continues}

-- the type of an entry is COMMENT
abbrev pub is_comment : Entry → Bool
is_comment e = elim e.kind [ kinds.Comment ↦ true | _ ↦ false ]

-- the text of the first comment of a source, if it has one before its end or its fault
abbrev pub first_comment_of : Parts → Option (List ℕ)
first_comment_of p = option_map (text_of p) (find is_comment (entries_of (listing (in_characters p))))

-- From a reader bytes were taken, and whatever may follow them, this is the first comment of the source.
pub record Finds (seen : Seen) (found : Option (String Global)) : Type 0 where
  pub seen_new : Seen
  pub taken : List ℕ
  pub lines : Buffered
  pub reads : ReadsBytes seen seen_new Reading lines.reach 0 lines.count taken
  pub is : (more : List ℕ) (broken : Bool) → Continues lines more broken → (p : Parts) × (stream_of broken (taken ++ more) ≡ Ok p) ×
      (first_comment_of p ≡ option_map (λ t. string_bytes t) found)

-- there was no memory, or the reader gives no source
abbrev pub FindsNone : Seen → StreamFault → Type 0
FindsNone seen fault = (fault ≡ Memory) ⊎ ((seen_new : Seen) × Refuses seen seen_new fault)
