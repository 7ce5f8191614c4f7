-- What `tokens` writes of a source, and the fault that it tells.
use Rattle.std.specs.Prelude.{ℕ, ◌+◌, ◌-◌, nat_le, nat_lt, ◌==◌, Bool, true, false, not, ◌&&◌, if◌then◌else◌, List, [], ◌∷◌, ◌++◌, length}
use Rattle.std.specs.Prelude.{take, Option, Some, None, Result, Ok, Err, codes, option_map}
use Rattle.std.specs.List.{flat_map}
use Rattle.pysource.specs.Parts.{Parts}
use Rattle.pysource.specs.Streams.{stream_of}
use Rattle.pysource.specs.declared.line_reader.StreamFault.{StreamFault}
use Rattle.pylex_listing.specs.declared.entries.Entry.{Entry}
use Rattle.pylex_listing.specs.declared.entries.Step.{Step}
use Rattle.pylex_listing.specs.declared.kind.Kind.{Kind}
use Rattle.pylex_listing.specs.declared.kind.Kind.TheVariants.{EndMarker}
use Rattle.pylex.specs.Cursors.{CursorParts, cursor, cursor_text}
use Rattle.pylex_listing.specs.Listing.{Source, listing, rest, in_characters}
use Rattle.pylex.specs.Standing.{is_cursor_of}
use Rattle.pylex_listing.specs.Steps.{entries_of, fault_of}
use Rattle.pylex_listing.specs.ListingLines.{listing_line, text_of}
use Rattle.pylex.specs.Streamed.{is_unread_code}
use Rattle.pyast_fault.specs.Faults.{of_listing, of_stream}
use Rattle.pyast_fault.specs.declared.fault.RunFaultCode.{RunFaultCode}
use Rattle.pyast_fault.specs.declared.fault.RunFaultCode.TheVariants.{Read, CursorOfAnotherSource}
use Rattle.pyast_fault.specs.declared.fault.Fault.{Fault}
use Rattle.pyast_fault.specs.declared.fault.Fault.TheVariants.{Plain}
use Rattle.pyast_words.specs.declared.command.Tokens.{Tokens}

-- the printed lines of entries of a source
abbrev pub lines_of : Bool → Parts → List Entry → List ℕ
lines_of exact p es = flat_map (λ e. listing_line exact e (text_of p e)) es

-- the line of a cursor: `cursor TEXT`
abbrev pub cursor_line : CursorParts → List ℕ
cursor_line c = codes "cursor " ++ (cursor_text c ++ codes "\n")

-- whether a kind is ENDMARKER
abbrev pub is_marker : Kind → Bool
is_marker EndMarker = true
is_marker kind = false

-- the last of entries is ENDMARKER
abbrev pub ends_in_marker : List Entry → Bool
ends_in_marker [] = false
ends_in_marker (e ∷ []) = is_marker e.kind
ends_in_marker (e ∷ d ∷ es) = ends_in_marker (d ∷ es)

-- a count stops a listing of entries: there are as many, and the last of those is not ENDMARKER
abbrev pub stops_after : ℕ → List Entry → Bool
stops_after n es = nat_le n (length es) && not (ends_in_marker (take n es))

-- what is written of a source after its first k entries: the lines of all the others, or, where a count stops it, those of as many and
-- that of the cursor after them
abbrev pub output_from : Bool → Parts → Option ℕ → ℕ → List ℕ
output_from exact p None k = lines_of exact p (entries_of (rest (in_characters p) k))
output_from exact p (Some n) k =
    let es = entries_of (rest (in_characters p) k) in
    if stops_after n es then lines_of exact p (take n es) ++ cursor_line (cursor (in_characters p) (k + n)) else lines_of exact p es

-- how many entries may still be listed after one of this kind: without a count all, and so too where the last that it allows is ENDMARKER
abbrev pub left_after : Option ℕ → Kind → Option ℕ
left_after None kind = None
left_after (Some n) kind = if (n == 1) && is_marker kind then None else Some (n - 1)

-- the fault that is told of steps, if they end by one
abbrev pub told_of : List Step → Option Fault
told_of steps = option_map of_listing (fault_of steps)

-- the fault that is told of a source after its first k entries: none where a count stops it
abbrev pub fault_from : Parts → Option ℕ → ℕ → Option Fault
fault_from p None k = told_of (rest (in_characters p) k)
fault_from p (Some n) k = if stops_after n (entries_of (rest (in_characters p) k)) then None else told_of (rest (in_characters p) k)

-- how many entries of a source stand before those that are listed, the source's start or a cursor being given; none where the source has no
-- such cursor
abbrev pub start_in : Option CursorParts → Source → Option ℕ
start_in None s = Some 0
start_in (Some c) s = if is_cursor_of c s then Some c.given else None

-- steps end by a line that could not be read whole
abbrev pub ends_unread : List Step → Bool
ends_unread steps = elim (fault_of steps) [ Some f ↦ is_unread_code f.code | None ↦ false ]

-- why a source has no such cursor: a read failed before so many entries, or the cursor is of another source
abbrev pub missed : Option CursorParts → Source → RunFaultCode
missed None s = CursorOfAnotherSource
missed (Some c) s = if ends_unread (listing s) && nat_lt (length (entries_of (listing s))) c.given then Read else CursorOfAnotherSource

-- what `tokens` writes of a source; nothing where there is none, or it has no such cursor
abbrev pub tokens_output : Bool → Option ℕ → Option CursorParts → Result Parts StreamFault → List ℕ
tokens_output exact count resume (Ok p) = elim (start_in resume (in_characters p)) [ Some k ↦ output_from exact p count k | None ↦ [] ]
tokens_output exact count resume (Err fault) = []

-- the fault that `tokens` tells of a source
abbrev pub tokens_fault : Option ℕ → Option CursorParts → Result Parts StreamFault → Option Fault
tokens_fault count resume (Ok p) = elim (start_in resume (in_characters p)) [
  | Some k ↦ fault_from p count k
  | None ↦ Some (Plain (missed resume (in_characters p)))
]
tokens_fault count resume (Err fault) = Some (of_stream fault)

-- the whole output of `tokens` on the bytes of a source, after which a read failed or not, and the fault that it tells of them
abbrev pub output_of : Tokens → Bool → List ℕ → List ℕ
output_of asked broken bytes = tokens_output asked.exact asked.count asked.resume (stream_of broken bytes)

abbrev pub fault_in : Tokens → Bool → List ℕ → Option Fault
fault_in asked broken bytes = tokens_fault asked.count asked.resume (stream_of broken bytes)
