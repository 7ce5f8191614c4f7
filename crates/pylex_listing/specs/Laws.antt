-- Laws of lexemes and listings, in words that name no step of a lister (reference 2.1 to 2.6).
use Rattle.std.specs.Prelude.{◌≡◌, ℕ, ◌+◌, ◌≤◌, ◌<◌, nat_lt, Bool, true, false, List, [], ◌∷◌, ◌++◌, length, take, filter, map, count_by}
use Rattle.std.specs.Prelude.{slice_range, Some, None, All, AllPairs, IsTrue, ◌||◌}
use Rattle.std.specs.List.{flat_map}
use Rattle.std.specs.Str.{chars, encode_utf8_all, IsCharBoundary}
use Rattle.pylex_listing.specs.declared.kind.Kind.TheVariants as kinds
use Rattle.pylex_listing.specs.declared.entries.Entry.{Entry}
use Rattle.pylex_listing.specs.declared.entries.Step.{Step}
use Rattle.pylex_listing.specs.declared.entries.Step.TheVariants as steps
use Rattle.pylex_lexeme.specs.Lexemes.{Lexeme, are_blanks, is_join, class_in, lexeme_at, cut, left_by_cut}
use Rattle.pylex_lexeme.specs.Chars.{bytes_in}
use Rattle.pylex_lexeme.specs.Operators.{exact_of}
use Rattle.pylex_listing.specs.Listing.{Source, listing}
use Rattle.pylex_listing.specs.Steps.{entries_of, fault_of, IsNoEntry}
use Rattle.pylex_listing.specs.Indentation.{open_levels}

-- an entry's offsets stand in order in a text, each where a character begins or the text ends
pub record LiesIn (text : List ℕ) (e : Entry) : Type 0 where
  pub order : e.«from» ≤ e.to
  pub within : e.to ≤ length text
  pub first : IsCharBoundary text e.«from»
  pub last : IsCharBoundary text e.to

-- if a step gives an entry, that lies in the text
abbrev pub StepLies : List ℕ → Step → Type 0
StepLies text (steps.Entry e) = LiesIn text e
StepLies text steps.End = Unit {0}
StepLies text (steps.Fault f) = Unit {0}

-- each entry among the steps lies in the text
abbrev pub AllLie : List ℕ → List Step → Type 0
AllLie text [] = Unit {0}
AllLie text (s ∷ ss) = StepLies text s × AllLie text ss

-- the exact type of an operator is that of what stands between its offsets, and no other entry has one
abbrev pub HasExact : List ℕ → Entry → Type 0
HasExact text e = e.exact ≡ elim e.kind [ kinds.Op ↦ exact_of (chars (slice_range (encode_utf8_all text) e.«from» e.to)) | _ ↦ None ]

-- so it is with all entries of a source
abbrev pub HaveExact : Source → Type 0
HaveExact s = All (HasExact s.text) (entries_of (listing s))

-- a lexeme is a front of the text that is in its class, and no longer front is in any class
pub record IsLongest (text : List ℕ) (x : Lexeme) : Type 0 where
  pub is_front : (following : List ℕ) × (text ≡ x.text ++ following)
  pub in_class : class_in text x.text ≡ Some x.«class»
  pub none_longer : (front following : List ℕ) → text ≡ front ++ following → length x.text < length front → class_in text front ≡ None

-- where a lexeme stands, it is the longest; where none does, no front of the text is in any class
pub record LongestWins (text : List ℕ) : Type 0 where
  pub longest : (x : Lexeme) → lexeme_at text ≡ Some x → IsLongest text x
  pub none : lexeme_at text ≡ None → (front following : List ℕ) → text ≡ front ++ following → class_in text front ≡ None

-- the lexemes stand one after another from the text's front on, and where they leave off none stands
abbrev pub AreLexemes : List ℕ → List Lexeme → List ℕ → Type 0
AreLexemes text [] left = (left ≡ text) × (lexeme_at text ≡ None)
AreLexemes text (x ∷ xs) left = (following : List ℕ) × (lexeme_at text ≡ Some x) × (text ≡ x.text ++ following) × AreLexemes following xs left

-- the cut of a text is its lexemes, which joined are its front up to the stop
pub record IsCut (text : List ℕ) : Type 0 where
  pub lexemes : AreLexemes text (cut text) (left_by_cut text)
  pub joined : text ≡ flat_map (λ x. x.text) (cut text) ++ left_by_cut text
  pub stop : lexeme_at (left_by_cut text) ≡ None

-- an entry doesn't end before it begins
pub record RunsForward (e : Entry) : Type 0 where
  pub offsets : e.«from» ≤ e.to
  pub rows : e.start.row ≤ e.«end».row

-- an entry has ended where another begins
pub record EndsBefore (a b : Entry) : Type 0 where
  pub offsets : a.to ≤ b.«from»
  pub rows : a.«end».row ≤ b.start.row

-- entries stand in the order of the text, and don't overlap
pub record AreOrdered (es : List Entry) : Type 0 where
  pub forward : All RunsForward es
  pub apart : AllPairs EndsBefore es

abbrev pub IsOrdered : Source → Type 0
IsOrdered s = AreOrdered (entries_of (listing s))

-- the first entry is of the encoding
abbrev pub BeginsWithEncoding : List Entry → Type 0
BeginsWithEncoding es = (e : Entry) × (later : List Entry) × (es ≡ e ∷ later) × (e.kind ≡ kinds.Encoding)

-- the last entry is ENDMARKER
abbrev pub EndsWithMarker : List Entry → Type 0
EndsWithMarker es = (earlier : List Entry) × (e : Entry) × (es ≡ earlier ++ e ∷ []) × (e.kind ≡ kinds.EndMarker)

-- steps are entries, the encoding's first, and then one end or one fault; ENDMARKER stands before the end
pub record AreWhole (ss : List Step) : Type 0 where
  pub last : Step
  pub whole : ss ≡ map steps.Entry (entries_of ss) ++ last ∷ []
  pub stops : IsNoEntry last
  pub first : BeginsWithEncoding (entries_of ss)
  pub marker : last ≡ steps.End → EndsWithMarker (entries_of ss)

abbrev pub IsWhole : Source → Type 0
IsWhole s = AreWhole (listing s)

-- blanks and joins, one after another
abbrev pub IsGap : List ℕ → Type 0
IsGap text = (parts : List (List ℕ)) × All (λ t. IsTrue (are_blanks t || is_join t)) parts × (text ≡ flat_map (λ t. t) parts)

-- an entry is the next in a text that begins at an offset: blanks and joins stand before its own text
pub record StandsNext (offset : ℕ) (text : List ℕ) (e : Entry) : Type 0 where
  pub gap : List ℕ
  pub own : List ℕ
  pub following : List ℕ
  pub is_gap : IsGap gap
  pub parts : text ≡ gap ++ (own ++ following)
  pub begins : e.«from» ≡ offset + bytes_in gap
  pub ends : e.to ≡ e.«from» + bytes_in own

-- a text that begins at an offset is the entries' texts, and blanks and joins between them, up to what is left
abbrev pub Covers : ℕ → List ℕ → List Entry → List ℕ → Type 0
Covers offset text [] left = (gap : List ℕ) × IsGap gap × (text ≡ gap ++ left)
Covers offset text (e ∷ es) left = (next : StandsNext offset text e) × Covers e.to next.following es left

-- a listing's entries cover the text up to its end, or up to the fault
pub record IsCovered (s : Source) : Type 0 where
  pub left : List ℕ
  pub covers : Covers 0 s.text (entries_of (listing s)) left
  pub whole : fault_of (listing s) ≡ None → left ≡ []

abbrev pub is_indent : Entry → Bool
is_indent e = elim e.kind [ kinds.Indent ↦ true | _ ↦ false ]

abbrev pub is_dedent : Entry → Bool
is_dedent e = elim e.kind [ kinds.Dedent ↦ true | _ ↦ false ]

-- no DEDENT stands without an INDENT before it, and where a listing comes to its end, each INDENT has its DEDENT
pub record ClosesBlocks (s : Source) : Type 0 where
  pub within : (k : ℕ) → count_by is_dedent (take k (entries_of (listing s))) ≤ count_by is_indent (take k (entries_of (listing s)))
  pub at_end : fault_of (listing s) ≡ None → count_by is_dedent (entries_of (listing s)) ≡ count_by is_indent (entries_of (listing s))

-- The open levels are a stack (reference 2.1.8): after a line of width w those below w are left, and w is the last. The widths stand last
-- line first.
abbrev pub LevelsAreAStack : Type 0
LevelsAreAStack = (w : ℕ) (widths : List ℕ) → open_levels (w ∷ widths) ≡ filter (λ v. nat_lt v w) (open_levels widths) ++ w ∷ []

-- The laws of a listing, in words that its definition doesn't use: its lexemes are each the longest of its place, and joined are the text
-- up to the stop;
-- its entries stand in order and don't overlap, with nothing but blanks and joins between them; it has one end; its blocks are closed; the
-- levels
-- that are open are a stack.
pub record IsLawful (s : Source) : Type 0 where
  pub longest : (text : List ℕ) → LongestWins text
  pub cut : IsCut s.text
  pub ordered : IsOrdered s
  pub covered : IsCovered s
  pub whole : IsWhole s
  pub blocks : ClosesBlocks s
  pub levels : LevelsAreAStack
