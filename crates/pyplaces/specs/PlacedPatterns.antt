-- What a reader of patterns that records says: what it found at the front of some terminals, and the places that it recorded.
use Rattle.std.specs.Prelude.{ℕ, List}
use Rattle.pytree_node.specs.Values.{Value}
use Rattle.pytree_node.specs.Trees.{Expr, Identifier, Pattern}
use Rattle.pytoken.specs.Terminals.{Terminal}
use Rattle.pygrammar.specs.declared.pattern_levels.PatternLevel.{PatternLevel}
use Rattle.pygrammar.specs.PatternEntries.{PatternItem, PatternEntry}
use Rattle.pygrammar.specs.PatternGrammar as P
use Rattle.pyplaces.specs.Stretches.{Stretch}
use Rattle.pyplaces.specs.PatternPlaces as places
use Rattle.pyplaces.specs.PatternPlaces.{EntryPlaces}
use Rattle.pyplaces.specs.Placed.{ReadAs}

-- ---- Values.

-- a number with its sign, and what it stands for
abbrev pub PlacedNumber : Value → List Terminal → ℕ → Expr → List Terminal → ℕ → List Stretch → Type 0
PlacedNumber v i at e r following ps = ReadAs (λ ts. P.SignedNumber v ts e) (λ ts. places.signed_places) i at r following ps

abbrev pub PlacedLiteral : List Terminal → ℕ → Expr → List Terminal → ℕ → List Stretch → Type 0
PlacedLiteral i at e r following ps = ReadAs (λ ts. P.LiteralOf ts e) (λ ts. places.literal_places) i at r following ps

abbrev pub PlacedDotted : Identifier → List Terminal → ℕ → Expr → List Terminal → ℕ → List Stretch → Type 0
PlacedDotted f i at e r following ps = ReadAs (λ ts. P.Dotted f ts e) (λ ts. places.dotted_places) i at r following ps

abbrev pub PlacedClass : List Terminal → ℕ → Expr → List Terminal → ℕ → List Stretch → Type 0
PlacedClass i at e r following ps = ReadAs (λ ts. P.ClassOf ts e) (λ ts. places.class_places) i at r following ps

abbrev pub PlacedKey : List Terminal → ℕ → Expr → List Terminal → ℕ → List Stretch → Type 0
PlacedKey i at e r following ps = ReadAs (λ ts. P.KeyOf ts e) (λ ts. places.key_places) i at r following ps

-- ---- Patterns.

abbrev pub PlacedPattern : PatternLevel → List Terminal → ℕ → Pattern → List Terminal → ℕ → List Stretch → Type 0
PlacedPattern l i at p r following ps = ReadAs (λ ts. P.DerivesPattern l ts p) (λ ts. places.pattern_places) i at r following ps

-- those after a `|`
abbrev pub PlacedAlternatives : List Terminal → ℕ → List Pattern → List Terminal → ℕ → List Stretch → Type 0
PlacedAlternatives i at xs r following ps = ReadAs (λ ts. P.Alternatives ts xs) (λ ts. places.alternatives_places) i at r following ps

abbrev pub PlacedEntries : PatternItem → List Terminal → ℕ → List PatternEntry → List Terminal → ℕ → List EntryPlaces → Type 0
PlacedEntries j i at es r following ps = ReadAs (λ ts. P.PatternListing j ts es) (λ ts. places.entries_places) i at r following ps

abbrev pub PlacedEntry : PatternItem → List Terminal → ℕ → PatternEntry → List Terminal → ℕ → EntryPlaces → Type 0
PlacedEntry j i at e r following p = ReadAs (λ ts. P.PatternPiece j ts e) (λ ts. places.entry_places) i at r following p
