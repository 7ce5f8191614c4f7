-- Places that stand within some terminals, and those of them that a field has.
--
-- Carries: Tokens.
use Rattle.std.proofs.Common.{ℕ, ◌<◌, ◌≤◌, List, [], ◌∷◌, ◌++◌}
use Rattle.pygrammar.specs.FormattedStrings.{StringPart, Text, Field}
use Rattle.pyplaces.specs.Stretches.{Stretch, stretch}
use Rattle.pyplaces.specs.EntryPlaces as E
use Rattle.pyplaces.specs.EntryPlaces.{EntryPlaces}
use Rattle.pyplaces.specs.ExpressionPlaces.{string_places}
use Rattle.pyplaces.specs.PatternPlaces as P
use Rattle.pyplaces.specs.Laws.{IsWithin, AreWithin}

infixr 50 ◌⊕◌
pub record Within (lo hi : ℕ) (ps : List Stretch) : Type 0 where
  pub are : AreWithin lo hi ps

pub none : {lo hi : ℕ} → Within lo hi []
none = record { are = tt }

pub more : {lo hi : ℕ} {s : Stretch} {ps : List Stretch} → IsWithin lo hi s → Within lo hi ps → Within lo hi (s ∷ ps)
more h p = record { are = (h, p.are) }

pub is_within : {lo hi first following : ℕ} → lo ≤ first → first < following → following ≤ hi → IsWithin lo hi (stretch first following)
is_within a b c = record { begins = a; some = b; ends = c }

pub own : {lo hi first following : ℕ} → lo ≤ first → first < following → following ≤ hi → Within lo hi (stretch first following ∷ [])
own a b c = more (is_within a b c) none

are_both : (lo hi : ℕ) (ps qs : List Stretch) → AreWithin lo hi ps → AreWithin lo hi qs → AreWithin lo hi (ps ++ qs)
are_both lo hi [] qs h k = k
are_both lo hi (p ∷ ps) qs h k = (h.0, are_both lo hi ps qs h.1 k)

pub ◌⊕◌ : {lo hi : ℕ} {ps qs : List Stretch} → Within lo hi ps → Within lo hi qs → Within lo hi (ps ++ qs)
◌⊕◌ {lo} {hi} {ps} {qs} p q = record { are = are_both lo hi ps qs p.are q.are }

-- ---- Entries.

pub data EntryWithin (lo hi : ℕ) : EntryPlaces → Type 0 where
  single : {ps : List Stretch} → Within lo hi ps → EntryWithin lo hi (E.Single ps)
  paired : {ks vs : List Stretch} → Within lo hi ks → Within lo hi vs → EntryWithin lo hi (E.Paired ks vs)
  spread : {ps : List Stretch} {s : Stretch} → Within lo hi ps → IsWithin lo hi s → EntryWithin lo hi (E.Spread ps s)
  doubled : {ps : List Stretch} {s : Stretch} → Within lo hi ps → IsWithin lo hi s → EntryWithin lo hi (E.Doubled ps s)
  keyed : {ps : List Stretch} {s : Stretch} → Within lo hi ps → IsWithin lo hi s → EntryWithin lo hi (E.Keyed ps s)
  plain : {ps ds : List Stretch} → Within lo hi ps → Within lo hi ds → EntryWithin lo hi (E.Plain ps ds)
  slashed : EntryWithin lo hi E.Slashed
  bare : EntryWithin lo hi E.Bare
  gathered : {ps : List Stretch} → Within lo hi ps → EntryWithin lo hi (E.Gathered ps)
  collected : {ps : List Stretch} → Within lo hi ps → EntryWithin lo hi (E.Collected ps)

pub data EntriesWithin (lo hi : ℕ) : List EntryPlaces → Type 0 where
  no_entry : EntriesWithin lo hi []
  an_entry : {p : EntryPlaces} {ps : List EntryPlaces} → EntryWithin lo hi p → EntriesWithin lo hi ps → EntriesWithin lo hi (p ∷ ps)

pub singles_within : {lo hi : ℕ} {ps : List EntryPlaces} → EntriesWithin lo hi ps → Within lo hi (E.singles ps)
singles_within no_entry = none
singles_within (an_entry (single h) c) = h ⊕ singles_within c
singles_within (an_entry (paired h k) c) = singles_within c
singles_within (an_entry (spread h k) c) = singles_within c
singles_within (an_entry (doubled h k) c) = singles_within c
singles_within (an_entry (keyed h k) c) = singles_within c
singles_within (an_entry (plain h k) c) = singles_within c
singles_within (an_entry slashed c) = singles_within c
singles_within (an_entry bare c) = singles_within c
singles_within (an_entry (gathered h) c) = singles_within c
singles_within (an_entry (collected h) c) = singles_within c

pub keys_within : {lo hi : ℕ} {ps : List EntryPlaces} → EntriesWithin lo hi ps → Within lo hi (E.keys ps)
keys_within no_entry = none
keys_within (an_entry (single h) c) = keys_within c
keys_within (an_entry (paired h k) c) = h ⊕ keys_within c
keys_within (an_entry (spread h k) c) = keys_within c
keys_within (an_entry (doubled h k) c) = keys_within c
keys_within (an_entry (keyed h k) c) = keys_within c
keys_within (an_entry (plain h k) c) = keys_within c
keys_within (an_entry slashed c) = keys_within c
keys_within (an_entry bare c) = keys_within c
keys_within (an_entry (gathered h) c) = keys_within c
keys_within (an_entry (collected h) c) = keys_within c

pub values_within : {lo hi : ℕ} {ps : List EntryPlaces} → EntriesWithin lo hi ps → Within lo hi (E.values ps)
values_within no_entry = none
values_within (an_entry (single h) c) = values_within c
values_within (an_entry (paired h k) c) = k ⊕ values_within c
values_within (an_entry (spread h k) c) = values_within c
values_within (an_entry (doubled h k) c) = h ⊕ values_within c
values_within (an_entry (keyed h k) c) = values_within c
values_within (an_entry (plain h k) c) = values_within c
values_within (an_entry slashed c) = values_within c
values_within (an_entry bare c) = values_within c
values_within (an_entry (gathered h) c) = values_within c
values_within (an_entry (collected h) c) = values_within c

pub positional_within : {lo hi : ℕ} {ps : List EntryPlaces} → EntriesWithin lo hi ps → Within lo hi (E.positional ps)
positional_within no_entry = none
positional_within (an_entry (single h) c) = h ⊕ positional_within c
positional_within (an_entry (paired h k) c) = positional_within c
positional_within (an_entry (spread h k) c) = h ⊕ more k (positional_within c)
positional_within (an_entry (doubled h k) c) = positional_within c
positional_within (an_entry (keyed h k) c) = positional_within c
positional_within (an_entry (plain h k) c) = positional_within c
positional_within (an_entry slashed c) = positional_within c
positional_within (an_entry bare c) = positional_within c
positional_within (an_entry (gathered h) c) = positional_within c
positional_within (an_entry (collected h) c) = positional_within c

pub keywords_within : {lo hi : ℕ} {ps : List EntryPlaces} → EntriesWithin lo hi ps → Within lo hi (E.keywords ps)
keywords_within no_entry = none
keywords_within (an_entry (single h) c) = keywords_within c
keywords_within (an_entry (paired h k) c) = keywords_within c
keywords_within (an_entry (spread h k) c) = keywords_within c
keywords_within (an_entry (doubled h k) c) = h ⊕ more k (keywords_within c)
keywords_within (an_entry (keyed h k) c) = h ⊕ more k (keywords_within c)
keywords_within (an_entry (plain h k) c) = keywords_within c
keywords_within (an_entry slashed c) = keywords_within c
keywords_within (an_entry bare c) = keywords_within c
keywords_within (an_entry (gathered h) c) = keywords_within c
keywords_within (an_entry (collected h) c) = keywords_within c

pub parameters_within : {lo hi : ℕ} {ps : List EntryPlaces} → EntriesWithin lo hi ps → Within lo hi (E.parameters ps)
parameters_within no_entry = none
parameters_within (an_entry (single h) c) = parameters_within c
parameters_within (an_entry (paired h k) c) = parameters_within c
parameters_within (an_entry (spread h k) c) = parameters_within c
parameters_within (an_entry (doubled h k) c) = parameters_within c
parameters_within (an_entry (keyed h k) c) = parameters_within c
parameters_within (an_entry (plain h k) c) = h ⊕ parameters_within c
parameters_within (an_entry slashed c) = parameters_within c
parameters_within (an_entry bare c) = parameters_within c
parameters_within (an_entry (gathered h) c) = h ⊕ parameters_within c
parameters_within (an_entry (collected h) c) = parameters_within c

pub all_defaults_within : {lo hi : ℕ} {ps : List EntryPlaces} → EntriesWithin lo hi ps → Within lo hi (E.all_defaults ps)
all_defaults_within no_entry = none
all_defaults_within (an_entry (single h) c) = all_defaults_within c
all_defaults_within (an_entry (paired h k) c) = all_defaults_within c
all_defaults_within (an_entry (spread h k) c) = all_defaults_within c
all_defaults_within (an_entry (doubled h k) c) = all_defaults_within c
all_defaults_within (an_entry (keyed h k) c) = all_defaults_within c
all_defaults_within (an_entry (plain h k) c) = k ⊕ all_defaults_within c
all_defaults_within (an_entry slashed c) = all_defaults_within c
all_defaults_within (an_entry bare c) = all_defaults_within c
all_defaults_within (an_entry (gathered h) c) = all_defaults_within c
all_defaults_within (an_entry (collected h) c) = all_defaults_within c

pub keyword_defaults_within : {lo hi : ℕ} {ps : List EntryPlaces} → EntriesWithin lo hi ps → Within lo hi (E.keyword_defaults ps)
keyword_defaults_within no_entry = none
keyword_defaults_within (an_entry (single h) c) = keyword_defaults_within c
keyword_defaults_within (an_entry (paired h k) c) = keyword_defaults_within c
keyword_defaults_within (an_entry (spread h k) c) = keyword_defaults_within c
keyword_defaults_within (an_entry (doubled h k) c) = keyword_defaults_within c
keyword_defaults_within (an_entry (keyed h k) c) = keyword_defaults_within c
keyword_defaults_within (an_entry (plain h k) c) = keyword_defaults_within c
keyword_defaults_within (an_entry slashed c) = keyword_defaults_within c
keyword_defaults_within (an_entry bare c) = all_defaults_within c
keyword_defaults_within (an_entry (gathered h) c) = all_defaults_within c
keyword_defaults_within (an_entry (collected h) c) = keyword_defaults_within c

pub collected_within : {lo hi : ℕ} {ps : List EntryPlaces} → EntriesWithin lo hi ps → Within lo hi (E.collected ps)
collected_within no_entry = none
collected_within (an_entry (single h) c) = collected_within c
collected_within (an_entry (paired h k) c) = collected_within c
collected_within (an_entry (spread h k) c) = collected_within c
collected_within (an_entry (doubled h k) c) = collected_within c
collected_within (an_entry (keyed h k) c) = collected_within c
collected_within (an_entry (plain h k) c) = collected_within c
collected_within (an_entry slashed c) = collected_within c
collected_within (an_entry bare c) = collected_within c
collected_within (an_entry (gathered h) c) = collected_within c
collected_within (an_entry (collected h) c) = h ⊕ collected_within c

pub defaults_within : {lo hi : ℕ} {ps : List EntryPlaces} → EntriesWithin lo hi ps → Within lo hi (E.defaults ps)
defaults_within no_entry = none
defaults_within (an_entry (single h) c) = defaults_within c
defaults_within (an_entry (paired h k) c) = defaults_within c
defaults_within (an_entry (spread h k) c) = defaults_within c
defaults_within (an_entry (doubled h k) c) = defaults_within c
defaults_within (an_entry (keyed h k) c) = defaults_within c
defaults_within (an_entry (plain h k) c) = k ⊕ defaults_within c
defaults_within (an_entry slashed c) = defaults_within c
defaults_within (an_entry bare c) = none
defaults_within (an_entry (gathered h) c) = none
defaults_within (an_entry (collected h) c) = defaults_within c

pub arranged_within : {lo hi : ℕ} {ps : List EntryPlaces} → EntriesWithin lo hi ps → Within lo hi (E.arranged ps)
arranged_within c = parameters_within c ⊕ (keyword_defaults_within c ⊕ (collected_within c ⊕ defaults_within c))

-- ---- Strings.

-- for each field the places within it
pub data EachWithin (lo hi : ℕ) : List (List Stretch) → Type 0 where
  no_field : EachWithin lo hi []
  a_field : {f : List Stretch} {fs : List (List Stretch)} → Within lo hi f → EachWithin lo hi fs → EachWithin lo hi (f ∷ fs)

pub each_both : {lo hi : ℕ} {fs gs : List (List Stretch)} → EachWithin lo hi fs → EachWithin lo hi gs → EachWithin lo hi (fs ++ gs)
each_both no_field d = d
each_both (a_field h c) d = a_field h (each_both c d)

pub strings_within : {lo hi : ℕ} {row : Stretch} {fs : List (List Stretch)} (ss : List StringPart) → IsWithin lo hi row
    → EachWithin lo hi fs → Within lo hi (string_places row ss fs)
strings_within [] r c = none
strings_within (Text t ∷ ss) r c = more r (strings_within ss r c)
strings_within (Field e ∷ ss) r no_field = none
strings_within (Field e ∷ ss) r (a_field h c) = h ⊕ more r (strings_within ss r c)

-- ---- Entries of patterns.

pub data PatternEntryWithin (lo hi : ℕ) : P.EntryPlaces → Type 0 where
  alone : {ps : List Stretch} → Within lo hi ps → PatternEntryWithin lo hi (P.Alone ps)
  key_pattern : {ks ps : List Stretch} → Within lo hi ks → Within lo hi ps → PatternEntryWithin lo hi (P.Keyed ks ps)
  rest : PatternEntryWithin lo hi P.Rest
  named : {ps : List Stretch} → Within lo hi ps → PatternEntryWithin lo hi (P.Named ps)

pub data PatternEntriesWithin (lo hi : ℕ) : List P.EntryPlaces → Type 0 where
  no_element : PatternEntriesWithin lo hi []
  an_element : {p : P.EntryPlaces} {ps : List P.EntryPlaces} → PatternEntryWithin lo hi p → PatternEntriesWithin lo hi ps
      → PatternEntriesWithin lo hi (p ∷ ps)

pub alone_within : {lo hi : ℕ} {ps : List P.EntryPlaces} → PatternEntriesWithin lo hi ps → Within lo hi (P.alone ps)
alone_within no_element = none
alone_within (an_element (alone h) c) = h ⊕ alone_within c
alone_within (an_element (key_pattern h k) c) = alone_within c
alone_within (an_element rest c) = alone_within c
alone_within (an_element (named h) c) = alone_within c

pub pattern_keys_within : {lo hi : ℕ} {ps : List P.EntryPlaces} → PatternEntriesWithin lo hi ps → Within lo hi (P.pattern_keys ps)
pattern_keys_within no_element = none
pattern_keys_within (an_element (alone h) c) = pattern_keys_within c
pattern_keys_within (an_element (key_pattern h k) c) = h ⊕ pattern_keys_within c
pattern_keys_within (an_element rest c) = pattern_keys_within c
pattern_keys_within (an_element (named h) c) = pattern_keys_within c

pub key_patterns_within : {lo hi : ℕ} {ps : List P.EntryPlaces} → PatternEntriesWithin lo hi ps → Within lo hi (P.key_patterns ps)
key_patterns_within no_element = none
key_patterns_within (an_element (alone h) c) = key_patterns_within c
key_patterns_within (an_element (key_pattern h k) c) = k ⊕ key_patterns_within c
key_patterns_within (an_element rest c) = key_patterns_within c
key_patterns_within (an_element (named h) c) = key_patterns_within c

pub named_within : {lo hi : ℕ} {ps : List P.EntryPlaces} → PatternEntriesWithin lo hi ps → Within lo hi (P.named ps)
named_within no_element = none
named_within (an_element (alone h) c) = named_within c
named_within (an_element (key_pattern h k) c) = named_within c
named_within (an_element rest c) = named_within c
named_within (an_element (named h) c) = h ⊕ named_within c
