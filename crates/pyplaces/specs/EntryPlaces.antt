-- The places of what stands between commas, and which of them each field of a node has.
use Rattle.std.specs.Prelude.{List, [], ◌∷◌, ◌++◌}
use Rattle.pyplaces.specs.Stretches.{Stretch}

-- the places in an entry, and its own stretch where it makes a node of itself
pub data EntryPlaces : Type 0 where
  Single : List Stretch → EntryPlaces
  Paired : List Stretch → List Stretch → EntryPlaces
  Spread : List Stretch → Stretch → EntryPlaces
  Doubled : List Stretch → Stretch → EntryPlaces
  Keyed : List Stretch → Stretch → EntryPlaces
  Plain : List Stretch → List Stretch → EntryPlaces  -- those of the arg, and of the default
  Slashed : EntryPlaces
  Bare : EntryPlaces
  Gathered : List Stretch → EntryPlaces
  Collected : List Stretch → EntryPlaces

-- the nodes of a list of expressions
abbrev pub singles : List EntryPlaces → List Stretch
singles [] = []
singles (Single ps ∷ es) = ps ++ singles es
singles (_ ∷ es) = singles es

-- all keys of a Dict come before all values
abbrev pub keys : List EntryPlaces → List Stretch
keys [] = []
keys (Paired ks vs ∷ es) = ks ++ keys es
keys (_ ∷ es) = keys es

abbrev pub values : List EntryPlaces → List Stretch
values [] = []
values (Paired ks vs ∷ es) = vs ++ values es
values (Doubled vs s ∷ es) = vs ++ values es
values (_ ∷ es) = values es

-- the field `args` of a call: a Starred is the whole entry
abbrev pub positional : List EntryPlaces → List Stretch
positional [] = []
positional (Single ps ∷ es) = ps ++ positional es
positional (Spread ps s ∷ es) = ps ++ (s ∷ positional es)
positional (_ ∷ es) = positional es

-- the field `keywords`: a keyword is the whole entry
abbrev pub keywords : List EntryPlaces → List Stretch
keywords [] = []
keywords (Keyed ps s ∷ es) = ps ++ (s ∷ keywords es)
keywords (Doubled ps s ∷ es) = ps ++ (s ∷ keywords es)
keywords (_ ∷ es) = keywords es

-- ---- The fields of `arguments`: posonlyargs, args, vararg, kwonlyargs, kw_defaults, kwarg, defaults.

-- the first four, which follow one another
abbrev pub parameters : List EntryPlaces → List Stretch
parameters [] = []
parameters (Plain ps ds ∷ es) = ps ++ parameters es
parameters (Gathered ps ∷ es) = ps ++ parameters es
parameters (_ ∷ es) = parameters es

abbrev pub all_defaults : List EntryPlaces → List Stretch
all_defaults [] = []
all_defaults (Plain ps ds ∷ es) = ds ++ all_defaults es
all_defaults (_ ∷ es) = all_defaults es

-- those of keyword-only parameters, after the star
abbrev pub keyword_defaults : List EntryPlaces → List Stretch
keyword_defaults [] = []
keyword_defaults (Bare ∷ es) = all_defaults es
keyword_defaults (Gathered ps ∷ es) = all_defaults es
keyword_defaults (_ ∷ es) = keyword_defaults es

abbrev pub collected : List EntryPlaces → List Stretch
collected [] = []
collected (Collected ps ∷ es) = ps ++ collected es
collected (_ ∷ es) = collected es

-- those before the star
abbrev pub defaults : List EntryPlaces → List Stretch
defaults [] = []
defaults (Bare ∷ es) = []
defaults (Gathered ps ∷ es) = []
defaults (Plain ps ds ∷ es) = ds ++ defaults es
defaults (_ ∷ es) = defaults es

abbrev pub arranged : List EntryPlaces → List Stretch
arranged es = parameters es ++ (keyword_defaults es ++ (collected es ++ defaults es))
