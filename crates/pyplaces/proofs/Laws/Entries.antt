-- As many places in each field of a node as nodes of it that have one, entry by entry.
--
-- Carries: Count. On: Many, Parameters.
use Rattle.std.proofs.Common.{◌≡◌, refl, ap, ◌∙◌, ℕ, ◌+◌, arith, List, [], ◌∷◌, ◌++◌, Some, None, Bool, true, false, cond}
use Rattle.std.proofs.Common.{length, length-append}
use Rattle.std.proofs.lemmas.Option.{same_Some}
use Rattle.pytree_node.specs.Trees
use Rattle.pytree_node.specs.Trees.{Expr, OptionalExpr, Arg, Arguments, Identifier}
use Rattle.pytree_node.specs.Values
use Rattle.pytree_dump_text.specs.Shows.{shown, shown_arg, shown_arguments, shown_exprs, shown_keywords, shown_optionals}
use Rattle.pytree_marked.specs.MarkedNodes.{marked, marked_rows}
use Rattle.pytree_marked.specs.MarkedOptions.{marked_optional}
use Rattle.pytree_marked.proofs.Callers.Sums.{kind_none}
use Rattle.pygrammar.specs.FormattedStrings.{StringPart, Text, Field, with_text, merged, values_of, spec_values_of}
use Rattle.pygrammar.specs.Entries.{Entry, Single, Paired, Spread, Doubled, Keyed, Plain, Slashed, Bare, Gathered, Collected, singles, keys}
use Rattle.pygrammar.specs.Entries.{values}
use Rattle.pygrammar.specs.Arguments.{in_order, positional, keywords, called}
use Rattle.pygrammar.specs.Parameters.{arranged}
use Rattle.pyplaces.specs.Stretches.{Stretch}
use Rattle.pyplaces.specs.EntryPlaces as E
use Rattle.pyplaces.specs.EntryPlaces.{EntryPlaces}
use Rattle.pyplaces.specs.ExpressionPlaces.{string_places}
use Rattle.pyplaces.proofs.Laws.Many.{Many, many, each, none, more, ◌⊕◌}
use Rattle.pyplaces.proofs.Laws.Parameters.{entries_total, arranged_count}

-- an entry, and the places in it
pub data Counted : Entry → EntryPlaces → Type 0 where
  single : {e : Expr} {ps : List Stretch} → Many ps (marked (shown e)) → Counted (Single e) (E.Single ps)
  paired : {k v : Expr} {ks vs : List Stretch} → Many ks (marked (shown k)) → Many vs (marked (shown v))
      → Counted (Paired k v) (E.Paired ks vs)
  spread : {e : Expr} {ps : List Stretch} {s : Stretch} → Many ps (marked (shown e)) → Counted (Spread e) (E.Spread ps s)
  doubled : {e : Expr} {ps : List Stretch} {s : Stretch} → Many ps (marked (shown e)) → Counted (Doubled e) (E.Doubled ps s)
  keyed : {x : Identifier} {e : Expr} {ps : List Stretch} {s : Stretch} → Many ps (marked (shown e)) → Counted (Keyed x e) (E.Keyed ps s)
  plain : {a : Arg} {d : OptionalExpr} {ps ds : List Stretch} → Many ps (marked (shown_arg a)) → Many ds (marked_optional d)
      → Counted (Plain a d) (E.Plain ps ds)
  slashed : Counted Slashed E.Slashed
  bare : Counted Bare E.Bare
  gathered : {a : Arg} {ps : List Stretch} → Many ps (marked (shown_arg a)) → Counted (Gathered a) (E.Gathered ps)
  collected : {a : Arg} {ps : List Stretch} → Many ps (marked (shown_arg a)) → Counted (Collected a) (E.Collected ps)

pub data AllCounted : List Entry → List EntryPlaces → Type 0 where
  no_entry : AllCounted [] []
  an_entry : {e : Entry} {es : List Entry} {p : EntryPlaces} {ps : List EntryPlaces} → Counted e p → AllCounted es ps
      → AllCounted (e ∷ es) (p ∷ ps)

-- ---- Fields of expressions.

pub singles_count : {es : List Entry} {ps : List EntryPlaces} → AllCounted es ps
    → Many (E.singles ps) (marked_rows (shown_exprs (singles es)))
singles_count no_entry = none
singles_count (an_entry (single h) c) = h ⊕ singles_count c
singles_count (an_entry (paired h k) c) = singles_count c
singles_count (an_entry (spread h) c) = singles_count c
singles_count (an_entry (doubled h) c) = singles_count c
singles_count (an_entry (keyed h) c) = singles_count c
singles_count (an_entry (plain h k) c) = singles_count c
singles_count (an_entry slashed c) = singles_count c
singles_count (an_entry bare c) = singles_count c
singles_count (an_entry (gathered h) c) = singles_count c
singles_count (an_entry (collected h) c) = singles_count c

pub keys_count : {es : List Entry} {ps : List EntryPlaces} → AllCounted es ps → Many (E.keys ps) (marked_rows (shown_optionals (keys es)))
keys_count no_entry = none
keys_count (an_entry (single h) c) = many (keys_count c) (omega arith)
keys_count (an_entry (paired h k) c) = h ⊕ keys_count c
keys_count (an_entry (spread h) c) = many (keys_count c) (omega arith)
keys_count (an_entry (doubled h) c) = many (keys_count c) (omega arith)
keys_count (an_entry (keyed h) c) = many (keys_count c) (omega arith)
keys_count (an_entry (plain h k) c) = many (keys_count c) (omega arith)
keys_count (an_entry slashed c) = many (keys_count c) (omega arith)
keys_count (an_entry bare c) = many (keys_count c) (omega arith)
keys_count (an_entry (gathered h) c) = many (keys_count c) (omega arith)
keys_count (an_entry (collected h) c) = many (keys_count c) (omega arith)

pub values_count : {es : List Entry} {ps : List EntryPlaces} → AllCounted es ps → Many (E.values ps) (marked_rows (shown_exprs (values es)))
values_count no_entry = none
values_count (an_entry (single h) c) = values_count c
values_count (an_entry (paired h k) c) = k ⊕ values_count c
values_count (an_entry (spread h) c) = values_count c
values_count (an_entry (doubled h) c) = h ⊕ values_count c
values_count (an_entry (keyed h) c) = values_count c
values_count (an_entry (plain h k) c) = values_count c
values_count (an_entry slashed c) = values_count c
values_count (an_entry bare c) = values_count c
values_count (an_entry (gathered h) c) = values_count c
values_count (an_entry (collected h) c) = values_count c

pub positional_count : {es : List Entry} {ps : List EntryPlaces} → AllCounted es ps
    → Many (E.positional ps) (marked_rows (shown_exprs (positional es)))
positional_count no_entry = none
positional_count (an_entry (single h) c) = h ⊕ positional_count c
positional_count (an_entry (paired h k) c) = positional_count c
positional_count (an_entry (spread h) c) = many (h ⊕ more (positional_count c)) (omega arith)
positional_count (an_entry (doubled h) c) = positional_count c
positional_count (an_entry (keyed h) c) = positional_count c
positional_count (an_entry (plain h k) c) = positional_count c
positional_count (an_entry slashed c) = positional_count c
positional_count (an_entry bare c) = positional_count c
positional_count (an_entry (gathered h) c) = positional_count c
positional_count (an_entry (collected h) c) = positional_count c

pub keywords_count : {es : List Entry} {ps : List EntryPlaces} → AllCounted es ps
    → Many (E.keywords ps) (marked_rows (shown_keywords (keywords es)))
keywords_count no_entry = none
keywords_count (an_entry (single h) c) = keywords_count c
keywords_count (an_entry (paired h k) c) = keywords_count c
keywords_count (an_entry (spread h) c) = keywords_count c
keywords_count (an_entry (doubled h) c) = many (h ⊕ more (keywords_count c)) (omega arith)
keywords_count (an_entry (keyed h) c) = many (h ⊕ more (keywords_count c)) (omega arith)
keywords_count (an_entry (plain h k) c) = keywords_count c
keywords_count (an_entry slashed c) = keywords_count c
keywords_count (an_entry bare c) = keywords_count c
keywords_count (an_entry (gathered h) c) = keywords_count c
keywords_count (an_entry (collected h) c) = keywords_count c

called_is : (b : Bool) (x e : Expr) → cond b (Some x) None ≡ Some e → x ≡ e
called_is true x e h = same_Some x e h
called_is false x e h = absurd (cc)

pub called_count : (f e : Expr) (es : List Entry) → called f es ≡ Some e
    → 1 + (marked (shown f) + (marked_rows (shown_exprs (positional es)) + marked_rows (shown_keywords (keywords es)))) ≡ marked (shown e)
called_count f e es h =
    let k : 1 + (marked (shown f) + (marked_rows (shown_exprs (positional es)) + marked_rows (shown_keywords (keywords es))))
    ≡ marked (shown (Trees.Call f (positional es) (keywords es))) = omega arith in
    k ∙ ap (λ x. marked (shown x)) (called_is (in_order false false es) (Trees.Call f (positional es) (keywords es)) e h)

-- ---- Parameters.

-- each default stands before the star or after it
defaults_split : (ps : List EntryPlaces) → length (E.keyword_defaults ps) + length (E.defaults ps) ≡ length (E.all_defaults ps)
defaults_split [] = refl
defaults_split (E.Single qs ∷ ps) = defaults_split ps
defaults_split (E.Paired qs rs ∷ ps) = defaults_split ps
defaults_split (E.Spread qs s ∷ ps) = defaults_split ps
defaults_split (E.Doubled qs s ∷ ps) = defaults_split ps
defaults_split (E.Keyed qs s ∷ ps) = defaults_split ps
defaults_split (E.Plain qs ds ∷ ps) = omega (
  arith,
  defaults_split ps,
  length-append ds (E.defaults ps),
  length-append ds (E.all_defaults ps),
)
defaults_split (E.Slashed ∷ ps) = defaults_split ps
defaults_split (E.Bare ∷ ps) = omega arith
defaults_split (E.Gathered qs ∷ ps) = omega arith
defaults_split (E.Collected qs ∷ ps) = defaults_split ps

parts_count : {es : List Entry} {ps : List EntryPlaces} → AllCounted es ps
    → length (E.parameters ps) + (length (E.all_defaults ps) + length (E.collected ps)) ≡ entries_total es
parts_count no_entry = refl
parts_count (an_entry (single h) c) = omega (arith, parts_count c)
parts_count (an_entry (paired h k) c) = omega (arith, parts_count c)
parts_count (an_entry (spread h) c) = omega (arith, parts_count c)
parts_count (an_entry (doubled h) c) = omega (arith, parts_count c)
parts_count (an_entry (keyed h) c) = omega (arith, parts_count c)
parts_count (an_entry {ps = ps} (plain {ps = qs} {ds = ds} h k) c) = omega (
  arith,
  parts_count c,
  h.is,
  k.is,
  length-append qs (E.parameters ps),
  length-append ds (E.all_defaults ps),
)
parts_count (an_entry slashed c) = omega (arith, parts_count c)
parts_count (an_entry bare c) = omega (arith, parts_count c)
parts_count (an_entry {ps = ps} (gathered {ps = qs} h) c) = omega (arith, parts_count c, h.is, length-append qs (E.parameters ps))
parts_count (an_entry {ps = ps} (collected {ps = qs} h) c) = omega (arith, parts_count c, h.is, length-append qs (E.collected ps))

pub arguments_count : {es : List Entry} {ps : List EntryPlaces} {a : Arguments} → AllCounted es ps → arranged es ≡ Some a
    → Many (E.arranged ps) (marked (shown_arguments a))
arguments_count {es} {ps} {a} c h = record {
  is = omega (
    arith,
    length-append (E.parameters ps) (E.keyword_defaults ps ++ (E.collected ps ++ E.defaults ps)),
    length-append (E.keyword_defaults ps) (E.collected ps ++ E.defaults ps),
    length-append (E.collected ps) (E.defaults ps),
    defaults_split ps,
    parts_count c,
    arranged_count es a h,
  );
}

-- ---- Parts of strings.

-- parts, and the places within each field
pub data PartsCounted : List StringPart → List (List Stretch) → Type 0 where
  no_part : PartsCounted [] []
  a_text : {ss : List StringPart} {fs : List (List Stretch)} (t : List ℕ) → PartsCounted ss fs → PartsCounted (Text t ∷ ss) fs
  a_field : {e : Expr} {f : List Stretch} {ss : List StringPart} {fs : List (List Stretch)} → 1 + length f ≡ marked (shown e)
      → PartsCounted ss fs → PartsCounted (Field e ∷ ss) (f ∷ fs)

pub parts_both : {ss ts : List StringPart} {fs gs : List (List Stretch)} → PartsCounted ss fs → PartsCounted ts gs
    → PartsCounted (ss ++ ts) (fs ++ gs)
parts_both no_part d = d
parts_both (a_text t c) d = a_text t (parts_both c d)
parts_both (a_field h c) d = a_field h (parts_both c d)

with_text_counted : {ss : List StringPart} {fs : List (List Stretch)} (t : List ℕ) → PartsCounted ss fs → PartsCounted (with_text t ss) fs
with_text_counted [] c = c
with_text_counted (x ∷ t) no_part = a_text (x ∷ t) no_part
with_text_counted (x ∷ t) (a_text u c) = a_text ((x ∷ t) ++ u) c
with_text_counted (x ∷ t) (a_field h c) = a_text (x ∷ t) (a_field h c)

pub merged_counted : {ss : List StringPart} {fs : List (List Stretch)} → PartsCounted ss fs → PartsCounted (merged ss) fs
merged_counted no_part = no_part
merged_counted (a_text t c) = with_text_counted t (merged_counted c)
merged_counted (a_field h c) = a_field h (merged_counted c)

text_count : (t : List ℕ) (u : Bool) → marked (shown (Trees.Constant (Values.Str t u))) ≡ 1
text_count t u = omega (arith, kind_none (Values.Str t u))

pub values_counted : {ss : List StringPart} {fs : List (List Stretch)} (u : Bool) (row : Stretch) → PartsCounted ss fs
    → Many (string_places row ss fs) (marked_rows (shown_exprs (values_of u ss)))
values_counted u row no_part = none
values_counted u row (a_text t c) = many (more (values_counted u row c)) (omega (arith, text_count t u))
values_counted u row (a_field {f = f} h c) = many (each f ⊕ more (values_counted u row c)) (omega (arith, h))

pub spec_values_counted : {ss : List StringPart} {fs : List (List Stretch)} (u : Bool) (row : Stretch) → PartsCounted ss fs
    → Many (string_places row ss fs) (marked_rows (shown_exprs (spec_values_of u ss)))
spec_values_counted u row no_part = none
spec_values_counted u row (a_text t no_part) = many (more none) (omega (arith, text_count t false))
spec_values_counted u row (a_text t (a_text s c)) =
    many (more (spec_values_counted u row (a_text s c))) (omega (arith, text_count t u))
spec_values_counted u row (a_text t (a_field h c)) =
    many (more (spec_values_counted u row (a_field h c))) (omega (arith, text_count t u))
spec_values_counted u row (a_field {f = f} h c) = many (each f ⊕ more (spec_values_counted u row c)) (omega (arith, h))
