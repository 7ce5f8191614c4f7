-- The places of entries: what is recorded as they are read is what the definition puts one after the other.
--
-- Carries: read_entries, read_entry, key_entry, rest_entry, argument_entry, elements, others, finish_mapping, finish_class. On: Made;
-- Lists, Asides and Loops of pyplaces.
use Rattle.std.proofs.Common.{◌≡◌, refl, sym, ap, subst, ◌∙◌, ℕ, ◌+◌, List, [], ◌∷◌, ◌++◌, length, map, Some, Bool, true, false}
use Rattle.std.proofs.Common.{append_assoc, Result, Ok, Err}
use Rattle.std.specs.Prelude.{◌&&◌, not, IfOk, MatchResult}
use Rattle.std.proofs.lemmas.List.{append-nil}
use Rattle.pylex_lexeme.specs.declared.kinds.Exact.TheVariants.{Colon, Comma, DoubleStar, Equal}
use Rattle.pytree_node.specs.Trees.{Identifier, Pattern}
use Rattle.pytree_node.specs.TreeOf.{pattern_of, tree_of}
use Rattle.pytoken.specs.Terminals.{Terminal, Op}
use Rattle.pytoken.specs.declared.values.terminals.Terminal as given
use Rattle.pygrammar.specs.declared.pattern_levels.PatternLevel.TheVariants.{AsPattern, StarPattern}
use Rattle.pygrammar.specs.Looks.{name_in}
use Rattle.pygrammar.specs.PatternEntries.{PatternEntry, PatternItem, Element, KeyPattern, ClassArgument, Alone, Keyed, Rest, Named}
use Rattle.pygrammar.specs.PatternEntries.{all_named, are_class_arguments}
use Rattle.pygrammar.specs.PatternGrammar as P
use Rattle.pygrammar.specs.PatternOperators.{is_wildcard}
use Rattle.pyparse_nodes.specs.declared.found.Read.{Read}
use Rattle.pyparse_nodes.specs.declared.stop.Stop.{Stop}
use Rattle.pyparse_nodes.specs.declared.stop.Stop.TheVariants as stop
use Rattle.pyparse_nodes.specs.Views.{IsNamed, Stands, first_is, seen}
use Rattle.pyparse_pattern.specs.declared.entries.Entries as found
use Rattle.pyparse_pattern.specs.declared.entries.ReadEntry.{ReadEntry}
use Rattle.pyparse_pattern.specs.declared.found.Patterns.{Patterns}
use Rattle.pyparse_pattern.specs.declared.found.ReadPattern.{ReadPattern}
use Rattle.pyparse_pattern.specs.Inner.Entries.{alone_in, entry_of}
use Rattle.pyparse_pattern.specs.Inner.PlacedParts.{ElementsPlaced, EntriesPlaced, EntryPlaced, front, following, fronts, followings}
use Rattle.pyplaces.specs.Stretches.{Stretch}
use Rattle.pyplaces.specs.PatternPlaces as E
use Rattle.pyplaces.specs.PatternPlaces.{EntryPlaces, entries_places, pattern_places}
use Rattle.pyplaces.specs.PlacedPatterns.{PlacedEntries, PlacedEntry}
use Rattle.pyplaces.specs.Recording.{Kept, Moves, Records}
use Rattle.pyplaces.proofs.Asides.{Apart, kept_aside, kept_more, kept_none, kept_records, kept_then, records_kept}
use Rattle.pyplaces.proofs.Loops.{Grows, grows_start}
use Rattle.pyplaces.proofs.Patterns.Lists.{entries_end, entries_last, entries_turn, placed_class_argument, placed_element}
use Rattle.pyplaces.proofs.Patterns.Lists.{placed_key_pattern, placed_named_argument, placed_rest}
use Rattle.pyparse_reads.proofs.Callers.Looks.{name_first}
use Rattle.pyparse_pattern.proofs.Recorders.Made.{Whole, placed_in, said_as}
use Rattle.pyparse_pattern.proofs.Recorders.Values.{KeyRead}

-- ---- By what stands between the commas.

-- patterns alone
only_alone : {j : PatternItem} {ts : List Terminal} {es : List PatternEntry} (at : ℕ) (d : P.PatternListing j ts es) → j ≡ Element
    → (fronts (entries_places at d) ≡ E.alone (entries_places at d)) × (followings (entries_places at d) ≡ [])
only_alone at P.no_entry h = (refl, refl)
only_alone at (P.last_entry (P.element p)) h = (refl, refl)
only_alone at (P.last_entry _) h = absurd (cc)
only_alone at (P.entry {ts = ts} (P.element p) c) h =
    let r = only_alone (1 + (at + length ts)) c h in (ap (λ z. pattern_places at p ++ z) r.0, r.1)
only_alone at (P.entry _ c) h = absurd (cc)

-- keys and patterns
only_keys : {j : PatternItem} {ts : List Terminal} {es : List PatternEntry} (at : ℕ) (d : P.PatternListing j ts es) → j ≡ KeyPattern
    → (fronts (entries_places at d) ≡ E.pattern_keys (entries_places at d)) × (followings (entries_places at d)
    ≡ E.key_patterns (entries_places at d))
only_keys at P.no_entry h = (refl, refl)
only_keys at (P.last_entry (P.key_pattern k p)) h = (refl, refl)
only_keys at (P.last_entry (P.rest q)) h = (refl, refl)
only_keys at (P.last_entry _) h = absurd (cc)
only_keys at (P.entry {ts = us} (P.key_pattern {ts = ts} k p) c) h =
    let r = only_keys (1 + (at + length us)) c h in (
      ap (λ z. E.key_places at k ++ z) r.0,
      ap (λ z. pattern_places (1 + (at + length ts)) p ++ z) r.1,
    )
only_keys at (P.entry {ts = us} (P.rest q) c) h = only_keys (1 + (at + length us)) c h
only_keys at (P.entry _ c) h = absurd (cc)

-- arguments with a name
only_named : {j : PatternItem} {ts : List Terminal} {es : List PatternEntry} (at : ℕ) (d : P.PatternListing j ts es) → j ≡ ClassArgument
    → all_named es ≡ true
    → (fronts (entries_places at d) ≡ E.named (entries_places at d)) × (E.alone (entries_places at d) ≡ [])
only_named at P.no_entry h b = (refl, refl)
only_named at (P.last_entry (P.argument p)) h b = absurd (cc)
only_named at (P.last_entry (P.named_argument p)) h b = (refl, refl)
only_named at (P.last_entry _) h b = absurd (cc)
only_named at (P.entry (P.argument p) c) h b = absurd (cc)
only_named at (P.entry {ts = us} (P.named_argument p) c) h b =
    let r = only_named (1 + (at + length us)) c h b in (ap (λ z. pattern_places (2 + at) p ++ z) r.0, r.1)
only_named at (P.entry _ c) h b = absurd (cc)

-- arguments, of which those with a name come last
named_last : (fs : List EntryPlaces) → (fronts fs ≡ E.named fs) × (E.alone fs ≡ []) → fronts fs ≡ E.alone fs ++ E.named fs
named_last fs h = h.0 ∙ ap (λ z. z ++ E.named fs) (sym h.1)

second : (w : Bool) (x : Bool) → (not w && x) ≡ true → x ≡ true
second false x q = q
second true x q = absurd (cc)

in_order : {j : PatternItem} {ts : List Terminal} {es : List PatternEntry} (at : ℕ) (d : P.PatternListing j ts es) (b : Bool)
    → j ≡ ClassArgument → are_class_arguments b es ≡ true
    → fronts (entries_places at d) ≡ E.alone (entries_places at d) ++ E.named (entries_places at d)
in_order at P.no_entry b h q = refl
in_order at (P.last_entry (P.argument p)) b h q = sym (append-nil (pattern_places at p ++ []))
in_order at (P.last_entry (P.named_argument p)) b h q = refl
in_order at (P.last_entry _) b h q = absurd (cc)
in_order at (P.entry {ts = us} (P.argument p) c) b h q =
    ap (λ z. pattern_places at p ++ z) (in_order (1 + (at + length us)) c true h q)
    ∙ sym (append_assoc (pattern_places at p) (E.alone (entries_places (1 + (at + length us)) c))
    (E.named (entries_places (1 + (at + length us)) c)))
in_order at (P.entry {ts = us} {es = es} (P.named_argument {x = x} {ts = ts} {p = y} p) c) true h q =
    let d = P.entry (P.named_argument {x = x} {ts = ts} {p = y} p) c in
    named_last (entries_places at d) (only_named at d h (second _ (all_named es) q))
in_order at (P.entry {ts = us} {es = es} (P.named_argument {x = x} {ts = ts} {p = y} p) c) false h q =
    let d = P.entry (P.named_argument {x = x} {ts = ts} {p = y} p) c in
    named_last (entries_places at d) (only_named at d h q)
in_order at (P.entry _ c) b h q = absurd (cc)

module _ {i r : List Terminal} {at n : ℕ} {es : List PatternEntry} {fs : List EntryPlaces} where
  pub alone_fronts : PlacedEntries Element i at es r n fs → (fronts fs ≡ E.alone fs) × (followings fs ≡ [])
  alone_fronts p = subst (λ z. (fronts z ≡ E.alone z) × (followings z ≡ [])) p.places_are (only_alone at p.derived refl)

  pub key_fronts : PlacedEntries KeyPattern i at es r n fs → (fronts fs ≡ E.pattern_keys fs) × (followings fs ≡ E.key_patterns fs)
  key_fronts p = subst (λ z. (fronts z ≡ E.pattern_keys z) × (followings z ≡ E.key_patterns z)) p.places_are (only_keys at p.derived refl)

  pub class_fronts : PlacedEntries ClassArgument i at es r n fs → are_class_arguments false es ≡ true
      → fronts fs ≡ E.alone fs ++ E.named fs
  class_fronts p q = subst (λ z. fronts z ≡ E.alone z ++ E.named z) p.places_are (in_order at p.derived false refl q)

-- none of a class is set aside
no_after : {j : PatternItem} {ts : List Terminal} {es : List PatternEntry} (at : ℕ) (d : P.PatternListing j ts es) → j ≡ ClassArgument
    → followings (entries_places at d) ≡ []
no_after at P.no_entry h = refl
no_after at (P.last_entry (P.argument p)) h = refl
no_after at (P.last_entry (P.named_argument p)) h = refl
no_after at (P.last_entry _) h = absurd (cc)
no_after at (P.entry {ts = us} (P.argument p) c) h = no_after (1 + (at + length us)) c h
no_after at (P.entry {ts = us} (P.named_argument p) c) h = no_after (1 + (at + length us)) c h
no_after at (P.entry _ c) h = absurd (cc)

-- ---- One after the other.

fronts_push : (fs : List EntryPlaces) (e : EntryPlaces) → fronts (fs ++ (e ∷ [])) ≡ fronts fs ++ front e
fronts_push [] e = append-nil (front e)
fronts_push (f ∷ fs) e = ap (λ z. front f ++ z) (fronts_push fs e) ∙ sym (append_assoc (front f) (fronts fs) (front e))

afters_push : (fs : List EntryPlaces) (e : EntryPlaces) → followings (fs ++ (e ∷ [])) ≡ followings fs ++ following e
afters_push [] e = append-nil (following e)
afters_push (f ∷ fs) e = ap (λ z. following f ++ z) (afters_push fs e) ∙ sym (append_assoc (following f) (followings fs) (following e))

-- by equal runs
pub kept_as : {S : Type 0} {after beside : S → Stretch → S} {u v : S} {ps qs rs ss : List Stretch} → ps ≡ rs → qs ≡ ss
    → Kept after beside u rs ss v → Kept after beside u ps qs v
kept_as {after = after} {beside = beside} {u = u} {v = v} {ps = ps} {ss = ss} h q k =
    subst (λ z. Kept after beside u ps z v) (sym q) (subst (λ z. Kept after beside u z ss v) (sym h) k)

-- how far a list has come
pub record EntriesGrown {S : Type 0} (after beside : S → Stretch → S) (ts : List given.Terminal) (i : PatternItem) (at : ℕ)
    (now : found.Entries) (old new : S) : Type 0 where
  pub places : List EntryPlaces
  pub grows : Grows (PlacedEntries i) (seen ts at) at (map entry_of now.items.items) (seen ts now.next) now.next places
  pub kept : Kept after beside old (fronts places) (followings places) new

module _ {S : Type 0} {after beside : S → Stretch → S} {ts : List given.Terminal} {i : PatternItem} where
  pub entries_begun : {u : S} (at : ℕ) (s : found.Entries) → map entry_of s.items.items ≡ [] → s.next ≡ at
      → EntriesGrown after beside ts i at s u u
  entries_begun at s g n = record {
    places = [];
    grows = said_as (λ es r k. Grows (PlacedEntries i) (seen ts at) at es r k []) (seen ts) g n grows_start;
    kept = kept_none;
  }

  pub entries_ended : {u v : S} (at : ℕ) (s : found.Entries) → EntriesGrown after beside ts i at s u v
      → EntriesPlaced after beside ts i at s u v
  entries_ended at s g = record { places = g.places; listing = entries_end g.grows; kept = g.kept }

  module _ {u v w : S} (apart : Apart after beside) (at : ℕ) (s : found.Entries) (one : ReadEntry) (r : found.Entries)
      (g : EntriesGrown after beside ts i at s u v) (d : EntryPlaced after beside ts i s.next one v w)
      (q : map entry_of r.items.items ≡ map entry_of s.items.items ++ (entry_of one.entry ∷ [])) (n : r.next ≡ one.next) where
    both : Kept after beside u (fronts (g.places ++ (d.place ∷ []))) (followings (g.places ++ (d.place ∷ []))) w
    both = kept_as (fronts_push g.places d.place) (afters_push g.places d.place) (kept_more apart g.kept d.kept)

    -- no comma after it
    pub entries_closed : EntriesPlaced after beside ts i at r u w
    entries_closed = record {
      places = g.places ++ (d.place ∷ []);
      listing = said_as (λ es h k. PlacedEntries i (seen ts at) at es h k (g.places ++ (d.place ∷ []))) (seen ts) q n
          (entries_last g.grows d.piece);
      kept = both;
    }

    -- a comma after it
    pub entries_gone : (z : found.Entries) → Stands (Op Comma) ts r.next → map entry_of z.items.items ≡ map entry_of r.items.items
        → z.next ≡ r.next + 1 → EntriesGrown after beside ts i at z u w
    entries_gone z comma zg zn =
        let c : Stands (Op Comma) ts one.next = subst (λ k. Stands (Op Comma) ts k) n comma in
        record {
          places = g.places ++ (d.place ∷ []);
          grows = said_as (λ es h k. Grows (PlacedEntries i) (seen ts at) at es h k (g.places ++ (d.place ∷ []))) (seen ts) (zg ∙ q)
              (zn ∙ ap (λ k. k + 1) n) (entries_turn g.grows d.piece c.is);
          kept = both;
        }

-- ---- One entry.

module _ {S : Type 0} (after beside : S → Stretch → S) (ts : List given.Terminal) where
  pub entry_as : (u v : S) (i j : PatternItem) (at : ℕ) (z : Result ReadEntry Stop) → i ≡ j
      → IfOk z (λ r. EntryPlaced after beside ts j at r u v) → IfOk z (λ r. EntryPlaced after beside ts i at r u v)
  entry_as u v i j at z q h = subst (λ k. IfOk z (λ r. EntryPlaced after beside ts k at r u v)) (sym q) h

  pub element_placed : {u v : S} (i : PatternItem) (at : ℕ) (p : ReadPattern) (r : ReadEntry) → i ≡ Element
      → Whole after ts StarPattern (seen ts at) at u v p → entry_of r.entry ≡ Alone (pattern_of p.pattern.value) → r.next ≡ p.next
      → EntryPlaced after beside ts i at r u v
  element_placed {u} {v} i at p r q h g n =
      subst (λ k. EntryPlaced after beside ts k at r u v) (sym q) (record {
        place = E.Alone h.0;
        piece = said_as (λ e s k. PlacedEntry Element (seen ts at) at e s k (E.Alone h.0)) (seen ts) g n (placed_element h.1);
        kept = kept_records h.2;
      })

  pub rest_placed : (u : S) (at : ℕ) (z : Result ReadEntry Stop) → Stands (Op DoubleStar) ts at
      → IfOk z (λ r. PlacedEntry KeyPattern (Op DoubleStar ∷ seen ts (at + 1)) at (entry_of r.entry) (seen ts r.next) r.next E.Rest)
      → IfOk z (λ r. EntryPlaced after beside ts KeyPattern at r u u)
  rest_placed u at (Ok r) s h = record { place = E.Rest; piece = placed_in s.is h; kept = kept_none }
  rest_placed u at (Err e) s h = tt

  -- the pattern was recorded, and is set aside
  pub keyed_placed : {u v w x : S} {n : ℕ} (count : S → ℕ) (at : ℕ) (key : Read) (p : ReadPattern) (r : ReadEntry)
      → KeyRead after ts (seen ts at) at u v key → Stands (Op Colon) ts key.next
      → Whole after ts AsPattern (seen ts (key.next + 1)) (key.next + 1) v w p → n ≡ count v → Moves beside after count n w x
      → entry_of r.entry ≡ Keyed (tree_of key.expr.value) (pattern_of p.pattern.value) → r.next ≡ p.next
      → EntryPlaced after beside ts KeyPattern at r u x
  keyed_placed count at key p r k s h e m g n = record {
    place = E.Keyed k.0 h.0;
    piece = said_as (λ f t o. PlacedEntry KeyPattern (seen ts at) at f t o (E.Keyed k.0 h.0)) (seen ts) g n
        (placed_key_pattern k.1 s.is h.1);
    kept = kept_then k.2 (kept_aside count h.2 e m);
  }

  pub argument_placed : {u v : S} (at : ℕ) (p : ReadPattern) (r : ReadEntry) → Whole after ts AsPattern (seen ts at) at u v p
      → entry_of r.entry ≡ Alone (pattern_of p.pattern.value) → r.next ≡ p.next → EntryPlaced after beside ts ClassArgument at r u v
  argument_placed at p r h g n = record {
    place = E.Alone h.0;
    piece = said_as (λ e s k. PlacedEntry ClassArgument (seen ts at) at e s k (E.Alone h.0)) (seen ts) g n (placed_class_argument h.1);
    kept = kept_records h.2;
  }

  pub named_placed : {u v : S} (at : ℕ) (x y : Identifier) (p : ReadPattern) (r : ReadEntry) → IsNamed Equal x ts at → y ≡ x
      → Whole after ts AsPattern (seen ts (at + 2)) (at + 2) u v p → entry_of r.entry ≡ Named y (pattern_of p.pattern.value)
      → r.next ≡ p.next → EntryPlaced after beside ts ClassArgument at r u v
  named_placed at x y p r s q h g n = record {
    place = E.Named h.0;
    piece = said_as (λ e t k. PlacedEntry ClassArgument (seen ts at) at e t k (E.Named h.0)) (seen ts)
        (g ∙ ap (λ f. Named f (pattern_of p.pattern.value)) (q ∙ sym s.form)) n (placed_named_argument s.is h.1);
    kept = kept_records h.2;
  }

-- `**` and a name
pub rest_read : (ts : List given.Terminal) (begin at : ℕ) (f y : Identifier) (d : PatternEntry) (n : ℕ) → at ≡ begin + 1
    → Some f ≡ first_is name_in (seen ts at) → y ≡ f → is_wildcard y ≡ false → d ≡ Rest y → n ≡ at + 1
    → PlacedEntry KeyPattern (Op DoubleStar ∷ seen ts at) begin d (seen ts n) n E.Rest
rest_read ts begin at f y d n q s e w g k =
    let x = name_first f ts at s in
    let same : x.0.form ≡ y = x.2 ∙ sym e in
    let p : PlacedEntry KeyPattern (Op DoubleStar ∷ seen ts at) begin (Rest x.0.form) (seen ts (at + 1)) (at + 1) E.Rest =
    subst (λ m. PlacedEntry KeyPattern (Op DoubleStar ∷ seen ts at) begin (Rest x.0.form) (seen ts (at + 1)) (m + 1) E.Rest) (sym q)
    (placed_rest (ap is_wildcard same ∙ w) refl x.1) in
    said_as (λ c t m. PlacedEntry KeyPattern (Op DoubleStar ∷ seen ts at) begin c t m E.Rest) (seen ts) (g
    ∙ ap (λ z. Rest z) (sym same)) k p

-- ---- The patterns of a sequence.

module _ {S : Type 0} {after beside : S → Stretch → S} {u v : S} {ts : List given.Terminal} where
  pub elements_placed : {at : ℕ} {s : found.Entries} (before : List Pattern) (z : Result Patterns Stop)
      → EntriesPlaced after beside ts Element at s u v
      → MatchResult z (λ r. map pattern_of r.items.items ≡ before ++ alone_in (map entry_of s.items.items)) (λ e. e ≡ stop.Memory)
      → MatchResult z (λ r. r.next ≡ s.next) (λ e. e ≡ stop.Memory)
      → IfOk z (λ r. ElementsPlaced after ts at before r u v)
  elements_placed {at} {s} before (Ok r) d g n =
      let f = alone_fronts d.listing in
      record {
        entries = map entry_of s.items.items;
        places = d.places;
        gives = g;
        listing = said_as (λ es t k. PlacedEntries Element (seen ts at) at es t k d.places) (seen ts) refl n d.listing;
        records = records_kept (kept_as (sym f.0) (sym f.1) d.kept);
      }
  elements_placed before (Err e) d g n = tt

-- after others, from a place
pub elements_as : {S : Type 0} (after : S → Stretch → S) (u v : S) (ts : List given.Terminal) (m n : ℕ) (xs ys : List Pattern)
    (z : Result Patterns Stop)
    → m ≡ n → xs ≡ ys → IfOk z (λ r. ElementsPlaced after ts n ys r u v) → IfOk z (λ r. ElementsPlaced after ts m xs r u v)
elements_as after u v ts m n xs ys z q g h = subst (λ k. IfOk z (λ r. ElementsPlaced after ts k xs r u v)) (sym q)
    (subst (λ l. IfOk z (λ r. ElementsPlaced after ts n l r u v)) (sym g) h)

-- those of a class are recorded, and nothing is set aside
pub class_records : {S : Type 0} {after beside : S → Stretch → S} {u v : S} {ts : List given.Terminal} {at : ℕ} {s : found.Entries}
    (d : EntriesPlaced after beside ts ClassArgument at s u v) → Records after u (fronts d.places) v
class_records {at = at} d =
    let b : followings d.places ≡ [] = ap followings (sym d.listing.places_are) ∙ no_after at d.listing.derived refl in
    records_kept (kept_as refl (sym b) d.kept)
