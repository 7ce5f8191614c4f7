-- Imports.
--
-- Carries: aliases.rt, imports.rt. On: Looks, Says; Parts and Simple of pyplaces.
use Rattle.std.proofs.Common.{◌≡◌, refl, sym, arith, ℕ, ◌+◌, ◌<◌, List, [], ◌∷◌, ◌++◌, length, map, Option, Some, None}
use Rattle.std.proofs.Common.{Bool, true, false, Result, Ok, Err, length-append}
use Rattle.std.specs.Prelude.{IfOk, MatchResult}
use Rattle.pylex_lexeme.specs.Characters.{asterisk}
use Rattle.pylex_lexeme.specs.declared.kinds.Exact.TheVariants.{Comma, LPar, RPar, Star}
use Rattle.pytree_node.specs.Trees.{Alias, Identifier, Import, ImportFrom}
use Rattle.pytree_node.specs.TreeOf.{alias_of, stmt_of}
use Rattle.pytoken.specs.declared.keywords.Keyword.TheVariants as Key
use Rattle.pytoken.specs.Terminals.{Op, Terminal, Word}
use Rattle.pytoken.specs.declared.values.terminals.Terminal as given
use Rattle.pygrammar.specs.Forms as F
use Rattle.pygrammar.specs.Forms.{alias}
use Rattle.pygrammar.specs.LineReader.{dotted_alias, name_alias, read_dots, read_dotted}
use Rattle.pyparse_nodes.specs.Answers.{PartAt}
use Rattle.pyparse_nodes.specs.declared.stop.Stop.{Stop}
use Rattle.pyparse_nodes.specs.declared.stop.Stop.TheVariants as stop
use Rattle.pyparse_nodes.specs.Views.{Stands, seen}
use Rattle.pyplaces.specs.FormPlaces.{dotted_alias_places, name_alias_places}
use Rattle.pyplaces.specs.PlacedForms.{Commaed, PlacedCommas, PlacedDottedAlias, PlacedNameAlias, PlacedNames}
use Rattle.pyplaces.specs.Recording.{Records}
use Rattle.pyplaces.specs.Stretches.{Stretch, stretch}
use Rattle.pyplaces.proofs.Answers.{read_from, records_more, records_node, records_none}
use Rattle.pyplaces.proofs.Forms.Parts.{commaed_end, commaed_turn, commaed_with, commas_last, commas_turn, placed_all_names}
use Rattle.pyplaces.proofs.Forms.Parts.{placed_bracketed_names, placed_names}
use Rattle.pyplaces.proofs.Forms.Simple.{placed_from_dots, placed_from_module, placed_import}
use Rattle.pyplaces.proofs.Fronts.{built, own}
use Rattle.pyplaces.proofs.Loops.{Grows, grows_start}
use Rattle.pyparse_statement.specs.declared.statements.found.ReadAliases.{ReadAliases}
use Rattle.pyparse_statement.specs.declared.statements.found.ReadStatement.{ReadStatement}
use Rattle.pyparse_statement.specs.Inner.Imports.{more_names}
use Rattle.pyparse_statement.specs.PlacedParts.{AliasList, AliasesPlaced, DottedPlaced, NamesPlaced}
use Rattle.pyparse_statement.specs.PlacedStatements.{ImportPlaced, WordPlaced}
use Rattle.pyparse_statement.proofs.Callers.Looks.{front_ends, moved}
use Rattle.pyparse_statement.proofs.Recorders.Parts.{commaed_ended}
use Rattle.pyparse_statement.proofs.Recorders.Says.{dots_bare, dotted_alias_at, dotted_bare, name_alias_at}
use Rattle.pyparse_statement.proofs.Recorders.Words.{fields_of}

-- ---- A name of an import has one place.
dotted_place : {at n : ℕ} {us : List Terminal} {b : Alias} (d : F.DottedAlias us b) → at + length us ≡ n
    → dotted_alias_places at d ≡ stretch at n ∷ []
dotted_place (F.dotted_as {ts = ts} {us = us} d b) e = own (omega (arith, e, length-append ts us))

name_place : {at n : ℕ} {us : List Terminal} {b : Alias} (d : F.NameAlias us b) → at + length us ≡ n
    → name_alias_places at d ≡ stretch at n ∷ []
name_place (F.name_as {us = us} b) e = own (omega (arith, e))

module _ {ts : List given.Terminal} {at n : ℕ} {a : Alias} where
  pub dotted_placed : PartAt ts at (dotted_alias (seen ts at)) a n
      → PlacedDottedAlias (seen ts at) at a (seen ts n) n (stretch at n ∷ [])
  dotted_placed p =
      let d = dotted_alias_at p in
      let e = front_ends ts at n d.0 p.ahead p.within d.1 in
      built {ts = d.0} (record { is = d.1; ends = e }) d.2 (dotted_place d.2 e)

  pub name_placed : PartAt ts at (name_alias (seen ts at)) a n → PlacedNameAlias (seen ts at) at a (seen ts n) n (stretch at n ∷ [])
  name_placed p =
      let d = name_alias_at p in
      let e = front_ends ts at n d.0 p.ahead p.within d.1 in
      built {ts = d.0} (record { is = d.1; ends = e }) d.2 (name_place d.2 e)

-- ---- Names with dots.
pub record DottedGrown {S : Type 0} (after : S → Stretch → S) (ts : List given.Terminal) (at : ℕ) (old new : S) (xs : List Alias)
    (n : ℕ) : Type 0 where
  pub places : List Stretch
  pub grows : Grows (PlacedCommas Alias F.DottedAlias (λ us a. dotted_alias_places)) (seen ts at) at xs (seen ts n) n places
  pub records : Records after old places new

-- ---- Names, in brackets or not.
pub record AliasesGrown {S : Type 0} (after : S → Stretch → S) (ts : List given.Terminal) (at : ℕ) (old new : S) (xs : List Alias)
    (n : ℕ) : Type 0 where
  pub places : List Stretch
  pub bare : Grows (PlacedCommas Alias F.NameAlias (λ us a. name_alias_places)) (seen ts at) at xs (seen ts n) n places
  pub ended : Grows (Commaed Alias F.NameAlias (λ us a. name_alias_places)) (seen ts at) at xs (seen ts n) n places
  pub records : Records after old places new

module _ {S : Type 0} {after : S → Stretch → S} {ts : List given.Terminal} {at : ℕ} where
  pub dotted_start : {xs : List Alias} {u : S} → xs ≡ [] → DottedGrown after ts at u u xs at
  dotted_start h = record {
    places = [];
    grows = moved (seen ts)
        (λ xs s n. Grows (PlacedCommas Alias F.DottedAlias (λ us a. dotted_alias_places)) (seen ts at) at xs s n []) h refl grows_start;
    records = records_none;
  }

  pub aliases_start : {xs : List Alias} {u : S} → xs ≡ [] → AliasesGrown after ts at u u xs at
  aliases_start h = record {
    places = [];
    bare = moved (seen ts)
        (λ xs s n. Grows (PlacedCommas Alias F.NameAlias (λ us a. name_alias_places)) (seen ts at) at xs s n []) h refl grows_start;
    ended = moved (seen ts)
        (λ xs s n. Grows (Commaed Alias F.NameAlias (λ us a. name_alias_places)) (seen ts at) at xs s n []) h refl grows_start;
    records = records_none;
  }

  module _ {u v w : S} {xs : List Alias} {n k : ℕ} {a : Alias} where
    pub dotted_turn : {ys : List Alias} → DottedGrown after ts at u v xs n → PartAt ts n (dotted_alias (seen ts n)) a k
        → w ≡ after v (stretch n k)
        → ys ≡ xs ++ (a ∷ []) → Stands (Op Comma) ts k → DottedGrown after ts at u w ys (k + 1)
    dotted_turn g p q h s = record {
      places = g.places ++ (stretch n k ∷ []);
      grows = moved (seen ts) (λ z i m. Grows (PlacedCommas Alias F.DottedAlias (λ us a. dotted_alias_places)) (seen ts at) at z i m
          (g.places ++ (stretch n k ∷ []))) h refl (commas_turn g.grows (dotted_placed p) s.is);
      records = records_more g.records (records_node q);
    }

    pub dotted_last : {r : ReadAliases} → DottedGrown after ts at u v xs n → PartAt ts n (dotted_alias (seen ts n)) a k
        → w ≡ after v (stretch n k) → map alias_of r.aliases.items ≡ xs ++ (a ∷ []) → r.next ≡ k → DottedPlaced after ts at u w r
    dotted_last g p q h e = record {
      places = g.places ++ (stretch n k ∷ []);
      part = moved (seen ts) (λ z i m. PlacedCommas Alias F.DottedAlias (λ us a. dotted_alias_places) (seen ts at) at z i m
          (g.places ++ (stretch n k ∷ []))) h e (commas_last g.grows (dotted_placed p));
      records = records_more g.records (records_node q);
    }

    pub aliases_turn : {ys : List Alias} → AliasesGrown after ts at u v xs n → PartAt ts n (name_alias (seen ts n)) a k
        → w ≡ after v (stretch n k)
        → ys ≡ xs ++ (a ∷ []) → Stands (Op Comma) ts k → AliasesGrown after ts at u w ys (k + 1)
    aliases_turn g p q h s = record {
      places = g.places ++ (stretch n k ∷ []);
      bare = moved (seen ts) (λ z i m. Grows (PlacedCommas Alias F.NameAlias (λ us a. name_alias_places)) (seen ts at) at z i m
          (g.places ++ (stretch n k ∷ []))) h refl (commas_turn g.bare (name_placed p) s.is);
      ended = moved (seen ts) (λ z i m. Grows (Commaed Alias F.NameAlias (λ us a. name_alias_places)) (seen ts at) at z i m
          (g.places ++ (stretch n k ∷ []))) h refl (commaed_turn g.ended (name_placed p) s.is);
      records = records_more g.records (records_node q);
    }

    -- no comma after the last
    pub aliases_last : {r : ReadAliases} (bracketed : Bool) → AliasesGrown after ts at u v xs n
        → PartAt ts n (name_alias (seen ts n)) a k → w ≡ after v (stretch n k) → map alias_of r.aliases.items ≡ xs ++ (a ∷ []) → r.next ≡ k
        → AliasesPlaced after bracketed ts at u w r
    aliases_last bracketed g p q h e = record {
      places = g.places ++ (stretch n k ∷ []);
      part = moved (seen ts) (λ z i m. AliasList bracketed (seen ts at) at z i m (g.places ++ (stretch n k ∷ []))) h e (go bracketed);
      records = records_more g.records (records_node q);
    }
      where
        go : (b : Bool) → AliasList b (seen ts at) at (xs ++ (a ∷ [])) (seen ts k) k (g.places ++ (stretch n k ∷ []))
        go true = commaed_ended xs a (commaed_with g.ended (name_placed p))
        go false = commas_last g.bare (name_placed p)

    -- one after it, in brackets
    pub aliases_end : {r : ReadAliases} (rest : List Terminal) (bracketed : Bool) → AliasesGrown after ts at u v xs n
        → PartAt ts n (name_alias (seen ts n)) a k → w ≡ after v (stretch n k) → Stands (Op Comma) ts k → false ≡ more_names bracketed rest
        → map alias_of r.aliases.items ≡ xs ++ (a ∷ []) → r.next ≡ k + 1 → AliasesPlaced after bracketed ts at u w r
    aliases_end rest bracketed g p q s m h e = record {
      places = g.places ++ (stretch n k ∷ []);
      part = moved (seen ts) (λ z i m. AliasList bracketed (seen ts at) at z i m (g.places ++ (stretch n k ∷ []))) h e (go bracketed m);
      records = records_more g.records (records_node q);
    }
      where
        go : (b : Bool) → false ≡ more_names b rest
            → AliasList b (seen ts at) at (xs ++ (a ∷ [])) (seen ts (k + 1)) (k + 1) (g.places ++ (stretch n k ∷ []))
        go true m = commaed_ended xs a (commaed_end (commaed_turn g.ended (name_placed p) s.is))
        go false m = absurd (cc)

-- ---- The names after an `import`.
module _ {S : Type 0} (after : S → Stretch → S) (u v : S) where
  pub star_names : {ts : List given.Terminal} {at : ℕ} (z : Result ReadAliases Stop) → Stands (Op Star) ts at
      → v ≡ after u (stretch at (at + 1))
      → MatchResult z (λ r. map alias_of r.aliases.items ≡ alias (asterisk ∷ []) None ∷ []) (λ s. s ≡ stop.Memory)
      → MatchResult z (λ r. r.next ≡ at + 1) (λ s. s ≡ stop.Memory) → IfOk z (NamesPlaced after ts at u v)
  star_names {ts} {at} (Ok r) s k h q = record {
    places = stretch at (at + 1) ∷ [];
    part = moved (seen ts) (λ xs i n. PlacedNames (seen ts at) at xs i n (stretch at (at + 1) ∷ [])) h q (placed_all_names s.is);
    records = records_node k;
  }
  star_names (Err o) s k h q = tt

  pub bare_names : (ts : List given.Terminal) (at : ℕ) (z : Result ReadAliases Stop) → IfOk z (AliasesPlaced after false ts at u v)
      → IfOk z (NamesPlaced after ts at u v)
  bare_names ts at (Ok r) p = record { places = p.places; part = placed_names p.part; records = p.records }
  bare_names ts at (Err o) p = tt

module _ {S : Type 0} {after : S → Stretch → S} {ts : List given.Terminal} {at : ℕ} where
  pub bracketed_names : {u v : S} {r : ReadAliases} (names : ReadAliases) → Stands (Op LPar) ts at
      → AliasesPlaced after true ts (at + 1) u v names → Stands (Op RPar) ts names.next
      → map alias_of r.aliases.items ≡ map alias_of names.aliases.items → r.next ≡ names.next + 1 → NamesPlaced after ts at u v r
  bracketed_names names s p c h q = record {
    places = p.places;
    part = moved (seen ts) (λ xs i n. PlacedNames (seen ts at) at xs i n p.places) h q (placed_bracketed_names s.is p.part c.is);
    records = p.records;
  }

  -- ---- Whole statements.
  pub import_placed : {u v : S} {names : ReadAliases} {r : ReadStatement} → DottedPlaced after ts at u v names
      → stmt_of r.statement ≡ Import (map alias_of names.aliases.items) → r.next ≡ names.next → WordPlaced after Key.Import ts at u v (Ok r)
  import_placed d h n prof from q s = fields_of h n (placed_import s.is (read_from (seen ts) (sym q) d.part)) d.records

  pub import_of_placed : {u v : S} {source : Option Identifier} {level : ℕ} {names : ReadAliases} {r : ReadStatement}
      → NamesPlaced after ts at u v names → stmt_of r.statement ≡ ImportFrom source (map alias_of names.aliases.items) level
      → r.next ≡ names.next → ImportPlaced after source level ts at u v r
  import_of_placed {names = names} p h q = record {
    places = p.places;
    names = map alias_of names.aliases.items;
    statement = h;
    part = moved (seen ts) (λ xs i n. PlacedNames (seen ts at) at xs i n p.places) refl q p.part;
    records = p.records;
  }

module _ {S : Type 0} (after : S → Stretch → S) (u v : S) {ts : List given.Terminal} {at count n : ℕ} where
  pub from_dots_placed : (z : Result ReadStatement Stop) → PartAt ts at (read_dots (seen ts at)) count n → 0 < count
      → Stands (Word Key.Import) ts n → IfOk z (ImportPlaced after None count ts (n + 1) u v) → WordPlaced after Key.From ts at u v z
  from_dots_placed (Ok r) d c i p prof from q s = fields_of p.statement refl
      (placed_from_dots s.is (read_from (seen ts) (sym q) (dots_bare d)) c i.is p.part) p.records
  from_dots_placed (Err o) d c i p prof from q s = tt

  pub from_module_placed : {m : ℕ} {x : Identifier} (z : Result ReadStatement Stop)
      → PartAt ts at (read_dots (seen ts at)) count n → PartAt ts n (read_dotted (seen ts n)) x m → Stands (Word Key.Import) ts m
      → IfOk z (ImportPlaced after (Some x) count ts (m + 1) u v) → WordPlaced after Key.From ts at u v z
  from_module_placed (Ok r) d x i p prof from q s = fields_of p.statement refl
      (placed_from_module s.is (read_from (seen ts) (sym q) (dots_bare d)) (dotted_bare x) i.is p.part) p.records
  from_module_placed (Err o) d x i p prof from q s = tt
