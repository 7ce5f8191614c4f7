-- Parts of statements: expressions that may be left out, targets, and lists of them.
--
-- Carries: optional.rt, deleted_one, deleted_all, delete. On: Looks; Parts of pyplaces.
use Rattle.std.proofs.Common.{◌≡◌, ℕ, ◌+◌, List, [], ◌∷◌, ◌++◌, map, Some, None, Result, Ok, Err}
use Rattle.std.specs.Prelude.{IfOk}
use Rattle.pylex_lexeme.specs.declared.kinds.Exact.TheVariants.{Comma}
use Rattle.pytree_node.specs.Trees.{Expr}
use Rattle.pytree_node.specs.TreeOf.{boxed_of, tree_of}
use Rattle.pytoken.specs.Terminals.{Terminal, Op}
use Rattle.pytoken.specs.declared.values.terminals.Terminal as given
use Rattle.pygrammar.specs.declared.levels.Level.{Level}
use Rattle.pygrammar.specs.declared.levels.Level.TheVariants.{Expression}
use Rattle.pygrammar.specs.Grammar.{DelTarget}
use Rattle.pygrammar.specs.Targets.{deleted}
use Rattle.pyparse_nodes.specs.Answers.{Turns}
use Rattle.pyparse_nodes.specs.declared.found.Items.{Items}
use Rattle.pyparse_nodes.specs.declared.found.Optional.{Optional}
use Rattle.pyparse_nodes.specs.declared.found.Read.{Read}
use Rattle.pyparse_nodes.specs.declared.stop.Stop.{Stop}
use Rattle.pyparse_nodes.specs.Views.{Stands, seen}
use Rattle.pyplaces.specs.ExpressionPlaces.{del_target_places}
use Rattle.pyplaces.specs.Placed.{Placed}
use Rattle.pyplaces.specs.PlacedForms.{Commaed, PlacedAfter, PlacedEnded, PlacedOptional}
use Rattle.pyplaces.specs.Recording.{Records}
use Rattle.pyplaces.specs.Stretches.{Stretch}
use Rattle.pyplaces.proofs.Answers.{read_as, records_more, records_none}
use Rattle.pyplaces.proofs.Expressions.Readings.{placed_del_target}
use Rattle.pyplaces.proofs.Forms.Parts.{commaed_end, commaed_some, commaed_turn, commaed_with, placed_after, placed_given, placed_left_out}
use Rattle.pyplaces.proofs.Forms.Parts.{placed_none_after}
use Rattle.pyplaces.proofs.Loops.{Grows, grows_start}
use Rattle.pyparse_statement.specs.PlacedParts.{AllDeletedPlaced, AfterPlaced, DeletedPlaced, OptionalPlaced}
use Rattle.pyparse_statement.proofs.Callers.Looks.{moved}

-- the last of a list is there, so the list is some
pub commaed_ended : {A : Type 0} {X : List Terminal → A → Type 0} {one : (ts : List Terminal) (a : A) → ℕ → X ts a → List Stretch}
    {i r : List Terminal} {at n : ℕ} {ps : List Stretch} (xs : List A) (x : A) → Commaed A X one i at (xs ++ (x ∷ [])) r n ps
    → PlacedEnded A X one i at (xs ++ (x ∷ [])) r n ps
commaed_ended [] x c = commaed_some c
commaed_ended (y ∷ xs) x c = commaed_some c

module _ {S : Type 0} {after : S → Stretch → S} {ts : List given.Terminal} {at : ℕ} where
  -- ---- An expression that may be left out.
  module _ {l : Level} where
    pub optional_none : {r : Optional} {u : S} → boxed_of r.expr ≡ None → r.next ≡ at → OptionalPlaced after l ts at u u r
    optional_none h q = record {
      places = [];
      part = moved (seen ts) (λ o s n. PlacedOptional l (seen ts at) at o s n []) h q placed_left_out;
      records = records_none;
    }

    pub optional_one : {ps : List Stretch} {r : Optional} {u v : S} (e : Read) → boxed_of r.expr ≡ Some (tree_of e.expr.value)
        → r.next ≡ e.next → Placed l (seen ts at) at (tree_of e.expr.value) (seen ts e.next) e.next ps → Records after u ps v
        → OptionalPlaced after l ts at u v r
    optional_one {ps = ps} e h q p k = record {
      places = ps;
      part = moved (seen ts) (λ o s n. PlacedOptional l (seen ts at) at o s n ps) h q (placed_given p);
      records = k;
    }

    pub after_none : {t : Terminal} {r : Optional} {u : S} → boxed_of r.expr ≡ None → r.next ≡ at → AfterPlaced after t l ts at u u r
    after_none {t} h q = record {
      places = [];
      part = moved (seen ts) (λ o s n. PlacedAfter t l (seen ts at) at o s n []) h q placed_none_after;
      records = records_none;
    }

    pub following_one : {t : Terminal} {ps : List Stretch} {r : Optional} {u v : S} (e : Read)
        → boxed_of r.expr ≡ Some (tree_of e.expr.value) → r.next ≡ e.next → Stands t ts at
        → Placed l (seen ts (at + 1)) (at + 1) (tree_of e.expr.value) (seen ts e.next) e.next ps → Records after u ps v
        → AfterPlaced after t l ts at u v r
    following_one {t} {ps = ps} e h q s p k = record {
      places = ps;
      part = moved (seen ts) (λ o s n. PlacedAfter t l (seen ts at) at o s n ps) h q (placed_after s.is p);
      records = k;
    }

-- ---- What is deleted.
pub deleted_placed : {S : Type 0} {after : S → Stretch → S} {at : ℕ} {ps : List Stretch} {u v : S} (ts : List given.Terminal) (e : Read)
    (z : Result Read Stop) → Placed Expression (seen ts at) at (tree_of e.expr.value) (seen ts e.next) e.next ps → Records after u ps v
    → Turns deleted e z → IfOk z (DeletedPlaced after ts at u v)
deleted_placed {ps = ps} ts e (Ok r) p k t =
    record { places = ps; part = read_as (seen ts) t.next (placed_del_target p t.is); records = k }
deleted_placed ts e (Err o) p k t = tt

abbrev pub DeletedRun : List Terminal → ℕ → List Expr → List Terminal → ℕ → List Stretch → Type 0
DeletedRun i at es s n ps = Grows (Commaed Expr DelTarget (λ us e. del_target_places)) i at es s n ps

abbrev pub DeletedAll : List Terminal → ℕ → List Expr → List Terminal → ℕ → List Stretch → Type 0
DeletedAll i at es s n ps = PlacedEnded Expr DelTarget (λ us e. del_target_places) i at es s n ps

-- how far they were read
pub record DeletedGrown {S : Type 0} (after : S → Stretch → S) (ts : List given.Terminal) (at : ℕ) (old new : S)
    (now : Items) : Type 0 where
  pub places : List Stretch
  pub grows : Grows (Commaed Expr DelTarget (λ us e. del_target_places)) (seen ts at) at (map tree_of now.exprs.items) (seen ts now.next)
      now.next places
  pub records : Records after old places new

module _ {S : Type 0} {after : S → Stretch → S} {ts : List given.Terminal} {at : ℕ} where
  pub deleted_start : {items : Items} {u : S} → map tree_of items.exprs.items ≡ [] → items.next ≡ at → DeletedGrown after ts at u u items
  deleted_start h q = record {
    places = [];
    grows = moved (seen ts) (λ es s n. DeletedRun (seen ts at) at es s n []) h q grows_start;
    records = records_none;
  }

  module _ {items next : Items} {u v w : S} (e : Read) (g : DeletedGrown after ts at u v items)
      (d : DeletedPlaced after ts items.next v w e)
      (h : map tree_of next.exprs.items ≡ map tree_of items.exprs.items ++ (tree_of e.expr.value ∷ [])) where
    pub deleted_turn : Stands (Op Comma) ts e.next → next.next ≡ e.next + 1 → DeletedGrown after ts at u w next
    deleted_turn s q = record {
      places = g.places ++ d.places;
      grows = moved (seen ts) (λ es s n. DeletedRun (seen ts at) at es s n (g.places ++ d.places)) h q (commaed_turn g.grows d.part s.is);
      records = records_more g.records d.records;
    }

    pub deleted_last : next.next ≡ e.next → AllDeletedPlaced after ts at u w next
    deleted_last q = record {
      places = g.places ++ d.places;
      part = moved (seen ts) (λ es s n. DeletedAll (seen ts at) at es s n (g.places ++ d.places)) h q
          (commaed_ended (map tree_of items.exprs.items) (tree_of e.expr.value) (commaed_with g.grows d.part));
      records = records_more g.records d.records;
    }

    pub deleted_end : Stands (Op Comma) ts e.next → next.next ≡ e.next + 1 → AllDeletedPlaced after ts at u w next
    deleted_end s q = record {
      places = g.places ++ d.places;
      part = moved (seen ts) (λ es s n. DeletedAll (seen ts at) at es s n (g.places ++ d.places)) h q
          (commaed_ended (map tree_of items.exprs.items) (tree_of e.expr.value) (commaed_end (commaed_turn g.grows d.part s.is)));
      records = records_more g.records d.records;
    }
