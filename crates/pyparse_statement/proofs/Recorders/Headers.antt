-- Headers, but those of `def` and `class`.
--
-- Carries: conditions.rt, clauses.rt, loops.rt, items.rt, item_targets.rt, headers.rt. On: Looks, Says; Headers of pyplaces.
use Rattle.std.proofs.Common.{◌≡◌, refl, sym, ap, subst, ◌∙◌, ℕ, ◌+◌, List, [], ◌∷◌, ◌++◌, map, Option, Some, None, Bool, true}
use Rattle.std.proofs.Common.{false}
use Rattle.std.proofs.Common.{append-nil, Result, Ok, Err}
use Rattle.std.specs.Prelude.{IfOk}
use Rattle.pylex_lexeme.specs.declared.kinds.Exact.TheVariants.{Comma, LPar, RPar, Star}
use Rattle.pytree_node.specs.declared.operators.Context.TheVariants.{Load}
use Rattle.pytree_node.specs.declared.profiles.Profile.{Profile}
use Rattle.pytree_node.specs.Trees
use Rattle.pytree_node.specs.Trees.{Identifier, Item}
use Rattle.pytree_node.specs.TreeOf.{item_of, tree_of}
use Rattle.pytoken.specs.declared.keywords.Keyword.TheVariants as Key
use Rattle.pytoken.specs.Terminals.{Op, Terminal, Word}
use Rattle.pytoken.specs.declared.values.terminals.Terminal as given
use Rattle.pygrammar.specs.declared.levels.Level.TheVariants.{Expression, Named, Stars}
use Rattle.pygrammar.specs.FormOf.{header_of}
use Rattle.pygrammar.specs.Forms as F
use Rattle.pygrammar.specs.Forms.{item}
use Rattle.pygrammar.specs.LineReader.{bracketed, read_as}
use Rattle.pygrammar.specs.Lines.{Header, elif_header, else_header, except_header, finally_header, for_head, if_header}
use Rattle.pygrammar.specs.Lines.{loop_header, try_header, while_head, with_header}
use Rattle.pygrammar.specs.Reader.{NoForm}
use Rattle.pygrammar.specs.Targets.{stored}
use Rattle.pygrammar.proofs.Callers.Lines.{brackets_are_read}
use Rattle.pyparse_nodes.specs.Answers.{Failed, PartAt, Turned, Turns}
use Rattle.pyparse_nodes.specs.declared.found.Read.{Read}
use Rattle.pyparse_nodes.specs.declared.stop.Stop.{Stop}
use Rattle.pyparse_nodes.specs.declared.stop.Stop.TheVariants as stop
use Rattle.pyparse_nodes.specs.Views.{Stands, seen}
use Rattle.pyparse_reads.specs.declared.depth.Depth.{Depth}
use Rattle.pyparse_reads.specs.Readings.{reads}
use Rattle.pyplaces.specs.FormPlaces.{form_places, item_places, plain_header}
use Rattle.pyplaces.specs.Placed.{Placed}
use Rattle.pyplaces.specs.PlacedForms.{Bare, Commaed, PlacedCommas, PlacedHeader, PlacedItem, PlacedItems}
use Rattle.pyplaces.specs.Recording.{Records, afters}
use Rattle.pyplaces.specs.Stretches.{Stretch, stretch}
use Rattle.pyplaces.proofs.Answers.{read_as as read_up_to, read_from, records_more, records_node, records_none}
use Rattle.pyplaces.proofs.Expressions.Readings.{placed_item_target, placed_star_target, placed_target}
use Rattle.pyplaces.proofs.Forms.Headers.{placed_bare_item, placed_elif_line, placed_else_line, placed_except_all}
use Rattle.pyplaces.proofs.Forms.Headers.{placed_except_line, placed_except_star, placed_finally_line, placed_for_line, placed_if_line}
use Rattle.pyplaces.proofs.Forms.Headers.{placed_in_brackets, placed_item_as, placed_try_line, placed_while_line, placed_with_line}
use Rattle.pyplaces.proofs.Forms.Headers.{placed_without}
use Rattle.pyplaces.proofs.Forms.Parts.{bare_async, bare_no_async, commaed_end, commaed_turn, commaed_with, commas_last, commas_turn}
use Rattle.pyplaces.proofs.Loops.{Grows, grows_start}
use Rattle.pyparse_reads.proofs.Callers.Looks.{placed_at}
use Rattle.pyparse_statement.specs.declared.headers.found.ReadHeader.{ReadHeader}
use Rattle.pyparse_statement.specs.declared.headers.found.ReadItem.{ReadItem}
use Rattle.pyparse_statement.specs.declared.headers.found.ReadItems.{ReadItems}
use Rattle.pyparse_statement.specs.Inner.Items.{more_items}
use Rattle.pyparse_statement.specs.PlacedHeaders.{AsyncHeader, ExceptPlaced, HeaderPlaced, WordHeader}
use Rattle.pyparse_statement.specs.PlacedParts.{ItemList, ItemListPlaced, ItemPlaced, ItemsPlaced, TargetPlaced}
use Rattle.pyparse_statement.proofs.Callers.Looks.{moved}
use Rattle.pyparse_statement.proofs.Recorders.Parts.{commaed_ended}
use Rattle.pyparse_statement.proofs.Recorders.Says.{as_bare}

module _ {S : Type 0} {after : S → Stretch → S} {count : S → ℕ} {ts : List given.Terminal} where
  -- a header with nothing after the body
  pub plain_of : {prof : Profile} {from n : ℕ} {r : ReadHeader} {h : Header} {ps : List Stretch} {u v : S} → header_of r.header ≡ h
      → r.next ≡ n → r.before ≡ count v → PlacedHeader prof (seen ts from) from h (seen ts n) n (plain_header ps) → Records after u ps v
      → HeaderPlaced after count prof ts from u v r
  plain_of {prof} {from} {ps = ps} {u} h q b p k = record {
    before = ps;
    following = [];
    header = λ z e. moved (seen ts) (λ y s n. PlacedHeader prof (seen ts from) from y s n (form_places ps [] [])) h q p;
    before_is = b ∙ ap count k.is;
    records = record { is = k.is ∙ ap (λ l. afters after u l) (sym (append-nil ps)) };
  }

  -- ---- Tests.
  module _ {at : ℕ} {u v : S} {ps : List Stretch} {r : ReadHeader} (e : Read)
      (p : Placed Named (seen ts at) at (tree_of e.expr.value) (seen ts e.next) e.next ps) (k : Records after u ps v) (n : r.next ≡ e.next)
      (b : r.before ≡ count v) where
    pub if_placed : header_of r.header ≡ if_header (tree_of e.expr.value) → WordHeader after count Key.If ts at u v (Ok r)
    if_placed h prof from q s = plain_of h n b (placed_if_line s.is (read_from (seen ts) (sym q) p)) k

    pub elif_placed : header_of r.header ≡ elif_header (tree_of e.expr.value) → WordHeader after count Key.Elif ts at u v (Ok r)
    elif_placed h prof from q s = plain_of h n b (placed_elif_line s.is (read_from (seen ts) (sym q) p)) k

    pub while_placed : header_of r.header ≡ loop_header (while_head (tree_of e.expr.value))
        → WordHeader after count Key.While ts at u v (Ok r)
    while_placed h prof from q s = plain_of h n b (placed_while_line s.is (read_from (seen ts) (sym q) p)) k

  -- ---- Clauses.
  module _ {prof : Profile} {at : ℕ} {u : S} {r : ReadHeader} (n : r.next ≡ at + 1) (b : r.before ≡ count u) where
    pub else_placed : Stands (Word Key.Else) ts at → header_of r.header ≡ else_header → HeaderPlaced after count prof ts at u u r
    else_placed s h = plain_of h n b (placed_else_line s.is) records_none

    pub try_placed : Stands (Word Key.Try) ts at → header_of r.header ≡ try_header → HeaderPlaced after count prof ts at u u r
    try_placed s h = plain_of h n b (placed_try_line s.is) records_none

    pub finally_placed : Stands (Word Key.Finally) ts at → header_of r.header ≡ finally_header → HeaderPlaced after count prof ts at u u r
    finally_placed s h = plain_of h n b (placed_finally_line s.is) records_none

  pub except_all_placed : {at : ℕ} {u : S} {r : ReadHeader} → header_of r.header ≡ except_header false None None → r.next ≡ at
      → r.before ≡ count u → WordHeader after count Key.Except ts at u u (Ok r)
  except_all_placed h n b prof from q s = plain_of h (n ∙ q) b (placed_except_all s.is) records_none

  pub except_of_placed : {star : Bool} {at : ℕ} {u v : S} {ps : List Stretch} {name : Option Identifier} {r : ReadHeader} (e : Read)
      → Placed Expression (seen ts at) at (tree_of e.expr.value) (seen ts e.next) e.next ps → Records after u ps v
      → PartAt ts e.next (read_as (seen ts e.next)) name r.next → header_of r.header ≡ except_header star (Some (tree_of e.expr.value)) name
      → r.before ≡ count v → ExceptPlaced after count star ts at u v r
  except_of_placed {ps = ps} {name} e p k a h b = record {
    places = ps;
    class = tree_of e.expr.value;
    name = name;
    next = e.next;
    header = h;
    part = p;
    alias = as_bare a;
    before_is = b ∙ ap count k.is;
    records = k;
  }

  -- its count, as of the recorder after it
  counted : {star : Bool} {at : ℕ} {u v : S} {r : ReadHeader} (e : ExceptPlaced after count star ts at u v r) → r.before ≡ count v
  counted e = e.before_is ∙ ap count (sym e.records.is)

  -- ---- Loops.
  pub for_placed : {is_async : Bool} {at : ℕ} {u v w : S} {ps qs : List Stretch} {r : ReadHeader} (first target iter : Read)
      → Placed Stars (seen ts at) at (tree_of first.expr.value) (seen ts first.next) first.next ps → Records after u ps v
      → Stands (Word Key.In) ts first.next
      → Placed Stars (seen ts (first.next + 1)) (first.next + 1) (tree_of iter.expr.value) (seen ts iter.next) iter.next qs
      → Records after v qs w → Turned stored first target
      → header_of r.header ≡ loop_header (for_head is_async (tree_of target.expr.value) (tree_of iter.expr.value)) → r.next ≡ iter.next
      → r.before ≡ count w → AsyncHeader after count is_async Key.For ts at u w (Ok r)
  for_placed first target iter p k i q l t h n b prof from middle d a s = plain_of h n b
      (placed_for_line d s.is (read_from (seen ts) (sym a) (placed_target p t.is)) i.is q) (records_more k l)

  pub with_placed : {is_async : Bool} {at : ℕ} {u v : S} {items : ReadItems} {r : ReadHeader} → ItemsPlaced after ts at u v items
      → header_of r.header ≡ with_header is_async (map item_of items.items.items) → r.next ≡ items.next → r.before ≡ count v
      → AsyncHeader after count is_async Key.With ts at u v (Ok r)
  with_placed {is_async} {u = u} {items = items} {r} p h n b prof from middle d a s = record {
    before = p.places;
    following = [];
    header = λ z e. moved (seen ts) (λ y i m. PlacedHeader prof (seen ts from) from y i m (form_places p.places [] [])) h n
        (placed_with_line d s.is (read_from (seen ts) (sym a) (p.part z (sym (ap (λ m. seen ts m) n) ∙ e))));
    before_is = b ∙ ap count p.records.is;
    records = record { is = p.records.is ∙ ap (λ l. afters after u l) (sym (append-nil p.places)) };
  }

module _ {S : Type 0} (after : S → Stretch → S) (count : S → ℕ) (u v : S) where
  pub except_star_placed : {ts : List given.Terminal} {at : ℕ} (z : Result ReadHeader Stop) → Stands (Op Star) ts at
      → IfOk z (ExceptPlaced after count true ts (at + 1) u v) → WordHeader after count Key.Except ts at u v z
  except_star_placed {ts} (Ok r) t e prof from q s = plain_of e.header refl (counted e)
      (placed_except_star s.is (ap (λ n. seen ts n) (sym q) ∙ t.is) (placed_at (ap (λ n. n + 1) q) e.part) e.alias) e.records
  except_star_placed (Err o) t e prof from q s = tt

  pub except_line_placed : {ts : List given.Terminal} {at : ℕ} (z : Result ReadHeader Stop)
      → IfOk z (ExceptPlaced after count false ts at u v)
      → WordHeader after count Key.Except ts at u v z
  except_line_placed {ts} (Ok r) e prof from q s = plain_of e.header refl (counted e)
      (placed_except_line s.is (read_from (seen ts) (sym q) e.part) e.alias) e.records
  except_line_placed (Err o) e prof from q s = tt

-- in front of a word that `async` may stand in front of
pub async_front : {ts : List given.Terminal} {at : ℕ} → Stands (Word Key.Async) ts at
    → Bare (λ us. F.Async us true) (seen ts at) at (seen ts (at + 1)) (at + 1)
async_front s = bare_async s.is

pub no_async_front : (ts : List given.Terminal) {at : ℕ} → Bare (λ us. F.Async us false) (seen ts at) at (seen ts at) at
no_async_front ts = bare_no_async

-- ---- The items of a `with`.
pub target_placed : {S : Type 0} {after : S → Stretch → S} {at : ℕ} {u v : S} {ps : List Stretch} (ts : List given.Terminal)
    (e : Read) (z : Result Read Stop)
    → Placed Expression (seen ts at) at (tree_of e.expr.value) (seen ts e.next) e.next ps → Records after u ps v → Turns stored e z
    → IfOk z (TargetPlaced after ts at u v)
target_placed {ps = ps} ts e (Ok r) p k t =
    record { places = ps; part = read_up_to (seen ts) t.next (placed_item_target p t.is); records = k }
target_placed ts e (Err o) p k t = tt

module _ {S : Type 0} {after : S → Stretch → S} {ts : List given.Terminal} {at : ℕ} where
  pub star_target_placed : {u v w : S} {ps : List Stretch} (e s : Read) (z : Result Read Stop) → Stands (Op Star) ts at
      → Placed Expression (seen ts (at + 1)) (at + 1) (tree_of e.expr.value) (seen ts e.next) e.next ps → Records after u ps v
      → w ≡ after v (stretch at e.next) → tree_of s.expr.value ≡ Trees.Starred (tree_of e.expr.value) Load → s.next ≡ e.next
      → Turns stored s z → IfOk z (TargetPlaced after ts at u w)
  star_target_placed {ps = ps} e s (Ok r) t p k n h q f = record {
    places = ps ++ (stretch at e.next ∷ []);
    part = read_up_to (seen ts) (f.next ∙ q) (placed_star_target t.is p (ap stored (sym h) ∙ f.is));
    records = records_more k (records_node n);
  }
  star_target_placed e s (Err o) t p k n h q f = tt

  pub bare_item_placed : {u v : S} {ps : List Stretch} {r : ReadItem} (e : Read)
      → Placed Expression (seen ts at) at (tree_of e.expr.value) (seen ts e.next) e.next ps → Records after u ps v
      → item_of r.item ≡ item (tree_of e.expr.value) None → r.next ≡ e.next → ItemPlaced after ts at u v r
  bare_item_placed {ps = ps} e p k h n = record {
    places = ps;
    part = moved (seen ts) (λ x i m. PlacedItem (seen ts at) at x i m ps) h n (placed_bare_item p);
    records = k;
  }

  pub item_as_placed : {u v w : S} {ps : List Stretch} {r : ReadItem} (e target : Read)
      → Placed Expression (seen ts at) at (tree_of e.expr.value) (seen ts e.next) e.next ps → Records after u ps v
      → Stands (Word Key.As) ts e.next → TargetPlaced after ts (e.next + 1) v w target
      → item_of r.item ≡ item (tree_of e.expr.value) (Some (tree_of target.expr.value)) → r.next ≡ target.next
      → ItemPlaced after ts at u w r
  item_as_placed {ps = ps} e target p k s t h n = record {
    places = ps ++ t.places;
    part = moved (seen ts) (λ x i m. PlacedItem (seen ts at) at x i m (ps ++ t.places)) h n (placed_item_as p s.is t.part);
    records = records_more k t.records;
  }

-- how far they were read
pub record ItemsGrown {S : Type 0} (after : S → Stretch → S) (ts : List given.Terminal) (at : ℕ) (old new : S)
    (now : ReadItems) : Type 0 where
  pub places : List Stretch
  pub bare : Grows (PlacedCommas Item F.ItemOf (λ us x. item_places)) (seen ts at) at (map item_of now.items.items) (seen ts now.next)
      now.next places
  pub ended : Grows (Commaed Item F.ItemOf (λ us x. item_places)) (seen ts at) at (map item_of now.items.items) (seen ts now.next) now.next
      places
  pub records : Records after old places new

module _ {S : Type 0} {after : S → Stretch → S} {ts : List given.Terminal} {at : ℕ} where
  pub items_start : {now : ReadItems} {u : S} → map item_of now.items.items ≡ [] → now.next ≡ at → ItemsGrown after ts at u u now
  items_start h q = record {
    places = [];
    bare = moved (seen ts) (λ xs s n. Grows (PlacedCommas Item F.ItemOf (λ us x. item_places)) (seen ts at) at xs s n []) h q grows_start;
    ended = moved (seen ts) (λ xs s n. Grows (Commaed Item F.ItemOf (λ us x. item_places)) (seen ts at) at xs s n []) h q grows_start;
    records = records_none;
  }

  module _ {now next : ReadItems} {u v w : S} (one : ReadItem) (g : ItemsGrown after ts at u v now)
      (d : ItemPlaced after ts now.next v w one)
      (h : map item_of next.items.items ≡ map item_of now.items.items ++ (item_of one.item ∷ [])) where
    pub items_turn : Stands (Op Comma) ts one.next → next.next ≡ one.next + 1 → ItemsGrown after ts at u w next
    items_turn s q = record {
      places = g.places ++ d.places;
      bare = moved (seen ts) (λ xs i n. Grows (PlacedCommas Item F.ItemOf (λ us x. item_places)) (seen ts at) at xs i n
          (g.places ++ d.places)) h q (commas_turn g.bare d.part s.is);
      ended = moved (seen ts) (λ xs i n. Grows (Commaed Item F.ItemOf (λ us x. item_places)) (seen ts at) at xs i n
          (g.places ++ d.places)) h q (commaed_turn g.ended d.part s.is);
      records = records_more g.records d.records;
    }

    pub items_last : (in_brackets : Bool) → next.next ≡ one.next → ItemListPlaced after in_brackets ts at u w next
    items_last in_brackets q = record {
      places = g.places ++ d.places;
      part = moved (seen ts) (λ xs i n. ItemList in_brackets (seen ts at) at xs i n (g.places ++ d.places)) h q (go in_brackets);
      records = records_more g.records d.records;
    }
      where
        go : (b : Bool) → ItemList b (seen ts at) at (map item_of now.items.items ++ (item_of one.item ∷ [])) (seen ts one.next) one.next
            (g.places ++ d.places)
        go true = commaed_ended (map item_of now.items.items) (item_of one.item) (commaed_with g.ended d.part)
        go false = commas_last g.bare d.part

    pub items_end : (rest : List Terminal) (in_brackets : Bool) → Stands (Op Comma) ts one.next → false ≡ more_items in_brackets rest
        → next.next ≡ one.next + 1 → ItemListPlaced after in_brackets ts at u w next
    items_end rest in_brackets s m q = record {
      places = g.places ++ d.places;
      part = moved (seen ts) (λ xs i n. ItemList in_brackets (seen ts at) at xs i n (g.places ++ d.places)) h q (go in_brackets m);
      records = records_more g.records d.records;
    }
      where
        go : (b : Bool) → false ≡ more_items b rest
            → ItemList b (seen ts at) at (map item_of now.items.items ++ (item_of one.item ∷ [])) (seen ts (one.next + 1)) (one.next + 1)
            (g.places ++ d.places)
        go true m = commaed_ended (map item_of now.items.items) (item_of one.item) (commaed_end (commaed_turn g.ended d.part s.is))
        go false m = absurd (cc)

  -- in brackets, and without
  pub bracketed_placed : {u v : S} {r : ReadItems} (items : ReadItems) → Stands (Op LPar) ts at
      → ItemListPlaced after true ts (at + 1) u v items → Stands (Op RPar) ts items.next
      → map item_of r.items.items ≡ map item_of items.items.items → r.next ≡ items.next + 1 → ItemsPlaced after ts at u v r
  bracketed_placed items s p c h q = record {
    places = p.places;
    part = λ z e. moved (seen ts) (λ xs i n. PlacedItems (seen ts at) at xs i n p.places) h q (placed_in_brackets s.is p.part c.is);
    records = p.records;
  }

  -- read with a recorder of their own, which is added to this one
  pub added_placed : {u v a b : S} {r : ReadItems} (start : S) → ItemsPlaced after ts at a b r → a ≡ start
      → ((ps : List Stretch) → b ≡ afters after start ps → v ≡ afters after u ps) → ItemsPlaced after ts at u v r
  added_placed start p q f = record {
    places = p.places;
    part = p.part;
    records = record { is = f p.places (p.records.is ∙ ap (λ w. afters after w p.places) q) };
  }

-- where none stand in brackets
pub unbracketed_placed : {S : Type 0} (after : S → Stretch → S) (ts : List given.Terminal) (at : ℕ) (u v : S) (d : Depth) (s : Stop)
    (z : Result ReadItems Stop) → Failed s (bracketed (reads d) (seen ts at)) → s ≡ stop.NoForm
    → IfOk z (ItemListPlaced after false ts at u v) → IfOk z (ItemsPlaced after ts at u v)
unbracketed_placed after ts at u v d s (Ok r) f q p =
    let none : bracketed (reads d) (seen ts at) ≡ NoForm = subst (λ e. Failed e (bracketed (reads d) (seen ts at))) q f in
    record {
      places = p.places;
      part = λ z e. placed_without p.part (λ others b. brackets_are_read d.steps d.room (seen ts at) p.part.front z others none
          (p.part.is ∙ ap (λ i. p.part.front ++ i) e) b);
      records = p.records;
    }
unbracketed_placed after ts at u v d s (Err o) f q p = tt
