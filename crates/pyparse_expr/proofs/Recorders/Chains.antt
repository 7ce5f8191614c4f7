-- The places of chains of `and` and `or`, and of comparisons.
--
-- Carries: links, chain, compared_at, compare. On: Made, Looks; Chains, Climbing and Turns of pyplaces.
use Rattle.std.proofs.Common.{◌≡◌, sym, ap, subst, ◌∙◌, arith, ℕ, ◌+◌, ◌≤◌, ◌<◌, List, [], ◌∷◌, ◌++◌, Option, Some, None, Result, map}
use Rattle.std.proofs.Common.{append_assoc}
use Rattle.std.proofs.lemmas.List.{append-nil}
use Rattle.std.specs.Prelude.{IfOk, MatchOption}
use Rattle.pytoken.specs.declared.keywords.Keyword.TheVariants as Key
use Rattle.pytree_node.specs.declared.operators.BoolOperator.{BoolOperator}
use Rattle.pytree_node.specs.declared.operators.Comparison.{Comparison}
use Rattle.pytree_node.specs.declared.operators.Comparison.TheVariants as Is
use Rattle.pytree_node.specs.Trees
use Rattle.pytree_node.specs.Trees.{Expr, exprs}
use Rattle.pytree_node.specs.TreeOf.{tree_of}
use Rattle.pytoken.specs.Terminals.{Terminal, Word}
use Rattle.pytoken.specs.declared.values.terminals.Terminal as given
use Rattle.pygrammar.specs.declared.levels.Level.{Level}
use Rattle.pygrammar.specs.declared.levels.Level.TheVariants.{BitOr}
use Rattle.pygrammar.specs.Looks.{is_word}
use Rattle.pygrammar.specs.Operators.{below, chain_level, chain_word, comparison, rank}
use Rattle.pygrammar.specs.Precedence as precedence
use Rattle.pygrammar.specs.Reader.{on_some}
use Rattle.pyparse_expr.specs.declared.chains.Compared.{Compared}
use Rattle.pyparse_nodes.specs.declared.found.Items.{Items}
use Rattle.pyparse_nodes.specs.declared.found.Read.{Read}
use Rattle.pyparse_nodes.specs.declared.stop.Stop.{Stop}
use Rattle.pyparse_nodes.specs.Answers.{Makes}
use Rattle.pyparse_nodes.specs.Views.{Stands, seen, first_is}
use Rattle.pyparse_expr.specs.Inner.PlacedOperations.{LinksPlaced, Unsigned}
use Rattle.pyplaces.specs.Stretches.{Stretch, stretch}
use Rattle.pyplaces.specs.Placed.{Placed, PlacedCompares, PlacedSign}
use Rattle.pyplaces.specs.Recording.{Records}
use Rattle.pyplaces.specs.Rests.{Links, Sides, no_sign, signs}
use Rattle.pyplaces.specs.Standing.{turn_of, Ended, Standing}
use Rattle.pyplaces.proofs.Answers.{read_as, records_none, records_node, records_more}
use Rattle.pyplaces.proofs.Loops.{Grows, grows_start}
use Rattle.pyplaces.proofs.Expressions.Chains.{links_turn, links_end, links_some, SidesGrow, sides_start, sides_turn, sides_end}
use Rattle.pyplaces.proofs.Expressions.Chains.{sign_one, sign_not_in, sign_is, sign_is_not}
use Rattle.pyplaces.proofs.Expressions.Climbing.{standing_chain, standing_compare}
use Rattle.pyplaces.proofs.Expressions.Turns.{joins_is, joins_turn, chain_facts, chain_ended, compare_ended}
use Rattle.pyparse_expr.proofs.Recorders.Made.{StoodAfter, stood_after}
use Rattle.pyparse_reads.proofs.Callers.Looks.{none_first, no_word, some_first}

-- ---- Sides of `and` and `or`: how far the loop has come.
pub record LinksRead {S : Type 0} (after : S → Stretch → S) (ts : List given.Terminal) (o : BoolOperator) (first r : Items) (old new : S)
    : Type 0 where
  pub sides : List Expr
  pub places : List Stretch
  pub trees : map tree_of r.exprs.items ≡ map tree_of first.exprs.items ++ sides
  pub grows : Grows (Links o) (seen ts first.next) first.next sides (seen ts r.next) r.next places
  pub most : turn_of (seen ts r.next) ≤ rank (chain_level o)
  pub records : Records after old places new

module _ {S : Type 0} {after : S → Stretch → S} (ts : List given.Terminal) (o : BoolOperator) where
  pub links_read : {u : S} (first : Items) → Stands (Word (chain_word o)) ts first.next → LinksRead after ts o first first u u
  links_read first s = record {
    sides = [];
    places = [];
    trees = sym (append-nil (map tree_of first.exprs.items));
    grows = grows_start;
    most = omega (arith, ap turn_of s.is ∙ joins_turn o);
    records = records_none;
  }

  pub links_more : {u v w : S} {qs : List Stretch} (first items r : Items) (e : Read) (l : Level) → LinksRead after ts o first items u v
      → Stands (Word (chain_word o)) ts items.next → l ≡ below (chain_level o)
      → Placed l (seen ts (items.next + 1)) (items.next + 1) (tree_of e.expr.value) (seen ts e.next) e.next qs
      → Ended (rank l) (seen ts e.next) → Records after v qs w
      → map tree_of r.exprs.items ≡ map tree_of items.exprs.items ++ (tree_of e.expr.value ∷ []) → r.next ≡ e.next
      → LinksRead after ts o first r u w
  links_more {qs = qs} first items r e l h s q p f k t n =
      let y = subst (λ j. Placed j (seen ts (items.next + 1)) (items.next + 1) (tree_of e.expr.value) (seen ts e.next) e.next qs) q p in
      let g : Grows (Links o) (seen ts first.next) first.next (h.sides ++ (tree_of e.expr.value ∷ [])) (seen ts e.next) e.next
      (h.places ++ qs) = links_turn h.grows s.is y in
      let less : turn_of (seen ts e.next) < rank (below (chain_level o)) = subst (λ j. Ended (rank j) (seen ts e.next)) q f in
      let most : turn_of (seen ts e.next) ≤ rank (chain_level o) = omega (arith, less, (chain_facts o).next) in
      record {
        sides = h.sides ++ (tree_of e.expr.value ∷ []);
        places = h.places ++ qs;
        trees = t ∙ ap (λ es. es ++ (tree_of e.expr.value ∷ [])) h.trees
            ∙ append_assoc (map tree_of first.exprs.items) h.sides (tree_of e.expr.value ∷ []);
        grows = subst (λ m. Grows (Links o) (seen ts first.next) first.next (h.sides ++ (tree_of e.expr.value ∷ [])) (seen ts m) m
            (h.places ++ qs)) (sym n) g;
        most = subst (λ m. turn_of (seen ts m) ≤ rank (chain_level o)) (sym n) most;
        records = records_more h.records k;
      }

  pub links_placed : {u v : S} (first items : Items) → LinksRead after ts o first items u v
      → None ≡ first_is (is_word (chain_word o)) (seen ts items.next)
      → LinksPlaced after ts o first items u v
  links_placed first items h n =
      let f = no_word (chain_word o) n in
      record {
        sides = h.sides;
        places = h.places;
        trees = h.trees;
        links = links_end h.grows f;
        ended = chain_ended o (seen ts items.next) f h.most;
        records = h.records;
      }

  pub chain_placed : {u v w : S} (left : Read) (first items : Items) (k at room : ℕ) (ps : List Stretch) (z : Result Read Stop)
      → map tree_of first.exprs.items ≡ tree_of left.expr.value ∷ [] → first.next ≡ left.next
      → Some (precedence.Joins o) ≡ first_is precedence.following (seen ts left.next) → k ≤ rank (chain_level o)
      → Standing k (seen ts at) at (tree_of left.expr.value) (seen ts left.next) left.next ps → LinksPlaced after ts o first items u v
      → w ≡ after v (stretch at items.next) → Makes room (Trees.BoolOp o (exprs (map tree_of items.exprs.items))) items.next z
      → IfOk z (StoodAfter after ts k (seen ts at) at ps u w)
  chain_placed {u = u} {w = w} left first items k at room ps z t n s b p h c m =
      let y = some_first precedence.following (precedence.Joins o) ts first.next (subst (λ j. Some (precedence.Joins o) ≡ first_is
      precedence.following (seen ts j)) (sym n) s) in
      let word : seen ts first.next ≡ Word (chain_word o) ∷ seen ts (first.next + 1) =
      y.1 ∙ ap (λ x. x ∷ seen ts (first.next + 1)) (joins_is y.0 o y.2) in
      let front = subst (λ j. Standing k (seen ts at) at (tree_of left.expr.value) (seen ts j) j ps) (sym n) p in
      let trees : map tree_of items.exprs.items ≡ tree_of left.expr.value ∷ h.sides = h.trees ∙ ap (λ es. es ++ h.sides) t in
      stood_after after u w ts ps k (seen ts at) at room (Trees.BoolOp o (exprs (map tree_of items.exprs.items))) items.next z m
      (subst (λ es. Standing k (seen ts at) at (Trees.BoolOp o (exprs es)) (seen ts items.next) items.next
      (ps ++ (h.places ++ (stretch at items.next ∷ [])))) (sym trees)
      (standing_chain front word b (links_some h.links word) h.ended)) (records_more h.records (records_node c))

-- ---- The sign of a comparison, or none.
module _ (ts : List given.Terminal) (at : ℕ) where
  pub one_placed : (o : Comparison) → Some o ≡ first_is comparison (seen ts at) → PlacedSign (seen ts at) at o (seen ts (at + 1)) (at + 1)
  one_placed o h = let w = some_first comparison o ts at h in sign_one w.2 w.1

  pub not_in_placed : Stands (Word Key.Not) ts at → Stands (Word Key.In) ts (at + 1)
      → PlacedSign (seen ts at) at Is.NotIn (seen ts (at + 2)) (at + 2)
  not_in_placed s k = read_as (seen ts) (omega arith) (sign_not_in s.is k.is)

  pub is_placed : Stands (Word Key.Is) ts at → PlacedSign (seen ts at) at Is.Is (seen ts (at + 1)) (at + 1)
  is_placed s = sign_is s.is

  pub is_not_placed : Stands (Word Key.Is) ts at → Stands (Word Key.Not) ts (at + 1)
      → PlacedSign (seen ts at) at Is.IsNot (seen ts (at + 2)) (at + 2)
  is_not_placed s k = read_as (seen ts) (omega arith) (sign_is_not s.is k.is)

-- what compared_at answered
abbrev SignAt : List given.Terminal → ℕ → Option Compared → Type 0
SignAt ts at o = MatchOption o (Unsigned (seen ts at)) (λ c. PlacedSign (seen ts at) at c.op (seen ts c.next) c.next)

pub here_sign : (ts : List given.Terminal) (at : ℕ) (o : Option Compared) (c : Compared) → o ≡ Some c → SignAt ts at o
    → PlacedSign (seen ts at) at c.op (seen ts c.next) c.next
here_sign ts at o c q h = subst (λ p. SignAt ts at p) q h

pub past_signs : (ts : List given.Terminal) (at : ℕ) (o : Option Compared) → o ≡ None → SignAt ts at o → Unsigned (seen ts at)
past_signs ts at o q h = subst (λ p. SignAt ts at p) q h

compares_turn : (r : List Terminal) → Some precedence.Compares ≡ first_is precedence.following r → turn_of r ≡ 13
compares_turn [] h = absurd (cc)
compares_turn (t ∷ r) h = ap (λ o. on_some o precedence.infix_rank 0) (sym h)

unsigned_ended : (r : List Terminal) → Unsigned r → turn_of r ≤ 13 → Ended 13 r
unsigned_ended r n h = compare_ended r (none_first comparison n.no_sign) (none_first (is_word Key.Not) n.no_not)
    (none_first (is_word Key.Is) n.no_is) h

compares_some : {i r : List Terminal} {at m : ℕ} {os : List Comparison} {es : List Expr} {ps : List Stretch} → Sides i at os es r m ps
    → Some precedence.Compares ≡ first_is precedence.following i → Unsigned r → PlacedCompares i at os es r m ps
compares_some {i} no_sign h n = absurd (omega (arith, unsigned_ended i n (omega (arith, compares_turn i h)), compares_turn i h))
compares_some (signs c) h n = c

-- ---- Sides of comparisons: how far the loop has come.
pub record SidesRead {S : Type 0} (after : S → Stretch → S) (ts : List given.Terminal) (n : ℕ) (ops : List Comparison) (items : Items)
    (old new : S) : Type 0 where
  pub places : List Stretch
  pub grows : SidesGrow (seen ts n) n ops (map tree_of items.exprs.items) (seen ts items.next) items.next places
  pub most : turn_of (seen ts items.next) ≤ 13
  pub records : Records after old places new

module _ {S : Type 0} {after : S → Stretch → S} (ts : List given.Terminal) (n : ℕ) where
  pub sides_read : {u : S} (ops : List Comparison) (items : Items) → ops ≡ [] → map tree_of items.exprs.items ≡ [] → items.next ≡ n
      → Some precedence.Compares ≡ first_is precedence.following (seen ts n) → SidesRead after ts n ops items u u
  sides_read ops items o t q s = record {
    places = [];
    grows = subst (λ m. SidesGrow (seen ts n) n ops (map tree_of items.exprs.items) (seen ts m) m []) (sym q)
        (subst (λ os. SidesGrow (seen ts n) n os (map tree_of items.exprs.items) (seen ts n) n []) (sym o)
        (subst (λ es. SidesGrow (seen ts n) n [] es (seen ts n) n []) (sym t) sides_start));
    most = omega (arith, ap (λ m. turn_of (seen ts m)) q, compares_turn (seen ts n) s);
    records = records_none;
  }

  pub sides_more : {u v w : S} {qs : List Stretch} (ops more : List Comparison) (items r : Items) (o : Comparison) (next : ℕ) (e : Read)
      → SidesRead after ts n ops items u v → PlacedSign (seen ts items.next) items.next o (seen ts next) next
      → Placed BitOr (seen ts next) next (tree_of e.expr.value) (seen ts e.next) e.next qs → Ended (rank BitOr) (seen ts e.next)
      → Records after v qs w → more ≡ ops ++ (o ∷ [])
      → map tree_of r.exprs.items ≡ map tree_of items.exprs.items ++ (tree_of e.expr.value ∷ []) → r.next ≡ e.next
      → SidesRead after ts n more r u w
  sides_more {qs = qs} ops more items r o next e h d p f k a t q =
      let g : SidesGrow (seen ts n) n (ops ++ (o ∷ [])) (map tree_of items.exprs.items ++ (tree_of e.expr.value ∷ [])) (seen ts e.next)
      e.next (h.places ++ qs) = sides_turn h.grows d p in
      let most : turn_of (seen ts e.next) ≤ 13 = omega (arith, f) in
      record {
        places = h.places ++ qs;
        grows = subst (λ m. SidesGrow (seen ts n) n more (map tree_of r.exprs.items) (seen ts m) m (h.places ++ qs)) (sym q)
            (subst (λ os. SidesGrow (seen ts n) n os (map tree_of r.exprs.items) (seen ts e.next) e.next (h.places ++ qs)) (sym a)
            (subst (λ es. SidesGrow (seen ts n) n (ops ++ (o ∷ [])) es (seen ts e.next) e.next (h.places ++ qs)) (sym t) g));
        most = subst (λ m. turn_of (seen ts m) ≤ 13) (sym q) most;
        records = records_more h.records k;
      }

  pub compare_placed : {u v w : S} (e : Expr) (ops : List Comparison) (items : Items) (k at room : ℕ)
      (ps : List Stretch) (z : Result Read Stop)
      → SidesRead after ts n ops items u v → Unsigned (seen ts items.next)
      → Some precedence.Compares ≡ first_is precedence.following (seen ts n) → k ≤ 13 → Standing k (seen ts at) at e (seen ts n) n ps
      → w ≡ after v (stretch at items.next) → Makes room (Trees.Compare e ops (exprs (map tree_of items.exprs.items))) items.next z
      → IfOk z (StoodAfter after ts k (seen ts at) at ps u w)
  compare_placed {u = u} {w = w} e ops items k at room ps z h f s b p c m =
      let y = some_first precedence.following precedence.Compares ts n s in
      stood_after after u w ts ps k (seen ts at) at room (Trees.Compare e ops (exprs (map tree_of items.exprs.items))) items.next z m
      (standing_compare p y.1 y.2 b (compares_some (sides_end h.grows) s f) (unsigned_ended (seen ts items.next) f h.most))
      (records_more h.records (records_node c))
