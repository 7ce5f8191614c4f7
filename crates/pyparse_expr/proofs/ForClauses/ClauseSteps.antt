-- The clauses of comprehensions, one after another.
--
-- Carries: for_in, comps. On: CompSteps, Reading.
use Rattle.std.proofs.Common.{◌≡◌, refl, sym, ap, ◌∙◌, arith, ℕ, zero, suc, ◌+◌, ◌≤◌, ◌<◌, subst, List, [], ◌∷◌, ◌++◌, length, map, Some}
use Rattle.std.proofs.Common.{Option, None, Bool, true, false, Result, Ok, Err}
use Rattle.std.specs.Prelude.{MatchOption, MatchResult}
use Rattle.pytoken.specs.declared.keywords.Keyword.TheVariants as Key
use Rattle.pytree_node.specs.Trees.{Comprehension}
use Rattle.pytree_node.specs.TreeOf.{tree_of, comprehension_of}
use Rattle.pytoken.specs.Terminals.{Word}
use Rattle.pytoken.specs.declared.values.terminals.Terminal as given
use Rattle.pygrammar.specs.declared.levels.Level.TheVariants as level
use Rattle.pygrammar.specs.Looks.{is_word}
use Rattle.pygrammar.specs.Targets.{stored}
use Rattle.pygrammar.specs.Reader.{Answer, Found, NoForm, and_then, on_first, made, generator_of, Reads, read_target, ifs_loop, for_in_step}
use Rattle.pygrammar.specs.Reader.{comps_loop}
use Rattle.pyparse_reads.specs.declared.depth.Depth.{Depth}
use Rattle.pyparse_nodes.specs.declared.found.Read.{Read}
use Rattle.pyparse_nodes.specs.declared.found.Items.{Items}
use Rattle.pyparse_nodes.specs.declared.found.ForClause.{ForClause}
use Rattle.pyparse_nodes.specs.declared.found.ForClauses.{ForClauses}
use Rattle.pyparse_nodes.specs.declared.stop.Stop.{Stop}
use Rattle.pyparse_nodes.specs.declared.stop.Stop.TheVariants as stop
use Rattle.pyparse_nodes.specs.Answers.{Failed, FoundAt}
use Rattle.pyparse_expr.specs.declared.comprehensions.ClauseStart.{ClauseStart}
use Rattle.pyparse_expr.specs.Inner.Clauses.{IsCutStart, MadeClause, NoClause, NoStart, StartsAt, StartWords}
use Rattle.pyparse_expr.specs.Inner.Found.{TestsAt, ClauseAt, ClausesAt}
use Rattle.pyparse_expr.specs.Inner.Readings.{inner_reads}
use Rattle.pyparse_nodes.specs.Views.{Stands, seen, first_is}
use Rattle.pyparse_expr.proofs.Reader.Reading.{first_miss, failed_then, seen_length}

-- one clause
module _ (ts : List given.Terminal) (d : Depth) (b : Bool) (at : ℕ) where
  pub clause_target : (e : Stop) → Failed e (read_target (inner_reads d) (seen ts at))
      → Failed e (for_in_step (inner_reads d) b (seen ts at))
  clause_target e f = failed_then e _ _ f

  module _ (room : ℕ) (t : Read) (ft : FoundAt ts room (at + 1) (read_target (inner_reads d) (seen ts at)) t) where
    pub clause_open : None ≡ first_is (is_word Key.In) (seen ts t.next) → for_in_step (inner_reads d) b (seen ts at) ≡ NoForm
    clause_open n = rw ft.is
        (first_miss (is_word Key.In) (seen ts t.next)
        (λ _ r2. and_then (inner_reads d level.Or r2) (λ e r3. and_then (ifs_loop (inner_reads d) (length r3) [] r3)
        (λ cs r4. made (generator_of (stored (tree_of t.expr.value)) e cs b) r4))) NoForm n)

    module _ (s : Stands (Word Key.In) ts t.next) where
      pub clause_iter : (e : Stop) → Failed e (inner_reads d level.Or (seen ts (t.next + 1)))
          → Failed e (for_in_step (inner_reads d) b (seen ts at))
      clause_iter e f = rw (ft.is, s.is)
          (failed_then e _ (λ i r3. and_then (ifs_loop (inner_reads d) (length r3) [] r3)
          (λ cs r4. made (generator_of (stored (tree_of t.expr.value)) i cs b) r4)) f)

      module _ (low : ℕ) (i : Read) (fi : FoundAt ts low (t.next + 1 + 1) (inner_reads d level.Or (seen ts (t.next + 1))) i) where
        pub clause_ifs : (e : Stop) → Failed e (ifs_loop (inner_reads d) (length (seen ts i.next)) [] (seen ts i.next))
            → Failed e (for_in_step (inner_reads d) b (seen ts at))
        clause_ifs e f = rw (ft.is, s.is, fi.is)
            (failed_then e _ (λ cs r4. made (generator_of (stored (tree_of t.expr.value)) (tree_of i.expr.value) cs b) r4) f)

        clause_is : (cs : Items) → TestsAt ts i.next (ifs_loop (inner_reads d) (length (seen ts i.next)) [] (seen ts i.next)) cs
            → for_in_step (inner_reads d) b (seen ts at) ≡ made (generator_of (stored (tree_of t.expr.value)) (tree_of i.expr.value)
            (map tree_of cs.exprs.items) b) (seen ts cs.next)
        clause_is cs f = rw (ft.is, s.is, fi.is, f.is) refl

        pub clause_none : (cs : Items) → TestsAt ts i.next (ifs_loop (inner_reads d) (length (seen ts i.next)) [] (seen ts i.next)) cs
            → generator_of (stored (tree_of t.expr.value)) (tree_of i.expr.value) (map tree_of cs.exprs.items) b ≡ None
            → for_in_step (inner_reads d) b (seen ts at) ≡ NoForm
        clause_none cs f h = clause_is cs f ∙ ap (λ o. made o (seen ts cs.next)) h

        pub clause_made : (cs : Items) (c : ForClause)
            → TestsAt ts i.next (ifs_loop (inner_reads d) (length (seen ts i.next)) [] (seen ts i.next)) cs
            → generator_of (stored (tree_of t.expr.value)) (tree_of i.expr.value) (map tree_of cs.exprs.items) b ≡ Some
            (comprehension_of c.generator) → c.next ≡ cs.next → ClauseAt ts (at + 1) (for_in_step (inner_reads d) b (seen ts at)) c
        clause_made cs c f h n = record {
          ahead = omega (arith, ft.ahead, fi.ahead, f.ahead, n);
          within = omega (arith, f.within, n);
          is = clause_is cs f ∙ ap (λ o. made o (seen ts cs.next)) h ∙ ap (λ k. Found (comprehension_of c.generator) (seen ts k)) (sym n);
        }

        pub clause_ended : (cs : Items) (z : Result ForClause Stop)
            → TestsAt ts i.next (ifs_loop (inner_reads d) (length (seen ts i.next)) [] (seen ts i.next)) cs
            → MatchResult z (λ c. MadeClause t i cs b c) (λ e. NoClause t i cs b e)
            → MatchResult z (λ c. ClauseAt ts (at + 1) (for_in_step (inner_reads d) b (seen ts at)) c)
            (λ e. Failed e (for_in_step (inner_reads d) b (seen ts at)))
        clause_ended cs (Ok c) f m = clause_made cs c f (sym m.is) m.next
        clause_ended cs (Err stop.NoForm) f m = clause_none cs f (sym m.is)
        clause_ended cs (Err stop.TooDeep) f m = absurd (unlike m.why)
          where
            unlike : stop.TooDeep ≡ stop.NoForm → ⊥
            unlike h = cc
        clause_ended cs (Err stop.Memory) f m = tt

-- how far the clauses were read
pub record Reached (ts : List given.Terminal) (d : Depth) (x : Answer (List Comprehension)) (r : ForClauses) : Type 0 where
  pub within : r.next ≤ length ts
  pub most : ℕ
  pub enough : length (seen ts r.next) ≤ most
  pub is : x ≡ comps_loop (inner_reads d) most (map comprehension_of r.generators.items) (seen ts r.next)

pub clauses_start : (ts : List given.Terminal) (d : Depth) (at : ℕ) (r : ForClauses) → at ≤ length ts
    → map comprehension_of r.generators.items ≡ [] → r.next ≡ at
    → Reached ts d (comps_loop (inner_reads d) (length (seen ts at)) [] (seen ts at)) r
clauses_start ts d at r w e n = record {
  within = omega (arith, w, n);
  most = length (seen ts at);
  enough = omega (arith, ap (λ k. length (seen ts k)) n);
  is = ap (λ gs. comps_loop (inner_reads d) (length (seen ts at)) gs (seen ts at)) (sym e)
      ∙ ap (λ k. comps_loop (inner_reads d) (length (seen ts at)) (map comprehension_of r.generators.items) (seen ts k)) (sym n);
}

module _ (ts : List given.Terminal) (d : Depth) (x : Answer (List Comprehension)) (r : ForClauses) (c : Reached ts d x r) where
  pub clauses_end : (least : ℕ) → None ≡ first_is (is_word Key.For) (seen ts r.next) → None ≡ first_is (is_word Key.Async) (seen ts r.next)
      → least ≤ r.next → ClausesAt ts least x r
  clauses_end least n a le = record { ahead = le; within = c.within; is = c.is ∙ go c.most }
    where
      go : (m : ℕ) → comps_loop (inner_reads d) m (map comprehension_of r.generators.items) (seen ts r.next) ≡ Found
          (map comprehension_of r.generators.items) (seen ts r.next)
      go zero = refl
      go (suc m) = first_miss (is_word Key.For) (seen ts r.next) (λ _ r1. and_then (for_in_step (inner_reads d) false r1)
          (λ g r2. comps_loop (inner_reads d) m (map comprehension_of r.generators.items ++ (g ∷ [])) r2))
          (on_first (is_word Key.Async) (seen ts r.next)
          (λ _ r1. on_first (is_word Key.For) r1 (λ _ r2. and_then (for_in_step (inner_reads d) true r2)
          (λ g r3. comps_loop (inner_reads d) m (map comprehension_of r.generators.items ++ (g ∷ [])) r3)) NoForm)
          (Found (map comprehension_of r.generators.items) (seen ts r.next))) n
          ∙ first_miss (is_word Key.Async) (seen ts r.next)
          (λ _ r1. on_first (is_word Key.For) r1 (λ _ r2. and_then (for_in_step (inner_reads d) true r2)
          (λ g r3. comps_loop (inner_reads d) m (map comprehension_of r.generators.items ++ (g ∷ [])) r3)) NoForm)
          (Found (map comprehension_of r.generators.items) (seen ts r.next)) a

-- a clause begins at a place, and its target after that
pub record Begins (ts : List given.Terminal) (n : ℕ) (b : Bool) (at : ℕ) : Type 0 where
  pub within : n < length ts
  pub ahead : n + 1 ≤ at
  pub is : (self : Reads) (m : ℕ) (acc : List Comprehension) → comps_loop self (suc m) acc (seen ts n) ≡ and_then
      (for_in_step self b (seen ts at)) (λ g r. comps_loop self m (acc ++ (g ∷ [])) r)

pub for_begins : (ts : List given.Terminal) (n : ℕ) → Stands (Word Key.For) ts n → Begins ts n false (n + 1)
for_begins ts n s = record { within = s.within; ahead = omega arith; is = λ self m acc. rw s.is refl }

pub async_begins : (ts : List given.Terminal) (n : ℕ) → Stands (Word Key.Async) ts n → Stands (Word Key.For) ts (n + 1)
    → Begins ts n true (n + 2)
async_begins ts n s f =
    let two : n + 1 + 1 ≡ n + 2 = omega arith in
    subst (λ at. Begins ts n true at) two (record { within = s.within; ahead = omega arith; is = λ self m acc. rw (s.is, f.is) refl })

pub hit_start : (ts : List given.Terminal) (n : ℕ) (o : Option ClauseStart) (s : ClauseStart) → o ≡ Some s
    → MatchOption o (NoStart ts n) (λ x. StartsAt ts n x) → StartsAt ts n s
hit_start ts n o s q m = subst (λ p. MatchOption p (NoStart ts n) (λ x. StartsAt ts n x)) q m

pub miss_start : (ts : List given.Terminal) (n : ℕ) (o : Option ClauseStart) → o ≡ None
    → MatchOption o (NoStart ts n) (λ x. StartsAt ts n x) → NoStart ts n
miss_start ts n o q m = subst (λ p. MatchOption p (NoStart ts n) (λ x. StartsAt ts n x)) q m

pub start_begins : (ts : List given.Terminal) (n : ℕ) (s : ClauseStart) → StartsAt ts n s → Begins ts n s.is_async s.at
start_begins ts n s x = go s.is_async s.at x.words
  where
    go : (b : Bool) (at : ℕ) → StartWords ts n b at → Begins ts n b at
    go false at w = subst (λ k. Begins ts n false k) (sym w.1) (for_begins ts n w.0)
    go true at w = subst (λ k. Begins ts n true k) (sym w.2) (async_begins ts n w.0 w.1)

module _ (ts : List given.Terminal) (d : Depth) (x : Answer (List Comprehension)) (r : ForClauses) (c : Reached ts d x r) where
  module _ (b : Bool) (at : ℕ) (s : Begins ts r.next b at) where
    pub clauses_error : (e : Stop) → Failed e (for_in_step (inner_reads d) b (seen ts at)) → Failed e x
    clauses_error e f = go c.most c.enough c.is
      where
        go : (m : ℕ) → length (seen ts r.next) ≤ m → x ≡ comps_loop (inner_reads d) m (map comprehension_of r.generators.items)
            (seen ts r.next) → Failed e x
        go zero le q = absurd (omega (arith, le, s.within, seen_length ts r.next))
        go (suc m) le q =
            let one : Failed e (and_then (for_in_step (inner_reads d) b (seen ts at))
            (λ g t. comps_loop (inner_reads d) m (map comprehension_of r.generators.items ++ (g ∷ [])) t)) = failed_then e _ _ f in
            rw (q, s.is (inner_reads d) m (map comprehension_of r.generators.items)) one

    pub clauses_more : (new : ForClauses) (g : ForClause) → ClauseAt ts (at + 1) (for_in_step (inner_reads d) b (seen ts at)) g
        → map comprehension_of new.generators.items ≡ map comprehension_of r.generators.items ++ (comprehension_of g.generator ∷ [])
        → new.next ≡ g.next → Reached ts d x new
    clauses_more new g f p k = go c.most c.enough c.is
      where
        go : (m : ℕ) → length (seen ts r.next) ≤ m → x ≡ comps_loop (inner_reads d) m (map comprehension_of r.generators.items)
            (seen ts r.next) → Reached ts d x new
        go zero le q = absurd (omega (arith, le, s.within, seen_length ts r.next))
        go (suc m) le q = record {
          within = omega (arith, k, f.within);
          most = m;
          enough = omega (arith, le, k, f.ahead, s.ahead, seen_length ts r.next, seen_length ts new.next);
          is = q
              ∙ s.is (inner_reads d) m (map comprehension_of r.generators.items)
              ∙ ap (λ y. and_then y (λ h t. comps_loop (inner_reads d) m (map comprehension_of r.generators.items ++ (h ∷ [])) t)) f.is
              ∙ ap (λ gs. comps_loop (inner_reads d) m gs (seen ts g.next)) (sym p)
              ∙ ap (λ n. comps_loop (inner_reads d) m (map comprehension_of new.generators.items) (seen ts n)) (sym k);
        }

  -- an `async` with no `for` after it
  clauses_cut : Stands (Word Key.Async) ts r.next → None ≡ first_is (is_word Key.For) (seen ts (r.next + 1)) → x ≡ NoForm
  clauses_cut s n = go c.most c.enough c.is
    where
      go : (m : ℕ) → length (seen ts r.next) ≤ m → x ≡ comps_loop (inner_reads d) m (map comprehension_of r.generators.items)
          (seen ts r.next) → x ≡ NoForm
      go zero le q = absurd (omega (arith, le, s.within, seen_length ts r.next))
      go (suc m) le q =
          let one : comps_loop (inner_reads d) (suc m) (map comprehension_of r.generators.items) (seen ts r.next) ≡ NoForm =
          rw s.is (first_miss (is_word Key.For) (seen ts (r.next + 1)) (λ _ r2. and_then (for_in_step (inner_reads d) true r2)
          (λ g r3. comps_loop (inner_reads d) m (map comprehension_of r.generators.items ++ (g ∷ [])) r3)) NoForm n) in
          q ∙ one

  pub clauses_unbegun : (e : Stop) → IsCutStart ts r.next e → Failed e x
  clauses_unbegun e h = subst (λ z. Failed z x) (sym h.why) (clauses_cut h.begun h.no_for)
