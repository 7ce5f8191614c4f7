-- The loop over entries with commas between them.
--
-- Carries: read_entries, elements. On: PatternReader.
use Rattle.std.proofs.Common.{◌≡◌, refl, sym, ap, ◌∙◌, arith, ℕ, zero, suc, ◌+◌, ◌-◌, ◌≤◌, ◌<◌, max, List, [], ◌∷◌, ◌++◌, length, map, None}
use Rattle.std.proofs.Common.{true, false, cond}
use Rattle.pylex_lexeme.specs.declared.kinds.Exact.TheVariants.{Comma}
use Rattle.pytoken.specs.Terminals.{Terminal, Op}
use Rattle.pytoken.specs.declared.values.terminals.Terminal as given
use Rattle.pygrammar.specs.Looks.{is_op}
use Rattle.pygrammar.specs.PatternEntries.{PatternEntry, PatternItem}
use Rattle.pygrammar.specs.PatternReader as reader
use Rattle.pygrammar.specs.PatternReader.{starts_entry}
use Rattle.pygrammar.specs.Reader.{Answer, Found, and_then, on_first}
use Rattle.pyparse_nodes.specs.declared.stop.Stop.{Stop}
use Rattle.pyparse_nodes.specs.Answers.{Failed}
use Rattle.pyparse_nodes.specs.Views.{Stands, first_is, seen}
use Rattle.pyparse_reads.specs.declared.depth.Depth.{Depth}
use Rattle.pyparse_reads.proofs.Callers.Looks.{failed_then, first_miss, seen_length}
use Rattle.pyparse_pattern.specs.declared.entries.Entries.{Entries}
use Rattle.pyparse_pattern.specs.declared.entries.ReadEntry.{ReadEntry}
use Rattle.pyparse_pattern.specs.Inner.Entries.{entry_of}
use Rattle.pyparse_pattern.specs.Inner.Found.{EntriesAt, EntryAt}
use Rattle.pyparse_pattern.specs.Inner.Readings.{entries_of, entry_reads, field_reads, inner_reads}

some_left : (i : PatternItem) (r : List Terminal) → starts_entry i r ≡ true → 0 < length r
some_left i [] h = absurd (cc)
some_left i (t ∷ r) h = omega arith

module _ (ts : List given.Terminal) (d : Depth) (i : PatternItem) where
  abbrev loop : ℕ → List PatternEntry → List Terminal → Answer (List PatternEntry)
  loop m acc r = reader.entries_loop (d.room - 1) (field_reads d) (inner_reads d) i m acc r

  -- after an entry
  abbrev turned : ℕ → List PatternEntry → List Terminal → Answer (List PatternEntry)
  turned m acc r = on_first (is_op Comma) r (λ _ s. loop m acc s) (Found acc r)

  -- how far the loop has come
  pub record Listed (x : Answer (List PatternEntry)) (s : Entries) : Type 0 where
    pub within : s.next ≤ length ts
    pub low : s.height ≤ d.room - 1
    pub most : ℕ
    pub enough : length (seen ts s.next) ≤ most
    pub is : x ≡ loop most (map entry_of s.items.items) (seen ts s.next)

  pub entries_start : (at : ℕ) (s : Entries) → at ≤ length ts → map entry_of s.items.items ≡ [] → s.next ≡ at → s.height ≡ 0
      → Listed (entries_of d i (seen ts at)) s
  entries_start at s w g n h = record {
    within = omega arith;
    low = omega arith;
    most = length (seen ts s.next);
    enough = omega arith;
    is = ap (λ k. entries_of d i (seen ts k)) (sym n) ∙ ap (λ es. loop (length (seen ts s.next)) es (seen ts s.next)) (sym g);
  }

  stops : (m : ℕ) (acc : List PatternEntry) (r : List Terminal) → starts_entry i r ≡ false → loop m acc r ≡ Found acc r
  stops zero acc r h = refl
  stops (suc m) acc r h = ap (λ b. cond b (and_then (entry_reads d i r) (λ e r1. turned m (acc ++ (e ∷ [])) r1)) (Found acc r)) h

  goes : (m : ℕ) (acc : List PatternEntry) (r : List Terminal) → starts_entry i r ≡ true → loop (suc m) acc r ≡ and_then (entry_reads d i r)
      (λ e r1. turned m (acc ++ (e ∷ [])) r1)
  goes m acc r h = ap (λ b. cond b (and_then (entry_reads d i r) (λ e r1. turned m (acc ++ (e ∷ [])) r1)) (Found acc r)) h

  module _ (x : Answer (List PatternEntry)) (s : Entries) (c : Listed x s) where
    pub entries_end : (least : ℕ) → false ≡ starts_entry i (seen ts s.next) → least ≤ s.next → EntriesAt ts (d.room - 1) least x s
    entries_end least n le = record {
      ahead = le;
      within = c.within;
      low = c.low;
      is = c.is
          ∙ stops c.most (map entry_of s.items.items) (seen ts s.next) (sym n);
    }

    module _ (begun : true ≡ starts_entry i (seen ts s.next)) where
      pub entries_error : (e : Stop) → Failed e (entry_reads d i (seen ts s.next)) → Failed e x
      entries_error e f = go c.most c.enough c.is
        where
          go : (m : ℕ) → length (seen ts s.next) ≤ m → x ≡ loop m (map entry_of s.items.items) (seen ts s.next) → Failed e x
          go zero le q = absurd (omega (arith, le, some_left i (seen ts s.next) (sym begun)))
          go (suc m) le q = rw (q ∙ goes m (map entry_of s.items.items) (seen ts s.next) (sym begun))
              (failed_then e _ (λ y r. turned m (map entry_of s.items.items ++ (y ∷ [])) r) f)

      module _ (one : ReadEntry) (r : Entries) (f : EntryAt ts (d.room - 1) (s.next + 1) (entry_reads d i (seen ts s.next)) one)
          (g : map entry_of r.items.items ≡ map entry_of s.items.items ++ (entry_of one.entry ∷ [])) (n : r.next ≡ one.next)
          (h : r.height ≡ max s.height one.height) where
        turn : (m : ℕ) → x ≡ loop (suc m) (map entry_of s.items.items) (seen ts s.next)
            → x ≡ turned m (map entry_of r.items.items) (seen ts r.next)
        turn m q = q ∙ goes m (map entry_of s.items.items) (seen ts s.next) (sym begun)
            ∙ ap (λ y. and_then y (λ e u. turned m (map entry_of s.items.items ++ (e ∷ [])) u)) f.is
            ∙ ap (λ es. turned m es (seen ts one.next)) (sym g) ∙ ap (λ k. turned m (map entry_of r.items.items) (seen ts k)) (sym n)

        -- no comma after one
        pub entries_last : (least : ℕ) → None ≡ first_is (is_op Comma) (seen ts r.next) → least ≤ s.next
            → EntriesAt ts (d.room - 1) least x r
        entries_last least o le = go c.most c.enough c.is
          where
            go : (m : ℕ) → length (seen ts s.next) ≤ m → x ≡ loop m (map entry_of s.items.items) (seen ts s.next)
                → EntriesAt ts (d.room - 1) least x r
            go zero l q = absurd (omega (arith, l, some_left i (seen ts s.next) (sym begun)))
            go (suc m) l q = record {
              ahead = omega (arith, le, n, f.ahead);
              within = omega (arith, n, f.within);
              low = omega (arith, h, c.low, f.low);
              is = turn m q ∙ first_miss (is_op Comma) (seen ts r.next) _ (Found (map entry_of r.items.items) (seen ts r.next)) o;
            }

        -- a comma after one
        pub entries_more : (z : Entries) → Stands (Op Comma) ts r.next → map entry_of z.items.items ≡ map entry_of r.items.items
            → z.height ≡ r.height → z.next ≡ r.next + 1 → Listed x z
        entries_more z o zg zh zn = go c.most c.enough c.is
          where
            go : (m : ℕ) → length (seen ts s.next) ≤ m → x ≡ loop m (map entry_of s.items.items) (seen ts s.next) → Listed x z
            go zero l q = absurd (omega (arith, l, some_left i (seen ts s.next) (sym begun)))
            go (suc m) l q =
                let w : turned m (map entry_of r.items.items) (seen ts r.next) ≡ loop m (map entry_of r.items.items)
                (seen ts (r.next + 1)) = rw o.is refl in
                record {
                  within = omega (arith, zn, o.within);
                  low = omega (arith, zh, h, c.low, f.low);
                  most = m;
                  enough = omega (arith, l, zn, n, f.ahead, o.within, seen_length ts s.next, seen_length ts z.next);
                  is = turn m q ∙ w ∙ ap (λ es. loop m es (seen ts (r.next + 1))) (sym zg)
                      ∙ ap (λ k. loop m (map entry_of z.items.items) (seen ts k)) (sym zn);
                }
