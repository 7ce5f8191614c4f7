-- The loops over the parts of an f-string, and over literals and f-strings.
--
-- Carries: read_parts, read_formatted, more_literals, read_joined. On: Formatted.Values, Reading.
use Rattle.std.proofs.Common.{◌≡◌, refl, sym, ap, ◌∙◌, arith, ℕ, zero, suc, ◌+◌, ◌≤◌, ◌<◌, List, [], ◌∷◌, ◌++◌, length, drop, Some}
use Rattle.std.proofs.Common.{None, Bool, Result, Ok, Err, MatchResult}
use Rattle.pytree_node.specs.Trees
use Rattle.pytree_node.specs.Trees.{Expr, exprs}
use Rattle.pytree_node.specs.Values.{Value}
use Rattle.pytree_node.specs.TreeOf.{tree_of}
use Rattle.pytoken.specs.FormattedStrings.{text_points}
use Rattle.pytoken.specs.TerminalOf.{text_part}
use Rattle.pytoken.specs.Terminals.{Terminal, FormattedBegin, FormattedEnd}
use Rattle.pytoken.specs.declared.values.terminals.Terminal as given
use Rattle.pygrammar.specs.FormattedStrings.{StringPart, Text, Field, merged, text_of, values_of}
use Rattle.pygrammar.specs.Looks.{literal_in, text_in, conversion_in, is_formatted_begin, is_formatted_end}
use Rattle.pygrammar.specs.Reader.{Answer, Found, NoForm, TooDeep, Reads, and_then, on_first, on_some, field_with, parts_loop}
use Rattle.pygrammar.specs.Reader.{formatted_step, literals_loop, joined_step}
use Rattle.pyparse_nodes.specs.declared.found.Read.{Read}
use Rattle.pyparse_nodes.specs.declared.found.JoinedValues.{JoinedValues}
use Rattle.pyparse_nodes.specs.declared.boundaries.FormattedPart.{FormattedPart}
use Rattle.pyparse_nodes.specs.declared.boundaries.FormattedPart.TheVariants as part
use Rattle.pyparse_nodes.specs.declared.stop.Stop.{Stop}
use Rattle.pyparse_nodes.specs.declared.stop.Stop.TheVariants as stop
use Rattle.pyparse_nodes.specs.Answers.{Failed, PartAnswered}
use Rattle.pyparse_nodes.specs.JoinedStates.{Gathers, IsNode, ended, gathered, state, state_of, step}
use Rattle.pyparse_nodes.specs.Boundaries.{conversion_of, points_of}
use Rattle.pyparse_nodes.specs.Runs.{IsNoText}
use Rattle.pyparse_nodes.specs.Views.{Stands, seen, first_is}
use Rattle.pyparse_reads.specs.declared.depth.Depth.{Depth}
use Rattle.pyparse_expr.specs.Inner.Readings.{inner_reads}
use Rattle.pyparse_expr.specs.Inner.Strings.{AddedAt, PartsAt, part_reads}
use Rattle.pyparse_expr.proofs.Reader.Reading.{seen_next, seen_length, first_hit, first_miss, failed_then}
use Rattle.pyparse_expr.proofs.Formatted.Values.{joined_values, steps_append}

-- one part more
grown : (u : Bool) (ps : List StringPart) (p : StringPart) → gathered u (ps ++ (p ∷ [])) ≡ step u (gathered u ps) p
grown u ps p = steps_append u (state [] []) ps (p ∷ [])

module _ (self : Reads) (u : Bool) where
  field_turn : (m : ℕ) (acc : List StringPart) (x : Answer Expr) → and_then x (λ e s. parts_loop self u m (acc ++ (Field e ∷ [])) s) ≡
      and_then (and_then x (λ e s. Found (Field e) s)) (λ q s. parts_loop self u m (acc ++ (q ∷ [])) s)
  field_turn m acc NoForm = refl
  field_turn m acc TooDeep = refl
  field_turn m acc (Found e s) = refl

  part_turn : (p : FormattedPart) (m : ℕ) (acc : List StringPart) (r : List Terminal) → points_of (Some p) ≡ first_is text_in r
      → conversion_of (Some p) ≡ first_is conversion_in r → parts_loop self u (suc m) acc r ≡ and_then (part_reads self u m p (drop 1 r))
      (λ q s. parts_loop self u m (acc ++ (q ∷ [])) s)
  part_turn (part.Text p) m acc r h k = first_hit text_in r (text_points (text_part p)) _ _ h
  part_turn (part.Field c) m acc r h k = first_miss text_in r _ _ h ∙ first_hit conversion_in r c _ _ k
      ∙ field_turn m acc (field_with self (λ i. parts_loop self u m [] i) u c (drop 1 r))

  parts_stop : (m : ℕ) (acc : List StringPart) (r : List Terminal) → None ≡ first_is text_in r → None ≡ first_is conversion_in r
      → parts_loop self u m acc r ≡ Found acc r
  parts_stop zero acc r h k = refl
  parts_stop (suc m) acc r h k = first_miss text_in r _ _ h ∙ first_miss conversion_in r _ _ k

  literal_turn : (v : Value) (m : ℕ) (acc : List StringPart) (r : List Terminal) → Some v ≡ first_is literal_in r
      → literals_loop self u (suc m) acc r ≡ on_some (text_of v) (λ t. literals_loop self u m (acc ++ (Text t ∷ [])) (drop 1 r)) NoForm
  literal_turn v m acc r h = first_hit literal_in r v _ _ h

  literals_stop : (m : ℕ) (acc : List StringPart) (r : List Terminal) → None ≡ first_is literal_in r → None ≡ first_is is_formatted_begin r
      → literals_loop self u m acc r ≡ Found acc r
  literals_stop zero acc r h k = refl
  literals_stop (suc m) acc r h k = first_miss literal_in r _ _ h ∙ first_miss is_formatted_begin r _ _ k

-- how far a loop has come: the rest is read by `loop`
pub record SoFar (loop : ℕ → List StringPart → List Terminal → Answer (List StringPart)) (u : Bool) (ts : List given.Terminal)
    (x : Answer (List StringPart)) (j : JoinedValues) : Type 0 where
  pub within : j.next ≤ length ts
  pub most : ℕ
  pub enough : length (seen ts j.next) ≤ most
  pub parts : List StringPart
  pub is : x ≡ loop most parts (seen ts j.next)
  pub gives : state_of j ≡ gathered u parts

module _ (ts : List given.Terminal) (d : Depth) (u : Bool) where
  abbrev pub Parts : Answer (List StringPart) → JoinedValues → Type 0
  Parts x j = SoFar (λ m acc r. parts_loop (inner_reads d) u m acc r) u ts x j

  abbrev pub Literals : Answer (List StringPart) → JoinedValues → Type 0
  Literals x j = SoFar (λ m acc r. literals_loop (inner_reads d) u m acc r) u ts x j

  pub parts_start : (before : JoinedValues) (most : ℕ) (acc : List StringPart) → before.next ≤ length ts
      → length (seen ts before.next) ≤ most → state_of before ≡ gathered u acc
      → Parts (parts_loop (inner_reads d) u most acc (seen ts before.next)) before
  parts_start before most acc w le g = record { within = w; most = most; enough = le; parts = acc; is = refl; gives = g }

  pub literals_start : (before : JoinedValues) (acc : List StringPart) → before.next ≤ length ts → state_of before ≡ gathered u acc
      → Literals (literals_loop (inner_reads d) u (length (seen ts before.next)) acc (seen ts before.next)) before
  literals_start before acc w g = record {
    within = w;
    most = length (seen ts before.next);
    enough = omega arith;
    parts =
        acc;
    is = refl;
    gives = g;
  }

  module _ (x : Answer (List StringPart)) (j : JoinedValues) where
    module _ (c : Parts x j) where
      pub parts_end : (least : ℕ) → least ≤ j.next → None ≡ first_is text_in (seen ts j.next)
          → None ≡ first_is conversion_in (seen ts j.next) → PartsAt u ts least x j
      parts_end least le h k = record {
        ahead = le;
        within = c.within;
        parts = c.parts;
        is = c.is ∙ parts_stop (inner_reads d) u c.most c.parts (seen ts j.next) h k;
        gives = c.gives;
      }

      module _ (p : FormattedPart) (w : j.next < length ts) (h : points_of (Some p) ≡ first_is text_in (seen ts j.next))
          (k : conversion_of (Some p) ≡ first_is conversion_in (seen ts j.next)) where
        turned : (m : ℕ) → length (seen ts j.next) ≤ suc m → x ≡ parts_loop (inner_reads d) u (suc m) c.parts (seen ts j.next)
            → x ≡ and_then (part_reads (inner_reads d) u m p (seen ts (j.next + 1)))
            (λ q s. parts_loop (inner_reads d) u m (c.parts ++ (q ∷ [])) s)
        turned m le q = q ∙ part_turn (inner_reads d) u p m c.parts (seen ts j.next) h k
            ∙ ap (λ r. and_then (part_reads (inner_reads d) u m p r) (λ q s. parts_loop (inner_reads d) u m (c.parts ++ (q ∷ [])) s))
            (seen_next ts j.next)

        shorter : (m : ℕ) → length (seen ts j.next) ≤ suc m → length (seen ts (j.next + 1)) ≤ m
        shorter m le = omega (arith, le, w, seen_length ts j.next, seen_length ts (j.next + 1))

        pub parts_error : (e : Stop)
            → ((m : ℕ) → length (seen ts (j.next + 1)) ≤ m → Failed e (part_reads (inner_reads d) u m p (seen ts (j.next + 1))))
            → Failed e x
        parts_error e f = go c.most c.enough c.is
          where
            go : (m : ℕ) → length (seen ts j.next) ≤ m → x ≡ parts_loop (inner_reads d) u m c.parts (seen ts j.next) → Failed e x
            go zero le q = absurd (omega (arith, le, w, seen_length ts j.next))
            go (suc m) le q = rw (turned m le q) (failed_then e _ _ (f m (shorter m le)))

        pub parts_more : (i : JoinedValues)
            → ((m : ℕ) → length (seen ts (j.next + 1)) ≤ m
            → AddedAt u ts (j.next + 1) j (part_reads (inner_reads d) u m p (seen ts (j.next + 1))) i) → Parts x i
        parts_more i f = go c.most c.enough c.is
          where
            go : (m : ℕ) → length (seen ts j.next) ≤ m → x ≡ parts_loop (inner_reads d) u m c.parts (seen ts j.next) → Parts x i
            go zero le q = absurd (omega (arith, le, w, seen_length ts j.next))
            go (suc m) le q = let a = f m (shorter m le) in record {
              within = a.within;
              most = m;
              enough = omega (arith, shorter m le, a.ahead, seen_length ts i.next, seen_length ts (j.next + 1));
              parts = c.parts ++ (a.one ∷ []);
              is = turned m le q ∙ ap (λ y. and_then y (λ q s. parts_loop (inner_reads d) u m (c.parts ++ (q ∷ [])) s)) a.is;
              gives = a.gives ∙ ap (λ s. step u s a.one) c.gives ∙ sym (grown u c.parts a.one);
            }

    module _ (c : Literals x j) where
      pub literals_end : (least : ℕ) → least ≤ j.next → None ≡ first_is literal_in (seen ts j.next)
          → None ≡ first_is is_formatted_begin (seen ts j.next) → PartsAt u ts least x j
      literals_end least le h k = record {
        ahead = le;
        within = c.within;
        parts = c.parts;
        is = c.is ∙ literals_stop (inner_reads d) u c.most c.parts (seen ts j.next) h k;
        gives = c.gives;
      }

      module _ (v : Value) (w : j.next < length ts) (h : Some v ≡ first_is literal_in (seen ts j.next)) where
        pub literal_error : (e : Stop) → IsNoText v e → Failed e x
        literal_error stop.NoForm n = go c.most c.enough c.is
          where
            go : (m : ℕ) → length (seen ts j.next) ≤ m → x ≡ literals_loop (inner_reads d) u m c.parts (seen ts j.next) → x ≡ NoForm
            go zero le q = absurd (omega (arith, le, w, seen_length ts j.next))
            go (suc m) le q = q ∙ literal_turn (inner_reads d) u v m c.parts (seen ts j.next) h
                ∙ ap (λ o. on_some o (λ t. literals_loop (inner_reads d) u m (c.parts ++ (Text t ∷ [])) (drop 1 (seen ts j.next))) NoForm) n
        literal_error stop.TooDeep n = absurd n
        literal_error stop.Memory n = tt

        pub literal_more : (t : List ℕ) (i : JoinedValues) → text_of v ≡ Some t
            → Gathers (step u (state_of j) (Text t)) (j.next + 1) i → Literals x i
        literal_more t i n g = go c.most c.enough c.is
          where
            go : (m : ℕ) → length (seen ts j.next) ≤ m → x ≡ literals_loop (inner_reads d) u m c.parts (seen ts j.next) → Literals x i
            go zero le q = absurd (omega (arith, le, w, seen_length ts j.next))
            go (suc m) le q = record {
              within = omega (arith, w, g.next_is);
              most = m;
              enough = omega (arith, le, w, g.next_is, seen_length ts j.next, seen_length ts i.next);
              parts = c.parts ++ (Text t ∷ []);
              is = q ∙ literal_turn (inner_reads d) u v m c.parts (seen ts j.next) h
                  ∙ ap (λ o. on_some o (λ t. literals_loop (inner_reads d) u m (c.parts ++ (Text t ∷ [])) (drop 1 (seen ts j.next))) NoForm)
                  n
                  ∙ ap (λ r. literals_loop (inner_reads d) u m (c.parts ++ (Text t ∷ [])) r) (seen_next ts j.next)
                  ∙ ap (λ k. literals_loop (inner_reads d) u m (c.parts ++ (Text t ∷ [])) (seen ts k)) (sym g.next_is);
              gives = g.is ∙ ap (λ s. step u s (Text t)) c.gives ∙ sym (grown u c.parts (Text t));
            }

      module _ (b : JoinedValues) (s : Stands FormattedBegin ts j.next) (g : Gathers (state_of j) (j.next + 1) b) where
        formatted_turn : (m : ℕ) → x ≡ literals_loop (inner_reads d) u (suc m) c.parts (seen ts j.next)
            → x ≡ and_then (formatted_step (inner_reads d) u c.parts (seen ts b.next)) (λ ps r. literals_loop (inner_reads d) u m ps r)
        formatted_turn m q = q ∙ ap (λ r. literals_loop (inner_reads d) u (suc m) c.parts r) s.is
            ∙ ap (λ n. and_then (formatted_step (inner_reads d) u c.parts (seen ts n)) (λ ps r. literals_loop (inner_reads d) u m ps r))
            (sym g.next_is)

        begun : state_of b ≡ gathered u c.parts
        begun = g.is ∙ c.gives

        pub formatted_error : (e : Stop) → ((acc : List StringPart) → state_of b ≡ gathered u acc
            → Failed e (formatted_step (inner_reads d) u acc (seen ts b.next))) → Failed e x
        formatted_error e f = go c.most c.enough c.is
          where
            go : (m : ℕ) → length (seen ts j.next) ≤ m → x ≡ literals_loop (inner_reads d) u m c.parts (seen ts j.next) → Failed e x
            go zero le q = absurd (omega (arith, le, s.within, seen_length ts j.next))
            go (suc m) le q = rw (formatted_turn m q) (failed_then e _ _ (f c.parts begun))

        pub formatted_more : (i : JoinedValues) → ((acc : List StringPart) → state_of b ≡ gathered u acc
            → PartsAt u ts b.next (formatted_step (inner_reads d) u acc (seen ts b.next)) i) → Literals x i
        formatted_more i f = go c.most c.enough c.is
          where
            go : (m : ℕ) → length (seen ts j.next) ≤ m → x ≡ literals_loop (inner_reads d) u m c.parts (seen ts j.next) → Literals x i
            go zero le q = absurd (omega (arith, le, s.within, seen_length ts j.next))
            go (suc m) le q = let a = f c.parts begun in record {
              within = a.within;
              most = m;
              enough = omega (arith, le, s.within, a.ahead, g.next_is, seen_length ts j.next, seen_length ts i.next);
              parts = a.parts;
              is = formatted_turn m q ∙ ap (λ y. and_then y (λ ps r. literals_loop (inner_reads d) u m ps r)) a.is;
              gives = a.gives;
            }

  -- one f-string
  module _ (at : ℕ) (acc : List StringPart) where
    abbrev whole : Answer (List StringPart)
    whole = parts_loop (inner_reads d) u (length (seen ts at)) acc (seen ts at)

    pub formatted_failed : (e : Stop) → Failed e whole → Failed e (formatted_step (inner_reads d) u acc (seen ts at))
    formatted_failed e f = failed_then e whole (λ ps r1. on_first is_formatted_end r1 (λ _ r2. Found ps r2) NoForm) f

    pub formatted_open : (j : JoinedValues) → PartsAt u ts at whole j → None ≡ first_is is_formatted_end (seen ts j.next)
        → formatted_step (inner_reads d) u acc (seen ts at) ≡ NoForm
    formatted_open j f n = ap (λ y. and_then y (λ ps r1. on_first is_formatted_end r1 (λ _ r2. Found ps r2) NoForm)) f.is
        ∙ first_miss is_formatted_end (seen ts j.next) _ _ n

    pub formatted_made : (j i : JoinedValues) → PartsAt u ts at whole j → Stands FormattedEnd ts j.next
        → Gathers (state_of j) (j.next + 1) i → PartsAt u ts at (formatted_step (inner_reads d) u acc (seen ts at)) i
    formatted_made j i f s g = record {
      ahead = omega (arith, f.ahead, g.next_is);
      within = omega (arith, s.within, g.next_is);
      parts = f.parts;
      is = ap (λ y. and_then y (λ ps r1. on_first is_formatted_end r1 (λ _ r2. Found ps r2) NoForm)) f.is
          ∙ ap (λ r. on_first is_formatted_end r (λ _ r2. Found f.parts r2) NoForm) s.is
          ∙ ap (λ n. Found f.parts (seen ts n)) (sym g.next_is);
      gives = g.is ∙ f.gives;
    }

    -- and all after it
    abbrev rest : List StringPart → List Terminal → Answer Expr
    rest ps r1 = and_then (literals_loop (inner_reads d) u (length r1) ps r1)
        (λ qs r2. Found (Trees.JoinedStr (values_of u (merged qs))) r2)

    pub joined_failed : (e : Stop) → Failed e (formatted_step (inner_reads d) u acc (seen ts at))
        → Failed e (joined_step (inner_reads d) u acc (seen ts at))
    joined_failed e f = failed_then e _ rest f

    module _ (j : JoinedValues) (f : PartsAt u ts at (formatted_step (inner_reads d) u acc (seen ts at)) j) where
      joined_is : joined_step (inner_reads d) u acc (seen ts at) ≡ rest f.parts (seen ts j.next)
      joined_is = ap (λ y. and_then y rest) f.is

      pub rest_failed : (e : Stop) → ((qs : List StringPart) → state_of j ≡ gathered u qs
          → Failed e (literals_loop (inner_reads d) u (length (seen ts j.next)) qs (seen ts j.next)))
          → Failed e (joined_step (inner_reads d) u acc (seen ts at))
      rest_failed e h = rw joined_is (failed_then e _ (λ qs r2. Found (Trees.JoinedStr (values_of u (merged qs))) r2) (h f.parts f.gives))

      pub joined_made : (i : JoinedValues) (z : Result Read Stop) → ((qs : List StringPart) → state_of j ≡ gathered u qs
          → PartsAt u ts j.next (literals_loop (inner_reads d) u (length (seen ts j.next)) qs (seen ts j.next)) i)
          → MatchResult z (λ r. IsNode (Trees.JoinedStr (exprs (ended u (state_of i)))) i.next r) (λ s. s ≡ stop.Memory)
          → PartAnswered ts at (joined_step (inner_reads d) u acc (seen ts at)) (λ r. tree_of r.expr.value) (λ r. r.next) z
      joined_made i (Ok r) h k =
          let a = h f.parts f.gives in
          let tree : tree_of r.expr.value ≡ Trees.JoinedStr (values_of u (merged a.parts)) = k.tree
          ∙ ap (λ s. Trees.JoinedStr (exprs (ended u s))) a.gives ∙ ap (λ es. Trees.JoinedStr es) (joined_values u a.parts) in
          record {
            ahead = omega (arith, f.ahead, a.ahead, k.next_is);
            within = omega (arith, a.within, k.next_is);
            is = joined_is ∙ ap (λ y. and_then y (λ qs r2. Found (Trees.JoinedStr (values_of u (merged qs))) r2)) a.is
                ∙ ap (λ t. Found t (seen ts i.next)) (sym tree) ∙ ap (λ n. Found (tree_of r.expr.value) (seen ts n)) (sym k.next_is);
          }
      joined_made i (Err s) h k = rw k tt
