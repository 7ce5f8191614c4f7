-- A statement by its first terminal, and statements with semicolons between them.
--
-- Carries: plain_statement, word_statement, read_statement, take_statement, read_statements.
-- On: LineReader, Heights.
use Rattle.std.proofs.Common.{◌≡◌, refl, sym, ap, ◌∙◌, arith, ℕ, zero, suc, ◌+◌, ◌≤◌, ◌<◌, max, List, [], ◌∷◌, ◌++◌, length, map}
use Rattle.std.proofs.Common.{append_assoc, Some, None}
use Rattle.std.proofs.lemmas.List.{map-append}
use Rattle.pylex_lexeme.specs.declared.kinds.Exact.TheVariants.{Semi}
use Rattle.pytree_node.specs.declared.profiles.Profile.{Profile}
use Rattle.pytree_node.specs.declared.statements.Stmt as given_stmt
use Rattle.pytree_node.specs.Trees.{Identifier, Stmt, stmts}
use Rattle.pytree_node.specs.TreeOf.{stmt_of}
use Rattle.pytoken.specs.declared.keywords.Keyword.{Keyword}
use Rattle.pytoken.specs.declared.keywords.Keyword.TheVariants as Key
use Rattle.pytoken.specs.Terminals.{Op, Terminal, Word}
use Rattle.pytoken.specs.declared.values.terminals.Terminal as given
use Rattle.pytoken.specs.declared.values.terminals.Terminal.TheVariants as variant
use Rattle.pytoken.specs.TerminalOf.{terminal}
use Rattle.pytree_height.specs.Heights.{highest_in, highest_in_all}
use Rattle.pygrammar.specs.LineReader.{Values, alias_rest, on_none, start, statement, statement_of, statements, value_statement}
use Rattle.pygrammar.specs.Looks.{is_op}
use Rattle.pygrammar.specs.Reader.{Answer, Found, NoForm, Reads, TooDeep, and_then, on_first}
use Rattle.pyparse_nodes.specs.declared.stop.Stop.{Stop}
use Rattle.pyparse_nodes.specs.Answers.{Failed, PartAt}
use Rattle.pyparse_nodes.specs.Views.{Stands, first_is, first_of, seen}
use Rattle.pyparse_reads.proofs.Callers.Looks.{failed_then, first_miss, front, seen_length}
use Rattle.pyparse_statement.specs.Inner.Simple.{begun}
use Rattle.pyparse_statement.specs.Inner.Types.{HasNoTypeName, HasTypeName}

-- ---- One statement.

module _ (ts : List given.Terminal) (profile : Profile) (self : Reads) (at : ℕ) where
  pub named_type : (x : Identifier) → HasTypeName profile x ts at → begun profile self (seen ts at) ≡ alias_rest profile
      self x (seen ts (at + 2))
  named_type x h = h.is (alias_rest profile self) (value_statement self (seen ts at))

  pub no_type : HasNoTypeName profile ts at → begun profile self (seen ts at) ≡ value_statement self (seen ts at)
  no_type h = h.is (alias_rest profile self) (value_statement self (seen ts at))

  -- after a keyword
  pub by_word : (w : Keyword) → Stands (Word w) ts at → statement profile self (seen ts at) ≡ statement_of profile self (start (Word w))
      (seen ts at) (seen ts (at + 1))
  by_word w s = ap (λ i. statement profile self i) s.is
      ∙ ap (λ i. statement_of profile self (start (Word w)) i (seen ts (at + 1))) (sym s.is)

  -- with no keyword that says which
  pub by_value : (t : Terminal) → first_of (seen ts at) ≡ Some t → start t ≡ Values
      → statement profile self (seen ts at) ≡ begun profile self (seen ts at)
  by_value t h q =
      let f = front ts at t h in
      ap (λ i. statement profile self i) f
      ∙ ap (λ i. statement_of profile self (start t) i (seen ts (at + 1))) (sym f)
      ∙ ap (λ k. statement_of profile self k (seen ts at) (seen ts (at + 1))) q

  pub by_other_word : (w : Keyword) → Stands (Word w) ts at → start (Word w) ≡ Values
      → statement profile self (seen ts at) ≡ begun profile self (seen ts at)
  by_other_word w s q = by_word w s ∙ ap (λ k. statement_of profile self k (seen ts at) (seen ts (at + 1))) q

  pub no_statement : first_of (seen ts at) ≡ None → statement profile self (seen ts at) ≡ NoForm
  no_statement h = go (seen ts at) h
    where
      go : (i : List Terminal) → first_of i ≡ None → statement profile self i ≡ NoForm
      go [] h = refl
      go (t ∷ r) h = absurd (cc)

pub other_word : (w : Keyword) → (w ≡ Key.Return → ⊥) → (w ≡ Key.Raise → ⊥) → (w ≡ Key.Assert → ⊥) → (w ≡ Key.Del → ⊥)
    → (w ≡ Key.Global → ⊥) → (w ≡ Key.Nonlocal → ⊥) → (w ≡ Key.Pass → ⊥) → (w ≡ Key.Break → ⊥) → (w ≡ Key.Continue → ⊥)
    → (w ≡ Key.Import → ⊥) → (w ≡ Key.From → ⊥) → start (Word w) ≡ Values
other_word Key.Return a b c d e f g h i j k = absurd (a refl)
other_word Key.Raise a b c d e f g h i j k = absurd (b refl)
other_word Key.Assert a b c d e f g h i j k = absurd (c refl)
other_word Key.Del a b c d e f g h i j k = absurd (d refl)
other_word Key.Global a b c d e f g h i j k = absurd (e refl)
other_word Key.Nonlocal a b c d e f g h i j k = absurd (f refl)
other_word Key.Pass a b c d e f g h i j k = absurd (g refl)
other_word Key.Break a b c d e f g h i j k = absurd (h refl)
other_word Key.Continue a b c d e f g h i j k = absurd (i refl)
other_word Key.Import a b c d e f g h i j k = absurd (j refl)
other_word Key.From a b c d e f g h i j k = absurd (k refl)
other_word _ a b c d e f g h i j k = refl

pub no_word : (t : given.Terminal) → ((w : Keyword) → t ≡ variant.Word w → ⊥) → start (terminal t) ≡ Values
no_word (variant.Word w) h = absurd (h w refl)
no_word _ h = refl

pub first_stands : (ts : List given.Terminal) (at : ℕ) (t : Terminal) → at < length ts → first_of (seen ts at) ≡ Some t → Stands t ts at
first_stands ts at t w h = record { within = w; is = front ts at t h }

-- ---- Some statements.

pub statement_pushed : (xs ys : List given_stmt.Stmt) (s : given_stmt.Stmt) → ys ≡ xs ++ (s ∷ [])
    → map stmt_of ys ≡ map stmt_of xs ++ (stmt_of s ∷ [])
statement_pushed xs ys s h = ap (λ l. map stmt_of l) h ∙ map-append stmt_of xs (s ∷ [])

higher : (ss : List Stmt) (s : Stmt) → highest_in_all (stmts (ss ++ (s ∷ []))) ≡ max (highest_in_all (stmts ss)) (highest_in s)
higher [] s = omega arith
higher (t ∷ ss) s = omega (arith, higher ss s)

pub statement_height : (xs ys : List given_stmt.Stmt) (s : given_stmt.Stmt) (h k : ℕ) → ys ≡ xs ++ (s ∷ [])
    → h ≡ highest_in_all (stmts (map stmt_of xs)) → k ≡ highest_in (stmt_of s) → max h k ≡ highest_in_all (stmts (map stmt_of ys))
statement_height xs ys s h k e a b = omega (
  arith,
  a,
  b,
  ap (λ l. highest_in_all (stmts l)) (statement_pushed xs ys s e),
  higher (map stmt_of xs) (stmt_of s),
)

pub no_height : {ss : List Stmt} → ss ≡ [] → 0 ≡ highest_in_all (stmts ss)
no_height h = rw h refl

-- how far they were read
pub record Runs (ts : List given.Terminal) (profile : Profile) (self : Reads) (x : Answer (List Stmt))
    (acc : List Stmt) (n : ℕ) : Type 0 where
  pub within : n ≤ length ts
  pub most : ℕ
  pub enough : length (seen ts n) < most
  pub is : x ≡ and_then (statements profile self most (seen ts n)) (λ ss i. Found (acc ++ ss) i)

module _ (ts : List given.Terminal) (profile : Profile) (self : Reads) where
  nothing_before : (x : Answer (List Stmt)) → x ≡ and_then x (λ ss i. Found ([] ++ ss) i)
  nothing_before NoForm = refl
  nothing_before TooDeep = refl
  nothing_before (Found ss i) = refl

  pub run_start : (at : ℕ) (acc : List Stmt) (n : ℕ) → at ≤ length ts → acc ≡ [] → n ≡ at
      → Runs ts profile self (statements profile self (suc (length (seen ts at))) (seen ts at)) acc n
  run_start at acc n w a e = record {
    within = omega (arith, w, e);
    most = suc (length (seen ts at));
    enough = omega (arith, ap (λ k. length (seen ts k)) e);
    is = nothing_before (statements profile self (suc (length (seen ts at))) (seen ts at))
        ∙ ap (λ l. and_then (statements profile self (suc (length (seen ts at))) (seen ts at)) (λ ss i. Found (l ++ ss) i)) (sym a)
        ∙ ap (λ k. and_then (statements profile self (suc (length (seen ts at))) (seen ts k)) (λ ss i. Found (acc ++ ss) i)) (sym e);
  }

  -- after one of them
  abbrev rest : ℕ → Stmt → List Terminal → Answer (List Stmt)
  rest m s r = on_first (is_op Semi) r
      (λ _ r1. on_none r1 (Found (s ∷ []) []) (and_then (statements profile self m r1) (λ ss r2. Found (s ∷ ss) r2))) (Found (s ∷ []) r)

  module _ (x : Answer (List Stmt)) (acc : List Stmt) (n : ℕ) (c : Runs ts profile self x acc n) where
    pub run_failed : (e : Stop) → Failed e (statement profile self (seen ts n)) → Failed e x
    run_failed e f = go c.most c.enough c.is
      where
        go : (m : ℕ) → length (seen ts n) < m → x ≡ and_then (statements profile self m (seen ts n)) (λ ss i. Found (acc ++ ss) i)
            → Failed e x
        go zero l q = absurd (omega (arith, l))
        go (suc m) l q = rw q (failed_then e (and_then (statement profile self (seen ts n)) (rest m)) (λ ss i. Found (acc ++ ss) i)
            (failed_then e (statement profile self (seen ts n)) (rest m) f))

    module _ (least : ℕ) (s : Stmt) (k : ℕ) (f : PartAt ts least (statement profile self (seen ts n)) s k) (new : List Stmt)
        (p : new ≡ acc ++ (s ∷ [])) where
      first : (m : ℕ) → x ≡ and_then (statements profile self (suc m) (seen ts n)) (λ ss i. Found (acc ++ ss) i)
          → x ≡ and_then (rest m s (seen ts k)) (λ ss i. Found (acc ++ ss) i)
      first m q = q ∙ ap (λ y. and_then (and_then y (rest m)) (λ ss i. Found (acc ++ ss) i)) f.is

      -- no semicolon after it
      pub run_last : (low next : ℕ) → next ≡ k → low ≤ k → None ≡ first_is (is_op Semi) (seen ts k) → PartAt ts low x new next
      run_last low next e le h = record {
        ahead = omega (arith, e, le);
        within = omega (arith, e, f.within);
        is = go c.most c.enough c.is ∙ ap (λ l. Found l (seen ts k)) (sym p) ∙ ap (λ j. Found new (seen ts j)) (sym e);
      }
        where
          go : (m : ℕ) → length (seen ts n) < m → x ≡ and_then (statements profile self m (seen ts n)) (λ ss i. Found (acc ++ ss) i)
              → x ≡ Found (acc ++ (s ∷ [])) (seen ts k)
          go zero l q = absurd (omega (arith, l))
          go (suc m) l q = first m q ∙ ap (λ y. and_then y (λ ss i. Found (acc ++ ss) i))
              (first_miss (is_op Semi) (seen ts k) _ (Found (s ∷ []) (seen ts k)) h)

      module _ (semi : Stands (Op Semi) ts k) (next : ℕ) (e : next ≡ k + 1) where
        following : (m : ℕ) → rest m s (seen ts k) ≡ on_none (seen ts (k + 1)) (Found (s ∷ []) [])
            (and_then (statements profile self m (seen ts (k + 1))) (λ ss r2. Found (s ∷ ss) r2))
        following m = rw semi.is refl

        -- nothing after the semicolon
        pub run_end : (low : ℕ) → low ≤ k → next ≡ length ts → PartAt ts low x new next
        run_end low le h = record {
          ahead = omega (arith, e, le);
          within = omega (arith, h);
          is = go c.most c.enough c.is ∙ ap (λ l. Found l []) (sym p) ∙ ap (λ i. Found new i) (sym past);
        }
          where
            empty : (i : List Terminal) → length i ≡ 0 → i ≡ []
            empty [] z = refl
            empty (t ∷ i) z = absurd (omega (arith, z))

            past : seen ts next ≡ []
            past = empty (seen ts next) (omega (arith, h, seen_length ts next))

            past_semi : seen ts (k + 1) ≡ []
            past_semi = ap (λ j. seen ts j) (sym e) ∙ past

            go : (m : ℕ) → length (seen ts n) < m → x ≡ and_then (statements profile self m (seen ts n)) (λ ss i. Found (acc ++ ss) i)
                → x ≡ Found (acc ++ (s ∷ [])) []
            go zero l q = absurd (omega (arith, l))
            go (suc m) l q = first m q ∙ ap (λ y. and_then y (λ ss i. Found (acc ++ ss) i)) (following m
                ∙ ap (λ i. on_none i (Found (s ∷ []) []) (and_then (statements profile self m (seen ts (k + 1)))
                (λ ss r2. Found (s ∷ ss) r2))) past_semi)

        grown : (y : Answer (List Stmt)) → and_then (and_then y (λ ss r2. Found (s ∷ ss) r2)) (λ ss i. Found (acc ++ ss) i) ≡ and_then y
            (λ ss i. Found ((acc ++ (s ∷ [])) ++ ss) i)
        grown NoForm = refl
        grown TooDeep = refl
        grown (Found ss i) = ap (λ l. Found l i) (sym (append_assoc acc (s ∷ []) ss))

        some : (i : List Terminal) (y z : Answer (List Stmt)) → 0 < length i → on_none i y z ≡ z
        some [] y z h = absurd (omega (arith, h))
        some (t ∷ i) y z h = refl

        -- another one after the semicolon
        pub run_more : n ≤ k → next < length ts → Runs ts profile self x new next
        run_more le h = go c.most c.enough c.is
          where
            go : (m : ℕ) → length (seen ts n) < m → x ≡ and_then (statements profile self m (seen ts n)) (λ ss i. Found (acc ++ ss) i)
                → Runs ts profile self x new next
            go zero l q = absurd (omega (arith, l))
            go (suc m) l q = record {
              within = omega (arith, h);
              most = m;
              enough = omega (arith, l, e, le, h, semi.within, seen_length ts n, seen_length ts next);
              is = first m q
                  ∙ ap (λ y. and_then y (λ ss i. Found (acc ++ ss) i)) (following m
                  ∙ some (seen ts (k + 1)) (Found (s ∷ []) []) (and_then (statements profile self m (seen ts (k + 1)))
                  (λ ss r2. Found (s ∷ ss) r2)) (omega (arith, h, e, seen_length ts (k + 1))))
                  ∙ grown (statements profile self m (seen ts (k + 1)))
                  ∙ ap (λ l. and_then (statements profile self m (seen ts (k + 1))) (λ ss i. Found (l ++ ss) i)) (sym p)
                  ∙ ap (λ j. and_then (statements profile self m (seen ts j)) (λ ss i. Found (new ++ ss) i)) (sym e);
            }
