-- Names with dots, the dots in front of a module, and imports of them.
--
-- Carries: read_dotted, name_alias, read_dots, import_names, import_from. On: LineReader.
use Rattle.std.proofs.Common.{◌≡◌, refl, sym, ap, ◌∙◌, arith, ℕ, zero, suc, ◌+◌, ◌≤◌, ◌<◌, List, [], ◌∷◌, ◌++◌, append_assoc, drop, map}
use Rattle.std.proofs.Common.{Option, Some, None, length, cond, leb}
use Rattle.std.specs.Str.{chars, encode_utf8_all}
use Rattle.std.proofs.lemmas.Str.{encodes-append}
use Rattle.std.proofs.lemmas.Bool.{le-leb}
use Rattle.std.proofs.lemmas.List.{map-append}
use Rattle.pylex_lexeme.specs.declared.kinds.Exact.TheVariants.{Dot, Ellipsis, LPar, RPar, Star}
use Rattle.pytree_node.specs.declared.statements.Alias as given_alias
use Rattle.pytree_node.specs.Trees.{Identifier, Stmt}
use Rattle.pytree_node.specs.TreeOf.{alias_of}
use Rattle.pytoken.specs.declared.keywords.Keyword.TheVariants.{Import}
use Rattle.pytoken.specs.Terminals.{Op, Terminal, Word}
use Rattle.pytoken.specs.declared.values.terminals.Terminal as given
use Rattle.pygrammar.specs.Forms.{alias}
use Rattle.pygrammar.specs.LineReader.{always, commas_of, dotted, import_from, import_of, name_alias, read_as, read_dots, read_dotted}
use Rattle.pygrammar.specs.LineReader.{read_name, read_names, starts_name}
use Rattle.pygrammar.specs.Looks.{is_op, is_word, name_in}
use Rattle.pygrammar.specs.Reader.{Answer, Found, NoForm, TooDeep, and_then, closed, on_first, on_some}
use Rattle.pyparse_nodes.specs.declared.stop.Stop.{Stop}
use Rattle.pyparse_nodes.specs.Answers.{Failed, PartAt}
use Rattle.pyparse_nodes.specs.Views.{Stands, first_is, seen}
use Rattle.pyparse_reads.proofs.Callers.Looks.{failed_then, first_miss, seen_length, seen_next}
use Rattle.pyparse_statement.specs.Inner.Imports.{dots_at, dots_in}
use Rattle.pyparse_statement.proofs.Callers.Parts.{name_next}

-- one more
pub alias_pushed : (xs ys : List given_alias.Alias) (a : given_alias.Alias) → ys ≡ xs ++ (a ∷ [])
    → map alias_of ys ≡ map alias_of xs ++ (alias_of a ∷ [])
alias_pushed xs ys a h = ap (λ l. map alias_of l) h ∙ map-append alias_of xs (a ∷ [])

-- a name of an import, by its name and what stands after it
pub alias_is : (i : List Terminal) → name_alias i ≡ and_then (read_name i) (λ x r. and_then (read_as r) (λ a r1. Found (alias x a) r1))
alias_is [] = refl
alias_is (t ∷ r) = go (name_in t)
  where
    go : (o : Option (List ℕ)) → on_some o (λ x. and_then (read_as r) (λ a r1. Found (alias x a) r1)) NoForm ≡ and_then
        (on_some o (λ x. Found x r) NoForm) (λ x r. and_then (read_as r) (λ a r1. Found (alias x a) r1))
    go None = refl
    go (Some x) = refl

dot_encoded : encode_utf8_all (46 ∷ []) ≡ 46 ∷ []
unfolding lib.Utf8.encode
dot_encoded = refl

pub star_characters : chars (42 ∷ []) ≡ 42 ∷ []
unfolding chars
star_characters = refl

-- how far names with dots were read, with their text
pub record Dotted (ts : List given.Terminal) (x : Answer Identifier) (bytes : List ℕ) (n : ℕ) : Type 0 where
  pub within : n ≤ length ts
  pub text : Identifier
  pub encoded : bytes ≡ encode_utf8_all text
  pub most : ℕ
  pub enough : length (seen ts n) < most
  pub is : x ≡ and_then (dotted most (seen ts n)) (λ y r. Found (text ++ y) r)

nothing_before : (x : Answer Identifier) → x ≡ and_then x (λ y r. Found ([] ++ y) r)
nothing_before NoForm = refl
nothing_before TooDeep = refl
nothing_before (Found y r) = refl

pub dotted_start : (ts : List given.Terminal) (at : ℕ) (bytes : List ℕ) → at ≤ length ts → bytes ≡ []
    → Dotted ts (read_dotted (seen ts at)) bytes at
dotted_start ts at bytes w e = record {
  within = w;
  text = [];
  encoded = e;
  most = suc (length (seen ts at));
  enough = omega arith;
  is = nothing_before (read_dotted (seen ts at));
}

module _ (ts : List given.Terminal) (x : Answer Identifier) (bytes : List ℕ) (n : ℕ) (c : Dotted ts x bytes n) where
  -- after a name
  abbrev rest : ℕ → Identifier → List Terminal → Answer Identifier
  rest m w r = on_first (is_op Dot) r (λ _ r1. and_then (dotted m r1) (λ y r2. Found (w ++ (46 ∷ y)) r2)) (Found w r)

  pub dotted_missing : None ≡ first_is name_in (seen ts n) → x ≡ NoForm
  dotted_missing h = go c.most c.enough c.is
    where
      go : (m : ℕ) → length (seen ts n) < m → x ≡ and_then (dotted m (seen ts n)) (λ y r. Found (c.text ++ y) r) → x ≡ NoForm
      go zero l q = absurd (omega (arith, l))
      go (suc m) l q = q ∙ ap (λ z. and_then z (λ y r. Found (c.text ++ y) r)) (first_miss name_in (seen ts n) (rest m) NoForm h)

  module _ (w : Identifier) (h : Some w ≡ first_is name_in (seen ts n)) (new : List ℕ) (b : new ≡ bytes ++ encode_utf8_all w) where
    first : (m : ℕ) → x ≡ and_then (dotted (suc m) (seen ts n)) (λ y r. Found (c.text ++ y) r)
        → x ≡ and_then (rest m w (seen ts (n + 1))) (λ y r. Found (c.text ++ y) r)
    first m q = q ∙ ap (λ z. and_then z (λ y r. Found (c.text ++ y) r)) (name_next ts n w (rest m) NoForm h)

    pub dotted_text : new ≡ encode_utf8_all (c.text ++ w)
    dotted_text = b ∙ ap (λ z. z ++ encode_utf8_all w) c.encoded ∙ sym (encodes-append c.text w)

    pub dotted_last : (name : Identifier) (least next : ℕ) → name ≡ c.text ++ w → next ≡ n + 1 → least ≤ n → n < length ts
        → None ≡ first_is (is_op Dot) (seen ts (n + 1)) → PartAt ts least x name next
    dotted_last name least next e k le i d = record {
      ahead = omega (arith, k, le);
      within = omega (arith, k, i);
      is = go c.most c.enough c.is ∙ ap (λ y. Found y (seen ts (n + 1))) (sym e) ∙ ap (λ j. Found name (seen ts j)) (sym k);
    }
      where
        go : (m : ℕ) → length (seen ts n) < m → x ≡ and_then (dotted m (seen ts n)) (λ y r. Found (c.text ++ y) r)
            → x ≡ Found (c.text ++ w) (seen ts (n + 1))
        go zero l q = absurd (omega (arith, l))
        go (suc m) l q = first m q ∙ ap (λ z. and_then z (λ y r. Found (c.text ++ y) r))
            (first_miss (is_op Dot) (seen ts (n + 1)) _ (Found w (seen ts (n + 1))) d)

    grown : (z : Answer Identifier) → and_then (and_then z (λ y r. Found (w ++ (46 ∷ y)) r)) (λ y r. Found (c.text ++ y) r) ≡ and_then z
        (λ y r. Found (((c.text ++ w) ++ (46 ∷ [])) ++ y) r)
    grown NoForm = refl
    grown TooDeep = refl
    grown (Found y r) = ap (λ l. Found l r) (sym (append_assoc c.text w (46 ∷ y)) ∙ sym (append_assoc (c.text ++ w) (46 ∷ []) y))

    pub dotted_more : (last : List ℕ) (next : ℕ) → last ≡ new ++ (46 ∷ []) → next ≡ n + 2
        → Stands (Op Dot) ts (n + 1) → Dotted ts x last next
    dotted_more last next e k s = go c.most c.enough c.is
      where
        two : n + 1 + 1 ≡ next
        two = omega (arith, k)

        following : (m : ℕ) → rest m w (seen ts (n + 1)) ≡ and_then (dotted m (seen ts (n + 1 + 1))) (λ y r2. Found (w ++ (46 ∷ y)) r2)
        following m = rw s.is refl

        go : (m : ℕ) → length (seen ts n) < m → x ≡ and_then (dotted m (seen ts n)) (λ y r. Found (c.text ++ y) r) → Dotted ts x last next
        go zero l q = absurd (omega (arith, l))
        go (suc m) l q = record {
          within = omega (arith, k, s.within);
          text = (c.text ++ w) ++ (46 ∷ []);
          encoded = e ∙ ap (λ z. z ++ (46 ∷ [])) dotted_text ∙ ap (λ z. encode_utf8_all (c.text ++ w) ++ z) (sym dot_encoded)
              ∙ sym (encodes-append (c.text ++ w) (46 ∷ []));
          most = m;
          enough = omega (arith, l, k, s.within, seen_length ts n, seen_length ts next);
          is = first m q
              ∙ ap (λ z. and_then z (λ y r. Found (c.text ++ y) r)) (following m)
              ∙ grown (dotted m (seen ts (n + 1 + 1)))
              ∙ ap (λ j. and_then (dotted m (seen ts j)) (λ y r. Found (((c.text ++ w) ++ (46 ∷ [])) ++ y) r)) two;
        }

-- ---- The dots in front of a module.

-- how far the dots were counted
pub record Dots (ts : List given.Terminal) (x : Answer ℕ) (count n : ℕ) : Type 0 where
  pub within : n ≤ length ts
  pub is : x ≡ and_then (read_dots (seen ts n)) (λ k r. Found (count + k) r)

none_read : (r : List Terminal) → dots_at r ≡ 0 → read_dots r ≡ Found 0 r
none_read [] h = refl
none_read (Op Dot ∷ r) h = absurd (cc)
none_read (Op Ellipsis ∷ r) h = absurd (cc)
none_read (Op _ ∷ r) h = refl
none_read (_ ∷ r) h = refl

some_read : (t : Terminal) (r : List Terminal) → 0 < dots_in t → read_dots (t ∷ r) ≡ and_then (read_dots r) (λ k s. Found (dots_in t + k) s)
some_read (Op Dot) r h = refl
some_read (Op Ellipsis) r h = refl
some_read (Op _) r h = absurd (omega (arith, h))
some_read _ r h = absurd (omega (arith, h))

some_dots : (r : List Terminal) → 0 < dots_at r → read_dots r ≡ and_then (read_dots (drop 1 r)) (λ k s. Found (dots_at r + k) s)
some_dots [] h = absurd (omega (arith, h))
some_dots (t ∷ r) h = some_read t r h

module _ (ts : List given.Terminal) (x : Answer ℕ) (count n : ℕ) (c : Dots ts x count n) where
  pub dots_end : (least : ℕ) → least ≤ n → dots_at (seen ts n) ≡ 0 → PartAt ts least x count n
  dots_end least le h = record {
    ahead = le;
    within = c.within;
    is = c.is ∙ ap (λ z. and_then z (λ k r. Found (count + k) r)) (none_read (seen ts n) h) ∙ ap (λ k. Found k (seen ts n)) none;
  }
    where
      none : count + 0 ≡ count
      none = omega arith

  summed : (d : ℕ) (z : Answer ℕ) → and_then (and_then z (λ k s. Found (d + k) s)) (λ k r. Found (count + k) r) ≡ and_then z
      (λ k r. Found ((count + d) + k) r)
  summed d NoForm = refl
  summed d TooDeep = refl
  summed d (Found k r) = ap (λ j. Found j r) sum
    where
      sum : count + (d + k) ≡ (count + d) + k
      sum = omega arith

  pub dots_more : (new next : ℕ) → 0 < dots_at (seen ts n) → new ≡ count + dots_at (seen ts n) → next ≡ n + 1
      → n < length ts → Dots ts x new next
  dots_more new next p e k w = record {
    within = omega (arith, k, w);
    is = c.is
        ∙ ap (λ z. and_then z (λ j r. Found (count + j) r)) (some_dots (seen ts n) p)
        ∙ summed (dots_at (seen ts n)) (read_dots (drop 1 (seen ts n)))
        ∙ ap (λ i. and_then (read_dots i) (λ j r. Found ((count + dots_at (seen ts n)) + j) r)) (seen_next ts n)
        ∙ ap (λ j. and_then (read_dots (seen ts j)) (λ d r. Found ((count + dots_at (seen ts n)) + d) r)) (sym k)
        ∙ ap (λ m. and_then (read_dots (seen ts next)) (λ j r. Found (m + j) r)) (sym e);
  }

-- ---- The names after `import`, and all of it.

module _ (ts : List given.Terminal) (at : ℕ) where
  pub names_star : Stands (Op Star) ts at → read_names (seen ts at) ≡ Found (alias (42 ∷ []) None ∷ []) (seen ts (at + 1))
  names_star s = rw s.is refl

  pub names_bare : None ≡ first_is (is_op Star) (seen ts at) → None ≡ first_is (is_op LPar) (seen ts at)
      → read_names (seen ts at) ≡ commas_of name_alias always (seen ts at)
  names_bare a b = first_miss (is_op Star) (seen ts at) _ _ a ∙ first_miss (is_op LPar) (seen ts at) _ _ b

  pub names_bracketed : Stands (Op LPar) ts at → read_names (seen ts at) ≡ and_then (commas_of name_alias starts_name (seen ts (at + 1)))
      (λ as_ r. closed RPar r as_)
  names_bracketed s = rw s.is refl

  module _ (n k : ℕ) (f : PartAt ts at (read_dots (seen ts at)) k n) where
    abbrev from_dots : ℕ → List Terminal → Answer Stmt
    from_dots j r = on_first (is_word Import) r (λ _ r1. cond (leb 1 j) (import_of None j r1) NoForm)
        (and_then (read_dotted r) (λ m r1. on_first (is_word Import) r1 (λ _ r2. import_of (Some m) j r2) NoForm))

    from_is : import_from (seen ts at) ≡ from_dots k (seen ts n)
    from_is = ap (λ z. and_then z from_dots) f.is

    pub from_nothing : Stands (Word Import) ts n → k ≡ 0 → import_from (seen ts at) ≡ NoForm
    from_nothing s e =
        let w : from_dots k (seen ts n) ≡ cond (leb 1 k) (import_of None k (seen ts (n + 1))) NoForm = rw s.is refl in
        from_is ∙ w ∙ ap (λ j. cond (leb 1 j) (import_of None j (seen ts (n + 1))) NoForm) e

    pub from_above : Stands (Word Import) ts n → 0 < k → import_from (seen ts at) ≡ import_of None k (seen ts (n + 1))
    from_above s p =
        let w : from_dots k (seen ts n) ≡ cond (leb 1 k) (import_of None k (seen ts (n + 1))) NoForm = rw s.is refl in
        from_is ∙ w ∙ ap (λ b. cond b (import_of None k (seen ts (n + 1))) NoForm) (le-leb 1 k p)

    module _ (m : None ≡ first_is (is_word Import) (seen ts n)) where
      from_module : import_from (seen ts at) ≡ and_then (read_dotted (seen ts n))
          (λ x r1. on_first (is_word Import) r1 (λ _ r2. import_of (Some x) k r2) NoForm)
      from_module = from_is ∙ first_miss (is_word Import) (seen ts n) _ _ m

      pub from_failed : (e : Stop) → Failed e (read_dotted (seen ts n)) → Failed e (import_from (seen ts at))
      from_failed e h = rw from_module
          (failed_then e (read_dotted (seen ts n)) (λ x r1. on_first (is_word Import) r1 (λ _ r2. import_of (Some x) k r2) NoForm) h)

      module _ (least j : ℕ) (x : Identifier) (g : PartAt ts least (read_dotted (seen ts n)) x j) where
        named : import_from (seen ts at) ≡ on_first (is_word Import) (seen ts j) (λ _ r2. import_of (Some x) k r2) NoForm
        named = from_module ∙ ap (λ z. and_then z (λ x r1. on_first (is_word Import) r1 (λ _ r2. import_of (Some x) k r2) NoForm)) g.is

        pub from_open : None ≡ first_is (is_word Import) (seen ts j) → import_from (seen ts at) ≡ NoForm
        from_open h = named ∙ first_miss (is_word Import) (seen ts j) _ _ h

        pub from_named : Stands (Word Import) ts j → import_from (seen ts at) ≡ import_of (Some x) k (seen ts (j + 1))
        from_named s =
            let w : on_first (is_word Import) (seen ts j) (λ _ r2. import_of (Some x) k r2) NoForm ≡ import_of (Some x) k
            (seen ts (j + 1)) = rw s.is refl in
            named ∙ w
