-- Lists with commas between them, as loops read them.
--
-- Carries: read_names, dotted_aliases, name_aliases, type_params, deleted_all. On: LineReader.
use Rattle.std.proofs.Common.{◌≡◌, refl, sym, ap, ◌∙◌, arith, ℕ, zero, suc, ◌+◌, ◌≤◌, ◌<◌, List, [], ◌∷◌, ◌++◌, length, append_assoc, None}
use Rattle.std.proofs.Common.{Bool, true, false, cond}
use Rattle.pylex_lexeme.specs.declared.kinds.Exact.TheVariants.{Comma}
use Rattle.pytoken.specs.Terminals.{Op, Terminal}
use Rattle.pytoken.specs.declared.values.terminals.Terminal as given
use Rattle.pygrammar.specs.LineReader.{commas, commas_of}
use Rattle.pygrammar.specs.Looks.{is_op}
use Rattle.pygrammar.specs.Reader.{Answer, Found, NoForm, TooDeep, and_then, on_first}
use Rattle.pyparse_nodes.specs.declared.stop.Stop.{Stop}
use Rattle.pyparse_nodes.specs.Answers.{Failed, PartAt}
use Rattle.pyparse_nodes.specs.Views.{Stands, first_is, seen}
use Rattle.pyparse_reads.proofs.Callers.Looks.{failed_then, first_miss, seen_length}

-- how far a list was read: what the reader makes of all of it is what it makes of the rest,
-- after those that were read
pub record Listed {A : Type 0} (ts : List given.Terminal) (one : List Terminal → Answer A) (more : List Terminal → Bool)
    (x : Answer (List A)) (acc : List A) (n : ℕ) : Type 0 where
  pub within : n ≤ length ts
  pub most : ℕ
  pub enough : length (seen ts n) < most
  pub is : x ≡ and_then (commas one more most (seen ts n)) (λ as_ i. Found (acc ++ as_) i)

module _ {A : Type 0} (ts : List given.Terminal) (one : List Terminal → Answer A) (more : List Terminal → Bool) where
  nothing_before : (x : Answer (List A)) → x ≡ and_then x (λ as_ i. Found ([] ++ as_) i)
  nothing_before NoForm = refl
  nothing_before TooDeep = refl
  nothing_before (Found as_ i) = refl

  pub list_start : (at : ℕ) (acc : List A) (n : ℕ) → at ≤ length ts → acc ≡ [] → n ≡ at
      → Listed ts one more (commas_of one more (seen ts at)) acc n
  list_start at acc n w a e = record {
    within = omega (arith, w, e);
    most = suc (length (seen ts at));
    enough = omega (arith, ap (λ k. length (seen ts k)) e);
    is = nothing_before (commas_of one more (seen ts at))
        ∙ ap (λ l. and_then (commas_of one more (seen ts at)) (λ as_ i. Found (l ++ as_) i)) (sym a)
        ∙ ap (λ k. and_then (commas one more (suc (length (seen ts at))) (seen ts k)) (λ as_ i. Found (acc ++ as_) i)) (sym e);
  }

  -- after the first of the rest
  abbrev rest : ℕ → A → List Terminal → Answer (List A)
  rest m a r = on_first (is_op Comma) r (λ _ r1. cond (more r1) (and_then (commas one more m r1) (λ as_ r2. Found (a ∷ as_) r2))
      (Found (a ∷ []) r1)) (Found (a ∷ []) r)

  module _ (x : Answer (List A)) (acc : List A) (n : ℕ) (c : Listed ts one more x acc n) where
    pub list_failed : (e : Stop) → Failed e (one (seen ts n)) → Failed e x
    list_failed e f = go c.most c.enough c.is
      where
        go : (m : ℕ) → length (seen ts n) < m → x ≡ and_then (commas one more m (seen ts n)) (λ as_ i. Found (acc ++ as_) i) → Failed e x
        go zero l q = absurd (omega (arith, l))
        go (suc m) l q = rw q (failed_then e (and_then (one (seen ts n)) (rest m)) (λ as_ i. Found (acc ++ as_) i)
            (failed_then e (one (seen ts n)) (rest m) f))

    module _ (least : ℕ) (a : A) (k : ℕ) (f : PartAt ts least (one (seen ts n)) a k) (new : List A) (p : new ≡ acc ++ (a ∷ [])) where
      first : (m : ℕ) → x ≡ and_then (commas one more (suc m) (seen ts n)) (λ as_ i. Found (acc ++ as_) i)
          → x ≡ and_then (rest m a (seen ts k)) (λ as_ i. Found (acc ++ as_) i)
      first m q = q ∙ ap (λ y. and_then (and_then y (rest m)) (λ as_ i. Found (acc ++ as_) i)) f.is

      -- no comma after it
      pub list_last : (low next : ℕ) → next ≡ k → low ≤ k → None ≡ first_is (is_op Comma) (seen ts k) → PartAt ts low x new next
      list_last low next e le h = record {
        ahead = omega (arith, e, le);
        within = omega (arith, e, f.within);
        is = go c.most c.enough c.is ∙ ap (λ l. Found l (seen ts k)) (sym p) ∙ ap (λ j. Found new (seen ts j)) (sym e);
      }
        where
          go : (m : ℕ) → length (seen ts n) < m → x ≡ and_then (commas one more m (seen ts n)) (λ as_ i. Found (acc ++ as_) i)
              → x ≡ Found (acc ++ (a ∷ [])) (seen ts k)
          go zero l q = absurd (omega (arith, l))
          go (suc m) l q = first m q ∙ ap (λ y. and_then y (λ as_ i. Found (acc ++ as_) i))
              (first_miss (is_op Comma) (seen ts k) _ (Found (a ∷ []) (seen ts k)) h)

      module _ (s : Stands (Op Comma) ts k) (next : ℕ) (e : next ≡ k + 1) where
        following : (m : ℕ) → rest m a (seen ts k) ≡ cond (more (seen ts (k + 1)))
            (and_then (commas one more m (seen ts (k + 1))) (λ as_ r2. Found (a ∷ as_) r2)) (Found (a ∷ []) (seen ts (k + 1)))
        following m = rw s.is refl

        -- nothing after the comma
        pub list_end : (low : ℕ) → low ≤ k → more (seen ts next) ≡ false → PartAt ts low x new next
        list_end low le h = record {
          ahead = omega (arith, e, le);
          within = omega (arith, e, s.within);
          is = go c.most c.enough c.is ∙ ap (λ l. Found l (seen ts (k + 1))) (sym p) ∙ ap (λ j. Found new (seen ts j)) (sym e);
        }
          where
            no_more : more (seen ts (k + 1)) ≡ false
            no_more = ap (λ j. more (seen ts j)) (sym e) ∙ h

            go : (m : ℕ) → length (seen ts n) < m → x ≡ and_then (commas one more m (seen ts n)) (λ as_ i. Found (acc ++ as_) i)
                → x ≡ Found (acc ++ (a ∷ [])) (seen ts (k + 1))
            go zero l q = absurd (omega (arith, l))
            go (suc m) l q = first m q ∙ ap (λ y. and_then y (λ as_ i. Found (acc ++ as_) i)) (following m
                ∙ ap (λ b. cond b (and_then (commas one more m (seen ts (k + 1))) (λ as_ r2. Found (a ∷ as_) r2))
                (Found (a ∷ []) (seen ts (k + 1)))) no_more)

        grown : (y : Answer (List A)) → and_then (and_then y (λ as_ r2. Found (a ∷ as_) r2)) (λ as_ i. Found (acc ++ as_) i) ≡ and_then y
            (λ as_ i. Found ((acc ++ (a ∷ [])) ++ as_) i)
        grown NoForm = refl
        grown TooDeep = refl
        grown (Found as_ i) = ap (λ l. Found l i) (sym (append_assoc acc (a ∷ []) as_))

        -- another one after the comma
        pub list_more : n ≤ k → more (seen ts next) ≡ true → Listed ts one more x new next
        list_more le h = go c.most c.enough c.is
          where
            some_more : more (seen ts (k + 1)) ≡ true
            some_more = ap (λ j. more (seen ts j)) (sym e) ∙ h

            go : (m : ℕ) → length (seen ts n) < m → x ≡ and_then (commas one more m (seen ts n)) (λ as_ i. Found (acc ++ as_) i)
                → Listed ts one more x new next
            go zero l q = absurd (omega (arith, l))
            go (suc m) l q = record {
              within = omega (arith, e, s.within);
              most = m;
              enough = omega (arith, l, e, le, s.within, seen_length ts n, seen_length ts next);
              is = first m q
                  ∙ ap (λ y. and_then y (λ as_ i. Found (acc ++ as_) i)) (following m
                  ∙ ap (λ b. cond b (and_then (commas one more m (seen ts (k + 1))) (λ as_ r2. Found (a ∷ as_) r2))
                  (Found (a ∷ []) (seen ts (k + 1)))) some_more)
                  ∙ grown (commas one more m (seen ts (k + 1)))
                  ∙ ap (λ l. and_then (commas one more m (seen ts (k + 1))) (λ as_ i. Found (l ++ as_) i)) (sym p)
                  ∙ ap (λ j. and_then (commas one more m (seen ts j)) (λ as_ i. Found (new ++ as_) i)) (sym e);
            }
