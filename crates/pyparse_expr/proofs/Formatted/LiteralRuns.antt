-- Neighbouring literals, in front of an f-string or of none.
--
-- Carries: read_literals. On: Runs, JoinedStates.
use Rattle.std.proofs.Common.{◌≡◌, refl, sym, ap, ◌∙◌, ℕ, ◌+◌, ◌≤◌, arith, List, [], ◌∷◌, ◌++◌, Option, Some, None, Bool}
use Rattle.std.proofs.Common.{option_map, Result, Ok, Err, MatchResult}
use Rattle.pytree_node.specs.Trees
use Rattle.pytree_node.specs.Trees.{Expr}
use Rattle.pytree_node.specs.Values
use Rattle.pytree_node.specs.Values.{Value}
use Rattle.pytree_node.specs.TreeOf.{tree_of}
use Rattle.pytoken.specs.Terminals.{Terminal, FormattedBegin}
use Rattle.pytoken.specs.declared.values.terminals.Terminal as given
use Rattle.pygrammar.specs.Constants.{joined}
use Rattle.pygrammar.specs.FormattedStrings.{StringPart, Text, kind_of, texts_of}
use Rattle.pygrammar.specs.Looks.{is_formatted_begin}
use Rattle.pygrammar.specs.Reader.{Answer, Found, NoForm, TooDeep, Reads, and_then, on_first, on_some, made, constant_of, string_run}
use Rattle.pygrammar.specs.Reader.{joined_step, literals}
use Rattle.pyparse_nodes.specs.declared.found.Read.{Read}
use Rattle.pyparse_nodes.specs.declared.found.JoinedValues.{JoinedValues}
use Rattle.pyparse_nodes.specs.declared.stop.Stop.{Stop}
use Rattle.pyparse_nodes.specs.declared.stop.Stop.TheVariants as stop
use Rattle.pyparse_nodes.specs.Answers.{Failed, PartAt, PartAnswered, Made}
use Rattle.pyparse_nodes.specs.JoinedStates.{gathered, state, state_of, steps}
use Rattle.pyparse_nodes.specs.Runs.{run}
use Rattle.pyparse_nodes.specs.Views.{Stands, seen, first_is}
use Rattle.pyparse_expr.proofs.Reader.Reading.{first_miss}

-- what makes one text are texts
record TextRun (u : Bool) (k : Bool) (xs : List Expr) (t : List ℕ) (vs : List Value) (w : Value) : Type 0 where
  parts : List StringPart
  texts : texts_of vs ≡ Some parts
  whole : List ℕ
  is : w ≡ Values.Str whole k
  gives : steps u (state xs t) parts ≡ state xs whole

text_run : (u k : Bool) (xs : List Expr) (t : List ℕ) (vs : List Value) (w : Value)
    → joined (Values.Str t k) vs ≡ Some w → TextRun u k xs t vs w
text_run u k xs t [] w h = record { parts = []; texts = refl; whole = t; is = cc; gives = refl }
text_run u k xs t (Values.Str s j ∷ vs) w h =
    let r = text_run u k xs (t ++ s) vs w h in
    record {
      parts = Text s ∷ r.parts;
      texts = ap (λ o. option_map (λ ps. Text s ∷ ps) o) r.texts;
      whole = r.whole;
      is = r.is;
      gives = r.gives;
    }
text_run u k xs t (_ ∷ vs) w h = absurd (cc)

-- what makes bytes begins with bytes
no_bytes : (t : List ℕ) (k : Bool) (vs : List Value) (b : List ℕ) → joined (Values.Str t k) vs ≡ Some (Values.Bytes b) → ⊥
no_bytes t k vs b h = let r = text_run k k [] t vs (Values.Bytes b) h in absurd (bad (sym r.is))
  where
    bad : {x : List ℕ} → Values.Str x k ≡ Values.Bytes b → ⊥
    bad q = cc

pub bytes_run : (t : List ℕ) (vs : List Value) (s : List ℕ) (k : Bool) → joined (Values.Bytes t) vs ≡ Some (Values.Str s k) → ⊥
bytes_run t [] s k h = cc
bytes_run t (Values.Bytes x ∷ vs) s k h = bytes_run (t ++ x) vs s k h
bytes_run t (_ ∷ vs) s k h = cc

not_mixed : (t : List ℕ) (k : Bool) (vs : List Value) → joined (Values.Str t k) vs ≡ None → texts_of vs ≡ None
not_mixed t k [] h = absurd (cc)
not_mixed t k (Values.Str s j ∷ vs) h = ap (λ o. option_map (λ ps. Text s ∷ ps) o) (not_mixed (t ++ s) k vs h)
not_mixed t k (_ ∷ vs) h = refl

-- literals of no one value are no texts; nor are those that make bytes
no_texts : (v : Value) (vs : List Value) → joined v vs ≡ None → texts_of (v ∷ vs) ≡ None
no_texts (Values.Str t k) vs h = ap (λ o. option_map (λ ps. Text t ∷ ps) o) (not_mixed t k vs h)
no_texts _ vs h = refl

bytes_texts : (v : Value) (vs : List Value) (b : List ℕ) → joined v vs ≡ Some (Values.Bytes b) → texts_of (v ∷ vs) ≡ None
bytes_texts (Values.Str t k) vs b h = absurd (no_bytes t k vs b h)
bytes_texts _ vs b h = refl

-- texts as parts
record Texts (v : Value) (vs : List Value) (t : List ℕ) (u : Bool) : Type 0 where
  parts : List StringPart
  texts : texts_of (v ∷ vs) ≡ Some parts
  kind : kind_of v ≡ u
  gives : state [] t ≡ gathered u parts

one_text : (v : Value) (vs : List Value) (t : List ℕ) (u : Bool) → joined v vs ≡ Some (Values.Str t u) → Texts v vs t u
one_text (Values.Str s k) vs t u h =
    let r = text_run u k [] s vs (Values.Str t u) h in
    let q : Values.Str t u ≡ Values.Str r.whole k = r.is in
    let e : t ≡ r.whole = cc in
    record {
      parts = Text s ∷ r.parts;
      texts = ap (λ o. option_map (λ ps. Text s ∷ ps) o) r.texts;
      kind = cc;
      gives =
          ap (λ z. state [] z) e ∙ sym r.gives;
    }
one_text (Values.Bytes b) vs t u h = absurd (bytes_run b vs t u h)
one_text _ [] t u h = absurd (cc)
one_text _ (w ∷ vs) t u h = absurd (cc)

-- what the literals are
pub record Ran (v w : Value) (r s : List Terminal) : Type 0 where
  pub values : List Value
  pub run_is : string_run [] r ≡ Found values s
  pub is : joined v values ≡ Some w

pub ran : (v w : Value) (r s : List Terminal) → run v r ≡ Found w s → Ran v w r s
ran v w r s h = go (string_run [] r) refl h
  where
    one : (vs : List Value) (i : List Terminal) (o : Option Value) → string_run [] r ≡ Found vs i → joined v vs ≡ o
        → made o i ≡ Found w s → Ran v w r s
    one vs i None q j h = absurd (cc)
    one vs i (Some x) q j h = record { values = vs; run_is = cc; is = cc }

    go : (x : Answer (List Value)) → string_run [] r ≡ x → and_then x (λ vs i. made (joined v vs) i) ≡ Found w s → Ran v w r s
    go NoForm q h = absurd (cc)
    go TooDeep q h = absurd (cc)
    go (Found vs i) q h = one vs i (joined v vs) q refl h

-- what stands after them
module _ (self : Reads) (v : Value) where
  abbrev following : List Value → List Terminal → Answer Expr
  following vs r = on_first is_formatted_begin r (λ _ r2. on_some (texts_of (v ∷ vs)) (λ ps. joined_step self (kind_of v) ps r2) NoForm)
      (made (constant_of (joined v vs)) r)

  nowhere : (r : List Terminal) → ◌≡◌ {A = Answer Expr} (on_first is_formatted_begin r (λ _ _. NoForm) NoForm) NoForm
  nowhere [] = refl
  nowhere (t ∷ r) = go (is_formatted_begin t)
    where
      go : (o : Option ℕ) → ◌≡◌ {A = Answer Expr} (on_some o (λ _. NoForm) NoForm) NoForm
      go None = refl
      go (Some n) = refl

  mixed : (vs : List Value) (r : List Terminal) → joined v vs ≡ None → following vs r ≡ NoForm
  mixed vs r h = rw (no_texts v vs h, h) (nowhere r)

  pub literals_failed : (r : List Terminal) (e : Stop) → Failed e (run v r) → Failed e (literals self v r)
  literals_failed r stop.NoForm h = go (string_run [] r) h
    where
      one : (vs : List Value) (i : List Terminal) (o : Option Value) → joined v vs ≡ o → made o i ≡ NoForm → following vs i ≡ NoForm
      one vs i None j h = mixed vs i j
      one vs i (Some x) j h = absurd (cc)

      go : (x : Answer (List Value)) → and_then x (λ vs i. made (joined v vs) i) ≡ NoForm → and_then x following ≡ NoForm
      go NoForm h = refl
      go TooDeep h = absurd (cc)
      go (Found vs i) h = one vs i (joined v vs) refl h
  literals_failed r stop.TooDeep h = go (string_run [] r) h
    where
      one : (i : List Terminal) (o : Option Value) → made o i ≡ TooDeep → ⊥
      one i None h = cc
      one i (Some x) h = cc

      go : (x : Answer (List Value)) → and_then x (λ vs i. made (joined v vs) i) ≡ TooDeep → and_then x following ≡ TooDeep
      go NoForm h = absurd (cc)
      go TooDeep h = refl
      go (Found vs i) h = absurd (one i (joined v vs) h)
  literals_failed r stop.Memory h = tt

  run_after : (w : Value) (r s : List Terminal) (c : Ran v w r s) → literals self v r ≡ following c.values s
  run_after w r s c = ap (λ x. and_then x following) c.run_is

  literals_constant : (w : Value) (r s : List Terminal) → run v r ≡ Found w s → None ≡ first_is is_formatted_begin s
      → literals self v r ≡ Found (Trees.Constant w) s
  literals_constant w r s h n =
      let c = ran v w r s h in
      run_after w r s c ∙ first_miss is_formatted_begin s _ _ n ∙ ap (λ o. made (constant_of o) s) c.is

  literals_bytes : (b : List ℕ) (r s : List Terminal) → run v r ≡ Found (Values.Bytes b) (FormattedBegin ∷ s) → literals self v r ≡ NoForm
  literals_bytes b r s h =
      let c = ran v (Values.Bytes b) r (FormattedBegin ∷ s) h in
      run_after (Values.Bytes b) r (FormattedBegin ∷ s) c ∙ ap (λ o. on_some o (λ ps. joined_step self (kind_of v) ps s) NoForm)
      (bytes_texts v c.values b c.is)

  literals_texts : (t : List ℕ) (u : Bool) (r s : List Terminal) → run v r ≡ Found (Values.Str t u) (FormattedBegin ∷ s)
      → (ps : List StringPart) × (state [] t ≡ gathered u ps) × (literals self v r ≡ joined_step self u ps s)
  literals_texts t u r s h =
      let c = ran v (Values.Str t u) r (FormattedBegin ∷ s) h in
      let x = one_text v c.values t u c.is in (
        x.parts,
        x.gives,
        run_after (Values.Str t u) r (FormattedBegin ∷ s) c
            ∙ ap (λ o. on_some o (λ ps. joined_step self (kind_of v) ps s) NoForm) x.texts ∙ ap (λ k. joined_step self k x.parts s) x.kind,
      )

-- at a place
pub part_by : {A R : Type 0} (ts : List given.Terminal) (least most : ℕ) (x y : Answer A) (value : R → A) (next : R → ℕ) (z : Result R Stop)
    → least ≤ most → y ≡ x → PartAnswered ts most x value next z → PartAnswered ts least y value next z
part_by ts least most x y value next (Ok r) le q h = record { ahead = omega (arith, le, h.ahead); within = h.within; is = q ∙ h.is }
part_by ts least most x y value next (Err s) le q h = rw q h

module _ (ts : List given.Terminal) (self : Reads) (v : Value) (at n : ℕ) where
  pub literal_alone : (w : Value) (z : Result Read Stop) → PartAt ts at (run v (seen ts at)) w n
      → None ≡ first_is is_formatted_begin (seen ts n) → MatchResult z (λ r. Made 1 (Trees.Constant w) n r) (λ s. s ≡ stop.Memory)
      → PartAnswered ts at (literals self v (seen ts at)) (λ r. tree_of r.expr.value) (λ r. r.next) z
  literal_alone w (Ok r) h m k = record {
    ahead = omega (arith, h.ahead, k.next_is);
    within = omega (arith, h.within, k.next_is);
    is = literals_constant self v w (seen ts at) (seen ts n) h.is m ∙ ap (λ t. Found t (seen ts n)) (sym k.tree)
        ∙ ap (λ i. Found (tree_of r.expr.value) (seen ts i)) (sym k.next_is);
  }
  literal_alone w (Err s) h m k = rw k tt

  ahead_of : (w : Value) → PartAt ts at (run v (seen ts at)) w n → Stands FormattedBegin ts n
      → run v (seen ts at) ≡ Found w (FormattedBegin ∷ seen ts (n + 1))
  ahead_of w h m = h.is ∙ ap (λ r. Found w r) m.is

  pub bytes_wrong : (w : Value) (b : List ℕ) → w ≡ Values.Bytes b → PartAt ts at (run v (seen ts at)) w n → Stands FormattedBegin ts n
      → literals self v (seen ts at) ≡ NoForm
  bytes_wrong w b q h m = literals_bytes self v b (seen ts at) (seen ts (n + 1)) (ahead_of w h m
      ∙ ap (λ x. Found x (FormattedBegin ∷ seen ts (n + 1))) q)

  pub texts_joined : (w : Value) (t : List ℕ) (u : Bool) (b : JoinedValues) (z : Result Read Stop) → w ≡ Values.Str t u
      → state_of b ≡ state [] t → b.next ≡ n + 1 → PartAt ts at (run v (seen ts at)) w n → Stands FormattedBegin ts n
      → ((acc : List StringPart) → state_of b ≡ gathered u acc → PartAnswered ts b.next (joined_step self u acc (seen ts b.next))
      (λ r. tree_of r.expr.value) (λ r. r.next) z) → PartAnswered ts at (literals self v (seen ts at))
      (λ r. tree_of r.expr.value) (λ r. r.next) z
  texts_joined w t u b z q g e h m f =
      let x = literals_texts self v t u (seen ts at) (seen ts (n + 1)) (ahead_of w h m
      ∙ ap (λ y. Found y (FormattedBegin ∷ seen ts (n + 1))) q) in
      part_by ts at b.next (joined_step self u x.0 (seen ts b.next)) (literals self v (seen ts at)) (λ (r : Read). tree_of r.expr.value)
      (λ (r : Read). r.next) z (omega (arith, h.ahead, e)) (x.2
      ∙ ap (λ i. joined_step self u x.0 (seen ts i)) (sym e)) (f x.0 (g ∙ x.1))
