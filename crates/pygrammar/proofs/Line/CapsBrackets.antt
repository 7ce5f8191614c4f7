-- On: `limit_line`. The two readings of `with`: where an item in brackets is too high, the
-- expression in brackets is as high, or there is none.
--
-- Carries: brackets, for Limit.
use Rattle.std.proofs.Common.{◌≡◌, ◌⊎◌, inl, inr, refl, sym, ap, subst, ◌∙◌, ℕ, zero, suc, ◌≤◌, arith, List, [], ◌∷◌, ◌++◌, length, Option}
use Rattle.std.proofs.Common.{Some, None, Bool, true, false, cond, length-append}
use Rattle.std.proofs.lemmas.Bool.{leb-true, le-leb}
use Rattle.pylex_lexeme.specs.declared.kinds.Exact.{Exact}
use Rattle.pylex_lexeme.specs.declared.kinds.Exact.TheVariants as Sign
use Rattle.pytoken.specs.declared.keywords.Keyword.{Keyword}
use Rattle.pytoken.specs.declared.keywords.Keyword.TheVariants as Key
use Rattle.pytree_node.specs.declared.operators.Context.TheVariants.{Load}
use Rattle.pygrammar.specs.declared.levels.Level.TheVariants.{Expression, Or, Primary, Elem}
use Rattle.pytree_node.specs.Trees.{Expr, an_expr, comprehensions, Identifier, Item}
use Rattle.pytree_node.specs.Trees as Trees
use Rattle.pytoken.specs.Terminals.{Spelled, Terminal, Op, Word, Ident}
use Rattle.pytree_height.specs.Heights.{height, item_heights}
use Rattle.pygrammar.specs.Looks.{is_op, is_word, name_in}
use Rattle.pygrammar.specs.Entries.{Of, Entry, Single, singles}
use Rattle.pygrammar.specs.Reader.{Answer, Found, NoForm, TooDeep, and_then, on_some, on_first, on_name_with, Reads, closed, listing_loop}
use Rattle.pygrammar.specs.Reader.{piece, listing_of, comps_closed, unstarred, round, primary_loop, climb_loop, if_else_step, read}
use Rattle.pygrammar.specs.Operators.{rank}
use Rattle.pygrammar.specs.Precedence.{lead, starts, starts_comp}
use Rattle.pygrammar.specs.Capped.{capped}
use Rattle.pygrammar.specs.Forms.{item}
use Rattle.pygrammar.specs.LineReader.{always, commas, commas_of, item_target, read_item, bracketed}
use Rattle.pygrammar.proofs.Completeness.LookLemmas.{op_or_not, word_or_not, heads, some_none}
use Rattle.pygrammar.proofs.Depths.Keeps.{keeps_read, light_read}
use Rattle.pygrammar.proofs.Depths.Whole.{sound_front}
use Rattle.pygrammar.proofs.Heights.Limits.{capped_found}
use Rattle.pygrammar.proofs.Heights.Over.{Over, over, none, sunk, over_then, over_on, over_first, over_cond, over_closed}
use Rattle.pygrammar.proofs.Heights.Caps.{over_comps_closed, over_unstarred, over_listing, over_primary, over_loop, over_if_else}
use Rattle.pygrammar.proofs.Heights.Caps.{caps_read}
use Rattle.pygrammar.proofs.Related.Sizes.{list_size, list_last, singles_size}
use Rattle.pygrammar.proofs.Soundness.Says.{name_is}
use Rattle.pygrammar.proofs.Related.Lines.{item_height}
use Rattle.pygrammar.proofs.Line.CapsTools.{Brackets, over_commas, over_item}

-- ---- Tests that miss.
test_is : {A B : Type 0} (z : B) (f : Terminal → Option A) (i : List Terminal) (k : A → List Terminal → B) (x : B)
    → ((t : Terminal) (a : A) (u : List Terminal) → f t ≡ Some a → i ≡ t ∷ u → k a u ≡ z) → x ≡ z → on_first f i k x ≡ z
test_is z f [] k x h g = g
test_is {A} {B} z f (t ∷ u) k x h g = go (f t) refl
  where
    go : (o : Option A) → f t ≡ o → on_some o (λ a. k a u) x ≡ z
    go (Some a) e = h t a u e refl
    go None e = g

op_misses : {B : Type 0} (y : Exact) (i : List Terminal) (k : ℕ → List Terminal → B) (x : B) → ((u : List Terminal) → i ≡ Op y ∷ u → ⊥)
    → on_first (is_op y) i k x ≡ x
op_misses {B} y i k x miss =
    test_is x (is_op y) i k x (λ t a u f q. elim (op_or_not y t) as (λ _. k a u ≡ x) [
      | inl e ↦ absurd (miss u (q ∙ ap (λ z. z ∷ u) e))
      | inr w ↦ absurd (some_none a (sym f ∙ w))
    ]) refl

word_misses : {B : Type 0} (y : Keyword) (i : List Terminal) (k : ℕ → List Terminal → B) (x : B)
    → ((u : List Terminal) → i ≡ Word y ∷ u → ⊥) → on_first (is_word y) i k x ≡ x
word_misses {B} y i k x miss =
    test_is x (is_word y) i k x (λ t a u f q. elim (word_or_not y t) as (λ _. k a u ≡ x) [
      | inl e ↦ absurd (miss u (q ∙ ap (λ z. z ∷ u) e))
      | inr w ↦ absurd (some_none a (sym f ∙ w))
    ]) refl

named_misses : {B : Type 0} (y : Exact) (i : List Terminal) (k : Identifier → List Terminal → B) (x : B)
    → ((a : Spelled) (u : List Terminal) → i ≡ Ident a ∷ (Op y ∷ u) → ⊥) → on_name_with y i k x ≡ x
named_misses y i k x miss =
    test_is x name_in i _ x (λ t a u f q. op_misses y u _ x (λ v p. let w = name_is t a f in
    miss w.0 v (q ∙ (ap (λ z. z ∷ u) w.1 ∙ ap (λ z. Ident w.0 ∷ z) p)))) refl

-- ---- What the terminals are where an item goes too deep.
deep_not_none : {A : Type 0} → ◌≡◌ {A = Answer A} NoForm TooDeep → ⊥
deep_not_none h = absurd (cc)

deep_not_found : {A : Type 0} (a : A) (r : List Terminal) → ◌≡◌ {A = Answer A} (Found a r) TooDeep → ⊥
deep_not_found a r h = absurd (cc)

abbrev more : List Terminal → Bool
more r = starts (Of Expression) r

-- after an item: a comma, and too deep further on
abbrev Further : (List Terminal → Answer Item) → ℕ → List Terminal → Type 0
Further one m r = (s : List Terminal) × (r ≡ Op Sign.Comma ∷ s) × (more s ≡ true) × (commas one more m s ≡ TooDeep)

abbrev after_item : (List Terminal → Answer Item) → ℕ → Item → List Terminal → Answer (List Item)
after_item one m a r =
    on_first (is_op Sign.Comma) r (λ _ r1. cond (more r1) (and_then (commas one more m r1) (λ as_ r2. Found (a ∷ as_) r2))
    (Found (a ∷ []) r1)) (Found (a ∷ []) r)

further : (one : List Terminal → Answer Item) (m : ℕ) (a : Item) (r : List Terminal) → after_item one m a r ≡ TooDeep → Further one m r
further one m a [] h = absurd (deep_not_found _ _ h)
further one m a (t ∷ s) h = elim (op_or_not Sign.Comma t) [
  | inl e ↦ let p = inside s (subst (λ z. after_item one m a (z ∷ s) ≡ TooDeep) e h) in (s, ap (λ z. z ∷ s) e, p.0, p.1)
  | inr w ↦ absurd (deep_not_found _ _ (sym (missing w) ∙ h))
]
  where
    missing : is_op Sign.Comma t ≡ None → after_item one m a (t ∷ s) ≡ Found (a ∷ []) (t ∷ s)
    missing w = ap (λ o. on_some o (λ _. cond (more s) (and_then (commas one more m s) (λ as_ r2. Found (a ∷ as_) r2)) (Found (a ∷ []) s))
        (Found (a ∷ []) (t ∷ s))) w

    inside : (s : List Terminal) → after_item one m a (Op Sign.Comma ∷ s) ≡ TooDeep → (more s ≡ true) × (commas one more m s ≡ TooDeep)
    inside s h = by (more s) (commas one more m s) h
      where
        by : (b : Bool) (x : Answer (List Item)) → cond b (and_then x (λ as_ r2. Found (a ∷ as_) r2)) (Found (a ∷ []) s) ≡ TooDeep
            → (b ≡ true) × (x ≡ TooDeep)
        by true TooDeep h = (refl, refl)
        by true NoForm h = absurd (deep_not_none h)
        by true (Found c r) h = absurd (deep_not_found _ _ h)
        by false x h = absurd (deep_not_found _ _ h)

-- ---- An element, beside the item that begins where it does.
-- without a star and without `:=` it is an Expression
elem_is : (k : ℕ) (i : List Terminal) → ((u : List Terminal) → i ≡ Op Sign.Star ∷ u → ⊥)
    → ((a : Spelled) (u : List Terminal) → i ≡ Ident a ∷ (Op Sign.ColonEqual ∷ u) → ⊥) → read (suc k) Elem i ≡ read (suc k) Expression i
elem_is k i star named = op_misses Sign.Star i _ _ star ∙ named_misses Sign.ColonEqual i _ _ named

module _ (h d : ℕ) where
  -- higher than the room
  abbrev Higher : Answer Expr → Type 0
  Higher x = Over height (suc (suc d)) x

  abbrev room : Reads
  room = capped (suc h) (suc d)

  abbrev one : List Terminal → Answer Item
  one i = read_item room i

  abbrev following_expression : Expr → List Terminal → Answer Item
  following_expression e r =
      on_first (is_word Key.As) r (λ _ r1. and_then (item_target room r1) (λ t r2. Found (item e (Some t)) r2)) (Found (item e None) r)

  -- nothing that goes too deep begins so
  no_first : (m : ℕ) (i : List Terminal) → room Expression i ≡ NoForm → commas one more (suc m) i ≡ TooDeep → ⊥
  no_first m i q p = deep_not_none (sym (ap (λ z. and_then (and_then z following_expression) (after_item one m)) q) ∙ p)

  no_star : (m : ℕ) (i : List Terminal) → commas one more (suc m) i ≡ TooDeep → (u : List Terminal) → i ≡ Op Sign.Star ∷ u → ⊥
  no_star m i p u q = no_first m (Op Sign.Star ∷ u) refl (subst (λ z. commas one more (suc m) z ≡ TooDeep) q p)

  no_bracket : (m : ℕ) (i : List Terminal) → commas one more (suc m) i ≡ TooDeep → (u : List Terminal) → i ≡ Op Sign.RPar ∷ u → ⊥
  no_bracket m i p u q = no_first m (Op Sign.RPar ∷ u) refl (subst (λ z. commas one more (suc m) z ≡ TooDeep) q p)

  no_yield : (m : ℕ) (i : List Terminal) → commas one more (suc m) i ≡ TooDeep → (u : List Terminal) → i ≡ Word Key.Yield ∷ u → ⊥
  no_yield m i p u q = no_first m (Word Key.Yield ∷ u) refl (subst (λ z. commas one more (suc m) z ≡ TooDeep) q p)

  no_named : (m : ℕ) (i : List Terminal) → commas one more (suc m) i ≡ TooDeep → (a : Spelled) (u : List Terminal)
      → i ≡ Ident a ∷ (Op Sign.ColonEqual ∷ u) → ⊥
  no_named m i p a u q = deep_not_found (item (Trees.Name a.form Load) None ∷ []) (Op Sign.ColonEqual ∷ u)
      (sym (ap (λ z. and_then (and_then z following_expression) (after_item one m)) room_name)
      ∙ subst (λ z. commas one more (suc m) z ≡ TooDeep) q p)
    where
      low : (n : ℕ) (e : Expr) (r : List Terminal) → Over height n (Found e r) → n ≤ height e
      low n e r (over w) = w

      room_name : room Expression (Ident a ∷ (Op Sign.ColonEqual ∷ u)) ≡ Found (Trees.Name a.form Load) (Op Sign.ColonEqual ∷ u)
      room_name = elim (caps_read (suc h) (suc d) Expression (Ident a ∷ (Op Sign.ColonEqual ∷ u))) [
        | inl v ↦ v
        | inr v ↦ absurd (omega (arith, low (suc (suc d)) (Trees.Name a.form Load) (Op Sign.ColonEqual ∷ u) v.1))
      ]

  -- an element: high, or before `as`, or before a comma
  -- which an item goes too deep
  element : (m : ℕ) (i : List Terminal) (K : Expr → List Terminal → Answer Expr) → commas one more (suc m) i ≡ TooDeep →
      ((e : Expr) (r : List Terminal) → suc (suc d) ≤ height e → Higher (K e r)) →
      ((e : Expr) (s : List Terminal) → Higher (K e (Word Key.As ∷ s))) →
      ((e : Expr) (s : List Terminal) → suc (length s) ≤ length i → more s ≡ true → commas one more m s ≡ TooDeep
      → Higher (K e (Op Sign.Comma ∷ s))) →
      Higher (and_then (read h Elem i) K)
  element m i K deep high named goes = at h (keeps_read h Expression i)
    where
      -- what is found by both
      both : (e : Expr) (r : List Terminal) → room Expression i ≡ Found e r → Higher (K e r)
      both e r q = by r refl
        where
          shorter : length r ≤ length i
          shorter = let p = sound_front (suc h) Expression i r e (capped_found (suc h) (suc d) Expression i e r q) in
              omega (arith, ap length p.1, length-append p.0 r)

          comma : following_expression e r ≡ Found (item e None) r → Higher (K e r)
          comma p =
              let f = further one m (item e None) r (sym (ap (λ z. and_then (and_then z following_expression) (after_item one m)) q
              ∙ ap (λ z. and_then z (after_item one m)) p) ∙ deep) in
              subst (λ z. Higher (K e z)) (sym f.1) (goes e f.0 (omega (arith, shorter, ap length f.1)) f.2 f.3)

          by : (s : List Terminal) → r ≡ s → Higher (K e r)
          by [] p = comma (subst (λ z. following_expression e z ≡ Found (item e None) z) (sym p) refl)
          by (t ∷ s) p = elim (word_or_not Key.As t) [
            | inl w ↦ subst (λ z. Higher (K e z)) (sym (p ∙ ap (λ z. z ∷ s) w)) (named e s)
            | inr w ↦ comma (word_misses Key.As r _ _ (λ u v. some_none 0 (ap (is_word Key.As) (heads (sym v ∙ p)) ∙ w)))
          ]

      at : (k : ℕ) → (read k Expression i ≡ TooDeep) ⊎ (read k Expression i ≡ read (suc h) Expression i)
          → Higher (and_then (read k Elem i) K)
      at zero s = sunk
      at (suc k) s = subst (λ z. Higher (and_then z K)) (sym (elem_is k i (no_star m i deep) (no_named m i deep))) (elim s [
        | inl q ↦ subst (λ z. Higher (and_then z K)) (sym q) sunk
        | inr q ↦ subst (λ z. Higher (and_then z K)) (sym q) (full (room Expression i) refl)
      ])
        where
          full : (x : Answer Expr) → room Expression i ≡ x → Higher (and_then (read (suc h) Expression i) K)
          full (Found e r) q = subst (λ z. Higher (and_then z K)) (sym (capped_found (suc h) (suc d) Expression i e r q)) (both e r q)
          full NoForm q = absurd (no_first m i q deep)
          full TooDeep q = elim (caps_read (suc h) (suc d) Expression i) [
            | inl v ↦ subst (λ z. Higher (and_then z K)) (sym q ∙ v) sunk
            | inr v ↦ over_on height height (suc (suc d)) (suc (suc d)) (read (suc h) Expression i) K v.1 high
          ]

  -- the elements after a comma, and their bracket
  abbrev tuple_closed : Expr → List Entry → List Terminal → Answer Expr
  tuple_closed e es r = closed Sign.RPar r (Trees.Tuple (an_expr e (singles es)) Load)

  abbrev elements : ℕ → List Entry → List Terminal → Answer (List Entry)
  elements m acc r = listing_loop (piece (read h) (Of Elem)) (Of Elem) m acc r

  -- after an element
  abbrev after_element : Expr → ℕ → List Entry → Expr → List Terminal → Answer Expr
  after_element c m acc e r =
      and_then (on_first (is_op Sign.Comma) r (λ _ r2. elements m (acc ++ (Single e ∷ [])) r2) (Found (acc ++ (Single e ∷ [])) r))
      (tuple_closed c)

  over_tuple : (c : Expr) (es : List Entry) (r : List Terminal) → suc (suc d) ≤ list_size (Of Elem) es → Higher (tuple_closed c es r)
  over_tuple c es r w = over_closed height (suc (suc d)) Sign.RPar r (Trees.Tuple (an_expr c (singles es)) Load)
      (omega (arith, w, singles_size Elem es))

  -- what begins an Expression begins an element
  elem_starts : (i : List Terminal) → more i ≡ true → starts (Of Elem) i ≡ true
  elem_starts [] q = absurd (cc)
  elem_starts (t ∷ r) q = le-leb 7 (lead t) (omega (arith, leb-true 9 (lead t) q))

  -- one element of those
  step : (c : Expr) (m : ℕ) (acc : List Entry) (i : List Terminal) → starts (Of Elem) i ≡ true
      → and_then (elements (suc m) acc i) (tuple_closed c) ≡ and_then (read h Elem i) (after_element c m acc)
  step c m acc i q = ap
      (λ b. and_then (cond b
      (and_then (piece (read h) (Of Elem) i) (λ a r. on_first (is_op Sign.Comma) r (λ _ r2. elements m (acc ++ (a ∷ [])) r2)
      (Found (acc ++ (a ∷ [])) r))) (Found acc i)) (tuple_closed c)) q ∙ nested (read h Elem i)
    where
      nested : (x : Answer Expr)
          → and_then (and_then (and_then x (λ e r. Found (Single e) r))
          (λ a r. on_first (is_op Sign.Comma) r (λ _ r2. elements m (acc ++ (a ∷ [])) r2) (Found (acc ++ (a ∷ [])) r))) (tuple_closed c) ≡
          and_then x (after_element c m acc)
      nested (Found e r) = refl
      nested NoForm = refl
      nested TooDeep = refl

  over_elements : (m k : ℕ) (c : Expr) (acc : List Entry) (i : List Terminal) → more i ≡ true → commas one more m i ≡ TooDeep → length i ≤ k
      → Higher (and_then (elements k acc i) (tuple_closed c))
  over_elements zero k c acc i b q w = absurd (deep_not_none q)
  over_elements (suc m) k c acc [] b q w = absurd (cc)
  over_elements (suc m) zero c acc (t ∷ r) b q w = absurd (omega (arith, w))
  over_elements (suc m) (suc k) c acc (t ∷ r) b q w = subst Higher (sym (step c k acc (t ∷ r) (elem_starts (t ∷ r) b)))
      (element m (t ∷ r) (after_element c k acc) q
      (λ e s v. over_on (list_size (Of Elem)) height (suc (suc d)) (suc (suc d)) _ (tuple_closed c)
      (over_first (list_size (Of Elem)) (suc (suc d)) (is_op Sign.Comma) s _ _
      (λ _ r2. over_listing (suc (suc d)) (piece (read h) (Of Elem)) (Of Elem) k (acc ++ (Single e ∷ [])) r2
      (omega (arith, v, list_last (Of Elem) acc (Single e)))) (over (omega (arith, v, list_last (Of Elem) acc (Single e)))))
      (λ es r3 y. over_tuple c es r3 y))
      (λ e s. none)
      (λ e s le x y. over_elements m k c (acc ++ (Single e ∷ [])) s x y (omega (arith, w, le))))

  -- round brackets
  abbrev following_first : List Terminal → Expr → List Terminal → Answer Expr
  following_first i e r =
      on_first (is_op Sign.Comma) r (λ _ r1. and_then (listing_of (read h) (Of Elem) [] r1) (tuple_closed e))
      (unstarred i (cond (starts_comp r) (comps_closed (read h) Sign.RPar r (λ gs. Trees.GeneratorExp e (comprehensions gs)))
      (closed Sign.RPar r e)))

  over_round : (m : ℕ) (i : List Terminal) → commas one more (suc m) i ≡ TooDeep → Higher (round (read h) i)
  over_round m i q = subst Higher (sym (op_misses Sign.RPar i _ _ (no_bracket m i q) ∙ word_misses Key.Yield i _ _ (no_yield m i q)))
      (element m i (following_first i) q
      (λ e r w. over_first height (suc (suc d)) (is_op Sign.Comma) r _ _
      (λ _ r1. over_then height (suc (suc d)) (listing_of (read h) (Of Elem) [] r1) (tuple_closed e)
      (λ es r2. over_closed height (suc (suc d)) Sign.RPar r2 (Trees.Tuple (an_expr e (singles es)) Load) (omega (arith, w))))
      (over_unstarred (suc (suc d)) height i _ (over_cond height (suc (suc d)) (starts_comp r) _ _
      (over_comps_closed (read h) (suc (suc d)) Sign.RPar r (λ gs. Trees.GeneratorExp e (comprehensions gs)) (λ gs. omega (arith, w)))
      (over_closed height (suc (suc d)) Sign.RPar r e w))))
      (λ e s. over_unstarred (suc (suc d)) height i NoForm none)
      (λ e s le x y. over_elements m (length s) e [] s x y (omega arith)))

  -- and what they stand in
  over_opened : (i : List Terminal) → Higher (round (read h) i) → Higher (read (suc h) Expression (Op Sign.LPar ∷ i))
  over_opened i w =
      over_on height height (suc (suc d)) (suc (suc d)) (read (suc h) Or (Op Sign.LPar ∷ i)) (λ e r. if_else_step (read h) e r)
      (over_on height height (suc (suc d)) (suc (suc d)) (read (suc h) Primary (Op Sign.LPar ∷ i))
      (λ e r. climb_loop (read h) (rank Or) (length r) e r)
      (over_on height height (suc (suc d)) (suc (suc d)) (round (read h) i) (λ e r. primary_loop (read h) (length r) e r) w
      (λ e r v. over_primary (read h) (light_read h) (suc (suc d)) (length r) e r v))
      (λ e r v. over_loop (read h) (light_read h) (suc (suc d)) (rank Or) (length r) e r v))
      (λ e r v. over_if_else (read h) (light_read h) (suc (suc d)) e r v)

  -- after the items in brackets nothing goes too deep
  abbrev after_items : List Item → List Terminal → Answer (List Item)
  after_items is r = on_first (is_op Sign.RPar) r (λ _ r2. on_first (is_op Sign.Colon) r2 (λ _ _. Found is r2) NoForm) NoForm

  sign_calm : (y : Exact) (r : List Terminal) (k : List Terminal → Answer (List Item)) → ((s : List Terminal) → k s ≡ TooDeep → ⊥)
      → on_first (is_op y) r (λ _ s. k s) NoForm ≡ TooDeep → ⊥
  sign_calm y [] k calm q = deep_not_none q
  sign_calm y (t ∷ r) k calm q = by (is_op y t) q
    where
      by : (o : Option ℕ) → on_some o (λ _. k r) NoForm ≡ TooDeep → ⊥
      by None q = deep_not_none q
      by (Some a) q = calm r q

  items_calm : (x : Answer (List Item)) → and_then x after_items ≡ TooDeep → x ≡ TooDeep
  items_calm TooDeep q = refl
  items_calm NoForm q = absurd (deep_not_none q)
  items_calm (Found is r) q =
      absurd (sign_calm Sign.RPar r (λ r2. on_first (is_op Sign.Colon) r2 (λ _ _. Found is r2) NoForm)
      (λ r2 v. sign_calm Sign.Colon r2 (λ _. Found is r2) (λ s w. deep_not_found is r2 w) v) q)

  over_bracketed : (i : List Terminal) → bracketed room i ≡ TooDeep → Higher (read (suc h) Expression i)
  over_bracketed [] q = absurd (deep_not_none q)
  over_bracketed (t ∷ r) q = elim (op_or_not Sign.LPar t) [
    | inl e ↦ subst (λ z. Higher (read (suc h) Expression (z ∷ r))) (sym e)
        (over_opened r (over_round (length r) r (items_calm (commas_of one more r) (subst (λ z. bracketed room (z ∷ r) ≡ TooDeep) e q))))
    | inr w ↦ absurd (deep_not_none
        (sym (op_misses Sign.LPar (t ∷ r) (λ _ s. and_then (commas_of one more s) after_items) NoForm
        (λ u v. some_none 0 (sym (ap (is_op Sign.LPar) (heads v)) ∙ w))) ∙ q))
  ]

-- where items in brackets go too deep, the items without them are high
pub brackets : (g d : ℕ) → Brackets (suc d) (capped g (suc d)) (read g)
brackets zero d i q = sunk
brackets (suc h) d i q = over_commas item_height item_heights (λ a as_. refl) (suc d) always (read_item (read (suc h))) (suc (length i)) i
    (over_item (suc d) (read (suc h)) i (over_bracketed h d i q))
