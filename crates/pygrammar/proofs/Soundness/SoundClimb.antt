-- What the reader answers is derived: the levels Or .. Await.
--
-- Carries: Stands, operation_sound, infix_hit, climb_front and 1 more, for
-- Room, Sound. On: Says, Climb.
use Rattle.std.proofs.Common.{◌≡◌, ◌⊎◌, inl, inr, refl, sym, ap, subst, ◌∙◌, ℕ, zero, suc, ◌≤◌, ◌<◌, arith, List, [], ◌∷◌, ◌++◌, length}
use Rattle.std.proofs.Common.{Option, Some, None, Bool, true, false, cond, append_assoc, length-append, leb}
use Rattle.pylex_lexeme.specs.declared.kinds.Exact.TheVariants.{LPar, Plus, Minus, Star, Slash, VBar, Amper, Less, Greater, Percent}
use Rattle.pylex_lexeme.specs.declared.kinds.Exact.TheVariants.{EqEqual, NotEqual, LessEqual, GreaterEqual, Tilde, Circumflex, LeftShift}
use Rattle.pylex_lexeme.specs.declared.kinds.Exact.TheVariants.{RightShift, DoubleStar, DoubleSlash, At}
use Rattle.pytoken.specs.declared.keywords.Keyword.TheVariants as Key
use Rattle.pytree_node.specs.declared.operators.Operator.{Operator}
use Rattle.pytree_node.specs.declared.operators.Operator.TheVariants as Bin
use Rattle.pytree_node.specs.declared.operators.UnaryOperator.{UnaryOperator}
use Rattle.pytree_node.specs.declared.operators.UnaryOperator.TheVariants as Un
use Rattle.pytree_node.specs.declared.operators.BoolOperator.{BoolOperator}
use Rattle.pytree_node.specs.declared.operators.BoolOperator.TheVariants as Join
use Rattle.pytree_node.specs.declared.operators.Comparison.{Comparison}
use Rattle.pytree_node.specs.declared.operators.Comparison.TheVariants as Is
use Rattle.pygrammar.specs.declared.levels.Level.{Level}
use Rattle.pygrammar.specs.declared.levels.Level.TheVariants.{Or, And, Not, Compare, BitOr, BitXor, BitAnd, Shift, Sum, Term, Factor, Power}
use Rattle.pygrammar.specs.declared.levels.Level.TheVariants.{Await, Primary}
use Rattle.pytree_node.specs.Trees
use Rattle.pytree_node.specs.Trees.{Expr, exprs}
use Rattle.pytoken.specs.Terminals.{Terminal, Op, Word}
use Rattle.pygrammar.specs.Looks.{is_word}
use Rattle.pygrammar.specs.Operators.{below, chain_level, chain_word, comparison, left_operator, prefix_operator, rank}
use Rattle.pygrammar.specs.Reader.{Answer, Found, and_then, on_some, on_first, Reads, chain_loop, on_comparison, compare_loop, operation}
use Rattle.pygrammar.specs.Reader.{climb_loop, prefixed, climb}
use Rattle.pygrammar.specs.Precedence.{Infix, Left, Raise, Joins, Compares, Prefix, Signed, Awaits, infix_rank, following, prefix_rank, before}
use Rattle.pygrammar.specs.Precedence.{at_least, infix_from, prefix_from}
use Rattle.pygrammar.specs.Grammar as G
use Rattle.std.proofs.lemmas.Bool.{leb-true, le-leb}
use Rattle.pygrammar.proofs.Completeness.Climb.{lim}
use Rattle.pygrammar.proofs.Soundness.Says.{Says, found, no_form, says_then, says_first, says_word, says_is, turn, turn_of, turns, halt}
use Rattle.pygrammar.proofs.Soundness.Says.{Reads_as, SoundAt, lower}

-- numbers of the levels
lim_rank : (c : Level) → rank c ≤ 22 → lim c ≤ rank c
lim_rank Or h = omega arith
lim_rank _ h = omega arith

joint_or : (c : Level) → rank c ≤ 22 → 10 ≤ lim c → 11 ≤ rank c
joint_or Or h q = absurd (omega (arith, q))
joint_or _ h q = omega (arith, h, q)

joint_and : (c : Level) → rank c ≤ 22 → 11 ≤ lim c → 12 ≤ rank c
joint_and Or h q = absurd (omega (arith, q))
joint_and _ h q = omega (arith, h, q)

joint_compare : (c : Level) → rank c ≤ 22 → 13 ≤ lim c → 14 ≤ rank c
joint_compare Or h q = absurd (omega (arith, q))
joint_compare _ h q = omega (arith, h, q)

joint_power : (c : Level) → rank c ≤ 22 → 21 ≤ lim c → 22 ≤ rank c
joint_power Or h q = absurd (omega (arith, q))
joint_power _ h q = omega (arith, h, q)

-- an expression of a level of rank at least k, read at the front of i
abbrev pub Stands : ℕ → List Terminal → Expr → List Terminal → Type 0
Stands k i e r = (c : Level) × (ts : List Terminal) × (i ≡ ts ++ r) × G.Derives c ts e × (k ≤ rank c) × (rank c ≤ 22) × (turn_of r ≤ lim c)

shorter : (i ts r : List Terminal) → i ≡ ts ++ r → length r ≤ length i
shorter i ts r q = omega (arith, ap length q, length-append ts r)

-- chains
not_chain : (o : BoolOperator) (t : Terminal) → is_word (chain_word o) t ≡ None → turn t ≤ rank (chain_level o)
    → turn t < rank (chain_level o)
not_chain Join.And (Word Key.And) h q = absurd (cc)
not_chain Join.And (Word _) h q = omega (arith, q)
not_chain Join.And (Op LPar) h q = omega (arith, q)
not_chain Join.And (Op _) h q = omega (arith, q)
not_chain Join.And _ h q = omega (arith, q)
not_chain Join.Or (Word Key.Or) h q = absurd (cc)
not_chain Join.Or (Word _) h q = omega (arith, q)
not_chain Join.Or (Op LPar) h q = omega (arith, q)
not_chain Join.Or (Op _) h q = omega (arith, q)
not_chain Join.Or _ h q = omega (arith, q)

chain_pos : (o : BoolOperator) → 0 < rank (chain_level o)
chain_pos Join.And = omega arith
chain_pos Join.Or = omega arith

miss_chain : (o : BoolOperator) (r : List Terminal) → ((t : Terminal) (s : List Terminal) → r ≡ t ∷ s → is_word (chain_word o) t ≡ None)
    → turn_of r ≤ rank (chain_level o) → turn_of r < rank (chain_level o)
miss_chain o [] f h = chain_pos o
miss_chain o (t ∷ s) f h = not_chain o t (f t s refl) h

halt_chain : (o : BoolOperator) → halt (below (chain_level o)) ≡ suc (rank (chain_level o))
halt_chain Join.And = refl
halt_chain Join.Or = refl

empty_turn : (r : List Terminal) (n : ℕ) → length r ≤ 0 → 0 < n → turn_of r < n
empty_turn [] n h p = p
empty_turn (t ∷ r) n h p = absurd (omega (arith, h))

abbrev ChainAt : BoolOperator → List Expr → List Terminal → List Expr → List Terminal → Type 0
ChainAt o acc r es r2 = (us : List Terminal) × (xs : List Expr) × (es ≡ acc ++ xs) × (r ≡ Word (chain_word o) ∷ (us ++ r2)) × G.Chain o us
    xs × (turn_of r2 < rank (chain_level o))

abbrev ChainOr : BoolOperator → List Expr → List Terminal → List Expr → List Terminal → Type 0
ChainOr o acc r es r2 = ((es ≡ acc) × (r ≡ r2) × (turn_of r2 < rank (chain_level o))) ⊎ ChainAt o acc r es r2

link_shape : (w : Terminal) (ts us r : List Terminal) → w ∷ (ts ++ (w ∷ (us ++ r))) ≡ w ∷ ((ts ++ (w ∷ us)) ++ r)
link_shape w ts us r = simp append_assoc refl

module _ (self : Reads) (all : SoundAt self) where
  chain_sound : (o : BoolOperator) (m : ℕ) (acc : List Expr) (r : List Terminal) → length r ≤ m → turn_of r ≤ rank (chain_level o)
      → Says (ChainOr o acc r) (chain_loop self o m acc r)
  chain_sound o zero acc r le h = found (inl (refl, refl, empty_turn r (rank (chain_level o)) le (chain_pos o)))
  chain_sound o (suc m) acc r le h =
      says_word (chain_word o) r _ _
      (λ a s q. says_then _ _ (all (below (chain_level o)) s) (λ b r1 p.
      says_is _ (chain_sound o m (acc ++ (b ∷ [])) r1 (omega (arith, le, ap length q, shorter s p.0 r1 p.1))
      (omega (arith, p.3, halt_chain o))) (λ es r2 v. inr (elim v [
        | inl u ↦ (p.0, b ∷ [], u.0, q ∙ ap (λ z. Word (chain_word o) ∷ z) (p.1 ∙ ap (λ z. p.0 ++ z) u.1), G.last_link p.2, u.2)
        | inr u ↦ (
          p.0 ++ (Word (chain_word o) ∷ u.0),
          b ∷ u.1,
          u.2 ∙ append_assoc acc (b ∷ []) u.1,
          q
              ∙ ap (λ z. Word (chain_word o) ∷ z) (p.1 ∙ ap (λ z. p.0 ++ z) u.3)
              ∙ link_shape (Word (chain_word o)) p.0 u.0 r2,
          G.link p.2 u.4,
          u.5,
        )
      ]))))
      (λ f. found (inl (refl, refl, miss_chain o r f h)))

-- comparisons
not_comparison : (t : Terminal) → comparison t ≡ None → is_word Key.Not t ≡ None → is_word Key.Is t ≡ None → turn t ≤ 13 → turn t < 13
not_comparison (Op EqEqual) h k j q = absurd (cc)
not_comparison (Op NotEqual) h k j q = absurd (cc)
not_comparison (Op Less) h k j q = absurd (cc)
not_comparison (Op LessEqual) h k j q = absurd (cc)
not_comparison (Op Greater) h k j q = absurd (cc)
not_comparison (Op GreaterEqual) h k j q = absurd (cc)
not_comparison (Op _) h k j q = omega (arith, q)
not_comparison (Word Key.In) h k j q = absurd (cc)
not_comparison (Word Key.Not) h k j q = absurd (cc)
not_comparison (Word Key.Is) h k j q = absurd (cc)
not_comparison (Word _) h k j q = omega (arith, q)
not_comparison _ h k j q = omega (arith, q)

miss_comparisons : (r : List Terminal) → ((t : Terminal) (s : List Terminal) → r ≡ t ∷ s → comparison t ≡ None)
    → ((t : Terminal) (s : List Terminal) → r ≡ t ∷ s → is_word Key.Not t ≡ None)
    → ((t : Terminal) (s : List Terminal) → r ≡ t ∷ s → is_word Key.Is t ≡ None) → turn_of r ≤ 13 → turn_of r < 13
miss_comparisons [] f g h q = omega arith
miss_comparisons (t ∷ s) f g h q = not_comparison t (f t s refl) (g t s refl) (h t s refl) q

says_comparison : {B : Type 0} {Q : B → List Terminal → Type 0} (self : Reads) (r : List Terminal) (hit : Comparison → List Terminal
    → Answer B) (x : Answer B) → ((o : Comparison) (ss s : List Terminal) → G.Compared ss o → r ≡ ss ++ s → 0 < length ss
    → Says Q (hit o s)) → ((turn_of r ≤ 13 → turn_of r < 13) → Says Q x) → Says Q (on_comparison self r hit x)
says_comparison self r hit x h g =
    says_first comparison r _ _ (λ t o s f q. h o (t ∷ []) s (G.one_sign f) q (omega arith)) (λ f1.
    says_word Key.Not r _ _ (λ a s q. says_word Key.In s _ _ (λ b u p. h Is.NotIn (Word Key.Not ∷ (Word Key.In ∷ [])) u G.not_in (q
    ∙ ap (λ z. Word Key.Not ∷ z) p) (omega arith)) (λ _. no_form)) (λ f2.
    says_word Key.Is r _ _ (λ a s q. says_word Key.Not s _ _ (λ b u p. h Is.IsNot (Word Key.Is ∷ (Word Key.Not ∷ [])) u G.is_not (q
    ∙ ap (λ z. Word Key.Is ∷ z) p) (omega arith)) (λ _. h Is.Is (Word Key.Is ∷ []) s G.is q (omega arith)))
    (λ f3. g (miss_comparisons r f1 f2 f3))))

abbrev CompareAt : List Comparison → List Expr → List Terminal → List Comparison → List Expr → List Terminal → Type 0
CompareAt xs acc r os es r2 = (us : List Terminal) × (ys : List Comparison) × (zs : List Expr) × (os ≡ xs ++ ys) × (es ≡ acc ++ zs) ×
    (r ≡ us ++ r2) × G.Compares us ys zs × (turn_of r2 < 13)

abbrev CompareOr : List Comparison → List Expr → List Terminal → List Comparison → List Expr → List Terminal → Type 0
CompareOr xs acc r os es r2 = ((os ≡ xs) × (es ≡ acc) × (r ≡ r2) × (turn_of r2 < 13)) ⊎ CompareAt xs acc r os es r2

three : (a b c r : List Terminal) → a ++ (b ++ (c ++ r)) ≡ (a ++ (b ++ c)) ++ r
three a b c r = simp append_assoc refl

module _ (self : Reads) (all : SoundAt self) where
  compare_sound : {Q : Expr → List Terminal → Type 0} (m : ℕ) (xs : List Comparison) (acc : List Expr) (r : List Terminal)
      (k : List Comparison → List Expr → List Terminal → Answer Expr) → length r ≤ m → turn_of r ≤ 13
      → ((os : List Comparison) (es : List Expr) (r2 : List Terminal) → CompareOr xs acc r os es r2 → Says Q (k os es r2))
      → Says Q (compare_loop self m xs acc r k)
  compare_sound zero xs acc r k le h j = j xs acc r (inl (refl, refl, refl, empty_turn r 13 le (omega arith)))
  compare_sound (suc m) xs acc r k le h j =
      says_comparison self r _ _
      (λ o ss s c q z. says_then _ _ (all BitOr s) (λ b r1 p.
      compare_sound m (xs ++ (o ∷ [])) (acc ++ (b ∷ [])) r1 k (omega (arith, le, ap length q, length-append ss s, z, shorter s p.0 r1 p.1))
      (omega (arith, p.3)) (λ os es r2 v. j os es r2 (inr (elim v [
        | inl u ↦ (
          ss ++ p.0,
          o ∷ [],
          b ∷ [],
          u.0,
          u.1,
          q ∙ ap (λ z. ss ++ z) (p.1 ∙ ap (λ z. p.0 ++ z) u.2) ∙ sym (append_assoc ss p.0 r2),
          G.last_compare c p.2,
          u.3,
        )
        | inr u ↦ (
          ss ++ (p.0 ++ u.0),
          o ∷ u.1,
          b ∷ u.2,
          u.3 ∙ append_assoc xs (o ∷ []) u.1,
          u.4 ∙ append_assoc acc (b ∷ []) u.2,
          q
              ∙ ap (λ z. ss ++ z) (p.1 ∙ ap (λ z. p.0 ++ z) u.5) ∙ three ss p.0 u.0 r2,
          G.compares c p.2 u.6,
          u.7,
        )
      ])))))
      (λ f. j xs acc r (inl (refl, refl, refl, f h)))

-- one operator
abbrev LeftFacts : Terminal → Level → Operator → Type 0
LeftFacts t l o = (left_operator l t ≡ Some o) × (halt (below l) ≡ suc (rank l)) × (lim l ≡ rank l) × (14 ≤ rank l) × (rank l ≤ 19)

pub same_left : (P : Level → Operator → Type 0) (l n : Level) (o p : Operator) → P l o
    → ◌≡◌ {A = Option Infix} (Some (Left l o)) (Some (Left n p)) → P n p
same_left P l n o p h q = subst (λ z. P z p) (one l n o p q) (subst (λ z. P l z) (two l n o p q) h)
  where
    one : (l n : Level) (o p : Operator) → ◌≡◌ {A = Option Infix} (Some (Left l o)) (Some (Left n p)) → l ≡ n
    one l n o p q = cc

    two : (l n : Level) (o p : Operator) → ◌≡◌ {A = Option Infix} (Some (Left l o)) (Some (Left n p)) → o ≡ p
    two l n o p q = cc

left_facts : (t : Terminal) (l : Level) (o : Operator) → following t ≡ Some (Left l o) → LeftFacts t l o
left_facts (Op VBar) l o h = same_left (LeftFacts (Op VBar)) BitOr l Bin.BitOr o (refl, refl, refl, omega arith, omega arith) h
left_facts (Op Circumflex) l o h = same_left (LeftFacts (Op Circumflex)) BitXor l Bin.BitXor o (
  refl,
  refl,
  refl,
  omega arith,
  omega arith,
) h
left_facts (Op Amper) l o h = same_left (LeftFacts (Op Amper)) BitAnd l Bin.BitAnd o (refl, refl, refl, omega arith, omega arith) h
left_facts (Op LeftShift) l o h = same_left (LeftFacts (Op LeftShift)) Shift l Bin.LShift o (refl, refl, refl, omega arith, omega arith) h
left_facts (Op RightShift) l o h = same_left (LeftFacts (Op RightShift)) Shift l Bin.RShift o (refl, refl, refl, omega arith, omega arith) h
left_facts (Op Plus) l o h = same_left (LeftFacts (Op Plus)) Sum l Bin.Add o (refl, refl, refl, omega arith, omega arith) h
left_facts (Op Minus) l o h = same_left (LeftFacts (Op Minus)) Sum l Bin.Sub o (refl, refl, refl, omega arith, omega arith) h
left_facts (Op Star) l o h = same_left (LeftFacts (Op Star)) Term l Bin.Mult o (refl, refl, refl, omega arith, omega arith) h
left_facts (Op Slash) l o h = same_left (LeftFacts (Op Slash)) Term l Bin.Div o (refl, refl, refl, omega arith, omega arith) h
left_facts (Op DoubleSlash) l o h = same_left (LeftFacts (Op DoubleSlash)) Term l Bin.FloorDiv o (
  refl,
  refl,
  refl,
  omega arith,
  omega arith,
) h
left_facts (Op Percent) l o h = same_left (LeftFacts (Op Percent)) Term l Bin.Mod o (refl, refl, refl, omega arith, omega arith) h
left_facts (Op At) l o h = same_left (LeftFacts (Op At)) Term l Bin.MatMult o (refl, refl, refl, omega arith, omega arith) h
left_facts (Op _) l o h = absurd (cc)
left_facts (Word Key.As) l o h = absurd (cc)
left_facts (Word _) l o h = absurd (cc)
left_facts _ l o h = absurd (cc)

pub raise_is : (t : Terminal) → following t ≡ Some Raise → t ≡ Op DoubleStar
raise_is (Op DoubleStar) h = refl
raise_is (Op _) h = absurd (cc)
raise_is (Word Key.As) h = absurd (cc)
raise_is (Word _) h = absurd (cc)
raise_is _ h = absurd (cc)

chain_lower : (o : BoolOperator) (c : Level) (ts : List Terminal) (e : Expr) → rank c ≤ 22 → rank (chain_level o) ≤ lim c → G.Derives c ts e
    → G.Derives (below (chain_level o)) ts e
chain_lower Join.And c ts e h w p = lower Not c ts e (omega arith) (omega arith) (joint_and c h w) p
chain_lower Join.Or c ts e h w p = lower And c ts e (omega arith) (omega arith) (joint_or c h w) p

chain_top : (o : BoolOperator) → rank (chain_level o) ≤ 22
chain_top Join.And = omega arith
chain_top Join.Or = omega arith

lim_chain : (o : BoolOperator) → suc (lim (chain_level o)) ≡ rank (chain_level o)
lim_chain Join.And = refl
lim_chain Join.Or = refl

two : (ts us r : List Terminal) (t : Terminal) → ts ++ (t ∷ (us ++ r)) ≡ (ts ++ (t ∷ us)) ++ r
two ts us r t = sym (append_assoc ts (t ∷ us) r)

module _ (self : Reads) (all : SoundAt self) where
  pub operation_sound : (k : ℕ) (c : Level) (i ts : List Terminal) (e : Expr) (o : Infix) (t : Terminal) (r1 : List Terminal)
      → i ≡ ts ++ (t ∷ r1) → G.Derives c ts e → rank c ≤ 22 → 10 ≤ k → k ≤ infix_rank o → infix_rank o ≤ lim c → following t ≡ Some o
      → Says (λ f r2. Stands k i f r2 × (length r2 ≤ length r1)) (operation self e o (t ∷ r1) r1)
  operation_sound k c i ts e (Left l o) t r1 q p h a b w f =
      let z = left_facts t l o f in
      says_then _ _ (all (below l) r1)
      (λ x r2 y. found (
        (
          l,
          ts ++ (t ∷ y.0),
          q ∙ ap (λ z. ts ++ (t ∷ z)) y.1 ∙ two ts y.0 r2 t,
          G.binary t z.0 (lower l c ts e (omega (arith, z.3)) (omega (arith, z.4)) (omega (arith, w, lim_rank c h)) p) y.2,
          b,
          omega (arith, z.4),
          omega (arith, y.3, z.1, z.2),
        ),
        shorter r1 y.0 r2 y.1,
      ))
  operation_sound k c i ts e Raise t r1 q p h a b w f =
      says_then _ _ (all Factor r1)
      (λ x r2 y. found (
        (
          Power,
          ts ++ (Op DoubleStar ∷ y.0),
          q ∙ ap (λ z. ts ++ (z ∷ r1)) (raise_is t f)
              ∙ ap (λ z. ts ++ (Op DoubleStar ∷ z)) y.1 ∙ two ts y.0 r2 (Op DoubleStar),
          G.power (lower Await c ts e (omega arith) (omega arith) (joint_power c h w) p) y.2,
          b,
          omega arith,
          omega (arith, y.3),
        ),
        shorter r1 y.0 r2 y.1,
      ))
  operation_sound k c i ts e Compares t r1 q p h a b w f =
      compare_sound self all (length (t ∷ r1)) [] [] (t ∷ r1) _ (omega arith)
      (omega (arith, ap (λ o. on_some o infix_rank 0) f)) (λ os es r2 v. elim v [
        | inl u ↦ absurd (omega (arith, u.3, ap turn_of u.2, ap (λ o. on_some o infix_rank 0) f))
        | inr u ↦ found (
          (
            Compare,
            ts ++ u.0,
            q ∙ ap (λ z. ts ++ z) u.5 ∙ sym (append_assoc ts u.0 r2),
            subst (λ z. G.Derives Compare (ts ++ u.0) (Trees.Compare e z (exprs es))) (sym u.3)
                (subst (λ z. G.Derives Compare (ts ++ u.0) (Trees.Compare e u.1 (exprs z))) (sym u.4)
                (G.compare (lower BitOr c ts e (omega arith) (omega arith) (joint_compare c h w) p) u.6)),
            b,
            omega arith,
            omega (arith, u.7),
          ),
          compare_shorter u.0 r2 u.5 (compares_some u.6),
        )
      ])
    where
      compared_some : {ss : List Terminal} {o : Comparison} → G.Compared ss o → 0 < length ss
      compared_some (G.one_sign h) = omega arith
      compared_some G.not_in = omega arith
      compared_some G.is = omega arith
      compared_some G.is_not = omega arith

      compares_some : {us : List Terminal} {os : List Comparison} {es : List Expr} → G.Compares us os es → 0 < length us
      compares_some (G.last_compare {ss = ss} {ts = ts} c p) = omega (arith, length-append ss ts, compared_some c)
      compares_some (G.compares {ss = ss} {ts = ts} {us = us} c p q) = omega (arith, length-append ss (ts ++ us), compared_some c)

      compare_shorter : (us r2 : List Terminal) → t ∷ r1 ≡ us ++ r2 → 0 < length us → length r2 ≤ length r1
      compare_shorter us r2 q h = omega (arith, ap length q, length-append us r2, h)
  operation_sound k c i ts e (Joins o) t r1 q p h a b w f =
      let g : turn t ≡ rank (chain_level o) = ap (λ o. on_some o infix_rank 0) f in
      says_then _ _ (chain_sound self all o (length (t ∷ r1)) [] (t ∷ r1) (omega arith) (omega (arith, g))) (λ es r2 v. elim v [
        | inl u ↦ absurd (omega (arith, u.2, ap turn_of u.1, g))
        | inr u ↦ found (
          (
            chain_level o,
            ts ++ (Word (chain_word o) ∷ u.0),
            q ∙ ap (λ z. ts ++ z) u.3 ∙ two ts u.0 r2 (Word (chain_word o)),
            subst (λ z. G.Derives (chain_level o) (ts ++ (Word (chain_word o) ∷ u.0)) (Trees.BoolOp o (exprs (e ∷ z)))) (sym u.2)
                (G.chain (chain_lower o c ts e h w p) u.4),
            b,
            chain_top o,
            omega (arith, u.5, lim_chain o),
          ),
          omega (arith, ap length u.3, length-append u.0 r2),
        )
      ])

-- all operators of a rank from k on
pub infix_hit : (k : ℕ) (x : Option Infix) (o : Infix) → at_least infix_rank k x ≡ Some o → (x ≡ Some o) × (k ≤ infix_rank o)
infix_hit k None o h = absurd (cc)
infix_hit k (Some a) o h = go (leb k (infix_rank a)) refl h
  where
    some_is : (a o : Infix) → Some a ≡ Some o → a ≡ o
    some_is a o h = cc

    go : (b : Bool) → leb k (infix_rank a) ≡ b → cond b (Some a) None ≡ Some o → (Some a ≡ Some o) × (k ≤ infix_rank o)
    go true q h = (h, subst (λ z. k ≤ infix_rank z) (some_is a o h) (leb-true k (infix_rank a) q))
    go false q h = absurd (cc)

infix_miss : (k : ℕ) (x : Option Infix) → at_least infix_rank k x ≡ None → 0 < k → on_some x infix_rank 0 < k
infix_miss k None h p = p
infix_miss k (Some a) h p = go (leb k (infix_rank a)) refl h
  where
    go : (b : Bool) → leb k (infix_rank a) ≡ b → cond b (Some a) None ≡ None → infix_rank a < k
    go true q h = absurd (cc)
    go false q h = lt (infix_rank a) (λ w. no (sym (le-leb k (infix_rank a) w) ∙ q))
      where
        lt : (n : ℕ) → (k ≤ n → ⊥) → n < k
        lt n f = omega (arith, f)

        no : ◌≡◌ {A = Bool} true false → ⊥
        no h = absurd (cc)

prefix_hit : (k : ℕ) (x : Option Prefix) (o : Prefix) → at_least prefix_rank k x ≡ Some o → (x ≡ Some o) × (k ≤ prefix_rank o)
prefix_hit k None o h = absurd (cc)
prefix_hit k (Some a) o h = go (leb k (prefix_rank a)) refl h
  where
    some_is : (a o : Prefix) → Some a ≡ Some o → a ≡ o
    some_is a o h = cc

    go : (b : Bool) → leb k (prefix_rank a) ≡ b → cond b (Some a) None ≡ Some o → (Some a ≡ Some o) × (k ≤ prefix_rank o)
    go true q h = (h, subst (λ z. k ≤ prefix_rank z) (some_is a o h) (leb-true k (prefix_rank a) q))
    go false q h = absurd (cc)

abbrev SignedFacts : Terminal → Level → UnaryOperator → Type 0
SignedFacts t l o = (prefix_operator l t ≡ Some o) × (halt l ≡ suc (lim l)) × (rank l ≤ 22)

pub same_signed : (P : Level → UnaryOperator → Type 0) (l n : Level) (o p : UnaryOperator) → P l o
    → ◌≡◌ {A = Option Prefix} (Some (Signed l o)) (Some (Signed n p)) → P n p
same_signed P l n o p h q = subst (λ z. P z p) (one l n o p q) (subst (λ z. P l z) (two l n o p q) h)
  where
    one : (l n : Level) (o p : UnaryOperator) → ◌≡◌ {A = Option Prefix} (Some (Signed l o)) (Some (Signed n p)) → l ≡ n
    one l n o p q = cc

    two : (l n : Level) (o p : UnaryOperator) → ◌≡◌ {A = Option Prefix} (Some (Signed l o)) (Some (Signed n p)) → o ≡ p
    two l n o p q = cc

signed_facts : (t : Terminal) (l : Level) (o : UnaryOperator) → before t ≡ Some (Signed l o) → SignedFacts t l o
signed_facts (Word Key.Not) l o h = same_signed (SignedFacts (Word Key.Not)) Not l Un.Not o (refl, refl, omega arith) h
signed_facts (Op Plus) l o h = same_signed (SignedFacts (Op Plus)) Factor l Un.UAdd o (refl, refl, omega arith) h
signed_facts (Op Minus) l o h = same_signed (SignedFacts (Op Minus)) Factor l Un.USub o (refl, refl, omega arith) h
signed_facts (Op Tilde) l o h = same_signed (SignedFacts (Op Tilde)) Factor l Un.Invert o (refl, refl, omega arith) h
signed_facts (Word _) l o h = absurd (cc)
signed_facts (Op _) l o h = absurd (cc)
signed_facts _ l o h = absurd (cc)

pub awaits_is : (t : Terminal) → before t ≡ Some Awaits → t ≡ Word Key.Await
awaits_is (Word Key.Await) h = refl
awaits_is (Word _) h = absurd (cc)
awaits_is (Op Plus) h = absurd (cc)
awaits_is (Op _) h = absurd (cc)
awaits_is _ h = absurd (cc)

module _ (self : Reads) (all : SoundAt self) where
  step_sound : (k m : ℕ) (i : List Terminal) (e : Expr) (t : Terminal) (s : List Terminal) → 10 ≤ k → Stands k i e (t ∷ s)
      → ((f : Expr) (r2 : List Terminal) → length r2 ≤ length s → Stands k i f r2 → Says (λ f r2. Stands k i f r2 × (turn_of r2 < k))
      (climb_loop self k m f r2)) → (x : Option Infix) → infix_from k t ≡ x → Says (λ f r2. Stands k i f r2 × (turn_of r2 < k))
      (on_some x (λ o. and_then (operation self e o (t ∷ s) s) (λ f r2. climb_loop self k m f r2)) (Found e (t ∷ s)))
  step_sound k m i e t s a p rec None q = found (p, infix_miss k (following t) q (omega (arith, a)))
  step_sound k m i e t s a p rec (Some o) q =
      let h = infix_hit k (following t) o q in
      says_then _ _ (operation_sound self all k p.0 i p.1 e o t s p.2 p.3 p.5 a h.1
      (omega (arith, p.6, ap (λ o. on_some o infix_rank 0) h.0)) h.0) (λ f r2 v. rec f r2 v.1 v.0)

  climb_loop_sound : (k m : ℕ) (i : List Terminal) (e : Expr) (r : List Terminal) → 10 ≤ k → length r ≤ m → Stands k i e r
      → Says (λ f r2. Stands k i f r2 × (turn_of r2 < k)) (climb_loop self k m e r)
  climb_loop_sound k zero i e r a le p = found (p, empty_turn r k le (omega (arith, a)))
  climb_loop_sound k (suc m) i e [] a le p = found (p, omega (arith, a))
  climb_loop_sound k (suc m) i e (t ∷ s) a le p =
      step_sound k m i e t s a p (λ f r2 h v. climb_loop_sound k m i f r2 a (omega (arith, le, h)) v) (infix_from k t) refl

module _ (next inner : Reads) (low : SoundAt next) (deeper : SoundAt inner) where
  pub climb_front : (k : ℕ) (i : List Terminal) → 10 ≤ k → k ≤ 22
      → Says (Stands k i) (on_first (prefix_from k) i (λ p r. prefixed inner p r) (next Primary i))
  climb_front k i a b = says_first (prefix_from k) i _ _ (λ t p s f q. one t p s (prefix_hit k (before t) p f) q)
      (λ _. says_is _ (low Primary i) (λ e r p. (Await, p.0, p.1, G.next p.2, b, omega arith, omega (arith, turns r))))
    where
      one : (t : Terminal) (p : Prefix) (s : List Terminal) → (before t ≡ Some p) × (k ≤ prefix_rank p) → i ≡ t ∷ s
          → Says (Stands k i) (prefixed inner p s)
      one t (Signed l o) s h q =
          let z = signed_facts t l o h.0 in
          says_then _ _ (deeper l s) (λ e r y. found (
            l,
            t ∷ y.0,
            q ∙ ap (λ z. t ∷ z) y.1,
            G.unary z.0 y.2,
            h.1,
            z.2,
            omega (arith, y.3, z.1),
          ))
      one t Awaits s h q =
          says_then _ _ (deeper Primary s) (λ e r y. found (
            Await,
            Word Key.Await ∷ y.0,
            q ∙ ap (λ z. z ∷ s) (awaits_is t h.0)
                ∙ ap (λ z. Word Key.Await ∷ z) y.1,
            G.await y.2,
            h.1,
            omega arith,
            omega (arith, turns r),
          ))

  pub climb_sound : (l : Level) (i : List Terminal) → 10 ≤ rank l → rank l ≤ 22 → halt l ≡ rank l
      → Says (Reads_as l i) (climb next inner (rank l) i)
  climb_sound l i a b w =
      says_then _ _ (climb_front (rank l) i a b)
      (λ e r p. says_is _ (climb_loop_sound inner deeper (rank l) (length r) i e r a (omega arith) p)
      (λ f r2 v. (v.0.1, v.0.2, lower l v.0.0 v.0.1 f a b v.0.4 v.0.3, omega (arith, v.1, w))))
