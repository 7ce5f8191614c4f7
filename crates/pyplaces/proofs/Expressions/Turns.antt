-- The numbers of climbing: which operator stands first, and which levels take what stands in front of it.
--
-- Carries: the lemmas on climbing.
use Rattle.std.proofs.Common.{◌≡◌, refl, sym, ap, subst, ◌∙◌, ℕ, suc, ◌≤◌, ◌<◌, arith, List, [], ◌∷◌, Option, Some, None, Bool, true, false}
use Rattle.std.proofs.Common.{cond, leb}
use Rattle.std.proofs.lemmas.Bool.{leb-true, le-leb}
use Rattle.pylex_lexeme.specs.declared.kinds.Exact.TheVariants.{LPar, Plus, Minus, Star, Slash, VBar, Amper, Less, Greater, Percent}
use Rattle.pylex_lexeme.specs.declared.kinds.Exact.TheVariants.{EqEqual, NotEqual, LessEqual, GreaterEqual, Tilde, Circumflex, LeftShift}
use Rattle.pylex_lexeme.specs.declared.kinds.Exact.TheVariants.{RightShift, DoubleSlash, At}
use Rattle.pytoken.specs.declared.keywords.Keyword.TheVariants as Key
use Rattle.pytree_node.specs.declared.operators.Operator.{Operator}
use Rattle.pytree_node.specs.declared.operators.Operator.TheVariants as Bin
use Rattle.pytree_node.specs.declared.operators.UnaryOperator.{UnaryOperator}
use Rattle.pytree_node.specs.declared.operators.UnaryOperator.TheVariants as Un
use Rattle.pytree_node.specs.declared.operators.BoolOperator.{BoolOperator}
use Rattle.pytree_node.specs.declared.operators.BoolOperator.TheVariants as Join
use Rattle.pygrammar.specs.declared.levels.Level.{Level}
use Rattle.pygrammar.specs.declared.levels.Level.TheVariants.{Or, Not, BitOr, BitXor, BitAnd, Shift, Sum, Term, Factor}
use Rattle.pytoken.specs.Terminals.{Terminal, Op, Word}
use Rattle.pygrammar.specs.Looks.{is_word}
use Rattle.pygrammar.specs.Operators.{below, chain_level, chain_word, comparison, left_operator, prefix_operator, rank}
use Rattle.pygrammar.specs.Reader.{on_some}
use Rattle.pygrammar.specs.Precedence.{Infix, Left, Joins, Prefix, Signed, infix_rank, following, prefix_rank, before}
use Rattle.pygrammar.specs.Precedence.{at_least, infix_from, prefix_from}
use Rattle.pygrammar.proofs.Callers.Steps.{same_left, same_signed}
use Rattle.pyplaces.specs.Rests.{Lacks}
use Rattle.pyplaces.specs.Standing.{turn, turn_of, Ended, follower}

turn_max : (t : Terminal) → turn t ≤ 21
turn_max (Op LPar) = omega arith
turn_max (Op _) = omega arith
turn_max (Word Key.As) = omega arith
turn_max (Word _) = omega arith
turn_max _ = omega arith

pub turns : (r : List Terminal) → turn_of r < 22
turns [] = omega arith
turns (t ∷ r) = omega (arith, turn_max t)

-- the turn of an operator that stands first
pub turn_is : {r s : List Terminal} {t : Terminal} {o : Infix} → r ≡ t ∷ s → following t ≡ Some o → turn_of r ≡ infix_rank o
turn_is h f = ap turn_of h ∙ ap (λ o. on_some o infix_rank 0) f

-- ---- What tests by ranks tell.

some_infix : (a o : Infix) → Some a ≡ Some o → a ≡ o
some_infix a o h = cc

some_prefix : (a o : Prefix) → Some a ≡ Some o → a ≡ o
some_prefix a o h = cc

pub infix_hit : (k : ℕ) (t : Terminal) (o : Infix) → infix_from k t ≡ Some o → (following t ≡ Some o) × (k ≤ infix_rank o)
infix_hit k t o h = go (following t) h
  where
    by : (a : Infix) (b : Bool) → leb k (infix_rank a) ≡ b → cond b (Some a) None ≡ Some o → (Some a ≡ Some o) × (k ≤ infix_rank o)
    by a true q h = (h, subst (λ z. k ≤ infix_rank z) (some_infix a o h) (leb-true k (infix_rank a) q))
    by a false q h = absurd (cc)

    go : (x : Option Infix) → at_least infix_rank k x ≡ Some o → (x ≡ Some o) × (k ≤ infix_rank o)
    go None h = absurd (cc)
    go (Some a) h = by a (leb k (infix_rank a)) refl h

pub prefix_hit : (k : ℕ) (t : Terminal) (o : Prefix) → prefix_from k t ≡ Some o → (before t ≡ Some o) × (k ≤ prefix_rank o)
prefix_hit k t o h = go (before t) h
  where
    by : (a : Prefix) (b : Bool) → leb k (prefix_rank a) ≡ b → cond b (Some a) None ≡ Some o → (Some a ≡ Some o) × (k ≤ prefix_rank o)
    by a true q h = (h, subst (λ z. k ≤ prefix_rank z) (some_prefix a o h) (leb-true k (prefix_rank a) q))
    by a false q h = absurd (cc)

    go : (x : Option Prefix) → at_least prefix_rank k x ≡ Some o → (x ≡ Some o) × (k ≤ prefix_rank o)
    go None h = absurd (cc)
    go (Some a) h = by a (leb k (prefix_rank a)) refl h

infix_miss : (k : ℕ) (x : Option Infix) → at_least infix_rank k x ≡ None → 0 < k → on_some x infix_rank 0 < k
infix_miss k None h p = p
infix_miss k (Some a) h p = go (leb k (infix_rank a)) refl h
  where
    go : (b : Bool) → leb k (infix_rank a) ≡ b → cond b (Some a) None ≡ None → infix_rank a < k
    go true q h = absurd (cc)
    go false q h = lt (infix_rank a) (λ w. no (sym (le-leb k (infix_rank a) w) ∙ q))
      where
        lt : (n : ℕ) → (k ≤ n → ⊥) → n < k
        lt n f = omega (arith, f)

        no : ◌≡◌ {A = Bool} true false → ⊥
        no h = absurd (cc)

-- the loop of climbing ended
pub ended : (k : ℕ) (r : List Terminal) → 0 < k → ((t : Terminal) (s : List Terminal) → r ≡ t ∷ s → infix_from k t ≡ None) → Ended k r
ended k [] p f = p
ended k (t ∷ s) p f = infix_miss k (following t) (f t s refl) p

-- ---- Levels.

pub follower_rank : (c : Level) → rank c ≤ 22 → follower c ≤ rank c
follower_rank Or h = omega arith
follower_rank _ h = omega arith

pub joint_or : (c : Level) → rank c ≤ 22 → 10 ≤ follower c → 11 ≤ rank c
joint_or Or h q = absurd (omega (arith, q))
joint_or _ h q = omega (arith, h, q)

pub joint_and : (c : Level) → rank c ≤ 22 → 11 ≤ follower c → 12 ≤ rank c
joint_and Or h q = absurd (omega (arith, q))
joint_and _ h q = omega (arith, h, q)

pub joint_compare : (c : Level) → rank c ≤ 22 → 13 ≤ follower c → 14 ≤ rank c
joint_compare Or h q = absurd (omega (arith, q))
joint_compare _ h q = omega (arith, h, q)

pub joint_power : (c : Level) → rank c ≤ 22 → 21 ≤ follower c → 22 ≤ rank c
joint_power Or h q = absurd (omega (arith, q))
joint_power _ h q = omega (arith, h, q)

-- ---- The operators between two expressions.

pub record LeftFacts (t : Terminal) (l : Level) (o : Operator) : Type 0 where
  pub operator : left_operator l t ≡ Some o
  pub next : rank (below l) ≡ suc (rank l)
  pub follows : follower l ≡ rank l
  pub least : 14 ≤ rank l
  pub most : rank l ≤ 19

facts : (t : Terminal) (l : Level) (o : Operator) → left_operator l t ≡ Some o → rank (below l) ≡ suc (rank l) → follower l ≡ rank l
    → 14 ≤ rank l → rank l ≤ 19 → LeftFacts t l o
facts t l o a b c d e = record { operator = a; next = b; follows = c; least = d; most = e }

pub left_facts : (t : Terminal) (l : Level) (o : Operator) → following t ≡ Some (Left l o) → LeftFacts t l o
left_facts (Op VBar) l o h = same_left (LeftFacts (Op VBar)) BitOr l Bin.BitOr o (facts _ _ _ refl refl refl (omega arith) (omega arith)) h
left_facts (Op Circumflex) l o h =
    same_left (LeftFacts (Op Circumflex)) BitXor l Bin.BitXor o (facts _ _ _ refl refl refl (omega arith) (omega arith)) h
left_facts (Op Amper) l o h = same_left (LeftFacts (Op Amper)) BitAnd l Bin.BitAnd o
    (facts _ _ _ refl refl refl (omega arith) (omega arith)) h
left_facts (Op LeftShift) l o h =
    same_left (LeftFacts (Op LeftShift)) Shift l Bin.LShift o (facts _ _ _ refl refl refl (omega arith) (omega arith)) h
left_facts (Op RightShift) l o h =
    same_left (LeftFacts (Op RightShift)) Shift l Bin.RShift o (facts _ _ _ refl refl refl (omega arith) (omega arith)) h
left_facts (Op Plus) l o h = same_left (LeftFacts (Op Plus)) Sum l Bin.Add o (facts _ _ _ refl refl refl (omega arith) (omega arith)) h
left_facts (Op Minus) l o h = same_left (LeftFacts (Op Minus)) Sum l Bin.Sub o (facts _ _ _ refl refl refl (omega arith) (omega arith)) h
left_facts (Op Star) l o h = same_left (LeftFacts (Op Star)) Term l Bin.Mult o (facts _ _ _ refl refl refl (omega arith) (omega arith)) h
left_facts (Op Slash) l o h = same_left (LeftFacts (Op Slash)) Term l Bin.Div o (facts _ _ _ refl refl refl (omega arith) (omega arith)) h
left_facts (Op DoubleSlash) l o h =
    same_left (LeftFacts (Op DoubleSlash)) Term l Bin.FloorDiv o (facts _ _ _ refl refl refl (omega arith) (omega arith)) h
left_facts (Op Percent) l o h = same_left (LeftFacts (Op Percent)) Term l Bin.Mod o
    (facts _ _ _ refl refl refl (omega arith) (omega arith)) h
left_facts (Op At) l o h = same_left (LeftFacts (Op At)) Term l Bin.MatMult o (facts _ _ _ refl refl refl (omega arith) (omega arith)) h
left_facts (Op _) l o h = absurd (cc)
left_facts (Word Key.As) l o h = absurd (cc)
left_facts (Word _) l o h = absurd (cc)
left_facts _ l o h = absurd (cc)

pub joins_is : (t : Terminal) (o : BoolOperator) → following t ≡ Some (Joins o) → t ≡ Word (chain_word o)
joins_is (Word Key.And) Join.And h = refl
joins_is (Word Key.Or) Join.Or h = refl
joins_is (Word Key.And) Join.Or h = absurd (cc)
joins_is (Word Key.Or) Join.And h = absurd (cc)
joins_is (Word _) o h = absurd (cc)
joins_is (Op LPar) o h = absurd (cc)
joins_is (Op _) o h = absurd (cc)
joins_is _ o h = absurd (cc)

pub joins_turn : (o : BoolOperator) → turn (Word (chain_word o)) ≡ rank (chain_level o)
joins_turn Join.And = refl
joins_turn Join.Or = refl

pub record ChainFacts (o : BoolOperator) : Type 0 where
  pub next : rank (below (chain_level o)) ≡ suc (rank (chain_level o))
  pub follows : suc (follower (chain_level o)) ≡ rank (chain_level o)
  pub least : 10 ≤ rank (chain_level o)
  pub most : rank (chain_level o) ≤ 11

pub chain_facts : (o : BoolOperator) → ChainFacts o
chain_facts Join.And = record { next = refl; follows = refl; least = omega arith; most = omega arith }
chain_facts Join.Or = record { next = refl; follows = refl; least = omega arith; most = omega arith }

-- ---- Where chains end.

not_chain : (o : BoolOperator) (t : Terminal) → (t ≡ Word (chain_word o) → ⊥) → turn t ≤ rank (chain_level o)
    → turn t < rank (chain_level o)
not_chain Join.And (Word Key.And) h q = absurd (h refl)
not_chain Join.And (Word _) h q = omega (arith, q)
not_chain Join.And (Op LPar) h q = omega (arith, q)
not_chain Join.And (Op _) h q = omega (arith, q)
not_chain Join.And _ h q = omega (arith, q)
not_chain Join.Or (Word Key.Or) h q = absurd (h refl)
not_chain Join.Or (Word _) h q = omega (arith, q)
not_chain Join.Or (Op LPar) h q = omega (arith, q)
not_chain Join.Or (Op _) h q = omega (arith, q)
not_chain Join.Or _ h q = omega (arith, q)

pub chain_ended : (o : BoolOperator) (r : List Terminal) → Lacks (Word (chain_word o)) r → turn_of r ≤ rank (chain_level o)
    → Ended (rank (chain_level o)) r
chain_ended o [] f h = omega (arith, (chain_facts o).least)
chain_ended o (t ∷ s) f h = not_chain o t (λ q. f s (ap (λ z. z ∷ s) q)) h

not_comparison : (t : Terminal) → comparison t ≡ None → is_word Key.Not t ≡ None → is_word Key.Is t ≡ None → turn t ≤ 13 → turn t < 13
not_comparison (Op EqEqual) h k j q = absurd (cc)
not_comparison (Op NotEqual) h k j q = absurd (cc)
not_comparison (Op Less) h k j q = absurd (cc)
not_comparison (Op LessEqual) h k j q = absurd (cc)
not_comparison (Op Greater) h k j q = absurd (cc)
not_comparison (Op GreaterEqual) h k j q = absurd (cc)
not_comparison (Op _) h k j q = omega (arith, q)
not_comparison (Word Key.In) h k j q = absurd (cc)
not_comparison (Word Key.Not) h k j q = absurd (cc)
not_comparison (Word Key.Is) h k j q = absurd (cc)
not_comparison (Word _) h k j q = omega (arith, q)
not_comparison _ h k j q = omega (arith, q)

pub compare_ended : (r : List Terminal) → ((t : Terminal) (s : List Terminal) → r ≡ t ∷ s → comparison t ≡ None)
    → ((t : Terminal) (s : List Terminal) → r ≡ t ∷ s → is_word Key.Not t ≡ None)
    → ((t : Terminal) (s : List Terminal) → r ≡ t ∷ s → is_word Key.Is t ≡ None) → turn_of r ≤ 13 → Ended 13 r
compare_ended [] f g h q = omega arith
compare_ended (t ∷ s) f g h q = not_comparison t (f t s refl) (g t s refl) (h t s refl) q

-- ---- The operators in front of an expression.

pub record SignedFacts (t : Terminal) (l : Level) (o : UnaryOperator) : Type 0 where
  pub operator : prefix_operator l t ≡ Some o
  pub follows : rank l ≡ suc (follower l)
  pub most : rank l ≤ 22

signs_facts : (t : Terminal) (l : Level) (o : UnaryOperator) → prefix_operator l t ≡ Some o → rank l ≡ suc (follower l) → rank l ≤ 22
    → SignedFacts t l o
signs_facts t l o a b c = record { operator = a; follows = b; most = c }

pub signed_facts : (t : Terminal) (l : Level) (o : UnaryOperator) → before t ≡ Some (Signed l o) → SignedFacts t l o
signed_facts (Word Key.Not) l o h = same_signed (SignedFacts (Word Key.Not)) Not l Un.Not o (signs_facts _ _ _ refl refl (omega arith)) h
signed_facts (Op Plus) l o h = same_signed (SignedFacts (Op Plus)) Factor l Un.UAdd o (signs_facts _ _ _ refl refl (omega arith)) h
signed_facts (Op Minus) l o h = same_signed (SignedFacts (Op Minus)) Factor l Un.USub o (signs_facts _ _ _ refl refl (omega arith)) h
signed_facts (Op Tilde) l o h = same_signed (SignedFacts (Op Tilde)) Factor l Un.Invert o (signs_facts _ _ _ refl refl (omega arith)) h
signed_facts (Word _) l o h = absurd (cc)
signed_facts (Op _) l o h = absurd (cc)
signed_facts _ l o h = absurd (cc)
