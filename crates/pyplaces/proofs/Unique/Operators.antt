-- The levels with operators.
--
-- Carries: same_true, binary_goes .. compare_goes, for Expressions, Lists. On: Levels, Answered.
use Rattle.std.proofs.Common.{◌≡◌, refl, sym, ap, ◌∙◌, ℕ, ◌+◌, ◌==◌, ◌≤◌, ◌<◌, arith, List, ◌∷◌, ◌++◌, length, append_assoc}
use Rattle.std.proofs.Common.{length-append}
use Rattle.std.proofs.Common.{Some, true}
use Rattle.std.proofs.lemmas.Bool.{eq-eqb}
use Rattle.pylex_lexeme.specs.declared.kinds.Exact.TheVariants.{Plus, Minus, Star, Slash, VBar, Amper, Less, Greater, Percent, EqEqual}
use Rattle.pylex_lexeme.specs.declared.kinds.Exact.TheVariants.{NotEqual, LessEqual, GreaterEqual, Tilde, Circumflex, LeftShift, RightShift}
use Rattle.pylex_lexeme.specs.declared.kinds.Exact.TheVariants.{DoubleStar, DoubleSlash, At}
use Rattle.pytoken.specs.declared.keywords.Keyword.TheVariants as Key
use Rattle.pytree_node.specs.declared.operators.Operator.{Operator}
use Rattle.pytree_node.specs.declared.operators.UnaryOperator.{UnaryOperator}
use Rattle.pytree_node.specs.declared.operators.BoolOperator.{BoolOperator}
use Rattle.pytree_node.specs.declared.operators.BoolOperator.TheVariants as Join
use Rattle.pytree_node.specs.declared.operators.Comparison.{Comparison}
use Rattle.pytree_node.specs.Trees.{Expr}
use Rattle.pytoken.specs.Terminals.{Terminal, Op, Word}
use Rattle.pygrammar.specs.declared.levels.Level.{Level}
use Rattle.pygrammar.specs.declared.levels.Level.TheVariants.{Not, Compare, BitOr, BitXor, BitAnd, Shift, Sum, Term, Factor, Power, Await}
use Rattle.pygrammar.specs.declared.levels.Level.TheVariants.{Primary}
use Rattle.pygrammar.specs.Operators.{below, left_operator, prefix_operator, chain_level, chain_word, comparison, rank}
use Rattle.pygrammar.specs.Precedence.{lead}
use Rattle.pygrammar.specs.Grammar as G
use Rattle.pyplaces.specs.Stretches.{Stretch, over}
use Rattle.pyplaces.specs.Inner.Looks.{grip, grip_of, lead_of}
use Rattle.pyplaces.specs.Inner.Questions.{An, More, Links, Signs, Reading, Ask}
use Rattle.pyplaces.specs.Inner.ExpressionSteps.{Goes, signed}
use Rattle.pyplaces.specs.Inner.Steps.{here, on}
use Rattle.pyplaces.proofs.Unique.Leading.{Comes, via, to, past, miss, is_true}
use Rattle.pyplaces.proofs.Unique.Levels.{Reads, answers}
use Rattle.pyplaces.proofs.Unique.Answered.{Answers, counted, shaped}

pub same_true : (x n : ℕ) → x ≡ n → (x == n) ≡ true
same_true x n e = eq-eqb x n e

-- ---- Binary operators.

pub left_grip : (l : Level) (t : Terminal) (o : Operator) → left_operator l t ≡ Some o → grip t ≡ rank l
left_grip BitOr (Op VBar) o h = refl
left_grip BitOr (Op _) o h = absurd (cc)
left_grip BitXor (Op Circumflex) o h = refl
left_grip BitXor (Op _) o h = absurd (cc)
left_grip BitAnd (Op Amper) o h = refl
left_grip BitAnd (Op _) o h = absurd (cc)
left_grip Shift (Op LeftShift) o h = refl
left_grip Shift (Op RightShift) o h = refl
left_grip Shift (Op _) o h = absurd (cc)
left_grip Sum (Op Plus) o h = refl
left_grip Sum (Op Minus) o h = refl
left_grip Sum (Op _) o h = absurd (cc)
left_grip Term (Op Star) o h = refl
left_grip Term (Op Slash) o h = refl
left_grip Term (Op DoubleSlash) o h = refl
left_grip Term (Op Percent) o h = refl
left_grip Term (Op At) o h = refl
left_grip Term (Op _) o h = absurd (cc)
left_grip _ t o h = absurd (cc)

abbrev LeftReads : Level → List Terminal → (ℕ → List Stretch) → Type 0
LeftReads l ts f = (at : ℕ) (rest : List Terminal) (k : Goes) → grip_of rest ≤ rank l
    → Comes (Ask (An l) at (ts ++ rest) k) (Ask (More l (f at) (length ts)) at rest k)

abbrev RightReads : Level → List Terminal → (ℕ → List Stretch) → Type 0
RightReads l us g = (at : ℕ) (rest : List Terminal) (k : Goes) → grip_of rest ≤ rank l
    → Comes (Ask (An (below l)) at (us ++ rest) k) (k (g at) (length us) rest)

more_counted : (l : Level) {ps : List Stretch} {n m : ℕ} (at : ℕ) (rest : List Terminal) (k : Goes) → n ≡ m
    → Comes (Ask (More l ps n) at rest k) (Ask (More l ps m) at rest k)
more_counted l {ps} at rest k e = to here (ap (λ z. Ask (More l ps z) at rest k) e)

left_goes : (l : Level) (ts us : List Terminal) (t : Terminal) (f g : ℕ → List Stretch) → grip t ≡ rank l
    → LeftReads l ts f → RightReads l us g
    → LeftReads l (ts ++ (t ∷ us)) (λ at. f at ++ (g (1 + (at + length ts)) ++ over at (1 + (length ts + length us))))
left_goes l ts us t f g e p q at rest k s = shaped (An l) at k (append_assoc ts (t ∷ us) rest)
    (via (p at (t ∷ (us ++ rest)) k (omega (arith, e)))
    (on (is_true _ (same_true (grip t) (rank l) e) (via (q (1 + (at + length ts)) rest _ s)
    (more_counted l at rest k (omega (arith, length-append ts (t ∷ us))))))))

pub binary_goes : (l : Level) (ts us : List Terminal) (t : Terminal) (o : Operator) (f g : ℕ → List Stretch)
    → left_operator l t ≡ Some o → Reads l ts f → Reads (below l) us g
    → Reads l (ts ++ (t ∷ us)) (λ at. f at ++ (g (1 + (at + length ts)) ++ over at (1 + (length ts + length us))))
binary_goes BitOr ts us t o f g h p q = left_goes BitOr ts us t f g (left_grip BitOr t o h) p
    (λ at rest k s. answers BitXor us g q at rest k (omega (arith, s)))
binary_goes BitXor ts us t o f g h p q = left_goes BitXor ts us t f g (left_grip BitXor t o h) p
    (λ at rest k s. answers BitAnd us g q at rest k (omega (arith, s)))
binary_goes BitAnd ts us t o f g h p q = left_goes BitAnd ts us t f g (left_grip BitAnd t o h) p
    (λ at rest k s. answers Shift us g q at rest k (omega (arith, s)))
binary_goes Shift ts us t o f g h p q = left_goes Shift ts us t f g (left_grip Shift t o h) p
    (λ at rest k s. answers Sum us g q at rest k (omega (arith, s)))
binary_goes Sum ts us t o f g h p q = left_goes Sum ts us t f g (left_grip Sum t o h) p
    (λ at rest k s. answers Term us g q at rest k (omega (arith, s)))
binary_goes Term ts us t o f g h p q = left_goes Term ts us t f g (left_grip Term t o h) p
    (λ at rest k s. q at rest k (omega (arith, s)))
binary_goes _ ts us t o f g h p q = absurd (cc)

-- ---- Operators in front.

prefix_lead : (l : Level) (t : Terminal) (o : UnaryOperator) → prefix_operator l t ≡ Some o → lead t ≡ rank l
prefix_lead Not (Word Key.Not) o h = refl
prefix_lead Not (Word _) o h = absurd (cc)
prefix_lead Factor (Op Plus) o h = refl
prefix_lead Factor (Op Minus) o h = refl
prefix_lead Factor (Op Tilde) o h = refl
prefix_lead Factor (Op _) o h = absurd (cc)
prefix_lead _ t o h = absurd (cc)

pub unary_goes : (l : Level) (ts : List Terminal) (t : Terminal) (o : UnaryOperator) (f : ℕ → List Stretch) → prefix_operator l t ≡ Some o
    → Reads l ts f → Reads l (t ∷ ts) (λ at. f (1 + at) ++ over at (1 + length ts))
unary_goes Not ts t o f h p at rest k s = on (is_true _ (same_true (lead t) 12 (prefix_lead Not t o h))
    (via (p (1 + at) rest _ s) (counted k rest (omega arith))))
unary_goes Factor ts t o f h p at rest k s = on (is_true _ (same_true (lead t) 20 (prefix_lead Factor t o h))
    (via (p (1 + at) rest _ s) (counted k rest (omega arith))))
unary_goes _ ts t o f h p at rest k s = absurd (cc)

pub await_goes : (ts : List Terminal) (f : ℕ → List Stretch) → Reads Primary ts f
    → Reads Await (Word Key.Await ∷ ts) (λ at. f (1 + at) ++ over at (1 + length ts))
await_goes ts f p at rest k s =
    on (via (answers Primary ts f p (1 + at) rest _ (omega (arith, s))) (counted k rest (omega arith)))

pub power_goes : (ts us : List Terminal) {f g : ℕ → List Stretch} → Reads Await ts f → Reads Factor us g
    → Reads Power (ts ++ (Op DoubleStar ∷ us)) (λ at. f at ++ (g (1 + (at + length ts)) ++ over at (1 + (length ts + length us))))
power_goes ts us p q at rest k s = shaped (An Power) at k (append_assoc ts (Op DoubleStar ∷ us) rest)
    (on (via (p at (Op DoubleStar ∷ (us ++ rest)) _ (omega arith)) (via (q (1 + (at + length ts)) rest _ (omega (arith, s)))
    (counted k rest (omega (arith, length-append ts (Op DoubleStar ∷ us)))))))

-- ---- `or` and `and`.

abbrev pub LinksStop : BoolOperator → List Terminal → Type 0
LinksStop o r = grip_of r < rank (chain_level o)

pub last_link_goes : (o : BoolOperator) (ts : List Terminal) (f : ℕ → List Stretch) → Reads (below (chain_level o)) ts f
    → Answers (Links o) ts f (LinksStop o)
last_link_goes Join.Or ts f p at rest k s = on (via (p at rest _ (omega (arith, s))) (miss rest 10 _ (λ q. omega (arith, s, q)) here))
last_link_goes Join.And ts f p at rest k s = on (via (p at rest _ (omega (arith, s))) (miss rest 11 _ (λ q. omega (arith, s, q)) here))

pub link_goes : (o : BoolOperator) (ts us : List Terminal) (f g : ℕ → List Stretch) → Reads (below (chain_level o)) ts f
    → Answers (Links o) us g (LinksStop o)
    → Answers (Links o) (ts ++ (Word (chain_word o) ∷ us)) (λ at. f at ++ g (1 + (at + length ts))) (LinksStop o)
link_goes Join.Or ts us f g p q at rest k s = shaped (Links Join.Or) at k (append_assoc ts (Word Key.Or ∷ us) rest)
    (on (via (p at (Word Key.Or ∷ (us ++ rest)) _ (omega arith)) (via (q (1 + (at + length ts)) rest _ s)
    (counted k rest (omega (arith, length-append ts (Word Key.Or ∷ us)))))))
link_goes Join.And ts us f g p q at rest k s = shaped (Links Join.And) at k (append_assoc ts (Word Key.And ∷ us) rest)
    (on (via (p at (Word Key.And ∷ (us ++ rest)) _ (omega arith)) (via (q (1 + (at + length ts)) rest _ s)
    (counted k rest (omega (arith, length-append ts (Word Key.And ∷ us)))))))

pub chain_goes : (o : BoolOperator) (ts us : List Terminal) (f g : ℕ → List Stretch) → Reads (below (chain_level o)) ts f
    → Answers (Links o) us g (LinksStop o)
    → Reads (chain_level o) (ts ++ (Word (chain_word o) ∷ us))
    (λ at. f at ++ (g (1 + (at + length ts)) ++ over at (1 + (length ts + length us))))
chain_goes Join.Or ts us f g p q at rest k s = shaped (An (chain_level Join.Or)) at k (append_assoc ts (Word Key.Or ∷ us) rest)
    (on (via (p at (Word Key.Or ∷ (us ++ rest)) _ (omega arith)) (via (q (1 + (at + length ts)) rest _ s)
    (counted k rest (omega (arith, length-append ts (Word Key.Or ∷ us)))))))
chain_goes Join.And ts us f g p q at rest k s = shaped (An (chain_level Join.And)) at k (append_assoc ts (Word Key.And ∷ us) rest)
    (on (via (p at (Word Key.And ∷ (us ++ rest)) _ (omega arith)) (via (q (1 + (at + length ts)) rest _ s)
    (counted k rest (omega (arith, length-append ts (Word Key.And ∷ us)))))))

-- ---- Comparisons.

abbrev pub SignsStop : List Terminal → Type 0
SignsStop r = grip_of r < 13

sign_grip : (t : Terminal) (o : Comparison) → comparison t ≡ Some o → grip t ≡ 13
sign_grip (Op EqEqual) o h = refl
sign_grip (Op NotEqual) o h = refl
sign_grip (Op Less) o h = refl
sign_grip (Op LessEqual) o h = refl
sign_grip (Op Greater) o h = refl
sign_grip (Op GreaterEqual) o h = refl
sign_grip (Op _) o h = absurd (cc)
sign_grip (Word Key.In) o h = refl
sign_grip (Word _) o h = absurd (cc)
sign_grip _ o h = absurd (cc)

compared_grip : {ss : List Terminal} {o : Comparison} → G.Compared ss o → (r : List Terminal) → grip_of (ss ++ r) ≡ 13
compared_grip (G.one_sign {t = t} {o = o} h) r = sign_grip t o h
compared_grip G.not_in r = refl
compared_grip G.is r = refl
compared_grip G.is_not r = refl

pub compares_grip : {us : List Terminal} {os : List Comparison} {es : List Expr} → G.Compares us os es → (r : List Terminal)
    → grip_of (us ++ r) ≡ 13
compares_grip (G.last_compare {ss = ss} {ts = ts} c p) r = ap grip_of (append_assoc ss ts r) ∙ compared_grip c (ts ++ r)
compares_grip (G.compares {ss = ss} {ts = ts} {us = us} c p q) r =
    ap grip_of (append_assoc ss (ts ++ us) r) ∙ compared_grip c ((ts ++ us) ++ r)

one_sign_goes : (t : Terminal) (o : Comparison) → comparison t ≡ Some o → (at : ℕ) (i : List Terminal) (k : Goes) {c : Reading}
    → Comes (signed 1 at i k) c → Comes (Ask Signs at (t ∷ i) k) c
one_sign_goes (Op EqEqual) o h at i k p = on p
one_sign_goes (Op NotEqual) o h at i k p = on p
one_sign_goes (Op Less) o h at i k p = on p
one_sign_goes (Op LessEqual) o h at i k p = on p
one_sign_goes (Op Greater) o h at i k p = on p
one_sign_goes (Op GreaterEqual) o h at i k p = on p
one_sign_goes (Op _) o h at i k p = absurd (cc)
one_sign_goes (Word Key.In) o h at i k p = on p
one_sign_goes (Word _) o h at i k p = absurd (cc)
one_sign_goes _ o h at i k p = absurd (cc)

sign_goes : {ss : List Terminal} {o : Comparison} → G.Compared ss o → (at : ℕ) (i : List Terminal) (k : Goes) {c : Reading}
    → 12 < lead_of i → Comes (signed (length ss) at i k) c → Comes (Ask Signs at (ss ++ i) k) c
sign_goes (G.one_sign {t = t} {o = o} h) at i k l p = one_sign_goes t o h at i k p
sign_goes G.not_in at i k l p = on p
sign_goes G.is at i k l p = on (past _ {x = lead_of i} {n = 12} (λ q. omega (arith, l, q)) p)
sign_goes G.is_not at i k l p = on p

pub last_compare_goes : (ss ts : List Terminal) (o : Comparison) (f : ℕ → List Stretch) → G.Compared ss o
    → ((r : List Terminal) → 12 < lead_of (ts ++ r)) → Reads BitOr ts f → Answers Signs (ss ++ ts) (λ at. f (at + length ss)) SignsStop
last_compare_goes ss ts o f c l p at rest k s = shaped Signs at k (append_assoc ss ts rest)
    (sign_goes c at (ts ++ rest) k (l rest) (via (answers BitOr ts f p (at + length ss) rest _ (omega (arith, s)))
    (miss rest 13 _ (λ q. omega (arith, s, q)) (counted k rest (sym (length-append ss ts))))))

pub compares_goes : (ss ts us : List Terminal) (o : Comparison) (f g : ℕ → List Stretch) → G.Compared ss o
    → ((r : List Terminal) → 12 < lead_of (ts ++ r)) → Reads BitOr ts f → ((r : List Terminal) → grip_of (us ++ r) ≡ 13)
    → Answers Signs us g SignsStop
    → Answers Signs (ss ++ (ts ++ us)) (λ at. f (at + length ss) ++ g (at + (length ss + length ts))) SignsStop
compares_goes ss ts us o f g c l p w q at rest k s = shaped Signs at k (shape rest)
    (sign_goes c at (ts ++ (us ++ rest)) k (l (us ++ rest))
    (via (answers BitOr ts f p (at + length ss) (us ++ rest) _ (omega (arith, w rest)))
    (is_true _ (same_true (grip_of (us ++ rest)) 13 (w rest)) (via (q (at + (length ss + length ts)) rest _ s)
    (counted k rest (omega (arith, length-append ss (ts ++ us), length-append ts us)))))))
  where
    shape : (rest : List Terminal) → (ss ++ (ts ++ us)) ++ rest ≡ ss ++ (ts ++ (us ++ rest))
    shape rest = append_assoc ss (ts ++ us) rest ∙ ap (λ z. ss ++ z) (append_assoc ts us rest)

pub compare_goes : (ts us : List Terminal) (f g : ℕ → List Stretch) → Reads BitOr ts f → ((r : List Terminal) → grip_of (us ++ r) ≡ 13)
    → Answers Signs us g SignsStop
    → Reads Compare (ts ++ us) (λ at. f at ++ (g (at + length ts) ++ over at (length ts + length us)))
compare_goes ts us f g p w q at rest k s = shaped (An Compare) at k (append_assoc ts us rest)
    (on (via (answers BitOr ts f p at (us ++ rest) _ (omega (arith, w rest)))
    (is_true _ (same_true (grip_of (us ++ rest)) 13 (w rest)) (via (q (at + length ts) rest _ s)
    (counted k rest (sym (length-append ts us)))))))
