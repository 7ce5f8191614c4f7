-- Where the bracket closes that an expression begins with, and what follows there in it.
--
-- Carries: Opens, opens, more, for WithForms. On: Balance.
use Rattle.std.proofs.Common.{◌≡◌, sym, ap, ◌∙◌, ◌≤◌, ◌<◌, arith, List, [], ◌∷◌, ◌++◌, append_assoc, append-nil, subst}
use Rattle.std.proofs.Common.{Some, Bool}
use Rattle.pylex_lexeme.specs.declared.kinds.Exact.TheVariants.{LPar, RPar, LSqb, RSqb, Comma, Dot, DoubleStar, Plus, Minus, Tilde}
use Rattle.pylex_lexeme.specs.declared.kinds.Exact.TheVariants.{Ellipsis}
use Rattle.pytoken.specs.declared.keywords.Keyword.TheVariants as Key
use Rattle.pytree_node.specs.declared.operators.UnaryOperator.{UnaryOperator}
use Rattle.pytree_node.specs.declared.operators.BoolOperator.{BoolOperator}
use Rattle.pytree_node.specs.declared.operators.BoolOperator.TheVariants as Join
use Rattle.pytree_node.specs.Trees.{Expr}
use Rattle.pytree_node.specs.Values
use Rattle.pytoken.specs.Terminals.{Terminal, Op, Word, Ident}
use Rattle.pygrammar.specs.declared.levels.Level.{Level}
use Rattle.pygrammar.specs.declared.levels.Level.TheVariants.{Expression, Not, Factor}
use Rattle.pygrammar.specs.FormattedStrings.{StringPart}
use Rattle.pygrammar.specs.Constants.{constant_word}
use Rattle.pygrammar.specs.Operators.{below, prefix_operator, chain_level, chain_word, rank}
use Rattle.pygrammar.specs.Precedence.{first}
use Rattle.pygrammar.specs.Grammar as G
use Rattle.pygrammar.proofs.Callers.Terminals.{first_pos}
use Rattle.pyplaces.specs.Inner.Looks.{grip, grip_of, lead_of}
use Rattle.pyplaces.proofs.Unique.Led.{led}
use Rattle.pyplaces.proofs.Unique.Operators.{left_grip, compares_grip}
use Rattle.pyplaces.proofs.Unique.Balance.{walk, Balanced, nil, both, balanced, balanced_listing, balanced_comps, balanced_yields, shut}
use Rattle.pyplaces.proofs.Unique.Balance.{shut_after}

pub heads : {t u : Terminal} {r s : List Terminal} → t ∷ r ≡ u ∷ s → t ≡ u
heads q = cc

pub tails : {t u : Terminal} {r s : List Terminal} → t ∷ r ≡ u ∷ s → r ≡ s
tails q = cc

-- if it begins with a round bracket, that closes in it, and no colon follows there in it
abbrev pub Opens : List Terminal → Type 0
Opens ts = (ws : List Terminal) → ts ≡ Op LPar ∷ ws → (x : List Terminal) × ((r : List Terminal) → walk (ws ++ r) 0 ≡ x ++ r)
    × (grip_of x ≡ 5 → ⊥)

pub more : (ts us : List Terminal) → Opens ts → 0 < lead_of ts → (grip_of us ≡ 5 → ⊥) → Opens (ts ++ us)
more [] us o l n = absurd (omega (arith, l))
more (t ∷ ts) us o l n = λ ws e.
    let w = o ts (ap (λ z. z ∷ ts) (heads e)) in (
      w.0 ++ us,
      (λ r. ap (λ z. walk (z ++ r) 0) (sym (tails e)) ∙ (ap (λ z. walk z 0) (append_assoc ts us r)
          ∙ (w.1 (us ++ r) ∙ sym (append_assoc w.0 us r)))),
      ends w.0 w.2,
    )
  where
    ends : (x : List Terminal) → (grip_of x ≡ 5 → ⊥) → grip_of (x ++ us) ≡ 5 → ⊥
    ends [] h q = n q
    ends (y ∷ x) h q = h q

round_opens : (us : List Terminal) → Balanced us → Opens (Op LPar ∷ (us ++ (Op RPar ∷ [])))
round_opens us p = λ ws e. (
  [],
  (λ r. ap (λ z. walk (z ++ r) 0) (sym (tails e)) ∙ (ap (λ z. walk z 0) (append_assoc us (Op RPar ∷ []) r)
      ∙ p (Op RPar ∷ r) 0)),
  λ q. absurd (omega (arith, q)),
)

as_opens : {ts us : List Terminal} → ts ≡ us → Opens ts → Opens us
as_opens e p = subst Opens e p

prefix_opens : (l : Level) (t : Terminal) (o : UnaryOperator) (ts : List Terminal) → prefix_operator l t ≡ Some o → Opens (t ∷ ts)
prefix_opens Not (Word Key.Not) o ts h = λ ws e. absurd (cc)
prefix_opens Not (Word _) o ts h = absurd (cc)
prefix_opens Factor (Op Plus) o ts h = λ ws e. absurd (cc)
prefix_opens Factor (Op Minus) o ts h = λ ws e. absurd (cc)
prefix_opens Factor (Op Tilde) o ts h = λ ws e. absurd (cc)
prefix_opens Factor (Op _) o ts h = absurd (cc)
prefix_opens _ t o ts h = absurd (cc)

constant_opens : (t : Terminal) (v : Values.Value) → constant_word t ≡ Some v → Opens (t ∷ [])
constant_opens (Op Ellipsis) v h = λ ws e. absurd (cc)
constant_opens (Op _) v h = absurd (cc)
constant_opens (Word w) v h = λ ws e. absurd (cc)
constant_opens _ v h = absurd (cc)

literals_open : {u : Bool} {ts : List Terminal} {ps : List StringPart} → G.Literals u ts ps → Opens ts
literals_open G.no_literal = λ ws e. absurd (cc)
literals_open (G.text_literal l) = λ ws e. absurd (cc)
literals_open (G.formatted_literal p l) = λ ws e. absurd (cc)

below_rank : (l : Level) → 9 ≤ rank l → 9 ≤ rank (below l)
below_rank Expression h = omega arith
below_rank _ h = omega (arith, h)

chain_rank : (o : BoolOperator) → (9 ≤ rank (below (chain_level o))) × (grip (Word (chain_word o)) ≡ 5 → ⊥)
    × (0 < first (below (chain_level o)))
chain_rank Join.Or = (omega arith, (λ q. absurd (omega (arith, q))), omega arith)
chain_rank Join.And = (omega arith, (λ q. absurd (omega (arith, q))), omega arith)

pub opens : {l : Level} {ts : List Terminal} {e : Expr} → G.Derives l ts e → 9 ≤ rank l → Opens ts
opens (G.next {l = l} p) w = opens p (below_rank l w)
opens (G.yields p) w = absurd (omega (arith, w))
opens (G.star_tuple p c) w = absurd (omega (arith, w))
opens (G.star_item p) w = absurd (omega (arith, w))
opens (G.named p) w = absurd (omega (arith, w))
opens (G.lambda c h p) w = λ ws e. absurd (cc)
opens (G.if_else {ts = ts} {us = us} {vs = vs} p q r) w = more ts (Word Key.If ∷ (us ++ (Word Key.Else ∷ vs))) (opens p (omega arith))
    (omega (arith, led p)) (λ q. absurd (omega (arith, q)))
opens (G.chain {o = o} {ts = ts} {us = us} p c) w =
    let h = chain_rank o in
    more ts (Word (chain_word o) ∷ us) (opens p h.0) (omega (arith, led p, h.2)) h.1
opens (G.unary {l = l} {t = t} {o = o} {ts = ts} h p) w = prefix_opens l t o ts h
opens (G.compare {ts = ts} {us = us} p c) w = more ts us (opens p (omega arith)) (omega (arith, led p))
    (λ q. omega (arith, q, ap grip_of (sym (append-nil us)) ∙ compares_grip c []))
opens (G.binary {l = l} {ts = ts} {us = us} {o = o} t h p q) w =
    more ts (t ∷ us) (opens p w) (omega (arith, led p, first_pos l)) (λ e. omega (arith, e, left_grip l t o h, w))
opens (G.power {ts = ts} {us = us} p q) w = more ts (Op DoubleStar ∷ us) (opens p (omega arith)) (omega (arith, led p))
    (λ q. absurd (omega (arith, q)))
opens (G.await p) w = λ ws e. absurd (cc)
opens (G.attribute {ts = ts} x p) w = more ts (Op Dot ∷ (Ident x ∷ [])) (opens p (omega arith)) (omega (arith, led p))
    (λ q. absurd (omega (arith, q)))
opens (G.call {ts = ts} {us = us} p c h) w = more ts (Op LPar ∷ (us ++ (Op RPar ∷ []))) (opens p (omega arith)) (omega (arith, led p))
    (λ q. absurd (omega (arith, q)))
opens (G.call_generator {ts = ts} {us = us} {vs = vs} p q c) w = more ts (Op LPar ∷ (us ++ (vs ++ (Op RPar ∷ [])))) (opens p (omega arith))
    (omega (arith, led p)) (λ q. absurd (omega (arith, q)))
opens (G.subscript {ts = ts} {us = us} p q) w = more ts (Op LSqb ∷ (us ++ (Op RSqb ∷ []))) (opens p (omega arith)) (omega (arith, led p))
    (λ q. absurd (omega (arith, q)))
opens G.name w = λ ws e. absurd (cc)
opens (G.constant {t = t} {v = v} h) w = constant_opens t v h
opens G.number w = λ ws e. absurd (cc)
opens (G.strings vs h) w = λ ws e. absurd (cc)
opens (G.joined_string c b h) w = literals_open c
opens (G.group {ts = ts} p) w = round_opens ts (balanced p)
opens (G.yield_group {ts = ts} p) w = round_opens (Word Key.Yield ∷ ts) (balanced_yields p)
opens G.empty_tuple w = round_opens [] nil
opens (G.tuple {ts = ts} {us = us} p c) w = as_opens (ap (λ z. Op LPar ∷ z) (shut_after ts us (Op Comma) (Op RPar)))
    (round_opens (ts ++ (Op Comma ∷ us)) (both ts (Op Comma ∷ us) (balanced p) (balanced_listing c)))
opens (G.generator_group {ts = ts} {us = us} p c) w = as_opens (ap (λ z. Op LPar ∷ z) (shut ts us (Op RPar)))
    (round_opens (ts ++ us) (both ts us (balanced p) (balanced_comps c)))
opens (G.list c) w = λ ws e. absurd (cc)
opens (G.list_comp p c) w = λ ws e. absurd (cc)
opens (G.dict c) w = λ ws e. absurd (cc)
opens (G.dict_comp p q c) w = λ ws e. absurd (cc)
opens (G.set c) w = λ ws e. absurd (cc)
opens (G.set_comp p c) w = λ ws e. absurd (cc)
opens (G.subject_tuple p c) w = absurd (omega (arith, w))
opens (G.star_elem p) w = absurd (omega (arith, w))
opens (G.star_slices p) w = absurd (omega (arith, w))
opens (G.parts p c) w = absurd (omega (arith, w))
opens (G.star_part p) w = absurd (omega (arith, w))
opens (G.slice p q) w = absurd (omega (arith, w))
opens (G.slice_step p q r) w = absurd (omega (arith, w))
