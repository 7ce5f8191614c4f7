-- What a target says of the way that its expression was derived.
--
-- Carries: to_primary, name_inv, stored_name, target_of, for SoundSimple.
use Rattle.std.proofs.Common.{◌≡◌, ◌⊎◌, inl, inr, refl, sym, ap, List, [], ◌∷◌, ◌++◌, Option, Some, None, Bool, true, false, cond}
use Rattle.pylex_lexeme.specs.declared.kinds.Exact.TheVariants as Sign
use Rattle.pytree_node.specs.declared.operators.Operator.{Operator}
use Rattle.pytree_node.specs.declared.operators.UnaryOperator.{UnaryOperator}
use Rattle.pytree_node.specs.declared.operators.BoolOperator.{BoolOperator}
use Rattle.pytree_node.specs.declared.operators.BoolOperator.TheVariants as Join
use Rattle.pygrammar.specs.declared.levels.Level.{Level}
use Rattle.pygrammar.specs.declared.levels.Level.TheVariants.{Value, Stars, Primary}
use Rattle.pytree_node.specs.Trees.{Expr}
use Rattle.pytree_node.specs.Trees as Trees
use Rattle.pytoken.specs.Terminals.{Spelled, Terminal, Op, Ident}
use Rattle.pygrammar.specs.Operators.{below, left_operator, prefix_operator, chain_level}
use Rattle.pygrammar.specs.Entries.{Entry}
use Rattle.pygrammar.specs.Arguments.{in_order, called, positional, keywords}
use Rattle.pygrammar.specs.Targets.{stored, single_stored}
use Rattle.pygrammar.specs.Grammar as G
use Rattle.pygrammar.specs.Forms.{is_name}

-- a Name, Attribute or Subscript was derived as a Primary
pub to_primary : {l : Level} {ts : List Terminal} {e : Expr} (s : Expr) → G.Derives l ts e → single_stored e ≡ Some s
    → G.Derives Primary ts e
to_primary s (G.next p) h = to_primary s p h
to_primary s (G.attribute x p) h = G.attribute x p
to_primary s (G.call p c k) h = G.call p c k
to_primary s (G.subscript p q) h = G.subscript p q
to_primary s G.name h = G.next G.name
to_primary s (G.group p) h = G.next (G.group p)
to_primary s (G.yield_group p) h = G.next (G.yield_group p)
to_primary s (G.yields (G.yield_from p)) h = absurd (cc)
to_primary s (G.yields (G.yield_some p)) h = absurd (cc)
to_primary s _ h = absurd (cc)

pub called_name : (f e : Expr) (es : List Entry) → called f es ≡ Some e → is_name e ≡ false
called_name f e es h = go (in_order false false es) h
  where
    go : (b : Bool) → ◌≡◌ {A = Option Expr} (cond b (Some (Trees.Call f (positional es) (keywords es))) None) (Some e) → is_name e ≡ false
    go true q = ap is_name (sym (same (Trees.Call f (positional es) (keywords es)) e q))
      where
        same : (a b : Expr) → ◌≡◌ {A = Option Expr} (Some a) (Some b) → a ≡ b
        same a b q = cc
    go false q = absurd (cc)

-- a Name is its NAME, or stands in brackets
pub name_inv : {l : Level} {ts : List Terminal} {e : Expr} (s : Expr) → G.Derives l ts e → single_stored e ≡ Some s → is_name e ≡ true
    → ((x : Spelled) × (ts ≡ Ident x ∷ [])) ⊎ ((us : List Terminal) × (ts ≡ Op Sign.LPar ∷ (us ++ (Op Sign.RPar ∷ [])))
    × G.Derives Primary us e)
name_inv s (G.next p) h k = name_inv s p h k
name_inv s (G.name {x = x}) h k = inl (x, refl)
name_inv s (G.group {ts = ts} p) h k = inr (ts, refl, to_primary s p h)
name_inv s (G.call {f = f} {e = e} {es = es} p c q) h k = absurd (cc (called_name f e es q, k))
name_inv s (G.yields (G.yield_from p)) h k = absurd (cc)
name_inv s (G.yields (G.yield_some p)) h k = absurd (cc)
name_inv s (G.yield_group (G.yield_from p)) h k = absurd (cc)
name_inv s (G.yield_group (G.yield_some p)) h k = absurd (cc)
name_inv s _ h k = absurd (cc)

pub stored_name : (e s : Expr) → single_stored e ≡ Some s → is_name s ≡ true → is_name e ≡ true
stored_name (Trees.Name x c) s h k = refl
stored_name (Trees.Attribute e x c) s h k = absurd (cc (ap is_name (same (Trees.Attribute e x _) s h), k))
  where
    same : (a b : Expr) → ◌≡◌ {A = Option Expr} (Some a) (Some b) → a ≡ b
    same a b q = cc
stored_name (Trees.Subscript e x c) s h k = absurd (cc (ap is_name (same (Trees.Subscript e x _) s h), k))
  where
    same : (a b : Expr) → ◌≡◌ {A = Option Expr} (Some a) (Some b) → a ≡ b
    same a b q = cc
stored_name _ s h k = absurd (cc)

-- a yield is no target
abbrev pub ValueInv : Level → List Terminal → Expr → Type 0
ValueInv Value ts e = (G.Derives Stars ts e) ⊎ (stored e ≡ None)
ValueInv l ts e = Unit {0}

next_inv : (l : Level) (ts : List Terminal) (e : Expr) → G.Derives (below l) ts e → ValueInv l ts e
next_inv Value ts e p = inl p
next_inv _ ts e p = tt

unary_inv : (l : Level) (t : Terminal) (o : UnaryOperator) (ts : List Terminal) (e : Expr) → prefix_operator l t ≡ Some o → ValueInv l ts e
unary_inv Value t o ts e h = absurd (cc)
unary_inv _ t o ts e h = tt

binary_inv : (l : Level) (t : Terminal) (o : Operator) (ts : List Terminal) (e : Expr) → left_operator l t ≡ Some o → ValueInv l ts e
binary_inv Value t o ts e h = absurd (cc)
binary_inv _ t o ts e h = tt

chain_inv : (o : BoolOperator) (ts : List Terminal) (e : Expr) → ValueInv (chain_level o) ts e
chain_inv Join.And ts e = tt
chain_inv Join.Or ts e = tt

pub value_inv : {l : Level} {ts : List Terminal} {e : Expr} → G.Derives l ts e → ValueInv l ts e
value_inv (G.next {l = l} {ts = ts} {e = e} p) = next_inv l ts e p
value_inv (G.unary {l = l} {t = t} {o = o} h p) = unary_inv l t o _ _ h
value_inv (G.binary {l = l} {o = o} t h p q) = binary_inv l t o _ _ h
value_inv (G.chain {o = o} p c) = chain_inv o _ _
value_inv (G.yields (G.yield_from p)) = inr refl
value_inv (G.yields (G.yield_some p)) = inr refl
value_inv _ = tt

pub target_of : {ts : List Terminal} {e s : Expr} → G.Derives Value ts e → stored e ≡ Some s → G.Target ts s
target_of p h = elim (value_inv p) [ inl q ↦ G.target q h | inr n ↦ absurd (cc (n, h)) ]
