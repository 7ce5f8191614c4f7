-- At every level no more than one bracket more is open at once than an expression is high: at Atom a form of Primary has brackets.
--
-- Carries: brackets_low, for Law. On: Fewest, Shallow.
use Rattle.std.proofs.Common.{◌≡◌, ◌⊎◌, inl, inr, ⊎_elim, ℕ, suc, ◌+◌, ◌-◌, ◌≤◌, Bool, true, false, List, [], ◌∷◌, ◌++◌, refl, sym, subst}
use Rattle.std.proofs.Common.{arith}
use Rattle.std.proofs.Common.{if◌then◌else◌}
use Rattle.pylex_lexeme.specs.declared.kinds.Exact.TheVariants.{RPar}
use Rattle.pylex_lexeme.specs.Operators.{is_opener, is_closer}
use Rattle.pytree_node.specs.Trees
use Rattle.pytree_node.specs.Trees.{Expr}
use Rattle.pytree_height.specs.Heights.{height}
use Rattle.pytoken.specs.Terminals.{Terminal, Op}
use Rattle.pygrammar.specs.declared.levels.Level.{Level}
use Rattle.pygrammar.specs.declared.levels.Level.TheVariants.{Value, Named, Expression, Compare, Await, Primary, Atom, Slice}
use Rattle.pygrammar.specs.Operators.{chain_level}
use Rattle.pyunparse_text.specs.Brackets.{open_after, most_open, brackets}
use Rattle.pyunparse_text.specs.Levels.{leads, reaches, operator_level, unary_level}
use Rattle.pyunparse_text.specs.Written.{bracketed, fit, written}
use Rattle.pyunparse_text.specs.Terminals.{terminal, terminals}
use Rattle.pyunparse_text.proofs.Fewest.Flat.{brackets_height}

-- ---- Brackets around a list.

open_less : (d n : ℕ) (ts : List Terminal) → d ≤ suc n → most_open d ts ≤ suc (most_open n ts)
open_less d n [] h = h
open_less d n (t ∷ ts) h = let k = open_less (open_after d t) (open_after n t) ts (after_both d n t h) in omega (arith, h, k)
  where
    after_both : (d n : ℕ) (t : Terminal) → d ≤ suc n → open_after d t ≤ suc (open_after n t)
    after_both d n (Op x) h = by (is_opener x) (is_closer x)
      where
        by : (o s : Bool) → (if o then suc d else (if s then d - 1 else d)) ≤ suc (if o then suc n else (if s then n - 1 else n))
        by true s = omega (arith, h)
        by false true = omega (arith, h)
        by false false = h
    after_both d n _ h = h

closed_open : (d : ℕ) (ts : List Terminal) → most_open d (ts ++ (Op RPar ∷ [])) ≤ most_open d ts
closed_open d [] = omega arith
closed_open d (t ∷ ts) = let h = closed_open (open_after d t) ts in omega (arith, h)

around : (ts : List Terminal) → brackets (bracketed terminal ts) ≤ brackets ts + 1
around ts =
    let a = closed_open 1 ts in
    let b = open_less 1 0 ts (omega arith) in
    omega (arith, a, b)

-- ---- At Atom.

abbrev Or_bracketed : List Terminal → List Terminal → Type 0
Or_bracketed xs ys = (xs ≡ ys) ⊎ (xs ≡ bracketed terminal ys)

fit_atom : (k : Level) (ts : List Terminal) → Or_bracketed (fit terminal Atom k ts) (fit terminal Primary k ts)
unfolding fit reaches leads
fit_atom Primary ts = inr refl
fit_atom _ ts = inl refl

at_atom : (e : Expr) → Or_bracketed (written terminal Atom e) (written terminal Primary e)
unfolding written
at_atom (Trees.Yield e) = fit_atom Value _
at_atom (Trees.YieldFrom e) = fit_atom Value _
at_atom (Trees.NamedExpr t e) = fit_atom Named _
at_atom (Trees.Lambda a e) = fit_atom Expression _
at_atom (Trees.IfExp a b c) = fit_atom Expression _
at_atom (Trees.BoolOp o es) = fit_atom (chain_level o) _
at_atom (Trees.UnaryOp o e) = fit_atom (unary_level o) _
at_atom (Trees.Compare e os es) = fit_atom Compare _
at_atom (Trees.BinOp a o b) = fit_atom (operator_level o) _
at_atom (Trees.Await e) = fit_atom Await _
at_atom (Trees.Attribute e x c) = fit_atom Primary _
at_atom (Trees.Call f es ks) = fit_atom Primary _
at_atom (Trees.Subscript e s c) = fit_atom Primary _
at_atom (Trees.Slice a b c) = fit_atom Slice _
at_atom _ = inl refl

atom_low : (e : Expr) → brackets (terminals Atom e) ≤ height e + 1
atom_low e =
    let h = brackets_height Primary e refl in
    ⊎_elim
    (λ (q : written terminal Atom e ≡ written terminal Primary e). subst (λ ts. brackets ts ≤ height e + 1) (sym q) (omega (arith, h)))
    (λ (q : written terminal Atom e ≡ bracketed terminal (written terminal Primary e)). let a = around (written terminal Primary e) in
    subst (λ ts. brackets ts ≤ height e + 1) (sym q) (omega (arith, a, h)))
    (at_atom e)

pub brackets_low : (l : Level) (e : Expr) → brackets (terminals l e) ≤ height e + 1
brackets_low Atom e = atom_low e
brackets_low l e = let h = brackets_height l e refl in omega (arith, h)
