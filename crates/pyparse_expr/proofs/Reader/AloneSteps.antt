-- Atoms of one terminal that no level goes on with.
--
-- Carries: read_expression. On: Reading, Alone.
use Rattle.std.proofs.Common.{◌≡◌, refl, sym, ap, ◌∙◌, arith, ℕ, zero, suc, ◌+◌, ◌<◌, List, [], ◌∷◌, length, Option, Some, None, Bool, true}
use Rattle.std.proofs.Common.{false, ◌&&◌, cond, leb, Result}
use Rattle.pylex_lexeme.specs.declared.kinds.Exact.TheVariants.{RPar, RSqb, RBrace, Colon, Comma, Equal}
use Rattle.pytree_node.specs.declared.operators.Context.TheVariants.{Load}
use Rattle.pytree_node.specs.Trees
use Rattle.pytree_node.specs.Trees.{Expr}
use Rattle.pytree_node.specs.Values.{Value}
use Rattle.pytoken.specs.Terminals.{Terminal, Op, Ident, Number, Literal}
use Rattle.pytoken.specs.declared.values.terminals.Terminal as given
use Rattle.pytree_height.specs.Heights.{height}
use Rattle.pygrammar.specs.declared.levels.Level.TheVariants as level
use Rattle.pygrammar.specs.Constants.{joined}
use Rattle.pygrammar.specs.Looks.{is_formatted_begin}
use Rattle.pygrammar.specs.Reader.{Answer, Found, TooDeep, Reads, and_then, on_first, made, string_run, constant_of, literals, if_else_step}
use Rattle.pygrammar.specs.Capped.{cap, capped, capped_atom, capped_primary, capped_loop}
use Rattle.pyparse_reads.specs.declared.depth.Depth.{Depth}
use Rattle.pyparse_nodes.specs.declared.found.Read.{Read}
use Rattle.pyparse_nodes.specs.declared.stop.Stop.{Stop}
use Rattle.pyparse_nodes.specs.Answers.{Answered}
use Rattle.pyparse_reads.specs.Readings.{IsOpen, reads}
use Rattle.pyparse_nodes.specs.Alone.{alone, atom_with, ends}
use Rattle.pyparse_nodes.specs.Views.{seen}

-- nothing goes on
no_run : (r : List Terminal) → ends r ≡ true → string_run [] r ≡ Found [] r
no_run [] h = refl
no_run (Op s ∷ r) h = refl
no_run (_ ∷ r) h = absurd (cc)

no_begin : {B : Type 0} (r : List Terminal) (hit : ℕ → List Terminal → Answer B) (miss : Answer B) → ends r ≡ true
    → on_first is_formatted_begin r hit miss ≡ miss
no_begin [] hit miss h = refl
no_begin (Op s ∷ r) hit miss h = refl
no_begin (_ ∷ r) hit miss h = absurd (cc)

one_literal : (self : Reads) (v : Value) (r : List Terminal) → ends r ≡ true → literals self v r ≡ made (constant_of (joined v [])) r
one_literal self v r h = rw (no_run r h) (no_begin r _ _ h)

module _ (d : ℕ) (inner : Reads) (e : Expr) where
  no_trail : (r : List Terminal) → ends r ≡ true → capped_primary d inner (length r) e r ≡ Found e r
  no_trail [] h = refl
  no_trail (Op Comma ∷ r) h = refl
  no_trail (Op RPar ∷ r) h = refl
  no_trail (Op RSqb ∷ r) h = refl
  no_trail (Op RBrace ∷ r) h = refl
  no_trail (Op Colon ∷ r) h = refl
  no_trail (Op Equal ∷ r) h = refl
  no_trail (_ ∷ r) h = absurd (cc)

  no_infix : (k : ℕ) (r : List Terminal) → ends r ≡ true → capped_loop d inner k (length r) e r ≡ Found e r
  no_infix k [] h = refl
  no_infix k (Op Comma ∷ r) h = refl
  no_infix k (Op RPar ∷ r) h = refl
  no_infix k (Op RSqb ∷ r) h = refl
  no_infix k (Op RBrace ∷ r) h = refl
  no_infix k (Op Colon ∷ r) h = refl
  no_infix k (Op Equal ∷ r) h = refl
  no_infix k (_ ∷ r) h = absurd (cc)

  no_if : (r : List Terminal) → ends r ≡ true → if_else_step inner e r ≡ Found e r
  no_if [] h = refl
  no_if (Op s ∷ r) h = refl
  no_if (_ ∷ r) h = absurd (cc)

-- the levels from Primary up to Expression, after an atom
module _ (d : ℕ) (inner : Reads) where
  abbrev trails : Answer Expr → Answer Expr
  trails y = cap d (and_then y (λ e r. capped_primary d inner (length r) e r))

  abbrev climbs : Answer Expr → Answer Expr
  climbs y = cap d (and_then y (λ e r. capped_loop d inner 10 (length r) e r))

  abbrev forks : Answer Expr → Answer Expr
  forks y = cap d (and_then y (λ e r. if_else_step inner e r))

  passed : (o : Option Expr) (r : List Terminal) → ends r ≡ true → forks (climbs (trails (cap d (made o r)))) ≡ cap d (made o r)
  passed None r h = refl
  passed (Some e) r h = go (leb (height e) d) refl
    where
      go : (b : Bool) → leb (height e) d ≡ b → forks (climbs (trails (cap d (Found e r)))) ≡ cap d (Found e r)
      go false q =
          let low : cap d (Found e r) ≡ TooDeep = ap (λ b. cond b (Found e r) TooDeep) q in
          ap (λ y. forks (climbs (trails y))) low ∙ sym low
      go true q =
          let low : cap d (Found e r) ≡ Found e r = ap (λ b. cond b (Found e r) TooDeep) q in
          let one : trails (Found e r) ≡ Found e r = ap (λ y. cap d y) (no_trail d inner e r h) ∙ low in
          let two : climbs (Found e r) ≡ Found e r = ap (λ y. cap d y) (no_infix d inner e 10 r h) ∙ low in
          let three : forks (Found e r) ≡ Found e r = ap (λ y. cap d y) (no_if d inner e r h) ∙ low in
          ap (λ y. forks (climbs (trails y))) low ∙ ap (λ y. forks (climbs y)) one ∙ ap (λ y. forks y) two ∙ three ∙ sym low

-- an atom of one terminal
abbrev value_of : Terminal → Option Expr
value_of (Ident x) = Some (Trees.Name x.form Load)
value_of (Number v) = Some (Trees.Constant v)
value_of (Literal v) = constant_of (joined v [])
value_of _ = None

atom_is : (same inner : Reads) (t : Terminal) (r : List Terminal) → atom_with t ≡ true → ends r ≡ true
    → capped_atom same inner (t ∷ r) ≡ made (value_of t) r
atom_is same inner (Ident x) r a h = refl
atom_is same inner (Number v) r a h = refl
atom_is same inner (Literal v) r a h = one_literal inner v r h
atom_is same inner _ r a h = absurd (cc)

levels_are : (g k : ℕ) (t : Terminal) (r : List Terminal) → atom_with t ≡ true → capped (suc g) (suc k) level.Expression (t ∷ r) ≡ forks
    (suc k) (capped g k) (climbs (suc k) (capped g k) (trails (suc k) (capped g k) (capped (suc g) (suc k) level.Atom (t ∷ r))))
levels_are g k (Ident x) r a = refl
levels_are g k (Number v) r a = refl
levels_are g k (Literal v) r a = refl
levels_are g k _ r a = absurd (cc)

both : (a b : Bool) → a && b ≡ true → (a ≡ true) × (b ≡ true)
both true true h = (refl, refl)
both true false h = absurd (cc)
both false b h = absurd (cc)

same_answer : (g k : ℕ) (i : List Terminal) → 0 < g → 0 < k → alone i ≡ true → capped g k level.Expression i ≡ capped g k level.Atom i
same_answer zero k i p q h = absurd (omega arith)
same_answer (suc g) zero i p q h = absurd (omega arith)
same_answer (suc g) (suc k) [] p q h = absurd (cc)
same_answer (suc g) (suc k) (t ∷ r) p q h =
    let w = both (atom_with t) (ends r) h in
    let atom : capped (suc g) (suc k) level.Atom (t ∷ r) ≡ cap (suc k) (made (value_of t) r) =
    ap (λ y. cap (suc k) y) (atom_is (capped g (suc k)) (capped g k) t r w.0 w.1) in
    levels_are g k t r w.0 ∙ ap (λ y. forks (suc k) (capped g k) (climbs (suc k) (capped g k) (trails (suc k) (capped g k) y))) atom
    ∙ passed (suc k) (capped g k) (value_of t) r w.1 ∙ sym atom

pub expression_atom : (ts : List given.Terminal) (d : Depth) (at : ℕ) (z : Result Read Stop) → IsOpen d → true ≡ alone (seen ts at)
    → Answered ts d.room (at + 1) (reads d level.Atom (seen ts at)) z
    → Answered ts d.room (at + 1) (reads d level.Expression (seen ts at)) z
expression_atom ts d at z o h a = rw (same_answer d.steps d.room (seen ts at) o.steps o.room (sym h)) a
