-- Rows of worked modules: statements, and the lines that they are written in.
--
-- Carries: row, AreWritten, a, b and 11 more, for WorkedBlocks, WorkedSimple, WorkedTypes.
use Rattle.std.proofs.Common.{◌≡◌, ℕ, List, [], ◌∷◌, ◌++◌, map}
use Rattle.std.specs.Prelude.{codes}
use Rattle.pytree_node.specs.declared.operators.Context.TheVariants.{Load}
use Rattle.pytree_node.specs.Trees.{Expr, Stmt, Name}
use Rattle.pyunparse_text.specs.Modules.{module_text}

pub record Row : Type 0 where
  pub tree : List Stmt
  pub text : List (List ℕ)

abbrev pub row : List Stmt → List (List ℕ) → Row
row ss ls = record { tree = ss; text = ls }

abbrev ended : List (List ℕ) → List ℕ
ended [] = []
ended (l ∷ ls) = l ++ (10 ∷ ended ls)

abbrev pub AreWritten : List Row → Type 0
AreWritten rows = map (λ r. module_text (record { body = r.tree })) rows ≡ map (λ r. ended r.text) rows

abbrev pub a : Expr
a = Name (codes "a") Load

abbrev pub b : Expr
b = Name (codes "b") Load

abbrev pub c : Expr
c = Name (codes "c") Load

abbrev pub d : Expr
d = Name (codes "d") Load

abbrev pub e : Expr
e = Name (codes "e") Load

abbrev pub f : Expr
f = Name (codes "f") Load

abbrev pub g : Expr
g = Name (codes "g") Load

abbrev pub h : Expr
h = Name (codes "h") Load

abbrev pub i : Expr
i = Name (codes "i") Load

abbrev pub j : Expr
j = Name (codes "j") Load

abbrev pub k : Expr
k = Name (codes "k") Load

abbrev pub l : Expr
l = Name (codes "l") Load

abbrev pub m : Expr
m = Name (codes "m") Load
