-- The headers of `def` and `class`, part by part.
--
-- Carries: function_rest, bases_rest, def_rest, class_rest. On: Heads, Parts.
use Rattle.std.proofs.Common.{◌≡◌, refl, sym, ap, ◌∙◌, arith, ℕ, ◌+◌, ◌≤◌, List, [], ◌∷◌, Some, Bool, Result}
use Rattle.pylex_lexeme.specs.declared.kinds.Exact.TheVariants.{LPar, RArrow, RPar}
use Rattle.pytree_node.specs.declared.profiles.Profile.{Profile}
use Rattle.pytree_node.specs.Trees.{Expr, Identifier, Keywords, TypeParam, exprs}
use Rattle.pytoken.specs.Terminals.{Terminal, Op}
use Rattle.pytoken.specs.declared.values.terminals.Terminal as given
use Rattle.pygrammar.specs.declared.levels.Level.TheVariants.{Expression}
use Rattle.pygrammar.specs.Forms.{listed}
use Rattle.pygrammar.specs.LineReader.{after, bases_rest, function_rest, read_type_params}
use Rattle.pygrammar.specs.Lines.{Header, class_head, def_header, function_head}
use Rattle.pygrammar.specs.Looks.{name_in}
use Rattle.pygrammar.specs.Reader.{Answer, Found, NoForm, and_then, on_first}
use Rattle.pygrammar.specs.FormOf.{header_of}
use Rattle.pyparse_reads.specs.declared.depth.Depth.{Depth}
use Rattle.pyparse_nodes.specs.declared.stop.Stop.{Stop}
use Rattle.pyparse_nodes.specs.Answers.{Failed, PartAt}
use Rattle.pyparse_reads.specs.Readings.{read_arguments, reads}
use Rattle.pyparse_nodes.specs.Views.{Stands, first_is, seen}
use Rattle.pyparse_reads.proofs.Callers.Heads.{arguments_then, parameters_then}
use Rattle.pyparse_reads.proofs.Callers.Looks.{failed_then}
use Rattle.pyparse_statement.proofs.Callers.Parts.{answered_as, name_next}
use Rattle.pyparse_statement.specs.declared.headers.found.ReadHeader.{ReadHeader}
use Rattle.pyparse_statement.specs.Answers.{HeaderAnswered}
use Rattle.pyparse_statement.specs.Inner.Definitions.{class_from, function_from}

pub listed_all : (es : List Expr) → listed (exprs es) ≡ es
listed_all [] = refl
listed_all (e ∷ es) = ap (λ r. e ∷ r) (listed_all es)

-- the same answer, of what is the same, from an earlier place on
header_as : (ts : List given.Terminal) (least low : ℕ) (x y : Answer Header) (z : Result ReadHeader Stop) → x ≡ y → least ≤ low
    → HeaderAnswered ts low y z → HeaderAnswered ts least x z
header_as ts least low x y z q le h = answered_as ts least low x y (λ r. header_of r.header) (λ r. r.next) z q le h

module _ (ts : List given.Terminal) (d : Depth) (x : Identifier) (tps : List TypeParam) where
  pub class_made : (at m : ℕ) (xs : List Expr) (ks : Keywords) (r : ReadHeader) → PartAt ts at (read_arguments d (seen ts at)) (
    exprs xs,
    ks,
  ) m → Stands (Op RPar) ts m → header_of r.header ≡ def_header (class_head x tps xs ks) → r.next ≡ m + 1
      → PartAt ts at (class_from d x tps (seen ts at)) (header_of r.header) r.next
  class_made at m xs ks r f e h k = record {
    ahead = omega (arith, f.ahead, k);
    within = omega (arith, e.within, k);
    is = rw (f.is, e.is) (ap (λ es. Found (def_header (class_head x tps es ks)) (seen ts (m + 1))) (listed_all xs)
        ∙ ap (λ y. Found y (seen ts (m + 1))) (sym h) ∙ ap (λ n. Found (header_of r.header) (seen ts n)) (sym k));
  }

  module _ (n : ℕ) (s : Stands (Op LPar) ts n) where
    function_is : (b : Bool) → function_rest (reads d) b x tps (seen ts n) ≡ function_from d b x tps (seen ts (n + 1))
    function_is b = rw s.is
        (parameters_then d (seen ts (n + 1)) (λ a r. and_then (after (reads d) (Op RArrow) Expression r)
        (λ e r1. Found (def_header (function_head b x tps a e)) r1)))

    pub function_open : (b : Bool) (z : Result ReadHeader Stop) → HeaderAnswered ts (n + 1) (function_from d b x tps (seen ts (n + 1))) z
        → HeaderAnswered ts n (function_rest (reads d) b x tps (seen ts n)) z
    function_open b z h = header_as ts n (n + 1) (function_rest (reads d) b x tps (seen ts n)) (function_from d b x tps (seen ts (n + 1))) z
        (function_is b) (omega arith) h

    class_is : bases_rest (reads d) x tps (seen ts n) ≡ class_from d x tps (seen ts (n + 1))
    class_is = rw s.is (arguments_then d (seen ts (n + 1)) (λ es ks r. Found (def_header (class_head x tps (listed es) ks)) r))

    pub class_open : (z : Result ReadHeader Stop) → HeaderAnswered ts (n + 1) (class_from d x tps (seen ts (n + 1))) z
        → HeaderAnswered ts n (bases_rest (reads d) x tps (seen ts n)) z
    class_open z h = header_as ts n (n + 1) (bases_rest (reads d) x tps (seen ts n)) (class_from d x tps (seen ts (n + 1))) z
        class_is (omega arith) h

-- a name, the parameters of types, and what follows them
module _ (ts : List given.Terminal) (profile : Profile) (d : Depth) (at : ℕ) (x : Identifier) (h : Some x ≡ first_is name_in (seen ts at))
    (k : Identifier → List TypeParam → List Terminal → Answer Header) where
  abbrev whole : Answer Header
  whole = on_first name_in (seen ts at) (λ y r. and_then (read_type_params profile (reads d) r) (λ tps r1. k y tps r1)) NoForm

  abbrev types : Answer (List TypeParam)
  types = read_type_params profile (reads d) (seen ts (at + 1))

  named : whole ≡ and_then types (λ tps r. k x tps r)
  named = name_next ts at x (λ y r. and_then (read_type_params profile (reads d) r) (λ tps r1. k y tps r1)) NoForm h

  pub types_failed : (s : Stop) → Failed s types → Failed s whole
  types_failed s f = rw named (failed_then s types (λ tps r. k x tps r) f)

  pub types_found : (tps : List TypeParam) (n : ℕ) (z : Result ReadHeader Stop) → PartAt ts (at + 1) types tps n
      → HeaderAnswered ts n (k x tps (seen ts n)) z → HeaderAnswered ts at whole z
  types_found tps n z f g = header_as ts at n whole (k x tps (seen ts n)) z (named ∙ ap (λ y. and_then y (λ tps r. k x tps r)) f.is)
      (omega (arith, f.ahead)) g
