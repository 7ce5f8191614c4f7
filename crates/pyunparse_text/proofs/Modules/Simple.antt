-- Carries: the law of modules. On: a simple statement comes back from its own terminals.
use Rattle.std.proofs.Common.{◌≡◌, refl, sym, ap, subst, ℕ, zero, suc, ◌<◌, List, [], ◌∷◌, ◌++◌, Option, Some, None, true, false}
use Rattle.std.specs.Prelude.{map}
use Rattle.pylex_lexeme.specs.declared.kinds.Exact.TheVariants.{Colon, Equal}
use Rattle.pytree_node.specs.declared.operators.Operator.{Operator}
use Rattle.pytree_node.specs.declared.operators.Operator.TheVariants as Bin
use Rattle.pytree_node.specs.declared.profiles.Profile.{Profile}
use Rattle.pygrammar.specs.declared.levels.Level.{Level}
use Rattle.pygrammar.specs.declared.levels.Level.TheVariants.{Value, Stars, Expression, Primary}
use Rattle.pytree_node.specs.Trees
use Rattle.pytree_node.specs.Trees.{Identifier, Expr, exprs, Alias, Stmt, ImportFrom}
use Rattle.pytoken.specs.Terminals.{Terminal, Op}
use Rattle.pygrammar.specs.Grammar as G
use Rattle.pygrammar.specs.Forms as F
use Rattle.pyunparse_text.specs.Written.{listed, written, each}
use Rattle.pyunparse_text.specs.Terminals.{terminal}
use Rattle.pyunparse_text.specs.Statements as S
use Rattle.pyunparse_text.proofs.Fewest.Places.{target_law, single_target_law, del_target_law}
use Rattle.pyunparse_text.proofs.Modules.Parts.{again, perhaps_again, after_again, last_comma, names_again, dotted_again, points_again}
use Rattle.pyunparse_text.proofs.Modules.Parts.{aliases_again, all_again, type_params_again}

pub target_again : {ts : List Terminal} {s : Expr} → G.Target ts s → G.Target (written terminal Stars s) s
target_again p = (target_law p).0

targets_again : {ts : List Terminal} {es : List Expr} → F.Targets ts es → F.Targets (S.targets terminal es) es
targets_again (F.last_target p) = F.last_target (target_again p)
targets_again (F.more_targets p c) = F.more_targets (target_again p) (targets_again c)

single_again : {ts : List Terminal} {s : Expr} → G.SingleTarget ts s → G.SingleTarget (written terminal Primary s) s
single_again p = (single_target_law p).0

del_again : (ts : List Terminal) (s : Expr) → G.DelTarget ts s → G.DelTarget (written terminal Expression s) s
del_again _ _ p = (del_target_law p).0

pub each_is : (l : Level) (es : List Expr) → each terminal l (exprs es) ≡ map (written terminal l) es
unfolding each
each_is l [] = refl
each_is l (e ∷ es) = ap (λ z. written terminal l e ∷ z) (each_is l es)

sign_is : (o : Operator) → F.augmented (S.augmented_sign o) ≡ Some o
sign_is Bin.Add = refl
sign_is Bin.Sub = refl
sign_is Bin.Mult = refl
sign_is Bin.MatMult = refl
sign_is Bin.Div = refl
sign_is Bin.Mod = refl
sign_is Bin.BitAnd = refl
sign_is Bin.BitOr = refl
sign_is Bin.BitXor = refl
sign_is Bin.LShift = refl
sign_is Bin.RShift = refl
sign_is Bin.Pow = refl
sign_is Bin.FloorDiv = refl

module _ {profile : Profile} where
  annotated_again : (s : Expr) {a : Expr} {v : Option Expr} {us vs : List Terminal} → G.SingleTarget (written terminal Primary s) s
      → G.Derives Expression us a → F.Following (Op Equal) Value vs v
      → F.Simple profile (S.annotated terminal s false ++ (Op Colon ∷ (us ++ vs))) (Trees.AnnAssign s a v false)
  unfolding written
  annotated_again (Trees.Name x c) p q r = F.annotated_group p q r
  annotated_again _ p q r = F.annotated_part p refl q r

  -- imports, with points or without
  module_again : (n : ℕ) (m : Identifier) {as_ : List Alias} → F.Names (S.imported terminal as_) as_
      → F.Simple profile (S.simple_tokens terminal (ImportFrom (Some m) as_ n)) (ImportFrom (Some m) as_ n)
  module_again zero m c = F.from_module F.no_dot (dotted_again false m) c
  module_again (suc n) m c = F.from_module (points_again false (suc n)) (dotted_again true m) c

  points_only : (n : ℕ) {as_ : List Alias} → 0 < n → F.Names (S.imported terminal as_) as_
      → F.Simple profile (S.simple_tokens terminal (ImportFrom None as_ n)) (ImportFrom None as_ n)
  points_only zero h c = F.from_dots F.no_dot h c
  points_only (suc n) h c = F.from_dots (points_again false (suc n)) h c

  pub simple_again : {ts : List Terminal} {s : Stmt} → F.Simple profile ts s → F.Simple profile (S.simple_tokens terminal s) s
  unfolding written
  simple_again (F.value p) = F.value (again p)
  simple_again (F.assign c p) = F.assign (targets_again c) (again p)
  simple_again (F.augmented_assign x {o = o} p h q) = F.augmented_assign (S.augmented_sign o) (single_again p) (sign_is o) (again q)
  simple_again (F.annotated_name p q) = F.annotated_name (again p) (after_again q)
  simple_again (F.annotated_group {t = t} p q r) = annotated_again t (single_again p) (again q) (after_again r)
  simple_again (F.annotated_part {t = t} p h q r) = annotated_again t (single_again p) (again q) (after_again r)
  simple_again (F.type_alias h c p) = F.type_alias h (type_params_again c) (again p)
  simple_again (F.return_of p) = F.return_of (perhaps_again p)
  simple_again F.raise_alone = F.raise_alone
  simple_again (F.raise_of p q) = F.raise_of (again p) (after_again q)
  simple_again (F.assert_of p q) = F.assert_of (again p) (after_again q)
  simple_again (F.delete {es = es} c) =
      F.delete
      (F.ends_bare (subst (λ z. F.Commas Expr G.DelTarget (listed terminal z) es) (sym (each_is Expression es))
      (last_comma Expr G.DelTarget (written terminal Expression) del_again c)))
  simple_again (F.global c) = F.global (names_again c)
  simple_again (F.nonlocal c) = F.nonlocal (names_again c)
  simple_again F.pass = F.pass
  simple_again F.break = F.break
  simple_again F.continue = F.continue
  simple_again (F.import_names c) = F.import_names (aliases_again c)
  simple_again (F.from_module {n = n} {m = m} p q c) = module_again n m (all_again c)
  simple_again (F.from_dots {n = n} p h c) = points_only n h (all_again c)
