-- Carries: the law of modules. On: a header comes back from its own terminals.
use Rattle.std.proofs.Common.{◌≡◌, refl, sym, ap, subst, List, [], ◌∷◌, ◌++◌, Bool, append_assoc}
use Rattle.pylex_lexeme.specs.declared.kinds.Exact.TheVariants.{LPar, RPar, RArrow}
use Rattle.pytoken.specs.declared.keywords.Keyword.TheVariants as Key
use Rattle.pytree_node.specs.declared.profiles.Profile.{Profile}
use Rattle.pygrammar.specs.declared.levels.Level.TheVariants.{Named, Expression}
use Rattle.pytree_node.specs.Trees.{Expr, Exprs, no_exprs, an_expr, Keywords, no_keyword, a_keyword, exprs, Item}
use Rattle.pytoken.specs.Terminals.{Terminal, Op, Word, in_form}
use Rattle.pygrammar.specs.Entries.{Argument, Entry}
use Rattle.pygrammar.specs.Arguments.{positional, keywords}
use Rattle.pygrammar.specs.Grammar as G
use Rattle.pygrammar.specs.Forms as F
use Rattle.pygrammar.specs.Lines.{Header, def_header, function_head}
use Rattle.pyunparse_text.specs.Written.{bracketed, listed, each, by_name, parameters}
use Rattle.pyunparse_text.specs.Terminals.{terminal}
use Rattle.pyunparse_text.specs.Statements as S
use Rattle.pyunparse_text.proofs.Fewest.Places.{parameters_law, bases_law}
use Rattle.pyunparse_text.proofs.Modules.Parts.{again, after_again, as_again, type_params_again}
use Rattle.pyunparse_text.proofs.Modules.Simple.{target_again}

async_again : {ts : List Terminal} {b : Bool} → F.Async ts b → F.Async (S.async terminal b) b
async_again F.no_async = F.no_async
async_again F.async = F.async

-- bases
pub exprs_listed : (z : Exprs) → exprs (F.listed z) ≡ z
exprs_listed no_exprs = refl
exprs_listed (an_expr e z) = ap (an_expr e) (exprs_listed z)

abbrev arguments_of : List Expr → Keywords → List Terminal
arguments_of es ks = listed terminal (each terminal Named (exprs es) ++ by_name terminal ks)

bare_bases : (es : List Expr) (ks : Keywords) → F.Bases (bracketed terminal (arguments_of es ks)) es ks
    → F.Bases (S.bases terminal es ks) es ks
bare_bases [] no_keyword p = F.no_bases
bare_bases [] (a_keyword x e ks) p = p
bare_bases (e ∷ es) ks p = p

listed_again : {ts : List Terminal} (es : List Entry) → G.Listing Argument ts es
    → F.Bases (bracketed terminal (arguments_of (F.listed (positional es)) (keywords es))) (F.listed (positional es)) (keywords es)
listed_again es c =
    let (fs, d, order, same_args, same_keywords, short) = bases_law c in
    let text : List Terminal =
    bracketed terminal (listed terminal (each terminal Named (positional es) ++ by_name terminal (keywords es))) in
    let b : F.Bases text (F.listed (positional fs)) (keywords fs) = F.bases d order in
    let b1 : F.Bases text (F.listed (positional es)) (keywords fs) = subst (λ z. F.Bases text (F.listed z) (keywords fs)) same_args b in
    let b2 : F.Bases text (F.listed (positional es)) (keywords es) =
    subst (λ z. F.Bases text (F.listed (positional es)) z) same_keywords b1 in
    subst
    (λ z. F.Bases (bracketed terminal (listed terminal (each terminal Named z ++ by_name terminal (keywords es))))
    (F.listed (positional es))
    (keywords es))
    (sym (exprs_listed (positional es))) b2

bases_again : {ts : List Terminal} {es : List Expr} {ks : Keywords} → F.Bases ts es ks → F.Bases (S.bases terminal es ks) es ks
bases_again F.no_bases = F.no_bases
bases_again (F.bases {es = es} c h) = bare_bases (F.listed (positional es)) (keywords es) (listed_again es c)

-- what is left for `with`
abbrev pub ItemsAgain : Type 0
ItemsAgain = (ts : List Terminal) (is : List Item) → F.Items ts is → F.Items (S.items terminal is) is

module _ (items_again : ItemsAgain) {profile : Profile} where
  pub header_again : {ts : List Terminal} {h : Header} → F.HeaderOf profile ts h → F.HeaderOf profile (S.header_tokens terminal h) h
  header_again (F.if_line p) = F.if_line (again p)
  header_again (F.elif_line p) = F.elif_line (again p)
  header_again F.else_line = F.else_line
  header_again (F.while_line p) = F.while_line (again p)
  header_again (F.for_line a p q) = F.for_line (async_again a) (target_again p) (again q)
  header_again (F.with_line {us = us} {is = is} a p) = F.with_line (async_again a) (items_again us is p)
  header_again F.try_line = F.try_line
  header_again F.finally_line = F.finally_line
  header_again F.except_all = F.except_all
  header_again (F.except_line p q) = F.except_line (again p) (as_again q)
  header_again (F.except_star p q) = F.except_star (again p) (as_again q)
  header_again (F.def_line {b = b} x {tps = tps} {a = a} {r = r} y t c h q) =
      let ps : List Terminal = listed terminal (parameters terminal a) in
      let rest : List Terminal = S.following terminal (Op RArrow) Expression r in
      subst
      (λ z. F.HeaderOf profile (S.async terminal b ++ (Word Key.Def ∷ (in_form x.form ∷ (S.type_params terminal tps ++ (Op LPar ∷ z)))))
      (def_header (function_head b x.form tps a r)))
      (sym (append_assoc ps (Op RPar ∷ []) rest)) (F.def_line _ (async_again y) (type_params_again t)
      (parameters_law c h).0 h (after_again q))
  header_again (F.class_line t b) = F.class_line (type_params_again t) (bases_again b)
