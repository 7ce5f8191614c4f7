-- Completeness for parameters of types, and for `type`.
--
-- Carries: type_params_goes, alias_goes, for Headers, Simple. On: Tools, Climb.
use Rattle.std.proofs.Common.{◌≡◌, refl, ap, ◌∙◌, arith, List, [], ◌∷◌, ◌++◌, None, Bool, true, false, cond, append_assoc}
use Rattle.pylex_lexeme.specs.declared.kinds.Exact.TheVariants as Sign
use Rattle.pytree_node.specs.declared.operators.Context.TheVariants.{Store}
use Rattle.pytree_node.specs.declared.profiles.Profile.{Profile}
use Rattle.pygrammar.specs.declared.levels.Level.TheVariants.{Expression}
use Rattle.pytree_node.specs.Trees.{Expr, Identifier, TypeParam, TypeAlias}
use Rattle.pytree_node.specs.Trees as Trees
use Rattle.pytoken.specs.Terminals.{Spelled, Terminal, Op, Ident}
use Rattle.pygrammar.specs.Looks.{is_op}
use Rattle.pygrammar.specs.Grammar as G
use Rattle.pygrammar.specs.Reader.{Found}
use Rattle.pygrammar.proofs.Completeness.Climb.{Stops}
use Rattle.pygrammar.specs.Forms as F
use Rattle.pygrammar.specs.Forms.{type_word}
use Rattle.pytree_node.specs.Profiles.{has_types}
use Rattle.pygrammar.specs.LineReader.{starts_type_param, commas_of, plain, read_type_param, bracketed_type_params, read_type_params}
use Rattle.pygrammar.specs.LineReader.{alias_rest, statement}
use Rattle.pygrammar.proofs.Line.Tools.{thus, when, peek, missed, Ends, ends_grip, front, after_goes, commas?_goes}

abbrev Following : List Terminal → Type 0
Following r = Stops Expression r × (peek (is_op Sign.Colon) r ≡ None)

type_param_goes : (ts : List Terminal) (a : TypeParam) → F.TypeParamOf ts a → (r : List Terminal) → Following r
    → read_type_param plain (ts ++ r) ≡ Found a r
type_param_goes _ _ (F.type_var k) r g = thus _ _ (after_goes k refl r g.0 g.1) refl
type_param_goes _ _ F.type_var_tuple r g = refl
type_param_goes _ _ F.param_spec r g = refl

type_param_starts : (ts : List Terminal) (a : TypeParam) → F.TypeParamOf ts a → (r : List Terminal) → starts_type_param (ts ++ r) ≡ true
type_param_starts _ _ (F.type_var k) r = refl
type_param_starts _ _ F.type_var_tuple r = refl
type_param_starts _ _ F.param_spec r = refl

pub type_params_goes : (profile : Profile) {ts : List Terminal} {ps : List TypeParam} → F.TypeParams profile ts ps → (r : List Terminal)
    → peek (is_op Sign.LSqb) r ≡ None → read_type_params profile plain (ts ++ r) ≡ Found ps r
type_params_goes profile F.no_type_params r m = either (has_types profile)
  where
    either : (b : Bool) → cond b (bracketed_type_params plain r) (Found [] r) ≡ Found [] r
    either true = missed (is_op Sign.LSqb) r _ _ m
    either false = refl
type_params_goes profile (F.type_params {ts = ts} h c) r m =
    let read = commas_of (read_type_param plain) starts_type_param in
    when _ _ _ h (thus (read ((ts ++ (Op Sign.RSqb ∷ [])) ++ r)) _ (ap read (append_assoc ts (Op Sign.RSqb ∷ []) r)
    ∙ commas?_goes TypeParam F.TypeParamOf (read_type_param plain) starts_type_param Following type_param_goes type_param_starts
    (λ r. (omega arith, refl)) c (Op Sign.RSqb ∷ r) refl refl (omega arith, refl)) refl)

pub alias_goes : (profile : Profile) (form : Identifier) (x : Spelled) {ts us : List Terminal} {ps : List TypeParam} {e : Expr}
    → has_types profile ≡ true → F.TypeParams profile ts ps → G.Derives Expression us e → (r : List Terminal) → Ends r
    → statement profile plain (type_word form ∷ (Ident x ∷ ((ts ++ (Op Sign.Equal ∷ us)) ++ r))) ≡ Found
    (TypeAlias (Trees.Name x.form Store) ps e) r
alias_goes profile form x {ts} {us} h c p r w = when _ _ _ h (ap (alias_rest profile plain x.form) (append_assoc ts (Op Sign.Equal ∷ us) r)
    ∙ thus _ _ (type_params_goes profile c (Op Sign.Equal ∷ (us ++ r)) refl) (thus _ _ (front p r (omega (arith, ends_grip w))) refl))
