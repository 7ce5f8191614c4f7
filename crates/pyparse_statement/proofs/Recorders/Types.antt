-- Parameters of types, and the statement `type`.
--
-- Carries: types.rt, plain_statement. On: Looks; Parts and Simple of pyplaces.
use Rattle.std.proofs.Common.{◌≡◌, refl, sym, ap, ◌∙◌, arith, ℕ, ◌+◌, List, [], ◌∷◌, ◌++◌, map, Option, Some, None, Bool, true}
use Rattle.std.proofs.Common.{false}
use Rattle.std.proofs.Common.{cond, Result, Ok, Err}
use Rattle.std.specs.Prelude.{IfOk, MatchResult}
use Rattle.pylex_lexeme.specs.declared.kinds.Exact.TheVariants.{Colon, Comma, DoubleStar, Equal, LSqb, RSqb, Star}
use Rattle.pytree_node.specs.declared.operators.Context.TheVariants.{Store}
use Rattle.pytree_node.specs.declared.profiles.Profile.{Profile}
use Rattle.pytree_node.specs.declared.profiles.Version.TheVariants as version
use Rattle.pytree_node.specs.Profiles.{has_types, version_has_types}
use Rattle.pytree_node.specs.Trees
use Rattle.pytree_node.specs.Trees.{Identifier, ParamSpec, Stmt, TypeAlias, TypeParam, TypeVar, TypeVarTuple}
use Rattle.pytree_node.specs.TreeOf.{boxed_of, stmt_of, tree_of, type_param_of}
use Rattle.pytoken.specs.Terminals.{Ident, Op, Spelled, Terminal}
use Rattle.pytoken.specs.declared.values.terminals.Terminal as given
use Rattle.pygrammar.specs.declared.levels.Level.TheVariants.{Expression}
use Rattle.pygrammar.specs.Forms as F
use Rattle.pygrammar.specs.Forms.{type_word}
use Rattle.pygrammar.specs.LineReader.{is_type}
use Rattle.pygrammar.specs.Looks.{name_in}
use Rattle.pygrammar.specs.Reader.{Answer, Found, NoForm, on_first, on_some}
use Rattle.pygrammar.proofs.Callers.Lines.{type_is}
use Rattle.pyparse_nodes.specs.declared.found.Optional.{Optional}
use Rattle.pyparse_nodes.specs.declared.found.Read.{Read}
use Rattle.pyparse_nodes.specs.declared.stop.Stop.{Stop}
use Rattle.pyparse_nodes.specs.declared.stop.Stop.TheVariants as stop
use Rattle.pyparse_nodes.specs.Views.{Stands, first_is, seen}
use Rattle.pyplaces.specs.FormPlaces.{type_param_places}
use Rattle.pyplaces.specs.Placed.{Placed}
use Rattle.pyplaces.specs.PlacedForms.{Commaed, PlacedEnded, PlacedFields, PlacedTypeParam, PlacedTypeParams}
use Rattle.pyplaces.specs.Recording.{Records}
use Rattle.pyplaces.specs.Stretches.{Stretch, stretch}
use Rattle.pyplaces.proofs.Answers.{read_from, records_more, records_none}
use Rattle.pyplaces.proofs.Forms.Parts.{commaed_end, commaed_turn, commaed_with, placed_no_type_params, placed_param_spec}
use Rattle.pyplaces.proofs.Forms.Parts.{placed_type_params, placed_type_var, placed_type_var_tuple}
use Rattle.pyplaces.proofs.Forms.Simple.{placed_type_alias}
use Rattle.pyplaces.proofs.Loops.{Grows, grows_start}
use Rattle.pyparse_statement.specs.declared.statements.found.ReadStatement.{ReadStatement}
use Rattle.pyparse_statement.specs.declared.statements.found.ReadTypeParam.{ReadTypeParam}
use Rattle.pyparse_statement.specs.declared.statements.found.ReadTypeParams.{ReadTypeParams}
use Rattle.pyparse_statement.specs.PlacedParts.{AfterPlaced, ParamsPlaced, TypeParamPlaced, TypeParamsPlaced}
use Rattle.pyparse_statement.specs.PlacedStatements.{AliasPlaced}
use Rattle.pyparse_statement.specs.Inner.Types.{HasTypeName}
use Rattle.pyparse_statement.proofs.Callers.Looks.{moved, name_stands, recorded_more}
use Rattle.pyparse_statement.proofs.Recorders.Parts.{commaed_ended}

-- ---- One parameter.
module _ {S : Type 0} {after : S → Stretch → S} {ts : List given.Terminal} {at : ℕ} where
  pub type_var_placed : {bound : Optional} {u v : S} (name : Identifier) (z : Result ReadTypeParam Stop)
      → AfterPlaced after (Op Colon) Expression ts at u v bound
      → MatchResult z (λ r. type_param_of r.param ≡ TypeVar name (boxed_of bound.expr)) (λ s. s ≡ stop.Memory)
      → MatchResult z (λ r. r.next ≡ bound.next) (λ s. s ≡ stop.Memory)
      → (from : ℕ) (x : Spelled) → at ≡ from + 1 → seen ts from ≡ Ident x ∷ seen ts at → x.form ≡ name
      → IfOk z (TypeParamPlaced after ts from u v)
  type_var_placed {bound} name (Ok r) b h q from x e s f =
      let one = placed_type_var (s ∙ ap (λ n. Ident x ∷ seen ts n) e) (read_from (seen ts) (sym e) b.part) in
      record {
        places = b.places;
        part = moved (seen ts) (λ p i n. PlacedTypeParam (seen ts from) from p i n (b.places ++ (stretch from n ∷ [])))
            (h ∙ ap (λ g. TypeVar g (boxed_of bound.expr)) (sym f)) q one;
        records = b.records;
      }
  type_var_placed name (Err o) b h q from x e s f = tt

two : (at : ℕ) → at + 2 ≡ at + 1 + 1
two at = omega arith

module _ {S : Type 0} (after : S → Stretch → S) (u : S) {ts : List given.Terminal} {at : ℕ} (name : Identifier) where
  pub star_placed : (z : Result ReadTypeParam Stop) → Some name ≡ first_is name_in (seen ts (at + 1)) → Stands (Op Star) ts at
      → MatchResult z (λ r. type_param_of r.param ≡ TypeVarTuple name) (λ s. s ≡ stop.Memory)
      → MatchResult z (λ r. r.next ≡ at + 2) (λ s. s ≡ stop.Memory) → IfOk z (TypeParamPlaced after ts at u u)
  star_placed (Ok r) n s h q =
      let w = name_stands name ts (at + 1) n in
      record {
        places = [];
        part = moved (seen ts) (λ p i k. PlacedTypeParam (seen ts at) at p i k (stretch at k ∷ []))
            (h ∙ ap (λ g. TypeVarTuple g) (sym w.form)) (q ∙ two at) (placed_type_var_tuple s.is w.is);
        records = records_none;
      }
  star_placed (Err o) n s h q = tt

  pub stars_placed : (z : Result ReadTypeParam Stop) → Some name ≡ first_is name_in (seen ts (at + 1)) → Stands (Op DoubleStar) ts at
      → MatchResult z (λ r. type_param_of r.param ≡ ParamSpec name) (λ s. s ≡ stop.Memory)
      → MatchResult z (λ r. r.next ≡ at + 2) (λ s. s ≡ stop.Memory) → IfOk z (TypeParamPlaced after ts at u u)
  stars_placed (Ok r) n s h q =
      let w = name_stands name ts (at + 1) n in
      record {
        places = [];
        part = moved (seen ts) (λ p i k. PlacedTypeParam (seen ts at) at p i k (stretch at k ∷ []))
            (h ∙ ap (λ g. ParamSpec g) (sym w.form)) (q ∙ two at) (placed_param_spec s.is w.is);
        records = records_none;
      }
  stars_placed (Err o) n s h q = tt

-- ---- Some of them.
pub record ParamsGrown {S : Type 0} (after : S → Stretch → S) (ts : List given.Terminal) (at : ℕ) (old new : S)
    (now : ReadTypeParams) : Type 0 where
  pub places : List Stretch
  pub grows : Grows (Commaed TypeParam F.TypeParamOf (λ us p. type_param_places)) (seen ts at) at (map type_param_of now.params.items)
      (seen ts now.next) now.next places
  pub records : Records after old places new

abbrev pub ParamsRun : List Terminal → ℕ → List TypeParam → List Terminal → ℕ → List Stretch → Type 0
ParamsRun i at ps s n qs = Grows (Commaed TypeParam F.TypeParamOf (λ us p. type_param_places)) i at ps s n qs

abbrev pub ParamsAll : List Terminal → ℕ → List TypeParam → List Terminal → ℕ → List Stretch → Type 0
ParamsAll i at ps s n qs = PlacedEnded TypeParam F.TypeParamOf (λ us p. type_param_places) i at ps s n qs

module _ {S : Type 0} {after : S → Stretch → S} {ts : List given.Terminal} {at : ℕ} where
  pub params_start : {now : ReadTypeParams} {u : S} → map type_param_of now.params.items ≡ [] → now.next ≡ at
      → ParamsGrown after ts at u u now
  params_start h q = record {
    places = [];
    grows = moved (seen ts) (λ ps s n. ParamsRun (seen ts at) at ps s n []) h q grows_start;
    records = records_none;
  }

  module _ {now next : ReadTypeParams} {u v w x : S} (p : ReadTypeParam) (g : ParamsGrown after ts at u v now)
      (d : TypeParamPlaced after ts now.next v w p) (k : x ≡ after w (stretch now.next p.next))
      (h : map type_param_of next.params.items ≡ map type_param_of now.params.items ++ (type_param_of p.param ∷ [])) where
    pub params_turn : Stands (Op Comma) ts p.next → next.next ≡ p.next + 1 → ParamsGrown after ts at u x next
    params_turn s q = record {
      places = g.places ++ (d.places ++ (stretch now.next p.next ∷ []));
      grows = moved (seen ts) (λ ps i n. ParamsRun (seen ts at) at ps i n (g.places ++ (d.places ++ (stretch now.next p.next ∷ [])))) h q
          (commaed_turn g.grows d.part s.is);
      records = recorded_more g.records d.records k;
    }

    pub params_last : next.next ≡ p.next → ParamsPlaced after ts at u x next
    params_last q = record {
      places = g.places ++ (d.places ++ (stretch now.next p.next ∷ []));
      part = moved (seen ts) (λ ps i n. ParamsAll (seen ts at) at ps i n (g.places ++ (d.places ++ (stretch now.next p.next ∷ [])))) h q
          (commaed_ended (map type_param_of now.params.items) (type_param_of p.param) (commaed_with g.grows d.part));
      records = recorded_more g.records d.records k;
    }

    pub params_end : Stands (Op Comma) ts p.next → next.next ≡ p.next + 1 → ParamsPlaced after ts at u x next
    params_end s q = record {
      places = g.places ++ (d.places ++ (stretch now.next p.next ∷ []));
      part = moved (seen ts) (λ ps i n. ParamsAll (seen ts at) at ps i n (g.places ++ (d.places ++ (stretch now.next p.next ∷ [])))) h q
          (commaed_ended (map type_param_of now.params.items) (type_param_of p.param) (commaed_end (commaed_turn g.grows d.part s.is)));
      records = recorded_more g.records d.records k;
    }

  -- ---- Those in brackets.
  pub no_params_placed : {prof : Profile} {r : ReadTypeParams} {u : S} → map type_param_of r.params.items ≡ [] → r.next ≡ at
      → TypeParamsPlaced after prof ts at u u r
  no_params_placed {prof} h q = record {
    places = [];
    part = moved (seen ts) (λ ps s n. PlacedTypeParams prof (seen ts at) at ps s n []) h q placed_no_type_params;
    records = records_none;
  }

  pub params_bracketed : {prof : Profile} {r : ReadTypeParams} {u v : S} (params : ReadTypeParams) → has_types prof ≡ true
      → Stands (Op LSqb) ts at → ParamsPlaced after ts (at + 1) u v params → Stands (Op RSqb) ts params.next
      → map type_param_of r.params.items ≡ map type_param_of params.params.items → r.next ≡ params.next + 1
      → TypeParamsPlaced after prof ts at u v r
  params_bracketed {prof} params t s p c h q = record {
    places = p.places;
    part = moved (seen ts) (λ ps i n. PlacedTypeParams prof (seen ts at) at ps i n p.places) h q
        (placed_type_params t s.is p.part c.is);
    records = p.records;
  }

-- a version that has them
pub newer : (prof : Profile) → prof.version ≡ version.Py312 → has_types prof ≡ true
newer prof h = ap version_has_types h

-- ---- The statement `type`.
module _ {S : Type 0} {after : S → Stretch → S} {ts : List given.Terminal} {at : ℕ} where
  pub alias_placed : {prof : Profile} {r : ReadStatement} {qs : List Stretch} {u v w : S} (f : Identifier) (params : ReadTypeParams)
      (value name : Read) → TypeParamsPlaced after prof ts at u v params → Stands (Op Equal) ts params.next
      → Placed Expression (seen ts (params.next + 1)) (params.next + 1) (tree_of value.expr.value) (seen ts value.next) value.next qs
      → Records after v qs w → tree_of name.expr.value ≡ Trees.Name f Store
      → stmt_of r.statement ≡ TypeAlias (tree_of name.expr.value) (map type_param_of params.params.items) (tree_of value.expr.value)
      → r.next ≡ value.next → AliasPlaced after prof ts f at u w (Ok r)
  alias_placed {prof} {r} {qs} f params value name p s e k n h q from form x a t b g =
      let tys = map type_param_of params.params.items in
      let one = placed_type_alias t (b ∙ ap (λ j. type_word form ∷ (Ident x ∷ seen ts j)) a) refl
      (read_from (seen ts) (sym a) p.part) s.is e in
      record {
        places = p.places ++ qs;
        fields = moved (seen ts)
            (λ y i m. PlacedFields prof (seen ts from) from y i m (stretch (from + 1) (from + 1 + 1) ∷ (p.places ++ qs)))
            (h ∙ ap (λ z. TypeAlias z tys (tree_of value.expr.value)) (n ∙ ap (λ z. Trees.Name z Store) (sym g))) q one;
        records = records_more p.records k;
      }

-- the terminals in front
pub record TypeAt (prof : Profile) (name : Identifier) (ts : List given.Terminal) (at : ℕ) : Type 0 where
  pub types : has_types prof ≡ true
  pub form : Identifier
  pub spelled : Spelled
  pub is : seen ts at ≡ type_word form ∷ (Ident spelled ∷ seen ts (at + 2))
  pub named : spelled.form ≡ name

-- an answer that tells the NAME and what stands after it
abbrev hit : Identifier → List Terminal → Answer Stmt
hit x r = Found (Trees.Global (x ∷ [])) r

pub type_stands : (prof : Profile) (name : Identifier) (ts : List given.Terminal) (at : ℕ) → HasTypeName prof name ts at
    → TypeAt prof name ts at
type_stands prof name ts at h = by (has_types prof) refl (seen ts at) refl (h.is hit NoForm)
  where
    same_name : (x y : Identifier) (r s : List Terminal) → hit x r ≡ hit y s → x ≡ y
    same_name x y r s q = cc

    same_rest : (x y : Identifier) (r s : List Terminal) → hit x r ≡ hit y s → r ≡ s
    same_rest x y r s q = cc

    following : (t : Terminal) (n : ℕ) (r : List Terminal) → has_types prof ≡ true → is_type t ≡ Some n → seen ts at ≡ t ∷ r
        → on_first name_in r hit NoForm ≡ hit name (seen ts (at + 2)) → TypeAt prof name ts at
    following t n [] b e i q = absurd (cc)
    following t n (Ident x ∷ r) b e i q =
        let w = type_is t n e in
        record {
          types = b;
          form = w.0;
          spelled = x;
          is = i ∙ (ap (λ z. z ∷ (Ident x ∷ r)) w.1
              ∙ ap (λ z. type_word w.0 ∷ (Ident x ∷ z)) (same_rest x.form name r (seen ts (at + 2)) q));
          named = same_name x.form name r (seen ts (at + 2)) q;
        }
    following t n (_ ∷ r) b e i q = absurd (cc)

    first : (i : List Terminal) → has_types prof ≡ true → seen ts at ≡ i
        → on_first is_type i (λ _ r. on_first name_in r hit NoForm) NoForm ≡ hit name (seen ts (at + 2)) → TypeAt prof name ts at
    first [] b e q = absurd (cc)
    first (t ∷ r) b e q = go (is_type t) refl q
      where
        go : (o : Option ℕ) → is_type t ≡ o → on_some o (λ _. on_first name_in r hit NoForm) NoForm ≡ hit name (seen ts (at + 2))
            → TypeAt prof name ts at
        go (Some n) f q = following t n r b f e q
        go None f q = absurd (cc)

    by : (b : Bool) → has_types prof ≡ b → (i : List Terminal) → seen ts at ≡ i
        → cond b (on_first is_type i (λ _ r. on_first name_in r hit NoForm) NoForm) NoForm ≡ hit name (seen ts (at + 2))
        → TypeAt prof name ts at
    by true b i e q = first i b e q
    by false b i e q = absurd (cc)
