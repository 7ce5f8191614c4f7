-- Where a statement `type` begins.
--
-- Carries: is_type, type_name_at. On: LineReader.
use Rattle.std.proofs.Common.{◌≡◌, refl, sym, ap, ◌∙◌, subst, arith, ℕ, ◌+◌, ◌<◌, List, Option, Some, None, true, false, length, is_some}
use Rattle.pytree_node.specs.declared.profiles.Version.{Version}
use Rattle.pytree_node.specs.declared.profiles.Version.TheVariants.{Py311, Py312}
use Rattle.pytree_node.specs.declared.profiles.Profile.{Profile}
use Rattle.pytree_node.specs.Profiles.{plain_312, python}
use Rattle.pytree_node.specs.Trees.{Identifier, Stmt}
use Rattle.pytoken.specs.Terminals.{Terminal}
use Rattle.pytoken.specs.declared.values.terminals.Terminal as given
use Rattle.pygrammar.specs.LineReader.{is_type, on_type}
use Rattle.pygrammar.specs.Looks.{name_in}
use Rattle.pygrammar.specs.Reader.{Answer, on_first}
use Rattle.pyparse_nodes.specs.Views.{first_is, seen}
use Rattle.pyparse_reads.proofs.Callers.Looks.{first_hit, first_miss, seen_next}
use Rattle.pyparse_statement.specs.Inner.Types.{HasNoTypeName, HasTypeName}
use Rattle.pyparse_statement.proofs.Callers.Parts.{name_next}

-- a version without types has none
pub no_types : (profile : Profile) (ts : List given.Terminal) (at : ℕ) → profile.version ≡ Py311 → HasNoTypeName profile ts at
no_types profile ts at is = subst (λ (v : Version). HasNoTypeName (python v profile.extent) ts at) (sym is)
    (record { is = λ hit miss. refl })

-- one with types has what Python 3.12 has, in either extent
pub newer_name : (profile : Profile) (x : Identifier) (ts : List given.Terminal) (at : ℕ) → profile.version ≡ Py312
    → HasTypeName plain_312 x ts at → HasTypeName profile x ts at
newer_name profile x ts at is w = subst (λ (v : Version). HasTypeName (python v profile.extent) x ts at) (sym is)
    (record { within = w.within; is = w.is })

pub newer_none : (profile : Profile) (ts : List given.Terminal) (at : ℕ) → profile.version ≡ Py312 → HasNoTypeName plain_312 ts at
    → HasNoTypeName profile ts at
newer_none profile ts at is w = subst (λ (v : Version). HasNoTypeName (python v profile.extent) ts at) (sym is) (record { is = w.is })

some_of : (o : Option ℕ) → true ≡ is_some o → (n : ℕ) × (Some n ≡ o)
some_of (Some n) h = (n, refl)
some_of None h = absurd (cc)

none_of : (o : Option ℕ) → false ≡ is_some o → None ≡ o
none_of None h = refl
none_of (Some n) h = absurd (cc)

module _ (ts : List given.Terminal) (at : ℕ) where
  abbrev following : (Identifier → List Terminal → Answer Stmt) → Answer Stmt → List Terminal → Answer Stmt
  following hit miss r = on_first name_in r hit miss

  -- `type` stands at the place, whatever is after it
  typed : (hit : Identifier → List Terminal → Answer Stmt) (miss : Answer Stmt) → true ≡ is_some (first_is is_type (seen ts at))
      → on_type plain_312 (seen ts at) hit miss ≡ on_first name_in (seen ts (at + 1)) hit miss
  typed hit miss b =
      let w = some_of (first_is is_type (seen ts at)) b in
      first_hit is_type (seen ts at) w.0 (λ _ r. following hit miss r) miss w.1 ∙ ap (following hit miss) (seen_next ts at)

  pub type_found : (x : Identifier) → true ≡ is_some (first_is is_type (seen ts at)) → Some x ≡ first_is name_in (seen ts (at + 1))
      → at + 1 < length ts → HasTypeName plain_312 x ts at
  type_found x b g l = record {
    within = l;
    is = λ hit miss. typed hit miss b ∙ name_next ts (at + 1) x hit miss g ∙ ap (λ n. hit x (seen ts n)) two;
  }
    where
      two : at + 1 + 1 ≡ at + 2
      two = omega arith

  pub type_other : false ≡ is_some (first_is is_type (seen ts at)) → HasNoTypeName plain_312 ts at
  type_other b = record {
    is = λ hit miss. first_miss is_type (seen ts at) (λ _ r. following hit miss r) miss
        (none_of (first_is is_type (seen ts at)) b);
  }

  pub type_alone : true ≡ is_some (first_is is_type (seen ts at)) → None ≡ first_is name_in (seen ts (at + 1))
      → HasNoTypeName plain_312 ts at
  type_alone b g = record { is = λ hit miss. typed hit miss b ∙ first_miss name_in (seen ts (at + 1)) hit miss g }
