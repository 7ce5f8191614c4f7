-- Simple statements.
--
-- Carries: values.rt, assignments.rt, simple.rt, statements.rt. On: Fronts, Loops.
use Rattle.std.proofs.Common.{◌≡◌, refl, sym, ap, ◌∙◌, ℕ, ◌+◌, ◌<◌, arith, List, [], ◌∷◌, ◌++◌, Option, Some, None, true, false}
use Rattle.std.proofs.lemmas.List.{append-nil}
use Rattle.pylex_lexeme.specs.declared.kinds.Exact.{Exact}
use Rattle.pylex_lexeme.specs.declared.kinds.Exact.TheVariants as Sign
use Rattle.pytoken.specs.declared.keywords.Keyword.TheVariants as Key
use Rattle.pytree_node.specs.declared.operators.Operator.{Operator}
use Rattle.pytree_node.specs.declared.operators.Context.TheVariants.{Store}
use Rattle.pytree_node.specs.declared.profiles.Profile.{Profile}
use Rattle.pytree_node.specs.Profiles.{has_types}
use Rattle.pygrammar.specs.declared.levels.Level.TheVariants.{Value, Stars, Expression}
use Rattle.pytree_node.specs.Trees.{Expr, Identifier, Stmt, Alias}
use Rattle.pytree_node.specs.Trees.{TypeParam, Return, Delete, Assign, TypeAlias, AugAssign, AnnAssign}
use Rattle.pytree_node.specs.Trees.{Raise, Assert, Import, ImportFrom, Global, Nonlocal, ExprOf, Pass, Break, Continue}
use Rattle.pytree_node.specs.Trees as Trees
use Rattle.pytoken.specs.Terminals.{Terminal, Spelled, Op, Word, Ident}
use Rattle.pygrammar.specs.Grammar.{DelTarget}
use Rattle.pygrammar.specs.Forms as F
use Rattle.pygrammar.specs.Forms.{type_word, augmented, is_name}
use Rattle.pyplaces.specs.Stretches.{Stretch, stretch}
use Rattle.pyplaces.specs.ExpressionPlaces.{del_target_places}
use Rattle.pyplaces.specs.FormPlaces.{dotted_alias_places}
use Rattle.pyplaces.specs.Placed.{Placed, PlacedSingleTarget}
use Rattle.pyplaces.specs.PlacedForms.{Bare, PlacedOptional, PlacedAfter, PlacedCommas, PlacedEnded}
use Rattle.pyplaces.specs.PlacedForms.{PlacedTypeParams, PlacedNames, PlacedTargets}
use Rattle.pyplaces.specs.PlacedForms.{PlacedFields, PlacedSimple, PlacedSimples, Semicolons, line_ends, simples}
use Rattle.pyplaces.proofs.Fronts.{nothing, sign, signs, both, front_of, from, built, ◌⊕◌, own, reaches}
use Rattle.pyplaces.proofs.Loops.{Grows, grows_turn, grows_end}

-- ---- The places of the fields of a statement.
pub placed_value : {prof : Profile} {i r : List Terminal} {at following : ℕ} {e : Expr} {ps : List Stretch} → Placed Value i at e r following ps
    → PlacedFields prof i at (ExprOf e) r following ps
placed_value p = built (front_of p) (F.value p.derived) p.places_are

pub placed_assign : {prof : Profile} {i r s : List Terminal} {at m following : ℕ} {e : Expr} {es : List Expr} {ps qs : List Stretch}
    → PlacedTargets i at es r m ps → Placed Value r m e s following qs → PlacedFields prof i at (Assign es e) s following (ps ++ qs)
placed_assign c p = built (both (front_of c) (front_of p)) (F.assign c.derived p.derived) (c.places_are ⊕ from p c.ends)

pub placed_augmented_assign : {prof : Profile} {z : Exact} {op : Operator} {i r s u : List Terminal} {at m following : ℕ}
    {a e : Expr} {ps qs : List Stretch}
    → PlacedSingleTarget i at a r m ps → augmented z ≡ Some op → r ≡ Op z ∷ s → Placed Value s (m + 1) e u following qs
    → PlacedFields prof i at (AugAssign a op e) u following (ps ++ qs)
placed_augmented_assign {z = z} p q h v = built (both (front_of p) (sign h (front_of v))) (F.augmented_assign z p.derived q v.derived)
    (p.places_are ⊕ from v (omega (arith, p.ends)))

pub placed_annotated_name : {prof : Profile} {x : Spelled} {i r s u : List Terminal} {at m following : ℕ} {a : Expr}
    {ps qs : List Stretch} {eo : Option Expr}
    → i ≡ Ident x ∷ (Op Sign.Colon ∷ r) → Placed Expression r (at + 2) a s m ps → PlacedAfter (Op Sign.Equal) Value s m eo u following qs
    → PlacedFields prof i at (AnnAssign (Trees.Name x.form Store) a eo true) u following (stretch at (at + 1) ∷ (ps ++ qs))
placed_annotated_name {at = at} h p q = built (signs h (both (front_of p) (front_of q))) (F.annotated_name p.derived q.derived)
    (ap (λ z. stretch at (at + 1) ∷ z) (from p (omega arith) ⊕ from q (omega (arith, p.ends))))

pub placed_annotated_group : {prof : Profile} {i r s u v w x1 : List Terminal} {at m n following : ℕ} {b a : Expr}
    {ps qs ws : List Stretch} {eo : Option Expr}
    → i ≡ Op Sign.LPar ∷ r → PlacedSingleTarget r (at + 1) b s m ps → s ≡ Op Sign.RPar ∷ u → u ≡ Op Sign.Colon ∷ v
    → Placed Expression v (m + 1 + 1) a w n qs → PlacedAfter (Op Sign.Equal) Value w n eo x1 following ws
    → PlacedFields prof i at (AnnAssign b a eo false) x1 following (ps ++ (qs ++ ws))
placed_annotated_group h t k y p q = built (sign h (both (front_of t) (sign k (sign y (both (front_of p) (front_of q))))))
    (F.annotated_group t.derived p.derived q.derived)
    (from t (omega arith) ⊕ from p (omega (arith, t.ends)) ⊕ from q (omega (arith, t.ends, p.ends)))

pub placed_annotated_part : {prof : Profile} {i r s u v : List Terminal} {at m n following : ℕ} {b a : Expr}
    {ps qs ws : List Stretch} {eo : Option Expr}
    → PlacedSingleTarget i at b r m ps → is_name b ≡ false → r ≡ Op Sign.Colon ∷ s → Placed Expression s (m + 1) a u n qs
    → PlacedAfter (Op Sign.Equal) Value u n eo v following ws → PlacedFields prof i at (AnnAssign b a eo false) v following (ps ++ (qs ++ ws))
placed_annotated_part t k h p q = built (both (front_of t) (sign h (both (front_of p) (front_of q))))
    (F.annotated_part t.derived k p.derived q.derived)
    (t.places_are ⊕ from p (omega (arith, t.ends)) ⊕ from q (omega (arith, t.ends, p.ends)))

pub placed_type_alias : {prof : Profile} {x : Spelled} {i r s u v w : List Terminal} {at m following : ℕ} {e : Expr} {ps qs : List Stretch}
    {y : Identifier} {tys : List TypeParam}
    → has_types prof ≡ true → i ≡ type_word y ∷ r → r ≡ Ident x ∷ s → PlacedTypeParams prof s (at + 1 + 1) tys u m ps
    → u ≡ Op Sign.Equal ∷ v → Placed Expression v (m + 1) e w following qs
    → PlacedFields prof i at (TypeAlias (Trees.Name x.form Store) tys e) w following (stretch (at + 1) (at + 1 + 1) ∷ (ps ++ qs))
placed_type_alias {at = at} q h k c y p = built (sign h (sign k (both (front_of c) (sign y (front_of p)))))
    (F.type_alias q c.derived p.derived)
    (reaches (omega arith) (omega arith) ⊕ from c (omega arith) ⊕ from p (omega (arith, c.ends)))

pub placed_return : {prof : Profile} {i r s : List Terminal} {at following : ℕ} {ps : List Stretch} {eo : Option Expr}
    → i ≡ Word Key.Return ∷ r → PlacedOptional Stars r (at + 1) eo s following ps → PlacedFields prof i at (Return eo) s following ps
placed_return h p = built (sign h (front_of p)) (F.return_of p.derived) (from p (omega arith))

pub placed_raise_alone : {prof : Profile} {i r : List Terminal} {at : ℕ} → i ≡ Word Key.Raise ∷ r
    → PlacedFields prof i at (Raise None None) r (at + 1) []
placed_raise_alone h = built (sign h nothing) F.raise_alone refl

pub placed_raise : {prof : Profile} {i r s u : List Terminal} {at m following : ℕ} {e : Expr} {ps qs : List Stretch} {eo : Option Expr}
    → i ≡ Word Key.Raise ∷ r → Placed Expression r (at + 1) e s m ps → PlacedAfter (Word Key.From) Expression s m eo u following qs
    → PlacedFields prof i at (Raise (Some e) eo) u following (ps ++ qs)
placed_raise h p q = built (sign h (both (front_of p) (front_of q))) (F.raise_of p.derived q.derived)
    (from p (omega arith) ⊕ from q (omega (arith, p.ends)))

pub placed_assert : {prof : Profile} {i r s u : List Terminal} {at m following : ℕ} {e : Expr} {ps qs : List Stretch} {eo : Option Expr}
    → i ≡ Word Key.Assert ∷ r → Placed Expression r (at + 1) e s m ps → PlacedAfter (Op Sign.Comma) Expression s m eo u following qs
    → PlacedFields prof i at (Assert e eo) u following (ps ++ qs)
placed_assert h p q = built (sign h (both (front_of p) (front_of q))) (F.assert_of p.derived q.derived)
    (from p (omega arith) ⊕ from q (omega (arith, p.ends)))

pub placed_delete : {prof : Profile} {i r s : List Terminal} {at following : ℕ} {es : List Expr} {ps : List Stretch} → i ≡ Word Key.Del ∷ r
    → PlacedEnded Expr DelTarget (λ ts a. del_target_places) r (at + 1) es s following ps → PlacedFields prof i at (Delete es) s following ps
placed_delete h c = built (sign h (front_of c)) (F.delete c.derived) (from c (omega arith))

pub placed_global : {prof : Profile} {i r s : List Terminal} {at following : ℕ} {names : List Identifier} → i ≡ Word Key.Global ∷ r
    → Bare (λ ts. F.Commas Identifier F.Name ts names) r (at + 1) s following → PlacedFields prof i at (Global names) s following []
placed_global h c = built (sign h (front_of c)) (F.global c.derived) refl

pub placed_nonlocal : {prof : Profile} {i r s : List Terminal} {at following : ℕ} {names : List Identifier} → i ≡ Word Key.Nonlocal ∷ r
    → Bare (λ ts. F.Commas Identifier F.Name ts names) r (at + 1) s following → PlacedFields prof i at (Nonlocal names) s following []
placed_nonlocal h c = built (sign h (front_of c)) (F.nonlocal c.derived) refl

pub placed_pass : {prof : Profile} {i r : List Terminal} {at : ℕ} → i ≡ Word Key.Pass ∷ r → PlacedFields prof i at Pass r (at + 1) []
placed_pass h = built (sign h nothing) F.pass refl

pub placed_break : {prof : Profile} {i r : List Terminal} {at : ℕ} → i ≡ Word Key.Break ∷ r → PlacedFields prof i at Break r (at + 1) []
placed_break h = built (sign h nothing) F.break refl

pub placed_continue : {prof : Profile} {i r : List Terminal} {at : ℕ} → i ≡ Word Key.Continue ∷ r
    → PlacedFields prof i at Continue r (at + 1) []
placed_continue h = built (sign h nothing) F.continue refl

pub placed_import : {prof : Profile} {i r s : List Terminal} {at following : ℕ} {ps : List Stretch} {als : List Alias}
    → i ≡ Word Key.Import ∷ r → PlacedCommas Alias F.DottedAlias (λ ts a. dotted_alias_places) r (at + 1) als s following ps
    → PlacedFields prof i at (Import als) s following ps
placed_import h c = built (sign h (front_of c)) (F.import_names c.derived) (from c (omega arith))

pub placed_from_module : {prof : Profile} {i r s u v w : List Terminal} {k at m n following : ℕ} {ps : List Stretch}
    {y : Identifier} {als : List Alias}
    → i ≡ Word Key.From ∷ r → Bare (λ ts. F.Dots ts k) r (at + 1) s m → Bare (λ ts. F.Dotted ts y) s m u n → u ≡ Word Key.Import ∷ v
    → PlacedNames v (n + 1) als w following ps → PlacedFields prof i at (ImportFrom (Some y) als k) w following ps
placed_from_module h d p y c = built (sign h (both (front_of d) (both (front_of p) (sign y (front_of c)))))
    (F.from_module d.derived p.derived c.derived)
    (from c (omega (arith, d.ends, p.ends)))

pub placed_from_dots : {prof : Profile} {i r s u v : List Terminal} {k at m following : ℕ} {ps : List Stretch} {als : List Alias}
    → i ≡ Word Key.From ∷ r → Bare (λ ts. F.Dots ts k) r (at + 1) s m → 0 < k → s ≡ Word Key.Import ∷ u
    → PlacedNames u (m + 1) als v following ps → PlacedFields prof i at (ImportFrom None als k) v following ps
placed_from_dots h d q y c = built (sign h (both (front_of d) (sign y (front_of c)))) (F.from_dots d.derived q c.derived)
    (from c (omega (arith, d.ends)))

-- ---- Statements in a line.
pub placed_simple : {prof : Profile} {i r : List Terminal} {at following : ℕ} {ps : List Stretch} {st : Stmt}
    → PlacedFields prof i at st r following ps → PlacedSimple prof i at st r following (ps ++ (stretch at following ∷ []))
placed_simple p = built (front_of p) p.derived (p.places_are ⊕ own p.ends)

pub placed_last_simple : {prof : Profile} {i r : List Terminal} {at following : ℕ} {ps : List Stretch} {st : Stmt}
    → PlacedSimple prof i at st r following ps → PlacedSimples prof i at (st ∷ []) r following ps
placed_last_simple p = built (front_of p) (F.last_simple p.derived) p.places_are

pub placed_more_simples : {prof : Profile} {i r s u : List Terminal} {at m following : ℕ} {ps qs : List Stretch} {st : Stmt} {sts : List Stmt}
    → PlacedSimple prof i at st r m ps → r ≡ Op Sign.Semi ∷ s → PlacedSimples prof s (m + 1) sts u following qs
    → PlacedSimples prof i at (st ∷ sts) u following (ps ++ qs)
placed_more_simples p h c = built (both (front_of p) (sign h (front_of c))) (F.more_simples p.derived c.derived)
    (p.places_are ⊕ from c (omega (arith, p.ends)))

pub simples_more : {prof : Profile} {i r s u : List Terminal} {at m following : ℕ} {ps qs : List Stretch} {st : Stmt} {sts : List Stmt}
    → PlacedSimple prof i at st r m ps → r ≡ Op Sign.Semi ∷ s → Semicolons prof s (m + 1) sts u following qs
    → Semicolons prof i at (st ∷ sts) u following (ps ++ qs)
simples_more {ps = ps} p h line_ends =
    simples (built (both (front_of p) (sign h nothing)) (F.ended_simple p.derived) (p.places_are ∙ sym (append-nil ps)))
simples_more p h (simples c) = simples (placed_more_simples p h c)

pub simples_turn : {prof : Profile} {i r s u : List Terminal} {at m n : ℕ} {ps qs : List Stretch} {st : Stmt} {sts : List Stmt}
    → Grows (Semicolons prof) i at sts r m ps → PlacedSimple prof r m st s n qs → s ≡ Op Sign.Semi ∷ u
    → Grows (Semicolons prof) i at (sts ++ (st ∷ [])) u (n + 1) (ps ++ qs)
simples_turn {qs = qs} {st = st} g p h = grows_turn (st ∷ []) qs g (λ fs s next ws c. simples_more p h c)

pub simples_end : {prof : Profile} {i r : List Terminal} {at m : ℕ} {ps : List Stretch} {sts : List Stmt}
    → Grows (Semicolons prof) i at sts r m ps → Semicolons prof i at sts r m ps
simples_end g = grows_end g line_ends

pub simples_last : {prof : Profile} {i r s : List Terminal} {at m n : ℕ} {ps qs : List Stretch} {st : Stmt} {sts : List Stmt}
    → Grows (Semicolons prof) i at sts r m ps → PlacedSimple prof r m st s n qs → Semicolons prof i at (sts ++ (st ∷ [])) s n (ps ++ qs)
simples_last {st = st} g p = g.so (st ∷ []) _ _ _ (simples (placed_last_simple p))

pub simples_some : {prof : Profile} {i r : List Terminal} {at m : ℕ} {ps : List Stretch} {st : Stmt} {sts : List Stmt}
    → Semicolons prof i at (st ∷ sts) r m ps → PlacedSimples prof i at (st ∷ sts) r m ps
simples_some (simples c) = c
