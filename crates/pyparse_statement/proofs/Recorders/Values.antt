-- Statements that begin with a value, and statements one after the other.
--
-- Carries: values.rt, plain_statement, read_statements. On: Looks; Simple and Values of pyplaces.
use Rattle.std.proofs.Common.{◌≡◌, refl, sym, ap, subst, ◌∙◌, arith, ℕ, ◌+◌, List, [], ◌∷◌, ◌++◌, length, map, Some}
use Rattle.std.proofs.Common.{Bool, true, false}
use Rattle.std.proofs.Common.{append-nil, Result, Ok, Err}
use Rattle.std.specs.Prelude.{IfOk}
use Rattle.pylex_lexeme.specs.declared.kinds.Exact.{Exact}
use Rattle.pylex_lexeme.specs.declared.kinds.Exact.TheVariants.{Colon, Equal, Semi}
use Rattle.pytree_node.specs.declared.expressions.Expr as given_expr
use Rattle.pytree_node.specs.declared.operators.Context.TheVariants.{Store}
use Rattle.pytree_node.specs.declared.operators.Operator.{Operator}
use Rattle.pytree_node.specs.declared.profiles.Profile.{Profile}
use Rattle.pytree_node.specs.Trees
use Rattle.pytree_node.specs.Trees.{AnnAssign, Assign, AugAssign, Expr, ExprOf, Identifier, Stmt}
use Rattle.pytree_node.specs.TreeOf.{boxed_of, stmt_of, tree_of}
use Rattle.pytoken.specs.Terminals.{Ident, Op, Terminal}
use Rattle.pytoken.specs.declared.values.terminals.Terminal as given
use Rattle.pygrammar.specs.declared.levels.Level.TheVariants.{Expression, Value}
use Rattle.pygrammar.specs.Forms.{augmented, is_name}
use Rattle.pygrammar.specs.LineReader.{augmented_sign}
use Rattle.pygrammar.specs.Targets.{single_stored, stored}
use Rattle.pygrammar.proofs.Callers.Lines.{stored_name}
use Rattle.pyparse_nodes.specs.Answers.{Turned}
use Rattle.pyparse_nodes.specs.declared.found.Items.{Items}
use Rattle.pyparse_nodes.specs.declared.found.Optional.{Optional}
use Rattle.pyparse_nodes.specs.declared.found.Read.{Read}
use Rattle.pyparse_nodes.specs.declared.stop.Stop.{Stop}
use Rattle.pyparse_nodes.specs.Views.{IsNamed, IsNotNamed, Stands, first_is, seen}
use Rattle.pyplaces.specs.Placed.{Placed}
use Rattle.pyplaces.specs.PlacedForms.{PlacedAfter, PlacedFields, PlacedSimples, Semicolons}
use Rattle.pyplaces.specs.Recording.{Records}
use Rattle.pyplaces.specs.Stretches.{Stretch, stretch}
use Rattle.pyplaces.proofs.Answers.{records_more, records_node, records_none}
use Rattle.pyplaces.proofs.Forms.Parts.{Assigned, assigned_end, assigned_turn, no_target, targets}
use Rattle.pyplaces.proofs.Forms.Simple.{placed_annotated_group, placed_annotated_name, placed_annotated_part, placed_assign}
use Rattle.pyplaces.proofs.Forms.Simple.{placed_augmented_assign, placed_simple, placed_value, simples_end, simples_last, simples_some}
use Rattle.pyplaces.proofs.Forms.Simple.{simples_turn}
use Rattle.pyplaces.proofs.Forms.Values.{grouped_name, single_target, value_target}
use Rattle.pyplaces.proofs.Loops.{Grows, grows_start}
use Rattle.pyparse_reads.proofs.Callers.Looks.{some_first, placed_at}
use Rattle.pyparse_statement.specs.declared.statements.found.ReadStatement.{ReadStatement}
use Rattle.pyparse_statement.specs.declared.statements.found.ReadStatements.{ReadStatements}
use Rattle.pyparse_statement.specs.PlacedParts.{AfterPlaced}
use Rattle.pyparse_statement.specs.PlacedStatements.{AliasPlaced, AnnotationPlaced, FieldsAfter, FieldsPlaced, SimplesPlaced}
use Rattle.pyparse_statement.specs.PlacedStatements.{Targeted, TargetsPlaced, ValuePlaced, targeted, untargeted}
use Rattle.pyparse_statement.specs.Inner.Types.{HasTypeName}
use Rattle.pyparse_statement.proofs.Callers.Looks.{moved, not_named, recorded_more}
use Rattle.pyparse_statement.proofs.Recorders.Types.{type_stands}

-- whether there are targets
pub is_none : (items : Items) → length items.exprs.items ≡ 0 → map tree_of items.exprs.items ≡ []
is_none items h = go items.exprs.items h
  where
    go : (xs : List given_expr.Expr) → length xs ≡ 0 → map tree_of xs ≡ []
    go [] h = refl
    go (x ∷ xs) h = absurd (omega (arith, h))

pub is_filled : (items : Items) → (length items.exprs.items ≡ 0 → ⊥) → map tree_of items.exprs.items ≡ [] → ⊥
is_filled items f q = go items.exprs.items f q
  where
    go : (xs : List given_expr.Expr) → (length xs ≡ 0 → ⊥) → map tree_of xs ≡ [] → ⊥
    go [] f q = f refl
    go (x ∷ xs) f q = absurd (cc)

-- a sign of an augmented assignment
sign_of : (t : Terminal) (op : Operator) → augmented_sign t ≡ Some op → (z : Exact) × (t ≡ Op z) × (augmented z ≡ Some op)
sign_of (Op z) op h = (z, refl, h)
sign_of _ op h = absurd (cc)

-- none in front of a value
untargeted_is : {i r : List Terminal} {at m : ℕ} {ps : List Stretch} (es : List Expr) → es ≡ [] → Targeted i at es r m ps
    → (i ≡ r) × (at ≡ m) × (ps ≡ [])
untargeted_is es h untargeted = (refl, refl, refl)
untargeted_is es h (targeted c) = absurd (cc)

-- some in front of it
targeted_is : {prof : Profile} {i r s : List Terminal} {at m n : ℕ} {es : List Expr} {e : Expr} {ps qs : List Stretch}
    → (es ≡ [] → ⊥) → Targeted i at es r m ps → Placed Value r m e s n qs → PlacedFields prof i at (Assign es e) s n (ps ++ qs)
targeted_is f untargeted p = absurd (f refl)
targeted_is f (targeted c) p = placed_assign c p

-- as the loop has them
targets_before : {i r : List Terminal} {at m : ℕ} {es : List Expr} {ps : List Stretch} → Assigned i at es r m ps → Targeted i at es r m ps
targets_before no_target = untargeted
targets_before (targets c) = targeted c

-- with places that are recorded already
pub fields_joined : {S : Type 0} {after : S → Stretch → S} {ps : List Stretch} {u v : S} (ts : List given.Terminal) (prof : Profile)
    (at : ℕ) (w : S) (z : Result ReadStatement Stop) → Records after u ps v
    → IfOk z (FieldsAfter after prof ts at ps v w) → IfOk z (FieldsPlaced after prof ts at u w)
fields_joined {ps = ps} ts prof at w (Ok r) k p = record { places = ps ++ p.places; fields = p.fields; records = records_more k p.records }
fields_joined ts prof at w (Err o) k p = tt

module _ {S : Type 0} {after : S → Stretch → S} {ts : List given.Terminal} where
  -- the fields of a statement, which is this one, after places that are recorded already
  pub fields_after : {prof : Profile} {from n : ℕ} {r : ReadStatement} {y : Stmt} {qs : List Stretch} {u v : S} (ps : List Stretch)
      → stmt_of r.statement ≡ y → r.next ≡ n → PlacedFields prof (seen ts from) from y (seen ts n) n (ps ++ qs) → Records after u qs v
      → FieldsAfter after prof ts from ps u v r
  fields_after {prof} {from} {qs = qs} ps h q p k = record {
    places = qs;
    fields = moved (seen ts) (λ y s n. PlacedFields prof (seen ts from) from y s n (ps ++ qs)) h q p;
    records = k;
  }

  -- ---- Annotations.
  pub annotation_placed : {target : Expr} {simple : Bool} {at : ℕ} {u v w : S} {ps : List Stretch} {value : Optional} {r : ReadStatement}
      (e : Read) → Placed Expression (seen ts at) at (tree_of e.expr.value) (seen ts e.next) e.next ps → Records after u ps v
      → AfterPlaced after (Op Equal) Value ts e.next v w value
      → stmt_of r.statement ≡ AnnAssign target (tree_of e.expr.value) (boxed_of value.expr) simple → r.next ≡ value.next
      → AnnotationPlaced after target simple ts at u w r
  annotation_placed {ps = ps} {value} e p k b h q = record {
    places = ps;
    more = b.places;
    annotation = tree_of e.expr.value;
    value = boxed_of value.expr;
    next = e.next;
    statement = h;
    first = p;
    second = moved (seen ts) (λ o s n. PlacedAfter (Op Equal) Value (seen ts e.next) e.next o s n b.places) refl q b.part;
    records = records_more k b.records;
  }

  -- ---- Assignments, and expressions alone.
  pub augmented_placed : {u v : S} {qs : List Stretch} {value : Read} {op : Operator} {r : ReadStatement} (target right : Read)
      → Some op ≡ first_is augmented_sign (seen ts value.next) → Turned single_stored value target
      → Placed Value (seen ts (value.next + 1)) (value.next + 1) (tree_of right.expr.value) (seen ts right.next) right.next qs
      → Records after u qs v → stmt_of r.statement ≡ AugAssign (tree_of target.expr.value) op (tree_of right.expr.value)
      → r.next ≡ right.next → ValuePlaced after ts value u v (Ok r)
  augmented_placed {value = value} {op} target right s t q k h e prof at ps n p =
      let w = some_first augmented_sign op ts value.next s in
      let z = sign_of w.0 op w.2 in
      fields_after ps h e (placed_augmented_assign {z = z.0} (single_target p t.is) z.2
      (w.1 ∙ ap (λ x. x ∷ seen ts (value.next + 1)) z.1) q) k

module _ {S : Type 0} (after : S → Stretch → S) (u w : S) where
  -- of a NAME
  pub name_annotated : {ts : List given.Terminal} {at : ℕ} (prof : Profile) (v : S) (f : Identifier) (target : Read)
      (z : Result ReadStatement Stop)
      → IsNamed Colon f ts at → v ≡ after u (stretch at (at + 1)) → tree_of target.expr.value ≡ Trees.Name f Store
      → IfOk z (AnnotationPlaced after (tree_of target.expr.value) true ts (at + 2) v w) → IfOk z (FieldsPlaced after prof ts at u w)
  name_annotated {ts} {at} prof v f target (Ok r) s k t p =
      let ps : List Stretch = stretch at (at + 1) ∷ (p.places ++ p.more) in
      record {
        places = ps;
        fields = moved (seen ts) (λ y i n. PlacedFields prof (seen ts at) at y i n ps)
            (p.statement ∙ ap (λ e. AnnAssign e p.annotation p.value true) (t ∙ ap (λ x. Trees.Name x Store) (sym s.form))) refl
            (placed_annotated_name s.is p.first p.second);
        records = records_more (records_node k) p.records;
      }
  name_annotated prof v f target (Err o) s k t p = tt

  -- of another target: one in brackets where it is a Name
  pub value_annotated : {ts : List given.Terminal} (value target : Read) (z : Result ReadStatement Stop) → Stands (Op Colon) ts value.next
      → Turned single_stored value target → IfOk z (AnnotationPlaced after (tree_of target.expr.value) false ts (value.next + 1) u w)
      → ValuePlaced after ts value u w z
  value_annotated {ts} value target (Ok r) s t a prof at ps n p = go (is_name (tree_of target.expr.value)) refl
    where
      go : (b : Bool) → is_name (tree_of target.expr.value) ≡ b → FieldsAfter after prof ts at ps u w r
      go false k = fields_after ps a.statement refl (placed_annotated_part (single_target p t.is) k s.is a.first a.second) a.records
      go true k =
          let b : is_name (tree_of value.expr.value) ≡ true = stored_name (tree_of value.expr.value) (tree_of target.expr.value) t.is k in
          let g = grouped_name p t.is b (λ x q. not_named Colon ts at x (seen ts (value.next + 1)) n
          (q ∙ ap (λ r. Ident x ∷ r) s.is)) in
          fields_after ps a.statement refl
          (placed_annotated_group g.open_is g.target g.close_is s.is
          (placed_at (ap (λ m. m + 1) (sym g.ends)) a.first) a.second) a.records
  value_annotated value target (Err o) s t a prof at ps n p = tt

module _ {S : Type 0} (after : S → Stretch → S) (u : S) (ts : List given.Terminal) (targets : Items) (value : Read) where
  pub assign_placed : {r : ReadStatement} → (map tree_of targets.exprs.items ≡ [] → ⊥)
      → stmt_of r.statement ≡ Assign (map tree_of targets.exprs.items) (tree_of value.expr.value) → r.next ≡ value.next
      → TargetsPlaced after ts targets value u u (Ok r)
  assign_placed f h e prof at middle ps qs n g p =
      record {
        places = [];
        fields = moved (seen ts) (λ y i m. PlacedFields prof (seen ts at) at y i m ((ps ++ qs) ++ [])) h e
            (subst (λ l. PlacedFields prof (seen ts at) at (Assign (map tree_of targets.exprs.items) (tree_of value.expr.value))
            (seen ts value.next) value.next l) (sym (append-nil (ps ++ qs))) (targeted_is f g p));
        records = records_none;
      }

  alone_placed : (r : ReadStatement) → stmt_of r.statement ≡ ExprOf (tree_of value.expr.value)
      → r.next ≡ value.next → ValuePlaced after ts value u u (Ok r)
  alone_placed r h e prof at ps n p =
      fields_after ps h e (subst (λ l. PlacedFields prof (seen ts at) at (ExprOf (tree_of value.expr.value)) (seen ts value.next)
      value.next l) (sym (append-nil ps)) (placed_value p)) records_none

  -- with no targets in front
  pub no_targets : (v : S) (z : Result ReadStatement Stop) → map tree_of targets.exprs.items ≡ []
      → ValuePlaced after ts value u v z → TargetsPlaced after ts targets value u v z
  no_targets v z h f prof at middle ps qs n g p =
      let w = untargeted_is (map tree_of targets.exprs.items) h g in
      let q : Placed Value (seen ts at) at (tree_of value.expr.value) (seen ts value.next) value.next qs =
      placed_at (sym w.1) (subst (λ i. Placed Value i middle (tree_of value.expr.value) (seen ts value.next) value.next qs) (sym w.0) p) in
      subst (λ l. IfOk z (FieldsAfter after prof ts at l u v)) (sym (ap (λ l. l ++ qs) w.2)) (f prof at qs n q)

  pub value_alone : (r : ReadStatement) → map tree_of targets.exprs.items ≡ [] → stmt_of r.statement ≡ ExprOf (tree_of value.expr.value)
      → r.next ≡ value.next → TargetsPlaced after ts targets value u u (Ok r)
  value_alone r z h e = no_targets u (Ok r) z (alone_placed r h e)

-- how far they were read
pub record TargetsGrown {S : Type 0} (after : S → Stretch → S) (ts : List given.Terminal) (at : ℕ) (old new : S)
    (now : Items) : Type 0 where
  pub places : List Stretch
  pub grows : Grows Assigned (seen ts at) at (map tree_of now.exprs.items) (seen ts now.next) now.next places
  pub records : Records after old places new

module _ {S : Type 0} {after : S → Stretch → S} {ts : List given.Terminal} {at : ℕ} where
  pub targets_start : {items : Items} {u : S} → map tree_of items.exprs.items ≡ [] → items.next ≡ at → TargetsGrown after ts at u u items
  targets_start h q = record {
    places = [];
    grows = moved (seen ts) (λ es s n. Grows Assigned (seen ts at) at es s n []) h q grows_start;
    records = records_none;
  }

  pub targets_turn : {items next : Items} {u v w : S} {qs : List Stretch} (value target : Read) → TargetsGrown after ts at u v items
      → Placed Value (seen ts items.next) items.next (tree_of value.expr.value) (seen ts value.next) value.next qs → Records after v qs w
      → Stands (Op Equal) ts value.next → Turned stored value target
      → map tree_of next.exprs.items ≡ map tree_of items.exprs.items ++ (tree_of target.expr.value ∷ []) → next.next ≡ value.next + 1
      → TargetsGrown after ts at u w next
  targets_turn {qs = qs} value target g p k s t h q = record {
    places = g.places ++ qs;
    grows = moved (seen ts) (λ es i n. Grows Assigned (seen ts at) at es i n (g.places ++ qs)) h q
        (assigned_turn g.grows (value_target p t.is) s.is);
    records = records_more g.records k;
  }

  pub assignment_placed : {items : Items} {u v w : S} {qs : List Stretch} (x : S) (value : Read) (z : Result ReadStatement Stop)
      → TargetsGrown after ts at u v items
      → Placed Value (seen ts items.next) items.next (tree_of value.expr.value) (seen ts value.next) value.next qs → Records after v qs w
      → TargetsPlaced after ts items value w x z → (prof : Profile) → IsNotNamed Colon ts at → IfOk z (FieldsPlaced after prof ts at u x)
  assignment_placed {items} {qs = qs} x value z g p k f prof n = fields_joined ts prof at x z (records_more g.records k)
      (f prof at items.next g.places qs n (targets_before (assigned_end g.grows)) p)

-- ---- The statement `type`, after its word and its NAME.
pub type_placed : {S : Type 0} (after : S → Stretch → S) (u v w : S) {ts : List given.Terminal} {at : ℕ} (prof : Profile)
    (name : Identifier) (z : Result ReadStatement Stop) → HasTypeName prof name ts at
    → v ≡ after u (stretch (at + 1) (at + 2)) → AliasPlaced after prof ts name (at + 2) v w z → IfOk z (FieldsPlaced after prof ts at u w)
type_placed after u v w {ts} {at} prof name z h k f =
    let t = type_stands prof name ts at h in
    let two : at + 2 ≡ at + 1 + 1 = omega arith in
    fields_joined ts prof at w z (records_node (k ∙ ap (λ n. after u (stretch (at + 1) n)) two))
    (f at t.form t.spelled two t.types t.is t.named)

-- ---- Statements one after the other.
pub record SimplesGrown {S : Type 0} (after : S → Stretch → S) (prof : Profile) (ts : List given.Terminal) (at : ℕ) (old new : S)
    (xs : List Stmt) (next : ℕ) : Type 0 where
  pub places : List Stretch
  pub grows : Grows (Semicolons prof) (seen ts at) at xs (seen ts next) next places
  pub records : Records after old places new

simples_ended : {prof : Profile} {i r : List Terminal} {at n : ℕ} {ps : List Stretch} (xs : List Stmt) (x : Stmt)
    → Semicolons prof i at (xs ++ (x ∷ [])) r n ps → PlacedSimples prof i at (xs ++ (x ∷ [])) r n ps
simples_ended [] x c = simples_some c
simples_ended (y ∷ xs) x c = simples_some c

module _ {S : Type 0} {after : S → Stretch → S} {prof : Profile} {ts : List given.Terminal} {at : ℕ} where
  pub simples_start : {xs : List Stmt} {u : S} → xs ≡ [] → SimplesGrown after prof ts at u u xs at
  simples_start h = record {
    places = [];
    grows = moved (seen ts) (λ ss s n. Grows (Semicolons prof) (seen ts at) at ss s n []) h refl grows_start;
    records = records_none;
  }

  module _ {xs : List Stmt} {n : ℕ} {u v w x : S} (one : ReadStatement) (g : SimplesGrown after prof ts at u v xs n)
      (d : FieldsPlaced after prof ts n v w one) (k : x ≡ after w (stretch n one.next)) where
    pub run_turn : {ys : List Stmt} {next : ℕ} → ys ≡ xs ++ (stmt_of one.statement ∷ []) → Stands (Op Semi) ts one.next
        → next ≡ one.next + 1 → SimplesGrown after prof ts at u x ys next
    run_turn h s q = record {
      places = g.places ++ (d.places ++ (stretch n one.next ∷ []));
      grows = moved (seen ts) (λ ss i m. Grows (Semicolons prof) (seen ts at) at ss i m
          (g.places ++ (d.places ++ (stretch n one.next ∷ [])))) h q (simples_turn g.grows (placed_simple d.fields) s.is);
      records = recorded_more g.records d.records k;
    }

    module _ {next : ReadStatements} (h : map stmt_of next.statements.items ≡ xs ++ (stmt_of one.statement ∷ [])) where
      pub run_last : next.next ≡ one.next → SimplesPlaced after prof ts at u x next
      run_last q = record {
        places = g.places ++ (d.places ++ (stretch n one.next ∷ []));
        simples = moved (seen ts) (λ ss i m. PlacedSimples prof (seen ts at) at ss i m
            (g.places ++ (d.places ++ (stretch n one.next ∷ [])))) h q
            (simples_ended xs (stmt_of one.statement) (simples_last g.grows (placed_simple d.fields)));
        records = recorded_more g.records d.records k;
      }

      pub run_end : Stands (Op Semi) ts one.next → next.next ≡ one.next + 1 → SimplesPlaced after prof ts at u x next
      run_end s q = record {
        places = g.places ++ (d.places ++ (stretch n one.next ∷ []));
        simples = moved (seen ts) (λ ss i m. PlacedSimples prof (seen ts at) at ss i m
            (g.places ++ (d.places ++ (stretch n one.next ∷ [])))) h q
            (simples_ended xs (stmt_of one.statement) (simples_end (simples_turn g.grows (placed_simple d.fields) s.is)));
        records = recorded_more g.records d.records k;
      }
