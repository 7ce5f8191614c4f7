-- Simple statements.
--
-- Carries: statement_goes, statements_goes, for LineForms. On: ValueForms, LineParts.
use Rattle.std.proofs.Common.{◌≡◌, refl, sym, ap, ◌∙◌, ℕ, suc, ◌+◌, ◌≤◌, ◌<◌, arith, List, [], ◌∷◌, ◌++◌, length, append_assoc}
use Rattle.std.proofs.Common.{length-append}
use Rattle.std.proofs.Common.{Option, Some, false, append-nil}
use Rattle.std.proofs.lemmas.Bool.{lt-leb}
use Rattle.pylex_lexeme.specs.declared.kinds.Exact.{Exact}
use Rattle.pylex_lexeme.specs.declared.kinds.Exact.TheVariants as Sign
use Rattle.pytoken.specs.declared.keywords.Keyword.TheVariants as Key
use Rattle.pytree_node.specs.declared.profiles.Profile.{Profile}
use Rattle.pytree_node.specs.declared.operators.Operator.{Operator}
use Rattle.pytree_node.specs.Trees.{Expr, Identifier, Stmt, Alias}
use Rattle.pytoken.specs.Terminals.{Spelled, Terminal, Op, Word, Ident}
use Rattle.pygrammar.specs.declared.levels.Level.TheVariants.{Value, Stars, Expression}
use Rattle.pygrammar.specs.Forms as F
use Rattle.pygrammar.specs.Grammar as G
use Rattle.pyplaces.specs.Stretches.{Stretch, over}
use Rattle.pyplaces.specs.ExpressionPlaces.{places, single_target_places, del_target_places}
use Rattle.pyplaces.specs.FormPlaces.{perhaps_places, after_places, names_places, field_places, simple_places, simples_places}
use Rattle.pyplaces.specs.FormPlaces.{dotted_alias_places, name_alias_places}
use Rattle.pyplaces.specs.Inner.Looks.{grip, grip_of, lead_of, mark, mark_of}
use Rattle.pyplaces.specs.Inner.ExpressionSteps.{Goes}
use Rattle.pyplaces.specs.Inner.LineSteps.{alias_rest, names_read, dots_step, values_read, fields_read, is_end}
use Rattle.pyplaces.specs.Inner.Questions
use Rattle.pyplaces.specs.Inner.Questions.{Perhaps, Dots, Valued, Statement, Statements, AnAlias, ADotted, ADeleted, AName}
use Rattle.pyplaces.specs.Inner.Questions.{Reading, Ask}
use Rattle.pyplaces.specs.Inner.Steps.{here, on}
use Rattle.pyplaces.proofs.Unique.Leading.{Comes, via, from, to, untrue, is_true}
use Rattle.pyplaces.proofs.Unique.LookLemmas.{lead_front, starts_of, starts_low}
use Rattle.pyplaces.proofs.Unique.Led.{led}
use Rattle.pyplaces.proofs.Unique.Levels.{value_stops, Reads}
use Rattle.pyplaces.proofs.Unique.Answered.{Answers, counted, shaped, PerhapsStops}
use Rattle.pyplaces.proofs.Unique.Forms.{nothing_goes, something_goes}
use Rattle.pyplaces.proofs.Unique.PatternLooks.{miss_mark}
use Rattle.pyplaces.proofs.Unique.LineParts.{after_marked, after_gripped, after_grip, module_reads, commas_reads, ended_reads}
use Rattle.pyplaces.proofs.Unique.LineParts.{alias_reads}
use Rattle.pyplaces.proofs.Unique.LineParts.{alias_begins, dotted_alias_reads, dotted_alias_begins, deleted_reads, deleted_begins}
use Rattle.pyplaces.proofs.Unique.LineParts.{no_places}
use Rattle.pyplaces.proofs.Unique.LineParts.{name_reads, name_begins, type_params_reads}
use Rattle.pyplaces.proofs.Unique.ValueForms.{EndStops, primary_value, group_value, two, two_names, valued_last, targets_goes}
use Rattle.pyplaces.proofs.Unique.ValueForms.{targets_two, targets_led}
use Rattle.pyplaces.proofs.Unique.ValueForms.{annotation_goes, value_name}
use Rattle.pyplaces.proofs.Unique.Operators.{same_true}
use Rattle.pyplaces.proofs.Unique.Expressions.{goes}

-- ---- What begins as a Value does.

value_front : (i : List Terminal) (at : ℕ) (k : Goes) → 0 < lead_of i → fields_read at i k ≡ values_read at i k
value_front [] at k h = absurd (omega (arith, h))
value_front (Word Key.Return ∷ r) at k h = absurd (omega (arith, h))
value_front (Word Key.Raise ∷ r) at k h = absurd (omega (arith, h))
value_front (Word Key.Assert ∷ r) at k h = absurd (omega (arith, h))
value_front (Word Key.Del ∷ r) at k h = absurd (omega (arith, h))
value_front (Word Key.Global ∷ r) at k h = absurd (omega (arith, h))
value_front (Word Key.Nonlocal ∷ r) at k h = absurd (omega (arith, h))
value_front (Word Key.Pass ∷ r) at k h = absurd (omega (arith, h))
value_front (Word Key.Break ∷ r) at k h = absurd (omega (arith, h))
value_front (Word Key.Continue ∷ r) at k h = absurd (omega (arith, h))
value_front (Word Key.Import ∷ r) at k h = absurd (omega (arith, h))
value_front (Word Key.From ∷ r) at k h = absurd (omega (arith, h))
value_front (Word _ ∷ r) at k h = refl
value_front (_ ∷ r) at k h = refl

as_value : (i : List Terminal) (at : ℕ) (k : Goes) {c : Reading} → 0 < lead_of i → two i ≡ false → Comes (Ask Valued at i k) c
    → Comes (fields_read at i k) c
as_value i at k l t p = from (value_front i at k l) (untrue _ t p)

-- ---- Imports.

names_front : {ts : List Terminal} {as_ : List Alias} → F.Commas Alias F.NameAlias ts as_ → (at : ℕ) (r : List Terminal) (k : Goes)
    → names_read at (ts ++ r) k ≡ Ask (Questions.Commaed AnAlias) at (ts ++ r) k
names_front (F.alone (F.name_as a)) at r k = refl
names_front (F.comma (F.name_as a) c) at r k = refl

ends_element : (rest : List Terminal) → EndStops rest → (grip_of rest ≤ 8) × (mark_of rest ≤ 6) × Unit {0}
ends_element rest s = (omega (arith, s.0), omega (arith, s.2), tt)

names_goes : {ts : List Terminal} {as_ : List Alias} (c : F.Names ts as_) (at : ℕ) (rest : List Terminal) (k : Goes) → EndStops rest
    → Comes (names_read at (ts ++ rest) k) (k (names_places at c) (length ts) rest)
names_goes F.all_names at rest k s = here
names_goes (F.names c) at rest k s = from (names_front c at rest k)
    (commas_reads AnAlias Alias F.NameAlias (λ ts a. name_alias_places) alias_reads alias_begins c at rest k
    (ends_element rest s, λ e. omega (arith, e, s.2)))
names_goes (F.bracketed_names {ts = ts} c) at rest k s =
    from (ap (λ z. names_read at (Op Sign.LPar ∷ z) k) (append_assoc ts (Op Sign.RPar ∷ []) rest))
    (via (ended_reads AnAlias Alias F.NameAlias (λ ts a. name_alias_places) alias_reads alias_begins c (1 + at) (Op Sign.RPar ∷ rest) _
    ((omega arith, omega arith, tt), λ q. absurd (omega (arith, q)), refl))
    (counted k rest (omega (arith, length-append ts (Op Sign.RPar ∷ [])))))

-- what is no dot
abbrev NoDot : List Terminal → Type 0
NoDot (Ident x ∷ r) = Unit {0}
NoDot (Word w ∷ r) = Unit {0}
NoDot _ = ⊥

dots_end : (at : ℕ) (r : List Terminal) (k : Goes) → NoDot r → dots_step at r k ≡ k [] 0 r
dots_end at (Ident x ∷ r) k n = refl
dots_end at (Word w ∷ r) k n = refl
dots_end at [] k n = absurd n
dots_end at (_ ∷ r) k n = absurd n

dots_goes : {ts : List Terminal} {n : ℕ} → F.Dots ts n → Answers Dots ts (λ at. []) NoDot
dots_goes F.no_dot at rest k s = on (from (dots_end at rest k s) here)
dots_goes (F.dot {ts = ts} d) at rest k s = on (via (dots_goes d (1 + at) rest _ s) (counted k rest (omega arith)))
dots_goes (F.dots {ts = ts} d) at rest k s = on (via (dots_goes d (1 + at) rest _ s) (counted k rest (omega arith)))

module_front : {ts : List Terminal} {x : Identifier} → F.Dotted ts x → (r : List Terminal) → NoDot (ts ++ r) × (mark_of (ts ++ r) ≡ 0)
module_front F.one_name r = (tt, refl)
module_front (F.dot_name d) r = (tt, refl)

-- ---- Statements.

return_goes : {ts : List Terminal} {e : Option Expr} (p : F.Perhaps Stars ts e)
    → Answers (Perhaps Stars) ts (λ at. perhaps_places at p) (PerhapsStops Stars)
return_goes F.left_out = nothing_goes Stars
return_goes (F.given {ts = ts} p) = something_goes Stars ts _ (led p) (goes p).0

single_value : {ts : List Terminal} {t : Expr} (p : G.SingleTarget ts t) → Reads Value ts (λ at. single_target_places at p)
single_value (G.single_target {ts = ts} p h) = primary_value ts _ (led p) (goes p).0

single_group : {ts : List Terminal} {t : Expr} (p : G.SingleTarget ts t)
    → Reads Value (Op Sign.LPar ∷ (ts ++ (Op Sign.RPar ∷ []))) (λ at. single_target_places (1 + at) p)
single_group (G.single_target {ts = ts} p h) = group_value ts _ (led p) (goes p).0

pub single_led : {ts : List Terminal} {t : Expr} → G.SingleTarget ts t → 23 ≤ lead_of ts
single_led (G.single_target p h) = led p

augmented_mark : (x : Exact) (o : Operator) → F.augmented x ≡ Some o → (mark (Op x) ≡ 13) × (grip (Op x) ≡ 0) × (lead_of (Op x ∷ []) ≡ 0)
augmented_mark Sign.PlusEqual o h = (refl, refl, refl)
augmented_mark Sign.MinEqual o h = (refl, refl, refl)
augmented_mark Sign.StarEqual o h = (refl, refl, refl)
augmented_mark Sign.AtEqual o h = (refl, refl, refl)
augmented_mark Sign.SlashEqual o h = (refl, refl, refl)
augmented_mark Sign.PercentEqual o h = (refl, refl, refl)
augmented_mark Sign.AmperEqual o h = (refl, refl, refl)
augmented_mark Sign.VBarEqual o h = (refl, refl, refl)
augmented_mark Sign.CircumflexEqual o h = (refl, refl, refl)
augmented_mark Sign.LeftShiftEqual o h = (refl, refl, refl)
augmented_mark Sign.RightShiftEqual o h = (refl, refl, refl)
augmented_mark Sign.DoubleStarEqual o h = (refl, refl, refl)
augmented_mark Sign.DoubleSlashEqual o h = (refl, refl, refl)
augmented_mark _ o h = absurd (cc)

augmented_goes : (ts us : List Terminal) (x : Exact) (o : Operator) (f g : ℕ → List Stretch) → F.augmented x ≡ Some o → Reads Value ts f
    → Reads Value us g → (at : ℕ) (rest : List Terminal) (k : Goes) → EndStops rest
    → Comes (Ask Valued at (ts ++ (Op x ∷ (us ++ rest))) k)
    (k (f at ++ g (1 + (at + length ts))) (1 + (length ts + length us)) rest)
augmented_goes ts us x o f g h p q at rest k s =
    let m = augmented_mark x o h in
    let r = Op x ∷ (us ++ rest) in
    on (via (p at r _ (value_stops r (omega (arith, m.1)) (omega (arith, m.2)))) (miss_mark r 5 _ (λ e. omega (arith, e, m.0))
    (is_true _ (same_true (mark (Op x)) 13 (m.0))
    (via (q (1 + (at + length ts)) rest _ (value_stops rest (omega (arith, s.0)) (omega (arith, s.1)))) here))))

name_value : (x : Spelled) → Reads Value (Ident x ∷ []) (λ at. over at 1)
name_value x at rest k s = value_name x at rest k s.0 s.1

field_goes : {profile : Profile} {ts : List Terminal} {y : Stmt} (p : F.Simple profile ts y) (at : ℕ) (rest : List Terminal) (k : Goes)
    → EndStops rest → Comes (fields_read at (ts ++ rest) k) (k (field_places at p) (length ts) rest)
field_goes (F.value {ts = ts} p) at rest k s =
    as_value (ts ++ rest) at k (omega (arith, lead_front ts rest 1 (omega arith) (led p)))
    (two_names ts rest _ (goes p).0 (value_stops rest (omega (arith, s.0)) (omega (arith, s.1))))
    (valued_last ts _ (goes p).0 at rest k s)
field_goes (F.assign {ts = ts} {us = us} t p) at rest k s = from (ap (λ z. fields_read at z k) (append_assoc ts us rest))
    (as_value (ts ++ (us ++ rest)) at k (omega (arith, lead_front ts (us ++ rest) 1 (omega arith) (omega (arith, targets_led t))))
    (targets_two t (us ++ rest)) (via (targets_goes t us _ (valued_last us _ (goes p).0) at rest k s)
    (counted k rest (sym (length-append ts us)))))
field_goes (F.augmented_assign {ts = ts} {us = us} x {o = o} t h p) at rest k s =
    from (ap (λ z. fields_read at z k) (append_assoc ts (Op x ∷ us) rest))
    (let m = augmented_mark x o h in
    let r = Op x ∷ (us ++ rest) in
    as_value (ts ++ r) at k (omega (arith, lead_front ts r 1 (omega arith) (omega (arith, single_led t))))
    (two_names ts r _ (single_value t) (value_stops r (omega (arith, m.1)) (omega (arith, m.2))))
    (via (augmented_goes ts us x o _ _ h (single_value t) (goes p).0 at rest k s)
    (counted k rest (omega (arith, length-append ts (Op x ∷ us))))))
field_goes (F.annotated_name {x = x} {ts = ts} {us = us} p v) at rest k s =
    from (ap (λ z. fields_read at (Ident x ∷ (Op Sign.Colon ∷ z)) k) (append_assoc ts us rest))
    (via (annotation_goes (Ident x ∷ []) (λ at. over at 1) (name_value x) p v at rest k s)
    (to here (ap (λ z. k (over at 1 ++ (places z p ++ after_places (1 + (at + (1 + length ts))) v))
    (1 + (1 + (length ts + length us))) rest) first
    ∙ (ap (λ z. k (over at 1 ++ (places (2 + at) p ++ after_places z v)) (1 + (1 + (length ts + length us))) rest) second
    ∙ ap (λ z. k (over at 1 ++ (places (2 + at) p ++ after_places (2 + (at + length ts)) v)) z rest)
    (omega (arith, length-append ts us))))))
  where
    first : 1 + (at + 1) ≡ 2 + at
    first = omega arith

    second : 1 + (at + (1 + length ts)) ≡ 2 + (at + length ts)
    second = omega arith
field_goes (F.annotated_group {ts = ts} {us = us} {vs = vs} t p v) at rest k s = from (ap (λ z. fields_read at z k) (shape rest))
    (via (annotation_goes (Op Sign.LPar ∷ (ts ++ (Op Sign.RPar ∷ []))) (λ at. single_target_places (1 + at) t) (single_group t) p v at rest
    k s) (placed (length (ts ++ (Op Sign.RPar ∷ []))) (omega (arith, length-append ts (Op Sign.RPar ∷ [])))))
  where
    shape : (rest : List Terminal) → (Op Sign.LPar ∷ (ts ++ (Op Sign.RPar ∷ (Op Sign.Colon ∷ (us ++ vs))))) ++ rest ≡
        (Op Sign.LPar ∷ (ts ++ (Op Sign.RPar ∷ []))) ++ (Op Sign.Colon ∷ (us ++ (vs ++ rest)))
    shape rest = simp append_assoc refl

    placed : (n : ℕ) → n ≡ 1 + length ts → Comes (k (single_target_places (1 + at) t ++ (places (1 + (at + suc n)) p ++
        after_places (1 + (at + (suc n + length us))) v)) (1 + (suc n + (length us + length vs))) rest)
        (k (single_target_places (1 + at) t ++ (places (3 + (at + length ts)) p ++ after_places (3 + (at + (length ts + length us))) v))
        (length (Op Sign.LPar ∷ (ts ++ (Op Sign.RPar ∷ (Op Sign.Colon ∷ (us ++ vs)))))) rest)
    placed n e = to here (ap (λ z. k (single_target_places (1 + at) t ++ (places z p ++ after_places (1 + (at + (suc n + length us))) v))
        (1 + (suc n + (length us + length vs))) rest) (first n e)
        ∙ (ap (λ z. k (single_target_places (1 + at) t ++ (places (3 + (at + length ts)) p ++ after_places z v))
        (1 + (suc n + (length us + length vs))) rest) (second n e)
        ∙ ap (λ z. k (single_target_places (1 + at) t ++ (places (3 + (at + length ts)) p ++
        after_places (3 + (at + (length ts + length us))) v)) z rest) (third n e)))
      where
        first : (n : ℕ) → n ≡ 1 + length ts → 1 + (at + suc n) ≡ 3 + (at + length ts)
        first n e = omega (arith, e)

        second : (n : ℕ) → n ≡ 1 + length ts → 1 + (at + (suc n + length us)) ≡ 3 + (at + (length ts + length us))
        second n e = omega (arith, e)

        third : (n : ℕ) → n ≡ 1 + length ts → 1 + (suc n + (length us + length vs)) ≡
            length (Op Sign.LPar ∷ (ts ++ (Op Sign.RPar ∷ (Op Sign.Colon ∷ (us ++ vs)))))
        third n e = omega (arith, e, length-append ts (Op Sign.RPar ∷ (Op Sign.Colon ∷ (us ++ vs))), length-append us vs)
field_goes (F.annotated_part {ts = ts} {us = us} {vs = vs} t h p v) at rest k s = from (ap (λ z. fields_read at z k) (shape rest))
    (let r = Op Sign.Colon ∷ (us ++ (vs ++ rest)) in
    as_value (ts ++ r) at k (omega (arith, lead_front ts r 1 (omega arith) (omega (arith, single_led t))))
    (two_names ts r _ (single_value t) (omega arith, λ e. absurd (omega (arith, e)), λ e. absurd (omega (arith, e)), omega arith))
    (via (annotation_goes ts _ (single_value t) p v at rest k s)
    (counted k rest (omega (arith, length-append ts (Op Sign.Colon ∷ (us ++ vs)), length-append us vs)))))
  where
    shape : (rest : List Terminal) → (ts ++ (Op Sign.Colon ∷ (us ++ vs))) ++ rest ≡ ts ++ (Op Sign.Colon ∷ (us ++ (vs ++ rest)))
    shape rest = simp append_assoc refl
field_goes (F.type_alias {form = form} {x = x} {ts = ts} {us = us} h c p) at rest k s =
    from (ap (λ z. fields_read at (F.type_word form ∷ (Ident x ∷ z)) k) (append_assoc ts (Op Sign.Equal ∷ us) rest))
    (via (type_params_reads c (2 + at) (Op Sign.Equal ∷ (us ++ rest)) (alias_rest at k) (λ e. absurd (omega (arith, e))))
    (via ((goes p).0 (3 + (at + length ts)) rest _ (omega (arith, s.0)))
    (counted k rest (omega (arith, length-append ts (Op Sign.Equal ∷ us))))))
field_goes (F.return_of p) at rest k s =
    via (return_goes p (1 + at) rest _ (
      (omega (arith, s.0), λ e. omega (arith, e, s.0), omega (arith, s.1)),
      starts_low Stars rest (omega (arith, s.1)),
    )) (counted k rest (omega arith))
field_goes F.raise_alone at rest k s = untrue _ (starts_low Expression rest (omega (arith, s.1))) here
field_goes (F.raise_of {ts = ts} {us = us} p c) at rest k s =
    from (ap (λ z. fields_read at (Word Key.Raise ∷ z) k) (append_assoc ts us rest))
    (is_true _ (starts_of Expression ts (us ++ rest) (omega arith) (led p))
    (via ((goes p).0 (1 + at) (us ++ rest) _ (after_grip c (omega arith) rest (omega (arith, s.0))))
    (via (after_gripped 4 c refl (1 + (at + length ts)) rest (λ qs m r. k (places (1 + at) p ++ qs) (1 + (length ts + m)) r)
    (λ e. omega (arith, e, s.0)) (omega (arith, s.0)))
    (counted k rest (omega (arith, length-append ts us))))))
field_goes (F.assert_of {ts = ts} {us = us} p c) at rest k s =
    from (ap (λ z. fields_read at (Word Key.Assert ∷ z) k) (append_assoc ts us rest))
    (via ((goes p).0 (1 + at) (us ++ rest) _ (after_grip c (omega arith) rest (omega (arith, s.0))))
    (via (after_marked 6 c refl (1 + (at + length ts)) rest (λ qs m r. k (places (1 + at) p ++ qs) (1 + (length ts + m)) r)
    (λ e. omega (arith, e, s.2)) (omega (arith, s.0)))
    (counted k rest (omega (arith, length-append ts us)))))
field_goes (F.delete c) at rest k s =
    via (ended_reads ADeleted Expr G.DelTarget (λ ts a. del_target_places) deleted_reads deleted_begins c (1 + at) rest _
    (ends_element rest s, λ e. omega (arith, e, s.2), lt-leb 9 (lead_of rest) (omega (arith, s.1)))) (counted k rest (omega arith))
field_goes (F.global c) at rest k s =
    via (commas_reads AName Identifier F.Name no_places name_reads name_begins c (1 + at) rest _
    (ends_element rest s, λ e. omega (arith, e, s.2))) (counted k rest (omega arith))
field_goes (F.nonlocal c) at rest k s =
    via (commas_reads AName Identifier F.Name no_places name_reads name_begins c (1 + at) rest _
    (ends_element rest s, λ e. omega (arith, e, s.2))) (counted k rest (omega arith))
field_goes F.pass at rest k s = here
field_goes F.break at rest k s = here
field_goes F.continue at rest k s = here
field_goes (F.import_names c) at rest k s =
    via (commas_reads ADotted Alias F.DottedAlias (λ ts a. dotted_alias_places) dotted_alias_reads dotted_alias_begins c (1 + at) rest _
    (ends_element rest s, λ e. omega (arith, e, s.2))) (counted k rest (omega arith))
field_goes (F.from_module {ts = ts} {us = us} {vs = vs} d m c) at rest k s = from (ap (λ z. fields_read at z k) (shape rest))
    (let w = module_front m (Word Key.Import ∷ (vs ++ rest)) in
    via (dots_goes d (1 + at) (us ++ (Word Key.Import ∷ (vs ++ rest))) _ w.0)
    (miss_mark (us ++ (Word Key.Import ∷ (vs ++ rest))) 3 _ (λ e. omega (arith, e, w.1))
    (via (module_reads m (1 + (at + length ts)) (Word Key.Import ∷ (vs ++ rest)) _ (omega arith))
    (via (names_goes c (2 + (at + (length ts + length us))) rest (λ ps w r. k ps (2 + ((length ts + length us) + w)) r) s)
    (counted k rest (omega (
      arith,
      length-append ts (us ++ (Word Key.Import ∷ vs)),
      length-append us (Word Key.Import ∷ vs),
    )))))))
  where
    shape : (rest : List Terminal) → (Word Key.From ∷ (ts ++ (us ++ (Word Key.Import ∷ vs)))) ++ rest ≡
        Word Key.From ∷ (ts ++ (us ++ (Word Key.Import ∷ (vs ++ rest))))
    shape rest = simp append_assoc refl
field_goes (F.from_dots {ts = ts} {vs = vs} d h c) at rest k s =
    from (ap (λ z. fields_read at (Word Key.From ∷ z) k) (append_assoc ts (Word Key.Import ∷ vs) rest))
    (via (dots_goes d (1 + at) (Word Key.Import ∷ (vs ++ rest)) _ tt)
    (via (names_goes c (2 + (at + length ts)) rest (λ ps w r. k ps (2 + (length ts + w)) r) s)
    (counted k rest (omega (arith, length-append ts (Word Key.Import ∷ vs))))))

pub statement_goes : {profile : Profile} {ts : List Terminal} {y : Stmt} (p : F.Simple profile ts y)
    → Answers Statement ts (λ at. simple_places at p) EndStops
statement_goes p at rest k s = on (field_goes p at rest (λ ps n r. k (ps ++ over at n) n r) s)

-- ---- Statements with `;` between.

filled : (ts us : List Terminal) → 0 < lead_of ts → is_end (ts ++ us) ≡ false
filled [] us h = absurd (omega (arith, h))
filled (t ∷ ts) us h = refl

statement_filled : {profile : Profile} {ts : List Terminal} {y : Stmt} → F.Simple profile ts y → (r : List Terminal)
    → is_end (ts ++ r) ≡ false
statement_filled (F.value {ts = ts} p) r = filled ts r (omega (arith, led p))
statement_filled (F.assign {ts = ts} {us = us} t p) r =
    ap is_end (append_assoc ts us r) ∙ filled ts (us ++ r) (omega (arith, targets_led t))
statement_filled (F.augmented_assign {ts = ts} {us = us} x t h p) r =
    ap is_end (append_assoc ts (Op x ∷ us) r) ∙ filled ts (Op x ∷ (us ++ r)) (omega (arith, single_led t))
statement_filled (F.annotated_part {ts = ts} {us = us} {vs = vs} t h p v) r =
    ap is_end (append_assoc ts (Op Sign.Colon ∷ (us ++ vs)) r) ∙ filled ts (Op Sign.Colon ∷ ((us ++ vs) ++ r)) (omega (arith, single_led t))
statement_filled _ r = refl

pub statements_filled : {profile : Profile} {ts : List Terminal} {ys : List Stmt} → F.Simples profile ts ys → is_end ts ≡ false
statements_filled (F.last_simple {ts = ts} p) = ap is_end (sym (append-nil ts)) ∙ statement_filled p []
statements_filled (F.ended_simple p) = statement_filled p _
statements_filled (F.more_simples p c) = statement_filled p _

pub statements_goes : {profile : Profile} {ts : List Terminal} {ys : List Stmt} (c : F.Simples profile ts ys) (at : ℕ) (k : Goes)
    → Comes (Ask Statements at ts k) (k (simples_places at c) (length ts) [])
statements_goes (F.last_simple {ts = ts} p) at k = on (shaped Statement at _ (sym (append-nil ts))
    (via (statement_goes p at [] _ (refl, refl, omega arith)) here))
statements_goes (F.ended_simple {ts = ts} p) at k = on (via (statement_goes p at (Op Sign.Semi ∷ []) _ (refl, refl, omega arith))
    (counted k [] (omega (arith, length-append ts (Op Sign.Semi ∷ [])))))
statements_goes (F.more_simples {ts = ts} {us = us} p c) at k =
    on (via (statement_goes p at (Op Sign.Semi ∷ us) _ (refl, refl, omega arith))
    (untrue _ (statements_filled c) (via (statements_goes c (1 + (at + length ts)) _)
    (counted k [] (omega (arith, length-append ts (Op Sign.Semi ∷ us)))))))
