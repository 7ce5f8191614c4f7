-- Completeness for statements that begin with a Value.
--
-- Carries: expression_goes, assign_goes, augmented_goes, name_annotated_goes and 2 more, for
-- Simple. On: Tools, LookLemmas, LevelLemmas, Says.
use Rattle.std.proofs.Common.{◌≡◌, refl, sym, ap, ◌∙◌, ℕ, zero, suc, ◌≤◌, ◌<◌, arith, List, [], ◌∷◌, ◌++◌, length, Option, Some, None, Bool}
use Rattle.std.proofs.Common.{true, false, cond, append_assoc, length-append}
use Rattle.pylex_lexeme.specs.declared.kinds.Exact.{Exact}
use Rattle.pylex_lexeme.specs.declared.kinds.Exact.TheVariants as Sign
use Rattle.pytoken.specs.declared.keywords.Keyword.TheVariants as Key
use Rattle.pytree_node.specs.declared.operators.Operator.{Operator}
use Rattle.pytree_node.specs.declared.operators.Context.TheVariants.{Load, Store}
use Rattle.pytree_node.specs.declared.profiles.Profile.{Profile}
use Rattle.pytree_node.specs.Profiles.{has_types}
use Rattle.pygrammar.specs.declared.levels.Level.TheVariants.{Value, Stars, Expression, Or, Primary}
use Rattle.pytree_node.specs.Trees.{Expr, Identifier, Assign, AugAssign, AnnAssign, ExprOf}
use Rattle.pytree_node.specs.Trees as Trees
use Rattle.pytoken.specs.Terminals.{Spelled, Terminal, Op, Word, Ident}
use Rattle.pygrammar.specs.Looks.{is_op, name_in}
use Rattle.pygrammar.specs.Targets.{stored, single_stored}
use Rattle.pygrammar.specs.Grammar as G
use Rattle.pygrammar.specs.Reader.{Answer, Found, NoForm, and_then, on_some, on_first}
use Rattle.pygrammar.specs.Precedence.{lead}
use Rattle.pygrammar.proofs.Answers.{found_one, found_rest}
use Rattle.pygrammar.proofs.Completeness.LookLemmas.{grip, grip_of, lead_of, lead_front, miss_name_with}
use Rattle.pygrammar.proofs.Completeness.LevelLemmas.{led, free}
use Rattle.pygrammar.proofs.Soundness.Says.{lower}
use Rattle.pygrammar.specs.Forms as F
use Rattle.pygrammar.specs.Forms.{augmented}
use Rattle.pygrammar.specs.LineReader.{is_type, on_type, augmented_sign, Values, start, plain, annotation, end_value, value_loop}
use Rattle.pygrammar.specs.LineReader.{value_statement, alias_rest, statement_of, statement}
use Rattle.pygrammar.proofs.Line.Tools.{thus, peek, missed, Ends, ends_grip, ends_lead, ends_miss, front, item_of, value_front, after_goes}
use Rattle.pygrammar.proofs.Line.Tools.{after_grip}

valued : (t : Terminal) → 0 < lead t → start t ≡ Values
valued (Word Key.Return) h = absurd (omega (arith, h))
valued (Word Key.Raise) h = absurd (omega (arith, h))
valued (Word Key.Assert) h = absurd (omega (arith, h))
valued (Word Key.Del) h = absurd (omega (arith, h))
valued (Word Key.Global) h = absurd (omega (arith, h))
valued (Word Key.Nonlocal) h = absurd (omega (arith, h))
valued (Word Key.Pass) h = absurd (omega (arith, h))
valued (Word Key.Break) h = absurd (omega (arith, h))
valued (Word Key.Continue) h = absurd (omega (arith, h))
valued (Word Key.Import) h = absurd (omega (arith, h))
valued (Word Key.From) h = absurd (omega (arith, h))
valued (Word _) h = refl
valued _ h = refl

-- an expression doesn't begin with two names
name_ends : (x : Spelled) (s r : List Terminal) (e : Expr) → plain Value (Ident x ∷ s) ≡ Found e r
    → peek name_in r ≡ None → peek name_in s ≡ None
name_ends x (Ident y ∷ s) r e h m = absurd (bad (ap (peek name_in) (found_rest (Trees.Name x.form Load) e (Ident y ∷ s) r h) ∙ m))
  where
    bad : ◌≡◌ {A = Option (List ℕ)} (Some y.form) None → ⊥
    bad h = absurd (cc)
name_ends x [] r e h m = refl
name_ends x (_ ∷ s) r e h m = refl

-- so no statement `type` begins where an expression does
no_word : {A : Type 0} (i r : List Terminal) (e : Expr) → plain Value i ≡ Found e r → peek name_in r ≡ None
    → (hit : Identifier → List Terminal → Answer A) (miss : Answer A) → on_first is_type i (λ _ s. on_first name_in s hit miss) miss ≡ miss
no_word [] r e h m hit miss = refl
no_word (Ident x ∷ s) r e h m hit miss = ap (λ z. on_some (is_type (Ident x)) (λ _. z) miss)
    (missed name_in s hit miss (name_ends x s r e h m)) ∙ either (is_type (Ident x))
  where
    either : (o : Option ℕ) → on_some o (λ _. miss) miss ≡ miss
    either (Some n) = refl
    either None = refl
no_word (_ ∷ s) r e h m hit miss = refl

no_type : {A : Type 0} (profile : Profile) (i r : List Terminal) (e : Expr) → plain Value i ≡ Found e r → peek name_in r ≡ None
    → (hit : Identifier → List Terminal → Answer A) (miss : Answer A) → on_type profile i hit miss ≡ miss
no_type profile i r e h m hit miss = either (has_types profile)
  where
    either : (b : Bool) → cond b (on_first is_type i (λ _ s. on_first name_in s hit miss) miss) miss ≡ miss
    either true = no_word i r e h m hit miss
    either false = refl

pub by_value : (profile : Profile) (ts r s : List Terminal) (e : Expr) → 0 < lead_of ts → plain Value (ts ++ r) ≡ Found e s
    → peek name_in s ≡ None → statement profile plain (ts ++ r) ≡ value_statement plain (ts ++ r)
by_value profile [] r s e h g m = absurd (omega (arith, h))
by_value profile (t ∷ ts) r s e h g m = ap (λ k. statement_of profile plain k (t ∷ (ts ++ r)) (ts ++ r)) (valued t h)
    ∙ no_type profile (t ∷ (ts ++ r)) s e g m (alias_rest profile plain) (value_statement plain (t ∷ (ts ++ r)))

pub unannotated : (i r : List Terminal) (e : Expr) → plain Value i ≡ Found e r → (grip_of r ≡ 5 → ⊥)
    → value_statement plain i ≡ value_loop plain (suc (length i)) [] i
unannotated i r e h g = miss_name_with Sign.Colon i _ _ (λ x us q. free (length i) Value Sign.Colon i r e (λ y vs. refl) h g x us q)

pub loop_ends : (n : ℕ) (acc : List Expr) (i r : List Terminal) (e : Expr) → plain Value i ≡ Found e r → peek (is_op Sign.Equal) r ≡ None
    → value_loop plain (suc n) acc i ≡ end_value plain acc e r
loop_ends n acc i r e h m = thus _ _ h (missed (is_op Sign.Equal) r _ _ m)

value_stops : {r : List Terminal} → Ends r → (grip_of r ≤ 2) × (lead_of r ≤ 6)
value_stops w = (omega (arith, ends_grip w), omega (arith, ends_lead w))

-- an expression alone
pub expression_goes : (profile : Profile) {ts : List Terminal} {e : Expr} → G.Derives Value ts e → (r : List Terminal) → Ends r
    → statement profile plain (ts ++ r) ≡ Found (ExprOf e) r
expression_goes profile {ts} {e} p r w =
    let h = front p r (value_stops w) in
    by_value profile ts r r e (omega (arith, led p)) h (ends_miss name_in refl w)
    ∙ (unannotated (ts ++ r) r e h (λ q. omega (arith, ends_grip w, q))
    ∙ (loop_ends (length (ts ++ r)) [] (ts ++ r) r e h (ends_miss (is_op Sign.Equal) refl w)
    ∙ (missed augmented_sign r _ _ (ends_miss augmented_sign refl w)
    ∙ missed (is_op Sign.Colon) r _ _ (ends_miss (is_op Sign.Colon) refl w))))

-- assignments
stars_value : {ts : List Terminal} {e : Expr} → G.Derives Stars ts e → G.Derives Value ts e
stars_value p = G.next p

one_target : {ts : List Terminal} {e s : Expr} → G.Derives Stars ts e → stored e ≡ Some s → (n : ℕ) (acc : List Expr) (r : List Terminal)
    → value_loop plain (suc n) acc (ts ++ (Op Sign.Equal ∷ r)) ≡ value_loop plain n (acc ++ (s ∷ [])) r
one_target p q n acc r = thus _ _ (front (stars_value p) (Op Sign.Equal ∷ r) (omega arith, omega arith))
    (ap (λ o. on_some o (λ t. value_loop plain n (acc ++ (t ∷ [])) r) NoForm) q)

targets_goes : (n : ℕ) {ts : List Terminal} {es : List Expr} → F.Targets ts es → (i r : List Terminal) (e : Expr)
    → plain Value i ≡ Found e r → peek (is_op Sign.Equal) r ≡ None → (acc : List Expr) → length (ts ++ i) < n
    → value_loop plain n acc (ts ++ i) ≡ end_value plain (acc ++ es) e r
targets_goes zero c i r e h m acc l = absurd (omega (arith, l))
targets_goes (suc n) (F.last_target {ts = ts} (G.target {s = s} p q)) i r e h m acc l =
    ap (value_loop plain (suc n) acc) (append_assoc ts (Op Sign.Equal ∷ []) i)
    ∙ (one_target p q n acc i
    ∙ last n (omega (arith, l, length-append (ts ++ (Op Sign.Equal ∷ [])) i, length-append ts (Op Sign.Equal ∷ []))))
  where
    last : (n : ℕ) → 0 < n → value_loop plain n (acc ++ (s ∷ [])) i ≡ end_value plain (acc ++ (s ∷ [])) e r
    last zero k = absurd (omega (arith, k))
    last (suc n) k = loop_ends n _ i r e h m
targets_goes (suc n) (F.more_targets {ts = ts} {us = us} {es = es} (G.target {s = s} p q) c) i r e h m acc l =
    ap (value_loop plain (suc n) acc) (append_assoc ts (Op Sign.Equal ∷ us) i)
    ∙ (one_target p q n acc (us ++ i)
    ∙ (targets_goes n c i r e h m (acc ++ (s ∷ [])) (omega (
      arith,
      l,
      length-append (ts ++ (Op Sign.Equal ∷ us)) i,
      length-append ts (Op Sign.Equal ∷ us),
      length-append us i,
    )) ∙ ap (λ z. end_value plain z e r) (append_assoc acc (s ∷ []) es)))

-- the first target
module _ {ts : List Terminal} {e : Expr} (p : G.Derives Stars ts e) (us i : List Terminal) where
  target_front : plain Value ((ts ++ (Op Sign.Equal ∷ us)) ++ i) ≡ Found e (Op Sign.Equal ∷ (us ++ i))
  target_front = ap (plain Value) (append_assoc ts (Op Sign.Equal ∷ us) i) ∙ front (stars_value p) (Op Sign.Equal ∷ (us ++ i))
      (omega arith, omega arith)

  target_led : 0 < lead_of (ts ++ (Op Sign.Equal ∷ us))
  target_led = omega (arith, lead_front ts (Op Sign.Equal ∷ us) 7 (omega arith) (led p))

first_target : {ts : List Terminal} {es : List Expr} → F.Targets ts es → (i : List Terminal)
    → (e : Expr) × (r : List Terminal) × (plain Value (ts ++ i) ≡ Found e (Op Sign.Equal ∷ r)) × (0 < lead_of ts)
first_target (F.last_target {ts = ts} (G.target {e = e} p q)) i = (e, i, target_front p [] i, target_led p [] i)
first_target (F.more_targets {ts = ts} {us = us} (G.target {e = e} p q) c) i = (e, us ++ i, target_front p us i, target_led p us i)

assigned : {ts : List Terminal} {es : List Expr} → F.Targets ts es → (e : Expr) (r : List Terminal)
    → end_value plain es e r ≡ Found (Assign es e) r
assigned (F.last_target p) e r = refl
assigned (F.more_targets p c) e r = refl

pub assign_goes : (profile : Profile) {ts us : List Terminal} {es : List Expr} {e : Expr} → F.Targets ts es → G.Derives Value us e
    → (r : List Terminal) → Ends r → statement profile plain ((ts ++ us) ++ r) ≡ Found (Assign es e) r
assign_goes profile {ts} {us} {es} {e} c p r w =
    let i = us ++ r in
    let f = first_target c i in
    ap (statement profile plain) (append_assoc ts us r) ∙ (by_value profile ts i (Op Sign.Equal ∷ f.1) f.0 f.3 f.2 refl
    ∙ (unannotated (ts ++ i) (Op Sign.Equal ∷ f.1) f.0 f.2 (λ q. omega (arith, q))
    ∙ (targets_goes (suc (length (ts ++ i))) c i r e (front p r (value_stops w)) (ends_miss (is_op Sign.Equal) refl w) []
    (omega arith) ∙ assigned c e r)))

-- augmented ones
plain_sign : (x : Exact) (o : Operator) → augmented x ≡ Some o → (grip (Op x) ≡ 0) × (is_op Sign.Equal (Op x) ≡ None)
plain_sign Sign.PlusEqual o h = (refl, refl)
plain_sign Sign.MinEqual o h = (refl, refl)
plain_sign Sign.StarEqual o h = (refl, refl)
plain_sign Sign.AtEqual o h = (refl, refl)
plain_sign Sign.SlashEqual o h = (refl, refl)
plain_sign Sign.PercentEqual o h = (refl, refl)
plain_sign Sign.AmperEqual o h = (refl, refl)
plain_sign Sign.VBarEqual o h = (refl, refl)
plain_sign Sign.CircumflexEqual o h = (refl, refl)
plain_sign Sign.LeftShiftEqual o h = (refl, refl)
plain_sign Sign.RightShiftEqual o h = (refl, refl)
plain_sign Sign.DoubleStarEqual o h = (refl, refl)
plain_sign Sign.DoubleSlashEqual o h = (refl, refl)
plain_sign _ o h = absurd (cc)

pub augmented_goes : (profile : Profile) {ts us : List Terminal} (x : Exact) {o : Operator} {t e : Expr} → G.SingleTarget ts t
    → augmented x ≡ Some o → G.Derives Value us e → (r : List Terminal) → Ends r → statement profile plain ((ts ++ (Op x ∷ us)) ++ r) ≡
    Found (AugAssign t o e) r
augmented_goes profile {ts} {us} x {o} {t} {e} (G.single_target {e = f} p q) a v r w =
    let z = Op x ∷ (us ++ r) in
    let s = plain_sign x o a in
    let h = value_front (item_of p) z (omega (arith, s.0)) (λ k. omega (arith, s.0, k)) in
    ap (statement profile plain) (append_assoc ts (Op x ∷ us) r) ∙ (by_value profile ts z z f (omega (arith, led p)) h refl
    ∙ (unannotated (ts ++ z) z f h (λ k. omega (arith, s.0, k)) ∙ (loop_ends (length (ts ++ z)) [] (ts ++ z) z f h s.1
    ∙ (ap (λ b. on_some b (λ o. on_some (single_stored f) (λ t. and_then (plain Value (us ++ r)) (λ v r2. Found (AugAssign t o v) r2))
    NoForm) (on_first (is_op Sign.Colon) z (λ _ r1. on_some (single_stored f) (λ t. annotation plain t false r1) NoForm)
    (Found (ExprOf f) z))) a
    ∙ (ap (λ b. on_some b (λ t. and_then (plain Value (us ++ r)) (λ v r2. Found (AugAssign t o v) r2)) NoForm) q
    ∙ thus _ _ (front v r (value_stops w)) refl)))))

-- annotated ones
annotation_goes : {us vs : List Terminal} {a : Expr} {v : Option Expr} (t : Expr) (b : Bool) → G.Derives Expression us a
    → F.Following (Op Sign.Equal) Value vs v → (r : List Terminal) → Ends r
    → annotation plain t b ((us ++ vs) ++ r) ≡ Found (AnnAssign t a v b) r
annotation_goes {us} {vs} t b p q r w = ap (annotation plain t b) (append_assoc us vs r)
    ∙ thus _ _ (front p (vs ++ r) (after_grip q r (omega arith) (omega (arith, ends_grip w))))
    (thus _ _ (after_goes q refl r (value_stops w) (ends_miss (is_op Sign.Equal) refl w)) refl)

pub name_annotated_goes : (profile : Profile) {us vs : List Terminal} {a : Expr} {v : Option Expr} (x : Spelled) → G.Derives Expression us a
    → F.Following (Op Sign.Equal) Value vs v → (r : List Terminal) → Ends r
    → statement profile plain (Ident x ∷ (Op Sign.Colon ∷ ((us ++ vs) ++ r))) ≡ Found (AnnAssign (Trees.Name x.form Store) a v true) r
name_annotated_goes profile {us} {vs} x p q r w =
    let i = Op Sign.Colon ∷ ((us ++ vs) ++ r) in
    no_type profile (Ident x ∷ i) i (Trees.Name x.form Load) refl refl (alias_rest profile plain) (value_statement plain (Ident x ∷ i))
    ∙ annotation_goes (Trees.Name x.form Store) true p q r w

-- a target that is no NAME alone
annotated_goes : (profile : Profile) (r : List Terminal) {ts us vs : List Terminal} {f t a : Expr} {v : Option Expr}
    → G.Derives Primary ts f → single_stored f ≡ Some t
    → ((x : Spelled) (zs : List Terminal) → ts ++ (Op Sign.Colon ∷ ((us ++ vs) ++ r)) ≡ Ident x ∷ (Op Sign.Colon ∷ zs) → ⊥)
    → G.Derives Expression us a → F.Following (Op Sign.Equal) Value vs v → Ends r
    → statement profile plain (ts ++ (Op Sign.Colon ∷ ((us ++ vs) ++ r))) ≡ Found (AnnAssign t a v false) r
annotated_goes profile r {ts} {us} {vs} {f} {t} p q n k b w =
    let y = (us ++ vs) ++ r in
    let z = Op Sign.Colon ∷ ((us ++ vs) ++ r) in
    let h = value_front (item_of p) z (omega arith) (λ k. omega (arith, k)) in
    by_value profile ts z z f (omega (arith, led p)) h refl
    ∙ (miss_name_with Sign.Colon (ts ++ z) _ _ n ∙ (loop_ends (length (ts ++ z)) [] (ts ++ z) z f h refl
    ∙ (ap (λ b. on_some b (λ t. annotation plain t false y) NoForm) q ∙ annotation_goes t false k b r w)))

some_same : (a b : Expr) → ◌≡◌ {A = Option Expr} (Some a) (Some b) → a ≡ b
some_same a b h = cc

differ : ◌≡◌ {A = Bool} true false → ⊥
differ h = absurd (cc)

pub part_annotated_goes : (profile : Profile) {ts us vs : List Terminal} {t a : Expr} {v : Option Expr} → G.SingleTarget ts t
    → F.is_name t ≡ false → G.Derives Expression us a → F.Following (Op Sign.Equal) Value vs v → (r : List Terminal) → Ends r
    → statement profile plain ((ts ++ (Op Sign.Colon ∷ (us ++ vs))) ++ r) ≡ Found (AnnAssign t a v false) r
part_annotated_goes profile {ts} {us} {vs} {t} (G.single_target {e = f} p q) n k b r w =
    ap (statement profile plain) (append_assoc ts (Op Sign.Colon ∷ (us ++ vs)) r) ∙ annotated_goes profile r p q (λ x zs e.
    let z = Op Sign.Colon ∷ ((us ++ vs) ++ r) in
    let h = value_front (item_of p) z (omega arith) (λ k. omega (arith, k)) in
    let g = found_one f (Trees.Name x.form Load) z (Op Sign.Colon ∷ zs) (sym h ∙ ap (plain Value) e) in
    differ (ap F.is_name (some_same (Trees.Name x.form Store) t (ap single_stored (sym g) ∙ q)) ∙ n)) k b w

pub group_annotated_goes : (profile : Profile) {ts us vs : List Terminal} {t a : Expr} {v : Option Expr} → G.SingleTarget ts t
    → G.Derives Expression us a → F.Following (Op Sign.Equal) Value vs v → (r : List Terminal) → Ends r
    → statement profile plain ((Op Sign.LPar ∷ (ts ++ (Op Sign.RPar ∷ (Op Sign.Colon ∷ (us ++ vs))))) ++ r) ≡ Found
    (AnnAssign t a v false) r
group_annotated_goes profile {ts} {us} {vs} {t} (G.single_target {e = f} p q) k b r w = ap (λ z. statement profile plain (Op Sign.LPar ∷ z))
    (shape ts (us ++ vs) r)
    ∙ annotated_goes profile r (G.next (G.group (G.next (G.next (lower Or Primary ts f (omega arith) (omega arith) (omega arith) p))))) q
    (λ x zs e. different x _ _ e) k b w
  where
    shape : (ts us r : List Terminal) → (ts ++ (Op Sign.RPar ∷ (Op Sign.Colon ∷ us))) ++ r ≡ (ts ++ (Op Sign.RPar ∷ [])) ++
        (Op Sign.Colon ∷ (us ++ r))
    shape ts us r = simp append_assoc refl

    different : (x : Spelled) (us vs : List Terminal) → Op Sign.LPar ∷ us ≡ Ident x ∷ vs → ⊥
    different x us vs e = absurd (cc)
