-- What is read as a simple statement is one.
--
-- Carries: statements_sound, for SoundLines. On: SoundParts, Says, Invert, SoundLists.
use Rattle.std.proofs.Common.{◌≡◌, inl, inr, refl, sym, ap, subst, ◌∙◌, ℕ, zero, suc, List, [], ◌∷◌, ◌++◌, length, Option, Some, Bool, true}
use Rattle.std.proofs.Common.{false, append_assoc}
use Rattle.std.proofs.lemmas.List.{append-nil}
use Rattle.pylex_lexeme.specs.declared.kinds.Exact.{Exact}
use Rattle.pylex_lexeme.specs.declared.kinds.Exact.TheVariants as Sign
use Rattle.pytoken.specs.declared.keywords.Keyword.TheVariants as Key
use Rattle.pytree_node.specs.declared.operators.Operator.{Operator}
use Rattle.pytree_node.specs.declared.operators.Context.TheVariants.{Store}
use Rattle.pytree_node.specs.declared.profiles.Profile.{Profile}
use Rattle.pygrammar.specs.declared.levels.Level.TheVariants.{Value, Stars, Expression, Primary}
use Rattle.pytree_node.specs.Trees.{Expr, Identifier, Stmt, Alias, Assign, AnnAssign}
use Rattle.pytree_node.specs.Trees as Trees
use Rattle.pytoken.specs.Terminals.{Spelled, Terminal, Op, Word, Ident}
use Rattle.pygrammar.specs.Entries.{Of}
use Rattle.pygrammar.specs.Targets.{stored, single_stored}
use Rattle.pygrammar.specs.Grammar as G
use Rattle.pygrammar.specs.Reader.{Found, and_then}
use Rattle.pygrammar.specs.Precedence.{starts}
use Rattle.pygrammar.proofs.Soundness.Says.{Says, found, no_form, says_then, says_first, says_op, says_cond, says_some, says_made, says_is}
use Rattle.pygrammar.proofs.Soundness.SoundLists.{says_name_with}
use Rattle.pygrammar.specs.Forms as F
use Rattle.pygrammar.specs.Forms.{type_word, augmented, is_name}
use Rattle.pytree_node.specs.Profiles.{has_types}
use Rattle.pygrammar.specs.LineReader.{on_type, plain, read_name, dotted_alias, augmented_sign, annotation, value_loop, value_statement}
use Rattle.pygrammar.specs.LineReader.{deleted_one, alias_rest, statement, statements, on_none}
use Rattle.pygrammar.proofs.Line.SoundParts.{At, headed, joins, plain_sound, always_sound, more_sound, if_any_sound}
use Rattle.pygrammar.proofs.Line.SoundParts.{after_op_sound, after_word_sound, type_params_sound, says_type, name_sound, dotted_alias_sound}
use Rattle.pygrammar.proofs.Line.SoundParts.{import_from_sound}
use Rattle.pygrammar.proofs.Line.Invert.{to_primary, name_inv, stored_name, target_of}

-- annotations
abbrev AnnotationAt : Expr → Bool → List Terminal → Stmt → List Terminal → Type 0
AnnotationAt t b i s r = (us : List Terminal) × (vs : List Terminal) × (a : Expr) × (v : Option Expr) × (i ≡ (us ++ vs) ++ r) ×
    (s ≡ AnnAssign t a v b) × G.Derives Expression us a × F.Following (Op Sign.Equal) Value vs v

annotation_sound : (t : Expr) (b : Bool) (i : List Terminal) → Says (AnnotationAt t b i) (annotation plain t b i)
annotation_sound t b i = says_then _ _ (plain_sound Expression i) (λ a r p. says_then _ _ (after_op_sound Sign.Equal Value r)
    (λ v r1 y. found (p.0, y.0, a, v, joins p.0 y.0 _ p.1 y.1, refl, p.2, y.2)))

-- a target in front of `:` that is no NAME alone
annotated : (profile : Profile) (r : List Terminal) {i ts us vs : List Terminal} {e t a : Expr} {v : Option Expr}
    → ((x : Spelled) (u : List Terminal) → i ≡ Ident x ∷ (Op Sign.Colon ∷ u) → ⊥) → i ≡ (ts ++ (Op Sign.Colon ∷ (us ++ vs))) ++ r
    → G.Derives Primary ts e → single_stored e ≡ Some t → G.Derives Expression us a → F.Following (Op Sign.Equal) Value vs v
    → F.Simple profile (ts ++ (Op Sign.Colon ∷ (us ++ vs))) (AnnAssign t a v false)
annotated profile r {ts = ts} {us = us} {vs = vs} {e = e} {t = t} {a = a} {v = v} f q p h k b = go (is_name t) refl
  where
    go : (c : Bool) → is_name t ≡ c → F.Simple profile (ts ++ (Op Sign.Colon ∷ (us ++ vs))) (AnnAssign t a v false)
    go false n = F.annotated_part (G.single_target p h) n k b
    go true n = elim (name_inv t p h (stored_name e t h n)) [
      | inl u ↦ absurd (f u.0 ((us ++ vs) ++ r) (q ∙ ap (λ z. (z ++ (Op Sign.Colon ∷ (us ++ vs))) ++ r) u.1))
      | inr u ↦ subst (λ z. F.Simple profile z (AnnAssign t a v false)) (shape u.0 (us ++ vs)
          ∙ ap (λ z. z ++ (Op Sign.Colon ∷ (us ++ vs))) (sym u.1)) (F.annotated_group (G.single_target u.2 h) k b)
    ]
      where
        shape : (ws zs : List Terminal) → Op Sign.LPar ∷ (ws ++ (Op Sign.RPar ∷ (Op Sign.Colon ∷ zs))) ≡
            (Op Sign.LPar ∷ (ws ++ (Op Sign.RPar ∷ []))) ++ (Op Sign.Colon ∷ zs)
        shape ws zs = simp append_assoc refl

-- the targets after the first
data Others : List Terminal → List Expr → Type 0 where
  no_other : Others [] []
  others : {ts : List Terminal} {es : List Expr} → F.Targets ts es → Others ts es

add_target : {ts us : List Terminal} {t : Expr} {es : List Expr} → G.Target ts t → Others us es
    → F.Targets (ts ++ (Op Sign.Equal ∷ us)) (t ∷ es)
add_target p no_other = F.last_target p
add_target p (others c) = F.more_targets p c

abbrev AssignAt : Expr → List Expr → List Terminal → Stmt → List Terminal → Type 0
AssignAt a as_ i s r = (us : List Terminal) × (vs : List Terminal) × (es : List Expr) × (e : Expr) × (i ≡ (us ++ vs) ++ r) ×
    (s ≡ Assign ((a ∷ as_) ++ es) e) × Others us es × G.Derives Value vs e

more_shape : (ts us vs : List Terminal) (t : Terminal) → ts ++ (t ∷ (us ++ vs)) ≡ (ts ++ (t ∷ us)) ++ vs
more_shape ts us vs t = sym (append_assoc ts (t ∷ us) vs)

assign_sound : (n : ℕ) (a : Expr) (as_ : List Expr) (i : List Terminal) → Says (AssignAt a as_ i) (value_loop plain n (a ∷ as_) i)
assign_sound zero a as_ i = no_form
assign_sound (suc n) a as_ i = says_then _ _ (plain_sound Value i) (λ e r p. says_op Sign.Equal r _ _
    (λ _ s q. says_some (stored e) _ _ (λ t h. says_is _ (assign_sound n a (as_ ++ (t ∷ [])) s) (λ st r2 y. (
      p.0 ++ (Op Sign.Equal ∷ y.0),
      y.1,
      t ∷ y.2,
      y.3,
      joins p.0 (Op Sign.Equal ∷ (y.0 ++ y.1)) r2 p.1 (headed (Op Sign.Equal) q y.4)
          ∙ ap (λ z. z ++ r2) (more_shape p.0 y.0 y.1 (Op Sign.Equal)),
      y.5 ∙ ap (λ z. Assign (a ∷ z) y.3) (append_assoc as_ (t ∷ []) y.2),
      others (add_target (target_of p.2 h) y.6),
      y.7,
    ))) no_form)
    (λ _. found ([], p.0, [], e, p.1, ap (λ z. Assign (a ∷ z) e) (sym (append-nil as_)), no_other, p.2)))

sign_of : (t : Terminal) (o : Operator) → augmented_sign t ≡ Some o → (x : Exact) × (t ≡ Op x) × (augmented x ≡ Some o)
sign_of (Op x) o h = (x, refl, h)
sign_of _ o h = absurd (cc)

value_sound : (profile : Profile) (i : List Terminal) → Says (At (F.Simple profile) i) (value_statement plain i)
value_sound profile i = says_name_with Sign.Colon i _ _
    (λ x u q. says_is _ (annotation_sound (Trees.Name x.form Store) true u) (λ s r y. (
      Ident x ∷ (Op Sign.Colon ∷ (y.0 ++ y.1)),
      q
          ∙ ap (λ z. Ident x ∷ (Op Sign.Colon ∷ z)) y.4,
      subst (λ z. F.Simple profile (Ident x ∷ (Op Sign.Colon ∷ (y.0 ++ y.1))) z) (sym y.5)
          (F.annotated_name y.6 y.7),
    )))
    (λ f. says_then _ _ (plain_sound Value i) (λ e r p. says_op Sign.Equal r _ _
    (λ _ s q. says_some (stored e) _ _ (λ t h. says_is _ (assign_sound (length i) t [] s) (λ st r2 y. (
      (p.0 ++ (Op Sign.Equal ∷ y.0)) ++ y.1,
      joins p.0 (Op Sign.Equal ∷ (y.0 ++ y.1)) r2 p.1 (headed (Op Sign.Equal) q y.4)
          ∙ ap (λ z. z ++ r2) (more_shape p.0 y.0 y.1 (Op Sign.Equal)),
      subst (λ z. F.Simple profile ((p.0 ++ (Op Sign.Equal ∷ y.0)) ++ y.1) z) (sym y.5) (F.assign (add_target (target_of p.2 h) y.6) y.7),
    ))) no_form)
    (λ _. says_first augmented_sign r _ _
    (λ t o s ho q. says_some (single_stored e) _ _ (λ v h. says_then _ _ (plain_sound Value s) (λ w r2 y.
    let g = sign_of t o ho in
    found (
      p.0 ++ (Op g.0 ∷ y.0),
      joins p.0 (Op g.0 ∷ y.0) r2 p.1 (q ∙ (ap (λ z. z ∷ s) g.1 ∙ ap (λ z. Op g.0 ∷ z) y.1)),
      F.augmented_assign g.0 (G.single_target (to_primary v p.2 h) h) g.2 y.2,
    ))) no_form)
    (λ _. says_op Sign.Colon r _ _
    (λ _ s q. says_some (single_stored e) _ _ (λ t h. says_is _ (annotation_sound t false s) (λ st r2 y.
    let w = joins p.0 (Op Sign.Colon ∷ (y.0 ++ y.1)) r2 p.1 (headed (Op Sign.Colon) q y.4) in (
      p.0 ++ (Op Sign.Colon ∷ (y.0 ++ y.1)),
      w,
      subst (λ z. F.Simple profile (p.0 ++ (Op Sign.Colon ∷ (y.0 ++ y.1))) z) (sym y.5)
          (annotated profile r2 f w (to_primary t p.2 h) h y.6 y.7),
    ))) no_form)
    (λ _. found (p.0, p.1, F.value p.2))))))

alias_sound : (profile : Profile) (form : Identifier) (x : Spelled) (i r : List Terminal) → has_types profile ≡ true
    → i ≡ type_word form ∷ (Ident x ∷ r) → Says (At (F.Simple profile) i) (alias_rest profile plain x.form r)
alias_sound profile form x i r h q = says_then _ _ (type_params_sound profile r) (λ ps r1 p. says_op Sign.Equal r1 _ _
    (λ _ r2 v. says_then _ _ (plain_sound Expression r2) (λ e r3 y. found (
      type_word form ∷ (Ident x ∷ (p.0 ++ (Op Sign.Equal ∷ y.0))),
      headed (type_word form) q (headed (Ident x) refl (joins p.0 (Op Sign.Equal ∷ y.0) r3 p.1 (headed (Op Sign.Equal) v y.1))),
      F.type_alias h p.2 y.2,
    )))
    (λ _. no_form))

first_sound : (profile : Profile) (i : List Terminal)
    → Says (At (F.Simple profile) i) (on_type profile i (alias_rest profile plain) (value_statement plain i))
first_sound profile i = says_type profile i _ _ (λ form x r h q. alias_sound profile form x i r h q) (value_sound profile i)

deleted_sound : (i : List Terminal) → Says (At G.DelTarget i) (deleted_one plain i)
deleted_sound i = says_then _ _ (plain_sound Expression i) (λ e r p. says_made _ r (λ t h. (p.0, p.1, G.del_target p.2 h)))

raise_sound : (profile : Profile) (r : List Terminal) → Says (At (F.Simple profile) (Word Key.Raise ∷ r))
    (statement profile plain (Word Key.Raise ∷ r))
raise_sound profile r = says_cond (starts (Of Expression) r) _ _
    (says_then _ _ (plain_sound Expression r) (λ e r1 p. says_then _ _ (after_word_sound Key.From Expression r1)
    (λ c r2 y. found (Word Key.Raise ∷ (p.0 ++ y.0), headed (Word Key.Raise) refl (joins p.0 y.0 r2 p.1 y.1), F.raise_of p.2 y.2))))
    (found (Word Key.Raise ∷ [], refl, F.raise_alone))

pub statement_sound : (profile : Profile) (i : List Terminal) → Says (At (F.Simple profile) i) (statement profile plain i)
statement_sound profile [] = no_form
statement_sound profile (Word Key.Return ∷ r) =
    says_then _ _ (if_any_sound Stars r) (λ e r1 p. found (Word Key.Return ∷ p.0, headed (Word Key.Return) refl p.1, F.return_of p.2))
statement_sound profile (Word Key.Raise ∷ r) = raise_sound profile r
statement_sound profile (Word Key.Assert ∷ r) =
    says_then _ _ (plain_sound Expression r) (λ e r1 p. says_then _ _ (after_op_sound Sign.Comma Expression r1)
    (λ c r2 y. found (Word Key.Assert ∷ (p.0 ++ y.0), headed (Word Key.Assert) refl (joins p.0 y.0 r2 p.1 y.1), F.assert_of p.2 y.2)))
statement_sound profile (Word Key.Del ∷ r) =
    says_then _ _ (more_sound Expr G.DelTarget (deleted_one plain) deleted_sound (starts (Of Expression)) (suc (length r)) r)
    (λ es r1 p. found (Word Key.Del ∷ p.0, headed (Word Key.Del) refl p.1, F.delete p.2))
statement_sound profile (Word Key.Global ∷ r) = says_then _ _ (always_sound Identifier F.Name read_name name_sound (suc (length r)) r)
    (λ xs r1 p. found (Word Key.Global ∷ p.0, headed (Word Key.Global) refl p.1, F.global p.2))
statement_sound profile (Word Key.Nonlocal ∷ r) = says_then _ _ (always_sound Identifier F.Name read_name name_sound (suc (length r)) r)
    (λ xs r1 p. found (Word Key.Nonlocal ∷ p.0, headed (Word Key.Nonlocal) refl p.1, F.nonlocal p.2))
statement_sound profile (Word Key.Pass ∷ r) = found (Word Key.Pass ∷ [], refl, F.pass)
statement_sound profile (Word Key.Break ∷ r) = found (Word Key.Break ∷ [], refl, F.break)
statement_sound profile (Word Key.Continue ∷ r) = found (Word Key.Continue ∷ [], refl, F.continue)
statement_sound profile (Word Key.Import ∷ r) =
    says_then _ _ (always_sound Alias F.DottedAlias dotted_alias dotted_alias_sound (suc (length r)) r)
    (λ xs r1 p. found (Word Key.Import ∷ p.0, headed (Word Key.Import) refl p.1, F.import_names p.2))
statement_sound profile (Word Key.From ∷ r) =
    says_is _ (import_from_sound r) (λ s r1 p. (Word Key.From ∷ p.0, headed (Word Key.From) refl p.1, p.2))
statement_sound profile (Word x ∷ r) = first_sound profile (Word x ∷ r)
statement_sound profile (t ∷ r) = first_sound profile (t ∷ r)

pub statements_sound : (profile : Profile) (n : ℕ) (i : List Terminal) → Says (At (F.Simples profile) i) (statements profile plain n i)
statements_sound profile zero i = no_form
statements_sound profile (suc n) i = says_then _ _ (statement_sound profile i) (λ s r p. says_op Sign.Semi r _ _
    (λ _ u q. after_semi s r p u q (λ _. statements_sound profile n u))
    (λ _. found (p.0, p.1, F.last_simple p.2)))
  where
    after_semi : (s : Stmt) (r : List Terminal) → At (F.Simple profile) i s r → (u : List Terminal) → r ≡ Op Sign.Semi ∷ u
        → (Unit {0} → Says (At (F.Simples profile) u) (statements profile plain n u))
        → Says (At (F.Simples profile) i)
        (on_none u (Found (s ∷ []) []) (and_then (statements profile plain n u) (λ ss r2. Found (s ∷ ss) r2)))
    after_semi s r p [] q k = found (p.0 ++ (Op Sign.Semi ∷ []), joins p.0 (Op Sign.Semi ∷ []) [] p.1 q, F.ended_simple p.2)
    after_semi s r p (t ∷ u) q k =
        says_then _ _ (k tt)
        (λ ss r2 y. found (
          p.0 ++ (Op Sign.Semi ∷ y.0),
          joins p.0 (Op Sign.Semi ∷ y.0) r2 p.1 (headed (Op Sign.Semi) q y.1),
          F.more_simples p.2 y.2,
        ))
