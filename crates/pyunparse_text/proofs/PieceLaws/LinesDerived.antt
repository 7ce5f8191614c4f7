-- Carries: the laws of pieces. On: what the forms of lines of tokens give can be written, and what
-- is written is read back.
use Rattle.std.proofs.Common.{◌≡◌, ℕ, zero, suc, ◌<◌, ◌==◌, Bool, true, false, List, [], ◌∷◌, ◌++◌, Option, Some, None, refl, sym}
use Rattle.std.proofs.Common.{subst, arith}
use Rattle.std.specs.List.{list_all}
use Rattle.std.proofs.lemmas.Bool.{and_parts, eqb-true}
use Rattle.unicode_ident.specs.Ident.{is_xid_continue}
use Rattle.unicode_ident.proofs.IdentLemmas.{is_xid_continue-ascii}
use Rattle.pylex_lexeme.specs.declared.kinds.Exact.TheVariants as Sign
use Rattle.pylex_lexeme.specs.Chars.{starts_name}
use Rattle.pylex_lexeme.specs.Lexemes.{is_name}
use Rattle.pylex_lexeme.proofs.Callers.Lexemes.{start_continues}
use Rattle.pytree_node.specs.declared.profiles.Extent.{Extent}
use Rattle.pytree_node.specs.declared.profiles.Profile.{Profile}
use Rattle.pytree_node.specs.declared.operators.Context.TheVariants.{Load, Store, Del}
use Rattle.pytoken.specs.declared.keywords.Keyword.TheVariants as Key
use Rattle.pygrammar.specs.declared.levels.Level.{Level}
use Rattle.pygrammar.specs.declared.levels.Level.TheVariants.{Value, Named}
use Rattle.pytree_node.specs.Trees
use Rattle.pytree_node.specs.Trees.{Identifier, Expr, Exprs, no_exprs, an_expr, exprs, Alias, Item, TypeParam, Stmt, Keywords}
use Rattle.pytoken.specs.Terminals.{Terminal, Op, Word, Ident}
use Rattle.pytoken.specs.Laws.{IsProper}
use Rattle.pygrammar.specs.Arguments.{positional}
use Rattle.pygrammar.specs.Targets.{deleted, all_deleted, single_stored}
use Rattle.pygrammar.specs.Lines.{Header}
use Rattle.pygrammar.specs.Grammar as G
use Rattle.pygrammar.specs.DottedNames.{names_in}
use Rattle.pygrammar.specs.Forms as F
use Rattle.pyunparse_text.specs.Terminals.{terminal}
use Rattle.pyunparse_text.specs.Pieces.{piece}
use Rattle.pyunparse_text.specs.Statements as S
use Rattle.pyunparse_text.proofs.Fewest.Less.{star_place}
use Rattle.pyunparse_text.proofs.Fewest.Claims.{given}
use Rattle.pyunparse_text.proofs.Fewest.Clauses.{mapped_is, both_is}
use Rattle.pyunparse_text.proofs.PieceLaws.Sound.{Writable, AreWritable, WritableKeywords}
use Rattle.pyunparse_text.proofs.PieceLaws.Places.{open_place}
use Rattle.pyunparse_text.proofs.PieceLaws.SaidLists.{Closing}
use Rattle.pyunparse_text.proofs.PieceLaws.LineClosings.{name_close, type_close, types_close, dotted_close, dotted_alias_close}
use Rattle.pyunparse_text.proofs.PieceLaws.LineClosings.{name_alias_close}
use Rattle.pyunparse_text.proofs.PieceLaws.LineClosings.{dots_close, targets_close, item_close, async_close}
use Rattle.pygrammar.specs.OpenStrings.{Open, open_following}
use Rattle.pygrammar.proofs.Callers.OpenStrings.{expression_closes, target_closes, single_target_closes, del_target_closes, listing_closes}
use Rattle.pygrammar.proofs.Callers.OpenStrings.{pattern_closes}
use Rattle.pyunparse_text.proofs.PieceLaws.Derived.{Said, front, back, rest, first, following, starred, stored_sound, sound, listing_fine}
use Rattle.pyunparse_text.proofs.PieceLaws.Derived.{positional_sound, keywords_sound, arranged_sound}
use Rattle.pyunparse_text.proofs.PieceLaws.Shapes.{keyword}
use Rattle.pyunparse_text.proofs.PieceLaws.Readable.{readable, each_expression}
use Rattle.pyunparse_text.proofs.PieceLaws.Law.{Reads, closed_read}
use Rattle.pyunparse_text.proofs.PieceLaws.LineForms.{SoundOption, MaybeProper, AreProper, word_value, word_plain, option_stars, raise_are}
use Rattle.pyunparse_text.proofs.PieceLaws.LineForms.{plain_listed, names_each, assign_are, augment_are, annotate_are, assert_are}
use Rattle.pyunparse_text.proofs.PieceLaws.LineForms.{SoundType}
use Rattle.pyunparse_text.proofs.PieceLaws.LineForms.{SoundTypes, type_alias_are}
use Rattle.pyunparse_text.proofs.PieceLaws.Imports.{later_read, SoundNames, SoundUnless, SoundAliases, import_are, from_plain, from_points}
use Rattle.pyunparse_text.proofs.PieceLaws.HeaderForms.{SoundItems, SoundHeader}
use Rattle.pyunparse_text.proofs.Patterns.Sound.{pattern_sound}
use Rattle.pyunparse_text.proofs.Modules.Wells.{HeadOf, other_head, match_head, case_head}
use Rattle.pyunparse_text.proofs.Modules.Headers.{exprs_listed}

not_point : (c : ℕ) → is_xid_continue c ≡ true → (c == 46) ≡ false
not_point c h = by (c == 46) refl
  where
    by : (b : Bool) → (c == 46) ≡ b → b ≡ false
    by false e = refl
    by true e = let z : is_xid_continue 46 ≡ true = subst (λ (x : ℕ). is_xid_continue x ≡ true) (eqb-true c 46 e) h in let y =
        is_xid_continue-ascii 46 (omega arith) in absurd (cc)

abbrev pointless : List ℕ → Bool
pointless t = list_all is_xid_continue t

name_pointless : (t : List ℕ) → is_name t ≡ true → pointless t ≡ true
unfolding is_name
name_pointless [] h = refl
name_pointless (c ∷ cs) h = let w = and_parts (starts_name c) (list_all is_xid_continue cs) h in let s =
    start_continues c w.0 in rw (s, w.1) refl

one_in : (t : List ℕ) → pointless t ≡ true → names_in t ≡ t ∷ []
one_in [] h = refl
one_in (c ∷ cs) h = let w = and_parts (is_xid_continue c) (pointless cs) h in let n = not_point c w.0 in let r =
    one_in cs w.1 in rw (n, r) refl

names_after : (t y : List ℕ) → pointless t ≡ true → names_in (t ++ (46 ∷ y)) ≡ t ∷ names_in y
names_after [] y h = refl
names_after (c ∷ cs) y h = let w = and_parts (is_xid_continue c) (pointless cs) h in let n = not_point c w.0 in let r =
    names_after cs y w.1 in rw (n, r) refl

abbrev SoundAlias : Alias → Type 0
SoundAlias a = AreProper (names_in a.name) × MaybeProper a.asname

abbrev SoundName : Alias → Type 0
SoundName a = IsProper a.name × MaybeProper a.asname

unless : (b : Bool) (as_ : List Alias) → SoundNames as_ → SoundUnless b as_
unless true as_ h = tt
unless false as_ h = h

-- ---- Lists with commas.

module _ {extent : Extent} (A : Type 0) (X : List Terminal → A → Type 0) (P : A → Type 0) (Q : List A → Type 0) (none : Q [])
    (more : (a : A) (as_ : List A) → P a → Q as_ → Q (a ∷ as_)) (one : (ts : List Terminal) (a : A) → X ts a → Said extent [] ts → P a)
    (each : (ts : List Terminal) (a : A) → X ts a → Closing ts) where
  commas_said : {ts : List Terminal} {as_ : List A} → F.Commas A X ts as_ → Said extent [] ts → Q as_
  commas_said (F.alone {ts = ts} {a = a} p) h = more a [] (one ts a p h) none
  commas_said (F.comma {ts = ts} {us = us} {a = a} {as_ = as_} p c) h =
      more a as_ (one ts a p (front ts (Op Sign.Comma ∷ us) h)) (commas_said c (following ts us (Op Sign.Comma) (each ts a p) h))

  last_said : {ts : List Terminal} {as_ : List A} → F.Commas? A X ts as_ → Said extent [] ts → Q as_
  last_said (F.ends_bare c) h = commas_said c h
  last_said (F.ends_comma {ts = ts} c) h = commas_said c (front ts (Op Sign.Comma ∷ []) h)

module _ (extent : Extent) where
  -- ---- Expressions.

  perhaps_said : {l : Level} {ts : List Terminal} {e : Option Expr} → F.Perhaps l ts e → Said extent [] ts
      → SoundOption (open_place extent) (star_place l) e
  perhaps_said F.left_out h = tt
  perhaps_said (F.given p) h = sound extent p h

  after_said : {t : Terminal} {l : Level} {ts : List Terminal} {e : Option Expr} → ((o : Open) → open_following o t ≡ o) → F.Following t l ts e
      → Said extent [] ts → SoundOption (open_place extent) (star_place l) e
  after_said n F.none_after h = tt
  after_said n (F.following {ts = ts} p) h = sound extent p (subst (λ o. Said extent o ts) (n []) (rest h))

  as_said : {ts : List Terminal} {x : Option Identifier} → F.As ts x → Said extent [] ts → MaybeProper x
  as_said F.no_as h = tt
  as_said F.as_name h = first (rest h)

  target_said : {ts : List Terminal} {s : Expr} → G.Target ts s → Said extent [] ts → Writable (open_place extent) true s
  target_said (G.target {e = e} {s = s} p q) h = stored_sound extent true e s q (sound extent p h)

  single_stored_sound : (e s : Expr) → single_stored e ≡ Some s → Writable (open_place extent) false e
      → Writable (open_place extent) false s
  single_stored_sound (Trees.Name x c) s q h = given (Writable (open_place extent) false) q h
  single_stored_sound (Trees.Attribute e x c) s q h = given (Writable (open_place extent) false) q h
  single_stored_sound (Trees.Subscript e i c) s q h = given (Writable (open_place extent) false) q h
  single_stored_sound _ s q h = absurd (cc)

  single_said : {ts : List Terminal} {s : Expr} → G.SingleTarget ts s → Said extent [] ts → Writable (open_place extent) false s
  single_said (G.single_target {e = e} {s = s} p q) h = single_stored_sound e s q (sound extent p h)

  -- a target of `del` is no Starred, nor is a member of one
  mutual
    deleted_sound : (b : Bool) (e s : Expr) → deleted e ≡ Some s → Writable (open_place extent) b e → Writable (open_place extent) false s
    deleted_sound b (Trees.Name x c) s q h = given (Writable (open_place extent) false) q h
    deleted_sound b (Trees.Attribute e x c) s q h = given (Writable (open_place extent) false) q h
    deleted_sound b (Trees.Subscript e i c) s q h = given (Writable (open_place extent) false) q h
    deleted_sound b (Trees.Tuple es c) s q h = let w = mapped_is (λ fs. Trees.Tuple fs Del) (all_deleted es) s q in
        subst (Writable (open_place extent) false) w.2 (all_deleted_sound es w.0 w.1 h)
    deleted_sound b (Trees.ListOf es c) s q h = let w = mapped_is (λ fs. Trees.ListOf fs Del) (all_deleted es) s q in
        subst (Writable (open_place extent) false) w.2 (all_deleted_sound es w.0 w.1 h)
    deleted_sound b _ s q h = absurd (cc)

    all_deleted_sound : (es fs : Exprs) → all_deleted es ≡ Some fs → AreWritable (open_place extent) true es
        → AreWritable (open_place extent) true fs
    all_deleted_sound no_exprs fs q h = given (AreWritable (open_place extent) true) q h
    all_deleted_sound (an_expr e es) fs q h = let w = both_is (deleted e) (all_deleted es) fs q in
        subst (AreWritable (open_place extent) true) w.4 (
          starred extent false w.0 (deleted_sound true e w.0 w.2 h.0),
          all_deleted_sound es w.1 w.3 h.1,
        )

  del_said : (ts : List Terminal) (s : Expr) → G.DelTarget ts s → Said extent [] ts → Writable (open_place extent) false s
  del_said _ _ (G.del_target {e = e} {s = s} p q) h = deleted_sound false e s q (sound extent p h)

  item_target_said : {ts : List Terminal} {s : Expr} → G.ItemTarget ts s → Said extent [] ts → Writable (open_place extent) true s
  item_target_said (G.item_target {e = e} {s = s} p q) h = stored_sound extent true e s q (starred extent false e (sound extent p h))
  item_target_said (G.star_target {e = e} {s = s} p q) h = stored_sound extent true (Trees.Starred e Load) s q (
    refl,
    sound extent p (rest h),
  )

  name_said : (ts : List Terminal) (x : Identifier) → F.Name ts x → Said extent [] ts → IsProper x
  name_said _ _ F.name h = first h

  names_said : {ts : List Terminal} {xs : List Identifier} → F.Commas Identifier F.Name ts xs → Said extent [] ts → AreProper xs
  names_said c h = commas_said Identifier F.Name IsProper AreProper tt (λ x xs p q. (p, q)) name_said name_close c h

  deleted_said : {ts : List Terminal} {es : List Expr} → F.Commas? Expr G.DelTarget ts es → Said extent [] ts
      → AreWritable (open_place extent) false (exprs es)
  deleted_said c h =
      last_said Expr G.DelTarget (Writable (open_place extent) false) (λ es. AreWritable (open_place extent) false (exprs es)) tt
      (λ e es p q. (p, q)) del_said (λ ts e p. del_target_closes p) c h

  type_said : (ts : List Terminal) (p : TypeParam) → F.TypeParamOf ts p → Said extent [] ts → SoundType (open_place extent) p
  type_said _ _ (F.type_var b) h = (first h, after_said (λ o. refl) b (rest h))
  type_said _ _ F.type_var_tuple h = first (rest h)
  type_said _ _ F.param_spec h = first (rest h)

  types_said : {profile : Profile} {ts : List Terminal} {ps : List TypeParam} → F.TypeParams profile ts ps → Said extent [] ts
      → SoundTypes (open_place extent) ps
  types_said F.no_type_params h = tt
  types_said (F.type_params {ts = ts} q c) h =
      last_said TypeParam F.TypeParamOf (SoundType (open_place extent)) (SoundTypes (open_place extent)) tt
      (λ p ps a b. (a, b)) type_said type_close c (front ts (Op Sign.RSqb ∷ []) (rest h))

  -- ---- Imports. No name has a point in it.

  dotted_said : {ts : List Terminal} {x : Identifier} → F.Dotted ts x → Said extent [] ts → AreProper (names_in x)
  dotted_said (F.one_name {x = x}) h = let p : IsProper x.form = first h in
      subst AreProper (sym (one_in x.form (name_pointless x.form p.name))) (p, tt)
  dotted_said (F.dot_name {x = x} {y = y} d) h = let p : IsProper x.form = first h in
      subst AreProper (sym (names_after x.form y (name_pointless x.form p.name))) (p, dotted_said d (rest (rest h)))

  dotted_alias_said : (ts : List Terminal) (a : Alias) → F.DottedAlias ts a → Said extent [] ts → SoundAlias a
  dotted_alias_said _ _ (F.dotted_as {ts = ts} {us = us} p q) h = (dotted_said p (front ts us h), as_said q (back ts us (dotted_close p) h))

  aliases_said : {ts : List Terminal} {as_ : List Alias} → F.Commas Alias F.DottedAlias ts as_ → Said extent [] ts → SoundAliases as_
  aliases_said c h = commas_said Alias F.DottedAlias SoundAlias SoundAliases tt (λ a as_ p q. (p.0, p.1, q))
      dotted_alias_said dotted_alias_close c h

  name_alias_said : (ts : List Terminal) (a : Alias) → F.NameAlias ts a → Said extent [] ts → SoundName a
  name_alias_said _ _ (F.name_as q) h = (first h, as_said q (rest h))

  imported_said : {ts : List Terminal} {as_ : List Alias} → F.Names ts as_ → Said extent [] ts → SoundUnless (S.are_all as_) as_
  imported_said F.all_names h = tt
  imported_said (F.names {as_ = as_} c) h =
      unless (S.are_all as_) as_
      (commas_said Alias F.NameAlias SoundName SoundNames tt (λ a as_ p q. (p.0, p.1, q)) name_alias_said name_alias_close c h)
  imported_said (F.bracketed_names {ts = ts} {as_ = as_} c) h =
      unless (S.are_all as_) as_
      (last_said Alias F.NameAlias SoundName SoundNames tt (λ a as_ p q. (p.0, p.1, q)) name_alias_said name_alias_close c
      (front ts (Op Sign.RPar ∷ []) (rest h)))

  from_read : (n : ℕ) (m : Identifier) (as_ : List Alias) → AreProper (names_in m) → SoundUnless (S.are_all as_) as_
      → Reads extent (S.simple_tokens piece (Trees.ImportFrom (Some m) as_ n)) (S.simple_tokens terminal (Trees.ImportFrom (Some m) as_ n))
  from_read zero m as_ h i = closed_read (from_plain m as_ h i)
  from_read (suc n) m as_ h i = later_read (from_points n (Some m) as_ h i)

  points_read : (n : ℕ) (as_ : List Alias) → 0 < n → SoundUnless (S.are_all as_) as_
      → Reads extent (S.simple_tokens piece (Trees.ImportFrom None as_ n)) (S.simple_tokens terminal (Trees.ImportFrom None as_ n))
  points_read zero as_ z i = absurd (omega (arith, z))
  points_read (suc n) as_ z i = later_read (from_points n None as_ tt i)

  -- ---- Simple statements.

  targets_said : {ts : List Terminal} {es : List Expr} → F.Targets ts es → Said extent [] ts
      → AreWritable (open_place extent) true (exprs es)
  targets_said (F.last_target {ts = ts} p) h = (target_said p (front ts (Op Sign.Equal ∷ []) h), tt)
  targets_said (F.more_targets {ts = ts} {us = us} p c) h =
      (target_said p (front ts (Op Sign.Equal ∷ us) h), targets_said c (following ts us (Op Sign.Equal) (target_closes p) h))

  pub simple_read : {profile : Profile} {ts : List Terminal} {s : Stmt} → F.Simple profile ts s → Said extent [] ts
      → Reads extent (S.simple_tokens piece s) (S.simple_tokens terminal s)
  simple_read (F.value {e = e} p) h = closed_read (readable true Value e (sound extent p h))
  simple_read (F.assign {ts = ts} {us = us} {targets = targets} {e = e} c p) h =
      closed_read (assign_are targets e (targets_said c (front ts us h)) (sound extent p (back ts us (targets_close c) h)))
  simple_read (F.augmented_assign {ts = ts} {us = us} x {o = o} {t = t} {e = e} p q r) h =
      closed_read (augment_are t o e (single_said p (front ts (Op x ∷ us) h))
      (sound extent r (following ts us (Op x) (single_target_closes p) h)))
  simple_read (F.annotated_name {x = x} {ts = ts} {us = us} {a = a} {v = v} p q) h =
      let w = rest (rest h) in
      closed_read
      (annotate_are (Trees.Name x.form Store) a v true (first h) (sound extent p (front ts us w))
      (after_said (λ o. refl) q (back ts us (expression_closes p) w)))
  simple_read (F.annotated_group {ts = ts} {us = us} {vs = vs} {t = t} {a = a} {v = v} p q r) h =
      let w = rest (following ts (Op Sign.Colon ∷ (us ++ vs)) (Op Sign.RPar) (single_target_closes p) (rest h)) in
      closed_read
      (annotate_are t a v false (single_said p (front ts (Op Sign.RPar ∷ (Op Sign.Colon ∷ (us ++ vs))) (rest h)))
      (sound extent q (front us vs w))
      (after_said (λ o. refl) r (back us vs (expression_closes q) w)))
  simple_read (F.annotated_part {ts = ts} {us = us} {vs = vs} {t = t} {a = a} {v = v} p n q r) h =
      let w = following ts (us ++ vs) (Op Sign.Colon) (single_target_closes p) h in
      closed_read
      (annotate_are t a v false (single_said p (front ts (Op Sign.Colon ∷ (us ++ vs)) h)) (sound extent q (front us vs w))
      (after_said (λ o. refl) r (back us vs (expression_closes q) w)))
  simple_read (F.type_alias {x = x} {ts = ts} {us = us} {ps = ps} {e = e} q c p) h =
      let w = rest (rest h) in
      closed_read
      (type_alias_are (Trees.Name x.form Store) ps e (first (rest h)) (types_said c (front ts (Op Sign.Equal ∷ us) w))
      (sound extent p (following ts us (Op Sign.Equal) (types_close c) w)))
  simple_read (F.return_of {e = e} p) h = closed_read (word_value Key.Return (option_stars e (perhaps_said p (rest h))))
  simple_read F.raise_alone h = closed_read (raise_are None None tt tt)
  simple_read (F.raise_of {ts = ts} {us = us} {e = e} {c = c} p q) h =
      closed_read
      (raise_are (Some e) c (sound extent p (front ts us (rest h))) (after_said (λ o. refl) q (back ts us (expression_closes p) (rest h))))
  simple_read (F.assert_of {ts = ts} {us = us} {e = e} {m = m} p q) h =
      closed_read (assert_are e m (sound extent p (front ts us (rest h)))
      (after_said (λ o. refl) q (back ts us (expression_closes p) (rest h))))
  simple_read (F.delete {es = es} c) h =
      closed_read (word_plain Key.Del (plain_listed (each_expression (exprs es) (deleted_said c (rest h)))))
  simple_read (F.global {xs = xs} c) h = closed_read (word_plain Key.Global (plain_listed (names_each xs (names_said c (rest h)))))
  simple_read (F.nonlocal {xs = xs} c) h = closed_read (word_plain Key.Nonlocal (plain_listed (names_each xs (names_said c (rest h)))))
  simple_read F.pass h = closed_read (keyword Key.Pass)
  simple_read F.break h = closed_read (keyword Key.Break)
  simple_read F.continue h = closed_read (keyword Key.Continue)
  simple_read (F.import_names {as_ = as_} c) h = closed_read (import_are as_ (aliases_said c (rest h)))
  simple_read (F.from_module {ts = ts} {us = us} {vs = vs} {n = n} {m = m} {as_ = as_} p q c) h =
      let w = back ts (us ++ (Word Key.Import ∷ vs)) (dots_close p) (rest h) in
      from_read n m as_ (dotted_said q (front us (Word Key.Import ∷ vs) w))
      (imported_said c (following us vs (Word Key.Import) (dotted_close q) w))
  simple_read (F.from_dots {ts = ts} {vs = vs} {n = n} {as_ = as_} p z c) h =
      points_read n as_ z (imported_said c (following ts vs (Word Key.Import) (dots_close p) (rest h)))

  -- ---- Headers.

  item_said : (ts : List Terminal) (i : Item) → F.ItemOf ts i → Said extent [] ts
      → Writable (open_place extent) false i.context_expr × SoundOption (open_place extent) true i.optional_vars
  item_said _ _ (F.bare_item p) h = (sound extent p h, tt)
  item_said _ _ (F.item_as {ts = ts} {us = us} p q) h =
      (sound extent p (front ts (Word Key.As ∷ us) h), item_target_said q (following ts us (Word Key.As) (expression_closes p) h))

  abbrev SoundItem : Item → Type 0
  SoundItem i = Writable (open_place extent) false i.context_expr × SoundOption (open_place extent) true i.optional_vars

  bracketed_said : {ts : List Terminal} {is : List Item} → F.Bracketed ts is → Said extent [] ts → SoundItems extent is
  bracketed_said (F.bracketed {ts = ts} c) h =
      last_said Item F.ItemOf SoundItem (SoundItems extent) tt (λ i is p q. (p.0, p.1, q)) item_said item_close c
      (front ts (Op Sign.RPar ∷ []) (rest h))

  items_said : {ts : List Terminal} {is : List Item} → F.Items ts is → Said extent [] ts → SoundItems extent is
  items_said (F.in_brackets b) h = bracketed_said b h
  items_said (F.without c n) h = commas_said Item F.ItemOf SoundItem (SoundItems extent) tt (λ i is p q. (p.0, p.1, q))
      item_said item_close c h

  bases_said : {ts : List Terminal} {es : List Expr} {ks : Keywords} → F.Bases ts es ks → Said extent [] ts
      → AreWritable (open_place extent) true (exprs es) × WritableKeywords (open_place extent) ks
  bases_said F.no_bases h = (tt, tt)
  bases_said (F.bases {ts = ts} {es = es} c q) h =
      let f = listing_fine extent c (front ts (Op Sign.RPar ∷ []) (rest h)) in (
        subst (AreWritable (open_place extent) true) (sym (exprs_listed (positional es))) (positional_sound extent es f),
        keywords_sound extent es f,
      )

  other_said : {profile : Profile} {ts : List Terminal} {h : Header} → F.HeaderOf profile ts h → Said extent [] ts → SoundHeader extent h
  other_said (F.if_line p) h = sound extent p (rest h)
  other_said (F.elif_line p) h = sound extent p (rest h)
  other_said F.else_line h = tt
  other_said (F.while_line p) h = sound extent p (rest h)
  other_said (F.for_line {ts = ts} {us = us} {vs = vs} a t p) h =
      let w = following ts (us ++ (Word Key.In ∷ vs)) (Word Key.For) (async_close a) h in
      (target_said t (front us (Word Key.In ∷ vs) w), sound extent p (following us vs (Word Key.In) (target_closes t) w))
  other_said (F.with_line {ts = ts} {us = us} a p) h = items_said p (following ts us (Word Key.With) (async_close a) h)
  other_said F.try_line h = tt
  other_said F.finally_line h = tt
  other_said F.except_all h = (tt, tt)
  other_said (F.except_line {ts = ts} {us = us} p q) h =
      (sound extent p (front ts us (rest h)), as_said q (back ts us (expression_closes p) (rest h)))
  other_said (F.except_star {ts = ts} {us = us} p q) h =
      (sound extent p (front ts us (rest (rest h))), as_said q (back ts us (expression_closes p) (rest (rest h))))
  other_said (F.def_line {ts = ts} {us = us} {vs = vs} {ws = ws} x {ps = ps} {a = args} y t c q r) h =
      let n = following ts (Ident x ∷ (us ++ (Op Sign.LPar ∷ (vs ++ (Op Sign.RPar ∷ ws))))) (Word Key.Def) (async_close y) h in
      let w = following us (vs ++ (Op Sign.RPar ∷ ws)) (Op Sign.LPar) (types_close t) (rest n) in (
        first n,
        types_said t (front us (Op Sign.LPar ∷ (vs ++ (Op Sign.RPar ∷ ws)))
            (rest n)),
        arranged_sound extent ps args q (listing_fine extent c (front vs (Op Sign.RPar ∷ ws) w)),
        after_said (λ o. refl) r (following vs ws (Op Sign.RPar) (listing_closes c) w),
      )
  other_said (F.class_line {ts = ts} {us = us} t b) h =
      let w = rest (rest h) in
      let v = bases_said b (back ts us (types_close t) w) in
      (first (rest h), types_said t (front ts us w), v.0, v.1)

  pub header_said : {profile : Profile} {ts : List Terminal} {h : Header} → HeadOf profile ts h → Said extent [] ts → SoundHeader extent h
  header_said (other_head p) h = other_said p h
  header_said (match_head form w p) h = sound extent p (rest h)
  header_said (case_head w (F.case_line {ts = ts} {us = us} form p g)) h =
      (pattern_sound extent p (front ts us (rest h)), after_said (λ o. refl) g (back ts us (pattern_closes p) (rest h)))

  pub decorator_said : {ts : List Terminal} {e : Expr} → G.Derives Named ts e → Said extent [] ts → Writable (open_place extent) false e
  decorator_said p h = sound extent p h
