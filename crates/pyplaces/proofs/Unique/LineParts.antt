-- Parts of lines: lists with commas, what may stand after a sign, parameters of types.
--
-- Carries: after_marked .. type_params_reads, for SimpleForms, HeaderForms. On: Expressions, PatternLooks.
use Rattle.std.proofs.Common.{◌≡◌, refl, sym, ap, ◌∙◌, ℕ, ◌+◌, ◌≤◌, arith, List, [], ◌∷◌, ◌++◌, length, append_assoc, length-append}
use Rattle.std.proofs.Common.{Option, true, false}
use Rattle.std.proofs.lemmas.Bool.{le-leb}
use Rattle.std.specs.Prelude.{leb}
use Rattle.pylex_lexeme.specs.declared.kinds.Exact.TheVariants as Sign
use Rattle.pytoken.specs.declared.keywords.Keyword.TheVariants as Key
use Rattle.pytree_node.specs.declared.profiles.Profile.{Profile}
use Rattle.pytree_node.specs.Trees.{Expr, Identifier, Alias, Item, TypeParam}
use Rattle.pytoken.specs.Terminals.{Terminal, Op, Word}
use Rattle.pygrammar.specs.declared.levels.Level.{Level}
use Rattle.pygrammar.specs.Forms as F
use Rattle.pygrammar.specs.Grammar as G
use Rattle.pyplaces.specs.Stretches.{Stretch, over}
use Rattle.pyplaces.specs.ExpressionPlaces.{places, del_target_places, item_target_places}
use Rattle.pyplaces.specs.FormPlaces.{commas_places, ended_places, after_places, type_param_places, type_params_places}
use Rattle.pyplaces.specs.FormPlaces.{dotted_alias_places, name_alias_places, item_places}
use Rattle.pyplaces.specs.Inner.Looks.{grip, grip_of, lead_of, mark, mark_of}
use Rattle.pyplaces.specs.Inner.ExpressionSteps.{Goes}
use Rattle.pyplaces.specs.Inner.LineSteps.{marked, gripped, aliased, item_target, element_read, element_starts, type_params_read}
use Rattle.pyplaces.specs.Inner.Questions.{Element, AParameter, AnAlias, ADotted, ADeleted, AnItem, AName, Commaed, Module}
use Rattle.pyplaces.specs.Inner.Questions.{Ask}
use Rattle.pyplaces.specs.Inner.Steps.{here, on}
use Rattle.pyplaces.proofs.Unique.Leading.{Comes, via, from, past, miss, untrue, is_true}
use Rattle.pyplaces.proofs.Unique.LookLemmas.{fronted, lead_front}
use Rattle.pyplaces.proofs.Unique.Led.{led}
use Rattle.pyplaces.proofs.Unique.Levels.{Stops, answers}
use Rattle.pyplaces.proofs.Unique.Answered.{Answers, counted, shaped}
use Rattle.pyplaces.proofs.Unique.Operators.{same_true}
use Rattle.pyplaces.proofs.Unique.PatternLooks.{miss_mark}
use Rattle.pyplaces.proofs.Unique.Expressions.{goes}

-- ---- After a sign or word.

pub after_marked : (g : ℕ) {t : Terminal} {l : Level} {ts : List Terminal} {e : Option Expr} (q : F.Following t l ts e) → mark t ≡ g
    → (at : ℕ) (rest : List Terminal) (k : Goes) → (mark_of rest ≡ g → ⊥) → Stops l rest
    → Comes (marked g l at (ts ++ rest) k) (k (after_places at q) (length ts) rest)
after_marked g F.none_after e at rest k n s = miss_mark rest g _ n here
after_marked g (F.following {t = t} {l = l} {ts = ts} p) e at rest k n s = is_true _ (same_true (mark t) g e)
    (via (answers l ts _ (goes p).0 (1 + at) rest _ s) (counted k rest (omega arith)))

pub after_gripped : (g : ℕ) {t : Terminal} {l : Level} {ts : List Terminal} {e : Option Expr} (q : F.Following t l ts e) → grip t ≡ g
    → (at : ℕ) (rest : List Terminal) (k : Goes) → (grip_of rest ≡ g → ⊥) → Stops l rest
    → Comes (gripped g l at (ts ++ rest) k) (k (after_places at q) (length ts) rest)
after_gripped g F.none_after e at rest k n s = miss rest g _ n here
after_gripped g (F.following {t = t} {l = l} {ts = ts} p) e at rest k n s = is_true _ (same_true (grip t) g e)
    (via (answers l ts _ (goes p).0 (1 + at) rest _ s) (counted k rest (omega arith)))

pub after_grip : {t : Terminal} {l : Level} {ts : List Terminal} {e : Option Expr} → F.Following t l ts e → grip t ≤ 8 → (r : List Terminal)
    → grip_of r ≤ 8 → grip_of (ts ++ r) ≤ 8
after_grip F.none_after h r s = s
after_grip (F.following p) h r s = h

-- "as" NAME
pub as_reads : {us : List Terminal} {x : Option Identifier} → F.As us x → (n at : ℕ) (rest : List Terminal) (k : Goes)
    → (mark_of rest ≡ 7 → ⊥) → Comes (aliased n at (us ++ rest) k) (k (over at (n + length us)) (n + length us) rest)
as_reads F.no_as n at rest k s = miss_mark rest 7 _ s here
as_reads F.as_name n at rest k s = here

pub as_mark : {us : List Terminal} {x : Option Identifier} → F.As us x → (r : List Terminal) → mark_of r ≤ 11 → mark_of (us ++ r) ≤ 11
as_mark F.no_as r h = h
as_mark F.as_name r h = omega arith

pub module_reads : {ts : List Terminal} {x : Identifier} → F.Dotted ts x → Answers Module ts (λ at. []) (λ r. mark_of r ≤ 11)
module_reads F.one_name at rest k s = on (miss_mark rest 12 _ (λ q. omega (arith, s, q)) here)
module_reads (F.dot_name {ts = ts} d) at rest k s = on (via (module_reads d (2 + at) rest _ s) (counted k rest (omega arith)))

-- ---- What stands between commas.

abbrev pub NotColon : Element → List Terminal → Type 0
NotColon AParameter r = mark_of r ≡ 4 → ⊥
NotColon _ r = Unit {0}

abbrev pub ElementStops : Element → List Terminal → Type 0
ElementStops x r = (grip_of r ≤ 8) × (mark_of r ≤ 6) × NotColon x r

comma_stops : (x : Element) (r : List Terminal) → ElementStops x (Op Sign.Comma ∷ r)
comma_stops AParameter r = (omega arith, omega arith, λ q. absurd (omega (arith, q)))
comma_stops _ r = (omega arith, omega arith, tt)

abbrev pub ElementReads : Element → List Terminal → (ℕ → List Stretch) → Type 0
ElementReads x ts f = (at : ℕ) (rest : List Terminal) (k : Goes) → ElementStops x rest
    → Comes (element_read x at (ts ++ rest) k) (k (f at) (length ts) rest)

-- a kind of element: what is one, its places, how it begins and is read
module _ (x : Element) (A : Type 0) (X : List Terminal → A → Type 0) (one : (ts : List Terminal) (a : A) → ℕ → X ts a → List Stretch)
    (reads : (ts : List Terminal) (a : A) (p : X ts a) → ElementReads x ts (λ at. one ts a at p))
    (begins : (ts : List Terminal) (a : A) (p : X ts a) (r : List Terminal) → element_starts x (ts ++ r) ≡ true) where
  commas_begin : {ts : List Terminal} {as_ : List A} → F.Commas A X ts as_ → (r : List Terminal) → element_starts x (ts ++ r) ≡ true
  commas_begin (F.alone {ts = ts} {a = a} p) r = begins ts a p r
  commas_begin (F.comma {ts = ts} {us = us} {a = a} p c) r =
      ap (element_starts x) (append_assoc ts (Op Sign.Comma ∷ us) r) ∙ begins ts a p (Op Sign.Comma ∷ (us ++ r))

  pub commas_reads : {ts : List Terminal} {as_ : List A} (c : F.Commas A X ts as_)
      → Answers (Commaed x) ts (λ at. commas_places A X one at c) (λ r. ElementStops x r × (mark_of r ≡ 6 → ⊥))
  commas_reads (F.alone {ts = ts} {a = a} p) at rest k s = on (via (reads ts a p at rest _ s.0) (miss_mark rest 6 _ s.1 here))
  commas_reads (F.comma {ts = ts} {us = us} {a = a} p c) at rest k s =
      shaped (Commaed x) at k (append_assoc ts (Op Sign.Comma ∷ us) rest)
      (on (via (reads ts a p at (Op Sign.Comma ∷ (us ++ rest)) _ (comma_stops x (us ++ rest))) (is_true _ (commas_begin c rest)
      (via (commas_reads c (1 + (at + length ts)) rest _ s)
      (counted k rest (omega (arith, length-append ts (Op Sign.Comma ∷ us))))))))

  -- with a comma after
  comma_after : {ts : List Terminal} {as_ : List A} (c : F.Commas A X ts as_) (at : ℕ) (rest : List Terminal) (k : Goes)
      → element_starts x rest ≡ false
      → Comes (Ask (Commaed x) at (ts ++ (Op Sign.Comma ∷ rest)) k) (k (commas_places A X one at c) (1 + length ts) rest)
  comma_after (F.alone {ts = ts} {a = a} p) at rest k n =
      on (via (reads ts a p at (Op Sign.Comma ∷ rest) _ (comma_stops x rest)) (untrue _ n here))
  comma_after (F.comma {ts = ts} {us = us} {a = a} p c) at rest k n =
      shaped (Commaed x) at k (append_assoc ts (Op Sign.Comma ∷ us) (Op Sign.Comma ∷ rest))
      (on (via (reads ts a p at (Op Sign.Comma ∷ (us ++ (Op Sign.Comma ∷ rest))) _ (comma_stops x (us ++ (Op Sign.Comma ∷ rest))))
      (is_true _ (commas_begin c (Op Sign.Comma ∷ rest)) (via (comma_after c (1 + (at + length ts)) rest _ n)
      (counted k rest (omega (arith, length-append ts (Op Sign.Comma ∷ us))))))))

  pub ended_reads : {ts : List Terminal} {as_ : List A} (c : F.Commas? A X ts as_)
      → Answers (Commaed x) ts (λ at. ended_places A X one at c)
      (λ r. ElementStops x r × (mark_of r ≡ 6 → ⊥) × (element_starts x r ≡ false))
  ended_reads (F.ends_bare c) at rest k s = commas_reads c at rest k (s.0, s.1)
  ended_reads (F.ends_comma {ts = ts} c) at rest k s = shaped (Commaed x) at k (append_assoc ts (Op Sign.Comma ∷ []) rest)
      (via (comma_after c at rest k s.2) (counted k rest (omega (arith, length-append ts (Op Sign.Comma ∷ [])))))

-- ---- The elements.

pub parameter_reads : (ts : List Terminal) (a : TypeParam) (p : F.TypeParamOf ts a)
    → ElementReads AParameter ts (λ at. type_param_places at p)
parameter_reads _ _ (F.type_var {ts = ts} b) at rest k s =
    via (after_marked 4 b refl (1 + at) rest (λ ps n r. k (ps ++ over at (1 + n)) (1 + n) r) s.2 (omega (arith, s.0)))
    (counted k rest (omega arith))
parameter_reads _ _ F.type_var_tuple at rest k s = here
parameter_reads _ _ F.param_spec at rest k s = here

pub parameter_begins : (ts : List Terminal) (a : TypeParam) (p : F.TypeParamOf ts a) (r : List Terminal)
    → element_starts AParameter (ts ++ r) ≡ true
parameter_begins _ _ (F.type_var b) r = refl
parameter_begins _ _ F.type_var_tuple r = refl
parameter_begins _ _ F.param_spec r = refl

pub alias_reads : (ts : List Terminal) (a : Alias) (p : F.NameAlias ts a) → ElementReads AnAlias ts (λ at. name_alias_places at p)
alias_reads _ _ (F.name_as a) at rest k s =
    via (as_reads a 1 at rest k (λ q. omega (arith, q, s.1))) (counted k rest (omega arith))

pub alias_begins : (ts : List Terminal) (a : Alias) (p : F.NameAlias ts a) (r : List Terminal) → element_starts AnAlias (ts ++ r) ≡ true
alias_begins _ _ (F.name_as a) r = refl

pub dotted_alias_reads : (ts : List Terminal) (a : Alias) (p : F.DottedAlias ts a)
    → ElementReads ADotted ts (λ at. dotted_alias_places at p)
dotted_alias_reads _ _ (F.dotted_as {ts = ts} {us = us} d a) at rest k s =
    from (ap (λ z. element_read ADotted at z k) (append_assoc ts us rest))
    (via (module_reads d at (us ++ rest) _ (as_mark a rest (omega (arith, s.1))))
    (via (as_reads a (length ts) at rest k (λ q. omega (arith, q, s.1))) (counted k rest (sym (length-append ts us)))))

dotted_begins : {ts : List Terminal} {x : Identifier} → F.Dotted ts x → (r : List Terminal) → leb 9 (lead_of (ts ++ r)) ≡ true
dotted_begins F.one_name r = refl
dotted_begins (F.dot_name d) r = refl

pub dotted_alias_begins : (ts : List Terminal) (a : Alias) (p : F.DottedAlias ts a) (r : List Terminal)
    → element_starts ADotted (ts ++ r) ≡ true
dotted_alias_begins _ _ (F.dotted_as {ts = ts} {us = us} d a) r =
    ap (λ z. leb 9 (lead_of z)) (append_assoc ts us r) ∙ dotted_begins d (us ++ r)

pub deleted_reads : (ts : List Terminal) (a : Expr) (p : G.DelTarget ts a) → ElementReads ADeleted ts (λ at. del_target_places at p)
deleted_reads _ _ (G.del_target p h) at rest k s = (goes p).0 at rest k s.0

pub deleted_begins : (ts : List Terminal) (a : Expr) (p : G.DelTarget ts a) (r : List Terminal) → element_starts ADeleted (ts ++ r) ≡ true
deleted_begins _ _ (G.del_target {ts = ts} p h) r = le-leb 9 (lead_of (ts ++ r)) (lead_front ts r 9 (omega arith) (led p))

item_target_reads : {ts : List Terminal} {t : Expr} (p : G.ItemTarget ts t) (at : ℕ) (rest : List Terminal) (k : Goes) → grip_of rest ≤ 8
    → Comes (item_target at (ts ++ rest) k) (k (item_target_places at p) (length ts) rest)
item_target_reads (G.item_target {ts = ts} p h) at rest k s = past _ (fronted ts rest 7 (omega (arith, led p))) ((goes p).0 at rest k s)
item_target_reads (G.star_target {ts = ts} p h) at rest k s = via ((goes p).0 (1 + at) rest _ s) (counted k rest (omega arith))

pub item_reads : (ts : List Terminal) (a : Item) (p : F.ItemOf ts a) → ElementReads AnItem ts (λ at. item_places at p)
item_reads _ _ (F.bare_item p) at rest k s = via ((goes p).0 at rest _ s.0) (miss_mark rest 7 _ (λ q. omega (arith, q, s.1)) here)
item_reads _ _ (F.item_as {ts = ts} {us = us} p t) at rest k s =
    from (ap (λ z. element_read AnItem at z k) (append_assoc ts (Word Key.As ∷ us) rest))
    (via ((goes p).0 at (Word Key.As ∷ (us ++ rest)) _ (omega arith))
    (via (item_target_reads t (1 + (at + length ts)) rest (λ qs m r. k (places at p ++ qs) (1 + (length ts + m)) r) s.0)
    (counted k rest (omega (arith, length-append ts (Word Key.As ∷ us))))))

pub item_begins : (ts : List Terminal) (a : Item) (p : F.ItemOf ts a) (r : List Terminal) → element_starts AnItem (ts ++ r) ≡ true
item_begins _ _ (F.bare_item {ts = ts} p) r = le-leb 9 (lead_of (ts ++ r)) (lead_front ts r 9 (omega arith) (led p))
item_begins _ _ (F.item_as {ts = ts} {us = us} p t) r =
    ap (λ z. leb 9 (lead_of z)) (append_assoc ts (Word Key.As ∷ us) r)
    ∙ le-leb 9 (lead_of (ts ++ (Word Key.As ∷ (us ++ r)))) (lead_front ts (Word Key.As ∷ (us ++ r)) 9 (omega arith) (led p))

-- a NAME has no place
abbrev pub no_places : (ts : List Terminal) (a : Identifier) → ℕ → F.Name ts a → List Stretch
no_places ts a at p = []

pub name_reads : (ts : List Terminal) (a : Identifier) (p : F.Name ts a) → ElementReads AName ts (λ at. no_places ts a at p)
name_reads _ _ F.name at rest k s = here

pub name_begins : (ts : List Terminal) (a : Identifier) (p : F.Name ts a) (r : List Terminal) → element_starts AName (ts ++ r) ≡ true
name_begins _ _ F.name r = refl

-- ---- Parameters of types.

pub type_params_reads : {profile : Profile} {ts : List Terminal} {ps : List TypeParam} (c : F.TypeParams profile ts ps) (at : ℕ)
    (r : List Terminal) (k : Goes) → (mark_of r ≡ 14 → ⊥)
    → Comes (type_params_read at (ts ++ r) k) (k (type_params_places at c) (length ts) r)
type_params_reads F.no_type_params at r k n = miss_mark r 14 _ n here
type_params_reads (F.type_params {ts = ts} h c) at r k n =
    from (ap (λ z. type_params_read at (Op Sign.LSqb ∷ z) k) (append_assoc ts (Op Sign.RSqb ∷ []) r))
    (via (ended_reads AParameter TypeParam F.TypeParamOf (λ ts a. type_param_places) parameter_reads parameter_begins c (1 + at)
    (Op Sign.RSqb ∷ r) _ ((omega arith, omega arith, λ q. absurd (omega (arith, q))), λ q. absurd (omega (arith, q)), refl))
    (counted k r (omega (arith, length-append ts (Op Sign.RSqb ∷ [])))))
