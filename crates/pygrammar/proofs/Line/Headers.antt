-- Completeness for headers, but for the two readings of `with`.
--
-- Carries: header_by, items_goes, bracketed_goes, for With, Law. On: Tools, Keeps,
-- LookLemmas, Comps and 5 more.
use Rattle.std.proofs.Common.{◌≡◌, ◌⊎◌, inl, inr, refl, sym, ap, ◌∙◌, ℕ, suc, ◌≤◌, arith, List, [], ◌∷◌, ◌++◌, length, Option, Some, None}
use Rattle.std.proofs.Common.{Bool, true, false, append_assoc}
use Rattle.std.specs.Prelude.{max}
use Rattle.pylex_lexeme.specs.declared.kinds.Exact.TheVariants as Sign
use Rattle.pytoken.specs.declared.keywords.Keyword.TheVariants as Key
use Rattle.pytree_node.specs.declared.operators.Operator.{Operator}
use Rattle.pytree_node.specs.declared.operators.UnaryOperator.{UnaryOperator}
use Rattle.pytree_node.specs.declared.operators.BoolOperator.{BoolOperator}
use Rattle.pytree_node.specs.declared.operators.BoolOperator.TheVariants as Join
use Rattle.pytree_node.specs.declared.operators.Context.TheVariants.{Load}
use Rattle.pytree_node.specs.declared.profiles.Profile.{Profile}
use Rattle.pygrammar.specs.declared.levels.Level.{Level}
use Rattle.pygrammar.specs.declared.levels.Level.TheVariants.{Stars, StarItem, Expression}
use Rattle.pytree_node.specs.Trees.{Expr, Keywords, an_expr, Identifier, Arguments, TypeParam}
use Rattle.pytree_node.specs.Trees as Trees
use Rattle.pytoken.specs.Terminals.{Spelled, Terminal, Op, Word, Ident}
use Rattle.pygrammar.specs.Looks.{is_op, is_word}
use Rattle.pygrammar.specs.Operators.{below, left_operator, prefix_operator, chain_level}
use Rattle.pygrammar.specs.Entries.{Item, Of, Argument, Parameter, Entry, singles}
use Rattle.pygrammar.specs.Targets.{stored}
use Rattle.pygrammar.specs.Parameters.{arranged}
use Rattle.pygrammar.specs.Grammar as G
use Rattle.pygrammar.specs.Reader.{Answer, Found, NoForm, and_then, on_some, made, listing_of, read_target, read}
use Rattle.pygrammar.specs.Precedence.{starts}
use Rattle.pygrammar.proofs.Answers.{deep_found}
use Rattle.pygrammar.proofs.Completeness.LookLemmas.{grip_of, lead_of, pass_op}
use Rattle.pygrammar.proofs.Completeness.Climb.{unroll, answers}
use Rattle.pygrammar.proofs.Completeness.LevelLemmas.{led, stars_step}
use Rattle.pygrammar.proofs.Completeness.Comps.{ListEnds, Separable, starts_low}
use Rattle.pygrammar.proofs.Completeness.Complete.{goes, listing_all}
use Rattle.pygrammar.proofs.Depths.Keeps.{Keeps, AllKeep, light_read, k_listing_of, k_target}
use Rattle.pygrammar.proofs.Depths.Whole.{final, target_front}
use Rattle.pygrammar.specs.Lines.{Header, loop_header, with_header, except_header, def_header, for_head, function_head, class_head}
use Rattle.pygrammar.specs.Forms as F
use Rattle.pygrammar.specs.LineReader.{always, commas_of, plain, item_target, read_item, bracketed, for_rest, function_rest, bases_rest}
use Rattle.pygrammar.specs.LineReader.{def_rest, class_rest, except_of, except_rest, with_rest, after, read_header}
use Rattle.pygrammar.proofs.Line.Types.{type_params_goes}
use Rattle.pygrammar.proofs.Line.Tools.{thus, when, peek, missed, front, started, after_goes, as_goes, commas_goes, commas?_goes}

-- ---- From a depth that is enough to the plain reader.
all_keep : (d : ℕ) → AllKeep (read d) plain
all_keep d l i = final d l i

lifted : {A : Type 0} (x y : Answer A) (a : A) (r : List Terminal) → Keeps x y → x ≡ Found a r → y ≡ Found a r
lifted x y a r (inl q) h = absurd (deep_found a r (sym q ∙ h))
lifted x y a r (inr q) h = sym q ∙ h

pub listing_front : {i : Item} {us : List Terminal} {es : List Entry} → G.Listing i us es → Separable i → (r : List Terminal) → ListEnds i r
    → listing_of plain i [] (us ++ r) ≡ Found es r
listing_front {i} {us} {es} c w r s =
    let g = listing_all c in
    lifted (listing_of (read (suc g.0)) i [] (us ++ r)) (listing_of plain i [] (us ++ r)) es r
    (k_listing_of (read (suc g.0)) plain (all_keep (suc g.0)) (light_read (suc g.0)) i [] (us ++ r))
    (g.1 g.0 (omega arith) w r s (length (us ++ r)) (omega arith) [])

pub target_goes : {ts : List Terminal} {e : Expr} (s : Expr) → G.Derives Stars ts e → stored e ≡ Some s → (r : List Terminal)
    → read_target plain (ts ++ (Word Key.In ∷ r)) ≡ Found e (Word Key.In ∷ r)
target_goes {ts} {e} s p q r =
    let z = Word Key.In ∷ r in
    let g = target_front s p q z (omega arith) (λ k. omega (arith, k)) (omega arith) in
    lifted (read_target (read (suc g.0)) (ts ++ z)) (read_target plain (ts ++ z)) e z (k_target (read (suc g.0)) plain (all_keep (suc g.0))
    (light_read (suc g.0)) (ts ++ z)) (g.1 g.0 (omega arith))

-- ---- Stars in front of a colon.
abbrev pub StarsInv : Level → List Terminal → Expr → Type 0
StarsInv Stars ts e = (G.Derives StarItem ts e) ⊎ ((us : List Terminal) × (vs : List Terminal) × (f : Expr) × (es : List Entry) ×
    (ts ≡ us ++ (Op Sign.Comma ∷ vs)) × (e ≡ Trees.Tuple (an_expr f (singles es)) Load) × (G.Derives StarItem us f) ×
    (G.Listing (Of StarItem) vs es))
StarsInv l ts e = Unit {0}

next_inv : (l : Level) (ts : List Terminal) (e : Expr) → G.Derives (below l) ts e → StarsInv l ts e
next_inv Stars ts e p = inl p
next_inv _ ts e p = tt

unary_inv : (l : Level) (t : Terminal) (o : UnaryOperator) (ts : List Terminal) (e : Expr) → prefix_operator l t ≡ Some o → StarsInv l ts e
unary_inv Stars t o ts e h = absurd (cc)
unary_inv _ t o ts e h = tt

binary_inv : (l : Level) (t : Terminal) (o : Operator) (ts : List Terminal) (e : Expr) → left_operator l t ≡ Some o → StarsInv l ts e
binary_inv Stars t o ts e h = absurd (cc)
binary_inv _ t o ts e h = tt

chain_inv : (o : BoolOperator) (ts : List Terminal) (e : Expr) → StarsInv (chain_level o) ts e
chain_inv Join.And ts e = tt
chain_inv Join.Or ts e = tt

pub stars_inv : {l : Level} {ts : List Terminal} {e : Expr} → G.Derives l ts e → StarsInv l ts e
stars_inv (G.next {l = l} {ts = ts} {e = e} p) = next_inv l ts e p
stars_inv (G.unary {l = l} {t = t} {o = o} h p) = unary_inv l t o _ _ h
stars_inv (G.binary {l = l} {o = o} t h p q) = binary_inv l t o _ _ h
stars_inv (G.chain {o = o} p c) = chain_inv o _ _
stars_inv (G.star_tuple {ts = ts} {us = us} {e = e} {es = es} p c) = inr (ts, us, e, es, refl, refl, p, c)
stars_inv _ = tt

module _ (r : List Terminal) (w : grip_of r ≤ 8) (g : grip_of r ≡ 3 → ⊥) (k : lead_of r ≤ 6) where
  alone_at : {ts : List Terminal} {e : Expr} → G.Derives StarItem ts e → plain Stars (ts ++ r) ≡ Found e r
  alone_at {ts} {e} p = unroll (length (ts ++ r)) Stars (ts ++ r) ∙ stars_step (plain' (ts ++ r)) (read (length (ts ++ r)))
      (ts ++ r) r e (front p r w) g
    where
      plain' : (i : List Terminal) → Level → List Terminal → Answer Expr
      plain' i = read (suc (length i))

  tuple_at : {ts us : List Terminal} {e : Expr} {es : List Entry} → G.Derives StarItem ts e → G.Listing (Of StarItem) us es
      → plain Stars ((ts ++ (Op Sign.Comma ∷ us)) ++ r) ≡ Found (Trees.Tuple (an_expr e (singles es)) Load) r
  tuple_at {ts} {us} {e} {es} p c =
      let a = goes p in
      let b = listing_all c in
      let d : ℕ = max a.0 b.0 in
      let z = Op Sign.Comma ∷ (us ++ r) in
      let y = us ++ r in
      lifted (read (suc (suc d)) Stars ((ts ++ (Op Sign.Comma ∷ us)) ++ r)) (plain Stars ((ts ++ (Op Sign.Comma ∷ us)) ++ r))
      (Trees.Tuple (an_expr e (singles es)) Load) r (all_keep (suc (suc d)) Stars ((ts ++ (Op Sign.Comma ∷ us)) ++ r))
      (ap (read (suc (suc d)) Stars) (append_assoc ts (Op Sign.Comma ∷ us) r)
      ∙ (unroll (suc d) Stars (ts ++ z) ∙ thus _ _ (answers StarItem ts e (suc d) z (a.1 (suc d) (omega arith)) (omega arith))
      (thus (listing_of (read (suc d)) (Of StarItem) [] y) _
      (b.1 d (omega arith) (λ r. omega arith) r (starts_low StarItem r (omega (arith, k)), g, w) (length y) (omega arith) []) refl)))

  pub stars_at : {ts : List Terminal} {e : Expr} → G.Derives Stars ts e → plain Stars (ts ++ r) ≡ Found e r
  stars_at {ts} {e} p = elim (stars_inv p) [
    | inl q ↦ alone_at q
    | inr q ↦ ap (λ z. plain Stars (z ++ r)) q.4 ∙ (tuple_at q.6 q.7 ∙ ap (λ z. Found z r) (sym q.5))
  ]

-- ---- Items of a `with`.
abbrev pub Following : List Terminal → Type 0
Following r = (grip_of r ≤ 8) × (peek (is_word Key.As) r ≡ None)

item_target_goes : {ts : List Terminal} {s : Expr} → G.ItemTarget ts s → (r : List Terminal) → grip_of r ≤ 8
    → item_target plain (ts ++ r) ≡ Found s r
item_target_goes (G.item_target {ts = ts} p q) r w = pass_op Sign.Star ts r _ _ (omega (arith, led p))
    ∙ thus _ _ (front p r w) (ap (λ o. made o r) q)
item_target_goes (G.star_target p q) r w = thus _ _ (front p r w) (ap (λ o. made o r) q)

pub item_goes : (ts : List Terminal) (a : Trees.Item) → F.ItemOf ts a → (r : List Terminal) → Following r
    → read_item plain (ts ++ r) ≡ Found a r
item_goes _ _ (F.bare_item p) r g = thus _ _ (front p r g.0) (missed (is_word Key.As) r _ _ g.1)
item_goes _ _ (F.item_as {ts = ts} {us = us} p q) r g = ap (read_item plain) (append_assoc ts (Word Key.As ∷ us) r)
    ∙ thus _ _ (front p (Word Key.As ∷ (us ++ r)) (omega arith)) (thus _ _ (item_target_goes q r g.0) refl)

item_starts : (ts : List Terminal) (a : Trees.Item) → F.ItemOf ts a → (r : List Terminal) → starts (Of Expression) (ts ++ r) ≡ true
item_starts _ _ (F.bare_item p) r = started p r
item_starts _ _ (F.item_as {ts = ts} {us = us} p q) r = ap (starts (Of Expression)) (append_assoc ts (Word Key.As ∷ us) r)
    ∙ started p (Word Key.As ∷ (us ++ r))

pub items_goes : {ts : List Terminal} {is : List Trees.Item} → F.Commas Trees.Item F.ItemOf ts is → (r : List Terminal)
    → commas_of (read_item plain) always (ts ++ (Op Sign.Colon ∷ r)) ≡ Found is (Op Sign.Colon ∷ r)
items_goes c r = commas_goes Trees.Item F.ItemOf (read_item plain) always Following item_goes (λ ts a x r. refl) (λ r. (omega arith, refl)) c
    (Op Sign.Colon ∷ r) refl (omega arith, refl)

pub bracketed_goes : {ts : List Terminal} {is : List Trees.Item} → F.Bracketed ts is → (r : List Terminal)
    → bracketed plain (ts ++ (Op Sign.Colon ∷ r)) ≡ Found is (Op Sign.Colon ∷ r)
bracketed_goes (F.bracketed {ts = ts} c) r =
    let z = Op Sign.Colon ∷ r in
    thus (commas_of (read_item plain) (starts (Of Expression)) ((ts ++ (Op Sign.RPar ∷ [])) ++ z)) _
    (ap (commas_of (read_item plain) (starts (Of Expression))) (append_assoc ts (Op Sign.RPar ∷ []) z)
    ∙ commas?_goes Trees.Item F.ItemOf (read_item plain) (starts (Of Expression)) Following item_goes item_starts
    (λ r. (omega arith, refl)) c (Op Sign.RPar ∷ z) refl refl (omega arith, refl)) refl

-- ---- Headers.
as_grip : {us : List Terminal} {x : Option Identifier} → F.As us x → (r : List Terminal) → grip_of r ≤ 8 → grip_of (us ++ r) ≤ 8
as_grip F.no_as r h = h
as_grip F.as_name r h = omega arith

pub for_goes : {us vs : List Terminal} {t e : Expr} (b : Bool) → G.Target us t → G.Derives Stars vs e → (r : List Terminal)
    → for_rest plain b ((us ++ (Word Key.In ∷ vs)) ++ (Op Sign.Colon ∷ r)) ≡ Found (loop_header (for_head b t e)) (Op Sign.Colon ∷ r)
for_goes {us} {vs} {t} {e} b (G.target {e = f} p q) k r =
    let z = Op Sign.Colon ∷ r in
    ap (for_rest plain b) (append_assoc us (Word Key.In ∷ vs) z)
    ∙ thus _ _ (target_goes t p q (vs ++ z)) (thus _ _ (stars_at z (omega arith) (λ k. omega (arith, k)) (omega arith) k)
    (ap (λ o. on_some o (λ s. Found (loop_header (for_head b s e)) z) NoForm) q))

except_goes : {ts us : List Terminal} {e : Expr} {x : Option Identifier} (b : Bool) → G.Derives Expression ts e → F.As us x
    → (r : List Terminal) → except_of plain b ((ts ++ us) ++ (Op Sign.Colon ∷ r)) ≡ Found (except_header b (Some e) x) (Op Sign.Colon ∷ r)
except_goes {ts} {us} b p a r =
    let z = Op Sign.Colon ∷ r in
    ap (except_of plain b) (append_assoc ts us z) ∙ thus _ _ (front p (us ++ z) (as_grip a z (omega arith)))
    (thus _ _ (as_goes a z refl) refl)

function_goes : {us vs : List Terminal} (b : Bool) (x : Identifier) (tps : List TypeParam) {ps : List Entry} {a : Arguments}
    {e : Option Expr} → G.Listing (Parameter true) us ps → arranged ps ≡ Some a → F.Following (Op Sign.RArrow) Expression vs e
    → (r : List Terminal) → function_rest plain b x tps (Op Sign.LPar ∷ ((us ++ (Op Sign.RPar ∷ vs)) ++ (Op Sign.Colon ∷ r))) ≡ Found
    (def_header (function_head b x tps a e)) (Op Sign.Colon ∷ r)
function_goes {us} {vs} b x tps {ps} {a} {e} c q k r =
    let z = Op Sign.Colon ∷ r in
    let y = Op Sign.RPar ∷ (vs ++ (Op Sign.Colon ∷ r)) in
    thus (listing_of plain (Parameter true) [] ((us ++ (Op Sign.RPar ∷ vs)) ++ z)) _
    (ap (listing_of plain (Parameter true) []) (append_assoc us (Op Sign.RPar ∷ vs) z)
    ∙ listing_front c (λ r. ((λ q. absurd (omega (arith, q))), omega arith, omega arith, (λ q. absurd (omega (arith, q))))) y (
      refl,
      (λ q. absurd (omega (arith, q))),
      ((λ q. absurd (omega (arith, q))), omega arith, omega arith, (λ q. absurd (omega (arith, q)))),
    ))
    (ap (λ o. on_some o (λ a. and_then (after plain (Op Sign.RArrow) Expression (vs ++ z))
    (λ e r3. Found (def_header (function_head b x tps a e)) r3)) NoForm) q ∙ thus _ _ (after_goes k refl z (omega arith) refl) refl)

pub def_goes : (profile : Profile) {us vs ws : List Terminal} (b : Bool) (x : Spelled) {tps : List TypeParam} {ps : List Entry}
    {a : Arguments} {e : Option Expr} → F.TypeParams profile us tps → G.Listing (Parameter true) vs ps → arranged ps ≡ Some a
    → F.Following (Op Sign.RArrow) Expression ws e → (r : List Terminal)
    → def_rest profile plain b (Ident x ∷ ((us ++ (Op Sign.LPar ∷ (vs ++ (Op Sign.RPar ∷ ws)))) ++ (Op Sign.Colon ∷ r))) ≡ Found
    (def_header (function_head b x.form tps a e)) (Op Sign.Colon ∷ r)
def_goes profile {us} {vs} {ws} b x {tps} g c q k r =
    let y = Op Sign.LPar ∷ (vs ++ (Op Sign.RPar ∷ ws)) in
    ap (λ z. def_rest profile plain b (Ident x ∷ z)) (append_assoc us y (Op Sign.Colon ∷ r))
    ∙ thus _ _ (type_params_goes profile g (y ++ (Op Sign.Colon ∷ r)) refl) (function_goes b x.form tps c q k r)

bases_goes : {ts : List Terminal} (x : Identifier) (tps : List TypeParam) {es : List Expr} {ks : Keywords} → F.Bases ts es ks
    → (r : List Terminal) → bases_rest plain x tps (ts ++ (Op Sign.Colon ∷ r)) ≡ Found
    (def_header (class_head x tps es ks)) (Op Sign.Colon ∷ r)
bases_goes x tps F.no_bases r = refl
bases_goes x tps (F.bases {ts = ts} {es = es} c h) r =
    let z = Op Sign.Colon ∷ r in
    thus (listing_of plain Argument [] ((ts ++ (Op Sign.RPar ∷ [])) ++ z)) _
    (ap (listing_of plain Argument []) (append_assoc ts (Op Sign.RPar ∷ []) z)
    ∙ listing_front c (λ r. (omega arith, (λ q. absurd (omega (arith, q))))) (Op Sign.RPar ∷ z) (
      refl,
      (λ q. absurd (omega (arith, q))),
      (omega arith, (λ q. absurd (omega (arith, q)))),
    ))
    (when _ _ _ h refl)

unbracketed : {ts : List Terminal} {es : List Expr} {ks : Keywords} → F.Bases ts es ks → (r : List Terminal)
    → peek (is_op Sign.LSqb) (ts ++ (Op Sign.Colon ∷ r)) ≡ None
unbracketed F.no_bases r = refl
unbracketed (F.bases c h) r = refl

pub class_goes : (profile : Profile) {ts us : List Terminal} (x : Spelled) {tps : List TypeParam} {es : List Expr} {ks : Keywords}
    → F.TypeParams profile ts tps → F.Bases us es ks → (r : List Terminal)
    → class_rest profile plain (Ident x ∷ ((ts ++ us) ++ (Op Sign.Colon ∷ r))) ≡ Found
    (def_header (class_head x.form tps es ks)) (Op Sign.Colon ∷ r)
class_goes profile {ts} {us} x {tps} g c r =
    let z = us ++ (Op Sign.Colon ∷ r) in
    ap (λ z. class_rest profile plain (Ident x ∷ z)) (append_assoc ts us (Op Sign.Colon ∷ r))
    ∙ thus _ _ (type_params_goes profile g z (unbracketed c r)) (bases_goes x.form tps c r)

except_line_goes : {ts us : List Terminal} {e : Expr} {x : Option Identifier} → G.Derives Expression ts e → F.As us x → (r : List Terminal)
    → except_rest plain ((ts ++ us) ++ (Op Sign.Colon ∷ r)) ≡ Found (except_header false (Some e) x) (Op Sign.Colon ∷ r)
except_line_goes {ts} {us} {e} p a r =
    let z = Op Sign.Colon ∷ r in
    ap (except_rest plain) (append_assoc ts us z) ∙ (pass_op Sign.Star ts (us ++ z) _ _ (omega (arith, led p))
    ∙ when _ _ _ (started p (us ++ z)) (ap (except_of plain false) (sym (append_assoc ts us z)) ∙ except_goes false p a r))

module _ (with_goes : (ts : List Terminal) (is : List Trees.Item) → F.Items ts is → (b : Bool) (r : List Terminal)
    → with_rest plain b (ts ++ (Op Sign.Colon ∷ r)) ≡ Found (with_header b is) (Op Sign.Colon ∷ r)) where
  pub header_by : (profile : Profile) {ts : List Terminal} {h : Header} → F.HeaderOf profile ts h → (r : List Terminal)
      → read_header profile plain (ts ++ (Op Sign.Colon ∷ r)) ≡ Found h (Op Sign.Colon ∷ r)
  header_by profile (F.if_line p) r = thus _ _ (front p (Op Sign.Colon ∷ r) (omega arith)) refl
  header_by profile (F.elif_line p) r = thus _ _ (front p (Op Sign.Colon ∷ r) (omega arith)) refl
  header_by profile F.else_line r = refl
  header_by profile (F.while_line p) r = thus _ _ (front p (Op Sign.Colon ∷ r) (omega arith)) refl
  header_by profile (F.for_line F.no_async p q) r = for_goes false p q r
  header_by profile (F.for_line F.async p q) r = for_goes true p q r
  header_by profile (F.with_line F.no_async p) r = with_goes _ _ p false r
  header_by profile (F.with_line F.async p) r = with_goes _ _ p true r
  header_by profile F.try_line r = refl
  header_by profile F.finally_line r = refl
  header_by profile F.except_all r = refl
  header_by profile (F.except_line p a) r = except_line_goes p a r
  header_by profile (F.except_star p a) r = except_goes true p a r
  header_by profile (F.def_line x F.no_async g c q k) r = def_goes profile false x g c q k r
  header_by profile (F.def_line x F.async g c q k) r = def_goes profile true x g c q k r
  header_by profile (F.class_line {x = x} g c) r = class_goes profile x g c r
