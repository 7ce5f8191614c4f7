-- Headers.
--
-- Carries: Fits, header_goes, case_goes, for LineForms. On: LineParts, Expressions, Patterns.
use Rattle.std.proofs.Common.{◌≡◌, refl, ap, ℕ, ◌+◌, ◌≤◌, arith, List, [], ◌∷◌, ◌++◌, length, append_assoc, length-append}
use Rattle.std.proofs.Common.{Option, Bool, true, false}
use Rattle.pylex_lexeme.specs.declared.kinds.Exact.TheVariants as Sign
use Rattle.pytoken.specs.declared.keywords.Keyword.TheVariants as Key
use Rattle.pytree_node.specs.declared.profiles.Profile.{Profile}
use Rattle.pytree_node.specs.Trees.{Expr, Identifier, Item, Keywords, TypeParam}
use Rattle.pytoken.specs.Terminals.{Spelled, Terminal, Op, Word, Ident}
use Rattle.pygrammar.specs.declared.levels.Level.TheVariants.{Named, Expression, Stars}
use Rattle.pygrammar.specs.Entries.{Parameter, Entry}
use Rattle.pygrammar.specs.Forms as F
use Rattle.pygrammar.specs.Grammar as G
use Rattle.pygrammar.specs.Lines.{Header}
use Rattle.pyplaces.specs.EntryPlaces as E
use Rattle.pyplaces.specs.ExpressionPlaces.{places, target_places, listing_places}
use Rattle.pyplaces.specs.PatternPlaces.{pattern_places}
use Rattle.pyplaces.specs.FormPlaces.{FormPlaces, form_places, plain_header, items_places, item_places, bases_places, header_places}
use Rattle.pyplaces.specs.FormPlaces.{case_places, type_params_places, after_places}
use Rattle.pyplaces.specs.Inner.Looks.{lead_of, mark_of}
use Rattle.pyplaces.specs.Inner.LineSteps.{HeadGoes, for_read, with_read, excepted, def_rest, def_read, class_rest, class_read}
use Rattle.pyplaces.specs.Inner.LineSteps.{header_read, case_read}
use Rattle.pyplaces.specs.Inner.Questions.{AnItem}
use Rattle.pyplaces.specs.Inner.Steps.{here}
use Rattle.pyplaces.proofs.Unique.Leading.{Comes, via, from, to, past}
use Rattle.pyplaces.proofs.Unique.LookLemmas.{fronted}
use Rattle.pyplaces.proofs.Unique.Led.{led}
use Rattle.pyplaces.proofs.Unique.Expressions.{goes, listing_all}
use Rattle.pyplaces.proofs.Unique.Patterns.{pattern_goes}
use Rattle.pyplaces.proofs.Unique.LineParts.{after_marked, after_gripped, commas_reads, ended_reads, item_reads, item_begins}
use Rattle.pyplaces.proofs.Unique.LineParts.{type_params_reads}

head_counted : (k : HeadGoes) {f : FormPlaces} {n m : ℕ} (r : List Terminal) → n ≡ m → Comes (k f n r) (k f m r)
head_counted k {f} r e = to here (ap (λ z. k f z r) e)

-- ---- `for`, `except`.

for_goes : {us vs : List Terminal} {t e : Expr} (q : G.Target us t) (p : G.Derives Stars vs e) (a at : ℕ) (z : List Terminal) (k : HeadGoes)
    → Comes (for_read a at (us ++ (Word Key.In ∷ (vs ++ (Op Sign.Colon ∷ z)))) k)
    (k (plain_header (target_places (1 + (at + a)) q ++ places (2 + (at + (a + length us))) p)) (2 + (a + (length us + length vs)))
    (Op Sign.Colon ∷ z))
for_goes {us = us} {vs = vs} (G.target {s = s} q h) p a at z k =
    via ((goes q).1 s h (1 + (at + a)) (Word Key.In ∷ (vs ++ (Op Sign.Colon ∷ z))) _
    (omega arith, λ e. absurd (omega (arith, e)), omega arith))
    (via ((goes p).0 (2 + (at + (a + length us))) (Op Sign.Colon ∷ z) _ (omega arith, λ e. absurd (omega (arith, e)), omega arith)) here)

excepted_goes : {ts us : List Terminal} {e : Expr} {x : Option Identifier} (p : G.Derives Expression ts e) → F.As us x → (a at : ℕ)
    (z : List Terminal) (k : HeadGoes) → Comes (excepted a at (ts ++ (us ++ (Op Sign.Colon ∷ z))) k)
    (k (plain_header (places (a + at) p)) (a + (length ts + length us)) (Op Sign.Colon ∷ z))
excepted_goes p F.no_as a at z k = via ((goes p).0 (a + at) (Op Sign.Colon ∷ z) _ (omega arith)) here
excepted_goes p (F.as_name {x = x}) a at z k =
    via ((goes p).0 (a + at) (Word Key.As ∷ (Ident x ∷ (Op Sign.Colon ∷ z))) _ (omega arith)) here

-- ---- `def`, `class`.

def_goes : {profile : Profile} (x : Spelled) {us vs ws : List Terminal} {tps : List TypeParam} {ps : List Entry} {e : Option Expr}
    (c : F.TypeParams profile us tps) (l : G.Listing (Parameter true) vs ps) (r : F.Following (Op Sign.RArrow) Expression ws e) (a at : ℕ)
    (z : List Terminal) (k : HeadGoes)
    → Comes (def_read a at (Ident x ∷ (us ++ (Op Sign.LPar ∷ (vs ++ (Op Sign.RPar ∷ (ws ++ (Op Sign.Colon ∷ z))))))) k)
    (k (form_places (E.arranged (listing_places (3 + (at + (a + length us))) l))
    (after_places (4 + (at + (a + (length us + length vs)))) r ++ type_params_places (2 + (at + a)) c) [])
    (4 + (a + (length us + (length vs + length ws)))) (Op Sign.Colon ∷ z))
def_goes x {us} {vs} {ws} c l r a at z k =
    via (type_params_reads c (2 + (at + a)) (Op Sign.LPar ∷ (vs ++ (Op Sign.RPar ∷ (ws ++ (Op Sign.Colon ∷ z))))) (def_rest a at k)
    (λ e. absurd (omega (arith, e))))
    (via (listing_all l (λ r. (λ e. absurd (omega (arith, e)), omega arith, omega arith, λ e. absurd (omega (arith, e))))
    (3 + (at + (a + length us))) (Op Sign.RPar ∷ (ws ++ (Op Sign.Colon ∷ z))) _ (
      refl,
      λ e. absurd (omega (arith, e)),
      (λ e. absurd (omega (arith, e)), omega arith, omega arith, λ e. absurd (omega (arith, e))),
    ))
    (via (after_marked 2 r refl (4 + (at + (a + (length us + length vs)))) (Op Sign.Colon ∷ z)
    (λ rs w r. k (form_places (E.arranged (listing_places (3 + (at + (a + length us))) l)) (rs ++ type_params_places (2 + (at + a)) c) [])
    (4 + (a + (length us + (length vs + w)))) r) (λ e. absurd (omega (arith, e)))
    (omega arith)) here))

class_goes : {profile : Profile} (x : Spelled) {ts us : List Terminal} {tps : List TypeParam} {es : List Expr} {ks : Keywords}
    (c : F.TypeParams profile ts tps) (b : F.Bases us es ks) (at : ℕ) (z : List Terminal) (k : HeadGoes)
    → Comes (class_read at (Ident x ∷ (ts ++ (us ++ (Op Sign.Colon ∷ z)))) k)
    (k (form_places (bases_places (2 + (at + length ts)) b) (type_params_places (2 + at) c) []) (2 + (length ts + length us))
    (Op Sign.Colon ∷ z))
class_goes x {ts} c F.no_bases at z k =
    via (type_params_reads c (2 + at) (Op Sign.Colon ∷ z) (class_rest at k) (λ e. absurd (omega (arith, e)))) here
class_goes x {ts} c (F.bases {ts = us} l h) at z k =
    from (ap (λ r. class_read at (Ident x ∷ (ts ++ (Op Sign.LPar ∷ r))) k) (append_assoc us (Op Sign.RPar ∷ []) (Op Sign.Colon ∷ z)))
    (via (type_params_reads c (2 + at) (Op Sign.LPar ∷ (us ++ (Op Sign.RPar ∷ (Op Sign.Colon ∷ z)))) (class_rest at k)
    (λ e. absurd (omega (arith, e))))
    (via (listing_all l (λ r. (omega arith, λ e. absurd (omega (arith, e)))) (1 + (2 + (at + length ts)))
    (Op Sign.RPar ∷ (Op Sign.Colon ∷ z)) _ (
      refl,
      λ e. absurd (omega (arith, e)),
      (omega arith, λ e. absurd (omega (arith, e))),
    )) (head_counted k (Op Sign.Colon ∷ z) (omega (arith, length-append us (Op Sign.RPar ∷ []))))))

-- ---- `with`.

-- whether the items of a `with` are in brackets, which is told to the reading
abbrev pub Fits : Bool → {profile : Profile} {ts : List Terminal} {h : Header} → F.HeaderOf profile ts h → Type 0
Fits b (F.with_line a (F.in_brackets c)) = b ≡ true
Fits b (F.with_line a (F.without c h)) = b ≡ false
Fits b _ = Unit {0}

bracketed_goes : {us : List Terminal} {is : List Item} (c : F.Bracketed us is) (a at : ℕ) (z : List Terminal) (k : HeadGoes)
    → Comes (with_read true a at (us ++ (Op Sign.Colon ∷ z)) k)
    (k (plain_header (items_places (1 + (at + a)) (F.in_brackets c))) (1 + (a + length us)) (Op Sign.Colon ∷ z))
bracketed_goes (F.bracketed {ts = us} c) a at z k =
    from (ap (λ r. with_read true a at (Op Sign.LPar ∷ r) k) (append_assoc us (Op Sign.RPar ∷ []) (Op Sign.Colon ∷ z)))
    (via (ended_reads AnItem Item F.ItemOf (λ ts a. item_places) item_reads item_begins c (1 + (1 + (at + a)))
    (Op Sign.RPar ∷ (Op Sign.Colon ∷ z)) _ ((omega arith, omega arith, tt), λ e. absurd (omega (arith, e)), refl))
    (head_counted k (Op Sign.Colon ∷ z) (omega (arith, length-append us (Op Sign.RPar ∷ [])))))

without_goes : {us : List Terminal} {is : List Item} (c : F.Commas Item F.ItemOf us is)
    (n : (others : List Item) → F.Bracketed us others → ⊥) (a at : ℕ) (z : List Terminal) (k : HeadGoes)
    → Comes (with_read false a at (us ++ (Op Sign.Colon ∷ z)) k)
    (k (plain_header (items_places (1 + (at + a)) (F.without c n))) (1 + (a + length us)) (Op Sign.Colon ∷ z))
without_goes c n a at z k = via (commas_reads AnItem Item F.ItemOf (λ ts a. item_places) item_reads item_begins c (1 + (at + a))
    (Op Sign.Colon ∷ z) _ ((omega arith, omega arith, tt), λ e. absurd (omega (arith, e)))) here

-- ---- All headers.

pub header_goes : {profile : Profile} {ts : List Terminal} {y : Header} (b : Bool) (h : F.HeaderOf profile ts y) → Fits b h → (at : ℕ)
    (z : List Terminal) (k : HeadGoes)
    → Comes (header_read b at (ts ++ (Op Sign.Colon ∷ z)) k) (k (header_places at h) (length ts) (Op Sign.Colon ∷ z))
header_goes b (F.if_line p) f at z k =
    via ((goes p).0 (1 + at) (Op Sign.Colon ∷ z) _ (omega arith)) (head_counted k (Op Sign.Colon ∷ z) (omega arith))
header_goes b (F.elif_line p) f at z k =
    via ((goes p).0 (1 + at) (Op Sign.Colon ∷ z) _ (omega arith)) (head_counted k (Op Sign.Colon ∷ z) (omega arith))
header_goes b F.else_line f at z k = here
header_goes b (F.while_line p) f at z k =
    via ((goes p).0 (1 + at) (Op Sign.Colon ∷ z) _ (omega arith)) (head_counted k (Op Sign.Colon ∷ z) (omega arith))
header_goes b (F.for_line {us = us} {vs = vs} F.no_async t p) f at z k =
    from (ap (λ r. for_read 0 at r k) (append_assoc us (Word Key.In ∷ vs) (Op Sign.Colon ∷ z)))
    (via (for_goes t p 0 at z k) (head_counted k (Op Sign.Colon ∷ z) (omega (arith, length-append us (Word Key.In ∷ vs)))))
header_goes b (F.for_line {us = us} {vs = vs} F.async t p) f at z k =
    from (ap (λ r. for_read 1 at r k) (append_assoc us (Word Key.In ∷ vs) (Op Sign.Colon ∷ z)))
    (via (for_goes t p 1 at z k) (head_counted k (Op Sign.Colon ∷ z) (omega (arith, length-append us (Word Key.In ∷ vs)))))
header_goes b (F.with_line {us = us} F.no_async (F.in_brackets c)) f at z k =
    from (ap (λ b. with_read b 0 at (us ++ (Op Sign.Colon ∷ z)) k) f)
    (via (bracketed_goes c 0 at z k) (head_counted k (Op Sign.Colon ∷ z) (omega arith)))
header_goes b (F.with_line {us = us} F.no_async (F.without c n)) f at z k =
    from (ap (λ b. with_read b 0 at (us ++ (Op Sign.Colon ∷ z)) k) f)
    (via (without_goes c n 0 at z k) (head_counted k (Op Sign.Colon ∷ z) (omega arith)))
header_goes b (F.with_line {us = us} F.async (F.in_brackets c)) f at z k =
    from (ap (λ b. with_read b 1 at (us ++ (Op Sign.Colon ∷ z)) k) f)
    (via (bracketed_goes c 1 at z k) (head_counted k (Op Sign.Colon ∷ z) (omega arith)))
header_goes b (F.with_line {us = us} F.async (F.without c n)) f at z k =
    from (ap (λ b. with_read b 1 at (us ++ (Op Sign.Colon ∷ z)) k) f)
    (via (without_goes c n 1 at z k) (head_counted k (Op Sign.Colon ∷ z) (omega arith)))
header_goes b F.try_line f at z k = here
header_goes b F.finally_line f at z k = here
header_goes b F.except_all f at z k = here
header_goes b (F.except_line {ts = ts} {us = us} p a) f at z k =
    from (ap (λ r. header_read b at (Word Key.Except ∷ r) k) (append_assoc ts us (Op Sign.Colon ∷ z)))
    (past _ (fronted ts (us ++ (Op Sign.Colon ∷ z)) 7 (omega (arith, led p)))
    (past _ (fronted ts (us ++ (Op Sign.Colon ∷ z)) 5 (omega (arith, led p)))
    (via (excepted_goes p a 1 at z k) (head_counted k (Op Sign.Colon ∷ z) (omega (arith, length-append ts us))))))
header_goes b (F.except_star {ts = ts} {us = us} p a) f at z k =
    from (ap (λ r. header_read b at (Word Key.Except ∷ (Op Sign.Star ∷ r)) k) (append_assoc ts us (Op Sign.Colon ∷ z)))
    (via (excepted_goes p a 2 at z k) (head_counted k (Op Sign.Colon ∷ z) (omega (arith, length-append ts us))))
header_goes b (F.def_line {us = us} {vs = vs} {ws = ws} x F.no_async c l h r) f at z k =
    from (ap (λ i. def_read 0 at (Ident x ∷ i) k) (shape z)) (via (def_goes x c l r 0 at z k)
    (head_counted k (Op Sign.Colon ∷ z) (omega (
      arith,
      length-append us (Op Sign.LPar ∷ (vs ++ (Op Sign.RPar ∷ ws))),
      length-append vs (Op Sign.RPar ∷ ws),
    ))))
  where
    shape : (z : List Terminal) → (us ++ (Op Sign.LPar ∷ (vs ++ (Op Sign.RPar ∷ ws)))) ++ (Op Sign.Colon ∷ z) ≡
        us ++ (Op Sign.LPar ∷ (vs ++ (Op Sign.RPar ∷ (ws ++ (Op Sign.Colon ∷ z)))))
    shape z = simp append_assoc refl
header_goes b (F.def_line {us = us} {vs = vs} {ws = ws} x F.async c l h r) f at z k =
    from (ap (λ i. def_read 1 at (Ident x ∷ i) k) (shape z)) (via (def_goes x c l r 1 at z k)
    (head_counted k (Op Sign.Colon ∷ z) (omega (
      arith,
      length-append us (Op Sign.LPar ∷ (vs ++ (Op Sign.RPar ∷ ws))),
      length-append vs (Op Sign.RPar ∷ ws),
    ))))
  where
    shape : (z : List Terminal) → (us ++ (Op Sign.LPar ∷ (vs ++ (Op Sign.RPar ∷ ws)))) ++ (Op Sign.Colon ∷ z) ≡
        us ++ (Op Sign.LPar ∷ (vs ++ (Op Sign.RPar ∷ (ws ++ (Op Sign.Colon ∷ z)))))
    shape z = simp append_assoc refl
header_goes b (F.class_line {x = x} {ts = ts} {us = us} c l) f at z k =
    from (ap (λ i. class_read at (Ident x ∷ i) k) (append_assoc ts us (Op Sign.Colon ∷ z)))
    (via (class_goes x c l at z k) (head_counted k (Op Sign.Colon ∷ z) (omega (arith, length-append ts us))))

-- ---- `case`.

pub case_goes : {ts : List Terminal} {y : Header} (h : F.CaseOf ts y) (z : List Terminal) (k : HeadGoes)
    → Comes (case_read 0 (ts ++ (Op Sign.Colon ∷ z)) k) (k (case_places 0 h) (length ts) (Op Sign.Colon ∷ z))
case_goes (F.case_line {ts = ts} {us = us} form p g) z k =
    from (ap (λ r. case_read 0 (F.case_word form ∷ r) k) (append_assoc ts us (Op Sign.Colon ∷ z)))
    (via (pattern_goes p 1 (us ++ (Op Sign.Colon ∷ z)) _ (guard g))
    (via (after_gripped 9 g refl (1 + (0 + length ts)) (Op Sign.Colon ∷ z)
    (λ qs m r. k (plain_header (pattern_places 1 p ++ qs)) (1 + (length ts + m)) r) (λ e. absurd (omega (arith, e))) (omega arith))
    (head_counted k (Op Sign.Colon ∷ z) (omega (arith, length-append ts us)))))
  where
    guard : {us : List Terminal} {e : Option Expr} → F.Following (Word Key.If) Named us e
        → (mark_of (us ++ (Op Sign.Colon ∷ z)) ≤ 5) × (lead_of (us ++ (Op Sign.Colon ∷ z)) ≤ 6)
    guard F.none_after = (omega arith, omega arith)
    guard (F.following p) = (omega arith, omega arith)
