-- The items of a `with` in brackets, and without: no header is read in both ways.
--
-- Carries: lines_agree, for Law. On: FirstBracket, HeaderForms, LineForms.
use Rattle.std.proofs.Common.{◌≡◌, refl, sym, ap, ◌∙◌, ◌≤◌, arith, List, [], ◌∷◌, ◌++◌, append_assoc, subst, Bool, true, false}
use Rattle.std.proofs.lemmas.List.{append_cancel_right}
use Rattle.pylex_lexeme.specs.declared.kinds.Exact.TheVariants as Sign
use Rattle.pytoken.specs.declared.keywords.Keyword.TheVariants as Key
use Rattle.pytree_node.specs.declared.profiles.Profile.{Profile}
use Rattle.pytree_node.specs.Trees.{Expr, Item}
use Rattle.pytoken.specs.Terminals.{Terminal, Op, Word}
use Rattle.pygrammar.specs.Forms as F
use Rattle.pygrammar.specs.Grammar as G
use Rattle.pygrammar.specs.Lines.{Form, Header}
use Rattle.pyplaces.specs.Inner.Looks.{grip, grip_of, lead_of}
use Rattle.pyplaces.proofs.Unique.LookLemmas.{lead_front}
use Rattle.pyplaces.proofs.Unique.Led.{led}
use Rattle.pyplaces.proofs.Unique.Balance.{walk, Balanced, both, balanced}
use Rattle.pyplaces.proofs.Unique.FirstBracket.{heads, tails, Opens, more, opens}
use Rattle.pyplaces.proofs.Unique.HeaderForms.{Fits}
use Rattle.pyplaces.proofs.Unique.LineForms.{FitsForm, FitsLine}

-- ---- Items.

target_balanced : {ts : List Terminal} {t : Expr} → G.ItemTarget ts t → Balanced ts
target_balanced (G.item_target p h) = balanced p
target_balanced (G.star_target p h) = balanced p

item_balanced : {ts : List Terminal} {a : Item} → F.ItemOf ts a → Balanced ts
item_balanced (F.bare_item p) = balanced p
item_balanced (F.item_as {ts = ts} {us = us} p t) = both ts (Word Key.As ∷ us) (balanced p) (target_balanced t)

items_balanced : {ts : List Terminal} {is : List Item} → F.Commas Item F.ItemOf ts is → Balanced ts
items_balanced (F.alone p) = item_balanced p
items_balanced (F.comma {ts = ts} {us = us} p c) = both ts (Op Sign.Comma ∷ us) (item_balanced p) (items_balanced c)

ended_balanced : {ts : List Terminal} {is : List Item} → F.Commas? Item F.ItemOf ts is → Balanced ts
ended_balanced (F.ends_bare c) = items_balanced c
ended_balanced (F.ends_comma {ts = ts} c) = both ts (Op Sign.Comma ∷ []) (items_balanced c) (λ r n. refl)

item_led : {ts : List Terminal} {a : Item} → F.ItemOf ts a → 9 ≤ lead_of ts
item_led (F.bare_item p) = led p
item_led (F.item_as {ts = ts} p t) = lead_front ts _ 9 (omega arith) (led p)

item_opens : {ts : List Terminal} {a : Item} → F.ItemOf ts a → Opens ts
item_opens (F.bare_item p) = opens p (omega arith)
item_opens (F.item_as {ts = ts} {us = us} p t) = more ts (Word Key.As ∷ us) (opens p (omega arith)) (omega (arith, led p))
    (λ q. absurd (omega (arith, q)))

items_open : {ts : List Terminal} {is : List Item} → F.Commas Item F.ItemOf ts is → Opens ts
items_open (F.alone p) = item_opens p
items_open (F.comma {ts = ts} {us = us} p c) = more ts (Op Sign.Comma ∷ us) (item_opens p) (omega (arith, item_led p))
    (λ q. absurd (omega (arith, q)))

items_led : {ts : List Terminal} {is : List Item} → F.Commas Item F.ItemOf ts is → 9 ≤ lead_of ts
items_led (F.alone p) = item_led p
items_led (F.comma {ts = ts} p c) = lead_front ts _ 9 (omega arith) (item_led p)

-- ---- Both readings.

no_more : (x u v : List Terminal) → Op Sign.Colon ∷ u ≡ x ++ (Op Sign.Colon ∷ v) → (grip_of x ≡ 5 → ⊥) → u ≡ v
no_more [] u v e n = tails e
no_more (y ∷ x) u v e n = absurd (n (ap grip (sym (heads e))))

-- both are all of what stands in front of the colon
same_items : {ts us : List Terminal} {is js : List Item} → F.Bracketed ts is → F.Commas Item F.ItemOf us js → (u v : List Terminal)
    → ts ++ (Op Sign.Colon ∷ u) ≡ us ++ (Op Sign.Colon ∷ v) → ts ≡ us
same_items {us = us} (F.bracketed {ts = inner} p) q u v e = go us (items_led q) (items_open q) e
  where
    go : (us : List Terminal) → 9 ≤ lead_of us → Opens us
        → (Op Sign.LPar ∷ (inner ++ (Op Sign.RPar ∷ []))) ++ (Op Sign.Colon ∷ u) ≡ us ++ (Op Sign.Colon ∷ v)
        → Op Sign.LPar ∷ (inner ++ (Op Sign.RPar ∷ [])) ≡ us
    go [] l o e = absurd (omega (arith, l))
    go (t ∷ ws) l o e =
        let w = o ws (ap (λ z. z ∷ ws) (sym (heads e))) in
        let inside = ap (λ z. walk z 0) (append_assoc inner (Op Sign.RPar ∷ []) (Op Sign.Colon ∷ u))
        ∙ ended_balanced p (Op Sign.RPar ∷ (Op Sign.Colon ∷ u)) 0 in
        let rest = no_more w.0 u v (sym inside ∙ (ap (λ z. walk z 0) (tails e) ∙ w.1 (Op Sign.Colon ∷ v))) w.2 in
        append_cancel_right (Op Sign.LPar ∷ (inner ++ (Op Sign.RPar ∷ []))) (t ∷ ws) (Op Sign.Colon ∷ u)
        (e ∙ ap (λ z. (t ∷ ws) ++ (Op Sign.Colon ∷ z)) (sym rest))

no_two : {ts us : List Terminal} {is js : List Item} → F.Bracketed ts is → F.Commas Item F.ItemOf us js
    → ((others : List Item) → F.Bracketed us others → ⊥) → (u v : List Terminal)
    → ts ++ (Op Sign.Colon ∷ u) ≡ us ++ (Op Sign.Colon ∷ v) → ⊥
no_two {is = is} b q n u v e = n is (subst (λ z. F.Bracketed z is) (same_items b q u v e) b)

-- ---- Headers.

-- whether the items are in brackets
mode : {profile : Profile} {ts : List Terminal} {y : Header} → F.HeaderOf profile ts y → Bool
mode (F.with_line a (F.in_brackets c)) = true
mode _ = false

fits : {profile : Profile} {ts : List Terminal} {y : Header} (h : F.HeaderOf profile ts y) → Fits (mode h) h
unfolding mode
fits (F.with_line a (F.in_brackets c)) = refl
fits (F.with_line a (F.without c n)) = refl
fits _ = tt

-- one flag for both
items_agree : (profile : Profile) {ts us xs ys : List Terminal} {a b : Bool} {is js : List Item} (p : F.Async xs a) (i : F.Items ts is)
    (q : F.Async ys b) (j : F.Items us js) (u v : List Terminal)
    → (xs ++ (Word Key.With ∷ ts)) ++ (Op Sign.Colon ∷ u) ≡ (ys ++ (Word Key.With ∷ us)) ++ (Op Sign.Colon ∷ v)
    → (c : Bool) × Fits c {profile = profile} (F.with_line p i) × Fits c {profile = profile} (F.with_line q j)
items_agree profile p (F.in_brackets c) q (F.in_brackets d) u v e = (true, refl, refl)
items_agree profile p (F.without c n) q (F.without d m) u v e = (false, refl, refl)
items_agree profile F.no_async (F.in_brackets c) F.no_async (F.without d n) u v e = absurd (no_two c d n u v (tails e))
items_agree profile F.async (F.in_brackets c) F.async (F.without d n) u v e = absurd (no_two c d n u v (tails (tails e)))
items_agree profile F.no_async (F.without d n) F.no_async (F.in_brackets c) u v e = absurd (no_two c d n v u (sym (tails e)))
items_agree profile F.async (F.without d n) F.async (F.in_brackets c) u v e = absurd (no_two c d n v u (sym (tails (tails e))))
items_agree profile F.no_async i F.async j u v e = absurd (words (heads e))
  where
    words : Word Key.With ≡ Word Key.Async → ⊥
    words q = absurd (cc)
items_agree profile F.async i F.no_async j u v e = absurd (words (heads e))
  where
    words : Word Key.Async ≡ Word Key.With → ⊥
    words q = absurd (cc)

agree : {profile : Profile} {ts us : List Terminal} {y z : Header} (h : F.HeaderOf profile ts y) (g : F.HeaderOf profile us z)
    (u v : List Terminal) → ts ++ (Op Sign.Colon ∷ u) ≡ us ++ (Op Sign.Colon ∷ v) → (c : Bool) × Fits c h × Fits c g
agree {profile} (F.with_line p i) (F.with_line q j) u v e = items_agree profile p i q j u v e
agree {profile} (F.with_line p i) g u v e =
    (mode {profile = profile} (F.with_line p i), fits {profile = profile} (F.with_line p i), tt)
agree h g u v e = (mode g, tt, fits g)

-- ---- Lines.

forms_agree : {profile : Profile} {ts us : List Terminal} {f g : Form} (d : F.FormOf profile ts f) (c : F.FormOf profile us g) → ts ≡ us
    → (b : Bool) × FitsForm b d × FitsForm b c
forms_agree (F.header_line h) (F.header_line g) e = agree h g [] [] e
forms_agree (F.header_line h) (F.header_suite {us = v} g s) e = agree h g [] v e
forms_agree (F.header_suite {us = u} h s) (F.header_line g) e = agree h g u [] e
forms_agree (F.header_suite {us = u} h s) (F.header_suite {us = v} g t) e = agree h g u v e
forms_agree (F.header_line h) c e = (mode h, fits h, tt)
forms_agree (F.header_suite h s) c e = (mode h, fits h, tt)
forms_agree d (F.header_line g) e = (mode g, tt, fits g)
forms_agree d (F.header_suite g t) e = (mode g, tt, fits g)
forms_agree d c e = (false, tt, tt)

pub lines_agree : {profile : Profile} {inside : Bool} {ts us : List Terminal} {f g : Form} (d : F.FormAt profile inside ts f)
    (c : F.FormAt profile inside us g) → ts ≡ us → (b : Bool) × FitsLine b d × FitsLine b c
lines_agree (F.other_line h d) (F.other_line i c) e = forms_agree d c e
lines_agree (F.other_line h d) c e = let w = forms_agree d d refl in (w.0, w.1, tt)
lines_agree d (F.other_line h c) e = let w = forms_agree c c refl in (w.0, tt, w.1)
lines_agree d c e = (false, tt, tt)
