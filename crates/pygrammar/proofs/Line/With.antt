-- The two readings of `with`: brackets directly before the colon count, and where they don't fit
-- nothing is read in them.
--
-- Carries: with_goes, read_items_sound, for Law, SoundLines. On: Says, SoundParts,
-- LookLemmas, Whole and 5 more.
use Rattle.std.proofs.Common.{◌≡◌, ◌⊎◌, inl, inr, refl, sym, ap, subst, ◌∙◌, ℕ, suc, ◌≤◌, arith, List, [], ◌∷◌, ◌++◌, length}
use Rattle.std.proofs.Common.{Bool, append_assoc}
use Rattle.std.proofs.lemmas.List.{append_cancel_right}
use Rattle.std.specs.Prelude.{max}
use Rattle.pylex_lexeme.specs.declared.kinds.Exact.TheVariants as Sign
use Rattle.pytoken.specs.declared.keywords.Keyword.TheVariants as Key
use Rattle.pygrammar.specs.declared.levels.Level.TheVariants.{Expression, Atom, Primary, Or, Elem}
use Rattle.pytree_node.specs.Trees.{Expr}
use Rattle.pytoken.specs.Terminals.{Terminal, Op, Word}
use Rattle.pygrammar.specs.Entries.{Of, Entry, Single}
use Rattle.pygrammar.specs.Grammar as G
use Rattle.pygrammar.specs.Reader.{Answer, Found, NoForm, TooDeep, and_then, listing_of, round, read}
use Rattle.pygrammar.specs.Precedence.{starts}
use Rattle.pygrammar.proofs.Answers.{found_rest, none_found, deep_none}
use Rattle.pygrammar.proofs.Completeness.LookLemmas.{grip_of, heads, pass_op, pass_word}
use Rattle.pygrammar.proofs.Completeness.Climb.{answers}
use Rattle.pygrammar.proofs.Completeness.LevelLemmas.{led}
use Rattle.pygrammar.proofs.Completeness.Complete.{goes, listing_all}
use Rattle.pygrammar.proofs.Soundness.Says.{Says, found, no_form, deep, says_found, says_then, says_op, says_word, says_made, says_is}
use Rattle.pygrammar.proofs.Soundness.Says.{lower}
use Rattle.pygrammar.proofs.Depths.Weights.{weight_most}
use Rattle.pygrammar.proofs.Depths.Enough.{Good, good_kept, good_reads}
use Rattle.pygrammar.proofs.Depths.Whole.{final}
use Rattle.pygrammar.proofs.Related.Lines.{r_bracketed}
use Rattle.pytree_node.specs.Trees as Trees
use Rattle.pygrammar.specs.Lines.{with_header}
use Rattle.pygrammar.specs.Forms as F
use Rattle.pygrammar.specs.LineReader.{or_else, always, commas_of, plain, item_target, read_item, bracketed, read_items, with_rest}
use Rattle.pygrammar.proofs.Line.Tools.{thus, front}
use Rattle.pygrammar.proofs.Line.Headers.{items_goes, bracketed_goes}
use Rattle.pygrammar.proofs.Line.SoundParts.{At, headed, joins, plain_sound, always_sound, more_sound}

-- ---- What is read as an item is one.
item_target_sound : (i : List Terminal) → Says (At G.ItemTarget i) (item_target plain i)
item_target_sound i =
    says_op Sign.Star i _ _ (λ _ s q. says_then _ _ (plain_sound Expression s)
    (λ e r1 p. says_made _ r1 (λ t h. (Op Sign.Star ∷ p.0, headed (Op Sign.Star) q p.1, G.star_target p.2 h))))
    (λ _. says_then _ _ (plain_sound Expression i) (λ e r p. says_made _ r (λ t h. (p.0, p.1, G.item_target p.2 h))))

item_sound : (i : List Terminal) → Says (At F.ItemOf i) (read_item plain i)
item_sound i = says_then _ _ (plain_sound Expression i)
    (λ e r p. says_word Key.As r _ _
    (λ _ s q. says_then _ _ (item_target_sound s)
    (λ t r2 y. found (p.0 ++ (Word Key.As ∷ y.0), joins p.0 (Word Key.As ∷ y.0) _ p.1 (headed (Word Key.As) q y.1), F.item_as p.2 y.2)))
    (λ _. found (p.0, p.1, F.bare_item p.2)))

abbrev pub BracketedAt : List Terminal → List Trees.Item → List Terminal → Type 0
BracketedAt i is r = (us : List Terminal) × (z : List Terminal) × (i ≡ us ++ r) × (r ≡ Op Sign.Colon ∷ z) × F.Bracketed us is

bracketed_sound : (i : List Terminal) → Says (BracketedAt i) (bracketed plain i)
bracketed_sound i = says_op Sign.LPar i _ _
    (λ _ s q. says_then _ _ (more_sound Trees.Item F.ItemOf (read_item plain) item_sound (starts (Of Expression)) (suc (length s)) s)
    (λ is r1 p. says_op Sign.RPar r1 _ _
    (λ _ r2 v. says_op Sign.Colon r2 _ _ (λ _ z w. found (
      Op Sign.LPar ∷ (p.0 ++ (Op Sign.RPar ∷ [])),
      z,
      headed (Op Sign.LPar) q (joins p.0 (Op Sign.RPar ∷ []) _ p.1 v),
      w,
      F.bracketed p.2,
    )) (λ _. no_form)) (λ _. no_form))) (λ _. no_form)

-- ---- The plain reader of brackets always comes to an answer.
bracketed_calm : (i : List Terminal) → bracketed plain i ≡ TooDeep → ⊥
bracketed_calm i h = subst (λ z. Good (suc (length i)) z) h
    (r_bracketed good_kept plain plain (suc (length i)) (good_reads (suc (length i))) i (omega (arith, weight_most i)))

-- ---- Items in brackets are an expression in brackets, or have an `as` that no expression has.
data Run : List Terminal → List Entry → Type 0 where
  one : {ts : List Terminal} {e : Expr} → G.Derives Expression ts e → Run ts (Single e ∷ [])
  more : {ts us : List Terminal} {e : Expr} {es : List Entry} → G.Derives Expression ts e → Run us es
      → Run (ts ++ (Op Sign.Comma ∷ us)) (Single e ∷ es)

elem : {ts : List Terminal} {e : Expr} → G.Derives Expression ts e → G.Derives Elem ts e
elem p = G.next (G.next p)

run_listing : {ts : List Terminal} {es : List Entry} → Run ts es → G.Listing (Of Elem) ts es
run_listing (one p) = G.last_item (G.single (elem p))
run_listing (more p c) = G.item (G.single (elem p)) (run_listing c)

run_ended : {ts : List Terminal} {es : List Entry} → Run ts es → G.Listing (Of Elem) (ts ++ (Op Sign.Comma ∷ [])) es
run_ended (one p) = G.item (G.single (elem p)) G.no_item
run_ended (more {ts = ts} {us = us} {e = e} {es = es} p c) = subst (λ z. G.Listing (Of Elem) z (Single e ∷ es))
    (sym (append_assoc ts (Op Sign.Comma ∷ us) (Op Sign.Comma ∷ []))) (G.item (G.single (elem p)) (run_ended c))

abbrev Grouped : List Terminal → Type 0
Grouped vs = (e : Expr) × G.Derives Atom (Op Sign.LPar ∷ (vs ++ (Op Sign.RPar ∷ []))) e

moved : {e : Expr} {us vs : List Terminal} → us ≡ vs → G.Derives Atom (Op Sign.LPar ∷ us) e → G.Derives Atom (Op Sign.LPar ∷ vs) e
moved {e} q p = subst (λ z. G.Derives Atom (Op Sign.LPar ∷ z) e) q p

run_grouped : {ts : List Terminal} {es : List Entry} → Run ts es → Grouped ts
run_grouped (one {e = e} p) = (e, G.group (G.next p))
run_grouped (more {ts = ts} {us = us} p c) =
    (_, moved (sym (append_assoc ts (Op Sign.Comma ∷ us) (Op Sign.RPar ∷ []))) (G.tuple (elem p) (run_listing c)))

ended_grouped : {ts : List Terminal} {es : List Entry} → Run ts es → Grouped (ts ++ (Op Sign.Comma ∷ []))
ended_grouped (one {ts = ts} p) = (_, moved (sym (append_assoc ts (Op Sign.Comma ∷ []) (Op Sign.RPar ∷ []))) (G.tuple (elem p) G.no_item))
ended_grouped (more {ts = ts} {us = us} p c) = (_, moved (shape ts us) (G.tuple (elem p) (run_ended c)))
  where
    shape : (ts us : List Terminal) → ts ++ (Op Sign.Comma ∷ ((us ++ (Op Sign.Comma ∷ [])) ++ (Op Sign.RPar ∷ []))) ≡
        ((ts ++ (Op Sign.Comma ∷ us)) ++ (Op Sign.Comma ∷ [])) ++ (Op Sign.RPar ∷ [])
    shape ts us = simp append_assoc refl

-- an `as` after a run
abbrev HasAs : List Terminal → Type 0
HasAs vs = (ws : List Terminal) × (es : List Entry) × (zs : List Terminal) × (vs ≡ ws ++ (Word Key.As ∷ zs)) × Run ws es

split : {vs : List Terminal} {is : List Trees.Item} → F.Commas Trees.Item F.ItemOf vs is → ((es : List Entry) × Run vs es) ⊎ HasAs vs
split (F.alone (F.bare_item p)) = inl (_, one p)
split (F.alone (F.item_as {ts = ts} {us = us} p t)) = inr (ts, _, us, refl, one p)
split (F.comma {us = vs} (F.item_as {ts = ts} {us = us} p t) c) =
    inr (ts, _, us ++ (Op Sign.Comma ∷ vs), append_assoc ts (Word Key.As ∷ us) (Op Sign.Comma ∷ vs), one p)
split (F.comma {ts = ts} {us = vs} (F.bare_item p) c) = elim (split c) [
  | inl u ↦ inl (_, more p u.1)
  | inr u ↦ inr (
    ts ++ (Op Sign.Comma ∷ u.0),
    _,
    u.2,
    ap (λ z. ts ++ (Op Sign.Comma ∷ z)) u.3
        ∙ sym (append_assoc ts (Op Sign.Comma ∷ u.0) (Word Key.As ∷ u.2)),
    more p u.4,
  )
]

split_all : {vs : List Terminal} {is : List Trees.Item} → F.Commas? Trees.Item F.ItemOf vs is → Grouped vs ⊎ HasAs vs
split_all (F.ends_bare c) = elim (split c) [ inl u ↦ inl (run_grouped u.1) | inr u ↦ inr u ]
split_all (F.ends_comma c) = elim (split c) [
  | inl u ↦ inl (ended_grouped u.1)
  | inr u ↦ inr (
    u.0,
    u.1,
    u.2 ++ (Op Sign.Comma ∷ []),
    ap (λ z. z ++ (Op Sign.Comma ∷ [])) u.3
        ∙ append_assoc u.0 (Word Key.As ∷ u.2) (Op Sign.Comma ∷ []),
    u.4,
  )
]

-- with an `as` nothing is read
fails : {A B : Type 0} (x : Answer A) (k : A → List Terminal → Answer B) → x ≡ NoForm → and_then x k ≡ NoForm
fails x k h = ap (λ z. and_then z k) h

-- a `(` and an expression or a run, and then no bracket
round_fails : {ws : List Terminal} {es : List Entry} → Run ws es → (y : List Terminal)
    → (n : ℕ) × ((d : ℕ) → n ≤ d → round (read (suc d)) (ws ++ (Word Key.As ∷ y)) ≡ NoForm)
round_fails (one {ts = ts} {e = e} p) y =
    let a = goes (elem p) in
    let z = Word Key.As ∷ y in (
      a.0,
      λ d h. pass_op Sign.RPar ts z _ _ (omega (arith, led p)) ∙ (pass_word Key.Yield ts z _ _ (omega (arith, led p))
          ∙ thus _ _ (answers Elem ts e d z (a.1 d h) (omega arith)) (pass_op Sign.Star ts z _ _ (omega (arith, led p)))),
    )
round_fails (more {ts = ts} {us = us} {e = e} p c) y =
    let a = goes (elem p) in
    let b = listing_all (run_listing c) in
    let z = Op Sign.Comma ∷ (us ++ (Word Key.As ∷ y)) in
    let j = us ++ (Word Key.As ∷ y) in (
      max a.0 b.0,
      λ d h. ap (round (read (suc d))) (append_assoc ts (Op Sign.Comma ∷ us) (Word Key.As ∷ y))
          ∙ (pass_op Sign.RPar ts z _ _ (omega (arith, led p)) ∙ (pass_word Key.Yield ts z _ _ (omega (arith, led p))
          ∙ thus _ _ (answers Elem ts e d z (a.1 d (omega (arith, h))) (omega arith)) (thus (listing_of (read (suc d)) (Of Elem) [] j) _
          (b.1 d (omega (arith, h)) (λ r. omega arith) (Word Key.As ∷ y) (refl, (λ q. absurd (omega (arith, q))), omega arith) (length j)
          (omega arith) []) refl))),
    )

expression_fails : (d : ℕ) (j : List Terminal) → round (read d) j ≡ NoForm → read (suc d) Expression (Op Sign.LPar ∷ j) ≡ NoForm
expression_fails d j h = fails _ _ (fails _ _ (fails _ _ h))

no_expression : {ws : List Terminal} {es : List Entry} → Run ws es → (y : List Terminal)
    → plain Expression (Op Sign.LPar ∷ (ws ++ (Word Key.As ∷ y))) ≡ NoForm
no_expression {ws} c y =
    let f = round_fails c y in
    let i = Op Sign.LPar ∷ (ws ++ (Word Key.As ∷ y)) in
    let h = expression_fails (suc f.0) (ws ++ (Word Key.As ∷ y)) (f.1 f.0 (omega arith)) in
    elim (final (suc (suc f.0)) Expression i) [ inl q ↦ absurd (deep_none (sym q ∙ h)) | inr q ↦ sym q ∙ h ]

-- ---- So items in brackets in front of a colon end where the first expression does.
atom_expression : {ts : List Terminal} {e : Expr} → G.Derives Atom ts e → G.Derives Expression ts e
atom_expression {ts} {e} p = G.next (lower Or Primary ts e (omega arith) (omega arith) (omega arith) (G.next p))

same_end : {us xs : List Terminal} {is : List Trees.Item} {e : Expr} (y z : List Terminal) → F.Bracketed us is → G.Derives Expression xs e
    → us ++ (Op Sign.Colon ∷ y) ≡ xs ++ z → grip_of z ≤ 8 → z ≡ Op Sign.Colon ∷ y
same_end {e = e} y z (F.bracketed {ts = vs} c) p q g =
    let h = front p z g in
    let w = Op Sign.Colon ∷ y in
    elim (split_all c) [
      | inl u ↦ found_rest e u.0 z w (sym h ∙ (ap (plain Expression) (sym q) ∙ front (atom_expression u.1) w (omega arith)))
      | inr u ↦ absurd (none_found e z (sym (no_expression u.4 (u.2 ++ (Op Sign.RPar ∷ w)))
          ∙ (ap (plain Expression) (shape vs u.0 u.2 w u.3 ∙ q) ∙ h)))
    ]
  where
    shape : (vs ws zs w : List Terminal) → vs ≡ ws ++ (Word Key.As ∷ zs)
        → Op Sign.LPar ∷ (ws ++ (Word Key.As ∷ (zs ++ (Op Sign.RPar ∷ w)))) ≡ (Op Sign.LPar ∷ (vs ++ (Op Sign.RPar ∷ []))) ++ w
    shape vs ws zs w q = long ws zs w ∙ ap (λ v. (Op Sign.LPar ∷ (v ++ (Op Sign.RPar ∷ []))) ++ w) (sym q)
      where
        long : (ws zs w : List Terminal) → Op Sign.LPar ∷ (ws ++ (Word Key.As ∷ (zs ++ (Op Sign.RPar ∷ w)))) ≡
            (Op Sign.LPar ∷ ((ws ++ (Word Key.As ∷ zs)) ++ (Op Sign.RPar ∷ []))) ++ w
        long ws zs w = simp append_assoc refl

-- the first expression of items, and what follows it
abbrev FirstOf : List Terminal → List Terminal → Type 0
FirstOf ts y = (xs : List Terminal) × (e : Expr) × (z : List Terminal) × G.Derives Expression xs e × (ts ++ (Op Sign.Colon ∷ y) ≡ xs ++ z) ×
    (grip_of z ≤ 8) × ((w : List Terminal) → z ≡ Op Sign.Colon ∷ w → xs ≡ ts)

no_colon : (t : Terminal) (r w : List Terminal) → (t ≡ Op Sign.Colon → ⊥) → t ∷ r ≡ Op Sign.Colon ∷ w → ⊥
no_colon t r w h q = h (heads q)

comma_colon : Op Sign.Comma ≡ Op Sign.Colon → ⊥
comma_colon q = absurd (cc)

as_colon : Word Key.As ≡ Op Sign.Colon → ⊥
as_colon q = absurd (cc)

first_expression : {ts : List Terminal} {is : List Trees.Item} → F.Commas Trees.Item F.ItemOf ts is → (y : List Terminal) → FirstOf ts y
first_expression (F.alone (F.bare_item {ts = ts} p)) y = (ts, _, Op Sign.Colon ∷ y, p, refl, omega arith, λ w q. refl)
first_expression (F.alone (F.item_as {ts = ts} {us = us} p t)) y = (
  ts,
  _,
  Word Key.As ∷ (us ++ (Op Sign.Colon ∷ y)),
  p,
  append_assoc ts (Word Key.As ∷ us) (Op Sign.Colon ∷ y),
  omega arith,
  λ w q. absurd (no_colon (Word Key.As) _ w as_colon q),
)
first_expression (F.comma {us = vs} (F.bare_item {ts = ts} p) c) y = (
  ts,
  _,
  Op Sign.Comma ∷ (vs ++ (Op Sign.Colon ∷ y)),
  p,
  append_assoc ts (Op Sign.Comma ∷ vs) (Op Sign.Colon ∷ y),
  omega arith,
  λ w q. absurd (no_colon (Op Sign.Comma) _ w comma_colon q),
)
first_expression (F.comma {us = vs} (F.item_as {ts = ts} {us = us} p t) c) y = (
  ts,
  _,
  Word Key.As ∷ (us ++ (Op Sign.Comma ∷ (vs ++ (Op Sign.Colon ∷ y)))),
  p,
  shape ts us vs (Op Sign.Colon ∷ y),
  omega arith,
  λ w q. absurd (no_colon (Word Key.As) _ w as_colon q),
)
  where
    shape : (ts us vs y : List Terminal) → ((ts ++ (Word Key.As ∷ us)) ++ (Op Sign.Comma ∷ vs)) ++ y ≡ ts ++
        (Word Key.As ∷ (us ++ (Op Sign.Comma ∷ (vs ++ y))))
    shape ts us vs y = simp append_assoc refl

-- the items of the whole are in brackets where brackets fit at all
brackets_fit : {ts us : List Terminal} {is others : List Trees.Item} (y z : List Terminal) → F.Commas Trees.Item F.ItemOf ts is
    → F.Bracketed us others → ts ++ (Op Sign.Colon ∷ y) ≡ us ++ (Op Sign.Colon ∷ z) → us ≡ ts
brackets_fit {ts} {us} y z c b q =
    let f = first_expression c y in
    let w = same_end z f.2 b f.3 (sym q ∙ f.4) f.5 in
    append_cancel_right us f.0 f.2 (ap (λ v. us ++ v) w ∙ (sym q ∙ f.4)) ∙ f.6 z w

no_brackets : {ts : List Terminal} {is : List Trees.Item} → F.Commas Trees.Item F.ItemOf ts is
    → ((others : List Trees.Item) → F.Bracketed ts others → ⊥) → (y : List Terminal) → bracketed plain (ts ++ (Op Sign.Colon ∷ y)) ≡ NoForm
no_brackets {ts} c n y = go (bracketed plain (ts ++ (Op Sign.Colon ∷ y))) refl
  where
    go : (a : Answer (List Trees.Item)) → bracketed plain (ts ++ (Op Sign.Colon ∷ y)) ≡ a → a ≡ NoForm
    go (Found os r) q =
        let s : BracketedAt (ts ++ (Op Sign.Colon ∷ y)) os r =
        says_found os r (subst (Says (BracketedAt (ts ++ (Op Sign.Colon ∷ y)))) q (bracketed_sound (ts ++ (Op Sign.Colon ∷ y)))) in
        absurd (n os (subst (λ z. F.Bracketed z os) (brackets_fit y s.1 c s.4 (s.2 ∙ ap (λ z. s.0 ++ z) s.3)) s.4))
    go NoForm q = refl
    go TooDeep q = absurd (bracketed_calm (ts ++ (Op Sign.Colon ∷ y)) q)

-- ---- The law of items.
read_items_goes : {ts : List Terminal} {is : List Trees.Item} → F.Items ts is → (r : List Terminal)
    → read_items plain (ts ++ (Op Sign.Colon ∷ r)) ≡ Found is (Op Sign.Colon ∷ r)
read_items_goes {ts} (F.in_brackets b) r =
    ap (λ z. or_else z (commas_of (read_item plain) always (ts ++ (Op Sign.Colon ∷ r)))) (bracketed_goes b r)
read_items_goes {ts} (F.without c n) r = ap (λ z. or_else z (commas_of (read_item plain) always (ts ++ (Op Sign.Colon ∷ r))))
    (no_brackets c n r) ∙ items_goes c r

pub with_goes : (ts : List Terminal) (is : List Trees.Item) → F.Items ts is → (b : Bool) (r : List Terminal)
    → with_rest plain b (ts ++ (Op Sign.Colon ∷ r)) ≡ Found (with_header b is) (Op Sign.Colon ∷ r)
with_goes ts is p b r = thus _ _ (read_items_goes p r) refl

-- what is read as items is, where a colon follows
abbrev pub ItemsAt : List Terminal → List Trees.Item → List Terminal → Type 0
ItemsAt i is r = (us : List Terminal) × (i ≡ us ++ r) × ((z : List Terminal) → r ≡ Op Sign.Colon ∷ z → F.Items us is)

pub read_items_sound : (i : List Terminal) → Says (ItemsAt i) (read_items plain i)
read_items_sound i = go (bracketed plain i) refl (bracketed_sound i)
  where
    go : (a : Answer (List Trees.Item)) → bracketed plain i ≡ a → Says (BracketedAt i) a
        → Says (ItemsAt i) (or_else a (commas_of (read_item plain) always i))
    go (Found os r) q s = let p = says_found os r s in found (p.0, p.2, λ z h. F.in_brackets p.4)
    go TooDeep q s = deep
    go NoForm q s = says_is _ (always_sound Trees.Item F.ItemOf (read_item plain) item_sound (suc (length i)) i)
        (λ is r p. (
          p.0,
          p.1,
          λ z h. F.without p.2 (λ others b. bad others (Op Sign.Colon ∷ z) (sym (bracketed_goes b z)
              ∙ (ap (bracketed plain) (ap (λ v. p.0 ++ v) (sym h) ∙ sym p.1) ∙ q))),
        ))
      where
        bad : (os : List Trees.Item) (r : List Terminal) → ◌≡◌ {A = Answer (List Trees.Item)} (Found os r) NoForm → ⊥
        bad os r h = absurd (cc)
