-- Atoms and Primaries.
--
-- Carries: primary_goes, TailReads, tail_keeps, tail_last and 23 more, for Complete, ReadValues,
-- ReadBrackets. On: Comps, LookLemmas, Climb, LevelLemmas and 1 more.
use Rattle.std.proofs.Common.{map, ◌≡◌, ◌⊎◌, inl, inr, refl, sym, ap, subst, ◌∙◌, ℕ, suc, ◌≤◌, ◌<◌, arith, List, [], ◌∷◌, ◌++◌, length}
use Rattle.std.proofs.Common.{Some, Bool, true, false, append_assoc}
use Rattle.std.specs.Prelude.{max}
use Rattle.pylex_lexeme.specs.declared.kinds.Exact.TheVariants.{LPar, RPar, LSqb, RSqb, LBrace, RBrace, Colon, Comma, Star, DoubleStar}
use Rattle.pylex_lexeme.specs.declared.kinds.Exact.TheVariants.{ColonEqual}
use Rattle.pytoken.specs.declared.keywords.Keyword.TheVariants as Key
use Rattle.pytree_node.specs.declared.operators.Context.TheVariants.{Load}
use Rattle.pygrammar.specs.declared.levels.Level.TheVariants.{Named, Expression, BitOr, Primary, Atom, Elem}
use Rattle.pytree_node.specs.Trees
use Rattle.pytree_node.specs.Trees.{Expr, no_exprs, an_expr, no_optional, Comprehension, comprehensions}
use Rattle.pytree_node.specs.Values
use Rattle.pytoken.specs.Terminals.{Spelled, Terminal, Op, Word, Ident, Number, Literal, FormattedBegin, FormattedEnd}
use Rattle.pygrammar.specs.Constants.{constant_word, joined}
use Rattle.pygrammar.specs.FormattedStrings.{StringPart, Text, merged, values_of}
use Rattle.pygrammar.specs.Entries.{Item, Of, Pair, Entry, Single, Paired, Doubled, singles, keys, values}
use Rattle.pygrammar.specs.Grammar as G
use Rattle.pygrammar.specs.Reader.{Found, made, read, yield_step, comps_closed, constant_of, round, square, curly, others_of, listing_of}
use Rattle.pygrammar.specs.Reader.{atom, Reads}
use Rattle.pygrammar.specs.Precedence.{starts, starts_comp}
use Rattle.pygrammar.proofs.Completeness.LookLemmas.{grip_of, lead_of, miss_op, pass_op, pass_word, miss_name_with}
use Rattle.pygrammar.proofs.Completeness.Climb.{ReadsAt, ReadsAs, deeper, unroll, answers}
use Rattle.pygrammar.proofs.Completeness.Strings.{strings_step, FormattedReads, LiteralsRead, MixedReads, joined_shape, joined_goes}
use Rattle.pygrammar.proofs.Completeness.LevelLemmas.{free, next_goes, primary_target}
use Rattle.pygrammar.proofs.Completeness.Comps.{ListEnds, Separable, ListingReads, CompsReads, comps_first, comps_close}
use Rattle.pygrammar.proofs.Completeness.Forms.{YieldsReads, starts_of}

pub primary_goes : (ts : List Terminal) (e : Expr) (n : ℕ) → ((d : ℕ) → n ≤ d → ReadsAt Primary ts e d) → ReadsAs Primary ts e
primary_goes ts e n f = (n, f, λ d h. primary_target ts e d (f d h))

-- after the first item of a list
abbrev pub TailFirst : List Terminal → Type 0
TailFirst vs = (vs ≡ []) ⊎ ((ws : List Terminal) × (vs ≡ Op Comma ∷ ws))

pub tail_keeps : (P : List Terminal → Type 0) (vs rest : List Terminal) → TailFirst vs → P rest
    → ((r : List Terminal) → P (Op Comma ∷ r)) → P (vs ++ rest)
tail_keeps P vs rest (inl e) p c = subst (λ z. P (z ++ rest)) (sym e) p
tail_keeps P vs rest (inr (ws, e)) p c = subst (λ z. P (z ++ rest)) (sym e) (c (ws ++ rest))

abbrev pub TailReads : Item → List Terminal → List Entry → Type 0
TailReads i vs es = (n : ℕ) × ((d : ℕ) → n ≤ d → Separable i → (rest : List Terminal) → ListEnds i rest → (a : Entry)
    → others_of (read (suc d)) i a (vs ++ rest) ≡ Found (a ∷ es) rest) × TailFirst vs

others_end : (self : Reads) (i : Item) (a : Entry) (r : List Terminal) → (grip_of r ≡ 3 → ⊥) → others_of self i a r ≡ Found (a ∷ []) r
others_end self i a r g = miss_op Comma r _ _ g

pub tail_last : (i : Item) → TailReads i [] []
tail_last i = (0, (λ d h w rest s a. others_end (read (suc d)) i a rest s.1), inl refl)

pub tail_more : (i : Item) (us : List Terminal) (es : List Entry) → ListingReads i us es → TailReads i (Op Comma ∷ us) es
tail_more i us es k = (k.0, (λ d h w rest s a. k.1 d h w rest s (length (us ++ rest)) (omega arith) (a ∷ [])), inr (us, refl))

-- names, constants, strings
pub name_goes : (x : Spelled) → ReadsAs Atom (Ident x ∷ []) (Trees.Name x.form Load)
name_goes x = (0, (λ d h rest s. unroll d Atom (Ident x ∷ rest)), λ d h. tt)

pub number_goes : (v : Values.Value) → ReadsAs Atom (Number v ∷ []) (Trees.Constant v)
number_goes v = (0, (λ d h rest s. unroll d Atom (Number v ∷ rest)), λ d h. tt)

constant_step : (self : Reads) (t : Terminal) (v : Values.Value) (r : List Terminal) → constant_word t ≡ Some v
    → atom self (t ∷ r) ≡ Found (Trees.Constant v) r
constant_step self (Op LPar) v r h = absurd (cc)
constant_step self (Op LSqb) v r h = absurd (cc)
constant_step self (Op LBrace) v r h = absurd (cc)
constant_step self (Op _) v r h = ap (λ o. made (constant_of o) r) h
constant_step self (Word _) v r h = ap (λ o. made (constant_of o) r) h
constant_step self _ v r h = absurd (cc)

pub constant_goes : (t : Terminal) (v : Values.Value) → constant_word t ≡ Some v → ReadsAs Atom (t ∷ []) (Trees.Constant v)
constant_goes t v w = (0, (λ d h rest s. unroll d Atom (t ∷ rest) ∙ constant_step (read d) t v rest w), λ d h. tt)

pub strings_goes : (v w : Values.Value) (vs : List Values.Value) → joined v vs ≡ Some w
    → ReadsAs Atom (Literal v ∷ map Literal vs) (Trees.Constant w)
strings_goes v w vs k =
    (0, (λ d h rest s. unroll d Atom (Literal v ∷ (map Literal vs ++ rest)) ∙ strings_step (read d) v w vs rest s k), λ d h. tt)

-- f-strings
pub joined_first_goes : (ks bs : List Terminal) (xs ys : List StringPart) → FormattedReads false ks xs → LiteralsRead false bs ys
    → ReadsAs Atom (FormattedBegin ∷ (ks ++ (FormattedEnd ∷ bs))) (Trees.JoinedStr (values_of false (merged (xs ++ ys))))
joined_first_goes ks bs xs ys f l = let j = joined_goes false ks bs xs ys f l in (
  suc j.0,
  deeper (ReadsAt Atom (FormattedBegin ∷ (ks ++ (FormattedEnd ∷ bs))) (Trees.JoinedStr (values_of false (merged (xs ++ ys))))) j.0
      (λ d h rest s.
      ap (read (suc (suc d)) Atom) (joined_shape ks bs rest)
      ∙ (unroll (suc d) Atom (FormattedBegin ∷ (ks ++ (FormattedEnd ∷ (bs ++ rest)))) ∙ j.1 d h [] rest s)),
  λ d h. tt,
)

pub mixed_goes : (u : Bool) (t : List ℕ) (ts : List Terminal) (ps : List StringPart) → MixedReads u ts ps
    → ReadsAs Atom (Literal (Values.Str t u) ∷ ts) (Trees.JoinedStr (values_of u (merged (Text t ∷ ps))))
mixed_goes u t ts ps m = (
  suc m.0,
  deeper (ReadsAt Atom (Literal (Values.Str t u) ∷ ts) (Trees.JoinedStr (values_of u (merged (Text t ∷ ps))))) m.0 (λ d h rest s.
      unroll (suc d) Atom (Literal (Values.Str t u) ∷ (ts ++ rest)) ∙ m.1 d h (Values.Str t u) [] (Text t ∷ []) refl refl rest s),
  λ d h. tt,
)

-- round brackets
module _ (self : Reads) where
  group_step : (ts rest : List Terminal) (e : Expr) → 9 ≤ lead_of ts → self Elem (ts ++ (Op RPar ∷ rest)) ≡ Found e (Op RPar ∷ rest)
      → round self (ts ++ (Op RPar ∷ rest)) ≡ Found e rest
  group_step ts rest e l h = pass_op RPar ts _ _ _ (omega (arith, l)) ∙ (pass_word Key.Yield ts _ _ _ (omega (arith, l))
      ∙ rw h (pass_op Star ts _ _ _ (omega (arith, l))))

  generator_step : (ts i rest : List Terminal) (e f : Expr) (make : List Comprehension → Expr)
      → make ≡ (λ gs. Trees.GeneratorExp e (comprehensions gs)) → 9 ≤ lead_of ts → self Elem (ts ++ i) ≡ Found e i
      → (grip_of i ≡ 0) × (starts_comp i ≡ true) → comps_closed self RPar i make ≡ Found f rest → round self (ts ++ i) ≡ Found f rest
  generator_step ts i rest e f make m l h g k = pass_op RPar ts _ _ _ (omega (arith, l)) ∙ (pass_word Key.Yield ts _ _ _ (omega (arith, l))
      ∙ rw h (miss_op Comma i _ _ (λ q. omega (arith, q, g.0))
      ∙ (pass_op Star ts _ _ _ (omega (arith, l)) ∙ rw (g.1) (sym (ap (comps_closed self RPar i) m) ∙ k))))

  tuple_step : (ts i rest : List Terminal) (e : Expr) (es : List Entry) → 7 ≤ lead_of ts
      → self Elem (ts ++ (Op Comma ∷ i)) ≡ Found e (Op Comma ∷ i) → listing_of self (Of Elem) [] i ≡ Found es (Op RPar ∷ rest)
      → round self (ts ++ (Op Comma ∷ i)) ≡ Found (Trees.Tuple (an_expr e (singles es)) Load) rest
  tuple_step ts i rest e es l h k = pass_op RPar ts _ _ _ (omega (arith, l))
      ∙ (pass_word Key.Yield ts _ _ _ (omega (arith, l)) ∙ rw h (rw k refl))

  yield_step_round : (i rest : List Terminal) (e : Expr) → yield_step self i ≡ Found e (Op RPar ∷ rest)
      → round self (Word Key.Yield ∷ i) ≡ Found e rest
  yield_step_round i rest e h = rw h refl

  -- square brackets
  list_step : (ts i rest : List Terminal) (e : Expr) (es : List Entry) → starts (Of Elem) (ts ++ i) ≡ true → self Elem (ts ++ i) ≡ Found e i
      → starts_comp i ≡ false → others_of self (Of Elem) (Single e) i ≡ Found es (Op RSqb ∷ rest)
      → square self (ts ++ i) ≡ Found (Trees.ListOf (singles es) Load) rest
  list_step ts i rest e es w h c k = rw w (rw h (rw c (rw k refl)))

  list_comp_step : (ts i rest : List Terminal) (e f : Expr) → starts (Of Elem) (ts ++ i) ≡ true → 9 ≤ lead_of ts
      → self Elem (ts ++ i) ≡ Found e i → starts_comp i ≡ true → comps_closed self RSqb i (λ gs. Trees.ListComp e (comprehensions gs)) ≡
      Found f rest → square self (ts ++ i) ≡ Found f rest
  list_comp_step ts i rest e f w l h c k = rw w (rw h (rw c (pass_op Star ts _ _ _ (omega (arith, l)) ∙ k)))

  -- curly brackets
  set_step : (ts i rest : List Terminal) (e : Expr) (es : List Entry) → 7 ≤ lead_of ts → self Elem (ts ++ i) ≡ Found e i
      → (grip_of i ≡ 5 → ⊥) → starts_comp i ≡ false → others_of self (Of Elem) (Single e) i ≡ Found es (Op RBrace ∷ rest)
      → curly self (ts ++ i) ≡ Found (Trees.Set (singles es)) rest
  set_step ts i rest e es l h g c k = pass_op RBrace ts _ _ _ (omega (arith, l)) ∙ (pass_op DoubleStar ts _ _ _ (omega (arith, l))
      ∙ rw h (miss_op Colon i _ _ g ∙ rw c (rw k refl)))

  set_comp_step : (ts i rest : List Terminal) (e f : Expr) → 9 ≤ lead_of ts → self Elem (ts ++ i) ≡ Found e i
      → (grip_of i ≡ 0) × (starts_comp i ≡ true) → comps_closed self RBrace i (λ gs. Trees.SetComp e (comprehensions gs)) ≡ Found f rest
      → curly self (ts ++ i) ≡ Found f rest
  set_comp_step ts i rest e f l h g k = pass_op RBrace ts _ _ _ (omega (arith, l)) ∙ (pass_op DoubleStar ts _ _ _ (omega (arith, l))
      ∙ rw h (miss_op Colon i _ _ (λ q. omega (arith, q, g.0)) ∙ rw (g.1) (pass_op Star ts _ _ _ (omega (arith, l)) ∙ k)))

  dict_step : (ts i r rest : List Terminal) (k e : Expr) (es : List Entry) → 9 ≤ lead_of ts
      → self Elem (ts ++ (Op Colon ∷ i)) ≡ Found k (Op Colon ∷ i)
      → ((x : Spelled) (us : List Terminal) → ts ++ (Op Colon ∷ i) ≡ Ident x ∷ (Op ColonEqual ∷ us) → ⊥) → self Expression i ≡ Found e r
      → starts_comp r ≡ false → others_of self Pair (Paired k e) r ≡ Found es (Op RBrace ∷ rest)
      → curly self (ts ++ (Op Colon ∷ i)) ≡ Found (Trees.Dict (keys es) (values es)) rest
  dict_step ts i r rest k e es l h f v c w = pass_op RBrace ts _ _ _ (omega (arith, l)) ∙ (pass_op DoubleStar ts _ _ _ (omega (arith, l))
      ∙ rw h (pass_op Star ts _ _ _ (omega (arith, l)) ∙ (miss_name_with ColonEqual (ts ++ (Op Colon ∷ i)) _ _ f
      ∙ rw v (rw c (rw w refl)))))

  dict_comp_step : (ts i r rest : List Terminal) (k e g : Expr) → 9 ≤ lead_of ts → self Elem (ts ++ (Op Colon ∷ i)) ≡ Found k (Op Colon ∷ i)
      → ((x : Spelled) (us : List Terminal) → ts ++ (Op Colon ∷ i) ≡ Ident x ∷ (Op ColonEqual ∷ us) → ⊥) → self Expression i ≡ Found e r
      → starts_comp r ≡ true → comps_closed self RBrace r (λ gs. Trees.DictComp k e (comprehensions gs)) ≡ Found g rest
      → curly self (ts ++ (Op Colon ∷ i)) ≡ Found g rest
  dict_comp_step ts i r rest k e g l h f v c w = pass_op RBrace ts _ _ _ (omega (arith, l))
      ∙ (pass_op DoubleStar ts _ _ _ (omega (arith, l))
      ∙ rw h (pass_op Star ts _ _ _ (omega (arith, l)) ∙ (miss_name_with ColonEqual (ts ++ (Op Colon ∷ i)) _ _ f ∙ rw v (rw c w))))

  doubled_step : (i r rest : List Terminal) (e : Expr) (es : List Entry) → self BitOr i ≡ Found e r
      → others_of self Pair (Doubled e) r ≡ Found es (Op RBrace ∷ rest)
      → curly self (Op DoubleStar ∷ i) ≡ Found (Trees.Dict (keys es) (values es)) rest
  doubled_step i r rest e es h k = rw h (rw k refl)

-- atoms in brackets
pub close_shape : (ts rest : List Terminal) (s t : Terminal) → (s ∷ (ts ++ (t ∷ []))) ++ rest ≡ s ∷ (ts ++ (t ∷ rest))
close_shape ts rest s t = ap (λ z. s ∷ z) (append_assoc ts (t ∷ []) rest)

pub close_two : (ts us rest : List Terminal) (s t : Terminal) → (s ∷ (ts ++ (us ++ (t ∷ [])))) ++ rest ≡ s ∷ (ts ++ (us ++ (t ∷ rest)))
close_two ts us rest s t = simp append_assoc refl

pub close_after : (ts us rest : List Terminal) (s c t : Terminal) → (s ∷ (ts ++ (c ∷ (us ++ (t ∷ []))))) ++ rest ≡ s ∷
    (ts ++ (c ∷ (us ++ (t ∷ rest))))
close_after ts us rest s c t = simp append_assoc refl

close_three : (ts us vs rest : List Terminal) (s c t : Terminal) → (s ∷ (ts ++ (c ∷ (us ++ (vs ++ (t ∷ [])))))) ++ rest ≡ s ∷
    (ts ++ (c ∷ (us ++ (vs ++ (t ∷ rest)))))
close_three ts us vs rest s c t = simp append_assoc refl

elem_goes : (ts : List Terminal) (e : Expr) → 9 ≤ lead_of ts → ReadsAs Named ts e → ReadsAs Elem ts e
elem_goes ts e l p = next_goes Elem ts e l tt p

pub group_goes : (ts : List Terminal) (e : Expr) → 9 ≤ lead_of ts → ReadsAs Named ts e → ReadsAs Atom (Op LPar ∷ (ts ++ (Op RPar ∷ []))) e
group_goes ts e l p = let q = elem_goes ts e l p in (
  suc q.0,
  deeper (ReadsAt Atom (Op LPar ∷ (ts ++ (Op RPar ∷ []))) e) q.0
      (λ d h rest s. ap (read (suc (suc d)) Atom) (close_shape ts rest (Op LPar) (Op RPar))
      ∙ (unroll (suc d) Atom (Op LPar ∷ (ts ++ (Op RPar ∷ rest)))
      ∙ group_step (read (suc d)) ts rest e l (q.1 d h (Op RPar ∷ rest) (omega arith)))),
  λ d h. tt,
)

pub yield_group_goes : (ts : List Terminal) (e : Expr) → YieldsReads ts e
    → ReadsAs Atom (Op LPar ∷ (Word Key.Yield ∷ (ts ++ (Op RPar ∷ [])))) e
yield_group_goes ts e q = (
  suc q.0,
  deeper (ReadsAt Atom (Op LPar ∷ (Word Key.Yield ∷ (ts ++ (Op RPar ∷ [])))) e) q.0
      (λ d h rest s. ap (λ z. read (suc (suc d)) Atom (Op LPar ∷ z)) (close_shape ts rest (Word Key.Yield) (Op RPar))
      ∙ (unroll (suc d) Atom (Op LPar ∷ (Word Key.Yield ∷ (ts ++ (Op RPar ∷ rest))))
      ∙ yield_step_round (read (suc d)) (ts ++ (Op RPar ∷ rest)) rest e (q.1 d h (Op RPar ∷ rest) (omega arith, omega arith)))),
  λ d h. tt,
)

pub empty_tuple_goes : ReadsAs Atom (Op LPar ∷ (Op RPar ∷ [])) (Trees.Tuple no_exprs Load)
empty_tuple_goes = (0, (λ d h rest s. unroll d Atom (Op LPar ∷ (Op RPar ∷ rest))), λ d h. tt)

pub tuple_goes : (ts us : List Terminal) (e : Expr) (es : List Entry) → 7 ≤ lead_of ts → ReadsAs Elem ts e → ListingReads (Of Elem) us es
    → ReadsAs Atom (Op LPar ∷ (ts ++ (Op Comma ∷ (us ++ (Op RPar ∷ []))))) (Trees.Tuple (an_expr e (singles es)) Load)
tuple_goes ts us e es l p k = (
  suc (max p.0 k.0),
  deeper (ReadsAt Atom (Op LPar ∷ (ts ++ (Op Comma ∷ (us ++ (Op RPar ∷ []))))) (Trees.Tuple (an_expr e (singles es)) Load))
      (max p.0 k.0) (λ d h rest s.
      ap (read (suc (suc d)) Atom) (close_after ts us rest (Op LPar) (Op Comma) (Op RPar))
      ∙ (unroll (suc d) Atom (Op LPar ∷ (ts ++ (Op Comma ∷ (us ++ (Op RPar ∷ rest)))))
      ∙ tuple_step (read (suc d)) ts (us ++ (Op RPar ∷ rest)) rest e es l
      (p.1 d (omega (arith, h)) (Op Comma ∷ (us ++ (Op RPar ∷ rest))) (omega arith))
      (k.1 d (omega (arith, h)) (λ r. omega arith) (Op RPar ∷ rest) (refl, (λ q. absurd (omega (arith, q))), omega arith)
      (length (us ++ (Op RPar ∷ rest))) (omega arith) []))),
  λ d h. tt,
)

pub generator_goes : (ts us : List Terminal) (e : Expr) (gs : List Comprehension) → 9 ≤ lead_of ts → ReadsAs Named ts e → G.Comps us gs
    → CompsReads us gs → ReadsAs Atom (Op LPar ∷ (ts ++ (us ++ (Op RPar ∷ [])))) (Trees.GeneratorExp e (comprehensions gs))
generator_goes ts us e gs l p w k = let q = elem_goes ts e l p in (
  suc (max q.0 k.0),
  deeper (ReadsAt Atom (Op LPar ∷ (ts ++ (us ++ (Op RPar ∷ [])))) (Trees.GeneratorExp e (comprehensions gs))) (max q.0 k.0) (λ d h rest s.
      let i = us ++ (Op RPar ∷ rest) in
      let g = comps_first w (Op RPar ∷ rest) in
      ap (read (suc (suc d)) Atom) (close_two ts us rest (Op LPar) (Op RPar))
      ∙ (unroll (suc d) Atom (Op LPar ∷ (ts ++ i))
      ∙ generator_step (read (suc d)) ts i rest e (Trees.GeneratorExp e (comprehensions gs))
      (λ gs. Trees.GeneratorExp e (comprehensions gs)) refl l (q.1 d (omega (arith, h)) i (omega (arith, g.0))) g
      (comps_close us gs k d (omega (arith, h)) RPar rest refl (λ gs. Trees.GeneratorExp e (comprehensions gs))))),
  λ d h. tt,
)

pub empty_list_goes : ReadsAs Atom (Op LSqb ∷ (Op RSqb ∷ [])) (Trees.ListOf no_exprs Load)
empty_list_goes = (0, (λ d h rest s. unroll d Atom (Op LSqb ∷ (Op RSqb ∷ rest))), λ d h. tt)

-- us are ts and vs together
abbrev pub Splits : List Terminal → List Terminal → List Terminal → Type 0
Splits us ts vs = (r : List Terminal) → us ++ r ≡ ts ++ (vs ++ r)

pub list_goes : (us ts vs : List Terminal) (e : Expr) (es : List Entry) → Splits us ts vs → 7 ≤ lead_of ts → ReadsAs Elem ts e
    → TailReads (Of Elem) vs es → ReadsAs Atom (Op LSqb ∷ (us ++ (Op RSqb ∷ []))) (Trees.ListOf (singles (Single e ∷ es)) Load)
list_goes us ts vs e es sp l p k = (
  suc (max p.0 k.0),
  deeper (ReadsAt Atom (Op LSqb ∷ (us ++ (Op RSqb ∷ []))) (Trees.ListOf (singles (Single e ∷ es)) Load)) (max p.0 k.0) (λ d h rest s.
      let c = Op RSqb ∷ rest in
      let i = vs ++ (Op RSqb ∷ rest) in
      ap (read (suc (suc d)) Atom) (close_shape us rest (Op LSqb) (Op RSqb) ∙ ap (λ z. Op LSqb ∷ z) (sp (Op RSqb ∷ rest)))
      ∙ (unroll (suc d) Atom (Op LSqb ∷ (ts ++ i)) ∙ list_step (read (suc d)) ts i rest e (Single e ∷ es) (starts_of Elem ts i l)
      (p.1 d (omega (arith, h)) i (tail_keeps (λ r. grip_of r ≤ 7) vs c k.2 (omega arith) (λ r. omega arith)))
      (tail_keeps (λ r. starts_comp r ≡ false) vs c k.2 refl (λ r. refl)) (k.1 d (omega (arith, h)) (λ r. omega arith) c (
        refl,
        (λ q. absurd (omega (arith, q))),
        omega arith,
      ) (Single e)))),
  λ d h. tt,
)

pub list_comp_goes : (ts us : List Terminal) (e : Expr) (gs : List Comprehension) → 9 ≤ lead_of ts → ReadsAs Named ts e → G.Comps us gs
    → CompsReads us gs → ReadsAs Atom (Op LSqb ∷ (ts ++ (us ++ (Op RSqb ∷ [])))) (Trees.ListComp e (comprehensions gs))
list_comp_goes ts us e gs l p w k = let q = elem_goes ts e l p in (
  suc (max q.0 k.0),
  deeper (ReadsAt Atom (Op LSqb ∷ (ts ++ (us ++ (Op RSqb ∷ [])))) (Trees.ListComp e (comprehensions gs))) (max q.0 k.0) (λ d h rest s.
      let i = us ++ (Op RSqb ∷ rest) in
      let g = comps_first w (Op RSqb ∷ rest) in
      ap (read (suc (suc d)) Atom) (close_two ts us rest (Op LSqb) (Op RSqb))
      ∙ (unroll (suc d) Atom (Op LSqb ∷ (ts ++ i)) ∙ list_comp_step (read (suc d)) ts i rest e (Trees.ListComp e (comprehensions gs))
      (starts_of Elem ts i (omega (arith, l))) l (q.1 d (omega (arith, h)) i (omega (arith, g.0))) g.1
      (comps_close us gs k d (omega (arith, h)) RSqb rest refl (λ gs. Trees.ListComp e (comprehensions gs))))),
  λ d h. tt,
)

pub empty_dict_goes : ReadsAs Atom (Op LBrace ∷ (Op RBrace ∷ [])) (Trees.Dict no_optional no_exprs)
empty_dict_goes = (0, (λ d h rest s. unroll d Atom (Op LBrace ∷ (Op RBrace ∷ rest))), λ d h. tt)

pub set_goes : (us ts vs : List Terminal) (e : Expr) (es : List Entry) → Splits us ts vs → 7 ≤ lead_of ts → ReadsAs Elem ts e
    → TailReads (Of Elem) vs es → ReadsAs Atom (Op LBrace ∷ (us ++ (Op RBrace ∷ []))) (Trees.Set (singles (Single e ∷ es)))
set_goes us ts vs e es sp l p k = (
  suc (max p.0 k.0),
  deeper (ReadsAt Atom (Op LBrace ∷ (us ++ (Op RBrace ∷ []))) (Trees.Set (singles (Single e ∷ es)))) (max p.0 k.0) (λ d h rest s.
      let c = Op RBrace ∷ rest in
      let i = vs ++ (Op RBrace ∷ rest) in
      ap (read (suc (suc d)) Atom) (close_shape us rest (Op LBrace) (Op RBrace) ∙ ap (λ z. Op LBrace ∷ z) (sp (Op RBrace ∷ rest)))
      ∙ (unroll (suc d) Atom (Op LBrace ∷ (ts ++ i)) ∙ set_step (read (suc d)) ts i rest e (Single e ∷ es) l
      (p.1 d (omega (arith, h)) i (tail_keeps (λ r. grip_of r ≤ 7) vs c k.2 (omega arith) (λ r. omega arith)))
      (tail_keeps (λ r. grip_of r ≡ 5 → ⊥) vs c k.2 (λ q. omega (arith, q)) (λ r q. omega (arith, q)))
      (tail_keeps (λ r. starts_comp r ≡ false) vs c k.2 refl (λ r. refl)) (k.1 d (omega (arith, h)) (λ r. omega arith) c (
        refl,
        (λ q. absurd (omega (arith, q))),
        omega arith,
      ) (Single e)))),
  λ d h. tt,
)

pub set_comp_goes : (ts us : List Terminal) (e : Expr) (gs : List Comprehension) → 9 ≤ lead_of ts → ReadsAs Named ts e → G.Comps us gs
    → CompsReads us gs → ReadsAs Atom (Op LBrace ∷ (ts ++ (us ++ (Op RBrace ∷ [])))) (Trees.SetComp e (comprehensions gs))
set_comp_goes ts us e gs l p w k = let q = elem_goes ts e l p in (
  suc (max q.0 k.0),
  deeper (ReadsAt Atom (Op LBrace ∷ (ts ++ (us ++ (Op RBrace ∷ [])))) (Trees.SetComp e (comprehensions gs))) (max q.0 k.0) (λ d h rest s.
      let i = us ++ (Op RBrace ∷ rest) in
      let g = comps_first w (Op RBrace ∷ rest) in
      ap (read (suc (suc d)) Atom) (close_two ts us rest (Op LBrace) (Op RBrace))
      ∙ (unroll (suc d) Atom (Op LBrace ∷ (ts ++ i)) ∙ set_comp_step (read (suc d)) ts i rest e (Trees.SetComp e (comprehensions gs)) l
      (q.1 d (omega (arith, h)) i (omega (arith, g.0))) g (comps_close us gs k d (omega (arith, h)) RBrace rest refl
      (λ gs. Trees.SetComp e (comprehensions gs))))),
  λ d h. tt,
)

-- a key is read as an element
key_goes : (ts : List Terminal) (e : Expr) → 9 ≤ lead_of ts → ReadsAs Expression ts e → ReadsAs Elem ts e
key_goes ts e l p = elem_goes ts e l (next_goes Named ts e l tt p)

key_free : (ts i : List Terminal) (k : Expr) (d : ℕ) → ReadsAt Expression ts k d → (x : Spelled) (us : List Terminal)
    → ts ++ (Op Colon ∷ i) ≡ Ident x ∷ (Op ColonEqual ∷ us) → ⊥
key_free ts i k d p = free d Expression ColonEqual (ts ++ (Op Colon ∷ i)) (Op Colon ∷ i) k (λ x us. refl) (p (Op Colon ∷ i) (omega arith))
    (λ q. absurd (omega (arith, q)))

pub dict_goes : (us ts ws vs : List Terminal) (k e : Expr) (es : List Entry) → Splits us (ts ++ (Op Colon ∷ ws)) vs → 9 ≤ lead_of ts
    → ReadsAs Expression ts k → ReadsAs Expression ws e → TailReads Pair vs es → ReadsAs Atom (Op LBrace ∷ (us ++ (Op RBrace ∷ [])))
    (Trees.Dict (keys (Paired k e ∷ es)) (values (Paired k e ∷ es)))
dict_goes us ts ws vs k e es sp l p q t = let f = key_goes ts k l p in (
  suc (max (max f.0 p.0) (max q.0 t.0)),
  deeper (ReadsAt Atom (Op LBrace ∷ (us ++ (Op RBrace ∷ []))) (Trees.Dict (keys (Paired k e ∷ es)) (values (Paired k e ∷ es))))
      (max (max f.0 p.0) (max q.0 t.0)) (λ d h rest s.
      let c = Op RBrace ∷ rest in
      let r = vs ++ (Op RBrace ∷ rest) in
      let i = ws ++ (vs ++ (Op RBrace ∷ rest)) in
      ap (read (suc (suc d)) Atom) (close_shape us rest (Op LBrace) (Op RBrace)
      ∙ ap (λ z. Op LBrace ∷ z) (sp (Op RBrace ∷ rest) ∙ append_assoc ts (Op Colon ∷ ws) (vs ++ (Op RBrace ∷ rest))))
      ∙ (unroll (suc d) Atom (Op LBrace ∷ (ts ++ (Op Colon ∷ i))) ∙ dict_step (read (suc d)) ts i r rest k e (Paired k e ∷ es) l
      (f.1 d (omega (arith, h)) (Op Colon ∷ i) (omega arith)) (key_free ts i k d (p.1 d (omega (arith, h))))
      (q.1 d (omega (arith, h)) r (tail_keeps (λ r. grip_of r ≤ 8) vs c t.2 (omega arith) (λ r. omega arith)))
      (tail_keeps (λ r. starts_comp r ≡ false) vs c t.2 refl (λ r. refl)) (t.1 d (omega (arith, h)) (λ r. omega arith) c (
        refl,
        (λ q. absurd (omega (arith, q))),
        omega arith,
      ) (Paired k e)))),
  λ d h. tt,
)

pub doubled_goes : (us ts vs : List Terminal) (e : Expr) (es : List Entry) → Splits us (Op DoubleStar ∷ ts) vs → ReadsAs BitOr ts e
    → TailReads Pair vs es → ReadsAs Atom (Op LBrace ∷ (us ++ (Op RBrace ∷ [])))
    (Trees.Dict (keys (Doubled e ∷ es)) (values (Doubled e ∷ es)))
doubled_goes us ts vs e es sp p t = (
  suc (max p.0 t.0),
  deeper (ReadsAt Atom (Op LBrace ∷ (us ++ (Op RBrace ∷ []))) (Trees.Dict (keys (Doubled e ∷ es)) (values (Doubled e ∷ es))))
      (max p.0 t.0) (λ d h rest s.
      let c = Op RBrace ∷ rest in
      let r = vs ++ (Op RBrace ∷ rest) in
      ap (read (suc (suc d)) Atom) (close_shape us rest (Op LBrace) (Op RBrace) ∙ ap (λ z. Op LBrace ∷ z) (sp (Op RBrace ∷ rest)))
      ∙ (unroll (suc d) Atom (Op LBrace ∷ (Op DoubleStar ∷ (ts ++ r))) ∙ doubled_step (read (suc d)) (ts ++ r) r rest e (Doubled e ∷ es)
      (answers BitOr ts e d r (p.1 d (omega (arith, h))) (tail_keeps (λ r. grip_of r < 14) vs c t.2 (omega arith) (λ r. omega arith)))
      (t.1 d (omega (arith, h)) (λ r. omega arith) c (refl, (λ q. absurd (omega (arith, q))), omega arith) (Doubled e)))),
  λ d h. tt,
)

pub dict_comp_goes : (ts us vs : List Terminal) (k e : Expr) (gs : List Comprehension) → 9 ≤ lead_of ts → ReadsAs Expression ts k
    → ReadsAs Expression us e → G.Comps vs gs → CompsReads vs gs
    → ReadsAs Atom (Op LBrace ∷ (ts ++ (Op Colon ∷ (us ++ (vs ++ (Op RBrace ∷ [])))))) (Trees.DictComp k e (comprehensions gs))
dict_comp_goes ts us vs k e gs l p q w t = let f = key_goes ts k l p in (
  suc (max (max f.0 p.0) (max q.0 t.0)),
  deeper (ReadsAt Atom (Op LBrace ∷ (ts ++ (Op Colon ∷ (us ++ (vs ++ (Op RBrace ∷ [])))))) (Trees.DictComp k e (comprehensions gs)))
      (max (max f.0 p.0) (max q.0 t.0)) (λ d h rest s.
      let r = vs ++ (Op RBrace ∷ rest) in
      let i = us ++ (vs ++ (Op RBrace ∷ rest)) in
      let g = comps_first w (Op RBrace ∷ rest) in
      ap (read (suc (suc d)) Atom) (close_three ts us vs rest (Op LBrace) (Op Colon) (Op RBrace))
      ∙ (unroll (suc d) Atom (Op LBrace ∷ (ts ++ (Op Colon ∷ i)))
      ∙ dict_comp_step (read (suc d)) ts i r rest k e (Trees.DictComp k e (comprehensions gs)) l
      (f.1 d (omega (arith, h)) (Op Colon ∷ i) (omega arith)) (key_free ts i k d (p.1 d (omega (arith, h))))
      (q.1 d (omega (arith, h)) r (omega (arith, g.0))) g.1 (comps_close vs gs t d (omega (arith, h)) RBrace rest refl
      (λ gs. Trees.DictComp k e (comprehensions gs))))),
  λ d h. tt,
)
