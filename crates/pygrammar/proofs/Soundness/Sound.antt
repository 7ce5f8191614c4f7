-- What the reader answers is derived: atoms, primaries, the levels without operators, and the law.
--
-- Carries: sound_read, sound, PrimaryAt, call_sound and 5 more, for Room, Whole, Limits,
-- SoundParts and those of patterns. On: Says, SoundLists, LevelLemmas, SoundClimb and 1 more.
use Rattle.std.proofs.Common.{◌≡◌, inl, inr, refl, sym, ap, subst, ◌∙◌, ℕ, zero, suc, ◌<◌, arith, List, [], ◌∷◌, ◌++◌, length, Option, Some}
use Rattle.std.proofs.Common.{None, true, false, append_assoc}
use Rattle.pylex_lexeme.specs.declared.kinds.Exact.TheVariants.{LPar, RPar, LSqb, RSqb, LBrace, RBrace, Colon, Comma, Star, Dot, DoubleStar}
use Rattle.pylex_lexeme.specs.declared.kinds.Exact.TheVariants.{ColonEqual}
use Rattle.pytoken.specs.declared.keywords.Keyword.TheVariants as Key
use Rattle.pytree_node.specs.declared.operators.Context.TheVariants.{Load}
use Rattle.pygrammar.specs.declared.levels.Level.{Level}
use Rattle.pygrammar.specs.declared.levels.Level.TheVariants.{Value, Stars, StarItem, Named, Expression, Or, And, Not, Compare, BitOr}
use Rattle.pygrammar.specs.declared.levels.Level.TheVariants.{BitXor, BitAnd, Shift, Sum, Term, Factor, Power, Await, Primary, Atom, Elem}
use Rattle.pygrammar.specs.declared.levels.Level.TheVariants.{Slices, Part, Slice, Subject}
use Rattle.pytree_node.specs.Trees
use Rattle.pytree_node.specs.Trees.{Expr, no_exprs, an_expr, OptionalExpr, absent, present, Arguments}
use Rattle.pytoken.specs.Terminals.{Terminal, Op, Word, Ident, Number, Literal, FormattedBegin}
use Rattle.pygrammar.specs.Constants.{constant_word}
use Rattle.pygrammar.specs.Entries.{Of, Pair, Argument, Parameter, Entry, Single, Paired, Doubled, singles, keys, values}
use Rattle.pygrammar.specs.Arguments.{called}
use Rattle.pygrammar.specs.Parameters.{arranged}
use Rattle.pygrammar.specs.Reader.{Answer, Found, made, lambda_of, Reads, constant_of, yield_step, round, square, dict_from, curly, atom}
use Rattle.pygrammar.specs.Reader.{called_with, generator_call, call_step, primary_loop, slice_rest, lambda_step, if_else_step, level_step}
use Rattle.pygrammar.specs.Reader.{levels_from, descend, read}
use Rattle.pygrammar.specs.Precedence.{lead, starts, starts_comp}
use Rattle.pygrammar.specs.Grammar as G
use Rattle.pygrammar.proofs.Soundness.Says.{Says, found, no_form, deep, says_then, says_op, says_word, says_name, says_cond, says_made}
use Rattle.pygrammar.proofs.Soundness.Says.{says_is, says_found, turns, Reads_as, SoundAt}
use Rattle.std.proofs.lemmas.List.{append-nil}
use Rattle.pygrammar.proofs.Soundness.SoundStrings.{constant_is, FitsAt, joined_sound, literals_sound}
use Rattle.pygrammar.proofs.Soundness.SoundClimb.{climb_sound}
use Rattle.pygrammar.proofs.Completeness.LookLemmas.{lead_of, heads}
use Rattle.pygrammar.proofs.Completeness.LevelLemmas.{led, not_star}
use Rattle.pygrammar.proofs.Soundness.SoundLists.{says_if, says_name_with, says_closed, inv, NoStar, no_star, elem_named, named_expression}
use Rattle.pygrammar.proofs.Soundness.SoundLists.{perhaps_sound, starred_sound, piece_sound, listing_of_sound, others_sound}
use Rattle.pygrammar.proofs.Soundness.SoundLists.{comps_closed_sound}

lambda_is : (o : Option Arguments) (b e : Expr) → lambda_of o b ≡ Some e → (a : Arguments) × (o ≡ Some a) × (Trees.Lambda a b ≡ e)
lambda_is None b e h = absurd (cc)
lambda_is (Some a) b e h = (a, refl, same_expr (Trees.Lambda a b) e h)
  where
    same_expr : (g k : Expr) → Some g ≡ Some k → g ≡ k
    same_expr g k h = cc

argument_named : {ts : List Terminal} {e : Expr} → G.Piece Argument ts (Single e) → G.Derives Named ts e
argument_named (G.argument p) = p

module _ (self : Reads) (all : SoundAt self) where
  yield_sound : (r : List Terminal) → Says (λ e r1. (ts : List Terminal) × (r ≡ ts ++ r1) × G.Yields ts e) (yield_step self r)
  yield_sound r = says_word Key.From r _ _
      (λ a s q. says_then _ _ (all Expression s) (λ e r1 p. found (
        Word Key.From ∷ p.0,
        q ∙ ap (λ z. Word Key.From ∷ z) p.1,
        G.yield_from p.2,
      ))) (λ _. says_then _ _ (perhaps_sound self all Stars r) (λ e r1 p. found (p.0, p.1, G.yield_some p.2)))

  round_sound : (r : List Terminal) → Says (Reads_as Atom (Op LPar ∷ r)) (round self r)
  round_sound r =
      says_op RPar r _ _ (λ a s q. found (Op LPar ∷ (Op RPar ∷ []), ap (λ z. Op LPar ∷ z) q, G.empty_tuple, turns s)) (λ _.
      says_word Key.Yield r _ _
      (λ a s q. says_then _ _ (yield_sound s)
      (λ e r1 p. says_closed RPar r1 e (λ r2 v. (
        Op LPar ∷ (Word Key.Yield ∷ (p.0 ++ (Op RPar ∷ []))),
        rw (q, p.1, v) (simp append_assoc refl),
        G.yield_group p.2,
        turns r2,
      )))) (λ _.
      says_then _ _ (all Elem r) (λ e r1 p. says_op Comma r1 _ _
      (λ a s q. says_then _ _ (listing_of_sound self all (Of Elem) s)
      (λ es r2 y. says_closed RPar r2 _ (λ r3 v. (
        Op LPar ∷ (p.0 ++ (Op Comma ∷ (y.0 ++ (Op RPar ∷ [])))),
        rw (p.1, q, y.3, v) (simp append_assoc refl),
        subst (λ z. G.Derives Atom (Op LPar ∷ (p.0 ++ (Op Comma ∷ (y.0 ++ (Op RPar ∷ []))))) (Trees.Tuple (an_expr e (singles z)) Load))
            (sym y.2) (G.tuple p.2 y.4),
        turns r3,
      ))))
      (λ _. says_op Star r _ _ (λ _ _ _. no_form) (λ f. says_if (starts_comp r1) _ _
      (λ t. comps_closed_sound self all RPar r1 _ t (λ us gs r2 q c. (
        Op LPar ∷ (p.0 ++ (us ++ (Op RPar ∷ []))),
        rw (p.1, q) (simp append_assoc refl),
        G.generator_group (elem_named r p.0 r1 e p.1 f p.2) c,
        turns r2,
      )))
      (says_closed RPar r1 e (λ r2 v. (
        Op LPar ∷ (p.0 ++ (Op RPar ∷ [])),
        rw (p.1, v) (simp append_assoc refl),
        G.group (elem_named r p.0 r1 e p.1 f p.2),
        turns r2,
      ))))))))

  square_sound : (r : List Terminal) → Says (Reads_as Atom (Op LSqb ∷ r)) (square self r)
  square_sound r =
      says_cond (starts (Of Elem) r) _ _
      (says_then _ _ (all Elem r) (λ e r1 p. says_if (starts_comp r1) _ _
      (λ t. says_op Star r _ _ (λ _ _ _. no_form)
      (λ f. comps_closed_sound self all RSqb r1 _ t (λ us gs r2 q c. (
        Op LSqb ∷ (p.0 ++ (us ++ (Op RSqb ∷ []))),
        rw (p.1, q) (simp append_assoc refl),
        G.list_comp (elem_named r p.0 r1 e p.1 f p.2) c,
        turns r2,
      ))))
      (says_then _ _ (others_sound self all (Of Elem) (Single e) r1)
      (λ es r2 y. says_closed RSqb r2 _ (λ r3 v. (
        Op LSqb ∷ ((p.0 ++ y.0) ++ (Op RSqb ∷ [])),
        rw (p.1, y.3, v) (simp append_assoc refl),
        subst (λ z. G.Derives Atom (Op LSqb ∷ ((p.0 ++ y.0) ++ (Op RSqb ∷ []))) (Trees.ListOf (singles z) Load)) (sym y.2)
            (G.list (y.4 p.0 (G.single p.2))),
        turns r3,
      ))))))
      (says_closed RSqb r _ (λ r1 q. (Op LSqb ∷ (Op RSqb ∷ []), ap (λ z. Op LSqb ∷ z) q, G.list G.no_item, turns r1)))

  dict_sound : (a : Entry) (r ts r1 : List Terminal) → r ≡ ts ++ r1 → G.Piece Pair ts a
      → Says (Reads_as Atom (Op LBrace ∷ r)) (dict_from self a r1)
  dict_sound a r ts r1 q p =
      says_then _ _ (others_sound self all Pair a r1)
      (λ es r2 y. says_closed RBrace r2 _ (λ r3 v. (
        Op LBrace ∷ ((ts ++ y.0) ++ (Op RBrace ∷ [])),
        rw (q, y.3, v) (simp append_assoc refl),
        subst (λ z. G.Derives Atom (Op LBrace ∷ ((ts ++ y.0) ++ (Op RBrace ∷ []))) (Trees.Dict (keys z) (values z))) (sym y.2)
            (G.dict (y.4 ts p)),
        turns r3,
      )))

  curly_sound : (r : List Terminal) → Says (Reads_as Atom (Op LBrace ∷ r)) (curly self r)
  curly_sound r =
      says_op RBrace r _ _ (λ a s q. found (Op LBrace ∷ (Op RBrace ∷ []), ap (λ z. Op LBrace ∷ z) q, G.dict G.no_item, turns s)) (λ _.
      says_op DoubleStar r _ _ (λ a s q. says_then _ _ (all BitOr s) (λ e r1 p. dict_sound (Doubled e) r (Op DoubleStar ∷ p.0) r1 (q
      ∙ ap (λ z. Op DoubleStar ∷ z) p.1) (G.pairs_of p.2))) (λ _.
      says_then _ _ (all Elem r) (λ e r1 p. says_op Colon r1 _ _
      (λ a s q. says_op Star r _ _ (λ _ _ _. no_form) (λ f. says_name_with ColonEqual r _ _ (λ _ _ _. no_form) (λ g.
      let k : G.Derives Expression p.0 e = named_expression r p.0 r1 e p.1 g (elem_named r p.0 r1 e p.1 f p.2) in
      says_then _ _ (all Expression s) (λ v r3 y. says_if (starts_comp r3) _ _
      (λ t. comps_closed_sound self all RBrace r3 _ t (λ us gs r4 w c. (
        Op LBrace ∷ (p.0 ++ (Op Colon ∷ (y.0 ++ (us ++ (Op RBrace ∷ []))))),
        rw (p.1, q, y.1, w) (simp append_assoc refl),
        G.dict_comp k y.2 c,
        turns r4,
      )))
      (dict_sound (Paired e v) r (p.0 ++ (Op Colon ∷ y.0)) r3 (rw (p.1, q, y.1) (simp append_assoc refl)) (G.pair k y.2))))))
      (λ _. says_if (starts_comp r1) _ _
      (λ t. says_op Star r _ _ (λ _ _ _. no_form)
      (λ f. comps_closed_sound self all RBrace r1 _ t (λ us gs r2 q c. (
        Op LBrace ∷ (p.0 ++ (us ++ (Op RBrace ∷ []))),
        rw (p.1, q) (simp append_assoc refl),
        G.set_comp (elem_named r p.0 r1 e p.1 f p.2) c,
        turns r2,
      ))))
      (says_then _ _ (others_sound self all (Of Elem) (Single e) r1)
      (λ es r2 y. says_closed RBrace r2 _ (λ r3 v. (
        Op LBrace ∷ ((p.0 ++ y.0) ++ (Op RBrace ∷ [])),
        rw (p.1, y.3, v) (simp append_assoc refl),
        subst (λ z. G.Derives Atom (Op LBrace ∷ ((p.0 ++ y.0) ++ (Op RBrace ∷ []))) (Trees.Set (singles z))) (sym y.2)
            (G.set (y.4 p.0 (G.single p.2))),
        turns r3,
      ))))))))

  constant_sound : (t : Terminal) (r : List Terminal) → Says (Reads_as Atom (t ∷ r)) (made (constant_of (constant_word t)) r)
  constant_sound t r = says_made _ r (λ e h. let z = constant_is (constant_word t) e h in
      (t ∷ [], refl, subst (λ k. G.Derives Atom (t ∷ []) k) z.2 (G.constant z.1), turns r))

  atom_at : (i : List Terminal) (x : Answer Expr) → Says (FitsAt (G.Derives Atom) i) x → Says (Reads_as Atom i) x
  atom_at i x h = says_is x h (λ e r p. (p.0, p.1, p.2, turns r))

  atom_sound : (i : List Terminal) → Says (Reads_as Atom i) (atom self i)
  atom_sound [] = no_form
  atom_sound (Ident x ∷ r) = found (Ident x ∷ [], refl, G.name, turns r)
  atom_sound (Number v ∷ r) = found (Number v ∷ [], refl, G.number, turns r)
  atom_sound (Literal v ∷ r) = atom_at (Literal v ∷ r) _ (literals_sound self all (G.Derives Atom) (λ u ts ps l b h. G.joined_string l b h)
      (λ v w vs h. G.strings vs h) v r)
  atom_sound (FormattedBegin ∷ r) =
      atom_at (FormattedBegin ∷ r) _ (joined_sound self all (G.Derives Atom) (λ u ts ps l b h. G.joined_string l b h) r)
  atom_sound (Op LPar ∷ r) = round_sound r
  atom_sound (Op LSqb ∷ r) = square_sound r
  atom_sound (Op LBrace ∷ r) = curly_sound r
  atom_sound (Op x ∷ r) = constant_sound (Op x) r
  atom_sound (t ∷ r) = constant_sound t r

abbrev pub PrimaryAt : List Terminal → Expr → List Terminal → Type 0
PrimaryAt i e r = (ts : List Terminal) × (i ≡ ts ++ r) × G.Derives Primary ts e

module _ (self : Reads) (all : SoundAt self) where
  called_sound : (i ts us : List Terminal) (f : Expr) (es xs : List Entry) (r : List Terminal) → i ≡ ts ++ (Op LPar ∷ (us ++ r))
      → G.Derives Primary ts f → es ≡ xs → G.Listing Argument us xs → Says (PrimaryAt i) (called_with self f es r)
  called_sound i ts us f es xs r q p w l =
      says_op RPar r _ _ (λ a s v. says_made _ s (λ e h. (
        ts ++ (Op LPar ∷ (us ++ (Op RPar ∷ []))),
        rw (q, v) (simp append_assoc refl),
        G.call p l (ap (called f) (sym w) ∙ h),
      ))) (λ _. no_form)

  generator_call_sound : (i ts us : List Terminal) (f : Expr) (a : Entry) (r : List Terminal) → i ≡ ts ++ (Op LPar ∷ (us ++ r))
      → G.Derives Primary ts f → G.Piece Argument us a → starts_comp r ≡ true → Says (PrimaryAt i) (generator_call self f a r)
  generator_call_sound i ts us f (Single e) r q p a t =
      comps_closed_sound self all RPar r _ t (λ vs gs r1 v c. (
        ts ++ (Op LPar ∷ (us ++ (vs ++ (Op RPar ∷ [])))),
        rw (q, v) (simp append_assoc refl),
        G.call_generator p (argument_named a) c,
      ))
  generator_call_sound i ts us f _ r q p a t = no_form

  pub call_sound : (i ts : List Terminal) (f : Expr) (r : List Terminal) → i ≡ ts ++ (Op LPar ∷ r) → G.Derives Primary ts f
      → Says (PrimaryAt i) (call_step self f r)
  call_sound i ts f r q p =
      says_cond (starts Argument r) _ _
      (says_then _ _ (piece_sound self all Argument r) (λ a r1 y. says_if (starts_comp r1) _ _
      (λ t. generator_call_sound i ts y.0 f a r1 (rw (q, y.1) refl) p y.2 t)
      (says_then _ _ (others_sound self all Argument a r1) (λ es r2 w. called_sound i ts (y.0 ++ w.0) f es (a ∷ w.1) r2
      (rw (q, y.1, w.3) (simp append_assoc refl)) p w.2 (w.4 y.0 y.2)))))
      (called_sound i ts [] f [] [] r q p refl G.no_item)

  primary_loop_sound : (m : ℕ) (i : List Terminal) (e : Expr) (r : List Terminal) → PrimaryAt i e r
      → Says (PrimaryAt i) (primary_loop self m e r)
  primary_loop_sound zero i e r p = found p
  primary_loop_sound (suc m) i e r p =
      says_op Dot r _ _ (λ a s q. says_name s _ _ (λ x u v. primary_loop_sound m i (Trees.Attribute e x.form Load) u
      (p.0 ++ (Op Dot ∷ (Ident x ∷ [])), rw (p.1, q, v) (simp append_assoc refl), G.attribute x p.2)) no_form) (λ _.
      says_op LPar r _ _ (λ a s q. says_then _ _ (call_sound i p.0 e s (p.1 ∙ ap (λ z. p.0 ++ z) q) p.2)
      (λ f r2 y. primary_loop_sound m i f r2 y)) (λ _.
      says_op LSqb r _ _ (λ a s q. says_then _ _ (all Slices s)
      (λ x r2 y. says_op RSqb r2 _ _ (λ b u v. primary_loop_sound m i (Trees.Subscript e x Load) u
      (p.0 ++ (Op LSqb ∷ (y.0 ++ (Op RSqb ∷ []))), rw (p.1, q, y.1, v) (simp append_assoc refl), G.subscript p.2 y.2)) (λ _. no_form)))
      (λ _.
      found p)))

  slice_rest_sound : (a : OptionalExpr) (i ts r : List Terminal) → i ≡ ts ++ (Op Colon ∷ r) → G.Perhaps Expression ts a
      → Says (Reads_as Slice i) (slice_rest self a r)
  slice_rest_sound a i ts r q w = says_then _ _ (perhaps_sound self all Expression r) (λ b r1 p. says_op Colon r1 _ _
      (λ c s v. says_then _ _ (perhaps_sound self all Expression s) (λ x r3 y. found (
        ts ++ (Op Colon ∷ (p.0 ++ (Op Colon ∷ y.0))),
        rw (q, p.1, v, y.1) (simp append_assoc refl),
        G.slice_step w p.2 y.2,
        turns r3,
      )))
      (λ _. found (ts ++ (Op Colon ∷ p.0), rw (q, p.1) (simp append_assoc refl), G.slice w p.2, turns r1)))

  lambda_sound : (r : List Terminal) → Says (Reads_as Expression (Word Key.Lambda ∷ r)) (lambda_step self r)
  lambda_sound r = says_then _ _ (listing_of_sound self all (Parameter false) r)
      (λ ps r1 y. says_op Colon r1 _ _ (λ a s q. says_then _ _ (all Expression s) (λ e r3 p. says_made _ r3 (λ x h.
      let z = lambda_is (arranged ps) e x h in (
        Word Key.Lambda ∷ (y.0 ++ (Op Colon ∷ p.0)),
        rw (y.3, q, p.1) (simp append_assoc refl),
        subst (λ k. G.Derives Expression (Word Key.Lambda ∷ (y.0 ++ (Op Colon ∷ p.0))) k) z.2
            (G.lambda y.4 (ap arranged (sym y.2) ∙ z.1) p.2),
        turns r3,
      )))) (λ _. no_form))

  if_else_sound : (i ts : List Terminal) (b : Expr) (r : List Terminal) → i ≡ ts ++ r → G.Derives Or ts b
      → Says (Reads_as Expression i) (if_else_step self b r)
  if_else_sound i ts b r q p =
      says_word Key.If r _ _
      (λ c s v. says_then _ _ (all Or s)
      (λ a r2 y. says_word Key.Else r2 _ _
      (λ d u w. says_then _ _ (all Expression u) (λ x r4 z. found (
        ts ++ (Word Key.If ∷ (y.0 ++ (Word Key.Else ∷ z.0))),
        rw (q, v, y.1, w, z.1) (simp append_assoc refl),
        G.if_else p y.2 z.2,
        turns r4,
      ))) (λ _. no_form)))
      (λ _. found (ts, q, G.next p, turns r))

-- no Slice begins with a star
star_lead : (ts r s : List Terminal) → ts ++ r ≡ Op Star ∷ s → 0 < lead_of ts → lead_of ts ≡ 7
star_lead [] r s q h = absurd (omega (arith, h))
star_lead (t ∷ ts) r s q h = ap lead (heads q)

module _ (next inner : Reads) (low : SoundAt next) (deeper : SoundAt inner) where
  star_part_sound : (i ts r : List Terminal) (e : Expr) (s : List Terminal) → i ≡ ts ++ r → G.Derives Part ts e → i ≡ Op Star ∷ s
      → Reads_as Slices i (Trees.Tuple (an_expr e no_exprs) Load) r
  star_part_sound i ts r e s q p v = elim (inv p) [
    | inl d ↦ absurd (not_star d (star_lead ts r s (sym q ∙ v) (omega (arith, led d))))
    | inr u ↦ (
      Op Star ∷ u.0,
      q ∙ ap (λ z. z ++ r) u.2,
      subst (λ z. G.Derives Slices (Op Star ∷ u.0) (Trees.Tuple (an_expr z no_exprs) Load)) (sym u.3) (G.star_slices u.4),
      turns r,
    )
  ]

  plain_part_sound : (i ts r : List Terminal) (e : Expr) → i ≡ ts ++ r → G.Derives Part ts e → NoStar i → Reads_as Slices i e r
  plain_part_sound i ts r e q p f = elim (inv p) [
    | inl d ↦ (ts, q, G.next d, turns r)
    | inr u ↦ absurd (no_star i (u.0 ++ r) f (q ∙ ap (λ z. z ++ r) u.2))
  ]

  pub sound_step : (l : Level) (i : List Terminal) → Says (Reads_as l i) (level_step next inner l i)
  sound_step Value i =
      says_word Key.Yield i _ _
      (λ a s q. says_is _ (yield_sound inner deeper s) (λ e r p. (
        Word Key.Yield ∷ p.0,
        q ∙ ap (λ z. Word Key.Yield ∷ z) p.1,
        G.yields p.2,
        turns r,
      ))) (λ _. says_is _ (low Stars i) (λ e r p. (p.0, p.1, G.next p.2, turns r)))
  sound_step Stars i =
      says_then _ _ (low StarItem i) (λ e r p. says_op Comma r _ _ (λ a s q. says_then _ _ (listing_of_sound inner deeper (Of StarItem) s)
      (λ es r2 y. found (
        p.0 ++ (Op Comma ∷ y.0),
        rw (p.1, q, y.3) (simp append_assoc refl),
        subst (λ z. G.Derives Stars (p.0 ++ (Op Comma ∷ y.0)) (Trees.Tuple (an_expr e (singles z)) Load)) (sym y.2) (G.star_tuple p.2 y.4),
        turns r2,
      ))) (λ _. found (p.0, p.1, G.next p.2, turns r)))
  sound_step StarItem i = starred_sound inner deeper BitOr i _ (λ ts e r q p. (Op Star ∷ ts, q, G.star_item p, turns r))
      (λ _. says_is _ (low Expression i) (λ e r p. (p.0, p.1, G.next p.2, turns r)))
  sound_step Elem i = starred_sound inner deeper BitOr i _ (λ ts e r q p. (Op Star ∷ ts, q, G.star_elem p, turns r))
      (λ _. says_is _ (low Named i) (λ e r p. (p.0, p.1, G.next p.2, turns r)))
  sound_step Named i =
      says_name_with ColonEqual i _ _
      (λ x s q. says_then _ _ (deeper Expression s) (λ e r p. found (
        Ident x ∷ (Op ColonEqual ∷ p.0),
        q
            ∙ ap (λ z. Ident x ∷ (Op ColonEqual ∷ z)) p.1,
        G.named p.2,
        turns r,
      )))
      (λ _. says_is _ (low Expression i) (λ e r p. (p.0, p.1, G.next p.2, turns r)))
  sound_step Expression i =
      says_word Key.Lambda i _ _ (λ a s q. says_is _ (lambda_sound inner deeper s) (λ e r p. (p.0, q ∙ p.1, p.2, turns r)))
      (λ _. says_then _ _ (low Or i) (λ b r p. if_else_sound inner deeper i p.0 b r p.1 p.2))
  sound_step Primary i =
      says_then _ _ (low Atom i) (λ e r p. says_is _ (primary_loop_sound inner deeper (length r) i e r (p.0, p.1, G.next p.2))
      (λ f r2 y. (y.0, y.1, y.2, turns r2)))
  sound_step Atom i = atom_sound inner deeper i
  sound_step Slices i =
      says_then _ _ (low Part i)
      (λ e r p. says_op Comma r _ _ (λ a s q. says_then _ _ (listing_of_sound inner deeper (Of Part) s)
      (λ es r2 y. found (
        p.0 ++ (Op Comma ∷ y.0),
        rw (p.1, q, y.3) (simp append_assoc refl),
        subst (λ z. G.Derives Slices (p.0 ++ (Op Comma ∷ y.0)) (Trees.Tuple (an_expr e (singles z)) Load)) (sym y.2) (G.parts p.2 y.4),
        turns r2,
      ))) (λ _. says_op Star i _ _ (λ a s q. found (star_part_sound i p.0 r e s p.1 p.2 q))
      (λ f. found (plain_part_sound i p.0 r e p.1 p.2 f))))
  sound_step Part i = starred_sound inner deeper Expression i _ (λ ts e r q p. (Op Star ∷ ts, q, G.star_part p, turns r))
      (λ _. says_is _ (low Slice i) (λ e r p. (p.0, p.1, G.next p.2, turns r)))
  sound_step Slice i = says_op Colon i _ _ (λ a s q. slice_rest_sound inner deeper absent i [] s q G.nothing)
      (λ _. says_then _ _ (low Named i)
      (λ e r p. says_op Colon r _ _ (λ a s q. says_name_with ColonEqual i _ _ (λ _ _ _. no_form)
      (λ g. slice_rest_sound inner deeper (present e) i p.0 s (p.1 ∙ ap (λ z. p.0 ++ z) q)
      (G.something (named_expression i p.0 r e p.1 g p.2)))) (λ _. found (p.0, p.1, G.next p.2, turns r))))
  sound_step Subject i =
      says_then _ _ (low Elem i)
      (λ e r p. says_op Comma r _ _ (λ a s q. says_then _ _ (listing_of_sound inner deeper (Of Elem) s)
      (λ es r2 y. found (
        p.0 ++ (Op Comma ∷ y.0),
        rw (p.1, q, y.3) (simp append_assoc refl),
        subst (λ z. G.Derives Subject (p.0 ++ (Op Comma ∷ y.0)) (Trees.Tuple (an_expr e (singles z)) Load)) (sym y.2)
            (G.subject_tuple p.2 y.4),
        turns r2,
      )))
      (λ _. says_op Star i _ _ (λ _ _ _. no_form) (λ f. found (p.0, p.1, G.next (elem_named i p.0 r e p.1 f p.2), turns r))))
  sound_step Or i = climb_sound next inner low deeper Or i (omega arith) (omega arith) refl
  sound_step And i = climb_sound next inner low deeper And i (omega arith) (omega arith) refl
  sound_step Not i = climb_sound next inner low deeper Not i (omega arith) (omega arith) refl
  sound_step Compare i = climb_sound next inner low deeper Compare i (omega arith) (omega arith) refl
  sound_step BitOr i = climb_sound next inner low deeper BitOr i (omega arith) (omega arith) refl
  sound_step BitXor i = climb_sound next inner low deeper BitXor i (omega arith) (omega arith) refl
  sound_step BitAnd i = climb_sound next inner low deeper BitAnd i (omega arith) (omega arith) refl
  sound_step Shift i = climb_sound next inner low deeper Shift i (omega arith) (omega arith) refl
  sound_step Sum i = climb_sound next inner low deeper Sum i (omega arith) (omega arith) refl
  sound_step Term i = climb_sound next inner low deeper Term i (omega arith) (omega arith) refl
  sound_step Factor i = climb_sound next inner low deeper Factor i (omega arith) (omega arith) refl
  sound_step Power i = climb_sound next inner low deeper Power i (omega arith) (omega arith) refl
  sound_step Await i = climb_sound next inner low deeper Await i (omega arith) (omega arith) refl

pub sound_descend : (inner : Reads) → SoundAt inner → (k : ℕ) → SoundAt (descend inner k)
sound_descend inner h zero l i = no_form
sound_descend inner h (suc k) l i = sound_step (descend inner k) inner (sound_descend inner h k) h l i

pub sound_read : (d : ℕ) → SoundAt (read d)
sound_read zero l i = deep
sound_read (suc d) l i = sound_descend (read d) (sound_read d) (levels_from l) l i

-- the law
pub sound : (d : ℕ) (l : Level) (ts : List Terminal) (e : Expr) → read d l ts ≡ Found e [] → G.Derives l ts e
sound d l ts e h =
    let p : Reads_as l ts e [] = says_found e [] (subst (Says (Reads_as l ts)) h (sound_read d l ts)) in
    subst (λ z. G.Derives l z e) (sym (p.1 ∙ append-nil p.0)) p.2
