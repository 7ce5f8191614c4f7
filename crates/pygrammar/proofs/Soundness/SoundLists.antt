-- What the reader answers is derived: lists with commas, targets and comprehensions.
--
-- Carries: says_if, listing_of_sound, says_closed, says_name_with and 11 more, for Sound,
-- SoundLines, SoundParts, SoundSimple. On: Says, LookLemmas.
use Rattle.std.proofs.Common.{◌≡◌, ◌⊎◌, inl, inr, refl, sym, ap, subst, ◌∙◌, ℕ, zero, suc, ◌≤◌, arith, List, [], ◌∷◌, ◌++◌, length, Option}
use Rattle.std.proofs.Common.{Some, None, Bool, true, false, cond, append_assoc, length-append}
use Rattle.pylex_lexeme.specs.declared.kinds.Exact.{Exact}
use Rattle.pylex_lexeme.specs.declared.kinds.Exact.TheVariants.{LPar, Colon, Comma, Star, Slash, Equal, DoubleStar, ColonEqual}
use Rattle.pytoken.specs.declared.keywords.Keyword.TheVariants as Key
use Rattle.pytree_node.specs.declared.operators.Operator.{Operator}
use Rattle.pytree_node.specs.declared.operators.UnaryOperator.{UnaryOperator}
use Rattle.pytree_node.specs.declared.operators.BoolOperator.{BoolOperator}
use Rattle.pytree_node.specs.declared.operators.BoolOperator.TheVariants as Join
use Rattle.pytree_node.specs.declared.operators.Context.TheVariants.{Load}
use Rattle.pygrammar.specs.declared.levels.Level.{Level}
use Rattle.pygrammar.specs.declared.levels.Level.TheVariants.{Stars, StarItem, Named, Expression, Or, BitOr, Primary, Elem, Part, Slice}
use Rattle.pytree_node.specs.Trees
use Rattle.pytree_node.specs.Trees.{Expr, an_expr, OptionalExpr, arg, Comprehension}
use Rattle.pytoken.specs.Terminals.{Spelled, Terminal, Op, Word, Ident}
use Rattle.pygrammar.specs.Looks.{is_op, is_word}
use Rattle.pygrammar.specs.Operators.{below, chain_level, left_operator, prefix_operator}
use Rattle.pygrammar.specs.Entries.{Item, Of, Pair, Argument, Parameter, Entry, Gathered, singles}
use Rattle.pygrammar.specs.Targets.{stored}
use Rattle.pygrammar.specs.Reader.{Answer, on_some, on_name_with, closed, generator_of, Reads, perhaps, suffixed, starred, star_annotated}
use Rattle.pygrammar.specs.Reader.{read_pair, read_argument, read_parameter, piece, listing_loop, listing_of, others_of, target_item}
use Rattle.pygrammar.specs.Reader.{target_piece, read_target, ifs_loop, for_in_step, comps_loop, comps_closed}
use Rattle.pygrammar.specs.Precedence.{starts, begins_comp, starts_comp}
use Rattle.pygrammar.specs.Grammar as G
use Rattle.pygrammar.proofs.Completeness.LookLemmas.{op_or_not, some_none}
use Rattle.pygrammar.proofs.Soundness.Says.{Says, found, no_form, says_then, says_op, says_word, says_name, says_cond, says_made, says_is}
use Rattle.pygrammar.proofs.Soundness.Says.{SoundAt, lower}
use Rattle.std.proofs.lemmas.List.{append-nil}

-- tests with what they tell
pub says_if : {B : Type 0} {Q : B → List Terminal → Type 0} (b : Bool) (x y : Answer B) → (b ≡ true → Says Q x)
    → Says Q y → Says Q (cond b x y)
says_if true x y h k = h refl
says_if false x y h k = k

pub says_name_with : {B : Type 0} {Q : B → List Terminal → Type 0} (s : Exact) (r : List Terminal) (hit : List ℕ → List Terminal → Answer B)
    (x : Answer B) → ((a : Spelled) (u : List Terminal) → r ≡ Ident a ∷ (Op s ∷ u) → Says Q (hit a.form u))
    → (((a : Spelled) (u : List Terminal) → r ≡ Ident a ∷ (Op s ∷ u) → ⊥) → Says Q x) → Says Q (on_name_with s r hit x)
says_name_with s [] hit x h g = g (λ a u q. absurd (cc))
says_name_with s (Ident a ∷ []) hit x h g = g (λ b u q. absurd (short a b u q))
  where
    rests : (a b : Spelled) (u v : List Terminal) → Ident a ∷ u ≡ Ident b ∷ v → u ≡ v
    rests a b u v q = cc

    short : (a b : Spelled) (u : List Terminal) → Ident a ∷ [] ≡ Ident b ∷ (Op s ∷ u) → ⊥
    short a b u q = absurd (cc (rests a b [] (Op s ∷ u) q))
says_name_with {B} {Q} s (Ident a ∷ (t ∷ u)) hit x h g = go (is_op s t) refl
  where
    seconds : (a b : Spelled) (t v : Terminal) (u w : List Terminal) → Ident a ∷ (t ∷ u) ≡ Ident b ∷ (v ∷ w) → t ≡ v
    seconds a b t v u w q = cc

    op_same : (s : Exact) (n : ℕ) (t : Terminal) → is_op s t ≡ Some n → t ≡ Op s
    op_same s n t q = elim (op_or_not s t) [ inl e ↦ e | inr f ↦ absurd (some_none n (sym q ∙ f)) ]

    self_op : (s : Exact) → is_op s (Op s) ≡ None → ⊥
    self_op LPar h = absurd (cc)
    self_op _ h = absurd (cc)

    go : (o : Option ℕ) → is_op s t ≡ o → Says Q (on_some o (λ _. hit a.form u) x)
    go (Some n) e = h a u (ap (λ z. Ident a ∷ (z ∷ u)) (op_same s n t e))
    go None e = g (λ b w q. self_op s (ap (is_op s) (sym (seconds a b t (Op s) u w q)) ∙ e))
says_name_with s (_ ∷ r) hit x h g = g (λ a u q. absurd (cc))

pub says_closed : {A : Type 0} {Q : A → List Terminal → Type 0} (s : Exact) (r : List Terminal) (a : A)
    → ((r1 : List Terminal) → r ≡ Op s ∷ r1 → Q a r1) → Says Q (closed s r a)
says_closed s r a h = says_op s r _ _ (λ _ r1 q. found (h r1 q)) (λ _. no_form)

-- the other forms of Elem, Part and Named
abbrev pub Inv : Level → List Terminal → Expr → Type 0
Inv Elem ts e = (G.Derives Named ts e) ⊎ ((us : List Terminal) × (ts ≡ Op Star ∷ us))
Inv Part ts e = (G.Derives Slice ts e) ⊎ ((us : List Terminal) × (f : Expr) × (ts ≡ Op Star ∷ us) × (e ≡ Trees.Starred f Load) ×
    G.Derives Expression us f)
Inv Named ts e = (G.Derives Expression ts e) ⊎ ((x : Spelled) × (us : List Terminal) × (ts ≡ Ident x ∷ (Op ColonEqual ∷ us)))
Inv l ts e = Unit {0}

next_inv : (l : Level) (ts : List Terminal) (e : Expr) → G.Derives (below l) ts e → Inv l ts e
next_inv Elem ts e p = inl p
next_inv Part ts e p = inl p
next_inv Named ts e p = inl p
next_inv _ ts e p = tt

unary_inv : (l : Level) (t : Terminal) (o : UnaryOperator) (ts : List Terminal) (e : Expr) → prefix_operator l t ≡ Some o → Inv l ts e
unary_inv Elem t o ts e h = absurd (cc)
unary_inv Part t o ts e h = absurd (cc)
unary_inv Named t o ts e h = absurd (cc)
unary_inv _ t o ts e h = tt

binary_inv : (l : Level) (t : Terminal) (o : Operator) (ts : List Terminal) (e : Expr) → left_operator l t ≡ Some o → Inv l ts e
binary_inv Elem t o ts e h = absurd (cc)
binary_inv Part t o ts e h = absurd (cc)
binary_inv Named t o ts e h = absurd (cc)
binary_inv _ t o ts e h = tt

chain_inv : (o : BoolOperator) (ts : List Terminal) (e : Expr) → Inv (chain_level o) ts e
chain_inv Join.And ts e = tt
chain_inv Join.Or ts e = tt

pub inv : {l : Level} {ts : List Terminal} {e : Expr} → G.Derives l ts e → Inv l ts e
inv (G.next {l = l} {ts = ts} {e = e} p) = next_inv l ts e p
inv (G.unary {l = l} {t = t} {o = o} h p) = unary_inv l t o _ _ h
inv (G.binary {l = l} {o = o} t h p q) = binary_inv l t o _ _ h
inv (G.chain {o = o} p c) = chain_inv o _ _
inv (G.star_elem {ts = ts} p) = inr (ts, refl)
inv (G.star_part {ts = ts} {e = e} p) = inr (ts, e, refl, refl, p)
inv (G.named {x = x} {ts = ts} p) = inr (x, ts, refl)
inv _ = tt

abbrev pub NoStar : List Terminal → Type 0
NoStar r = (t : Terminal) (s : List Terminal) → r ≡ t ∷ s → is_op Star t ≡ None

pub no_star : (r s : List Terminal) → NoStar r → r ≡ Op Star ∷ s → ⊥
no_star r s f q = some_none 0 (f (Op Star) s q)

pub elem_named : (r ts r1 : List Terminal) (e : Expr) → r ≡ ts ++ r1 → NoStar r → G.Derives Elem ts e → G.Derives Named ts e
elem_named r ts r1 e q f p = elim (inv p) [ inl d ↦ d | inr u ↦ absurd (no_star r (u.0 ++ r1) f (q ∙ ap (λ z. z ++ r1) u.1)) ]

pub named_expression : (r ts r1 : List Terminal) (e : Expr) → r ≡ ts ++ r1
    → ((a : Spelled) (u : List Terminal) → r ≡ Ident a ∷ (Op ColonEqual ∷ u) → ⊥) → G.Derives Named ts e → G.Derives Expression ts e
named_expression r ts r1 e q f p = elim (inv p) [ inl d ↦ d | inr u ↦ absurd (f u.0 (u.1 ++ r1) (q ∙ ap (λ z. z ++ r1) u.2)) ]

-- parts
abbrev pub PerhapsAt : Level → List Terminal → OptionalExpr → List Terminal → Type 0
PerhapsAt l i a r = (ts : List Terminal) × (i ≡ ts ++ r) × G.Perhaps l ts a

abbrev pub SuffixAt : Option Exact → List Terminal → OptionalExpr → List Terminal → Type 0
SuffixAt s i a r = (ts : List Terminal) × (i ≡ ts ++ r) × G.Suffix s ts a

abbrev pub PieceAt : Item → List Terminal → Entry → List Terminal → Type 0
PieceAt j i a r = (ts : List Terminal) × (i ≡ ts ++ r) × G.Piece j ts a

abbrev pub StarAt : Bool → List Terminal → OptionalExpr → List Terminal → Type 0
StarAt b i a r = (ts : List Terminal) × (i ≡ ts ++ r) × ((x : Spelled) → G.Piece (Parameter b) (Op Star ∷ (Ident x ∷ ts))
    (Gathered (arg x.form a)))

abbrev pub ListingAt : Item → List Entry → List Terminal → List Entry → List Terminal → Type 0
ListingAt j acc i es r = (us : List Terminal) × (xs : List Entry) × (es ≡ acc ++ xs) × (i ≡ us ++ r) × G.Listing j us xs

abbrev pub OthersAt : Item → Entry → List Terminal → List Entry → List Terminal → Type 0
OthersAt j a i es r = (vs : List Terminal) × (xs : List Entry) × (es ≡ a ∷ xs) × (i ≡ vs ++ r) × ((ts : List Terminal) → G.Piece j ts a
    → G.Listing j (ts ++ vs) (a ∷ xs))

two : (ts us r : List Terminal) (t : Terminal) → ts ++ (t ∷ (us ++ r)) ≡ (ts ++ (t ∷ us)) ++ r
two ts us r t = sym (append_assoc ts (t ∷ us) r)

module _ (self : Reads) (all : SoundAt self) where
  pub perhaps_sound : (l : Level) (r : List Terminal) → Says (PerhapsAt l r) (perhaps self l r)
  perhaps_sound l r = says_cond (starts (Of l) r) _ _ (says_then _ _ (all l r) (λ e r1 p. found (p.0, p.1, G.something p.2)))
      (found ([], refl, G.nothing))

  suffix_sound : (s : Option Exact) (r : List Terminal) → Says (SuffixAt s r) (suffixed self s r)
  suffix_sound None r = found ([], refl, G.no_suffix)
  suffix_sound (Some x) r =
      says_op x r _ _ (λ a s q. says_then _ _ (all Expression s) (λ e r1 p. found (Op x ∷ p.0, q ∙ ap (λ z. Op x ∷ z) p.1, G.suffix p.2)))
      (λ _. found ([], refl, G.no_suffix))

  pub starred_sound : {Q : Expr → List Terminal → Type 0} (l : Level) (r : List Terminal) (x : Answer Expr)
      → ((ts : List Terminal) (e : Expr) (r1 : List Terminal) → r ≡ Op Star ∷ (ts ++ r1) → G.Derives l ts e → Q (Trees.Starred e Load) r1)
      → (NoStar r → Says Q x) → Says Q (starred self l r x)
  starred_sound l r x h g =
      says_op Star r _ _ (λ a s q. says_then _ _ (all l s) (λ e r1 p. found (h p.0 e r1 (q ∙ ap (λ z. Op Star ∷ z) p.1) p.2))) g

  star_annotated_sound : (b : Bool) (r : List Terminal) → Says (StarAt b r) (star_annotated self b r)
  star_annotated_sound false r = found ([], refl, λ x. G.star_parameter G.no_suffix)
  star_annotated_sound true r =
      says_op Colon r _ _ (λ a s q.
      says_op Star s _ _
      (λ c u v. says_then _ _ (all BitOr u)
      (λ e r1 p. found (
        Op Colon ∷ (Op Star ∷ p.0),
        q ∙ ap (λ z. Op Colon ∷ z) (v ∙ ap (λ z. Op Star ∷ z) p.1),
        λ x. G.star_annotation p.2,
      )))
      (λ _. says_then _ _ (all Expression s) (λ e r1 p. found (
        Op Colon ∷ p.0,
        q ∙ ap (λ z. Op Colon ∷ z) p.1,
        λ x. G.star_parameter (G.suffix p.2),
      ))))
      (λ _. found ([], refl, λ x. G.star_parameter G.no_suffix))

  pair_sound : (r : List Terminal) → Says (PieceAt Pair r) (read_pair self r)
  pair_sound r =
      says_op DoubleStar r _ _
      (λ a s q. says_then _ _ (all BitOr s)
      (λ e r1 p. found (Op DoubleStar ∷ p.0, q ∙ ap (λ z. Op DoubleStar ∷ z) p.1, G.pairs_of p.2))) (λ _.
      says_then _ _ (all Expression r)
      (λ k r1 p. says_op Colon r1 _ _
      (λ a s q. says_then _ _ (all Expression s)
      (λ e r2 y. found (
        p.0 ++ (Op Colon ∷ y.0),
        p.1 ∙ ap (λ z. p.0 ++ z) (q ∙ ap (λ z. Op Colon ∷ z) y.1) ∙ two p.0 y.0 r2 (Op Colon),
        G.pair p.2 y.2,
      ))) (λ _. no_form)))

  argument_sound : (r : List Terminal) → Says (PieceAt Argument r) (read_argument self r)
  argument_sound r =
      says_op Star r _ _ (λ a s q. says_then _ _ (all Expression s) (λ e r1 p. found (
        Op Star ∷ p.0,
        q ∙ ap (λ z. Op Star ∷ z) p.1,
        G.star_argument p.2,
      ))) (λ _.
      says_op DoubleStar r _ _
      (λ a s q. says_then _ _ (all Expression s) (λ e r1 p. found (
        Op DoubleStar ∷ p.0,
        q ∙ ap (λ z. Op DoubleStar ∷ z) p.1,
        G.double_argument p.2,
      ))) (λ _.
      says_name_with Equal r _ _
      (λ x u q. says_then _ _ (all Expression u)
      (λ e r1 p. found (Ident x ∷ (Op Equal ∷ p.0), q ∙ ap (λ z. Ident x ∷ (Op Equal ∷ z)) p.1, G.keyword_argument p.2))) (λ _.
      says_then _ _ (all Named r) (λ e r1 p. found (p.0, p.1, G.argument p.2)))))

  parameter_sound : (b : Bool) (r : List Terminal) → Says (PieceAt (Parameter b) r) (read_parameter self b r)
  parameter_sound b r =
      says_name r _ _ (λ x s q. says_then _ _ (suffix_sound (cond b (Some Colon) None) s)
      (λ a r2 p. says_then _ _ (suffix_sound (Some Equal) r2)
      (λ d r3 y. found (
        Ident x ∷ (p.0 ++ y.0),
        q ∙ ap (λ z. Ident x ∷ z) (p.1 ∙ ap (λ z. p.0 ++ z) y.1
            ∙ sym (append_assoc p.0 y.0 r3)),
        G.parameter p.2 y.2,
      ))))
      (says_op Star r _ _ (λ a s q. says_name s _ _ (λ x u v. says_then _ _ (star_annotated_sound b u)
      (λ a r3 p. found (Op Star ∷ (Ident x ∷ p.0), q ∙ ap (λ z. Op Star ∷ z) (v ∙ ap (λ z. Ident x ∷ z) p.1), p.2 x)))
      (found (Op Star ∷ [], q, G.bare_star))) (λ _.
      says_op DoubleStar r _ _
      (λ a s q. says_name s _ _ (λ x u v. says_then _ _ (suffix_sound (cond b (Some Colon) None) u)
      (λ a r3 p. found (
        Op DoubleStar ∷ (Ident x ∷ p.0),
        q ∙ ap (λ z. Op DoubleStar ∷ z) (v ∙ ap (λ z. Ident x ∷ z) p.1),
        G.double_parameter p.2,
      ))) no_form) (λ _.
      says_op Slash r _ _ (λ a s q. found (Op Slash ∷ [], q, G.slash)) (λ _. no_form))))

  pub piece_sound : (j : Item) (r : List Terminal) → Says (PieceAt j r) (piece self j r)
  piece_sound (Of l) r = says_then _ _ (all l r) (λ e r1 p. found (p.0, p.1, G.single p.2))
  piece_sound Pair r = pair_sound r
  piece_sound Argument r = argument_sound r
  piece_sound (Parameter b) r = parameter_sound b r

listing_sound : (one : List Terminal → Answer Entry) (j : Item) → ((r : List Terminal) → Says (PieceAt j r) (one r))
    → (m : ℕ) (acc : List Entry) (r : List Terminal) → Says (ListingAt j acc r) (listing_loop one j m acc r)
listing_sound one j h zero acc r = found ([], [], sym (append-nil acc), refl, G.no_item)
listing_sound one j h (suc m) acc r =
    says_cond (starts j r) _ _
    (says_then _ _ (h r) (λ a r1 p. says_op Comma r1 _ _
    (λ b s q. says_is _ (listing_sound one j h m (acc ++ (a ∷ [])) s) (λ es r2 y. (
      p.0 ++ (Op Comma ∷ y.0),
      a ∷ y.1,
      y.2
          ∙ append_assoc acc (a ∷ []) y.1,
      p.1 ∙ ap (λ z. p.0 ++ z) (q ∙ ap (λ z. Op Comma ∷ z) y.3)
          ∙ two p.0 y.0 r2 (Op Comma),
      G.item p.2 y.4,
    )))
    (λ _. found (p.0, a ∷ [], refl, p.1, G.last_item p.2))))
    (found ([], [], sym (append-nil acc), refl, G.no_item))

module _ (self : Reads) (all : SoundAt self) where
  pub listing_of_sound : (j : Item) (r : List Terminal) → Says (ListingAt j [] r) (listing_of self j [] r)
  listing_of_sound j r = listing_sound (piece self j) j (piece_sound self all j) (length r) [] r

  pub others_sound : (j : Item) (a : Entry) (r : List Terminal) → Says (OthersAt j a r) (others_of self j a r)
  others_sound j a r = says_op Comma r _ _
      (λ b s q. says_is _ (listing_sound (piece self j) j (piece_sound self all j) (length s) (a ∷ []) s)
      (λ es r2 y. (Op Comma ∷ y.0, y.1, y.2, q ∙ ap (λ z. Op Comma ∷ z) y.3, λ ts p. G.item p y.4)))
      (λ _. found ([], [], refl, refl, λ ts p. subst (λ z. G.Listing j z (a ∷ [])) (sym (append-nil ts)) (G.last_item p)))

  -- targets
  primary_item : (ts : List Terminal) (e : Expr) → G.Derives Primary ts e → G.Derives StarItem ts e
  primary_item ts e p = G.next (G.next (lower Or Primary ts e (omega arith) (omega arith) (omega arith) p))

  target_item_sound : (r : List Terminal)
      → Says (λ e r1. (ts : List Terminal) × (r ≡ ts ++ r1) × G.Derives StarItem ts e) (target_item self r)
  target_item_sound r =
      starred_sound self all Primary r _
      (λ ts e r1 q p. (Op Star ∷ ts, q, G.star_item (lower BitOr Primary ts e (omega arith) (omega arith) (omega arith) p)))
      (λ _. says_is _ (all Primary r) (λ e r1 p. (p.0, p.1, primary_item p.0 e p.2)))

  target_piece_sound : (r : List Terminal) → Says (PieceAt (Of StarItem) r) (target_piece self r)
  target_piece_sound r = says_then _ _ (target_item_sound r) (λ e r1 p. found (p.0, p.1, G.single p.2))

  pub target_sound : (r : List Terminal) → Says (λ e r1. (ts : List Terminal) × (r ≡ ts ++ r1) × G.Derives Stars ts e) (read_target self r)
  target_sound r = says_then _ _ (target_item_sound r) (λ e r1 p. says_op Comma r1 _ _
      (λ a s q. says_then _ _ (listing_sound (target_piece self) (Of StarItem) target_piece_sound (length s) [] s)
      (λ es r2 y. found (
        p.0 ++ (Op Comma ∷ y.0),
        p.1 ∙ ap (λ z. p.0 ++ z) (q ∙ ap (λ z. Op Comma ∷ z) y.3) ∙ two p.0 y.0 r2 (Op Comma),
        subst (λ z. G.Derives Stars (p.0 ++ (Op Comma ∷ y.0)) (Trees.Tuple (an_expr e (singles z)) Load)) (sym y.2)
            (G.star_tuple p.2 y.4),
      )))
      (λ _. found (p.0, p.1, G.next p.2)))

  ifs_sound : (m : ℕ) (acc : List Expr) (r : List Terminal)
      → Says (λ es r1. (us : List Terminal) × (xs : List Expr) × (es ≡ acc ++ xs) × (r ≡ us ++ r1) × G.Ifs us xs) (ifs_loop self m acc r)
  ifs_sound zero acc r = found ([], [], sym (append-nil acc), refl, G.no_if)
  ifs_sound (suc m) acc r = says_word Key.If r _ _
      (λ a s q. says_then _ _ (all Or s) (λ e r1 p. says_is _ (ifs_sound m (acc ++ (e ∷ [])) r1)
      (λ es r2 y. (
        Word Key.If ∷ (p.0 ++ y.0),
        e ∷ y.1,
        y.2 ∙ append_assoc acc (e ∷ []) y.1,
        q
            ∙ ap (λ z. Word Key.If ∷ z) (p.1 ∙ ap (λ z. p.0 ++ z) y.3 ∙ sym (append_assoc p.0 y.0 r2)),
        G.if_one p.2 y.4,
      ))))
      (λ _. found ([], [], sym (append-nil acc), refl, G.no_if))

abbrev made_of : Expr → Expr → List Expr → Bool → Comprehension
made_of s e cs b = record { target = s; iter = e; ifs = cs; is_async = b }

generator_is : (o : Option Expr) (e : Expr) (cs : List Expr) (b : Bool) (g : Comprehension) → generator_of o e cs b ≡ Some g
    → (s : Expr) × (o ≡ Some s) × (record { target = s; iter = e; ifs = cs; is_async = b } ≡ g)
generator_is None e cs b g h = absurd (cc)
generator_is (Some s) e cs b g h = (s, refl, same_generator (record { target = s; iter = e; ifs = cs; is_async = b }) g h)
  where
    same_generator : (g k : Comprehension) → Some g ≡ Some k → g ≡ k
    same_generator g k h = cc

in_shape : (ts us vs r : List Terminal) (t : Terminal) → ts ++ (t ∷ (us ++ (vs ++ r))) ≡ (ts ++ (t ∷ (us ++ vs))) ++ r
in_shape ts us vs r t = simp append_assoc refl

starts_none : (r : List Terminal) → ((t : Terminal) (s : List Terminal) → r ≡ t ∷ s → is_word Key.For t ≡ None)
    → ((t : Terminal) (s : List Terminal) → r ≡ t ∷ s → is_word Key.Async t ≡ None) → starts_comp r ≡ false
starts_none [] f g = refl
starts_none (t ∷ s) f g = go t (f t s refl) (g t s refl)
  where
    go : (t : Terminal) → is_word Key.For t ≡ None → is_word Key.Async t ≡ None → begins_comp t ≡ false
    go (Word Key.For) h k = absurd (cc)
    go (Word Key.Async) h k = absurd (cc)
    go (Word _) h k = refl
    go _ h k = refl

abbrev pub CompsAt : List Comprehension → List Terminal → List Comprehension → List Terminal → Type 0
CompsAt acc i gs r = ((gs ≡ acc) × (i ≡ r) × (starts_comp i ≡ false)) ⊎ ((us : List Terminal) × (xs : List Comprehension) × (gs ≡ acc ++ xs)
    × (i ≡ us ++ r) × G.Comps us xs)

no_comp_left : (r : List Terminal) → length r ≤ 0 → starts_comp r ≡ false
no_comp_left [] h = refl
no_comp_left (t ∷ s) h = absurd (omega (arith, h))

module _ (self : Reads) (all : SoundAt self) where
  for_in_sound : (b : Bool) (r : List Terminal)
      → Says (λ g r1. (us : List Terminal) × (r ≡ us ++ r1) × G.ForIn b us g) (for_in_step self b r)
  for_in_sound b r = says_then _ _ (target_sound self all r)
      (λ t r1 p. says_word Key.In r1 _ _
      (λ a s q. says_then _ _ (all Or s) (λ e r3 y. says_then _ _ (ifs_sound self all (length r3) [] r3) (λ cs r4 w. says_made _ r4 (λ g h.
      let z = generator_is (stored t) e cs b g h in (
        p.0 ++ (Word Key.In ∷ (y.0 ++ w.0)),
        p.1 ∙ ap (λ z. p.0 ++ z) (q ∙ ap (λ z. Word Key.In ∷ z) (y.1 ∙ ap (λ z. y.0 ++ z) w.3))
            ∙ in_shape p.0 y.0 w.0 r4 (Word Key.In),
        subst (λ k. G.ForIn b (p.0 ++ (Word Key.In ∷ (y.0 ++ w.0))) k)
            (ap (λ v. made_of z.0 e v b) (sym w.2) ∙ z.2) (G.target_in p.2 z.1 y.2 w.4),
      ))))) (λ _. no_form))

  one_more_comp : (acc : List Comprehension) (r : List Terminal) (ts : List Terminal) (g : Comprehension) (r1 : List Terminal)
      → r ≡ ts ++ r1 → G.Comp ts g → (gs : List Comprehension) (r2 : List Terminal)
      → CompsAt (acc ++ (g ∷ [])) r1 gs r2 → CompsAt acc r gs r2
  one_more_comp acc r ts g r1 q p gs r2 (inl u) = inr (ts, g ∷ [], u.0, q ∙ ap (λ z. ts ++ z) u.1, G.one_comp p)
  one_more_comp acc r ts g r1 q p gs r2 (inr u) = inr (
    ts ++ u.0,
    g ∷ u.1,
    u.2 ∙ append_assoc acc (g ∷ []) u.1,
    q ∙ ap (λ z. ts ++ z) u.3
        ∙ sym (append_assoc ts u.0 r2),
    G.comps p u.4,
  )

  comps_sound : (m : ℕ) (acc : List Comprehension) (r : List Terminal) → length r ≤ m → Says (CompsAt acc r) (comps_loop self m acc r)
  comps_sound zero acc r le = found (inl (refl, refl, no_comp_left r le))
  comps_sound (suc m) acc r le =
      says_word Key.For r _ _
      (λ a s q. says_then _ _ (for_in_sound false s)
      (λ g r1 p. says_is _ (comps_sound m (acc ++ (g ∷ [])) r1 (omega (arith, le, ap length q, ap length p.1, length-append p.0 r1)))
      (one_more_comp acc r (Word Key.For ∷ p.0) g r1 (q ∙ ap (λ z. Word Key.For ∷ z) p.1) (G.for_in p.2)))) (λ f1.
      says_word Key.Async r _ _
      (λ a s q. says_word Key.For s _ _
      (λ b u v. says_then _ _ (for_in_sound true u)
      (λ g r1 p. says_is _
      (comps_sound m (acc ++ (g ∷ [])) r1 (omega (arith, le, ap length q, ap length v, ap length p.1, length-append p.0 r1)))
      (one_more_comp acc r (Word Key.Async ∷ (Word Key.For ∷ p.0)) g r1 (q
      ∙ ap (λ z. Word Key.Async ∷ z) (v ∙ ap (λ z. Word Key.For ∷ z) p.1)) (G.async_for_in p.2)))) (λ _. no_form)) (λ f2.
      found (inl (refl, refl, starts_none r f1 f2))))

  pub comps_closed_sound : {Q : Expr → List Terminal → Type 0} (s : Exact) (r : List Terminal) (make : List Comprehension → Expr)
      → starts_comp r ≡ true → ((us : List Terminal) (gs : List Comprehension) (r1 : List Terminal) → r ≡ us ++ (Op s ∷ r1) → G.Comps us gs
      → Q (make gs) r1) → Says Q (comps_closed self s r make)
  comps_closed_sound {Q} s r make t h = says_then _ _ (comps_sound (length r) [] r (omega arith))
      (λ gs r1 v. says_closed s r1 (make gs) (λ r2 q. go gs r1 r2 q v))
    where
      differ : ◌≡◌ {A = Bool} true false → ⊥
      differ h = absurd (cc)

      go : (gs : List Comprehension) (r1 r2 : List Terminal) → r1 ≡ Op s ∷ r2 → CompsAt [] r gs r1 → Q (make gs) r2
      go gs r1 r2 q (inl u) = absurd (differ (sym t ∙ u.2))
      go gs r1 r2 q (inr u) = subst (λ z. Q (make z) r2) (sym u.2) (h u.0 u.1 r2 (u.3 ∙ ap (λ z. u.0 ++ z) q) u.4)
