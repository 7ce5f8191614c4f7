-- The places of the values of patterns: numbers, strings, names with points, keys.
--
-- Carries: number_at, signed_at, with_imaginary, sum_at, read_literal, dotted, dotted_key, any_key. On: Made, Looks; Values of pyplaces.
use Rattle.std.proofs.Common.{◌≡◌, refl, sym, ap, subst, ◌∙◌, arith, ℕ, ◌+◌, List, [], ◌∷◌, ◌++◌, length, Some, true, false}
use Rattle.std.proofs.Common.{length-append, append_assoc, Result, Ok, Err}
use Rattle.std.specs.Prelude.{IfOk, MatchResult}
use Rattle.std.proofs.lemmas.List.{append-nil}
use Rattle.pylex_lexeme.specs.declared.kinds.Exact.TheVariants.{Dot, Minus}
use Rattle.pytoken.specs.declared.keywords.Keyword.{Keyword}
use Rattle.pytree_node.specs.declared.operators.BoolOperator.{BoolOperator}
use Rattle.pytree_node.specs.declared.operators.BoolOperator.TheVariants as Chain
use Rattle.pytree_node.specs.declared.operators.Context.{Context}
use Rattle.pytree_node.specs.declared.operators.Context.TheVariants.{Load}
use Rattle.pytree_node.specs.declared.operators.Operator.{Operator}
use Rattle.pytree_node.specs.declared.operators.UnaryOperator.{UnaryOperator}
use Rattle.pytree_node.specs.declared.operators.UnaryOperator.TheVariants as Un
use Rattle.pytree_node.specs.Trees
use Rattle.pytree_node.specs.Trees.{Expr, Identifier, MatchValue}
use Rattle.pytree_node.specs.TreeOf.{tree_of}
use Rattle.pytree_node.specs.Values.{Value}
use Rattle.pytoken.specs.Terminals.{Terminal, Spelled, Op, Word, Ident, Number, Literal, FormattedBegin}
use Rattle.pytoken.specs.declared.values.terminals.Terminal as given
use Rattle.pygrammar.specs.declared.levels.Level.{Level}
use Rattle.pygrammar.specs.declared.levels.Level.TheVariants.{Atom, Sum}
use Rattle.pygrammar.specs.declared.pattern_levels.PatternLevel.TheVariants.{ClosedPattern}
use Rattle.pygrammar.specs.Constants.{constant_word}
use Rattle.pygrammar.specs.Grammar as G
use Rattle.pygrammar.specs.Looks.{name_in}
use Rattle.pygrammar.specs.Operators.{below, chain_level, left_operator, prefix_operator}
use Rattle.pygrammar.specs.PatternGrammar as P
use Rattle.pygrammar.specs.PatternOperators.{is_imaginary, is_wildcard, singleton_word}
use Rattle.pygrammar.specs.PatternReader.{dotted_from, named_key}
use Rattle.pygrammar.specs.Reader.{Answer, Found, NoForm, and_then}
use Rattle.pyparse_nodes.specs.declared.found.Read.{Read}
use Rattle.pyparse_nodes.specs.declared.stop.Stop.{Stop}
use Rattle.pyparse_nodes.specs.declared.stop.Stop.TheVariants as stop
use Rattle.pyparse_nodes.specs.Answers.{Answered, Made, Makes}
use Rattle.pyparse_nodes.specs.Views.{Stands, first_is, seen}
use Rattle.pyparse_pattern.specs.declared.numbers.Number as found
use Rattle.pyparse_pattern.specs.Inner.PlacedParts.{SignedPlaced}
use Rattle.pyparse_pattern.specs.Inner.Values.{NoNumberAt, NumberAt, begins_string, starts_string}
use Rattle.pyplaces.specs.Stretches.{Stretch, stretch, over}
use Rattle.pyplaces.specs.ExpressionPlaces.{places}
use Rattle.pyplaces.specs.PatternPlaces.{dotted_places, key_places, literal_places, pattern_places}
use Rattle.pyplaces.specs.Placed.{Placed}
use Rattle.pyplaces.specs.PlacedPatterns.{PlacedDotted, PlacedKey, PlacedLiteral, PlacedNumber, PlacedPattern}
use Rattle.pyplaces.specs.Recording.{Records}
use Rattle.pyplaces.proofs.Answers.{records_more, records_node, records_none}
use Rattle.pyplaces.proofs.Fronts.{◌⊕◌, own}
use Rattle.pyplaces.proofs.Patterns.Values.{placed_unsigned, placed_negative, placed_number, placed_complex, placed_first_name}
use Rattle.pyplaces.proofs.Patterns.Values.{placed_dot_name}
use Rattle.pyplaces.proofs.Patterns.Values.{placed_literal_key, placed_singleton_key}
use Rattle.pyparse_reads.proofs.Callers.Looks.{some_first, name_first, with_places}
use Rattle.pyparse_pattern.proofs.Points.{after_point}
use Rattle.pyparse_pattern.proofs.Recorders.Made.{said_as}

-- ---- Numbers.

abbrev pub LiteralRead : {S : Type 0} → (S → Stretch → S) → List given.Terminal → ℕ → S → S → Read → Type 0
LiteralRead after ts at u v r =
    (ps : List Stretch) × PlacedLiteral (seen ts at) at (tree_of r.expr.value) (seen ts r.next) r.next ps × Records after u ps v

-- after a number that is recorded already
abbrev pub Summed : {S : Type 0} → (S → Stretch → S) → List given.Terminal → ℕ → List Stretch → S → S → Read → Type 0
Summed after ts at ps u v r =
    (qs : List Stretch) × PlacedLiteral (seen ts at) at (tree_of r.expr.value) (seen ts r.next) r.next (ps ++ qs) × Records after u qs v

module _ {S : Type 0} (after : S → Stretch → S) (u v : S) (ts : List given.Terminal) where
  pub unsigned_placed : (at : ℕ) (z : Result found.Number Stop) → MatchResult z (λ n. NumberAt ts at n) (λ s. NoNumberAt ts at s)
      → IfOk z (λ _. Records after u (stretch at (at + 1) ∷ []) v) → IfOk z (λ n. SignedPlaced after ts at n u v)
  unsigned_placed at (Ok n) h k = record {
    value = h.value;
    places = stretch at (at + 1) ∷ [];
    imaginary = h.imaginary;
    placed = said_as (λ e r m. PlacedNumber h.value (seen ts at) at e r m (stretch at (at + 1) ∷ [])) (seen ts) h.tree h.next
        (placed_unsigned h.stands.is);
    records = k;
  }
  unsigned_placed at (Err s) h k = tt

  pub negative_placed : {w : S} (at : ℕ) (number n : found.Number) → Stands (Op Minus) ts at → NumberAt ts (at + 1) number
      → Records after u (stretch (at + 1) (at + 1 + 1) ∷ []) w → v ≡ after w (stretch at number.read.next)
      → Made 3 (Trees.UnaryOp Un.USub (tree_of number.read.expr.value)) number.read.next n.read → n.imaginary ≡ number.imaginary
      → SignedPlaced after ts at n u v
  negative_placed {w} at number n s h k d m q =
      let ps : List Stretch = stretch (at + 1) (at + 1 + 1) ∷ (stretch at (at + 1 + 1) ∷ []) in
      record {
        value = h.value;
        places = ps;
        imaginary = q ∙ h.imaginary;
        placed = said_as (λ e r o. PlacedNumber h.value (seen ts at) at e r o ps) (seen ts)
            (m.tree ∙ ap (λ e. Trees.UnaryOp Un.USub e) h.tree) (m.next_is ∙ h.next) (placed_negative s.is h.stands.is);
        records = records_more k (records_node (d ∙ ap (λ o. after w (stretch at o)) h.next));
      }

  pub complex_placed : {y : Value} {ps : List Stretch} {w : S} (at : ℕ) (e : Read) (o : Operator) (right : found.Number)
      (z : Result Read Stop)
      → PlacedNumber y (seen ts at) at (tree_of e.expr.value) (seen ts e.next) e.next ps → is_imaginary y ≡ false
      → Some o ≡ first_is (left_operator Sum) (seen ts e.next) → NumberAt ts (e.next + 1) right → right.imaginary ≡ true
      → Records after u (stretch (e.next + 1) (e.next + 1 + 1) ∷ []) w → v ≡ after w (stretch at right.read.next)
      → Makes 3 (Trees.BinOp (tree_of e.expr.value) o (tree_of right.read.expr.value)) right.read.next z
      → IfOk z (Summed after ts at ps u v)
  complex_placed {ps = ps} {w = w} at e o right (Ok r) p a s h b k d m =
      let t = some_first (left_operator Sum) o ts e.next s in
      let qs : List Stretch = stretch (e.next + 1) (e.next + 1 + 1) ∷ (stretch at (e.next + 1 + 1) ∷ []) in (
        qs,
        said_as (λ x g n. PlacedLiteral (seen ts at) at x g n (ps ++ qs)) (seen ts)
            (m.tree ∙ ap (λ x. Trees.BinOp (tree_of e.expr.value) o x) h.tree) (m.next_is ∙ h.next)
            (placed_complex p a t.2 t.1 h.stands.is (sym h.imaginary ∙ b)),
        records_more k (records_node (d ∙ ap (λ n. after w (stretch at n)) h.next)),
      )
  complex_placed at e o right (Err s) p a t h b k d m = tt

  pub sum_joined : {w : S} (at : ℕ) (n : found.Number) (z : Result Read Stop) → SignedPlaced after ts at n u w
      → ((y : Value) (ps : List Stretch) → n.imaginary ≡ is_imaginary y
      → PlacedNumber y (seen ts at) at (tree_of n.read.expr.value) (seen ts n.read.next) n.read.next ps
      → IfOk z (Summed after ts at ps w v))
      → IfOk z (LiteralRead after ts at u v)
  sum_joined at n (Ok r) s f =
      let h = f s.value s.places s.imaginary s.placed in (s.places ++ h.0, h.1, records_more s.records h.2)
  sum_joined at n (Err e) s f = tt

pub number_alone : {S : Type 0} {y : Value} {ps : List Stretch} (after : S → Stretch → S) (u : S) (ts : List given.Terminal) (at : ℕ)
    (e : Read)
    → PlacedNumber y (seen ts at) at (tree_of e.expr.value) (seen ts e.next) e.next ps → Summed after ts at ps u u e
number_alone {ps = ps} after u ts at e p = ([], with_places (sym (append-nil ps)) (placed_number p), records_none)

-- ---- Strings, which are read as the atom that they are.

no_left : (t : Terminal) (o : Operator) → left_operator Atom t ≡ Some o → ⊥
no_left t o h = absurd (cc)

no_prefix : (t : Terminal) (o : UnaryOperator) → prefix_operator Atom t ≡ Some o → ⊥
no_prefix t o h = absurd (cc)

no_chain : (o : BoolOperator) → chain_level o ≡ Atom → ⊥
no_chain Chain.And h = absurd (cc)
no_chain Chain.Or h = absurd (cc)

no_constant : (t : Terminal) (y : Value) → constant_word t ≡ Some y → begins_string t ≡ true → ⊥
no_constant (Literal x) y h b = absurd (cc)
no_constant FormattedBegin y h b = absurd (cc)
no_constant _ y h b = absurd (cc)

string_of : {l : Level} {ts : List Terminal} {e : Expr} (d : G.Derives l ts e) → l ≡ Atom → (at : ℕ) (r : List Terminal)
    → starts_string (ts ++ r) ≡ true → (k : P.LiteralOf ts e) × (literal_places at k ≡ places at d)
string_of (G.next p) h at r b = string_of p (ap below h) at r b
string_of (G.strings vs q) h at r b = (P.strings vs q, refl)
string_of (G.joined_string c f g) h at r b = (P.joined_string c f g, refl)
string_of (G.binary {o = o} t q x y) h at r b = absurd (no_left t o (subst (λ l. left_operator l t ≡ Some o) h q))
string_of (G.chain {o = o} x y) h at r b = absurd (no_chain o h)
string_of (G.unary {t = t} {o = o} q p) h at r b = absurd (no_prefix t o (subst (λ l. prefix_operator l t ≡ Some o) h q))
string_of G.name h at r b = absurd (cc)
string_of (G.constant {t = t} {v = y} q) h at r b = absurd (no_constant t y q b)
string_of G.number h at r b = absurd (cc)
string_of (G.group p) h at r b = absurd (cc)
string_of (G.yield_group p) h at r b = absurd (cc)
string_of G.empty_tuple h at r b = absurd (cc)
string_of (G.tuple p c) h at r b = absurd (cc)
string_of (G.generator_group p c) h at r b = absurd (cc)
string_of (G.list c) h at r b = absurd (cc)
string_of (G.list_comp p c) h at r b = absurd (cc)
string_of (G.dict c) h at r b = absurd (cc)
string_of (G.dict_comp p q c) h at r b = absurd (cc)
string_of (G.set c) h at r b = absurd (cc)
string_of (G.set_comp p c) h at r b = absurd (cc)
string_of _ h at r b = absurd (cc)

string_literal : {i r : List Terminal} {at following : ℕ} {e : Expr} {ps : List Stretch} → Placed Atom i at e r following ps
    → starts_string i ≡ true → PlacedLiteral i at e r following ps
string_literal {r = r} {at = at} p h =
    let g = string_of p.derived refl at r (ap starts_string (sym p.is) ∙ h) in
    record { front = p.front; is = p.is; ends = p.ends; derived = g.0; places_are = g.1 ∙ p.places_are }

pub string_placed : {S : Type 0} (after : S → Stretch → S) (u v : S) (ts : List given.Terminal) (at : ℕ) (z : Result Read Stop)
    → true ≡ starts_string (seen ts at)
    → IfOk z (λ r. (ps : List Stretch) × Placed Atom (seen ts at) at (tree_of r.expr.value) (seen ts r.next) r.next ps
    × Records after u ps v)
    → IfOk z (LiteralRead after ts at u v)
string_placed after u v ts at (Ok r) b h = (h.0, string_literal h.1 (sym b), h.2)
string_placed after u v ts at (Err s) b h = tt

-- ---- Names with points.

abbrev pub DottedRead : {S : Type 0} → (S → Stretch → S) → List given.Terminal → Spelled → List Terminal → ℕ → S → S → Read → Type 0
DottedRead after ts x i at u v r =
    (ps : List Stretch) × PlacedDotted x.form i at (tree_of r.expr.value) (seen ts r.next) r.next ps × Records after u ps v

module _ {S : Type 0} (after : S → Stretch → S) (u v : S) (ts : List given.Terminal) (x : Spelled) (begin : ℕ) where
  pub points_begun : (f : List ℕ) (at : ℕ) (e : Read) → Made 1 (Trees.Name f Load) at e → v ≡ after u (stretch begin at) → at ≡ begin + 1
      → x.form ≡ f → DottedRead after ts x (Ident x ∷ seen ts at) begin u v e
  points_begun f at e m h q g =
      let own : List Stretch = stretch begin at ∷ [] in
      let p : PlacedDotted x.form (Ident x ∷ seen ts at) begin (Trees.Name x.form Load) (seen ts at) at own =
      subst (λ n. PlacedDotted x.form (Ident x ∷ seen ts at) begin (Trees.Name x.form Load) (seen ts at) n (stretch begin n ∷ []))
      (sym q) (placed_first_name refl) in (
        own,
        said_as (λ y r n. PlacedDotted x.form (Ident x ∷ seen ts at) begin y r n own) (seen ts)
            (m.tree ∙ ap (λ y. Trees.Name y Load) (sym g)) m.next_is p,
        records_node h,
      )

  pub points_gone : {w : S} (i : List Terminal) (room : ℕ) (f : List ℕ) (e r : Read) → Stands (Op Dot) ts e.next
      → Some f ≡ first_is name_in (seen ts (e.next + 1))
      → Made room (Trees.Attribute (tree_of e.expr.value) f Load) (e.next + 1 + 1) r → v ≡ after w (stretch begin (e.next + 1 + 1))
      → DottedRead after ts x i begin u w e → DottedRead after ts x i begin u v r
  points_gone i room f e r s n m h p =
      let y = name_first f ts (e.next + 1) n in
      let ps : List Stretch = p.0 ++ (stretch begin (e.next + 1 + 1) ∷ []) in (
        ps,
        said_as (λ z g k. PlacedDotted x.form i begin z g k ps) (seen ts)
            (m.tree ∙ ap (λ z. Trees.Attribute (tree_of e.expr.value) z Load) (sym y.2)) m.next_is (placed_dot_name p.1 s.is y.1),
        records_more p.2 (records_node h),
      )

-- no name alone
abbrev pub Pointed : Expr → Type 0
Pointed e = (y : Identifier) (c : Context) → e ≡ Trees.Name y c → ⊥

no_answer : (e : Expr) (r : List Terminal) → ◌≡◌ {A = Answer Expr} NoForm (Found e r) → ⊥
no_answer e r h = absurd (cc)

-- what is read where a point stands
pub pointed : (ts : List given.Terminal) (room at : ℕ) (x : Identifier) (e : Expr) (r : List Terminal) → Stands (Op Dot) ts at
    → dotted_from room x (seen ts at) ≡ Found e r → Pointed e
pointed ts room at x e r s q y c h =
    let k : named_key e r ≡ Found e r = ap (λ z. and_then z named_key) (sym q)
    ∙ after_point room named_key (λ f s. Found f s) (λ f z s. refl) ts at x s ∙ ap (λ z. and_then z (λ f s. Found f s)) q in
    no_answer (Trees.Name y c) r (ap (λ z. named_key z r) (sym h) ∙ k ∙ ap (λ z. Found z r) h)

value_of : {f : Identifier} {ts : List Terminal} {e : Expr} (d : P.Dotted f ts e) (at : ℕ) → Pointed e → is_wildcard f ≡ false
    → (k : P.DerivesPattern ClosedPattern ts (MatchValue e)) × (pattern_places at k ≡ dotted_places at d ++ over at (length ts))
value_of P.first_name at n w = absurd (n _ _ refl)
value_of (P.dot_name {ts = ts} x p) at n w =
    let own : List Stretch = over at (2 + length ts) in
    let size : 2 + length ts ≡ length (ts ++ (Op Dot ∷ (Ident x ∷ []))) = omega (arith, length-append ts (Op Dot ∷ (Ident x ∷ []))) in (
      P.value x (P.class_name p w),
      sym (append_assoc (dotted_places at p) own own)
          ∙ ap (λ m. (dotted_places at p ++ own) ++ over at m) size,
    )

-- a value is one node more
pub dotted_value : {f : Identifier} {i r : List Terminal} {at following : ℕ} {e : Expr} {ps : List Stretch}
    → PlacedDotted f i at e r following ps → Pointed e → is_wildcard f ≡ false
    → PlacedPattern ClosedPattern i at (MatchValue e) r following (ps ++ (stretch at following ∷ []))
dotted_value {at = at} p n w =
    let g = value_of p.derived at n w in
    record { front = p.front; is = p.is; ends = p.ends; derived = g.0; places_are = g.1 ∙ (p.places_are ⊕ own p.ends) }

-- ---- Keys.

key_of : {f : Identifier} {ts : List Terminal} {e : Expr} (d : P.Dotted f ts e) (at : ℕ) → Pointed e
    → (k : P.KeyOf ts e) × (key_places at k ≡ dotted_places at d)
key_of P.first_name at n = absurd (n _ _ refl)
key_of (P.dot_name x p) at n = (P.name_key x p, refl)

dotted_key : {f : Identifier} {i r : List Terminal} {at following : ℕ} {e : Expr} {ps : List Stretch}
    → PlacedDotted f i at e r following ps → Pointed e → PlacedKey i at e r following ps
dotted_key {at = at} p n =
    let g = key_of p.derived at n in
    record { front = p.front; is = p.is; ends = p.ends; derived = g.0; places_are = g.1 ∙ p.places_are }

abbrev pub KeyRead : {S : Type 0} → (S → Stretch → S) → List given.Terminal → List Terminal → ℕ → S → S → Read → Type 0
KeyRead after ts i at u v r =
    (ps : List Stretch) × PlacedKey i at (tree_of r.expr.value) (seen ts r.next) r.next ps × Records after u ps v

module _ {S : Type 0} (after : S → Stretch → S) (u v : S) (ts : List given.Terminal) where
  pub key_pointed : (x : Spelled) (i : List Terminal) (begin room at : ℕ) (f : Identifier) (z : Result Read Stop) → Stands (Op Dot) ts at
      → Answered ts (room + 1) at (dotted_from room f (seen ts at)) z → IfOk z (DottedRead after ts x i begin u v)
      → IfOk z (KeyRead after ts i begin u v)
  key_pointed x i begin room at f (Ok r) s a h =
      (h.0, dotted_key h.1 (pointed ts room at f (tree_of r.expr.value) (seen ts r.next) s a.is), h.2)
  key_pointed x i begin room at f (Err e) s a h = tt

  pub key_seen : (i j : List Terminal) (at : ℕ) (z : Result Read Stop) → i ≡ j → IfOk z (KeyRead after ts j at u v)
      → IfOk z (KeyRead after ts i at u v)
  key_seen i j at z q h = subst (λ k. IfOk z (KeyRead after ts k at u v)) (sym q) h

  pub key_single : (at : ℕ) (w : Keyword) (y : Value) (z : Result Read Stop) → singleton_word (Word w) ≡ Some y
      → seen ts at ≡ Word w ∷ seen ts (at + 1) → MatchResult z (λ r. Made 1 (Trees.Constant y) (at + 1) r) (λ s. s ≡ stop.Memory)
      → v ≡ after u (stretch at (at + 1)) → IfOk z (KeyRead after ts (seen ts at) at u v)
  key_single at w y (Ok r) g q m h =
      let own : List Stretch = stretch at (at + 1) ∷ [] in (
        own,
        said_as (λ e s n. PlacedKey (seen ts at) at e s n own) (seen ts) m.tree m.next_is (placed_singleton_key g q),
        records_node h,
      )
  key_single at w y (Err s) g q m h = tt

  pub key_literal : (at : ℕ) (z : Result Read Stop) → IfOk z (LiteralRead after ts at u v) → IfOk z (KeyRead after ts (seen ts at) at u v)
  key_literal at (Ok r) h = (h.0, placed_literal_key h.1, h.2)
  key_literal at (Err s) h = tt
