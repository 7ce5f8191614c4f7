-- Literals and f-strings, recorded: each text and each field has the place of the whole row, whose end is sought before it is read.
--
-- Carries: strings.rt. On: Strings, Rows, RowEnds of pyplaces; Formatted.Values, LiteralRuns.
use Rattle.std.proofs.Common.{◌≡◌, refl, sym, ap, subst, ◌∙◌, arith, ℕ, ◌+◌, ◌<◌, List, [], ◌∷◌, ◌++◌, length, map, drop}
use Rattle.std.proofs.Common.{drop-drop}
use Rattle.std.proofs.Common.{append_assoc, length-append, suc, ◌==◌, Option, Some, None, option_map, Bool, true, false, Result, Ok, Err}
use Rattle.std.proofs.Common.{IfOk}
use Rattle.std.proofs.lemmas.Bool.{eqb-true}
use Rattle.std.proofs.lemmas.List.{append-nil, length-map}
use Rattle.pylex_lexeme.specs.declared.kinds.Exact.TheVariants.{LPar}
use Rattle.pyfstring.specs.declared.parts.Conversion.{Conversion}
use Rattle.pytree_node.specs.Trees
use Rattle.pytree_node.specs.Trees.{Expr, absent, present, exprs, optional}
use Rattle.pytree_node.specs.TreeOf.{tree_of, boxed_of}
use Rattle.pytree_node.specs.Values
use Rattle.pytree_node.specs.Values.{Value}
use Rattle.pytoken.specs.FormattedStrings.{text_points}
use Rattle.pytoken.specs.TerminalOf.{terminal, text_part}
use Rattle.pytoken.specs.Terminals.{Terminal, Op, Literal, FormattedBegin, FormattedEnd, FormattedText, FieldBegin, SpecBegin, FieldEnd}
use Rattle.pytoken.specs.declared.values.terminals.Terminal as given
use Rattle.pytoken.specs.declared.values.text_pieces.TextPiece.{TextPiece}
use Rattle.pygrammar.specs.declared.levels.Level.TheVariants.{Atom}
use Rattle.pygrammar.specs.Constants.{joined}
use Rattle.pygrammar.specs.FormattedStrings.{StringPart, Text, Field, merged, spec_values_of, text_of, texts_of, kind_of}
use Rattle.pygrammar.specs.FormattedStrings.{begins_unicode, has_formatted}
use Rattle.pygrammar.specs.Looks.{literal_in, text_in, conversion_in, is_formatted_begin}
use Rattle.pygrammar.specs.Reader.{Found, string_run}
use Rattle.pygrammar.proofs.Callers.Strings.{text_is, field_is, literal_is, value_is}
use Rattle.pyparse_nodes.specs.declared.found.JoinedValues.{JoinedValues}
use Rattle.pyparse_nodes.specs.declared.found.Optional.{Optional}
use Rattle.pyparse_nodes.specs.declared.found.Read.{Read}
use Rattle.pyparse_nodes.specs.declared.boundaries.FormattedPart.TheVariants as part
use Rattle.pyparse_nodes.specs.declared.stop.Stop.{Stop}
use Rattle.pyparse_nodes.specs.Answers.{Made, PartAt}
use Rattle.pyparse_nodes.specs.JoinedStates.{Gathers, IsNode, state, ended, gathered, state_of, step, steps}
use Rattle.pyparse_nodes.specs.Boundaries.{conversion_of, points_of}
use Rattle.pyparse_nodes.specs.Runs.{run}
use Rattle.pyparse_nodes.specs.Views.{Stands, seen, first_is}
use Rattle.pyparse_expr.specs.Inner.PlacedStrings.{RowGrows, PartsPlaced, FormattedPlaced, FieldPlaced, JoinedPlaced}
use Rattle.pyparse_expr.specs.Inner.Strings.{Lowers}
use Rattle.pyparse_expr.proofs.Formatted.LiteralRuns.{ran, bytes_run}
use Rattle.pyparse_expr.proofs.Formatted.Values.{joined_values, spec_values, steps_append}
use Rattle.pyparse_expr.proofs.Reader.Reading.{seen_length}
use Rattle.pyplaces.specs.ExpressionPlaces.{string_places}
use Rattle.pyplaces.specs.Placed.{Placed, PlacedFormatted, PlacedLiterals, PlacedSpec}
use Rattle.pyplaces.specs.Recording.{Records, Alike}
use Rattle.pyplaces.specs.RowEnds.{row_length}
use Rattle.pyplaces.specs.Rows.{RowSoFar, row_start, row_text, row_field, text_places}
use Rattle.pyplaces.specs.Stretches.{Stretch, stretch}
use Rattle.pyplaces.proofs.Answers.{placed_as, read_as, read_from, records_none, records_node, records_more}
use Rattle.pyplaces.proofs.Expressions.Strings.{placed_strings, placed_no_spec, placed_spec, placed_joined_string, placed_texts, parts_text}
use Rattle.pyplaces.proofs.Expressions.Strings.{parts_field, parts_end, literals_text, literals_formatted, literals_end}
use Rattle.pyplaces.proofs.Expressions.Strings.{placed_formatted_literal}
use Rattle.pyplaces.proofs.Loops.{Grows, grows_start, grows_turn}
use Rattle.pyplaces.proofs.RowEnds.{row_walk}
use Rattle.pyplaces.proofs.Rows.{row_end}

-- ---- What stands at a place.

-- a terminal of which a test tells what it is
front : {A : Type 0} (f : Terminal → Option A) (g : A → Terminal) → ((t : Terminal) (a : A) → f t ≡ Some a → t ≡ g a)
    → (ts : List given.Terminal) (n : ℕ) (a : A) → Some a ≡ first_is f (seen ts n) → seen ts n ≡ g a ∷ seen ts (n + 1)
front f g k ts n a h = go (seen ts n) h (drop-drop 1 n (map terminal ts))
  where
    go : (r : List Terminal) {s : List Terminal} → Some a ≡ first_is f r → drop 1 r ≡ s → r ≡ g a ∷ s
    go [] h q = absurd (cc)
    go (t ∷ r) h q = ap (λ z. z ∷ r) (k t a (sym h)) ∙ ap (λ z. g a ∷ z) q

-- no literal and no f-string: the row ends
pub row_ended : (r : List Terminal) → None ≡ first_is literal_in r → None ≡ first_is is_formatted_begin r → row_length 0 r ≡ 0
row_ended [] h k = refl
row_ended (Literal v ∷ r) h k = absurd (cc)
row_ended (FormattedBegin ∷ r) h k = absurd (cc)
row_ended (t ∷ r) h k = refl

-- the text of a state
state_text : (xs ys : List Expr) (s t : List ℕ) → state xs s ≡ state ys t → s ≡ t
state_text xs ys s t h = cc

-- ---- The places of a row, part by part.

row_as : {row : Stretch} {ss ss' : List StringPart} {fs fs' : List (List Stretch)} {t t' : List ℕ} {ds ds' : List Stretch}
    → ss' ≡ ss → fs' ≡ fs → t' ≡ t → ds' ≡ ds → RowSoFar row ss fs t ds → RowSoFar row ss' fs' t' ds'
row_as {row} {ss} {ss'} {fs} {fs'} {t} {t'} {ds} {ds'} a b c d r =
    subst (λ z. RowSoFar row z fs' t' ds') (sym a)
    (subst (λ z. RowSoFar row ss z t' ds') (sym b)
    (subst (λ z. RowSoFar row ss fs z ds') (sym c) (subst (λ z. RowSoFar row ss fs t z) (sym d) r)))

row_none : {row : Stretch} {t : List ℕ} → RowGrows row t [] [] t []
row_none = record { so = λ ss fs ds r. row_as (append-nil ss) (append-nil fs) refl (append-nil ds) r }

row_more : {row : Stretch} {a b c : List ℕ} {ss ts : List StringPart} {fs gs : List (List Stretch)} {ds es : List Stretch}
    → RowGrows row a ss fs b ds → RowGrows row b ts gs c es → RowGrows row a (ss ++ ts) (fs ++ gs) c (ds ++ es)
row_more {ss = ss} {ts = ts} {fs = fs} {gs = gs} {ds = ds} {es = es} h k = record {
  so = λ xs ys zs r. row_as (sym (append_assoc xs ss ts)) (sym (append_assoc ys fs gs)) refl (sym (append_assoc zs ds es))
      (k.so (xs ++ ss) (ys ++ fs) (zs ++ ds) (h.so xs ys zs r));
}

row_one_text : {row : Stretch} {t : List ℕ} (s : List ℕ) → RowGrows row t (Text s ∷ []) [] (t ++ s) []
row_one_text s = record { so = λ ss fs ds r. row_as refl (append-nil fs) refl (append-nil ds) (row_text s r) }

row_one_field : {row : Stretch} {t : List ℕ} (e : Expr) (f : List Stretch)
    → RowGrows row t (Field e ∷ []) (f ∷ []) [] (text_places row t ++ (f ++ (row ∷ [])))
row_one_field {row} {t} e f = record {
  so = λ ss fs ds r. row_as refl refl refl (sym (append_assoc ds (text_places row t) (f ++ (row ∷ [])))) (row_field e f r);
}

row_grows_as : {row : Stretch} {a b c d : List ℕ} {ss : List StringPart} {fs : List (List Stretch)} {ds : List Stretch} → c ≡ a → d ≡ b
    → RowGrows row a ss fs b ds → RowGrows row c ss fs d ds
row_grows_as {row} {a} {b} {c} {d} {ss} {fs} {ds} p q g =
    subst (λ z. RowGrows row z ss fs d ds) (sym p) (subst (λ z. RowGrows row a ss fs z ds) (sym q) g)

-- ---- The text after the last field.

no_text : (s : List ℕ) (b : Bool) → b ≡ (length s == 0) → b ≡ true → s ≡ []
no_text [] b q f = refl
no_text (c ∷ s) b q f = absurd (omega (arith, eqb-true (suc (length s)) 0 (sym q ∙ f)))

some_text : (s : List ℕ) (b : Bool) → b ≡ (length s == 0) → b ≡ false → s ≡ [] → ⊥
some_text [] b q f e = cc
some_text (c ∷ s) b q f e = cc

module _ {S : Type 0} {after : S → Stretch → S} where
  pub text_none : {u : S} (row : Stretch) (t s : List ℕ) (b : Bool) → b ≡ (length s == 0) → b ≡ true → s ≡ t
      → Records after u (text_places row t) u
  text_none {u} row t s b q f e =
      subst (λ z. Records after u (text_places row z) u) (sym (no_text s b q f) ∙ e) records_none

  pub text_some : {u v : S} (row : Stretch) (t s : List ℕ) (b : Bool) → b ≡ (length s == 0) → b ≡ false → s ≡ t → v ≡ after u row
      → Records after u (text_places row t) v
  text_some row [] s b q f e h = absurd (some_text s b q f e)
  text_some row (c ∷ t) s b q f e h = records_node h

-- ---- Parts, one after the other.

grows_as : {L : List Terminal → ℕ → List StringPart → List Terminal → ℕ → List (List Stretch) → Type 0} {i : List Terminal} {at n k : ℕ}
    {ss : List StringPart} {fs : List (List Stretch)} (ts : List given.Terminal) → k ≡ n → Grows L i at ss (seen ts n) n fs
    → Grows L i at ss (seen ts k) k fs
grows_as {L} {i} {at} {ss = ss} {fs = fs} ts q g = subst (λ z. Grows L i at ss (seen ts z) z fs) (sym q) g

module _ {S : Type 0} {after : S → Stretch → S} (ts : List given.Terminal) (u : Bool) (row : Stretch) where
  module _ {L : List Terminal → ℕ → List StringPart → List Terminal → ℕ → List (List Stretch) → Type 0} where
    pub parts_none : (b : JoinedValues) (x : S) → PartsPlaced after L ts u row b b x x
    parts_none b x = record {
      parts = [];
      fields = [];
      more = [];
      grows = grows_start;
      gives = refl;
      row_grows = row_none;
      records = records_none;
    }

    pub parts_then : {x y z : S} (a b c : JoinedValues) → PartsPlaced after L ts u row a b x y → PartsPlaced after L ts u row b c y z
        → PartsPlaced after L ts u row a c x z
    parts_then a b c h k = record {
      parts = h.parts ++ k.parts;
      fields = h.fields ++ k.fields;
      more = h.more ++ k.more;
      grows = grows_turn k.parts k.fields h.grows (λ ys s n gs l. k.grows.so ys s n gs l);
      gives = k.gives ∙ (ap (λ s. steps u s k.parts) h.gives ∙ sym (steps_append u (state_of a) h.parts k.parts));
      row_grows = row_more h.row_grows k.row_grows;
      records = records_more h.records k.records;
    }

  -- a text of an f-string
  pub text_placed : (p : TextPiece) (points : List ℕ) (b j : JoinedValues) (x : S) → points ≡ text_points (text_part p)
      → Gathers (step u (state_of b) (Text points)) (b.next + 1) j → points_of (Some (part.Text p)) ≡ first_is text_in (seen ts b.next)
      → PartsPlaced after (PlacedFormatted u row) ts u row b j x x
  text_placed p points b j x q g h =
      let y = text_points (text_part p) in
      let i = front text_in FormattedText text_is ts b.next y h in
      let e : state_of j ≡ step u (state_of b) (Text y) = g.is ∙ ap (λ z. step u (state_of b) (Text z)) q in
      record {
        parts = Text y ∷ [];
        fields = [];
        more = [];
        grows = grows_as ts g.next_is (parts_text grows_start i);
        gives = e;
        row_grows = row_grows_as refl (state_text _ _ j.text (b.text ++ y) e) (row_one_text y);
        records = records_none;
      }

  -- a field
  pub field_placed : {v w x y : S} {s : Stretch} (c : Conversion) (b j : JoinedValues) (f : Read) → Alike after s row
      → Records after v (text_places row b.text) w → FieldPlaced after ts u c row (b.next + 1) f w x → y ≡ after x s
      → Gathers (step u (state_of b) (Field (tree_of f.expr.value))) f.next j
      → conversion_of (Some (part.Field c)) ≡ first_is conversion_in (seen ts b.next)
      → PartsPlaced after (PlacedFormatted u row) ts u row b j v y
  field_placed {x = x} c b j f l t d n g h =
      let i = front conversion_in FieldBegin field_is ts b.next c h in
      let e : state_of j ≡ step u (state_of b) (Field (Trees.FormattedValue d.value c d.spec)) = g.is
      ∙ ap (λ z. step u (state_of b) (Field z)) d.tree in
      record {
        parts = Field (Trees.FormattedValue d.value c d.spec) ∷ [];
        fields = (d.ps ++ d.qs) ∷ [];
        more = text_places row b.text ++ ((d.ps ++ d.qs) ++ (row ∷ []));
        grows = grows_as ts (g.next_is ∙ d.next_is) (parts_field grows_start i d.value_placed d.opens.is d.spec_placed d.closes.is);
        gives = e;
        row_grows = row_grows_as refl (state_text _ _ j.text [] e)
            (row_one_field (Trees.FormattedValue d.value c d.spec) (d.ps ++ d.qs));
        records = records_more t (records_more d.records (records_node (n ∙ l.is x)));
      }

  -- an f-string
  pub formatted_placed : {x y : S} (b j r : JoinedValues) → PartsPlaced after (PlacedFormatted u row) ts u row b j x y
      → Stands FormattedEnd ts j.next → Gathers (state_of j) (j.next + 1) r → FormattedPlaced after ts u row b r x y
  formatted_placed b j r p s g = record {
    parts = p.parts;
    fields = p.fields;
    more = p.more;
    last = j.next;
    placed = parts_end p.grows;
    closes = s;
    next_is = g.next_is;
    gives = g.is ∙ p.gives;
    row_grows = row_grows_as refl (state_text _ _ r.text j.text g.is) p.row_grows;
    records = p.records;
  }

  -- a literal, and an f-string, of a row
  pub literal_placed : (v : Value) (points : List ℕ) (b j : JoinedValues) (x : S) → Some v ≡ first_is literal_in (seen ts b.next)
      → text_of v ≡ Some points → Gathers (step u (state_of b) (Text points)) (b.next + 1) j
      → PartsPlaced after (PlacedLiterals u row) ts u row b j x x
  literal_placed v points b j x h q g =
      let k = value_is v points q in
      let i = front literal_in Literal literal_is ts b.next v h ∙ ap (λ z. Literal z ∷ seen ts (b.next + 1)) k.1 in
      record {
        parts = Text points ∷ [];
        fields = [];
        more = [];
        grows = grows_as ts g.next_is (literals_text grows_start i);
        gives = g.is;
        row_grows = row_grows_as refl (state_text _ _ j.text (b.text ++ points) g.is) (row_one_text points);
        records = records_none;
      }

  pub string_placed : {x y : S} (b m r : JoinedValues) → Stands FormattedBegin ts b.next → Gathers (state_of b) (b.next + 1) m
      → FormattedPlaced after ts u row m r x y → PartsPlaced after (PlacedLiterals u row) ts u row b r x y
  string_placed b m r s g p =
      let d = subst (λ z. PlacedFormatted u row (seen ts z) z p.parts (seen ts p.last) p.last p.fields) g.next_is p.placed in
      record {
        parts = p.parts;
        fields = p.fields;
        more = p.more;
        grows = grows_as ts p.next_is (literals_formatted grows_start s.is d p.closes.is);
        gives = p.gives ∙ ap (λ z. steps u z p.parts) g.is;
        row_grows = row_grows_as (sym (state_text _ _ m.text b.text g.is)) refl p.row_grows;
        records = p.records;
      }

  -- a row, from its first f-string on
  pub joined_row : {v w x y : S} (b f j : JoinedValues) (r : Read) → FormattedPlaced after ts u row b f v w
      → PartsPlaced after (PlacedLiterals u row) ts u row f j w x → Records after x (text_places row j.text ++ (row ∷ [])) y
      → IsNode (Trees.JoinedStr (exprs (ended u (state_of j)))) j.next r → JoinedPlaced after ts u row b r v y
  joined_row {v = v} {y = y} b f j r p q t k =
      let l = literals_end q.grows in
      record {
        parts = p.parts ++ q.parts;
        fields = p.fields ++ q.fields;
        text = j.text;
        more = p.more ++ q.more;
        ahead = omega (arith, p.placed.ends, p.next_is, l.ends, k.next_is);
        placed = λ n e. read_as (seen ts) k.next_is (placed_formatted_literal refl
            (subst (λ z. PlacedFormatted u row (seen ts b.next) z p.parts (seen ts p.last) p.last p.fields) e p.placed) p.closes.is
            (read_from (seen ts) (sym p.next_is) l));
        row_grows = row_more p.row_grows q.row_grows;
        tree = k.tree ∙ ap (λ s. Trees.JoinedStr (exprs (ended u s))) (q.gives ∙ (ap (λ s. steps u s q.parts) p.gives
            ∙ sym (steps_append u (state_of b) p.parts q.parts)));
        records = subst (λ z. Records after v z y) (sym (append_assoc p.more q.more (text_places row j.text ++ (row ∷ []))))
            (records_more p.records (records_more q.records t));
      }

  -- where it ends
  pub joined_end : {v w x : S} (b f j : JoinedValues) → FormattedPlaced after ts u row b f v w
      → PartsPlaced after (PlacedLiterals u row) ts u row f j w x → row_length 0 (seen ts j.next) ≡ 0
      → b.next + row_length 1 (seen ts b.next) ≡ j.next
  joined_end b f j p q h = row_walk p.placed p.closes.is (read_from (seen ts) (sym p.next_is) (literals_end q.grows)) h

-- the same, with the row's end as it was sought
pub joined_placed : {S : Type 0} {after : S → Stretch → S} {y : S} (v w x : S) (ts : List given.Terminal) (u : Bool)
    (first following : ℕ) (b f j : JoinedValues) (r : Read)
    → ((k : ℕ) → Alike after (stretch k following) (stretch k (b.next + row_length 1 (seen ts b.next))))
    → ((row : Stretch) → Alike after (stretch first following) row → FormattedPlaced after ts u row b f v w)
    → ((row : Stretch) → Alike after (stretch first following) row → PartsPlaced after (PlacedLiterals u row) ts u row f j w x)
    → row_length 0 (seen ts j.next) ≡ 0
    → ((row : Stretch) → Alike after (stretch first following) row → Records after x (text_places row j.text ++ (row ∷ [])) y)
    → IsNode (Trees.JoinedStr (exprs (ended u (state_of j)))) j.next r → JoinedPlaced after ts u (stretch first r.next) b r v y
joined_placed {after = after} {y = y} v w x ts u first following b f j r l p q h t k =
    let row = stretch first (b.next + row_length 1 (seen ts b.next)) in
    let a = l first in
    let e = joined_end ts u row b f j (p row a) (q row a) h in
    subst (λ z. JoinedPlaced after ts u (stretch first z) b r v y) (e ∙ sym k.next_is)
    (joined_row ts u row b f j r (p row a) (q row a) (t row a) k)

-- ---- A field, and a format spec.

pub whole_field : {S : Type 0} {after : S → Stretch → S} {x y z : S} {ps qs : List Stretch} (ts : List given.Terminal) (u : Bool)
    (c : Conversion) (row : Stretch) (at : ℕ) (v : Read) (o : Optional) (r : Read) → Stands (Op LPar) ts at
    → Placed Atom (seen ts at) at (tree_of v.expr.value) (seen ts v.next) v.next ps → Records after x ps y
    → PlacedSpec u row (seen ts v.next) v.next (optional (boxed_of o.expr)) (seen ts o.next) o.next qs → Records after y qs z
    → Stands FieldEnd ts o.next
    → IsNode (Trees.FormattedValue (tree_of v.expr.value) c (optional (boxed_of o.expr))) (o.next + 1) r
    → FieldPlaced after ts u c row at r x z
whole_field {ps = ps} {qs = qs} ts u c row at v o r s p a q b f k = record {
  value = tree_of v.expr.value;
  spec = optional (boxed_of o.expr);
  middle = v.next;
  last = o.next;
  ps = ps;
  qs = qs;
  opens = s;
  value_placed = p;
  spec_placed = q;
  closes = f;
  tree = k.tree;
  next_is = k.next_is;
  records = records_more a b;
}

pub spec_none : (ts : List given.Terminal) (u : Bool) (row : Stretch) (at : ℕ)
    → PlacedSpec u row (seen ts at) at absent (seen ts at) at []
spec_none ts u row at = placed_no_spec

pub spec_placed : {S : Type 0} {after : S → Stretch → S} {x y z : S} (ts : List given.Terminal) (u : Bool) (row : Stretch) (at : ℕ)
    (b j : JoinedValues) (r : Read) → Stands SpecBegin ts at → state_of b ≡ state [] [] → b.next ≡ at + 1
    → PartsPlaced after (PlacedFormatted u row) ts u row b j x y → Records after y (text_places row j.text ++ (row ∷ [])) z
    → IsNode (Trees.JoinedStr (exprs (ended false (state_of j)))) j.next r
    → (ps : List Stretch) × PlacedSpec u row (seen ts at) at (present (tree_of r.expr.value)) (seen ts r.next) r.next ps
    × Records after x ps z
spec_placed {after = after} {x} {z = z} ts u row at b j r s e q p t k =
    let l = subst (λ n. PlacedFormatted u row (seen ts n) n p.parts (seen ts j.next) j.next p.fields) q (parts_end p.grows) in
    let g : state_of j ≡ gathered u p.parts = p.gives ∙ ap (λ n. steps u n p.parts) e in
    let tree : tree_of r.expr.value ≡ Trees.JoinedStr (spec_values_of u (merged p.parts)) = k.tree
    ∙ (ap (λ n. Trees.JoinedStr (exprs (ended false n))) g ∙ ap (λ n. Trees.JoinedStr n) (spec_values u p.parts)) in
    let so = row_end ((row_grows_as (sym (state_text _ _ b.text [] e)) refl p.row_grows).so [] [] [] row_start) in
    let d = read_as (seen ts) k.next_is (placed_spec s.is l) in (
      string_places row (merged p.parts) p.fields ++ (row ∷ []),
      subst (λ n. PlacedSpec u row (seen ts at) at (present n) (seen ts r.next) r.next
          (string_places row (merged p.parts) p.fields ++ (row ∷ [])))
          (sym tree) d,
      subst (λ n. Records after x (n ++ (row ∷ [])) z) (sym so)
          (subst (λ n. Records after x n z) (sym (append_assoc p.more (text_places row j.text) (row ∷ []))) (records_more p.records t)),
    )

-- ---- Whole rows.

-- what a row with an f-string is, once its parts are known
module _ {S : Type 0} {after : S → Stretch → S} where
  row_placed : {x y : S} {i : List Terminal} {fs : List (List Stretch)} {text : List ℕ} {more : List Stretch} (ts : List given.Terminal)
      (u : Bool) (from : ℕ) (ss : List StringPart) (r : Read)
      → (p : PlacedLiterals u (stretch from r.next) i from ss (seen ts r.next) r.next fs) → begins_unicode p.front ≡ u
      → has_formatted p.front ≡ true → RowSoFar (stretch from r.next) ss fs text more
      → tree_of r.expr.value ≡ Trees.JoinedStr (exprs (ended u (gathered u ss)))
      → Records after x (more ++ (text_places (stretch from r.next) text ++ (stretch from r.next ∷ []))) y
      → (ps : List Stretch) × Placed Atom i from (tree_of r.expr.value) (seen ts r.next) r.next ps × Records after x ps y
  row_placed {x} {y} {fs = fs} {text} {more} ts u from ss r p b f o t d =
      let row = stretch from r.next in (
        string_places row (merged ss) fs ++ (row ∷ []),
        placed_as (seen ts) (t ∙ ap (λ z. Trees.JoinedStr z) (joined_values u ss)) refl (placed_joined_string p b f),
        subst (λ z. Records after x (z ++ (row ∷ [])) y) (sym (row_end o))
            (subst (λ z. Records after x z y) (sym (append_assoc more (text_places row text) (row ∷ []))) d),
      )

-- a front of a list begins as the list does
front_first : (f : List Terminal) (t : Terminal) (r s : List Terminal) → t ∷ s ≡ f ++ r → 0 < length f
    → (g : List Terminal) × (f ≡ t ∷ g) × (s ≡ g ++ r)
front_first [] t r s h w = absurd (omega (arith, w))
front_first (x ∷ f) t r s h w = (f, cc, cc)

-- and has the f-string that stands after literals, if it is longer than those
front_formatted : (vs : List Value) (f r s : List Terminal) → map Literal vs ++ (FormattedBegin ∷ s) ≡ f ++ r → length vs < length f
    → has_formatted f ≡ true
front_formatted [] f r s h w = let g = front_first f FormattedBegin r s h w in ap has_formatted g.1
front_formatted (v ∷ vs) f r s h w =
    let g = front_first f (Literal v) r (map Literal vs ++ (FormattedBegin ∷ s)) h (omega (arith, w)) in
    ap has_formatted g.1 ∙ front_formatted vs g.0 r s g.2 (omega (arith, w, ap length g.1))

-- an f-string first
pub formatted_first : {S : Type 0} {after : S → Stretch → S} {x y : S} (ts : List given.Terminal) (from at : ℕ)
    (b : JoinedValues) (r : Read)
    → at ≡ from + 1 → b.next ≡ at → state_of b ≡ state [] [] → JoinedPlaced after ts false (stretch from r.next) b r x y
    → (ps : List Stretch) × Placed Atom (FormattedBegin ∷ seen ts at) from (tree_of r.expr.value) (seen ts r.next) r.next ps
    × Records after x ps y
formatted_first {after = after} {x} {y} ts from at b r q n e k =
    let p = k.placed from (n ∙ q) in
    let g = front_first p.front FormattedBegin (seen ts r.next) (seen ts b.next) p.is (omega (arith, p.ends, k.ahead, n, q)) in
    let o = (row_grows_as (sym (state_text _ _ b.text [] e)) refl k.row_grows).so [] [] [] row_start in
    let t = k.tree ∙ ap (λ s. Trees.JoinedStr (exprs (ended false (steps false s k.parts)))) e in
    subst (λ z. (ps : List Stretch) × Placed Atom (FormattedBegin ∷ seen ts z) from (tree_of r.expr.value) (seen ts r.next) r.next ps
    × Records after x ps y) n
    (row_placed ts false from k.parts r p (ap begins_unicode g.1) (ap has_formatted g.1) o t k.records)

-- ---- Literals first.

run_front : (acc : List Value) (r : List Terminal) (vs : List Value) (s : List Terminal) → string_run acc r ≡ Found vs s
    → (us : List Value) × (vs ≡ acc ++ us) × (r ≡ map Literal us ++ s)
run_front acc [] vs s h = ([], found_value acc vs [] s h ∙ sym (append-nil acc), found_rest acc vs [] s h)
  where
    found_value : (a b : List Value) (i j : List Terminal) → Found a i ≡ Found b j → b ≡ a
    found_value a b i j h = cc

    found_rest : (a b : List Value) (i j : List Terminal) → Found a i ≡ Found b j → i ≡ j
    found_rest a b i j h = cc
run_front acc (Literal v ∷ r) vs s h =
    let w = run_front (acc ++ (v ∷ [])) r vs s h in
    (v ∷ w.0, w.1 ∙ append_assoc acc (v ∷ []) w.0, ap (λ z. Literal v ∷ z) w.2)
run_front acc (t ∷ r) vs s h = ([], other_value acc vs (t ∷ r) s h ∙ sym (append-nil acc), other_rest acc vs (t ∷ r) s h)
  where
    other_value : (a b : List Value) (i j : List Terminal) → Found a i ≡ Found b j → b ≡ a
    other_value a b i j h = cc

    other_rest : (a b : List Value) (i j : List Terminal) → Found a i ≡ Found b j → i ≡ j
    other_rest a b i j h = cc

-- the literals after a first one, and where they end
record RunAt (ts : List given.Terminal) (v w : Value) (at n : ℕ) : Type 0 where
  values : List Value
  is : joined v values ≡ Some w
  stands : seen ts at ≡ map Literal values ++ seen ts n
  ends : at + length values ≡ n

run_at : (ts : List given.Terminal) (v w : Value) (at n : ℕ) → PartAt ts at (run v (seen ts at)) w n → RunAt ts v w at n
run_at ts v w at n p =
    let c = ran v w (seen ts at) (seen ts n) p.is in
    let f = run_front [] (seen ts at) c.values (seen ts n) c.run_is in
    let e : seen ts at ≡ map Literal c.values ++ seen ts n = f.2 ∙ ap (λ z. map Literal z ++ seen ts n) (sym f.1) in
    record {
      values = c.values;
      is = c.is;
      stands = e;
      ends = omega (
        arith,
        p.ahead,
        p.within,
        ap length e,
        length-append (map Literal c.values) (seen ts n),
        length-map c.values Literal,
        seen_length ts at,
        seen_length ts n,
      );
    }

-- no f-string among them
pub literals_alone : {S : Type 0} {after : S → Stretch → S} {x y : S} (ts : List given.Terminal) (v w : Value)
    (from at n room : ℕ) (r : Read)
    → PartAt ts at (run v (seen ts at)) w n → y ≡ after x (stretch from n) → Made room (Trees.Constant w) n r → at ≡ from + 1
    → (ps : List Stretch) × Placed Atom (Literal v ∷ seen ts at) from (tree_of r.expr.value) (seen ts r.next) r.next ps
    × Records after x ps y
literals_alone ts v w from at n room r p h m q =
    let c = run_at ts v w at n p in (
      stretch from n ∷ [],
      placed_as (seen ts) m.tree m.next_is (placed_strings c.values (ap (λ z. Literal v ∷ z) c.stands) c.is (omega (arith, q, c.ends))),
      records_node h,
    )

-- texts in front of an f-string
record TextsAt (row : Stretch) (u k : Bool) (t whole : List ℕ) (xs : List Expr) (vs : List Value) : Type 0 where
  parts : List StringPart
  texts : texts_of vs ≡ Some parts
  kind : k ≡ u
  row_grows : RowGrows row t parts [] whole []
  gives : steps u (state xs t) parts ≡ state xs whole

texts_at : (row : Stretch) (u k : Bool) (t whole : List ℕ) (xs : List Expr) (vs : List Value)
    → joined (Values.Str t k) vs ≡ Some (Values.Str whole u) → TextsAt row u k t whole xs vs
texts_at row u k t whole xs [] h =
    let e : t ≡ whole = same t whole k u h in
    let q : k ≡ u = kinds t whole k u h in
    record {
      parts = [];
      texts = refl;
      kind = q;
      row_grows = row_grows_as refl (sym e) row_none;
      gives = ap (λ z. state xs z) e;
    }
  where
    same : (a b : List ℕ) (c d : Bool) → Some (Values.Str a c) ≡ Some (Values.Str b d) → a ≡ b
    same a b c d h = cc

    kinds : (a b : List ℕ) (c d : Bool) → Some (Values.Str a c) ≡ Some (Values.Str b d) → c ≡ d
    kinds a b c d h = cc
texts_at row u k t whole xs (Values.Str s j ∷ vs) h =
    let c = texts_at row u k (t ++ s) whole xs vs h in
    record {
      parts = Text s ∷ c.parts;
      texts = ap (λ o. option_map (λ ps. Text s ∷ ps) o) c.texts;
      kind = c.kind;
      row_grows = row_more (row_one_text s) c.row_grows;
      gives = c.gives;
    }
texts_at row u k t whole xs (_ ∷ vs) h = absurd (cc)

-- of a first literal and the others
record TextsOf (row : Stretch) (u : Bool) (whole : List ℕ) (v : Value) (vs : List Value) : Type 0 where
  parts : List StringPart
  texts : texts_of (v ∷ vs) ≡ Some parts
  kind : kind_of v ≡ u
  row_grows : RowGrows row [] parts [] whole []
  gives : gathered u parts ≡ state [] whole

texts_first : (row : Stretch) (u : Bool) (whole : List ℕ) (v : Value) (vs : List Value) → joined v vs ≡ Some (Values.Str whole u)
    → TextsOf row u whole v vs
texts_first row u whole (Values.Str s k) vs h =
    let c = texts_at row u k s whole [] vs h in
    record {
      parts = Text s ∷ c.parts;
      texts = ap (λ o. option_map (λ ps. Text s ∷ ps) o) c.texts;
      kind = c.kind;
      row_grows = row_more (row_one_text s) c.row_grows;
      gives = c.gives;
    }
texts_first row u whole (Values.Bytes b) vs h = absurd (bytes_run b vs whole u h)
texts_first row u whole _ [] h = absurd (cc)
texts_first row u whole _ (w ∷ vs) h = absurd (cc)

pub literals_first : {S : Type 0} {after : S → Stretch → S} {x y : S} (ts : List given.Terminal) (v w : Value) (from at n : ℕ)
    (t : List ℕ) (u : Bool) (b : JoinedValues) (r : Read) → PartAt ts at (run v (seen ts at)) w n → w ≡ Values.Str t u
    → Stands FormattedBegin ts n → state_of b ≡ state [] t → b.next ≡ n + 1 → at ≡ from + 1
    → JoinedPlaced after ts u (stretch from r.next) b r x y
    → (ps : List Stretch) × Placed Atom (Literal v ∷ seen ts at) from (tree_of r.expr.value) (seen ts r.next) r.next ps
    × Records after x ps y
literals_first {after = after} {x} {y} ts v w from at n t u b r p e s g m q k =
    let c = run_at ts v w at n p in
    let row = stretch from r.next in
    let d = texts_first row u t v c.values (c.is ∙ ap (λ z. Some z) e) in
    let i : Literal v ∷ seen ts at ≡ map Literal (v ∷ c.values) ++ (FormattedBegin ∷ seen ts b.next) =
    ap (λ z. Literal v ∷ z) (c.stands ∙ ap (λ z. map Literal c.values ++ z) (s.is ∙ ap (λ z. FormattedBegin ∷ seen ts z) (sym m))) in
    let l = placed_texts (v ∷ c.values) d.parts (Literal v ∷ seen ts at) from d.texts i (omega (arith, q, c.ends)) (k.placed n m) in
    let f = front_first l.front (Literal v) (seen ts r.next) (seen ts at) l.is (omega (arith, l.ends, k.ahead, m, q, c.ends)) in
    let h = front_formatted (v ∷ c.values) l.front (seen ts r.next) (seen ts b.next) (sym i ∙ l.is)
    (omega (arith, l.ends, k.ahead, m, q, c.ends)) in
    let o = (row_more d.row_grows (row_grows_as (sym (state_text _ _ b.text t g)) refl k.row_grows)).so [] [] [] row_start in
    let z = k.tree ∙ ap (λ a. Trees.JoinedStr (exprs (ended u a)))
    (ap (λ a. steps u a k.parts) (g ∙ sym d.gives) ∙ sym (steps_append u (state [] []) d.parts k.parts)) in
    row_placed ts u from (d.parts ++ k.parts) r l (ap begins_unicode f.1 ∙ d.kind) h o z k.records

-- no higher than the room
pub lowered_placed : {S : Type 0} {after : S → Stretch → S} {x y : S} (ts : List given.Terminal) (room from : ℕ)
    (i : List Terminal) (e : Read)
    (z : Result Read Stop) → Lowers room e z
    → (ps : List Stretch) × Placed Atom i from (tree_of e.expr.value) (seen ts e.next) e.next ps × Records after x ps y
    → IfOk z (λ r. (ps : List Stretch) × Placed Atom i from (tree_of r.expr.value) (seen ts r.next) r.next ps × Records after x ps y)
lowered_placed {after = after} {x} {y} ts room from i e (Ok r) l p =
    subst (λ z. (ps : List Stretch) × Placed Atom i from (tree_of z.expr.value) (seen ts z.next) z.next ps × Records after x ps y)
    (sym l.same) p
lowered_placed ts room from i e (Err s) l p = tt
