-- The places of a line, by what begins it.
--
-- Carries: fronts.rt, matches.rt, read_line. On: Openings; Lines of pyplaces.
use Rattle.std.proofs.Common.{◌≡◌, refl, sym, ap, subst, ◌∙◌, arith, ℕ, ◌+◌, List, [], ◌∷◌, ◌++◌, length, map, Option, Some, None}
use Rattle.std.proofs.Common.{Bool}
use Rattle.std.proofs.Common.{true, false, cond, append_assoc, append-nil, Result, Ok, Err}
use Rattle.std.proofs.lemmas.List.{length-map, drop_all}
use Rattle.std.proofs.lemmas.Slice.Eq.{bytes_eq-Decides}
use Rattle.std.specs.Prelude.{IfOk, ◌&&◌}
use Rattle.std.specs.Str.{bytes_eq}
use Rattle.pylex_lexeme.specs.declared.kinds.Exact.{Exact}
use Rattle.pylex_lexeme.specs.declared.kinds.Exact.TheVariants as Sign
use Rattle.pytree_node.specs.declared.profiles.Profile.{Profile}
use Rattle.pytree_node.specs.Trees.{Identifier, Stmt}
use Rattle.pytree_node.specs.TreeOf.{stmt_of, tree_of}
use Rattle.pytoken.specs.declared.keywords.Keyword.{Keyword}
use Rattle.pytoken.specs.declared.keywords.Keyword.TheVariants as Key
use Rattle.pytoken.specs.Terminals.{Ident, Op, Spelled, Terminal, Word}
use Rattle.pytoken.specs.declared.values.terminals.Terminal as given
use Rattle.pytoken.specs.TerminalOf.{terminal}
use Rattle.pygrammar.specs.declared.levels.Level.TheVariants.{Named, Subject}
use Rattle.pygrammar.specs.FormOf.{form_of, header_of, suite_of}
use Rattle.pygrammar.specs.Forms as F
use Rattle.pygrammar.specs.Forms.{begins_case, case_name, case_word, is_case_line, is_whole, match_name, match_word}
use Rattle.pygrammar.specs.LineReader.{ends_in_colon, is_match, is_match_line}
use Rattle.pygrammar.specs.Lines.{Form, Header, decorator_form, header_form, match_header, simple_form}
use Rattle.pyparse_nodes.specs.declared.found.Read.{Read}
use Rattle.pyparse_nodes.specs.declared.stop.Stop.{Stop}
use Rattle.pyparse_nodes.specs.Views.{Stands, first_of, seen}
use Rattle.pyparse_reads.proofs.Callers.Looks.{front}
use Rattle.pyplaces.specs.FormPlaces.{FormPlaces, form_places, places_at, plain_header}
use Rattle.pyplaces.specs.Placed.{Placed}
use Rattle.pyplaces.specs.PlacedForms.{PlacedCase, PlacedForm, PlacedHeader, PlacedLine, PlacedSimples}
use Rattle.pyplaces.specs.Recording.{Records, afters}
use Rattle.pyplaces.specs.Stretches.{Stretch}
use Rattle.pyplaces.proofs.Answers.{records_more, records_none}
use Rattle.pyplaces.proofs.Forms.Lines.{placed_case_alone, placed_case_suite, placed_decorator_line, placed_header_line}
use Rattle.pyplaces.proofs.Forms.Lines.{placed_header_suite}
use Rattle.pyplaces.proofs.Forms.Lines.{placed_match_line, placed_other_line, placed_simple_statements}
use Rattle.pyparse_line.specs.declared.found.ReadForm.{ReadForm}
use Rattle.pyparse_line.specs.declared.found.ReadSuite.{ReadSuite}
use Rattle.pyparse_statement.specs.declared.headers.found.ReadHeader.{ReadHeader}
use Rattle.pyparse_line.specs.declared.openings.Opening.{Opening}
use Rattle.pyparse_line.specs.declared.openings.Opening.TheVariants as kind
use Rattle.pyparse_statement.specs.declared.statements.found.ReadStatements.{ReadStatements}
use Rattle.pyparse_line.specs.Inner.Openings.{opening_at, terminal_opening}
use Rattle.pyparse_line.specs.Inner.Placed.{CasePlaced, ColonPlaced, FormPlaced, LinePlaced, PlacedSuite}
use Rattle.pyparse_statement.specs.PlacedHeaders.{HeaderPlaced}
use Rattle.pyparse_line.specs.Inner.Placed.{SuitePlaced, no_suite, some_suite}
use Rattle.pyparse_statement.specs.PlacedStatements.{SimplesPlaced}
use Rattle.pyparse_statement.proofs.Callers.Looks.{moved}

-- nothing is left at the end
pub seen_end : (ts : List given.Terminal) (n : ℕ) → n ≡ length ts → seen ts n ≡ []
seen_end ts n q = drop_all n (map terminal ts) (omega (arith, q, length-map ts terminal))

-- ---- What begins the line.
begins : (profile : Profile) (inside : Bool) (i : List Terminal) (t : Terminal) (r : List Terminal) (o : Opening) → i ≡ t ∷ r
    → o ≡ opening_at profile inside i
    → o ≡ cond (is_case_line profile inside i) kind.Cases (cond (is_match_line profile i) kind.Matches (terminal_opening t))
begins profile inside i t r o q h = h ∙ (ap (opening_at profile inside) q ∙ ap (λ z. cond (is_case_line profile inside z) kind.Cases
    (cond (is_match_line profile z) kind.Matches (terminal_opening t))) (sym q))

-- anything but a case
abbrev pub plain : Opening → Type 0
plain kind.Cases = ⊥
plain _ = Unit {0}

no_case : (b : Bool) (o x : Opening) → plain o → o ≡ cond b kind.Cases x → b ≡ false
no_case false o x p h = refl
no_case true o x p h = absurd (subst plain h p)

a_case : (b m : Bool) (t : Terminal) → kind.Cases ≡ cond b kind.Cases (cond m kind.Matches (terminal_opening t)) → b ≡ true
a_case true m t h = refl
a_case false true t h = absurd (cc)
a_case false false t h = absurd (never t h)
  where
    word : (w : Keyword) → kind.Cases ≡ terminal_opening (Word w) → ⊥
    word Key.If h = absurd (cc)
    word Key.Elif h = absurd (cc)
    word Key.Else h = absurd (cc)
    word Key.While h = absurd (cc)
    word Key.For h = absurd (cc)
    word Key.With h = absurd (cc)
    word Key.Try h = absurd (cc)
    word Key.Finally h = absurd (cc)
    word Key.Except h = absurd (cc)
    word Key.Def h = absurd (cc)
    word Key.Class h = absurd (cc)
    word Key.Async h = absurd (cc)
    word _ h = absurd (cc)

    sign : (x : Exact) → kind.Cases ≡ terminal_opening (Op x) → ⊥
    sign Sign.At h = absurd (cc)
    sign _ h = absurd (cc)

    never : (t : Terminal) → kind.Cases ≡ terminal_opening t → ⊥
    never (Word w) h = word w h
    never (Op x) h = sign x h
    never _ h = absurd (cc)

a_match : (b m : Bool) (t : Terminal) → kind.Matches ≡ cond b kind.Cases (cond m kind.Matches (terminal_opening t)) → m ≡ true
a_match true m t h = absurd (cc)
a_match false true t h = refl
a_match false false t h = absurd (never t h)
  where
    word : (w : Keyword) → kind.Matches ≡ terminal_opening (Word w) → ⊥
    word Key.If h = absurd (cc)
    word Key.Elif h = absurd (cc)
    word Key.Else h = absurd (cc)
    word Key.While h = absurd (cc)
    word Key.For h = absurd (cc)
    word Key.With h = absurd (cc)
    word Key.Try h = absurd (cc)
    word Key.Finally h = absurd (cc)
    word Key.Except h = absurd (cc)
    word Key.Def h = absurd (cc)
    word Key.Class h = absurd (cc)
    word Key.Async h = absurd (cc)
    word _ h = absurd (cc)

    sign : (x : Exact) → kind.Matches ≡ terminal_opening (Op x) → ⊥
    sign Sign.At h = absurd (cc)
    sign _ h = absurd (cc)

    never : (t : Terminal) → kind.Matches ≡ terminal_opening t → ⊥
    never (Word w) h = word w h
    never (Op x) h = sign x h
    never _ h = absurd (cc)

an_at : (b m : Bool) (t : Terminal) → kind.Decorates ≡ cond b kind.Cases (cond m kind.Matches (terminal_opening t)) → t ≡ Op Sign.At
an_at true m t h = absurd (cc)
an_at false true t h = absurd (cc)
an_at false false t h = only t h
  where
    word : (w : Keyword) → kind.Decorates ≡ terminal_opening (Word w) → ⊥
    word Key.If h = absurd (cc)
    word Key.Elif h = absurd (cc)
    word Key.Else h = absurd (cc)
    word Key.While h = absurd (cc)
    word Key.For h = absurd (cc)
    word Key.With h = absurd (cc)
    word Key.Try h = absurd (cc)
    word Key.Finally h = absurd (cc)
    word Key.Except h = absurd (cc)
    word Key.Def h = absurd (cc)
    word Key.Class h = absurd (cc)
    word Key.Async h = absurd (cc)
    word _ h = absurd (cc)

    sign : (x : Exact) → kind.Decorates ≡ terminal_opening (Op x) → Op x ≡ Op Sign.At
    sign Sign.At h = refl
    sign _ h = absurd (cc)

    only : (t : Terminal) → kind.Decorates ≡ terminal_opening t → t ≡ Op Sign.At
    only (Word w) h = absurd (word w h)
    only (Op x) h = sign x h
    only _ h = absurd (cc)

both_true : (a b : Bool) → a && b ≡ true → (a ≡ true) × (b ≡ true)
both_true true b h = (refl, h)
both_true false b h = absurd (cc)

spelled : (x : Spelled) (name : Identifier) → bytes_eq x.spelling name ≡ true
    → Ident x ≡ Ident (record { spelling = name; form = x.form })
spelled x name h = ap (λ z. Ident (record { spelling = z; form = x.form })) ((bytes_eq-Decides x.spelling name).0 h)

-- a NAME that is spelled so stands first
pub record SpeltAt (word : Identifier → Terminal) (profile : Profile) (i r : List Terminal) : Type 0 where
  pub whole : is_whole profile.extent ≡ true
  pub form : Identifier
  pub is : i ≡ word form ∷ r

case_first : (i : List Terminal) (t : Terminal) (r : List Terminal) → i ≡ t ∷ r → begins_case i ≡ true
    → (form : Identifier) × (i ≡ case_word form ∷ r)
case_first i t r q h = go t q (sym (ap begins_case q) ∙ h)
  where
    go : (u : Terminal) → i ≡ u ∷ r → begins_case (u ∷ r) ≡ true → (form : Identifier) × (i ≡ case_word form ∷ r)
    go (Ident x) q h = (x.form, q ∙ ap (λ z. z ∷ r) (spelled x case_name h))
    go _ q h = absurd (cc)

match_first : (t : Terminal) → is_match t ≡ true → (form : Identifier) × (t ≡ match_word form)
match_first (Ident x) h = (x.form, spelled x match_name h)
match_first _ h = absurd (cc)

module _ (profile : Profile) (inside : Bool) (ts : List given.Terminal) (t : Terminal) (f : first_of (seen ts 0) ≡ Some t) where
  first : seen ts 0 ≡ t ∷ seen ts 1
  first = front ts 0 t f

  -- no case
  pub other : (o : Opening) → plain o → o ≡ opening_at profile inside (seen ts 0) → is_case_line profile inside (seen ts 0) ≡ false
  other o p h = no_case (is_case_line profile inside (seen ts 0)) o _ p (begins profile inside (seen ts 0) t (seen ts 1) o first h)

  pub decorates : kind.Decorates ≡ opening_at profile inside (seen ts 0) → seen ts 0 ≡ Op Sign.At ∷ seen ts 1
  decorates h =
      let b = begins profile inside (seen ts 0) t (seen ts 1) kind.Decorates first h in
      first ∙ ap (λ z. z ∷ seen ts 1) (an_at (is_case_line profile inside (seen ts 0)) (is_match_line profile (seen ts 0)) t b)

  pub cases : kind.Cases ≡ opening_at profile inside (seen ts 0) → (inside ≡ true) × SpeltAt case_word profile (seen ts 0) (seen ts 1)
  cases h =
      let b = begins profile inside (seen ts 0) t (seen ts 1) kind.Cases first h in
      let c = both_true (is_whole profile.extent) (inside && begins_case (seen ts 0))
      (a_case (is_case_line profile inside (seen ts 0)) (is_match_line profile (seen ts 0)) t b) in
      let d = both_true inside (begins_case (seen ts 0)) c.1 in
      let e = case_first (seen ts 0) t (seen ts 1) first d.1 in
      (d.0, record { whole = c.0; form = e.0; is = e.1 })

  pub matches : kind.Matches ≡ opening_at profile inside (seen ts 0) → SpeltAt match_word profile (seen ts 0) (seen ts 1)
  matches h =
      let b = begins profile inside (seen ts 0) t (seen ts 1) kind.Matches first h in
      let m = a_match (is_case_line profile inside (seen ts 0)) (is_match_line profile (seen ts 0)) t b in
      let c = both_true (is_whole profile.extent) (is_match t && ends_in_colon (seen ts 1))
      (sym (ap (is_match_line profile) first) ∙ m) in
      let d = both_true (is_match t) (ends_in_colon (seen ts 1)) c.1 in
      let e = match_first t d.0 in
      record { whole = c.0; form = e.0; is = first ∙ ap (λ z. z ∷ seen ts 1) e.1 }

-- ---- Suites.
module _ {S : Type 0} {after : S → Stretch → S} {ts : List given.Terminal} {profile : Profile} where
  pub no_suite_placed : {at : ℕ} {u : S} {r : ReadSuite} → at ≡ length ts → suite_of r.statements ≡ None → r.next ≡ at
      → SuitePlaced after profile ts at u u r
  no_suite_placed {at} {r = r} w h q =
      let e = seen_end ts at w in
      record {
        places = [];
        suite = moved (seen ts) (λ y s n. PlacedSuite profile (seen ts at) at y s n []) h q
            (subst (λ i. PlacedSuite profile i at None i at []) (sym e) no_suite);
        records = records_none;
      }

  pub some_suite_placed : {at : ℕ} {u v : S} {ss : ReadStatements} {r : ReadSuite} → SimplesPlaced after profile ts at u v ss
      → suite_of r.statements ≡ Some (map stmt_of ss.statements.items) → r.next ≡ ss.next → SuitePlaced after profile ts at u v r
  some_suite_placed {at} p h q = record {
    places = p.places;
    suite = moved (seen ts) (λ y s n. PlacedSuite profile (seen ts at) at y s n p.places) h q (some_suite p.simples);
    records = p.records;
  }

module _ {S : Type 0} (after : S → Stretch → S) (profile : Profile) (u v : S) where
  pub colon_placed : {ts : List given.Terminal} {at : ℕ} (z : Result ReadSuite Stop) → Stands (Op Sign.Colon) ts at
      → IfOk z (SuitePlaced after profile ts (at + 1) u v) → IfOk z (ColonPlaced after profile ts at u v)
  colon_placed (Ok r) s p = record { colon = s; suite = p }
  colon_placed (Err o) s p = tt

-- a header and its suite make a line
headed_line : {profile : Profile} {i r s rest : List Terminal} {m n : ℕ} {h : Header} {b c : List Stretch} {so : Option (List Stmt)}
    {ps : List Stretch} → PlacedHeader profile i 0 h r m (form_places b c []) → r ≡ Op Sign.Colon ∷ s
    → PlacedSuite profile s (m + 1) so rest n ps → rest ≡ [] → PlacedLine profile i (header_form h so) (form_places b c ps)
headed_line p q no_suite e = placed_header_line p q
headed_line {profile} {s = s} {m = m} {n = n} {ps = ps} p q (some_suite {ss = ss} c) e =
    placed_header_suite p q (subst (λ z. PlacedSimples profile s (m + 1) ss z n ps) e c)

cased_line : {profile : Profile} {i r s rest : List Terminal} {m n : ℕ} {h : Header} {b : List Stretch} {so : Option (List Stmt)}
    {ps : List Stretch} → is_whole profile.extent ≡ true → PlacedCase i 0 h r m (form_places b [] []) → r ≡ Op Sign.Colon ∷ s
    → PlacedSuite profile s (m + 1) so rest n ps → rest ≡ [] → PlacedForm profile true i (header_form h so) (form_places b [] ps)
cased_line w p q no_suite e = placed_case_alone w p q
cased_line {profile} {s = s} {m = m} {n = n} {ps = ps} w p q (some_suite {ss = ss} c) e =
    placed_case_suite w p q (subst (λ z. PlacedSimples profile s (m + 1) ss z n ps) e c)

-- ---- Lines.
module _ {S : Type 0} {after : S → Stretch → S} {count : S → ℕ} {ts : List given.Terminal} {profile : Profile} where
  -- with nothing but what stands before the body
  plain_line : {n : ℕ} {f : Form} {ps : List Stretch} {u v : S} {r : ReadForm}
      → (seen ts n ≡ [] → PlacedLine profile (seen ts 0) f (plain_header ps)) → Records after u ps v → form_of r.form ≡ f → r.next ≡ n
      → r.before ≡ count v → r.following ≡ count v → LinePlaced after count profile ts u v r
  plain_line {ps = ps} {u} l k h q b c = record {
    places = plain_header ps;
    line = λ e. subst (λ y. PlacedLine profile (seen ts 0) y (plain_header ps)) (sym h) (l (ap (λ m. seen ts m) (sym q) ∙ e));
    before_is = b ∙ ap count k.is;
    after_is = c ∙ ap count (k.is ∙ ap (λ l. afters after u l) (sym (append-nil ps)));
    records = record { is = k.is ∙ ap (λ l. afters after u l) (sym (append-nil ps)) };
  }

  pub decorator_placed : {ps : List Stretch} {u v : S} {r : ReadForm} (e : Read)
      → Placed Named (seen ts 1) 1 (tree_of e.expr.value) (seen ts e.next) e.next ps → Records after u ps v
      → form_of r.form ≡ decorator_form (tree_of e.expr.value) → r.next ≡ e.next → r.before ≡ count v → r.following ≡ count v
      → seen ts 0 ≡ Op Sign.At ∷ seen ts 1 → LinePlaced after count profile ts u v r
  decorator_placed {ps = ps} e p k h q b c s = plain_line
      (λ z. placed_decorator_line s (subst (λ i. Placed Named (seen ts 1) 1 (tree_of e.expr.value) i e.next ps) z p)) k h q b c

  pub match_placed : {at : ℕ} {ps : List Stretch} {u v : S} {r : ReadForm} (e : Read)
      → Placed Subject (seen ts at) at (tree_of e.expr.value) (seen ts e.next) e.next ps → Records after u ps v
      → Stands (Op Sign.Colon) ts e.next → form_of r.form ≡ header_form (match_header (tree_of e.expr.value)) None → r.next ≡ e.next + 1
      → r.before ≡ count v → r.following ≡ count v → (form : Identifier) → is_whole profile.extent ≡ true → at ≡ 1
      → seen ts 0 ≡ match_word form ∷ seen ts at → LinePlaced after count profile ts u v r
  match_placed {at} {ps} e p k c h q b d form w a s = plain_line
      (λ z. placed_match_line w (s ∙ ap (λ n. match_word form ∷ seen ts n) a)
      (subst (λ n. Placed Subject (seen ts n) n (tree_of e.expr.value) (seen ts e.next) e.next ps) a p)
      (c.is ∙ ap (λ i. Op Sign.Colon ∷ i) z)) k h q b d

  pub simple_placed : {u v : S} {ss : ReadStatements} {r : ReadForm} → SimplesPlaced after profile ts 0 u v ss
      → form_of r.form ≡ simple_form (map stmt_of ss.statements.items) → r.next ≡ ss.next → r.before ≡ count u → r.following ≡ count u
      → LinePlaced after count profile ts u v r
  simple_placed {ss = ss} p h q b c = record {
    places = form_places [] [] p.places;
    line = λ e. subst (λ y. PlacedLine profile (seen ts 0) y (form_places [] [] p.places)) (sym h) (placed_simple_statements
        (subst (λ i. PlacedSimples profile (seen ts 0) 0 (map stmt_of ss.statements.items) i ss.next p.places)
        (ap (λ m. seen ts m) (sym q) ∙ e) p.simples));
    before_is = b;
    after_is = c;
    records = p.records;
  }

  pub headed_placed : {u v w : S} {header : ReadHeader} {suite : ReadSuite} {r : ReadForm} (following : ℕ)
      → HeaderPlaced after count profile ts 0 u v header → following ≡ count v → ColonPlaced after profile ts header.next v w suite
      → form_of r.form ≡ header_form (header_of header.header) (suite_of suite.statements) → r.next ≡ suite.next
      → r.before ≡ header.before → r.following ≡ following → LinePlaced after count profile ts u w r
  headed_placed {u} {w = w} following p d c h q a b =
      let f = form_places p.before p.following c.suite.places in
      record {
        places = f;
        line = λ e. subst (λ y. PlacedLine profile (seen ts 0) y f) (sym h)
            (headed_line (p.header _ c.colon.is) c.colon.is c.suite.suite (ap (λ m. seen ts m) (sym q) ∙ e));
        before_is = a ∙ p.before_is;
        after_is = b ∙ (d ∙ ap count p.records.is);
        records = subst (λ l. Records after u l w) (append_assoc p.before p.following c.suite.places)
            (records_more p.records c.suite.records);
      }

  pub case_line_placed : {u v w : S} {header : ReadHeader} {suite : ReadSuite} {r : ReadForm} (following : ℕ)
      → CasePlaced after count ts 0 u v header → following ≡ count v → ColonPlaced after profile ts header.next v w suite
      → form_of r.form ≡ header_form (header_of header.header) (suite_of suite.statements) → r.next ≡ suite.next
      → r.before ≡ header.before → r.following ≡ following → is_whole profile.extent ≡ true → FormPlaced after count profile true ts u w r
  case_line_placed {u} following p d c h q a b x =
      let f = form_places p.before [] c.suite.places in
      record {
        places = f;
        form = λ e. subst (λ y. PlacedForm profile true (seen ts 0) y f) (sym h)
            (cased_line x p.header c.colon.is c.suite.suite (ap (λ m. seen ts m) (sym q) ∙ e));
        before_is = a ∙ p.before_is;
        after_is = b ∙ (d ∙ ap count (p.records.is ∙ ap (λ l. afters after u l) (sym (append-nil p.before))));
        records = records_more p.records c.suite.records;
      }

  -- the whole line
  pub whole_placed : {inside : Bool} {u v : S} (r : ReadForm) → FormPlaced after count profile inside ts u v r → r.next ≡ length ts
      → (d : F.FormAt profile inside (map terminal ts) (form_of r.form)) × (r.before ≡ count (afters after u (places_at d).before)) ×
      (r.following ≡ count (afters after u ((places_at d).before ++ (places_at d).following))) ×
      Records after u ((places_at d).before ++ ((places_at d).following ++ (places_at d).suite)) v
  whole_placed {u = u} {v} r p q =
      let w = p.form (seen_end ts r.next q) in
      let e : p.places ≡ places_at w.derived = sym w.places_are in (
        w.derived,
        p.before_is ∙ ap (λ f. count (afters after u f.before)) e,
        p.after_is ∙ ap (λ f. count (afters after u (f.before ++ f.following))) e,
        subst (λ (f : FormPlaces). Records after u (f.before ++ (f.following ++ f.suite)) v) e p.records,
      )

-- at its place
module _ {S : Type 0} (after : S → Stretch → S) (count : S → ℕ) (ts : List given.Terminal) (profile : Profile) (inside : Bool)
    (u v : S) where
  pub other_placed : (z : Result ReadForm Stop) → is_case_line profile inside (seen ts 0) ≡ false
      → IfOk z (LinePlaced after count profile ts u v) → IfOk z (FormPlaced after count profile inside ts u v)
  other_placed (Ok r) n p = record {
    places = p.places;
    form = λ e. placed_other_line n (p.line e);
    before_is = p.before_is;
    after_is = p.after_is;
    records = p.records;
  }
  other_placed (Err o) n p = tt

  pub inside_placed : (z : Result ReadForm Stop) → inside ≡ true
      → IfOk z (FormPlaced after count profile true ts u v) → IfOk z (FormPlaced after count profile inside ts u v)
  inside_placed z q p = subst (λ b. IfOk z (FormPlaced after count profile b ts u v)) (sym q) p
