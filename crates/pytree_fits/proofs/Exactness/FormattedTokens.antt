-- Carries: the laws by tokens. On: an f-string without a fault stands for terminals that pass.
use Rattle.std.proofs.Common.{◌≡◌, refl, sym, ap, subst, ◌∙◌, ℕ, zero, suc, ◌-◌, arith, List, [], ◌∷◌, ◌++◌, Option, Some, None, Bool, true}
use Rattle.std.proofs.Common.{false}
use Rattle.std.proofs.Common.{cond}
use Rattle.std.specs.Prelude.{◌&&◌, ◌==◌, not, if◌then◌else◌}
use Rattle.std.specs.List.{list_all, list_any, flat_map}
use Rattle.std.specs.Str.{all_scalars}
use Rattle.std.proofs.Math.Utf8.{scalar}
use Rattle.std.proofs.lemmas.Bool.{and_from, or_parts}
use Rattle.std.proofs.lemmas.List.Folds.{list_any-append}
use Rattle.std.proofs.lemmas.Grind.{flat_map-append}
use Rattle.pyfstring.specs.Expressions.{following_expression}
use Rattle.pyfstring.specs.Singles.{single}
use Rattle.pyfstring.specs.Texts.{after_text, is_literal_char}
use Rattle.pyfstring_tokens.specs.FieldTokens.{is_gap}
use Rattle.pylex_lexeme.specs.declared.kinds.Exact.TheVariants.{LPar, RPar}
use Rattle.pylex_lexeme.specs.declared.lexeme.Class.{Class}
use Rattle.pylex_lexeme.specs.declared.lexeme.Class.TheVariants as classes
use Rattle.pylex_listing.specs.declared.kind.Kind.{Kind}
use Rattle.pylex_listing.specs.declared.kind.Kind.TheVariants as kinds
use Rattle.pylex_listing.specs.EntryKinds.{kind_of}
use Rattle.pytree_node.specs.declared.profiles.Extent.TheVariants.{Whole}
use Rattle.pytoken.specs.Escapes.{meanings, points_in}
use Rattle.pytoken.specs.StringValues.{with_line_feeds, is_quote, body_of, string_value, string_fault}
use Rattle.pytoken.specs.FormattedStrings.{Element, End, text_meanings, text_points, is_fstring, is_bulky, is_field_of}
use Rattle.pytoken.specs.FormattedStrings.{elements_of}
use Rattle.pytoken.specs.FormattedStrings.{elements_fault}
use Rattle.pytoken.specs.Terminals.{Terminal, Literal, FormattedBegin, FormattedEnd, FormattedText, FieldBegin, SpecBegin, FieldEnd}
use Rattle.pytoken.specs.Terminals.{element_terminals, elements_terminals, terminal_of, terminals_by, terminals_of, single_fault, fault_by}
use Rattle.pytoken.specs.Terminals.{fault_of}
use Rattle.pytoken.specs.Terminals.{field_fault, nested_expression, expression, is_nested_faulty, is_faulty}
use Rattle.pytoken.proofs.Callers.Bodies.{body_all}
use Rattle.pygrammar.specs.OpenStrings.{Open}
use Rattle.pyunparse_text.proofs.Callers.Strings.{Laid, nothing, a_text, kept_text, a_spec, a_field, at_top, LaidIf, all_laid}
use Rattle.pyunparse_text.proofs.Callers.Strings.{no_field_wrong}
use Rattle.pyunparse_text.proofs.Callers.Strings.{no_nul_in, field_faultless, OfClass, of_class, no_string, whole_field, is_no_backslash}
use Rattle.pyunparse_text.proofs.Callers.Strings.{expression_calm, weaker, joined, kept_all, kept_pass, points_kept, single_kept, unbraced}
use Rattle.pyunparse_text.proofs.Callers.Strings.{is_calm, is_open, is_flat, flat_scalar, flat_calm, flat_unquoted, open_body, no_nuls}
use Rattle.pyunparse_text.proofs.Callers.Said.{brackets_are, outer_points}
use Rattle.pytree_fits.specs.Literals.{is_bare, is_no_brace}
use Rattle.pytree_fits.specs.Given.{all_pass}
use Rattle.pytree_fits.proofs.Exactness.Walks.{whole, Stands, Walk, walk_none, walk_one, walk_both, field_walk, operator_walk, lexeme_walk}
use Rattle.pytree_fits.proofs.Exactness.FieldCharacters.{flat_bare}
use Rattle.pytree_fits.proofs.Exactness.FieldCharacters.{string_stands}

-- ---- Elements, where these f-strings are open around theirs.

module _ (o : Open) (p : ℕ → Bool) (is_nested : Bool) (terminals : List ℕ → List Terminal) (is_wrong : List ℕ → Bool)
    (texts : (k : ℕ) (raw : Bool) (t rest : List ℕ) → list_all p t ≡ true → after_text raw (at_top k) (t ++ rest) ≡ rest
    → Stands (k ∷ o) (FormattedText (text_points (record { is_raw = raw; has_pairs = at_top k; source = t }))))
    (kept : (k : ℕ) (t : List ℕ) → is_nested ≡ false → list_all p t ≡ true
    → Stands (k ∷ o) (FormattedText (text_points (record { is_raw = true; has_pairs = false; source = t }))))
    (fields : (k : ℕ) (t rest : List ℕ) → list_all p t ≡ true → following_expression (t ++ rest) ≡ Some rest → is_wrong t ≡ false
    → Walk (k ∷ o) (k ∷ o) (terminals t)) where
  elements_walk : {k : ℕ} {es : List Element} → Laid p is_nested k es → list_any (is_field_of is_wrong) es ≡ false
      → Walk (k ∷ o) (k ∷ o) (flat_map (element_terminals terminals) es)
  elements_walk {k} nothing n = walk_none (k ∷ o)
  elements_walk {k} (a_text {raw = raw} {t = t} {rest = rest} h w l) n =
      walk_both (walk_one _ (texts k raw t rest h w) refl) (elements_walk l n)
  elements_walk {k} (kept_text {t = t} q h l) n = walk_both (walk_one _ (kept k t q h) refl) (elements_walk l n)
  elements_walk {k} (a_spec l) n = walk_both (walk_one SpecBegin refl refl) (elements_walk l n)
  elements_walk {k} (a_field {c = c} {t = t} {rest = rest} {ss = ss} {es = es} b h w s l) n =
      let f = or_parts (is_wrong t) (list_any (is_field_of is_wrong) (ss ++ (End ∷ es))) n in
      let g =
      or_parts (list_any (is_field_of is_wrong) ss) (list_any (is_field_of is_wrong) es)
      (sym (list_any-append (is_field_of is_wrong) ss (End ∷ es)) ∙ f.1) in
      let e : suc k - 1 ≡ k = omega arith in
      let m : Walk (suc k ∷ o) (k ∷ o) (flat_map (element_terminals terminals) (ss ++ (End ∷ es))) =
      subst (Walk (suc k ∷ o) (k ∷ o)) (sym (flat_map-append (element_terminals terminals) ss (End ∷ es)))
      (walk_both (elements_walk s g.0) (walk_both (walk_one FieldEnd refl (ap (λ j. j ∷ o) e)) (elements_walk l g.1))) in
      walk_both (walk_both (walk_one (FieldBegin c) b refl) (fields (suc k) t rest h w f.0)) m

  formatted_walk : (t : List ℕ) (es : Option (List Element)) → LaidIf p is_nested es → elements_fault is_wrong t es ≡ None
      → Stands o FormattedBegin → Walk o o (elements_terminals terminals es)
  formatted_walk t None l n b = walk_none o
  formatted_walk t (Some es) l n b =
      walk_both (walk_one FormattedBegin b refl)
      (walk_both (elements_walk l (no_field_wrong is_wrong t es n)) (walk_one FormattedEnd refl refl))

-- ---- An f-string in a field.

-- in its fields stands no STRING
inner_field : (m k : ℕ) (t rest : List ℕ) → list_all is_flat t ≡ true → following_expression (t ++ rest) ≡ Some rest
    → is_nested_faulty t ≡ false
    → Walk (k ∷ (m ∷ [])) (k ∷ (m ∷ [])) (nested_expression t)
unfolding nested_expression
inner_field m k t rest h w n =
    field_walk (k ∷ (m ∷ [])) is_flat (single_fault Whole) (λ j u. terminal_of j u ∷ [])
    (λ x g i.
    lexeme_walk k (m ∷ []) x.«class» x.text g (of_class i.before x.text x.«class» i.in_class) i.faultless
    (λ e c. absurd (no_string x.text (weaker is_flat (λ c. not (is_quote c)) flat_unquoted x.text i.characters) c)))
    t (whole_field is_flat (single_fault Whole) t (weaker is_flat scalar flat_scalar t h) h n)
    (operator_walk k (m ∷ []) (40 ∷ []) LPar brackets_are.0) (operator_walk k (m ∷ []) (41 ∷ []) RPar brackets_are.1)

-- the points of a text of an f-string
abbrev read : Bool → List ℕ → List ℕ
read raw u = flat_map points_in (meanings raw false (with_line_feeds u))

-- a text there: its characters stand for themselves, and in a format spec none is a brace
inner_text : (m k : ℕ) (raw : Bool) (t rest : List ℕ) → list_all is_flat t ≡ true → after_text raw (at_top k) (t ++ rest) ≡ rest
    → Stands (k ∷ (m ∷ [])) (FormattedText (text_points (record { is_raw = raw; has_pairs = at_top k; source = t })))
unfolding text_points text_meanings
inner_text m k raw t rest h w = by k w
  where
    calm : (u : List ℕ) → list_all is_flat u ≡ true → read raw u ≡ with_line_feeds u
    calm u e =
        points_kept raw false (with_line_feeds u)
        (kept_all is_no_backslash (λ c. not (c == 13)) u (weaker is_flat is_no_backslash flat_calm u e))

    bare : (u : List ℕ) → list_all is_flat u ≡ true → list_all is_bare (read raw u) ≡ true
    bare u e =
        subst (λ z. list_all is_bare z ≡ true) (sym (calm u e))
        (weaker (λ c. is_flat c && not (c == 13)) is_bare flat_bare (with_line_feeds u)
        (joined is_flat (λ c. not (c == 13)) (with_line_feeds u) (kept_all is_flat (λ c. not (c == 13)) u e)
        (kept_pass (λ c. not (c == 13)) u)))

    unbraced_there : (u : List ℕ) → list_all is_flat u ≡ true → list_all is_literal_char u ≡ true → list_all is_no_brace (read raw u) ≡ true
    unbraced_there u e l = subst (λ z. list_all is_no_brace z ≡ true) (sym (calm u e)) (kept_all is_no_brace (λ c. not (c == 13)) u l)

    by : (k : ℕ) → after_text raw (at_top k) (t ++ rest) ≡ rest
        → Stands (k ∷ (m ∷ []))
        (FormattedText (flat_map points_in (meanings raw false (with_line_feeds (if at_top k then single raw t else t)))))
    by zero w = bare (single raw t) (single_kept is_flat raw t h)
    by (suc k) w =
        and_from (list_all is_bare (read raw t)) _ (bare t h)
        (unbraced_there t h (unbraced raw t rest (weaker is_flat is_no_backslash flat_calm t h) w))

nested_walk : (m : ℕ) (t : List ℕ) → list_all is_calm t ≡ true → is_bulky kinds.String t ≡ false
    → (es : Option (List Element)) → elements_of true t ≡ es
    → elements_fault is_nested_faulty t es ≡ None → Walk (m ∷ []) (m ∷ []) (elements_terminals nested_expression es)
nested_walk m t h b None e n = walk_none (m ∷ [])
nested_walk m t h b (Some es) e n =
    let l : list_all is_flat (body_of t) ≡ true =
    joined is_open (λ c. not (c == 0)) (body_of t) (open_body t h b) (no_nuls t (no_nul_in is_nested_faulty t es n)) in
    formatted_walk (m ∷ []) is_flat true nested_expression is_nested_faulty (inner_text m)
    (λ k u q i. absurd (let z : true ≡ false = q in cc)) (inner_field m)
    t (Some es) (subst (LaidIf is_flat true) e (all_laid is_flat true t l)) n refl

-- ---- A field of an f-string that stands in none.

field_string : (m : ℕ) (t : List ℕ) → list_all is_calm t ≡ true → field_fault kinds.String t ≡ None
    → Walk (m ∷ []) (m ∷ []) (terminals_by true nested_expression kinds.String t)
unfolding fault_by terminals_by single_fault terminal_of
field_string m t h n = by (is_fstring kinds.String t) f.1
  where
    f : (is_bulky kinds.String t ≡ false) × (fault_by true is_nested_faulty kinds.String t ≡ None)
    f = field_faultless kinds.String t n

    by : (b : Bool) → cond b (elements_fault is_nested_faulty t (elements_of true t)) (string_fault t) ≡ None
        → Walk (m ∷ []) (m ∷ []) (cond b (elements_terminals nested_expression (elements_of true t)) (Literal (string_value t) ∷ []))
    by true g = nested_walk m t h f.0 (elements_of true t) refl g
    by false g = walk_one (Literal (string_value t)) (string_stands m t h f.0 g) refl

field_lexeme : (m : ℕ) (k : Class) (t : List ℕ) → is_gap k ≡ false → OfClass k t → list_all is_calm t ≡ true
    → field_fault (kind_of k true) t ≡ None
    → Walk (m ∷ []) (m ∷ []) (terminals_by true nested_expression (kind_of k true) t)
unfolding terminals_by fault_by
field_lexeme m classes.String t g c h f = field_string m t h f
field_lexeme m classes.Name t g c h f = lexeme_walk m [] classes.Name t g c (field_faultless kinds.Name t f).1 (λ e c. absurd (cc))
field_lexeme m classes.Number t g c h f = lexeme_walk m [] classes.Number t g c (field_faultless kinds.Number t f).1 (λ e c. absurd (cc))
field_lexeme m (classes.Operator e) t g c h f = operator_walk m [] t e c
field_lexeme m classes.Comment t g c h f = lexeme_walk m [] classes.Comment t g c (field_faultless kinds.Comment t f).1 (λ e c. absurd (cc))
field_lexeme m _ t g c h f = absurd (cc)

field_passes : (k : ℕ) (t rest : List ℕ) → list_all scalar t ≡ true → following_expression (t ++ rest) ≡ Some rest → is_faulty t ≡ false
    → Walk (k ∷ []) (k ∷ []) (expression t)
unfolding expression terminals_by
field_passes k t rest h w n =
    field_walk (k ∷ []) is_calm field_fault (terminals_by true nested_expression)
    (λ x g i. field_lexeme k x.«class» x.text g (of_class i.before x.text x.«class» i.in_class) i.characters i.faultless)
    t (whole_field is_calm field_fault t h (joined scalar is_no_backslash t h (expression_calm t rest w)) n)
    (operator_walk k [] (40 ∷ []) LPar brackets_are.0) (operator_walk k [] (41 ∷ []) RPar brackets_are.1)

-- ---- An f-string.

pub formatted_passes : (k : Kind) (t : List ℕ) → all_scalars t ≡ true → is_fstring k t ≡ true → fault_of Whole k t ≡ None
    → all_pass whole [] (terminals_of k t) ≡ true
unfolding terminals_by fault_of fault_by
formatted_passes k t s q f =
    let n : elements_fault is_faulty t (elements_of false t) ≡ None = rw q at f in
    let w = formatted_walk [] scalar false expression is_faulty
    (λ k raw u rest h w. outer_points (record { is_raw = raw; has_pairs = at_top k; source = u }) h)
    (λ k u e h. outer_points (record { is_raw = true; has_pairs = false; source = u }) h) field_passes t (elements_of false t)
    (all_laid scalar false t (body_all scalar t s)) n refl in
    rw q w.passed
