-- An f-string without a fault stands for terminals that can be said.
--
-- Carries: string_said, for OfTokens. On: SinglesSaid, SaidLists, StringTerminals.
use Rattle.std.proofs.Common.{◌≡◌, ℕ, zero, suc, ◌-◌, Bool, true, false, not, ◌&&◌, ◌||◌, ◌==◌, List, [], ◌∷◌, ◌++◌, Option, Some, None}
use Rattle.std.proofs.Common.{refl, sym}
use Rattle.std.proofs.Common.{◌∙◌, ap, subst, cond, leb, arith, if◌then◌else◌}
use Rattle.std.specs.Prelude.{nat_lt}
use Rattle.std.specs.List.{list_all, list_any, flat_map}
use Rattle.std.specs.Str.{all_scalars, encode_utf8_all}
use Rattle.std.proofs.Math.Utf8.{scalar}
use Rattle.std.proofs.lemmas.Bool.{and_from, leb-true, and_parts, or_parts}
use Rattle.std.proofs.lemmas.Bool.Decides.{nat_tests}
use Rattle.std.proofs.lemmas.Grind.{flat_map-append}
use Rattle.std.proofs.lemmas.List.Folds.{list_any-append}
use Rattle.unicode_normalization.specs.Forms.{nfkc}
use Rattle.pyfstring.specs.Expressions.{following_expression}
use Rattle.pyfstring.specs.Singles.{single}
use Rattle.pyfstring.specs.Texts.{after_text, is_brace, is_literal_char}
use Rattle.pyfstring_tokens.specs.FieldTokens.{FieldToken, field_tokens, is_gap, closing}
use Rattle.pyfstring_tokens.specs.Laws.{tokens_of}
use Rattle.pylex_lexeme.specs.declared.kinds.Exact.{Exact}
use Rattle.pylex_lexeme.specs.declared.kinds.Exact.TheVariants.{LPar, RPar}
use Rattle.pylex_lexeme.specs.declared.lexeme.Class.{Class}
use Rattle.pylex_lexeme.specs.declared.lexeme.Class.TheVariants as classes
use Rattle.pylex_lexeme.specs.Lexemes.{Lexeme, cut}
use Rattle.pylex_lexeme.specs.Operators.{operators, exact_of}
use Rattle.pylex_listing.specs.declared.kind.Kind.{Kind}
use Rattle.pylex_listing.specs.declared.kind.Kind.TheVariants as kinds
use Rattle.pylex_listing.specs.EntryKinds.{kind_of}
use Rattle.pytree_node.specs.Values
use Rattle.pytree_node.specs.declared.profiles.Extent.TheVariants.{Whole}
use Rattle.pytoken.specs.declared.keywords.Keyword.{Keyword}
use Rattle.pytoken.specs.declared.faults.TokenError.{TokenError}
use Rattle.pytoken.specs.Keywords.{keyword_of}
use Rattle.pytoken.specs.Escapes.{meanings, points_in}
use Rattle.pytoken.specs.StringValues.{with_line_feeds, is_quote, is_raw, is_bytes, is_unicode, body_of, points_of, value_of}
use Rattle.pytoken.specs.StringValues.{string_value, literal_fault, string_fault}
use Rattle.pytoken.specs.FormattedStrings.{Element, End, TextPart, text_meanings, text_points, is_fstring, is_bulky, is_field_of}
use Rattle.pytoken.specs.FormattedStrings.{elements_of}
use Rattle.pytoken.specs.FormattedStrings.{elements_fault}
use Rattle.pytoken.specs.Terminals.{Terminal, Op, Word, Ident, Literal, FormattedBegin, FormattedEnd, FormattedText, FieldBegin, SpecBegin}
use Rattle.pytoken.specs.Terminals.{FieldEnd}
use Rattle.pytoken.specs.Terminals.{element_terminals, elements_terminals, terminal_of, terminals_by, terminals_of, single_fault, fault_by}
use Rattle.pytoken.specs.Terminals.{fault_of}
use Rattle.pytoken.specs.Terminals.{field_fault, nested_expression, expression, is_nested_faulty, is_faulty}
use Rattle.pytoken.specs.Laws.{is_point}
use Rattle.pytoken.proofs.Callers.Bodies.{body_all, filter_all}
use Rattle.pytoken.proofs.Callers.Said.{points_are_in_range}
use Rattle.pygrammar.specs.OpenStrings.{Open, open_following, open_after_all}
use Rattle.pygrammar.proofs.Callers.OpenStrings.{after_append}
use Rattle.pyunparse_text.proofs.FieldTexts.Conditions.{is_own}
use Rattle.pyunparse_text.proofs.FieldTexts.FieldLiterals.{is_field_character, is_field_byte}
use Rattle.pyunparse_text.proofs.FieldTexts.TextCharacters.{can_stand}
use Rattle.pyunparse_text.proofs.PieceLaws.Places.{in_field}
use Rattle.pyunparse_text.proofs.PieceLaws.Fair.{IsConstant}
use Rattle.pyunparse_text.proofs.PieceLaws.Sound.{HasFields}
use Rattle.pyunparse_text.proofs.PieceLaws.Sayings.{Sayable, depth_of}
use Rattle.pyunparse_text.proofs.PieceLaws.SaidLists.{Said, none, also}
use Rattle.pyunparse_text.proofs.PieceLaws.SinglesSaid.{IsShallow, one_open, two_open, name_sayable, number_sayable, operator_sayable}
use Rattle.pyunparse_text.proofs.PieceLaws.SinglesSaid.{layout_sayable}
use Rattle.pyunparse_text.proofs.PieceLaws.SinglesSaid.{scalars_points}
use Rattle.pyunparse_text.proofs.StringTerminals.Elements.{Laid, nothing, a_text, kept_text, a_spec, a_field, at_top, LaidIf, all_laid}
use Rattle.pyunparse_text.proofs.StringTerminals.Faultless.{no_field_wrong, no_nul_in, field_faultless}
use Rattle.pyunparse_text.proofs.StringTerminals.Classes.{OfClass, of_class, no_string}
use Rattle.pyunparse_text.proofs.StringTerminals.Brackets.{operator_terminal}
use Rattle.pyunparse_text.proofs.StringTerminals.FieldLexemes.{IsToken, AllTokens, no_lexeme, a_gap, a_token, IsWholeField, whole_field}
use Rattle.pyunparse_text.proofs.StringTerminals.Scanned.{is_no_backslash, expression_calm}
use Rattle.pyunparse_text.proofs.StringTerminals.Bodies.{weaker, joined, none_all, kept_pass, points_kept, single_kept}
use Rattle.pyunparse_text.proofs.StringTerminals.Bodies.{unbraced}
use Rattle.pyunparse_text.proofs.StringTerminals.FieldCharacters.{is_calm, is_open, is_flat, flat_parts, flat_scalar, flat_calm}
use Rattle.pyunparse_text.proofs.StringTerminals.FieldCharacters.{flat_unquoted, open_body, no_nuls, flat_body, calm_body, literally}

-- ---- Terminals that can be said, with what is open after them.

record Walk (o q : Open) (ts : List Terminal) : Type 0 where
  said : Said Whole o ts
  opened : open_after_all o ts ≡ q

walk_none : (o : Open) → Walk o o []
walk_none o = record { said = none; opened = refl }

walk_one : {o q : Open} (t : Terminal) → Sayable Whole o t → open_following o t ≡ q → Walk o q (t ∷ [])
walk_one t s e = record { said = also s none; opened = e }

said_on : (o : Open) (ts us : List Terminal) → Said Whole o ts → Said Whole (open_after_all o ts) us → Said Whole o (ts ++ us)
said_on o [] us none k = k
said_on o (t ∷ ts) us (also s h) k = also s (said_on (open_following o t) ts us h k)

walk_both : {o m q : Open} {ts us : List Terminal} → Walk o m ts → Walk m q us → Walk o q (ts ++ us)
walk_both {o} {m} {q} {ts} {us} a b = record {
  said = said_on o ts us a.said (subst (λ z. Said Whole z us) (sym a.opened) b.said);
  opened = after_append o ts us ∙ (ap (λ z. open_after_all z us) a.opened ∙ b.opened);
}

-- ---- The tokens of a field.

abbrev given : (Kind → List ℕ → List Terminal) → List FieldToken → List Terminal
given by ts = flat_map (λ (x : FieldToken). by x.kind x.text) ts

module _ (o : Open) (p : ℕ → Bool) (fault : Kind → List ℕ → Option TokenError) (by : Kind → List ℕ → List Terminal)
    (walk : (x : Lexeme) → is_gap x.«class» ≡ false → IsToken p fault x → Walk o o (by (kind_of x.«class» true) x.text)) where
  lexemes_walk : {xs : List Lexeme} → AllTokens p fault xs → Walk o o (given by (tokens_of xs))
  lexemes_walk no_lexeme = walk_none o
  lexemes_walk (a_gap g h) = rw g (lexemes_walk h)
  lexemes_walk (a_token {x = x} g t h) = rw g (walk_both (walk x g t) (lexemes_walk h))

  field_walk : (t : List ℕ) → IsWholeField p fault t → Walk o o (by kinds.Op (40 ∷ [])) → Walk o o (by kinds.Op (41 ∷ []))
      → Walk o o (given by (field_tokens t))
  field_walk t w a b =
      subst (λ z. Walk o o (given by z)) (sym w.tokens)
      (walk_both a
      (subst (Walk o o) (sym (flat_map-append (λ (x : FieldToken). by x.kind x.text) (tokens_of (cut t)) (closing ∷ [])))
      (walk_both (lexemes_walk w.all) (walk_both b (walk_none o)))))

-- ---- Tokens that are one terminal, and no STRING.

name_opens : (o : Open) (t : List ℕ) → open_following o (terminal_of kinds.Name t) ≡ o
unfolding terminal_of
name_opens [] t = by (keyword_of t)
  where
    by : (k : Option Keyword) → open_following [] (elim k [ Some w ↦ Word w | None ↦ Ident (record { spelling = t; form = nfkc t }) ]) ≡ []
    by (Some w) = refl
    by None = refl
name_opens (n ∷ o) t = by (keyword_of t)
  where
    by : (k : Option Keyword)
        → open_following (n ∷ o) (elim k [ Some w ↦ Word w | None ↦ Ident (record { spelling = t; form = nfkc t }) ]) ≡ n ∷ o
    by (Some w) = refl
    by None = refl

-- where nothing is open but f-strings, in a field of each
module _ {n : ℕ} {o : Open} (s : IsShallow (n ∷ o)) where
  operator_walk : (t : List ℕ) (e : Exact) → exact_of t ≡ Some e → Walk (n ∷ o) (n ∷ o) (terminal_of kinds.Op t ∷ [])
  operator_walk t e h = subst (λ z. Walk (n ∷ o) (n ∷ o) (z ∷ [])) (sym (operator_terminal t e h))
      (walk_one (Op e) (operator_sayable Whole s e) refl)

  lexeme_walk : (k : Class) (t : List ℕ) → is_gap k ≡ false → OfClass k t → single_fault Whole (kind_of k true) t ≡ None
      → (k ≡ classes.String → OfClass classes.String t → Walk (n ∷ o) (n ∷ o) (terminal_of kinds.String t ∷ []))
      → Walk (n ∷ o) (n ∷ o) (terminal_of (kind_of k true) t ∷ [])
  unfolding terminal_of single_fault
  lexeme_walk classes.Name t g c f x = walk_one (terminal_of kinds.Name t) (name_sayable Whole (n ∷ o) t c f) (name_opens (n ∷ o) t)
  lexeme_walk classes.Number t g c f x =
      walk_one (terminal_of kinds.Number t) (number_sayable Whole (depth_of (n ∷ o)) (encode_utf8_all t) f) refl
  lexeme_walk classes.String t g c f x = x refl c
  lexeme_walk (classes.Operator e) t g c f x = operator_walk t e c
  lexeme_walk classes.Comment t g c f x = walk_one (terminal_of kinds.Comment t) (layout_sayable Whole s) refl
  lexeme_walk _ t g c f x = absurd (cc)

-- ---- Characters of what stands in a field.

flat_field : (c : ℕ) → (is_flat c && not (c == 13)) ≡ true → is_field_character c ≡ true
flat_field c h =
    let w = and_parts (is_flat c) (not (c == 13)) h in
    let v = flat_parts c w.0 in
    own (is_quote c) (c == 10) (c == 13) (is_no_backslash c) (not (c == 0)) (scalar c) v.2 w.1 v.1 v.3 v.0
  where
    own : (q l r b z s : Bool) → not (q || l) ≡ true → not r ≡ true → b ≡ true → z ≡ true → s ≡ true
        → ((not q && (b && ((not l && not r) && z))) && (s && true)) ≡ true
    own true l r b z s h i j k m = absurd (cc)
    own false true r b z s h i j k m = absurd (cc)
    own false false true b z s h i j k m = absurd (cc)
    own false false false b z s h i j k m = rw (j, k, m) refl

-- ---- Literals in a field.

literal_body : (t : List ℕ) → list_all is_calm t ≡ true → is_bulky kinds.String t ≡ false
    → list_any (λ c. c == 0) (with_line_feeds t) ≡ false
    → list_all is_field_character (body_of (with_line_feeds t)) ≡ true
literal_body t h b n =
    weaker (λ c. is_flat c && not (c == 13)) is_field_character flat_field (body_of (with_line_feeds t)) (flat_body t h b n)

small_byte : (c : ℕ) → (is_field_character c && not (nat_lt 0x7F c)) ≡ true → is_field_byte c ≡ true
small_byte c h =
    let w = and_parts (is_field_character c) (not (nat_lt 0x7F c)) h in
    let o = and_parts (is_own c) (all_scalars (c ∷ [])) w.0 in
    let l : nat_lt c 0x80 ≡ true = low w.1 in
    and_from (is_own c) (nat_lt c 0x80) o.0 l
  where
    low : not (nat_lt 0x7F c) ≡ true → nat_lt c 0x80 ≡ true
    low h = grind (arith, nat_tests)

value_sayable : (t : List ℕ) → list_all is_field_character (body_of t) ≡ true → list_all is_no_backslash (body_of t) ≡ true
    → literal_fault t ≡ None
    → IsConstant (record { extent = Whole; depth = in_field }) (value_of t)
unfolding value_of points_of
value_sayable t h b f = by (is_bytes t) refl
  where
    e : points_of t ≡ body_of t
    e = points_kept (is_raw t) (is_bytes t) (body_of t) b

    by : (k : Bool) → is_bytes t ≡ k
        → IsConstant (record { extent = Whole; depth = in_field })
        (cond k (Values.Bytes (points_of t)) (Values.Str (points_of t) (is_unicode t)))
    by true q =
        let a = (literally t f).ascii in
        let n : list_any (nat_lt 0x7F) t ≡ false = rw q at a in
        subst (λ z. list_all is_field_byte z ≡ true) (sym e)
        (weaker (λ c. is_field_character c && not (nat_lt 0x7F c)) is_field_byte small_byte (body_of t)
        (joined is_field_character (λ c. not (nat_lt 0x7F c)) (body_of t) h
        (body_all (λ c. not (nat_lt 0x7F c)) t (none_all (nat_lt 0x7F) t n))))
    by false q = subst (λ z. list_all is_field_character z ≡ true) (sym e) h

string_sayable : (t : List ℕ) → list_all is_calm t ≡ true → is_bulky kinds.String t ≡ false → string_fault t ≡ None
    → IsConstant (record { extent = Whole; depth = in_field }) (string_value t)
unfolding string_value string_fault
string_sayable t h b f = value_sayable (with_line_feeds t) (literal_body t h b (literally (with_line_feeds t) f).no_nul) (calm_body t h) f

-- ---- Elements, where these f-strings are open around theirs.

field_sayable : (k : ℕ) → leb k 1 ≡ true → HasFields k
field_sayable zero h = tt
field_sayable (suc zero) h = tt
field_sayable (suc (suc k)) h = absurd (let e = leb-true (suc (suc k)) 1 h in omega (arith, e))

module _ (o : Open) (p : ℕ → Bool) (is_nested : Bool) (terminals : List ℕ → List Terminal) (is_wrong : List ℕ → Bool)
    (signs : (k : ℕ) → Sayable Whole (k ∷ o) SpecBegin × (Sayable Whole (k ∷ o) FieldEnd × Sayable Whole (k ∷ o) FormattedEnd))
    (texts : (k : ℕ) (raw : Bool) (t rest : List ℕ) → list_all p t ≡ true → after_text raw (at_top k) (t ++ rest) ≡ rest
    → Sayable Whole (k ∷ o) (FormattedText (text_points (record { is_raw = raw; has_pairs = at_top k; source = t }))))
    (kept : (k : ℕ) (t : List ℕ) → is_nested ≡ false → list_all p t ≡ true
    → Sayable Whole (k ∷ o) (FormattedText (text_points (record { is_raw = true; has_pairs = false; source = t }))))
    (fields : (k : ℕ) (t rest : List ℕ) → list_all p t ≡ true → following_expression (t ++ rest) ≡ Some rest → is_wrong t ≡ false
    → Walk (k ∷ o) (k ∷ o) (terminals t)) where
  elements_walk : {k : ℕ} {es : List Element} → Laid p is_nested k es → list_any (is_field_of is_wrong) es ≡ false
      → Walk (k ∷ o) (k ∷ o) (flat_map (element_terminals terminals) es)
  elements_walk {k} nothing n = walk_none (k ∷ o)
  elements_walk {k} (a_text {raw = raw} {t = t} {rest = rest} h w l) n =
      walk_both (walk_one _ (texts k raw t rest h w) refl) (elements_walk l n)
  elements_walk {k} (kept_text {t = t} q h l) n = walk_both (walk_one _ (kept k t q h) refl) (elements_walk l n)
  elements_walk {k} (a_spec l) n = walk_both (walk_one SpecBegin (signs k).0 refl) (elements_walk l n)
  elements_walk {k} (a_field {c = c} {t = t} {rest = rest} {ss = ss} {es = es} b h w s l) n =
      let f = or_parts (is_wrong t) (list_any (is_field_of is_wrong) (ss ++ (End ∷ es))) n in
      let g =
      or_parts (list_any (is_field_of is_wrong) ss) (list_any (is_field_of is_wrong) es)
      (sym (list_any-append (is_field_of is_wrong) ss (End ∷ es)) ∙ f.1) in
      let e : suc k - 1 ≡ k = omega arith in
      let m : Walk (suc k ∷ o) (k ∷ o) (flat_map (element_terminals terminals) (ss ++ (End ∷ es))) =
      subst (Walk (suc k ∷ o) (k ∷ o)) (sym (flat_map-append (element_terminals terminals) ss (End ∷ es)))
      (walk_both (elements_walk s g.0) (walk_both (walk_one FieldEnd (signs (suc k)).1.0 (ap (λ j. j ∷ o) e)) (elements_walk l g.1))) in
      walk_both (walk_both (walk_one (FieldBegin c) (field_sayable k b) refl) (fields (suc k) t rest h w f.0)) m

  formatted_walk : (t : List ℕ) (es : Option (List Element)) → LaidIf p is_nested es → elements_fault is_wrong t es ≡ None
      → Sayable Whole o FormattedBegin → Walk o o (elements_terminals terminals es)
  formatted_walk t None l n b = walk_none o
  formatted_walk t (Some es) l n b =
      walk_both (walk_one FormattedBegin b refl)
      (walk_both (elements_walk l (no_field_wrong is_wrong t es n)) (walk_one FormattedEnd (signs 0).1.1 refl))

-- ---- An f-string in a field.

pub brackets_are : (exact_of (40 ∷ []) ≡ Some LPar) × (exact_of (41 ∷ []) ≡ Some RPar)
unfolding exact_of operators
brackets_are = (refl, refl)

-- in its fields stands no STRING
inner_field : (m k : ℕ) (t rest : List ℕ) → list_all is_flat t ≡ true → following_expression (t ++ rest) ≡ Some rest
    → is_nested_faulty t ≡ false
    → Walk (k ∷ (m ∷ [])) (k ∷ (m ∷ [])) (nested_expression t)
unfolding nested_expression
inner_field m k t rest h w n =
    field_walk (k ∷ (m ∷ [])) is_flat (single_fault Whole) (λ j u. terminal_of j u ∷ [])
    (λ x g i.
    lexeme_walk two_open x.«class» x.text g (of_class i.before x.text x.«class» i.in_class) i.faultless
    (λ e c. absurd (no_string x.text (weaker is_flat (λ c. not (is_quote c)) flat_unquoted x.text i.characters) c)))
    t (whole_field is_flat (single_fault Whole) t (weaker is_flat scalar flat_scalar t h) h n)
    (operator_walk two_open (40 ∷ []) LPar brackets_are.0) (operator_walk two_open (41 ∷ []) RPar brackets_are.1)

-- characters that stand for themselves in its texts, in format specs no braces
stands_there : (b : Bool) (c : ℕ) → (is_field_character c && (cond b (is_literal_char c) true)) ≡ true → can_stand true b c ≡ true
stands_there b c h = by b (is_own c) (all_scalars (c ∷ [])) (is_brace c) h
  where
    by : (b x s l : Bool) → ((x && s) && cond b (not l) true) ≡ true → (x && (s && not (b && l))) ≡ true
    by b false s l h = absurd (cc)
    by b true false l h = absurd (cc)
    by true true true false h = refl
    by true true true true h = absurd (cc)
    by false true true l h = refl

inner_text : (m k : ℕ) (raw : Bool) (t rest : List ℕ) → list_all is_flat t ≡ true → after_text raw (at_top k) (t ++ rest) ≡ rest
    → Sayable Whole (k ∷ (m ∷ [])) (FormattedText (text_points (record { is_raw = raw; has_pairs = at_top k; source = t })))
unfolding text_points text_meanings
inner_text m k raw t rest h w = by k w
  where
    calm : (u : List ℕ) → list_all is_flat u ≡ true → flat_map points_in (meanings raw false (with_line_feeds u)) ≡ with_line_feeds u
    calm u e =
        points_kept raw false (with_line_feeds u)
        (filter_all is_no_backslash (λ c. not (c == 13)) u (weaker is_flat is_no_backslash flat_calm u e))

    fielded : (u : List ℕ) → list_all is_flat u ≡ true → list_all is_field_character (with_line_feeds u) ≡ true
    fielded u e =
        weaker (λ c. is_flat c && not (c == 13)) is_field_character flat_field (with_line_feeds u)
        (joined is_flat (λ c. not (c == 13)) (with_line_feeds u) (filter_all is_flat (λ c. not (c == 13)) u e)
        (kept_pass (λ c. not (c == 13)) u))

    in_spec : (b : Bool) (u : List ℕ) → list_all is_flat u ≡ true → list_all (λ c. cond b (is_literal_char c) true) u ≡ true
        → list_all (can_stand true b) (flat_map points_in (meanings raw false (with_line_feeds u))) ≡ true
    in_spec b u e l =
        subst (λ z. list_all (can_stand true b) z ≡ true) (sym (calm u e))
        (weaker (λ c. is_field_character c && cond b (is_literal_char c) true) (can_stand true b) (stands_there b) (with_line_feeds u)
        (joined is_field_character (λ c. cond b (is_literal_char c) true) (with_line_feeds u) (fielded u e)
        (filter_all (λ c. cond b (is_literal_char c) true) (λ c. not (c == 13)) u l)))

    anything : (u : List ℕ) → list_all (λ c. true) u ≡ true
    anything [] = refl
    anything (c ∷ u) = anything u

    by : (k : ℕ) → after_text raw (at_top k) (t ++ rest) ≡ rest
        → Sayable Whole (k ∷ (m ∷ []))
        (FormattedText (flat_map points_in (meanings raw false (with_line_feeds (if at_top k then single raw t else t)))))
    by zero w = in_spec false (single raw t) (single_kept is_flat raw t h) (anything (single raw t))
    by (suc k) w = in_spec true t h (unbraced raw t rest (weaker is_flat is_no_backslash flat_calm t h) w)

nested_walk : (m : ℕ) (t : List ℕ) → list_all is_calm t ≡ true → is_bulky kinds.String t ≡ false
    → (es : Option (List Element)) → elements_of true t ≡ es
    → elements_fault is_nested_faulty t es ≡ None → Walk (m ∷ []) (m ∷ []) (elements_terminals nested_expression es)
nested_walk m t h b None e n = walk_none (m ∷ [])
nested_walk m t h b (Some es) e n =
    let l : list_all is_flat (body_of t) ≡ true =
    joined is_open (λ c. not (c == 0)) (body_of t) (open_body t h b) (no_nuls t (no_nul_in is_nested_faulty t es n)) in
    formatted_walk (m ∷ []) is_flat true nested_expression is_nested_faulty (λ k. (tt, (tt, tt))) (inner_text m)
    (λ k u q i. absurd (let z : true ≡ false = q in cc)) (inner_field m)
    t (Some es) (subst (LaidIf is_flat true) e (all_laid is_flat true t l)) n tt

-- ---- A field of an f-string that stands in none.

field_string : (m : ℕ) (t : List ℕ) → list_all is_calm t ≡ true → field_fault kinds.String t ≡ None
    → Walk (m ∷ []) (m ∷ []) (terminals_by true nested_expression kinds.String t)
unfolding fault_by terminals_by single_fault terminal_of
field_string m t h n = by (is_fstring kinds.String t) f.1
  where
    f : (is_bulky kinds.String t ≡ false) × (fault_by true is_nested_faulty kinds.String t ≡ None)
    f = field_faultless kinds.String t n

    by : (b : Bool) → cond b (elements_fault is_nested_faulty t (elements_of true t)) (string_fault t) ≡ None
        → Walk (m ∷ []) (m ∷ []) (cond b (elements_terminals nested_expression (elements_of true t)) (Literal (string_value t) ∷ []))
    by true g = nested_walk m t h f.0 (elements_of true t) refl g
    by false g = walk_one (Literal (string_value t)) (string_sayable t h f.0 g) refl

outer_lexeme : (m : ℕ) (k : Class) (t : List ℕ) → is_gap k ≡ false → OfClass k t → list_all is_calm t ≡ true
    → field_fault (kind_of k true) t ≡ None
    → Walk (m ∷ []) (m ∷ []) (terminals_by true nested_expression (kind_of k true) t)
unfolding terminals_by fault_by
outer_lexeme m classes.String t g c h f = field_string m t h f
outer_lexeme m classes.Name t g c h f = lexeme_walk one_open classes.Name t g c (field_faultless kinds.Name t f).1 (λ e c. absurd (cc))
outer_lexeme m classes.Number t g c h f =
    lexeme_walk one_open classes.Number t g c (field_faultless kinds.Number t f).1 (λ e c. absurd (cc))
outer_lexeme m (classes.Operator e) t g c h f = operator_walk one_open t e c
outer_lexeme m classes.Comment t g c h f =
    lexeme_walk one_open classes.Comment t g c (field_faultless kinds.Comment t f).1 (λ e c. absurd (cc))
outer_lexeme m _ t g c h f = absurd (cc)

outer_field : (k : ℕ) (t rest : List ℕ) → list_all scalar t ≡ true → following_expression (t ++ rest) ≡ Some rest → is_faulty t ≡ false
    → Walk (k ∷ []) (k ∷ []) (expression t)
unfolding expression terminals_by
outer_field k t rest h w n =
    field_walk (k ∷ []) is_calm field_fault (terminals_by true nested_expression)
    (λ x g i. outer_lexeme k x.«class» x.text g (of_class i.before x.text x.«class» i.in_class) i.characters i.faultless)
    t (whole_field is_calm field_fault t h (joined scalar is_no_backslash t h (expression_calm t rest w)) n)
    (operator_walk one_open (40 ∷ []) LPar brackets_are.0) (operator_walk one_open (41 ∷ []) RPar brackets_are.1)

pub outer_points : (p : TextPart) → list_all scalar p.source ≡ true → list_all is_point (text_points p) ≡ true
unfolding text_points text_meanings
outer_points p h =
    points_are_in_range p.is_raw false (with_line_feeds (if p.has_pairs then single p.is_raw p.source else p.source))
    (filter_all is_point _ (if p.has_pairs then single p.is_raw p.source else p.source) (by p.has_pairs))
  where
    by : (b : Bool) → list_all is_point (if b then single p.is_raw p.source else p.source) ≡ true
    by true = single_kept is_point p.is_raw p.source (scalars_points p.source h)
    by false = scalars_points p.source h

-- an f-string, in the whole language
pub string_said : (t : List ℕ) → all_scalars t ≡ true → is_fstring kinds.String t ≡ true → fault_of Whole kinds.String t ≡ None
    → Said Whole [] (terminals_of kinds.String t)
unfolding terminals_by fault_of fault_by
string_said t s q f =
    let n : elements_fault is_faulty t (elements_of false t) ≡ None = rw q at f in
    let w = formatted_walk [] scalar false expression is_faulty (λ k. (tt, (tt, tt)))
    (λ k raw u rest h w. outer_points (record { is_raw = raw; has_pairs = at_top k; source = u }) h)
    (λ k u e h. outer_points (record { is_raw = true; has_pairs = false; source = u }) h) outer_field t (elements_of false t)
    (all_laid scalar false t (body_all scalar t s)) n tt in
    rw q w.said
