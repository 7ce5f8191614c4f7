-- What the class of a lexeme tells of the places in its text.
--
-- Carries: pass_line_end, pass_operator, pass_text, machine::find, next_entry. On: Plain,
-- LexemeClasses, Advancing.
use Rattle.std.proofs.Common.{◌≡◌, ◌≢◌, ℕ, zero, suc, ◌-◌, cond, Some, None, ◌+◌, ◌<◌, Bool, true, false, not, ◌&&◌, ◌||◌, ◌==◌, nat_lt}
use Rattle.std.proofs.Common.{List, [], ◌∷◌, length, refl, ap, ◌∙◌, sym, subst, arith, ⊎_elim}
use Rattle.std.specs.List.{list_all, list_any}
use Rattle.std.specs.Str.{chars, bytes_eq}
use Rattle.std.proofs.lemmas.Slice.Eq.{bytes_eq-Decides}
use Rattle.std.proofs.lemmas.Bool.Decides.{nat_tests}
use Rattle.std.proofs.lemmas.Str.{encodes-IsAscii, length-le-encodes}
use Rattle.std.proofs.lemmas.Bool.{and_parts, cases_Bool}
use Rattle.pysource.specs.declared.places.Place.{Place}
use Rattle.pylex_lexeme.specs.declared.lexeme.Class.{Class}
use Rattle.pylex_lexeme.specs.declared.lexeme.Class.TheVariants.{Name, Number, String, Operator, Comment, Blanks, LineEnd, Join}
use Rattle.pylex_lexeme.specs.Chars.{is_blank_char, bytes_in}
use Rattle.pylex_lexeme.specs.Cuts.{Cuts}
use Rattle.pylex_lexeme.specs.Operators.{is_operator, is_closer}
use Rattle.pylex_lexeme.specs.declared.kinds.Exact.{Exact}
use Rattle.pylex_lexeme.specs.Lexemes.{Lexeme, is_line_end, is_join, is_line_end_class, is_blanks_class, is_join_class}
use Rattle.pylex_lexeme.specs.Lexemes.{is_opener_class, is_closer_class}
use Rattle.pylex_lexeme.proofs.Callers.Lexemes.{by_words, words}
use Rattle.pylex_listing.specs.declared.leading_char.LeadingChar.{LeadingChar}
use Rattle.pylex_listing.specs.declared.leading_char.LeadingChar.TheVariants.{Nothing, Hash, Other}
use Rattle.pylex_listing.specs.declared.entries.Entry.{Entry}
use Rattle.pylex_listing.specs.declared.entries.Step.{Step}
use Rattle.pylex_listing.specs.declared.entries.Step.TheVariants as steps
use Rattle.pylex_listing.specs.declared.kind.Kind.{Kind}
use Rattle.pylex_listing.specs.declared.kind.Kind.TheVariants as kinds
use Rattle.pylex_listing.specs.declared.point.Point.{Point}
use Rattle.pylex.specs.declared.line_state.LineState.{LineState}
use Rattle.pylex_listing.specs.Lines.{opens, closes, count_if}
use Rattle.pylex_listing.specs.Machine.{State, place_past, lead_after, after, following, entry_by, line_end_kind_of, step_of, past, still}
use Rattle.pylex_listing.specs.Machine.{begun_by}
use Rattle.pylex.specs.LineState.{with_levels, HasRoom}
use Rattle.pylex.proofs.MachineLaws.Advancing.{room_on}
use Rattle.pylex.specs.Inner.Plain.{IsPlain}
use Rattle.pylex.specs.Inner.Told.{GoesOn, Tells, Passed, is_text, text_kind}
use Rattle.pylex.proofs.MachineLaws.LexemeClasses.{Says, lexeme_says}
use Rattle.pylex.proofs.Texts.Plain.{plain_ascii, AllInLine, advance_in_line, begun}
use Rattle.pylex_listing.proofs.Callers.{blank_parts}

-- characters of ASCII, and no LF
abbrev is_even : ℕ → Bool
is_even c = nat_lt c 128 && not (c == 10)

even_plain : (cs : List ℕ) → list_all is_even cs ≡ true → IsPlain cs
even_plain [] e k h = absurd (omega (arith, h))
even_plain (c ∷ cs) e zero h = let p = and_parts (is_even c) (list_all is_even cs) e in first c p.0
  where
    first : (c : ℕ) → is_even c ≡ true → (c < 128) × (c ≢ 10)
    first c e = (grind (arith, nat_tests), λ h. grind (arith, nat_tests))
even_plain (c ∷ cs) e (suc k) h = let p = and_parts (is_even c) (list_all is_even cs) e in even_plain cs p.1 k (omega (arith, h))

even_in_line : (cs : List ℕ) → list_all is_even cs ≡ true → AllInLine cs
even_in_line [] e = tt
even_in_line (c ∷ cs) e = let p = and_parts (is_even c) (list_all is_even cs) e in (no_feed c p.0, even_in_line cs p.1)
  where
    no_feed : (c : ℕ) → is_even c ≡ true → (c == 10) ≡ false
    no_feed c e = grind (arith, nat_tests)

-- as many bytes as characters
even_bytes : (cs : List ℕ) → list_all is_even cs ≡ true → bytes_in cs ≡ length cs
even_bytes cs e = ap length (encodes-IsAscii cs (plain_ascii cs (even_plain cs e)))

goes_on : (bs : List ℕ) → bytes_in (chars bs) ≡ length bs → list_all is_even (chars bs) ≡ true → GoesOn bs
goes_on bs counted e p =
    advance_in_line p (chars bs) (even_in_line (chars bs) e)
    ∙ ap (λ (n : ℕ). record { row = p.row; column = p.column + n }) (sym (even_bytes (chars bs) e) ∙ counted)

-- a text with a test that all of some texts pass, and that is one of them
any_all : (p : List ℕ → Bool) (t : List ℕ) (ws : List (List ℕ)) → list_any (bytes_eq t) ws ≡ true → list_all p ws ≡ true → p t ≡ true
any_all p t [] e a = absurd cc
any_all p t (w ∷ ws) e a =
    let q = and_parts (p w) (list_all p ws) a in
    ⊎_elim
    (λ (h : bytes_eq t w ≡ true). ap p ((bytes_eq-Decides t w).0 h) ∙ q.0)
    (λ (h : bytes_eq t w ≡ false). any_all p t ws (rw h at e) q.1)
    (cases_Bool (bytes_eq t w))

-- an operator's first character begins a line with something
abbrev is_sign : List ℕ → Bool
is_sign [] = false
is_sign (c ∷ cs) = list_all is_even (c ∷ cs) && (not (is_blank_char c) && not (c == 35))

sign_front : (t : List ℕ) → is_sign t ≡ true → (f : LeadingChar) → lead_after f t ≡ begun_by f
sign_front [] e f = cc
sign_front (c ∷ cs) e f =
    let p = and_parts (list_all is_even (c ∷ cs)) (not (is_blank_char c) && not (c == 35)) e in
    let q = and_parts (not (is_blank_char c)) (not (c == 35)) p.1 in
    let a = even_in_line (c ∷ cs) p.0 in
    by f a (no (is_blank_char c) q.0) (no (c == 35) q.1)
  where
    no : (b : Bool) → not b ≡ true → b ≡ false
    no true e = cc
    no false e = refl

    by : (f : LeadingChar) → AllInLine (c ∷ cs) → is_blank_char c ≡ false → (c == 35) ≡ false → lead_after f (c ∷ cs) ≡ begun_by f
    by Nothing a b h = let e = a.0 in rw (e, b, h) (begun Other cs (λ n. cc) a.1)
    by Hash a b h = begun Hash (c ∷ cs) (λ n. cc) a
    by Other a b h = begun Other (c ∷ cs) (λ n. cc) a

sign_even : (t : List ℕ) → is_sign t ≡ true → list_all is_even t ≡ true
sign_even [] e = cc
sign_even (c ∷ cs) e = (and_parts (list_all is_even (c ∷ cs)) (not (is_blank_char c) && not (c == 35)) e).0

operator_sign : (t : List ℕ) → is_operator t ≡ true → is_sign t ≡ true
operator_sign t e = any_all is_sign t words (sym (by_words t) ∙ e) refl

-- blanks
blanks_even : (cs : List ℕ) → list_all is_blank_char cs ≡ true → list_all is_even cs ≡ true
blanks_even [] e = refl
blanks_even (c ∷ cs) e =
    let p = and_parts (is_blank_char c) (list_all is_blank_char cs) e in
    let h = even c p.0 in
    rw h (blanks_even cs p.1)
  where
    even : (c : ℕ) → is_blank_char c ≡ true → is_even c ≡ true
    even c e = grind (arith, nat_tests)

blanks_front : (cs : List ℕ) → list_all is_blank_char cs ≡ true → (f : LeadingChar) → lead_after f cs ≡ f
blanks_front cs e Hash = begun Hash cs (λ n. cc) (even_in_line cs (blanks_even cs e))
blanks_front cs e Other = begun Other cs (λ n. cc) (even_in_line cs (blanks_even cs e))
blanks_front [] e Nothing = refl
blanks_front (c ∷ cs) e Nothing =
    let p = and_parts (is_blank_char c) (list_all is_blank_char cs) e in
    let b = p.0 in
    let n = feed c p.0 in
    rw (n, b) (blanks_front cs p.1 Nothing)
  where
    feed : (c : ℕ) → is_blank_char c ≡ true → (c == 10) ≡ false
    feed c e = grind (arith, nat_tests)

-- line ends
data LineEnd_is (t : List ℕ) : Type 0 where
  lf : t ≡ 10 ∷ [] → LineEnd_is t
  crlf : t ≡ 13 ∷ 10 ∷ [] → LineEnd_is t

line_end_is : (t : List ℕ) → is_line_end t ≡ true → LineEnd_is t
unfolding is_line_end
line_end_is t e = ⊎_elim
    (λ (a : bytes_eq t (10 ∷ []) ≡ true). lf ((bytes_eq-Decides t (10 ∷ [])).0 a))
    (λ (a : bytes_eq t (10 ∷ []) ≡ false).
    let b : bytes_eq t (13 ∷ 10 ∷ []) ≡ true = rw a at e in
    crlf ((bytes_eq-Decides t (13 ∷ 10 ∷ [])).0 b))
    (cases_Bool (bytes_eq t (10 ∷ [])))

end_row : (t : List ℕ) → LineEnd_is t → (p : Place) → place_past p t ≡ record { row = p.row + 1; column = 0 }
end_row t (lf e) p = rw e refl
end_row t (crlf e) p = rw e refl

end_front : (t : List ℕ) → LineEnd_is t → (f : LeadingChar) → lead_after f t ≡ Nothing
end_front t (lf e) f = rw e refl
end_front t (crlf e) f = rw e refl

end_bytes : (t : List ℕ) → LineEnd_is t → bytes_in t ≡ length t
unfolding lib.Utf8.encode
end_bytes t (lf e) = rw e refl
end_bytes t (crlf e) = rw e refl

join_row : (t : List ℕ) → is_join t ≡ true → (p : Place) → place_past p t ≡ record { row = p.row + 1; column = 0 }
unfolding is_join
join_row [] e p = cc
join_row (c ∷ cs) e p =
    let q = and_parts (c == 92) (is_line_end cs) e in
    let n = slash c q.0 in
    rw n (end_row cs (line_end_is cs q.1) (record { row = p.row; column = p.column + 1 }))
  where
    slash : (c : ℕ) → (c == 92) ≡ true → (c == 10) ≡ false
    slash c e = grind (arith, nat_tests)

join_front : (t : List ℕ) → is_join t ≡ true → (f : LeadingChar) → lead_after f t ≡ Nothing
unfolding is_join
join_front [] e f = cc
join_front (c ∷ cs) e f =
    let q = and_parts (c == 92) (is_line_end cs) e in
    end_front cs (line_end_is cs q.1) _

pub tells : (bytes front back : List ℕ) (k : Class) → Cuts bytes k front back → Tells k front
tells bytes front back k c = by k (lexeme_says (chars bytes) _ c.lexeme)
  where
    by : (k : Class) → Says k (chars front) → Tells k front
    by Name s = tt
    by Number s = tt
    by String s = tt
    by Comment s = tt
    by (Operator o) s = let g = operator_sign (chars front) s in (
      goes_on front c.counted (sign_even (chars front) g),
      sign_front (chars front) g,
    )
    by Blanks s = let g = blank_parts (chars front) s in (
      goes_on front c.counted (blanks_even (chars front) g),
      blanks_front (chars front) g,
    )
    by LineEnd s = let g = line_end_is (chars front) s in (
      end_row (chars front) g,
      end_front (chars front) g,
      sym (end_bytes (chars front) g) ∙ c.counted,
    )
    by Join s = (join_row (chars front) s, join_front (chars front) s)

-- what is known of a lexeme that is given as it stands
pub record TextAfter (k : Class) : Type 0 where
  pub «end» : is_line_end_class k ≡ false
  pub blanks : is_blanks_class k ≡ false
  pub joined : is_join_class k ≡ false
  pub opener : is_opener_class k ≡ false
  pub closer : is_closer_class k ≡ false

pub text_after : (k : Class) → is_text k ≡ true → TextAfter k
text_after Name e = record { «end» = refl; blanks = refl; joined = refl; opener = refl; closer = refl }
text_after Number e = record { «end» = refl; blanks = refl; joined = refl; opener = refl; closer = refl }
text_after String e = record { «end» = refl; blanks = refl; joined = refl; opener = refl; closer = refl }
text_after Comment e = record { «end» = refl; blanks = refl; joined = refl; opener = refl; closer = refl }
text_after (Operator o) e = cc
text_after Blanks e = cc
text_after LineEnd e = cc
text_after Join e = cc

pub text_entry : (s : State) (k : Class) (t : List ℕ) → is_text k ≡ true → entry_by s (record { «class» = k; text = t }) ≡ step_of
    (text_kind k) None s.now (past s.now t) ∷ []
unfolding entry_by
text_entry s Name t e = refl
text_entry s Number t e = refl
text_entry s String t e = refl
text_entry s Comment t e = refl
text_entry s (Operator o) t e = cc
text_entry s Blanks t e = cc
text_entry s LineEnd t e = cc
text_entry s Join t e = cc

pub operator_entry : (s : State) (o : Exact) (t : List ℕ) → (is_closer o && (s.depth == 0)) ≡ false
    → entry_by s (record { «class» = Operator o; text = t }) ≡ step_of kinds.Op (Some o) s.now (past s.now t) ∷ []
unfolding entry_by
operator_entry s o t e = rw e refl

pub line_end_entry : (s : State) (t : List ℕ) → entry_by s (record { «class» = LineEnd; text = t }) ≡ step_of (line_end_kind_of s) None
    s.now (following s.now t) ∷ []
unfolding entry_by
line_end_entry s t = refl

-- the entries of lexemes, by their points
pub text_given : (p : LineState) (k : Class) (t : List ℕ) (levels : List ℕ) (kind : Kind) (to : Point) (e : Entry) → is_text k ≡ true
    → kind ≡ text_kind k → to ≡ past p.now t → step_of kind None p.now to ≡ steps.Entry e
    → entry_by (with_levels p levels) (record { «class» = k; text = t }) ≡ steps.Entry e ∷ []
text_given p k t levels kind to e i is at gives =
    text_entry (with_levels p levels) k t i
    ∙ ap (λ (n : Kind). step_of n None p.now (past p.now t) ∷ []) (sym is)
    ∙ ap (λ (r : Point). step_of kind None p.now r ∷ []) (sym at)
    ∙ ap (λ (s : Step). s ∷ []) gives

pub operator_given : (p : LineState) (o : Exact) (t : List ℕ) (levels : List ℕ) (to : Point) (e : Entry)
    → (is_closer o && (p.depth == 0)) ≡ false → to ≡ past p.now t → step_of kinds.Op (Some o) p.now to ≡ steps.Entry e
    → entry_by (with_levels p levels) (record { «class» = Operator o; text = t }) ≡ steps.Entry e ∷ []
operator_given p o t levels to e none at gives =
    operator_entry (with_levels p levels) o t none
    ∙ ap (λ (r : Point). step_of kinds.Op (Some o) p.now r ∷ []) (sym at)
    ∙ ap (λ (s : Step). s ∷ []) gives

pub line_end_given : (p : LineState) (bs : List ℕ) (levels : List ℕ) (kind : Kind) (e : Entry)
    → line_end_kind_of (with_levels p levels) ≡ kind → length (chars bs) ≡ length bs → bytes_in (chars bs) ≡ length bs
    → step_of kind None p.now (record {
      place = record { row = p.now.place.row; column = p.now.place.column + length bs };
      offset =
          p.now.offset + length bs;
    }) ≡ steps.Entry e
    → entry_by (with_levels p levels) (record { «class» = LineEnd; text = chars bs }) ≡ steps.Entry e ∷ []
line_end_given p bs levels kind e is many counted gives =
    line_end_entry (with_levels p levels) (chars bs)
    ∙ ap (λ (n : Kind). step_of n None p.now (following p.now (chars bs)) ∷ []) is
    ∙ ap (λ (n : ℕ). step_of kind None p.now (record {
      place = record { row = p.now.place.row; column = p.now.place.column + n };
      offset =
          p.now.offset + bytes_in (chars bs);
    }) ∷ []) many
    ∙ ap (λ (n : ℕ). step_of kind None p.now (record {
      place = record { row = p.now.place.row; column = p.now.place.column + length bs };
      offset = p.now.offset + n;
    }) ∷ []) counted
    ∙ ap (λ (s : Step). s ∷ []) gives

pub or_none : (b : Bool) → b ≡ (b || false)
or_none true = refl
or_none false = refl

-- past it there is room for what follows
pub passed_room : (p : LineState) (k : Class) (text : List ℕ) (q : LineState) → p.margin ≡ false → Passed p k (chars text) q
    → bytes_in (chars text) ≡ length text → 0 < length text → (n : ℕ) → HasRoom p (length text + n) → HasRoom q n
unfolding after
passed_room p k text q m is counted some n room =
    let x : Lexeme = record { «class» = k; text = chars text } in
    let chars_le = length-le-encodes (chars text) in
    let now : q.now ≡ past p.now (chars text) = ap (λ (s : State). s.now) (is []) in
    let offset : q.now.offset ≡ p.now.offset + bytes_in (chars text) = ap (λ (r : Point). r.offset) now in
    let depth : q.depth ≡ p.depth + count_if (opens x) - count_if (closes x) = ap (λ (s : State). s.depth) (is []) in
    let width : q.width ≡ 0 = ap (λ (s : State). s.width) (is [])
    ∙ none (is_line_end_class k && (p.depth == 0)) (is_blanks_class k) p.margin _ m in
    room_on p x q (length text) n now depth (omega arith) (omega (arith, chars_le, counted)) (omega (arith, width)) some room
  where
    none : (e b m : Bool) (w : ℕ) → m ≡ false → cond e 0 (still (b && m) w) ≡ 0
    none true b m w h = refl
    none false true m w h = rw h refl
    none false false m w h = refl

pub blanks_give : (s : State) (t : List ℕ) → entry_by s (record { «class» = Blanks; text = t }) ≡ []
unfolding entry_by
blanks_give s t = refl

pub join_gives : (s : State) (t : List ℕ) → entry_by s (record { «class» = Join; text = t }) ≡ []
unfolding entry_by
join_gives s t = refl

pub cuts_as : (bytes front back : List ℕ) (k m : Class) → k ≡ m → Cuts bytes k front back → Cuts bytes m front back
cuts_as bytes front back k m e c = subst (λ (n : Class). Cuts bytes n front back) e c

pub fewer : (p : LineState) (m n : ℕ) → HasRoom p (m + n) → HasRoom p m
fewer p m n h = record {
  row = omega (arith, h.row);
  column = omega (arith, h.column);
  offset = omega (arith, h.offset);
  depth = omega (arith, h.depth);
  width = omega (arith, h.width);
}
