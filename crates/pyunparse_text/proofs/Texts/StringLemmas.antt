-- Carries: the writers. An f-string that is written step by step is one token.
use Rattle.std.proofs.Common.{◌≡◌, ◌∙◌, ℕ, Bool, true, false, if◌then◌else◌, List, [], ◌∷◌, ◌++◌, Option, Some, None, refl, ap, sym}
use Rattle.std.proofs.Common.{append_assoc}
use Rattle.std.proofs.Common.{append-nil}
use Rattle.std.specs.Prelude.{codes, not, ◌&&◌}
use Rattle.std.specs.List.{flat_map}
use Rattle.std.specs.Char.{encode_utf8}
use Rattle.std.specs.Str.{encode_utf8_all}
use Rattle.std.proofs.lemmas.Str.{encodes-append}
use Rattle.pyfstring.specs.declared.parts.Conversion.{Conversion}
use Rattle.pyfstring.specs.declared.parts.Conversion.TheVariants as conversions
use Rattle.pyfstring.specs.Texts.{begins_with}
use Rattle.pylex_lexeme.specs.Characters.{left_curly_bracket}
use Rattle.pylex_listing.specs.declared.kind.Kind.TheVariants as kinds
use Rattle.pyunparse_text.specs.Spacing.{Piece, text_following}
use Rattle.pyunparse_text.specs.Written.{Element, Text, Field, Spec, End}
use Rattle.pyunparse_text.specs.Pieces.{Sited, conversion_text, element_text, field_text, formatted_text, open_text, quote, sited_string}
use Rattle.pyunparse_text.specs.Folds.{Begin, BeginField, EndExpression, in_utf8, puts, puts_element, puts_elements, sited_in_utf8}
use Rattle.pyunparse_text.specs.Writing.{Writing, a_string, following, after_sited, blank, edge_of, field_edge, more, stepped}
use Rattle.pyunparse_text.specs.Tokens.{PlainToken}
use Rattle.pyunparse_text.specs.Told.{Listed, after_in, field_of, is_field, listed, listed_after, listed_stepped, or_none}
use Rattle.pyunparse_text.proofs.Texts.SpaceLemmas.{IsNoSign, literal, quoted_sign, same_blank, same_edge}
use Rattle.pyunparse_text.proofs.Texts.WritingLemmas.{at, after_text, level_kept, same_brace}

-- the blank after the brace of a field
brace_gap : (b : Bool) → (if not b && true then [] else 32 ∷ []) ≡ encode_utf8_all (if b then 32 ∷ [] else [])
unfolding encode_utf8
brace_gap true = refl
brace_gap false = refl

field_blank : (p : Piece) → blank (Some field_edge) (in_utf8 p) ≡ encode_utf8_all
    (if begins_with left_curly_bracket p.text then 32 ∷ [] else [])
field_blank p = ap (λ b. if not b && true then [] else 32 ∷ []) (same_brace p.text) ∙ brace_gap (begins_with left_curly_bracket p.text)

conversion_bytes : (c : Conversion) → encode_utf8_all (conversion_text c) ≡ conversion_text c
unfolding encode_utf8
conversion_bytes conversions.None = refl
conversion_bytes conversions.Str = refl
conversion_bytes conversions.Repr = refl
conversion_bytes conversions.Ascii = refl

brace_bytes : (t : List ℕ) → encode_utf8_all (left_curly_bracket ∷ t) ≡ left_curly_bracket ∷ encode_utf8_all t
unfolding encode_utf8
brace_bytes t = refl

-- what a field's expression is written in
field_written : (v : Writing) (ps : List Sited)
    → (puts after_sited (stepped v BeginField) ps).text ≡ v.text ++ encode_utf8_all (field_text (at true ps))
field_written v [] = ap (λ z. v.text ++ z) (sym (brace_bytes []))
field_written v (p ∷ ps) =
    let here = p true in
    let gap = if begins_with left_curly_bracket here.text then 32 ∷ [] else [] in
    after_text (following (stepped v BeginField) (in_utf8 here)) here ps refl
    ∙ ap (λ z. ((v.text ++ (123 ∷ [])) ++ (z ++ encode_utf8_all here.text)) ++ encode_utf8_all (text_following here (at true ps)))
    (field_blank here)
    ∙ joined v.text (encode_utf8_all gap) (encode_utf8_all here.text) (encode_utf8_all (text_following here (at true ps)))
    ∙ ap (λ z. v.text ++ (123 ∷ z))
    (sym (encodes-append gap (here.text ++ text_following here (at true ps)) ∙ ap (λ z. encode_utf8_all gap ++ z)
    (encodes-append here.text (text_following here (at true ps)))))
    ∙ ap (λ z. v.text ++ z) (sym (brace_bytes (gap ++ (here.text ++ text_following here (at true ps)))))
  where
    joined : (a b c d : List ℕ) → ((a ++ (123 ∷ [])) ++ (b ++ c)) ++ d ≡ a ++ (123 ∷ (b ++ (c ++ d)))
    joined a b c d =
        append_assoc (a ++ (123 ∷ [])) (b ++ c) d ∙ append_assoc a (123 ∷ []) ((b ++ c) ++ d)
        ∙ ap (λ z. a ++ (123 ∷ z)) (append_assoc b c d)

-- between the elements of an f-string
record Between (is_in_field : Bool) (w : Writing) : Type 0 where
  last : w.last ≡ Some (edge_of a_string)
  field : w.in_field ≡ is_in_field

element_put : (b : Bool) (v : Writing) (e : Element Sited) → Between b v
    → puts_element after_sited stepped b v e ≡ more v (encode_utf8_all (element_text b e))
unfolding encode_utf8
element_put b v (Text s t) k = refl
element_put b v Spec k = refl
element_put b v End k = refl
element_put b v (Field c ps) k =
    let level : (puts after_sited (stepped v BeginField) ps).level ≡ v.level = level_kept (stepped v BeginField) ps in
    let text : (puts after_sited (stepped v BeginField) ps).text ++ conversion_text c ≡ v.text ++ encode_utf8_all
    (field_text (at true ps) ++ conversion_text c) =
    ap (λ z. z ++ conversion_text c) (field_written v ps)
    ∙ append_assoc v.text (encode_utf8_all (field_text (at true ps))) (conversion_text c)
    ∙ ap (λ z. v.text ++ z) (sym (encodes-append (field_text (at true ps))
    (conversion_text c) ∙ ap (λ z. encode_utf8_all (field_text (at true ps)) ++ z) (conversion_bytes c))) in
    (λ i. record { text = text i; last = sym k.last i; level = level i; in_field = sym k.field i })

elements_put : (b : Bool) (v : Writing) (es : List (Element Sited)) → Between b v
    → puts_elements after_sited stepped b v es ≡ more v (encode_utf8_all (flat_map (element_text b) es))
elements_put b v [] k = (λ i. record { text = sym (append-nil v.text) i; last = v.last; level = v.level; in_field = v.in_field })
elements_put b v (e ∷ es) k =
    let t = encode_utf8_all (element_text b e) in
    let u = encode_utf8_all (flat_map (element_text b) es) in
    ap (λ z. puts_elements after_sited stepped b z es) (element_put b v e k)
    ∙ elements_put b (more v t) es (record { last = k.last; field = k.field })
    ∙
    (λ i. record {
      text =
          (append_assoc v.text t u ∙ ap (λ z. v.text ++ z) (sym (encodes-append (element_text b e) (flat_map (element_text b) es)))) i;
      last =
          v.last;
      level = v.level;
      in_field = v.in_field;
    })

-- an f-string's text is no sign
string_sign : (b : Bool) (es : List (Element Sited)) → IsNoSign (encode_utf8_all (formatted_text b es))
string_sign b es = quoted_sign 102 (quote b) (quote b ∷ flat_map (element_text b) es) refl

quote_bytes : (b : Bool) → encode_utf8_all (quote b ∷ []) ≡ quote b ∷ []
unfolding encode_utf8
quote_bytes true = refl
quote_bytes false = refl

opening_bytes : (b : Bool) (t : List ℕ) → codes "f" ++ (quote b ∷ encode_utf8_all t) ≡ encode_utf8_all (codes "f" ++ (quote b ∷ t))
unfolding encode_utf8
opening_bytes true t = refl
opening_bytes false t = refl

pub string_is_token : (w : Writing) (es : List (Element Sited)) →
    more (puts_elements after_sited stepped w.in_field (stepped w Begin) es)
    (quote w.in_field ∷ []) ≡ after_sited w (sited_in_utf8 (sited_string es))
string_is_token w es =
    let b = w.in_field in
    let inner = flat_map (element_text b) es in
    let whole = encode_utf8_all (formatted_text b es) in
    let parts : (codes "f" ++ (quote b ∷ [])) ++ (encode_utf8_all inner ++ (quote b ∷ [])) ≡ whole =
    ap (λ z. z ++ (quote b ∷ [])) (opening_bytes b inner) ∙ ap (λ z. encode_utf8_all (open_text b es) ++ z)
    (sym (quote_bytes b)) ∙ sym (encodes-append (open_text b es) (quote b ∷ [])) in
    let text : ((w.text ++ (blank w.last a_string ++ (codes "f" ++ (quote b ∷ [])))) ++ encode_utf8_all inner) ++ (quote b ∷ []) ≡ w.text ++
    (blank w.last (literal whole) ++ whole) =
    regrouped w.text (blank w.last a_string) (codes "f" ++ (quote b ∷ [])) (encode_utf8_all inner) (quote b ∷ [])
    ∙ ap (λ z. w.text ++ (blank w.last a_string ++ z)) parts
    ∙ ap (λ z. w.text ++ (z ++ whole)) (sym (same_blank w.last whole (string_sign b es))) in
    ap (λ z. more z (quote b ∷ [])) (elements_put b (stepped w Begin) es (record { last = refl; field = refl }))
    ∙ (λ i. record { text = text i; last = Some (sym (same_edge whole (string_sign b es)) i); level = w.level; in_field = w.in_field })
  where
    regrouped : (a c d e f : List ℕ) → ((a ++ (c ++ d)) ++ e) ++ f ≡ a ++ (c ++ (d ++ (e ++ f)))
    regrouped a c d e f = append_assoc (a ++ (c ++ d)) e f ∙ append_assoc a (c ++ d) (e ++ f) ∙ ap (λ z. a ++ z) (append_assoc c d (e ++ f))

pub string_ends : (w v u : Writing) (b : Bool) (es : List (Element Sited)) → b ≡ w.in_field
    → v ≡ puts_elements after_sited stepped b (stepped w Begin) es → u ≡ more v (quote b ∷ []) →
    u ≡ after_sited w (sited_in_utf8 (sited_string es))
string_ends w v u b es h e f =
    f ∙ ap (λ z. more z (quote b ∷ [])) e ∙ ap (λ x. more (puts_elements after_sited stepped x (stepped w Begin) es) (quote x ∷ [])) h
    ∙ string_is_token w es

-- ---- In a list of tokens. The f-string that is open after them is a text of its own.

abbrev open_following : List PlainToken → Writing → Listed
open_following ts w = record { tokens = ts; string = Some w }

-- what is written in a field is written into it
put_in : (ts : List PlainToken) (w : Writing) (ps : List Sited) → w.in_field ≡ true
    → puts listed_after (open_following ts w) ps ≡ open_following ts (puts after_sited w ps)
put_in ts w [] h = refl
put_in ts w (p ∷ ps) h = ap (λ z. puts listed_after z ps) one ∙ put_in ts (after_sited w (sited_in_utf8 p)) ps h
  where
    one : listed_after (open_following ts w) (sited_in_utf8 p) ≡ open_following ts (after_sited w (sited_in_utf8 p))
    one = ap (λ b. after_in ts (if b then Some w else None) (sited_in_utf8 p)) h
        ∙ ap (λ b. open_following ts (following w (sited_in_utf8 p b))) (sym h)

element_in : (b : Bool) (ts : List PlainToken) (w : Writing) (e : Element Sited)
    → puts_element listed_after listed_stepped b (open_following ts w) e ≡ open_following ts (puts_element after_sited stepped b w e)
element_in b ts w (Text s t) = refl
element_in b ts w Spec = refl
element_in b ts w End = refl
element_in b ts w (Field c ps) = ap (λ z. listed_stepped z (EndExpression b c)) (put_in ts (stepped w BeginField) ps refl)

elements_in : (b : Bool) (ts : List PlainToken) (w : Writing) (es : List (Element Sited))
    → puts_elements listed_after listed_stepped b (open_following ts w) es ≡ open_following ts (puts_elements after_sited stepped b w es)
elements_in b ts w [] = refl
elements_in b ts w (e ∷ es) =
    ap (λ z. puts_elements listed_after listed_stepped b z es) (element_in b ts w e)
    ∙ elements_in b ts (puts_element after_sited stepped b w e) es

-- the text that an f-string is written into
abbrev pub around : Listed → Writing
around l = or_none (field_of l.string)

site_of : (l : Listed) → is_field l.string ≡ (around l).in_field
site_of l = by l.string
  where
    at : (w : Writing) (b : Bool) → w.in_field ≡ b → b ≡ (or_none (if b then Some w else None)).in_field
    at w true e = sym e
    at w false e = refl

    by : (o : Option Writing) → is_field o ≡ (or_none (field_of o)).in_field
    by None = refl
    by (Some w) = at w w.in_field refl

-- with the elements of an open f-string
opened_text : (b : Bool) (l m : Listed) (es : List (Element Sited)) → m ≡ puts_elements listed_after listed_stepped b
    (listed_stepped l Begin) es →
    m ≡ open_following l.tokens (puts_elements after_sited stepped b (stepped (around l) Begin) es)
opened_text b l m es e = e ∙ elements_in b l.tokens (stepped (around l) Begin) es

-- it ends: in a field it is written into the text around it, elsewhere it is the next token
ends_in_field : (l : Listed) (w : Writing) (p : Sited) → is_field l.string ≡ true → w ≡ after_sited (around l) p
    → open_following l.tokens w ≡ listed_after l p
ends_in_field l w p h e = by l.string h e
  where
    at : (v : Writing) (b : Bool) → v.in_field ≡ b → b ≡ true → w ≡ after_sited (or_none (if b then Some v else None)) p
        → open_following l.tokens w ≡ after_in l.tokens (if b then Some v else None) p
    at v true q h e = ap (open_following l.tokens) (e ∙ ap (λ x. following v (p x)) q)
    at v false q h e = absurd (cc)

    by : (o : Option Writing) → is_field o ≡ true → w ≡ after_sited (or_none (field_of o)) p
        → open_following l.tokens w ≡ after_in l.tokens (field_of o) p
    by None h e = absurd (cc)
    by (Some v) h e = at v v.in_field refl h e

ends_outside : (l : Listed) (w : Writing) (es : List (Element Sited)) → is_field l.string ≡ false
    → w ≡ after_sited (around l) (sited_in_utf8 (sited_string es)) →
    listed (l.tokens ++ record { kind = kinds.String; text = w.text } ∷ []) ≡ listed_after l (sited_in_utf8 (sited_string es))
ends_outside l w es h e = by l.string h e
  where
    at : (v : Writing) (b : Bool) → b ≡ false → w ≡ after_sited (or_none (if b then Some v else None)) (sited_in_utf8 (sited_string es))
        → listed (l.tokens ++ record { kind = kinds.String; text = w.text } ∷ []) ≡ after_in l.tokens (if b then Some v else None)
        (sited_in_utf8 (sited_string es))
    at v true h e = absurd (cc)
    at v false h e = ap (λ (z : Writing). listed (l.tokens ++ record { kind = kinds.String; text = z.text } ∷ [])) e

    by : (o : Option Writing) → is_field o ≡ false → w ≡ after_sited (or_none (field_of o)) (sited_in_utf8 (sited_string es))
        → listed (l.tokens ++ record { kind = kinds.String; text = w.text } ∷ []) ≡ after_in l.tokens (field_of o)
        (sited_in_utf8 (sited_string es))
    by None h e = ap (λ (z : Writing). listed (l.tokens ++ record { kind = kinds.String; text = z.text } ∷ [])) e
    by (Some v) h e = at v v.in_field h e

-- what ends is open
pub not_closed : (b : Bool) (l m : Listed) (es : List (Element Sited)) → m ≡ puts_elements listed_after listed_stepped b
    (listed_stepped l Begin) es
    → m.string ≡ None → ⊥
not_closed b l m es e n = let t : m.string ≡ Some (puts_elements after_sited stepped b (stepped (around l) Begin) es) =
    ap (λ z. z.string) (opened_text b l m es e) in absurd (cc)

-- the text of an f-string that ends
abbrev pub IsEnded : Bool → Writing → Writing → Type 0
IsEnded b w x = (v : Writing) (es : List (Element Sited)) → b ≡ v.in_field → w ≡ puts_elements after_sited stepped b (stepped v Begin) es
    → x ≡ after_sited v (sited_in_utf8 (sited_string es))

module _ (b : Bool) (l m : Listed) (w x : Writing) (es : List (Element Sited))
    (site : b ≡ is_field l.string) (opened : m ≡ puts_elements listed_after listed_stepped b (listed_stepped l Begin) es)
    (is : m.string ≡ Some w)
    (ended : IsEnded b w x) where
  text_is : x ≡ after_sited (around l) (sited_in_utf8 (sited_string es))
  text_is =
      let t : Some w ≡ Some (puts_elements after_sited stepped b (stepped (around l) Begin) es) =
      sym is ∙ ap (λ z. z.string) (opened_text b l m es opened) in
      ended (around l) es (site ∙ site_of l) (cc)

  pub ended_in_field : b ≡ true → record { tokens = m.tokens; string = Some x } ≡ listed_after l (sited_in_utf8 (sited_string es))
  ended_in_field h =
      ap (λ (z : Listed). open_following z.tokens x) (opened_text b l m es opened)
      ∙ ends_in_field l x (sited_in_utf8 (sited_string es)) (sym site ∙ h) text_is

  pub ended_outside : b ≡ false
      → listed (m.tokens ++ record { kind = kinds.String; text = x.text } ∷ []) ≡ listed_after l (sited_in_utf8 (sited_string es))
  ended_outside h =
      ap (λ (z : Listed). listed (z.tokens ++ record { kind = kinds.String; text = x.text } ∷ [])) (opened_text b l m es opened)
      ∙ ends_outside l x es (sym site ∙ h) text_is
