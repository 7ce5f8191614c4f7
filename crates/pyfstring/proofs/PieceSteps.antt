-- Pieces, one after another.
-- Carries: inner_spec, inner_field, spec_pieces, spec, field, body_pieces, pieces.
use Rattle.std.proofs.Common.{◌≡◌, ℕ, Bool, true, false, List, [], ◌∷◌, drop, refl, sym, ap, ◌∙◌, Option, Some, None}
use Rattle.std.specs.Prelude.{option_map, is_some}
use Rattle.std.specs.Str.{chars}
use Rattle.pyfstring.specs.declared.fields.Front.{Front}
use Rattle.pyfstring.specs.declared.parts.Conversion.{Conversion}
use Rattle.pyfstring.specs.declared.parts.Field.{Field}
use Rattle.pyfstring.specs.declared.parts.Manner.{Manner}
use Rattle.pyfstring.specs.Characters.{colon}
use Rattle.pyfstring.specs.Texts.{begins_with}
use Rattle.pyfstring.specs.Parts.{FieldParts, BodyPart, field_of, text_of}
use Rattle.pyfstring.specs.Pieces.{conversion_of}
use Rattle.pyfstring.specs.Cutting.{Read, FrontParts, front_at, with_spec, spec_at, after_closing, field_at, cut_of, body_pieces_at}
use Rattle.pyfstring.specs.Inner.Passing.{is_nothing}
use Rattle.pyfstring.specs.Inner.Fronts.{front_of, IsWith}

pub is_some-map : {A B : Type 0} (f : A → B) (o : Option A) → is_some (option_map f o) ≡ is_some o
is_some-map f None = refl
is_some-map f (Some x) = refl

-- the field that a front and a spec are made
pub with_is : {S T : Type 0} (f : Front) (s : Option S) (made : Field S) (view : S → T) → IsWith f s made
    → with_spec (front_of f) (option_map view s) ≡ field_of view made
with_is {S} {T} f s made view w =
    let kept = ap (λ k. is_some k) (ap (option_map text_of) (sym w.kept)) in
    let k : conversion_of f.given (is_some (option_map text_of f.kept)) (is_some (option_map view s)) ≡ made.conversion =
    ap (λ (b : Bool). conversion_of f.given b (is_some (option_map view s))) (is_some-map text_of f.kept)
    ∙ ap (conversion_of f.given (is_some f.kept)) (is_some-map view s)
    ∙ sym w.conversion in
    let F : List ℕ → Option (List ℕ) → Conversion → Option T → FieldParts T =
    λ a b d e. record { text = a; kept = b; conversion = d; spec = e } in
    ap (λ (x : Conversion). F (chars f.text.now) (option_map text_of f.kept) x (option_map view s)) k
    ∙ ap (λ t. F (chars t.now) (option_map text_of f.kept) made.conversion (option_map view s)) (sym w.text)
    ∙ ap (λ x. F (chars made.text.now) (option_map text_of x) made.conversion (option_map view s)) (sym w.kept)
    ∙ ap (λ (x : Option S). F (chars made.text.now) (option_map text_of made.kept) made.conversion (option_map view x)) (sym w.spec)

module _ {S : Type 0} (spec : List ℕ → Read S) where
  pub spec_absent : (cs : List ℕ) → begins_with colon cs ≡ false → spec_at spec cs ≡ Some (None, cs)
  unfolding spec_at
  spec_absent cs e = rw (e, spec_at) refl

  pub spec_fails : (cs : List ℕ) → begins_with colon cs ≡ true → spec (drop 1 cs) ≡ None → spec_at spec cs ≡ None
  unfolding spec_at
  spec_fails cs e f = rw (e, f, spec_at) refl

  pub spec_given : (cs : List ℕ) (s : S) (r : List ℕ) → begins_with colon cs ≡ true → spec (drop 1 cs) ≡ Some (s, r)
      → spec_at spec cs ≡ Some (Some s, r)
  unfolding spec_at
  spec_given cs s r e f = rw (e, f, spec_at) refl

  pub field_no_front : (n : Bool) (cs : List ℕ) → front_at n cs ≡ None → field_at spec n cs ≡ None
  unfolding field_at
  field_no_front n cs e = rw e refl

  pub field_no_spec : (n : Bool) (cs : List ℕ) (f : FrontParts) (r : List ℕ) → front_at n cs ≡ Some (f, r) → spec_at spec r ≡ None
      → field_at spec n cs ≡ None
  unfolding field_at
  field_no_spec n cs f r e g = rw (e, g) refl

  pub field_no_closing : (n : Bool) (cs : List ℕ) (f : FrontParts) (r : List ℕ) (s : Option S) (u : List ℕ) → front_at n cs ≡ Some (f, r)
      → spec_at spec r ≡ Some (s, u) → after_closing u ≡ None → field_at spec n cs ≡ None
  unfolding field_at
  field_no_closing n cs f r s u e g h = rw (e, g, h) refl

  pub field_given : (n : Bool) (cs : List ℕ) (f : FrontParts) (r : List ℕ) (s : Option S) (u v : List ℕ) → front_at n cs ≡ Some (f, r)
      → spec_at spec r ≡ Some (s, u) → after_closing u ≡ Some v → field_at spec n cs ≡ Some (with_spec f s, v)
  unfolding field_at
  field_given n cs f r s u v e g h = rw (e, g, h) refl

-- ---- To the end.

pub ended : (m : Manner) (body : List ℕ) (ps : List BodyPart) (r : List ℕ) → body_pieces_at m body ≡ Some (ps, r) → is_nothing r ≡ true
    → cut_of m body ≡ Some ps
unfolding cut_of
ended m body ps [] e n = rw e refl
ended m body ps (c ∷ cs) e n = cc

pub not_ended : (m : Manner) (body : List ℕ) (ps : List BodyPart) (r : List ℕ) → body_pieces_at m body ≡ Some (ps, r)
    → is_nothing r ≡ false → cut_of m body ≡ None
unfolding cut_of
not_ended m body ps [] e n = cc
not_ended m body ps (c ∷ cs) e n = rw e refl

pub no_pieces : (m : Manner) (body : List ℕ) → body_pieces_at m body ≡ None → cut_of m body ≡ None
unfolding cut_of
no_pieces m body e = rw e refl
