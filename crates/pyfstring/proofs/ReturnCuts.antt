-- Pieces without their CRs.
-- Carries: pieces. On: ReturnFields.
use Rattle.std.proofs.Common.{◌≡◌, ℕ, zero, suc, ◌≤◌, Bool, true, false, List, [], ◌∷◌, length, drop, refl, sym, ap, ◌∙◌, subst, arith, ◌⊎◌}
use Rattle.std.proofs.Common.{inl, inr, Some, None}
use Rattle.std.specs.Prelude.{◌==◌, option_map, option_and_then, map}
use Rattle.std.proofs.lemmas.Option.{some_pair_parts}
use Rattle.std.proofs.lemmas.Bool.{cases_Bool}
use Rattle.pyfstring.specs.declared.parts.Manner.{Manner}
use Rattle.pyfstring.specs.Characters.{left_curly_bracket, carriage_return}
use Rattle.pyfstring.specs.Texts.{begins_with, after_text}
use Rattle.pyfstring.specs.Returns.{IsLined, nothing, character, line_end, without_returns, plain_field, plain_part, plain_spec}
use Rattle.pyfstring.specs.Returns.{plain_parts}
use Rattle.pyfstring.specs.Parts.{FieldParts, Part, text, BodyPart}
use Rattle.pyfstring.specs.Pieces.{IsField, IsInnerSpec, IsSpec, Cuts, last_text, and_field}
use Rattle.pyfstring.specs.Cutting.{before, Read, text_at, put_first, cut_within, cut_at, inner_field_at, spec_pieces_at, body_field_at}
use Rattle.pyfstring.specs.Cutting.{body_pieces_at, to_end, cut_of}
use Rattle.pyfstring.proofs.Fronts.{ends_drop}
use Rattle.pyfstring.proofs.Scanning.{text_ends}
use Rattle.pyfstring.proofs.Reading.{Reads}
use Rattle.pyfstring.proofs.Cutting.{inner_field_reads, body_field_reads, enough, cut_reads}
use Rattle.pyfstring.proofs.ReturnTexts.{plain_one, begins_same, text_same}
use Rattle.pyfstring.proofs.ReturnFields.{plain_none, before_same, lined_tail, lined_end, drop_same, both, Commutes, field_commutes}

plain_shorter : (cs : List ℕ) → length (without_returns cs) ≤ length cs
plain_shorter [] = omega arith
plain_shorter (c ∷ cs) = at (cases_Bool (c == carriage_return)) (plain_shorter cs)
  where
    at : ((c == carriage_return) ≡ true) ⊎ ((c == carriage_return) ≡ false) → length (without_returns cs) ≤ length cs
        → length (without_returns (c ∷ cs)) ≤ length (c ∷ cs)
    at (inl e) more = rw (plain_none c cs e) (omega arith)
    at (inr e) more = rw (plain_one c cs e) (omega arith)

module _ {S : Type 0} (r p : Bool) (fa : List ℕ → Read (FieldParts S)) (plain : S → S) (F : List ℕ → FieldParts S → List ℕ → Type 0)
    (reads : Reads fa F) (commutes : Commutes fa (plain_field plain)) where
  within_stops : (k : ℕ) (cs : List ℕ) → begins_with left_curly_bracket (after_text r p cs) ≡ false
      → cut_within r p fa (suc k) cs ≡ Some (text (before cs (after_text r p cs)) ∷ [], after_text r p cs)
  within_stops k cs b = rw (b, cut_within) refl

  within_fails : (k : ℕ) (cs : List ℕ) → begins_with left_curly_bracket (after_text r p cs) ≡ true
      → fa (drop 1 (after_text r p cs)) ≡ None → cut_within r p fa (suc k) cs ≡ None
  within_fails k cs b e = rw (b, e, cut_within) refl

  within_goes : (k : ℕ) (cs : List ℕ) (f : FieldParts S) (u : List ℕ) → begins_with left_curly_bracket (after_text r p cs) ≡ true
      → fa (drop 1 (after_text r p cs)) ≡ Some (f, u) → cut_within r p fa (suc k) cs ≡ put_first (before cs (after_text r p cs))
      f (cut_within r p fa k u)
  within_goes k cs f u b e = rw (b, e, cut_within) refl

  put_same : (t : List ℕ) (f : FieldParts S) (o : Read (List (Part S))) → put_first (without_returns t) (plain_field plain f)
      (both (map (plain_part plain)) o) ≡ both (map (plain_part plain)) (put_first t f o)
  put_same t f None = refl
  put_same t f (Some x) = refl

  next_same : (cs : List ℕ) → IsLined cs → begins_with left_curly_bracket (after_text r p (without_returns cs)) ≡ begins_with
      left_curly_bracket (after_text r p cs)
  next_same cs i = ap (begins_with left_curly_bracket) (text_same r p cs i) ∙ begins_same (λ d. d == left_curly_bracket) refl
      (lined_end cs (after_text r p cs) (text_ends r p cs) i)

  front_same : (cs : List ℕ) → IsLined cs → before (without_returns cs) (after_text r p (without_returns cs)) ≡ without_returns
      (before cs (after_text r p cs))
  front_same cs i = ap (before (without_returns cs)) (text_same r p cs i) ∙ before_same cs (after_text r p cs) (text_ends r p cs)

  inside_same : (cs : List ℕ) → IsLined cs → begins_with left_curly_bracket (after_text r p cs) ≡ true
      → fa (drop 1 (after_text r p (without_returns cs))) ≡ both (plain_field plain) (fa (drop 1 (after_text r p cs)))
  inside_same cs i b =
      let j = lined_end cs (after_text r p cs) (text_ends r p cs) i in
      ap (λ (x : List ℕ). fa (drop 1 x)) (text_same r p cs i) ∙ ap fa (drop_same left_curly_bracket (after_text r p cs) refl b)
      ∙ commutes.same (drop 1 (after_text r p cs)) (lined_end (after_text r p cs) _ (ends_drop 1 (after_text r p cs)) j)

  inside_lined : (cs : List ℕ) → IsLined cs → IsLined (drop 1 (after_text r p cs))
  inside_lined cs i = lined_end (after_text r p cs) _ (ends_drop 1 (after_text r p cs))
      (lined_end cs (after_text r p cs) (text_ends r p cs) i)

  within_same : (k : ℕ) (cs : List ℕ) → IsLined cs → cut_within r p fa k (without_returns cs) ≡ both (map (plain_part plain))
      (cut_within r p fa k cs)
  within_same zero cs i = refl
  within_same (suc k) cs i = at (within_same k) (cases_Bool (begins_with left_curly_bracket (after_text r p cs)))
      (fa (drop 1 (after_text r p cs))) refl
    where
      at : ((ds : List ℕ) → IsLined ds → cut_within r p fa k (without_returns ds) ≡ both (map (plain_part plain)) (cut_within r p fa k ds))
          → (begins_with left_curly_bracket (after_text r p cs) ≡ true) ⊎ (begins_with left_curly_bracket (after_text r p cs) ≡ false)
          → (o : Read (FieldParts S)) → fa (drop 1 (after_text r p cs)) ≡ o → cut_within r p fa (suc k) (without_returns cs) ≡ both
          (map (plain_part plain)) (cut_within r p fa (suc k) cs)
      at ih (inr b) _ _ =
          within_stops k (without_returns cs) (next_same cs i ∙ b)
          ∙ ap (λ (x : List ℕ). Some (text x ∷ [], after_text r p (without_returns cs))) (front_same cs i)
          ∙ ap (λ (x : List ℕ). Some (text (without_returns (before cs (after_text r p cs))) ∷ [], x)) (text_same r p cs i)
          ∙ ap (both (map (plain_part plain))) (sym (within_stops k cs b))
      at ih (inl b) None e =
          within_fails k (without_returns cs) (next_same cs i ∙ b) (inside_same cs i b ∙ ap (both (plain_field plain)) e)
          ∙ ap (both (map (plain_part plain))) (sym (within_fails k cs b e))
      at ih (inl b) (Some x) e =
          within_goes k (without_returns cs) (plain_field plain x.0) (without_returns x.1) (next_same cs i ∙ b) (inside_same cs i b
          ∙ ap (both (plain_field plain)) e)
          ∙ ap (λ (t : List ℕ). put_first t (plain_field plain x.0) (cut_within r p fa k (without_returns x.1))) (front_same cs i)
          ∙ ap (put_first (without_returns (before cs (after_text r p cs))) (plain_field plain x.0))
          (ih x.1 (commutes.lined (drop 1 (after_text r p cs)) x.0 x.1 (inside_lined cs i) e))
          ∙ put_same (before cs (after_text r p cs)) x.0 (cut_within r p fa k x.1)
          ∙ ap (both (map (plain_part plain))) (sym (within_goes k cs x.0 x.1 b e))

  cuts_lined : {cs : List ℕ} {ps : List (Part S)} {u : List ℕ} → Cuts r p F cs ps u → IsLined cs → IsLined u
  cuts_lined (last_text {cs = cs} {t = t} {rest = u} h b) i = lined_end cs u (t, h.whole) i
  cuts_lined (and_field {cs = cs} {t = t} {inside = inside} {following = following} {f = f} h d c) i =
      let j = lined_tail (lined_end cs (left_curly_bracket ∷ inside) (t, h.whole) i) in
      cuts_lined c (commutes.lined inside f following j (reads.complete inside f following d))

  cut_commutes : Commutes (cut_at r p fa) (map (plain_part plain))
  unfolding cut_at
  cut_commutes = record {
    same = λ cs i.
        enough r p fa F reads (suc (length (without_returns cs))) (suc (length cs)) (without_returns cs) (omega arith) (let l =
        plain_shorter cs in omega arith)
        ∙ within_same (suc (length cs)) cs i;
    lined = λ cs ps u i e. cuts_lined ((cut_reads r p fa F reads).sound cs ps u e) i;
  }

-- ---- Both depths.

text_commutes : (r : Bool) → Commutes (text_at r false) without_returns
unfolding text_at
text_commutes r = record {
  same = λ cs i.
      ap (λ (x : List ℕ). Some (before (without_returns cs) x, x)) (text_same r false cs i)
      ∙ ap (λ (x : List ℕ). Some (x, without_returns (after_text r false cs)))
      (before_same cs (after_text r false cs) (text_ends r false cs));
  lined = λ cs t u i e. let z = some_pair_parts _ _ _ _ e in
      subst (λ (x : List ℕ). IsLined x) z.1 (lined_end cs (after_text r false cs) (text_ends r false cs) i);
}

inner_field_commutes : (m : Manner) → Commutes (inner_field_at m) (plain_field without_returns)
unfolding inner_field_at
inner_field_commutes m = field_commutes (text_at m.is_raw false) without_returns (text_commutes m.is_raw) m.is_nested

spec_pieces_commutes : (m : Manner) → Commutes (spec_pieces_at m) plain_spec
unfolding spec_pieces_at
spec_pieces_commutes m = cut_commutes m.is_raw false (inner_field_at m) without_returns (IsField (IsInnerSpec m) m.is_nested)
    (inner_field_reads m) (inner_field_commutes m)

body_field_commutes : (m : Manner) → Commutes (body_field_at m) (plain_field plain_spec)
unfolding body_field_at
body_field_commutes m = field_commutes (spec_pieces_at m) plain_spec (spec_pieces_commutes m) m.is_nested

body_commutes : (m : Manner) → Commutes (body_pieces_at m) plain_parts
unfolding body_pieces_at
body_commutes m = cut_commutes m.is_raw true (body_field_at m) plain_spec (IsField (IsSpec m) m.is_nested)
    (body_field_reads m) (body_field_commutes m)

end_same : (ps : List BodyPart) {u : List ℕ} → IsLined u → to_end (plain_parts ps, without_returns u) ≡ option_map
    plain_parts (to_end (ps, u))
end_same ps nothing = refl
end_same ps (character {c = c} {cs = cs} e l) = ap (λ (x : List ℕ). to_end (plain_parts ps, x)) (plain_one c cs e)
end_same ps (line_end l) = refl

pub cut_of_same : (m : Manner) (body : List ℕ) → IsLined body → cut_of m (without_returns body) ≡ option_map plain_parts (cut_of m body)
unfolding cut_of
cut_of_same m body i = ap (option_and_then to_end) ((body_commutes m).same body i) ∙ at (body_pieces_at m body) refl
  where
    at : (o : Read (List BodyPart)) → body_pieces_at m body ≡ o → option_and_then to_end (both plain_parts o) ≡ option_map plain_parts
        (option_and_then to_end o)
    at None e = refl
    at (Some x) e = end_same x.0 ((body_commutes m).lined body x.0 x.1 i e)
