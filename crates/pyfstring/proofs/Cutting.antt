-- The functions of Inner.Cutting read what the relations of Pieces say: pieces; and one step of a cut.
use Rattle.std.proofs.Common.{◌≡◌, ℕ, zero, suc, ◌≤◌, ◌<◌, Bool, true, false, List, [], ◌∷◌, ◌++◌, length, drop, refl, sym, ap, ◌∙◌, subst}
use Rattle.std.proofs.Common.{arith, Some, None, ◌⊎◌, inl, inr, append_assoc}
use Rattle.std.proofs.lemmas.Option.{option_and_then_some, some_pair_parts}
use Rattle.std.proofs.lemmas.Bool.{cases_Bool}
use Rattle.pyfstring.specs.declared.parts.Manner.{Manner}
use Rattle.pyfstring.specs.Characters.{left_curly_bracket}
use Rattle.pyfstring.specs.Texts.{begins_with, after_text}
use Rattle.pyfstring.specs.Parts.{FieldParts, Part, text, field, BodyPart}
use Rattle.pyfstring.specs.Pieces.{IsText, IsField, Cuts, last_text, and_field, IsInnerSpec, IsSpec, IsCut}
use Rattle.pyfstring.specs.Cutting.{before, Read, text_at, put_first, put_before, cut_within, cut_at, inner_field_at, spec_pieces_at}
use Rattle.pyfstring.specs.Cutting.{body_field_at, body_pieces_at, to_end, cut_of}
use Rattle.pyfstring.proofs.Fronts.{before_is, before_whole, ends_length, begins_is}
use Rattle.pyfstring.proofs.Scanning.{text_ends}
use Rattle.pyfstring.proofs.Reading.{Reads, map_some, text_reads, field_reads}

is_text : (is_raw has_pairs : Bool) (cs : List ℕ) → IsText is_raw has_pairs cs (before cs (after_text is_raw has_pairs cs))
    (after_text is_raw has_pairs cs)
is_text is_raw has_pairs cs = record { whole = before_whole cs _ (text_ends is_raw has_pairs cs); longest = refl }

-- ---- Parts that are known already.

pub put_two : {S : Type 0} (done : List (Part S)) (t : List ℕ) (f : FieldParts S) (o : Read (List (Part S)))
    → put_before done (put_first t f o) ≡ put_before ((done ++ text t ∷ []) ++ field f ∷ []) o
put_two done t f None = refl
put_two done t f (Some x) =
    ap (λ ps. Some (ps, x.1)) (sym (append_assoc (done ++ text t ∷ []) (field f ∷ []) x.0
    ∙ append_assoc done (text t ∷ []) (field f ∷ x.0)))

module _ {S : Type 0} (is_raw has_pairs : Bool) (fa : List ℕ → Read (FieldParts S)) (F : List ℕ → FieldParts S → List ℕ → Type 0)
    (reads : Reads fa F) where
  sound : (n : ℕ) (cs : List ℕ) (ps : List (Part S)) (r : List ℕ) → cut_within is_raw has_pairs fa n cs ≡ Some (ps, r)
      → Cuts is_raw has_pairs F cs ps r
  sound zero cs ps r e = cc
  sound (suc n) cs ps r e = at_brace (sound n) (cases_Bool (begins_with left_curly_bracket (after_text is_raw has_pairs cs)))
    where
      at_brace : ((ds : List ℕ) (qs : List (Part S)) (t : List ℕ) → cut_within is_raw has_pairs fa n ds ≡ Some (qs, t)
          → Cuts is_raw has_pairs F ds qs t) → (begins_with left_curly_bracket (after_text is_raw has_pairs cs) ≡ true) ⊎
          (begins_with left_curly_bracket (after_text is_raw has_pairs cs) ≡ false) → Cuts is_raw has_pairs F cs ps r
      at_brace more (inr b) =
          let z : ◌≡◌ {A = Read (List (Part S))} (Some (
            text (before cs (after_text is_raw has_pairs cs)) ∷ [],
            after_text is_raw has_pairs cs,
          )) (Some (ps, r)) = rw (b, cut_within) at e in
          let p = some_pair_parts _ _ _ _ z in
          subst (λ y. Cuts is_raw has_pairs F cs ps y) p.1 (subst (λ y. Cuts is_raw has_pairs F cs y (after_text is_raw has_pairs cs)) p.0
          (last_text (is_text is_raw has_pairs cs) b))
      at_brace more (inl b) =
          option_and_then_some _ (fa (drop 1 (after_text is_raw has_pairs cs))) (ps, r) (rw (b, cut_within) at e) (λ f ef hf.
          map_some _ (cut_within is_raw has_pairs fa n f.1) (ps, r) hf (λ x ex hx.
          let made : Cuts is_raw has_pairs F cs (text (before cs (after_text is_raw has_pairs cs)) ∷ field f.0 ∷ x.0) x.1 =
          and_field (subst (λ y. IsText is_raw has_pairs cs (before cs (after_text is_raw has_pairs cs)) y)
          (begins_is left_curly_bracket _ b) (is_text is_raw has_pairs cs)) (reads.sound (drop 1 (after_text is_raw has_pairs cs)) f.0
          f.1 ef) (more f.1 x.0 x.1 ex) in
          subst (λ (q : List (Part S) × List ℕ). Cuts is_raw has_pairs F cs q.0 q.1) hx made))

  complete : (n : ℕ) {cs : List ℕ} {ps : List (Part S)} {r : List ℕ} → Cuts is_raw has_pairs F cs ps r → length cs < n
      → cut_within is_raw has_pairs fa n cs ≡ Some (ps, r)
  complete zero c l = absurd (omega arith)
  complete (suc n) (last_text {cs = cs} {t = t} {rest = r} i b) l =
      let w : before cs (after_text is_raw has_pairs cs) ≡ t = ap (before cs) i.longest ∙ before_is cs t r i.whole in
      let stop : begins_with left_curly_bracket (after_text is_raw has_pairs cs) ≡ false =
      ap (begins_with left_curly_bracket) i.longest ∙ b in
      rw (stop, w, i.longest, cut_within) refl
  complete (suc n) (and_field {cs = cs} {t = t} {inside = inside} {following = following} {rest = r} {f = f} {parts = ps} i d c) l =
      let short : length (left_curly_bracket ∷ inside) ≤ length cs = ends_length cs _ (t, i.whole) in
      let less : length following ≤ length inside = reads.shorter inside f following d in
      let more : cut_within is_raw has_pairs fa n following ≡ Some (ps, r) = complete n c (omega arith) in
      let w : before cs (after_text is_raw has_pairs cs) ≡ t = ap (before cs) i.longest
      ∙ before_is cs t (left_curly_bracket ∷ inside) i.whole in
      let goes : begins_with left_curly_bracket (after_text is_raw has_pairs cs) ≡ true = ap (begins_with left_curly_bracket) i.longest in
      let first : fa (drop 1 (after_text is_raw has_pairs cs)) ≡ Some (f, following) = ap (λ (y : List ℕ). fa (drop 1 y)) i.longest
      ∙ reads.complete inside f following d in
      rw (goes, first, more, w, cut_within) refl

  below : {cs : List ℕ} {ps : List (Part S)} {r : List ℕ} → Cuts is_raw has_pairs F cs ps r → length r ≤ length cs
  below (last_text {cs = cs} {t = t} {rest = r} i b) = ends_length cs r (t, i.whole)
  below (and_field {cs = cs} {t = t} {inside = inside} {following = following} {rest = r} {f = f} i d c) =
      let short : length (left_curly_bracket ∷ inside) ≤ length cs = ends_length cs _ (t, i.whole) in
      let less : length following ≤ length inside = reads.shorter inside f following d in
      let rest : length r ≤ length following = below c in
      omega arith

  pub cut_reads : Reads (cut_at is_raw has_pairs fa) (Cuts is_raw has_pairs F)
  unfolding cut_at
  cut_reads = record {
    sound = λ cs ps r e. sound (suc (length cs)) cs ps r e;
    complete = λ cs ps r c. complete (suc (length cs)) c (omega arith);
    shorter = λ cs ps r c. below c;
  }

  -- ---- One step of a cut.

  pub cut_stops : (cs : List ℕ) → begins_with left_curly_bracket (after_text is_raw has_pairs cs) ≡ false
      → cut_at is_raw has_pairs fa cs ≡ Some (text (before cs (after_text is_raw has_pairs cs)) ∷ [], after_text is_raw has_pairs cs)
  unfolding cut_at
  cut_stops cs b = rw (b, cut_within) refl

  pub cut_fails : (cs : List ℕ) → begins_with left_curly_bracket (after_text is_raw has_pairs cs) ≡ true
      → fa (drop 1 (after_text is_raw has_pairs cs)) ≡ None → cut_at is_raw has_pairs fa cs ≡ None
  unfolding cut_at
  cut_fails cs b e = rw (b, e, cut_within) refl

  pub enough : (n m : ℕ) (cs : List ℕ) → length cs < n → length cs < m → cut_within is_raw has_pairs fa n cs ≡ cut_within
      is_raw has_pairs fa m cs
  enough n m cs l k = same (cut_within is_raw has_pairs fa n cs) (cut_within is_raw has_pairs fa m cs) refl refl
    where
      same : (o p : Read (List (Part S))) → cut_within is_raw has_pairs fa n cs ≡ o → cut_within is_raw has_pairs fa m cs ≡ p
          → cut_within is_raw has_pairs fa n cs ≡ cut_within is_raw has_pairs fa m cs
      same None None e f = e ∙ sym f
      same (Some x) p e f = e ∙ sym (complete m (sound n cs x.0 x.1 e) k)
      same None (Some x) e f = complete n (sound m cs x.0 x.1 f) l ∙ sym f

  pub cut_goes : (cs : List ℕ) (f : FieldParts S) (r : List ℕ) → begins_with left_curly_bracket (after_text is_raw has_pairs cs) ≡ true
      → fa (drop 1 (after_text is_raw has_pairs cs)) ≡ Some (f, r)
      → cut_at is_raw has_pairs fa cs ≡ put_first (before cs (after_text is_raw has_pairs cs)) f (cut_at is_raw has_pairs fa r)
  unfolding cut_at
  cut_goes cs f r b e =
      let short : length (after_text is_raw has_pairs cs) ≤ length cs = ends_length cs _ (text_ends is_raw has_pairs cs) in
      let one = ap length (begins_is left_curly_bracket (after_text is_raw has_pairs cs) b) in
      let less : length r ≤ length (drop 1 (after_text is_raw has_pairs cs)) = reads.shorter _ f r (reads.sound _ f r e) in
      let same = enough (length cs) (suc (length r)) r (omega arith) (omega arith) in
      rw (b, e, same, cut_within) refl

  pub cut_shorter : (cs : List ℕ) (f : FieldParts S) (r : List ℕ) → begins_with left_curly_bracket (after_text is_raw has_pairs cs) ≡ true
      → fa (drop 1 (after_text is_raw has_pairs cs)) ≡ Some (f, r) → length r < length cs
  cut_shorter cs f r b e =
      let short : length (after_text is_raw has_pairs cs) ≤ length cs = ends_length cs _ (text_ends is_raw has_pairs cs) in
      let one = ap length (begins_is left_curly_bracket (after_text is_raw has_pairs cs) b) in
      let less : length r ≤ length (drop 1 (after_text is_raw has_pairs cs)) = reads.shorter _ f r (reads.sound _ f r e) in
      omega arith

  -- ---- A loop that has the parts up to `cs`.

  pub loop_ends : (old cs here t : List ℕ) (done parts : List (Part S)) → cut_at is_raw has_pairs fa old ≡ put_before done
      (cut_at is_raw has_pairs fa cs) → here ≡ after_text is_raw has_pairs cs → t ≡ before cs here
      → begins_with left_curly_bracket here ≡ false → parts ≡ done ++ text t ∷ [] → cut_at is_raw has_pairs fa old ≡ Some (parts, here)
  loop_ends old cs here t done parts inv l w b p =
      inv
      ∙ ap (put_before done) (cut_stops cs (ap (begins_with left_curly_bracket) (sym l) ∙ b))
      ∙ ap (λ (x : List ℕ). Some (done ++ text (before cs x) ∷ [], x)) (sym l)
      ∙ ap (λ (x : List ℕ). Some (done ++ text x ∷ [], here)) (sym w)
      ∙ ap (λ (x : List (Part S)). Some (x, here)) (sym p)

  pub loop_fails : (old cs here : List ℕ) (done : List (Part S)) → cut_at is_raw has_pairs fa old ≡ put_before done
      (cut_at is_raw has_pairs fa cs) → here ≡ after_text is_raw has_pairs cs → begins_with left_curly_bracket here ≡ true
      → fa (drop 1 here) ≡ None → cut_at is_raw has_pairs fa old ≡ None
  loop_fails old cs here done inv l b e =
      inv ∙ ap (put_before done) (cut_fails cs (ap (begins_with left_curly_bracket) (sym l) ∙ b)
      (ap (λ (x : List ℕ). fa (drop 1 x)) (sym l) ∙ e))

  pub loop_goes : (old cs here t r : List ℕ) (f : FieldParts S) (done parts : List (Part S))
      → cut_at is_raw has_pairs fa old ≡ put_before done (cut_at is_raw has_pairs fa cs) → here ≡ after_text is_raw has_pairs cs
      → t ≡ before cs here → begins_with left_curly_bracket here ≡ true → fa (drop 1 here) ≡ Some (f, r)
      → parts ≡ (done ++ text t ∷ []) ++ field f ∷ [] → cut_at is_raw has_pairs fa old ≡ put_before parts (cut_at is_raw has_pairs fa r)
  loop_goes old cs here t r f done parts inv l w b e p =
      inv
      ∙ ap (put_before done) (cut_goes cs f r (ap (begins_with left_curly_bracket) (sym l) ∙ b)
      (ap (λ (x : List ℕ). fa (drop 1 x)) (sym l) ∙ e))
      ∙ put_two done (before cs (after_text is_raw has_pairs cs)) f (cut_at is_raw has_pairs fa r)
      ∙ ap (λ (x : List ℕ). put_before ((done ++ text x ∷ []) ++ field f ∷ []) (cut_at is_raw has_pairs fa r)) (sym (w ∙ ap (before cs) l))
      ∙ ap (λ (x : List (Part S)). put_before x (cut_at is_raw has_pairs fa r)) (sym p)

  pub loop_shorter : (cs here r : List ℕ) (f : FieldParts S) → here ≡ after_text is_raw has_pairs cs
      → begins_with left_curly_bracket here ≡ true → fa (drop 1 here) ≡ Some (f, r) → length r < length cs
  loop_shorter cs here r f l b e = cut_shorter cs f r (ap (begins_with left_curly_bracket) (sym l) ∙ b)
      (ap (λ (x : List ℕ). fa (drop 1 x)) (sym l) ∙ e)

-- ---- Both depths.

pub inner_field_reads : (m : Manner) → Reads (inner_field_at m) (IsField (IsInnerSpec m) m.is_nested)
unfolding inner_field_at
inner_field_reads m = field_reads (text_at m.is_raw false) (IsInnerSpec m) (text_reads m.is_raw false) m.is_nested

spec_reads : (m : Manner) → Reads (spec_pieces_at m) (IsSpec m)
unfolding spec_pieces_at
spec_reads m = cut_reads m.is_raw false (inner_field_at m) (IsField (IsInnerSpec m) m.is_nested) (inner_field_reads m)

pub body_field_reads : (m : Manner) → Reads (body_field_at m) (IsField (IsSpec m) m.is_nested)
unfolding body_field_at
body_field_reads m = field_reads (spec_pieces_at m) (IsSpec m) (spec_reads m) m.is_nested

body_reads : (m : Manner) → Reads (body_pieces_at m) (Cuts m.is_raw true (IsField (IsSpec m) m.is_nested))
unfolding body_pieces_at
body_reads m = cut_reads m.is_raw true (body_field_at m) (IsField (IsSpec m) m.is_nested) (body_field_reads m)

pub cut_of_sound : (m : Manner) (body : List ℕ) (ps : List BodyPart) → cut_of m body ≡ Some ps → IsCut m body ps
unfolding cut_of
cut_of_sound m body ps e = option_and_then_some to_end (body_pieces_at m body) ps e (λ x ex hx. ended x.0 x.1 ex hx)
  where
    ended : (qs : List BodyPart) (r : List ℕ) → body_pieces_at m body ≡ Some (qs, r) → to_end (qs, r) ≡ Some ps → IsCut m body ps
    ended qs [] ex hx = let y : qs ≡ ps = cc in subst (λ z. IsCut m body z) y ((body_reads m).sound body qs [] ex)
    ended qs (c ∷ cs) ex hx = cc

pub cut_of_complete : (m : Manner) (body : List ℕ) (ps : List BodyPart) → IsCut m body ps → cut_of m body ≡ Some ps
unfolding cut_of
cut_of_complete m body ps c = rw ((body_reads m).complete body ps [] c) refl
