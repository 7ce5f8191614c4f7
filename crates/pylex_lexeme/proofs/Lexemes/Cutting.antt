-- A text's bytes, cut after some of its characters.
--
-- Carries: cut. On: Union.
use Rattle.std.proofs.Common.{◌≡◌, ℕ, ◌+◌, ◌-◌, ◌≤◌, ◌<◌, true, List, [], ◌∷◌, ◌++◌, length, drop, take, refl, sym, ◌∙◌, ap}
use Rattle.std.proofs.Common.{subst, Option, Some, None, arith, length-append, option_map, zero, suc}
use Rattle.std.specs.Str.{chars, IsUtf8, IsCharBoundary}
use lib.Utf8.{scalar, scalars, encodes}
use Rattle.std.proofs.lemmas.Str.{encodes-append, encodes-chars, scalars-chars, chars-encodes, IsCharBoundary-at_seam}
use Rattle.std.proofs.lemmas.List.{take-append-drop}
use Rattle.std.proofs.Math.Seq.{take-append_seam, drop-append_seam}
use Rattle.std.proofs.lemmas.Bool.{and_parts}
use Rattle.pylex_lexeme.specs.declared.lexeme.Class.{Class}
use Rattle.pylex_lexeme.specs.Lexemes.{Lexeme, class_in, lexeme_len, lexeme_at}
use Rattle.pylex_lexeme.specs.Cuts.{TakesLexeme, Cuts}
use Rattle.pylex_lexeme.proofs.Lexemes.Union.{class_at, class_none}

scalars_take : (n : ℕ) (cs : List ℕ) → scalars cs ≡ true → scalars (take n cs) ≡ true
scalars_take zero cs e = refl
scalars_take (suc n) [] e = refl
scalars_take (suc n) (c ∷ cs) e = let p = and_parts (scalar c) (scalars cs) e in rw p.0 (scalars_take n cs p.1)

scalars_drop : (n : ℕ) (cs : List ℕ) → scalars cs ≡ true → scalars (drop n cs) ≡ true
scalars_drop zero cs e = e
scalars_drop (suc n) [] e = refl
scalars_drop (suc n) (c ∷ cs) e = let p = and_parts (scalar c) (scalars cs) e in scalars_drop n cs p.1

pub front_of : ℕ → List ℕ → List ℕ
front_of n bs = encodes (take n (chars bs))

pub back_of : ℕ → List ℕ → List ℕ
back_of n bs = encodes (drop n (chars bs))

pub seam : (n : ℕ) (bs : List ℕ) → IsUtf8 bs → bs ≡ front_of n bs ++ back_of n bs
unfolding front_of back_of
seam n bs u = sym (encodes-chars bs u) ∙ ap encodes (sym (take-append-drop n (chars bs)))
    ∙ encodes-append (take n (chars bs)) (drop n (chars bs))

pub back_utf8 : (n : ℕ) (bs : List ℕ) → IsUtf8 bs → IsUtf8 (back_of n bs)
unfolding back_of
back_utf8 n bs u = (drop n (chars bs), (scalars_drop n (chars bs) (scalars-chars bs u), refl))

-- where the front ends
front_len : (n : ℕ) (bs new : List ℕ) → IsUtf8 bs → new ≡ drop n (chars bs)
    → (length (encodes new) ≤ length bs) × (length bs - length (encodes new) ≡ length (front_of n bs))
unfolding back_of
front_len n bs new u e =
    let whole : length bs ≡ length (front_of n bs) + length (back_of n bs) = ap length (seam n bs u)
    ∙ length-append (front_of n bs) (back_of n bs) in
    let same : length (encodes new) ≡ length (back_of n bs) = ap (λ cs. length (encodes cs)) e in
    (omega arith, omega arith)

pub boundary : (n : ℕ) (bs new : List ℕ) → IsUtf8 bs → new ≡ drop n (chars bs) → (length (encodes new) ≤ length bs) × IsCharBoundary bs
    (length bs - length (encodes new))
boundary n bs new u e =
    let l = front_len n bs new u e in (
      l.0,
      subst (λ (i : ℕ). IsCharBoundary bs i) (sym l.1) (IsCharBoundary-at_seam bs (front_of n bs) (back_of n bs)
          (seam n bs u) (back_utf8 n bs u)),
    )

front_utf8 : (n : ℕ) (bs : List ℕ) → IsUtf8 bs → IsUtf8 (front_of n bs)
unfolding front_of
front_utf8 n bs u = (take n (chars bs), (scalars_take n (chars bs) (scalars-chars bs u), refl))

not_empty : (cs t : List ℕ) (k : Class) → class_in cs t ≡ Some k → 0 < length t
not_empty cs [] k e = let f : None ≡ Some k = sym (class_none cs) ∙ e in cc
not_empty cs (c ∷ t) k e = omega arith

at_len : (cs new : List ℕ) (k : Class) → TakesLexeme cs (Some k) new → class_in cs (take (lexeme_len cs) cs) ≡ Some k
at_len cs new k t = sym (class_at cs) ∙ sym t.«class»

pub cuts_is : (k : Class) (bs new front back : List ℕ) → IsUtf8 bs → TakesLexeme (chars bs) (Some k) new
    → front ≡ take (length bs - length (encodes new)) bs → back ≡ drop (length bs - length (encodes new)) bs → Cuts bs k front back
unfolding front_of back_of lexeme_at
cuts_is k bs new front back u t f b =
    let n : ℕ = lexeme_len (chars bs) in
    let l : length bs - length (encodes new) ≡ length (front_of n bs) = (front_len n bs new u t.rest).1 in
    let whole : bs ≡ front_of n bs ++ back_of n bs = seam n bs u in
    let f' : front ≡ front_of n bs = f ∙ ap (λ i. take i bs) l ∙ ap (take (length (front_of n bs))) whole
    ∙ take-append_seam (front_of n bs) (back_of n bs) in
    let b' : back ≡ back_of n bs = b ∙ ap (λ i. drop i bs) l ∙ ap (drop (length (front_of n bs))) whole
    ∙ drop-append_seam (front_of n bs) (back_of n bs) in
    let cf : chars front ≡ take n (chars bs) = ap chars f'
    ∙ chars-encodes (take n (chars bs)) (scalars_take n (chars bs) (scalars-chars bs u)) in
    let here : class_in (chars bs) (take n (chars bs)) ≡ Some k = at_len (chars bs) new k t in
    let some : 0 < length (take n (chars bs)) = not_empty (chars bs) (take n (chars bs)) k here in
    let cb : chars back ≡ drop n (chars bs) = ap chars b'
    ∙ chars-encodes (drop n (chars bs)) (scalars_drop n (chars bs) (scalars-chars bs u)) in
    record {
      lexeme = rw (here, cf) refl;
      whole = rw (cf, cb) (sym (take-append-drop n (chars bs)));
      counted = rw (cf, f') refl;
      sizes = ap length whole ∙ length-append (front_of n bs) (back_of n bs) ∙ rw (f', b') refl;
      nonempty = rw cf some;
      front_utf8 = subst IsUtf8 (sym f') (front_utf8 n bs u);
      back_utf8 = subst IsUtf8 (sym b') (back_utf8 n bs u);
    }

pub none_is : (cs new : List ℕ) → TakesLexeme cs None new → lexeme_at cs ≡ None
none_is cs new t = of (lexeme_at cs) t.«class»
  where
    of : (o : Option Lexeme) → None ≡ option_map (λ (x : Lexeme). x.«class») o → o ≡ None
    of None e = refl
    of (Some x) e = cc
