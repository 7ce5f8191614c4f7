-- Carries: set_aside, take_back, add, and who reads with places. The spans of some places, recorded or set aside, and where they are moved.
use Rattle.std.proofs.Common.{◌≡◌, refl, sym, ap, ◌∙◌, ℕ, List, [], ◌∷◌, ◌++◌, length, map, take, drop, append_assoc, append-nil}
use Rattle.std.proofs.Math.Seq.{take-append_seam, drop-append_seam}
use Rattle.std.proofs.lemmas.List.{take-map, drop-map, map-append}
use Rattle.pyparse_marks.specs.declared.spans.Span as given
use Rattle.pyplaces.specs.Stretches.{Span, Stretch, span_of}
use Rattle.pyplaces.specs.Recording.{Recording, recording, recorded, put_aside, emptied, afters, told}

same_recording : {ms ms' xs xs' ys ys' : List Span} → ms ≡ ms' → xs ≡ xs' → ys ≡ ys' → recording ms xs ys ≡ recording ms' xs' ys'
same_recording {ms} {ms'} {xs} {xs'} {ys} {ys'} a b c =
    ap (λ m. recording m xs ys) a ∙ (ap (λ x. recording ms' x ys) b ∙ ap (λ y. recording ms' xs' y) c)

pub recorded_all : (w : Recording) (ps : List Stretch)
    → afters recorded w ps ≡ recording w.marks (w.spans ++ map (span_of w.marks) ps) w.aside
recorded_all w [] = ap (λ x. recording w.marks x w.aside) (sym (append-nil w.spans))
recorded_all w (p ∷ ps) =
    recorded_all (recorded w p) ps
    ∙ ap (λ x. recording w.marks x w.aside) (append_assoc w.spans (span_of w.marks p ∷ []) (map (span_of w.marks) ps))

aside_all : (w : Recording) (ps : List Stretch) → afters put_aside w ps ≡ recording w.marks w.spans (w.aside ++ map (span_of w.marks) ps)
aside_all w [] = ap (λ x. recording w.marks w.spans x) (sym (append-nil w.aside))
aside_all w (p ∷ ps) =
    aside_all (put_aside w p) ps
    ∙ ap (λ x. recording w.marks w.spans x) (append_assoc w.aside (span_of w.marks p ∷ []) (map (span_of w.marks) ps))

-- what stays of spans that end with others, and what is moved
kept_front : (xs : List given.Span) (n : ℕ) (front back : List Span) → map told xs ≡ front ++ back → n ≡ length front
    → map told (take n xs) ≡ front
kept_front xs n front back e l =
    sym (take-map told n xs) ∙ (ap (take n) e ∙ (ap (λ k. take k (front ++ back)) l ∙ take-append_seam front back))

moved_back : (xs : List given.Span) (n : ℕ) (front back : List Span) → map told xs ≡ front ++ back → n ≡ length front
    → map told (drop n xs) ≡ back
moved_back xs n front back e l =
    sym (drop-map told n xs) ∙ (ap (drop n) e ∙ (ap (λ k. drop k (front ++ back)) l ∙ drop-append_seam front back))

joined : (ys xs : List given.Span) (n : ℕ) (others front back : List Span) → map told ys ≡ others → map told xs ≡ front ++ back
    → n ≡ length front → map told (ys ++ drop n xs) ≡ others ++ back
joined ys xs n others front back d e l =
    map-append told ys (drop n xs)
    ∙ (ap (λ z. z ++ map told (drop n xs)) d ∙ ap (λ z. others ++ z) (moved_back xs n front back e l))

pub set_aside_by : (ms : List Span) (xs xs' ys ys' : List given.Span) (n : ℕ) (w : Recording) (ps : List Stretch)
    → recording ms (map told xs) (map told ys) ≡ afters recorded w ps → n ≡ length w.spans
    → (xs' ≡ take n xs) × (ys' ≡ ys ++ drop n xs)
    → recording ms (map told xs') (map told ys') ≡ afters put_aside w ps
set_aside_by ms xs xs' ys ys' n w ps h l m =
    let e = h ∙ recorded_all w ps in
    same_recording (ap (λ r. r.marks) e)
    (ap (map told) m.0 ∙ kept_front xs n w.spans (map (span_of w.marks) ps) (ap (λ r. r.spans) e) l)
    (ap (map told) m.1 ∙ joined ys xs n w.aside w.spans (map (span_of w.marks) ps) (ap (λ r. r.aside) e) (ap (λ r. r.spans) e) l)
    ∙ sym (aside_all w ps)

pub take_back_by : (ms : List Span) (xs xs' ys ys' : List given.Span) (n : ℕ) (w : Recording) (ps : List Stretch)
    → recording ms (map told xs) (map told ys) ≡ afters put_aside w ps → n ≡ length w.aside
    → (ys' ≡ take n ys) × (xs' ≡ xs ++ drop n ys)
    → recording ms (map told xs') (map told ys') ≡ afters recorded w ps
take_back_by ms xs xs' ys ys' n w ps h l m =
    let e = h ∙ aside_all w ps in
    same_recording (ap (λ r. r.marks) e)
    (ap (map told) m.1 ∙ joined xs ys n w.spans w.aside (map (span_of w.marks) ps) (ap (λ r. r.spans) e) (ap (λ r. r.aside) e) l)
    (ap (map told) m.0 ∙ kept_front ys n w.aside (map (span_of w.marks) ps) (ap (λ r. r.aside) e) l)
    ∙ sym (recorded_all w ps)

-- those of another recorder of the line that had none
pub add_by : (w : Recording) (ms : List Span) (xs xs' : List given.Span) (ys os : List Span) (zs zs' : List given.Span) (others : List Span)
    (ps : List Stretch)
    → recording ms (map told xs) ys ≡ w → recording os (map told zs) others ≡ afters recorded (emptied w) ps
    → (zs' ≡ take 0 zs) × (xs' ≡ xs ++ drop 0 zs)
    → recording ms (map told xs') ys ≡ afters recorded w ps
add_by w ms xs xs' ys os zs zs' others ps v h m =
    let e = h ∙ recorded_all (emptied w) ps in
    same_recording (ap (λ r. r.marks) v)
    (ap (map told) m.1 ∙ joined xs zs 0 w.spans [] (map (span_of w.marks) ps) (ap (λ r. r.spans) v) (ap (λ r. r.spans) e) refl)
    (ap (λ r. r.aside) v)
    ∙ sym (recorded_all w ps)
