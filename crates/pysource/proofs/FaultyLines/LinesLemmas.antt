-- The first bad byte of a text against that of its lines.
--
-- Carries: utf8_len, first_bad, valid_len. On: ReturnsLemmas.
use Rattle.std.proofs.Common.{◌≡◌, ℕ, zero, suc, ◌+◌, ◌-◌, ◌<◌, ◌≤◌, Bool, List, [], ◌∷◌, ◌++◌, length, take, get_or, None, Some, Option}
use Rattle.std.proofs.Common.{sym, ap, subst, refl, inl, inr, ◌∙◌, arith, zero-le}
use Rattle.std.specs.Prelude.{◌==◌, ◌&&◌, ◌⊎◌, not, IsUtf8, MatchOption, nat_le, if◌then◌else◌}
use Rattle.std.specs.Str.{IsValidUpTo, is_utf8}
use Rattle.std.specs.Str.Lossy.{utf8_valid_len, valid_len_up_to}
use Rattle.std.specs.Option.{option_map_or}
use Rattle.std.proofs.lemmas.Bool.{cases_Bool, cases_lt, cases_eq, eq-eqb, ne_eqb, both_ways}
use Rattle.std.proofs.lemmas.List.{take_all, take_at, take-append-le, get_or_append_left, get_or-append-add, get_or_at, length-append}
use Rattle.std.proofs.lemmas.List.{drop_at}
use Rattle.std.proofs.lemmas.Str.{utf8_valid_len-IsUtf8, utf8_valid_len-IsValidUpTo, utf8_valid_len_le, IsUtf8-append, IsUtf8-take}
use Rattle.std.proofs.lemmas.Str.{IsUtf8-drop, IsUtf8-nil, IsUtf8-from_is_utf8, is_utf8-from_IsUtf8, IsCharBoundary-after_ascii}
use Rattle.pysource.specs.Places.{is_lf}
use Rattle.pysource.specs.declared.encodings.Charset.{Charset}
use Rattle.pysource.specs.declared.encodings.Charset.TheVariants.{Utf8, Ascii}
use Rattle.pysource.specs.declared.faults.LineError.{LineError}
use Rattle.pysource.specs.declared.faults.LineError.TheVariants.{NotUtf8, NotAscii, LoneReturn}
use Rattle.pysource.specs.Lines.{bad_at, lone_return_at, first_given, first_bad}
use Rattle.pysource.proofs.FaultyLines.ReturnsLemmas.{lone_none_byte}

-- UTF-8 is valid whole
pub valid_all : (bs : List ℕ) → IsUtf8 bs → length bs ≡ utf8_valid_len bs
valid_all bs u = sym (utf8_valid_len-IsUtf8 bs u)

-- The valid front is UTF-8, and no longer front is.
up_to_front : (bs : List ℕ) (m : ℕ) → IsUtf8 (take (valid_len_up_to bs m) bs)
up_to_front bs zero = IsUtf8-nil
up_to_front bs (suc m) = elim (cases_Bool (is_utf8 (take (suc m) bs))) [
  | inl passed ↦ rw passed (IsUtf8-from_is_utf8 (take (suc m) bs) passed)
  | inr never ↦ rw never (up_to_front bs m)
]

up_to_longest : (bs : List ℕ) (m k : ℕ) → valid_len_up_to bs m < k → k ≤ m → IsUtf8 (take k bs) → ⊥
up_to_longest bs zero k more within u = omega arith
up_to_longest bs (suc m) k more within u = elim (cases_Bool (is_utf8 (take (suc m) bs))) [
  | inl passed ↦ let past = rw passed at more in omega (arith, past)
  | inr never ↦ elim (cases_eq k (suc m)) [
    | inl same ↦ both_ways (is_utf8 (take (suc m) bs)) never
        (is_utf8-from_IsUtf8 (take (suc m) bs) (subst (λ (n : ℕ). IsUtf8 (take n bs)) same u))
    | inr other ↦ up_to_longest bs m k (rw never at more) (omega arith) u
  ]
]

pub valid_front : (bs : List ℕ) → IsUtf8 (take (utf8_valid_len bs) bs)
unfolding utf8_valid_len
valid_front bs = up_to_front bs (length bs)

pub valid_whole : (bs : List ℕ) → utf8_valid_len bs ≡ length bs → IsUtf8 bs
valid_whole bs e = subst IsUtf8 (take_all (length bs) bs (omega arith)) (subst (λ (n : ℕ). IsUtf8 (take n bs)) e (valid_front bs))

-- bytes are UTF-8, or stop being it after the valid front
pub valid_cases : (bs : List ℕ) → IsUtf8 bs ⊎ IsValidUpTo bs (utf8_valid_len bs)
unfolding utf8_valid_len
valid_cases bs = elim (cases_lt (utf8_valid_len bs) (length bs)) [
  | inl short ↦ inr (record {
    short = short;
    front = valid_front bs;
    longest = λ m more u. elim (cases_lt (length bs) m) [
      | inl past ↦ up_to_longest bs (length bs) (length bs) short (omega arith) (let same : take m bs ≡ take (length bs) bs =
          take_all m bs (omega arith) ∙ sym (take_all (length bs) bs (omega arith)) in subst IsUtf8 same u)
      | inr within ↦ up_to_longest bs (length bs) m more within u
    ];
  })
  | inr whole ↦ inl (valid_whole bs (let within = utf8_valid_len_le bs in omega arith))
]

-- Below, a line is a front and its LF.
pub line_text : (front rest : List ℕ) → IsUtf8 ((front ++ 10 ∷ []) ++ rest) → IsUtf8 (front ++ 10 ∷ [])
line_text front rest u =
    let l = front ++ 10 ∷ [] in
    let long : length l ≡ length front + 1 = length-append front (10 ∷ []) in
    let at : get_or (l ++ rest) (length front) 0 ≡ 10 = get_or_append_left l rest 0 (length front) (omega arith)
    ∙ get_or_at front 10 [] 0 (length front) refl in
    let inside : length front < length (l ++ rest) = simp length-append (omega arith) in
    let cut = IsUtf8-take (l ++ rest) (length front + 1) u (IsCharBoundary-after_ascii (l ++ rest) (length front) u inside (omega arith)) in
    subst IsUtf8 (take_at l rest (length front + 1) long) cut

pub rest_text : (front rest : List ℕ) → IsUtf8 ((front ++ 10 ∷ []) ++ rest) → IsUtf8 rest
rest_text front rest u =
    let l = front ++ 10 ∷ [] in
    let long : length l ≡ length front + 1 = length-append front (10 ∷ []) in
    let at : get_or (l ++ rest) (length front) 0 ≡ 10 = get_or_append_left l rest 0 (length front) (omega arith)
    ∙ get_or_at front 10 [] 0 (length front) refl in
    let inside : length front < length (l ++ rest) = simp length-append (omega arith) in
    let cut = IsUtf8-drop (l ++ rest) (length front + 1) u (IsCharBoundary-after_ascii (l ++ rest) (length front) u inside (omega arith)) in
    subst IsUtf8 (drop_at l rest (length front + 1) long) cut

pub take_over : (l rest : List ℕ) (m : ℕ) → length l ≤ m → take m (l ++ rest) ≡ l ++ take (m - length l) rest
take_over [] rest m h = ap (λ (n : ℕ). take n rest) (let e : m ≡ m - 0 = omega arith in e)
take_over (x ∷ l) rest zero h = absurd (omega arith)
take_over (x ∷ l) rest (suc m) h =
    let e : m - length l ≡ suc m - suc (length l) = omega arith in
    ap (λ (t : List ℕ). x ∷ t) (take_over l rest m (omega arith) ∙ ap (λ (n : ℕ). l ++ take n rest) e)

valid_seam_bad : (front rest : List ℕ) → IsValidUpTo (front ++ 10 ∷ []) (utf8_valid_len (front ++ 10 ∷ []))
    → utf8_valid_len ((front ++ 10 ∷ []) ++ rest) ≡ utf8_valid_len (front ++ 10 ∷ [])
valid_seam_bad front rest v =
    let l = front ++ 10 ∷ [] in
    utf8_valid_len-IsValidUpTo (l ++ rest) (utf8_valid_len l) (record {
      short = let whole = length-append l rest in omega (arith, v.short, whole);
      front = rw (take-append-le (utf8_valid_len l) l rest (omega (arith, v.short))) v.front;
      longest = λ m more u. elim (cases_lt m (length l)) [
        | inl inside ↦ v.longest m more (rw (take-append-le m l rest (omega arith)) at u)
        | inr past ↦ v.longest (length l) v.short
            (rw (take_all (length l) l (omega arith)) (line_text front (take (m - length l) rest) (rw (take_over l rest m past) at u)))
      ];
    })

valid_seam_good : (front rest : List ℕ) → IsUtf8 (front ++ 10 ∷ []) → utf8_valid_len ((front ++ 10 ∷ []) ++ rest) ≡ length
    (front ++ 10 ∷ []) + utf8_valid_len rest
valid_seam_good front rest u =
    let l = front ++ 10 ∷ [] in
    elim (valid_cases rest) [
      | inl whole ↦ utf8_valid_len-IsUtf8 (l ++ rest) (IsUtf8-append l rest u whole) ∙ length-append l rest
          ∙ ap (λ (n : ℕ). length l + n) (sym (utf8_valid_len-IsUtf8 rest whole))
      | inr v ↦ utf8_valid_len-IsValidUpTo (l ++ rest) (length l + utf8_valid_len rest) (record {
        short = let whole = length-append l rest in omega (arith, v.short, whole);
        front =
            let over = take_over l rest (length l + utf8_valid_len rest) (omega arith) in
            let less : length l + utf8_valid_len rest - length l ≡ utf8_valid_len rest = omega arith in
            rw (over, less) (IsUtf8-append l (take (utf8_valid_len rest) rest) u v.front);
        longest = λ m more w.
            v.longest (m - length l) (omega arith)
            (rest_text front (take (m - length l) rest) (rw (take_over l rest m (omega arith)) at w));
      })
    ]

-- What a search found, and that it is found.
abbrev pub Found : {X : Type 0} → (ℕ → Option X) → ℕ → ℕ → Option (ℕ × X) → Type 0
Found f i n r = MatchOption r ((k : ℕ) → i ≤ k → k < i + n → f k ≡ None) (λ q. (i ≤ q.0) × (q.0 < i + n) × (f q.0 ≡ Some q.1) × ((k : ℕ)
    → i ≤ k → k < q.0 → f k ≡ None))

-- the search finds the first place that gives something
pub first_given_at : {X : Type 0} (f : ℕ → Option X) (i n p : ℕ) (x : X) → i ≤ p → p < i + n → f p ≡ Some x
    → ((k : ℕ) → i ≤ k → k < p → f k ≡ None) → first_given f i n ≡ Some (p, x)
first_given_at f i zero p x low high here before = absurd (omega arith)
first_given_at {X} f i (suc n) p x low high here before = elim (cases_eq i p) [
  | inl same ↦ let at : f i ≡ Some x = ap f same ∙ here in rw at (ap (λ (k : ℕ). let r : Option (ℕ × X) = Some (k, x) in r) same)
  | inr other ↦ let none = before i (omega arith) (omega arith) in
      rw none (first_given_at f (i + 1) n p x (omega arith) (omega arith) here (λ k l h. before k (omega arith) h))
]

-- or nothing where no place does
pub first_given_none : {X : Type 0} (f : ℕ → Option X) (i n : ℕ) → ((k : ℕ) → i ≤ k → k < i + n → f k ≡ None) → first_given f i n ≡ None
first_given_none f i zero none = refl
first_given_none f i (suc n) none =
    let here = none i (omega arith) (omega arith) in
    rw here (first_given_none f (i + 1) n (λ k l h. none k (omega arith) (omega arith)))

widen : {X : Type 0} (f : ℕ → Option X) (i n : ℕ) (r : Option (ℕ × X)) → f i ≡ None → Found f (i + 1) n r → Found f i (suc n) r
widen f i n None e found = λ k l h. elim (cases_eq k i) [ inl same ↦ ap f same ∙ e | inr other ↦ found k (omega arith) (omega arith) ]
widen f i n (Some q) e found = (
  omega (arith, found.0),
  omega (arith, found.1),
  found.2,
  λ k l h. elim (cases_eq k i) [
    | inl same ↦ ap f same ∙ e
    | inr other ↦ found.3 k (omega arith) h
  ],
)

found_step : {X : Type 0} (f : ℕ → Option X) (i n : ℕ) (o : Option X) → f i ≡ o → Found f (i + 1) n (first_given f (i + 1) n)
    → Found f i (suc n) (option_map_or (λ x. Some (i, x)) o (first_given f (i + 1) n))
found_step f i n (Some x) e found = (omega arith, omega arith, e, λ k l h. absurd (omega arith))
found_step f i n None e found = widen f i n (first_given f (i + 1) n) e found

pub first_given_found : {X : Type 0} (f : ℕ → Option X) (i n : ℕ) → Found f i n (first_given f i n)
first_given_found f i zero = λ k l h. absurd (omega arith)
first_given_found f i (suc n) = found_step f i n (f i) refl (first_given_found f (i + 1) n)

pub bad_found : (c : Charset) (l : List ℕ) (r : Option (ℕ × LineError)) → first_bad c l ≡ r → Found (bad_at c l) 0 (length l) r
bad_found c l r e = subst (λ (x : Option (ℕ × LineError)). Found (bad_at c l) 0 (length l) x) e
    (first_given_found (bad_at c l) 0 (length l))

-- A byte of a line is as bad in the whole.
lone : ℕ → ℕ → Option LineError
lone a b = if a == 13 && not (is_lf b) then Some LoneReturn else None

lone_local : (front rest : List ℕ) (i : ℕ) → i < length (front ++ 10 ∷ [])
    → lone_return_at ((front ++ 10 ∷ []) ++ rest) i ≡ lone_return_at (front ++ 10 ∷ []) i
unfolding lone
lone_local front rest i h =
    let l = front ++ 10 ∷ [] in
    let here = get_or_append_left l rest 0 i h in
    let long : length l ≡ length front + 1 = length-append front (10 ∷ []) in
    elim (cases_eq (i + 1) (length l)) [
      | inl end ↦
          let lf : get_or l i 0 ≡ 10 = get_or_at front 10 [] 0 i (omega arith) in
          lone_none_byte (l ++ rest) i (λ e. absurd (omega (arith, here, lf, e)))
          ∙ sym (lone_none_byte l i (λ e. absurd (omega (arith, lf, e))))
      | inr inner ↦
          let next = get_or_append_left l rest 0 (i + 1) (omega arith) in
          ap (λ (a : ℕ). lone a (get_or (l ++ rest) (i + 1) 0)) here ∙ ap (λ (b : ℕ). lone (get_or l i 0) b) next
    ]

lone_shift : (l rest : List ℕ) (j : ℕ) → lone_return_at (l ++ rest) (length l + j) ≡ lone_return_at rest j
unfolding lone
lone_shift l rest j =
    let here = get_or-append-add l rest j 0 in
    let place : length l + j + 1 ≡ length l + (j + 1) = omega arith in
    let next = ap (λ (k : ℕ). get_or (l ++ rest) k 0) place ∙ get_or-append-add l rest (j + 1) 0 in
    ap (λ (a : ℕ). lone a (get_or (l ++ rest) (length l + j + 1) 0)) here ∙ ap (λ (b : ℕ). lone (get_or rest j 0) b) next

bad_local : (c : Charset) (front rest : List ℕ) (i : ℕ) → i < length (front ++ 10 ∷ [])
    → bad_at c ((front ++ 10 ∷ []) ++ rest) i ≡ bad_at c (front ++ 10 ∷ []) i
bad_local Ascii front rest i h =
    let l = front ++ 10 ∷ [] in
    ap (λ (a : ℕ). if nat_le 128 a then Some NotAscii else lone_return_at (l ++ rest) i) (get_or_append_left l rest 0 i h)
    ∙ ap (λ (o : Option LineError). if nat_le 128 (get_or l i 0) then Some NotAscii else o) (lone_local front rest i h)
bad_local Utf8 front rest i h =
    let l = front ++ 10 ∷ [] in
    let test : (i == utf8_valid_len (l ++ rest)) ≡ (i == utf8_valid_len l) = elim (valid_cases l) [
      | inl u ↦
          let all = valid_all l u in
          let seam = valid_seam_good front rest u in
          ne_eqb i (utf8_valid_len (l ++ rest)) (λ e. absurd (omega (arith, e, seam)))
          ∙ sym (ne_eqb i (utf8_valid_len l) (λ e. absurd (omega (arith, e, all))))
      | inr v ↦ ap (λ (n : ℕ). i == n) (valid_seam_bad front rest v)
    ] in
    ap (λ (b : Bool). if b then Some NotUtf8 else lone_return_at (l ++ rest) i) test
    ∙ ap (λ (o : Option LineError). if i == utf8_valid_len l then Some NotUtf8 else o) (lone_local front rest i h)

good_is_text : (l : List ℕ) → first_bad Utf8 l ≡ None → IsUtf8 l
good_is_text l good = elim (valid_cases l) [
  | inl u ↦ u
  | inr v ↦
      let none : bad_at Utf8 l (utf8_valid_len l) ≡ None = bad_found Utf8 l None good (utf8_valid_len l) zero-le (omega (arith, v.short)) in
      let some : bad_at Utf8 l (utf8_valid_len l) ≡ Some NotUtf8 = rw (eq-eqb (utf8_valid_len l) (utf8_valid_len l) refl) refl in
      cc
]

eqb_add : (a j v : ℕ) → (a + j == a + v) ≡ (j == v)
eqb_add a j v = elim (cases_eq j v) [
  | inl e ↦ eq-eqb (a + j) (a + v) (omega arith) ∙ sym (eq-eqb j v e)
  | inr d ↦ ne_eqb (a + j) (a + v) (λ e. d (omega arith)) ∙ sym (ne_eqb j v d)
]

bad_shift : (c : Charset) (front rest : List ℕ) (j : ℕ) → first_bad c (front ++ 10 ∷ []) ≡ None
    → bad_at c ((front ++ 10 ∷ []) ++ rest) (length (front ++ 10 ∷ []) + j) ≡ bad_at c rest j
bad_shift Ascii front rest j good =
    let l = front ++ 10 ∷ [] in
    ap (λ (a : ℕ). if nat_le 128 a then Some NotAscii else lone_return_at (l ++ rest) (length l + j)) (get_or-append-add l rest j 0)
    ∙ ap (λ (o : Option LineError). if nat_le 128 (get_or rest j 0) then Some NotAscii else o) (lone_shift l rest j)
bad_shift Utf8 front rest j good =
    let l = front ++ 10 ∷ [] in
    let test : (length l + j == utf8_valid_len (l ++ rest)) ≡ (j == utf8_valid_len rest) =
    ap (λ (n : ℕ). length l + j == n) (valid_seam_good front rest (good_is_text l good)) ∙ eqb_add (length l) j (utf8_valid_len rest) in
    ap (λ (b : Bool). if b then Some NotUtf8 else lone_return_at (l ++ rest) (length l + j)) test
    ∙ ap (λ (o : Option LineError). if j == utf8_valid_len rest then Some NotUtf8 else o) (lone_shift l rest j)

-- A bad first line is what is bad in the whole.
pub first_bad_line : (c : Charset) (front rest : List ℕ) (q : ℕ × LineError) → first_bad c (front ++ 10 ∷ []) ≡ Some q
    → first_bad c ((front ++ 10 ∷ []) ++ rest) ≡ Some q
first_bad_line c front rest q e =
    let l = front ++ 10 ∷ [] in
    let found = bad_found c l (Some q) e in
    let whole = length-append l rest in
    let inside : q.0 < length l = omega (arith, found.1) in
    first_given_at (bad_at c (l ++ rest)) 0 (length (l ++ rest)) q.0 q.1 zero-le (omega (arith, whole))
    (bad_local c front rest q.0 inside ∙ found.2)
    (λ k low high. bad_local c front rest k (omega arith) ∙ found.3 k low high)

-- After a good first line it is what is bad in the rest.
before_in_rest : (c : Charset) (front rest : List ℕ) (p : ℕ) → first_bad c (front ++ 10 ∷ []) ≡ None
    → ((k : ℕ) → 0 ≤ k → k < p → bad_at c rest k ≡ None) → (k : ℕ) → k < length (front ++ 10 ∷ []) + p
    → bad_at c ((front ++ 10 ∷ []) ++ rest) k ≡ None
before_in_rest c front rest p good before k h =
    let l = front ++ 10 ∷ [] in
    elim (cases_lt k (length l)) [
      | inl inside ↦ bad_local c front rest k inside ∙ bad_found c l None good k zero-le (omega arith)
      | inr past ↦
          let at : length l + (k - length l) ≡ k = omega arith in
          subst (λ (n : ℕ). bad_at c (l ++ rest) n ≡ None) at (bad_shift c front rest (k - length l) good
          ∙ before (k - length l) zero-le (omega arith))
    ]

pub first_bad_next : (c : Charset) (front rest : List ℕ) (q : ℕ × LineError) → first_bad c (front ++ 10 ∷ []) ≡ None
    → first_bad c rest ≡ Some q → first_bad c ((front ++ 10 ∷ []) ++ rest) ≡ Some (length (front ++ 10 ∷ []) + q.0, q.1)
first_bad_next c front rest q good e =
    let l = front ++ 10 ∷ [] in
    let found = bad_found c rest (Some q) e in
    let whole = length-append l rest in
    first_given_at (bad_at c (l ++ rest)) 0 (length (l ++ rest)) (length l + q.0) q.1 zero-le (omega (arith, whole, found.1))
    (bad_shift c front rest q.0 good ∙ found.2)
    (λ k low high. before_in_rest c front rest q.0 good found.3 k high)

pub first_bad_neither : (c : Charset) (front rest : List ℕ) → first_bad c (front ++ 10 ∷ []) ≡ None → first_bad c rest ≡ None
    → first_bad c ((front ++ 10 ∷ []) ++ rest) ≡ None
first_bad_neither c front rest good e =
    let l = front ++ 10 ∷ [] in
    let found = bad_found c rest None e in
    let whole = length-append l rest in
    first_given_none (bad_at c (l ++ rest)) 0 (length (l ++ rest)) (λ k low high. before_in_rest c front rest (length rest) good
    (λ j a b. found j a (omega arith)) k (omega (arith, whole)))
