-- Where the lines of a text start, and the places that are shown by that.
--
-- Carries: line_starts, lines_up_to, shown_at, Places::new.
use Rattle.std.proofs.Common.{◌≡◌, refl, sym, ap, ◌∙◌, ℕ, zero, suc, ◌+◌, ◌-◌, ◌<◌, ◌≤◌, arith, List, [], ◌∷◌, Bool, true, false}
use Rattle.std.proofs.Common.{cond}
use Rattle.pysource.specs.Limits.{source_limit}
use Rattle.std.proofs.Common.{◌==◌, ◌^◌, subst, length, drop, get_or, nat_lt}
use Rattle.std.specs.Prelude.{nat_le, slice_index, slice_index_or, map}
use Rattle.std.proofs.lemmas.Bool.{ltb-true, ltb-false, leb-true, leb-false}
use Rattle.pytree_marked.specs.MarkedNodes.{Attributes}
use Rattle.pytree_marked.specs.Taking.{attributes, is_none_left}
use Rattle.pyparse_marks.specs.declared.spans.Span as given
use Rattle.pyplaces.specs.Stretches.{Span, span}
use Rattle.pyplaces.specs.Recording.{told}
use Rattle.pyplaces.specs.PlacesOf.{PlacesOf}
use Rattle.std.proofs.lemmas.List.{drop_all, drop_more}
use Rattle.std.proofs.lemmas.List.Sums.{sum_by-cons}
use Rattle.pylex_lexeme.specs.Characters.{line_feed}
use Rattle.pyplaces.specs.LineStarts.{Rising, attributes_by, byte_by, line_by, line_starts, starts_after}

-- ---- The loop over a text: the starts so far, and those after.

cut : (bytes : List ℕ) (i b : ℕ) → i < length bytes → b ≡ get_or bytes i b → drop i bytes ≡ b ∷ drop (i + 1) bytes
cut bytes i b h read = drop_more bytes i b h ∙ ap (λ z. z ∷ drop (i + 1) bytes) (sym read)

-- ---- They rise, and are no more than the bytes and one.

first_greater : (n : ℕ) (ss : List ℕ) → ((k : ℕ) → k < length ss → n < slice_index ss k) → (m : ℕ) → m < n → (k : ℕ)
    → k < length (n ∷ ss) → m < slice_index (n ∷ ss) k
first_greater n ss h m l zero k = omega (arith, l)
first_greater n ss h m l (suc i) k = let r = h i (omega (arith, k)) in omega (arith, l, r)

greater_after : (b : Bool) (n : ℕ) (ss : List ℕ) → ((k : ℕ) → k < length ss → suc n < slice_index ss k) → (k : ℕ)
    → k < length (cond b (suc n ∷ ss) ss) → n < slice_index (cond b (suc n ∷ ss) ss) k
greater_after true n ss h k l = first_greater (suc n) ss h n (omega arith) k l
greater_after false n ss h k l = let r = h k l in omega (arith, r)

starts_greater : (n : ℕ) (cs : List ℕ) (k : ℕ) → k < length (starts_after n cs) → n < slice_index (starts_after n cs) k
starts_greater n [] k h = absurd (omega (arith, h))
starts_greater n (c ∷ cs) k h =
    greater_after (c == line_feed) n (starts_after (suc n) cs) (λ i l. starts_greater (suc n) cs i l) k h

few_after : (b : Bool) (n : ℕ) (ss : List ℕ) (m : ℕ) → length ss ≤ m → length (cond b (n ∷ ss) ss) ≤ suc m
few_after true n ss m h = omega (arith, h)
few_after false n ss m h = omega (arith, h)

pub starts_few : (n : ℕ) (cs : List ℕ) → length (starts_after n cs) ≤ length cs
starts_few n [] = omega arith
starts_few n (c ∷ cs) = few_after (c == line_feed) (suc n) (starts_after (suc n) cs) (length cs) (starts_few (suc n) cs)

rising_after : (s : ℕ) (ss : List ℕ) → ((k : ℕ) → k < length ss → s ≤ slice_index ss k) → Rising ss → Rising (s ∷ ss)
rising_after s ss low r zero zero h k = omega arith
rising_after s ss low r zero (suc j) h k = low j (omega (arith, k))
rising_after s ss low r (suc i) zero h k = absurd (omega (arith, h))
rising_after s ss low r (suc i) (suc j) h k = r i j (omega (arith, h)) (omega (arith, k))

rise_after : (b : Bool) (n : ℕ) (ss : List ℕ) → ((k : ℕ) → k < length ss → n < slice_index ss k) → Rising ss → Rising (cond b (n ∷ ss) ss)
rise_after true n ss h r = rising_after n ss (λ k l. let m = h k l in omega (arith, m)) r
rise_after false n ss h r = r

starts_rise : (n : ℕ) (cs : List ℕ) → Rising (starts_after n cs)
starts_rise n [] = λ i j h k. absurd (omega (arith, k))
starts_rise n (c ∷ cs) =
    rise_after (c == line_feed) (suc n) (starts_after (suc n) cs) (starts_greater (suc n) cs) (starts_rise (suc n) cs)

pub line_starts_rise : (cs : List ℕ) → Rising (line_starts cs)
line_starts_rise cs = rising_after 0 (starts_after 0 cs) (λ k h. omega arith) (starts_rise 0 cs)

-- ---- The line of an offset.

passes : (s n : ℕ) → s ≤ n → nat_le s n ≡ true
passes s n h = grind arith

fails : (s n : ℕ) → n < s → nat_le s n ≡ false
fails s n h = grind arith

-- one start more
counts : (n s : ℕ) (ss : List ℕ) (b : Bool) (r : ℕ) → nat_le s n ≡ b → line_by ss n ≡ r → line_by (s ∷ ss) n ≡ cond b 1 0 + r
counts n s ss b r h k =
    sum_by-cons (λ x. cond (nat_le x n) 1 0) s ss ∙ (ap (λ x. cond x 1 0 + line_by ss n) h ∙ ap (λ m. cond b 1 0 + m) k)

none_counted : (n : ℕ) (ss : List ℕ) → ((k : ℕ) → k < length ss → n < slice_index ss k) → line_by ss n ≡ 0
none_counted n [] h = refl
none_counted n (s ∷ ss) h = counts n s ss false 0 (fails s n (h 0 (omega arith))) (none_counted n ss (λ k l. h (suc k) (omega (arith, l))))

pub counted_at : (ss : List ℕ) (n r : ℕ) → r ≤ length ss → ((k : ℕ) → k < r → slice_index ss k ≤ n)
    → ((k : ℕ) → r ≤ k → k < length ss → n < slice_index ss k) → r ≡ line_by ss n
counted_at [] n r within low high = omega (arith, within)
counted_at (s ∷ ss) n zero within low high = sym (none_counted n (s ∷ ss) (λ k h. high k (omega arith) h))
counted_at (s ∷ ss) n (suc r) within low high =
    let more : r ≡ line_by ss n = counted_at ss n r (omega (arith, within)) (λ k h. low (suc k) (omega (arith, h)))
    (λ k h l. high (suc k) (omega (arith, h)) (omega (arith, l))) in
    let this : line_by (s ∷ ss) n ≡ 1 + r = counts n s ss true r (passes s n (low 0 (omega arith))) (sym more) in omega (arith, this)

pub starts_hold : (starts cs : List ℕ) → starts ≡ line_starts cs → length cs ≤ source_limit → Rising starts × (length starts < 2 ^ 32)
starts_hold starts cs h k =
    let few : length (line_starts cs) ≤ suc (length cs) = let m = starts_few 0 cs in omega (arith, m) in
    (subst Rising (sym h) (line_starts_rise cs), omega (arith, ap length h, few, k))

-- ---- Places in the program.

within_is : (xs : List ℕ) (n d : ℕ) → n < length xs → slice_index_or xs n d ≡ slice_index xs n
within_is [] n d h = absurd (omega (arith, h))
within_is (x ∷ xs) zero d h = refl
within_is (x ∷ xs) (suc n) d h = within_is xs n d (omega (arith, h))

past_is : (xs : List ℕ) (n : ℕ) → length xs ≤ n → 0 ≡ slice_index xs n
past_is [] n h = refl
past_is (x ∷ xs) zero h = absurd (omega (arith, h))
past_is (x ∷ xs) (suc n) h = past_is xs n (omega (arith, h))

pub start_within : (xs : List ℕ) (n d : ℕ) → true ≡ nat_lt n (length xs) → slice_index_or xs n d ≡ slice_index xs n
start_within xs n d h = within_is xs n d (ltb-true n (length xs) (sym h))

pub start_past : (xs : List ℕ) (n : ℕ) → false ≡ nat_lt n (length xs) → 0 ≡ slice_index xs n
start_past xs n h = past_is xs n (ltb-false n (length xs) (sym h))

same_attributes : {a b c d e f g h : ℕ} → a ≡ b → c ≡ d → e ≡ f → g ≡ h
    → attributes (record { line = a; byte = c; end_line = e; end_byte = g }) ≡ record { line = b; byte = d; end_line = f; end_byte = h }
same_attributes p q r t = λ i. record { line = p i; byte = q i; end_line = r i; end_byte = t i }

pub shown_is : (p : PlacesOf) (a b : List ℕ) (s : given.Span) (i l1 b1 l2 b2 : ℕ) → a ≡ p.starts → b ≡ p.starts
    → told s ≡ slice_index_or p.spans i (span 0 0) → l1 ≡ line_by a s.«from» → b1 ≡ byte_by a s.«from» → l2 ≡ line_by b s.to
    → b2 ≡ byte_by b s.to
    → attributes (record { line = l1; byte = b1; end_line = l2; end_byte = b2 })
    ≡ attributes_by p.starts (slice_index_or p.spans i (span 0 0))
shown_is p a b s i l1 b1 l2 b2 h k t e1 e2 e3 e4 =
    same_attributes (e1 ∙ ap (λ z. line_by z s.«from») h) (e2 ∙ ap (λ z. byte_by z s.«from») h) (e3 ∙ ap (λ z. line_by z s.to) k)
    (e4 ∙ ap (λ z. byte_by z s.to) k) ∙ ap (attributes_by p.starts) t

some_left : (ss : List Span) (f : Span → Attributes) (n : ℕ) → n < length ss → false ≡ is_none_left (map f (drop n ss))
some_left [] f n h = absurd (omega (arith, h))
some_left (s ∷ ss) f zero h = refl
some_left (s ∷ ss) f (suc n) h = some_left ss f n (omega (arith, h))

pub is_done_by : (ss : List Span) (f : Span → Attributes) (m n : ℕ) → m ≡ length ss → (b : Bool) → nat_le m n ≡ b
    → b ≡ is_none_left (map f (drop n ss))
is_done_by ss f m n e true h =
    let k : m ≤ n = leb-true m n h in sym (ap (λ z. is_none_left (map f z)) (drop_all n ss (omega (arith, e, k))))
is_done_by ss f m n e false h = let k : n < m = leb-false m n h in some_left ss f n (omega (arith, e, k))
