-- Levels that are read one after the other.
--
-- Carries: read_levels.
use denote.Ref.{Bor}
use Rattle.std.proofs.Common.{◌≡◌, ℕ, ◌+◌, ◌-◌, ◌<◌, ◌^◌, List, [], ◌∷◌, ◌++◌, length, get_or, refl, sym, ap, subst, ◌∙◌, arith}
use Rattle.std.proofs.Common.{append_assoc, append-nil, length-append, Bool, true, false, Option, Some, None, All, inl, inr}
use Rattle.std.specs.Prelude.{IsUtf8, slice_get, MatchOption, IfSome, IsTrue, ◌↔◌}
use Rattle.std.proofs.lemmas.Bool.{cases_lt}
use Rattle.std.proofs.lemmas.List.{get_or_append_left, get_or-append_right}
use Rattle.pylex.specs.Cursors.{with_commas}
use Rattle.pylex.specs.CursorTexts.{AreLevels}

-- what is left of the joined levels: nothing, or a text of one level or more
abbrev pub left_to_read : Option (Bor (List ℕ)) → ℕ
left_to_read None = 0
left_to_read (Some text) = 1 + length text.now

abbrev pub IsJoined : Option (Bor (List ℕ)) → List ℕ → Type 0
IsJoined None more = more ≡ []
IsJoined (Some text) more = (0 < length more) × (with_commas more ≡ text.now)

abbrev pub IsTextLeft : Option (Bor (List ℕ)) → Type 0
IsTextLeft None = Unit {0}
IsTextLeft (Some text) = IsUtf8 text.now

abbrev pub HasRead : Option (Bor (List ℕ)) → List ℕ → Type 0
HasRead None levels = 0 < length levels
HasRead (Some text) levels = Unit {0}

-- a level that stands after these among levels
pub record Follows (sofar : List ℕ) (n : ℕ) : Type 0 where
  pub first : length sofar ≡ 0 → n ≡ 0
  pub above : 0 < length sofar → get_or sofar (length sofar - 1) 0 < n

-- the next of the levels that are read, and what stands after it
pub record Next (t sofar ns : List ℕ) : Type 0 where
  pub level : ℕ
  pub rest : List ℕ
  pub whole : ns ≡ sofar ++ level ∷ rest
  pub fits : level < 2 ^ 64
  pub text : t ≡ with_commas (level ∷ rest)
  pub follows : Follows sofar level

first_is : (ns : List ℕ) → slice_get ns 0 ≡ Some 0 → get_or ns 0 0 ≡ 0
first_is [] e = refl
first_is (n ∷ ns) e = cc

at_seam : (sofar rest : List ℕ) (n : ℕ) → get_or (sofar ++ n ∷ rest) (length sofar) 0 ≡ n
at_seam sofar rest n =
    let zeroth : length sofar - length sofar ≡ 0 = omega arith in
    get_or-append_right sofar (n ∷ rest) (length sofar) (length sofar) 0 refl (omega arith) ∙ ap (λ i. get_or (n ∷ rest) i 0) zeroth

follows_there : (sofar ns rest : List ℕ) (n : ℕ) → AreLevels ns → ns ≡ sofar ++ n ∷ rest → Follows sofar n
follows_there sofar ns rest n are whole =
    let size : length ns ≡ length sofar + (1 + length rest) = ap length whole ∙ length-append sofar (n ∷ rest) ∙ omega arith in
    let here : get_or ns (length sofar) 0 ≡ n = ap (λ l. get_or l (length sofar) 0) whole ∙ at_seam sofar rest n in
    record {
      first = λ none. sym here ∙ ap (λ i. get_or ns i 0) none ∙ first_is ns are.first;
      above = λ some.
          let below = are.ascending (length sofar - 1) (omega (arith, size, some)) in
          let last : get_or ns (length sofar - 1) 0 ≡ get_or sofar (length sofar - 1) 0 =
          ap (λ l. get_or l (length sofar - 1) 0) whole ∙ get_or_append_left sofar (n ∷ rest) 0 (length sofar - 1) (omega (arith, some)) in
          let place : length sofar - 1 + 1 ≡ length sofar = omega (arith, some) in
          let next : get_or ns (length sofar - 1 + 1) 0 ≡ n = ap (λ i. get_or ns i 0) place ∙ here in
          omega (arith, below, last, next);
    }

next_of : (t sofar ns more : List ℕ) → AreLevels ns → ns ≡ sofar ++ more → 0 < length more → with_commas more ≡ t → Next t sofar ns
next_of t sofar ns [] are whole some text = absurd (omega (arith, some))
next_of t sofar ns (n ∷ rest) are whole some text =
    let size : length ns ≡ length sofar + (1 + length rest) = ap length whole ∙ length-append sofar (n ∷ rest) ∙ omega arith in
    let here : get_or ns (length sofar) 0 ≡ n = ap (λ l. get_or l (length sofar) 0) whole ∙ at_seam sofar rest n in
    let small = are.words (length sofar) 0 (omega (arith, size)) in
    record {
      level = n;
      rest = rest;
      whole = whole;
      fits = omega (arith, small, here);
      text = sym text;
      follows =
          follows_there sofar ns rest n are whole;
    }

pub next_level : (o : Option (Bor (List ℕ))) (t : Bor (List ℕ)) (sofar ns : List ℕ) → o ≡ Some t → AreLevels ns
    → (more : List ℕ) × (ns ≡ sofar ++ more) × IsJoined o more → Next t.now sofar ns
next_level o t sofar ns is are found =
    let J : Option (Bor (List ℕ)) → Type 0 = λ p. IsJoined p found.0 in
    let joined : (0 < length found.0) × (with_commas found.0 ≡ t.now) = subst J is found.2 in
    next_of t.now sofar ns found.0 are found.1 joined.0 joined.1

-- what is read after the next level
pub joined_after : (back : Option (Bor (List ℕ))) (rest : List ℕ)
    → MatchOption back (rest ≡ []) (λ b. (0 < length rest) × (b.now ≡ with_commas rest)) → IsJoined back rest
joined_after None rest h = h
joined_after (Some b) rest h = (h.0, sym h.1)

pub one_more : (sofar ns rest : List ℕ) (n : ℕ) → ns ≡ sofar ++ n ∷ rest → ns ≡ sofar ++ n ∷ [] ++ rest
one_more sofar ns rest n whole = whole ∙ sym (append_assoc sofar (n ∷ []) rest)

pub has_read : (o : Option (Bor (List ℕ))) (sofar : List ℕ) (n : ℕ) → HasRead o (sofar ++ n ∷ [])
has_read None sofar n = omega (arith, length-append sofar (n ∷ []))
has_read (Some b) sofar n = tt

pub first_kept : (sofar : List ℕ) (n : ℕ) → (0 < length sofar → get_or sofar 0 1 ≡ 0) → (length sofar ≡ 0 → n ≡ 0)
    → get_or (sofar ++ n ∷ []) 0 1 ≡ 0
first_kept [] n first zeroth = zeroth refl
first_kept (x ∷ xs) n first zeroth = first (omega arith)

-- levels with one more that follows them
pub ascending_kept : (sofar : List ℕ) (n : ℕ) → ((k : ℕ) → k + 1 < length sofar → get_or sofar k 0 < get_or sofar (k + 1) 0)
    → (0 < length sofar → get_or sofar (length sofar - 1) 0 < n)
    → (k : ℕ) → k + 1 < length (sofar ++ n ∷ []) → get_or (sofar ++ n ∷ []) k 0 < get_or (sofar ++ n ∷ []) (k + 1) 0
ascending_kept sofar n ascending above k inside =
    let within : k < length sofar = omega (arith, inside, length-append sofar (n ∷ [])) in
    let here : get_or (sofar ++ n ∷ []) k 0 ≡ get_or sofar k 0 = get_or_append_left sofar (n ∷ []) 0 k within in
    elim (cases_lt (k + 1) (length sofar)) [
      | inl before ↦
          let next : get_or (sofar ++ n ∷ []) (k + 1) 0 ≡ get_or sofar (k + 1) 0 = get_or_append_left sofar (n ∷ []) 0 (k + 1) before in
          let less = ascending k before in
          omega (arith, here, next, less)
      | inr last ↦
          let ends : k + 1 ≡ length sofar = omega (arith, last, within) in
          let next : get_or (sofar ++ n ∷ []) (k + 1) 0 ≡ n = ap (λ i. get_or (sofar ++ n ∷ []) i 0) ends ∙ at_seam sofar [] n in
          let less = above (omega (arith, within)) in
          let place : get_or sofar (length sofar - 1) 0 ≡ get_or sofar k 0 = (let same : length sofar - 1 ≡ k = omega (arith, ends) in
          ap (λ i. get_or sofar i 0) same) in
          omega (arith, here, next, less, place)
    ]

first_of_some : (ns : List ℕ) → 0 < length ns → get_or ns 0 1 ≡ 0 → slice_get ns 0 ≡ Some 0
first_of_some [] some e = absurd (omega (arith, some))
first_of_some (n ∷ ns) some e = ap (λ k. Some k) e

-- levels that have been read to the end
pub are_levels : (ns : List ℕ) → 0 < length ns → (0 < length ns → get_or ns 0 1 ≡ 0)
    → ((k : ℕ) → k + 1 < length ns → get_or ns k 0 < get_or ns (k + 1) 0) → All (λ n. n < 2 ^ 64) ns → AreLevels ns
are_levels ns some first ascending words = record { first = first_of_some ns some (first some); ascending = ascending; words = words }

pub at_end : (o : Option (Bor (List ℕ))) (sofar ns : List ℕ) → o ≡ None
    → (more : List ℕ) × (ns ≡ sofar ++ more) × IsJoined o more → sofar ≡ ns
at_end o sofar ns is found =
    let J : Option (Bor (List ℕ)) → Type 0 = λ p. IsJoined p found.0 in
    let none : found.0 ≡ [] = subst J is found.2 in
    sym (found.1 ∙ ap (λ m. sofar ++ m) none ∙ append-nil sofar)

pub cannot_follow : (b : Bool) (xs sofar : List ℕ) (level n : ℕ) → b ≡ false → xs ≡ sofar → level ≡ n → Follows sofar n
    → (length xs ≡ 0 → (IsTrue b ↔ (level ≡ 0))) → (0 < length xs → (IsTrue b ↔ (get_or xs (length xs - 1) 0 < level))) → ⊥
cannot_follow b xs sofar level n refused same is follows first above =
    let size : length xs ≡ length sofar = ap length same in
    elim (cases_lt 0 (length sofar)) [
      | inl some ↦
          let last : get_or xs (length xs - 1) 0 ≡ get_or sofar (length sofar - 1) 0 = ap (λ l. get_or l (length l - 1) 0) same in
          let less = follows.above some in
          let accepted = (above (omega (arith, size, some))).1 (omega (arith, last, less, is)) in
          cc (accepted, refused)
      | inr none ↦
          let accepted = (first (omega (arith, size, none))).1 (is ∙ follows.first (omega (arith, none))) in
          cc (accepted, refused)
    ]

pub can_follow_is : (b : Bool) (xs sofar : List ℕ) (level : ℕ) → b ≡ true → xs ≡ sofar
    → (length xs ≡ 0 → (IsTrue b ↔ (level ≡ 0))) → (0 < length xs → (IsTrue b ↔ (get_or xs (length xs - 1) 0 < level)))
    → Follows sofar level
can_follow_is b xs sofar level taken same first above =
    let size : length xs ≡ length sofar = ap length same in
    let last : get_or xs (length xs - 1) 0 ≡ get_or sofar (length sofar - 1) 0 = ap (λ l. get_or l (length l - 1) 0) same in
    record {
      first = λ none. (first (omega (arith, size, none))).0 taken;
      above = λ some. let less = (above (omega (arith, size, some))).0 taken in omega (arith, last, less);
    }

pub text_left : (o : Option (Bor (List ℕ))) → IfSome o (λ b. IsUtf8 b.now) → IsTextLeft o
text_left None h = tt
text_left (Some b) h = h
