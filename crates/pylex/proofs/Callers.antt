-- What callers compute with: when a cursor is one of a source, the steps of a listing after its
-- first ones, the lexemes of a text, and the machine's run over these.
--
-- Carries: what pyast_command, pyparse_tokens, pyunparse_text, pytoken cite. On: Lexed, Finding, Run.
use Rattle.std.proofs.Common.{◌≡◌, ℕ, zero, suc, ◌+◌, ◌≤◌, Bool, true, false, ◌==◌, List, [], ◌∷◌, drop, length, refl, sym, ap, ◌∙◌}
use Rattle.std.proofs.Common.{subst, Some, None, slice_get, nat_le, arith}
use Rattle.std.proofs.lemmas.Bool.Decides.{nat_tests}
use lib.Pointwise.{bytes_decides}
use Rattle.std.proofs.lemmas.Bool.{and_parts}
use Rattle.pylex_listing.specs.declared.entries.Entry.{Entry}
use Rattle.pylex_listing.specs.declared.entries.ListingFault.{ListingFault}
use Rattle.pylex_listing.specs.declared.entries.Step.{Step}
use Rattle.pylex_listing.specs.declared.entries.Step.TheVariants as steps
use Rattle.pylex_listing.specs.declared.kind.Kind.TheVariants as kinds
use Rattle.pylex_lexeme.specs.Lexemes.{cut, left_by_cut}
use Rattle.pylex_listing.specs.Lines.{count_if}
use Rattle.pylex.specs.Cursors.{CursorParts, cursor, same_parts}
use Rattle.pylex_listing.specs.Laws.{LiesIn, AllLie}
use Rattle.pylex_listing.specs.Listing.{Source, listing, rest, up_to_end, origin, steps_from}
use Rattle.pylex.specs.Standing.{is_cursor_of, IsCursorOf}
use Rattle.pylex_listing.specs.Steps.{entries_of, fault_of, mark}
pub use Rattle.pylex.proofs.Texts.Spaces.{spaces_utf8, spaces_chars, after_spaces}

equals_itself : (n : ℕ) → (n == n) ≡ true
equals_itself n = grind (arith, nat_tests)

equal : (m n : ℕ) → (m == n) ≡ true → m ≡ n
equal m n h = grind (arith, nat_tests)

same_flag : (a b : Bool) → count_if a ≡ count_if b → a ≡ b
same_flag true true h = refl
same_flag true false h = absurd (omega arith)
same_flag false true h = absurd (omega arith)
same_flag false false h = refl

pub same_cursor : (c d : CursorParts) → c.given ≡ d.given → c.offset ≡ d.offset → c.row ≡ d.row → c.depth ≡ d.depth → c.begun ≡ d.begun
    → c.skip ≡ d.skip → c.levels ≡ d.levels → c ≡ d
same_cursor c d given offset row depth begun skip levels = built c.given d.given c.offset d.offset c.row d.row c.depth d.depth c.begun
    d.begun c.skip d.skip c.levels d.levels given offset row depth begun skip levels
  where
    built : (g g' o o' r r' e e' : ℕ) (b b' : Bool) (k k' : ℕ) (l l' : List ℕ) → g ≡ g' → o ≡ o' → r ≡ r' → e ≡ e'
        → b ≡ b' → k ≡ k' → l ≡ l'
        → record { given = g; offset = o; row = r; depth = e; begun = b; skip = k; levels = l } ≡ (let d : CursorParts =
        record { given = g'; offset = o'; row = r'; depth = e'; begun = b'; skip = k'; levels = l' } in d)
    built g g' o o' r r' e e' b b' k k' l l' p1 p2 p3 p4 p5 p6 p7 = rw (p1, p2, p3, p4, p5, p6, p7) refl

-- two cursors of the same parts are one
pub same_is : (c d : CursorParts) → same_parts c d ≡ true → c ≡ d
same_is c d h =
    let a = and_parts (c.given == d.given) _ h in
    let b = and_parts (c.offset == d.offset) _ a.1 in
    let e = and_parts (c.row == d.row) _ b.1 in
    let f = and_parts (c.depth == d.depth) _ e.1 in
    let i = and_parts (count_if c.begun == count_if d.begun) _ f.1 in
    let j = and_parts (c.skip == d.skip) _ i.1 in
    same_cursor c d (equal _ _ a.0) (equal _ _ b.0) (equal _ _ e.0) (equal _ _ f.0) (same_flag _ _ (equal _ _ i.0)) (equal _ _ j.0)
    ((bytes_decides c.levels d.levels).0 j.1)

pub same_itself : (c : CursorParts) → same_parts c c ≡ true
same_itself c = rw (
  equals_itself c.given,
  equals_itself c.offset,
  equals_itself c.row,
  equals_itself c.depth,
  equals_itself (count_if c.begun),
  equals_itself c.skip,
) ((bytes_decides c.levels c.levels).1 refl)

-- a cursor of a source, by the entries of that
pub record IsFollowing (c : CursorParts) (s : Source) : Type 0 where
  pub within : c.given ≤ length (entries_of (listing s))
  pub is : c ≡ cursor s c.given

-- to be a cursor of a source is to be that after so many of its entries
pub is_following : {c : CursorParts} {s : Source} → IsCursorOf c s → IsFollowing c s
unfolding is_cursor_of
is_following {c} {s} h = let t = and_parts (nat_le c.given (length (entries_of (listing s)))) _ h in let w = t.0 in
    record { within = grind (arith, nat_tests); is = same_is c (cursor s c.given) t.1 }

is_within : (m n : ℕ) → m ≤ n → nat_le m n ≡ true
is_within m n h = grind (arith, nat_tests)

pub is_own : {c : CursorParts} {s : Source} → IsFollowing c s → IsCursorOf c s
unfolding is_cursor_of
is_own {c} {s} o =
    let same : same_parts c (cursor s c.given) ≡ true = ap (λ d. same_parts c d) (sym o.is) ∙ same_itself c in
    rw (is_within c.given (length (entries_of (listing s))) o.within) same

-- a list after its first k elements, of which the next is known
pub drop_at : {X : Type 0} (xs : List X) (k : ℕ) (x : X) → slice_get xs k ≡ Some x → drop k xs ≡ x ∷ drop (k + 1) xs
drop_at [] k x h = cc
drop_at (y ∷ ys) zero x h = let e : y ≡ x = cc in ap (λ z. z ∷ ys) e
drop_at (y ∷ ys) (suc k) x h = let n : suc k + 1 ≡ suc (k + 1) = omega arith in rw n (drop_at ys k x h)

up_to_end_twice : (ss : List Step) → up_to_end (up_to_end ss) ≡ up_to_end ss
up_to_end_twice [] = refl
up_to_end_twice (steps.Entry e ∷ ss) = let t = up_to_end_twice ss in cc
up_to_end_twice (steps.End ∷ ss) = refl
up_to_end_twice (steps.Fault f ∷ ss) = refl

-- nothing follows the end or the fault of a listing
listing_ends : (s : Source) → up_to_end (listing s) ≡ listing s
unfolding listing
listing_ends s = up_to_end_twice (mark kinds.Encoding [] origin origin ∷ steps_from s.fault (left_by_cut s.text) [] (cut s.text))

ends_following : (ss : List Step) (k : ℕ) → up_to_end ss ≡ ss → up_to_end (drop k ss) ≡ drop k ss
ends_following ss zero u = u
ends_following [] (suc k) u = refl
ends_following (steps.Entry e ∷ ss) (suc k) u = let t : up_to_end ss ≡ ss = cc in ends_following ss k t
ends_following (steps.End ∷ ss) (suc k) u = let n : [] ≡ ss = cc in rw (← n) (none k)
  where
    none : (k : ℕ) → up_to_end (drop k []) ≡ drop k []
    none zero = refl
    none (suc k) = refl
ends_following (steps.Fault f ∷ ss) (suc k) u = let n : [] ≡ ss = cc in rw (← n) (none k)
  where
    none : (k : ℕ) → up_to_end (drop k []) ≡ drop k []
    none zero = refl
    none (suc k) = refl

-- the steps after k entries, of which the next is known
pub next_is : (s : Source) (k : ℕ) (step : Step) → slice_get (listing s) k ≡ Some step → rest s k ≡ step ∷ rest s (k + 1)
next_is s k step h = drop_at (listing s) k step h

last_end : (ss left : List Step) → up_to_end ss ≡ ss → ss ≡ steps.End ∷ left → (entries_of ss ≡ []) × (fault_of ss ≡ None)
last_end ss left u h = let w : up_to_end (steps.End ∷ left) ≡ steps.End ∷ left = rw h at u in let n : [] ≡ left = cc in
    rw (h, ← n) (refl, refl)

last_fault : (ss left : List Step) (f : ListingFault) → up_to_end ss ≡ ss → ss ≡ steps.Fault f ∷ left
    → (entries_of ss ≡ []) × (fault_of ss ≡ Some f)
last_fault ss left f u h = let w : up_to_end (steps.Fault f ∷ left) ≡ steps.Fault f ∷ left = rw h at u in let n : [] ≡ left = cc in
    rw (h, ← n) (refl, refl)

-- the next step is the end
pub end_last : (s : Source) (k : ℕ) → slice_get (listing s) k ≡ Some steps.End → (entries_of (rest s k) ≡ []) × (fault_of (rest s k) ≡ None)
end_last s k h = last_end (rest s k) _ (ends_following (listing s) k (listing_ends s)) (next_is s k steps.End h)

-- the next step is a fault
pub fault_last : (s : Source) (k : ℕ) (f : ListingFault) → slice_get (listing s) k ≡ Some (steps.Fault f)
    → (entries_of (rest s k) ≡ []) × (fault_of (rest s k) ≡ Some f)
fault_last s k f h = last_fault (rest s k) _ f (ends_following (listing s) k (listing_ends s)) (next_is s k (steps.Fault f) h)

-- each entry lies in the text that all lie in
pub entry_lies : (text : List ℕ) (ss : List Step) (k : ℕ) (e : Entry) → AllLie text ss
    → slice_get ss k ≡ Some (steps.Entry e) → LiesIn text e
entry_lies text [] k e l h = cc
entry_lies text (steps.Entry d ∷ ss) zero e l h = let is : d ≡ e = cc in subst (LiesIn text) is l.0
entry_lies text (steps.End ∷ ss) zero e l h = cc
entry_lies text (steps.Fault f ∷ ss) zero e l h = cc
entry_lies text (s ∷ ss) (suc k) e l h = entry_lies text ss k e l.1 h
