-- Carries: Known, Progress. On: what is known of a source after one line more.
use Rattle.std.proofs.Common.{◌≡◌, inl, inr, ℕ, zero, suc, ◌+◌, ◌≤◌, Bool, true, false, List, [], ◌∷◌, ◌++◌, length, take, refl, sym, ap}
use Rattle.std.proofs.Common.{◌∙◌, subst, append_assoc, length-append, arith, Some}
use Rattle.std.specs.Prelude.{slice_get}
use Rattle.pysource.specs.declared.places.Place.{Place}
use Rattle.pylex_listing.specs.Listing.{Source}
use Rattle.pytree_node.specs.declared.profiles.Profile.{Profile}
use Rattle.pytoken.specs.Inner.Following.{following}
use Rattle.pytoken.specs.Tokens.{Token, lines}
use Rattle.pytoken.specs.Tokens as Tokens
use Rattle.pygrammar.specs.Lines.{Line, line}
use Rattle.pygrammar.specs.Blocks.{Fault, FirstFault, stands_in_match}
use Rattle.pygrammar.specs.Depths.{count, innermost, is_deep}
use Rattle.pygrammar.specs.Reading.{Fine, run, start}
use Rattle.pygrammar.specs.Refusals.{Indentation, StartsAt, at_line, Formed, formed_end, formed_line, Unread, FirstUnread}
use Rattle.pygrammar.specs.Refusals.{FirstDeep, beginning}
use Rattle.pygrammar.proofs.Callers.Blocks.{formed_on, unread_on, unread_more, innermost_on, deep_is, not_deep, deep_more, deep_last}
use Rattle.pygrammar.proofs.Callers.Blocks.{deep_parts}
use Rattle.pyparse_block.specs.declared.blocks.Blocks.{Blocks}
use Rattle.pyparse_block.specs.StateOf.{state_of}
use Rattle.pyparse_block.specs.declared.outline.outlines.Outline.{Outline}
use Rattle.pyparse_block.specs.Outlines.{Follows}
use Rattle.pyparse_block.specs.declared.outline.faults.BlockStop.{BlockStop}
use Rattle.pyparse_block.specs.declared.outline.faults.BlockStop.TheVariants as variant
use Rattle.pyparse_block.specs.Faults.{fault_of, Blames}
use Rattle.pyparse_tokens.specs.declared.faults.GrammarError.{GrammarError}
use Rattle.pyparse_block.specs.declared.known.Known.{Known}
use Rattle.pyparse_block.specs.declared.known.Known.TheVariants.{Sound, Deep, Faulty}
use Rattle.pyparse_block.specs.declared.known.Known.TheVariants as known
use Rattle.pyparse_tokens.specs.LineReadings.{LineReading, first_start, HoldsLine}
use Rattle.pyparse_block.specs.Modules.{code_of}
use Rattle.pyparse_block.specs.Known.{first_lines, IsSound, IsDeepAt, IsFaultyAt, IsUnreadAt, IsKnown, is_unread, Comes, Fails}

-- ---- The first lines of a source.

-- a list, taken apart at one of its elements
record Parted {A : Type 0} (xs : List A) (k : ℕ) (x : A) : Type 0 where
  pub more : List A
  pub whole : xs ≡ take k xs ++ (x ∷ more)
  pub next : take (suc k) xs ≡ take k xs ++ x ∷ []
  pub size : length (take k xs) ≡ k

parted : {A : Type 0} (xs : List A) (k : ℕ) (x : A) → slice_get xs k ≡ Some x → Parted xs k x
parted [] zero x is = absurd (cc)
parted [] (suc k) x is = absurd (cc)
parted {A} (y ∷ xs) zero x is =
    let one : y ≡ x = cc in
    record { more = xs; whole = ap (λ (z : A). z ∷ xs) one; next = ap (λ (z : A). z ∷ []) one; size = refl }
parted {A} (y ∷ xs) (suc k) x is =
    let rest = parted xs k x is in
    record {
      more = rest.more;
      whole = ap (λ (zs : List A). y ∷ zs) rest.whole;
      next = ap (λ (zs : List A). y ∷ zs) rest.next;
      size = ap suc rest.size;
    }

pub next_lines : (s : Source) (k : ℕ) (x : Tokens.Line) → slice_get (lines s) k ≡ Some x → first_lines s (k + 1) ≡ first_lines s k ++ x ∷ []
next_lines s k x stands =
    let one : k + 1 ≡ suc k = omega arith in
    ap (first_lines s) one ∙ (parted (lines s) k x stands).next

-- where the line that is held starts
first_of : (ts : List Token) (p : Place) → first_start ts ≡ Some p → (t : Token) × (us : List Token) × (ts ≡ t ∷ us) × (t.start ≡ p)
first_of [] p is = absurd (cc)
first_of (t ∷ us) p is = let same : t.start ≡ p = cc in (t, us, refl, same)

pub starts_held : (s : Source) (k : ℕ) (r : LineReading) → HoldsLine s k r → StartsAt s k r.start
starts_held s k r held =
    let at = parted (lines s) k held.line held.stands in
    let one = first_of held.line.tokens r.start held.holds.start in
    subst (StartsAt s k) one.3 (at_line (take k (lines s)) at.more held.line one.0 one.1 at.whole at.size one.2)

-- where it stands
pub place_held : {s : Source} {k : ℕ} {r : LineReading} (earlier : List Line) (inside : Bool) (level : ℕ) (held : HoldsLine s k r)
    → inside ≡ stands_in_match level earlier →
    level ≡ r.level → inside ≡ stands_in_match held.line.level earlier
place_held earlier inside level held placed at = placed ∙ ap (λ (l : ℕ). stands_in_match l earlier) (at ∙ held.holds.level)

-- as many forms as lines
pub formed_length : {profile : Profile} {earlier : List Line} {xs : List Tokens.Line} {ys : List Line}
    → Formed profile earlier xs ys → length ys ≡ length xs
formed_length formed_end = refl
formed_length (formed_line h p) = ap suc (formed_length p)

-- before the first line no statement stands too deep
pub none_deep : (n : ℕ) → FirstDeep [] [] n → ⊥
none_deep n found = elim found [ ]

-- ---- One line more.

module _ {profile : Profile} {s : Source} {k : ℕ} (forms : List Line) {l : Line} {p : Place}
    (comes : Comes profile s k (following [] forms) l p) where
  formed_next : Formed profile [] (first_lines s k) forms → Formed profile [] (first_lines s (k + 1)) (forms ++ l ∷ [])
  formed_next formed =
      let same : line comes.line.level l.form ≡ l = ap (λ (n : ℕ). line n l.form) (sym comes.level) in
      subst (λ (xs : List Tokens.Line). Formed profile [] xs (forms ++ l ∷ [])) (sym (next_lines s k comes.line comes.stands))
      (subst (λ (z : Line). Formed profile [] (first_lines s k ++ comes.line ∷ []) (forms ++ z ∷ [])) same (formed_on formed comes.form))

  number_of : Formed profile [] (first_lines s k) forms → length forms ≡ k
  number_of formed = formed_length formed ∙ (parted (lines s) k comes.line comes.stands).size

  -- a sound line
  pub sound_on : {o : Outline} {b : Blocks} (o2 : Outline) (b2 : Blocks) (was : IsSound profile s k forms o b)
      → (deep : Bool) → deep ≡ false
      → ((xs : List Line) → Follows xs o → Follows (xs ++ l ∷ []) o2 × (deep ≡ is_deep (innermost l (count [] xs))))
      → ((xs : List Line) → run xs start ≡ Fine (state_of b) → run (xs ++ l ∷ []) start ≡ Fine (state_of b2))
      → IsSound profile s (k + 1) (forms ++ l ∷ []) o2 b2
  sound_on o2 b2 was deep none follows read =
      let step = follows forms was.follows in
      let here : is_deep (beginning l (following [] forms)) ≡ false = ap is_deep (sym (innermost_on forms l)) ∙ sym step.1 ∙ none in
      record {
        formed = formed_next was.formed;
        follows = step.0;
        read = read forms was.read;
        low =
            λ n found.
            elim (deep_parts [] forms l found) [
              | inl earlier ↦ was.low earlier.0 earlier.1
              | inr last ↦ not_deep (beginning l (following [] forms)) here last
            ];
      }

  -- a line in which a statement begins that stands too deep
  pub deep_on : {o : Outline} {b : Blocks} (o2 : Outline) (was : IsSound profile s k forms o b) → (deep : Bool) → deep ≡ true
      → ((xs : List Line) → Follows xs o → Follows (xs ++ l ∷ []) o2 × (deep ≡ is_deep (innermost l (count [] xs))))
      → IsDeepAt profile s (k + 1) (forms ++ l ∷ []) o2 p
  deep_on o2 was deep some follows =
      let step = follows forms was.follows in
      let here : is_deep (beginning l (following [] forms)) ≡ true = ap is_deep (sym (innermost_on forms l)) ∙ sym step.1 ∙ some in
      record {
        formed = formed_next was.formed;
        follows = step.0;
        n = length forms;
        deep = deep_last [] forms l was.low (deep_is (beginning l (following [] forms)) here);
        starts = subst (λ (n : ℕ). StartsAt s n p) (sym (number_of was.formed)) comes.starts;
      }

  -- one after it
  pub deep_next : {o : Outline} {q : Place} (o2 : Outline) (was : IsDeepAt profile s k forms o q) → (deep : Bool)
      → ((xs : List Line) → Follows xs o → Follows (xs ++ l ∷ []) o2 × (deep ≡ is_deep (innermost l (count [] xs))))
      → IsDeepAt profile s (k + 1) (forms ++ l ∷ []) o2 q
  deep_next o2 was deep follows =
      record {
        formed = formed_next was.formed;
        follows = (follows forms was.follows).0;
        n = was.n;
        deep = deep_more was.deep (l ∷ []);
        starts = was.starts;
      }

  -- a faulty line
  faulty_on : (e : GrammarError) (fault : Fault) → Formed profile [] (first_lines s k) forms → code_of e ≡ Indentation fault
      → ((more : List Line) → FirstFault [] (forms ++ (l ∷ more)) (l ∷ more) fault) → IsFaultyAt profile s (k + 1) (forms ++ l ∷ []) e p
  faulty_on e fault formed code first =
      let size = number_of formed in
      record {
        formed = formed_next formed;
        fault = fault;
        code = code;
        rest = l ∷ [];
        first = λ more. subst (λ (xs : List Line). FirstFault [] xs (l ∷ more) fault) (sym (append_assoc forms (l ∷ []) more)) (first more);
        n = k;
        number = omega (arith, size, length-append forms (l ∷ []));
        starts = comes.starts;
      }

  faulty_by : (stop : BlockStop) (known : Known) → Formed profile [] (first_lines s k) forms → Fails stop p known
      → ((more : List Line) → Blames (forms ++ (l ∷ more)) (l ∷ more) stop) → IsKnown profile s (k + 1) (forms ++ l ∷ []) known
  faulty_by (variant.Faulty f) known formed fails blames = subst (IsKnown profile s (k + 1) (forms ++ l ∷ [])) (sym fails.2)
      (faulty_on fails.0 (fault_of f) formed fails.1 blames)
  faulty_by variant.Memory known formed fails blames = absurd fails.1

  pub sound_faulty : {o : Outline} {b : Blocks} (stop : BlockStop) (known : Known) → IsSound profile s k forms o b → Fails stop p known
      → ((xs more : List Line) → Follows xs o → Blames (xs ++ (l ∷ more)) (l ∷ more) stop)
      → IsKnown profile s (k + 1) (forms ++ l ∷ []) known
  sound_faulty stop known was fails blames = faulty_by stop known was.formed fails (λ more. blames forms more was.follows)

  pub sound_misplaced : {o : Outline} {b : Blocks} (stop : BlockStop) (known : Known) → IsSound profile s k forms o b → Fails stop p known
      → ((xs more : List Line) → run xs start ≡ Fine (state_of b) → Blames (xs ++ (l ∷ more)) (l ∷ more) stop)
      → IsKnown profile s (k + 1) (forms ++ l ∷ []) known
  sound_misplaced stop known was fails blames = faulty_by stop known was.formed fails (λ more. blames forms more was.read)

  pub deep_faulty : {o : Outline} {q : Place} (stop : BlockStop) (known : Known) → IsDeepAt profile s k forms o q → Fails stop p known
      → ((xs more : List Line) → Follows xs o → Blames (xs ++ (l ∷ more)) (l ∷ more) stop)
      → IsKnown profile s (k + 1) (forms ++ l ∷ []) known
  deep_faulty stop known was fails blames = faulty_by stop known was.formed fails (λ more. blames forms more was.follows)

  -- one after it
  pub faulty_next : {e : GrammarError} {q : Place} → IsFaultyAt profile s k forms e q → IsFaultyAt profile s (k + 1) (forms ++ l ∷ []) e q
  faulty_next was =
      let had = was.number in
      record {
        formed = formed_next was.formed;
        fault = was.fault;
        code = was.code;
        rest = was.rest ++ l ∷ [];
        first =
            λ more.
            subst (λ (xs : List Line). FirstFault [] xs ((was.rest ++ l ∷ []) ++ more) was.fault) (sym (append_assoc forms (l ∷ []) more))
            (subst (λ (xs : List Line). FirstFault [] (forms ++ (l ∷ more)) xs was.fault) (sym (append_assoc was.rest (l ∷ []) more))
            (was.first (l ∷ more)));
        n = was.n;
        number = omega (arith, had, length-append forms (l ∷ []), length-append was.rest (l ∷ []));
        starts = was.starts;
      }

-- a line after one without a form
pub unread_next : {profile : Profile} {s : Source} {k : ℕ} {e : GrammarError} {q : Place} (x : Tokens.Line) → slice_get (lines s) k ≡ Some x
    → IsUnreadAt profile s k e q →
    IsUnreadAt profile s (k + 1) e q
unread_next {profile} {s} {k} {e} x stands was =
    record {
      n = was.n;
      first = subst (λ (xs : List Tokens.Line). FirstUnread profile [] xs was.n (code_of e)) (sym (next_lines s k x stands))
          (unread_more was.first (x ∷ []));
      starts = was.starts;
    }

-- the lines have these forms where none is without one
formed_all : {profile : Profile} (s : Source) (k : ℕ) (forms : List Line) (known : Known) → is_unread known ≡ false
    → IsKnown profile s k forms known →
    Formed profile [] (first_lines s k) forms
formed_all s k forms (Sound o b) is was = was.formed
formed_all s k forms (Deep o p) is was = was.formed
formed_all s k forms (Faulty e p) is was = was.formed
formed_all s k forms (known.Unread e p) is was = absurd (cc)

-- nothing more is known after one without a form
pub unread_stays : (profile : Profile) (s : Source) (k : ℕ) (forms : List Line) (known : Known) (r : LineReading)
    → is_unread known ≡ true → HoldsLine s k r →
    IsKnown profile s k forms known → IsKnown profile s (k + 1) forms known
unread_stays profile s k forms (Sound o b) r is held was = absurd (cc)
unread_stays profile s k forms (Deep o p) r is held was = absurd (cc)
unread_stays profile s k forms (Faulty e p) r is held was = absurd (cc)
unread_stays profile s k forms (known.Unread e p) r is held was = unread_next held.line held.stands was

-- a line without a form
pub unread_first : {profile : Profile} {s : Source} {k : ℕ} (forms : List Line) (known : Known) (x : Tokens.Line) (e : GrammarError)
    (p : Place) → is_unread known ≡ false →
    IsKnown profile s k forms known → slice_get (lines s) k ≡ Some x → Unread profile (stands_in_match x.level (following [] forms)) x
    (code_of e) → StartsAt s k p →
    IsUnreadAt profile s (k + 1) e p
unread_first {profile} {s} {k} forms known x e p is was stands unread starts =
    let formed = formed_all s k forms known is was in
    let size : length (first_lines s k) ≡ k = (parted (lines s) k x stands).size in
    record {
      n = k;
      first =
          subst (λ (xs : List Tokens.Line). FirstUnread profile [] xs k (code_of e)) (sym (next_lines s k x stands))
          (subst (λ (n : ℕ). FirstUnread profile [] (first_lines s k ++ x ∷ []) n (code_of e)) size (unread_on formed unread []));
      starts = starts;
    }

-- what the lines so far are, nearest first, with one line more
pub following_more : (earlier forms : List Line) (l : Line) → following earlier (forms ++ l ∷ []) ≡ l ∷ following earlier forms
following_more earlier [] l = refl
following_more earlier (x ∷ forms) l = following_more (x ∷ earlier) forms l
