-- The answer line by line: what the lines so far say of the answer for lines that begin with them.
--
-- Carries: formed_on, unread_on, unread_more, step_on and 3 more, for
-- Blocks. On: Law, Steps, Sound.
use Rattle.std.proofs.Common.{◌≡◌, ℕ, List, [], ◌∷◌, ◌++◌, length, true, sym, ap, ◌∙◌, subst, append-nil}
use Rattle.pytree_node.specs.declared.profiles.Profile.{Profile}
use Rattle.pytree_node.specs.Trees.{Stmt}
use Rattle.pytoken.specs.Inner.Following.{following}
use Rattle.pytoken.specs.Tokens as Tokens
use Rattle.pygrammar.specs.Lines.{Line, line, Form, are_proper}
use Rattle.pygrammar.specs.Blocks.{Block, Fault, FirstFault, stands_in_match}
use Rattle.pygrammar.specs.Reading.{Answer, Fine, Faulty, then, State, start, step, run, stops, finish, read}
use Rattle.pygrammar.specs.Refusals.{Code, HasForm, Formed, formed_end, formed_line, Unread, FirstUnread, unread, unread_after}
use Rattle.pygrammar.proofs.Block.Steps.{run-append}
use Rattle.pygrammar.proofs.Block.Sound.{read_gives}
use Rattle.pygrammar.proofs.Block.Law.{Finds, read_finds}

-- ---- Forms.

pub formed_on : {profile : Profile} {earlier : List Line} {xs : List Tokens.Line} {ys : List Line} {x : Tokens.Line} {f : Form}
    → Formed profile earlier xs ys →
    HasForm profile (stands_in_match x.level (following earlier ys)) x f → Formed profile earlier (xs ++ x ∷ []) (ys ++ line x.level f ∷ [])
formed_on formed_end h = formed_line h formed_end
formed_on (formed_line k p) h = formed_line k (formed_on p h)

pub unread_on : {profile : Profile} {earlier : List Line} {xs : List Tokens.Line} {ys : List Line} {x : Tokens.Line} {c : Code}
    → Formed profile earlier xs ys →
    Unread profile (stands_in_match x.level (following earlier ys)) x c → (more : List Tokens.Line)
    → FirstUnread profile earlier (xs ++ (x ∷ more)) (length xs) c
unread_on formed_end h more = unread h
unread_on (formed_line k p) h more = unread_after k (unread_on p h more)

pub unread_more : {profile : Profile} {earlier : List Line} {xs : List Tokens.Line} {n : ℕ} {c : Code} → FirstUnread profile earlier xs n c
    → (more : List Tokens.Line) →
    FirstUnread profile earlier (xs ++ more) n c
unread_more (unread h) more = unread h
unread_more (unread_after k p) more = unread_after k (unread_more p more)

-- ---- Blocks.

-- after lines without fault the reading goes on where it stands
stops_on : (xs ys : List Line) (s t : State) → run xs s ≡ Fine t → stops (xs ++ ys) s ≡ stops ys t
stops_on [] ys s t h = ap (λ a. elim a [ Fine u ↦ stops ys u | Faulty f ↦ [] ]) h
stops_on (x ∷ xs) ys s t h =
    elim (step s x) as (λ a. then a (run xs) ≡ Fine t → elim a [ Fine u ↦ stops (xs ++ ys) u | Faulty f ↦ x ∷ (xs ++ ys) ] ≡ stops ys t) [
      | Fine u ↦ λ e. stops_on xs ys u t e
      | Faulty f ↦ λ e. absurd (cc e)
    ] h

pub step_on : (xs : List Line) (x : Line) (s t : State) → run xs start ≡ Fine s → step s x ≡ Fine t → run (xs ++ x ∷ []) start ≡ Fine t
step_on xs x s t h e = run-append xs (x ∷ []) start ∙ ap (λ a. then a (run (x ∷ []))) h ∙ ap (λ a. then a (run [])) e

-- the line at which a step fails is the first faulty one, whatever follows
pub fault_found : (xs : List Line) (x : Line) (s : State) (f : Fault) → run xs start ≡ Fine s → step s x ≡ Faulty f → (more : List Line)
    → FirstFault [] (xs ++ (x ∷ more)) (x ∷ more) f
fault_found xs x s f h e more =
    let whole = xs ++ (x ∷ more) in
    let last : stops whole start ≡ x ∷ more = stops_on xs (x ∷ more) start s h
    ∙ ap (λ a. elim a [ Fine t ↦ stops more t | Faulty f ↦ x ∷ more ]) e in
    let answer : read whole ≡ Faulty f =
    ap (λ a. then a finish) (run-append xs (x ∷ more) start ∙ ap (λ a. then a (run (x ∷ more))) h ∙ ap (λ a. then a (run more)) e) in
    let P : Answer (List Stmt) → Type 0 = λ a. Finds [] whole (stops whole start) a in
    let Q : List Line → Type 0 = λ r. FirstFault [] whole r f in
    subst Q last (subst P answer (read_finds whole))

-- and ENDMARKER is where the lines cannot come to their end
pub end_fault_found : (xs : List Line) (s : State) (f : Fault) → run xs start ≡ Fine s → finish s ≡ Faulty f → FirstFault [] xs [] f
end_fault_found xs s f h e =
    let last : stops xs start ≡ [] = ap (λ z. stops z start) (sym (append-nil xs)) ∙ stops_on xs [] start s h in
    let answer : read xs ≡ Faulty f = ap (λ a. then a finish) h ∙ e in
    let P : Answer (List Stmt) → Type 0 = λ a. Finds [] xs (stops xs start) a in
    let Q : List Line → Type 0 = λ r. FirstFault [] xs r f in
    subst Q last (subst P answer (read_finds xs))

pub block_found : (xs : List Line) (s : State) (ss : List Stmt) → are_proper xs ≡ true → run xs start ≡ Fine s
    → finish s ≡ Fine ss → Block 0 xs ss
block_found xs s ss o h e = read_gives xs ss o (ap (λ a. then a finish) h ∙ e)
