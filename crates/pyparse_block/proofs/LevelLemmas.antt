-- Carries: Stack. On: what comes to its end, and what a line makes of the deepest level.
use Rattle.std.proofs.Common.{◌≡◌, ℕ, ◌<◌, ◌≤◌, List, [], ◌∷◌, ◌++◌, length, map, reverse, Option, Some, None, Bool, true, false, cond}
use Rattle.std.proofs.Common.{refl, sym, ap, ◌∙◌, arith}
use Rattle.std.proofs.lemmas.List.{map-append, reverse-append, length-reverse, length-map}
use Rattle.pytree_node.specs.Trees.{Expr, Case, Stmt}
use Rattle.pygrammar.specs.Lines.{Header, Form, simple_form, decorator_form, header_form}
use Rattle.pygrammar.specs.Blocks.{Fault, ExpectedIndent, UnexpectedIndent, MisplacedClause}
use Rattle.pygrammar.specs.Reading.{Answer, Fine, Faulty, then, Group, Idle, Matching, closes, PartialBlock, part, decorated, meets}
use Rattle.pygrammar.specs.Reading.{or_misplaced}
use Rattle.pygrammar.specs.Reading.{place_header, Waiting, State, state, joined, matched, above, settle_in, settle, place, placed}
use Rattle.pygrammar.proofs.Callers.Blocks.{is_less, not_less, settle_here}
use Rattle.pyparse_block.specs.declared.stack.Waiting as given_waiting
use Rattle.pyparse_block.specs.declared.stack.Stack.{Stack}
use Rattle.pyparse_block.specs.Inner.Levels.{following, ended, popped}
use Rattle.pyparse_block.specs.Inner.Meeting.{closed, is_matching, marked, met}
use Rattle.pyparse_block.specs.Values.{waiting_of, below_of, state_of}
use Rattle.pyparse_block.proofs.AnswerLemmas.{tells_then}

-- ---- The levels below.

pub length-below_of : (ws : List given_waiting.Waiting) → length (below_of ws) ≡ length ws
length-below_of ws = length-reverse (map waiting_of ws) ∙ length-map ws waiting_of

pub below_of-append : (ws : List given_waiting.Waiting) (w : given_waiting.Waiting) → below_of (ws ++ w ∷ []) ≡ waiting_of w ∷ below_of ws
below_of-append ws w = ap reverse (map-append waiting_of ws (w ∷ [])) ∙ reverse-append (map waiting_of ws) (waiting_of w ∷ [])

-- ---- Levels that come to their end.

pub ended_popped : (s : State) (w : Waiting) (below : List Waiting) → s.below ≡ w ∷ below → ended s ≡ popped s w below
ended_popped s w below e = ap (λ z. elim z [ [] ↦ Fine s | w ∷ below ↦ popped s w below ]) e

pub ended_fresh : (s : State) → 0 < length s.below → s.fresh ≡ true → ended s ≡ Faulty ExpectedIndent
ended_fresh s n f =
    elim s.below as (λ b. 0 < length b → ◌≡◌ {A = Answer State} (elim b [ [] ↦ Fine s | w ∷ below ↦ popped s w below ])
    (Faulty ExpectedIndent)) [
      | [] ↦ λ n. absurd (omega arith)
      | w ∷ below ↦ λ n. ap (λ b. cond b (Faulty ExpectedIndent) (following below (above w s.done s.group))) f
    ] n

-- the level below, with the block that it waited for
abbrev grown : Waiting → List Waiting → List Stmt → State
grown w below body = state (joined w.done w.group w.header body).done (joined w.done w.group w.header body).group false below

-- a level that isn't the block of a `match`
after_closed : (w : Waiting) (below : List Waiting) (d : List Stmt) (g : Group) → is_matching g ≡ false →
    following below (above w d g) ≡ then (closed d g) (λ body. Fine (grown w below body))
after_closed w below d (Matching cs) h = absurd (cc)
after_closed w below d g h = by_closes (closes g)
  where
    by_closes : (o : Option (List Stmt)) →
        following below (elim o [ None ↦ None | Some ss ↦ Some (joined w.done w.group w.header (d ++ ss)) ])
        ≡ then {A = List Stmt} (elim o [ None ↦ Faulty MisplacedClause | Some ss ↦ Fine (d ++ ss) ]) (λ body. Fine (grown w below body))
    by_closes None = refl
    by_closes (Some ss) = refl

ended_whole : (s : State) (w : Waiting) (below : List Waiting) → s.below ≡ w ∷ below → s.fresh ≡ false
    → ended s ≡ following below (above w s.done s.group)
ended_whole s w below b e = ended_popped s w below b ∙ ap (λ b. cond b (Faulty ExpectedIndent) (following below (above w s.done s.group))) e

pub ended_refused : (s : State) (f : Fault) → 0 < length s.below → s.fresh ≡ false → is_matching s.group ≡ false
    → closed s.done s.group ≡ Faulty f → ended s ≡ Faulty f
ended_refused s f n e m c =
    elim s.below as (λ b. s.below ≡ b → 0 < length b → ended s ≡ Faulty f) [
      | [] ↦ λ i n. absurd (omega arith)
      | w ∷ below ↦ λ i n. ended_whole s w below i e ∙ after_closed w below s.done s.group m
          ∙ ap (λ a. then a (λ body. Fine (grown w below body))) c
    ] refl n

ended_fine : (s : State) (w : Waiting) (below : List Waiting) (body : List Stmt) → s.below ≡ w ∷ below → s.fresh ≡ false
    → is_matching s.group ≡ false →
    closed s.done s.group ≡ Fine body → ended s ≡ Fine (grown w below body)
ended_fine s w below body b e m c =
    ended_whole s w below b e ∙ after_closed w below s.done s.group m ∙ ap (λ a. then a (λ body. Fine (grown w below body))) c

-- the level below as the program has it
pub level_ended : (s : State) (ws lower : List given_waiting.Waiting) (w : given_waiting.Waiting) (body done : List Stmt) (group : Group) →
    s.below ≡ below_of ws → ws ≡ lower ++ w ∷ [] → s.fresh ≡ false → is_matching s.group ≡ false → closed s.done s.group ≡ Fine body →
    done ≡ (grown (waiting_of w) (below_of lower) body).done → group ≡ (grown (waiting_of w) (below_of lower) body).group
    → ended s ≡ Fine (state done group false (below_of lower))
level_ended s ws lower w body done group b v e m c d g =
    ended_fine s (waiting_of w) (below_of lower) body (b ∙ ap below_of v ∙ below_of-append lower w) e m c
    ∙ ap (λ z. Fine (state z (grown (waiting_of w) (below_of lower) body).group false (below_of lower))) (sym d)
    ∙ ap (λ z. Fine (state done z false (below_of lower))) (sym g)

-- the block of a `match`
pub ended_match : (s : State) (w : Waiting) (below : List Waiting) (cs : List Case) → s.below ≡ w ∷ below → s.fresh ≡ false
    → s.group ≡ Matching cs →
    ended s ≡ Fine (state (w.done ++ matched w.header cs) Idle false below)
ended_match s w below cs b e g = ended_whole s w below b e ∙ ap (λ g. following below (above w s.done g)) g

-- one level, and then the others
settle_after : (l : ℕ) (below : List Waiting) (o : Option PartialBlock) →
    ◌≡◌ {A = Answer State} (elim o [ None ↦ Faulty MisplacedClause | Some p ↦ settle_in l p.done p.group false below ])
    (then (following below o) (settle l))
settle_after l below None = refl
settle_after l below (Some p) = refl

settle_popped : (l : ℕ) (d : List Stmt) (g : Group) (f : Bool) (w : Waiting) (below : List Waiting) → l < length (w ∷ below) →
    settle_in l d g f (w ∷ below) ≡ then (popped (state d g f (w ∷ below)) w below) (settle l)
settle_popped l d g f w below h =
    ap (λ b. cond b (cond f (Faulty ExpectedIndent) (elim (above w d g) [
      | None ↦ Faulty MisplacedClause
      | Some p ↦ settle_in l p.done p.group false below
    ])) (Fine (state d g f (w ∷ below))))
    (is_less l (length (w ∷ below)) h)
    ∙ by_fresh f
  where
    by_fresh : (f : Bool) →
        ◌≡◌ {A = Answer State}
        (cond f (Faulty ExpectedIndent) (elim (above w d g) [
          | None ↦ Faulty MisplacedClause
          | Some p ↦ settle_in l p.done p.group false below
        ]))
        (then (popped (state d g f (w ∷ below)) w below) (settle l))
    by_fresh true = refl
    by_fresh false = settle_after l below (above w d g)

pub settle_ended : (l : ℕ) (s : State) → l < length s.below → settle l s ≡ then (ended s) (settle l)
settle_ended l s h =
    elim s.below as (λ b. l < length b
    → settle_in l s.done s.group s.fresh b ≡ then (elim b [ [] ↦ Fine s | w ∷ below ↦ popped s w below ]) (settle l)) [
      | [] ↦ λ h. absurd (omega arith)
      | w ∷ below ↦ λ h. settle_popped l s.done s.group s.fresh w below h
    ] h

pub settle_stays : (l : ℕ) (s : State) → length s.below ≤ l → settle l s ≡ Fine s
settle_stays l s h = settle_here l s.done s.group s.fresh s.below h

-- after a level that ended the others are left
pub settle_more : (l : ℕ) (s t : Stack) (whole : Answer State) → l < length s.below.items → ended (state_of s) ≡ Fine (state_of t)
    → settle l (state_of s) ≡ whole →
    settle l (state_of t) ≡ whole
settle_more l s t whole h e w =
    let n = length-below_of s.below.items in
    ap (λ a. then a (settle l)) (sym e) ∙ sym (settle_ended l (state_of s) (omega arith)) ∙ w

-- where no level has to end, all is as it was
pub settle_done : (l : ℕ) (s : Stack) (whole : Answer State) → length s.below.items ≤ l → settle l (state_of s) ≡ whole
    → whole ≡ Fine (state_of s)
settle_done l s whole h w =
    let n = length-below_of s.below.items in
    sym w ∙ settle_stays l (state_of s) (omega arith)

-- ---- What a line makes of the deepest level.

pub place_simple_is : (s : State) (ss : List Stmt) → place s (simple_form ss) ≡ then (closed s.done s.group)
    (λ body. Fine (state (body ++ ss) Idle false s.below))
place_simple_is s ss = by_closed (closes s.group)
  where
    by_closed : (o : Option (List Stmt))
        → ◌≡◌ {A = Answer State} (or_misplaced o (λ more. state ((s.done ++ more) ++ ss) Idle false s.below))
        (then {A = List Stmt} (elim o [ None ↦ Faulty MisplacedClause | Some more ↦ Fine (s.done ++ more) ])
        (λ body. Fine (state (body ++ ss) Idle false s.below)))
    by_closed None = refl
    by_closed (Some more) = refl

pub place_decorator_is : (s : State) (e : Expr) → place s (decorator_form e) ≡ then (marked s.done s.group e)
    (λ p. Fine (state p.done p.group false s.below))
place_decorator_is s e = by_found (decorated s.group e)
  where
    by_found : (o : Option PartialBlock) → ◌≡◌ {A = Answer State} (or_misplaced o (λ p. state (s.done ++ p.done) p.group false s.below))
        (then {A = PartialBlock} (elim o [ None ↦ Faulty MisplacedClause | Some p ↦ Fine (part (s.done ++ p.done) p.group) ])
        (λ p. Fine (state p.done p.group false s.below)))
    by_found None = refl
    by_found (Some p) = refl

-- with nothing in front of what the header found
pub place_header_is : (s : State) (h : Header) (suite : Option (List Stmt)) →
    place s (header_form h suite) ≡ then (met s.done s.group h) (λ p. Fine (place_header (state [] s.group s.fresh s.below) h suite p))
place_header_is s h suite = by_found (meets s.group h) suite
  where
    by_found : (o : Option PartialBlock) (suite : Option (List Stmt)) → ◌≡◌ {A = Answer State} (or_misplaced o (place_header s h suite))
        (then {A = PartialBlock} (elim o [ None ↦ Faulty MisplacedClause | Some p ↦ Fine (part (s.done ++ p.done) p.group) ])
        (λ p. Fine (place_header (state [] s.group s.fresh s.below) h suite p)))
    by_found None suite = refl
    by_found (Some p) None = refl
    by_found (Some p) (Some body) = refl

-- a line that is deeper than all open levels, and one that isn't
pub placed_deep : (l : ℕ) (f : Form) (s : State) → length s.below < l → placed l f s ≡ Faulty UnexpectedIndent
placed_deep l f s h = ap (λ b. cond b (Faulty UnexpectedIndent) (place s f)) (is_less (length s.below) l h)

pub placed_here : (l : ℕ) (f : Form) (s : State) → l ≤ length s.below → placed l f s ≡ place s f
placed_here l f s h = ap (λ b. cond b (Faulty UnexpectedIndent) (place s f)) (not_less (length s.below) l h)

-- for the levels that end
pub ruleset ending = (length-below_of, below_of-append, ended_fresh, ended_refused, ended_match, settle_ended, settle_stays, tells_then)

-- for a line of the deepest level
pub ruleset placing = (
  length-below_of,
  below_of-append,
  place_simple_is,
  place_decorator_is,
  place_header_is,
  placed_deep,
  placed_here,
  tells_then,
)
