-- Statements that begin with a Value.
--
-- Carries: rise, valued_last .. annotated_goes, two_names, for SimpleForms. On: Expressions, LineParts.
use Rattle.std.proofs.Common.{◌≡◌, refl, sym, ap, ◌∙◌, ℕ, ◌+◌, ◌≤◌, arith, List, [], ◌∷◌, ◌++◌, length, append_assoc, length-append}
use Rattle.std.proofs.Common.{Option, Bool, false}
use Rattle.std.specs.Prelude.{◌&&◌}
use Rattle.pylex_lexeme.specs.declared.kinds.Exact.TheVariants as Sign
use Rattle.pytree_node.specs.Trees.{Expr}
use Rattle.pytoken.specs.Terminals.{Spelled, Terminal, Op, Ident}
use Rattle.pygrammar.specs.declared.levels.Level.TheVariants.{Value, Stars, StarItem, Named, Expression, Or, And, Not, Compare, BitOr}
use Rattle.pygrammar.specs.declared.levels.Level.TheVariants.{BitXor}
use Rattle.pygrammar.specs.declared.levels.Level.TheVariants.{BitAnd, Shift, Sum, Term, Factor, Power, Await, Primary}
use Rattle.pygrammar.specs.Forms as F
use Rattle.pygrammar.specs.Grammar as G
use Rattle.pyplaces.specs.Stretches.{Stretch, over}
use Rattle.pyplaces.specs.ExpressionPlaces.{places, target_places}
use Rattle.pyplaces.specs.FormPlaces.{plain_header, after_places, targets_places}
use Rattle.pyplaces.specs.Inner.Looks.{after, grip_of, lead_of, mark_of, is_named}
use Rattle.pyplaces.specs.Inner.ExpressionSteps.{Goes}
use Rattle.pyplaces.specs.Inner.LineSteps.{annotated}
use Rattle.pyplaces.specs.Inner.Questions.{An, Valued, Done, Ask}
use Rattle.pyplaces.specs.Inner.Steps.{here, on}
use Rattle.pyplaces.proofs.Unique.Leading.{Comes, via, to, miss, one_end}
use Rattle.pyplaces.proofs.Unique.LookLemmas.{lead_front}
use Rattle.pyplaces.proofs.Unique.Led.{led}
use Rattle.pyplaces.proofs.Unique.Levels.{Stops, value_stops, Reads, next_goes, name_expression}
use Rattle.pyplaces.proofs.Unique.Answered.{Answers, shaped}
use Rattle.pyplaces.proofs.Unique.AtomForms.{group_goes}
use Rattle.pyplaces.proofs.Unique.PatternLooks.{miss_mark}
use Rattle.pyplaces.proofs.Unique.LineParts.{after_marked}
use Rattle.pyplaces.proofs.Unique.Expressions.{goes}

-- what may follow a statement
abbrev pub EndStops : List Terminal → Type 0
EndStops r = (grip_of r ≡ 0) × (lead_of r ≡ 0) × (mark_of r ≤ 1)

-- ---- Targets as Values.

pub star_value : (ts : List Terminal) (f : ℕ → List Stretch) → 7 ≤ lead_of ts → Reads Stars ts f → Reads Value ts f
star_value ts f h p = next_goes Value ts f h tt p

bits : (ts : List Terminal) (f : ℕ → List Stretch) → 23 ≤ lead_of ts → Reads Primary ts f → Reads BitOr ts f
bits ts f h p = next_goes BitOr ts f (omega (arith, h)) tt (next_goes BitXor ts f (omega (arith, h)) tt
    (next_goes BitAnd ts f (omega (arith, h)) tt (next_goes Shift ts f (omega (arith, h)) tt (next_goes Sum ts f (omega (arith, h)) tt
    (next_goes Term ts f (omega (arith, h)) tt (next_goes Factor ts f (omega (arith, h)) tt (next_goes Power ts f (omega (arith, h)) tt
    (next_goes Await ts f (omega (arith, h)) tt p))))))))

primary_expression : (ts : List Terminal) (f : ℕ → List Stretch) → 23 ≤ lead_of ts → Reads Primary ts f → Reads Expression ts f
primary_expression ts f h p = next_goes Expression ts f (omega (arith, h)) tt (next_goes Or ts f (omega (arith, h)) tt
    (next_goes And ts f (omega (arith, h)) tt (next_goes Not ts f (omega (arith, h)) tt (next_goes Compare ts f (omega (arith, h)) tt
    (bits ts f h p)))))

pub primary_value : (ts : List Terminal) (f : ℕ → List Stretch) → 23 ≤ lead_of ts → Reads Primary ts f → Reads Value ts f
primary_value ts f h p = star_value ts f (omega (arith, h)) (next_goes Stars ts f (omega (arith, h)) tt
    (next_goes StarItem ts f (omega (arith, h)) tt (primary_expression ts f h p)))

-- in brackets
pub group_value : (ts : List Terminal) (f : ℕ → List Stretch) → 23 ≤ lead_of ts → Reads Primary ts f
    → Reads Value (Op Sign.LPar ∷ (ts ++ (Op Sign.RPar ∷ []))) (λ at. f (1 + at))
group_value ts f h p = primary_value (Op Sign.LPar ∷ (ts ++ (Op Sign.RPar ∷ []))) (λ at. f (1 + at)) (omega arith)
    (next_goes Primary (Op Sign.LPar ∷ (ts ++ (Op Sign.RPar ∷ []))) (λ at. f (1 + at)) (omega arith) tt
    (group_goes ts f (omega (arith, h)) (next_goes Named ts f (omega (arith, h)) tt (primary_expression ts f h p))))

-- ---- Two NAMEs begin no Value.

abbrev pub two : List Terminal → Bool
two i = is_named i && is_named (after i)

pub value_name : (x : Spelled) (at : ℕ) (r : List Terminal) (k : Goes) → grip_of r ≤ 8 → (grip_of r ≡ 3 → ⊥)
    → Comes (Ask (An Value) at (Ident x ∷ r) k) (k (over at 1) 1 r)
value_name x at r k s n = on (on (on (via (name_expression x at r _ s) (miss r 3 _ n here))))

pub two_names : (ts rest : List Terminal) (f : ℕ → List Stretch) → Reads Value ts f → Stops Value rest
    → two (ts ++ rest) ≡ false
two_names ts rest f p s = go (ts ++ rest) (p 0 rest (λ ps m r. Done (plain_header ps) r) s)
  where
    go : (i : List Terminal)
        → Comes (Ask (An Value) 0 i (λ ps m r. Done (plain_header ps) r)) (Done (plain_header (f 0)) rest) → two i ≡ false
    go [] c = refl
    go (Ident x ∷ []) c = refl
    go (Ident x ∷ (Ident y ∷ r)) c =
        let e = one_end c (value_name x 0 (Ident y ∷ r) (λ ps m r. Done (plain_header ps) r) (omega arith)
        (λ q. absurd (omega (arith, q)))) in
        absurd (omega (arith, s.3, ap lead_of (e.1)))
    go (Ident x ∷ (_ ∷ r)) c = refl
    go (_ ∷ r) c = refl

-- ---- A Value, and what stands in front of it.

pub valued_last : (ts : List Terminal) (f : ℕ → List Stretch) → Reads Value ts f → Answers Valued ts f EndStops
valued_last ts f p at rest k s = on (via (p at rest _ (value_stops rest (omega (arith, s.0)) (omega (arith, s.1))))
    (miss_mark rest 5 _ (λ q. omega (arith, q, s.2)) (miss_mark rest 13 _ (λ q. omega (arith, q, s.2))
    (miss_mark rest 4 _ (λ q. omega (arith, q, s.2)) here))))

target_value : {ts : List Terminal} {e : Expr} (t : G.Target ts e) → Reads Value ts (λ at. target_places at t)
target_value (G.target {ts = ts} p h) = star_value ts _ (led p) (goes p).0

pub targets_goes : {ts : List Terminal} {es : List Expr} (c : F.Targets ts es) (us : List Terminal) (g : ℕ → List Stretch)
    → Answers Valued us g EndStops → (at : ℕ) (rest : List Terminal) (k : Goes) → EndStops rest
    → Comes (Ask Valued at (ts ++ (us ++ rest)) k) (k (targets_places at c ++ g (at + length ts)) (length ts + length us) rest)
targets_goes (F.last_target {ts = ts} t) us g q at rest k s =
    shaped Valued at k (append_assoc ts (Op Sign.Equal ∷ []) (us ++ rest))
    (on (via (target_value t at (Op Sign.Equal ∷ (us ++ rest)) _ (value_stops (Op Sign.Equal ∷ (us ++ rest)) (omega arith) (omega arith)))
    (via (q (1 + (at + length ts)) rest _ s)
    (to here (ap (λ z. k (target_places at t ++ g z) (1 + (length ts + length us)) rest)
    (place (length (ts ++ (Op Sign.Equal ∷ []))) (omega (arith, length-append ts (Op Sign.Equal ∷ []))))
    ∙ ap (λ z. k (target_places at t ++ g (at + length (ts ++ (Op Sign.Equal ∷ [])))) z rest)
    (count (length (ts ++ (Op Sign.Equal ∷ []))) (omega (arith, length-append ts (Op Sign.Equal ∷ [])))))))))
  where
    place : (n : ℕ) → n ≡ 1 + length ts → 1 + (at + length ts) ≡ at + n
    place n e = omega (arith, e)

    count : (n : ℕ) → n ≡ 1 + length ts → 1 + (length ts + length us) ≡ n + length us
    count n e = omega (arith, e)
targets_goes (F.more_targets {ts = ts} {us = ws} t c) us g q at rest k s =
    shaped Valued at k (append_assoc ts (Op Sign.Equal ∷ ws) (us ++ rest))
    (on (via (target_value t at (Op Sign.Equal ∷ (ws ++ (us ++ rest))) _
    (value_stops (Op Sign.Equal ∷ (ws ++ (us ++ rest))) (omega arith) (omega arith)))
    (via (targets_goes c us g q (1 + (at + length ts)) rest _ s)
    (to here (ap (λ z. k z (1 + (length ts + (length ws + length us))) rest)
    (both (length (ts ++ (Op Sign.Equal ∷ ws))) (omega (arith, length-append ts (Op Sign.Equal ∷ ws))))
    ∙ ap (λ z. k ((target_places at t ++ targets_places (1 + (at + length ts)) c) ++ g (at + length (ts ++ (Op Sign.Equal ∷ ws)))) z rest)
    (count (length (ts ++ (Op Sign.Equal ∷ ws))) (omega (arith, length-append ts (Op Sign.Equal ∷ ws)))))))))
  where
    both : (n : ℕ) → n ≡ 1 + (length ts + length ws)
        → target_places at t ++ (targets_places (1 + (at + length ts)) c ++ g ((1 + (at + length ts)) + length ws))
        ≡ (target_places at t ++ targets_places (1 + (at + length ts)) c) ++ g (at + n)
    both n e = sym (append_assoc (target_places at t) (targets_places (1 + (at + length ts)) c) (g ((1 + (at + length ts)) + length ws)))
        ∙ ap (λ z. (target_places at t ++ targets_places (1 + (at + length ts)) c) ++ g z) (place n e)
      where
        place : (n : ℕ) → n ≡ 1 + (length ts + length ws) → (1 + (at + length ts)) + length ws ≡ at + n
        place n e = omega (arith, e)

    count : (n : ℕ) → n ≡ 1 + (length ts + length ws) → 1 + (length ts + (length ws + length us)) ≡ n + length us
    count n e = omega (arith, e)

-- they begin with a target
pub targets_two : {ts : List Terminal} {es : List Expr} → F.Targets ts es → (r : List Terminal) → two (ts ++ r) ≡ false
targets_two (F.last_target {ts = ts} t) r = ap two (append_assoc ts (Op Sign.Equal ∷ []) r)
    ∙ two_names ts (Op Sign.Equal ∷ r) _ (target_value t) (value_stops (Op Sign.Equal ∷ r) (omega arith) (omega arith))
targets_two (F.more_targets {ts = ts} {us = us} t c) r = ap two (append_assoc ts (Op Sign.Equal ∷ us) r)
    ∙ two_names ts (Op Sign.Equal ∷ (us ++ r)) _ (target_value t) (value_stops (Op Sign.Equal ∷ (us ++ r)) (omega arith) (omega arith))

target_led : {ts : List Terminal} {e : Expr} → G.Target ts e → 7 ≤ lead_of ts
target_led (G.target p h) = led p

pub targets_led : {ts : List Terminal} {es : List Expr} → F.Targets ts es → 7 ≤ lead_of ts
targets_led (F.last_target {ts = ts} t) = lead_front ts _ 7 (omega arith) (target_led t)
targets_led (F.more_targets {ts = ts} t c) = lead_front ts _ 7 (omega arith) (target_led t)

-- ---- Annotations.

pub annotated_goes : {us vs : List Terminal} {a : Expr} {v : Option Expr} (p : G.Derives Expression us a)
    (q : F.Following (Op Sign.Equal) Value vs v) (ps : List Stretch) (n at : ℕ) (rest : List Terminal) (k : Goes) → EndStops rest
    → Comes (annotated ps n at (us ++ (vs ++ rest)) k)
    (k (ps ++ (places (1 + (at + n)) p ++ after_places (1 + (at + (n + length us))) q)) (1 + (n + (length us + length vs))) rest)
annotated_goes {us = us} {vs = vs} p q ps n at rest k s = via ((goes p).0 (1 + (at + n)) (vs ++ rest) _ (equal q))
    (via (after_marked 5 q refl (1 + (at + (n + length us))) rest
    (λ rs w r. k (ps ++ (places (1 + (at + n)) p ++ rs)) (1 + (n + (length us + w))) r) (λ e. omega (arith, e, s.2))
    (value_stops rest (omega (arith, s.0)) (omega (arith, s.1))))
    here)
  where
    equal : {vs : List Terminal} {v : Option Expr} → F.Following (Op Sign.Equal) Value vs v → grip_of (vs ++ rest) ≤ 8
    equal F.none_after = omega (arith, s.0)
    equal (F.following p) = omega arith

-- after a Value that is a target
pub annotation_goes : (ts : List Terminal) {us vs : List Terminal} {a : Expr} {v : Option Expr} (f : ℕ → List Stretch) → Reads Value ts f
    → (p : G.Derives Expression us a) (q : F.Following (Op Sign.Equal) Value vs v) (at : ℕ) (rest : List Terminal) (k : Goes) → EndStops rest
    → Comes (Ask Valued at (ts ++ (Op Sign.Colon ∷ (us ++ (vs ++ rest)))) k) (k (f at ++ (places (1 + (at + length ts)) p ++
    after_places (1 + (at + (length ts + length us))) q)) (1 + (length ts + (length us + length vs))) rest)
annotation_goes ts {us} {vs} f c p q at rest k s = on (via (c at (Op Sign.Colon ∷ (us ++ (vs ++ rest))) _ (
  omega arith,
  λ e. absurd (omega (arith, e)),
  λ e. absurd (omega (arith, e)),
  omega arith,
)) (annotated_goes p q (f at) (length ts) at rest k s))
