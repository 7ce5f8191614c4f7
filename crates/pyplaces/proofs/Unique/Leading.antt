-- What leads from one reading to another: put together, and to one end.
--
-- Carries: Comes, via, from, to, past, miss, untrue, is_true, one_end, for all of this crate.
use Rattle.std.proofs.Common.{◌≡◌, refl, sym, ap, subst, ℕ, Bool, true, false, cond, ◌==◌, List}
use Rattle.std.proofs.lemmas.Bool.{eqb-true}
use Rattle.pytoken.specs.Terminals.{Terminal}
use Rattle.pyplaces.specs.FormPlaces.{FormPlaces}
use Rattle.pyplaces.specs.Inner.Looks.{grip_of, on_grip}
use Rattle.pyplaces.specs.Inner.Questions.{Reading, Done, Ask}
use Rattle.pyplaces.specs.Inner.Steps.{Leads, here, on}

abbrev pub Comes : Reading → Reading → Type 0
Comes a b = Leads b a

pub via : {b a c : Reading} → Comes a b → Comes b c → Comes a c
via here q = q
via (on p) q = on (via p q)

pub from : {a b c : Reading} → a ≡ b → Comes b c → Comes a c
from {c = c} e p = subst (λ z. Leads c z) (sym e) p

pub to : {a b c : Reading} → Comes a b → b ≡ c → Comes a c
to {a = a} p e = subst (λ z. Leads z a) e p

-- ---- Tests.

unlike : (b : Bool) {A : Type 0} (hit other : A) → (b ≡ true → ⊥) → cond b hit other ≡ other
unlike true hit other h = absurd (h refl)
unlike false hit other h = refl

pub past : (a : Reading) {b c : Reading} {x n : ℕ} → (x ≡ n → ⊥) → Comes b c → Comes (cond (x == n) a b) c
past a {b} {c} {x} {n} h p = from (unlike (x == n) a b (λ q. h (eqb-true x n q))) p

-- the same of the grip of what follows
pub miss : (r : List Terminal) (n : ℕ) (a : Reading) {b c : Reading} → (grip_of r ≡ n → ⊥) → Comes b c → Comes (on_grip n r a b) c
miss r n a h p = past a h p

pub untrue : (a : Reading) {b c : Reading} {x : Bool} → x ≡ false → Comes b c → Comes (cond x a b) c
untrue a {b} {c} {x} e p = from (ap (λ z. cond z a b) e) p

pub is_true : (b : Reading) {a c : Reading} {x : Bool} → x ≡ true → Comes a c → Comes (cond x a b) c
is_true b {a} {c} {x} e p = from (ap (λ z. cond z a b) e) p

-- ---- One end.

abbrev IsDone : Reading → Type 0
IsDone (Done a r) = Unit {0}
IsDone (Ask q at i k) = ⊥

settle : {x m y : Reading} → Comes m x → Comes m y → IsDone y → Comes x y
settle here q d = q
settle (on p) here d = absurd d
settle (on p) (on q) d = settle p q d

abbrev Told : FormPlaces → List Terminal → Reading → Type 0
Told a r (Done b s) = (b ≡ a) × (s ≡ r)
Told a r (Ask q at i k) = Unit {0}

told : {x : Reading} {a : FormPlaces} {r : List Terminal} → Comes x (Done a r) → Told a r x
told here = (refl, refl)
told (on p) = tt

pub one_end : {m : Reading} {a b : FormPlaces} {r s : List Terminal} → Comes m (Done a r) → Comes m (Done b s) → (a ≡ b) × (r ≡ s)
one_end p q = told (settle p q tt)
