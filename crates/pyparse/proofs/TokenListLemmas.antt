-- The first token that is faulty by itself, token by token.
--
-- Carries: terminals_of.
use Rattle.std.proofs.Common.{◌≡◌, refl, sym, ap, ◌∙◌, ℕ, ◌+◌, zero, suc, List, [], ◌∷◌, ◌++◌, append-nil, append_assoc, take, Option, Some}
use Rattle.std.proofs.Common.{None, length, get_or, ◌<◌, arith}
use Rattle.pytoken.specs.declared.refusals.Refusal.{Refusal}
use Rattle.pytoken.specs.Terminals.{Terminal}
use Rattle.pyparse_tokens.specs.declared.faults.ParseFault.{ParseFault}
use Rattle.pyparse_tokens.specs.declared.faults.ParseFault.TheVariants.{Refused, Grammar, Memory}
use Rattle.pyparse_tokens.specs.declared.tokens.Token.{Token}
use Rattle.pyparse_tokens.specs.Answers.{Tells}
use Rattle.pyparse.specs.TokenLists.{terminals, token_terminals, token_refusal, first_refusal}
use Rattle.std.specs.Option.{option_or}

or_none : (a b : Option Refusal) → option_or a b ≡ None → (a ≡ None) × (b ≡ None)
or_none None b h = (refl, h)
or_none (Some r) b h = absurd cc

first_at : (xs : List Token) (i : ℕ) (d : Token) (r : Refusal) → i < length xs → first_refusal (take i xs) ≡ None
    → token_refusal (get_or xs i d) ≡ Some r → first_refusal xs ≡ Some r
first_at [] i d r w n t = absurd (omega (arith, w))
first_at (y ∷ ys) zero d r w n t = rw t refl
first_at (y ∷ ys) (suc i) d r w n t = let o = or_none (token_refusal y) (first_refusal (take i ys)) n in
    rw (o.0) (first_at ys i d r (omega (arith, w)) o.1 t)

-- a fault of a token after sound ones is the first
pub told_first : (xs : List Token) (i : ℕ) (d : Token) (f : ParseFault) → i < length xs → first_refusal (take i xs) ≡ None
    → Tells (token_refusal (get_or xs i d)) f → Tells (first_refusal xs) f
told_first xs i d (Refused r) w n t = first_at xs i d r w n t
told_first xs i d (Grammar e p) w n t = absurd t
told_first xs i d Memory w n t = tt

-- one sound token more
pub none_more : (xs : List Token) (i : ℕ) (d : Token) → i < length xs → first_refusal (take i xs) ≡ None
    → token_refusal (get_or xs i d) ≡ None → first_refusal (take (i + 1) xs) ≡ None
none_more [] i d w n t = absurd (omega (arith, w))
none_more (y ∷ ys) zero d w n t = rw t refl
none_more (y ∷ ys) (suc i) d w n t = let m : suc i + 1 ≡ suc (i + 1) = omega arith in let o =
    or_none (token_refusal y) (first_refusal (take i ys)) n in rw (m, o.0) (none_more ys i d (omega (arith, w)) o.1 t)

-- and its terminals
terminals_on : (xs : List Token) (i : ℕ) (d : Token) → i < length xs → terminals (take (i + 1) xs) ≡ terminals (take i xs) ++
    token_terminals (get_or xs i d)
terminals_on [] i d w = absurd (omega (arith, w))
terminals_on (y ∷ ys) zero d w = append-nil (token_terminals y)
terminals_on (y ∷ ys) (suc i) d w =
    let m : suc i + 1 ≡ suc (i + 1) = omega arith in
    rw m (ap (λ z. token_terminals y ++ z) (terminals_on ys i d (omega (arith, w)))
    ∙ sym (append_assoc (token_terminals y) (terminals (take i ys)) (token_terminals (get_or ys i d))))

pub terminals_more : (xs : List Token) (i : ℕ) (d : Token) (old new : List Terminal) → i < length xs → old ≡ terminals (take i xs) →
    new ≡ old ++ token_terminals (get_or xs i d) → new ≡ terminals (take (i + 1) xs)
terminals_more xs i d old new w was more = more ∙ ap (λ ts. ts ++ token_terminals (get_or xs i d)) was ∙ sym (terminals_on xs i d w)
