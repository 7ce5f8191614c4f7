-- Neighbouring literals.
--
-- Carries: string_run. On: Views.
use Rattle.std.proofs.Common.{◌≡◌, refl, ap, ◌∙◌, ℕ, ◌+◌, List, [], ◌∷◌, ◌++◌, map, drop, drop-drop, Some, None, Bool}
use Rattle.pytree_node.specs.Values as Values
use Rattle.pytree_node.specs.Values.{Value}
use Rattle.pytoken.specs.Terminals.{Terminal, Literal}
use Rattle.pytoken.specs.declared.values.terminals.Terminal as given
use Rattle.pytoken.specs.TerminalOf.{terminal}
use Rattle.pygrammar.specs.Constants.{joined}
use Rattle.pygrammar.specs.Looks.{literal_in}
use Rattle.pygrammar.specs.Reader.{Answer, Found, NoForm, TooDeep, and_then, made, string_run}
use Rattle.pyparse_nodes.specs.Runs.{run}
use Rattle.pyparse_nodes.specs.Views.{seen, first_is}

run_front : (v : Value) (acc : List Value) (r : List Terminal) → string_run (v ∷ acc) r ≡ and_then (string_run acc r)
    (λ vs s. Found (v ∷ vs) s)
run_front v acc [] = refl
run_front v acc (Literal w ∷ r) = run_front v (acc ++ (w ∷ [])) r
run_front v acc (_ ∷ r) = refl

turned : (v w : Value) (r : List Terminal) → run v (Literal w ∷ r) ≡ and_then (string_run [] r) (λ vs s. made (joined v (w ∷ vs)) s)
turned v w r = ap (λ z. and_then z (λ vs s. made (joined v vs) s)) (run_front w [] r) ∙ go (string_run [] r)
  where
    go : (x : Answer (List Value)) → and_then (and_then x (λ vs s. Found (w ∷ vs) s)) (λ vs s. made (joined v vs) s) ≡ and_then x
        (λ vs s. made (joined v (w ∷ vs)) s)
    go NoForm = refl
    go TooDeep = refl
    go (Found vs s) = refl

pub text_turn : (t s : List ℕ) (u x : Bool) (r : List Terminal) → run (Values.Str t u) (Literal (Values.Str s x) ∷ r) ≡ run
    (Values.Str (t ++ s) u) r
text_turn t s u x r = turned (Values.Str t u) (Values.Str s x) r

pub bytes_turn : (t s : List ℕ) (r : List Terminal) → run (Values.Bytes t) (Literal (Values.Bytes s) ∷ r) ≡ run (Values.Bytes (t ++ s)) r
bytes_turn t s r = turned (Values.Bytes t) (Values.Bytes s) r

never : (acc : List Value) (r : List Terminal) → and_then (string_run acc r) (λ vs s. made {A = Value} None s) ≡ NoForm
never acc [] = refl
never acc (Literal w ∷ r) = never (acc ++ (w ∷ [])) r
never acc (_ ∷ r) = refl

pub text_mixed : (t s : List ℕ) (u : Bool) (r : List Terminal) → run (Values.Str t u) (Literal (Values.Bytes s) ∷ r) ≡ NoForm
text_mixed t s u r = turned (Values.Str t u) (Values.Bytes s) r ∙ never [] r

pub bytes_mixed : (t s : List ℕ) (u : Bool) (r : List Terminal) → run (Values.Bytes t) (Literal (Values.Str s u) ∷ r) ≡ NoForm
bytes_mixed t s u r = turned (Values.Bytes t) (Values.Str s u) r ∙ never [] r

pub literal_front : (ts : List given.Terminal) (n : ℕ) (v : Value) → Some v ≡ first_is literal_in (seen ts n)
    → seen ts n ≡ Literal v ∷ seen ts (n + 1)
literal_front ts n v h = split (seen ts n) h ∙ ap (λ r. Literal v ∷ r) (drop-drop 1 n (map terminal ts))
  where
    split : (r : List Terminal) → Some v ≡ first_is literal_in r → r ≡ Literal v ∷ drop 1 r
    split [] h = absurd (cc)
    split (Literal w ∷ r) h = cc
    split (_ ∷ r) h = absurd (cc)
