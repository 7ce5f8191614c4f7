-- The ends of the header of a `match`.
--
-- Carries: ends_in_colon. On: LineReader.
use Rattle.std.proofs.Common.{◌≡◌, refl, sym, ap, ◌∙◌, arith, ℕ, zero, suc, ◌+◌, ◌<◌, List, [], ◌∷◌, length, drop, map, None, is_some, Bool}
use Rattle.std.proofs.Common.{true, false, MatchBool}
use Rattle.std.proofs.lemmas.List.{length-map}
use Rattle.pylex_lexeme.specs.declared.kinds.Exact.{Exact}
use Rattle.pylex_lexeme.specs.declared.kinds.Exact.TheVariants.{Colon}
use Rattle.pytoken.specs.Terminals.{Terminal, Op}
use Rattle.pytoken.specs.declared.values.terminals.Terminal as given
use Rattle.pytoken.specs.TerminalOf.{terminal}
use Rattle.pygrammar.specs.LineReader.{ends_in_colon, is_colon}
use Rattle.pygrammar.specs.Looks.{is_op}
use Rattle.pyparse_nodes.specs.Views.{Stands, first_is, seen}

colon_sign : (x : Exact) → is_colon (Op x) ≡ is_some (is_op Colon (Op x))
colon_sign Colon = refl
colon_sign _ = refl

colon_test : (t : Terminal) → is_colon t ≡ is_some (is_op Colon t)
colon_test (Op x) = colon_sign x
colon_test _ = refl

-- the last terminal of a list is tested
at_last : (i : List Terminal) (n : ℕ) → length i ≡ n + 1 → ends_in_colon i ≡ is_some (first_is (is_op Colon) (drop n i))
at_last [] n e = absurd (omega (arith, e))
at_last (t ∷ []) zero e = colon_test t
at_last (t ∷ []) (suc n) e = absurd (omega (arith, e))
at_last (t ∷ (u ∷ i)) zero e = absurd (omega (arith, e))
at_last (t ∷ (u ∷ i)) (suc n) e = at_last (u ∷ i) n (omega (arith, e))

following_first : (i : List Terminal) (n : ℕ) → length i ≡ n + 1 → 0 < n
    → ends_in_colon (drop 1 i) ≡ is_some (first_is (is_op Colon) (drop n i))
following_first [] n e w = absurd (omega (arith, e))
following_first (t ∷ i) zero e w = absurd (omega (arith, w))
following_first (t ∷ i) (suc n) e w = at_last i n (omega (arith, e))

module _ (ts : List given.Terminal) where
  lasts : (n : ℕ) → length ts ≡ n + 1 → 0 < n → ends_in_colon (seen ts 1) ≡ is_some (first_is (is_op Colon) (seen ts n))
  lasts n e w = following_first (map terminal ts) n (length-map ts terminal ∙ e) w

  -- a list of two terminals or more ends in what stands last
  pub last_colon : (n : ℕ) (b : Bool) → length ts ≡ n + 1 → 0 < n
      → MatchBool b (Stands (Op Colon) ts n) (None ≡ first_is (is_op Colon) (seen ts n)) → b ≡ ends_in_colon (seen ts 1)
  last_colon n true e w s = sym (lasts n e w ∙ ap (λ r. is_some (first_is (is_op Colon) r)) s.is)
  last_colon n false e w h = ap is_some h ∙ sym (lasts n e w)

  -- one of fewer has nothing after the first
  pub no_colon : length ts < 2 → false ≡ ends_in_colon (seen ts 1)
  no_colon w = short (map terminal ts) (omega (arith, w, length-map ts terminal))
    where
      short : (i : List Terminal) → length i < 2 → false ≡ ends_in_colon (drop 1 i)
      short [] w = refl
      short (t ∷ []) w = refl
      short (t ∷ (u ∷ i)) w = absurd (omega (arith, w))
