-- One lexeme off the front of what is left to list.
--
-- Carries: remaining_stop, left_stop, left_step, remaining_step and 2 more, for Ahead, LexedOn,
-- Measured, Carried and 4 more. On: Run.
use Rattle.std.proofs.Common.{◌≡◌, ℕ, ◌+◌, ◌-◌, ◌<◌, suc, List, [], ◌∷◌, ◌++◌, length, drop, refl, ap, arith, Option, Some, None}
use Rattle.std.proofs.Common.{length-append}
use Rattle.std.specs.List.{flat_map}
use Rattle.pylex_listing.specs.declared.entries.ListingFault.{ListingFault}
use Rattle.pylex_lexeme.specs.Lexemes.{Lexeme, lexeme_at, cut, cut_after, left_by_cut}
use Rattle.pylex_listing.specs.Listing.{up_to_end}
use Rattle.pylex_listing.specs.Machine.{State, gives, after, run, remaining, stop_of, after_steps}
use Rattle.pylex_listing.proofs.Callers.{up_to_end-append}

cut_after_front : (f back : List ℕ) → cut_after (length f) (f ++ back) ≡ cut_after 0 back
cut_after_front [] back = refl
cut_after_front (d ∷ f) back = cut_after_front f back

pub cut_step : (front back : List ℕ) (x : Lexeme) → lexeme_at (front ++ back) ≡ Some x → x.text ≡ front → 0 < length front
    → cut (front ++ back) ≡ x ∷ cut back
unfolding cut
cut_step [] back x e t n = absurd (omega arith)
cut_step (c ∷ f) back x e t n =
    let l : length x.text - 1 ≡ length f = omega (arith, ap length t) in
    rw (e, l) (ap (λ xs. x ∷ xs) (cut_after_front f back))

pub cut_stop : (cs : List ℕ) → lexeme_at cs ≡ None → cut cs ≡ []
unfolding cut
cut_stop [] e = refl
cut_stop (c ∷ cs) e = rw e refl

drop_front : (f back : List ℕ) (n : ℕ) → drop (length f + n) (f ++ back) ≡ drop n back
drop_front [] back n = let e : 0 + n ≡ n = omega arith in rw e refl
drop_front (c ∷ f) back n = let e : suc (length f) + n ≡ suc (length f + n) = omega arith in rw e (drop_front f back n)

pub left_step : (front back : List ℕ) (x : Lexeme) → lexeme_at (front ++ back) ≡ Some x → x.text ≡ front → 0 < length front
    → left_by_cut (front ++ back) ≡ left_by_cut back
unfolding left_by_cut
left_step front back x e t n =
    let c = cut_step front back x e t n in
    rw (c, t, length-append) (drop_front front back (length (flat_map (λ y. y.text) (cut back))))

pub left_stop : (cs : List ℕ) → lexeme_at cs ≡ None → left_by_cut cs ≡ cs
unfolding left_by_cut
left_stop cs e = let c = cut_stop cs e in rw c refl

-- what is left to list where a lexeme stands, and where none does
pub remaining_step : (fault : Option ListingFault) (s : State) (front back : List ℕ) (x : Lexeme) → lexeme_at (front ++ back) ≡ Some x
    → x.text ≡ front → 0 < length front → remaining fault s (front ++ back) ≡ after_steps (gives s x) (remaining fault (after s x) back)
unfolding remaining
remaining_step fault s front back x e t n =
    let c = cut_step front back x e t n in
    let l = left_step front back x e t n in
    rw (l, c) (up_to_end-append (gives s x) (run fault (left_by_cut back) (after s x) (cut back)))

pub remaining_stop : (fault : Option ListingFault) (s : State) (cs : List ℕ) → lexeme_at cs ≡ None
    → remaining fault s cs ≡ up_to_end (stop_of fault s cs)
unfolding remaining
remaining_stop fault s cs e =
    let c = cut_stop cs e in
    let l = left_stop cs e in
    rw (l, c) refl
