-- A lister whose text is whole lines: where it stands in a part of it, and how it goes on.
--
-- Carries: look. On: Steps, Measured, Significant, Finding and 2 more.
use Rattle.std.proofs.Common.{suc, ◌≡◌, ◌≢◌, ℕ, ◌+◌, ◌-◌, ◌<◌, Bool, true, false, ◌&&◌, List, [], ◌∷◌, ◌++◌, length, take, refl, ap, ◌∙◌}
use Rattle.std.proofs.Common.{sym, subst, arith, inl, inr, ◌⊎◌, Option, Some, None, length-append}
use Rattle.std.specs.Str.{chars, IsUtf8}
use Rattle.std.proofs.lemmas.Bool.{eqb-true}
use Rattle.std.proofs.lemmas.Str.{chars-nil}
use Rattle.pysource.specs.Streams.{ends_line}
use Rattle.pylex_listing.specs.declared.entries.ListingFault.{ListingFault}
use Rattle.pylex.specs.declared.line_state.LineState.{LineState}
use Rattle.pylex_lexeme.specs.Chunks.{EndsLine}
use Rattle.pylex_lexeme.specs.Cuts.{begins_significant}
use Rattle.pylex_lexeme.specs.Lexemes.{Lexeme, lexeme_at, is_open_string}
use Rattle.pylex_listing.specs.Listing.{stop_fault, up_to_end}
use Rattle.pylex.specs.Listers.{Listed, Keeps}
use Rattle.pylex_listing.specs.Machine.{State, layout_of, remaining}
use Rattle.pylex.specs.LineState.{Stands, Comes, StopAhead}
use Rattle.pylex.proofs.MachineLaws.Steps.{remaining_stop}
use Rattle.pylex.proofs.Listers.Measured.{stop_within}
use Rattle.pylex_listing.proofs.Callers.{none_at_all}
use Rattle.pylex.proofs.Listers.Finding.{walks_on}
use Rattle.pylex.proofs.Listers.Looking.{walks_in}
use Rattle.pylex_lexeme.proofs.Callers.WholeLines.{lexeme_kept, significant_kept}
use Rattle.pylex.proofs.LineByLine.Carried.{chars_lines}

-- A lister that may go on over some bytes may go on over their front.
pub stands_front : (p : LineState) (a b : List ℕ) → Stands p (a ++ b) → IsUtf8 a → Stands p a
stands_front p a b s u =
    let n : length (a ++ b) ≡ length a + length b = length-append a b in
    let r = s.room in
    record {
      utf8 = u;
      room = record {
        row = omega (arith, r.row);
        column = omega (arith, r.column);
        offset = omega (arith, r.offset);
        depth = omega (arith, r.depth);
        width = omega (arith, r.width);
      };
    }

-- Where no lexeme stands in a text, none stands in its whole lines.
none_in : (cs es : List ℕ) → EndsLine cs → lexeme_at (cs ++ es) ≡ None → (o : Option Lexeme) → lexeme_at cs ≡ o → o ≡ None
none_in cs es l n None e = refl
none_in cs es l n (Some x) e = absurd (let f : None ≡ Some x = sym n ∙ lexeme_kept cs es x l e in cc)

-- and none in an empty text, which begins no line
nothing_at : (o : Option Lexeme) → lexeme_at [] ≡ o → o ≡ None
nothing_at None e = refl
nothing_at (Some x) e = absurd (none_at_all x e)

nothing_begins : (b : Bool) → (b && begins_significant []) ≡ false
unfolding begins_significant
nothing_begins true = refl
nothing_begins false = refl

-- no lexeme stands where nothing is left
pub stop_empty : (q : LineState) → StopAhead q []
stop_empty q = record { none = nothing_at (lexeme_at []) refl; settled = nothing_begins q.margin }

pub stop_back : (q : LineState) (cs es : List ℕ) → EndsLine cs ⊎ (cs ≡ []) → StopAhead q (cs ++ es) → StopAhead q cs
stop_back q cs es (inl l) s = record {
  none = none_in cs es l s.none (lexeme_at cs) refl;
  settled = ap (λ t. q.margin && t) (sym (significant_kept cs es l)) ∙ s.settled;
}
stop_back q [] es (inr e) s = record { none = nothing_at (lexeme_at []) refl; settled = nothing_begins q.margin }
stop_back q (c ∷ cs) es (inr e) s = absurd (let f : c ∷ cs ≡ [] = e in cc)

-- Where no literal is open, the fault after the text is not what ends its listing.
fault_any : (f g : Option ListingFault) (s : State) (ds : List ℕ) → is_open_string ds ≡ false
    → stop_fault f s.now.place ds ≡ stop_fault g s.now.place ds
unfolding stop_fault
fault_any f g s ds o = rw o refl

pub remaining_any : (f g : Option ListingFault) (s : State) (ds : List ℕ) → lexeme_at ds ≡ None → ds ≢ [] → is_open_string ds ≡ false
    → remaining f s ds ≡ remaining g s ds
remaining_any f g s [] n some o = absurd (some refl)
remaining_any f g s (d ∷ ds) n some o =
    remaining_stop f s (d ∷ ds) n
    ∙ ap up_to_end (stop_within f s d ds ∙ ap (λ u. layout_of s ++ u ∷ []) (fault_any f g s (d ∷ ds) o) ∙ sym (stop_within g s d ds))
    ∙ sym (remaining_stop g s (d ∷ ds) n)

-- A lister that has looked on keeps what it kept.
pub keeps_on : (l : Listed) (p q : LineState) (left ds levels : List ℕ) (nested tail : ℕ) → Keeps l p left levels nested tail
    → Comes (take nested levels) p (chars left) q (chars ds) → Stands q ds → (0 < tail → StopAhead q (chars ds))
    → Keeps l q ds levels nested tail
keeps_on l p q left ds levels nested tail k c s stop = record {
  utf8 = k.utf8;
  small = k.small;
  stood = k.stood;
  stands = s;
  ascending = k.ascending;
  within = k.within;
  placed = walks_in _ _ _ 0 _ _ c.walks k.placed;
  came = let z : length levels - nested + 0 ≡ length levels - nested = omega arith in
      rw z at (walks_on _ _ _ _ (length levels - nested) 0 _ _ k.came c.walks);
  stop = stop;
}

-- the last byte is that of the rest
pub ends_on : (x y : ℕ) (b : List ℕ) → ends_line (x ∷ y ∷ b) ≡ ends_line (y ∷ b)
ends_on x y b =
    let e : length (x ∷ y ∷ b) - 1 ≡ suc (length b) = omega arith in
    let f : length (y ∷ b) - 1 ≡ length b = omega arith in
    rw (e, f) refl

-- Bytes that end a line are characters that do.
last_feed : (held : List ℕ) → ends_line held ≡ true → (front : List ℕ) × (held ≡ front ++ 10 ∷ [])
last_feed [] e = cc
last_feed (b ∷ []) e = ([], ap (λ x. x ∷ []) (eqb-true b 10 e))
last_feed (b ∷ c ∷ bs) e = let f = last_feed (c ∷ bs) (sym (ends_on b c bs) ∙ e) in (b ∷ f.0, ap (λ t. b ∷ t) f.1)

pub lined_chars : (held : List ℕ) → IsUtf8 held → ends_line held ≡ true → EndsLine (chars held)
lined_chars held u e = let f = last_feed held e in subst (λ t. EndsLine (chars t)) (sym f.1) (chars_lines f.0 (subst IsUtf8 f.1 u))

-- And so are those that are left of them, if any are.
pub feed_following : (a : List ℕ) (b : ℕ) (bs : List ℕ) → ends_line (a ++ b ∷ bs) ≡ true → ends_line (b ∷ bs) ≡ true
feed_following [] b bs e = e
feed_following (c ∷ []) b bs e = sym (ends_on c b bs) ∙ e
feed_following (c ∷ d ∷ a) b bs e = feed_following (d ∷ a) b bs (sym (ends_on c d (a ++ b ∷ bs)) ∙ e)

pub lined_or_last : (held a left : List ℕ) → held ≡ a ++ left → IsUtf8 left → ends_line held ≡ true
    → EndsLine (chars left) ⊎ (chars left ≡ [])
lined_or_last held a [] h u e = inr chars-nil
lined_or_last held a (b ∷ bs) h u e = inl (lined_chars (b ∷ bs) u (feed_following a b bs (ap ends_line (sym h) ∙ e)))
