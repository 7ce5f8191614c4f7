-- A lister that reads on stands where it stood.
--
-- Carries: ends_following, lined_left, no_text, only_line and 2 more, for Searching, Adding, JoinedOn,
-- Stepping. On: LexedOn, Lined, Streaming, Carried and 1 more.
use Rattle.std.proofs.Common.{◌≡◌, ◌⊎◌, inl, inr, ⊎_elim, ℕ, ◌+◌, ◌<◌, Bool, true, false, zero, suc, List, [], ◌∷◌, ◌++◌, length, take}
use Rattle.std.proofs.Common.{drop, refl, ap, sym, ◌∙◌, subst, append-nil, append_assoc, length-append, arith, None, string_bytes}
use Rattle.std.specs.Str.{chars, IsUtf8}
use Rattle.std.proofs.lemmas.List.{take-append-drop}
use Rattle.std.proofs.lemmas.Str.{chars-append, chars-nil, IsUtf8-append, IsUtf8-take, IsCharBoundary-at_seam}
use Rattle.std.proofs.Math.Seq.{drop-append_seam, take-append_seam}
use Rattle.pysource.specs.Parts.{Parts}
use Rattle.pysource.specs.Streams.{Coming, comes, onto, ends_line}
use Rattle.pysource.proofs.Callers.Faults.{comes_utf8}
use Rattle.pylex.specs.declared.held_lines.HeldLines.{HeldLines}
use Rattle.pylex.specs.declared.machine.Machine.{Machine}
use Rattle.pylex.specs.declared.line_state.LineState.{LineState}
use Rattle.pylex.specs.Inner.Chunked.{Grows, Stays}
use Rattle.pylex.specs.Listers.{Listed, Keeps}
use Rattle.pylex.specs.Inner.MachineSteps.{shown_from}
use Rattle.pylex.specs.LineState.{Comes, HasRoom, StopAhead}
use Rattle.pylex.specs.Streamed.{StreamsIn}
use Rattle.pylex.specs.Inner.LineSteps.{streamed}
use Rattle.pylex.specs.Held.{IsJoined, LexedTo}
use Rattle.pylex_lexeme.specs.Lexemes.{left_by_cut}
use Rattle.pylex.proofs.LineByLine.LexedOn.{joined_after, left_after, left_all}
use Rattle.pylex.proofs.LineByLine.Carried.{comes_carried}
use Rattle.pylex.proofs.LineByLine.Lined.{keeps_on, lined_or_last, ends_on}
use Rattle.pylex.proofs.Listers.Ranges.{measuring_comes}
use Rattle.pylex.proofs.LineByLine.Streaming.{Lined, stands_whole}

-- a text that ends with a line feed does so after another
pub ends_following : (a b : List ℕ) → ends_line b ≡ true → ends_line (a ++ b) ≡ true
ends_following [] b h = h
ends_following (x ∷ []) [] h = absurd (let f : false ≡ true = h in cc)
ends_following (x ∷ []) (y ∷ b) h = ends_on x y b ∙ h
ends_following (x ∷ y ∷ a) b h = ends_on x y (a ++ b) ∙ ends_following (y ∷ a) b h

-- what is left of lines is lines, unless nothing follows
pub lined_left : (held : List ℕ) (at : ℕ) (ahead : List ℕ) → IsUtf8 (drop at held) → (held ≡ []) ⊎ ((ends_line held ≡ true) ⊎ (ahead ≡ []))
    → Lined (drop at held) ahead
lined_left held at ahead u (inl e) = inl (inr (ap (λ h. chars (drop at h)) e ∙ ap chars (drop_none at) ∙ chars-nil))
  where
    drop_none : (n : ℕ) → drop {A = ℕ} n [] ≡ []
    drop_none zero = refl
    drop_none (suc n) = refl
lined_left held at ahead u (inr (inl e)) = inl (lined_or_last held (take at held) (drop at held) (sym (take-append-drop at held)) u e)
lined_left held at ahead u (inr (inr e)) = inr e

-- The way to a place in the lines held is one in the source.
pub comes_whole : (levels : List ℕ) (p : LineState) (left : List ℕ) (q : LineState) (ds coming : List ℕ) → IsUtf8 left → IsUtf8 ds
    → Lined left coming → Comes levels p (chars left) q (chars ds) → Comes levels p (chars (left ++ coming)) q (chars (ds ++ coming))
comes_whole levels p left q ds coming u v (inl lined) c = rw (chars-append left coming u, chars-append ds coming v)
    (comes_carried levels p (chars left) q (chars ds) (chars coming) lined c)
comes_whole levels p left q ds coming u v (inr none) c = rw (none, append-nil left, append-nil ds) c

pub no_text : (line b : List ℕ) → 0 < length line → line ++ b ≡ [] → ⊥
no_text [] b h e = omega arith
no_text (x ∷ line) b h e = cc

-- the lines held, where others took their place
pub only_line : (held gone new line : List ℕ) → held ++ line ≡ gone ++ new → gone ≡ held → new ≡ line
only_line held gone new line e is = sym (drop-append_seam held new) ∙ ap (drop (length held)) (ap (λ g. g ++ new) (sym is) ∙ sym e)
    ∙ drop-append_seam held line

pub utf8_front : (front back : List ℕ) → IsUtf8 (front ++ back) → IsUtf8 back → IsUtf8 front
utf8_front front back u v =
    subst IsUtf8 (take-append_seam front back)
    (IsUtf8-take (front ++ back) (length front) u (IsCharBoundary-at_seam (front ++ back) front back refl v))

module _ (pos : Machine) (q : LineState) (old new : HeldLines) (from : ℕ) (taken line : List ℕ) (s : Parts) (k : ℕ) (more : List ℕ)
    (broken : Bool) (x : StreamsIn (streamed pos old None) s k (taken ++ more) broken) where
  abbrev held : List ℕ
  held = string_bytes old.text

  abbrev then : List ℕ
  then = string_bytes new.text

  abbrev before_it : List ℕ
  before_it = (comes old.lines (taken ++ more) broken).text

  abbrev after_it : List ℕ
  after_it = (comes new.lines more broken).text

  module _ (gives : comes old.lines (taken ++ more) broken ≡ onto line (comes new.lines more broken)) where
    text_is : before_it ≡ line ++ after_it
    text_is = ap (λ (c : Coming). c.text) gives

    fault_is : (comes old.lines (taken ++ more) broken).fault ≡ (comes new.lines more broken).fault
    fault_is = ap (λ (c : Coming). c.fault) gives

    module _ (grows : Grows old new from line) (some : 0 < length line) (ends : (ends_line line ≡ true) ⊎ (after_it ≡ [])) where
      begins_new : (x.before ++ grows.gone ≡ []) ⊎ (ends_line (x.before ++ grows.gone) ≡ true)
      begins_new = ⊎_elim same all grows.looked
        where
          same : grows.gone ≡ [] → (x.before ++ grows.gone ≡ []) ⊎ (ends_line (x.before ++ grows.gone) ≡ true)
          same e = rw (e, append-nil x.before) x.begins

          all : grows.gone ≡ held → (x.before ++ grows.gone ≡ []) ⊎ (ends_line (x.before ++ grows.gone) ≡ true)
          all e = ⊎_elim (λ none. same (e ∙ none)) (⊎_elim (λ l. inr (ends_following x.before grows.gone (ap ends_line e ∙ l)))
              (λ none. absurd (no_text line after_it some (sym text_is ∙ none)))) x.ends

      ends_new : (then ≡ []) ⊎ ((ends_line then ≡ true) ⊎ (after_it ≡ []))
      ends_new = inr (⊎_elim (λ l. inl (by_line l grows.looked)) (λ none. inr none) ends)
        where
          by_line : ends_line line ≡ true → (grows.gone ≡ []) ⊎ (grows.gone ≡ held) → ends_line then ≡ true
          by_line l (inl e) = ap ends_line (ap (λ g. g ++ then) (sym e) ∙ sym grows.whole) ∙ ends_following held line l
          by_line l (inr e) = ap ends_line (only_line held grows.gone then line grows.whole e) ∙ l

      whole_new : s.text ≡ (x.before ++ grows.gone) ++ (then ++ after_it)
      whole_new =
          x.whole
          ∙ ap (λ t. x.before ++ (held ++ t)) text_is
          ∙ ap (λ t. x.before ++ t) (sym (append_assoc held line after_it) ∙ ap (λ t. t ++ after_it) grows.whole
          ∙ append_assoc grows.gone then after_it)
          ∙ sym (append_assoc x.before grows.gone (then ++ after_it))

      left_new : drop from held ++ before_it ≡ drop new.at then ++ after_it
      left_new = ap (λ t. drop from held ++ t) text_is ∙ sym (append_assoc (drop from held) line after_it)
          ∙ ap (λ t. t ++ after_it) (sym grows.left)

      utf8_before : IsUtf8 held → IsUtf8 x.before
      utf8_before u =
          let coming = comes_utf8 old.lines (taken ++ more) broken in
          utf8_front x.before (held ++ before_it) (subst IsUtf8 x.whole x.keeps.utf8) (IsUtf8-append held before_it u coming)

      -- what stands before the lines held then is lexed whole
      closed_new : IsUtf8 held → LexedTo (chars (drop from held)) (chars held) → left_by_cut (chars (x.before ++ grows.gone)) ≡ []
      closed_new u lexed = ⊎_elim (λ e. ap (λ t. left_by_cut (chars t)) (ap (λ g. x.before ++ g) e ∙ append-nil x.before) ∙ x.closed)
          (λ e. by grows.gone refl e) grows.looked
        where
          by : (g : List ℕ) → grows.gone ≡ g → grows.gone ≡ held → left_by_cut (chars (x.before ++ grows.gone)) ≡ []
          by [] z e = ap (λ t. left_by_cut (chars t)) (ap (λ g. x.before ++ g) z ∙ append-nil x.before) ∙ x.closed
          by (c ∷ g) z e =
              let all : drop from held ≡ [] = grows.following (omega (arith, ap length z)) in
              let none : LexedTo [] (chars held) = subst (λ l. LexedTo l (chars held)) (ap chars all ∙ chars-nil) lexed in
              ap (λ t. left_by_cut (chars (x.before ++ t))) e ∙ left_after x.before held (utf8_before u) x.begins x.closed
              ∙ left_all (chars held) none

      -- After a line that was read.
      pub reads_line : IsJoined [] then → IsUtf8 held → LexedTo (chars (drop from held)) (chars held) → IsUtf8 (drop old.at held)
          → IsUtf8 (drop from held) → Comes (take pos.nested pos.levels.items) pos.now (chars (drop old.at held)) q (chars (drop from held))
          → ((n : ℕ) → HasRoom pos.now (length (drop old.at held) + n) → HasRoom q (length (drop from held) + n))
          → (0 < pos.tail → (q ≡ pos.now) × (drop from held ≡ drop old.at held)) → new.lines.encoding ≡ old.lines.encoding
          → StreamsIn (streamed (record pos { now = q }) new None) s k more broken
      reads_line joined w lexed u v c room stay encoding =
          let l : Listed = record { source = s; shown = shown_from pos } in
          let lined = lined_left held old.at before_it u x.ends in
          let whole = comes_whole (take pos.nested pos.levels.items) pos.now (drop old.at held) q (drop from held) before_it u v lined c in
          let stands = stands_whole pos.now q (drop old.at held) (drop from held) before_it x.keeps.stands u v room in
          let stop : 0 < pos.tail → StopAhead q (chars (drop from held ++ before_it)) = λ h. rw ((stay h).0, (stay h).1) (x.keeps.stop h) in
          let keeps = keeps_on l pos.now q (drop old.at held ++ before_it) (drop from held ++ before_it) pos.levels.items pos.nested
          pos.tail x.keeps whole stands stop in
          record {
            before = x.before ++ grows.gone;
            whole = whole_new;
            base = length-append x.before grows.gone ∙ ap (λ n. n + length grows.gone) x.base ∙ sym grows.base;
            begins = begins_new;
            closed = closed_new w lexed;
            joined = joined_after (x.before ++ grows.gone) then (utf8_gone grows.looked) begins_new (closed_new w lexed) joined;
            ends = ends_new;
            encoding = x.encoding ∙ sym encoding;
            fault = x.fault ∙ fault_is;
            stands = x.stands;
            keeps = subst (λ t. Keeps l q t pos.levels.items pos.nested pos.tail) left_new keeps;
            measuring = measuring_comes (take pos.nested pos.levels.items) pos.now (chars (drop old.at held)) q
                (chars (drop from held)) c x.measuring;
            last = tt;
          }
        where
          utf8_gone : (grows.gone ≡ []) ⊎ (grows.gone ≡ held) → IsUtf8 (x.before ++ grows.gone)
          utf8_gone (inl e) = subst IsUtf8 (sym (ap (λ g. x.before ++ g) e ∙ append-nil x.before)) (utf8_before w)
          utf8_gone (inr e) = subst (λ g. IsUtf8 (x.before ++ g)) (sym e) (IsUtf8-append x.before held (utf8_before w) w)

    -- Where no line came.
    pub reads_none : line ≡ [] → Stays old new → new.lines.encoding ≡ old.lines.encoding → StreamsIn (streamed pos new None) s k more broken
    reads_none none stays encoding =
        let same : before_it ≡ after_it = text_is ∙ ap (λ t. t ++ after_it) none in
        record {
          before = x.before;
          whole = rw (stays.text, ← same) x.whole;
          base = x.base ∙ sym stays.base;
          begins = x.begins;
          closed = x.closed;
          joined = rw stays.text x.joined;
          ends = rw (stays.text, ← same) x.ends;
          encoding = x.encoding ∙ sym encoding;
          fault = x.fault ∙ fault_is;
          stands = x.stands;
          keeps = rw (stays.text, stays.at, ← same) x.keeps;
          measuring = x.measuring;
          last = tt;
        }
