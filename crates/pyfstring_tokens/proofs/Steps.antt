-- What a lister gives within parentheses for a lexeme, where no lexeme stands, and at the end.
--
-- Carries: new, next, by Places. On: Cutting.
use Rattle.std.proofs.Common.{◌≡◌, ℕ, ◌+◌, ◌<◌, zero, suc, Bool, true, false, not, ◌&&◌, ◌||◌, ◌==◌, List, [], ◌∷◌, ◌++◌, length, refl, ap}
use Rattle.std.proofs.Common.{◌∙◌, arith, Some, None, is_some, replicate, count_by, nat_lt, if◌then◌else◌}
use Rattle.std.specs.List.{list_all}
use Rattle.std.proofs.lemmas.Bool.Decides.{nat_tests}
use Rattle.std.proofs.lemmas.List.Folds.{list_all-append}
use Rattle.std.proofs.lemmas.Bool.{and_parts}
use Rattle.pysource.specs.declared.places.Place.{Place}
use Rattle.pylex_lexeme.specs.Chars.{bytes_in}
use Rattle.pylex_lexeme.specs.Strings.{opens_string}
use Rattle.pylex_lexeme.specs.declared.lexeme.Class.{Class}
use Rattle.pylex_lexeme.specs.declared.lexeme.Class.TheVariants.{Name, Number, String, Operator, Comment, Blanks, LineEnd, Join}
use Rattle.pylex_lexeme.specs.Lexemes.{Lexeme, lexeme_at, cut, left_by_cut, is_closer_class, is_open_string}
use Rattle.pylex_listing.specs.declared.kind.Kind.TheVariants as kinds
use Rattle.pylex_listing.specs.declared.entries.Entry.{Entry}
use Rattle.pylex_listing.specs.declared.entries.ListingError.TheVariants as errors
use Rattle.pylex_listing.specs.declared.entries.Step.{Step}
use Rattle.pylex_listing.specs.declared.entries.Step.TheVariants as steps
use Rattle.pylex_listing.specs.Lines.{is_significant, is_of_line_end, is_of_blanks}
use Rattle.pylex_listing.specs.Steps.{entries_of, fault_of, fault_at}
use Rattle.pylex_listing.specs.Listing.{stop_fault, up_to_end, further}
use Rattle.pylex_listing.specs.Machine.{State, past, after, layout_of, entry_by, gives, last_line_end, is_hash, dedents_at, mark_at}
use Rattle.pylex_listing.specs.Machine.{last_place, tail_of, stop_of, run, remaining}
use Rattle.pylex_listing.specs.EntryKinds.{kind_of, operator_of}
use Rattle.pyfstring_tokens.specs.FieldTokens.{is_gap, is_token_kind, token_of, tokens_among, is_comment_class}
use Rattle.pyfstring_tokens.proofs.Cutting.{cut_some, cut_none, cut_nil}

-- Where a lexeme stands
no_layout : (s : State) → s.margin ≡ false → layout_of s ≡ []
unfolding layout_of
no_layout s m = rw m refl

gives_own : (s : State) (x : Lexeme) → s.margin ≡ false → gives s x ≡ entry_by s x
unfolding gives
gives_own s x m = rw (no_layout s m) (by (is_significant x))
  where
    by : (b : Bool) → ((if b then [] else []) ++ entry_by s x) ≡ entry_by s x
    by true = refl
    by false = refl

-- what is given from a state on
abbrev pub ahead : State → List ℕ → List Step
ahead s text = run None (left_by_cut text) s (cut text)

pub remaining_is : (s : State) (text : List ℕ) → remaining None s text ≡ up_to_end (ahead s text)
unfolding remaining
remaining_is s text = refl

-- the steps of the first lexeme, and what is after it
pub lexed : (s : State) (cs back : List ℕ) (x : Lexeme) → lexeme_at cs ≡ Some x → cs ≡ x.text ++ back
    → remaining None s cs ≡ up_to_end (gives s x ++ ahead (after s x) back)
unfolding remaining
lexed s cs back x e w =
    let c = cut_some cs back x e w in
    ap (λ xs. up_to_end (run None (left_by_cut cs) s xs)) c.lexemes
    ∙ ap (λ l. up_to_end (gives s x ++ run None l (after s x) (cut back))) c.stop

pub lexed_within : (s : State) (cs back : List ℕ) (x : Lexeme) → s.margin ≡ false → lexeme_at cs ≡ Some x → cs ≡ x.text ++ back
    → remaining None s cs ≡ up_to_end (entry_by s x ++ ahead (after s x) back)
lexed_within s cs back x m e w = lexed s cs back x e w ∙ ap (λ ss. up_to_end (ss ++ ahead (after s x) back)) (gives_own s x m)

pub after_margin : (s : State) (x : Lexeme) → s.margin ≡ false → (s.depth == 0) ≡ false → (after s x).margin ≡ false
unfolding after
after_margin s x m d = rw (d, m) (by (is_of_line_end x) (is_of_blanks x))
  where
    by : (a b : Bool) → ((a && false) || (b && false)) ≡ false
    by true true = refl
    by true false = refl
    by false true = refl
    by false false = refl

-- Where no lexeme stands
stop_some : (p : Place) (left : List ℕ) → is_some (fault_of (up_to_end (stop_fault None p left ∷ []))) ≡ true
unfolding stop_fault
stop_some p left = by (opens_string left) (is_open_string left)
  where
    by : (a b : Bool) → is_some
        (fault_of (up_to_end
        ((if not a then fault_at errors.BadCharacter p else (if not b then fault_at errors.UnterminatedString p else fault_at
        errors.EofInString p)) ∷ []))) ≡ true
    by true true = refl
    by true false = refl
    by false b = refl

pub none_fault : (s : State) (cs : List ℕ) → s.margin ≡ false → 0 < length cs → lexeme_at cs ≡ None
    → is_some (fault_of (remaining None s cs)) ≡ true
unfolding remaining stop_of
none_fault s cs m n e =
    let c = cut_none cs e in
    let z : (length cs == 0) ≡ false = grind (arith, nat_tests) in
    rw (c.lexemes, c.stop) (rw (z, no_layout s m) (stop_some s.now.place cs))

-- Steps that are entries of no tokens
abbrev pub is_quiet : Step → Bool
is_quiet (steps.Entry e) = not (is_token_kind e.kind)
is_quiet steps.End = false
is_quiet (steps.Fault f) = false

pub record Alike (text : List ℕ) (ss rs : List Step) : Type 0 where
  pub tokens : tokens_among text (entries_of ss) ≡ tokens_among text (entries_of rs)
  pub fault : fault_of ss ≡ fault_of rs

pub past_quiet : (text : List ℕ) (ss rs : List Step) → list_all is_quiet ss ≡ true → Alike text (up_to_end (ss ++ rs)) (up_to_end rs)
past_quiet text [] rs q = record { tokens = refl; fault = refl }
past_quiet text (steps.Entry e ∷ ss) rs q =
    let p = and_parts (not (is_token_kind e.kind)) (list_all is_quiet ss) q in
    let k = off (is_token_kind e.kind) p.0 in
    let i = past_quiet text ss rs p.1 in
    record { tokens = rw k i.tokens; fault = i.fault }
  where
    off : (b : Bool) → not b ≡ true → b ≡ false
    off true h = cc
    off false h = refl
past_quiet text (steps.End ∷ ss) rs q = cc
past_quiet text (steps.Fault f ∷ ss) rs q = cc

pub gap_quiet : (s : State) (x : Lexeme) → is_gap x.«class» ≡ true → list_all is_quiet (entry_by s x) ≡ true
unfolding entry_by
gap_quiet s x g = by x.«class» x.text g
  where
    end : (b : Bool) → (not (is_token_kind (if b then kinds.Newline else kinds.Nl)) && true) ≡ true
    end true = refl
    end false = refl

    by : (k : Class) (t : List ℕ) → is_gap k ≡ true → list_all is_quiet (entry_by s (record { «class» = k; text = t })) ≡ true
    by Blanks t g = refl
    by LineEnd t g = end (s.logical && (s.depth == 0))
    by Join t g = refl
    by Name t g = cc
    by Number t g = cc
    by String t g = cc
    by (Operator o) t g = cc
    by Comment t g = cc

-- The entry of a token
abbrev pub entry_for : State → Lexeme → Entry
entry_for s x = record {
  kind = kind_of x.«class» true;
  exact = operator_of x.«class»;
  start = s.now.place;
  «end» =
      (past s.now x.text).place;
  «from» = s.now.offset;
  to = s.now.offset + bytes_in x.text;
}

pub token_entry : (s : State) (x : Lexeme) → is_gap x.«class» ≡ false → is_comment_class x.«class» ≡ false
    → (is_closer_class x.«class» && (s.depth == 0)) ≡ false → entry_by s x ≡ steps.Entry (entry_for s x) ∷ []
unfolding entry_by
token_entry s x g c m = by x.«class» x.text g c m
  where
    by : (k : Class) (t : List ℕ) → is_gap k ≡ false → is_comment_class k ≡ false → (is_closer_class k && (s.depth == 0)) ≡ false
        → entry_by s (record { «class» = k; text = t }) ≡ steps.Entry (entry_for s (record { «class» = k; text = t })) ∷ []
    by Name t g c m = refl
    by Number t g c m = refl
    by String t g c m = refl
    by (Operator o) t g c m = rw m refl
    by Comment t g c m = cc
    by Blanks t g c m = cc
    by LineEnd t g c m = cc
    by Join t g c m = cc

token_kind : (k : Class) → is_gap k ≡ false → is_comment_class k ≡ false → is_token_kind (kind_of k true) ≡ true
token_kind Name g c = refl
token_kind Number g c = refl
token_kind String g c = refl
token_kind (Operator o) g c = refl
token_kind Comment g c = cc
token_kind Blanks g c = cc
token_kind LineEnd g c = cc
token_kind Join g c = cc

-- what a token gives, and what is given after it
pub record Tells (text : List ℕ) (s : State) (x : Lexeme) (ss rs : List Step) : Type 0 where
  pub tokens : tokens_among text (entries_of ss) ≡ token_of text (entry_for s x) ∷ tokens_among text (entries_of rs)
  pub fault : fault_of ss ≡ fault_of rs

pub token_told : (text : List ℕ) (s : State) (cs back : List ℕ) (x : Lexeme) → s.margin ≡ false → lexeme_at cs ≡ Some x
    → cs ≡ x.text ++ back → is_gap x.«class» ≡ false → is_comment_class x.«class» ≡ false
    → (is_closer_class x.«class» && (s.depth == 0)) ≡ false → Tells text s x (remaining None s cs) (remaining None (after s x) back)
token_told text s cs back x m e w g c u =
    let l : remaining None s cs ≡ steps.Entry (entry_for s x) ∷ up_to_end (ahead (after s x) back) = lexed_within s cs back x m e w
    ∙ ap (λ ss. up_to_end (ss ++ ahead (after s x) back)) (token_entry s x g c u) in
    let r = remaining_is (after s x) back in
    let k = token_kind x.«class» g c in
    rw (l, r) (told (up_to_end (ahead (after s x) back)) k)
  where
    told : (rs : List Step) → is_token_kind (kind_of x.«class» true) ≡ true → Tells text s x (steps.Entry (entry_for s x) ∷ rs) rs
    told rs k = record { tokens = rw k refl; fault = refl }

pub gap_told : (text : List ℕ) (s : State) (cs back : List ℕ) (x : Lexeme) → s.margin ≡ false → lexeme_at cs ≡ Some x → cs ≡ x.text ++ back
    → is_gap x.«class» ≡ true → Alike text (remaining None s cs) (remaining None (after s x) back)
gap_told text s cs back x m e w g = rw (lexed_within s cs back x m e w, remaining_is (after s x) back)
    (past_quiet text (entry_by s x) (ahead (after s x) back) (gap_quiet s x g))

-- At the end
end_quiet : (s : State) → list_all is_quiet (last_line_end s) ≡ true
unfolding last_line_end
end_quiet s = by s.logical (is_hash s.lead) s.margin
  where
    by : (l h m : Bool) → list_all is_quiet
        (if l then (if h then [] else mark_at kinds.Newline s.now.offset s.now.place (further s.now.place 1) ∷ []) else
        (if m then [] else mark_at kinds.Nl s.now.offset s.now.place s.now.place ∷ [])) ≡ true
    by true true m = refl
    by true false m = refl
    by false h true = refl
    by false h false = refl

dedents_quiet : (n : ℕ) (o : ℕ) (p : Place) → list_all is_quiet (replicate n (mark_at kinds.Dedent o p p)) ≡ true
dedents_quiet zero o p = refl
dedents_quiet (suc n) o p = dedents_quiet n o p

at_end : (s : State) → remaining None s [] ≡ up_to_end (tail_of s)
unfolding remaining stop_of
at_end s = rw (cut_nil.lexemes, cut_nil.stop) refl

pub end_unclosed : (s : State) → (s.depth == 0) ≡ false → is_some (fault_of (remaining None s [])) ≡ true
unfolding tail_of
end_unclosed s d = rw (at_end s) (rw d refl)

pub end_closed : (text : List ℕ) (s : State) → (s.depth == 0) ≡ true → s.joined ≡ false → Alike text (remaining None s []) []
unfolding tail_of
end_closed text s d j =
    let o = s.now.offset in
    let p = last_place s in
    let ds : List Step = dedents_at 0 s.levels o p in
    let last : List Step = mark_at kinds.EndMarker o p p ∷ steps.End ∷ [] in
    let t : tail_of s ≡ (last_line_end s ++ ds) ++ last = rw (d, j) refl in
    let q : list_all is_quiet (last_line_end s ++ ds) ≡ true = list_all-append is_quiet (last_line_end s) ds
    ∙ both (end_quiet s) (dedents_quiet (count_by (nat_lt 0) s.levels) o p) in
    let i = past_quiet text (last_line_end s ++ ds) last q in
    rw (at_end s, t) (record { tokens = i.tokens; fault = i.fault })
  where
    both : {a b : Bool} → a ≡ true → b ≡ true → (a && b) ≡ true
    both e f = rw (e, f) refl
