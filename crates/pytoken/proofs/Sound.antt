-- On: the tokens of a source that isn't refused are what their types say, and have no fault.
--
-- Carries: tokens_are_sound, for Said.
use Rattle.std.proofs.Common.{◌≡◌, ℕ, zero, suc, ◌+◌, ◌-◌, Bool, true, false, not, ◌&&◌, ◌||◌, ◌==◌, cond, List, [], ◌∷◌, ◌++◌, length}
use Rattle.std.proofs.Common.{take, drop}
use Rattle.std.proofs.Common.{replicate, refl, sym, ap, subst, ◌∙◌, arith, append_assoc, Option, Some, None}
use Rattle.std.specs.Prelude.{option_map, nat_lt, All}
use Rattle.std.specs.List.{list_all, list_any}
use Rattle.std.specs.Str.{chars, encode_utf8_all, all_scalars}
use Rattle.std.proofs.Math.Utf8.{scalar}
use Rattle.std.proofs.lemmas.Bool.{and_parts, or_left, or_right}
use Rattle.std.proofs.lemmas.List.Elements.{All-nil, All-append}
use Rattle.std.proofs.lemmas.Str.{encodes-append, chars_from_encodes}
use Rattle.pysource.specs.declared.places.Place.{Place}
use Rattle.pysource.specs.Places.{place_after}
use Rattle.pylex_lexeme.specs.declared.kinds.Exact.{Exact}
use Rattle.pylex_lexeme.specs.declared.lexeme.Class.{Class}
use Rattle.pylex_lexeme.specs.declared.lexeme.Class.TheVariants.{Name, Number, String, Operator, Comment, Blanks, LineEnd, Join}
use Rattle.pylex_lexeme.specs.Chars.{bytes_in}
use Rattle.pylex_lexeme.specs.Numbers.{is_number}
use Rattle.pylex_lexeme.specs.Strings.{opens_string, opens_triple, counts_as_string, is_string, is_triple_string, is_single_string}
use Rattle.pylex_lexeme.specs.Operators.{is_closer, is_operator, exact_of}
use Rattle.pylex_lexeme.specs.Lexemes.{Lexeme, is_name, is_comment, are_blanks, is_line_end, is_join, plain_class, class_in, cut}
use Rattle.pylex_lexeme.specs.Lexemes.{left_by_cut}
use Rattle.pylex_lexeme.specs.Lexemes.{is_open_string}
use Rattle.pylex_listing.specs.declared.kind.Kind.{Kind}
use Rattle.pylex_listing.specs.declared.kind.Kind.TheVariants as kinds
use Rattle.pylex_listing.specs.declared.entries.Entry.{Entry}
use Rattle.pylex_listing.specs.declared.entries.ListingFault.{ListingFault}
use Rattle.pylex_listing.specs.declared.entries.ListingError.TheVariants as errors
use Rattle.pylex_listing.specs.declared.entries.Step.{Step}
use Rattle.pylex_listing.specs.declared.entries.Step.TheVariants as steps
use Rattle.pylex_listing.specs.Lines.{text_before, depth, is_significant, is_at_margin, is_logical}
use Rattle.pylex_listing.specs.Indentation.{width_at, widths, open_levels, dedents, layout_by, layout}
use Rattle.pylex_listing.specs.Listing.{Source, listing, origin, line_end_kind, entry_of, steps_of, stop_fault, last_line, begins_comment}
use Rattle.pylex_listing.specs.Listing.{line_end_of_last, end_place, ends_in_join, tail, stop, steps_from, up_to_end}
use Rattle.pylex_listing.specs.Steps.{entries_of, mark, fault_at, fault_of as listing_fault}
use Rattle.pylex_listing.specs.Laws.{LongestWins, AreLexemes, IsLawful}
use Rattle.pytree_node.specs.declared.profiles.Extent.TheVariants.{Whole}
use Rattle.pytoken.specs.Terminals.{single_fault, fault_by, fault_of, is_of, IsSound}
use Rattle.pytoken.specs.Tokens.{Token, text_of, is_open, tokens_of_entry, tokens_from, tokens}
use Rattle.pytoken.specs.Indentation.{margins}
use Rattle.pytoken.specs.Refusals.{most_brackets, entry_refusal, first_entry_refusal, first_too_deep, first_mixed, refusal_of, refusal_at}
use Rattle.pytoken.specs.Laws.{TokensAreSound}
use Rattle.pytoken.proofs.EntryTokens.{of_entry, none_parts, no_fault, not_refused}
use Rattle.std.specs.Option.{option_or}
use Rattle.pylex_listing.proofs.Callers.{scalars_of}

-- the text of a lexeme is what stands between its offsets

scalars_after : (a b : List ℕ) → all_scalars (a ++ b) ≡ true → all_scalars b ≡ true
scalars_after [] b h = h
scalars_after (c ∷ a) b h = scalars_after a b (and_parts (scalar c) (all_scalars (a ++ b)) h).1

drop_whole : (a b : List ℕ) → drop (length a) (a ++ b) ≡ b
drop_whole [] b = refl
drop_whole (c ∷ a) b = drop_whole a b

take_whole : (a b : List ℕ) → take (length a) (a ++ b) ≡ a
take_whole [] b = refl
take_whole (c ∷ a) b = ap (λ (t : List ℕ). c ∷ t) (take_whole a b)

pub own_text : (a t b : List ℕ) (e : Entry) → all_scalars (a ++ (t ++ b)) ≡ true → e.«from» ≡ bytes_in a → e.to ≡ bytes_in a + bytes_in t
    → text_of (a ++ (t ++ b)) e ≡ t
own_text a t b e good first last =
    let front = encode_utf8_all a in
    let own = encode_utf8_all t in
    let rest = encode_utf8_all b in
    let whole : encode_utf8_all (a ++ (t ++ b)) ≡ front ++ (own ++ rest) =
    encodes-append a (t ++ b) ∙ ap (λ (bs : List ℕ). front ++ bs) (encodes-append t b) in
    let size : e.to - e.«from» ≡ length own = omega (arith, first, last) in
    let between : take (e.to - e.«from») (drop e.«from» (encode_utf8_all (a ++ (t ++ b)))) ≡ own =
    ap (λ (bs : List ℕ). take (e.to - e.«from») (drop e.«from» bs)) whole
    ∙ ap (λ (n : ℕ). take (e.to - e.«from») (drop n (front ++ (own ++ rest)))) first
    ∙ ap (take (e.to - e.«from»)) (drop_whole front (own ++ rest))
    ∙ ap (λ (n : ℕ). take n (own ++ rest)) size
    ∙ take_whole own rest in
    let scalars = scalars_of t b (scalars_after a (t ++ b) good) in
    ap chars between ∙ sym (chars_from_encodes t own (t, (scalars, refl)) refl)

-- an entry's text is of its type
record IsOf (text : List ℕ) (e : Entry) : Type 0 where
  is : is_of e.kind (text_of text e) ≡ true

of_piece : (cs a t b : List ℕ) (k : Kind) (e : Entry) → all_scalars cs ≡ true → cs ≡ a ++ (t ++ b) → is_of k t ≡ true
    → e.kind ≡ k → e.«from» ≡ bytes_in a → e.to ≡ bytes_in a + bytes_in t → IsOf cs e
of_piece cs a t b k e good h said kind first last =
    let own : text_of cs e ≡ t =
    ap (λ (u : List ℕ). text_of u e) h ∙ own_text a t b e (sym (ap all_scalars h) ∙ good) first last in
    record { is = ap (λ (j : Kind). is_of j (text_of cs e)) kind ∙ ap (is_of k) own ∙ said }

-- entries of the other types may have any text
of_any : (cs : List ℕ) (k : Kind) (e : Entry) → ((t : List ℕ) → is_of k t ≡ true) → e.kind ≡ k → IsOf cs e
of_any cs k e free kind = record { is = ap (λ (j : Kind). is_of j (text_of cs e)) kind ∙ free (text_of cs e) }

-- what a class says of a text
abbrev OfClass : Class → List ℕ → Type 0
OfClass Name t = is_name t ≡ true
OfClass Number t = is_number t ≡ true
OfClass String t = is_string t ≡ true
OfClass (Operator o) t = is_operator t ≡ true
OfClass _ t = Unit {0}

abbrev Said : Class → Bool → Bool → Bool → Type 0
Said Name n u o = n ≡ true
Said Number n u o = u ≡ true
Said String n u o = ⊥
Said (Operator e) n u o = o ≡ true
Said _ n u o = Unit {0}

said : (n u o c b l j : Bool) (e : Option Exact) (k : Class)
    → cond n (Some Name) (cond u (Some Number) (cond o (option_map Operator e) (cond c (Some Comment) (cond b (Some Blanks)
    (cond l (Some LineEnd) (cond j (Some Join) None)))))) ≡ Some k
    → Said k n u o
said true u o c b l j e k h = let f : Name ≡ k = cc in subst (λ (m : Class). Said m true u o) f refl
said false true o c b l j e k h = let f : Number ≡ k = cc in subst (λ (m : Class). Said m false true o) f refl
said false false true c b l j (Some e) k h = let f : Operator e ≡ k = cc in subst (λ (m : Class). Said m false false true) f refl
said false false true c b l j None k h = absurd cc
said false false false true b l j e k h = let f : Comment ≡ k = cc in subst (λ (m : Class). Said m false false false) f tt
said false false false false true l j e k h = let f : Blanks ≡ k = cc in subst (λ (m : Class). Said m false false false) f tt
said false false false false false true j e k h = let f : LineEnd ≡ k = cc in subst (λ (m : Class). Said m false false false) f tt
said false false false false false false true e k h = let f : Join ≡ k = cc in subst (λ (m : Class). Said m false false false) f tt
said false false false false false false false e k h = absurd cc

of_said : (k : Class) (t : List ℕ) → Said k (is_name t) (is_number t) (is_operator t) → OfClass k t
of_said Name t h = h
of_said Number t h = h
of_said String t h = absurd h
of_said (Operator o) t h = h
of_said Comment t h = tt
of_said Blanks t h = tt
of_said LineEnd t h = tt
of_said Join t h = tt

plain_said : (t : List ℕ) (k : Class) → plain_class t ≡ Some k → Said k (is_name t) (is_number t) (is_operator t)
unfolding plain_class
plain_said t k e =
    said (is_name t) (is_number t) (is_operator t) (is_comment t) (are_blanks t) (is_line_end t) (is_join t) (exact_of t) k e

pub counted : (cs t : List ℕ) → counts_as_string cs t ≡ true → is_string t ≡ true
unfolding counts_as_string is_string
counted cs t h = by (opens_triple cs) h
  where
    by : (o : Bool) → cond o (is_triple_string t) (is_single_string t) ≡ true → (is_triple_string t || is_single_string t) ≡ true
    by true e = or_left (is_triple_string t) (is_single_string t) e
    by false e = or_right (is_triple_string t) (is_single_string t) e

class_said : (cs t : List ℕ) (k : Class) → class_in cs t ≡ Some k → OfClass k t
unfolding class_in
class_said cs t k e = by (opens_string cs) (counts_as_string cs t) (counted cs t) e
  where
    by : (o c : Bool) → (c ≡ true → is_string t ≡ true) → cond o (cond c (Some String) None) (plain_class t) ≡ Some k → OfClass k t
    by true true counts h = let f : String ≡ k = cc in subst (λ (m : Class). OfClass m t) f (counts refl)
    by true false counts h = absurd cc
    by false c counts h = of_said k t (plain_said t k h)

-- the entries among some steps are of their types
abbrev StepIsOf : List ℕ → Step → Type 0
StepIsOf text (steps.Entry e) = IsOf text e
StepIsOf text steps.End = Unit {0}
StepIsOf text (steps.Fault f) = Unit {0}

abbrev AllAre : List ℕ → List Step → Type 0
AllAre text [] = Unit {0}
AllAre text (s ∷ ss) = StepIsOf text s × AllAre text ss

AllAre-append : (text : List ℕ) (ss ts : List Step) → AllAre text ss → AllAre text ts → AllAre text (ss ++ ts)
AllAre-append text [] ts h k = k
AllAre-append text (s ∷ ss) ts h k = (h.0, AllAre-append text ss ts h.1 k)

up_to_end_are : (text : List ℕ) (ss : List Step) → AllAre text ss → AllAre text (up_to_end ss)
up_to_end_are text [] h = h
up_to_end_are text (steps.Entry e ∷ ss) h = (h.0, up_to_end_are text ss h.1)
up_to_end_are text (steps.End ∷ ss) h = (tt, tt)
up_to_end_are text (steps.Fault f ∷ ss) h = (tt, tt)

replicate_are : (text : List ℕ) (n : ℕ) (s : Step) → StepIsOf text s → AllAre text (replicate n s)
replicate_are text zero s h = tt
replicate_are text (suc n) s h = (h, replicate_are text n s h)

cond_are : (text : List ℕ) (b : Bool) (ss ts : List Step) → AllAre text ss → AllAre text ts → AllAre text (cond b ss ts)
cond_are text true ss ts h k = h
cond_are text false ss ts h k = k

cond_step : (text : List ℕ) (b : Bool) (s t : Step) → StepIsOf text s → StepIsOf text t → StepIsOf text (cond b s t)
cond_step text true s t h k = h
cond_step text false s t h k = k

line_end_free : (b : Bool) (t : List ℕ) → is_of (cond b kinds.Newline kinds.Nl) t ≡ true
line_end_free true t = refl
line_end_free false t = refl

-- the steps before and after a place
module _ (cs : List ℕ) (before : List Lexeme) where
  dedents_are : (w : ℕ) (levels : List ℕ) (p : Place) → AllAre cs (dedents w levels (text_before before) p)
  dedents_are w levels p = replicate_are cs _ _ (of_any cs kinds.Dedent _ (λ t. refl) refl)

  layout_are : AllAre cs (layout before)
  unfolding layout layout_by
  layout_are =
      cond_are cs (is_at_margin before) _ []
      (cond_are cs (list_all (λ v. nat_lt v (width_at before)) (open_levels (widths before))) _ _
      (of_any cs kinds.Indent _ (λ t. refl) refl, tt)
      (cond_are cs (list_any (λ v. v == width_at before) (open_levels (widths before))) _ _
      (dedents_are (width_at before) (open_levels (widths before)) (place_after (text_before before)))
      (tt, tt)))
      tt

  entry_are : (x : Lexeme) (rest : List ℕ) → all_scalars cs ≡ true → cs ≡ text_before before ++ (x.text ++ rest) → OfClass x.«class» x.text
      → AllAre cs (entry_of before x)
  unfolding entry_of
  entry_are x rest good h said = by_class x.«class» x.text h said
    where
      by_class : (k : Class) (t : List ℕ) → cs ≡ text_before before ++ (t ++ rest) → OfClass k t
          → AllAre cs (entry_of before (record { «class» = k; text = t }))
      by_class Name t h said = (of_piece cs (text_before before) t rest kinds.Name _ good h said refl refl refl, tt)
      by_class Number t h said = (of_piece cs (text_before before) t rest kinds.Number _ good h said refl refl refl, tt)
      by_class String t h said = (of_piece cs (text_before before) t rest kinds.String _ good h said refl refl refl, tt)
      by_class (Operator o) t h said =
          cond_are cs (is_closer o && (depth before == 0)) _ _ (tt, tt)
          (of_piece cs (text_before before) t rest kinds.Op _ good h said refl refl refl, tt)
      by_class Comment t h said = (of_any cs kinds.Comment _ (λ t. refl) refl, tt)
      by_class Blanks t h said = tt
      by_class LineEnd t h said = (of_any cs (line_end_kind before) _ (line_end_free (is_logical before && (depth before == 0))) refl, tt)
      by_class Join t h said = tt

  steps_are : (x : Lexeme) (rest : List ℕ) → all_scalars cs ≡ true → cs ≡ text_before before ++ (x.text ++ rest) → OfClass x.«class» x.text
      → AllAre cs (steps_of before x)
  unfolding steps_of
  steps_are x rest good h said =
      AllAre-append cs _ (entry_of before x) (cond_are cs (is_significant x) (layout before) [] layout_are tt)
      (entry_are x rest good h said)

  last_are : (p : Place) → AllAre cs (line_end_of_last before p)
  unfolding line_end_of_last
  last_are p =
      cond_are cs (is_logical before) _ _
      (cond_are cs (begins_comment (last_line (text_before before))) [] _ tt (of_any cs kinds.Newline _ (λ t. refl) refl, tt))
      (cond_are cs (is_at_margin before) [] _ tt (of_any cs kinds.Nl _ (λ t. refl) refl, tt))

  tail_are : (p : Place) → AllAre cs (tail before p)
  unfolding tail
  tail_are p =
      cond_are cs (not (depth before == 0) || ends_in_join before) _ _ (tt, tt)
      (AllAre-append cs (line_end_of_last before p ++ dedents 0 (open_levels (widths before)) (text_before before) (end_place before p)) _
      (AllAre-append cs (line_end_of_last before p) _ (last_are p) (dedents_are 0 (open_levels (widths before)) (end_place before p)))
      (of_any cs kinds.EndMarker _ (λ t. refl) refl, (tt, tt)))

  stop_are : (fault : Option ListingFault) (left : List ℕ) → AllAre cs (stop fault before left)
  unfolding stop stop_fault
  stop_are fault left =
      cond_are cs (not (length left == 0)) _ _
      (AllAre-append cs (layout before) _ layout_are (fault_is fault (place_after (text_before before)), tt))
      (by_fault fault)
    where
      in_string : (fault : Option ListingFault) (p : Place)
          → StepIsOf cs (elim fault [ Some f ↦ steps.Fault f | None ↦ fault_at errors.EofInString p ])
      in_string (Some f) p = tt
      in_string None p = tt

      fault_is : (fault : Option ListingFault) (p : Place) → StepIsOf cs (stop_fault fault p left)
      fault_is fault p =
          cond_step cs (not (opens_string left)) _ _ tt (cond_step cs (not (is_open_string left)) _ _ tt (in_string fault p))

      by_fault : (fault : Option ListingFault)
          → AllAre cs (elim fault [ Some f ↦ steps.Fault f ∷ [] | None ↦ tail before (place_after (text_before before)) ])
      by_fault (Some f) = (tt, tt)
      by_fault None = tail_are (place_after (text_before before))

all_are : (cs : List ℕ) (fault : Option ListingFault) (left : List ℕ) → ((t : List ℕ) → LongestWins t) → all_scalars cs ≡ true
    → (xs before : List Lexeme) (text : List ℕ) → cs ≡ text_before before ++ text → AreLexemes text xs left
    → AllAre cs (steps_from fault left before xs)
all_are cs fault left wins good [] before text h l = stop_are cs before fault left
all_are cs fault left wins good (x ∷ xs) before text h l =
    let on : cs ≡ text_before before ++ (x.text ++ l.0) = h ∙ ap (λ (t : List ℕ). text_before before ++ t) l.2 in
    let said = class_said text x.text x.«class» ((wins text).longest x l.1).in_class in
    AllAre-append cs (steps_of before x) _ (steps_are cs before x l.0 good on said)
    (all_are cs fault left wins good xs (x ∷ before) l.0 (on ∙ sym (append_assoc (text_before before) x.text l.0)) l.3)

listing_are : (s : Source) → all_scalars s.text ≡ true → IsLawful s → AllAre s.text (listing s)
unfolding listing
listing_are s good lawful =
    up_to_end_are s.text (mark kinds.Encoding [] origin origin ∷ steps_from s.fault (left_by_cut s.text) [] (cut s.text)) (
      of_any s.text kinds.Encoding _ (λ t. refl) refl,
      all_are s.text s.fault (left_by_cut s.text) lawful.longest good (cut s.text) [] s.text refl lawful.cut.lexemes,
    )

abbrev EntriesAre : List ℕ → List Entry → Type 0
EntriesAre text [] = Unit {0}
EntriesAre text (e ∷ es) = IsOf text e × EntriesAre text es

entries_are : (text : List ℕ) (ss : List Step) → AllAre text ss → EntriesAre text (entries_of ss)
entries_are text [] h = tt
entries_are text (steps.Entry e ∷ ss) h = (h.0, entries_are text ss h.1)
entries_are text (steps.End ∷ ss) h = entries_are text ss h.1
entries_are text (steps.Fault f ∷ ss) h = entries_are text ss h.1

-- where nothing is refused, its tokens are sound

supplied_sound : IsSound kinds.Newline []
unfolding single_fault fault_by fault_of
supplied_sound = record { of_kind = refl; faultless = refl }

abbrev Sound : Token → Type 0
Sound t = IsSound t.kind t.text

tokens_are : (text : List ℕ) (before es : List Entry) → EntriesAre text es → first_entry_refusal Whole text es ≡ None
    → All Sound (tokens_from text before es)
tokens_are text before [] are none = All-nil Sound
tokens_are text before (e ∷ es) are none =
    let parts = none_parts (entry_refusal Whole text e) (first_entry_refusal Whole text es) none in
    let faultless = no_fault (fault_of Whole e.kind (text_of text e)) e.start parts.0 in
    let own : IsSound e.kind (text_of text e) = record { of_kind = are.0.is; faultless = faultless } in
    All-append Sound (tokens_of_entry text (is_open before) e) (tokens_from text (e ∷ before) es)
    (of_entry IsSound supplied_sound text (is_open before) e own) (tokens_are text (e ∷ before) es are.1 parts.1)

pub tokens_are_sound : (s : Source) → IsLawful s → TokensAreSound s
unfolding tokens refusal_at
tokens_are_sound s lawful good none =
    let es = entries_of (listing s) in
    let whole = not_refused (listing_fault (listing s)) (refusal_of Whole most_brackets s.text es) none in
    let later = option_or (first_too_deep most_brackets [] es) (first_mixed [] (margins s.text es)) in
    let parts = none_parts (first_entry_refusal Whole s.text es) later whole in
    tokens_are s.text [] es (entries_are s.text (listing s) (listing_are s good lawful)) parts.0
