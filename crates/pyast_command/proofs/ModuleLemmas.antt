-- Carries: accept, read_module, write_dump, write_unparse. On: what refuses a source that was read
-- whole, and that the text of its module gives it back.
use Rattle.std.proofs.Common.{◌≡◌, ◌∙◌, ◌++◌, ap, ℕ, Bool, true, false, cond, List, [], ◌∷◌, Option, Some, None, Result, Ok, Err, sym}
use Rattle.std.proofs.Common.{subst}
use Rattle.std.proofs.Common.{codes, inl, inr}
use Rattle.std.specs.Prelude.{IsUtf8}
use Rattle.std.specs.Str.{encode_utf8_all}
use Rattle.std.specs.Io.KnownBytes.{Appends}
use Rattle.std.proofs.lemmas.Str.{scalars-chars}
use Rattle.pysource.specs.Bytes.{Seen, TakesFront}
use Rattle.pysource.specs.Cookies.{encoding_of, without_mark}
use Rattle.pysource.specs.Limits.{source_limit}
use Rattle.pysource.specs.Lines.{lines_of}
use Rattle.pysource.specs.Names.{Named}
use Rattle.pysource.specs.Parts.{Parts}
use Rattle.pysource.specs.Sources.{nth_line, parts_under, source_of, source_under, UnlessMemory}
use Rattle.pysource.specs.declared.encodings.SourceFault.{SourceFault}
use Rattle.pysource.specs.declared.encodings.SourceFault.TheVariants as source_faults
use Rattle.pysource.proofs.Callers.Taken.{Appends-refl}
use Rattle.pysource.proofs.Callers.Faults.{good_utf8}
use Rattle.pylex_listing.specs.Laws.{IsLawful}
use Rattle.pylex_listing.specs.declared.entries.Entry.{Entry}
use Rattle.pylex_listing.specs.declared.entries.ListingError.{ListingError}
use Rattle.pylex_listing.specs.declared.entries.ListingError.TheVariants as errors
use Rattle.pylex_listing.specs.declared.entries.ListingFault.{ListingFault}
use Rattle.pylex_listing.specs.Listing.{Source, in_characters, listing}
use Rattle.pylex_listing.specs.Steps.{entries_of, fault_of as listing_fault}
use Rattle.pylex.specs.Streamed.{is_unread_code}
use Rattle.pysource.specs.declared.faults.LineError.TheVariants as line_errors
use Rattle.pytoken.specs.declared.faults.TokenError.{TokenError}
use Rattle.pytoken.specs.declared.refusals.Refusal.{Refusal}
use Rattle.pytoken.specs.declared.refusals.Refusal.TheVariants as refusals
use Rattle.pytoken.specs.Indentation.{Margin, margins, is_mixed}
use Rattle.pytoken.specs.Refusals.{most_brackets, opens_too_many, entry_refusal, first_entry_refusal, bracket_refusal, first_too_deep}
use Rattle.pytoken.specs.Refusals.{margin_refusal, first_mixed, refusal_of, refusal_at, refusal}
use Rattle.pytoken.specs.Terminals.{fault_of}
use Rattle.pytoken.specs.Tokens.{text_of}
use Rattle.pytree_node.specs.declared.profiles.Extent.{Extent}
use Rattle.pytree_node.specs.declared.profiles.Profile.{Profile}
use Rattle.pytree_node.specs.Trees.{Module}
use Rattle.pygrammar.specs.Refusals.{Accepted, Refused, in_tokens, by_tokens}
use Rattle.pyparse.specs.Modules as parsing
use Rattle.pyparse_tokens.specs.declared.faults.ParseFault.{ParseFault}
use Rattle.pyparse_tokens.specs.declared.faults.ParseFault.TheVariants as parse_faults
use Rattle.pyast_fault.specs.Faults.{listing_code, told_at, of_parse, of_refusal, of_source}
use Rattle.pyast_fault.specs.declared.fault.Fault.{Fault}
use Rattle.pyast_fault.specs.declared.fault.Fault.TheVariants.{InSource, Plain}
use Rattle.pyast_fault.specs.declared.fault.RunFaultCode.TheVariants.{Read, Write, Memory, CursorOfAnotherSource}
use Rattle.pyunparse_text.specs.Modules.{module_text}
use Rattle.pyunparse_text.proofs.Callers.Texts.{accepted_texts_are_accepted}
use Rattle.pyunparse.specs.RoundTrips.{GivesBack}
use Rattle.pytree_dump_text.specs.Layout.{dump_text}
use Rattle.pytree_dump_text.specs.Shows.{shown_module}
use Rattle.pytree_dump_text.specs.declared.styles.Style.{Style}
use Rattle.pytree_marked.specs.MarkedNodes.{with_places}
use Rattle.pyplaces.specs.PlacesOf.{PlacesOf, shown_from}
use Rattle.pyast_command.specs.Dumps.{placed_output}
use Rattle.pyast_command.specs.Modules.{IsRefused, no_source, refused, Writes, of_module, of_none}
use Rattle.pyast_command.specs.Runs.{Making, whole, in_pieces, WritesFor, PerformsWhole}
use Rattle.pyast_command.specs.Unparses.{IsTextOf}
use Rattle.pyast_command.specs.Inner.Reading.{Refuses, ReadsModule, ReadsNone}
use Rattle.pyast_command.proofs.UnreadLemmas.{listing_is_read}
use Rattle.std.specs.Option.{option_or}

-- a refusal that is no fault of the listing
abbrev IsOwn : Option Refusal → Type 0
IsOwn None = Unit {0}
IsOwn (Some (refusals.Listing f)) = ⊥
IsOwn (Some (refusals.Token error place)) = Unit {0}
IsOwn (Some (refusals.TooDeep place)) = Unit {0}
IsOwn (Some (refusals.MixedTabs place)) = Unit {0}

or_own : (a b : Option Refusal) → IsOwn a → IsOwn b → IsOwn (option_or a b)
or_own None b h k = k
or_own (Some r) b h k = h

if_own : (b : Bool) (r : Option Refusal) → IsOwn r → IsOwn (cond b r None)
if_own true r h = h
if_own false r h = tt

entry_own : (extent : Extent) (text : List ℕ) (e : Entry) → IsOwn (entry_refusal extent text e)
entry_own extent text e = by_fault (fault_of extent e.kind (text_of text e))
  where
    by_fault : (o : Option TokenError) → IsOwn (elim o [ Some x ↦ Some (refusals.Token x e.start) | None ↦ None ])
    by_fault None = tt
    by_fault (Some x) = tt

entries_own : (extent : Extent) (text : List ℕ) (es : List Entry) → IsOwn (first_entry_refusal extent text es)
entries_own extent text [] = tt
entries_own extent text (e ∷ es) = or_own (entry_refusal extent text e) (first_entry_refusal extent text es) (entry_own extent text e)
    (entries_own extent text es)

brackets_own : (most : ℕ) (before es : List Entry) → IsOwn (first_too_deep most before es)
brackets_own most before [] = tt
brackets_own most before (e ∷ es) =
    or_own (bracket_refusal most before e) (first_too_deep most (e ∷ before) es)
    (if_own (opens_too_many most before e) (Some (refusals.TooDeep e.start)) tt) (brackets_own most (e ∷ before) es)

margins_own : (earlier ms : List Margin) → IsOwn (first_mixed earlier ms)
margins_own earlier [] = tt
margins_own earlier (m ∷ ms) = or_own (margin_refusal earlier m) (first_mixed (m ∷ earlier) ms)
    (if_own (is_mixed earlier m) (Some (refusals.MixedTabs m.start)) tt) (margins_own (m ∷ earlier) ms)

tokens_own : (extent : Extent) (most : ℕ) (text : List ℕ) (es : List Entry) → IsOwn (refusal_of extent most text es)
tokens_own extent most text es =
    or_own (first_entry_refusal extent text es) (option_or (first_too_deep most [] es) (first_mixed [] (margins text es)))
    (entries_own extent text es)
    (or_own (first_too_deep most [] es) (first_mixed [] (margins text es)) (brackets_own most [] es) (margins_own [] (margins text es)))

-- a refusal by the listing's fault is by the fault that the listing has
listing_refusal : (extent : Extent) (s : Source) (f : ListingFault) → refusal extent s ≡ Some (refusals.Listing f)
    → listing_fault (listing s) ≡ Some f
unfolding refusal_at
listing_refusal extent s f h =
    by_fault (listing_fault (listing s)) (refusal_of extent most_brackets s.text (entries_of (listing s)))
    (tokens_own extent most_brackets s.text (entries_of (listing s))) h
  where
    by_fault : (o : Option ListingFault) (r : Option Refusal) → IsOwn r
        → ◌≡◌ {A = Option Refusal} (elim o [ Some g ↦ Some (refusals.Listing g) | None ↦ r ]) (Some (refusals.Listing f)) → o ≡ Some f
    by_fault (Some g) r own e = cc
    by_fault None r own e = absurd (subst IsOwn e own)

tokens_refused : (profile : Profile) (s : Source) (r : Refusal) → Refused profile s (in_tokens r) → refusal profile.extent s ≡ Some r
tokens_refused profile s r (by_tokens h) = h

-- what is not a line that could not be read whole is told at its place
told_in_source : (profile : Profile) (bytes : List ℕ) (f : ListingFault) → is_unread_code f.code ≡ false
    → IsRefused profile bytes (told_at (listing_code f.code) f.place)
    → Refuses profile bytes (told_at (listing_code f.code) f.place)
told_in_source profile bytes f read h = by_code f.code read h
  where
    by_code : (e : ListingError) → is_unread_code e ≡ false → IsRefused profile bytes (told_at (listing_code e) f.place)
        → Refuses profile bytes (told_at (listing_code e) f.place)
    by_code (errors.Line line_errors.NotUtf8) u k = k
    by_code (errors.Line line_errors.NotAscii) u k = k
    by_code (errors.Line line_errors.LoneReturn) u k = k
    by_code (errors.Line line_errors.FailedRead) u k = cc
    by_code errors.BadCharacter u k = k
    by_code errors.UnterminatedString u k = k
    by_code errors.EofInString u k = k
    by_code errors.EofInStatement u k = k
    by_code errors.UnindentMismatch u k = k
    by_code errors.UnmatchedCloser u k = k

refused_tokens : (profile : Profile) (bytes : List ℕ) (p : Parts) (r : Refusal) → source_of bytes ≡ Ok p
    → Refused profile (in_characters p) (in_tokens r) → Refuses profile bytes (of_refusal r)
refused_tokens profile bytes p (refusals.Listing f) is h =
    told_in_source profile bytes f
    (listing_is_read bytes p f is (listing_refusal profile.extent (in_characters p) f
    (tokens_refused profile (in_characters p) (refusals.Listing f) h))) (refused is h)
refused_tokens profile bytes p (refusals.Token error place) is h = refused is h
refused_tokens profile bytes p (refusals.TooDeep place) is h = refused is h
refused_tokens profile bytes p (refusals.MixedTabs place) is h = refused is h

-- what is told of a source that is refused
pub refused_by : (profile : Profile) (bytes : List ℕ) (p : Parts) (fault : ParseFault) → source_of bytes ≡ Ok p
    → parsing.Refuses profile (in_characters p) fault → Refuses profile bytes (of_parse fault)
refused_by profile bytes p (parse_faults.Refused r) is h = refused_tokens profile bytes p r is h
refused_by profile bytes p (parse_faults.Grammar e place) is h = refused is h
refused_by profile bytes p parse_faults.Memory is h = tt

-- and of bytes that are none
pub no_source_by : (profile : Profile) (bytes : List ℕ) (fault : SourceFault) → UnlessMemory {X = Parts} (Err fault) (source_of bytes)
    → Refuses profile bytes (of_source fault)
no_source_by profile bytes (source_faults.UnsupportedEncoding place) is = no_source is
no_source_by profile bytes (source_faults.BomConflict place) is = no_source is
no_source_by profile bytes source_faults.Memory is = tt

-- the text of a source is UTF-8
text_utf8 : (named : Result Named SourceFault) (bytes : List ℕ) (p : Parts) → source_under named bytes ≡ Ok p → IsUtf8 p.text
text_utf8 (Ok named) bytes p is = let same : parts_under named bytes ≡ p = cc in
    subst (λ (q : Parts). IsUtf8 q.text) same (good_utf8 named.charset (lines_of (without_mark bytes)))
text_utf8 (Err fault) bytes p is = cc

-- the text of the module that a source is accepted as gives it back
pub gives_back : (profile : Profile) (bytes : List ℕ) (p : Parts) (m : Module) → source_of bytes ≡ Ok p → IsLawful (in_characters p)
    → Accepted profile (in_characters p) m
    → GivesBack profile (encode_utf8_all (module_text m)) m
gives_back profile bytes p m is lawful accepted =
    let utf8 = text_utf8 (encoding_of (nth_line bytes 0) (nth_line bytes 1)) bytes p is in
    let t = accepted_texts_are_accepted profile (in_characters p) m lawful (scalars-chars p.text utf8) accepted in
    record { back = t.back; accepted = t.accepted; only = t.only }

-- ---- Of a reader.

-- where there is no module nothing is written
pub none_written : (making : Making) (profile : Profile) (output : List ℕ → Module → List ℕ → Type 0) (seen_old seen_new : Seen)
    (x : Option (List ℕ)) (fault : Fault)
    → ReadsNone profile seen_old seen_new fault → PerformsWhole making (Writes profile output) seen_old seen_new x x
    source_limit (Some fault)
none_written making profile output seen_old seen_new x (InSource code place) h = (h.0, h.1.all, of_none h.1.refused, Appends-refl x)
none_written whole profile output seen_old seen_new x (Plain Memory) h = (h, Appends-refl x)
none_written in_pieces profile output seen_old seen_new x (Plain Memory) h = (h, inl (Appends-refl x))
none_written making profile output seen_old seen_new x (Plain Read) h = (h, Appends-refl x)
none_written making profile output seen_old seen_new x (Plain other) h = absurd h

-- where a write fails a front of the output is, and else all of it
module _ (making : Making) {profile : Profile} {output : List ℕ → Module → List ℕ → Type 0} {seen_old seen_new : Seen} {m : Module}
    (x y : Option (List ℕ)) (text : List ℕ) where
  pub front_written : (reads : ReadsModule profile seen_old seen_new m) → output reads.input m text → TakesFront x y text
      → PerformsWhole making (Writes profile output) seen_old seen_new x y source_limit (Some (Plain Write))
  front_written reads is front = (reads.input, text, reads.all, of_module reads.is is, front)

  pub all_written : (reads : ReadsModule profile seen_old seen_new m) → output reads.input m text → Appends x y text
      → PerformsWhole making (Writes profile output) seen_old seen_new x y source_limit None
  all_written reads is all = (reads.input, text, reads.all, of_module reads.is is, all)

-- where memory ends while the output is made in pieces, a front of it is written
pub pieces_cut : (profile : Profile) (output : List ℕ → Module → List ℕ → Type 0) (seen_old seen_new : Seen)
    (m : Module) (x y : Option (List ℕ))
    (text : List ℕ) (fault : Fault)
    → (reads : ReadsModule profile seen_old seen_new m) → output reads.input m text → WritesFor text None x y (Some fault)
    → PerformsWhole in_pieces (Writes profile output) seen_old seen_new x y source_limit (Some fault)
pieces_cut profile output seen_old seen_new m x y text (InSource code place) reads is h = cc
pieces_cut profile output seen_old seen_new m x y text (Plain Read) reads is h = cc
pieces_cut profile output seen_old seen_new m x y text (Plain Write) reads is h = (reads.input, text, reads.all, of_module reads.is is, h)
pieces_cut profile output seen_old seen_new m x y text (Plain Memory) reads is h =
    (reads.all.unfailed, inr (reads.input, text, reads.all, of_module reads.is is, h))
pieces_cut profile output seen_old seen_new m x y text (Plain CursorOfAnotherSource) reads is h = cc
pieces_cut profile output seen_old seen_new m x y text (Plain other) reads is h = absurd h

-- the text of a module that its own text gives back
pub is_text : {profile : Profile} {m : Module} {text : List ℕ} → text ≡ encode_utf8_all (module_text m)
    → GivesBack profile (encode_utf8_all (module_text m)) m → IsTextOf profile m text
is_text {profile} {m} {text} is back = record { text = is; back = subst (λ (bytes : List ℕ). GivesBack profile bytes m) (sym is) back }

-- the text with all places, of those that are left before the first is taken
pub placed_text : (style : Style) (m k : Module) (p q : PlacesOf) (n : ℕ) → k ≡ m → q ≡ p → n ≡ 0 → (text : List ℕ)
    → text ≡ dump_text style (with_places (shown_from n q) (shown_module style.profile k)).shown
    → text ++ codes "\n" ≡ placed_output style m p
placed_text style m k p q n f e h text is = ap (λ t. t ++ codes "\n") (is
    ∙ (ap (λ j. dump_text style (with_places (shown_from j q) (shown_module style.profile k)).shown) h
    ∙ (ap (λ r. dump_text style (with_places (shown_from 0 r) (shown_module style.profile k)).shown) e
    ∙ ap (λ x. dump_text style (with_places (shown_from 0 p) (shown_module style.profile x)).shown) f)))

-- what a pair is made of
pub first_is : {A B : Type 0} {z : A × B} {a : A} {b : B} → z ≡ (a, b) → z.0 ≡ a
first_is {A} {B} h = ap (λ (y : A × B). y.0) h

pub second_is : {A B : Type 0} {z : A × B} {a : A} {b : B} → z ≡ (a, b) → z.1 ≡ b
second_is {A} {B} h = ap (λ (y : A × B). y.1) h
