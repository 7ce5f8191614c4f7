-- How the lines of a source are opened, and why not.
--
-- Carries: LineReader::new. On: StreamLemmas, HeadLemmas.
use Rattle.std.proofs.Common.{◌≡◌, ℕ, ◌-◌, ◌<◌, ◌≤◌, Bool, true, false, List, [], ◌++◌, length, take, drop, None, Some, Ok, Err, Option}
use Rattle.std.proofs.Common.{Result, sym, ap, subst, refl, inl, inr, ◌∙◌, arith, append-nil, length-append, length-drop}
use Rattle.std.specs.Prelude.{◌&&◌, codes, nat_lt, if◌then◌else◌}
use Rattle.std.specs.Io.KnownBytes.{Consumes}
use Rattle.std.proofs.lemmas.Bool.{cases_Bool}
use Rattle.pysource.specs.Names.{Named}
use Rattle.pysource.specs.Parts.{Parts}
use Rattle.pysource.specs.Cookies.{encoding_of, named_by, cookie_of, leads_on, is_utf_8, is_ascii_name, is_spelled, without_mark, has_mark}
use Rattle.pysource.specs.Sources.{nth_line}
use Rattle.pysource.specs.Taking.{ReadsBytes}
use Rattle.pysource.specs.Streams.{Coming, FollowsAt, comes, coming, decides, of_source, stream_of, stream_under, Opens, Refuses}
use Rattle.pysource.specs.Inner.Heads.{Head, FoundHeads}
use Rattle.pysource.specs.declared.buffers.Intake.{Intake}
use Rattle.pysource.specs.Bytes.{Seen}
use Rattle.pysource.specs.Limits.{source_limit}
use Rattle.pysource.specs.declared.encodings.SourceFault.{SourceFault}
use Rattle.pysource.specs.declared.encodings.SourceFault.TheVariants as cookies
use Rattle.pysource.specs.declared.places.Place.{Place}
use Rattle.pysource.specs.declared.line_reader.Reach.TheVariants.{Reading}
use Rattle.pysource.specs.declared.line_reader.StreamFault.{StreamFault}
use Rattle.pysource.specs.declared.line_reader.StreamFault.TheVariants.{UnsupportedEncoding, BomConflict, Read, Memory}
use Rattle.pysource.proofs.LineReading.StreamLemmas.{held, comes_is, cut_off}
use Rattle.pysource.proofs.LineReading.HeadLemmas.{encoding_unsearched}

-- what the lines that were read declare, whatever follows
declared : (i : Intake) (first second : ℕ) → Head i first second → (more : List ℕ) (broken : Bool) → FollowsAt i.reach more broken
    → encoding_of (nth_line (i.buffer ++ more) 0) (nth_line (i.buffer ++ more) 1) ≡ encoding_of (take first i.buffer)
    (take (second - first) (drop first i.buffer))
declared i first second h more broken f =
    ap (λ (w : List ℕ). encoding_of w (nth_line (i.buffer ++ more) 1)) (h.first_is more broken f) ∙ elim (h.second_is more broken f) [
      | inl e ↦ ap (encoding_of (take first i.buffer)) e
      | inr none ↦ encoding_unsearched (take first i.buffer) (nth_line (i.buffer ++ more) 1)
          (take (second - first) (drop first i.buffer)) none
    ]

-- so the source is that under this encoding
streamed : (i : Intake) (first second : ℕ) → Head i first second → (more : List ℕ) (broken : Bool) → FollowsAt i.reach more broken
    → stream_of broken (i.buffer ++ more) ≡ stream_under (encoding_of (take first i.buffer) (take (second - first) (drop first i.buffer)))
    broken (i.buffer ++ more)
unfolding stream_of
streamed i first second h more broken f =
    let decided = h.decided more broken f in
    rw decided (ap (λ (r : Result Named SourceFault). stream_under r broken (i.buffer ++ more)) (declared i first second h more broken f))

under_named : (named : Named) (broken : Bool) (bytes : List ℕ)
    → stream_under (Ok named) broken bytes ≡ Ok
    (record {
      encoding = named;
      text = (coming named.charset 1 broken (without_mark bytes)).text;
      fault =
          (coming named.charset 1 broken (without_mark bytes)).fault;
    })
unfolding stream_under
under_named named broken bytes = refl

-- an intake after the byte order mark
abbrev pub unmarked : Intake → Intake
unmarked i = record { buffer = without_mark i.buffer; reach = i.reach; count = i.count }

without_mark_short : (bytes : List ℕ) → length (without_mark bytes) ≤ length bytes
without_mark_short bytes = elim (cases_Bool (has_mark bytes)) [
  | inl e ↦ rw e (let size = length-drop 3 bytes in omega (arith, size))
  | inr e ↦ rw e (omega arith)
]

-- the lines are opened
pub opens : {x y : Seen} (i : Intake) (first second : ℕ) (named : Named) → ReadsBytes x y Reading i.reach 0 i.count i.buffer
    → i.count ≤ source_limit → Head i first second
    → encoding_of (take first i.buffer) (take (second - first) (drop first i.buffer)) ≡ Ok named
    → Opens x y (held named 1 None (unmarked i))
opens i first second named takes within h is =
    let short = without_mark_short i.buffer in
    record {
      taken = i.buffer;
      reads = takes;
      source = λ more broken f.
          let comes_here : coming named.charset 1 broken (without_mark (i.buffer ++ more)) ≡ comes
          (held named 1 None (unmarked i)) more broken =
          ap (coming named.charset 1 broken) (h.mark more broken f) ∙ sym (comes_is named 1 (unmarked i) more broken) in
          streamed i first second h more broken f ∙ ap (λ (r : Result Named SourceFault). stream_under r broken (i.buffer ++ more)) is
          ∙ under_named named broken (i.buffer ++ more)
          ∙ ap (λ (c : Coming). let r : Result Parts StreamFault = Ok (record { encoding = named; text = c.text; fault = c.fault }) in r)
          comes_here;
      row = refl;
      fault = refl;
      within = within;
      pending = omega (arith, short, takes.count);
      ahead = omega (arith, takes.count, h.ahead);
    }

-- the encoding is refused
refuses_unsupported : {x y : Seen} (i : Intake) (first second : ℕ) (place : Place)
    → ReadsBytes x y Reading i.reach 0 i.count i.buffer → Head i first second
    → encoding_of (take first i.buffer) (take (second - first) (drop first i.buffer)) ≡ Err (cookies.UnsupportedEncoding place)
    → Refuses x y (UnsupportedEncoding place)
unfolding stream_under
refuses_unsupported {x} {y} i first second place takes h is = record {
  taken = i.buffer;
  reach = i.reach;
  reads = subst (λ (n : ℕ). ReadsBytes x y Reading i.reach 0 n i.buffer) (let e : i.count ≡ length i.buffer =
      omega (arith, takes.count) in e) takes;
  explains = (
    h.reach,
    λ more broken f. streamed i first second h more broken f
        ∙ ap (λ (r : Result Named SourceFault). stream_under r broken (i.buffer ++ more)) is,
  );
}

refuses_conflict : {x y : Seen} (i : Intake) (first second : ℕ) (place : Place)
    → ReadsBytes x y Reading i.reach 0 i.count i.buffer → Head i first second
    → encoding_of (take first i.buffer) (take (second - first) (drop first i.buffer)) ≡ Err (cookies.BomConflict place)
    → Refuses x y (BomConflict place)
unfolding stream_under
refuses_conflict {x} {y} i first second place takes h is = record {
  taken = i.buffer;
  reach = i.reach;
  reads = subst (λ (n : ℕ). ReadsBytes x y Reading i.reach 0 n i.buffer) (let e : i.count ≡ length i.buffer =
      omega (arith, takes.count) in e) takes;
  explains = (
    h.reach,
    λ more broken f. streamed i first second h more broken f
        ∙ ap (λ (r : Result Named SourceFault). stream_under r broken (i.buffer ++ more)) is,
  );
}

-- want of memory is never why lines declare no encoding
abbrev NotMemory : Result Named SourceFault → Type 0
NotMemory (Err cookies.Memory) = ⊥
NotMemory (Err (cookies.UnsupportedEncoding place)) = Unit {0}
NotMemory (Err (cookies.BomConflict place)) = Unit {0}
NotMemory (Ok named) = Unit {0}

neither : (b : Bool) (x y : Result Named SourceFault) → NotMemory x → NotMemory y → NotMemory (if b then x else y)
neither true x y p q = p
neither false x y p q = q

named_never : (marked : Bool) (row : ℕ) (cookie : List ℕ) → NotMemory (named_by marked row cookie)
named_never marked row cookie =
    neither (is_utf_8 cookie) _ _ tt (neither (is_spelled cookie (codes "utf8")) _ _ tt
    (neither (is_ascii_name cookie) _ _ (neither marked _ _ tt tt) tt))

never_memory : (first second : List ℕ) → NotMemory (encoding_of first second)
never_memory first second =
    let line = without_mark first in
    neither (nat_lt 0 (length (cookie_of line))) _ _ (named_never (has_mark first) 1 (cookie_of line))
    (neither (leads_on line && nat_lt 0 (length (cookie_of second))) _ _ (named_never (has_mark first) 2 (cookie_of second)) tt)

pub refuses_source : {x y : Seen} (i : Intake) (first second : ℕ) (fault : SourceFault)
    → ReadsBytes x y Reading i.reach 0 i.count i.buffer → Head i first second
    → encoding_of (take first i.buffer) (take (second - first) (drop first i.buffer)) ≡ Err fault → Refuses x y (of_source fault)
refuses_source i first second (cookies.UnsupportedEncoding place) takes h is = refuses_unsupported i first second place takes h is
refuses_source i first second (cookies.BomConflict place) takes h is = refuses_conflict i first second place takes h is
refuses_source i first second cookies.Memory takes h is =
    absurd (subst NotMemory is (never_memory (take first i.buffer) (take (second - first) (drop first i.buffer))))

unreadable : (bytes : List ℕ) → decides true bytes ≡ false → stream_of true bytes ≡ Err Read
unfolding stream_of
unreadable bytes e = rw e refl

-- the lines that decide could not be read
pub refuses_head : {x y : Seen} (i : Intake) (fault : StreamFault) → ReadsBytes x y Reading i.reach 0 i.count i.buffer
    → FoundHeads i (Err fault) → Refuses x y fault
refuses_head {x} {y} i Read takes found = record {
  taken = i.buffer;
  reach = i.reach;
  reads = subst (λ (n : ℕ). ReadsBytes x y Reading i.reach 0 n i.buffer) (let e : i.count ≡ length i.buffer =
      omega (arith, takes.count) in e) takes;
  explains = (
    found.reach,
    λ more broken f.
        let none = cut_off i.reach more broken found.reach f in
        ap (λ (w : List ℕ). stream_of broken (i.buffer ++ w)) none.0 ∙ ap (λ (q : Bool). stream_of q (i.buffer ++ [])) none.1
        ∙ ap (stream_of true) (append-nil i.buffer)
        ∙ unreadable i.buffer found.undecided,
  );
}
refuses_head {x} {y} i Memory takes found = record {
  taken = i.buffer;
  reach = i.reach;
  reads = subst (λ (n : ℕ). ReadsBytes x y Reading i.reach 0 n i.buffer) (let e : i.count ≡ length i.buffer =
      omega (arith, takes.count) in e) takes;
  explains = found;
}
refuses_head i (UnsupportedEncoding place) takes found = absurd found
refuses_head i (BomConflict place) takes found = absurd found

-- an intake after the mark, as the code skips it
pub unmarked_skip : (i : Intake) → has_mark i.buffer ≡ true → drop 3 i.buffer ≡ without_mark i.buffer
unmarked_skip i e = rw e refl

pub unmarked_same : (i : Intake) → has_mark i.buffer ≡ false → i.buffer ≡ without_mark i.buffer
unmarked_same i e = rw e refl
