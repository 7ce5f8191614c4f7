-- Laws of a run.
--
-- Carries: list, write_listing, perform, tell_end, run, check_one.
use Rattle.std.proofs.Common.{Bool, ◌≡◌, ◌≢◌, ◌++◌, ℕ, List, [], Option, None, Some, refl, sym, ap, inl, inr}
use Rattle.std.proofs.Common.{true, false, ◌∙◌, append_assoc, append-nil}
use Rattle.std.specs.Prelude.{if◌then◌else◌}
use Rattle.std.specs.Io.KnownBytes.{Appends}
use Rattle.pysource.specs.Bytes.{Seen, Sent, TakesFront}
use Rattle.pysource.proofs.Callers.Taken.{Appends-append, Appends-refl, TakesFront-after}
use Rattle.pylex_listing.specs.declared.entries.ListingFault.{ListingFault}
use Rattle.pysource.specs.Limits.{source_limit}
use Rattle.pysource.specs.declared.places.Place.{Place}
use Rattle.pytree_node.specs.declared.profiles.Profile.{Profile}
use Rattle.pyast_fault.specs.Faults.{fault_line, listing_code, rows_of, told_at, of_listing, IsToldAs, Tells}
use Rattle.pyast_words.specs.declared.command.Check.{Check as CheckAsked}
use Rattle.pyast_words.specs.declared.command.Command.{Command}
use Rattle.pyast_words.specs.declared.command.Command.TheVariants.{Tokens, Dump, Unparse, Check}
use Rattle.pyast_command.specs.Dumps.{Dumps}
use Rattle.pyast_command.specs.Listings.{output_of, fault_in}
use Rattle.pyast_command.specs.Runs.{TakesAllBut, HoldsFor, WritesFor, Performs, Making, whole, in_pieces, PerformsWhole, Does}
use Rattle.pyast_command.specs.Runs.{shows, shown_in, line_in, IsTold, Judges}
use Rattle.pyast_command.specs.Inner.Reading.{Keeps, KeepsShown}
use Rattle.pyast_command.specs.Unparses.{Unparses}
use Rattle.pyast_fault.specs.declared.fault.RunFaultCode.{RunFaultCode}
use Rattle.pyast_fault.specs.declared.fault.SourceFaultCode.{SourceFaultCode}
use Rattle.pyast_fault.specs.declared.fault.RunFaultCode.TheVariants.{Read, Write, Memory, CursorOfAnotherSource}
use Rattle.pyast_fault.specs.declared.fault.Fault.{Fault}
use Rattle.pyast_fault.specs.declared.fault.Fault.TheVariants.{InSource, Plain}

-- a further line is held, and no longer left
pub TakesAllBut-held : (x y : Option (List ℕ)) (output held line left : List ℕ) → TakesAllBut x y output held (line ++ left)
    → TakesAllBut x y output (held ++ line) left
TakesAllBut-held x y output held line left (written, is, p) = (written, is ∙ simp append_assoc, p)

-- what was held is written
pub TakesAllBut-written : (x y z : Option (List ℕ)) (output held left : List ℕ) → TakesAllBut x y output held left → Appends y z held
    → TakesAllBut x z output [] left
TakesAllBut-written x y z output held left (written, is, p) q =
    (written ++ held, is ∙ ap (λ t. t ++ left) (sym (append-nil (written ++ held))), Appends-append x y z written held p q)

-- a front of what was held is written
pub TakesAllBut-cut : (x y z : Option (List ℕ)) (output held left : List ℕ) → TakesAllBut x y output held left
    → TakesFront y z held → TakesFront x z output
TakesAllBut-cut x y z output held left (written, is, p) q = TakesFront-after x y z written held left output (is
    ∙ append_assoc written held left) p q

-- a front of what is held at a listing's end is written
pub HoldsFor-cut : (output : List ℕ) (told : Option Fault) (x y z : Option (List ℕ)) (held : List ℕ) (ended : Option Fault)
    → ended ≢ Some (Plain Write) → HoldsFor output told x y held ended → TakesFront y z held → TakesFront x z output
HoldsFor-cut output told x y z held None n p q = TakesAllBut-cut x y z output held [] p.1 q
HoldsFor-cut output told x y z held (Some (InSource code place)) n p q = TakesAllBut-cut x y z output held [] p.1 q
HoldsFor-cut output told x y z held (Some (Plain Memory)) n p q = TakesAllBut-cut x y z output held p.0 p.1 q
HoldsFor-cut output told x y z held (Some (Plain Read)) n p q = TakesAllBut-cut x y z output held [] p.1 q
HoldsFor-cut output told x y z held (Some (Plain Write)) n p q = absurd (n refl)
HoldsFor-cut output told x y z held (Some (Plain other)) n p q = absurd p

-- where a write failed, a front is written
pub HoldsFor-failed : (output : List ℕ) (told : Option Fault) (x y : Option (List ℕ)) (held : List ℕ) (ended : Option Fault)
    → ended ≡ Some (Plain Write) → HoldsFor output told x y held ended → WritesFor output told x y ended
HoldsFor-failed output told x y held ended is p = rw is (rw is at p)

-- all of the output is written
pub all_written : (output : List ℕ) (x y z : Option (List ℕ)) (held : List ℕ) → TakesAllBut x y output held []
    → Appends y z held → Appends x z output
all_written output x y z held (written, is, p) q = rw (is, append-nil (written ++ held)) (Appends-append x y z written held p q)

-- all that was held at a listing's end is written
pub HoldsFor-written : (output : List ℕ) (told : Option Fault) (x y z : Option (List ℕ)) (held : List ℕ) (ended : Option Fault)
    → ended ≢ Some (Plain Write) → HoldsFor output told x y held ended → Appends y z held → WritesFor output told x z ended
HoldsFor-written output told x y z held None n p q = (p.0, all_written output x y z held p.1 q)
HoldsFor-written output told x y z held (Some (InSource code place)) n p q = (p.0, all_written output x y z held p.1 q)
HoldsFor-written output told x y z held (Some (Plain Read)) n p q = (p.0, all_written output x y z held p.1 q)
HoldsFor-written output told x y z held (Some (Plain Memory)) n (left, (written, is, p)) q =
    (written ++ held, left, is, Appends-append x y z written held p q)
HoldsFor-written output told x y z held (Some (Plain Write)) n p q = absurd (n refl)
HoldsFor-written output told x y z held (Some (Plain other)) n p q = absurd p

-- a listing ended by a fault, and all before that is held
pub HoldsFor-fault : (output : List ℕ) (told : Option Fault) (x y : Option (List ℕ)) (held : List ℕ) (f : ListingFault)
    → told ≡ Some (of_listing f) → TakesAllBut x y output held []
    → HoldsFor output told x y held (Some (of_listing f))
HoldsFor-fault output told x y held f is p = by_code (listing_code f.code) is
  where
    by_code : (o : Option SourceFaultCode) → told ≡ Some (told_at o f.place) → HoldsFor output told x y held (Some (told_at o f.place))
    by_code None e = (e, p)
    by_code (Some code) e = (e, p)

-- whatever was written stands at the front of the output
pub WritesFor-front : (output : List ℕ) (told : Option Fault) (x y : Option (List ℕ)) (ended : Option Fault)
    → WritesFor output told x y ended → TakesFront x y output
WritesFor-front output told x y None p = (output, [], sym (append-nil output), p.1)
WritesFor-front output told x y (Some (InSource code place)) p = (output, [], sym (append-nil output), p.1)
WritesFor-front output told x y (Some (Plain Read)) p = (output, [], sym (append-nil output), p.1)
WritesFor-front output told x y (Some (Plain Memory)) p = p
WritesFor-front output told x y (Some (Plain Write)) p = p
WritesFor-front output told x y (Some (Plain CursorOfAnotherSource)) p = (output, [], sym (append-nil output), p.1)
WritesFor-front output told x y (Some (Plain other)) p = absurd p

-- A run whose fault was told as another ended by that one.
Performs-told : (output : Bool → List ℕ → List ℕ) (told : Bool → List ℕ → Option Fault) (seen_old seen_new : Seen) (x y : Option (List ℕ))
    (limit : ℕ) (fault other : Fault)
    → IsToldAs fault other → Performs output told seen_old seen_new x y limit (Some fault)
    → Performs output told seen_old seen_new x y limit (Some other)
Performs-told output told seen_old seen_new x y limit (Plain code) other is p = rw is p
Performs-told output told seen_old seen_new x y limit (InSource code place) other is p = elim is [
  | inl e ↦ rw e p
  | inr e ↦ rw e (record {
    input = p.input;
    broken = p.broken;
    within = p.within;
    whole = p.whole;
    cut = p.cut;
    read = λ e. cc;
    writes = WritesFor-front (output p.broken p.input) (told p.broken p.input) x y (Some (InSource code place)) p.writes;
  })
]

PerformsWhole-told : (making : Making) (does : List ℕ → List ℕ → Option Fault → Type 0) (seen_old seen_new : Seen) (x y : Option (List ℕ))
    (limit : ℕ) (fault other : Fault)
    → IsToldAs fault other → PerformsWhole making does seen_old seen_new x y limit (Some fault)
    → PerformsWhole making does seen_old seen_new x y limit (Some other)
PerformsWhole-told making does seen_old seen_new x y limit (Plain code) other is p = rw is p
PerformsWhole-told whole does seen_old seen_new x y limit (InSource code place) other is p = elim is [
  | inl e ↦ rw e p
  | inr e ↦ rw e (p.1.unfailed, p.3)
]
PerformsWhole-told in_pieces does seen_old seen_new x y limit (InSource code place) other is p = elim is [
  | inl e ↦ rw e p
  | inr e ↦ rw e (p.1.unfailed, inl p.3)
]

pub Judges-told : (profile : Profile) (seen_old seen_new : Seen) (limit : ℕ) (fault other : Fault)
    → IsToldAs fault other → Judges profile seen_old seen_new limit (Some fault) → Judges profile seen_old seen_new limit (Some other)
Judges-told profile seen_old seen_new limit (Plain code) other is p = rw is p
Judges-told profile seen_old seen_new limit (InSource code place) other is p = elim is [ inl e ↦ rw e p | inr e ↦ rw e p.1.all.unfailed ]

pub Does-told : (command : Command) (seen_old seen_new : Seen) (x y : Option (List ℕ)) (limit : ℕ) (fault other : Fault)
    → IsToldAs fault other → Does command seen_old seen_new x y limit (Some fault) → Does command seen_old seen_new x y limit (Some other)
Does-told (Tokens asked) seen_old seen_new x y limit fault other is p = Performs-told (output_of asked) (fault_in asked) seen_old seen_new x
    y limit fault other is p
Does-told (Dump asked) seen_old seen_new x y limit fault other is p =
    PerformsWhole-told in_pieces (Dumps asked.style asked.attributes) seen_old
    seen_new x y limit fault other is p
Does-told (Unparse asked) seen_old seen_new x y limit fault other is p = PerformsWhole-told whole (Unparses asked.profile) seen_old seen_new
    x y limit fault other is p
Does-told (Check asked) seen_old seen_new x y limit fault other is p =
    (Judges-told asked.profile seen_old seen_new limit fault other is p.0, p.1)

-- ---- The lines that are told.

-- the bytes that are shown are those that were kept
abbrev pub AreRows : Option Profile → List ℕ → Option (List ℕ) → Type 0
AreRows None kept rows = rows ≡ None
AreRows (Some profile) kept rows = rows ≡ Some kept

pub rows_by : (show : Bool) (profile : Profile) (kept : List ℕ)
    → AreRows (if show then Some profile else None) kept (if show then Some kept else None)
rows_by true profile kept = refl
rows_by false profile kept = refl

pub rows_in : (command : Command) (show : Bool) (kept : List ℕ) → show ≡ shows command
    → AreRows (shown_in command) kept (if show then Some kept else None)
rows_in (Tokens asked) show kept is = rw is refl
rows_in (Dump asked) show kept is = rw is (rows_by asked.show asked.style.profile kept)
rows_in (Unparse asked) show kept is = rw is (rows_by asked.show asked.profile kept)
rows_in (Check asked) show kept is = rw is (rows_by asked.show asked.profile kept)

-- what is kept where rows are shown
pub keeps_by : (show : Bool) (profile : Profile) (seen_old seen_new : Seen) (kept : List ℕ) (fault : Fault)
    → (show ≡ true → Keeps profile seen_old seen_new kept fault)
    → KeepsShown (if show then Some profile else None) seen_old seen_new kept fault
keeps_by true profile seen_old seen_new kept fault keeps = keeps refl
keeps_by false profile seen_old seen_new kept fault keeps = tt

-- of a fault without a place the line alone is told
plain_rows : (rows : Option (List ℕ)) (code : RunFaultCode) (line : List ℕ) → line ++ rows_of rows (Plain code) ≡ line
plain_rows None code line = append-nil line
plain_rows (Some bytes) code line = append-nil line

source_rows : (shown : Option Profile) (line_of : Fault → List ℕ) (seen_old seen_new : Seen) (kept : List ℕ) (rows : Option (List ℕ))
    (code : SourceFaultCode) (place : Place) → AreRows shown kept rows → KeepsShown shown seen_old seen_new kept (InSource code place)
    → IsTold shown line_of seen_old seen_new source_limit (Some (InSource code place))
    (line_of (InSource code place) ++ rows_of rows (InSource code place))
source_rows None line_of seen_old seen_new kept rows code place are keeps = rw are (append-nil (line_of (InSource code place)))
source_rows (Some profile) line_of seen_old seen_new kept rows code place are keeps = rw are (kept, keeps, refl)

-- what is told of a fault, as itself or as another
pub told_rows : (shown : Option Profile) (line_of : Fault → List ℕ) (seen_old seen_new : Seen) (kept : List ℕ) (rows : Option (List ℕ))
    (fault told : Fault) → AreRows shown kept rows → KeepsShown shown seen_old seen_new kept fault → IsToldAs fault told
    → IsTold shown line_of seen_old seen_new source_limit (Some told) (line_of told ++ rows_of rows told)
told_rows shown line_of seen_old seen_new kept rows (Plain code) told are keeps is = rw is (plain_rows rows code (line_of (Plain code)))
told_rows shown line_of seen_old seen_new kept rows (InSource code place) told are keeps is = elim is [
  | inl e ↦ rw e (source_rows shown line_of seen_old seen_new kept rows code place are keeps)
  | inr e ↦ rw e (plain_rows rows Memory (line_of (Plain Memory)))
]

-- nothing is told
pub nothing_told : (x : Sent) → Tells x x []
nothing_told x = record { front = ([], [], refl, Appends-refl x.taken); whole = λ unfailed. Appends-refl x.taken }

-- only `check` names a file that can't be read
pub line_other : (command : Command) → ((asked : CheckAsked) → command ≡ Check asked → ⊥) → line_in command ≡ fault_line
line_other (Tokens asked) other = refl
line_other (Dump asked) other = refl
line_other (Unparse asked) other = refl
line_other (Check asked) other = absurd (other asked refl)

-- a fault without a place is told as itself, and only as that
pub told-plain : (fault told : Fault) (code : RunFaultCode) → code ≢ Memory → IsToldAs fault told
    → (told ≡ Plain code → fault ≡ Plain code) × (fault ≡ Plain code → told ≡ Plain code)
told-plain (Plain other) told code ne is = (λ e. cc, λ e. cc)
told-plain (InSource other place) told code ne is = (λ e. elim is [ inl f ↦ cc | inr f ↦ absurd (ne (injects (sym e ∙ f))) ], λ e. cc)
  where
    injects : {a b : RunFaultCode} → Plain a ≡ Plain b → a ≡ b
    injects e = cc
