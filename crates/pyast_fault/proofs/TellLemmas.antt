-- Carries: tell_pair, tell_plain, tell_of_file, tell_by, tell. On: lines that are written in parts.
use Rattle.std.proofs.Common.{◌≡◌, ◌+◌, ◌++◌, arith, ℕ, Bool, true, false, List, [], Option, Some, None, Ok, Err, Result, refl, sym, ap, ◌∙◌}
use Rattle.std.proofs.Common.{append-nil}
use Rattle.std.specs.Prelude.{OnOk, OnErr}
use Rattle.std.specs.Io.KnownBytes.{Appends}
use Rattle.pysource.specs.Bytes.{Sent, TakesFront}
use Rattle.pysource.proofs.Callers.Taken.{Appends-append, TakesFront-after, TakesFront-done}
use Rattle.pyast_fault.specs.Faults.{fault_line, file_line, plain_line, rows_of, text_of, Tells}
use Rattle.pyast_fault.specs.Inner.Telling.{told_lines}
use Rattle.pyast_fault.specs.declared.fault.Fault.{Fault}
use Rattle.pyast_fault.specs.declared.fault.Fault.TheVariants.{InSource, Plain}
use Rattle.pyast_fault.specs.declared.fault.FaultCode.TheVariants.{Run}
use Rattle.pyast_fault.specs.declared.fault.RunFaultCode.{RunFaultCode}
use Rattle.pyast_fault.specs.declared.fault.RunFaultCode.TheVariants.{Read, Open, Memory}
use Rattle.pyast_fault.specs.declared.fault.SourceFaultCode.{SourceFaultCode}
use Rattle.pysource.specs.declared.places.Place.{Place}

-- a write that failed within a line
pub tells_cut : (x y z : Sent) (done part rest line : List ℕ) → line ≡ done ++ (part ++ rest) → Appends x.taken y.taken done
    → TakesFront y.taken z.taken part → z.failures ≡ x.failures + 1 → Tells x z line
tells_cut x y z done part rest line is p t f = record {
  front = TakesFront-after x.taken y.taken z.taken done part rest line is p t;
  whole = λ unfailed. absurd (omega arith);
}

-- the last part of a line is written, or not all of it
pub tells_last : {A E : Type 0} (r : Result A E) (x y z : Sent) (done part line : List ℕ) → line ≡ done ++ part → y.failures ≡ x.failures
    → Appends x.taken y.taken done
    → OnOk r (Appends y.taken z.taken part) → OnErr r (TakesFront y.taken z.taken part)
    → OnErr r (z.failures ≡ y.failures + 1) → Tells x z line
tells_last (Ok a) x y z done part line is same p q t f = record {
  front = TakesFront-done x.taken z.taken (done ++ part) [] line (is ∙ sym (append-nil (done ++ part)))
      (Appends-append x.taken y.taken z.taken done part p q);
  whole = λ unfailed. rw is (Appends-append x.taken y.taken z.taken done part p q);
}
tells_last (Err e) x y z done part line is same p q t f =
    tells_cut x y z done part [] line (is ∙ ap (λ u. done ++ u) (sym (append-nil part))) p t (omega arith)

-- a fault without a place that isn't about a file has the same line
pub plain_of_file : (name : List ℕ) (code : RunFaultCode) → (code ≡ Read → ⊥) → (code ≡ Open → ⊥)
    → plain_line (text_of (Run code)) ≡ file_line name (Plain code)
plain_of_file name Read unread opened = absurd (unread refl)
plain_of_file name Open unread opened = absurd (opened refl)
plain_of_file name code unread opened = refl

-- so has a fault of the source
pub source_told : (of_file : Bool) (name : List ℕ) (shown : Option (List ℕ)) (code : SourceFaultCode) (place : Place)
    → fault_line name (InSource code place) ++ rows_of shown (InSource code place) ≡ told_lines of_file name shown (InSource code place)
source_told true name shown code place = refl
source_told false name shown code place = refl

-- a fault without a place has no row
pub no_rows : (shown : Option (List ℕ)) (code : RunFaultCode) → rows_of shown (Plain code) ≡ []
no_rows None code = refl
no_rows (Some bytes) code = refl

pub plain_told : (of_file : Bool) (name : List ℕ) (shown : Option (List ℕ)) (code : RunFaultCode) (line : List ℕ)
    → (of_file ≡ true → line ≡ file_line name (Plain code)) → (of_file ≡ false → line ≡ fault_line name (Plain code))
    → line ≡ told_lines of_file name shown (Plain code)
plain_told true name shown code line file fault =
    file refl ∙ sym (ap (λ (t : List ℕ). file_line name (Plain code) ++ t) (no_rows shown code) ∙ append-nil (file_line name (Plain code)))
plain_told false name shown code line file fault =
    fault refl ∙ sym (ap (λ (t : List ℕ). fault_line name (Plain code) ++ t) (no_rows shown code) ∙ append-nil (fault_line name (Plain code)))
