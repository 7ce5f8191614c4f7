use Rattle.std.proofs.Common.{◌≡◌, ◌++◌, ◌∙◌, List, ℕ, ap, arith, replicate, subst, sym}
use Rattle.std.proofs.lemmas.Str.{encode_ascii}
use Rattle.std.specs.Prelude.{IsUtf8}
use Rattle.std.specs.Str.Iter.{chars_rest}
use Rattle.std.specs.String.{string_bytes}
use Rattle.pysource.specs.Characters.{space}
use Rattle.pytoken.proofs.Callers.TextLemmas.{Past, past}
use Rattle.pyast_fault.specs.Rows.{below_char}
use Rattle.pyast_fault.proofs.RowLemmas.{below_goes, below_lacks, below_other}
use Rattle.pyast_fault.proofs.rows.push_below.Goals as goal
use Rattle.pyast_fault.proofs.rows.push_below.Goals.{in-Some-eq9+in_ok-push-in-Some-eq9, in-Some+in_ok-push_blanks-in-Some}
use Rattle.pyast_fault.proofs.rows.push_below.Goals.{in-None+in_ok-push-in-None}

pub loop-preserved : goal.loop-preserved
loop-preserved c =
    let old = string_bytes c.loop.out in
    let left = chars_rest c.loop.left in
    let rest = chars_rest c.next.new.self in
    elim c.match-next.branch [
      | in-Some-eq9+in_ok-push-in-Some-eq9 w ↦
          let front : Past left rest w.in-Some-eq9.field-0 =
          past left rest w.in-Some-eq9.field-0 c.loop.invariant.utf8 w.in-Some-eq9.ensures.steps.0 in
          let written : string_bytes c.match-next.out ≡ old ++ below_char w.in-Some-eq9.field-0 =
          ap string_bytes w.out-is ∙ w.in_ok-push-in-Some-eq9.ensures.bytes ∙ ap (λ (t : List ℕ). old ++ t) (encode_ascii 9 (omega arith))
          ∙ ap (λ (k : ℕ). old ++ below_char k) (sym w.in-Some-eq9.field-0-test) in
          record {
            output = below_goes c.loop.counter c.args.count old _ _ left rest w.in-Some-eq9.field-0 c.loop-test.true front.same written
                c.loop.invariant.output;
            utf8 = front.utf8;
          }
      | in-Some+in_ok-push_blanks-in-Some w ↦
          let front : Past left rest w.in-Some.c = past left rest w.in-Some.c c.loop.invariant.utf8 w.in-Some.ensures.steps.0 in
          let written : string_bytes c.match-next.out ≡ old ++ below_char w.in-Some.c =
          ap string_bytes w.out-is ∙ w.in_ok-push_blanks-in-Some.ensures
          ∙ ap (λ (n : ℕ). old ++ replicate n space) w.shown_len.ensures
          ∙ ap (λ (t : List ℕ). old ++ t) (sym (below_other w.in-Some.c w.in-Some.c-test.1)) in
          record {
            output = below_goes c.loop.counter c.args.count old _ _ left rest w.in-Some.c c.loop-test.true front.same written
                c.loop.invariant.output;
            utf8 = front.utf8;
          }
      | in-None+in_ok-push-in-None w ↦
          let same : rest ≡ left = ap chars_rest w.in-None.ensures.steps.0.1 in
          record {
            output = below_lacks c.loop.counter c.args.count old _ _ left rest c.loop-test.true w.in-None.ensures.steps.0.0 same
                (ap string_bytes w.out-is ∙ w.in_ok-push-in-None.ensures.bytes ∙ ap (λ (t : List ℕ). old ++ t) (encode_ascii 32 (omega arith)))
                c.loop.invariant.output;
            utf8 = subst IsUtf8 (sym same) c.loop.invariant.utf8;
          }
    ]
