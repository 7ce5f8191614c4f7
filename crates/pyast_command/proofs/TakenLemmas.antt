-- Laws of what was taken of a reader.
--
-- Carries: is_broken, continues_none, performs, for ListLemmas, StartLemmas.
use Rattle.std.proofs.Common.{◌≡◌, ◌≢◌, ◌+◌, ◌-◌, ◌++◌, ◌<◌, ◌≤◌, ℕ, Bool, true, false, List, [], ◌∷◌, length, take, drop, Option, None}
use Rattle.std.proofs.Common.{Some, refl, sym, ap, subst, inl, inr, ◌∙◌, append_assoc, append-nil, length-append, length-drop, arith}
use Rattle.std.specs.Prelude.{IfSome}
use Rattle.std.specs.Io.KnownBytes.{Consumes, IsAtEnd}
use Rattle.std.proofs.lemmas.Bool.{cases_lt}
use Rattle.std.proofs.lemmas.List.{length-take-le, take-append-drop}
use Rattle.pysource.specs.Bytes.{Seen}
use Rattle.pysource.specs.Streams.{Buffered, FollowsAt}
use Rattle.pysource.specs.Taking.{ReadsBytes}
use Rattle.pysource.specs.Limits.{source_limit}
use Rattle.pysource.specs.declared.line_reader.Reach.{Reach}
use Rattle.pysource.specs.declared.line_reader.Reach.TheVariants as reach
use Rattle.pylex.specs.Streamed.{Continues}
use Rattle.pyast_command.specs.Runs.{WritesFor, Performs}
use Rattle.pyast_fault.specs.declared.fault.Fault.{Fault}
use Rattle.pyast_fault.specs.declared.fault.Fault.TheVariants.{Plain}
use Rattle.pyast_fault.specs.declared.fault.RunFaultCode.TheVariants.{Read}

-- no byte comes any more, since a read failed or the limit was passed
abbrev pub is_broken : Reach → Bool
is_broken reach.Broken = true
is_broken reach.Passed = true
is_broken r = false

-- something may always follow
follows_none : (r : Reach) → FollowsAt r [] (is_broken r)
follows_none reach.Reading = tt
follows_none reach.End = (refl, refl)
follows_none reach.Broken = (refl, refl)
follows_none reach.Passed = (refl, refl)

pub continues_none : (b : Buffered) → b.count ≤ source_limit → Continues b [] (is_broken b.reach)
continues_none b within = (follows_none b.reach, omega arith)

none_long : (a : List ℕ) → (0 < length a → a ≡ []) → a ≡ []
none_long [] h = refl
none_long (x ∷ a) h = let e : x ∷ a ≡ [] = h (omega arith) in cc

-- bytes to come that were all taken
all_known : (come new : Option (List ℕ)) (all : List ℕ) → Consumes come new all → IsAtEnd new → IfSome come (λ known. known ≡ all)
all_known None new all c e = tt
all_known (Some known) None all c e = absurd c
all_known (Some known) (Some rest) all c e = c ∙ ap (λ r. all ++ r) e ∙ append-nil all

-- What was done with each source that what was taken can be the front of, was done with
-- that which the reader gives.
module _ (output : Bool → List ℕ → List ℕ) (told : Bool → List ℕ → Option Fault) (x y : Option (List ℕ)) (n : ℕ) (all : List ℕ)
    (ended : Option Fault) (quiet : (bytes : List ℕ) → told false bytes ≢ Some (Plain Read)) where
  -- whatever may follow
  abbrev Does : Reach → Type 0
  Does r = (more : List ℕ) (broken : Bool) → FollowsAt r more broken → n + length more ≤ source_limit
      → WritesFor (output broken (all ++ more)) (told broken (all ++ more)) x y ended

  abbrev Done : Seen → Seen → Type 0
  Done seen_old seen_new = Performs output told seen_old seen_new x y source_limit ended

  -- no failed read is told of bytes after which none failed
  unread : (bytes : List ℕ) → WritesFor (output false bytes) (told false bytes) x y ended → ended ≡ Some (Plain Read) → ⊥
  unread bytes w is = quiet bytes (rw is at w).0

  reading : (come new : Option (List ℕ)) (failures_old failures_new : ℕ) (may_old may_new : Bool) → n ≤ source_limit → n ≡ length all
      → failures_new ≡ failures_old → Consumes come new all → Does reach.Reading
      → Done (record { to_come = come; failures = failures_old; may_fail = may_old })
      (record { to_come = new; failures = failures_new; may_fail = may_new })
  reading None new failures_old failures_new may_old may_new within size same c does = record {
    input = all ++ [];
    broken = false;
    within = rw length-append (omega (arith, size, within));
    whole = λ e. (tt, same);
    cut = λ e. cc;
    read = λ is. absurd (unread (all ++ []) (does [] false tt (omega arith)) is);
    writes = does [] false tt (omega arith);
  }
  reading (Some known) None failures_old failures_new may_old may_new within size same c does = absurd c
  reading (Some known) (Some rest) failures_old failures_new may_old may_new within size same c does =
      elim (cases_lt source_limit (n + length rest)) [
        | inl past ↦
            let front = take (source_limit - n) rest in
            let back = drop (source_limit - n) rest in
            let long : length front ≡ source_limit - n = length-take-le (source_limit - n) rest (omega (arith, past, within)) in
            let left = length-drop (source_limit - n) rest in
            let both = length-append all front in
            let split : front ++ back ≡ rest = take-append-drop (source_limit - n) rest in
            let parts : known ≡ (all ++ front) ++ back = c ∙ ap (λ r. all ++ r) (sym split) ∙ sym (append_assoc all front back) in
            record {
              input = all ++ front;
              broken = true;
              within = omega (arith, both, long, size, within);
              whole = λ e. cc;
              cut = λ e. inr (record {
                past = back;
                some = omega (arith, left, past, within);
                full = omega (arith, both, long, size, within);
                front = inr (ap (λ b. Some b) parts);
                unfailed = same;
              });
              read = λ is. absurd (unread (all ++ []) (does [] false tt (omega (arith, within))) is);
              writes = does front true tt (omega (arith, long, within));
            }
        | inr fits ↦ record {
          input = all ++ rest;
          broken = false;
          within = rw length-append (omega (arith, fits, size));
          whole = λ e. (c, same);
          cut = λ e. cc;
          read = λ is. absurd (unread (all ++ []) (does [] false tt (omega (arith, within))) is);
          writes = does rest false tt (omega (arith, fits));
        }
      ]

  pub performs : (seen_old seen_new : Seen) (r : Reach) → ReadsBytes seen_old seen_new reach.Reading r 0 n all → Does r
      → Done seen_old seen_new
  performs seen_old seen_new reach.Reading t does =
      let none : t.lost ≡ [] = none_long t.lost (λ h. absurd (let e = (t.passed h).0 in cc)) in
      reading seen_old.to_come seen_new.to_come seen_old.failures seen_new.failures seen_old.may_fail seen_new.may_fail
      (t.within (omega arith)) (omega (arith, t.count)) (omega (arith, t.told))
      (subst (Consumes seen_old.to_come seen_new.to_come) (ap (λ l. all ++ l) none ∙ append-nil all) t.consumes) does
  performs seen_old seen_new reach.End t does =
      let none : t.lost ≡ [] = none_long t.lost (λ h. absurd (let e = (t.passed h).0 in cc)) in
      let within = t.within (omega arith) in
      let writes = does [] false (refl, refl) (omega (arith, within)) in
      record {
        input = all ++ [];
        broken = false;
        within = rw length-append (omega (arith, within, t.count));
        whole = λ e. (
          all_known seen_old.to_come seen_new.to_come (all ++ [])
              (subst (λ l. Consumes seen_old.to_come seen_new.to_come (all ++ l)) none t.consumes) (t.ended (λ e. cc) refl),
          omega (arith, t.told),
        );
        cut = λ e. cc;
        read = λ is. absurd (unread (all ++ []) writes is);
        writes = writes;
      }
  performs seen_old seen_new reach.Broken t does =
      let none : t.lost ≡ [] = none_long t.lost (λ h. absurd (let e = (t.passed h).0 in cc)) in
      let within = t.within (omega arith) in
      record {
        input = all ++ [];
        broken = true;
        within = rw length-append (omega (arith, within, t.count));
        whole = λ e. cc;
        cut = λ e. inl (record {
          front = subst (λ l. Consumes seen_old.to_come seen_new.to_come (all ++ l)) none t.consumes;
          failed =
              omega (arith, t.told);
        });
        read = λ is. inl (omega (arith, t.told));
        writes = does [] true (refl, refl) (omega (arith, within));
      }
  performs seen_old seen_new reach.Passed t does =
      let within = t.within (omega arith) in
      let some = t.newly (λ e. cc) refl in
      let full = (t.passed some).1 in
      let same : all ++ [] ≡ all = append-nil all in
      record {
        input = all ++ [];
        broken = true;
        within = rw length-append (omega (arith, within, t.count));
        whole = λ e. cc;
        cut = λ e. inr (record {
          past = t.lost;
          some = some;
          full = ap length same ∙ omega (arith, full, t.count);
          front =
              inl (rw same t.consumes);
          unfailed = omega (arith, t.told);
        });
        read = λ is. inr (all ++ t.lost, rw length-append (omega (arith, some, full, t.count)), t.consumes);
        writes = does [] true (refl, refl) (omega (arith, within));
      }
