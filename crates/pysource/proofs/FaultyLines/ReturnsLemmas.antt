-- When a byte is a CR that no LF follows.
--
-- Carries: lone_return, line_end, find_return.
use Rattle.std.proofs.Common.{◌≡◌, ◌≢◌, ℕ, ◌+◌, ◌-◌, ◌<◌, ◌≤◌, List, length, drop, get_or, None, Some, Option, sym, ap, ◌∙◌, arith, zero-le}
use Rattle.std.proofs.lemmas.Bool.{eq-eqb, ne_eqb, eqb-true}
use Rattle.std.proofs.lemmas.List.{get_or-drop, length-drop}
use Rattle.std.proofs.Math.Bool.{and-false}
use Rattle.memchr.specs.Find.{IsFirstByte, is_byte}
use Rattle.pysource.specs.declared.faults.LineError.TheVariants.{LoneReturn}
use Rattle.pysource.specs.Lines.{lone_return_at}

-- another byte is no lone carriage return
pub lone_none_byte : (bs : List ℕ) (k : ℕ) → get_or bs k 0 ≢ 13 → lone_return_at bs k ≡ None
lone_none_byte bs k differ = rw (ne_eqb (get_or bs k 0) 13 differ)

-- nor is one before a line feed
pub lone_none_lf : (bs : List ℕ) (k : ℕ) → get_or bs (k + 1) 0 ≡ 10 → lone_return_at bs k ≡ None
lone_none_lf bs k same = rw (eq-eqb (get_or bs (k + 1) 0) 10 same, and-false)

-- a carriage return before anything else is
pub lone_some : (bs : List ℕ) (k : ℕ) → get_or bs k 0 ≡ 13 → get_or bs (k + 1) 0 ≢ 10 → lone_return_at bs k ≡ Some LoneReturn
lone_some bs k here next = rw (eq-eqb (get_or bs k 0) 13 here, ne_eqb (get_or bs (k + 1) 0) 10 next)

-- what a search after a front answered
pub found_after : (byte : ℕ) (bs part : List ℕ) (from : ℕ) (r : Option ℕ) (i : ℕ) → part ≡ drop from bs → IsFirstByte (is_byte byte) part r
    → r ≡ Some i → (from + i < length bs) × (get_or bs (from + i) 0 ≡ byte) × ((k : ℕ) → from ≤ k → k < from + i → get_or bs k 0 ≢ byte)
found_after byte bs part from r i same answer is =
    let parts = rw (same, is) at answer in
    let inside : i < length bs - from = rw (← length-drop from bs) parts.0.high in
    let here : get_or bs (from + i) 0 ≡ byte = sym (get_or-drop from bs i 0) ∙ eqb-true (get_or (drop from bs) i 0) byte parts.1 in (
      omega arith,
      here,
      λ k low high e.
          let at : from + (k - from) ≡ k = omega arith in
          let read : get_or (drop from bs) (k - from) 0 ≡ byte = get_or-drop from bs (k - from) 0 ∙ ap (λ n. get_or bs n 0) at ∙ e in
          parts.0.before (k - from) zero-le (omega arith) (eq-eqb (get_or (drop from bs) (k - from) 0) byte read),
    )

-- what a search after a front answered that found none
pub none_after : (byte : ℕ) (bs part : List ℕ) (from : ℕ) (r : Option ℕ) → part ≡ drop from bs → IsFirstByte (is_byte byte) part r
    → r ≡ None → (k : ℕ) → from ≤ k → k < length bs → get_or bs k 0 ≢ byte
none_after byte bs part from r same answer is k low high e =
    let none = rw (same, is) at answer in
    let at : from + (k - from) ≡ k = omega arith in
    let read : get_or (drop from bs) (k - from) 0 ≡ byte = get_or-drop from bs (k - from) 0 ∙ ap (λ n. get_or bs n 0) at ∙ e in
    let inside : k - from < length (drop from bs) = rw (length-drop from bs) (omega arith) in
    none (k - from) zero-le inside (eq-eqb (get_or (drop from bs) (k - from) 0) byte read)
