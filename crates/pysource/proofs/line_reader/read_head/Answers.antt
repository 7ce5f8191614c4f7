use Rattle.std.proofs.Common.{◌≡◌, ◌++◌, ℕ, List, length, take, sym, ap, ◌∙◌, inl, inr, arith, Err, true, false}
use Rattle.std.specs.Prelude.{◌⊎◌}
use Rattle.std.proofs.lemmas.Result.{err_from_is_err_and}
use Rattle.pysource.specs.Taking.{FoundHead, LineThere, LineLeft}
use Rattle.pysource.specs.Streams.{searches_second}
use Rattle.pysource.specs.Inner.Heads.{Head, FoundHeads}
use Rattle.pysource.specs.declared.buffers.Intake.{Intake}
use Rattle.pysource.specs.declared.line_reader.Reach.TheVariants.{Reading}
use Rattle.pysource.specs.declared.line_reader.StreamFault.{StreamFault}
use Rattle.pysource.specs.declared.line_reader.StreamFault.TheVariants.{UnsupportedEncoding, BomConflict, Read, Memory}
use Rattle.pysource.proofs.TakenBytes.TakingLemmas.{Grows-append, ReadsBytes-whole}
use Rattle.pysource.proofs.LineReading.HeadLemmas.{head_left, head_one, head_two, unread_one, unread_two}
use Rattle.pysource.proofs.line_reader.read_head.Goals as goal

-- a fault at the first line
refused_one : (old i : Intake) (fault : StreamFault) → FoundHead 0 old i (Err fault) → FoundHeads i (Err fault)
refused_one old i Read p = unread_one i p
refused_one old i Memory p = p
refused_one old i (UnsupportedEncoding place) p = p
refused_one old i (BomConflict place) p = p

-- a fault at the second line
refused_two : (first : ℕ) (old mid i : Intake) (t : List ℕ) (fault : StreamFault) → LineThere 0 first old mid ⊎ LineLeft 0 first mid
    → mid.reach ≡ Reading → i.buffer ≡ mid.buffer ++ t → searches_second (take first mid.buffer) ≡ true
    → FoundHead first mid i (Err fault) → FoundHeads i (Err fault)
refused_two first old mid i t Read (inl there) reading e searched p = unread_two first mid i t e there.line searched p
refused_two first old mid i t Read (inr left) reading e searched p = absurd (let f = left.reach in cc)
refused_two first old mid i t Memory found reading e searched p = p
refused_two first old mid i t (UnsupportedEncoding place) found reading e searched p = p
refused_two first old mid i t (BomConflict place) found reading e searched p = p

-- both lines
headed : (first second : ℕ) (old mid i : Intake) (t : List ℕ) → LineThere 0 first old mid ⊎ LineLeft 0 first mid → length old.buffer ≡ 0
    → mid.reach ≡ Reading → i.buffer ≡ mid.buffer ++ t → searches_second (take first mid.buffer) ≡ true
    → LineThere first second mid i ⊎ LineLeft first second i → Head i first second
headed first second old mid i t (inl there) empty reading e searched found =
    head_two first second mid i t e there.line (omega (arith, there.ahead, empty)) reading searched found
headed first second old mid i t (inr left) empty reading e searched found = absurd (let f = left.reach in cc)

-- the first line alone
alone : (first : ℕ) (old mid : Intake) → LineThere 0 first old mid ⊎ LineLeft 0 first mid → length old.buffer ≡ 0 → mid.reach ≡ Reading
    → searches_second (take first mid.buffer) ≡ false → Head mid first first
alone first old mid (inl there) empty reading none = head_one first old mid there empty reading none
alone first old mid (inr left) empty reading none = head_left first mid left

pub returns-in_err-first-clause-found : goal.returns-in_err-first-clause-found
returns-in_err-first-clause-found g c =
    let p = err_from_is_err_and c.from_residual.result c.from_residual.ensures.1 in
    rw (p.1, p.2) (refused_one c.args.intake.now c.head_line.new.intake c.in_err-first.field-0.0 c.in_err-first.ensures.found)

pub returns-in_default-clause-found : goal.returns-in_default-clause-found
returns-in_default-clause-found g c = elim c.in_ok-first.ensures.found [
  | inl there ↦ absurd (c.in_default.not-Reading (there.reach ∙ c.requires.reach))
  | inr left ↦ head_left c.in_ok-first.first c.head_line.new.intake left
]

pub returns-then-not-searches_second-clause-found : goal.returns-then-not-searches_second-clause-found
returns-then-not-searches_second-clause-found g c =
    let none = ap (λ (x : List ℕ). searches_second (take c.in_ok-first.first x)) (sym c.bytes.ensures) ∙ sym c.searches_second.ensures
    ∙ c.if-not-searches_second.true in
    alone c.in_ok-first.first c.args.intake.now c.head_line.new.intake c.in_ok-first.ensures.found
    (ap length c.requires.buffer) c.in-Reading.is none

pub returns-in_err-second-clause-takes : goal.returns-in_err-second-clause-takes
returns-in_err-second-clause-takes g c =
    ReadsBytes-whole c.requires.buffer c.requires.reach c.requires.count (Grows-append c.in-Reading.is c.in_ok-first.ensures.grows
    c.in_err-second.ensures.grows)

pub returns-in_err-second-clause-found : goal.returns-in_err-second-clause-found
returns-in_err-second-clause-found g c =
    let p = err_from_is_err_and c.from_residual-in_err-second.result c.from_residual-in_err-second.ensures.1 in
    let searched = ap (λ (x : List ℕ). searches_second (take c.in_ok-first.first x)) (sym c.bytes.ensures) ∙ sym c.searches_second.ensures
    ∙ c.if-not-searches_second.false in
    rw (p.1, p.2)
    (refused_two c.in_ok-first.first c.args.intake.now c.head_line.new.intake c.head_line-2.new.intake c.in_err-second.ensures.grows.taken
    c.in_err-second.field-0.0
    c.in_ok-first.ensures.found c.in-Reading.is c.in_err-second.ensures.grows.bytes searched c.in_err-second.ensures.found)

pub returns-clause-takes : goal.returns-clause-takes
returns-clause-takes g c =
    ReadsBytes-whole c.requires.buffer c.requires.reach c.requires.count (Grows-append c.in-Reading.is c.in_ok-first.ensures.grows
    c.in_ok-second.ensures.grows)

pub returns-clause-found : goal.returns-clause-found
returns-clause-found g c =
    let searched = ap (λ (x : List ℕ). searches_second (take c.in_ok-first.first x)) (sym c.bytes.ensures) ∙ sym c.searches_second.ensures
    ∙ c.if-not-searches_second.false in
    headed c.in_ok-first.first c.in_ok-second.second c.args.intake.now c.head_line.new.intake c.head_line-2.new.intake
    c.in_ok-second.ensures.grows.taken
    c.in_ok-first.ensures.found (ap length c.requires.buffer) c.in-Reading.is c.in_ok-second.ensures.grows.bytes searched
    c.in_ok-second.ensures.found
