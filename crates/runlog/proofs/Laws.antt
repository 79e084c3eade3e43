-- What stands at an offset, by cases, and a whole log by its first record.
use mathlib.Core.Path.{◌≡◌, refl, ap, subst}
use mathlib.Core.Bool.{Bool, true, false, cond, ◌&&◌}
use mathlib.Core.List.{List}
use Rattle.std.specs.Prelude.{Option, Some, None}
use Prim.Native.Nat.{ℕ, zero, suc, ◌+◌, ◌-◌, ◌≤◌, ◌<◌}
use native.Mathlib.Omega.{arith}
use lib.Dec.{eqb, ltb, leb}
use lib.ListN.{length}
use borrow.Author.Tests.{le-leb, lt-leb, le-ltb, leb-false, ltb-false, eqb-true}
use Rattle.words.specs.Bytes.{byte_word}
use Rattle.format.proofs.Tests.{by_bool, and_elim}
use Rattle.runlog.specs.declared.record.Record.{Record}
use Rattle.runlog.specs.declared.record.Record.TheVariants.{Start, Step, Cut}
use Rattle.runlog.specs.Record.{byte_half, kind_of, length_of, named, record_at}
use Rattle.runlog.specs.Log.{Log, ended, stopped_at, after, begun, up_to, log_from}

-- a fact of a choice, by its test
on_cond : (P : Option Record → Type 0) (t : Bool) (a b : Option Record) → (t ≡ true → P a) → (t ≡ false → P b) → P (cond t a b)
on_cond P true a b f g = f refl
on_cond P false a b f g = g refl

-- two tests as one, and the numbers that they find
both : (k n a b : ℕ) → eqb k a && eqb n b ≡ true → (n ≡ b) × (k ≡ a)
both k n a b e =
    let p = and_elim (eqb k a) (eqb n b) e in
    (eqb-true n b p.1, eqb-true k a p.0)

-- the records that may stand at an offset, with the fields that stand there
abbrev start_at : List ℕ → ℕ → Record
start_at log at = Start (record { 0 = byte_half log (at + 4) }) (record { 0 = byte_word log (at + 6) })

abbrev step_at : List ℕ → ℕ → Record
step_at log at = Step (record { 0 = byte_half log (at + 4) })

-- a record's head stands at an offset, with room for the record
abbrev HeadAt : List ℕ → ℕ → Record → Type 0
HeadAt log at r = (at + length_of r ≤ length log) × (byte_half log at ≡ length_of r) × (byte_half log (at + 2) ≡ kind_of r)

-- a fact of the record at an offset: it holds of none, and of each kind whose head stands there
pub record_cases : (P : Option Record → Type 0) (log : List ℕ) (at : ℕ) → P None
    → (HeadAt log at (start_at log at) → P (Some (start_at log at))) → (HeadAt log at (step_at log at) → P (Some (step_at log at)))
    → (HeadAt log at Cut → P (Some Cut)) → P (record_at log at)
unfolding record_at
record_cases P log at none start step cut =
    on_cond P (ltb (length log) (at + 4)) None _ (λ _. none)
    (λ _. on_cond P (ltb (length log) (at + n)) None (named log at n k) (λ _. none)
    (λ f. let room = ltb-false (length log) (at + n) f in
    on_cond P (is (start_at log at)) _ _ (λ e. start (head (start_at log at) room e))
    (λ _. on_cond P (is (step_at log at)) _ _ (λ e. step (head (step_at log at) room e))
    (λ _. on_cond P (is Cut) (Some Cut) None (λ e. cut (head Cut room e)) (λ _. none)))))
  where
    n : ℕ
    n = byte_half log at

    k : ℕ
    k = byte_half log (at + 2)

    is : Record → Bool
    is r = eqb k (kind_of r) && eqb n (length_of r)

    head : (r : Record) → at + n ≤ length log → is r ≡ true → HeadAt log at r
    head r room e =
        let q = both k n (kind_of r) (length_of r) e in
        (rw q.0 at room, q.0, q.1)

-- a head of length n and kind k, with room for n bytes: the record is what they name
pub record_named : (log : List ℕ) (at n k : ℕ) (r : Option Record) → n ≡ byte_half log at → k ≡ byte_half log (at + 2)
    → at + 4 ≤ length log → at + n ≤ length log → r ≡ named log at n k → r ≡ record_at log at
unfolding record_at
record_named log at n k r is-n is-k head room e =
    rw (le-ltb (length log) (at + 4) head, ← is-n, le-ltb (length log) (at + n) room, ← is-k) e

-- a record lies within the log, and has four bytes or more
pub record_in : (log : List ℕ) (at : ℕ) (r : Record) → record_at log at ≡ Some r → (at + length_of r ≤ length log) × (4 ≤ length_of r)
record_in log at r =
    record_cases (λ o. o ≡ Some r → (at + length_of r ≤ length log) × (4 ≤ length_of r)) log at (λ e. absurd cc)
    (λ h e. within (start_at log at) h (omega arith) cc) (λ h e. within (step_at log at) h (omega arith) cc) (λ h e. within Cut h (omega arith) cc)
  where
    within : (q : Record) → HeadAt log at q → 4 ≤ length_of q → q ≡ r → (at + length_of r ≤ length log) × (4 ≤ length_of r)
    within q h l e = subst (λ (x : Record). (at + length_of x ≤ length log) × (4 ≤ length_of x)) e (h.0, l)

-- what a record begins is the same by two functions that agree on what is after it
same_begun : (f g : ℕ → Log) (at : ℕ) (o : Option Record) → ((r : Record) → o ≡ Some r → f (at + length_of r) ≡ g (at + length_of r))
    → begun f at o ≡ begun g at o
same_begun f g at None e = refl
same_begun f g at (Some r) e = ap (after r) (e r refl)

-- the count does not matter once it is above the bytes that are left
up_to_enough : (n m : ℕ) (log : List ℕ) (at : ℕ) → length log - at < n → length log - at < m → up_to n log at ≡ up_to m log at
unfolding up_to
up_to_enough zero m log at h l = absurd (omega arith)
up_to_enough (suc n) zero log at h l = absurd (omega arith)
up_to_enough (suc n) (suc m) log at h l =
    by_bool (leb (length log) at) _ (λ t. rw t refl)
    (λ t. let less = leb-false (length log) at t in
    ap (cond (leb (length log) at) (ended at)) (same_begun (up_to n log) (up_to m log) at (record_at log at)
    (λ r e. let in_log = record_in log at r e in up_to_enough n m log (at + length_of r) (omega arith) (omega arith))))

-- a log ends where its bytes do
pub log_end : (log : List ℕ) (at : ℕ) → length log ≤ at → log_from log at ≡ ended at
unfolding up_to
log_end log at h = rw (le-leb (length log) at h)

-- it stops where no record stands
pub log_stop : (log : List ℕ) (at : ℕ) → at < length log → record_at log at ≡ None → log_from log at ≡ stopped_at at
unfolding up_to
log_stop log at h e = rw (lt-leb (length log) at h, e)

-- else it is its first record and the log after it
pub log_more : (log : List ℕ) (at : ℕ) (r : Record) → at < length log → record_at log at ≡ Some r
    → log_from log at ≡ after r (log_from log (at + length_of r))
unfolding up_to
log_more log at r h e =
    let in_log = record_in log at r e in
    let rest = at + length_of r in
    rw (lt-leb (length log) at h, e)
    (ap (after r) (up_to_enough (length log - at) (suc (length log - rest)) log rest (omega arith) (omega arith)))
