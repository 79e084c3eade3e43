-- A log by the bytes of its records: each record's bytes take the log on to the next, and the rest begins no record.
use mathlib.Core.Path.{◌≡◌, refl, sym, ap, subst, ◌∙◌}
use mathlib.Core.Logic.{◌≢◌, ◌⊎◌, inl, inr}
use mathlib.Core.Bool.{true, false}
use mathlib.Core.List.{List, [], ◌∷◌, ◌++◌, append-nil, append_assoc}
use Prim.Native.Nat.{ℕ, zero, suc, ◌+◌, ◌-◌, ◌*◌, ◌≤◌, ◌<◌}
use native.Mathlib.Omega.{arith}
use native.Mathlib.Nat.{zero-add}
use lib.Dec.{leb}
use borrow.Author.Tests.{le-leb, lt-leb, leb-true, leb-false}
use lib.ListN.{length, get_or, take, drop, length-append, length-take, length-drop, drop_of_length-le, take-append-drop}
use lib.Seq.{take-append_seam, drop-append_seam, drop-drop, get_or-append-add}
use Rattle.std.specs.Prelude.{Option, Some, None}
use Rattle.std.specs.Option.{option_map}
use Rattle.words.specs.Bytes.{Small}
use Rattle.format.proofs.Tests.{by_bool}
use Rattle.runlog.specs.declared.record.Record.{Record}
use Rattle.runlog.specs.declared.record.Record.TheVariants.{Start, Step, Cut}
use Rattle.runlog.specs.Record.{kind_of, length_of, record_at}
use Rattle.runlog.specs.Log.{Log, stopped_at, after, up_to, log_from, max_log, log_of}
use Rattle.runlog.specs.Claims.{two_bytes, bytes_of, Fits, RecordClaim, all_bytes, AllFit, BeginsNone, LogClaim}
use Rattle.runlog.proofs.Laws.{record_in, log_end, log_stop, log_more}
use Rattle.runlog.proofs.Bytes.{found_at, stands_at}

-- a record has as many bytes as its length says, and they begin with its length and its kind
sizes : (r : Record) → length (bytes_of r) ≡ length_of r
sizes (Start lane sector) = refl
sizes (Step lane) = refl
sizes Cut = refl

heads : (r : Record) → Fits r → take 4 (bytes_of r) ≡ two_bytes (length (bytes_of r)) ++ two_bytes (kind_of r)
heads (Start lane sector) f = refl
heads (Step lane) f = refl
heads Cut f = refl

-- a record has four bytes or more
four_or_more : (r : Record) → 4 ≤ length_of r
four_or_more (Start lane sector) = omega arith
four_or_more (Step lane) = omega arith
four_or_more Cut = omega arith

-- the records of a log that are known, before the rest of it
abbrev before : List Record → Log → Log
before rs log = record { records = rs ++ log.records; stopped = log.stopped; at = log.at }

-- the bytes of records from an offset on are those records
run_on : (rs : List Record) (rest log : List ℕ) (at : ℕ) → AllFit rs → drop at log ≡ all_bytes rs ++ rest
    → log_from log at ≡ before rs (log_from log (at + length (all_bytes rs)))
unfolding AllFit all_bytes
run_on [] rest log at f e = let z : at + 0 ≡ at = omega arith in rw z
run_on (r ∷ rs) rest log at f e =
    let n = length (bytes_of r) in
    let here : drop at log ≡ bytes_of r ++ (all_bytes rs ++ rest) = e ∙ append_assoc (bytes_of r) (all_bytes rs) rest in
    let is_r : record_at log at ≡ Some r = found_at log at r f.0 (ap (take n) here ∙ take-append_seam (bytes_of r) (all_bytes rs ++ rest)) in
    let long_enough = four_or_more r in
    let size = sizes r in
    let long = simp (length-drop, length-append) at (ap length here) in
    let next : drop (at + n) log ≡ all_bytes rs ++ rest
    = sym (drop-drop n at log) ∙ (ap (drop n) here ∙ drop-append_seam (bytes_of r) (all_bytes rs ++ rest)) in
    let there : at + n + length (all_bytes rs) ≡ at + length (bytes_of r ++ all_bytes rs) = rw length-append (omega arith) in
    log_more log at r (omega arith) is_r
    ∙ (ap (λ (m : ℕ). after r (log_from log (at + m))) (sym size)
    ∙ (ap (after r) (run_on rs rest log (at + n) f.1 next) ∙ ap (λ (m : ℕ). before (r ∷ rs) (log_from log m)) there))

log_whole : (rs : List Record) → AllFit rs → length (all_bytes rs) ≤ 8192
    → log_of (all_bytes rs) ≡ record { records = rs; stopped = false; at = length (all_bytes rs) }
unfolding log_of
log_whole rs f h =
    let log = all_bytes rs in
    rw (le-leb (length log) max_log (omega arith))
    (run_on rs [] log 0 f (sym (append-nil log)) ∙ rw (zero-add, log_end log (length log) (omega arith), append-nil))

-- a fact, by what stands at an offset
by_record : {P : Type 0} (log : List ℕ) (at : ℕ) → (record_at log at ≡ None → P) → ((r : Record) → record_at log at ≡ Some r → P) → P
by_record {P} log at none some = found (record_at log at) refl
  where
    found : (o : Option Record) → record_at log at ≡ o → P
    found None e = none e
    found (Some r) e = some r e

-- no record is found where none begins
none-begins : (log : List ℕ) (at : ℕ) → ((j : ℕ) → get_or log (at + j) 0 < 256) → BeginsNone (drop at log) → record_at log at ≡ None
none-begins log at small none = by_record log at (λ e. e) (λ r e. let s = stands_at log at small r e in absurd (none r s.0 s.1))

some_bytes : (bytes : List ℕ) → bytes ≢ [] → 0 < length bytes
some_bytes [] n = absurd (n refl)
some_bytes (b ∷ bytes) n = omega arith

log_damaged : (rs : List Record) (rest : List ℕ) → AllFit rs → Small rest → rest ≢ [] → BeginsNone rest → length (all_bytes rs ++ rest) ≤ 8192
    → log_of (all_bytes rs ++ rest) ≡ record { records = rs; stopped = true; at = length (all_bytes rs) }
unfolding log_of
log_damaged rs rest f small some none h =
    let log = all_bytes rs ++ rest in
    let n = length (all_bytes rs) in
    let here : drop n log ≡ rest = drop-append_seam (all_bytes rs) rest in
    let left = some_bytes rest some in
    let stop = log_stop log n (omega (arith, length-append (all_bytes rs) rest))
    (none-begins log n (λ j. rw get_or-append-add (small j)) (subst BeginsNone (sym here) none)) in
    rw (le-leb (length log) max_log (omega arith)) (run_on rs rest log 0 f refl ∙ rw (zero-add, stop, append-nil))

-- what a log is from an offset on: the bytes of its records, and then nothing or bytes that begin no record
abbrev Parts : List ℕ → ℕ → Log → Type 0
Parts log at l =
    AllFit l.records × (drop at log ≡ all_bytes l.records ++ drop l.at log)
    × ((drop l.at log ≡ []) ⊎ BeginsNone (drop l.at log))

every_from : (n : ℕ) (log : List ℕ) (at : ℕ) → Small log → length log - at < n → Parts log at (log_from log at)
unfolding AllFit all_bytes
every_from zero log at small h = absurd (omega arith)
every_from (suc n) log at small h =
    by_bool (leb (length log) at) _
    (λ t. let l = leb-true (length log) at t in
    subst (Parts log at) (sym (log_end log at l)) (tt, refl, inl (drop_of_length-le log l)))
    (λ t. let l = leb-false (length log) at t in
    by_record log at
    (λ e. subst (Parts log at) (sym (log_stop log at l e)) (tt, refl, inr (λ r f s. let is_r = found_at log at r f s in absurd cc)))
    (λ r e. let s = stands_at log at (λ j. small (at + j)) r e in
    let k = length (bytes_of r) in
    let size : k ≡ length_of r = sizes r in
    let in_log = record_in log at r e in
    let rest = every_from n log (at + length_of r) small (omega arith) in
    let split : drop at log ≡ bytes_of r ++ drop (at + length_of r) log
    = sym (take-append-drop k (drop at log)) ∙ (rw (s.1, drop-drop, size)) in
    subst (Parts log at) (sym (log_more log at r l e))
    ((s.0, rest.0), split ∙ (ap (λ (bs : List ℕ). bytes_of r ++ bs) rest.1 ∙ sym (append_assoc (bytes_of r) _ _)), rest.2)))

log_longer : (log : List ℕ) → 8192 < length log → log_of log ≡ stopped_at 0
unfolding log_of
log_longer log h = rw (lt-leb (length log) max_log (omega arith))

log_every : (log : List ℕ) → Small log → length log ≤ 8192 → Parts log 0 (log_of log)
unfolding log_of
log_every log small h = rw (le-leb (length log) max_log (omega arith)) (every_from (suc (length log)) log 0 small (omega arith))

-- the records from an offset on have four bytes each before the offset where they end
abbrev Within : List ℕ → ℕ → Log → Type 0
Within log at l = (at + 4 * length l.records ≤ l.at) × (l.at ≤ length log)

within : (n : ℕ) (log : List ℕ) (at : ℕ) → at ≤ length log → Within log at (up_to n log at)
unfolding up_to
within zero log at h = (omega arith, h)
within (suc n) log at h =
    by_bool (leb (length log) at) _ (λ t. rw t (omega arith, h))
    (λ t. by_record log at (λ e. rw (t, e) (omega arith, h))
    (λ r e. let in_log = record_in log at r e in
    let rest = within n log (at + length_of r) in_log.0 in
    rw (t, e) (omega (arith, in_log.1, rest.0), rest.1)))

few : (log : List ℕ) (l : Log) → Within log 0 l → length log ≤ 8192 → (length l.records ≤ 2048) × (l.at ≤ 8192)
few log l w h = (omega (arith, w.0, w.1), omega (arith, w.1))

-- how many records run, and where they end
pub log_within : (log : List ℕ) → (length (log_of log).records ≤ 2048) × ((log_of log).at ≤ 8192)
unfolding log_of
log_within log =
    by_bool (leb (length log) max_log) _
    (λ t. rw t (few log (log_from log 0) (within (suc (length log - 0)) log 0 (omega arith)) (leb-true (length log) max_log t)))
    (λ t. rw t (omega arith, omega arith))

-- two bytes are too few for a record
two_begin_none : BeginsNone (6 ∷ 0 ∷ [])
two_begin_none r f s = let long_enough = four_or_more r in omega (arith, sizes r, ap length s, length-take {A = ℕ} (length (bytes_of r)) (6 ∷ 0 ∷ []))

pub record_claim : RecordClaim
record_claim = record {
  found = found_at;
  stands = λ log at r small. stands_at log at (λ j. small (at + j)) r;
  head = heads;
  taken = λ log at. ap (λ (f : Record → ℕ). option_map (λ r. record { found = r; after = at + f r }) (record_at log at)) (λ i r. sym (sizes r) i);
}

pub log_claim : LogClaim
unfolding record_at up_to log_of
log_claim = record {
  whole = log_whole;
  damaged = log_damaged;
  every = log_every;
  longer = log_longer;
  few = λ log. (log_within log).0;
  example = refl;
  begins_none = two_begin_none;
}
