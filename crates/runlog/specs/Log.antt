-- A whole run log: its records, and where it ends or is refused.
use Rattle.std.specs.Prelude.{Bool, true, false, cond, List, [], ◌∷◌, ℕ, zero, suc, ◌+◌, ◌-◌, leb, length, Option, Some, None}
use Rattle.runlog.specs.declared.record.Record.{Record}
use Rattle.runlog.specs.Record.{length_of, record_at}

-- the records that run, and the offset after them: the log's end, or where no record stands
pub record Log : Type 0 where
  pub records : List Record
  pub stopped : Bool
  pub at : ℕ

abbrev pub ended : ℕ → Log
ended at = record { records = []; stopped = false; at = at }

abbrev pub stopped_at : ℕ → Log
stopped_at at = record { records = []; stopped = true; at = at }

-- one record before a log
abbrev pub after : Record → Log → Log
after r log = record { records = r ∷ log.records; stopped = log.stopped; at = log.at }

-- what an offset's record begins: the log after it by that function, or a stop where there is none
abbrev pub begun : (ℕ → Log) → ℕ → Option Record → Log
begun from at None = stopped_at at
begun from at (Some r) = after r (from (at + length_of r))

-- at most n records from an offset on
unfoldable pub up_to : ℕ → List ℕ → ℕ → Log
up_to zero log at = ended at
up_to (suc n) log at =
    cond (leb (length log) at) (ended at) (begun (up_to n log) at (record_at log at))

-- every record from an offset on: each has a byte or more, so there are at most as many as bytes
abbrev pub log_from : List ℕ → ℕ → Log
log_from log at = up_to (suc (length log - at)) log at

-- the longest log that is replayed, in bytes
abbrev pub max_log : ℕ
max_log = 8192

-- a log; a longer one is refused at 0
unfoldable pub log_of : List ℕ → Log
log_of log = cond (leb (length log) max_log) (log_from log 0) (stopped_at 0)
