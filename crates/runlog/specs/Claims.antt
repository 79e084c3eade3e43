-- Records and logs said a second time, by their bytes.
use Rattle.std.specs.Prelude.{◌≡◌, ◌≢◌, ◌⊎◌, true, false, List, [], ◌∷◌, ◌++◌, ℕ, ◌+◌, ◌/◌, ◌%◌, ◌≤◌, ◌<◌, length, take, drop, Some}
use Rattle.std.specs.Option.{option_map}
use Rattle.words.specs.Bytes.{Small}
use Rattle.runlog.specs.declared.record.Record.{Record}
use Rattle.runlog.specs.declared.record.Record.TheVariants.{Start, Step, Cut}
use Rattle.runlog.specs.Record.{kind_of, record_at, taken_at}
use Rattle.runlog.specs.Log.{log_of}

-- a number in two bytes and in four, the least first
abbrev pub two_bytes : ℕ → List ℕ
two_bytes n = n % 256 ∷ n / 256 % 256 ∷ []

abbrev pub four_bytes : ℕ → List ℕ
four_bytes n = n % 256 ∷ n / 256 % 256 ∷ n / 65536 % 256 ∷ n / 16777216 % 256 ∷ []

-- the bytes of a record: length, kind, and the kind's fields
abbrev pub bytes_of : Record → List ℕ
bytes_of (Start lane sector) = 10 ∷ 0 ∷ 1 ∷ 0 ∷ (two_bytes lane.0 ++ four_bytes sector.0)
bytes_of (Step lane) = 6 ∷ 0 ∷ 2 ∷ 0 ∷ two_bytes lane.0
bytes_of Cut = 4 ∷ 0 ∷ 3 ∷ 0 ∷ []

-- a record whose fields fit in their bytes
abbrev pub Fits : Record → Type 0
Fits (Start lane sector) = (lane.0 < 65536) × (sector.0 < 4294967296)
Fits (Step lane) = lane.0 < 65536
Fits Cut = Unit {0}

-- the bytes of a record stand at an offset
abbrev pub StandsAt : List ℕ → ℕ → Record → Type 0
StandsAt log at r = take (length (bytes_of r)) (drop at log) ≡ bytes_of r

pub record RecordClaim : Type 0 where
  -- a record is found where its bytes stand, and nothing else is found than what stands there
  pub found : (log : List ℕ) (at : ℕ) (r : Record) → Fits r → StandsAt log at r → record_at log at ≡ Some r
  pub stands : (log : List ℕ) (at : ℕ) (r : Record) → Small log → record_at log at ≡ Some r → Fits r × StandsAt log at r
  -- a record begins with its length and its kind
  pub head : (r : Record) → Fits r → take 4 (bytes_of r) ≡ two_bytes (length (bytes_of r)) ++ two_bytes (kind_of r)
  -- it is taken, and the place after it is after its bytes; where no record stands none is
  pub taken : (log : List ℕ) (at : ℕ) → taken_at log at ≡ option_map (λ r. record { found = r; after = at + length (bytes_of r) }) (record_at log at)

-- the bytes of records, one after another
unfoldable pub all_bytes : List Record → List ℕ
all_bytes [] = []
all_bytes (r ∷ rs) = bytes_of r ++ all_bytes rs

unfoldable pub AllFit : List Record → Type 0
AllFit [] = Unit {0}
AllFit (r ∷ rs) = Fits r × AllFit rs

-- no record begins these bytes
abbrev pub BeginsNone : List ℕ → Type 0
BeginsNone bytes = (r : Record) → Fits r → StandsAt bytes 0 r → ⊥

pub record LogClaim : Type 0 where
  -- the bytes of some records are those records, and end there
  pub whole : (rs : List Record) → AllFit rs → length (all_bytes rs) ≤ 8192
      → log_of (all_bytes rs) ≡ record { records = rs; stopped = false; at = length (all_bytes rs) }
  -- with bytes after them that begin no record, these records run, and the log is refused where those bytes begin
  pub damaged : (rs : List Record) (rest : List ℕ) → AllFit rs → Small rest → rest ≢ [] → BeginsNone rest → length (all_bytes rs ++ rest) ≤ 8192
      → log_of (all_bytes rs ++ rest) ≡ record { records = rs; stopped = true; at = length (all_bytes rs) }
  -- there are no other logs: each is its records' bytes, and then nothing or bytes that begin no record
  pub every : (log : List ℕ) → Small log → length log ≤ 8192
      → AllFit (log_of log).records × (log ≡ all_bytes (log_of log).records ++ drop (log_of log).at log)
      × ((drop (log_of log).at log ≡ []) ⊎ BeginsNone (drop (log_of log).at log))
  -- a longer log is refused at 0, and no record of it runs
  pub longer : (log : List ℕ) → 8192 < length log → log_of log ≡ record { records = []; stopped = true; at = 0 }
  -- a record has four bytes or more, so at most 2,048 run
  pub few : (log : List ℕ) → length (log_of log).records ≤ 2048
  -- a log that meets the premises: a start on lane 259 to sector 16,909,060, a step on that lane, a cut, and two bytes that begin no record
  pub example : log_of (10 ∷ 0 ∷ 1 ∷ 0 ∷ 3 ∷ 1 ∷ 4 ∷ 3 ∷ 2 ∷ 1 ∷ 6 ∷ 0 ∷ 2 ∷ 0 ∷ 3 ∷ 1 ∷ 4 ∷ 0 ∷ 3 ∷ 0 ∷ 6 ∷ 0 ∷ [])
      ≡ record { records = Start (record { 0 = 259 }) (record { 0 = 16909060 }) ∷ Step (record { 0 = 259 }) ∷ Cut ∷ []; stopped = true; at = 20 }
  pub begins_none : BeginsNone (6 ∷ 0 ∷ [])
