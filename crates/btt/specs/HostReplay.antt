-- What a replay through the library is, in words: by its first opening, the log's records, and a history of calls and openings.
use Rattle.std.specs.Prelude.{◌≡◌, ◌≢◌, true, false, List, ℕ, ◌≤◌, ◌<◌, length, get_or}
use Rattle.words.specs.Bytes.{Small}
use Rattle.layout.specs.Told.{alone_near}
use Rattle.machine.specs.calls.Opening.{open_of}
use Rattle.runlog.specs.Log.{log_of}
use Rattle.replaying.specs.Replay.{own_table, room_of}
use Rattle.replaying.specs.Claims.{last, replies}
use Rattle.btt.specs.Replay.{HostReplay, btt_replay_of}

-- the first opening is refused: no record runs, and the work buffer is as the opening leaves it
pub record NothingRan (a room buffer : List ℕ) (r : HostReplay) : Type 0 where
  pub number : r.number ≡ (open_of alone_near a (room_of room own_table)).number
  pub records : r.records ≡ 0
  pub stopped : r.stopped ≡ 0
  pub arena : r.arena ≡ a
  pub work : r.work ≡ (open_of alone_near a (room_of room own_table)).work
  pub answers : r.answers ≡ buffer

-- the first opening is accepted
pub record RecordsRan (a room log buffer : List ℕ) (r : HostReplay) : Type 0 where
  -- 0 where the log is its records and nothing else; 20, and the offset, where a record is refused, and of a longer log none runs
  pub whole : (log_of log).stopped ≡ false → (r.number ≡ 0) × (r.stopped ≡ 0)
  pub refused : (log_of log).stopped ≡ true → (r.number ≡ 20) × (r.stopped ≡ (log_of log).at)
  pub longer : 8192 < length log → (r.number ≡ 20) × (r.stopped ≡ 0) × (r.records ≡ 0)
  -- every record before that ran, and its answer is in the buffer if it fits; the other bytes are as they came
  pub records : r.records ≡ length (log_of log).records
  pub few : r.records ≤ 2048
  pub size : length r.answers ≡ length buffer
  pub answered : (i : ℕ) → i < r.records → i < length buffer → get_or r.answers i 0 ≡ get_or (replies a room log) i 0
  pub unused : (i : ℕ) → r.records ≤ i → get_or r.answers i 0 ≡ get_or buffer i 0
  -- the arena is the history's, the work buffer the first opening's
  pub arena : r.arena ≡ (last a room log).arena
  pub work : r.work ≡ (open_of alone_near a (room_of room own_table)).work

-- for any bytes lent; the table of the lanes is the replay's own, so that it never answers 21
pub record HostReplayClaim : Type 0 where
  pub own-table : (a work log answers : List ℕ) → (btt_replay_of a work log answers).number ≢ 21
  pub refused : (a work log answers : List ℕ) → (open_of alone_near a (room_of work own_table)).number ≢ 0
      → NothingRan a work answers (btt_replay_of a work log answers)
  pub accepted : (a work log answers : List ℕ) → Small a → Small work → Small log → (open_of alone_near a (room_of work own_table)).number ≡ 0
      → RecordsRan a work log answers (btt_replay_of a work log answers)
