-- What is written, by the arena's length, its opening and the log's records; and what is lent to an opening is always long enough.
use Rattle.std.specs.Prelude.{◌≡◌, ◌≢◌, false, List, [], ◌∷◌, ℕ, ◌≤◌, ◌<◌, length}
use Rattle.words.specs.Bytes.{Small}
use Rattle.layout.specs.Told.{alone_near}
use Rattle.machine.specs.calls.Opening.{Room, open_of}
use Rattle.machine.specs.claims.Exhibit.{exhibit_found}
use Rattle.runlog.specs.Log.{log_of}
use Rattle.replaying.specs.Replay.{own_table}
use Rattle.replaying.specs.Claims.{last, replies}
use Rattle.text.specs.Replay.{replay_text}
use Rattle.replay.specs.Transcript.{work_buffer, lent, transcript_of}

-- the work buffer suffices for every arena that is opened, at the first opening and, with any bytes in it, at a cut: 5 is never written
abbrev pub WorkSuffices : Type 0
WorkSuffices = (a : List ℕ) (room : Room) → length a ≤ 49152 → length room.work ≡ length work_buffer → (open_of alone_near a room).number ≢ 5

-- nor is 21, at the first opening and at a cut: the replay's own table has as many records as there may be lanes, whatever calls left in them
abbrev pub TableSuffices : Type 0
TableSuffices = (a : List ℕ) (room : Room) → length room.table ≡ length own_table → (open_of alone_near a room).number ≢ 21

pub record TranscriptClaim : Type 0 where
  -- more than 49,152 bytes are "refused 1", and the arena is as it was
  pub longer : (a log : List ℕ) → 49152 < length a
      → transcript_of a log ≡ record { text = 114 ∷ 101 ∷ 102 ∷ 117 ∷ 115 ∷ 101 ∷ 100 ∷ 32 ∷ 49 ∷ 10 ∷ []; arena = a }
  -- one that does not open is refused with the opening's number, and is as it was
  pub refused : (a log : List ℕ) → length a ≤ 49152 → (open_of alone_near a lent).number ≢ 0
      → transcript_of a log ≡ record { text = replay_text (open_of alone_near a lent).number [] false 0; arena = a }
  -- of any other, what each record answers as a call or an opening after the first, and where the log is refused, if it is; the arena is as
  -- these calls and openings leave it
  pub replayed : (a log : List ℕ) → length a ≤ 49152 → Small a → Small log → (open_of alone_near a lent).number ≡ 0
      → transcript_of a log
      ≡ record { text = replay_text 0 (replies a work_buffer log) (log_of log).stopped (log_of log).at; arena = (last a work_buffer log).arena }
  -- an arena of which that is so: the one of case 9
  pub exhibited : (length exhibit_found ≡ 49152) × Small exhibit_found × ((open_of alone_near exhibit_found lent).number ≡ 0)
