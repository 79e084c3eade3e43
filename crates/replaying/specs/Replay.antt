-- A replay: the first opening, then for each record of the log one of the machine's own calls.
use Rattle.std.specs.Prelude.{Bool, false, cond, List, [], ◌∷◌, ℕ, zero, suc, ◌/◌, eqb, take, replicate}
use Rattle.words.specs.Word.{put_words}
use Rattle.layout.specs.Sizes.{max_size}
use Rattle.layout.specs.Told.{alone_near}
use Rattle.layout.specs.Figures.{max_lanes}
use Rattle.machine.specs.declared.lane.Lane.{Lane}
use Rattle.machine.specs.state.Lane.{no_lane}
use Rattle.machine.specs.state.Handle.{Handle}
use Rattle.machine.specs.calls.Opening.{Room, Opening, open_of}
use Rattle.machine.specs.calls.Writing.{Outcome, start_of, step_of}
use Rattle.runlog.specs.declared.record.Record.{Record}
use Rattle.runlog.specs.declared.record.Record.TheVariants.{Start, Step, Cut}
use Rattle.runlog.specs.Log.{Log, log_of}

-- ---- the sector that a step lends

-- n numbers from i on
unfoldable pub rising : ℕ → ℕ → List ℕ
rising i zero = []
rising i (suc n) = i ∷ rising (suc i) n

-- a buffer of the largest sector's length with the words from i on
abbrev pub words_for : ℕ → List ℕ → List ℕ
words_for i buffer = put_words buffer 0 (rising i (max_size / 4))

-- the step of record i: word k is i + k
abbrev pub step_bytes : ℕ → ℕ → List ℕ
step_bytes size i = take size (words_for i (replicate max_size 0))

-- ---- one record

-- where a replay stands between two records; its table is the handle's
pub record Point : Type 0 where
  pub arena : List ℕ
  pub work : List ℕ
  pub handle : Handle

-- its own table, with a record for each lane that there may be
abbrev pub own_table : List Lane
own_table = replicate max_lanes no_lane

-- what it lends to an opening
abbrev pub room_of : List ℕ → List Lane → Room
room_of work table = record { work = work; table = table }

-- an opening leaves its handle and table, or after a refusal a handle of all zeroes
abbrev pub opened_point : Opening → Point
opened_point o = record { arena = o.arena; work = o.work; handle = o.handle }

abbrev pub outcome_point : List ℕ → Outcome → Point
outcome_point work o = record { arena = o.arena; work = work; handle = o.handle }

-- what record i leaves
abbrev pub ran : ℕ → Point → Record → Point
ran i x (Start l s) = outcome_point x.work (start_of x.arena x.handle l.0 s.0)
ran i x (Step l) = outcome_point x.work (step_of x.arena x.handle l.0 (step_bytes x.handle.figures.size i))
ran i x Cut = opened_point (open_of alone_near x.arena (room_of x.work x.handle.table))

-- what record i answers
abbrev pub answered : ℕ → Point → Record → ℕ
answered i x (Start l s) = (start_of x.arena x.handle l.0 s.0).number
answered i x (Step l) = (step_of x.arena x.handle l.0 (step_bytes x.handle.figures.size i)).number
answered i x Cut = (open_of alone_near x.arena (room_of x.work x.handle.table)).number

-- ---- all records, from index i on; a refused one does not end the replay

unfoldable pub run_all : ℕ → Point → List Record → Point
run_all i x [] = x
run_all i x (r ∷ rs) = run_all (suc i) (ran i x r) rs

unfoldable pub answers_all : ℕ → Point → List Record → List ℕ
answers_all i x [] = []
answers_all i x (r ∷ rs) = answered i x r ∷ answers_all (suc i) (ran i x r) rs

-- ---- a replay

pub record Replay : Type 0 where
  -- the first opening's number, and an answer for each record that ran
  pub first : ℕ
  pub numbers : List ℕ
  -- whether it ended with 20, and at which offset
  pub stopped : Bool
  pub at : ℕ
  pub arena : List ℕ
  pub work : List ℕ

-- the records of a log, run from a point on
abbrev pub replay_from : Log → Point → Replay
replay_from log x =
    let end = run_all 0 x log.records in
    record {
      first = 0;
      numbers = answers_all 0 x log.records;
      stopped = log.stopped;
      at = cond log.stopped log.at 0;
      arena = end.arena;
      work = end.work;
    }

-- no record runs where the first opening is refused
unfoldable pub replay_of : List ℕ → List ℕ → List ℕ → Replay
replay_of a work log =
    let o = open_of alone_near a (room_of work own_table) in
    cond (eqb o.number 0) (replay_from (log_of log) (opened_point o))
    (record { first = o.number; numbers = []; stopped = false; at = 0; arena = o.arena; work = o.work })
