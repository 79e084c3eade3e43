-- What a replay gave, in the form of its definition.
use Rattle.std.specs.Prelude.{Bool, false, cond, List, [], ◌∷◌, ◌++◌, ℕ, suc, length, take, drop, set, is_some, unwrap_or, Result, Ok, Err}
use Rattle.machine.specs.declared.handle.Handle as bare
use Rattle.machine.specs.declared.lane.Lane.{Lane}
use Rattle.machine.specs.declared.refusal.Refusal.{Refusal}
use Rattle.machine.specs.state.Answer.{refusal_number}
use Rattle.machine.specs.state.Handle.{with}
use Rattle.runlog.specs.Log.{Log, log_from}
use Rattle.replaying.specs.declared.Replayed.{Replayed}
use Rattle.replaying.specs.Replay.{Point, Replay, run_all, answers_all}

-- lent bytes, a handle and a table, as a point
abbrev pub point_at : List ℕ → List ℕ → bare.Handle → List Lane → Point
point_at arena work h table = record { arena = arena; work = work; handle = with h table }

-- the answers in a lent buffer: the first that fit, and what they leave of it
abbrev pub put_answers : List ℕ → List ℕ → List ℕ
put_answers numbers answers = take (length answers) numbers ++ drop (length numbers) answers

-- all that a replay gives, its answers counted and put into a lent buffer
pub record Given : Type 0 where
  pub first : ℕ
  pub records : ℕ
  pub stopped : Bool
  pub at : ℕ
  pub arena : List ℕ
  pub work : List ℕ
  pub answers : List ℕ

abbrev pub into : Replay → List ℕ → Given
into p answers = record {
  first = p.first;
  records = length p.numbers;
  stopped = p.stopped;
  at = p.at;
  arena = p.arena;
  work = p.work;
  answers = put_answers p.numbers answers;
}

-- the result of a replay, with the lent bytes as it left them; where the first opening is refused no record runs
abbrev pub gave : Result Replayed Refusal → List ℕ → List ℕ → List ℕ → Given
gave (Ok r) arena work answers = record {
  first = 0;
  records = r.records;
  stopped = is_some r.stopped;
  at = unwrap_or r.stopped 0;
  arena = arena;
  work = work;
  answers = answers;
}
gave (Err e) arena work answers = record {
  first = refusal_number e;
  records = 0;
  stopped = false;
  at = 0;
  arena = arena;
  work = work;
  answers = answers;
}

-- ---- what is left of a replay before the record at an offset

-- numbers put into a buffer from place i on
unfoldable pub put_from : ℕ → List ℕ → List ℕ → List ℕ
put_from i [] answers = answers
put_from i (n ∷ ns) answers = put_from (suc i) ns (set answers i n)

-- so many more than i
unfoldable pub count_from : ℕ → List ℕ → ℕ
count_from i [] = i
count_from i (n ∷ ns) = count_from (suc i) ns

-- the records of a log from index i on, with those run before counted and their answers in place
abbrev pub rest_of : Log → ℕ → Point → List ℕ → Given
rest_of log i x answers = record {
  first = 0;
  records = count_from i (answers_all i x log.records);
  stopped = log.stopped;
  at = cond log.stopped log.at 0;
  arena = (run_all i x log.records).arena;
  work = (run_all i x log.records).work;
  answers = put_from i (answers_all i x log.records) answers;
}

-- what is left of a log from an offset on, with i records run before it
abbrev pub rest : List ℕ → ℕ → ℕ → Point → List ℕ → Given
rest log at i x answers = rest_of (log_from log at) i x answers
