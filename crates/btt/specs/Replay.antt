-- A replay of a run log for a host: its number, its two counts and every lent byte.
use Rattle.std.specs.Prelude.{Bool, cond, List, ℕ, eqb, length}
use Rattle.replaying.specs.Replay.{replay_of}
use Rattle.replaying.specs.Gave.{put_answers}

pub record HostReplay : Type 0 where
  pub number : ℕ
  -- how many records ran, and the offset at which the log was refused
  pub records : ℕ
  pub stopped : ℕ
  pub arena : List ℕ
  pub work : List ℕ
  pub answers : List ℕ

-- the first opening's number if it is a refusal, else 20 where the log was refused
abbrev pub replay_number : ℕ → Bool → ℕ
replay_number first stopped = cond (eqb first 0) (cond stopped 20 0) first

unfoldable pub btt_replay_of : List ℕ → List ℕ → List ℕ → List ℕ → HostReplay
btt_replay_of a work log answers =
    let p = replay_of a work log in
    record {
      number = replay_number p.first p.stopped;
      records = length p.numbers;
      stopped = p.at;
      arena = p.arena;
      work = p.work;
      answers = put_answers p.numbers answers;
    }
