-- What is left of a replay before the record at an offset: the records from there on, with those run before counted and their answers
-- in place. Each turn of the loop leaves it as it was, and where no record stands nothing is left.
use mathlib.Core.Path.{◌≡◌, refl, ap, ◌∙◌}
use mathlib.Core.List.{List, [], ◌∷◌}
use Prim.Native.Nat.{ℕ, suc, ◌+◌, ◌≤◌, ◌<◌}
use native.Mathlib.Omega.{arith}
use lib.Dec.{ltb}
use lib.ListN.{length, set}
use borrow.Author.Tests.{ltb-true, ltb-false, lt-leb, le-leb}
use Rattle.std.specs.Prelude.{Option, Some, None, Ok, Err}
use Rattle.std.specs.Bool.{then_some}
use Rattle.std.specs.Option.{option_map}
use Rattle.format.proofs.Tests.{by_bool}
use Rattle.layout.specs.Told.{alone_near}
use Rattle.machine.specs.declared.lane.Lane.{Lane}
use Rattle.machine.specs.declared.refusal.Refusal.{Refusal}
use Rattle.machine.proofs.Refusals.{not_zero}
use Rattle.machine.specs.calls.Opening.{open_of}
use Rattle.lanes.specs.Filled.{filled_by}
use Rattle.arena.specs.declared.open.Opened.{Opened}
use Rattle.arena.specs.Calls.{OpenGives}
use Rattle.runlog.specs.declared.record.Record.{Record}
use Rattle.runlog.specs.declared.record.Taken.{Taken}
use Rattle.runlog.specs.Record.{length_of, record_at, taken, taken_at}
use Rattle.runlog.specs.Log.{max_log, log_from, log_of}
use Rattle.runlog.proofs.Laws.{record_in, log_end, log_stop, log_more}
use Rattle.replaying.specs.Replay.{Point, own_table, room_of, run_all, answers_all, replay_from, replay_of}
use Rattle.replaying.specs.Gave.{point_at, put_answers, into, gave, put_from, count_from, rest}
use Rattle.replaying.specs.Ran.{RanGives}
use Rattle.replaying.proofs.Did.{opened_is}

-- ---- answers put one by one

put_none : (i : ℕ) (ns : List ℕ) → put_from i ns [] ≡ []
unfolding put_from
put_none i [] = refl
put_none i (n ∷ ns) = put_none (suc i) ns

put_past : (i : ℕ) (ns : List ℕ) (b : ℕ) (bs : List ℕ) → put_from (suc i) ns (b ∷ bs) ≡ b ∷ put_from i ns bs
unfolding put_from
put_past i [] b bs = refl
put_past i (n ∷ ns) b bs = put_past (suc i) ns b (set bs i n)

put_all : (ns answers : List ℕ) → put_from 0 ns answers ≡ put_answers ns answers
unfolding put_from
put_all [] [] = refl
put_all [] (b ∷ bs) = refl
put_all (n ∷ ns) [] = put_none 1 ns
put_all (n ∷ ns) (b ∷ bs) = put_past 0 ns n bs ∙ ap (λ (x : List ℕ). n ∷ x) (put_all ns bs)

count_past : (i : ℕ) (ns : List ℕ) → count_from (suc i) ns ≡ suc (count_from i ns)
unfolding count_from
count_past i [] = refl
count_past i (n ∷ ns) = count_past (suc i) ns

count_all : (ns : List ℕ) → count_from 0 ns ≡ length ns
unfolding count_from
count_all [] = refl
count_all (n ∷ ns) = count_past 0 ns ∙ ap suc (count_all ns)

-- ---- the rest of a replay

-- all that is left at the log's start is the whole replay
pub rest_first : (log : List ℕ) (x : Point) (answers : List ℕ) → rest log 0 0 x answers ≡ into (replay_from (log_from log 0) x) answers
rest_first log x answers = let ns = answers_all 0 x (log_from log 0).records in rw (put_all ns answers, count_all ns)

-- ---- a turn of the loop: t was taken at the offset

module _ (log : List ℕ) (at : ℕ) (t : Taken) (e : Some t ≡ taken_at log at) where
  found_is : (record_at log at ≡ Some t.found) × (t.after ≡ at + length_of t.found)
  found_is = by (record_at log at) e
    where
      by : (o : Option Record) → Some t ≡ option_map (taken at) o → (o ≡ Some t.found) × (t.after ≡ at + length_of t.found)
      by None p = absurd cc
      by (Some r) p = let q : t ≡ taken at r = cc in rw q (refl, refl)

  pub taken_in : (at + 4 ≤ t.after) × (t.after ≤ length log)
  taken_in = let f = found_is in let r = record_in log at t.found f.0 in (omega (arith, f.1, r.1), omega (arith, f.1, r.0))

  pub rest_more : (i : ℕ) (x y : Point) (n : ℕ) (answers after : List ℕ) → RanGives i x t.found n y → after ≡ set answers i n
      → rest log t.after (i + 1) y after ≡ rest log at i x answers
  unfolding put_from count_from run_all answers_all
  rest_more i x y n answers after g d =
      let f = found_is in
      let s : i + 1 ≡ suc i = omega arith in
      let u : at < length log = omega (arith, taken_in) in
      rw (g.point, d, g.number, f.1, log_more log at t.found u f.0, s)

-- ---- the end

module _ (log : List ℕ) (at : ℕ) (e : None ≡ taken_at log at) where
  none_stands : record_at log at ≡ None
  none_stands = by (record_at log at) e
    where
      by : (o : Option Record) → None ≡ option_map (taken at) o → o ≡ None
      by None p = refl
      by (Some r) p = absurd cc

  -- where none stands nothing is left: the replay stopped there, or the log ends there
  pub rest_none : (i : ℕ) (x : Point) (answers : List ℕ)
      → gave (Ok (record { records = i; stopped = then_some (ltb at (length log)) at })) x.arena x.work answers ≡ rest log at i x answers
  unfolding put_from count_from run_all answers_all
  rest_none i x answers =
      by_bool (ltb at (length log)) _ (λ q. rw (q, log_stop log at (ltb-true _ _ q) none_stands)) (λ q. rw (q, log_end log at (ltb-false _ _ q)))

-- ---- the whole replay, from what its first opening gave

-- where no record ran, the buffer is as it came
pub put_nothing : (answers : List ℕ) → put_answers [] answers ≡ answers
put_nothing [] = refl
put_nothing (b ∷ bs) = refl

module _ (a work log answers arena left : List ℕ) where
  -- it is refused
  pub refused : (e : Refusal) → OpenGives (Err e) arena left own_table (open_of alone_near a (room_of work own_table))
      → gave (Err e) arena left answers ≡ into (replay_of a work log) answers
  unfolding replay_of
  refused e gives = rw (← gives.number, not_zero e, put_nothing answers, ← gives.arena, ← gives.work)

  module _ (o : Opened) (gives : OpenGives (Ok o) arena left own_table (open_of alone_near a (room_of work own_table))) where
    -- the log is too long
    pub too_long : max_log < length log → gave (Ok (record { records = 0; stopped = Some 0 })) arena left answers ≡ into (replay_of a work log) answers
    unfolding replay_of log_of run_all answers_all
    too_long u = rw (← gives.number, lt-leb _ _ u, put_nothing answers, ← gives.arena, ← gives.work)

    -- its records ran
    pub ran_all : length log ≤ max_log → (t : List Lane) → t ≡ filled_by o.handle arena own_table
        → into (replay_from (log_from log 0) (point_at arena left o.handle t)) answers ≡ into (replay_of a work log) answers
    unfolding replay_of log_of
    ran_all u t e = rw (← gives.number, le-leb _ _ u, opened_is a work (Ok o) arena left own_table o.handle t gives refl e)
