-- A write, store by store: start, one step, and a whole write.
use Rattle.std.specs.Prelude.{cond, List, [], ◌∷◌, ◌++◌, ℕ, zero, suc, ◌+◌, ◌-◌, eqb, ltb}
use Rattle.words.specs.Word.{word}
use Rattle.format.specs.MapWord.{mapped_to}
use Rattle.layout.specs.Place.{Layout, in_data, in_map, in_flog}
use Rattle.machine.specs.declared.lane.Lane.{Lane}
use Rattle.machine.specs.calls.Order.{start, step, write}
use Rattle.machine.specs.calls.Judging.{call_number}
use Rattle.machine.specs.state.Lane.{started_lane, stored_lane, finished_lane, write_stores}
use Rattle.machine.specs.state.Handle.{Handle, lane_at, laid_out, with_lane}
use Rattle.machine.specs.state.Stores.{Store, stored}
use Rattle.machine.specs.state.Flog.{map_block}

-- what a write remembers: its lane, sector, old and new block, and the half and sequence that it writes
pub record Plan : Type 0 where
  pub lane : ℕ
  pub sector : ℕ
  pub old : ℕ
  pub new : ℕ
  pub half : ℕ
  pub sequence : ℕ

-- the plan of the write that lane l's record has in flight
abbrev pub plan_of : ℕ → Lane → Plan
plan_of l r = record { lane = l; sector = r.sector.0; old = r.old.0; new = r.block.0; half = r.half; sequence = r.sequence.0 }

-- the stores after the data words: sector, old, new and sequence of the next half, sequence last, then the map word
abbrev pub flog_store : Plan → ℕ → Store
flog_store p zero = record { place = in_flog p.lane p.half 0; value = p.sector }
flog_store p (suc zero) = record { place = in_flog p.lane p.half 1; value = p.old }
flog_store p (suc (suc zero)) = record { place = in_flog p.lane p.half 2; value = p.new }
flog_store p (suc (suc (suc zero))) = record { place = in_flog p.lane p.half 3; value = p.sequence }
flog_store p (suc (suc (suc (suc k)))) = record { place = in_map p.sector; value = mapped_to p.new }

-- store number k of a write, from 0: the data words into new, in order, then the others
unfoldable pub store_at : Layout → Plan → List ℕ → ℕ → Store
store_at g p bytes k = cond (ltb k g.W) (record { place = in_data p.new k; value = word bytes k }) (flog_store p (k - g.W))

-- the first n stores of a write
unfoldable pub first_stores : Layout → Plan → List ℕ → ℕ → List Store
first_stores g p bytes zero = []
first_stores g p bytes (suc n) = first_stores g p bytes n ++ (store_at g p bytes n ∷ [])

-- the record after one more store: after the last the lane is idle, and moves on
unfoldable pub lane_stored : Layout → Lane → Lane
lane_stored g r = cond (eqb (r.made + 1) (write_stores g)) (finished_lane r) (stored_lane r)

-- what a start, a step or a whole write gives
pub record Outcome : Type 0 where
  pub number : ℕ
  pub arena : List ℕ
  pub handle : Handle

abbrev pub start_number : List ℕ → Handle → ℕ → ℕ → ℕ
start_number a h l s = call_number a h (start l s)

unfoldable pub start_of : List ℕ → Handle → ℕ → ℕ → Outcome
start_of a h l s =
    let n = start_number a h l s in
    let started = with_lane h l (started_lane (lane_at h.table l) s (map_block (laid_out h) a s)) in
    record { number = n; arena = a; handle = cond (eqb n 0) started h }

abbrev pub step_number : List ℕ → Handle → ℕ → List ℕ → ℕ
step_number a h l buffer = call_number a h (step l buffer)

-- every step makes one store
unfoldable pub step_of : List ℕ → Handle → ℕ → List ℕ → Outcome
step_of a h l buffer =
    let n = step_number a h l buffer in
    let g = laid_out h in
    let r = lane_at h.table l in
    record {
      number = n;
      arena = cond (eqb n 0) (stored g (store_at g (plan_of l r) buffer r.made) a) a;
      handle = cond (eqb n 0) (with_lane h l (lane_stored g r)) h;
    }

-- n steps on one lane, with one buffer
unfoldable pub steps_of : ℕ → List ℕ → Handle → ℕ → List ℕ → Outcome
steps_of zero a h l buffer = record { number = 0; arena = a; handle = h }
steps_of (suc n) a h l buffer = let o = steps_of n a h l buffer in step_of o.arena o.handle l buffer

abbrev pub write_number : List ℕ → Handle → ℕ → ℕ → List ℕ → ℕ
write_number a h l s buffer = call_number a h (write l s buffer)

-- a whole write is start and all steps in one call, refused before any store
unfoldable pub write_of : List ℕ → Handle → ℕ → ℕ → List ℕ → Outcome
write_of a h l s buffer =
    let n = write_number a h l s buffer in
    let o = start_of a h l s in
    let e = steps_of (write_stores (laid_out h)) o.arena o.handle l buffer in
    record { number = n; arena = cond (eqb n 0) e.arena a; handle = cond (eqb n 0) e.handle h }
