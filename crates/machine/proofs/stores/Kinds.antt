-- The stores of a write by kind: a data word, a word of the next half of the lane's log, or the map word. Each is at a place of the
-- arena and below 2^32 where the plan is in range.
use mathlib.Core.Path.{◌≡◌, sym, ap}
use mathlib.Core.List.{List}
use Prim.Native.Nat.{ℕ, zero, suc, ◌+◌, ◌-◌, ◌<◌}
use native.Mathlib.Omega.{arith}
use native.Mathlib.Decide.{dec_lt}
use borrow.Author.Tests.{lt-ltb, le-ltb}
use Rattle.words.specs.Word.{word}
use Rattle.words.proofs.Laws.{word_lt}
use Rattle.words.specs.Bytes.{Small}
use Rattle.format.specs.MapWord.{mapped_to}
use Rattle.layout.specs.Place.{Layout, LayoutOk, in_data, in_map, in_flog, InRange}
use Rattle.machine.specs.declared.lane.Lane.{Lane}
use Rattle.machine.specs.state.Handle.{lane_at}
use Rattle.machine.specs.state.Stores.{stored, put_all}
use Rattle.machine.specs.calls.Writing.{Plan, plan_of, flog_store, store_at, first_stores}
use Rattle.machine.proofs.stores.Stores.{Fits, put_all_one}
use Rattle.machine.proofs.invariant.Inv.{Inv}

-- ---- a write's stores, by number

module _ (g : Layout) (p : Plan) (bytes : List ℕ) where
  pub store_data : (k : ℕ) → k < g.W → store_at g p bytes k ≡ record { place = in_data p.new k; value = word bytes k }
  unfolding store_at
  store_data k h = rw (lt-ltb k g.W h)

  pub store_log : (k j : ℕ) → k ≡ g.W + j → store_at g p bytes k ≡ flog_store p j
  unfolding store_at
  store_log k j e = let d : k - g.W ≡ j = omega arith in rw (le-ltb k g.W (omega arith)) (ap (flog_store p) d)

pub data Kind (g : Layout) (p : Plan) (bytes : List ℕ) (k : ℕ) : Type 0 where
  is_data : k < g.W → store_at g p bytes k ≡ record { place = in_data p.new k; value = word bytes k } → Kind g p bytes k
  is_log : (j : ℕ) → j < 4 → k ≡ g.W + j → store_at g p bytes k ≡ record { place = in_flog p.lane p.half j; value = (flog_store p j).value }
      → Kind g p bytes k
  is_map : k ≡ g.W + 4 → store_at g p bytes k ≡ record { place = in_map p.sector; value = mapped_to p.new } → Kind g p bytes k

pub kind : (g : Layout) (p : Plan) (bytes : List ℕ) (k : ℕ) → k < g.W + 5 → Kind g p bytes k
kind g p bytes k h = go (dec_lt k g.W)
  where
    log : (j : ℕ) → k ≡ g.W + j → j < 5 → Kind g p bytes k
    log zero e _ = is_log 0 (omega arith) e (store_log g p bytes k 0 e)
    log (suc zero) e _ = is_log 1 (omega arith) e (store_log g p bytes k 1 e)
    log (suc (suc zero)) e _ = is_log 2 (omega arith) e (store_log g p bytes k 2 e)
    log (suc (suc (suc zero))) e _ = is_log 3 (omega arith) e (store_log g p bytes k 3 e)
    log (suc (suc (suc (suc zero)))) e _ = is_map e (store_log g p bytes k 4 e)
    log (suc (suc (suc (suc (suc j))))) e u = absurd (omega arith)

    go : Dec (k < g.W) → Kind g p bytes k
    go (yes u) = is_data u (store_data g p bytes k u)
    go (no n) = log (k - g.W) (omega arith) (omega arith)

-- ---- what a plan holds is in range

pub record PlanOk (g : Layout) (p : Plan) : Type 0 where
  pub lane_in : p.lane < g.N
  pub sector-in : p.sector < g.E
  pub old-in : p.old < g.I
  pub new-in : p.new < g.I
  pub half_in : p.half < 2
  pub sequence-in : p.sequence < 4294967296

-- the plan of a lane's record
pub plan-ok : (g : Layout) (a : List ℕ) (lanes : List Lane) (l : ℕ) → Inv g a lanes → l < g.N → PlanOk g (plan_of l (lane_at lanes l))
plan-ok g a lanes l i u = let w = i.lane l u in record {
  lane_in = u;
  sector-in = w.sector-in;
  old-in = w.old-in;
  new-in = w.block-in;
  half_in = w.half_in;
  sequence-in = omega (arith, w.set_high);
}

-- every store of a write is at a place of the arena, whatever the bytes
pub store_range : (g : Layout) (p : Plan) → PlanOk g p → (bytes : List ℕ) (k : ℕ) → k < g.W + 5 → InRange g (store_at g p bytes k).place
store_range g p o bytes k h = go (kind g p bytes k h)
  where
    go : Kind g p bytes k → InRange g (store_at g p bytes k).place
    go (is_data u e) = rw e (o.new-in, u)
    go (is_log j u _ e) = rw e (o.lane_in, o.half_in, u)
    go (is_map _ e) = rw e o.sector-in

module _ (g : Layout) (ok : LayoutOk g) (p : Plan) (o : PlanOk g p) where
  pub flog_small : (j : ℕ) → j < 4 → (flog_store p j).value < 4294967296
  flog_small zero u = omega (arith, ok.small, ok.blocks, o.sector-in)
  flog_small (suc zero) u = omega (arith, ok.small, o.old-in)
  flog_small (suc (suc zero)) u = omega (arith, ok.small, o.new-in)
  flog_small (suc (suc (suc zero))) u = o.sequence-in
  flog_small (suc (suc (suc (suc j)))) u = absurd (omega arith)

  -- every store of a write can be made
  pub store_fits : (bytes : List ℕ) → Small bytes → (k : ℕ) → k < g.W + 5 → Fits g (store_at g p bytes k)
  store_fits bytes small k h = record { range = store_range g p o bytes k h; small = go (kind g p bytes k h) }
    where
      go : Kind g p bytes k → (store_at g p bytes k).value < 4294967296
      go (is_data u e) = rw e (word_lt bytes k small)
      go (is_log j u _ e) = rw e (flog_small j u)
      go (is_map _ e) = rw e (omega (arith, ok.small, o.new-in))

-- one more store of a write
pub first_more : (g : Layout) (p : Plan) (bytes a : List ℕ) (k : ℕ)
    → stored g (store_at g p bytes k) (put_all g (first_stores g p bytes k) a) ≡ put_all g (first_stores g p bytes (suc k)) a
unfolding first_stores
first_more g p bytes a k = sym (put_all_one g (first_stores g p bytes k) (store_at g p bytes k) a)
