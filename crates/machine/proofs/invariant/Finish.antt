-- The map store of a write that lacks only that one ends the write and keeps the invariant: the sector is mapped to the lane's
-- block, and the block that it was mapped to is the lane's.
use mathlib.Core.Path.{◌≡◌, sym, ap, ◌∙◌}
use mathlib.Core.Logic.{◌≢◌}
use mathlib.Core.List.{List}
use mathlib.Core.Bool.{true}
use Prim.Native.Nat.{ℕ, ◌+◌, ◌-◌, ◌≤◌, ◌<◌}
use native.Mathlib.Omega.{arith}
use lib.ListN.{set}
use Rattle.layout.specs.Place.{Layout, in_map}
use Rattle.format.specs.Sequence.{successor}
use Rattle.format.specs.MapWord.{mapped_to}
use Rattle.format.proofs.Tests.{true_false}
use Rattle.format.proofs.Sequences.{successor_in}
use Rattle.format.proofs.MapWord.{mapped_clean}
use Rattle.machine.specs.declared.lane.Lane.{Lane}
use Rattle.machine.specs.state.Lane.{finished_lane, is_busy}
use Rattle.machine.specs.state.Handle.{lane_at}
use Rattle.machine.specs.state.Stores.{Store, stored}
use Rattle.machine.specs.state.Flog.{map_block, flog_word, newer_half}
use Rattle.machine.proofs.stores.Once.{swap_once}
use Rattle.machine.proofs.stores.Stores.{stored_arena}
use Rattle.machine.proofs.stores.MapStores.{map_flog, map_other, map_here, map_keeps}
use Rattle.machine.proofs.invariant.Tidy.{tidy_word}
use Rattle.machine.proofs.invariant.Inv.{planned_word, LaneInv, Inv, block_in, idle_inv, same_newer, lane_frame, lane_same, lane_other, update}

-- the last store of a write
abbrev pub final_store : Lane → Store
final_store r = record { place = in_map r.sector.0; value = mapped_to r.block.0 }

module _ (g : Layout) (a : List ℕ) (lanes : List Lane) (l : ℕ) (i : Inv g a lanes) (u : l < g.N) (b : is_busy (lane_at lanes l) ≡ true) where
  abbrev r : Lane
  r = lane_at lanes l

  -- the arena after it
  abbrev a' : List ℕ
  a' = stored g (final_store r) a

  was : LaneInv g a l r
  was = i.lane l u

  pub finish : r.made ≡ g.W + 4 → Inv g a' (set lanes l (finished_lane r))
  finish m =
      update lanes l (finished_lane r) g a a' i u (stored_arena g i.ok a (final_store r) i.arena) mine
      (λ j k n. lane_frame g a a' j (λ x y v w. flog j x y k v w) (lane_at lanes j)
      (λ c. other (lane_at lanes j).sector.0 (i.lane j k).sector-in (λ e. i.apart l j u k (λ d. n (sym d)) b c (sym e))) (i.lane j k))
      (λ j k n c _ _. true_false (sym c))
      (swap_once g.I g.E g.N (map_block g a) (block_in lanes) i.once (map_block g a') (block_in (set lanes l (finished_lane r)))
      r.sector.0 l was.sector-in u (λ s v n. other s v n) here (λ j k n. ap (λ (q : Lane). q.block.0) (lane_other lanes l (finished_lane r) j n))
      (ap (λ (q : Lane). q.block.0) (lane_same lanes l (finished_lane r) (omega (arith, i.long))) ∙ sym (was.mapped b)))
      (map_keeps g i.ok a i.arena r.sector.0 r.block.0 was.sector-in was.block-in i.map_in)
      (tidy_word g i.ok a i.arena r.sector.0 (mapped_to r.block.0) was.sector-in (omega (arith, i.ok.small, was.block-in))
      (mapped_clean r.block.0 (omega (arith, i.ok.small, was.block-in))) i.tidy)
    where
      flog : (j x k : ℕ) → j < g.N → x < 2 → k < 4 → flog_word g a' j x k ≡ flog_word g a j x k
      flog = map_flog g i.ok a i.arena r.sector.0 r.block.0 was.sector-in was.block-in

      other : (s : ℕ) → s < g.E → s ≢ r.sector.0 → map_block g a' s ≡ map_block g a s
      other = map_other g i.ok a i.arena r.sector.0 r.block.0 was.sector-in was.block-in

      here : map_block g a' r.sector.0 ≡ r.block.0
      here = map_here g i.ok a i.arena r.sector.0 r.block.0 was.sector-in was.block-in

      back : 1 - (1 - r.half) ≡ r.half
      back = omega (arith, was.half_in)

      wr : (k : ℕ) → k < 4 → flog_word g a' l (1 - (1 - r.half)) k ≡ planned_word r k
      wr k d = ap (λ (x : ℕ). flog_word g a' l x k) back ∙ flog l r.half k u was.half_in d ∙ was.written k d (omega arith)

      newer_kept : newer_half g a' l ≡ newer_half g a l
      newer_kept = same_newer g a a' l r.half was.half_in (flog l (1 - r.half) 3 u (omega arith) (omega arith))
          (flog l r.half 3 u was.half_in (omega arith))

      next : (1 ≤ successor r.sequence.0) × (successor r.sequence.0 ≤ 3)
      next = successor_in r.sequence.0 was.set_low was.set_high

      mine : LaneInv g a' l (finished_lane r)
      mine = idle_inv g i.ok a' l _ _ _ was.old-in (omega arith) next.0 next.1 (record {
        other = newer_kept ∙ was.after m ∙ sym back;
        free = wr 1 (omega arith);
        sector-in = rw (wr 0 (omega arith)) was.sector-in;
        new-in = rw (wr 2 (omega arith)) was.block-in;
        set_low = rw (wr 3 (omega arith)) was.set_low;
        set_high = rw (wr 3 (omega arith)) was.set_high;
        next = ap successor (wr 3 (omega arith));
      })
