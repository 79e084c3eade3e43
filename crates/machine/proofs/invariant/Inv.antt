-- What holds of an arena and the lane records of its handle, whatever was called: each lane's log agrees with its record, no two
-- lanes have one sector in flight, mapped blocks with free blocks are every block once, and rule 18 lets the arena pass.
use mathlib.Core.Path.{◌≡◌, refl, sym, ap, ap₂, ◌∙◌}
use mathlib.Core.Logic.{◌≢◌}
use mathlib.Core.List.{List}
use mathlib.Core.Bool.{true, false}
use Prim.Native.Nat.{ℕ, zero, suc, ◌+◌, ◌-◌, ◌≤◌, ◌<◌}
use native.Mathlib.Omega.{arith}
use native.Mathlib.Decide.{ℕ_discrete}
use lib.ListN.{length, set, length-set}
use lib.Seq.{get_or-set_same, get_or-set_other}
use Rattle.layout.specs.Place.{Layout, LayoutOk}
use Rattle.format.specs.Sequence.{newer, successor}
use Rattle.format.proofs.Tests.{true_false}
use Rattle.format.proofs.Sequences.{newer-first, newer_second}
use Rattle.machine.specs.declared.lane.Lane.{Lane}
use Rattle.machine.specs.state.Lane.{idle_lane, no_lane, is_busy}
use Rattle.machine.specs.state.Handle.{lane_at}
use Rattle.machine.specs.state.Flog.{map_block, flog_word, newer_half}
use Rattle.machine.proofs.stores.Once.{Once}
use Rattle.machine.proofs.stores.Stores.{Arena}
use Rattle.machine.proofs.invariant.Tidy.{Tidy}

-- the words that a write in flight stores in the next half of its lane's log
abbrev pub planned_word : Lane → ℕ → ℕ
planned_word r zero = r.sector.0
planned_word r (suc zero) = r.old.0
planned_word r (suc (suc zero)) = r.block.0
planned_word r (suc (suc (suc k))) = r.sequence.0

-- the lane's log before the sequence word of the next half is stored: the other half is the newer
pub record Before (g : Layout) (a : List ℕ) (l half block sequence : ℕ) : Type 0 where
  pub other : newer_half g a l ≡ 1 - half
  pub free : flog_word g a l (1 - half) 1 ≡ block
  pub sector-in : flog_word g a l (1 - half) 0 < g.E
  pub new-in : flog_word g a l (1 - half) 2 < g.I
  pub set_low : 1 ≤ flog_word g a l (1 - half) 3
  pub set_high : flog_word g a l (1 - half) 3 ≤ 3
  pub next : successor (flog_word g a l (1 - half) 3) ≡ sequence

pub record LaneInv (g : Layout) (a : List ℕ) (l : ℕ) (r : Lane) : Type 0 where
  pub busy_in : r.busy ≤ 1
  pub block-in : r.block.0 < g.I
  pub half_in : r.half < 2
  pub set_low : 1 ≤ r.sequence.0
  pub set_high : r.sequence.0 ≤ 3
  pub sector-in : r.sector.0 < g.E
  pub old-in : r.old.0 < g.I
  pub made_in : r.made < g.W + 5
  pub still : is_busy r ≡ false → r.made ≡ 0
  -- a sector in flight is mapped to its old block until the map word is stored
  pub mapped : is_busy r ≡ true → map_block g a r.sector.0 ≡ r.old.0
  -- the words of the next half that have been stored
  pub written : (k : ℕ) → k < 4 → g.W + k < r.made → flog_word g a l r.half k ≡ planned_word r k
  pub before : r.made < g.W + 4 → Before g a l r.half r.block.0 r.sequence.0
  -- the sequence word has been stored: the next half is the newer
  pub after : r.made ≡ g.W + 4 → newer_half g a l ≡ r.half

-- a lane's block that is free, as its record has it
abbrev pub block_in : List Lane → ℕ → ℕ
block_in lanes l = (lane_at lanes l).block.0

pub record Inv (g : Layout) (a : List ℕ) (lanes : List Lane) : Type 0 where
  pub ok : LayoutOk g
  pub arena : Arena g a
  pub long : g.N ≤ length lanes
  pub lane : (l : ℕ) → l < g.N → LaneInv g a l (lane_at lanes l)
  -- no two lanes have one sector in flight
  pub apart : (l j : ℕ) → l < g.N → j < g.N → l ≢ j → is_busy (lane_at lanes l) ≡ true → is_busy (lane_at lanes j) ≡ true
      → (lane_at lanes l).sector.0 ≢ (lane_at lanes j).sector.0
  -- mapped blocks and the lanes' free blocks are all blocks, each once
  pub once : Once g.I g.E g.N (map_block g a) (block_in lanes)
  pub map_in : (s : ℕ) → s < g.E → map_block g a s < g.I
  pub tidy : Tidy g a

-- an idle lane, by its log
pub idle_inv : (g : Layout) → LayoutOk g → (a : List ℕ) (l block half sequence : ℕ) → block < g.I → half < 2 → 1 ≤ sequence → sequence ≤ 3
    → Before g a l half block sequence → LaneInv g a l (idle_lane block half sequence)
idle_inv g ok a l block half sequence b h lo hi log = record {
  busy_in = omega arith;
  block-in = b;
  half_in = h;
  set_low = lo;
  set_high = hi;
  sector-in = omega (arith, ok.some_lane, ok.enough);
  old-in = omega arith;
  made_in = omega arith;
  still = λ _. refl;
  mapped = λ e. true_false (sym e);
  written = λ k c d. absurd (omega arith);
  before = λ _. log;
  after = λ e. absurd (omega arith);
}

-- ---- the newer half, and what changes it

module _ (g : Layout) where
  pub same_newer : (a a' : List ℕ) (l half : ℕ) → half < 2 → flog_word g a' l (1 - half) 3 ≡ flog_word g a l (1 - half) 3
      → flog_word g a' l half 3 ≡ flog_word g a l half 3 → newer_half g a' l ≡ newer_half g a l
  unfolding newer_half
  same_newer a a' l zero u e f = ap₂ newer f e
  same_newer a a' l (suc zero) u e f = ap₂ newer e f
  same_newer a a' l (suc (suc x)) u e f = absurd (omega arith)

  -- the half that was given the successor of the other's number
  pub turned : (a : List ℕ) (l half : ℕ) → half < 2 → 1 ≤ flog_word g a l (1 - half) 3 → flog_word g a l (1 - half) 3 ≤ 3
      → flog_word g a l half 3 ≡ successor (flog_word g a l (1 - half) 3) → newer_half g a l ≡ half
  unfolding newer_half
  turned a l zero u lo hi e = ap (λ (x : ℕ). newer x (flog_word g a l 1 3)) e ∙ newer-first (flog_word g a l 1 3) lo hi
  turned a l (suc zero) u lo hi e = ap (λ (x : ℕ). newer (flog_word g a l 0 3) x) e ∙ newer_second (flog_word g a l 0 3) lo hi
  turned a l (suc (suc x)) u lo hi e = absurd (omega arith)

  pub before_frame : (a a' : List ℕ) (l half block sequence : ℕ) → half < 2
      → ((k : ℕ) → k < 4 → flog_word g a' l (1 - half) k ≡ flog_word g a l (1 - half) k)
      → flog_word g a' l half 3 ≡ flog_word g a l half 3 → Before g a l half block sequence → Before g a' l half block sequence
  before_frame a a' l half block sequence u f top b = record {
    other = same_newer a a' l half u (f 3 (omega arith)) top ∙ b.other;
    free = f 1 (omega arith) ∙ b.free;
    sector-in = rw (f 0 (omega arith)) b.sector-in;
    new-in = rw (f 2 (omega arith)) b.new-in;
    set_low = rw (f 3 (omega arith)) b.set_low;
    set_high = rw (f 3 (omega arith)) b.set_high;
    next = ap successor (f 3 (omega arith)) ∙ b.next;
  }

-- ---- a lane none of whose words changed

module _ (g : Layout) (a a' : List ℕ) (l : ℕ) (flog : (h k : ℕ) → h < 2 → k < 4 → flog_word g a' l h k ≡ flog_word g a l h k) where
  pub lane_frame : (r : Lane) → (is_busy r ≡ true → map_block g a' r.sector.0 ≡ map_block g a r.sector.0) → LaneInv g a l r → LaneInv g a' l r
  lane_frame r m i = record {
    busy_in = i.busy_in;
    block-in = i.block-in;
    half_in = i.half_in;
    set_low = i.set_low;
    set_high = i.set_high;
    sector-in = i.sector-in;
    old-in = i.old-in;
    made_in = i.made_in;
    still = i.still;
    mapped = λ b. m b ∙ i.mapped b;
    written = λ k u v. flog r.half k i.half_in u ∙ i.written k u v;
    before = λ u. before_frame g a a' l r.half r.block.0 r.sequence.0 i.half_in
        (λ k v. flog (1 - r.half) k (omega arith) v) (flog r.half 3 i.half_in (omega arith)) (i.before u);
    after = λ e. same_newer g a a' l r.half i.half_in (flog (1 - r.half) 3 (omega arith) (omega arith))
        (flog r.half 3 i.half_in (omega arith)) ∙ i.after e;
  }

-- ---- records with one replaced

module _ (lanes : List Lane) (l : ℕ) (r : Lane) where
  pub lane_same : l < length lanes → lane_at (set lanes l r) l ≡ r
  lane_same u = get_or-set_same lanes l r no_lane u

  pub lane_other : (j : ℕ) → j ≢ l → lane_at (set lanes l r) j ≡ lane_at lanes j
  lane_other j n = get_or-set_other lanes l j r no_lane n

  pub update : (g : Layout) (a a' : List ℕ) → Inv g a lanes → l < g.N → Arena g a' → LaneInv g a' l r
      → ((j : ℕ) → j < g.N → j ≢ l → LaneInv g a' j (lane_at lanes j))
      → ((j : ℕ) → j < g.N → j ≢ l → is_busy r ≡ true → is_busy (lane_at lanes j) ≡ true → r.sector.0 ≢ (lane_at lanes j).sector.0)
      → Once g.I g.E g.N (map_block g a') (block_in (set lanes l r))
      → ((s : ℕ) → s < g.E → map_block g a' s < g.I) → Tidy g a'
      → Inv g a' (set lanes l r)
  update g a a' i u ar own others far once m t = record {
    ok = i.ok;
    arena = ar;
    long = rw length-set i.long;
    lane = λ j k. lane j k (ℕ_discrete j l);
    apart = λ j k v w n. apart j k v w n (ℕ_discrete j l) (ℕ_discrete k l);
    once = once;
    map_in = m;
    tidy = t;
  }
    where
      same : lane_at (set lanes l r) l ≡ r
      same = lane_same (omega (arith, i.long))

      at_l : (j : ℕ) → j ≡ l → lane_at (set lanes l r) j ≡ r
      at_l j e = ap (lane_at (set lanes l r)) e ∙ same

      lane : (j : ℕ) → j < g.N → Dec (j ≡ l) → LaneInv g a' j (lane_at (set lanes l r) j)
      lane j k (yes e) = rw (e, same) own
      lane j k (no n) = rw (lane_other j n) (others j k n)

      apart : (j k : ℕ) → j < g.N → k < g.N → j ≢ k → Dec (j ≡ l) → Dec (k ≡ l) → is_busy (lane_at (set lanes l r) j) ≡ true
          → is_busy (lane_at (set lanes l r) k) ≡ true → (lane_at (set lanes l r) j).sector.0 ≢ (lane_at (set lanes l r) k).sector.0
      apart j k v w n (yes d) (yes e) = λ x y z. n (d ∙ sym e)
      apart j k v w n (yes d) (no e) = rw (at_l j d, lane_other k e) (far k w e)
      apart j k v w n (no d) (yes e) = rw (at_l k e, lane_other j d) (λ x y z. far j v d y x (sym z))
      apart j k v w n (no d) (no e) = rw (lane_other j d, lane_other k e) (i.apart j k v w n)

  -- the free blocks, where the record keeps its block
  pub same_free : (j : ℕ) → l < length lanes → r.block.0 ≡ block_in lanes l → block_in (set lanes l r) j ≡ block_in lanes j
  same_free j u e = go (ℕ_discrete j l)
    where
      go : Dec (j ≡ l) → block_in (set lanes l r) j ≡ block_in lanes j
      go (yes d) = ap (block_in (set lanes l r)) d ∙ ap (λ (q : Lane). q.block.0) (lane_same u) ∙ e ∙ ap (block_in lanes) (sym d)
      go (no n) = ap (λ (q : Lane). q.block.0) (lane_other j n)
