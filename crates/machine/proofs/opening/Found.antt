-- What opening reads of the log of a lane that the invariant holds of: the record as it is once a write that lacks only its map
-- word is ended. The pending lanes are just those whose writes lack only that.
use mathlib.Core.Path.{◌≡◌, refl, sym, ap, ap₂, ◌∙◌}
use mathlib.Core.List.{List, [], ◌∷◌, ◌++◌, append-nil}
use mathlib.Core.Bool.{Bool, true, false, cond}
use Prim.Native.Nat.{ℕ, zero, suc, ◌+◌, ◌-◌, ◌≤◌, ◌<◌}
use native.Mathlib.Omega.{arith}
use native.Mathlib.Decide.{ℕ_discrete}
use lib.Dec.{eqb}
use borrow.Author.Tests.{eqb-true, eq-eqb, ne_eqb, lt-ltb}
use Rattle.layout.specs.Place.{Layout}
use Rattle.format.specs.Sequence.{successor}
use Rattle.format.proofs.Tests.{by_bool}
use Rattle.machine.specs.declared.lane.Lane.{Lane}
use Rattle.machine.specs.state.Lane.{idle_lane, finished_lane, is_busy}
use Rattle.machine.specs.state.Handle.{lane_at}
use Rattle.machine.specs.state.Stores.{Store, stored, put_all}
use Rattle.machine.specs.state.Flog.{map_block, flog_word, newer_word, pending}
use Rattle.machine.specs.calls.Opening.{mend_store, mends, lane_readable, found_lane}
use Rattle.machine.proofs.stores.Once.{free_unmapped}
use Rattle.machine.proofs.stores.Stores.{put_all_one}
use Rattle.machine.proofs.invariant.Inv.{planned_word, LaneInv, Inv, block_in}
use Rattle.machine.proofs.invariant.Finish.{final_store}

-- a write that lacks only its map word
abbrev pub ended : Layout → Lane → Bool
ended g r = eqb r.made (g.W + 4)

-- a record with such a write ended
unfoldable pub settled_lane : Layout → Lane → Lane
settled_lane g r = cond (ended g r) (finished_lane r) r

-- the last stores of the writes of the lanes below n that lack only those
unfoldable pub finals : Layout → List Lane → ℕ → List Store
finals g lanes zero = []
finals g lanes (suc l) = finals g lanes l ++ cond (ended g (lane_at lanes l)) (final_store (lane_at lanes l) ∷ []) []

pub ended_true : (g : Layout) (r : Lane) → ended g r ≡ true → r.made ≡ g.W + 4
ended_true g r e = eqb-true r.made (g.W + 4) e

-- the same test with the store that comes next counted in
pub last_next : (n w : ℕ) → eqb (n + 1) (w + 5) ≡ eqb n (w + 4)
last_next n w = go (ℕ_discrete n (w + 4))
  where
    go : Dec (n ≡ w + 4) → eqb (n + 1) (w + 5) ≡ eqb n (w + 4)
    go (yes e) = eq-eqb (n + 1) (w + 5) (omega arith) ∙ sym (eq-eqb n (w + 4) e)
    go (no d) = ne_eqb (n + 1) (w + 5) (λ e. omega arith) ∙ sym (ne_eqb n (w + 4) d)

-- the stores of one lane more
module _ (g : Layout) (lanes : List Lane) where
  pub finals_more : (a : List ℕ) (n : ℕ) → ended g (lane_at lanes n) ≡ true
      → put_all g (finals g lanes (suc n)) a ≡ stored g (final_store (lane_at lanes n)) (put_all g (finals g lanes n) a)
  unfolding finals
  finals_more a n e = rw e (put_all_one g (finals g lanes n) (final_store (lane_at lanes n)) a)

  pub finals_same : (n : ℕ) → ended g (lane_at lanes n) ≡ false → finals g lanes (suc n) ≡ finals g lanes n
  unfolding finals
  finals_same n e = rw e (append-nil (finals g lanes n))

  -- where none of the lanes below n lacks only its map word
  pub finals-none : (n : ℕ) → ((l : ℕ) → l < n → ended g (lane_at lanes l) ≡ false) → finals g lanes n ≡ []
  finals-none zero e = unfold finals in refl
  finals-none (suc n) e = finals_same n (e n (omega arith)) ∙ finals-none n (λ l u. e l (omega arith))

module _ (g : Layout) (a : List ℕ) (l : ℕ) (r : Lane) (i : LaneInv g a l r) where
  newer-before : r.made < g.W + 4 → (k : ℕ) → newer_word g a l k ≡ flog_word g a l (1 - r.half) k
  newer-before u k = ap (λ (x : ℕ). flog_word g a l x k) (i.before u).other

  pub newer-after : r.made ≡ g.W + 4 → (k : ℕ) → k < 4 → newer_word g a l k ≡ planned_word r k
  newer-after e k c = ap (λ (x : ℕ). flog_word g a l x k) (i.after e) ∙ i.written k c (omega arith)

  pub busy_after : r.made ≡ g.W + 4 → is_busy r ≡ true
  busy_after e = by_bool (is_busy r) (is_busy r ≡ true) (λ t. t) (λ f. absurd (omega (arith, i.still f)))

  -- an idle lane has made no store
  pub idle_ended : is_busy r ≡ false → ended g r ≡ false
  idle_ended f = ne_eqb r.made (g.W + 4) (λ e. omega (arith, i.still f))

  made_cases : (P : Type 0) → (r.made ≡ g.W + 4 → P) → (r.made < g.W + 4 → P) → P
  made_cases P f k = go (ℕ_discrete r.made (g.W + 4))
    where
      go : Dec (r.made ≡ g.W + 4) → P
      go (yes e) = f e
      go (no n) = k (omega (arith, i.made_in))

  -- what opening finds of the lane
  pub found-lane : found_lane g a l ≡ idle_lane (settled_lane g r).block.0 (settled_lane g r).half (settled_lane g r).sequence.0
  unfolding settled_lane
  found-lane = made_cases _
      (λ e. let t : ended g r ≡ true = eq-eqb _ _ e in
      rw (t, newer-after e 1 (omega arith), newer-after e 3 (omega arith), i.after e))
      (λ u. let b = i.before u in
      let t : ended g r ≡ false = ne_eqb r.made (g.W + 4) (λ e. omega arith) in
      let o : 1 - (1 - r.half) ≡ r.half = omega (arith, i.half_in) in
      rw t (lane_eq (newer-before u 1 ∙ b.free) (ap (λ (x : ℕ). 1 - x) b.other ∙ o) (ap successor (newer-before u 3) ∙ b.next)))
    where
      lane_eq : {x x' y y' z z' : ℕ} → x ≡ x' → y ≡ y' → z ≡ z' → idle_lane x y z ≡ idle_lane x' y' z'
      lane_eq p q s = λ j. idle_lane (p j) (q j) (s j)

  -- rule 6 does not apply to it
  pub lane-readable : lane_readable g a l ≡ true
  unfolding lane_readable
  lane-readable = made_cases _
      (λ e. rw (
        i.after e,
        lt-ltb r.half 2 i.half_in,
        i.written 0 (omega arith) (omega arith),
        lt-ltb r.sector.0 g.E i.sector-in,
        i.written 1 (omega arith) (omega arith),
        lt-ltb r.old.0 g.I i.old-in,
        i.written 2 (omega arith) (omega arith),
        lt-ltb r.block.0 g.I i.block-in,
      ))
      (λ u. let b = i.before u in
      let o : 1 - r.half < 2 = omega arith in
      rw (
        b.other,
        lt-ltb (1 - r.half) 2 o,
        lt-ltb _ g.E b.sector-in,
        b.free,
        lt-ltb r.block.0 g.I i.block-in,
        lt-ltb _ g.I b.new-in,
      ))

module _ (g : Layout) (a : List ℕ) (lanes : List Lane) (i : Inv g a lanes) where
  -- pending lanes are those whose sequence word is stored and whose map word is not
  pub pending_is : (l : ℕ) → l < g.N → pending g a l ≡ ended g (lane_at lanes l)
  unfolding pending
  pending_is l u = made_cases g a l r w _
      (λ e. eq-eqb _ _ (ap (map_block g a) (newer-after g a l r w e 0 (omega arith)) ∙ w.mapped (busy_after g a l r w e)
      ∙ sym (newer-after g a l r w e 1 (omega arith))) ∙ sym (eq-eqb _ _ e))
      (λ v. let b = w.before v in
      ne_eqb _ _ (λ e. free_unmapped g.I g.E g.N (map_block g a) (block_in lanes) i.once (newer_word g a l 0) l
      (rw (newer-before g a l r w v 0) b.sector-in) u w.block-in (e ∙ newer-before g a l r w v 1 ∙ b.free))
      ∙ sym (ne_eqb (lane_at lanes l).made (g.W + 4) (λ e. omega arith)))
    where
      r : Lane
      r = lane_at lanes l

      w : LaneInv g a l (lane_at lanes l)
      w = i.lane l u

  pub mends_are : (n : ℕ) → n ≤ g.N → mends g a n ≡ finals g lanes n
  unfolding mends finals
  mends_are zero u = refl
  mends_are (suc n) u = ap₂ {C = List Store} (λ x y. x ++ y) (mends_are n (omega arith)) one
    where
      w : LaneInv g a n (lane_at lanes n)
      w = i.lane n u

      one : cond (pending g a n) (mend_store g a n ∷ []) [] ≡ cond (ended g (lane_at lanes n)) (final_store (lane_at lanes n) ∷ []) []
      one = rw (pending_is n u) (by_bool (ended g (lane_at lanes n)) _
          (λ t. let e = eqb-true _ _ t in rw (t, newer-after g a n _ w e 0 (omega arith), newer-after g a n _ w e 2 (omega arith)))
          (λ t. rw t))
