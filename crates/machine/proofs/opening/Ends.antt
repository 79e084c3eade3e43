-- Ending the writes that lack only their map word, in rising order of the lanes: the invariant is kept by each.
-- A lane below n then has its settled record, and the others theirs.
use mathlib.Core.Path.{◌≡◌, refl, ◌∙◌}
use mathlib.Core.Logic.{◌≢◌}
use mathlib.Core.List.{List}
use mathlib.Core.Bool.{Bool, true, false, cond}
use Prim.Native.Nat.{ℕ, zero, suc, ◌+◌, ◌≤◌, ◌<◌}
use native.Mathlib.Omega.{arith}
use native.Mathlib.Decide.{ℕ_discrete}
use lib.ListN.{length, set, length-set}
use borrow.Author.Tests.{ne_eqb}
use Rattle.format.proofs.Tests.{by_bool}
use Rattle.layout.specs.Place.{Layout}
use Rattle.machine.specs.declared.lane.Lane.{Lane}
use Rattle.machine.specs.state.Lane.{finished_lane}
use Rattle.machine.specs.state.Handle.{lane_at}
use Rattle.machine.specs.state.Stores.{stored, put_all}
use Rattle.machine.proofs.invariant.Inv.{Inv, lane_same, lane_other}
use Rattle.machine.proofs.invariant.Finish.{final_store, finish}
use Rattle.machine.proofs.opening.Found.{ended, ended_true, settled_lane, finals, finals_more, finals_same, busy_after}

-- the records with the writes of the lanes below n ended, where they lack only that
unfoldable pub finish_lanes : Layout → List Lane → ℕ → List Lane
finish_lanes g lanes zero = lanes
finish_lanes g lanes (suc l) =
    cond (ended g (lane_at lanes l)) (set (finish_lanes g lanes l) l (finished_lane (lane_at lanes l))) (finish_lanes g lanes l)

pub settled-ended : (g : Layout) (r : Lane) → ended g (settled_lane g r) ≡ false
unfolding settled_lane
settled-ended g r = go (ended g r) refl
  where
    go : (t : Bool) → ended g r ≡ t → ended g (cond t (finished_lane r) r) ≡ false
    go true e = ne_eqb 0 (g.W + 4) (λ x. omega arith)
    go false e = e

module _ (g : Layout) (lanes : List Lane) where
  -- one lane more
  finish_more : (n : ℕ) → ended g (lane_at lanes n) ≡ true
      → finish_lanes g lanes (suc n) ≡ set (finish_lanes g lanes n) n (finished_lane (lane_at lanes n))
  unfolding finish_lanes
  finish_more n e = rw e

  finish_same : (n : ℕ) → ended g (lane_at lanes n) ≡ false → finish_lanes g lanes (suc n) ≡ finish_lanes g lanes n
  unfolding finish_lanes
  finish_same n e = rw e

  finish_length : (n : ℕ) → length (finish_lanes g lanes n) ≡ length lanes
  finish_length zero = unfold finish_lanes in refl
  finish_length (suc n) = by_bool (ended g (lane_at lanes n)) _
      (λ t. rw (finish_more n t) (length-set (finish_lanes g lanes n) n _ ∙ finish_length n)) (λ t. rw (finish_same n t) (finish_length n))

  finish_other : (n l : ℕ) → l ≢ n → lane_at (finish_lanes g lanes (suc n)) l ≡ lane_at (finish_lanes g lanes n) l
  finish_other n l d = by_bool (ended g (lane_at lanes n)) _
      (λ t. rw (finish_more n t) (lane_other (finish_lanes g lanes n) n _ l d)) (λ t. rw (finish_same n t))

  pub finish_later : (n l : ℕ) → n ≤ l → lane_at (finish_lanes g lanes n) l ≡ lane_at lanes l
  finish_later zero l u = unfold finish_lanes in refl
  finish_later (suc n) l u = finish_other n l (λ e. omega arith) ∙ finish_later n l (omega arith)

  finish_here : (n : ℕ) → n < length lanes → lane_at (finish_lanes g lanes (suc n)) n ≡ settled_lane g (lane_at lanes n)
  unfolding settled_lane
  finish_here n u = by_bool (ended g (lane_at lanes n)) _
      (λ t. rw (finish_more n t, t) (lane_same (finish_lanes g lanes n) n _ (omega (arith, finish_length n))))
      (λ t. rw (finish_same n t, t) (finish_later n n (omega arith)))

  pub finish_sooner : (n l : ℕ) → l < n → n ≤ length lanes → lane_at (finish_lanes g lanes n) l ≡ settled_lane g (lane_at lanes l)
  finish_sooner zero l u v = absurd (omega arith)
  finish_sooner (suc n) l u v = go (ℕ_discrete l n) (λ k. finish_sooner n l k (omega arith))
    where
      go : Dec (l ≡ n) → (l < n → lane_at (finish_lanes g lanes n) l ≡ settled_lane g (lane_at lanes l))
          → lane_at (finish_lanes g lanes (suc n)) l ≡ settled_lane g (lane_at lanes l)
      go (yes d) ih = rw d (finish_here n v)
      go (no d) ih = finish_other n l d ∙ ih (omega arith)

-- one after another
module _ (g : Layout) (a : List ℕ) (lanes : List Lane) (i : Inv g a lanes) where
  pub finish_inv : (n : ℕ) → n ≤ g.N → Inv g (put_all g (finals g lanes n) a) (finish_lanes g lanes n)
  finish_inv zero u = unfold finals finish_lanes put_all in i
  finish_inv (suc n) u =
      let ih = finish_inv n (omega arith) in
      by_bool (ended g (lane_at lanes n)) _
      (λ t. rw (finals_more g lanes a n t, finish_more g lanes n t) (ends (ended_true g (lane_at lanes n) t) ih))
      (λ t. rw (finals_same g lanes n t, finish_same g lanes n t) ih)
    where
      ends : (lane_at lanes n).made ≡ g.W + 4 → Inv g (put_all g (finals g lanes n) a) (finish_lanes g lanes n)
          → Inv g (stored g (final_store (lane_at lanes n)) (put_all g (finals g lanes n) a)) (set (finish_lanes g lanes n) n (finished_lane (lane_at lanes n)))
      ends m ih =
          let same = finish_later g lanes n n (omega arith) in
          rw same at (finish g (put_all g (finals g lanes n) a) (finish_lanes g lanes n) n ih u (rw same (busy_after g a n _ (i.lane n u) m)) (rw same m))
