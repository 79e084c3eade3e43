-- The invariant gives what opening judges, and a valid arena that is partly mended is valid: the stores that are left are those of
-- its own opening, and the records that opening gives stay the same.
use mathlib.Core.Path.{◌≡◌, sym, ap, ap₂, ◌∙◌}
use mathlib.Core.Logic.{◌≢◌}
use mathlib.Core.List.{List, [], ◌++◌, append_assoc, append-nil}
use mathlib.Core.Bool.{true, false}
use Prim.Native.Nat.{ℕ, zero, suc, ◌+◌, ◌-◌, ◌≤◌, ◌<◌}
use native.Mathlib.Omega.{arith}
use native.Mathlib.Nat.{add-suc, add-zero}
use Rattle.layout.specs.Place.{Layout}
use Rattle.format.proofs.MapWord.{bad_word_false}
use Rattle.machine.specs.declared.lane.Lane.{Lane}
use Rattle.machine.specs.state.Handle.{lane_at}
use Rattle.machine.specs.state.Stores.{Store, put_all}
use Rattle.machine.specs.state.Flog.{map_word, map_block, newer_word, free_of, pending}
use Rattle.machine.specs.calls.Opening.{mend_store, mends, pending_lanes, mended, two_pending, each_once, found_lane, found_lanes}
use Rattle.machine.proofs.stores.Once.{of_once, once_same}
use Rattle.machine.proofs.stores.Stores.{put_all-append}
use Rattle.machine.proofs.invariant.Inv.{Inv, block_in}
use Rattle.machine.proofs.opening.Found.{ended, ended_true, finals, found-lane, lane-readable, newer-after, busy_after, pending_is, mends_are}
use Rattle.machine.proofs.opening.Ends.{finish_lanes, finish_sooner, finish_inv, settled-ended}
use Rattle.machine.proofs.opening.Mends.{none-mended, none-pending, mends-newer, mends-newer_word}
use Rattle.machine.proofs.opening.Spare.{none_two}
use Rattle.machine.proofs.invariant.Lanes.{listed-length, listed_same, found-listed}
use Rattle.machine.proofs.opening.Ghosts.{Consistent, ghost_lane, ghosts, mends_inv, pending_kept}

-- ---- from the invariant

module _ (g : Layout) (a : List ℕ) (lanes : List Lane) (i : Inv g a lanes) where
  free_is : (l : ℕ) → l < g.N → free_of g a l ≡ block_in (finish_lanes g lanes g.N) l
  free_is l u =
      ap (λ (q : Lane). q.block.0) (found-lane g a l (lane_at lanes l) (i.lane l u))
      ∙ ap (λ (q : Lane). q.block.0) (sym (finish_sooner g lanes g.N l u i.long))

  none_twice : two_pending g a ≡ false
  none_twice = none_two g a (λ l j u v p q e. pair l j u (omega arith) (λ d. omega arith) p q e)
    where
      made : (l : ℕ) → l < g.N → pending g a l ≡ true → (lane_at lanes l).made ≡ g.W + 4
      made l u p = ended_true g (lane_at lanes l) (sym (pending_is g a lanes i l u) ∙ p)

      pair : (l j : ℕ) → l < g.N → j < g.N → l ≢ j → pending g a l ≡ true → pending g a j ≡ true → newer_word g a l 0 ≢ newer_word g a j 0
      pair l j u v n p q e =
          let wl = i.lane l u in
          let wj = i.lane j v in
          i.apart l j u v n (busy_after g a l _ wl (made l u p)) (busy_after g a j _ wj (made j v q))
          (sym (newer-after g a l _ wl (made l u p) 0 (omega arith)) ∙ e ∙ newer-after g a j _ wj (made j v q) 0 (omega arith))

  once_found : each_once g (map_block g (mended g a)) (free_of g a) ≡ true
  once_found = of_once g _ _ (once_same g.I g.E g.N (map_block g (put_all g (finals g lanes g.N) a)) (block_in (finish_lanes g lanes g.N)) _ _
      (λ s _. ap (λ (x : List Store). map_block g (put_all g x a) s) (mends_are g a lanes i g.N (omega arith)))
      free_is (finish_inv g a lanes i g.N (omega arith)).once)

  pub inv_consistent : Consistent g a
  inv_consistent = record {
    ok = i.ok;
    arena = i.arena;
    lanes = λ l u. lane-readable g a l (lane_at lanes l) (i.lane l u);
    words = λ s u. bad_word_false g.I s (map_word g a s) (i.map_in s u);
    tidy = i.tidy;
    apart = none_twice;
    once = once_found;
  }

-- ---- a valid arena, mended for the lanes below n

module _ (g : Layout) (a : List ℕ) (j : Consistent g a) (n : ℕ) (few : n ≤ g.N) where
  abbrev A : List ℕ
  A = put_all g (mends g a n) a

  pub consistent_kept : Consistent g A
  consistent_kept = inv_consistent g _ _ (mends_inv g a j n few)

  pending_done : (l : ℕ) → l < n → pending g A l ≡ false
  pending_done l u =
      pending_is g _ _ (mends_inv g a j n few) l (omega arith)
      ∙ ap (ended g) (finish_sooner g (ghosts g a) n l u (rw (listed-length (ghost_lane g a) g.N) few)) ∙ settled-ended g (lane_at (ghosts g a) l)

  mends-none : (m : ℕ) → m ≤ n → mends g A m ≡ []
  mends-none m u = none-mended g A m (λ l v. pending_done l (omega arith))

  pub pending-none : (m : ℕ) → m ≤ n → pending_lanes g A m ≡ 0
  pending-none m u = none-pending g A m (λ l v. pending_done l (omega arith))

  mend_same : (l : ℕ) → l < g.N → mend_store g A l ≡ mend_store g a l
  mend_same l u =
      rw (
        mends-newer_word g j.ok a j.arena j.lanes n few l 0 u (omega arith),
        mends-newer_word g j.ok a j.arena j.lanes n few l 2 u (omega arith),
      )

  mends-rest : (d : ℕ) → n + d ≤ g.N → mends g a (n + d) ≡ mends g a n ++ mends g A (n + d)
  mends-rest zero u = rw (add-zero, mends-none n (omega arith)) (sym (append-nil (mends g a n)))
  mends-rest (suc d) u = rw add-suc (one (mends-rest d (omega arith)))
    where
      one : mends g a (n + d) ≡ mends g a n ++ mends g A (n + d)
          → mends g a (suc (n + d)) ≡ mends g a n ++ mends g A (suc (n + d))
      one ih = unfold mends in (
          ap₂ {C = List Store} (λ x y. x ++ y) ih
          (rw (pending_kept g a j n (n + d) (omega arith) (omega arith), mend_same (n + d) (omega arith)))
          ∙ append_assoc (mends g a n) (mends g A (n + d)) _)

  -- the rest of the stores leave the arena that all of them leave
  pub mended_kept : mended g A ≡ mended g a
  mended_kept =
      let e : n + (g.N - n) ≡ g.N = omega arith in
      sym (ap (λ (x : List Store). put_all g x a) (rw e at (mends-rest (g.N - n) (omega arith))) ∙ put_all-append g (mends g a n) (mends g A g.N) a)

  pub found_kept : found_lanes g A g.N ≡ found_lanes g a g.N
  found_kept = found-listed g A g.N ∙ listed_same (found_lane g A) (found_lane g a) g.N same ∙ sym (found-listed g a g.N)
    where
      same : (l : ℕ) → l < g.N → found_lane g A l ≡ found_lane g a l
      same l u =
          rw (
            mends-newer_word g j.ok a j.arena j.lanes n few l 1 u (omega arith),
            mends-newer_word g j.ok a j.arena j.lanes n few l 3 u (omega arith),
            mends-newer g j.ok a j.arena j.lanes n few l u,
          )
