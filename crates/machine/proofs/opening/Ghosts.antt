-- Lane records of a valid arena as it is found: a pending lane's write lacks only its map word, the others are idle.
-- With these the invariant holds before the arena is mended, so that mending it is ending those writes.
use mathlib.Core.Path.{◌≡◌, refl, sym, ap, ◌∙◌}
use mathlib.Core.Logic.{◌≢◌}
use mathlib.Core.List.{List}
use mathlib.Core.Bool.{true, false, cond}
use Prim.Native.Nat.{ℕ, zero, suc, ◌+◌, ◌-◌, ◌≤◌, ◌<◌}
use native.Mathlib.Omega.{arith}
use borrow.Author.Tests.{eq-eqb, ne_eqb}
use Rattle.layout.specs.Place.{Layout, LayoutOk}
use Rattle.format.specs.Sequence.{newer}
use Rattle.format.specs.MapWord.{bad_word}
use Rattle.format.proofs.Tests.{true_false, by_bool}
use Rattle.format.proofs.Sequences.{newer-set, successor_in}
use Rattle.machine.specs.declared.lane.Lane.{Lane}
use Rattle.machine.specs.state.Lane.{idle_lane, started_lane, lane_after, is_busy}
use Rattle.machine.specs.state.Handle.{lane_at}
use Rattle.machine.specs.state.Stores.{put_all}
use Rattle.machine.specs.state.Flog.{map_word, map_block, flog_word, newer_half, newer_word, free_of, pending, spare_of}
use Rattle.machine.specs.calls.Opening.{lane_readable, mends, mended, two_pending, count, each_once, found_lane, filled}
use Rattle.machine.specs.words.Valid.{Readable}
use Rattle.machine.proofs.stores.Once.{Once, once_of, count_same}
use Rattle.machine.proofs.stores.Stores.{Arena}
use Rattle.machine.proofs.invariant.Tidy.{Tidy}
use Rattle.machine.proofs.invariant.Inv.{planned_word, LaneInv, Inv, block_in, idle_inv}
use Rattle.machine.proofs.opening.Found.{ended, settled_lane, pending_is, mends_are}
use Rattle.machine.proofs.opening.Ends.{finish_lanes, finish_later, finish_sooner, finish_inv}
use Rattle.machine.proofs.opening.Mends.{readable_of, word_in, pending_old}
use Rattle.machine.proofs.opening.Spare.{two_apart, spare_count}
use Rattle.machine.proofs.invariant.Lanes.{listed, listed-length, lane-listed, inv_same, filled-length, filled-lane}
use lib.ListN.{length}

-- an arena that passes rules 6 to 8 and 18, in its layout
pub record Consistent (g : Layout) (a : List ℕ) : Type 0 where
  pub ok : LayoutOk g
  pub arena : Arena g a
  pub lanes : (l : ℕ) → l < g.N → lane_readable g a l ≡ true
  pub words : (s : ℕ) → s < g.E → bad_word g.I (map_word g a s) ≡ false
  pub tidy : Tidy g a
  pub apart : two_pending g a ≡ false
  pub once : each_once g (map_block g (mended g a)) (free_of g a) ≡ true

-- a pending lane's write, with all but its map word made
abbrev pending_lane : Layout → List ℕ → ℕ → Lane
pending_lane g a l =
    lane_after (started_lane (idle_lane (newer_word g a l 2) (newer_half g a l) (newer_word g a l 3)) (newer_word g a l 0) (newer_word g a l 1)) (g.W + 4)

unfoldable pub ghost_lane : Layout → List ℕ → ℕ → Lane
ghost_lane g a l = cond (pending g a l) (pending_lane g a l) (found_lane g a l)

abbrev pub ghosts : Layout → List ℕ → List Lane
ghosts g a = listed (ghost_lane g a) g.N

-- the newer half's sequence number is set
set_of : (g : Layout) (a : List ℕ) (l : ℕ) → newer_half g a l < 2 → (1 ≤ newer_word g a l 3) × (newer_word g a l 3 ≤ 3)
unfolding newer_half
set_of g a l u = go (newer (flog_word g a l 0 3) (flog_word g a l 1 3)) refl u
  where
    go : (n : ℕ) → newer (flog_word g a l 0 3) (flog_word g a l 1 3) ≡ n → n < 2 → (1 ≤ flog_word g a l n 3) × (flog_word g a l n 3 ≤ 3)
    go zero e v = (newer-set _ _).0 e
    go (suc zero) e v = (newer-set _ _).1 e
    go (suc (suc n)) e v = absurd (omega arith)

module _ (g : Layout) (ok : LayoutOk g) (a : List ℕ) (l : ℕ) (p : Readable g a l) where
  -- an idle lane as opening finds it
  pub idle_found : LaneInv g a l (found_lane g a l)
  idle_found =
      let t = set_of g a l p.newer in
      let n = successor_in (newer_word g a l 3) t.0 t.1 in
      let back : 1 - (1 - newer_half g a l) ≡ newer_half g a l = omega (arith, p.newer) in
      idle_inv g ok a l _ _ _ p.old (omega arith) n.0 n.1 (record {
        other = sym back;
        free = rw back refl;
        sector-in = rw back p.sector;
        new-in = rw back p.new;
        set_low = rw back t.0;
        set_high = rw back t.1;
        next = rw back refl;
      })

  pending-found : pending g a l ≡ true → LaneInv g a l (pending_lane g a l)
  pending-found e =
      let t = set_of g a l p.newer in
      record {
        busy_in = omega arith;
        block-in = p.new;
        half_in = p.newer;
        set_low = t.0;
        set_high = t.1;
        sector-in = p.sector;
        old-in = p.old;
        made_in = omega arith;
        still = λ e. true_false e;
        mapped = λ _. pending_old g a l e;
        written = λ k c d. wrote k c;
        before = λ u. absurd (omega arith);
        after = λ _. refl;
      }
    where
      wrote : (k : ℕ) → k < 4 → flog_word g a l (newer_half g a l) k ≡ planned_word (pending_lane g a l) k
      wrote zero c = refl
      wrote (suc zero) c = refl
      wrote (suc (suc zero)) c = refl
      wrote (suc (suc (suc zero))) c = refl
      wrote (suc (suc (suc (suc k)))) c = absurd (omega arith)

  ghost_found : LaneInv g a l (ghost_lane g a l)
  unfolding ghost_lane
  ghost_found = by_bool (pending g a l) (LaneInv g a l (ghost_lane g a l)) (λ t. rw t (pending-found t)) (λ t. rw t idle_found)

module _ (g : Layout) (a : List ℕ) (l : ℕ) where
  ghost_block : (ghost_lane g a l).block.0 ≡ spare_of g a l
  unfolding ghost_lane spare_of
  ghost_block = by_bool (pending g a l) ((ghost_lane g a l).block.0 ≡ spare_of g a l) (λ t. rw t) (λ t. rw t)

  ghost_busy : is_busy (ghost_lane g a l) ≡ true → pending g a l ≡ true
  unfolding ghost_lane
  ghost_busy e = by_bool (pending g a l) (pending g a l ≡ true) (λ t. t) (λ t. true_false (sym (rw t at e)))

  ghost_sector : pending g a l ≡ true → (ghost_lane g a l).sector.0 ≡ newer_word g a l 0
  unfolding ghost_lane
  ghost_sector t = rw t

  -- once its write is ended, the record is the one that opening gives
  ghost_settled : settled_lane g (ghost_lane g a l) ≡ found_lane g a l
  unfolding settled_lane ghost_lane
  ghost_settled = by_bool (pending g a l) (settled_lane g (ghost_lane g a l) ≡ found_lane g a l)
      (λ t. rw (t, eq-eqb (g.W + 4) (g.W + 4) refl)) (λ t. rw (t, ne_eqb 0 (g.W + 4) (λ e. omega arith)))

module _ (g : Layout) (a : List ℕ) (j : Consistent g a) where
  ghost_at : (l : ℕ) → l < g.N → lane_at (ghosts g a) l ≡ ghost_lane g a l
  ghost_at l u = lane-listed (ghost_lane g a) g.N l u

  found_in : (s : ℕ) → s < g.E → map_block g a s < g.I
  found_in s u = word_in g j.ok a s u (j.words s u) (j.tidy.words s u)

  ghost_inv : Inv g a (ghosts g a)
  unfolding Once
  ghost_inv = record {
    ok = j.ok;
    arena = j.arena;
    long = rw (listed-length (ghost_lane g a) g.N) (omega arith);
    lane = λ l u. rw (ghost_at l u) (ghost_found g j.ok a l (readable_of g a l (j.lanes l u)));
    apart = λ l k u v n. rw (ghost_at l u, ghost_at k v) (apart l k u v n);
    once = λ b u. ap (λ (n : ℕ). count g.E (map_block g a) b + n)
        (count_same g.N (spare_of g a) (block_in (ghosts g a)) b (λ l v. ap (λ (q : Lane). q.block.0) (ghost_at l v) ∙ ghost_block g a l))
        ∙ sym (spare_count g j.ok a j.arena j.lanes j.apart b) ∙ once_of g _ _ j.once b u;
    map_in = found_in;
    tidy = j.tidy;
  }
    where
      apart : (l k : ℕ) → l < g.N → k < g.N → l ≢ k → is_busy (ghost_lane g a l) ≡ true → is_busy (ghost_lane g a k) ≡ true
          → (ghost_lane g a l).sector.0 ≢ (ghost_lane g a k).sector.0
      apart l k u v n x y z =
          let p = ghost_busy g a l x in
          let q = ghost_busy g a k y in
          two_apart g a j.apart l k u v n p q (sym (ghost_sector g a l p) ∙ z ∙ ghost_sector g a k q)

  -- the arena with the lanes below n mended
  pub mends_inv : (n : ℕ) → n ≤ g.N → Inv g (put_all g (mends g a n) a) (finish_lanes g (ghosts g a) n)
  mends_inv n u = rw (mends_are g a (ghosts g a) ghost_inv n u) (finish_inv g a (ghosts g a) ghost_inv n u)

  -- a lane that has not had its turn is pending as it was found
  pub pending_kept : (n l : ℕ) → n ≤ l → l < g.N → pending g (put_all g (mends g a n) a) l ≡ pending g a l
  pending_kept n l u v =
      pending_is g _ _ (mends_inv n (omega arith)) l v ∙ ap (ended g) (finish_later g (ghosts g a) n l u)
      ∙ sym (pending_is g a (ghosts g a) ghost_inv l v)

  -- the arena that opening leaves, with the table that it gives
  pub opened_inv : (table : List Lane) → g.N ≤ length table → Inv g (mended g a) (filled g a table)
  opened_inv table long = inv_same g (mended g a) (finish_lanes g (ghosts g a) g.N) (filled g a table)
      (rw (filled-length g a table long) long)
      (λ l u. filled-lane g a table l u ∙ sym (settled l u))
      (mends_inv g.N (omega arith))
    where
      settled : (l : ℕ) → l < g.N → lane_at (finish_lanes g (ghosts g a) g.N) l ≡ found_lane g a l
      settled l u =
          finish_sooner g (ghosts g a) g.N l u (rw (listed-length (ghost_lane g a) g.N) (omega arith))
          ∙ ap (settled_lane g) (ghost_at l u) ∙ ghost_settled g a l
