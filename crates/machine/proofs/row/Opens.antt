-- An opening answers and leaves what the row does: it stores the map words of the writes that lack only these, lane by lane, and each
-- makes the new block of its lane, which is filled, the sector's. Data words are left alone.
use mathlib.Core.Path.{◌≡◌, refl, sym, ap₂, ◌∙◌}
use mathlib.Core.Logic.{◌≢◌}
use mathlib.Core.List.{List}
use mathlib.Core.Bool.{true, cond}
use Prim.Native.Nat.{ℕ, zero, suc, ◌+◌, ◌≤◌, ◌<◌}
use native.Mathlib.Omega.{arith}
use native.Mathlib.Decide.{ℕ_discrete}
use lib.ListN.{length, length-append}
use borrow.Author.Tests.{eq-eqb, ne_eqb}
use Rattle.words.specs.Word.{word}
use Rattle.format.specs.MapWord.{mapped_to}
use Rattle.format.proofs.Tests.{true_false, by_bool}
use Rattle.layout.specs.Place.{Layout, in_data, in_map, at}
use Rattle.machine.specs.declared.lane.Lane.{Lane}
use Rattle.machine.specs.state.Handle.{Handle, lane_at, laid_out}
use Rattle.machine.specs.state.Stores.{put_all}
use Rattle.machine.specs.state.Flog.{map_word}
use Rattle.machine.specs.models.Row.{Sector, holds, Row, put, lacks_last, finished, settled, lacking}
use Rattle.machine.proofs.stores.Members.{one_length}
use Rattle.machine.proofs.stores.Stores.{elsewhere, stored-word}
use Rattle.machine.proofs.stores.MapStores.{word_other, map_fits}
use Rattle.machine.proofs.invariant.Inv.{Inv}
use Rattle.machine.proofs.invariant.Finish.{final_store}
use Rattle.machine.proofs.opening.Found.{ended, ended_true, finals, finals_more, finals_same, busy_after, idle_ended}
use Rattle.machine.proofs.opening.Ends.{finish_lanes, finish_inv}
use Rattle.machine.proofs.row.Contents.{content_of, content_kept, content_mapped}
use Rattle.machine.proofs.invariant.Held.{held_whole}
use Rattle.machine.proofs.row.State.{Lent, Rep}
use Rattle.machine.proofs.row.Steps.{last_store}
use Rattle.machine.specs.state.Lane.{is_busy}
use Rattle.layout.specs.declared.Told.{Told}

module _ (τ : Told) where
  -- the stores of an opening are map words, and leave a data word
  finals_data : (g : Layout) (lanes : List Lane) (a : List ℕ) → Inv g a lanes → (b k : ℕ) → b < g.I → k < g.W → (n : ℕ) → n ≤ g.N
      → word (put_all g (finals g lanes n) a) (at g (in_data b k)) ≡ word a (at g (in_data b k))
  finals_data g lanes a i b k u v zero w = unfold finals put_all in refl
  finals_data g lanes a i b k u v (suc n) w =
      let ih = finals_data g lanes a i b k u v n (omega arith) in
      by_bool (ended g (lane_at lanes n)) _
      (λ t. rw (finals_more g lanes a n t)
      (elsewhere g i.ok (put_all g (finals g lanes n) a) (in_map (lane_at lanes n).sector.0) (in_data b k) _ (i.lane n w).sector-in (u, v)
      (λ e. true_false (cc)) ∙ ih))
      (λ t. rw (finals_same g lanes n t) ih)

  -- ---- against the row

  module _ (row : Row) (a : List ℕ) (h : Handle) (k : Rep τ row a h) where
    abbrev g : Layout
    g = laid_out h

    i : Inv g a h.table
    i = k.held.good.inv

    -- the row's test and the record's
    lacks_is : (l : ℕ) → l < g.N → lacks_last h.figures (row.lane l) ≡ ended g (lane_at h.table l)
    lacks_is l u = rw (k.lane l u).is (by_bool (is_busy (lane_at h.table l)) _
        (λ t. rw t (last_store h.distance h.figures (lane_at h.table l).made))
        (λ t. rw t (sym (idle_ended g a l (lane_at h.table l) (i.lane l u) t))))

    finished_is : (sectors : ℕ → Sector) (l : ℕ) (u : l < g.N) → finished h.figures sectors (row.lane l)
        ≡ cond (ended g (lane_at h.table l)) (put sectors (lane_at h.table l).sector.0 (holds (k.lane l u).bytes)) sectors
    finished_is sectors l u = rw (k.lane l u).is (by_bool (is_busy (lane_at h.table l)) _
        (λ t. rw (t, last_store h.distance h.figures (lane_at h.table l).made))
        (λ t. rw (t, idle_ended g a l (lane_at h.table l) (i.lane l u) t)))

    -- how many writes are finished
    pub lacking_is : (n : ℕ) → n ≤ g.N → lacking h.figures row n ≡ length (finals g h.table n)
    unfolding lacking finals
    lacking_is zero u = refl
    lacking_is (suc n) u = rw (lacks_is n u, length-append (finals g h.table n))
        (ap₂ (λ x y. x + y) (lacking_is n (omega arith)) (sym (one_length (final_store (lane_at h.table n)) (ended g (lane_at h.table n)))))

    -- the arena with the writes of the lanes below n ended
    abbrev ended_in : ℕ → List ℕ
    ended_in n = put_all g (finals g h.table n) a

    ended_inv : (n : ℕ) → n ≤ g.N → Inv g (ended_in n) (finish_lanes g h.table n)
    ended_inv = finish_inv g a h.table i

    -- one lane more
    module _ (n : ℕ) (u : n < g.N) (t : ended g (lane_at h.table n) ≡ true) where
      abbrev r : Lane
      r = lane_at h.table n

      same_data : (b x : ℕ) → b < g.I → x < g.W → word (ended_in (suc n)) (at g (in_data b x)) ≡ word a (at g (in_data b x))
      same_data b x v w = finals_data g h.table a i b x v w (suc n) u

      map-word : (s : ℕ) → s ≡ r.sector.0 → map_word g (ended_in (suc n)) s ≡ mapped_to r.block.0
      map-word s e = rw (e, finals_more g h.table a n t)
          (stored-word g i.ok (ended_in n) (final_store r) (ended_inv n (omega arith)).arena
          (map_fits g i.ok a i.arena _ _ (i.lane n u).sector-in (i.lane n u).block-in))

      map_other : (s : ℕ) → s < g.E → s ≢ r.sector.0 → map_word g (ended_in (suc n)) s ≡ map_word g (ended_in n) s
      map_other s v d = rw (finals_more g h.table a n t)
          (word_other g i.ok (ended_in n) r.sector.0 (mapped_to r.block.0) (i.lane n u).sector-in s v d)

      lent : Lent h.distance h.figures a r (k.lane n u).bytes
      lent = let e = ended_true g r t in (k.lane n u).lent (busy_after g a n r (i.lane n u) e)

      -- the lane's sector, and the others
      landed : (s : ℕ) → s ≡ r.sector.0 → content_of h.distance h.figures (ended_in (suc n)) s ≡ holds (k.lane n u).bytes
      landed s e = let m = ended_true g r t in
          content_mapped h.distance h.figures i.ok (held_whole τ a h k.held) (ended_in (suc n)) (ended_inv (suc n) u).arena s r.block.0
          (i.lane n u).block-in (map-word s e) (k.lane n u).bytes lent.small (lent.full (omega arith))
          (λ x c d. same_data r.block.0 x (i.lane n u).block-in d ∙ lent.words x (omega arith) d)

      left : (s : ℕ) → s < g.E → s ≢ r.sector.0 → content_of h.distance h.figures (ended_in (suc n)) s ≡ content_of h.distance h.figures (ended_in n) s
      left s v d = let w = ended_inv n (omega arith) in
          content_kept h.distance h.figures i.ok (held_whole τ a h k.held) (ended_in n) (ended_in (suc n)) w.arena (ended_inv (suc n) u).arena s
          (w.map_in s v) (map_other s v d)
          (λ x c. same_data _ x (w.map_in s v) c ∙ sym (finals_data g h.table a i _ x (w.map_in s v) c n (omega arith)))

    settle : (n : ℕ) → n < g.N → ((s : ℕ) → s < g.E → settled h.figures row n s ≡ content_of h.distance h.figures (ended_in n) s)
        → (s : ℕ) → s < g.E → settled h.figures row (suc n) s ≡ content_of h.distance h.figures (ended_in (suc n)) s
    unfolding settled
    settle n u ih s v = rw (finished_is (settled h.figures row n) n u) (by_bool (ended g (lane_at h.table n)) _
        (λ t. rw t (go t (ℕ_discrete s (lane_at h.table n).sector.0)))
        (λ t. rw (t, finals_same g h.table n t) (ih s v)))
      where
        go : ended g (lane_at h.table n) ≡ true → Dec (s ≡ (lane_at h.table n).sector.0)
            → put (settled h.figures row n) (lane_at h.table n).sector.0 (holds (k.lane n u).bytes) s
            ≡ content_of h.distance h.figures (ended_in (suc n)) s
        go t (yes e) = rw (eq-eqb s (lane_at h.table n).sector.0 e) (sym (landed n u t s e))
        go t (no d) = rw (ne_eqb s (lane_at h.table n).sector.0 d) (ih s v ∙ sym (left n u t s v d))

    pub settled_is : (n : ℕ) → n ≤ g.N → (s : ℕ) → s < g.E
        → settled h.figures row n s ≡ content_of h.distance h.figures (put_all g (finals g h.table n) a) s
    settled_is zero u s v = unfold settled finals put_all in (k.sector s v)
    settled_is (suc n) u s v = settle n u (settled_is n (omega arith)) s v
