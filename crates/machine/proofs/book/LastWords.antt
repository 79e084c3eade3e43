-- The writes of a book that lack only their map word: opening finds just their lanes pending, as many, and its stores are their map words.
-- No two writes share a lane, so writes and lanes are counted alike.
use mathlib.Core.Path.{◌≡◌, refl, sym, ap, ap₂, ◌∙◌}
use mathlib.Core.Logic.{⊎_elim}
use mathlib.Core.List.Memᴰ
use mathlib.Core.List.{
  List,
  [],
  ◌∷◌,
  ◌++◌,
  Memᴰ,
}
use mathlib.Core.Bool.{Bool, true, false, cond, ◌&&◌, ◌||◌}
use Prim.Native.Nat.{ℕ, zero, suc, ◌+◌, ◌<◌}
use native.Mathlib.Omega.{arith}
use native.Mathlib.Decide.{ℕ_discrete}
use lib.Dec.{eqb}
use lib.ListN.{length, length-append}
use borrow.Author.Tests.{eqb-true, eq-eqb, ne_eqb, lt-ltb}
use Rattle.format.specs.MapWord.{mapped_to}
use Rattle.format.proofs.Tests.{true_false, by_bool, and_elim}
use Rattle.layout.specs.Place.{Layout, in_map}
use Rattle.machine.specs.declared.lane.Lane.{Lane}
use Rattle.machine.specs.state.Lane.{write_stores}
use Rattle.machine.specs.state.Handle.{lane_at}
use Rattle.machine.specs.state.Stores.{Store}
use Rattle.machine.specs.state.Flog.{free_of, pending}
use Rattle.machine.specs.calls.Opening.{layout_in, mends, pending_lanes, count}
use Rattle.machine.specs.models.Book.{Entry, any_entry, in_flight_yet, lacks_map_word, last_words}
use Rattle.machine.specs.claims.DemandThree.{Differ, SameMembers}
use Rattle.machine.proofs.stores.Members.{one_out}
use Rattle.machine.proofs.stores.Once.{hit, count_same, count_change}
use Rattle.machine.proofs.invariant.Inv.{LaneInv, Inv}
use Rattle.machine.proofs.invariant.Finish.{final_store}
use Rattle.machine.proofs.opening.Found.{ended, last_next, finals, idle_ended, pending_is, mends_are}
use Rattle.machine.proofs.book.Entries.{any_some, lane-none, lane_test}
use Rattle.machine.proofs.book.Lanes.{LaneOf, untouched, written, flying_lane, lane_with, lane-at, lane_flying, lane-moved}
use Rattle.layout.specs.declared.Told.{Told}

-- ---- the members of the two lists

module _ (g : Layout) (lanes : List Lane) where
  finals_in : (n l : ℕ) → l < n → ended g (lane_at lanes l) ≡ true → Memᴰ (final_store (lane_at lanes l)) (finals g lanes n)
  unfolding finals
  finals_in zero l u e = absurd (omega arith)
  finals_in (suc n) l u e = go (ℕ_discrete l n) (λ v. finals_in n l v e)
    where
      go : Dec (l ≡ n) → (l < n → Memᴰ (final_store (lane_at lanes l)) (finals g lanes n))
          → Memᴰ (final_store (lane_at lanes l)) (finals g lanes n ++ cond (ended g (lane_at lanes n)) (final_store (lane_at lanes n) ∷ []) [])
      go (yes p) ih = Memᴰ.append_right (finals g lanes n) (rw (← p, e) (Memᴰ.head refl))
      go (no p) ih = Memᴰ.append_left _ (ih (omega arith))

  finals_out : (n : ℕ) (st : Store) → Memᴰ st (finals g lanes n)
      → (l : ℕ) × (l < n) × (ended g (lane_at lanes l) ≡ true) × (st ≡ final_store (lane_at lanes l))
  unfolding finals
  finals_out zero st m = absurd (Memᴰ.not-nil m)
  finals_out (suc n) st m = ⊎_elim (λ k. let r = finals_out n st k in (r.0, omega (arith, r.1), r.2, r.3))
      (λ k. let r = one_out (final_store (lane_at lanes n)) _ st k in (n, omega arith, r.0, r.1)) (Memᴰ.append_cases (finals g lanes n) m)

count_none : (n : ℕ) → count n (λ l. 0) 1 ≡ 0
unfolding count
count_none zero = refl
count_none (suc n) = rw (count_none n)

-- pending lanes, counted
pending-count : (g : Layout) (a : List ℕ) (n : ℕ) → pending_lanes g a n ≡ count n (λ l. cond (pending g a l) 1 0) 1
unfolding pending_lanes count
pending-count g a zero = refl
pending-count g a (suc n) = ap₂ (λ x y. x + y) (pending-count g a n) (one (pending g a n))
  where
    one : (t : Bool) → ◌≡◌ {A = ℕ} (cond t 1 0) (cond (eqb 1 (cond t 1 0)) 1 0)
    one true = refl
    one false = refl

module _ (τ : Told) where
  module _ (a : List ℕ) where
    -- the map word of a write
    abbrev pub last_of : Entry → Store
    last_of e = record { place = in_map e.sector; value = mapped_to (free_of (layout_in τ a) a e.lane) }

    pub last_in : (e : Entry) (b : List Entry) → Memᴰ e b → lacks_map_word τ a e ≡ true → Memᴰ (last_of e) (last_words τ a b)
    unfolding last_words
    last_in e b (Memᴰ.head {x = d} p) t = Memᴰ.append_left {s = cond (lacks_map_word τ a d) (last_of d ∷ []) []} _ (rw (← p, t) (Memᴰ.head refl))
    last_in e b (Memᴰ.tail {x = d} {xs = c} m) t = Memᴰ.append_right (cond (lacks_map_word τ a d) (last_of d ∷ []) []) (last_in e c m t)

    pub last_out : (b : List Entry) (st : Store) → Memᴰ st (last_words τ a b)
        → (e : Entry) × Memᴰ e b × (lacks_map_word τ a e ≡ true) × (st ≡ last_of e)
    unfolding last_words
    last_out [] st m = absurd (Memᴰ.not-nil m)
    last_out (e ∷ b) st m = ⊎_elim (λ k. let r = one_out (last_of e) (lacks_map_word τ a e) st k in (e, Memᴰ.head refl, r.0, r.1))
        (λ k. let r = last_out b st k in (r.0, Memᴰ.tail r.1, r.2, r.3))
        (Memᴰ.append_cases (cond (lacks_map_word τ a e) (last_of e ∷ []) []) m)

    -- ---- which lanes lack only that

    abbrev lane_lacks : List Entry → ℕ → Bool
    lane_lacks b l = any_entry (λ e. eqb e.lane l && lacks_map_word τ a e) b

    lacks_flies : (e : Entry) → lacks_map_word τ a e ≡ true → in_flight_yet τ a e ≡ true
    lacks_flies e t = lt-ltb e.tally (write_stores (layout_in τ a)) (omega (arith, eqb-true (e.tally + 1) (write_stores (layout_in τ a)) t))

    with-ended : (e : Entry) → ended (layout_in τ a) (lane_with τ a e) ≡ lacks_map_word τ a e
    with-ended e = by_bool (in_flight_yet τ a e) _ (λ t. rw (lane_flying τ a e t) (sym (last_next e.tally (layout_in τ a).W)))
        (λ t. rw (lane-moved τ a e t) (ne_eqb 0 ((layout_in τ a).W + 4) (λ p. omega arith)
        ∙ sym (by_bool (lacks_map_word τ a e) _ (λ v. true_false (sym (lacks_flies e v) ∙ t)) (λ v. v))))

    -- counted by lanes
    last_count : (b : List Entry) → Differ b → ((e : Entry) → Memᴰ e b → e.lane < (layout_in τ a).N)
        → length (last_words τ a b) ≡ count (layout_in τ a).N (λ l. cond (lane_lacks b l) 1 0) 1
    unfolding last_words any_entry
    last_count [] f u = sym (count_none (layout_in τ a).N)
    last_count (e ∷ b) f u =
        rw length-append (omega (
          arith,
          last_count b f.1 (λ d m. u d (Memᴰ.tail m)),
          count_change (layout_in τ a).N (λ l. cond (lane_lacks b l) 1 0) (λ l. cond (eqb e.lane l && lacks_map_word τ a e || lane_lacks b l) 1 0)
              1 e.lane (u e (Memᴰ.head refl)) (λ l _ n. rw (ne_eqb e.lane l (λ p. n (sym p)))),
          before,
          after (lacks_map_word τ a e),
        ))
      where
        none : lane_lacks b e.lane ≡ false
        none = lane-none (lacks_map_word τ a) b e.lane (λ d m p. (f.0 d m).0 (sym p))

        before : hit 1 (cond (lane_lacks b e.lane) 1 0) ≡ 0
        before = unfold hit in (rw none)

        after : (t : Bool) → length (cond t (last_of e ∷ []) []) ≡ hit 1 (cond (eqb e.lane e.lane && t || lane_lacks b e.lane) 1 0)
        after true = unfold hit in (rw (eq-eqb e.lane e.lane refl))
        after false = unfold hit in (rw (eq-eqb e.lane e.lane refl, none))

    module _ (b : List Entry) (f : Differ b) (A : List ℕ) (lanes : List Lane) (i : Inv (layout_in τ a) A lanes)
        (at : (l : ℕ) → l < (layout_in τ a).N → LaneOf τ a b l (lane_at lanes l)) (lane_in : (e : Entry) → Memᴰ e b → e.lane < (layout_in τ a).N) where
      ended_is : (l : ℕ) → l < (layout_in τ a).N → ended (layout_in τ a) (lane_at lanes l) ≡ lane_lacks b l
      ended_is l u = go (lane_at lanes l) (i.lane l u) (at l u)
        where
          go : (r : Lane) → LaneInv (layout_in τ a) A l r → LaneOf τ a b l r → ended (layout_in τ a) r ≡ lane_lacks b l
          go r w (untouched x n) = idle_ended (layout_in τ a) A l r w x.idle ∙ sym (lane-none (lacks_map_word τ a) b l n)
          go r w (written e m p is) = ap (ended (layout_in τ a)) is ∙ with-ended e ∙ sym (rw (← p) (lane_test (lacks_map_word τ a) e b f m))

      -- opening's stores are their map words
      pub mends_last : SameMembers (mends (layout_in τ a) A (layout_in τ a).N) (last_words τ a b)
      mends_last = rw (mends_are (layout_in τ a) A lanes i (layout_in τ a).N (omega arith)) (record { to = to; from = from })
        where
          lane_is : (e : Entry) → Memᴰ e b → lacks_map_word τ a e ≡ true → lane_at lanes e.lane ≡ flying_lane τ a e
          lane_is e m t = lane-at τ a b f e m (lane_at lanes e.lane) (at e.lane (lane_in e m)) ∙ lane_flying τ a e (lacks_flies e t)

          to : (st : Store) → Memᴰ st (finals (layout_in τ a) lanes (layout_in τ a).N) → Memᴰ st (last_words τ a b)
          to st m =
              let r = finals_out (layout_in τ a) lanes (layout_in τ a).N st m in
              let w = any_some (λ e. eqb e.lane r.0 && lacks_map_word τ a e) b (sym (ended_is r.0 r.1) ∙ r.2) in
              let p = and_elim (eqb w.0.lane r.0) (lacks_map_word τ a w.0) w.2 in
              let q = eqb-true w.0.lane r.0 p.0 in
              Memᴰ.cast (r.3 ∙ ap final_store (ap (lane_at lanes) (sym q) ∙ lane_is w.0 w.1 p.1)) (last_in w.0 b w.1 p.1)

          from : (st : Store) → Memᴰ st (last_words τ a b) → Memᴰ st (finals (layout_in τ a) lanes (layout_in τ a).N)
          from st m =
              let r = last_out b st m in
              let is = lane_is r.0 r.1 r.2 in
              Memᴰ.cast (r.3 ∙ ap final_store (sym is)) (finals_in (layout_in τ a) lanes (layout_in τ a).N r.0.lane (lane_in r.0 r.1)
              (ended_is r.0.lane (lane_in r.0 r.1) ∙ lane_test (lacks_map_word τ a) r.0 b f r.1 ∙ r.2))

      -- as many as the pending lanes
      pub pending_last : pending_lanes (layout_in τ a) A (layout_in τ a).N ≡ length (last_words τ a b)
      pending_last =
          pending-count (layout_in τ a) A (layout_in τ a).N
          ∙ count_same (layout_in τ a).N (λ l. cond (lane_lacks b l) 1 0) (λ l. cond (pending (layout_in τ a) A l) 1 0) 1
          (λ l u. ap (λ (t : Bool). cond t 1 0) (pending_is (layout_in τ a) A lanes i l u ∙ ended_is l u))
          ∙ sym (last_count b f lane_in)
