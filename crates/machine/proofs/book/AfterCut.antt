-- After a cut and an opening: the book with the writes that lacked only their map word finished. So the arena is again the first one with
-- a book's stores put in, and what is read and what the lanes are follows as for any book.
use mathlib.Core.Path.{◌≡◌, refl, sym, ap, ◌∙◌}
use mathlib.Core.Logic.{◌≢◌}
use mathlib.Core.List.Memᴰ
use mathlib.Core.List.{List, [], ◌∷◌, map, Memᴰ}
use mathlib.Core.Bool.{true, false, cond, ◌&&◌}
use Prim.Native.Nat.{ℕ, ◌+◌, ◌/◌, ◌≤◌, ◌<◌}
use native.Mathlib.Omega.{arith}
use native.Mathlib.Decide.{ℕ_discrete, dec_lt}
use lib.Dec.{eqb, leb}
use lib.ListN.{length}
use borrow.Author.Tests.{eqb-true, eqb-false, eq-eqb, ne_eqb, lt-ltb, le-ltb, le-leb, lt-leb, leb-true, leb-false}
use Rattle.format.proofs.Tests.{by_bool}
use Rattle.machine.specs.declared.lane.Lane.{Lane}
use Rattle.machine.specs.state.Handle.{Handle, lane_at}
use Rattle.machine.specs.state.Lane.{idle_lane, write_stores}
use Rattle.machine.specs.state.Stores.{Store, put_all}
use Rattle.machine.specs.calls.Opening.{Room, figures_in, layout_in, found_lane, Opening, open_of, mends, pending_lanes}
use Rattle.machine.specs.claims.Opening.{OneCut, CutsTold, CutsLeaveNoTrace}
use Rattle.machine.specs.calls.Reading.{read_of}
use Rattle.machine.specs.calls.History.{State}
use Rattle.machine.specs.models.Book.{Entry, lacks_map_word, last_words, kept}
use Rattle.machine.specs.claims.DemandThree.{Differ, SameMembers, SequenceStored, AfterCut}
use Rattle.machine.proofs.stores.Stores.{Agree, put_all-append, any_order}
use Rattle.machine.proofs.invariant.Inv.{LaneInv, Inv}
use Rattle.machine.proofs.stores.Kinds.{store_log}
use Rattle.machine.proofs.opening.Found.{settled_lane, idle_ended, found-lane}
use Rattle.machine.proofs.opening.Opens.{opened_distance, opened_figures, opened-lane, opened_idle}
use Rattle.machine.proofs.invariant.Good.{good_number}
use Rattle.machine.proofs.calls.Records.{idle_is}
use Rattle.machine.proofs.calls.Lent.{opening_past}
use Rattle.machine.proofs.invariant.Held.{Held, held_open, lanes-in, sectors_out}
use Rattle.machine.proofs.invariant.Histories.{held_small}
use Rattle.machine.proofs.opening.Settled.{each-once}
use Rattle.machine.proofs.opening.Cuts.{cuts_no_trace}
use Rattle.machine.proofs.row.Reads.{read_holds}
use Rattle.machine.proofs.book.Entries.{retally}
use Rattle.machine.proofs.book.FirstArena.{FirstArena, held_inv}
use Rattle.machine.proofs.book.Stores.{booked, store_of, KeptAs, EntryOk, entry_like, BookOk, book_like, kept_from, kept_fits, kept_agree, kept_more}
use Rattle.machine.proofs.book.Lanes.{moved_on, lane_then, LaneOf, untouched, written, lane_with, lane_flying, lane-moved}
use Rattle.machine.proofs.book.Reads.{read_old, read_new}
use Rattle.machine.proofs.book.Sim.{Sim}
use Rattle.machine.proofs.book.LastWords.{last_of, last_in, last_out, mends_last, pending_last}
use Rattle.layout.specs.Place.{layout_of}
use Rattle.layout.specs.declared.Told.{Told}
use Rattle.machine.specs.words.Valid.{RoomFor}

module _ (τ : Told) where
  -- ---- the lanes

  module _ (a : List ℕ) where
    then_none : (b : List Entry) (l : ℕ) → ((e : Entry) → Memᴰ e b → e.lane ≢ l) → lane_then τ a b l ≡ found_lane (layout_in τ a) a l
    unfolding lane_then
    then_none [] l n = refl
    then_none (e ∷ b) l n = rw (ne_eqb e.lane l (n e (Memᴰ.head refl))) (then_none b l (λ d m. n d (Memᴰ.tail m)))

    then_at : (e : Entry) (b : List Entry) → Differ b → Memᴰ e b
        → lane_then τ a b e.lane ≡ cond (leb (write_stores (layout_in τ a)) (e.tally + 1)) (moved_on τ a e) (found_lane (layout_in τ a) a e.lane)
    unfolding lane_then
    then_at e b f (Memᴰ.head {xs = c} p) =
        rw (← p, eq-eqb e.lane e.lane refl, then_none c e.lane (λ d m z. (f.0 d m).0 (ap (λ (y : Entry). y.lane) (sym p) ∙ sym z)))
    then_at e b f (Memᴰ.tail {x = d} {xs = c} m) = rw (ne_eqb d.lane e.lane (f.0 e m).0) (then_at e c f.1 m)

    -- a lane without a kept write
    then_other : (b : List Entry) (l : ℕ) → ((e : Entry) → Memᴰ e b → e.lane ≡ l → e.tally + 1 < write_stores (layout_in τ a))
        → lane_then τ a b l ≡ found_lane (layout_in τ a) a l
    unfolding lane_then
    then_other [] l n = refl
    then_other (e ∷ b) l n = go (ℕ_discrete e.lane l) (then_other b l (λ d m. n d (Memᴰ.tail m)))
      where
        go : Dec (e.lane ≡ l) → lane_then τ a b l ≡ found_lane (layout_in τ a) a l
            → cond (eqb e.lane l && leb (write_stores (layout_in τ a)) (e.tally + 1)) (moved_on τ a e) (lane_then τ a b l) ≡ found_lane (layout_in τ a) a l
        go (yes p) ih = rw (eq-eqb e.lane l p, lt-leb (write_stores (layout_in τ a)) (e.tally + 1) (n e (Memᴰ.head refl) p)) ih
        go (no d) ih = rw (ne_eqb e.lane l d) ih

    -- a record as opening finds it once the write is settled
    abbrev idled : Lane → Lane
    idled r = idle_lane r.block.0 r.half r.sequence.0

    settled-with : (e : Entry) → idled (settled_lane (layout_in τ a) (lane_with τ a e))
        ≡ cond (leb (write_stores (layout_in τ a)) (e.tally + 1)) (moved_on τ a e) (found_lane (layout_in τ a) a e.lane)
    unfolding settled_lane
    settled-with e = go (dec_lt (e.tally + 1) (write_stores (layout_in τ a))) (ℕ_discrete e.tally ((layout_in τ a).W + 4))
      where
        T : Type 0
        T = idled (settled_lane (layout_in τ a) (lane_with τ a e))
            ≡ cond (leb (write_stores (layout_in τ a)) (e.tally + 1)) (moved_on τ a e) (found_lane (layout_in τ a) a e.lane)

        go : Dec (e.tally + 1 < write_stores (layout_in τ a)) → Dec (e.tally ≡ (layout_in τ a).W + 4) → T
        go (yes u) d = rw (
          lane_flying τ a e (lt-ltb e.tally (write_stores (layout_in τ a)) (omega arith)),
          ne_eqb e.tally ((layout_in τ a).W + 4) (λ p. omega arith),
          lt-leb (write_stores (layout_in τ a)) (e.tally + 1) u,
        )
        go (no u) (yes p) = rw (
          lane_flying τ a e (lt-ltb e.tally (write_stores (layout_in τ a)) (omega arith)),
          eq-eqb e.tally ((layout_in τ a).W + 4) p,
          le-leb (write_stores (layout_in τ a)) (e.tally + 1) (omega arith),
        )
        go (no u) (no p) = rw (
          lane-moved τ a e (le-ltb e.tally (write_stores (layout_in τ a)) (omega arith)),
          ne_eqb 0 ((layout_in τ a).W + 4) (λ q. omega arith),
          le-leb (write_stores (layout_in τ a)) (e.tally + 1) (omega arith),
        )

    -- what opening finds of a lane of the book
    lane-then : (b : List Entry) → Differ b → (A : List ℕ) (l : ℕ) (r : Lane) → LaneInv (layout_in τ a) A l r → LaneOf τ a b l r
        → found_lane (layout_in τ a) A l ≡ lane_then τ a b l
    lane-then b f A l r i k = found-lane (layout_in τ a) A l r i ∙ go k
      where
        go : LaneOf τ a b l r → idled (settled_lane (layout_in τ a) r) ≡ lane_then τ a b l
        go (untouched x n) = unfold settled_lane in
            (rw (idle_ended (layout_in τ a) A l r i x.idle) (sym x.is ∙ sym (then_none b l n)))
        go (written e m p is) = rw (is, ← p) (settled-with e ∙ sym (then_at e b f m))

  -- ---- the book with those writes finished

  module _ (a : List ℕ) (bytes : ℕ → List ℕ) where
    abbrev done_tally : Entry → ℕ
    done_tally e = cond (lacks_map_word τ a e) (write_stores (layout_in τ a)) e.tally

    abbrev done : Entry → Entry
    done = retally done_tally

    module _ (x : FirstArena τ a) (b : List Entry) (y : State) (z : Sim τ a bytes b y) where
      abbrev c : List Entry
      c = map done b

      done_lacks : (e : Entry) → lacks_map_word τ a e ≡ true → done_tally e ≡ e.tally + 1
      done_lacks e t = rw t (sym (eqb-true (e.tally + 1) (write_stores (layout_in τ a)) t))

      done_else : (e : Entry) → lacks_map_word τ a e ≡ false → done_tally e ≡ e.tally
      done_else e t = rw t

      done_ok : BookOk τ a bytes c
      done_ok = book_like τ a bytes done_tally b z.ok each
        where
          each : (e : Entry) → EntryOk τ a bytes e → EntryOk τ a bytes (retally done_tally e)
          each e o = by_bool (lacks_map_word τ a e) _
              (λ t. let q = eqb-true (e.tally + 1) (write_stores (layout_in τ a)) t in
              entry_like τ a bytes done_tally e o (omega (arith, done_lacks e t)) (λ u. omega arith))
              (λ t. entry_like τ a bytes done_tally e o (omega (arith, done_else e t, o.tally_in)) (λ u. omega (arith, done_else e t)))

      -- the map word is the last store
      last_is : (e : Entry) (k : ℕ) → k + 1 ≡ write_stores (layout_in τ a) → store_of τ a bytes e k ≡ last_of τ a e
      last_is e k p = store_log (layout_in τ a) _ (bytes e.lane) k 4 (omega arith)

      last_known : (st : Store) → Memᴰ st (last_words τ a b) → KeptAs τ a bytes c st
      last_known st m =
          let r = last_out τ a b st m in
          record {
            entry = done r.0;
            member = Memᴰ.map done r.1;
            number = r.0.tally;
            early = omega (arith, done_lacks r.0 r.2);
            is = r.3 ∙ sym (last_is r.0 r.0.tally (eqb-true (r.0.tally + 1) (write_stores (layout_in τ a)) r.2));
          }

      done_arena : booked τ a bytes c ≡ put_all (layout_in τ a) (last_words τ a b) y.arena
      done_arena = rw z.arena
          (kept_more τ a bytes x done_tally (last_words τ a b) b done_ok (λ e m. grows e)
          (λ e m k u v. by_bool (lacks_map_word τ a e) _
          (λ t. let p : k ≡ e.tally = omega (arith, done_lacks e t) in
          Memᴰ.cast (rw p (last_is e e.tally (eqb-true (e.tally + 1) (write_stores (layout_in τ a)) t))) (last_in τ a e b m t))
          (λ t. absurd (omega (arith, done_else e t)))) last_known
          ∙ put_all-append (layout_in τ a) (kept τ a bytes b) (last_words τ a b) a)
        where
          grows : (e : Entry) → e.tally ≤ done_tally e
          grows e = by_bool (lacks_map_word τ a e) _ (λ t. omega (arith, done_lacks e t)) (λ t. omega (arith, done_else e t))

      -- ---- the opening

      same_figures : figures_in y.arena ≡ figures_in a
      same_figures = z.held.good.figures ∙ z.figures

      inv : Inv (layout_in τ a) y.arena y.handle.table
      inv = rw same_figures at (held_inv τ y.arena y.handle z.held)

      in_lane : (e : Entry) → Memᴰ e b → e.lane < (layout_in τ a).N
      in_lane e m = (z.ok.each e m).lane_in

      same_stores : SameMembers (mends (layout_in τ a) y.arena (layout_in τ a).N) (last_words τ a b)
      same_stores = mends_last τ a b z.ok.differ y.arena y.handle.table inv z.lanes in_lane

      -- those stores in any order
      mended_is : put_all (layout_in τ a) (mends (layout_in τ a) y.arena (layout_in τ a).N) y.arena ≡ put_all (layout_in τ a) (last_words τ a b) y.arena
      mended_is = sym (any_order (layout_in τ a) x.ok (last_words τ a b) (mends (layout_in τ a) y.arena (layout_in τ a).N) y.arena inv.arena
          (λ st m. kept_fits τ a bytes x c done_ok st (member st m)) (agree (kept_agree τ a bytes x c done_ok)) same_stores.from same_stores.to)
        where
          member : (st : Store) → Memᴰ st (last_words τ a b) → Memᴰ st (kept τ a bytes c)
          member st m = kept_from τ a bytes c st (last_known st m)

          agree : Agree (kept τ a bytes c) → Agree (last_words τ a b)
          agree f = unfold Agree in (λ st su m n e. f st su (member st m) (member su n) e)

      module _ (h : Handle) (k : Held τ a h) (work : Room) (room : RoomFor (figures_in a) work) where
        abbrev o : Opening
        o = open_of τ y.arena work

        number : o.number ≡ 0
        number = good_number τ y.arena y.handle.distance y.handle.figures y.handle.table z.held.good work (rw z.figures room)

        opened_arena : o.arena ≡ put_all (layout_in τ a) (last_words τ a b) y.arena
        opened_arena = unfold open_of in (rw (number, same_figures) mended_is)

        figures : o.handle.figures ≡ figures_in a
        figures = opened_figures τ y.arena work number ∙ same_figures

        held : Held τ o.arena o.handle
        held = held_open τ y.arena work (held_small τ y z.held) number

        lane-found : (l : ℕ) → l < (layout_in τ a).N → lane_at o.handle.table l ≡ found_lane (layout_in τ a) y.arena l
        lane-found l v = rw same_figures at (opened-lane τ y.arena work number l (rw same_figures v))

        opened_inv : Inv (layout_in τ a) o.arena o.handle.table
        opened_inv = rw (held.good.figures ∙ figures) at (held_inv τ _ _ held)

        -- the arena is that of the book with those writes finished
        opened_done : o.arena ≡ booked τ a bytes c
        opened_done = opened_arena ∙ sym done_arena

        new : (e : Entry) → Memᴰ e b → write_stores (layout_in τ a) ≤ e.tally + 1 → (buffer : List ℕ) → length buffer ≡ (figures_in a).size
            → read_of o.arena o.handle e.sector buffer
            ≡ record { number = 0; buffer = bytes e.lane }
        new e m u buffer size =
            read_new τ a bytes x c done_ok _ _ held figures opened_done e.sector buffer (done e) (Memᴰ.map done m) full refl
            ∙ read_holds (figures_in a) (bytes e.lane) e.sector buffer (sectors_out τ.distance (figures_in a) e.sector (z.ok.each e m).sector-in) size
          where
            full : done_tally e ≡ write_stores (layout_in τ a)
            full = by_bool (lacks_map_word τ a e) _ (λ t. rw t)
                (λ t. done_else e t ∙ omega (arith, (z.ok.each e m).tally_in, eqb-false (e.tally + 1) (write_stores (layout_in τ a)) t))

        as_before : (s : ℕ) → ((e : Entry) → Memᴰ e b → e.sector ≡ s → e.tally + 1 < write_stores (layout_in τ a)) → (buffer : List ℕ)
            → read_of o.arena o.handle s buffer ≡ read_of a h s buffer
        as_before s n buffer =
            read_old τ a bytes x c done_ok _ _ held figures opened_done s buffer h k
            (λ d m p. let w = Memᴰ.of_map done b m in rw (← w.2) (low w.0 (n w.0 w.1 (rw (← w.2) at p))))
          where
            low : (e : Entry) → e.tally + 1 < write_stores (layout_in τ a) → done_tally e < write_stores (layout_in τ a)
            low e u = omega (arith, done_else e (ne_eqb (e.tally + 1) (write_stores (layout_in τ a)) (λ p. omega arith)))

        -- a write whose sequence word is stored lacks its map word at most
        stored_all : (e : Entry) → SequenceStored a e → write_stores (layout_in τ a) ≤ e.tally + 1
        unfolding layout_of
        stored_all e u = omega arith

        not_stored : (e : Entry) → (SequenceStored a e → ⊥) → e.tally + 1 < write_stores (layout_in τ a)
        unfolding layout_of
        not_stored e n =
            let k : ℕ = (figures_in a).size / 4 + 4 in
            by_bool (leb k e.tally) _ (λ t. absurd (n (leb-true k e.tally t))) (λ t. let u = leb-false k e.tally t in omega arith)

        no_trace : (cuts : List OneCut) → CutsTold τ cuts y.arena → CutsLeaveNoTrace τ y.arena work cuts
        no_trace cuts = cuts_no_trace τ work y.arena cuts (held_small τ y z.held)

        pub after-cut : AfterCut τ a h bytes y.arena b work
        after-cut = record {
          number = number;
          layout = (opened_distance τ y.arena work number, sym k.good.distance);
          figures = figures;
          idle = opened_idle τ y.arena work number;
          past = λ l u. opening_past τ y.arena work l (rw same_figures u);
          moved = λ e m v. let u = stored_all e v in idle_is _ _ _ _ (lanes e.lane (z.ok.each e m).lane_in ∙ then_at a e b z.ok.differ m
              ∙ rw (le-leb (write_stores (layout_in τ a)) (e.tally + 1) u));
          unmoved = λ l u n.
              idle_is _ _ _ _ (lanes l (lanes-in τ.distance (figures_in a) l u) ∙ then_other a b l (λ e m p. not_stored e (n e m p)));
          stores = rw same_figures same_stores;
          arena = opened_arena;
          pending = rw same_figures pending_is;
          mended = unfold open_of in (rw (number, same_figures) pending_is);
          new = λ e m v. new e m (stored_all e v);
          as_before = λ s n. as_before s (λ e m p. not_stored e (n e m p));
          once = each-once (layout_in τ a) _ _ opened_inv.map_in (λ l u. (opened_inv.lane l u).block-in) opened_inv.once;
          cuts = λ cuts told. record {
            number = (no_trace cuts told).number ∙ number;
            arena = (no_trace cuts told).arena (λ e. omega (arith, number)) (λ e. omega (arith, number));
            handle = (no_trace cuts told).handle;
          };
        }
          where
            lanes : (l : ℕ) → l < (layout_in τ a).N → lane_at o.handle.table l ≡ lane_then τ a b l
            lanes l v = lane-found l v ∙ lane-then a b z.ok.differ y.arena l (lane_at y.handle.table l) (inv.lane l v) (z.lanes l v)

            pending_is : pending_lanes (layout_in τ a) y.arena (layout_in τ a).N ≡ length (last_words τ a b)
            pending_is = pending_last τ a b z.ok.differ y.arena y.handle.table inv z.lanes in_lane
