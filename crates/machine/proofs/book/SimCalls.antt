-- Every call keeps an arena and its handle with the book: a refused call changes neither, an accepted start adds an entry, an accepted
-- step adds the next store of the lane's write, and an accepted whole write is its start and its steps.
use mathlib.Core.Path.{◌≡◌, refl, sym, ap, ◌∙◌}
use mathlib.Core.Logic.{◌≢◌}
use mathlib.Core.List.{List, ◌∷◌, map, Memᴰ}
use mathlib.Core.Bool.{◌&&◌}
use Prim.Native.Nat.{ℕ, zero, suc, ◌≤◌, ◌<◌}
use native.Mathlib.Omega.{arith}
use native.Mathlib.Numerals.{add-one}
use native.Mathlib.Decide.{ℕ_discrete}
use lib.Dec.{eqb, ltb}
use lib.ListN.{length, set}
use borrow.Author.Tests.{lt-ltb, ltb-true, lt-leb, eq-eqb, ne_eqb}
use Rattle.words.specs.Bytes.{Small}
use Rattle.format.proofs.Tests.{true_false, and_intro}
use Rattle.machine.specs.Rules.{answer}
use Rattle.machine.specs.declared.lane.Lane.{Lane}
use Rattle.machine.specs.state.Lane.{started_lane, write_stores, is_busy}
use Rattle.machine.specs.state.Handle.{lane_at, laid_out}
use Rattle.machine.specs.state.Flog.{map_block}
use Rattle.machine.specs.calls.Opening.{figures_in, layout_in}
use Rattle.machine.specs.calls.Writing.{
  plan_of,
  store_at,
  first_stores,
  lane_stored,
  start_number,
  start_of,
  step_number,
  step_of,
  steps_of,
  write_number,
  write_of,
}
use Rattle.machine.specs.calls.History.{Call, read, start, step, write, State, outcome_state, reply, after, SmallCall}
use Rattle.machine.specs.models.Book.{Entry, in_flight_yet, book_number, tallied, noted, book_next, kept}
use Rattle.machine.specs.claims.DemandThree.{lends}
use Rattle.machine.proofs.invariant.Inv.{lane_same, lane_other}
use Rattle.machine.proofs.calls.Accepted.{start_found, StepFound, step_found, write_found}
use Rattle.machine.proofs.invariant.Held.{lanes-in, sectors_in}
use Rattle.machine.proofs.calls.Running.{running_claim}
use Rattle.machine.proofs.invariant.Histories.{held_after, alike_after}
use Rattle.machine.proofs.book.Entries.{entry_of, Unused, any_of, retally, one_more, tallied_is, tallied-none}
use Rattle.machine.proofs.book.FirstArena.{FirstArena, AsFound}
use Rattle.machine.proofs.book.Stores.{store_of, kept_map}
use Rattle.machine.proofs.book.Lanes.{lane_flying, lane-busy, lane_started, LaneOf, untouched, written}
use Rattle.machine.proofs.book.Next.{new_ok, new_other, more_other, more_ok, more_arena, more_lane}
use Rattle.machine.proofs.book.Sim.{layout_is, Sim, number_is, number_of}
use Rattle.layout.specs.declared.Told.{Told}

-- a refused call changes nothing
refused-after : (y : State) (c : Call) → (reply y c).number ≢ 0 → after y c ≡ y
refused-after y (read s buffer) n = refl
refused-after y (start l s) n =
    let r = running_claim.start_refused y.arena y.handle l s n in λ j. record { arena = r.arena j; handle = r.handle j }
refused-after y (step l buffer) n =
    let r = running_claim.step_refused y.arena y.handle l buffer n in λ j. record { arena = r.arena j; handle = r.handle j }
refused-after y (write l s buffer) n =
    let r = running_claim.write_refused y.arena y.handle l s buffer n in λ j. record { arena = r.arena j; handle = r.handle j }

-- an accepted whole write is its start and its steps
pub write_after : (y : State) (l s : ℕ) (buffer : List ℕ) (n : ℕ) → write_stores (laid_out y.handle) ≡ n
    → write_number y.arena y.handle l s buffer ≡ 0
    → after y (write l s buffer)
    ≡ outcome_state (steps_of n (after y (start l s)).arena (after y (start l s)).handle l buffer)
unfolding write_of
write_after y l s buffer n p e = rw (e, p)

-- what an accepted call begins shares neither a lane nor a sector with the book's writes
abbrev pub Fresh : List Entry → Call → Type 0
Fresh b (read s buffer) = Unit {0}
Fresh b (start l s) = Unused b l s
Fresh b (step l buffer) = Unit {0}
Fresh b (write l s buffer) = Unused b l s

module _ (τ : Told) where
  -- ---- a start and a step

  module _ (a : List ℕ) (bytes : ℕ → List ℕ) (x : FirstArena τ a) (b : List Entry) (y : State) (z : Sim τ a bytes b y) where
    in_lanes : (l : ℕ) → l < (layout_in τ a).N → l < length y.handle.table
    in_lanes l u = let v : l < (laid_out y.handle).N = rw (layout_is τ a bytes x b y z) u in omega (arith, z.held.good.inv.long)

    -- the lanes with one replaced
    with-lane : (c : List Entry) (l : ℕ) (r : Lane) → l < (layout_in τ a).N → LaneOf τ a c l r
        → ((j : ℕ) → j ≢ l → (q : Lane) → LaneOf τ a b j q → LaneOf τ a c j q)
        → (j : ℕ) → j < (layout_in τ a).N → LaneOf τ a c j (lane_at (set y.handle.table l r) j)
    with-lane c l r u own others j v = go (ℕ_discrete j l)
      where
        go : Dec (j ≡ l) → LaneOf τ a c j (lane_at (set y.handle.table l r) j)
        go (yes p) = rw (p, lane_same y.handle.table l r (in_lanes l u)) own
        go (no n) = rw (lane_other y.handle.table l r j n) (others j n _ (z.lanes j v))

    -- an accepted start
    start_sim : (l s : ℕ) → start_number y.arena y.handle l s ≡ 0 → Fresh b (start l s)
        → Sim τ a bytes (entry_of l s 0 ∷ b) (after y (start l s))
    start_sim l s e f = record {
      arena = unfold kept first_stores start_of in z.arena;
      figures = (alike_after y (start l s)).figures ∙ z.figures;
      lanes = λ j w. rw handed (with-lane (entry_of l s 0 ∷ b) l r u own (new_other τ b l s a) j w);
      ok = new_ok τ b l s a bytes z.ok u v f;
      held = held_after τ y (start l s) tt z.held;
    }
      where
        u : l < (layout_in τ a).N
        u = lanes-in τ.distance (figures_in a) l (rw z.figures at (start_found y.arena y.handle l s e).lane)

        v : s < (layout_in τ a).E
        v = sectors_in τ.distance (figures_in a) s (rw z.figures at (start_found y.arena y.handle l s e).sector)

        r : Lane
        r = started_lane (lane_at y.handle.table l) s (map_block (laid_out y.handle) y.arena s)

        handed : (start_of y.arena y.handle l s).handle.table ≡ set y.handle.table l r
        handed = unfold start_of in (rw e)

        found : LaneOf τ a b l (lane_at y.handle.table l) → AsFound τ a l (lane_at y.handle.table l)
        found (untouched q _) = q
        found (written d m p _) = absurd ((f d m).0 p)

        own : LaneOf τ a (entry_of l s 0 ∷ b) l r
        own = written (entry_of l s 0) (Memᴰ.head refl) refl
            (rw (layout_is τ a bytes x b y z, z.arena, kept_map τ a bytes x b z.ok s v (λ d m p. absurd ((f d m).1 p)))
            (lane_started τ a l s (lane_at y.handle.table l) (found (z.lanes l u))))

    -- an accepted step
    step_sim : (l : ℕ) (buffer : List ℕ) → step_number y.arena y.handle l buffer ≡ 0 → Small buffer → buffer ≡ bytes l
        → Sim τ a bytes (tallied l b) (after y (step l buffer))
    step_sim l buffer q small same = rw (tallied_is l b) (go (z.lanes l u))
      where
        d : StepFound y.arena y.handle l buffer
        d = step_found y.arena y.handle l buffer q

        u : l < (layout_in τ a).N
        u = lanes-in τ.distance (figures_in a) l (rw z.figures at d.lane)

        r : Lane
        r = lane_at y.handle.table l

        handed : (step_of y.arena y.handle l buffer).handle.table ≡ set y.handle.table l (lane_stored (layout_in τ a) r)
        handed = unfold step_of in (rw (q, layout_is τ a bytes x b y z))

        go : LaneOf τ a b l (lane_at y.handle.table l) → Sim τ a bytes (map (retally (one_more l)) b) (after y (step l buffer))
        go (untouched w _) = true_false (sym d.busy ∙ w.idle)
        go (written e m p is) = record {
          arena = unfold step_of in (rw (q, layout_is τ a bytes x b y z, st_is, z.arena) (sym (more_arena τ a bytes x b z.ok l e m p flies sm size)));
          figures = (alike_after y (step l buffer)).figures ∙ z.figures;
          lanes = λ j w. rw handed (with-lane (map (retally (one_more l)) b) l (lane_stored (layout_in τ a) r) u
              (rw is (more_lane τ a bytes x b z.ok l e m p flies sm size)) (more_other τ a b l) j w);
          ok = more_ok τ a bytes x b z.ok l e m p flies sm size;
          held = held_after τ y (step l buffer) small z.held;
        }
          where
            flies : e.tally < write_stores (layout_in τ a)
            flies = ltb-true _ _ (sym (ap is_busy is ∙ lane-busy τ a e) ∙ d.busy)

            sm : Small (bytes l)
            sm = rw (← same) small

            size : length (bytes l) ≡ (figures_in a).size
            size = rw (← same, ← z.figures) d.size

            st_is : store_at (layout_in τ a) (plan_of l r) buffer r.made ≡ store_of τ a bytes e e.tally
            st_is = rw (is ∙ lane_flying τ a e (lt-ltb _ _ flies), same, ← p)

  -- ---- a whole write

  module _ (a : List ℕ) (bytes : ℕ → List ℕ) (x : FirstArena τ a) (b : List Entry) (l s : ℕ) (buffer : List ℕ) where
    -- a step on its lane is accepted until all are made
    steps_next : (n : ℕ) → n < write_stores (layout_in τ a) → l < (figures_in a).lanes → length buffer ≡ (figures_in a).size
        → book_number τ a (entry_of l s n ∷ b) (step l buffer) ≡ 0
    unfolding book_number answer
    steps_next n u v size = rw (
      lt-leb (figures_in a).lanes l v,
      any_of (λ e. eqb e.lane l && in_flight_yet τ a e) (entry_of l s n) (entry_of l s n ∷ b) (Memᴰ.head refl)
          (and_intro (eqb l l) (ltb n (write_stores (layout_in τ a))) (eq-eqb l l refl) (lt-ltb n (write_stores (layout_in τ a)) u)),
      eq-eqb (length buffer) (figures_in a).size size,
    )

    -- the first n steps
    steps_sim : (n : ℕ) (y : State) → n ≤ write_stores (layout_in τ a) → l < (figures_in a).lanes → length buffer ≡ (figures_in a).size → Small buffer
        → buffer ≡ bytes l → ((d : Entry) → Memᴰ d b → d.lane ≢ l) → Sim τ a bytes (entry_of l s 0 ∷ b) y
        → Sim τ a bytes (entry_of l s n ∷ b) (outcome_state (steps_of n y.arena y.handle l buffer))
    unfolding steps_of
    steps_sim zero y u v size small same f z = z
    steps_sim (suc n) y u v size small same f z = go (steps_sim n y (omega arith) v size small same f z)
      where
        y' : State
        y' = outcome_state (steps_of n y.arena y.handle l buffer)

        grown : tallied l (entry_of l s n ∷ b) ≡ entry_of l s (suc n) ∷ b
        grown = unfold tallied in (rw (eq-eqb l l refl, add-one n, tallied-none l b f))

        go : Sim τ a bytes (entry_of l s n ∷ b) y'
            → Sim τ a bytes (entry_of l s (suc n) ∷ b) (after y' (step l buffer))
        go w = rw grown at
            (step_sim a bytes x (entry_of l s n ∷ b) y' w l buffer
            (number_is τ a bytes x (entry_of l s n ∷ b) y' w (step l buffer) ∙ steps_next n (omega arith) v size) small same)

  module _ (a : List ℕ) (bytes : ℕ → List ℕ) (x : FirstArena τ a) (b : List Entry) (y : State) (z : Sim τ a bytes b y) where
    write_sim : (l s : ℕ) (buffer : List ℕ) → write_number y.arena y.handle l s buffer ≡ 0 → Small buffer → buffer ≡ bytes l
        → Fresh b (write l s buffer) → Sim τ a bytes (entry_of l s (write_stores (layout_in τ a)) ∷ b) (after y (write l s buffer))
    write_sim l s buffer e small same f =
        let w = write_found y.arena y.handle l s buffer e in
        rw (write_after y l s buffer (write_stores (layout_in τ a)) (rw (layout_is τ a bytes x b y z)) e)
        (steps_sim a bytes x b l s buffer (write_stores (layout_in τ a)) (after y (start l s)) (omega arith)
        (rw z.figures at (start_found y.arena y.handle l s w.start).lane) (w.size ∙ rw z.figures) small same (λ d m. (f d m).0)
        (start_sim a bytes x b y z l s w.start f))

    -- ---- any call

    accepted : (c : Call) → SmallCall c → book_number τ a b c ≡ 0 → Fresh b c → lends bytes c → Sim τ a bytes (noted τ a b c) (after y c)
    unfolding noted
    accepted (read s buffer) small e f same = z
    accepted (start l s) small e f same = start_sim a bytes x b y z l s (number_is τ a bytes x b y z (start l s) ∙ e) f
    accepted (step l buffer) small e f same = step_sim a bytes x b y z l buffer (number_is τ a bytes x b y z (step l buffer) ∙ e) small same
    accepted (write l s buffer) small e f same = write_sim l s buffer (number_is τ a bytes x b y z (write l s buffer) ∙ e) small same f

    refused_book : (c : Call) → book_number τ a b c ≢ 0 → after y c ≡ y
    refused_book (read s buffer) n = refl
    refused_book (start l s) n = refused-after y (start l s) (rw (number_of τ a bytes x b y z (start l s)) n)
    refused_book (step l buffer) n = refused-after y (step l buffer) (rw (number_of τ a bytes x b y z (step l buffer)) n)
    refused_book (write l s buffer) n = refused-after y (write l s buffer) (rw (number_of τ a bytes x b y z (write l s buffer)) n)

    -- if what it begins is new to the book and it lends its write's bytes
    pub sim_next : (c : Call) → SmallCall c → (book_number τ a b c ≡ 0 → Fresh b c × lends bytes c) → Sim τ a bytes (book_next τ a b c) (after y c)
    sim_next c small f = go (ℕ_discrete (book_number τ a b c) 0)
      where
        go : Dec (book_number τ a b c ≡ 0) → Sim τ a bytes (book_next τ a b c) (after y c)
        go (yes e) = rw e (accepted c small e (f e).0 (f e).1)
        go (no n) = rw (ne_eqb (book_number τ a b c) 0 n, refused_book c n) z
