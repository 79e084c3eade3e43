-- The writes of a book made in turn, each a start and as many steps as its tally: so any writes in range that share no lane and no sector,
-- with any tallies, are a book that some run leaves.
use mathlib.Core.Path.{◌≡◌, refl, sym}
use mathlib.Core.List.Memᴰ
use mathlib.Core.List.{List, [], ◌∷◌, ◌++◌}
use mathlib.Core.Bool.{true, false, ◌&&◌}
use Prim.Native.Nat.{ℕ, zero, suc, ◌+◌, ◌≤◌, ◌<◌}
use native.Mathlib.Omega.{arith}
use native.Mathlib.Nat.{add-zero}
use lib.Dec.{eqb}
use lib.ListN.{length, replicate}
use borrow.Author.Tests.{eq-eqb, ne_eqb, lt-ltb, lt-leb}
use Rattle.words.specs.Bytes.{Small}
use Rattle.layout.specs.declared.Told.{Told}
use Rattle.machine.specs.Rules.{answer}
use Rattle.machine.specs.state.Lane.{write_stores}
use Rattle.machine.specs.calls.Opening.{figures_in, layout_in}
use Rattle.machine.specs.calls.History.{Call, start, step, State, SmallCall}
use Rattle.machine.specs.models.Book.{Entry, any_entry, in_flight_yet, lane_flies, sector_flies, book_number, tallied, noted}
use Rattle.machine.proofs.stores.Members.{Each, each_none, each_more, each_append, each_replicate}
use Rattle.machine.proofs.invariant.Held.{lanes_out, sectors_out}
use Rattle.machine.proofs.book.Entries.{entry_of, Unused, any_none, lane-none, tallied-none}
use Rattle.machine.proofs.book.FirstArena.{FirstArena}
use Rattle.machine.proofs.book.Orderly.{Goes, goes_none, goes_accepted, goes_append, orderly_sim}
use Rattle.machine.proofs.book.Sim.{Sim}
use Rattle.machine.proofs.book.Stores.{EntryOk, BookOk}

module _ (τ : Told) (a : List ℕ) where
  -- ---- what is accepted

  pub unused_lane : (b : List Entry) (l s : ℕ) → Unused b l s → lane_flies τ a b l ≡ false
  unused_lane b l s n = lane-none (in_flight_yet τ a) b l (λ e m. (n e m).0)

  pub unused_sector : (b : List Entry) (l s : ℕ) → Unused b l s → sector_flies τ a b s ≡ false
  unused_sector b l s n = any_none (λ e. eqb e.sector s && in_flight_yet τ a e) b (λ e m. rw (ne_eqb e.sector s (n e m).1))

  -- a start on a lane and to a sector that no write has
  pub start_done : (b : List Entry) (l s : ℕ) → l < (figures_in a).lanes → s < (figures_in a).sectors → Unused b l s → book_number τ a b (start l s) ≡ 0
  unfolding book_number answer
  start_done b l s u v n =
      rw (unused_lane b l s n, unused_sector b l s n, lt-leb (figures_in a).lanes l u, lt-leb (figures_in a).sectors s v)

  -- a step on a lane in flight, with a buffer of a sector's length
  pub step_done : (b : List Entry) (l : ℕ) (buffer : List ℕ) → l < (figures_in a).lanes → length buffer ≡ (figures_in a).size → lane_flies τ a b l ≡ true
      → book_number τ a b (step l buffer) ≡ 0
  unfolding book_number answer
  step_done b l buffer u size p = rw (p, lt-leb (figures_in a).lanes l u, eq-eqb (length buffer) (figures_in a).size size)

  module _ (bytes : ℕ → List ℕ) where
    -- n more steps of the write that the book has first
    pub steps_first : (n : ℕ) (b : List Entry) (l s t : ℕ) → l < (figures_in a).lanes → (0 < n → length (bytes l) ≡ (figures_in a).size) → Unused b l s
        → t + n ≤ write_stores (layout_in τ a) → Goes τ a bytes (entry_of l s t ∷ b) (replicate n (step l (bytes l))) (entry_of l s (t + n) ∷ b)
    unfolding tallied noted any_entry
    steps_first zero b l s t u size n v = rw add-zero (goes_none τ a bytes _)
    steps_first (suc n) b l s t u size none v =
        let e : t + suc n ≡ t + 1 + n = omega arith in
        let flies : lane_flies τ a (entry_of l s t ∷ b) l ≡ true = rw (eq-eqb l l refl, lt-ltb t (write_stores (layout_in τ a)) (omega arith)) in
        goes_accepted τ a bytes _ _ (step l (bytes l)) _ (step_done (entry_of l s t ∷ b) l (bytes l) u (size (omega arith)) flies) tt refl
        (rw (eq-eqb l l refl, tallied-none l b (λ d m. (none d m).0), e) (steps_first n b l s (t + 1) u (λ w. size (omega arith)) none (omega arith)))

    -- ---- the writes in turn, the last of the book first

    unfoldable pub in_turn : List Entry → List Call
    in_turn [] = []
    in_turn (e ∷ b) = in_turn b ++ (start e.lane e.sector ∷ replicate e.tally (step e.lane (bytes e.lane)))

    book_rest : (e : Entry) (b : List Entry) → BookOk τ a bytes (e ∷ b) → BookOk τ a bytes b
    book_rest e b o = record { each = λ d m. o.each d (Memᴰ.tail m); differ = o.differ.1 }

    goes_turn : (b : List Entry) → BookOk τ a bytes b → Goes τ a bytes [] (in_turn b) b
    unfolding in_turn noted
    goes_turn [] o = goes_none τ a bytes []
    goes_turn (e ∷ b) o =
        let p : EntryOk τ a bytes e = o.each e (Memᴰ.head refl) in
        let u = lanes_out τ.distance (figures_in a) e.lane p.lane_in in
        let v = sectors_out τ.distance (figures_in a) e.sector p.sector-in in
        let far : Unused b e.lane e.sector = λ d m. (λ z. (o.differ.0 d m).0 (sym z), λ z. (o.differ.0 d m).1 (sym z)) in
        let whole : 0 + e.tally ≡ e.tally = omega arith in
        goes_append τ a bytes (in_turn b) _ [] b (e ∷ b) (goes_turn b (book_rest e b o))
        (goes_accepted τ a bytes b (e ∷ b) (start e.lane e.sector) _ (start_done b e.lane e.sector u v far) far tt
        (rw whole at (steps_first e.tally b e.lane e.sector 0 u p.size far (omega (arith, p.tally_in)))))

    turn_small : (b : List Entry) → BookOk τ a bytes b → Each SmallCall (in_turn b)
    unfolding in_turn
    turn_small [] o = each_none SmallCall
    turn_small (e ∷ b) o =
        each_append SmallCall (in_turn b) _ (turn_small b (book_rest e b o))
        (each_more SmallCall (start e.lane e.sector) _ tt (steps e.tally (o.each e (Memᴰ.head refl)).small))
      where
        steps : (n : ℕ) → (0 < n → Small (bytes e.lane)) → Each SmallCall (replicate n (step e.lane (bytes e.lane)))
        steps zero f = each_none SmallCall
        steps (suc n) f = each_replicate SmallCall (suc n) (step e.lane (bytes e.lane)) (f (omega arith))

    pub sim_turn : FirstArena τ a → (y : State) → Sim τ a bytes [] y → (b : List Entry) → BookOk τ a bytes b → (z : State) × Sim τ a bytes b z
    sim_turn x y z b o =
        let g = goes_turn b o in
        (_, rw g.book at (orderly_sim τ a bytes x (in_turn b) [] y z (turn_small b o) g.orderly))
