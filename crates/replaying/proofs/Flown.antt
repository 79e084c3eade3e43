-- A replay along one write, in the row: while lane 0 has it in flight and the other lanes are idle, every step is accepted, and a start
-- to the same sector on another lane is refused.
use mathlib.Core.Path.{◌≡◌, refl, ap₂, subst}
use mathlib.Core.List.{List, [], ◌∷◌, ◌++◌, map}
use Prim.Native.Nat.{ℕ, zero, suc, ◌+◌, ◌≤◌, ◌<◌}
use native.Mathlib.Omega.{arith}
use lib.ListN.{length, replicate}
use borrow.Author.Tests.{ne_eqb, le-ltb, eq-eqb}
use Rattle.format.specs.declared.numbers.LaneNo.{LaneNo}
use Rattle.format.specs.Tests.{some}
use Rattle.layout.specs.declared.Figures.{Figures}
use Rattle.machine.specs.Rules.{answer}
use Rattle.machine.specs.calls.Opening.{extent_of}
use Rattle.machine.specs.calls.History.{says, start, step, Reply, Event, called}
use Rattle.machine.specs.models.Row.{idle, flying, Row, word_by_word, row_number, row_reply, row_after, row_open_number, row_reply_event, row_after_event, row_replies}
use Rattle.runlog.specs.declared.record.Record.{Record}
use Rattle.runlog.specs.declared.record.Record.TheVariants.{Start, Step, Cut}
use Rattle.replaying.specs.Replay.{step_bytes, own_table, room_of}
use Rattle.replaying.specs.Claims.{events_of}
use Rattle.replaying.proofs.Lent.{lent_length}

-- m stores of a write to sector 7 are made on lane 0
pub record Along (row : Row) (m : ℕ) : Type 0 where
  pub bytes : List ℕ
  pub own : row.lane 0 ≡ flying 7 m bytes
  pub others : (l : ℕ) → row.lane (suc l) ≡ idle

module _ (f : Figures) (size : f.size ≡ 512) (sectors : f.sectors ≡ 60) (lanes : f.lanes ≡ 4) (w : List ℕ) (room : f.blocks ≤ length w) where
  abbrev numbers_in : Row → List Event → List ℕ
  numbers_in row es = map (λ (y : Reply). y.number) (row_replies word_by_word f row es)

  abbrev lane_0 : LaneNo
  lane_0 = record { 0 = 0 }

  -- ---- the steps

  module _ (row : Row) (m : ℕ) (a : Along row m) where
    step-number : (buffer : List ℕ) → length buffer ≡ f.size → row_number f row (step 0 buffer) ≡ 0
    unfolding row_number answer
    step-number buffer u = rw (lanes, a.own, eq-eqb (length buffer) f.size u)

    step_along : (buffer : List ℕ) → length buffer ≡ f.size → m + 1 < 133 → Along (row_after_event word_by_word f row (called (step 0 buffer))) (m + 1)
    unfolding row_after_event row_after
    step_along buffer u v = rw (step-number buffer u, a.own, size, ne_eqb (m + 1) 133 (λ e. omega arith))
        (record { bytes = _; own = refl; others = λ l. rw (ne_eqb (suc l) 0 (λ e. omega arith)) (a.others l) })

  -- n steps are accepted, and then the rest
  steps_along : (n i : ℕ) (row : Row) (m : ℕ) → Along row m → m + n < 133 → (rest : List Record) (ns : List ℕ)
      → ((row' : Row) (j : ℕ) → Along row' (m + n) → numbers_in row' (events_of f.size w j rest) ≡ ns)
      → numbers_in row (events_of f.size w i (replicate n (Step lane_0) ++ rest)) ≡ replicate n 0 ++ ns
  unfolding events_of says row_reply_event row_reply
  steps_along zero i row m a u rest ns k = let e : m ≡ m + 0 = omega arith in k row i (subst (Along row) e a)
  steps_along (suc n) i row m a u rest ns k =
      let b = step_bytes f.size i in
      let l : length b ≡ f.size = lent_length f.size i (omega arith) in
      let e : (m + 1) + n ≡ m + suc n = omega arith in
      ap₂ {C = List ℕ} (λ x xs. x ∷ xs) (step-number row m a b l)
      (steps_along n (suc i) (row_after_event word_by_word f row (called (step 0 b))) (m + 1) (step_along row m a b l (omega arith)) (omega arith) rest ns
      (λ row' j p. k row' j (subst (Along row') e p)))

  -- ---- the start that is refused, and the cut

  abbrev ending : List Record
  ending = Start (record { 0 = 1 }) (record { 0 = 7 }) ∷ Cut ∷ []

  module _ (row : Row) (m : ℕ) (a : Along row m) where
    busy_sector : row_number f row (start 1 7) ≡ 13
    unfolding row_number answer some
    busy_sector = let e : row.lane 1 ≡ idle = a.others 0 in rw (lanes, sectors, a.own, e)

    cut-number : row_open_number f (extent_of (room_of w own_table)) ≡ 0
    unfolding row_open_number answer
    cut-number = rw (le-ltb (length w) f.blocks room, lanes)

    ending_numbers : (j : ℕ) → numbers_in row (events_of f.size w j ending) ≡ 13 ∷ 0 ∷ []
    unfolding events_of says row_reply_event row_reply row_after_event row_after
    ending_numbers j = rw (busy_sector, cut-number)

  -- ---- all of it

  module _ (row : Row) (calm : (l : ℕ) → row.lane l ≡ idle) where
    start-number : row_number f row (start 0 7) ≡ 0
    unfolding row_number answer some
    start-number = rw (lanes, sectors, calm 0, calm 1, calm 2, calm 3)

    start_along : Along (row_after_event word_by_word f row (called (start 0 7))) 0
    unfolding row_after_event row_after
    start_along = rw start-number (record { bytes = []; own = refl; others = λ l. rw (ne_eqb (suc l) 0 (λ e. omega arith)) (calm (suc l)) })

    pub replay_numbers :
        numbers_in row (events_of f.size w 0 (Start lane_0 (record { 0 = 7 }) ∷ (replicate 132 (Step lane_0) ++ ending)))
        ≡ 0 ∷ (replicate 132 0 ++ (13 ∷ 0 ∷ []))
    unfolding events_of says row_reply_event row_reply
    replay_numbers = ap₂ {C = List ℕ} (λ x xs. x ∷ xs) start-number
        (steps_along 132 1 (row_after_event word_by_word f row (called (start 0 7))) 0 start_along (omega arith) ending (13 ∷ 0 ∷ [])
        (λ row' j p. ending_numbers row' 132 p j))
