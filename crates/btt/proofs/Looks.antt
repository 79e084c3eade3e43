-- The orders of the two looks at a lane, and what an accepted look shows.
use mathlib.Core.Path.{◌≡◌, sym, ◌∙◌}
use mathlib.Core.Bool.{true, false}
use mathlib.Core.List.{List, [], ◌∷◌}
use Prim.Native.Nat.{ℕ, ◌*◌, ◌<◌}
use lib.Dec.{eqb}
use borrow.Author.Tests.{leb-false}
use Rattle.words.specs.Word.{put_words}
use Rattle.layout.specs.Place.{at}
use Rattle.machine.specs.declared.lane.Lane.{Lane}
use Rattle.machine.specs.state.Handle.{Handle, lane_at, laid_out}
use Rattle.machine.specs.calls.Order.{lane_idle, number}
use Rattle.machine.specs.calls.Judging.{tests}
use Rattle.machine.specs.calls.Writing.{plan_of, store_at}
use Rattle.machine.proofs.rules.Rules.{walked, stop, pass, through, passed_all, answer_append}
use Rattle.machine.proofs.rules.Running.{some_number}
use Rattle.machine.proofs.calls.Accepted.{Judged, judged}
use Rattle.handlebytes.specs.Bytes.{record_words}
use Rattle.btt.specs.Calls.{lane_order, next_order, lane_number, next_number, HostLane, lane_shown, HostNext, next_offset, next_shown}

-- what an accepted look found
pub record LaneFound (a : List ℕ) (h : Handle) (l : ℕ) : Type 0 where
  pub judged : Judged a h
  pub lane : l < h.figures.lanes

module _ (a : List ℕ) (h : Handle) (l : ℕ) where
  -- the order of the second look is that of the first, and then whether the lane is idle
  pub lane_first : (m : ℕ) → m ≡ lane_number a h l → eqb m 0 ≡ false → m ≡ next_number a h l
  unfolding lane_number next_number
  lane_first m e p = e ∙ sym (answer_append number some_number (tests a h) (lane_order l) (lane_idle l ∷ []) ∙ rw (← e, p))

  pub lane-idle : lane_number a h l ≡ 0 → tests a h (lane_idle l) ≡ true → 14 ≡ next_number a h l
  unfolding lane_number next_number
  lane-idle e p = sym (answer_append number some_number (tests a h) (lane_order l) (lane_idle l ∷ []) ∙ rw e (sym (walked (stop p))))

  pub lane-flies : lane_number a h l ≡ 0 → tests a h (lane_idle l) ≡ false → 0 ≡ next_number a h l
  unfolding lane_number next_number
  lane-flies e p = sym (answer_append number some_number (tests a h) (lane_order l) (lane_idle l ∷ []) ∙ rw e (sym (walked (pass p through))))

  pub lane-found : lane_number a h l ≡ 0 → LaneFound a h l
  unfolding lane_number
  lane-found e =
      let p = passed_all number some_number (tests a h) (lane_order l) e in
      record { judged = judged a h p.0 p.1.0 p.1.1.0; lane = leb-false _ _ p.1.1.1.0 }

  pub next-found : next_number a h l ≡ 0 → LaneFound a h l
  unfolding next_number
  next-found e =
      let p = passed_all number some_number (tests a h) (next_order l) e in
      record { judged = judged a h p.0 p.1.0 p.1.1.0; lane = leb-false _ _ p.1.1.1.0 }

  -- what an accepted look shows: the lane's own record, or where its next step stores
  pub lane-shown : (own : Lane) (out after : List ℕ) → 0 ≡ lane_number a h l → own ≡ lane_at h.table l
      → after ≡ put_words out 0 (record_words own) → ◌≡◌ {A = HostLane} (record { number = 0; out = after }) (lane_shown a h l out)
  unfolding lane_shown
  lane-shown own out after e eo ea = rw (← e, ea, eo)

  pub next-shown : (offset place : ℕ) (own : Lane) → 0 ≡ next_number a h l → own ≡ lane_at h.table l
      → place ≡ at (laid_out h) (store_at (laid_out h) (plan_of l own) [] own.made).place
      → ◌≡◌ {A = HostNext} (record { number = 0; offset = 4 * place }) (next_shown a h l offset)
  unfolding next_shown next_offset
  next-shown offset place own e eo ep = rw (← e, ep, eo)
