-- Every event, a call or an opening, answers as the row does and leaves what the row leaves. An opening is refused only for want of room,
-- and else leaves every lane idle and the sectors as the row has them.
use mathlib.Core.Path.{◌≡◌, sym, ap, ◌∙◌}
use mathlib.Core.List.{List, []}
use mathlib.Core.Bool.{false, cond}
use Prim.Native.Nat.{ℕ}
use native.Mathlib.Omega.{arith}
use lib.Dec.{eqb, ltb}
use lib.ListN.{length}
use borrow.Author.Tests.{eqb-true}
use Rattle.format.proofs.Tests.{true_false, by_bool}
use Rattle.layout.specs.Place.{layout_of}
use Rattle.layout.specs.declared.Figures.{Figures}
use Rattle.machine.specs.declared.lane.Lane.{Lane}
use Rattle.machine.specs.Rules.{answer}
use Rattle.machine.specs.calls.Opening.{Room, extent_of, open_of, work_after}
use Rattle.machine.specs.calls.Writing.{start_of, step_of, write_of}
use Rattle.machine.specs.calls.History.{
  Call,
  read,
  start,
  step,
  write,
  State,
  opened_state,
  after,
  reply,
  Event,
  called,
  opened,
  after_event,
  reply_event,
  SmallCall,
  SmallEvent,
}
use Rattle.machine.specs.models.Row.{
  idle,
  Row,
  word_by_word,
  row_number,
  row_reply,
  row_after,
  lacking,
  reopened,
  row_open_number,
  row_work,
  row_after_event,
  row_reply_event,
}
use Rattle.machine.proofs.opening.Opens.{room_for, open-number, open_zero, opened_idle}
use Rattle.machine.proofs.calls.Running.{word_idle}
use Rattle.machine.proofs.invariant.Good.{good_opens, good_number, good_arena, good_count}
use Rattle.machine.proofs.invariant.Held.{held_open}
use Rattle.machine.proofs.invariant.Histories.{held_small, alike_open}
use Rattle.machine.proofs.row.State.{LaneAs, Rep}
use Rattle.machine.proofs.row.Answers.{number_is, read_is}
use Rattle.machine.proofs.row.Calls.{start_rep, step_rep, write_rep}
use Rattle.machine.proofs.row.Opens.{lacking_is, settled_is}
use Rattle.machine.specs.state.Lane.{is_busy}
use Rattle.layout.specs.declared.Told.{Told}
use Rattle.machine.specs.state.Handle.{lane_at}
use Rattle.machine.specs.words.Valid.{RoomFor}

-- ---- openings

pub idle_as : (d : ℕ) (f : Figures) (a : List ℕ) (r : Lane) → is_busy r ≡ false → LaneAs d f a r idle
idle_as d f a r e = record { bytes = []; is = rw e; lent = λ b. true_false (sym b ∙ e) }

module _ (τ : Told) where
  abbrev pub RepIn : Row → State → Type 0
  RepIn row x = Rep τ row x.arena x.handle

module _ (τ : Told) where
  module _ (row : Row) (x : State) (k : RepIn τ row x) (work : Room) where
    open_answer : (open_of τ x.arena work).number ≡ row_open_number x.handle.figures (extent_of work)
    unfolding open_of row_open_number layout_of answer
    open_answer =
        open-number τ x.arena (extent_of work) (good_opens τ x.arena x.handle.distance x.handle.figures x.handle.table k.held.good)
        ∙ ap (λ (f : Figures). cond (ltb (length work.work) f.blocks) 5 (cond (ltb (length work.table) f.lanes) 21 0)) k.held.good.figures

    -- where the row accepts there is room
    row_room : row_open_number x.handle.figures (extent_of work) ≡ 0 → RoomFor x.handle.figures work
    unfolding open_of
    row_room e = rw k.held.good.figures at (room_for τ x.arena work (open_zero τ x.arena (extent_of work) (open_answer ∙ e)).1)

    module _ (room : RoomFor x.handle.figures work) where
      pub accepted : (open_of τ x.arena work).number ≡ 0
      accepted = good_number τ x.arena x.handle.distance x.handle.figures x.handle.table k.held.good work room

      reopened_rep : RepIn τ (reopened x.handle.figures row) (opened_state (open_of τ x.arena work))
      unfolding layout_of
      reopened_rep =
          let like = alike_open τ x work k.held accepted in
          let all = good_arena τ x.arena x.handle.distance x.handle.figures x.handle.table k.held.good work room in
          record {
            held = held_open τ x.arena work (held_small τ x k.held) accepted;
            lane = λ l u. idle_as _ _ _ _ (word_idle (lane_at (open_of τ x.arena work).handle.table l) (opened_idle τ x.arena work accepted l u));
            sector = rw (like.distance, like.figures, all) (settled_is τ row x.arena x.handle k x.handle.figures.lanes (omega arith));
          }

      count : (open_of τ x.arena work).mended ≡ lacking x.handle.figures row x.handle.figures.lanes
      unfolding layout_of
      count =
          good_count τ x.arena x.handle.distance x.handle.figures x.handle.table k.held.good work room
          ∙ sym (lacking_is τ row x.arena x.handle k x.handle.figures.lanes (omega arith))

    -- the work buffer goes by its own length alone, on 21 too
    open_work : (open_of τ x.arena work).work ≡ row_work x.handle.figures work.work
    unfolding open_of work_after answer row_work layout_of
    open_work =
        let d = k.held.good.info in
        rw (d.layout, d.size, d.block, d.allowed, d.flags, k.held.good.figures)
        (by_bool (ltb (length work.work) x.handle.figures.blocks) _ (λ t. rw t) (λ t. rw t))

    open_mended : (open_of τ x.arena work).mended
        ≡ cond (eqb (row_open_number x.handle.figures (extent_of work)) 0) (lacking x.handle.figures row x.handle.figures.lanes) 0
    open_mended = by_bool (eqb (row_open_number x.handle.figures (extent_of work)) 0) _
        (λ t. rw t (count (row_room (eqb-true _ _ t)))) (λ t. rw t (none t))
      where
        none : eqb (row_open_number x.handle.figures (extent_of work)) 0 ≡ false → (open_of τ x.arena work).mended ≡ 0
        none t = unfold open_of in (rw (open_answer, t))

    open_reply : reply_event τ x (opened work) ≡ row_reply_event x.handle.figures row (opened work)
    unfolding row_reply_event
    open_reply = λ j. record { number = open_answer j; buffer = open_work j; mended = open_mended j }

    open_rep : RepIn τ (row_after_event word_by_word x.handle.figures row (opened work)) (after_event τ x (opened work))
    unfolding row_after_event
    open_rep = by_bool (eqb (row_open_number x.handle.figures (extent_of work)) 0) _
        (λ t. rw (open_answer, t) (reopened_rep (row_room (eqb-true _ _ t)))) (λ t. rw (open_answer, t) k)

  -- ---- calls

  call_reply : (row : Row) (x : State) → RepIn τ row x → (c : Call) → reply x c ≡ row_reply x.handle.figures row c
  unfolding row_reply start_of step_of write_of
  call_reply row x k (read s buffer) = rw (read_is τ row x.arena x.handle k s buffer)
  call_reply row x k (start l s) = rw (number_is τ row x.arena x.handle k (start l s))
  call_reply row x k (step l buffer) = rw (number_is τ row x.arena x.handle k (step l buffer))
  call_reply row x k (write l s buffer) = rw (number_is τ row x.arena x.handle k (write l s buffer))

  call_rep : (row : Row) (x : State) → RepIn τ row x → (c : Call) → SmallCall c
      → RepIn τ (row_after word_by_word x.handle.figures row c) (after x c)
  call_rep row x k (read s buffer) small = unfold row_after in
      (by_bool (eqb (row_number x.handle.figures row (read s buffer)) 0) _ (λ t. rw t k) (λ t. rw t k))
  call_rep row x k (start l s) small = start_rep τ row x.arena x.handle k l s
  call_rep row x k (step l buffer) small = step_rep τ row x.arena x.handle k l buffer small
  call_rep row x k (write l s buffer) small = write_rep τ row x.arena x.handle k l s buffer small

  -- ---- both

  pub event_reply : (row : Row) (x : State) → RepIn τ row x → (e : Event) → reply_event τ x e ≡ row_reply_event x.handle.figures row e
  event_reply row x k (called c) = unfold row_reply_event in (call_reply row x k c)
  event_reply row x k (opened work) = open_reply row x k work

  pub event_rep : (row : Row) (x : State) → RepIn τ row x → (e : Event) → SmallEvent e
      → RepIn τ (row_after_event word_by_word x.handle.figures row e) (after_event τ x e)
  event_rep row x k (called c) small = unfold row_after_event in (call_rep row x k c small)
  event_rep row x k (opened work) small = open_rep row x k work
