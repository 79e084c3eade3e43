-- An arena that was opened follows the row that it began with, event by event: the row stands for the arena at first, every event
-- keeps that, and what stands for the arena answers and reads alike.
use mathlib.Core.Path.{◌≡◌, refl, sym, ap, ap₂, ◌∙◌, subst}
use mathlib.Core.List.Memᴰ
use mathlib.Core.List.{List, [], ◌∷◌}
use mathlib.Core.Bool.{false}
use Prim.Native.Nat.{ℕ, ◌<◌}
use lib.ListN.{replicate}
use Rattle.words.specs.Bytes.{Small}
use Rattle.layout.specs.declared.Figures.{Figures}
use Rattle.machine.specs.state.Handle.{lane_at, laid_out}
use Rattle.machine.specs.calls.Opening.{Room, figures_in, open_of}
use Rattle.machine.specs.calls.Reading.{read_of}
use Rattle.machine.specs.calls.History.{
  runs,
  says,
  State,
  Reply,
  opened_state,
  Event,
  after_event,
  reply_event,
  run_events,
  reply_events,
  SmallEvent,
  SmallEvents,
  opened_from,
}
use Rattle.machine.specs.models.Row.{
  idle,
  Row,
  word_by_word,
  row_read,
  row_after_event,
  row_reply_event,
  row_after_all,
  row_replies,
  found_sector,
  first_row,
}
use Rattle.machine.specs.claims.DemandTwo.{AllIdle, OpensAgain, FollowsRow, FollowsWords, leaves, row_left}
use Rattle.machine.proofs.opening.Opens.{opened_figures, opened_idle}
use Rattle.machine.proofs.invariant.Good.{idle_arena, idle_count}
use Rattle.machine.proofs.calls.Running.{word_idle}
use Rattle.machine.proofs.invariant.Held.{held_open, lanes_out, sectors_out}
use Rattle.machine.specs.calls.Asides.{Happening, latest_of, AllHarmless}
use Rattle.machine.proofs.invariant.Asides.{latest_state, latest_heard}
use Rattle.machine.proofs.invariant.Histories.{HeldIn, held_small, held_figures, alike_open, alike_event, alike_events}
use Rattle.machine.proofs.row.Contents.{content_of}
use Rattle.machine.proofs.row.Reads.{held_read, read_found}
use Rattle.machine.proofs.row.Answers.{read_is}
use Rattle.machine.proofs.row.Events.{RepIn, idle_as, accepted, event_reply, event_rep}
use Rattle.machine.specs.state.Lane.{is_busy}
use Rattle.layout.specs.declared.Told.{Told}
use Rattle.machine.specs.words.Valid.{RoomFor}

module _ (τ : Told) where
  -- ---- the row that an arena begins with

  pub first_rep : (x : State) → HeldIn τ x → AllIdle x.handle → RepIn τ (first_row x) x
  first_rep x k calm = record { held = k; lane = λ l u. idle_as _ _ _ _ (word_idle (lane_at x.handle.table l) (calm l (lanes_out x.handle.distance x.handle.figures l u))); sector = found }
    where
      found : (s : ℕ) → s < (laid_out x.handle).E
          → found_sector (read_of x.arena x.handle s (replicate x.handle.figures.size 0)) ≡ content_of x.handle.distance x.handle.figures x.arena s
      found s u = ap found_sector (held_read τ x.arena x.handle k s _) ∙ read_found x.handle.figures _ s (sectors_out x.handle.distance x.handle.figures s u)

  -- ---- event by event

  -- one event, where the figures are f
  event-of : (f : Figures) (row : Row) (x : State) (e : Event) → x.handle.figures ≡ f → RepIn τ row x → SmallEvent e
      → (reply_event τ x e ≡ row_reply_event f row e) × RepIn τ (row_after_event word_by_word f row e) (after_event τ x e)
  event-of f row x e g k small = rw (← g) (event_reply τ row x k e, event_rep τ row x k e small)

  follow : (f : Figures) (es : List Event) (row : Row) (x : State) → x.handle.figures ≡ f → RepIn τ row x → SmallEvents es
      → (reply_events τ x es ≡ row_replies word_by_word f row es) × RepIn τ (row_after_all word_by_word f row es) (run_events τ x es)
  unfolding says runs
  follow f [] row x g k small = (refl, k)
  follow f (e ∷ es) row x g k small =
      let p = event-of f row x e g k (small e (Memᴰ.head refl)) in
      let q = follow f es (row_after_event word_by_word f row e) (after_event τ x e) ((alike_event τ x e k.held).figures ∙ g) p.1
      (λ d m. small d (Memᴰ.tail m)) in
      (ap₂ {C = List Reply} (λ r rs. r ∷ rs) p.0 q.0, q.1)

  -- ---- opened again with every lane idle

  module _ (row : Row) (x : State) (k : RepIn τ row x) (calm : AllIdle x.handle) (room : Room) (u : RoomFor x.handle.figures room) where
    all_idle : (l : ℕ) → l < (laid_out x.handle).N → is_busy (lane_at x.handle.table l) ≡ false
    all_idle l v = word_idle (lane_at x.handle.table l) (calm l (lanes_out x.handle.distance x.handle.figures l v))

    opens : (open_of τ x.arena room).number ≡ 0
    opens = accepted τ row x k room u

    same_arena : (open_of τ x.arena room).arena ≡ x.arena
    same_arena = idle_arena τ x.arena x.handle.distance x.handle.figures x.handle.table k.held.good room u all_idle

    same_distance : (open_of τ x.arena room).handle.distance ≡ x.handle.distance
    same_distance = (alike_open τ x room k.held opens).distance

    same_figures : (open_of τ x.arena room).handle.figures ≡ x.handle.figures
    same_figures = (alike_open τ x room k.held opens).figures

    idle-lane : (l : ℕ) → l < (laid_out x.handle).N → row.lane l ≡ idle
    idle-lane l v = (k.lane l v).is ∙ rw (all_idle l v)

    again_rep : RepIn τ row (opened_state (open_of τ x.arena room))
    again_rep = record {
      held = held_open τ x.arena room (held_small τ x k.held) opens;
      lane = λ l v. rw (idle-lane l (rw (same_distance, same_figures) at v)) (idle_as _ _ _ _ (word_idle (lane_at (open_of τ x.arena room).handle.table l) (opened_idle τ x.arena room opens l (lanes_out _ _ l v))));
      sector = rw (same_distance, same_figures, same_arena) k.sector;
    }

    opens_again : OpensAgain τ x row room
    opens_again = record {
      number = opens;
      mended = idle_count τ x.arena x.handle.distance x.handle.figures x.handle.table k.held.good room u all_idle;
      arena = same_arena;
      reads = λ s buffer. read_is τ row (open_of τ x.arena room).arena (open_of τ x.arena room).handle again_rep s buffer
          ∙ ap (λ (f : Figures). row_read f row s buffer) (same_figures ∙ sym (held_figures τ x k.held));
    }

  -- ---- the claim

  module _ (a : List ℕ) (work : Room) (hs : List Happening) (small : Small a) (smalls : SmallEvents (latest_of hs)) (e : (open_of τ a work).number ≡ 0)
      (harmless : AllHarmless τ (opened_from τ a work) hs) where
    begins : HeldIn τ (opened_from τ a work)
    begins = held_open τ a work small e

    -- the events through the latest handle come to the whole history
    come : run_events τ (opened_from τ a work) (latest_of hs) ≡ leaves τ a work hs
    come = sym (latest_state τ hs (opened_from τ a work) harmless)

    ran : (reply_events τ (opened_from τ a work) (latest_of hs) ≡ row_replies word_by_word (figures_in a) (first_row (opened_from τ a work)) (latest_of hs))
        × RepIn τ (row_left word_by_word τ a work hs) (run_events τ (opened_from τ a work) (latest_of hs))
    ran = follow (figures_in a) (latest_of hs) (first_row (opened_from τ a work)) (opened_from τ a work) (opened_figures τ a work e)
        (first_rep (opened_from τ a work) begins (opened_idle τ a work e)) smalls

    rep : RepIn τ (row_left word_by_word τ a work hs) (leaves τ a work hs)
    rep = subst (RepIn τ (row_left word_by_word τ a work hs)) come ran.1

    figures_last : (leaves τ a work hs).handle.figures ≡ figures_in a
    figures_last = subst (λ (x : State). x.handle.figures ≡ figures_in a) come
        ((alike_events τ (opened_from τ a work) (latest_of hs) smalls begins).figures ∙ opened_figures τ a work e)

    follows_row : FollowsRow word_by_word τ a work hs
    follows_row = record {
      replies = latest_heard τ hs (opened_from τ a work) harmless ∙ ran.0;
      reads = λ s buffer. read_is τ _ _ _ rep s buffer ∙ ap (λ (f : Figures). row_read f (row_left word_by_word τ a work hs) s buffer) figures_last;
      figures = held_figures τ (leaves τ a work hs) rep.held ∙ figures_last;
      handle = figures_last;
      layout = sym rep.held.good.distance;
      again = λ calm room u. opens_again _ _ rep calm room (rw figures_last u);
    }

pub words_follow : (τ : Told) → FollowsWords τ
words_follow τ = follows_row τ
