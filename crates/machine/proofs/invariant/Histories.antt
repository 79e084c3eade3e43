-- The invariant along a history: every call, and every opening, refused or not, leaves an arena that its latest handle is of, with
-- the length and the figures that it had.
use mathlib.Core.Path.{◌≡◌, refl, ◌∙◌}
use mathlib.Core.List.Memᴰ
use mathlib.Core.List.{List, [], ◌∷◌}
use mathlib.Core.Bool.{Bool, true, false, cond}
use Prim.Native.Nat.{ℕ, zero, suc}
use lib.Dec.{eqb}
use lib.ListN.{length}
use borrow.Author.Tests.{eqb-true}
use Rattle.words.proofs.Laws.{length-put_word}
use Rattle.words.specs.Bytes.{Small}
use Rattle.format.proofs.Tests.{by_bool}
use Rattle.machine.specs.calls.Opening.{Room, figures_in, layout_in, mends, open_of}
use Rattle.machine.specs.calls.Writing.{start_number, start_of, step_number, step_of, steps_of, write_number, write_of}
use Rattle.machine.specs.calls.History.{
  runs,
  Call,
  read,
  start,
  step,
  write,
  State,
  outcome_state,
  opened_state,
  after,
  Event,
  called,
  opened,
  after_event,
  run_events,
  SmallCall,
  SmallEvent,
  SmallEvents,
}
use Rattle.machine.proofs.stores.Stores.{put_all-length}
use Rattle.machine.proofs.opening.Opens.{opened_distance, opened_figures}
use Rattle.machine.proofs.invariant.Held.{Held, held_open, good_start, good_step, good_write}
use Rattle.layout.specs.declared.Told.{Told}

-- the same length, and the same distance and figures of the handle
pub record Alike (x y : State) : Type 0 where
  pub size : length y.arena ≡ length x.arena
  pub distance : y.handle.distance ≡ x.handle.distance
  pub figures : y.handle.figures ≡ x.handle.figures

pub alike_self : (x : State) → Alike x x
alike_self x = record { size = refl; distance = refl; figures = refl }

alike_then : (x y z : State) → Alike x y → Alike y z → Alike x z
alike_then x y z p q = record { size = q.size ∙ p.size; distance = q.distance ∙ p.distance; figures = q.figures ∙ p.figures }

-- length and figures stay, of whatever handle
start_alike : (x : State) (l s : ℕ) → Alike x (after x (start l s))
unfolding start_of
start_alike x l s = by_bool (eqb (start_number x.arena x.handle l s) 0) _
    (λ t. rw t (record { size = refl; distance = refl; figures = refl })) (λ t. rw t (alike_self x))

step_alike : (x : State) (l : ℕ) (buffer : List ℕ) → Alike x (after x (step l buffer))
unfolding step_of
step_alike x l buffer = by_bool (eqb (step_number x.arena x.handle l buffer) 0) _
    (λ t. rw t (record { size = length-put_word x.arena _ _; distance = refl; figures = refl })) (λ t. rw t (alike_self x))

pub steps_alike : (n : ℕ) (x : State) (l : ℕ) (buffer : List ℕ) → Alike x (outcome_state (steps_of n x.arena x.handle l buffer))
unfolding steps_of
steps_alike zero x l buffer = alike_self x
steps_alike (suc n) x l buffer =
    let y = outcome_state (steps_of n x.arena x.handle l buffer) in
    alike_then x y (after y (step l buffer)) (steps_alike n x l buffer) (step_alike y l buffer)

write_alike : (x : State) (l s : ℕ) (buffer : List ℕ) → Alike x (after x (write l s buffer))
unfolding write_of
write_alike x l s buffer = by_bool (eqb (write_number x.arena x.handle l s buffer) 0) _
    (λ t. rw t (alike_then x (after x (start l s)) _ (start_alike x l s) (steps_alike _ (after x (start l s)) l buffer))) (λ t. rw t (alike_self x))

pub alike_after : (x : State) (c : Call) → Alike x (after x c)
alike_after x (read s buffer) = alike_self x
alike_after x (start l s) = start_alike x l s
alike_after x (step l buffer) = step_alike x l buffer
alike_after x (write l s buffer) = write_alike x l s buffer

module _ (τ : Told) where
  -- an arena and the latest handle of it
  abbrev pub HeldIn : State → Type 0
  HeldIn x = Held τ x.arena x.handle

module _ (τ : Told) where
  pub held_small : (x : State) → HeldIn τ x → Small x.arena
  held_small x k = k.good.inv.arena.bytes.small

  -- the handle's figures are those of the info block
  pub held_figures : (x : State) → HeldIn τ x → figures_in x.arena ≡ x.handle.figures
  held_figures x k = k.good.figures

  -- ---- calls

  pub held_after : (x : State) (c : Call) → SmallCall c → HeldIn τ x → HeldIn τ (after x c)
  held_after x (read s buffer) small k = k
  held_after x (start l s) small k = good_start τ x.arena x.handle l s k
  held_after x (step l buffer) small k = good_step τ x.arena x.handle l buffer small k
  held_after x (write l s buffer) small k = good_write τ x.arena x.handle l s buffer small k

  -- ---- openings

  -- an opening gives its arena and handle if it is accepted, and else leaves both
  pub opening_cases : (x : State) (work : Room) (P : State → Type 0)
      → ((open_of τ x.arena work).number ≡ 0 → P (opened_state (open_of τ x.arena work))) → P x → P (after_event τ x (opened work))
  opening_cases x work P new old = go (eqb (open_of τ x.arena work).number 0) (eqb-true _ _)
    where
      go : (t : Bool) → (t ≡ true → (open_of τ x.arena work).number ≡ 0) → P (cond t (opened_state (open_of τ x.arena work)) x)
      go true f = new (f refl)
      go false f = old

  pub alike_open : (x : State) (work : Room) → HeldIn τ x → (open_of τ x.arena work).number ≡ 0 → Alike x (opened_state (open_of τ x.arena work))
  unfolding open_of
  alike_open x work k e =
      let g = layout_in τ x.arena in
      record {
        size = rw e (put_all-length g (mends g x.arena g.N) x.arena);
        distance = opened_distance τ x.arena work e ∙ k.good.distance;
        figures = opened_figures τ x.arena work e ∙ held_figures x k;
      }

  -- ---- calls with openings between

  pub held_event : (x : State) (e : Event) → SmallEvent e → HeldIn τ x → HeldIn τ (after_event τ x e)
  held_event x (called c) small k = held_after x c small k
  held_event x (opened work) small k = opening_cases x work (HeldIn τ) (held_open τ x.arena work (held_small x k)) k

  pub alike_event : (x : State) (e : Event) → HeldIn τ x → Alike x (after_event τ x e)
  alike_event x (called c) k = alike_after x c
  alike_event x (opened work) k = opening_cases x work (Alike x) (alike_open x work k) (alike_self x)

  pub held_events : (x : State) (es : List Event) → SmallEvents es → HeldIn τ x → HeldIn τ (run_events τ x es)
  unfolding runs
  held_events x [] small k = k
  held_events x (e ∷ es) small k =
      held_events (after_event τ x e) es (λ d m. small d (Memᴰ.tail m)) (held_event x e (small e (Memᴰ.head refl)) k)

  pub alike_events : (x : State) (es : List Event) → SmallEvents es → HeldIn τ x → Alike x (run_events τ x es)
  unfolding runs
  alike_events x [] small k = alike_self x
  alike_events x (e ∷ es) small k =
      alike_then x (after_event τ x e) (run_events τ (after_event τ x e) es) (alike_event x e k)
      (alike_events (after_event τ x e) es (λ d m. small d (Memᴰ.tail m)) (held_event x e (small e (Memᴰ.head refl)) k))
