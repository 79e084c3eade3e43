-- What every lane of the row that keeps the latest buffer has: an idle lane, a write just begun, and a write that keeps the buffer of an
-- accepted step have it, so every event keeps it.
use mathlib.Core.Path.{◌≡◌, refl, ap}
use mathlib.Core.List.{List, []}
use mathlib.Core.Bool.{Bool, true, false, cond}
use Prim.Native.Nat.{ℕ, ◌+◌}
use lib.Dec.{eqb}
use borrow.Author.Tests.{eqb-true}
use Rattle.format.proofs.Tests.{by_bool}
use Rattle.layout.specs.declared.Figures.{Figures}
use Rattle.machine.specs.calls.Opening.{extent_of}
use Rattle.machine.specs.calls.History.{Call, read, start, step, write, Event, called, opened}
use Rattle.machine.specs.models.Row.{
  Flight,
  idle,
  flying,
  Row,
  stores_of,
  put,
  row_number,
  last_buffer,
  stepped,
  changed,
  row_after,
  reopened,
  row_open_number,
  row_after_event,
}

module _ (P : ℕ → Flight → Type 0) where
  abbrev pub EachLane : Row → Type 0
  EachLane row = (l : ℕ) → P l (row.lane l)

  either : (t : Bool) (x y : Row) → EachLane x → EachLane y → EachLane (cond t x y)
  either true x y p q = p
  either false x y p q = q

  -- one lane changed
  with-lane : (row : Row) (l : ℕ) (v : Flight) → P l v → EachLane row → (j : ℕ) → P j (put row.lane l v j)
  with-lane row l v p q j = by_bool (eqb j l) _ (λ t. rw (t, eqb-true j l t) p) (λ t. rw t (q j))

  module _ (resting : (l : ℕ) → P l idle) (begun : (l s : ℕ) → P l (flying s 0 [])) (f : Figures) where
    step_each : (row : Row) (l : ℕ) (buffer : List ℕ) → ((s made : ℕ) → P l (flying s made buffer)) → (v : Flight) → EachLane row
        → EachLane (stepped last_buffer f row l buffer v)
    step_each row l buffer p idle q = q
    step_each row l buffer p (flying s made old) q =
        either (eqb (made + 1) (stores_of f)) _ _ (with-lane row l idle (resting l) q)
        (with-lane row l (flying s (made + 1) buffer) (p s (made + 1)) q)

    changed_each : (row : Row) (c : Call) → ((l : ℕ) (buffer : List ℕ) → c ≡ step l buffer → (s made : ℕ) → P l (flying s made buffer))
        → EachLane row → EachLane (changed last_buffer f row c)
    changed_each row (read s buffer) p q = q
    changed_each row (start l s) p q = with-lane row l (flying s 0 []) (begun l s) q
    changed_each row (step l buffer) p q = step_each row l buffer (p l buffer refl) (row.lane l) q
    changed_each row (write l s buffer) p q = q

    pub event_each : (row : Row) (e : Event)
        → ((l : ℕ) (buffer : List ℕ) → e ≡ called (step l buffer) → row_number f row (step l buffer) ≡ 0 → (s made : ℕ) → P l (flying s made buffer))
        → EachLane row → EachLane (row_after_event last_buffer f row e)
    unfolding row_after_event row_after
    event_each row (called c) p q = by_bool (eqb (row_number f row c) 0) _
        (λ t. rw t (changed_each row c (λ l buffer d. p l buffer (ap called d) (rw (← d) (eqb-true _ _ t))) q)) (λ t. rw t q)
    event_each row (opened work) p q = either (eqb (row_open_number f (extent_of work)) 0) (reopened f row) row resting q
