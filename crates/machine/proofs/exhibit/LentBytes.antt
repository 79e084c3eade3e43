-- A history in which every step on a lane lends that lane's bytes: each write is handed the same bytes throughout. What is in flight on a
-- lane either has no store yet or has the lane's bytes, and every event keeps that.
use mathlib.Core.Path.{refl, sym, subst}
use mathlib.Core.List.{List, [], ◌∷◌, Memᴰ}
use Prim.Native.Nat.{ℕ}
use native.Mathlib.Omega.{arith}
use Rattle.layout.specs.declared.Figures.{Figures}
use Rattle.machine.specs.calls.History.{read, start, step, write, Event, called, opened}
use Rattle.machine.specs.claims.DemandThree.{lends}
use Rattle.machine.specs.models.Row.{Flight, Row, last_buffer, row_after_event, SameFlight, SameBuffer, OneBuffer}
use Rattle.machine.proofs.row.Lanes.{EachLane, event_each}

module _ (bytes : ℕ → List ℕ) where
  -- the event lends the bytes of its lane
  abbrev pub LendsIn : Event → Type 0
  LendsIn (called c) = lends bytes c
  LendsIn (opened work) = Unit {0}

  -- what is in flight on lane l has no store yet, or that lane's bytes
  abbrev LentOn : ℕ → Flight → Type 0
  LentOn l y = SameFlight (bytes l) y

  abbrev pub Lent : Row → Type 0
  Lent row = EachLane LentOn row

  module _ (f : Figures) where
    event_lent : (row : Row) (e : Event) → LendsIn e → Lent row → Lent (row_after_event last_buffer f row e)
    event_lent row e p = event_each LentOn (λ l. tt) (λ l s u. absurd (omega arith)) f row e (λ l buffer d n s made u. sym (subst LendsIn d p))

    same_buffer : (row : Row) (e : Event) → LendsIn e → Lent row → SameBuffer f row e
    same_buffer row (called (read s buffer)) p q = tt
    same_buffer row (called (start l s)) p q = tt
    same_buffer row (called (step l buffer)) p q = λ n. rw p (q l)
    same_buffer row (called (write l s buffer)) p q = tt
    same_buffer row (opened work) p q = tt

    pub lent_one : (es : List Event) (row : Row) → ((e : Event) → Memᴰ e es → LendsIn e) → Lent row → OneBuffer f row es
    lent_one [] row p q = tt
    lent_one (e ∷ es) row p q =
        let h = p e (Memᴰ.head refl) in
        (same_buffer row e h q, lent_one es (row_after_event last_buffer f row e) (λ d m. p d (Memᴰ.tail m)) (event_lent row e h q))
