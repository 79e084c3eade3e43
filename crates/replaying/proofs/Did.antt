-- What one record did, kind by kind: the table as the code leaves it is that of the call's definition.
use mathlib.Core.Path.{◌≡◌, ap, ◌∙◌}
use mathlib.Core.List.{List}
use Prim.Native.Nat.{ℕ}
use Rattle.std.specs.Prelude.{Result, Ok, Err}
use Rattle.format.specs.declared.numbers.LaneNo.{LaneNo}
use Rattle.format.specs.declared.numbers.SectorNo.{SectorNo}
use Rattle.layout.specs.Told.{alone_near}
use Rattle.machine.specs.declared.handle.Handle as bare
use Rattle.machine.specs.declared.lane.Lane.{Lane}
use Rattle.machine.specs.declared.refusal.Refusal.{Refusal}
use Rattle.machine.specs.state.Answer.{number_of}
use Rattle.machine.specs.state.Handle.{with}
use Rattle.machine.specs.calls.Opening.{open_of}
use Rattle.machine.specs.calls.Writing.{Outcome, start_of, step_of}
use Rattle.seen.specs.Seen.{kept, moved}
use Rattle.arena.specs.declared.open.Opened.{Opened}
use Rattle.arena.specs.Calls.{opened_handle, opened_table, OpenGives}
use Rattle.runlog.specs.declared.record.Record.TheVariants.{Start, Step, Cut}
use Rattle.replaying.specs.Replay.{room_of, outcome_point, opened_point, step_bytes}
use Rattle.replaying.specs.Gave.{point_at}
use Rattle.replaying.specs.Ran.{RanGives}

-- an opening, and the table as its handle fills it
pub opened_is : (a work : List ℕ) (o : Result Opened Refusal) (arena left : List ℕ) (t : List Lane) (h : bare.Handle) (t₁ : List Lane)
    → OpenGives o arena left t (open_of alone_near a (room_of work t)) → h ≡ opened_handle o → t₁ ≡ opened_table o arena t
    → point_at arena left h t₁ ≡ opened_point (open_of alone_near a (room_of work t))
opened_is a work o arena left t h t₁ g eh et =
    λ k. record { arena = g.arena k; work = g.work k; handle = with ((eh ∙ g.handle) k) ((et ∙ g.table) k) }

module _ (i : ℕ) (a work : List ℕ) (h : bare.Handle) (t t₁ : List Lane) (n : ℕ) where
  -- a call's record kept in its lane's place is the call's outcome
  outcome : (l : ℕ) (r : Result Lane Refusal) (arena : List ℕ) (o : Outcome) → moved (with h t) l r arena ≡ o → n ≡ number_of r → t₁ ≡ kept t l r
      → (point_at arena work h t₁ ≡ outcome_point work o) × (n ≡ o.number)
  outcome l (Ok own) arena o e p q = (rw q (ap (outcome_point work) e), p ∙ ap (λ (x : Outcome). x.number) e)
  outcome l (Err x) arena o e p q = (rw q (ap (outcome_point work) e), p ∙ ap (λ (x : Outcome). x.number) e)

  pub start_ran : (r : Result Lane Refusal) (l : LaneNo) (s : SectorNo) → moved (with h t) l.0 r a ≡ start_of a (with h t) l.0 s.0
      → n ≡ number_of r → t₁ ≡ kept t l.0 r → RanGives i (point_at a work h t) (Start l s) n (point_at a work h t₁)
  start_ran r l s e p q = let o = outcome l.0 r a _ e p q in record { point = o.0; number = o.1 }

  pub step_ran : (r : Result Lane Refusal) (l : LaneNo) (arena : List ℕ)
      → moved (with h t) l.0 r arena ≡ step_of a (with h t) l.0 (step_bytes h.figures.size i)
      → n ≡ number_of r → t₁ ≡ kept t l.0 r → RanGives i (point_at a work h t) (Step l) n (point_at arena work h t₁)
  step_ran r l arena e p q = let o = outcome l.0 r arena _ e p q in record { point = o.0; number = o.1 }

  pub cut_ran : (o : Result Opened Refusal) (arena left : List ℕ) (h₁ : bare.Handle) → OpenGives o arena left t (open_of alone_near a (room_of work t))
      → n ≡ number_of o → h₁ ≡ opened_handle o → t₁ ≡ opened_table o arena t → RanGives i (point_at a work h t) Cut n (point_at arena left h₁ t₁)
  cut_ran o arena left h₁ g p eh et = record { point = opened_is a work o arena left t h₁ t₁ g eh et; number = p ∙ g.number }
