-- What a call sees of the table that is lent with a handle, and what it gives back, in the form of the machine's definitions.
use Rattle.std.specs.Prelude.{◌≡◌, Bool, cond, ◌&&◌, List, ℕ, eqb, leb, length, set, Result, Ok, Err}
use Rattle.format.specs.Tests.{every}
use Rattle.layout.specs.Place.{layout_of}
use Rattle.machine.specs.declared.handle.Handle as bare
use Rattle.machine.specs.declared.lane.Lane.{Lane}
use Rattle.machine.specs.declared.refusal.Refusal.{Refusal}
use Rattle.machine.specs.state.Answer.{refusal_number}
use Rattle.machine.specs.state.Lane.{is_busy, lane_allowed}
use Rattle.machine.specs.state.Handle.{Handle, with, lane_at, with_lane}
use Rattle.machine.specs.calls.Judging.{in_flight}
use Rattle.machine.specs.calls.Writing.{Outcome}
use Rattle.seen.specs.declared.Seen.{Seen}

-- a record has sector s in flight
abbrev pub flies : Lane → ℕ → Bool
flies r s = is_busy r && eqb r.sector.0 s

-- a record is in range for the handle
abbrev pub allowed : bare.Handle → Lane → Bool
allowed h r = lane_allowed (layout_of h.distance h.figures) r

-- the records that are judged: the lanes', or none where the table is shorter
abbrev pub reach : bare.Handle → ℕ → ℕ
reach h n = cond (leb h.figures.lanes n) h.figures.lanes 0

-- the first n records are in range
abbrev pub sound_to : bare.Handle → List Lane → ℕ → Bool
sound_to h t n = every n (λ l. allowed h (lane_at t l))

-- what a call on lane l and sector s sees
unfoldable pub seen_of : bare.Handle → List Lane → ℕ → ℕ → Seen
seen_of h t l s =
    let n = reach h (length t) in
    record { length = length t; sound = sound_to h t n; flying = sound_to h t n && in_flight t n s; own = lane_at t l }

-- the same, where judging stopped after so many records of those to be judged
abbrev pub seen_after : ℕ → ℕ → ℕ → Bool → Lane → Seen
seen_after n end done flying r = record { length = n; sound = eqb done end; flying = eqb done end && flying; own = r }

-- there is a table of which that is seen
pub record Saw (h : bare.Handle) (l s : ℕ) (seen : Seen) : Type 0 where
  pub table : List Lane
  pub is : seen ≡ seen_of h table l s

-- so it is with every table of which that is seen
abbrev pub Every : bare.Handle → ℕ → ℕ → Seen → (Handle → Type 0) → Type 0
Every h l s seen P = (t : List Lane) → seen ≡ seen_of h t l s → P (with h t)

-- a table with the record that a call gave in its lane's place; a refusal leaves it
abbrev pub kept : List Lane → ℕ → Result Lane Refusal → List Lane
kept t l (Ok own) = set t l own
kept t l (Err _) = t

-- what a call on lane l gave: its number, the arena, and the table with the lane's record stored; a refusal stores none
abbrev pub moved : Handle → ℕ → Result Lane Refusal → List ℕ → Outcome
moved k l (Ok own) arena = record { number = 0; arena = arena; handle = with_lane k l own }
moved k l (Err r) arena = record { number = refusal_number r; arena = arena; handle = k }
