-- Laws of the calls over a table: what each step of a call gave, put together, is the call's definition.
use mathlib.Core.Path.{◌≡◌, ap, ap₂, ◌∙◌}
use mathlib.Core.List.{List}
use Rattle.std.proofs.Common.{Result, Ok, Err}
use Rattle.machine.specs.declared.refusal.Refusal.{Refusal}
use Rattle.machine.specs.state.Answer.{number_of}
use Prim.Native.Nat.{ℕ}
use Rattle.layout.specs.Told.{alone}
use Rattle.machine.specs.declared.handle.Handle as bare
use Rattle.machine.specs.declared.lane.Lane.{Lane}
use Rattle.machine.specs.state.Handle.{with}
use Rattle.machine.specs.calls.Opening.{open_of}
use Rattle.machine.specs.calls.Reading.{Read, read_of}
use Rattle.machine.specs.calls.Writing.{Outcome, start_of, step_of, write_of}
use Rattle.seen.specs.Seen.{kept, moved}
use Rattle.arena.specs.Calls.{OpenGives, opened_count, opened_handle, opened_table}
use Rattle.arena.specs.declared.open.Opened.{Opened}
use Rattle.handlebytes.specs.Bytes.{decode_handle}
use Rattle.btt.specs.Calls.{
  HostOpening,
  HostOutcome,
  HostLane,
  HostNext,
  room,
  given_bytes,
  btt_of,
  btt_open_of,
  btt_read_of,
  btt_start_of,
  btt_step_of,
  btt_write_of,
  lane_shown,
  btt_lane_of,
  next_shown,
  btt_next_store_of,
}

-- the record that a call gave is kept, and its number is returned
pub acted : (h : bare.Handle) (t : List Lane) (l : ℕ) (m : Result Lane Refusal) (arena : List ℕ) (n : ℕ) (after : List Lane) (o : Outcome)
    → moved (with h t) l m arena ≡ o → after ≡ kept t l m → n ≡ number_of m
    → ◌≡◌ {A = HostOutcome} (record { number = n; arena = arena; table = after }) (btt_of o)
acted h t l (Ok own) arena n after o e et en = (λ i. record { number = en i; arena = arena; table = et i }) ∙ ap btt_of e
acted h t l (Err r) arena n after o e et en = (λ i. record { number = en i; arena = arena; table = et i }) ∙ ap btt_of e

-- the handle is the one that the bytes hold
module _ (a b : List ℕ) (t : List Lane) (lane : ℕ) (h : bare.Handle) (eh : h ≡ decode_handle b) where
  pub start_is : (sector : ℕ) (x : HostOutcome) → x ≡ btt_of (start_of a (with h t) lane sector) → x ≡ btt_start_of a b t lane sector
  unfolding btt_start_of
  start_is sector x e = e ∙ (λ i. btt_of (start_of a (with (eh i) t) lane sector))

  pub step_is : (buffer : List ℕ) (x : HostOutcome) → x ≡ btt_of (step_of a (with h t) lane buffer) → x ≡ btt_step_of a b t lane buffer
  unfolding btt_step_of
  step_is buffer x e = e ∙ (λ i. btt_of (step_of a (with (eh i) t) lane buffer))

  pub write_is : (sector : ℕ) (buffer : List ℕ) (x : HostOutcome) → x ≡ btt_of (write_of a (with h t) lane sector buffer)
      → x ≡ btt_write_of a b t lane sector buffer
  unfolding btt_write_of
  write_is sector buffer x e = e ∙ (λ i. btt_of (write_of a (with (eh i) t) lane sector buffer))

  pub lane_is : (out : List ℕ) (x : HostLane) → x ≡ lane_shown a (with h t) lane out → x ≡ btt_lane_of a b t lane out
  lane_is out x e = e ∙ (λ i. lane_shown a (with (eh i) t) lane out)

  pub next_is : (offset : ℕ) (x : HostNext) → x ≡ next_shown a (with h t) lane offset → x ≡ btt_next_store_of a b t lane offset
  next_is offset x e = e ∙ (λ i. next_shown a (with (eh i) t) lane offset)

pub read_is : (a b : List ℕ) (t : List Lane) (sector : ℕ) (buffer : List ℕ) (h : bare.Handle) (x : Read) → h ≡ decode_handle b
    → x ≡ read_of a (with h t) sector buffer → x ≡ btt_read_of a b t sector buffer
unfolding btt_read_of
read_is a b t sector buffer h x eh e = e ∙ (λ i. read_of a (with (eh i) t) sector buffer)

-- an opening, with the table filled by the handle that it gave
pub open_is : (d : ℕ) (a work : List ℕ) (t : List Lane) (o : Result Opened Refusal) (arena left : List ℕ) (after : List Lane) (n mended : ℕ)
    (bytes : List ℕ) → OpenGives o arena left t (open_of (alone d) a (room work t)) → after ≡ opened_table o arena t
    → n ≡ number_of o → mended ≡ opened_count o → bytes ≡ given_bytes (number_of o) (opened_handle o)
    → ◌≡◌ {A = HostOpening} (record { number = n; mended = mended; arena = arena; table = after; handle = bytes; work = left })
    (btt_open_of d a (room work t))
unfolding btt_open_of
open_is d a work t o arena left after n mended bytes g ef en em eb = λ i. record {
  number = (en ∙ g.number) i;
  mended = (em ∙ g.mended) i;
  arena = g.arena i;
  table = (ef ∙ g.table) i;
  handle = (eb ∙ ap₂ given_bytes g.number g.handle) i;
  work = g.work i;
}
