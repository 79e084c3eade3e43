-- Each call through bytes and a table that hold a handle is the machine's call on that handle, and of the table it changes the record of its
-- own lane at most.
use mathlib.Core.Path.{◌≡◌, sym, ap, ◌∙◌}
use mathlib.Core.Logic.{◌≢◌}
use mathlib.Core.List.{List}
use Prim.Native.Nat.{ℕ}
use Rattle.machine.specs.declared.lane.Lane.{Lane}
use Rattle.machine.specs.state.Handle.{Handle, with, bare_of}
use Rattle.machine.specs.calls.Order.{Call, start, step, write}
use Rattle.machine.specs.calls.Reading.{read_of}
use Rattle.machine.specs.calls.Writing.{Outcome, start_of, step_of, write_of}
use Rattle.machine.specs.calls.History.{after}
use Rattle.machine.specs.claims.Lent.{OnLane}
use Rattle.machine.proofs.calls.Lent.{table_claim}
use Rattle.handlebytes.specs.Bytes.{decode_handle}
use Rattle.handlebytes.proofs.Offsets.{head_at}
use Rattle.btt.specs.Calls.{handle_in, btt_read_of, btt_of, btt_start_of, btt_step_of, btt_write_of}
use Rattle.btt.specs.Host.{LentFor, lanes_in, SameOutcome, OnlyLane}

-- the handle that the two hold
pub held : (b : List ℕ) (t : List Lane) (h : Handle) → LentFor b t h → handle_in b t ≡ h
held b t h k = λ i. with (k.handle.is i) (k.table i)

pub read_same : (a b : List ℕ) (t : List Lane) (h : Handle) (s : ℕ) (buffer : List ℕ) → LentFor b t h
    → btt_read_of a b t s buffer ≡ read_of a h s buffer
unfolding btt_read_of
read_same a b t h s buffer k = ap (λ (x : Handle). read_of a x s buffer) (held b t h k)

module _ (a b : List ℕ) (t : List Lane) (h : Handle) (k : LentFor b t h) where
  -- the call is the machine's on that handle, and leaves the handle itself
  same : (call : Handle → Outcome) → bare_of (call h).handle ≡ bare_of h → SameOutcome b (btt_of (call (handle_in b t))) (call h)
  same call e =
      let q = held b t h k in
      record {
        is = ap (λ (x : Handle). btt_of (call x)) q;
        lent = record {
          handle = record { size = k.handle.size; small = k.handle.small; is = k.handle.is ∙ sym e };
          table = ap (λ (x : Handle). (call x).handle.table) q;
        };
      }

  pub start_same : (l s : ℕ) → SameOutcome b (btt_start_of a b t l s) (start_of a h l s)
  unfolding btt_start_of
  start_same l s = same (λ x. start_of a x l s) (table_claim.calls a h (start l s)).handle

  pub step_same : (l : ℕ) (buffer : List ℕ) → SameOutcome b (btt_step_of a b t l buffer) (step_of a h l buffer)
  unfolding btt_step_of
  step_same l buffer = same (λ x. step_of a x l buffer) (table_claim.calls a h (step l buffer)).handle

  pub write_same : (l s : ℕ) (buffer : List ℕ) → SameOutcome b (btt_write_of a b t l s buffer) (write_of a h l s buffer)
  unfolding btt_write_of
  write_same l s buffer = same (λ x. write_of a x l s buffer) (table_claim.calls a h (write l s buffer)).handle

-- ---- what a call changes of the table

-- the lanes by the bytes are the handle's
pub lanes_held : (b : List ℕ) → (decode_handle b).figures.lanes ≡ lanes_in b
lanes_held b = (head_at b).lanes

module _ (a b : List ℕ) (t : List Lane) (l : ℕ) where
  only : (c : Call) → ((j : ℕ) → j ≢ l → OnLane c j → ⊥) → OnlyLane b l t (after (record { arena = a; handle = handle_in b t }) c).handle.table
  only c n =
      let p = table_claim.calls a (handle_in b t) c in
      record { others = λ j u. p.others j (n j u); kept = record { size = p.size; past = rw (lanes_held b) at p.past } }

  pub start_only : (s : ℕ) → OnlyLane b l t (btt_start_of a b t l s).table
  unfolding btt_start_of
  start_only s = only (start l s) (λ j u. u)

  pub step_only : (buffer : List ℕ) → OnlyLane b l t (btt_step_of a b t l buffer).table
  unfolding btt_step_of
  step_only buffer = only (step l buffer) (λ j u. u)

  pub write_only : (s : ℕ) (buffer : List ℕ) → OnlyLane b l t (btt_write_of a b t l s buffer).table
  unfolding btt_write_of
  write_only s buffer = only (write l s buffer) (λ j u. u)
