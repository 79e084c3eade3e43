-- A host's list is the machine's: each call is the machine's, and what it leaves stands for what the machine's leaves, so the lists go side
-- by side. An opening needs an arena of bytes: every store of a step and of an opening leaves bytes below 256.
use mathlib.Core.Path.{◌≡◌, refl, sym, ap, ◌∙◌}
use mathlib.Core.List.{List, [], ◌∷◌}
use Prim.Native.Nat.{ℕ, zero, suc}
use lib.Dec.{eqb}
use borrow.Author.Tests.{eqb-true, eqb-false}
use Rattle.words.proofs.Laws.{put_word-bytes}
use Rattle.words.specs.Bytes.{Small}
use Rattle.format.proofs.Tests.{by_bool}
use Rattle.layout.specs.Told.{alone}
use Rattle.machine.specs.declared.handle.Handle as bare
use Rattle.machine.specs.state.Handle.{Handle, laid_out}
use Rattle.machine.specs.state.Lane.{write_stores}
use Rattle.machine.specs.calls.Opening.{Room, open_of}
use Rattle.machine.specs.calls.Writing.{Outcome, start_of, step_number, step_of, steps_of, write_number, write_of}
use Rattle.machine.specs.calls.History.{
  runs,
  Call,
  read,
  start,
  step,
  write,
  State,
  just_number,
  outcome_state,
  opened_state,
  after,
  reply,
  run,
  Event,
  called,
  opened,
  after_event,
  reply_event,
  opened_from,
}
use Rattle.machine.proofs.rules.Runs.{runs_related, says_alike}
use Rattle.machine.proofs.calls.Accepted.{step_found}
use Rattle.machine.proofs.calls.Lent.{table_claim}
use Rattle.machine.proofs.calls.Running.{handle_fit}
use Rattle.machine.proofs.opening.Opening.{opening_claim}
use Rattle.machine.proofs.invariant.Held.{held_open}
use Rattle.machine.proofs.invariant.Histories.{opening_cases, held_small}
use Rattle.btt.specs.Calls.{HostOutcome, btt_open_of}
use Rattle.btt.specs.Host.{LentFor, lanes_in, SameOutcome, PastKept}
use Rattle.btt.specs.HostList.{
  HostState,
  outcome_host,
  opened_host,
  host_after,
  host_reply,
  host_run,
  host_after_event,
  host_reply_event,
  StandsFor,
  SameCalls,
  SameEvents,
}
use Rattle.btt.proofs.Fits.{opening_same, opened_holds}
use Rattle.btt.proofs.Same.{read_same, start_same, step_same, write_same, lanes_held}

-- ---- the arena stays bytes

step_small : (a : List ℕ) (h : Handle) (l : ℕ) (buffer : List ℕ) → Small a → Small (step_of a h l buffer).arena
unfolding step_of
step_small a h l buffer small =
    by_bool (eqb (step_number a h l buffer) 0) (Small (step_of a h l buffer).arena)
    (λ t. let f = step_found a h l buffer (eqb-true _ _ t) in
    rw t (put_word-bytes a _ _ (record { words = (handle_fit h _ f.judged.handle).whole; small = small })).small)
    (λ t. rw t small)

steps_small : (n : ℕ) (a : List ℕ) (h : Handle) (l : ℕ) (buffer : List ℕ) → Small a → Small (steps_of n a h l buffer).arena
unfolding steps_of
steps_small zero a h l buffer small = small
steps_small (suc n) a h l buffer small =
    let o = steps_of n a h l buffer in
    step_small o.arena o.handle l buffer (steps_small n a h l buffer small)

call_small : (x : State) (c : Call) → Small x.arena → Small (after x c).arena
unfolding start_of write_of
call_small x (read s buffer) small = small
call_small x (start l s) small = small
call_small x (step l buffer) small = step_small x.arena x.handle l buffer small
call_small x (write l s buffer) small =
    let o = start_of x.arena x.handle l s in
    by_bool (eqb (write_number x.arena x.handle l s buffer) 0) (Small (write_of x.arena x.handle l s buffer).arena)
    (λ t. rw t (steps_small (write_stores (laid_out x.handle)) x.arena o.handle l buffer small))
    (λ t. rw t small)

event_small : (d : ℕ) (x : State) (e : Event) → Small x.arena → Small (after_event (alone d) x e).arena
event_small d x (called c) small = call_small x c small
event_small d x (opened room) small =
    let o = opened_state (open_of (alone d) x.arena room) in
    opening_cases (alone d) x room (λ y. Small y.arena)
    (λ z. held_small (alone d) o (held_open (alone d) x.arena room small z)) small

-- ---- one call

-- what bytes and a table hold, by the host's state
lent : (y : HostState) (x : State) → StandsFor y x → LentFor y.handle y.table x.handle
lent y x k = record { handle = k.handle; table = k.table }

-- what a call on a lane leaves
outcome_same : (b : List ℕ) (c : HostOutcome) (o : Outcome) → SameOutcome b c o → StandsFor (outcome_host b c) (outcome_state o)
outcome_same b c o p = record { arena = ap (λ (e : HostOutcome). e.arena) p.is; handle = p.lent.handle; table = p.lent.table }

call_leaves : (y : HostState) (x : State) (c : Call) → StandsFor y x → StandsFor (host_after y c) (after x c)
call_leaves y x (read s buffer) k = k
call_leaves y x (start l s) k =
    rw k.arena (outcome_same _ _ _ (start_same x.arena y.handle y.table x.handle (lent y x k) l s))
call_leaves y x (step l buffer) k =
    rw k.arena (outcome_same _ _ _ (step_same x.arena y.handle y.table x.handle (lent y x k) l buffer))
call_leaves y x (write l s buffer) k =
    rw k.arena (outcome_same _ _ _ (write_same x.arena y.handle y.table x.handle (lent y x k) l s buffer))

-- its number alone
numbered : (b : List ℕ) (c : HostOutcome) (o : Outcome) → SameOutcome b c o → just_number c.number ≡ just_number o.number
numbered b c o p = ap (λ (e : HostOutcome). just_number e.number) p.is

call_replies : (y : HostState) (x : State) (c : Call) → StandsFor y x → host_reply y c ≡ reply x c
call_replies y x (read s buffer) k = rw (k.arena, read_same x.arena y.handle y.table x.handle s buffer (lent y x k))
call_replies y x (start l s) k =
    rw k.arena (numbered _ _ _ (start_same x.arena y.handle y.table x.handle (lent y x k) l s))
call_replies y x (step l buffer) k =
    rw k.arena (numbered _ _ _ (step_same x.arena y.handle y.table x.handle (lent y x k) l buffer))
call_replies y x (write l s buffer) k =
    rw k.arena (numbered _ _ _ (write_same x.arena y.handle y.table x.handle (lent y x k) l s buffer))

-- the handle's bytes are only read
call_bytes : (y : HostState) (c : Call) → (host_after y c).handle ≡ y.handle
call_bytes y (read s buffer) = refl
call_bytes y (start l s) = refl
call_bytes y (step l buffer) = refl
call_bytes y (write l s buffer) = refl

-- ---- one opening

pub first_same : (d : ℕ) (a : List ℕ) (room : Room) → Small a → (open_of (alone d) a room).number ≡ 0
    → StandsFor (opened_host (btt_open_of d a room)) (opened_from (alone d) a room)
first_same d a room small z =
    let p = opened_holds d a room small z in
    record { arena = (opening_same d a room).arena; handle = p.handle; table = p.table }

-- a host has what stands for the machine's, and the arena is bytes
abbrev Beside : HostState → State → Type 0
Beside y x = StandsFor y x × Small x.arena

-- an accepted opening's bytes and table are the latest, and a refused one leaves the arena and the latest as they were
opening_leaves : (d : ℕ) (y : HostState) (x : State) (room : Room) → Beside y x
    → StandsFor (host_after_event d y (opened room)) (after_event (alone d) x (opened room))
unfolding btt_open_of
opening_leaves d y x room k =
    rw k.0.arena
    (by_bool (eqb (open_of (alone d) x.arena room).number 0) _
    (λ t. rw t (record {
      arena = refl;
      handle = (opened_holds d x.arena room k.1 (eqb-true _ _ t)).handle;
      table = refl;
    }))
    (λ t. rw t (record {
      arena = ((opening_claim (alone d)).refused x.arena room (eqb-false _ _ t)).arena;
      handle = k.0.handle;
      table = k.0.table;
    })))

event_kept : (d : ℕ) (y : HostState) (x : State) (e : Event) → Beside y x → Beside (host_after_event d y e) (after_event (alone d) x e)
event_kept d y x (called c) k = (call_leaves y x c k.0, event_small d x (called c) k.1)
event_kept d y x (opened room) k = (opening_leaves d y x room k, event_small d x (opened room) k.1)

event_replies : (d : ℕ) (y : HostState) (x : State) (e : Event) → Beside y x → host_reply_event d y e ≡ reply_event (alone d) x e
unfolding btt_open_of
event_replies d y x (called c) k = call_replies y x c k.0
event_replies d y x (opened room) k = rw k.0.arena

-- ---- lists

list_bytes : (y : HostState) (cs : List Call) → (host_run y cs).handle ≡ y.handle
unfolding runs
list_bytes y [] = refl
list_bytes y (c ∷ cs) = list_bytes (host_after y c) cs ∙ call_bytes y c

-- the table that a list leaves is the machine's, which is as long as it was and has the records past the lanes
list_past : (y : HostState) (x : State) (cs : List Call) → StandsFor y x → StandsFor (host_run y cs) (run x cs)
    → PastKept (lanes_in y.handle) y.table (host_run y cs).table
list_past y x cs k e =
    let n : x.handle.figures.lanes ≡ lanes_in y.handle =
    sym (ap (λ (h : bare.Handle). h.figures.lanes) k.handle.is) ∙ lanes_held y.handle in
    rw (e.table, k.table) (record { size = table_claim.list_size x cs; past = λ j u. table_claim.list_past x cs j (rw n u) })

pub calls_same : (y : HostState) (x : State) (cs : List Call) → StandsFor y x → SameCalls y x cs
calls_same y x cs k = record {
  replies =
      says_alike host_after after (λ _. Unit {0}) StandsFor (λ y x c _. call_leaves y x c) host_reply reply (λ y x c _. call_replies y x c)
      cs (λ _ _. tt) y x k;
  leaves = left;
  bytes = list_bytes y cs;
  past = list_past y x cs k left;
}
  where
    left : StandsFor (host_run y cs) (run x cs)
    left = runs_related host_after after (λ _. Unit {0}) StandsFor (λ y x c _. call_leaves y x c) cs (λ _ _. tt) y x k

pub events_same : (d : ℕ) (y : HostState) (x : State) (es : List Event) → StandsFor y x → Small x.arena → SameEvents d y x es
events_same d y x es k small =
    let left =
    runs_related (host_after_event d) (after_event (alone d)) (λ _. Unit {0}) Beside (λ y x e _. event_kept d y x e) es (λ _ _. tt) y x (k, small) in
    record {
      replies =
          says_alike (host_after_event d) (after_event (alone d)) (λ _. Unit {0}) Beside (λ y x e _. event_kept d y x e)
          (host_reply_event d) (reply_event (alone d)) (λ y x e _. event_replies d y x e) es (λ _ _. tt) y x (k, small);
      leaves = left.0;
      small = left.1;
    }
