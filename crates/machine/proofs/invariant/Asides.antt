-- Calls given another handle that store nothing, and refused openings, leave no trace: a history with them comes to what it is without them.
use mathlib.Core.Path.{◌≡◌, refl, ap, ◌∙◌}
use mathlib.Core.Logic.{◌≢◌}
use mathlib.Core.List.{List, [], ◌∷◌}
use Prim.Native.Nat.{ℕ}
use borrow.Author.Tests.{ne_eqb}
use Rattle.layout.specs.Told.{in_layout}
use Rattle.layout.specs.declared.Told.{Told}
use Rattle.machine.specs.state.Handle.{Handle}
use Rattle.machine.specs.calls.Opening.{Room, open_of}
use Rattle.machine.specs.calls.History.{runs, says, Call, read, start, step, write, State, Reply, run, reply, replies, after, called, opened, after_event, reply_event, run_events, reply_events}
use Rattle.machine.specs.calls.Asides.{Happening, latest, aside, tried, shortened, latest_of, calls_of, after_one, Harmless, AllHarmless, AllRefused, heard, heard_calls}
use Rattle.machine.specs.claims.DemandThree.{BesideList}
use Rattle.machine.proofs.calls.Running.{running_claim}
use Rattle.machine.proofs.opening.Cuts.{cut-none}
use Rattle.machine.proofs.opening.Opening.{opening_claim}

module _ (τ : Told) where
  -- a call given another handle leaves the arena
  aside_same : (x : State) (h : Handle) (c : Call) → Harmless τ x (aside h c) → after_one τ x (aside h c) ≡ x
  aside_same x h (read s buffer) u = refl
  aside_same x h (start l s) u = λ j. record { arena = running_claim.start_stores_none x.arena h l s j; handle = x.handle }
  aside_same x h (step l buffer) u = λ j. record { arena = (running_claim.step_refused x.arena h l buffer u).arena j; handle = x.handle }
  aside_same x h (write l s buffer) u = λ j. record { arena = (running_claim.write_refused x.arena h l s buffer u).arena j; handle = x.handle }

  -- and so do a refused opening and a refused cut opening in any layout
  tried_same : (x : State) (d : ℕ) (work : Room) → Harmless τ x (tried d work) → after_one τ x (tried d work) ≡ x
  tried_same x d work u = λ j. record { arena = ((opening_claim (in_layout τ d)).refused x.arena work u).arena j; handle = x.handle }

  shortened_same : (x : State) (d : ℕ) (work : Room) (k : ℕ) → Harmless τ x (shortened d work k) → after_one τ x (shortened d work k) ≡ x
  shortened_same x d work k u = λ j. record { arena = cut-none (in_layout τ d) x.arena work k u j; handle = x.handle }

  -- a refused opening in the handle's layout leaves both
  opened_same : (x : State) (work : Room) → (open_of τ x.arena work).number ≢ 0 → after_event τ x (opened work) ≡ x
  opened_same x work n = rw (ne_eqb (open_of τ x.arena work).number 0 n)

  -- a history is that of its events through the latest handle
  pub latest_state : (hs : List Happening) (x : State) → AllHarmless τ x hs → runs (after_one τ) x hs ≡ run_events τ x (latest_of hs)
  unfolding runs latest_of
  latest_state [] x u = refl
  latest_state (latest e ∷ hs) x u = latest_state hs (after_event τ x e) u.1
  latest_state (aside h c ∷ hs) x u = latest_state hs _ u.1 ∙ ap (λ (y : State). run_events τ y (latest_of hs)) (aside_same x h c u.0)
  latest_state (tried d work ∷ hs) x u =
      latest_state hs _ u.1 ∙ ap (λ (y : State). run_events τ y (latest_of hs)) (tried_same x d work u.0)
  latest_state (shortened d work k ∷ hs) x u =
      latest_state hs _ u.1 ∙ ap (λ (y : State). run_events τ y (latest_of hs)) (shortened_same x d work k u.0)

  pub latest_heard : (hs : List Happening) (x : State) → AllHarmless τ x hs → heard τ x hs ≡ reply_events τ x (latest_of hs)
  unfolding says latest_of heard
  latest_heard [] x u = refl
  latest_heard (latest e ∷ hs) x u = ap (λ (rs : List Reply). reply_event τ x e ∷ rs) (latest_heard hs (after_event τ x e) u.1)
  latest_heard (aside h c ∷ hs) x u = latest_heard hs _ u.1 ∙ ap (λ (y : State). reply_events τ y (latest_of hs)) (aside_same x h c u.0)
  latest_heard (tried d work ∷ hs) x u =
      latest_heard hs _ u.1 ∙ ap (λ (y : State). reply_events τ y (latest_of hs)) (tried_same x d work u.0)
  latest_heard (shortened d work k ∷ hs) x u =
      latest_heard hs _ u.1 ∙ ap (λ (y : State). reply_events τ y (latest_of hs)) (shortened_same x d work k u.0)

  -- and a list is that of its calls
  beside_state : (hs : List Happening) (x : State) → AllHarmless τ x hs → AllRefused τ x hs → runs (after_one τ) x hs ≡ run x (calls_of hs)
  unfolding runs calls_of
  beside_state [] x u v = refl
  beside_state (latest (called c) ∷ hs) x u v = beside_state hs (after x c) u.1 v.1
  beside_state (latest (opened work) ∷ hs) x u v =
      beside_state hs _ u.1 v.1 ∙ ap (λ (y : State). run y (calls_of hs)) (opened_same x work v.0)
  beside_state (aside h c ∷ hs) x u v = beside_state hs _ u.1 v.1 ∙ ap (λ (y : State). run y (calls_of hs)) (aside_same x h c u.0)
  beside_state (tried d work ∷ hs) x u v =
      beside_state hs _ u.1 v.1 ∙ ap (λ (y : State). run y (calls_of hs)) (tried_same x d work u.0)
  beside_state (shortened d work k ∷ hs) x u v =
      beside_state hs _ u.1 v.1 ∙ ap (λ (y : State). run y (calls_of hs)) (shortened_same x d work k u.0)

  beside_heard : (hs : List Happening) (x : State) → AllHarmless τ x hs → AllRefused τ x hs → heard_calls τ x hs ≡ replies x (calls_of hs)
  unfolding says calls_of heard_calls
  beside_heard [] x u v = refl
  beside_heard (latest (called c) ∷ hs) x u v = ap (λ (rs : List Reply). reply x c ∷ rs) (beside_heard hs (after x c) u.1 v.1)
  beside_heard (latest (opened work) ∷ hs) x u v =
      beside_heard hs _ u.1 v.1 ∙ ap (λ (y : State). replies y (calls_of hs)) (opened_same x work v.0)
  beside_heard (aside h c ∷ hs) x u v = beside_heard hs _ u.1 v.1 ∙ ap (λ (y : State). replies y (calls_of hs)) (aside_same x h c u.0)
  beside_heard (tried d work ∷ hs) x u v =
      beside_heard hs _ u.1 v.1 ∙ ap (λ (y : State). replies y (calls_of hs)) (tried_same x d work u.0)
  beside_heard (shortened d work k ∷ hs) x u v =
      beside_heard hs _ u.1 v.1 ∙ ap (λ (y : State). replies y (calls_of hs)) (shortened_same x d work k u.0)

  pub beside_list : (x : State) (hs : List Happening) → AllHarmless τ x hs → AllRefused τ x hs → BesideList τ x hs
  beside_list x hs u v = record { state = beside_state hs x u v; answers = beside_heard hs x u v }
