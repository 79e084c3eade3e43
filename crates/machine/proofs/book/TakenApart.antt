-- A list with its accepted whole writes taken apart leaves what the list leaves, begins the same writes and lends the same bytes;
-- and so its prefixes are followed in the book as those of the list are.
use mathlib.Core.Path.{◌≡◌, refl, sym, ap, ap₂, ◌∙◌}
use mathlib.Core.List.Memᴰ
use mathlib.Core.List.{List, [], ◌∷◌, ◌++◌, append_assoc, append-nil}
use Prim.Native.Nat.{ℕ, zero, suc}
use lib.ListN.{replicate}
use Rattle.layout.specs.Place.{Layout, layout_of}
use Rattle.machine.specs.state.Lane.{write_stores}
use Rattle.machine.specs.state.Handle.{laid_out}
use Rattle.machine.specs.calls.Writing.{start_of, steps_of, write_number, write_of}
use Rattle.machine.specs.calls.History.{runs, Call, read, start, step, write, State, outcome_state, reply, after, run, SmallCall, SmallCalls}
use Rattle.machine.specs.models.Book.{Entry}
use Rattle.machine.specs.claims.DemandThree.{Differ, begins, begun, Lends, apart, taken_apart}
use Rattle.machine.proofs.stores.Members.{Each, each_more, each_one, each_append, each_replicate}
use Rattle.machine.proofs.calls.Accepted.{write_found}
use Rattle.machine.proofs.invariant.Histories.{alike_after}
use Rattle.machine.proofs.book.Entries.{differ_left}
use Rattle.machine.proofs.book.SimCalls.{write_after}

-- ---- parts of a list

run-append : (p q : List Call) (y : State) → run y (p ++ q) ≡ run (run y p) q
unfolding runs
run-append [] q y = refl
run-append (c ∷ p) q y = run-append p q (after y c)

begun-append : (p q : List Call) (y : State) → begun y (p ++ q) ≡ begun y p ++ begun (run y p) q
unfolding runs begun
begun-append [] q y = refl
begun-append (c ∷ p) q y = rw (begun-append p q (after y c)) (sym (append_assoc (begins (reply y c).number c) _ _))

lends-append : (bytes : ℕ → List ℕ) (p q : List Call) (y : State) → Lends bytes y p → Lends bytes (run y p) q → Lends bytes y (p ++ q)
unfolding runs
lends-append bytes [] q y u v = v
lends-append bytes (c ∷ p) q y u v = (u.0, lends-append bytes p q (after y c) u.1 v)

pub lends_left : (bytes : ℕ → List ℕ) (p q : List Call) (y : State) → Lends bytes y (p ++ q) → Lends bytes y p
lends_left bytes [] q y u = tt
lends_left bytes (c ∷ p) q y u = (u.0, lends_left bytes p q (after y c) u.1)

pub begun_left : (p q : List Call) (y : State) → Differ (begun y (p ++ q)) → Differ (begun y p)
begun_left p q y d = differ_left (begun y p) (begun (run y p) q) (rw (begun-append p q y) at d)

-- ---- calls that are no whole writes stay as they are

abbrev pub InOne : Call → Type 0
InOne c = (g : Layout) (n : ℕ) → apart g n c ≡ c ∷ []

pub start_in_one : (l s : ℕ) → InOne (start l s)
start_in_one l s g zero = refl
start_in_one l s g (suc n) = refl

pub step_in_one : (l : ℕ) (buffer : List ℕ) → InOne (step l buffer)
step_in_one l buffer g zero = refl
step_in_one l buffer g (suc n) = refl

pub no_writes : (g : Layout) (cs : List Call) (y : State) → Each InOne cs → taken_apart g y cs ≡ cs
unfolding taken_apart
no_writes g [] y f = refl
no_writes g (c ∷ cs) y f = rw (f c (Memᴰ.head refl) g (reply y c).number, no_writes g cs (after y c) (λ d m. f d (Memᴰ.tail m)))

-- ---- two lists that come to the same

pub record ComesTo (bytes : ℕ → List ℕ) (y : State) (p cs : List Call) : Type 0 where
  pub state : run y p ≡ run y cs
  pub begins : begun y p ≡ begun y cs
  pub lent : Lends bytes y cs → Lends bytes y p
  pub small : SmallCalls cs → SmallCalls p

module _ (bytes : ℕ → List ℕ) (y : State) where
  alike_self : (cs : List Call) → ComesTo bytes y cs cs
  alike_self cs = record { state = refl; begins = refl; lent = λ u. u; small = λ u. u }

  -- a call taken apart, and then the rest
  alike_cons : (c : Call) (p q cs : List Call) → ComesTo bytes y p (c ∷ []) → ComesTo bytes (after y c) q cs → ComesTo bytes y (p ++ q) (c ∷ cs)
  unfolding runs begun
  alike_cons c p q cs f g = record {
    state = run-append p q y ∙ ap (λ (x : State). run x q) f.state ∙ g.state;
    begins = begun-append p q y ∙ ap₂ {C = List Entry} (λ u v. u ++ v) (f.begins ∙ append-nil (begins (reply y c).number c))
        (ap (λ (x : State). begun x q) f.state ∙ g.begins);
    lent = λ u. lends-append bytes p q y (f.lent (u.0, tt)) (rw f.state (g.lent u.1));
    small = λ u. each_append SmallCall p q (f.small (each_one SmallCall c (u c (Memᴰ.head refl)))) (g.small (λ e n. u e (Memᴰ.tail n)));
  }

-- ---- the steps of a whole write

steps_run : (n : ℕ) (y : State) (l : ℕ) (buffer : List ℕ)
    → run y (replicate n (step l buffer)) ≡ outcome_state (steps_of n y.arena y.handle l buffer)
unfolding runs steps_of
steps_run zero y l buffer = refl
steps_run (suc n) y l buffer = steps_run n (after y (step l buffer)) l buffer ∙ shift n
  where
    shift : (n : ℕ) → outcome_state (steps_of n (after y (step l buffer)).arena (after y (step l buffer)).handle l buffer)
        ≡ outcome_state (steps_of (suc n) y.arena y.handle l buffer)
    shift zero = refl
    shift (suc n) = ap (λ (x : State). after x (step l buffer)) (shift n)

steps_begun : (n : ℕ) (y : State) (l : ℕ) (buffer : List ℕ) → begun y (replicate n (step l buffer)) ≡ []
unfolding begun
steps_begun zero y l buffer = refl
steps_begun (suc n) y l buffer = rw (none (reply y (step l buffer)).number) (steps_begun n (after y (step l buffer)) l buffer)
  where
    none : (k : ℕ) → begins k (step l buffer) ≡ []
    none zero = refl
    none (suc k) = refl

steps_lend : (bytes : ℕ → List ℕ) (n : ℕ) (y : State) (l : ℕ) (buffer : List ℕ) → buffer ≡ bytes l → Lends bytes y (replicate n (step l buffer))
steps_lend bytes zero y l buffer e = tt
steps_lend bytes (suc n) y l buffer e = (λ _. e, steps_lend bytes n (after y (step l buffer)) l buffer e)

module _ (bytes : ℕ → List ℕ) (g : Layout) where
  -- an accepted whole write
  whole_alike : (y : State) → laid_out y.handle ≡ g → (l s : ℕ) (buffer : List ℕ) → write_number y.arena y.handle l s buffer ≡ 0
      → ComesTo bytes y (start l s ∷ replicate (write_stores g) (step l buffer)) (write l s buffer ∷ [])
  whole_alike y f l s buffer e = record {
    state = unfold runs in (steps_run (write_stores g) (after y (start l s)) l buffer ∙ sym (write_after y l s buffer (write_stores g) (rw f) e));
    begins = begins_is;
    lent = λ u. (λ _. tt, steps_lend bytes (write_stores g) (after y (start l s)) l buffer (u.0 write_zero));
    small = λ u. each_more SmallCall (start l s) _ tt
        (each_replicate SmallCall (write_stores g) (step l buffer) (u (write l s buffer) (Memᴰ.head refl)));
  }
    where
      start_zero : (reply y (start l s)).number ≡ 0
      start_zero = unfold start_of in (write_found y.arena y.handle l s buffer e).start

      write_zero : (reply y (write l s buffer)).number ≡ 0
      write_zero = unfold write_of in e

      begins_is : begun y (start l s ∷ replicate (write_stores g) (step l buffer)) ≡ begun y (write l s buffer ∷ [])
      begins_is = unfold begun in
          (ap₂ {C = List Entry} (λ n w. begins n (start l s) ++ w) start_zero (steps_begun (write_stores g) (after y (start l s)) l buffer)
          ∙ sym (ap (λ (n : ℕ). begins n (write l s buffer) ++ []) write_zero))

  -- any call
  call_alike : (y : State) → laid_out y.handle ≡ g → (c : Call) → ComesTo bytes y (apart g (reply y c).number c) (c ∷ [])
  call_alike y f c = go c (reply y c).number refl
    where
      go : (d : Call) (n : ℕ) → (reply y d).number ≡ n → ComesTo bytes y (apart g n d) (d ∷ [])
      go (read s buffer) zero e = alike_self bytes y (read s buffer ∷ [])
      go (start l s) zero e = alike_self bytes y (start l s ∷ [])
      go (step l buffer) zero e = alike_self bytes y (step l buffer ∷ [])
      go (write l s buffer) zero e = whole_alike y f l s buffer (unfold write_of in e)
      go d (suc n) e = alike_self bytes y (d ∷ [])

  -- any list
  pub apart_alike : (cs : List Call) (y : State) → laid_out y.handle ≡ g → ComesTo bytes y (taken_apart g y cs) cs
  unfolding taken_apart
  apart_alike [] y f = alike_self bytes y []
  apart_alike (c ∷ cs) y f =
      alike_cons bytes y c (apart g (reply y c).number c) (taken_apart g (after y c) cs) cs (call_alike y f c)
      (apart_alike cs (after y c) (ap₂ layout_of (alike_after y c).distance (alike_after y c).figures ∙ f))
