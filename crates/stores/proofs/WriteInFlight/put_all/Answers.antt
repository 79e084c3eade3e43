-- `stores::WriteInFlight::put_all` meets its contract: each turn of either loop makes one more store of the write.
use mathlib.Core.Path.{◌≡◌, refl, ◌∙◌}
use mathlib.Core.List.{List}
use Prim.Native.Nat.{ℕ, ◌+◌, ◌/◌}
use native.Mathlib.Numerals.{add-one}
use native.Mathlib.Omega.{arith}
use Rattle.layout.specs.Place.{layout_of}
use Rattle.layout.specs.declared.Figures.{Figures}
use Rattle.machine.specs.state.Lane.{write_stores}
use Rattle.machine.specs.state.Stores.{stored, put_all}
use Rattle.machine.specs.calls.Writing.{plan_of, store_at, first_stores}
use Rattle.machine.specs.declared.lane.Lane.{Lane}
use Rattle.machine.proofs.stores.Kinds.{first_more}
use Rattle.stores.specs.Record.{with_stores}
use Rattle.stores.proofs.WriteInFlight.put_all.Goals as goal

module _ (d : ℕ) (f : Figures) (l : ℕ) (r : Lane) (bytes o : List ℕ) where
  none : o ≡ with_stores d f l r bytes 0 o
  unfolding first_stores put_all
  none = refl

  -- a turn of either loop
  turn : (b x : List ℕ) (k : ℕ) → b ≡ with_stores d f l r bytes k o
      → x ≡ stored (layout_of d f) (store_at (layout_of d f) (plan_of l r) bytes k) b → x ≡ with_stores d f l r bytes (k + 1) o
  turn b x k m e = e ∙ rw (m, add-one) (first_more (layout_of d f) (plan_of l r) bytes o k)

  whole : (b : List ℕ) (k : ℕ) → b ≡ with_stores d f l r bytes k o → k ≡ f.size / 4 + 5
      → b ≡ with_stores d f l r bytes (write_stores (layout_of d f)) o
  unfolding layout_of
  whole b k m e = rw (← e) m

pub loop-k-init : goal.loop-k-init
loop-k-init c = none _ _ _ c.args.self.own _ _

pub loop-k-preserved : goal.loop-k-preserved
loop-k-preserved c = turn _ _ _ c.args.self.own _ _ _ _ _ c.loop-k.invariant c.put.ensures

pub loop-k-2-preserved : goal.loop-k-2-preserved
loop-k-2-preserved c = turn _ _ _ c.args.self.own _ _ _ _ _ c.loop-k-2.invariant c.put-in-loop-k-2.ensures

pub returns : goal.returns
returns c = whole _ _ _ c.args.self.own _ _ _ _ c.loop-k-2.invariant (omega arith)
