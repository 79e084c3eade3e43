-- `once::count_each` meets its contract. The invariant: the blocks of the numbers passed are counted.
use mathlib.Core.Path.{◌≡◌}
use Prim.Native.Nat.{ℕ, ◌<◌}
use Rattle.once.specs.Once.{counted}
use Rattle.once.proofs.count_each.Given as goal

abbrev pub invariant-loop-i : goal.invariant-loop-i
invariant-loop-i g l = (f : ℕ → ℕ) → ((i : ℕ) (b : _) → i < l.n → goal.F-post g l.block i b → b.0 ≡ f i) → l.w ≡ counted l.initial.w l.i f
