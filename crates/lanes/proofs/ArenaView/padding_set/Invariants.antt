-- `lanes::ArenaView::padding_set` meets its contract. The invariant: no word passed is padding that is not zero.
use mathlib.Core.Bool.{Bool, false, not, ◌&&◌}
use mathlib.Core.Path.{◌≡◌}
use Prim.Native.Nat.{ℕ}
use lib.Dec.{eqb}
use Rattle.format.specs.Tests.{some}
use Rattle.layout.specs.Place.{is_padding}
use Rattle.lanes.specs.declared.ArenaView.{ArenaView}
use Rattle.lanes.specs.View.{layout}
use Rattle.machine.specs.state.Flog.{lane_word}
use Rattle.lanes.proofs.ArenaView.padding_set.Given as goal

-- word k of lane l is padding and not zero
abbrev pub set : ArenaView → ℕ → ℕ → Bool
set v l k = is_padding (layout v).D k && not (eqb (lane_word (layout v) v.bytes.now l k) 0)

abbrev pub invariant-loop-k : goal.invariant-loop-k
invariant-loop-k l = some l.k (set l.self l.l.0) ≡ false
