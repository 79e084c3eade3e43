-- `layout::data_place` meets its contract. The sum is the place as the layout gives it, and a product of two 32-bit numbers does not wrap.
use mathlib.Core.Path.{refl}
use Prim.Native.Nat.{ℕ, ◌*◌, ◌/◌, ◌≤◌, ◌<◌}
use native.Mathlib.Omega.{arith}
use Rattle.layout.specs.Place.{layout_of}
use Rattle.layout.specs.declared.Figures.{Figures}
use Rattle.layout.proofs.Bounds.{product}
use Rattle.layout.proofs.data_place.Goals as goal

-- a block's words, and the words before a block, are few enough
abbrev block_words : Figures → ℕ
block_words f = f.internal / 4

few : (b n : ℕ) → b < 4294967296 → n < 1073741824 → b * n ≤ 4294967295 * 1073741823
few b n u v = product b n 4294967295 1073741823 (omega arith) (omega arith)

pub returns : goal.returns
unfolding layout_of
returns c = λ d. refl
