-- Bounds on what making works out, so that no sum wraps.
use mathlib.Core.Path.{◌≡◌}
use mathlib.Core.Bool.{true}
use Prim.Native.Nat.{ℕ, ◌+◌, ◌*◌, ◌≤◌, ◌<◌}
use native.Mathlib.Omega.{arith}
use native.Mathlib.Nat.{mul-le-mul_left, mul-le-mul_right, le_trans}
use Rattle.layout.specs.Sizes.{internal_of}
use Rattle.layout.specs.Figures.{sizes_allowed, copy_start, fresh_length}
use Rattle.layout.proofs.Sizes.{size_fitting, sizes_of}

pub product : (a b m n : ℕ) → a ≤ m → b ≤ n → a * b ≤ m * n
product a b m n h k = le_trans (mul-le-mul_left a k) (mul-le-mul_right n h)

module _ (size sectors lanes : ℕ) where
  -- at most 256 lanes, and blocks of at most 8,192 bytes
  pub sizes_small : sizes_allowed size sectors lanes ≡ true → (internal_of size ≤ 8192) × (lanes ≤ 256)
  sizes_small h = let s = sizes_of size sectors lanes h in ((size_fitting size s.0).block_most, s.3)

  -- the bytes of all blocks, z each
  pub data_small : sizes_allowed size sectors lanes ≡ true → sectors < 4294967296 → (z : ℕ) → z ≡ internal_of size
      → (sectors + lanes) * z ≤ 35184374185984
  data_small h k z e =
      let s = sizes_small h in
      let l : sectors + lanes ≤ 4294967552 = omega arith in
      omega (arith, product (sectors + lanes) z 4294967552 8192 l (rw e s.0))

  -- an allowed length bounds each part
  pub copy_small : sizes_allowed size sectors lanes ≡ true → sectors < 4294967296 → copy_start size sectors lanes ≤ 70368744177664
  copy_small h k =
      let s = sizes_small h in
      let p = data_small h k (internal_of size) (λ i. internal_of size) in
      omega (arith, s.1)

  pub parts_small : fresh_length size sectors lanes ≤ 16777216 → (z : ℕ) → z ≡ internal_of size
      → (sectors + lanes) * z + 4 * sectors + 64 * lanes ≤ 16777216
  unfolding fresh_length
  parts_small h z e = rw e (omega arith)
