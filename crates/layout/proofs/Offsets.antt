-- Places in bytes. The starts and the size of a block are multiples of 4, so four times the word number of a place is its byte number.
use mathlib.Core.Path.{◌≡◌, ◌∙◌}
use Prim.Native.Nat.{ℕ, ◌+◌, ◌*◌, ◌/◌, ◌%◌}
use native.Mathlib.Omega.{arith}
use native.Mathlib.Nat.{mul_comm}
use Rattle.layout.specs.Figures.{Allowed}
use Rattle.layout.specs.Place.{layout_of, at, in_data, in_map, in_flog, lane_word_at}
use Rattle.layout.specs.declared.Figures.{Figures}
use Rattle.layout.proofs.Allowed.{starts_exact, internal_words, quarter}

-- where the starts of a lane's two halves are d bytes apart
module _ (d : ℕ) (f : Figures) (n : ℕ) (ok : Allowed f n) where
  pub data_start : (b k : ℕ) → 4 * at (layout_of d f) (in_data b k) ≡ f.dataoff + b * f.internal + 4 * k
  unfolding layout_of
  data_start b k =
      let q : b * f.internal ≡ 4 * (b * (f.internal / 4)) = quarter b f.internal (internal_words f n ok).1 in
      omega (arith, q, (starts_exact f n ok).0)

  pub map-start : (s : ℕ) → 4 * at (layout_of d f) (in_map s) ≡ f.mapoff + 4 * s
  unfolding layout_of
  map-start s = omega (arith, (starts_exact f n ok).1)

  pub flog-start : d % 4 ≡ 0 → (l h k : ℕ) → 4 * at (layout_of d f) (in_flog l h k) ≡ f.flogoff + 64 * l + d * h + 4 * k
  unfolding layout_of
  flog-start e l h k =
      let q : d * h ≡ 4 * (h * (d / 4)) = mul_comm d h ∙ quarter h d e in
      omega (arith, q, (starts_exact f n ok).2)

  pub lane_start : (l k : ℕ) → 4 * lane_word_at (layout_of d f) l k ≡ f.flogoff + 64 * l + 4 * k
  unfolding layout_of
  lane_start l k = omega (arith, (starts_exact f n ok).2)
