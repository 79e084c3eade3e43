-- The rest of a block, past its sector's words: no place that a write stores to is there.
use mathlib.Core.Path.{◌≡◌, ◌∙◌}
use mathlib.Core.Logic.{◌≢◌}
use Prim.Native.Nat.{ℕ, ◌+◌, ◌-◌, ◌*◌, ◌/◌, ◌≤◌, ◌<◌}
use native.Mathlib.Omega.{arith}
use lib.Arith.{digits_lt}
use Rattle.layout.specs.Claims.{InRest}
use Rattle.layout.specs.Figures.{Allowed}
use Rattle.layout.specs.Place.{Layout, LayoutOk, layout_of, Place, in_data, in_map, in_flog, at, InRange}
use Rattle.layout.specs.declared.Figures.{Figures}
use Rattle.layout.proofs.Allowed.{quarter, size_words, internal_words, starts_exact}
use Rattle.layout.proofs.Place.{data_inj}

module _ (g : Layout) (o : LayoutOk g) (b k : ℕ) (u : b < g.I) (v : g.W ≤ k) (w : k < g.Z) where
  rest-apart : (p : Place) → InRange g p → at g (in_data b k) ≢ at g p
  rest-apart (in_data c i) r q = let e = data_inj g.Z b k c i w (omega arith) (omega arith) in omega (arith, e.1, r.1)
  rest-apart (in_map s) r q = let h : b * g.Z + k < g.I * g.Z = digits_lt u w in omega arith
  rest-apart (in_flog l h i) r q = let n : b * g.Z + k < g.I * g.Z = digits_lt u w in omega arith

-- in bytes
module _ (d : ℕ) (f : Figures) (n : ℕ) (ok : Allowed f n) (g : LayoutOk (layout_of d f)) where
  pub rest_byte : (j : ℕ) → InRest f j → (p : Place) → InRange (layout_of d f) p → j / 4 ≢ at (layout_of d f) p
  unfolding layout_of
  rest_byte j i p r e =
      let b = i.block in
      let q : b * f.internal ≡ 4 * (b * (f.internal / 4)) = quarter b f.internal (internal_words f n ok).1 in
      let s = (starts_exact f n ok).0 in
      let x = (size_words f n ok).0 in
      let y = (internal_words f n ok).1 in
      let k : ℕ = j / 4 - (f.dataoff / 4 + b * (f.internal / 4)) in
      let z : at (layout_of d f) (in_data b k) ≡ j / 4 = omega (arith, i.from) in
      rest-apart (layout_of d f) g b k i.inside (omega (arith, i.from)) (omega (arith, i.from, i.to)) p r (z ∙ e)
