-- `layout::fresh_figures` meets its contract. An allowed length bounds the blocks, so that their sum does not wrap.
use mathlib.Core.Path.{refl}
use native.Mathlib.Omega.{arith}
use Rattle.layout.specs.Figures.{fresh_figures}
use Rattle.layout.specs.Sizes.{internal_of}
use Rattle.layout.proofs.Bounds.{parts_small}
use Rattle.layout.proofs.fresh_figures.Goals as goal

pub overflow_add-result : goal.overflow_add-result
overflow_add-result c =
    let a = c.args in
    let p = parts_small a.size a.sectors a.lanes c.requires.1 (internal_of a.size) refl in
    omega arith

pub returns : goal.returns
unfolding fresh_figures
returns c =
    rw (
      c.fresh_starts-starts.ensures.copyoff,
      c.fresh_starts-starts.ensures.flogoff,
      c.fresh_starts-starts.ensures.mapoff,
      c.internal_size.ensures,
    )
