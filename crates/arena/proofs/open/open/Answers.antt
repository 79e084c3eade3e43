-- `arena::open::open` meets its contract: its result is that of the cut opening with every store made, and the handle; on a refusal that has
-- no lanes.
use mathlib.Core.Path.{refl}
use Rattle.std.proofs.lemmas.Result.{err_from_is_err_and}
use Rattle.words.specs.Bytes.{Small}
use Rattle.arena.proofs.Opened.{refuses, readable, accepts}
use Rattle.arena.proofs.open.open.Goals as goal

pub returns-in_err-mended : goal.returns-in_err-mended
returns-in_err-mended c =
    let p = err_from_is_err_and c.from_residual.result c.from_residual.ensures.1 in
    let j = rw c.alone.ensures at c.in_err-mended.ensures in
    rw (p.1, p.2) (record { for_table = refuses _ _ _ _ _ _ _ _ j.for_table _ refl refl; lanes_fit = tt })

pub returns : goal.returns
returns c =
    let j = rw c.alone.ensures at c.in_ok-mended.ensures in
    let small : Small c.args.arena.now = λ i. (c.slice_known-1.given i).fits in
    record {
      for_table = accepts _ _ _ _ _ _ _ _ j.for_table refl small _ j.figures_value _ refl;
      lanes_fit = readable _ _ _ _ _ _ _ _ j.for_table refl small _ j.figures_value _ refl;
    }
