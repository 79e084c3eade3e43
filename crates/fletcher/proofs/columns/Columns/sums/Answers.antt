-- `fletcher::columns::Columns::sums` meets its contract. The invariant: what is summed, and what the columns from j on have yet to add, make the whole.
use Rattle.std.proofs.Common.{◌≡◌, ◌+◌, ◌-◌, ◌*◌, ◌%◌, length, get_or, ap, arith, drop_of_length-le}
use Rattle.fletcher.specs.Plain.{sum, weighted}
use Rattle.fletcher.specs.Columns.{sums_of}
use Rattle.fletcher.proofs.Rows.{sum_from, weighted_from, high_bound}
use Rattle.fletcher.proofs.columns.Columns.sums.Goals as goal

pub loop-j-preserved : goal.loop-j-preserved
loop-j-preserved c =
    let l = c.loop-j in
    let self = c.args.self in
    let lows = self.lows in
    let own = (l.invariant.4 l.j).fits in
    let before = (l.invariant.5 l.j).fits in
    let weights : (length lows - l.j) * get_or lows l.j 0 ≡ (8 - l.j) * get_or lows l.j 0 = rw l.invariant.0 in
    rw (c.from-own.ensures, c.from.ensures) (
      l.invariant.0,
      l.invariant.1,
      omega arith,
      high_bound _ _ _ before (omega arith) own l.high l.j l.invariant.3,
      l.invariant.4,
      l.invariant.5,
      omega (arith, sum_from lows l.j (omega arith)),
      omega (arith, sum_from self.befores l.j (omega arith), weighted_from lows l.j (omega arith)),
    )

pub returns : goal.returns
unfolding sums_of sum weighted
returns c =
    let l = c.loop-j in
    let self = c.args.self in
    let all : l.j ≡ 8 = omega arith in
    let lows = drop_of_length-le self.lows {i = l.j} (omega arith) in
    let befores = drop_of_length-le self.befores {i = l.j} (omega arith) in
    let low : l.low % 4294967296 ≡ sum self.lows % 4294967296 = omega (arith, ap sum lows) in
    let high : l.high % 4294967296 ≡ (8 * sum self.befores + weighted self.lows) % 4294967296 =
    omega (arith, ap sum befores, ap weighted lows) in
    rw l.invariant.0 (λ i. record { low = low i; high = high i })
