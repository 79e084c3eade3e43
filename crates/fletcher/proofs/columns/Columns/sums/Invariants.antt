-- `fletcher::columns::Columns::sums` meets its contract. The invariant: what is summed, and what the columns from j on have yet to add, make the whole.
use Rattle.std.proofs.Common.{◌≡◌, ℕ, ◌+◌, ◌*◌, ◌≤◌, length, get_or, drop, w32, Fits}
use Rattle.fletcher.specs.Plain.{sum, weighted}
use Rattle.fletcher.proofs.columns.Columns.sums.Given as goal

abbrev pub invariant-loop-j : goal.invariant-loop-j
invariant-loop-j l =
    (length l.lows ≡ 8) × (length l.befores ≡ 8) × (l.low ≤ l.j * 4294967296) × (l.high ≤ l.j * 68719476736)
    × ((k : ℕ) → Fits w32 (get_or l.lows k 0)) × ((k : ℕ) → Fits w32 (get_or l.befores k 0))
    × (l.low + sum (drop l.j l.lows) ≡ sum l.lows)
    × (l.high + (8 * sum (drop l.j l.befores) + weighted (drop l.j l.lows)) ≡ 8 * sum l.befores + weighted l.lows)
