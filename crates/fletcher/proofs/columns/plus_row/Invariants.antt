-- `fletcher::columns::plus_row` meets its contract. The invariant: the first j columns are stored.
use Rattle.std.proofs.Common.{◌≡◌, length, take}
use Rattle.fletcher.specs.Columns.{plus}
use Rattle.fletcher.proofs.columns.plus_row.Given as goal

abbrev pub invariant-loop-j : goal.invariant-loop-j
invariant-loop-j l = (length l.row ≡ 8) × (length l.x ≡ 8) × (length l.y ≡ 8) × (take l.j l.row ≡ take l.j (plus l.x l.y))
