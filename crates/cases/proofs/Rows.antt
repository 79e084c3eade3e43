-- Rows that are due, one list after another.
use mathlib.Core.List.{List, [], ◌∷◌, ◌++◌}
use Rattle.cases.specs.Worked.{Worked, AllDue}

pub append : (xs : List Worked) (ys : List Worked) → AllDue xs → AllDue ys → AllDue (xs ++ ys)
append [] ys p q = q
append (x ∷ xs) ys p q = (p.0, append xs ys p.1 q)
