-- A value computed and the value due.
use Rattle.std.specs.Prelude.{◌≡◌, List, [], ◌∷◌, ℕ}

pub record Worked : Type 0 where
  pub computed : ℕ
  pub due : ℕ

infix 40 ◌is◌
abbrev pub ◌is◌ : ℕ → ℕ → Worked
n is m = record { computed = n; due = m }

-- every row's value is the one due
abbrev pub AllDue : List Worked → Type 0
AllDue [] = Unit
AllDue (r ∷ rs) = (r.computed ≡ r.due) × AllDue rs
