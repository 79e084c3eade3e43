-- What an opening is told, and the distances between a lane's two halves: the two that may be told, and those that keep the halves whole
-- and apart within the lane's 64 bytes.
use Rattle.std.specs.Prelude.{Bool, ◌||◌, ◌≡◌, ℕ, ◌%◌, ◌≤◌, eqb}
use Rattle.layout.specs.declared.Told.{Told}

-- rule 16, of a layout: a lane's second half starts 16 or 32 bytes after the first
abbrev pub distance_allowed : ℕ → Bool
distance_allowed d = eqb d 16 || eqb d 32

-- an arena opened by itself, in that layout: no arena follows
abbrev pub alone : ℕ → Told
alone d = record { next = 0; distance = d }

-- what t says, but in that layout
abbrev pub in_layout : Told → ℕ → Told
in_layout t d = record { next = t.next; distance = d }

-- as the report and a replay open it: a half follows the other at once
abbrev pub alone_near : Told
alone_near = alone 16

-- a distance in bytes that the places of an arena can have
pub record DistanceOk (d : ℕ) : Type 0 where
  pub least : 16 ≤ d
  pub most : d ≤ 48
  pub words : d % 4 ≡ 0
