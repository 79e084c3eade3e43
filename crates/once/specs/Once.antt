-- Counts in a work buffer: how often each number was met, counted 0, 1, 2 and no further; and what two rounds of counting decide.
use Rattle.std.specs.Prelude.{Bool, cond, ◌&&◌, List, ◌++◌, ℕ, zero, suc, ◌+◌, ◌<◌, eqb, leb, get_or, set, drop, replicate}
use Rattle.format.specs.Tests.{every}
use Rattle.layout.specs.Place.{Layout}
use Rattle.machine.specs.state.Flog.{map_block, free_of, spare_of}
use Rattle.machine.specs.calls.Opening.{count}

-- n zeroes, and the rest as it was
abbrev pub cleared : ℕ → List ℕ → List ℕ
cleared n w = replicate n 0 ++ drop n w

-- x met once more
unfoldable pub bumped : List ℕ → ℕ → List ℕ
bumped w x = set w x (cond (eqb (get_or w x 0) 0) 1 2)

-- each of the first n values of f met once more
unfoldable pub counted : List ℕ → ℕ → (ℕ → ℕ) → List ℕ
counted w zero f = w
counted w (suc n) f = bumped (counted w n f) (f n)

-- the first n counts are from low to high
unfoldable pub counts_between : List ℕ → ℕ → ℕ → ℕ → Bool
counts_between w n low high = every n (λ b. leb low (get_or w b 0) && leb (get_or w b 0) high)

-- every block is claimed once: free blocks are distinct, and the mapped blocks as found with the lanes' spare blocks are each block once
unfoldable pub blocks_once : Layout → List ℕ → Bool
blocks_once g a =
    every g.I (λ b. leb (count g.N (free_of g a) b) 1)
    && every g.I (λ b. eqb (count g.E (map_block g a) b + count g.N (spare_of g a) b) 1)

-- the first n values of f are below m
abbrev pub Under : (ℕ → ℕ) → ℕ → ℕ → Type 0
Under f n m = (i : ℕ) → i < n → f i < m
