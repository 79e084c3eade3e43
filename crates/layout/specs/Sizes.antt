-- The sizes that a sector can have, each with its internal size, the bytes from one block to the next: one table, of which both are read.
use Rattle.std.specs.Prelude.{◌≡◌, ◌⊎◌, Bool, cond, not, List, [], ◌∷◌, ℕ, ◌+◌, ◌/◌, eqb}

-- sector size and internal size
abbrev pub size_table : List (ℕ × ℕ)
size_table = (512, 512) ∷ (520, 576) ∷ (528, 576) ∷ (4096, 4096) ∷ (4104, 4160) ∷ []

-- the number beside n in a table, 0 where n is not in it
abbrev pub beside : List (ℕ × ℕ) → ℕ → ℕ
beside [] n = 0
beside (p ∷ ps) n = cond (eqb n p.0) p.1 (beside ps n)

-- the internal size of a sector size: the bytes of a block
unfoldable pub internal_of : ℕ → ℕ
internal_of size = beside size_table size

-- the sizes that a sector can have
abbrev pub size_allowed : ℕ → Bool
size_allowed size = not (eqb (internal_of size) 0)

-- the most bytes of a sector
abbrev pub max_size : ℕ
max_size = 4104

-- the most stores of a write: a sector's words, a half's four words and a map word
abbrev pub max_stores : ℕ
max_stores = max_size / 4 + 5

-- FORMAT 3.1, in numbers: a sector of S bytes is kept in a block of Z
abbrev pub SizePair : ℕ → ℕ → Type 0
SizePair S Z =
    ((S ≡ 512) × (Z ≡ 512)) ⊎ (((S ≡ 520) × (Z ≡ 576)) ⊎ (((S ≡ 528) × (Z ≡ 576)) ⊎ (((S ≡ 4096) × (Z ≡ 4096)) ⊎ ((S ≡ 4104) × (Z ≡ 4160)))))
