-- Which info block counts in an arena, and what judging gives.
use Rattle.std.specs.Prelude.{cond, List, [], ℕ, ◌-◌, length, take, drop}
use Rattle.layout.specs.Figures.{length_allowed}
use Rattle.layout.specs.Place.{Layout}
use Rattle.layout.specs.declared.Told.{Told}
use Rattle.infoblock.specs.Info.{counts_of}
use Rattle.machine.specs.calls.Opening.{Extent, word_bad, word_sloppy, work_after}

-- which of an arena's two info blocks counts: the first (0), the copy (1), or neither (2), as where the length is not allowed
unfoldable pub info_part_of : List ℕ → ℕ
info_part_of a = cond (length_allowed (length a)) (counts_of (take 4096 a) (drop (length a - 4096) a)) 2

-- a work buffer of so many bytes, and a table of so many records
abbrev pub extent : ℕ → ℕ → Extent
extent bytes records = record { bytes = bytes; records = records }

-- the work buffer as judging leaves it, whatever the table
abbrev pub work_left : Told → List ℕ → List ℕ → List ℕ
work_left t a work = work_after t a (record { work = work; table = [] })

-- the number that the map's words give: 7 over all of them, then 18
abbrev pub words_number : Layout → List ℕ → ℕ
words_number g a = cond (word_bad g a) 7 (cond (word_sloppy g a) 18 0)
