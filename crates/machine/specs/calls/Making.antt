-- Making an arena from S, E, lanes and two identifiers.
use Rattle.std.specs.Prelude.{Bool, cond, not, ◌&&◌, List, [], ◌∷◌, ◌++◌, ℕ, zero, suc, ◌+◌, ◌-◌, ◌*◌, eqb, length, replicate}
use Rattle.words.specs.Word.{put_words}
use Rattle.layout.specs.Figures.{length_allowed, sizes_allowed, fresh_length, fresh_figures}
use Rattle.layout.specs.Place.{Layout, layout_of}
use Rattle.layout.specs.Told.{alone_near}
use Rattle.infoblock.specs.Info.{info_words}
use Rattle.machine.specs.Rules.{answer}

-- what making is asked for
pub record Wanted : Type 0 where
  pub size : ℕ  -- S
  pub sectors : ℕ  -- E
  pub lanes : ℕ
  pub first : List ℕ  -- the identifier at byte 16
  pub second : List ℕ  -- the identifier at byte 32

-- a condition of document 01's table at making: S, E and lanes, the length, and the identifiers
pub data MakeRule : Type 0 where
  wrong_sizes : MakeRule
  wrong_total : MakeRule
  wrong_identifier : MakeRule

abbrev pub number_make : MakeRule → ℕ
number_make wrong_sizes = 3
number_make wrong_total = 1
number_make wrong_identifier = 10

abbrev pub order_make : List MakeRule
order_make = wrong_sizes ∷ wrong_total ∷ wrong_identifier ∷ []

-- what each rule tests, of what is wanted and the slice's length
abbrev pub tests_make : Wanted → ℕ → MakeRule → Bool
tests_make o n wrong_sizes = not (sizes_allowed o.size o.sectors o.lanes)
tests_make o n wrong_total = not (length_allowed n && eqb n (fresh_length o.size o.sectors o.lanes))
tests_make o n wrong_identifier = not (eqb (length o.first) 16 && eqb (length o.second) 16)

unfoldable pub make_number : Wanted → ℕ → ℕ
make_number o n = answer number_make (tests_make o n) order_make

-- a fresh lane's 16 words: first half (i, E+i, E+i, 1), the rest zero
abbrev pub fresh_lane : ℕ → ℕ → List ℕ
fresh_lane sectors i = i ∷ (sectors + i) ∷ (sectors + i) ∷ 1 ∷ replicate 12 0

-- the flog of n fresh lanes from lane i on
unfoldable pub fresh_flog : ℕ → ℕ → ℕ → List ℕ
fresh_flog sectors i zero = []
fresh_flog sectors i (suc n) = fresh_lane sectors i ++ fresh_flog sectors (suc i) n

-- the word number at which the data blocks end
abbrev pub data_end : Layout → ℕ
data_end g = g.data₀ + g.I * g.Z

-- the words from the end of the data blocks to the end of the arena: padding and map, flog, padding, the copy
unfoldable pub tail_words : Layout → List ℕ → List ℕ
tail_words g info =
    replicate (g.flog₀ - data_end g) 0
    ++ (fresh_flog g.E 0 g.N ++ (replicate (g.copy₀ - (g.flog₀ + 16 * g.N)) 0 ++ info))

-- the two info blocks and all that follows the data blocks; data blocks are not touched. Making has no layout: where its parts start is the
-- same in all
unfoldable pub fresh_arena : Wanted → List ℕ → List ℕ
fresh_arena o a =
    let f = fresh_figures o.size o.sectors o.lanes in
    let info = info_words o.first o.second f in
    let g = layout_of alone_near.distance f in
    put_words (put_words a 0 info) (data_end g) (tail_words g info)

pub record MakeOutcome : Type 0 where
  pub number : ℕ
  pub arena : List ℕ

unfoldable pub make_of : Wanted → List ℕ → MakeOutcome
make_of o a =
    let n = make_number o (length a) in
    record { number = n; arena = cond (eqb n 0) (fresh_arena o a) a }
