-- The claim about making.
use Rattle.std.specs.Prelude.{◌≡◌, ◌≢◌, List, [], ◌∷◌, ℕ, ◌+◌, ◌*◌, ◌≤◌, ◌<◌, length, get_or, take, drop, replicate}
use Rattle.words.specs.Bytes.{Small, byte_word}
use Rattle.layout.specs.Figures.{fresh_length, fresh_figures}
use Rattle.layout.specs.Sizes.{SizePair}
use Rattle.layout.specs.Claims.{FreshLayout}
use Rattle.layout.specs.Told.{alone}
use Rattle.infoblock.specs.Claims.{FreshBlock}
use Rattle.layout.specs.declared.Figures.{Figures}
use Rattle.machine.specs.Rules.{line}
use Rattle.machine.specs.state.Handle.{lane_at}
use Rattle.machine.specs.calls.Making.{Wanted, wrong_sizes, wrong_total, wrong_identifier, number_make, order_make, make_of}
use Rattle.machine.specs.calls.Opening.{Room, figures_in, open_of}
use Rattle.machine.specs.words.InBytes.{map_word_in}
use Rattle.machine.specs.words.Records.{Idle}
use Rattle.layout.specs.Claims.{Length, Sizes, Distance}
use Rattle.machine.specs.words.Valid.{Valid, AnswersMake}

-- what making accepts: allowed S, E and lanes, a length that is allowed and the figure worked out, and identifiers of 16 bytes
pub record WantedOk (o : Wanted) (n : ℕ) : Type 0 where
  pub sizes : Sizes o.size o.sectors o.lanes
  pub size : Length n
  pub exact : n ≡ fresh_length o.size o.sectors o.lanes
  pub first : length o.first ≡ 16
  pub second : length o.second ≡ 16

-- the 64 bytes of lane l in the flog of a fresh arena of E sectors, from byte o on: first half (l, E + l, E + l, 1), the rest zero
pub record FreshLane (E l : ℕ) (a : List ℕ) (o : ℕ) : Type 0 where
  pub sector : byte_word a (o + 0) ≡ l
  pub old : byte_word a (o + 4) ≡ E + l
  pub new : byte_word a (o + 8) ≡ E + l
  pub sequence : byte_word a (o + 12) ≡ 1
  pub rest : (j : ℕ) → o + 16 ≤ j → j < o + 64 → get_or a j 0 ≡ 0

-- every byte of the arena m with figures f that making leaves in a
pub record FreshBytes (o : Wanted) (f : Figures) (a m : List ℕ) : Type 0 where
  pub size : length m ≡ length a
  -- each part starts at the least multiple of 4,096 that fits, and m ends with the copy
  pub starts : FreshLayout o.size o.sectors o.lanes f (length m)
  -- the info block at its start, field by field; the copy is the same bytes
  pub info : FreshBlock o.first o.second f (take 4096 m)
  pub copy : take 4096 m ≡ drop f.copyoff m
  -- data blocks are not touched, all of f's internal size
  pub kept : (j : ℕ) → 4096 ≤ j → j < 4096 + (o.sectors + o.lanes) * f.internal → get_or m j 0 ≡ get_or a j 0
  -- from their end on: padding, the map and padding, all zero
  pub before_flog : (j : ℕ) → 4096 + (o.sectors + o.lanes) * f.internal ≤ j → j < f.flogoff → get_or m j 0 ≡ 0
  pub flog : (l : ℕ) → l < o.lanes → FreshLane o.sectors l m (f.flogoff + 64 * l)
  -- and from its end to the copy zero
  pub after_flog : (j : ℕ) → f.flogoff + 64 * o.lanes ≤ j → j < f.copyoff → get_or m j 0 ≡ 0

-- room to work in an arena with E sectors and so many lanes
pub record FreshRoom (o : Wanted) (room : Room) : Type 0 where
  pub bytes : o.sectors + o.lanes ≤ length room.work
  pub records : o.lanes ≤ length room.table

-- a made arena m in a layout: it is valid, and opens with none mended and no byte changed
pub record FreshOpens (d : ℕ) (o : Wanted) (m : List ℕ) : Type 0 where
  pub valid : Valid (alone d) m
  pub number : (room : Room) → FreshRoom o room → (open_of (alone d) m room).number ≡ 0
  pub mended : (room : Room) → (open_of (alone d) m room).mended ≡ 0
  pub arena : (room : Room) → (open_of (alone d) m room).arena ≡ m
  -- lane l's free block is E + l; its second half and sequence 2 come next
  pub lanes : (room : Room) (l : ℕ) → FreshRoom o room → l < o.lanes
      → Idle (o.sectors + l) 1 2 (lane_at (open_of (alone d) m room).handle.table l)

-- what holds of a made arena
pub record FreshArena (o : Wanted) (a : List ℕ) : Type 0 where
  pub bytes : FreshBytes o (fresh_figures o.size o.sectors o.lanes) a (make_of o a).arena
  pub figures : figures_in (make_of o a).arena ≡ fresh_figures o.size o.sectors o.lanes
  -- it opens in both layouts
  pub opens : (d : ℕ) → Distance d → FreshOpens d o (make_of o a).arena
  -- every sector's map word is zero
  pub map : (s : ℕ) → s < o.sectors → map_word_in (fresh_figures o.size o.sectors o.lanes) (make_of o a).arena s ≡ 0

-- the smallest arena of a sector size: one sector and one lane
abbrev pub smallest : ℕ → Wanted
smallest size = record { size = size; sectors = 1; lanes = 1; first = replicate 16 0; second = replicate 16 0 }

-- making answers by its line of the table, 0 exactly for what it accepts; a refusal changes nothing; an accepted one gives a made arena; and of
-- every sector size there is one
pub record MakingClaim : Type 0 where
  -- 3 (S, E and lanes only), 1, 10
  pub order : line number_make order_make ≡ (3, wrong_sizes) ∷ (1, wrong_total) ∷ (10, wrong_identifier) ∷ []
  pub answers : (o : Wanted) (a : List ℕ) → AnswersMake o (length a) (make_of o a).number
  pub accepts : (o : Wanted) (a : List ℕ) → (make_of o a).number ≡ 0 → WantedOk o (length a)
  pub only : (o : Wanted) (a : List ℕ) → WantedOk o (length a) → (make_of o a).number ≡ 0
  pub refused : (o : Wanted) (a : List ℕ) → (make_of o a).number ≢ 0 → (make_of o a).arena ≡ a
  pub made : (o : Wanted) (a : List ℕ) → Small a → Small o.first → Small o.second → (make_of o a).number ≡ 0 → FreshArena o a
  pub one : (S Z : ℕ) → SizePair S Z → (make_of (smallest S) (replicate (fresh_length S 1 1) 0)).number ≡ 0
