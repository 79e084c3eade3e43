-- Demand 1: for any bytes lent as an arena, any layout, handle, table, lane and sector and any buffers, every call answers by its line of the table, and a
-- refusal changes nothing. Each of 01's numbers is given exactly when its condition holds and none earlier in the call's line does.
use Rattle.std.specs.Prelude.{◌≡◌, ◌≢◌, ◌⊎◌, List, [], ℕ, ◌-◌, ◌≤◌, ◌<◌, length, get_or, take, drop}
use Rattle.words.specs.Bytes.{Small}
use Rattle.infoblock.specs.Info.{info_block_of}
use Rattle.layout.specs.Told.{alone}
use Rattle.machine.specs.calls.Opening.{Room, extent_of, figures_in, open_of, cut_open_of}
use Rattle.layout.specs.Claims.{Length, Distance}
use Rattle.infoblock.specs.Claims.{Sound}
use Rattle.machine.specs.words.InBytes.{lane_byte}
use Rattle.machine.specs.words.Valid.{AnswersOpen}
use Rattle.machine.specs.claims.Opening.{RefusedOpening, WorkAfter, OpeningClaim}
use Rattle.machine.specs.claims.Making.{MakingClaim}
use Rattle.machine.specs.claims.Running.{RunningClaim}
use Rattle.machine.specs.claims.Lent.{TableClaim}

-- the info block that counts, as it is shown
pub record InfoBlockShown (a : List ℕ) : Type 0 where
  -- the first 4,096 bytes, where the length is allowed and they are sound
  pub main : Length (length a) → Sound (take 4096 a) → info_block_of a ≡ take 4096 a
  -- else the last 4,096, where those are sound
  pub copy : Length (length a) → (Sound (take 4096 a) → ⊥) → Sound (drop (length a - 4096) a) → info_block_of a ≡ drop (length a - 4096) a
  -- else no bytes
  pub none : (Length (length a) → ⊥) ⊎ ((Sound (take 4096 a) → ⊥) × (Sound (drop (length a - 4096) a) → ⊥)) → info_block_of a ≡ []
  -- which is under 1 or 2, and in either layout under no other answer of opening
  pub under : (d : ℕ) (room : Room) → ((open_of (alone d) a room).number ≡ 1) ⊎ ((open_of (alone d) a room).number ≡ 2) → info_block_of a ≡ []
  pub only : (d : ℕ) (room : Room) → Distance d → info_block_of a ≡ []
      → ((open_of (alone d) a room).number ≡ 1) ⊎ ((open_of (alone d) a room).number ≡ 2)

-- a cut opening is refused as opening is: by its line, with arena, table and work buffer as opening leaves them
pub record CutOpening (d : ℕ) (a : List ℕ) (room : Room) (k : ℕ) : Type 0 where
  pub answers : AnswersOpen (alone d) a (extent_of room) (cut_open_of (alone d) a room k).number
  pub refused : (cut_open_of (alone d) a room k).number ≢ 0 → RefusedOpening a room (cut_open_of (alone d) a room k)
  pub work-buffer : WorkAfter (alone d) a room (cut_open_of (alone d) a room k)

-- an arena that opens in both layouts has only zeroes after the first half of each lane: once a second half is stored, one layout is refused
abbrev pub OneLayout : Type 0
OneLayout = (a : List ℕ) (room other : Room) → Small a → (open_of (alone 16) a room).number ≡ 0 → (open_of (alone 32) a other).number ≡ 0
    → (l j : ℕ) → l < (figures_in a).lanes → 16 ≤ j → j < 64 → get_or a (lane_byte (figures_in a) l j) 0 ≡ 0

-- the calls of the library; a read lends arena and handle, and a step and a whole write their sector buffer, only to be read
pub record DemandOne : Type 0 where
  -- making: 3, 1, 10
  pub making : MakingClaim
  pub info_block : (a : List ℕ) → Small a → InfoBlockShown a
  -- opening, told any layout: 16, 1 to 8, 18 and 21; refused, it gives a handle of zeroes
  pub opening : OpeningClaim
  pub cut_opening : (d : ℕ) (a : List ℕ) (room : Room) (k : ℕ) → Small a → CutOpening d a room k
  pub one_layout : OneLayout
  -- read, start, step and whole write: 16, 21 and 16 first, then each its own
  pub running : RunningClaim
  -- what the calls leave of the table that is lent with a handle
  pub table : TableClaim
