-- The claim about the rest of a block, its bytes past the sector's, where blocks are longer than sectors: no call changes one of them.
use Rattle.std.specs.Prelude.{◌≡◌, List, ℕ, ◌+◌, ◌≤◌, get_or}
use Rattle.words.specs.Bytes.{Small}
use Rattle.layout.specs.Figures.{fresh_figures}
use Rattle.layout.specs.Claims.{InRest}
use Rattle.layout.specs.Told.{alone}
use Rattle.layout.specs.declared.Figures.{Figures}
use Rattle.machine.specs.state.Handle.{Handle}
use Rattle.machine.specs.calls.Order.{Call}
use Rattle.machine.specs.calls.Making.{Wanted, make_of}
use Rattle.machine.specs.calls.Opening.{Room, figures_in, open_of, cut_open_of}
use Rattle.machine.specs.calls.History.{after, opened_from, SmallEvents}
use Rattle.machine.specs.calls.Asides.{Happening, latest_of, AllHarmless}
use Rattle.machine.specs.claims.DemandTwo.{leaves}

-- every byte of the rest of any block is what it was
abbrev pub RestKept : Figures → List ℕ → List ℕ → Type 0
RestKept f a after = (j : ℕ) → InRest f j → get_or after j 0 ≡ get_or a j 0

pub record RestOfBlocks : Type 0 where
  -- read, start, step and whole write, accepted or refused, on any bytes and with any handle, whose figures say where the blocks are
  pub calls : (a : List ℕ) (h : Handle) (c : Call) → Small a → RestKept h.figures a (after (record { arena = a; handle = h }) c).arena
  -- openings and cut openings, by the figures of the info block that counts
  pub opening : (d : ℕ) (a : List ℕ) (room : Room) → Small a → RestKept (figures_in a) a (open_of (alone d) a room).arena
  pub cut_opening : (d : ℕ) (a : List ℕ) (room : Room) (k : ℕ) → Small a → RestKept (figures_in a) a (cut_open_of (alone d) a room k).arena
  -- making, by the figures that it works out
  pub making : (o : Wanted) (a : List ℕ) → Small a → Small o.first → Small o.second
      → RestKept (fresh_figures o.size o.sectors o.lanes) a (make_of o a).arena
  -- so in an arena that opens they are after any history what they were before
  pub history : (d : ℕ) (a : List ℕ) (room : Room) (hs : List Happening) → Small a → SmallEvents (latest_of hs) → (open_of (alone d) a room).number ≡ 0
      → AllHarmless (alone d) (opened_from (alone d) a room) hs → RestKept (figures_in a) a (leaves (alone d) a room hs).arena
  -- there are such bytes: 520 to 575 of a block whose sector has 520; and none where a block is as long as its sector
  pub some : (j : ℕ) → 520 ≤ j → j ≤ 575 → InRest (fresh_figures 520 1 1) (4096 + j)
  pub none : (f : Figures) (j : ℕ) → f.internal ≡ f.size → InRest f j → ⊥
