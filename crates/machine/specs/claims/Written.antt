-- The claim about what the calls leave in the map: each word is what it was, or flags 11 and a block, and making leaves zeroes. So the
-- flags that we write are 00 and 11 only, and no history of ours leads to 18.
use Rattle.std.specs.Prelude.{◌≡◌, ◌≢◌, ◌⊎◌, ℕ, ◌+◌, ◌<◌}
use mathlib.Core.List.{List, Memᴰ}
use Rattle.words.specs.Bytes.{Small}
use Rattle.layout.specs.Figures.{fresh_figures}
use Rattle.layout.specs.Claims.{Distance}
use Rattle.layout.specs.Told.{alone}
use Rattle.layout.specs.declared.Figures.{Figures}
use Rattle.machine.specs.state.Handle.{Handle}
use Rattle.machine.specs.calls.Order.{Call}
use Rattle.machine.specs.calls.Making.{Wanted, make_of}
use Rattle.machine.specs.calls.Opening.{Room, figures_in, open_of, cut_open_of}
use Rattle.machine.specs.calls.History.{after, Reply, opened_from, SmallEvents}
use Rattle.machine.specs.calls.Asides.{Happening, latest_of, AllHarmless, heard}
use Rattle.machine.specs.words.InBytes.{map_word_in}
use Rattle.machine.specs.words.Valid.{Clean}
use Rattle.machine.specs.claims.Making.{FreshRoom}
use Rattle.machine.specs.claims.DemandTwo.{leaves}

-- the map word is what it was, or 0xC0000000 + b with b < I
abbrev pub KeptOrMapped : ℕ → ℕ → ℕ → Type 0
KeptOrMapped blocks was is = (is ≡ was) ⊎ ((b : ℕ) × (b < blocks) × (is ≡ 0xC0000000 + b))

-- so is every sector's
abbrev pub MapKept : Figures → List ℕ → List ℕ → Type 0
MapKept f a after = (s : ℕ) → s < f.sectors → KeptOrMapped f.blocks (map_word_in f a s) (map_word_in f after s)

-- an arena that was opened passes 18 after any history, and nothing in the history answers 18
pub record StaysClean (d : ℕ) (a : List ℕ) (room : Room) (hs : List Happening) : Type 0 where
  pub clean : Clean d (figures_in a) (leaves (alone d) a room hs).arena
  pub never : (r : Reply) → Memᴰ r (heard (alone d) (opened_from (alone d) a room) hs) → r.number ≢ 18

pub record WrittenWords : Type 0 where
  -- read, start, step and whole write, accepted or refused, on any bytes and with any handle
  pub calls : (a : List ℕ) (h : Handle) (c : Call) → Small a → MapKept h.figures a (after (record { arena = a; handle = h }) c).arena
  -- openings and cut openings likewise
  pub opening : (d : ℕ) (a : List ℕ) (room : Room) → Small a → MapKept (figures_in a) a (open_of (alone d) a room).arena
  pub cut_opening : (d : ℕ) (a : List ℕ) (room : Room) (k : ℕ) → Small a → MapKept (figures_in a) a (cut_open_of (alone d) a room k).arena
  -- after making every map word is 0
  pub making : (o : Wanted) (a : List ℕ) → Small a → Small o.first → Small o.second → (make_of o a).number ≡ 0
      → (s : ℕ) → s < o.sectors → map_word_in (fresh_figures o.size o.sectors o.lanes) (make_of o a).arena s ≡ 0
  -- so in an arena that we made, opened in either layout, after any history, every map word is 0 or 0xC0000000 + b with b < I
  pub ours : (d : ℕ) → Distance d → (o : Wanted) (a : List ℕ) (room : Room) (hs : List Happening) → Small a → Small o.first → Small o.second → (make_of o a).number ≡ 0
      → FreshRoom o room → SmallEvents (latest_of hs) → AllHarmless (alone d) (opened_from (alone d) (make_of o a).arena room) hs
      → (s : ℕ) → s < o.sectors
      → KeptOrMapped (o.sectors + o.lanes) 0
      (map_word_in (fresh_figures o.size o.sectors o.lanes) (leaves (alone d) (make_of o a).arena room hs).arena s)
  -- what opens, as a made arena does, stays clean
  pub stays_clean : (d : ℕ) (a : List ℕ) (room : Room) (hs : List Happening) → Small a → SmallEvents (latest_of hs) → (open_of (alone d) a room).number ≡ 0
      → AllHarmless (alone d) (opened_from (alone d) a room) hs → StaysClean d a room hs
