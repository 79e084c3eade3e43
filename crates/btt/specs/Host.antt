-- What the library's calls are to the machine's: bytes hold a handle, a table is lent with them, and each call through the two is the machine's
-- call on that handle with that table. `HostList` says it of lists of calls, and `HostReplay` of replays.
use Rattle.std.specs.Prelude.{◌≡◌, ◌≢◌, ◌⊎◌, List, [], ◌∷◌, ℕ, ◌+◌, ◌-◌, ◌≤◌, ◌<◌, length, get_or, take, drop, replicate}
use Rattle.words.specs.Bytes.{Small, byte_word}
use Rattle.layout.specs.Claims.{Length}
use Rattle.layout.specs.Told.{alone}
use Rattle.infoblock.specs.Info.{info_block_of}
use Rattle.infoblock.specs.Claims.{Sound}
use Rattle.machine.specs.Rules.{FirstOf, line}
use Rattle.machine.specs.declared.handle.Handle as bare
use Rattle.machine.specs.declared.lane.Lane.{Lane}
use Rattle.machine.specs.state.Handle.{Handle, bare_of, lane_at}
use Rattle.machine.specs.calls.Order.{bad_handle, short_table, bad_records, no_such_lane, lane_idle, number}
use Rattle.machine.specs.calls.Opening.{Room, Opening, figures_in, open_of}
use Rattle.machine.specs.calls.Reading.{read_of}
use Rattle.machine.specs.calls.Writing.{Outcome, start_of, step_of, write_of}
use Rattle.machine.specs.words.Running.{HandleOk, Holds}
use Rattle.handlebytes.specs.Claims.{RecordIn}
use Rattle.handlebytes.specs.Stands.{Stands}
use Rattle.btt.specs.Calls.{
  span,
  HostOpening,
  HostOutcome,
  handle_in,
  btt_info_block_of,
  btt_open_of,
  btt_read_of,
  btt_of,
  btt_start_of,
  btt_step_of,
  btt_write_of,
  lane_order,
  next_order,
  btt_lane_of,
  btt_next_store_of,
}

-- ---- what is lent

-- 64 bytes that hold the handle: they decode to it
abbrev pub HoldsHandle : List ℕ → bare.Handle → Type 0
HoldsHandle b h = Stands b h

-- they hold the handle, and the table is the one that it has
pub record LentFor (b : List ℕ) (t : List Lane) (h : Handle) : Type 0 where
  pub handle : HoldsHandle b (bare_of h)
  pub table : t ≡ h.table

-- how many lanes the handle's bytes name
abbrev pub lanes_in : List ℕ → ℕ
lanes_in b = byte_word b 56

-- ---- what calls leave

-- number, count, arena, table and work buffer are the machine's
pub record SameOpening (c : HostOpening) (o : Opening) : Type 0 where
  pub number : c.number ≡ o.number
  pub mended : c.mended ≡ o.mended
  pub arena : c.arena ≡ o.arena
  pub table : c.table ≡ o.handle.table
  pub work : c.work ≡ o.work

-- the table is as long as it was, and records past the lanes are as they came
pub record PastKept (lanes : ℕ) (before after : List Lane) : Type 0 where
  pub size : length after ≡ length before
  pub past : (j : ℕ) → lanes ≤ j → lane_at after j ≡ lane_at before j

-- zeroes for the handle's bytes, and arena and table as they came
pub record RefusedHost (a : List ℕ) (room : Room) (c : HostOpening) : Type 0 where
  pub handle : c.handle ≡ replicate 64 0
  pub table : c.table ≡ room.table
  pub arena : c.arena ≡ a
  pub mended : c.mended ≡ 0

-- number, arena and table are the machine's, and the bytes, which a call only reads, hold the handle that it left
pub record SameOutcome (b : List ℕ) (c : HostOutcome) (o : Outcome) : Type 0 where
  pub is : c ≡ btt_of o
  pub lent : LentFor b c.table o.handle

-- arena and every record of the table as they came
pub record Untouched (a : List ℕ) (t : List Lane) (c : HostOutcome) : Type 0 where
  pub arena : c.arena ≡ a
  pub table : c.table ≡ t

-- of a table lent with bytes b, lane l's record is all that differs, and that only if there is such a lane
pub record OnlyLane (b : List ℕ) (l : ℕ) (before after : List Lane) : Type 0 where
  pub others : (j : ℕ) → j ≢ l → lane_at after j ≡ lane_at before j
  pub kept : PastKept (lanes_in b) before after

-- where the info block that counts is: the first bytes if that block is sound, else the last if that one is, else nowhere
pub record InfoPlace (a : List ℕ) : Type 0 where
  pub first : Length (length a) → Sound (take 4096 a) → btt_info_block_of a ≡ span 0 4096
  pub copy : Length (length a) → (Sound (take 4096 a) → ⊥) → Sound (drop (length a - 4096) a)
      → btt_info_block_of a ≡ span (length a - 4096) 4096
  pub neither : (Sound (take 4096 a) → ⊥) → (Sound (drop (length a - 4096) a) → ⊥) → btt_info_block_of a ≡ span 0 0
  pub no_arena : (Length (length a) → ⊥) → btt_info_block_of a ≡ span 0 0

-- ---- answers that every call gives

-- every call that takes the handle's bytes and the table answers n
pub record AllAnswer (n : ℕ) (a b : List ℕ) (t : List Lane) : Type 0 where
  pub read : (s : ℕ) (buffer : List ℕ) → (btt_read_of a b t s buffer).number ≡ n
  pub start : (l s : ℕ) → (btt_start_of a b t l s).number ≡ n
  pub step : (l : ℕ) (buffer : List ℕ) → (btt_step_of a b t l buffer).number ≡ n
  pub write : (l s : ℕ) (buffer : List ℕ) → (btt_write_of a b t l s buffer).number ≡ n
  pub lane : (l : ℕ) (out : List ℕ) → (btt_lane_of a b t l out).number ≡ n
  pub next_store : (l offset : ℕ) → (btt_next_store_of a b t l offset).number ≡ n

abbrev pub AllBadHandle : List ℕ → List ℕ → List Lane → Type 0
AllBadHandle a b t = AllAnswer 16 a b t

abbrev pub AllShortTable : List ℕ → List ℕ → List Lane → Type 0
AllShortTable a b t = AllAnswer 21 a b t

-- two tables with a record for each of n lanes or more, and for these the same ones
pub record SameLanes (n : ℕ) (t u : List Lane) : Type 0 where
  pub first : n ≤ length t
  pub second : n ≤ length u
  pub same : (l : ℕ) → l < n → lane_at t l ≡ lane_at u l

-- number and arena are the same, and the tables still are, as far as the lanes
pub record AlikeOutcomes (n : ℕ) (c e : HostOutcome) : Type 0 where
  pub number : c.number ≡ e.number
  pub arena : c.arena ≡ e.arena
  pub table : SameLanes n c.table e.table

-- with one table and with the other every call answers, and leaves all that is lent, alike
pub record AllAlike (a b : List ℕ) (t u : List Lane) : Type 0 where
  pub read : (s : ℕ) (buffer : List ℕ) → btt_read_of a b t s buffer ≡ btt_read_of a b u s buffer
  pub start : (l s : ℕ) → AlikeOutcomes (lanes_in b) (btt_start_of a b t l s) (btt_start_of a b u l s)
  pub step : (l : ℕ) (buffer : List ℕ) → AlikeOutcomes (lanes_in b) (btt_step_of a b t l buffer) (btt_step_of a b u l buffer)
  pub write : (l s : ℕ) (buffer : List ℕ) → AlikeOutcomes (lanes_in b) (btt_write_of a b t l s buffer) (btt_write_of a b u l s buffer)
  pub lane : (l : ℕ) (out : List ℕ) → btt_lane_of a b t l out ≡ btt_lane_of a b u l out
  pub next_store : (l offset : ℕ) → btt_next_store_of a b t l offset ≡ btt_next_store_of a b u l offset

-- ---- what a host is shown

-- 28 bytes that are the record's seven numbers
pub record RecordShown (out : List ℕ) (r : Lane) : Type 0 where
  pub size : length out ≡ 28
  pub small : Small out
  pub is : RecordIn out r

-- n bytes from byte o on are all that differs
abbrev pub OnlyAt : ℕ → ℕ → List ℕ → List ℕ → Type 0
OnlyAt o n before after = (j : ℕ) → (j < o) ⊎ (o + n ≤ j) → get_or after j 0 ≡ get_or before j 0

-- the step that comes next is told its place: it stores one word there, and nothing else
pub record ToldPlace (a b : List ℕ) (t : List Lane) (l offset : ℕ) (buffer : List ℕ) : Type 0 where
  pub number : (btt_next_store_of a b t l offset).number ≡ 0
  pub store : OnlyAt (btt_next_store_of a b t l offset).offset 4 a (btt_step_of a b t l buffer).arena

-- for any bytes and table lent, any numbers, and any handle that they hold
pub record HostClaim : Type 0 where
  -- the block at the place shown is the one that counts
  pub info_block : (a : List ℕ) → take (btt_info_block_of a).length (drop (btt_info_block_of a).offset a) ≡ info_block_of a
  pub info_place : (a : List ℕ) → Small a → InfoPlace a
  -- an opening is the machine's, and sets just the lanes' records
  pub opening : (d : ℕ) (a : List ℕ) (room : Room) → SameOpening (btt_open_of d a room) (open_of (alone d) a room)
  pub open_past : (d : ℕ) (a : List ℕ) (room : Room) → PastKept (figures_in a).lanes room.table (btt_open_of d a room).table
  -- an accepted one leaves bytes that hold the handle it gives, with the table that it was lent; a refused one zeroes, and arena and table
  pub opened : (d : ℕ) (a : List ℕ) (room : Room) → Small a → (open_of (alone d) a room).number ≡ 0
      → LentFor (btt_open_of d a room).handle (btt_open_of d a room).table (open_of (alone d) a room).handle
  pub open_refused : (d : ℕ) (a : List ℕ) (room : Room) → (open_of (alone d) a room).number ≢ 0 → RefusedHost a room (btt_open_of d a room)
  -- the layout that it was told stands at byte 60
  pub layout : (d : ℕ) (a : List ℕ) (room : Room) → Small a → (open_of (alone d) a room).number ≡ 0
      → byte_word (btt_open_of d a room).handle 60 ≡ d
  -- each call is the machine's
  pub read : (a b : List ℕ) (t : List Lane) (h : Handle) (s : ℕ) (buffer : List ℕ) → LentFor b t h
      → btt_read_of a b t s buffer ≡ read_of a h s buffer
  pub start : (a b : List ℕ) (t : List Lane) (h : Handle) (l s : ℕ) → LentFor b t h → SameOutcome b (btt_start_of a b t l s) (start_of a h l s)
  pub step : (a b : List ℕ) (t : List Lane) (h : Handle) (l : ℕ) (buffer : List ℕ) → LentFor b t h
      → SameOutcome b (btt_step_of a b t l buffer) (step_of a h l buffer)
  pub write : (a b : List ℕ) (t : List Lane) (h : Handle) (l s : ℕ) (buffer : List ℕ) → LentFor b t h
      → SameOutcome b (btt_write_of a b t l s buffer) (write_of a h l s buffer)
  -- a refusal changes nothing, whatever the handle's bytes and the table are
  pub read_refused : (a b : List ℕ) (t : List Lane) (s : ℕ) (buffer : List ℕ) → (btt_read_of a b t s buffer).number ≢ 0
      → (btt_read_of a b t s buffer).buffer ≡ buffer
  pub start_refused : (a b : List ℕ) (t : List Lane) (l s : ℕ) → (btt_start_of a b t l s).number ≢ 0 → Untouched a t (btt_start_of a b t l s)
  pub step_refused : (a b : List ℕ) (t : List Lane) (l : ℕ) (buffer : List ℕ) → (btt_step_of a b t l buffer).number ≢ 0
      → Untouched a t (btt_step_of a b t l buffer)
  pub write_refused : (a b : List ℕ) (t : List Lane) (l s : ℕ) (buffer : List ℕ) → (btt_write_of a b t l s buffer).number ≢ 0
      → Untouched a t (btt_write_of a b t l s buffer)
  pub lane_refused : (a b : List ℕ) (t : List Lane) (l : ℕ) (out : List ℕ) → (btt_lane_of a b t l out).number ≢ 0
      → (btt_lane_of a b t l out).out ≡ out
  pub next_refused : (a b : List ℕ) (t : List Lane) (l offset : ℕ) → (btt_next_store_of a b t l offset).number ≢ 0
      → (btt_next_store_of a b t l offset).offset ≡ offset
  -- a layout other than 16 and 32 is 16, whatever else the handle's bytes and the table are
  pub wrong-layout : (a b : List ℕ) (t : List Lane) → byte_word b 60 ≢ 16 → byte_word b 60 ≢ 32 → AllBadHandle a b t
  -- a table shorter than the lanes is 21, where rule 16 does not apply to the handle's bytes
  pub short-table : (a b : List ℕ) (t : List Lane) → HandleOk (handle_in b t) (length a) → length t < lanes_in b → AllShortTable a b t
  -- a busy word of 2 or more in a record below the lanes is 16 where the table is not shorter, whatever else the handle's bytes are
  pub busy : (a b : List ℕ) (t : List Lane) (l : ℕ) → lanes_in b ≤ length t → l < lanes_in b → 2 ≤ (lane_at t l).busy → AllBadHandle a b t
  -- records past the lanes do not matter
  pub past_unread : (a b : List ℕ) (t u : List Lane) → SameLanes (lanes_in b) t u → AllAlike a b t u
  -- of a table a call on a lane changes that lane's record at most, and none past the lanes
  pub start_kept : (a b : List ℕ) (t : List Lane) (l s : ℕ) → OnlyLane b l t (btt_start_of a b t l s).table
  pub step_kept : (a b : List ℕ) (t : List Lane) (l : ℕ) (buffer : List ℕ) → OnlyLane b l t (btt_step_of a b t l buffer).table
  pub write_kept : (a b : List ℕ) (t : List Lane) (l s : ℕ) (buffer : List ℕ) → OnlyLane b l t (btt_write_of a b t l s buffer).table
  -- a look at a lane: 16 (the handle), 21, 16 (the records), 11; at where its next step stores: 16, 21, 16, 11, 14
  pub lane-order : (l : ℕ) → line number (lane_order l) ≡ (16, bad_handle) ∷ (21, short_table) ∷ (16, bad_records) ∷ (11, no_such_lane l) ∷ []
  pub next-order : (l : ℕ) → line number (next_order l)
      ≡ (16, bad_handle) ∷ (21, short_table) ∷ (16, bad_records) ∷ (11, no_such_lane l) ∷ (14, lane_idle l) ∷ []
  -- the first rule that applies, in words, gives the answer
  pub lane_answers : (a b : List ℕ) (t : List Lane) (h : Handle) (l : ℕ) (out : List ℕ) → LentFor b t h
      → FirstOf number (Holds a h) (lane_order l) (btt_lane_of a b t l out).number
  pub next_answers : (a b : List ℕ) (t : List Lane) (h : Handle) (l offset : ℕ) → LentFor b t h
      → FirstOf number (Holds a h) (next_order l) (btt_next_store_of a b t l offset).number
  -- the record shown is the lane's in the table
  pub lane : (a b : List ℕ) (t : List Lane) (l : ℕ) (out : List ℕ) → Small out → length out ≡ 28 → (btt_lane_of a b t l out).number ≡ 0
      → RecordShown (btt_lane_of a b t l out).out (lane_at t l)
  pub next_store : (a b : List ℕ) (t : List Lane) (l offset : ℕ) (buffer : List ℕ) → (btt_step_of a b t l buffer).number ≡ 0
      → ToldPlace a b t l offset buffer
