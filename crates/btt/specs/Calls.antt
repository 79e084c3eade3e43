-- Each call of the library: the machine's call on the handle that the bytes hold, with the table that is lent.
use Rattle.std.specs.Prelude.{cond, List, [], ◌∷◌, ℕ, zero, suc, ◌-◌, ◌*◌, eqb, length, replicate}
use Rattle.words.specs.Word.{put_words}
use Rattle.layout.specs.Place.{at}
use Rattle.layout.specs.Told.{alone}
use Rattle.judge.specs.Judge.{info_part_of}
use Rattle.machine.specs.Rules.{answer}
use Rattle.machine.specs.declared.handle.Handle as bare
use Rattle.machine.specs.state.Handle.{Handle, with, bare_of, lane_at, laid_out}
use Rattle.machine.specs.calls.Order.{Rule, no_such_lane, lane_idle, number, table_rules}
use Rattle.machine.specs.calls.Judging.{tests}
use Rattle.machine.specs.calls.Opening.{Room, Opening, open_of, cut_open_of}
use Rattle.machine.specs.calls.Reading.{Read, read_of}
use Rattle.machine.specs.calls.Writing.{Outcome, plan_of, store_at, start_of, step_of, write_of}
use Rattle.machine.specs.declared.lane.Lane.{Lane}
use Rattle.handlebytes.specs.Bytes.{handle_bytes, record_words, decode_handle, encode_handle}
use Rattle.btt.specs.declared.inspect.Span.{Span}

abbrev pub span : ℕ → ℕ → Span
span offset length = record { offset = offset; length = length }

-- the place of an info block in n bytes: the first (0), the copy (1), and 0 and 0 for neither
abbrev pub part_span : ℕ → ℕ → Span
part_span n zero = span 0 4096
part_span n (suc zero) = span (n - 4096) 4096
part_span n (suc (suc k)) = span 0 0

-- the place of the info block that counts
unfoldable pub btt_info_block_of : List ℕ → Span
btt_info_block_of a = part_span (length a) (info_part_of a)

-- a work buffer and a table as they are lent
abbrev pub room : List ℕ → List Lane → Room
room work table = record { work = work; table = table }

-- what an opening leaves: the number, the count, and every lent byte and record
pub record HostOpening : Type 0 where
  pub number : ℕ
  pub mended : ℕ
  pub arena : List ℕ
  pub table : List Lane
  pub handle : List ℕ
  pub work : List ℕ

-- the handle's bytes: those of the handle where the number is 0, else all zeroes
unfoldable pub given_bytes : ℕ → bare.Handle → List ℕ
given_bytes n h = cond (eqb n 0) (encode_handle h) (replicate handle_bytes 0)

unfoldable pub btt_open_of : ℕ → List ℕ → Room → HostOpening
btt_open_of d a lent =
    let o = open_of (alone d) a lent in
    record {
      number = o.number;
      mended = o.mended;
      arena = o.arena;
      table = o.handle.table;
      handle = given_bytes o.number (bare_of o.handle);
      work = o.work;
    }

-- a cut opening gives no handle, and leaves the table
abbrev pub btt_cut_open_of : ℕ → List ℕ → Room → ℕ → Opening
btt_cut_open_of d a lent k = cut_open_of (alone d) a lent k

-- the handle that bytes hold, with the table that is lent
abbrev pub handle_in : List ℕ → List Lane → Handle
handle_in b t = with (decode_handle b) t

unfoldable pub btt_read_of : List ℕ → List ℕ → List Lane → ℕ → List ℕ → Read
btt_read_of a b t s buffer = read_of a (handle_in b t) s buffer

-- what a start, a step or a whole write leaves; the handle's bytes are only read
pub record HostOutcome : Type 0 where
  pub number : ℕ
  pub arena : List ℕ
  pub table : List Lane

abbrev pub btt_of : Outcome → HostOutcome
btt_of o = record { number = o.number; arena = o.arena; table = o.handle.table }

unfoldable pub btt_start_of : List ℕ → List ℕ → List Lane → ℕ → ℕ → HostOutcome
btt_start_of a b t l s = btt_of (start_of a (handle_in b t) l s)

unfoldable pub btt_step_of : List ℕ → List ℕ → List Lane → ℕ → List ℕ → HostOutcome
btt_step_of a b t l buffer = btt_of (step_of a (handle_in b t) l buffer)

unfoldable pub btt_write_of : List ℕ → List ℕ → List Lane → ℕ → ℕ → List ℕ → HostOutcome
btt_write_of a b t l s buffer = btt_of (write_of a (handle_in b t) l s buffer)

-- ---- looking at a lane

-- the rules of a look at a lane's record, and of a look at where its next step stores
abbrev pub lane_order : ℕ → List Rule
lane_order l = table_rules (no_such_lane l ∷ [])

abbrev pub next_order : ℕ → List Rule
next_order l = table_rules (no_such_lane l ∷ lane_idle l ∷ [])

unfoldable pub lane_number : List ℕ → Handle → ℕ → ℕ
lane_number a h l = answer number (tests a h) (lane_order l)

unfoldable pub next_number : List ℕ → Handle → ℕ → ℕ
next_number a h l = answer number (tests a h) (next_order l)

pub record HostLane : Type 0 where
  pub number : ℕ
  pub out : List ℕ

unfoldable pub lane_shown : List ℕ → Handle → ℕ → List ℕ → HostLane
lane_shown a h l out =
    let n = lane_number a h l in
    record { number = n; out = cond (eqb n 0) (put_words out 0 (record_words (lane_at h.table l))) out }

abbrev pub btt_lane_of : List ℕ → List ℕ → List Lane → ℕ → List ℕ → HostLane
btt_lane_of a b t l out = lane_shown a (handle_in b t) l out

-- the byte that the lane's next step stores to; the place of a store does not depend on the buffer's bytes
unfoldable pub next_offset : Handle → ℕ → ℕ
next_offset h l = let r = lane_at h.table l in 4 * at (laid_out h) (store_at (laid_out h) (plan_of l r) [] r.made).place

pub record HostNext : Type 0 where
  pub number : ℕ
  pub offset : ℕ

unfoldable pub next_shown : List ℕ → Handle → ℕ → ℕ → HostNext
next_shown a h l offset =
    let n = next_number a h l in
    record { number = n; offset = cond (eqb n 0) (next_offset h l) offset }

abbrev pub btt_next_store_of : List ℕ → List ℕ → List Lane → ℕ → ℕ → HostNext
btt_next_store_of a b t l offset = next_shown a (handle_in b t) l offset
