-- The record at an offset of a run log: a u16 length of the whole record, a u16 kind, and the kind's fields.
--   kind 1, start    length 10: lane u16, sector u32
--   kind 2, step     length 6: lane u16
--   kind 3, cut      length 4
use Rattle.std.specs.Prelude.{cond, ◌&&◌, List, ℕ, ◌+◌, ◌*◌, eqb, ltb, length, get_or, Option, Some, None}
use Rattle.std.specs.Option.{option_map}
use Rattle.words.specs.Bytes.{byte_word}
use Rattle.runlog.specs.declared.record.Record.{Record}
use Rattle.runlog.specs.declared.record.Record.TheVariants.{Start, Step, Cut}
use Rattle.runlog.specs.declared.record.Taken.{Taken}

-- the 16-bit number at byte o, the least byte first
abbrev pub byte_half : List ℕ → ℕ → ℕ
byte_half b o = get_or b o 0 + 256 * get_or b (o + 1) 0

-- each kind's number
abbrev pub kind_of : Record → ℕ
kind_of (Start lane sector) = 1
kind_of (Step lane) = 2
kind_of Cut = 3

-- each kind's length in bytes
abbrev pub length_of : Record → ℕ
length_of (Start lane sector) = 10
length_of (Step lane) = 6
length_of Cut = 4

-- the record that the head's length n and kind k name, with the fields after the head
abbrev pub named : List ℕ → ℕ → ℕ → ℕ → Option Record
named log at n k =
    cond (eqb k 1 && eqb n 10) (Some (Start (record { 0 = byte_half log (at + 4) }) (record { 0 = byte_word log (at + 6) })))
    (cond (eqb k 2 && eqb n 6) (Some (Step (record { 0 = byte_half log (at + 4) })))
    (cond (eqb k 3 && eqb n 4) (Some Cut) None))

-- none where the head or the length that it gives runs past the end
unfoldable pub record_at : List ℕ → ℕ → Option Record
record_at log at =
    cond (ltb (length log) (at + 4)) None
    (cond (ltb (length log) (at + byte_half log at)) None (named log at (byte_half log at) (byte_half log (at + 2))))

-- a record at an offset, and the offset after it
abbrev pub taken : ℕ → Record → Taken
taken at r = record { found = r; after = at + length_of r }

abbrev pub taken_at : List ℕ → ℕ → Option Taken
taken_at log at = option_map (taken at) (record_at log at)
