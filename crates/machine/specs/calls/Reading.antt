-- Reading a sector: it goes by the sector's map word alone.
use Rattle.std.specs.Prelude.{cond, List, ℕ, ◌*◌, eqb, take, drop, replicate}
use Rattle.format.specs.MapWord.{flags_of, reading_of}
use Rattle.layout.specs.Place.{in_data, at}
use Rattle.machine.specs.state.Handle.{Handle, laid_out}
use Rattle.machine.specs.calls.Order.{read}
use Rattle.machine.specs.calls.Judging.{call_number}
use Rattle.machine.specs.state.Flog.{map_word, map_block}

abbrev pub read_number : List ℕ → Handle → ℕ → List ℕ → ℕ
read_number a h s buffer = call_number a h (read s buffer)

-- the sector's bytes in a block
unfoldable pub block_bytes : List ℕ → Handle → ℕ → List ℕ
block_bytes a h b = take h.figures.size (drop (4 * at (laid_out h) (in_data b 0)) a)

pub record Read : Type 0 where
  pub number : ℕ
  pub buffer : List ℕ

-- the block's bytes or zeroes; a refused read leaves its buffer unchanged
unfoldable pub read_of : List ℕ → Handle → ℕ → List ℕ → Read
read_of a h s buffer =
    let n = read_number a h s buffer in
    let g = laid_out h in
    let found = cond (eqb (reading_of (flags_of (map_word g a s))) 2) (block_bytes a h (map_block g a s)) (replicate h.figures.size 0) in
    record { number = n; buffer = cond (eqb n 0) found buffer }
