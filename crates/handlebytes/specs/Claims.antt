-- The bytes of a handle and of a record said a second time, by byte offset, and the claim that storing and decoding agree.
use Rattle.std.specs.Prelude.{◌≡◌, List, ℕ, length, replicate}
use Rattle.words.specs.Word.{put_words}
use Rattle.words.specs.Bytes.{byte_word, byte_long}
use Rattle.machine.specs.state.Handle.{zero_handle}
use Rattle.machine.specs.declared.lane.Lane.{Lane}
use Rattle.machine.specs.declared.handle.Handle.{Handle}
use Rattle.handlebytes.specs.Bytes.{decode_handle, record_words, encode_handle}
use Rattle.handlebytes.specs.Stands.{RecordFits, HandleFits, Stands}

-- where the numbers of a handle stand
pub record HandleAt (b : List ℕ) (h : Handle) : Type 0 where
  pub total : h.length ≡ byte_long b 0
  pub data_start : h.figures.dataoff ≡ byte_long b 8
  pub map-start : h.figures.mapoff ≡ byte_long b 16
  pub flog-start : h.figures.flogoff ≡ byte_long b 24
  pub copy-start : h.figures.copyoff ≡ byte_long b 32
  pub size : h.figures.size ≡ byte_word b 40
  pub sectors : h.figures.sectors ≡ byte_word b 44
  pub internal : h.figures.internal ≡ byte_word b 48
  pub blocks : h.figures.blocks ≡ byte_word b 52
  pub lanes : h.figures.lanes ≡ byte_word b 56
  pub layout : h.distance ≡ byte_word b 60

-- a record's seven numbers in 28 bytes
pub record RecordIn (b : List ℕ) (r : Lane) : Type 0 where
  pub busy : byte_word b 0 ≡ r.busy
  pub block : byte_word b 4 ≡ r.block.0
  pub half : byte_word b 8 ≡ r.half
  pub sequence : byte_word b 12 ≡ r.sequence.0
  pub sector : byte_word b 16 ≡ r.sector.0
  pub old : byte_word b 20 ≡ r.old.0
  pub made : byte_word b 24 ≡ r.made

pub record BytesClaim : Type 0 where
  -- every number of a handle by its byte
  pub head : (b : List ℕ) → HandleAt b (decode_handle b)
  -- a handle's bytes stand for it
  pub encoded : (h : Handle) → HandleFits h → Stands (encode_handle h) h
  -- so do those that a refused opening leaves
  pub zeroes : Stands (replicate 64 0) zero_handle
  -- what bytes stand for fits
  pub fits : (b : List ℕ) (h : Handle) → Stands b h → HandleFits h
  -- a record stored in 28 bytes
  pub stored : (b : List ℕ) (r : Lane) → length b ≡ 28 → RecordFits r → RecordIn (put_words b 0 (record_words r)) r
