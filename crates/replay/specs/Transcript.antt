-- What is written of a replay on an arena of at most 49,152 bytes: its text, or `refused 1` for a longer arena.
use Rattle.std.specs.Prelude.{◌≡◌, cond, List, ◌++◌, ℕ, ltb, length, drop, replicate}
use Rattle.machine.specs.calls.Opening.{Room}
use Rattle.text.specs.Text.{refused_text}
use Rattle.text.specs.Replay.{replay_text}
use Rattle.replaying.specs.Replay.{Replay, own_table, room_of, replay_of}

-- the longest arena that is opened, in bytes
abbrev pub max_arena : ℕ
max_arena = 49152

-- a transcript's text, and the arena as the replay leaves it
pub record Transcript : Type 0 where
  pub text : List ℕ
  pub arena : List ℕ

-- the text for a replay
abbrev pub text_of : Replay → List ℕ
text_of p = replay_text p.first p.numbers p.stopped p.at

-- the work buffer that an arena is opened with
abbrev pub work_buffer : List ℕ
work_buffer = replicate 128 0

-- what its first opening is lent: that buffer, and the replay's own table
abbrev pub lent : Room
lent = room_of work_buffer own_table

-- a longer arena is refused with 1, and nothing is replayed
unfoldable pub transcript_of : List ℕ → List ℕ → Transcript
transcript_of a log =
    cond (ltb max_arena (length a)) (record { text = refused_text 1; arena = a })
    (record { text = text_of (replay_of a work_buffer log); arena = (replay_of a work_buffer log).arena })

-- what is left: so many bytes of text at the start of the buffer, the rest of it unchanged, and the arena
pub record Transcribed (t : Transcript) (bytes : ℕ) (arena before after : List ℕ) : Type 0 where
  pub count : bytes ≡ length t.text
  pub buffer : after ≡ t.text ++ drop (length t.text) before
  pub replayed : arena ≡ t.arena
