-- The report on an arena of at most 65,536 bytes: `refused N`, or its figures and its lanes.
use Rattle.std.specs.Prelude.{◌≡◌, cond, List, ◌++◌, ℕ, eqb, ltb, length, drop, replicate}
use Rattle.layout.specs.Figures.{max_lanes}
use Rattle.layout.specs.Told.{alone_near}
use Rattle.machine.specs.state.Lane.{no_lane}
use Rattle.machine.specs.calls.Opening.{Room, Opening, open_of}
use Rattle.text.specs.Text.{refused_text, opened_text}

-- a report's text, and the input as opening leaves it
pub record Report : Type 0 where
  pub text : List ℕ
  pub input : List ℕ

-- the text for an opening's outcome
abbrev pub text_of : Opening → List ℕ
text_of o = cond (eqb o.number 0) (opened_text o.handle o.mended) (refused_text o.number)

-- the work buffer that an input is opened with
abbrev pub work_buffer : List ℕ
work_buffer = replicate 128 0

-- what it is opened with: that buffer, and a table with a record for each lane that there may be
abbrev pub lent : Room
lent = record { work = work_buffer; table = replicate max_lanes no_lane }

-- the longest input that is opened, in bytes
abbrev pub max_input : ℕ
max_input = 65536

-- a longer input is refused with 1
unfoldable pub report_of : List ℕ → Report
report_of a =
    cond (ltb max_input (length a)) (record { text = refused_text 1; input = a })
    (record { text = text_of (open_of alone_near a lent); input = (open_of alone_near a lent).arena })

-- what a report leaves: so many bytes of text at the start of the buffer, the rest of it unchanged, and the input
pub record Reported (r : Report) (bytes : ℕ) (input before after : List ℕ) : Type 0 where
  pub count : bytes ≡ length r.text
  pub buffer : after ≡ r.text ++ drop (length r.text) before
  pub opened : input ≡ r.input
