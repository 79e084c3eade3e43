-- What is reported, by the input's length and its opening; and what is lent to the opening is always long enough, and so is the text's buffer.
use Rattle.std.specs.Prelude.{◌≡◌, ◌≢◌, List, [], ◌∷◌, ◌++◌, ℕ, ◌≤◌, ◌<◌, length}
use Rattle.words.specs.Bytes.{Small}
use Rattle.layout.specs.Figures.{fresh_length}
use Rattle.layout.specs.Told.{alone_near}
use Rattle.machine.specs.calls.Making.{make_of}
use Rattle.machine.specs.calls.Opening.{open_of}
use Rattle.text.specs.Text.{decimal, opened_text}
use Rattle.text.specs.Claims.{fresh_report}
use Rattle.report.specs.Report.{lent, report_of}

-- the work buffer suffices for any 65,536 bytes: the program never writes `refused 5`
abbrev pub WorkSuffices : Type 0
WorkSuffices = (a : List ℕ) → length a ≤ 65536 → (open_of alone_near a lent).number ≢ 5

-- nor `refused 21`
abbrev pub TableSuffices : Type 0
TableSuffices = (a : List ℕ) → (open_of alone_near a lent).number ≢ 21

-- what opens has at most 48 lanes, the most that are written; a made arena of 65,536 bytes can have 48
pub record FewLanes : Type 0 where
  pub few : (a : List ℕ) → length a ≤ 65536 → (open_of alone_near a lent).number ≡ 0 → (open_of alone_near a lent).handle.figures.lanes ≤ 48
  pub most : fresh_length 512 48 48 ≡ 65536

pub record ReportClaim : Type 0 where
  -- more than 65,536 bytes are "refused 1", and the input is as it was
  pub longer : (a : List ℕ) → 65536 < length a
      → report_of a ≡ record { text = 114 ∷ 101 ∷ 102 ∷ 117 ∷ 115 ∷ 101 ∷ 100 ∷ 32 ∷ 49 ∷ 10 ∷ []; input = a }
  -- an arena that does not open is "refused N" with the opening's number, and is as it was
  pub refused : (a : List ℕ) → length a ≤ 65536 → (open_of alone_near a lent).number ≢ 0
      → report_of a
      ≡ record {
        text = (114 ∷ 101 ∷ 102 ∷ 117 ∷ 115 ∷ 101 ∷ 100 ∷ 32 ∷ []) ++ (decimal (open_of alone_near a lent).number ++ (10 ∷ []));
        input = a;
      }
  -- of any other the handle and the count that its opening gives, and the arena is as the opening leaves it
  pub opened : (a : List ℕ) → length a ≤ 65536 → (open_of alone_near a lent).number ≡ 0
      → report_of a
      ≡ record {
        text = opened_text (open_of alone_near a lent).handle (open_of alone_near a lent).mended;
        input = (open_of alone_near a lent).arena;
      }
  -- the report of document 01, on the arena that making leaves in any 49,152 bytes, whatever its identifiers
  pub fresh : (a first second : List ℕ) → Small a → Small first → Small second → length a ≡ 49152
      → let made = make_of (record { size = 512; sectors = 60; lanes = 4; first = first; second = second }) a in
      made.number ≡ 0 → (report_of made.arena).text ≡ fresh_report
