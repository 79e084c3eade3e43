-- Texts said a second time, character by character: what a number's digits stand for, a replay's lines, a report's, and document 01's report.
use Rattle.std.specs.Prelude.{◌≡◌, ◌≢◌, Bool, true, false, List, [], ◌∷◌, ◌++◌, ℕ, zero, suc, ◌+◌, ◌-◌, ◌*◌, ◌≤◌, ◌<◌, length, get_or}
use Rattle.machine.specs.state.Handle.{Handle, lane_at}
use Rattle.machine.specs.declared.lane.Lane.{Lane}
use Rattle.text.specs.Text.{decimal, opened_text}
use Rattle.text.specs.Replay.{replay_text}

-- the number that digits stand for, the highest first, after digits that stand for n
unfoldable pub value_from : ℕ → List ℕ → ℕ
value_from n [] = n
value_from n (c ∷ cs) = value_from (10 * n + (c - 48)) cs

-- characters "0" to "9" alone
unfoldable pub AllDigits : List ℕ → Type 0
AllDigits [] = Unit {0}
AllDigits (c ∷ cs) = (48 ≤ c) × (c ≤ 57) × AllDigits cs

-- a number of 32 bits in decimal: digits that stand for it, the first of them not "0", but for 0 itself
pub record DecimalClaim : Type 0 where
  pub zero : decimal 0 ≡ 48 ∷ []
  pub digits : (n : ℕ) → AllDigits (decimal n)
  pub value : (n : ℕ) → n < 4294967296 → value_from 0 (decimal n) ≡ n
  pub first : (n : ℕ) → 0 < n → n < 4294967296 → 49 ≤ get_or (decimal n) 0 0

pub record TextClaim : Type 0 where
  -- a refused first opening: "refused R" on a line, whatever else there is
  pub refused : (first : ℕ) (numbers : List ℕ) (stopped : Bool) (at : ℕ) → first ≢ 0
      → replay_text first numbers stopped at ≡ (114 ∷ 101 ∷ 102 ∷ 117 ∷ 115 ∷ 101 ∷ 100 ∷ 32 ∷ []) ++ (decimal first ++ (10 ∷ []))
  -- no record, no line
  pub empty : (at : ℕ) → replay_text 0 [] false at ≡ []
  -- a record more that was accepted: "N ok" on a line more, N being how many were before it
  pub accepted : (numbers : List ℕ) (at : ℕ)
      → replay_text 0 (numbers ++ (0 ∷ [])) false at ≡ replay_text 0 numbers false at ++ (decimal (length numbers) ++ (32 ∷ 111 ∷ 107 ∷ 10 ∷ []))
  -- one more that was refused: "N refused R"
  pub answered : (numbers : List ℕ) (r at : ℕ) → r ≢ 0
      → replay_text 0 (numbers ++ (r ∷ [])) false at
      ≡ replay_text 0 numbers false at
      ++ (decimal (length numbers) ++ ((32 ∷ 114 ∷ 101 ∷ 102 ∷ 117 ∷ 115 ∷ 101 ∷ 100 ∷ 32 ∷ []) ++ (decimal r ++ (10 ∷ []))))
  -- where it stopped: "stopped 20 at B" after the records' lines
  pub stopped : (numbers : List ℕ) (at : ℕ)
      → replay_text 0 numbers true at
      ≡ replay_text 0 numbers false at
      ++ ((115 ∷ 116 ∷ 111 ∷ 112 ∷ 112 ∷ 101 ∷ 100 ∷ 32 ∷ 50 ∷ 48 ∷ 32 ∷ 97 ∷ 116 ∷ 32 ∷ []) ++ (decimal at ++ (10 ∷ [])))
  -- a whole text: "0 ok", "1 refused 12", "stopped 20 at 16"
  pub whole : replay_text 0 (0 ∷ 12 ∷ []) true 16
      ≡ (48 ∷ 32 ∷ 111 ∷ 107 ∷ 10 ∷ [])
      ++ ((49 ∷ 32 ∷ 114 ∷ 101 ∷ 102 ∷ 117 ∷ 115 ∷ 101 ∷ 100 ∷ 32 ∷ 49 ∷ 50 ∷ 10 ∷ [])
      ++ (115 ∷ 116 ∷ 111 ∷ 112 ∷ 112 ∷ 101 ∷ 100 ∷ 32 ∷ 50 ∷ 48 ∷ 32 ∷ 97 ∷ 116 ∷ 32 ∷ 49 ∷ 54 ∷ 10 ∷ []))

-- the report that document 01 has for a fresh arena of 60 sectors of 512 bytes with 4 lanes, line by line
abbrev pub fresh_report : List ℕ
fresh_report =
    (115 ∷ 101 ∷ 99 ∷ 116 ∷ 111 ∷ 114 ∷ 32 ∷ 98 ∷ 121 ∷ 116 ∷ 101 ∷ 115 ∷ 32 ∷ 53 ∷ 49 ∷ 50 ∷ 10 ∷ [])
    ++ ((115 ∷ 101 ∷ 99 ∷ 116 ∷ 111 ∷ 114 ∷ 115 ∷ 32 ∷ 54 ∷ 48 ∷ 10 ∷ [])
    ++ ((108 ∷ 97 ∷ 110 ∷ 101 ∷ 115 ∷ 32 ∷ 52 ∷ 10 ∷ [])
    ++ ((109 ∷ 101 ∷ 110 ∷ 100 ∷ 101 ∷ 100 ∷ 32 ∷ 48 ∷ 10 ∷ [])
    ++ ((108 ∷ 97 ∷ 110 ∷ 101 ∷ 32 ∷ 48 ∷ 32 ∷ 102 ∷ 114 ∷ 101 ∷ 101 ∷ 32 ∷ 54 ∷ 48 ∷ 32 ∷ 110 ∷ 101 ∷ 120 ∷ 116 ∷ 32 ∷ 50 ∷ 10 ∷ [])
    ++ ((108 ∷ 97 ∷ 110 ∷ 101 ∷ 32 ∷ 49 ∷ 32 ∷ 102 ∷ 114 ∷ 101 ∷ 101 ∷ 32 ∷ 54 ∷ 49 ∷ 32 ∷ 110 ∷ 101 ∷ 120 ∷ 116 ∷ 32 ∷ 50 ∷ 10 ∷ [])
    ++ ((108 ∷ 97 ∷ 110 ∷ 101 ∷ 32 ∷ 50 ∷ 32 ∷ 102 ∷ 114 ∷ 101 ∷ 101 ∷ 32 ∷ 54 ∷ 50 ∷ 32 ∷ 110 ∷ 101 ∷ 120 ∷ 116 ∷ 32 ∷ 50 ∷ 10 ∷ [])
    ++ ((108 ∷ 97 ∷ 110 ∷ 101 ∷ 32 ∷ 51 ∷ 32 ∷ 102 ∷ 114 ∷ 101 ∷ 101 ∷ 32 ∷ 54 ∷ 51 ∷ 32 ∷ 110 ∷ 101 ∷ 120 ∷ 116 ∷ 32 ∷ 50 ∷ 10 ∷ [])
    ++ (111 ∷ 112 ∷ 101 ∷ 110 ∷ 101 ∷ 100 ∷ 10 ∷ []))))))))

-- the lines of n lanes from lane l on, the first one first: "lane L free B next Q"
unfoldable pub lane_lines : List Lane → ℕ → ℕ → List ℕ
lane_lines table l zero = []
lane_lines table l (suc n) =
    (108 ∷ 97 ∷ 110 ∷ 101 ∷ 32 ∷ []) ++ (decimal l ++ ((32 ∷ 102 ∷ 114 ∷ 101 ∷ 101 ∷ 32 ∷ []) ++ (decimal (lane_at table l).block.0
    ++ ((32 ∷ 110 ∷ 101 ∷ 120 ∷ 116 ∷ 32 ∷ []) ++ (decimal (lane_at table l).sequence.0 ++ (10 ∷ lane_lines table (l + 1) n))))))

pub record ReportTextClaim : Type 0 where
  -- of any handle: "sector bytes S", "sectors E", "lanes N", "mended M", a line for each of the N lanes, "opened"
  pub lines : (h : Handle) (mended : ℕ)
      → opened_text h mended
      ≡ (115 ∷ 101 ∷ 99 ∷ 116 ∷ 111 ∷ 114 ∷ 32 ∷ 98 ∷ 121 ∷ 116 ∷ 101 ∷ 115 ∷ 32 ∷ []) ++ (decimal h.figures.size
      ++ ((10 ∷ 115 ∷ 101 ∷ 99 ∷ 116 ∷ 111 ∷ 114 ∷ 115 ∷ 32 ∷ []) ++ (decimal h.figures.sectors
      ++ ((10 ∷ 108 ∷ 97 ∷ 110 ∷ 101 ∷ 115 ∷ 32 ∷ []) ++ (decimal h.figures.lanes
      ++ ((10 ∷ 109 ∷ 101 ∷ 110 ∷ 100 ∷ 101 ∷ 100 ∷ 32 ∷ []) ++ (decimal mended
      ++ (10 ∷ (lane_lines h.table 0 h.figures.lanes ++ (111 ∷ 112 ∷ 101 ∷ 110 ∷ 101 ∷ 100 ∷ 10 ∷ []))))))))))
  -- of figures and lanes as document 01's fresh arena has them, its report
  pub fresh : (h : Handle) → h.figures.size ≡ 512 → h.figures.sectors ≡ 60 → h.figures.lanes ≡ 4
      → ((l : ℕ) → l < 4 → ((lane_at h.table l).block.0 ≡ 60 + l) × ((lane_at h.table l).sequence.0 ≡ 2))
      → opened_text h 0 ≡ fresh_report
