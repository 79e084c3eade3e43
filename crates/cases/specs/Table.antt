-- The worked figures of document 01 that are marked to be proved, cases 1 to 8, as one table of values computed and values due; beside them
-- the bytes of case 9, of its twin in the other layout, and of such a write in sectors that are shorter than their blocks; and the case of 256
-- lanes.
use Rattle.std.specs.Prelude.{cond, List, [], ◌∷◌, ◌++◌, ℕ, ◌+◌, ◌-◌, ◌*◌, replicate}
use Rattle.fletcher.specs.Fletcher.{fletcher64}
use Rattle.format.specs.Sequence.{successor, newer}
use Rattle.format.specs.MapWord.{flags_of, reading_of, block_of, sloppy_word}
use Rattle.layout.specs.Figures.{fresh_figures, fresh_length}
use Rattle.layout.specs.Place.{layout_of, at}
use Rattle.layout.specs.Told.{alone}
use Rattle.machine.specs.calls.Making.{make_number}
use Rattle.machine.specs.calls.Opening.{open_of}
use Rattle.machine.specs.calls.Reading.{read_of}
use Rattle.machine.specs.calls.Writing.{plan_of, store_at, start_of, write_of}
use Rattle.machine.specs.declared.lane.Lane.{Lane}
use Rattle.machine.specs.state.Lane.{write_stores}
use Rattle.machine.specs.claims.Making.{smallest}
use Rattle.machine.specs.claims.Exhibit.{exhibit_room, exhibit_state, exhibit_sloppy}
use Rattle.cases.specs.Worked.{Worked, ◌is◌}
use Rattle.cases.specs.Lanes.{case256}
use Rattle.cases.specs.Pending.{case6, case7, case8}

-- case 1: successors
abbrev pub case1 : List Worked
case1 = (successor 1 is 2) ∷ (successor 2 is 3) ∷ (successor 3 is 1) ∷ []

-- case 2: the newer of a first and a second half: 0 the first, 1 the second, 2 none
abbrev pub case2 : List Worked
case2 =
    (newer 1 0 is 0) ∷ (newer 0 1 is 1) ∷ (newer 3 1 is 1) ∷ (newer 1 3 is 0) ∷ (newer 2 3 is 1)
    ∷ (newer 0 0 is 2) ∷ (newer 2 2 is 2) ∷ (newer 4 1 is 2) ∷ (newer 0 4 is 2) ∷ []

-- case 3: at sector 7 of the arena of case 5, 0x00000005 is refused with 18 by an opening and by a read, a start and a whole write, in a layout
abbrev pub case3_refused : ℕ → List Worked
case3_refused d =
    ((open_of (alone d) exhibit_sloppy exhibit_room).number is 18) ∷ ((read_of exhibit_sloppy (exhibit_state d).handle 7 (replicate 512 0)).number is 18)
    ∷ ((start_of exhibit_sloppy (exhibit_state d).handle 0 7).number is 18)
    ∷ ((write_of exhibit_sloppy (exhibit_state d).handle 0 7 (replicate 512 0)).number is 18) ∷ []

-- the other words of case 3, at sector 7: the block and the reading, 0 zeroes, 1 bad, 2 data
abbrev pub case3 : List Worked
case3 =
    (block_of 7 0x40000005 is 5) ∷ (reading_of (flags_of 0x40000005) is 1)
    ∷ (block_of 7 0x80000005 is 5) ∷ (reading_of (flags_of 0x80000005) is 0)
    ∷ (block_of 7 0xC0000005 is 5) ∷ (reading_of (flags_of 0xC0000005) is 2) ∷ []

-- 1 where a word is sloppy
abbrev pub is_sloppy : ℕ → ℕ
is_sloppy w = cond (sloppy_word w) 1 0

-- beside case 3: each of bits 29 to 0 counts, and under flags 00 each is refused
abbrev pub case3_bits : List Worked
case3_bits =
    (block_of 7 0xE0000005 is 0x20000005) ∷ (reading_of (flags_of 0xE0000005) is 2)
    ∷ (block_of 7 0xC0010005 is 0x10005) ∷ (block_of 7 0x7FFFFFFF is 0x3FFFFFFF)
    ∷ (reading_of (flags_of 0x7FFFFFFF) is 1) ∷ (reading_of (flags_of 0xBFFFFFFF) is 0)
    ∷ (block_of 7 0 is 7) ∷ (reading_of (flags_of 0) is 0) ∷ (is_sloppy 0 is 0)
    ∷ (is_sloppy 1 is 1) ∷ (is_sloppy 0x20000000 is 1) ∷ (is_sloppy 0x3FFFFFFF is 1)
    ∷ (is_sloppy 0x40000000 is 0) ∷ (is_sloppy 0x80000005 is 0) ∷ []

-- case 4: checksums of runs of words
abbrev pub case4 : List Worked
case4 =
    (fletcher64 (1 ∷ 2 ∷ []) is 0x0000000400000003) ∷ (fletcher64 (0xFFFFFFFF ∷ 1 ∷ []) is 0xFFFFFFFF00000000)
    ∷ (fletcher64 [] is 0) ∷ []

-- beside case 4: one word, a turn of eight words, and one word more
abbrev pub case4_turns : List Worked
case4_turns =
    (fletcher64 (0xFFFFFFFF ∷ []) is 0xFFFFFFFFFFFFFFFF)
    ∷ (fletcher64 (1 ∷ 2 ∷ 3 ∷ 4 ∷ 5 ∷ 6 ∷ 7 ∷ 8 ∷ []) is 0x0000007800000024)
    ∷ (fletcher64 (1 ∷ 2 ∷ 3 ∷ 4 ∷ 5 ∷ 6 ∷ 7 ∷ 8 ∷ 0xFFFFFFFF ∷ []) is 0x0000009B00000023) ∷ []

-- case 5: what making works out
abbrev pub case5 : List Worked
case5 =
    ((fresh_figures 512 60 4).mapoff is 36864) ∷ ((fresh_figures 512 60 4).flogoff is 40960) ∷ ((fresh_figures 512 60 4).copyoff is 45056)
    ∷ (fresh_length 512 60 4 is 49152) ∷ (fresh_length 512 1 1 is 20480) ∷ (fresh_length 4096 1 1 is 24576) ∷ []

-- beside case 5: sectors that are shorter than their blocks, and sizes of blocks that are no sizes of sectors
abbrev pub case5_sizes : List Worked
case5_sizes =
    ((fresh_figures 520 61 4).mapoff is 45056) ∷ (fresh_length 520 61 4 is 57344) ∷ (fresh_length 528 61 4 is 57344)
    ∷ ((fresh_figures 4104 61 4).mapoff is 278528) ∷ (fresh_length 4104 61 4 is 290816)
    ∷ (make_number (smallest 520) 20480 is 0) ∷ (make_number (smallest 528) 20480 is 0) ∷ (make_number (smallest 4104) 28672 is 0)
    ∷ (make_number (smallest 576) 20480 is 3) ∷ (make_number (smallest 4160) 28672 is 3) ∷ []

-- case 9's write: to sector 7 on lane 0 of a made arena of so many sectors, into its second half
abbrev pub written : ℕ → Lane
written sectors = record {
  busy = 1;
  block = record { 0 = sectors };
  half = 1;
  sequence = record { 0 = 2 };
  sector = record { 0 = 7 };
  old = record { 0 = 7 };
  made = 0;
}

-- the byte of its store k, counted from 1, by the places of the machine: 4 lanes, in a layout
abbrev pub stored_at : ℕ → ℕ → ℕ → ℕ → ℕ
stored_at size sectors d k = let g = layout_of d (fresh_figures size sectors 4) in 4 * at g (store_at g (plan_of 0 (written sectors)) [] (k - 1)).place

-- beside case 9: where its stores go in a layout, of which the first into the half is at byte o
abbrev pub case9_bytes : ℕ → ℕ → List Worked
case9_bytes d o =
    let store = stored_at 512 60 d in
    (store 1 is 34816) ∷ (store 128 is 35324) ∷ (store 129 is o) ∷ (store 130 is o + 4) ∷ (store 131 is o + 8) ∷ (store 132 is o + 12)
    ∷ (store 133 is 36892) ∷ []

-- beside case 9: of 61 sectors of a size, how many stores there are, and the bytes of the first and the last data word, of the first word of the
-- half and of the map word
abbrev pub case9_sized : ℕ → ℕ → ℕ → ℕ → ℕ → ℕ → List Worked
case9_sized size n first last half map =
    let store = stored_at size 61 16 in
    (write_stores (layout_of 16 (fresh_figures size 61 4)) is n) ∷ (store 1 is first) ∷ (store (n - 5) is last) ∷ (store (n - 4) is half)
    ∷ (store n is map) ∷ []

abbrev pub case9_sizes : List Worked
case9_sizes =
    case9_sized 520 135 39232 39748 49168 45084 ++ (case9_sized 528 137 39232 39756 49168 45084 ++ case9_sized 4104 1031 257856 261956 282640 278556)

unfoldable pub table : List Worked
table =
    case1 ++ (case2 ++ (case3 ++ (case3_bits ++ (case4 ++ (case4_turns ++ (case5 ++ (case5_sizes ++ (case9_sizes ++ (case9_bytes 16 40976 ++ (case9_bytes 32 40992
    ++ (case256 ++ (case3_refused 16 ++ (case3_refused 32 ++ (case6 1 ++ (case6 0 ++ (case7 1 ++ (case7 0 ++ case8)))))))))))))))))
