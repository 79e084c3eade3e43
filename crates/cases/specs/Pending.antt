-- Cases 6 to 8: pending lanes and mended words, on the arena of case 5 with one map word and its flog stored.
use Rattle.std.specs.Prelude.{cond, List, [], ◌∷◌, ◌++◌, ℕ, ◌+◌, replicate}
use Rattle.words.specs.Word.{put_word, put_words}
use Rattle.layout.specs.Figures.{fresh_figures}
use Rattle.layout.specs.Place.{Layout, layout_of}
use Rattle.machine.specs.state.Flog.{map_word, free_of, pending}
use Rattle.machine.specs.calls.Opening.{mended, pending_lanes}
use Rattle.machine.specs.claims.Exhibit.{exhibit_found}
use Rattle.cases.specs.Worked.{Worked, ◌is◌}

-- its layout, by the figures that making works out
abbrev pub laid : Layout
laid = layout_of 16 (fresh_figures 512 60 4)

-- the flog: lanes 0 and 1 with those second halves, lane 0's first half at sequence x, and all else as making leaves it
abbrev pub flog_words : ℕ → List ℕ → List ℕ → List ℕ
flog_words x half0 half1 =
    (0 ∷ 60 ∷ 60 ∷ x ∷ []) ++ (half0 ++ (replicate 8 0
    ++ ((1 ∷ 61 ∷ 61 ∷ 1 ∷ []) ++ (half1 ++ (replicate 8 0
    ++ ((2 ∷ 62 ∷ 62 ∷ 1 ∷ []) ++ (replicate 12 0 ++ ((3 ∷ 63 ∷ 63 ∷ 1 ∷ []) ++ replicate 12 0))))))))

-- the made arena with a word at sector 7, and that flog
unfoldable pub found : ℕ → ℕ → List ℕ → List ℕ → List ℕ
found w x half0 half1 = put_words (put_word exhibit_found (laid.map₀ + 7) w) laid.flog₀ (flog_words x half0 half1)

-- a half that is not written
abbrev pub unset : List ℕ
unset = replicate 4 0

-- 1 where a lane is pending
abbrev pub is_pending : List ℕ → ℕ → ℕ
is_pending a l = cond (pending laid a l) 1 0

-- cases 6 and 7: half (7, 7, 60, 2) with map[7] = 0 and with map[7] = 0xC000003C, the first half at sequence 1 and at 0
abbrev pub case6 : ℕ → List Worked
case6 x =
    let a = found 0 x (7 ∷ 7 ∷ 60 ∷ 2 ∷ []) unset in
    (is_pending a 0 is 1) ∷ (map_word laid (mended laid a) 7 is 0xC000003C) ∷ (free_of laid a 0 is 7) ∷ []

abbrev pub case7 : ℕ → List Worked
case7 x =
    let a = found 0xC000003C x (7 ∷ 7 ∷ 60 ∷ 2 ∷ []) unset in
    (is_pending a 0 is 0) ∷ (map_word laid (mended laid a) 7 is 0xC000003C) ∷ (free_of laid a 0 is 7) ∷ []

-- case 8: lane 0 (7, 7, 60, 2), lane 1 (7, 60, 61, 2), map[7] = 0xC000003D
abbrev pub case8 : List Worked
case8 =
    let a = found 0xC000003D 1 (7 ∷ 7 ∷ 60 ∷ 2 ∷ []) (7 ∷ 60 ∷ 61 ∷ 2 ∷ []) in
    (pending_lanes laid a 4 is 0) ∷ (map_word laid (mended laid a) 7 is 0xC000003D)
    ∷ (free_of laid a 0 is 7) ∷ (free_of laid a 1 is 60) ∷ []
