-- The report's text, in ASCII codes.
use Rattle.std.specs.Prelude.{cond, List, [], ◌∷◌, ◌++◌, ℕ, zero, suc, ◌+◌, ◌/◌, ◌%◌, ltb}
use Rattle.machine.specs.state.Handle.{Handle, lane_at}
use Rattle.machine.specs.declared.lane.Lane.{Lane}

-- the last digits of n, at most k of them
unfoldable pub digits : ℕ → ℕ → List ℕ
digits zero n = []
digits (suc k) n = cond (ltb n 10) [] (digits k (n / 10)) ++ ((48 + n % 10) ∷ [])

-- n in decimal (a number of 32 bits has at most 10 digits)
abbrev pub decimal : ℕ → List ℕ
decimal n = digits 10 n

-- a newline
abbrev pub newline : List ℕ
newline = 10 ∷ []

-- "refused "
abbrev pub refused : List ℕ
refused = 114 ∷ 101 ∷ 102 ∷ 117 ∷ 115 ∷ 101 ∷ 100 ∷ 32 ∷ []

-- "sector bytes ", "sectors ", "lanes ", "mended "
abbrev pub sector_bytes : List ℕ
sector_bytes = 115 ∷ 101 ∷ 99 ∷ 116 ∷ 111 ∷ 114 ∷ 32 ∷ 98 ∷ 121 ∷ 116 ∷ 101 ∷ 115 ∷ 32 ∷ []

abbrev pub sectors : List ℕ
sectors = 115 ∷ 101 ∷ 99 ∷ 116 ∷ 111 ∷ 114 ∷ 115 ∷ 32 ∷ []

abbrev pub lanes : List ℕ
lanes = 108 ∷ 97 ∷ 110 ∷ 101 ∷ 115 ∷ 32 ∷ []

abbrev pub mended_word : List ℕ
mended_word = 109 ∷ 101 ∷ 110 ∷ 100 ∷ 101 ∷ 100 ∷ 32 ∷ []

-- "lane ", " free ", " next ", "opened"
abbrev pub lane : List ℕ
lane = 108 ∷ 97 ∷ 110 ∷ 101 ∷ 32 ∷ []

abbrev pub free : List ℕ
free = 32 ∷ 102 ∷ 114 ∷ 101 ∷ 101 ∷ 32 ∷ []

abbrev pub next : List ℕ
next = 32 ∷ 110 ∷ 101 ∷ 120 ∷ 116 ∷ 32 ∷ []

abbrev pub opened : List ℕ
opened = 111 ∷ 112 ∷ 101 ∷ 110 ∷ 101 ∷ 100 ∷ []

-- refused N
unfoldable pub refused_text : ℕ → List ℕ
refused_text n = refused ++ (decimal n ++ newline)

-- the four lines before the lanes
unfoldable pub head_text : ℕ → ℕ → ℕ → ℕ → List ℕ
head_text size sectors' lanes' mended =
    sector_bytes ++ (decimal size ++ (newline ++ (sectors ++ (decimal sectors' ++ (newline
    ++ (lanes ++ (decimal lanes' ++ (newline ++ (mended_word ++ (decimal mended ++ newline))))))))))

-- lane L free B next Q
unfoldable pub lane_text : ℕ → Lane → List ℕ
lane_text l r = lane ++ (decimal l ++ (free ++ (decimal r.block.0 ++ (next ++ (decimal r.sequence.0 ++ newline)))))

-- the lines of the lanes below n
unfoldable pub lanes_text : List Lane → ℕ → List ℕ
lanes_text rs zero = []
lanes_text rs (suc l) = lanes_text rs l ++ lane_text l (lane_at rs l)

-- the report on an opened arena
unfoldable pub opened_text : Handle → ℕ → List ℕ
opened_text h mended =
    head_text h.figures.size h.figures.sectors h.figures.lanes mended
    ++ (lanes_text h.table h.figures.lanes ++ (opened ++ newline))
