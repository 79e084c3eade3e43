-- The text of a replay, in ASCII codes.
use Rattle.std.specs.Prelude.{Bool, cond, List, [], ◌∷◌, ◌++◌, ℕ, suc, eqb}
use Rattle.text.specs.Text.{decimal, newline, refused_text}

-- " ", "ok", "stopped 20 at "
abbrev pub space : List ℕ
space = 32 ∷ []

abbrev pub ok : List ℕ
ok = 111 ∷ 107 ∷ []

abbrev pub stopped20_at : List ℕ
stopped20_at = 115 ∷ 116 ∷ 111 ∷ 112 ∷ 112 ∷ 101 ∷ 100 ∷ 32 ∷ 50 ∷ 48 ∷ 32 ∷ 97 ∷ 116 ∷ 32 ∷ []

-- N ok, or N refused R
unfoldable pub record_text : ℕ → ℕ → List ℕ
record_text n r = decimal n ++ (space ++ cond (eqb r 0) (ok ++ newline) (refused_text r))

-- the lines of the records from index n on
unfoldable pub records_text : ℕ → List ℕ → List ℕ
records_text n [] = []
records_text n (r ∷ rs) = record_text n r ++ records_text (suc n) rs

-- stopped 20 at B
unfoldable pub stopped_text : ℕ → List ℕ
stopped_text at = stopped20_at ++ (decimal at ++ newline)

-- the first opening's refusal, or a line for each record run and one for where it stopped
unfoldable pub replay_text : ℕ → List ℕ → Bool → ℕ → List ℕ
replay_text first numbers stopped at =
    cond (eqb first 0) (records_text 0 numbers ++ cond stopped (stopped_text at) []) (refused_text first)

-- the most records that are written: a log of 8,192 bytes has no more, each of 4 bytes or more
abbrev pub max_records : ℕ
max_records = 2048
