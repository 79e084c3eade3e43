-- The figures of an arena ("the lie of an arena" in document 01), which of them are allowed, and those that making works out.
use Rattle.std.specs.Prelude.{◌≡◌, Bool, ◌&&◌, List, [], ◌∷◌, ℕ, ◌+◌, ◌*◌, ◌/◌, ◌%◌, ◌≤◌, eqb, leb}
use Rattle.words.specs.Word.{word, long}
use Rattle.format.specs.Tests.{all_of}
use Rattle.layout.specs.Sizes.{internal_of, size_allowed, SizePair}
use Rattle.layout.specs.declared.Figures.{Figures}

-- the most lanes that an arena has
abbrev pub max_lanes : ℕ
max_lanes = 256

-- rule 1: a multiple of 4,096 from 20,480 to 16,777,216
abbrev pub length_allowed : ℕ → Bool
length_allowed n = eqb (n % 4096) 0 && (leb 20480 n && leb n 16777216)

-- E and lanes
abbrev pub counts_allowed : ℕ → ℕ → Bool
counts_allowed sectors lanes = all_of (leb lanes sectors ∷ leb 1 lanes ∷ leb lanes max_lanes ∷ [])

-- S, E and lanes, as making judges them
abbrev pub sizes_allowed : ℕ → ℕ → ℕ → Bool
sizes_allowed size sectors lanes = size_allowed size && counts_allowed sectors lanes

-- the four starts are multiples of 4,096
abbrev pub starts_aligned : Figures → Bool
starts_aligned f = all_of (eqb (f.dataoff % 4096) 0 ∷ eqb (f.mapoff % 4096) 0 ∷ eqb (f.flogoff % 4096) 0 ∷ eqb (f.copyoff % 4096) 0 ∷ [])

-- data starts at 4,096 or later, each part ends at or before the next start, the copy starts at length - 4,096; nothing wraps
abbrev pub parts_in_order : Figures → ℕ → Bool
parts_in_order f length = all_of (
    leb 4096 f.dataoff ∷ leb (f.dataoff + f.blocks * f.internal) f.mapoff ∷ leb (f.mapoff + 4 * f.sectors) f.flogoff
    ∷ leb (f.flogoff + 64 * f.lanes) f.copyoff ∷ eqb (f.copyoff + 4096) length ∷ [])

-- every figure that an info block and a handle share is allowed, for an arena of that length
unfoldable pub figures_allowed : Figures → ℕ → Bool
figures_allowed f length =
    sizes_allowed f.size f.sectors f.lanes
    && (eqb f.internal (internal_of f.size) && (eqb f.blocks (f.sectors + f.lanes) && (starts_aligned f && parts_in_order f length)))

-- the same as a proposition, row by row of the table
pub record Allowed (f : Figures) (length : ℕ) : Type 0 where
  pub sizes : SizePair f.size f.internal
  pub sectors : f.lanes ≤ f.sectors
  pub blocks : f.blocks ≡ f.sectors + f.lanes
  pub some_lane : 1 ≤ f.lanes
  pub few_lanes : f.lanes ≤ 256
  pub data_aligned : f.dataoff % 4096 ≡ 0
  pub map_aligned : f.mapoff % 4096 ≡ 0
  pub flog_aligned : f.flogoff % 4096 ≡ 0
  pub copy_aligned : f.copyoff % 4096 ≡ 0
  pub data_start : 4096 ≤ f.dataoff
  pub data-end : f.dataoff + f.blocks * f.internal ≤ f.mapoff
  pub map_end : f.mapoff + 4 * f.sectors ≤ f.flogoff
  pub flog_end : f.flogoff + 64 * f.lanes ≤ f.copyoff
  pub copy-start : f.copyoff + 4096 ≡ length

-- the least multiple of 4,096 that is n or more
abbrev pub round_up : ℕ → ℕ
round_up n = (n + 4095) / 4096 * 4096

-- making: data at 4,096, and each next part at the least multiple of 4,096 that fits
abbrev pub map_start : ℕ → ℕ → ℕ → ℕ
map_start size sectors lanes = round_up (4096 + (sectors + lanes) * internal_of size)

abbrev pub flog_start : ℕ → ℕ → ℕ → ℕ
flog_start size sectors lanes = round_up (map_start size sectors lanes + 4 * sectors)

abbrev pub copy_start : ℕ → ℕ → ℕ → ℕ
copy_start size sectors lanes = round_up (flog_start size sectors lanes + 64 * lanes)

-- the length that making works out
unfoldable pub fresh_length : ℕ → ℕ → ℕ → ℕ
fresh_length size sectors lanes = copy_start size sectors lanes + 4096

unfoldable pub fresh_figures : ℕ → ℕ → ℕ → Figures
fresh_figures size sectors lanes = record {
  size = size;
  sectors = sectors;
  internal = internal_of size;
  blocks = sectors + lanes;
  lanes = lanes;
  dataoff = 4096;
  mapoff = map_start size sectors lanes;
  flogoff = flog_start size sectors lanes;
  copyoff = copy_start size sectors lanes;
}

-- figures as they lie in bytes: five from word i on, and the four starts from word j on
unfoldable pub figures_at : List ℕ → ℕ → ℕ → Figures
figures_at b i j = record {
  size = word b i;
  sectors = word b (i + 1);
  internal = word b (i + 2);
  blocks = word b (i + 3);
  lanes = word b (i + 4);
  dataoff = long b j;
  mapoff = long b (j + 2);
  flogoff = long b (j + 4);
  copyoff = long b (j + 6);
}
