-- The figures of an arena said a second time: in bytes, by inequalities, and row by row of document 01's table.
use Rattle.std.specs.Prelude.{◌≡◌, ◌⊎◌, true, List, ℕ, ◌+◌, ◌*◌, ◌/◌, ◌%◌, ◌≤◌, ◌<◌}
use Rattle.words.specs.Bytes.{byte_word, byte_long}
use Rattle.layout.specs.Figures.{
  length_allowed,
  sizes_allowed,
  figures_allowed,
  Allowed,
  round_up,
  fresh_length,
  fresh_figures,
  figures_at,
}
use Rattle.layout.specs.Sizes.{internal_of, size_allowed, SizePair}
use Rattle.layout.specs.Place.{layout_of, at, in_data, in_map, in_flog, lane_word_at, is_padding}
use Rattle.layout.specs.Told.{distance_allowed, alone, alone_near, DistanceOk}
use Rattle.layout.specs.declared.Figures.{Figures}

-- FORMAT 2.2: a multiple of 4,096, from 20,480 to 16,777,216
pub record Length (n : ℕ) : Type 0 where
  pub multiple : n % 4096 ≡ 0
  pub least : 20480 ≤ n
  pub most : n ≤ 16777216

-- FORMAT 3.1: the figures that making is asked for
pub record Sizes (S E N : ℕ) : Type 0 where
  pub size : (Z : ℕ) × SizePair S Z
  pub sectors : N ≤ E
  pub some_lane : 1 ≤ N
  pub few_lanes : N ≤ 256

-- m is the least multiple of u that is n or more
pub record LeastMultiple (u n m : ℕ) : Type 0 where
  pub multiple : m % u ≡ 0
  pub enough : n ≤ m
  pub least : m < n + u

-- FORMAT 6: the figures that making works out, with the arena's length: each part at the least multiple of 4,096 that fits; blocks have the
-- internal size
pub record FreshLayout (S E N : ℕ) (f : Figures) (length : ℕ) : Type 0 where
  pub size : f.size ≡ S
  pub sectors : f.sectors ≡ E
  pub internal : SizePair S f.internal
  pub blocks : f.blocks ≡ E + N
  pub lanes : f.lanes ≡ N
  pub data_start : f.dataoff ≡ 4096
  pub map-start : LeastMultiple 4096 (4096 + (E + N) * f.internal) f.mapoff
  pub flog-start : LeastMultiple 4096 (f.mapoff + 4 * E) f.flogoff
  pub copy-start : LeastMultiple 4096 (f.flogoff + 64 * N) f.copyoff
  pub end : length ≡ f.copyoff + 4096

-- FORMAT 5.1: the layouts, by the bytes from a lane's first half to its second
abbrev pub Distance : ℕ → Type 0
Distance d = (d ≡ 16) ⊎ (d ≡ 32)

-- byte j of a lane's 64 is in no half: the first half is 16 bytes from 0 on, the second 16 from d on
abbrev pub InPadding : ℕ → ℕ → Type 0
InPadding d j = (16 ≤ j) × ((j < d) ⊎ (d + 16 ≤ j))

-- byte j of the arena is in the rest of a block, past its sector's bytes
pub record InRest (f : Figures) (j : ℕ) : Type 0 where
  pub block : ℕ
  pub inside : block < f.blocks
  pub from : f.dataoff + block * f.internal + f.size ≤ j
  pub to : j < f.dataoff + block * f.internal + f.internal

-- where an arena with those figures has its words, in bytes, and how much of each there is; the halves of a lane start d bytes apart
pub record Places (d : ℕ) (f : Figures) : Type 0 where
  -- word k of block b
  pub in-data : (b k : ℕ) → 4 * at (layout_of d f) (in_data b k) ≡ f.dataoff + b * f.internal + 4 * k
  -- the map word of sector s
  pub in-map : (s : ℕ) → 4 * at (layout_of d f) (in_map s) ≡ f.mapoff + 4 * s
  -- word k of half h of lane l
  pub in-flog : (l h k : ℕ) → 4 * at (layout_of d f) (in_flog l h k) ≡ f.flogoff + 64 * l + d * h + 4 * k
  -- word k of the 16 of lane l
  pub in_lane : (l k : ℕ) → 4 * lane_word_at (layout_of d f) l k ≡ f.flogoff + 64 * l + 4 * k
  -- it is padding exactly if its first byte is
  pub padding : (k : ℕ) → is_padding (layout_of d f).D k ≡ true → InPadding d (4 * k)
  pub padding_back : (k : ℕ) → InPadding d (4 * k) → is_padding (layout_of d f).D k ≡ true
  -- the copy of the info block
  pub copy : 4 * (layout_of d f).copy₀ ≡ f.copyoff
  -- how many there are: bytes of a sector, sectors, lanes and blocks
  pub sector : 4 * (layout_of d f).W ≡ f.size
  pub sectors : (layout_of d f).E ≡ f.sectors
  pub lanes : (layout_of d f).N ≡ f.lanes
  pub blocks : (layout_of d f).I ≡ f.blocks

-- five figures from byte o on, and four starts from byte q on
pub record FiguresFrom (b : List ℕ) (o q : ℕ) (f : Figures) : Type 0 where
  pub size : f.size ≡ byte_word b o
  pub sectors : f.sectors ≡ byte_word b (o + 4)
  pub internal : f.internal ≡ byte_word b (o + 8)
  pub blocks : f.blocks ≡ byte_word b (o + 12)
  pub lanes : f.lanes ≡ byte_word b (o + 16)
  pub data_start : f.dataoff ≡ byte_long b q
  pub map-start : f.mapoff ≡ byte_long b (q + 8)
  pub flog-start : f.flogoff ≡ byte_long b (q + 16)
  pub copy-start : f.copyoff ≡ byte_long b (q + 24)

-- FORMAT 3.1: the sector sizes and the bytes of their blocks
pub record SizesClaim : Type 0 where
  -- the table has these five pairs and no other
  pub pairs : (S : ℕ) → size_allowed S ≡ true → SizePair S (internal_of S)
  pub pairs_back : (S Z : ℕ) → SizePair S Z → (size_allowed S ≡ true) × (internal_of S ≡ Z)
  -- its internal sizes are the sector sizes rounded up to a multiple of 64
  pub rounded : (S : ℕ) → size_allowed S ≡ true → LeastMultiple 64 S (internal_of S)

-- FORMAT 2.2, 3.1, 3.2 and 5.1: what the tests of the code let pass
pub record AllowedClaim : Type 0 where
  pub length : (n : ℕ) → length_allowed n ≡ true → Length n
  pub length_back : (n : ℕ) → Length n → length_allowed n ≡ true
  pub sizes : (S E N : ℕ) → sizes_allowed S E N ≡ true → Sizes S E N
  pub sizes_back : (S E N : ℕ) → Sizes S E N → sizes_allowed S E N ≡ true
  pub distance : (d : ℕ) → distance_allowed d ≡ true → Distance d
  pub distance_back : (d : ℕ) → Distance d → distance_allowed d ≡ true
  -- row by row of the table
  pub figures : (f : Figures) (n : ℕ) → figures_allowed f n ≡ true → Allowed f n
  pub figures_back : (f : Figures) (n : ℕ) → Allowed f n → figures_allowed f n ≡ true

-- FORMAT 6: what making works out
pub record FreshLayoutClaim : Type 0 where
  pub rounded : (n : ℕ) → LeastMultiple 4096 n (round_up n)
  pub made : (S E N : ℕ) → Sizes S E N → FreshLayout S E N (fresh_figures S E N) (fresh_length S E N)
  -- sizes that are allowed make figures that are
  pub allowed : (S E N : ℕ) → Sizes S E N → Allowed (fresh_figures S E N) (fresh_length S E N)

-- FORMAT 2.1 and 5.1: where the words of an arena stand
pub record PlacesClaim : Type 0 where
  pub places : (d : ℕ) → Distance d → (f : Figures) (n : ℕ) → Allowed f n → Places d f
  -- an arena opened by itself: no arena follows, and the layout is the one that is told; the report and a replay have 16
  pub by_itself : (d : ℕ) → ((alone d).next ≡ 0) × ((alone d).distance ≡ d)
  pub near_by_itself : (alone_near.next ≡ 0) × (alone_near.distance ≡ 16)
  -- byte j of a lane is padding exactly if its word is, whatever the distance between the halves
  pub padding_byte : (d j : ℕ) → DistanceOk d → is_padding (d / 4) (j / 4) ≡ true → InPadding d j
  pub padding_byte_back : (d j : ℕ) → DistanceOk d → InPadding d j → is_padding (d / 4) (j / 4) ≡ true
  -- in numbers: bytes 32 to 63 in the one layout, 16 to 31 and 48 to 63 in the other
  pub padding_16 : (j : ℕ) → j < 64 → InPadding 16 j → (32 ≤ j) × (j ≤ 63)
  pub padding_16_back : (j : ℕ) → (32 ≤ j) × (j ≤ 63) → InPadding 16 j
  pub padding_32 : (j : ℕ) → j < 64 → InPadding 32 j → ((16 ≤ j) × (j ≤ 31)) ⊎ ((48 ≤ j) × (j ≤ 63))
  pub padding_32_back : (j : ℕ) → ((16 ≤ j) × (j ≤ 31)) ⊎ ((48 ≤ j) × (j ≤ 63)) → InPadding 32 j
  pub figures : (b : List ℕ) (i j : ℕ) → FiguresFrom b (4 * i) (4 * j) (figures_at b i j)
