-- The numbers of a handle by byte offset: the definitions by word number taken to bytes.
use mathlib.Core.Path.{refl}
use mathlib.Core.List.{List}
use Prim.Native.Nat.{ℕ}
use Rattle.words.proofs.Bytes.{word_at, long-at}
use Rattle.layout.specs.Figures.{figures_at}
use Rattle.handlebytes.specs.Bytes.{decode_handle}
use Rattle.handlebytes.specs.Claims.{HandleAt}

pub head_at : (b : List ℕ) → HandleAt b (decode_handle b)
unfolding decode_handle figures_at
head_at b =
    record {
      total = long-at b 0 0 refl;
      data_start = long-at b 2 8 refl;
      map-start = long-at b 4 16 refl;
      flog-start = long-at b 6 24 refl;
      copy-start = long-at b 8 32 refl;
      size = word_at b 10 40 refl;
      sectors = word_at b 11 44 refl;
      internal = word_at b 12 48 refl;
      blocks = word_at b 13 52 refl;
      lanes = word_at b 14 56 refl;
      layout = word_at b 15 60 refl;
    }
