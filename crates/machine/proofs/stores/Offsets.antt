-- Places of the map and the flog in bytes, by the machine's own names for them.
use mathlib.Core.Path.{◌≡◌}
use mathlib.Core.List.{List}
use Prim.Native.Nat.{ℕ, ◌*◌}
use Rattle.words.specs.Bytes.{byte_word}
use Rattle.words.proofs.Bytes.{word_at}
use Rattle.layout.specs.Figures.{Allowed}
use Rattle.layout.specs.Place.{layout_of, at, in_map, in_flog}
use Rattle.layout.specs.Told.{DistanceOk}
use Rattle.layout.specs.declared.Figures.{Figures}
use Rattle.layout.proofs.Offsets.{map-start, flog-start}
use Rattle.machine.specs.state.Flog.{map_word}
use Rattle.machine.specs.words.InBytes.{flog_byte, map_byte}

module _ (d : ℕ) (f : Figures) (n : ℕ) (ok : Allowed f n) where
  pub flog-byte : DistanceOk d → (l h k : ℕ) → 4 * at (layout_of d f) (in_flog l h k) ≡ flog_byte d f l h k
  flog-byte o = flog-start d f n ok o.words

  pub map-word : (a : List ℕ) (s : ℕ) → map_word (layout_of d f) a s ≡ byte_word a (map_byte f s)
  map-word a s = word_at a (at (layout_of d f) (in_map s)) (map_byte f s) (map-start d f n ok s)
