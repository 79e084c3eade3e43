-- A handle as a host holds it: 64 bytes, here by word number. Slice length 0, starts of data, map, flog and copy 2, 4, 6 and 8,
-- S 10, E 11, internal size 12, blocks 13, lanes 14, the layout 15. A lane's record is seven words.
use Rattle.std.specs.Prelude.{List, [], ◌∷◌, ◌++◌, ℕ, replicate}
use Rattle.words.specs.Word.{word, long, put_words}
use Rattle.infoblock.specs.Info.{split}
use Rattle.layout.specs.Figures.{figures_at}
use Rattle.layout.specs.declared.Figures.{Figures}
use Rattle.machine.specs.declared.lane.Lane.{Lane}
use Rattle.machine.specs.declared.handle.Handle.{Handle}

-- the bytes of a handle
abbrev pub handle_bytes : ℕ
handle_bytes = 64

abbrev pub decode_figures : List ℕ → Figures
decode_figures b = figures_at b 10 2

unfoldable pub decode_handle : List ℕ → Handle
decode_handle b = record { length = long b 0; distance = word b 15; figures = decode_figures b }

-- the words of a record: busy, block, half, sequence, sector, old, stores made
unfoldable pub record_words : Lane → List ℕ
record_words r = r.busy ∷ r.block.0 ∷ r.half ∷ r.sequence.0 ∷ r.sector.0 ∷ r.old.0 ∷ r.made ∷ []

-- the length and the four starts, then the other figures and the layout
unfoldable pub start_words : ℕ → Figures → List ℕ
start_words total f = split total (split f.dataoff (split f.mapoff (split f.flogoff (split f.copyoff []))))

unfoldable pub figure_words : Figures → ℕ → List ℕ
figure_words f d = f.size ∷ f.sectors ∷ f.internal ∷ f.blocks ∷ f.lanes ∷ d ∷ []

unfoldable pub handle_words : Handle → List ℕ
handle_words h = start_words h.length h.figures ++ figure_words h.figures h.distance

-- the bytes of a handle
unfoldable pub encode_handle : Handle → List ℕ
encode_handle h = put_words (replicate handle_bytes 0) 0 (handle_words h)
