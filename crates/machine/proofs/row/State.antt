-- An arena and its latest handle against the row that keeps its writes word by word: each lane of the row is what the lane's record
-- says, each sector what its map word says, and the new block of a write in flight has the words that the row keeps.
use mathlib.Core.Path.{◌≡◌, ◌∙◌}
use mathlib.Core.List.{List}
use mathlib.Core.Bool.{true, cond}
use Prim.Native.Nat.{ℕ, ◌*◌, ◌≤◌, ◌<◌}
use lib.ListN.{length}
use Rattle.words.specs.Bytes.{Small}
use Rattle.layout.specs.Place.{layout_of}
use Rattle.layout.specs.declared.Figures.{Figures}
use Rattle.machine.specs.declared.lane.Lane.{Lane}
use Rattle.machine.specs.state.Handle.{Handle, lane_at, laid_out}
use Rattle.machine.specs.models.Row.{Flight, idle, flying, Row}
use Rattle.machine.proofs.invariant.Held.{Held}
use Rattle.machine.proofs.row.Contents.{content_of, Filled}
use Rattle.machine.specs.state.Lane.{is_busy}
use Rattle.layout.specs.declared.Told.{Told}

-- a lane of the row by its record, and by the bytes of its write
abbrev pub flight_of : Lane → List ℕ → Flight
flight_of r bytes = cond (is_busy r) (flying r.sector.0 r.made bytes) idle

-- the bytes of a write in flight: its data words so far, which are in the new block
pub record Lent (d : ℕ) (f : Figures) (a : List ℕ) (r : Lane) (bytes : List ℕ) : Type 0 where
  pub small : Small bytes
  pub part : r.made ≤ (layout_of d f).W → length bytes ≡ 4 * r.made
  pub full : (layout_of d f).W ≤ r.made → length bytes ≡ f.size
  pub words : Filled (layout_of d f) a r.block.0 bytes r.made

pub record LaneAs (d : ℕ) (f : Figures) (a : List ℕ) (r : Lane) (y : Flight) : Type 0 where
  pub bytes : List ℕ
  pub is : y ≡ flight_of r bytes
  pub lent : is_busy r ≡ true → Lent d f a r bytes

module _ (τ : Told) where
  pub record Rep (row : Row) (a : List ℕ) (h : Handle) : Type 0 where
    pub held : Held τ a h
    pub lane : (l : ℕ) → l < (laid_out h).N → LaneAs h.distance h.figures a (lane_at h.table l) (row.lane l)
    pub sector : (s : ℕ) → s < (laid_out h).E → row.sector s ≡ content_of h.distance h.figures a s

module _ (τ : Told) where
  -- what is said of a row is said of its lanes and sectors one by one
  pub rep_same : (row row' : Row) (a : List ℕ) (h : Handle) → ((l : ℕ) → l < (laid_out h).N → row'.lane l ≡ row.lane l)
      → ((s : ℕ) → s < (laid_out h).E → row'.sector s ≡ row.sector s) → Rep τ row a h → Rep τ row' a h
  rep_same row row' a h el es k = record {
    held = k.held;
    lane = λ l u. let w = k.lane l u in record { bytes = w.bytes; is = el l u ∙ w.is; lent = w.lent };
    sector = λ s u. es s u ∙ k.sector s u;
  }
