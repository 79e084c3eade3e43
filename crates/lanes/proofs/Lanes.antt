-- Where a lane's words and a sector's word stand in an arena that fits, and what the newer half's record tells of a lane.
use mathlib.Core.Path.{◌≡◌, refl, ap, ap₂, ◌∙◌}
use mathlib.Core.Bool.{false, and-true, and-false}
use mathlib.Core.List.{List}
use Prim.Native.Nat.{ℕ, ◌+◌, ◌*◌, ◌/◌, ◌≤◌, ◌<◌}
use native.Mathlib.Omega.{arith}
use lib.Dec.{ltb}
use lib.ListN.{length}
use borrow.Author.Tests.{lt-ltb, le-ltb}
use Rattle.words.specs.Word.{word}
use Rattle.words.specs.Bytes.{Small}
use Rattle.format.specs.Sequence.{newer, half_number}
use Rattle.format.specs.declared.sequence.HalfNo.{HalfNo}
use Rattle.format.specs.declared.sequence.HalfNo.TheVariants.{First, Second}
use Rattle.format.specs.contracts.sequence.HalfNo.{the_type}
use denote.Enum.Declared.{tag_of}
use Rattle.std.specs.Prelude.{Option, Some, None, IsSome}
use Rattle.format.specs.Flog.{newer_of_pair, half_at}
use Rattle.layout.specs.Place.{Layout, layout_of, in_flog, at, lane_word_at}
use Rattle.layout.specs.declared.Figures.{Figures}
use Rattle.format.specs.declared.flog.Half.{Half}
use Rattle.layout.proofs.Place.{at_inside}
use Rattle.machine.specs.state.Flog.{newer_half, newer_word, newer_flog}
use Rattle.machine.specs.calls.Opening.{lane_readable}
use Rattle.machine.specs.words.Valid.{Readable}
use Rattle.machine.proofs.stores.Stores.{Arena}
use Rattle.machine.proofs.opening.Mends.{readable_of}
use Rattle.machine.proofs.opening.Opens.{lanes_pass}
use Rattle.layout.specs.Fit.{Fit}
use Rattle.lanes.specs.Fit.{MapFit, LaneFit, AllFit}

-- figures that fit leave the map inside the arena
pub map_fit : (d : ℕ) (f : Figures) (n : ℕ) → Fit d f n → MapFit f n
unfolding layout_of
map_fit d f n t = record { inside = omega (arith, t.ok.flog_after, t.ok.copy_after, t.room) }

-- bytes that the figures fit are an arena
pub fit_arena : (d : ℕ) (f : Figures) (a : List ℕ) → Fit d f (length a) → Small a → Arena (layout_of d f) a
fit_arena d f a t small = record { bytes = record { words = t.whole; small = small }; long = omega (arith, t.room) }

pub half_inside : (d : ℕ) (f : Figures) (n : ℕ) → Fit d f n → (l h : ℕ) → l < f.lanes → h < 2
    → 4 * (at (layout_of d f) (in_flog l h 0) + 4) ≤ n
unfolding layout_of
half_inside d f n t l h p q = omega (arith, (at_inside (layout_of d f) t.ok (in_flog l h 3) (p, q, omega arith)).1, t.room)

-- the pair that starts at a lane's first word is the lane's, and lies inside the arena
pub pair_inside : (d : ℕ) (f : Figures) (n : ℕ) → Fit d f n → (l : ℕ) → l < f.lanes
    → 4 * (at (layout_of d f) (in_flog l 0 0) + (d / 4 + 4)) ≤ n
unfolding layout_of
pair_inside d f n t l p = omega (arith, half_inside d f n t l 1 p (omega arith))

pub pair_newer : (d : ℕ) (f : Figures) (a : List ℕ) (l : ℕ)
    → newer_of_pair a (at (layout_of d f) (in_flog l 0 0)) (d / 4) ≡ newer_half (layout_of d f) a l
unfolding layout_of newer_of_pair newer_half
pair_newer d f a l = ap₂ (λ (x : ℕ) (y : ℕ). newer (word a x) (word a y)) (omega arith) (omega arith)

-- each word of a lane lies inside the arena
pub lane_inside : (d : ℕ) (f : Figures) (n : ℕ) → Fit d f n → (l k : ℕ) → l < f.lanes → k < 16 → 4 * lane_word_at (layout_of d f) l k + 4 ≤ n
unfolding layout_of
lane_inside d f n t l k p q = omega (arith, t.ok.copy_after, t.room)

-- the newer half's words, one by one
pub newer_words : (g : Layout) (a : List ℕ) (l : ℕ) → newer_flog g a l ≡ record {
  sector = record { 0 = newer_word g a l 0 };
  old = record { 0 = newer_word g a l 1 };
  new = record { 0 = newer_word g a l 2 };
  sequence = record { 0 = newer_word g a l 3 };
}
unfolding newer_flog half_at
newer_words g a l =
    let h = newer_half g a l in
    let e1 : at g (in_flog l h 0) + 1 ≡ at g (in_flog l h 1) = omega arith in
    let e2 : at g (in_flog l h 0) + 2 ≡ at g (in_flog l h 2) = omega arith in
    let e3 : at g (in_flog l h 0) + 3 ≡ at g (in_flog l h 3) = omega arith in
    rw (e1, e2, e3)

-- the number that a half is cast to
pub half_tag : (h : HalfNo) → tag_of the_type h ≡ half_number (Some h)
half_tag First = refl
half_tag Second = refl

pub half_below : (h : HalfNo) → half_number (Some h) < 2
half_below First = omega arith
half_below Second = omega arith

-- some half is the newer where the number says so
pub some_newer : (h : Option HalfNo) (n : ℕ) → half_number h ≡ n → n < 2 → IsSome h
some_newer (Some h) n e p = refl
some_newer None n e p = absurd (omega arith)

-- the words of the half that is the newer
pub newer_is : (g : Layout) (a : List ℕ) (l k : ℕ) (h : Half) → h ≡ half_at a (at g (in_flog l k 0)) → k ≡ newer_half g a l → h ≡ newer_flog g a l
unfolding newer_flog
newer_is g a l k h e n = e ∙ ap (λ (x : ℕ). half_at a (at g (in_flog l x 0))) n

-- of a lane whose newer half is h
module _ (d : ℕ) (f : Figures) (a : List ℕ) (l : ℕ) (h : Half) (e : h ≡ newer_flog (layout_of d f) a l) where
  pub sector_is : h.sector.0 ≡ newer_word (layout_of d f) a l 0
  sector_is = ap (λ (x : Half). x.sector.0) (e ∙ newer_words (layout_of d f) a l)

  pub old_is : h.old.0 ≡ newer_word (layout_of d f) a l 1
  old_is = ap (λ (x : Half). x.old.0) (e ∙ newer_words (layout_of d f) a l)

  pub new_is : h.new.0 ≡ newer_word (layout_of d f) a l 2
  new_is = ap (λ (x : Half). x.new.0) (e ∙ newer_words (layout_of d f) a l)

  pub sequence_is : h.sequence.0 ≡ newer_word (layout_of d f) a l 3
  sequence_is = ap (λ (x : Half). x.sequence.0) (e ∙ newer_words (layout_of d f) a l)

  pub far_sector : f.sectors ≤ h.sector.0 → lane_readable (layout_of d f) a l ≡ false
  unfolding lane_readable layout_of
  far_sector p = simp (le-ltb _ _ (rw sector_is at p), and-false)

  pub far_old : f.blocks ≤ h.old.0 → lane_readable (layout_of d f) a l ≡ false
  unfolding lane_readable layout_of
  far_old p = simp (le-ltb _ _ (rw old_is at p), and-false)

  pub all_but_new : newer_half (layout_of d f) a l < 2 → h.sector.0 < f.sectors → h.old.0 < f.blocks
      → lane_readable (layout_of d f) a l ≡ ltb h.new.0 f.blocks
  unfolding lane_readable layout_of
  all_but_new p q r = simp (lt-ltb _ _ p, lt-ltb _ _ (rw sector_is at q), lt-ltb _ _ (rw old_is at r), new_is, and-true)

pub no_newer : (g : Layout) (a : List ℕ) (l : ℕ) → 2 ≤ newer_half g a l → lane_readable g a l ≡ false
unfolding lane_readable
no_newer g a l h = rw (le-ltb (newer_half g a l) 2 h)

module _ (d : ℕ) (f : Figures) (a : List ℕ) (l : ℕ) (fit : LaneFit d f a l) where
  pub reads : Readable (layout_of d f) a l
  reads = readable_of (layout_of d f) a l fit.readable

-- a lane of an arena that rule 6 lets pass
pub lane_fit : (d : ℕ) (f : Figures) (a : List ℕ) → AllFit d f a → (l : ℕ) → l < f.lanes → LaneFit d f a l
unfolding layout_of
lane_fit d f a t l h = record { fit = t.fit; lane = h; readable = lanes_pass (layout_of d f) a t.lanes l h }
