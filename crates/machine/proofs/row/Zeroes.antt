-- A made arena begins as a row of zeroes and reads zeroes: every map word is zero, so every sector holds zeroes.
use mathlib.Core.Path.{◌≡◌, sym, ap, ◌∙◌}
use mathlib.Core.List.{List}
use Prim.Native.Nat.{ℕ, ◌<◌}
use lib.ListN.{length, replicate}
use Rattle.words.specs.Bytes.{Small}
use Rattle.layout.specs.Figures.{fresh_figures}
use Rattle.layout.specs.Place.{layout_of}
use Rattle.layout.specs.declared.Figures.{Figures}
use Rattle.machine.specs.calls.Making.{Wanted, make_of}
use Rattle.machine.specs.claims.DemandTwo.{HasZeroes}
use Rattle.machine.specs.claims.Making.{FreshRoom, FreshArena}
use Rattle.machine.specs.calls.Reading.{read_of}
use Rattle.machine.specs.calls.History.{State, opened_from}
use Rattle.machine.specs.models.Row.{Sector, holds, first_row}
use Rattle.machine.proofs.opening.Opens.{opened_distance, opened_figures, opened_idle}
use Rattle.machine.proofs.making.Making.{made_small, map_words, making_claim}
use Rattle.machine.proofs.invariant.Held.{held_open, sectors_out}
use Rattle.machine.proofs.invariant.Histories.{HeldIn}
use Rattle.machine.proofs.row.Contents.{content_of, content_zero}
use Rattle.machine.proofs.row.Reads.{read_by, held_read, read_holds}
use Rattle.machine.proofs.row.Follows.{first_rep}
use Rattle.machine.specs.state.Handle.{laid_out}
use Rattle.layout.specs.Claims.{Distance}
use Rattle.layout.specs.Told.{alone}
use Rattle.machine.specs.calls.Opening.{Room}

module _ (d : ℕ) (w : Distance d) (o : Wanted) (a : List ℕ) (work : Room) (small : Small a) (first : Small o.first) (second : Small o.second) (e : (make_of o a).number ≡ 0)
    (room : FreshRoom o work) where
  made : FreshArena o a
  made = making_claim.made o a small first second e

  abbrev x : State
  x = opened_from (alone d) (make_of o a).arena work

  pub made_held : HeldIn (alone d) x
  made_held = held_open (alone d) (make_of o a).arena work (made_small o a small first second e) ((made.opens d w).number work room)

  pub made_figures : x.handle.figures ≡ fresh_figures o.size o.sectors o.lanes
  made_figures = opened_figures (alone d) (make_of o a).arena work ((made.opens d w).number work room) ∙ made.figures

  distance : x.handle.distance ≡ d
  distance = opened_distance (alone d) (make_of o a).arena work ((made.opens d w).number work room)

  sector-in : (s : ℕ) → s < o.sectors → s < (laid_out x.handle).E
  unfolding layout_of fresh_figures
  sector-in s u = rw made_figures u

  size_in : x.handle.figures.size ≡ o.size
  unfolding fresh_figures
  size_in = ap (λ (f : Figures). f.size) made_figures

  content : (s : ℕ) → s < o.sectors → content_of x.handle.distance x.handle.figures x.arena s ≡ holds (replicate o.size 0)
  content s u =
      content_zero x.handle.distance x.handle.figures x.arena s (rw (distance, made_figures ∙ sym made.figures, (made.opens d w).arena work) (map_words o a small first second e d w s u))
      ∙ ap (λ (n : ℕ). holds (replicate n 0)) size_in

  zero_row : (s : ℕ) → s < o.sectors → (first_row (opened_from (alone d) (make_of o a).arena work)).sector s ≡ holds (replicate o.size 0)
  zero_row s u =
      (first_rep (alone d) x made_held (opened_idle (alone d) (make_of o a).arena work ((made.opens d w).number work room))).sector s (sector-in s u) ∙ content s u

  zero_reads : (s : ℕ) → s < o.sectors → (buffer : List ℕ) → length buffer ≡ o.size
      → read_of (opened_from (alone d) (make_of o a).arena work).arena (opened_from (alone d) (make_of o a).arena work).handle s buffer
      ≡ record { number = 0; buffer = replicate o.size 0 }
  zero_reads s u buffer n =
      held_read (alone d) x.arena x.handle made_held s buffer
      ∙ ap (λ (c : Sector). read_by x.handle.figures c s buffer) (content s u)
      ∙ read_holds x.handle.figures (replicate o.size 0) s buffer (sectors_out x.handle.distance x.handle.figures s (sector-in s u)) (n ∙ sym size_in)

  pub has_zeroes : (s : ℕ) → s < o.sectors → HasZeroes o.size (opened_from (alone d) (make_of o a).arena work) s
  has_zeroes s u = record { row = zero_row s u; reads = zero_reads s u }
