-- Reading in a book: a sector whose write has stored its map word holds the write's bytes, and any other holds what it held in the first
-- arena.
use mathlib.Core.Path.{◌≡◌, sym, refl, ap, ◌∙◌}
use mathlib.Core.List.{List, Memᴰ}
use Prim.Native.Nat.{ℕ, ◌+◌, ◌<◌}
use native.Mathlib.Omega.{arith}
use Rattle.words.specs.Word.{word}
use Rattle.format.specs.MapWord.{mapped_to}
use Rattle.layout.specs.Place.{in_data, at}
use Rattle.machine.specs.state.Handle.{Handle}
use Rattle.machine.specs.state.Lane.{write_stores}
use Rattle.machine.specs.state.Flog.{map_word, free_of}
use Rattle.machine.specs.calls.Opening.{figures_in, layout_in}
use Rattle.machine.specs.calls.Reading.{read_of}
use Rattle.machine.specs.models.Row.{Sector, holds}
use Rattle.machine.specs.models.Book.{Entry, plan_in, kept}
use Rattle.machine.proofs.stores.Stores.{put_all_arena}
use Rattle.machine.proofs.stores.Kinds.{store_data, store_log}
use Rattle.machine.proofs.invariant.Held.{Held, sectors_in}
use Rattle.machine.proofs.row.Contents.{content_of, content_kept, content_mapped}
use Rattle.machine.proofs.row.Reads.{read_by, held_read, read_same}
use Rattle.machine.proofs.book.FirstArena.{FirstArena}
use Rattle.machine.proofs.book.Stores.{booked, BookOk, kept_here, kept_map, kept_data}
use Rattle.layout.specs.declared.Told.{Told}

module _ (τ : Told) where
  module _ (a : List ℕ) (bytes : ℕ → List ℕ) (x : FirstArena τ a) (b : List Entry) (o : BookOk τ a bytes b) where
    -- what the sectors hold once the book's stores are made
    content_old : (s : ℕ) → s < (layout_in τ a).E → ((e : Entry) → Memᴰ e b → e.sector ≡ s → e.tally < write_stores (layout_in τ a))
        → content_of τ.distance (figures_in a) (booked τ a bytes b) s ≡ content_of τ.distance (figures_in a) a s
    content_old s u n =
        content_kept τ.distance (figures_in a) x.ok x.whole a (booked τ a bytes b) x.arena
        (put_all_arena (layout_in τ a) x.ok (kept τ a bytes b) a x.arena) s (x.map_in s u) (kept_map τ a bytes x b o s u n) (kept_data τ a bytes x b o s u)

    -- a finished write has mapped its sector
    pub word_new : (e : Entry) → Memᴰ e b → e.tally ≡ write_stores (layout_in τ a)
        → map_word (layout_in τ a) (booked τ a bytes b) e.sector ≡ mapped_to (free_of (layout_in τ a) a e.lane)
    word_new e m t = rw (store_log (layout_in τ a) (plan_in τ a e) (bytes e.lane) ((layout_in τ a).W + 4) 4 refl) at
        (kept_here τ a bytes x b o e m ((layout_in τ a).W + 4) (omega arith))

    content_new : (e : Entry) → Memᴰ e b → e.tally ≡ write_stores (layout_in τ a)
        → content_of τ.distance (figures_in a) (booked τ a bytes b) e.sector ≡ holds (bytes e.lane)
    content_new e m t =
        let g = layout_in τ a in
        let p = o.each e m in
        content_mapped τ.distance (figures_in a) x.ok x.whole (booked τ a bytes b) (put_all_arena g x.ok (kept τ a bytes b) a x.arena)
        e.sector (free_of g a e.lane) (x.free_in e.lane p.lane_in) (word_new e m t) (bytes e.lane) (p.small (omega arith))
        (p.size (omega arith)) filled
      where
        filled : (k : ℕ) → k < (layout_in τ a).W → k < (layout_in τ a).W
            → word (booked τ a bytes b) (at (layout_in τ a) (in_data (free_of (layout_in τ a) a e.lane) k)) ≡ word (bytes e.lane) k
        filled k u _ = rw (store_data (layout_in τ a) (plan_in τ a e) (bytes e.lane) k u) at (kept_here τ a bytes x b o e m k (omega arith))

    module _ (A : List ℕ) (h : Handle) (k : Held τ A h) (f : h.figures ≡ figures_in a) (is : A ≡ booked τ a bytes b)
        (s : ℕ) (buffer : List ℕ) where
      pub read_old : (h₁ : Handle) → Held τ a h₁ → ((e : Entry) → Memᴰ e b → e.sector ≡ s → e.tally < write_stores (layout_in τ a))
          → read_of A h s buffer ≡ read_of a h₁ s buffer
      read_old h₁ k₁ n =
          read_same τ a A h₁ h k₁ k (sym k.good.distance ∙ k₁.good.distance) (f ∙ k₁.good.figures) s buffer
          (λ u. rw (is, ← k₁.good.distance, ← k₁.good.figures) (content_old s (sectors_in τ.distance (figures_in a) s (rw (← k₁.good.figures) at u)) n))

      pub read_new : (e : Entry) → Memᴰ e b → e.tally ≡ write_stores (layout_in τ a) → e.sector ≡ s
          → read_of A h s buffer ≡ read_by (figures_in a) (holds (bytes e.lane)) s buffer
      read_new e m t p =
          held_read τ A h k s buffer
          ∙ rw (← k.good.distance, f) (ap (λ (c : Sector). read_by (figures_in a) c s buffer) (rw (is, ← p) (content_new e m t)))
