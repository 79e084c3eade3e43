-- A read through a good handle goes by what the sector holds and by the handle's figures alone: rules 16, 21, 7 and 18 never apply.
use mathlib.Core.Path.{◌≡◌, sym, ap, ◌∙◌}
use mathlib.Core.List.{List}
use Prim.Native.Nat.{ℕ, ◌<◌}
use lib.Dec.{eqb, leb}
use lib.ListN.{length, replicate, length-replicate}
use borrow.Author.Tests.{leb-false, lt-leb, eq-eqb}
use Rattle.format.specs.MapWord.{flags_of, reading_of}
use Rattle.format.proofs.Tests.{by_bool}
use Rattle.layout.specs.declared.Figures.{Figures}
use Rattle.machine.specs.Rules.{answer}
use Rattle.machine.specs.calls.Judging.{call_number}
use Rattle.machine.specs.state.Handle.{Handle, laid_out}
use Rattle.layout.specs.declared.Told.{Told}
use Rattle.machine.specs.state.Flog.{map_word}
use Rattle.machine.specs.calls.Reading.{Read, read_of, block_bytes}
use Rattle.machine.specs.models.Row.{Sector, holds, bad, idle, row_number, row_read, found_sector}
use Rattle.machine.proofs.invariant.Held.{Held, held_allowed, held_short, held_records, held_word, held_clean}
use Rattle.machine.proofs.row.Contents.{content_of}

-- a read of a sector that holds c
abbrev pub read_by : Figures → Sector → ℕ → List ℕ → Read
read_by f c s buffer = row_read f (record { sector = λ t. c; lane = λ l. idle }) s buffer

-- bytes are read into a buffer of S bytes
pub read_holds : (f : Figures) (bytes : List ℕ) (s : ℕ) (buffer : List ℕ) → s < f.sectors → length buffer ≡ f.size
    → read_by f (holds bytes) s buffer ≡ record { number = 0; buffer = bytes }
unfolding row_read row_number answer
read_holds f bytes s buffer u size = rw (lt-leb f.sectors s u, eq-eqb (length buffer) f.size size)

-- a bad sector is refused, and the buffer left
pub read_bad : (f : Figures) (s : ℕ) (buffer : List ℕ) → s < f.sectors → length buffer ≡ f.size
    → read_by f bad s buffer ≡ record { number = 15; buffer = buffer }
unfolding row_read row_number answer
read_bad f s buffer u size = rw (lt-leb f.sectors s u, eq-eqb (length buffer) f.size size)

-- a read into zeroes finds what the sector holds
pub read_found : (f : Figures) (c : Sector) (s : ℕ) → s < f.sectors → found_sector (read_by f c s (replicate f.size 0)) ≡ c
read_found f (holds bytes) s u = ap found_sector (read_holds f bytes s (replicate f.size 0) u (length-replicate f.size 0))
read_found f bad s u = ap found_sector (read_bad f s (replicate f.size 0) u (length-replicate f.size 0))

-- a sector past the last holds nothing
pub read_past : (f : Figures) (c d : Sector) (s : ℕ) (buffer : List ℕ) → (s < f.sectors → c ≡ d) → read_by f c s buffer ≡ read_by f d s buffer
unfolding row_read row_number answer
read_past f c d s buffer e = by_bool (leb f.sectors s) _ (λ t. rw t) (λ t. rw (e (leb-false _ _ t)))

module _ (τ : Told) where
  pub held_read : (a : List ℕ) (h : Handle) → Held τ a h → (s : ℕ) (buffer : List ℕ)
      → read_of a h s buffer ≡ read_by h.figures (content_of h.distance h.figures a s) s buffer
  unfolding read_of call_number answer row_read row_number content_of block_bytes
  held_read a h k s buffer =
      rw (held_allowed τ a h k, held_short τ a h k, held_records τ a h k) (by_bool (leb h.figures.sectors s) _ (λ t. rw t)
      (λ t. rw (t, held_word τ a h k s (leb-false _ _ t), held_clean τ a h k s (leb-false _ _ t))
      (by_bool (eqb (length buffer) h.figures.size) _
      (λ v. rw v (by_bool (eqb (reading_of (flags_of (map_word (laid_out h) a s))) 1) _ (λ w. rw w) (λ w. rw w))) (λ v. rw v))))

  -- two arenas in which the sector holds the same
  pub read_same : (a a' : List ℕ) (h h' : Handle) → Held τ a h → Held τ a' h' → h'.distance ≡ h.distance → h'.figures ≡ h.figures → (s : ℕ) (buffer : List ℕ)
      → (s < h.figures.sectors → content_of h.distance h.figures a' s ≡ content_of h.distance h.figures a s) → read_of a' h' s buffer ≡ read_of a h s buffer
  read_same a a' h h' k k' q f s buffer e =
      held_read a' h' k' s buffer ∙ rw (q, f) (read_past h.figures _ _ s buffer e) ∙ sym (held_read a h k s buffer)
