-- What a sector holds by its map word: bad, the bytes of its block, or zeroes. It depends on the map word and on the words of the
-- block alone, so a store anywhere else leaves it.
use mathlib.Core.Path.{◌≡◌, sym, ap, ◌∙◌}
use mathlib.Core.List.{List}
use mathlib.Core.Bool.{cond}
use Prim.Native.Nat.{ℕ, ◌+◌, ◌*◌, ◌≤◌, ◌<◌}
use native.Mathlib.Omega.{arith}
use native.Mathlib.Nat.{mul-le-mul_right}
use lib.Dec.{eqb}
use lib.ListN.{length, take, drop, replicate, length-drop}
use lib.Seq.{length-take-le}
use Rattle.words.specs.Word.{word}
use Rattle.words.proofs.Laws.{ext_word, word-take, word-drop}
use Rattle.words.specs.Bytes.{Small}
use Rattle.format.specs.MapWord.{flags_of, reading_of, block_of, mapped_to}
use Rattle.format.proofs.MapWord.{block_mapped, flags_mapped}
use Rattle.format.proofs.Below.{below_take, below_drop}
use Rattle.layout.specs.Place.{Layout, LayoutOk, layout_of, in_data, at}
use Rattle.layout.specs.declared.Figures.{Figures}
use Rattle.machine.specs.state.Flog.{map_word, map_block}
use Rattle.machine.specs.models.Row.{Sector, holds, bad}
use Rattle.machine.proofs.stores.Stores.{Arena}

-- the bytes of block b
abbrev pub bytes_of : ℕ → Figures → List ℕ → ℕ → List ℕ
bytes_of d f a b = take f.size (drop (4 * at (layout_of d f) (in_data b 0)) a)

-- a sector of which the map word is w
abbrev sector_by : ℕ → Figures → List ℕ → ℕ → ℕ → Sector
sector_by d f a s w =
    cond (eqb (reading_of (flags_of w)) 1) bad (holds (cond (eqb (reading_of (flags_of w)) 2) (bytes_of d f a (block_of s w)) (replicate f.size 0)))

unfoldable pub content_of : ℕ → Figures → List ℕ → ℕ → Sector
content_of d f a s = sector_by d f a s (map_word (layout_of d f) a s)

-- the first n words of block b are those of bytes
abbrev pub Filled : Layout → List ℕ → ℕ → List ℕ → ℕ → Type 0
Filled g a b bytes n = (k : ℕ) → k < n → k < g.W → word a (at g (in_data b k)) ≡ word bytes k

module _ (d : ℕ) (f : Figures) (ok : LayoutOk (layout_of d f)) (whole : f.size ≡ 4 * (layout_of d f).W) where
  abbrev g : Layout
  g = layout_of d f

  module _ (a : List ℕ) (r : Arena g a) (b : ℕ) (u : b < g.I) where
    room : f.size ≤ length (drop (4 * at g (in_data b 0)) a)
    room = rw length-drop (omega (arith, mul-le-mul_right g.Z u, ok.fits, ok.map_after, ok.flog_after, ok.copy_after, r.long))

    bytes-length : length (bytes_of d f a b) ≡ f.size
    bytes-length = length-take-le f.size (drop (4 * at g (in_data b 0)) a) room

    bytes_small : Small (bytes_of d f a b)
    bytes_small =
        let o = 4 * at g (in_data b 0) in
        below_take 256 f.size (drop o a) (omega arith) (below_drop 256 o a r.bytes.small)

    bytes_word : (k : ℕ) → k < g.W → word (bytes_of d f a b) k ≡ word a (at g (in_data b k))
    bytes_word k v =
        let e : at g (in_data b 0) + k ≡ at g (in_data b k) = omega arith in
        word-take (drop (4 * at g (in_data b 0)) a) f.size k (omega arith) ∙ word-drop a (at g (in_data b 0)) k ∙ ap (word a) e

    -- a block that is filled with bytes
    bytes_are : (bytes : List ℕ) → Small bytes → length bytes ≡ f.size → Filled g a b bytes g.W → bytes_of d f a b ≡ bytes
    bytes_are bytes small size w =
        ext_word (bytes_of d f a b) bytes (record { words = omega (arith, bytes-length); small = bytes_small })
        (record { words = omega arith; small = small }) (bytes-length ∙ sym size)
        (λ k v. let q : k < g.W = omega (arith, bytes-length) in bytes_word k q ∙ w k q q)

  -- a sector of which neither the map word nor the block changed
  pub content_kept : (a a' : List ℕ) → Arena g a → Arena g a' → (s : ℕ) → map_block g a s < g.I → map_word g a' s ≡ map_word g a s
      → ((k : ℕ) → k < g.W → word a' (at g (in_data (map_block g a s) k)) ≡ word a (at g (in_data (map_block g a s) k)))
      → content_of d f a' s ≡ content_of d f a s
  unfolding content_of
  content_kept a a' r r' s u m same = rw m
      (ap (λ (x : List ℕ). cond (eqb (reading_of (flags_of (map_word g a s))) 1) bad
      (holds (cond (eqb (reading_of (flags_of (map_word g a s))) 2) x (replicate f.size 0))))
      (bytes_are a' r' (map_block g a s) u (bytes_of d f a (map_block g a s)) (bytes_small a r (map_block g a s) u)
      (bytes-length a r (map_block g a s) u) (λ k v _. same k v ∙ sym (bytes_word a r (map_block g a s) u k v))))

  -- a sector that is mapped to a filled block
  pub content_mapped : (a : List ℕ) → Arena g a → (s b : ℕ) → b < g.I → map_word g a s ≡ mapped_to b
      → (bytes : List ℕ) → Small bytes → length bytes ≡ f.size → Filled g a b bytes g.W → content_of d f a s ≡ holds bytes
  unfolding content_of
  content_mapped a r s b u m bytes small size w =
      let c : b < 1073741824 = omega (arith, ok.small) in
      rw (m, flags_mapped b c, block_mapped s b c) (ap holds (bytes_are a r b u bytes small size w))

-- a sector of which the map word is zero
pub content_zero : (d : ℕ) (f : Figures) (a : List ℕ) (s : ℕ) → map_word (layout_of d f) a s ≡ 0 → content_of d f a s ≡ holds (replicate f.size 0)
unfolding content_of
content_zero d f a s e = rw e
