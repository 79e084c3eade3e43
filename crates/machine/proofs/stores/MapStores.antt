-- A store of a map word: no other sector's word and no log changes; and with flags 11 its sector stands for the block.
use mathlib.Core.Path.{◌≡◌, ap, ◌∙◌}
use mathlib.Core.Logic.{◌≢◌}
use mathlib.Core.List.{List}
use Prim.Native.Nat.{ℕ, ◌<◌}
use native.Mathlib.Omega.{arith}
use native.Mathlib.Decide.{ℕ_discrete}
use Rattle.layout.specs.Place.{Layout, LayoutOk, in_map, in_flog}
use Rattle.format.specs.MapWord.{block_of, mapped_to}
use Rattle.format.proofs.Tests.{true_false}
use Rattle.format.proofs.MapWord.{block_mapped}
use Rattle.machine.specs.state.Stores.{Store, stored}
use Rattle.machine.specs.state.Flog.{map_word, map_block, flog_word}
use Rattle.machine.proofs.stores.Stores.{Fits, Arena, stored-word, elsewhere}

-- the store of map word w for sector s, and the one that maps s to block b
abbrev pub word_store : ℕ → ℕ → Store
word_store s w = record { place = in_map s; value = w }

abbrev pub map_store : ℕ → ℕ → Store
map_store s b = word_store s (mapped_to b)

-- any word
module _ (g : Layout) (ok : LayoutOk g) (a : List ℕ) (s w : ℕ) (si : s < g.E) where
  pub word_flog : (j x k : ℕ) → j < g.N → x < 2 → k < 4 → flog_word g (stored g (word_store s w) a) j x k ≡ flog_word g a j x k
  word_flog j x k v c d = elsewhere g ok a (in_map s) (in_flog j x k) w si (v, c, d) (λ e. true_false (cc))

  pub word_other : (t : ℕ) → t < g.E → t ≢ s → map_word g (stored g (word_store s w) a) t ≡ map_word g a t
  word_other t v n = elsewhere g ok a (in_map s) (in_map t) w si v (λ e. n (cc))

  pub word_here : Arena g a → w < 4294967296 → map_word g (stored g (word_store s w) a) s ≡ w
  word_here r small = stored-word g ok a (word_store s w) r (record { range = si; small = small })

-- a word with flags 11
module _ (g : Layout) (ok : LayoutOk g) (a : List ℕ) (r : Arena g a) (s b : ℕ) (si : s < g.E) (bi : b < g.I) where
  pub map_fits : Fits g (map_store s b)
  map_fits = record { range = si; small = omega (arith, ok.small) }

  pub map_flog : (j x k : ℕ) → j < g.N → x < 2 → k < 4 → flog_word g (stored g (map_store s b) a) j x k ≡ flog_word g a j x k
  map_flog = word_flog g ok a s (mapped_to b) si

  pub map_other : (t : ℕ) → t < g.E → t ≢ s → map_block g (stored g (map_store s b) a) t ≡ map_block g a t
  map_other t v n = ap (block_of t) (word_other g ok a s (mapped_to b) si t v n)

  pub map_here : map_block g (stored g (map_store s b) a) s ≡ b
  map_here = ap (block_of s) (word_here g ok a s (mapped_to b) si r map_fits.small) ∙ block_mapped s b (omega (arith, ok.small))

  -- blocks in range stay so
  pub map_keeps : ((t : ℕ) → t < g.E → map_block g a t < g.I) → (t : ℕ) → t < g.E → map_block g (stored g (map_store s b) a) t < g.I
  map_keeps f t v = go (ℕ_discrete t s)
    where
      go : Dec (t ≡ s) → map_block g (stored g (map_store s b) a) t < g.I
      go (yes e) = rw (e, map_here) bi
      go (no n) = rw (map_other t v n) (f t v)
