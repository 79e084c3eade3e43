-- The bytes of a handle stand for it: its words are read back one by one.
use mathlib.Core.Path.{◌≡◌, refl, ◌∙◌}
use mathlib.Core.List.{List}
use Prim.Native.Nat.{ℕ, ◌+◌, ◌/◌, ◌%◌, ◌<◌}
use native.Mathlib.Omega.{arith}
use native.Mathlib.Nat.{div-add-mod'}
use lib.ListN.{get_or, replicate, length-replicate}
use Rattle.words.specs.Word.{word, long, Bytes}
use Rattle.words.proofs.Runs.{length-put_words, put_words-bytes, word-put_words_in}
use Rattle.format.proofs.Below.{Below, below_replicate}
use Rattle.layout.specs.Figures.{figures_at}
use Rattle.machine.specs.state.Handle.{zero_handle}
use Rattle.machine.specs.declared.handle.Handle.{Handle}
use Rattle.handlebytes.specs.Bytes.{
  handle_bytes,
  decode_figures,
  decode_handle,
  start_words,
  figure_words,
  handle_words,
  encode_handle,
}
use Rattle.handlebytes.specs.Stands.{HandleFits, Stands}
use Rattle.handlebytes.proofs.Round.{limit, each_below}

-- the bytes before anything is stored
abbrev blank : List ℕ
blank = replicate handle_bytes 0

module _ (h : Handle) (f : HandleFits h) where
  words_below : Below limit (handle_words h)
  unfolding handle_words start_words figure_words
  words_below =
      let g = f.figures in
      each_below (handle_words h) (
        omega arith,
        (
          omega (arith, f.total),
          (
            omega arith,
            (
              omega (arith, g.data_start),
              (
                omega arith,
                (
                  omega (arith, g.map-start),
                  (
                    omega arith,
                    (
                      omega (arith, g.flog-start),
                      (
                        omega arith,
                        (
                          omega (arith, g.copy-start),
                          (g.size, (g.sectors, (g.internal, (g.blocks, (g.lanes, (f.distance, tt)))))),
                        ),
                      ),
                    ),
                  ),
                ),
              ),
            ),
          ),
        ),
      )

  -- each word is read back
  word_is : (k : ℕ) → k < 16 → word (encode_handle h) k ≡ get_or (handle_words h) k 0
  unfolding encode_handle handle_words start_words figure_words
  word_is k u =
      let e : 0 + k ≡ k = omega arith in
      rw e at (word-put_words_in (handle_words h) blank 0 k (rw length-replicate (omega arith)) words_below u)

  long_is : (i n : ℕ) → i + 1 < 16 → get_or (handle_words h) i 0 ≡ n % limit → get_or (handle_words h) (i + 1) 0 ≡ n / limit
      → long (encode_handle h) i ≡ n
  unfolding long
  long_is i n u p q = rw (word_is i (omega arith), word_is (i + 1) u, p, q) (omega (arith, div-add-mod' n 4294967296))

  total_is : long (encode_handle h) 0 ≡ h.length
  unfolding handle_words start_words figure_words
  total_is = long_is 0 h.length (omega arith) refl refl

  distance_is : word (encode_handle h) 15 ≡ h.distance
  unfolding handle_words start_words figure_words
  distance_is = word_is 15 (omega arith)

  figures_are : decode_figures (encode_handle h) ≡ h.figures
  unfolding figures_at handle_words start_words figure_words
  figures_are =
      rw (
        word_is 10 (omega arith),
        word_is 11 (omega arith),
        word_is 12 (omega arith),
        word_is 13 (omega arith),
        word_is 14 (omega arith),
        long_is 2 h.figures.dataoff (omega arith) refl refl,
        long_is 4 h.figures.mapoff (omega arith) refl refl,
        long_is 6 h.figures.flogoff (omega arith) refl refl,
        long_is 8 h.figures.copyoff (omega arith) refl refl,
      )

  pub encoded_stands : Stands (encode_handle h) h
  unfolding encode_handle decode_handle
  encoded_stands =
      let z : Bytes blank = record { words = refl; small = below_replicate 256 handle_bytes 0 (omega arith) } in
      record {
        size = length-put_words (handle_words h) blank 0 ∙ length-replicate {A = ℕ} handle_bytes 0;
        small = (put_words-bytes (handle_words h) blank 0 z).small;
        is = rw (total_is, distance_is, figures_are);
      }

pub zeroes_stand : Stands (replicate 64 0) zero_handle
unfolding decode_handle figures_at long word
zeroes_stand = record { size = refl; small = below_replicate 256 64 0 (omega arith); is = refl }
