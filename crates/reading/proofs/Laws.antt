-- Laws of a read that was judged: what it gives where it is refused, what it knows where it is accepted, and one for each way to fill
-- the buffer.
use mathlib.Core.Path.{◌≡◌, sym, ap, ◌∙◌}
use mathlib.Core.Logic.{◌⊎◌, ⊎_elim}
use mathlib.Core.Bool.{true, false}
use mathlib.Core.List.{List}
use Prim.Native.Nat.{ℕ, ◌+◌, ◌-◌, ◌*◌, ◌/◌, ◌≤◌, ◌<◌}
use native.Mathlib.Omega.{arith}
use lib.Dec.{eqb}
use lib.ListN.{length, take, drop, replicate}
use borrow.Author.Tests.{ne_eqb}
use Rattle.words.specs.Word.{put_words, words_from}
use Rattle.words.specs.Bytes.{Small}
use Rattle.format.specs.MapWord.{flags_of, reading_of, reading_number}
use Rattle.format.specs.declared.map.Reading.{Reading}
use Rattle.format.specs.declared.map.Reading.TheVariants.{Zeroes, BadSector, Bytes}
use Rattle.format.proofs.MapWord.{block-in}
use Rattle.layout.specs.Place.{layout_of, in_data, at}
use Rattle.layout.proofs.Place.{at_inside}
use Rattle.layout.proofs.Allowed.{size_words}
use Rattle.machine.specs.state.Flog.{map_word, map_block}
use Rattle.machine.specs.state.Handle.{Handle, bare_of, laid_out, handle_allowed}
use Rattle.machine.specs.calls.Reading.{Read, read_number, read_of, block_bytes}
use Rattle.machine.proofs.calls.Accepted.{ReadFound, read_found}
use Rattle.machine.proofs.calls.Running.{handle_ok, handle_fit}
use Rattle.reading.proofs.Copies.{copied, zeroed}

-- a sector in a state that does not read as bad, or as the block's bytes
pub not_bad : (r : Reading) (n : ℕ) → reading_number r ≡ n → (r ≡ Zeroes) ⊎ (r ≡ Bytes) → n ≡ 1 → ⊥
not_bad r n e w z =
    ⊎_elim
    (λ x. let y : 0 ≡ 1 = sym (ap reading_number x) ∙ e ∙ z in omega arith)
    (λ x. let y : 2 ≡ 1 = sym (ap reading_number x) ∙ e ∙ z in omega arith) w

pub no_bytes : (r : Reading) (n : ℕ) → reading_number r ≡ n → (r ≡ Zeroes) ⊎ (r ≡ BadSector) → n ≡ 2 → ⊥
no_bytes r n e w z =
    ⊎_elim
    (λ x. let y : 0 ≡ 2 = sym (ap reading_number x) ∙ e ∙ z in omega arith)
    (λ x. let y : 1 ≡ 2 = sym (ap reading_number x) ∙ e ∙ z in omega arith) w

-- a sector is whole words where rule 16 does not apply
size_exact : (h : Handle) (n : ℕ) → handle_allowed (bare_of h) n ≡ true → 4 * (h.figures.size / 4) ≡ h.figures.size
size_exact h n e = omega (arith, (size_words h.figures n (handle_ok h n e).figures).0)

-- a read's number and its buffer
abbrev gave : ℕ → List ℕ → Read
gave n b = record { number = n; buffer = b }

-- what a judged read gives: its own buffer where it is refused, else the block's bytes or zeroes
module _ (a : List ℕ) (h : Handle) (s : ℕ) (b : List ℕ) where
  pub refused : (n : ℕ) → n ≡ read_number a h s b → eqb n 0 ≡ false → gave n b ≡ read_of a h s b
  unfolding read_of
  refused n e t = rw (← e, t)

  module _ (zero : read_number a h s b ≡ 0) where
    pub known : ReadFound a h s b
    known = read_found a h s b zero

    allowed : handle_allowed (bare_of h) (length a) ≡ true
    allowed = known.judged.handle

    -- the block's words lie within the arena
    pub inside : 4 * (at (laid_out h) (in_data (map_block (laid_out h) a s) 0) + h.figures.size / 4) ≤ length a
    unfolding layout_of
    inside =
        let g = laid_out h in
        let f = handle_fit h (length a) allowed in
        let l = (handle_ok h (length a) allowed).figures in
        let z = size_words h.figures (length a) l in
        let i : map_block g a s < h.figures.blocks =
        block-in h.figures.blocks s (map_word g a s) (omega (arith, l.blocks, known.sector)) known.word known.clean in
        let k = at_inside g f.ok (in_data (map_block g a s) (h.figures.size / 4 - 1)) (i, omega (arith, z.0, z.1)) in
        omega (arith, k, f.room, z.0, z.1)

    module _ (small : Small b) where
      whole : length b ≡ 4 * (h.figures.size / 4)
      whole = known.size ∙ sym (size_exact h (length a) allowed)

      pub gives_bytes : Small a → (p : ℕ) → p ≡ at (laid_out h) (in_data (map_block (laid_out h) a s) 0)
          → reading_of (flags_of (map_word (laid_out h) a s)) ≡ 2 → (c : List ℕ) → c ≡ put_words b 0 (words_from a p (h.figures.size / 4))
          → gave 0 c ≡ read_of a h s b
      unfolding read_of block_bytes
      gives_bytes bytes p at_p two c f =
          let z = copied b (h.figures.size / 4) small whole a p bytes (rw at_p inside) in
          let y = ap (λ (n : ℕ). take n (drop (4 * p) a)) (size_exact h (length a) allowed) in
          let x = ap (λ (n : ℕ). take h.figures.size (drop (4 * n) a)) at_p in
          rw (zero, two) (ap (gave 0) (f ∙ z ∙ y ∙ x))

      pub gives_zeroes : (reading_of (flags_of (map_word (laid_out h) a s)) ≡ 2 → ⊥) → (c : List ℕ)
          → c ≡ put_words b 0 (replicate (h.figures.size / 4) 0) → gave 0 c ≡ read_of a h s b
      unfolding read_of
      gives_zeroes other c f =
          let z = rw (size_exact h (length a) allowed) at (zeroed b (h.figures.size / 4) small whole) in
          rw (zero, ne_eqb _ _ other) (ap (gave 0) (f ∙ z))
