-- Storing and reading agree: a record's numbers are read back from the 28 bytes where it was stored, and the numbers of a handle fit the
-- bytes that stand for it.
use mathlib.Core.Path.{◌≡◌, refl, sym, ◌∙◌}
use mathlib.Core.List.{List, [], ◌∷◌}
use Prim.Native.Nat.{ℕ, ◌+◌, ◌*◌, ◌<◌}
use native.Mathlib.Omega.{arith}
use lib.ListN.{length, get_or}
use Rattle.words.specs.Word.{word, long, put_words}
use Rattle.words.specs.Bytes.{byte_word}
use Rattle.words.proofs.Bytes.{word_at}
use Rattle.words.proofs.Laws.{word_lt}
use Rattle.words.proofs.Runs.{word-put_words_in}
use Rattle.format.proofs.Below.{Below, below_nil, below_cons}
use Rattle.layout.specs.Figures.{figures_at}
use Rattle.machine.specs.declared.lane.Lane.{Lane}
use Rattle.machine.specs.declared.handle.Handle.{Handle}
use Rattle.handlebytes.specs.Bytes.{decode_handle, record_words}
use Rattle.handlebytes.specs.Claims.{RecordIn}
use Rattle.handlebytes.specs.Stands.{RecordFits, HandleFits, Stands}

abbrev pub limit : ℕ
limit = 4294967296

-- every number of a list is below the limit, one by one
abbrev pub Each : List ℕ → Type 0
Each [] = Unit {0}
Each (x ∷ xs) = (x < limit) × Each xs

pub each_below : (xs : List ℕ) → Each xs → Below limit xs
each_below [] e = below_nil limit (omega arith)
each_below (x ∷ xs) e = below_cons limit x xs e.0 (each_below xs e.1)

-- ---- a record

module _ (b : List ℕ) (r : Lane) (size : length b ≡ 28) (f : RecordFits r) where
  below : Below limit (record_words r)
  unfolding record_words
  below = each_below (record_words r) (f.busy, (f.block, (f.half, (f.sequence, (f.sector, (f.old, (f.made, tt)))))))

  number_at : (k o : ℕ) → 4 * k ≡ o → k < 7 → byte_word (put_words b 0 (record_words r)) o ≡ get_or (record_words r) k 0
  unfolding record_words
  number_at k o e u =
      let z : 0 + k ≡ k = omega arith in
      sym (word_at (put_words b 0 (record_words r)) k o e) ∙ rw z at (word-put_words_in (record_words r) b 0 k (omega arith) below u)

  pub record_stored : RecordIn (put_words b 0 (record_words r)) r
  unfolding record_words
  record_stored = record {
    busy = number_at 0 0 refl (omega arith);
    block = number_at 1 4 refl (omega arith);
    half = number_at 2 8 refl (omega arith);
    sequence = number_at 3 12 refl (omega arith);
    sector = number_at 4 16 refl (omega arith);
    old = number_at 5 20 refl (omega arith);
    made = number_at 6 24 refl (omega arith);
  }

-- ---- bytes that stand for a handle

pub fits_back : (b : List ℕ) (h : Handle) → Stands b h → HandleFits h
unfolding decode_handle figures_at long
fits_back b h s = rw (← s.is) (record {
  total = joint 0;
  distance = one 15;
  figures = record {
    size = one 10;
    sectors = one 11;
    internal = one 12;
    blocks = one 13;
    lanes = one 14;
    data_start = joint 2;
    map-start = joint 4;
    flog-start = joint 6;
    copy-start = joint 8;
  };
})
  where
    one : (i : ℕ) → word b i < limit
    one i = word_lt b i s.small

    joint : (i : ℕ) → word b i + limit * word b (i + 1) < 18446744073709551616
    joint i = omega (arith, one i, one (i + 1))
