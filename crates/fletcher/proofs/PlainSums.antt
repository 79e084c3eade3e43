-- The checksum against the plain sums: a run of words is one turn from no sums, and an info block's words are those with its field cleared.
use Rattle.std.proofs.Common.{◌≡◌, ℕ, ◌+◌, ◌<◌, List, [], ◌∷◌, ◌++◌, length, take, replicate, sym, ap, ◌∙◌, append_assoc, mul-zero, arith, length-append, length-take, length-take-le, take_at, drop_at}
use lib.ListN.{length-replicate}
use Rattle.words.specs.Word.{word, words_from}
use Rattle.words.specs.Bytes.{words_in}
use Rattle.words.proofs.Bytes.{words_all}
use Rattle.words.proofs.Laws.{word-take, word-drop}
use Rattle.words.proofs.Runs.{length-words_from, words_from_same, words_from_snoc}
use Rattle.fletcher.specs.declared.Sums.{Sums}
use Rattle.fletcher.specs.Fletcher.{fletcher64, block_checksum}
use Rattle.fletcher.specs.Claims.{SmallSums, fletcher_value, field_cleared, ChecksumClaim}
use Rattle.fletcher.proofs.Turns.{turn_law}

fletcher-value : (ws : List ℕ) → fletcher64 ws ≡ fletcher_value ws
unfolding fletcher64
fletcher-value ws =
    let z : Sums = record { low = 0; high = 0 } in
    let s : SmallSums z = (omega arith, omega arith) in
    rw (turn_law ws z s) (omega (arith, mul-zero (length ws)))

-- the words of a block with its checksum field cleared
cleared-length : (b : List ℕ) → length b ≡ 4096 → length (field_cleared b) ≡ 4096
cleared-length b l = omega (arith, length-append (take 4088 b) (replicate 8 0), length-take 4088 b, length-replicate {A = ℕ} 8 0)

module _ (b : List ℕ) (l : length b ≡ 4096) where
  front_length : length (take 4088 b) ≡ 4088
  front_length = length-take-le 4088 b (omega arith)

  front_words : (k : ℕ) → k < 1022 → word (field_cleared b) (0 + k) ≡ word b (0 + k)
  front_words k h =
      sym (word-take (field_cleared b) 4088 (0 + k) (omega arith))
      ∙ ap (λ (c : List ℕ). word c (0 + k)) (take_at (take 4088 b) (replicate 8 0) 4088 front_length)
      ∙ word-take b 4088 (0 + k) (omega arith)

  -- the two words of the field are zero
  field_words : (k : ℕ) → word (field_cleared b) (1022 + k) ≡ word (replicate 8 0) k
  field_words k =
      sym (word-drop (field_cleared b) 1022 k)
      ∙ ap (λ (c : List ℕ). word c k) (drop_at (take 4088 b) (replicate 8 0) 4088 front_length)

  last-words : (word (field_cleared b) 1022 ≡ 0) × (word (field_cleared b) 1023 ≡ 0)
  unfolding word
  last-words = (field_words 0, field_words 1)

  block_words : words_in (field_cleared b) ≡ words_from b 0 1022 ++ (0 ∷ 0 ∷ [])
  block_words =
      words_all 1024 (field_cleared b) (cleared-length b l) ∙ words_from_snoc (field_cleared b) 0 1023
      ∙ ap (λ (ws : List ℕ). ws ++ (word (field_cleared b) 1023 ∷ [])) (words_from_snoc (field_cleared b) 0 1022)
      ∙ append_assoc (words_from (field_cleared b) 0 1022) (word (field_cleared b) 1022 ∷ []) (word (field_cleared b) 1023 ∷ [])
      ∙ ap (λ (ws : List ℕ). ws ++ (word (field_cleared b) 1022 ∷ word (field_cleared b) 1023 ∷ []))
      (words_from_same (field_cleared b) b 0 0 1022 front_words)
      ∙ rw (last-words.0, last-words.1)

pub checksum_claim : ChecksumClaim
unfolding block_checksum
checksum_claim =
    record {
      turn = turn_law;
      value = fletcher-value;
      block = λ b l. ap fletcher64 (sym (block_words b l)) ∙ fletcher-value (words_in (field_cleared b));
      block_words = λ b l. ap length (words_all 1024 (field_cleared b) (cleared-length b l)) ∙ length-words_from (field_cleared b) 0 1024;
    }
