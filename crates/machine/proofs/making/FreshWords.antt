-- The words of a made arena: the info block first and last, zeroes up to the flog, and each lane's 16 words.
-- A stored word is read off the run that stored it, at its place in the list.
use mathlib.Core.Path.{◌≡◌, refl, sym, ap, ◌∙◌}
use mathlib.Core.Logic.{inl, inr}
use mathlib.Core.List.{List}
use Prim.Native.Nat.{ℕ, zero, suc, ◌+◌, ◌-◌, ◌*◌, ◌≤◌, ◌<◌}
use native.Mathlib.Omega.{arith}
use native.Mathlib.Nat.{zero-add, add-zero}
use lib.ListN.{length, get_or, take, drop, replicate, length-append, length-replicate, length-take, length-drop, get_or-replicate, get_or-append}
use Rattle.words.specs.Word.{word, put_words, Bytes}
use Rattle.words.proofs.Laws.{word-take, word-drop, ext_word}
use Rattle.words.proofs.Runs.{length-put_words, put_words-bytes, word-put_words_out, word-put_words_in, get_d_put_words_out}
use Rattle.layout.specs.Place.{Layout, LayoutOk, in_map, in_flog, at}
use Rattle.infoblock.proofs.FreshBlock.{get_d_past}
use Rattle.format.proofs.Below.{Below, below_append, below_replicate, below_take, below_drop}
use Rattle.machine.specs.state.Flog.{flog_word}
use Rattle.machine.specs.calls.Making.{fresh_lane, fresh_flog, data_end, tail_words}
use Rattle.machine.proofs.making.FreshMap.{Fresh}

-- lanes of 16 words, from lane i on
flog_length : (e i n : ℕ) → length (fresh_flog e i n) ≡ 16 * n
unfolding fresh_flog
flog_length e i zero = refl
flog_length e i (suc n) = length-append (fresh_lane e i) (fresh_flog e (suc i) n) ∙ omega (arith, flog_length e (suc i) n)

flog_at : (e i n l j : ℕ) → l < n → j < 16 → get_or (fresh_flog e i n) (16 * l + j) 0 ≡ get_or (fresh_lane e (i + l)) j 0
unfolding fresh_flog
flog_at e i zero l j u v = absurd (omega arith)
flog_at e i (suc n) zero j u v =
    let p : 16 * 0 + j ≡ j = omega arith in
    rw p
    (get_or-append (fresh_lane e i) (fresh_flog e (suc i) n) 0 j v ∙ ap (λ (k : ℕ). get_or (fresh_lane e k) j 0) (sym (add-zero i)))
flog_at e i (suc n) (suc l) j u v =
    let p : 16 * suc l + j ≡ 16 + (16 * l + j) = omega arith in
    let q : suc i + l ≡ i + suc l = omega arith in
    rw p
    (get_d_past (fresh_lane e i) (fresh_flog e (suc i) n) 16 (16 * l + j) refl ∙ flog_at e (suc i) n l j (omega arith) v
    ∙ ap (λ (k : ℕ). get_or (fresh_lane e k) j 0) q)

-- the last twelve words of a fresh lane
pub rest_zero : (e l k : ℕ) → 4 ≤ k → k < 16 → get_or (fresh_lane e l) k 0 ≡ 0
rest_zero e l zero u v = absurd (omega arith)
rest_zero e l (suc zero) u v = absurd (omega arith)
rest_zero e l (suc (suc zero)) u v = absurd (omega arith)
rest_zero e l (suc (suc (suc zero))) u v = absurd (omega arith)
rest_zero e l (suc (suc (suc (suc k)))) u v = get_or-replicate 12 k 0 0 (omega arith)

lane_below : (e i : ℕ) → e + i < 1073741824 → Below 4294967296 (fresh_lane e i)
lane_below e i h zero = omega arith
lane_below e i h (suc zero) = omega arith
lane_below e i h (suc (suc zero)) = omega arith
lane_below e i h (suc (suc (suc zero))) = omega arith
lane_below e i h (suc (suc (suc (suc j)))) = below_replicate 4294967296 12 0 (omega arith) j

flog_below : (e i n : ℕ) → e + (i + n) ≤ 1073741824 → Below 4294967296 (fresh_flog e i n)
unfolding fresh_flog
flog_below e i zero h = λ j. omega arith
flog_below e i (suc n) h =
    below_append 4294967296 (fresh_lane e i) (fresh_flog e (suc i) n) (lane_below e i (omega arith)) (flog_below e (suc i) n (omega arith))

-- the arena with its two info blocks and all that follows the data blocks
abbrev pub made : Layout → List ℕ → List ℕ → List ℕ
made g a info = put_words (put_words a 0 info) (data_end g) (tail_words g info)

-- what making asks of a layout, an arena and an info block
pub record Room (g : Layout) (a info : List ℕ) : Type 0 where
  pub ok : LayoutOk g
  pub exact : length a ≡ 4 * g.copy₀ + 4096
  pub block : length info ≡ 1024
  pub below : Below 4294967296 info

module _ (g : Layout) (a info : List ℕ) (r : Room g a info) where
  tail_length : data_end g + length (tail_words g info) ≡ g.copy₀ + 1024
  unfolding tail_words
  tail_length = simp (length-append, length-replicate, flog_length) (omega arith)

  tail_below : Below 4294967296 (tail_words g info)
  unfolding tail_words
  tail_below =
      below_append 4294967296 (replicate (g.flog₀ - data_end g) 0) _ (below_replicate 4294967296 (g.flog₀ - data_end g) 0 (omega arith))
      (below_append 4294967296 (fresh_flog g.E 0 g.N) _ (flog_below g.E 0 g.N (omega arith))
      (below_append 4294967296 (replicate (g.copy₀ - (g.flog₀ + 16 * g.N)) 0) info
      (below_replicate 4294967296 (g.copy₀ - (g.flog₀ + 16 * g.N)) 0 (omega arith)) r.below))

  tail_zero : (k : ℕ) → k < g.flog₀ - data_end g → get_or (tail_words g info) k 0 ≡ 0
  unfolding tail_words
  tail_zero k u =
      get_or-append (replicate (g.flog₀ - data_end g) 0) _ 0 k (rw length-replicate u)
      ∙ get_or-replicate (g.flog₀ - data_end g) k 0 0 u

  tail_flog : (k : ℕ) → k < 16 * g.N → get_or (tail_words g info) (g.flog₀ - data_end g + k) 0 ≡ get_or (fresh_flog g.E 0 g.N) k 0
  unfolding tail_words
  tail_flog k u =
      get_d_past (replicate (g.flog₀ - data_end g) 0) _ (g.flog₀ - data_end g) k (length-replicate (g.flog₀ - data_end g) 0)
      ∙ get_or-append (fresh_flog g.E 0 g.N) _ 0 k (rw flog_length u)

  tail_after : (k : ℕ) → k < g.copy₀ - (g.flog₀ + 16 * g.N) → get_or (tail_words g info) (g.flog₀ - data_end g + (16 * g.N + k)) 0 ≡ 0
  unfolding tail_words
  tail_after k u =
      let x : ℕ = g.flog₀ - data_end g in
      let y : ℕ = g.copy₀ - (g.flog₀ + 16 * g.N) in
      get_d_past (replicate x 0) _ x (16 * g.N + k) (length-replicate x 0)
      ∙ get_d_past (fresh_flog g.E 0 g.N) _ (16 * g.N) k (flog_length g.E 0 g.N)
      ∙ get_or-append (replicate y 0) info 0 k (rw length-replicate u)
      ∙ get_or-replicate y k 0 0 u

  tail_copy : (k : ℕ) → get_or (tail_words g info) (g.copy₀ - data_end g + k) 0 ≡ get_or info k 0
  unfolding tail_words
  tail_copy k =
      let x : ℕ = g.flog₀ - data_end g in
      let y : ℕ = g.copy₀ - (g.flog₀ + 16 * g.N) in
      let p : g.copy₀ - data_end g + k ≡ x + (16 * g.N + (y + k)) = omega arith in
      rw p
      (get_d_past (replicate x 0) _ x (16 * g.N + (y + k)) (length-replicate x 0)
      ∙ get_d_past (fresh_flog g.E 0 g.N) _ (16 * g.N) (y + k) (flog_length g.E 0 g.N)
      ∙ get_d_past (replicate y 0) info y k (length-replicate y 0))

  pub made-length : length (made g a info) ≡ length a
  made-length = length-put_words (tail_words g info) (put_words a 0 info) (data_end g) ∙ length-put_words info a 0

  word_first : (i : ℕ) → i < 1024 → word (made g a info) i ≡ get_or info i 0
  word_first i u =
      word-put_words_out (tail_words g info) (put_words a 0 info) (data_end g) i (inl (omega arith))
      ∙ ap (word (put_words a 0 info)) (sym (zero-add i)) ∙ word-put_words_in info a 0 i (omega arith) r.below (omega arith)

  word_tail : (j k : ℕ) → j ≡ data_end g + k → k < length (tail_words g info) → word (made g a info) j ≡ get_or (tail_words g info) k 0
  word_tail j k e u =
      let t = tail_length in
      let l = length-put_words info a 0 in
      ap (word (made g a info)) e
      ∙ word-put_words_in (tail_words g info) (put_words a 0 info) (data_end g) k (omega arith) tail_below u

  word_copy : (i : ℕ) → i < 1024 → word (made g a info) (g.copy₀ + i) ≡ get_or info i 0
  word_copy i u =
      let t = tail_length in
      word_tail (g.copy₀ + i) (g.copy₀ - data_end g + i) (omega arith) (omega arith) ∙ tail_copy i

  -- zeroes from the end of the data blocks to the flog
  pub word-before : (i : ℕ) → data_end g ≤ i → i < g.flog₀ → word (made g a info) i ≡ 0
  word-before i u v =
      let t = tail_length in
      word_tail i (i - data_end g) (omega arith) (omega arith) ∙ tail_zero (i - data_end g) (omega arith)

  -- lane l's 16 words
  pub word_lane : (l k : ℕ) → l < g.N → k < 16 → word (made g a info) (g.flog₀ + 16 * l + k) ≡ get_or (fresh_lane g.E l) k 0
  word_lane l k u v =
      let t = tail_length in
      word_tail (g.flog₀ + 16 * l + k) (g.flog₀ - data_end g + (16 * l + k)) (omega arith) (omega arith)
      ∙ tail_flog (16 * l + k) (omega arith) ∙ flog_at g.E 0 g.N l k u v
      ∙ ap (λ (m : ℕ). get_or (fresh_lane g.E m) k 0) (zero-add l)

  -- zeroes from the end of the flog to the copy
  pub word_after : (i : ℕ) → g.flog₀ + 16 * g.N ≤ i → i < g.copy₀ → word (made g a info) i ≡ 0
  word_after i u v =
      let t = tail_length in
      let k : ℕ = i - (g.flog₀ + 16 * g.N) in
      word_tail i (g.flog₀ - data_end g + (16 * g.N + k)) (omega arith) (omega arith) ∙ tail_after k (omega arith)

  flog-word : (l h k : ℕ) → l < g.N → h * g.D + k < 16
      → flog_word g (made g a info) l h k ≡ get_or (fresh_lane g.E l) (h * g.D + k) 0
  flog-word l h k u v =
      let p : at g (in_flog l h k) ≡ g.flog₀ + 16 * l + (h * g.D + k) = omega arith in
      ap (word (made g a info)) p ∙ word_lane l (h * g.D + k) u v

  pub made-fresh : Fresh g (made g a info)
  made-fresh =
      record {
        ok = r.ok;
        map = λ s u. word-before (at g (in_map s)) (omega arith) (omega arith);
        sector = λ l u. first l 0 u (omega arith);
        old = λ l u. first l 1 u (omega arith);
        new = λ l u. first l 2 u (omega arith);
        first = λ l u. first l 3 u (omega arith);
        second = λ l u. flog-word l 1 3 u (omega arith) ∙ rest_zero g.E l (1 * g.D + 3) (omega arith) (omega arith);
      }
    where
      first : (l k : ℕ) → l < g.N → k < 16 → flog_word g (made g a info) l 0 k ≡ get_or (fresh_lane g.E l) k 0
      first l k u v = let e : 0 * g.D + k ≡ k = omega arith in flog-word l 0 k u (omega arith) ∙ rw e

  -- the data blocks are not touched
  pub made_kept : (j : ℕ) → 4096 ≤ j → j < 4 * data_end g → get_or (made g a info) j 0 ≡ get_or a j 0
  made_kept j u v =
      get_d_put_words_out (tail_words g info) (put_words a 0 info) (data_end g) j (inl v) ∙ get_d_put_words_out info a 0 j (inr (omega arith))

  module _ (small : Below 256 a) where
    pub made_bytes : Bytes (made g a info)
    made_bytes =
        put_words-bytes (tail_words g info) (put_words a 0 info) (data_end g)
        (put_words-bytes info a 0 (record { words = omega arith; small = small }))

    pub main_length : length (take 4096 (made g a info)) ≡ 4096
    main_length = let l = made-length in simp length-take (omega arith)

    pub main_word : (i : ℕ) → i < 1024 → word (take 4096 (made g a info)) i ≡ get_or info i 0
    main_word i u = word-take (made g a info) 4096 i (omega arith) ∙ word_first i u

    -- both info blocks are the same bytes
    pub made_copy : take 4096 (made g a info) ≡ drop (length a - 4096) (made g a info)
    made_copy =
        let l = made-length in
        let b = made_bytes in
        let n : length a - 4096 ≡ 4 * g.copy₀ = omega arith in
        let c : length (drop (4 * g.copy₀) (made g a info)) ≡ 4096 = simp length-drop (omega arith) in
        rw n
        (ext_word (take 4096 (made g a info)) (drop (4 * g.copy₀) (made g a info))
        (record { words = rw main_length; small = below_take 256 4096 (made g a info) (omega arith) b.small })
        (record { words = rw c; small = below_drop 256 (4 * g.copy₀) (made g a info) b.small })
        (main_length ∙ sym c)
        (λ i u. let v : 4 * i + 4 ≤ 4096 = rw main_length at u in
        main_word i (omega arith) ∙ sym (word-drop (made g a info) g.copy₀ i ∙ word_copy i (omega arith))))
