-- A made info block byte by byte. Its words are a head, zeroes and the checksum, each read off the list; bytes follow from their words.
use mathlib.Core.Path.{◌≡◌, refl, sym, ap, ap₂, ◌∙◌}
use mathlib.Core.Bool.{true}
use mathlib.Core.List.{List, [], ◌∷◌, ◌++◌}
use Prim.Native.Nat.{ℕ, zero, suc, ◌+◌, ◌-◌, ◌*◌, ◌/◌, ◌%◌, ◌≤◌, ◌<◌}
use native.Mathlib.Omega.{arith}
use native.Mathlib.Nat.{div-add-mod', zero-add}
use lib.Dec.{eqb}
use lib.ListN.{length, get_or, take, drop, replicate, get_or-replicate, length-append, length-drop, get_or-append}
use lib.Seq.{get_or-append-add, ext_get_or, take_all}
use borrow.Author.Tests.{eq-eqb}
use Rattle.words.specs.Word.{word, put_words, words_from, joined, long}
use Rattle.words.specs.Bytes.{Small, byte_word, byte_long}
use Rattle.words.proofs.Laws.{word_lt, word-drop}
use Rattle.words.proofs.Runs.{length-put_words, put_words-bytes, word-put_words_in, length-words_from, get_d_words_from}
use Rattle.words.proofs.Bytes.{word_at, long-at, byte_zero}
use Rattle.fletcher.specs.Fletcher.{fletcher64, block_checksum}
use Rattle.fletcher.proofs.Laws.{fletcher64_lt}
use Rattle.format.proofs.Tests.{every_intro}
use Rattle.format.proofs.Below.{Below, below_append, below_replicate, below_drop, below_each, none, ◌◂◌}
use Rattle.layout.specs.declared.Figures.{Figures}
use Rattle.infoblock.specs.Info.{signature, signed, split, head_words, body_words, fresh_checksum, info_words}
use Rattle.layout.specs.Fit.{FiguresFit}
use Rattle.infoblock.specs.Claims.{Fields, Header, Identifier, FreshBlock, FreshBlockClaim}
use Rattle.infoblock.proofs.InfoBlock.{take_same, signature_small, sound_intro}
use Rattle.infoblock.proofs.Stored.{head_length, body_length}
use Rattle.infoblock.proofs.InBytes.{version_of, signature_of, sound_is}

-- a number is its two words
joined-split : (n : ℕ) → joined (n % 4294967296) (n / 4294967296) ≡ n
joined-split n = omega (arith, div-add-mod' n 4294967296)

-- past the first list
pub get_d_past : (xs ys : List ℕ) (n k : ℕ) → length xs ≡ n → get_or (xs ++ ys) (n + k) 0 ≡ get_or ys k 0
get_d_past xs ys n k e = rw (← e) (get_or-append-add xs ys k 0)

module _ (first second : List ℕ) (f : Figures) where
  pub info_length : length (info_words first second f) ≡ 1024
  unfolding info_words
  info_length =
      length-append (body_words first second f) (split (fresh_checksum first second f) []) ∙ ap (λ (n : ℕ). n + 2) (body_length first second f)

  info_body : (k : ℕ) → k < 1022 → get_or (info_words first second f) k 0 ≡ get_or (body_words first second f) k 0
  unfolding info_words
  info_body k u =
      get_or-append (body_words first second f) (split (fresh_checksum first second f) []) 0 k (rw (body_length first second f) u)

  info_head : (k : ℕ) → k < 30 → get_or (info_words first second f) k 0 ≡ get_or (head_words first second f) k 0
  info_head k u =
      info_body k (omega arith) ∙ get_or-append (head_words first second f) (replicate 992 0) 0 k (rw (head_length first second f) u)

  info_zero : (k : ℕ) → k < 992 → get_or (info_words first second f) (30 + k) 0 ≡ 0
  info_zero k u =
      info_body (30 + k) (omega arith) ∙ get_d_past (head_words first second f) (replicate 992 0) 30 k (head_length first second f)
      ∙ get_or-replicate 992 k 0 0 u

  info_low : get_or (info_words first second f) 1022 0 ≡ fresh_checksum first second f % 4294967296
  unfolding info_words
  info_low = get_d_past (body_words first second f) (split (fresh_checksum first second f) []) 1022 0 (body_length first second f)

  info_high : get_or (info_words first second f) 1023 0 ≡ fresh_checksum first second f / 4294967296
  unfolding info_words
  info_high = get_d_past (body_words first second f) (split (fresh_checksum first second f) []) 1022 1 (body_length first second f)

  -- each word fits 32 bits
  module _ (p : Small first) (q : Small second) (t : FiguresFit f) where
    head_below : Below 4294967296 (head_words first second f)
    unfolding head_words
    head_below =
        let g = signature_small in
        below_each 4294967296 _ (omega arith)
        (word_lt signature 0 g ◂ word_lt signature 1 g ◂ word_lt signature 2 g ◂ word_lt signature 3 g
        ◂ word_lt first 0 p ◂ word_lt first 1 p ◂ word_lt first 2 p ◂ word_lt first 3 p
        ◂ word_lt second 0 q ◂ word_lt second 1 q ◂ word_lt second 2 q ◂ word_lt second 3 q
        ◂ omega arith ◂ omega arith ◂ t.size ◂ t.sectors ◂ t.internal ◂ t.blocks ◂ t.lanes ◂ omega arith
        ◂ omega arith ◂ omega arith ◂ omega arith ◂ omega arith ◂ omega arith
        ◂ omega arith ◂ omega arith ◂ omega arith ◂ omega arith ◂ omega arith
        ◂ none)

    pub info_below : Below 4294967296 (info_words first second f)
    unfolding info_words fresh_checksum
    info_below =
        let c = fletcher64_lt (body_words first second f ++ (0 ∷ 0 ∷ [])) in
        below_append 4294967296 (body_words first second f) _
        (below_append 4294967296 (head_words first second f) (replicate 992 0) head_below (below_replicate 4294967296 992 0 (omega arith)))
        (below_each 4294967296 _ (omega arith) (omega arith ◂ omega arith ◂ none))

  -- a block of those words
  abbrev Holds : List ℕ → Type 0
  Holds b = (i : ℕ) → i < 1024 → word b i ≡ get_or (info_words first second f) i 0

  module _ (b : List ℕ) (size : length b ≡ 4096) (s : Small b) (w : Holds b) where
    head : (k : ℕ) → k < 30 → word b k ≡ get_or (head_words first second f) k 0
    head k u = w k (omega arith) ∙ info_head k u

    signed-made : signed b ≡ true
    unfolding signed head_words
    signed-made = every_intro 4 (λ k. eqb (word b k) (word signature k)) (λ k u. eq-eqb _ _ (at k u))
      where
        at : (k : ℕ) → k < 4 → word b k ≡ word signature k
        at zero u = head 0 (omega arith)
        at (suc zero) u = head 1 (omega arith)
        at (suc (suc zero)) u = head 2 (omega arith)
        at (suc (suc (suc zero))) u = head 3 (omega arith)
        at (suc (suc (suc (suc k)))) u = absurd (omega arith)

    words_made : words_from b 0 1022 ≡ body_words first second f
    words_made =
        ext_get_or 0 _ _ (length-words_from b 0 1022 ∙ sym (body_length first second f))
        (λ k u. let v : k < 1022 = rw length-words_from at u in
        get_d_words_from b 0 1022 k v ∙ ap (word b) (zero-add k) ∙ w k (omega arith) ∙ info_body k v)

    checksum_made : long b 1022 ≡ block_checksum b
    unfolding long block_checksum fresh_checksum
    checksum_made =
        ap₂ joined (w 1022 (omega arith) ∙ info_low) (w 1023 (omega arith) ∙ info_high) ∙ joined-split (fresh_checksum first second f)
        ∙ ap (λ (ws : List ℕ). fletcher64 (ws ++ (0 ∷ 0 ∷ []))) (sym words_made)

    -- a word of the head, at its byte
    word_made : (k o : ℕ) → k < 30 → 4 * k ≡ o → byte_word b o ≡ get_or (head_words first second f) k 0
    word_made k o u e = sym (word_at b k o e) ∙ head k u

    -- a 64-bit number of the head, at its byte
    long-made : (k o n : ℕ) → k < 29 → 4 * k ≡ o → get_or (head_words first second f) k 0 ≡ n % 4294967296
        → get_or (head_words first second f) (k + 1) 0 ≡ n / 4294967296 → byte_long b o ≡ n
    unfolding long
    long-made k o n u e p q =
        sym (long-at b k o e) ∙ ap₂ joined (head k (omega arith) ∙ p) (head (k + 1) (omega arith) ∙ q) ∙ joined-split n

    fields_made : Fields b f
    unfolding head_words
    fields_made =
        record {
          size = sym (word_made 14 56 (omega arith) refl);
          sectors = sym (word_made 15 60 (omega arith) refl);
          internal = sym (word_made 16 64 (omega arith) refl);
          blocks = sym (word_made 17 68 (omega arith) refl);
          lanes = sym (word_made 18 72 (omega arith) refl);
          data_start = sym (long-made 22 88 f.dataoff (omega arith) refl refl refl);
          map-start = sym (long-made 24 96 f.mapoff (omega arith) refl refl refl);
          flog-start = sym (long-made 26 104 f.flogoff (omega arith) refl refl refl);
          copy-start = sym (long-made 28 112 f.copyoff (omega arith) refl refl refl);
        }

    header_made : Header 0 b
    unfolding head_words
    header_made =
        let e = word_made 13 52 (omega arith) refl in
        let v = version_of b 2 0 s (ap (λ (x : ℕ). x % 65536) e) (ap (λ (x : ℕ). x / 65536) e) in
        record {
          major = v.0;
          minor = v.1;
          info_size = word_made 19 76 (omega arith) refl;
          next_arena = long-made 20 80 0 (omega arith) refl refl refl;
        }

    flags_made : byte_word b 48 ≡ 0
    unfolding head_words
    flags_made = word_made 12 48 (omega arith) refl

    -- 16 bytes from word j on are those of an identifier with the same four words
    identifier_from : (j : ℕ) (x : List ℕ) → j < 1020 → Identifier x → ((i : ℕ) → i < 4 → word b (j + i) ≡ word x i)
        → take 16 (drop (4 * j) b) ≡ x
    identifier_from j x u d e =
        take_same (drop (4 * j) b) x 16 refl (rw length-drop (omega arith)) (omega (arith, d.size))
        (below_drop 256 (4 * j) b s) d.bytes
        (λ i v. word-drop b j i ∙ e i (omega arith))
        ∙ take_all 16 x (omega (arith, d.size))

    first_made : (i : ℕ) → i < 4 → word b (4 + i) ≡ word first i
    unfolding head_words
    first_made zero u = head 4 (omega arith)
    first_made (suc zero) u = head 5 (omega arith)
    first_made (suc (suc zero)) u = head 6 (omega arith)
    first_made (suc (suc (suc zero))) u = head 7 (omega arith)
    first_made (suc (suc (suc (suc i)))) u = absurd (omega arith)

    second_made : (i : ℕ) → i < 4 → word b (8 + i) ≡ word second i
    unfolding head_words
    second_made zero u = head 8 (omega arith)
    second_made (suc zero) u = head 9 (omega arith)
    second_made (suc (suc zero)) u = head 10 (omega arith)
    second_made (suc (suc (suc zero))) u = head 11 (omega arith)
    second_made (suc (suc (suc (suc i)))) u = absurd (omega arith)

    unnamed_made : (k : ℕ) → 120 ≤ k → k < 4088 → get_or b k 0 ≡ 0
    unnamed_made k l u =
        let e : 30 + (k / 4 - 30) ≡ k / 4 = omega arith in
        byte_zero b k s
        (w (k / 4) (omega arith) ∙ ap (λ (i : ℕ). get_or (info_words first second f) i 0) (sym e) ∙ info_zero (k / 4 - 30) (omega arith))

    pub made_block : Identifier first → Identifier second → FreshBlock first second f b
    made_block c d =
        record {
          size = size;
          bytes = s;
          signature = signature_of b (omega arith) s signed-made;
          identifier_1 = identifier_from 4 first (omega arith) c first_made;
          identifier_2 = identifier_from 8 second (omega arith) d second_made;
          flags = flags_made;
          header = header_made;
          figures = fields_made;
          unnamed = unnamed_made;
          checksum = sound_is b s (sound_intro b size signed-made checksum_made);
        }

stored_block : (first second : List ℕ) (f : Figures) (a : List ℕ) → Identifier first → Identifier second → FiguresFit f
    → Small a → length a ≡ 4096 → FreshBlock first second f (put_words a 0 (info_words first second f))
stored_block first second f a c d t s l =
    let ws = info_words first second f in
    let n : length ws ≡ 1024 = info_length first second f in
    let h : 4 * (0 + length ws) ≤ length a = omega arith in
    let g = put_words-bytes ws a 0 (record { words = rw l refl; small = s }) in
    made_block first second f (put_words a 0 ws) (length-put_words ws a 0 ∙ l) g.small
    (λ i u. ap (word (put_words a 0 ws)) (sym (zero-add i))
    ∙ word-put_words_in ws a 0 i h (info_below first second f c.bytes d.bytes t) (omega arith))
    c d

pub made_block_claim : FreshBlockClaim
made_block_claim = record { made = stored_block }
