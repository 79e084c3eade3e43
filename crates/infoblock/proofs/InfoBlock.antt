-- The info block that counts depends on the first and the last 4,096 bytes alone, and is empty or sound.
-- Bytes are compared word by word.
use mathlib.Core.Path.{◌≡◌, refl, sym, ap₂, ◌∙◌}
use mathlib.Core.Logic.{◌⊎◌, inl, inr}
use mathlib.Core.Bool.{Bool, true, false, cond}
use mathlib.Core.List.{List, []}
use Prim.Native.Nat.{ℕ, ◌+◌, ◌-◌, ◌*◌, ◌/◌, ◌%◌, ◌≤◌, ◌<◌}
use native.Mathlib.Omega.{arith}
use lib.Dec.{eqb, leb}
use lib.ListN.{length, get_or, take, drop, length-take, length-drop}
use borrow.Author.Tests.{eqb-true, leb-true, eq-eqb, le-leb}
use Rattle.words.specs.Word.{word, long}
use Rattle.words.proofs.Laws.{ext_word, word-take, word-drop}
use Rattle.fletcher.specs.Fletcher.{block_checksum}
use Rattle.layout.specs.Figures.{length_allowed}
use Rattle.infoblock.specs.Info.{signature, signed, sound, counts_of, counting_of, info_block_of}
use Rattle.format.proofs.Tests.{and_elim, by_bool, every_intro}
use Rattle.format.proofs.Below.{Below, below_take, below_drop, below_test}

-- rule 1 as a test and in words
pub length-of : (n : ℕ) → length_allowed n ≡ true → (n % 4096 ≡ 0) × (20480 ≤ n) × (n ≤ 16777216)
length-of n e =
    let p = and_elim (eqb (n % 4096) 0) _ e in
    let q = and_elim (leb 20480 n) (leb n 16777216) p.1 in
    (eqb-true _ _ p.0, leb-true _ _ q.0, leb-true _ _ q.1)

-- what the figures' judge asks of it
pub length_in : (n : ℕ) → length_allowed n ≡ true → (4096 ≤ n) × (n ≤ 16777216)
length_in n e = let l = length-of n e in (omega arith, l.2)

pub of_length : (n : ℕ) → n % 4096 ≡ 0 → 20480 ≤ n → n ≤ 16777216 → length_allowed n ≡ true
of_length n a b c = rw (eq-eqb _ _ a, le-leb _ _ b, le-leb _ _ c)

-- the first n bytes, by their words
pub take_same : (a b : List ℕ) (n : ℕ) → n % 4 ≡ 0 → n ≤ length a → n ≤ length b → Below 256 a → Below 256 b
    → ((i : ℕ) → 4 * i + 4 ≤ n → word a i ≡ word b i) → take n a ≡ take n b
take_same a b n z ha hb f g w =
    let la : length (take n a) ≡ n = simp length-take (omega arith) in
    let lb : length (take n b) ≡ n = simp length-take (omega arith) in
    ext_word (take n a) (take n b)
    (record { words = rw la z; small = below_take 256 n a (omega arith) f })
    (record { words = rw lb z; small = below_take 256 n b (omega arith) g })
    (la ∙ sym lb)
    (λ i h. let k : 4 * i + 4 ≤ n = rw la at h in word-take a n i k ∙ w i k ∙ sym (word-take b n i k))

-- the bytes from word k on, by their words
drop_same : (a b : List ℕ) (k : ℕ) → length a % 4 ≡ 0 → length a ≡ length b → Below 256 a → Below 256 b
    → ((i : ℕ) → word a (k + i) ≡ word b (k + i)) → drop (4 * k) a ≡ drop (4 * k) b
drop_same a b k z e f g w =
    ext_word (drop (4 * k) a) (drop (4 * k) b)
    (record { words = rw (length-drop (4 * k) a) (omega arith); small = below_drop 256 (4 * k) a f })
    (record { words = rw (length-drop (4 * k) b) (omega arith); small = below_drop 256 (4 * k) b g })
    (simp length-drop (omega arith))
    (λ i h. word-drop a k i ∙ w i ∙ sym (word-drop b k i))

pub info_local : (a b : List ℕ) → length a ≡ length b → ((i : ℕ) → (i < 1024) ⊎ (length a ≤ 4 * i + 4099) → word a i ≡ word b i)
    → Below 256 a → Below 256 b → info_block_of a ≡ info_block_of b
unfolding info_block_of
info_local a b e w f g =
    by_bool (length_allowed (length a)) (info_block_of a ≡ info_block_of b)
    (λ t. ap₂ (λ (n : ℕ) (l : List ℕ). cond (length_allowed n) l []) e (ap₂ counting_of (first t) (last t)))
    (λ t. rw (← e, t))
  where
    first : length_allowed (length a) ≡ true → take 4096 a ≡ take 4096 b
    first t =
        let h = length-of (length a) t in
        take_same a b 4096 refl (omega arith) (omega arith) f g (λ i k. w i (inl (omega arith)))

    last : length_allowed (length a) ≡ true → drop (length a - 4096) a ≡ drop (length b - 4096) b
    last t =
        let h = length-of (length a) t in
        let k : length a - 4096 ≡ 4 * ((length a - 4096) / 4) = omega arith in
        rw (← e) (rw k (drop_same a b ((length a - 4096) / 4) (omega arith) e f g (λ i. w ((length a - 4096) / 4 + i) (inr (omega arith)))))

-- which block counts, by the two tests, and the block itself
module _ (main copy : List ℕ) where
  pub counts_main : sound main ≡ true → counts_of main copy ≡ 0
  unfolding counts_of
  counts_main e = rw e

  pub counts_copy : sound main ≡ false → sound copy ≡ true → counts_of main copy ≡ 1
  unfolding counts_of
  counts_copy e f = rw (e, f)

  pub counts_none : sound main ≡ false → sound copy ≡ false → counts_of main copy ≡ 2
  unfolding counts_of
  counts_none e f = rw (e, f)

  pub counts_as : (counts_of main copy ≡ 0 → counting_of main copy ≡ main) × (counts_of main copy ≡ 1 → counting_of main copy ≡ copy)
      × (counts_of main copy ≡ 2 → counting_of main copy ≡ [])
  unfolding counting_of
  counts_as = (λ e. rw e, λ e. rw e, λ e. rw e)

  pub counting_main : sound main ≡ true → counting_of main copy ≡ main
  counting_main e = counts_as.0 (counts_main e)

  pub counting_copy : sound main ≡ false → sound copy ≡ true → counting_of main copy ≡ copy
  counting_copy e f = counts_as.1 (counts_copy e f)

  pub counting_none : sound main ≡ false → sound copy ≡ false → counting_of main copy ≡ []
  counting_none e f = counts_as.2 (counts_none e f)

pub info_in : (a : List ℕ) → length_allowed (length a) ≡ true → info_block_of a ≡ counting_of (take 4096 a) (drop (length a - 4096) a)
unfolding info_block_of
info_in a e = rw e

pub sound_size : (b : List ℕ) → sound b ≡ true → length b ≡ 4096
unfolding sound
sound_size b e = eqb-true _ _ (and_elim (eqb (length b) 4096) _ e).0

pub sound-signed : (b : List ℕ) → sound b ≡ true → signed b ≡ true
unfolding sound
sound-signed b e = (and_elim (signed b) _ (and_elim (eqb (length b) 4096) _ e).1).0

pub sound_checksum : (b : List ℕ) → sound b ≡ true → long b 1022 ≡ block_checksum b
unfolding sound
sound_checksum b e = eqb-true _ _ (and_elim (signed b) _ (and_elim (eqb (length b) 4096) _ e).1).1

pub sound_intro : (b : List ℕ) → length b ≡ 4096 → signed b ≡ true → long b 1022 ≡ block_checksum b → sound b ≡ true
unfolding sound
sound_intro b l s c = rw (eq-eqb _ _ l, s, eq-eqb _ _ c)

-- the block that counts is a whole one
module _ (main copy : List ℕ) where
  pub main_whole : counts_of main copy ≡ 0 → length main ≡ 4096
  main_whole e =
      by_bool (sound main) (length main ≡ 4096) (sound_size main)
      (λ f. by_bool (sound copy) (length main ≡ 4096)
      (λ t. absurd (omega (arith, e, counts_copy main copy f t)))
      (λ g. absurd (omega (arith, e, counts_none main copy f g))))

  pub copy_whole : counts_of main copy ≡ 1 → length copy ≡ 4096
  copy_whole e =
      by_bool (sound copy) (length copy ≡ 4096) (sound_size copy)
      (λ g. by_bool (sound main) (length copy ≡ 4096)
      (λ t. absurd (omega (arith, e, counts_main main copy t)))
      (λ f. absurd (omega (arith, e, counts_none main copy f g))))

-- the block that counts is empty, or 4,096 bytes long and sound
pub info_size : (a : List ℕ) → (info_block_of a ≡ []) ⊎ ((length (info_block_of a) ≡ 4096) × (sound (info_block_of a) ≡ true))
unfolding info_block_of counting_of counts_of
info_size a = go (length_allowed (length a)) (sound (take 4096 a)) refl (sound (drop (length a - 4096) a)) refl
  where
    whole : (b : List ℕ) → sound b ≡ true → (length b ≡ 4096) × (sound b ≡ true)
    whole b e = (sound_size b e, e)

    go : (t u : Bool) → sound (take 4096 a) ≡ u → (v : Bool) → sound (drop (length a - 4096) a) ≡ v
        → let n : ℕ = cond u 0 (cond v 1 2) in
        let b = cond t (cond (eqb n 0) (take 4096 a) (cond (eqb n 1) (drop (length a - 4096) a) [])) [] in
        (b ≡ []) ⊎ ((length b ≡ 4096) × (sound b ≡ true))
    go false u e v f = inl refl
    go true true e v f = inr (whole (take 4096 a) e)
    go true false e true f = inr (whole (drop (length a - 4096) a) f)
    go true false e false f = inl refl

pub signature_small : Below 256 signature
signature_small = below_test 256 signature (omega arith) refl

signature-word : (b : List ℕ) → ((k : ℕ) → k < 16 → get_or b k 0 ≡ get_or signature k 0) → (i : ℕ) → i < 4 → word b i ≡ word signature i
unfolding word
signature-word b h i u =
    rw (h (4 * i) (omega arith), h (4 * i + 1) (omega arith), h (4 * i + 2) (omega arith), h (4 * i + 3) (omega arith))

pub bytes_signed : (b : List ℕ) → ((k : ℕ) → k < 16 → get_or b k 0 ≡ get_or signature k 0) → signed b ≡ true
unfolding signed
bytes_signed b h = every_intro 4 (λ j. eqb (word b j) (word signature j)) (λ i u. eq-eqb _ _ (signature-word b h i u))
