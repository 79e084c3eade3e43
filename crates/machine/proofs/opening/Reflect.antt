-- The tests of opening's rules against the conditions in words: each is true exactly where its condition holds. Of rule 2, the block that
-- counts has bytes exactly where one of the two is sound, and is then sound itself.
use mathlib.Core.Path.{◌≡◌, refl, ap, ◌∙◌}
use mathlib.Core.List.{List, []}
use mathlib.Core.Bool.{Bool, true, false, cond}
use Prim.Native.Nat.{ℕ, ◌-◌}
use native.Mathlib.Omega.{arith}
use lib.Dec.{eqb}
use lib.ListN.{length, take, drop}
use borrow.Author.Tests.{eqb-true, eqb-false, lt-ltb}
use Rattle.words.specs.Bytes.{Small, byte_word}
use Rattle.layout.specs.Figures.{length_allowed}
use Rattle.layout.specs.Place.{Layout}
use Rattle.layout.specs.declared.Told.{Told}
use Rattle.layout.proofs.InBytes.{allowed_claim}
use Rattle.format.specs.MapWord.{bad_word}
use Rattle.format.specs.Claims.{BadWord}
use Rattle.format.proofs.InNumbers.{map_words}
use Rattle.infoblock.specs.Info.{sound, counts_of, counting_of, info_block_of, info_allowed, flags_allowed}
use Rattle.format.proofs.Below.{below_take, below_drop}
use Rattle.infoblock.proofs.InfoBlock.{info_in, counting_main, counting_copy, counting_none}
use Rattle.infoblock.proofs.InBytes.{fields_claim, sound_claim, unsound}
use Rattle.machine.specs.calls.Opening.{lane_readable}
use Rattle.layout.specs.Claims.{Length}
use Rattle.infoblock.specs.Claims.{Sound}
use Rattle.machine.specs.words.Valid.{InfoOk, Readable}

pub length-ok : (n : ℕ) → length_allowed n ≡ true → Length n
length-ok = allowed_claim.length

pub ok-length : (n : ℕ) → Length n → length_allowed n ≡ true
ok-length = allowed_claim.length_back

sound-ok : (b : List ℕ) → Small b → sound b ≡ true → Sound b
sound-ok = sound_claim.sound_is

pub ok-sound : (b : List ℕ) → Sound b → sound b ≡ true
ok-sound = sound_claim.is_sound

pub info_ok : (t : Told) (b : List ℕ) (n : ℕ) → Small b → info_allowed t b n ≡ true → InfoOk t.next b n
info_ok t b n s e = let p = fields_claim.rule_3 t b n s e in record { header = p.0; figures = p.1 }

pub ok_info : (t : Told) (b : List ℕ) (n : ℕ) → Small b → InfoOk t.next b n → info_allowed t b n ≡ true
ok_info t b n s i = fields_claim.rule_3_back t b n s i.header i.figures

pub flags_ok : (b : List ℕ) → flags_allowed b ≡ true → byte_word b 48 ≡ 0
flags_ok = fields_claim.flags-allowed

pub ok_flags : (b : List ℕ) → byte_word b 48 ≡ 0 → flags_allowed b ≡ true
ok_flags = fields_claim.flags_allowed_back

pub ok_readable : (g : Layout) (a : List ℕ) (l : ℕ) → Readable g a l → lane_readable g a l ≡ true
unfolding lane_readable
ok_readable g a l r = rw (lt-ltb _ _ r.newer, lt-ltb _ _ r.sector, lt-ltb _ _ r.old, lt-ltb _ _ r.new)

pub bad_ok : (blocks w : ℕ) → bad_word blocks w ≡ true → BadWord blocks w
bad_ok = map_words.rule_7

pub ok_bad : (blocks w : ℕ) → BadWord blocks w → bad_word blocks w ≡ true
ok_bad = map_words.rule_7_back

-- ---- rule 2

module _ (a : List ℕ) (small : Small a) where
  pub main_small : Small (take 4096 a)
  main_small = below_take 256 4096 a (omega arith) small

  pub copy_small : Small (drop (length a - 4096) a)
  copy_small = below_drop 256 (length a - 4096) a small

  pub main_unsound : (Sound (take 4096 a) → ⊥) → sound (take 4096 a) ≡ false
  main_unsound = unsound (take 4096 a) main_small

  copy_unsound : (Sound (drop (length a - 4096) a) → ⊥) → sound (drop (length a - 4096) a) ≡ false
  copy_unsound = unsound (drop (length a - 4096) a) copy_small

  -- the block that counts is bytes of the arena, or none
  pub block_small : Small (info_block_of a)
  unfolding info_block_of counting_of
  block_small =
      let n = counts_of (take 4096 a) (drop (length a - 4096) a) in
      either (length_allowed (length a)) _ _ (either (eqb n 0) _ _ main_small (either (eqb n 1) _ _ copy_small none)) none
    where
      none : Small []
      none j = omega arith

      either : (t : Bool) (x y : List ℕ) → Small x → Small y → Small (cond t x y)
      either true x y p q = p
      either false x y p q = q

module _ (a : List ℕ) (small : Small a) (h : length_allowed (length a) ≡ true) where
  -- where neither block is sound, none counts
  pub none_counts : (Sound (take 4096 a) → ⊥) → (Sound (drop (length a - 4096) a) → ⊥) → info_block_of a ≡ []
  none_counts x y = info_in a h ∙ counting_none _ _ (main_unsound a small x) (copy_unsound a small y)

  -- the block that counts has bytes exactly if one of the two is sound
  pub none-sound : eqb (length (info_block_of a)) 0 ≡ true → (Sound (take 4096 a) → ⊥) × (Sound (drop (length a - 4096) a) → ⊥)
  none-sound e = (λ s. main s, λ s. copy s (sound (take 4096 a)) refl)
    where
      no : (b : List ℕ) → info_block_of a ≡ b → Sound b → ⊥
      no b p s = omega (arith, eqb-true (length (info_block_of a)) 0 e, ap length p, s.size)

      main : Sound (take 4096 a) → ⊥
      main s = no (take 4096 a) (info_in a h ∙ counting_main _ _ (ok-sound _ s)) s

      copy : Sound (drop (length a - 4096) a) → (t : Bool) → sound (take 4096 a) ≡ t → ⊥
      copy s true p = main (sound-ok _ (main_small a small) p)
      copy s false p = no (drop (length a - 4096) a) (info_in a h ∙ counting_copy _ _ p (ok-sound _ s)) s

  pub some-sound : (Sound (take 4096 a) → ⊥) → (Sound (drop (length a - 4096) a) → ⊥) → eqb (length (info_block_of a)) 0 ≡ true
  some-sound x y = rw (none_counts x y)

  -- and is then sound itself
  pub counts_sound : eqb (length (info_block_of a)) 0 ≡ false → Sound (info_block_of a)
  counts_sound e = go (sound (take 4096 a)) refl (sound (drop (length a - 4096) a)) refl
    where
      go : (t : Bool) → sound (take 4096 a) ≡ t → (u : Bool) → sound (drop (length a - 4096) a) ≡ u → Sound (info_block_of a)
      go true p u q = rw (info_in a h, counting_main _ (drop (length a - 4096) a) p) (sound-ok _ (main_small a small) p)
      go false p true q = rw (info_in a h, counting_copy _ _ p q) (sound-ok _ (copy_small a small) q)
      go false p false q = absurd (eqb-false (length (info_block_of a)) 0 e (rw (info_in a h, counting_none _ _ p q)))
