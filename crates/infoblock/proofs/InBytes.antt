-- The info block's fields by byte, when it is sound, and which of two counts: the definitions by word number taken to bytes.
use mathlib.Core.Path.{◌≡◌, refl, sym, ap, ◌∙◌}
use mathlib.Core.Bool.{true, false}
use mathlib.Core.List.{List, [], ◌∷◌}
use Prim.Native.Nat.{ℕ, ◌/◌, ◌%◌, ◌≤◌}
use native.Mathlib.Omega.{arith}
use lib.Dec.{eqb}
use lib.ListN.{length, get_or, take}
use lib.Seq.{get_or-take}
use borrow.Author.Tests.{eqb-true, eq-eqb}
use Rattle.words.specs.Word.{word, long}
use Rattle.words.specs.Bytes.{Small, byte_word}
use Rattle.words.proofs.Bytes.{word_at, long-at}
use Rattle.fletcher.proofs.PlainSums.{checksum_claim}
use Rattle.format.proofs.Tests.{by_bool, and_elim, and_intro, all_elim, every_elim}
use Rattle.layout.specs.Figures.{length_allowed, figures_allowed, figures_at}
use Rattle.layout.specs.Claims.{Length}
use Rattle.layout.specs.declared.Figures.{Figures}
use Rattle.layout.proofs.Allowed.{allowed_of, of_allowed}
use Rattle.layout.proofs.InBytes.{allowed_claim}
use Rattle.infoblock.specs.Info.{signature, signed, sound, info_block_of, figures_of, header_allowed}
use Rattle.infoblock.specs.Claims.{byte_short, Fields, Header, FieldsClaim, signature_bytes, Sound, SoundClaim}
use Rattle.infoblock.proofs.InfoBlock.{
  take_same,
  counts_main,
  counts_copy,
  counts_none,
  counting_main,
  counting_copy,
  counting_none,
  info_in,
  sound_size,
  sound-signed,
  sound_checksum,
  sound_intro,
  signature_small,
  bytes_signed,
}

fields_of : (b : List ℕ) → Fields b (figures_of b)
unfolding figures_of figures_at
fields_of b =
    record {
      size = word_at b 14 56 refl;
      sectors = word_at b 15 60 refl;
      internal = word_at b 16 64 refl;
      blocks = word_at b 17 68 refl;
      lanes = word_at b 18 72 refl;
      data_start = long-at b 22 88 refl;
      map-start = long-at b 24 96 refl;
      flog-start = long-at b 26 104 refl;
      copy-start = long-at b 28 112 refl;
    }

-- the figures of a block with given fields are the given ones
pub figures_are : (b : List ℕ) (f : Figures) → Fields b f → figures_of b ≡ f
figures_are b f e =
    let d = fields_of b in
    λ j. record {
      size = (d.size ∙ sym e.size) j;
      sectors = (d.sectors ∙ sym e.sectors) j;
      internal = (d.internal ∙ sym e.internal) j;
      blocks = (d.blocks ∙ sym e.blocks) j;
      lanes = (d.lanes ∙ sym e.lanes) j;
      dataoff = (d.data_start ∙ sym e.data_start) j;
      mapoff = (d.map-start ∙ sym e.map-start) j;
      flogoff = (d.flog-start ∙ sym e.flog-start) j;
      copyoff = (d.copy-start ∙ sym e.copy-start) j;
    }

-- the version's word as two 16-bit numbers, and back
pub version_of : (b : List ℕ) (m n : ℕ) → Small b → byte_word b 52 % 65536 ≡ m → byte_word b 52 / 65536 ≡ n
    → (byte_short b 52 ≡ m) × (byte_short b 54 ≡ n)
version_of b m n s p q = (omega (arith, s 52, s 53), omega (arith, s 52, s 53))

of_version : (b : List ℕ) (m n : ℕ) → Small b → byte_short b 52 ≡ m → byte_short b 54 ≡ n
    → (byte_word b 52 % 65536 ≡ m) × (byte_word b 52 / 65536 ≡ n)
of_version b m n s p q = (omega (arith, s 52, s 53), omega (arith, s 52, s 53))

header_of : (next : ℕ) (b : List ℕ) → Small b → header_allowed next b ≡ true → Header next b
unfolding header_allowed
header_of next b s e =
    let h = all_elim (eqb (word b 13 % 65536) 2 ∷ eqb (word b 13 / 65536) 0 ∷ eqb (word b 19) 4096 ∷ eqb (long b 20) next ∷ []) e in
    let w : word b 13 ≡ byte_word b 52 = word_at b 13 52 refl in
    let p : word b 13 % 65536 ≡ 2 = eqb-true _ _ h.0 in
    let q : word b 13 / 65536 ≡ 0 = eqb-true _ _ h.1.0 in
    let v = version_of b 2 0 s (rw w at p) (rw w at q) in
    record {
      major = v.0;
      minor = v.1;
      info_size = sym (word_at b 19 76 refl) ∙ eqb-true _ _ h.1.1.0;
      next_arena = sym (long-at b 20 80 refl) ∙ eqb-true _ _ h.1.1.1.0;
    }

of_header : (next : ℕ) (b : List ℕ) → Small b → Header next b → header_allowed next b ≡ true
unfolding header_allowed
of_header next b s h =
    let w : word b 13 ≡ byte_word b 52 = word_at b 13 52 refl in
    let v = of_version b 2 0 s h.major h.minor in
    rw (
      w,
      eq-eqb _ _ v.0,
      eq-eqb _ _ v.1,
      eq-eqb _ _ (word_at b 19 76 refl ∙ h.info_size),
      eq-eqb _ _ (long-at b 20 80 refl ∙ h.next_arena),
    )

pub fields_claim : FieldsClaim
fields_claim =
    record {
      figures = fields_of;
      flags = λ b. word_at b 12 48 refl;
      flags-allowed = λ b e. sym (word_at b 12 48 refl) ∙ eqb-true _ _ e;
      flags_allowed_back = λ b e. eq-eqb _ _ (word_at b 12 48 refl ∙ e);
      header = header_of;
      header_back = of_header;
      rule_3 = λ t b n s e.
          let p = and_elim (header_allowed t.next b) (figures_allowed (figures_of b) n) e in
          (header_of t.next b s p.0, allowed_of (figures_of b) n p.1);
      rule_3_back = λ t b n s h a.
          and_intro (header_allowed t.next b) (figures_allowed (figures_of b) n) (of_header t.next b s h) (of_allowed (figures_of b) n a);
    }

-- signed, as bytes
pub signature_of : (b : List ℕ) → 16 ≤ length b → Small b → signed b ≡ true → take 16 b ≡ signature_bytes
unfolding signed
signature_of b h s e =
    take_same b signature 16 refl h (omega arith) s signature_small
    (λ i v. eqb-true _ _ (every_elim 4 (λ j. eqb (word b j) (word signature j)) e i (omega arith)))

of_signature : (b : List ℕ) → take 16 b ≡ signature_bytes → signed b ≡ true
of_signature b e = bytes_signed b (λ k u. sym (get_or-take 16 b k 0 u) ∙ ap (λ (l : List ℕ). get_or l k 0) e)

pub sound_is : (b : List ℕ) → Small b → sound b ≡ true → Sound b
sound_is b s e =
    let l = sound_size b e in
    record {
      size = l;
      signature = signature_of b (omega arith) s (sound-signed b e);
      checksum = sym (long-at b 1022 4088 refl) ∙ sound_checksum b e ∙ checksum_claim.block b l;
    }

is_sound : (b : List ℕ) → Sound b → sound b ≡ true
is_sound b s =
    sound_intro b s.size (of_signature b s.signature)
    (long-at b 1022 4088 refl ∙ s.checksum ∙ sym (checksum_claim.block b s.size))

-- not sound, as the test says it
pub unsound : (b : List ℕ) → Small b → (Sound b → ⊥) → sound b ≡ false
unsound b s n = by_bool (sound b) (sound b ≡ false) (λ e. absurd (n (sound_is b s e))) (λ e. e)

no_arena : (a : List ℕ) → (Length (length a) → ⊥) → info_block_of a ≡ []
unfolding info_block_of
no_arena a n =
    by_bool (length_allowed (length a)) (info_block_of a ≡ []) (λ e. absurd (n (allowed_claim.length (length a) e))) (λ e. rw e)

pub sound_claim : SoundClaim
sound_claim =
    record {
      sound_is = sound_is;
      is_sound = is_sound;
      main = λ m c s. let e = is_sound m s in (counts_main m c e, counting_main m c e);
      copy = λ m c t n s. let e = unsound m t n in let f = is_sound c s in (counts_copy m c e f, counting_copy m c e f);
      none = λ m c t u n o. let e = unsound m t n in let f = unsound c u o in (counts_none m c e f, counting_none m c e f);
      numbers = (refl, refl, refl);
      arena = λ a l. info_in a (allowed_claim.length_back (length a) l);
      no_arena = no_arena;
    }
