-- Rule 18 in bytes: a byte of a lane's padding is in a word of it, and a word that is not zero has a byte that is not.
use mathlib.Core.Path.{◌≡◌, refl, sym, ap, ◌∙◌}
use mathlib.Core.Logic.{inl, inr, ⊎_elim}
use mathlib.Core.List.{List}
use mathlib.Core.Bool.{true, false, not, ◌&&◌}
use Prim.Native.Nat.{ℕ, ◌+◌, ◌-◌, ◌*◌, ◌/◌, ◌<◌}
use native.Mathlib.Omega.{arith}
use lib.Dec.{eqb}
use lib.ListN.{get_or}
use borrow.Author.Tests.{eqb-true, eqb-false, not-true, not-false}
use Rattle.words.specs.Word.{word}
use Rattle.words.specs.Bytes.{Small}
use Rattle.words.proofs.Bytes.{byte_zero, byte_set}
use Rattle.format.specs.MapWord.{sloppy_word}
use Rattle.format.proofs.Tests.{true_false, by_bool, and_elim, or-true, some_elim, some_true}
use Rattle.format.proofs.InNumbers.{map_words}
use Rattle.layout.specs.Figures.{Allowed}
use Rattle.layout.specs.Claims.{InPadding}
use Rattle.layout.specs.Place.{Layout, layout_of, lane_word_at, is_padding}
use Rattle.layout.specs.Told.{DistanceOk}
use Rattle.layout.specs.declared.Figures.{Figures}
use Rattle.layout.proofs.Offsets.{lane_start}
use Rattle.layout.proofs.Padding.{padding_byte, byte_padding}
use Rattle.machine.specs.state.Flog.{map_word, lane_word, padding_set}
use Rattle.machine.specs.calls.Opening.{word_sloppy, lane_padded, sloppy}
use Rattle.machine.specs.words.InBytes.{lane_byte}
use Rattle.machine.specs.words.Valid.{SloppyLane, SloppyIn, Clean}
use Rattle.machine.proofs.stores.Offsets.{map-word}
use Rattle.machine.proofs.invariant.Tidy.{Tidy, tidy_of}

module _ (d : ℕ) (dist : DistanceOk d) (f : Figures) (n : ℕ) (ok : Allowed f n) (a : List ℕ) (small : Small a) where
  abbrev g : Layout
  g = layout_of d f

  -- byte j of lane l is in word j / 4 of it
  in_word : (l j : ℕ) → lane_byte f l j / 4 ≡ lane_word_at g l (j / 4)
  in_word l j = omega (arith, lane_start d f n ok l (j / 4))

  distance : g.D ≡ d / 4
  unfolding layout_of
  distance = refl

  byte_clean : (l j : ℕ) → padding_set g a l ≡ false → j < 64 → InPadding d j → get_or a (lane_byte f l j) 0 ≡ 0
  unfolding padding_set
  byte_clean l j e u p =
      let t : is_padding g.D (j / 4) ≡ true = rw distance (byte_padding d j dist p) in
      let z = some_elim 16 (λ k. is_padding g.D k && not (eqb (lane_word g a l k) 0)) e (j / 4) (omega arith) in
      let w : lane_word g a l (j / 4) ≡ 0 = eqb-true _ _ (not-false _ (rw t at z)) in
      byte_zero a (lane_byte f l j) small (ap (word a) (in_word l j) ∙ w)

  pub tidy_clean : Tidy g a → Clean d f a
  unfolding layout_of
  tidy_clean t = record {
    words = λ s u w. true_false (sym (map_words.rule_18_back (map_word g a s) (rw (map-word d f n ok a s) w)) ∙ t.words s u);
    padding = λ l j u v p. byte_clean l j (t.padding l u) v p;
  }

  lane-found : (l : ℕ) → padding_set g a l ≡ true → SloppyLane d f a l
  unfolding padding_set
  lane-found l e =
      let w = some_true 16 (λ k. is_padding g.D k && not (eqb (lane_word g a l k) 0)) e in
      let k = w.0 in
      let p = and_elim (is_padding g.D k) (not (eqb (lane_word g a l k) 0)) w.2 in
      let b = byte_set a (lane_word_at g l k) (eqb-false _ _ (not-true _ p.1)) in
      let s = lane_start d f n ok l k in
      let j = b.0 - (f.flogoff + 64 * l) in
      let at_j : b.0 ≡ lane_byte f l j = omega (arith, b.1) in
      let in_k : j / 4 ≡ k = omega (arith, b.1) in
      (j, omega (arith, b.1, w.1), padding_byte d j dist (rw (in_k, ← distance) p.0), λ z. b.2 (ap (λ (i : ℕ). get_or a i 0) at_j ∙ z))

  pub sloppy-found : sloppy g a ≡ true → SloppyIn d f a
  unfolding layout_of
  sloppy-found e = ⊎_elim
      (λ p. let w = some_true g.E (λ s. sloppy_word (map_word g a s)) p in
      inl (w.0, w.1, rw (map-word d f n ok a w.0) at (map_words.rule_18 (map_word g a w.0) w.2)))
      (λ p. let w = some_true g.N (padding_set g a) p in inr (w.0, w.1, lane-found w.0 w.2))
      (or-true (word_sloppy g a) (lane_padded g a) e)

  -- what is clean has nothing sloppy
  none_found : Clean d f a → SloppyIn d f a → ⊥
  none_found c (inl w) = c.words w.0 w.1 w.2
  none_found c (inr w) = w.2.3 (c.padding w.0 w.2.0 w.1 w.2.1 w.2.2)

  pub found-sloppy : SloppyIn d f a → sloppy g a ≡ true
  found-sloppy w = by_bool (sloppy g a) _ (λ t. t) (λ t. absurd (none_found (tidy_clean (tidy_of g a t)) w))

  pub clean_passes : Clean d f a → sloppy g a ≡ false
  clean_passes c = by_bool (sloppy g a) _ (λ t. absurd (none_found c (sloppy-found t))) (λ t. t)
