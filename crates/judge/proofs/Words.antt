-- The map's words, passed one by one: what one more word adds to the two searches, and what they come to.
use mathlib.Core.Path.{◌≡◌, refl, sym, ap, ◌∙◌}
use mathlib.Core.Logic.{◌≢◌}
use mathlib.Core.Bool.{Bool, true, false, not, ◌||◌}
use mathlib.Core.List.{List}
use Prim.Native.Nat.{ℕ, ◌+◌, ◌≤◌, ◌<◌}
use native.Mathlib.Nat.{le_antisymm}
use native.Mathlib.Omega.{arith}
use Rattle.std.specs.Prelude.{Err, eqb}
use Rattle.std.proofs.Common.{add-one}
use Rattle.format.specs.MapWord.{flags_of, low_bits, flag_bits, bad_word, sloppy_word, word_fault, fault_number}
use Rattle.format.specs.declared.map.MapState.{MapState}
use Rattle.format.specs.declared.map.MapState.TheVariants.{Unwritten, Bad, Zeroed, Data}
use Rattle.format.specs.declared.map.WordFault.{WordFault}
use Rattle.format.specs.declared.map.WordFault.TheVariants.{PastLast, Sloppy}
use Rattle.format.specs.Tests.{some}
use Rattle.format.proofs.Tests.{some_step, some_pass, some_more, some-found, true_false}
use Rattle.format.proofs.MapWord.{fault_bad, fault_in, fault_sloppy, fault_clean}
use Rattle.layout.specs.Place.{layout_of}
use Rattle.layout.specs.declared.Figures.{Figures}
use Rattle.machine.specs.state.Flog.{map_word}
use Rattle.judge.specs.Judge.{words_number}

-- what a word's flags tell: with 00 it names no block and is sloppy unless it is 0, with others it is not sloppy
pub unwritten_in : (blocks w : ℕ) → 0 ≡ flags_of w → bad_word blocks w ≡ false
unwritten_in blocks w e = rw (← e)

pub unwritten_sloppy : (w : ℕ) → 0 ≡ flags_of w → not (eqb w 0) ≡ sloppy_word w
unwritten_sloppy w e =
    let l : low_bits w ≡ w = omega (arith, e) in
    rw (← e, l)

pub written_clean : (m : MapState) (w : ℕ) → flag_bits m ≡ flags_of w → (m ≡ Unwritten → ⊥) → sloppy_word w ≡ false
written_clean Unwritten w e n = absurd (n refl)
written_clean Bad w e n = rw (← e)
written_clean Zeroed w e n = rw (← e)
written_clean Data w e n = rw (← e)

-- the fault of a word that is not sloppy
pub past_only : (blocks w : ℕ) (x : WordFault) → fault_number {A = Unit {0}} (Err x) ≡ word_fault blocks w → sloppy_word w ≡ false → x ≡ PastLast
past_only blocks w PastLast e k = refl
past_only blocks w Sloppy e k = true_false (sym (fault_sloppy blocks w 18 e refl) ∙ k)

module _ (d : ℕ) (f : Figures) (a : List ℕ) where
  -- what each search asks of a sector's word
  abbrev pub is_bad : ℕ → Bool
  is_bad s = bad_word f.blocks (map_word (layout_of d f) a s)

  abbrev pub is_sloppy : ℕ → Bool
  is_sloppy s = sloppy_word (map_word (layout_of d f) a s)

  -- told of the word at s
  module _ (s w : ℕ) (at_s : w ≡ map_word (layout_of d f) a s) where
    pub bad_next : bad_word f.blocks w ≡ false → some s is_bad ≡ false → some (s + 1) is_bad ≡ false
    bad_next n h = some_more s is_bad h (ap (bad_word f.blocks) (sym at_s) ∙ n)

    pub sloppy_next : (t u : Bool) → t ≡ some s is_sloppy → u ≡ sloppy_word w → t || u ≡ some (s + 1) is_sloppy
    sloppy_next t u p q = rw (add-one, some_step, ← at_s, p, q)

  -- told of the fault x of the word at s
  module _ (s w x : ℕ) (at_s : w ≡ map_word (layout_of d f) a s) (e : x ≡ word_fault f.blocks w) where
    pub bad_found : s < f.sectors → x ≡ 7 → 7 ≡ words_number (layout_of d f) a
    unfolding layout_of
    bad_found u p = rw (some-found f.sectors is_bad s u (ap (bad_word f.blocks) (sym at_s) ∙ fault_bad f.blocks w x e p))

    module _ (n : x ≢ 7) where
      pub bad_more : some s is_bad ≡ false → some (s + 1) is_bad ≡ false
      bad_more h = some_more s is_bad h (ap (bad_word f.blocks) (sym at_s) ∙ fault_in f.blocks w x e n)

      pub sloppy-found : x ≡ 18 → true ≡ some (s + 1) is_sloppy
      sloppy-found p = sym (some-found (s + 1) is_sloppy s (omega arith) (ap sloppy_word (sym at_s) ∙ fault_sloppy f.blocks w x e p))

      pub sloppy_more : x ≢ 18 → some s is_sloppy ≡ some (s + 1) is_sloppy
      sloppy_more m = sym (some_pass s is_sloppy (ap sloppy_word (sym at_s) ∙ fault_clean f.blocks w x e n m))

  -- at the end
  module _ (s : ℕ) (most : s ≤ f.sectors) (all : f.sectors ≤ s) (none : some s is_bad ≡ false) (t : Bool) (e : t ≡ some s is_sloppy) where
    pub ends_sloppy : t ≡ true → 18 ≡ words_number (layout_of d f) a
    unfolding layout_of
    ends_sloppy p = let q = le_antisymm most all in rw (rw q at none, sym (rw q at e) ∙ p)

    pub ends_done : t ≡ false → 0 ≡ words_number (layout_of d f) a
    unfolding layout_of
    ends_done p = let q = le_antisymm most all in rw (rw q at none, sym (rw q at e) ∙ p)
