-- A made arena's map, flog and padding byte by byte: from its words, each of which is its four bytes.
use mathlib.Core.Path.{◌≡◌, sym, ap, ◌∙◌}
use mathlib.Core.List.{List}
use Prim.Native.Nat.{ℕ, zero, suc, ◌+◌, ◌-◌, ◌*◌, ◌/◌, ◌%◌, ◌≤◌, ◌<◌}
use native.Mathlib.Omega.{arith}
use lib.ListN.{get_or}
use Rattle.words.specs.Word.{word}
use Rattle.words.specs.Bytes.{byte_word}
use Rattle.words.proofs.Bytes.{word-bytes-at, word_at}
use Rattle.layout.specs.Place.{Layout}
use Rattle.machine.specs.calls.Making.{fresh_lane, data_end}
use Rattle.machine.specs.claims.Making.{FreshLane}
use Rattle.machine.proofs.making.FreshWords.{rest_zero, made, Room, word-before, word_lane, word_after}

-- a zero word is four zero bytes
zero_bytes : (a : List ℕ) (i r : ℕ) → r < 4 → word a i ≡ 0 → get_or a (4 * i + r) 0 ≡ 0
zero_bytes a i zero u e = let p : 4 * i + 0 ≡ 4 * i = omega arith in rw p (omega (arith, sym (word-bytes-at a i) ∙ e))
zero_bytes a i (suc zero) u e = omega (arith, sym (word-bytes-at a i) ∙ e)
zero_bytes a i (suc (suc zero)) u e = omega (arith, sym (word-bytes-at a i) ∙ e)
zero_bytes a i (suc (suc (suc zero))) u e = omega (arith, sym (word-bytes-at a i) ∙ e)
zero_bytes a i (suc (suc (suc (suc r)))) u e = absurd (omega arith)

-- so a byte is zero if the word that it is part of is
zero_byte : (a : List ℕ) (j : ℕ) → word a (j / 4) ≡ 0 → get_or a j 0 ≡ 0
zero_byte a j e =
    let p : j ≡ 4 * (j / 4) + j % 4 = omega arith in
    ap (λ (k : ℕ). get_or a k 0) p ∙ zero_bytes a (j / 4) (j % 4) (omega arith) e

module _ (g : Layout) (a info : List ℕ) (r : Room g a info) where
  pub before_flog : (j : ℕ) → 4 * data_end g ≤ j → j < 4 * g.flog₀ → get_or (made g a info) j 0 ≡ 0
  before_flog j u v = zero_byte (made g a info) j (word-before g a info r (j / 4) (omega arith) (omega arith))

  pub after_flog : (j : ℕ) → 4 * (g.flog₀ + 16 * g.N) ≤ j → j < 4 * g.copy₀ → get_or (made g a info) j 0 ≡ 0
  after_flog j u v = zero_byte (made g a info) j (word_after g a info r (j / 4) (omega arith) (omega arith))

  -- word k of lane l, by its byte
  lane-word : (l k : ℕ) → l < g.N → k < 16 → byte_word (made g a info) (4 * g.flog₀ + 64 * l + 4 * k) ≡ get_or (fresh_lane g.E l) k 0
  lane-word l k u v = sym (word_at (made g a info) (g.flog₀ + 16 * l + k) _ (omega arith)) ∙ word_lane g a info r l k u v

  pub fresh-lane : (l : ℕ) → l < g.N → FreshLane g.E l (made g a info) (4 * g.flog₀ + 64 * l)
  fresh-lane l u =
      record {
        sector = lane-word l 0 u (omega arith);
        old = lane-word l 1 u (omega arith);
        new = lane-word l 2 u (omega arith);
        sequence = lane-word l 3 u (omega arith);
        rest = λ j p q. zero_byte (made g a info) j (rest j p q);
      }
    where
      rest : (j : ℕ) → 4 * g.flog₀ + 64 * l + 16 ≤ j → j < 4 * g.flog₀ + 64 * l + 64 → word (made g a info) (j / 4) ≡ 0
      rest j p q =
          let k : ℕ = j / 4 - (g.flog₀ + 16 * l) in
          let e : j / 4 ≡ g.flog₀ + 16 * l + k = omega arith in
          ap (word (made g a info)) e ∙ word_lane g a info r l k u (omega arith) ∙ rest_zero g.E l k (omega arith) (omega arith)
