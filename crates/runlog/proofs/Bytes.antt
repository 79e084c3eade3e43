-- A record is found exactly where its bytes stand: the bytes at an offset one by one, and the numbers that two and four of them make.
use mathlib.Core.Path.{◌≡◌, refl, sym, ap, ◌∙◌, subst}
use mathlib.Core.List.{List, [], ◌∷◌}
use Prim.Native.Nat.{ℕ, zero, suc, ◌+◌, ◌*◌, ◌/◌, ◌%◌, ◌≤◌, ◌<◌}
use native.Mathlib.Omega.{arith}
use native.Mathlib.Nat.{div-div-eq-div-mul, mod-eq_of_lt}
use lib.ListN.{length, get_or, take, drop, length-take, length-drop}
use lib.Seq.{drop-cons}
use Rattle.std.specs.Prelude.{Some}
use Rattle.words.specs.Bytes.{byte_word}
use Rattle.runlog.specs.declared.record.Record.{Record}
use Rattle.runlog.specs.declared.record.Record.TheVariants.{Start, Step, Cut}
use Rattle.runlog.specs.Record.{byte_half, record_at}
use Rattle.runlog.specs.Claims.{four_bytes, bytes_of, Fits, StandsAt}
use Rattle.runlog.proofs.Laws.{record_cases, record_named}

-- n bytes from byte k after an offset on
abbrev bytes_from : List ℕ → ℕ → ℕ → ℕ → List ℕ
bytes_from log at k zero = []
bytes_from log at k (suc n) = get_or log (at + k) 0 ∷ bytes_from log at (suc k) n

from_bytes : (n k : ℕ) (log : List ℕ) (at : ℕ) → at + k + n ≤ length log → take n (drop (at + k) log) ≡ bytes_from log at k n
from_bytes zero k log at h = refl
from_bytes (suc n) k log at h =
    let e : suc (at + k) ≡ at + suc k = omega arith in
    let l : at + k < length log = omega arith in
    ap (take (suc n)) (drop-cons log (at + k) 0 l)
    ∙ ap (λ (bs : List ℕ). get_or log (at + k) 0 ∷ bs) (ap (λ (m : ℕ). take n (drop m log)) e ∙ from_bytes n (suc k) log at (omega arith))

-- the bytes that stand at an offset
bytes-at : (n : ℕ) (log : List ℕ) (at : ℕ) → at + suc n ≤ length log → take (suc n) (drop at log) ≡ get_or log at 0 ∷ bytes_from log at 1 n
bytes-at n log at h =
    let e : suc at ≡ at + 1 = omega arith in
    let l : at < length log = omega arith in
    ap (take (suc n)) (drop-cons log at 0 l)
    ∙ ap (λ (bs : List ℕ). get_or log at 0 ∷ bs) (ap (λ (m : ℕ). take n (drop m log)) e ∙ from_bytes n 1 log at (omega arith))

-- where n bytes stand there is room for them
room-of : (n : ℕ) (log : List ℕ) (at : ℕ) (bs : List ℕ) → take (suc n) (drop at log) ≡ bs → length bs ≡ suc n → at + suc n ≤ length log
room-of n log at bs e l = let m = simp (length-take, length-drop) at (ap length e) in omega arith

-- the numbers at byte k after an offset
half_plus : (log : List ℕ) (at k : ℕ) → byte_half log (at + k) ≡ get_or log (at + k) 0 + 256 * get_or log (at + suc k) 0
half_plus log at k = let e : at + k + 1 ≡ at + suc k = omega arith in rw e

word-plus : (log : List ℕ) (at k : ℕ) → byte_word log (at + k) ≡ get_or log (at + k) 0 + 256 * get_or log (at + suc k) 0
    + 65536 * get_or log (at + suc (suc k)) 0 + 16777216 * get_or log (at + suc (suc (suc k))) 0
word-plus log at k =
    let e1 : at + k + 1 ≡ at + suc k = omega arith in
    let e2 : at + k + 2 ≡ at + suc (suc k) = omega arith in
    let e3 : at + k + 3 ≡ at + suc (suc (suc k)) = omega arith in
    rw (e1, e2, e3)

-- a number is made of its bytes, and gives them back
two_made : (n : ℕ) → n < 65536 → n ≡ n % 256 + 256 * (n / 256 % 256)
two_made n h = omega arith

four_made : (n : ℕ) → n < 4294967296 → n ≡ n % 256 + 256 * (n / 256 % 256) + 65536 * (n / 65536 % 256) + 16777216 * (n / 16777216 % 256)
four_made n h =
    let c : n / 16777216 < 256 = omega arith in
    omega (arith, div-div-eq-div-mul n 256 256, div-div-eq-div-mul n 65536 256, mod-eq_of_lt c)

two_back : (n a b : ℕ) → n ≡ a + 256 * b → a < 256 → b < 256 → (a ≡ n % 256) × (b ≡ n / 256 % 256)
two_back n a b e p q = (omega arith, omega arith)

four_back : (n a b c d : ℕ) → n ≡ a + 256 * b + 65536 * c + 16777216 * d → a < 256 → b < 256 → c < 256 → d < 256
    → (a ≡ n % 256) × (b ≡ n / 256 % 256) × (c ≡ n / 65536 % 256) × (d ≡ n / 16777216 % 256)
four_back n a b c d e p q r s = (omega arith, omega arith, omega arith, omega arith)

-- the numbers that the bytes after an offset make, where those bytes are a head's, a lane's or a sector's
head_of : (log : List ℕ) (at n k : ℕ) (xs ys : List ℕ)
    → get_or log at 0 ∷ get_or log (at + 1) 0 ∷ get_or log (at + 2) 0 ∷ get_or log (at + 3) 0 ∷ xs ≡ n ∷ 0 ∷ k ∷ 0 ∷ ys
    → (n ≡ byte_half log at) × (k ≡ byte_half log (at + 2)) × (xs ≡ ys)
head_of log at n k xs ys e =
    let b0 : get_or log at 0 ≡ n = cc in
    let b1 : get_or log (at + 1) 0 ≡ 0 = cc in
    let b2 : get_or log (at + 2) 0 ≡ k = cc in
    let b3 : get_or log (at + 3) 0 ≡ 0 = cc in
    (omega arith, omega (arith, half_plus log at 2), cc)

lane_of : (log : List ℕ) (at lane : ℕ) (xs ys : List ℕ) → lane < 65536
    → get_or log (at + 4) 0 ∷ get_or log (at + 5) 0 ∷ xs ≡ lane % 256 ∷ lane / 256 % 256 ∷ ys → (lane ≡ byte_half log (at + 4)) × (xs ≡ ys)
lane_of log at lane xs ys h e =
    let b4 : get_or log (at + 4) 0 ≡ lane % 256 = cc in
    let b5 : get_or log (at + 5) 0 ≡ lane / 256 % 256 = cc in
    (omega (arith, half_plus log at 4, two_made lane h), cc)

sector-of : (log : List ℕ) (at sector : ℕ) → sector < 4294967296 → bytes_from log at 6 4 ≡ four_bytes sector → sector ≡ byte_word log (at + 6)
sector-of log at sector h e =
    let b6 : get_or log (at + 6) 0 ≡ sector % 256 = cc in
    let b7 : get_or log (at + 7) 0 ≡ sector / 256 % 256 = cc in
    let b8 : get_or log (at + 8) 0 ≡ sector / 65536 % 256 = cc in
    let b9 : get_or log (at + 9) 0 ≡ sector / 16777216 % 256 = cc in
    omega (arith, word-plus log at 6, four_made sector h)

-- a record is found where its bytes stand
pub found_at : (log : List ℕ) (at : ℕ) (r : Record) → Fits r → StandsAt log at r → record_at log at ≡ Some r
found_at log at (Start lane sector) f s =
    let room = room-of 9 log at (bytes_of (Start lane sector)) s refl in
    let h = head_of log at 10 1 _ _ (sym (bytes-at 9 log at room) ∙ s) in
    let l = lane_of log at lane.0 _ _ f.0 h.2 in
    let w = sector-of log at sector.0 f.1 l.1 in
    sym (record_named log at 10 1 (Some (Start lane sector)) h.0 h.1 (omega arith) room (rw (← l.0, ← w)))
found_at log at (Step lane) f s =
    let room = room-of 5 log at (bytes_of (Step lane)) s refl in
    let h = head_of log at 6 2 _ _ (sym (bytes-at 5 log at room) ∙ s) in
    let l = lane_of log at lane.0 _ _ f h.2 in
    sym (record_named log at 6 2 (Some (Step lane)) h.0 h.1 (omega arith) room (rw (← l.0)))
found_at log at Cut f s =
    let room = room-of 3 log at (bytes_of Cut) s refl in
    let h = head_of log at 4 3 _ _ (sym (bytes-at 3 log at room) ∙ s) in
    sym (record_named log at 4 3 (Some Cut) h.0 h.1 (omega arith) room refl)

-- bytes that make a head with a length and a kind below 256, and bytes that make a lane, and a sector
head_bytes : (log : List ℕ) (at n k : ℕ) (xs ys : List ℕ) → n < 256 → k < 256 → byte_half log at ≡ n → byte_half log (at + 2) ≡ k → xs ≡ ys
    → get_or log at 0 ∷ get_or log (at + 1) 0 ∷ get_or log (at + 2) 0 ∷ get_or log (at + 3) 0 ∷ xs ≡ n ∷ 0 ∷ k ∷ 0 ∷ ys
head_bytes log at n k xs ys p q is-n is-k e =
    let h = half_plus log at 2 in
    let b0 : get_or log at 0 ≡ n = omega arith in
    let b1 : get_or log (at + 1) 0 ≡ 0 = omega arith in
    let b2 : get_or log (at + 2) 0 ≡ k = omega arith in
    let b3 : get_or log (at + 3) 0 ≡ 0 = omega arith in
    cc

-- a record that is found stands there, in a log whose bytes from there on are bytes
module _ (log : List ℕ) (at : ℕ) (small : (j : ℕ) → get_or log (at + j) 0 < 256) where
  lane-bytes : (xs ys : List ℕ) → xs ≡ ys
      → get_or log (at + 4) 0 ∷ get_or log (at + 5) 0 ∷ xs ≡ byte_half log (at + 4) % 256 ∷ byte_half log (at + 4) / 256 % 256 ∷ ys
  lane-bytes xs ys e = let b = two_back (byte_half log (at + 4)) _ _ (half_plus log at 4) (small 4) (small 5) in cc

  sector-bytes : bytes_from log at 6 4 ≡ four_bytes (byte_word log (at + 6))
  sector-bytes =
      let b = four_back (byte_word log (at + 6)) _ _ _ _ (word-plus log at 6) (small 6) (small 7) (small 8) (small 9) in
      cc

  pub stands_at : (r : Record) → record_at log at ≡ Some r → Fits r × StandsAt log at r
  stands_at r =
      record_cases (λ o. o ≡ Some r → Fits r × StandsAt log at r) log at
      (λ e. absurd cc)
      (λ h. here (Start _ _) (
        (omega (arith, half_plus log at 4, small 4, small 5), omega (arith, word-plus log at 6, small 6, small 7, small 8, small 9)),
        bytes-at 9 log at h.0 ∙ head_bytes log at 10 1 _ _ (omega arith) (omega arith) h.1 h.2 (lane-bytes _ _ sector-bytes),
      ))
      (λ h. here (Step _) (
        omega (arith, half_plus log at 4, small 4, small 5),
        bytes-at 5 log at h.0 ∙ head_bytes log at 6 2 _ _ (omega arith) (omega arith) h.1 h.2 (lane-bytes [] [] refl),
      ))
      (λ h. here Cut (tt, bytes-at 3 log at h.0 ∙ head_bytes log at 4 3 [] [] (omega arith) (omega arith) h.1 h.2 refl))
    where
      here : (q : Record) → Fits q × StandsAt log at q → Some q ≡ Some r → Fits r × StandsAt log at r
      here q f e = let same : q ≡ r = cc in subst (λ (x : Record). Fits x × StandsAt log at x) same f
