-- The signature word by word.
use mathlib.Core.Path.{◌≡◌, refl}
use mathlib.Core.List.{[], ◌∷◌}
use Prim.Native.Nat.{ℕ, zero, suc, ◌<◌}
use native.Mathlib.Omega.{arith}
use lib.ListN.{get_or}
use Rattle.words.specs.Word.{word}
use Rattle.infoblock.specs.Info.{signature}

-- the words of the signature
pub signature-word : (k : ℕ) → k < 4 → get_or (1599362114 ∷ 1313165889 ∷ 1313431361 ∷ 20294 ∷ []) k 0 ≡ word signature k
unfolding word
signature-word zero l = refl
signature-word (suc zero) l = refl
signature-word (suc (suc zero)) l = refl
signature-word (suc (suc (suc zero))) l = refl
signature-word (suc (suc (suc (suc k)))) l = absurd (omega arith)
