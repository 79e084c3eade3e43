-- The places of a write's stores: no write stores to one place twice, and two writes with different blocks, lanes and sectors share no
-- place. The first stores of a write are those with the first numbers.
use mathlib.Core.Path.{◌≡◌, ap}
use mathlib.Core.Logic.{◌≢◌, ◌⊎◌, inl, inr}
use mathlib.Core.List.Memᴰ
use mathlib.Core.List.{
  List,
  [],
  ◌∷◌,
  ◌++◌,
  Memᴰ,
}
use Prim.Native.Nat.{ℕ, zero, suc, ◌+◌, ◌<◌}
use native.Mathlib.Omega.{arith}
use native.Mathlib.Decide.{ℕ_discrete}
use Rattle.format.proofs.Tests.{true_false}
use Rattle.layout.specs.Place.{Layout}
use Rattle.machine.specs.state.Stores.{Store}
use Rattle.machine.specs.calls.Writing.{Plan, store_at, first_stores}
use Rattle.machine.proofs.stores.Kinds.{Kind, is_data, is_log, is_map, kind}

module _ (g : Layout) (p q : Plan) (c d : List ℕ) (k j : ℕ) (u : k < g.W + 5) (v : j < g.W + 5) where
  -- two stores at one place have one number, and their writes share a block, a lane or a sector
  meet : (store_at g p c k).place ≡ (store_at g q d j).place
      → (k ≡ j) × (p.new ≢ q.new → p.lane ≢ q.lane → p.sector ≢ q.sector → ⊥)
  meet e = go (kind g p c k u) (kind g q d j v)
    where
      go : Kind g p c k → Kind g q d j → (k ≡ j) × (p.new ≢ q.new → p.lane ≢ q.lane → p.sector ≢ q.sector → ⊥)
      go (is_data _ s) (is_data _ t) = (cc, λ n _ _. n (cc))
      go (is_data _ s) (is_log i _ _ t) = true_false (cc)
      go (is_data _ s) (is_map _ t) = true_false (cc)
      go (is_log i _ _ s) (is_data _ t) = true_false (cc)
      go (is_log i _ m s) (is_log i' _ n t) = let w : i ≡ i' = cc in (omega arith, λ _ n _. n (cc))
      go (is_log i _ _ s) (is_map _ t) = true_false (cc)
      go (is_map _ s) (is_data _ t) = true_false (cc)
      go (is_map _ s) (is_log i _ _ t) = true_false (cc)
      go (is_map m s) (is_map n t) = (omega arith, λ _ _ n. n (cc))

-- one write stores to no place twice
pub place_once : (g : Layout) (p : Plan) (c : List ℕ) (k j : ℕ) → k < g.W + 5 → j < g.W + 5
    → (store_at g p c k).place ≡ (store_at g p c j).place → k ≡ j
place_once g p c k j u v e = (meet g p p c c k j u v e).0

-- two writes with different blocks, lanes and sectors share no place
pub place_apart : (g : Layout) (p q : Plan) (c d : List ℕ) (k j : ℕ) → k < g.W + 5 → j < g.W + 5
    → p.new ≢ q.new → p.lane ≢ q.lane → p.sector ≢ q.sector → (store_at g p c k).place ≢ (store_at g q d j).place
place_apart g p q c d k j u v n l s e = (meet g p q c d k j u v e).1 n l s

-- ---- the first stores of a write

module _ (g : Layout) (p : Plan) (c : List ℕ) where
  pub first_in : (n k : ℕ) → k < n → Memᴰ (store_at g p c k) (first_stores g p c n)
  unfolding first_stores
  first_in zero k u = absurd (omega arith)
  first_in (suc n) k u = go (ℕ_discrete k n) (λ v. first_in n k v)
    where
      go : Dec (k ≡ n) → (k < n → Memᴰ (store_at g p c k) (first_stores g p c n))
          → Memᴰ (store_at g p c k) (first_stores g p c n ++ (store_at g p c n ∷ []))
      go (yes e) ih = Memᴰ.append_right (first_stores g p c n) (Memᴰ.head (ap (store_at g p c) e))
      go (no e) ih = Memᴰ.append_left _ (ih (omega arith))

  pub first_out : (n : ℕ) (st : Store) → Memᴰ st (first_stores g p c n) → (k : ℕ) × (k < n) × (st ≡ store_at g p c k)
  unfolding first_stores
  first_out zero st m = absurd (Memᴰ.not-nil m)
  first_out (suc n) st m = go (Memᴰ.append_cases (first_stores g p c n) m) (λ v. first_out n st v)
    where
      go : Memᴰ st (first_stores g p c n) ⊎ Memᴰ st (store_at g p c n ∷ [])
          → (Memᴰ st (first_stores g p c n) → (k : ℕ) × (k < n) × (st ≡ store_at g p c k)) → (k : ℕ) × (k < suc n) × (st ≡ store_at g p c k)
      go (inl v) ih = let r = ih v in (r.0, omega (arith, r.1), r.2)
      go (inr v) ih = (n, omega arith, Memᴰ.eq_of_singleton v)
