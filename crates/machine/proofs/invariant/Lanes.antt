-- Lists of lane records: the records of the lanes below n, one by one, and the invariant of records that agree below the lanes.
use mathlib.Core.Path.{◌≡◌, refl, sym, ap, ap₂, ◌∙◌}
use mathlib.Core.List.{List, [], ◌∷◌, ◌++◌, append_assoc, append-nil}
use Prim.Native.Nat.{ℕ, zero, suc, ◌+◌, ◌-◌, ◌≤◌, ◌<◌}
use native.Mathlib.Omega.{arith}
use native.Mathlib.Decide.{ℕ_discrete}
use lib.ListN.{length, drop, length-append, length-drop}
use lib.Seq.{get_or_at, get_or-append-add, get_or-drop}
use Rattle.layout.specs.Place.{Layout}
use Rattle.machine.specs.declared.lane.Lane.{Lane}
use Rattle.machine.specs.state.Lane.{no_lane}
use Rattle.machine.specs.state.Handle.{lane_at}
use Rattle.machine.specs.calls.Opening.{found_lane, found_lanes, filled}
use Rattle.machine.proofs.stores.Once.{once_same}
use Rattle.machine.proofs.invariant.Inv.{Inv}

unfoldable pub listed : (ℕ → Lane) → ℕ → List Lane
listed f zero = []
listed f (suc n) = listed f n ++ (f n ∷ [])

module _ (f : ℕ → Lane) where
  pub listed-length : (n : ℕ) → length (listed f n) ≡ n
  unfolding listed
  listed-length zero = refl
  listed-length (suc n) = length-append (listed f n) (f n ∷ []) ∙ omega (arith, listed-length n)

  listed_at : (n l : ℕ) (rest : List Lane) → l < n → lane_at (listed f n ++ rest) l ≡ f l
  unfolding listed
  listed_at zero l rest u = absurd (omega arith)
  listed_at (suc n) l rest u =
      ap (λ (x : List Lane). lane_at x l) (append_assoc (listed f n) (f n ∷ []) rest) ∙ go (ℕ_discrete l n) (λ v. listed_at n l (f n ∷ rest) v)
    where
      go : Dec (l ≡ n) → (l < n → lane_at (listed f n ++ (f n ∷ rest)) l ≡ f l) → lane_at (listed f n ++ (f n ∷ rest)) l ≡ f l
      go (yes e) ih = get_or_at (listed f n) (f n) rest no_lane l (listed-length n ∙ sym e) ∙ ap f (sym e)
      go (no d) ih = ih (omega arith)

  pub lane-listed : (n l : ℕ) → l < n → lane_at (listed f n) l ≡ f l
  lane-listed n l u = ap (λ (x : List Lane). lane_at x l) (sym (append-nil (listed f n))) ∙ listed_at n l [] u

pub listed_same : (f f' : ℕ → Lane) (n : ℕ) → ((l : ℕ) → l < n → f l ≡ f' l) → listed f n ≡ listed f' n
unfolding listed
listed_same f f' zero e = refl
listed_same f f' (suc n) e = ap₂ {C = List Lane} (λ x y. x ++ (y ∷ [])) (listed_same f f' n (λ l u. e l (omega arith))) (e n (omega arith))

pub found-listed : (g : Layout) (a : List ℕ) (n : ℕ) → found_lanes g a n ≡ listed (found_lane g a) n
unfolding found_lanes listed
found-listed g a zero = refl
found-listed g a (suc n) = ap (λ (x : List Lane). x ++ (found_lane g a n ∷ [])) (found-listed g a n)

pub found-length : (g : Layout) (a : List ℕ) (n : ℕ) → length (found_lanes g a n) ≡ n
found-length g a n = ap length (found-listed g a n) ∙ listed-length (found_lane g a) n

pub found_lane-at : (g : Layout) (a : List ℕ) (n l : ℕ) → l < n → lane_at (found_lanes g a n) l ≡ found_lane g a l
found_lane-at g a n l u = rw (found-listed g a n) (lane-listed (found_lane g a) n l u)

-- ---- a table with the lanes' records put in

pub filled-lane : (g : Layout) (a : List ℕ) (table : List Lane) (l : ℕ) → l < g.N → lane_at (filled g a table) l ≡ found_lane g a l
filled-lane g a table l u = rw (found-listed g a g.N) (listed_at (found_lane g a) g.N l (drop g.N table) u)

pub filled_past : (g : Layout) (a : List ℕ) (table : List Lane) (l : ℕ) → g.N ≤ l → lane_at (filled g a table) l ≡ lane_at table l
filled_past g a table l u =
    let n = found-length g a g.N in
    let e : length (found_lanes g a g.N) + (l - g.N) ≡ l = omega (arith, n) in
    let f : g.N + (l - g.N) ≡ l = omega arith in
    ap (lane_at (filled g a table)) (sym e) ∙ get_or-append-add (found_lanes g a g.N) (drop g.N table) (l - g.N) no_lane
    ∙ get_or-drop g.N table (l - g.N) no_lane ∙ ap (lane_at table) f

pub filled-length : (g : Layout) (a : List ℕ) (table : List Lane) → g.N ≤ length table → length (filled g a table) ≡ length table
filled-length g a table u =
    length-append (found_lanes g a g.N) (drop g.N table) ∙ rw (found-length g a g.N, length-drop g.N table) (omega arith)

-- the invariant reads the records of the lanes alone
pub inv_same : (g : Layout) (a : List ℕ) (lanes lanes' : List Lane) → g.N ≤ length lanes'
    → ((l : ℕ) → l < g.N → lane_at lanes' l ≡ lane_at lanes l) → Inv g a lanes → Inv g a lanes'
inv_same g a lanes lanes' long e i = record {
  ok = i.ok;
  arena = i.arena;
  long = long;
  lane = λ l u. rw (e l u) (i.lane l u);
  apart = λ l j u v n. rw (e l u, e j v) (i.apart l j u v n);
  once = once_same _ _ _ _ _ _ _ (λ _ _. refl) (λ l u. ap (λ (q : Lane). q.block.0) (e l u)) i.once;
  map_in = i.map_in;
  tidy = i.tidy;
}
