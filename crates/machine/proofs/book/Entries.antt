-- Lists of entries: members that differ in lane and sector, tests over them, and the same writes with other tallies.
use mathlib.Core.Path.{◌≡◌, refl, sym, ap, ap₂, ◌∙◌}
use mathlib.Core.Logic.{◌≢◌, ◌⊎◌, inl, inr, ⊎_elim}
use mathlib.Core.List.Memᴰ
use mathlib.Core.List.{
  List,
  [],
  ◌∷◌,
  ◌++◌,
  map,
  Memᴰ,
}
use mathlib.Core.Bool.{Bool, true, false, cond, ◌&&◌, ◌||◌, or-true, or-false}
use Prim.Native.Nat.{ℕ, ◌+◌, ◌≤◌}
use native.Mathlib.Omega.{arith}
use lib.Dec.{eqb}
use borrow.Author.Tests.{eq-eqb, ne_eqb}
use Rattle.format.proofs.Tests.{true_false, by_bool}
use Rattle.machine.specs.models.Book.{Entry, any_entry, tallied}
use Rattle.machine.specs.claims.DemandThree.{Differ, Fewer}

-- the write on lane l to sector s with t stores made
abbrev pub entry_of : ℕ → ℕ → ℕ → Entry
entry_of l s t = record { lane = l; sector = s; tally = t }

-- no write of a book is on the lane or to the sector
abbrev pub Unused : List Entry → ℕ → ℕ → Type 0
Unused b l s = (d : Entry) → Memᴰ d b → (d.lane ≢ l) × (d.sector ≢ s)

-- two writes share neither a lane nor a sector
abbrev pub Far : Entry → Entry → Type 0
Far e d = (e.lane ≢ d.lane) × (e.sector ≢ d.sector)

pub far_sym : (e d : Entry) → Far e d → Far d e
far_sym e d f = (λ z. f.0 (sym z), λ z. f.1 (sym z))

-- other entries with the same lanes and sectors
pub far_like : (e d e' d' : Entry) → e.lane ≡ e'.lane → e.sector ≡ e'.sector → d.lane ≡ d'.lane → d.sector ≡ d'.sector
    → Far e d → Far e' d'
far_like e d e' d' p q r s f = (λ z. f.0 (p ∙ z ∙ sym r), λ z. f.1 (q ∙ z ∙ sym s))

pub far_is : (e d e' d' : Entry) → e ≡ e' → d ≡ d' → Far e d → Far e' d'
far_is e d e' d' p q f = rw (← p, ← q) f

-- ---- members of a list that differs

pub differ_pair : (e d : Entry) (b : List Entry) → Differ b → Memᴰ e b → Memᴰ d b → (e ≡ d) ⊎ Far e d
differ_pair e d b f (Memᴰ.head p) (Memᴰ.head q) = inl (p ∙ sym q)
differ_pair e d b f (Memᴰ.head {x = y} p) (Memᴰ.tail n) = inr (far_is y d e d (sym p) refl (f.0 d n))
differ_pair e d b f (Memᴰ.tail m) (Memᴰ.head {x = y} q) = inr (far_sym d e (far_is y e d e (sym q) refl (f.0 e m)))
differ_pair e d b f (Memᴰ.tail {xs = r} m) (Memᴰ.tail n) = differ_pair e d r f.1 m n

pub same_entry : (b : List Entry) → Differ b → (e d : Entry) → Memᴰ e b → Memᴰ d b → e.lane ≡ d.lane → e ≡ d
same_entry b f e d m n z = ⊎_elim (λ p. p) (λ p. absurd (p.0 z)) (differ_pair e d b f m n)

pub differ_left : (b c : List Entry) → Differ (b ++ c) → Differ b
differ_left [] c f = tt
differ_left (e ∷ b) c f = (λ d m. f.0 d (Memᴰ.append_left c m), differ_left b c f.1)

pub differ_right : (b c : List Entry) → Differ (b ++ c) → Differ c
differ_right [] c f = f
differ_right (e ∷ b) c f = differ_right b c f.1

pub differ_across : (e d : Entry) (b c : List Entry) → Differ (b ++ c) → Memᴰ e b → Memᴰ d c → Far e d
differ_across e d b c f (Memᴰ.head {x = y} {xs = r} p) n = far_is y d e d (sym p) refl (f.0 d (Memᴰ.append_right r n))
differ_across e d b c f (Memᴰ.tail {xs = r} m) n = differ_across e d r c f.1 m n

-- ---- tests

module _ (t : Entry → Bool) where
  pub any_of : (e : Entry) (b : List Entry) → Memᴰ e b → t e ≡ true → any_entry t b ≡ true
  unfolding any_entry
  any_of e b (Memᴰ.head p) z = rw (ap t (sym p) ∙ z)
  any_of e b (Memᴰ.tail {x = y} {xs = r} m) z = rw (any_of e r m z) (or-true (t y))

  pub any_none : (b : List Entry) → ((e : Entry) → Memᴰ e b → t e ≡ false) → any_entry t b ≡ false
  unfolding any_entry
  any_none [] n = refl
  any_none (e ∷ b) n = rw (n e (Memᴰ.head refl), any_none b (λ d m. n d (Memᴰ.tail m)))

  -- a test of the write on a lane that none has
  pub lane-none : (b : List Entry) (l : ℕ) → ((e : Entry) → Memᴰ e b → e.lane ≢ l) → any_entry (λ d. eqb d.lane l && t d) b ≡ false
  unfolding any_entry
  lane-none [] l n = refl
  lane-none (e ∷ b) l n = rw (ne_eqb e.lane l (n e (Memᴰ.head refl)), lane-none b l (λ d m. n d (Memᴰ.tail m)))

  pub any_some : (b : List Entry) → any_entry t b ≡ true → (e : Entry) × Memᴰ e b × (t e ≡ true)
  unfolding any_entry
  any_some [] z = true_false (sym z)
  any_some (e ∷ b) z = go (t e) refl z (λ y. any_some b y)
    where
      go : (v : Bool) → t e ≡ v → v || any_entry t b ≡ true → (any_entry t b ≡ true → (d : Entry) × Memᴰ d b × (t d ≡ true))
          → (d : Entry) × Memᴰ d (e ∷ b) × (t d ≡ true)
      go true p _ ih = (e, Memᴰ.head refl, p)
      go false p y ih = let r = ih y in (r.0, Memᴰ.tail r.1, r.2)

  pub any_false : (b : List Entry) → any_entry t b ≡ false → (e : Entry) → Memᴰ e b → t e ≡ false
  any_false b z e m = by_bool (t e) (t e ≡ false) (λ y. true_false (sym (any_of e b m y) ∙ z)) (λ y. y)

  -- a test of the write on one lane
  pub lane_test : (e : Entry) (b : List Entry) → Differ b → Memᴰ e b → any_entry (λ d. eqb d.lane e.lane && t d) b ≡ t e
  unfolding any_entry
  lane_test e b f (Memᴰ.head {xs = r} p) =
      rw (← p, eq-eqb e.lane e.lane refl, lane-none r e.lane (λ d m z. (f.0 d m).0 (ap (λ (y : Entry). y.lane) (sym p) ∙ sym z)))
      (or-false (t e))
  lane_test e b f (Memᴰ.tail {x = d} {xs = r} m) = rw (ne_eqb d.lane e.lane (f.0 e m).0) (lane_test e r f.1 m)

-- ---- other tallies

abbrev pub retally : (Entry → ℕ) → Entry → Entry
retally t e = record { lane = e.lane; sector = e.sector; tally = t e }

pub differ_retally : (t : Entry → ℕ) (b : List Entry) → Differ b → Differ (map (retally t) b)
differ_retally t [] f = tt
differ_retally t (e ∷ b) f = (λ d m. far d (Memᴰ.of_map (retally t) b m), differ_retally t b f.1)
  where
    far : (d : Entry) → ((c : Entry) × Memᴰ c b × (retally t c ≡ d)) → Far e d
    far d (c, m, p) = far_is e (retally t c) e d refl p (f.0 c m)

-- one more for lane l
abbrev pub one_more : ℕ → Entry → ℕ
one_more l e = cond (eqb e.lane l) (e.tally + 1) e.tally

pub tallied_is : (l : ℕ) (b : List Entry) → tallied l b ≡ map (retally (one_more l)) b
unfolding tallied
tallied_is l [] = refl
tallied_is l (e ∷ b) = ap₂ {C = List Entry} (λ x y. x ∷ y) (go (eqb e.lane l)) (tallied_is l b)
  where
    go : (t : Bool) → cond t (record { lane = e.lane; sector = e.sector; tally = e.tally + 1 }) e
        ≡ record { lane = e.lane; sector = e.sector; tally = cond t (e.tally + 1) e.tally }
    go true = refl
    go false = refl

pub tallied-none : (l : ℕ) (b : List Entry) → ((e : Entry) → Memᴰ e b → e.lane ≢ l) → tallied l b ≡ b
unfolding tallied
tallied-none l [] n = refl
tallied-none l (e ∷ b) n = rw (ne_eqb e.lane l (n e (Memᴰ.head refl)), tallied-none l b (λ d m. n d (Memᴰ.tail m)))

-- the same write with as many stores or fewer
abbrev pub Less : Entry → Entry → Type 0
Less d e = (d.lane ≡ e.lane) × (d.sector ≡ e.sector) × (d.tally ≤ e.tally)

pub fewer_like : (c b : List Entry) → Fewer c b → (d : Entry) → Memᴰ d c → (e : Entry) × Memᴰ e b × Less d e
fewer_like [] b f d m = absurd (Memᴰ.not-nil m)
fewer_like (x ∷ c) [] f d m = absurd f
fewer_like (x ∷ c) (e ∷ b) f d m = ⊎_elim (λ p. (e, Memᴰ.head refl, rw p (f.0, f.1, omega (arith, f.2))))
    (λ n. let r = fewer_like c b f.3 d n in (r.0, Memᴰ.tail r.1, r.2)) (Memᴰ.cases_cons m)

pub fewer_differ : (c b : List Entry) → Fewer c b → Differ b → Differ c
fewer_differ [] b f g = tt
fewer_differ (x ∷ c) [] f g = absurd f
fewer_differ (x ∷ c) (e ∷ b) f g = (
  λ d m. let r = fewer_like c b f.3 d m in far_like e r.0 x d (sym f.0) (sym f.1) (sym r.2.0) (sym r.2.1) (g.0 r.0 r.1),
  fewer_differ c b f.3 g.1,
)
