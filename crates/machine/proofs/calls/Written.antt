-- What the calls leave in the map. A store of a write or of an opening goes past a sector's map word or puts flags 11 and a block there, and
-- what two stores leave of a word one after the other is again what it was or such a word.
use mathlib.Core.Path.{◌≡◌, refl, sym, ap, ◌∙◌, subst}
use mathlib.Core.Logic.{◌≢◌, inl, inr}
use mathlib.Core.List.{List}
use Prim.Native.Nat.{ℕ, ◌+◌, ◌<◌}
use native.Mathlib.Omega.{arith}
use native.Mathlib.Decide.{ℕ_discrete}
use Rattle.words.specs.Word.{word}
use Rattle.words.specs.Bytes.{Small}
use Rattle.format.proofs.Tests.{true_false}
use Rattle.layout.specs.Figures.{Allowed, fresh_figures}
use Rattle.layout.specs.Place.{Layout, LayoutOk, Place, layout_of, in_data, in_map, in_flog, at}
use Rattle.layout.specs.Claims.{Distance}
use Rattle.layout.specs.Told.{alone}
use Rattle.layout.specs.declared.Figures.{Figures}
use Rattle.machine.specs.state.Stores.{Store, stored}
use Rattle.machine.specs.state.Flog.{map_word}
use Rattle.machine.specs.calls.Making.{Wanted, make_of}
use Rattle.machine.specs.calls.History.{opened_from, SmallEvents}
use Rattle.machine.specs.calls.Asides.{Happening, latest_of, AllHarmless}
use Rattle.machine.specs.words.InBytes.{map_word_in}
use Rattle.machine.specs.claims.DemandTwo.{leaves}
use Rattle.machine.specs.claims.Written.{KeptOrMapped, MapKept, WrittenWords}
use Rattle.machine.proofs.stores.Stores.{Arena, elsewhere, stored-word}
use Rattle.machine.proofs.stores.Offsets.{map-word}
use Rattle.machine.proofs.calls.Kept.{Made, Keeps, calls_kept, open_kept, cut_kept, history_kept}
use Rattle.machine.proofs.making.Making.{making_claim, made_small}
use Rattle.machine.proofs.row.StaysClean.{stays_clean}
use Rattle.machine.specs.calls.Opening.{Room}
use Rattle.machine.specs.claims.Making.{FreshRoom}

-- one after the other
kept_then : (blocks x y z : ℕ) → KeptOrMapped blocks x y → KeptOrMapped blocks y z → KeptOrMapped blocks x z
kept_then blocks x y z p (inr m) = inr m
kept_then blocks x y z (inl e) (inl f) = inl (f ∙ e)
kept_then blocks x y z (inr m) (inl f) = inr (m.0, m.1, f ∙ m.2)

-- one store, by word numbers
module _ (g : Layout) (ok : LayoutOk g) (a : List ℕ) (r : Arena g a) (st : Store) (m : Made g st) (s : ℕ) (u : s < g.E) where
  abbrev After : Type 0
  After = KeptOrMapped g.I (map_word g a s) (map_word g (stored g st a) s)

  away : in_map s ≢ st.place → After
  away n = inl (elsewhere g ok a st.place (in_map s) st.value m.range u n)

  here : (t : ℕ) → st.place ≡ in_map t → Dec (s ≡ t) → After
  here t e (no n) = away (λ q. n (cc))
  here t e (yes q) =
      let b = m.mapped t e in
      let small : st.value < 4294967296 = rw b.2 (omega (arith, ok.small, b.1)) in
      inr (
        b.0,
        b.1,
        ap (λ (p : Place). word (stored g st a) (at g p)) (ap in_map q ∙ sym e)
            ∙ stored-word g ok a st r (record { range = m.range; small = small }) ∙ b.2,
      )

  store_kept : After
  store_kept = go st.place refl
    where
      go : (p : Place) → st.place ≡ p → After
      go (in_data b k) e = away (λ q. true_false (cc))
      go (in_map t) e = here t e (ℕ_discrete s t)
      go (in_flog l h k) e = away (λ q. true_false (cc))

-- in bytes
map_one : (d : ℕ) (f : Figures) (n : ℕ) → Allowed f n → LayoutOk (layout_of d f) → (a : List ℕ) → Arena (layout_of d f) a → (st : Store) → Made (layout_of d f) st
    → MapKept f a (stored (layout_of d f) st a)
unfolding layout_of
map_one d f n allowed ok a r st m s u =
    rw (← map-word d f n allowed a s, ← map-word d f n allowed (stored (layout_of d f) st a) s) (store_kept (layout_of d f) ok a r st m s u)

map_keeps : Keeps MapKept
map_keeps = record { none = λ f a s u. inl refl; both = λ f a b c p q s u. kept_then _ _ _ _ (p s u) (q s u); one = map_one }

-- an arena that we made
ours : (d : ℕ) → Distance d → (o : Wanted) (a : List ℕ) (work : Room) (hs : List Happening) → Small a → Small o.first → Small o.second → (make_of o a).number ≡ 0
    → FreshRoom o work → SmallEvents (latest_of hs) → AllHarmless (alone d) (opened_from (alone d) (make_of o a).arena work) hs
    → (s : ℕ) → s < o.sectors
    → KeptOrMapped (o.sectors + o.lanes) 0
    (map_word_in (fresh_figures o.size o.sectors o.lanes) (leaves (alone d) (make_of o a).arena work hs).arena s)
unfolding fresh_figures
ours d w o a work hs small first second e room smalls harmless s u =
    let m = (make_of o a).arena in
    let made = making_claim.made o a small first second e in
    let kept = history_kept MapKept map_keeps (alone d) m work hs (made_small o a small first second e) smalls ((made.opens d w).number work room) harmless in
    let left = (leaves (alone d) m work hs).arena in
    subst (λ (v : ℕ). KeptOrMapped (o.sectors + o.lanes) v (map_word_in (fresh_figures o.size o.sectors o.lanes) left s)) (made.map s u)
    (subst (λ (f : Figures). MapKept f m left) made.figures kept s u)

pub written_words : WrittenWords
written_words = record {
  calls = λ a h c small. calls_kept MapKept map_keeps a h small c;
  opening = λ d. open_kept MapKept map_keeps (alone d);
  cut_opening = λ d. cut_kept MapKept map_keeps (alone d);
  making = λ o a small first second e s u. (making_claim.made o a small first second e).map s u;
  ours = ours;
  stays_clean = stays_clean;
}
