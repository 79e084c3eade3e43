-- An arena that rule 18 lets pass, word by word, and what keeps it so: a store at a place never touches padding, and a map word is
-- replaced by one that is not sloppy.
use mathlib.Core.Path.{◌≡◌, refl, sym, ap, ◌∙◌}
use mathlib.Core.Logic.{◌≢◌}
use mathlib.Core.List.{List}
use mathlib.Core.Bool.{Bool, true, false, not, ◌&&◌}
use Prim.Native.Nat.{ℕ, ◌<◌}
use native.Mathlib.Decide.{ℕ_discrete}
use lib.Dec.{eqb}
use Rattle.words.proofs.Laws.{word-put_word_other}
use Rattle.format.specs.MapWord.{sloppy_word}
use Rattle.format.proofs.Tests.{or-false, some_intro, some_elim, some_same}
use Rattle.layout.specs.Place.{Layout, LayoutOk, in_map, InRange, lane_word_at, is_padding}
use Rattle.layout.proofs.Padding.{padding_apart}
use Rattle.machine.specs.state.Stores.{Store, stored}
use Rattle.machine.specs.state.Flog.{map_word, lane_word, padding_set}
use Rattle.machine.specs.calls.Opening.{word_sloppy, lane_padded, sloppy}
use Rattle.machine.proofs.stores.Stores.{Arena, elsewhere}
use Rattle.machine.proofs.stores.MapStores.{word_store, word_other, word_here}

pub record Tidy (g : Layout) (a : List ℕ) : Type 0 where
  pub words : (s : ℕ) → s < g.E → sloppy_word (map_word g a s) ≡ false
  pub padding : (l : ℕ) → l < g.N → padding_set g a l ≡ false

module _ (g : Layout) (a : List ℕ) where
  pub tidy_of : sloppy g a ≡ false → Tidy g a
  tidy_of e =
      let p = or-false (word_sloppy g a) (lane_padded g a) e in
      record { words = some_elim g.E (λ s. sloppy_word (map_word g a s)) p.0; padding = some_elim g.N (padding_set g a) p.1 }

  pub of_tidy : Tidy g a → sloppy g a ≡ false
  of_tidy t = rw (some_intro g.E (λ s. sloppy_word (map_word g a s)) t.words, some_intro g.N (padding_set g a) t.padding)

module _ (g : Layout) (ok : LayoutOk g) (a : List ℕ) (st : Store) (range : InRange g st.place) where
  -- a store at a place leaves padding alone
  pub padding_kept : (l : ℕ) → l < g.N → padding_set g (stored g st a) l ≡ padding_set g a l
  unfolding padding_set
  padding_kept l u = some_same 16 _ _ (λ k v. same k v (is_padding g.D k) refl)
    where
      same : (k : ℕ) → k < 16 → (t : Bool) → is_padding g.D k ≡ t
          → t && not (eqb (lane_word g (stored g st a) l k) 0) ≡ t && not (eqb (lane_word g a l k) 0)
      same k v true e = ap (λ (w : ℕ). not (eqb w 0)) (word-put_word_other a _ (lane_word_at g l k) st.value (λ q. padding_apart g ok l k u v e st.place range (sym q)))
      same k v false e = refl

  -- outside the map it keeps the whole
  pub tidy_outside : ((s : ℕ) → in_map s ≢ st.place) → Tidy g a → Tidy g (stored g st a)
  tidy_outside away t = record {
    words = λ s u. ap sloppy_word (elsewhere g ok a st.place (in_map s) st.value range u (away s)) ∙ t.words s u;
    padding = λ l u. padding_kept l u ∙ t.padding l u;
  }

-- a map word that is not sloppy
pub tidy_word : (g : Layout) → LayoutOk g → (a : List ℕ) → Arena g a → (s w : ℕ) → s < g.E → w < 4294967296 → sloppy_word w ≡ false → Tidy g a
    → Tidy g (stored g (word_store s w) a)
tidy_word g ok a r s w si small clean t = record {
  words = λ i u. go i u (ℕ_discrete i s);
  padding = λ l u. padding_kept g ok a (word_store s w) si l u ∙ t.padding l u;
}
  where
    go : (i : ℕ) → i < g.E → Dec (i ≡ s) → sloppy_word (map_word g (stored g (word_store s w) a) i) ≡ false
    go i u (yes e) = rw e (ap sloppy_word (word_here g ok a s w si r small) ∙ clean)
    go i u (no n) = ap sloppy_word (word_other g ok a s w si i u n) ∙ t.words i u
