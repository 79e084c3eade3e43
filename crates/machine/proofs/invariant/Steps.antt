-- A start and every store of a write keep the invariant. A store outside the map touches one lane's log at most, and the store of the
-- sequence word makes the next half the newer.
use mathlib.Core.Path.{◌≡◌, refl, sym, ap, ◌∙◌, subst}
use mathlib.Core.Logic.{◌≢◌}
use mathlib.Core.List.{List}
use mathlib.Core.Bool.{true, false}
use Prim.Native.Nat.{ℕ, zero, suc, ◌+◌, ◌-◌, ◌≤◌, ◌<◌}
use native.Mathlib.Omega.{arith}
use native.Mathlib.Decide.{ℕ_discrete}
use lib.ListN.{set}
use borrow.Author.Tests.{eq-eqb, ne_eqb}
use Rattle.words.specs.Word.{word}
use Rattle.words.proofs.Laws.{word_lt}
use Rattle.words.specs.Bytes.{Small}
use Rattle.format.specs.Sequence.{successor}
use Rattle.format.specs.MapWord.{block_of}
use Rattle.format.proofs.Tests.{true_false}
use Rattle.layout.specs.Place.{Layout, in_data, in_map, in_flog}
use Rattle.machine.specs.declared.lane.Lane.{Lane}
use Rattle.machine.specs.state.Lane.{started_lane, stored_lane, finished_lane, is_busy}
use Rattle.machine.specs.state.Handle.{lane_at}
use Rattle.machine.specs.state.Stores.{Store, stored}
use Rattle.machine.specs.state.Flog.{map_block, flog_word, newer_half}
use Rattle.machine.specs.calls.Writing.{plan_of, flog_store, store_at, lane_stored}
use Rattle.machine.proofs.stores.Once.{once_same}
use Rattle.machine.proofs.stores.Stores.{Fits, elsewhere, stored-word, stored_arena}
use Rattle.machine.proofs.invariant.Inv.{planned_word, Before, LaneInv, Inv, before_frame, turned, lane_frame, update, same_free}
use Rattle.machine.proofs.invariant.Tidy.{tidy_outside}
use Rattle.machine.proofs.invariant.Finish.{final_store, finish}
use Rattle.machine.proofs.stores.Kinds.{Kind, is_data, is_log, is_map, kind, plan-ok, flog_small}

-- a start stores nothing
pub start_inv : (g : Layout) (a : List ℕ) (lanes : List Lane) (l s : ℕ) → Inv g a lanes → l < g.N → is_busy (lane_at lanes l) ≡ false → s < g.E
    → ((j : ℕ) → j < g.N → is_busy (lane_at lanes j) ≡ true → (lane_at lanes j).sector.0 ≢ s)
    → Inv g a (set lanes l (started_lane (lane_at lanes l) s (map_block g a s)))
start_inv g a lanes l s i u idle v far =
    update lanes l r g a a i u i.arena own (λ j k _. i.lane j k) (λ j k n _ b e. far j k b (sym e))
    (once_same _ _ _ _ _ _ _ (λ _ _. refl) (λ j _. same_free lanes l r j (omega (arith, i.long)) refl) i.once) i.map_in i.tidy
  where
    r : Lane
    r = started_lane (lane_at lanes l) s (map_block g a s)

    was : LaneInv g a l (lane_at lanes l)
    was = i.lane l u

    own : LaneInv g a l (started_lane (lane_at lanes l) s (map_block g a s))
    own = record {
      busy_in = omega arith;
      block-in = was.block-in;
      half_in = was.half_in;
      set_low = was.set_low;
      set_high = was.set_high;
      sector-in = v;
      old-in = i.map_in s v;
      made_in = omega arith;
      still = λ e. true_false e;
      mapped = λ _. refl;
      written = λ k _ w. absurd (omega arith);
      before = λ _. was.before (omega (arith, was.still idle));
      after = λ e. absurd (omega arith);
    }

-- ---- the record after a store

pub stored_more : (g : Layout) (r : Lane) → r.made + 1 ≢ g.W + 5 → lane_stored g r ≡ stored_lane r
unfolding lane_stored
stored_more g r n = rw (ne_eqb (r.made + 1) (g.W + 5) n)

pub stored_last : (g : Layout) (r : Lane) → r.made + 1 ≡ g.W + 5 → lane_stored g r ≡ finished_lane r
unfolding lane_stored
stored_last g r e = rw (eq-eqb (r.made + 1) (g.W + 5) e)

-- the words of the next half
flog_value : (l : ℕ) (r : Lane) (j : ℕ) → j < 4 → (flog_store (plan_of l r) j).value ≡ planned_word r j
flog_value l r zero u = refl
flog_value l r (suc zero) u = refl
flog_value l r (suc (suc zero)) u = refl
flog_value l r (suc (suc (suc zero))) u = refl
flog_value l r (suc (suc (suc (suc j)))) u = absurd (omega arith)

-- ---- one store of a lane's write

module _ (g : Layout) (a : List ℕ) (lanes : List Lane) (l : ℕ) (i : Inv g a lanes) (u : l < g.N) (b : is_busy (lane_at lanes l) ≡ true) where
  abbrev r : Lane
  r = lane_at lanes l

  was : LaneInv g a l r
  was = i.lane l u

  -- a store outside the map, in no other lane's log
  outside : (st : Store) → Fits g st → ((s : ℕ) → in_map s ≢ st.place) → ((j x k : ℕ) → j ≢ l → in_flog j x k ≢ st.place)
      → r.made + 1 < g.W + 5
      → ((k : ℕ) → k < 4 → g.W + k < r.made + 1 → flog_word g (stored g st a) l r.half k ≡ planned_word r k)
      → (r.made + 1 < g.W + 4
      → Before g (stored g st a) l r.half r.block.0 r.sequence.0)
      → (r.made + 1 ≡ g.W + 4 → newer_half g (stored g st a) l ≡ r.half)
      → Inv g (stored g st a) (set lanes l (stored_lane r))
  outside st f nm nl m wr be af =
      update lanes l (stored_lane r) g a (stored g st a) i u (stored_arena g i.ok a st i.arena) own
      (λ j k n. lane_frame g a (stored g st a) j
      (λ x y v w. elsewhere g i.ok a st.place (in_flog j x y) st.value f.range (k, v, w) (nl j x y n)) (lane_at lanes j)
      (λ _. same_map (lane_at lanes j).sector.0 (i.lane j k).sector-in) (i.lane j k))
      (λ j k n _ c e. i.apart l j u k (λ d. n (sym d)) b c e)
      (once_same _ _ _ _ _ _ _ same_map (λ j _. same_free lanes l (stored_lane r) j (omega (arith, i.long)) refl) i.once)
      (λ s v. rw (same_map s v) (i.map_in s v)) (tidy_outside g i.ok a st f.range nm i.tidy)
    where
      same_map : (s : ℕ) → s < g.E → map_block g (stored g st a) s ≡ map_block g a s
      same_map s v = ap (block_of s) (elsewhere g i.ok a st.place (in_map s) st.value f.range v (nm s))

      kept : (k : ℕ) → k < 4 → planned_word r k ≡ planned_word (stored_lane r) k
      kept zero c = refl
      kept (suc zero) c = refl
      kept (suc (suc zero)) c = refl
      kept (suc (suc (suc k))) c = refl

      -- the lane's own record
      own : LaneInv g (stored g st a) l (stored_lane r)
      own = record {
        busy_in = was.busy_in;
        block-in = was.block-in;
        half_in = was.half_in;
        set_low = was.set_low;
        set_high = was.set_high;
        sector-in = was.sector-in;
        old-in = was.old-in;
        made_in = m;
        still = λ x. true_false (sym b ∙ x);
        mapped = λ _. same_map r.sector.0 was.sector-in ∙ was.mapped b;
        written = λ k c d. wr k c d ∙ kept k c;
        before = be;
        after = af;
      }

  -- a data word
  data_inv : (v : ℕ) → v < 4294967296 → r.made < g.W
      → Inv g (stored g (record { place = in_data r.block.0 r.made; value = v }) a)
      (set lanes l (stored_lane r))
  data_inv v small m =
      outside st f (λ s e. true_false (cc)) (λ j x k n. no_flog j x k) (omega arith)
      (λ k c d. absurd (omega arith))
      (λ _. before_frame g a (stored g st a) l _ _ _ was.half_in (λ k c. flog (1 - r.half) k (omega arith) c)
      (flog r.half 3 was.half_in (omega arith)) (was.before (omega arith)))
      (λ e. absurd (omega arith))
    where
      st : Store
      st = record { place = in_data r.block.0 r.made; value = v }

      f : Fits g st
      f = record { range = (was.block-in, m); small = small }

      no_flog : (j x k : ℕ) → in_flog j x k ≢ in_data r.block.0 r.made
      no_flog j x k e = true_false (cc)

      flog : (x k : ℕ) → x < 2 → k < 4 → flog_word g (stored g st a) l x k ≡ flog_word g a l x k
      flog x k c d = elsewhere g i.ok a st.place (in_flog l x k) v f.range (u, c, d) (no_flog l x k)

  -- a word of the next half of the log; the last of them, the sequence, makes that half the newer
  flog_inv : (j v : ℕ) → j < 4 → v < 4294967296 → v ≡ planned_word r j → r.made ≡ g.W + j
      → Inv g (stored g (record { place = in_flog l r.half j; value = v }) a) (set lanes l (stored_lane r))
  flog_inv j v c small val m =
      outside st f (λ s e. true_false (cc)) (λ y z k n e. n (cc)) (omega arith)
      (λ k d e. wrote k d e (ℕ_discrete k j))
      (λ d. before_frame g a a' l _ _ _ was.half_in other
      (flog r.half 3 was.half_in (omega arith) (λ e. top (omega arith) e)) (was.before (omega arith)))
      (λ e. turn (omega arith))
    where
      st : Store
      st = record { place = in_flog l r.half j; value = v }

      a' : List ℕ
      a' = stored g st a

      f : Fits g st
      f = record { range = (u, was.half_in, c); small = small }

      flog : (y k : ℕ) → y < 2 → k < 4 → in_flog l y k ≢ in_flog l r.half j → flog_word g a' l y k ≡ flog_word g a l y k
      flog y k p q n = elsewhere g i.ok a st.place (in_flog l y k) v f.range (u, p, q) n

      other : (k : ℕ) → k < 4 → flog_word g a' l (1 - r.half) k ≡ flog_word g a l (1 - r.half) k
      other k q = flog (1 - r.half) k (omega arith) q
          (λ e. let z : 1 - r.half ≡ r.half = cc in omega (arith, was.half_in))

      top : j ≢ 3 → in_flog l r.half 3 ≢ in_flog l r.half j
      top n e = n (cc)

      here : flog_word g a' l r.half j ≡ v
      here = stored-word g i.ok a st i.arena f

      wrote : (k : ℕ) → k < 4 → g.W + k < r.made + 1 → Dec (k ≡ j)
          → flog_word g a' l r.half k ≡ planned_word r k
      wrote k d e (yes q) =
          subst (λ (y : ℕ). flog_word g a' l r.half y ≡ planned_word r y) (sym q) (here ∙ val)
      wrote k d e (no n) = flog r.half k was.half_in d (λ q. n (cc)) ∙ was.written k d (omega arith)

      turn : j ≡ 3 → newer_half g a' l ≡ r.half
      turn e =
          let be : Before g a l r.half r.block.0 r.sequence.0 = was.before (omega arith) in
          let o3 : flog_word g a' l (1 - r.half) 3 ≡ flog_word g a l (1 - r.half) 3 = other 3 (omega arith) in
          turned g a' l r.half was.half_in
          (subst (λ (y : ℕ). 1 ≤ y) (sym o3) be.set_low) (subst (λ (y : ℕ). y ≤ 3) (sym o3) be.set_high)
          (subst (λ (y : ℕ). flog_word g a' l r.half y ≡ planned_word r y) e (here ∙ val) ∙ sym be.next
          ∙ ap successor (sym o3))

  -- any store
  pub step_inv : (buffer : List ℕ) → Small buffer
      → Inv g (stored g (store_at g (plan_of l r) buffer r.made) a) (set lanes l (lane_stored g r))
  step_inv buffer small = go (kind g (plan_of l r) buffer r.made was.made_in)
    where
      P : Store → Lane → Type 0
      P st q = Inv g (stored g st a) (set lanes l q)

      is : (st : Store) (q : Lane) → store_at g (plan_of l r) buffer r.made ≡ st → lane_stored g r ≡ q
          → P st q → P (store_at g (plan_of l r) buffer r.made) (lane_stored g r)
      is st q e d p = subst (λ (x : Store). P x (lane_stored g r)) (sym e) (subst (λ (x : Lane). P st x) (sym d) p)

      go : Kind g (plan_of l r) buffer r.made
          → P (store_at g (plan_of l r) buffer r.made) (lane_stored g r)
      go (is_data c e) =
          is _ (stored_lane r) e (stored_more g r (λ x. omega arith))
          (data_inv (word buffer r.made) (word_lt buffer _ small) c)
      go (is_log j c m e) =
          is _ (stored_lane r) e (stored_more g r (λ x. omega arith))
          (flog_inv j _ c (flog_small g i.ok (plan_of l r) (plan-ok g a lanes l i u) j c) (flog_value l r j c) m)
      go (is_map m e) =
          is (final_store r) (finished_lane r) e (stored_last g r (omega arith)) (finish g a lanes l i u b m)
