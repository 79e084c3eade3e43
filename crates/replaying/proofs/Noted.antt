-- The row of a replay against its ledger: a write in flight keeps, in word k, k plus the index of the record whose step stored it, and so
-- does a sector that was written; every record keeps that.
use mathlib.Core.Path.{◌≡◌, refl, sym, ap, ◌∙◌}
use mathlib.Core.List.{List, [], ◌∷◌, ◌++◌}
use Prim.Native.Nat.{ℕ, zero, suc, ◌+◌, ◌*◌, ◌/◌, ◌≤◌, ◌<◌}
use native.Mathlib.Omega.{arith}
use native.Mathlib.Decide.{dec_lt}
use lib.Dec.{eqb}
use lib.ListN.{length, get_or, length-append, get_or-append}
use lib.Seq.{get_or-append_seam}
use borrow.Author.Tests.{eqb-true}
use Rattle.words.specs.Word.{word}
use Rattle.format.proofs.Tests.{by_bool}
use Rattle.layout.specs.declared.Figures.{Figures}
use Rattle.machine.specs.models.Row.{Sector, holds, Flight, idle, flying, Row, stores_of, put, word_by_word, stepped, finished, settled, reopened}
use Rattle.machine.proofs.row.Words.{kept_old, kept_new, kept_length, kept_done}
use Rattle.replaying.specs.Ledger.{Underway, none, to, Written, as_opened, by, Ledger, step_noted, landed, all_landed, cut_noted}

module _ (f : Figures) (whole : f.size ≡ 4 * (f.size / 4)) where
  -- the first words of some bytes, as the steps of these records stored them
  abbrev Words : ℕ → List ℕ → List ℕ → Type 0
  Words made bytes is = (k : ℕ) → k < made → k < f.size / 4 → word bytes k ≡ k + get_or is k 0

  -- what a write keeps, with so many stores made
  pub record Kept (made : ℕ) (bytes is : List ℕ) : Type 0 where
    pub count : length is ≡ made
    pub some : made < f.size / 4 → length bytes ≡ 4 * made
    pub all : f.size / 4 ≤ made → length bytes ≡ f.size
    pub words : Words made bytes is

  abbrev pub LaneNoted : Flight → Underway → Type 0
  LaneNoted idle none = Unit {0}
  LaneNoted idle (to t is) = ⊥
  LaneNoted (flying s made bytes) none = ⊥
  LaneNoted (flying s made bytes) (to t is) = (s ≡ t) × Kept made bytes is

  -- a sector that holds what the steps of these records stored
  pub record Full (c : Sector) (is : List ℕ) : Type 0 where
    pub bytes : List ℕ
    pub holds : c ≡ holds bytes
    pub size : length bytes ≡ f.size
    pub words : Words (f.size / 4) bytes is

  abbrev pub SectorNoted : Sector → Sector → Written → Type 0
  SectorNoted c₀ c as_opened = c ≡ c₀
  SectorNoted c₀ c (by is) = Full c is

  pub record Noted (row₀ row : Row) (k : Ledger) : Type 0 where
    pub lane : (l : ℕ) → LaneNoted (row.lane l) (k.lane l)
    pub sector : (s : ℕ) → SectorNoted (row₀.sector s) (row.sector s) (k.sector s)

  -- ---- one store more

  module _ (made : ℕ) (bytes is buffer : List ℕ) (i : ℕ) (k : Kept made bytes is) (size : length buffer ≡ f.size)
      (lent : (x : ℕ) → x < f.size / 4 → word buffer x ≡ i + x) where
    abbrev next : List ℕ
    next = word_by_word f made bytes buffer

    old_index : (x : ℕ) → x < made → get_or (is ++ (i ∷ [])) x 0 ≡ get_or is x 0
    old_index x u = get_or-append is (i ∷ []) 0 x (omega (arith, k.count))

    new_index : get_or (is ++ (i ∷ [])) made 0 ≡ i
    new_index = ap (λ (n : ℕ). get_or (is ++ (i ∷ [])) n 0) (sym k.count) ∙ get_or-append_seam is i [] 0

    more_words : Words (made + 1) next (is ++ (i ∷ []))
    more_words x u v = go (dec_lt x made)
      where
        go : Dec (x < made) → word next x ≡ x + get_or (is ++ (i ∷ [])) x 0
        go (yes w) = kept_old f made bytes buffer k.some x w ∙ k.words x w v ∙ ap (λ (n : ℕ). x + n) (sym (old_index x w))
        go (no w) =
            let e : x ≡ made = omega arith in
            let c : i + made ≡ made + i = omega arith in
            rw (e, new_index) (kept_new f made bytes buffer (rw e at v) (k.some (rw e at v)) ∙ lent made (rw e at v) ∙ c)

    full : f.size / 4 ≤ made + 1 → Dec (made < f.size / 4) → length next ≡ f.size
    full u (yes v) =
        let e : 4 * (made + 1) ≡ f.size = omega arith in
        kept_length f made bytes buffer v (k.some v) size ∙ e
    full u (no v) =
        let w : f.size / 4 ≤ made = omega arith in
        ap (λ (x : List ℕ). length x) (kept_done f made bytes buffer w) ∙ k.all w

    more_kept : Kept (made + 1) next (is ++ (i ∷ []))
    more_kept = record {
      count = length-append is (i ∷ []) ∙ ap (λ (n : ℕ). n + 1) k.count;
      some = λ u. kept_length f made bytes buffer (omega arith) (k.some (omega arith)) size;
      all = λ u. full u (dec_lt made (f.size / 4));
      words = more_words;
    }

    -- the last store adds no word
    last_full : made + 1 ≡ stores_of f → Full (holds next) (is ++ (i ∷ []))
    last_full e = record { bytes = next; holds = refl; size = more_kept.all (omega arith); words = λ x u v. more_words x (omega arith) v }

  -- a write that lacks its last store
  lacking_full : (made : ℕ) (bytes is : List ℕ) → Kept made bytes is → made + 1 ≡ stores_of f → Full (holds bytes) is
  lacking_full made bytes is k e = record { bytes = bytes; holds = refl; size = k.all (omega arith); words = λ x u v. k.words x (omega arith) v }

  -- ---- the row and the ledger

  sector_put : (row₀ : Row) (sectors : ℕ → Sector) (written : ℕ → Written) → ((s : ℕ) → SectorNoted (row₀.sector s) (sectors s) (written s))
      → (s : ℕ) (bytes is : List ℕ) → Full (holds bytes) is
      → (t : ℕ) → SectorNoted (row₀.sector t) (put sectors s (holds bytes) t) (put written s (by is) t)
  sector_put row₀ sectors written n s bytes is p t = by_bool (eqb t s) _ (λ e. rw e p) (λ e. rw e (n t))

  module _ (row₀ row : Row) (k : Ledger) (n : Noted row₀ row k) where
    lane_put : (l : ℕ) (y : Flight) (u : Underway) → LaneNoted y u → (j : ℕ) → LaneNoted (put row.lane l y j) (put k.lane l u j)
    lane_put l y u p j = by_bool (eqb j l) _ (λ t. rw t p) (λ t. rw t (n.lane j))

    pub started_noted : (l s : ℕ) → Noted row₀ (record { sector = row.sector; lane = put row.lane l (flying s 0 []) })
        (record { lane = put k.lane l (to s []); sector = k.sector })
    started_noted l s = record { lane = lane_put l (flying s 0 []) (to s []) (refl, begun); sector = n.sector }
      where
        begun : Kept 0 [] []
        begun = record { count = refl; some = λ u. refl; all = λ u. omega arith; words = λ x u v. absurd (omega arith) }

    -- one step, by what the lane has
    module _ (l i : ℕ) (buffer : List ℕ) (size : length buffer ≡ f.size) (lent : (x : ℕ) → x < f.size / 4 → word buffer x ≡ i + x) where
      step_by : (y : Flight) (u : Underway) → LaneNoted y u
          → Noted row₀ (stepped word_by_word f row l buffer y) (step_noted (stores_of f) f.lanes k l i u)
      step_by idle none p = n
      step_by idle (to t is) p = absurd p
      step_by (flying s made bytes) none p = absurd p
      step_by (flying s made bytes) (to t is) p = rw (← p.0, p.1.count) (by_bool (eqb (made + 1) (stores_of f)) _
          (λ e. rw e (record {
            lane = lane_put l idle none tt;
            sector = sector_put row₀ row.sector k.sector n.sector s _ _ (last_full made bytes is buffer i p.1 size lent (eqb-true _ _ e));
          }))
          (λ e. rw e (record { lane = lane_put l _ _ (refl, more_kept made bytes is buffer i p.1 size lent); sector = n.sector })))

      pub stepped_noted : Noted row₀ (stepped word_by_word f row l buffer (row.lane l)) (step_noted (stores_of f) f.lanes k l i (k.lane l))
      stepped_noted = step_by (row.lane l) (k.lane l) (n.lane l)

    -- an opening, lane by lane
    finish_by : (sectors : ℕ → Sector) (written : ℕ → Written) → ((s : ℕ) → SectorNoted (row₀.sector s) (sectors s) (written s))
        → (y : Flight) (u : Underway) → LaneNoted y u
        → (s : ℕ) → SectorNoted (row₀.sector s) (finished f sectors y s) (landed (stores_of f) f.lanes written u s)
    finish_by sectors written q idle none p = q
    finish_by sectors written q idle (to t is) p = absurd p
    finish_by sectors written q (flying s made bytes) none p = absurd p
    finish_by sectors written q (flying s made bytes) (to t is) p = λ x. rw (← p.0, p.1.count) (by_bool (eqb (made + 1) (stores_of f)) _
        (λ e. rw e (sector_put row₀ sectors written q s bytes is (lacking_full made bytes is p.1 (eqb-true _ _ e)) x)) (λ e. rw e (q x)))

    settled_noted : (m : ℕ) (s : ℕ) → SectorNoted (row₀.sector s) (settled f row m s) (all_landed (stores_of f) f.lanes k m s)
    unfolding settled all_landed
    settled_noted zero s = n.sector s
    settled_noted (suc m) s = finish_by _ _ (settled_noted m) (row.lane m) (k.lane m) (n.lane m) s

    pub reopened_noted : Noted row₀ (reopened f row) (cut_noted (stores_of f) f.lanes k)
    reopened_noted = record { lane = λ l. tt; sector = settled_noted f.lanes }
