-- Where each write is handed the same bytes throughout, the row that keeps its writes word by word and the row that keeps the latest
-- buffer go together, event by event: of each write in flight the one has the first words of what the other has, and both answer, read
-- and open alike. So what follows the one follows the other.
use mathlib.Core.Path.{◌≡◌, refl, ap, ap₂, ◌∙◌}
use mathlib.Core.List.{List, [], ◌∷◌}
use mathlib.Core.Bool.{not}
use Prim.Native.Nat.{ℕ, zero, suc, ◌+◌, ◌*◌, ◌/◌, ◌≤◌, ◌<◌}
use native.Mathlib.Omega.{arith}
use lib.Dec.{eqb}
use lib.ListN.{length, take}
use lib.Seq.{take_all}
use borrow.Author.Tests.{eqb-true, not-false}
use Rattle.words.specs.Bytes.{Small}
use Rattle.format.proofs.Tests.{by_bool, some_same}
use Rattle.layout.specs.Place.{layout_of}
use Rattle.layout.specs.declared.Figures.{Figures}
use Rattle.layout.specs.declared.Told.{Told}
use Rattle.machine.specs.calls.Order.{
  Rule,
  bad_handle,
  short_table,
  bad_records,
  no_such_sector,
  wrong_buffer,
  no_such_lane,
  lane_busy,
  lane_idle,
  sector_busy,
  bad_map_word,
  sloppy_map_word,
  bad_sector,
  number,
  order,
}
use Rattle.machine.specs.calls.Opening.{Room, extent_of, figures_in, open_of}
use Rattle.machine.specs.calls.History.{
  runs,
  says,
  Call,
  read,
  start,
  step,
  write,
  Reply,
  Event,
  called,
  opened,
  opened_from,
}
use Rattle.machine.specs.calls.Asides.{Happening, latest_of}
use Rattle.machine.specs.models.Row.{
  Sector,
  holds,
  Flight,
  idle,
  flying,
  Row,
  stores_of,
  put,
  is_flying,
  flies_to,
  lacks_last,
  row_tests,
  row_number,
  row_read,
  row_reply,
  word_by_word,
  last_buffer,
  stepped,
  changed,
  row_after,
  finished,
  settled,
  lacking,
  row_open_number,
  row_reply_event,
  row_after_event,
  row_after_all,
  row_replies,
  SameFlight,
  SameBuffer,
  OneBuffer,
  first_row,
}
use Rattle.machine.specs.claims.DemandTwo.{row_left, FollowsRow, FollowsWords, Follows}
use Rattle.machine.proofs.rules.Rules.{passed_all, alike, unguarded}
use Rattle.machine.proofs.rules.Running.{some_number}
use Rattle.machine.proofs.opening.Opens.{opened_figures}
use Rattle.machine.proofs.invariant.Held.{held_open, held_whole}
use Rattle.machine.proofs.row.Words.{kept_same}
use Rattle.machine.proofs.row.Lanes.{EachLane, event_each}

-- a write in flight that keeps the latest buffer, as it is word by word
abbrev first : Flight → Flight
first idle = idle
first (flying s made bytes) = flying s made (take (4 * made) bytes)

abbrev firsts : Row → Row
firsts row = record { sector = row.sector; lane = λ l. first (row.lane l) }

-- ---- answers

flying_first : (y : Flight) → is_flying (first y) ≡ is_flying y
flying_first idle = refl
flying_first (flying s made bytes) = refl

to_first : (s : ℕ) (y : Flight) → flies_to s (first y) ≡ flies_to s y
to_first s idle = refl
to_first s (flying t made bytes) = refl

lacks_first : (f : Figures) (y : Flight) → lacks_last f (first y) ≡ lacks_last f y
lacks_first f idle = refl
lacks_first f (flying s made bytes) = refl

module _ (f : Figures) (row : Row) where
  tests_alike : (r : Rule) → row_tests f (firsts row) r ≡ row_tests f row r
  tests_alike bad_handle = refl
  tests_alike short_table = refl
  tests_alike bad_records = refl
  tests_alike (no_such_sector s) = refl
  tests_alike (wrong_buffer n) = refl
  tests_alike (no_such_lane l) = refl
  tests_alike (lane_busy l) = flying_first (row.lane l)
  tests_alike (lane_idle l) = ap not (flying_first (row.lane l))
  tests_alike (sector_busy s) =
      some_same f.lanes (λ j. flies_to s (first (row.lane j))) (λ j. flies_to s (row.lane j)) (λ j _. to_first s (row.lane j))
  tests_alike (bad_map_word s) = refl
  tests_alike (sloppy_map_word s) = refl
  tests_alike (bad_sector s) = refl

  number_alike : (c : Call) → row_number f (firsts row) c ≡ row_number f row c
  unfolding row_number
  number_alike c = alike number (λ _. Unit {0}) (row_tests f row) (row_tests f (firsts row)) (λ r _. tests_alike r) (order c)
      (unguarded number (row_tests f row) (order c))

  read_alike : (s : ℕ) (buffer : List ℕ) → row_read f (firsts row) s buffer ≡ row_read f row s buffer
  unfolding row_read
  read_alike s buffer = rw (number_alike (read s buffer))

  lacking_alike : (n : ℕ) → lacking f (firsts row) n ≡ lacking f row n
  unfolding lacking
  lacking_alike zero = refl
  lacking_alike (suc n) = rw (lacking_alike n, lacks_first f (row.lane n))

  reply_alike : (e : Event) → row_reply_event f (firsts row) e ≡ row_reply_event f row e
  unfolding row_reply_event row_reply
  reply_alike (called (read s buffer)) = rw (read_alike s buffer)
  reply_alike (called (start l s)) = rw (number_alike (start l s))
  reply_alike (called (step l buffer)) = rw (number_alike (step l buffer))
  reply_alike (called (write l s buffer)) = rw (number_alike (write l s buffer))
  reply_alike (opened work) = rw (lacking_alike f.lanes)

  -- an accepted step is handed the sector's bytes
  step_size : (l : ℕ) (buffer : List ℕ) → row_number f row (step l buffer) ≡ 0 → length buffer ≡ f.size
  unfolding row_number
  step_size l buffer e = eqb-true _ _ (not-false _ (passed_all number some_number (row_tests f row) (order (step l buffer)) e).1.1.1.1.1.0)

-- ---- what is left

same_row : {sector sector' : ℕ → Sector} {lane lane' : ℕ → Flight} → sector ≡ sector' → lane ≡ lane'
    → ◌≡◌ {A = Row} (record { sector = sector; lane = lane }) (record { sector = sector'; lane = lane' })
same_row p q = λ i. record { sector = p i; lane = q i }

put_first : (lanes : ℕ → Flight) (l : ℕ) (y : Flight) → put (λ j. first (lanes j)) l (first y) ≡ (λ j. first (put lanes l y j))
put_first lanes l y = λ i j. at j i
  where
    at : (j : ℕ) → put (λ j. first (lanes j)) l (first y) j ≡ first (put lanes l y j)
    at j = by_bool (eqb j l) _ (λ t. rw t) (λ t. rw t)

-- once a store is made, what is kept has the sector's size
abbrev Sized : Figures → Flight → Type 0
Sized f idle = Unit {0}
Sized f (flying s made bytes) = 0 < made → length bytes ≡ f.size

module _ (f : Figures) (whole : f.size ≡ 4 * (f.size / 4)) where
  -- with the data words stored, all is kept
  all_kept : (made : ℕ) (bytes : List ℕ) → f.size / 4 ≤ made → length bytes ≡ f.size → take (4 * made) bytes ≡ bytes
  all_kept made bytes u size = take_all (4 * made) bytes (omega arith)

  module _ (row : Row) where
    -- one more store with the same bytes
    grown : (made : ℕ) (bytes buffer : List ℕ) → length buffer ≡ f.size → (0 < made → buffer ≡ bytes)
        → word_by_word f made (take (4 * made) bytes) buffer ≡ take (4 * (made + 1)) buffer
    grown zero bytes buffer size same = kept_same f whole buffer size 0
    grown (suc n) bytes buffer size same = rw (← (same (omega arith))) (kept_same f whole buffer size (suc n))

    step_alike : (l : ℕ) (buffer : List ℕ) → length buffer ≡ f.size → (y : Flight) → SameFlight buffer y
        → stepped word_by_word f (firsts row) l buffer (first y) ≡ firsts (stepped last_buffer f row l buffer y)
    step_alike l buffer size idle same = refl
    step_alike l buffer size (flying s made bytes) same = rw (grown made bytes buffer size same) (by_bool (eqb (made + 1) (stores_of f)) _
        (λ t. let e : made + 1 ≡ stores_of f = eqb-true _ _ t in
        rw t (same_row (ap (λ (b : List ℕ). put row.sector s (holds b)) (all_kept (made + 1) buffer (omega arith) size))
        (put_first row.lane l idle)))
        (λ t. rw t (same_row refl (put_first row.lane l (flying s (made + 1) buffer)))))

    changed_alike : (c : Call) → row_number f row c ≡ 0 → SameBuffer f row (called c)
        → changed word_by_word f (firsts row) c ≡ firsts (changed last_buffer f row c)
    changed_alike (read s buffer) e same = refl
    changed_alike (start l s) e same = same_row refl (put_first row.lane l (flying s 0 []))
    changed_alike (step l buffer) e same = step_alike l buffer (step_size f row l buffer e) (row.lane l) (same e)
    changed_alike (write l s buffer) e same = refl

    module _ (sized : EachLane (λ _. Sized f) row) where
      finished_alike : (sectors : ℕ → Sector) (y : Flight) → Sized f y → finished f sectors (first y) ≡ finished f sectors y
      finished_alike sectors idle z = refl
      finished_alike sectors (flying s made bytes) z = by_bool (eqb (made + 1) (stores_of f)) _
          (λ t. let e : made + 1 ≡ stores_of f = eqb-true _ _ t in
          rw t (ap (λ (b : List ℕ). put sectors s (holds b)) (all_kept made bytes (omega arith) (z (omega arith)))))
          (λ t. rw t)

      settled_alike : (n : ℕ) → settled f (firsts row) n ≡ settled f row n
      unfolding settled
      settled_alike zero = refl
      settled_alike (suc n) =
          finished_alike (settled f (firsts row) n) (row.lane n) (sized n)
          ∙ ap (λ (sectors : ℕ → Sector). finished f sectors (row.lane n)) (settled_alike n)

      event_alike : (e : Event) → SameBuffer f row e → row_after_event word_by_word f (firsts row) e ≡ firsts (row_after_event last_buffer f row e)
      unfolding row_after_event row_after
      event_alike (called c) same = rw (number_alike f row c) (by_bool (eqb (row_number f row c) 0) _
          (λ t. rw t (changed_alike c (eqb-true _ _ t) same)) (λ t. rw t))
      event_alike (opened work) same = by_bool (eqb (row_open_number f (extent_of work)) 0) _
          (λ t. rw t (same_row (settled_alike f.lanes) refl)) (λ t. rw t)

      event_sized : (e : Event) → EachLane (λ _. Sized f) (row_after_event last_buffer f row e)
      event_sized e = event_each (λ _. Sized f) (λ l. tt) (λ l s u. absurd (omega arith)) f row e
          (λ l buffer _ n s made u. step_size f row l buffer n) sized

  all_alike : (es : List Event) (row : Row) → EachLane (λ _. Sized f) row → OneBuffer f row es
      → (row_replies word_by_word f (firsts row) es ≡ row_replies last_buffer f row es)
      × (row_after_all word_by_word f (firsts row) es ≡ firsts (row_after_all last_buffer f row es))
  unfolding says runs
  all_alike [] row sized one = (refl, refl)
  all_alike (e ∷ es) row sized one =
      let p = event_alike row sized e one.0 in
      let q = all_alike es (row_after_event last_buffer f row e) (event_sized row sized e) one.1 in (
        ap₂ {C = List Reply} (λ r rs. r ∷ rs) (reply_alike f row e) (ap (λ (x : Row). row_replies word_by_word f x es) p ∙ q.0),
        ap (λ (x : Row). row_after_all word_by_word f x es) p ∙ q.1,
      )

-- ---- the claim

module _ (τ : Told) where
  module _ (a : List ℕ) (work : Room) (hs : List Happening) (small : Small a) (e : (open_of τ a work).number ≡ 0)
      (one : OneBuffer (figures_in a) (first_row (opened_from τ a work)) (latest_of hs)) where
    whole_in : (figures_in a).size ≡ 4 * ((figures_in a).size / 4)
    unfolding layout_of
    whole_in = rw (opened_figures τ a work e) at (held_whole τ _ _ (held_open τ a work small e))

    together : (row_replies word_by_word (figures_in a) (first_row (opened_from τ a work)) (latest_of hs)
        ≡ row_replies last_buffer (figures_in a) (first_row (opened_from τ a work)) (latest_of hs))
        × (row_left word_by_word τ a work hs ≡ firsts (row_left last_buffer τ a work hs))
    together = all_alike (figures_in a) whole_in (latest_of hs) (first_row (opened_from τ a work)) (λ l. tt) one

    left_reads : (s : ℕ) (buffer : List ℕ)
        → row_read (figures_in a) (row_left word_by_word τ a work hs) s buffer ≡ row_read (figures_in a) (row_left last_buffer τ a work hs) s buffer
    left_reads s buffer =
        ap (λ (row : Row). row_read (figures_in a) row s buffer) together.1 ∙ read_alike (figures_in a) (row_left last_buffer τ a work hs) s buffer

    follows_one : FollowsRow word_by_word τ a work hs → FollowsRow last_buffer τ a work hs
    follows_one k = record {
      replies = k.replies ∙ together.0;
      reads = λ s buffer. k.reads s buffer ∙ left_reads s buffer;
      figures = k.figures;
      handle = k.handle;
      layout = k.layout;
      again = λ calm room u. let o = k.again calm room u in record {
        number = o.number;
        mended = o.mended;
        arena = o.arena;
        reads = λ s buffer. o.reads s buffer ∙ rw k.figures (left_reads s buffer);
      };
    }

  pub one_buffer_follows : FollowsWords τ → Follows τ
  one_buffer_follows words a work hs small smalls e harmless one = follows_one a work hs small e one (words a work hs small smalls e harmless)
