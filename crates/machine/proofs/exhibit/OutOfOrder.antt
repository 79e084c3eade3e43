-- The cut of `Exhibited` that keeps stores out of order: any arena with its figures whose lanes are as made, and two writes on it.
use mathlib.Core.Path.{◌≡◌, refl, sym, ap, ◌∙◌}
use mathlib.Core.Logic.{◌≢◌}
use mathlib.Core.List.Memᴰ
use mathlib.Core.List.{List, [], Memᴰ, append-nil}
use Prim.Native.Nat.{ℕ, ◌+◌, ◌-◌, ◌*◌, ◌/◌, ◌≤◌, ◌<◌}
use native.Mathlib.Omega.{arith}
use lib.ListN.{length, replicate}
use Rattle.words.specs.Word.{word, put_word}
use Rattle.words.proofs.Laws.{word-put_word_other}
use Rattle.format.specs.MapWord.{block_of}
use Rattle.layout.specs.Figures.{fresh_figures}
use Rattle.layout.specs.Sizes.{internal_of}
use Rattle.layout.specs.Place.{Layout, layout_of, in_data, in_flog, at}
use Rattle.layout.specs.Told.{alone}
use Rattle.machine.specs.declared.lane.Lane.{Lane}
use Rattle.machine.specs.state.Lane.{idle_lane}
use Rattle.machine.specs.state.Stores.{Store, put_all}
use Rattle.machine.specs.state.Flog.{map_word, map_block, newer_half, free_of}
use Rattle.machine.specs.calls.Opening.{Room, figures_in, layout_in, found_lane}
use Rattle.machine.specs.calls.History.{start, step, State}
use Rattle.machine.specs.models.Book.{Entry, book_after, last_words, plan_in}
use Rattle.machine.specs.words.Valid.{RoomFor}
use Rattle.machine.specs.claims.DemandThree.{taken_apart, Listed, SequenceStored, AfterCut, Fewer, before_sequence, MayKeep, Survive, AfterAnyCut}
use Rattle.machine.specs.claims.Exhibit.{exhibit_bytes, unsequenced_calls, unsequenced, cut_book, exhibit_kept, CutOutOfOrder}
use Rattle.machine.proofs.stores.Members.{Each, each_more, each_one, each_append, each_replicate}
use Rattle.machine.proofs.stores.Kinds.{store_data, store_log}
use Rattle.machine.proofs.book.Entries.{entry_of}
use Rattle.machine.proofs.book.Places.{first_in}
use Rattle.machine.proofs.book.Stores.{store_of}
use Rattle.machine.proofs.book.TakenApart.{InOne, start_in_one, step_in_one, no_writes}
use Rattle.machine.proofs.book.DemandThree.{demand_three}

-- no call of the list is a whole write
one_by_one : Each InOne unsequenced_calls
one_by_one =
    each_more InOne (start 0 7) _ (start_in_one 0 7) (each_more InOne (start 1 8) _ (start_in_one 1 8)
    (each_append InOne (replicate 131 (step 0 (exhibit_bytes 0))) _ (each_replicate InOne 131 _ (step_in_one 0 (exhibit_bytes 0)))
    (each_replicate InOne 131 _ (step_in_one 1 (exhibit_bytes 1)))))

-- what it leaves of an arena, by word numbers
abbrev pub cut_of : ℕ → List ℕ → List ℕ
cut_of d a = put_word (put_word (put_word (put_word a 8831 0x01010101) (10240 + d / 4 + 2) 60) 8833 0x02020202) (10256 + d / 4 + 1) 8

module _ (d : ℕ) (x : State) (figures : figures_in x.arena ≡ fresh_figures 512 60 4)
    (unwritten : (s : ℕ) → s < 60 → map_word (layout_in (alone d) x.arena) x.arena s ≡ 0)
    (found : (l : ℕ) → l < 4 → found_lane (layout_in (alone d) x.arena) x.arena l ≡ idle_lane (60 + l) 1 2)
    (words : (l k : ℕ) → k < 128 → word (exhibit_bytes l) k ≡ 16843009 * (l + 1)) where
  abbrev a : List ℕ
  a = x.arena

  abbrev g : Layout
  g = layout_in (alone d) a

  data_words : g.W ≡ 128
  unfolding layout_of fresh_figures
  data_words = rw figures

  all_words : (figures_in a).size ≡ 512
  unfolding fresh_figures
  all_words = rw figures

  free : (l : ℕ) → l < 4 → free_of g a l ≡ 60 + l
  free l u = ap (λ (r : Lane). r.block.0) (found l u)

  half : (l : ℕ) → l < 4 → 1 - newer_half g a l ≡ 1
  half l u = ap (λ (r : Lane). r.half) (found l u)

  old : (s : ℕ) → s < 60 → map_block g a s ≡ s
  unfolding block_of
  old s u = rw (unwritten s u)

  -- neither sequence word is stored
  none : (e : Entry) → Memᴰ e cut_book → SequenceStored a e → ⊥
  none = each_more (λ (e : Entry). SequenceStored a e → ⊥) (entry_of 1 8 1) _ (λ u. omega (arith, all_words))
      (each_one (λ (e : Entry). SequenceStored a e → ⊥) (entry_of 0 7 131) (λ u. omega (arith, all_words)))

  -- one of the stores before it
  abbrev Keeps : Store → Type 0
  Keeps st = (e : Entry) × Memᴰ e cut_book × MayKeep (alone d) a exhibit_bytes e st

  keeps : (l s t : ℕ) → 0 < t → Memᴰ (entry_of l s t) cut_book → (k : ℕ) → k < 131 → (st : Store)
      → store_of (alone d) a exhibit_bytes (entry_of l s t) k ≡ st → Keeps st
  keeps l s t some m k u st is = (
    entry_of l s t,
    m,
    record {
      once_stored = λ v. absurd (none (entry_of l s t) m v);
      before = λ _. (
        some,
        Memᴰ.cast (sym is) (first_in g (plan_in (alone d) a (entry_of l s t)) (exhibit_bytes l) (before_sequence a) k (omega (arith, all_words))),
      );
    },
  )

  survive : Survive (alone d) a exhibit_bytes cut_book exhibit_kept
  survive = record {
    known = each_more Keeps _ _ (keeps 0 7 131 (omega arith) at_0 127 (omega arith) _ data_0) (each_more Keeps _ _ (keeps 0 7 131 (omega arith) at_0 130 (omega arith) _ new_0)
        (each_more Keeps _ _ (keeps 1 8 1 (omega arith) at_1 1 (omega arith) _ data_1) (each_one Keeps _ (keeps 1 8 1 (omega arith) at_1 129 (omega arith) _ old_1))));
    all = λ e m u. absurd (none e m u);
  }
    where
      at_1 : Memᴰ (entry_of 1 8 1) cut_book
      at_1 = Memᴰ.head refl

      at_0 : Memᴰ (entry_of 0 7 131) cut_book
      at_0 = Memᴰ.tail (Memᴰ.head refl)

      data_0 : store_of (alone d) a exhibit_bytes (entry_of 0 7 131) 127 ≡ record { place = in_data 60 127; value = 0x01010101 }
      data_0 = store_data g (plan_in (alone d) a (entry_of 0 7 131)) (exhibit_bytes 0) 127 (omega (arith, data_words)) ∙ rw (free 0 (omega arith), words 0 127 (omega arith))

      new_0 : store_of (alone d) a exhibit_bytes (entry_of 0 7 131) 130 ≡ record { place = in_flog 0 1 2; value = 60 }
      new_0 = store_log g (plan_in (alone d) a (entry_of 0 7 131)) (exhibit_bytes 0) 130 2 (omega (arith, data_words)) ∙ rw (free 0 (omega arith), half 0 (omega arith))

      data_1 : store_of (alone d) a exhibit_bytes (entry_of 1 8 1) 1 ≡ record { place = in_data 61 1; value = 0x02020202 }
      data_1 = store_data g (plan_in (alone d) a (entry_of 1 8 1)) (exhibit_bytes 1) 1 (omega (arith, data_words)) ∙ rw (free 1 (omega arith), words 1 1 (omega arith))

      old_1 : store_of (alone d) a exhibit_bytes (entry_of 1 8 1) 129 ≡ record { place = in_flog 1 1 1; value = 8 }
      old_1 = store_log g (plan_in (alone d) a (entry_of 1 8 1)) (exhibit_bytes 1) 129 1 (omega (arith, data_words)) ∙ rw (half 1 (omega arith), old 8 (omega arith))

  none-mended : length (last_words (alone d) a cut_book) ≡ 0
  unfolding last_words
  none-mended = rw data_words

  abbrev cut : List ℕ
  cut = cut_of d a

  data_at : (b k : ℕ) → at g (in_data b k) ≡ 1024 + (b * 128 + k)
  unfolding layout_of fresh_figures internal_of
  data_at b k = rw figures

  flog_at : (l k : ℕ) → at g (in_flog l 1 k) ≡ 10240 + (16 * l + (1 * (d / 4) + k))
  unfolding layout_of fresh_figures internal_of
  flog_at l k = rw figures

  cut_is : put_all g exhibit_kept a ≡ cut
  unfolding put_all
  cut_is =
      let p : at g (in_flog 0 1 2) ≡ 10240 + d / 4 + 2 = flog_at 0 2 ∙ omega arith in
      let q : at g (in_flog 1 1 1) ≡ 10256 + d / 4 + 1 = flog_at 1 1 ∙ omega arith in
      rw (data_at 60 127, data_at 61 1, p, q)

  -- a word that it does not touch
  untouched : (i : ℕ) → i ≢ 8831 → i ≢ 8833 → i < 8960 → word cut i ≡ word a i
  untouched i m n u =
      word-put_word_other _ (10256 + d / 4 + 1) i 8 (λ e. omega arith) ∙ word-put_word_other _ 8833 i 0x02020202 n
      ∙ word-put_word_other _ (10240 + d / 4 + 2) i 60 (λ e. omega arith) ∙ word-put_word_other a 8831 i 0x01010101 m

  module _ (listed : Listed (alone d) x unsequenced_calls exhibit_bytes) (tallies : book_after (alone d) a [] unsequenced_calls ≡ unsequenced)
      (empty : (i : ℕ) → 8704 ≤ i → i < 8960 → word a i ≡ 0) (room : Room) (enough : RoomFor (figures_in a) room) where
    apart : taken_apart g x unsequenced_calls ≡ unsequenced_calls
    apart = no_writes g unsequenced_calls x one_by_one

    fewer : Fewer cut_book unsequenced
    fewer = (refl, refl, omega arith, (refl, refl, omega arith, tt))

    after : AfterAnyCut (alone d) a x.handle exhibit_bytes cut_book exhibit_kept room
    after = (demand_three.promised d x unsequenced_calls exhibit_bytes listed).any_cut unsequenced_calls [] (append-nil unsequenced_calls ∙ sym apart) cut_book
        (rw tallies fewer) exhibit_kept survive room enough

    there : AfterCut (alone d) a x.handle exhibit_bytes cut cut_book room
    there = rw cut_is at after.after

    pub out_of_order : CutOutOfOrder d x cut room
    out_of_order = record {
      listed = listed;
      apart = apart;
      tallies = tallies;
      fewer = fewer;
      survive = survive;
      arena = cut_is;
      no_first = (unfold word in (untouched 8704 (λ e. omega arith) (λ e. omega arith) (omega arith) ∙ empty 8704 (omega arith) (omega arith)), unfold word in (untouched 8832 (λ e. omega arith) (λ e. omega arith) (omega arith) ∙ empty 8832 (omega arith) (omega arith)));
      opens = there.number;
      mended = there.mended ∙ none-mended;
      reads = λ s buffer. there.as_before s (λ e m _ u. none e m u) buffer;
    }
