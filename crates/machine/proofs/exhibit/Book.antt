-- The run of `Exhibited` in the book, for any arena with its figures: the calls one by one, and many steps of one lane by recursion.
use mathlib.Core.Path.{◌≡◌, refl}
use mathlib.Core.Logic.{◌≢◌}
use mathlib.Core.List.{List, [], ◌∷◌, ◌++◌}
use mathlib.Core.Bool.{true, and-false}
use Prim.Native.Nat.{ℕ, zero, suc, ◌+◌, ◌≤◌, ◌<◌}
use native.Mathlib.Omega.{arith}
use native.Mathlib.Nat.{add-zero}
use lib.ListN.{length, replicate}
use borrow.Author.Tests.{lt-ltb, lt-leb}
use Rattle.layout.specs.Figures.{fresh_figures}
use Rattle.layout.specs.Place.{layout_of}
use Rattle.machine.specs.Rules.{answer}
use Rattle.machine.specs.state.Lane.{write_stores}
use Rattle.machine.specs.state.Flog.{map_word}
use Rattle.machine.specs.calls.Opening.{figures_in, layout_in}
use Rattle.machine.specs.calls.History.{Call, read, start, step, write}
use Rattle.machine.specs.models.Book.{Entry, any_entry, lane_flies, book_number, tallied, noted, last_words}
use Rattle.machine.proofs.stores.Members.{each_none, each_more}
use Rattle.machine.proofs.book.Entries.{entry_of, Unused}
use Rattle.machine.proofs.book.FirstArena.{FirstArena}
use Rattle.machine.proofs.book.InTurn.{unused_lane, unused_sector, start_done, step_done, steps_first}
use Rattle.machine.proofs.book.Orderly.{Goes, goes_none, goes_accepted, goes_refused, goes_append}
use Rattle.layout.specs.declared.Told.{Told}

-- lanes 0 and 1 with t and u stores made
abbrev pub both : ℕ → ℕ → List Entry
both t u = entry_of 1 8 u ∷ entry_of 0 7 t ∷ []

unused_none : (l s : ℕ) → Unused [] l s
unused_none l s = each_none _

unused_more : (b : List Entry) (l s : ℕ) (e : Entry) → e.lane ≢ l → e.sector ≢ s → Unused b l s → Unused (e ∷ b) l s
unused_more b l s e p q u = each_more (λ (d : Entry). (d.lane ≢ l) × (d.sector ≢ s)) e b (p, q) u

-- the calls of the run
abbrev pub together : (ℕ → List ℕ) → List Call
together bytes = start 0 7 ∷ start 1 8 ∷ step 0 (bytes 0) ∷ step 1 (bytes 1) ∷ replicate 131 (step 0 (bytes 0))

abbrev pub further : (ℕ → List ℕ) → List ℕ → List Call
further bytes buffer = start 0 9 ∷ read 7 buffer ∷ write 2 10 (bytes 2) ∷ []

-- the steps that finish both
abbrev pub onward : (ℕ → List ℕ) → List Call
onward bytes = step 0 (bytes 0) ∷ replicate 132 (step 1 (bytes 1))

abbrev pub unsequenced_by : (ℕ → List ℕ) → List Call
unsequenced_by bytes = start 0 7 ∷ start 1 8 ∷ (replicate 131 (step 0 (bytes 0)) ++ replicate 131 (step 1 (bytes 1)))

-- lane 1 and sector 8 beside lane 0's write
apart_0 : (t : ℕ) → Unused (entry_of 0 7 t ∷ []) 1 8
apart_0 t = unused_more [] 1 8 (entry_of 0 7 t) (λ p. omega arith) (λ p. omega arith) (unused_none 1 8)

module _ (τ : Told) (a : List ℕ) (x : FirstArena τ a) (f : figures_in a ≡ fresh_figures 512 60 4)
    (unwritten : (s : ℕ) → s < 60 → map_word (layout_in τ a) a s ≡ 0) (bytes : ℕ → List ℕ)
    (size : (l : ℕ) → length (bytes l) ≡ 512) where
  stores : write_stores (layout_in τ a) ≡ 133
  unfolding layout_of fresh_figures
  stores = rw f

  -- ---- the numbers

  in_lanes : (l : ℕ) → l < 4 → l < (figures_in a).lanes
  unfolding fresh_figures
  in_lanes l u = rw f u

  full : (l : ℕ) → length (bytes l) ≡ (figures_in a).size
  unfolding fresh_figures
  full l = rw f (size l)

  start_zero : (b : List Entry) (l s : ℕ) → l < 4 → s < 60 → Unused b l s → book_number τ a b (start l s) ≡ 0
  unfolding fresh_figures
  start_zero b l s u v n = start_done τ a b l s (in_lanes l u) (rw f v) n

  step_zero : (b : List Entry) (l : ℕ) → l < 4 → lane_flies τ a b l ≡ true → book_number τ a b (step l (bytes l)) ≡ 0
  step_zero b l u p = step_done τ a b l (bytes l) (in_lanes l u) (full l) p

  write_done : (b : List Entry) (l s : ℕ) → l < 4 → s < 60 → Unused b l s → book_number τ a b (write l s (bytes l)) ≡ 0
  unfolding book_number fresh_figures answer
  write_done b l s u v n =
      rw (unused_lane τ a b l s n, unused_sector τ a b l s n, f, lt-leb 4 l u, lt-leb 60 s v, size l)

  start_busy : (b : List Entry) (l s : ℕ) → l < 4 → lane_flies τ a b l ≡ true → book_number τ a b (start l s) ≡ 12
  unfolding book_number fresh_figures answer
  start_busy b l s u p = rw (p, f, lt-leb 4 l u)

  read_done : (b : List Entry) (s : ℕ) (buffer : List ℕ) → s < 60 → length buffer ≡ 512 → book_number τ a b (read s buffer) ≡ 0
  unfolding book_number fresh_figures answer
  read_done b s buffer u e = rw (unwritten s u, f, lt-leb 60 s u, e, and-false)

  -- ---- the run

  flies_0 : (t u : ℕ) → t < 133 → lane_flies τ a (both t u) 0 ≡ true
  unfolding any_entry
  flies_0 t u p = rw (stores, lt-ltb t 133 p)

  flies_1 : (t u : ℕ) → u < 133 → lane_flies τ a (both t u) 1 ≡ true
  unfolding any_entry
  flies_1 t u q = rw (stores, lt-ltb u 133 q)

  -- n more stores on lane 1
  steps_1 : (n t u : ℕ) → u + n ≤ 133 → Goes τ a bytes (both t u) (replicate n (step 1 (bytes 1))) (both t (u + n))
  steps_1 n t u v = steps_first τ a bytes n (entry_of 0 7 t ∷ []) 1 8 u (in_lanes 1 (omega arith)) (λ _. full 1) (apart_0 t) (omega (arith, stores))

  -- n more stores on lane 0
  steps_0 : (n t u : ℕ) → t + n ≤ 133 → Goes τ a bytes (both t u) (replicate n (step 0 (bytes 0))) (both (t + n) u)
  unfolding tallied noted
  steps_0 zero t u v = rw add-zero (goes_none τ a bytes _)
  steps_0 (suc n) t u v =
      let e : t + suc n ≡ t + 1 + n = omega arith in
      goes_accepted τ a bytes _ _ (step 0 (bytes 0)) _ (step_zero _ 0 (omega arith) (flies_0 t u (omega arith))) tt refl
      (rw e (steps_0 n (t + 1) u (omega arith)))

  -- both writes started
  started : (cs : List Call) (b : List Entry) → Goes τ a bytes (both 0 0) cs b → Goes τ a bytes [] (start 0 7 ∷ start 1 8 ∷ cs) b
  unfolding noted
  started cs b g =
      goes_accepted τ a bytes _ _ (start 0 7) _ (start_zero [] 0 7 (omega arith) (omega arith) (unused_none 0 7)) (unused_none 0 7) tt
      (goes_accepted τ a bytes _ _ (start 1 8) _ (start_zero _ 1 8 (omega arith) (omega arith) (apart_0 0)) (apart_0 0) tt g)

  pub goes_together : Goes τ a bytes [] (together bytes) (both 132 1)
  unfolding noted tallied
  goes_together = started _ _
      (goes_accepted τ a bytes _ _ (step 0 (bytes 0)) _ (step_zero _ 0 (omega arith) (flies_0 0 0 (omega arith))) tt refl
      (goes_accepted τ a bytes _ _ (step 1 (bytes 1)) _ (step_zero _ 1 (omega arith) (flies_1 1 0 (omega arith))) tt refl
      (steps_0 131 1 1 (omega arith))))

  -- all stores before both sequence words
  pub goes_unsequenced : Goes τ a bytes [] (unsequenced_by bytes) (both 131 131)
  goes_unsequenced = started _ _ (goes_append τ a bytes (replicate 131 (step 0 (bytes 0))) _ (both 0 0) (both 131 0) _
      (steps_0 131 0 0 (omega arith)) (steps_1 131 131 0 (omega arith)))

  pub then_refused : book_number τ a (both 132 1) (start 0 9) ≡ 12
  then_refused = start_busy (both 132 1) 0 9 (omega arith) (flies_0 132 1 (omega arith))

  goes_further : (buffer : List ℕ) → length buffer ≡ 512 → Goes τ a bytes (both 132 1) (further bytes buffer) (entry_of 2 10 133 ∷ both 132 1)
  unfolding noted
  goes_further buffer e =
      let n = unused_more (entry_of 0 7 132 ∷ []) 2 10 (entry_of 1 8 1) (λ p. omega arith) (λ p. omega arith)
      (unused_more [] 2 10 (entry_of 0 7 132) (λ p. omega arith) (λ p. omega arith) (unused_none 2 10)) in
      goes_refused τ a bytes _ _ (start 0 9) _ (λ p. omega (arith, then_refused))
      (goes_accepted τ a bytes _ _ (read 7 buffer) _ (read_done _ 7 buffer (omega arith) e) tt tt
      (goes_accepted τ a bytes _ _ (write 2 10 (bytes 2)) _ (write_done _ 2 10 (omega arith) (omega arith) n) n refl (rw stores (goes_none τ a bytes _))))

  pub goes_all : (buffer : List ℕ) → length buffer ≡ 512 → Goes τ a bytes [] (together bytes ++ further bytes buffer) (entry_of 2 10 133 ∷ both 132 1)
  goes_all buffer e = goes_append τ a bytes (together bytes) (further bytes buffer) [] (both 132 1) _ goes_together (goes_further buffer e)

  -- both writes finished
  pub goes_finished : Goes τ a bytes [] (together bytes ++ onward bytes) (both 133 133)
  unfolding noted tallied
  goes_finished = goes_append τ a bytes (together bytes) (onward bytes) [] (both 132 1) _ goes_together
      (goes_accepted τ a bytes _ _ (step 0 (bytes 0)) _ (step_zero _ 0 (omega arith) (flies_0 132 1 (omega arith))) tt refl (steps_1 132 133 1 (omega arith)))

  -- one of the writes lacks only its map word
  pub one_last : length (last_words τ a (entry_of 2 10 133 ∷ both 132 1)) ≡ 1
  unfolding last_words
  one_last = rw stores
