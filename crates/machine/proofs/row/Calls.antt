-- Every call leaves what the row leaves. A whole write is a start and then its steps with one buffer, so the row is followed from step
-- to step, and ends with the sector written and the lane idle again.
use mathlib.Core.Path.{◌≡◌, refl, sym, ap, ◌∙◌, subst}
use mathlib.Core.List.{List}
use mathlib.Core.Bool.{true, false}
use Prim.Native.Nat.{ℕ, zero, suc, ◌+◌, ◌*◌, ◌≤◌, ◌<◌}
use native.Mathlib.Omega.{arith}
use native.Mathlib.Numerals.{add-one}
use lib.Dec.{eqb}
use lib.ListN.{length, take}
use lib.Seq.{take_all}
use borrow.Author.Tests.{eqb-true, eq-eqb, ne_eqb, lt-leb}
use Rattle.words.specs.Bytes.{Small}
use Rattle.format.proofs.Tests.{by_bool}
use Rattle.layout.specs.Place.{Layout, layout_of}
use Rattle.layout.specs.declared.Figures.{Figures}
use Rattle.machine.specs.Rules.{answer}
use Rattle.machine.specs.state.Handle.{Handle, laid_out}
use Rattle.machine.specs.state.Lane.{write_stores}
use Rattle.machine.specs.calls.Writing.{Outcome, start_number, start_of, step_number, step_of, steps_of, write_number, write_of}
use Rattle.machine.specs.calls.History.{start, step, write, State, after}
use Rattle.machine.specs.models.Row.{holds, Flight, idle, flying, Row, put, word_by_word, row_number, row_after}
use Rattle.machine.proofs.calls.Accepted.{start_found, step_found, WriteFound, write_found}
use Rattle.machine.proofs.invariant.Held.{held_whole, lanes-in, good_start, good_step}
use Rattle.machine.proofs.invariant.Histories.{steps_alike, alike_after}
use Rattle.machine.proofs.row.State.{Rep, rep_same}
use Rattle.machine.proofs.row.Answers.{number_is}
use Rattle.machine.proofs.row.Words.{kept_same}
use Rattle.machine.proofs.row.Steps.{last_store, started, step_any}
use Rattle.layout.specs.declared.Told.{Told}

-- ---- the row along a whole write

-- the row with a write in flight
abbrev flown : Row → ℕ → ℕ → ℕ → List ℕ → Row
flown row l s n bytes = record { sector = row.sector; lane = put row.lane l (flying s n bytes) }

module _ (d : ℕ) (f : Figures) (row : Row) (l s n : ℕ) (bytes buffer : List ℕ) (u : l < f.lanes) (size : length buffer ≡ f.size) where
  -- the lane is in flight, so a step is accepted
  flown-number : row_number f (flown row l s n bytes) (step l buffer) ≡ 0
  unfolding row_number answer
  flown-number = rw (lt-leb f.lanes l u, eq-eqb l l refl, eq-eqb (length buffer) f.size size)

  flown_more : eqb n ((layout_of d f).W + 4) ≡ false
      → row_after word_by_word f (flown row l s n bytes) (step l buffer) ≡ flown (flown row l s n bytes) l s (suc n) (word_by_word f n bytes buffer)
  unfolding row_after
  flown_more e = rw (flown-number, eq-eqb l l refl, last_store d f n, e, add-one n)

  flown_last : eqb n ((layout_of d f).W + 4) ≡ true
      → row_after word_by_word f (flown row l s n bytes) (step l buffer)
      ≡ record { sector = put row.sector s (holds (word_by_word f n bytes buffer)); lane = put (put row.lane l (flying s n bytes)) l idle }
  unfolding row_after
  flown_last e = rw (flown-number, eq-eqb l l refl, last_store d f n, e)

-- a place changed twice
put_twice : {A : Type 0} (row : ℕ → A) (l : ℕ) (y z : A) (j : ℕ) → put row l z j ≡ put (put row l y) l z j
put_twice row l y z j = by_bool (eqb j l) (put row l z j ≡ put (put row l y) l z j) (λ t. rw t) (λ t. rw t)

module _ (τ : Told) where
  -- an arena and a handle after a call, against a row
  abbrev RepAfter : Row → Outcome → Type 0
  RepAfter row o = Rep τ row o.arena o.handle

module _ (τ : Told) where
  module _ (row : Row) (a : List ℕ) (h : Handle) (k : Rep τ row a h) where
    pub start_rep : (l s : ℕ) → RepAfter τ (row_after word_by_word h.figures row (start l s)) (start_of a h l s)
    unfolding row_after start_of
    start_rep l s = rw (← (number_is τ row a h k (start l s))) (by_bool (eqb (start_number a h l s) 0) _
        (λ t. let d = start_found a h l s (eqb-true _ _ t) in
        rw t (started τ row a h k l (lanes-in h.distance h.figures l d.lane) s (rw t at (good_start τ a h l s k.held))))
        (λ t. rw t k))

    pub step_rep : (l : ℕ) (buffer : List ℕ) → Small buffer
        → RepAfter τ (row_after word_by_word h.figures row (step l buffer)) (step_of a h l buffer)
    unfolding row_after step_of
    step_rep l buffer small = rw (← (number_is τ row a h k (step l buffer))) (by_bool (eqb (step_number a h l buffer) 0) _
        (λ t. let d = step_found a h l buffer (eqb-true _ _ t) in
        rw t (step_any τ row a h k l (lanes-in h.distance h.figures l d.lane) d.busy buffer small d.size
        (rw t at (good_step τ a h l buffer small k.held))))
        (λ t. rw t k))

  module _ (row : Row) (a : List ℕ) (h : Handle) (k : Rep τ row a h) (l s : ℕ) (buffer : List ℕ) (small : Small buffer)
      (e : write_number a h l s buffer ≡ 0) where
    abbrev g : Layout
    g = laid_out h

    abbrev steps_made : ℕ → Outcome
    steps_made n = steps_of n (start_of a h l s).arena (start_of a h l s).handle l buffer

    -- after n steps: the write is in flight, and keeps the buffer's first words
    abbrev flown_to : ℕ → Row
    flown_to n = flown row l s n (take (4 * n) buffer)

    abbrev Along : ℕ → Type 0
    Along n = RepAfter τ (flown_to n) (steps_made n)

    found : WriteFound a h l s buffer
    found = write_found a h l s buffer e

    figures_kept : (n : ℕ) → (steps_made n).handle.figures ≡ h.figures
    figures_kept n =
        let x : State = record { arena = a; handle = h } in
        (steps_alike n (after x (start l s)) l buffer).figures ∙ (alike_after x (start l s)).figures

    distance_kept : (n : ℕ) → (steps_made n).handle.distance ≡ h.distance
    distance_kept n =
        let x : State = record { arena = a; handle = h } in
        (steps_alike n (after x (start l s)) l buffer).distance ∙ (alike_after x (start l s)).distance

    lane_in : (n : ℕ) → l < (steps_made n).handle.figures.lanes
    lane_in n = rw (figures_kept n) (start_found a h l s found.start).lane

    size_is : (n : ℕ) → length buffer ≡ (steps_made n).handle.figures.size
    size_is n = rw (figures_kept n) found.size

    -- the start
    begun : Along 0
    unfolding steps_of row_after
    begun = rw (sym (number_is τ row a h k (start l s)) ∙ found.start) at (start_rep row a h k l s)

    -- one step of the write
    one : (n : ℕ) → Along n → RepAfter τ (row_after word_by_word (steps_made n).handle.figures (flown_to n) (step l buffer)) (steps_made (suc n))
    unfolding steps_of
    one n r = step_rep (flown_to n) (steps_made n).arena (steps_made n).handle r l buffer small

    -- what it leaves of the buffer's first words
    grown : (n : ℕ) → word_by_word (steps_made n).handle.figures n (take (4 * n) buffer) buffer ≡ take (4 * suc n) buffer
    grown n = rw (figures_kept n) (kept_same h.figures (unfold layout_of in (held_whole τ a h k.held)) buffer found.size n
        ∙ ap (λ (m : ℕ). take (4 * m) buffer) (add-one n))

    more : (n : ℕ) → n < g.W + 4 → Along n → Along (suc n)
    more n u r = rep_same τ (flown (flown_to n) l s (suc n) (take (4 * suc n) buffer)) (flown_to (suc n)) _ _
        (λ j _. put_twice row.lane l (flying s n (take (4 * n) buffer)) (flying s (suc n) (take (4 * suc n) buffer)) j) (λ _ _. refl) moved
      where
        t : eqb n ((laid_out (steps_made n).handle).W + 4) ≡ false
        t = rw (distance_kept n, figures_kept n) (ne_eqb n (g.W + 4) (λ d. omega arith))

        moved : RepAfter τ (flown (flown_to n) l s (suc n) (take (4 * suc n) buffer)) (steps_made (suc n))
        moved = subst (λ (x : Row). RepAfter τ x (steps_made (suc n)))
            (flown_more _ _ row l s n (take (4 * n) buffer) buffer (lane_in n) (size_is n) t ∙ ap (flown (flown_to n) l s (suc n)) (grown n)) (one n r)

    along : (n : ℕ) → n ≤ g.W + 4 → Along n
    along zero u = begun
    along (suc n) u = more n u (along n (omega arith))

    -- the lane was idle, and is idle again
    calm : (j : ℕ) (y : Flight) → row.lane j ≡ put (put row.lane l y) l idle j
    calm j y = by_bool (eqb j l) (row.lane j ≡ put (put row.lane l y) l idle j)
        (λ t. let d = start_found a h l s found.start in
        rw t (ap row.lane (eqb-true j l t) ∙ (k.lane l (lanes-in h.distance h.figures l d.lane)).is ∙ rw d.idle))
        (λ t. rw t)

    abbrev written : Row
    written = record { sector = put row.sector s (holds buffer); lane = row.lane }

    whole : RepAfter τ written (steps_made (write_stores g))
    whole = let c : suc m ≡ write_stores g = omega arith in
        subst (λ (n : ℕ). RepAfter τ written (steps_made n)) c
        (rep_same τ (landed buffer) written _ _ (λ j _. calm j (flying s m (take (4 * m) buffer))) (λ _ _. refl)
        (subst (λ (x : Row). RepAfter τ x (steps_made (suc m)))
        (flown_last _ _ row l s m (take (4 * m) buffer) buffer (lane_in m) (size_is m) t ∙ ap landed (grown m ∙ all))
        (one m (along m (omega arith)))))
      where
        m : ℕ
        m = g.W + 4

        t : eqb (g.W + 4) ((laid_out (steps_made (g.W + 4)).handle).W + 4) ≡ true
        t = rw (distance_kept (g.W + 4), figures_kept (g.W + 4)) (eq-eqb (g.W + 4) (g.W + 4) refl)

        -- with the map word stored, of the bytes that are kept
        landed : List ℕ → Row
        landed bytes = record { sector = put row.sector s (holds bytes); lane = put (flown_to (g.W + 4)).lane l idle }

        all : take (4 * suc (g.W + 4)) buffer ≡ buffer
        all = take_all (4 * suc (g.W + 4)) buffer (omega (arith, held_whole τ a h k.held, found.size))

  pub write_rep : (row : Row) (a : List ℕ) (h : Handle) → Rep τ row a h → (l s : ℕ) (buffer : List ℕ) → Small buffer
      → RepAfter τ (row_after word_by_word h.figures row (write l s buffer)) (write_of a h l s buffer)
  unfolding row_after write_of
  write_rep row a h k l s buffer small = rw (← (number_is τ row a h k (write l s buffer))) (by_bool (eqb (write_number a h l s buffer) 0) _
      (λ t. rw t (whole row a h k l s buffer small (eqb-true _ _ t)))
      (λ t. rw t k))
