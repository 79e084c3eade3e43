-- The report from what opening gave and what the text's functions left, outcome by outcome.
use mathlib.Core.Path.{◌≡◌, refl, sym, ap₂}
use mathlib.Core.List.{List, ◌++◌}
use Prim.Native.Nat.{ℕ, ◌≤◌, ◌<◌}
use native.Mathlib.Omega.{arith}
use lib.ListN.{length, drop}
use borrow.Author.Tests.{lt-ltb, le-ltb}
use Rattle.std.specs.Prelude.{Ok, Err}
use Rattle.machine.specs.declared.refusal.Refusal.{Refusal}
use Rattle.machine.specs.state.Answer.{refusal_number}
use Rattle.machine.proofs.Refusals.{not_zero}
use Rattle.layout.specs.Told.{alone_near}
use Rattle.machine.specs.declared.handle.Handle as bare
use Rattle.machine.specs.declared.lane.Lane.{Lane}
use Rattle.machine.specs.state.Handle.{Handle, with}
use Rattle.machine.specs.calls.Opening.{Opening, open_of}
use Rattle.lanes.specs.Filled.{filled_by}
use Rattle.arena.specs.Calls.{OpenGives}
use Rattle.arena.specs.declared.open.Opened.{Opened}
use Rattle.text.specs.Opened.{most_lanes, opened}
use Rattle.text.specs.Text.{refused_text, opened_text}
use Rattle.text.proofs.Laws.{opened_any}
use Rattle.report.specs.Report.{text_of, lent, max_input, report_of, Reported}
use Rattle.report.proofs.Suffices.{few_lanes}

pub too_long : (a before after : List ℕ) (r : ℕ) → max_input < length a → r ≡ length (refused_text 1)
    → after ≡ refused_text 1 ++ drop (length (refused_text 1)) before → Reported (report_of a) r a before after
unfolding report_of
too_long a before after r u e f = rw (lt-ltb _ _ u) (record { count = e; buffer = f; opened = refl })

module _ (a input left : List ℕ) (u : length a ≤ max_input) where
  abbrev given : Opening
  given = open_of alone_near a lent

  reported : (text before after : List ℕ) (r : ℕ) → input ≡ given.arena → text ≡ text_of given → r ≡ length text
      → after ≡ text ++ drop (length text) before → Reported (report_of a) r input before after
  unfolding report_of
  reported text before after r i t e f = rw (le-ltb _ _ u, ← t) (record { count = e; buffer = f; opened = i })

  -- an opening that was refused
  pub refused_report : (x : Refusal) → OpenGives (Err x) input left lent.table given → (before after : List ℕ) (r : ℕ)
      → r ≡ length (refused_text (refusal_number x)) → after ≡ refused_text (refusal_number x) ++ drop (length (refused_text (refusal_number x))) before
      → Reported (report_of a) r input before after
  refused_report x gives before after r =
      reported (refused_text (refusal_number x)) before after r gives.arena (rw (← gives.number, not_zero x))

  -- one that gave this
  module _ (o : Opened) (gives : OpenGives (Ok o) input left lent.table given) where
    zero : given.number ≡ 0
    zero = sym gives.number

    -- the handle that was given, with the table that it fills
    handle : with o.handle (filled_by o.handle input lent.table) ≡ given.handle
    handle = ap₂ {C = Handle} (λ (h : bare.Handle) (t : List Lane). with h t) gives.handle gives.table

    pub opened_report : (before after : List ℕ) (r : ℕ) → let text = opened_text (opened o.handle input) o.mended in
        r ≡ length text → after ≡ text ++ drop (length text) before → Reported (report_of a) r input before after
    opened_report before after r =
        reported (opened_text (opened o.handle input) o.mended) before after r gives.arena
        (rw (zero, ← handle, ← gives.mended) (sym (opened_any o.handle input lent.table o.mended)))

    -- there is a line for each lane
    pub few_lines : o.handle.figures.lanes ≤ most_lanes
    few_lines = rw gives.handle (few_lanes.few a (omega (arith, u)) zero)
