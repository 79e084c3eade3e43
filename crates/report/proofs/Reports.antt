-- What is reported: by the input's length, and then by the opening's number; of a made arena by what making promises of it.
use mathlib.Core.Path.{◌≡◌, refl, ap, ◌∙◌}
use mathlib.Core.Logic.{inl}
use mathlib.Core.List.{List}
use Prim.Native.Nat.{ℕ, ◌≤◌}
use native.Mathlib.Omega.{arith}
use lib.ListN.{length, length-replicate}
use borrow.Author.Tests.{lt-ltb, le-ltb, ne_eqb}
use Rattle.layout.specs.Figures.{max_lanes, fresh_figures}
use Rattle.layout.specs.Told.{alone_near}
use Rattle.layout.specs.declared.Figures.{Figures}
use Rattle.machine.specs.state.Lane.{no_lane}
use Rattle.machine.specs.calls.Making.{Wanted, make_of}
use Rattle.machine.specs.calls.Opening.{open_of}
use Rattle.machine.specs.claims.Making.{FreshRoom, FreshArena}
use Rattle.machine.proofs.making.Making.{making_claim}
use Rattle.machine.proofs.opening.Opening.{opening_claim}
use Rattle.machine.proofs.opening.Opens.{opened_figures}
use Rattle.text.specs.Text.{digits, refused_text}
use Rattle.text.specs.Claims.{fresh_report}
use Rattle.text.proofs.Reported.{report_text}
use Rattle.report.specs.Report.{lent, max_input, report_of}
use Rattle.report.specs.Claims.{ReportClaim}

-- a made arena with the figures of document 01's example
module _ (a first second : List ℕ) where
  abbrev wanted : Wanted
  wanted = record { size = 512; sectors = 60; lanes = 4; first = first; second = second }

  abbrev found : List ℕ
  found = (make_of wanted a).arena

  fresh-report : length a ≡ 49152 → FreshArena wanted a → (report_of found).text ≡ fresh_report
  unfolding report_of
  fresh-report u m =
      let room : FreshRoom wanted lent = record { bytes = omega arith; records = rw (length-replicate max_lanes no_lane) (omega arith) } in
      let few : length found ≤ max_input = omega (arith, m.bytes.size) in
      let k = m.opens 16 (inl refl) in
      let zero = k.number lent room in
      let f = opened_figures alone_near found lent zero ∙ m.figures in
      rw (le-ltb max_input (length found) few, zero, k.mended lent)
      (report_text.fresh (open_of alone_near found lent).handle
      (ap (λ (g : Figures). g.size) f ∙ unfold fresh_figures in refl)
      (ap (λ (g : Figures). g.sectors) f ∙ unfold fresh_figures in refl)
      (ap (λ (g : Figures). g.lanes) f ∙ unfold fresh_figures in refl)
      (λ l v. ((k.lanes lent l room v).block, (k.lanes lent l room v).sequence)))

pub report_claim : ReportClaim
unfolding report_of refused_text
report_claim = record {
  longer = λ a u. unfold digits in (rw (lt-ltb max_input (length a) (omega arith)));
  refused = λ a u n.
      let kept = ((opening_claim alone_near).refused a lent n).arena in
      rw (le-ltb max_input (length a) (omega arith), ne_eqb (open_of alone_near a lent).number 0 n, kept);
  opened = λ a u e. rw (le-ltb max_input (length a) (omega arith), e);
  fresh = λ a first second small small_first small_second u e.
      fresh-report a first second u (making_claim.made (wanted a first second) a small small_first small_second e);
}
