-- The report's lines in characters, and document 01's report: with its figures and records the text computes to its characters.
use mathlib.Core.Path.{◌≡◌, refl, sym, ◌∙◌}
use mathlib.Core.List.{List, ◌++◌, append_assoc}
use Prim.Native.Nat.{ℕ, zero, suc, ◌+◌}
use native.Mathlib.Omega.{arith}
use Rattle.machine.specs.state.Handle.{lane_at}
use Rattle.machine.specs.declared.lane.Lane.{Lane}
use Rattle.text.specs.Text as texts
use Rattle.text.specs.Text.{digits, decimal, newline, head_text, lane_text, lanes_text, opened_text}
use Rattle.text.specs.Claims.{lane_lines, ReportTextClaim}

-- one line more at the end
more : (t : List Lane) (l n : ℕ) → lane_lines t l (suc n) ≡ lane_lines t l n ++ lane_text (l + n) (lane_at t (l + n))
unfolding lane_lines lane_text
more t l zero = let e : l + 0 ≡ l = omega arith in rw e refl
more t l (suc n) =
    let e : (l + 1) + n ≡ l + suc n = omega arith in
    rw (more t (l + 1) n, e) (simp append_assoc)

-- so the lines from the first on are those up to the last
lines_are : (t : List Lane) (n : ℕ) → lanes_text t n ≡ lane_lines t 0 n
unfolding lanes_text
lines_are t zero = unfold lane_lines in refl
lines_are t (suc n) =
    let e : 0 + n ≡ n = omega arith in
    rw (lines_are t n) (sym (more t 0 n ∙ rw e refl))

-- the head's pieces before what follows
before : (a x b y c z d w n rest : List ℕ) → (a ++ (x ++ (n ++ (b ++ (y ++ (n ++ (c ++ (z ++ (n ++ (d ++ (w ++ n))))))))))) ++ rest
    ≡ a ++ (x ++ (n ++ (b ++ (y ++ (n ++ (c ++ (z ++ (n ++ (d ++ (w ++ (n ++ rest)))))))))))
before a x b y c z d w n rest = simp append_assoc

pub report_text : ReportTextClaim
unfolding digits head_text lane_text lanes_text opened_text
report_text = record {
  lines = λ h mended. rw (lines_are h.table h.figures.lanes)
      (before texts.sector_bytes (decimal h.figures.size) texts.sectors (decimal h.figures.sectors) texts.lanes (decimal h.figures.lanes)
      texts.mended_word (decimal mended) newline (lane_lines h.table 0 h.figures.lanes ++ (texts.opened ++ newline)));
  fresh = λ h size sectors lanes free.
      let a = free 0 (omega arith) in
      let b = free 1 (omega arith) in
      let c = free 2 (omega arith) in
      let d = free 3 (omega arith) in
      simp (size, sectors, lanes, a.0, a.1, b.0, b.1, c.0, c.1, d.0, d.1);
}
