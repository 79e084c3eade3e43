-- `cases::p_cases` meets its contract: the values of cases 1 to 5 and the bytes of case 9, with what stands beside them, are computed but for the refused word of case 3, which is
-- exhibited, cases 6 to 8 are proved in `Pending`, and the case of 256 lanes in `Lanes`.
use mathlib.Core.Path.{refl}
use mathlib.Core.Logic.{inl, inr}
use mathlib.Core.List.{List, ◌++◌}
use Prim.Native.Nat.{ℕ}
use native.Mathlib.Omega.{arith}
use lib.ListN.{replicate, length-replicate}
use Rattle.fletcher.specs.Fletcher.{added, added_all, fletcher64}
use Rattle.format.specs.Sequence.{successor, newer}
use Rattle.format.specs.MapWord.{block_of}
use Rattle.layout.specs.Figures.{fresh_figures, fresh_length}
use Rattle.layout.specs.Sizes.{internal_of}
use Rattle.layout.specs.Claims.{Distance}
use Rattle.layout.specs.Place.{layout_of}
use Rattle.machine.specs.Rules.{answer}
use Rattle.machine.specs.calls.Making.{make_number}
use Rattle.machine.specs.calls.Writing.{store_at}
use Rattle.machine.proofs.exhibit.Made.{exhibited}
use Rattle.cases.specs.Worked.{Worked, AllDue}
use Rattle.cases.specs.Lanes.{case256}
use Rattle.cases.specs.Pending.{case6, case7, case8}
use Rattle.cases.specs.Table.{case1, case2, case3, case3_refused, case3_bits, case4, case4_turns, case5, case5_sizes, case9_sizes, case9_bytes, table}
use Rattle.cases.proofs.Lanes.{case_256}
use Rattle.cases.proofs.Pending.{cases_6_and_7, case_8}
use Rattle.cases.proofs.Rows.{append}
use Rattle.cases.proofs.p_cases.Goals as goal

-- cases 1 to 5 are computed, all but the refused word
computed : AllDue (case1 ++ (case2 ++ (case3 ++ (case3_bits ++ (case4 ++ (case4_turns ++ case5))))))
unfolding added added_all fletcher64 successor newer block_of fresh_figures fresh_length internal_of
computed = (refl, (refl, (refl, (refl, (refl, (refl, (refl, (refl, (refl, (refl, (refl, (refl, (refl, (refl, (refl, (refl, (refl, (refl, (refl, (refl, (refl, (refl, (refl, (refl, (refl, (refl, (refl, (refl, (refl, (refl, (refl, (refl, (refl, (refl, (refl, (refl, (refl, (refl, (refl, (refl, (refl, (refl, (refl, (refl, tt))))))))))))))))))))))))))))))))))))))))))))

-- case 3's refused word is that of the exhibited arena
refused : (d : ℕ) → Distance d → AllDue (case3_refused d)
refused d w =
    let size = length-replicate {A = ℕ} 512 0 in
    let k = (exhibited d w).sloppy in
    (k.word, (k.read (replicate 512 0) size, (k.start, (k.write (replicate 512 0) size, tt))))

-- the sizes beside case 5
sized : AllDue case5_sizes
unfolding fresh_figures fresh_length internal_of make_number answer
sized = (refl, (refl, (refl, (refl, (refl, (refl, (refl, (refl, (refl, (refl, tt))))))))))

-- and their bytes beside case 9
stored_sized : AllDue case9_sizes
unfolding layout_of fresh_figures internal_of store_at
stored_sized = (refl, (refl, (refl, (refl, (refl, (refl, (refl, (refl, (refl, (refl, (refl, (refl, (refl, (refl, (refl, tt)))))))))))))))

-- case 9's bytes
stored : AllDue (case9_bytes 16 40976) × AllDue (case9_bytes 32 40992)
unfolding layout_of fresh_figures internal_of store_at
stored = ((refl, (refl, (refl, (refl, (refl, (refl, (refl, tt))))))), (refl, (refl, (refl, (refl, (refl, (refl, (refl, tt))))))))

abbrev plain : List Worked
plain = case1 ++ (case2 ++ (case3 ++ (case3_bits ++ (case4 ++ (case4_turns ++ case5)))))

abbrev pendings : List Worked
pendings = case6 1 ++ (case6 0 ++ (case7 1 ++ (case7 0 ++ case8)))

-- what stands after the case of 256 lanes
abbrev refusals : List Worked
refusals = case3_refused 16 ++ (case3_refused 32 ++ pendings)

pendings_due : AllDue pendings
unfolding newer successor
pendings_due =
    let p = cases_6_and_7 1 (omega arith) refl in
    let q = cases_6_and_7 0 (omega arith) refl in
    append (case6 1) (case6 0 ++ (case7 1 ++ (case7 0 ++ case8))) p.0
    (append (case6 0) (case7 1 ++ (case7 0 ++ case8)) q.0
    (append (case7 1) (case7 0 ++ case8) p.1 (append (case7 0) case8 q.1 case_8)))

all_due : AllDue table
unfolding table
all_due =
    append plain (case5_sizes ++ (case9_sizes ++ (case9_bytes 16 40976 ++ (case9_bytes 32 40992 ++ (case256 ++ refusals))))) computed
    (append case5_sizes (case9_sizes ++ (case9_bytes 16 40976 ++ (case9_bytes 32 40992 ++ (case256 ++ refusals)))) sized
    (append case9_sizes (case9_bytes 16 40976 ++ (case9_bytes 32 40992 ++ (case256 ++ refusals))) stored_sized
    (append (case9_bytes 16 40976) (case9_bytes 32 40992 ++ (case256 ++ refusals)) stored.0
    (append (case9_bytes 32 40992) (case256 ++ refusals) stored.1
    (append case256 refusals case_256
    (append (case3_refused 16) (case3_refused 32 ++ pendings) (refused 16 (inl refl))
    (append (case3_refused 32) pendings (refused 32 (inr refl)) pendings_due)))))))

pub returns : goal.returns
returns c = record { cases = all_due }
