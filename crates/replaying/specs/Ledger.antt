-- What the lines of a replay say of its writes: by the records and their answers alone, which record's step made each store of a write.
use Rattle.std.specs.Prelude.{cond, List, [], ◌∷◌, ◌++◌, ℕ, zero, suc, ◌+◌, eqb, length}
use Rattle.machine.specs.models.Row.{put}
use Rattle.runlog.specs.declared.record.Record.{Record}
use Rattle.runlog.specs.declared.record.Record.TheVariants.{Start, Step, Cut}

-- a lane: without a write, or with one to a sector, and for each store made the index of the record whose step made it
pub data Underway : Type 0 where
  none : Underway
  to : ℕ → List ℕ → Underway

-- a sector: as the first opening left it, or last written by the steps of these records
pub data Written : Type 0 where
  as_opened : Written
  by : List ℕ → Written

pub record Ledger : Type 0 where
  pub lane : ℕ → Underway
  pub sector : ℕ → Written

abbrev pub no_lines : Ledger
no_lines = record { lane = λ l. none; sector = λ s. as_opened }

-- a write has S/4 + 5 stores, and so many lanes can have one
module _ (stores lanes : ℕ) where
  -- one more store of lane l, by record i; the last finishes the write
  abbrev pub step_noted : Ledger → ℕ → ℕ → Underway → Ledger
  step_noted k l i none = k
  step_noted k l i (to s is) =
      cond (eqb (length is + 1) stores)
      (record { lane = put k.lane l none; sector = put k.sector s (by (is ++ (i ∷ []))) })
      (record { lane = put k.lane l (to s (is ++ (i ∷ []))); sector = k.sector })

  -- an opening finishes a write that lacks one store, and drops the others
  abbrev pub landed : (ℕ → Written) → Underway → ℕ → Written
  landed sectors none = sectors
  landed sectors (to s is) = cond (eqb (length is + 1) stores) (put sectors s (by is)) sectors

  unfoldable pub all_landed : Ledger → ℕ → ℕ → Written
  all_landed k zero = k.sector
  all_landed k (suc l) = landed (all_landed k l) (k.lane l)

  abbrev pub cut_noted : Ledger → Ledger
  cut_noted k = record { lane = λ l. none; sector = all_landed k lanes }

  -- record i was run and accepted
  abbrev pub accepted : Ledger → ℕ → Record → Ledger
  accepted k i (Start l s) = record { lane = put k.lane l.0 (to s.0 []); sector = k.sector }
  accepted k i (Step l) = step_noted k l.0 i (k.lane l.0)
  accepted k i Cut = cut_noted k

  -- a refused record changes nothing
  abbrev pub noted : Ledger → ℕ → Record → ℕ → Ledger
  noted k i r n = cond (eqb n 0) (accepted k i r) k

  -- records and their answers, from index i on
  unfoldable pub all_noted : Ledger → ℕ → List Record → List ℕ → Ledger
  all_noted k i [] ns = k
  all_noted k i (r ∷ rs) [] = k
  all_noted k i (r ∷ rs) (n ∷ ns) = all_noted (noted k i r n) (suc i) rs ns
