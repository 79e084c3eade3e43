-- What an opening gave, in the form of its definition, for every table of the length that it was told.
use Rattle.std.specs.Prelude.{◌≡◌, List, ℕ, length, Result, Ok, Err}
use Rattle.machine.specs.declared.handle.Handle as bare
use Rattle.machine.specs.declared.lane.Lane.{Lane}
use Rattle.machine.specs.declared.refusal.Refusal.{Refusal}
use Rattle.machine.specs.state.Answer.{number_of}
use Rattle.machine.specs.state.Handle.{bare_of, no_handle, zero_handle}
use Rattle.machine.specs.calls.Opening.{Room, Opening}
use Rattle.lanes.specs.Filled.{filled_by}
use Rattle.arena.specs.declared.open.Mended.{Mended}
use Rattle.arena.specs.declared.open.Opened.{Opened}

-- so it is with that work buffer and every table of so many records
abbrev pub ForTable : List ℕ → ℕ → (Room → Type 0) → Type 0
ForTable work records P = (t : List Lane) → length t ≡ records → P (record { work = work; table = t })

-- a cut opening's number and count, with the arena and the work buffer as it left them; it gives no handle and leaves the table
abbrev pub cut_gave : ℕ → ℕ → List ℕ → List ℕ → List Lane → Opening
cut_gave n count arena work table = record { number = n; mended = count; arena = arena; handle = no_handle table; work = work }

-- how many lanes were pending, 0 on a refusal
abbrev pub count_of : Result ℕ Refusal → ℕ
count_of (Ok n) = n
count_of (Err _) = 0

abbrev pub mended_count : Result Mended Refusal → ℕ
mended_count (Ok m) = m.count
mended_count (Err _) = 0

-- what an opening gives, all zeroes on a refusal
abbrev pub opened_count : Result Opened Refusal → ℕ
opened_count (Ok o) = o.mended
opened_count (Err _) = 0

abbrev pub opened_handle : Result Opened Refusal → bare.Handle
opened_handle (Ok o) = o.handle
opened_handle (Err _) = zero_handle

-- the table as the handle fills it; a refusal leaves it
abbrev pub opened_table : Result Opened Refusal → List ℕ → List Lane → List Lane
opened_table (Ok o) after lent = filled_by o.handle after lent
opened_table (Err _) after lent = lent

-- an opening's result, with the arena and the work buffer as it left them, and the table as its handle fills it
pub record OpenGives (r : Result Opened Refusal) (after left : List ℕ) (lent : List Lane) (o : Opening) : Type 0 where
  pub number : number_of r ≡ o.number
  pub mended : opened_count r ≡ o.mended
  pub arena : after ≡ o.arena
  pub handle : opened_handle r ≡ bare_of o.handle
  pub table : opened_table r after lent ≡ o.handle.table
  pub work : left ≡ o.work
