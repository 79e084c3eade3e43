-- An order of rules: one walk, one lemma of agreement.

pub mod rules
-- Word stores, and each block once.
pub mod stores
-- What holds whatever was called.
pub mod invariant
-- Opening.
pub mod opening
-- Making.
pub mod making
-- Read, start, step and whole write, and demand 1.
pub mod calls
-- Demand 2: the plain row.
pub mod row
-- Demand 3: the plain book.
pub mod book
-- The exhibited run.
pub mod exhibit
pub mod Refusals
