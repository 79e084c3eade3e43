-- A guide from document 01 to the files.
--   The lie of an arena: crates layout and infoblock; what making leaves is calls/Making, claimed in claims/Making.
--   Map words and flog pairs: crate format; what an arena's map and flog say is state/Flog, in bytes words/InBytes; what the calls leave in
--     the map is claimed in claims/Written.
--   Opening: calls/Opening; a valid arena in words is words/Valid; claimed in claims/Opening.
--   A write, store by store: state/Lane, state/Stores and calls/Writing; in bytes words/Records and words/Table, claimed in claims/DemandTwo.
--   The list in demand 3: calls/History and models/Book, claimed in claims/DemandThree; calls beside it are calls/Asides.
--   The table of refusals: Rules, calls/Order and calls/Judging; in words words/Valid and words/Running, claimed in claims/Running.
--   The figures to check against: crates cases and runs.

-- The order of checks as a list of rules, of which the first that applies gives the answer.
pub mod Rules
-- What an arena's map and flog say, lane records, the handle, and word stores.
pub mod state
-- The definition of every call, and lists of them.
pub mod calls
-- Document 01's words: its conditions as propositions, and what calls do in bytes.
pub mod words
-- What the claims compare with: the plain row of sectors and the plain book.
pub mod models
-- The claims.
pub mod claims
