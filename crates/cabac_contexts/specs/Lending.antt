-- A context's state, lent for writing.
use Rattle.std.specs.Prelude.{ℕ, List, slice_set}
use Rattle.std.specs.Borrow.{Lends, MutBor, Fml, Array}
use Rattle.enc_tables.specs.declared.records.CtxState.{CtxState}
use Rattle.enc_tables.specs.contracts.records.CtxState.{the_row}

-- r is the state of context i of the states s, lent for writing
abbrev pub LendsState : MutBor (List CtxState) → ℕ → MutBor CtxState → Fml
LendsState s i r = Lends (Array the_row 0) the_row s r (slice_set s.now i)
