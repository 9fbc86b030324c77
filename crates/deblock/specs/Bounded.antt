-- Indices that lie in the tables.
use Rattle.std.specs.Prelude.{◌≤◌}
use Rattle.spec_filter.specs.declared.EdgeIndices.{EdgeIndices}

pub record IndicesBounded (e : EdgeIndices) : Type 0 where
  pub left : e.left ≤ 51
  pub above : e.above ≤ 51
  pub inner : e.inner ≤ 51
