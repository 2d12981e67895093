-- The order of preference of two entries.
use Rattle.std.specs.Prelude.{◌≡◌, ℕ, ◌≤◌}
use Rattle.rate_table.specs.declared.entry.Entry.{Entry}
use Rattle.rate_table.specs.Pairs.{cost}

-- a is preferred to b, or is b
pub record Wins (m : ℕ) (a b : Entry) : Type 0 where
  pub cheaper : cost m a ≤ cost m b
  pub better : cost m b ≡ cost m a → a.error ≤ b.error
  pub earlier : cost m b ≡ cost m a → b.error ≡ a.error → a.index ≤ b.index
