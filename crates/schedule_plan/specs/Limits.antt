-- How much a run of a plan may use.
use Rattle.std.specs.Prelude.{ℕ, ◌≤◌}
use Rattle.cnf_base.specs.Limits.{most_entries_allowed, most_nodes_allowed}
use Rattle.schedule_plan.specs.declared.limits.Limits.{Limits}

-- the greatest clause number that a run may be allowed, 10^15
abbrev pub most_ids : ℕ
most_ids = 1000000000000000

-- the limits that a run may be given
pub record AreLimits (limits : Limits) : Type 0 where
  pub cache : 1 ≤ limits.cache
  pub most_cache : limits.cache ≤ most_entries_allowed
  pub max_nodes : limits.max_nodes ≤ most_nodes_allowed
  pub max_ids : limits.max_ids ≤ most_ids
