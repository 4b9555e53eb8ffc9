-- A bench of which records may be read back.
use Rattle.std.specs.Prelude.{◌≡◌, []}
use Rattle.bench_core.specs.Cores.{Core}

-- nothing was leased, and nothing is staged
pub record IsFresh (core : Core) : Type 0 where
  pub given : core.state.given ≡ 0
  pub rows : core.state.leases.rows ≡ []
  pub staged : core.staged ≡ []
