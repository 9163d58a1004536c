-- What set-up takes and gives back, in the rules' terms.
use Rattle.std.specs.Prelude.{ℕ, List}
use Rattle.rules.specs.declared.Settings.{Settings}
use Rattle.rules.specs.Configuration.{Config}
use Rattle.rules.specs.Device.{SetUp}
use Rattle.refinement.specs.declared.CallResult.{CallResult}
use Rattle.refinement.specs.Flat.{device}

-- the configuration that settings and the three lent lists make up
abbrev pub configured : Settings → List ℕ → List ℕ → List ℕ → Config
configured s es os qs = record { settings = s; endpoints = es; owners = os; regions = qs }

-- what set-up's result and the table's words make up
abbrev pub started : CallResult → List ℕ → SetUp
started r ws = record { answer = r.answer; device = device r.state ws }
