-- Of every report one thing is said.
use Rattle.std.specs.Prelude.{◌≡◌, ◌<◌, ◌^◌, ℕ, List, length}
use Rattle.plain_cat.specs.declared.cat.Cat.{Cat}
use Rattle.plain_rules.specs.Accounts.{Accounted}
use Rattle.log_check.specs.declared.judging.Verdict.{Verdict}
use Rattle.log_check.specs.Steps.{IsVerdict}

-- no two verdicts on a report and a catalogue are right
abbrev pub OneVerdict : Type 0
OneVerdict = (c : Cat) (text : List ℕ) → Accounted c → length text < 2 ^ 63 → (v w : Verdict) → IsVerdict c text v → IsVerdict c text w → v ≡ w

-- and there is one that is right
abbrev pub SomeVerdict : Type 0
SomeVerdict = (c : Cat) (text : List ℕ) → Accounted c → length text < 2 ^ 63 → (v : Verdict) × IsVerdict c text v
