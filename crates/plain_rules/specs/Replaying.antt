-- The entries of a history, one after the other, lead from one catalogue to another.
use Rattle.std.specs.Prelude.{◌≡◌, ◌≤◌, ◌-◌, ◌+◌, ℕ, zero, suc, Bool, true, List, [], ◌∷◌, ◌++◌, Option, Some, None, length, slice_set}
use Rattle.std.specs.List.{list_all}
use Rattle.plain_cat.specs.declared.history.Entry.{Entry}
use Rattle.plain_cat.specs.declared.history.Entry.TheVariants.{Done, Died, Mended}
use Rattle.plain_cat.specs.declared.cat.Cat.{Cat}
use Rattle.plain_cat.specs.declared.cat.Open.{Open}
use Rattle.plain_cat.specs.declared.script.Script.{Script}
use Rattle.plain_rules.specs.Lookups.{place, free_clusters, is_free_number, free_count}
use Rattle.plain_rules.specs.Answers.{IsPick, Answer}
use Rattle.plain_rules.specs.Stages.{staged}
use Rattle.plain_rules.specs.Mending.{mended}
use Rattle.plain_rules.specs.Own.{next_command}

-- the first k channels of a node are closed
unfoldable pub closed_channels : ℕ → ℕ → List (Option Open) → List (Option Open)
closed_channels node zero os = os
closed_channels node (suc k) os = slice_set (closed_channels node k os) (place node (suc k)) None

-- these numbers are leaked too
abbrev pub flagged : List Bool → List ℕ → List Bool
flagged flags [] = flags
flagged flags (n ∷ ns) = flagged (slice_set flags (n - 1) true) ns

-- a node is dead: its opens are gone, and what it had outside files is leaked
unfoldable pub dead : Cat → ℕ → ℕ → List ℕ → Cat
dead c node clusters numbers = record c {
  opens = closed_channels node 8 c.opens;
  leaked = c.leaked + clusters;
  leaked_numbers = flagged c.leaked_numbers numbers;
}

-- each of these numbers is free
abbrev pub are_free : Cat → List ℕ → Bool
are_free c ns = list_all (is_free_number c) ns

-- A node may leak so many clusters and these numbers: free ones, and no more than there are beside those of extension headers.
abbrev pub MayLeak : Cat → ℕ → List ℕ → Type 0
MayLeak c clusters numbers = (clusters ≤ free_clusters c) × (are_free c numbers ≡ true) × (length numbers ≤ free_count c)

-- one entry, after those of h: an answer, a death at a stage of the node's next command, or a mending
abbrev pub Leads : Script → List Entry → Cat → Entry → Cat → Type 0
Leads s h c (Done node cmd r) d = Answer c node cmd r d
Leads s h c (Died node st k ns) d =
    (new : Option ℕ) × (x : Cat) × IsPick c new × (staged c node (next_command s node h) st new ≡ Some x)
    × MayLeak x k ns.items × (d ≡ dead x node k ns.items)
Leads s h c (Mended m) d = mended c ≡ Some (d, m)

abbrev pub ReplaysFrom : Script → List Entry → Cat → List Entry → Cat → Type 0
ReplaysFrom s h c [] d = d ≡ c
ReplaysFrom s h c (e ∷ es) d = (x : Cat) × Leads s h c e x × ReplaysFrom s (h ++ e ∷ []) x es d

-- from c, the history h of the script s leads to d
abbrev pub Replays : Cat → Script → List Entry → Cat → Type 0
Replays c s h d = ReplaysFrom s [] c h d
