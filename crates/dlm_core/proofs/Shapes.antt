-- Each step keeps a table and a master for each node.
use Rattle.std.proofs.Common.{◌≡◌, ◌-◌, ℕ, suc, List, [], ◌∷◌, Option, Some, None, length, map, refl, ap, ◌∙◌}
use Rattle.std.proofs.lemmas.List.{length-set}
use Rattle.plain_cat.specs.declared.mode.Mode.{Mode}
use Rattle.lock_db.specs.declared.name.LockName.{LockName}
use Rattle.lock_db.specs.declared.resource.Resource.{Resource}
use Rattle.lock_db.specs.Queues.{mode_of}
use Rattle.dlm_core.specs.declared.messages.Letter.{Letter}
use Rattle.dlm_core.specs.declared.messages.Letter.TheVariants.{Ask, Drop, Grant, Claim}
use Rattle.dlm_core.specs.declared.messages.Message.{Message}
use Rattle.dlm_core.specs.declared.holds.Hold.{Hold}
use Rattle.dlm_core.specs.declared.homes.Home.{Home}
use Rattle.dlm_core.specs.declared.blocks.Seen.{Seen}
use Rattle.dlm_core.specs.States.{State, IsShaped, home, table_at, told_at}
use Rattle.dlm_core.specs.Steps.{served, with_table, taken_from, taken}
use Rattle.dlm_core.specs.Recoveries.{settled_home, closed, reclaimed_lock, asked_again}
use Rattle.dlm_core.specs.Deaths.{lowest, without_dead, rehomed, bereft_tables, bereft}

pub length-homes : (f : Home → Home) (hs : List Home) → length (map f hs) ≡ length hs
length-homes f [] = refl
length-homes f (h ∷ hs) = ap suc (length-homes f hs)

pub served_shape : (s : State) → IsShaped s → IsShaped (served s)
served_shape s i = record { some_node = i.some_node; each_has_one = i.each_has_one; each_has_master = i.each_has_master }

table-shape : (x : LockName) (t : List Resource) (s : State) → IsShaped s → IsShaped (with_table x t s)
table-shape x t s i = record { some_node = i.some_node; each_has_one = length-set s.tables (home s.nodes x - 1) t ∙ i.each_has_one; each_has_master = i.each_has_master }

taken-from : (m : Message) (l : Letter) (old : Option Mode) (t : List Resource) (s : State) → IsShaped s → IsShaped (taken_from m l old t s)
taken-from m (Ask mode) old t s i = record { some_node = i.some_node; each_has_one = length-set s.tables (home s.nodes m.name - 1) _ ∙ i.each_has_one; each_has_master = i.each_has_master }
taken-from m Drop old t s i = record { some_node = i.some_node; each_has_one = length-set s.tables (home s.nodes m.name - 1) _ ∙ i.each_has_one; each_has_master = i.each_has_master }
taken-from m (Grant mode valid) old t s i = i
taken-from m (Claim node) old t s i = i

pub taken_shape : (m : Message) (s : State) → IsShaped s → IsShaped (taken m s)
taken_shape m s i = taken-from m m.letter (mode_of m.owner (told_at m.name s).askers) (table_at (home s.nodes m.name) s.tables) s i

pub closed_shape : (d : ℕ) (s : State) → IsShaped s → IsShaped (closed d s)
closed_shape d s i = record { some_node = i.some_node; each_has_one = i.each_has_one; each_has_master = length-homes (settled_home d) s.homes ∙ i.each_has_master }

reclaimed-from : (h : Hold) (be : Option Mode) (b : Seen) (s : State) → IsShaped s → IsShaped (reclaimed_lock h be b s)
reclaimed-from h None b s i = i
reclaimed-from h (Some mode) b s i = record { some_node = i.some_node; each_has_one = length-set s.tables (home s.nodes h.name - 1) _ ∙ i.each_has_one; each_has_master = i.each_has_master }

pub reclaimed_shape : (h : Hold) (b : Seen) (s : State) → IsShaped s → IsShaped (reclaimed_lock h h.belief b s)
reclaimed_shape h b s i = reclaimed-from h h.belief b s i

asked-from : (h : Hold) (w : Option Mode) (b : Seen) (s : State) → IsShaped s → IsShaped (asked_again h w b s)
asked-from h None b s i = i
asked-from h (Some mode) b s i = record { some_node = i.some_node; each_has_one = length-set s.tables (home s.nodes h.name - 1) _ ∙ i.each_has_one; each_has_master = i.each_has_master }

pub asked_shape : (h : Hold) (b : Seen) (s : State) → IsShaped s → IsShaped (asked_again h h.wait b s)
asked_shape h b s i = asked-from h h.wait b s i

pub length-bereft : (d : ℕ) (hs : List Home) (ts : List (List Resource)) → length (bereft_tables d hs ts) ≡ length ts
length-bereft d hs [] = refl
length-bereft d [] (t ∷ ts) = refl
length-bereft d (h ∷ hs) (t ∷ ts) = ap suc (length-bereft d hs ts)

pub bereft_shape : (d : ℕ) (s : State) → IsShaped s → IsShaped (bereft d s)
bereft_shape d s i = record {
  some_node = i.some_node;
  each_has_one = length-bereft d s.homes s.tables ∙ i.each_has_one;
  each_has_master = length-homes (rehomed d (lowest (without_dead d s.living))) s.homes ∙ i.each_has_master;
}
