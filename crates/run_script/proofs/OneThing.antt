-- Lines spell one script, or have one first fault.
use Rattle.std.proofs.Common.{◌≡◌, ◌∙◌, ℕ, List, Result, Ok, Err, sym}
use Rattle.plain_cat.specs.declared.script.Script.{Script}
use Rattle.run_script.specs.Laws.{SayOneThing}
use Rattle.run_script.specs.declared.fault.ScriptFault.{ScriptFault}
use Rattle.run_script.specs.declared.fault.ScriptFault.TheVariants as script_fault
use Rattle.run_script.proofs.Spelt.{spelt_is_read, bad_is_read, over_is_read, said_so}

same_ok : (s t : Script) → ◌≡◌ {A = Result Script ScriptFault} (Ok s) (Ok t) → s ≡ t
same_ok s t e = cc

same_line : (n m : ℕ) → ◌≡◌ {A = Result Script ScriptFault} (Err (script_fault.BadLine n)) (Err (script_fault.BadLine m)) → n ≡ m
same_line n m e = cc

not_bad : (s : Script) (n : ℕ) → ◌≡◌ {A = Result Script ScriptFault} (Ok s) (Err (script_fault.BadLine n)) → ⊥
not_bad s n e = cc

not_over : (s : Script) → ◌≡◌ {A = Result Script ScriptFault} (Ok s) (Err script_fault.TooMany) → ⊥
not_over s e = cc

not_both : (n : ℕ) → ◌≡◌ {A = Result Script ScriptFault} (Err (script_fault.BadLine n)) (Err script_fault.TooMany) → ⊥
not_both n e = cc

pub one_thing : (lines : List (List ℕ)) → SayOneThing lines
one_thing lines = record {
  something = said_so lines;
  one_script = λ s t h k. same_ok s t (sym (spelt_is_read lines s h) ∙ spelt_is_read lines t k);
  one_line = λ n m h k. same_line n m (sym (bad_is_read lines n h) ∙ bad_is_read lines m k);
  good = λ s n h k. not_bad s n (sym (spelt_is_read lines s h) ∙ bad_is_read lines n k);
  within = λ s h k. not_over s (sym (spelt_is_read lines s h) ∙ over_is_read lines k);
  first = λ n h k. not_both n (sym (bad_is_read lines n h) ∙ over_is_read lines k);
}
