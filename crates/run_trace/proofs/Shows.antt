-- The last entry of a history, as it is told.
use Rattle.std.proofs.Common.{◌≡◌, ◌-◌, ℕ, zero, suc, List, [], ◌∷◌, Option, Some, None, length, map, slice_get, refl, sym, ap, ◌∙◌}
use Rattle.lock_db.specs.declared.name.LockName.{LockName}
use Rattle.lock_db.specs.declared.resource.Resource.{Resource}
use Rattle.plain_cat.specs.declared.mode.Mode.{Mode}
use Rattle.std.specs.Option.{option_map}
use Rattle.plain_cat.specs.declared.history.Entry.{Entry}
use Rattle.plain_cat.specs.declared.history.Entry.TheVariants.{Done, Died, Mended}
use Rattle.core_state.specs.Worlds.{NodeState, shown}
use Rattle.core_step.specs.declared.turns.Turn.{Turn}
use Rattle.core_step.specs.declared.turns.Turn.TheVariants as turn
use Rattle.run_trace.specs.declared.marks.Mark.{Mark}
use Rattle.run_trace.specs.Texts.{death_text}
use Rattle.run_trace.specs.Steps.{last_entry, dying_text}
use Rattle.run_trace.specs.Reads.{answer_read, turn_read}

length_map : {A B : Type 0} (f : A → B) (xs : List A) → length (map f xs) ≡ length xs
length_map f [] = refl
length_map f (x ∷ xs) = ap suc (length_map f xs)

get_map : {A B : Type 0} (f : A → B) (xs : List A) (k : ℕ) → slice_get (map f xs) k ≡ option_map f (slice_get xs k)
get_map f [] k = refl
get_map f (x ∷ xs) zero = refl
get_map f (x ∷ xs) (suc k) = get_map f xs k

last_shown : (es : List Entry) → last_entry (map shown es) ≡ option_map shown (last_entry es)
last_shown es = ap (λ k. slice_get (map shown es) (k - 1)) (length_map shown es) ∙ get_map shown es (length es - 1)

dying_same : (o : Option Entry) → dying_text o ≡ dying_text (option_map shown o)
unfolding death_text
dying_same None = refl
dying_same (Some (Done n cmd reply)) = refl
dying_same (Some (Died n stage clusters numbers)) = refl
dying_same (Some (Mended m)) = refl

pub dying_shown : (es : List Entry) → dying_text (last_entry es) ≡ dying_text (last_entry (map shown es))
dying_shown es = dying_same (last_entry es) ∙ sym (ap dying_text (last_shown es))

answer_same : (o : Option Entry) (kept : List (LockName × Mode)) → answer_read o kept ≡ answer_read (option_map shown o) kept
unfolding answer_read
answer_same None kept = refl
answer_same (Some (Done n cmd reply)) kept = refl
answer_same (Some (Died n stage clusters numbers)) kept = refl
answer_same (Some (Mended m)) kept = refl

pub turn_shown : (m : Mark) (t : Turn) (locks : List Resource) (count : ℕ) (es : List Entry) (n : ℕ) (s : NodeState) → turn_read m t locks count (last_entry es) n s ≡ turn_read m t locks count (last_entry (map shown es)) n s
unfolding turn_read
turn_shown m (turn.Moved k) locks count es n s = refl
turn_shown m turn.Waiting locks count es n s = refl
turn_shown m turn.Answered locks count es n s = answer_same (last_entry es) s.kept ∙ sym (ap (λ o. answer_read o s.kept) (last_shown es))
turn_shown m turn.Over locks count es n s = refl
