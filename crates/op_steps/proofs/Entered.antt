-- An entry that is not there yet, and the moves that enter one, in order.
use Rattle.std.proofs.Common.{◌≡◌, ◌<◌, ◌≤◌, ◌∙◌, ◌++◌, ℕ, zero, suc, false, List, [], ◌∷◌, length, take, get_or, refl, sym, ap, arith}
use Rattle.std.specs.Prelude.{Ok}
use Rattle.base_words.specs.Fields.{Block}
use Rattle.fx_dir.specs.declared.RawEnt.{RawEnt}
use Rattle.fx_dir.specs.declared.Move.{Move}
use Rattle.fx_dir.specs.Entries.{has}
use Rattle.fx_dir.specs.Directory.{directory}
use Rattle.plain_cat.specs.declared.entries.DirEnt.{DirEnt}
use Rattle.plain_cat.specs.declared.history.Stage.{Stage}
use Rattle.plain_rules.specs.Lookups.{versions}
use Rattle.plain_rules.specs.Directories.{is_taken}
use Rattle.vol_parts.specs.Catalogues.{plain_entries}
use Rattle.op_law.specs.Rows.{entries_seen}
use Rattle.op_law.specs.Moving.{SeenDir, move_write, moves_at}
use Rattle.vol_spell.specs.Entries.{raw_entry}
use Rattle.vol_spell.proofs.EntryLists.{not_there}

pub new_there : (bs : List Block) (e : DirEnt) (raw : RawEnt) (es : List RawEnt) → raw ≡ raw_entry e → is_taken e.ver (versions e.name (entries_seen bs)) ≡ false → directory bs ≡ Ok es → has es raw ≡ false
new_there bs e raw es same new read =
    ap (has es) same ∙ not_there (raw_entry e) es (ap (λ r. is_taken e.ver (versions e.name (plain_entries r))) (sym read) ∙ new)

pub one_more_before : (d : SeenDir) (before after : Stage) (k i : ℕ) (ms : List Move) (x : Move) → i < length ms → i < k
    → take (suc i) (moves_at d before after k ms) ≡ take i (moves_at d before after k ms) ++ move_write d before (get_or ms i x) ∷ []
one_more_before d before after k i [] x lt low = absurd (omega arith)
one_more_before d before after zero i (m ∷ ms) x lt low = absurd (omega arith)
one_more_before d before after (suc k) zero (m ∷ ms) x lt low = refl
one_more_before d before after (suc k) (suc i) (m ∷ ms) x lt low = ap (λ xs. move_write d before m ∷ xs) (one_more_before d before after k i ms x (omega arith) (omega arith))

pub one_more_after : (d : SeenDir) (before after : Stage) (k i : ℕ) (ms : List Move) (x : Move) → i < length ms → k ≤ i
    → take (suc i) (moves_at d before after k ms) ≡ take i (moves_at d before after k ms) ++ move_write d after (get_or ms i x) ∷ []
one_more_after d before after k i [] x lt high = absurd (omega arith)
one_more_after d before after (suc k) zero (m ∷ ms) x lt high = absurd (omega arith)
one_more_after d before after zero zero (m ∷ ms) x lt high = refl
one_more_after d before after zero (suc i) (m ∷ ms) x lt high = ap (λ xs. move_write d after m ∷ xs) (one_more_after d before after zero i ms x (omega arith) (omega arith))
one_more_after d before after (suc k) (suc i) (m ∷ ms) x lt high = ap (λ xs. move_write d before m ∷ xs) (one_more_after d before after k i ms x (omega arith) (omega arith))

pub all_moves : (d : SeenDir) (before after : Stage) (k n : ℕ) (ms : List Move) → length ms ≤ n → take n (moves_at d before after k ms) ≡ moves_at d before after k ms
all_moves d before after zero zero [] le = refl
all_moves d before after zero (suc n) [] le = refl
all_moves d before after (suc k) zero [] le = refl
all_moves d before after (suc k) (suc n) [] le = refl
all_moves d before after k zero (m ∷ ms) le = absurd (omega arith)
all_moves d before after zero (suc n) (m ∷ ms) le = ap (λ xs. move_write d after m ∷ xs) (all_moves d before after zero n ms (omega arith))
all_moves d before after (suc k) (suc n) (m ∷ ms) le = ap (λ xs. move_write d before m ∷ xs) (all_moves d before after k n ms (omega arith))
