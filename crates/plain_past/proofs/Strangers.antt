-- A node without a line has no command.
use Rattle.std.proofs.Common.{◌≡◌, ◌==◌, ◌++◌, ◌∙◌, ℕ, Bool, true, false, cond, eqb, List, [], ◌∷◌, Some, None, slice_get, refl, sym, ap, subst}
use Rattle.std.specs.List.{list_any}
use Rattle.std.proofs.lemmas.Bool.{or_parts, eqb-true}
use Rattle.std.proofs.lemmas.List.{append_assoc, append-nil}
use Rattle.plain_cat.specs.declared.history.Entry.{Entry}
use Rattle.plain_cat.specs.declared.history.Entry.TheVariants.{Done, Died, Mended}
use Rattle.plain_cat.specs.declared.script.Line.{Line}
use Rattle.plain_cat.specs.declared.script.LineCmd.{LineCmd}
use Rattle.plain_cat.specs.declared.script.Script.{Script}
use Rattle.plain_rules.specs.Own.{NodePast, newborn, past, past_from, after_entry, lines_of, close_from, or_close, command_after, next_command, IsNext, OwnFrom}
use Rattle.plain_past.specs.Laws.{is_of, has_line, StrangersHaveNothing, OwnStrangers}
use Rattle.plain_past.proofs.Growing.{past_grows, nothing_from_others}

-- no channel is open
abbrev IsShut : NodePast → Type 0
IsShut p = close_from 1 p.channels ≡ None

newborn_is_shut : IsShut newborn
unfolding newborn
newborn_is_shut = refl

no_lines : (node : ℕ) (ls : List Line) → list_any (λ (l : Line). l.node == node) ls ≡ false → lines_of node ls ≡ []
no_lines node [] none = refl
no_lines node (l ∷ ls) none =
    let parts = or_parts (l.node == node) (list_any (λ (x : Line). x.node == node) ls) none in
    rw parts.0 (no_lines node ls parts.1)

-- without a line the next command is the close of the first channel
only_closes : (s : Script) (node : ℕ) (p : NodePast) → has_line node s ≡ false → command_after s node p ≡ close_from 1 p.channels
only_closes s node p none = ap (λ (ls : List LineCmd). or_close p (slice_get ls p.answered)) (no_lines node s.lines none)

untouched : (node : ℕ) (p : NodePast) (es : List Entry) → list_any (is_of node) es ≡ false → past_from node p es ≡ p
untouched node p [] none = refl
untouched node p (e ∷ es) none =
    let parts = or_parts (is_of node e) (list_any (is_of node) es) none in
    untouched node (after_entry node p e) es parts.1 ∙ nothing_from_others node p e parts.0

pub strangers_have_nothing : StrangersHaveNothing
strangers_have_nothing s node h no_line no_entry =
    only_closes s node (past node h) no_line ∙ subst IsShut (sym (untouched node newborn h no_entry)) newborn_is_shut

-- An answer of the node would be of its next command, and there is none.
stays_shut : (s : Script) (node : ℕ) (h : List Entry) (e : Entry) → has_line node s ≡ false → IsShut (past node h) → IsNext s h e → IsShut (after_entry node (past node h) e)
stays_shut s node h (Done n c r) none shut next = by_node (eqb n node) refl where
  by_node : (b : Bool) → eqb n node ≡ b → IsShut (after_entry node (past node h) (Done n c r))
  by_node false other = subst IsShut (sym (nothing_from_others node (past node h) (Done n c r) other)) shut
  by_node true own =
      let given : next_command s node h ≡ Some c = subst (λ (m : ℕ). next_command s m h ≡ Some c) (eqb-true n node own) next.1 in
      let nothing : next_command s node h ≡ None = only_closes s node (past node h) none ∙ shut in
      absurd (cc (given, nothing))
stays_shut s node h (Died n st k l) none shut next =
    elim (eqb n node) as (λ b. IsShut (cond b (record (past node h) { dead = true }) (past node h))) [ true ↦ shut | false ↦ shut ]
stays_shut s node h (Mended m) none shut next = shut

-- the entries es come after those of h
shut_through : (s : Script) (node : ℕ) (h es : List Entry) → has_line node s ≡ false → IsShut (past node h) → OwnFrom s h es → IsShut (past node (h ++ es))
shut_through s node h [] none shut own = subst (λ (k : List Entry). IsShut (past node k)) (sym (append-nil h)) shut
shut_through s node h (e ∷ es) none shut own =
    let one : IsShut (past node (h ++ e ∷ [])) = subst IsShut (sym (past_grows node h e)) (stays_shut s node h e none shut own.0) in
    subst (λ (k : List Entry). IsShut (past node k)) (append_assoc h (e ∷ []) es) (shut_through s node (h ++ e ∷ []) es none one own.1)

pub own_strangers : OwnStrangers
own_strangers s node h none own = only_closes s node (past node h) none ∙ shut_through s node [] h none newborn_is_shut own
