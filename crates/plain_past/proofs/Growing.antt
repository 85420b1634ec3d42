-- A history with one entry more at its end.
use Rattle.std.proofs.Common.{◌≡◌, ◌++◌, ◌∙◌, ℕ, false, List, [], ◌∷◌, refl, sym, subst}
use Rattle.std.proofs.lemmas.List.{append_assoc, append-nil}
use Rattle.plain_cat.specs.declared.history.Entry.{Entry}
use Rattle.plain_cat.specs.declared.history.Entry.TheVariants.{Done, Died, Mended}
use Rattle.plain_cat.specs.declared.script.Script.{Script}
use Rattle.plain_cat.specs.declared.cat.Cat.{Cat}
use Rattle.plain_rules.specs.Own.{NodePast, newborn, past_from, after_entry, IsNext, OwnFrom}
use Rattle.plain_rules.specs.Replaying.{Leads, ReplaysFrom}
use Rattle.plain_past.specs.Laws.{is_of, PastGrows, PastOfOthers, OwnGrows, ReplaysGrow, KilledGrows}

past_more : (node : ℕ) (p : NodePast) (es : List Entry) (e : Entry) → past_from node p (es ++ e ∷ []) ≡ after_entry node (past_from node p es) e
past_more node p [] e = refl
past_more node p (x ∷ es) e = past_more node (after_entry node p x) es e

pub past_grows : PastGrows
past_grows node h e = past_more node newborn h e

-- an entry of another node gives a node nothing
pub nothing_from_others : (node : ℕ) (p : NodePast) (e : Entry) → is_of node e ≡ false → after_entry node p e ≡ p
nothing_from_others node p (Done n c r) other = rw other refl
nothing_from_others node p (Died n st k l) other = rw other refl
nothing_from_others node p (Mended m) other = refl

pub past_of_others : PastOfOthers
past_of_others node h e other = past_grows node h e ∙ nothing_from_others node (past_from node newborn h) e other

-- the entries es come after those of h
own_more : (s : Script) (h es : List Entry) (e : Entry) → OwnFrom s h es → IsNext s (h ++ es) e → OwnFrom s h (es ++ e ∷ [])
own_more s h [] e own next = (subst (λ (k : List Entry). IsNext s k e) (append-nil h) next, tt)
own_more s h (x ∷ es) e own next =
    (own.0, own_more s (h ++ x ∷ []) es e own.1 (subst (λ (k : List Entry). IsNext s k e) (sym (append_assoc h (x ∷ []) es)) next))

pub own_grows : OwnGrows
own_grows s h e own next = own_more s [] h e own next

replays_more : (s : Script) (h es : List Entry) (c d x : Cat) (e : Entry) → ReplaysFrom s h c es d → Leads s (h ++ es) d e x → ReplaysFrom s h c (es ++ e ∷ []) x
replays_more s h [] c d x e same leads =
    (x, subst (λ (k : List Entry). Leads s k c e x) (append-nil h) (subst (λ (b : Cat). Leads s (h ++ []) b e x) same leads), refl)
replays_more s h (y ∷ es) c d x e replays leads =
    (replays.0, replays.1, replays_more s (h ++ y ∷ []) es replays.0 d x e replays.2 (subst (λ (k : List Entry). Leads s k d e x) (sym (append_assoc h (y ∷ []) es)) leads))

pub replays_grow : ReplaysGrow
replays_grow c s h d e x replays leads = replays_more s [] h c d x e replays leads

pub killed_grows : KilledGrows
killed_grows s [] e killed kill = (kill, tt)
killed_grows s (x ∷ h) e killed kill = (killed.0, killed_grows s h e killed.1 kill)
