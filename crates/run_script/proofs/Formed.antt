-- A script that lines spell is in form.
use Rattle.std.proofs.Common.{◌≡◌, ◌∙◌, ◌+◌, ◌++◌, ◌&&◌, ℕ, true, false, List, [], ◌∷◌, Option, Some, None, All, IsTrue, length, map, not, leb, eqb, nat_eq, refl, sym, ap, subst, cond, arith, inl, inr, length-append}
use Rattle.std.specs.List.{list_all, IsDistinct, AllByRecursion}
use Rattle.std.proofs.lemmas.Bool.{cases_Bool, and_parts, and_from, leb-true, false≢true, not-true}
use Rattle.std.proofs.lemmas.List.Elements.{All-nil, All-append, All-push, All-replicate}
use Rattle.plain_cat.specs.declared.script.Kill.{Kill}
use Rattle.plain_cat.specs.declared.script.Line.{Line}
use Rattle.plain_cat.specs.declared.script.Script.{Script}
use Rattle.plain_cat.specs.InForm.{is_within, is_eighth, line_in_form, kill_count, InForm}
use Rattle.run_script.specs.Grammar.{AreRunTexts, IsLineText, IsItemText}
use Rattle.run_script.specs.Spelling.{plays_of, is_killed, may_stand, has_room, with_item, Leads, SpellsScript}
use Rattle.run_script.specs.declared.items.Run.{Run}
use Rattle.run_script.specs.declared.items.Item.{Item}
use Rattle.run_script.specs.declared.items.Item.TheVariants.{Skipped, Nodes, Plays, Death, Command}
use Rattle.run_script.proofs.Pieces.{within, limits}

-- a node from 1 to 8 that is at most the number of nodes
known : (node nodes : ℕ) → is_eighth node ≡ true → leb node nodes ≡ true → is_within 1 nodes node ≡ true
known node nodes e h = within 1 nodes node (limits 1 8 node e).0 (leb-true node nodes h)

plays_known : (nodes : ℕ) (rs : List Run) (words : List (List ℕ)) → AreRunTexts rs words → list_all (λ (r : Run). leb r.node nodes) rs ≡ true → All (λ n. IsTrue (is_within 1 nodes n)) (plays_of rs)
plays_known nodes [] words h k = All-nil (λ n. IsTrue (is_within 1 nodes n))
plays_known nodes (r ∷ rs) [] h k = absurd h
plays_known nodes (r ∷ rs) (w ∷ ws) h k =
    let both = and_parts (leb r.node nodes) (list_all (λ (r : Run). leb r.node nodes) rs) k in
    All-append (λ n. IsTrue (is_within 1 nodes n)) _ (plays_of rs) (All-replicate (λ n. IsTrue (is_within 1 nodes n)) r.count r.node (known r.node nodes h.0.node both.0)) (plays_known nodes rs ws h.1 both.1)

-- one node more that was not there keeps nodes distinct
apart-push : (x node : ℕ) (ks : List Kill) (k : Kill) → k.node ≡ node → nat_eq x node ≡ false → AllByRecursion (λ y. nat_eq x y ≡ false) (map (λ (k : Kill). k.node) ks)
    → AllByRecursion (λ y. nat_eq x y ≡ false) (map (λ (k : Kill). k.node) (ks ++ k ∷ []))
apart-push x node [] k e h a = (ap (nat_eq x) e ∙ h, tt)
apart-push x node (j ∷ js) k e h a = (a.0, apart-push x node js k e h a.1)

not_first : (node : ℕ) (j : Kill) (js : List Kill) → is_killed node (j ∷ js) ≡ false → (nat_eq j.node node ≡ false) × (is_killed node js ≡ false)
not_first node j js h = elim (cases_Bool (eqb j.node node)) [
  | inl same ↦ absurd (false≢true (sym h ∙ ap (λ t. cond t true (is_killed node js)) same))
  | inr other ↦ (other, sym (ap (λ t. cond t true (is_killed node js)) other) ∙ h)
]

distinct-push : (ks : List Kill) (k : Kill) → IsDistinct nat_eq (map (λ (k : Kill). k.node) ks) → is_killed k.node ks ≡ false → IsDistinct nat_eq (map (λ (k : Kill). k.node) (ks ++ k ∷ []))
unfolding IsDistinct
distinct-push [] k d h = (tt, tt)
distinct-push (j ∷ js) k d h = let f = not_first k.node j js h in (apart-push j.node k.node js k refl f.0 d.0, distinct-push js k d.1 f.1)

no_kill : IsDistinct nat_eq []
unfolding IsDistinct
no_kill = tt

-- what lines spell so far is in form
abbrev Formed : Option Script → Type 0
Formed None = Unit {0}
Formed (Some s) = InForm s

with_text : (item : Item) (words : List (List ℕ)) (state : Option Script) → Formed state → IsItemText item words → may_stand state item ≡ true → has_room state item ≡ true → Formed (with_item state item)
with_text Skipped words state f text stands room = absurd text
with_text (Nodes n) words None f text stands room = record {
  nodes = text.1;
  lines_fit = omega arith;
  lines = All-nil _;
  plays_fit = omega arith;
  plays = All-nil _;
  kills = All-nil _;
  killed_once = no_kill;
}
with_text (Nodes n) words (Some s) f text stands room = absurd (false≢true stands)
with_text (Plays rs) words None f text stands room = absurd (false≢true stands)
with_text (Plays rs) words (Some s) f text stands room = record {
  nodes = f.nodes;
  lines_fit = f.lines_fit;
  lines = f.lines;
  plays_fit = omega (arith, leb-true (length s.plays + length (plays_of rs)) 65536 room, length-append s.plays (plays_of rs));
  plays = All-append (λ n. IsTrue (is_within 1 s.nodes n)) s.plays (plays_of rs) f.plays (plays_known s.nodes rs text.0 text.3 stands);
  kills = f.kills;
  killed_once = f.killed_once;
}
with_text (Death k) words None f text stands room = absurd (false≢true stands)
with_text (Death k) words (Some s) f text stands room =
    let both = and_parts (leb k.node s.nodes) (not (is_killed k.node s.kills)) stands in
    record {
      nodes = f.nodes;
      lines_fit = f.lines_fit;
      lines = f.lines;
      plays_fit = f.plays_fit;
      plays = f.plays;
      kills = All-push (λ (k : Kill). IsTrue (is_within 1 s.nodes k.node && is_within 1 1000000 (kill_count k.at))) s.kills k f.kills
          (and_from (is_within 1 s.nodes k.node) (is_within 1 1000000 (kill_count k.at)) (known k.node s.nodes text.node both.0) text.count);
      killed_once = distinct-push s.kills k f.killed_once (not-true (is_killed k.node s.kills) both.1);
    }
with_text (Command l) words None f text stands room = absurd (false≢true stands)
with_text (Command l) words (Some s) f text stands room = record {
  nodes = f.nodes;
  lines_fit = omega (arith, leb-true (length s.lines + 1) 4096 room, length-append s.lines (l ∷ []));
  lines = All-push (λ (l : Line). IsTrue (is_within 1 s.nodes l.node && line_in_form l.cmd)) s.lines l f.lines
      (and_from (is_within 1 s.nodes l.node) (line_in_form l.cmd) (known l.node s.nodes text.node stands) text.limits);
  plays_fit = f.plays_fit;
  plays = f.plays;
  kills = f.kills;
  killed_once = f.killed_once;
}

with_skipped : (state : Option Script) → Formed state → Formed (with_item state Skipped)
with_skipped None f = f
with_skipped (Some s) f = f

with_line : (item : Item) (l : List ℕ) (state : Option Script) → Formed state → IsLineText item l → may_stand state item ≡ true → has_room state item ≡ true → Formed (with_item state item)
with_line item l state f (inl h) stands room = let P : Item → Type 0 = λ item. Formed (with_item state item) in subst P (sym h.1) (with_skipped state f)
with_line item l state f (inr h) stands room = with_text item _ state f h.1 stands room

formed : (lines : List (List ℕ)) (start end : Option Script) → Formed start → Leads start lines end → Formed end
formed [] start end f h = subst Formed h f
formed (l ∷ ls) start end f h = formed ls (with_item start h.0) end (with_line h.0 l start f h.1 h.2 h.3) h.4

pub spelt_in_form : (lines : List (List ℕ)) (s : Script) → SpellsScript lines s → InForm s
spelt_in_form lines s h = formed lines None (Some s) tt h
