-- The nodes under way, as one of them changes.
use Rattle.std.proofs.Common.{◌≡◌, ◌≢◌, ◌≤◌, ◌++◌, ℕ, false, List, [], ◌∷◌, Option, Some, None, refl, sym, ap, subst, ◌∙◌, inl, inr, arith}
use Rattle.base_words.specs.Fields.{Block}
use Rattle.lock_db.specs.declared.name.LockName.{LockName}
use Rattle.lock_db.specs.declared.resource.Resource.{Resource}
use Rattle.lock_db.specs.Tables.{IsTable}
use Rattle.plain_cat.specs.Modes.{rank}
use Rattle.plain_cat.specs.declared.mode.Mode.{Mode}
use Rattle.plain_cat.specs.declared.mode.Mode.TheVariants.{PR, PW}
use Rattle.plain_cat.specs.declared.command.Cmd.{Cmd}
use Rattle.plain_cat.specs.declared.cat.Cat.{Cat}
use Rattle.node_locks.specs.Held.{Row, joined, AreHeld, waits_at, held_locks, all_held}
use Rattle.node_locks.proofs.Standing.{held-asked}
use Rattle.node_locks.proofs.Keeping.{all_are_held, writers_are_sole}
use Rattle.base_words.specs.Lists.{Has}
use Rattle.base_words.proofs.Listing.{same_or_not, has_parted, has_first, has_second}
use Rattle.vol_spell.specs.Owners.{Owners}
use Rattle.vol_parts.specs.declared.geometry.Geometry.{Geometry}
use Rattle.vol_under.specs.UnderWay.{UnderWay, changed, AreSole}
use Rattle.vol_under.proofs.Nodes.{each, changed_here, changed_else}
use Rattle.core_state.specs.Committed.{IsUnderOn, of_it}
use Rattle.core_state.proofs.Committed.{alike_on}
use Rattle.op_law.specs.Laws.{held_in}
use Rattle.core_state.specs.Worlds.{NodeState, node_at, set_node, rows_in, rows_at}
use Rattle.core_state.specs.Stocks.{looked_now, stock_now}
use Rattle.core_state.specs.Goods.{held_by, command_under, under_with, under_by, nodes_under}
use Rattle.core_state.proofs.Nodes.{at_here, at_else}
use Rattle.core_state.proofs.Driving.{wider, grants_keep}
use Rattle.core_state.proofs.Holding.{HasIn, in_held_is, held_grows}

-- what a node holds of the locks of its command is among all that it holds
pub asked_held : (t : List Resource) (n : ℕ) (s : NodeState) (l : LockName × Mode) → Has (held_locks t n s.asked) l → Has (held_by t n s) l
asked_held t n s l h = has_second (held_locks t n s.kept) (held_locks t n s.asked ++ (held_locks t n s.claims ++ [])) l (has_first (held_locks t n s.asked) (held_locks t n s.claims ++ []) l h)

-- and so are all of them where it waits for none
pub all_asked : (t : List Resource) (n : ℕ) (s : NodeState) (l : LockName × Mode) → waits_at t n s.asked ≡ false → Has s.asked l → Has (held_by t n s) l
all_asked t n s l free h = asked_held t n s l (subst (λ (ls : Row). Has ls l) (sym (all_are_held t n s.asked free)) h)

-- what it keeps it holds where it waits for none of it, and so with what its rules for space have claimed
pub kept_held : (t : List Resource) (n : ℕ) (s : NodeState) (l : LockName × Mode) → waits_at t n s.kept ≡ false → Has s.kept l → Has (held_by t n s) l
kept_held t n s l rests h = has_first (held_locks t n s.kept) (held_locks t n s.asked ++ (held_locks t n s.claims ++ [])) l (subst (λ (ls : Row). Has ls l) (sym (all_are_held t n s.kept rests)) h)

pub claims_held : (t : List Resource) (n : ℕ) (s : NodeState) (l : LockName × Mode) → waits_at t n s.claims ≡ false → Has s.claims l → Has (held_by t n s) l
claims_held t n s l rests h = has_second (held_locks t n s.kept) (held_locks t n s.asked ++ (held_locks t n s.claims ++ [])) l
    (has_second (held_locks t n s.asked) (held_locks t n s.claims ++ []) l (has_first (held_locks t n s.claims) [] l (subst (λ (ls : Row). Has ls l) (sym (all_are_held t n s.claims rests)) h)))

-- what a node holds is among its rows
pub held_among : (t : List Resource) (n : ℕ) (rows : List Row) (l : LockName × Mode) → Has (all_held t n rows) l → Has (joined rows) l
held_among t n [] l h = h
held_among t n (ls ∷ rows) l h = elim (has_parted (held_locks t n ls) (all_held t n rows) l h) [
  | inl a ↦ has_first ls (joined rows) l (held-asked t n ls l a)
  | inr b ↦ has_second ls (joined rows) l (held_among t n rows l b)
]

-- a node under way, by the locks that it holds
abbrev pub at_any : ℕ → NodeState → Option Cmd → List (LockName × Mode) → UnderWay
at_any n s o ls = record (command_under n s.seen s.tried s.plan s.done o) {
  read = held_in PR ls;
  write = held_in PW ls;
  seen = looked_now s.run ++ s.seen.blocks;
  stock = stock_now s.stock s.run;
}

-- with a command
abbrev pub at_locks : ℕ → NodeState → Cmd → List (LockName × Mode) → UnderWay
at_locks n s x ls = at_any n s (Some x) ls

-- a node whose locks stand as they stood is under way as it was
pub under_alike : (t t' : List Resource) (n : ℕ) (s : NodeState) (o : Option Cmd) → held_by t' n s ≡ held_by t n s → under_with t n s o ≡ under_with t' n s o
under_alike t t' n s o e = ap (λ ls. at_any n s o ls) (sym e)

-- the nodes under way where node n, which stood as s, stands as r
pub under_set : (t t' : List Resource) (nodes : List NodeState) (n : ℕ) (s r : NodeState) → node_at nodes n ≡ Some s
    → ((m : ℕ) (q : NodeState) → m ≢ n → node_at nodes m ≡ Some q → held_by t' m q ≡ held_by t m q)
    → (m : ℕ) → changed (nodes_under t nodes) n (under_with t' n r r.cmd) m ≡ nodes_under t' (set_node nodes n r) m
under_set t t' nodes n s r at held = each (λ m v. v ≡ nodes_under t' (set_node nodes n r) m) (nodes_under t nodes) n (under_with t' n r r.cmd)
    (ap (under_by t' n) (sym (at_here nodes n r s at))) others where
      by_node : (m : ℕ) (o : Option NodeState) → m ≢ n → node_at nodes m ≡ o → under_by t m o ≡ under_by t' m o
      by_node m None ne e = refl
      by_node m (Some q) ne e = under_alike t t' m q q.cmd (held m q ne e)

      others : (m : ℕ) → m ≢ n → nodes_under t nodes m ≡ nodes_under t' (set_node nodes n r) m
      others m ne = by_node m (node_at nodes m) ne refl ∙ ap (under_by t' m) (sym (at_else nodes n m r ne))

-- the drive under way where node n is now r
pub under_now : (g : Geometry) (c : Cat) (base : List Block) (own : Owners) (t t' : List Resource) (nodes : List NodeState) (n : ℕ) (s r : NodeState) (drive : List Block) → node_at nodes n ≡ Some s
    → ((m : ℕ) (q : NodeState) → m ≢ n → node_at nodes m ≡ Some q → held_by t' m q ≡ held_by t m q)
    → IsUnderOn g c base own (changed (nodes_under t nodes) n (under_with t' n r r.cmd)) drive → IsUnderOn g c base own (nodes_under t' (set_node nodes n r)) drive
under_now g c base own t t' nodes n s r drive at held u =
    alike_on g c base own (changed (nodes_under t nodes) n (under_with t' n r r.cmd)) (nodes_under t' (set_node nodes n r)) drive (under_set t t' nodes n s r at held) u

-- one that was granted more locks
record IsGrown (u v : UnderWay) : Type 0 where
  read : (name : LockName) → Has u.read name → Has v.read name
  write : (name : LockName) → Has u.write name → Has v.write name
  else_same : record u { read = v.read; write = v.write } ≡ v

-- and where the others have lost nothing of what they held
module _ (g : Geometry) (d : Cat) (base : List Block) (own : Owners) (t after : List Resource) (nodes : List NodeState) (n : ℕ) (s r : NodeState) (drive : List Block) (at : node_at nodes n ≡ Some s)
    (grown : (m : ℕ) (q : NodeState) (k : LockName × Mode) → m ≢ n → node_at nodes m ≡ Some q → Has (held_by t m q) k → Has (held_by after m q) k) where
  abbrev mine : UnderWay
  mine = under_with after n r r.cmd

  abbrev new : ℕ → UnderWay
  new m = nodes_under after (set_node nodes n r) m

  abbrev old : ℕ → UnderWay
  old = changed (nodes_under t nodes) n mine

  by_node : (m : ℕ) → m ≢ n → (o : Option NodeState) → node_at nodes m ≡ o → IsGrown (under_by t m o) (under_by after m o)
  by_node m ne None e = record { read = λ name h. h; write = λ name h. h; else_same = refl }
  by_node m ne (Some q) e = record {
    read = λ name h. held_grows PR (held_by t m q) (held_by after m q) name (λ k h. grown m q k ne e h) h;
    write = λ name h. held_grows PW (held_by t m q) (held_by after m q) name (λ k h. grown m q k ne e h) h;
    else_same = refl;
  }

  is_grown : (m : ℕ) → IsGrown (old m) (new m)
  is_grown m = elim (same_or_not m n) [ inl f ↦ self f | inr ne ↦ other ne ] where
    self : m ≡ n → IsGrown (old m) (new m)
    self f =
        let a : old m ≡ mine = ap old f ∙ changed_here (nodes_under t nodes) n mine in
        let b : new m ≡ mine = ap new f ∙ ap (under_by after n) (at_here nodes n r s at) in
        let rest : IsGrown mine mine = record { read = λ name h. h; write = λ name h. h; else_same = refl } in
        subst (λ (v : UnderWay). IsGrown (old m) v) (sym b) (subst (λ (v : UnderWay). IsGrown v mine) (sym a) rest)

    other : m ≢ n → IsGrown (old m) (new m)
    other ne = subst (λ (v : UnderWay). IsGrown (old m) v) (sym (ap (under_by after m) (at_else nodes n m r ne)))
        (subst (λ (v : UnderWay). IsGrown v (under_by after m (node_at nodes m))) (sym (changed_else (nodes_under t nodes) n mine m ne)) (by_node m ne (node_at nodes m) refl))

  pub under_grown : IsUnderOn g d base own old drive → IsUnderOn g d base own (nodes_under after (set_node nodes n r)) drive
  under_grown u = alike_on g d base own (wider old (λ m. (new m).read) (λ m. (new m).write)) (nodes_under after (set_node nodes n r)) drive (λ m. (is_grown m).else_same)
      (grants_keep g d old drive (λ m. (new m).read) (λ m. (new m).write) (of_it g d base own old drive u) (λ m. (is_grown m).read) (λ m. (is_grown m).write))

-- how a node of the world is under way
pub under_here : (t : List Resource) (nodes : List NodeState) (n : ℕ) (s : NodeState) → node_at nodes n ≡ Some s → nodes_under t nodes n ≡ under_with t n s s.cmd
under_here t nodes n s at = ap (under_by t n) at

-- ---- who writes is alone

-- the locks that a node under way holds are those of the world's node
read_is : (t : List Resource) (nodes : List NodeState) (n : ℕ) (name : LockName) → Has (nodes_under t nodes n).read name → HasIn PR (all_held t n (rows_at nodes n)) name
read_is t nodes n name h = by_node (node_at nodes n) h where
  by_node : (o : Option NodeState) → Has (under_by t n o).read name → HasIn PR (all_held t n (rows_in o)) name
  by_node None h = absurd h
  by_node (Some s) h = in_held_is PR (held_by t n s) name h

write_is : (t : List Resource) (nodes : List NodeState) (n : ℕ) (name : LockName) → Has (nodes_under t nodes n).write name → HasIn PW (all_held t n (rows_at nodes n)) name
write_is t nodes n name h = by_node (node_at nodes n) h where
  by_node : (o : Option NodeState) → Has (under_by t n o).write name → HasIn PW (all_held t n (rows_in o)) name
  by_node None h = absurd h
  by_node (Some s) h = in_held_is PW (held_by t n s) name h

pub are_sole : (t : List Resource) (nodes : List NodeState) → IsTable t → AreHeld t (rows_at nodes) → AreSole (nodes_under t nodes)
are_sole t nodes table held = record {
  writers = λ n m name a b.
      let x = write_is t nodes n name a in
      let y = write_is t nodes m name b in
      writers_are_sole t n m name x.in_mode y.in_mode (rows_at nodes) table held x.has y.has x.strong (let le : rank PW ≤ rank y.in_mode = y.strong in omega arith);
  readers = λ n m name a b.
      let x = write_is t nodes n name a in
      let y = read_is t nodes m name b in
      writers_are_sole t n m name x.in_mode y.in_mode (rows_at nodes) table held x.has y.has x.strong y.strong;
}
