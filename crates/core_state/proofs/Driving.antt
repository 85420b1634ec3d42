-- The drive under way as a node without a plan changes, and as locks are granted.
use Rattle.std.proofs.Common.{◌≡◌, ℕ, List, [], ◌++◌, slice_get, inr}
use Rattle.base_words.specs.Fields.{Block}
use Rattle.lock_db.specs.declared.name.LockName.{LockName}
use Rattle.plain_cat.specs.declared.command.Cmd.{Cmd}
use Rattle.plain_cat.specs.declared.reply.Reply.{Reply}
use Rattle.plain_cat.specs.declared.cat.Cat.{Cat}
use Rattle.base_words.specs.Lists.{Has, Touches, StandsIn}
use Rattle.vol_spell.specs.Owners.{Things, Outs}
use Rattle.base_words.proofs.ListWrites.{stands_joined}
use Rattle.vol_spell.proofs.Moving.{moves_grow}
use Rattle.vol_parts.specs.declared.geometry.Geometry.{Geometry}
use Rattle.vol_under.specs.Guards.{guard_of, MayLook, IsCommandMove}
use Rattle.vol_under.specs.UnderWay.{UnderWay, changed, AreSole}
use Rattle.vol_under.specs.Under.{IsLawful, IsUnder}
use Rattle.vol_under.specs.Answering.{IsReply}
use Rattle.core_state.specs.Committed.{IsUnderOn, on_its_own}
use Rattle.core_state.proofs.Committed.{quiet_on}
use Rattle.vol_under.proofs.Steps.{held_stands}
use Rattle.vol_under.proofs.Guarding.{wider_command, wider_write, wider_look}
use Rattle.vol_under.proofs.Nodes.{done_in, no_writes}

-- A node without a plan may become any other one without a plan that has as much outside, and that has seen blocks that stand as
-- they are committed and that its locks guard. The committed blocks and their owners stay.
pub quiet_keeps : (g : Geometry) (c : Cat) (nodes : ℕ → UnderWay) (drive : List Block) (n : ℕ) (v : UnderWay) → (u : IsUnder g c nodes drive) → (nodes n).plan ≡ [] → v.plan ≡ [] → v.done ≡ 0
    → Outs n u.own v.took v.stock → StandsIn u.base v.seen → ((l : ℕ) → Touches v.seen l → MayLook v.read (guard_of g u.own l)) → IsUnderOn g c u.base u.own (changed nodes n v) drive
quiet_keeps g c nodes drive n v u no_plan none done outs stands guarded = quiet_on g c u.base u.own nodes drive n v (on_its_own g c nodes drive u) no_plan none done outs stands guarded

-- a block of a node without a plan, at which it may look, is that which is committed
pub looked_stands : (g : Geometry) (c : Cat) (nodes : ℕ → UnderWay) (drive : List Block) (n l : ℕ) → AreSole nodes → (u : IsUnder g c nodes drive) → (nodes n).plan ≡ [] → MayLook (nodes n).read (guard_of g u.own l)
    → slice_get drive l ≡ slice_get u.base l
looked_stands g c nodes drive n l sole u no_plan may = held_stands g c nodes drive n l sole u (λ t. no_writes (nodes n) l no_plan (done_in (nodes n) l t)) (inr may)

-- a law stays one with more locks held and more blocks seen
pub law_grows : (g : Geometry) (n : ℕ) (u : UnderWay) (read write : List LockName) (more : List (ℕ × Block)) (done : ℕ) (stock : Things) → ((x : LockName) → Has u.write x → Has write x) → IsLawful g n u
    → IsLawful g n (record u { read = read; write = write; seen = more ++ u.seen; done = done; stock = stock })
law_grows g n u read write more done stock wide law base own c out k spelt knows stands outs le =
    let h = law base own c out k spelt knows ((stands_joined base more u.seen).0 stands).1 outs le in
    record { new = h.new; cat = h.cat; stage = h.stage; spelt = h.spelt; moves = moves_grow (IsCommandMove n u.write) (IsCommandMove n write) (wider_command n u.write write wide) own h.new h.moves; outs = h.outs }

-- and so does the law of a reply
pub reply_grows : (g : Geometry) (n : ℕ) (u : UnderWay) (x : Cmd) (r : Reply) (read write : List LockName) (more : List (ℕ × Block)) (done : ℕ) (stock : Things) → ((y : LockName) → Has u.write y → Has write y) → IsReply g n u x r
    → IsReply g n (record u { read = read; write = write; seen = more ++ u.seen; done = done; stock = stock }) x r
reply_grows g n u x r read write more done stock wide law base own c out k spelt knows stands outs le =
    let h = law base own c out k spelt knows ((stands_joined base more u.seen).0 stands).1 outs le in
    record {
      leaves = record { new = h.leaves.new; cat = h.leaves.cat; stage = h.leaves.stage; spelt = h.leaves.spelt; moves = moves_grow (IsCommandMove n u.write) (IsCommandMove n write) (wider_command n u.write write wide) own h.leaves.new h.leaves.moves; outs = h.leaves.outs };
      opens = h.opens;
      answer = h.answer;
    }

-- a law stays the node's with more locks
pub lawful_wider : (g : Geometry) (n : ℕ) (u : UnderWay) (read write : List LockName) → ((x : LockName) → Has u.write x → Has write x) → IsLawful g n u → IsLawful g n (record u { read = read; write = write })
lawful_wider g n u read write more law base own c stock k spelt knows stands outs le =
    let h = law base own c stock k spelt knows stands outs le in
    record { new = h.new; cat = h.cat; stage = h.stage; spelt = h.spelt; moves = moves_grow (IsCommandMove n u.write) (IsCommandMove n write) (wider_command n u.write write more) own h.new h.moves; outs = h.outs }

-- what any of the nodes holds grows
abbrev pub wider : (ℕ → UnderWay) → (ℕ → List LockName) → (ℕ → List LockName) → ℕ → UnderWay
wider nodes read write n = record (nodes n) { read = read n; write = write n }

-- locks are granted to any of the nodes
pub grants_keep : (g : Geometry) (c : Cat) (nodes : ℕ → UnderWay) (drive : List Block) (read write : ℕ → List LockName) → (u : IsUnder g c nodes drive)
    → ((n : ℕ) (name : LockName) → Has (nodes n).read name → Has (read n) name) → ((n : ℕ) (name : LockName) → Has (nodes n).write name → Has (write n) name)
    → IsUnderOn g c u.base u.own (wider nodes read write) drive
grants_keep g c nodes drive read write u reads writes = record {
  spelt = u.spelt;
  over = u.over;
  within = u.within;
  stands = u.stands;
  outs = u.outs;
  lawful = λ n. lawful_wider g n (nodes n) (read n) (write n) (writes n) (u.lawful n);
  plan_guarded = λ n k t. wider_write n (nodes n).write (write n) (writes n) (guard_of g u.own k) (u.plan_guarded n k t);
  seen_guarded = λ n k t. wider_look (nodes n).read (read n) (reads n) (guard_of g u.own k) (u.seen_guarded n k t);
}
