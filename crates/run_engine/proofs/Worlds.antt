-- Worlds that are over, and worlds that stop.
use Rattle.std.proofs.Common.{◌≡◌, ◌&&◌, Bool, true, false, not, cond, List, [], sym, subst, refl}
use Rattle.base_words.specs.Fields.{Block}
use Rattle.fx_home.specs.Homes.{home_read}
use Rattle.plain_cat.specs.declared.history.Entry.{Entry}
use Rattle.plain_cat.specs.declared.script.Script.{Script}
use Rattle.plain_cat.specs.declared.cat.Cat.{Cat}
use Rattle.plain_rules.specs.Replaying.{Replays}
use Rattle.plain_mends.specs.Sound.{IsSound}
use Rattle.plain_mends.proofs.SoundMends.{replay_sound}
use Rattle.vol_parts.specs.declared.geometry.Geometry.{Geometry}
use Rattle.vol_parts.specs.Findings.{home_at}
use Rattle.vol_spell.specs.Spelling.{Spells}
use Rattle.vol_under.specs.Stopping.{IsLeft}
use Rattle.vol_mends.specs.Weak.{shut}
use Rattle.vol_mends.proofs.WeakSteps.{tells_shut}
use Rattle.vol_mends.proofs.AcceptedSteps.{accepted_is_sound}
use Rattle.core_state.specs.Worlds.{Plain, node_at}
use Rattle.core_state.specs.Goods.{nodes_under, Good, IsAccepted}
use Rattle.core_state.specs.Events.{after_turn, is_over}
use Rattle.core_state.specs.Deaths.{kills_at, is_due, died}
use Rattle.core_state.proofs.Dying.{dies_keep}
use Rattle.core_state.proofs.Turns.{turn_keeps}
use Rattle.run_engine.specs.Halting.{history_at_stop, IsHalted}
use Rattle.run_engine.specs.Mending.{MendsAs}
use Rattle.run_engine.specs.OverLaws.{OverWorldsMend, StoppedWorldsMend, HaltedIsOne, StepsKeepTheRules}
use Rattle.run_engine.proofs.Matching.{told_once, mends_as}
use Rattle.run_engine.proofs.Resting.{all_rest, drive_left}
use Rattle.run_engine.proofs.Halts.{Halts, halts}

-- what a history replays to from the catalogue of an accepted volume is in order
pub replayed_is_sound : (c : Cat) (s : Script) (h : List Entry) (d : Cat) → IsAccepted c → Replays c s h d → IsSound d
replayed_is_sound c s h d a replays = replay_sound c s h d (accepted_is_sound a.0 c a.1 a.2) replays

pub over_worlds_mend : OverWorldsMend
over_worlds_mend w own c accepted replays spelt outs = mends_as w.geometry w.blocks own c spelt outs (replayed_is_sound w.opening w.script w.history c accepted replays)

-- ---- a world that stops

-- the world u, in which all nodes of the world w are over, has the catalogue that is left
module _ (w u : Plain) (h : Halts w u 1 w.nodes) where
  left : IsLeft u.geometry h.good.running.cat (nodes_under u.locks u.nodes) [] u.blocks
  left = drive_left u h.good (all_rest u h.good h.over)

  replayed : Replays w.opening w.script (history_at_stop w) left.cat
  replayed =
      subst (λ (c : Cat). Replays w.opening w.script (history_at_stop w) c) (sym left.dies)
      (subst (λ (o : Cat). Replays o w.script (history_at_stop w) h.good.running.cat) h.opening
      (subst (λ (s : Script). Replays u.opening s (history_at_stop w) h.good.running.cat) h.script
      (subst (λ (es : List Entry). Replays u.opening u.script es h.good.running.cat) h.history h.good.running.replayed)))

  spelt : Spells w.geometry w.blocks left.own left.cat
  spelt = subst (λ (bs : List Block). Spells w.geometry bs left.own left.cat) h.blocks (subst (λ (g : Geometry). Spells g u.blocks left.own left.cat) h.geometry left.spelt)

  halted : IsHalted w left.cat
  halted = record { replayed = replayed; own = left.own; spelt = spelt; outs = left.outs }

halted_mends : (w : Plain) (c : Cat) → IsAccepted w.opening → IsHalted w c → MendsAs w.blocks c
halted_mends w c accepted h = mends_as w.geometry w.blocks h.own c h.spelt h.outs (replayed_is_sound w.opening w.script (history_at_stop w) c accepted h.replayed)

pub stopped_worlds_mend : StoppedWorldsMend
stopped_worlds_mend w good accepted =
    let r = halts w good in
    let l = left w r.0 r.1 in
    let h = halted w r.0 r.1 in
    (l.cat, h, halted_mends w l.cat accepted h)

pub halted_is_one : HaltedIsOne
halted_is_one w c d p q =
    told_once w.blocks (home_read (home_at w.blocks)) (shut c) (shut d) (tells_shut w.geometry w.blocks p.own c p.spelt p.outs) (tells_shut w.geometry w.blocks q.own d q.spelt q.outs)

-- ---- a step

not_over : (b k : Bool) → (not b && k) ≡ true → b ≡ false
not_over true k e = absurd (let f : false ≡ true = e in cc)
not_over false k e = refl

pub steps_keep_the_rules : StepsKeepTheRules
steps_keep_the_rules w n good lawful = by_due (is_due w n) refl where
  by_due : (b : Bool) → is_due w n ≡ b → Good (cond b (died w n) (after_turn w n))
  by_due true e = dies_keep w good n (not_over (is_over w n) (kills_at w n (node_at w.nodes n)) e)
  by_due false e = turn_keeps w good n lawful
