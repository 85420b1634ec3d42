-- Nodes that stop in turn.
use Rattle.std.proofs.Common.{◌≡◌, ◌≢◌, ◌⊎◌, ℕ, List, [], ◌∷◌, refl, sym, ap, subst, ◌∙◌, inl, inr}
use Rattle.base_words.specs.Fields.{Block}
use Rattle.lock_db.specs.declared.name.LockName.{LockName}
use Rattle.plain_cat.specs.declared.cat.Cat.{Cat}
use Rattle.base_words.specs.Lists.{Has, Once, Touches}
use Rattle.vol_spell.specs.Owners.{Owners, Things, nothing, Outs}
use Rattle.base_words.proofs.Listing.{has_or_not}
use Rattle.vol_parts.specs.declared.geometry.Geometry.{Geometry}
use Rattle.vol_spell.specs.Spelling.{Spells}
use Rattle.vol_under.specs.UnderWay.{UnderWay, writes_to, stage_at, outs_at, together, all_out, resting, idle, changed, AreSole, StandsAt}
use Rattle.vol_under.specs.Under.{IsOver, IsUnder}
use Rattle.vol_under.specs.Ending.{file_numbers, dead_with}
use Rattle.vol_under.specs.Stopping.{Stop, Die, KnowsOn, DriveSpells, WorldStops}
use Rattle.vol_under.proofs.Leaking.{lists_same, numbers_all}
use Rattle.vol_under.proofs.Nodes.{changed_here, changed_else, each}
use Rattle.vol_under.proofs.Steps.{stop_keeps, out_joined}
use Rattle.vol_under.proofs.Endings.{all_out_once, death_keeps}

-- a node at rest has no lock, so the locks of the others are sole still
pub sole_rests : (nodes : ℕ → UnderWay) (n : ℕ) (stock : Things) → AreSole nodes → AreSole (changed nodes n (resting stock))
sole_rests nodes n stock sole = record {
  writers = λ a b x s t. sole.writers a b x (less_write a x s) (less_write b x t);
  readers = λ a b x s t. sole.readers a b x (less_write a x s) (less_read b x t);
} where
  less_write : (a : ℕ) (x : LockName) → Has (changed nodes n (resting stock) a).write x → Has (nodes a).write x
  less_write a x t = each (λ k v. Has v.write x → Has (nodes k).write x) nodes n (resting stock) (λ s. absurd s) (λ m ne s. s) a t

  less_read : (a : ℕ) (x : LockName) → Has (changed nodes n (resting stock) a).read x → Has (nodes a).read x
  less_read a x t = each (λ k v. Has v.read x → Has (nodes k).read x) nodes n (resting stock) (λ s. absurd s) (λ m ne s. s) a t

-- each of these nodes is altered
abbrev pub altered : (UnderWay → UnderWay) → (ℕ → UnderWay) → List ℕ → ℕ → UnderWay
altered f nodes [] = nodes
altered f nodes (n ∷ ns) = altered f (changed nodes n (f (nodes n))) ns

module _ (f : UnderWay → UnderWay) where
  pub altered_out : (ns : List ℕ) (nodes : ℕ → UnderWay) (m : ℕ) → (Has ns m → ⊥) → altered f nodes ns m ≡ nodes m
  altered_out [] nodes m away = refl
  altered_out (n ∷ ns) nodes m away = altered_out ns (changed nodes n (f (nodes n))) m (λ t. away (inr t)) ∙ changed_else nodes n (f (nodes n)) m (λ e. away (inl (sym e)))

  pub altered_in : (ns : List ℕ) (nodes : ℕ → UnderWay) (m : ℕ) → Once ns → Has ns m → altered f nodes ns m ≡ f (nodes m)
  altered_in [] nodes m once t = absurd t
  altered_in (n ∷ ns) nodes m once (inl e) =
      subst (λ (k : ℕ). altered f (changed nodes n (f (nodes n))) ns k ≡ f (nodes k)) e (altered_out ns (changed nodes n (f (nodes n))) n once.0 ∙ changed_here nodes n (f (nodes n)))
  altered_in (n ∷ ns) nodes m once (inr t) =
      let ne : m ≢ n = λ e. once.0 (subst (λ (k : ℕ). Has ns k) e t) in
      altered_in ns (changed nodes n (f (nodes n))) m once.1 t ∙ ap f (changed_else nodes n (f (nodes n)) m ne)

stop_alike : (nodes others : ℕ → UnderWay) (ms : List ℕ) (c d : Cat) → ((m : ℕ) → Has ms m → nodes m ≡ others m) → Stop nodes ms c d → Stop others ms c d
stop_alike nodes others [] c d e s = s
stop_alike nodes others (n ∷ ms) c d e s =
    (s.0, subst (λ (v : UnderWay). StandsAt c n v.cmd (stage_at v.done v) s.0) (e n (inl refl)) s.1, stop_alike nodes others ms s.0 d (λ m t. e m (inr t)) s.2)

die_alike : (nodes others : ℕ → UnderWay) (ms : List ℕ) (c d : Cat) → ((m : ℕ) → Has ms m → nodes m ≡ others m) → Die nodes ms c d → Die others ms c d
die_alike nodes others [] c d e s = s
die_alike nodes others (n ∷ ms) c d e s = (
  s.0,
  subst (λ (v : UnderWay). StandsAt c n v.cmd (stage_at v.done v) s.0) (e n (inl refl)) s.1,
  die_alike nodes others ms (dead_with s.0 n (all_out (others n))) d (λ m t. e m (inr t)) (subst (λ (v : UnderWay). Die nodes ms (dead_with s.0 n (all_out v)) d) (e n (inl refl)) s.2),
)

-- a node of n and ns that is not the first is one of ns, and the others stay themselves
module _ (n : ℕ) (ns : List ℕ) (once : Once (n ∷ ns)) where
  others_apart : (m : ℕ) (ms : List ℕ) → Once (m ∷ ms) → ((k : ℕ) → Has (m ∷ ms) k → Has ns k) → Once (m ∷ n ∷ ms)
  others_apart m ms single sub =
      ((λ t. elim t [ inl e ↦ once.0 (subst (λ (k : ℕ). Has ns k) (sym e) (sub m (inl refl))) | inr v ↦ single.0 v ]), ((λ t. once.0 (sub n (inr t))), single.1))

  others_in : (m : ℕ) (ms : List ℕ) → ((k : ℕ) → Has (m ∷ ms) k → Has ns k) → (k : ℕ) → Has (m ∷ n ∷ ms) k → Has (n ∷ ns) k
  others_in m ms sub k t = elim t [ inl e ↦ inr (sub k (inl e)) | inr v ↦ elim v [ inl e ↦ inl e | inr w ↦ inr (sub k (inr w)) ] ]

  others_stay : (nodes : ℕ → UnderWay) (u : UnderWay) (m : ℕ) → Has ns m → changed nodes n u m ≡ nodes m
  others_stay nodes u m t = changed_else nodes n u m (λ e. once.0 (subst (λ (k : ℕ). Has ns k) e t))

  first_alone : (k : ℕ) → Has (n ∷ []) k → Has (n ∷ ns) k
  first_alone k t = elim t [ inl e ↦ inl e | inr f ↦ absurd f ]

pub all_stop : (ns : List ℕ) (g : Geometry) (c : Cat) (nodes : ℕ → UnderWay) (drive : List Block) → AreSole nodes → IsUnder g c nodes drive → Once ns → KnowsOn (λ ms x d. Stop nodes ms x d) nodes ns c
    → (d : Cat) × Stop nodes ns c d × IsUnder g d (altered idle nodes ns) drive
all_stop [] g c nodes drive sole u once knows = (c, refl, u)
all_stop (n ∷ ns) g c nodes drive sole u once knows =
    let first = stop_keeps g c nodes drive n sole u (knows n [] c ((λ t. t), tt) (first_alone n ns once) refl) in
    let rest = all_stop ns g first.0 after drive (sole_rests nodes n (all_out (nodes n)) sole) first.2 once.1 (on first.0 first.1) in
    (rest.0, (first.0, first.1, back ns (λ m t. t) first.0 rest.0 rest.1), rest.2) where
      after : ℕ → UnderWay
      after = changed nodes n (idle (nodes n))

      back : (ms : List ℕ) → ((m : ℕ) → Has ms m → Has ns m) → (x d : Cat) → Stop after ms x d → Stop nodes ms x d
      back ms sub x d s = stop_alike after nodes ms x d (λ m t. others_stay n ns once nodes (idle (nodes n)) m (sub m t)) s

      on : (x : Cat) → StandsAt c n (nodes n).cmd (stage_at (nodes n).done (nodes n)) x → KnowsOn (λ ms y d. Stop after ms y d) after ns x
      on x stage m ms d single sub s =
          ap (λ (v : UnderWay). v.knows d) (others_stay n ns once nodes (idle (nodes n)) m (sub m (inl refl)))
          ∙ knows m (n ∷ ms) d (others_apart n ns once m ms single sub) (others_in n ns once m ms sub) (x, stage, back ms (λ k t. sub k (inr t)) x d s)

pub all_die : (ns : List ℕ) (g : Geometry) (c : Cat) (nodes : ℕ → UnderWay) (drive : List Block) → AreSole nodes → IsUnder g c nodes drive → Once ns → KnowsOn (λ ms x d. Die nodes ms x d) nodes ns c
    → (d : Cat) × Die nodes ns c d × IsUnder g d (altered (λ u. resting nothing) nodes ns) drive
all_die [] g c nodes drive sole u once knows = (c, refl, u)
all_die (n ∷ ns) g c nodes drive sole u once knows =
    let first = death_keeps g c nodes drive n (file_numbers (all_out (nodes n))) sole u (knows n [] c ((λ t. t), tt) (first_alone n ns once) refl) (numbers_all (all_out (nodes n)) (all_out_once g c nodes drive n sole u (knows n [] c ((λ t. t), tt) (first_alone n ns once) refl))) in
    let x = dead_with first.cat n (all_out (nodes n)) in
    let rest = all_die ns g x after drive (sole_rests nodes n nothing sole) first.under once.1 (on first.cat first.stage) in
    (rest.0, (first.cat, first.stage, back ns (λ m t. t) x rest.0 rest.1), rest.2) where
      after : ℕ → UnderWay
      after = changed nodes n (resting nothing)

      back : (ms : List ℕ) → ((m : ℕ) → Has ms m → Has ns m) → (x d : Cat) → Die after ms x d → Die nodes ms x d
      back ms sub x d s = die_alike after nodes ms x d (λ m t. others_stay n ns once nodes (resting nothing) m (sub m t)) s

      on : (x : Cat) → StandsAt c n (nodes n).cmd (stage_at (nodes n).done (nodes n)) x → KnowsOn (λ ms y d. Die after ms y d) after ns (dead_with x n (all_out (nodes n)))
      on x stage m ms d single sub s =
          ap (λ (v : UnderWay). v.knows d) (others_stay n ns once nodes (resting nothing) m (sub m (inl refl)))
          ∙ knows m (n ∷ ms) d (others_apart n ns once m ms single sub) (others_in n ns once m ms sub) (x, stage, back ms (λ k t. sub k (inr t)) (dead_with x n (all_out (nodes n))) d s)

-- where no write is done, the drive has the committed blocks
base_is_drive : (done : ℕ → List (ℕ × Block)) (base drive : List Block) → IsOver done base drive → ((m : ℕ) → done m ≡ []) → base ≡ drive
base_is_drive done base drive over none =
    lists_same base drive (sym over.count) (λ l. sym (over.elsewhere l (λ m t. subst (λ (ws : List (ℕ × Block)). Touches ws l) (none m) t)))

-- a node that has done no write
none_written : (u : UnderWay) → u.done ≡ 0 → writes_to u.done u ≡ []
none_written u e = ap (λ k. writes_to k u) e

-- so far its command has outside what it had at first
all_joined : (n : ℕ) (own : Owners) (u : UnderWay) → u.done ≡ 0 → Outs n own u.took u.stock → Outs n own nothing (all_out u)
all_joined n own u e out = subst (λ (k : ℕ). Outs n own nothing (together (outs_at k u) u.stock)) (sym e) (out_joined n own u.took u.stock out)

pub drive_spells : DriveSpells
drive_spells g c nodes drive ns sole u once all knows =
    let w = all_stop ns g c nodes drive sole u once knows in
    record {
      cat = w.0;
      own = w.2.own;
      stops = w.1;
      spelt = subst (λ (bs : List Block). Spells g bs w.2.own w.0) (base_is_drive (λ m. writes_to (altered idle nodes ns m).done (altered idle nodes ns m)) w.2.base drive w.2.over none) w.2.spelt;
      outs = λ m. outside m w.2.own (has_or_not ns m) (w.2.outs m);
    } where
      not_done : (m : ℕ) → (Has ns m → ⊥) → (nodes m).done ≡ 0
      not_done m away = elim (all m) [ inl t ↦ absurd (away t) | inr e ↦ e ]

      none : (m : ℕ) → writes_to (altered idle nodes ns m).done (altered idle nodes ns m) ≡ []
      none m = elim (has_or_not ns m) [
        | inl t ↦ ap (λ (v : UnderWay). writes_to v.done v) (altered_in idle ns nodes m once t)
        | inr f ↦ ap (λ (v : UnderWay). writes_to v.done v) (altered_out idle ns nodes m f) ∙ none_written (nodes m) (not_done m f)
      ]

      outside : (m : ℕ) (own : Owners) → Has ns m ⊎ (Has ns m → ⊥) → Outs m own (altered idle nodes ns m).took (altered idle nodes ns m).stock → Outs m own nothing (all_out (nodes m))
      outside m own (inl t) out = subst (λ (v : UnderWay). Outs m own v.took v.stock) (altered_in idle ns nodes m once t) out
      outside m own (inr f) out = all_joined m own (nodes m) (not_done m f) (subst (λ (v : UnderWay). Outs m own v.took v.stock) (altered_out idle ns nodes m f) out)

pub world_stops : WorldStops
world_stops g c nodes drive ns sole u once all knows =
    let w = all_die ns g c nodes drive sole u once knows in
    record {
      cat = w.0;
      own = w.2.own;
      dies = w.1;
      spelt = subst (λ (bs : List Block). Spells g bs w.2.own w.0) (base_is_drive (λ m. writes_to (altered gone nodes ns m).done (altered gone nodes ns m)) w.2.base drive w.2.over (λ m. ap (λ (v : UnderWay). writes_to v.done v) (rests m))) w.2.spelt;
      outs = λ m. subst (λ (v : UnderWay). Outs m w.2.own v.took v.stock) (rests m) (w.2.outs m);
    } where
      gone : UnderWay → UnderWay
      gone u = resting nothing

      rests : (m : ℕ) → altered gone nodes ns m ≡ resting nothing
      rests m = elim (has_or_not ns m) [
        | inl t ↦ altered_in gone ns nodes m once t
        | inr f ↦ altered_out gone ns nodes m f ∙ elim (all m) [ inl t ↦ absurd (f t) | inr e ↦ e ]
      ]
