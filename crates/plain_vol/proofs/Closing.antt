-- What a close leaves, told by the file that is to be gone.
use Rattle.std.proofs.Common.{◌≡◌, ◌&&◌, ℕ, Bool, true, false, not, cond, Option, Some, None, refl, sym}
use Rattle.plain_cat.specs.declared.cat.Cat.{Cat}
use Rattle.plain_cat.specs.declared.cat.File.{File}
use Rattle.plain_cat.specs.declared.reply.Reply.TheVariants as reply
use Rattle.plain_rules.specs.Lookups.{is_open}
use Rattle.plain_rules.specs.Answers.{told, closed, removed}
use Rattle.plain_vol.specs.Makings.{goner_of, last_of, closed_by}

-- in a catalogue that has the cluster factor of another one
pub closes : (c d : Cat) (n : ℕ) (o : Option File) → d.factor ≡ c.factor → closed_by d n (last_of c o) ≡ closed d n o
closes c d n None e = refl
closes c d n (Some f) e = by_mark f.marked (is_open d n)
  where
    by_open : (b : Bool) → cond b (told d (reply.Closed false)) (told (removed d n f) (reply.Closed true)) ≡ cond (true && not b) (told (removed d n f) (reply.Closed true)) (told d (reply.Closed false))
    by_open true = refl
    by_open false = refl

    by_mark : (m b : Bool) → closed_by d n (cond m (Some (goner_of c f)) None) ≡ cond (m && not (is_open d n)) (told (removed d n f) (reply.Closed true)) (told d (reply.Closed false))
    by_mark false b = refl
    by_mark true b = rw (sym e) (by_open (is_open d n))
