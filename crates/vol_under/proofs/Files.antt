-- What goes into a file, or out of it.
use Rattle.std.proofs.Common.{ℕ, List, refl, inl}
use Rattle.vol_spell.specs.declared.owner.Owner.{Owner}
use Rattle.vol_spell.specs.declared.owner.Owner.TheVariants.{InFile, Outside}
use Rattle.vol_spell.specs.Owners.{IsFileMove, AreOut}
use Rattle.vol_spell.specs.Hands.{AreOf, AreHanded, handed}
use Rattle.vol_spell.proofs.Handing.{handed_moves, are_handed, outside_to_file, file_to_outside}
use Rattle.vol_under.specs.Filing.{FileTakes, FileGives}

were_out : (n : ℕ) (xs : List Owner) (took stock : List ℕ) → AreOut n xs took stock → AreOf took (Outside n) xs
were_out n xs took stock out q t = (out.all q).1 (inl t)

into : (n i : ℕ) (xs : List Owner) (took stock : List ℕ) → AreOut n xs took stock → AreHanded took (Outside n) (InFile i) xs (handed took (InFile i) xs)
into n i xs took stock out = are_handed took (Outside n) (InFile i) xs (were_out n xs took stock out) (λ e. absurd (cc))

out_of : (n i : ℕ) (xs : List Owner) (gone : List ℕ) → AreOf gone (InFile i) xs → AreHanded gone (InFile i) (Outside n) xs (handed gone (Outside n) xs)
out_of n i xs gone at = are_handed gone (InFile i) (Outside n) xs at (λ e. absurd (cc))

pub file_takes : FileTakes
file_takes n i own took stock h = record {
  moves = record {
    clusters = handed_moves took.clusters (Outside n) (InFile i) own.clusters (were_out n own.clusters took.clusters stock.clusters h.clusters) (IsFileMove n i) refl refl;
    numbers = handed_moves took.numbers (Outside n) (InFile i) own.numbers (were_out n own.numbers took.numbers stock.numbers h.numbers) (IsFileMove n i) refl refl;
  };
  outs = record { clusters = outside_to_file n i took.clusters stock.clusters own.clusters h.clusters; numbers = outside_to_file n i took.numbers stock.numbers own.numbers h.numbers };
  clusters = (into n i own.clusters took.clusters stock.clusters h.clusters).to;
  numbers = (into n i own.numbers took.numbers stock.numbers h.numbers).to;
}

pub file_gives : FileGives
file_gives n i own took gone stock are h = record {
  moves = record {
    clusters = handed_moves gone.clusters (InFile i) (Outside n) own.clusters are.clusters (IsFileMove n i) refl refl;
    numbers = handed_moves gone.numbers (InFile i) (Outside n) own.numbers are.numbers (IsFileMove n i) refl refl;
  };
  outs = record {
    clusters = file_to_outside n i gone.clusters took.clusters stock.clusters own.clusters are.clusters_once are.clusters h.clusters;
    numbers = file_to_outside n i gone.numbers took.numbers stock.numbers own.numbers are.numbers_once are.numbers h.numbers;
  };
  clusters = (out_of n i own.clusters gone.clusters are.clusters).from;
  numbers = (out_of n i own.numbers gone.numbers are.numbers).from;
}
