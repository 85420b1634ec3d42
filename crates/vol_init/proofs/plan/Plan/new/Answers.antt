use Rattle.std.proofs.Common.{◌∙◌, Ok, refl, ap}
use Rattle.base_words.specs.Packing.{over}
use Rattle.fx_dir.specs.Writing.{name_of, packed}
use Rattle.vol_init.proofs.EntryLemmas.{none-over}
use Rattle.vol_init.proofs.plan.Plan.new.Goals as goal

pub directory_blocks-requires-clause-room : goal.directory_blocks-requires-clause-room
directory_blocks-requires-clause-room c =
    ap (over name_of c.args.layout.cluster) (c.as_slice.ensures.value ∙ c.new-none.ensures.items) ∙ none-over c.args.layout.cluster

pub returns-clause-sound : goal.returns-clause-sound
returns-clause-sound c =
    let none = c.as_slice.ensures.value ∙ c.new-none.ensures.items in
    record {
      limits = c.requires.layout;
      room = c.requires.room;
      cluster = refl;
      files = refl;
      main_count = c.in_ok-main.ensures.count;
      main = c.in_ok-main.ensures.read;
      listed = c.in_ok-main.ensures.listed;
      main_packed = c.in_ok-main.ensures.written;
      lost_count = c.in_ok-lost.ensures.count;
      lost = c.in_ok-lost.ensures.read ∙ ap (λ es. Ok es) none;
      lost_packed = c.in_ok-lost.ensures.written ∙ ap (packed c.args.layout.cluster) none;
    }
