use Rattle.std.proofs.Common.{refl}
use Rattle.vol_init.specs.Layouts.{main_entries}
use Rattle.vol_init.proofs.naming.main_entries.Goals as goal

pub returns : goal.returns
unfolding main_entries
returns c =
    rw (
      c.in_ok-add_entry-11.ensures,
      c.in_ok-add_entry-10.ensures,
      c.in_ok-add_entry-9.ensures,
      c.in_ok-add_entry-8.ensures,
      c.in_ok-add_entry-7.ensures,
      c.in_ok-add_entry-6.ensures,
      c.in_ok-add_entry-5.ensures,
      c.in_ok-add_entry-4.ensures,
      c.in_ok-add_entry-3.ensures,
      c.in_ok-add_entry-2.ensures,
      c.in_ok-add_entry.ensures,
      c.new-list.ensures.items,
    ) refl
