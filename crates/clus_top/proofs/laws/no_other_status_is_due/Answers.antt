use Rattle.run_script.specs.Lines.{lines_of}
use Rattle.clus_top.proofs.OneVerdict.{due_alone}
use Rattle.clus_top.proofs.laws.no_other_status_is_due.Goals as goal

pub returns : goal.returns
returns c wanted bytes size bs s due v = due_alone wanted bytes size bs s (c.a_text_says_one_thing.ensures (lines_of bytes)) c.findings_are_one_list.ensures c.first_beyond_is_one.ensures.one (record { one = c.room_is_lacking_where_mending_gives_up.ensures.one; exact = c.room_is_lacking_where_mending_gives_up.ensures.exact }) v due
