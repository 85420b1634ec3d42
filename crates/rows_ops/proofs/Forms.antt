-- A command in form is one that the set takes.
use Rattle.std.specs.Prelude.{◌≡◌, ◌&&◌, true}
use Rattle.std.proofs.lemmas.Bool.{and_parts}
use Rattle.base_words.specs.Names.{is_name}
use Rattle.plain_cat.specs.InForm.{is_eighth, is_fid, is_version, is_count, is_text, in_form}
use Rattle.plain_cat.specs.declared.command.Cmd.{Cmd}
use Rattle.plain_cat.specs.declared.command.Cmd.TheVariants as cmd
use Rattle.xqp_set.specs.Built.{IsBuilt}

pub built : (x : Cmd) → in_form x ≡ true → IsBuilt x
unfolding in_form
built (cmd.Lookup reg dir name ver) form = tt
built (cmd.List dir) form = tt
built (cmd.Stat file) form = tt
built (cmd.Create reg dir name ver blocks owner) form = (and_parts _ _ (and_parts _ _ form).1).1
built (cmd.MkDir reg dir name owner) form = (and_parts _ _ (and_parts _ _ form).1).1
built (cmd.Extend file blocks) form = (and_parts _ _ form).1
built (cmd.Trunc file blocks) form = (and_parts _ _ form).1
built (cmd.Delete dir name ver) form = tt
built (cmd.Rename dir name ver to to_ver) form =
    let new = is_name to && is_version to_ver in
    let names = (and_parts (is_fid dir) (is_name name && (is_version ver && new)) form).1 in
    (and_parts (is_version ver) new (and_parts (is_name name) (is_version ver && new) names).1).1
built (cmd.OpenFile chan file mode) form = tt
built (cmd.CloseFile chan) form = form
built (cmd.ReadBlock chan vbn) form = (and_parts (is_eighth chan) (is_count vbn) form).1
built (cmd.WriteBlock chan vbn text) form = (and_parts (is_eighth chan) (is_count vbn && is_text text) form).1
built (cmd.QuotaSet owner quota over) form = form
built (cmd.QuotaShow owner) form = tt
