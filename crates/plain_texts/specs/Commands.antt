-- How a command is written: as a script has it, with its file identifiers resolved.
use Rattle.std.specs.Prelude.{◌++◌, ℕ, List, codes, decimal}
use Rattle.plain_cat.specs.declared.command.Cmd.{Cmd}
use Rattle.plain_cat.specs.declared.command.Cmd.TheVariants as cmd
use Rattle.plain_texts.specs.Names.{fid_text, uic_text, mode_text}
use Rattle.plain_cat.specs.Names.{text_of as entry_text}

-- a word and the space before it
abbrev pub then_word : List ℕ → List ℕ
then_word word = codes " " ++ word

abbrev pub register_text : ℕ → List ℕ
register_text reg = codes "R" ++ decimal reg

unfoldable pub command_text : Cmd → List ℕ
command_text (cmd.Lookup reg dir name ver) = codes "LOOKUP" ++ (then_word (register_text reg) ++ (then_word (fid_text dir) ++ then_word (entry_text name ver)))
command_text (cmd.List dir) = codes "LIST" ++ then_word (fid_text dir)
command_text (cmd.Stat file) = codes "STAT" ++ then_word (fid_text file)
command_text (cmd.Create reg dir name ver blocks owner) =
    codes "CREATE" ++ (then_word (register_text reg) ++ (then_word (fid_text dir) ++ (then_word (entry_text name ver)
    ++ (then_word (decimal blocks) ++ then_word (uic_text owner)))))
command_text (cmd.MkDir reg dir name owner) =
    codes "MKDIR" ++ (then_word (register_text reg) ++ (then_word (fid_text dir) ++ (then_word name ++ then_word (uic_text owner))))
command_text (cmd.Extend file blocks) = codes "EXTEND" ++ (then_word (fid_text file) ++ then_word (decimal blocks))
command_text (cmd.Trunc file blocks) = codes "TRUNC" ++ (then_word (fid_text file) ++ then_word (decimal blocks))
command_text (cmd.Delete dir name ver) = codes "DELETE" ++ (then_word (fid_text dir) ++ then_word (entry_text name ver))
command_text (cmd.Rename dir name ver to to_ver) =
    codes "RENAME" ++ (then_word (fid_text dir) ++ (then_word (entry_text name ver) ++ then_word (entry_text to to_ver)))
command_text (cmd.OpenFile chan file mode) =
    codes "OPEN" ++ (then_word (decimal chan) ++ (then_word (fid_text file) ++ then_word (mode_text mode)))
command_text (cmd.CloseFile chan) = codes "CLOSE" ++ then_word (decimal chan)
command_text (cmd.ReadBlock chan vbn) = codes "READ" ++ (then_word (decimal chan) ++ then_word (decimal vbn))
command_text (cmd.WriteBlock chan vbn text) =
    codes "WRITE" ++ (then_word (decimal chan) ++ (then_word (decimal vbn) ++ then_word text))
command_text (cmd.QuotaSet owner quota over) =
    codes "QUOTASET" ++ (then_word (uic_text owner) ++ (then_word (decimal quota) ++ then_word (decimal over)))
command_text (cmd.QuotaShow owner) = codes "QUOTASHOW" ++ then_word (uic_text owner)
