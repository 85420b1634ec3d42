-- The grammar of a script's lines: which line says what. Names, numbers, identifiers, owners and modes are written as in a report.
use Rattle.std.specs.Prelude.{◌≡◌, ◌==◌, ◌⊎◌, ◌<◌, ◌++◌, ℕ, Bool, true, false, List, [], ◌∷◌, length, leb, codes, decimal}
use Rattle.plain_cat.specs.declared.ids.Fid.{Fid}
use Rattle.plain_cat.specs.declared.script.FileRef.{FileRef}
use Rattle.plain_cat.specs.declared.script.FileRef.TheVariants.{Fixed, Reg}
use Rattle.plain_cat.specs.declared.script.LineCmd.{LineCmd}
use Rattle.plain_cat.specs.declared.script.LineCmd.TheVariants as line
use Rattle.plain_cat.specs.declared.script.KillAt.{KillAt}
use Rattle.plain_cat.specs.declared.script.KillAt.TheVariants.{Turn, Write}
use Rattle.plain_cat.specs.declared.script.Kill.{Kill}
use Rattle.plain_cat.specs.declared.script.Line.{Line}
use Rattle.plain_cat.specs.InForm.{is_within, is_eighth, line_in_form, kill_count}
use Rattle.plain_texts.specs.Names.{fid_text, uic_text, mode_text}
use Rattle.plain_cat.specs.Names.{text_of as entry_text, main_dir}
use Rattle.plain_texts.specs.Commands.{register_text}
use Rattle.run_script.specs.Lines.{words_of}
use Rattle.run_script.specs.declared.items.Run.{Run}
use Rattle.run_script.specs.declared.items.Item.{Item}
use Rattle.run_script.specs.declared.items.Item.TheVariants.{Skipped, Nodes, Plays, Death, Command}

-- the directory of lost files, which it may call LOST
abbrev pub lost_dir : Fid
lost_dir = record { num = 11; seq = 1 }

-- a word names a file: a register by its number, or an identifier, of which the sequence has 16 bits; two have a name
abbrev pub IsRefText : FileRef → List ℕ → Type 0
IsRefText (Reg reg) word = word ≡ register_text reg
IsRefText (Fixed fid) word = ((word ≡ fid_text fid) × (leb fid.seq 65535 ≡ true)) ⊎ ((word ≡ codes "MFD") × (fid ≡ main_dir)) ⊎ ((word ≡ codes "LOST") × (fid ≡ lost_dir))

-- words are a command: the word of its kind, and its operands in order
abbrev pub IsCommandText : LineCmd → List (List ℕ) → Type 0
IsCommandText (line.Lookup reg dir name ver) words = (d : List ℕ) × IsRefText dir d × (words ≡ codes "LOOKUP" ∷ register_text reg ∷ d ∷ entry_text name ver ∷ [])
IsCommandText (line.List dir) words = (d : List ℕ) × IsRefText dir d × (words ≡ codes "LIST" ∷ d ∷ [])
IsCommandText (line.Stat file) words = (f : List ℕ) × IsRefText file f × (words ≡ codes "STAT" ∷ f ∷ [])
IsCommandText (line.Create reg dir name ver blocks owner) words =
    (d : List ℕ) × IsRefText dir d × (words ≡ codes "CREATE" ∷ register_text reg ∷ d ∷ entry_text name ver ∷ decimal blocks ∷ uic_text owner ∷ [])
IsCommandText (line.MkDir reg dir name owner) words = (d : List ℕ) × IsRefText dir d × (words ≡ codes "MKDIR" ∷ register_text reg ∷ d ∷ name ∷ uic_text owner ∷ [])
IsCommandText (line.Extend file blocks) words = (f : List ℕ) × IsRefText file f × (words ≡ codes "EXTEND" ∷ f ∷ decimal blocks ∷ [])
IsCommandText (line.Trunc file blocks) words = (f : List ℕ) × IsRefText file f × (words ≡ codes "TRUNC" ∷ f ∷ decimal blocks ∷ [])
IsCommandText (line.Delete dir name ver) words = (d : List ℕ) × IsRefText dir d × (words ≡ codes "DELETE" ∷ d ∷ entry_text name ver ∷ [])
IsCommandText (line.Rename dir name ver to to_ver) words = (d : List ℕ) × IsRefText dir d × (words ≡ codes "RENAME" ∷ d ∷ entry_text name ver ∷ entry_text to to_ver ∷ [])
IsCommandText (line.OpenFile chan file mode) words = (f : List ℕ) × IsRefText file f × (words ≡ codes "OPEN" ∷ decimal chan ∷ f ∷ mode_text mode ∷ [])
IsCommandText (line.CloseFile chan) words = words ≡ codes "CLOSE" ∷ decimal chan ∷ []
IsCommandText (line.ReadBlock chan vbn) words = words ≡ codes "READ" ∷ decimal chan ∷ decimal vbn ∷ []
IsCommandText (line.WriteBlock chan vbn text) words = words ≡ codes "WRITE" ∷ decimal chan ∷ decimal vbn ∷ text ∷ []
IsCommandText (line.QuotaSet owner quota over) words = words ≡ codes "QUOTASET" ∷ uic_text owner ∷ decimal quota ∷ decimal over ∷ []
IsCommandText (line.QuotaShow owner) words = words ≡ codes "QUOTASHOW" ∷ uic_text owner ∷ []

-- a node with its command, within the limits
pub record IsNodeCommand (l : Line) (words : List (List ℕ)) : Type 0 where
  pub spoken : List (List ℕ)
  pub whole : words ≡ decimal l.node ∷ spoken
  pub node : is_eighth l.node ≡ true
  pub command : IsCommandText l.cmd spoken
  pub limits : line_in_form l.cmd ≡ true

-- a word of a schedule is a node, which has one play, or a node with the number of its plays
pub record IsRunText (r : Run) (word : List ℕ) : Type 0 where
  pub node : is_eighth r.node ≡ true
  pub count : is_within 1 65536 r.count ≡ true
  pub text : ((word ≡ decimal r.node) × (r.count ≡ 1)) ⊎ (word ≡ decimal r.node ++ (codes "*" ++ decimal r.count))

abbrev pub AreRunTexts : List Run → List (List ℕ) → Type 0
AreRunTexts [] [] = Unit {0}
AreRunTexts [] (word ∷ words) = ⊥
AreRunTexts (r ∷ rs) [] = ⊥
AreRunTexts (r ∷ rs) (word ∷ words) = IsRunText r word × AreRunTexts rs words

-- words are a schedule, of one word or more
abbrev pub IsSchedule : List Run → List (List ℕ) → Type 0
IsSchedule rs words = (items : List (List ℕ)) × (words ≡ codes "SCHED" ∷ items) × (0 < length items) × AreRunTexts rs items

-- when a node is killed
abbrev pub kill_words : KillAt → List (List ℕ)
kill_words (Turn t) = codes "TURN" ∷ decimal t ∷ []
kill_words (Write k) = codes "WRITE" ∷ decimal k ∷ []

-- words are the death of a node
pub record IsDeath (k : Kill) (words : List (List ℕ)) : Type 0 where
  pub whole : words ≡ codes "KILL" ∷ decimal k.node ∷ kill_words k.at
  pub node : is_eighth k.node ≡ true
  pub count : is_within 1 1000000 (kill_count k.at) ≡ true

-- what the words of a line say
abbrev pub IsItemText : Item → List (List ℕ) → Type 0
IsItemText Skipped words = ⊥
IsItemText (Nodes n) words = (words ≡ codes "NODES" ∷ decimal n ∷ []) × (is_eighth n ≡ true)
IsItemText (Plays rs) words = IsSchedule rs words
IsItemText (Death k) words = IsDeath k words
IsItemText (Command l) words = IsNodeCommand l words

-- an empty line, or one that begins with a number sign
abbrev pub is_skipped : List ℕ → Bool
is_skipped [] = true
is_skipped (b ∷ bs) = b == 35

-- what a line says: nothing where it is skipped, and else what its words say
abbrev pub IsLineText : Item → List ℕ → Type 0
IsLineText item bytes = ((is_skipped bytes ≡ true) × (item ≡ Skipped)) ⊎ ((is_skipped bytes ≡ false) × IsItemText item (words_of bytes))
