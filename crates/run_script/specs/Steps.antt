-- What each of the small readers answers, as a value of what it is given. That they read the grammar is proved of these values.
use Rattle.std.specs.Prelude.{◌≡◌, ◌==◌, ◌&&◌, ◌||◌, ◌+◌, ◌*◌, not, ℕ, Bool, false, List, [], ◌∷◌, Option, Some, None, Result, Ok, Err, codes, option_and_then, length, leb, drop, if◌then◌else◌, get_or}
use Rattle.std.specs.Fmt.{digits}
use Rattle.std.specs.Str.{bytes_eq}
use Rattle.std.specs.Str.Parse.{digits_value}
use Rattle.base_words.specs.Names.{is_name}
use Rattle.plain_cat.specs.declared.ids.Fid.{Fid}
use Rattle.plain_cat.specs.declared.ids.Uic.{Uic}
use Rattle.plain_cat.specs.declared.mode.Mode.{Mode}
use Rattle.plain_cat.specs.declared.mode.Mode.TheVariants.{CR, CW, PR, PW, EX}
use Rattle.plain_cat.specs.declared.script.FileRef.{FileRef}
use Rattle.plain_cat.specs.declared.script.FileRef.TheVariants.{Fixed, Reg}
use Rattle.plain_cat.specs.declared.script.LineCmd.{LineCmd}
use Rattle.plain_cat.specs.declared.script.LineCmd.TheVariants as line
use Rattle.plain_cat.specs.declared.script.KillAt.{KillAt}
use Rattle.plain_cat.specs.declared.script.KillAt.TheVariants.{Turn, Write}
use Rattle.plain_cat.specs.declared.script.Kill.{Kill}
use Rattle.plain_cat.specs.declared.script.Line.{Line}
use Rattle.plain_cat.specs.declared.script.Script.{Script}
use Rattle.plain_cat.specs.InForm.{is_within, is_dir_name, is_text}
use Rattle.run_script.specs.Lines.{parts, words_of}
use Rattle.run_script.specs.Grammar.{lost_dir, is_skipped}
use Rattle.plain_cat.specs.Names.{main_dir}
use Rattle.run_script.specs.Spelling.{may_stand, has_room, with_item}
use Rattle.run_script.specs.declared.fault.LineFault.{LineFault}
use Rattle.run_script.specs.declared.fault.LineFault.TheVariants as line_fault
use Rattle.run_script.specs.declared.fault.ScriptFault.{ScriptFault}
use Rattle.run_script.specs.declared.fault.ScriptFault.TheVariants as script_fault
use Rattle.run_script.specs.declared.kinds.Kind.{Kind}
use Rattle.run_script.specs.declared.kinds.Kind.TheVariants as kind
use Rattle.run_script.specs.declared.operands.EntryText.{EntryText}
use Rattle.run_script.specs.declared.items.Run.{Run}
use Rattle.run_script.specs.declared.items.Item.{Item}
use Rattle.run_script.specs.declared.items.Item.TheVariants.{Skipped, Nodes, Plays, Death, Command}

-- a call answers this value, or that there is none; where memory ran out it says nothing
abbrev pub Gives : {A : Type 0} → Option A → Result A LineFault → Type 0
Gives given (Ok v) = given ≡ Some v
Gives given (Err line_fault.Bad) = given ≡ None
Gives given (Err line_fault.TooMany) = ⊥
Gives given (Err line_fault.NoMemory) = Unit {0}

-- a value that is made of one value, of two, and so on, where each is there
abbrev pub with1 : {A B : Type 0} → Option A → (A → B) → Option B
with1 None f = None
with1 (Some a) f = Some (f a)

abbrev pub with2 : {A B C : Type 0} → Option A → Option B → (A → B → C) → Option C
with2 None ob f = None
with2 (Some a) ob f = with1 ob (f a)

abbrev pub with3 : {A B C D : Type 0} → Option A → Option B → Option C → (A → B → C → D) → Option D
with3 None ob oc f = None
with3 (Some a) ob oc f = with2 ob oc (f a)

abbrev pub with4 : {A B C D E : Type 0} → Option A → Option B → Option C → Option D → (A → B → C → D → E) → Option E
with4 None ob oc od f = None
with4 (Some a) ob oc od f = with3 ob oc od (f a)

abbrev pub with5 : {A B C D E F : Type 0} → Option A → Option B → Option C → Option D → Option E → (A → B → C → D → E → F) → Option F
with5 None ob oc od oe f = None
with5 (Some a) ob oc od oe f = with4 ob oc od oe (f a)

-- the part with this number, counted from 0
abbrev pub part_of : ℕ → ℕ → List ℕ → List ℕ
part_of byte n text = get_or (parts byte text) n []

-- digits begin with a sign, or with a zero that another digit follows
abbrev pub has_odd_start : List ℕ → Bool
has_odd_start [] = false
has_odd_start (b ∷ bs) = b == 43 || (b == 48 && not (length bs == 0))

-- a number of a base, within these limits, which a word spells: it writes as the word again
unfoldable pub number_of : ℕ → ℕ → ℕ → List ℕ → Option ℕ
number_of base low high word =
    if is_within low high (digits_value base word) && bytes_eq word (digits base false (digits_value base word)) then Some (digits_value base word) else None

-- what stands behind this byte
abbrev pub behind : ℕ → List ℕ → Option (List ℕ)
behind byte [] = None
behind byte (b ∷ bs) = if b == byte then Some bs else None

-- what stands in front of a closing bracket at the end
unfoldable pub closed_of : List ℕ → Option (List ℕ)
closed_of text = if length (parts 93 text) == 2 && length (part_of 93 1 text) == 0 then Some (part_of 93 0 text) else None

-- the number of a register
unfoldable pub register_of : List ℕ → Option ℕ
register_of word = option_and_then (number_of 10 1 8) (behind 82 word)

-- a file identifier
unfoldable pub fid_of : List ℕ → Option Fid
fid_of word = if length (parts 44 word) == 3 && bytes_eq (part_of 44 2 word) (codes "0)")
    then with2 (option_and_then (number_of 10 0 16777215) (behind 40 (part_of 44 0 word))) (number_of 10 0 65535 (part_of 44 1 word)) (λ num seq. record { num = num; seq = seq })
    else None

-- a register by its digits, or an identifier
abbrev pub named_ref : Option (List ℕ) → List ℕ → Option FileRef
named_ref (Some text) word = with1 (number_of 10 1 8 text) Reg
named_ref None word = with1 (fid_of word) Fixed

-- a directory or a file
unfoldable pub ref_of : List ℕ → Option FileRef
ref_of word =
    if bytes_eq word (codes "MFD") then Some (Fixed main_dir) else (if bytes_eq word (codes "LOST") then Some (Fixed lost_dir) else named_ref (behind 82 word) word)

-- a name with its version
unfoldable pub entry_of : List ℕ → Option EntryText
entry_of word =
    if length (parts 59 word) == 2 && is_name (part_of 59 0 word) then with1 (number_of 10 0 32767 (part_of 59 1 word)) (λ ver. record { name = part_of 59 0 word; ver = ver }) else None

-- an owner
unfoldable pub owner_of : List ℕ → Option Uic
owner_of word = if length (parts 44 word) == 2
    then with2 (option_and_then (number_of 8 0 16383) (behind 91 (part_of 44 0 word))) (option_and_then (number_of 8 0 65535) (closed_of (part_of 44 1 word)))
    (λ group member. record { 0 = group * 65536 + member })
    else None

-- a mode in which a file is opened
unfoldable pub mode_of : List ℕ → Option Mode
mode_of word = if bytes_eq word (codes "CR") then Some CR else (if bytes_eq word (codes "CW") then Some CW else
    (if bytes_eq word (codes "PR") then Some PR else (if bytes_eq word (codes "PW") then Some PW else (if bytes_eq word (codes "EX") then Some EX else None))))

-- the name of a new directory
unfoldable pub dir_name_of : List ℕ → Option (List ℕ)
dir_name_of word = if is_dir_name word then Some word else None

-- what a block is written with
unfoldable pub text_of : List ℕ → Option (List ℕ)
text_of word = if is_text word then Some word else None

-- a number of blocks, from 0, or of a block; a channel; a quota
abbrev pub count_of : List ℕ → Option ℕ
count_of word = number_of 10 0 65536 word

abbrev pub channel_of : List ℕ → Option ℕ
channel_of word = number_of 10 1 8 word

abbrev pub quota_of : List ℕ → Option ℕ
quota_of word = number_of 10 0 4294967295 word

-- an operand of a line's command, counted from 0: they stand behind the node and the command's word
abbrev pub operand : List (List ℕ) → ℕ → List ℕ
operand words n = get_or words (n + 2) []

-- how many operands a kind has
abbrev pub arity : Kind → ℕ
arity kind.Lookup = 3
arity kind.List = 1
arity kind.Stat = 1
arity kind.Create = 5
arity kind.MkDir = 4
arity kind.Extend = 2
arity kind.Trunc = 2
arity kind.Delete = 2
arity kind.Rename = 3
arity kind.OpenFile = 3
arity kind.CloseFile = 1
arity kind.ReadBlock = 2
arity kind.WriteBlock = 3
arity kind.QuotaSet = 3
arity kind.QuotaShow = 1

-- the command of this kind with these operands
unfoldable pub command_of : Kind → List (List ℕ) → Option LineCmd
command_of kind.Lookup ws = with3 (register_of (operand ws 0)) (ref_of (operand ws 1)) (entry_of (operand ws 2)) (λ reg dir entry. line.Lookup reg dir entry.name entry.ver)
command_of kind.List ws = with1 (ref_of (operand ws 0)) line.List
command_of kind.Stat ws = with1 (ref_of (operand ws 0)) line.Stat
command_of kind.Create ws = with5 (register_of (operand ws 0)) (ref_of (operand ws 1)) (entry_of (operand ws 2)) (count_of (operand ws 3)) (owner_of (operand ws 4))
    (λ reg dir entry blocks owner. line.Create reg dir entry.name entry.ver blocks owner)
command_of kind.MkDir ws = with4 (register_of (operand ws 0)) (ref_of (operand ws 1)) (dir_name_of (operand ws 2)) (owner_of (operand ws 3)) line.MkDir
command_of kind.Extend ws = with2 (ref_of (operand ws 0)) (number_of 10 1 65536 (operand ws 1)) line.Extend
command_of kind.Trunc ws = with2 (ref_of (operand ws 0)) (count_of (operand ws 1)) line.Trunc
command_of kind.Delete ws = with2 (ref_of (operand ws 0)) (entry_of (operand ws 1)) (λ dir entry. line.Delete dir entry.name entry.ver)
command_of kind.Rename ws = with3 (ref_of (operand ws 0)) (entry_of (operand ws 1)) (entry_of (operand ws 2)) (λ dir entry to. line.Rename dir entry.name entry.ver to.name to.ver)
command_of kind.OpenFile ws = with3 (channel_of (operand ws 0)) (ref_of (operand ws 1)) (mode_of (operand ws 2)) line.OpenFile
command_of kind.CloseFile ws = with1 (channel_of (operand ws 0)) line.CloseFile
command_of kind.ReadBlock ws = with2 (channel_of (operand ws 0)) (count_of (operand ws 1)) line.ReadBlock
command_of kind.WriteBlock ws = with3 (channel_of (operand ws 0)) (count_of (operand ws 1)) (text_of (operand ws 2)) line.WriteBlock
command_of kind.QuotaSet ws = with3 (owner_of (operand ws 0)) (quota_of (operand ws 1)) (quota_of (operand ws 2)) line.QuotaSet
command_of kind.QuotaShow ws = with1 (owner_of (operand ws 0)) line.QuotaShow

-- the kind that a word names: of those on open files and quotas, and of all
unfoldable pub open_kind : List ℕ → Option Kind
open_kind w = if bytes_eq w (codes "OPEN") then Some kind.OpenFile else (if bytes_eq w (codes "CLOSE") then Some kind.CloseFile else (
    if bytes_eq w (codes "READ") then Some kind.ReadBlock else (if bytes_eq w (codes "WRITE") then Some kind.WriteBlock else (
    if bytes_eq w (codes "QUOTASET") then Some kind.QuotaSet else (if bytes_eq w (codes "QUOTASHOW") then Some kind.QuotaShow else (
    None))))))

unfoldable pub named_kind : List ℕ → Option Kind
named_kind w = if bytes_eq w (codes "LOOKUP") then Some kind.Lookup else (if bytes_eq w (codes "LIST") then Some kind.List else (
    if bytes_eq w (codes "STAT") then Some kind.Stat else (if bytes_eq w (codes "CREATE") then Some kind.Create else (
    if bytes_eq w (codes "MKDIR") then Some kind.MkDir else (if bytes_eq w (codes "EXTEND") then Some kind.Extend else (
    if bytes_eq w (codes "TRUNC") then Some kind.Trunc else (if bytes_eq w (codes "DELETE") then Some kind.Delete else (
    if bytes_eq w (codes "RENAME") then Some kind.Rename else (open_kind w)))))))))

-- the command of a node, where its kind has as many operands
abbrev pub node_command : List (List ℕ) → Option Kind → Option Line
node_command ws None = None
node_command ws (Some k) = if length ws == arity k + 2 then with2 (channel_of (get_or ws 0 [])) (command_of k ws) (λ node cmd. record { node = node; cmd = cmd }) else None

unfoldable pub line_of : List (List ℕ) → Option Line
line_of ws = node_command ws (named_kind (get_or ws 1 []))

-- a word of a schedule
unfoldable pub run_of : List ℕ → Option Run
run_of word = if length (parts 42 word) == 1 then with1 (number_of 10 1 8 word) (λ node. record { node = node; count = 1 }) else
    (if length (parts 42 word) == 2 then with2 (number_of 10 1 8 (part_of 42 0 word)) (number_of 10 1 65536 (part_of 42 1 word)) (λ node count. record { node = node; count = count })
    else None)

abbrev pub runs_of : List (List ℕ) → Option (List Run)
runs_of [] = Some []
runs_of (w ∷ ws) = with2 (run_of w) (runs_of ws) (λ r rs. r ∷ rs)

-- when a node is killed
unfoldable pub moment_of : List ℕ → List ℕ → Option KillAt
moment_of word digits = if bytes_eq word (codes "TURN") then with1 (number_of 10 1 1000000 digits) Turn else
    (if bytes_eq word (codes "WRITE") then with1 (number_of 10 1 1000000 digits) Write else None)

unfoldable pub death_of : List (List ℕ) → Option Kill
death_of ws = if length ws == 4
    then with2 (number_of 10 1 8 (get_or ws 1 [])) (moment_of (get_or ws 2 []) (get_or ws 3 [])) (λ node at. record { node = node; at = at }) else None

unfoldable pub nodes_of : List (List ℕ) → Option ℕ
nodes_of ws = if length ws == 2 then number_of 10 1 8 (get_or ws 1 []) else None

unfoldable pub schedule_of : List (List ℕ) → Option (List Run)
schedule_of ws = if leb 2 (length ws) then runs_of (drop 1 ws) else None

-- what words say
unfoldable pub said_of : List (List ℕ) → Option Item
said_of ws = if bytes_eq (get_or ws 0 []) (codes "NODES") then with1 (nodes_of ws) Nodes else
    (if bytes_eq (get_or ws 0 []) (codes "SCHED") then with1 (schedule_of ws) Plays else
    (if bytes_eq (get_or ws 0 []) (codes "KILL") then with1 (death_of ws) Death else with1 (line_of ws) Command))

-- what a line says
unfoldable pub item_of : List ℕ → Option Item
item_of bytes = if is_skipped bytes then Some Skipped else said_of (words_of bytes)

-- what lines spell with one more, or why not
abbrev pub next_of : Option Script → Item → Result (Option Script) LineFault
next_of state item = if may_stand state item then (if has_room state item then Ok (with_item state item) else Err line_fault.TooMany) else Err line_fault.Bad

abbrev pub taken : Option Script → Option Item → Result (Option Script) LineFault
taken state None = Err line_fault.Bad
taken state (Some item) = next_of state item

unfoldable pub step_of : Option Script → List ℕ → Result (Option Script) LineFault
step_of state bytes = taken state (item_of bytes)

-- a call answers this, unless memory ran out
abbrev pub Answers : {A : Type 0} → Result A LineFault → Result A LineFault → Type 0
Answers given (Ok v) = given ≡ Ok v
Answers given (Err line_fault.Bad) = given ≡ Err line_fault.Bad
Answers given (Err line_fault.TooMany) = given ≡ Err line_fault.TooMany
Answers given (Err line_fault.NoMemory) = Unit {0}

-- how lines end, of which the first has this number
abbrev pub at_end : Option Script → ℕ → Result Script ScriptFault
at_end None number = Err (script_fault.BadLine number)
at_end (Some s) number = Ok s

abbrev pub read_on : Result (Option Script) LineFault → ℕ → (Option Script → Result Script ScriptFault) → Result Script ScriptFault
read_on (Ok state) number rest = rest state
read_on (Err line_fault.Bad) number rest = Err (script_fault.BadLine number)
read_on (Err line_fault.TooMany) number rest = Err script_fault.TooMany
read_on (Err line_fault.NoMemory) number rest = Err script_fault.NoMemory

-- what lines spell behind lines that spell this, or the first fault; the first of them has this number
abbrev pub read_from : Option Script → ℕ → List (List ℕ) → Result Script ScriptFault
read_from state number [] = at_end state number
read_from state number (l ∷ ls) = read_on (step_of state l) number (λ next. read_from next (number + 1) ls)

-- a script is read as this says, unless memory ran out
abbrev pub Reads : Result Script ScriptFault → Result Script ScriptFault → Type 0
Reads given (Ok s) = given ≡ Ok s
Reads given (Err (script_fault.BadLine n)) = given ≡ Err (script_fault.BadLine n)
Reads given (Err script_fault.TooMany) = given ≡ Err script_fault.TooMany
Reads given (Err script_fault.NoMemory) = Unit {0}

-- a script as what lines spell
abbrev pub with_some : Result Script LineFault → Result (Option Script) LineFault
with_some (Ok s) = Ok (Some s)
with_some (Err fault) = Err fault
