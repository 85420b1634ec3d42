-- How replies are written.
use Rattle.std.specs.Prelude.{◌++◌, ◌/◌, ◌%◌, ℕ, Bool, true, false, List, [], ◌∷◌, codes, decimal, length, take, sum}
use Rattle.std.specs.List.{flat_map}
use Rattle.std.specs.Fmt.{digit_glyph}
use Rattle.plain_cat.specs.declared.entries.DirEnt.{DirEnt}
use Rattle.plain_cat.specs.declared.ids.Uic.{Uic}
use Rattle.plain_cat.specs.declared.reply.Refusal.{Refusal}
use Rattle.plain_cat.specs.declared.reply.Refusal.TheVariants as refusal
use Rattle.plain_cat.specs.declared.reply.Reply.{Reply}
use Rattle.plain_cat.specs.declared.reply.Reply.TheVariants as reply
use Rattle.plain_texts.specs.Names.{fid_text, uic_text}
use Rattle.plain_cat.specs.Names.{text_of as entry_text}
use Rattle.plain_texts.specs.Commands.{then_word}

abbrev pub refusal_text : Refusal → List ℕ
refusal_text refusal.NoSuchFile = codes "NoSuchFile"
refusal_text refusal.NotDir = codes "NotDir"
refusal_text refusal.NoPriv = codes "NoPriv"
refusal_text refusal.DupFile = codes "DupFile"
refusal_text refusal.BadVersion = codes "BadVersion"
refusal_text refusal.DirFull = codes "DirFull"
refusal_text refusal.DirNotEmpty = codes "DirNotEmpty"
refusal_text refusal.FileLimit = codes "FileLimit"
refusal_text refusal.NoQuota = codes "NoQuota"
refusal_text refusal.ExQuota = codes "ExQuota"
refusal_text refusal.QuotaFull = codes "QuotaFull"
refusal_text refusal.IndexFull = codes "IndexFull"
refusal_text refusal.DeviceFull = codes "DeviceFull"
refusal_text refusal.AccConflict = codes "AccConflict"
refusal_text refusal.ChanBusy = codes "ChanBusy"
refusal_text refusal.NotOpen = codes "NotOpen"
refusal_text refusal.EndOfFile = codes "EndOfFile"

-- an entry of a listing, behind its space
abbrev pub listed_text : DirEnt → List ℕ
listed_text e = then_word (entry_text e.name e.ver) ++ then_word (fid_text e.fid)

abbrev pub kind_text : Bool → List ℕ
kind_text true = codes "directory"
kind_text false = codes "file"

abbrev pub closed_text : Bool → List ℕ
closed_text true = codes "closed and deleted"
closed_text false = codes "closed"

-- a byte in two hexadecimal digits, in small letters
abbrev pub hex_text : ℕ → List ℕ
hex_text byte = digit_glyph false (byte / 16) ∷ digit_glyph false (byte % 16) ∷ []

-- a number of blocks
abbrev pub size_text : ℕ → List ℕ
size_text blocks = decimal blocks ++ codes " blocks"

-- the high-water mark, and the end of file as block and byte
abbrev pub marks_text : ℕ → ℕ → ℕ → List ℕ
marks_text mark end byte = codes " mark " ++ (decimal mark ++ (codes " end " ++ (decimal end ++ (codes "," ++ decimal byte))))

-- the attributes of a file
abbrev pub facts_text : Bool → Uic → ℕ → ℕ → ℕ → ℕ → List ℕ
facts_text dir owner blocks mark end byte =
    kind_text dir ++ (then_word (uic_text owner) ++ (then_word (size_text blocks) ++ marks_text mark end byte))

-- a quota row
abbrev pub usage_text : ℕ → ℕ → ℕ → List ℕ
usage_text usage quota over =
    codes "usage " ++ (decimal usage ++ (codes " quota " ++ (decimal quota ++ (codes " overdraft " ++ decimal over))))

unfoldable pub reply_text : Reply → List ℕ
reply_text (reply.Found fid name ver) = fid_text fid ++ then_word (entry_text name ver)
reply_text (reply.Listed entries) = decimal (length entries) ++ (codes " entries" ++ flat_map listed_text entries)
reply_text (reply.Facts dir owner blocks mark end byte) = facts_text dir owner blocks mark end byte
reply_text (reply.Size blocks) = size_text blocks
reply_text reply.Deleted = codes "deleted"
reply_text reply.Marked = codes "marked"
reply_text reply.EntryRemoved = codes "entry removed"
reply_text (reply.Renamed name ver) = entry_text name ver
reply_text reply.Opened = codes "open"
reply_text (reply.Closed gone) = closed_text gone
reply_text (reply.Bytes block) = flat_map hex_text (take 16 block) ++ (codes " sum " ++ decimal (sum block))
reply_text reply.Written = codes "written"
reply_text reply.QuotaKept = codes "set"
reply_text (reply.Usage usage quota over) = usage_text usage quota over
reply_text (reply.Refused why) = codes "refused " ++ refusal_text why
