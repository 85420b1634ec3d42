-- A soak: a script that is drawn from one number.
use Rattle.std.specs.Prelude.{◌+◌, ◌*◌, ◌/◌, ◌%◌, ◌++◌, ◌==◌, ℕ, zero, suc, List, [], map, codes, decimal, nat_lt, if◌then◌else◌}
use Rattle.std.specs.List.{range_with_len}
use Rattle.plain_cat.specs.declared.ids.Uic.{Uic}
use Rattle.plain_cat.specs.declared.script.FileRef.{FileRef}
use Rattle.plain_cat.specs.declared.script.FileRef.TheVariants.{Fixed, Reg}
use Rattle.plain_cat.specs.declared.script.LineCmd.{LineCmd}
use Rattle.plain_cat.specs.declared.script.LineCmd.TheVariants as line
use Rattle.plain_cat.specs.declared.script.Line.{Line}
use Rattle.plain_cat.specs.declared.script.Script.{Script}

-- the state that a draw leaves
unfoldable pub next_state : ℕ → ℕ
next_state x = (x * 1103515245 + 12345) % 2147483648

-- the state after k draws, which begins at n
unfoldable pub state_after : ℕ → ℕ → ℕ
state_after n zero = n
state_after n (suc k) = next_state (state_after n k)

-- the draw of this number, from 0
unfoldable pub draw : ℕ → ℕ → ℕ
draw n k = state_after n (suc k) / 65536

-- the main directory
abbrev pub main_dir : FileRef
main_dir = Fixed (record { num = 4; seq = 4 })

-- [1,4]
abbrev pub user : Uic
user = record { 0 = 65540 }

-- as F1.DAT
abbrev pub file_name : ℕ → List ℕ
file_name j = codes "F" ++ (decimal j ++ codes ".DAT")

-- the command of a kind from 0 to 7, of a register, a file name and a size; three kinds create a file
abbrev pub soak_command : ℕ → ℕ → ℕ → ℕ → LineCmd
soak_command kind reg j size =
    if nat_lt kind 3 then line.Create reg main_dir (file_name j) 0 size user
    else (if kind == 3 then line.Lookup reg main_dir (file_name j) 0
    else (if kind == 4 then line.Extend (Reg reg) (1 + size % 16)
    else (if kind == 5 then line.Trunc (Reg reg) (size % 32)
    else (if kind == 6 then line.Delete main_dir (file_name j) 0
    else line.List main_dir))))

-- command i, from 0: the four nodes give them in turn, and each takes four draws
unfoldable pub soak_line : ℕ → ℕ → Line
soak_line n i = record {
  node = 1 + i % 4;
  cmd = soak_command (draw n (4 * i) % 8) (1 + draw n (4 * i + 1) % 8) (draw n (4 * i + 2) % 16) (draw n (4 * i + 3) % 64);
}

-- the script of n
abbrev pub soak_script : ℕ → Script
soak_script n = record { nodes = 4; lines = map (soak_line n) (range_with_len 0 (16 * n)); plays = []; kills = [] }
