-- Lines of CCWs.
use Rattle.std.specs.Prelude.{ℕ, zero, suc, ◌+◌, ◌-◌, ◌*◌, Bool, ◌&&◌, List, [], ◌++◌, eqb, ltb, leb, length, get_or, take, drop}
use Rattle.base.specs.Choice.{pick, opt}
use Rattle.text.specs.Text.{ascii, number, bytes_text}
use Rattle.words.specs.Each.{each}
use Rattle.channel.specs.declared.Ccw.{Ccw}
use Rattle.channel.specs.Ccw.{fetch_in}
use Rattle.explain_names.specs.Names.{command_name, flags_text}

-- the area's name, the CCW's address, its command's code
unfoldable pub head_text : List ℕ → ℕ → ℕ → List ℕ
head_text label place command = label ++ number 16 4 place ++ ascii ":" ++ number 16 2 command ++ ascii " "

-- address, count, and the flags that are on
unfoldable pub operand_text : Ccw → List ℕ
operand_text c = ascii ", address" ++ number 16 6 c.address ++ ascii ", count" ++ number 16 4 c.count ++ flags_text c.flags

-- "restart arguments, 16 bytes at 2000": whether all bytes that a CCW names lie there
unfoldable pub names_argument : List ℕ → Ccw → Bool
names_argument restart_arguments c =
    leb 0x2000 c.address && ltb (c.address - 0x2000) (length restart_arguments) && leb (c.address - 0x2000 + c.count) (length restart_arguments)

-- those bytes, or nothing where they lie elsewhere; the area is empty where a chain is listed
unfoldable pub argument_text : List ℕ → Ccw → List ℕ
argument_text restart_arguments c =
    pick (names_argument restart_arguments c) (ascii ", argument " ++ bytes_text (take c.count (drop (c.address - 0x2000) restart_arguments))) []

-- a CCW's line: area, address and code, the command in words, its operands, its argument in a restart program
unfoldable pub ccw_line : List ℕ → ℕ → List ℕ → Ccw → List ℕ
ccw_line label place restart_arguments c = head_text label place c.command ++ command_name c ++ operand_text c ++ argument_text restart_arguments c ++ ascii "\n"

-- the line of the CCW with number i of an area that begins at an address, if it has one
unfoldable pub slot_line : List ℕ → ℕ → (area restart_arguments : List ℕ) → ℕ → List ℕ
slot_line label origin s restart_arguments i = opt (fetch_in s (i * 8)) [] (λ c. ccw_line label (origin + i * 8) restart_arguments c)

-- the lines of the first n
unfoldable pub ccw_lines : List ℕ → ℕ → (area restart_arguments : List ℕ) → ℕ → List ℕ
ccw_lines label origin s restart_arguments n = each n 0 (slot_line label origin s restart_arguments)

-- How many CCWs of a restart program are used: "unused bytes 0", and no command of one is 00. At most n behind the first i are looked at.
unfoldable pub used_from : ℕ → List ℕ → ℕ → ℕ
used_from zero p i = i
used_from (suc n) p i = pick (eqb (get_or p (i * 8) 0) 0) i (used_from n p (i + 1))

-- a restart program has room for eight
unfoldable pub used_in : List ℕ → ℕ
used_in p = used_from 8 p 0
